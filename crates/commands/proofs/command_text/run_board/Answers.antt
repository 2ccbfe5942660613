use Rattle.std.proofs.Common.{Err, IsSome, List, Result, ◌≡◌, ◌∙◌, ℕ, Bool, true, false, refl, sym, subst}
use Rattle.rt_plain.specs.PlainBoard.{PlainBoard}
use Rattle.rt_plain.specs.runs.Ends.{run_of}
use Rattle.rt_plain.specs.runs.Runs.{Course, is_over}
use Rattle.kernel_step.specs.Built.{is_built}
use Rattle.core_runner.specs.Limits.{HasCompleted, MeetsLimit}
use Rattle.core_runner.specs.declared.fault.RunFault.{RunFault}
use Rattle.commands.specs.Boards.{IsBoardFile, HasRun}
use Rattle.commands.proofs.command_text.run_board.Goals as goal

-- what isn't false is true
not_false : (c : Bool) → (c ≡ false → ⊥) → c ≡ true
not_false true never = refl
not_false false never = absurd (never refl)

-- a limit isn't the answer of a board that isn't built
another : (entries lines : ℕ) → RunFault.Limit entries lines ≡ RunFault.Later → ⊥
another entries lines same = cc

told : {T : Type 0} {one other : RunFault} → ◌≡◌ {A = Result T RunFault} (Err one) (Err other) → one ≡ other
told same = cc

pub returns-in-Err-Limit-clause-cause : goal.returns-in-Err-Limit-clause-cause
returns-in-Err-Limit-clause-cause c = record {
  board = c.in_ok-board.board;
  file = record {
    file = c.in_ok-board.ensures.board;
    built = not_false _ (λ is. another c.in-Err-Limit.entries c.in-Err-Limit.lines (sym c.in-Err-Limit.field-0-is ∙ told (c.in-Err-Limit.ensures.later.1 is)));
  };
  limited = subst (MeetsLimit (is_over c.in_ok-board.board) c.in_ok-board.board) c.in-Err-Limit.field-0-is c.in-Err-Limit.ensures.limit;
}

-- the run of a board that was read, told of the machine's board
has_run : (bytes : List ℕ) (b seen : PlainBoard) (c : Course) → seen ≡ b → IsBoardFile bytes b → is_built b ≡ true → c ≡ run_of b → IsSome c.halt → HasCompleted (is_over b) b c → HasRun bytes seen c
has_run bytes b seen c same file built run halted complete = subst (λ (d : PlainBoard). HasRun bytes d c) (sym same) (record { file = record { file = file; built = built }; run = run; halted = halted; complete = complete })

pub returns-in-Ok-clause-run : goal.returns-in-Ok-clause-run
returns-in-Ok-clause-run c =
    let h = c.in-Ok.ensures in
    has_run c.args.bytes.now c.in_ok-board.board c.in-Ok.machine.board c.in-Ok.machine.course h.board c.in_ok-board.ensures.board h.built h.run h.halted h.complete
