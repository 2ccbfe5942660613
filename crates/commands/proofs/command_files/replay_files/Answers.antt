use Rattle.std.proofs.Common.{◌≡◌, List, ℕ, Option, Vec, Global, subst}
use Rattle.rt_edge.specs.Contents.{Names}
use Rattle.rt_plain.specs.runs.Commands.{Command}
use Rattle.commands.specs.Asked.{HasFailed}
use Rattle.commands.specs.Boards.{IsBuiltFile, IsUnlikeOf}
use Rattle.commands.specs.Held.{IfHeld}
use Rattle.commands.proofs.CommandLemmas.{long-failed, unlike-failed, refused, told-none, told-some}
use Rattle.commands.proofs.command_files.replay_files.Goals as goal

pub returns-in-None-clause-failed : goal.returns-in-None-clause-failed
returns-in-None-clause-failed g c =
    let held = g.F.Files.held c.args.files.now in
    let whole = subst (λ (h : Option Names). IfHeld h c.args.file.now (λ (there : List ℕ). there ≡ c.in_ok-bytes.bytes.items)) c.in_ok-told.ensures.held c.in_ok-bytes.ensures.whole in
    let built = subst (λ (x : List ℕ). IsBuiltFile x c.in_ok-board.board) c.deref.ensures.value c.in_ok-board.ensures.board in
    long-failed held c.args.trace.now c.args.file.now (g.F.Files.missing c.args.files.now) 0 (g.F.Files.missing c.read_board.new.files) (g.F.Files.faults c.args.files.now) 0 (g.F.Files.faults c.read_board.new.files) c.in_ok-bytes.bytes.items c.in_ok-board.board
    (told-none held c.args.trace.now (λ (v : Vec ℕ Global). v.items) c.in_ok-told.told c.in_ok-told.ensures.whole c.in-None.is) whole built

pub returns-in_err-check_trace-clause-failed : goal.returns-in_err-check_trace-clause-failed
returns-in_err-check_trace-clause-failed g c =
    let held = g.F.Files.held c.args.files.now in
    let whole = subst (λ (h : Option Names). IfHeld h c.args.file.now (λ (there : List ℕ). there ≡ c.in_ok-bytes.bytes.items)) c.in_ok-told.ensures.held c.in_ok-bytes.ensures.whole in
    let built = subst (λ (x : List ℕ). IsBuiltFile x c.in_ok-board.board) c.deref.ensures.value c.in_ok-board.ensures.board in
    let unlike = subst (λ (x : List ℕ). IsUnlikeOf c.in_ok-board.board x c.in_err-check_trace.field-0.0) c.deref-2.ensures.value c.in_err-check_trace.ensures.cause in
    refused
    (HasFailed (Command.Replay c.args.trace.now c.args.file.now) held (g.F.Files.missing c.args.files.now) (g.F.Files.missing c.read_board.new.files) (g.F.Files.faults c.args.files.now) (g.F.Files.faults c.read_board.new.files))
    c.from_residual-in_err-check_trace.result c.in_err-check_trace.field-0.0 c.from_residual-in_err-check_trace.ensures
    (unlike-failed held c.args.trace.now c.args.file.now (g.F.Files.missing c.args.files.now) 0 (g.F.Files.missing c.read_board.new.files) (g.F.Files.faults c.args.files.now) 0 (g.F.Files.faults c.read_board.new.files) c.in-Some.text.items c.in_ok-bytes.bytes.items c.in_ok-board.board c.in_err-check_trace.field-0.0
    (told-some held c.args.trace.now (λ (v : Vec ℕ Global). v.items) c.in_ok-told.told c.in-Some.text c.in_ok-told.ensures.whole c.in-Some.is) whole built unlike)
