use Rattle.std.proofs.Common.{◌≡◌, ◌∙◌, ℕ, ◌+◌, ◌≤◌, List, [], false, sym, subst, arith}
use Rattle.std.proofs.lemmas.List.{take_rest}
use Rattle.rt_plain.specs.PlainBoard.{PlainBoard}
use Rattle.rt_plain.specs.runs.Runs.{is_over}
use Rattle.core_runner.specs.declared.trace_reader.Next.{Next}
use Rattle.core_runner.specs.Replays.{TellsLine}
use Rattle.core_runner.proofs.PartLemmas.{on-ok_more, if-err_more}
use Rattle.core_runner.proofs.ReplayLemmas.{IsOnTrace, told-by, goes-on_line, ends-line, more-behind}
use Rattle.core_runner.proofs.replays.read_trace.Goals as goal

pub returns-in-End-clause-good : goal.returns-in-End-clause-good
returns-in-End-clause-good g c =
    let b = c.args.reader.now.machine.board in
    let way = c.loop-end.invariant.way in
    let rest = c.loop-end.rest.now in
    let f = told-by b c.loop-end.reader.machine.board c.args.trace.now rest c.loop-end.reader c.loop-end.no c.in-Some.end c.in_ok-next.next Next.End c.read_line.new.self way c.loop-end.invariant.board c.in-End.is c.in_ok-next.ensures.read in
    on-ok_more c.ended.result _ _ (λ last. ends-line b c.args.trace.now rest c.loop-end.reader c.loop-end.no c.in-Some.end way c.in-Some.ensures c.read_line.new.self f (sym (take_rest rest (c.in-Some.end + 1)) ∙ last)) c.ended.ensures.ok

pub returns-in-End-clause-line : goal.returns-in-End-clause-line
returns-in-End-clause-line g c =
    let b = c.args.reader.now.machine.board in
    let way = c.loop-end.invariant.way in
    let rest = c.loop-end.rest.now in
    let f = told-by b c.loop-end.reader.machine.board c.args.trace.now rest c.loop-end.reader c.loop-end.no c.in-Some.end c.in_ok-next.next Next.End c.read_line.new.self way c.loop-end.invariant.board c.in-End.is c.in_ok-next.ensures.read in
    let few : b.cores ≤ 8 = subst (λ (x : PlainBoard). x.cores ≤ 8) c.board.ensures c.know_board.ensures.cores in
    let wide : b.cores ≤ 256 = omega (arith, few) in
    let starts : is_over b [] ≡ false = subst (λ (x : PlainBoard). is_over x [] ≡ false) c.board.ensures c.know_board.ensures.begins in
    if-err_more c.ended.result _ _ (λ fault h. subst (TellsLine b c.args.trace.now) (sym h.0)
    (more-behind b c.args.trace.now rest c.loop-end.reader c.loop-end.no c.in-Some.end way c.in-Some.ensures c.read_line.new.self f (λ none. h.1 (take_rest rest (c.in-Some.end + 1) ∙ none))
    (c.one_pass_finds_the_agreement.ensures b c.args.trace.now wide starts) (c.one_pass_tells_good_traces.ensures.ended b c.args.trace.now wide))) c.ended.ensures.err

pub loop-end-preserved : goal.loop-end-preserved
loop-end-preserved g c =
    let b = c.args.reader.now.machine.board in
    let way = c.loop-end.invariant.way in
    let rest = c.loop-end.rest.now in
    let f = told-by b c.loop-end.reader.machine.board c.args.trace.now rest c.loop-end.reader c.loop-end.no c.in-Some.end c.in_ok-next.next Next.On c.read_line.new.self way c.loop-end.invariant.board c.in-On.is c.in_ok-next.ensures.read in
    record {
      board = c.in_ok-next.ensures.board ∙ c.loop-end.invariant.board;
      way = subst (λ (x : List ℕ). IsOnTrace b c.args.trace.now x c.read_line.new.self (c.loop-end.no + 1)) (sym (take_rest rest (c.in-Some.end + 1)))
          (goes-on_line b c.args.trace.now rest c.loop-end.reader c.loop-end.no c.in-Some.end way c.in-Some.ensures c.read_line.new.self f);
    }
