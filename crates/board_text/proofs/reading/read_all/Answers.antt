use Rattle.std.proofs.lemmas.Bool.{ne_eqb}
use Rattle.std.proofs.Common.{◌≡◌, ◌+◌, ◌-◌, ◌<◌, false, eqb, rules, length, take, drop, Ok, arith, sym, ap, ◌∙◌, List, ℕ, length-drop}
use Rattle.rt_plain.specs.PlainBoard.{PlainBoard}
use Rattle.rt_plain.specs.text.Splits.{lines_of}
use Rattle.rt_plain.specs.text.BoardText.{outcome}
use Rattle.board_text.specs.Drafts.{so_far}
use Rattle.board_text.proofs.StepLemmas.{next_is, finished_is, finished_is_valid}
use Rattle.board_text.proofs.reading.read_all.Goals as goal

pub loop-rest-preserved : goal.loop-rest-preserved
loop-rest-preserved c =
    let end = c.line_end-end.result in
    let rest = c.loop-rest.rest.now in
    let n = next_is (so_far c.loop-rest.draft) (so_far c.step.new.draft) c.loop-rest.no (take end rest) (lines_of (drop (end + 1) rest)) c.loop-rest.invariant.sound c.in-Ok.ensures.ok in
    record {
      sound = n.0;
      count = (let shorter : length c.after_line-rest.result.now ≡ length rest - (end + 1) = ap length c.after_line-rest.ensures ∙ length-drop (end + 1) rest in
          let some : 0 < length rest = search (rules, c.loop-rest-test.ensures) in omega arith);
      so_far = ap (λ (r : List ℕ). outcome (so_far c.step.new.draft) (c.loop-rest.no + 1) (lines_of r)) c.after_line-rest.ensures ∙ n.1 ∙ ap (outcome (so_far c.loop-rest.draft) c.loop-rest.no) (sym c.line_end-end.ensures.line) ∙ c.loop-rest.invariant.so_far;
    }

pub finish-requires : goal.finish-requires
finish-requires c =
    let s = so_far c.loop-rest.draft in
    let none : length c.loop-rest.rest.now ≡ 0 = search (rules, c.loop-rest-test.ensures) in
    let first : eqb s.rank 0 ≡ false = ne_eqb s.rank 0 c.if-draft-eq0.false in
    finished_is_valid c.args.text.now s.board (finished_is c.args.text.now c.loop-rest.rest.now s c.loop-rest.no none c.loop-rest.invariant.so_far first)

pub returns : goal.returns
returns c =
    let s = so_far c.loop-rest.draft in
    let none : length c.loop-rest.rest.now ≡ 0 = search (rules, c.loop-rest-test.ensures) in
    let first : eqb s.rank 0 ≡ false = ne_eqb s.rank 0 c.if-draft-eq0.false in
    finished_is c.args.text.now c.loop-rest.rest.now s c.loop-rest.no none c.loop-rest.invariant.so_far first
    ∙ ap (λ (b : PlainBoard). Ok b) (sym c.finish.ensures)
