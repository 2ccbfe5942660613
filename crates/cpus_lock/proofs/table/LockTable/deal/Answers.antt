use Rattle.std.proofs.Common.{rules, ◌≡◌, ◌+◌, List, [], ◌∷◌, map, reverse, ap, sym, ◌∙◌, arith}
use Rattle.std.specs.Prelude.{vec_len}
use Rattle.std.specs.List.{range_with_len}
use Rattle.std.proofs.lemmas.List.Elements.{All-cons, All-same}
use Rattle.cpus_lock.specs.Passes.{LockPass, first_pass}
use Rattle.cpus_lock.specs.Rule.{newcomer}
use Rattle.cpus_lock.specs.Seats.{lock_of, pass_of}
use Rattle.cpus_lock.proofs.Gathered.{one_more, whole_row}
use Rattle.cpus_lock.proofs.table.LockTable.deal.Goals as goal

pub loop-core-preserved : goal.loop-core-preserved
loop-core-preserved g c =
    let table = c.args.seat.table_id in
    let lock = lock_of table c.args.self.now.cores in
    let root = c.args.seat.me.0.root in
    let log = c.args.seat.me.0.log in
    let kept = c.loop-core.invariant in
    let row = c.loop-core.row in
    let pass = c.of_seat.result in
    let made = c.split-next.ensures.made in
    let items : c.insert.new.self.items ≡ pass ∷ row.items = search rules in
    let count : vec_len c.insert.new.self ≡ vec_len row + 1 = search rules in
    let me_is = made.1 ∙ ap (λ m. (newcomer m.0, [])) kept.3 in
    let pass_is : pass ≡ first_pass lock root log c.loop-core.core =
    c.of_seat.ensures ∙ (ap (λ t. pass_of t c.split-next.result.me.0) (made.0 ∙ kept.2) ∙ ap (λ m. pass_of table m.0) me_is) in
    let numbered : pass ≡ first_pass lock root log (vec_len row + 1) = pass_is ∙ ap (λ k. first_pass lock root log k) (sym kept.0) in
    let turned = one_more lock root log (vec_len row) pass row.items numbered kept.5 in
    let P : LockPass → Type 0 = λ p. p.lock.table ≡ table in (
      omega (arith, count, kept.0),
      search rules,
      search rules,
      search rules,
      All-same P c.insert.new.self.items (pass ∷ row.items) items (All-cons P pass row.items (ap (λ (p : LockPass). p.lock.table) pass_is) kept.4),
      ap (λ (xs : List LockPass). reverse xs) items ∙ (turned ∙ ap (λ k. map (first_pass lock root log) (range_with_len 1 k)) (sym count)),
    )

pub returns-clause-passes : goal.returns-clause-passes
returns-clause-passes g c =
    let table = c.args.seat.table_id in
    let lock = lock_of table c.args.self.now.cores in
    let root = c.args.seat.me.0.root in
    let log = c.args.seat.me.0.log in
    let kept = c.loop-core.invariant in
    let row = c.loop-core.row in
    let pass = c.of_seat-2.result in
    let pass_is : pass ≡ first_pass lock root log 0 = c.of_seat-2.ensures ∙ (ap (λ t. pass_of t c.loop-core.seat.me.0) kept.2 ∙ ap (λ m. pass_of table m.0) kept.3) in
    let count : c.args.self.now.cores ≡ vec_len row + 1 = search rules in
    ap (λ (xs : List LockPass). reverse xs) c.push_reserved.ensures.items ∙ whole_row lock root log (vec_len row) pass row.items count pass_is kept.5
