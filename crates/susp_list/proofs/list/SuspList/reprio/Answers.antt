use Rattle.std.proofs.Common.{◌≡◌, ◌∙◌, sym, refl, Option, Some, None, true}
use Rattle.std.specs.Prelude.{slice_get}
use Rattle.std.proofs.lemmas.List.{set-set}
use Rattle.std.proofs.lemmas.Option.{same_Some, get_or_from_slice_get}
use Rattle.susp_list.specs.declared.row.Row.{Row}
use Rattle.susp_list.specs.Rows.{is_waiting}
use Rattle.susp_list.proofs.TableLemmas.{row_held}
use Rattle.susp_list.proofs.list.SuspList.reprio.Goals as goal

pub returns : goal.returns
returns c =
    let held : is_waiting (slice_get c.self.inside.rows.items c.thread.inside.0) ≡ true = rw (← c.self.view_is, ← c.thread.view_is) at c.requires in
    let row = row_held (slice_get c.self.inside.rows.items c.thread.inside.0) held in
    let same : c.in-Some.row ≡ row.0 = same_Some c.in-Some.row row.0 (sym c.in-Some.is ∙ c.index.ensures ∙ get_or_from_slice_get c.self.inside.rows.items c.thread.inside.0 (Some row.0) c.index.result.now row.1) in
    let there : slice_get c.args.self.now.rows c.args.thread ≡ Some (Some c.in-Some.row) = rw (← c.self.view_is, ← c.thread.view_is, same) row.1 in
    let new : Option Row = Some (record { prio = c.args.prio; at = c.in-Some.row.at }) in
    rw (c.join.ensures, c.leave.ensures.row, there, set-set c.args.self.now.rows c.args.thread None new) refl

pub returns-in_default : goal.returns-in_default
returns-in_default c =
    let held : is_waiting (slice_get c.self.inside.rows.items c.thread.inside.0) ≡ true = rw (← c.self.view_is, ← c.thread.view_is) at c.requires in
    let row = row_held (slice_get c.self.inside.rows.items c.thread.inside.0) held in
    let here : c.index.result.now ≡ Some row.0 = c.index.ensures ∙ get_or_from_slice_get c.self.inside.rows.items c.thread.inside.0 (Some row.0) c.index.result.now row.1 in
    absurd (c.in_default.not-Some row.0 here)
