use Rattle.std.proofs.Common.{refl, sym, ap, ◌∙◌, subst, ◌≡◌, ◌<◌, length, List, true, false}
use Rattle.rt_plain.specs.kernel.State.{Thread, Stage, Waiting, InCall, is_among}
use Rattle.object_box.specs.Classes.{AllObjects}
use Rattle.kernel_tables.specs.Listed.{Holds, left, IsRelisted}
use Rattle.kernel_tables.specs.Tabled.{Tabled, knows}
use Rattle.kernel_tables.specs.Tied.{IsTied}
use Rattle.kernel_tables.specs.Threads.{row_at, with_row}
use Rattle.kernel_tables.specs.WaitLists.{list_at, is_known_call}
use Rattle.kernel_tables.proofs.ListChangeLemmas.{relisted-shown, joined-shown, shown-again}
use Rattle.kernel_tables.proofs.TableLemmas.{free_row, holds-tied, knows-is, tied-left, left-may-join, joined-lists, tabled-same}
use Rattle.ready_list.specs.Ordered.{has_row}
use Rattle.kernel_tables.specs.Ready.{IsReady, with_ready}
use Rattle.kernel_tables.proofs.ReadyLemmas.{has-among, ready-apart}
use Rattle.kernel_tables.proofs.tables.Tables.wait.Goals as goal

pub leave_at-requires : goal.leave_at-requires
leave_at-requires c = subst (λ (stage : Stage). Holds c.self.inside.lists (list_at c.self.inside.lists.objects stage) c.args.t) (sym c.stage.ensures) (holds-tied c.self.inside.threads c.self.inside.lists c.args.t c.self.invariant.tied (subst (λ (k : Tabled). c.args.t < length k.threads) (sym c.self.view_is) c.requires.there))

pub join-requires : goal.join-requires
join-requires c =
    let rows = c.self.inside.threads in
    let l = c.self.inside.lists in
    let there : c.args.t < length rows = subst (λ (k : Tabled). c.args.t < length k.threads) (sym c.self.view_is) c.requires.there in
    let gone = subst (λ (stage : Stage). IsRelisted l c.leave_at.new.self (list_at l.objects stage) (left c.args.t)) c.stage.ensures c.leave_at.ensures in
    left-may-join rows c.leave_at.new.self c.args.t c.args.call there (tied-left rows l c.leave_at.new.self c.args.t (free_row rows c.args.t) c.self.invariant.tied there gone refl)

there : (c : goal.After-stand) → c.args.t < length c.self.inside.threads
there c = subst (λ (k : Tabled). c.args.t < length k.threads) (sym c.self.view_is) c.requires.there

-- the thread has left its list
gone : (c : goal.After-stand) → IsRelisted c.self.inside.lists c.leave_at.new.self (list_at c.self.inside.lists.objects (row_at c.self.inside.threads c.args.t).stage) (left c.args.t)
gone c = subst (λ (stage : Stage). IsRelisted c.self.inside.lists c.leave_at.new.self (list_at c.self.inside.lists.objects stage) (left c.args.t)) c.stage.ensures c.leave_at.ensures

known : (c : goal.After-stand) → is_known_call c.leave_at.new.self.objects c.args.call ≡ true
known c =
    ap (λ (a : AllObjects). is_known_call a c.args.call) c.leave_at.ensures.objects
    ∙ sym (knows-is c.self.inside.threads c.self.inside.lists c.args.call)
    ∙ ap (λ (k : Tabled). knows k c.args.call) c.self.view_is
    ∙ c.requires.known

out : (c : goal.After-stand) → has_row c.self.inside.ready.rows c.args.t ≡ false
out c = has-among c.self.inside.ready.rows c.args.t ∙ ap (λ (k : Tabled). is_among k.ready c.args.t) c.self.view_is ∙ c.requires.unready

pub invariant_of-self : goal.invariant_of-self
invariant_of-self c =
    let rows = c.self.inside.threads in
    let row : Thread = record (row_at rows c.args.t) { stage = Waiting (InCall c.args.call) c.args.at } in
    let left_lists = tied-left rows c.self.inside.lists c.leave_at.new.self c.args.t (free_row rows c.args.t) c.self.invariant.tied (there c) (gone c) refl in record {
      tied = subst (λ (all : List Thread). IsTied all c.join.new.self) (sym c.stand.ensures) (joined-lists rows c.leave_at.new.self c.join.new.self c.args.t c.args.call c.base.result c.args.at left_lists (there c) c.base.ensures (known c) c.join.ensures);
      ready = subst (λ (all : List Thread). IsReady all c.self.inside.ready) (sym c.stand.ensures) (ready-apart rows c.self.inside.ready c.args.t row c.self.invariant.ready (there c) (out c) (c.self.invariant.ready.within c.args.t (there c)));
    }

pub returns : goal.returns
returns c =
    let l = c.self.inside.lists in
    let shown = shown-again l c.leave_at.new.self c.join.new.self (relisted-shown l c.leave_at.new.self _ (left c.args.t) (gone c) (λ w. refl)) (joined-shown c.leave_at.new.self c.join.new.self _ c.args.t _ _ c.join.ensures) in
    ap (λ (k : Tabled). with_ready k c.self.inside.ready) (tabled-same (with_row c.self.inside.threads c.args.t (λ row. record row { stage = Waiting (InCall c.args.call) c.args.at })) c.stand.new.self l c.join.new.self c.stand.ensures shown)
    ∙ ap (λ (k : Tabled). record k { threads = with_row k.threads c.args.t (λ row. record row { stage = Waiting (InCall c.args.call) c.args.at }) }) c.self.view_is
