use Rattle.std.proofs.Common.{refl, sym, ap, ◌∙◌, subst, ◌≡◌, ◌<◌, length, List, true, false, ℕ}
use Rattle.rt_plain.specs.kernel.State.{Thread, Stage, Awaited, Waiting, InCall, AtConsole, AtWorks, is_among}
use Rattle.kernel_tables.specs.Awaiting.{awaited_of}
use Rattle.kernel_tables.specs.Listed.{Holds, left, IsRelisted}
use Rattle.kernel_tables.specs.Ready.{IsReady, with_ready}
use Rattle.kernel_tables.specs.Repeated.{is_in_call}
use Rattle.kernel_tables.specs.Tabled.{Tabled, is_unlisted}
use Rattle.kernel_tables.specs.Threads.{row_at, with_row}
use Rattle.kernel_tables.specs.Tied.{IsTied}
use Rattle.kernel_tables.specs.WaitLists.{list_at}
use Rattle.kernel_tables.proofs.ListChangeLemmas.{relisted-shown}
use Rattle.kernel_tables.proofs.ReadyLemmas.{has-among, ready-apart}
use Rattle.kernel_tables.proofs.TableLemmas.{holds-tied, tied-left, tabled-same}
use Rattle.ready_list.specs.Ordered.{has_row}
use Rattle.kernel_tables.proofs.tables.Tables.wait_apart.Goals as goal

pub leave_at-requires : goal.leave_at-requires
leave_at-requires c = subst (λ (stage : Stage). Holds c.self.inside.lists (list_at c.self.inside.lists.objects stage) c.args.t) (sym c.stage.ensures) (holds-tied c.self.inside.threads c.self.inside.lists c.args.t c.self.invariant.tied (subst (λ (k : Tabled). c.args.t < length k.threads) (sym c.self.view_is) c.requires.there))

there : (c : goal.After-stand) → c.args.t < length c.self.inside.threads
there c = subst (λ (k : Tabled). c.args.t < length k.threads) (sym c.self.view_is) c.requires.there

-- the thread has left its list
gone : (c : goal.After-stand) → IsRelisted c.self.inside.lists c.leave_at.new.self (list_at c.self.inside.lists.objects (row_at c.self.inside.threads c.args.t).stage) (left c.args.t)
gone c = subst (λ (stage : Stage). IsRelisted c.self.inside.lists c.leave_at.new.self (list_at c.self.inside.lists.objects stage) (left c.args.t)) c.stage.ensures c.leave_at.ensures

out : (c : goal.After-stand) → has_row c.self.inside.ready.rows c.args.t ≡ false
out c = has-among c.self.inside.ready.rows c.args.t ∙ ap (λ (k : Tabled). is_among k.ready c.args.t) c.self.view_is ∙ c.requires.unready

-- what is no call has no list
listless : (what : Awaited) (number : ℕ) → is_in_call what ≡ false → is_unlisted (Waiting what number) ≡ true
listless (InCall call) number apart = absurd cc
listless AtConsole number apart = refl
listless AtWorks number apart = refl

pub invariant_of-self : goal.invariant_of-self
invariant_of-self c =
    let rows = c.self.inside.threads in
    let row : Thread = record (row_at rows c.args.t) { stage = Waiting (awaited_of c.args.what) c.args.at } in record {
      tied = subst (λ (all : List Thread). IsTied all c.leave_at.new.self) (sym c.stand.ensures) (tied-left rows c.self.inside.lists c.leave_at.new.self c.args.t row c.self.invariant.tied (there c) (gone c) (listless (awaited_of c.args.what) c.args.at c.requires.apart));
      ready = subst (λ (all : List Thread). IsReady all c.self.inside.ready) (sym c.stand.ensures) (ready-apart rows c.self.inside.ready c.args.t row c.self.invariant.ready (there c) (out c) (c.self.invariant.ready.within c.args.t (there c)));
    }

pub returns : goal.returns
returns c =
    ap (λ (k : Tabled). with_ready k c.self.inside.ready) (tabled-same (with_row c.self.inside.threads c.args.t (λ row. record row { stage = Waiting (awaited_of c.args.what) c.args.at })) c.stand.new.self c.self.inside.lists c.leave_at.new.self c.stand.ensures (relisted-shown c.self.inside.lists c.leave_at.new.self _ (left c.args.t) (gone c) (λ w. refl)))
    ∙ ap (λ (k : Tabled). record k { threads = with_row k.threads c.args.t (λ row. record row { stage = Waiting (awaited_of c.args.what) c.args.at }) }) c.self.view_is
