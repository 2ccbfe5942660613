use Rattle.std.proofs.Common.{ℕ, ◌≡◌, ◌∙◌, refl, sym, ap, subst, List}
use Rattle.rt_base.specs.declared.codes.Code.{Code}
use Rattle.rt_plain.specs.kernel.DeleteCall.{mutex_deletion}
use Rattle.rt_plain.specs.kernel.Ownership.{CurChange, Ownership, changes, kill_mutex_edit, waiters_in}
use Rattle.object_box.specs.Classes.{AllObjects}
use Rattle.object_box.specs.Objects.{removed}
use Rattle.kernel_tables.specs.Tabled.{Tabled}
use Rattle.mutex_chain.specs.Graph.{ChangeList, WokenList}
use Rattle.mutex_tie.proofs.NameLemmas.{number-there}
use Rattle.mutex_tables.specs.Kept.{AreMutexTables}
use Rattle.mutex_tables.specs.MutexTabled.{MutexTabled, plain_state, seen}
use Rattle.mutex_tables.specs.Moved.{AreWithin, MovesOne, renewed}
use Rattle.mutex_tables.specs.Mutexes.{MayWakeAll, followed, roused_all}
use Rattle.mutex_tables.proofs.StopLemmas.{inside-room}
use Rattle.mutex_tables.proofs.CreateLemmas.{inside-known}
use Rattle.mutex_tables.proofs.FollowLemmas.{follow-within, follow-keeps, follow-keeps-by, follow-seen-by, renewed-by-list, follow-list}
use Rattle.mutex_tables.proofs.DeleteLemmas.{deleted-changes, deleted-follows, deleted-may, deleted-seen, waking-is}
use Rattle.mutex_tables.proofs.OneLemmas.{delete-one}
use Rattle.mutex_tables.proofs.tables.MutexTables.delete_mutex.Goals as goal
use Rattle.mutex_tables.proofs.tables.MutexTables.delete_mutex.Given.{Over}

pub number_in-no-requires : goal.number_in-no-requires
number_in-no-requires g c = sym (inside-known c.self.inside c.args.self.now c.args.name.now c.self.view_is) ∙ c.requires.known

pub kill_mutex-requires-clause-there : goal.kill_mutex-requires-clause-there
kill_mutex-requires-clause-there g c = c.self.invariant.graph.there c.number_in-no.result ∙ number-there c.self.inside.names.mutex.objects c.args.name.now c.number_in-no.result c.number_in-no.ensures

pub kill_mutex-requires-clause-woken : goal.kill_mutex-requires-clause-woken
kill_mutex-requires-clause-woken g c = inside-room c.self.inside c.args.self.now c.args.woken.now.threads c.self.view_is c.self.invariant c.requires.woken

pub kill_mutex-requires-clause-room : goal.kill_mutex-requires-clause-room
kill_mutex-requires-clause-room g c = inside-room c.self.inside c.args.self.now c.args.out.now.threads c.self.view_is c.self.invariant c.requires.room

pub remove-requires : goal.remove-requires
remove-requires g c = number-there c.self.inside.names.mutex.objects c.args.name.now c.number_in-no.result c.number_in-no.ensures

pub wake_all-requires : goal.wake_all-requires
wake_all-requires g c =
    let k = c.self.inside in
    let i : ℕ = c.number_in-no.result in
    subst (λ (o : Ownership). MayWakeAll k.tables o c.as_slice.result.now) (sym c.kill_mutex.ensures.graph)
    (subst (MayWakeAll k.tables (kill_mutex_edit i k.graph)) (sym (c.as_slice.ensures ∙ ap (λ (x : WokenList). x.woken) c.kill_mutex.ensures.woken))
    (deleted-may k c.args.self.now c.args.name.now i c.self.view_is c.self.invariant c.requires.apart c.know_owners.ensures.owned c.number_in-no.ensures))

pub renew-requires : goal.renew-requires
renew-requires g c =
    let k = c.self.inside in
    let i : ℕ = c.number_in-no.result in
    let p : Ownership = kill_mutex_edit i k.graph in
    let ts : c.as_slice.result.now ≡ waiters_in k.graph i = c.as_slice.ensures ∙ ap (λ (x : WokenList). x.woken) c.kill_mutex.ensures.woken in
    let woke : c.wake_all.new.tables ≡ roused_all k.tables p Code.Error (waiters_in k.graph i) = c.wake_all.ensures ∙ ap (λ (o : Ownership). roused_all k.tables o Code.Error c.as_slice.result.now) c.kill_mutex.ensures.graph ∙ ap (roused_all k.tables p Code.Error) ts in
    subst (λ (x : Tabled). AreWithin x c.as_slice-2.result.now) (sym woke)
    (subst (AreWithin (roused_all k.tables p Code.Error (waiters_in k.graph i))) (sym (c.as_slice-2.ensures ∙ ap (λ (x : ChangeList). x.changes) c.kill_mutex.ensures.changes ∙ ap (changes k.graph) c.kill_mutex.ensures.graph))
    (follow-within k.tables.ready (roused_all k.tables p Code.Error (waiters_in k.graph i)) k.bases.items (removed k.names.mutex i) k.graph p (deleted-follows k c.args.self.now c.args.name.now i c.self.view_is c.self.invariant c.requires.apart c.know_owners.ensures.owned c.number_in-no.ensures)))

-- the lists follow
lists : (g : Over) (c : goal.After-renew g) → c.renew.new.tables ≡ renewed (roused_all c.self.inside.tables (kill_mutex_edit c.number_in-no.result c.self.inside.graph) Code.Error (waiters_in c.self.inside.graph c.number_in-no.result)) (changes c.self.inside.graph (kill_mutex_edit c.number_in-no.result c.self.inside.graph))
lists g c =
    let k = c.self.inside in
    let i : ℕ = c.number_in-no.result in
    let p : Ownership = kill_mutex_edit i k.graph in
    let ts : c.as_slice.result.now ≡ waiters_in k.graph i = c.as_slice.ensures ∙ ap (λ (x : WokenList). x.woken) c.kill_mutex.ensures.woken in
    let woke : c.wake_all.new.tables ≡ roused_all k.tables p Code.Error (waiters_in k.graph i) = c.wake_all.ensures ∙ ap (λ (o : Ownership). roused_all k.tables o Code.Error c.as_slice.result.now) c.kill_mutex.ensures.graph ∙ ap (roused_all k.tables p Code.Error) ts in
    renewed-by-list c.renew.new.tables (roused_all k.tables p Code.Error (waiters_in k.graph i)) c.as_slice-2.result.now c.args.out.now c.kill_mutex.new.out k.graph p c.kill_mutex.new.self
    (c.renew.ensures ∙ ap (λ (x : Tabled). renewed x c.as_slice-2.result.now) woke) c.as_slice-2.ensures c.kill_mutex.ensures.changes c.kill_mutex.ensures.graph

pub invariant_of-self : goal.invariant_of-self
invariant_of-self g c =
    let k = c.self.inside in
    let i : ℕ = c.number_in-no.result in
    let p : Ownership = kill_mutex_edit i k.graph in
    subst (λ (a : AllObjects). AreMutexTables c.renew.new.tables k.bases.items a.mutex c.kill_mutex.new.self) (sym c.remove.ensures)
    (follow-keeps-by c.renew.new.tables (roused_all k.tables p Code.Error (waiters_in k.graph i)) k.bases.items k.bases.items (removed k.names.mutex i) k.graph p c.kill_mutex.new.self (lists g c) refl c.kill_mutex.ensures.graph
    (follow-keeps k.tables.ready (roused_all k.tables p Code.Error (waiters_in k.graph i)) k.bases.items (removed k.names.mutex i) k.graph p (deleted-follows k c.args.self.now c.args.name.now i c.self.view_is c.self.invariant c.requires.apart c.know_owners.ensures.owned c.number_in-no.ensures)))

shown : (g : Over) (c : goal.After-renew g) → seen c.renew.new.tables c.self.inside.bases.items c.remove.new.self.mutex c.kill_mutex.new.self
    ≡ seen (renewed (roused_all c.self.inside.tables (kill_mutex_edit c.number_in-no.result c.self.inside.graph) Code.Error (waiters_in c.self.inside.graph c.number_in-no.result)) (changes c.self.inside.graph (kill_mutex_edit c.number_in-no.result c.self.inside.graph))) c.self.inside.bases.items (removed c.self.inside.names.mutex c.number_in-no.result) (kill_mutex_edit c.number_in-no.result c.self.inside.graph)
shown g c =
    let k = c.self.inside in
    let i : ℕ = c.number_in-no.result in
    let p : Ownership = kill_mutex_edit i k.graph in
    ap (λ (a : AllObjects). seen c.renew.new.tables k.bases.items a.mutex c.kill_mutex.new.self) c.remove.ensures
    ∙ follow-seen-by c.renew.new.tables (roused_all k.tables p Code.Error (waiters_in k.graph i)) k.bases.items k.bases.items (removed k.names.mutex i) k.graph p c.kill_mutex.new.self (lists g c) refl c.kill_mutex.ensures.graph

pub returns-clause-woken : goal.returns-clause-woken
returns-clause-woken g c =
    let k = c.self.inside in
    c.kill_mutex.ensures.woken
    ∙ ap (λ (ts : List ℕ). record (c.args.woken.now) { woken = ts }) (sym (waking-is k c.args.self.now c.args.name.now c.number_in-no.result c.self.view_is c.self.invariant c.requires.apart c.know_owners.ensures.owned c.number_in-no.ensures))

pub returns-clause-changes : goal.returns-clause-changes
returns-clause-changes g c =
    let k = c.self.inside in
    let i : ℕ = c.number_in-no.result in
    let p : Ownership = kill_mutex_edit i k.graph in
    follow-list c.args.out.now c.kill_mutex.new.out k.graph p c.kill_mutex.new.self c.args.self.now (seen (renewed (roused_all k.tables p Code.Error (waiters_in k.graph i)) (changes k.graph p)) k.bases.items (removed k.names.mutex i) p) _ c.kill_mutex.ensures.changes c.kill_mutex.ensures.graph
    (deleted-changes k c.args.self.now c.args.name.now i c.self.view_is c.self.invariant c.requires.apart c.know_owners.ensures.owned c.number_in-no.ensures) (shown g c)

pub returns-clause-state : goal.returns-clause-state
returns-clause-state g c =
    let k = c.self.inside in
    let v : MutexTabled = c.args.self.now in
    shown g c
    ∙ deleted-seen k v c.args.name.now c.number_in-no.result c.self.view_is c.self.invariant c.requires.apart c.know_owners.ensures.owned c.number_in-no.ensures
    ∙ ap (λ (cs : List CurChange). followed v (mutex_deletion c.args.name.now (plain_state v)).effect.state cs) (sym (ap (λ (x : ChangeList). x.changes) c.kill_mutex.ensures.changes ∙ ap (changes k.graph) c.kill_mutex.ensures.graph))

pub returns-clause-one : goal.returns-clause-one
returns-clause-one g c =
    subst (MovesOne c.args.self.now.ready) (sym (ap (λ (x : ChangeList). x.changes) c.kill_mutex.ensures.changes ∙ ap (changes c.self.inside.graph) c.kill_mutex.ensures.graph))
    (delete-one c.self.inside c.args.self.now c.number_in-no.result c.self.view_is c.self.invariant c.requires.apart c.know_owners.ensures.owned)
