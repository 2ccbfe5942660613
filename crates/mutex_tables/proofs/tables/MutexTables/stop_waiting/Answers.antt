use Rattle.std.proofs.Common.{◌≡◌, ◌∙◌, ◌<◌, ◌++◌, ◌∷◌, [], true, refl, sym, ap, subst, List}
use Rattle.rt_plain.specs.kernel.Sound.{is_active}
use Rattle.rt_plain.specs.kernel.State.{is_among}
use Rattle.rt_plain.specs.kernel.Ownership.{CurChange, Ownership, changes, cur_in, is_there, leave_edit, member_at}
use Rattle.kernel_tables.specs.Tabled.{Tabled, woken_row}
use Rattle.kernel_tables.specs.Threads.{row_at, with_row}
use Rattle.mutex_chain.specs.Graph.{ChangeList}
use Rattle.mutex_tables.specs.MutexTabled.{MutexTabled, seen}
use Rattle.mutex_tables.specs.Moved.{AreWithin, MovesOne, moved_behind, renewed, roused}
use Rattle.mutex_tables.proofs.SeenLemmas.{inside-there}
use Rattle.mutex_tables.proofs.StageLemmas.{inside-stage}
use Rattle.mutex_tables.proofs.FollowLemmas.{follow-keeps-by, follow-seen-by, renewed-by-list, follow-list}
use Rattle.mutex_tables.proofs.StopLemmas.{waiting-open, inside-waits, inside-member, inside-room, stop-within, stop-keeps, stop-seen, stop-changes, stop-level, stop-member}
use Rattle.mutex_tables.proofs.OneLemmas.{leave-one}
use Rattle.mutex_tables.proofs.tables.MutexTables.stop_waiting.Goals as goal
use Rattle.mutex_tables.proofs.tables.MutexTables.stop_waiting.Given.{Over}

pub leave-requires-clause-thread : goal.leave-requires-clause-thread
leave-requires-clause-thread g c = inside-member c.self.inside c.args.self.now c.args.t c.self.view_is c.self.invariant c.requires.there (waiting-open (row_at c.args.self.now.threads c.args.t).stage c.requires.waits).0

pub leave-requires-clause-waits : goal.leave-requires-clause-waits
leave-requires-clause-waits g c = inside-waits c.self.inside c.args.self.now c.args.t c.self.view_is c.self.invariant c.requires.waits

pub leave-requires-clause-room : goal.leave-requires-clause-room
leave-requires-clause-room g c = inside-room c.self.inside c.args.self.now c.args.out.now.threads c.self.view_is c.self.invariant c.requires.room

pub cur-requires : goal.cur-requires
cur-requires g c =
    let k = c.self.inside in
    subst (λ (o : Ownership). is_there (member_at o c.args.t) ≡ true) (sym c.leave.ensures.graph)
    (stop-member k c.args.self.now c.args.t c.args.code c.self.view_is c.self.invariant c.requires.there c.requires.waits c.requires.unready)

pub rouse-requires-clause-there : goal.rouse-requires-clause-there
rouse-requires-clause-there g c = inside-there c.self.inside c.args.self.now c.args.t c.self.view_is c.requires.there

pub rouse-requires-clause-idle : goal.rouse-requires-clause-idle
rouse-requires-clause-idle g c = ap is_active (inside-stage c.self.inside c.args.self.now c.args.t c.self.view_is c.self.invariant c.requires.there) ∙ (waiting-open (row_at c.args.self.now.threads c.args.t).stage c.requires.waits).1

pub rouse-requires-clause-unready : goal.rouse-requires-clause-unready
rouse-requires-clause-unready g c = ap (λ (v : MutexTabled). is_among v.ready c.args.t) c.self.view_is ∙ c.requires.unready

pub rouse-requires-clause-level : goal.rouse-requires-clause-level
rouse-requires-clause-level g c =
    let k = c.self.inside in
    subst (λ n. n < k.tables.levels) (sym (c.cur.ensures ∙ ap (λ (o : Ownership). cur_in o c.args.t) c.leave.ensures.graph))
    (stop-level k c.args.self.now c.args.t c.args.code c.self.view_is c.self.invariant c.requires.there c.requires.waits c.requires.unready)

pub renew-requires : goal.renew-requires
renew-requires g c =
    let k = c.self.inside in
    let p = leave_edit c.args.t k.graph in
    let cs : c.as_slice.result.now ≡ changes k.graph p = c.as_slice.ensures ∙ ap (λ (x : ChangeList). x.changes) c.leave.ensures.changes ∙ ap (changes k.graph) c.leave.ensures.graph in
    let woke = c.rouse.ensures ∙ ap (roused k.tables c.args.t c.args.code) (c.cur.ensures ∙ ap (λ (o : Ownership). cur_in o c.args.t) c.leave.ensures.graph) in
    subst (λ (x : Tabled). AreWithin x c.as_slice.result.now) (sym woke)
    (subst (AreWithin (roused k.tables c.args.t c.args.code (cur_in p c.args.t))) (sym cs)
    (stop-within k c.args.self.now c.args.t c.args.code c.self.view_is c.self.invariant c.requires.there c.requires.waits c.requires.unready))

-- the lists follow
followed : (g : Over) (c : goal.After-renew g) → c.renew.new.tables ≡ renewed (roused c.self.inside.tables c.args.t c.args.code (cur_in (leave_edit c.args.t c.self.inside.graph) c.args.t)) (changes c.self.inside.graph (leave_edit c.args.t c.self.inside.graph))
followed g c =
    let k = c.self.inside in
    let p = leave_edit c.args.t k.graph in
    renewed-by-list c.renew.new.tables (roused k.tables c.args.t c.args.code (cur_in p c.args.t)) c.as_slice.result.now c.args.out.now c.leave.new.out k.graph p c.leave.new.self
    (c.renew.ensures ∙ ap (λ (x : Tabled). renewed x c.as_slice.result.now) (c.rouse.ensures ∙ ap (roused k.tables c.args.t c.args.code) (c.cur.ensures ∙ ap (λ (o : Ownership). cur_in o c.args.t) c.leave.ensures.graph)))
    c.as_slice.ensures c.leave.ensures.changes c.leave.ensures.graph

pub invariant_of-self : goal.invariant_of-self
invariant_of-self g c =
    let k = c.self.inside in
    let p = leave_edit c.args.t k.graph in
    follow-keeps-by c.renew.new.tables (roused k.tables c.args.t c.args.code (cur_in p c.args.t)) k.bases.items k.bases.items k.names.mutex k.graph p c.leave.new.self (followed g c) refl c.leave.ensures.graph
    (stop-keeps k c.args.self.now c.args.t c.args.code c.self.view_is c.self.invariant c.requires.there c.requires.waits c.requires.unready)

shown : (g : Over) (c : goal.After-renew g) → seen c.renew.new.tables c.self.inside.bases.items c.self.inside.names.mutex c.leave.new.self
    ≡ seen (renewed (roused c.self.inside.tables c.args.t c.args.code (cur_in (leave_edit c.args.t c.self.inside.graph) c.args.t)) (changes c.self.inside.graph (leave_edit c.args.t c.self.inside.graph))) c.self.inside.bases.items c.self.inside.names.mutex (leave_edit c.args.t c.self.inside.graph)
shown g c =
    let k = c.self.inside in
    let p = leave_edit c.args.t k.graph in
    follow-seen-by c.renew.new.tables (roused k.tables c.args.t c.args.code (cur_in p c.args.t)) k.bases.items k.bases.items k.names.mutex k.graph p c.leave.new.self (followed g c) refl c.leave.ensures.graph

pub returns-clause-changes : goal.returns-clause-changes
returns-clause-changes g c =
    let k = c.self.inside in
    let p = leave_edit c.args.t k.graph in
    follow-list c.args.out.now c.leave.new.out k.graph p c.leave.new.self c.args.self.now (seen (renewed (roused k.tables c.args.t c.args.code (cur_in p c.args.t)) (changes k.graph p)) k.bases.items k.names.mutex p) _ c.leave.ensures.changes c.leave.ensures.graph
    (stop-changes k c.args.self.now c.args.t c.args.code c.self.view_is c.self.invariant c.requires.there c.requires.waits c.requires.unready) (shown g c)

pub returns-clause-state : goal.returns-clause-state
returns-clause-state g c =
    let k = c.self.inside in
    let v : MutexTabled = c.args.self.now in
    shown g c
    ∙ stop-seen k v c.args.t c.args.code c.self.view_is c.self.invariant c.requires.there c.requires.waits c.requires.unready
    ∙ ap (λ (cs : List CurChange). record v { threads = with_row v.threads c.args.t (woken_row c.args.code); ready = moved_behind v.ready cs (v.ready ++ c.args.t ∷ []) }) (sym (ap (λ (x : ChangeList). x.changes) c.leave.ensures.changes ∙ ap (changes k.graph) c.leave.ensures.graph))

pub returns-clause-one : goal.returns-clause-one
returns-clause-one g c out =
    subst (MovesOne c.args.self.now.ready) (sym (ap (λ (x : ChangeList). x.changes) c.leave.ensures.changes ∙ ap (changes c.self.inside.graph) c.leave.ensures.graph))
    (leave-one c.self.inside c.args.self.now c.args.t c.self.view_is c.self.invariant out)
