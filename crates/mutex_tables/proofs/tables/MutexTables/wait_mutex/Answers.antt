use Rattle.std.proofs.Common.{ℕ, ◌≡◌, ◌∙◌, ◌<◌, false, refl, sym, ap, subst, length, List}
use Rattle.rt_plain.specs.kernel.State.{is_among, is_closed}
use Rattle.rt_plain.specs.kernel.Ownership.{CurChange, changes, wait_edit}
use Rattle.kernel_tables.specs.Tabled.{Tabled}
use Rattle.kernel_tables.specs.Threads.{row_at, with_row}
use Rattle.mutex_chain.specs.Graph.{ChangeList}
use Rattle.mutex_tie.proofs.NameLemmas.{number-there}
use Rattle.mutex_tables.specs.MutexTabled.{MutexTabled, seen}
use Rattle.mutex_tables.specs.Moved.{AreWithin, MovesOne, moved_behind, renewed}
use Rattle.mutex_tables.proofs.SeenLemmas.{inside-there}
use Rattle.mutex_tables.proofs.StageLemmas.{inside-stage}
use Rattle.mutex_tables.proofs.StopLemmas.{inside-member, inside-room}
use Rattle.mutex_tables.proofs.CreateLemmas.{inside-known}
use Rattle.mutex_tables.proofs.FollowLemmas.{follow-keeps-by, follow-seen-by, renewed-by-list, follow-list}
use Rattle.mutex_tables.proofs.TakeLemmas.{inside-idle, inside-other, wait-within, wait-keeps, wait-seen, wait-changes, waiting_row}
use Rattle.mutex_tables.proofs.OneLemmas.{wait-one}
use Rattle.mutex_tables.proofs.tables.MutexTables.wait_mutex.Goals as goal
use Rattle.mutex_tables.proofs.tables.MutexTables.wait_mutex.Given.{Over}

pub number_in-no-requires : goal.number_in-no-requires
number_in-no-requires g c = sym (inside-known c.self.inside c.args.self.now c.args.name.now c.self.view_is) ∙ c.requires.known

pub wait-requires-clause-thread : goal.wait-requires-clause-thread
wait-requires-clause-thread g c = inside-member c.self.inside c.args.self.now c.args.t c.self.view_is c.self.invariant c.requires.there c.requires.live

pub wait-requires-clause-mutex : goal.wait-requires-clause-mutex
wait-requires-clause-mutex g c = c.self.invariant.graph.there c.number_in-no.result ∙ number-there c.self.inside.names.mutex.objects c.args.name.now c.number_in-no.result c.number_in-no.ensures

pub wait-requires-clause-idle : goal.wait-requires-clause-idle
wait-requires-clause-idle g c = inside-idle c.self.inside c.args.self.now c.args.t c.self.view_is c.self.invariant c.requires.idle

pub wait-requires-clause-owned : goal.wait-requires-clause-owned
wait-requires-clause-owned g c = inside-other c.self.inside c.args.self.now c.args.name.now c.number_in-no.result c.args.t c.self.view_is c.self.invariant c.number_in-no.ensures c.requires.owned

pub wait-requires-clause-room : goal.wait-requires-clause-room
wait-requires-clause-room g c = inside-room c.self.inside c.args.self.now c.args.out.now.threads c.self.view_is c.self.invariant c.requires.room

pub wait-requires-2-clause-there : goal.wait-requires-2-clause-there
wait-requires-2-clause-there g c = inside-there c.self.inside c.args.self.now c.args.t c.self.view_is c.requires.there

pub wait-requires-2-clause-unready : goal.wait-requires-2-clause-unready
wait-requires-2-clause-unready g c = ap (λ (v : MutexTabled). is_among v.ready c.args.t) c.self.view_is ∙ c.requires.unready

pub renew-requires : goal.renew-requires
renew-requires g c =
    let k = c.self.inside in
    let i : ℕ = c.number_in-no.result in
    let there : c.args.t < length k.tables.threads = inside-there k c.args.self.now c.args.t c.self.view_is c.requires.there in
    let live : is_closed (row_at k.tables.threads c.args.t).stage ≡ false = ap is_closed (inside-stage k c.args.self.now c.args.t c.self.view_is c.self.invariant c.requires.there) ∙ c.requires.live in
    let stands : c.wait-2.new.self ≡ record (k.tables) { threads = with_row k.tables.threads c.args.t (waiting_row c.args.name.now c.args.timeout c.args.at) } = c.wait-2.ensures ∙ ap (λ (n : List ℕ). record (k.tables) { threads = with_row k.tables.threads c.args.t (waiting_row n c.args.timeout c.args.at) }) c.copy.ensures in
    subst (λ (x : Tabled). AreWithin x c.as_slice.result.now) (sym stands)
    (subst (AreWithin (record (k.tables) { threads = with_row k.tables.threads c.args.t (waiting_row c.args.name.now c.args.timeout c.args.at) })) (sym (c.as_slice.ensures ∙ ap (λ (x : ChangeList). x.changes) c.wait.ensures.changes ∙ ap (changes k.graph) c.wait.ensures.graph))
    (wait-within k c.args.self.now c.args.name.now i c.args.t c.args.at c.args.timeout c.self.view_is c.self.invariant c.number_in-no.ensures there live))

-- the lists follow
lists : (g : Over) (c : goal.After-renew g) → c.renew.new.tables ≡ renewed (record (c.self.inside.tables) { threads = with_row c.self.inside.tables.threads c.args.t (waiting_row c.args.name.now c.args.timeout c.args.at) }) (changes c.self.inside.graph (wait_edit c.args.t c.number_in-no.result c.args.at c.self.inside.graph))
lists g c =
    let k = c.self.inside in
    let stands : c.wait-2.new.self ≡ record (k.tables) { threads = with_row k.tables.threads c.args.t (waiting_row c.args.name.now c.args.timeout c.args.at) } = c.wait-2.ensures ∙ ap (λ (n : List ℕ). record (k.tables) { threads = with_row k.tables.threads c.args.t (waiting_row n c.args.timeout c.args.at) }) c.copy.ensures in
    renewed-by-list c.renew.new.tables (record (k.tables) { threads = with_row k.tables.threads c.args.t (waiting_row c.args.name.now c.args.timeout c.args.at) }) c.as_slice.result.now c.args.out.now c.wait.new.out k.graph (wait_edit c.args.t c.number_in-no.result c.args.at k.graph) c.wait.new.self
    (c.renew.ensures ∙ ap (λ (x : Tabled). renewed x c.as_slice.result.now) stands) c.as_slice.ensures c.wait.ensures.changes c.wait.ensures.graph

pub invariant_of-self : goal.invariant_of-self
invariant_of-self g c =
    let k = c.self.inside in
    let i : ℕ = c.number_in-no.result in
    let there : c.args.t < length k.tables.threads = inside-there k c.args.self.now c.args.t c.self.view_is c.requires.there in
    let live : is_closed (row_at k.tables.threads c.args.t).stage ≡ false = ap is_closed (inside-stage k c.args.self.now c.args.t c.self.view_is c.self.invariant c.requires.there) ∙ c.requires.live in
    follow-keeps-by c.renew.new.tables (record (k.tables) { threads = with_row k.tables.threads c.args.t (waiting_row c.args.name.now c.args.timeout c.args.at) }) k.bases.items k.bases.items k.names.mutex k.graph (wait_edit c.args.t i c.args.at k.graph) c.wait.new.self (lists g c) refl c.wait.ensures.graph
    (wait-keeps k c.args.self.now c.args.name.now i c.args.t c.args.at c.args.timeout c.self.view_is c.self.invariant c.number_in-no.ensures there live)

shown : (g : Over) (c : goal.After-renew g) → seen c.renew.new.tables c.self.inside.bases.items c.self.inside.names.mutex c.wait.new.self
    ≡ seen (renewed (record (c.self.inside.tables) { threads = with_row c.self.inside.tables.threads c.args.t (waiting_row c.args.name.now c.args.timeout c.args.at) }) (changes c.self.inside.graph (wait_edit c.args.t c.number_in-no.result c.args.at c.self.inside.graph))) c.self.inside.bases.items c.self.inside.names.mutex (wait_edit c.args.t c.number_in-no.result c.args.at c.self.inside.graph)
shown g c =
    let k = c.self.inside in
    follow-seen-by c.renew.new.tables (record (k.tables) { threads = with_row k.tables.threads c.args.t (waiting_row c.args.name.now c.args.timeout c.args.at) }) k.bases.items k.bases.items k.names.mutex k.graph (wait_edit c.args.t c.number_in-no.result c.args.at k.graph) c.wait.new.self (lists g c) refl c.wait.ensures.graph

pub returns-clause-changes : goal.returns-clause-changes
returns-clause-changes g c =
    let k = c.self.inside in
    let i : ℕ = c.number_in-no.result in
    let p = wait_edit c.args.t i c.args.at k.graph in
    let there : c.args.t < length k.tables.threads = inside-there k c.args.self.now c.args.t c.self.view_is c.requires.there in
    let live : is_closed (row_at k.tables.threads c.args.t).stage ≡ false = ap is_closed (inside-stage k c.args.self.now c.args.t c.self.view_is c.self.invariant c.requires.there) ∙ c.requires.live in
    follow-list c.args.out.now c.wait.new.out k.graph p c.wait.new.self c.args.self.now (seen (renewed (record (k.tables) { threads = with_row k.tables.threads c.args.t (waiting_row c.args.name.now c.args.timeout c.args.at) }) (changes k.graph p)) k.bases.items k.names.mutex p) _ c.wait.ensures.changes c.wait.ensures.graph
    (wait-changes k c.args.self.now c.args.name.now i c.args.t c.args.at c.args.timeout c.self.view_is c.self.invariant c.number_in-no.ensures there live) (shown g c)

pub returns-clause-state : goal.returns-clause-state
returns-clause-state g c =
    let k = c.self.inside in
    let v : MutexTabled = c.args.self.now in
    let i : ℕ = c.number_in-no.result in
    let there : c.args.t < length k.tables.threads = inside-there k c.args.self.now c.args.t c.self.view_is c.requires.there in
    let live : is_closed (row_at k.tables.threads c.args.t).stage ≡ false = ap is_closed (inside-stage k c.args.self.now c.args.t c.self.view_is c.self.invariant c.requires.there) ∙ c.requires.live in
    shown g c
    ∙ wait-seen k v c.args.name.now i c.args.t c.args.at c.args.timeout c.self.view_is c.self.invariant c.number_in-no.ensures there live
    ∙ ap (λ (cs : List CurChange). record v { threads = with_row v.threads c.args.t (waiting_row c.args.name.now c.args.timeout c.args.at); ready = moved_behind v.ready cs v.ready }) (sym (ap (λ (x : ChangeList). x.changes) c.wait.ensures.changes ∙ ap (changes k.graph) c.wait.ensures.graph))

pub returns-clause-one : goal.returns-clause-one
returns-clause-one g c out =
    subst (MovesOne c.args.self.now.ready) (sym (ap (λ (x : ChangeList). x.changes) c.wait.ensures.changes ∙ ap (changes c.self.inside.graph) c.wait.ensures.graph))
    (wait-one c.self.inside c.args.self.now c.args.t c.number_in-no.result c.args.at c.self.view_is c.self.invariant out (inside-idle c.self.inside c.args.self.now c.args.t c.self.view_is c.self.invariant c.requires.idle) c.requires.unready)
