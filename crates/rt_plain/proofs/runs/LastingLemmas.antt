-- What lasts through whole runs: works that the journal tells, arrivals that are ahead, priorities below the levels and bindings below the cores.
use Rattle.std.proofs.Common.{◌≡◌, ◌<◌, ◌≤◌, ◌∷◌, [], ◌++◌, ℕ, min, List, Option, Some, None, Bool, true, false, length, refl, sym, ap, ◌∙◌, subst, arith, map, flat_map, codes, All, IfSome}
use Rattle.std.specs.List.{AllByRecursion, fold}
use Rattle.std.proofs.lemmas.List.Elements.{recursion_from_All, All-from_recursion}
use Rattle.std.proofs.lemmas.List.FromFn.{get_or-map-range_with_len}
use Rattle.rt_plain.specs.declared.board.Arrival.{Arrival}
use Rattle.rt_plain.specs.declared.board.ThreadDef.{ThreadDef}
use Rattle.rt_plain.specs.declared.board.TimerDef.{TimerDef}
use Rattle.rt_plain.specs.declared.entry.Entry.{Entry}
use Rattle.rt_plain.specs.PlainBoard.{PlainBoard}
use Rattle.rt_plain.specs.kernel.State.{State, Arriving, no_thread, thread_at}
use Rattle.rt_plain.specs.kernel.Effects.{no_effect}
use Rattle.rt_plain.specs.kernel.Priority.{least, graph_of, own_urgency, ceilings_of, reach, urgency_of, cur}
use Rattle.rt_plain.specs.kernel.Opening.{new_script_thread, own_threads, new_threads, arrival_moment, new_arriving, unstarted_state, with_auto_timer, open_state}
use Rattle.rt_plain.specs.runs.Runs.{IsRun}
use Rattle.rt_plain.specs.runs.WorkLog.{works_from, works_of}
use Rattle.rt_plain.specs.kernel.Sound.{IsLevelled, IsProper}
use Rattle.rt_plain.proofs.kernel.TallyLemmas.{all-append, all-map}
use Rattle.rt_plain.proofs.kernel.StepLemmas.{KeptAt}
use Rattle.rt_plain.proofs.kernel.OpenLemmas.{all-in, opened-kept}
use Rattle.rt_plain.proofs.kernel.SoundLemmas.{made-kept}
use Rattle.rt_plain.proofs.kernel.ActionLemmas.{IsLevelledThread, AreLevelled, Leaves, leaves-same, leaves-parts, leaves-from}
use Rattle.rt_plain.proofs.runs.FollowLemmas.{AreAhead, Follows, FollowsDid, quiet-follows, follows-then, event-follows}
use Rattle.rt_plain.proofs.TestLemmas.{some-is}

-- what a run leaves
run-follows : (b : PlainBoard) (journal : List Entry) (s new : State) → IsProper b → KeptAt b s → IsRun b s journal new → Follows b s new (flat_map (λ e. e.lines) journal)
run-follows b [] s new proper kept run = subst (λ (u : State). Follows b s u []) (sym run) (quiet-follows b s [] tt)
run-follows b (e ∷ journal) s new proper kept run = follows-then b s run.0 new e.lines (flat_map (λ e. e.lines) journal) (subst (FollowsDid b s) run.1.1 (event-follows b kept.0 s proper kept.1 e.event)) (run-follows b journal run.0 new proper (made-kept b s run.0 e proper kept run.1) run.2)

-- timers that start by themselves arm rows, and no more
auto-leaves : (b : PlainBoard) (defs : List TimerDef) (s : State) → Leaves b s (no_effect (fold with_auto_timer s defs))
auto-leaves b [] s = leaves-same b s
auto-leaves b (def ∷ defs) s = leaves-from b s (with_auto_timer s def) (no_effect (fold with_auto_timer s (def ∷ defs))) (by_start def.started) (auto-leaves b defs (with_auto_timer s def)) where
  by_start : (started : Bool) → Leaves b s (no_effect (with_auto_timer s (record def { started = started })))
  by_start true = leaves-parts b s _ refl refl refl
  by_start false = leaves-same b s

opened-leaves : (b : PlainBoard) → Leaves b (unstarted_state b) (no_effect (open_state b))
unfolding open_state
opened-leaves b = leaves-from b (unstarted_state b) (fold with_auto_timer (unstarted_state b) b.timers) (no_effect (open_state b)) (auto-leaves b b.timers (unstarted_state b)) (leaves-parts b (fold with_auto_timer (unstarted_state b) b.timers) (open_state b) refl refl refl)

reached-follows : (b : PlainBoard) (journal : List Entry) (s : State) → IsProper b → IsRun b (open_state b) journal s → Follows b (open_state b) s (flat_map (λ e. e.lines) journal)
reached-follows b journal s proper run = run-follows b journal (open_state b) s proper (0, opened-kept b proper) run

-- the works are those that the journal tells
pub works-told : (b : PlainBoard) (journal : List Entry) (s : State) → IsProper b → IsRun b (open_state b) journal s → works_of journal ≡ Some s.works
works-told b journal s proper run = ap (λ works. works_from works (flat_map (λ e. e.lines) journal)) (opened-leaves b).works ∙ (reached-follows b journal s proper run).works

-- what is to arrive comes after the moment
opened-ahead : (b : PlainBoard) → IsProper b → All (λ a. 1 ≤ arrival_moment b a) b.arrivals → AreAhead (open_state b)
opened-ahead b proper later = subst (AllByRecursion (λ (a : Arriving). (open_state b).moment < a.moment)) (sym (opened-leaves b).arrivals) (subst (λ (n : ℕ). AllByRecursion (λ (a : Arriving). n < a.moment) (map (new_arriving b) b.arrivals)) (sym (opened-kept b proper).moment_is)
    (all-map (λ (a : Arriving). 0 < a.moment) (new_arriving b) b.arrivals (recursion_from_All (λ (a : Arrival). 1 ≤ arrival_moment b a) b.arrivals later)))

pub arrivals-ahead : (b : PlainBoard) (journal : List Entry) (s : State) → IsProper b → All (λ a. 1 ≤ arrival_moment b a) b.arrivals → IsRun b (open_state b) journal s → All (λ a. s.moment < a.moment) s.arrivals
arrivals-ahead b journal s proper later run = All-from_recursion (λ (a : Arriving). s.moment < a.moment) s.arrivals ((reached-follows b journal s proper run).ahead (opened-ahead b proper later))

-- priorities and bindings of the board's threads
own-levelled : (b : PlainBoard) (name : List ℕ) (prio : Option ℕ) → IfSome prio (λ p. p < b.levels) → AreLevelled b (own_threads name prio)
own-levelled b name None below = tt
own-levelled b name (Some prio) below = ((below, λ core is. absurd cc), tt)

bound : (cores : ℕ) (core : Option ℕ) → IfSome core (λ c. c < cores) → (c : ℕ) → core ≡ Some c → c < cores
bound cores None below c is = absurd cc
bound cores (Some core) below c is = subst (λ n. n < cores) (some-is core c is) below

scripts-levelled : (b : PlainBoard) (defs : List ThreadDef) → AllByRecursion (λ (def : ThreadDef). def.prio < b.levels) defs → AllByRecursion (λ (def : ThreadDef). IfSome def.core (λ core. core < b.cores)) defs → AreLevelled b (map new_script_thread defs)
scripts-levelled b [] bases bindings = tt
scripts-levelled b (def ∷ defs) bases bindings = ((bases.0, bound b.cores def.core bindings.0), scripts-levelled b defs bases.1 bindings.1)

news-levelled : (b : PlainBoard) → IsLevelled b → AreLevelled b (new_threads b)
news-levelled b has = all-append (IsLevelledThread b) (own_threads (codes "tshell") b.shell ++ own_threads (codes "tsoft") b.soft) (map new_script_thread b.threads)
    (all-append (IsLevelledThread b) (own_threads (codes "tshell") b.shell) (own_threads (codes "tsoft") b.soft) (own-levelled b (codes "tshell") b.shell has.shell) (own-levelled b (codes "tsoft") b.soft has.soft))
    (scripts-levelled b b.threads (recursion_from_All (λ (def : ThreadDef). def.prio < b.levels) b.threads has.bases) (recursion_from_All (λ (def : ThreadDef). IfSome def.core (λ core. core < b.cores)) b.threads has.bindings))

reached-levelled : (b : PlainBoard) (journal : List Entry) (s : State) → IsProper b → IsLevelled b → IsRun b (open_state b) journal s → AreLevelled b s.threads
reached-levelled b journal s proper has run = (reached-follows b journal s proper run).levelled has ((opened-leaves b).levelled has (news-levelled b has))

-- the least of a number and others is no more than that number
least-first : (n : ℕ) (ns : List ℕ) → least n ns ≤ n
least-first n [] = omega arith
least-first n (m ∷ ns) = omega (arith, least-first (min n m) ns)

-- a current priority is at least as urgent as the base
pub cur-base : (s : State) (t : ℕ) → t < length s.threads → cur s t ≤ (thread_at s t).base
cur-base s t there = omega (arith, least-first (urgency_of (graph_of s) t) (map (urgency_of (graph_of s)) (reach (graph_of s) t)), own, least-first (thread_at s t).base (ceilings_of s t)) where
  own : urgency_of (graph_of s) t ≡ own_urgency s t
  own = get_or-map-range_with_len (own_urgency s) 0 (length s.threads) t t 0 there (omega arith)

pub priorities-below : (b : PlainBoard) (journal : List Entry) (s : State) (t : ℕ) → IsProper b → IsLevelled b → IsRun b (open_state b) journal s → t < length s.threads → cur s t < b.levels
priorities-below b journal s t proper has run there = omega (arith, cur-base s t there, (all-in (IsLevelledThread b) s.threads t no_thread there (reached-levelled b journal s proper has run)).0)

pub bindings-below : (b : PlainBoard) (journal : List Entry) (s : State) (t core : ℕ) → IsProper b → IsLevelled b → IsRun b (open_state b) journal s → t < length s.threads → (thread_at s t).core ≡ Some core → core < b.cores
bindings-below b journal s t core proper has run there is = (all-in (IsLevelledThread b) s.threads t no_thread there (reached-levelled b journal s proper has run)).1 core is
