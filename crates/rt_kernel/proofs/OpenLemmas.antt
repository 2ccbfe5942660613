-- A built board at its opening.
use Rattle.std.proofs.Common.{◌≡◌, ℕ, arith, List, [], ◌∷◌, Option, Some, None, not, refl, sym, ap, ◌∙◌, subst, IsTrue, map, filter, reverse, replicate, ◌≤◌, ◌<◌}
use Rattle.std.specs.List.{AllByRecursion}
use Rattle.rt_base.specs.declared.codes.RunMode.{RunMode}
use Rattle.rt_plain.specs.declared.board.ThreadDef.{ThreadDef}
use Rattle.rt_plain.specs.PlainBoard.{PlainBoard}
use Rattle.rt_plain.specs.kernel.State.{State, is_initial, thread_at, thread_numbers}
use Rattle.rt_plain.specs.kernel.Opening.{new_pool, new_timer, unstarted_state, open_state}
use Rattle.kernel_timers.specs.Alarmed.{AlarmsSeen}
use Rattle.kernel_timers.specs.Arming.{MayOpen as MayOpenTimers, started}
use Rattle.rt_kernel.proofs.TimersOpened.{auto_started}
use Rattle.std.proofs.lemmas.List.Elements.{All-weaker}
use Rattle.rt_plain.specs.declared.board.TimerDef.{TimerDef}
use Rattle.rt_plain.specs.kernel.Kept.{Kept}
use Rattle.rt_plain.proofs.kernel.TickLemmas.{still}
use Rattle.rt_plain.proofs.kernel.OpenLemmas.{opened-kept}
use Rattle.std.specs.Prelude.{◌<◌, IfSome}
use Rattle.std.proofs.lemmas.List.Elements.{recursion_from_All}
use Rattle.rt_plain.specs.kernel.Sound.{IsLevelled, is_timed_action}
use Rattle.ready_set.specs.ReadyLists.{IsBinding}
use Rattle.rt_kernel.specs.declared.state.State.{State as KernelState}
use Rattle.rt_kernel.specs.Built.{IsBuilt}
use Rattle.rt_kernel.specs.IsKernel.{frame_of}
use Rattle.kernel_cores.specs.PlainCores.{idle_cores}
use Rattle.kernel_tables.specs.Opened.{MayOpen}
use Rattle.mutex_tables.specs.Opened.{MayOpenAll, opened as opened_tables}
use Rattle.rt_kernel.specs.Mutexes.{HasNoMutex}
use Rattle.kernel_devices.specs.Deviced.{opened as opened_devices}
use Rattle.rt_kernel.specs.View.{state_of}
use Rattle.rt_kernel.proofs.KeptLemmas.{loosened}

-- its timers, and which of them are armed
abbrev pub first_alarms : PlainBoard → AlarmsSeen
first_alarms b = record { moment = 0; timers = reverse (map new_timer b.timers); rows = (started b.timers).rows }

-- all but the ready threads
abbrev filled : State → State
filled s = record s { ready = filter (λ t. not (is_initial (thread_at s t).stage)) (thread_numbers s) }

-- the state of a board before the first statement, by what it stands for
pub opened : (b : PlainBoard) (k : KernelState) → IsBuilt b → k.numbers ≡ (started b.timers).numbers → k.tables ≡ opened_tables b → k.cores ≡ idle_cores b.cores → k.armed ≡ first_alarms b → k.devices ≡ opened_devices b → k.pools ≡ reverse (map new_pool b.pools) → k.votes.votes ≡ replicate 6 0 → k.run_mode ≡ RunMode.Normal → state_of k ≡ open_state b
unfolding open_state
opened b k built numbers tables cores armed devices pools votes mode = before ∙ ap filled (sym (auto_started b.timers (unstarted_state b))) where
  before : state_of k ≡ filled (record (unstarted_state b) { armed = (started b.timers).rows; numbers = (started b.timers).numbers })
  before = rw (numbers, tables, cores, armed, devices, pools, votes, mode, built.shell, built.soft, built.mutexes) refl

-- there is no mutex
pub opened_free : (b : PlainBoard) (s : State) → IsBuilt b → s ≡ open_state b → HasNoMutex s
unfolding open_state
opened_free b s built is = (ap (λ (u : State). u.holdings) (is ∙ ap filled (auto_started b.timers (unstarted_state b))), ap (λ (u : State). u.mutexes) (is ∙ ap filled (auto_started b.timers (unstarted_state b))) ∙ rw built.mutexes refl)

pub opened_kept : (b : PlainBoard) (s : State) → IsBuilt b → s ≡ open_state b → Kept (frame_of b s) s
opened_kept b s built is = subst (λ (u : State). Kept (frame_of b u) u) (sym is) (loosened (still b 0) (open_state b) kept (omega (arith, kept.moment_is)) (omega (arith, built.until))) where
  kept : Kept (still b 0) (open_state b)
  kept = opened-kept b built.proper

-- each thread has a level and a core of the board
levelled-threads : (b : PlainBoard) → IsLevelled b → AllByRecursion (λ (def : ThreadDef). (def.prio < b.levels) × IsBinding b.cores def.core) b.threads
levelled-threads b levelled = each b.threads (recursion_from_All (λ (def : ThreadDef). def.prio < b.levels) b.threads levelled.bases) (recursion_from_All (λ (def : ThreadDef). IfSome def.core (λ core. core < b.cores)) b.threads levelled.bindings) where
  binding : (core : Option ℕ) → IfSome core (λ c. c < b.cores) → IsBinding b.cores core
  binding None h = tt
  binding (Some c) h = h

  each : (defs : List ThreadDef) → AllByRecursion (λ (def : ThreadDef). def.prio < b.levels) defs → AllByRecursion (λ (def : ThreadDef). IfSome def.core (λ core. core < b.cores)) defs → AllByRecursion (λ (def : ThreadDef). (def.prio < b.levels) × IsBinding b.cores def.core) defs
  each [] bases bindings = tt
  each (def ∷ defs) bases bindings = ((bases.0, binding def.core bindings.0), each defs bases.1 bindings.1)

-- the tables of a built board may be opened
pub may_open : (b : PlainBoard) → IsBuilt b → MayOpenAll b
may_open b built =
    let tables : MayOpen b = record { few = built.few; depth = built.depth; threads = levelled-threads b built.levelled; objects = built.objects } in
    record { tables = tables; room = built.mutex_room; names = built.mutex_names }

-- and its timers
pub may_open_timers : (b : PlainBoard) → IsBuilt b → MayOpenTimers b.timers
may_open_timers b built = record {
  few = built.few_timers;
  apart = built.proper.names;
  timed = All-weaker (λ (def : TimerDef). (1 ≤ def.time) × (def.time ≤ 2147483647) × IsTrue (is_timed_action def.call)) (λ (def : TimerDef). (1 ≤ def.time) × (def.time ≤ 2147483647)) (λ def is. (is.0, is.1)) b.timers built.proper.timers;
}

pub ruleset opens = (may_open, may_open_timers)
