-- What arrives, by what the devices say of it.
use Rattle.std.proofs.Common.{◌≡◌, ℕ, zero, suc, ◌+◌, ◌<◌, arith, List, [], ◌∷◌, ◌++◌, Option, Some, None, IfSome, MatchOption, Bool, true, false, cond, refl, sym, ap, ◌∙◌, subst, length, length-append, slice_index_or}
use Rattle.std.specs.List.{find, position_from, range_with_len}
use Rattle.std.specs.Option.{option_map}
use Rattle.std.specs.Prelude.{if◌then◌else◌}
use Rattle.std.specs.Str.{bytes_eq}
use Rattle.rt_plain.specs.declared.line.Line.{Line}
use Rattle.rt_plain.specs.PlainBoard.{PlainBoard}
use Rattle.rt_plain.specs.kernel.State.{State, Stage, Waiting, AtConsole, Thread, Device, Arriving, no_thread, thread_at, thread_numbers}
use Rattle.rt_plain.specs.kernel.Priority.{awaited_mutex}
use Rattle.rt_plain.specs.kernel.Effects.{Effect, and_then, line_effect, effect_for, retry_wake_effect}
use Rattle.rt_plain.specs.kernel.Kept.{Frame, Kept}
use Rattle.rt_plain.specs.kernel.DeviceCalls.{find_device, lost_count, with_device, console_waiter, waits_at_console, indication_effect, notice_effect, arrival_effect_at, ring_after}
use Rattle.rt_plain.proofs.kernel.WakeLemmas.{console-waiter-waits, for-kept, found-passes, retry_wake-kept}
use Rattle.rt_plain.proofs.kernel.ObjectLemmas.{sem_release-kept}
use Rattle.rt_plain.proofs.kernel.StatementLemmas.{if-effect}
use Rattle.rt_plain.proofs.text.FieldLemmas.{is_word}
use Rattle.rt_plain.proofs.text.StatementTableLemmas.{find_some}
use Rattle.kernel_devices.specs.declared.device.Arrived.{Arrived}
use Rattle.kernel_devices.specs.Acts.{always, arrival_answer, device_after_arrival, devices_after}
use Rattle.kernel_devices.specs.Deviced.{DevicesSeen, arrivals_at, found_device}
use Rattle.kernel_tables.specs.Repeated.{is_repeated}
use Rattle.rt_kernel.specs.declared.state.State.{State as KernelState}
use Rattle.rt_kernel.specs.IsKernel.{frame_of}
use Rattle.rt_kernel.specs.Notice.{TakesArrival, notice_by}
use Rattle.rt_kernel.specs.View.{state_of}
use Rattle.rt_kernel.proofs.ChannelQuiet.{quiet-retry}
use Rattle.rt_kernel.proofs.KeptLemmas.{still-now}
use Rattle.rt_kernel.proofs.ObjectQuiet.{quiet-sem_release}
use Rattle.rt_kernel.proofs.PrioLemmas.{IsFoundAt, found_at}
use Rattle.rt_kernel.proofs.DeviceQuiet.{quiet-devices}
use Rattle.rt_kernel.proofs.Quiet.{IsApart, IsQuiet, quiet-self, quiet-then}

abbrev pub at_console : Thread → Bool
at_console row = waits_at_console row.stage

-- the first number whose row passes, by the rows behind a front
found-from : (front rows : List Thread) (i : ℕ) → i ≡ length front → find (λ t. at_console (slice_index_or (front ++ rows) t no_thread)) (range_with_len i (length rows)) ≡ position_from at_console i rows
found-from front [] i is = refl
found-from front (row ∷ rows) i is =
    ap (λ (c : Bool). cond c (Some i) (find (λ t. at_console (slice_index_or (front ++ row ∷ rows) t no_thread)) (range_with_len (i + 1) (length rows)))) (ap at_console (here front i is))
    ∙ ap (cond (at_console row) (Some i)) (
    ap (λ (all : List Thread). find (λ t. at_console (slice_index_or all t no_thread)) (range_with_len (i + 1) (length rows))) (again front)
    ∙ found-from (front ++ row ∷ []) rows (i + 1) (ap (λ n. n + 1) is ∙ longer front)
    ) where
      here : (front : List Thread) (n : ℕ) → n ≡ length front → slice_index_or (front ++ row ∷ rows) n no_thread ≡ row
      here [] zero is = refl
      here [] (suc n) is = absurd (omega (arith, is))
      here (x ∷ xs) zero is = absurd (omega (arith, is))
      here (x ∷ xs) (suc n) is = here xs n (omega (arith, is))

      again : (front : List Thread) → front ++ row ∷ rows ≡ (front ++ row ∷ []) ++ rows
      again [] = refl
      again (x ∷ xs) = ap (λ (ys : List Thread). x ∷ ys) (again xs)

      longer : (front : List Thread) → length front + 1 ≡ length (front ++ row ∷ [])
      longer xs = omega (arith, length-append xs (row ∷ []))

-- the thread that waits for the console
pub waiter-is : (s : State) → position_from at_console 0 s.threads ≡ console_waiter s
waiter-is s = sym (found-from [] s.threads 0 refl)

repeats : (stage : Stage) → waits_at_console stage ≡ true → is_repeated stage ≡ true
repeats (Waiting AtConsole number) is = refl
repeats _ is = absurd cc

-- it waits for something that it goes for again
pub waiter-repeats : (threads : List Thread) (o : Option ℕ) → o ≡ position_from at_console 0 threads → IfSome o (λ t. is_repeated (slice_index_or threads t no_thread).stage ≡ true)
waiter-repeats threads None is = tt
waiter-repeats threads (Some t) is =
    let found : IsFoundAt at_console 0 threads t = found_at at_console 0 threads t (sym is) in
    let same : found.step ≡ t = omega (arith, found.at) in
    repeats (slice_index_or threads t no_thread).stage (subst (λ n. waits_at_console (slice_index_or threads n no_thread).stage ≡ true) same found.passes)

-- what is taken of the arrivals, as the plain state shows it
pub taken-arrival : (k : KernelState) (new : DevicesSeen) (moment : ℕ) (o : Option Arriving) → moment ≡ k.armed.moment
    → MatchOption o ((arrivals_at moment k.devices.arrivals ≡ []) × (new ≡ k.devices)) (λ a. (a.moment ≡ moment) × (k.devices ≡ record new { arrivals = a ∷ new.arrivals }))
    → TakesArrival (state_of k) (state_of (record k { devices = new })) o
taken-arrival k new moment None now is = (ap (λ (n : ℕ). arrivals_at n k.devices.arrivals) (sym now) ∙ is.0, ap (λ (d : DevicesSeen). state_of (record k { devices = d })) is.1)
taken-arrival k new moment (Some a) now is = (is.0 ∙ now, ap (λ (d : DevicesSeen). state_of (record k { devices = d })) is.1)

-- what the rules of the kernel keep holds behind an arrival
indicated-kept : (f : Frame) (s : State) (sem : Option (List ℕ)) → Kept f s → Kept f (indication_effect sem s).state
indicated-kept f s None kept = kept
indicated-kept f s (Some sem) kept = sem_release-kept f s sem kept

noticed-kept : (f : Frame) (s : State) (device : Device) → Kept f s → Kept f (notice_effect device s).state
noticed-kept f s device kept = if-effect f device.console _ _ (λ console. for-kept f retry_wake_effect (console_waiter s) s (λ t is. retry_wake-kept f s t (console-waiter-waits s t is) kept) kept) (λ serial. indicated-kept f s device.ind kept)

arrived-stays : (f : Frame) (s : State) (o : Option Device) (text : List ℕ) → Kept f s → Kept f (arrival_effect_at o text s).state
arrived-stays f s None text kept = kept
arrived-stays f s (Some device) text kept = noticed-kept f (with_device s (record device { rx = ring_after device text })) device kept

pub arrived-kept : (b : PlainBoard) (s : State) (o : Option Device) (text : List ℕ) → Kept (frame_of b s) s → Kept (frame_of b (arrival_effect_at o text s).state) (arrival_effect_at o text s).state
arrived-kept b s o text kept = still-now b s (arrival_effect_at o text s).state (arrived-stays (frame_of b s) s o text kept)

-- and nothing follows from it
indicated-quiet : (s : State) (sem : Option (List ℕ)) → IsQuiet s (indication_effect sem s).state
indicated-quiet s None = quiet-self s
indicated-quiet s (Some sem) = quiet-sem_release s sem

console-apart : (stage : Stage) → waits_at_console stage ≡ true → awaited_mutex stage ≡ None
console-apart (Waiting AtConsole number) is = refl
console-apart _ is = absurd cc

waiter-apart : (s : State) (t : ℕ) → console_waiter s ≡ Some t → IsApart s t
waiter-apart s t is = console-apart (thread_at s t).stage (found-passes (λ u. waits_at_console (thread_at s u).stage) (thread_numbers s) t is)

noticed-quiet : (s : State) (device : Device) → IsQuiet s (notice_effect device s).state
noticed-quiet s device = by_test device.console where
  by_test : (c : Bool) → IsQuiet s (if c then effect_for retry_wake_effect (console_waiter s) s else indication_effect device.ind s).state
  by_test true = quiet-retry s (console_waiter s) (waiter-apart s)
  by_test false = indicated-quiet s device.ind

pub arrived-quiet : (s : State) (o : Option Device) (text : List ℕ) → IsQuiet s (arrival_effect_at o text s).state
arrived-quiet s None text = quiet-self s
arrived-quiet s (Some device) text =
    let left : State = with_device s (record device { rx = ring_after device text }) in
    quiet-then s left _ (quiet-devices s left.devices) (noticed-quiet left device)

-- an arrival at a device that is there, by what came of it
pub arrives : (s : State) (new : DevicesSeen) (name text : List ℕ) (arrived : Arrived) → Some arrived ≡ option_map (arrival_answer text) (found_device s.devices name)
    → new ≡ record { devices = devices_after always (device_after_arrival text) (found_device s.devices name) s.devices; arrivals = s.arrivals }
    → arrival_effect_at (find_device s name) text s ≡ and_then (line_effect (record s { devices = new.devices; arrivals = new.arrivals }) (Line.Rx name text arrived.lost)) (notice_by arrived)
arrives s new name text arrived is devices = by_found (found_device s.devices name) refl is devices where
  by_found : (o : Option Device) → found_device s.devices name ≡ o → Some arrived ≡ option_map (arrival_answer text) o → new ≡ record { devices = devices_after always (device_after_arrival text) o s.devices; arrivals = s.arrivals }
      → arrival_effect_at o text s ≡ and_then (line_effect (record s { devices = new.devices; arrivals = new.arrivals }) (Line.Rx name text arrived.lost)) (notice_by arrived)
  by_found None found is devices = absurd cc
  by_found (Some d) found is devices =
      let named : d.name ≡ name = is_word d.name name (find_some (λ (o : Device). bytes_eq o.name name) s.devices d found) in
      let same : arrival_answer text d ≡ arrived = cc in
      ap (λ (n : List ℕ). and_then (line_effect (with_device s (record d { rx = ring_after d text })) (Line.Rx n text (lost_count d text))) (notice_by (arrival_answer text d))) named
      ∙ ap (λ (a : Arrived). and_then (line_effect (with_device s (record d { rx = ring_after d text })) (Line.Rx name text a.lost)) (notice_by a)) same
      ∙ ap (λ (x : DevicesSeen). and_then (line_effect (record s { devices = x.devices; arrivals = x.arrivals }) (Line.Rx name text arrived.lost)) (notice_by arrived)) (sym devices)
