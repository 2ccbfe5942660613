-- What the devices send in a tick.
use Rattle.std.proofs.Common.{ℕ, zero, suc, ◌≡◌, ◌+◌, ◌-◌, ◌<◌, ◌≤◌, List, [], ◌∷◌, ◌++◌, length, map, reverse, take, drop, set, Bool, true, false, cond, Option, Some, None, refl, sym, ap, ◌∙◌, arith, append_assoc, length-append}
use Rattle.std.specs.List.{flat_map}
use Rattle.std.proofs.Math.Seq.{drop-cons}
use Rattle.std.proofs.lemmas.List.{reverse-append, length-drop, length-reverse, append-nil}
use Rattle.std.proofs.lemmas.List.Concat.{flat_map-append}
use Rattle.rt_plain.specs.declared.line.Line.{Line}
use Rattle.rt_plain.specs.kernel.DeviceCalls.{is_sending}
use Rattle.rt_plain.specs.kernel.State.{Device}
use Rattle.kernel_devices.specs.Acts.{device_after_sending, sent_lines, sent_text}
use Rattle.kernel_devices.specs.Deviced.{DevicesSeen, no_device, device_at}

-- the lines of one device, by the bytes that it sent

abbrev pub lines_of : List ℕ → Option (List ℕ) → List Line
lines_of name None = []
lines_of name (Some text) = Line.Tx name text ∷ []

pub lines-are : (name : List ℕ) (device : Device) (o : Option (List ℕ)) → name ≡ device.name → o ≡ sent_text device → lines_of name o ≡ sent_lines device
lines-are name device o named is = ap (λ (n : List ℕ). lines_of n o) named ∙ by_test (is_sending device) is
  where
    by_test : (c : Bool) → o ≡ cond c (Some (take device.rate device.tx)) None → lines_of device.name o ≡ cond c (Line.Tx device.name (take device.rate device.tx) ∷ []) []
    by_test true e = ap (lines_of device.name) e
    by_test false e = ap (lines_of device.name) e

few-lines : (device : Device) → length (sent_lines device) ≤ 1
few-lines device = by_test (is_sending device)
  where
    by_test : (c : Bool) → length (cond c (Line.Tx device.name (take device.rate device.tx) ∷ []) []) ≤ 1
    by_test true = omega arith
    by_test false = omega arith

pub few-sent : (devices : List Device) → length (flat_map sent_lines devices) ≤ length devices
few-sent [] = omega arith
few-sent (d ∷ ds) = omega (arith, few-lines d, few-sent ds, length-append (sent_lines d) (flat_map sent_lines ds))

-- the devices from a place on have sent, those in front of it haven't

abbrev pub mixed : ℕ → List Device → List Device
mixed place devices = take place devices ++ map device_after_sending (drop place devices)

pub mixed-length : (place : ℕ) (devices : List Device) → length (mixed place devices) ≡ length devices
mixed-length zero [] = refl
mixed-length zero (d ∷ ds) = ap suc (mixed-length zero ds)
mixed-length (suc place) [] = refl
mixed-length (suc place) (d ∷ ds) = ap suc (mixed-length place ds)

pub mixed-at : (place : ℕ) (devices : List Device) → place < length devices → device_at (mixed (suc place) devices) place ≡ device_at devices place
mixed-at place [] there = absurd (omega (arith, there))
mixed-at zero (d ∷ ds) there = refl
mixed-at (suc place) (d ∷ ds) there = mixed-at place ds (omega (arith, there))

pub mixed-step : (place : ℕ) (devices : List Device) → place < length devices → set (mixed (suc place) devices) place (device_after_sending (device_at (mixed (suc place) devices) place)) ≡ mixed place devices
mixed-step place [] there = absurd (omega (arith, there))
mixed-step zero (d ∷ ds) there = refl
mixed-step (suc place) (d ∷ ds) there = ap (λ (l : List Device). d ∷ l) (mixed-step place ds (omega (arith, there)))

pub mixed-none : (devices : List Device) → mixed (length devices) devices ≡ devices
mixed-none [] = refl
mixed-none (d ∷ ds) = ap (λ (l : List Device). d ∷ l) (mixed-none ds)

pub lines-none : (devices : List Device) → drop (length devices) devices ≡ []
lines-none [] = refl
lines-none (d ∷ ds) = lines-none ds

pub lines-step : (place : ℕ) (devices : List Device) → place < length devices → flat_map sent_lines (reverse (drop place devices)) ≡ flat_map sent_lines (reverse (drop (suc place) devices)) ++ sent_lines (device_at devices place)
lines-step place devices there =
    let x = device_at devices place in
    let xs = drop (suc place) devices in
    ap (λ (l : List Device). flat_map sent_lines (reverse l)) (drop-cons devices place no_device there)
    ∙ ap (flat_map sent_lines) (reverse-append (x ∷ []) xs)
    ∙ flat_map-append sent_lines (reverse xs) (x ∷ [])
    ∙ ap (λ (l : List Line). flat_map sent_lines (reverse xs) ++ l) (append-nil (sent_lines x))

-- so far, where the last ones have sent
pub record Sent (before after : DevicesSeen) (shown_before shown : List Line) (room_before room done : ℕ) : Type 0 where
  pub few : done ≤ length before.devices
  pub devices : after ≡ record before { devices = mixed (length before.devices - done) before.devices }
  pub lines : shown ≡ shown_before ++ flat_map sent_lines (reverse (drop (length before.devices - done) before.devices))
  pub room_is : room ≡ room_before

pub sent-none : (before : DevicesSeen) (shown : List Line) (room : ℕ) → Sent before before shown shown room room 0
sent-none before shown room =
    let all : length before.devices - 0 ≡ length before.devices = omega arith in
    record {
      few = omega arith;
      devices = sym (ap (λ k. (let s : DevicesSeen = record { devices = mixed k before.devices; arrivals = before.arrivals } in s)) all ∙ ap (λ (l : List Device). (let s : DevicesSeen = record { devices = l; arrivals = before.arrivals } in s)) (mixed-none before.devices));
      lines = sym (ap (λ k. shown ++ flat_map sent_lines (reverse (drop k before.devices))) all ∙ ap (λ (l : List Device). shown ++ flat_map sent_lines (reverse l)) (lines-none before.devices) ∙ append-nil shown);
      room_is = refl;
    }

pub sent-there : (before after : DevicesSeen) (shown_before shown : List Line) (room_before room done : ℕ) → Sent before after shown_before shown room_before room done → done < length before.devices → length before.devices - 1 - done < length after.devices
sent-there before after shown_before shown room_before room done sent there =
    let same : length after.devices ≡ length before.devices = ap (λ (s : DevicesSeen). length s.devices) sent.devices ∙ mixed-length (length before.devices - done) before.devices in
    omega (arith, same, there)

pub sent-room : (before after : DevicesSeen) (shown_before shown : List Line) (room_before room done : ℕ) → Sent before after shown_before shown room_before room done → done < length before.devices → length shown_before + length before.devices ≤ room_before → length shown < room
sent-room before after shown_before shown room_before room done sent there enough =
    let rest = drop (length before.devices - done) before.devices in
    omega (
      arith,
      there,
      enough,
      sent.room_is,
      ap length sent.lines,
      length-append shown_before (flat_map sent_lines (reverse rest)),
      few-sent (reverse rest),
      length-reverse rest,
      length-drop (length before.devices - done) before.devices,
    )

pub sent-more : (before after next : DevicesSeen) (shown_before shown shown_next : List Line) (room_before room room_next done place : ℕ) → Sent before after shown_before shown room_before room done → done < length before.devices → place ≡ length before.devices - 1 - done →
    next ≡ record after { devices = set after.devices place (device_after_sending (device_at after.devices place)) } → shown_next ≡ shown ++ sent_lines (device_at after.devices place) → room_next ≡ room → Sent before next shown_before shown_next room_before room_next (done + 1)
sent-more before after next shown_before shown shown_next room_before room room_next done place sent there place_is next_is shown_is room_is =
    let n = length before.devices in
    let within : place < n = omega (arith, there, place_is) in
    let here : n - done ≡ suc place = omega (arith, there, place_is) in
    let fewer : n - (done + 1) ≡ place = omega (arith, there, place_is) in
    let mix : after ≡ record before { devices = mixed (suc place) before.devices } = sent.devices ∙ ap (λ k. (let s : DevicesSeen = record { devices = mixed k before.devices; arrivals = before.arrivals } in s)) here in
    let at : device_at after.devices place ≡ device_at before.devices place = ap (λ (s : DevicesSeen). device_at s.devices place) mix ∙ mixed-at place before.devices within in
    record {
      few = omega (arith, there);
      devices =
          next_is
          ∙ ap (λ (s : DevicesSeen). record s { devices = set s.devices place (device_after_sending (device_at s.devices place)) }) mix
          ∙ ap (λ (l : List Device). (let s : DevicesSeen = record { devices = l; arrivals = before.arrivals } in s)) (mixed-step place before.devices within)
          ∙ ap (λ k. (let s : DevicesSeen = record { devices = mixed k before.devices; arrivals = before.arrivals } in s)) (sym fewer);
      lines =
          shown_is
          ∙ ap (λ (l : List Line). l ++ sent_lines (device_at after.devices place)) (sent.lines ∙ ap (λ k. shown_before ++ flat_map sent_lines (reverse (drop k before.devices))) here)
          ∙ ap (λ (d : Device). (shown_before ++ flat_map sent_lines (reverse (drop (suc place) before.devices))) ++ sent_lines d) at
          ∙ append_assoc shown_before (flat_map sent_lines (reverse (drop (suc place) before.devices))) (sent_lines (device_at before.devices place))
          ∙ ap (λ (l : List Line). shown_before ++ l) (sym (lines-step place before.devices within))
          ∙ ap (λ k. shown_before ++ flat_map sent_lines (reverse (drop k before.devices))) (sym fewer);
      room_is = room_is ∙ sent.room_is;
    }

pub sent-all : (before after : DevicesSeen) (shown_before shown : List Line) (room_before room done : ℕ) → Sent before after shown_before shown room_before room done → length before.devices ≤ done →
    (after ≡ record before { devices = map device_after_sending before.devices }) × ((shown ≡ shown_before ++ flat_map sent_lines (reverse before.devices)) × (room ≡ room_before))
sent-all before after shown_before shown room_before room done sent all =
    let none : length before.devices - done ≡ 0 = omega (arith, all) in (
      sent.devices ∙ ap (λ k. (let s : DevicesSeen = record { devices = mixed k before.devices; arrivals = before.arrivals } in s)) none,
      (sent.lines ∙ ap (λ k. shown_before ++ flat_map sent_lines (reverse (drop k before.devices))) none, sent.room_is),
    )
