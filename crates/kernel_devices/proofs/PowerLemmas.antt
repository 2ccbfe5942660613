-- What the devices with power management show, one after the other.
use Rattle.std.proofs.Common.{ℕ, suc, ◌≡◌, ◌+◌, ◌-◌, ◌<◌, ◌≤◌, List, [], ◌∷◌, ◌++◌, length, map, filter, reverse, take, Bool, true, false, cond, refl, sym, ap, ◌∙◌, arith, append_assoc, length-append}
use Rattle.std.specs.List.{flat_map}
use Rattle.std.proofs.Math.Seq.{take-suc}
use Rattle.std.proofs.lemmas.List.{reverse-append, reverse-reverse, take_all, append-nil, get_or-reverse, length-take}
use Rattle.std.proofs.lemmas.List.Concat.{flat_map-append}
use Rattle.std.proofs.lemmas.List.Elements.{filter-append}
use Rattle.rt_plain.specs.declared.line.Line.{Line}
use Rattle.rt_plain.specs.kernel.State.{Device}
use Rattle.kernel_devices.specs.Deviced.{no_device, device_at}

-- the line of a device, where it has power management
abbrev pub powered : (Device → Line) → Device → List Line
powered line device = cond device.pm (line device ∷ []) []

few : (line : Device → Line) (device : Device) → length (powered line device) ≤ 1
few line device = by_test device.pm
  where
    by_test : (c : Bool) → length (cond c (line device ∷ []) []) ≤ 1
    by_test true = omega arith
    by_test false = omega arith

few-shown : (line : Device → Line) (devices : List Device) → length (flat_map (powered line) devices) ≤ length devices
few-shown line [] = omega arith
few-shown line (d ∷ ds) = omega (arith, few line d, few-shown line ds, length-append (powered line d) (flat_map (powered line) ds))

-- so far, where the first ones have been shown
pub record Shown (line : Device → Line) (devices : List Device) (before shown : List Line) (room_before room done : ℕ) : Type 0 where
  pub within : done ≤ length devices
  pub lines : shown ≡ before ++ flat_map (powered line) (take done devices)
  pub room_is : room ≡ room_before

pub shown-none : (line : Device → Line) (devices : List Device) (before : List Line) (room : ℕ) → Shown line devices before before room room 0
shown-none line devices before room = record { within = omega arith; lines = sym (append-nil before); room_is = refl }

pub shown-room : (line : Device → Line) (devices : List Device) (before shown : List Line) (room_before room done : ℕ) → Shown line devices before shown room_before room done → done < length devices → length before + length devices ≤ room_before → length shown < room
shown-room line devices before shown room_before room done so_far there enough =
    omega (
      arith,
      there,
      enough,
      so_far.room_is,
      ap length so_far.lines,
      length-append before (flat_map (powered line) (take done devices)),
      few-shown line (take done devices),
      length-take done devices,
    )

pub shown-more : (line : Device → Line) (devices : List Device) (device : Device) (before shown next : List Line) (room_before room room_next done : ℕ) → Shown line devices before shown room_before room done → done < length devices → device ≡ device_at devices done →
    next ≡ shown ++ powered line device → room_next ≡ room → Shown line devices before next room_before room_next (done + 1)
shown-more line devices device before shown next room_before room room_next done so_far there is next_is room_is =
    let x = device_at devices done in
    let one : suc done ≡ done + 1 = omega arith in
    record {
      within = omega (arith, there);
      lines =
          next_is
          ∙ ap (λ (d : Device). shown ++ powered line d) is
          ∙ ap (λ (l : List Line). l ++ powered line x) so_far.lines
          ∙ append_assoc before (flat_map (powered line) (take done devices)) (powered line x)
          ∙ ap (λ (l : List Line). before ++ (flat_map (powered line) (take done devices) ++ l)) (sym (append-nil (powered line x)))
          ∙ ap (λ (l : List Line). before ++ l) (sym (flat_map-append (powered line) (take done devices) (x ∷ [])))
          ∙ ap (λ (l : List Device). before ++ flat_map (powered line) l) (sym (take-suc devices done no_device there))
          ∙ ap (λ n. before ++ flat_map (powered line) (take n devices)) one;
      room_is = room_is ∙ so_far.room_is;
    }

each-shown : (line : Device → Line) (devices : List Device) → flat_map (powered line) devices ≡ map line (filter (λ d. d.pm) devices)
each-shown line [] = refl
each-shown line (d ∷ ds) = by_test d.pm (each-shown line ds)
  where
    by_test : (c : Bool) → flat_map (powered line) ds ≡ map line (filter (λ e. e.pm) ds) → cond c (line d ∷ []) [] ++ flat_map (powered line) ds ≡ map line (cond c (d ∷ filter (λ e. e.pm) ds) (filter (λ e. e.pm) ds))
    by_test true rest = ap (λ (l : List Line). line d ∷ l) rest
    by_test false rest = rest

pub shown-all : (line : Device → Line) (devices : List Device) (before shown : List Line) (room_before room done : ℕ) → Shown line devices before shown room_before room done → length devices ≤ done → shown ≡ before ++ map line (filter (λ d. d.pm) devices)
shown-all line devices before shown room_before room done so_far all =
    so_far.lines
    ∙ ap (λ (l : List Device). before ++ flat_map (powered line) l) (take_all done devices all)
    ∙ ap (λ (l : List Line). before ++ l) (each-shown line devices)

-- in the order of registration, and the other way round

filter-reverse : (p : Device → Bool) (devices : List Device) → filter p (reverse devices) ≡ reverse (filter p devices)
filter-reverse p [] = refl
filter-reverse p (d ∷ ds) =
    ap (filter p) (reverse-append (d ∷ []) ds)
    ∙ filter-append p (reverse ds) (d ∷ [])
    ∙ ap (λ (l : List Device). l ++ filter p (d ∷ [])) (filter-reverse p ds)
    ∙ by_test (p d)
  where
    by_test : (c : Bool) → reverse (filter p ds) ++ cond c (d ∷ []) [] ≡ reverse (cond c (d ∷ filter p ds) (filter p ds))
    by_test true = sym (reverse-append (d ∷ []) (filter p ds))
    by_test false = append-nil (reverse (filter p ds))

pub resumed-in-order : (devices : List Device) → filter (λ d. d.pm) devices ≡ reverse (filter (λ d. d.pm) (reverse devices))
resumed-in-order devices = sym (ap reverse (filter-reverse (λ d. d.pm) devices) ∙ reverse-reverse (filter (λ d. d.pm) devices))

pub registered-at : (devices : List Device) (done : ℕ) → done < length devices → device_at devices (length devices - 1 - done) ≡ device_at (reverse devices) done
registered-at devices done there = sym (get_or-reverse devices done no_device there)
