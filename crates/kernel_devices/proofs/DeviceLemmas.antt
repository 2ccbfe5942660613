-- The devices by place and by name.
use Rattle.std.proofs.Common.{ℕ, zero, suc, ◌≡◌, ◌≢◌, ◌+◌, ◌<◌, List, [], ◌∷◌, length, Bool, true, false, cond, Option, Some, None, refl, sym, ap, ◌∙◌, subst, arith, set}
use Rattle.std.specs.Prelude.{slice_index_or}
use Rattle.std.specs.List.{AllPairs, position_from}
use Rattle.std.specs.Str.{bytes_eq}
use Rattle.std.proofs.Math.Seq.{map-set_same}
use Rattle.std.proofs.lemmas.Slice.Eq.{bytes_eq-Decides}
use Rattle.rt_plain.specs.kernel.State.{Device, Arriving}
use Rattle.kernel_devices.specs.Acts.{acted, devices_after}
use Rattle.kernel_devices.specs.Deviced.{DevicesSeen, no_device, device_at, found_device, put_device, names_of, IsDevice, IsDeviced}

name_differs : (a b : List ℕ) → a ≢ b → bytes_eq a b ≡ false
name_differs a b h = by_test (bytes_eq a b) refl
  where
    by_test : (c : Bool) → bytes_eq a b ≡ c → bytes_eq a b ≡ false
    by_test true e = absurd (h ((bytes_eq-Decides a b).0 e))
    by_test false e = e

if-true : {X : Type 0} (c : Bool) (x y : X) → c ≡ true → cond c x y ≡ x
if-true c x y e = ap (λ b. cond b x y) e

if-false : {X : Type 0} (c : Bool) (x y : X) → c ≡ false → cond c x y ≡ y
if-false c x y e = ap (λ b. cond b x y) e

-- the device of a name, by where it stands from a number on
record Place (devices : List Device) (name : List ℕ) (i o : ℕ) : Type 0 where
  k : ℕ
  is : o ≡ i + k
  device : IsDevice devices name k

place : (devices : List Device) (name : List ℕ) (i o : ℕ) → position_from (λ (d : Device). bytes_eq d.name name) i devices ≡ Some o → Place devices name i o
place [] name i o e = cc
place (d ∷ ds) name i o e = by_test (bytes_eq d.name name) refl e (place ds name (i + 1) o)
  where
    by_test : (c : Bool) → bytes_eq d.name name ≡ c → cond c (Some i) (position_from (λ (u : Device). bytes_eq u.name name) (i + 1) ds) ≡ Some o → (position_from (λ (u : Device). bytes_eq u.name name) (i + 1) ds ≡ Some o → Place ds name (i + 1) o) → Place (d ∷ ds) name i o
    by_test true is e rest =
        let same : i ≡ o = cc in
        record { k = 0; is = omega (arith, same); device = record { there = omega arith; named = (bytes_eq-Decides d.name name).0 is; found = if-true (bytes_eq d.name name) (Some d) (found_device ds name) is } }
    by_test false is e rest =
        let r = rest e in
        record { k = suc r.k; is = omega (arith, r.is); device = record { there = omega (arith, r.device.there); named = r.device.named; found = if-false (bytes_eq d.name name) (Some d) (found_device ds name) is ∙ r.device.found } }

pub found-at : (devices : List Device) (name : List ℕ) (o : ℕ) → position_from (λ (d : Device). bytes_eq d.name name) 0 devices ≡ Some o → IsDevice devices name o
found-at devices name o e =
    let p = place devices name 0 o e in
    let same : p.k ≡ o = omega (arith, p.is) in
    subst (IsDevice devices name) same p.device

pub found-none : (devices : List Device) (name : List ℕ) (i : ℕ) → position_from (λ (d : Device). bytes_eq d.name name) i devices ≡ None → found_device devices name ≡ None
found-none [] name i e = refl
found-none (d ∷ ds) name i e = by_test (bytes_eq d.name name) e (found-none ds name (i + 1))
  where
    by_test : (c : Bool) → cond c (Some i) (position_from (λ (u : Device). bytes_eq u.name name) (i + 1) ds) ≡ None → (position_from (λ (u : Device). bytes_eq u.name name) (i + 1) ds ≡ None → found_device ds name ≡ None) → cond c (Some d) (found_device ds name) ≡ None
    by_test true e rest = cc
    by_test false e rest = rest e

-- the names

pub name-at : (devices : List Device) (o : ℕ) → slice_index_or (names_of devices) o [] ≡ (device_at devices o).name
name-at [] o = refl
name-at (d ∷ ds) zero = refl
name-at (d ∷ ds) (suc o) = name-at ds o

-- another row for the device of a number is one for the device of its name

kept : (devices : List Device) (device : Device) → ((k : ℕ) → k < length devices → (device_at devices k).name ≢ device.name) → devices ≡ put_device devices device
kept [] device others = refl
kept (d ∷ ds) device others =
    ap (λ (l : List Device). d ∷ l) (kept ds device (λ k there. others (suc k) (omega (arith, there))))
    ∙ ap (λ (u : Device). u ∷ put_device ds device) (sym (if-false (bytes_eq d.name device.name) device d (name_differs d.name device.name (others 0 (omega arith)))))

pub names-length : (devices : List Device) → length (names_of devices) ≡ length devices
names-length [] = refl
names-length (d ∷ ds) = ap suc (names-length ds)

pub put-is : (devices : List Device) (o : ℕ) (device : Device) → AllPairs (λ one other. one ≢ other) (names_of devices) → o < length devices → device.name ≡ (device_at devices o).name → set devices o device ≡ put_device devices device
put-is [] o device apart there same = absurd (omega (arith, there))
put-is (d ∷ ds) zero device apart there same =
    ap (λ (l : List Device). device ∷ l) (kept ds device (λ k k_there is. apart 0 (suc k) [] (omega arith) (omega (arith, k_there, names-length ds)) (sym same ∙ sym is ∙ sym (name-at ds k))))
    ∙ ap (λ (u : Device). u ∷ put_device ds device) (sym (if-true (bytes_eq d.name device.name) device d ((bytes_eq-Decides d.name device.name).1 (sym same))))
put-is (d ∷ ds) (suc o) device apart there same =
    let differs : d.name ≢ device.name = λ is. apart 0 (suc o) [] (omega arith) (omega (arith, there, names-length ds)) (is ∙ same ∙ sym (name-at ds o)) in
    ap (λ (l : List Device). d ∷ l) (put-is ds o device (λ i j e before k_there. apart (suc i) (suc j) e (omega (arith, before)) (omega (arith, k_there))) (omega (arith, there)) same)
    ∙ ap (λ (u : Device). u ∷ put_device ds device) (sym (if-false (bytes_eq d.name device.name) device d (name_differs d.name device.name differs)))

pub names-set : (devices : List Device) (o : ℕ) (device : Device) → device.name ≡ (device_at devices o).name → names_of (set devices o device) ≡ names_of devices
names-set devices o device same = map-set_same (λ (d : Device). d.name) devices o device no_device same

pub set-same : (devices : List Device) (place : ℕ) → set devices place (device_at devices place) ≡ devices
set-same [] place = refl
set-same (d ∷ ds) zero = refl
set-same (d ∷ ds) (suc place) = ap (λ (l : List Device). d ∷ l) (set-same ds place)

set-length : (devices : List Device) (place : ℕ) (device : Device) → length (set devices place device) ≡ length devices
set-length [] place device = refl
set-length (d ∷ ds) zero device = refl
set-length (d ∷ ds) (suc place) device = ap suc (set-length ds place device)

pub at-default : (devices : List Device) (place : ℕ) (other : Device) → place < length devices → slice_index_or devices place other ≡ device_at devices place
at-default [] place other there = absurd (omega (arith, there))
at-default (d ∷ ds) zero other there = refl
at-default (d ∷ ds) (suc place) other there = at-default ds place other (omega (arith, there))

-- what always holds stays so, where a device is changed and keeps its name

pub still-deviced : (devices : List Device) (arrivals : List Arriving) (place : ℕ) (device : Device) → device.name ≡ (device_at devices place).name → IsDeviced devices arrivals → IsDeviced (set devices place device) arrivals
still-deviced devices arrivals place device same is = record {
  few = omega (arith, is.few, set-length devices place device);
  apart = subst (λ (ns : List (List ℕ)). AllPairs (λ one other. one ≢ other) ns) (sym (names-set devices place device same)) is.apart;
  in_order = is.in_order;
}

-- a call on the device of a place is one on that of its name

acted-at : (devices : List Device) (place : ℕ) (may : Device → Bool) (act : Device → Device) → AllPairs (λ one other. one ≢ other) (names_of devices) → place < length devices → (act (device_at devices place)).name ≡ (device_at devices place).name → (c : Bool) → set devices place (cond c (act (device_at devices place)) (device_at devices place)) ≡ cond c (put_device devices (act (device_at devices place))) devices
acted-at devices place may act apart there keeps true = put-is devices place (act (device_at devices place)) apart there keeps
acted-at devices place may act apart there keeps false = set-same devices place

acted-name : (may : Device → Bool) (act : Device → Device) (device : Device) → (act device).name ≡ device.name → (acted may act device).name ≡ device.name
acted-name may act device keeps = by_test (may device)
  where
    by_test : (c : Bool) → (cond c (act device) device).name ≡ device.name
    by_test true = keeps
    by_test false = refl

pub after-kept : (seen : DevicesSeen) (items : List Device) (left : List Arriving) (name : List ℕ) (place : ℕ) (may : Device → Bool) (act : Device → Device) (was now : Device) →
    record { devices = items; arrivals = left } ≡ seen → IsDeviced items left → IsDevice seen.devices name place → was ≡ slice_index_or items place was → now ≡ acted may act was → ((d : Device) → (act d).name ≡ d.name) → IsDeviced (set items place now) left
after-kept seen items left name place may act was now view kept_before is was_is now_is keeps =
    let there : place < length items = omega (arith, is.there, ap (λ (s : DevicesSeen). length s.devices) view) in
    let at : was ≡ device_at items place = was_is ∙ at-default items place was there in
    still-deviced items left place now (ap (λ (d : Device). d.name) now_is ∙ acted-name may act was (keeps was) ∙ ap (λ (d : Device). d.name) at) kept_before

pub after-seen : (seen : DevicesSeen) (items : List Device) (left : List Arriving) (name : List ℕ) (place : ℕ) (may : Device → Bool) (act : Device → Device) (was now : Device) →
    record { devices = items; arrivals = left } ≡ seen → IsDeviced items left → IsDevice seen.devices name place → was ≡ slice_index_or items place was → now ≡ acted may act was → ((d : Device) → (act d).name ≡ d.name) →
    record { devices = set items place now; arrivals = left } ≡ record seen { devices = devices_after may act (found_device seen.devices name) seen.devices }
after-seen seen items left name place may act was now view kept_before is was_is now_is keeps =
    let there : place < length items = omega (arith, is.there, ap (λ (s : DevicesSeen). length s.devices) view) in
    let at : was ≡ device_at items place = was_is ∙ at-default items place was there in
    let found : found_device items name ≡ Some (device_at items place) = ap (λ (s : DevicesSeen). found_device s.devices name) view ∙ is.found ∙ ap (λ (s : DevicesSeen). Some (device_at s.devices place)) (sym view) in
    ap (λ (l : List Device). (let s : DevicesSeen = record { devices = l; arrivals = left } in s)) (
    ap (set items place) (now_is ∙ ap (acted may act) at)
    ∙ acted-at items place may act kept_before.apart there (keeps (device_at items place)) (may (device_at items place))
    ∙ ap (λ (o : Option Device). devices_after may act o items) (sym found)
    )
    ∙ ap (λ (s : DevicesSeen). record s { devices = devices_after may act (found_device s.devices name) s.devices }) view
