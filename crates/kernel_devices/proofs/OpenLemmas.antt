-- The devices and the arrivals of a board as it opens.
use Rattle.std.proofs.Common.{ℕ, zero, suc, ◌≡◌, ◌≢◌, ◌+◌, ◌-◌, ◌*◌, ◌/◌, ◌<◌, ◌≤◌, List, [], ◌∷◌, ◌++◌, length, map, reverse, false, None, refl, sym, ap, ◌∙◌, subst, arith, get_or}
use Rattle.std.specs.List.{All, AllPairs}
use Rattle.std.proofs.Math.Nat.{div-mul-le_self, mul-le-mul_right}
use Rattle.std.proofs.lemmas.Nat.{le-div}
use Rattle.std.proofs.lemmas.List.{get_or-map, get_or-reverse, length-map, length-reverse, reverse-append, reverse-reverse}
use Rattle.rt_plain.specs.declared.board.Arrival.{Arrival}
use Rattle.rt_plain.specs.declared.board.DeviceDef.{DeviceDef}
use Rattle.rt_plain.specs.PlainBoard.{PlainBoard}
use Rattle.rt_plain.specs.kernel.LpClock.{moment_after_counts}
use Rattle.rt_plain.specs.kernel.Opening.{new_console, new_device}
use Rattle.rt_plain.specs.kernel.Shell.{console_name}
use Rattle.rt_plain.specs.kernel.State.{Device, Arriving}
use Rattle.kernel_devices.proofs.ValidLemmas.{HasFit}
use Rattle.kernel_devices.specs.Deviced.{IsDeviced, IsInOrder, arriving, names_of}

-- the names

map-push : {X Y : Type 0} (f : X → Y) (xs : List X) (x : X) → map f (xs ++ x ∷ []) ≡ map f xs ++ f x ∷ []
map-push f [] x = refl
map-push {Y = Y} f (y ∷ ys) x = ap (λ (l : List Y). f y ∷ l) (map-push f ys x)

map-reverse : {X Y : Type 0} (f : X → Y) (xs : List X) → map f (reverse xs) ≡ reverse (map f xs)
map-reverse f [] = refl
map-reverse {X} {Y} f (x ∷ xs) =
    ap (map f) (reverse-append (x ∷ []) xs)
    ∙ map-push f (reverse xs) x
    ∙ ap (λ (l : List Y). l ++ f x ∷ []) (map-reverse f xs)
    ∙ sym (reverse-append (f x ∷ []) (map f xs))

apart-reversed : (names : List (List ℕ)) → AllPairs (λ one other. one ≢ other) names → AllPairs (λ one other. one ≢ other) (reverse names)
apart-reversed names apart i j d before there =
    let within : j < length names = omega (arith, there, length-reverse names) in
    let first : get_or (reverse names) i d ≡ get_or names (length names - 1 - i) d = get_or-reverse names i d (omega (arith, within, before)) in
    let second : get_or (reverse names) j d ≡ get_or names (length names - 1 - j) d = get_or-reverse names j d within in
    λ same. apart (length names - 1 - j) (length names - 1 - i) d (omega (arith, within, before)) (omega (arith, within, before)) (sym second ∙ sym same ∙ first)

abbrev def-names : List DeviceDef → List (List ℕ)
def-names defs = map (λ (def : DeviceDef). def.name) defs

names-opened : (defs : List DeviceDef) → names_of (map new_device defs) ≡ def-names defs
names-opened [] = refl
names-opened (def ∷ defs) = ap (λ (l : List (List ℕ)). def.name ∷ l) (names-opened defs)

no_def : DeviceDef
no_def = record { name = []; rx = 0; tx = 0; rate = 0; pm = false; ind = None }

name-at : (defs : List DeviceDef) (k : ℕ) (d : List ℕ) → k < length defs → get_or (def-names defs) k d ≡ (get_or defs k no_def).name
name-at defs k d there = get_or-map (λ (def : DeviceDef). def.name) defs k no_def d there

names-apart : (defs : List DeviceDef) → AllPairs (λ one other. one.name ≢ other.name) defs → All (λ def. def.name ≢ console_name) defs → AllPairs (λ one other. one ≢ other) (console_name ∷ def-names defs)
names-apart defs apart others zero zero d before there = absurd (omega (arith, before))
names-apart defs apart others zero (suc j) d before there =
    let within : j < length defs = omega (arith, there, length-map defs (λ (def : DeviceDef). def.name)) in
    λ same. others j no_def within (sym (same ∙ name-at defs j d within))
names-apart defs apart others (suc i) zero d before there = absurd (omega (arith, before))
names-apart defs apart others (suc i) (suc j) d before there =
    let within : j < length defs = omega (arith, there, length-map defs (λ (def : DeviceDef). def.name)) in
    λ same. apart i j no_def (omega (arith, before)) within (sym (name-at defs i d (omega (arith, within, before))) ∙ same ∙ name-at defs j d within)

opened-apart : (defs : List DeviceDef) → AllPairs (λ one other. one.name ≢ other.name) defs → All (λ def. def.name ≢ console_name) defs → AllPairs (λ one other. one ≢ other) (names_of (reverse (new_console ∷ map new_device defs)))
opened-apart defs apart others =
    let is : names_of (reverse (new_console ∷ map new_device defs)) ≡ reverse (console_name ∷ def-names defs) =
    map-reverse (λ (o : Device). o.name) (new_console ∷ map new_device defs) ∙ ap (λ (l : List (List ℕ)). reverse (console_name ∷ l)) (names-opened defs) in
    subst (λ (ns : List (List ℕ)). AllPairs (λ one other. one ≢ other) ns) (sym is) (apart-reversed (console_name ∷ def-names defs) (names-apart defs apart others))

-- the moments

later : (h q one other : ℕ) → 1 ≤ h → one ≤ other → moment_after_counts h q one ≤ moment_after_counts h q other
later h q one other some less =
    let grows : one * q ≤ other * q = mul-le-mul_right q less in
    let below : (one * q + (h - 1)) / h * h ≤ one * q + (h - 1) = div-mul-le_self (one * q + (h - 1)) h in
    le-div ((one * q + (h - 1)) / h) (other * q + (h - 1)) h (omega (arith, some)) (omega (arith, below, grows))

no_arrival : Arrival
no_arrival = record { count = 0; device = []; text = [] }

opened-in-order : (h q : ℕ) (arrivals : List Arrival) → 1 ≤ h → AllPairs (λ one other. one.count ≤ other.count) arrivals → IsInOrder (map (arriving h q) arrivals)
opened-in-order h q arrivals some counts i j d before there =
    let within : j < length arrivals = omega (arith, there, length-map arrivals (arriving h q)) in
    let grows : moment_after_counts h q (get_or arrivals i no_arrival).count ≤ moment_after_counts h q (get_or arrivals j no_arrival).count = later h q (get_or arrivals i no_arrival).count (get_or arrivals j no_arrival).count some (counts i j no_arrival before within) in
    let first : (get_or (map (arriving h q) arrivals) i d).moment ≡ moment_after_counts h q (get_or arrivals i no_arrival).count = ap (λ (a : Arriving). a.moment) (get_or-map (arriving h q) arrivals i no_arrival d (omega (arith, within, before))) in
    let second : (get_or (map (arriving h q) arrivals) j d).moment ≡ moment_after_counts h q (get_or arrivals j no_arrival).count = ap (λ (a : Arriving). a.moment) (get_or-map (arriving h q) arrivals j no_arrival d within) in
    subst (λ n. n ≤ (get_or (map (arriving h q) arrivals) j d).moment) (sym first) (subst (λ n. moment_after_counts h q (get_or arrivals i no_arrival).count ≤ n) (sym second) grows)

pub opened-kept : (b : PlainBoard) (devices : List Device) (left : List Arriving) → devices ≡ reverse (new_console ∷ map new_device b.devices) → left ≡ reverse (map (arriving b.lp_h b.lp_q) b.arrivals) → HasFit b → IsDeviced devices (reverse left)
opened-kept b devices left devices_are left_are may =
    subst (λ (l : List Device). IsDeviced l (reverse left)) (sym devices_are) (subst (IsDeviced (reverse (new_console ∷ map new_device b.devices))) (sym (ap reverse left_are ∙ reverse-reverse (map (arriving b.lp_h b.lp_q) b.arrivals))) (record {
      few = omega (arith, length-reverse (new_console ∷ map new_device b.devices), length-map b.devices new_device, may.few);
      apart = opened-apart b.devices may.apart may.no_console;
      in_order = opened-in-order b.lp_h b.lp_q b.arrivals may.counts may.in_order;
    }))
