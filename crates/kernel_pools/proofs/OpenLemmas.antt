-- The pools of a board as it opens.
use Rattle.std.proofs.Common.{ℕ, zero, suc, ◌≡◌, ◌≢◌, ◌+◌, ◌-◌, ◌<◌, ◌≤◌, List, [], ◌∷◌, ◌++◌, length, map, reverse, refl, sym, ap, ◌∙◌, subst, arith, get_or}
use Rattle.std.specs.List.{All, AllPairs}
use Rattle.std.proofs.lemmas.List.{get_or-map, get_or-reverse, length-map, length-reverse, reverse-append}
use Rattle.std.proofs.lemmas.List.Elements.{All-from_recursion}
use Rattle.rt_base.specs.declared.codes.WaitOrder.{WaitOrder}
use Rattle.rt_plain.specs.declared.board.PoolDef.{PoolDef}
use Rattle.rt_plain.specs.declared.kind.LineKind.{LineKind}
use Rattle.rt_plain.specs.PlainBoard.{PlainBoard}
use Rattle.rt_plain.specs.kernel.Opening.{new_pool}
use Rattle.rt_plain.specs.kernel.State.{Pool}
use Rattle.rt_plain.specs.text.Canon.{IsValid}
use Rattle.rt_plain.proofs.runs.RunnableLemmas.{grows-each, valid_stocked}
use Rattle.rt_plain.proofs.text.ValidLemmas.{PoolComes, valid_grows}
use Rattle.kernel_pools.specs.Pooled.{AreApart, ArePooled, IsSized, names_of}

-- the names

map-push : {X Y : Type 0} (f : X → Y) (xs : List X) (x : X) → map f (xs ++ x ∷ []) ≡ map f xs ++ f x ∷ []
map-push f [] x = refl
map-push {Y = Y} f (y ∷ ys) x = ap (λ (l : List Y). f y ∷ l) (map-push f ys x)

map-reverse : {X Y : Type 0} (f : X → Y) (xs : List X) → map f (reverse xs) ≡ reverse (map f xs)
map-reverse f [] = refl
map-reverse {X} {Y} f (x ∷ xs) =
    ap (map f) (reverse-append (x ∷ []) xs)
    ∙ map-push f (reverse xs) x
    ∙ ap (λ (l : List Y). l ++ f x ∷ []) (map-reverse f xs)
    ∙ sym (reverse-append (f x ∷ []) (map f xs))

apart-reversed : (names : List (List ℕ)) → AllPairs (λ one other. one ≢ other) names → AllPairs (λ one other. one ≢ other) (reverse names)
apart-reversed names apart i j d before there =
    let within : j < length names = omega (arith, there, length-reverse names) in
    let first : get_or (reverse names) i d ≡ get_or names (length names - 1 - i) d = get_or-reverse names i d (omega (arith, within, before)) in
    let second : get_or (reverse names) j d ≡ get_or names (length names - 1 - j) d = get_or-reverse names j d within in
    λ same. apart (length names - 1 - j) (length names - 1 - i) d (omega (arith, within, before)) (omega (arith, within, before)) (sym second ∙ sym same ∙ first)

abbrev def-names : List PoolDef → List (List ℕ)
def-names defs = map (λ (def : PoolDef). def.name) defs

names-opened : (defs : List PoolDef) → names_of (map new_pool defs) ≡ def-names defs
names-opened [] = refl
names-opened (def ∷ defs) = ap (λ (l : List (List ℕ)). def.name ∷ l) (names-opened defs)

no_def : PoolDef
no_def = record { name = []; blocks = 0; size = 0; order = WaitOrder.Fifo }

names-apart : (defs : List PoolDef) → AllPairs (λ one other. one.name ≢ other.name) defs → AllPairs (λ one other. one ≢ other) (def-names defs)
names-apart defs apart i j d before there =
    let within : j < length defs = omega (arith, there, length-map defs (λ (def : PoolDef). def.name)) in
    let first : get_or (def-names defs) i d ≡ (get_or defs i no_def).name = get_or-map (λ (def : PoolDef). def.name) defs i no_def d (omega (arith, within, before)) in
    let second : get_or (def-names defs) j d ≡ (get_or defs j no_def).name = get_or-map (λ (def : PoolDef). def.name) defs j no_def d within in
    λ same. apart i j no_def before within (sym first ∙ same ∙ second)

opened-apart : (b : PlainBoard) → IsValid b → AreApart (reverse (map new_pool b.pools))
opened-apart b is =
    let same : names_of (reverse (map new_pool b.pools)) ≡ reverse (def-names b.pools) = map-reverse (λ (o : Pool). o.name) (map new_pool b.pools) ∙ ap reverse (names-opened b.pools) in
    subst (λ (ns : List (List ℕ)). AllPairs (λ one other. one ≢ other) ns) (sym same) (apart-reversed (def-names b.pools) (names-apart b.pools (valid_stocked b is).pools.1))

pub opened-sized : (b : PlainBoard) → IsValid b → All IsSized b.pools
opened-sized b is = All-from_recursion IsSized b.pools (grows-each (PoolComes b) IsSized (λ front def h. (h.0.1.0.0, (h.0.1.0.1, h.0.1.1.0.0))) [] b.pools ((valid_grows b is).1 LineKind.Pool))

pub opened-pooled : (b : PlainBoard) → IsValid b → ArePooled (reverse (map new_pool b.pools))
opened-pooled b is = record {
  few = omega (arith, (valid_stocked b is).pools.0, length-reverse (map new_pool b.pools), length-map b.pools new_pool);
  apart = opened-apart b is;
}
