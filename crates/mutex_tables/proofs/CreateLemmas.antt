-- Mutexes are made.
use Rattle.std.proofs.Common.{ℕ, zero, suc, ◌≡◌, ◌≢◌, ◌<◌, ◌≤◌, ◌+◌, arith, is_some, List, [], ◌∷◌, Option, Some, None, Result, Ok, Err, Bool, true, false, refl, sym, ap, ◌∙◌, subst, length, map, take, reverse, get_or, add-one, cond, eqb}
use Rattle.std.specs.Prelude.{find, All, ◌==◌, IsErr, IsErrAnd}
use Rattle.std.specs.List.{AllPairs}
use Rattle.std.specs.Option.{option_map, option_to_list}
use Rattle.std.specs.Str.{bytes_eq}
use Rattle.std.proofs.lemmas.Bool.{false≢true, eqb-true}
use Rattle.std.proofs.lemmas.Option.{none-some}
use Rattle.std.proofs.lemmas.List.Elements.{All-head, All-tail}
use Rattle.std.proofs.lemmas.List.{map_more, reverse-append, length-reverse, length-map, length-take-le, take_all}
use Rattle.object_box.specs.declared.fault.Make.{Make}
use Rattle.object_box.specs.declared.fault.Make.TheVariants.{Taken as NameTaken, ClassFull}
use Rattle.object_box.specs.declared.object.Object.{Object}
use Rattle.object_box.specs.Classes.{AllObjects}
use Rattle.object_box.specs.Objects.{ClassObjects, IsLeastFree, MakeCause, has_number, number_of}
use Rattle.rt_plain.specs.declared.board.MutexDef.{MutexDef}
use Rattle.rt_plain.specs.kernel.State.{Mutex, Thread}
use Rattle.rt_plain.specs.kernel.Opening.{new_mutex}
use Rattle.rt_plain.specs.kernel.Priority.{Graph}
use Rattle.rt_plain.specs.kernel.Ownership.{Ownership, Taken, ceiling_edit, cur_in, graph_in}
use Rattle.rt_plain.proofs.text.FieldLemmas.{is_word}
use Rattle.mutex_chain.specs.Equations.{IsAway, Touches}
use Rattle.mutex_chain.proofs.TouchLemmas.{touches_ceiling, touched_cur}
use Rattle.mutex_tie.specs.Tie.{plain_mutex, plain_mutexes, IsGraphOf, StandsFor}
use Rattle.mutex_tie.proofs.TakeLemmas.{seen-mutex}
use Rattle.mutex_tie.proofs.MakeLemmas.{stands-made}
use Rattle.mutex_tables.specs.declared.tables.MutexTables.TheInside.{Inside}
use Rattle.mutex_tables.specs.Created.{CreatesMutex, found_mutex}
use Rattle.mutex_tables.specs.Kept.{AreMutexTables}
use Rattle.mutex_tables.specs.MutexTabled.{MutexTabled, based, plain_state, seen}
use Rattle.mutex_tables.specs.Opened.{MayCreate}
use Rattle.mutex_tables.proofs.SeenLemmas.{view_of, Keeps, inside-stands}
use Rattle.mutex_tables.proofs.RenewLemmas.{members-count}
use Rattle.mutex_tables.proofs.BaseLemmas.{length-based}

-- one mutex

-- nobody owns a mutex that isn't there
unowned-free : (objects : List Object) (i : ℕ) (hs : List Taken) → All (λ (h : Taken). has_number objects h.mutex ≡ true) hs → has_number objects i ≡ false → find (λ (h : Taken). h.mutex == i) hs ≡ None
unowned-free objects i [] all free = refl
unowned-free objects i (h ∷ hs) all free = by_test (eqb h.mutex i) refl (unowned-free objects i hs (All-tail (λ (k : Taken). has_number objects k.mutex ≡ true) h hs all) free)
  where
    there : has_number objects h.mutex ≡ true
    there = All-head (λ (k : Taken). has_number objects k.mutex ≡ true) h hs all

    by_test : (c : Bool) → eqb h.mutex i ≡ c → find (λ (k : Taken). k.mutex == i) hs ≡ None → cond c (Some h) (find (λ (k : Taken). k.mutex == i) hs) ≡ None
    by_test true is rest = absurd (false≢true (sym free ∙ ap (has_number objects) (sym (eqb-true h.mutex i is)) ∙ there))
    by_test false is rest = rest

-- a new mutex changes no current priority
pub cur-made : (rows : List Thread) (c : ClassObjects) (o : Ownership) (i ceiling t : ℕ) → IsGraphOf rows c o → has_number c.objects i ≡ false → t < length rows → cur_in o t ≡ cur_in (ceiling_edit i ceiling o) t
cur-made rows c o i ceiling t tied free there =
    touched_cur [] o (ceiling_edit i ceiling o) t nobody (omega (arith, there, members-count rows c o tied)) (away (graph_in o)) (away (graph_in (ceiling_edit i ceiling o)))
  where
    nobody : Touches [] o (ceiling_edit i ceiling o)
    nobody = subst (λ (ts : List ℕ). Touches ts o (ceiling_edit i ceiling o)) (ap (λ (h : Option Taken). option_to_list (option_map (λ (k : Taken). k.owner) h)) (unowned-free c.objects i o.taken tied.taken free)) (touches_ceiling i ceiling o tied.once)

    away : (g : Graph) → IsAway [] g t
    away g x among = absurd (false≢true among)

abbrev pub with_name : ClassObjects → List ℕ → ℕ → ClassObjects
with_name c name i = record c { objects = record { no = i; name = name } ∷ c.objects }

-- a mutex of a name that is free, with the least free number
abbrev pub IsNew : ClassObjects → List ℕ → ℕ → Type 0
IsNew c name i = (number_of c.objects name ≡ None) × ((length c.objects < c.limit) × (IsLeastFree c.objects i × (i < c.limit)))

made-stands : (k : Inside) (name : List ℕ) (i ceiling : ℕ) → Keeps k → IsNew k.names.mutex name i
    → StandsFor (record (plain_state (view_of k)) { mutexes = record { name = name; ceiling = ceiling } ∷ plain_mutexes k.names.mutex.objects k.graph }) (with_name k.names.mutex name i) (ceiling_edit i ceiling k.graph)
made-stands k name i ceiling keeps new = stands-made (plain_state (view_of k)) k.names.mutex k.graph name i ceiling (inside-stands k keeps) new.0 new.1.0 new.1.1.0 new.1.1.1

pub made-keeps : (k : Inside) (name : List ℕ) (i ceiling : ℕ) → Keeps k → IsNew k.names.mutex name i → AreMutexTables k.tables k.bases.items (with_name k.names.mutex name i) (ceiling_edit i ceiling k.graph)
made-keeps k name i ceiling keeps new = record {
  sized = keeps.sized;
  levels = keeps.levels;
  graph = (made-stands k name i ceiling keeps new).owned;
  current = λ t below live. keeps.current t below live ∙ cur-made (based k.bases.items k.tables.threads) k.names.mutex k.graph i ceiling t keeps.graph new.1.1.0.free (omega (arith, below, length-based k.bases.items k.tables.threads));
}

found-none : (objects : List Object) (cs : List (Option ℕ)) (name : List ℕ) → number_of objects name ≡ None → found_mutex (map (plain_mutex cs) objects) name ≡ None
found-none objects cs name none = seen-mutex cs objects name ∙ by_found (find (λ (x : Object). bytes_eq x.name name) objects) none
  where
    by_found : (r : Option Object) → option_map (λ (x : Object). x.no) r ≡ None → option_map (plain_mutex cs) r ≡ None
    by_found None e = refl
    by_found (Some x) e = absurd (none-some x.no (sym e))

found-some : (objects : List Object) (cs : List (Option ℕ)) (name : List ℕ) (i : ℕ) → number_of objects name ≡ Some i → is_some (found_mutex (map (plain_mutex cs) objects) name) ≡ true
found-some objects cs name i is = ap is_some (seen-mutex cs objects name) ∙ by_found (find (λ (x : Object). bytes_eq x.name name) objects) is
  where
    by_found : (r : Option Object) → option_map (λ (x : Object). x.no) r ≡ Some i → is_some (option_map (plain_mutex cs) r) ≡ true
    by_found None e = absurd (none-some i e)
    by_found (Some x) e = refl

-- the creation, as contracts see it
pub creates-made : (k : Inside) (v : MutexTabled) (name : List ℕ) (i ceiling : ℕ) → view_of k ≡ v → Keeps k → IsNew k.names.mutex name i
    → CreatesMutex v (seen k.tables k.bases.items (with_name k.names.mutex name i) (ceiling_edit i ceiling k.graph)) (record { name = name; ceiling = ceiling }) (Ok tt)
creates-made k v name i ceiling is keeps new =
    subst (λ (x : MutexTabled). CreatesMutex x after mutex (Ok tt)) is
    (found-none k.names.mutex.objects k.graph.ceilings name new.0, (omega (arith, new.1.0, length-map k.names.mutex.objects (plain_mutex k.graph.ceilings)), shown))
  where
    mutex : Mutex
    mutex = record { name = name; ceiling = ceiling }

    after : MutexTabled
    after = seen k.tables k.bases.items (with_name k.names.mutex name i) (ceiling_edit i ceiling k.graph)

    stands : StandsFor (record (plain_state (view_of k)) { mutexes = mutex ∷ plain_mutexes k.names.mutex.objects k.graph }) (with_name k.names.mutex name i) (ceiling_edit i ceiling k.graph)
    stands = made-stands k name i ceiling keeps new

    shown : after ≡ record (view_of k) { mutexes = mutex ∷ plain_mutexes k.names.mutex.objects k.graph }
    shown = λ j. record (view_of k) { mutexes = sym stands.mutexes j; holdings = sym stands.holdings j }

pub creates-refused : (k : Inside) (v : MutexTabled) (names : AllObjects) (name : List ℕ) (ceiling : ℕ) (fault : Make) → view_of k ≡ v → MakeCause k.names.mutex name (Err fault) → names ≡ k.names
    → CreatesMutex v (seen k.tables k.bases.items names.mutex k.graph) (record { name = name; ceiling = ceiling }) (Err fault)
creates-refused k v names name ceiling (NameTaken number) is cause same =
    subst (λ (x : MutexTabled). CreatesMutex x (seen k.tables k.bases.items names.mutex k.graph) (record { name = name; ceiling = ceiling }) (Err (NameTaken number))) is
    (found-some k.names.mutex.objects k.graph.ceilings name number cause, ap (λ (a : AllObjects). seen k.tables k.bases.items a.mutex k.graph) same)
creates-refused k v names name ceiling (ClassFull limit) is cause same =
    subst (λ (x : MutexTabled). CreatesMutex x (seen k.tables k.bases.items names.mutex k.graph) (record { name = name; ceiling = ceiling }) (Err (ClassFull limit))) is
    (found-none k.names.mutex.objects k.graph.ceilings name cause.0, (length-map k.names.mutex.objects (plain_mutex k.graph.ceilings) ∙ cause.1.0, ap (λ (a : AllObjects). seen k.tables k.bases.items a.mutex k.graph) same))

pub err-is : (r : Result Unit Make) (fault : Make) → IsErr r × IsErrAnd r (λ e. e ≡ fault) → r ≡ Err fault
err-is (Ok done) fault e = absurd e.1
err-is (Err f) fault e = ap (λ x. Err x) e.1

-- all the mutexes of a board

-- those of the first definitions, newest first
abbrev first_mutexes : List MutexDef → ℕ → List Mutex
first_mutexes defs i = reverse (map new_mutex (take i defs))

one_more : (defs : List MutexDef) (i : ℕ) (d : MutexDef) → i < length defs → first_mutexes defs (i + 1) ≡ new_mutex (get_or defs i d) ∷ first_mutexes defs i
one_more defs i d there = ap reverse (map_more new_mutex defs i d there) ∙ reverse-append (map new_mutex (take i defs)) (new_mutex (get_or defs i d) ∷ [])

count-made : (defs : List MutexDef) (i : ℕ) → i ≤ length defs → length (first_mutexes defs i) ≡ i
count-made defs i le = length-reverse (map new_mutex (take i defs)) ∙ length-map (take i defs) new_mutex ∙ length-take-le i defs le

other_word : (a b : List ℕ) → a ≢ b → bytes_eq a b ≡ false
other_word a b ne = by_test (bytes_eq a b) refl where
  by_test : (c : Bool) → bytes_eq a b ≡ c → bytes_eq a b ≡ false
  by_test true e = absurd (ne (is_word a b e))
  by_test false e = e

find_past : (p : Mutex → Bool) (x : Mutex) (xs : List Mutex) → p x ≡ false → find p xs ≡ None → find p (x ∷ xs) ≡ None
find_past p x xs fails none = rw fails none

-- none of them has the name of the next one
unmade : (defs : List MutexDef) (i : ℕ) (d : MutexDef) → AllPairs (λ (a c : MutexDef). a.name ≢ c.name) defs → i < length defs → d ≡ get_or defs i d → (k : ℕ) → k ≤ i → found_mutex (first_mutexes defs k) d.name ≡ None
unmade defs i d own there is zero le = refl
unmade defs i d own there is (suc k) le =
    let p : Mutex → Bool = λ (o : Mutex). bytes_eq o.name d.name in
    let x : MutexDef = get_or defs k d in
    let apart : x.name ≢ d.name = subst (λ (y : MutexDef). x.name ≢ y.name) (sym is) (own k i d (omega (arith, le)) there) in
    let none = find_past p (new_mutex x) (first_mutexes defs k) (other_word x.name d.name apart) (unmade defs i d own there is k (omega (arith, le))) in
    subst (λ n. find p (first_mutexes defs n) ≡ None) (add-one k) (subst (λ (os : List Mutex). find p os ≡ None) (sym (one_more defs k d (omega (arith, le, there)))) none)

-- a mutex is made where its name is new and there is room
mutex_made : (old new : MutexTabled) (mutex : Mutex) (r : Result Unit Make) → CreatesMutex old new mutex r → found_mutex old.mutexes mutex.name ≡ None → length old.mutexes < old.mutex_limit → new ≡ record old { mutexes = mutex ∷ old.mutexes }
mutex_made old new mutex (Ok done) made none room = made.1.1
mutex_made old new mutex (Err (NameTaken number)) made none room = let missing : is_some (found_mutex old.mutexes mutex.name) ≡ false = ap is_some none in absurd (cc (made.0, missing))
mutex_made old new mutex (Err (ClassFull limit)) made none room = absurd (omega (arith, made.1.0, room))

pub mutexes_more : (v old new : MutexTabled) (defs : List MutexDef) (i : ℕ) (def : MutexDef) (mutex : Mutex) (r : Result Unit Make) → MayCreate v defs → old ≡ record v { mutexes = reverse (map new_mutex (take i defs)) } → i < length defs → def ≡ get_or defs i def → mutex ≡ new_mutex def → CreatesMutex old new mutex r
    → new ≡ record v { mutexes = reverse (map new_mutex (take (i + 1) defs)) }
mutexes_more v old new defs i def mutex r may before there is same creates =
    let now : MutexTabled = record v { mutexes = first_mutexes defs i } in
    let made : CreatesMutex now new (new_mutex def) r = subst (λ (o : MutexTabled). CreatesMutex o new (new_mutex def) r) before (subst (λ (m : Mutex). CreatesMutex old new m r) same creates) in
    let count = count-made defs i (omega (arith, there)) in
    mutex_made now new (new_mutex def) r made (unmade defs i def may.names there is i (omega arith)) (omega (arith, may.room, count, there))
    ∙ ap (λ (ms : List Mutex). record v { mutexes = ms }) (ap (λ (d : MutexDef). new_mutex d ∷ first_mutexes defs i) is ∙ sym (one_more defs i def there))

pub mutexes_all : (v : MutexTabled) (defs : List MutexDef) (i : ℕ) → length defs ≤ i → record v { mutexes = reverse (map new_mutex (take i defs)) } ≡ record v { mutexes = reverse (map new_mutex defs) }
mutexes_all v defs i le = ap (λ (ds : List MutexDef). record v { mutexes = reverse (map new_mutex ds) }) (take_all i defs le)

-- a mutex of a name that contracts see has a number
pub inside-known : (k : Inside) (v : MutexTabled) (name : List ℕ) → view_of k ≡ v → is_some (found_mutex v.mutexes name) ≡ is_some (number_of k.names.mutex.objects name)
inside-known k v name is =
    sym (ap (λ (x : MutexTabled). is_some (found_mutex x.mutexes name)) is)
    ∙ ap is_some (seen-mutex k.graph.ceilings k.names.mutex.objects name)
    ∙ by_found (find (λ (x : Object). bytes_eq x.name name) k.names.mutex.objects)
  where
    by_found : (r : Option Object) → is_some (option_map (plain_mutex k.graph.ceilings) r) ≡ is_some (option_map (λ (x : Object). x.no) r)
    by_found None = refl
    by_found (Some x) = refl
