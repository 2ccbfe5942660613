-- Who owns a mutex and who waits on one, by names as by numbers.
use Rattle.std.proofs.Common.{ℕ, ◌≡◌, List, [], ◌∷◌, Option, Some, None, Bool, true, false, cond, refl, sym, ap, ◌∙◌, map}
use Rattle.std.specs.Prelude.{find, All, slice_index_or, if◌then◌else◌}
use Rattle.std.specs.Option.{option_map, option_and_then}
use Rattle.std.specs.Str.{bytes_eq}
use Rattle.std.proofs.lemmas.List.Elements.{All-head, All-tail}
use Rattle.rt_plain.specs.declared.stmt.Call.{Call}
use Rattle.rt_plain.specs.kernel.State.{State, Thread, Stage, Waiting, Closed, InCall, Holding, no_thread, thread_at, is_closed, is_number}
use Rattle.rt_plain.specs.kernel.Priority.{blocker_of, graph_of, owner_of, holding_of, awaited_mutex}
use Rattle.rt_plain.specs.kernel.Ownership.{Ownership, Member, MutexWait, Taken, member_at, wait_of, owner_in}
use Rattle.rt_plain.proofs.kernel.TallyLemmas.{map-at}
use Rattle.object_box.specs.declared.object.Object.{Object}
use Rattle.object_box.specs.Objects.{ClassObjects, has_number, number_of}
use Rattle.mutex_chain.specs.Owners.{blocker_in}
use Rattle.mutex_tie.specs.Tie.{plain_holding, member_of, wait_in, wait_for, StandsFor}
use Rattle.mutex_tie.proofs.NameLemmas.{NamesApart, NumbersApart, name-is}

abbrev pub HasObjects : List Object → List Taken → Type 0
HasObjects xs hs = All (λ (h : Taken). has_number xs h.mutex ≡ true) hs

-- the owner of a mutex

seen-found : (xs : List Object) (hs : List Taken) (name : List ℕ) → NamesApart xs → NumbersApart xs → HasObjects xs hs
    → find (λ (h : Holding). bytes_eq h.mutex name) (map (plain_holding xs) hs) ≡ option_map (plain_holding xs) (find (λ (h : Taken). is_number h.mutex (number_of xs name)) hs)
seen-found xs [] name names numbers all = refl
seen-found xs (h ∷ hs) name names numbers all =
    ap (λ c. cond c (Some (plain_holding xs h)) (find (λ (k : Holding). bytes_eq k.mutex name) (map (plain_holding xs) hs))) (name-is xs h.mutex name names numbers (All-head (λ (k : Taken). has_number xs k.mutex ≡ true) h hs all))
    ∙ by_test (is_number h.mutex (number_of xs name)) (seen-found xs hs name names numbers (All-tail (λ (k : Taken). has_number xs k.mutex ≡ true) h hs all))
  where
    by_test : (c : Bool) → find (λ (k : Holding). bytes_eq k.mutex name) (map (plain_holding xs) hs) ≡ option_map (plain_holding xs) (find (λ (k : Taken). is_number k.mutex (number_of xs name)) hs)
        → cond c (Some (plain_holding xs h)) (find (λ (k : Holding). bytes_eq k.mutex name) (map (plain_holding xs) hs)) ≡ option_map (plain_holding xs) (cond c (Some h) (find (λ (k : Taken). is_number k.mutex (number_of xs name)) hs))
    by_test true rest = refl
    by_test false rest = rest

seen-owner : (xs : List Object) (o : Option Taken) → option_map (λ (h : Holding). h.owner) (option_map (plain_holding xs) o) ≡ option_map (λ (h : Taken). h.owner) o
seen-owner xs None = refl
seen-owner xs (Some h) = refl

none-found : (hs : List Taken) → find (λ (h : Taken). is_number h.mutex None) hs ≡ None
none-found [] = refl
none-found (h ∷ hs) = none-found hs

-- the holding of a name is that of its number
pub holding-tied : (s : State) (c : ClassObjects) (o : Ownership) (name : List ℕ) → StandsFor s c o → holding_of s name ≡ option_map (plain_holding c.objects) (find (λ (h : Taken). is_number h.mutex (number_of c.objects name)) o.taken)
holding-tied s c o name tie = ap (find (λ (h : Holding). bytes_eq h.mutex name)) tie.holdings ∙ seen-found c.objects o.taken name tie.owned.sound.names tie.owned.sound.numbers tie.owned.taken

pub owner-tied : (s : State) (c : ClassObjects) (o : Ownership) (name : List ℕ) → StandsFor s c o → owner_of s name ≡ option_and_then (owner_in o) (number_of c.objects name)
owner-tied s c o name tie = ap (option_map (λ (h : Holding). h.owner)) (holding-tied s c o name tie) ∙ seen-owner c.objects (find (λ (h : Taken). is_number h.mutex (number_of c.objects name)) o.taken) ∙ by_number (number_of c.objects name)
  where
    by_number : (n : Option ℕ) → option_map (λ (h : Taken). h.owner) (find (λ (h : Taken). is_number h.mutex n) o.taken) ≡ option_and_then (owner_in o) n
    by_number None = ap (option_map (λ (h : Taken). h.owner)) (none-found o.taken)
    by_number (Some i) = refl

-- the wait of a thread

wait-number : (n : ℕ) (o : Option ℕ) → option_map (λ (w : MutexWait). w.mutex) (wait_for n o) ≡ o
wait-number n None = refl
wait-number n (Some i) = refl

stage-blocker : (s : State) (c : ClassObjects) (o : Ownership) → StandsFor s c o → (stage : Stage) → option_and_then (owner_of s) (awaited_mutex stage) ≡ option_and_then (owner_in o) (option_map (λ (w : MutexWait). w.mutex) (wait_in c.objects stage))
stage-blocker s c o tie (Waiting (InCall (Call.MutexTake name timeout)) number) = owner-tied s c o name tie ∙ sym (ap (option_and_then (owner_in o)) (wait-number number (number_of c.objects name)))
stage-blocker s c o tie _ = refl

pub member-tied : (s : State) (c : ClassObjects) (o : Ownership) (t : ℕ) → StandsFor s c o → member_at o t ≡ member_of c.objects (thread_at s t)
member-tied s c o t tie = ap (λ (ms : List (Option Member)). slice_index_or ms t None) tie.owned.members ∙ sym (map-at (member_of c.objects) s.threads t no_thread)

member-wait : (xs : List Object) (base : ℕ) (stage : Stage) → option_and_then (λ (m : Member). m.wait) (if is_closed stage then None else Some (record { base = base; wait = wait_in xs stage })) ≡ wait_in xs stage
member-wait xs base Closed = refl
member-wait xs base _ = refl

pub wait-tied : (s : State) (c : ClassObjects) (o : Ownership) (t : ℕ) → StandsFor s c o → wait_of o t ≡ wait_in c.objects (thread_at s t).stage
wait-tied s c o t tie = ap (option_and_then (λ (m : Member). m.wait)) (member-tied s c o t tie) ∙ member-wait c.objects (thread_at s t).base (thread_at s t).stage

-- whom a thread waits for, by its number
pub blocker-tied : (s : State) (c : ClassObjects) (o : Ownership) (t : ℕ) → StandsFor s c o → blocker_of (graph_of s) t ≡ blocker_in o t
blocker-tied s c o t tie =
    sym (map-at (λ (row : Thread). option_and_then (owner_of s) (awaited_mutex row.stage)) s.threads t no_thread)
    ∙ stage-blocker s c o tie (thread_at s t).stage
    ∙ sym (ap (λ w. option_and_then (owner_in o) (option_map (λ (x : MutexWait). x.mutex) w)) (wait-tied s c o t tie))
