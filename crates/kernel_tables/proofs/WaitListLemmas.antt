-- Which list a thread waits in.
use Rattle.std.proofs.Common.{◌≡◌, ◌≢◌, ℕ, zero, suc, ◌&&◌, ◌||◌, arith, List, [], ◌∷◌, Option, Some, None, Bool, true, false, refl, sym, ap, ◌∙◌, subst, All, AllPairs, eqb, cond, find, not, is_some}
use Rattle.std.specs.Prelude.{if◌then◌else◌}
use Rattle.std.specs.List.{list_any}
use Rattle.std.specs.Option.{option_map}
use Rattle.std.specs.Str.{bytes_eq}
use Rattle.std.proofs.lemmas.Slice.Eq.{bytes_eq-Decides}
use Rattle.std.proofs.lemmas.List.Elements.{All-head, All-tail}
use Rattle.std.proofs.lemmas.Bool.{false≢true, eqb-true}
use Rattle.rt_plain.specs.declared.stmt.Call.{Call}
use Rattle.rt_plain.specs.kernel.State.{Thread, Stage, Waiting, InCall, is_number}
use Rattle.rt_plain.specs.kernel.Waiting.{number_in}
use Rattle.object_box.specs.declared.object.Object.{Object}
use Rattle.object_box.specs.Classes.{AllObjects}
use Rattle.object_box.specs.Objects.{number_of, IsSound}
use Rattle.ipc_queues.specs.declared.channels.ChannelKind.{ChannelKind}
use Rattle.ipc_queues.specs.declared.ends.End.{End}
use Rattle.kernel_tables.specs.declared.wait_list.WaitList.{WaitList}
use Rattle.kernel_tables.specs.Listed.{wait_row, row_with}
use Rattle.kernel_tables.specs.Tabled.{is_unlisted}
use Rattle.kernel_tables.specs.WaitLists.{waits_for, list_of, index, is_same, is_at, objects_in, number_at, list_at, calls_in, is_known, is_known_name}

-- a list has the number of no other
abbrev of_index : ℕ → WaitList
of_index zero = WaitList.Sem
of_index (suc zero) = WaitList.Event
of_index (suc (suc zero)) = WaitList.Channel ChannelKind.Mailbox End.Receivers
of_index (suc (suc (suc zero))) = WaitList.Channel ChannelKind.Mailbox End.Senders
of_index (suc (suc (suc (suc zero)))) = WaitList.Channel ChannelKind.MsgQueue End.Receivers
of_index (suc (suc (suc (suc (suc n))))) = WaitList.Channel ChannelKind.MsgQueue End.Senders

of_index-is : (list : WaitList) → of_index (index list) ≡ list
of_index-is WaitList.Sem = refl
of_index-is WaitList.Event = refl
of_index-is (WaitList.Channel ChannelKind.Mailbox End.Receivers) = refl
of_index-is (WaitList.Channel ChannelKind.Mailbox End.Senders) = refl
of_index-is (WaitList.Channel ChannelKind.MsgQueue End.Receivers) = refl
of_index-is (WaitList.Channel ChannelKind.MsgQueue End.Senders) = refl

pub same-is : (list other : WaitList) → is_same list other ≡ true → list ≡ other
same-is list other e = sym (of_index-is list) ∙ ap of_index (eqb-true (index list) (index other) e) ∙ of_index-is other

-- whether a call with this list and name waits in the list of a name
abbrev pub is_on : WaitList → List ℕ → Option (WaitList × List ℕ) → Bool
is_on list name None = false
is_on list name (Some (other, called)) = is_same list other && bytes_eq called name

pub waits-is : (list : WaitList) (name : List ℕ) (call : Call) → waits_for list name call ≡ is_on list name (list_of call)
waits-is WaitList.Sem name (Call.SemTake called timeout) = refl
waits-is WaitList.Sem name (Call.EventRecv called mask all clear timeout) = refl
waits-is WaitList.Sem name (Call.MbSend called word timeout) = refl
waits-is WaitList.Sem name (Call.MbRecv called timeout) = refl
waits-is WaitList.Sem name (Call.MqSend called timeout message) = refl
waits-is WaitList.Sem name (Call.MqRecv called timeout) = refl
waits-is WaitList.Sem name _ = refl
waits-is WaitList.Event name (Call.SemTake called timeout) = refl
waits-is WaitList.Event name (Call.EventRecv called mask all clear timeout) = refl
waits-is WaitList.Event name (Call.MbSend called word timeout) = refl
waits-is WaitList.Event name (Call.MbRecv called timeout) = refl
waits-is WaitList.Event name (Call.MqSend called timeout message) = refl
waits-is WaitList.Event name (Call.MqRecv called timeout) = refl
waits-is WaitList.Event name _ = refl
waits-is (WaitList.Channel ChannelKind.Mailbox End.Receivers) name (Call.SemTake called timeout) = refl
waits-is (WaitList.Channel ChannelKind.Mailbox End.Receivers) name (Call.EventRecv called mask all clear timeout) = refl
waits-is (WaitList.Channel ChannelKind.Mailbox End.Receivers) name (Call.MbSend called word timeout) = refl
waits-is (WaitList.Channel ChannelKind.Mailbox End.Receivers) name (Call.MbRecv called timeout) = refl
waits-is (WaitList.Channel ChannelKind.Mailbox End.Receivers) name (Call.MqSend called timeout message) = refl
waits-is (WaitList.Channel ChannelKind.Mailbox End.Receivers) name (Call.MqRecv called timeout) = refl
waits-is (WaitList.Channel ChannelKind.Mailbox End.Receivers) name _ = refl
waits-is (WaitList.Channel ChannelKind.Mailbox End.Senders) name (Call.SemTake called timeout) = refl
waits-is (WaitList.Channel ChannelKind.Mailbox End.Senders) name (Call.EventRecv called mask all clear timeout) = refl
waits-is (WaitList.Channel ChannelKind.Mailbox End.Senders) name (Call.MbSend called word timeout) = refl
waits-is (WaitList.Channel ChannelKind.Mailbox End.Senders) name (Call.MbRecv called timeout) = refl
waits-is (WaitList.Channel ChannelKind.Mailbox End.Senders) name (Call.MqSend called timeout message) = refl
waits-is (WaitList.Channel ChannelKind.Mailbox End.Senders) name (Call.MqRecv called timeout) = refl
waits-is (WaitList.Channel ChannelKind.Mailbox End.Senders) name _ = refl
waits-is (WaitList.Channel ChannelKind.MsgQueue End.Receivers) name (Call.SemTake called timeout) = refl
waits-is (WaitList.Channel ChannelKind.MsgQueue End.Receivers) name (Call.EventRecv called mask all clear timeout) = refl
waits-is (WaitList.Channel ChannelKind.MsgQueue End.Receivers) name (Call.MbSend called word timeout) = refl
waits-is (WaitList.Channel ChannelKind.MsgQueue End.Receivers) name (Call.MbRecv called timeout) = refl
waits-is (WaitList.Channel ChannelKind.MsgQueue End.Receivers) name (Call.MqSend called timeout message) = refl
waits-is (WaitList.Channel ChannelKind.MsgQueue End.Receivers) name (Call.MqRecv called timeout) = refl
waits-is (WaitList.Channel ChannelKind.MsgQueue End.Receivers) name _ = refl
waits-is (WaitList.Channel ChannelKind.MsgQueue End.Senders) name (Call.SemTake called timeout) = refl
waits-is (WaitList.Channel ChannelKind.MsgQueue End.Senders) name (Call.EventRecv called mask all clear timeout) = refl
waits-is (WaitList.Channel ChannelKind.MsgQueue End.Senders) name (Call.MbSend called word timeout) = refl
waits-is (WaitList.Channel ChannelKind.MsgQueue End.Senders) name (Call.MbRecv called timeout) = refl
waits-is (WaitList.Channel ChannelKind.MsgQueue End.Senders) name (Call.MqSend called timeout message) = refl
waits-is (WaitList.Channel ChannelKind.MsgQueue End.Senders) name (Call.MqRecv called timeout) = refl
waits-is (WaitList.Channel ChannelKind.MsgQueue End.Senders) name _ = refl

-- the objects behind the first one
pairs-tail : {A : Type 0} (R : A → A → Type 0) (x : A) (xs : List A) → AllPairs R (x ∷ xs) → AllPairs R xs
pairs-tail R x xs all i j d lt within = all (suc i) (suc j) d (omega (arith, lt)) (omega (arith, within))

pairs-head : {A : Type 0} (R : A → A → Type 0) (x : A) (xs : List A) → AllPairs R (x ∷ xs) → All (R x) xs
pairs-head R x xs all j d within = all zero (suc j) d (omega arith) (omega (arith, within))

-- whether an object has the number and the name of a call
abbrev has_both : List Object → ℕ → List ℕ → Bool
has_both objects i name = list_any (λ (o : Object). eqb o.no i && bytes_eq name o.name) objects

bytes-apart : (a b : List ℕ) → a ≢ b → bytes_eq a b ≡ false
bytes-apart a b apart = by_test (bytes_eq a b) refl where
  by_test : (c : Bool) → bytes_eq a b ≡ c → bytes_eq a b ≡ false
  by_test true is = absurd (apart ((bytes_eq-Decides a b).0 is))
  by_test false is = is

and-off : (c : Bool) → c && false ≡ false
and-off true = refl
and-off false = refl

none-has : (objects : List Object) (i : ℕ) (name : List ℕ) → All (λ (o : Object). name ≢ o.name) objects → has_both objects i name ≡ false
none-has [] i name apart = refl
none-has (o ∷ os) i name apart =
    ap (λ c. (eqb o.no i && c) || has_both os i name) (bytes-apart name o.name (All-head (λ (x : Object). name ≢ x.name) o os apart))
    ∙ ap (λ c. c || has_both os i name) (and-off (eqb o.no i))
    ∙ none-has os i name (All-tail (λ (x : Object). name ≢ x.name) o os apart)

eqb-turn : (m n : ℕ) → eqb m n ≡ eqb n m
eqb-turn m n = grind arith

-- a name is that of one object at most
has-number : (objects : List Object) (i : ℕ) (name : List ℕ) → AllPairs (λ (a b : Object). a.name ≢ b.name) objects → has_both objects i name ≡ is_number i (number_of objects name)
has-number [] i name apart = refl
has-number (o ∷ os) i name apart = by_test (bytes_eq o.name name) refl (has-number os i name (pairs-tail (λ (a b : Object). a.name ≢ b.name) o os apart)) where
  by_test : (c : Bool) → bytes_eq o.name name ≡ c → has_both os i name ≡ is_number i (number_of os name) → (eqb o.no i && bytes_eq name o.name) || has_both os i name ≡ is_number i (option_map (λ (x : Object). x.no) (cond c (Some o) (find (λ (x : Object). bytes_eq x.name name) os)))
  by_test true is rest =
      let same : o.name ≡ name = (bytes_eq-Decides o.name name).0 is in
      ap (λ c. (eqb o.no i && c) || has_both os i name) ((bytes_eq-Decides name o.name).1 (sym same))
      ∙ ap (λ c. (eqb o.no i && true) || c) (subst (λ (n : List ℕ). has_both os i n ≡ false) same (none-has os i o.name (pairs-head (λ (a b : Object). a.name ≢ b.name) o os apart)))
      ∙ by_same (eqb o.no i) ∙ eqb-turn o.no i where
        by_same : (c : Bool) → (c && true) || false ≡ c
        by_same true = refl
        by_same false = refl
  by_test false is rest =
      ap (λ c. (eqb o.no i && c) || has_both os i name) (bytes-apart name o.name (λ same. false≢true (sym is ∙ (bytes_eq-Decides o.name name).1 (sym same))))
      ∙ ap (λ c. c || has_both os i name) (and-off (eqb o.no i))
      ∙ rest

any-off : {A : Type 0} (p : A → Bool) (xs : List A) → list_any (λ x. p x && false) xs ≡ false
any-off p [] = refl
any-off p (x ∷ xs) = ap (λ c. c || list_any (λ y. p y && false) xs) (and-off (p x)) ∙ any-off p xs

-- the arrival number, if the test passes
abbrev pub number_for : Bool → Stage → Option ℕ
number_for c (Waiting what number) = if c then Some number else None
number_for c _ = None

number-off : (stage : Stage) → number_for false stage ≡ None
number-off (Waiting what number) = refl
number-off _ = refl

any-same : {A : Type 0} (p q : A → Bool) → ((x : A) → p x ≡ q x) → (xs : List A) → list_any p xs ≡ list_any q xs
any-same p q same [] = refl
any-same p q same (x ∷ xs) = ap (λ c. c || list_any p xs) (same x) ∙ ap (λ c. q x || c) (any-same p q same xs)

-- a name of a class is that of one object at most
one-object : (a : AllObjects) (list : WaitList) (i : ℕ) (on : Option (WaitList × List ℕ)) → IsSound (objects_in a list) → list_any (λ (o : Object). eqb o.no i && is_on list o.name on) (objects_in a list).objects ≡ is_at list i (number_at a on)
one-object a list i None sound = any-off (λ (o : Object). eqb o.no i) (objects_in a list).objects
one-object a list i (Some (other, name)) sound = by_test (is_same list other) refl where
  objects : List Object
  objects = (objects_in a list).objects

  either : Bool → Bool
  either c = list_any (λ (o : Object). eqb o.no i && (c && bytes_eq name o.name)) objects

  here : (n : Option ℕ) → is_same list other ≡ true → is_number i n ≡ is_at list i (option_map (λ j. (other, j)) n)
  here None e = refl
  here (Some j) e = sym (ap (λ c. c && eqb i j) e)

  elsewhere : (n : Option ℕ) → is_same list other ≡ false → is_at list i (option_map (λ j. (other, j)) n) ≡ false
  elsewhere None e = refl
  elsewhere (Some j) e = ap (λ c. c && eqb i j) e

  by_test : (c : Bool) → is_same list other ≡ c → either (is_same list other) ≡ is_at list i (number_at a (Some (other, name)))
  by_test true e =
      ap either e
      ∙ has-number objects i name sound.names
      ∙ ap (λ (l : WaitList). is_number i (number_of (objects_in a l).objects name)) (same-is list other e)
      ∙ here (number_of (objects_in a other).objects name) e
  by_test false e = ap either e ∙ any-off (λ (o : Object). eqb o.no i) objects ∙ sym (elsewhere (number_of (objects_in a other).objects name) e)

-- a call waits in the list of a number where that is the number of its object
pub on-list : (a : AllObjects) (list : WaitList) (i : ℕ) (call : Call) → IsSound (objects_in a list) → calls_in a list i call ≡ is_at list i (number_at a (list_of call))
on-list a list i call sound =
    any-same (λ (o : Object). eqb o.no i && waits_for list o.name call) (λ (o : Object). eqb o.no i && is_on list o.name (list_of call)) (λ o. ap (λ c. eqb o.no i && c) (waits-is list o.name call)) (objects_in a list).objects
    ∙ one-object a list i (list_of call) sound

-- a thread stands in the list of a number where that is the number of the object that it waits for
list-number : (a : AllObjects) (list : WaitList) (i : ℕ) (stage : Stage) → IsSound (objects_in a list) → number_in (calls_in a list i) stage ≡ number_for (is_at list i (list_at a stage)) stage
list-number a list i (Waiting (InCall call) number) sound = ap (λ c. if c then Some number else None) (on-list a list i call sound)
list-number a list i _ sound = refl

-- its row there
pub row-is : (a : AllObjects) (list : WaitList) (i : ℕ) (row : Thread) → IsSound (objects_in a list) → wait_row (calls_in a list i) row ≡ row_with row.base (number_for (is_at list i (list_at a row.stage)) row.stage)
row-is a list i row sound = ap (row_with row.base) (list-number a list i row.stage sound)

-- a thread that waits elsewhere, or not at all, has none
pub row-none : (a : AllObjects) (list : WaitList) (i : ℕ) (row : Thread) → IsSound (objects_in a list) → is_at list i (list_at a row.stage) ≡ false → wait_row (calls_in a list i) row ≡ None
row-none a list i row sound off = row-is a list i row sound ∙ ap (λ c. row_with row.base (number_for c row.stage)) off ∙ ap (row_with row.base) (number-off row.stage)

-- a thread that waits for no object stands in no list
pub unlisted-at : (a : AllObjects) (stage : Stage) → is_unlisted stage ≡ true → list_at a stage ≡ None
unlisted-at a (Waiting (InCall call) number) is = by_list (list_of call) is where
  by_list : (on : Option (WaitList × List ℕ)) → not (is_some on) ≡ true → number_at a on ≡ None
  by_list None e = refl
  by_list (Some on) e = absurd (false≢true e)
unlisted-at a _ is = refl

pub unlisted-known : (a : AllObjects) (stage : Stage) → is_unlisted stage ≡ true → is_known a stage ≡ true
unlisted-known a (Waiting (InCall call) number) is = by_list (list_of call) is where
  by_list : (on : Option (WaitList × List ℕ)) → not (is_some on) ≡ true → is_known_name a on ≡ true
  by_list None e = refl
  by_list (Some on) e = absurd (false≢true e)
unlisted-known a _ is = refl

both : (c d : Bool) → c && d ≡ true → (c ≡ true) × (d ≡ true)
both true d e = (refl, e)
both false d e = absurd (false≢true e)

-- the list and the number at which a call waits
pub at-is : (list : WaitList) (i : ℕ) (at : Option (WaitList × ℕ)) → is_at list i at ≡ true → at ≡ Some (list, i)
at-is list i None e = absurd (false≢true e)
at-is list i (Some (other, j)) e =
    let h = both (is_same list other) (eqb i j) e in
    ap (λ (l : WaitList). Some (l, j)) (sym (same-is list other h.0)) ∙ ap (λ n. Some (list, n)) (sym (eqb-true i j h.1))

pub at-itself : (list : WaitList) (i : ℕ) → is_at list i (Some (list, i)) ≡ true
at-itself list i = ap (λ c. c && eqb i i) (self (index list)) ∙ self i where
  self : (n : ℕ) → eqb n n ≡ true
  self n = grind arith

-- a call waits in one list at most
pub lists-apart : (a : AllObjects) (list other : WaitList) (i j : ℕ) → ((l : WaitList) → IsSound (objects_in a l)) → is_at other j (Some (list, i)) ≡ false → (call : Call) → calls_in a list i call ≡ true → calls_in a other j call ≡ false
lists-apart a list other i j sound apart call on =
    on-list a other j call (sound other)
    ∙ ap (is_at other j) (at-is list i (number_at a (list_of call)) (sym (on-list a list i call (sound list)) ∙ on))
    ∙ apart
