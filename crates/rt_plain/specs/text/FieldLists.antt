-- Lists of fields, and what stands behind them.
use Rattle.std.specs.Prelude.{ℕ, ◌+◌, nat_le, List, [], ◌∷◌, drop, Result, Ok, Err, if◌then◌else◌}
use Rattle.rt_plain.specs.declared.why.Why.{Why}
use Rattle.rt_plain.specs.text.Splits.{word_at}
use Rattle.rt_plain.specs.text.Fields.{Field, Value, spelled, Fits, value_in}

-- the values of fields, and behind them a value of the type E
abbrev pub Values : Type 0 → List Field → Type 0
Values E [] = E
Values E (f ∷ fs) = Value f × Values E fs

-- the words of values, where `last` gives the words of the last value
abbrev pub spelled_all : {E : Type 0} → (E → List (List ℕ)) → (fs : List Field) → Values E fs → List (List ℕ)
spelled_all last [] e = last e
spelled_all last (f ∷ fs) vs = spelled f vs.0 ∷ spelled_all last fs vs.1

-- all values are in their ranges
abbrev pub Fit : {E : Type 0} → (E → Type 0) → (fs : List Field) → Values E fs → Type 0
Fit Last [] e = Last e
Fit Last (f ∷ fs) vs = Fits f vs.0 × Fit Last fs vs.1

-- the number of a reason; a lesser one is judged before
abbrev pub reason_number : Why → ℕ
reason_number Why.Head = 1
reason_number Why.Byte = 2
reason_number Why.Space = 3
reason_number Why.Kind = 4
reason_number Why.Order = 5
reason_number Why.Words = 6
reason_number Why.Number = 7
reason_number Why.Range = 8
reason_number Why.Name = 9
reason_number Why.Choice = 10
reason_number Why.Text = 11
reason_number Why.Twice = 12
reason_number Why.Full = 13
reason_number Why.Refer = 14

-- both values, or the reason of least number
abbrev pub both : {A B : Type 0} → Result A Why → Result B Why → Result (A × B) Why
both (Ok a) (Ok b) = Ok (a, b)
both (Ok a) (Err e) = Err e
both (Err e) (Ok b) = Err e
both (Err d) (Err e) = Err (if nat_le (reason_number d) (reason_number e) then d else e)

-- the values that the words from a place on are, where `last` reads what stands behind the fields
abbrev pub values_in : {E : Type 0} → (List (List ℕ) → Result E Why) → (fs : List Field) → ℕ → List (List ℕ) → Result (Values E fs) Why
values_in last [] i ws = last (drop i ws)
values_in last (f ∷ fs) i ws = both (value_in f (word_at ws i)) (values_in last fs (i + 1) ws)

-- where nothing stands behind the fields: no words, any value, and nothing to read
abbrev pub no_words : Unit {0} → List (List ℕ)
no_words e = []

abbrev pub Always : Unit {0} → Type 0
Always e = Unit {0}

abbrev pub ended : List (List ℕ) → Result (Unit {0}) Why
ended ws = Ok tt
