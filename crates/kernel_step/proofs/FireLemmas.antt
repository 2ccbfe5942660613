-- The rows that are due at a moment fire, one after the other.
use Rattle.std.proofs.Common.{◌≡◌, ℕ, zero, suc, ◌+◌, ◌*◌, ◌<◌, ◌≤◌, arith, length, suc-mul, List, [], ◌∷◌, ◌++◌, Option, Some, None, refl, sym, ap, ◌∙◌}
use Rattle.std.proofs.Math.Nat.{mul-suc, mul-le-mul_left}
use Rattle.std.proofs.lemmas.List.{append-nil, append_assoc}
use Rattle.rt_plain.specs.declared.line.Line.{Line}
use Rattle.rt_plain.specs.PlainBoard.{PlainBoard}
use Rattle.rt_plain.specs.kernel.State.{State, ArmedRow, Alarm}
use Rattle.rt_plain.specs.kernel.Effects.{Effect}
use Rattle.rt_plain.specs.kernel.Calls.{settled_effect}
use Rattle.rt_plain.specs.kernel.Due.{due, due_rows_effect, alarm_effect}
use Rattle.rt_plain.specs.kernel.Ticks.{alarms_effect}
use Rattle.rt_kernel.specs.PlainKernel.{PlainKernel}
use Rattle.kernel_timers.specs.Alarmed.{first_alarm}
use Rattle.rt_kernel.specs.Due.{taken}
use Rattle.kernel_step.specs.Fired.{fired_rows, rows_now, row_cost}
use Rattle.kernel_step.specs.IsFiring.{IsFiring, rest_effect}

-- what was armed fires once its row is taken
abbrev pub fired : PlainBoard → Alarm → State → Effect
fired b alarm s = settled_effect b s (alarm_effect b alarm s)

-- where an alarm is that of the first row, it fires, and then the rest does
rest-more : (b : PlainBoard) (n : ℕ) (alarm : Alarm) (s : State) (rows : List (ArmedRow Alarm)) → first_alarm rows ≡ Some alarm → length rows ≤ n → (m : ℕ) × (n ≡ suc m) × (due_rows_effect b n rows s ≡ (let e = fired b alarm (taken s (Some alarm)) in let f = rest_effect b m e.state in record { state = f.state; lines = e.lines ++ f.lines }))
rest-more b n alarm s [] is enough = absurd cc
rest-more b zero alarm s (row ∷ rows) is enough = absurd (omega (arith, enough))
rest-more b (suc m) alarm s (row ∷ rows) is enough = (m, refl, same) where
  alarm_is : row.alarm ≡ alarm
  alarm_is = cc

  same : due_rows_effect b (suc m) (row ∷ rows) s ≡ (let e = fired b alarm (taken s (Some alarm)) in let f = rest_effect b m e.state in record { state = f.state; lines = e.lines ++ f.lines })
  same = ap (λ (a : Alarm). due_rows_effect b (suc m) (record row { alarm = a } ∷ rows) s) alarm_is

-- and one row more fires
rows-more : (b : PlainBoard) (m : ℕ) (alarm : Alarm) (s : State) (rows : List (ArmedRow Alarm)) → first_alarm rows ≡ Some alarm → fired_rows b (suc m) rows s ≡ 1 + (let e = fired b alarm (taken s (Some alarm)) in fired_rows b m (due e.state) e.state)
rows-more b m alarm s [] is = absurd cc
rows-more b m alarm s (row ∷ rows) is = let alarm_is : row.alarm ≡ alarm = cc in ap (λ (a : Alarm). fired_rows b (suc m) (record row { alarm = a } ∷ rows) s) alarm_is

rows-none : (b : PlainBoard) (n : ℕ) (s : State) (rows : List (ArmedRow Alarm)) → first_alarm rows ≡ None → fired_rows b n rows s ≡ 0
rows-none b zero s rows is = refl
rows-none b (suc n) s [] is = refl
rows-none b (suc n) s (row ∷ rows) is = absurd cc

-- where no row is due, nothing is left
rest-none : (b : PlainBoard) (n : ℕ) (s : State) (rows : List (ArmedRow Alarm)) → first_alarm rows ≡ None → ((due_rows_effect b n rows s).state ≡ s) × ((due_rows_effect b n rows s).lines ≡ [])
rest-none b zero s rows is = (refl, refl)
rest-none b (suc n) s [] is = (refl, refl)
rest-none b (suc n) s (row ∷ rows) is = absurd cc

-- before the first row
pub firing-begun : (k : PlainKernel) (lines : List Line) (room steps : ℕ) → length lines + (2 + length k.board.threads) * length (due k.state) ≤ room → IsFiring k k lines lines room steps steps
firing-begun k lines room steps fits = record { board = refl; fuel = length (due k.state); enough = omega arith; state = refl; shown = refl; fits = fits; moment = refl; arrivals = refl; numbers = omega arith; read = omega arith }

-- the row that is taken leaves its lines for those that are due yet
pub room-left : (each n m lines room : ℕ) → m < n → lines + each * n ≤ room → lines + each + each * m ≤ room
room-left each n m lines room less fits = omega (arith, fits, mul-suc each m, mul-le-mul_left {m = suc m} {n = n} each less)

-- one row more
pub firing-more : (old now mid new : PlainKernel) (old_lines lines new_lines : List Line) (room old_steps steps new_steps : ℕ) (alarm : Alarm) →
    IsFiring old now old_lines lines room old_steps steps →
    first_alarm (due now.state) ≡ Some alarm →
    mid.board ≡ now.board → mid.state ≡ taken now.state (Some alarm) → length (due mid.state) < length (due now.state) →
    new.board ≡ mid.board → new.state ≡ (fired mid.board alarm mid.state).state → new_lines ≡ lines ++ (fired mid.board alarm mid.state).lines → length (due new.state) ≤ length (due mid.state) →
    length new_lines ≤ length lines + 2 + length mid.board.threads → new.state.numbers ≤ mid.state.numbers + 2 → new.state.moment ≡ mid.state.moment → new.state.arrivals ≡ mid.state.arrivals → new_steps ≤ steps + row_cost old.board →
    IsFiring old new old_lines new_lines room old_steps new_steps
firing-more old now mid new old_lines lines new_lines room old_steps steps new_steps alarm on first board taken_is fewer new_board state shown no_more few numbers moment arrivals read =
    let left = rest-more old.board on.fuel alarm now.state (due now.state) first on.enough in
    let m = left.0 in
    let same_board : mid.board ≡ old.board = board ∙ on.board in
    let fired_is : fired old.board alarm (taken now.state (Some alarm)) ≡ fired mid.board alarm mid.state = ap (λ (b : PlainBoard). fired b alarm (taken now.state (Some alarm))) (sym same_board) ∙ ap (λ (s : State). fired mid.board alarm s) (sym taken_is) in
    let new_is : new.state ≡ (fired old.board alarm (taken now.state (Some alarm))).state = state ∙ sym (ap (λ (e : Effect). e.state) fired_is) in
    let new_shown : new_lines ≡ lines ++ (fired old.board alarm (taken now.state (Some alarm))).lines = shown ∙ sym (ap (λ (e : Effect). lines ++ e.lines) fired_is) in
    record {
      board = new_board ∙ same_board;
      fuel = m;
      enough = omega (arith, no_more, fewer, on.enough, left.1);
      state = ap (λ (s : State). (rest_effect old.board m s).state) new_is ∙ sym (ap (λ (e : Effect). e.state) left.2) ∙ on.state;
      shown =
          ap (λ (ls : List Line). ls ++ (rest_effect old.board m new.state).lines) new_shown
          ∙ ap (λ (s : State). (lines ++ (fired old.board alarm (taken now.state (Some alarm))).lines) ++ (rest_effect old.board m s).lines) new_is
          ∙ append_assoc lines _ _
          ∙ sym (ap (λ (e : Effect). lines ++ e.lines) left.2)
          ∙ on.shown;
      fits = omega (arith, few, ap (λ (b : PlainBoard). length b.threads) same_board, room-left (2 + length old.board.threads) (length (due now.state)) (length (due new.state)) (length lines) room (omega (arith, no_more, fewer)) on.fits);
      moment = moment ∙ ap (λ (s : State). s.moment) taken_is ∙ on.moment;
      arrivals = arrivals ∙ ap (λ (s : State). s.arrivals) taken_is ∙ on.arrivals;
      numbers = omega (arith, numbers, ap (λ (s : State). s.numbers) taken_is, no_more, fewer, on.numbers);
      read = read-more steps new_steps (fired_rows old.board on.fuel (due now.state) now.state) (fired_rows old.board m (due new.state) new.state) (row_cost old.board) (old_steps + rows_now old.board old.state * row_cost old.board)
          (ap (λ n. fired_rows old.board n (due now.state) now.state) left.1 ∙ rows-more old.board m alarm now.state (due now.state) first ∙ ap (λ (s : State). 1 + fired_rows old.board m (due s) s) (sym new_is)) read on.read;
    }
  where
    read-more : (steps new_steps all rest each bound : ℕ) → all ≡ 1 + rest → new_steps ≤ steps + each → steps + all * each ≤ bound → new_steps + rest * each ≤ bound
    read-more steps new_steps all rest each bound one less le =
        let more : all ≡ suc rest = omega (arith, one) in
        let whole : all * each ≡ rest * each + each = ap (λ n. n * each) more ∙ suc-mul rest each in
        omega (arith, less, le, whole)

-- what is so behind the last row
abbrev pub Done : PlainKernel → PlainKernel → List Line → List Line → Type 0
Done old new old_lines lines = (new.board ≡ old.board) × (new.state ≡ (alarms_effect old.board old.state).state) × (lines ≡ old_lines ++ (alarms_effect old.board old.state).lines) × (new.state.moment ≡ old.state.moment) × (new.state.arrivals ≡ old.state.arrivals)

-- behind the last row
pub firing-done : (old now mid : PlainKernel) (old_lines lines : List Line) (room old_steps steps : ℕ) →
    IsFiring old now old_lines lines room old_steps steps → first_alarm (due now.state) ≡ None →
    mid.board ≡ now.board → mid.state ≡ taken now.state None →
    Done old mid old_lines lines
firing-done old now mid old_lines lines room old_steps steps on none board state =
    let left = rest-none old.board on.fuel now.state (due now.state) none in (
      board ∙ on.board,
      state ∙ sym left.0 ∙ on.state,
      sym (append-nil lines) ∙ sym (ap (λ (ls : List Line). lines ++ ls) left.1) ∙ on.shown,
      ap (λ (s : State). s.moment) state ∙ on.moment,
      ap (λ (s : State). s.arrivals) state ∙ on.arrivals,
    )
