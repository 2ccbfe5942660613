-- What is drawn one after the other, and the names of numbers.
use Rattle.std.proofs.Common.{◌≡◌, ℕ, zero, suc, ◌+◌, ◌/◌, ◌%◌, ◌<◌, ◌≤◌, true, List, [], ◌∷◌, ◌++◌, refl, sym, ap, ◌∙◌, arith, append_assoc, codes, decimal, None, Result, Ok, Err, OnOk, IfOk, IsErr, IsErrAnd}
use Rattle.std.specs.List.{flat_map, range_with_len}
use Rattle.std.proofs.lemmas.Grind.{flat_map-append}
use Rattle.std.proofs.lemmas.List.{append-nil}
use Rattle.std.proofs.lemmas.Fmt.{decimal_digit, decimal_step}
use Rattle.std.proofs.lemmas.Bool.{ne_eqb}
use Rattle.rand_pcg.specs.Lcg.{Lcg}
use Rattle.rt_plain.specs.declared.board.SemDef.{SemDef}
use Rattle.rt_plain.specs.declared.board.TimerDef.{TimerDef}
use Rattle.rt_plain.specs.declared.board.ThreadDef.{ThreadDef}
use Rattle.rt_plain.specs.declared.stmt.Call.{Call}
use Rattle.rt_plain.specs.declared.stmt.Stmt.{Stmt}
use Rattle.rt_plain.specs.runs.Schedules.{words_of_seed}
use Rattle.rt_plain.specs.runs.Generated.{Drawn, block_of, board_with, draw_below, draw_block, draw_each, draw_script, draw_sem, draw_thread, draw_timer, generated_board, numbered, thread_with, undrawn}

-- ---- one after the other

-- one draw more
pub drawn-more : {A : Type 0} (draw : ℕ → Lcg → Drawn A) (a n j : ℕ) (g : Lcg) → a + n ≡ j
    → let before = draw_each draw (range_with_len a n) g in
    let last = draw j before.rest in
    draw_each draw (range_with_len a (n + 1)) g ≡ record { value = before.value ++ last.value ∷ []; rest = last.rest }
drawn-more draw a zero j g is = let same : a ≡ j = omega (arith, is) in rw same refl
drawn-more {A} draw a (suc n) j g is =
    let first = draw a g in
    let more : suc n + 1 ≡ suc (n + 1) = omega arith in
    ap (λ (k : ℕ). draw_each draw (range_with_len a k) g) more
    ∙ ap (λ (ds : Drawn (List A)). record { value = first.value ∷ ds.value; rest = ds.rest }) (drawn-more draw (a + 1) n j first.rest (omega (arith, is)))

-- the same from 0 on, of all that was drawn and of the generator after it
pub drawn-next : {A : Type 0} (draw : ℕ → Lcg → Drawn A) (n : ℕ) (g : Lcg) (front : List A) (words : Lcg) (item : A) (words' : Lcg)
    → front ≡ (draw_each draw (range_with_len 0 n) g).value → words ≡ (draw_each draw (range_with_len 0 n) g).rest
    → item ≡ (draw n words).value → words' ≡ (draw n words).rest
    → (front ++ item ∷ [] ≡ (draw_each draw (range_with_len 0 (n + 1)) g).value) × (words' ≡ (draw_each draw (range_with_len 0 (n + 1)) g).rest)
drawn-next {A} draw n g front words item words' is rest drawn left =
    let before = draw_each draw (range_with_len 0 n) g in
    let all = drawn-more draw 0 n n g (omega arith) in (
      ap (λ (xs : List A). xs ++ item ∷ []) is ∙ ap (λ (x : A). before.value ++ x ∷ []) (drawn ∙ ap (λ (w : Lcg). (draw n w).value) rest) ∙ sym (ap (λ (d : Drawn (List A)). d.value) all),
      left ∙ ap (λ (w : Lcg). (draw n w).rest) rest ∙ sym (ap (λ (d : Drawn (List A)). d.rest) all),
    )

-- the statements of one block more
pub blocks-more : {A : Type 0} (front : List A) (blocks : List (List A)) (block : List A) → (front ++ flat_map (λ b. b) blocks) ++ block ≡ front ++ flat_map (λ b. b) (blocks ++ block ∷ [])
blocks-more {A} front blocks block =
    append_assoc front (flat_map (λ (b : List A). b) blocks) block
    ∙ ap (λ (s : List A). front ++ s) (sym (flat_map-append (λ (b : List A). b) blocks (block ∷ []) ∙ ap (λ (s : List A). flat_map (λ (b : List A). b) blocks ++ s) (append-nil block)))

-- the same of a script and its blocks
pub blocks-next : (n : ℕ) (g : Lcg) (front script : List Stmt) (words : Lcg) (kind : ℕ) (drawn : Lcg) (script' : List Stmt) (words' : Lcg)
    → script ≡ front ++ flat_map (λ b. b) (draw_each draw_block (range_with_len 0 n) g).value → words ≡ (draw_each draw_block (range_with_len 0 n) g).rest
    → kind ≡ (draw_below 6 words).value → drawn ≡ (draw_below 6 words).rest
    → script' ≡ script ++ (block_of kind drawn).value → words' ≡ (block_of kind drawn).rest
    → (script' ≡ front ++ flat_map (λ b. b) (draw_each draw_block (range_with_len 0 (n + 1)) g).value) × (words' ≡ (draw_each draw_block (range_with_len 0 (n + 1)) g).rest)
blocks-next n g front script words kind drawn script' words' is rest kind-is drawn-is script-is words-is =
    let before = draw_each draw_block (range_with_len 0 n) g in
    let all = drawn-more draw_block 0 n n g (omega arith) in
    let same : block_of kind drawn ≡ draw_block n before.rest =
    ap (λ (k : ℕ). block_of k drawn) kind-is ∙ ap (λ (w : Lcg). block_of (draw_below 6 words).value w) drawn-is ∙ ap (λ (w : Lcg). draw_block n w) rest in (
      script-is
          ∙ ap (λ (s : List Stmt). s ++ (block_of kind drawn).value) is
          ∙ ap (λ (d : Drawn (List Stmt)). (front ++ flat_map (λ b. b) before.value) ++ d.value) same
          ∙ blocks-more front before.value (draw_block n before.rest).value
          ∙ sym (ap (λ (d : Drawn (List (List Stmt))). front ++ flat_map (λ b. b) d.value) all),
      words-is ∙ ap (λ (d : Drawn (List Stmt)). d.rest) same ∙ sym (ap (λ (d : Drawn (List (List Stmt))). d.rest) all),
    )

pub pushed_two : {A : Type 0} (s : List A) (a b : A) → (s ++ a ∷ []) ++ b ∷ [] ≡ s ++ a ∷ b ∷ []
pushed_two s a b = append_assoc s (a ∷ []) (b ∷ [])

pub pushed_three : {A : Type 0} (s : List A) (a b c : A) → ((s ++ a ∷ []) ++ b ∷ []) ++ c ∷ [] ≡ s ++ a ∷ b ∷ c ∷ []
pushed_three {A} s a b c = ap (λ (t : List A). t ++ c ∷ []) (pushed_two s a b) ∙ append_assoc s (a ∷ b ∷ []) (c ∷ [])

-- a script behind its blocks
pub script-is : (g : Lcg) (front blocks : List Stmt) (words : Lcg) (pause : ℕ) (words' : Lcg) (one two : List Stmt)
    → front ≡ [] → blocks ≡ front ++ flat_map (λ b. b) (draw_each draw_block (range_with_len 0 4) g).value → words ≡ (draw_each draw_block (range_with_len 0 4) g).rest
    → pause ≡ (draw_below 20 words).value → words' ≡ (draw_below 20 words).rest
    → one ≡ blocks ++ Stmt.Do (Call.Delay (1 + pause)) ∷ [] → two ≡ one ++ Stmt.Goto 1 ∷ []
    → (two ≡ (draw_script g).value) × (words' ≡ (draw_script g).rest)
script-is g front blocks words pause words' one two empty blocks-are words-are pause-is left one-is two-is =
    let all = draw_each draw_block (range_with_len 0 4) g in (
      two-is
          ∙ ap (λ (s : List Stmt). s ++ Stmt.Goto 1 ∷ []) one-is
          ∙ pushed_two blocks (Stmt.Do (Call.Delay (1 + pause))) (Stmt.Goto 1)
          ∙ ap (λ (s : List Stmt). s ++ Stmt.Do (Call.Delay (1 + pause)) ∷ Stmt.Goto 1 ∷ []) (blocks-are ∙ ap (λ (s : List Stmt). s ++ flat_map (λ b. b) all.value) empty)
          ∙ ap (λ (k : ℕ). flat_map (λ b. b) all.value ++ Stmt.Do (Call.Delay (1 + k)) ∷ Stmt.Goto 1 ∷ []) (pause-is ∙ ap (λ (w : Lcg). (draw_below 20 w).value) words-are),
      left ∙ ap (λ (w : Lcg). (draw_below 20 w).rest) words-are,
    )

-- a thread of what was drawn for it
pub thread-is : (i : ℕ) (g : Lcg) (name : List ℕ) (base : ℕ) (words : Lcg) (slice : ℕ) (words' : Lcg) (script : List Stmt) (words'' : Lcg)
    → name ≡ numbered (codes "w") i → base ≡ (draw_below 30 g).value → words ≡ (draw_below 30 g).rest
    → slice ≡ (draw_below 10 words).value → words' ≡ (draw_below 10 words).rest
    → script ≡ (draw_script words').value → words'' ≡ (draw_script words').rest
    → ((record { name = name; prio = base; slice = 1 + slice; core = None; started = true; script = script }) ≡ (draw_thread i g).value) × (words'' ≡ (draw_thread i g).rest)
thread-is i g name base words slice words' script words'' name-is base-is words-are slice-is left script-is' end =
    let one = draw_below 30 g in
    let two = draw_below 10 one.rest in
    let between : words' ≡ two.rest = left ∙ ap (λ (w : Lcg). (draw_below 10 w).rest) words-are in (
      ap (λ (n : List ℕ). record { name = n; prio = base; slice = 1 + slice; core = None; started = true; script = script }) name-is
          ∙ ap (λ (n : ℕ). thread_with i n slice script) base-is
          ∙ ap (λ (n : ℕ). thread_with i one.value n script) (slice-is ∙ ap (λ (w : Lcg). (draw_below 10 w).value) words-are)
          ∙ ap (λ (s : List Stmt). thread_with i one.value two.value s) (script-is' ∙ ap (λ (w : Lcg). (draw_script w).value) between),
      end ∙ ap (λ (w : Lcg). (draw_script w).rest) between,
    )

-- the last kind of block
pub dot-block : (kind : ℕ) (g : Lcg) → (kind ≡ 0 → ⊥) → (kind ≡ 1 → ⊥) → (kind ≡ 2 → ⊥) → (kind ≡ 3 → ⊥) → (kind ≡ 4 → ⊥) → block_of kind g ≡ undrawn (Stmt.Print (codes ".") ∷ []) g
dot-block kind g a b c d e = rw (ne_eqb kind 0 a, ne_eqb kind 1 b, ne_eqb kind 2 c, ne_eqb kind 3 d, ne_eqb kind 4 e) refl

-- a board of what was drawn for it
pub board-is : (n : ℕ) (w : Lcg) (cores : ℕ) (w1 : Lcg) (sems : List SemDef) (w2 : Lcg) (timers : List TimerDef) (w3 : Lcg) (more : ℕ) (w4 : Lcg) (threads : List ThreadDef)
    → w ≡ words_of_seed n → cores ≡ (draw_below 4 w).value → w1 ≡ (draw_below 4 w).rest
    → sems ≡ (draw_each draw_sem (range_with_len 0 4) w1).value → w2 ≡ (draw_each draw_sem (range_with_len 0 4) w1).rest
    → timers ≡ (draw_each draw_timer (range_with_len 0 2) w2).value → w3 ≡ (draw_each draw_timer (range_with_len 0 2) w2).rest
    → more ≡ (draw_below 8 w3).value → w4 ≡ (draw_below 8 w3).rest
    → threads ≡ (draw_each draw_thread (range_with_len 0 (8 + more)) w4).value
    → board_with cores sems timers threads ≡ generated_board n
board-is n w cores w1 sems w2 timers w3 more w4 threads w-is cores-is w1-is sems-are w2-is timers-are w3-is more-is w4-is threads-are =
    let a = draw_below 4 (words_of_seed n) in
    let b = draw_each draw_sem (range_with_len 0 4) a.rest in
    let c = draw_each draw_timer (range_with_len 0 2) b.rest in
    let d = draw_below 8 c.rest in
    let one : w1 ≡ a.rest = w1-is ∙ ap (λ (g : Lcg). (draw_below 4 g).rest) w-is in
    let two : w2 ≡ b.rest = w2-is ∙ ap (λ (g : Lcg). (draw_each draw_sem (range_with_len 0 4) g).rest) one in
    let three : w3 ≡ c.rest = w3-is ∙ ap (λ (g : Lcg). (draw_each draw_timer (range_with_len 0 2) g).rest) two in
    let four : w4 ≡ d.rest = w4-is ∙ ap (λ (g : Lcg). (draw_below 8 g).rest) three in
    ap (λ (k : ℕ). board_with k sems timers threads) (cores-is ∙ ap (λ (g : Lcg). (draw_below 4 g).value) w-is)
    ∙ ap (λ (x : List SemDef). board_with a.value x timers threads) (sems-are ∙ ap (λ (g : Lcg). (draw_each draw_sem (range_with_len 0 4) g).value) one)
    ∙ ap (λ (x : List TimerDef). board_with a.value b.value x threads) (timers-are ∙ ap (λ (g : Lcg). (draw_each draw_timer (range_with_len 0 2) g).value) two)
    ∙ ap (λ (x : List ThreadDef). board_with a.value b.value c.value x)
    (threads-are
    ∙ ap (λ (g : Lcg). (draw_each draw_thread (range_with_len 0 (8 + more)) g).value) four
    ∙ ap (λ (k : ℕ). (draw_each draw_thread (range_with_len 0 (8 + k)) d.rest).value) (more-is ∙ ap (λ (g : Lcg). (draw_below 8 g).value) three))

-- ---- answers

pub on-ok_more : {T E : Type 0} (r : Result T E) (P Q : Type 0) → (P → Q) → OnOk r P → OnOk r Q
on-ok_more (Ok x) P Q more h = more h
on-ok_more (Err e) P Q more h = tt

pub on-ok_all : {T E : Type 0} (r : Result T E) (P : Type 0) → P → OnOk r P
on-ok_all (Ok x) P h = h
on-ok_all (Err e) P h = tt

pub never-ok : {T E : Type 0} (r : Result T E) (P : Type 0) (fault : E) → IsErr r × IsErrAnd r (λ e. e ≡ fault) → OnOk r P
never-ok (Ok x) P fault is = absurd is.1
never-ok (Err e) P fault is = tt

pub if-ok_more : {T E : Type 0} (r : Result T E) (P Q : T → Type 0) → ((x : T) → P x → Q x) → IfOk r P → IfOk r Q
if-ok_more (Ok x) P Q more h = more x h
if-ok_more (Err e) P Q more h = tt

-- ---- names

-- a number of one digit
pub one_digit : (n : ℕ) → n < 10 → decimal n ≡ (48 + n % 10) ∷ []
one_digit n lt = let same : n % 10 ≡ n = omega (arith, lt) in decimal_digit n lt ∙ ap (λ (d : ℕ). (48 + d) ∷ []) (sym same)

-- a number of two digits
pub two_digits : (n : ℕ) → 10 ≤ n → n < 100 → decimal n ≡ (48 + n / 10) ∷ (48 + n % 10) ∷ []
two_digits n le lt = decimal_step n le (omega (arith, lt)) ∙ ap (λ (ds : List ℕ). ds ++ (48 + n % 10) ∷ []) (decimal_digit (n / 10) (omega (arith, lt)))
