-- Words and lines put behind one another, as the definitions join them.
use Rattle.std.proofs.Common.{◌≡◌, ℕ, List, [], ◌∷◌, ◌++◌, Option, Some, None, map, codes, decimal, append_assoc, refl, sym, ap, ◌∙◌}
use Rattle.std.specs.List.{flat_map}
use Rattle.std.proofs.lemmas.List.{append-nil}
use Rattle.std.proofs.lemmas.List.Folds.{flat_map-map}
use Rattle.std.proofs.lemmas.Grind.{flat_map-append}
use Rattle.rt_base.specs.declared.codes.Event.{Event}
use Rattle.rt_plain.specs.declared.board.TimerDef.{TimerDef}
use Rattle.rt_plain.specs.declared.board.ThreadDef.{ThreadDef}
use Rattle.rt_plain.specs.declared.board_line.BoardLine.{BoardLine}
use Rattle.rt_plain.specs.declared.stmt.Stmt.{Stmt}
use Rattle.rt_plain.specs.PlainBoard.{PlainBoard}
use Rattle.rt_plain.specs.text.Words.{words}
use Rattle.rt_plain.specs.text.StatementTable.{statement_words}
use Rattle.rt_plain.specs.text.Texts.{with_newline}
use Rattle.rt_plain.specs.text.Fields.{timer_kind_text, either}
use Rattle.rt_plain.specs.text.Tails.{event_text, timer_call_words}
use Rattle.rt_plain.specs.text.LineTable.{text_of}
use Rattle.rt_plain.specs.text.Canon.{thread_lines, line_of_thread, setting_lines, shell_lines, soft_lines, limit_lines, object_lines, board_lines, canonical_text}
use Rattle.board_show.specs.declared.shown.Shown.{Shown}
use Rattle.board_show.specs.Writing.{shown, whole_line, whole_lines, line_by_line, timer_call_text, timer_fields, statement_text, order_line}

pub joined_by : {A : Type 0} (f : A → List ℕ) (first : List ℕ) (xs : List A) → words (first ∷ map f xs) ≡ first ++ flat_map (λ (x : A). 32 ∷ f x) xs
joined_by f first [] = sym (append-nil first)
joined_by f first (x ∷ xs) = ap (λ (t : List ℕ). first ++ 32 ∷ t) (joined_by f (f x) xs)

pub joined : (first : List ℕ) (others : List Shown) → words (first ∷ map shown others) ≡ first ++ flat_map (λ (w : Shown). 32 ∷ shown w) others
joined first others = joined_by shown first others

pub words_are : (out first : List ℕ) (others : List Shown) → (out ++ first) ++ flat_map (λ (w : Shown). 32 ∷ shown w) others ≡ out ++ words (first ∷ map shown others)
words_are out first others = append_assoc out first _ ∙ ap (λ (t : List ℕ). out ++ t) (sym (joined first others))

pub order_is : (out : List ℕ) (events : List Event) → ((out ++ codes "schedule order") ++ flat_map (λ (e : Event). 32 ∷ event_text e) events) ++ 10 ∷ [] ≡ out ++ order_line events
order_is out events =
    append_assoc (out ++ codes "schedule order") _ (10 ∷ [])
    ∙ append_assoc out (codes "schedule order") _
    ∙ ap (λ (t : List ℕ). out ++ (codes "schedule " ++ t)) (sym (append_assoc (codes "order") _ (10 ∷ [])) ∙ ap (λ (t : List ℕ). t ++ 10 ∷ []) (sym (joined_by event_text (codes "order") events)))

words-more : (first : List ℕ) (ws : List (List ℕ)) (next : List ℕ) (vs : List (List ℕ)) → words (first ∷ ws) ++ 32 ∷ words (next ∷ vs) ≡ words (first ∷ (ws ++ next ∷ vs))
words-more first [] next vs = refl
words-more first (w ∷ ws) next vs = append_assoc first (32 ∷ words (w ∷ ws)) (32 ∷ words (next ∷ vs)) ∙ ap (λ (t : List ℕ). first ++ 32 ∷ t) (words-more w ws next vs)

-- a timer's line is its fields and its call
timer-words : (first : List ℕ) (ws : List (List ℕ)) (call : Option Stmt) → words (first ∷ ws) ++ 32 ∷ timer_call_text call ≡ words (first ∷ (ws ++ timer_call_words call))
unfolding timer_call_text
timer-words first ws None = words-more first ws _ _
timer-words first ws (Some s) = words-more first ws _ _

timer-line : (out : List ℕ) (t : TimerDef) → ((out ++ timer_fields t) ++ codes " ") ++ timer_call_text t.call ≡ out ++ text_of (BoardLine.Timer t)
timer-line out t =
    let ws = t.name ∷ timer_kind_text t.kind ∷ decimal t.time ∷ either (codes "auto") (codes "manual") t.started ∷ [] in
    append_assoc (out ++ timer_fields t) (codes " ") (timer_call_text t.call)
    ∙ append_assoc out (timer_fields t) (32 ∷ timer_call_text t.call)
    ∙ ap (λ (x : List ℕ). out ++ x) (timer-words (codes "timer") ws t.call)

pub timer_is : (out : List ℕ) (t : TimerDef) → (((out ++ timer_fields t) ++ codes " ") ++ timer_call_text t.call) ++ 10 ∷ [] ≡ out ++ whole_line (BoardLine.Timer t)
unfolding whole_line
timer_is out t = ap (λ (x : List ℕ). x ++ 10 ∷ []) (timer-line out t) ∙ append_assoc out (text_of (BoardLine.Timer t)) (10 ∷ [])

pub statement_is : (out : List ℕ) (s : Stmt) → ((out ++ codes "  ") ++ statement_text s) ++ 10 ∷ [] ≡ out ++ whole_line (BoardLine.Statement s)
unfolding whole_line statement_text
statement_is out s = ap (λ (x : List ℕ). x ++ 10 ∷ []) (append_assoc out (codes "  ") (words (statement_words s))) ∙ append_assoc out (text_of (BoardLine.Statement s)) (10 ∷ [])

pub by_line_is : (text : List ℕ) (ls : List BoardLine) → line_by_line text ls ≡ text ++ whole_lines ls
by_line_is text [] = sym (append-nil text)
by_line_is text (l ∷ ls) = by_line_is (text ++ whole_line l) ls ∙ append_assoc text (whole_line l) (whole_lines ls)

more : {A : Type 0} (say : A → BoardLine) (text : List ℕ) (xs : List A) (ls : List BoardLine) → (text ++ flat_map (λ (x : A). whole_line (say x)) xs) ++ whole_lines ls ≡ text ++ whole_lines (map say xs ++ ls)
more say text xs ls =
    append_assoc text _ (whole_lines ls)
    ∙ ap (λ (t : List ℕ). text ++ t) (ap (λ (t : List ℕ). t ++ whole_lines ls) (sym (flat_map-map whole_line say xs)) ∙ sym (flat_map-append whole_line (map say xs) ls))

thread-lines : (ts : List ThreadDef) → flat_map (λ (t : ThreadDef). whole_lines (thread_lines t)) ts ≡ whole_lines (flat_map thread_lines ts)
thread-lines [] = refl
thread-lines (t ∷ ts) = ap (λ (x : List ℕ). whole_lines (thread_lines t) ++ x) (thread-lines ts) ∙ sym (flat_map-append whole_line (thread_lines t) (flat_map thread_lines ts))

more-threads : (text : List ℕ) (ts : List ThreadDef) (ls : List BoardLine) → (text ++ flat_map (λ (t : ThreadDef). whole_lines (thread_lines t)) ts) ++ whole_lines ls ≡ text ++ whole_lines (flat_map thread_lines ts ++ ls)
more-threads text ts ls =
    append_assoc text _ (whole_lines ls)
    ∙ ap (λ (t : List ℕ). text ++ t) (ap (λ (t : List ℕ). t ++ whole_lines ls) (thread-lines ts) ∙ sym (flat_map-append whole_line (flat_map thread_lines ts) ls))

pub thread_is : (text : List ℕ) (t : ThreadDef) → (text ++ whole_line (BoardLine.Thread (line_of_thread t))) ++ flat_map (λ (s : Stmt). whole_line (BoardLine.Statement s)) t.script ≡ text ++ whole_lines (thread_lines t)
thread_is text t =
    append_assoc text _ _
    ∙ ap (λ (x : List ℕ). text ++ (whole_line (BoardLine.Thread (line_of_thread t)) ++ x)) (sym (flat_map-map whole_line (λ (s : Stmt). BoardLine.Statement s) t.script))

pub objects_are : (text : List ℕ) (b : PlainBoard) → (((((((((text ++ flat_map (λ d. whole_line (BoardLine.Sem d)) b.sems) ++ flat_map (λ d. whole_line (BoardLine.Event d)) b.events) ++ flat_map (λ d. whole_line (BoardLine.Mutex d)) b.mutexes) ++ flat_map (λ d. whole_line (BoardLine.Mailbox d)) b.mailboxes) ++ flat_map (λ d. whole_line (BoardLine.Queue d)) b.queues) ++ flat_map (λ d. whole_line (BoardLine.Pool d)) b.pools) ++ flat_map (λ d. whole_line (BoardLine.Device d)) b.devices) ++ flat_map (λ d. whole_line (BoardLine.Timer d)) b.timers) ++ flat_map (λ t. whole_lines (thread_lines t)) b.threads) ++ flat_map (λ a. whole_line (BoardLine.Arrive a)) b.arrivals ≡ text ++ whole_lines (object_lines b)
objects_are text b =
    let s1 = text ++ flat_map (λ d. whole_line (BoardLine.Sem d)) b.sems in
    let s2 = s1 ++ flat_map (λ d. whole_line (BoardLine.Event d)) b.events in
    let s3 = s2 ++ flat_map (λ d. whole_line (BoardLine.Mutex d)) b.mutexes in
    let s4 = s3 ++ flat_map (λ d. whole_line (BoardLine.Mailbox d)) b.mailboxes in
    let s5 = s4 ++ flat_map (λ d. whole_line (BoardLine.Queue d)) b.queues in
    let s6 = s5 ++ flat_map (λ d. whole_line (BoardLine.Pool d)) b.pools in
    let s7 = s6 ++ flat_map (λ d. whole_line (BoardLine.Device d)) b.devices in
    let s8 = s7 ++ flat_map (λ d. whole_line (BoardLine.Timer d)) b.timers in
    let s9 = s8 ++ flat_map (λ t. whole_lines (thread_lines t)) b.threads in
    ap (λ (t : List ℕ). s9 ++ t) (sym (flat_map-map whole_line (λ a. BoardLine.Arrive a) b.arrivals))
    ∙ more-threads s8 b.threads _
    ∙ more (λ d. BoardLine.Timer d) s7 b.timers _
    ∙ more (λ d. BoardLine.Device d) s6 b.devices _
    ∙ more (λ d. BoardLine.Pool d) s5 b.pools _
    ∙ more (λ d. BoardLine.Queue d) s4 b.queues _
    ∙ more (λ d. BoardLine.Mailbox d) s3 b.mailboxes _
    ∙ more (λ d. BoardLine.Mutex d) s2 b.mutexes _
    ∙ more (λ d. BoardLine.Event d) s1 b.events _
    ∙ more (λ d. BoardLine.Sem d) text b.sems _

whole-is : (ls : List BoardLine) → whole_lines ls ≡ flat_map (λ (l : BoardLine). with_newline (text_of l)) ls
unfolding whole_line
whole-is [] = refl
whole-is (l ∷ ls) = ap (λ (t : List ℕ). with_newline (text_of l) ++ t) (whole-is ls)

-- a part of the lines, and those behind it
part : (text : List ℕ) (here rest : List BoardLine) → line_by_line text here ++ whole_lines rest ≡ text ++ whole_lines (here ++ rest)
part text here rest =
    ap (λ (t : List ℕ). t ++ whole_lines rest) (by_line_is text here)
    ∙ append_assoc text (whole_lines here) (whole_lines rest)
    ∙ ap (λ (t : List ℕ). text ++ t) (sym (flat_map-append whole_line here rest))

pub board_is : (b : PlainBoard) → line_by_line (line_by_line (line_by_line (line_by_line [] (setting_lines b)) (shell_lines b.shell)) (soft_lines b.soft)) (limit_lines b) ++ whole_lines (object_lines b) ≡ canonical_text b
board_is b =
    let one = line_by_line [] (setting_lines b) in
    let two = line_by_line one (shell_lines b.shell) in
    let three = line_by_line two (soft_lines b.soft) in
    part three (limit_lines b) (object_lines b)
    ∙ part two (soft_lines b.soft) _
    ∙ part one (shell_lines b.shell) _
    ∙ part [] (setting_lines b) _
    ∙ whole-is (board_lines b)
