-- A board's canonical text is a text of that board, where its lines may stand.
use Rattle.std.proofs.Common.{◌≡◌, ℕ, ◌≤◌, true, false, not, leb, Option, Some, None, List, [], ◌∷◌, ◌++◌, map, refl, sym, ap, ◌∙◌, subst, arith, inr, append_assoc}
use Rattle.std.specs.List.{flat_map, list_all}
use Rattle.std.proofs.lemmas.List.Concat.{flat_map-cons}
use Rattle.std.proofs.lemmas.List.{append-nil}
use Rattle.std.proofs.lemmas.Bool.{and_parts, ne_eqb, leb-true}
use Rattle.rt_plain.specs.declared.board.SemDef.{SemDef}
use Rattle.rt_plain.specs.declared.board.EventDef.{EventDef}
use Rattle.rt_plain.specs.declared.board.MutexDef.{MutexDef}
use Rattle.rt_plain.specs.declared.board.MailboxDef.{MailboxDef}
use Rattle.rt_plain.specs.declared.board.QueueDef.{QueueDef}
use Rattle.rt_plain.specs.declared.board.PoolDef.{PoolDef}
use Rattle.rt_plain.specs.declared.board.DeviceDef.{DeviceDef}
use Rattle.rt_plain.specs.declared.board.TimerDef.{TimerDef}
use Rattle.rt_plain.specs.declared.board.ThreadDef.{ThreadDef}
use Rattle.rt_plain.specs.declared.board.Arrival.{Arrival}
use Rattle.rt_plain.specs.declared.board_line.BoardLine.{BoardLine}
use Rattle.rt_plain.specs.declared.board_line.ThreadLine.{ThreadLine}
use Rattle.rt_plain.specs.declared.stmt.Stmt.{Stmt}
use Rattle.rt_plain.specs.declared.kind.Kind.{Kind}
use Rattle.rt_plain.specs.declared.kind.LineKind.{LineKind}
use Rattle.rt_plain.specs.declared.kind.StatementKind.{StatementKind}
use Rattle.rt_plain.specs.PlainBoard.{PlainBoard}
use Rattle.rt_plain.specs.text.Texts.{with_newline}
use Rattle.rt_plain.specs.text.Splits.{lines_of, is_printable}
use Rattle.rt_plain.specs.text.LineTable.{row, FormValues, parts, text_of}
use Rattle.rt_plain.specs.text.BoardText.{SoFar, start, added, after, scripted, is_skipped, Stands, AreLines, IsBoard}
use Rattle.rt_plain.specs.text.Canon.{line_of_thread, thread_lines, shell_lines, soft_lines, setting_lines, limit_lines, object_lines, board_lines, text_of_lines, canonical_text, IsValid}
use Rattle.rt_plain.proofs.text.SplitLemmas.{IsUnbroken, line_is}
use Rattle.rt_plain.proofs.text.LineTableLemmas.{spelling, text-parts}
use Rattle.rt_plain.proofs.text.LineLemmas.{spelling_printable}
use Rattle.rt_plain.proofs.text.BoardLemmas.{scripted_last}

-- ---- lines that may stand are read back

-- each line may stand behind those before it
abbrev pub AllStand : SoFar → List BoardLine → Type 0
AllStand s [] = Unit {0}
AllStand s (l ∷ ls) = Stands s l × AllStand (after s l) ls

-- what is read after these lines
abbrev pub after_all : SoFar → List BoardLine → SoFar
after_all s [] = s
after_all s (l ∷ ls) = after_all (after s l) ls

spelling_kept : (levels : ℕ) (k : Kind) (vs : FormValues levels k) → is_skipped (spelling levels k vs) ≡ false
spelling_kept levels (Kind.Line LineKind.Board) vs = refl
spelling_kept levels (Kind.Line _) vs = refl
spelling_kept levels (Kind.Statement StatementKind.Print) vs = refl
spelling_kept levels (Kind.Statement _) vs = refl

text_kept : (l : BoardLine) → is_skipped (text_of l) ≡ false
text_kept l = ap is_skipped (text-parts 0 l) ∙ spelling_kept 0 (parts 0 l).kind (parts 0 l).values

-- printable bytes have no newline
unbroken : (bs : List ℕ) → list_all is_printable bs ≡ true → IsUnbroken bs
unbroken [] h = tt
unbroken (b ∷ bs) h =
    let p = and_parts (is_printable b) (list_all is_printable bs) h in
    let q = and_parts (leb 32 b) (leb b 126) p.0 in
    let low : 32 ≤ b = leb-true 32 b q.0 in
    (ne_eqb b 10 (λ e. absurd (omega arith)), unbroken bs p.1)

text_unbroken : (s : SoFar) (l : BoardLine) → Stands s l → IsUnbroken (text_of l)
text_unbroken s l h = unbroken (text_of l) (ap (list_all is_printable) (text-parts s.board.levels l) ∙ spelling_printable s.board.levels (parts s.board.levels l).kind (parts s.board.levels l).values h.fits)

lines_read : (s : SoFar) (ls : List BoardLine) → AllStand s ls → lines_of (text_of_lines ls) ≡ map text_of ls
lines_read s [] h = refl
lines_read s (l ∷ ls) h =
    ap lines_of (flat_map-cons (λ (m : BoardLine). with_newline (text_of m)) l ls ∙ append_assoc (text_of l) (10 ∷ []) (text_of_lines ls))
    ∙ line_is (text_of l) (text_of_lines ls) (text_unbroken s l h.0) ∙ ap (λ (ts : List (List ℕ)). text_of l ∷ ts) (lines_read (after s l) ls h.1)

are_lines : (s : SoFar) (ls : List BoardLine) → AllStand s ls → 1 ≤ (after_all s ls).rank → AreLines s (map text_of ls) (after_all s ls).board
are_lines s [] h r = (r, refl)
are_lines s (l ∷ ls) h r = inr (l, ap not (text_kept l), record { spelled = refl; stands = h.0 }, are_lines (after s l) ls h.1 r)

-- ---- the lines of a board make that board

pub after-append : (s : SoFar) (ls ms : List BoardLine) → after_all s (ls ++ ms) ≡ after_all (after_all s ls) ms
after-append s [] ms = refl
after-append s (l ∷ ls) ms = after-append (after s l) ls ms

-- what lines do to the board, wherever they stand
record Make (ls : List BoardLine) (f : PlainBoard → PlainBoard) : Type 0 where
  made : (s : SoFar) → (after_all s ls).board ≡ f s.board

-- two pieces, one after the other
both_make : {ls ms : List BoardLine} {f g : PlainBoard → PlainBoard} → Make ls f → Make ms g → Make (ls ++ ms) (λ b. g (f b))
both_make {ls} {ms} {f} {g} h k = record { made = λ s. ap (λ (t : SoFar). t.board) (after-append s ls ms) ∙ k.made (after_all s ls) ∙ ap g (h.made s) }

-- the lines of one class, put at the end of the board's list one by one
class_made : {A : Type 0} (say : A → BoardLine) (put : PlainBoard → List A → PlainBoard) → ((b : PlainBoard) (x : A) → added b (say x) ≡ put b (x ∷ [])) → ((b : PlainBoard) → put b [] ≡ b) → ((b : PlainBoard) (xs ys : List A) → put (put b xs) ys ≡ put b (xs ++ ys)) → (xs : List A) → Make (map say xs) (λ b. put b xs)
class_made {A} say put one none more xs = record { made = λ s. each s xs } where
  each : (s : SoFar) (xs : List A) → (after_all s (map say xs)).board ≡ put s.board xs
  each s [] = sym (none s.board)
  each s (x ∷ xs) = each (after s (say x)) xs ∙ ap (λ (b : PlainBoard). put b xs) (one s.board x) ∙ more s.board (x ∷ []) xs

abbrev with_sems : PlainBoard → List SemDef → PlainBoard
with_sems b xs = record b { sems = b.sems ++ xs }

sems_made : (xs : List SemDef) → Make (map (λ (x : SemDef). BoardLine.Sem x) xs) (λ b. with_sems b xs)
sems_made = class_made (λ (x : SemDef). BoardLine.Sem x) with_sems (λ b x. refl) (λ b. ap (λ (xs : List SemDef). record b { sems = xs }) (append-nil b.sems)) (λ b xs ys. ap (λ (zs : List SemDef). record b { sems = zs }) (append_assoc b.sems xs ys))

abbrev with_events : PlainBoard → List EventDef → PlainBoard
with_events b xs = record b { events = b.events ++ xs }

events_made : (xs : List EventDef) → Make (map (λ (x : EventDef). BoardLine.Event x) xs) (λ b. with_events b xs)
events_made = class_made (λ (x : EventDef). BoardLine.Event x) with_events (λ b x. refl) (λ b. ap (λ (xs : List EventDef). record b { events = xs }) (append-nil b.events)) (λ b xs ys. ap (λ (zs : List EventDef). record b { events = zs }) (append_assoc b.events xs ys))

abbrev with_mutexes : PlainBoard → List MutexDef → PlainBoard
with_mutexes b xs = record b { mutexes = b.mutexes ++ xs }

mutexes_made : (xs : List MutexDef) → Make (map (λ (x : MutexDef). BoardLine.Mutex x) xs) (λ b. with_mutexes b xs)
mutexes_made = class_made (λ (x : MutexDef). BoardLine.Mutex x) with_mutexes (λ b x. refl) (λ b. ap (λ (xs : List MutexDef). record b { mutexes = xs }) (append-nil b.mutexes)) (λ b xs ys. ap (λ (zs : List MutexDef). record b { mutexes = zs }) (append_assoc b.mutexes xs ys))

abbrev with_mailboxes : PlainBoard → List MailboxDef → PlainBoard
with_mailboxes b xs = record b { mailboxes = b.mailboxes ++ xs }

mailboxes_made : (xs : List MailboxDef) → Make (map (λ (x : MailboxDef). BoardLine.Mailbox x) xs) (λ b. with_mailboxes b xs)
mailboxes_made = class_made (λ (x : MailboxDef). BoardLine.Mailbox x) with_mailboxes (λ b x. refl) (λ b. ap (λ (xs : List MailboxDef). record b { mailboxes = xs }) (append-nil b.mailboxes)) (λ b xs ys. ap (λ (zs : List MailboxDef). record b { mailboxes = zs }) (append_assoc b.mailboxes xs ys))

abbrev with_queues : PlainBoard → List QueueDef → PlainBoard
with_queues b xs = record b { queues = b.queues ++ xs }

queues_made : (xs : List QueueDef) → Make (map (λ (x : QueueDef). BoardLine.Queue x) xs) (λ b. with_queues b xs)
queues_made = class_made (λ (x : QueueDef). BoardLine.Queue x) with_queues (λ b x. refl) (λ b. ap (λ (xs : List QueueDef). record b { queues = xs }) (append-nil b.queues)) (λ b xs ys. ap (λ (zs : List QueueDef). record b { queues = zs }) (append_assoc b.queues xs ys))

abbrev with_pools : PlainBoard → List PoolDef → PlainBoard
with_pools b xs = record b { pools = b.pools ++ xs }

pools_made : (xs : List PoolDef) → Make (map (λ (x : PoolDef). BoardLine.Pool x) xs) (λ b. with_pools b xs)
pools_made = class_made (λ (x : PoolDef). BoardLine.Pool x) with_pools (λ b x. refl) (λ b. ap (λ (xs : List PoolDef). record b { pools = xs }) (append-nil b.pools)) (λ b xs ys. ap (λ (zs : List PoolDef). record b { pools = zs }) (append_assoc b.pools xs ys))

abbrev with_devices : PlainBoard → List DeviceDef → PlainBoard
with_devices b xs = record b { devices = b.devices ++ xs }

devices_made : (xs : List DeviceDef) → Make (map (λ (x : DeviceDef). BoardLine.Device x) xs) (λ b. with_devices b xs)
devices_made = class_made (λ (x : DeviceDef). BoardLine.Device x) with_devices (λ b x. refl) (λ b. ap (λ (xs : List DeviceDef). record b { devices = xs }) (append-nil b.devices)) (λ b xs ys. ap (λ (zs : List DeviceDef). record b { devices = zs }) (append_assoc b.devices xs ys))

abbrev with_timers : PlainBoard → List TimerDef → PlainBoard
with_timers b xs = record b { timers = b.timers ++ xs }

timers_made : (xs : List TimerDef) → Make (map (λ (x : TimerDef). BoardLine.Timer x) xs) (λ b. with_timers b xs)
timers_made = class_made (λ (x : TimerDef). BoardLine.Timer x) with_timers (λ b x. refl) (λ b. ap (λ (xs : List TimerDef). record b { timers = xs }) (append-nil b.timers)) (λ b xs ys. ap (λ (zs : List TimerDef). record b { timers = zs }) (append_assoc b.timers xs ys))

abbrev with_arrivals : PlainBoard → List Arrival → PlainBoard
with_arrivals b xs = record b { arrivals = b.arrivals ++ xs }

arrivals_made : (xs : List Arrival) → Make (map (λ (x : Arrival). BoardLine.Arrive x) xs) (λ b. with_arrivals b xs)
arrivals_made = class_made (λ (x : Arrival). BoardLine.Arrive x) with_arrivals (λ b x. refl) (λ b. ap (λ (xs : List Arrival). record b { arrivals = xs }) (append-nil b.arrivals)) (λ b xs ys. ap (λ (zs : List Arrival). record b { arrivals = zs }) (append_assoc b.arrivals xs ys))

abbrev with_threads : PlainBoard → List ThreadDef → PlainBoard
with_threads b ts = record b { threads = b.threads ++ ts }

abbrev same_but : PlainBoard → List ThreadDef → PlainBoard
same_but b ts = record b { threads = ts }

abbrev thread : ThreadLine → List Stmt → ThreadDef
thread l script = record { name = l.name; prio = l.prio; slice = l.slice; core = l.core; started = l.started; script = script }

script_back : (u : SoFar) (front : List ThreadDef) (l : ThreadLine) (first others : List Stmt) → u.board.threads ≡ front ++ thread l first ∷ [] → (after_all u (map (λ (x : Stmt). BoardLine.Statement x) others)).board ≡ same_but u.board (front ++ thread l (first ++ others) ∷ [])
script_back u front l first [] e = ap (same_but u.board) (e ∙ ap (λ (xs : List Stmt). front ++ thread l xs ∷ []) (sym (append-nil first)))
script_back u front l first (x ∷ xs) e =
    script_back (after u (BoardLine.Statement x)) front l (first ++ x ∷ []) xs (ap (λ (ts : List ThreadDef). scripted ts x) e ∙ scripted_last front (thread l first) x)
    ∙ ap (λ (ys : List Stmt). same_but u.board (front ++ thread l ys ∷ [])) (append_assoc first (x ∷ []) xs)

thread_made : (t : ThreadDef) → Make (thread_lines t) (λ b. with_threads b (t ∷ []))
thread_made t = record { made = λ s. script_back (after s (BoardLine.Thread (line_of_thread t))) s.board.threads (line_of_thread t) [] t.script refl }

threads_made : (ts : List ThreadDef) → Make (flat_map thread_lines ts) (λ b. with_threads b ts)
threads_made [] = record { made = λ s. ap (same_but s.board) (sym (append-nil s.board.threads)) }
threads_made (t ∷ ts) =
    let both = both_make (thread_made t) (threads_made ts) in
    record { made = λ s. ap (λ (ls : List BoardLine). (after_all s ls).board) (flat_map-cons thread_lines t ts) ∙ both.made s ∙ ap (same_but s.board) (append_assoc s.board.threads (t ∷ []) ts) }

abbrev with_objects : PlainBoard → PlainBoard → PlainBoard
with_objects b c = record c { sems = c.sems ++ b.sems; events = c.events ++ b.events; mutexes = c.mutexes ++ b.mutexes; mailboxes = c.mailboxes ++ b.mailboxes; queues = c.queues ++ b.queues; pools = c.pools ++ b.pools; devices = c.devices ++ b.devices; timers = c.timers ++ b.timers; threads = c.threads ++ b.threads; arrivals = c.arrivals ++ b.arrivals }

objects_made : (b : PlainBoard) → Make (object_lines b) (with_objects b)
objects_made b =
    both_make (sems_made b.sems)
    (both_make (events_made b.events)
    (both_make (mutexes_made b.mutexes)
    (both_make (mailboxes_made b.mailboxes)
    (both_make (queues_made b.queues)
    (both_make (pools_made b.pools)
    (both_make (devices_made b.devices)
    (both_make (timers_made b.timers)
    (both_make (threads_made b.threads) (arrivals_made b.arrivals)))))))))

-- the lines of a thread of its own, where there is one
abbrev or_else : Option ℕ → Option ℕ → Option ℕ
or_else None q = q
or_else (Some p) q = Some p

shell_made : (p : Option ℕ) → Make (shell_lines p) (λ b. record b { shell = or_else p b.shell })
shell_made None = record { made = λ s. refl }
shell_made (Some p) = record { made = λ s. refl }

soft_made : (p : Option ℕ) → Make (soft_lines p) (λ b. record b { soft = or_else p b.soft })
soft_made None = record { made = λ s. refl }
soft_made (Some p) = record { made = λ s. refl }

limits_made : (b : PlainBoard) → Make (limit_lines b) (λ c. record c { limits = b.limits })
limits_made b = record { made = λ s. refl }

or_none : (p : Option ℕ) → or_else p None ≡ p
or_none None = refl
or_none (Some p) = refl

-- what stands behind the settings
abbrev pub other_lines : PlainBoard → List BoardLine
other_lines b = shell_lines b.shell ++ (soft_lines b.soft ++ (limit_lines b ++ object_lines b))

pub board_back : (b : PlainBoard) → (after_all start (board_lines b)).board ≡ b
board_back b =
    let own = both_make (shell_made b.shell) (both_make (soft_made b.soft) (both_make (limits_made b) (objects_made b))) in
    ap (λ (s : SoFar). s.board) (after-append start (setting_lines b) (other_lines b))
    ∙ own.made (after_all start (setting_lines b))
    ∙ ap (λ (p : Option ℕ). record b { shell = p; soft = or_else b.soft None }) (or_none b.shell) ∙ ap (λ (p : Option ℕ). record b { soft = p }) (or_none b.soft)

one_rank : (s : SoFar) (l : BoardLine) → 1 ≤ (after s l).rank
unfolding row
one_rank s (BoardLine.Version n) = omega arith
one_rank s (BoardLine.Statement t) = omega arith
one_rank s _ = omega arith

ranks : (s : SoFar) (ls : List BoardLine) → 1 ≤ s.rank → 1 ≤ (after_all s ls).rank
ranks s [] h = h
ranks s (l ∷ ls) h = ranks (after s l) ls (one_rank s l)

rank_back : (b : PlainBoard) → 1 ≤ (after_all start (board_lines b)).rank
unfolding row
rank_back b =
    let settings = after_all start (setting_lines b) in
    subst (λ (s : SoFar). 1 ≤ s.rank) (sym (after-append start (setting_lines b) (other_lines b))) (ranks settings (other_lines b) (omega arith))

-- a board is valid where its lines may stand in their order
pub valid_where_all_stand : (b : PlainBoard) → AllStand start (board_lines b) → IsValid b
unfolding IsValid
valid_where_all_stand b h = subst (λ (c : PlainBoard). IsBoard (canonical_text b) c) (board_back b) (subst (λ (ls : List (List ℕ)). AreLines start ls (after_all start (board_lines b)).board) (sym (lines_read start (board_lines b) h)) (are_lines start (board_lines b) h (rank_back b)))
