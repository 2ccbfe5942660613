-- The board that was read is valid: its lines may stand in their canonical order.
use Rattle.std.proofs.Common.{◌≡◌, ℕ, ◌^◌, ◌<◌, ◌≤◌, Bool, true, false, not, ◌&&◌, ◌||◌, eqb, leb, ltb, Option, Some, None, List, [], ◌∷◌, ◌++◌, map, refl, sym, ap, ◌∙◌, subst, arith, append_assoc, inl, inr, ◌⊎◌}
use Rattle.std.specs.List.{flat_map}
use Rattle.std.proofs.lemmas.List.Concat.{flat_map-cons}
use Rattle.std.proofs.lemmas.List.{append-nil}
use Rattle.std.proofs.lemmas.Bool.{eqb-true, eqb-false, ltb-false, leb-false, ne_eqb, and_cases, not-false, lt-leb, le-ltb, and_right}
use Rattle.rt_plain.specs.declared.board.Schedule.{Schedule}
use Rattle.rt_plain.specs.declared.board.SemDef.{SemDef}
use Rattle.rt_plain.specs.declared.board.EventDef.{EventDef}
use Rattle.rt_plain.specs.declared.board.MutexDef.{MutexDef}
use Rattle.rt_plain.specs.declared.board.MailboxDef.{MailboxDef}
use Rattle.rt_plain.specs.declared.board.QueueDef.{QueueDef}
use Rattle.rt_plain.specs.declared.board.PoolDef.{PoolDef}
use Rattle.rt_plain.specs.declared.board.DeviceDef.{DeviceDef}
use Rattle.rt_plain.specs.declared.board.TimerDef.{TimerDef}
use Rattle.rt_plain.specs.declared.board.ThreadDef.{ThreadDef}
use Rattle.rt_plain.specs.declared.board.Arrival.{Arrival}
use Rattle.rt_plain.specs.declared.board_line.BoardLine.{BoardLine}
use Rattle.rt_plain.specs.declared.board_line.LimitClass.{LimitClass}
use Rattle.rt_plain.specs.declared.kind.LineKind.{LineKind}
use Rattle.rt_plain.specs.declared.kind.Kind.{Kind}
use Rattle.rt_plain.specs.declared.stmt.Stmt.{Stmt}
use Rattle.rt_plain.specs.PlainBoard.{PlainBoard}
use Rattle.rt_plain.specs.text.Splits.{lines_of}
use Rattle.rt_plain.specs.text.Tails.{limit_top, FitsSchedule}
use Rattle.rt_plain.specs.text.LineTable.{line_row, row, kind_of, FitsLine}
use Rattle.rt_plain.specs.text.BoardText.{SoFar, start, default_board, scripted, unscripted, added, limited_after, after, is_out_of_order, is_passed_limit, is_twice, is_full, is_schedule_beyond, is_astray, is_head, Stands, AreLines, IsBoard}
use Rattle.rt_plain.specs.text.Canon.{line_of_thread, thread_lines, shell_lines, soft_lines, setting_lines, limit_lines, object_lines, board_lines, canonical_text, IsValid}
use Rattle.rt_plain.proofs.text.CanonLemmas.{AllStand, after_all, after-append, other_lines, valid_where_all_stand}
use Rattle.rt_plain.proofs.text.BoardLemmas.{scripted_last}

-- ---- lists that grew item by item

-- each item may be put behind those before it
abbrev pub Grows : {A : Type 0} → (List A → A → Type 0) → List A → List A → Type 0
Grows P front [] = Unit {0}
Grows P front (x ∷ xs) = P front x × Grows P (front ++ x ∷ []) xs

push : {A : Type 0} (P : List A → A → Type 0) (front xs : List A) (x : A) → Grows P front xs → P (front ++ xs) x → Grows P front (xs ++ x ∷ [])
push P front [] x h p = (subst (λ zs. P zs x) (append-nil front) p, tt)
push P front (y ∷ ys) x h p = (h.0, push P (front ++ y ∷ []) ys x h.1 (subst (λ zs. P zs x) (sym (append_assoc front (y ∷ []) ys)) p))

-- what a line needs of the board so far, wherever it stands
abbrev pub Suits : PlainBoard → BoardLine → Type 0
Suits b l = FitsLine b.levels l × (is_twice b l ≡ false) × (is_full b l ≡ false) × (is_astray b l ≡ false)

suits : (s : SoFar) (l : BoardLine) → Stands s l → Suits s.board l
suits s l h = (h.fits, h.once, h.room, h.known)

-- one more of a kind may come behind those that came before it
abbrev pub SemComes : PlainBoard → List SemDef → SemDef → Type 0
SemComes b front x = Suits (record b { sems = front }) (BoardLine.Sem x)

abbrev pub EventComes : PlainBoard → List EventDef → EventDef → Type 0
EventComes b front x = Suits (record b { events = front }) (BoardLine.Event x)

abbrev pub MutexComes : PlainBoard → List MutexDef → MutexDef → Type 0
MutexComes b front x = Suits (record b { mutexes = front }) (BoardLine.Mutex x)

abbrev pub MailboxComes : PlainBoard → List MailboxDef → MailboxDef → Type 0
MailboxComes b front x = Suits (record b { mailboxes = front }) (BoardLine.Mailbox x)

abbrev pub QueueComes : PlainBoard → List QueueDef → QueueDef → Type 0
QueueComes b front x = Suits (record b { queues = front }) (BoardLine.Queue x)

abbrev pub PoolComes : PlainBoard → List PoolDef → PoolDef → Type 0
PoolComes b front x = Suits (record b { pools = front }) (BoardLine.Pool x)

abbrev pub DeviceComes : PlainBoard → List DeviceDef → DeviceDef → Type 0
DeviceComes b front x = Suits (record b { devices = front }) (BoardLine.Device x)

abbrev pub TimerComes : PlainBoard → List TimerDef → TimerDef → Type 0
TimerComes b front x = Suits (record b { timers = front }) (BoardLine.Timer x)

abbrev pub ArriveComes : PlainBoard → List Arrival → Arrival → Type 0
ArriveComes b front x = Suits (record b { arrivals = front }) (BoardLine.Arrive x)

-- a statement at the end of a thread's script, and a thread with its statements one by one
abbrev pub StatementComes : PlainBoard → List ThreadDef → ThreadDef → List Stmt → Stmt → Type 0
StatementComes b front t done x = Suits (record b { threads = front ++ record t { script = done } ∷ [] }) (BoardLine.Statement x)

abbrev pub ThreadComes : PlainBoard → List ThreadDef → ThreadDef → Type 0
ThreadComes b front t = Suits (record b { threads = front }) (BoardLine.Thread (line_of_thread t)) × Grows (StatementComes b front t) [] t.script

-- what a board has of each kind of objects, threads and arrivals came item by item
abbrev pub ObjectGrows : PlainBoard → LineKind → Type 0
ObjectGrows b LineKind.Sem = Grows (SemComes b) [] b.sems
ObjectGrows b LineKind.Event = Grows (EventComes b) [] b.events
ObjectGrows b LineKind.Mutex = Grows (MutexComes b) [] b.mutexes
ObjectGrows b LineKind.Mailbox = Grows (MailboxComes b) [] b.mailboxes
ObjectGrows b LineKind.Queue = Grows (QueueComes b) [] b.queues
ObjectGrows b LineKind.Pool = Grows (PoolComes b) [] b.pools
ObjectGrows b LineKind.Device = Grows (DeviceComes b) [] b.devices
ObjectGrows b LineKind.Timer = Grows (TimerComes b) [] b.timers
ObjectGrows b LineKind.Thread = Grows (ThreadComes b) [] b.threads
ObjectGrows b LineKind.Arrive = Grows (ArriveComes b) [] b.arrivals
ObjectGrows b _ = Unit {0}

abbrev pub ObjectsGrow : PlainBoard → Type 0
ObjectsGrow b = (k : LineKind) → ObjectGrows b k

-- one statement more at the end of the last script
push_statement : (b : PlainBoard) (front ts : List ThreadDef) (x : Stmt) → Grows (ThreadComes b) front ts → Suits (record b { threads = front ++ ts }) (BoardLine.Statement x) → Grows (ThreadComes b) front (scripted ts x)
push_statement b front [] x h p = tt
push_statement b front (t ∷ []) x h p = ((h.0.0, push (StatementComes b front t) [] t.script x h.0.1 p), tt)
push_statement b front (t ∷ u ∷ ts) x h p = (h.0, push_statement b (front ++ t ∷ []) (u ∷ ts) x h.1 (subst (λ zs. Suits (record b { threads = zs }) (BoardLine.Statement x)) (sym (append_assoc front (t ∷ []) (u ∷ ts))) p))

-- ---- what holds of each board that was read

-- a thread of its own has a priority in its range, where it is there
abbrev pub OwnFits : ℕ → Option ℕ → Type 0
OwnFits levels None = Unit {0}
OwnFits levels (Some p) = FitsLine levels (BoardLine.Shell p)

-- the settings are in their ranges, each by the kind of its line
abbrev pub SettingFits : PlainBoard → LineKind → Type 0
SettingFits b LineKind.Cores = FitsLine 0 (BoardLine.Cores b.cores)
SettingFits b LineKind.Levels = FitsLine 0 (BoardLine.Levels b.levels)
SettingFits b LineKind.Tickless = FitsLine 0 (BoardLine.Tickless b.tickless)
SettingFits b LineKind.Tick0 = FitsLine 0 (BoardLine.Tick0 b.tick0)
SettingFits b LineKind.Until = FitsLine 0 (BoardLine.Until b.until)
SettingFits b LineKind.Entries = FitsLine 0 (BoardLine.Entries b.entries)
SettingFits b LineKind.LpMax = FitsLine 0 (BoardLine.LpMax b.lpmax)
SettingFits b LineKind.Thresh = FitsLine 0 (BoardLine.Thresh b.thresh)
SettingFits b LineKind.LpClock = FitsLine 0 (BoardLine.LpClock b.lp_h b.lp_q)
SettingFits b LineKind.DefaultMode = FitsLine 0 (BoardLine.DefaultMode b.default_mode)
SettingFits b LineKind.Schedule = FitsSchedule b.schedule × (is_schedule_beyond b.cores b.schedule ≡ false)
SettingFits b LineKind.Shell = OwnFits b.levels b.shell
SettingFits b LineKind.Soft = OwnFits b.levels b.soft
SettingFits b LineKind.Limit = (b.limits.sem ≤ limit_top LimitClass.Sem) × (b.limits.event ≤ limit_top LimitClass.Event) × (b.limits.mutex ≤ limit_top LimitClass.Mutex)
SettingFits b _ = Unit {0}

abbrev pub SettingsFit : PlainBoard → Type 0
SettingsFit b = (k : LineKind) → SettingFits b k

-- the settings alone
abbrev settings_of : PlainBoard → PlainBoard
settings_of b = record b { sems = []; events = []; mutexes = []; mailboxes = []; queues = []; pools = []; devices = []; timers = []; threads = []; arrivals = [] }

nothing : {A : Type 0} (P : List A → A → Type 0) (xs : List A) → xs ≡ [] → Grows P [] xs
nothing P xs e = subst (Grows P []) (sym e) tt

none_grow : (b : PlainBoard) → settings_of b ≡ b → ObjectsGrow b
none_grow b e = subst ObjectsGrow e none where
  none : ObjectsGrow (settings_of b)
  none LineKind.Sem = tt
  none _ = tt

-- the rank of a kind of lines
abbrev rank_of : LineKind → ℕ
rank_of k = (line_row 0 k).rank

-- the lines up to this rank come once
abbrev last_once : ℕ
last_once = rank_of LineKind.Soft

-- what of higher ranks isn't there yet
record IsBare (s : SoFar) : Type 0 where
  objects : s.rank < rank_of LineKind.Sem → settings_of s.board ≡ s.board
  arrivals : s.rank < rank_of LineKind.Arrive → s.board.arrivals ≡ []
  soft : s.rank < rank_of LineKind.Soft → s.board.soft ≡ None
  shell : s.rank < rank_of LineKind.Shell → s.board.shell ≡ None
  schedule : s.rank < rank_of LineKind.Schedule → s.board.schedule ≡ Schedule.Round

record IsFine (s : SoFar) : Type 0 where
  settings : SettingsFit s.board
  objects : ObjectsGrow s.board
  bare : IsBare s

small_range : (n low high : ℕ) → low ≤ n → n ≤ high → n < 4294967296 → (low ≤ n) × (n ≤ high) × (n < 2 ^ 32)
small_range n low high a b c = (a, b, c)

settings-start : SettingsFit default_board
settings-start LineKind.Cores = (small_range 1 1 8 (omega arith) (omega arith) (omega arith), tt)
settings-start LineKind.Levels = (refl, tt)
settings-start LineKind.Tickless = (tt, tt)
settings-start LineKind.Tick0 = (small_range 0 0 4294967295 (omega arith) (omega arith) (omega arith), tt)
settings-start LineKind.Until = ((omega arith, omega arith), tt)
settings-start LineKind.Entries = (small_range 1000000 1 1000000 (omega arith) (omega arith) (omega arith), tt)
settings-start LineKind.LpMax = (small_range 2147483647 1 2147483647 (omega arith) (omega arith) (omega arith), tt)
settings-start LineKind.Thresh = (small_range 2 1 2147483647 (omega arith) (omega arith) (omega arith), tt)
settings-start LineKind.LpClock = (small_range 1 1 1000000 (omega arith) (omega arith) (omega arith), (small_range 1 1 1000 (omega arith) (omega arith) (omega arith), tt))
settings-start LineKind.DefaultMode = (tt, tt)
settings-start LineKind.Schedule = (tt, refl)
settings-start LineKind.Limit = (omega arith, omega arith, omega arith)
settings-start _ = tt

fine-start : IsFine start
fine-start = record {
  settings = settings-start;
  objects = none_grow default_board refl;
  bare = record { objects = λ lt. refl; arrivals = λ lt. refl; soft = λ lt. refl; shell = λ lt. refl; schedule = λ lt. refl };
}

-- ---- one line more

neither : (a b : Bool) → (a || b) ≡ false → (a ≡ false) × (b ≡ false)
neither true b e = absurd cc
neither false b e = (refl, e)

in_order : (k r : ℕ) → (ltb k r || (leb k last_once && eqb k r)) ≡ false → r ≤ k
in_order k r e = ltb-false k r (neither (ltb k r) (leb k last_once && eqb k r) e).0

at_thread : (r : ℕ) → not (eqb r (rank_of LineKind.Thread)) ≡ false → r ≡ rank_of LineKind.Thread
at_thread r e = eqb-true r (rank_of LineKind.Thread) (not-false _ e)

-- ranks never fall
rank_grows : (s : SoFar) (l : BoardLine) → Stands s l → s.rank ≤ (after s l).rank
unfolding row
rank_grows s (BoardLine.Version n) h = in_order 1 s.rank h.order
rank_grows s (BoardLine.Statement x) h = let e = at_thread s.rank h.order in omega arith
rank_grows s l h = in_order (row (kind_of l)).rank s.rank h.order

-- a setting that comes once
once_more : (k r : ℕ) → k ≤ last_once → (ltb k r || (leb k last_once && eqb k r)) ≡ false → r < k
once_more k r small e =
    let p = neither (ltb k r) (leb k last_once && eqb k r) e in
    let le = ltb-false k r p.0 in
    elim (and_cases (leb k last_once) (eqb k r) p.1) [
      | inl f ↦ absurd (let n = leb-false k last_once f in omega arith)
      | inr f ↦ (let n = eqb-false k r f in omega arith)
    ]

arrivals-after : (s : SoFar) (l : BoardLine) → (s.rank < rank_of LineKind.Arrive → s.board.arrivals ≡ []) → s.rank ≤ (after s l).rank → (after s l).rank < rank_of LineKind.Arrive → (after s l).board.arrivals ≡ []
unfolding row
arrivals-after s (BoardLine.Arrive a) h le lt = absurd (omega arith)
arrivals-after s l h le lt = h (omega arith)

soft-after : (s : SoFar) (l : BoardLine) → (s.rank < rank_of LineKind.Soft → s.board.soft ≡ None) → s.rank ≤ (after s l).rank → (after s l).rank < rank_of LineKind.Soft → (after s l).board.soft ≡ None
unfolding row
soft-after s (BoardLine.Soft p) h le lt = absurd (omega arith)
soft-after s l h le lt = h (omega arith)

shell-after : (s : SoFar) (l : BoardLine) → (s.rank < rank_of LineKind.Shell → s.board.shell ≡ None) → s.rank ≤ (after s l).rank → (after s l).rank < rank_of LineKind.Shell → (after s l).board.shell ≡ None
unfolding row
shell-after s (BoardLine.Shell p) h le lt = absurd (omega arith)
shell-after s l h le lt = h (omega arith)

schedule-after : (s : SoFar) (l : BoardLine) → (s.rank < rank_of LineKind.Schedule → s.board.schedule ≡ Schedule.Round) → s.rank ≤ (after s l).rank → (after s l).rank < rank_of LineKind.Schedule → (after s l).board.schedule ≡ Schedule.Round
unfolding row
schedule-after s (BoardLine.Schedule x) h le lt = absurd (omega arith)
schedule-after s l h le lt = h (omega arith)

-- no line of a setting adds an object
bare_objects-after : (s : SoFar) (l : BoardLine) → (s.rank < rank_of LineKind.Sem → settings_of s.board ≡ s.board) → s.rank ≤ (after s l).rank → (after s l).rank < rank_of LineKind.Sem → settings_of (after s l).board ≡ (after s l).board
unfolding row
bare_objects-after s (BoardLine.Sem x) h le lt = absurd (omega arith)
bare_objects-after s (BoardLine.Event x) h le lt = absurd (omega arith)
bare_objects-after s (BoardLine.Mutex x) h le lt = absurd (omega arith)
bare_objects-after s (BoardLine.Mailbox x) h le lt = absurd (omega arith)
bare_objects-after s (BoardLine.Queue x) h le lt = absurd (omega arith)
bare_objects-after s (BoardLine.Pool x) h le lt = absurd (omega arith)
bare_objects-after s (BoardLine.Device x) h le lt = absurd (omega arith)
bare_objects-after s (BoardLine.Timer x) h le lt = absurd (omega arith)
bare_objects-after s (BoardLine.Thread x) h le lt = absurd (omega arith)
bare_objects-after s (BoardLine.Arrive x) h le lt = absurd (omega arith)
bare_objects-after s (BoardLine.Statement x) h le lt = absurd (omega arith)
bare_objects-after s l h le lt = ap (λ (b : PlainBoard). added b l) (h (omega arith))

bare-after : (s : SoFar) (l : BoardLine) → IsBare s → Stands s l → IsBare (after s l)
bare-after s l h st =
    let le = rank_grows s l st in
    record {
      objects = bare_objects-after s l h.objects le;
      arrivals = arrivals-after s l h.arrivals le;
      soft = soft-after s l h.soft le;
      shell = shell-after s l h.shell le;
      schedule = schedule-after s l h.schedule le;
    }

own_none : (levels : ℕ) (p : Option ℕ) → p ≡ None → OwnFits levels p
own_none levels p e = subst (OwnFits levels) (sym e) tt

round_known : (cores : ℕ) (x : Schedule) → x ≡ Schedule.Round → is_schedule_beyond cores x ≡ false
round_known cores x e = ap (is_schedule_beyond cores) e

settings-after : (s : SoFar) (l : BoardLine) → SettingsFit s.board → IsBare s → Stands s l → SettingsFit (added s.board l)
unfolding row
settings-after s (BoardLine.Cores n) h b st LineKind.Cores = st.fits
settings-after s (BoardLine.Cores n) h b st LineKind.Schedule = ((h LineKind.Schedule).0, (let lt = once_more (rank_of LineKind.Cores) s.rank (omega arith) st.order in round_known n s.board.schedule (b.schedule (omega arith))))
settings-after s (BoardLine.Levels n) h b st LineKind.Levels = st.fits
settings-after s (BoardLine.Levels n) h b st LineKind.Shell = (let lt = once_more (rank_of LineKind.Levels) s.rank (omega arith) st.order in own_none n s.board.shell (b.shell (omega arith)))
settings-after s (BoardLine.Levels n) h b st LineKind.Soft = (let lt = once_more (rank_of LineKind.Levels) s.rank (omega arith) st.order in own_none n s.board.soft (b.soft (omega arith)))
settings-after s (BoardLine.Tick0 n) h b st LineKind.Tick0 = st.fits
settings-after s (BoardLine.Until n) h b st LineKind.Until = st.fits
settings-after s (BoardLine.Entries n) h b st LineKind.Entries = st.fits
settings-after s (BoardLine.LpMax n) h b st LineKind.LpMax = st.fits
settings-after s (BoardLine.Thresh n) h b st LineKind.Thresh = st.fits
settings-after s (BoardLine.LpClock n m) h b st LineKind.LpClock = st.fits
settings-after s (BoardLine.Schedule n) h b st LineKind.Schedule = (st.fits, st.known)
settings-after s (BoardLine.Shell p) h b st LineKind.Shell = st.fits
settings-after s (BoardLine.Soft p) h b st LineKind.Soft = st.fits
settings-after s (BoardLine.Limit LimitClass.Sem n) h b st LineKind.Limit = (st.fits, (h LineKind.Limit).1, (h LineKind.Limit).2)
settings-after s (BoardLine.Limit LimitClass.Event n) h b st LineKind.Limit = ((h LineKind.Limit).0, st.fits, (h LineKind.Limit).2)
settings-after s (BoardLine.Limit LimitClass.Mutex n) h b st LineKind.Limit = ((h LineKind.Limit).0, (h LineKind.Limit).1, st.fits)
settings-after s l h b st k = h k

objects-after : (s : SoFar) (l : BoardLine) → ObjectsGrow s.board → IsBare s → Stands s l → ObjectsGrow (added s.board l)
unfolding row
objects-after s (BoardLine.Sem x) h b st LineKind.Sem = push (SemComes s.board) [] s.board.sems x (h LineKind.Sem) (suits s (BoardLine.Sem x) st)
objects-after s (BoardLine.Sem x) h b st k = h k
objects-after s (BoardLine.Event x) h b st LineKind.Event = push (EventComes s.board) [] s.board.events x (h LineKind.Event) (suits s (BoardLine.Event x) st)
objects-after s (BoardLine.Event x) h b st k = h k
objects-after s (BoardLine.Mutex x) h b st LineKind.Mutex = push (MutexComes s.board) [] s.board.mutexes x (h LineKind.Mutex) (suits s (BoardLine.Mutex x) st)
objects-after s (BoardLine.Mutex x) h b st k = h k
objects-after s (BoardLine.Mailbox x) h b st LineKind.Mailbox = push (MailboxComes s.board) [] s.board.mailboxes x (h LineKind.Mailbox) (suits s (BoardLine.Mailbox x) st)
objects-after s (BoardLine.Mailbox x) h b st k = h k
objects-after s (BoardLine.Queue x) h b st LineKind.Queue = push (QueueComes s.board) [] s.board.queues x (h LineKind.Queue) (suits s (BoardLine.Queue x) st)
objects-after s (BoardLine.Queue x) h b st k = h k
objects-after s (BoardLine.Pool x) h b st LineKind.Pool = push (PoolComes s.board) [] s.board.pools x (h LineKind.Pool) (suits s (BoardLine.Pool x) st)
objects-after s (BoardLine.Pool x) h b st k = h k
objects-after s (BoardLine.Device x) h b st LineKind.Device = push (DeviceComes s.board) [] s.board.devices x (h LineKind.Device) (suits s (BoardLine.Device x) st)
objects-after s (BoardLine.Device x) h b st LineKind.Arrive = let le = rank_grows s (BoardLine.Device x) st in nothing (ArriveComes (added s.board (BoardLine.Device x))) s.board.arrivals (b.arrivals (omega arith))
objects-after s (BoardLine.Device x) h b st k = h k
objects-after s (BoardLine.Timer x) h b st LineKind.Timer = push (TimerComes s.board) [] s.board.timers x (h LineKind.Timer) (suits s (BoardLine.Timer x) st)
objects-after s (BoardLine.Timer x) h b st k = h k
objects-after s (BoardLine.Thread x) h b st LineKind.Thread = push (ThreadComes s.board) [] s.board.threads (unscripted x) (h LineKind.Thread) (suits s (BoardLine.Thread x) st, tt)
objects-after s (BoardLine.Thread x) h b st k = h k
objects-after s (BoardLine.Statement x) h b st LineKind.Thread = push_statement s.board [] s.board.threads x (h LineKind.Thread) (suits s (BoardLine.Statement x) st)
objects-after s (BoardLine.Statement x) h b st k = h k
objects-after s (BoardLine.Arrive x) h b st LineKind.Arrive = push (ArriveComes s.board) [] s.board.arrivals x (h LineKind.Arrive) (suits s (BoardLine.Arrive x) st)
objects-after s (BoardLine.Arrive x) h b st k = h k
objects-after s l h b st k = let le = rank_grows s l st in none_grow (added s.board l) (ap (λ (c : PlainBoard). added c l) (b.objects (omega arith))) k

fine-after : (s : SoFar) (l : BoardLine) → IsFine s → Stands s l → IsFine (after s l)
fine-after s l h st = record { settings = settings-after s l h.settings h.bare st; objects = objects-after s l h.objects h.bare st; bare = bare-after s l h.bare st }

fine_lines : (s : SoFar) (lines : List (List ℕ)) (b : PlainBoard) → IsFine s → AreLines s lines b → SettingsFit b × ObjectsGrow b
fine_lines s [] b h e = subst (λ c. SettingsFit c × ObjectsGrow c) e.1 (h.settings, h.objects)
fine_lines s (l ∷ ls) b h (inl x) = fine_lines s ls b h x.1
fine_lines s (l ∷ ls) b h (inr x) = fine_lines (after s x.0) ls b (fine-after s x.0 h x.2.stands) x.3

-- ---- the lines of such a board may stand in their canonical order

stand : (s : SoFar) (l : BoardLine) → Suits s.board l → (eqb s.rank 0 && not (is_head l)) ≡ false → is_out_of_order s (row (kind_of l)) ≡ false → is_passed_limit s.limited l ≡ false → Stands s l
stand s l h head order limit = record { fits = h.0; head = head; order = order; limit = limit; once = h.1; room = h.2; known = h.3 }

settings_stand : (b : PlainBoard) → SettingsFit b → AllStand start (setting_lines b)
unfolding row
settings_stand b h = (
  stand _ _ ((small_range 1 1 1 (omega arith) (omega arith) (omega arith), tt), refl, refl, refl) refl refl refl,
  (
    stand _ _ (h LineKind.Cores, refl, refl, refl) refl refl refl,
    (
      stand _ _ (h LineKind.Levels, refl, refl, refl) refl refl refl,
      (
        stand _ _ (h LineKind.Tickless, refl, refl, refl) refl refl refl,
        (
          stand _ _ (h LineKind.Tick0, refl, refl, refl) refl refl refl,
          (
            stand _ _ (h LineKind.Until, refl, refl, refl) refl refl refl,
            (
              stand _ _ (h LineKind.Entries, refl, refl, refl) refl refl refl,
              (
                stand _ _ (h LineKind.LpMax, refl, refl, refl) refl refl refl,
                (
                  stand _ _ (h LineKind.Thresh, refl, refl, refl) refl refl refl,
                  (
                    stand _ _ (h LineKind.LpClock, refl, refl, refl) refl refl refl,
                    (
                      stand _ _ (h LineKind.DefaultMode, refl, refl, refl) refl refl refl,
                      (
                        stand _ _ ((h LineKind.Schedule).0, refl, refl, (h LineKind.Schedule).1) refl refl refl,
                        tt,
                      ),
                    ),
                  ),
                ),
              ),
            ),
          ),
        ),
      ),
    ),
  ),
)

all-append : (s : SoFar) (ls ms : List BoardLine) → AllStand s ls → AllStand (after_all s ls) ms → AllStand s (ls ++ ms)
all-append s [] ms h k = k
all-append s (l ∷ ls) ms h k = (h.0, all-append (after s l) ls ms h.1 k)

-- ---- what stands behind the settings, piece by piece

-- a reader behind the settings: the board so far, a rank that it hasn't passed, and no limit before the limits' lines
record At (s : SoFar) (b : PlainBoard) (rank : ℕ) : Type 0 where
  board : s.board ≡ b
  begun : 1 ≤ s.rank
  within : s.rank ≤ rank
  unlimited : s.rank < rank_of LineKind.Limit → s.limited ≡ 0

-- lines that lead from one board and rank to another
record Leads (low high : ℕ) (ls : List BoardLine) (a b : PlainBoard) : Type 0 where
  stand : (s : SoFar) → At s a low → AllStand s ls
  there : (s : SoFar) → At s a low → At (after_all s ls) b high

at_most : {s : SoFar} {b : PlainBoard} {low : ℕ} (high : ℕ) → low ≤ high → At s b low → At s b high
at_most high le at = record { board = at.board; begun = at.begun; within = omega (arith, at.within); unlimited = at.unlimited }

-- two pieces, one after the other
both_lead : {low mid next high : ℕ} {ls ms : List BoardLine} {a b c : PlainBoard} → Leads low mid ls a b → mid ≤ next → Leads next high ms b c → Leads low high (ls ++ ms) a c
both_lead {low} {mid} {next} {high} {ls} {ms} {a} {b} {c} h le k = record {
  stand = λ s at. all-append s ls ms (h.stand s at) (k.stand (after_all s ls) (at_most next le (h.there s at)));
  there = λ s at. subst (λ (t : SoFar). At t c high) (sym (after-append s ls ms)) (k.there (after_all s ls) (at_most next le (h.there s at)));
}

no_lines : (low high : ℕ) (a b : PlainBoard) → low ≤ high → a ≡ b → Leads low high [] a b
no_lines low high a b le e = record { stand = λ s at. tt; there = λ s at. record { board = at.board ∙ e; begun = at.begun; within = omega (arith, le, at.within); unlimited = at.unlimited } }

abbrev is_limit : BoardLine → Bool
is_limit (BoardLine.Limit class n) = true
is_limit _ = false

no_limit : (place : ℕ) (l : BoardLine) → is_limit l ≡ false → (is_passed_limit place l ≡ false) × (limited_after place l ≡ place)
no_limit place (BoardLine.Limit class n) e = absurd cc
no_limit place l e = (refl, refl)

-- the order of a line of a higher rank, or of one that may come again
later : (k r : ℕ) → r ≤ k → (r < k) ⊎ (last_once < k) → (ltb k r || (leb k last_once && eqb k r)) ≡ false
later k r le (inl lt) = rw (le-ltb k r le) (and_right (leb k last_once) (eqb k r) (ne_eqb k r (λ e. absurd (omega arith))))
later k r le (inr big) = rw (le-ltb k r le, lt-leb k last_once big) refl

is_begun : (r : ℕ) (head : Bool) → 1 ≤ r → (eqb r 0 && head) ≡ false
is_begun r head le = rw (ne_eqb r 0 (λ e. absurd (omega arith))) refl

-- what a line of a kind is, where it is no limit
abbrev IsOf : LineKind → BoardLine → Type 0
IsOf k l = (kind_of l ≡ Kind.Line k) × (is_limit l ≡ false)

line_in_order : (s : SoFar) (k : LineKind) → s.rank ≤ rank_of k → (s.rank < rank_of k) ⊎ (last_once < rank_of k) → is_out_of_order s (row (Kind.Line k)) ≡ false
unfolding row
line_in_order s k le once = later (rank_of k) s.rank le once

line_rank : (s : SoFar) (k : LineKind) (l : BoardLine) → kind_of l ≡ Kind.Line k → (after s l).rank ≡ rank_of k
unfolding row
line_rank s k l e = ap (λ (j : Kind). (row j).rank) e

one_line : (low : ℕ) (k : LineKind) (l : BoardLine) (b : PlainBoard) → IsOf k l → low ≤ rank_of k → (low < rank_of k) ⊎ (last_once < rank_of k) → 1 ≤ rank_of k → Suits b l → Leads low (rank_of k) (l ∷ []) b (added b l)
one_line low k l b is le once some h = record {
  stand = λ s at. (stand s l (subst (λ c. Suits c l) (sym at.board) h) (is_begun s.rank _ at.begun) (ap (is_out_of_order s) (ap row is.0) ∙ line_in_order s k (omega (arith, at.within)) (below s.rank at.within once)) (no_limit s.limited l is.1).0, tt);
  there = λ s at. record {
    board = ap (λ (c : PlainBoard). added c l) at.board;
    begun = rw (line_rank s k l is.0) some;
    within = rw (line_rank s k l is.0) (omega arith);
    unlimited = λ lt. (no_limit s.limited l is.1).1 ∙ at.unlimited (let e = line_rank s k l is.0 in omega (arith, at.within));
  };
} where
  below : (r : ℕ) → r ≤ low → (low < rank_of k) ⊎ (last_once < rank_of k) → (r < rank_of k) ⊎ (last_once < rank_of k)
  below r within (inl lt) = inl (omega arith)
  below r within (inr big) = inr big

-- ---- the lines of classes, threads and settings that may be missing

-- the lines of one class
class_leads : {A : Type 0} (k : LineKind) (say : A → BoardLine) (put : List A → PlainBoard) → last_once < rank_of k → ((x : A) → IsOf k (say x)) → ((front : List A) (x : A) → added (put front) (say x) ≡ put (front ++ x ∷ [])) → (front xs : List A) → Grows (λ done x. Suits (put done) (say x)) front xs → Leads (rank_of k) (rank_of k) (map say xs) (put front) (put (front ++ xs))
class_leads {A} k say put big is one front [] h = no_lines (rank_of k) (rank_of k) (put front) _ (omega arith) (ap put (sym (append-nil front)))
class_leads {A} k say put big is one front (x ∷ xs) h =
    let r = rank_of k in
    let first = one_line r k (say x) (put front) (is x) (omega arith) (inr big) (omega arith) h.0 in
    let others = class_leads k say put big is one (front ++ x ∷ []) xs h.1 in
    subst (λ (zs : List A). Leads r r (map say (x ∷ xs)) (put front) (put zs)) (append_assoc front (x ∷ []) xs)
    (both_lead (subst (Leads r r (say x ∷ []) (put front)) (one front x) first) (omega arith) others)

-- behind a thread or a statement of it
script_stands : (b : PlainBoard) (front : List ThreadDef) (t : ThreadDef) (s : SoFar) (done xs : List Stmt) → s.board ≡ record b { threads = front ++ record t { script = done } ∷ [] } → s.rank ≡ rank_of LineKind.Thread → Grows (StatementComes b front t) done xs → AllStand s (map (λ x. BoardLine.Statement x) xs) × At (after_all s (map (λ x. BoardLine.Statement x) xs)) (record b { threads = front ++ record t { script = done ++ xs } ∷ [] }) (rank_of LineKind.Thread)
unfolding row
script_stands b front t s done [] e r h = (tt, record { board = e ∙ ap (λ (ys : List Stmt). record b { threads = front ++ record t { script = ys } ∷ [] }) (sym (append-nil done)); begun = omega arith; within = omega arith; unlimited = λ lt. absurd (omega arith) })
script_stands b front t s done (x ∷ xs) e r h =
    let u = after s (BoardLine.Statement x) in
    let order : is_out_of_order s (row (kind_of (BoardLine.Statement x))) ≡ false = ap (λ (k : ℕ). not (eqb k (rank_of LineKind.Thread))) r in
    let board : u.board ≡ record b { threads = front ++ record t { script = done ++ x ∷ [] } ∷ [] } = ap (λ (c : PlainBoard). added c (BoardLine.Statement x)) e ∙ ap (λ (ts : List ThreadDef). record b { threads = ts }) (scripted_last front (record t { script = done }) x) in
    let others = script_stands b front t u (done ++ x ∷ []) xs board refl h.1 in (
      (stand s (BoardLine.Statement x) (subst (λ c. Suits c (BoardLine.Statement x)) (sym e) h.0) (ap (λ (k : ℕ). eqb k 0 && true) r) order refl, others.0),
      subst (λ (ys : List Stmt). At (after_all u (map (λ x. BoardLine.Statement x) xs)) (record b { threads = front ++ record t { script = ys } ∷ [] }) (rank_of LineKind.Thread)) (append_assoc done (x ∷ []) xs) others.1,
    )

thread_leads : (b : PlainBoard) (front : List ThreadDef) (t : ThreadDef) → ThreadComes b front t → Leads (rank_of LineKind.Thread) (rank_of LineKind.Thread) (thread_lines t) (record b { threads = front }) (record b { threads = front ++ t ∷ [] })
unfolding row
thread_leads b front t h = record { stand = λ s at. ((first.stand s at).0, (script s at).0); there = λ s at. (script s at).1 } where
  line : BoardLine
  line = BoardLine.Thread (line_of_thread t)

  first : Leads (rank_of LineKind.Thread) (rank_of LineKind.Thread) (line ∷ []) (record b { threads = front }) (record b { threads = front ++ record t { script = [] } ∷ [] })
  first = one_line (rank_of LineKind.Thread) LineKind.Thread line (record b { threads = front }) (refl, refl) (omega arith) (inr (omega arith)) (omega arith) h.0

  script : (s : SoFar) → At s (record b { threads = front }) (rank_of LineKind.Thread) → AllStand (after s line) (map (λ x. BoardLine.Statement x) t.script) × At (after_all s (thread_lines t)) (record b { threads = front ++ t ∷ [] }) (rank_of LineKind.Thread)
  script s at = script_stands b front t (after s line) [] t.script (first.there s at).board refl h.1

threads_lead : (b : PlainBoard) (front ts : List ThreadDef) → Grows (ThreadComes b) front ts → Leads (rank_of LineKind.Thread) (rank_of LineKind.Thread) (flat_map thread_lines ts) (record b { threads = front }) (record b { threads = front ++ ts })
threads_lead b front [] h = no_lines (rank_of LineKind.Thread) (rank_of LineKind.Thread) (record b { threads = front }) _ (omega arith) (ap (λ (ts : List ThreadDef). record b { threads = ts }) (sym (append-nil front)))
threads_lead b front (t ∷ ts) h =
    let both = both_lead (thread_leads b front t h.0) (omega arith) (threads_lead b (front ++ t ∷ []) ts h.1) in
    subst (λ (ls : List BoardLine). Leads (rank_of LineKind.Thread) (rank_of LineKind.Thread) ls (record b { threads = front }) (record b { threads = front ++ t ∷ ts })) (sym (flat_map-cons thread_lines t ts))
    (subst (λ (zs : List ThreadDef). Leads (rank_of LineKind.Thread) (rank_of LineKind.Thread) (thread_lines t ++ flat_map thread_lines ts) (record b { threads = front }) (record b { threads = zs })) (append_assoc front (t ∷ []) ts) both)

shell_leads : (b : PlainBoard) (p : Option ℕ) → b.shell ≡ None → OwnFits b.levels p → Leads (rank_of LineKind.Schedule) (rank_of LineKind.Shell) (shell_lines p) b (record b { shell = p })
shell_leads b None e h = no_lines (rank_of LineKind.Schedule) (rank_of LineKind.Shell) b _ (omega arith) (ap (λ (q : Option ℕ). record b { shell = q }) e)
shell_leads b (Some p) e h = one_line (rank_of LineKind.Schedule) LineKind.Shell (BoardLine.Shell p) b (refl, refl) (omega arith) (inl (omega arith)) (omega arith) (h, refl, refl, refl)

soft_leads : (b : PlainBoard) (p : Option ℕ) → b.soft ≡ None → OwnFits b.levels p → Leads (rank_of LineKind.Shell) (rank_of LineKind.Soft) (soft_lines p) b (record b { soft = p })
soft_leads b None e h = no_lines (rank_of LineKind.Shell) (rank_of LineKind.Soft) b _ (omega arith) (ap (λ (q : Option ℕ). record b { soft = q }) e)
soft_leads b (Some p) e h = one_line (rank_of LineKind.Shell) LineKind.Soft (BoardLine.Soft p) b (refl, refl) (omega arith) (inl (omega arith)) (omega arith) (h, refl, refl, refl)

limits_lead : (b c : PlainBoard) → SettingFits b LineKind.Limit → Leads (rank_of LineKind.Soft) (rank_of LineKind.Limit) (limit_lines b) c (record c { limits = b.limits })
unfolding row
limits_lead b c h = record {
  stand = λ s at.
      let first = BoardLine.Limit LimitClass.Sem b.limits.sem in
      let second = BoardLine.Limit LimitClass.Event b.limits.event in
      let unlimited : s.limited ≡ 0 = at.unlimited (omega (arith, at.within)) in (
        stand s first (h.0, refl, refl, refl) (is_begun s.rank true at.begun) (line_in_order s LineKind.Limit (omega (arith, at.within)) (inr (omega arith))) (ap (λ (k : ℕ). leb 1 k) unlimited),
        (stand (after s first) second (h.1, refl, refl, refl) refl refl refl, (stand (after (after s first) second) (BoardLine.Limit LimitClass.Mutex b.limits.mutex) (h.2, refl, refl, refl) refl refl refl, tt)),
      );
  there = λ s at. record { board = ap (λ (d : PlainBoard). record d { limits = b.limits }) at.board; begun = omega arith; within = omega arith; unlimited = λ lt. absurd (omega arith) };
}

objects_lead : (b : PlainBoard) → ObjectsGrow b → Leads (rank_of LineKind.Sem) (rank_of LineKind.Arrive) (object_lines b) (settings_of b) b
objects_lead b h =
    let b8 = record b { arrivals = [] } in
    let b7 = record b8 { threads = [] } in
    let b6 = record b7 { timers = [] } in
    let b5 = record b6 { devices = [] } in
    let b4 = record b5 { pools = [] } in
    let b3 = record b4 { queues = [] } in
    let b2 = record b3 { mailboxes = [] } in
    let b1 = record b2 { mutexes = [] } in
    let b0 = record b1 { events = [] } in
    both_lead (class_leads LineKind.Sem (λ x. BoardLine.Sem x) (λ xs. record b0 { sems = xs }) (omega arith) (λ x. (refl, refl)) (λ front x. refl) [] b.sems (h LineKind.Sem)) (omega arith)
    (both_lead (class_leads LineKind.Event (λ x. BoardLine.Event x) (λ xs. record b1 { events = xs }) (omega arith) (λ x. (refl, refl)) (λ front x. refl) [] b.events (h LineKind.Event)) (omega arith)
    (both_lead (class_leads LineKind.Mutex (λ x. BoardLine.Mutex x) (λ xs. record b2 { mutexes = xs }) (omega arith) (λ x. (refl, refl)) (λ front x. refl) [] b.mutexes (h LineKind.Mutex)) (omega arith)
    (both_lead (class_leads LineKind.Mailbox (λ x. BoardLine.Mailbox x) (λ xs. record b3 { mailboxes = xs }) (omega arith) (λ x. (refl, refl)) (λ front x. refl) [] b.mailboxes (h LineKind.Mailbox)) (omega arith)
    (both_lead (class_leads LineKind.Queue (λ x. BoardLine.Queue x) (λ xs. record b4 { queues = xs }) (omega arith) (λ x. (refl, refl)) (λ front x. refl) [] b.queues (h LineKind.Queue)) (omega arith)
    (both_lead (class_leads LineKind.Pool (λ x. BoardLine.Pool x) (λ xs. record b5 { pools = xs }) (omega arith) (λ x. (refl, refl)) (λ front x. refl) [] b.pools (h LineKind.Pool)) (omega arith)
    (both_lead (class_leads LineKind.Device (λ x. BoardLine.Device x) (λ xs. record b6 { devices = xs }) (omega arith) (λ x. (refl, refl)) (λ front x. refl) [] b.devices (h LineKind.Device)) (omega arith)
    (both_lead (class_leads LineKind.Timer (λ x. BoardLine.Timer x) (λ xs. record b7 { timers = xs }) (omega arith) (λ x. (refl, refl)) (λ front x. refl) [] b.timers (h LineKind.Timer)) (omega arith)
    (both_lead (threads_lead b8 [] b.threads (h LineKind.Thread)) (omega arith)
    (class_leads LineKind.Arrive (λ x. BoardLine.Arrive x) (λ xs. record b { arrivals = xs }) (omega arith) (λ x. (refl, refl)) (λ front x. refl) [] b.arrivals (h LineKind.Arrive))))))))))

all_stand : (b : PlainBoard) → SettingsFit b → ObjectsGrow b → AllStand start (board_lines b)
unfolding row
all_stand b h k =
    let s = after_all start (setting_lines b) in
    let others =
    both_lead (shell_leads s.board b.shell refl (h LineKind.Shell)) (omega arith)
    (both_lead (soft_leads (record s.board { shell = b.shell }) b.soft refl (h LineKind.Soft)) (omega arith)
    (both_lead (limits_lead b (record s.board { shell = b.shell; soft = b.soft }) (h LineKind.Limit)) (omega arith) (objects_lead b k))) in
    all-append start (setting_lines b) (other_lines b) (settings_stand b h) (others.stand s (record { board = refl; begun = omega arith; within = omega arith; unlimited = λ lt. refl }))

-- a board is valid whose settings fit, and whose lists come item by item
pub grown_is_valid : (b : PlainBoard) → SettingsFit b → ObjectsGrow b → IsValid b
grown_is_valid b fit grow = valid_where_all_stand b (all_stand b fit grow)

-- the board that a text is, is valid
pub read_is_valid : (bytes : List ℕ) (b : PlainBoard) → IsBoard bytes b → IsValid b
read_is_valid bytes b h =
    let f = fine_lines start (lines_of bytes) b fine-start h in
    valid_where_all_stand b (all_stand b f.0 f.1)

-- the canonical text of a valid board is a text of it
pub canonical_is_board : (b : PlainBoard) → IsValid b → IsBoard (canonical_text b) b
unfolding IsValid
canonical_is_board b h = h

-- what holds of a valid board's settings, and how its lists came
pub valid_grows : (b : PlainBoard) → IsValid b → SettingsFit b × ObjectsGrow b
valid_grows b h = fine_lines start (lines_of (canonical_text b)) b fine-start (canonical_is_board b h)
