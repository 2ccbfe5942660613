-- The table of statements, and what each says.
use Rattle.std.specs.Prelude.{ℕ, ◌-◌, List, [], ◌∷◌, length, Option, Result, codes, bytes_eq}
use Rattle.std.specs.List.{find}
use Rattle.rt_plain.specs.declared.kind.StatementKind.{StatementKind}
use Rattle.rt_plain.specs.declared.stmt.Stmt.{Stmt}
use Rattle.rt_plain.specs.declared.stmt.Call.{Call}
use Rattle.rt_plain.specs.declared.why.Why.{Why}
use Rattle.rt_plain.specs.text.Fields.{Field, Number, Wait, Named, Quoted, Coded, Ordered, Said, Classed, Moded, Ran, How, Keep, result_map}
use Rattle.rt_plain.specs.text.FieldLists.{Values, spelled_all, no_words, Fit, Always, ended, values_in}

-- the row of a statement: its word, and the fields behind it
pub record StatementRow : Type 0 where
  pub word : List ℕ
  pub fields : List Field

-- a row of the table
abbrev row_of : List ℕ → List Field → StatementRow
row_of word fields = record { word = word; fields = fields }

-- the table, on a board of so many levels
abbrev pub statement_row : ℕ → StatementKind → StatementRow
statement_row levels StatementKind.Print = row_of (codes "print") (Quoted ∷ [])
statement_row levels StatementKind.Say = row_of (codes "say") (Said ∷ [])
statement_row levels StatementKind.Goto = row_of (codes "goto") (Number 1 512 ∷ [])
statement_row levels StatementKind.IfCode = row_of (codes "ifcode") (Coded ∷ Number 1 512 ∷ [])
statement_row levels StatementKind.Count = row_of (codes "count") (Number 0 65535 ∷ [])
statement_row levels StatementKind.Next = row_of (codes "next") (Number 1 512 ∷ [])
statement_row levels StatementKind.Exit = row_of (codes "exit") []
statement_row levels StatementKind.Delay = row_of (codes "delay") (Number 1 2147483647 ∷ [])
statement_row levels StatementKind.Yield = row_of (codes "yield") []
statement_row levels StatementKind.Startup = row_of (codes "startup") (Named ∷ [])
statement_row levels StatementKind.Suspend = row_of (codes "suspend") (Named ∷ [])
statement_row levels StatementKind.Resume = row_of (codes "resume") (Named ∷ [])
statement_row levels StatementKind.Kill = row_of (codes "kill") (Named ∷ [])
statement_row levels StatementKind.SetPrio = row_of (codes "setprio") (Named ∷ Number 0 (levels - 2) ∷ [])
statement_row levels StatementKind.Lock = row_of (codes "lock") []
statement_row levels StatementKind.Unlock = row_of (codes "unlock") []
statement_row levels StatementKind.SchedLock = row_of (codes "sched_lock") []
statement_row levels StatementKind.SchedUnlock = row_of (codes "sched_unlock") []
statement_row levels StatementKind.SemCreate = row_of (codes "sem_create") (Named ∷ Number 0 65535 ∷ Ordered ∷ [])
statement_row levels StatementKind.SemTake = row_of (codes "sem_take") (Named ∷ Wait ∷ [])
statement_row levels StatementKind.SemRelease = row_of (codes "sem_release") (Named ∷ [])
statement_row levels StatementKind.EventCreate = row_of (codes "event_create") (Named ∷ Ordered ∷ [])
statement_row levels StatementKind.EventSend = row_of (codes "event_send") (Named ∷ Number 1 4294967295 ∷ [])
statement_row levels StatementKind.EventRecv = row_of (codes "event_recv") (Named ∷ Number 1 4294967295 ∷ How ∷ Keep ∷ Wait ∷ [])
statement_row levels StatementKind.MutexCreate = row_of (codes "mutex_create") (Named ∷ Number 0 (levels - 1) ∷ [])
statement_row levels StatementKind.MutexTake = row_of (codes "mutex_take") (Named ∷ Wait ∷ [])
statement_row levels StatementKind.MutexRelease = row_of (codes "mutex_release") (Named ∷ [])
statement_row levels StatementKind.MutexCeiling = row_of (codes "mutex_ceiling") (Named ∷ Number 0 (levels - 1) ∷ [])
statement_row levels StatementKind.MbSend = row_of (codes "mb_send") (Named ∷ Number 0 4294967295 ∷ Wait ∷ [])
statement_row levels StatementKind.MbUrgent = row_of (codes "mb_urgent") (Named ∷ Number 0 4294967295 ∷ [])
statement_row levels StatementKind.MbRecv = row_of (codes "mb_recv") (Named ∷ Wait ∷ [])
statement_row levels StatementKind.MqSend = row_of (codes "mq_send") (Named ∷ Wait ∷ Quoted ∷ [])
statement_row levels StatementKind.MqUrgent = row_of (codes "mq_urgent") (Named ∷ Quoted ∷ [])
statement_row levels StatementKind.MqRecv = row_of (codes "mq_recv") (Named ∷ Wait ∷ [])
statement_row levels StatementKind.Delete = row_of (codes "delete") (Classed ∷ Named ∷ [])
statement_row levels StatementKind.TimerStart = row_of (codes "timer_start") (Named ∷ [])
statement_row levels StatementKind.TimerStop = row_of (codes "timer_stop") (Named ∷ [])
statement_row levels StatementKind.TimerSet = row_of (codes "timer_set") (Named ∷ Number 1 2147483647 ∷ [])
statement_row levels StatementKind.DevOpen = row_of (codes "dev_open") (Named ∷ [])
statement_row levels StatementKind.DevClose = row_of (codes "dev_close") (Named ∷ [])
statement_row levels StatementKind.DevRead = row_of (codes "dev_read") (Named ∷ Number 1 64 ∷ [])
statement_row levels StatementKind.DevWrite = row_of (codes "dev_write") (Named ∷ Quoted ∷ [])
statement_row levels StatementKind.DevCtl = row_of (codes "dev_ctl") (Named ∷ Number 1 64 ∷ [])
statement_row levels StatementKind.PmRequest = row_of (codes "pm_request") (Moded ∷ [])
statement_row levels StatementKind.PmRelease = row_of (codes "pm_release") (Moded ∷ [])
statement_row levels StatementKind.PmRun = row_of (codes "pm_run") (Ran ∷ [])
statement_row levels StatementKind.MpAlloc = row_of (codes "mp_alloc") (Named ∷ Wait ∷ [])
statement_row levels StatementKind.MpFree = row_of (codes "mp_free") (Named ∷ [])

-- all statements, in the order of the table
unfoldable pub all_statements : List StatementKind
all_statements =
    StatementKind.Print ∷ StatementKind.Say ∷ StatementKind.Goto ∷ StatementKind.IfCode
    ∷ StatementKind.Count ∷ StatementKind.Next ∷ StatementKind.Exit ∷ StatementKind.Delay
    ∷ StatementKind.Yield ∷ StatementKind.Startup ∷ StatementKind.Suspend ∷ StatementKind.Resume
    ∷ StatementKind.Kill ∷ StatementKind.SetPrio ∷ StatementKind.Lock ∷ StatementKind.Unlock
    ∷ StatementKind.SchedLock ∷ StatementKind.SchedUnlock ∷ StatementKind.SemCreate ∷ StatementKind.SemTake
    ∷ StatementKind.SemRelease ∷ StatementKind.EventCreate ∷ StatementKind.EventSend ∷ StatementKind.EventRecv
    ∷ StatementKind.MutexCreate ∷ StatementKind.MutexTake ∷ StatementKind.MutexRelease ∷ StatementKind.MutexCeiling
    ∷ StatementKind.MbSend ∷ StatementKind.MbUrgent ∷ StatementKind.MbRecv ∷ StatementKind.MqSend
    ∷ StatementKind.MqUrgent ∷ StatementKind.MqRecv ∷ StatementKind.Delete ∷ StatementKind.TimerStart
    ∷ StatementKind.TimerStop ∷ StatementKind.TimerSet ∷ StatementKind.DevOpen ∷ StatementKind.DevClose
    ∷ StatementKind.DevRead ∷ StatementKind.DevWrite ∷ StatementKind.DevCtl ∷ StatementKind.PmRequest
    ∷ StatementKind.PmRelease ∷ StatementKind.PmRun ∷ StatementKind.MpAlloc ∷ StatementKind.MpFree
    ∷ []

-- the word of a statement
unfoldable pub statement_word : StatementKind → List ℕ
statement_word k = (statement_row 0 k).word

-- how many fields a statement has
unfoldable pub statement_count : StatementKind → ℕ
statement_count k = length (statement_row 0 k).fields

-- the statement that a word names
unfoldable pub statement_named : List ℕ → Option StatementKind
statement_named word = find (λ k. bytes_eq (statement_word k) word) all_statements

-- the values of the fields of a statement
abbrev pub StatementValues : ℕ → StatementKind → Type 0
StatementValues levels k = Values (Unit {0}) (statement_row levels k).fields

-- what a statement of a kind says
abbrev pub statement_made : (levels : ℕ) (k : StatementKind) → StatementValues levels k → Stmt
statement_made levels StatementKind.Print v = Stmt.Print v.0
statement_made levels StatementKind.Say v = Stmt.Say v.0
statement_made levels StatementKind.Goto v = Stmt.Goto v.0
statement_made levels StatementKind.IfCode v = Stmt.IfCode v.0 v.1.0
statement_made levels StatementKind.Count v = Stmt.Count v.0
statement_made levels StatementKind.Next v = Stmt.Next v.0
statement_made levels StatementKind.Exit v = Stmt.Exit
statement_made levels StatementKind.Delay v = Stmt.Do (Call.Delay v.0)
statement_made levels StatementKind.Yield v = Stmt.Do Call.Yield
statement_made levels StatementKind.Startup v = Stmt.Do (Call.Startup v.0)
statement_made levels StatementKind.Suspend v = Stmt.Do (Call.Suspend v.0)
statement_made levels StatementKind.Resume v = Stmt.Do (Call.Resume v.0)
statement_made levels StatementKind.Kill v = Stmt.Do (Call.Kill v.0)
statement_made levels StatementKind.SetPrio v = Stmt.Do (Call.SetPrio v.0 v.1.0)
statement_made levels StatementKind.Lock v = Stmt.Do Call.Lock
statement_made levels StatementKind.Unlock v = Stmt.Do Call.Unlock
statement_made levels StatementKind.SchedLock v = Stmt.Do Call.SchedLock
statement_made levels StatementKind.SchedUnlock v = Stmt.Do Call.SchedUnlock
statement_made levels StatementKind.SemCreate v = Stmt.Do (Call.SemCreate v.0 v.1.0 v.1.1.0)
statement_made levels StatementKind.SemTake v = Stmt.Do (Call.SemTake v.0 v.1.0)
statement_made levels StatementKind.SemRelease v = Stmt.Do (Call.SemRelease v.0)
statement_made levels StatementKind.EventCreate v = Stmt.Do (Call.EventCreate v.0 v.1.0)
statement_made levels StatementKind.EventSend v = Stmt.Do (Call.EventSend v.0 v.1.0)
statement_made levels StatementKind.EventRecv v = Stmt.Do (Call.EventRecv v.0 v.1.0 v.1.1.0 v.1.1.1.0 v.1.1.1.1.0)
statement_made levels StatementKind.MutexCreate v = Stmt.Do (Call.MutexCreate v.0 v.1.0)
statement_made levels StatementKind.MutexTake v = Stmt.Do (Call.MutexTake v.0 v.1.0)
statement_made levels StatementKind.MutexRelease v = Stmt.Do (Call.MutexRelease v.0)
statement_made levels StatementKind.MutexCeiling v = Stmt.Do (Call.MutexCeiling v.0 v.1.0)
statement_made levels StatementKind.MbSend v = Stmt.Do (Call.MbSend v.0 v.1.0 v.1.1.0)
statement_made levels StatementKind.MbUrgent v = Stmt.Do (Call.MbUrgent v.0 v.1.0)
statement_made levels StatementKind.MbRecv v = Stmt.Do (Call.MbRecv v.0 v.1.0)
statement_made levels StatementKind.MqSend v = Stmt.Do (Call.MqSend v.0 v.1.0 v.1.1.0)
statement_made levels StatementKind.MqUrgent v = Stmt.Do (Call.MqUrgent v.0 v.1.0)
statement_made levels StatementKind.MqRecv v = Stmt.Do (Call.MqRecv v.0 v.1.0)
statement_made levels StatementKind.Delete v = Stmt.Do (Call.Delete v.0 v.1.0)
statement_made levels StatementKind.TimerStart v = Stmt.Do (Call.TimerStart v.0)
statement_made levels StatementKind.TimerStop v = Stmt.Do (Call.TimerStop v.0)
statement_made levels StatementKind.TimerSet v = Stmt.Do (Call.TimerSet v.0 v.1.0)
statement_made levels StatementKind.DevOpen v = Stmt.Do (Call.DevOpen v.0)
statement_made levels StatementKind.DevClose v = Stmt.Do (Call.DevClose v.0)
statement_made levels StatementKind.DevRead v = Stmt.Do (Call.DevRead v.0 v.1.0)
statement_made levels StatementKind.DevWrite v = Stmt.Do (Call.DevWrite v.0 v.1.0)
statement_made levels StatementKind.DevCtl v = Stmt.Do (Call.DevCtl v.0 v.1.0)
statement_made levels StatementKind.PmRequest v = Stmt.Do (Call.PmRequest v.0)
statement_made levels StatementKind.PmRelease v = Stmt.Do (Call.PmRelease v.0)
statement_made levels StatementKind.PmRun v = Stmt.Do (Call.PmRun v.0)
statement_made levels StatementKind.MpAlloc v = Stmt.Do (Call.MpAlloc v.0 v.1.0)
statement_made levels StatementKind.MpFree v = Stmt.Do (Call.MpFree v.0)

-- the kind of a call
abbrev pub call_kind : Call → StatementKind
call_kind (Call.Delay n) = StatementKind.Delay
call_kind Call.Yield = StatementKind.Yield
call_kind (Call.Startup o) = StatementKind.Startup
call_kind (Call.Suspend o) = StatementKind.Suspend
call_kind (Call.Resume o) = StatementKind.Resume
call_kind (Call.Kill o) = StatementKind.Kill
call_kind (Call.SetPrio o p) = StatementKind.SetPrio
call_kind Call.Lock = StatementKind.Lock
call_kind Call.Unlock = StatementKind.Unlock
call_kind Call.SchedLock = StatementKind.SchedLock
call_kind Call.SchedUnlock = StatementKind.SchedUnlock
call_kind (Call.SemCreate o v q) = StatementKind.SemCreate
call_kind (Call.SemTake o w) = StatementKind.SemTake
call_kind (Call.SemRelease o) = StatementKind.SemRelease
call_kind (Call.EventCreate o q) = StatementKind.EventCreate
call_kind (Call.EventSend o m) = StatementKind.EventSend
call_kind (Call.EventRecv o m h k w) = StatementKind.EventRecv
call_kind (Call.MutexCreate o p) = StatementKind.MutexCreate
call_kind (Call.MutexTake o w) = StatementKind.MutexTake
call_kind (Call.MutexRelease o) = StatementKind.MutexRelease
call_kind (Call.MutexCeiling o p) = StatementKind.MutexCeiling
call_kind (Call.MbSend o v w) = StatementKind.MbSend
call_kind (Call.MbUrgent o v) = StatementKind.MbUrgent
call_kind (Call.MbRecv o w) = StatementKind.MbRecv
call_kind (Call.MqSend o w t) = StatementKind.MqSend
call_kind (Call.MqUrgent o t) = StatementKind.MqUrgent
call_kind (Call.MqRecv o w) = StatementKind.MqRecv
call_kind (Call.Delete c o) = StatementKind.Delete
call_kind (Call.TimerStart o) = StatementKind.TimerStart
call_kind (Call.TimerStop o) = StatementKind.TimerStop
call_kind (Call.TimerSet o n) = StatementKind.TimerSet
call_kind (Call.DevOpen o) = StatementKind.DevOpen
call_kind (Call.DevClose o) = StatementKind.DevClose
call_kind (Call.DevRead o n) = StatementKind.DevRead
call_kind (Call.DevWrite o t) = StatementKind.DevWrite
call_kind (Call.DevCtl o n) = StatementKind.DevCtl
call_kind (Call.PmRequest m) = StatementKind.PmRequest
call_kind (Call.PmRelease m) = StatementKind.PmRelease
call_kind (Call.PmRun r) = StatementKind.PmRun
call_kind (Call.MpAlloc o w) = StatementKind.MpAlloc
call_kind (Call.MpFree o) = StatementKind.MpFree

-- the kind of a statement
abbrev pub statement_kind : Stmt → StatementKind
statement_kind (Stmt.Print t) = StatementKind.Print
statement_kind (Stmt.Say w) = StatementKind.Say
statement_kind (Stmt.Goto k) = StatementKind.Goto
statement_kind (Stmt.IfCode c k) = StatementKind.IfCode
statement_kind (Stmt.Count n) = StatementKind.Count
statement_kind (Stmt.Next k) = StatementKind.Next
statement_kind Stmt.Exit = StatementKind.Exit
statement_kind (Stmt.Do c) = call_kind c

-- the values that a call has
abbrev pub call_values : (levels : ℕ) (c : Call) → StatementValues levels (call_kind c)
call_values levels (Call.Delay n) = (n, tt)
call_values levels Call.Yield = tt
call_values levels (Call.Startup o) = (o, tt)
call_values levels (Call.Suspend o) = (o, tt)
call_values levels (Call.Resume o) = (o, tt)
call_values levels (Call.Kill o) = (o, tt)
call_values levels (Call.SetPrio o p) = (o, (p, tt))
call_values levels Call.Lock = tt
call_values levels Call.Unlock = tt
call_values levels Call.SchedLock = tt
call_values levels Call.SchedUnlock = tt
call_values levels (Call.SemCreate o v q) = (o, (v, (q, tt)))
call_values levels (Call.SemTake o w) = (o, (w, tt))
call_values levels (Call.SemRelease o) = (o, tt)
call_values levels (Call.EventCreate o q) = (o, (q, tt))
call_values levels (Call.EventSend o m) = (o, (m, tt))
call_values levels (Call.EventRecv o m h k w) = (o, (m, (h, (k, (w, tt)))))
call_values levels (Call.MutexCreate o p) = (o, (p, tt))
call_values levels (Call.MutexTake o w) = (o, (w, tt))
call_values levels (Call.MutexRelease o) = (o, tt)
call_values levels (Call.MutexCeiling o p) = (o, (p, tt))
call_values levels (Call.MbSend o v w) = (o, (v, (w, tt)))
call_values levels (Call.MbUrgent o v) = (o, (v, tt))
call_values levels (Call.MbRecv o w) = (o, (w, tt))
call_values levels (Call.MqSend o w t) = (o, (w, (t, tt)))
call_values levels (Call.MqUrgent o t) = (o, (t, tt))
call_values levels (Call.MqRecv o w) = (o, (w, tt))
call_values levels (Call.Delete c o) = (c, (o, tt))
call_values levels (Call.TimerStart o) = (o, tt)
call_values levels (Call.TimerStop o) = (o, tt)
call_values levels (Call.TimerSet o n) = (o, (n, tt))
call_values levels (Call.DevOpen o) = (o, tt)
call_values levels (Call.DevClose o) = (o, tt)
call_values levels (Call.DevRead o n) = (o, (n, tt))
call_values levels (Call.DevWrite o t) = (o, (t, tt))
call_values levels (Call.DevCtl o n) = (o, (n, tt))
call_values levels (Call.PmRequest m) = (m, tt)
call_values levels (Call.PmRelease m) = (m, tt)
call_values levels (Call.PmRun r) = (r, tt)
call_values levels (Call.MpAlloc o w) = (o, (w, tt))
call_values levels (Call.MpFree o) = (o, tt)

-- the values that a statement has
abbrev pub statement_values : (levels : ℕ) (s : Stmt) → StatementValues levels (statement_kind s)
statement_values levels (Stmt.Print t) = (t, tt)
statement_values levels (Stmt.Say w) = (w, tt)
statement_values levels (Stmt.Goto k) = (k, tt)
statement_values levels (Stmt.IfCode c k) = (c, (k, tt))
statement_values levels (Stmt.Count n) = (n, tt)
statement_values levels (Stmt.Next k) = (k, tt)
statement_values levels Stmt.Exit = tt
statement_values levels (Stmt.Do c) = call_values levels c

-- the words of a statement
abbrev pub statement_words : Stmt → List (List ℕ)
statement_words s =
    let r = statement_row 0 (statement_kind s) in
    r.word ∷ spelled_all no_words r.fields (statement_values 0 s)

-- the values of a statement are in their ranges
abbrev pub FitsStatement : ℕ → Stmt → Type 0
FitsStatement levels s = Fit Always (statement_row levels (statement_kind s)).fields (statement_values levels s)

-- the statement of a kind that words say
unfoldable pub statement_in : ℕ → List (List ℕ) → StatementKind → Result Stmt Why
statement_in levels ws k = result_map (statement_made levels k) (values_in ended (statement_row levels k).fields 1 ws)
