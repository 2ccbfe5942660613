-- The board that a number stands for.
use Rattle.std.specs.Prelude.{ℕ, ◌+◌, ◌%◌, true, List, [], ◌∷◌, ◌++◌, Some, None, map, flat_map, decimal, codes, if◌then◌else◌, ◌==◌}
use Rattle.std.specs.List.{range_with_len}
use Rattle.rt_base.specs.declared.codes.Sleep.{Sleep}
use Rattle.rt_base.specs.declared.codes.WaitOrder.{WaitOrder}
use Rattle.rt_plain.specs.declared.board.Schedule.{Schedule}
use Rattle.rt_plain.specs.declared.board.TimerKind.{TimerKind}
use Rattle.rt_plain.specs.declared.board.SemDef.{SemDef}
use Rattle.rt_plain.specs.declared.board.TimerDef.{TimerDef}
use Rattle.rt_plain.specs.declared.board.ThreadDef.{ThreadDef}
use Rattle.rt_plain.specs.declared.stmt.Call.{Call}
use Rattle.rt_plain.specs.declared.stmt.Stmt.{Stmt}
use Rattle.rt_plain.specs.PlainBoard.{PlainBoard}
use Rattle.rt_plain.specs.runs.Schedules.{words_of_seed}
use Rattle.rand_pcg.specs.Lcg.{Lcg}
use Rattle.rand_pcg.specs.Pcg.{pcg32}

-- what was drawn, and the generator after it
pub record Drawn (A : Type 0) : Type 0 where
  pub value : A
  pub rest : Lcg

-- the next word modulo k
abbrev pub draw_below : ℕ → Lcg → Drawn ℕ
draw_below k g = let word = pcg32 g in record { value = word.0 % k; rest = word.1 }

-- nothing is drawn
abbrev pub undrawn : {A : Type 0} → A → Lcg → Drawn A
undrawn x g = record { value = x; rest = g }

-- one draw, and then what it leads to
abbrev pub drawn_after : {A B : Type 0} → Drawn A → (A → Lcg → Drawn B) → Drawn B
drawn_after d next = next d.value d.rest

-- a draw for each number, in order
abbrev pub draw_each : {A : Type 0} → (ℕ → Lcg → Drawn A) → List ℕ → Lcg → Drawn (List A)
draw_each draw [] g = undrawn [] g
draw_each draw (i ∷ is) g = let d = draw i g in let ds = draw_each draw is d.rest in record { value = d.value ∷ ds.value; rest = ds.rest }

-- a letter and a number
abbrev pub numbered : List ℕ → ℕ → List ℕ
numbered letter i = letter ++ decimal i

-- a mutex is taken, held for a while and released
abbrev pub mutex_block : ℕ → ℕ → ℕ → List Stmt
mutex_block x w d = Stmt.Do (Call.MutexTake (numbered (codes "m") x) (Some (1 + w))) ∷ Stmt.Do (Call.Delay (1 + d)) ∷ Stmt.Do (Call.MutexRelease (numbered (codes "m") x)) ∷ []

-- a semaphore is taken
abbrev pub sem_block : ℕ → ℕ → List Stmt
sem_block x w = Stmt.Do (Call.SemTake (numbered (codes "s") x) (Some (1 + w))) ∷ []

-- a semaphore is released
abbrev pub release_block : ℕ → List Stmt
release_block x = Stmt.Do (Call.SemRelease (numbered (codes "s") x)) ∷ []

-- mail is sent
abbrev pub send_block : ℕ → ℕ → ℕ → List Stmt
send_block x v w = Stmt.Do (Call.MbSend (numbered (codes "b") x) v (Some w)) ∷ []

-- mail is received
abbrev pub receive_block : ℕ → ℕ → List Stmt
receive_block x w = Stmt.Do (Call.MbRecv (numbered (codes "b") x) (Some w)) ∷ []

-- which mutex, how long to wait, and how long to hold it
abbrev pub draw_mutex_block : Lcg → Drawn (List Stmt)
draw_mutex_block g = drawn_after (draw_below 4 g) (λ x g. drawn_after (draw_below 20 g) (λ w g. drawn_after (draw_below 5 g) (λ d g. undrawn (mutex_block x w d) g)))

-- which semaphore, and how long to wait
abbrev pub draw_sem_block : Lcg → Drawn (List Stmt)
draw_sem_block g = drawn_after (draw_below 4 g) (λ x g. drawn_after (draw_below 20 g) (λ w g. undrawn (sem_block x w) g))

-- which semaphore
abbrev pub draw_release_block : Lcg → Drawn (List Stmt)
draw_release_block g = drawn_after (draw_below 4 g) (λ x g. undrawn (release_block x) g)

-- which mailbox, which word, and how long to wait
abbrev pub draw_send_block : Lcg → Drawn (List Stmt)
draw_send_block g = drawn_after (draw_below 2 g) (λ x g. drawn_after (draw_below 1000 g) (λ v g. drawn_after (draw_below 10 g) (λ w g. undrawn (send_block x v w) g)))

-- which mailbox, and how long to wait
abbrev pub draw_receive_block : Lcg → Drawn (List Stmt)
draw_receive_block g = drawn_after (draw_below 2 g) (λ x g. drawn_after (draw_below 10 g) (λ w g. undrawn (receive_block x w) g))

-- a block, by the kind that was drawn
abbrev pub block_of : ℕ → Lcg → Drawn (List Stmt)
block_of kind g =
    if kind == 0 then draw_mutex_block g
    else if kind == 1 then draw_sem_block g
    else if kind == 2 then draw_release_block g
    else if kind == 3 then draw_send_block g
    else if kind == 4 then draw_receive_block g
    else undrawn (Stmt.Print (codes ".") ∷ []) g

-- a kind of block, and then what the block draws
abbrev pub draw_block : ℕ → Lcg → Drawn (List Stmt)
draw_block i g = drawn_after (draw_below 6 g) block_of

-- a script: four blocks, a delay, and back to the begin
abbrev pub script_with : List (List Stmt) → ℕ → List Stmt
script_with blocks d = flat_map (λ block. block) blocks ++ Stmt.Do (Call.Delay (1 + d)) ∷ Stmt.Goto 1 ∷ []

-- the draws of a script: four blocks and a delay
abbrev pub draw_script : Lcg → Drawn (List Stmt)
draw_script g = drawn_after (draw_each draw_block (range_with_len 0 4) g) (λ blocks g. drawn_after (draw_below 20 g) (λ d g. undrawn (script_with blocks d) g))

-- a thread: its base, its slice and its script
abbrev pub thread_with : ℕ → ℕ → ℕ → List Stmt → ThreadDef
thread_with i base slice script = record { name = numbered (codes "w") i; prio = base; slice = 1 + slice; core = None; started = true; script = script }

-- the draws of a thread: a base, a slice and a script
abbrev pub draw_thread : ℕ → Lcg → Drawn ThreadDef
draw_thread i g = drawn_after (draw_below 30 g) (λ base g. drawn_after (draw_below 10 g) (λ slice g. drawn_after (draw_script g) (λ script g. undrawn (thread_with i base slice script) g)))

-- the value of a semaphore
abbrev pub draw_sem : ℕ → Lcg → Drawn SemDef
draw_sem i g = drawn_after (draw_below 3 g) (λ value g. undrawn (record { name = numbered (codes "s") i; value = value; order = WaitOrder.Prio }) g)

-- the time of a periodic timer that releases the semaphore of its number
abbrev pub draw_timer : ℕ → Lcg → Drawn TimerDef
draw_timer i g = drawn_after (draw_below 20 g) (λ time g. undrawn (record { name = numbered (codes "t") i; kind = TimerKind.Periodic; time = 5 + time; started = true; call = Some (Stmt.Do (Call.SemRelease (numbered (codes "s") i))) }) g)

-- all that isn't drawn
abbrev pub board_with : ℕ → List SemDef → List TimerDef → List ThreadDef → PlainBoard
board_with cores sems timers threads = record {
  cores = 1 + cores;
  levels = 32;
  tickless = true;
  tick0 = 0;
  until = 2000;
  entries = 1000000;
  lpmax = 2147483647;
  thresh = 2;
  lp_h = 1;
  lp_q = 1;
  default_mode = Sleep.Light;
  schedule = Schedule.Round;
  shell = None;
  soft = None;
  limits = record { sem = 64; event = 64; mutex = 256 };
  sems = sems;
  events = [];
  mutexes = map (λ i. record { name = numbered (codes "m") i; ceiling = 31 }) (range_with_len 0 4);
  mailboxes = map (λ i. record { name = numbered (codes "b") i; size = 4; order = WaitOrder.Fifo }) (range_with_len 0 2);
  queues = [];
  pools = [];
  devices = record { name = codes "uart1"; rx = 16; tx = 16; rate = 4; pm = true; ind = Some (codes "s0") } ∷ [];
  timers = timers;
  threads = threads;
  arrivals = [];
}

-- the draws in their order: the cores, the semaphores, the timers, the number of threads, and the threads
abbrev pub draw_board : Lcg → Drawn PlainBoard
draw_board g =
    drawn_after (draw_below 4 g) (λ cores g.
    drawn_after (draw_each draw_sem (range_with_len 0 4) g) (λ sems g.
    drawn_after (draw_each draw_timer (range_with_len 0 2) g) (λ timers g.
    drawn_after (draw_below 8 g) (λ more g.
    drawn_after (draw_each draw_thread (range_with_len 0 (8 + more)) g) (λ threads g.
    undrawn (board_with cores sems timers threads) g)))))

-- the board of a number
abbrev pub generated_board : ℕ → PlainBoard
generated_board n = (draw_board (words_of_seed n)).value
