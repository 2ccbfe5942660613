-- The canonical text of a board, and which boards there are.
use Rattle.std.specs.Prelude.{ℕ, List, [], ◌∷◌, ◌++◌, Option, Some, None, map, flat_map}
use Rattle.rt_plain.specs.declared.board.ThreadDef.{ThreadDef}
use Rattle.rt_plain.specs.declared.board_line.BoardLine.{BoardLine}
use Rattle.rt_plain.specs.declared.board_line.LimitClass.{LimitClass}
use Rattle.rt_plain.specs.declared.board_line.ThreadLine.{ThreadLine}
use Rattle.rt_plain.specs.PlainBoard.{PlainBoard}
use Rattle.rt_plain.specs.text.Texts.{with_newline}
use Rattle.rt_plain.specs.text.LineTable.{text_of}
use Rattle.rt_plain.specs.text.BoardText.{IsBoard}

-- what the line of a thread says
abbrev pub line_of_thread : ThreadDef → ThreadLine
line_of_thread t = record { name = t.name; prio = t.prio; slice = t.slice; core = t.core; started = t.started }

-- the line of a thread, and those of its statements
abbrev pub thread_lines : ThreadDef → List BoardLine
thread_lines t = BoardLine.Thread (line_of_thread t) ∷ map (λ s. BoardLine.Statement s) t.script

-- the shell's line, where there is one
abbrev pub shell_lines : Option ℕ → List BoardLine
shell_lines None = []
shell_lines (Some prio) = BoardLine.Shell prio ∷ []

-- the line of soft timers' thread, where there is one
abbrev pub soft_lines : Option ℕ → List BoardLine
soft_lines None = []
soft_lines (Some prio) = BoardLine.Soft prio ∷ []

-- the lines of the settings
abbrev pub setting_lines : PlainBoard → List BoardLine
setting_lines b =
    BoardLine.Version 1
    ∷ BoardLine.Cores b.cores
    ∷ BoardLine.Levels b.levels
    ∷ BoardLine.Tickless b.tickless
    ∷ BoardLine.Tick0 b.tick0
    ∷ BoardLine.Until b.until
    ∷ BoardLine.Entries b.entries
    ∷ BoardLine.LpMax b.lpmax
    ∷ BoardLine.Thresh b.thresh
    ∷ BoardLine.LpClock b.lp_h b.lp_q
    ∷ BoardLine.DefaultMode b.default_mode
    ∷ BoardLine.Schedule b.schedule
    ∷ []

-- the lines of the limits
abbrev pub limit_lines : PlainBoard → List BoardLine
limit_lines b =
    BoardLine.Limit LimitClass.Sem b.limits.sem
    ∷ BoardLine.Limit LimitClass.Event b.limits.event
    ∷ BoardLine.Limit LimitClass.Mutex b.limits.mutex
    ∷ []

-- the lines of objects, threads and arrivals
abbrev pub object_lines : PlainBoard → List BoardLine
object_lines b =
    map (λ d. BoardLine.Sem d) b.sems
    ++ (map (λ d. BoardLine.Event d) b.events
    ++ (map (λ d. BoardLine.Mutex d) b.mutexes
    ++ (map (λ d. BoardLine.Mailbox d) b.mailboxes
    ++ (map (λ d. BoardLine.Queue d) b.queues
    ++ (map (λ d. BoardLine.Pool d) b.pools
    ++ (map (λ d. BoardLine.Device d) b.devices
    ++ (map (λ d. BoardLine.Timer d) b.timers
    ++ (flat_map thread_lines b.threads
    ++ map (λ a. BoardLine.Arrive a) b.arrivals))))))))

-- the lines of a board in their order, the settings all present
abbrev pub board_lines : PlainBoard → List BoardLine
board_lines b = setting_lines b ++ (shell_lines b.shell ++ (soft_lines b.soft ++ (limit_lines b ++ object_lines b)))

-- the text of lines
abbrev pub text_of_lines : List BoardLine → List ℕ
text_of_lines lines = flat_map (λ l. with_newline (text_of l)) lines

-- the canonical text
abbrev pub canonical_text : PlainBoard → List ℕ
canonical_text b = text_of_lines (board_lines b)

-- a board is valid where its canonical text is a text of it
unfoldable pub IsValid : PlainBoard → Type 0
IsValid b = IsBoard (canonical_text b) b
