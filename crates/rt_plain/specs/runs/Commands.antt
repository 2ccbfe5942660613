-- The commands of the program, and what each writes.
use Rattle.std.specs.Prelude.{◌≡◌, ℕ, ◌+◌, ◌*◌, ◌-◌, ◌&&◌, List, [], ◌∷◌, Option, Some, None, length, fold, flat_map, decimal, codes, nat_le, if◌then◌else◌}
use Rattle.std.specs.List.{range_with_len}
use Rattle.std.specs.Str.{bytes_eq}
use Rattle.std.specs.Option.{option_and_then, option_map}
use Rattle.rt_plain.specs.declared.board.Schedule.{Schedule}
use Rattle.rt_plain.specs.declared.entry.Entry.{Entry}
use Rattle.rt_plain.specs.declared.entry.Cut.{Cut}
use Rattle.rt_plain.specs.PlainBoard.{PlainBoard}
use Rattle.rt_plain.specs.text.Words.{words, halt_text}
use Rattle.rt_plain.specs.runs.Runs.{Course, is_over_in, line_count, IsComplete}
use Rattle.rt_plain.specs.runs.Live.{IsLive}
use Rattle.rt_plain.specs.runs.Schedules.{scheduled_course}
use Rattle.rt_plain.specs.text.Texts.{End, trace_text, console_of, at_tick, with_newline}
use Rattle.rt_plain.specs.kernel.Shown.{shown}
use Rattle.rt_plain.specs.runs.Ends.{run_of, end_of}
use Rattle.rt_plain.specs.runs.Cycles.{cycle_text}
use Rattle.rt_plain.specs.runs.Usage.{usage_text}
use Rattle.rt_plain.specs.text.Canon.{canonical_text}
use Rattle.rt_plain.specs.runs.Generated.{generated_board}

-- a command line. A file is named by its bytes
pub data Command : Type 0 where
  Run : List ℕ → Command
  Trace : List ℕ → Command
  Live : ℕ → List ℕ → Command
  Replay : List ℕ → List ℕ → Command
  Sweep : ℕ → ℕ → List ℕ → Command
  Show : List ℕ → Command
  Gen : ℕ → Command
  Soak : ℕ → Command
  Cycle : ℕ → ℕ → List ℕ → Command
  Usage : List ℕ → Command

-- the number that a word of decimal digits spells
abbrev pub digits_value : List ℕ → ℕ
digits_value word = fold (λ n byte. 10 * n + (byte - 48)) 0 word

-- the number of a word that is its one spelling, without a sign or a leading zero
abbrev pub number_of : List ℕ → Option ℕ
number_of word = let n = digits_value word in if bytes_eq (decimal n) word then Some n else None

-- a number in a range
abbrev pub in_range : ℕ → ℕ → ℕ → Option ℕ
in_range low high n = if nat_le low n && nat_le n high then Some n else None

-- a number in a range, from its word
abbrev pub number_within : ℕ → ℕ → List ℕ → Option ℕ
number_within low high word = option_and_then (in_range low high) (number_of word)

-- a live run: the turns are from 1 to 1,000,000
abbrev pub live_of : List ℕ → List ℕ → Option Command
live_of turns file = option_map (λ n. Live n file) (number_within 1 1000000 turns)

-- a sweep whose last seed is a number of 32 bits
abbrev pub sweep_within : ℕ → ℕ → List ℕ → Option Command
sweep_within from count file = if nat_le (from + count) 4294967296 then Some (Sweep from count file) else None

-- a sweep: from a number of 32 bits on, from 1 to 32 seeds
abbrev pub sweep_of : List ℕ → List ℕ → List ℕ → Option Command
sweep_of from count file = option_and_then (λ n. option_and_then (λ k. sweep_within n k file) (number_within 1 32 count)) (number_within 0 4294967295 from)

-- a cycle: an alarm of 32 bits but not 0, and from 1 to 16 wakes
abbrev pub cycle_of : List ℕ → List ℕ → List ℕ → Option Command
cycle_of alarm times file = option_and_then (λ n. option_map (λ k. Cycle n k file) (number_within 1 16 times)) (number_within 1 4294967295 alarm)

-- a command with a number of 32 bits
abbrev pub numbered_command : (ℕ → Command) → List ℕ → Option Command
numbered_command command word = option_map command (number_within 0 4294967295 word)

-- the command of a name and one word
abbrev pub two_words : List ℕ → List ℕ → Option Command
two_words name word =
    if bytes_eq name (codes "run") then Some (Run word)
    else if bytes_eq name (codes "trace") then Some (Trace word)
    else if bytes_eq name (codes "show") then Some (Show word)
    else if bytes_eq name (codes "usage") then Some (Usage word)
    else if bytes_eq name (codes "gen") then numbered_command Gen word
    else if bytes_eq name (codes "soak") then numbered_command Soak word
    else None

-- the command of a name and two words
abbrev pub three_words : List ℕ → List ℕ → List ℕ → Option Command
three_words name a b =
    if bytes_eq name (codes "live") then live_of a b
    else if bytes_eq name (codes "replay") then Some (Replay a b)
    else None

-- the command of a name and three words
abbrev pub four_words : List ℕ → List ℕ → List ℕ → List ℕ → Option Command
four_words name a b c =
    if bytes_eq name (codes "sweep") then sweep_of a b c
    else if bytes_eq name (codes "cycle") then cycle_of a b c
    else None

-- the command of a command line, if it is one
abbrev pub command_of : List (List ℕ) → Option Command
command_of (name ∷ a ∷ []) = two_words name a
command_of (name ∷ a ∷ b ∷ []) = three_words name a b
command_of (name ∷ a ∷ b ∷ c ∷ []) = four_words name a b c
command_of _ = None

-- what `run` writes
abbrev pub console_text : PlainBoard → List ℕ
console_text b = console_of (run_of b).journal

-- what `trace` writes
abbrev pub run_text : PlainBoard → List ℕ
run_text b = trace_text (run_of b).journal None (end_of b (run_of b))

-- the board with another schedule
abbrev pub with_schedule : Schedule → PlainBoard → PlainBoard
with_schedule schedule b = record b { schedule = schedule }

-- the run by a seed, within the limits of a sweep
abbrev pub seeded_run : PlainBoard → ℕ → Course
seeded_run b seed = let seeded = with_schedule (Schedule.Seed seed) b in scheduled_course (is_over_in 20000 100000 seeded) seeded

-- how a run of a sweep ended: with its halt and entries, or at a limit with its entries and lines
abbrev pub sweep_end : List Entry → Option End → List (List ℕ)
sweep_end journal (Some e) = codes "end" ∷ halt_text e.halt ∷ at_tick e.tick ∷ codes "entries" ∷ decimal (length journal) ∷ []
sweep_end journal None = codes "limit" ∷ codes "entries" ∷ decimal (length journal) ∷ codes "lines" ∷ decimal (line_count journal) ∷ []

-- the line of a seed
abbrev pub sweep_line : PlainBoard → ℕ → List ℕ
sweep_line b seed = let c = seeded_run b seed in with_newline (words (codes "seed" ∷ decimal seed ∷ sweep_end c.journal (end_of b c)))

-- what `sweep` writes: a line for each seed
abbrev pub sweep_text : PlainBoard → ℕ → ℕ → List ℕ
sweep_text b from count = flat_map (sweep_line b) (range_with_len from count)

-- the summary of the run of a generated board
abbrev pub summary : ℕ → PlainBoard → Course → List ℕ
summary n b c =
    with_newline (words (codes "soak" ∷ decimal n
    ∷ codes "threads" ∷ decimal (length b.threads)
    ∷ codes "ticks" ∷ decimal (shown b c.state.moment)
    ∷ codes "entries" ∷ decimal (length c.journal)
    ∷ codes "lines" ∷ decimal (line_count c.journal)
    ∷ codes "console" ∷ decimal (length (console_of c.journal)) ∷ []))

-- what `soak` writes
abbrev pub soak_text : ℕ → List ℕ
soak_text n = summary n (generated_board n) (run_of (generated_board n))

-- the text of a live run: its journal is one that runners may have made, whole and halted
pub record IsLiveText (b : PlainBoard) (turns : ℕ) (text : List ℕ) : Type 0 where
  pub journal : List Entry
  pub cut : Cut
  pub end : End
  pub live : IsLive b turns journal cut
  pub complete : IsComplete b journal end.halt end.tick
  pub text_is : text ≡ trace_text journal (Some cut) (Some end)

-- what a command writes, given the contents of its files in the order of its words, where a grammar says which bytes are which board
module _ (IsBoard : List ℕ → PlainBoard → Type 0) where
  -- each command writes what its line says; any other contents are none of a command
  abbrev pub Writes : Command → List (List ℕ) → List ℕ → Type 0
  Writes (Run file) (bytes ∷ []) text = (b : PlainBoard) × IsBoard bytes b × (text ≡ console_text b)
  Writes (Trace file) (bytes ∷ []) text = (b : PlainBoard) × IsBoard bytes b × (text ≡ run_text b)
  Writes (Live turns file) (bytes ∷ []) text = (b : PlainBoard) × IsBoard bytes b × IsLiveText b turns text
  Writes (Replay trace_file file) (trace ∷ bytes ∷ []) text = text ≡ trace
  Writes (Sweep from count file) (bytes ∷ []) text = (b : PlainBoard) × IsBoard bytes b × (text ≡ sweep_text b from count)
  Writes (Show file) (bytes ∷ []) text = (b : PlainBoard) × IsBoard bytes b × (text ≡ canonical_text b)
  Writes (Gen n) [] text = text ≡ canonical_text (generated_board n)
  Writes (Soak n) [] text = text ≡ soak_text n
  Writes (Cycle alarm times file) (bytes ∷ []) text = (b : PlainBoard) × IsBoard bytes b × (text ≡ cycle_text b alarm times)
  Writes (Usage file) (bytes ∷ []) text = (b : PlainBoard) × IsBoard bytes b × (text ≡ usage_text b)
  Writes _ _ text = ⊥
