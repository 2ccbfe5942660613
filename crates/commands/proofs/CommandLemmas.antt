-- A cause leaves one status, but for want of memory.
use Rattle.std.proofs.Common.{◌≡◌, ◌⊎◌, inl, inr, ℕ, List, [], ◌∷◌, Option, Some, None, Result, Ok, Err, IfErr, IsErr, IsErrAnd, IsSome, true, false, subst, sym, ap, refl, length, take, arith, ◌<◌, ◌≤◌}
use Rattle.std.specs.Option.{option_map}
use Rattle.rt_base.specs.declared.codes.Halt.{Halt}
use Rattle.rt_edge.specs.Counts.{Rose}
use Rattle.rt_edge.specs.Contents.{Names, IsAbsent, HasGrown}
use Rattle.rt_plain.specs.PlainBoard.{PlainBoard}
use Rattle.rt_plain.specs.text.BoardText.{IsBoard, first_bad}
use Rattle.rt_plain.specs.runs.Commands.{Command}
use Rattle.rt_plain.specs.runs.Ends.{run_of}
use Rattle.rt_plain.specs.runs.Replays.{IsGood}
use Rattle.kernel_step.specs.Built.{is_built}
use Rattle.commands.specs.Boards.{IsRun, IsScheduled, IsReplay, IsShow, IsBoardFile, IsBuiltFile, IsTooLong, HasBadLine, IsRefused, IsUnbuilt, IsUnbuiltRun, IsText, IsRunText, IsOver, IsOverRun, IsTraceFile, IsLongTrace, IsUnlikeTrace, IsNoTrace, IsLongReplay, IsUnlikeReplay, IsBadReplay, Halts, Stops, HasText, IsCauseOf, IsUnready, IsUnlikeOf, board_in, trace_in}
use Rattle.commands.specs.Held.{IfHeld, IsHeld, IsLacked, IfAllHeld, AreHeld, IsOneLacked, IsFirstLacked, IfFirstHeld, IsTraceRead}
use Rattle.commands.specs.Command.{file_of, files_of, written}
use Rattle.commands.specs.Asked.{IfAsked, IsMissing, IsNotThere, AsksFor, FindsFirst, LacksFirst, LacksOne, HasWritten, HasBegun, HasCause, HasFailed, HasEnded, IsBoardFault, IsTraceFault}
use Rattle.commands.specs.Ending.{status_of, message, missing_line, names}
use Rattle.core_runner.specs.Replays.{IsUnlike}
use Rattle.commands.specs.declared.args.Output.{Output}
use Rattle.commands.specs.declared.args.Wanted.{Wanted}
use Rattle.commands.specs.declared.ending.Ending.{Ending}
use Rattle.commands.specs.declared.ending.Ending.TheVariants.{Done, Usage, Missing, Unreadable, Unwritable, TooLong, BadLine, NotBuilt, Limited, TraceTooLong, TraceLine, Memory}

-- what an ending tells of the words, the files and the sink
pub record IsCaused (asked : Option Command) (held : Option Names) (old new : Option (List ℕ)) (e : Ending) : Type 0 where
  pub usage : e ≡ Usage → asked ≡ None
  pub done : e ≡ Done → IfAsked asked held (HasWritten old new)
  pub absent : (wanted : Wanted) → e ≡ Missing wanted → IsMissing asked held wanted
  pub readable : e ≡ Unreadable → ⊥
  pub begun : e ≡ Unwritable → IfAsked asked held (HasBegun old new)
  pub cause : HasCause asked held e
  pub found : e ≡ Memory → FindsFirst asked held

-- the laws of board texts: no text is two boards, and one of a board has no bad line
pub record TextLaws : Type 0 where
  pub one : (bytes : List ℕ) (a b : PlainBoard) → IsBoard bytes a → IsBoard bytes b → a ≡ b
  pub good : (bytes : List ℕ) (b : PlainBoard) → IsBoard bytes b → first_bad bytes ≡ None

-- ---- what an ending tells of the bytes of the files

abbrev pub Found : Ending → Command → List (List ℕ) → Type 0
Found Done command contents = HasText command contents
Found Unwritable command contents = HasText command contents
Found TooLong command contents = IsTooLong (board_in contents)
Found (BadLine line why) command contents = HasBadLine (board_in contents) line why
Found NotBuilt command contents = IsUnbuiltRun command contents
Found (Limited entries lines) command contents = IsOverRun command contents entries lines
Found TraceTooLong command contents = IsLongReplay command contents
Found (TraceLine line) command contents = IsUnlikeReplay command contents line
Found Memory command contents = Unit {0}
Found _ command contents = ⊥

-- what is told of files, and what an ending tells of them, are of the same bytes
together-held : (held : Option Names) (names : List (List ℕ)) (P Q : List (List ℕ) → Type 0) → AreHeld held names P → IfAllHeld held names Q → (contents : List (List ℕ)) × P contents × Q contents
together-held held [] P Q asks fact = ([], asks, fact)
together-held None (name ∷ names) P Q asks fact = absurd asks
together-held (Some known) (name ∷ names) P Q asks fact =
    let same : fact.0 ≡ asks.0 = cc in
    let all = together-held (Some known) names (λ contents. P (asks.0 ∷ contents)) (λ contents. Q (asks.0 ∷ contents)) asks.2 (subst (λ (bytes : List ℕ). IfAllHeld (Some known) names (λ contents. Q (bytes ∷ contents))) same fact.2) in
    (asks.0 ∷ all.0, all.1, all.2)

together : (asked : Option Command) (held : Option Names) (P Q : Command → List (List ℕ) → Type 0) → AsksFor asked held P → IfAsked asked held Q
    → (command : Command) × (contents : List (List ℕ)) × P command contents × Q command contents
together None held P Q asks fact = absurd asks
together (Some command) held P Q asks fact = let all = together-held held (files_of command) (P command) (Q command) asks fact in (command, all.0, all.1, all.2)

-- a file that is there isn't missing
there-one : (held : Option Names) (name : List ℕ) (P : List ℕ → Type 0) → IsHeld held name P → IsAbsent held name → ⊥
there-one None name P asks missing = asks
there-one (Some names) name P asks missing = cc

there-all : (held : Option Names) (command : Command) (wanted : Wanted) (P : List (List ℕ) → Type 0) → AreHeld held (files_of command) P → IsNotThere held command wanted → ⊥
there-all held (Command.Replay trace file) Wanted.Trace P asks missing = there-one held trace _ asks missing
there-all None (Command.Replay trace file) Wanted.Board P asks missing = asks
there-all (Some names) (Command.Replay trace file) Wanted.Board P asks missing = there-one (Some names) file _ asks.2 missing
there-all held (Command.Run file) Wanted.Board P asks missing = there-one held file _ asks missing
there-all held (Command.Trace file) Wanted.Board P asks missing = there-one held file _ asks missing
there-all held (Command.Show file) Wanted.Board P asks missing = there-one held file _ asks missing
there-all held (Command.Live turns file) Wanted.Board P asks missing = there-one held [] _ asks missing
there-all held (Command.Sweep from count file) Wanted.Board P asks missing = there-one held [] _ asks missing
there-all held (Command.Gen seed) Wanted.Board P asks missing = there-one held [] _ asks missing
there-all held (Command.Soak seed) Wanted.Board P asks missing = there-one held [] _ asks missing
there-all held (Command.Cycle alarm times file) Wanted.Board P asks missing = there-one held [] _ asks missing
there-all held (Command.Usage file) Wanted.Board P asks missing = there-one held [] _ asks missing
there-all held (Command.Run file) Wanted.Trace P asks missing = missing
there-all held (Command.Trace file) Wanted.Trace P asks missing = missing
there-all held (Command.Show file) Wanted.Trace P asks missing = missing
there-all held (Command.Live turns file) Wanted.Trace P asks missing = missing
there-all held (Command.Sweep from count file) Wanted.Trace P asks missing = missing
there-all held (Command.Gen seed) Wanted.Trace P asks missing = missing
there-all held (Command.Soak seed) Wanted.Trace P asks missing = missing
there-all held (Command.Cycle alarm times file) Wanted.Trace P asks missing = missing
there-all held (Command.Usage file) Wanted.Trace P asks missing = missing

there : (asked : Option Command) (held : Option Names) (wanted : Wanted) (P : Command → List (List ℕ) → Type 0) → AsksFor asked held P → IsMissing asked held wanted → ⊥
there None held wanted P asks missing = asks
there (Some command) held wanted P asks missing = there-all held command wanted (P command) asks missing

-- the words are a command
some : (asked : Option Command) (held : Option Names) (P : Command → List (List ℕ) → Type 0) → AsksFor asked held P → asked ≡ None → ⊥
some None held P asks none = asks
some (Some command) held P asks none = cc

-- what files that are held have
held-contents : (held : Option Names) (names : List (List ℕ)) (P : List (List ℕ) → Type 0) → AreHeld held names P → (contents : List (List ℕ)) × P contents
held-contents held [] P asks = ([], asks)
held-contents None (name ∷ names) P asks = absurd asks
held-contents (Some known) (name ∷ names) P asks = let all = held-contents (Some known) names (λ contents. P (asks.0 ∷ contents)) asks.2 in (asks.0 ∷ all.0, all.1)

-- the words are a command whose files are held
held-bytes : (asked : Option Command) (held : Option Names) (P : Command → List (List ℕ) → Type 0) → AsksFor asked held P → (command : Command) × (contents : List (List ℕ)) × P command contents
held-bytes None held P asks = absurd asks
held-bytes (Some command) held P asks = let all = held-contents held (files_of command) (P command) asks in (command, all.0, all.1)

-- the text of a run is of one that halts
halts : (text_of : PlainBoard → List ℕ) (bytes text : List ℕ) → IsRunText text_of bytes text → Halts bytes
halts text_of bytes text is = record { board = is.board; file = is.file; halted = is.halted }

-- where a text was written there was one to write
has-text : (command : Command) (contents : List (List ℕ)) (text : List ℕ) → IsText command contents text → HasText command contents
has-text (Command.Trace file) contents text is = inl (tt, halts _ (board_in contents) text is)
has-text (Command.Run file) contents text is = inl (tt, halts _ (board_in contents) text is)
has-text (Command.Show file) contents text is = inr (inl (tt, (is.board, is.file)))
has-text (Command.Replay trace file) contents text is = inr (inr (tt, is.traced))
has-text (Command.Live turns file) contents text is = absurd is
has-text (Command.Sweep from count file) contents text is = absurd is
has-text (Command.Gen seed) contents text is = absurd is
has-text (Command.Soak seed) contents text is = absurd is
has-text (Command.Cycle alarm times file) contents text is = absurd is
has-text (Command.Usage file) contents text is = absurd is

found : (asked : Option Command) (held : Option Names) (old new : Option (List ℕ)) (P : Command → List (List ℕ) → Type 0) (e : Ending) → IsCaused asked held old new e → AsksFor asked held P
    → (command : Command) × (contents : List (List ℕ)) × P command contents × Found e command contents
found asked held old new P Done caused asks = let all = together asked held P (HasWritten old new) asks (caused.done refl) in (all.0, all.1, all.2, has-text all.0 all.1 _ all.3.1)
found asked held old new P Unwritable caused asks = let all = together asked held P (HasBegun old new) asks (caused.begun refl) in (all.0, all.1, all.2, has-text all.0 all.1 _ all.3.2)
found asked held old new P Usage caused asks = absurd (some asked held P asks (caused.usage refl))
found asked held old new P (Missing wanted) caused asks = absurd (there asked held wanted P asks (caused.absent wanted refl))
found asked held old new P Unreadable caused asks = absurd (caused.readable refl)
found asked held old new P TooLong caused asks = together asked held P (λ command contents. IsTooLong (board_in contents)) asks caused.cause
found asked held old new P (BadLine line why) caused asks = together asked held P (λ command contents. HasBadLine (board_in contents) line why) asks caused.cause
found asked held old new P NotBuilt caused asks = together asked held P IsUnbuiltRun asks caused.cause
found asked held old new P (Limited entries lines) caused asks = together asked held P (λ command contents. IsOverRun command contents entries lines) asks caused.cause
found asked held old new P TraceTooLong caused asks = together asked held P IsLongReplay asks caused.cause
found asked held old new P (TraceLine line) caused asks = together asked held P (λ command contents. IsUnlikeReplay command contents line) asks caused.cause
found asked held old new P Memory caused asks = let all = held-bytes asked held P asks in (all.0, all.1, all.2, tt)

-- ---- no file is two of these

-- a refused file is no board's
no-board : TextLaws → (bytes : List ℕ) (b : PlainBoard) → IsRefused bytes → IsBoardFile bytes b → ⊥
no-board laws bytes b (inl long) file = omega (arith, file.size)
no-board laws bytes b (inr bad) file = let none : first_bad bytes ≡ None = laws.good bytes b file.board in let first = bad.2.first in cc

-- a built board isn't unbuilt
both-built : TextLaws → (bytes : List ℕ) (a : PlainBoard) → IsBuiltFile bytes a → IsUnbuilt bytes → ⊥
both-built laws bytes a file unbuilt =
    let same : a ≡ unbuilt.board = laws.one bytes a unbuilt.board file.file.board unbuilt.file.board in
    let built : is_built unbuilt.board ≡ true = subst (λ (b : PlainBoard). is_built b ≡ true) same file.built in
    let not_built : is_built unbuilt.board ≡ false = unbuilt.unbuilt in
    cc

-- a run that halts meets no limit before
no-limit : TextLaws → (bytes : List ℕ) (entries lines : ℕ) → Halts bytes → IsOver bytes entries lines → ⊥
no-limit laws bytes entries lines halts over =
    let one = laws.one bytes halts.board over.board halts.file.file.board over.file.file.board in
    let same : IsSome (run_of over.board).halt = subst (λ board. IsSome (run_of board).halt) one halts.halted in
    let none : IsSome {T = Halt} None = subst IsSome over.limited.going same in
    cc

-- a trace that is no trace of the board isn't one of it
not-good : TextLaws → (trace bytes : List ℕ) → IsNoTrace trace bytes → IsTraceFile trace bytes → ⊥
not-good laws trace bytes bad traced =
    let same : traced.board ≡ bad.board = laws.one bytes traced.board bad.board traced.file.file.board bad.file.file.board in
    by_cause bad.bad (subst (λ (b : PlainBoard). IsGood b trace) same traced.good) where
      by_cause : (268435456 < length trace) ⊎ (IsGood bad.board trace → ⊥) → IsGood bad.board trace → ⊥
      by_cause (inl long) good = omega (arith, long, traced.size)
      by_cause (inr never) good = never good

-- a trace that is too long, or unlike, is no trace of the board
long-bad : (trace bytes : List ℕ) → IsLongTrace trace bytes → IsNoTrace trace bytes
long-bad trace bytes is = record { board = is.board; file = is.file; bad = inl is.long }

unlike-bad : (trace bytes : List ℕ) (line : ℕ) → IsUnlikeTrace trace bytes line → IsNoTrace trace bytes
unlike-bad trace bytes line is = record { board = is.board; file = is.file; bad = inr is.unlike.bad }

-- a command does one of these
show-scheduled : (command : Command) → IsScheduled command → IsShow command → ⊥
show-scheduled (Command.Trace file) one other = other
show-scheduled (Command.Run file) one other = other
show-scheduled (Command.Show file) one other = one
show-scheduled (Command.Live turns file) one other = one
show-scheduled (Command.Replay trace file) one other = one
show-scheduled (Command.Sweep from count file) one other = one
show-scheduled (Command.Gen seed) one other = one
show-scheduled (Command.Soak seed) one other = one
show-scheduled (Command.Cycle alarm times file) one other = one
show-scheduled (Command.Usage file) one other = one

replay-scheduled : (command : Command) → IsScheduled command → IsReplay command → ⊥
replay-scheduled (Command.Trace file) one other = other
replay-scheduled (Command.Run file) one other = other
replay-scheduled (Command.Show file) one other = one
replay-scheduled (Command.Live turns file) one other = one
replay-scheduled (Command.Replay trace file) one other = one
replay-scheduled (Command.Sweep from count file) one other = one
replay-scheduled (Command.Gen seed) one other = one
replay-scheduled (Command.Soak seed) one other = one
replay-scheduled (Command.Cycle alarm times file) one other = one
replay-scheduled (Command.Usage file) one other = one

show-replay : (command : Command) → IsReplay command → IsShow command → ⊥
show-replay (Command.Trace file) one other = one
show-replay (Command.Run file) one other = one
show-replay (Command.Show file) one other = one
show-replay (Command.Live turns file) one other = one
show-replay (Command.Replay trace file) one other = other
show-replay (Command.Sweep from count file) one other = one
show-replay (Command.Gen seed) one other = one
show-replay (Command.Soak seed) one other = one
show-replay (Command.Cycle alarm times file) one other = one
show-replay (Command.Usage file) one other = one

show-run : (command : Command) → IsRun command → IsShow command → ⊥
show-run command (inl one) other = show-scheduled command one other
show-run command (inr one) other = show-replay command one other

-- files that have a text have a board
board-of : (command : Command) (contents : List (List ℕ)) → HasText command contents → (b : PlainBoard) × IsBoardFile (board_in contents) b
board-of command contents (inl run) = (run.1.board, run.1.file.file)
board-of command contents (inr (inl shown)) = shown.1
board-of command contents (inr (inr replayed)) = (replayed.1.board, replayed.1.file.file)

-- so it isn't refused
not-refused : TextLaws → (command : Command) (contents : List (List ℕ)) → IsRefused (board_in contents) → HasText command contents → ⊥
not-refused laws command contents is has = let b = board-of command contents has in no-board laws (board_in contents) b.0 is b.1

-- nor is it unbuilt
not-unbuilt : TextLaws → (command : Command) (contents : List (List ℕ)) → IsUnbuiltRun command contents → HasText command contents → ⊥
not-unbuilt laws command contents is (inl run) = both-built laws (board_in contents) _ run.1.file is.1
not-unbuilt laws command contents is (inr (inl shown)) = show-run command is.0 shown.0
not-unbuilt laws command contents is (inr (inr replayed)) = both-built laws (board_in contents) _ replayed.1.file is.1

-- nor over a limit
not-over : TextLaws → (command : Command) (contents : List (List ℕ)) (entries lines : ℕ) → IsOverRun command contents entries lines → HasText command contents → ⊥
not-over laws command contents entries lines is (inl run) = no-limit laws (board_in contents) entries lines run.1 is.1
not-over laws command contents entries lines is (inr (inl shown)) = show-scheduled command is.0 shown.0
not-over laws command contents entries lines is (inr (inr replayed)) = replay-scheduled command is.0 replayed.0

-- nor is its trace none of the board
not-bad : TextLaws → (command : Command) (contents : List (List ℕ)) → IsBadReplay command contents → HasText command contents → ⊥
not-bad laws command contents is (inl run) = replay-scheduled command run.0 is.0
not-bad laws command contents is (inr (inl shown)) = show-replay command is.0 shown.0
not-bad laws command contents is (inr (inr replayed)) = not-good laws (trace_in contents) (board_in contents) is.1 replayed.1

-- ---- the status of each cause

refused-found : TextLaws → (e : Ending) (command : Command) (contents : List (List ℕ)) → IsRefused (board_in contents) → Found e command contents → (status_of e ≡ 6) ⊎ (status_of e ≡ 9)
refused-found laws Done command contents is found = absurd (not-refused laws command contents is found)
refused-found laws Unwritable command contents is found = absurd (not-refused laws command contents is found)
refused-found laws TooLong command contents is found = inl refl
refused-found laws (BadLine line why) command contents is found = inl refl
refused-found laws NotBuilt command contents is found = absurd (no-board laws (board_in contents) _ is found.1.file)
refused-found laws (Limited entries lines) command contents is found = absurd (no-board laws (board_in contents) _ is found.1.file.file)
refused-found laws TraceTooLong command contents is found = absurd (no-board laws (board_in contents) _ is found.1.file.file)
refused-found laws (TraceLine line) command contents is found = absurd (no-board laws (board_in contents) _ is found.1.file.file)
refused-found laws Memory command contents is found = inr refl
refused-found laws Usage command contents is found = absurd found
refused-found laws (Missing wanted) command contents is found = absurd found
refused-found laws Unreadable command contents is found = absurd found

unbuilt-found : TextLaws → (e : Ending) (command : Command) (contents : List (List ℕ)) → IsUnbuiltRun command contents → Found e command contents → (status_of e ≡ 10) ⊎ (status_of e ≡ 9)
unbuilt-found laws Done command contents is found = absurd (not-unbuilt laws command contents is found)
unbuilt-found laws Unwritable command contents is found = absurd (not-unbuilt laws command contents is found)
unbuilt-found laws TooLong command contents is found = absurd (no-board laws (board_in contents) _ (inl found) is.1.file)
unbuilt-found laws (BadLine line why) command contents is found = absurd (no-board laws (board_in contents) _ (inr (line, why, found)) is.1.file)
unbuilt-found laws NotBuilt command contents is found = inl refl
unbuilt-found laws (Limited entries lines) command contents is found = absurd (both-built laws (board_in contents) _ found.1.file is.1)
unbuilt-found laws TraceTooLong command contents is found = absurd (both-built laws (board_in contents) _ found.1.file is.1)
unbuilt-found laws (TraceLine line) command contents is found = absurd (both-built laws (board_in contents) _ found.1.file is.1)
unbuilt-found laws Memory command contents is found = inr refl
unbuilt-found laws Usage command contents is found = absurd found
unbuilt-found laws (Missing wanted) command contents is found = absurd found
unbuilt-found laws Unreadable command contents is found = absurd found

limited-found : TextLaws → (e : Ending) (command : Command) (contents : List (List ℕ)) → Stops command contents → Found e command contents → (status_of e ≡ 7) ⊎ (status_of e ≡ 9)
limited-found laws Done command contents is found = absurd (not-over laws command contents _ _ (is.0, is.1.2) found)
limited-found laws Unwritable command contents is found = absurd (not-over laws command contents _ _ (is.0, is.1.2) found)
limited-found laws TooLong command contents is found = absurd (no-board laws (board_in contents) _ (inl found) is.1.2.file.file)
limited-found laws (BadLine line why) command contents is found = absurd (no-board laws (board_in contents) _ (inr (line, why, found)) is.1.2.file.file)
limited-found laws NotBuilt command contents is found = absurd (both-built laws (board_in contents) _ is.1.2.file found.1)
limited-found laws (Limited entries lines) command contents is found = inl refl
limited-found laws TraceTooLong command contents is found = absurd (replay-scheduled command is.0 found.0)
limited-found laws (TraceLine line) command contents is found = absurd (replay-scheduled command is.0 found.0)
limited-found laws Memory command contents is found = inr refl
limited-found laws Usage command contents is found = absurd found
limited-found laws (Missing wanted) command contents is found = absurd found
limited-found laws Unreadable command contents is found = absurd found

unlike-found : TextLaws → (e : Ending) (command : Command) (contents : List (List ℕ)) → IsBadReplay command contents → Found e command contents → (status_of e ≡ 8) ⊎ (status_of e ≡ 9)
unlike-found laws Done command contents is found = absurd (not-bad laws command contents is found)
unlike-found laws Unwritable command contents is found = absurd (not-bad laws command contents is found)
unlike-found laws TooLong command contents is found = absurd (no-board laws (board_in contents) _ (inl found) is.1.file.file)
unlike-found laws (BadLine line why) command contents is found = absurd (no-board laws (board_in contents) _ (inr (line, why, found)) is.1.file.file)
unlike-found laws NotBuilt command contents is found = absurd (both-built laws (board_in contents) _ is.1.file found.1)
unlike-found laws (Limited entries lines) command contents is found = absurd (replay-scheduled command found.0 is.0)
unlike-found laws TraceTooLong command contents is found = inl refl
unlike-found laws (TraceLine line) command contents is found = inl refl
unlike-found laws Memory command contents is found = inr refl
unlike-found laws Usage command contents is found = absurd found
unlike-found laws (Missing wanted) command contents is found = absurd found
unlike-found laws Unreadable command contents is found = absurd found

done-found : TextLaws → (e : Ending) (command : Command) (contents : List (List ℕ)) → (e ≡ Unwritable → ⊥) → HasText command contents → Found e command contents → (status_of e ≡ 0) ⊎ (status_of e ≡ 9)
done-found laws Done command contents writable is found = inl refl
done-found laws Unwritable command contents writable is found = absurd (writable refl)
done-found laws TooLong command contents writable is found = absurd (not-refused laws command contents (inl found) is)
done-found laws (BadLine line why) command contents writable is found = absurd (not-refused laws command contents (inr (line, why, found)) is)
done-found laws NotBuilt command contents writable is found = absurd (not-unbuilt laws command contents found is)
done-found laws (Limited entries lines) command contents writable is found = absurd (not-over laws command contents _ _ found is)
done-found laws TraceTooLong command contents writable is found = absurd (not-bad laws command contents (found.0, long-bad (trace_in contents) (board_in contents) found.1) is)
done-found laws (TraceLine line) command contents writable is found = absurd (not-bad laws command contents (found.0, unlike-bad (trace_in contents) (board_in contents) line found.1) is)
done-found laws Memory command contents writable is found = inr refl
done-found laws Usage command contents writable is found = absurd found
done-found laws (Missing wanted) command contents writable is found = absurd found
done-found laws Unreadable command contents writable is found = absurd found

pub refused-comes : TextLaws → (asked : Option Command) (held : Option Names) (old new : Option (List ℕ)) (e : Ending) → IsCaused asked held old new e → AsksFor asked held (λ command contents. IsRefused (board_in contents)) → (status_of e ≡ 6) ⊎ (status_of e ≡ 9)
refused-comes laws asked held old new e caused asks = let all = found asked held old new (λ command contents. IsRefused (board_in contents)) e caused asks in refused-found laws e all.0 all.1 all.2 all.3

pub unbuilt-comes : TextLaws → (asked : Option Command) (held : Option Names) (old new : Option (List ℕ)) (e : Ending) → IsCaused asked held old new e → AsksFor asked held IsUnbuiltRun → (status_of e ≡ 10) ⊎ (status_of e ≡ 9)
unbuilt-comes laws asked held old new e caused asks = let all = found asked held old new IsUnbuiltRun e caused asks in unbuilt-found laws e all.0 all.1 all.2 all.3

pub limited-comes : TextLaws → (asked : Option Command) (held : Option Names) (old new : Option (List ℕ)) (e : Ending) → IsCaused asked held old new e → AsksFor asked held Stops → (status_of e ≡ 7) ⊎ (status_of e ≡ 9)
limited-comes laws asked held old new e caused asks = let all = found asked held old new Stops e caused asks in limited-found laws e all.0 all.1 all.2 all.3

pub unlike-comes : TextLaws → (asked : Option Command) (held : Option Names) (old new : Option (List ℕ)) (e : Ending) → IsCaused asked held old new e → AsksFor asked held IsBadReplay → (status_of e ≡ 8) ⊎ (status_of e ≡ 9)
unlike-comes laws asked held old new e caused asks = let all = found asked held old new IsBadReplay e caused asks in unlike-found laws e all.0 all.1 all.2 all.3

pub done-comes : TextLaws → (asked : Option Command) (held : Option Names) (old new : Option (List ℕ)) (e : Ending) → IsCaused asked held old new e → (e ≡ Unwritable → ⊥) → AsksFor asked held HasText → (status_of e ≡ 0) ⊎ (status_of e ≡ 9)
done-comes laws asked held old new e caused writable asks = let all = found asked held old new HasText e caused asks in done-found laws e all.0 all.1 writable all.2 all.3

-- ---- a file that isn't there

lacked : (held : Option Names) (name : List ℕ) (P : List ℕ → Type 0) → IsLacked held name → IfHeld held name P → ⊥
lacked None name P lacks fact = lacks
lacked (Some names) name P lacks fact = let is = fact.1 in cc

lacked-all : (held : Option Names) (names : List (List ℕ)) (P : List (List ℕ) → Type 0) → IsOneLacked held names → IfAllHeld held names P → ⊥
lacked-all held [] P lacks fact = lacks
lacked-all held (name ∷ names) P (inl lacks) fact = lacked held name _ lacks fact
lacked-all None (name ∷ names) P (inr lacks) fact = never names lacks where
  never : (names : List (List ℕ)) → IsOneLacked None names → ⊥
  never [] l = l
  never (name ∷ names) (inl l) = l
  never (name ∷ names) (inr l) = never names l
lacked-all (Some known) (name ∷ names) P (inr lacks) fact = lacked-all (Some known) names _ lacks fact.2

lacks-one : (asked : Option Command) (held : Option Names) (P : Command → List (List ℕ) → Type 0) → LacksOne asked held → IfAsked asked held P → ⊥
lacks-one None held P lacks fact = lacks
lacks-one (Some command) held P lacks fact = lacked-all held (files_of command) (P command) lacks fact

lacks-some : (asked : Option Command) (held : Option Names) → LacksOne asked held → asked ≡ None → ⊥
lacks-some None held lacks none = lacks
lacks-some (Some command) held lacks none = cc

pub absent-comes : (asked : Option Command) (held : Option Names) (old new : Option (List ℕ)) (e : Ending) → IsCaused asked held old new e → LacksOne asked held → (status_of e ≡ 3) ⊎ (status_of e ≡ 9)
absent-comes asked held old new (Missing wanted) caused lacks = inl refl
absent-comes asked held old new Memory caused lacks = inr refl
absent-comes asked held old new Done caused lacks = absurd (lacks-one asked held _ lacks (caused.done refl))
absent-comes asked held old new Unwritable caused lacks = absurd (lacks-one asked held _ lacks (caused.begun refl))
absent-comes asked held old new Usage caused lacks = absurd (lacks-some asked held lacks (caused.usage refl))
absent-comes asked held old new Unreadable caused lacks = absurd (caused.readable refl)
absent-comes asked held old new TooLong caused lacks = absurd (lacks-one asked held _ lacks caused.cause)
absent-comes asked held old new (BadLine line why) caused lacks = absurd (lacks-one asked held _ lacks caused.cause)
absent-comes asked held old new NotBuilt caused lacks = absurd (lacks-one asked held _ lacks caused.cause)
absent-comes asked held old new (Limited entries lines) caused lacks = absurd (lacks-one asked held _ lacks caused.cause)
absent-comes asked held old new TraceTooLong caused lacks = absurd (lacks-one asked held _ lacks caused.cause)
absent-comes asked held old new (TraceLine line) caused lacks = absurd (lacks-one asked held _ lacks caused.cause)

first-one : (asked : Option Command) (held : Option Names) → LacksFirst asked held → LacksOne asked held
first-one None held lacks = lacks
first-one (Some command) held lacks = by_names (files_of command) lacks where
  by_names : (names : List (List ℕ)) → IsFirstLacked held names → IsOneLacked held names
  by_names [] l = l
  by_names (name ∷ names) l = inl l

first-found : (asked : Option Command) (held : Option Names) → LacksFirst asked held → FindsFirst asked held → ⊥
first-found None held lacks finds = lacks
first-found (Some command) held lacks finds = by_names (files_of command) lacks finds where
  by_names : (names : List (List ℕ)) → IsFirstLacked held names → IfFirstHeld held names → ⊥
  by_names [] l f = l
  by_names (name ∷ names) l f = lacked held name _ l f

pub first-absent-comes : (asked : Option Command) (held : Option Names) (old new : Option (List ℕ)) (e : Ending) → IsCaused asked held old new e → LacksFirst asked held → status_of e ≡ 3
first-absent-comes asked held old new e caused lacks = by_status (absent-comes asked held old new e caused (first-one asked held lacks)) where
  memory : (e : Ending) → status_of e ≡ 9 → e ≡ Memory
  memory Memory is = refl
  memory Done is = absurd (omega arith)
  memory Usage is = absurd (omega arith)
  memory (Missing wanted) is = absurd (omega arith)
  memory Unreadable is = absurd (omega arith)
  memory Unwritable is = absurd (omega arith)
  memory TooLong is = absurd (omega arith)
  memory (BadLine line why) is = absurd (omega arith)
  memory NotBuilt is = absurd (omega arith)
  memory (Limited entries lines) is = absurd (omega arith)
  memory TraceTooLong is = absurd (omega arith)
  memory (TraceLine line) is = absurd (omega arith)

  by_status : (status_of e ≡ 3) ⊎ (status_of e ≡ 9) → status_of e ≡ 3
  by_status (inl is) = is
  by_status (inr is) = absurd (first-found asked held lacks (caused.found (memory e is)))

-- ---- causes of the statuses

if-all : (held : Option Names) (names : List (List ℕ)) (P Q : List (List ℕ) → Type 0) → ((contents : List (List ℕ)) → P contents → Q contents) → IfAllHeld held names P → IfAllHeld held names Q
if-all held [] P Q more fact = more [] fact
if-all None (name ∷ names) P Q more fact = tt
if-all (Some known) (name ∷ names) P Q more fact = (fact.0, fact.1, if-all (Some known) names _ _ (λ contents is. more (fact.0 ∷ contents) is) fact.2)

if-asked : (asked : Option Command) (held : Option Names) (P Q : Command → List (List ℕ) → Type 0) → ((command : Command) (contents : List (List ℕ)) → P command contents → Q command contents) → IfAsked asked held P → IfAsked asked held Q
if-asked None held P Q more fact = fact
if-asked (Some command) held P Q more fact = if-all held (files_of command) (P command) (Q command) (more command) fact

-- a cause of the file by its status
pub refused-by : (asked : Option Command) (held : Option Names) (e : Ending) → HasCause asked held e → status_of e ≡ 6 → IfAsked asked held (λ command contents. IsRefused (board_in contents))
refused-by asked held Done cause is = absurd (omega arith)
refused-by asked held Usage cause is = absurd (omega arith)
refused-by asked held (Missing wanted) cause is = absurd (omega arith)
refused-by asked held Unreadable cause is = absurd (omega arith)
refused-by asked held Unwritable cause is = absurd (omega arith)
refused-by asked held TooLong cause is = if-asked asked held _ _ (λ command contents is. inl is) cause
refused-by asked held (BadLine line why) cause is = if-asked asked held _ _ (λ command contents is. inr (line, why, is)) cause
refused-by asked held NotBuilt cause is = absurd (omega arith)
refused-by asked held (Limited entries lines) cause is = absurd (omega arith)
refused-by asked held TraceTooLong cause is = absurd (omega arith)
refused-by asked held (TraceLine line) cause is = absurd (omega arith)
refused-by asked held Memory cause is = absurd (omega arith)

-- a cause of the trace by its status
pub unlike-by : (asked : Option Command) (held : Option Names) (e : Ending) → HasCause asked held e → status_of e ≡ 8 → IfAsked asked held IsBadReplay
unlike-by asked held Done cause is = absurd (omega arith)
unlike-by asked held Usage cause is = absurd (omega arith)
unlike-by asked held (Missing wanted) cause is = absurd (omega arith)
unlike-by asked held Unreadable cause is = absurd (omega arith)
unlike-by asked held Unwritable cause is = absurd (omega arith)
unlike-by asked held TooLong cause is = absurd (omega arith)
unlike-by asked held (BadLine line why) cause is = absurd (omega arith)
unlike-by asked held NotBuilt cause is = absurd (omega arith)
unlike-by asked held (Limited entries lines) cause is = absurd (omega arith)
unlike-by asked held TraceTooLong cause is = if-asked asked held _ _ (λ command contents is. (is.0, long-bad (trace_in contents) (board_in contents) is.1)) cause
unlike-by asked held (TraceLine line) cause is = if-asked asked held _ _ (λ command contents is. (is.0, unlike-bad (trace_in contents) (board_in contents) line is.1)) cause
unlike-by asked held Memory cause is = absurd (omega arith)

-- the file that is missing, by its status
pub missing-by : (asked : Option Command) (held : Option Names) (e : Ending) → HasCause asked held e → status_of e ≡ 3 → (wanted : Wanted) × IsMissing asked held wanted
missing-by asked held (Missing wanted) cause is = (wanted, cause)
missing-by asked held Done cause is = absurd (omega arith)
missing-by asked held Usage cause is = absurd (omega arith)
missing-by asked held Unreadable cause is = absurd (omega arith)
missing-by asked held Unwritable cause is = absurd (omega arith)
missing-by asked held TooLong cause is = absurd (omega arith)
missing-by asked held (BadLine line why) cause is = absurd (omega arith)
missing-by asked held NotBuilt cause is = absurd (omega arith)
missing-by asked held (Limited entries lines) cause is = absurd (omega arith)
missing-by asked held TraceTooLong cause is = absurd (omega arith)
missing-by asked held (TraceLine line) cause is = absurd (omega arith)
missing-by asked held Memory cause is = absurd (omega arith)

-- the line of an ending, by the names of the files
pub names-same : (trace board : List ℕ) (file : Wanted → List ℕ) (e : Ending) → trace ≡ file Wanted.Trace → board ≡ file Wanted.Board → message (names trace board) e ≡ message file e
names-same trace board file (Missing Wanted.Board) one other = ap missing_line other
names-same trace board file (Missing Wanted.Trace) one other = ap missing_line one
names-same trace board file Done one other = refl
names-same trace board file Usage one other = refl
names-same trace board file Unreadable one other = refl
names-same trace board file Unwritable one other = refl
names-same trace board file TooLong one other = refl
names-same trace board file (BadLine line why) one other = refl
names-same trace board file NotBuilt one other = refl
names-same trace board file (Limited entries lines) one other = refl
names-same trace board file TraceTooLong one other = refl
names-same trace board file (TraceLine line) one other = refl
names-same trace board file Memory one other = refl

-- ---- what an ending tells, by its cause

-- what a command's ending tells, by each of them
pub record IsEndedBy (asked : Option Command) (held : Option Names) (missing missing' faults faults' : ℕ) (old new : Option (List ℕ)) (faults_out faults_out' : ℕ) (e : Ending) : Type 0 where
  pub known : e ≡ Usage → ⊥
  pub done : e ≡ Done → IfAsked asked held (HasWritten old new)
  pub missed : (wanted : Wanted) → e ≡ Missing wanted → Rose missing missing'
  pub absent : (wanted : Wanted) → e ≡ Missing wanted → IsMissing asked held wanted
  pub unreadable : e ≡ Unreadable → Rose faults faults'
  pub unwritable : e ≡ Unwritable → Rose faults_out faults_out'
  pub begun : e ≡ Unwritable → IfAsked asked held (HasBegun old new)
  pub cause : HasCause asked held e
  pub found : e ≡ Memory → FindsFirst asked held

module _ (command : Command) (held : Option Names) (missing missing' faults faults' : ℕ) (old new : Option (List ℕ)) (faults_out faults_out' : ℕ) where
  abbrev Ended : Ending → Type 0
  Ended e = HasEnded command held missing missing' faults faults' old new faults_out faults_out' e

  cause-of : (e : Ending) → Ended e → HasCause (Some command) held e
  cause-of Done h = tt
  cause-of Usage h = tt
  cause-of (Missing wanted) h = h.1
  cause-of Unreadable h = tt
  cause-of Unwritable h = tt
  cause-of TooLong h = h
  cause-of (BadLine line why) h = h
  cause-of NotBuilt h = h
  cause-of (Limited entries lines) h = h
  cause-of TraceTooLong h = h
  cause-of (TraceLine line) h = h
  cause-of Memory h = tt

  pub ended-by : (e : Ending) → Ended e → IsEndedBy (Some command) held missing missing' faults faults' old new faults_out faults_out' e
  ended-by e h = record {
    known = λ is. subst Ended is h;
    done = λ is. subst Ended is h;
    missed = λ wanted is. (subst Ended is h).0;
    absent = λ wanted is. (subst Ended is h).1;
    unreadable = λ is. subst Ended is h;
    unwritable = λ is. (subst Ended is h).0;
    begun = λ is. (subst Ended is h).1;
    cause = cause-of e h;
    found = λ is. subst Ended is h;
  }

  -- an ending before anything was written
  pub failed-ended : (e : Ending) → HasFailed command held missing missing' faults faults' e → Ended e
  failed-ended Done h = absurd h
  failed-ended Usage h = h
  failed-ended (Missing wanted) h = h
  failed-ended Unreadable h = h
  failed-ended Unwritable h = absurd h
  failed-ended TooLong h = h
  failed-ended (BadLine line why) h = h
  failed-ended NotBuilt h = h
  failed-ended (Limited entries lines) h = h
  failed-ended TraceTooLong h = h
  failed-ended (TraceLine line) h = h
  failed-ended Memory h = h

  -- a text that was put, whole or in front
  pub put-ended : (text : List ℕ) (e : Ending) → IfAllHeld held (files_of command) (λ contents. IsText command contents text) → (e ≡ Done) ⊎ (e ≡ Unwritable) → (e ≡ Done → HasGrown old new text) → (e ≡ Unwritable → Rose faults_out faults_out') → (e ≡ Unwritable → (n : ℕ) × HasGrown old new (take n text)) → Ended e
  put-ended text e is (inl done) grown rose begun =
      subst Ended (sym done) (if-all held (files_of command) _ (HasWritten old new command) (λ contents h. (text, h, grown done)) is)
  put-ended text e is (inr unwritable) grown rose begun =
      let front = begun unwritable in
      subst Ended (sym unwritable) (rose unwritable, if-all held (files_of command) _ (HasBegun old new command) (λ contents h. (text, front.0, h, front.1)) is)

-- ---- answers

pub if-err_more : {T E : Type 0} (r : Result T E) (P Q : E → Type 0) → ((e : E) → P e → Q e) → IfErr r P → IfErr r Q
if-err_more (Ok x) P Q more h = tt
if-err_more (Err e) P Q more h = more e h

-- what holds of the ending that comes back holds of the answer
pub refused : {T : Type 0} (P : Ending → Type 0) (r : Result T Ending) (e : Ending) → IsErr r × IsErrAnd r (λ x. x ≡ e) → P e → IfErr r P
refused P (Ok x) e is h = absurd is.1
refused P (Err f) e is h = subst P (sym is.1) h

-- ---- files that were read

pub told-none : {V : Type 0} (held : Option Names) (name : List ℕ) (f : V → List ℕ) (o : Option V) → IsTraceRead held name (option_map f o) → o ≡ None → IsTraceRead held name None
told-none held name f None read is = read
told-none held name f (Some v) read is = absurd cc

pub told-some : {V : Type 0} (held : Option Names) (name : List ℕ) (f : V → List ℕ) (o : Option V) (v : V) → IsTraceRead held name (option_map f o) → o ≡ Some v → IsTraceRead held name (Some (f v))
told-some held name f None v read is = absurd cc
told-some held name f (Some u) v read is = let same : u ≡ v = cc in subst (λ x. IsTraceRead held name (Some (f x))) same read

rose-before : (old mid new : ℕ) → old ≤ mid → Rose mid new → Rose old new
rose-before old mid new le rose = omega (arith, le, rose)

rose-later : (old mid new : ℕ) → mid ≤ new → Rose old mid → Rose old new
rose-later old mid new le rose = omega (arith, le, rose)

held-more : (held : Option Names) (name : List ℕ) (P Q : List ℕ → Type 0) → ((bytes : List ℕ) → P bytes → Q bytes) → IfHeld held name P → IfHeld held name Q
held-more None name P Q more fact = tt
held-more (Some names) name P Q more fact = (fact.0, fact.1, more fact.0 fact.2)

-- a fault of reading the board's file, of a command of that file
pub board-failed : (output : Output) (held : Option Names) (file : List ℕ) (missing missing' faults faults' : ℕ) (e : Ending) → IsBoardFault held file missing missing' faults faults' e → HasFailed (written output file) held missing missing' faults faults' e
board-failed Output.Trace held file missing missing' faults faults' e h = one e h where
  one : (e : Ending) → IsBoardFault held file missing missing' faults faults' e → HasFailed (Command.Trace file) held missing missing' faults faults' e
  one (Missing Wanted.Board) h = h
  one (Missing Wanted.Trace) h = absurd h
  one Unreadable h = h
  one TooLong h = h
  one Memory h = h
  one Done h = absurd h
  one Usage h = absurd h
  one Unwritable h = absurd h
  one (BadLine line why) h = absurd h
  one NotBuilt h = absurd h
  one (Limited entries lines) h = absurd h
  one TraceTooLong h = absurd h
  one (TraceLine line) h = absurd h
board-failed Output.Console held file missing missing' faults faults' e h = one e h where
  one : (e : Ending) → IsBoardFault held file missing missing' faults faults' e → HasFailed (Command.Run file) held missing missing' faults faults' e
  one (Missing Wanted.Board) h = h
  one (Missing Wanted.Trace) h = absurd h
  one Unreadable h = h
  one TooLong h = h
  one Memory h = h
  one Done h = absurd h
  one Usage h = absurd h
  one Unwritable h = absurd h
  one (BadLine line why) h = absurd h
  one NotBuilt h = absurd h
  one (Limited entries lines) h = absurd h
  one TraceTooLong h = absurd h
  one (TraceLine line) h = absurd h
board-failed Output.Board held file missing missing' faults faults' e h = one e h where
  one : (e : Ending) → IsBoardFault held file missing missing' faults faults' e → HasFailed (Command.Show file) held missing missing' faults faults' e
  one (Missing Wanted.Board) h = h
  one (Missing Wanted.Trace) h = absurd h
  one Unreadable h = h
  one TooLong h = h
  one Memory h = h
  one Done h = absurd h
  one Usage h = absurd h
  one Unwritable h = absurd h
  one (BadLine line why) h = absurd h
  one NotBuilt h = absurd h
  one (Limited entries lines) h = absurd h
  one TraceTooLong h = absurd h
  one (TraceLine line) h = absurd h

-- a text of one file
pub one-text : (output : Output) (held : Option Names) (file bytes text : List ℕ) → IfHeld held file (λ there. there ≡ bytes) → IsText (written output file) (bytes ∷ []) text → IfAllHeld held (file ∷ []) (λ contents. IsText (written output file) contents text)
one-text output held file bytes text whole is = held-more held file _ _ (λ there same. subst (λ (x : List ℕ). IsText (written output file) (x ∷ []) text) (sym same) is) whole

-- a cause of one file
pub one-cause : (output : Output) (held : Option Names) (file bytes : List ℕ) (missing missing' faults faults' : ℕ) (e : Ending) → IfHeld held file (λ there. there ≡ bytes) → IsCauseOf (written output file) (bytes ∷ []) e → HasFailed (written output file) held missing missing' faults faults' e
one-cause Output.Trace held file bytes missing missing' faults faults' e whole h = one e h where
  put : (P : List (List ℕ) → Type 0) → P (bytes ∷ []) → IfAllHeld held (file ∷ []) P
  put P is = held-more held file _ _ (λ there same. subst (λ (x : List ℕ). P (x ∷ [])) (sym same) is) whole

  one : (e : Ending) → IsCauseOf (Command.Trace file) (bytes ∷ []) e → HasFailed (Command.Trace file) held missing missing' faults faults' e
  one Done h = absurd h
  one Usage h = absurd h
  one (Missing wanted) h = absurd h
  one Unreadable h = absurd h
  one Unwritable h = absurd h
  one TooLong h = absurd h
  one (BadLine line why) h = put (λ contents. HasBadLine (board_in contents) line why) h
  one NotBuilt h = put (IsUnbuiltRun (Command.Trace file)) h
  one (Limited entries lines) h = put (λ contents. IsOverRun (Command.Trace file) contents entries lines) h
  one TraceTooLong h = absurd h
  one (TraceLine line) h = absurd h
  one Memory h = held-more held file _ _ (λ there same. tt) whole
one-cause Output.Console held file bytes missing missing' faults faults' e whole h = one e h where
  put : (P : List (List ℕ) → Type 0) → P (bytes ∷ []) → IfAllHeld held (file ∷ []) P
  put P is = held-more held file _ _ (λ there same. subst (λ (x : List ℕ). P (x ∷ [])) (sym same) is) whole

  one : (e : Ending) → IsCauseOf (Command.Run file) (bytes ∷ []) e → HasFailed (Command.Run file) held missing missing' faults faults' e
  one Done h = absurd h
  one Usage h = absurd h
  one (Missing wanted) h = absurd h
  one Unreadable h = absurd h
  one Unwritable h = absurd h
  one TooLong h = absurd h
  one (BadLine line why) h = put (λ contents. HasBadLine (board_in contents) line why) h
  one NotBuilt h = put (IsUnbuiltRun (Command.Run file)) h
  one (Limited entries lines) h = put (λ contents. IsOverRun (Command.Run file) contents entries lines) h
  one TraceTooLong h = absurd h
  one (TraceLine line) h = absurd h
  one Memory h = held-more held file _ _ (λ there same. tt) whole
one-cause Output.Board held file bytes missing missing' faults faults' e whole h = one e h where
  put : (P : List (List ℕ) → Type 0) → P (bytes ∷ []) → IfAllHeld held (file ∷ []) P
  put P is = held-more held file _ _ (λ there same. subst (λ (x : List ℕ). P (x ∷ [])) (sym same) is) whole

  one : (e : Ending) → IsCauseOf (Command.Show file) (bytes ∷ []) e → HasFailed (Command.Show file) held missing missing' faults faults' e
  one Done h = absurd h
  one Usage h = absurd h
  one (Missing wanted) h = absurd h
  one Unreadable h = absurd h
  one Unwritable h = absurd h
  one TooLong h = absurd h
  one (BadLine line why) h = put (λ contents. HasBadLine (board_in contents) line why) h
  one NotBuilt h = put (IsUnbuiltRun (Command.Show file)) h
  one (Limited entries lines) h = put (λ contents. IsOverRun (Command.Show file) contents entries lines) h
  one TraceTooLong h = absurd h
  one (TraceLine line) h = absurd h
  one Memory h = held-more held file _ _ (λ there same. tt) whole

-- ---- a replay's files

module _ (held : Option Names) (trace file : List ℕ) (missing mid last faults fmid flast : ℕ) where
  abbrev replay : Command
  replay = Command.Replay trace file

  -- a fault of reading the trace's file
  pub trace-failed : (e : Ending) → IsTraceFault held trace missing last faults flast e → HasFailed replay held missing last faults flast e
  trace-failed (Missing Wanted.Trace) h = h
  trace-failed (Missing Wanted.Board) h = absurd h
  trace-failed Unreadable h = h
  trace-failed Memory h = h
  trace-failed Done h = h
  trace-failed Usage h = h
  trace-failed Unwritable h = h
  trace-failed TooLong h = absurd h
  trace-failed (BadLine line why) h = absurd h
  trace-failed NotBuilt h = absurd h
  trace-failed (Limited entries lines) h = absurd h
  trace-failed TraceTooLong h = absurd h
  trace-failed (TraceLine line) h = absurd h

  -- the trace was read, too long or not
  first-there : (told : Option (List ℕ)) → IsTraceRead held trace told → IfHeld held trace (λ bytes. Unit {0})
  first-there None read = held-more held trace _ _ (λ bytes long. tt) read
  first-there (Some text) read = held-more held trace _ _ (λ bytes same. tt) read.1

  -- both files, for what they hold
  both : (P : List (List ℕ) → Type 0) (Q R : List ℕ → Type 0) → IfHeld held trace Q → IfHeld held file R → ((one other : List ℕ) → Q one → R other → P (one ∷ other ∷ [])) → IfAllHeld held (trace ∷ file ∷ []) P
  both P Q R first second more = held-more held trace _ _ (λ one q. held-more held file _ _ (λ other r. more one other q r) second) first

  -- a fault of reading the board's file behind it
  pub second-failed : (told : Option (List ℕ)) (e : Ending) → IsTraceRead held trace told → missing ≤ mid → faults ≤ fmid → IsBoardFault held file mid last fmid flast e → HasFailed replay held missing last faults flast e
  second-failed told (Missing Wanted.Board) read le fle h = (rose-before missing mid last le h.0, h.1)
  second-failed told (Missing Wanted.Trace) read le fle h = absurd h
  second-failed told Unreadable read le fle h = rose-before faults fmid flast fle h
  second-failed told TooLong read le fle h = both (λ (contents : List (List ℕ)). IsTooLong (board_in contents)) (λ (bytes : List ℕ). Unit {0}) IsTooLong (first-there told read) h (λ one other q r. r)
  second-failed told Memory read le fle h = first-there told read
  second-failed told Done read le fle h = h
  second-failed told Usage read le fle h = h
  second-failed told Unwritable read le fle h = h
  second-failed told (BadLine line why) read le fle h = absurd h
  second-failed told NotBuilt read le fle h = absurd h
  second-failed told (Limited entries lines) read le fle h = absurd h
  second-failed told TraceTooLong read le fle h = absurd h
  second-failed told (TraceLine line) read le fle h = absurd h

  -- the board can't be run
  pub unready-failed : (told : Option (List ℕ)) (bytes : List ℕ) (e : Ending) → IsTraceRead held trace told → IfHeld held file (λ there. there ≡ bytes) → IsUnready bytes e → HasFailed replay held missing last faults flast e
  unready-failed told bytes (BadLine line why) read whole h = both (λ (contents : List (List ℕ)). HasBadLine (board_in contents) line why) (λ (bytes : List ℕ). Unit {0}) (λ (there : List ℕ). there ≡ bytes) (first-there told read) whole (λ one other q same. subst (λ (x : List ℕ). HasBadLine x line why) (sym same) h)
  unready-failed told bytes NotBuilt read whole h = both (IsUnbuiltRun replay) (λ (bytes : List ℕ). Unit {0}) (λ (there : List ℕ). there ≡ bytes) (first-there told read) whole (λ one other q same. (inr tt, subst IsUnbuilt (sym same) h))
  unready-failed told bytes Memory read whole h = first-there told read
  unready-failed told bytes Done read whole h = h
  unready-failed told bytes Usage read whole h = h
  unready-failed told bytes (Missing wanted) read whole h = absurd h
  unready-failed told bytes Unreadable read whole h = absurd h
  unready-failed told bytes Unwritable read whole h = h
  unready-failed told bytes TooLong read whole h = absurd h
  unready-failed told bytes (Limited entries lines) read whole h = absurd h
  unready-failed told bytes TraceTooLong read whole h = absurd h
  unready-failed told bytes (TraceLine line) read whole h = absurd h

  -- the trace is too long
  pub long-failed : (bytes : List ℕ) (b : PlainBoard) → IsTraceRead held trace None → IfHeld held file (λ there. there ≡ bytes) → IsBuiltFile bytes b → HasFailed replay held missing last faults flast TraceTooLong
  long-failed bytes b read whole built = both (IsLongReplay replay) (λ (there : List ℕ). 268435456 < length there) (λ (there : List ℕ). there ≡ bytes) read whole (λ one other long same. (tt, record { board = b; file = subst (λ (x : List ℕ). IsBuiltFile x b) (sym same) built; long = long }))

  -- the trace is unlike
  pub unlike-failed : (text bytes : List ℕ) (b : PlainBoard) (e : Ending) → IsTraceRead held trace (Some text) → IfHeld held file (λ there. there ≡ bytes) → IsBuiltFile bytes b → IsUnlikeOf b text e → HasFailed replay held missing last faults flast e
  unlike-failed text bytes b (TraceLine line) read whole built h = both (λ (contents : List (List ℕ)). IsUnlikeReplay replay contents line) (λ (there : List ℕ). there ≡ text) (λ (there : List ℕ). there ≡ bytes) read.1 whole (λ one other same also. (
    tt,
    record {
      board = b;
      file = subst (λ (x : List ℕ). IsBuiltFile x b) (sym also) built;
      size = subst (λ (x : List ℕ). length x ≤ 268435456) (sym same) read.0;
      unlike = subst (λ (x : List ℕ). IsUnlike b x line) (sym same) h;
    },
  ))
  unlike-failed text bytes b Memory read whole built h = first-there (Some text) read
  unlike-failed text bytes b Done read whole built h = h
  unlike-failed text bytes b Usage read whole built h = h
  unlike-failed text bytes b (Missing wanted) read whole built h = absurd h
  unlike-failed text bytes b Unreadable read whole built h = absurd h
  unlike-failed text bytes b Unwritable read whole built h = h
  unlike-failed text bytes b TooLong read whole built h = absurd h
  unlike-failed text bytes b (BadLine line why) read whole built h = absurd h
  unlike-failed text bytes b NotBuilt read whole built h = absurd h
  unlike-failed text bytes b (Limited entries lines) read whole built h = absurd h
  unlike-failed text bytes b TraceTooLong read whole built h = absurd h

  -- the trace is that of a run
  pub good-text : (text bytes : List ℕ) (b : PlainBoard) → IsTraceRead held trace (Some text) → IfHeld held file (λ there. there ≡ bytes) → IsBuiltFile bytes b → IsGood b text → IfAllHeld held (trace ∷ file ∷ []) (λ contents. IsText replay contents text)
  good-text text bytes b read whole built good = both (λ (contents : List (List ℕ)). IsText replay contents text) (λ (there : List ℕ). there ≡ text) (λ (there : List ℕ). there ≡ bytes) read.1 whole (λ one other same also. record {
    traced = record {
      board = b;
      file = subst (λ (x : List ℕ). IsBuiltFile x b) (sym also) built;
      size = subst (λ (x : List ℕ). length x ≤ 268435456) (sym same) read.0;
      good = subst (λ (x : List ℕ). IsGood b x) (sym same) good;
    };
    output = sym same;
  })
