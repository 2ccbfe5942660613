use Rattle.std.proofs.Common.{sym, ap}
use Rattle.rt_plain.specs.declared.board_line.BoardLine.{BoardLine}
use Rattle.rt_plain.specs.text.BoardText.{SoFar, added}
use Rattle.board_text.specs.declared.draft.Draft.{Draft}
use Rattle.board_text.specs.Drafts.{so_far, board_of}
use Rattle.board_text.proofs.draft.add_part.Goals as goal

-- what the lines so far said, with a part more
abbrev with_part : Draft → BoardLine → SoFar
with_part d l = record (so_far d) { board = added (board_of d) l }

pub returns-in-Version-clause-ok : goal.returns-in-Version-clause-ok
returns-in-Version-clause-ok c = ap (with_part c.args.draft.now) (sym c.in-Version.is)

pub returns-in-Cores-clause-ok : goal.returns-in-Cores-clause-ok
returns-in-Cores-clause-ok c = ap (with_part c.args.draft.now) (sym c.in-Cores.is)

pub returns-in-Levels-clause-ok : goal.returns-in-Levels-clause-ok
returns-in-Levels-clause-ok c = ap (with_part c.args.draft.now) (sym c.in-Levels.is)

pub returns-in-Tickless-clause-ok : goal.returns-in-Tickless-clause-ok
returns-in-Tickless-clause-ok c = ap (with_part c.args.draft.now) (sym c.in-Tickless.is)

pub returns-in-Tick0-clause-ok : goal.returns-in-Tick0-clause-ok
returns-in-Tick0-clause-ok c = ap (with_part c.args.draft.now) (sym c.in-Tick0.is)

pub returns-in-Until-clause-ok : goal.returns-in-Until-clause-ok
returns-in-Until-clause-ok c = ap (with_part c.args.draft.now) (sym c.in-Until.is)

pub returns-in-Entries-clause-ok : goal.returns-in-Entries-clause-ok
returns-in-Entries-clause-ok c = ap (with_part c.args.draft.now) (sym c.in-Entries.is)

pub returns-in-LpMax-clause-ok : goal.returns-in-LpMax-clause-ok
returns-in-LpMax-clause-ok c = ap (with_part c.args.draft.now) (sym c.in-LpMax.is)

pub returns-in-Thresh-clause-ok : goal.returns-in-Thresh-clause-ok
returns-in-Thresh-clause-ok c = ap (with_part c.args.draft.now) (sym c.in-Thresh.is)

pub returns-in-LpClock-clause-ok : goal.returns-in-LpClock-clause-ok
returns-in-LpClock-clause-ok c = ap (with_part c.args.draft.now) (sym c.in-LpClock.is)

pub returns-in-DefaultMode-clause-ok : goal.returns-in-DefaultMode-clause-ok
returns-in-DefaultMode-clause-ok c = ap (with_part c.args.draft.now) (sym c.in-DefaultMode.is)

pub returns-in-Schedule-clause-ok : goal.returns-in-Schedule-clause-ok
returns-in-Schedule-clause-ok c = ap (with_part c.args.draft.now) (sym c.in-Schedule.is)

pub returns-in-Shell-clause-ok : goal.returns-in-Shell-clause-ok
returns-in-Shell-clause-ok c = ap (with_part c.args.draft.now) (sym c.in-Shell.is)

pub returns-in-Soft-clause-ok : goal.returns-in-Soft-clause-ok
returns-in-Soft-clause-ok c = ap (with_part c.args.draft.now) (sym c.in-Soft.is)
