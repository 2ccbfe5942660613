-- The run of a board by its schedule, and how it ends.
use Rattle.std.specs.Prelude.{Option}
use Rattle.std.specs.Option.{option_map}
use Rattle.rt_plain.specs.PlainBoard.{PlainBoard}
use Rattle.rt_plain.specs.kernel.Shown.{shown}
use Rattle.rt_plain.specs.runs.Runs.{Course, is_over}
use Rattle.rt_plain.specs.runs.Schedules.{scheduled_course}
use Rattle.rt_plain.specs.text.Texts.{End}

-- the run by the board's schedule
abbrev pub run_of : PlainBoard → Course
run_of b = scheduled_course (is_over b) b

-- how a run ended, if it has halted
abbrev pub end_of : PlainBoard → Course → Option End
end_of b c = option_map (λ halt. record { halt = halt; tick = shown b c.state.moment }) c.halt
