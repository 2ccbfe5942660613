-- What a draft says so far.
use Rattle.rt_plain.specs.PlainBoard.{PlainBoard}
use Rattle.rt_plain.specs.text.BoardText.{SoFar}
use Rattle.board_text.specs.declared.draft.Draft.{Draft}

-- the board of a draft
abbrev pub board_of : Draft → PlainBoard
board_of d = record { cores = d.cores; levels = d.levels; tickless = d.tickless; tick0 = d.tick0; until = d.until; entries = d.entries; lpmax = d.lpmax; thresh = d.thresh; lp_h = d.lp_h; lp_q = d.lp_q; default_mode = d.default_mode; schedule = d.schedule; shell = d.shell; soft = d.soft; limits = d.limits; sems = d.sems; events = d.events; mutexes = d.mutexes; mailboxes = d.mailboxes; queues = d.queues; pools = d.pools; devices = d.devices; timers = d.timers; threads = d.threads; arrivals = d.arrivals }

-- what the lines so far said
abbrev pub so_far : Draft → SoFar
so_far d = record { rank = d.rank; limited = d.limited; board = board_of d }
