-- The plain state that the kernel's state stands for. What isn't built yet is constant.
use Rattle.std.specs.Prelude.{[], None}
use Rattle.rt_plain.specs.kernel.State.{State}
use Rattle.rt_kernel.specs.declared.state.State.{State as KernelState}

-- the state
abbrev pub state_of : KernelState → State
state_of k = record {
  moment = k.armed.moment;
  numbers = k.numbers;
  threads = k.tables.threads;
  sems = k.tables.sems;
  events = k.tables.events;
  mutexes = k.tables.mutexes;
  holdings = k.tables.holdings;
  mailboxes = k.tables.mailboxes;
  queues = k.tables.queues;
  pools = k.pools;
  timers = k.armed.timers;
  devices = k.devices.devices;
  ready = k.tables.ready;
  running = k.cores.running;
  armed = k.armed.rows;
  works = [];
  votes = k.votes.votes;
  run_mode = k.run_mode;
  nest = k.cores.nest;
  shell_line = [];
  arrivals = k.devices.arrivals;
  halt = None;
}
