-- What a thread waits for.
use Rattle.rt_plain.specs.kernel.State.{Awaited, InCall, AtConsole, AtWorks}
use Rattle.kernel_tables.specs.declared.awaited.Awaited.{Awaited as OwnAwaited}

-- what a thread waits for
abbrev pub awaited_of : OwnAwaited → Awaited
awaited_of (OwnAwaited.Call call) = InCall call
awaited_of OwnAwaited.Console = AtConsole
awaited_of OwnAwaited.Works = AtWorks
