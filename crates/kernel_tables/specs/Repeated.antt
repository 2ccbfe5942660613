-- What woken threads make again.
use Rattle.std.specs.Prelude.{ℕ, Bool, true, false, Option, Some, None}
use Rattle.rt_plain.specs.declared.stmt.Call.{Call}
use Rattle.rt_plain.specs.kernel.State.{Stage, Waiting, Awaited, InCall, AtConsole, AtWorks, Retry}

-- whether a thread that is woken from this call makes it again: those at the ends of mailboxes and message queues
abbrev pub is_repeated_call : Call → Bool
is_repeated_call (Call.MbSend name word timeout) = true
is_repeated_call (Call.MbRecv name timeout) = true
is_repeated_call (Call.MqSend name timeout message) = true
is_repeated_call (Call.MqRecv name timeout) = true
is_repeated_call _ = false

-- whether a thread that is woken from this goes for it again: such a call, the bytes of the console, a work
abbrev pub is_repeated_wait : Awaited → Bool
is_repeated_wait (InCall call) = is_repeated_call call
is_repeated_wait AtConsole = true
is_repeated_wait AtWorks = true

-- whether a thread at this stage waits for such a thing
abbrev pub is_repeated : Stage → Bool
is_repeated (Waiting what number) = is_repeated_wait what
is_repeated _ = false

-- whether it is a call, and not the bytes of the console or a work
abbrev pub is_in_call : Awaited → Bool
is_in_call (InCall call) = true
is_in_call _ = false

-- whether a woken thread has a call to make again
abbrev pub has_call : Option Retry → Bool
has_call None = false
has_call (Some retry) = is_in_call retry.what
