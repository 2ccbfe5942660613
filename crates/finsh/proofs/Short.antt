-- The words of a table's cells are short.
use Rattle.std.proofs.Common.{◌≤◌, Bool, true, false, length, arith}
use Rattle.std.specs.Fmt.{digits}
use Rattle.rt_base.specs.declared.codes.Code.{Code}
use Rattle.rt_base.specs.declared.codes.Sleep.{Sleep}
use Rattle.rt_plain.specs.declared.row.ThreadState.{ThreadState}
use Rattle.rt_plain.specs.text.Words.{code_text, sleep_text}
use Rattle.rt_plain.specs.kernel.Tables.{state_text, kind_text}
use Rattle.finsh.specs.Cells.{device_text}

pub state : (s : ThreadState) → length (state_text s) ≤ 7
state ThreadState.Initial = omega arith
state ThreadState.Ready = omega arith
state ThreadState.Running = omega arith
state ThreadState.Suspended = omega arith

pub code : (code : Code) → length (code_text code) ≤ 3
unfolding digits
code Code.Ok = omega arith
code Code.Error = omega arith
code Code.Timeout = omega arith
code Code.Full = omega arith
code Code.Empty = omega arith
code Code.NoMem = omega arith
code Code.NoSys = omega arith
code Code.Busy = omega arith
code Code.Io = omega arith
code Code.Intr = omega arith
code Code.Inval = omega arith

pub kind : (soft periodic : Bool) → length (kind_text soft periodic) ≤ 8
kind false false = omega arith
kind false true = omega arith
kind true false = omega arith
kind true true = omega arith

pub device : (console : Bool) → length (device_text console) ≤ 7
device true = omega arith
device false = omega arith

pub mode : (m : Sleep) → length (sleep_text m) ≤ 8
mode Sleep.NoSleep = omega arith
mode Sleep.Idle = omega arith
mode Sleep.Light = omega arith
mode Sleep.Deep = omega arith
mode Sleep.Standby = omega arith
mode Sleep.Shutdown = omega arith
