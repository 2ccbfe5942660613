-- All classes together.
use Rattle.std.specs.Prelude.{ℕ, List, slice_set, Result, Ok}
use Rattle.rt_base.specs.declared.codes.Class.{Class}
use Rattle.object_box.specs.declared.limits.ClassLimits.{ClassLimits}
use Rattle.object_box.specs.declared.device.DeviceRow.{DeviceRow}
use Rattle.object_box.specs.declared.fault.Make.{Make}
use Rattle.object_box.specs.Objects.{ClassObjects, made, removed}

-- the objects of each class, and a row for each device number
pub record AllObjects : Type 0 where
  pub thread : ClassObjects
  pub sem : ClassObjects
  pub event : ClassObjects
  pub mutex : ClassObjects
  pub mailbox : ClassObjects
  pub msgqueue : ClassObjects
  pub timer : ClassObjects
  pub device : ClassObjects
  pub rows : List DeviceRow

-- the objects of a class
abbrev pub of_class : Class → AllObjects → ClassObjects
of_class Class.Thread a = a.thread
of_class Class.Sem a = a.sem
of_class Class.Event a = a.event
of_class Class.Mutex a = a.mutex
of_class Class.Mailbox a = a.mailbox
of_class Class.MsgQueue a = a.msgqueue
of_class Class.Timer a = a.timer
of_class Class.Device a = a.device

-- with another list for a class
abbrev pub with_class : Class → AllObjects → ClassObjects → AllObjects
with_class Class.Thread a c = record a { thread = c }
with_class Class.Sem a c = record a { sem = c }
with_class Class.Event a c = record a { event = c }
with_class Class.Mutex a c = record a { mutex = c }
with_class Class.Mailbox a c = record a { mailbox = c }
with_class Class.MsgQueue a c = record a { msgqueue = c }
with_class Class.Timer a c = record a { timer = c }
with_class Class.Device a c = record a { device = c }

-- how many objects a class may hold
abbrev pub limit_of : Class → ClassLimits → ℕ
limit_of Class.Thread l = l.thread
limit_of Class.Sem l = l.sem
limit_of Class.Event l = l.event
limit_of Class.Mutex l = l.mutex
limit_of Class.Mailbox l = l.mailbox
limit_of Class.MsgQueue l = l.msgqueue
limit_of Class.Timer l = l.timer
limit_of Class.Device l = l.device

-- the row of a device that is made: not open, with rate 1
abbrev pub with_new_row : Class → Result ℕ Make → AllObjects → AllObjects
with_new_row Class.Device (Ok number) a = record a { rows = slice_set a.rows number (record { opened = 0; rate = 1 }) }
with_new_row _ _ a = a

-- all objects after `make`
abbrev pub all_made : Class → AllObjects → List ℕ → Result ℕ Make → AllObjects
all_made class a name result = with_new_row class result (with_class class a (made (of_class class a) name result))

-- all objects after `remove`
abbrev pub all_removed : Class → AllObjects → ℕ → AllObjects
all_removed class a number = with_class class a (removed (of_class class a) number)
