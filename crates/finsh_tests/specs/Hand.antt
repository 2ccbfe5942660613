-- What the shell sees of a machine that was made by hand.
use Rattle.std.specs.Prelude.{ℕ, true, false, List, [], ◌∷◌, Some, None, codes}
use Rattle.rt_base.specs.declared.codes.Class.{Class}
use Rattle.rt_base.specs.declared.codes.Code.{Code}
use Rattle.rt_base.specs.declared.codes.Sleep.{Sleep}
use Rattle.rt_plain.specs.declared.row.Row.{Row}
use Rattle.rt_plain.specs.declared.row.ThreadState.{ThreadState}

-- the rows of each class
abbrev pub hand_rows : Class → List Row
hand_rows Class.Thread =
    Row.Thread (codes "late") 30 30 ThreadState.Initial None 255 Code.Ok
    ∷ Row.Thread (codes "blink") 5 15 ThreadState.Ready (Some 0) 10 Code.Timeout
    ∷ Row.Thread (codes "tshell") 20 20 ThreadState.Running None 9 Code.Ok
    ∷ Row.Thread (codes "comms_01") 254 254 ThreadState.Suspended (Some 7) 1 Code.Inval
    ∷ []
hand_rows Class.Sem = Row.Sem (codes "s") 3 0 ∷ Row.Sem (codes "tickets") 65535 256 ∷ []
hand_rows Class.Event = Row.Event (codes "e") 48879 2 ∷ Row.Event (codes "none") 0 0 ∷ Row.Event (codes "all") 4294967295 12 ∷ []
hand_rows Class.Mutex = Row.Mutex (codes "m") None 0 31 0 ∷ Row.Mutex (codes "bus") (Some (codes "comms_01")) 255 5 3 ∷ []
hand_rows Class.Mailbox = Row.Mailbox (codes "mb") 0 64 1 0 ∷ []
hand_rows Class.MsgQueue = Row.MsgQueue (codes "q") 4 4 16 0 10 ∷ []
hand_rows Class.Timer =
    Row.Timer (codes "a") false false 5 (Some 4294967295)
    ∷ Row.Timer (codes "b") true false 2147483647 None
    ∷ Row.Timer (codes "c") false true 1 None
    ∷ Row.Timer (codes "d") true true 25 (Some 0)
    ∷ []
hand_rows Class.Device = Row.Device (codes "uart1") false 0 0 64 ∷ Row.Device (codes "console") true 1 128 0 ∷ []

-- the votes for each mode
abbrev pub hand_votes : Sleep → ℕ
hand_votes Sleep.Light = 2
hand_votes Sleep.Deep = 255
hand_votes _ = 0

-- the mode of now
abbrev pub hand_mode : Sleep
hand_mode = Sleep.Light
