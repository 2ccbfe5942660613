-- The calls on devices change no base priority and no name, so they settle to themselves.
use Rattle.std.proofs.Common.{ℕ, ◌+◌, ◌++◌, List, Bool, true, false, refl, length, min, take, drop}
use Rattle.std.specs.Prelude.{◌==◌}
use Rattle.rt_base.specs.declared.codes.Code.{Code}
use Rattle.rt_plain.specs.kernel.State.{State, Device}
use Rattle.rt_plain.specs.kernel.Outcome.{By, refusal, success, silent_success, with_text}
use Rattle.rt_plain.specs.kernel.DeviceCalls.{find_device, with_device, is_open, may_close, device_after_close, state_after_read, fitting_bytes, write_effect, dev_open, dev_close, dev_read, dev_write, dev_ctl}
use Rattle.rt_kernel.proofs.ObjectQuiet.{quiet-text, quiet-value}
use Rattle.rt_kernel.proofs.Quiet.{IsQuiet, IsQuietCall, quiet-else, quiet-self, quiet-then, quiet-found, quiet-if}

-- other devices alone
pub quiet-devices : (s : State) (devices : List Device) → IsQuiet s (record s { devices = devices })
quiet-devices s devices = quiet-else s (record s { devices = devices }) refl refl refl refl

pub quiet-dev_open : (s : State) (name : List ℕ) → IsQuietCall s (dev_open name s)
quiet-dev_open s name = quiet-found s (find_device s name) (refusal s Code.Inval) _ (quiet-self s) (λ device. quiet-if s (device.opened == 255) (refusal s Code.Full) (silent_success (with_device s (record device { opened = device.opened + 1 }))) (quiet-self s) (quiet-devices s _))

pub quiet-dev_close : (s : State) (name : List ℕ) → IsQuietCall s (dev_close name s)
quiet-dev_close s name = quiet-found s (find_device s name) (refusal s Code.Inval) _ (quiet-self s) (λ device. quiet-if s (may_close device) (silent_success (with_device s (device_after_close device))) (refusal s Code.Error) (quiet-devices s _) (quiet-self s))

pub quiet-dev_read : (s : State) (name : List ℕ) (count : ℕ) (by : By) → IsQuietCall s (dev_read name count s by)
quiet-dev_read s name count by = quiet-found s (find_device s name) (refusal s Code.Inval) _ (quiet-self s) (λ device. quiet-if s (is_open device) (silent_success (state_after_read device count s by)) (refusal s Code.Error) (read device) (quiet-self s)) where
  read : (device : Device) → IsQuiet s (state_after_read device count s by)
  read device =
      let left : State = with_device s (record device { rx = drop count device.rx }) in
      let text : State = with_text left by (take count device.rx) in
      quiet-then s left _ (quiet-devices s left.devices) (quiet-then left text _ (quiet-text left by (take count device.rx)) (quiet-value text by (min count (length device.rx))))

pub quiet-dev_write : (s : State) (name text : List ℕ) (by : By) → IsQuietCall s (dev_write name text s by)
quiet-dev_write s name text by = quiet-found s (find_device s name) (refusal s Code.Inval) _ (quiet-self s) (λ device. quiet-if s (is_open device) (success (write_effect device text s by)) (refusal s Code.Error) (wrote device) (quiet-self s)) where
  wrote : (device : Device) → IsQuiet s (write_effect device text s by).state
  wrote device = by_kind device.console where
    by_kind : (c : Bool) → IsQuiet s (write_effect (record device { console = c }) text s by).state
    by_kind true = quiet-value s by (length text)
    by_kind false =
        let left : State = with_device s (record device { console = false; tx = device.tx ++ fitting_bytes device text }) in
        quiet-then s left _ (quiet-devices s left.devices) (quiet-value left by (length (fitting_bytes device text)))

pub quiet-dev_ctl : (s : State) (name : List ℕ) (rate : ℕ) → IsQuietCall s (dev_ctl name rate s)
quiet-dev_ctl s name rate = quiet-found s (find_device s name) (refusal s Code.Inval) _ (quiet-self s) (λ device. quiet-if s device.console (refusal s Code.NoSys) (silent_success (with_device s (record device { rate = rate }))) (quiet-self s) (quiet-devices s _))
