-- The votes for sleep modes, and the run mode.
use Rattle.std.specs.Prelude.{ℕ, ◌+◌, ◌-◌, List, [], ◌∷◌, slice_set, slice_index, unwrap_or, nat_lt, if◌then◌else◌, ◌==◌}
use Rattle.std.specs.List.{find}
use Rattle.rt_base.specs.declared.codes.Code.{Code}
use Rattle.rt_base.specs.declared.codes.Sleep.{Sleep}
use Rattle.rt_base.specs.declared.codes.RunMode.{RunMode}
use Rattle.rt_base.specs.Codes.{sleep_number}
use Rattle.rt_plain.specs.PlainBoard.{PlainBoard}
use Rattle.rt_plain.specs.kernel.State.{State}
use Rattle.rt_plain.specs.kernel.Outcome.{Outcome, refusal, silent_success}

-- the sleep modes from the lightest on
abbrev pub sleep_modes : List Sleep
sleep_modes = Sleep.NoSleep ∷ Sleep.Idle ∷ Sleep.Light ∷ Sleep.Deep ∷ Sleep.Standby ∷ Sleep.Shutdown ∷ []

-- how many votes a mode has
abbrev pub votes_for : List ℕ → Sleep → ℕ
votes_for votes mode = slice_index votes (sleep_number mode)

-- the first mode with a vote, from the lightest on; the default one where there is none
abbrev pub voted_mode : Sleep → List ℕ → Sleep
voted_mode default votes = unwrap_or (find (λ mode. nat_lt 0 (votes_for votes mode)) sleep_modes) default

-- the sleep mode of now
abbrev pub sleep_mode : PlainBoard → State → Sleep
sleep_mode b s = voted_mode b.default_mode s.votes

-- a mode has so many votes
abbrev pub with_votes : Sleep → ℕ → List ℕ → List ℕ
with_votes mode count votes = slice_set votes (sleep_number mode) count

-- pm_request: one vote more
abbrev pub pm_request : Sleep → State → Outcome
pm_request mode s = let count = votes_for s.votes mode in if count == 255 then refusal s Code.Full else silent_success (record s { votes = with_votes mode (count + 1) s.votes })

-- pm_release: one vote less
abbrev pub pm_release : Sleep → State → Outcome
pm_release mode s = let count = votes_for s.votes mode in if count == 0 then refusal s Code.Error else silent_success (record s { votes = with_votes mode (count - 1) s.votes })

-- pm_run: another run mode
abbrev pub pm_run : RunMode → State → Outcome
pm_run mode s = silent_success (record s { run_mode = mode })
