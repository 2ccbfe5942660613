use Rattle.rt_plain.proofs.laws.reached_states_are_sound.Goals as goal
use Rattle.rt_plain.proofs.kernel.SoundLemmas.{reached-sound}

pub returns : goal.returns
returns c = reached-sound
