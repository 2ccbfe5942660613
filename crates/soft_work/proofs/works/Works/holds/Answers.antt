use Rattle.soft_work.proofs.LinkLemmas.{is_sound}
use Rattle.soft_work.proofs.works.Works.holds.Goals as goal

pub returns-in-Some-true-clause-sound : goal.returns-in-Some-true-clause-sound
returns-in-Some-true-clause-sound c = is_sound _ _ _ _ _ _ c.self.invariant c.self.view_is

pub returns-in_default-clause-sound : goal.returns-in_default-clause-sound
returns-in_default-clause-sound c = is_sound _ _ _ _ _ _ c.self.invariant c.self.view_is

pub returns-in_default-2-clause-sound : goal.returns-in_default-2-clause-sound
returns-in_default-2-clause-sound c = is_sound _ _ _ _ _ _ c.self.invariant c.self.view_is
