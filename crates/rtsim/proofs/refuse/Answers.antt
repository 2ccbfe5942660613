use Rattle.std.proofs.Common.{refl}
use Rattle.commands.specs.declared.ending.Ending.TheVariants.{Memory}
use Rattle.commands.proofs.SaidLemmas.{said}
use Rattle.rtsim.proofs.refuse.Goals as goal

pub returns-clause-told : goal.returns-clause-told
returns-clause-told g c = record {
  ending = Memory;
  status_is = c.status.ensures;
  cause = tt;
  said = said c.say.result _ _ _ _ _ _ refl c.say.ensures.ok c.say.ensures.front c.say.ensures.failed;
}
