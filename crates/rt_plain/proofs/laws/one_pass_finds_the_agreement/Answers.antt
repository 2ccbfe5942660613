use Rattle.rt_plain.proofs.laws.one_pass_finds_the_agreement.Goals as goal
use Rattle.rt_plain.proofs.runs.AgreeLemmas.{agreement-by-pass}

pub returns : goal.returns
returns c = agreement-by-pass
