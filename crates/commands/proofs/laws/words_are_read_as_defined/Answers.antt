use Rattle.commands.proofs.laws.words_are_read_as_defined.Goals as goal
use Rattle.commands.proofs.ArgLemmas.{read-as-defined}

pub returns : goal.returns
returns c = read-as-defined
