use Rattle.kernel_devices.proofs.LawLemmas.{transmissions-are}
use Rattle.kernel_devices.proofs.laws.transmissions_are_drained.Goals as goal

pub returns : goal.returns
returns c = transmissions-are
