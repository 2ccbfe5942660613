use Rattle.kernel_devices.proofs.LawLemmas.{deliveries-none, deliveries-some}
use Rattle.kernel_devices.proofs.laws.deliveries_go_one_by_one.Goals as goal

pub returns : goal.returns
returns c = record { none = deliveries-none; some = deliveries-some }
