use Rattle.mutex_tie.proofs.ChangeLemmas.{settled-tied}
use Rattle.mutex_tie.proofs.QuietLemmas.{settled-quiet}
use Rattle.mutex_tie.proofs.CallLemmas.{call-settles}
use Rattle.mutex_tie.proofs.NewCurLemmas.{changes-tied}
use Rattle.mutex_tie.proofs.laws.what_follows_is_by_the_changes.Goals as goal

pub returns : goal.returns
returns c = record { settled = settled-tied; quiet = settled-quiet; call = call-settles; states = changes-tied }
