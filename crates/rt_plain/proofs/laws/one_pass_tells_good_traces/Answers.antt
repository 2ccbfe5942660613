use Rattle.rt_plain.proofs.laws.one_pass_tells_good_traces.Goals as goal
use Rattle.rt_plain.proofs.runs.GoodLemmas.{good-by-pass, pass-by-good, pass-counts}

pub returns : goal.returns
returns c = record { good = good-by-pass; ended = pass-by-good; all = pass-counts }
