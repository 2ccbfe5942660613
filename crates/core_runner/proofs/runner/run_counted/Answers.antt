use Rattle.std.proofs.Common.{◌≡◌, Result, Ok, Err, IfErr, IsErr, IsErrAnd, sym, subst, rules}
use Rattle.rt_plain.specs.PlainBoard.{PlainBoard}
use Rattle.core_runner.specs.Limits.{over_by, HasCompleted, MeetsLimit}
use Rattle.core_runner.specs.declared.fault.RunFault.{RunFault}
use Rattle.core_runner.proofs.runner.run_counted.Goals as goal

pub returns-in_err-machine-clause-limit : goal.returns-in_err-machine-clause-limit
returns-in_err-machine-clause-limit g c =
    let limit = c.in_err-machine.ensures.limit (over_by c.args.within c.args.board) in
    search rules

-- what holds of the refusal that comes back holds of the answer
refused : {T : Type 0} (P : RunFault → Type 0) (r : Result T RunFault) (fault : RunFault) → IsErr r × IsErrAnd r (λ e. e ≡ fault) → P fault → IfErr r P
refused P (Ok x) fault e h = absurd e.1
refused P (Err f) fault e h = subst P (sym e.1) h

pub returns-in_err-make_run-clause-limit : goal.returns-in_err-make_run-clause-limit
returns-in_err-make_run-clause-limit g c =
    refused (MeetsLimit (over_by c.args.within c.args.board) c.args.board) c.from_residual-in_err-make_run.result c.in_err-make_run.field-0.0 c.from_residual-in_err-make_run.ensures
    (subst (λ (b : PlainBoard). MeetsLimit (over_by c.args.within b) b c.in_err-make_run.field-0.0) c.in_ok-machine.ensures.board c.in_err-make_run.ensures.limit)

pub returns-clause-complete : goal.returns-clause-complete
returns-clause-complete g c = subst (λ (b : PlainBoard). HasCompleted (over_by c.args.within b) b c.make_run.new.machine.course) c.in_ok-machine.ensures.board c.in_ok-make_run.ensures.complete
