use Rattle.std.proofs.Common.{◌∙◌, ◌++◌, List, ap, refl}
use Rattle.rt_plain.specs.declared.line.Line.{Line}
use Rattle.rt_plain.specs.kernel.Statements.{statement_effect}
use Rattle.kernel_step.proofs.StepLemmas.{statement-moment}
use Rattle.kernel_step.proofs.engine.go_on.Goals as goal

pub returns-in_default : goal.returns-in_default
returns-in_default g c = record {
  board = c.plain.ensures.board;
  state = c.plain.ensures.state c.args.t c.requires.runs;
  lines = c.plain.ensures.lines c.args.t c.requires.runs ∙ ap (λ (ls : List Line). ls ++ (statement_effect c.args.kernel.now.board c.args.t c.args.core c.args.kernel.now.state).lines) c.requires.empty;
  moment = statement-moment c.args.kernel.now.board c.args.kernel.now.state c.plain.new.self.state c.args.t c.args.core c.know_kernel.ensures.proper c.know_kernel.ensures.kept c.requires.runs (c.plain.ensures.state c.args.t c.requires.runs);
  out_room = c.plain.ensures.out_room;
}

pub returns-in-Do-clause-moment : goal.returns-in-Do-clause-moment
returns-in-Do-clause-moment g c = statement-moment c.args.kernel.now.board c.args.kernel.now.state c.call.new.self.state c.args.t c.args.core c.know_kernel.ensures.proper c.know_kernel.ensures.kept c.requires.runs (c.call.ensures.state c.args.t c.args.core refl)

pub returns-then-has_call-clause-moment : goal.returns-then-has_call-clause-moment
returns-then-has_call-clause-moment g c = statement-moment c.args.kernel.now.board c.args.kernel.now.state c.again.new.self.state c.args.t c.args.core c.know_kernel.ensures.proper c.know_kernel.ensures.kept c.requires.runs c.again.ensures.state
