use Rattle.std.proofs.Common.{refl}
use Rattle.rt_plain.specs.declared.stmt.Stmt.{Stmt}
use Rattle.board_show.proofs.Spelled.{words-same, statement_put, call_statement}
use Rattle.board_show.proofs.statements.put_statement.Goals as goal

pub returns-in-Print-statement_rows : goal.returns-in-Print-statement_rows
returns-in-Print-statement_rows c = statement_put c.args.statement.now _ c.all1.result c.args.out.now c.all1.new.out _ c.in-Print-statement_rows.text-arg-1-own.given.1 (words-same refl (words-same c.text.ensures refl)) c.all1.ensures

pub returns-in-Say-statement_rows : goal.returns-in-Say-statement_rows
returns-in-Say-statement_rows c = statement_put c.args.statement.now _ c.all1-in-Say-1.result c.args.out.now c.all1-in-Say-1.new.out _ c.in-Say-statement_rows.what-arg-1-own.given.1 (words-same refl (words-same c.what.ensures refl)) c.all1-in-Say-1.ensures

pub returns-in-Goto-statement_rows : goal.returns-in-Goto-statement_rows
returns-in-Goto-statement_rows c = statement_put c.args.statement.now _ c.all1-in-Goto-1.result c.args.out.now c.all1-in-Goto-1.new.out _ c.in-Goto-statement_rows.half-arg-1-own.given.1 (words-same refl (words-same c.half.ensures refl)) c.all1-in-Goto-1.ensures

pub returns-in-IfCode-statement_rows : goal.returns-in-IfCode-statement_rows
returns-in-IfCode-statement_rows c = statement_put c.args.statement.now (Stmt.IfCode c.in-IfCode-statement_rows.code-arg-1-own.given.0.0 c.in-IfCode-statement_rows.half-arg-in-IfCode-1-own.given.0.1.0) c.all2.result c.args.out.now c.all2.new.out _ (cc (c.in-IfCode-statement_rows.code-arg-1-own.given.1, c.in-IfCode-statement_rows.half-arg-in-IfCode-1-own.given.1)) (words-same refl (words-same c.code.ensures (words-same c.half-in-IfCode-1.ensures refl))) c.all2.ensures

pub returns-in-Count-statement_rows : goal.returns-in-Count-statement_rows
returns-in-Count-statement_rows c = statement_put c.args.statement.now _ c.all1-in-Count-1.result c.args.out.now c.all1-in-Count-1.new.out _ c.in-Count-statement_rows.half-arg-in-Count-1-own.given.1 (words-same refl (words-same c.half-in-Count-1.ensures refl)) c.all1-in-Count-1.ensures

pub returns-in-Next-statement_rows : goal.returns-in-Next-statement_rows
returns-in-Next-statement_rows c = statement_put c.args.statement.now _ c.all1-in-Next-1.result c.args.out.now c.all1-in-Next-1.new.out _ c.in-Next-statement_rows.half-arg-in-Next-1-own.given.1 (words-same refl (words-same c.half-in-Next-1.ensures refl)) c.all1-in-Next-1.ensures

pub returns-in-Do : goal.returns-in-Do
returns-in-Do c = rw (call_statement _ _ c.in-Do.is) c.put_call.ensures

pub returns-in-Exit-statement_rows : goal.returns-in-Exit-statement_rows
returns-in-Exit-statement_rows c = statement_put c.args.statement.now Stmt.Exit c.all0.result c.args.out.now c.all0.new.out _ c.in-Exit-statement_rows.is refl c.all0.ensures
