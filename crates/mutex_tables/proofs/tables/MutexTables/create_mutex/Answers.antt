use Rattle.std.proofs.Common.{◌∙◌, arith, sym, subst}
use Rattle.std.specs.Prelude.{Result, Ok}
use Rattle.rt_plain.specs.kernel.State.{Mutex}
use Rattle.rt_plain.specs.kernel.Ownership.{Ownership}
use Rattle.object_box.specs.declared.fault.Make.{Make}
use Rattle.object_box.specs.Classes.{AllObjects}
use Rattle.mutex_tables.specs.Created.{CreatesMutex}
use Rattle.mutex_tables.specs.Kept.{AreMutexTables}
use Rattle.mutex_tables.specs.MutexTabled.{seen}
use Rattle.mutex_tables.proofs.CreateLemmas.{creates-made, creates-refused, err-is, made-keeps, with_name}
use Rattle.mutex_tables.proofs.tables.MutexTables.create_mutex.Goals as goal

pub returns-in_err-no : goal.returns-in_err-no
returns-in_err-no c =
    let k = c.self.inside in
    subst (λ (r : Result Unit Make). CreatesMutex c.args.self.now (seen k.tables k.bases.items c.make.new.self.mutex k.graph) (record { name = c.args.name; ceiling = c.args.ceiling }) r) (sym (err-is c.from_residual.result c.in_err-no.field-0.0 c.from_residual.ensures))
    (creates-refused k c.args.self.now c.make.new.self c.args.name c.args.ceiling c.in_err-no.field-0.0 c.self.view_is c.in_err-no.ensures.cause c.in_err-no.ensures.state)

pub add_mutex-requires-clause-below : goal.add_mutex-requires-clause-below
add_mutex-requires-clause-below c = omega (arith, c.in_ok-no.ensures.cause.1.1.1, c.self.invariant.graph.places)

pub add_mutex-requires-clause-absent : goal.add_mutex-requires-clause-absent
add_mutex-requires-clause-absent c = c.self.invariant.graph.there c.in_ok-no.no ∙ c.in_ok-no.ensures.cause.1.1.0.free

pub invariant_of-self-2 : goal.invariant_of-self-2
invariant_of-self-2 c =
    let k = c.self.inside in
    subst (λ (a : AllObjects). AreMutexTables k.tables k.bases.items a.mutex c.add_mutex.new.self) (sym c.in_ok-no.ensures.state)
    (subst (λ (o : Ownership). AreMutexTables k.tables k.bases.items (with_name k.names.mutex c.args.name c.in_ok-no.no) o) (sym c.add_mutex.ensures)
    (made-keeps k c.args.name c.in_ok-no.no c.args.ceiling c.self.invariant c.in_ok-no.ensures.cause))

pub returns : goal.returns
returns c =
    let k = c.self.inside in
    let mutex : Mutex = record { name = c.args.name; ceiling = c.args.ceiling } in
    subst (λ (a : AllObjects). CreatesMutex c.args.self.now (seen k.tables k.bases.items a.mutex c.add_mutex.new.self) mutex (Ok tt)) (sym c.in_ok-no.ensures.state)
    (subst (λ (o : Ownership). CreatesMutex c.args.self.now (seen k.tables k.bases.items (with_name k.names.mutex c.args.name c.in_ok-no.no) o) mutex (Ok tt)) (sym c.add_mutex.ensures)
    (creates-made k c.args.self.now c.args.name c.in_ok-no.no c.args.ceiling c.self.view_is c.self.invariant c.in_ok-no.ensures.cause))
