use Rattle.std.proofs.Common.{◌<◌, arith, sym, ap, ◌∙◌, length, get_or}
use Rattle.std.proofs.lemmas.Grind.{get_or_default_zero}
use Rattle.rt_plain.specs.kernel.State.{Thread}
use Rattle.mutex_tables.proofs.SeenLemmas.{inside-there, inside-row}
use Rattle.mutex_tables.proofs.tables.MutexTables.base.Goals as goal

pub index-requires : goal.index-requires
index-requires c = omega (arith, inside-there c.self.inside c.args.self.now c.args.t c.self.view_is c.requires, c.self.invariant.sized)

pub returns : goal.returns
returns c =
    let k = c.self.inside in
    let there : c.args.t < length k.tables.threads = inside-there k c.args.self.now c.args.t c.self.view_is c.requires in
    c.index.ensures
    ∙ ap (λ n. get_or k.bases.items n c.index.result.now) c.t.view_is
    ∙ get_or_default_zero k.bases.items c.args.t c.index.result.now (omega (arith, there, c.self.invariant.sized))
    ∙ sym (ap (λ (row : Thread). row.base) (inside-row k c.args.self.now c.args.t c.self.view_is c.self.invariant c.requires))
