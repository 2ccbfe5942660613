use Rattle.std.proofs.Common.{◌≡◌, ◌+◌, ◌<◌, ◌≤◌, ◌++◌, List, arith, length, length-append, map, refl, sym, ap, ◌∙◌, subst}
use Rattle.std.specs.List.{AllByRecursion}
use Rattle.std.proofs.lemmas.Grind.{common_steps}
use Rattle.std.proofs.lemmas.List.{length-map}
use Rattle.rt_plain.specs.kernel.Ownership.{CurChange}
use Rattle.mutex_tables.specs.MutexTabled.{MutexTabled, plain_state}
use Rattle.mutex_tie.specs.Changes.{change_line}
use Rattle.rt_kernel.specs.declared.state.State.{State as KernelState}
use Rattle.rt_kernel.specs.Limits.{limits_of}
use Rattle.rt_kernel.specs.View.{state_of}
use Rattle.rt_kernel.proofs.DoesLemmas.{does_by}
use Rattle.rt_kernel.proofs.PrioLemmas.{changes-there, prio-missing, prio-settled, rebased-few, rebased-size}
use Rattle.rt_kernel.proofs.StageLemmas.{actives-out}
use Rattle.rt_kernel.proofs.state.State.set_prio.Goals as goal

pub returns-in_default : goal.returns-in_default
returns-in_default g c = does_by (prio-missing c.args.board.now (state_of c.args.self.now) c.args.name.now c.args.prio c.in_default.ensures.found) (grind (arith, common_steps))

pub tell-requires-clause-there : goal.tell-requires-clause-there
tell-requires-clause-there g c = subst (AllByRecursion (λ (d : CurChange). d.thread < length c.set_base.new.tables.threads)) (sym (c.changes.ensures ∙ c.set_base.ensures.changes)) (changes-there (plain_state c.args.self.now.tables) (plain_state c.set_base.new.tables))

pub tell-requires-clause-lines : goal.tell-requires-clause-lines
tell-requires-clause-lines g c = omega (arith, ap length c.changes.ensures, rebased-few c.args.self.now.tables c.set_base.new.tables c.in-Some.u c.args.prio c.set_base.new.self.changes c.set_base.ensures.state c.set_base.ensures.changes, c.requires.room.lines)

pub returns : goal.returns
returns g c =
    let old : KernelState = c.args.self.now in
    let new : MutexTabled = c.set_base.new.tables in
    let cs : List CurChange = c.set_base.new.self.changes in
    let shown = c.tell.ensures.lines ∙ ap (λ (ds : List CurChange). c.args.out.now.items ++ map (change_line (plain_state new)) ds) c.changes.ensures in
    does_by (prio-settled c.args.board.now old new c.args.name.now c.args.prio c.in-Some.u cs (sym c.find_thread.ensures.found ∙ c.in-Some.is) c.requires.room.active c.requires.room.once (c.set_base.ensures.one (actives-out old.tables c.requires.room.active)) c.set_base.ensures.changes c.set_base.ensures.state)
    (record {
      state = refl;
      lines = shown;
      answer = refl;
      limits = ap limits_of c.set_base.ensures.state;
      threads = rebased-size old.tables new c.in-Some.u c.args.prio cs c.set_base.ensures.state;
      numbers = omega arith;
      few = omega (arith, ap length shown, length-append c.args.out.now.items (map (change_line (plain_state new)) cs), length-map cs (change_line (plain_state new)), rebased-few old.tables new c.in-Some.u c.args.prio cs c.set_base.ensures.state c.set_base.ensures.changes);
      out_room = c.tell.ensures.out_room;
    })
