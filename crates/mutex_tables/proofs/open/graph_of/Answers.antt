use Rattle.std.proofs.Common.{◌∙◌, arith, sym, ap, [], List, Option, None, replicate, length, add-one, get_or}
use Rattle.rt_plain.specs.declared.board.ThreadDef.{ThreadDef}
use Rattle.rt_plain.specs.kernel.Ownership.{Member, Ownership, is_there, with_member}
use Rattle.mutex_chain.specs.Owners.{has_thread}
use Rattle.mutex_tables.proofs.OpenLemmas.{filled, filled-begins, filled-length, filled-none, filled-more, filled-all, opened-members, member_for}
use Rattle.mutex_tables.proofs.open.graph_of.Goals as goal

pub loop-i-init : goal.loop-i-init
loop-i-init c = c.in_ok-graph.ensures ∙ ap (λ (ms : List (Option Member)). record { members = ms; ceilings = replicate c.args.mutexes None; taken = [] }) (filled-begins c.args.defs.now)

pub add_thread-requires-clause-below : goal.add_thread-requires-clause-below
add_thread-requires-clause-below c = omega (arith, ap (λ (o : Ownership). length o.members) c.loop-i.invariant, filled-length c.loop-i.i c.args.defs.now, c.loop-i-test.true)

pub add_thread-requires-clause-absent : goal.add_thread-requires-clause-absent
add_thread-requires-clause-absent c = ap (λ (o : Ownership). has_thread o c.loop-i.i) c.loop-i.invariant ∙ ap is_there (filled-none c.loop-i.i c.args.defs.now)

pub loop-i-preserved : goal.loop-i-preserved
loop-i-preserved c =
    let defs : List ThreadDef = c.args.defs.now in
    let item : ThreadDef = c.index-defs-i.result in
    c.add_thread.ensures
    ∙ ap (λ (o : Ownership). with_member o c.loop-i.i (member_for (get_or defs c.loop-i.i item))) c.loop-i.invariant
    ∙ ap (λ (ms : List (Option Member)). record { members = ms; ceilings = replicate c.args.mutexes None; taken = [] })
    (filled-more c.loop-i.i defs item c.loop-i-test.true
    ∙ ap (λ n. filled n defs) (sym (add-one c.loop-i.i)))

pub returns : goal.returns
returns c = c.loop-i.invariant ∙ ap (λ (ms : List (Option Member)). record { members = ms; ceilings = replicate c.args.mutexes None; taken = [] }) (filled-all c.loop-i.i c.args.defs.now (omega (arith, c.loop-i-test.false)) ∙ opened-members c.args.defs.now)
