use Rattle.std.proofs.Common.{◌+◌, Some, None, ap, sym, refl, ◌∙◌}
use Rattle.ready_set.proofs.PickLemmas.{lowest_seen, nothing_to_take, one_to_take, queue_seen, first_there}
use Rattle.ready_set.specs.ReadyLists.{queue_of}
use Rattle.std.proofs.Common.{slice_get}
use Rattle.ready_set.proofs.ready.ReadySet.pick.Goals as goal

pub returns-in_err-binding-clause-ready : goal.returns-in_err-binding-clause-ready
returns-in_err-binding-clause-ready g c =
    let bounds = lowest_seen _ _ _ _ _ c.args.self.now (Some c.args.core) c.lowest-bound.result _ c.self.invariant c.self.view_is c.requires (ap (λ n. n + 1) c.core.view_is) c.lowest-bound.ensures.least c.lowest-bound.ensures.none in
    let unbounds = lowest_seen _ _ _ _ _ c.args.self.now None c.lowest-unbound.result 0 c.self.invariant c.self.view_is tt refl c.lowest-unbound.ensures.least c.lowest-unbound.ensures.none in
    λ rows st. c.from_residual.ensures
    ∙ sym (nothing_to_take c.args.self.now c.args.core c.lowest-bound.result c.lowest-unbound.result c.chosen_queue.result c.requires bounds unbounds c.chosen_queue.ensures c.in_err-binding.was rows st)

pub returns-in_err-thread-clause-none : goal.returns-in_err-thread-clause-none
returns-in_err-thread-clause-none g c =
    let bounds = lowest_seen _ _ _ _ _ c.args.self.now (Some c.args.core) c.lowest-bound.result _ c.self.invariant c.self.view_is c.requires (ap (λ n. n + 1) c.core.view_is) c.lowest-bound.ensures.least c.lowest-bound.ensures.none in
    let unbounds = lowest_seen _ _ _ _ _ c.args.self.now None c.lowest-unbound.result 0 c.self.invariant c.self.view_is tt refl c.lowest-unbound.ensures.least c.lowest-unbound.ensures.none in
    let take = one_to_take c.args.self.now c.args.core c.in_ok-binding.level c.in_ok-binding.binding c.lowest-bound.result c.lowest-unbound.result c.chosen_queue.result c.requires bounds unbounds c.chosen_queue.ensures c.in_ok-binding.was in
    let queue = queue_seen _ _ _ c.self.inside.queues c.args.self.now c.in_ok-binding.level c.in_ok-binding.binding c.binding_number.result c.self.view_is c.binding_number.ensures in
    absurd (first_there (queue_of c.args.self.now c.in_ok-binding.level c.in_ok-binding.binding) take.some_thread (sym c.in_err-thread.was ∙ c.first.ensures.value ∙ ap (λ q. slice_get q 0) queue))

pub returns-clause-ready : goal.returns-clause-ready
returns-clause-ready g c =
    let bounds = lowest_seen _ _ _ _ _ c.args.self.now (Some c.args.core) c.lowest-bound.result _ c.self.invariant c.self.view_is c.requires (ap (λ n. n + 1) c.core.view_is) c.lowest-bound.ensures.least c.lowest-bound.ensures.none in
    let unbounds = lowest_seen _ _ _ _ _ c.args.self.now None c.lowest-unbound.result 0 c.self.invariant c.self.view_is tt refl c.lowest-unbound.ensures.least c.lowest-unbound.ensures.none in
    let take = one_to_take c.args.self.now c.args.core c.in_ok-binding.level c.in_ok-binding.binding c.lowest-bound.result c.lowest-unbound.result c.chosen_queue.result c.requires bounds unbounds c.chosen_queue.ensures c.in_ok-binding.was in
    let queue = queue_seen _ _ _ c.self.inside.queues c.args.self.now c.in_ok-binding.level c.in_ok-binding.binding c.binding_number.result c.self.view_is c.binding_number.ensures in
    λ rows st. sym c.in_ok-thread.was ∙ c.first.ensures.value ∙ ap (λ q. slice_get q 0) queue ∙ sym (take.picks rows st)
