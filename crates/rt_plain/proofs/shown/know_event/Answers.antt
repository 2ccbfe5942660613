use Rattle.rt_plain.proofs.shown.know_event.Goals as goal

pub returns-in-Step : goal.returns-in-Step
returns-in-Step c = rw (c.in-Step.is, ← c.core.view_is) c.know_byte.ensures
