use Rattle.ready_set.proofs.queues.Queues.holds.Given as goal

abbrev pub ghosts-is_marked : goal.ghosts-is_marked
ghosts-is_marked a = record { name = a.blank.name; parts = a.blank.parts }
