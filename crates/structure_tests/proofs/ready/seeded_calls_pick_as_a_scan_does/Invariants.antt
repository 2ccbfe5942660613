use Rattle.structure_tests.proofs.ready.seeded_calls_pick_as_a_scan_does.Given as goal

abbrev pub ghosts-all_seeds : goal.ghosts-all_seeds
ghosts-all_seeds g a = record { name = a.blank.name; parts = a.blank.parts }
