use Rattle.structure_tests.proofs.ready.a_full_level_is_picked_in_order.Given as goal

abbrev pub ghosts-full_level : goal.ghosts-full_level
ghosts-full_level g a = record { name = a.blank.name; parts = a.blank.parts }
