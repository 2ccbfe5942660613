use Rattle.timer_skip_tests.proofs.tests.five_hundred_rows_fire_at_one_tick.Given as goal

abbrev pub ghosts-crowds : goal.ghosts-crowds
ghosts-crowds g a = record { name = a.blank.name; parts = a.blank.parts }
