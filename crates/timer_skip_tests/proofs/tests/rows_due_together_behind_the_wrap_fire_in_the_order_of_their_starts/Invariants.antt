use Rattle.timer_skip_tests.proofs.tests.rows_due_together_behind_the_wrap_fire_in_the_order_of_their_starts.Given as goal

abbrev pub ghosts-wraps : goal.ghosts-wraps
ghosts-wraps g a = record { name = a.blank.name; parts = a.blank.parts }
