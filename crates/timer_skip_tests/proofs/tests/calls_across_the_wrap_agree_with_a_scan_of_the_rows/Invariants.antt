use Rattle.timer_skip_tests.proofs.tests.calls_across_the_wrap_agree_with_a_scan_of_the_rows.Given as goal

abbrev pub ghosts-side_by_side : goal.ghosts-side_by_side
ghosts-side_by_side g a = record { name = a.blank.name; parts = a.blank.parts }
