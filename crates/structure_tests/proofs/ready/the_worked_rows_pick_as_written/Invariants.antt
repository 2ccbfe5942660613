use Rattle.structure_tests.proofs.ready.the_worked_rows_pick_as_written.Given as goal

abbrev pub ghosts-worked_rows : goal.ghosts-worked_rows
ghosts-worked_rows g a = record { name = a.blank.name; parts = a.blank.parts }
