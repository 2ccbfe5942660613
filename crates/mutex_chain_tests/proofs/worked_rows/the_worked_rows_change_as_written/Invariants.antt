use Rattle.mutex_chain_tests.proofs.worked_rows.the_worked_rows_change_as_written.Given as goal

abbrev pub ghosts-worked_rows : goal.ghosts-worked_rows
ghosts-worked_rows g a = record { name = a.blank.name; parts = a.blank.parts }
