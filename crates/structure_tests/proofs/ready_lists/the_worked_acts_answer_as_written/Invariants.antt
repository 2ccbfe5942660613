use Rattle.structure_tests.proofs.ready_lists.the_worked_acts_answer_as_written.Given as goal

abbrev pub ghosts-all_depths : goal.ghosts-all_depths
ghosts-all_depths g a = record { name = a.blank.name; parts = a.blank.parts }
