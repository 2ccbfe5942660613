use Rattle.mutex_chain_tests.proofs.random_edits.random_edits_agree_with_marking.Given as goal

abbrev pub ghosts-random_edits : goal.ghosts-random_edits
ghosts-random_edits g a = record { name = a.blank.name; parts = a.blank.parts }
