use Rattle.core_runner.proofs.runner.run_within.Given as goal

abbrev pub ghosts-run_blank : goal.ghosts-run_blank
ghosts-run_blank a = record { name = a.blank.name; parts = a.blank.parts }
