use Rattle.core_runner.proofs.replays.replay.Given as goal

abbrev pub ghosts-replay_blank : goal.ghosts-replay_blank
ghosts-replay_blank a = record { name = a.blank.name; parts = a.blank.parts }
