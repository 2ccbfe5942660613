use Rattle.mutex_chain.proofs.raising.carry_uncounted.Given as goal

abbrev pub ghosts-carry_blank : goal.ghosts-carry_blank
ghosts-carry_blank a = record { name = a.blank.name; parts = a.blank.parts }
