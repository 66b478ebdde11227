use Rattle.memory_office.proofs.office.Office.adopt.Given as goal

abbrev pub ghosts-adopt_accepted : goal.ghosts-adopt_accepted
ghosts-adopt_accepted a = record { name = a.blank.name; parts = a.blank.parts }
