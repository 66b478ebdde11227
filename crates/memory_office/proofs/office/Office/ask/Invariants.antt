use Rattle.memory_office.proofs.office.Office.ask.Given as goal

abbrev pub ghosts-ask_views : goal.ghosts-ask_views
ghosts-ask_views a = record { name = a.blank.name; parts = a.blank.parts }
