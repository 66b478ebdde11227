use Rattle.office_book.proofs.archive.Archive.adopt.Given as goal

abbrev pub ghosts-adopt_all : goal.ghosts-adopt_all
ghosts-adopt_all a = record { name = a.blank.name; parts = a.blank.parts }
