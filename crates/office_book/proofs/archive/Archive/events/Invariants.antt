use Rattle.office_book.proofs.archive.Archive.events.Given as goal

abbrev pub ghosts-events_of_views : goal.ghosts-events_of_views
ghosts-events_of_views a = record { name = a.blank.name; parts = a.blank.parts }
