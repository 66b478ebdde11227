use Rattle.office_book.proofs.archive.Archive.totals.Given as goal

abbrev pub ghosts-total_views : goal.ghosts-total_views
ghosts-total_views a = record { name = a.blank.name; parts = a.blank.parts }
