use Rattle.office_book.proofs.archive.Archive.batch_at.Given as goal

abbrev pub ghosts-copy_at : goal.ghosts-copy_at
ghosts-copy_at a = record { name = a.blank.name; parts = a.blank.parts }
