use Rattle.office_book.proofs.archive.Archive.kept_at.Given as goal

abbrev pub ghosts-is_kept_at : goal.ghosts-is_kept_at
ghosts-is_kept_at a = record { name = a.blank.name; parts = a.blank.parts }
