use Rattle.memory_office.proofs.office.Office.report.Given as goal

abbrev pub ghosts-report_views : goal.ghosts-report_views
ghosts-report_views a = record { name = a.blank.name; parts = a.blank.parts }
