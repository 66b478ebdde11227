use Rattle.register_tests.proofs.stores.keys_of.Given as goal

abbrev pub ghosts-keys_at : goal.ghosts-keys_at
ghosts-keys_at g = record { name = g.blank.name; parts = g.blank.parts }
