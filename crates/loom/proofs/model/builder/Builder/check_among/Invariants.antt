use Rattle.loom.proofs.model.builder.Builder.check_among.Given as goal

abbrev pub ghosts-check_named : goal.ghosts-check_named
ghosts-check_named g a = record { name = a.store.path.now; before = g.F.TextFiles.holds a.store.files }
