use Rattle.mob_base_rows.proofs.found.finds.Given as goal

abbrev pub ghosts-finds_counted : goal.ghosts-finds_counted
ghosts-finds_counted g = record { name = g.blank.name; parts = g.blank.parts }
