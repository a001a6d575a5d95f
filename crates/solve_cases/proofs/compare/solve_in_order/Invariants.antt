use Rattle.solve_cases.proofs.compare.solve_in_order.Given as goal

abbrev pub ghosts-solve_counted : goal.ghosts-solve_counted
ghosts-solve_counted a = record { name = a.blank.name; parts = a.blank.parts }
