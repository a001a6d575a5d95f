use Rattle.kt_solve.proofs.order.can_solve_once.Given as goal

abbrev pub ghosts-test_order : goal.ghosts-test_order
ghosts-test_order a = record { name = a.blank.name; parts = a.blank.parts }
