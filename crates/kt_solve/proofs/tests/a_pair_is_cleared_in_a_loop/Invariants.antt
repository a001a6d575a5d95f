use Rattle.kt_solve.proofs.tests.a_pair_is_cleared_in_a_loop.Given as goal

abbrev pub ghosts-once : goal.ghosts-once
ghosts-once g a = record { name = a.blank.name; parts = a.blank.parts }
