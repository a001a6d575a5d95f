-- What a status tells of an ending. A new ending of a run adds a case to each of these lemmas.
use Rattle.std.proofs.Common.{◌≡◌, IsTrue, refl, arith}
use Rattle.ktflow.specs.Course.{Ending, Usage, Refused, Ran, status_of, status_of_run}
use Rattle.ktflow.specs.Clauses.{IsAnswer, is_done, is_limit, is_uncaught}
use Rattle.kt_mean.specs.declared.states.RunEnding.{RunEnding}
use Rattle.kt_mean.specs.declared.states.RunEnding.TheVariants.{Done, Steps, Calls, Store, Text, Uncaught}

-- the statuses of the written meaning are none of a fault
pub is_answer : (ending : Ending) → IsAnswer (status_of ending)
is_answer Usage = record { source = λ e. omega (arith, e); input = λ e. omega (arith, e); output = λ e. omega (arith, e); memory = λ e. omega (arith, e) }
is_answer (Refused report) = record { source = λ e. omega (arith, e); input = λ e. omega (arith, e); output = λ e. omega (arith, e); memory = λ e. omega (arith, e) }
is_answer (Ran Done) = record { source = λ e. omega (arith, e); input = λ e. omega (arith, e); output = λ e. omega (arith, e); memory = λ e. omega (arith, e) }
is_answer (Ran Steps) = record { source = λ e. omega (arith, e); input = λ e. omega (arith, e); output = λ e. omega (arith, e); memory = λ e. omega (arith, e) }
is_answer (Ran Calls) = record { source = λ e. omega (arith, e); input = λ e. omega (arith, e); output = λ e. omega (arith, e); memory = λ e. omega (arith, e) }
is_answer (Ran Store) = record { source = λ e. omega (arith, e); input = λ e. omega (arith, e); output = λ e. omega (arith, e); memory = λ e. omega (arith, e) }
is_answer (Ran Text) = record { source = λ e. omega (arith, e); input = λ e. omega (arith, e); output = λ e. omega (arith, e); memory = λ e. omega (arith, e) }
is_answer (Ran (Uncaught x)) = record { source = λ e. omega (arith, e); input = λ e. omega (arith, e); output = λ e. omega (arith, e); memory = λ e. omega (arith, e) }

-- a run doesn't end with the status of a refusal
pub run_not_refused : (ending : RunEnding) → status_of_run ending ≡ 1 → ⊥
run_not_refused Done e = omega (arith, e)
run_not_refused Steps e = omega (arith, e)
run_not_refused Calls e = omega (arith, e)
run_not_refused Store e = omega (arith, e)
run_not_refused Text e = omega (arith, e)
run_not_refused (Uncaught x) e = omega (arith, e)

-- a run doesn't end with the status of words without a shape
pub run_not_usage : (ending : RunEnding) → status_of_run ending ≡ 2 → ⊥
run_not_usage Done e = omega (arith, e)
run_not_usage Steps e = omega (arith, e)
run_not_usage Calls e = omega (arith, e)
run_not_usage Store e = omega (arith, e)
run_not_usage Text e = omega (arith, e)
run_not_usage (Uncaught x) e = omega (arith, e)

-- status 0 is that of a run that came to its end
pub zero_is_done : (ending : Ending) → status_of ending ≡ 0 → IsTrue (is_done ending)
zero_is_done Usage e = absurd (omega (arith, e))
zero_is_done (Refused report) e = absurd (omega (arith, e))
zero_is_done (Ran Done) e = refl
zero_is_done (Ran Steps) e = absurd (omega (arith, e))
zero_is_done (Ran Calls) e = absurd (omega (arith, e))
zero_is_done (Ran Store) e = absurd (omega (arith, e))
zero_is_done (Ran Text) e = absurd (omega (arith, e))
zero_is_done (Ran (Uncaught x)) e = absurd (omega (arith, e))

pub done_is_zero : (ending : Ending) → IsTrue (is_done ending) → status_of ending ≡ 0
done_is_zero Usage t = cc
done_is_zero (Refused report) t = cc
done_is_zero (Ran Done) t = refl
done_is_zero (Ran Steps) t = cc
done_is_zero (Ran Calls) t = cc
done_is_zero (Ran Store) t = cc
done_is_zero (Ran Text) t = cc
done_is_zero (Ran (Uncaught x)) t = cc

-- status 9 is that of a limit
pub nine_is_limit : (ending : Ending) → status_of ending ≡ 9 → IsTrue (is_limit ending)
nine_is_limit Usage e = absurd (omega (arith, e))
nine_is_limit (Refused report) e = absurd (omega (arith, e))
nine_is_limit (Ran Done) e = absurd (omega (arith, e))
nine_is_limit (Ran Steps) e = refl
nine_is_limit (Ran Calls) e = refl
nine_is_limit (Ran Store) e = refl
nine_is_limit (Ran Text) e = refl
nine_is_limit (Ran (Uncaught x)) e = absurd (omega (arith, e))

pub limit_is_nine : (ending : Ending) → IsTrue (is_limit ending) → status_of ending ≡ 9
limit_is_nine Usage t = cc
limit_is_nine (Refused report) t = cc
limit_is_nine (Ran Done) t = cc
limit_is_nine (Ran Steps) t = refl
limit_is_nine (Ran Calls) t = refl
limit_is_nine (Ran Store) t = refl
limit_is_nine (Ran Text) t = refl
limit_is_nine (Ran (Uncaught x)) t = cc

-- status 7 is that of an exception that left `main`
pub seven_is_uncaught : (ending : Ending) → status_of ending ≡ 7 → IsTrue (is_uncaught ending)
seven_is_uncaught Usage e = absurd (omega (arith, e))
seven_is_uncaught (Refused report) e = absurd (omega (arith, e))
seven_is_uncaught (Ran Done) e = absurd (omega (arith, e))
seven_is_uncaught (Ran Steps) e = absurd (omega (arith, e))
seven_is_uncaught (Ran Calls) e = absurd (omega (arith, e))
seven_is_uncaught (Ran Store) e = absurd (omega (arith, e))
seven_is_uncaught (Ran Text) e = absurd (omega (arith, e))
seven_is_uncaught (Ran (Uncaught x)) e = refl

pub uncaught_is_seven : (ending : Ending) → IsTrue (is_uncaught ending) → status_of ending ≡ 7
uncaught_is_seven Usage t = cc
uncaught_is_seven (Refused report) t = cc
uncaught_is_seven (Ran Done) t = cc
uncaught_is_seven (Ran Steps) t = cc
uncaught_is_seven (Ran Calls) t = cc
uncaught_is_seven (Ran Store) t = cc
uncaught_is_seven (Ran Text) t = cc
uncaught_is_seven (Ran (Uncaught x)) t = refl
