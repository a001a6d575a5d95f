use Rattle.kt_check.specs.Violations.{in_declarations}
use Rattle.kt_check.proofs.OneVerdict.{accepted_file}
use Rattle.kt_check.proofs.checking.judge.Goals as goal

pub main_place-requires : goal.main_place-requires
main_place-requires c f v = c.in-Ok.ensures.clear.none 4 f (in_declarations f v)

pub returns-in_ok-main-in-Ok : goal.returns-in_ok-main-in-Ok
returns-in_ok-main-in-Ok c = λ source has.
    let laws = c.files_are_determined.ensures in
    record {
      accepted = accepted_file laws.one_file laws.one_finding laws.not_both source c.args.file c.in-Ok.uses has c.in-Ok.ensures.clear;
      is_main = c.in_ok-main-in-Ok.ensures;
      settled = c.in-Ok.ensures.clear.settled;
    }
