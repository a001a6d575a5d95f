use Rattle.kt_model.proofs.BodyFolds.{name_of_kind, not_name, kind_name}
use Rattle.kt_flow.proofs.walk.name_of.Goals as goal

pub returns-in-Name : goal.returns-in-Name
returns-in-Name c uses = name_of_kind uses c.args.e.now _ _ c.in-Name.is (kind_name uses c.in-Name.field-0)

pub returns-in_default : goal.returns-in_default
returns-in_default c uses = not_name uses c.args.e.now c.in_default.not-Name
