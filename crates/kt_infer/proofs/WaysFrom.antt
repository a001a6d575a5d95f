-- The ways of arguments from a place on.
use Rattle.std.proofs.Common.{◌≡◌, ℕ, zero, suc, ◌&&◌, Bool, List, [], ◌∷◌, Option, is_some, refl, sym, ap, ◌∙◌, subst}
use Rattle.std.specs.Prelude.{slice_get}
use Rattle.std.specs.Option.{option_and_then}
use Rattle.kt_model.specs.BodyTrees.{Tree, Trees, First'}
use Rattle.kt_typing.specs.Typing.{TypeContext, Ways, Each, Judgements, first_way, rest_ways, judged, all_judged, value_way, parameter_ways}
use Rattle.kt_model.specs.declared.kinds.KtType.{KtType}
use Rattle.kt_typing.specs.declared.claims.Way.{Way}
use Rattle.kt_typing.specs.declared.claims.Way.TheVariants.{Inferred}
use Rattle.kt_infer.specs.Demands.{ways_from}
use Rattle.kt_infer.specs.Noting.{Judges, Continues}
use Rattle.kt_infer.specs.declared.notes.Notes.{Notes}
use Rattle.kt_infer.proofs.Passing.{judges_in, step}

each_from : (way : Way) (place : ℕ) → ways_from place (Each way) ≡ Each way
each_from way zero = refl
each_from way (suc place) = ap rest_ways (each_from way place)

rest_from : (ways : Ways) (place : ℕ) → ways_from place (rest_ways ways) ≡ rest_ways (ways_from place ways)
rest_from ways zero = refl
rest_from ways (suc place) = ap rest_ways (rest_from ways place)

pub way_of_each : (way : Way) (place : ℕ) → first_way (ways_from place (Each way)) ≡ way
way_of_each way place = ap first_way (each_from way place)

pub way_of_parameter : (written : ℕ → Option KtType) (parameters : List ℕ) (place : ℕ)
    → first_way (ways_from place (parameter_ways written parameters)) ≡ value_way (option_and_then written (slice_get parameters place))
way_of_parameter written [] place = way_of_each Inferred place
way_of_parameter written (x ∷ xs) zero = refl
way_of_parameter written (x ∷ xs) (suc place) =
    ap first_way (sym (rest_from (parameter_ways written (x ∷ xs)) place)) ∙ way_of_parameter written xs place

-- a part in the way that is next
pub step_in_way : (cx : TypeContext) {a b c : Notes} {whole left : Judgements} (t : Tree) (rest : Trees) {f : Option KtType} {k m : Bool} (ways : Ways) (i j : ℕ) {way : Way} → i ≡ suc j
    → left ≡ all_judged cx (ways_from j ways) b.locals.entries (First' t rest)
    → Continues a b whole left k → way ≡ first_way (ways_from j ways) → Judges b c (judged cx way b.locals.entries t) f → m ≡ (k && is_some f)
    → Continues a c whole (all_judged cx (ways_from i ways) c.locals.entries rest) m
step_in_way cx {a} {b} {c} {whole} t rest {f} {k} {m} ways i j e l p w q g =
    subst (λ v. Continues a c whole (all_judged cx v c.locals.entries rest) m) (sym (ap (λ n. ways_from n ways) e))
    (step cx t rest (ways_from j ways) l p (judges_in cx t (first_way (ways_from j ways)) w q) g)
