use Rattle.std.proofs.Common.{◌≡◌, ◌+◌, ◌∙◌, ◌↔◌, [], map, length, Contains, ap, sym, subst}
use Rattle.std.specs.List.Sorted.{IsStrictlyIncreasing}
use Rattle.kt_model.specs.declared.uses.UseRow.{UseRow}
use Rattle.kt_model.specs.NameUses.{Resolved}
use Rattle.kt_model.specs.NameEvents.{file_events}
use Rattle.kt_model.specs.TopNames.{top_names}
use Rattle.kt_model.specs.Scopes.{looking_back, use_by, parameters_from}
use Rattle.kt_scope.proofs.Whole.{first_is, none_there}
use Rattle.kt_scope.proofs.uses.resolve.Goals as goal

pub returns-clause-uses : goal.returns-clause-uses
returns-clause-uses c =
    let rows = ap (λ (u : Resolved). u.rows) c.new.ensures ∙ c.from_vec-2.ensures in
    record {
      same_declared = ap (λ (u : Resolved). u.declared) c.new.ensures ∙ c.from_vec.ensures ∙ c.in_ok-resolver.ensures.declared;
      rising = subst (λ z. IsStrictlyIncreasing (map (λ (row : UseRow). row.tree) z)) (sym rows) c.in_ok-rows.ensures.rising;
      same_uses = subst (λ z. (row : UseRow) → Contains z row ↔ Contains (looking_back (use_by (top_names c.args.file.now)) [] (file_events c.args.file.now)) row) (sym rows) (subst (λ z. (row : UseRow) → Contains c.in_ok-rows.rows.items row ↔ Contains z row) c.in_ok-resolver.ensures.rows c.in_ok-rows.ensures.same);
      same_parameters = ap (λ (u : Resolved). u.parameters) c.new.ensures ∙ c.in_ok-parameters.ensures ∙ ap (λ fs. parameters_from (5 + length fs) fs) c.as_slice-functions.ensures ∙ ap (λ n. parameters_from n c.args.file.now.functions) (first_is c.args.file.now);
    }

pub returns-clause-accepted : goal.returns-clause-accepted
returns-clause-accepted c f violated =
    let empty : c.all_found-found.result ≡ [] = c.is_empty.ensures.0 c.if-not-is_empty.false in
    none_there f (subst (λ z. Contains z f) empty (c.all_found-found.ensures.all f violated))
