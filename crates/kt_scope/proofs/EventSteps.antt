-- What one event adds to where a pass stands.
use Rattle.std.proofs.Common.{◌≡◌, ℕ, suc, ◌+◌, Bool, List, [], ◌∷◌, ◌++◌, ◌&&◌, not, length, reverse, Option, Some, None, option_map, is_some, refl, sym, ap, ◌∙◌, append_assoc, append-nil, arith, length-append}
use Rattle.std.specs.Prelude.{Result, Ok, Err, OnOk}
use Rattle.std.proofs.lemmas.List.{reverse-append}
use Rattle.kt_tree.specs.declared.token.Span.{Span}
use Rattle.kt_tree.specs.declared.ast.part.Ident.{Ident}
use Rattle.kt_tree.specs.declared.ast.part.TypeRef.{TypeRef}
use Rattle.kt_model.specs.declared.finding.Rule.TheVariants.{UnknownName, NotAValue, NotAFunction, DuplicateLocal}
use Rattle.kt_model.specs.declared.uses.Declaration.{Declaration}
use Rattle.kt_model.specs.declared.name_events.NameEvent.TheVariants.{Opens, Closes, Parameter, Local, Reads, Calls, Assigns}
use Rattle.kt_model.specs.DeclarationRules.{where_}
use Rattle.kt_model.specs.TopNames.{Tops}
use Rattle.kt_model.specs.NameEvents.{Events}
use Rattle.kt_model.specs.NameRules.{name_rules, is_unnamed, is_function}
use Rattle.kt_model.specs.Scopes.{Top, OfFunction, OfClass, Unnamed, top_named, nearest, declared_count, declaration_by, first_variable, use_of, function_of, use_by}
use Rattle.kt_scope.specs.declared.scopes.Open.{Open}
use Rattle.kt_scope.specs.declared.scopes.Open.TheVariants.{Scope, Variable}
use Rattle.kt_scope.specs.declared.resolver.Resolver.{Resolver}
use Rattle.kt_scope.specs.Stack.{closed, variable_in, is_declared_in, opened, value_findings, call_findings, Reaches}
use Rattle.kt_scope.proofs.Steps.{variable_is, declared_is}

-- one more at the end
more : {A : Type 0} {new old : List A} (start given' added : List A) → new ≡ old ++ added → old ≡ start ++ given' → new ≡ start ++ (given' ++ added)
more start g a e f = e ∙ ap (λ z. z ++ a) f ∙ append_assoc start g a

more_given : {A : Type 0} {new old : List A} (given' added same : List A) → new ≡ old ++ added → old ≡ given' → added ≡ same → new ≡ given' ++ same
more_given g a same e f s = e ∙ ap (λ z. z ++ a) f ∙ ap (λ z. g ++ z) s

none_given : {A : Type 0} {new old : List A} (given' : List A) → new ≡ old → old ≡ given' → new ≡ given' ++ []
none_given g e f = e ∙ f ∙ sym (append-nil g)

none_declared : {A : Type 0} {new old : List A} (start given' : List A) → new ≡ old → old ≡ start ++ given' → new ≡ start ++ (given' ++ [])
none_declared s g e f = e ∙ f ∙ ap (λ z. s ++ z) (sym (append-nil g))

pushed : (new old stack : List Open) (o : Open) → new ≡ old ++ o ∷ [] → reverse old ≡ stack → reverse new ≡ o ∷ stack
pushed new old stack o e f = ap reverse e ∙ reverse-append old (o ∷ []) ∙ ap (λ z. o ∷ z) f

-- what is violated at a value's name
value_rules : (first : ℕ) (x : Option ℕ) (t : Top) (span : Span) → value_findings (option_map (λ p. first + p) x) t span ≡ where_ (not (is_some x) && is_unnamed t) UnknownName span ++ where_ (not (is_some x) && not (is_unnamed t)) NotAValue span ++ [] ++ []
value_rules first (Some p) (OfFunction d) span = refl
value_rules first (Some p) OfClass span = refl
value_rules first (Some p) Unnamed span = refl
value_rules first None (OfFunction d) span = refl
value_rules first None OfClass span = refl
value_rules first None Unnamed span = refl

-- what is violated at the name of a call
call_rules : (first : ℕ) (x : Option ℕ) (t : Top) (span : Span) → call_findings (option_map (λ p. first + p) x) t span ≡ where_ (not (is_function t) && not (is_some x && is_unnamed t)) UnknownName span ++ [] ++ where_ (is_some x && is_unnamed t) NotAFunction span ++ []
call_rules first (Some p) (OfFunction d) span = refl
call_rules first (Some p) OfClass span = refl
call_rules first (Some p) Unnamed span = refl
call_rules first None (OfFunction d) span = refl
call_rules first None OfClass span = refl
call_rules first None Unnamed span = refl

pub opens : {A E : Type 0} (r : Result A E) (tops : Tops) (start : List Declaration) (before : Events) (old new : Resolver) → Reaches tops start before old → OnOk r (new.scopes.items ≡ old.scopes.items ++ Scope ∷ []) → new.declared.items ≡ old.declared.items → new.rows.items ≡ old.rows.items → new.found.items ≡ old.found.items → OnOk r (Reaches tops start (Opens ∷ before) new)
unfolding use_by name_rules
opens (Ok a) tops start before old new at scopes declared rows found = record {
  scopes = pushed _ _ _ Scope scopes at.scopes;
  count = ap length declared ∙ at.count;
  declared = none_declared _ _ declared at.declared;
  uses = none_given _ rows at.uses;
  found = none_given _ found at.found;
}
opens (Err x) tops start before old new at scopes declared rows found = tt

pub closes : (tops : Tops) (start : List Declaration) (before : Events) (old new : Resolver) → Reaches tops start before old → reverse new.scopes.items ≡ closed (reverse old.scopes.items) → new.declared.items ≡ old.declared.items → new.rows.items ≡ old.rows.items → new.found.items ≡ old.found.items → Reaches tops start (Closes ∷ before) new
unfolding use_by name_rules
closes tops start before old new at scopes declared rows found = record {
  scopes = scopes ∙ ap closed at.scopes;
  count = ap length declared ∙ at.count;
  declared = none_declared _ _ declared at.declared;
  uses = none_given _ rows at.uses;
  found = none_given _ found at.found;
}

one_more : (tops : Tops) (before : Events) (old new : Resolver) (d : Declaration) → new.declared.items ≡ old.declared.items ++ d ∷ [] → length old.declared.items ≡ first_variable tops + declared_count before → length new.declared.items ≡ first_variable tops + suc (declared_count before)
one_more tops before old new d e count = ap length e ∙ length-append old.declared.items (d ∷ []) ∙ omega (arith, count)

pub parameter : {A E : Type 0} (r : Result A E) (tops : Tops) (start : List Declaration) (before : Events) (old new : Resolver) (w : Ident) (t : TypeRef) → Reaches tops start before old → OnOk r (new.scopes.items ≡ old.scopes.items ++ Variable w.name (length old.declared.items) ∷ []) → OnOk r (new.declared.items ≡ old.declared.items ++ declaration_by tops (Parameter w t)) → new.rows.items ≡ old.rows.items → new.found.items ≡ old.found.items → OnOk r (Reaches tops start (Parameter w t ∷ before) new)
unfolding use_by name_rules
parameter (Ok a) tops start before old new w t at scopes declared rows found = record {
  scopes = pushed _ _ _ (Variable w.name (length old.declared.items)) scopes at.scopes ∙ ap (λ n. Variable w.name n ∷ opened (first_variable tops) before) at.count;
  count = one_more tops before old new _ declared at.count;
  declared = more _ _ _ declared at.declared;
  uses = none_given _ rows at.uses;
  found = none_given _ found at.found;
}
parameter (Err x) tops start before old new w t at scopes declared rows found = tt

pub local : {A E : Type 0} (r : Result A E) (tops : Tops) (start : List Declaration) (before : Events) (old new : Resolver) (tree : ℕ) (w : Ident) (m : Bool) (t : Option TypeRef) → Reaches tops start before old → OnOk r (new.scopes.items ≡ old.scopes.items ++ Variable w.name (length old.declared.items) ∷ []) → OnOk r (new.declared.items ≡ old.declared.items ++ declaration_by tops (Local tree w m t)) → OnOk r (new.rows.items ≡ old.rows.items ++ use_of tree (Some (length old.declared.items))) → OnOk r (new.found.items ≡ old.found.items ++ where_ (is_declared_in w.name (reverse old.scopes.items)) DuplicateLocal w.span) → OnOk r (Reaches tops start (Local tree w m t ∷ before) new)
unfolding use_by name_rules
local (Ok a) tops start before old new tree w m t at scopes declared rows found = record {
  scopes = pushed _ _ _ (Variable w.name (length old.declared.items)) scopes at.scopes ∙ ap (λ n. Variable w.name n ∷ opened (first_variable tops) before) at.count;
  count = one_more tops before old new _ declared at.count;
  declared = more _ _ _ declared at.declared;
  uses = more_given _ _ _ rows at.uses (ap (λ n. use_of tree (Some n)) at.count);
  found = more_given _ _ _ found at.found (ap (λ s. where_ (is_declared_in w.name s) DuplicateLocal w.span) at.scopes ∙ ap (λ b. where_ b DuplicateLocal w.span) (declared_is (first_variable tops) w.name before));
}
local (Err x) tops start before old new tree w m t at scopes declared rows found = tt

pub reads : {A E : Type 0} (r : Result A E) (tops : Tops) (start : List Declaration) (before : Events) (old new : Resolver) (tree : ℕ) (w : Ident) → Reaches tops start before old → OnOk r (new.rows.items ≡ old.rows.items ++ use_of tree (variable_in w.name (reverse old.scopes.items))) → OnOk r (new.found.items ≡ old.found.items ++ value_findings (variable_in w.name (reverse old.scopes.items)) (top_named tops w.name) w.span) → new.scopes.items ≡ old.scopes.items → new.declared.items ≡ old.declared.items → OnOk r (Reaches tops start (Reads tree w ∷ before) new)
unfolding use_by name_rules
reads (Ok a) tops start before old new tree w at rows found scopes declared =
    let named = ap (variable_in w.name) at.scopes ∙ variable_is (first_variable tops) w.name before in
    record {
      scopes = ap reverse scopes ∙ at.scopes;
      count = ap length declared ∙ at.count;
      declared = none_declared _ _ declared at.declared;
      uses = more_given _ _ _ rows at.uses (ap (use_of tree) named);
      found = more_given _ _ _ found at.found (ap (λ x. value_findings x (top_named tops w.name) w.span) named ∙ value_rules (first_variable tops) (nearest w.name 0 before) (top_named tops w.name) w.span);
    }
reads (Err x) tops start before old new tree w at rows found scopes declared = tt

pub assigns : {A E : Type 0} (r : Result A E) (tops : Tops) (start : List Declaration) (before : Events) (old new : Resolver) (tree : ℕ) (w : Ident) → Reaches tops start before old → OnOk r (new.rows.items ≡ old.rows.items ++ use_of tree (variable_in w.name (reverse old.scopes.items))) → OnOk r (new.found.items ≡ old.found.items ++ value_findings (variable_in w.name (reverse old.scopes.items)) (top_named tops w.name) w.span) → new.scopes.items ≡ old.scopes.items → new.declared.items ≡ old.declared.items → OnOk r (Reaches tops start (Assigns tree w ∷ before) new)
unfolding use_by name_rules
assigns (Ok a) tops start before old new tree w at rows found scopes declared =
    let named = ap (variable_in w.name) at.scopes ∙ variable_is (first_variable tops) w.name before in
    record {
      scopes = ap reverse scopes ∙ at.scopes;
      count = ap length declared ∙ at.count;
      declared = none_declared _ _ declared at.declared;
      uses = more_given _ _ _ rows at.uses (ap (use_of tree) named);
      found = more_given _ _ _ found at.found (ap (λ x. value_findings x (top_named tops w.name) w.span) named ∙ value_rules (first_variable tops) (nearest w.name 0 before) (top_named tops w.name) w.span);
    }
assigns (Err x) tops start before old new tree w at rows found scopes declared = tt

pub calls : {A E : Type 0} (r : Result A E) (tops : Tops) (start : List Declaration) (before : Events) (old new : Resolver) (tree : ℕ) (w : Ident) → Reaches tops start before old → OnOk r (new.rows.items ≡ old.rows.items ++ use_of tree (function_of (top_named tops w.name))) → OnOk r (new.found.items ≡ old.found.items ++ call_findings (variable_in w.name (reverse old.scopes.items)) (top_named tops w.name) w.span) → new.scopes.items ≡ old.scopes.items → new.declared.items ≡ old.declared.items → OnOk r (Reaches tops start (Calls tree w ∷ before) new)
unfolding use_by name_rules
calls (Ok a) tops start before old new tree w at rows found scopes declared =
    let named = ap (variable_in w.name) at.scopes ∙ variable_is (first_variable tops) w.name before in
    record {
      scopes = ap reverse scopes ∙ at.scopes;
      count = ap length declared ∙ at.count;
      declared = none_declared _ _ declared at.declared;
      uses = more_given _ _ _ rows at.uses refl;
      found = more_given _ _ _ found at.found (ap (λ x. call_findings x (top_named tops w.name) w.span) named ∙ call_rules (first_variable tops) (nearest w.name 0 before) (top_named tops w.name) w.span);
    }
calls (Err x) tops start before old new tree w at rows found scopes declared = tt
