-- The stack of open scopes is what looking back finds.
use Rattle.std.proofs.Common.{◌≡◌, ℕ, zero, suc, ◌+◌, ◌<◌, ◌==◌, ◌||◌, Bool, true, false, List, [], ◌∷◌, ◌++◌, length, reverse, take, get_or, Option, Some, option_map, cond, refl, sym, ap, ◌∙◌, append_assoc, append-nil}
use Rattle.std.proofs.Math.Seq.{take-suc}
use Rattle.std.proofs.lemmas.List.{reverse-append}
use Rattle.kt_model.specs.declared.name_events.NameEvent.{NameEvent}
use Rattle.kt_model.specs.declared.name_events.NameEvent.TheVariants.{Opens, Closes, Parameter, Local, Reads, Calls, Assigns}
use Rattle.kt_model.specs.NameEvents.{Events}
use Rattle.kt_model.specs.NameRules.{is_declared_here}
use Rattle.kt_model.specs.Scopes.{nearest, declared_count, looking_back}
use Rattle.kt_scope.specs.declared.scopes.Open.{Open}
use Rattle.kt_scope.specs.Stack.{closed, variable_in, is_declared_in, opened, given}

-- what stands at a place is the first of what stands up to it, backwards
pub last_of : {A : Type 0} (xs : List A) (i : ℕ) (d : A) → i < length xs → reverse (take (suc i) xs) ≡ get_or xs i d ∷ reverse (take i xs)
last_of xs i d h = ap reverse (take-suc xs i d h) ∙ reverse-append (take i xs) (get_or xs i d ∷ [])

-- without so many of the innermost scopes
abbrev closed_by : ℕ → List Open → List Open
closed_by zero stack = stack
closed_by (suc n) stack = closed_by n (closed stack)

closed_empty : (n : ℕ) → closed_by n [] ≡ []
closed_empty zero = refl
closed_empty (suc n) = closed_empty n

choose : (first k : ℕ) (c : Bool) (x y : Option ℕ) → x ≡ option_map (λ p. first + p) y → cond c (Some (first + k)) x ≡ option_map (λ p. first + p) (cond c (Some k) y)
choose first k true x y e = refl
choose first k false x y e = e

variable_by : (first name n : ℕ) (before : Events) → variable_in name (closed_by n (opened first before)) ≡ option_map (λ p. first + p) (nearest name n before)
variable_by first name n [] = ap (variable_in name) (closed_empty n)
variable_by first name n (Closes ∷ before) = variable_by first name (suc n) before
variable_by first name zero (Opens ∷ before) = variable_by first name zero before
variable_by first name (suc n) (Opens ∷ before) = variable_by first name n before
variable_by first name zero (Parameter w t ∷ before) = choose first (declared_count before) (w.name == name) _ _ (variable_by first name zero before)
variable_by first name (suc n) (Parameter w t ∷ before) = variable_by first name (suc n) before
variable_by first name zero (Local tree w m t ∷ before) = choose first (declared_count before) (w.name == name) _ _ (variable_by first name zero before)
variable_by first name (suc n) (Local tree w m t ∷ before) = variable_by first name (suc n) before
variable_by first name zero (Reads tree w ∷ before) = variable_by first name zero before
variable_by first name (suc n) (Reads tree w ∷ before) = variable_by first name (suc n) before
variable_by first name zero (Calls tree w ∷ before) = variable_by first name zero before
variable_by first name (suc n) (Calls tree w ∷ before) = variable_by first name (suc n) before
variable_by first name zero (Assigns tree w ∷ before) = variable_by first name zero before
variable_by first name (suc n) (Assigns tree w ∷ before) = variable_by first name (suc n) before

-- the innermost variable of the stack is the nearest one
pub variable_is : (first name : ℕ) (before : Events) → variable_in name (opened first before) ≡ option_map (λ p. first + p) (nearest name zero before)
variable_is first name before = variable_by first name zero before

declared_by : (first name n : ℕ) (before : Events) → is_declared_in name (closed_by n (opened first before)) ≡ is_declared_here name n before
declared_by first name n [] = ap (is_declared_in name) (closed_empty n)
declared_by first name n (Closes ∷ before) = declared_by first name (suc n) before
declared_by first name zero (Opens ∷ before) = refl
declared_by first name (suc n) (Opens ∷ before) = declared_by first name n before
declared_by first name zero (Parameter w t ∷ before) = ap (λ b. (w.name == name) || b) (declared_by first name zero before)
declared_by first name (suc n) (Parameter w t ∷ before) = declared_by first name (suc n) before
declared_by first name zero (Local tree w m t ∷ before) = ap (λ b. (w.name == name) || b) (declared_by first name zero before)
declared_by first name (suc n) (Local tree w m t ∷ before) = declared_by first name (suc n) before
declared_by first name zero (Reads tree w ∷ before) = declared_by first name zero before
declared_by first name (suc n) (Reads tree w ∷ before) = declared_by first name (suc n) before
declared_by first name zero (Calls tree w ∷ before) = declared_by first name zero before
declared_by first name (suc n) (Calls tree w ∷ before) = declared_by first name (suc n) before
declared_by first name zero (Assigns tree w ∷ before) = declared_by first name zero before
declared_by first name (suc n) (Assigns tree w ∷ before) = declared_by first name (suc n) before

-- the innermost scope of the stack declares what the one that looking back ends in does
pub declared_is : (first name : ℕ) (before : Events) → is_declared_in name (opened first before) ≡ is_declared_here name zero before
declared_is first name before = declared_by first name zero before

-- ---- what events give

given_behind : {A : Type 0} (f : Events → NameEvent → List A) (before events : Events) → given f before ++ looking_back f before events ≡ given f (reverse events ++ before)
unfolding looking_back
given_behind f before [] = append-nil (given f before)
given_behind f before (event ∷ events) =
    sym (append_assoc (given f before) (f before event) (looking_back f (event ∷ before) events))
    ∙ given_behind f (event ∷ before) events
    ∙ ap (given f) (sym (append_assoc (reverse events) (event ∷ []) before) ∙ ap (λ z. z ++ before) (sym (reverse-append (event ∷ []) events)))

-- all that events give, looking back from each
pub given_all : {A : Type 0} (f : Events → NameEvent → List A) (events : Events) → given f (reverse events) ≡ looking_back f [] events
given_all f events = ap (given f) (sym (append-nil (reverse events))) ∙ sym (given_behind f [] events)
