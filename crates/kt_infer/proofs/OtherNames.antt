-- What a name is that stands for nothing that fits.
use Rattle.std.proofs.Common.{◌≡◌, ◌≢◌, ℕ, Bool, Option, None, refl}
use Rattle.kt_tree.specs.declared.token.Span.{Span}
use Rattle.kt_tree.specs.declared.ast.part.Assignment.{Assignment}
use Rattle.kt_model.specs.declared.uses.Named.{Named}
use Rattle.kt_model.specs.declared.uses.Named.TheVariants as named
use Rattle.kt_model.specs.BodyTrees.{Trees, Mark, Seen, Shut', whole, name_tree, call_tree, local_tree, assign_tree}

pub no_name : (m : Named) (n : ℕ) (at : Span) → ((x : ℕ) (fixed : Bool) → m ≢ named.Variable x fixed) → name_tree m n at ≡ Shut' (whole n at)
no_name (named.Variable x fixed) n at h = absurd (h x fixed refl)
no_name (named.Function f returns) n at h = refl
no_name (named.BuiltIn name returns) n at h = refl
no_name named.Other n at h = refl

pub no_local : (m : Named) (n : Mark) (e : Option Seen) → ((x : ℕ) (fixed : Bool) → m ≢ named.Variable x fixed) → local_tree m n e ≡ Shut' n
no_local (named.Variable x fixed) n e h = absurd (h x fixed refl)
no_local (named.Function f returns) n e h = refl
no_local (named.BuiltIn name returns) n e h = refl
no_local named.Other n e h = refl

pub no_target : (m : Named) (n : ℕ) (at : Span) (word : Option Span) (a : Assignment) (e : Option Seen) → ((x : ℕ) (fixed : Bool) → m ≢ named.Variable x fixed) → assign_tree m n at word a e ≡ Shut' (whole n at)
no_target (named.Variable x fixed) n at word a e h = absurd (h x fixed refl)
no_target (named.Function f returns) n at word a e h = refl
no_target (named.BuiltIn name returns) n at word a e h = refl
no_target named.Other n at word a e h = refl

pub no_word : (m : Named) (n : ℕ) (at : Span) (a : Assignment) (e : Option Seen) → assign_tree m n at None a e ≡ Shut' (whole n at)
no_word (named.Variable x fixed) n at a e = refl
no_word (named.Function f returns) n at a e = refl
no_word (named.BuiltIn name returns) n at a e = refl
no_word named.Other n at a e = refl

pub no_call : (m : Named) (parts : Trees) (n : Mark) → ((f : ℕ) (returns : Bool) → m ≢ named.Function f returns) → ((name : ℕ) (returns : Bool) → m ≢ named.BuiltIn name returns) → call_tree m parts n ≡ Shut' n
no_call (named.Variable x fixed) parts n h k = refl
no_call (named.Function f returns) parts n h k = absurd (h f returns refl)
no_call (named.BuiltIn name returns) parts n h k = absurd (k name returns refl)
no_call named.Other parts n h k = refl
