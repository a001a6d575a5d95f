-- Runs that are worked out by hand, as small programs over plain trees. This project's own.
use Rattle.std.specs.Prelude.{◌≡◌, ℕ, List, [], ◌∷◌, ◌++◌, codes, Option, Some, None, Bool, true, false, ◌==◌, if◌then◌else◌}
use Rattle.kt_tree.specs.declared.token.Span.{Span}
use Rattle.kt_tree.specs.declared.ast.part.Sign.TheVariants.{Minus}
use Rattle.kt_tree.specs.declared.ast.part.Arithmetic.TheVariants.{Subtract, Divide, Remainder}
use Rattle.kt_tree.specs.declared.ast.part.Comparison.{Comparison}
use Rattle.kt_tree.specs.declared.ast.part.Comparison.TheVariants.{Less, Greater, LessOrEqual, GreaterOrEqual}
use Rattle.kt_tree.specs.declared.ast.part.Equality.{Equality}
use Rattle.kt_tree.specs.declared.ast.part.Equality.TheVariants.{Equal, NotEqual}
use Rattle.kt_model.specs.BodyTrees.{Mark, Braces, Tree, Trees, Empty', First', Int', Bool', Template', Sign', Sum', Arithmetic', Compare', Equal', BuiltIn', Operation', Name', Not', And', Or', If', Local', Assign', Compound', Call', Return', listed}
use Rattle.kt_model.specs.declared.kinds.Head.TheVariants as head
use Rattle.kt_mean.specs.Events.{Event, Printed}
use Rattle.kt_mean.specs.Frames.{Outcome}
use Rattle.kt_mean.specs.declared.states.Value.{Value}
use Rattle.kt_mean.specs.Evaluation.{Function, Program, println_name, print_name, require_name, check_name, error_name}
use Rattle.kt_mean.specs.WholeRun.{whole, run_ending}
use Rattle.kt_mean.specs.declared.states.Exception.TheVariants.{DivisionByZero, FailedRequirement, FailedCheck, Error}
use Rattle.kt_mean.specs.declared.states.RunEnding.{RunEnding}
use Rattle.kt_mean.specs.declared.states.RunEnding.TheVariants as end

abbrev nowhere : Span
nowhere = record { start = 0; end = 0 }

-- trees need no numbers here
abbrev mark : Mark
mark = record { number = 0; span = nowhere; word = nowhere }

-- nor places of their blocks
abbrev braces : Braces
braces = record { first = None; second = None }

abbrev int : ℕ → Tree
int k = Operation' mark (Int' k) Empty'

abbrev bool : Bool → Tree
bool b = Operation' mark (Bool' b) Empty'

abbrev both : Tree → Tree → Trees
both a b = First' a (First' b Empty')

abbrev println : Tree → Tree
println e = Operation' mark (BuiltIn' println_name true) (First' e Empty')

abbrev print : Tree → Tree
print e = Operation' mark (BuiltIn' print_name true) (First' e Empty')

-- each is printed on a line of its own
abbrev all_printed : List Tree → Trees
all_printed [] = Empty'
all_printed (e ∷ es) = First' (println e) (all_printed es)

-- a string without parts
abbrev text : (bytes : List ℕ) → Tree
text bytes = Operation' mark (Template' (Some bytes ∷ [])) Empty'

abbrev sum : Tree → Tree → Tree
sum a b = Operation' mark Sum' (both a b)

abbrev require : Tree → Tree
require e = Operation' mark (BuiltIn' require_name true) (First' e Empty')

abbrev check : Tree → Tree
check e = Operation' mark (BuiltIn' check_name true) (First' e Empty')

abbrev error : Tree → Tree
error e = Operation' mark (BuiltIn' error_name false) (First' e Empty')

-- the edges of Int
abbrev most : Tree
most = int 2147483647

abbrev minus : Tree → Tree
minus e = Operation' mark (Sign' Minus) (First' e Empty')

abbrev least : Tree
least = Operation' mark (Arithmetic' Subtract) (both (minus most) (int 1))

abbrev quotient : Tree → Tree → Tree
quotient a b = Operation' mark (Arithmetic' Divide) (both a b)

abbrev rest : Tree → Tree → Tree
rest a b = Operation' mark (Arithmetic' Remainder) (both a b)

abbrev compare : Comparison → Tree → Tree → Tree
compare o a b = Operation' mark (Compare' o) (both a b)

abbrev equal : Equality → Tree → Tree → Tree
equal o a b = Operation' mark (Equal' o) (both a b)

abbrev if_alone : Tree → Trees → Tree
if_alone c a = If' mark braces c a Empty'

-- if (c) print(1) else print(2)
abbrev one_or_two : Tree → Tree
one_or_two c = If' mark braces c (First' (print (int 1)) Empty') (First' (print (int 2)) Empty')

abbrev unit_function : List ℕ → Trees → Function
unit_function parameters body = record { parameters = parameters; body = body; is_expression = false; result = Some (record { head = head.Unit; nullable = false }) }

-- `main`, and one other function; no type is written and no tree is dead
abbrev program : Function → Function → Program
program main other = record { functions = λ n. if n == 0 then Some main else Some other; written = λ x. None; dead = λ n. false; main = 0 }

abbrev run_of : Trees → Function → ℕ → Outcome Value
run_of body other steps = whole (program (unit_function [] body) other) steps []

abbrev alone : Tree → Trees
alone t = First' t Empty'

abbrev no_other : Function
no_other = unit_function [] Empty'

-- it prints 1 and returns `true`
abbrev prints_and_holds : Function
prints_and_holds =
    record { parameters = []; body = both (print (int 1)) (Return' mark (alone (bool true))); is_expression = false; result = Some (record { head = head.Boolean; nullable = false }) }

-- what `println` prints
abbrev line : (text : List ℕ) → Event
line text = Printed (text ++ 10 ∷ [])

-- of a truth value
abbrev true_line : Event
true_line = Printed (codes "true" ++ 10 ∷ [])

abbrev false_line : Event
false_line = Printed (codes "false" ++ 10 ∷ [])

abbrev call : Trees → Tree
call arguments = Call' mark 1 true arguments

-- a run of a body, with another function, prints these texts and ends so; by a wrong use where it has no end
pub record Runs (body : Trees) (other : Function) (steps : ℕ) (events : List Event) (ending : Option RunEnding) : Type 0 where
  pub events_are : (run_of body other steps).events ≡ events
  pub ends : run_ending (run_of body other steps).ending ≡ ending

pub record WorkedRuns : Type 0 where
  -- 2147483647 + 1
  pub sum_wraps : Runs (alone (println (Operation' mark Sum' (both (int 2147483647) (int 1))))) no_other 10 (Printed (codes "-2147483648" ++ 10 ∷ []) ∷ []) (Some end.Done)
  -- f(print(1), print(2))
  pub left_first : Runs (alone (call (both (print (int 1)) (print (int 2))))) (unit_function (1 ∷ 2 ∷ []) Empty') 10 (Printed (codes "1") ∷ Printed (codes "2") ∷ []) (Some end.Done)
  -- x += 1, where x holds nothing and no step is left for the operand
  pub old_value_first : Runs (alone (Compound' mark nowhere 1 false Sum' (alone (int 1)))) no_other 1 [] None
  -- val x = 1; x = 2
  pub val_twice : Runs (First' (Local' mark nowhere 1 (int 1)) (alone (Assign' mark nowhere 1 true (int 2)))) no_other 10 [] None
  -- var x = 1; x++; println(x)
  pub counted_up : Runs (First' (Local' mark nowhere 1 (int 1)) (First' (Compound' mark nowhere 1 false Sum' Empty') (alone (println (Name' mark nowhere 1))))) no_other 10 (Printed (codes "2" ++ 10 ∷ []) ∷ []) (Some end.Done)
  -- println(1); println(2) with three steps
  pub steps_end : Runs (First' (println (int 1)) (alone (println (int 2)))) no_other 3 (Printed (codes "1" ++ 10 ∷ []) ∷ []) (Some end.Steps)
  -- a function that calls itself: with `main`, sixteen calls are under way after fifteen steps
  pub last_call : Runs (alone (call Empty')) (unit_function [] (alone (call Empty'))) 15 [] (Some end.Steps)
  pub one_call_more : Runs (alone (call Empty')) (unit_function [] (alone (call Empty'))) 16 [] (Some end.Calls)
  -- println(false && f()), where f prints 1 and returns true
  pub and_stops : Runs (alone (println (And' mark (bool false) (call Empty')))) prints_and_holds 20 (false_line ∷ []) (Some end.Done)
  -- println(true && f())
  pub and_goes_on : Runs (alone (println (And' mark (bool true) (call Empty')))) prints_and_holds 20 (Printed (codes "1") ∷ true_line ∷ []) (Some end.Done)
  -- println(true || f())
  pub or_stops : Runs (alone (println (Or' mark (bool true) (call Empty')))) prints_and_holds 20 (true_line ∷ []) (Some end.Done)
  -- println(false || f())
  pub or_goes_on : Runs (alone (println (Or' mark (bool false) (call Empty')))) prints_and_holds 20 (Printed (codes "1") ∷ true_line ∷ []) (Some end.Done)
  -- if (true) print(1) else print(2); if (!true) print(1) else print(2); if (false) print(1)
  pub branches_taken : Runs
      (listed (one_or_two (bool true) ∷ one_or_two (Not' mark (bool true)) ∷ if_alone (bool false) (alone (print (int 1))) ∷ [])) no_other 20
      (Printed (codes "1") ∷ Printed (codes "2") ∷ []) (Some end.Done)
  -- if (true) { if (true) { return }; print(1) }; print(2)
  pub returns_from_inside : Runs
      (both (if_alone (bool true) (both (if_alone (bool true) (alone (Return' mark Empty'))) (print (int 1)))) (print (int 2))) no_other 20
      [] (Some end.Done)
  -- println(-2147483648 < 2147483647), and so on at the edges of Int: each operator where it holds and where it doesn't
  pub edges_compared : Runs
      (all_printed (compare Less least most ∷ compare Less most most ∷ compare LessOrEqual least least ∷ compare LessOrEqual most least
      ∷ compare Greater most least ∷ compare Greater least least ∷ compare GreaterOrEqual most most ∷ compare GreaterOrEqual least most ∷ [])) no_other 90
      (true_line ∷ false_line ∷ true_line ∷ false_line ∷ true_line ∷ false_line ∷ true_line ∷ false_line ∷ []) (Some end.Done)
  -- println(-2147483648 == 2147483647); println(2 != 1 + 1); println(true == false); println(1 == true); println(print(1) == print(2))
  pub equal_values : Runs
      (all_printed (equal Equal least most ∷ equal NotEqual (int 2) (Operation' mark Sum' (both (int 1) (int 1))) ∷ equal Equal (bool true) (bool false)
      ∷ equal Equal (int 1) (bool true) ∷ equal Equal (print (int 1)) (print (int 2)) ∷ [])) no_other 40
      (false_line ∷ false_line ∷ false_line ∷ false_line ∷ Printed (codes "1") ∷ Printed (codes "2") ∷ true_line ∷ []) (Some end.Done)
  -- println(7 / 2); println(-7 / 2); println(-7 % 2); println(7 % -2); println(-2147483648 / -1); println(-2147483648 % -1)
  pub numbers_divided : Runs
      (all_printed (quotient (int 7) (int 2) ∷ quotient (minus (int 7)) (int 2) ∷ rest (minus (int 7)) (int 2) ∷ rest (int 7) (minus (int 2))
      ∷ quotient least (minus (int 1)) ∷ rest least (minus (int 1)) ∷ [])) no_other 60
      (line (codes "3") ∷ line (codes "-3") ∷ line (codes "-1") ∷ line (codes "1") ∷ line (codes "-2147483648") ∷ line (codes "0") ∷ []) (Some end.Done)
  -- println(1); f(); println(2), where f prints 3, divides by zero and prints 4
  pub thrown_out_of_a_call : Runs
      (First' (println (int 1)) (both (call Empty') (println (int 2)))) (unit_function [] (First' (print (int 3)) (both (rest (int 1) (int 0)) (print (int 4))))) 30
      (line (codes "1") ∷ Printed (codes "3") ∷ []) (Some (end.Uncaught DivisionByZero))
  -- var x = 1; x /= 0; println(x)
  pub thrown_before_a_store : Runs
      (First' (Local' mark nowhere 1 (int 1)) (both (Compound' mark nowhere 1 false (Arithmetic' Divide) (alone (int 0))) (println (Name' mark nowhere 1)))) no_other 20
      [] (Some (end.Uncaught DivisionByZero))
  -- println("a" + 1 + true); println("" + "b")
  pub texts_joined : Runs
      (all_printed (sum (sum (text (codes "a")) (int 1)) (bool true) ∷ sum (text []) (text (codes "b")) ∷ [])) no_other 20
      (line (codes "a1true") ∷ line (codes "b") ∷ []) (Some end.Done)
  -- println("a" + "b" == "ab"); println("a" != "b"); println("a" == "ab"); println("1" == 1)
  pub texts_compared : Runs
      (all_printed (equal Equal (sum (text (codes "a")) (text (codes "b"))) (text (codes "ab")) ∷ equal NotEqual (text (codes "a")) (text (codes "b"))
      ∷ equal Equal (text (codes "a")) (text (codes "ab")) ∷ equal Equal (text (codes "1")) (int 1) ∷ [])) no_other 40
      (true_line ∷ true_line ∷ false_line ∷ false_line ∷ []) (Some end.Done)
  -- println("${1} and ${"b"}")
  pub strings_filled : Runs
      (alone (println (Operation' mark (Template' (None ∷ Some (codes " and ") ∷ None ∷ [])) (both (int 1) (text (codes "b")))))) no_other 20
      (line (codes "1 and b") ∷ []) (Some end.Done)
  -- require(true); check(true); println(1)
  pub demands_met : Runs (First' (require (bool true)) (both (check (bool true)) (println (int 1)))) no_other 20 (line (codes "1") ∷ []) (Some end.Done)
  -- println(1); require(false); println(2)
  pub demand_failed : Runs (First' (println (int 1)) (both (require (bool false)) (println (int 2)))) no_other 20 (line (codes "1") ∷ []) (Some (end.Uncaught FailedRequirement))
  -- check(false)
  pub check_failed : Runs (alone (check (bool false))) no_other 20 [] (Some (end.Uncaught FailedCheck))
  -- error("no"); println(1)
  pub error_of_a_text : Runs (both (error (text (codes "no"))) (println (int 1))) no_other 20 [] (Some (end.Uncaught (Error (codes "no"))))
  -- error(7)
  pub error_of_a_number : Runs (alone (error (int 7))) no_other 20 [] (Some (end.Uncaught (Error (codes "7"))))
  -- println(1 + "a")
  pub number_plus_text : Runs (alone (println (sum (int 1) (text (codes "a"))))) no_other 20 [] None
  -- if (1) print(1)
  pub number_as_condition : Runs (alone (if_alone (int 1) (alone (print (int 1))))) no_other 10 [] None
