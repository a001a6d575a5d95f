-- What each form of tree does, over the meaning `go` of its parts.
--
-- From the Kotlin specification, "Statements", "Expressions" and "Function declaration"; that each entering of a tree costs one step, and the
-- limits on calls, cells and texts, are this project's own. One definition for each form; only `eval` recurses, on a number that bounds how deep trees are entered in
-- one another.
--
-- A wrong use is: a local that holds nothing is read; a `val` or parameter that holds a value is assigned; an operand is of another kind than its operator
-- needs; a condition is no truth value; an argument, an assigned or a returned value lies outside the written type; a dead tree is entered; a function
-- whose result isn't `Unit` ends without a value. There are no types in a state: what a value is, is looked at here each time, and never in the code.
use Rattle.std.specs.Prelude.{ℕ, zero, suc, ◌+◌, ◌-◌, ◌==◌, nat_lt, ℤ, pos, int_lt, int_le, int_rem, Bool, true, false, ◌&&◌, ◌||◌, not, Option, Some, None, List, [], ◌∷◌, ◌++◌, length, bytes_eq, option_map, codes, if◌then◌else◌}
use Rattle.std.specs.Int.{w32, int_wrapping_add, int_wrapping_sub, int_wrapping_mul, int_wrapping_div, int_wrapping_neg}
use Rattle.std.specs.Ordering.{int_eq}
use Rattle.std.specs.Fmt.{signed_decimal}
use Rattle.kt_tree.specs.declared.ast.part.Sign.{Sign}
use Rattle.kt_tree.specs.declared.ast.part.Sign.TheVariants as sign
use Rattle.kt_tree.specs.declared.ast.part.Arithmetic.{Arithmetic}
use Rattle.kt_tree.specs.declared.ast.part.Arithmetic.TheVariants as arithmetic
use Rattle.kt_tree.specs.declared.ast.part.Comparison.{Comparison}
use Rattle.kt_tree.specs.declared.ast.part.Comparison.TheVariants as comparison
use Rattle.kt_tree.specs.declared.ast.part.Equality.{Equality}
use Rattle.kt_tree.specs.declared.ast.part.Equality.TheVariants as equality
use Rattle.kt_model.specs.declared.kinds.KtType.{KtType}
use Rattle.kt_model.specs.declared.kinds.Head.TheVariants as head
use Rattle.kt_model.specs.Classes.{any}
use Rattle.kt_model.specs.Subtypes.{class_of}
use Rattle.kt_model.specs.BodyTrees.{Operation, Int', Bool', Template', Sign', Sum', Arithmetic', Compare', Equal', BuiltIn', Tree, Trees, Empty', First', Operation', Name', Paren', Not', And', Or', If', Declare', Local', Assign', Compound', Call', Return', number}
use Rattle.kt_mean.specs.Events.{Printed}
use Rattle.kt_mean.specs.Frames.{Locals, no_locals, with_local, Frame, State, Ending, Gave, Left, Over, Wrong, Run, ◌>>=◌, pure, leave, over, wrong, turned}
use Rattle.kt_mean.specs.declared.states.Value.{Value}
use Rattle.kt_mean.specs.declared.states.Value.TheVariants as value
use Rattle.kt_mean.specs.declared.states.Exception.{Exception}
use Rattle.kt_mean.specs.declared.states.Exception.TheVariants.{DivisionByZero, FailedRequirement, FailedCheck, Error}
use Rattle.kt_mean.specs.declared.states.Way.TheVariants as way
use Rattle.kt_mean.specs.declared.states.Limit.TheVariants as limit

-- A function: the declarations of its parameters, its body, whether that is an expression and no block, and its written result; that of a block without one
-- is `Unit`.
pub record Function : Type 0 where
  pub parameters : List ℕ
  pub body : Trees
  pub is_expression : Bool
  pub result : Option KtType

-- The functions of a file, by their places; the written type of each local and parameter, by its declaration; which trees are dead, by their numbers; the
-- place of `main`.
pub record Program : Type 0 where
  pub functions : ℕ → Option Function
  pub written : ℕ → Option KtType
  pub dead : ℕ → Bool
  pub main : ℕ

abbrev pub choose : {A : Type 0} → Bool → A → A → A
choose true a b = a
choose false a b = b

-- ---- values

-- the number of a value's class
abbrev pub class_of_value : Value → ℕ
class_of_value value.Unit = 1
class_of_value (value.Bool b) = 2
class_of_value (value.Int k) = 3
class_of_value (value.Text text) = 4

-- whether a value is one of a class, which is its own or `Any`; `Nothing` has no class and no value
abbrev pub is_of : Option ℕ → Value → Bool
is_of None v = false
is_of (Some c) v = (c == any) || (c == class_of_value v)

-- whether it lies in a type
abbrev pub lies : Value → KtType → Bool
lies v t = is_of (class_of t.head) v

-- whether it lies in the written type, where one is written
abbrev pub fits : Option KtType → Value → Bool
fits None v = true
fits (Some t) v = lies v t

-- the text of a value
abbrev pub text_of_value : Value → List ℕ
text_of_value value.Unit = codes "kotlin.Unit"
text_of_value (value.Bool true) = codes "true"
text_of_value (value.Bool false) = codes "false"
text_of_value (value.Int k) = signed_decimal k
text_of_value (value.Text text) = text

-- ---- steps, locals, output

unfoldable pub spend : Run (Unit {0})
spend = λ s. if s.steps == 0 then over limit.Steps s else pure tt (record s { steps = s.steps - 1 })

abbrev pub put : State → ℕ → Option Value → State
put s x o = record s { here = record { locals = with_local s.here.locals x o } }

abbrev pub read_value : Option Value → Run Value
read_value None = wrong
read_value (Some v) = pure v

unfoldable pub read : ℕ → Run Value
read x = λ s. read_value (s.here.locals x) s

unfoldable pub store : ℕ → Option Value → Run Value
store x o = λ s. record { ending = Gave value.Unit (put s x o); events = [] }

-- an assignment; of a `val` or parameter only where it holds nothing
abbrev pub write_over : Bool → Option Value → ℕ → Value → Run Value
write_over true (Some old) x v = wrong
write_over true None x v = store x (Some v)
write_over false old x v = store x (Some v)

unfoldable pub write : Bool → ℕ → Value → Run Value
write fixed x v = λ s. write_over fixed (s.here.locals x) x v s

unfoldable pub print : List ℕ → Run Value
print text = λ s. record { ending = Gave value.Unit s; events = Printed text ∷ [] }

-- ---- what a run uses up: the cells of objects, and the bytes of texts

-- the cells that objects may take, and the bytes that the texts which a run makes may have
abbrev pub most_cells : ℕ
most_cells = 1048576

abbrev pub most_text : ℕ
most_text = 16777216

-- so many cells for a new object
unfoldable pub take_cells : ℕ → Run (Unit {0})
take_cells n = λ s. choose (nat_lt most_cells (s.cells + n)) (over limit.Store s) (pure tt (record s { cells = s.cells + n }))

-- A text that the run makes. Those in the source are there.
unfoldable pub make_text : List ℕ → Run (List ℕ)
make_text text = λ s. choose (nat_lt most_text (s.text + length text)) (over limit.Text s) (pure text (record s { text = s.text + length text }))

abbrev pub text_made : List ℕ → Run Value
text_made text = make_text text >>= (λ t. pure (value.Text t))

-- ---- operations on values; Int has 32 bits and wraps

abbrev pub on_one : (ℤ → Run Value) → List Value → Run Value
on_one f (value.Int a ∷ []) = f a
on_one f _ = wrong

abbrev pub on_two : (ℤ → ℤ → Run Value) → List Value → Run Value
on_two f (value.Int a ∷ value.Int b ∷ []) = f a b
on_two f _ = wrong

abbrev pub signed : Sign → ℤ → ℤ
signed sign.Minus a = int_wrapping_neg w32 a
signed sign.Plus a = a

-- "Exceptions": what is thrown leaves the trees around it. It is a new object, whose class has one field, its message.
abbrev pub throws : Exception → Run Value
throws e = take_cells 2 >>= (λ u. leave (way.Throw e))

-- "Multiplicative expressions": `/` truncates towards zero, and what `%` leaves has the sign of the left operand. By zero both throw.
abbrev pub by_divisor : ℤ → Run Value → Run Value
by_divisor b r = choose (int_eq b (pos 0)) (throws DivisionByZero) r

abbrev pub arithmetic_of : Arithmetic → ℤ → ℤ → Run Value
arithmetic_of arithmetic.Subtract a b = pure (value.Int (int_wrapping_sub w32 a b))
arithmetic_of arithmetic.Multiply a b = pure (value.Int (int_wrapping_mul w32 a b))
arithmetic_of arithmetic.Divide a b = by_divisor b (pure (value.Int (int_wrapping_div w32 a b)))
arithmetic_of arithmetic.Remainder a b = by_divisor b (pure (value.Int (int_rem a b)))

-- "Additive expressions": `+` joins the texts of both values where the left one is a text.
abbrev pub sum_of : List Value → Run Value
sum_of (value.Text text ∷ v ∷ []) = text_made (text ++ text_of_value v)
sum_of vs = on_two (λ a b. pure (value.Int (int_wrapping_add w32 a b))) vs

-- "String interpolation expressions": the texts of a string, with those of its parts' values between them; None where parts and places don't agree.
abbrev pub joined : List (Option (List ℕ)) → List Value → Option (List ℕ)
joined [] [] = Some []
joined (Some text ∷ rest) vs = option_map (λ t. text ++ t) (joined rest vs)
joined (None ∷ rest) (v ∷ vs) = option_map (λ t. text_of_value v ++ t) (joined rest vs)
joined _ _ = None

abbrev pub has_parts : List Value → Bool
has_parts [] = false
has_parts (v ∷ vs) = true

-- A string with parts is made by the run.
abbrev pub string_of : (made : Bool) → Option (List ℕ) → Run Value
string_of made None = wrong
string_of true (Some text) = text_made text
string_of false (Some text) = pure (value.Text text)

-- "Comparison expressions": integers by their order.
abbrev pub compared : Comparison → ℤ → ℤ → Bool
compared comparison.Less a b = int_lt a b
compared comparison.Greater a b = int_lt b a
compared comparison.LessOrEqual a b = int_le a b
compared comparison.GreaterOrEqual a b = int_le b a

-- "Value equality expressions": `equals` of the built-in classes. Values of different kinds are never the same, which is no wrong use.
abbrev pub same_value : Value → Value → Bool
same_value value.Unit value.Unit = true
same_value (value.Bool a) (value.Bool b) = choose a b (not b)
same_value (value.Int a) (value.Int b) = int_eq a b
same_value (value.Text a) (value.Text b) = bytes_eq a b
same_value _ _ = false

-- what `==` and `!=` say, by whether their operands are the same
abbrev pub equal_by : Equality → Bool → Bool
equal_by equality.Equal same = same
equal_by equality.NotEqual same = not same

abbrev pub equal_of : Equality → List Value → Run Value
equal_of o (v ∷ w ∷ []) = pure (value.Bool (equal_by o (same_value v w)))
equal_of o _ = wrong

-- the numbers of the names of the built-in functions
abbrev pub println_name : ℕ
println_name = 20

abbrev pub print_name : ℕ
print_name = 21

abbrev pub require_name : ℕ
require_name = 23

abbrev pub check_name : ℕ
check_name = 24

abbrev pub error_name : ℕ
error_name = 25

-- a condition or an operand of `!`, `&&` and `||` is a truth value
abbrev pub truth_of : Value → Run Bool
truth_of (value.Bool b) = pure b
truth_of _ = wrong

-- `require`, `check`
abbrev pub demanded : Exception → Value → Run Value
demanded e v = truth_of v >>= (λ holds. choose holds (pure value.Unit) (throws e))

-- `error`: a value that is no text gets one, before its exception is there
abbrev pub failed : Value → Run Value
failed (value.Text text) = throws (Error text)
failed v = make_text (text_of_value v) >>= (λ t. throws (Error t))

abbrev pub built_in_of_one : ℕ → Value → Run Value
built_in_of_one name v =
    choose (name == println_name) (print (text_of_value v ++ 10 ∷ [])) (
    choose (name == print_name) (print (text_of_value v)) (
    choose (name == require_name) (demanded FailedRequirement v) (
    choose (name == check_name) (demanded FailedCheck v) (
    choose (name == error_name) (failed v) wrong))))

abbrev pub built_in : ℕ → List Value → Run Value
built_in name [] = choose (name == println_name) (print (10 ∷ [])) wrong
built_in name (v ∷ []) = built_in_of_one name v
built_in name _ = wrong

-- The operations that are not here are not open yet.
abbrev pub operated : Operation → List Value → Run Value
operated (Int' k) [] = pure (value.Int (pos k))
operated (Bool' b) [] = pure (value.Bool b)
operated (Template' texts) vs = string_of (has_parts vs) (joined texts vs)
operated (Sign' s) vs = on_one (λ a. pure (value.Int (signed s a))) vs
operated Sum' vs = sum_of vs
operated (Arithmetic' o) vs = on_two (arithmetic_of o) vs
operated (Compare' o) vs = on_two (λ a b. pure (value.Bool (compared o a b))) vs
operated (Equal' o) vs = equal_of o vs
operated (BuiltIn' name returns) vs = built_in name vs
operated _ vs = wrong

-- the operand of `x++` and `x--` is not written
abbrev pub operand_or_one : List Value → List Value
operand_or_one [] = value.Int (pos 1) ∷ []
operand_or_one (v ∷ vs) = v ∷ vs

-- "Return expressions": the body is left with the value of the operand, with `Unit` where none is written.
abbrev pub returned : List Value → Run Value
returned [] = leave (way.Return value.Unit)
returned (v ∷ []) = leave (way.Return v)
returned _ = wrong

-- what is done with a value that is to lie in a written type
abbrev pub checked : Option KtType → Value → Run Value → Run Value
checked written v r = choose (fits written v) r wrong

-- ---- calls

-- the calls that may be under way at once
abbrev pub most_calls : ℕ
most_calls = 16

-- no call is one too many
unfoldable pub limited : Run Value → Run Value
limited r = λ s. choose (nat_lt s.calls most_calls) r (over limit.Calls) s

-- each argument lies in the type of its parameter
abbrev pub arguments_fit : (ℕ → Option KtType) → List ℕ → List Value → Bool
arguments_fit written [] [] = true
arguments_fit written (x ∷ xs) (v ∷ vs) = fits (written x) v && arguments_fit written xs vs
arguments_fit written _ _ = false

abbrev pub new_locals : List ℕ → List Value → Locals
new_locals (x ∷ xs) (v ∷ vs) = with_local (new_locals xs vs) x (Some v)
new_locals _ _ = no_locals

-- as a call begins
abbrev pub begun : Function → List Value → State → State
begun f vs s = record s { here = record { locals = new_locals f.parameters vs }; calls = s.calls + 1 }

-- back in the frame that made the call, which is as it was
abbrev pub resume : Frame → ℕ → State → State
resume here calls s = record s { here = here; calls = calls }

-- what a function gives lies in its result
abbrev pub given : Option KtType → Value → State → Ending Value
given result v s = choose (fits result v) (Gave v s) Wrong

abbrev pub is_unit : Option KtType → Bool
is_unit None = false
is_unit (Some t) = elim t.head [ head.Unit ↦ not t.nullable | _ ↦ false ]

-- where a body runs to its end: that of an expression gives its value, a block gives `Unit`
abbrev pub ended : Bool → Option KtType → Value → State → Ending Value
ended true result v s = given result v s
ended false result v s = choose (is_unit result) (Gave value.Unit s) Wrong

abbrev pub call_end : Function → Frame → ℕ → Ending Value → Ending Value
call_end f here calls (Gave v s) = ended f.is_expression f.result v (resume here calls s)
call_end f here calls (Left (way.Return v) s) = given f.result v (resume here calls s)
call_end f here calls (Left (way.Throw e) s) = Left (way.Throw e) (resume here calls s)
call_end f here calls (Over k) = Over k
call_end f here calls Wrong = Wrong

-- ---- trees

module _ (p : Program) (go : Tree → Run Value) where
  -- the parts of a tree from left to right, then what is done with their values
  abbrev pub with_values : Trees → (List Value → Run Value) → Run Value
  with_values Empty' f = f []
  with_values (First' t rest) f = go t >>= (λ v. with_values rest (λ vs. f (v ∷ vs)))

  -- the trees of a block, one behind another; its value is that of the last
  abbrev pub block_from : Value → Trees → Run Value
  block_from v Empty' = pure v
  block_from v (First' t rest) = go t >>= (λ w. block_from w rest)

  abbrev pub block : Trees → Run Value
  block ts = block_from value.Unit ts

  -- whether a condition holds
  abbrev pub asked : Tree → Run Bool
  asked e = go e >>= truth_of

  -- the same, as a value
  abbrev pub truth_tree : Tree → Run Value
  truth_tree e = asked e >>= (λ holds. pure (value.Bool holds))

  abbrev pub not_tree : Tree → Run Value
  not_tree e = asked e >>= (λ holds. pure (value.Bool (not holds)))

  -- "Logical conjunction expressions", "Logical disjunction expressions": the right operand of `&&` is entered only where the left one holds, that of `||`
  -- only where it doesn't.
  abbrev pub and_tree : Tree → Tree → Run Value
  and_tree a b = asked a >>= (λ holds. choose holds (truth_tree b) (pure (value.Bool false)))

  abbrev pub or_tree : Tree → Tree → Run Value
  or_tree a b = asked a >>= (λ holds. choose holds (pure (value.Bool true)) (truth_tree b))

  -- "Conditional expressions": the value is that of the branch taken. Where no `else` is written the second branch is empty. Kotlin then gives `Unit` whichever
  -- branch is taken, and this gives the first one's value, at which nothing looks: an `if` whose value is used has an `else`.
  abbrev pub if_tree : Tree → Trees → Trees → Run Value
  if_tree c a b = asked c >>= (λ holds. choose holds (block a) (block b))

  unfoldable pub invoke : Function → List Value → Run Value
  invoke f vs = λ s. turned (call_end f s.here s.calls) (λ u. block f.body (begun f vs u)) s

  abbrev pub called : Option Function → List Value → Run Value
  called None vs = wrong
  called (Some f) vs = choose (arguments_fit p.written f.parameters vs) (limited (invoke f vs)) wrong

  -- a declaration without initialiser makes its local hold nothing
  abbrev pub local_tree : ℕ → Tree → Run Value
  local_tree x e = go e >>= (λ v. checked (p.written x) v (store x (Some v)))

  abbrev pub assign_tree : ℕ → Bool → Tree → Run Value
  assign_tree x fixed e = go e >>= (λ v. checked (p.written x) v (write fixed x v))

  -- the old value is read first, which costs no step
  abbrev pub compound_tree : ℕ → Bool → Operation → Trees → Run Value
  compound_tree x fixed o operand =
      read x >>= (λ old. with_values operand (λ vs. operated o (old ∷ operand_or_one vs) >>= (λ v. checked (p.written x) v (write fixed x v))))

  -- The forms that are not here are not open yet.
  abbrev pub tree_at : Tree → Run Value
  tree_at (Operation' n o parts) = with_values parts (operated o)
  tree_at (Name' n at x) = read x
  tree_at (Paren' n e) = go e
  tree_at (Not' n e) = not_tree e
  tree_at (And' n a b) = and_tree a b
  tree_at (Or' n a b) = or_tree a b
  tree_at (If' n braces c a b) = if_tree c a b
  tree_at (Declare' n x) = store x None
  tree_at (Local' n at x e) = local_tree x e
  tree_at (Assign' n at x fixed e) = assign_tree x fixed e
  tree_at (Compound' n at x fixed o operand) = compound_tree x fixed o operand
  tree_at (Call' n f returns arguments) = with_values arguments (called (p.functions f))
  tree_at (Return' n value) = with_values value returned
  tree_at _ = wrong

  -- the entering of a tree
  unfoldable pub entered : Tree → Run Value
  entered t = spend >>= (λ u. choose (p.dead (number t)) wrong (tree_at t))

unfoldable pub eval : Program → ℕ → Tree → Run Value
eval p zero t = over limit.Steps
eval p (suc depth) t = entered p (eval p depth) t

-- the meaning of a tree, which the steps left bound
unfoldable pub meaning : Program → Tree → Run Value
meaning p t = λ s. eval p s.steps t s
