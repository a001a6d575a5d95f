-- Members: the candidates that a class inherits for a name, which of them fits, and what the class has.
--
-- From the Kotlin specification, "Inheritance" and "Overriding". What happens where several candidates meet is this project's own reading of
-- real Kotlin's behaviour. The code marks what is hidden, and keeps what each class has.
use Rattle.std.specs.Prelude.{◌==◌, ◌&&◌, ◌||◌, ℕ, Bool, true, false, not, List, [], ◌∷◌, map, Option, Some, None, length, find, position, slice_get, count_by, nat_le, unwrap_or, option_and_then, if◌then◌else◌, is_some}
use Rattle.std.specs.List.{list_any, list_all, filter_map, flat_map, zip}
use Rattle.std.specs.Option.{option_map}
use Rattle.kt_model.specs.declared.class_table.ClassKind.{ClassKind}
use Rattle.kt_model.specs.declared.class_table.ClassKind.TheVariants.{Interface}
use Rattle.kt_model.specs.declared.class_table.Member.{Member}
use Rattle.kt_model.specs.declared.class_table.MemberRow.{MemberRow}
use Rattle.kt_model.specs.declared.class_table.Settled.{Settled}
use Rattle.kt_model.specs.declared.class_table.MemberKind.{MemberKind}
use Rattle.kt_model.specs.declared.class_table.MemberKind.TheVariants.{Function, AbstractFunction, AbstractProperty}
use Rattle.kt_model.specs.declared.class_table.ParamType.{ParamType}
use Rattle.kt_model.specs.declared.class_table.ParamType.TheVariants.{Value, Lambda}
use Rattle.kt_model.specs.declared.kinds.KtType.{KtType}
use Rattle.kt_model.specs.Classes.{Outlines, written, supers, each_once}
use Rattle.kt_model.specs.Subtypes.{class_of, is_under}

abbrev pub members_of : Outlines → ℕ → List MemberRow
members_of os c = unwrap_or (option_map (λ o. o.members) (slice_get os c)) []

abbrev pub place_of : Outlines → ℕ → ℕ → Option ℕ
place_of os c name = position (λ m. m.name == name) (members_of os c)

-- the member that a class declares itself
abbrev pub own : Outlines → ℕ → ℕ → Option Member
own os c name = option_map (λ place. record { class = c; place = place }) (place_of os c name)

abbrev pub row_of : Outlines → Member → Option MemberRow
row_of os m = slice_get (members_of os m.class) m.place

abbrev pub declares : Outlines → ℕ → ℕ → Bool
declares os name c = is_some (own os c name)

-- Another proper supertype of c declares the name, and is under d.
abbrev pub is_hidden_by : Outlines → ℕ → ℕ → ℕ → ℕ → Bool
is_hidden_by os c name d e =
    not (e == c) && declares os name e && not (e == d) && is_under (written os) e d

abbrev pub is_hidden : Outlines → ℕ → ℕ → ℕ → Bool
is_hidden os c name d = list_any (is_hidden_by os c name d) (supers (written os) c)

-- the member that a proper supertype d of c declares, unless it is hidden
abbrev pub candidate_in : Outlines → ℕ → ℕ → ℕ → Option Member
candidate_in os c name d = if d == c || is_hidden os c name d then None else own os d name

-- the candidates of a class for a name, in the order of `supers`
unfoldable pub candidates : Outlines → ℕ → ℕ → List Member
candidates os c name = filter_map (candidate_in os c name) (supers (written os) c)

abbrev pub is_abstract : MemberKind → Bool
is_abstract AbstractFunction = true
is_abstract AbstractProperty = true
is_abstract _ = false

abbrev pub is_function : MemberKind → Bool
is_function Function = true
is_function AbstractFunction = true
is_function _ = false

abbrev pub same_bool : Bool → Bool → Bool
same_bool true b = b
same_bool false b = not b

abbrev pub same_class : Option ℕ → Option ℕ → Bool
same_class None None = true
same_class (Some a) (Some b) = a == b
same_class _ _ = false

abbrev pub same_type : KtType → KtType → Bool
same_type a b = same_class (class_of a.head) (class_of b.head) && same_bool a.nullable b.nullable

abbrev pub same_types : List KtType → List KtType → Bool
same_types ts us = length ts == length us && list_all (λ (t, u). same_type t u) (zip ts us)

abbrev pub same_param : ParamType → ParamType → Bool
same_param (Value a) (Value b) = same_type a b
same_param (Lambda ps r) (Lambda qs s) = same_types ps qs && same_type r s
same_param _ _ = false

abbrev pub same_params : List ParamType → List ParamType → Bool
same_params ps qs = length ps == length qs && list_all (λ (p, q). same_param p q) (zip ps qs)

-- the test of the subtype relation
abbrev pub is_head_under : Outlines → Option ℕ → Option ℕ → Bool
is_head_under os None b = true
is_head_under os (Some a) None = false
is_head_under os (Some a) (Some b) = is_under (written os) a b

abbrev pub is_subtype : Outlines → KtType → KtType → Bool
is_subtype os a b =
    is_head_under os (class_of a.head) (class_of b.head) && (b.nullable || not a.nullable)

-- a member without a type passes each comparison of its type
abbrev pub result_fits : Outlines → Option KtType → Option KtType → Bool
result_fits os (Some a) (Some b) = is_subtype os a b
result_fits os _ _ = true

abbrev pub result_same : Option KtType → Option KtType → Bool
result_same (Some a) (Some b) = same_type a b
result_same _ _ = true

abbrev pub is_interface : Outlines → ℕ → Bool
is_interface os c = by (option_map (λ o. o.kind) (slice_get os c))
  where
    by : Option ClassKind → Bool
    by (Some Interface) = true
    by _ = false

-- ---- candidates that meet

abbrev pub row_test : (MemberRow → Bool) → Option MemberRow → Bool
row_test p None = false
row_test p (Some row) = p row

abbrev pub rows_test : (MemberRow → MemberRow → Bool) → Option MemberRow → Option MemberRow → Bool
rows_test p (Some a) (Some b) = p a b
rows_test p _ _ = false

abbrev pub is_private_at : Outlines → Member → Bool
is_private_at os m = row_test (λ row. row.is_private) (row_of os m)

abbrev pub is_abstract_at : Outlines → Member → Bool
is_abstract_at os m = row_test (λ row. is_abstract row.kind) (row_of os m)

abbrev pub is_var_at : Outlines → Member → Bool
is_var_at os m = row_test (λ row. row.is_var) (row_of os m)

-- their kinds and their parameter types are equal
abbrev pub have_one_shape : MemberRow → MemberRow → Bool
have_one_shape a b = same_bool (is_function a.kind) (is_function b.kind) && same_params a.params b.params

abbrev pub agree_at : Outlines → Member → Member → Bool
agree_at os m n = rows_test have_one_shape (row_of os m) (row_of os n)

abbrev pub fits_under : Outlines → Member → Member → Bool
fits_under os m n = rows_test (λ a b. result_fits os a.result b.result) (row_of os m) (row_of os n)

abbrev pub has_type_of : Outlines → Member → Member → Bool
has_type_of os m n = rows_test (λ a b. result_same a.result b.result) (row_of os m) (row_of os n)

-- None is private; at most one isn't abstract, and that one stands in a class; kinds and parameter types are equal.
abbrev pub go_together : Outlines → List Member → Bool
go_together os ms =
    not (list_any (is_private_at os) ms) && nat_le (count_by (λ m. not (is_abstract_at os m)) ms) 1 && list_all (λ m. is_abstract_at os m || not (is_interface os m.class)) ms && list_all (λ m. list_all (agree_at os m) ms) ms

-- Its result type is a subtype of all the others'; if one isn't abstract, it is that one; if a `var` is among them, it is a `var` and all types are equal.
abbrev pub is_fitting : Outlines → List Member → Member → Bool
is_fitting os ms m =
    list_all (fits_under os m) ms && (not (is_abstract_at os m) || list_all (is_abstract_at os) ms) && (not (list_any (is_var_at os) ms) || (is_var_at os m && list_all (λ n. list_all (has_type_of os n) ms) ms))

-- the fitting one, the first in the order of `supers`, where the candidates fit
abbrev pub fitting : Outlines → List Member → Option Member
fitting os ms = if go_together os ms then find (is_fitting os ms) ms else None

abbrev pub inherited : Outlines → List Member → Option Member
inherited os [] = None
inherited os (m ∷ []) = Some m
inherited os ms = fitting os ms

-- the class's own member, else the one candidate, else the fitting one
unfoldable pub member_of : Outlines → ℕ → ℕ → Option Member
member_of os c name = by (own os c name)
  where
    by : Option Member → Option Member
    by (Some m) = Some m
    by None = inherited os (candidates os c name)

abbrev pub unless_abstract : Outlines → Member → Option Member
unless_abstract os m = by (row_of os m)
  where
    by : Option MemberRow → Option Member
    by (Some row) = if is_abstract row.kind then None else Some m
    by None = None

-- the member, where it isn't abstract
unfoldable pub implementation_of : Outlines → ℕ → ℕ → Option Member
implementation_of os c name = option_and_then (unless_abstract os) (member_of os c name)

-- the names that a class or one above it declares, in the order of `supers`
unfoldable pub names_above : Outlines → ℕ → List ℕ
names_above os c = flat_map (λ d. map (λ m. m.name) (members_of os d)) (supers (written os) c)

-- what a class has under a name
abbrev pub settled_at : Outlines → ℕ → ℕ → Settled
settled_at os c name =
    record { name = name; member = member_of os c name; implementation = implementation_of os c name }

-- what a class has, under each name once
unfoldable pub settled_of : Outlines → ℕ → List Settled
settled_of os c = map (settled_at os c) (each_once [] (names_above os c))
