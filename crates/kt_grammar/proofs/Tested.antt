-- The table of what terminals are to choices is the grammar's.
use Rattle.std.proofs.Common.{◌≡◌, List, get_or, refl, ap, ◌∙◌}
use denote.Enum.Declared.{tag_of}
use Rattle.kt_tree.specs.contracts.grammar.terminal.Terminal as terminal
use Rattle.kt_tree.specs.declared.grammar.terminal.Terminal.{Terminal}
use Rattle.kt_tree.specs.declared.grammar.terminal.Terminal.TheVariants as t
use Rattle.kt_tree.specs.Classes.{is_modifier, wants_brace, wants_round, is_identifier, begins_expression}
use Rattle.kt_grammar.specs.Roles.{role_of, modifies, before_brace, before_round, identifies, begins}
use Rattle.kt_grammar.specs.declared.roles.TheConstants.{ROLES}
use Rattle.kt_grammar.specs.declared.roles.Role.{Role}

-- a terminal's row stands at its place
role_written : (x : Terminal) (d : Terminal × Role) → (get_or ROLES (tag_of terminal.the_type x) d).1 ≡ role_of x
unfolding role_of
role_written t.As d = refl
role_written x d = refl

pub role_at : (rows : List (Terminal × Role)) (x : Terminal) (d : Terminal × Role) → rows ≡ ROLES → (get_or rows (tag_of terminal.the_type x) d).1 ≡ role_of x
role_at rows x d e = ap (λ l. (get_or l (tag_of terminal.the_type x) d).1) e ∙ role_written x d

-- what the tests of the grammar say of it
pub is_modifier_role : (x : Terminal) → modifies (role_of x) ≡ is_modifier x
unfolding role_of
is_modifier_role t.As = refl
is_modifier_role x = refl

pub wants_brace_role : (x : Terminal) → before_brace (role_of x) ≡ wants_brace x
unfolding role_of
wants_brace_role t.As = refl
wants_brace_role x = refl

pub wants_round_role : (x : Terminal) → before_round (role_of x) ≡ wants_round x
unfolding role_of
wants_round_role t.As = refl
wants_round_role x = refl

pub is_identifier_role : (x : Terminal) → identifies (role_of x) ≡ is_identifier x
unfolding role_of
is_identifier_role t.As = refl
is_identifier_role x = refl

pub begins_expression_role : (x : Terminal) → begins (role_of x) ≡ begins_expression x
unfolding role_of
begins_expression_role t.As = refl
begins_expression_role x = refl
