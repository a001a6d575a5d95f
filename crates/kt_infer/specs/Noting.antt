-- How the notes of a body grow by what is said of its trees.
use Rattle.std.specs.Prelude.{◌≡◌, ◌++◌, ◌&&◌, ◌||◌, ◌∷◌, [], Bool, true, false, not, is_some, List, Option}
use Rattle.kt_model.specs.Classes.{Classes, outlines, written}
use Rattle.kt_tree.specs.declared.token.Span.{Span}
use Rattle.kt_model.specs.BodyTrees.{Tree, Trees, number}
use Rattle.kt_typing.specs.Typing.{TypeContext, LocalTypes, Judgement, Judgements, context_of, type_in, have_types, judged, all_judged, last_of, of_branch, end_way, has_nothing, is_declaration_or_assignment}
use Rattle.kt_model.specs.declared.kinds.KtType.{KtType}
use Rattle.kt_typing.specs.declared.claims.Way.{Way}
use Rattle.kt_typing.specs.declared.claims.Way.TheVariants.{Unvalued}
use Rattle.kt_model.specs.declared.finding.Finding.{Finding}
use Rattle.kt_typing.specs.declared.claims.TypeRow.{TypeRow}
use Rattle.kt_infer.specs.declared.context.BodyContext.{BodyContext}
use Rattle.kt_infer.specs.declared.notes.Notes.{Notes}
use Rattle.kt_infer.specs.declared.notes.Between.{Between}
use Rattle.kt_infer.specs.declared.notes.Opened.{Opened}
use Rattle.kt_infer.specs.Opening.{is_tree, end_of, outcome_of, rows_behind, findings_behind}
use Rattle.kt_infer.specs.Left.{is_in}

-- what typing looks at in a body
abbrev pub typing_of : BodyContext → TypeContext
typing_of body = context_of (written (outlines body.table.now)) body.uses.now (is_in body.left.now) body.owner

-- the value of a tree in its way is taken
abbrev pub is_valued : Way → Bool
is_valued Unvalued = false
is_valued way = true

-- what is said of trees, of which the last alone counts as a part
abbrev pub by_last : Judgements → Judgements
by_last js = record js { each_found = last_of js.each_found }

-- whether the last has a type, where `k` says so of what stands before
abbrev pub ends_typed : Bool → List (Option KtType) → Bool
ends_typed k [] = k
ends_typed k (t ∷ ts) = ends_typed (is_some t) ts

-- the types of locals have changed, and nothing else
pub record Keeps (old new : Notes) (locals : LocalTypes) : Type 0 where
  pub kept_rows : new.rows ≡ old.rows
  pub kept_findings : new.findings.items ≡ old.findings.items
  pub new_locals : new.locals.entries ≡ locals

-- what is said of a tree was added, and its type found
pub record Judges (old new : Notes) (j : Judgement) (found : Option KtType) : Type 0 where
  pub same_type : found ≡ j.found
  pub more_rows : new.rows ≡ old.rows ++ j.rows
  pub more_findings : new.findings.items ≡ old.findings.items ++ j.findings
  pub same_locals : new.locals.entries ≡ j.locals

-- what is said of trees one behind another was added, and whether each has a type
pub record JudgesAll (old new : Notes) (js : Judgements) (complete : Bool) : Type 0 where
  pub same_types : complete ≡ have_types js.each_found
  pub all_rows : new.rows ≡ old.rows ++ js.rows
  pub all_findings : new.findings.items ≡ old.findings.items ++ js.findings
  pub all_locals : new.locals.entries ≡ js.locals

-- the same of the statements before the last of a block, and whether one of them is of type `Nothing`
pub record JudgesLeading (old new : Notes) (js : Judgements) (nothing : Bool) : Type 0 where
  pub same_nothing : nothing ≡ has_nothing js.each_found
  pub leading_rows : new.rows ≡ old.rows ++ js.rows
  pub leading_findings : new.findings.items ≡ old.findings.items ++ js.findings
  pub leading_locals : new.locals.entries ≡ js.locals

-- rows and findings were added, and nothing else
pub record Adds (old new : Notes) (rows : List TypeRow) (findings : List Finding) : Type 0 where
  pub added_rows : new.rows ≡ old.rows ++ rows
  pub added_findings : new.findings.items ≡ old.findings.items ++ findings
  pub kept_locals : new.locals.entries ≡ old.locals.entries

-- rows and findings were taken out, and others put in their place
pub record Exchanges (old new : Notes) (given taken : Between) : Type 0 where
  pub given_rows : new.rows ≡ given.rows
  pub given_findings : new.findings.items ≡ given.findings.items
  pub taken_rows : taken.rows ≡ old.rows
  pub taken_findings : taken.findings.items ≡ old.findings.items
  pub exchanged_locals : new.locals.entries ≡ old.locals.entries

-- An opened tree was ended in a way.
pub record Closes (classes : Classes) (way : Way) (old new : Notes) (o : Opened) (found : Option KtType) : Type 0 where
  pub closed_type : found ≡ type_in (outcome_of classes way o)
  pub closed_notes : Adds old new (rows_behind classes way o) (findings_behind classes way o)

-- In a way, all was added but what ending the tree adds.
pub record OpensIn (old new : Notes) (j : Judgement) (classes : Classes) (way : Way) (o : Opened) : Type 0 where
  pub open_type : j.found ∷ [] ≡ end_of o (outcome_of classes way o)
  pub open_rows : old.rows ++ j.rows ≡ new.rows ++ rows_behind classes way o
  pub open_findings : old.findings.items ++ j.findings ≡ new.findings.items ++ findings_behind classes way o
  pub open_locals : new.locals.entries ≡ j.locals

-- the same of trees one behind another, of which the last is opened, if there is one
pub record OpensAllIn (old new : Notes) (js : Judgements) (classes : Classes) (way : Way) (o : Opened) : Type 0 where
  pub end_type : last_of js.each_found ≡ end_of o (outcome_of classes way o)
  pub end_rows : old.rows ++ js.rows ≡ new.rows ++ rows_behind classes way o
  pub end_findings : old.findings.items ++ js.findings ≡ new.findings.items ++ findings_behind classes way o
  pub end_locals : new.locals.entries ≡ js.locals

-- A tree was opened: its parts were typed, which in each way are the same.
pub record Opens (cx : TypeContext) (old new : Notes) (t : Tree) (o : Opened) : Type 0 where
  pub in_way : (way : Way) → OpensIn old new (judged cx way old.locals.entries t) cx.classes way o
  pub open_tree : is_tree o ≡ true

-- The same in the ways in which the value is taken, or in that in which it is not.
pub record OpensAs (cx : TypeContext) (valued : Bool) (old new : Notes) (t : Tree) (o : Opened) : Type 0 where
  pub in_such_way : (way : Way) → is_valued way ≡ valued → OpensIn old new (judged cx way old.locals.entries t) cx.classes way o
  pub such_tree : is_tree o ≡ true

-- whether no path leads to the end of a block whose last tree is this, by whether one before it is of type `Nothing`
abbrev pub never_ends_by : TypeContext → Bool → Tree → Bool
never_ends_by cx nothing t = is_declaration_or_assignment t && (nothing && not (cx.is_left (number t)))

-- The last tree of a block whose value is taken was opened, or it was ended already where the block never ends.
pub record OpensEnd (cx : TypeContext) (nothing : Bool) (old new : Notes) (t : Tree) (o : Opened) : Type 0 where
  pub end_in_way : (way : Way) → is_valued way ≡ true → OpensIn old new (judged cx (end_way (never_ends_by cx nothing t) way) old.locals.entries t) cx.classes way o

-- The statements of a branch whose value is taken were typed and the last was opened, if there is one. `at` is the span of its block.
pub record OpensLast (cx : TypeContext) (old new : Notes) (at : Option Span) (ts : Trees) (o : Opened) : Type 0 where
  pub last_in_way : (way : Way) → is_valued way ≡ true
      → OpensAllIn old new (of_branch cx way at ts old.locals.entries (λ ways. all_judged cx ways old.locals.entries ts)) cx.classes way o

-- What is left of trees one behind another completes the whole.
pub record Continues (old now : Notes) (whole left : Judgements) (complete : Bool) : Type 0 where
  pub whole_types : have_types whole.each_found ≡ (complete && have_types left.each_found)
  pub whole_rows : old.rows ++ whole.rows ≡ now.rows ++ left.rows
  pub whole_findings : old.findings.items ++ whole.findings ≡ now.findings.items ++ left.findings
  pub whole_locals : whole.locals ≡ left.locals

-- The same, where the last alone counts as a part.
pub record ContinuesBranch (old now : Notes) (whole left : Judgements) (complete : Bool) : Type 0 where
  pub last_type : have_types (last_of whole.each_found) ≡ ends_typed complete left.each_found
  pub branch_rows : old.rows ++ whole.rows ≡ now.rows ++ left.rows
  pub branch_findings : old.findings.items ++ whole.findings ≡ now.findings.items ++ left.findings
  pub branch_locals : whole.locals ≡ left.locals

-- The same, where it is asked whether one is of type `Nothing`.
pub record ContinuesLeading (old now : Notes) (whole left : Judgements) (nothing : Bool) : Type 0 where
  pub any_nothing : has_nothing whole.each_found ≡ (nothing || has_nothing left.each_found)
  pub more_leading_rows : old.rows ++ whole.rows ≡ now.rows ++ left.rows
  pub more_leading_findings : old.findings.items ++ whole.findings ≡ now.findings.items ++ left.findings
  pub more_leading_locals : whole.locals ≡ left.locals
