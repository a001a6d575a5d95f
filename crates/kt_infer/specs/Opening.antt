-- What an opened tree is in a way, and what is added when it is ended in it.
use Rattle.std.specs.Prelude.{◌≡◌, ◌++◌, ◌&&◌, ◌∷◌, [], ℕ, Bool, true, false, List, Option, Some, None, map}
use Rattle.kt_tree.specs.declared.token.Span.{Span}
use Rattle.kt_model.specs.Classes.{Classes}
use Rattle.kt_model.specs.BodyTrees.{whole}
use Rattle.kt_typing.specs.Typing.{outcome, claimed, type_in, finding_in, have_types, branch_way, joined_claim, unit}
use Rattle.kt_model.specs.declared.kinds.KtType.{KtType}
use Rattle.kt_model.specs.declared.finding.Finding.{Finding}
use Rattle.kt_typing.specs.declared.claims.Way.{Way}
use Rattle.kt_typing.specs.declared.claims.Way.TheVariants.{Plain}
use Rattle.kt_typing.specs.declared.claims.Claim.{Claim}
use Rattle.kt_typing.specs.declared.claims.Claim.TheVariants.{Gives}
use Rattle.kt_typing.specs.declared.claims.Outcome.{Outcome}
use Rattle.kt_typing.specs.declared.claims.Outcome.TheVariants.{Stands, Untyped}
use Rattle.kt_typing.specs.declared.claims.TypeRow.{TypeRow}
use Rattle.kt_infer.specs.declared.notes.Stem.{Stem}
use Rattle.kt_infer.specs.declared.notes.Between.{Between}
use Rattle.kt_infer.specs.declared.notes.Opened.{Opened, Alone, Joined', EmptyBlock, Ended, Absent, Row_of-Opened, end_of-Opened, more_of-Opened}

-- In `Joined'` each end stands in a row of one, behind a part that says nothing.

-- ---- how one is made

abbrev pub stem_of : ℕ → Span → Bool → Stem
stem_of number at complete = record { number = number; span = at; parens = []; complete = complete }

-- a tree that stands alone
abbrev pub IsOpened : Opened → ℕ → Span → Bool → Claim → Type 0
IsOpened o number at complete claim = o ≡ Alone (stem_of number at complete) claim

-- an `if` with what its branches end in
abbrev pub joined_with : Stem → Opened → Between → Opened → Opened
joined_with stem a between b = Joined' stem tt (more_of-Opened a end_of-Opened) between tt (more_of-Opened b end_of-Opened)

abbrev pub joined_of : ℕ → Span → Bool → Opened → Between → Opened → Opened
joined_of number at complete a between b = joined_with (stem_of number at complete) a between b

-- one more pair of parentheses
abbrev pub stem_in : ℕ → Stem → Stem
stem_in n stem = record { number = stem.number; span = stem.span; parens = stem.parens ++ n ∷ []; complete = stem.complete }

abbrev pub enclosed_by : ℕ → Opened → Opened
enclosed_by n (Alone stem claim) = Alone (stem_in n stem) claim
enclosed_by n (Joined' stem u a between v b) = Joined' (stem_in n stem) u a between v b
enclosed_by n (EmptyBlock at) = EmptyBlock at
enclosed_by n (Ended found) = Ended found
enclosed_by n Absent = Absent

-- a tree, and no other end of a branch
abbrev pub is_tree : Opened → Bool
is_tree (Alone stem claim) = true
is_tree (Joined' stem u a between v b) = true
is_tree (EmptyBlock at) = false
is_tree (Ended found) = false
is_tree Absent = false

-- ---- what one is in a way

-- the type of an end, if there is one
abbrev pub last_type : Option (Option KtType) → List (Option KtType)
last_type None = []
last_type (Some t) = t ∷ []

-- the same, by what the end is in its way
abbrev pub end_of : Opened → Outcome → List (Option KtType)
end_of (Alone stem claim) r = type_in r ∷ []
end_of (Joined' stem u a between v b) r = type_in r ∷ []
end_of (EmptyBlock at) r = type_in r ∷ []
end_of (Ended found) r = type_in r ∷ []
end_of Absent r = []

-- an `if` by the types of what its branches end in
abbrev pub joined_outcome : Classes → Way → Stem → List (Option KtType) → List (Option KtType) → Outcome
joined_outcome classes way stem xs ys =
    outcome classes Plain stem.span (stem.complete && have_types (xs ++ ys)) (joined_claim classes way (whole stem.number stem.span) xs ys)

-- what has a type already, or none
abbrev pub typed_before : Option KtType → Outcome
typed_before (Some t) = Stands t
typed_before None = Untyped

abbrev mutual
  pub outcome_of : Classes → Way → Opened → Outcome
  outcome_of classes way (Alone stem claim) = outcome classes way stem.span stem.complete claim
  outcome_of classes way (Joined' stem u a between v b) = joined_outcome classes way stem (ends_of classes (branch_way way) a) (ends_of classes (branch_way way) b)
  outcome_of classes way (EmptyBlock at) = claimed classes way at (Gives unit)
  outcome_of classes way (Ended found) = typed_before found
  outcome_of classes way Absent = Untyped

  pub ends_of : {m : _} → Classes → Way → Row_of-Opened m → List (Option KtType)
  ends_of classes way end_of-Opened = []
  ends_of classes way (more_of-Opened o rest) = end_of o (outcome_of classes way o)

-- ---- what its end adds

-- rows of trees that have one type
abbrev pub rows_of : List ℕ → Option KtType → List TypeRow
rows_of trees found = map (λ n. record { tree = n; found = found }) trees

-- the row of a tree, and those of the parentheses around it
abbrev pub own_rows : Stem → Option KtType → List TypeRow
own_rows stem found = rows_of (stem.number ∷ stem.parens) found

-- What a branch ends in stands before the tree itself.
abbrev mutual
  pub rows_behind : Classes → Way → Opened → List TypeRow
  rows_behind classes way (Alone stem claim) = own_rows stem (type_in (outcome_of classes way (Alone stem claim)))
  rows_behind classes way (Joined' stem u a between v b) =
      rows_within classes (branch_way way) a
      ++ (between.rows ++ (rows_within classes (branch_way way) b ++ own_rows stem (type_in (outcome_of classes way (Joined' stem u a between v b)))))
  rows_behind classes way (EmptyBlock at) = []
  rows_behind classes way (Ended found) = []
  rows_behind classes way Absent = []

  pub rows_within : {m : _} → Classes → Way → Row_of-Opened m → List TypeRow
  rows_within classes way end_of-Opened = []
  rows_within classes way (more_of-Opened o rest) = rows_behind classes way o

abbrev mutual
  pub findings_behind : Classes → Way → Opened → List Finding
  findings_behind classes way (Alone stem claim) = finding_in (outcome_of classes way (Alone stem claim))
  findings_behind classes way (Joined' stem u a between v b) =
      findings_within classes (branch_way way) a
      ++ (between.findings.items ++ (findings_within classes (branch_way way) b ++ finding_in (outcome_of classes way (Joined' stem u a between v b))))
  findings_behind classes way (EmptyBlock at) = finding_in (outcome_of classes way (EmptyBlock at))
  findings_behind classes way (Ended found) = []
  findings_behind classes way Absent = []

  pub findings_within : {m : _} → Classes → Way → Row_of-Opened m → List Finding
  findings_within classes way end_of-Opened = []
  findings_within classes way (more_of-Opened o rest) = findings_behind classes way o
