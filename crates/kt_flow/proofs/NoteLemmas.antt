-- What is noted of trees, by their parts.
use Rattle.std.proofs.Common.{◌≡◌, [], ◌∷◌, ◌++◌, map, refl, ap, ◌∙◌, append-nil}
use Rattle.std.proofs.lemmas.List.{map-append}
use Rattle.kt_model.specs.BodyTrees.{Tree, Trees, Operation', Name', Paren', Not', And', Or', If', Declare', Local', Assign', Compound', Call', Return', Throw', Shut', Empty', First'}
use Rattle.kt_model.specs.TreesWithin.{trees_in, all_trees_in}
use Rattle.kt_flow.specs.Notes.{note, parts_in, tree_notes, trees_notes, part_notes}

-- a tree stands in front of its parts
tree_first : (t : Tree) → trees_in t ≡ t ∷ parts_in t
unfolding trees_in parts_in
tree_first (Operation' n o parts) = refl
tree_first (Name' n at x) = refl
tree_first (Paren' n e) = refl
tree_first (Not' n e) = refl
tree_first (And' n a b) = refl
tree_first (Or' n a b) = refl
tree_first (If' n braces c a b) = refl
tree_first (Declare' n x) = refl
tree_first (Local' n at x e) = refl
tree_first (Assign' n at x fixed e) = refl
tree_first (Compound' n at x fixed o operand) = refl
tree_first (Call' n f returns arguments) = refl
tree_first (Return' n value) = refl
tree_first (Throw' n e) = refl
tree_first (Shut' n) = refl

pub note_first : (t : Tree) → tree_notes t ≡ note t ∷ part_notes t
note_first t = ap (map note) (tree_first t)

-- trees one behind another
pub notes_none : trees_notes Empty' ≡ []
unfolding trees_in
notes_none = refl

pub notes_rest : (t : Tree) (rest : Trees) → trees_notes (First' t rest) ≡ tree_notes t ++ trees_notes rest
unfolding trees_in
notes_rest t rest = map-append note (trees_in t) (all_trees_in rest)

pub notes_one : (t : Tree) → trees_notes (First' t Empty') ≡ tree_notes t
notes_one t = notes_rest t Empty' ∙ ap (λ l. tree_notes t ++ l) notes_none ∙ append-nil (tree_notes t)

pub notes_two : (t u : Tree) → trees_notes (First' t (First' u Empty')) ≡ tree_notes t ++ tree_notes u
notes_two t u = notes_rest t (First' u Empty') ∙ ap (λ l. tree_notes t ++ l) (notes_one u)
