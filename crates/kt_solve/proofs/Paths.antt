use Rattle.std.proofs.Common.{◌≡◌, ℕ, ◌+◌, ◌-◌, ◌<◌, ◌≤◌, Bool, true, false, cond, List, [], ◌∷◌, ◌++◌, arith, refl}
use Rattle.std.specs.List.{All}
use Rattle.std.proofs.lemmas.List.Elements.{All-head, All-tail, All-contains}
use Rattle.std.proofs.lemmas.Grind.{common_steps}
use Rattle.kt_solve.specs.declared.effect.Transfer.{Transfer}
use Rattle.kt_solve.specs.declared.effect.Transfer.TheVariants.{Keep, Set, Clear, CopyFrom}
use Rattle.kt_solve.specs.declared.effect.Effect.{Effect}
use Rattle.kt_solve.specs.Flow.{Flow, HasEdge, Follow, IsPath, IsReached, IsWithin, along, after, outcome, transfer_of, transfer_after, covers, moved, EdgeFits, EffectFits, TransferFits}
use Rattle.kt_solve.specs.Search.{Misses, MissesAfter}

Follow_push : (p : Flow) (a : ℕ) (xs : List ℕ) (b c : ℕ) → Follow p a (xs ++ b ∷ []) → HasEdge p b c → Follow p a ((xs ++ b ∷ []) ++ c ∷ [])
Follow_push p a [] b c f e = (f.0, (e, tt))
Follow_push p a (x ∷ xs) b c f e = (f.0, Follow_push p x xs b c f.1 e)

-- a path goes on over an edge
pub IsPath_push : (p : Flow) (front : List ℕ) (b c : ℕ) → IsPath p (front ++ b ∷ []) → HasEdge p b c → IsPath p ((front ++ b ∷ []) ++ c ∷ [])
IsPath_push p [] b c h e = (h.0, (e, tt))
IsPath_push p (x ∷ xs) b c h e = (h.0, Follow_push p x xs b c h.1 e)

-- the state after one more node
pub along-push : (p : Flow) (xs : List ℕ) (n : ℕ) (s : ℕ → Bool) → along p (xs ++ n ∷ []) s ≡ after p n (along p xs s)
along-push p [] n s = refl
along-push p (x ∷ xs) n s = along-push p xs n (after p x s)

-- what is not set after a node is not set before the next
pub Misses_over : (p : Flow) (a b q : ℕ) → MissesAfter p a q → HasEdge p a b → Misses p b q
Misses_over p a b q m e = (m.0 ++ a ∷ [], IsPath_push p m.0 a b m.1 e, m.2)

-- the end of an edge of a reached node is reached
pub IsReached_over : (p : Flow) (a b : ℕ) → IsReached p a → HasEdge p a b → IsReached p b
IsReached_over p a b r e = (r.0 ++ a ∷ [], IsPath_push p r.0 a b r.1 e)

-- the ends of an edge are nodes of the problem
pub edge_ends : (p : Flow) (a b : ℕ) → IsWithin p → HasEdge p a b → EdgeFits p.nodes (record { from = a; to = b })
edge_ends p a b w e = All-contains (EdgeFits p.nodes) p.edges (record { from = a; to = b }) w.edges e

-- a copy reads a pair below the count
abbrev pub CopyWithin : ℕ → Transfer → Type 0
CopyWithin pairs Keep = Unit {0}
CopyWithin pairs Set = Unit {0}
CopyWithin pairs Clear = Unit {0}
CopyWithin pairs (CopyFrom source) = source < pairs

moved_within : (pairs count : ℕ) (t : Transfer) (i : ℕ) → TransferFits pairs count t → i < count → CopyWithin pairs (moved t i)
moved_within pairs count Keep i f h = tt
moved_within pairs count Set i f h = tt
moved_within pairs count Clear i f h = tt
moved_within pairs count (CopyFrom s) i f h = omega (arith, f, h)

covered : (e : Effect) (n q : ℕ) → covers e n q ≡ true → (e.first ≤ q) × (q < e.first + e.count)
covered e n q h = grind (arith, common_steps)

transfer_after_within : (nodes pairs : ℕ) (es : List Effect) (n q : ℕ) (t : Transfer) → All (EffectFits nodes pairs) es → CopyWithin pairs t → CopyWithin pairs (transfer_after es n q t)
transfer_after_within nodes pairs [] n q t a w = w
transfer_after_within nodes pairs (e ∷ es) n q t a w =
    let f = All-head (EffectFits nodes pairs) e es a in
    let go : (b : Bool) → covers e n q ≡ b → CopyWithin pairs (cond b (moved e.transfer (q - e.first)) t) =
    λ b. elim b as (λ b. covers e n q ≡ b → CopyWithin pairs (cond b (moved e.transfer (q - e.first)) t)) [
      | true ↦ λ h. (let r = covered e n q h in moved_within pairs e.count e.transfer (q - e.first) f.fits.source (omega (arith, r)))
      | false ↦ λ h. w
    ] in
    transfer_after_within nodes pairs es n q (cond (covers e n q) (moved e.transfer (q - e.first)) t) (All-tail (EffectFits nodes pairs) e es a) (go (covers e n q) refl)

-- each transfer of the problem reads a pair of the problem
pub transfer_within : (p : Flow) → IsWithin p → (n q : ℕ) → CopyWithin p.pairs (transfer_of p n q)
transfer_within p w n q = transfer_after_within p.nodes p.pairs p.effects n q Keep w.effects tt

outcome_mono : (pairs : ℕ) (t : Transfer) (f g : ℕ → Bool) (q : ℕ) → CopyWithin pairs t → q < pairs → ((r : ℕ) → r < pairs → f r ≡ true → g r ≡ true) → outcome t f q ≡ true → outcome t g q ≡ true
outcome_mono pairs Keep f g q w l h e = h q l e
outcome_mono pairs Set f g q w l h e = refl
outcome_mono pairs Clear f g q w l h e = e
outcome_mono pairs (CopyFrom s) f g q w l h e = h s w e

outcome_same : (pairs : ℕ) (t : Transfer) (f g : ℕ → Bool) (q : ℕ) → CopyWithin pairs t → q < pairs → ((r : ℕ) → r < pairs → f r ≡ g r) → outcome t f q ≡ outcome t g q
outcome_same pairs Keep f g q w l h = h q l
outcome_same pairs Set f g q w l h = refl
outcome_same pairs Clear f g q w l h = refl
outcome_same pairs (CopyFrom s) f g q w l h = h s w

-- more pairs before a node give no fewer after it
pub after_mono : (p : Flow) → IsWithin p → (n : ℕ) (f g : ℕ → Bool) (q : ℕ) → q < p.pairs → ((r : ℕ) → r < p.pairs → f r ≡ true → g r ≡ true) → after p n f q ≡ true → after p n g q ≡ true
after_mono p w n f g q l h e = outcome_mono p.pairs (transfer_of p n q) f g q (transfer_within p w n q) l h e

-- only the problem's own pairs count before a node
pub after_same : (p : Flow) → IsWithin p → (n : ℕ) (f g : ℕ → Bool) (q : ℕ) → q < p.pairs → ((r : ℕ) → r < p.pairs → f r ≡ g r) → after p n f q ≡ after p n g q
after_same p w n f g q l h = outcome_same p.pairs (transfer_of p n q) f g q (transfer_within p w n q) l h
