-- The rows of a file's class table.
use Rattle.std.proofs.Common.{◌≡◌, ◌<◌, ◌≤◌, ◌+◌, ◌-◌, ◌^◌, ◌⊎◌, ◌==◌, ◌&&◌, ℕ, suc, zero, Bool, true, false, cond, not, nat_lt, List, [], ◌∷◌, ◌++◌, map, length, take, get_or, Option, Some, None, Contains, inl, inr, refl, sym, ap, subst, ◌∙◌, arith, slice_get, slice_set, unwrap_or, append_assoc}
use Rattle.std.specs.List.{cons_option, position}
use Rattle.std.proofs.lemmas.Bool.{cases_lt, ltb-true}
use Rattle.std.proofs.lemmas.Option.{slice_get-map, slice_get_within}
use Rattle.std.specs.Option.{option_map}
use Rattle.std.proofs.lemmas.Bool.Decides.{eqb_tells}
use Rattle.std.proofs.lemmas.List.{take_more, length-map, length_push, map_push}
use Rattle.std.proofs.lemmas.List.Quantifiers.{position-Some}
use Rattle.kt_tree.specs.declared.ast.declaration.File.{File}
use Rattle.kt_tree.specs.declared.ast.declaration.ClassDecl.{ClassDecl}
use Rattle.kt_tree.specs.declared.ast.declaration.Supertype.{Supertype}
use Rattle.kt_model.specs.declared.class_table.ClassRow.{ClassRow}
use Rattle.kt_model.specs.declared.finding.Finding.{Finding}
use Rattle.kt_model.specs.declared.finding.Rule.TheVariants.{SupertypeCycle}
use Rattle.kt_model.specs.Classes.{Classes, Outlines, outline, outlines, written, supers, supers_of, Climbs, IsProperlyAbove, IsRanked, here, up}
use Rattle.kt_model.specs.Settled.{IsSettled}
use Rattle.kt_model.specs.Findings.{AreFindings}
use Rattle.kt_model.specs.TopNames.{Tops, top_names, built_in_classes, class_named, is_function_name}
use Rattle.kt_model.specs.DeclarationRules.{supers_named, classes_of, built_in_supers, IsViolated, cycle}
use Rattle.kt_model.specs.Outlines.{built_in_outline, built_in_numbers, class_outline, outlines_from, outlines_of}
use Rattle.kt_model.specs.Members.{settled_of}
use Rattle.kt_model.proofs.ListLemmas as Lists
use Rattle.kt_model.proofs.ListLemmas.{Has, has_contains, contains_has, has_one, no_more}
use Rattle.kt_decl.specs.Marks.{AreRowsOf, AreBuiltIn, HaveAboves, IsRowed, AreSettled, HasKnownSupers}
use Rattle.kt_decl.proofs.ListSteps.{get_left, get_last}
use Rattle.kt_decl.proofs.ClassSteps.{length_classes_of}
use Rattle.kt_decl.proofs.AboveLemmas.{set_same, set_other}

-- one more row
pub rows_more : (aboves : Classes) (rows new : List ClassRow) (row : ClassRow) (n : ℕ) → n ≡ length rows → new ≡ rows ++ row ∷ [] → AreRowsOf aboves rows → row.above ≡ supers_of aboves n → length row.members < 2 ^ 32 → AreRowsOf aboves new
rows_more aboves rows new row n len grown old above few c r is =
    elim (cases_lt c n) [ inl before ↦ old c r (sym (get_left rows (row ∷ []) c (omega arith)) ∙ there) | inr from ↦ at from ]
  where
    there : slice_get (rows ++ row ∷ []) c ≡ Some r
    there = ap (λ z. slice_get z c) (sym grown) ∙ is

    same_row : {a b : ClassRow} → Some a ≡ Some b → a ≡ b
    same_row e = cc

    long : length (rows ++ row ∷ []) ≡ length rows + 1
    long = length_push rows row

    at : n ≤ c → (r.above ≡ supers_of aboves c) × (length r.members < 2 ^ 32)
    at from =
        let within = slice_get_within (rows ++ row ∷ []) c r there in
        let same : c ≡ length rows = omega (arith, long) in
        let is_row : row ≡ r = same_row (sym (get_last rows row) ∙ ap (slice_get (rows ++ row ∷ [])) (sym same) ∙ there) in
        subst (λ z. (z.above ≡ supers_of aboves c) × (length z.members < 2 ^ 32)) is_row (above ∙ ap (supers_of aboves) (len ∙ sym same), few)

number_at : (i : ℕ) → i < 13 → get_or built_in_numbers i 0 ≡ i
number_at zero b = refl
number_at (suc zero) b = refl
number_at (suc (suc zero)) b = refl
number_at (suc (suc (suc zero))) b = refl
number_at (suc (suc (suc (suc zero)))) b = refl
number_at (suc (suc (suc (suc (suc zero))))) b = refl
number_at (suc (suc (suc (suc (suc (suc zero)))))) b = refl
number_at (suc (suc (suc (suc (suc (suc (suc zero))))))) b = refl
number_at (suc (suc (suc (suc (suc (suc (suc (suc zero)))))))) b = refl
number_at (suc (suc (suc (suc (suc (suc (suc (suc (suc zero))))))))) b = refl
number_at (suc (suc (suc (suc (suc (suc (suc (suc (suc (suc zero)))))))))) b = refl
number_at (suc (suc (suc (suc (suc (suc (suc (suc (suc (suc (suc zero))))))))))) b = refl
number_at (suc (suc (suc (suc (suc (suc (suc (suc (suc (suc (suc (suc zero)))))))))))) b = refl
number_at (suc (suc (suc (suc (suc (suc (suc (suc (suc (suc (suc (suc (suc n))))))))))))) b = absurd (omega arith)

pub built_in_more : (rows new : List ClassRow) (row : ClassRow) (i : ℕ) → i < 13 → new ≡ rows ++ row ∷ [] → outline row ≡ built_in_outline i → AreBuiltIn i rows → AreBuiltIn (i + 1) new
built_in_more rows new row i b grown is old =
    let step : take (i + 1) built_in_numbers ≡ take i built_in_numbers ++ i ∷ [] = take_more built_in_numbers i 0 b ∙ ap (λ z. take i built_in_numbers ++ z ∷ []) (number_at i b) in
    ap outlines grown ∙ map_push outline rows row ∙ (λ k. old k ++ is k ∷ []) ∙ sym (ap (map built_in_outline) step ∙ map_push built_in_outline (take i built_in_numbers) i)

-- one class less is left
pub outlines_more : (file : File) (rows new : List ClassRow) (row : ClassRow) (n : ℕ) (c : ClassDecl) (left : List ClassDecl) (all : Outlines) → new ≡ rows ++ row ∷ [] → outline row ≡ class_outline file (supers (classes_of file) n) c → outlines rows ++ outlines_from file n (c ∷ left) ≡ all → outlines new ++ outlines_from file (n + 1) left ≡ all
outlines_more file rows new row n c left all grown is so_far =
    ap (λ z. outlines z ++ outlines_from file (n + 1) left) grown ∙ ap (λ z. z ++ outlines_from file (n + 1) left) (map_push outline rows row) ∙ append_assoc (outlines rows) (outline row ∷ []) (outlines_from file (n + 1) left) ∙ ap (λ z. outlines rows ++ z ∷ outlines_from file (n + 1) left) is ∙ so_far

-- ---- the written supertypes

written_from : (file : File) (n : ℕ) (cs : List ClassDecl) → written (outlines_from file n cs) ≡ map (λ c. supers_named (top_names file) c.supertypes) cs
written_from file n [] = refl
written_from file n (c ∷ cs) = ap (λ z. supers_named (top_names file) c.supertypes ∷ z) (written_from file (n + 1) cs)

pub written_of : (file : File) → written (outlines_of file) ≡ classes_of file
unfolding outlines_of classes_of
written_of file = ap (λ z. built_in_supers ++ z) (written_from file built_in_classes file.classes)

pub rowed_of : (file : File) (aboves : Classes) (rows : List ClassRow) → length aboves ≡ built_in_classes + length file.classes → HaveAboves file aboves → outlines rows ≡ outlines_of file → AreRowsOf aboves rows → length rows ≤ length aboves → IsRowed rows
rowed_of file aboves rows long have is rows_are within = record {
  aboves = λ c row at. (
      let inside = slice_get_within rows c row at in
      (rows_are c row at).0 ∙ have c (omega arith) ∙ ap (λ z. supers z c) (sym (ap written is ∙ written_of file))
      );
  few = λ c row at. (rows_are c row at).1;
}

-- ---- every written supertype is known, and no built-in class is above itself

none_in : (s : ℕ) → Contains [] s → ⊥
none_in s h = absurd (omega (arith, h.1))

below_one : (k s n : ℕ) → Contains (k ∷ []) s → k < n → s < n
below_one k s n h b = subst (λ z. z < n) (has_one k s (contains_has (k ∷ []) s h)) b

built_in_falls : (file : File) (c s : ℕ) → Contains (supers_of (classes_of file) c) s → c < 13 → s < c
unfolding classes_of
built_in_falls file (zero) s h lt = absurd (none_in s h)
built_in_falls file (suc zero) s h lt = absurd (none_in s h)
built_in_falls file (suc (suc zero)) s h lt = absurd (none_in s h)
built_in_falls file (suc (suc (suc zero))) s h lt = absurd (none_in s h)
built_in_falls file (suc (suc (suc (suc zero)))) s h lt = absurd (none_in s h)
built_in_falls file (suc (suc (suc (suc (suc zero))))) s h lt = absurd (none_in s h)
built_in_falls file (suc (suc (suc (suc (suc (suc zero)))))) s h lt = below_one 5 s _ h (omega arith)
built_in_falls file (suc (suc (suc (suc (suc (suc (suc zero))))))) s h lt = below_one 6 s _ h (omega arith)
built_in_falls file (suc (suc (suc (suc (suc (suc (suc (suc zero)))))))) s h lt = below_one 7 s _ h (omega arith)
built_in_falls file (suc (suc (suc (suc (suc (suc (suc (suc (suc zero))))))))) s h lt = below_one 7 s _ h (omega arith)
built_in_falls file (suc (suc (suc (suc (suc (suc (suc (suc (suc (suc zero)))))))))) s h lt = below_one 7 s _ h (omega arith)
built_in_falls file (suc (suc (suc (suc (suc (suc (suc (suc (suc (suc (suc zero))))))))))) s h lt = below_one 7 s _ h (omega arith)
built_in_falls file (suc (suc (suc (suc (suc (suc (suc (suc (suc (suc (suc (suc zero)))))))))))) s h lt = below_one 7 s _ h (omega arith)
built_in_falls file (suc (suc (suc (suc (suc (suc (suc (suc (suc (suc (suc (suc (suc n))))))))))))) s h lt = absurd (omega arith)

get_right : {A : Type 0} (xs ys : List A) (j k : ℕ) → k ≡ length xs + j → slice_get (xs ++ ys) k ≡ slice_get ys j
get_right [] ys j k e = let same : k ≡ j = omega arith in ap (slice_get ys) same
get_right (x ∷ xs) ys j zero e = absurd (omega arith)
get_right (x ∷ xs) ys j (suc k) e = get_right xs ys j k (omega arith)

some_number : {a b : ℕ} → Some a ≡ Some b → a ≡ b
some_number e = cc

built_in_named : (name s : ℕ) (a b : Bool) → nat_lt name 13 ≡ a → cond (a && b) (Some name) None ≡ Some s → s < 13
built_in_named name s true true e h = let same = some_number h in let below = ltb-true name 13 e in omega arith
built_in_named name s true false e h = cc
built_in_named name s false b e h = cc

named_within : (tops : Tops) (name s : ℕ) → class_named tops name ≡ Some s → s < 13 + length tops.class_names
unfolding class_named
named_within tops name s h = step (position (λ c. c == name) tops.class_names) refl
  where
    step : (o : Option ℕ) → position (λ c. c == name) tops.class_names ≡ o → s < 13 + length tops.class_names
    step (Some i) e =
        let same = some_number (rw e at h) in
        let at = position-Some (λ (c : ℕ). c == name) tops.class_names i 0 e in
        omega (arith, same, at.0)
    step None e =
        let below = built_in_named name s (nat_lt name 13) (not (is_function_name tops name)) refl (rw e at h) in
        omega (arith, below)

supers_within : (tops : Tops) (ss : List Supertype) (s : ℕ) → Has (supers_named tops ss) s → s < 13 + length tops.class_names
unfolding Lists.Has
supers_within tops [] s h = absurd h
supers_within tops (x ∷ ss) s h =
    step (class_named tops x.name.name) refl h (supers_within tops ss s)
  where
    step : (o : Option ℕ) → class_named tops x.name.name ≡ o → Has (cons_option o (supers_named tops ss)) s → (Has (supers_named tops ss) s → s < 13 + length tops.class_names) → s < 13 + length tops.class_names
    step None e g rest = rest g
    step (Some c) e (inl is) rest = named_within tops x.name.name s (e ∙ ap Some is)
    step (Some c) e (inr g) rest = rest g

-- the classes above one of the file are those that its words name
of_file : (file : File) (i c : ℕ) → c ≡ 13 + i → supers_of (classes_of file) c ≡ unwrap_or (slice_get (map (λ d. supers_named (top_names file) d.supertypes) file.classes) i) []
unfolding classes_of
of_file file i c e =
    ap (λ o. unwrap_or o []) (get_right built_in_supers (map (λ d. supers_named (top_names file) d.supertypes) file.classes) i c e)

pub known_of_file : (file : File) → HasKnownSupers (classes_of file)
known_of_file file c s h =
    elim (cases_lt c 13) [ inl low ↦ (let falls = built_in_falls file c s h low in omega (arith, length_classes_of file)) | inr high ↦ at high ]
  where
    at : 13 ≤ c → s < length (classes_of file)
    at high = step (slice_get file.classes (c - 13)) refl
      where
        there : Has (unwrap_or (option_map (λ d. supers_named (top_names file) d.supertypes) (slice_get file.classes (c - 13))) []) s
        there =
            let e = of_file file (c - 13) c (omega arith) ∙ ap (λ o. unwrap_or o []) (slice_get-map (λ d. supers_named (top_names file) d.supertypes) file.classes (c - 13)) in
            subst (λ z. Has z s) e (contains_has _ s h)

        step : (o : Option ClassDecl) → slice_get file.classes (c - 13) ≡ o → s < length (classes_of file)
        step None e = absurd (no_more s (subst (λ o. Has (unwrap_or (option_map (λ d. supers_named (top_names file) d.supertypes) o) []) s) e there))
        step (Some d) e =
            let b = supers_within (top_names file) d.supertypes s (subst (λ o. Has (unwrap_or (option_map (λ d. supers_named (top_names file) d.supertypes) o) []) s) e there) in
            omega (arith, b, length_classes_of file, length-map file.classes (λ (c : ClassDecl). c.name.name))

climbs_fall : (file : File) {c d : ℕ} → Climbs (classes_of file) c d → c < 13 → d ≤ c
climbs_fall file here b = omega arith
climbs_fall file {c} (up {s = s} h more) b =
    let falls = built_in_falls file c s h b in let rest = climbs_fall file more (omega arith) in omega arith

-- Where nothing is violated no class is above itself.
pub free_of : (file : File) → ((f : Finding) → IsViolated file f → ⊥) → (c : ℕ) → IsProperlyAbove (classes_of file) c c → ⊥
free_of file accepted c w =
    elim (cases_lt c 13) [ inl low ↦ (let falls = built_in_falls file c w.0 w.1 low in let rest = climbs_fall file w.2 (omega arith) in absurd (omega arith)) | inr high ↦ at high ]
  where
    at : 13 ≤ c → ⊥
    at high = step (slice_get file.classes (c - 13)) refl
      where
        same : c ≡ built_in_classes + (c - 13)
        same = omega arith

        step : (o : Option ClassDecl) → slice_get file.classes (c - 13) ≡ o → ⊥
        step None e =
            let none = of_file file (c - 13) c same ∙ ap (λ o. unwrap_or o []) (slice_get-map (λ d. supers_named (top_names file) d.supertypes) file.classes (c - 13) ∙ ap (option_map (λ d. supers_named (top_names file) d.supertypes)) e) in
            none_in w.0 (subst (λ z. Contains z w.0) none w.1)
        step (Some d) e =
            accepted (record { rule = SupertypeCycle; span = d.name.span }) (inr (record { place = c - 13; decl = d; declared = e; violated = cycle (subst (λ z. IsProperlyAbove (classes_of file) z z) same w) refl }))

-- ---- settling

outlines_put : (rows : List ClassRow) (i : ℕ) (row new : ClassRow) → slice_get rows i ≡ Some row → outline new ≡ outline row → outlines (slice_set rows i new) ≡ outlines rows
outlines_put [] i row new is e = refl
outlines_put (r ∷ rows) zero row new is e =
    ap (λ z. z ∷ outlines rows) (e ∙ ap outline (sym (one_row is)))
  where
    one_row : {a b : ClassRow} → Some a ≡ Some b → a ≡ b
    one_row e = cc
outlines_put (r ∷ rows) (suc i) row new is e = ap (λ z. outline r ∷ z) (outlines_put rows i row new is e)

module _ (rows new : List ClassRow) (i : ℕ) (row put : ClassRow) (is : slice_get rows i ≡ Some row) (grown : new ≡ slice_set rows i put) (alike : outline put ≡ outline row) where
  same_row : {a b : ClassRow} → Some a ≡ Some b → a ≡ b
  same_row e = cc

  pub outlines_kept : outlines new ≡ outlines rows
  outlines_kept = ap outlines grown ∙ outlines_put rows i row put is alike

  -- a row is the one that was put in, or an old one
  was : (c : ℕ) (r : ClassRow) → slice_get new c ≡ Some r → ((c ≡ i) × (r ≡ put)) ⊎ (slice_get rows c ≡ Some r)
  was c r at =
      elim (eqb_tells c i) [
        | inl same ↦ inl (same.1, same_row (sym (ap (slice_get new) (sym same.1) ∙ at) ∙ ap (λ z. slice_get z i) grown ∙ set_same rows i put (slice_get_within rows i row is)))
        | inr other ↦ inr (sym (ap (λ z. slice_get z c) grown ∙ set_other rows i c put other.1) ∙ at)
      ]

  pub rowed_kept : put.above ≡ row.above → put.members ≡ row.members → IsRowed rows → IsRowed new
  rowed_kept above members r = record {
    aboves = λ c q at. elim (was c q at) [ inl w ↦ aboves_here c q w | inr old ↦ r.aboves c q old ∙ ap (λ z. supers (written z) c) (sym outlines_kept) ];
    few = λ c q at. elim (was c q at) [ inl w ↦ few_here q w.1 | inr old ↦ r.few c q old ];
  }
    where
      aboves_here : (c : ℕ) (q : ClassRow) → (c ≡ i) × (q ≡ put) → q.above ≡ supers (written (outlines new)) c
      aboves_here c q w =
          ap (λ z. z.above) w.1 ∙ above ∙ r.aboves i row is ∙ ap (λ z. supers (written z) i) (sym outlines_kept) ∙ ap (supers (written (outlines new))) (sym w.0)

      few_here : (q : ClassRow) → q ≡ put → length q.members < 2 ^ 32
      few_here q e =
          subst (λ z. length z < 2 ^ 32) (sym (ap (λ z. z.members) e ∙ members)) (r.few i row is)

  pub settled_more : put.settled ≡ settled_of (outlines rows) i → AreSettled i rows → AreSettled (i + 1) new
  settled_more settled old c q b at =
      elim (was c q at) [
        | inl w ↦ ap (λ z. z.settled) w.1 ∙ settled ∙ ap (λ z. settled_of z i) (sym outlines_kept) ∙ ap (settled_of (outlines new)) (sym w.0)
        | inr there ↦ (elim (cases_lt c i) [ inl before ↦ old c q before there ∙ ap (λ z. settled_of z c) (sym outlines_kept) | inr from ↦ here_again c q from b there at ])
      ]
    where
      here_again : (c : ℕ) (q : ClassRow) → i ≤ c → c < i + 1 → slice_get rows c ≡ Some q → slice_get new c ≡ Some q → q.settled ≡ settled_of (outlines new) c
      here_again c q from b there at =
          let same : c ≡ i = omega arith in
          let is_put : q ≡ put = same_row (sym (ap (slice_get new) (sym same) ∙ at) ∙ ap (λ z. slice_get z i) grown ∙ set_same rows i put (slice_get_within rows i row is)) in
          ap (λ z. z.settled) is_put ∙ settled ∙ ap (λ z. settled_of z i) (sym outlines_kept) ∙ ap (settled_of (outlines new)) (sym same)

pub row_there : (rows : List ClassRow) (i : ℕ) → i < length rows → (row : ClassRow) × (slice_get rows i ≡ Some row)
row_there [] i b = absurd (omega arith)
row_there (r ∷ rows) zero b = (r, refl)
row_there (r ∷ rows) (suc i) b = row_there rows i (omega arith)

pub settled_table : (file : File) (classes : Classes) (rows : List ClassRow) → classes ≡ classes_of file → IsRanked classes → outlines rows ≡ outlines_of file → IsRowed rows → AreSettled (length rows) rows → IsSettled rows
settled_table file classes rows is ranked same rowed settled = record {
  ranked = let P : Classes → Type 0 = λ z. IsRanked z in subst P (is ∙ sym (ap written same ∙ written_of file)) ranked;
  row = λ c row at. record {
    above = rowed.aboves c row at;
    settled = settled c row (slice_get_within rows c row at) at;
    few = rowed.few c row at;
  };
}

pub none_violated : (V : Finding → Type 0) (found : List Finding) → AreFindings V found → found ≡ [] → (f : Finding) → V f → ⊥
none_violated V found are none f v =
    let h : Contains [] f = subst (λ z. Contains z f) none (are.all f v) in absurd (omega (arith, h.1))
