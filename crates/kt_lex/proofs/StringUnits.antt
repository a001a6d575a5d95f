-- The units of a string's text, and what its fronts stand for.
use Rattle.std.proofs.Common.{◌≡◌, ℕ, zero, suc, ◌+◌, ◌-◌, ◌<◌, ◌≤◌, true, false, ◌==◌, List, [], ◌∷◌, ◌++◌, length, take, drop, Option, Some, None, refl, sym, ap, ap₂, ◌∙◌, inl, inr, arith, append_assoc, length-append}
use Rattle.std.proofs.lemmas.Bool.{cases_Bool}
use Rattle.std.proofs.lemmas.List.{take-append-drop}
use Rattle.std.proofs.Math.Seq.{take-append-add, drop-append-add}
use Rattle.kt_tree.specs.Strings.{simple_escape, code_unit, is_code_unit, is_plain, cons_some, text_value, escape_value, unicode_value}
use Rattle.kt_lex.specs.Units.{with_rest, unicode, escape, unit, AreUnits, none, more}

-- one more unit at the end
pub AreUnits-push : {a b d v : List ℕ} {c : ℕ} → AreUnits a v b → unit b ≡ Some (c, d) → AreUnits a (v ++ c ∷ []) d
AreUnits-push none e = more e none
AreUnits-push (more f r) e = more f (AreUnits-push r e)

-- a unit with its own characters: at the front of a text it stands for its character there
pub record IsUnit (cs : List ℕ) (c : ℕ) (rest : List ℕ) : Type 0 where
  pub word : List ℕ
  pub parts : cs ≡ word ++ rest
  pub some : 0 < length word
  pub value : (f after : List ℕ) → f ++ after ≡ rest → text_value (word ++ f) after ≡ cons_some (Some c) (text_value f after)

-- the parts of two pairs that are one
unit_pair : (a c : ℕ) (bs cs : List ℕ) → ◌≡◌ {A = Option (ℕ × List ℕ)} (Some (a, bs)) (Some (c, cs)) → (a ≡ c) × (bs ≡ cs)
unit_pair a c bs cs e = let same : ◌≡◌ {A = ℕ × List ℕ} (a, bs) (c, cs) = cc in (ap (λ (p : ℕ × List ℕ). p.0) same, ap (λ (p : ℕ × List ℕ). p.1) same)

-- an escape of four digits is a unit
unicode-is : (cs : List ℕ) (c : ℕ) (rest : List ℕ) (b u : ℕ) → (b == 92) ≡ true → (u == 117) ≡ true → ◌≡◌ {A = Option (ℕ × List ℕ)} (unicode cs) (Some (c, rest)) → IsUnit (b ∷ u ∷ cs) c rest
unicode-is [] c rest b u hb hu e = absurd (cc)
unicode-is (x ∷ []) c rest b u hb hu e = absurd (cc)
unicode-is (x ∷ y ∷ []) c rest b u hb hu e = absurd (cc)
unicode-is (x ∷ y ∷ z ∷ []) c rest b u hb hu e = absurd (cc)
unicode-is (x ∷ y ∷ z ∷ w ∷ cs) c rest b u hb hu e =
    elim (cases_Bool (is_code_unit x y z w)) [
      | inl hit ↦
          let here : ◌≡◌ {A = Option (ℕ × List ℕ)} (Some (code_unit x y z w, cs)) (Some (c, rest)) = rw hit at e in
          let (char, after) = unit_pair (code_unit x y z w) c cs rest here in
          record {
            word = b ∷ u ∷ x ∷ y ∷ z ∷ w ∷ [];
            parts = ap (λ t. b ∷ u ∷ x ∷ y ∷ z ∷ w ∷ t) after;
            some = omega arith;
            value = λ f after_f same. rw (hb, hu, hit) (ap (λ v. cons_some (Some v) (text_value f after_f)) char);
          }
      | inr miss ↦ let nothing : ◌≡◌ {A = Option (ℕ × List ℕ)} None (Some (c, rest)) = rw miss at e in absurd (cc)
    ]

-- any other escape is a unit
simple-is : (o : Option ℕ) (d : ℕ) (cs : List ℕ) (c : ℕ) (rest : List ℕ) (b : ℕ) → simple_escape d ≡ o → (b == 92) ≡ true → (d == 117) ≡ false → ◌≡◌ {A = Option (ℕ × List ℕ)} (with_rest cs o) (Some (c, rest))
    → IsUnit (b ∷ d ∷ cs) c rest
simple-is None d cs c rest b s hb hd e = absurd (cc)
simple-is (Some a) d cs c rest b s hb hd e =
    let (char, after) = unit_pair a c cs rest e in
    record {
      word = b ∷ d ∷ [];
      parts = ap (λ t. b ∷ d ∷ t) after;
      some = omega arith;
      value = λ f after_f same. rw (hb, hd, s) (ap (λ v. cons_some (Some v) (text_value f after_f)) char);
    }

-- an escape is a unit
escape-is : (cs : List ℕ) (c : ℕ) (rest : List ℕ) (b : ℕ) → (b == 92) ≡ true → ◌≡◌ {A = Option (ℕ × List ℕ)} (escape cs) (Some (c, rest)) → IsUnit (b ∷ cs) c rest
escape-is [] c rest b hb e = absurd (cc)
escape-is (d ∷ cs) c rest b hb e =
    elim (cases_Bool (d == 117)) [
      | inl hit ↦ unicode-is cs c rest b d hb hit (rw hit at e)
      | inr miss ↦ simple-is (simple_escape d) d cs c rest b refl hb miss (rw miss at e)
    ]

-- what the code reads is a unit
pub unit-is : (cs : List ℕ) (c : ℕ) (rest : List ℕ) → ◌≡◌ {A = Option (ℕ × List ℕ)} (unit cs) (Some (c, rest)) → IsUnit cs c rest
unit-is [] c rest e = absurd (cc)
unit-is (b ∷ cs) c rest e =
    elim (cases_Bool (b == 92)) [
      | inl hit ↦ escape-is cs c rest b hit (rw hit at e)
      | inr miss ↦
          elim (cases_Bool (is_plain b cs)) [
            | inl plain ↦
                let here : ◌≡◌ {A = Option (ℕ × List ℕ)} (Some (b, cs)) (Some (c, rest)) = rw (miss, plain) at e in
                let (char, after) = unit_pair b c cs rest here in
                record {
                  word = b ∷ [];
                  parts = ap (λ t. b ∷ t) after;
                  some = omega arith;
                  value = λ f after_f same.
                      let here : is_plain b (f ++ after_f) ≡ true = ap (is_plain b) (same ∙ sym after) ∙ plain in
                      rw (miss, here) (ap (λ v. cons_some (Some v) (text_value f after_f)) char);
                }
            | inr other ↦ let nothing : ◌≡◌ {A = Option (ℕ × List ℕ)} None (Some (c, rest)) = rw (miss, other) at e in absurd (cc)
          ]
    ]

-- what is no escape of four digits is no text
unicode-none : (f after : List ℕ) → unicode (f ++ after) ≡ None → unicode_value f after ≡ None
unicode-none [] after e = refl
unicode-none (x ∷ []) after e = refl
unicode-none (x ∷ y ∷ []) after e = refl
unicode-none (x ∷ y ∷ z ∷ []) after e = refl
unicode-none (x ∷ y ∷ z ∷ w ∷ f) after e =
    elim (cases_Bool (is_code_unit x y z w)) [
      | inl hit ↦ let something : ◌≡◌ {A = Option (ℕ × List ℕ)} (Some (code_unit x y z w, f ++ after)) None = rw hit at e in absurd (cc)
      | inr miss ↦ rw miss refl
    ]

-- an escape that stands for nothing is no text
simple-none : (o : Option ℕ) (cs : List ℕ) (v : Option (List ℕ)) → with_rest cs o ≡ None → cons_some o v ≡ None
simple-none None cs v e = refl
simple-none (Some a) cs v e = absurd (cc)

-- what is no escape is no text
escape-none : (f after : List ℕ) → escape (f ++ after) ≡ None → escape_value f after ≡ None
escape-none [] after e = refl
escape-none (d ∷ f) after e =
    elim (cases_Bool (d == 117)) [
      | inl hit ↦ rw hit (unicode-none f after (rw hit at e))
      | inr miss ↦ rw miss (simple-none (simple_escape d) (f ++ after) (text_value f after) (rw miss at e))
    ]

-- what begins with no unit is no text
unit-none : (b : ℕ) (f after : List ℕ) → unit (b ∷ (f ++ after)) ≡ None → text_value (b ∷ f) after ≡ None
unit-none b f after e =
    elim (cases_Bool (b == 92)) [
      | inl hit ↦ rw hit (escape-none f after (rw hit at e))
      | inr miss ↦
          elim (cases_Bool (is_plain b (f ++ after))) [
            | inl plain ↦ let something : ◌≡◌ {A = Option (ℕ × List ℕ)} (Some (b, f ++ after)) None = rw (miss, plain) at e in absurd (cc)
            | inr other ↦ rw (miss, other) refl
          ]
    ]

-- no front of what begins with no unit is a text
pub no_text : (cs : List ℕ) (m : ℕ) → unit cs ≡ None → 0 < m → m ≤ length cs → text_value (take m cs) (drop m cs) ≡ None
no_text cs zero e lo hi = absurd (omega arith)
no_text [] (suc m) e lo hi = absurd (omega arith)
no_text (b ∷ cs) (suc m) e lo hi = unit-none b (take m cs) (drop m cs) (ap (λ t. unit (b ∷ t)) (take-append-drop m cs) ∙ e)

-- the longest text at the front
pub record IsPiece (cs v rest : List ℕ) : Type 0 where
  pub front : List ℕ
  pub parts : cs ≡ front ++ rest
  pub value : text_value front rest ≡ Some v
  pub longer : (m : ℕ) → length front < m → m ≤ length cs → text_value (take m cs) (drop m cs) ≡ None

-- a longer front has the unit and a longer front of what follows it
longer_text : (cs ds : List ℕ) (c m k : ℕ) (u : IsUnit cs c ds) → m ≡ length u.word + k → text_value (take k ds) (drop k ds) ≡ None → text_value (take m cs) (drop m cs) ≡ None
longer_text cs ds c m k u e h =
    let front : take m cs ≡ u.word ++ take k ds = ap₂ take e u.parts ∙ take-append-add u.word ds k in
    let back : drop m cs ≡ drop k ds = ap₂ drop e u.parts ∙ drop-append-add u.word ds k in
    ap₂ text_value front back ∙ u.value (take k ds) (drop k ds) (take-append-drop k ds) ∙ ap (cons_some (Some c)) h

-- all units at the front are the longest text there
pub units-piece : {cs v rest : List ℕ} → AreUnits cs v rest → unit rest ≡ None → IsPiece cs v rest
units-piece {cs = cs} none stop = record { front = []; parts = refl; value = refl; longer = λ m lo hi. no_text cs m stop (omega arith) hi }
units-piece {cs = cs} {rest = es} (more {ds = ds} {v = v} {c = c} e r) stop =
    let u = unit-is cs c ds e in
    let p = units-piece r stop in
    record {
      front = u.word ++ p.front;
      parts = u.parts ∙ ap (λ t. u.word ++ t) p.parts ∙ sym (append_assoc u.word p.front es);
      value = u.value p.front es (sym p.parts) ∙ ap (cons_some (Some c)) p.value;
      longer = λ m lo hi.
          let len : length (u.word ++ p.front) ≡ length u.word + length p.front = length-append u.word p.front in
          let whole : length cs ≡ length u.word + length ds = ap length u.parts ∙ length-append u.word ds in
          longer_text cs ds c m (m - length u.word) u (omega arith) (p.longer (m - length u.word) (omega arith) (omega arith));
    }

-- a text that begins with a unit has a piece at its front
pub some_front : (cs rest : List ℕ) (u : ℕ × List ℕ) (front : List ℕ) → unit cs ≡ Some u → unit rest ≡ None → cs ≡ front ++ rest → 0 < length front
some_front cs rest u [] some stop e = let both : ◌≡◌ {A = Option (ℕ × List ℕ)} None (Some u) = sym stop ∙ ap unit (sym e) ∙ some in absurd (cc)
some_front cs rest u (c ∷ front) some stop e = omega arith
