use Rattle.std.proofs.Common.{◌≡◌, ℕ, List, [], ◌++◌, ◌∷◌, string_bytes, sym, ap, ap₂, ◌∙◌, rules, append-nil, subst}
use Rattle.std.proofs.lemmas.Str.{encodes-chars, encodes-append, chars_from_encodes, chars-nil, IsUtf8-string_bytes}
use lib.Utf8.{encodes, encode}
use Rattle.std.specs.Str.{chars, IsUtf8}
use Rattle.kt_lex.specs.Units.{AreUnits, none}
use Rattle.kt_lex.proofs.StringUnits.{AreUnits-push}
use Rattle.kt_lex.proofs.strings.piece_move.Goals as goal

-- one more character at the end of a text
chars-push : (bs more : List ℕ) (c : ℕ) → IsUtf8 bs → IsUtf8 more → more ≡ bs ++ encode c → chars more ≡ chars bs ++ c ∷ []
chars-push bs more c utf8 utf8_more e =
    let one : encodes (c ∷ []) ≡ encode c = append-nil (encode c) in
    let whole : encodes (chars bs ++ c ∷ []) ≡ more = encodes-append (chars bs) (c ∷ []) ∙ ap₂ (λ a b. a ++ b) (encodes-chars bs utf8) one ∙ sym e in
    sym (chars_from_encodes (chars bs ++ c ∷ []) more utf8_more whole)

pub units-init : goal.units-init
units-init c = record {
  text = c.utf8.s;
  units = subst (λ v. AreUnits (chars c.args.s.now) v (chars c.args.s.now)) (sym (ap chars c.new-value.ensures.bytes ∙ chars-nil)) none;
}

pub units-preserved : goal.units-preserved
units-preserved c =
    let s = chars c.args.s.now in
    let after = chars c.in-Some.after.now in
    let value = chars-push (string_bytes c.units.value) (string_bytes c.push.new.self) c.in-Some.c (IsUtf8-string_bytes c.units.value) (IsUtf8-string_bytes c.push.new.self) c.in_ok-push.ensures.bytes in
    record {
      text = search rules;
      units = subst (λ v. AreUnits s v after) (sym value) (AreUnits-push c.units.invariant.units (sym c.in-Some.ensures.value));
    }
