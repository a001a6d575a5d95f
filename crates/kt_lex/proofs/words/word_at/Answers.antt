use Rattle.std.proofs.Common.{◌≡◌, ℕ, List, Some, None, codes, refl, sym, ap, ◌∙◌}
use Rattle.std.specs.Str.{chars}
use Rattle.kt_tree.specs.Lexemes.{keyword_of}
use Rattle.kt_lex.specs.Keywords.{kind_of}
use Rattle.kt_lex.specs.Steps.{strip_text, label_at}
use Rattle.kt_lex.proofs.WordFronts.{token_at-as_safe, token_at-label, token_at-word}
use Rattle.kt_lex.proofs.words.word_at.Goals as goal

-- `as?` is ASCII
chars-as_safe : chars (codes "as?") ≡ codes "as?"
unfolding chars
chars-as_safe = refl

-- where the code strips none there is none
no_safe : (text : List ℕ) → None ≡ strip_text (chars (codes "as?")) text → strip_text (codes "as?") text ≡ None
no_safe text e = sym (e ∙ ap (λ r. strip_text r text) chars-as_safe)

pub returns-in-Some : goal.returns-in-Some
returns-in-Some c =
    let text = chars c.args.s.now in
    let here : strip_text (codes "as?") text ≡ Some (chars c.in-Some.rest.now) = sym (c.in-Some.ensures ∙ ap (λ r. strip_text r text) chars-as_safe) in
    sym (token_at-as_safe text (chars c.in-Some.rest.now) here)

pub returns-in-Some-label_at : goal.returns-in-Some-label_at
returns-in-Some-label_at c =
    sym (token_at-label (chars c.args.s.now) (chars c.in-Some-label_at.name.now, chars c.in-Some-label_at.rest.now) (sym c.in-Some-label_at.ensures))

pub returns-in-Some-keyword_of : goal.returns-in-Some-keyword_of
returns-in-Some-keyword_of c =
    let text = chars c.args.s.now in
    let safe = no_safe text c.in_default.ensures in
    let label : label_at text ≡ None = sym c.in_default-label_at.ensures in
    let e = token_at-word text c.requires safe label in
    let k : keyword_of (chars c.split_run.result.0.now) ≡ Some (kind_of c.in-Some-keyword_of.keyword) = sym c.in-Some-keyword_of.ensures in
    rw (e, ← c.split_run.ensures.run, ← c.split_run.ensures.rest, k, c.kind.ensures) refl

pub returns-in-None : goal.returns-in-None
returns-in-None c =
    let text = chars c.args.s.now in
    let safe = no_safe text c.in_default.ensures in
    let label : label_at text ≡ None = sym c.in_default-label_at.ensures in
    let e = token_at-word text c.requires safe label in
    let k : keyword_of (chars c.split_run.result.0.now) ≡ None = sym c.in-None.ensures in
    rw (e, ← c.split_run.ensures.run, ← c.split_run.ensures.rest, k) refl
