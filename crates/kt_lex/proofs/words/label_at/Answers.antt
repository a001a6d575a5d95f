use Rattle.std.proofs.Common.{◌≡◌, ℕ, true, false, List, Some, None, codes, option_and_then, refl, sym, ap, ◌∙◌, rules}
use Rattle.std.specs.Str.{chars}
use Rattle.kt_tree.specs.Characters.{begins_name, continues_name}
use Rattle.kt_tree.specs.Lexemes.{keyword_of}
use Rattle.kt_tree.specs.Text.{first, run, after_run}
use Rattle.kt_lex.specs.Keywords.{kind_of}
use Rattle.kt_lex.specs.Steps.{strip_text, label_in, label_at}
use Rattle.kt_lex.proofs.words.label_at.Goals as goal

-- `return@` is ASCII
chars-return_at : chars (codes "return@") ≡ codes "return@"
unfolding chars
chars-return_at = refl

-- what the code finds behind `return@`
label_at-some : (text rest : List ℕ) → Some rest ≡ strip_text (chars (codes "return@")) text → label_at text ≡ label_in rest
label_at-some text rest e = sym (ap (option_and_then label_in) (e ∙ ap (λ r. strip_text r text) chars-return_at))

-- what it finds where `return@` doesn't stand
label_at-none : (text : List ℕ) → None ≡ strip_text (chars (codes "return@")) text → label_at text ≡ None
label_at-none text e = sym (ap (option_and_then label_in) (e ∙ ap (λ r. strip_text r text) chars-return_at))

pub returns-in_err-rest : goal.returns-in_err-rest
returns-in_err-rest c =
    let none = label_at-none (chars c.args.s.now) c.in_err-rest.ensures in
    let got : c.from_residual.result ≡ None = search rules in
    rw got (sym none)

pub returns-then-not-begins_name : goal.returns-then-not-begins_name
returns-then-not-begins_name c =
    let rest = chars c.in_ok-rest.rest.now in
    let b : begins_name (first rest) ≡ false = search rules in
    let here : label_in rest ≡ None = rw b refl in
    sym (label_at-some (chars c.args.s.now) rest c.in_ok-rest.ensures ∙ here)

pub returns-in-Some : goal.returns-in-Some
returns-in-Some c =
    let rest = chars c.in_ok-rest.rest.now in
    let b : begins_name (first rest) ≡ true = search rules in
    let k : keyword_of (run continues_name rest) ≡ Some (kind_of c.in-Some.field-0) = ap keyword_of (sym c.split_run.ensures.run) ∙ sym c.in-Some.ensures in
    let here : label_in rest ≡ None = rw (b, k) refl in
    sym (label_at-some (chars c.args.s.now) rest c.in_ok-rest.ensures ∙ here)

pub returns-in-None : goal.returns-in-None
returns-in-None c =
    let rest = chars c.in_ok-rest.rest.now in
    let b : begins_name (first rest) ≡ true = search rules in
    let k : keyword_of (run continues_name rest) ≡ None = ap keyword_of (sym c.split_run.ensures.run) ∙ sym c.in-None.ensures in
    let here : label_in rest ≡ Some (run continues_name rest, after_run continues_name rest) = rw (b, k) refl in
    sym (label_at-some (chars c.args.s.now) rest c.in_ok-rest.ensures ∙ here ∙ rw (c.split_run.ensures.run, c.split_run.ensures.rest) refl)
