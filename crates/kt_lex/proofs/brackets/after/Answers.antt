use Rattle.std.proofs.Common.{◌≡◌, ◌-◌, List, length, take, map, slice_get, vec_len, option_map, true, false, sym, ap, ◌∙◌, rules, append-nil}
use Rattle.std.proofs.lemmas.List.{take-map, length-map}
use Rattle.std.proofs.lemmas.Option.{slice_get-map}
use Rattle.kt_tree.specs.Brackets.{innermost, closes}
use Rattle.kt_lex.specs.declared.brackets.Bracket.{Bracket}
use Rattle.kt_lex.specs.Opened.{bracket_of}
use Rattle.kt_lex.proofs.brackets.after.Goals as goal

-- the innermost bracket of the code's
innermost-map : (stack : List Bracket) → innermost (map bracket_of stack) ≡ option_map bracket_of (slice_get stack (length stack - 1))
innermost-map stack = ap (λ n. slice_get (map bracket_of stack) (n - 1)) (length-map stack bracket_of) ∙ slice_get-map bracket_of stack (length stack - 1)

pub returns-then-closes : goal.returns-then-closes
returns-then-closes c =
    let stack = c.args.stack.now.items in
    let last : c.copied.result ≡ slice_get stack (length stack - 1) = search rules in
    let hit : closes c.args.kind.now (innermost (map bracket_of stack)) ≡ true =
    ap (closes c.args.kind.now) (innermost-map stack ∙ ap (option_map bracket_of) (sym last)) ∙ sym c.closes.ensures ∙ c.if-closes.true in
    let len : length (map bracket_of stack) ≡ vec_len c.args.stack.now = length-map stack bracket_of ∙ sym (ap length c.deref.ensures.value) ∙ c.deref.ensures.len in
    rw hit (ap (map bracket_of) c.pop.ensures.rest ∙ sym (take-map bracket_of (vec_len c.args.stack.now - 1) stack) ∙ ap (λ n. take (n - 1) (map bracket_of stack)) (sym len))

pub returns-in_default : goal.returns-in_default
returns-in_default c =
    let stack = c.args.stack.now.items in
    let last : c.copied.result ≡ slice_get stack (length stack - 1) = search rules in
    let miss : closes c.args.kind.now (innermost (map bracket_of stack)) ≡ false =
    ap (closes c.args.kind.now) (innermost-map stack ∙ ap (option_map bracket_of) (sym last)) ∙ sym c.closes.ensures ∙ c.if-closes.false in
    rw (miss, ← c.in_default.ensures) (sym (append-nil (map bracket_of stack)))
