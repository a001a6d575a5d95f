use Rattle.std.proofs.Common.{◌≡◌, ℕ, ◌-◌, ◌≤◌, false, ◌&&◌, List, length, map, Option, Some, None, sym, ap, ap₂, ◌∙◌, rules, arith, subst}
use Rattle.std.proofs.lemmas.Str.{length-le-encodes, encodes-chars}
use Rattle.std.specs.Str.{chars, IsUtf8}
use Rattle.kt_tree.specs.Brackets.{Bracket, brackets_after, counts_lines, open_quote}
use Rattle.kt_tree.specs.Moves.{Move, skip, take, stop, unclosed, bad, next_move}
use Rattle.kt_tree.specs.Text.{place, after_first, width, without_mark}
use Rattle.kt_tree.specs.Tokens.{unclosed_or, bad_at}
use Rattle.kt_lex.specs.Faults.{quote_or}
use Rattle.kt_lex.specs.Opened.{bracket_of, bounds}
use Rattle.kt_lex.specs.Reading.{lexeme_of}
use Rattle.kt_lex.specs.Scanning.{move_of}
use Rattle.kt_lex.proofs.Lexing.{IsLexed, lexed-start, lexed-skip, lexed-take, lexed-stop}
use Rattle.kt_lex.proofs.Rests.{MoveLeaves, next_move-leaves, rest-shorter, rest-narrower, width-chars, after_first-narrow}
use Rattle.kt_lex.proofs.TokenSteps.{in_front, at_open_end, at_unclosed, at_bad}
use Rattle.kt_lex.proofs.lexer.scan.Goals as goal

-- what the move leaves
left_by : (stack : List Bracket) (cs : List ℕ) (m : Move) → m ≡ next_move stack cs → MoveLeaves cs m
left_by stack cs m e = subst (MoveLeaves cs) (sym e) (next_move-leaves stack cs)

-- a place in bytes
place_is : (text rest : List ℕ) → IsUtf8 text → IsUtf8 rest → place (chars text) (chars rest) ≡ length text - length rest
place_is text rest ut ur = ap₂ (λ a b. a - b) (width-chars text ut) (width-chars rest ur)

-- without its first character a text is no longer
after_first-within : (s t : List ℕ) → IsUtf8 s → IsUtf8 t → chars t ≡ after_first (chars s) → length t ≤ length s
after_first-within s t us ut e = omega (arith, after_first-narrow (chars s), ap width e, width-chars s us, width-chars t ut)

-- a text has no more characters than bytes
chars-few : (s : List ℕ) → IsUtf8 s → length (chars s) ≤ length s
chars-few s utf8 = omega (arith, length-le-encodes (chars s), ap length (encodes-chars s utf8))

-- where a string is unclosed it is named
named : (whole : List ℕ) (out : _) (start end : ℕ) (found : Option (ℕ × ℕ)) (span : ℕ × ℕ) → span ≡ quote_or (start, end) found
    → in_front out (unclosed_or (bad_at start end) found) ≡ bad_at span.0 span.1
named whole out start end None span e = ap (λ (p : ℕ × ℕ). bad_at p.0 p.1) (sym e)
named whole out start end (Some q) span e = ap (λ (p : ℕ × ℕ). bad_at p.0 p.1) (sym e)

pub moves-init : goal.moves-init
moves-init c =
    let whole = chars c.args.text.now in
    let lists : IsLexed whole c.new-list.result c.in_ok-names.names (map bracket_of c.new-stack.result.items) false (without_mark whole) =
    rw (c.new-list.ensures, c.in_ok-names.ensures, c.new-stack.ensures.items) (lexed-start whole) in
    record {
      text = c.without_mark-rest.utf8;
      within = c.without_mark-rest.ensures.lens;
      lexed = subst (IsLexed whole c.new-list.result c.in_ok-names.names (map bracket_of c.new-stack.result.items) false) (sym c.without_mark-rest.ensures.characters) lists;
    }

pub moves-smaller-in-Ok-Skip : goal.moves-smaller-in-Ok-Skip
moves-smaller-in-Ok-Skip c =
    let l = c.moves in
    let rest = chars l.rest.now in
    let stack = map bracket_of l.stack.items in
    let e : skip c.in-Ok-Skip.line (chars c.in-Ok-Skip.next.now) ≡ next_move stack rest = ap move_of (sym c.in-Ok-Skip.field-0-is) ∙ c.in-Ok-Skip.ensures ∙ ap (λ s. next_move (map bracket_of s) rest) c.deref.ensures.value in
    rest-shorter rest (chars c.in-Ok-Skip.next.now) (left_by stack rest (skip c.in-Ok-Skip.line (chars c.in-Ok-Skip.next.now)) e)

pub moves-preserved-in-Ok-Skip : goal.moves-preserved-in-Ok-Skip
moves-preserved-in-Ok-Skip c =
    let l = c.moves in
    let rest = chars l.rest.now in
    let next = chars c.in-Ok-Skip.next.now in
    let stack = map bracket_of l.stack.items in
    let e : skip c.in-Ok-Skip.line next ≡ next_move stack rest = ap move_of (sym c.in-Ok-Skip.field-0-is) ∙ c.in-Ok-Skip.ensures ∙ ap (λ s. next_move (map bracket_of s) rest) c.deref.ensures.value in
    let utf8 : IsUtf8 c.in-Ok-Skip.next.now = search rules in
    let shorter = rest-narrower l.rest.now c.in-Ok-Skip.next.now l.invariant.text utf8 (left_by stack rest (skip c.in-Ok-Skip.line next) e) in
    record {
      text = utf8;
      within = omega (arith, l.invariant.within, shorter);
      lexed = lexed-skip (chars c.args.text.now) l.list l.names stack l.fresh c.in-Ok-Skip.line rest next e l.invariant.lexed;
    }

pub span_of-span-requires-clause-next : goal.span_of-span-requires-clause-next
span_of-span-requires-clause-next c =
    let l = c.moves in
    let rest = chars l.rest.now in
    let next = chars c.in-Ok-Take.next.now in
    let stack = map bracket_of l.stack.items in
    let e : take (lexeme_of c.in-Ok-Take.word) next ≡ next_move stack rest = ap move_of (sym c.in-Ok-Take.field-0-is) ∙ c.in-Ok-Take.ensures ∙ ap (λ s. next_move (map bracket_of s) rest) c.deref.ensures.value in
    let utf8 : IsUtf8 c.in-Ok-Take.next.now = search rules in
    let shorter = rest-narrower l.rest.now c.in-Ok-Take.next.now l.invariant.text utf8 (left_by stack rest (take (lexeme_of c.in-Ok-Take.word) next) e) in
    omega (arith, l.invariant.within, shorter)

pub push-requires : goal.push-requires
push-requires c =
    let h = c.moves.invariant.lexed in
    omega (arith, h.few, h.few_names, chars-few c.args.text.now c.utf8.text, c.requires)

pub moves-smaller : goal.moves-smaller
moves-smaller c =
    let l = c.moves in
    let rest = chars l.rest.now in
    let next = chars c.in-Ok-Take.next.now in
    let stack = map bracket_of l.stack.items in
    let e : take (lexeme_of c.in-Ok-Take.word) next ≡ next_move stack rest = ap move_of (sym c.in-Ok-Take.field-0-is) ∙ c.in-Ok-Take.ensures ∙ ap (λ s. next_move (map bracket_of s) rest) c.deref.ensures.value in
    rest-shorter rest next (left_by stack rest (take (lexeme_of c.in-Ok-Take.word) next) e)

pub moves-preserved : goal.moves-preserved
moves-preserved c =
    let l = c.moves in
    let whole = chars c.args.text.now in
    let rest = chars l.rest.now in
    let next = chars c.in-Ok-Take.next.now in
    let stack = map bracket_of l.stack.items in
    let span = c.span_of-span.result in
    let e : take (lexeme_of c.in-Ok-Take.word) next ≡ next_move stack rest = ap move_of (sym c.in-Ok-Take.field-0-is) ∙ c.in-Ok-Take.ensures ∙ ap (λ s. next_move (map bracket_of s) rest) c.deref.ensures.value in
    let utf8 : IsUtf8 c.in-Ok-Take.next.now = search rules in
    let shorter = rest-narrower l.rest.now c.in-Ok-Take.next.now l.invariant.text utf8 (left_by stack rest (take (lexeme_of c.in-Ok-Take.word) next) e) in
    let start : span.start ≡ place whole rest = c.span_of-span.ensures.start ∙ sym (place_is c.args.text.now l.rest.now c.utf8.text l.invariant.text) in
    let end : span.end ≡ place whole next = c.span_of-span.ensures.end ∙ sym (place_is c.args.text.now c.in-Ok-Take.next.now c.utf8.text utf8) in
    let flag : (l.fresh && c.counts_lines.result) ≡ (l.fresh && counts_lines stack) = ap (λ b. l.fresh && b) (c.counts_lines.ensures ∙ ap (λ s. counts_lines (map bracket_of s)) c.deref-in-Ok-Take.ensures.value) in
    let brackets : map bracket_of c.after_word.new.stack.items ≡ brackets_after (lexeme_of c.in-Ok-Take.word) span.start span.end stack = search rules in
    record {
      text = utf8;
      within = omega (arith, l.invariant.within, shorter);
      lexed = subst (λ s. IsLexed whole c.push.new.list c.push.new.names s false next) (sym brackets)
          (lexed-take whole l.list c.push.new.list l.names c.push.new.names stack l.fresh (l.fresh && c.counts_lines.result) rest next (lexeme_of c.in-Ok-Take.word) span
          e l.invariant.lexed start end flag c.in_ok-push-in-Ok-Take.ensures.list c.in_ok-push-in-Ok-Take.ensures.names c.in_ok-push-in-Ok-Take.ensures.len);
    }

pub returns-in-Some-clause-bad : goal.returns-in-Some-clause-bad
returns-in-Some-clause-bad c =
    let l = c.moves in
    let rest = chars l.rest.now in
    let stack = map bracket_of l.stack.items in
    let e : stop ≡ next_move stack rest = ap move_of (sym c.in-Ok-Stop.field-0-is) ∙ c.in-Ok-Stop.ensures ∙ ap (λ s. next_move (map bracket_of s) rest) c.deref.ensures.value in
    let some : open_quote stack ≡ Some (bounds c.in-Some.span) = ap (λ s. open_quote (map bracket_of s)) (sym c.deref-in-Ok-Stop.ensures.value) ∙ sym c.in-Some.ensures in
    at_open_end (chars c.args.text.now) l.invariant.lexed.out stack l.fresh rest c.in-Some.span.start c.in-Some.span.end e some l.invariant.lexed.so_far

pub finish-requires-clause-few : goal.finish-requires-clause-few
finish-requires-clause-few c =
    let h = c.moves.invariant.lexed in
    omega (arith, h.few, chars-few c.args.text.now c.utf8.text, c.requires)

pub returns-in-Ok-Stop-clause-tokens : goal.returns-in-Ok-Stop-clause-tokens
returns-in-Ok-Stop-clause-tokens c =
    let l = c.moves in
    let whole = chars c.args.text.now in
    let rest = chars l.rest.now in
    let stack = map bracket_of l.stack.items in
    let span = c.span_of.result in
    let e : stop ≡ next_move stack rest = ap move_of (sym c.in-Ok-Stop.field-0-is) ∙ c.in-Ok-Stop.ensures ∙ ap (λ s. next_move (map bracket_of s) rest) c.deref.ensures.value in
    let none : open_quote stack ≡ None = ap (λ s. open_quote (map bracket_of s)) (sym c.deref-in-Ok-Stop.ensures.value) ∙ sym c.in_default.ensures in
    let here = place_is c.args.text.now l.rest.now c.utf8.text l.invariant.text in
    let flag : (l.fresh && c.counts_lines-in-Ok-Stop.result) ≡ (l.fresh && counts_lines stack) = ap (λ b. l.fresh && b) (c.counts_lines-in-Ok-Stop.ensures ∙ ap (λ s. counts_lines (map bracket_of s)) c.deref-in-Ok-Stop-2.ensures.value) in
    lexed-stop whole l.list l.names stack l.fresh (l.fresh && c.counts_lines-in-Ok-Stop.result) rest span c.in_ok-finish-in-Ok-Stop.field-0 e none l.invariant.lexed
    (c.span_of.ensures.start ∙ sym here) (c.span_of.ensures.end ∙ sym here) flag c.in_ok-finish-in-Ok-Stop.ensures.list c.in_ok-finish-in-Ok-Stop.ensures.names

pub span_of-here-requires-clause-next : goal.span_of-here-requires-clause-next
span_of-here-requires-clause-next c = omega (arith, c.moves.invariant.within, after_first-within c.moves.rest.now c.after_first.result.now c.moves.invariant.text c.after_first.utf8 c.after_first.ensures)

pub returns-in-Ok-Unclosed-clause-bad : goal.returns-in-Ok-Unclosed-clause-bad
returns-in-Ok-Unclosed-clause-bad c =
    let l = c.moves in
    let whole = chars c.args.text.now in
    let rest = chars l.rest.now in
    let stack = map bracket_of l.stack.items in
    let here = c.span_of-here.result in
    let e : unclosed ≡ next_move stack rest = ap move_of (sym c.in-Ok-Unclosed.field-0-is) ∙ c.in-Ok-Unclosed.ensures ∙ ap (λ s. next_move (map bracket_of s) rest) c.deref.ensures.value in
    let (n, done) = at_unclosed whole l.invariant.lexed.out stack l.fresh rest e l.invariant.lexed.so_far in
    let start : here.start ≡ place whole rest = c.span_of-here.ensures.start ∙ sym (place_is c.args.text.now l.rest.now c.utf8.text l.invariant.text) in
    let end : here.end ≡ place whole (after_first rest) = c.span_of-here.ensures.end ∙ sym (place_is c.args.text.now c.after_first.result.now c.utf8.text c.after_first.utf8) ∙ ap (place whole) c.after_first.ensures in
    let quote : bounds c.unclosed.result ≡ quote_or (place whole rest, place whole (after_first rest)) (open_quote stack) =
    c.unclosed.ensures ∙ rw (start, end) (ap (λ s. quote_or (place whole rest, place whole (after_first rest)) (open_quote (map bracket_of s))) c.deref-in-Ok-Unclosed.ensures.value) in
    (n, done ∙ named whole l.invariant.lexed.out (place whole rest) (place whole (after_first rest)) (open_quote stack) (bounds c.unclosed.result) quote)

pub span_of-requires-in-Ok-Bad-clause-next : goal.span_of-requires-in-Ok-Bad-clause-next
span_of-requires-in-Ok-Bad-clause-next c = omega (arith, c.moves.invariant.within, after_first-within c.moves.rest.now c.after_first-in-Ok-Bad.result.now c.moves.invariant.text c.after_first-in-Ok-Bad.utf8 c.after_first-in-Ok-Bad.ensures)

pub returns-in-Ok-Bad-clause-bad : goal.returns-in-Ok-Bad-clause-bad
returns-in-Ok-Bad-clause-bad c =
    let l = c.moves in
    let whole = chars c.args.text.now in
    let rest = chars l.rest.now in
    let stack = map bracket_of l.stack.items in
    let here = c.span_of-in-Ok-Bad.result in
    let e : bad ≡ next_move stack rest = ap move_of (sym c.in-Ok-Bad.field-0-is) ∙ c.in-Ok-Bad.ensures ∙ ap (λ s. next_move (map bracket_of s) rest) c.deref.ensures.value in
    let (n, done) = at_bad whole l.invariant.lexed.out stack l.fresh rest e l.invariant.lexed.so_far in
    let start : here.start ≡ place whole rest = c.span_of-in-Ok-Bad.ensures.start ∙ sym (place_is c.args.text.now l.rest.now c.utf8.text l.invariant.text) in
    let end : here.end ≡ place whole (after_first rest) = c.span_of-in-Ok-Bad.ensures.end ∙ sym (place_is c.args.text.now c.after_first-in-Ok-Bad.result.now c.utf8.text c.after_first-in-Ok-Bad.utf8) ∙ ap (place whole) c.after_first-in-Ok-Bad.ensures in
    (n, rw (start, end) done)
