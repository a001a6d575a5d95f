use Rattle.std.proofs.Common.{◌≡◌, true, false, ◌&&◌, ◌==◌, Result, Ok, Err, sym, ◌∙◌, rules}
use Rattle.std.proofs.lemmas.Bool.Decides.{nat_tests}
use Rattle.std.specs.Result.{IfOk}
use Rattle.std.specs.Str.{chars}
use Rattle.kt_tree.specs.Characters.{is_line_end}
use Rattle.kt_tree.specs.Strings.{begins_part}
use Rattle.kt_lex.specs.Scanning.{move_of}
use Rattle.kt_lex.proofs.StringFronts.{close_move-is, part_move-is, piece_move-is, bad_move-is}
use Rattle.kt_lex.proofs.strings.string_move.Goals as goal

-- what holds where a call succeeds
IfOk-map : {T E : Type 0} (r : Result T E) (P Q : T → Type 0) → ((x : T) → P x → Q x) → IfOk r P → IfOk r Q
IfOk-map (Ok x) P Q f h = f x h
IfOk-map (Err e) P Q f h = tt

pub returns-then-c-eq34 : goal.returns-then-c-eq34
returns-then-c-eq34 c =
    let d = c.in-Some.c in
    let line : is_line_end d ≡ false = search rules in
    let quote : (d == 34) ≡ true = search (rules, nat_tests) in
    close_move-is (chars c.args.s.now) d (chars c.in-Some.rest.now) c.in-Some.ensures.some line quote

pub returns-then-begins_part : goal.returns-then-begins_part
returns-then-begins_part c =
    let d = c.in-Some.c in
    let line : is_line_end d ≡ false = search rules in
    let begins : (d == 36 && begins_part (chars c.in-Some.rest.now)) ≡ true = search rules in
    c.part.ensures ∙ part_move-is (chars c.args.s.now) d (chars c.in-Some.rest.now) c.in-Some.ensures.some line begins

pub returns-in-Some-unit : goal.returns-in-Some-unit
returns-in-Some-unit c =
    let d = c.in-Some.c in
    let line : is_line_end d ≡ false = search rules in
    let quote : (d == 34) ≡ false = search (rules, nat_tests) in
    let other : (d == 36 && begins_part (chars c.in-Some.rest.now)) ≡ false = search rules in
    IfOk-map c.piece_move.result _ _ (λ m is. piece_move-is (chars c.args.s.now) d (chars c.in-Some.rest.now) _ (move_of m) c.in-Some.ensures.some line quote other (sym c.in-Some-unit.ensures.value) is) c.piece_move.ensures

pub returns-in-None : goal.returns-in-None
returns-in-None c =
    let d = c.in-Some.c in
    let line : is_line_end d ≡ false = search rules in
    let quote : (d == 34) ≡ false = search (rules, nat_tests) in
    let other : (d == 36 && begins_part (chars c.in-Some.rest.now)) ≡ false = search rules in
    bad_move-is (chars c.args.s.now) d (chars c.in-Some.rest.now) c.in-Some.ensures.some line quote other (sym c.in-None.ensures.value)
