use Rattle.std.proofs.Common.{◌++◌, ◌∷◌, [], sym, ap, ◌∙◌, rules, append_assoc}
use Rattle.std.specs.Char.{encode_utf8}
use Rattle.std.specs.Str.{chars}
use Rattle.kt_tree.specs.Characters.{continues_name}
use Rattle.kt_tree.specs.Text.{run, after_run}
use Rattle.kt_lex.proofs.Runs.{run-append, list_all-push, chars-front, strip_if-some}
use Rattle.kt_lex.proofs.words.split_run.Goals as goal

pub characters-preserved : goal.characters-preserved
characters-preserved c =
    let (front, cut) = c.characters.invariant.cut in
    let (d, more) = c.in-Some.ensures.cut in
    let (cs, parts, all) = c.characters.invariant.run in
    let (e, next, pass) = strip_if-some continues_name (chars c.characters.rest.now) (chars c.in-Some.after.now) (sym c.in-Some.ensures.parts) in
    record {
      text = search rules;
      cut = (front ++ encode_utf8 d, cut ∙ ap (λ t. front ++ t) more ∙ sym (append_assoc front (encode_utf8 d) c.in-Some.after.now));
      run = (cs ++ e ∷ [], parts ∙ ap (λ t. cs ++ t) next ∙ sym (append_assoc cs (e ∷ []) (chars c.in-Some.after.now)), list_all-push continues_name cs e all pass);
    }

pub returns-clause-run : goal.returns-clause-run
returns-clause-run c =
    let s = c.args.s.now in
    let rest = c.characters.rest.now in
    let (cs, parts, all) = c.characters.invariant.run in
    let same = chars-front s c.front_before.result.now rest cs c.utf8.s c.characters.invariant.text c.front_before.ensures parts in
    let split = run-append continues_name cs (chars rest) all (search rules) in
    same ∙ sym split.0 ∙ ap (run continues_name) (sym parts)

pub returns-clause-rest : goal.returns-clause-rest
returns-clause-rest c =
    let rest = c.characters.rest.now in
    let (cs, parts, all) = c.characters.invariant.run in
    let split = run-append continues_name cs (chars rest) all (search rules) in
    sym split.1 ∙ ap (after_run continues_name) (sym parts)
