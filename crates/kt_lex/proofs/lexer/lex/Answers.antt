use Rattle.std.proofs.Common.{◌≡◌, ℕ, List, ◌⊎◌, inl, inr, Result, Ok, Err, refl, ap₂, subst}
use Rattle.std.specs.Result.{IfOk, IfErr, MatchResult}
use Rattle.std.specs.Str.{chars}
use Rattle.kt_tree.specs.BuiltIn.{built_in}
use Rattle.kt_tree.specs.Numbering.{AreNumbered, HasTokens}
use Rattle.kt_tree.specs.Sources.{source_text}
use Rattle.kt_tree.specs.Tokens.{Lexed, AreTokens, IsBadPlace}
use Rattle.kt_tree.specs.declared.token.Span.{Span}
use Rattle.kt_tree.specs.declared.tokens.Tokens.{Tokens}
use Rattle.kt_lex.specs.Faults.{IsFault}
use Rattle.kt_lex.specs.declared.fault.LexFault.{LexFault}
use Rattle.kt_lex.specs.declared.fault.LexFault.TheVariants.{Bad, NoMemory}
use Rattle.kt_lex.proofs.TokenSteps.{one_list, one_place, not_both}
use Rattle.kt_lex.proofs.lexer.lex.Goals as goal

-- a text with tokens gets them
only_tokens : (text : List ℕ) (r : Result Tokens LexFault) (ts : List Lexed) → IfOk r (HasTokens text) → IfErr r (IsFault text) → AreTokens text ts
    → MatchResult r (AreNumbered built_in ts) (λ e. e ≡ NoMemory)
only_tokens text (Ok t) ts ok err h = subst (λ us. AreNumbered built_in us t) (one_list text ok.lexed ts ok.are h) ok.numbered
only_tokens text (Err (Bad span)) ts ok err h = absurd (not_both text ts span.start span.end h err)
only_tokens text (Err NoMemory) ts ok err h = refl

-- a text with a bad place gets that
only_bad : (text : List ℕ) (r : Result Tokens LexFault) (span : Span) → IfOk r (HasTokens text) → IfErr r (IsFault text) → IsBadPlace text span.start span.end
    → (r ≡ Err (Bad span)) ⊎ (r ≡ Err NoMemory)
only_bad text (Ok t) span ok err h = absurd (not_both text ok.lexed span.start span.end ok.are h)
only_bad text (Err (Bad found)) span ok err h =
    let (start, end) = one_place text found.start found.end span.start span.end err h in
    inl (ap₂ (λ a b. let s : Span = record { start = a; end = b } in Err (Bad s)) start end)
only_bad text (Err NoMemory) span ok err h = inr refl

pub returns-clause-only_tokens : goal.returns-clause-only_tokens
returns-clause-only_tokens c = λ ts h.
    only_tokens (chars (source_text c.args.source.now)) c.scan.result ts
    (subst (λ s. IfOk c.scan.result (HasTokens (chars s))) c.text.ensures.text c.scan.ensures.tokens)
    (subst (λ s. IfErr c.scan.result (IsFault (chars s))) c.text.ensures.text c.scan.ensures.bad) h

pub returns-clause-only_bad : goal.returns-clause-only_bad
returns-clause-only_bad c = λ span h.
    only_bad (chars (source_text c.args.source.now)) c.scan.result span
    (subst (λ s. IfOk c.scan.result (HasTokens (chars s))) c.text.ensures.text c.scan.ensures.tokens)
    (subst (λ s. IfErr c.scan.result (IsFault (chars s))) c.text.ensures.text c.scan.ensures.bad) h
