-- The fetch of a source, piece by piece.
use Rattle.std.proofs.Common.{◌≡◌, ℕ, ◌+◌, ◌<◌, ◌≤◌, List, ◌++◌, length, take, drop, Option, Some, None, IfSome, sym, ap, subst, ◌∙◌, arith, length-append}
use Rattle.std.proofs.Math.Seq.{take-add}
use Rattle.std.proofs.lemmas.List.{length-take-le, take_all}
use Rattle.kt_outside.specs.Outside.{LibraryState, KeepsLibrary, FetchGives, FetchFails, Rose}
use Rattle.ktflow.specs.Program.{most_fetched, counted}
use Rattle.ktflow.specs.Fetching.{FetchesAll, FailsToFetch}

-- what a library keeps over two calls
pub keeps_then : (old now next : LibraryState) → KeepsLibrary old now → KeepsLibrary now next → KeepsLibrary old next
keeps_then old now next a b = record {
  told = λ name. b.told name ∙ a.told name;
  vouches = λ name. b.vouches name ∙ a.vouches name;
  faults = let l = a.faults in let m = b.faults in omega (arith, l, m);
}

-- So far these bytes came.
pub record FetchesSoFar (old new : LibraryState) (name source : List ℕ) : Type 0 where
  pub bytes : IfSome (old.told name) (λ told. source ≡ take (length source) told)
  pub within : length source ≤ most_fetched
  pub keeps : KeepsLibrary old new
  pub faults : new.faults ≡ old.faults

-- a piece more
more_bytes : (o : Option (List ℕ)) (source buf : List ℕ) (n : ℕ) → n ≤ length buf → IfSome o (λ t. source ≡ take (length source) t) → IfSome o (λ t. take n buf ≡ take n (drop (length source) t)) → IfSome o (λ t. source ++ take n buf ≡ take (length (source ++ take n buf)) t)
more_bytes None source buf n fits p q = tt
more_bytes (Some t) source buf n fits p q =
    let l : length (source ++ take n buf) ≡ length source + n = length-append source (take n buf) ∙ ap (λ (k : ℕ). length source + k) (length-take-le n buf fits) in
    ap (λ (s : List ℕ). s ++ take n buf) p ∙ ap (λ (s : List ℕ). take (length source) t ++ s) q ∙ sym (take-add (length source) n t) ∙ ap (λ (k : ℕ). take k t) (sym l)

-- all bytes, where the name has no more
all_at_end : (o : Option (List ℕ)) (source : List ℕ) → length source ≤ most_fetched → IfSome o (λ t. source ≡ take (length source) t) → IfSome o (λ t. length t ≤ length source) → IfSome o (λ t. source ≡ counted t)
all_at_end None source within p q = tt
all_at_end (Some t) source within p q = p ∙ take_all (length source) t q ∙ sym (take_all (most_fetched) t (omega (arith, within, q)))

-- all that count, where no more do
all_at_limit : (o : Option (List ℕ)) (source : List ℕ) → length source ≡ most_fetched → IfSome o (λ t. source ≡ take (length source) t) → IfSome o (λ t. source ≡ counted t)
all_at_limit None source is p = tt
all_at_limit (Some t) source is p = p ∙ ap (λ (k : ℕ). take k t) is

-- a fetch gave a piece
pub so_far_more : (old now next : LibraryState) (name source buf : List ℕ) (n : ℕ) → FetchesSoFar old now name source → FetchGives now next name (length source) buf n → KeepsLibrary now next → length source + n ≤ most_fetched → FetchesSoFar old next name (source ++ take n buf)
so_far_more old now next name source buf n s gives keeps fits = record {
  bytes = more_bytes (old.told name) source buf n gives.within s.bytes (subst (λ (o : Option (List ℕ)). IfSome o (λ t. take n buf ≡ take n (drop (length source) t))) (s.keeps.told name) gives.bytes);
  within = let a = length-append source (take n buf) in let b = length-take-le n buf gives.within in omega (arith, a, b, fits);
  keeps = keeps_then old now next s.keeps keeps;
  faults = gives.faults ∙ s.faults;
}

-- a fetch gave nothing
pub ends_at_end : (old now next : LibraryState) (name source buf : List ℕ) (n : ℕ) → FetchesSoFar old now name source → FetchGives now next name (length source) buf n → n ≡ 0 → 0 < length buf → FetchesAll old next name source
ends_at_end old now next name source buf n s gives none room = record {
  bytes = all_at_end (old.told name) source s.within s.bytes (subst (λ (o : Option (List ℕ)). IfSome o (λ t. length t ≤ length source)) (s.keeps.told name) (gives.at_end none room));
  within = s.within;
  faults = gives.faults ∙ s.faults;
}

-- the limit is reached
pub ends_at_limit : (old now : LibraryState) (name source : List ℕ) → FetchesSoFar old now name source → most_fetched ≤ length source → FetchesAll old now name source
ends_at_limit old now name source s past = record {
  bytes = all_at_limit (old.told name) source (let w = s.within in omega (arith, past, w)) s.bytes;
  within = s.within;
  faults = s.faults;
}

-- a fetch failed
pub fails_at : (old now next : LibraryState) (name source buf : List ℕ) → FetchesSoFar old now name source → FetchFails now next name buf → FailsToFetch old next name
fails_at old now next name source buf s fails = record {
  rose = subst (λ (n : ℕ). Rose n next.faults) s.faults fails.rose;
  not_vouched = sym (s.keeps.vouches name) ∙ fails.not_vouched;
}
