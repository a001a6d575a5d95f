-- What calls one behind another have put at the end of a list.
use Rattle.std.proofs.Common.{◌≡◌, List, [], ◌++◌, ap, sym, ◌∙◌, append_assoc, append-nil}
use Rattle.std.specs.Prelude.{Result, Ok, Err, OnOk}

-- nothing
pub put_none : {B : Type 0} {old ys : List B} → ys ≡ [] → old ≡ old ++ ys
put_none {old = old} e = sym (ap (λ z. old ++ z) e ∙ append-nil old)

-- the same under another name
pub put_in : {A E B : Type 0} (r : Result A E) (new old : List B) {xs ys : List B} → ys ≡ xs → OnOk r (new ≡ old ++ xs) → OnOk r (new ≡ old ++ ys)
put_in (Ok a) new old e h = h ∙ ap (λ z. old ++ z) (sym e)
put_in (Err x) new old e h = tt

-- two parts
pub put_both : {A E B : Type 0} (r : Result A E) (new old mid : List B) (xs ys : List B) {zs : List B} → zs ≡ xs ++ ys → mid ≡ old ++ xs → OnOk r (new ≡ mid ++ ys) → OnOk r (new ≡ old ++ zs)
put_both (Ok a) new old mid xs ys e m h =
    h ∙ ap (λ z. z ++ ys) m ∙ append_assoc old xs ys ∙ ap (λ z. old ++ z) (sym e)
put_both (Err x) new old mid xs ys e m h = tt

-- three parts
pub put_three : {A E B : Type 0} (r : Result A E) (new old mid late : List B) (xs ys zs : List B) {all : List B} → all ≡ xs ++ ys ++ zs → mid ≡ old ++ xs → late ≡ mid ++ ys → OnOk r (new ≡ late ++ zs) → OnOk r (new ≡ old ++ all)
put_three (Ok a) new old mid late xs ys zs e m l h =
    h ∙ ap (λ z. z ++ zs) (l ∙ ap (λ z. z ++ ys) m ∙ append_assoc old xs ys) ∙ append_assoc old (xs ++ ys) zs ∙ ap (λ z. old ++ z) (sym e)
put_three (Err x) new old mid late xs ys zs e m l h = tt
