-- Texts that are too long or not.
use Rattle.std.proofs.Common.{◌≡◌, ◌∙◌, ℕ, ◌<◌, ◌≤◌, Bool, true, false, nat_le, ◌&&◌, List, [], ◌∷◌, ◌++◌, Result, Ok, Err, length, map, refl, sym, ap, subst, arith, if◌then◌else◌}
use Rattle.std.specs.Result.{IsErr, IsErrAnd}
use Rattle.std.specs.Str.{chars}
use Rattle.std.proofs.lemmas.List.{map-append}
use Rattle.std.proofs.lemmas.Bool.{le-leb, lt-leb}
use Rattle.pt_strs.specs.declared.error.StrErr.{StrErr}
use Rattle.pt_strs.specs.declared.error.StrErr.TheVariants.{Length, Format, Empty, Memory}
use Rattle.pt_strs.specs.Answer.{length_limit, within, are_within, all_within, counted, Answers, AnswersAll}

fits : (n : ℕ) → n ≤ length_limit → nat_le n length_limit ≡ true
fits n h = le-leb n length_limit h

over : (n : ℕ) → length_limit < n → nat_le n length_limit ≡ false
over n h = lt-leb n length_limit h

pub within-short : (cs : List ℕ) → length cs ≤ length_limit → within cs ≡ Ok cs
within-short cs h = rw (fits (length cs) h) refl

pub within-long : (cs : List ℕ) → length_limit < length cs → within cs ≡ Err Length
within-long cs h = rw (over (length cs) h) refl

pub within-fits : (cs : List ℕ) → counted (length cs) ≤ length_limit → within cs ≡ Ok cs
within-fits cs h = within-short cs (omega arith)

pub within-over : (cs : List ℕ) → length_limit < counted (length cs) → within cs ≡ Err Length
within-over cs h = within-long cs (omega arith)

pub ruleset bounds = (within-fits, within-over)

is-within : (b : Bool) (cs : List ℕ) (e : StrErr) → (if b then Ok cs else Err Length) ≡ Err e → (b ≡ false) × (e ≡ Length)
is-within true cs e h = absurd cc
is-within false cs e h = (refl, cc)

-- a text that is too long is one of a list
over-among : (xs : List (List ℕ)) (x : List ℕ) (ys : List (List ℕ)) → nat_le (length x) length_limit ≡ false → are_within (xs ++ x ∷ ys) ≡ false
over-among [] x ys h = rw h refl
over-among (z ∷ xs) x ys h = rw (over-among xs x ys h) (by (nat_le (length z) length_limit))
  where
    by : (b : Bool) → b && false ≡ false
    by true = refl
    by false = refl

-- a list with a text that can't be had can't be had either
pub refused : (e : StrErr) (xs : List (List ℕ)) (x : List ℕ) (ys all : List (List ℕ)) → xs ++ x ∷ ys ≡ all → Answers (Err e) (within x) → AnswersAll (Err e) (all_within all)
refused Memory xs x ys all s h = tt
refused Length xs x ys all s h = subst (λ l. all_within l ≡ Err Length) s (rw (over-among xs x ys (is-within (nat_le (length x) length_limit) x Length h).0) refl)
refused Format xs x ys all s h = absurd (let no : Format ≡ Length = (is-within (nat_le (length x) length_limit) x Format h).1 in cc)
refused Empty xs x ys all s h = absurd (let no : Empty ≡ Length = (is-within (nat_le (length x) length_limit) x Empty h).1 in cc)

-- the same of an answer that hands a refusal on
pub refused-so : (r : Result (List (List ℕ)) StrErr) (e : StrErr) → IsErr r × IsErrAnd r (λ f. f ≡ e) → (xs : List (List ℕ)) (x : List ℕ) (ys all : List (List ℕ)) → xs ++ x ∷ ys ≡ all → Answers (Err e) (within x) → AnswersAll r (all_within all)
refused-so (Ok t) e k xs x ys all s h = absurd k.1
refused-so (Err f) e k xs x ys all s h = refused f xs x ys all s (subst (λ g. Answers (Err g) (within x)) (sym k.1) h)

has-within : (b : Bool) (cs t : List ℕ) → (if b then Ok cs else Err Length) ≡ Ok t → (b ≡ true) × (cs ≡ t)
has-within true cs t h = (refl, cc)
has-within false cs t h = absurd cc

pub record Taken (texts : List (List ℕ)) (x : List ℕ) (new : List (List ℕ)) : Type 0 where
  pub same : map chars new ≡ map chars texts ++ x ∷ []
  pub fits : are_within (map chars texts) ≡ true → are_within (map chars new) ≡ true

are_within-more : (xs : List (List ℕ)) (x : List ℕ) → are_within xs ≡ true → nat_le (length x) length_limit ≡ true → are_within (xs ++ x ∷ []) ≡ true
are_within-more [] x h k = rw k refl
are_within-more (z ∷ xs) x h k = by (nat_le (length z) length_limit) h (are_within-more xs x)
  where
    by : (b : Bool) → b && are_within xs ≡ true → (are_within xs ≡ true → nat_le (length x) length_limit ≡ true → are_within (xs ++ x ∷ []) ≡ true) → b && are_within (xs ++ x ∷ []) ≡ true
    by true h ih = ih h k
    by false h ih = absurd cc

-- a text that can be had is one more of a list
pub taken : (texts : List (List ℕ)) (x t : List ℕ) (new : List (List ℕ)) → Answers (Ok t) (within x) → new ≡ texts ++ t ∷ [] → Taken texts x new
taken texts x t new h e =
    let one = has-within (nat_le (length x) length_limit) x (chars t) h in
    let same : map chars new ≡ map chars texts ++ x ∷ [] = ap (map chars) e ∙ map-append chars texts (t ∷ []) ∙ ap (λ l. map chars texts ++ l ∷ []) (sym one.1) in
    record { same = same; fits = λ f. subst (λ l. are_within l ≡ true) (sym same) (are_within-more (map chars texts) x f one.0) }

pub all-fit : (texts all : List (List ℕ)) → map chars texts ≡ all → are_within (map chars texts) ≡ true → all_within all ≡ Ok (map chars texts)
all-fit texts all e f = subst (λ l. all_within l ≡ Ok (map chars texts)) e (rw f refl)
