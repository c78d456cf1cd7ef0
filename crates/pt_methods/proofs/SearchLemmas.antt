-- Equal values that have been counted, and those that are left.
use Rattle.std.proofs.Common.{◌≡◌, ◌+◌, ℕ, Result, Ok, Err, refl, ap, arith}
use Rattle.std.specs.Prelude.{true}
use Rattle.pt_content.specs.declared.content.Content.{Content}
use Rattle.pt_methods.specs.Searches.{one_more}

-- so many, and those of the rest
abbrev pub with_others : ℕ → Result ℕ Content → Result ℕ Content
with_others n (Ok m) = Ok (n + m)
with_others n (Err e) = Err e

pub with_none : (r : Result ℕ Content) → with_others 0 r ≡ r
with_none (Ok m) = let e : 0 + m ≡ m = omega arith in ap (λ k. Ok k) e
with_none (Err e) = refl

pub with_one_more : (n : ℕ) (r : Result ℕ Content) → with_others n (one_more (Ok true) r) ≡ with_others (n + 1) r
with_one_more n (Ok m) = let e : n + (m + 1) ≡ n + 1 + m = omega arith in ap (λ k. Ok k) e
with_one_more n (Err e) = refl

pub with_end : (n : ℕ) → with_others n (Ok 0) ≡ Ok n
with_end n = let e : n + 0 ≡ n = omega arith in ap (λ k. Ok k) e
