-- Tests of kinds, and lists that are cut.
use Rattle.std.proofs.Common.{◌≡◌, ℕ, ◌+◌, ◌-◌, ◌≤◌, zero, suc, Bool, true, false, ◌&&◌, ◌||◌, List, [], ◌∷◌, ◌++◌, length, reverse, take, drop, replicate, refl, sym, ap, ◌∙◌, arith, length-drop}
use Rattle.std.proofs.lemmas.List.{reverse-append, replicate-append-replicate, take-append-drop, length-take-le, length-reverse}
use Rattle.std.proofs.Math.Seq.{drop-append_seam}
use Rattle.std.proofs.lemmas.Bool.{true≢false, false≢true}
use Rattle.pt_instr.specs.declared.effects.Effect.{Effect}
use Rattle.pt_instr.specs.declared.kinds.Kind.{Kind}
use Rattle.pt_instr.specs.declared.kinds.Kind.TheVariants as kind
use Rattle.pt_instr.specs.Effects.{Kinds}
use Rattle.sem_fits.specs.fits.Steps.{is_kind, are_kinds, is_prefix, spared, below, taken, swaps_iterator, has_value, finds}

pub both : (x y : Bool) → (x && y) ≡ true → (x ≡ true) × (y ≡ true)
both true y e = (refl, e)
both false y e = absurd (false≢true e)

pub either : (x y : Bool) → (x || y) ≡ true → y ≡ false → x ≡ true
either true y e n = refl
either false y e n = absurd (true≢false (sym e ∙ n))

pub same_kind : (k l : Kind) → is_kind k l ≡ true → k ≡ l
same_kind kind.Value kind.Value e = refl
same_kind kind.Cell kind.Cell e = refl
same_kind kind.Iter kind.Iter e = refl
same_kind kind.Exc kind.Exc e = refl
same_kind kind.Pending kind.Pending e = refl
same_kind kind.With kind.With e = refl
same_kind k l e = absurd (false≢true e)

pub same_kinds : (ks ls : Kinds) → are_kinds ks ls ≡ true → ks ≡ ls
same_kinds [] [] e = refl
same_kinds [] (l ∷ ls) e = absurd (false≢true e)
same_kinds (k ∷ ks) [] e = absurd (false≢true e)
same_kinds (k ∷ ks) (l ∷ ls) e = let (f, g) = both (is_kind k l) (are_kinds ks ls) e in ap (λ k. k ∷ ks) (same_kind k l f) ∙ ap (λ ks. l ∷ ks) (same_kinds ks ls g)

pub prefix_taken : (ls ks : Kinds) → is_prefix ls ks ≡ true → take (length ls) ks ≡ ls
prefix_taken [] ks e = refl
prefix_taken (l ∷ ls) [] e = absurd (false≢true e)
prefix_taken (l ∷ ls) (k ∷ ks) e = let (f, g) = both (is_kind l k) (is_prefix ls ks) e in ap (λ ms. k ∷ ms) (prefix_taken ls ks g) ∙ ap (λ k. k ∷ ls) (sym (same_kind l k f))

pub reverse_replicate : {A : Type 0} (n : ℕ) (a : A) → reverse (replicate n a) ≡ replicate n a
reverse_replicate zero a = refl
reverse_replicate (suc n) a =
    reverse-append (a ∷ []) (replicate n a) ∙ (ap (λ xs. xs ++ a ∷ []) (reverse_replicate n a) ∙ (replicate-append-replicate n 1 a ∙ ap (λ m. replicate m a) one_more))
  where
    one_more : n + 1 ≡ suc n
    one_more = omega arith

-- what is taken lies on top
pub split : (e : Effect) (ks : Kinds) → are_kinds (taken e ks) e.takes ≡ true → reverse ks ≡ reverse e.takes ++ reverse (below e ks)
split e ks f = ap reverse (sym (take-append-drop (spared e ks) ks)) ∙ (reverse-append (below e ks) (taken e ks) ∙ ap (λ ts. reverse ts ++ reverse (below e ks)) (same_kinds (taken e ks) e.takes f))

pub no_swap : (e : Effect) (ks : Kinds) → e.swaps ≡ false → swaps_iterator e ks ≡ false
no_swap e ks f = ap (λ s. s && are_kinds (taken e ks) (kind.Iter ∷ kind.Value ∷ [])) f

pub found_takes : (e : Effect) (ks : Kinds) → finds e ks ≡ true → e.swaps ≡ false → are_kinds (taken e ks) e.takes ≡ true
found_takes e ks f n =
    either (are_kinds (taken e ks) e.takes) (swaps_iterator e ks)
    (both (are_kinds (taken e ks) e.takes || swaps_iterator e ks) (has_value e.above (below e ks)) f).0 (no_swap e ks n)

pub length_below : (e : Effect) (ks : Kinds) → length (below e ks) ≡ spared e ks
length_below e ks = length-take-le (spared e ks) ks (let h : spared e ks ≤ length ks = omega arith in h)

-- the lowest of slots that stand with the top first
pub lowest : {A : Type 0} (d : ℕ) (xs : List A) → drop (length xs - d) (reverse xs) ≡ reverse (take d xs)
lowest d xs = ap (λ n. drop n (reverse xs)) (sym counted) ∙ (ap (λ ys. drop (length (reverse (drop d xs))) ys) parted ∙ drop-append_seam (reverse (drop d xs)) (reverse (take d xs)))
  where
    counted : length (reverse (drop d xs)) ≡ length xs - d
    counted = length-reverse (drop d xs) ∙ length-drop d xs

    parted : reverse xs ≡ reverse (drop d xs) ++ reverse (take d xs)
    parted = ap reverse (sym (take-append-drop d xs)) ∙ reverse-append (take d xs) (drop d xs)

pub take_take : {A : Type 0} (d n : ℕ) (xs : List A) → d ≤ n → take d (take n xs) ≡ take d xs
take_take zero n xs l = refl
take_take (suc d) zero xs l = absurd (let h : ⊥ = omega (arith, l) in h)
take_take (suc d) (suc n) [] l = refl
take_take (suc d) (suc n) (x ∷ xs) l = ap (λ ys. x ∷ ys) (take_take d n xs (let h : d ≤ n = omega (arith, l) in h))
