-- Lists that are cut, and the kinds of slots.
use Rattle.std.proofs.Common.{◌≡◌, ℕ, ◌+◌, ◌-◌, ◌≤◌, zero, suc, List, [], ◌∷◌, ◌++◌, map, length, reverse, take, drop, refl, sym, ap, ◌∙◌, arith, length-append, append_assoc}
use Rattle.std.proofs.lemmas.List.{map-append, reverse-append, reverse-reverse, length-map, length-reverse}
use Rattle.pt_instr.specs.declared.kinds.Kind.{Kind}
use Rattle.sem_fits.proofs.fits.KindLemmas.{lowest as lowest_reversed}
use Rattle.law_pieces.specs.piece_kinds.Walk.{Known, StackMap, kinds_of, lowest}
use Rattle.law_pieces.specs.piece_kinds.Typed.{Over}

module _ {A : Type 0} where
  pub take_over : (k n : ℕ) (xs ys : List A) → k ≡ length xs + n → take k (xs ++ ys) ≡ xs ++ take n ys
  take_over k n [] ys e = ap (λ m. take m ys) (let h : k ≡ n = omega (arith, e) in h)
  take_over zero n (x ∷ xs) ys e = absurd (let h : ⊥ = omega (arith, e) in h)
  take_over (suc k) n (x ∷ xs) ys e = ap (λ zs. x ∷ zs) (take_over k n xs ys (omega (arith, e)))

  pub drop_over : (k n : ℕ) (xs ys : List A) → k ≡ length xs + n → drop k (xs ++ ys) ≡ drop n ys
  drop_over k n [] ys e = ap (λ m. drop m ys) (let h : k ≡ n = omega (arith, e) in h)
  drop_over zero n (x ∷ xs) ys e = absurd (let h : ⊥ = omega (arith, e) in h)
  drop_over (suc k) n (x ∷ xs) ys e = drop_over k n xs ys (omega (arith, e))

  -- the front of a list, with others behind
  pub take_front : (n : ℕ) (xs ys : List A) → n ≤ length xs → take n (take n xs ++ ys) ≡ take n xs
  take_front zero xs ys l = refl
  take_front (suc n) [] ys l = absurd (let h : ⊥ = omega (arith, l) in h)
  take_front (suc n) (x ∷ xs) ys l = ap (λ zs. x ∷ zs) (take_front n xs ys (omega (arith, l)))

  pub drop_front : (n : ℕ) (xs ys : List A) → n ≤ length xs → drop n (take n xs ++ ys) ≡ ys
  drop_front zero xs ys l = refl
  drop_front (suc n) [] ys l = absurd (let h : ⊥ = omega (arith, l) in h)
  drop_front (suc n) (x ∷ xs) ys l = drop_front n xs ys (omega (arith, l))

  pub reverse_cons : (x : A) (xs : List A) → reverse (x ∷ xs) ≡ reverse xs ++ x ∷ []
  reverse_cons x xs = reverse-append (x ∷ []) xs

  -- the lowest of a list that stands with the top first
  pub lowest_is : (d : ℕ) (xs : List A) → lowest d xs ≡ reverse (take d (reverse xs))
  lowest_is d xs =
      ap (λ n. drop (n - d) xs) (sym (length-reverse xs)) ∙ (ap (drop (length (reverse xs) - d)) (sym (reverse-reverse xs)) ∙ lowest_reversed d (reverse xs))

  pub lowest_over : (d : ℕ) (ys xs : List A) → d ≤ length xs → lowest d (ys ++ xs) ≡ lowest d xs
  lowest_over d ys xs l =
      drop_over (length (ys ++ xs) - d) (length xs - d) ys xs (let n = length-append ys xs in omega (arith, n, l))

  pub lowest_all : (d : ℕ) (xs : List A) → d ≡ length xs → lowest d xs ≡ xs
  lowest_all d xs e = ap (λ n. drop n xs) (let h : length xs - d ≡ 0 = omega (arith, e) in h)

module _ {A B : Type 0} (f : A → B) where
  pub map_take : (n : ℕ) (xs : List A) → map f (take n xs) ≡ take n (map f xs)
  map_take zero xs = refl
  map_take (suc n) [] = refl
  map_take (suc n) (x ∷ xs) = ap (λ ys. f x ∷ ys) (map_take n xs)

  pub map_reverse : (xs : List A) → map f (reverse xs) ≡ reverse (map f xs)
  map_reverse [] = refl
  map_reverse (x ∷ xs) =
      ap (map f) (reverse_cons x xs) ∙ (map-append f (reverse xs) (x ∷ []) ∙ (ap (λ ys. ys ++ f x ∷ []) (map_reverse xs) ∙ sym (reverse_cons (f x) (map f xs))))

abbrev pub kind : Known → Kind
kind k = k.kind

pub kinds_append : (ts rs : StackMap) → kinds_of (ts ++ rs) ≡ kinds_of rs ++ kinds_of ts
kinds_append ts rs = ap reverse (map-append kind ts rs) ∙ reverse-append (map kind ts) (map kind rs)

pub length_kinds : (ks : StackMap) → length (kinds_of ks) ≡ length ks
length_kinds ks = length-reverse (map kind ks) ∙ length-map ks kind

-- the kinds of slots that stand with the lowest first
pub kinds_reversed : (ks : StackMap) → kinds_of (reverse ks) ≡ map kind ks
kinds_reversed ks = ap reverse (map_reverse kind ks) ∙ reverse-reverse (map kind ks)

pub over_itself : (ks : StackMap) → Over ks ks
over_itself ks = ([], refl)

pub over_more : {base ks : StackMap} (k : Known) → Over base ks → Over base (k ∷ ks)
over_more k (more, e) = (k ∷ more, ap (λ xs. k ∷ xs) e)

pub over_all : {base ks : StackMap} (ts : StackMap) → Over base ks → Over base (ts ++ ks)
over_all [] o = o
over_all (t ∷ ts) o = over_more t (over_all ts o)

pub over_over : {base mid ks : StackMap} → Over base mid → Over mid ks → Over base ks
over_over {base = base} {ks = ks} (xs, e) (ys, f) = (ys ++ xs, f ∙ (ap (λ zs. ys ++ zs) e ∙ sym (append_assoc ys xs base)))

pub over_length : {base ks : StackMap} → Over base ks → length base ≤ length ks
over_length {base = base} {ks = ks} (xs, e) = let n = length-append xs base in let m : length ks ≡ length (xs ++ base) = ap length e in omega (arith, n, m)

pub lowest_of_over : {base ks : StackMap} (d : ℕ) → Over base ks → d ≤ length base → lowest d ks ≡ lowest d base
lowest_of_over {base = base} d (xs, e) l = ap (lowest d) e ∙ lowest_over d xs base l
