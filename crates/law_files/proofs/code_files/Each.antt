-- What is so of each item of a list is so of each item of its parts.
use Rattle.std.proofs.Common.{◌≡◌, ℕ, zero, suc, List, [], ◌∷◌, ◌++◌, map, Some, None, refl, subst}
use Rattle.std.specs.Prelude.{slice_get}
use Rattle.std.specs.List.{AllByRecursion}

pub split : {A : Type 0} (P : A → Type 0) (xs ys : List A) → AllByRecursion P (xs ++ ys) → AllByRecursion P xs × AllByRecursion P ys
split P [] ys h = (tt, h)
split P (x ∷ xs) ys h = let rest = split P xs ys h.1 in ((h.0, rest.0), rest.1)

pub split3 : {A : Type 0} (P : A → Type 0) (xs ys zs : List A) → AllByRecursion P (xs ++ ys ++ zs)
    → AllByRecursion P xs × (AllByRecursion P ys × AllByRecursion P zs)
split3 P xs ys zs h =
    let last = split P (xs ++ ys) zs h in
    let front = split P xs ys last.0 in
    (front.0, (front.1, last.1))

pub split4 : {A : Type 0} (P : A → Type 0) (ws xs ys zs : List A) → AllByRecursion P (ws ++ xs ++ ys ++ zs)
    → AllByRecursion P ws × (AllByRecursion P xs × (AllByRecursion P ys × AllByRecursion P zs))
split4 P ws xs ys zs h =
    let last = split P (ws ++ xs ++ ys) zs h in
    let front = split3 P ws xs ys last.0 in
    (front.0, (front.1.0, (front.1.1, last.1)))

pub split5 : {A : Type 0} (P : A → Type 0) (vs ws xs ys zs : List A) → AllByRecursion P (vs ++ ws ++ xs ++ ys ++ zs)
    → AllByRecursion P vs × (AllByRecursion P ws × (AllByRecursion P xs × (AllByRecursion P ys × AllByRecursion P zs)))
split5 P vs ws xs ys zs h =
    let last = split P (vs ++ ws ++ xs ++ ys) zs h in
    let front = split4 P vs ws xs ys last.0 in
    (front.0, (front.1.0, (front.1.1.0, (front.1.1.1, last.1))))

pub both : {A : Type 0} (P : A → Type 0) (xs ys : List A) → AllByRecursion P xs → AllByRecursion P ys → AllByRecursion P (xs ++ ys)
both P [] ys h k = k
both P (x ∷ xs) ys h k = (h.0, both P xs ys h.1 k)

pub both3 : {A : Type 0} (P : A → Type 0) (xs ys zs : List A) → AllByRecursion P xs → AllByRecursion P ys → AllByRecursion P zs
    → AllByRecursion P (xs ++ ys ++ zs)
both3 P xs ys zs h k l = both P (xs ++ ys) zs (both P xs ys h k) l

pub both4 : {A : Type 0} (P : A → Type 0) (ws xs ys zs : List A) → AllByRecursion P ws → AllByRecursion P xs → AllByRecursion P ys → AllByRecursion P zs
    → AllByRecursion P (ws ++ xs ++ ys ++ zs)
both4 P ws xs ys zs g h k l = both P (ws ++ xs ++ ys) zs (both3 P ws xs ys g h k) l

pub both5 : {A : Type 0} (P : A → Type 0) (vs ws xs ys zs : List A) → AllByRecursion P vs → AllByRecursion P ws → AllByRecursion P xs → AllByRecursion P ys
    → AllByRecursion P zs → AllByRecursion P (vs ++ ws ++ xs ++ ys ++ zs)
both5 P vs ws xs ys zs f g h k l = both P (vs ++ ws ++ xs ++ ys) zs (both4 P vs ws xs ys f g h k) l

pub weaken : {A : Type 0} (P Q : A → Type 0) → ((x : A) → P x → Q x) → (xs : List A) → AllByRecursion P xs → AllByRecursion Q xs
weaken P Q f [] h = tt
weaken P Q f (x ∷ xs) h = (f x h.0, weaken P Q f xs h.1)

pub mapped : {A B : Type 0} (P : B → Type 0) (f : A → B) (xs : List A) → AllByRecursion (λ x. P (f x)) xs → AllByRecursion P (map f xs)
mapped P f [] h = tt
mapped P f (x ∷ xs) h = (h.0, mapped P f xs h.1)

pub everywhere : {A : Type 0} (xs : List A) → AllByRecursion (λ x. Unit {0}) xs
everywhere [] = tt
everywhere (x ∷ xs) = (tt, everywhere xs)

-- by the places of items

pub each_at : {A : Type 0} (P : A → Type 0) (xs : List A) (i : ℕ) (x : A) → slice_get xs i ≡ Some x → AllByRecursion P xs → P x
each_at P [] i x at h = absurd (let none : None ≡ Some x = at in cc)
each_at P (y ∷ ys) zero x at h = let same : y ≡ x = (let there : Some y ≡ Some x = at in cc) in subst P same h.0
each_at P (y ∷ ys) (suc i) x at h = each_at P ys i x at h.1

pub at_each : {A : Type 0} (P : A → Type 0) (xs : List A) → ((i : ℕ) (x : A) → slice_get xs i ≡ Some x → P x) → AllByRecursion P xs
at_each P [] f = tt
at_each P (x ∷ xs) f = (f zero x refl, at_each P xs (λ i y at. f (suc i) y at))
