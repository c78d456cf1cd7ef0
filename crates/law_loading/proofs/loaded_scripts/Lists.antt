-- What stands at a number of a list.
use Rattle.std.proofs.Common.{◌≡◌, ℕ, zero, suc, List, [], ◌∷◌, length, map, Some, None, refl, ap, subst, arith}
use Rattle.std.specs.Prelude.{slice_get, slice_index_or}
use Rattle.pt_code.specs.declared.CodeBlock.{CodeBlock}
use Rattle.pt_code.specs.declared.Code.{Code}
use Rattle.sem_code.specs.slots.BlockObject.{free_in}
use Rattle.pt_code_loader.specs.pt_code_tables.pt_machine_state.declared.blocks.BlockCode.{BlockCode}
use Rattle.pt_code_loader.specs.Loaded.{IsLoaded, AreLoaded, captures_of}

pub same_some : {A : Type 0} (a b : A) → Some a ≡ Some b → a ≡ b
same_some a b e = ap (λ o. elim o [ None ↦ a | Some x ↦ x ]) e

pub index_map : {A B : Type 0} (f : A → B) (xs : List A) (n : ℕ) (d : A) → slice_index_or (map f xs) n (f d) ≡ f (slice_index_or xs n d)
index_map f [] n d = refl
index_map f (x ∷ xs) zero d = refl
index_map f (x ∷ xs) (suc n) d = index_map f xs n d

-- with any default where something stands, and the default past the end
pub index_is : {A : Type 0} (xs : List A) (n : ℕ) (d x : A) → slice_get xs n ≡ Some x → slice_index_or xs n d ≡ x
index_is [] n d x e = absurd (let no : None ≡ Some x = e in cc)
index_is (y ∷ xs) zero d x e = same_some y x e
index_is (y ∷ xs) (suc n) d x e = index_is xs n d x e

pub index_none : {A B : Type 0} (xs : List A) (ys : List B) (n : ℕ) (d : A) → length xs ≡ length ys → slice_get ys n ≡ None → slice_index_or xs n d ≡ d
index_none [] ys n d l e = refl
index_none (x ∷ xs) [] n d l e = absurd (omega (arith, l))
index_none (x ∷ xs) (y ∷ ys) zero d l e = absurd (let no : Some y ≡ None = e in cc)
index_none (x ∷ xs) (y ∷ ys) (suc n) d l e = index_none xs ys n d (omega (arith, l)) e

-- lists that are as long have something at the same places

pub none_there : {A B : Type 0} (xs : List A) (ys : List B) (n : ℕ) → length xs ≡ length ys → slice_get ys n ≡ None → slice_get xs n ≡ None
none_there [] ys n l e = refl
none_there (x ∷ xs) [] n l e = absurd (omega (arith, l))
none_there (x ∷ xs) (y ∷ ys) zero l e = absurd (let no : Some y ≡ None = e in cc)
none_there (x ∷ xs) (y ∷ ys) (suc n) l e = none_there xs ys n (omega (arith, l)) e

pub there : {A B : Type 0} (xs : List A) (ys : List B) (i : ℕ) (x : A) → length ys ≡ length xs → slice_get xs i ≡ Some x → (y : B) × (slice_get ys i ≡ Some y)
there [] ys i x e at = absurd (let none : None ≡ Some x = at in cc)
there (x ∷ xs) [] i z e at = absurd (omega (arith, e))
there (x ∷ xs) (y ∷ ys) zero z e at = (y, refl)
there (x ∷ xs) (y ∷ ys) (suc i) z e at = there xs ys i z (omega (arith, e)) at

pub mapped_at : {A B : Type 0} (f : A → B) (xs : List A) (i : ℕ) (x : A) → slice_get xs i ≡ Some x → slice_get (map f xs) i ≡ Some (f x)
mapped_at f [] i x at = absurd (let none : None ≡ Some x = at in cc)
mapped_at f (y ∷ ys) zero x at = ap (λ z. Some (f z)) (same_some y x at)
mapped_at f (y ∷ ys) (suc i) x at = mapped_at f ys i x at

pub captured : (bs : List CodeBlock) (n : ℕ) → free_in (slice_get bs n) ≡ slice_index_or (captures_of bs) n 0
captured [] n = refl
captured (b ∷ bs) zero = refl
captured (b ∷ bs) (suc n) = captured bs n

pub loaded_at : (c : Code) (bs : List CodeBlock) (ks : List BlockCode) (n : ℕ) (b : CodeBlock) (d : BlockCode) → AreLoaded c bs ks → slice_get bs n ≡ Some b
    → IsLoaded c b (slice_index_or ks n d)
loaded_at c [] ks n b d h e = absurd (let none : None ≡ Some b = e in cc)
loaded_at c (x ∷ bs) [] n b d h e = absurd h
loaded_at c (x ∷ bs) (k ∷ ks) zero b d h e = subst (λ y. IsLoaded c y k) (same_some x b e) h.0
loaded_at c (x ∷ bs) (k ∷ ks) (suc n) b d h e = loaded_at c bs ks n b d h.1 e

pub loaded_length : (c : Code) (bs : List CodeBlock) (ks : List BlockCode) → AreLoaded c bs ks → length ks ≡ length bs
loaded_length c [] [] h = refl
loaded_length c [] (k ∷ ks) h = absurd h
loaded_length c (b ∷ bs) [] h = absurd h
loaded_length c (b ∷ bs) (k ∷ ks) h = ap suc (loaded_length c bs ks h.1)
