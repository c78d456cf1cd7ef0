-- Numbers one after the other, in the parts of a tree that is made of others where these are there.
use Rattle.std.proofs.Common.{◌≡◌, ◌∙◌, ap, refl, ℕ, zero, suc, ◌+◌, Bool, true, false, List, [], ◌∷◌, ◌++◌, Option, Some, None, arith}
use Rattle.std.specs.Prelude.{option_map, if◌then◌else◌}
use Rattle.pt_refine_expr.specs.Ways.{both, three, four}

-- so many numbers from one on
abbrev pub from : (first count : ℕ) → List ℕ
from n zero = []
from n (suc k) = n ∷ from (suc n) k

pub same : {n m j k : ℕ} → n ≡ m → j ≡ k → from n j ≡ from m k
same a b = λ i. from (a i) (b i)

from-append : (n j k : ℕ) → from n j ++ from (n + j) k ≡ from n (j + k)
from-append n zero k = same {n = n + 0} {m = n} {j = k} {k = 0 + k} (omega arith) (omega arith)
from-append n (suc j) k =
    ap (λ m. n ∷ (from (suc n) j ++ from m k)) (omega arith) ∙ ap (λ xs. n ∷ xs) (from-append (suc n) j k)
    ∙ same {n = n} {m = n} {j = suc (j + k)} {k = suc j + k} refl (omega arith)

pub joined : {xs ys : List ℕ} (n j k : ℕ) → xs ≡ from n j → ys ≡ from (n + j) k → xs ++ ys ≡ from n (j + k)
joined {ys = ys} n j k a b = ap (λ zs. zs ++ ys) a ∙ ap (λ zs. from n j ++ zs) b ∙ from-append n j k

-- what is there has so many numbers from one on
pub data Counts {A : Type 0} (f : A → List ℕ) (first count : ℕ) : Option A → Type 0 where
  absent : Counts f first count None
  there : (x : A) → f x ≡ from first count → Counts f first count (Some x)

pub moved : {A : Type 0} {f : A → List ℕ} {n m j k : ℕ} {o : Option A} → n ≡ m → j ≡ k → Counts f n j o → Counts f m k o
moved a b absent = absent
moved a b (there x c) = there x (c ∙ same a b)

pub made : {A B : Type 0} {fa : A → List ℕ} {fb : B → List ℕ} {n k : ℕ} {o : Option A} (g : A → B) → ((x : A) → fb (g x) ≡ fa x)
    → Counts fa n k o → Counts fb n k (option_map g o)
made g law absent = absent
made g law (there x a) = there (g x) (law x ∙ a)

pub if-allowed : {A : Type 0} {f : A → List ℕ} {n k : ℕ} {o : Option A} (b : Bool) → Counts f n k o → Counts f n k (if b then o else None)
if-allowed true c = c
if-allowed false c = absent

module _ {A B C : Type 0} {fa : A → List ℕ} {fb : B → List ℕ} {fc : C → List ℕ} where
  pub of-both : (g : A → B → C) → ((x : A) (y : B) → fc (g x y) ≡ fa x ++ fb y) → (n j k : ℕ) {o : Option A} {p : Option B}
      → Counts fa n j o → Counts fb (n + j) k p → Counts fc n (j + k) (both g o p)
  of-both g law n j k absent b = absent
  of-both g law n j k (there x a) absent = absent
  of-both g law n j k (there x a) (there y b) = there (g x y) (law x y ∙ joined n j k a b)

  -- a block starts, and then come two parts
  pub of-block : (g : A → B → C) → (n : ℕ) → ((x : A) (y : B) → fc (g x y) ≡ (n ∷ []) ++ fa x ++ fb y) → (j k : ℕ) {o : Option A} {p : Option B}
      → Counts fa (1 + n) j o → Counts fb (1 + n + j) k p → Counts fc n (1 + j + k) (both g o p)
  of-block g n law j k absent b = absent
  of-block g n law j k (there x a) absent = absent
  of-block g n law j k (there x a) (there y b) =
      there (g x y) (law x y ∙ joined n (1 + j) k (joined n 1 j refl (a ∙ same (omega arith) refl)) (b ∙ same (omega arith) refl))

module _ {A B C D : Type 0} {fa : A → List ℕ} {fb : B → List ℕ} {fc : C → List ℕ} {fd : D → List ℕ} where
  pub of-three : (g : A → B → C → D) → ((x : A) (y : B) (z : C) → fd (g x y z) ≡ fa x ++ fb y ++ fc z) → (n i j k : ℕ) {o : Option A} {p : Option B} {q : Option C}
      → Counts fa n i o → Counts fb (n + i) j p → Counts fc (n + i + j) k q → Counts fd n (i + j + k) (three g o p q)
  of-three g law n i j k absent b c = absent
  of-three g law n i j k (there x a) absent c = absent
  of-three g law n i j k (there x a) (there y b) absent = absent
  of-three g law n i j k (there x a) (there y b) (there z c) =
      there (g x y z) (law x y z ∙ joined n (i + j) k (joined n i j a b) (c ∙ same (omega arith) refl))

  -- a block starts behind the first part
  pub of-class : (g : A → B → C → D) → (n h i k : ℕ) → ((x : A) (y : B) (z : C) → fd (g x y z) ≡ fa x ++ ((n + h) ∷ []) ++ fb y ++ fc z)
      → {o : Option A} {p : Option B} {q : Option C}
      → Counts fa n h o → Counts fb (1 + (n + h)) i p → Counts fc (1 + (n + h) + i) k q → Counts fd n (h + 1 + i + k) (three g o p q)
  of-class g n h i k law absent b c = absent
  of-class g n h i k law (there x a) absent c = absent
  of-class g n h i k law (there x a) (there y b) absent = absent
  of-class g n h i k law (there x a) (there y b) (there z c) =
      there (g x y z) (law x y z ∙ joined n (h + 1 + i) k (joined n (h + 1) i (joined n h 1 a refl) (b ∙ same (omega arith) refl)) (c ∙ same (omega arith) refl))

-- a part that has no numbers stands before two, or between them
module _ {A B C D : Type 0} {fb : B → List ℕ} {fc : C → List ℕ} {fd : D → List ℕ} where
  pub of-last-two : (g : A → B → C → D) → ((x : A) (y : B) (z : C) → fd (g x y z) ≡ fb y ++ fc z) → (n j k : ℕ) (o : Option A) {p : Option B} {q : Option C}
      → Counts fb n j p → Counts fc (n + j) k q → Counts fd n (j + k) (three g o p q)
  of-last-two g law n j k None b c = absent
  of-last-two g law n j k (Some x) b c = of-both (g x) (law x) n j k b c

module _ {A B C D : Type 0} {fa : A → List ℕ} {fc : C → List ℕ} {fd : D → List ℕ} where
  pub of-outer-two : (g : A → B → C → D) → ((x : A) (y : B) (z : C) → fd (g x y z) ≡ fa x ++ fc z) → (n j k : ℕ) {o : Option A} (p : Option B) {q : Option C}
      → Counts fa n j o → Counts fc (n + j) k q → Counts fd n (j + k) (three g o p q)
  of-outer-two g law n j k p absent c = absent
  of-outer-two g law n j k None (there x a) c = absent
  of-outer-two g law n j k (Some y) (there x a) absent = absent
  of-outer-two g law n j k (Some y) (there x a) (there z c) = there (g x y z) (law x y z ∙ joined n j k a c)

module _ {A B C D E : Type 0} {fa : A → List ℕ} {fb : B → List ℕ} {fc : C → List ℕ} {fd : D → List ℕ} {fe : E → List ℕ} where
  pub of-four : (g : A → B → C → D → E) → ((x : A) (y : B) (z : C) (u : D) → fe (g x y z u) ≡ fa x ++ fb y ++ fc z ++ fd u)
      → (n h i j k : ℕ) {o : Option A} {p : Option B} {q : Option C} {r : Option D}
      → Counts fa n h o → Counts fb (n + h) i p → Counts fc (n + h + i) j q → Counts fd (n + h + i + j) k r → Counts fe n (h + i + j + k) (four g o p q r)
  of-four g law n h i j k absent b c d = absent
  of-four g law n h i j k (there x a) absent c d = absent
  of-four g law n h i j k (there x a) (there y b) absent d = absent
  of-four g law n h i j k (there x a) (there y b) (there z c) absent = absent
  of-four g law n h i j k (there x a) (there y b) (there z c) (there u d) =
      there (g x y z u) (law x y z u ∙ joined n (h + i + j) k (joined n (h + i) j (joined n h i a b) (c ∙ same (omega arith) refl)) (d ∙ same (omega arith) refl))

-- a block starts behind the first part, and the third has no numbers
module _ {A B C D E : Type 0} {fa : A → List ℕ} {fb : B → List ℕ} {fd : D → List ℕ} {fe : E → List ℕ} where
  pub of-function : (g : A → B → C → D → E) → (n h i k : ℕ) → ((x : A) (y : B) (z : C) (u : D) → fe (g x y z u) ≡ fa x ++ ((n + h) ∷ []) ++ fb y ++ fd u)
      → {o : Option A} {p : Option B} (q : Option C) {r : Option D}
      → Counts fa n h o → Counts fb (1 + (n + h)) i p → Counts fd (1 + (n + h) + i) k r → Counts fe n (h + 1 + i + k) (four g o p q r)
  of-function g n h i k law q absent b d = absent
  of-function g n h i k law q (there x a) absent d = absent
  of-function g n h i k law None (there x a) (there y b) d = absent
  of-function g n h i k law (Some z) (there x a) (there y b) absent = absent
  of-function g n h i k law (Some z) (there x a) (there y b) (there u d) =
      there (g x y z u) (law x y z u ∙ joined n (h + 1 + i) k (joined n (h + 1) i (joined n h 1 a refl) (b ∙ same (omega arith) refl)) (d ∙ same (omega arith) refl))
