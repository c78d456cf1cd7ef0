-- Steps one after another agree with the parts that they make.
use Rattle.std.proofs.Common.{◌≡◌, ℕ, Bool, true, false, List, [], ◌∷◌, ◌++◌, refl, Option, None, subst}
use Rattle.std.specs.Prelude.{is_some, option_map, if◌then◌else◌, Result}
use Rattle.pt_refine_expr.specs.Faults.{Fault, is_clean}
use Rattle.pt_refine_expr.specs.Ways as way
use Rattle.pt_refine_expr.specs.Agreement.{Agrees, whole, faulty}
use Rattle.pt_refine_expr.specs.Steps.{Step, behind, done, stop, made, both, three, uncounted_from}

-- so a part is in the language exactly where it has no faults
pub agreed : {A : Type 0} {fs : List Fault} {o : Option A} {m : ℕ} {r : Result (A × ℕ) Fault} → Agrees fs o m r → is_some o ≡ is_clean fs
agreed (whole a m) = refl
agreed (faulty f fs m) = refl

pub counted : {A : Type 0} {fs : List Fault} {o : Option A} {m k : ℕ} {r : Result (A × ℕ) Fault} → Agrees fs o m r → m ≡ k → Agrees fs o k r
counted {fs = fs} {o = o} {r = r} a is = let P : ℕ → Type 0 = λ n. Agrees fs o n r in subst P is a

pub listed : {A : Type 0} {fs gs : List Fault} {o : Option A} {m : ℕ} {r : Result (A × ℕ) Fault} → Agrees fs o m r → fs ≡ gs → Agrees gs o m r
listed {o = o} {m = m} {r = r} a is = let P : List Fault → Type 0 = λ hs. Agrees hs o m r in subst P is a

pub narrowed : {A : Type 0} {fs : List Fault} {o p : Option A} {m : ℕ} {r : Result (A × ℕ) Fault} → Agrees fs o m r → o ≡ p → Agrees fs p m r
narrowed {A = A} {fs = fs} {m = m} {r = r} a is = let P : Option A → Type 0 = λ q. Agrees fs q m r in subst P is a

pub agrees-made : {A B : Type 0} {fs : List Fault} {o : Option A} {m : ℕ} {r : Result (A × ℕ) Fault} (f : A → B) →
    Agrees fs o m r → Agrees fs (option_map f o) m (behind (λ a. done (f a)) r)
agrees-made f (whole a m) = whole (f a) m
agrees-made f (faulty e es m) = faulty e es m

module _ {A B C : Type 0} (f : A → B → C) (t : Step B) where
  pub agrees-both : {fs gs : List Fault} {o : Option A} {p : Option B} {m k : ℕ} {r : Result (A × ℕ) Fault} →
      Agrees fs o m r → Agrees gs p k (t m) → Agrees (fs ++ gs) (way.both f o p) k (behind (λ a. made (f a) t) r)
  agrees-both {k = k} (whole a m) u = agrees-made (f a) u
  agrees-both {gs = gs} {k = k} (faulty e es m) u = faulty e (es ++ gs) k

module _ {A B C D : Type 0} (f : A → B → C → D) (t : Step B) (u : Step C) where
  pub agrees-three : {fs gs hs : List Fault} {o : Option A} {p : Option B} {q : Option C} {m k j : ℕ} {r : Result (A × ℕ) Fault} →
      Agrees fs o m r → Agrees gs p k (t m) → Agrees hs q j (u k) → Agrees (fs ++ gs ++ hs) (way.three f o p q) j (behind (λ a. both (f a) t u) r)
  agrees-three (whole a m) v w = agrees-both (f a) u v w
  agrees-three {gs = gs} {hs = hs} {j = j} (faulty e es m) v w = faulty e (es ++ gs ++ hs) j

module _ {A B C D E : Type 0} (f : A → B → C → D → E) (t : Step B) (u : Step C) (v : Step D) where
  pub agrees-four : {fs gs hs is : List Fault} {o : Option A} {p : Option B} {q : Option C} {x : Option D} {m k j i : ℕ} {r : Result (A × ℕ) Fault} →
      Agrees fs o m r → Agrees gs p k (t m) → Agrees hs q j (u k) → Agrees is x i (v j) → Agrees (fs ++ gs ++ hs ++ is) (way.four f o p q x) i (behind (λ a. three (f a) t u v) r)
  agrees-four (whole a m) w y z = agrees-three (f a) u v w y z
  agrees-four {gs = gs} {hs = hs} {is = is} {i = i} (faulty e es m) w y z = faulty e (es ++ gs ++ hs ++ is) i

pub agrees-uncounted : {A : Type 0} {fs : List Fault} {o : Option A} {m : ℕ} {r : Result (A × ℕ) Fault} (n : ℕ) → Agrees fs o m r → Agrees fs o n (uncounted_from n r)
agrees-uncounted n (whole a m) = whole a n
agrees-uncounted n (faulty f fs m) = faulty f fs n

-- what stops behind a part has a fault
pub agrees-stopped : {A B : Type 0} {fs : List Fault} {o : Option A} {m : ℕ} {r : Result (A × ℕ) Fault} (f : Fault) (gs : List Fault) (k : ℕ) →
    Agrees fs o m r → Agrees {A = B} (fs ++ f ∷ gs) None k (behind (λ _. stop f) r)
agrees-stopped f gs k (whole a m) = faulty f gs k
agrees-stopped f gs k (faulty e es m) = faulty e (es ++ f ∷ gs) k

pub agrees-either : {A : Type 0} {fs : List Fault} {o : Option A} {m n : ℕ} (b : Bool) (f : Fault) (s : Step A) →
    Agrees fs o m (s n) → Agrees (if b then fs else f ∷ []) (if b then o else None) m ((if b then s else stop f) n)
agrees-either true f s a = a
agrees-either {m = m} false f s a = faulty f [] m
