-- What those from one on give is what this one gives, or those behind it.
use Rattle.std.proofs.Common.{◌≡◌, ◌∙◌, ◌+◌, ◌≤◌, ℕ, zero, suc, Bool, true, false, ◌||◌, List, [], ◌∷◌, length, drop, Option, None, Some, refl, ap, sym, arith, add-one}
use Rattle.std.specs.Prelude.{slice_get}
use Rattle.sem_control.specs.control.Bases.{or_else}
use Rattle.pt_heap.specs.declared.value.Value.{Value}
use Rattle.pt_openers.specs.Openers.{active_in, hook_runs}

drop-all : {X : Type 0} (xs : List X) (n : ℕ) → length xs ≤ n → drop n xs ≡ []
drop-all [] zero h = refl
drop-all [] (suc n) h = refl
drop-all (x ∷ xs) zero h = absurd (omega arith)
drop-all (x ∷ xs) (suc n) h = drop-all xs n (omega arith)

module _ {P : Type 0} where
  active-suc : (f : P → Option Value) (os : List P) (n : ℕ) (o : P) → slice_get os n ≡ Some o
      → active_in f (drop n os) ≡ or_else (f o) (active_in f (drop (suc n) os))
  active-suc f [] n o h = cc
  active-suc f (p ∷ os) zero o h =
      let same : p ≡ o = cc in ap (λ z. or_else (f z) (active_in f os)) same
  active-suc f (p ∷ os) (suc n) o h = active-suc f os n o h

  pub active-next : (f : P → Option Value) (os : List P) (n : ℕ) (o : P) → slice_get os n ≡ Some o
      → active_in f (drop n os) ≡ or_else (f o) (active_in f (drop (n + 1) os))
  active-next f os n o h =
      active-suc f os n o h ∙ ap (λ m. or_else (f o) (active_in f (drop m os))) (sym (add-one n))

  pub active-none : (f : P → Option Value) (os : List P) (n : ℕ) → length os ≤ n
      → active_in f (drop n os) ≡ None
  active-none f os n h = ap (λ os. active_in f os) (drop-all os n h)

  runs-suc : (f : P → Bool) (os : List P) (n : ℕ) (o : P) → slice_get os n ≡ Some o
      → hook_runs f (drop n os) ≡ (f o || hook_runs f (drop (suc n) os))
  runs-suc f [] n o h = cc
  runs-suc f (p ∷ os) zero o h =
      let same : p ≡ o = cc in ap (λ z. f z || hook_runs f os) same
  runs-suc f (p ∷ os) (suc n) o h = runs-suc f os n o h

  pub runs-next : (f : P → Bool) (os : List P) (n : ℕ) (o : P) → slice_get os n ≡ Some o
      → hook_runs f (drop n os) ≡ (f o || hook_runs f (drop (n + 1) os))
  runs-next f os n o h =
      runs-suc f os n o h ∙ ap (λ m. f o || hook_runs f (drop m os)) (sym (add-one n))

  pub runs-none : (f : P → Bool) (os : List P) (n : ℕ) → length os ≤ n
      → hook_runs f (drop n os) ≡ false
  runs-none f os n h = ap (λ os. hook_runs f os) (drop-all os n h)
