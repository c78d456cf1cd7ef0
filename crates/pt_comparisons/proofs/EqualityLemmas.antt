-- Whether the insides of two containers are equal, by how many containers may still stand inside one another.
use Rattle.std.proofs.Common.{◌≡◌, ◌-◌, ◌<◌, ℕ, zero, suc, Bool, true, false, List, [], ◌∷◌, nat_eq, if◌then◌else◌, refl, ap, arith}
use Rattle.std.proofs.lemmas.Bool.Decides.{nat_tests}
use Rattle.pt_heap.specs.declared.value.Value.{Value}
use Rattle.pt_heap.specs.declared.object.Object.{Object}
use Rattle.pt_comparisons.specs.declared.equality.Equality.{Equality}
use Rattle.pt_comparisons.specs.declared.equality.Equality.TheVariants.{Told, Deep}
use Rattle.pt_comparisons.specs.Equalities.{all_equal, inside_equality, insides_equality, item_equality, Insides}

pub of-nothing : (item : Value → Value → Equality) (vs : List Value) → all_equal item vs [] ≡ Told true
of-nothing item [] = refl
of-nothing item (v ∷ vs) = refl

pub deep : (h : List Object) (insides : Insides) → insides_equality h 0 insides ≡ Deep
unfolding insides_equality
deep h insides = refl

pub one-less : (h : List Object) (depth : ℕ) (insides : Insides) → 0 < depth
    → insides_equality h depth insides ≡ inside_equality (item_equality (insides_equality h (depth - 1)) h) insides
unfolding insides_equality
one-less h zero insides l = absurd (omega (arith, l))
one-less h (suc depth) insides l =
    let less : depth ≡ suc depth - 1 = omega arith in
    ap (λ d. inside_equality (item_equality (insides_equality h d) h) insides) less

-- what is told of as many
pub of-as-many : (m n : ℕ) (told : Equality) → m ≡ n → (if nat_eq m n then told else Told false) ≡ told
of-as-many m n told s = by (nat_eq m n) refl
  where
    by : (b : Bool) → nat_eq m n ≡ b → (if b then told else Told false) ≡ told
    by true e = refl
    by false e = absurd (grind (arith, nat_tests, e, s))

pub of-fewer : (m n : ℕ) (told : Equality) → (m ≡ n → ⊥) → (if nat_eq m n then told else Told false) ≡ Told false
of-fewer m n told d = by (nat_eq m n) refl
  where
    by : (b : Bool) → nat_eq m n ≡ b → (if b then told else Told false) ≡ Told false
    by true e = absurd (d (grind (arith, nat_tests, e)))
    by false e = refl
