-- Numbers of classes: each by what stands for it on its level.
use Rattle.std.specs.Prelude.{◌≡◌, ℕ, zero, suc, ◌<◌, ◌≤◌, List, length, Option, Some, None}
use Rattle.std.specs.Ordering.{nat_cmp, ordering_then}
use Rattle.std.specs.declared.cmp.Ordering.{Ordering}
use Rattle.std.specs.BTreeMap.{get}
use Rattle.pt_joins.specs.declared.joins.Node.{Node}
use Rattle.pt_joins.specs.Joins.{Root}
use Rattle.pt_top_slots.specs.declared.numbers.Numbers.{Numbers}

abbrev pub key_cmp : (x y : ℕ × ℕ) → Ordering
key_cmp x y = ordering_then (nat_cmp x.0 y.0) (nat_cmp x.1 y.1)

abbrev pub number_at : Numbers → (root level : ℕ) → Option ℕ
number_at n r l = get key_cmp n.known (r, l)

-- no two classes have one number
pub record AreNumbers (n : Numbers) : Type 0 where
  pub low : (r l i : ℕ) → number_at n r l ≡ Some i → i < n.count
  pub one : (r l s m i : ℕ) → number_at n r l ≡ Some i → number_at n s m ≡ Some i → (r ≡ s) × (l ≡ m)

pub record IsNumbered (root level number : ℕ) (old new : Numbers) : Type 0 where
  pub are : AreNumbers new
  pub here : number_at new root level ≡ Some number
  pub kept : (r l i : ℕ) → number_at old r l ≡ Some i → number_at new r l ≡ Some i

-- the root of a place on a level, or the place itself where nothing is told of it
pub data StandsFor (nodes : List Node) (level : ℕ) : (place root : ℕ) → Type 0 where
  root : {i r : ℕ} → Root nodes level i r → StandsFor nodes level i r
  alone : {i : ℕ} → length nodes ≤ i → StandsFor nodes level i i

pub record HasNumber (nodes : List Node) (n : Numbers) (place level class : ℕ) : Type 0 where
  pub root : ℕ
  pub stands : StandsFor nodes level place root
  pub is : number_at n root level ≡ Some class

-- the topmost of so many slots has its class, where there are any
abbrev pub IsClass : List Node → Numbers → (place : ℕ) → (size class : Option ℕ) → Type 0
IsClass nodes n place (Some (suc level)) (Some class) = HasNumber nodes n place level class
IsClass nodes n place (Some (suc level)) None = ⊥
IsClass nodes n place (Some zero) (Some class) = ⊥
IsClass nodes n place (Some zero) None = Unit {0}
IsClass nodes n place None (Some class) = ⊥
IsClass nodes n place None None = Unit {0}

pub record Classed (nodes : List Node) (place : ℕ) (size class : Option ℕ) (old new : Numbers) : Type 0 where
  pub are : AreNumbers new
  pub kept : (r l i : ℕ) → number_at old r l ≡ Some i → number_at new r l ≡ Some i
  pub here : IsClass nodes new place size class
