-- How far two lists of kinds are the same.
use Rattle.std.specs.Prelude.{◌≡◌, ◌⊎◌, ℕ, ◌<◌, ◌≤◌, [], ◌++◌, length, replicate, take}
use Rattle.pt_instr.specs.Effects.{Kinds}
use Rattle.pt_kinds.specs.declared.forest.Forest.{Forest}
use Rattle.pt_kinds.specs.declared.common.RunUpon.{RunUpon}
use Rattle.pt_kinds.specs.Forest.{IsApart, IsInside, list_at}

-- so many of the lowest slots of two lists are of the same kinds, and no more
pub record IsCommon (ks ls : Kinds) (count : ℕ) : Type 0 where
  pub inside : (count ≤ length ks) × (count ≤ length ls)
  pub same : take count ks ≡ take count ls
  pub most : (n : ℕ) → n ≤ length ks → n ≤ length ls → take n ks ≡ take n ls → n ≤ count

abbrev pub list_of_run : Forest → RunUpon → Kinds
list_of_run f run = list_at f run.parent ++ replicate run.count run.kind

-- the lowest slots of a list are a run upon a list whose top is of another kind, or none
pub record IsRunAt (f : Forest) (list depth : ℕ) (run : RunUpon) : Type 0 where
  pub is : take depth (list_at f list) ≡ list_of_run f run
  pub inside : IsInside f run.parent
  pub apart : 0 < run.count → IsApart (list_at f run.parent) run.kind
  pub none : run.count ≡ 0 → list_at f run.parent ≡ []

-- two runs are the same, or are none
pub record IsSameRun (one other : RunUpon) : Type 0 where
  pub count : one.count ≡ other.count
  pub rest : (one.count ≡ 0) ⊎ ((one.parent ≡ other.parent) × (one.kind ≡ other.kind))
