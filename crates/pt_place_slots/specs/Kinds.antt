-- Lists of kinds as they are looked at.
use Rattle.std.specs.Prelude.{◌≡◌, ◌<◌, [], ◌++◌, replicate, Option, Some, None}
use Rattle.pt_instr.specs.Effects.{Kinds}
use Rattle.pt_kinds.specs.Forest.{IsForest, IsInside, list_at}
use Rattle.pt_place_slots.specs.declared.kinds.KindsAt.{KindsAt}
use Rattle.pt_place_slots.specs.declared.kinds.TopRun.{TopRun}

abbrev pub kinds_of : KindsAt → Kinds
kinds_of v = list_at v.forest.now v.list

-- its list is one of a forest
pub record IsKinds (v : KindsAt) : Type 0 where
  pub forest : IsForest v.forest.now
  pub inside : IsInside v.forest.now v.list

-- a run of one kind on top of a list
pub record IsTopRun (ks : Kinds) (top : TopRun) : Type 0 where
  pub some : 0 < top.count
  pub is : ks ≡ kinds_of top.below ++ replicate top.count top.kind
  pub below : IsKinds top.below

abbrev pub TellsTop : Kinds → Option TopRun → Type 0
TellsTop ks (Some top) = IsTopRun ks top
TellsTop ks None = ks ≡ []
