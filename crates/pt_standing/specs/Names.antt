-- What instructions that make functions name.
use Rattle.std.specs.Prelude.{◌≡◌, ℕ, ◌<◌, List, [], map, length, slice_index_or, Bool, false, nat_eq, ◌&&◌, Option, Some}
use Rattle.std.specs.List.{list_all}
use Rattle.std.specs.Ordering.{nat_cmp, ordering_then}
use Rattle.std.specs.declared.cmp.Ordering.{Ordering}
use Rattle.std.specs.BTreeMap.{get}
use Rattle.pt_code.specs.declared.Code.{Code}
use Rattle.pt_tree.specs.Syntax.{Name}
use Rattle.sem_fits.specs.fits.Block.{links_of}
use Rattle.sem_fits.specs.fits.Standing.{are_distinct, is_among, is_function}
use Rattle.pt_standing.specs.Texts.{text_at}
use Rattle.pt_standing.specs.declared.defaults.Defaults.{Defaults}

-- texts are different, and each is among the names: those of a list, and those of the parameters of a block
abbrev pub are_among : (names texts : List Name) → Bool
are_among names texts = are_distinct texts && list_all (is_among names) texts

abbrev pub names_parameters : Code → (block list : ℕ) → Bool
names_parameters c b l = are_among ((links_of c).parameters b) ((links_of c).texts l)

-- a function of a block may be made, with defaults for so many parameters, whose names a list has
abbrev pub makes_function : Code → (block count list : ℕ) → Bool
makes_function c b n l = is_function ((links_of c).kind b)
    && (nat_eq (length ((links_of c).texts l)) n && names_parameters c b l)

abbrev pub pair_cmp : ℕ × ℕ → ℕ × ℕ → Ordering
pair_cmp x y = ordering_then (nat_cmp x.0 y.0) (nat_cmp x.1 y.1)

abbrev pub told_of : Defaults → (block list : ℕ) → Option Bool
told_of d b l = get pair_cmp d.told (b, l)

-- what is told of a block and a list is so
pub record TellsDefaults (c : Code) (d : Defaults) : Type 0 where
  pub each : (b l : ℕ) (t : Bool) → told_of d b l ≡ Some t → t ≡ names_parameters c b l

-- one more is told
pub record TellsMore (old new : Defaults) (block list : ℕ) (told : Bool) : Type 0 where
  pub here : told_of new block list ≡ Some told
  pub others : (b l : ℕ) → (b ≡ block → l ≡ list → ⊥) → told_of new b l ≡ told_of old b l

-- of each list it is told whether its texts are different
pub record AreDistinctLists (texts : List Name) (lists : List (List ℕ)) (told : List Bool) : Type 0 where
  pub each : (l : ℕ) → l < length told
      → slice_index_or told l false ≡ are_distinct (map (text_at texts) (slice_index_or lists l []))
