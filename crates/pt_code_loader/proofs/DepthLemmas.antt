-- How many slots the sizes of a block say that lie at its places.
use Rattle.std.proofs.Common.{◌≡◌, ℕ, zero, suc, List, [], ◌∷◌, map, Option, Some, None, ap}
use Rattle.std.specs.Prelude.{slice_index_or}
use Rattle.std.specs.Option.{unwrap_or}
use Rattle.pt_sizes.specs.Flow.{entry}
use Rattle.sem_fits.specs.fits.Block as F
use Rattle.pt_verify_depths.specs.PlaceTable.{AreSizes}
use Rattle.pt_code_loader.specs.Loaded.{HasDepths}

abbrev size_or : Option ℕ → ℕ
size_or s = unwrap_or s 0

at_place : (table : List (Option ℕ)) (pc n : ℕ) → entry table pc ≡ Some n → slice_index_or (map size_or table) pc 0 ≡ n
at_place [] pc n e = absurd (let none : None ≡ Some n = e in cc)
at_place (s ∷ table) zero n e = ap size_or e
at_place (s ∷ table) (suc pc) n e = at_place table pc n e

pub agreeing : (b : F.Block) (table : List (Option ℕ)) → AreSizes b table → HasDepths b (map (λ s. unwrap_or s 0) table)
agreeing b table are agree pc n s = at_place table pc n (are.whole b.size pc n s)
