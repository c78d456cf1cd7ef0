-- The handler rows of each stretch of places in a chain, the deepest first.
use Rattle.std.specs.Prelude.{◌≡◌, ℕ, ◌+◌, suc, List, [], ◌∷◌, length, map, nat_eq, nat_lt, slice_get, slice_index_or, Bool, if◌then◌else◌, Some, Vec}
use Rattle.pt_ranges.specs.declared.handlers.Handler.{Handler}
use Rattle.pt_sizes.specs.Waiting.{Level, Index, levels_of, stretch, stretch_of}
use Rattle.pt_block_kinds.specs.Leads.{numbered}
use Rattle.pt_cut_failures.specs.declared.chains.Link.{Link}
use Rattle.pt_cut_failures.specs.declared.chains.Chains.{Chains}

abbrev pub link_of : Handler → (last : Bool) → Link
link_of row last = record { row = row.target.0; depth = row.depth; last = last }

abbrev pub starts_of : {Y Z : Type 0} → Vec (Vec ℕ Y) Z → List (List ℕ)
starts_of starts = map (λ firsts. firsts.items) starts.items

abbrev pub start_at : List (List ℕ) → (level node : ℕ) → ℕ
start_at starts level node = slice_index_or (slice_index_or starts level []) node 0

-- rows stand in a chain from a link on
abbrev pub StandsFrom : List Link → (start : ℕ) → List Handler → Type 0
StandsFrom links start rows = (j : ℕ) (row : Handler) → slice_get rows j ≡ Some row
    → slice_get links (start + j) ≡ Some (link_of row (nat_eq (j + 1) (length rows)))

abbrev pub Kept : (old new : List Link) → Type 0
Kept old new = (c : ℕ) (link : Link) → slice_get old c ≡ Some link → slice_get new c ≡ Some link

pub record Chained (old new : List Link) (rows : List Handler) : Type 0 where
  pub kept : Kept old new
  pub stands : StandsFrom new (length old) rows

pub record LaidLevel (old new : List Link) (level : Level) (starts : List ℕ) : Type 0 where
  pub kept : Kept old new
  pub stands : (v : ℕ) → StandsFrom new (slice_index_or starts v 0) (stretch_of level v)

pub record LaidLevels (old new : List Link) (levels : List Level) (starts : List (List ℕ))
    : Type 0 where
  pub kept : Kept old new
  pub stands : (k v : ℕ) → StandsFrom new (start_at starts k v) (stretch levels k v)

-- the rows of a block in chains, each by its number
pub record AreRowChains (rows : List Handler) (count : ℕ) (c : Chains) : Type 0 where
  pub index : Index (numbered 0 rows) count (levels_of c.waiting.levels)
  pub stands : (k v : ℕ) → StandsFrom c.links.items (start_at (starts_of c.starts) k v)
      (stretch (levels_of c.waiting.levels) k v)

-- how many rows leave more slots, where the deepest stand first
abbrev pub first_within : List Handler → (below : ℕ) → ℕ
first_within [] below = 0
first_within (row ∷ rows) below =
    if nat_lt below row.depth then suc (first_within rows below) else 0
