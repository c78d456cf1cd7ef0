-- Handler rows that wait, by the places that they cover: on each level stretches of twice as many
-- places.
use Rattle.std.specs.Prelude.{Vec, Bool, false, nat_lt, nat_eq, ◌&&◌, ◌++◌, ◌-◌, ◌%◌, ◌≡◌, ℕ, zero, suc, ◌+◌, ◌/◌, ◌<◌, ◌≤◌, List, [], ◌∷◌, length, map, Contains, slice_get, slice_set, slice_index_or, Some, true, ◌⊎◌}
use Rattle.pt_ranges.specs.declared.handlers.Handler.{Handler}
use Rattle.pt_sizes.specs.declared.places.SizeStep.{SizeStep}
use Rattle.pt_sizes.specs.Flow.{is_under, landing}

-- the stretch of a level in which a place lies
abbrev pub up : (level : ℕ) → (pc : ℕ) → ℕ
up zero pc = pc
up (suc level) pc = up level pc / 2

abbrev pub Level : Type 0
Level = List (List Handler)

abbrev pub level_of : {Y Z : Type 0} → Vec (Vec Handler Y) Z → Level
level_of level = map (λ rows. rows.items) level.items

abbrev pub levels_of : {X Y Z : Type 0} → Vec (Vec (Vec Handler X) Y) Z → List Level
levels_of levels = map level_of levels.items

abbrev pub stretch_of : Level → (node : ℕ) → List Handler
stretch_of level node = slice_index_or level node []

abbrev pub stretch : List Level → (level node : ℕ) → List Handler
stretch levels level node = stretch_of (slice_index_or levels level []) node

pub record Waits (levels : List Level) (pc : ℕ) (row : Handler) : Type 0 where
  pub level : ℕ
  pub among : Contains (stretch levels level (up level pc)) row

-- the deepest first
abbrev pub Descends : List Handler → Type 0
Descends rows = (i j : ℕ) (r s : Handler) → i ≤ j → slice_get rows i ≡ Some r
    → slice_get rows j ≡ Some s → s.depth ≤ r.depth

abbrev pub AllDescend : List Level → Type 0
AllDescend levels = (level node : ℕ) → Descends (stretch levels level node)

abbrev pub level_size : Level → ℕ
level_size [] = 0
level_size (rows ∷ level) = length rows + level_size level

abbrev pub levels_size : List Level → ℕ
levels_size [] = 0
levels_size (level ∷ levels) = level_size level + levels_size levels

-- there are so many levels that the last has one stretch, and each has a stretch for each place
pub record IsTall (count : ℕ) (levels : List Level) : Type 0 where
  pub tall : up (length levels) count ≡ 0
  pub wide : (k : ℕ) → k < length levels → up k count < length (slice_index_or levels k [])

-- the rows wait at all places below a count that they cover
pub record Index (rows : List Handler) (count : ℕ) (levels : List Level) : Type 0 where
  pub known : (pc : ℕ) (row : Handler) → Waits levels pc row → Contains rows row
      × (is_under row pc ≡ true)
  pub whole : (pc : ℕ) (row : Handler) → pc < count → Contains rows row → is_under row pc ≡ true
      → Waits levels pc row
  pub sorted : AllDescend levels
  pub tall : IsTall count levels

-- so much of it is known of no levels too, where there are no rows
pub record AllWait (rows : List Handler) (count : ℕ) (levels : List Level) : Type 0 where
  pub known : (pc : ℕ) (row : Handler) → Waits levels pc row → Contains rows row
      × (is_under row pc ≡ true)
  pub whole : (pc : ℕ) (row : Handler) → pc < count → Contains rows row → is_under row pc ≡ true
      → Waits levels pc row
  pub sorted : AllDescend levels

-- how deep the deepest row is that covers a place
pub record IsDeepest (rows : List Handler) (pc depth : ℕ) : Type 0 where
  pub most : (row : Handler) → Contains rows row → is_under row pc ≡ true → row.depth ≤ depth
  pub one : 0 < depth → (row : Handler) ×
      (Contains rows row × ((is_under row pc ≡ true) × (row.depth ≡ depth)))

abbrev pub AreDeepest : (rows : List Handler) (table : List ℕ) → (count : ℕ) → Type 0
AreDeepest rows table count = (pc : ℕ) → pc < count → IsDeepest rows pc (slice_index_or table pc 0)

-- what landing some rows of a stretch comes to
pub record StretchLanding (rows rows' : List Handler) (below : ℕ)
    (work work' : List SizeStep) : Type 0 where
  pub kept : (s : SizeStep) → Contains work s → Contains work' s
  pub came : (s : SizeStep) → Contains work' s → Contains work s
      ⊎ ((row : Handler) × (Contains rows row × ((row.depth ≤ below) × (landing row ≡ s))))
  pub fewer : (row : Handler) → Contains rows' row → Contains rows row
  pub on : (row : Handler) → Contains rows row → Contains rows' row ⊎ Contains work' (landing row)
  pub clear : (row : Handler) → Contains rows' row → row.depth ≤ below → ⊥
  pub sorted : Descends rows'
  pub lighter : length rows' + length work' ≤ length rows + length work

-- the same while it goes on
pub record StretchLandingSoFar (rows rows' : List Handler) (below : ℕ)
    (work work' : List SizeStep) : Type 0 where
  pub kept : (s : SizeStep) → Contains work s → Contains work' s
  pub came : (s : SizeStep) → Contains work' s → Contains work s
      ⊎ ((row : Handler) × (Contains rows row × ((row.depth ≤ below) × (landing row ≡ s))))
  pub fewer : (row : Handler) → Contains rows' row → Contains rows row
  pub on : (row : Handler) → Contains rows row → Contains rows' row ⊎ Contains work' (landing row)
  pub sorted : Descends rows'
  pub lighter : length rows' + length work' ≤ length rows + length work

-- a stretch of a level is landed, and the others stay
pub record LevelLanding (level level' : Level) (node below : ℕ)
    (work work' : List SizeStep) : Type 0 where
  pub kept : (s : SizeStep) → Contains work s → Contains work' s
  pub came : (s : SizeStep) → Contains work' s → Contains work s
      ⊎ ((row : Handler) × (Contains (stretch_of level node) row
      × ((row.depth ≤ below) × (landing row ≡ s))))
  pub fewer : (v : ℕ) (row : Handler) → Contains (stretch_of level' v) row
      → Contains (stretch_of level v) row
  pub on : (v : ℕ) (row : Handler) → Contains (stretch_of level v) row
      → Contains (stretch_of level' v) row ⊎ Contains work' (landing row)
  pub clear : (row : Handler) → Contains (stretch_of level' node) row → row.depth ≤ below → ⊥
  pub sorted : (v : ℕ) → Descends (stretch_of level' v)
  pub lighter : level_size level' + length work' ≤ level_size level + length work

-- the levels up to one are landed at a place
pub record LevelsLandingSoFar (levels levels' : List Level) (done q below : ℕ)
    (work work' : List SizeStep) : Type 0 where
  pub kept : (s : SizeStep) → Contains work s → Contains work' s
  pub came : (s : SizeStep) → Contains work' s → Contains work s
      ⊎ ((row : Handler) × (Waits levels q row × ((row.depth ≤ below) × (landing row ≡ s))))
  pub fewer : (k v : ℕ) (row : Handler) → Contains (stretch levels' k v) row
      → Contains (stretch levels k v) row
  pub on : (k v : ℕ) (row : Handler) → Contains (stretch levels k v) row
      → Contains (stretch levels' k v) row ⊎ Contains work' (landing row)
  pub clear : (k : ℕ) (row : Handler) → k < done → Contains (stretch levels' k (up k q)) row
      → row.depth ≤ below → ⊥
  pub sorted : AllDescend levels'
  pub long : length levels' ≡ length levels
  pub lighter : levels_size levels' + length work' ≤ levels_size levels + length work

-- how deep the deepest row of a stretch is
abbrev pub first_depth : List Handler → ℕ
first_depth [] = 0
first_depth (row ∷ rows) = row.depth

-- the deepest rows of the stretches in which a place lies, on the levels up to one
pub record DeepestBelow (levels : List Level) (done q most : ℕ) : Type 0 where
  pub all : (k : ℕ) → k < done → first_depth (stretch levels k (up k q)) ≤ most
  pub one : 0 < most → (k : ℕ) × (first_depth (stretch levels k (up k q)) ≡ most)

abbrev pub Rises : List Handler → Type 0
Rises rows = (i j : ℕ) (r s : Handler) → i ≤ j → slice_get rows i ≡ Some r
    → slice_get rows j ≡ Some s → r.depth ≤ s.depth

abbrev pub AllUnder : (level node : ℕ) → Handler → Type 0
AllUnder level node row = (q : ℕ) → up level q ≡ node → is_under row q ≡ true

abbrev pub put : Bool → Level → (node : ℕ) → Handler → Level
put true level node row = slice_set level node (stretch_of level node ++ row ∷ [])
put false level node row = level

abbrev pub at_low : (low high : ℕ) → Bool
at_low low high = nat_lt low high && nat_eq (low % 2) 1

abbrev pub at_high : (low high : ℕ) → Bool
at_high low high = nat_lt low high && nat_eq (high % 2) 1

-- a row is put into the stretches of a level that are no half of one above, of those from low up to
-- high
abbrev pub placed : Level → (low high : ℕ) → Handler → Level
placed level low high row = put (at_high low high) (put (at_low low high) level low row)
    (high - 1) row

pub record Empty (count size : ℕ) (levels : List Level) : Type 0 where
  pub size_is : size ≡ up (length levels) count
  pub wide : (k : ℕ) → k < length levels → up k count < length (slice_index_or levels k [])
  pub none : (k v : ℕ) (r : Handler) → Contains (stretch levels k v) r → ⊥

-- a row is put on the levels up to one; what is left are the stretches from low up to high
pub record Adding (count : ℕ) (row : Handler) (levels levels' : List Level)
    (done low high : ℕ) : Type 0 where
  pub old : (k v : ℕ) (r : Handler) → Contains (stretch levels k v) r
      → Contains (stretch levels' k v) r
  pub new : (k v : ℕ) (r : Handler) → Contains (stretch levels' k v) r
      → Contains (stretch levels k v) r ⊎ ((r ≡ row) × AllUnder k v row)
  pub sound : (q : ℕ) → low ≤ up done q → up done q < high → is_under row q ≡ true
  pub whole : (q : ℕ) → q < count → is_under row q ≡ true → Waits levels' q row
      ⊎ ((low ≤ up done q) × (up done q < high))
  pub sorted : AllDescend levels'
  pub deeper : (k v : ℕ) (r : Handler) → Contains (stretch levels' k v) r → row.depth ≤ r.depth
  pub small : high ≤ up done count
  pub tall : IsTall count levels'
  pub long : length levels' ≡ length levels

pub record Added (count : ℕ) (row : Handler) (levels levels' : List Level) : Type 0 where
  pub old : (k v : ℕ) (r : Handler) → Contains (stretch levels k v) r
      → Contains (stretch levels' k v) r
  pub new : (k v : ℕ) (r : Handler) → Contains (stretch levels' k v) r
      → Contains (stretch levels k v) r ⊎ ((r ≡ row) × AllUnder k v row)
  pub whole : (q : ℕ) → q < count → is_under row q ≡ true → Waits levels' q row
  pub sorted : AllDescend levels'
  pub deeper : (k v : ℕ) (r : Handler) → Contains (stretch levels' k v) r → row.depth ≤ r.depth
  pub tall : IsTall count levels'

-- what a row that is put has to find
pub record Ready (count : ℕ) (row : Handler) (levels : List Level) : Type 0 where
  pub sorted : AllDescend levels
  pub deeper : (k v : ℕ) (r : Handler) → Contains (stretch levels k v) r → row.depth ≤ r.depth
  pub tall : IsTall count levels

-- rows are put of which some are left, the deepest last
pub record WaitingSoFar (rows left : List Handler) (count : ℕ) (levels : List Level) : Type 0 where
  pub known : (k v : ℕ) (r : Handler) → Contains (stretch levels k v) r → Contains rows r
      × AllUnder k v r
  pub whole : (r : Handler) → Contains rows r → Contains left r
      ⊎ ((q : ℕ) → q < count → is_under r q ≡ true → Waits levels q r)
  pub from : (r : Handler) → Contains left r → Contains rows r
  pub sorted : AllDescend levels
  pub deeper : (k v : ℕ) (r s : Handler) → Contains (stretch levels k v) r → Contains left s
      → s.depth ≤ r.depth
  pub rises : Rises left
  pub tall : IsTall count levels

-- a level of so many stretches without rows
pub record BareTo (size : ℕ) (level : Level) : Type 0 where
  pub long : length level ≡ size
  pub none : (v : ℕ) (r : Handler) → Contains (stretch_of level v) r → ⊥

-- the same rows by depth, the deepest last
pub record IsByDepth (rows sorted : List Handler) : Type 0 where
  pub rises : Rises sorted
  pub into : (r : Handler) → Contains rows r → Contains sorted r
  pub from : (r : Handler) → Contains sorted r → Contains rows r
