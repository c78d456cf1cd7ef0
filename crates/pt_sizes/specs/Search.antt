-- What the search for sizes knows while it goes on.
use Rattle.std.specs.Prelude.{◌≡◌, ◌⊎◌, ℕ, ◌+◌, ◌*◌, ◌<◌, ◌≤◌, List, [], ◌∷◌, length, Contains, slice_get, Bool, true, false, Option, Some, None}
use Rattle.pt_ranges.specs.declared.handlers.Handler.{Handler}
use Rattle.pt_sizes.specs.declared.places.Place.{Place}
use Rattle.pt_sizes.specs.declared.places.SizeStep.{SizeStep}
use Rattle.pt_sizes.specs.declared.flow.Asked.{Asked}
use Rattle.pt_sizes.specs.Waiting.{Level, Waits, AllDescend, AreDeepest, levels_size}
use Rattle.pt_sizes.specs.Flow.{Body, entry, left, own_steps, landing, is_under, sized, Gets, TooDeep, Lacks, SizesMeet}

-- a step leads to where its size is known, or no instruction starts, or it is still due
abbrev pub Seen : Body → (table : List (Option ℕ)) → (work : List SizeStep) → SizeStep → Type 0
Seen b table work s = (entry table s.to ≡ Some s.size)
    ⊎ ((entry b.places s.to ≡ None) ⊎ Contains work s)

-- all that a place leads to is seen, and where it fails that is known
pub record Consequences (b : Body) (table : List (Option ℕ)) (work : List SizeStep)
    (deep few : Bool) (q n : ℕ) (place : Place) : Type 0 where
  pub own : (s : SizeStep) → Contains (own_steps place q n) s → Seen b table work s
  pub lands : (row : Handler) → Contains b.rows row → is_under row q ≡ true
      → row.depth ≤ left place n → Seen b table work (landing row)
  pub deeper : (row : Handler) → Contains b.rows row → is_under row q ≡ true
      → left place n < row.depth → deep ≡ true
  pub fewer : n < place.needs → few ≡ true

pub record AnyDeep (b : Body) (limit : ℕ) : Type 0 where
  pub row : Handler
  pub deep : TooDeep b limit row

pub record Open (b : Body) (limit : ℕ) (table : List (Option ℕ)) (work : List SizeStep)
    (waits : ℕ → Handler → Type 0) (deep few : Bool) : Type 0 where
  pub long : length table ≡ length b.places
  pub start : (place : Place) → entry b.places 0 ≡ Some place → Seen b table work (sized 0 b.first)
  pub sound : (q n : ℕ) → entry table q ≡ Some n → Gets b limit q n
  pub stands : (q n : ℕ) → entry table q ≡ Some n → entry b.places q ≡ None → ⊥
  pub due : (s : SizeStep) → Contains work s → (there : Place) → entry b.places s.to ≡ Some there
      → Gets b limit s.to s.size
  pub known : (pc : ℕ) (row : Handler) → waits pc row → Contains b.rows row
      × (is_under row pc ≡ true)
  pub rest : (pc : ℕ) (row : Handler) → pc < length b.places → Contains b.rows row
      → is_under row pc ≡ true → waits pc row ⊎ Seen b table work (landing row)
  pub deep_is : deep ≡ true → AnyDeep b limit
  pub few_is : few ≡ true → Lacks b limit
  pub goes_on : (q n : ℕ) (place : Place) → q < limit → entry table q ≡ Some n
      → entry b.places q ≡ Some place → Consequences b table work deep few q n place

-- what landing the rows adds that wait at a place for so many slots
pub record RowsLanding (waits waits' : ℕ → Handler → Type 0) (q below : ℕ)
    (work work' : List SizeStep) : Type 0 where
  pub kept : (s : SizeStep) → Contains work s → Contains work' s
  pub came : (s : SizeStep) → Contains work' s → Contains work s
      ⊎ ((row : Handler) × (waits q row × ((row.depth ≤ below) × (landing row ≡ s))))
  pub fewer : (pc : ℕ) (row : Handler) → waits' pc row → waits pc row
  pub on : (pc : ℕ) (row : Handler) → waits pc row → waits' pc row ⊎ Contains work' (landing row)
  pub clear : (row : Handler) → waits' q row → row.depth ≤ below → ⊥

-- what a place adds when it is gone on from
pub record Expansion (b : Body) (q n : ℕ) (place : Place) (work work' : List SizeStep)
    (waits waits' : ℕ → Handler → Type 0) (deep deep' few few' : Bool) : Type 0 where
  pub kept : (s : SizeStep) → Contains work s → Contains work' s
  pub came : (s : SizeStep) → Contains work' s → Contains work s
      ⊎ (Contains (own_steps place q n) s
      ⊎ ((row : Handler) × (waits q row × ((row.depth ≤ left place n) × (landing row ≡ s)))))
  pub own : (s : SizeStep) → Contains (own_steps place q n) s → Contains work' s
  pub fewer : (pc : ℕ) (row : Handler) → waits' pc row → waits pc row
  pub on : (pc : ℕ) (row : Handler) → waits pc row → waits' pc row ⊎ Contains work' (landing row)
  pub clear : (row : Handler) → waits' q row → row.depth ≤ left place n → ⊥
  pub deep_kept : deep ≡ true → deep' ≡ true
  pub deep_came : deep' ≡ true → (deep ≡ true)
      ⊎ ((row : Handler) × (Contains b.rows row
      × ((is_under row q ≡ true) × (left place n < row.depth))))
  pub deep_found : (row : Handler) → Contains b.rows row → is_under row q ≡ true
      → left place n < row.depth → deep' ≡ true
  pub few_kept : few ≡ true → few' ≡ true
  pub few_came : few' ≡ true → (few ≡ true) ⊎ (n < place.needs)
  pub few_found : n < place.needs → few' ≡ true

-- a block that is asked
abbrev pub body : Asked → Body
body a = record { places = a.places.items; rows = a.rows.items; first = a.first }

abbrev pub HasDeepest : Asked → Type 0
HasDeepest a = AreDeepest a.rows.items a.deepest.items (length a.deepest.items)

abbrev pub body_of : (places : List (Option Place)) → List Handler → (first : ℕ) → Body
body_of places rows first = record { places = places; rows = rows; first = first }

abbrev pub nones : List (Option ℕ) → ℕ
nones [] = 0
nones (None ∷ xs) = nones xs + 1
nones (Some x ∷ xs) = nones xs

-- how many ways are still due, or may come
abbrev pub weight : (table : List (Option ℕ)) → (work : List SizeStep) → (waiting : ℕ) → ℕ
weight table work waiting = 4 * nones table + (length work + waiting)

pub record OpenNow (b : Body) (limit : ℕ) (table : List (Option ℕ)) (work : List SizeStep)
    (levels : List Level) (deep few : Bool) : Type 0 where
  pub opens : Open b limit table work (Waits levels) deep few
  pub sorted : AllDescend levels

pub record Stepped (b : Body) (limit most : ℕ) (table : List (Option ℕ)) (work : List SizeStep)
    (levels : List Level) (deep few : Bool) : Type 0 where
  pub opens : Open b limit table work (Waits levels) deep few
  pub sorted : AllDescend levels
  pub lighter : weight table work (levels_size levels) ≤ most

-- a step was seen to, or two sizes meet
abbrev pub AfterStep : Bool → (b : Body) (limit most : ℕ) (table : List (Option ℕ))
    (work : List SizeStep) (levels : List Level) (deep few : Bool) → Type 0
AfterStep true b limit most table work levels deep few =
    Stepped b limit most table work levels deep few
AfterStep false b limit most table work levels deep few = SizesMeet b limit

abbrev pub AfterSettle : Bool → (b : Body) (limit : ℕ) (table : List (Option ℕ))
    (levels : List Level) (deep few : Bool) → Type 0
AfterSettle true b limit table levels deep few = OpenNow b limit table [] levels deep few
AfterSettle false b limit table levels deep few = SizesMeet b limit

pub record SearchExpansion (b : Body) (q n : ℕ) (place : Place) (table table' : List (Option ℕ))
    (work work' : List SizeStep) (levels levels' : List Level)
    (deep deep' few few' : Bool) : Type 0 where
  pub went : Expansion b q n place work work' (Waits levels) (Waits levels') deep deep' few few'
  pub same : table' ≡ table
  pub sorted : AllDescend levels'
  pub lighter : length work' + levels_size levels' ≤ length work + levels_size levels + 3

pub record SearchLanding (levels levels' : List Level) (q below : ℕ)
    (work work' : List SizeStep) : Type 0 where
  pub landed : RowsLanding (Waits levels) (Waits levels') q below work work'
  pub sorted : AllDescend levels'
  pub lighter : levels_size levels' + length work' ≤ levels_size levels + length work

-- the first place has its size, if an instruction starts there, and no other place has one
pub record IsFirstTable (places : List (Option Place)) (first : ℕ)
    (table : List (Option ℕ)) : Type 0 where
  pub long : length table ≡ length places
  pub start : (place : Place) → entry places 0 ≡ Some place → entry table 0 ≡ Some first
  pub only : (q n : ℕ) → entry table q ≡ Some n → (q ≡ 0)
      × ((n ≡ first) × ((place : Place) × (entry places 0 ≡ Some place)))

-- a row is to leave more slots than lie below those that the instruction of a place takes
pub record DeepHere (places : List (Option Place)) (table : List (Option ℕ)) (q : ℕ)
    (row : Handler) : Type 0 where
  pub size : ℕ
  pub place : Place
  pub has : entry table q ≡ Some size
  pub stands : entry places q ≡ Some place
  pub deep : left place size < row.depth

pub record DeepBelow (places : List (Option Place)) (table : List (Option ℕ)) (limit : ℕ)
    (row : Handler) : Type 0 where
  pub at : ℕ
  pub low : at < limit
  pub under : is_under row at ≡ true
  pub here : DeepHere places table at row

pub record IsLeastDeep (places : List (Option Place)) (rows : List Handler)
    (table : List (Option ℕ)) (limit number : ℕ) : Type 0 where
  pub row : Handler
  pub is : slice_get rows number ≡ Some row
  pub deep : DeepBelow places table limit row
  pub least : (n : ℕ) (r : Handler) → n < number → slice_get rows n ≡ Some r
      → DeepBelow places table limit r → ⊥
