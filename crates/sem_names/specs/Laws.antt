-- What laws say of variables.
use Rattle.std.specs.Prelude.{◌≡◌, ◌⊎◌, ℕ, List, [], ◌∷◌, slice_get, Option, Some, None}
use Rattle.pt_scopes.specs.declared.region.Kind.{Kind}
use Rattle.pt_scopes.specs.declared.region.Kind.TheVariants as kind
use Rattle.pt_scopes.specs.declared.region.Region.{Region}
use Rattle.pt_scopes.specs.Places.{Places}
use Rattle.sem_control.specs.control.Turn as T
use Rattle.sem_control.specs.control.Turn.{Variable}

-- a variable that is in a cell, the block's own or one that it has from around
abbrev pub HasCell : Variable → Type 0
HasCell v = (v.scope ≡ T.cell) ⊎ (v.scope ≡ T.free)

abbrev pub HaveCells : List Variable → Type 0
HaveCells [] = Unit {0}
HaveCells (v ∷ vs) = HasCell v × HaveCells vs

abbrev pub kind_of : Option Region → Option Kind
kind_of None = None
kind_of (Some here) = Some here.kind

abbrev pub kind_at : List Region → (region : Option ℕ) → Option Kind
kind_at rs None = None
kind_at rs (Some h) = kind_of (slice_get rs h)

-- the block is the body of a class
abbrev pub IsClassBody : Places → (block : ℕ) → Type 0
IsClassBody g b = kind_at g.regions (slice_get g.blocks b) ≡ Some kind.Class
