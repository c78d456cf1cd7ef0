-- How the regions of a script stand in one another.
use Rattle.std.specs.Prelude.{ℕ, zero, suc, Bool, true, false, ◌&&◌, ◌==◌, List, [], ◌∷◌, length, slice_get, Option, Some, None, if◌then◌else◌}
use Rattle.std.specs.List.{list_any}
use Rattle.pt_scopes.specs.declared.region.Kind.{Kind}
use Rattle.pt_scopes.specs.declared.region.Kind.TheVariants as kind
use Rattle.pt_scopes.specs.declared.region.Region.{Region}

abbrev pub around_in : (around : ℕ) → Kind → Option ℕ
around_in a kind.Module = None
around_in a kind.Function = Some a
around_in a kind.Class = Some a
around_in a kind.Comprehension = Some a

-- the region in which one stands; the module stands in none
abbrev pub outside : Option Region → Option ℕ
outside None = None
outside (Some here) = around_in here.around here.kind

abbrev pub further : (around : Option ℕ) → (onwards : ℕ → List ℕ) → List ℕ
further None onwards = []
further (Some a) onwards = onwards a

-- the regions from one on outwards that are left before another one is reached
abbrev pub before : (steps : ℕ) → List Region → (end region : ℕ) → List ℕ
before zero rs e r = []
before (suc n) rs e r = if r == e then [] else r ∷ further (outside (slice_get rs r)) (λ q. before n rs e q)

abbrev pub left_behind : List Region → (end region : ℕ) → List ℕ
left_behind rs e r = before (length rs) rs e r

abbrev pub is_among : List ℕ → (region : ℕ) → Bool
is_among rs r = list_any (λ q. q == r) rs

abbrev pub is_comprehension : Kind → Bool
is_comprehension kind.Module = false
is_comprehension kind.Function = false
is_comprehension kind.Class = false
is_comprehension kind.Comprehension = true

-- the region in which a comprehension stands
abbrev pub outside_comprehension : Option Region → Option ℕ
outside_comprehension None = None
outside_comprehension (Some here) = if is_comprehension here.kind then Some here.around else None

abbrev pub deeper : (around : Option ℕ) → (onwards : ℕ → ℕ) → ℕ
deeper None onwards = 0
deeper (Some a) onwards = suc (onwards a)

-- how many comprehensions of its block a region stands in, itself among them
abbrev pub depth : (steps : ℕ) → List Region → (region : ℕ) → ℕ
depth zero rs r = 0
depth (suc n) rs r = deeper (outside_comprehension (slice_get rs r)) (λ q. depth n rs q)

abbrev pub depth_of : List Region → (region : ℕ) → ℕ
depth_of rs r = depth (length rs) rs r

abbrev pub is_number : Option ℕ → ℕ → Bool
is_number None n = false
is_number (Some m) n = m == n

-- The region of a block whose first Next has a number, where so many regions start before. The numbers of Nexts come by region.
abbrev pub numbered_behind : (before : ℕ) → List Region → (nexts : List (Option ℕ)) → (block next : ℕ) → Option ℕ
numbered_behind k (r ∷ rs) (m ∷ ms) h n = if (r.home == h) && is_number m n then Some k else numbered_behind (suc k) rs ms h n
numbered_behind k rs ms h n = None

abbrev pub numbered : List Region → (nexts : List (Option ℕ)) → (block next : ℕ) → Option ℕ
numbered rs ms h n = numbered_behind 0 rs ms h n

abbrev pub class_or : (region around : ℕ) → Kind → (onwards : ℕ → Option ℕ) → Option ℕ
class_or r a kind.Module onwards = None
class_or r a kind.Function onwards = onwards a
class_or r a kind.Class onwards = Some r
class_or r a kind.Comprehension onwards = onwards a

abbrev pub class_at : (region : ℕ) → Option Region → (onwards : ℕ → Option ℕ) → Option ℕ
class_at r None onwards = None
class_at r (Some here) onwards = class_or r here.around here.kind onwards

-- the innermost class body in which a region stands, or which it is
abbrev pub class_around : (steps : ℕ) → List Region → (region : ℕ) → Option ℕ
class_around zero rs r = None
class_around (suc n) rs r = class_at r (slice_get rs r) (λ q. class_around n rs q)

abbrev pub class_of : List Region → (region : ℕ) → Option ℕ
class_of rs r = class_around (length rs) rs r
