-- Which variable a name is that is read or bound in a region of a block (Language Reference 4.2.2, 6.2.1, 6.2.4).
use Rattle.std.specs.Prelude.{ℕ, zero, suc, Bool, true, false, ◌&&◌, ◌==◌, List, [], ◌∷◌, bytes_eq, slice_get, Option, Some, None, if◌then◌else◌}
use Rattle.std.specs.List.{list_any}
use Rattle.std.specs.Option.{unwrap_or}
use Rattle.pt_scopes.specs.declared.region.Mention.{Mention}
use Rattle.pt_scopes.specs.declared.region.Region.{Region}
use Rattle.pt_scopes.specs.declared.scope.Scope.{Scope}
use Rattle.pt_scopes.specs.declared.scope.Scope.TheVariants as scope
use Rattle.pt_scopes.specs.Places.{Places}
use Rattle.pt_scopes.specs.Scope.{facts, home_of, is_just, meant, owner_from, scope_of}
use Rattle.pt_tree.specs.Syntax.{Name}
use Rattle.sem_control.specs.control.Turn as T
use Rattle.sem_control.specs.control.Turn.{Variable}
use Rattle.sem_names.specs.Regions.{depth_of, is_among, left_behind, numbered}
use Rattle.sem_names.specs.Script.{Naming}

abbrev pub variable : T.Scope → Name → Variable
variable s x = record { scope = s; name = x }

-- how control calls a scope
abbrev pub as_control : Scope → T.Scope
as_control scope.Local = T.local
as_control scope.Cell = T.cell
as_control scope.Free = T.free
as_control scope.Global = T.global
as_control scope.Class = T.of_class

-- the byte of `.`, which no name of a script has
abbrev pub dot : ℕ
dot = 46

abbrev pub dotted : (depth : ℕ) → Name → Name
dotted zero x = x
dotted (suc d) x = dot ∷ dotted d x

-- a block stands between the region that has a name, if any, and a region in which it is mentioned
abbrev pub is_between : List Region → (block : ℕ) → (owner : Option ℕ) → (region : ℕ) → Bool
is_between rs h None r = false
is_between rs h (Some q) r = is_among (left_behind rs q r) h

-- a name in the block or in a block within it, which a function or comprehension around the block has
abbrev pub is_free_at : Places → (block : ℕ) → Mention → Bool
is_free_at g h m = is_between g.regions h (meant g.regions (facts g.mentions m.name) m.region) m.region

abbrev pub is_block : Places → (region : ℕ) → Bool
is_block g r = is_among g.blocks r

-- a name of a region comes to another one through some block
abbrev pub comes_through : Places → (owner region : ℕ) → Bool
comes_through g q r = list_any (is_block g) (left_behind g.regions q r)

abbrev pub is_captured_by : Places → (owner : ℕ) → Name → Mention → Bool
is_captured_by g q x m = bytes_eq m.name x && is_just (meant g.regions (facts g.mentions m.name) m.region) q && comes_through g q m.region

-- some block has the name free
abbrev pub is_captured : Places → (owner : ℕ) → Name → Bool
is_captured g q x = list_any (is_captured_by g q x) g.mentions

abbrev pub cell_or_local : (captured : Bool) → T.Scope
cell_or_local true = T.cell
cell_or_local false = T.local

-- A name that a function has, or a comprehension in it: in a cell if another block reads it. A comprehension's has a dot before it for each
-- comprehension of the block in which it stands, so that it is no other name of the block.
abbrev pub owned : Places → (owner : ℕ) → Name → Variable
owned g q x = variable (cell_or_local (is_captured g q x)) (dotted (depth_of g.regions q) x)

-- a name of another block is free
abbrev pub of_owner : Places → (block : ℕ) → Name → (owner : Option ℕ) → Variable
of_owner g h x None = variable T.global x
of_owner g h x (Some q) = if home_of g.regions q == h then owned g q x else variable T.free x

-- the variable that a name is from a region on outwards, for the block to which the region belongs; what a class binds is passed by
abbrev pub seen : Places → (region : ℕ) → Name → Variable
seen g r x = of_owner g (home_of g.regions r) x (owner_from g.regions (facts g.mentions x) r)

abbrev pub scope_or_global : Option Scope → T.Scope
scope_or_global None = T.global
scope_or_global (Some s) = as_control s

-- the variable that a name is in a block itself, outside of its comprehensions
abbrev pub own : Places → (block : ℕ) → Name → Variable
own g b x = variable (scope_or_global (scope_of g b x)) x

-- the comprehension of a block that has a number, and else the block
abbrev pub comprehension_in : Naming → (block : Option ℕ) → (next : ℕ) → Option ℕ
comprehension_in g None n = None
comprehension_in g (Some h) n = Some (unwrap_or (numbered g.places.regions g.nexts h n) h)

abbrev pub seen_if : Places → (region : Option ℕ) → Name → Variable
seen_if g None x = variable T.global x
seen_if g (Some r) x = seen g r x

-- what a name is within comprehensions of a block, the innermost first; the innermost tells the others
abbrev pub variable_in : Naming → (block : ℕ) → (within : List ℕ) → Name → Variable
variable_in g b [] x = own g.places b x
variable_in g b (n ∷ ns) x = seen_if g.places (comprehension_in g (slice_get g.places.blocks b) n) x
