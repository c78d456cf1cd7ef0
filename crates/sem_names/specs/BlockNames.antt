-- The names that a block has in code: parameters and other local names, cell names, and free names, each list in an order that is defined.
use Rattle.std.specs.Prelude.{ℕ, Bool, true, false, ◌&&◌, ◌||◌, ◌==◌, List, [], ◌∷◌, ◌++◌, map, filter, bytes_eq, slice_get, Option, Some, None, codes, if◌then◌else◌}
use Rattle.std.specs.List.{list_any}
use Rattle.pt_scopes.specs.declared.region.Kind.{Kind}
use Rattle.pt_scopes.specs.declared.region.Mention.{Mention}
use Rattle.pt_scopes.specs.declared.region.Region.{Region}
use Rattle.pt_scopes.specs.Places.{Places}
use Rattle.pt_scopes.specs.Scope.{home_of, is_class}
use Rattle.pt_tree.specs.declared.expression.NamedParameter.{NamedParameter}
use Rattle.pt_tree.specs.Syntax as S
use Rattle.pt_tree.specs.Syntax.{Name, Params, Formals}
use Rattle.sem_control.specs.control.Turn as T
use Rattle.sem_control.specs.control.Turn.{Variable}
use Rattle.sem_names.specs.Naming.{variable, seen, own, is_free_at}
use Rattle.sem_names.specs.Regions.{class_of, is_among, left_behind}
use Rattle.sem_names.specs.Script.{Naming, spelled_in}

-- a name behind others, if it is none of them
abbrev pub with_name : List Name → Name → List Name
with_name xs x = if list_any (λ y. bytes_eq y x) xs then xs else xs ++ x ∷ []

-- each name once, where it comes first
abbrev pub distinct_behind : List Name → List Name → List Name
distinct_behind ys [] = ys
distinct_behind ys (x ∷ xs) = distinct_behind (with_name ys x) xs

abbrev pub distinct : List Name → List Name
distinct xs = distinct_behind [] xs

abbrev pub formal_names : Formals → List Name
formal_names S.no_formals = []
formal_names (S.formal l x a d r) = x ∷ formal_names r

abbrev pub named : Option NamedParameter → List Name
named None = []
named (Some p) = p.name ∷ []

-- plain parameters, keyword-only ones, `*NAME` and `**NAME`
abbrev pub param_names : Params → List Name
param_names (S.parameters ps s ks d) = formal_names ps ++ formal_names ks ++ named s ++ named d

abbrev pub is_local : T.Scope → Bool
is_local T.local = true
is_local s = false

abbrev pub is_cell : T.Scope → Bool
is_cell T.cell = true
is_cell s = false

abbrev pub names_in : (T.Scope → Bool) → List Variable → List Name
names_in p [] = []
names_in p (v ∷ vs) = if p v.scope then v.name ∷ names_in p vs else names_in p vs

-- what is named at a place of a block: in the block itself, or within a comprehension of it
abbrev pub named_at : Places → (block region : ℕ) → Mention → Variable
named_at g b h m = if m.region == h then own g b m.name else seen g m.region m.name

-- all that is named in a block, in source order
abbrev pub variables_of : Places → (block region : ℕ) → List Variable
variables_of g b h = map (named_at g b h) (filter (λ m. home_of g.regions m.region == h) g.mentions)

abbrev pub read_free : Places → (block : ℕ) → List Name
read_free g h = distinct (map (λ m. m.name) (filter (is_free_at g h) g.mentions))

-- The class for a call of `super` without arguments stands in a cell of the block that makes the class, under a name that no script has. Each
-- function within the body of the class has it free, and so has each block between.

abbrev pub class_name : Name
class_name = codes ".class"

-- a region is a class, or stands in one behind which another one stands
abbrev pub is_up_to : List Region → (region : ℕ) → (class : Option ℕ) → (inner : ℕ) → Bool
is_up_to rs h None r = false
is_up_to rs h (Some q) r = (q == h) || is_among (left_behind rs q r) h

-- a function within the block, or the block itself, is in the body of a class in which the block is too, or which it is
abbrev pub has_class : List Region → (functions : List ℕ) → (block : ℕ) → Bool
has_class rs fs h = list_any (λ f. is_up_to rs h (class_of rs f) f) fs

abbrev pub is_class_of : List Region → (maker : ℕ) → Option Region → Bool
is_class_of rs h None = false
is_class_of rs h (Some here) = is_class here.kind && (home_of rs here.around == h)

-- the block makes a class whose functions may ask for it
abbrev pub makes_class : Places → (functions : List ℕ) → (block : ℕ) → Bool
makes_class g fs h = list_any (λ c. is_class_of g.regions h (slice_get g.regions c) && has_class g.regions fs c) g.blocks

abbrev pub class_if : Bool → List Name
class_if b = if b then class_name ∷ [] else []

-- parameters first, and then names as the block has them first, those of its comprehensions too; a parameter in a cell is among the local names
-- all the same, since it is bound there first
abbrev pub local_names : Naming → Params → (block region : ℕ) → List Name
local_names g ps b h = distinct (map (spelled_in g b) (param_names ps) ++ names_in is_local (variables_of g.places b h))

abbrev pub cell_names : Places → (functions : List ℕ) → (block region : ℕ) → List Name
cell_names g fs b h = distinct (names_in is_cell (variables_of g b h)) ++ class_if (makes_class g fs h)

-- as they come first within the block
abbrev pub free_names : Places → (functions : List ℕ) → (block : ℕ) → List Name
free_names g fs h = read_free g h ++ class_if (has_class g.regions fs h)

-- the variable with the class of a block's functions, for the block that makes it: its own cell for a class, and else the one that it has
abbrev pub class_variable : Kind → Variable
class_variable k = variable (if is_class k then T.cell else T.free) class_name

abbrev pub class_taken : Bool → Kind → List Variable
class_taken b k = if b then class_variable k ∷ [] else []

-- the variables of its maker whose cells a block takes along, in the order of its free names
abbrev pub taken_along : Places → (functions : List ℕ) → (block : ℕ) → Option Region → List Variable
taken_along g fs h None = []
taken_along g fs h (Some here) = map (seen g here.around) (read_free g h) ++ class_taken (has_class g.regions fs h) here.kind

abbrev pub captured_at : Places → (functions : List ℕ) → (region : Option ℕ) → List Variable
captured_at g fs None = []
captured_at g fs (Some h) = taken_along g fs h (slice_get g.regions h)
