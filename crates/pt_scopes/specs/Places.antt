-- The places of a script at which regions start and names are mentioned. Those of a part depend on where it stands and on how
-- many regions start before it, on nothing else.
use Rattle.std.specs.Prelude.{ℕ, ◌+◌, true, false, List, [], ◌∷◌, ◌++◌, length}
use Rattle.pt_scopes.specs.declared.region.Context.{Context}
use Rattle.pt_scopes.specs.declared.region.Kind.{Kind}
use Rattle.pt_scopes.specs.declared.region.Kind.TheVariants.{Module, Function, Class, Comprehension}
use Rattle.pt_scopes.specs.declared.region.Mention.{Mention}
use Rattle.pt_scopes.specs.declared.region.Region.{Region}
use Rattle.pt_scopes.specs.declared.region.Role.{Role}
use Rattle.pt_scopes.specs.declared.region.Role.TheVariants.{Misplaced}
use Rattle.pt_tree.specs.Syntax.{Name}

-- regions in the order of their numbers, the region of each block, and the mentions in source order
pub record Places : Type 0 where
  pub regions : List Region
  pub blocks : List ℕ
  pub mentions : List Mention

abbrev pub joined : Places → Places → Places
joined p q = record { regions = p.regions ++ q.regions; blocks = p.blocks ++ q.blocks; mentions = p.mentions ++ q.mentions }

-- the places of a part of a script, by how many regions start before it
abbrev pub Part : Type 0
Part = (before : ℕ) → Places

-- one part, and another behind it
infixr 30 ◌⨾◌
unfoldable pub ◌⨾◌ : Part → Part → Part
◌⨾◌ f g n = joined (f n) (g (n + length (f n).regions))

unfoldable pub nothing : Part
nothing n = record { regions = []; blocks = []; mentions = [] }

unfoldable pub mention : Role → Context → Name → (line : ℕ) → Part
mention r a x l n = record { regions = []; blocks = []; mentions = record { role = r; region = a.region; name = x; line = record { 0 = l } } ∷ [] }

-- a statement or a `yield` outside its place
abbrev pub misplaced : Context → (line : ℕ) → Part
misplaced a l = mention Misplaced a [] l

-- a region that is a block, or a comprehension of the block around it
unfoldable pub block : Kind → Context → Part
block k a n = record { regions = record { kind = k; around = a.region; home = n } ∷ []; blocks = n ∷ []; mentions = [] }

unfoldable pub comprehension : Context → Part
comprehension a n = record { regions = record { kind = Comprehension; around = a.region; home = a.home } ∷ []; blocks = []; mentions = [] }

abbrev pub function_context : (region : ℕ) → Context
function_context r = record { region = r; home = r; may_give = true; in_loop = false }

-- a generator expression gives items, and has no other `yield`
abbrev pub generator_context : (region : ℕ) → Context
generator_context r = record { region = r; home = r; may_give = false; in_loop = false }

abbrev pub class_context : (region : ℕ) → Context
class_context r = record { region = r; home = r; may_give = false; in_loop = false }

abbrev pub comprehension_context : Context → (region : ℕ) → Context
comprehension_context a r = record { region = r; home = a.home; may_give = false; in_loop = false }

abbrev pub loop_context : Context → Context
loop_context a = record a { in_loop = true }

-- a region and what stands in it; its number is the count of those before it
unfoldable pub in_function : Context → (Context → Part) → Part
in_function a inside n = (block Function a ⨾ inside (function_context n)) n

unfoldable pub in_generator : Context → (Context → Part) → Part
in_generator a inside n = (block Function a ⨾ inside (generator_context n)) n

unfoldable pub in_class : Context → (Context → Part) → Part
in_class a inside n = (block Class a ⨾ inside (class_context n)) n

unfoldable pub in_comprehension : Context → (Context → Part) → Part
in_comprehension a inside n = (comprehension a ⨾ inside (comprehension_context a n)) n

-- the module is region 0
abbrev pub module_context : Context
module_context = record { region = 0; home = 0; may_give = false; in_loop = false }

abbrev pub only_module : Places
only_module = record { regions = record { kind = Module; around = 0; home = 0 } ∷ []; blocks = 0 ∷ []; mentions = [] }
