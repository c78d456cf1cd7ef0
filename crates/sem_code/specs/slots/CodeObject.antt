-- What the machine of code knows of the block that it runs (Library Reference, "inspect": code objects).
use Rattle.std.specs.Prelude.{ℕ, List, Bool, Option}
use Rattle.pt_tree.specs.declared.expression.Constant.{Constant}
use Rattle.pt_tree.specs.Syntax.{Name}
use Rattle.pt_code.specs.View.{Ins}
use Rattle.sem_control.specs.control.Turn as T
use Rattle.sem_control.specs.control.Turn.{Scope, Variable, Operation}

-- what the numbers in operands name: constants, texts and lists of texts; the local names; the variables whose cells the block has; and how many
-- cells a block takes along. `name_scope` is how `Name` finds a name: as one of the module, or as one of a class body
pub record Pool : Type 0 where
  pub constant : ℕ → Constant
  pub text : ℕ → Name
  pub texts : ℕ → List Name
  pub local : ℕ → Name
  pub cell : ℕ → Variable
  pub captures : (block : ℕ) → ℕ
  pub name_scope : Scope

-- operations of code that no tree asks for: a tuple of two, a dictionary of two, and an object that looks names up above a class
pub record Extras : Type 0 where
  pub tuple_join : Operation
  pub dict_merge : Operation
  pub super : Operation

-- what stands at each place and how many slots lie there; the values None, True and False, and which values are the latter two
pub record CodeObject (V : Type 0) : Type 0 where
  pub at : (pc : ℕ) → Option Ins
  pub depth_at : (pc : ℕ) → ℕ
  pub pool : Pool
  pub extras : Extras
  pub null : V
  pub truth : Bool → V
  pub is_truth : V → Option Bool

abbrev pub local : Name → Variable
local x = record { scope = T.local; name = x }

abbrev pub global : Name → Variable
global x = record { scope = T.global; name = x }

abbrev pub named : Scope → Name → Variable
named s x = record { scope = s; name = x }
