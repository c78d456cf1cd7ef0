-- Which builtin functions and classes are called by operations on values (Library Reference, "Built-in Functions"); numbers and
-- places are those of the objects that a run starts with.
use Rattle.std.specs.Prelude.{ℕ, List, [], ◌∷◌, Option, Some, None, nat_eq, nat_le, ◌-◌, slice_get, if◌then◌else◌}
use Rattle.pt_base.specs.declared.numbers.ObjId.{ObjId}
use Rattle.pt_content.specs.declared.function.Function.{Function}
use Rattle.pt_content.specs.declared.function.Function.TheVariants as function
use Rattle.pt_content.specs.declared.function.TheConstants.{EXIT, FIRST_HIDDEN, FUNCTIONS, HIDDEN_FUNCTIONS}

-- the function of a number; of those of `sys` only `exit` is an operation on values, and behind these stand those that functions written in Python ask
abbrev pub of_function : (number : ℕ) → Option Function
of_function n =
    if nat_eq n EXIT then Some function.Exit
    else if nat_le FIRST_HIDDEN n then slice_get HIDDEN_FUNCTIONS (n - FIRST_HIDDEN)
    else slice_get FUNCTIONS n

-- the first of a list that stands behind a place
abbrev pub at_place : List (ℕ × Function) → ℕ → Option Function
at_place [] place = None
at_place ((p, f) ∷ rows) place = if nat_eq place p then Some f else at_place rows place

abbrev pub class_functions : List (ℕ × Function)
class_functions =
    (0, function.Object) ∷ (1, function.Type) ∷ (2, function.Int) ∷ (3, function.Bool) ∷ (4, function.Str) ∷ (9, function.Range)
    ∷ (21, function.Super) ∷ []

-- what a call of the class at a place does
abbrev pub of_class : ObjId → Option Function
of_class id = at_place class_functions id.0
