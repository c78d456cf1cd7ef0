-- Which values can't be written or compared without methods of a script: an instance of a script's class, and a container, view
-- or exception from which one is reached (Language Reference 3.1, 3.3.1).
use Rattle.std.specs.Prelude.{ℕ, zero, suc, Bool, true, false, ◌||◌, List, [], ◌∷◌, Option, Some, length}
use Rattle.pt_heap.specs.declared.value.Value.{Value}
use Rattle.pt_heap.specs.declared.object.Object.{Object}
use Rattle.pt_heap.specs.declared.object.Object.TheVariants as object
use Rattle.pt_heap.specs.declared.object.Part.TheVariants.{Keys, Items}
use Rattle.pt_content.specs.pt_attrs.Look.{object_of}
use Rattle.pt_content.specs.declared.operand.Operand.{Operand}
use Rattle.pt_content.specs.declared.operand.Operand.TheVariants.{Instance}
use Rattle.pt_content.specs.Operands.{operand_of}
use Rattle.pt_reprs.specs.Shown.{shown, viewed}

abbrev pub is_instance : Operand → Bool
is_instance Instance = true
is_instance k = false

-- the items of a list, tuple or set, the keys and values of a dictionary, what a view shows, the arguments of an exception
abbrev pub parts_in : List Object → Option Object → List Value
parts_in h (Some (object.List vs)) = vs
parts_in h (Some (object.Tuple vs)) = vs
parts_in h (Some (object.Dict es)) = shown Items es
parts_in h (Some (object.Set es)) = shown Keys es
parts_in h (Some (object.View v)) = shown v.part (viewed h v)
parts_in h (Some (object.Error x)) = x.args
parts_in h o = []

abbrev pub parts_of : List Object → Value → List Value
parts_of h v = parts_in h (object_of h v)

abbrev pub any_of : (Value → Bool) → List Value → Bool
any_of p [] = false
any_of p (v ∷ vs) = p v || any_of p vs

-- an instance is reached in so many steps from a container to a part of it
unfoldable pub reaches : List Object → (steps : ℕ) → Value → Bool
reaches h zero v = is_instance (operand_of h v)
reaches h (suc n) v = is_instance (operand_of h v) || any_of (reaches h n) (parts_of h v)

-- what is reached at all is reached in as many steps as there are objects
abbrev pub needs_help : List Object → Value → Bool
needs_help h v = reaches h (length h) v

abbrev pub need_help : List Object → List Value → Bool
need_help h vs = any_of (needs_help h) vs
