-- The host of runs over the objects of a heap.
use Rattle.std.specs.Prelude.{◌==◌, Bool, true, false, not, List, ◌∷◌, Option, Some, None}
use Rattle.std.specs.Prelude.{slice_get}
use Rattle.pt_base.specs.declared.what.What.TheVariants.{Feature}
use Rattle.sem_control.specs.control.Turn as T
use Rattle.sem_control.specs.control.Turn.{Role}
use Rattle.pt_heap.specs.declared.value.Value.{Value}
use Rattle.pt_heap.specs.declared.value.Value.TheVariants as value
use Rattle.pt_heap.specs.declared.object.Object.{Object}
use Rattle.pt_heap.specs.declared.object.Object.TheVariants as object
use Rattle.sem_run.specs.run.Host.{Host, Callee, leave}
use Rattle.pt_host.specs.declared.places.TheConstants.{DISABLE, MISSING}
use Rattle.pt_host.specs.World.{Names, World, Program, names_left}
use Rattle.pt_host.specs.Errors.{makes, arises, enters}
use Rattle.pt_host.specs.Answers.{answers}
use Rattle.pt_host.specs.Leaving.{is_stop, leaving}
use Rattle.pt_host.specs.LogLines.{log_line}

abbrev pub unless_null : Value → Option Value
unless_null value.None = None
unless_null v = Some v

abbrev pub is_disable : Value → Bool
is_disable (value.Obj id) = id.0 == DISABLE.0
is_disable v = false

-- a class of a script is no builtin, and a function that is written in Python is one
abbrev pub is_builtin_object : Option Object → Bool
is_builtin_object (Some (object.Builtin b)) = true
is_builtin_object (Some (object.Class c)) = not c.scripted
is_builtin_object (Some (object.Function f)) = f.hidden
is_builtin_object o = false

abbrev pub is_builtin : Value → World → Bool
is_builtin (value.Obj id) w = is_builtin_object (slice_get w.heap id.0)
is_builtin v w = false

-- an argument that is spread is a tuple by then
abbrev pub first_item : Option Object → (otherwise : Value) → Value
first_item (Some (object.Tuple (v ∷ vs))) u = v
first_item o u = u

abbrev pub first_spread : Value → (otherwise : Value) → World → Value
first_spread (value.Obj id) u w = first_item (slice_get w.heap id.0) u
first_spread v u w = u

abbrev pub first_argument : List Role → List Value → World → Value
first_argument (T.positional ∷ rs) (v ∷ vs) w = v
first_argument (T.spread ∷ rs) (v ∷ vs) w = first_spread v (first_argument rs vs w) w
first_argument (r ∷ rs) (v ∷ vs) w = first_argument rs vs w
first_argument rs vs w = value.Obj MISSING

abbrev pub callee : Value → List Role → List Value → World → Callee Value
callee f rs vs w = record { first = first_argument rs vs w; is_builtin = is_builtin f w }

-- hooks are called by the calls of sys, which aren't there yet
abbrev pub heap_host : Program → Host Names Value World
heap_host program = record {
  first_line = λ b. (program.facts b).first_line;
  null = value.None;
  answers = answers program;
  hears = λ k f e h st. leave Feature;
  unless_null = unless_null;
  is_disable = is_disable;
  is_stop = is_stop;
  callee = callee;
  makes = makes;
  arises = arises;
  enters = enters;
  leaving = leaving;
  names_left = names_left;
  log_line = log_line program;
}
