-- Attributes of values, and how they are set and deleted (Language Reference 6.3.1, 7.2, 7.5).
use Rattle.std.specs.Prelude.{Bool, ◌&&◌, ◌||◌, true, false, ℕ, List, [], Option, Some, None, codes, if◌then◌else◌}
use Rattle.std.specs.Str.{bytes_eq}
use Rattle.pt_base.specs.declared.what.What.TheVariants.{Feature}
use Rattle.pt_tree.specs.Syntax.{Name}
use Rattle.pt_heap.specs.declared.value.Value.{Value}
use Rattle.pt_heap.specs.declared.object.Method.{Method as MethodObject}
use Rattle.pt_heap.specs.declared.object.Object.{Object}
use Rattle.pt_heap.specs.declared.object.Object.TheVariants as object
use Rattle.pt_content.specs.pt_attrs.Look.{object_of}
use Rattle.pt_content.specs.pt_attrs.Store.{assigned, unassigned}
use Rattle.pt_content.specs.declared.method_name.MethodName.{MethodName}
use Rattle.pt_content.specs.Classes.{class_name}
use Rattle.pt_prims.specs.pt_methods.declared.attribute.Attribute.{Attribute}
use Rattle.pt_prims.specs.pt_methods.declared.attribute.Attribute.TheVariants.{Method, Held, Bound, NameOf, Arguments, Missing, Unbuilt}
use Rattle.pt_prims.specs.pt_methods.Attributes.{attribute_of, receiver_of}
use Rattle.pt_prims.specs.pt_methods.Names.{method_number}
use Rattle.sem_run.specs.run.Host.{Here, answer, leave}
use Rattle.pt_host.specs.declared.places.TheConstants.{ATTRIBUTE_ERROR, TYPE_ERROR}
use Rattle.pt_host.specs.World.{Stores, Program, allot, with_objects}
use Rattle.pt_host.specs.Trees.{Tree, answer_with}
use Rattle.pt_host.specs.Variables.{is_left_out}
use Rattle.pt_host.specs.Texts.{missing_text}
use Rattle.pt_host.specs.Errors.{raise_saying}

-- a method of a builtin value is bound to it, and is a new object each time (3.2.8.2)
abbrev pub method_object : MethodName → (receiver : Value) → Object
method_object m v = object.Builtin (record { number = method_number m; receiver = Some v })

-- so is a function of a script's class, as a method of an instance
abbrev pub bound_object : (function receiver : Value) → Object
bound_object f v = object.Method (record { function = f; receiver = v })

-- the method that a value is, if it is one
abbrev pub bound_in : Option Object → Option MethodObject
bound_in (Some (object.Method m)) = Some m
bound_in o = None

abbrev pub bound_of : List Object → Value → Option MethodObject
bound_of h v = bound_in (object_of h v)

-- the name of a class, and that of a function's block (3.2.8.1, 3.2.10)
abbrev pub name_of : Program → Option Object → Name
name_of p (Some (object.Class c)) = c.name
name_of p (Some (object.Function f)) = (p.facts (record { hidden = f.hidden; number = f.block.0 })).name
name_of p o = []

abbrev pub arguments_in : Option Object → List Value
arguments_in (Some (object.Error x)) = x.args
arguments_in o = []

abbrev pub raise_missing : {A : Type 0} → Name → Value → Here Value → Stores → Tree A
raise_missing x v h st = raise_saying ATTRIBUTE_ERROR (missing_text (class_name st.world.heap v) x) h st

module _ (program : Program) where
  abbrev pub by_attribute : Name → Value → Attribute → Here Value → Stores → Tree Value
  by_attribute x v (Method m) h st = answer_with (allot (method_object m v) st.world.heap) st
  by_attribute x v (Held w) h st = answer w st
  by_attribute x v (Bound f) h st =
      answer_with (allot (bound_object f (receiver_of st.world.heap v)) st.world.heap) st
  by_attribute x v NameOf h st =
      answer_with (allot (object.Str (name_of program (object_of st.world.heap v))) st.world.heap) st
  by_attribute x v Arguments h st =
      answer_with (allot (object.Tuple (arguments_in (object_of st.world.heap v))) st.world.heap) st
  by_attribute x v Missing h st = raise_missing x v h st
  by_attribute x v Unbuilt h st = leave Feature

  abbrev pub attribute : Name → Value → Here Value → Stores → Tree Value
  attribute x v h st = by_attribute x v (attribute_of st.world.heap v x) h st

-- names that mean something by themselves on what holds names: those between double underscores but those of special methods, and the arguments of
-- an exception. That a script gives one, or takes it away, isn't there yet
abbrev pub is_error : Option Object → Bool
is_error (Some (object.Error x)) = true
is_error o = false

abbrev pub is_fixed : Option Object → Name → Bool
is_fixed o x =
    is_left_out x || is_error o && bytes_eq x (codes "args")

abbrev pub by_changed : (fixed : Bool) → Name → Value → Option (List Object) → Here Value → Stores →
    Tree (Unit {0})
by_changed fixed x a (Some k) h st = if fixed then leave Feature else answer tt (with_objects k st)
by_changed fixed x a None h st = raise_missing x a h st

-- `a.x = v` and `del a.x`: classes of a script and their instances hold names
abbrev pub set_attribute : Name → (to value : Value) → Here Value → Stores → Tree (Unit {0})
set_attribute x a v h st =
    by_changed (is_fixed (object_of st.world.heap a) x) x a (assigned st.world.heap a x v) h st

abbrev pub delete_attribute : Name → (from : Value) → Here Value → Stores → Tree (Unit {0})
delete_attribute x a h st =
    by_changed (is_fixed (object_of st.world.heap a) x) x a (unassigned st.world.heap a x) h st

-- the same by a text (Library Reference, `setattr`)
abbrev pub set_named : Option (List ℕ) → (to value : Value) → Here Value → Stores → Tree (Unit {0})
set_named (Some x) a v h st = set_attribute x a v h st
set_named None a v h st = raise_saying TYPE_ERROR (codes "bad argument") h st
