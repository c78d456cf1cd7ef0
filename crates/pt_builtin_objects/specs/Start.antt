-- The objects that a run starts with, in the order of their places (Library Reference, "Built-in Types", "Exception hierarchy",
-- "Built-in Functions", `types`, `sys`, `sys.monitoring`, "__main__"; names and order by the table of `src/lib`).
use Rattle.std.specs.Prelude.{ℕ, List, [], map, false, None}
use Rattle.pt_heap.specs.declared.object.Object.{Object}
use Rattle.pt_heap.specs.declared.object.Object.TheVariants.{Str, Builtin, Class as ClassOf, Instance, Module as ModuleOf}
use Rattle.pt_builtin_objects.specs.declared.Kind.{Kind}
use Rattle.pt_builtin_objects.specs.declared.Kind.TheVariants.{Class, Function, Mark, Module, Text}
use Rattle.pt_builtin_objects.specs.declared.TheConstants.{START}

-- a class with no name of its own yet, a function, a bare object, a module, or the text of a name
abbrev pub object_of : List ℕ → Kind → Object
object_of name (Class base) = ClassOf (record { name = name; base = base; scripted = false; names = [] })
object_of name (Function number) = Builtin (record { number = number; receiver = None })
object_of name Mark = Instance (record { class = record { 0 = 0 }; names = [] })
object_of name (Module m) = ModuleOf m
object_of name Text = Str name

abbrev pub objects_of : List (List ℕ × Kind) → List Object
objects_of rs = map (λ r. object_of r.0 r.1) rs

abbrev pub start_rows : List (List ℕ × Kind)
start_rows = map (λ r. (r.0.now, r.1)) START

abbrev pub start_objects : List Object
start_objects = objects_of start_rows
