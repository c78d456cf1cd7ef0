-- Context managers (Language Reference 3.3.9, 8.5): `__enter__` is looked up before `__exit__`, both on the class.
use Rattle.std.specs.Prelude.{List, [], ◌∷◌, codes, Option, Some, None}
use Rattle.pt_heap.specs.declared.value.Value.{Value}
use Rattle.pt_heap.specs.declared.value.Value.TheVariants as value
use Rattle.pt_heap.specs.declared.object.Object.{Object}
use Rattle.pt_content.specs.pt_attrs.declared.look.Found.{Found}
use Rattle.pt_content.specs.pt_attrs.declared.look.Found.TheVariants as found
use Rattle.pt_prims.specs.Calls.{class_of}
use Rattle.pt_prims.specs.pt_special_methods.Instances.{method_of}
use Rattle.pt_host.specs.declared.managers.Manager.{Manager}
use Rattle.pt_host.specs.declared.managers.Manager.TheVariants.{Methods, NoEnter, NoExit, Unavailable}

-- an `__exit__` that is no function isn't called yet
abbrev pub managed_by : (enter exit : Option Found) → Manager
managed_by (Some e) (Some (found.Bound f)) = Methods e f
managed_by (Some e) (Some x) = Unavailable
managed_by (Some e) None = NoExit
managed_by None x = NoEnter

abbrev pub manager_of : List Object → Value → Manager
manager_of h v = managed_by (method_of h v (codes "__enter__")) (method_of h v (codes "__exit__"))

-- what `__exit__` is told of the raise by which a block is left: its class, itself and, in place of a traceback, None
abbrev pub exit_arguments : List Object → (raised : Option Value) → List Value
exit_arguments h (Some e) = class_of h e ∷ e ∷ value.None ∷ []
exit_arguments h None = value.None ∷ value.None ∷ value.None ∷ []
