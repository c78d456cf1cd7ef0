use Rattle.std.proofs.Common.{◌≡◌, ◌++◌, map, take}
use Rattle.pt_heap.specs.declared.object.Object.TheVariants.{Str}
use Rattle.pt_builtin_objects.specs.Start.{start_objects}
use Rattle.pt_helper_objects.specs.Objects.{helper_objects}
use Rattle.pt_code_loader.specs.Starting.{stands_in}
use Rattle.pt_code_loader.proofs.starting.heap_of.Given as goal

abbrev pub invariant-loop-text : goal.invariant-loop-text
invariant-loop-text l = l.heap ≡ (start_objects ++ helper_objects (stands_in l.facts)) ++ map Str (take l.text-index l.texts)
