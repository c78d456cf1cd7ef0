-- Modules and their names (Language Reference 7.11). `sys` is the only module.
use Rattle.std.specs.Prelude.{codes, if◌then◌else◌}
use Rattle.std.specs.Str.{bytes_eq}
use Rattle.pt_tree.specs.Syntax.{Name}
use Rattle.pt_heap.specs.declared.value.Value.{Value}
use Rattle.pt_heap.specs.declared.value.Value.TheVariants as value
use Rattle.pt_prims.specs.pt_methods.declared.attribute.Attribute.{Attribute}
use Rattle.pt_prims.specs.pt_methods.declared.attribute.Attribute.TheVariants.{Missing}
use Rattle.pt_prims.specs.pt_methods.Attributes.{attribute_of}
use Rattle.sem_run.specs.run.Host.{Here, answer}
use Rattle.pt_host.specs.declared.places.TheConstants.{IMPORT_ERROR, MODULE_NOT_FOUND_ERROR, SYS}
use Rattle.pt_host.specs.World.{Stores, Program}
use Rattle.pt_host.specs.Trees.{Tree}
use Rattle.pt_host.specs.Texts.{no_module_text, no_name_text}
use Rattle.pt_host.specs.Errors.{raise_saying}
use Rattle.pt_host.specs.Attributes.{by_attribute}

abbrev pub import_module : Name → Here Value → Stores → Tree Value
import_module x h st =
    if bytes_eq x (codes "sys") then answer (value.Obj SYS) st
    else raise_saying MODULE_NOT_FOUND_ERROR (no_module_text x) h st

module _ (program : Program) where
  -- a name of a module is its attribute of this name
  abbrev pub by_imported : Name → (origin : Value) → Attribute → Here Value → Stores → Tree Value
  by_imported x m Missing h st = raise_saying IMPORT_ERROR (no_name_text x) h st
  by_imported x m a h st = by_attribute program x m a h st

  abbrev pub import_name : Name → (origin : Value) → Here Value → Stores → Tree Value
  import_name x m h st = by_imported x m (attribute_of st.world.heap m x) h st
