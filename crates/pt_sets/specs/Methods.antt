-- Methods of sets (Library Reference, "Set Types").
use Rattle.std.specs.Prelude.{ℕ, List, [], ◌∷◌, Option, Some, None, is_some, if◌then◌else◌}
use Rattle.pt_base.specs.declared.numbers.ObjId.{ObjId}
use Rattle.pt_base.specs.declared.what.What.TheVariants as what
use Rattle.pt_heap.specs.declared.value.Value.{Value}
use Rattle.pt_heap.specs.declared.value.Value.TheVariants as value
use Rattle.pt_heap.specs.declared.object.Object.{Object}
use Rattle.pt_heap.specs.Entries.{Entry, found, without}
use Rattle.pt_content.specs.declared.content.Content.{Content}
use Rattle.pt_content.specs.declared.content.Content.TheVariants as content
use Rattle.pt_content.specs.declared.content.Mutable.TheVariants as mutable
use Rattle.pt_content.specs.declared.content.NewObject.TheVariants as new
use Rattle.pt_content.specs.declared.method_name.MethodName.{MethodName}
use Rattle.pt_content.specs.declared.method_name.MethodName.TheVariants as method
use Rattle.pt_mappings.specs.declared.keyed.Keyed.{Keyed}
use Rattle.pt_mappings.specs.declared.keyed.Keyed.TheVariants as keyed
use Rattle.pt_mappings.specs.Keyed.{changed, missing, nothing}
use Rattle.pt_sets.specs.Members.{add_content, sought}

-- an item is taken out, if it is there
abbrev pub taken : ObjId → List Entry → List ℕ → (otherwise : Content) → Content
taken id es k c = if is_some (found k es) then changed id (mutable.Set (without k es)) nothing else c

abbrev pub taken_by : ObjId → List Entry → (otherwise : Content) → Option Keyed → Content
taken_by id es c None = c
taken_by id es c (Some (keyed.Refused d)) = d
taken_by id es c (Some (keyed.Key k)) = taken id es k c

-- a row for each method; of other numbers of arguments there is none
abbrev pub set_method_content : MethodName → List Object → ObjId → List Entry → List Value → Content
set_method_content method.Add h id es (v ∷ []) = add_content h id es v
set_method_content method.Discard h id es (v ∷ []) = taken_by id es (content.Value value.None) (sought h v)
set_method_content method.Remove h id es (v ∷ []) = taken_by id es (missing v) (sought h v)
set_method_content method.Clear h id es [] = changed id (mutable.Set []) nothing
set_method_content method.Copy h id es [] = content.New (new.Set es)
set_method_content m h id es vs = content.Outside what.Feature
