-- Methods of dictionaries (Library Reference, "Mapping Types").
use Rattle.std.specs.Prelude.{ℕ, false, List, [], ◌∷◌, Option, Some, None, length, nat_eq, if◌then◌else◌}
use Rattle.pt_base.specs.declared.numbers.ObjId.{ObjId}
use Rattle.pt_base.specs.declared.what.What.TheVariants as what
use Rattle.pt_heap.specs.declared.value.Value.{Value}
use Rattle.pt_heap.specs.declared.value.Value.TheVariants as value
use Rattle.pt_heap.specs.declared.object.Object.{Object}
use Rattle.pt_heap.specs.declared.object.Part.{Part}
use Rattle.pt_heap.specs.declared.object.Part.TheVariants as part
use Rattle.pt_heap.specs.Entries.{Entry, found, without}
use Rattle.pt_content.specs.declared.answer.Helper.TheVariants.{UpdateOf}
use Rattle.pt_content.specs.declared.answer.PrimAns.TheVariants as answer
use Rattle.pt_content.specs.declared.content.Content.{Content}
use Rattle.pt_content.specs.declared.content.Content.TheVariants as content
use Rattle.pt_content.specs.declared.content.Mutable.TheVariants as mutable
use Rattle.pt_content.specs.declared.content.NewObject.TheVariants as new
use Rattle.pt_content.specs.declared.method_name.MethodName.{MethodName}
use Rattle.pt_content.specs.declared.method_name.MethodName.TheVariants as method
use Rattle.pt_mappings.specs.declared.keyed.Keyed.{Keyed}
use Rattle.pt_mappings.specs.declared.keyed.Keyed.TheVariants as keyed
use Rattle.pt_mappings.specs.Keyed.{changed, key_in, nothing, or_missing}
use Rattle.pt_mappings.specs.Entering.{with_entry}
use Rattle.pt_mappings.specs.Items.{held}

abbrev pub value_or : (default : Value) → Option Value → Value
value_or d (Some w) = w
value_or d None = d

-- `get`
abbrev pub get_by : List Entry → (default : Value) → Keyed → Content
get_by es d (keyed.Refused c) = c
get_by es d (keyed.Key k) = content.Value (value_or d (found k es))

abbrev pub popped : ObjId → List Entry → List ℕ → (otherwise : Content) → Option Value → Content
popped id es k c (Some w) = changed id (mutable.Dict (without k es)) (answer.Value w)
popped id es k c None = c

abbrev pub pop_by : ObjId → List Entry → (otherwise : Content) → Keyed → Content
pop_by id es c (keyed.Refused d) = d
pop_by id es c (keyed.Key k) = popped id es k c (found k es)

-- `pop`; an empty dictionary has no key, whatever is asked for
abbrev pub pop_content : List Object → ObjId → List Entry → (key : Value) → (default : Option Value) → Content
pop_content h id es v d = if nat_eq (length es) 0 then or_missing v d else pop_by id es (or_missing v d) (key_in h v)

abbrev pub default_by : ObjId → List Entry → (key default : Value) → List ℕ → Option Value → Content
default_by id es v d k (Some w) = content.Value w
default_by id es v d k None = held id (answer.Value d) (with_entry k v d es)

-- `setdefault`
abbrev pub set_default_by : ObjId → List Entry → (key default : Value) → Keyed → Content
set_default_by id es v d (keyed.Refused c) = c
set_default_by id es v d (keyed.Key k) = default_by id es v d k (found k es)

abbrev pub view : Part → (dict : ObjId) → Content
view p id = content.New (new.View (record { part = p; dict = id }))

-- a row for each method; of other numbers of arguments there is none
abbrev pub dict_method_content : MethodName → List Object → ObjId → List Entry → List Value → Content
dict_method_content method.Get h id es (k ∷ []) = get_by es value.None (key_in h k)
dict_method_content method.Get h id es (k ∷ d ∷ []) = get_by es d (key_in h k)
dict_method_content method.Keys h id es [] = view part.Keys id
dict_method_content method.Values h id es [] = view part.Values id
dict_method_content method.Items h id es [] = view part.Items id
dict_method_content method.Pop h id es (k ∷ []) = pop_content h id es k None
dict_method_content method.Pop h id es (k ∷ d ∷ []) = pop_content h id es k (Some d)
dict_method_content method.Setdefault h id es (k ∷ []) = set_default_by id es k value.None (key_in h k)
dict_method_content method.Setdefault h id es (k ∷ d ∷ []) = set_default_by id es k d (key_in h k)
dict_method_content method.Update h id es (other ∷ []) = content.Help UpdateOf false
dict_method_content method.Clear h id es [] = changed id (mutable.Dict []) nothing
dict_method_content method.Copy h id es [] = content.New (new.Dict es)
dict_method_content m h id es vs = content.Outside what.Feature
