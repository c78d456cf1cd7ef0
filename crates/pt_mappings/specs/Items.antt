-- Subscripts of dictionaries, and whether a key is there (Language Reference 6.2.4, 6.3.2, 6.10.2, 7.2, 7.5; Library Reference, "Mapping
-- Types").
use Rattle.std.specs.Prelude.{List, Option, Some, None, Result, Ok, Err, is_some, if◌then◌else◌}
use Rattle.pt_base.specs.declared.numbers.ObjId.{ObjId}
use Rattle.pt_heap.specs.declared.value.Value.{Value}
use Rattle.pt_heap.specs.declared.object.Object.{Object}
use Rattle.pt_heap.specs.Entries.{Entry, found, without}
use Rattle.pt_content.specs.declared.answer.PrimAns.{PrimAns}
use Rattle.pt_content.specs.declared.content.Content.{Content}
use Rattle.pt_content.specs.declared.content.Mutable.TheVariants as mutable
use Rattle.pt_mappings.specs.declared.keyed.Keyed.{Keyed}
use Rattle.pt_mappings.specs.declared.keyed.Keyed.TheVariants as keyed
use Rattle.pt_mappings.specs.Keyed.{changed, contains_by, key_in, missing, nothing, or_missing}
use Rattle.pt_mappings.specs.Entering.{entered}

abbrev pub item_by : List Entry → (key : Value) → Keyed → Content
item_by es v (keyed.Refused c) = c
item_by es v (keyed.Key k) = or_missing v (found k es)

-- `a[b]`
abbrev pub item_content : List Object → List Entry → (key : Value) → Content
item_content h es v = item_by es v (key_in h v)

-- a dictionary holds these entries from now on
abbrev pub held : ObjId → PrimAns → Result (List Entry) Content → Content
held id a (Ok es) = changed id (mutable.Dict es) a
held id a (Err c) = c

-- `a[b] = c`, and an entry of a comprehension
abbrev pub set_item_content : List Object → ObjId → List Entry → (key value : Value) → Content
set_item_content h id es v w = held id nothing (entered h v w es)

abbrev pub deleted_by : ObjId → List Entry → (key : Value) → Keyed → Content
deleted_by id es v (keyed.Refused c) = c
deleted_by id es v (keyed.Key k) = if is_some (found k es) then changed id (mutable.Dict (without k es)) nothing else missing v

-- `del a[b]`
abbrev pub delete_item_content : List Object → ObjId → List Entry → (key : Value) → Content
delete_item_content h id es v = deleted_by id es v (key_in h v)

-- `a in b`
abbrev pub has_key_content : List Object → List Entry → (key : Value) → Content
has_key_content h es v = contains_by es (key_in h v)
