-- Sets as the entries of their items, with None behind each (Language Reference 6.2.4, 6.2.6, 6.10.2; Library Reference, "Set Types").
use Rattle.std.specs.Prelude.{Bool, true, false, ◌&&◌, List, [], ◌∷◌, Option, Some, None, Result, Ok, Err, length, nat_eq}
use Rattle.pt_base.specs.declared.numbers.ObjId.{ObjId}
use Rattle.pt_heap.specs.declared.value.Value.{Value}
use Rattle.pt_heap.specs.declared.value.Value.TheVariants as value
use Rattle.pt_heap.specs.declared.object.Object.{Object}
use Rattle.pt_heap.specs.declared.object.Object.TheVariants as object
use Rattle.pt_heap.specs.Entries.{Entry}
use Rattle.pt_content.specs.pt_attrs.pt_dicts.Combine.{has}
use Rattle.pt_content.specs.pt_attrs.Look.{object_of}
use Rattle.pt_content.specs.declared.content.Content.{Content}
use Rattle.pt_content.specs.declared.content.Content.TheVariants as content
use Rattle.pt_content.specs.declared.content.Mutable.TheVariants as mutable
use Rattle.pt_content.specs.declared.content.NewObject.TheVariants as new
use Rattle.pt_mappings.specs.declared.keyed.Keyed.{Keyed}
use Rattle.pt_mappings.specs.Keyed.{changed, contains_by, key_in, nothing}
use Rattle.pt_mappings.specs.Entering.{entered}

-- items behind entries that are there
abbrev pub displayed : List Object → Result (List Entry) Content → List Value → Content
displayed h (Err c) vs = c
displayed h (Ok es) (v ∷ vs) = displayed h (entered h v value.None es) vs
displayed h (Ok es) [] = content.New (new.Set es)

-- `{a, b}`
abbrev pub set_content : List Object → List Value → Content
set_content h vs = displayed h (Ok []) vs

-- a set holds these entries from now on
abbrev pub held : ObjId → Result (List Entry) Content → Content
held id (Ok es) = changed id (mutable.Set es) nothing
held id (Err c) = c

-- `add`, and an item of a comprehension
abbrev pub add_content : List Object → ObjId → List Entry → Value → Content
add_content h id es v = held id (entered h v value.None es)

-- an item that is sought; a set is no item of any, and is sought all the same
abbrev pub sought_in : List Object → Value → Option Object → Option Keyed
sought_in h v (Some (object.Set es)) = None
sought_in h v o = Some (key_in h v)

abbrev pub sought : List Object → Value → Option Keyed
sought h v = sought_in h v (object_of h v)

abbrev pub among_by : List Entry → Option Keyed → Content
among_by es None = content.Value (value.Bool false)
among_by es (Some k) = contains_by es k

-- `a in b`
abbrev pub has_item_content : List Object → List Entry → Value → Content
has_item_content h es v = among_by es (sought h v)

abbrev pub all_in : List Entry → List Entry → Bool
all_in [] other = true
all_in (e ∷ es) other = has other e && all_in es other

-- `a == b`
abbrev pub same_items : List Entry → List Entry → Bool
same_items a b = nat_eq (length a) (length b) && all_in a b
