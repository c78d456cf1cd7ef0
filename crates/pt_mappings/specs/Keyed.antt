-- Values as keys of dictionaries and sets (Language Reference 3.3.1, `object.__hash__`, 6.2.7; Library Reference, "Mapping Types",
-- `KeyError`), and what an operation changes and answers.
use Rattle.std.specs.Prelude.{ℕ, Bool, List, [], ◌∷◌, Option, Some, None, Result, Ok, Err, codes, is_some}
use Rattle.pt_base.specs.declared.numbers.ObjId.{ObjId}
use Rattle.pt_base.specs.declared.what.What.TheVariants as what
use Rattle.pt_heap.specs.declared.value.Value.{Value}
use Rattle.pt_heap.specs.declared.value.Value.TheVariants as value
use Rattle.pt_heap.specs.declared.object.Object.{Object}
use Rattle.pt_heap.specs.Entries.{Entry, found}
use Rattle.pt_dicts.specs.declared.key.KeyErr.{KeyErr}
use Rattle.pt_dicts.specs.declared.key.KeyErr.TheVariants as refused
use Rattle.pt_dicts.specs.Keys.{coded, depth_limit, key_value}
use Rattle.pt_content.specs.declared.answer.PrimAns.{PrimAns}
use Rattle.pt_content.specs.declared.answer.PrimAns.TheVariants as answer
use Rattle.pt_content.specs.declared.class.TheConstants.{RECURSION_ERROR, TYPE_ERROR}
use Rattle.pt_content.specs.declared.content.Content.{Content}
use Rattle.pt_content.specs.declared.content.Content.TheVariants as content
use Rattle.pt_content.specs.declared.content.Mutable.{Mutable}
use Rattle.pt_content.specs.Changes.{added, replacing}
use Rattle.pt_content.specs.Classes.{name_at}
use Rattle.pt_content.specs.TypeErrors.{sentence}
use Rattle.pt_mappings.specs.declared.keyed.TheConstants.{KEY_ERROR}
use Rattle.pt_mappings.specs.declared.keyed.Keyed.{Keyed}
use Rattle.pt_mappings.specs.declared.keyed.Keyed.TheVariants as keyed

abbrev pub unhashable : List Object → (class : ObjId) → Content
unhashable h c = content.Raise TYPE_ERROR (sentence (codes "unhashable type: '" ∷ name_at h c ∷ codes "'" ∷ []))

-- a value that is no key; a `__hash__` of a script isn't asked
abbrev pub refusal : List Object → KeyErr → Content
refusal h (refused.Unhashable c) = unhashable h c
refusal h (refused.UserHash c) = content.Outside what.Hash
refusal h refused.Deep = content.Raise RECURSION_ERROR (codes "too many activations")
refusal h refused.Memory = content.Outside what.Heap

abbrev pub keyed_by : List Object → Result (List ℕ) KeyErr → Keyed
keyed_by h (Ok k) = keyed.Key k
keyed_by h (Err e) = keyed.Refused (refusal h e)

-- a value as a key
abbrev pub key_in : List Object → Value → Keyed
key_in h v = keyed_by h (coded (key_value h depth_limit v))

abbrev pub nothing : PrimAns
nothing = answer.Value value.None

-- an object holds something else from now on
abbrev pub changed : ObjId → Mutable → PrimAns → Content
changed id m a = content.Changed (replacing id m) a

-- a KeyError has the key as its argument
abbrev pub missing : (key : Value) → Content
missing v = content.Changed (added []) (answer.Raise KEY_ERROR (Some v))

abbrev pub or_missing : (key : Value) → Option Value → Content
or_missing v (Some w) = content.Value w
or_missing v None = missing v

-- whether a key is there
abbrev pub contains_by : List Entry → Keyed → Content
contains_by es (keyed.Refused c) = c
contains_by es (keyed.Key k) = content.Value (value.Bool (is_some (found k es)))
