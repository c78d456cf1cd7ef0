-- A key gets a value (Language Reference 6.2.7; Library Reference, "Mapping Types": a key that is there keeps its place and its first
-- form). A set is the entries of its items, with None behind each.
use Rattle.std.specs.Prelude.{ℕ, Bool, not, ◌||◌, List, [], ◌∷◌, Option, Some, None, Result, Ok, Err, is_some, length, nat_eq, if◌then◌else◌}
use Rattle.pt_base.specs.declared.what.What.TheVariants as what
use Rattle.pt_heap.specs.Limits.{entry_limit}
use Rattle.pt_heap.specs.declared.value.Value.{Value}
use Rattle.pt_heap.specs.declared.object.Object.{Object}
use Rattle.pt_heap.specs.Entries.{Entry, found, put}
use Rattle.pt_content.specs.declared.content.Content.{Content}
use Rattle.pt_content.specs.declared.content.Content.TheVariants as content
use Rattle.pt_content.specs.declared.content.NewObject.TheVariants as new
use Rattle.pt_mappings.specs.declared.keyed.Keyed.{Keyed}
use Rattle.pt_mappings.specs.declared.keyed.Keyed.TheVariants as keyed
use Rattle.pt_mappings.specs.Keyed.{key_in}

-- a key that is there needs no room
abbrev pub has_room : List ℕ → List Entry → Bool
has_room k es = is_some (found k es) || not (nat_eq (length es) entry_limit)

abbrev pub with_entry : List ℕ → (first value : Value) → List Entry → Result (List Entry) Content
with_entry k first v es = if has_room k es then Ok (put k first v es) else Err (content.Outside what.Length)

abbrev pub entered_by : (key value : Value) → List Entry → Keyed → Result (List Entry) Content
entered_by v w es (keyed.Refused c) = Err c
entered_by v w es (keyed.Key k) = with_entry k v w es

-- entries with a value behind a key, or what is answered instead
abbrev pub entered : List Object → (key value : Value) → List Entry → Result (List Entry) Content
entered h v w es = entered_by v w es (key_in h v)

abbrev pub unless_refused : Option Content → List Entry → Result (List Entry) Content
unless_refused None es = Ok es
unless_refused (Some c) es = Err c

-- keys and values in turn, behind entries that are there
abbrev pub displayed : List Object → Result (List Entry) Content → List Value → Content
displayed h (Err c) vs = c
displayed h (Ok es) (v ∷ w ∷ vs) = displayed h (entered h v w es) vs
displayed h (Ok es) vs = content.New (new.Dict es)

-- `{a: b}`
abbrev pub dict_content : List Object → List Value → Content
dict_content h vs = displayed h (Ok []) vs

-- fewer than two values
abbrev pub HasNoPair : List Value → Type 0
HasNoPair [] = Unit {0}
HasNoPair (v ∷ []) = Unit {0}
HasNoPair (v ∷ w ∷ vs) = ⊥
