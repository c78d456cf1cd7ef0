-- Displays of lists and tuples (Language Reference 6.2.5, 6.15), and one behind another or repeated (Library Reference, "Common
-- Sequence Operations").
use Rattle.std.specs.Prelude.{ℕ, zero, suc, ℤ, pos, negsuc, ◌*◌, Bool, List, [], ◌++◌, length, nat_le, if◌then◌else◌}
use Rattle.pt_base.specs.declared.what.What.TheVariants.{Length}
use Rattle.pt_heap.specs.Limits.{entry_limit}
use Rattle.pt_heap.specs.declared.value.Value.{Value}
use Rattle.pt_content.specs.declared.content.Content.{Content}
use Rattle.pt_content.specs.declared.content.Content.TheVariants as content
use Rattle.pt_content.specs.declared.content.NewObject.{NewObject}
use Rattle.pt_content.specs.declared.content.NewObject.TheVariants as new

-- a new container of so many items, if that isn't too many
abbrev pub bounded : (count : ℕ) → NewObject → Content
bounded n o = if nat_le n entry_limit then content.New o else content.Outside Length

abbrev pub list_content : List Value → Content
list_content vs = bounded (length vs) (new.List vs)

abbrev pub tuple_content : List Value → Content
tuple_content vs = bounded (length vs) (new.Tuple vs)

-- so many times, none for a number below 0
abbrev pub times : ℤ → ℕ
times (pos n) = n
times (negsuc n) = 0

abbrev pub repeated : (count : ℕ) → List Value → List Value
repeated zero vs = []
repeated (suc n) vs = vs ++ repeated n vs

-- whether so many containers of so many items are too many
abbrev pub fit : ℤ → List Value → Bool
fit z vs = nat_le (times z * length vs) entry_limit

abbrev pub repeated_list : ℤ → List Value → Content
repeated_list z vs = if fit z vs then content.New (new.List (repeated (times z) vs)) else content.Outside Length

abbrev pub repeated_tuple : ℤ → List Value → Content
repeated_tuple z vs = if fit z vs then content.New (new.Tuple (repeated (times z) vs)) else content.Outside Length
