-- What a list holds from now on (Library Reference, "Mutable Sequence Types").
use Rattle.std.specs.Prelude.{List, length, nat_le, if◌then◌else◌}
use Rattle.pt_base.specs.declared.what.What.TheVariants.{Feature, Length}
use Rattle.pt_heap.specs.Limits.{entry_limit}
use Rattle.pt_heap.specs.declared.value.Value.{Value}
use Rattle.pt_heap.specs.declared.value.Value.TheVariants as value
use Rattle.pt_content.specs.declared.answer.PrimAns.TheVariants as answer
use Rattle.pt_content.specs.declared.content.Content.{Content}
use Rattle.pt_content.specs.declared.content.Content.TheVariants as content
use Rattle.pt_content.specs.declared.content.Mutable.TheVariants as mutable
use Rattle.pt_content.specs.Changes.{replacing}

-- a list with other items, and what is answered; what isn't an object is no list
abbrev pub list_changed : (list : Value) → List Value → (answered : Value) → Content
list_changed (value.Obj id) vs a = content.Changed (replacing id (mutable.List vs)) (answer.Value a)
list_changed v vs a = content.Outside Feature

-- the same with None as the answer, where there aren't too many items
abbrev pub list_grown : (list : Value) → List Value → Content
list_grown v vs = if nat_le (length vs) entry_limit then list_changed v vs value.None else content.Outside Length
