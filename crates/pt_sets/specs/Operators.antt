-- `| & - ^` of two sets, also in augmented assignments (Language Reference 6.7, 6.9, 7.2.1; Library Reference, "Set Types").
use Rattle.std.specs.Prelude.{List, Result, Ok, Err}
use Rattle.pt_base.specs.declared.numbers.ObjId.{ObjId}
use Rattle.pt_base.specs.declared.operators.BinOp.{BinOp}
use Rattle.pt_base.specs.declared.what.What.TheVariants as what
use Rattle.pt_heap.specs.declared.dict.DictErr.{DictErr}
use Rattle.pt_heap.specs.declared.value.Value.TheVariants as value
use Rattle.pt_heap.specs.Entries.{Entry}
use Rattle.pt_content.specs.pt_attrs.pt_dicts.Combine.{combined, limited}
use Rattle.pt_content.specs.declared.answer.PrimAns.TheVariants as answer
use Rattle.pt_content.specs.declared.content.Content.{Content}
use Rattle.pt_content.specs.declared.content.Content.TheVariants as content
use Rattle.pt_content.specs.declared.content.Mutable.TheVariants as mutable
use Rattle.pt_content.specs.declared.content.NewObject.TheVariants as new
use Rattle.pt_mappings.specs.Keyed.{changed}

abbrev pub new_set : Result (List Entry) DictErr → Content
new_set (Ok es) = content.New (new.Set es)
new_set (Err e) = content.Outside what.Length

-- the items of the first set in their order, and then those of the second
abbrev pub combined_content : BinOp → List Entry → List Entry → Content
combined_content op a b = new_set (limited (combined op a b))

abbrev pub changed_set : ObjId → Result (List Entry) DictErr → Content
changed_set id (Ok es) = changed id (mutable.Set es) (answer.Value (value.Obj id))
changed_set id (Err e) = content.Outside what.Length

-- the first set changes, and is what the assignment binds
abbrev pub combined_in_place : BinOp → ObjId → List Entry → List Entry → Content
combined_in_place op id a b = changed_set id (limited (combined op a b))
