-- What the laws of operations say.
use Rattle.std.specs.Prelude.{◌≡◌, ℕ, List, [], ◌∷◌, Option, Some, None, slice_get}
use Rattle.pt_base.specs.declared.numbers.ObjId.{ObjId}
use Rattle.pt_heap.specs.declared.value.Value.{Value}
use Rattle.pt_heap.specs.declared.object.Object.{Object}
use Rattle.pt_heap.specs.declared.object.Object.TheVariants as object
use Rattle.pt_heap.specs.Sound.{IsClassAt, IsWithin}
use Rattle.pt_builtin_objects.specs.Start.{start_objects}
use Rattle.pt_content.specs.declared.answer.PrimAns.{PrimAns}
use Rattle.pt_content.specs.declared.answer.PrimAns.TheVariants as answer
use Rattle.pt_content.specs.Classes.{name_at}

-- the name of the class at a place as a run starts
abbrev pub start_name : ObjId → List ℕ
start_name id = name_at start_objects id

-- what becomes of an object: a list, dictionary, set or cursor stays one, another object stays as it is
abbrev pub Remains : (old new : Object) → Type 0
Remains (object.List vs) o = (ws : List Value) × (o ≡ object.List ws)
Remains (object.Dict es) o = (fs : _) × (o ≡ object.Dict fs)
Remains (object.Set es) o = (fs : _) × (o ≡ object.Set fs)
Remains (object.Cursor c) o = (d : _) × (o ≡ object.Cursor d)
Remains o p = p ≡ o

-- each object that is there keeps its place
abbrev pub Stay : (old new : List Object) → Type 0
Stay h h' = (i : ℕ) (o : Object) → slice_get h i ≡ Some o → (p : Object) × (slice_get h' i ≡ Some p) × Remains o p

-- what values name lies in a heap
abbrev pub AllWithin : List Object → List Value → Type 0
AllWithin h [] = Unit {0}
AllWithin h (v ∷ vs) = IsWithin h v × AllWithin h vs

abbrev pub IsWithinIf : List Object → Option Value → Type 0
IsWithinIf h None = Unit {0}
IsWithinIf h (Some v) = IsWithin h v

-- what an answer names lies in the heap, and the class of its exception is one from the start
abbrev pub AnswerIsWithin : List Object → PrimAns → Type 0
AnswerIsWithin h (answer.Value v) = IsWithin h v
AnswerIsWithin h (answer.Values vs) = AllWithin h vs
AnswerIsWithin h (answer.Raise class v) = IsClassAt start_objects class.0 × IsWithinIf h v
AnswerIsWithin h (answer.Help helper vs inverted) = AllWithin h vs
AnswerIsWithin h a = Unit {0}
