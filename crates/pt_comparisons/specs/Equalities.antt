-- Which values are the same, and which are equal (Language Reference 6.10.1, 6.10.3).
use Rattle.std.specs.Prelude.{ℕ, zero, suc, ℤ, Bool, true, false, not, ◌&&◌, ◌||◌, ◌⊎◌, List, [], ◌∷◌, Option, Some, None, length, nat_eq, int_lt, slice_get, if◌then◌else◌}
use Rattle.std.proofs.Common.{inl, inr}
use Rattle.std.specs.Str.{bytes_eq}
use Rattle.pt_base.specs.declared.numbers.ObjId.{ObjId}
use Rattle.pt_heap.specs.declared.value.Value.{Value}
use Rattle.pt_heap.specs.declared.value.Value.TheVariants as value
use Rattle.pt_heap.specs.declared.object.Object.{Object}
use Rattle.pt_heap.specs.declared.object.Object.TheVariants as object
use Rattle.pt_heap.specs.declared.object.Range.{Range}
use Rattle.pt_heap.specs.declared.object.Slice.{Slice}
use Rattle.pt_heap.specs.Entries.{Entry, found}
use Rattle.pt_content.specs.pt_attrs.Look.{object_of}
use Rattle.pt_content.specs.declared.operand.Operand.{Operand}
use Rattle.pt_content.specs.declared.operand.Operand.TheVariants.{Number, Instance}
use Rattle.pt_content.specs.Operands.{operand_of, text_in}
use Rattle.pt_views.specs.pt_sets.Members.{same_items}
use Rattle.pt_views.specs.pt_sequences.Ranges.{range_length}
use Rattle.pt_reprs.specs.Reprs.{depth_limit}
use Rattle.pt_comparisons.specs.declared.equality.Equality.{Equality}
use Rattle.pt_comparisons.specs.declared.equality.Equality.TheVariants.{Told, Deep, Feature}

-- neither is less than the other
abbrev pub same_number : ℤ → ℤ → Bool
same_number a b = if int_lt a b then false else not (int_lt b a)

abbrev pub same_text : Option (List ℕ) → Option (List ℕ) → Bool
same_text (Some s) (Some t) = bytes_eq s t
same_text _ _ = false

-- one object, or two texts with the same characters
abbrev pub same_objects : List Object → ObjId → ObjId → Bool
same_objects h a b = nat_eq a.0 b.0 || same_text (text_in (slice_get h a.0)) (text_in (slice_get h b.0))

-- `is`: None, truth values, integers and texts by class and value, all else by object
abbrev pub is_same : List Object → Value → Value → Bool
is_same h value.None value.None = true
is_same h (value.Bool a) (value.Bool b) = if a then b else not b
is_same h (value.Int a) (value.Int b) = same_number a b
is_same h value.Ellipsis value.Ellipsis = true
is_same h value.NotImplemented value.NotImplemented = true
is_same h (value.Obj a) (value.Obj b) = same_objects h a b
is_same h a b = false

-- ranges of the same integers: the step matters where there are two, the start where there is one
abbrev pub same_range : Range → Range → Bool
same_range r s =
    if nat_eq (range_length r) (range_length s) then nat_eq (range_length r) 0 || (same_number r.start s.start && (nat_eq (range_length r) 1 || same_number r.step s.step))
    else false

-- what stands in two containers of one kind: their items, or the entries of two dictionaries
abbrev pub Insides : Type 0
Insides = (List Value × List Value) ⊎ (List Entry × List Entry)

-- a slice by what bounds it
abbrev pub bounds : Slice → List Value
bounds s = s.start ∷ s.stop ∷ s.step ∷ []

-- lists, tuples, dictionaries, sets and slices by what stands in them, ranges by their integers, all else by object
abbrev pub objects_equality : (Insides → Equality) → List Object → Value → Value → Option Object → Option Object → Equality
objects_equality insides h a b (Some (object.List vs)) (Some (object.List ws)) = insides (inl (vs, ws))
objects_equality insides h a b (Some (object.Tuple vs)) (Some (object.Tuple ws)) = insides (inl (vs, ws))
objects_equality insides h a b (Some (object.Range r)) (Some (object.Range s)) = Told (same_range r s)
objects_equality insides h a b (Some (object.Dict es)) (Some (object.Dict fs)) = insides (inr (es, fs))
objects_equality insides h a b (Some (object.Set es)) (Some (object.Set fs)) = Told (same_items es fs)
objects_equality insides h a b (Some (object.Slice s)) (Some (object.Slice t)) = insides (inl (bounds s, bounds t))
objects_equality insides h a b o p = Told (is_same h a b)

-- numbers by what they stand for; the methods of an instance aren't asked from here
abbrev pub operands_equality : (Insides → Equality) → List Object → Value → Value → Operand → Operand → Equality
operands_equality insides h a b (Number x) (Number y) = Told (same_number x y)
operands_equality insides h a b Instance l = Feature
operands_equality insides h a b k Instance = Feature
operands_equality insides h a b k l = objects_equality insides h a b (object_of h a) (object_of h b)

-- what is the same is equal
abbrev pub item_equality : (Insides → Equality) → List Object → Value → Value → Equality
item_equality insides h a b = if is_same h a b then Told true else operands_equality insides h a b (operand_of h a) (operand_of h b)

abbrev pub and_then : Equality → Equality → Equality
and_then (Told true) e = e
and_then d e = d

-- from left to right, up to the first two that aren't equal
abbrev pub all_equal : (Value → Value → Equality) → List Value → List Value → Equality
all_equal item (v ∷ vs) (w ∷ ws) = and_then (item v w) (all_equal item vs ws)
all_equal item vs ws = Told true

-- a value and the one behind the same key of another dictionary, if that has the key
abbrev pub equal_there : (Value → Value → Equality) → Value → Option Value → Equality
equal_there item v (Some w) = item v w
equal_there item v None = Told false

-- the values of a dictionary, in its order, and those behind the same keys of another
abbrev pub values_equal : (Value → Value → Equality) → List Entry → (other : List Entry) → Equality
values_equal item [] fs = Told true
values_equal item (e ∷ es) fs = and_then (equal_there item e.value (found e.key fs)) (values_equal item es fs)

-- only of as many can each have its like
abbrev pub inside_equality : (Value → Value → Equality) → Insides → Equality
inside_equality item (inl (vs, ws)) = if nat_eq (length vs) (length ws) then all_equal item vs ws else Told false
inside_equality item (inr (es, fs)) = if nat_eq (length es) (length fs) then values_equal item es fs else Told false

-- so many containers may stand inside one another, those of these insides among them
unfoldable pub insides_equality : List Object → (depth : ℕ) → Insides → Equality
insides_equality h zero insides = Deep
insides_equality h (suc depth) insides = inside_equality (item_equality (insides_equality h depth) h) insides

-- of lists of items
abbrev pub items_equality : List Object → (depth : ℕ) → List Value → List Value → Equality
items_equality h depth vs ws = insides_equality h depth (inl (vs, ws))

-- of the entries of dictionaries
abbrev pub entries_equality : List Object → (depth : ℕ) → List Entry → List Entry → Equality
entries_equality h depth es fs = insides_equality h depth (inr (es, fs))

-- whether two values are equal
abbrev pub equality : List Object → Value → Value → Equality
equality h a b = item_equality (insides_equality h depth_limit) h a b

abbrev pub or_else : Equality → Equality → Equality
or_else (Told false) e = e
or_else d e = d

-- whether one of some values is equal, up to the first that is or can't be told
abbrev pub any_equal : List Object → Value → List Value → Equality
any_equal h a [] = Told false
any_equal h a (v ∷ vs) = or_else (equality h v a) (any_equal h a vs)
