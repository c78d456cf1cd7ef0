-- Values in the order of their keys, of which those with equal keys keep their order, also where it is turned round (Library Reference, `sorted`;
-- "Sorting Techniques").
use Rattle.std.specs.Prelude.{Bool, true, false, List, [], ◌∷◌, Option, Some, None, map, if◌then◌else◌}
use Rattle.pt_base.specs.declared.operators.CompareOp.TheVariants.{Less}
use Rattle.pt_base.specs.declared.what.What.TheVariants as what
use Rattle.pt_heap.specs.declared.value.Value.{Value}
use Rattle.pt_heap.specs.declared.object.Object.{Object}
use Rattle.pt_content.specs.declared.content.Content.{Content}
use Rattle.pt_content.specs.declared.content.Content.TheVariants as content
use Rattle.pt_content.specs.TypeErrors.{order_type_error}
use Rattle.pt_comparisons.specs.pt_sequences.Displays.{list_content}
use Rattle.pt_sorting.specs.declared.keys.Kind.{Kind}
use Rattle.pt_sorting.specs.declared.keys.Kind.TheVariants as kind
use Rattle.pt_sorting.specs.Keys.{common_kind, items_of, key_before, kind_of, rows_alike}

abbrev pub row_fault : (alike : Bool) → Option Content
row_fault true = None
row_fault false = Some (content.Outside what.Sort)

-- what is wrong with a key behind another: a number beside a text is a TypeError, of the classes of both
abbrev pub fault_by : List Object → (before v : Value) → Kind → Kind → Option Content
fault_by h w v kind.Number kind.Number = None
fault_by h w v kind.Text kind.Text = None
fault_by h w v kind.Number kind.Text = Some (order_type_error Less h v w)
fault_by h w v kind.Text kind.Number = Some (order_type_error Less h v w)
fault_by h w v kind.Row kind.Row = row_fault (rows_alike h (items_of h w) (items_of h v))
fault_by h w v k l = Some (content.Outside what.Sort)

abbrev pub fault_of : List Object → (before v : Value) → Option Content
fault_of h w v = fault_by h w v (kind_of h w) (kind_of h v)

abbrev pub unless_fault : Option Content → (behind : Option Content) → Option Content
unless_fault (Some c) o = Some c
unless_fault None o = o

-- of the first key that isn't like the one before it
abbrev pub fault_behind : List Object → (before : Value) → List Value → Option Content
fault_behind h w [] = None
fault_behind h w (v ∷ vs) = unless_fault (fault_of h w v) (fault_behind h v vs)

abbrev pub no_key : Kind → Option Content
no_key kind.Other = Some (content.Outside what.Sort)
no_key k = None

abbrev pub first_fault : List Object → (keys : List Value) → Option Content
first_fault h [] = None
first_fault h (v ∷ vs) = unless_fault (no_key (kind_of h v)) (fault_behind h v vs)

-- keys with what they are of
abbrev pub keyed : (keys : List Value) → List Value → List (Value × Value)
keyed (k ∷ ks) (v ∷ vs) = (k, v) ∷ keyed ks vs
keyed ks vs = []

module _ (h : List Object) (common : Kind) (falling : Bool) where
  -- in rising order, or in falling one
  abbrev pub stands_before : (key other : Value) → Bool
  stands_before k l = if falling then key_before common h l k else key_before common h k l

  -- behind all but those that it stands before
  abbrev pub put : (Value × Value) → List (Value × Value) → List (Value × Value)
  put p [] = p ∷ []
  put p (q ∷ qs) = if stands_before p.0 q.0 then p ∷ (q ∷ qs) else q ∷ put p qs

  abbrev pub sorted_behind : (sorted : List (Value × Value)) → List (Value × Value) → List (Value × Value)
  sorted_behind qs [] = qs
  sorted_behind qs (p ∷ ps) = sorted_behind (put p qs) ps

  abbrev pub sorted : List (Value × Value) → List Value
  sorted ps = map (λ p. p.1) (sorted_behind [] ps)

abbrev pub unless_wrong : Option Content → List Value → Content
unless_wrong (Some c) vs = c
unless_wrong None vs = list_content vs

-- a new list
abbrev pub sorted_content : List Object → (falling : Bool) → List Value → (keys : List Value) → Content
sorted_content h falling vs ks = unless_wrong (first_fault h ks) (sorted h (common_kind h ks) falling (keyed ks vs))
