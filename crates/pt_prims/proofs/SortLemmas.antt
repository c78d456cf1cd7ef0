-- What is sorted lies in the heap that holds it, and what is wrong with keys names nothing new.
use Rattle.std.proofs.Common.{Bool, true, false, List, [], ◌∷◌, Option, Some, None, map, if◌then◌else◌, refl}
use Rattle.pt_heap.specs.declared.value.Value.{Value}
use Rattle.pt_heap.specs.declared.object.Object.{Object}
use Rattle.pt_heap.specs.Sound.{IsWithin}
use Rattle.pt_content.specs.declared.content.Content.{Content}
use Rattle.pt_sorting.specs.declared.keys.Kind.{Kind}
use Rattle.pt_sorting.specs.declared.keys.Kind.TheVariants as kind
use Rattle.pt_sorting.specs.Keys.{items_of, kind_of, rows_alike}
use Rattle.pt_sorting.specs.Sorting.{fault_behind, fault_by, fault_of, first_fault, keyed, no_key, put, row_fault, sorted, sorted_behind, stands_before, unless_fault}
use Rattle.pt_prims.specs.Laws.{AllWithin}
use Rattle.pt_prims.proofs.SoundLemmas.{IsWithinHeap}

module _ (h : List Object) where
  abbrev pub FaultIsWithin : Option Content → Type 0
  FaultIsWithin (Some c) = IsWithinHeap h c
  FaultIsWithin None = Unit {0}

  row-fault-within : (b : Bool) → FaultIsWithin (row_fault b)
  row-fault-within true = tt
  row-fault-within false = tt

  fault-by-within : (w v : Value) (k l : Kind) → FaultIsWithin (fault_by h w v k l)
  fault-by-within w v kind.Number kind.Number = tt
  fault-by-within w v kind.Text kind.Text = tt
  fault-by-within w v kind.Number kind.Text = (_, refl)
  fault-by-within w v kind.Text kind.Number = (_, refl)
  fault-by-within w v kind.Row kind.Row = row-fault-within (rows_alike h (items_of h w) (items_of h v))
  fault-by-within w v k l = tt

  unless-within : (o p : Option Content) → FaultIsWithin o → FaultIsWithin p → FaultIsWithin (unless_fault o p)
  unless-within (Some c) p a b = a
  unless-within None p a b = b

  behind-within : (w : Value) (ks : List Value) → FaultIsWithin (fault_behind h w ks)
  behind-within w [] = tt
  behind-within w (k ∷ ks) = unless-within (fault_of h w k) (fault_behind h k ks) (fault-by-within w k (kind_of h w) (kind_of h k)) (behind-within k ks)

  no-key-within : (k : Kind) → FaultIsWithin (no_key k)
  no-key-within kind.Other = tt
  no-key-within kind.Number = tt
  no-key-within kind.Text = tt
  no-key-within kind.Row = tt

  pub fault-within : (ks : List Value) → FaultIsWithin (first_fault h ks)
  fault-within [] = tt
  fault-within (k ∷ ks) = unless-within (no_key (kind_of h k)) (fault_behind h k ks) (no-key-within (kind_of h k)) (behind-within k ks)

  -- pairs of a key and what it is of
  abbrev PairsWithin : List (Value × Value) → Type 0
  PairsWithin [] = Unit {0}
  PairsWithin (p ∷ ps) = IsWithin h p.1 × PairsWithin ps

  keyed-within : (ks vs : List Value) → AllWithin h vs → PairsWithin (keyed ks vs)
  keyed-within (k ∷ ks) (v ∷ vs) w = (w.0, keyed-within ks vs w.1)
  keyed-within (k ∷ ks) [] w = tt
  keyed-within [] vs w = tt

  values-within : (ps : List (Value × Value)) → PairsWithin ps → AllWithin h (map (λ p. p.1) ps)
  values-within [] w = tt
  values-within (p ∷ ps) w = (w.0, values-within ps w.1)

  module _ (common : Kind) (falling : Bool) where
    put-within : (p : Value × Value) (qs : List (Value × Value)) → IsWithin h p.1 → PairsWithin qs → PairsWithin (put h common falling p qs)
    put-within p [] i w = (i, tt)
    put-within p (q ∷ qs) i w = by (stands_before h common falling p.0 q.0) (put-within p qs i w.1)
      where
        by : (b : Bool) → PairsWithin (put h common falling p qs) → PairsWithin (if b then p ∷ (q ∷ qs) else q ∷ put h common falling p qs)
        by true behind = (i, w)
        by false behind = (w.0, behind)

    ordered-within : (qs ps : List (Value × Value)) → PairsWithin qs → PairsWithin ps → PairsWithin (sorted_behind h common falling qs ps)
    ordered-within qs [] v w = v
    ordered-within qs (p ∷ ps) v w = ordered-within (put h common falling p qs) ps (put-within p qs w.0 v) w.1

    pub sorted-within : (ks vs : List Value) → AllWithin h vs → AllWithin h (sorted h common falling (keyed ks vs))
    sorted-within ks vs w = values-within (sorted_behind h common falling [] (keyed ks vs)) (ordered-within [] (keyed ks vs) tt (keyed-within ks vs w))
