-- What is unpacked around a list lies in the heap that holds the list.
use Rattle.std.proofs.Common.{◌+◌, ◌-◌, ◌≤◌, ◌<◌, ℕ, Bool, true, false, List, [], ◌∷◌, ◌++◌, length, take, drop, refl, if◌then◌else◌, codes, arith}
use Rattle.std.specs.Prelude.{nat_lt}
use Rattle.std.proofs.lemmas.List.{length-append}
use Rattle.pt_heap.specs.declared.value.Value.{Value}
use Rattle.pt_heap.specs.declared.object.Object.{Object}
use Rattle.pt_heap.specs.declared.object.Object.TheVariants as object
use Rattle.pt_content.specs.declared.class.TheConstants.{VALUE_ERROR}
use Rattle.pt_content.specs.declared.content.Content.TheVariants as content
use Rattle.pt_content.specs.Changes.{next_object}
use Rattle.pt_methods.specs.pt_sequences.Starred.{around_list, parted_behind, starred_items}
use Rattle.pt_prims.specs.Laws.{AllWithin}
use Rattle.pt_prims.proofs.Places.{all-append, all-grow, values-below}
use Rattle.pt_prims.proofs.SoundLemmas.{IsWithinHeap}
use Rattle.pt_prims.proofs.ValueLists.{all-dropped, all-taken}

module _ (h : List Object) where
  around-within : (first between last : List Value) → AllWithin h first → AllWithin h between → AllWithin h last
      → IsWithinHeap h (around_list h first between last)
  around-within first between last u v w = (
    tt,
    (values-below h between v, tt),
    all-append more first (next_object h ∷ last) (all-grow h more first longer u) (is_last, all-grow h more last longer w),
  )
    where
      more : List Object
      more = h ++ object.List between ∷ []

      longer : length h ≤ length more
      longer = omega (arith, length-append h (object.List between ∷ []))

      is_last : length h < length more
      is_last = omega (arith, length-append h (object.List between ∷ []))

  parted-within : (m : ℕ) (first behind : List Value) → AllWithin h first → AllWithin h behind → IsWithinHeap h (parted_behind h m first behind)
  parted-within m first behind u w =
      around-within first (take (length behind - m) behind) (drop (length behind - m) behind) u
      (all-taken h (length behind - m) behind w) (all-dropped h (length behind - m) behind w)

  pub starred-items-within : (n m : ℕ) (vs : List Value) → AllWithin h vs → IsWithinHeap h (starred_items h n m vs)
  starred-items-within n m vs w = by (nat_lt (length vs) (n + m))
    where
      by : (b : Bool) → IsWithinHeap h (if b then content.Raise VALUE_ERROR (codes "not enough values to unpack") else parted_behind h m (take n vs) (drop n vs))
      by true = (_, refl)
      by false = parted-within m (take n vs) (drop n vs) (all-taken h n vs w) (all-dropped h n vs w)
