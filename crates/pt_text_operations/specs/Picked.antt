-- The items that a slice picks, and the range that a slice of a range is (Language Reference 6.3.3; Library Reference, "Common Sequence
-- Operations", "Ranges", `slice.indices`).
use Rattle.std.specs.Prelude.{ℕ, zero, suc, ◌-◌, ℤ, pos, negsuc, ◌+ℤ◌, ◌-ℤ◌, ◌*ℤ◌, List, [], ◌∷◌, Option, Some, None, length, take, drop, reverse, if◌then◌else◌}
use Rattle.pt_base.specs.declared.what.What.TheVariants.{Integer}
use Rattle.pt_heap.specs.declared.value.Value.{Value}
use Rattle.pt_heap.specs.declared.object.Range.{Range}
use Rattle.pt_ints.specs.Answer.{is_in_range}
use Rattle.pt_strs.specs.Slice.{behind, bound, place}
use Rattle.pt_content.specs.declared.content.Content.{Content}
use Rattle.pt_content.specs.declared.content.Content.TheVariants as content
use Rattle.pt_content.specs.declared.content.NewObject.TheVariants as new
use Rattle.pt_sequences.specs.Ranges.{range_length}
use Rattle.pt_text_operations.specs.declared.bounds.Bounds.{Bounds}
use Rattle.pt_text_operations.specs.declared.place.Stride.{Stride}
use Rattle.pt_text_operations.specs.declared.place.Stride.TheVariants.{Forward, Back}

-- a step of k passes k - 1 items over; one below 0 goes back
abbrev pub stride_of : Option ℤ → Stride
stride_of None = Forward 0
stride_of (Some (pos k)) = Forward (k - 1)
stride_of (Some (negsuc k)) = Back k

-- each item behind so many that are passed over
abbrev pub every : (between pass : ℕ) → List Value → List Value
every between pass [] = []
every between zero (v ∷ vs) = v ∷ every between between vs
every between (suc pass) (v ∷ vs) = every between pass vs

-- the items from one place to another
abbrev pub middle : (from to : ℕ) → List Value → List Value
middle from to vs = drop from (take to vs)

-- from the first on, or from the last back
abbrev pub strided : Stride → Bounds → List Value → List Value
strided (Forward k) b vs = every k 0 (middle (bound (place (length vs)) 0 b.start) (bound (place (length vs)) (length vs) b.stop) vs)
strided (Back k) b vs = every k 0 (reverse (middle (bound (behind (length vs)) 0 b.stop) (bound (behind (length vs)) (length vs) b.start) vs))

abbrev pub picked : Bounds → List Value → List Value
picked b vs = strided (stride_of b.step) b vs

-- an integer, if it is one of 128 bits
abbrev pub exact : ℤ → Option ℤ
exact z = if is_in_range z then Some z else None

-- the integer at a place of a range, or that would stand there behind its last
abbrev pub standing : Range → (place : ℕ) → Option ℤ
standing r p = exact (r.start +ℤ (pos p *ℤ r.step))

-- the one before a place, or that would stand there before its first
abbrev pub standing_before : Range → (place : ℕ) → Option ℤ
standing_before r zero = exact (r.start -ℤ r.step)
standing_before r (suc p) = standing r p

-- a step of so many steps of a range
abbrev pub step_by : Option ℤ → Range → Option ℤ
step_by None r = Some r.step
step_by (Some z) r = exact (z *ℤ r.step)

abbrev pub exact_range : (start stop step : Option ℤ) → Content
exact_range (Some a) (Some b) (Some s) = content.New (new.Range (record { start = a; stop = b; step = s }))
exact_range a b s = content.Outside Integer

-- from one place of a range to another; on the way back each is one before the place behind it
abbrev pub range_strided : Stride → Bounds → (count : ℕ) → Range → Content
range_strided (Forward k) b n r = exact_range (standing r (bound (place n) 0 b.start)) (standing r (bound (place n) n b.stop)) (step_by b.step r)
range_strided (Back k) b n r = exact_range (standing_before r (bound (behind n) n b.start)) (standing_before r (bound (behind n) 0 b.stop)) (step_by b.step r)

-- a range of the integers that a slice picks, if its bounds and its step are integers of 128 bits
abbrev pub picked_range : Bounds → Range → Content
picked_range b r = range_strided (stride_of b.step) b (range_length r) r
