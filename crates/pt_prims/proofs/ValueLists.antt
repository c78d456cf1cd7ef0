-- Values of a list that is changed at a place, turned round or taken in part lie in the heap as those of the whole list do.
use Rattle.std.proofs.Common.{ℕ, zero, suc, List, [], ◌∷◌, length, take, drop, reverse, set, sym, subst}
use Rattle.std.specs.List.{remove}
use Rattle.std.proofs.lemmas.List.{reverse-append}
use Rattle.pt_heap.specs.declared.value.Value.{Value}
use Rattle.pt_heap.specs.declared.object.Object.{Object}
use Rattle.pt_heap.specs.Sound.{IsWithin}
use Rattle.pt_strs.specs.Slice.{behind, bound, place}
use Rattle.pt_methods.specs.pt_text_operations.declared.bounds.Bounds.{Bounds}
use Rattle.pt_methods.specs.pt_text_operations.declared.place.Stride.{Stride}
use Rattle.pt_methods.specs.pt_text_operations.declared.place.Stride.TheVariants.{Forward, Back}
use Rattle.pt_methods.specs.pt_text_operations.Picked.{every, middle, picked, stride_of, strided}
use Rattle.pt_prims.specs.Laws.{AllWithin}
use Rattle.pt_prims.proofs.Places.{all-append}

pub all-taken : (h : List Object) (n : ℕ) (vs : List Value) → AllWithin h vs → AllWithin h (take n vs)
all-taken h zero vs w = tt
all-taken h (suc n) [] w = tt
all-taken h (suc n) (v ∷ vs) w = (w.0, all-taken h n vs w.1)

pub all-dropped : (h : List Object) (n : ℕ) (vs : List Value) → AllWithin h vs → AllWithin h (drop n vs)
all-dropped h zero vs w = w
all-dropped h (suc n) [] w = tt
all-dropped h (suc n) (v ∷ vs) w = all-dropped h n vs w.1

pub all-set : (h : List Object) (vs : List Value) (i : ℕ) (x : Value) → AllWithin h vs → IsWithin h x → AllWithin h (set vs i x)
all-set h [] i x w a = tt
all-set h (v ∷ vs) zero x w a = (a, w.1)
all-set h (v ∷ vs) (suc i) x w a = (w.0, all-set h vs i x w.1 a)

pub all-left : (h : List Object) (vs : List Value) (i : ℕ) → AllWithin h vs → AllWithin h (remove vs i)
all-left h vs i w = all-append h (take i vs) (drop (suc i) vs) (all-taken h i vs w) (all-dropped h (suc i) vs w)

pub all-reversed : (h : List Object) (vs : List Value) → AllWithin h vs → AllWithin h (reverse vs)
all-reversed h [] w = tt
all-reversed h (v ∷ vs) w =
    subst (λ l. AllWithin h l) (sym (reverse-append (v ∷ []) vs)) (all-append h (reverse vs) (v ∷ []) (all-reversed h vs w.1) (w.0, tt))

-- what a slice picks
all-every : (h : List Object) (between pass : ℕ) (vs : List Value) → AllWithin h vs → AllWithin h (every between pass vs)
all-every h b p [] w = tt
all-every h b zero (v ∷ vs) w = (w.0, all-every h b b vs w.1)
all-every h b (suc p) (v ∷ vs) w = all-every h b p vs w.1

all-middle : (h : List Object) (from to : ℕ) (vs : List Value) → AllWithin h vs → AllWithin h (middle from to vs)
all-middle h from to vs w = all-dropped h from (take to vs) (all-taken h to vs w)

all-strided : (h : List Object) (t : Stride) (b : Bounds) (vs : List Value) → AllWithin h vs → AllWithin h (strided t b vs)
all-strided h (Forward k) b vs w =
    let from : ℕ = bound (place (length vs)) 0 b.start in
    let to : ℕ = bound (place (length vs)) (length vs) b.stop in
    all-every h k 0 (middle from to vs) (all-middle h from to vs w)
all-strided h (Back k) b vs w =
    let from : ℕ = bound (behind (length vs)) 0 b.stop in
    let to : ℕ = bound (behind (length vs)) (length vs) b.start in
    all-every h k 0 (reverse (middle from to vs)) (all-reversed h (middle from to vs) (all-middle h from to vs w))

pub all-picked : (h : List Object) (b : Bounds) (vs : List Value) → AllWithin h vs → AllWithin h (picked b vs)
all-picked h b vs w = all-strided h (stride_of b.step) b vs w
