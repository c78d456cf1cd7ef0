-- What stands below a mark stays where objects are put behind those that are there.
use Rattle.std.proofs.Common.{◌≡◌, ◌∙◌, ◌≤◌, ◌+◌, ℕ, true, List, ◌++◌, length, take, ap, arith}
use Rattle.std.proofs.lemmas.List.{length-append, take-append-le}
use Rattle.pt_heap.specs.declared.object.Object.{Object}
use Rattle.pt_heap.specs.declared.value.Value.{Value}
use Rattle.pt_content.specs.declared.op.Op.{Op}
use Rattle.pt_prims.specs.Operations.{prim_heap}
use Rattle.law_additions.specs.Additions.{only_adds, Grows}
use Rattle.law_additions.proofs.Additions.{operations-add}

stays : (m : ℕ) (h k : List Object) → Grows h k → m ≤ length h → (take m k ≡ take m h) × (m ≤ length k)
stays m h k g below =
    let long : length k ≡ length h + length g.0 = ap length g.1 ∙ length-append h g.0 in
    (ap (take m) g.1 ∙ take-append-le m h g.0 below, omega (arith, long, below))

pub prim-below : (o : Op) (vs : List Value) (h : List Object) (m : ℕ) → only_adds o ≡ true → m ≤ length h → take m (prim_heap o vs h) ≡ take m h
prim-below o vs h m adds below = (stays m h (prim_heap o vs h) (operations-add o vs h adds) below).0

pub prim-long : (o : Op) (vs : List Value) (h : List Object) (m : ℕ) → only_adds o ≡ true → m ≤ length h → m ≤ length (prim_heap o vs h)
prim-long o vs h m adds below = (stays m h (prim_heap o vs h) (operations-add o vs h adds) below).1

pub ruleset kept = (prim-below, prim-long, take-append-le, length-append)
