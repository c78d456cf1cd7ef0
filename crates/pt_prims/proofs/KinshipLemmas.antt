-- Whether a class is of one in a tuple, by how many tuples may still stand inside one another.
use Rattle.std.proofs.Common.{◌≡◌, ◌-◌, ◌<◌, ℕ, zero, suc, List, refl, ap, arith}
use Rattle.pt_heap.specs.declared.value.Value.{Value}
use Rattle.pt_heap.specs.declared.object.Object.{Object}
use Rattle.pt_prims.specs.Classes.{kinship_of, kinship_of_any, tuple_kinship}
use Rattle.pt_prims.specs.declared.classes.Kinship.TheVariants.{Deep}

pub deep : (h : List Object) (class : Value) (vs : List Value) → tuple_kinship h 0 class vs ≡ Deep
unfolding tuple_kinship
deep h class vs = refl

pub one-less : (h : List Object) (depth : ℕ) (class : Value) (vs : List Value) → 0 < depth
    → tuple_kinship h depth class vs ≡ kinship_of_any (kinship_of (tuple_kinship h (depth - 1) class) h class) vs
unfolding tuple_kinship
one-less h zero class vs l = absurd (omega (arith, l))
one-less h (suc depth) class vs l =
    let less : depth ≡ suc depth - 1 = omega arith in
    ap (λ d. kinship_of_any (kinship_of (tuple_kinship h d class) h class) vs) less
