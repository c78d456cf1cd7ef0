-- The first of some texts, and those behind it.
use Rattle.std.proofs.Common.{◌≡◌, ◌∙◌, ◌-◌, ◌≤◌, List, [], ◌∷◌, ◌++◌, ℕ, length, take, drop, get_or, sym, ap, arith}
use Rattle.std.proofs.Math.Seq.{take-length}
use Rattle.pt_heap.specs.declared.value.Value.{Value}
use Rattle.pt_heap.specs.declared.value.Value.TheVariants as value
use Rattle.pt_heap.specs.declared.object.Object.{Object}
use Rattle.pt_content.specs.Operands.{text_of}
use Rattle.pt_special_methods.specs.Containers.{in_turn, text_pieces, with_between}

pub first-text : (h : List Object) (before next : List ℕ) (vs : List Value) → 1 ≤ length vs
    → with_between h before next vs ≡ text_pieces (text_of h (get_or vs 0 value.None)) ++ in_turn h before next (take (length vs - 1) (drop 1 vs))
first-text h before next [] l = absurd (omega (arith, l))
first-text h before next (v ∷ vs) l =
    let less : length (v ∷ vs) - 1 ≡ length vs = omega arith in
    ap (λ ws. text_pieces (text_of h v) ++ in_turn h before next ws) (sym (ap (λ n. take n vs) less ∙ take-length vs))
