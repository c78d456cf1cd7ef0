use Rattle.std.proofs.Common.{◌≡◌, ◌∙◌, ◌+◌, ◌≤◌, ℕ, suc, List, [], ◌∷◌, length, refl, ap, arith}
use Rattle.pt_views.specs.declared.items.Item.{Item}
use Rattle.pt_views.specs.Unpacking.{new_of, values_in}
use Rattle.pt_views.proofs.unpacking.starred_in.Goals as goal

same-length : (p : ℕ) (is : List Item) → length (values_in p is) ≡ length is
same-length p [] = refl
same-length p (i ∷ is) = ap suc (same-length (p + length (new_of i)) is)

pub around-requires : goal.around-requires
around-requires c =
    let same : length c.as_slice-2.result.now ≡ length c.args.items.now =
    ap length c.as_slice-2.ensures ∙ ap length c.in_ok-values.ensures ∙ same-length c.len.result c.as_slice.result.now ∙ ap length c.as_slice.ensures in
    omega (arith, same, c.if-there-before.false, c.len-there.ensures)
