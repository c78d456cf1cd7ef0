use Rattle.std.proofs.Common.{rules, ◌∙◌, ap, to_z, of_z}
use Rattle.std.specs.Prelude.{◌*ℤ◌, FitsSigned}
use Rattle.std.specs.Int.{w128}
use Rattle.std.proofs.lemmas.Int.{to_z-of_z}
use Rattle.pt_text_operations.specs.Picked.{exact}
use Rattle.pt_text_operations.proofs.ExactLemmas.{exact-some}
use Rattle.pt_text_operations.proofs.ranges.product.Goals as goal

pub returns : goal.returns
returns c =
    let a = c.args.a in
    let b = c.args.b in
    let f : FitsSigned w128 a = search rules in
    let g : FitsSigned w128 b = search rules in
    let back = to_z w128 (of_z w128 b) in
    exact-some (to_z w128 (of_z w128 a) *ℤ back) c.checked_mul.result c.checked_mul.ensures ∙ ap (λ x. exact (x *ℤ back)) (to_z-of_z w128 a f) ∙ ap (λ x. exact (a *ℤ x)) (to_z-of_z w128 b g)
