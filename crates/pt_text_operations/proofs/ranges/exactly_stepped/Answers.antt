use Rattle.std.proofs.Common.{rules, ◌∙◌, ap, to_z, of_z}
use Rattle.std.specs.Prelude.{pos, ◌+ℤ◌, ◌*ℤ◌, FitsSigned}
use Rattle.std.specs.Int.{w128}
use Rattle.std.proofs.lemmas.Int.{to_z-of_z}
use Rattle.pt_text_operations.specs.Picked.{exact}
use Rattle.pt_text_operations.proofs.ExactLemmas.{exact-some}
use Rattle.pt_text_operations.proofs.ranges.exactly_stepped.Goals as goal

pub returns : goal.returns
returns c =
    let start = c.args.start in
    let step = c.args.step in
    let n = c.args.count in
    let f : FitsSigned w128 start = search rules in
    let g : FitsSigned w128 step = search rules in
    let back = to_z w128 (of_z w128 step) in
    exact-some (to_z w128 (of_z w128 start) +ℤ (pos n *ℤ back)) c.stepped.result c.stepped.ensures ∙ ap (λ x. exact (x +ℤ (pos n *ℤ back))) (to_z-of_z w128 start f) ∙ ap (λ x. exact (start +ℤ (pos n *ℤ x))) (to_z-of_z w128 step g)
