use Rattle.std.proofs.Common.{rules, ◌<◌, pos, ◌+ℤ◌, ◌*ℤ◌, sym, subst, arith, to_z, of_z}
use Rattle.std.specs.Prelude.{FitsSigned}
use Rattle.std.specs.Int.{w128}
use Rattle.std.proofs.lemmas.Int.{to_z-of_z}
use Rattle.pt_sequences.specs.Ranges.{range_length}
use Rattle.pt_sequences.proofs.RangeLemmas.{item-fits}
use Rattle.pt_sequences.proofs.range.range_value.Goals as goal

pub returns-in_err-item : goal.returns-in_err-item
returns-in_err-item c =
    let start = c.args.range.start in
    let step = c.args.range.step in
    let place = c.args.place in
    let f : FitsSigned w128 start = search rules in
    let g : FitsSigned w128 c.args.range.stop = search rules in
    let k : FitsSigned w128 step = search rules in
    let l : place < range_length c.args.range = omega (arith, c.if-place-range_length.false, c.range_length.ensures) in
    let inside = item-fits start c.args.range.stop step place f g l in
    let stepped = subst (λ y. FitsSigned w128 (start +ℤ (pos place *ℤ y))) (sym (to_z-of_z w128 step k)) inside in
    absurd (c.in_err-item.ensures (subst (λ x. FitsSigned w128 (x +ℤ (pos place *ℤ to_z w128 (of_z w128 step)))) (sym (to_z-of_z w128 start f)) stepped))
