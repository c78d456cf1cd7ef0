use Rattle.std.proofs.Common.{◌≡◌, ◌∙◌, length, refl, arith}
use Rattle.pt_top_slots.proofs.Classes.{are_tops}
use Rattle.pt_top_slots.proofs.tops.top_slots.Goals as goal

pub returns : goal.returns
returns c = λ joined count t.
    let l = c.loop-place in
    let e : l.place ≡ length c.args.sizes.now = omega (arith, c.loop-place-test.false, c.loop-place.auto.place-end) in
    are_tops c.args.joins.now.nodes.items c.args.sizes.now (record { classes = l.classes; count = l.numbers.count }) l.numbers l.invariant.are refl
    (l.invariant.long ∙ e) (λ pc lt. l.invariant.each pc (omega (arith, lt, e))) joined count t
