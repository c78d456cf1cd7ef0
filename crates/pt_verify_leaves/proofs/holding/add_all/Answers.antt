use Rattle.std.proofs.Common.{◌≡◌, ◌∙◌, ◌++◌, length, get_or, ap, arith}
use Rattle.pt_sizes.specs.Flow.{entry}
use Rattle.pt_verify_leaves.specs.Onto.{onto, with_number}
use Rattle.pt_verify_leaves.proofs.Parts.{flat_more, flat_all, same_onto}
use Rattle.pt_verify_leaves.proofs.holding.add_all.Goals as goal

pub loop-number-preserved : goal.loop-number-preserved
loop-number-preserved c = λ rows k.
    let t = c.args.target in
    let classes = c.args.classes.now in
    let places = c.args.places.now in
    let members = c.args.members.now in
    let l = c.loop-number in
    let to : c.in_ok-to.to.0 ≡ t = c.in_ok-to.ensures in
    let at : c.in_ok-pc_of.field-0.0 ≡ get_or members l.number 0 = c.in_ok-pc_of.ensures in
    flat_more (λ pc. with_number t (onto rows classes t pc (entry places pc))) members l.number c.args.work.now.items l.work.items c.add.new.pairs.items
    (omega (arith, c.loop-number-test.true)) (l.invariant rows k)
    (c.in_ok-add.ensures ∙ ap (λ o. l.work.items ++ with_number t o) (c.onto.ensures rows k
    ∙ same_onto rows classes places c.in_ok-to.to.0 t c.in_ok-pc_of.field-0.0 (get_or members l.number 0) to at))

pub returns : goal.returns
returns c = λ rows k.
    let t = c.args.target in
    let classes = c.args.classes.now in
    let places = c.args.places.now in
    let e : c.loop-number.number ≡ length c.args.members.now = omega (arith, c.loop-number-test.false, c.loop-number.auto.number-end) in
    flat_all (λ pc. with_number t (onto rows classes t pc (entry places pc))) c.args.members.now c.loop-number.number c.args.work.now.items c.loop-number.work.items e
    (c.loop-number.invariant rows k)
