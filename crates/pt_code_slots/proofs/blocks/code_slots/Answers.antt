use Rattle.std.proofs.Common.{◌≡◌, ◌<◌, ◌≤◌, get_or, length, subst}
use Rattle.pt_code_slots.proofs.Making.{tables_more, tells_code}
use Rattle.pt_code_slots.proofs.blocks.code_slots.Goals as goal

pub loop-block-preserved : goal.loop-block-preserved
loop-block-preserved c =
    let same = c.as_slice-all.ensures in
    tables_more c.args.code.now c.loop-block.blocks.items c.push.new.self.items c.loop-block.block-index c.block-item.result c.in_ok-slots_of.field-0
    c.loop-block.invariant (subst (λ xs. c.loop-block.block-index < length xs) same c.loop-block-test.true)
    (subst (λ xs. c.block-item.result ≡ get_or xs c.loop-block.block-index c.block-item.result) same c.block-item.is)
    c.in_ok-push.ensures.items c.in_ok-slots_of.ensures.sound c.in_ok-slots_of.ensures.exact

pub returns-clause-exact : goal.returns-clause-exact
returns-clause-exact c fit =
    tells_code c.args.code.now (record { blocks = c.loop-block.blocks }) c.loop-block.block-index c.loop-block.invariant
    (subst (λ xs. length xs ≤ c.loop-block.block-index) c.as_slice-all.ensures c.loop-block-test.false) fit
