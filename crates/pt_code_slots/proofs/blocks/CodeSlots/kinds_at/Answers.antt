use Rattle.std.proofs.Common.{◌≡◌, Some, false, length, subst}
use Rattle.std.specs.Prelude.{nat_lt, slice_get}
use Rattle.pt_code_slots.proofs.Making.{lent, some_there, these_tell}
use Rattle.sem_fits.specs.fits.Block.{block_of}
use Rattle.pt_code_slots.proofs.blocks.CodeSlots.kinds_at.Goals as goal

pub kinds_at-requires : goal.kinds_at-requires
kinds_at-requires c = c.requires c.args.block.0 c.in-Some.slots.now
    (subst (λ xs. slice_get xs c.args.block.0 ≡ Some c.in-Some.slots.now) c.deref.ensures.value
    (lent c.deref.result.now c.args.block.0 c.in-Some.slots.now c.in-Some.ensures.lookup.0 c.in-Some.ensures.lookup.1))

pub returns-in-None-clause-kinds : goal.returns-in-None-clause-kinds
returns-in-None-clause-kinds c code b view told is v = absurd (some_there code c.args.self.now told c.args.block.0 b is view v
    (subst (λ xs. false ≡ nat_lt c.args.block.0 (length xs)) c.deref.ensures.value c.in-None.ensures.lookup.0))

pub returns-in-Some-clause-kinds : goal.returns-in-Some-clause-kinds
returns-in-Some-clause-kinds c code b view told is v = c.kinds_at.ensures.kinds (block_of code b view)
    (these_tell code c.args.self.now told c.args.block.0 b is view v c.in-Some.slots.now
    (subst (λ xs. slice_get xs c.args.block.0 ≡ Some c.in-Some.slots.now) c.deref.ensures.value
    (lent c.deref.result.now c.args.block.0 c.in-Some.slots.now c.in-Some.ensures.lookup.0 c.in-Some.ensures.lookup.1)))
