use Rattle.std.proofs.Common.{sym, subst}
use Rattle.pt_sizes.specs.Waiting.{levels_of}
use Rattle.sem_fits.specs.fits.Block.{links_of}
use Rattle.pt_single_sizes.specs.Search.{GoesOn}
use Rattle.pt_single_sizes.proofs.Going.{then_on}
use Rattle.pt_single_sizes.proofs.spread.Spread.settle.Goals as goal

pub loop-left-preserved : goal.loop-left-preserved
loop-left-preserved c = let links = links_of c.args.code.now in let s = c.args.self.now in let t = c.loop-left.self in let u = c.step.new.self in
    then_on links c.args.places.now c.args.limit s.table.items s.work.items (levels_of s.waiting.levels) t.table.items u.table.items t.work.items u.work.items
    (levels_of t.waiting.levels) (levels_of u.waiting.levels) c.loop-left.invariant
    (subst (λ w. GoesOn links c.args.places.now c.args.limit t.table.items w (levels_of t.waiting.levels) u.table.items u.work.items (levels_of u.waiting.levels))
    (sym c.in-Some.ensures.items) c.in_ok-step.ensures)
