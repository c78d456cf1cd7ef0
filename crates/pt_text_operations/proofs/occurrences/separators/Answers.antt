use Rattle.std.proofs.Common.{◌-◌, arith}
use Rattle.std.specs.Str.{chars}
use Rattle.pt_strs.proofs.PieceLemmas.{cut-shorter}
use Rattle.pt_text_operations.proofs.CountLemmas.{less-left, one-piece}
use Rattle.pt_text_operations.proofs.occurrences.separators.Goals as goal

pub overflow_sub-left : goal.overflow_sub-left
overflow_sub-left c =
    let less = less-left (chars c.args.part.now) c.requires c.loop-front.scan (chars c.in-Some._front.now) c.before-in-loop-front.new.self c.in-Some.ensures c.loop-front.left c.loop-front.invariant.enough in
    omega (arith, less)

pub loop-front-smaller : goal.loop-front-smaller
loop-front-smaller c = cut-shorter (chars c.args.part.now) c.requires _ _ _ c.in-Some.ensures

pub loop-front-preserved : goal.loop-front-preserved
loop-front-preserved c =
    let left = c.loop-front.left in
    let rest = c.before-in-loop-front.new.self in
    let part = chars c.args.part.now in
    let front = chars c.in-Some._front.now in
    let less = less-left part c.requires c.loop-front.scan front rest c.in-Some.ensures left c.loop-front.invariant.enough in
    let one = one-piece part c.loop-front.scan front rest left (left - 1) c.in-Some.ensures (omega (arith, less)) in
    record {
      within = omega (arith, c.loop-front.invariant.within);
      enough = omega (arith, less);
      whole = omega (arith, c.loop-front.invariant.whole, one, less);
    }
