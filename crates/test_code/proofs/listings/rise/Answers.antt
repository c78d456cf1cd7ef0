use Rattle.std.proofs.Common.{◌<◌, ◌+◌, ◌-◌, ℕ, get_or, map, subst, sym, false}
use Rattle.std.proofs.Math.ListN.{get_or-map}
use Rattle.pt_ranges.specs.declared.lines.ActMark.{ActMark}
use Rattle.test_code.proofs.Rising.{one_more}
use Rattle.test_code.proofs.listings.rise.Goals as goal

pub loop-next-preserved : goal.loop-next-preserved
loop-next-preserved c =
    let none : ActMark = record { pc = record { 0 = 0 }; act = record { 0 = 0 }; line = record { 0 = 0 }; again = false } in
    let place = λ (m : ActMark). m.pc.0 in
    let marks = c.args.marks.now in
    let next = c.loop-next.next in
    let above = subst (λ n. n < place (get_or marks next none)) (sym (get_or-map place marks (next - 1) none)) c.if-marks-next.false in
    λ k. one_more (map place marks) next k c.loop-next.auto.next (subst (λ n. get_or (map place marks) (next - 1) 0 < n) (sym (get_or-map place marks next none)) above) c.loop-next.invariant
