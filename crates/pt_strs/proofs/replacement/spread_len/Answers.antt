use Rattle.std.proofs.Common.{ap, length, arith}
use Rattle.std.specs.Str.{chars}
use Rattle.pt_strs.specs.Join.{followed}
use Rattle.pt_strs.specs.Replace.{apart}
use Rattle.pt_strs.proofs.JoinLemmas.{length-spread, length-spread-end, spread-least}
use Rattle.pt_strs.proofs.replacement.spread_len.Goals as goal

pub loop-c-init : goal.loop-c-init
loop-c-init c =
    let new = chars c.args.new.now in
    record {
      whole = omega (arith, c.char_count-size.ensures, ap (λ l. length (followed new (apart l))) c.new-scan.ensures, spread-least new (chars c.args.text.now));
      fits = c.char_count-size.type_inv;
    }

pub loop-c-preserved : goal.loop-c-preserved
loop-c-preserved c =
    let new = chars c.args.new.now in
    record {
      whole = omega (arith, c.char_count-size.ensures, c.saturating_add-sum.ensures, c.saturating_add-sum-in-Some.ensures, c.loop-c.invariant.whole, ap (λ l. length (followed new (apart l))) c.in-Some.ensures, length-spread new c.in-Some._c c.next.new.self, spread-least new c.next.new.self);
      fits = c.saturating_add-sum-in-Some.type_inv;
    }

pub returns : goal.returns
returns c =
    let new = chars c.args.new.now in
    omega (arith, c.loop-c.invariant.whole, c.loop-c.invariant.fits, ap (λ l. length (followed new (apart l))) c.in_default.ensures.0, length-spread-end new)
