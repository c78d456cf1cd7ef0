use Rattle.std.proofs.Common.{◌≡◌, ◌∙◌, ◌+◌, ap, length, arith}
use Rattle.std.specs.Str.{chars}
use Rattle.pt_strs.specs.Answer.{counted}
use Rattle.pt_strs.specs.Cut.{all_pieces}
use Rattle.pt_strs.specs.Join.{joined}
use Rattle.pt_strs.proofs.PieceLemmas.{cut-shorter, count-more, count-last}
use Rattle.pt_strs.proofs.replacement.replaced_len.Goals as goal

pub loop-front-smaller : goal.loop-front-smaller
loop-front-smaller c = cut-shorter (chars c.args.old.now) c.requires _ _ _ c.in-Some.ensures

pub loop-front-preserved : goal.loop-front-preserved
loop-front-preserved c =
    let old = chars c.args.old.now in
    let new = chars c.args.new.now in
    let front : c.saturating_add-sum.result ≡ counted (c.loop-front.sum + length (chars c.in-Some.front.now)) = omega (arith, c.saturating_add-sum.ensures, c.char_count.ensures) in
    let both : c.saturating_add-sum-in-Some.result ≡ counted (c.saturating_add-sum.result + length new) = omega (arith, c.saturating_add-sum-in-Some.ensures, c.char_count-size.ensures) in
    count-more old new c.requires _ _ _ c.in-Some.ensures _ _ _ (length (joined new (all_pieces old (chars c.args.text.now)))) c.loop-front.invariant front both

pub returns : goal.returns
returns c =
    let old = chars c.args.old.now in
    let new = chars c.args.new.now in
    let seen = c.as_str.ensures ∙ c.in_default.ensures.1 in
    let last : c.saturating_add.result ≡ counted (c.loop-front.sum + length c.loop-front.scan) = omega (arith, c.saturating_add.ensures, c.char_count-2.ensures, ap length seen) in
    count-last old new _ c.in_default.ensures.0 _ _ (length (joined new (all_pieces old (chars c.args.text.now)))) c.loop-front.invariant last
