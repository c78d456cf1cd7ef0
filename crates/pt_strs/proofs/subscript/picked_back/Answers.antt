use Rattle.std.proofs.Common.{◌∙◌, ◌+◌, ◌/◌, ◌++◌, Ok, length, reverse, ap, sym, arith}
use Rattle.pt_strs.specs.Slice.{every}
use Rattle.pt_strs.proofs.AnswerLemmas.{within-short, within-long}
use Rattle.pt_strs.proofs.SliceLemmas.{length-picked-back}
use Rattle.pt_strs.proofs.subscript.picked_back.Goals as goal

pub returns-then-picked_len : goal.returns-then-picked_len
returns-then-picked_len c =
    let size = c.picked_len.ensures ∙ ap (λ m. (m + c.args.between) / (c.args.between + 1)) (c.char_count.ensures ∙ ap length c.as_str.ensures) in
    within-long _ (omega (arith, size, length-picked-back c.args.between c.args.scan, c.if-picked_len.true))

pub returns : goal.returns
returns c =
    let size = c.picked_len.ensures ∙ ap (λ m. (m + c.args.between) / (c.args.between + 1)) (c.char_count.ensures ∙ ap length c.as_str.ensures) in
    let made = c.into_text.ensures ∙ c.in_ok-push_every_back.ensures ∙ ap (λ l. l ++ every c.args.between 0 (reverse c.args.scan)) c.new-draft.ensures in
    within-short _ (omega (arith, size, length-picked-back c.args.between c.args.scan, c.if-picked_len.false)) ∙ ap Ok (sym made)
