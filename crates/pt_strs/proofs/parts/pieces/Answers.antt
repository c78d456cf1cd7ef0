use Rattle.std.proofs.Common.{◌∙◌, ◌++◌, ◌∷◌, [], map, ap, sym, append_assoc}
use Rattle.std.specs.Str.{chars}
use Rattle.pt_strs.specs.Cut.{pieces}
use Rattle.pt_strs.proofs.AnswerLemmas.{refused-so, taken, all-fit}
use Rattle.pt_strs.proofs.PieceLemmas.{cut-shorter, pieces-more, pieces-last}
use Rattle.pt_strs.proofs.parts.pieces.Goals as goal

pub loop-front-smaller : goal.loop-front-smaller
loop-front-smaller c = cut-shorter (chars c.args.sep.now) c.requires _ _ _ c.in-Some.ensures

pub returns-in_err-piece : goal.returns-in_err-piece
returns-in_err-piece c =
    let inv = c.loop-front.invariant in
    let done = map chars c.loop-front.pieces in
    let more = pieces-more (chars c.args.sep.now) c.requires _ _ _ c.in-Some.ensures inv.0 inv.1 in
    refused-so c.from_residual.result _ c.from_residual.ensures done _ _ _ (ap (λ l. done ++ l) (sym more.is) ∙ inv.2) c.in_err-piece.ensures

pub loop-front-preserved : goal.loop-front-preserved
loop-front-preserved c =
    let inv = c.loop-front.invariant in
    let done = map chars c.loop-front.pieces in
    let front = chars c.in-Some.front.now in
    let more = pieces-more (chars c.args.sep.now) c.requires _ _ _ c.in-Some.ensures inv.0 inv.1 in
    let rest = pieces more.less (chars c.args.sep.now) c.before-in-loop-front.new.self in
    let one = taken c.loop-front.pieces front _ _ c.in_ok-piece.ensures c.in_ok-push.ensures.ok in
    (more.less, more.fits, ap (λ l. l ++ rest) one.same ∙ append_assoc done (front ∷ []) rest ∙ ap (λ l. done ++ l) (sym more.is) ∙ inv.2, one.fits inv.3)

pub returns-in_err-last : goal.returns-in_err-last
returns-in_err-last c =
    let inv = c.loop-front.invariant in
    let done = map chars c.loop-front.pieces in
    let last = pieces-last (chars c.args.sep.now) _ c.in_default.ensures.0 inv.0 in
    let all = ap (λ l. done ++ l ∷ []) (c.as_str.ensures ∙ c.in_default.ensures.1) ∙ ap (λ l. done ++ l) (sym last) ∙ inv.2 in
    refused-so c.from_residual-in_err-last.result _ c.from_residual-in_err-last.ensures done _ _ _ all c.in_err-last.ensures

pub returns : goal.returns
returns c =
    let inv = c.loop-front.invariant in
    let done = map chars c.loop-front.pieces in
    let last = pieces-last (chars c.args.sep.now) _ c.in_default.ensures.0 inv.0 in
    let all = ap (λ l. done ++ l ∷ []) (c.as_str.ensures ∙ c.in_default.ensures.1) ∙ ap (λ l. done ++ l) (sym last) ∙ inv.2 in
    let one = taken c.loop-front.pieces _ _ _ c.in_ok-last.ensures c.in_ok-push-2.ensures.ok in
    all-fit c.push-2.new.self _ (one.same ∙ all) (one.fits inv.3)
