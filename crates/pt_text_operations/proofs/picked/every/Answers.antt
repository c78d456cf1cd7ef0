use Rattle.std.proofs.Common.{◌∙◌, ◌+◌, ◌-◌, ◌++◌, ap, arith, drop}
use Rattle.pt_text_operations.specs.Picked.{every}
use Rattle.pt_text_operations.proofs.PickLemmas.{passes-next, picks-next}
use Rattle.pt_text_operations.proofs.picked.every.Goals as goal
use Rattle.pt_text_operations.proofs.picked.every.Goals.{then-pass-eq0+in_ok-push, else-pass-eq0}

pub loop-item-preserved : goal.loop-item-preserved
loop-item-preserved c =
    let b = c.args.between in
    let vs = c.args.items.now in
    let i = c.loop-item.item-index in
    let rest = drop (i + 1) vs in
    let picked = c.loop-item.picked in
    let pass = c.loop-item.pass in
    elim c.if-pass-eq0.branch [
      | then-pass-eq0+in_ok-push w ↦
          ap (λ n. c.if-pass-eq0.picked ++ every b n rest) w.pass-is
          ∙ picks-next b pass picked (every b 0 vs) vs i c.loop-item-test.true c.loop-item.invariant c.if-pass-eq0.picked (omega (arith, w.if-pass-eq0.true)) (w.picked-is ∙ w.in_ok-push.ensures.ok)
      | else-pass-eq0 w ↦
          ap (λ l. l ++ every b c.if-pass-eq0.pass rest) w.picked-is ∙ ap (λ n. picked ++ every b n rest) w.pass-is
          ∙ passes-next b pass picked (every b 0 vs) vs i c.loop-item-test.true c.loop-item.invariant (pass - 1) (omega (arith, w.if-pass-eq0.false))
    ]
