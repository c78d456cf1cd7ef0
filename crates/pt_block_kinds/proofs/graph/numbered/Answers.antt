use Rattle.std.proofs.Common.{◌≡◌, ◌∙◌, ◌++◌, ◌∷◌, [], ap, false, arith, get_or}
use Rattle.pt_ranges.specs.declared.handlers.Handler.{Handler}
use Rattle.pt_block_kinds.proofs.Lists.{with_number}
use Rattle.pt_block_kinds.proofs.Adding.{numbered_more}
use Rattle.pt_block_kinds.proofs.graph.numbered.Goals as goal

abbrev none_there : Handler
none_there = record { from = record { 0 = 0 }; to = record { 0 = 0 }; target = record { 0 = 0 }; depth = 0; always = false }

pub loop-at-preserved : goal.loop-at-preserved
loop-at-preserved c =
    let rows = c.args.rows.now in let at = c.loop-at.at in
    let same : c.in-Ok.number ≡ c.loop-at.at = omega (arith, c.in-Ok.ensures) in
    c.in_ok-push.ensures.items ∙ (ap (λ n. c.loop-at.found.items ++ with_number n (get_or rows at none_there) ∷ []) same
    ∙ (ap (λ xs. xs ++ with_number at (get_or rows at none_there) ∷ []) c.loop-at.invariant ∙ numbered_more rows at none_there c.loop-at-test.true))
