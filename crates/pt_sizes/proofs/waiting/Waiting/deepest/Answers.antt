use Rattle.std.proofs.Common.{◌≡◌, ◌+◌, ◌∷◌, [], List, length, sym, ap, ◌∙◌, subst, arith, length-append}
use Rattle.pt_ranges.specs.declared.handlers.Handler.{Handler}
use Rattle.pt_sizes.specs.Waiting.{AreDeepest, AllWait, level_of, levels_of}
use Rattle.pt_sizes.proofs.Landings.{out_map}
use Rattle.pt_sizes.proofs.Adding.{deepest_push}
use Rattle.pt_sizes.proofs.waiting.Waiting.deepest.Goals as goal

pub loop-at-preserved : goal.loop-at-preserved
loop-at-preserved c =
    let inv = c.loop-at.invariant in
    let levels = c.args.self.now.levels in
    subst (λ xs. (length xs ≡ c.loop-at.at + 1) × ((rows : List Handler) → AllWait rows c.args.count (levels_of levels) → AreDeepest rows xs (c.loop-at.at + 1)))
    (sym c.in_ok-push.ensures.items) (
      length-append c.loop-at.table.items (c.deepest_at.result ∷ []) ∙ ap (λ n. n + 1) inv.0,
      deepest_push (levels_of levels) c.args.count c.loop-at.at (length levels.items) c.loop-at.table.items c.deepest_at.result inv.0 inv.1 (omega (arith, c.loop-at-test.true))
          c.deepest_at.ensures (out_map level_of levels.items (length levels.items) (omega arith)),
    )
