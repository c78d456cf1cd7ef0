use Rattle.std.proofs.Common.{◌≡◌, ◌∙◌, ◌+◌, ◌||◌, Bool, true, false, ap, drop, sym}
use Rattle.pt_openers.specs.Openers.{hook_runs}
use Rattle.pt_openers.proofs.Newest.{runs-next}
use Rattle.pt_openers.proofs.openers.Openers.hook_runs.Goals as goal

pub returns-then-waits_for_hook : goal.returns-then-waits_for_hook
returns-then-waits_for_hook g c =
    let at = c.loop-newer.newer in
    let waits : g.P.Waits.is_for_hook c.at.result.now ≡ true = cc (c.waits_for_hook.ensures, c.if-waits_for_hook.true) in
    sym (
    c.loop-newer.invariant
    ∙ runs-next g.P.Waits.is_for_hook c.args.self.now at c.at.result.now c.at.ensures
    ∙ ap (λ (b : Bool). b || hook_runs g.P.Waits.is_for_hook (drop (at + 1) c.args.self.now)) waits)

pub loop-newer-preserved : goal.loop-newer-preserved
loop-newer-preserved g c =
    let at = c.loop-newer.newer in
    let waits : g.P.Waits.is_for_hook c.at.result.now ≡ false = cc (c.waits_for_hook.ensures, c.if-waits_for_hook.false) in
    c.loop-newer.invariant
    ∙ runs-next g.P.Waits.is_for_hook c.args.self.now at c.at.result.now c.at.ensures
    ∙ ap (λ (b : Bool). b || hook_runs g.P.Waits.is_for_hook (drop (at + 1) c.args.self.now)) waits
