use Rattle.std.proofs.Common.{◌≡◌, ◌∙◌, ◌+◌, ap, drop, false, rules, sym, true}
use Rattle.std.specs.Prelude.{if◌then◌else◌}
use Rattle.pt_machine_state.specs.Changes.{first_visible, line_in}
use Rattle.pt_transfers.proofs.VisibleLemmas.{visible_next}
use Rattle.pt_transfers.proofs.lines.waiting_line.Goals as goal

pub returns-then-not-activation : goal.returns-then-not-activation
returns-then-not-activation c =
    let os = c.args.machine.now.frames.activations in
    let seen : c.at-activation.result.now.hidden ≡ false = search rules in
    c.line_in.ensures
    ∙ sym (c.loop-newer.invariant ∙ visible_next c.args.blocks.now c.args.otherwise.0 os c.loop-newer.newer c.at-activation.result.now c.at-activation.ensures
    ∙ ap (λ b. if b then first_visible c.args.blocks.now c.args.otherwise.0 (drop (c.loop-newer.newer + 1) os) else line_in c.args.blocks.now c.at-activation.result.now) seen)

pub loop-newer-preserved : goal.loop-newer-preserved
loop-newer-preserved c =
    let os = c.args.machine.now.frames.activations in
    let seen : c.at-activation.result.now.hidden ≡ true = search rules in
    c.loop-newer.invariant ∙ visible_next c.args.blocks.now c.args.otherwise.0 os c.loop-newer.newer c.at-activation.result.now c.at-activation.ensures
    ∙ ap (λ b. if b then first_visible c.args.blocks.now c.args.otherwise.0 (drop (c.loop-newer.newer + 1) os) else line_in c.args.blocks.now c.at-activation.result.now) seen
