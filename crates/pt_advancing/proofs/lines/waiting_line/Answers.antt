use Rattle.std.proofs.Common.{◌≡◌, ◌∙◌, ◌+◌, ap, drop, false, rules, sym, true}
use Rattle.std.specs.Prelude.{if◌then◌else◌}
use Rattle.pt_closing.specs.pt_beginning.pt_machine_state.Changes.{line_in}
use Rattle.pt_advancing.specs.Lines.{first_visible}
use Rattle.pt_advancing.proofs.Visible.{visible_next}
use Rattle.pt_advancing.proofs.lines.waiting_line.Goals as goal

pub returns-then-not-opener : goal.returns-then-not-opener
returns-then-not-opener c =
    let os = c.args.machine.now.openers in
    let seen : c.at-opener.result.now.running.activation.hidden ≡ false = search rules in
    c.line_in.ensures
    ∙ sym (c.loop-newer.invariant ∙ visible_next c.args.blocks.now c.args.otherwise.0 os c.loop-newer.newer c.at-opener.result.now c.at-opener.ensures
    ∙ ap (λ b. if b then first_visible c.args.blocks.now c.args.otherwise.0 (drop (c.loop-newer.newer + 1) os) else line_in c.args.blocks.now c.at-opener.result.now.running.activation) seen)

pub loop-newer-preserved : goal.loop-newer-preserved
loop-newer-preserved c =
    let os = c.args.machine.now.openers in
    let seen : c.at-opener.result.now.running.activation.hidden ≡ true = search rules in
    c.loop-newer.invariant ∙ visible_next c.args.blocks.now c.args.otherwise.0 os c.loop-newer.newer c.at-opener.result.now c.at-opener.ensures
    ∙ ap (λ b. if b then first_visible c.args.blocks.now c.args.otherwise.0 (drop (c.loop-newer.newer + 1) os) else line_in c.args.blocks.now c.at-opener.result.now.running.activation) seen
