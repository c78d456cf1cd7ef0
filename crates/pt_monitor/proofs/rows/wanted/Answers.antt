use Rattle.std.proofs.Common.{ℕ, Bool, ◌||◌, ◌∙◌, ap, sym, take}
use Rattle.std.proofs.lemmas.List.Folds.{list_any_more}
use Rattle.sem_run.specs.run.Tools.{has}
use Rattle.pt_monitor.specs.Events.{bit_of}
use Rattle.pt_monitor.specs.Kept.{block, can_be_due, is_wanted}
use Rattle.pt_monitor.proofs.Bits.{has-union}
use Rattle.pt_monitor.proofs.rows.wanted.Goals as goal

pub loop-tool-preserved : goal.loop-tool-preserved
loop-tool-preserved c =
    λ e. ap (λ (n : ℕ). has n (bit_of e)) (c.insert.ensures tt) ∙ has-union c.loop-tool.wanted.0 c.wanted.result.0 (bit_of e)
    ∙ ap (λ (x : Bool). x || has c.wanted.result.0 (bit_of e)) (c.loop-tool.invariant e)
    ∙ ap (λ (x : Bool). is_wanted (block c.args.block.0) (bit_of e) (take c.loop-tool.tool-index c.args.tools.now) || x)
    (c.wanted.ensures e ∙ ap (can_be_due (block c.args.block.0) (bit_of e)) c.tool-item.is)
    ∙ sym (list_any_more (can_be_due (block c.args.block.0) (bit_of e)) c.args.tools.now c.loop-tool.tool-index c.tool-item.result c.loop-tool-test.true)
