use Rattle.std.proofs.Common.{◌∙◌, ap}
use Rattle.pt_sequences.specs.Ranges.{range_length}
use Rattle.pt_text_operations.specs.Picked.{range_strided}
use Rattle.pt_text_operations.proofs.ranges.picked_range.Goals as goal

pub returns-in-Forward : goal.returns-in-Forward
returns-in-Forward c =
    c.forward.ensures c.in-Forward.field-0 ∙ ap (λ s. range_strided s c.args.bounds (range_length c.args.range) c.args.range) c.in-Forward.ensures

pub returns-in-Back : goal.returns-in-Back
returns-in-Back c =
    c.back.ensures c.in-Back.field-0 ∙ ap (λ s. range_strided s c.args.bounds (range_length c.args.range) c.args.range) c.in-Back.ensures
