use Rattle.std.proofs.Common.{◌∙◌, drop, length, reverse, ◌-◌, ap}
use Rattle.pt_frames.proofs.SlotLemmas.{cut-reverse}
use Rattle.pt_frames.proofs.slot.Slots.cut.Goals as goal

pub returns : goal.returns
returns c =
    ap reverse c.truncate.ensures.items
    ∙ cut-reverse c.self.inside.items.items c.args.depth
    ∙ ap (λ l. drop (length l - c.args.depth) l) c.self.view_is
