use Rattle.std.proofs.Common.{ℕ, ◌==◌, ◌∙◌, ap, bit_and}
use Rattle.pt_monitor.specs.Events.{bit_of}
use Rattle.pt_monitor.proofs.Bits.{contains_flag}
use Rattle.pt_monitor.proofs.set.EventSet.has.Goals as goal

pub returns : goal.returns
returns c =
    c.contains.ensures tt ∙ ap (λ (f : ℕ). bit_and c.args.self.0 f == f) c.flag.ensures ∙ contains_flag c.args.self.0 (bit_of c.args.event)
