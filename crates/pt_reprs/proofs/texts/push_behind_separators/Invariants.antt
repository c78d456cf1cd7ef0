use Rattle.std.proofs.Common.{◌≡◌, drop}
use Rattle.pt_reprs.specs.Pieces.{with_pieces}
use Rattle.pt_reprs.specs.Texts.{behind_separators}
use Rattle.pt_reprs.proofs.texts.push_behind_separators.Given as goal

abbrev pub invariant-loop-value : goal.invariant-loop-value
invariant-loop-value l =
    with_pieces (behind_separators l.heap l.separator l.values) l.fn.writer
    ≡ with_pieces (behind_separators l.heap l.separator (drop l.value-index l.values)) l.writer
