use Rattle.std.proofs.Common.{◌∙◌, ap, sym}
use Rattle.pt_content.specs.Changes.{has_kind}
use Rattle.pt_content.proofs.ChangeLemmas.{kind-within}
use Rattle.pt_content.proofs.changes.replace.Goals as goal

pub set-requires : goal.set-requires
set-requires c =
    kind-within c.args.heap.now c.args.replacement.id.0 c.args.replacement.object
    (ap (has_kind c.args.replacement.object) (sym c.object_at.ensures) ∙ sym c.has_kind.ensures ∙ c.if-has_kind.true)
