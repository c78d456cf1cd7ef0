use Rattle.std.proofs.Common.{◌∙◌, sym}
use Rattle.pt_heap.specs.declared.value.Value.TheVariants as values
use Rattle.pt_reprs.proofs.ReachLemmas.{plain-value, uncontained}
use Rattle.pt_reprs.proofs.reached.object_needs_help.Goals as goal

pub returns : goal.returns
returns c =
    let h = c.args.heap.now in
    sym (plain-value h (values.Obj c.args.id) c.requires (uncontained h c.args.id (sym c.is_container.ensures ∙ c.if-is_container.false)))
