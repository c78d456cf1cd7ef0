use Rattle.std.proofs.Common.{◌≡◌, ◌∙◌, ◌+◌, false, Some, drop, get_or, slice_get, sym, refl, ap, arith}
use Rattle.std.proofs.lemmas.List.{at_drop_more}
use Rattle.std.proofs.lemmas.Option.{slice_get-get_or}
use Rattle.pt_heap.specs.declared.value.Value.TheVariants as value
use Rattle.pt_content.specs.Operands.{operand_of}
use Rattle.pt_reprs.specs.Reached.{is_instance}
use Rattle.pt_reprs.specs.Marks.{has_instance}
use Rattle.pt_reprs.proofs.ReachLemmas.{any-first, marks-one}
use Rattle.pt_reprs.proofs.reached.mark_all.Goals as goal

pub loop-value-preserved : goal.loop-value-preserved
loop-value-preserved c =
    let i = c.loop-value.value-index in
    let vs = c.args.values.now in
    let h = c.args.heap.now in
    let v = get_or vs i value.None in
    let plain : is_instance (operand_of h v) ≡ false = sym c.is_instance.ensures ∙ c.if-is_instance.false in
    record {
      none = sym (at_drop_more (has_instance h) vs i value.None c.loop-value-test.true ∙ any-first h v (drop (i + 1) vs) plain) ∙ c.loop-value.invariant.none;
      marks = marks-one h c.args.marks.now.keys c.loop-value.marks.keys c.mark.new.marks.keys vs i v c.loop-value.invariant.marks (slice_get-get_or vs i value.None c.loop-value-test.true) plain c.in_ok-mark.ensures.keys;
      unique = λ u. c.in_ok-mark.ensures.unique (c.loop-value.invariant.unique u);
    }
