use Rattle.std.proofs.Common.{map, subst}
use Rattle.std.proofs.lemmas.List.{map_more, take_all}
use Rattle.pt_instr.specs.declared.TextNo.{TextNo}
use Rattle.pt_standing.specs.Texts.{Marked, text_at}
use Rattle.pt_standing.proofs.MarkLemmas.{marked_more, none_marked}
use Rattle.pt_standing.proofs.marks.mark_all.Goals as goal

pub loop-text-init : goal.loop-text-init
loop-text-init c = λ all f. none_marked all c.args.ids.now c.args.marks.now c.args.by f

pub loop-text-preserved : goal.loop-text-preserved
loop-text-preserved c = λ all f. marked_more all c.args.ids.now _ _ c.args.by _ _ _ (c.loop-text.invariant all f) c.in_ok-mark.ensures
    (map_more (λ (t : TextNo). text_at all t.0) c.args.texts.now c.loop-text.text-index _ c.loop-text-test.true)

pub returns : goal.returns
returns c = λ all f. subst (λ xs. Marked all c.args.ids.now c.loop-text.marks c.args.by (map (λ t. text_at all t.0) xs))
    (take_all c.loop-text.text-index c.args.texts.now c.loop-text-test.false) (c.loop-text.invariant all f)
