use Rattle.std.proofs.Common.{◌≡◌, ◌∙◌, eq-eqb, map, refl, sym, true, subst}
use Rattle.std.proofs.lemmas.Bool.{ne_eqb}
use Rattle.std.proofs.lemmas.List.{map_more, take_all}
use Rattle.sem_fits.specs.fits.Standing.{are_distinct}
use Rattle.pt_standing.specs.Texts.{text_at}
use Rattle.pt_standing.proofs.MarkLemmas.{distinct_more, marked_more, none_marked, not_distinct, told_by_mark}
use Rattle.pt_standing.proofs.marks.are_distinct.Goals as goal

pub loop-text-init : goal.loop-text-init
loop-text-init c = λ all f. record { marked = none_marked all c.args.ids.now c.args.marks.now c.args.by f; distinct = refl }

pub returns-then-branch-by : goal.returns-then-branch-by
returns-then-branch-by c = λ all f.
    let d = c.loop-text.invariant all f in (
      not_distinct all c.args.list.now c.loop-text.text-index _ c.loop-text-test.true
          (sym (told_by_mark all c.args.ids.now c.loop-text.marks c.args.by _ _ _ d.marked.has c.in_ok-mark_on.ensures) ∙ eq-eqb _ _ c.if-branch-by.true),
      d.marked.fresh,
    )

pub loop-text-preserved : goal.loop-text-preserved
loop-text-preserved c = λ all f.
    let d = c.loop-text.invariant all f in
    record {
      marked = marked_more all c.args.ids.now _ _ c.args.by _ _ _ d.marked c.in_ok-mark.ensures
          (map_more (text_at all) c.args.list.now c.loop-text.text-index _ c.loop-text-test.true);
      distinct = distinct_more all c.args.list.now c.loop-text.text-index _ c.loop-text-test.true d.distinct
          (sym (told_by_mark all c.args.ids.now c.loop-text.marks c.args.by _ _ _ d.marked.has c.in_ok-mark_on.ensures) ∙ ne_eqb _ _ c.if-branch-by.false);
    }

pub returns : goal.returns
returns c = λ all f.
    let d = c.loop-text.invariant all f in (
      sym (subst (λ xs. are_distinct (map (text_at all) xs) ≡ true) (take_all c.loop-text.text-index c.args.list.now c.loop-text-test.false) d.distinct),
      d.marked.fresh,
    )
