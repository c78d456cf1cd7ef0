use Rattle.std.proofs.Common.{◌≡◌, ◌∙◌, eq-eqb, map, refl, sym, true, subst}
use Rattle.std.specs.List.{list_all}
use Rattle.std.proofs.lemmas.Bool.{ne_eqb}
use Rattle.std.proofs.lemmas.List.{take_all}
use Rattle.sem_fits.specs.fits.Standing.{is_among}
use Rattle.pt_standing.specs.Texts.{text_at}
use Rattle.pt_standing.proofs.MarkLemmas.{all_more, not_all, told_by_mark}
use Rattle.pt_standing.proofs.marks.are_marked.Goals as goal

pub loop-text-init : goal.loop-text-init
loop-text-init c = λ all names h. refl

pub returns-then-branch-by : goal.returns-then-branch-by
returns-then-branch-by c = λ all names h.
    not_all all names c.args.list.now c.loop-text.text-index _ c.loop-text-test.true
    (sym (told_by_mark all c.args.ids.now c.args.marks.now c.args.by _ _ names h c.in_ok-mark_on.ensures)
    ∙ ne_eqb _ _ c.if-branch-by.true)

pub loop-text-preserved : goal.loop-text-preserved
loop-text-preserved c = λ all names h.
    all_more all names c.args.list.now c.loop-text.text-index _ c.loop-text-test.true (c.loop-text.invariant all names h)
    (sym (told_by_mark all c.args.ids.now c.args.marks.now c.args.by _ _ names h c.in_ok-mark_on.ensures)
    ∙ eq-eqb _ _ c.if-branch-by.false)

pub returns : goal.returns
returns c = λ all names h. sym (subst (λ xs. list_all (is_among names) (map (text_at all) xs) ≡ true)
    (take_all c.loop-text.text-index c.args.list.now c.loop-text-test.false) (c.loop-text.invariant all names h))
