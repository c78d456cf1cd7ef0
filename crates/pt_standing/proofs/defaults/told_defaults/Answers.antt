use Rattle.std.proofs.Common.{◌≡◌, ◌∙◌, sym, subst, rules, refl, get_or, List, ◌<◌, ◌+◌, length, Some}
use Rattle.std.specs.Prelude.{slice_get}
use Rattle.std.proofs.lemmas.Option.{slice_get_read}
use Rattle.pt_code.specs.declared.CodeBlock.{CodeBlock}
use Rattle.pt_standing.specs.Names.{TellsDefaults}
use Rattle.pt_standing.specs.Texts.{AreIds, HasMarks}
use Rattle.pt_standing.proofs.PairLemmas.{fresh_first, none_told, parameters_are}
use Rattle.pt_standing.proofs.defaults.told_defaults.Goals as goal
use Rattle.pt_standing.proofs.defaults.told_defaults.Goals.{in-Some+in_ok-tell_lists, in_default}

pub loop-number-init : goal.loop-number-init
loop-number-init c = record {
  fresh = λ i. fresh_first c.args.code.now.texts c.args.ids.now _ i (c.as_mut_slice-marks.ensures.value ∙ c.in_ok-table.ensures.items_if_clones_equal (search rules));
  tells = λ i d. none_told c.args.code.now _ (λ b l. search rules);
}

pub loop-number-preserved : goal.loop-number-preserved
loop-number-preserved c =
    let code = c.args.code.now in
    let n = c.loop-number.number in
    let blocks = code.blocks in
    let lt : n < length blocks = subst (λ (xs : List CodeBlock). n < length xs) c.as_slice-blocks.ensures c.loop-number-test.true in
    let is = subst (λ (xs : List CodeBlock). c.index-blocks-number.result ≡ get_or xs n c.index-blocks-number.result) c.as_slice-blocks.ensures
    c.index-blocks-number.is in
    let stands : slice_get blocks n ≡ Some c.index-blocks-number.result = slice_get_read blocks (length blocks) n c.index-blocks-number.result refl lt is in
    let marked = λ (i : AreIds code.texts c.args.ids.now). c.in_ok-mark_all.ensures code.texts (c.loop-number.invariant.fresh i) in
    let names = parameters_are code n c.index-blocks-number.result c.parameters.result.now stands c.parameters.ensures in
    record {
      fresh = λ i. (marked i).fresh;
      tells = λ i d. elim c.match-get.branch [
        | in-Some+in_ok-tell_lists w ↦ subst (TellsDefaults code) (sym w.defaults-is) (w.in_ok-tell_lists.ensures d
            (subst (HasMarks code.texts c.args.ids.now c.mark_all.new.marks (n + 1)) names (marked i).has) (c.loop-number.invariant.tells i d))
        | in_default w ↦ subst (TellsDefaults code) (sym w.defaults-is) (c.loop-number.invariant.tells i d)
      ];
    }

pub returns : goal.returns
returns c = λ i d. c.loop-number.invariant.tells i d
