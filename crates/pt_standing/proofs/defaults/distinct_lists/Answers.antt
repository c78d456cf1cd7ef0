use Rattle.std.proofs.Common.{◌≡◌, ◌∙◌, ap, sym, subst, [], ◌∷◌, ◌+◌, length, map, length-append, rules, refl, get_or, ℕ, List, ◌<◌, slice_index_or}
use Rattle.std.proofs.lemmas.List.{get_or_read_under}
use Rattle.sem_fits.specs.fits.Standing.{are_distinct}
use Rattle.pt_standing.specs.Texts.{text_at}
use Rattle.pt_standing.proofs.PairLemmas.{distinct_more, fresh_first, none_distinct}
use Rattle.pt_standing.proofs.defaults.distinct_lists.Goals as goal

pub loop-number-init : goal.loop-number-init
loop-number-init c = record {
  long = ap length c.new-told.ensures.items;
  fresh = λ i. fresh_first c.args.code.now.texts c.args.ids.now _ i (c.as_mut_slice-marks.ensures.value ∙ c.in_ok-table.ensures.items_if_clones_equal (search rules));
  tells = λ i. none_distinct c.args.code.now.texts c.args.code.now.lists _ c.new-told.ensures.items;
}

pub loop-number-preserved : goal.loop-number-preserved
loop-number-preserved c =
    let lists = c.args.code.now.lists in
    let lt : c.loop-number.number < length lists = subst (λ (xs : List (List ℕ)). c.loop-number.number < length xs) c.as_slice-lists.ensures c.loop-number-test.true in
    let is = subst (λ (xs : List (List ℕ)). c.index-lists-number.result ≡ get_or xs c.loop-number.number c.index-lists-number.result) c.as_slice-lists.ensures
    c.index-lists-number.is in
    let item : c.index-lists-number.result ≡ slice_index_or lists (length c.loop-number.told.items) [] =
    get_or_read_under lists c.loop-number.number (length lists) c.index-lists-number.result [] is lt refl
    ∙ ap (λ n. slice_index_or lists n []) (sym c.loop-number.invariant.long) in
    record {
      long = ap length c.in_ok-push.ensures.items ∙ (length-append c.loop-number.told.items (c.in_ok-are_distinct.field-0 ∷ []) ∙ ap (λ n. n + 1) c.loop-number.invariant.long);
      fresh = λ i. (c.in_ok-are_distinct.ensures c.args.code.now.texts (c.loop-number.invariant.fresh i)).1;
      tells = λ i. distinct_more c.args.code.now.texts c.args.code.now.lists c.loop-number.told.items c.push.new.self.items c.in_ok-are_distinct.field-0 (c.loop-number.invariant.tells i)
          ((c.in_ok-are_distinct.ensures c.args.code.now.texts (c.loop-number.invariant.fresh i)).0 ∙ ap (λ xs. are_distinct (map (text_at c.args.code.now.texts) xs)) (c.as_slice-list.ensures ∙ item)) c.in_ok-push.ensures.items;
    }

pub returns : goal.returns
returns c = λ i. c.loop-number.invariant.tells i
