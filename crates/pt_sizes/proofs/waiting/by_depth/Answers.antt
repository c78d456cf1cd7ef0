use Rattle.std.proofs.Common.{rules, sym, subst}
use Rattle.std.specs.Prelude.{Contains}
use Rattle.std.proofs.lemmas.List.Sorted.{IsNonDecreasingBy-from_sort_by_key, Contains-permutation, IsPermutation-sym}
use Rattle.pt_ranges.specs.declared.handlers.Handler.{Handler}
use Rattle.pt_sizes.proofs.Adding.{rises_by}
use Rattle.pt_sizes.proofs.waiting.by_depth.Goals as goal

pub returns : goal.returns
returns c = let p = c.in_ok-sort_by_key.ensures.permutation in let e = c.in_ok-sorted.ensures.items in record {
  rises = rises_by c.sort_by_key.new.self.items (IsNonDecreasingBy-from_sort_by_key (λ (r : Handler). r.depth) _ c.in_ok-sort_by_key.ensures.sorted (λ a r q k. search rules));
  into = λ r h. Contains-permutation _ _ r p (subst (λ xs. Contains xs r) (sym e) h);
  from = λ r h. subst (λ xs. Contains xs r) e (Contains-permutation _ _ r (IsPermutation-sym _ _ p) h);
}
