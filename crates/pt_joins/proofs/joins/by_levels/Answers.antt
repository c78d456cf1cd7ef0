use Rattle.std.proofs.Common.{rules}
use Rattle.std.proofs.lemmas.List.Sorted.{IsNonDecreasingBy-from_sort_by_key, Contains-permutation, IsPermutation-sym}
use Rattle.pt_joins.specs.declared.joins.Join.{Join}
use Rattle.pt_joins.proofs.joins.by_levels.Goals as goal

pub returns : goal.returns
returns c = let p = c.in_ok-sort_by_key.ensures.permutation in record {
  rises = λ m n d le lt. IsNonDecreasingBy-from_sort_by_key (λ (j : Join). j.levels) _ c.in_ok-sort_by_key.ensures.sorted (λ a r q k. search rules) m n d le lt;
  into = λ j h. Contains-permutation _ _ j p h;
  from = λ j h. Contains-permutation _ _ j (IsPermutation-sym _ _ p) h;
}
