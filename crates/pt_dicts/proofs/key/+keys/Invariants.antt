use Rattle.std.proofs.Common.{◌≡◌, ◌++◌, ◌∷◌, ◌+◌, ◌-◌, ◌*◌, List, ℕ, drop, IfOk}
use Rattle.pt_dicts.specs.Codes.{AllShort}
use Rattle.pt_dicts.specs.Keys.{key_value, keys_by, coded_list}
use Rattle.pt_dicts.proofs.KeyLemmas.{ahead}
use Rattle.pt_dicts.proofs.key.+keys.Given as goal

abbrev pub decreases-push_key : goal.decreases-push_key
decreases-push_key l = 3 * l.depth + 2

abbrev pub decreases-push_object : goal.decreases-push_object
decreases-push_object l = 3 * l.depth + 1

abbrev pub decreases-push_tuple : goal.decreases-push_tuple
decreases-push_tuple l = 3 * l.depth

abbrev pub invariant-push_tuple-loop-item : goal.invariant-push_tuple-loop-item
invariant-push_tuple-loop-item l = record {
  codes : (done : List ℕ) × (l.codes ≡ l.fn.codes ++ 5 ∷ done)
      × (coded_list (keys_by (key_value l.heap (l.depth - 1)) l.items) ≡ ahead done (coded_list (keys_by (key_value l.heap (l.depth - 1)) (drop l.item-index l.items))));
  short : IfOk (keys_by (key_value l.heap (l.depth - 1)) (drop l.item-index l.items)) AllShort → IfOk (keys_by (key_value l.heap (l.depth - 1)) l.items) AllShort;
}
