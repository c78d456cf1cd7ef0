use Rattle.std.proofs.Common.{◌≡◌, drop, map}
use Rattle.pt_wide.specs.Fold.{all_of, exp_of}
use Rattle.pt_refine_expr.specs.Targets.{are_items}
use Rattle.pt_refine_expr.proofs.forms.are_items.Given as goal

abbrev pub invariant-loop-item : goal.invariant-loop-item
invariant-loop-item l = are_items (all_of (map exp_of (drop l.item-index l.items))) ≡ are_items (all_of (map exp_of l.items))
