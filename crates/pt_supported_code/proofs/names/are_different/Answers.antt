use Rattle.std.specs.Ordering.{nat_cmp}
use Rattle.std.specs.BTreeSet.{IsFromIterResult}
use Rattle.std.proofs.lemmas.Iterator.{YieldsList-from_slice}
use Rattle.std.proofs.lemmas.Iterator.Consumers.{YieldsList-from_copied}
use Rattle.std.proofs.lemmas.Iterator.Adapters.{fact_from_collect}
use Rattle.std.proofs.lemmas.Result.{IfOk-at_ok}
use Rattle.std.specs.Prelude.{nat_eq, Decides, length}
use Rattle.std.specs.List.{IsDistinct}
use Rattle.std.proofs.Common.{subst, sym}
use Rattle.pt_supported_code.proofs.NameLemmas.{set_tells}
use Rattle.pt_supported_code.proofs.names.are_different.Goals as goal

pub returns : goal.returns
returns c =
    let xs = c.args.numbers.now in
    let made = IfOk-at_ok _ c.in_ok-set.was (fact_from_collect (λ ys s. IsFromIterResult nat_cmp ys s) c.collect.result c.collect.ensures.ran (YieldsList-from_copied (YieldsList-from_slice xs cc))) in
    subst (λ n. Decides (nat_eq n (length xs)) (IsDistinct nat_eq xs)) (sym c.len.ensures.len) (set_tells xs c.in_ok-set.set made)
