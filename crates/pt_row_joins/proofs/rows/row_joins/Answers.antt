use Rattle.std.proofs.Common.{◌≡◌, ◌∙◌, ap, arith, length, subst, refl}
use Rattle.pt_sizes.specs.Waiting.{Index, AreDeepest, levels_of}
use Rattle.pt_row_joins.specs.Rows.{IsChain, IsLanding, Lists, sized_below}
use Rattle.pt_row_joins.proofs.Chains.{all_listed, exact, within}
use Rattle.pt_row_joins.proofs.rows.row_joins.Goals as goal

pub returns-clause-within : goal.returns-clause-within
returns-clause-within c =
    let r = c.in_ok-reached.ensures in
    let sizes = c.args.sizes.now in let deepest = c.in_ok-deepest.deepest.items in let narrow = c.in_ok-narrow.narrow.items in
    let lists = all_listed sizes deepest narrow c.in_ok-joins.joins.items c.in_ok-landings.landings.items c.append.new.self.items
    (subst (λ xs. Lists (IsChain xs deepest) c.in_ok-joins.joins.items) (c.deref-2.ensures.value ∙ r.places)
    (subst (λ xs. Lists (IsChain c.deref-2.result.now xs) c.in_ok-joins.joins.items) c.deref-3.ensures.value c.in_ok-joins.ensures))
    (subst (λ xs. Lists (IsLanding xs narrow) c.in_ok-landings.landings.items) (c.deref-4.ensures.value ∙ r.places)
    (subst (λ xs. Lists (IsLanding c.deref-4.result.now xs) c.in_ok-landings.landings.items) c.deref-5.ensures.value c.in_ok-landings.ensures))
    c.in_ok-append.ensures.items in
    let count : c.len-count.result ≡ length (sized_below sizes (length sizes)) = (let e = ap length r.places in omega (arith, c.len-count.ensures, e)) in
    let nar = c.in_ok-narrow.ensures sizes r refl in
    let deep = subst (λ n. AreDeepest narrow deepest n) count
    (c.in_ok-deepest.ensures.exact narrow
    (subst (λ hs. Index hs c.len-count.result (levels_of c.in_ok-waiting.waiting.levels)) c.deref.ensures.value c.in_ok-waiting.ensures)) in
    within sizes c.args.rows.now narrow nar deepest deep c.append.new.self.items lists

pub returns-clause-exact : goal.returns-clause-exact
returns-clause-exact c =
    let r = c.in_ok-reached.ensures in
    let sizes = c.args.sizes.now in let deepest = c.in_ok-deepest.deepest.items in let narrow = c.in_ok-narrow.narrow.items in
    let lists = all_listed sizes deepest narrow c.in_ok-joins.joins.items c.in_ok-landings.landings.items c.append.new.self.items
    (subst (λ xs. Lists (IsChain xs deepest) c.in_ok-joins.joins.items) (c.deref-2.ensures.value ∙ r.places)
    (subst (λ xs. Lists (IsChain c.deref-2.result.now xs) c.in_ok-joins.joins.items) c.deref-3.ensures.value c.in_ok-joins.ensures))
    (subst (λ xs. Lists (IsLanding xs narrow) c.in_ok-landings.landings.items) (c.deref-4.ensures.value ∙ r.places)
    (subst (λ xs. Lists (IsLanding c.deref-4.result.now xs) c.in_ok-landings.landings.items) c.deref-5.ensures.value c.in_ok-landings.ensures))
    c.in_ok-append.ensures.items in
    let count : c.len-count.result ≡ length (sized_below sizes (length sizes)) = (let e = ap length r.places in omega (arith, c.len-count.ensures, e)) in
    let nar = c.in_ok-narrow.ensures sizes r refl in
    let deep = subst (λ n. AreDeepest narrow deepest n) count
    (c.in_ok-deepest.ensures.exact narrow
    (subst (λ hs. Index hs c.len-count.result (levels_of c.in_ok-waiting.waiting.levels)) c.deref.ensures.value c.in_ok-waiting.ensures)) in
    exact sizes c.args.rows.now narrow nar deepest deep c.append.new.self.items lists
