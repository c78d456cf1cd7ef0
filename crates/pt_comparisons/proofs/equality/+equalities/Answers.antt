use Rattle.std.proofs.Common.{rules, ◌≡◌, ◌∙◌, ◌-◌, [], drop, length, inl, inr, ap, sym, arith}
use Rattle.std.proofs.lemmas.List.{nil_from_length}
use Rattle.std.proofs.lemmas.Grind.{common_steps}
use Rattle.pt_comparisons.specs.Equalities.{all_equal, insides_equality, item_equality, values_equal}
use Rattle.pt_comparisons.proofs.EqualityLemmas.{deep, of-as-many, of-fewer, of-nothing, one-less}
use Rattle.pt_comparisons.proofs.equality.+equalities.Goals as goal

pub items_equality-returns-then-depth-eq0 : goal.items_equality-returns-then-depth-eq0
items_equality-returns-then-depth-eq0 t c =
    let insides = inl (c.args.a.now, c.args.b.now) in
    sym (ap (λ d. insides_equality c.args.heap.now d insides) c.if-depth-eq0.true ∙ deep c.args.heap.now insides)

pub items_equality-returns-then-a-b : goal.items_equality-returns-then-a-b
items_equality-returns-then-a-b t c =
    let h = c.args.heap.now in
    let told = all_equal (item_equality (insides_equality h (c.args.depth - 1)) h) c.args.a.now c.args.b.now in
    sym (one-less h c.args.depth (inl (c.args.a.now, c.args.b.now)) (omega (arith, c.if-depth-eq0.false))
    ∙ of-fewer (length c.args.a.now) (length c.args.b.now) told (λ e. grind (arith, common_steps, c.if-a-b.true, e)))

pub items_equality-returns : goal.items_equality-returns
items_equality-returns t c =
    let h = c.args.heap.now in
    let told = all_equal (item_equality (insides_equality h (c.args.depth - 1)) h) c.args.a.now c.args.b.now in
    c.all_equal.ensures
    ∙ sym (one-less h c.args.depth (inl (c.args.a.now, c.args.b.now)) (omega (arith, c.if-depth-eq0.false))
    ∙ of-as-many (length c.args.a.now) (length c.args.b.now) told (grind (arith, common_steps, c.if-a-b.false)))

pub entries_equality-returns-then-depth-eq0 : goal.entries_equality-returns-then-depth-eq0
entries_equality-returns-then-depth-eq0 t c =
    let insides = inr (c.args.a.now, c.args.b.now) in
    sym (ap (λ d. insides_equality c.args.heap.now d insides) c.if-depth-eq0.true ∙ deep c.args.heap.now insides)

pub entries_equality-returns-then-len : goal.entries_equality-returns-then-len
entries_equality-returns-then-len t c =
    let h = c.args.heap.now in
    let told = values_equal (item_equality (insides_equality h (c.args.depth - 1)) h) c.args.a.now c.args.b.now in
    c.values_equal.ensures
    ∙ sym (one-less h c.args.depth (inr (c.args.a.now, c.args.b.now)) (omega (arith, c.if-depth-eq0.false))
    ∙ of-as-many (length c.args.a.now) (length c.args.b.now) told (grind (arith, common_steps, c.if-len.true, c.len.ensures, c.len-2.ensures)))

pub entries_equality-returns : goal.entries_equality-returns
entries_equality-returns t c =
    let h = c.args.heap.now in
    let told = values_equal (item_equality (insides_equality h (c.args.depth - 1)) h) c.args.a.now c.args.b.now in
    sym (one-less h c.args.depth (inr (c.args.a.now, c.args.b.now)) (omega (arith, c.if-depth-eq0.false))
    ∙ of-fewer (length c.args.a.now) (length c.args.b.now) told (λ e. grind (arith, common_steps, c.if-len.false, c.len.ensures, c.len-2.ensures, e)))

pub all_equal-returns-in_default : goal.all_equal-returns-in_default
all_equal-returns-in_default t c =
    let h = c.args.heap.now in
    let item = item_equality (insides_equality h c.args.depth) h in
    let left = drop c.loop-item.item-index c.args.a.now in
    let none : c.loop-item.others.now ≡ [] = nil_from_length c.loop-item.others.now c.in_default.ensures.cases in
    sym (sym c.loop-item.invariant ∙ ap (all_equal item left) none ∙ of-nothing item left)
