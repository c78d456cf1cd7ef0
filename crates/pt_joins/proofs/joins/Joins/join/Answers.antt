use Rattle.std.proofs.Common.{arith, sym, inl, inr}
use Rattle.std.proofs.lemmas.Result.{IfOk-weaker}
use Rattle.pt_joins.specs.Joins.{Links, AfterJoin}
use Rattle.pt_joins.proofs.Roots.{root_in}
use Rattle.pt_joins.proofs.Linking.{is_top, is_low, linked, flip, joined_on_none, joined_before}
use Rattle.pt_joins.proofs.joins.Joins.join.Goals as goal

pub returns-then-join-eq0 : goal.returns-then-join-eq0
returns-then-join-eq0 c = elim c.then-join-eq0.either [
  | inl z ↦ joined_on_none c.args.self.now.nodes.items c.args.join c.requires.forest c.requires.low z
  | inr (ne, e) ↦ joined_before c.args.self.now.nodes.items c.args.join c.root_at-one.result c.root_at-other.result c.requires.forest c.requires.low
      c.root_at-one.ensures c.root_at-other.ensures e
]

pub index-requires : goal.index-requires
index-requires c = omega (arith, root_in c.args.self.now.nodes.items 0 c.args.join.one c.root_at-one.result c.root_at-one.ensures)

pub index-requires-2 : goal.index-requires-2
index-requires-2 c = omega (arith, root_in c.args.self.now.nodes.items 0 c.args.join.other c.root_at-other.result c.root_at-other.ensures)

pub link-requires-clause-lower : goal.link-requires-clause-lower
link-requires-clause-lower c = is_top c.args.self.now.nodes.items c.args.join.one c.root_at-one.result c.root_at-one.ensures

pub link-requires-clause-upper : goal.link-requires-clause-upper
link-requires-clause-upper c = is_top c.args.self.now.nodes.items c.args.join.other c.root_at-other.result c.root_at-other.ensures

pub link-requires-clause-fewer : goal.link-requires-clause-fewer
link-requires-clause-fewer c = is_low c.args.self.now.nodes.items c.args.join.one c.args.join.other c.root_at-one.result c.root_at-other.result c.index.result.now c.index-2.result.now c.root_at-one.ensures c.root_at-other.ensures
    c.index.ensures c.index-2.ensures c.if-index.true

pub link-requires-else-index-clause-lower : goal.link-requires-else-index-clause-lower
link-requires-else-index-clause-lower c = is_top c.args.self.now.nodes.items c.args.join.other c.root_at-other.result c.root_at-other.ensures

pub link-requires-else-index-clause-upper : goal.link-requires-else-index-clause-upper
link-requires-else-index-clause-upper c = is_top c.args.self.now.nodes.items c.args.join.one c.root_at-one.result c.root_at-one.ensures

pub link-requires-else-index-clause-fewer : goal.link-requires-else-index-clause-fewer
link-requires-else-index-clause-fewer c = is_low c.args.self.now.nodes.items c.args.join.other c.args.join.one c.root_at-other.result c.root_at-one.result c.index-2.result.now c.index.result.now c.root_at-other.ensures c.root_at-one.ensures
    c.index-2.ensures c.index.ensures (omega (arith, c.if-index.false))

pub returns-then-index : goal.returns-then-index
returns-then-index c =
    let xs = c.args.self.now.nodes.items in let ys = c.link.new.self.nodes.items in
    IfOk-weaker c.link.result (λ _. Links xs ys c.root_at-one.result c.root_at-other.result c.args.join.levels) (λ _. AfterJoin xs ys c.args.join)
    (λ _ l. linked xs ys c.root_at-one.result c.root_at-other.result c.args.join.levels c.requires.forest c.requires.low (omega (arith, c.if-join-eq0.false))
    (is_top xs c.args.join.one c.root_at-one.result c.root_at-one.ensures) (is_top xs c.args.join.other c.root_at-other.result c.root_at-other.ensures) c.if-one-other.false
    (is_low c.args.self.now.nodes.items c.args.join.one c.args.join.other c.root_at-one.result c.root_at-other.result c.index.result.now c.index-2.result.now c.root_at-one.ensures c.root_at-other.ensures
    c.index.ensures c.index-2.ensures c.if-index.true) l
    c.args.join.one c.args.join.other c.root_at-one.ensures c.root_at-other.ensures)
    c.link.ensures

pub returns-else-index : goal.returns-else-index
returns-else-index c =
    let xs = c.args.self.now.nodes.items in let ys = c.link-else-index.new.self.nodes.items in
    IfOk-weaker c.link-else-index.result (λ _. Links xs ys c.root_at-other.result c.root_at-one.result c.args.join.levels) (λ _. AfterJoin xs ys c.args.join)
    (λ _ l. flip xs ys c.args.join.one c.args.join.other c.args.join.levels
    (linked xs ys c.root_at-other.result c.root_at-one.result c.args.join.levels c.requires.forest c.requires.low (omega (arith, c.if-join-eq0.false))
    (is_top xs c.args.join.other c.root_at-other.result c.root_at-other.ensures) (is_top xs c.args.join.one c.root_at-one.result c.root_at-one.ensures) (λ e. c.if-one-other.false (sym e))
    (is_low c.args.self.now.nodes.items c.args.join.other c.args.join.one c.root_at-other.result c.root_at-one.result c.index-2.result.now c.index.result.now c.root_at-other.ensures c.root_at-one.ensures
    c.index-2.ensures c.index.ensures (omega (arith, c.if-index.false))) l
    c.args.join.other c.args.join.one c.root_at-other.ensures c.root_at-one.ensures))
    c.link-else-index.ensures
