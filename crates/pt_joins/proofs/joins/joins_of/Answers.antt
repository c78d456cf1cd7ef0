use Rattle.std.proofs.Common.{arith, subst, [], ◌≡◌}
use Rattle.pt_joins.specs.Joins.{JoinsSoFar}
use Rattle.pt_joins.proofs.Joining.{start, next_low, next_within, more, told, is_empty, no_more}
use Rattle.pt_joins.proofs.joins.joins_of.Goals as goal

pub loop-join-init : goal.loop-join-init
loop-join-init c = start c.args.joins.items c.args.count c.in_ok-left.left.items c.in_ok-told.told.nodes.items c.in_ok-left.ensures c.in_ok-told.ensures

pub join-requires-clause-forest : goal.join-requires-clause-forest
join-requires-clause-forest c = c.loop-join.invariant.forest

pub join-requires-clause-low : goal.join-requires-clause-low
join-requires-clause-low c =
    let s = subst (λ xs. JoinsSoFar c.args.joins.items xs c.args.count c.loop-join.told.nodes.items) c.in-Some.ensures.items c.loop-join.invariant in
    next_low c.args.joins.items c.args.count c.pop.new.self.items c.in-Some.join c.loop-join.told.nodes.items s

pub join-requires-clause-one : goal.join-requires-clause-one
join-requires-clause-one c =
    let s = subst (λ xs. JoinsSoFar c.args.joins.items xs c.args.count c.loop-join.told.nodes.items) c.in-Some.ensures.items c.loop-join.invariant in
    (next_within c.args.joins.items c.args.count c.pop.new.self.items c.in-Some.join c.loop-join.told.nodes.items s c.requires).0

pub join-requires-clause-other : goal.join-requires-clause-other
join-requires-clause-other c =
    let s = subst (λ xs. JoinsSoFar c.args.joins.items xs c.args.count c.loop-join.told.nodes.items) c.in-Some.ensures.items c.loop-join.invariant in
    (next_within c.args.joins.items c.args.count c.pop.new.self.items c.in-Some.join c.loop-join.told.nodes.items s c.requires).1

pub loop-join-preserved : goal.loop-join-preserved
loop-join-preserved c =
    let s = subst (λ xs. JoinsSoFar c.args.joins.items xs c.args.count c.loop-join.told.nodes.items) c.in-Some.ensures.items c.loop-join.invariant in
    more c.args.joins.items c.args.count c.pop.new.self.items c.in-Some.join c.loop-join.told.nodes.items s c.join.new.self.nodes.items c.in_ok-join.ensures

pub returns : goal.returns
returns c =
    let none : c.pop.new.self.items ≡ [] = is_empty c.pop.new.self.items (omega (arith, c.in_default.ensures.cases, c.in_default.ensures.variant, c.in_default.ensures.len)) in
    let all : c.loop-join.left.items ≡ [] = no_more c.loop-join.left.items c.pop.new.self.items c.in_default.ensures.items none in
    told c.args.joins.items c.args.count c.loop-join.told.nodes.items
    (subst (λ xs. JoinsSoFar c.args.joins.items xs c.args.count c.loop-join.told.nodes.items) all c.loop-join.invariant) c.requires
