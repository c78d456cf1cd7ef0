use Rattle.std.proofs.Common.{sym, subst, arith, [], ◌≡◌}
use Rattle.pt_cycles.specs.Search.{CutSoFar, IsCut}
use Rattle.pt_cycles.proofs.Tables.{is_empty, no_more}
use Rattle.pt_cycles.proofs.Cutting.{cut_start, cut_more, cut_ends, cut_none}
use Rattle.pt_cycles.proofs.search.cut.Goals as goal

pub loop-cluster-init : goal.loop-cluster-init
loop-cluster-init c = cut_start c.args.place c.args.clusters.now.items c.args.clusters.now.items c.requires

pub loop-cluster-preserved : goal.loop-cluster-preserved
loop-cluster-preserved c =
    let inv = subst (λ bs. CutSoFar c.args.place c.args.clusters.now.items bs) c.in-Some.ensures.items c.loop-cluster.invariant in
    cut_more c.args.place c.args.clusters.now.items c.pop.new.self.items c.in-Some.cluster inv c.if-cluster-place.false

pub returns-then-cluster-place : goal.returns-then-cluster-place
returns-then-cluster-place c =
    let inv = subst (λ bs. CutSoFar c.args.place c.args.clusters.now.items bs) c.in-Some.ensures.items c.loop-cluster.invariant in
    subst (λ bs. IsCut c.args.place c.args.clusters.now.items bs) (sym c.in_ok-push.ensures.items)
    (cut_ends c.args.place c.args.clusters.now.items c.pop.new.self.items c.in-Some.cluster inv c.if-cluster-place.true)

pub returns : goal.returns
returns c =
    let none : c.pop.new.self.items ≡ [] =
    is_empty c.pop.new.self.items (omega (arith, c.in_default.ensures.cases, c.in_default.ensures.variant, c.in_default.ensures.len)) in
    let all : c.loop-cluster.clusters.items ≡ [] = no_more c.loop-cluster.clusters.items c.pop.new.self.items c.in_default.ensures.items none in
    subst (λ bs. IsCut c.args.place c.args.clusters.now.items bs) (sym none)
    (cut_none c.args.place c.args.clusters.now.items (subst (λ bs. CutSoFar c.args.place c.args.clusters.now.items bs) all c.loop-cluster.invariant))
