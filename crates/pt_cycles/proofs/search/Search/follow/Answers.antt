use Rattle.std.proofs.Common.{arith, ◌<◌, length}
use Rattle.std.proofs.lemmas.Result.{IfOk-weaker}
use Rattle.pt_cycles.specs.declared.search.State.TheVariants.{New, OnPath, Done}
use Rattle.pt_cycles.proofs.Tables.{state_is}
use Rattle.pt_cycles.proofs.Stepping.{skip_out, skip_done, follow_back, follow_new}
use Rattle.pt_cycles.proofs.search.Search.follow.Goals as goal

pub returns-then-vertex-len : goal.returns-then-vertex-len
returns-then-vertex-len g c = skip_out (g.G.Graph.edges c.args.graph.now) c.args.self.now c.args.vertex c.requires.known c.requires.last
    (omega (arith, c.if-vertex-len.true, c.len.ensures, c.requires.known.long))

pub returns-in-New : goal.returns-in-New
returns-in-New g c =
    let s = c.args.self.now in
    let lt : c.args.vertex < length s.states.items = omega (arith, c.if-vertex-len.false, c.len.ensures) in
    IfOk-weaker c.visit.result _ _
    (λ x is. follow_new (g.G.Graph.edges c.args.graph.now) s c.args.vertex c.requires.known c.requires.last
    (state_is s.states.items c.args.vertex c.index.result.now New lt c.index.ensures c.in-New.is)
    (omega (arith, lt, c.requires.known.long)) c.visit.new.self is)
    c.visit.ensures

pub returns-in-OnPath : goal.returns-in-OnPath
returns-in-OnPath g c =
    let s = c.args.self.now in
    let lt : c.args.vertex < length s.states.items = omega (arith, c.if-vertex-len.false, c.len.ensures) in
    IfOk-weaker c.cut.result _ _
    (λ x is. follow_back (g.G.Graph.edges c.args.graph.now) s c.args.vertex c.requires.known c.requires.last c.in-OnPath.place
    (state_is s.states.items c.args.vertex c.index.result.now (OnPath c.in-OnPath.place) lt c.index.ensures c.in-OnPath.is)
    (omega (arith, lt, c.requires.known.long)) c.cut.new.clusters is)
    c.cut.ensures

pub returns-in-Done : goal.returns-in-Done
returns-in-Done g c =
    let s = c.args.self.now in
    let lt : c.args.vertex < length s.states.items = omega (arith, c.if-vertex-len.false, c.len.ensures) in
    skip_done (g.G.Graph.edges c.args.graph.now) s c.args.vertex c.requires.known c.requires.last c.in-Done.field-0
    (state_is s.states.items c.args.vertex c.index.result.now (Done c.in-Done.field-0) lt c.index.ensures c.in-Done.is)
