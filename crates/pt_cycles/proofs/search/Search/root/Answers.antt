use Rattle.std.proofs.lemmas.Result.{IfOk-weaker}
use Rattle.pt_cycles.specs.declared.search.State.TheVariants.{New}
use Rattle.pt_cycles.proofs.Tables.{state_is, state_back}
use Rattle.pt_cycles.proofs.Stepping.{in_states, root_open, root_done, root_seen}
use Rattle.pt_cycles.proofs.search.Search.root.Goals as goal

pub settle-requires : goal.settle-requires
settle-requires g c =
    let d = g.G.Graph.edges c.args.graph.now in let s = c.args.self.now in
    root_open d c.args.vertex s c.requires.inside c.requires.before
    (state_is s.states.items c.args.vertex c.index.result.now New
    (in_states d c.args.vertex s c.requires.inside c.requires.before) c.index.ensures c.in-New.is) c.visit.new.self c.in_ok-visit-in-New.ensures

pub returns-in_ok-visit-in-New : goal.returns-in_ok-visit-in-New
returns-in_ok-visit-in-New g c =
    let d = g.G.Graph.edges c.args.graph.now in let s = c.args.self.now in
    IfOk-weaker c.settle.result _ _
    (λ x is. root_done d c.args.vertex s c.requires.inside c.requires.before
    (state_is s.states.items c.args.vertex c.index.result.now New (in_states d c.args.vertex s c.requires.inside c.requires.before) c.index.ensures c.in-New.is)
    c.visit.new.self c.in_ok-visit-in-New.ensures c.settle.new.self is)
    c.settle.ensures

pub returns-in_default : goal.returns-in_default
returns-in_default g c =
    let d = g.G.Graph.edges c.args.graph.now in let s = c.args.self.now in
    root_seen d c.args.vertex s c.requires.inside c.requires.before
    (λ e. c.in_default.not-New (state_back s.states.items c.args.vertex c.index.result.now New
    (in_states d c.args.vertex s c.requires.inside c.requires.before) c.index.ensures e))
