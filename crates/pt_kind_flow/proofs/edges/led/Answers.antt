use Rattle.std.proofs.Common.{◌++◌, ◌<◌, ◌≤◌, length, take, ap, ◌∙◌, arith}
use Rattle.pt_kinds.specs.Forest.{list_at}
use Rattle.pt_kind_flow.specs.Flow.{given, led, kind_list}
use Rattle.pt_kind_flow.proofs.Beginnings.{led_few, led_many}
use Rattle.pt_kind_flow.proofs.Forests.{has_itself, has_as, has_then, grown}
use Rattle.pt_kind_flow.proofs.edges.led.Goals as goal

pub returns-then-len-edge : goal.returns-then-len-edge
returns-then-len-edge c =
    let f = c.args.forest.now in let e = c.args.edge.now in let ks = list_at f c.args.list in
    has_itself f c.args.list (led e ks) c.requires.forest c.requires.inside (led_few e.keeps (given e) e.raises ks (let h : length ks < e.keeps = omega (arith, c.if-len-edge.true, c.len.ensures) in h))

pub returns : goal.returns
returns c =
    let f = c.args.forest.now in let e = c.args.edge.now in let ks = list_at f c.args.list in
    let h : e.keeps ≤ length ks = omega (arith, c.if-len-edge.false, c.len.ensures) in
    let a = c.in_ok-kept.ensures in
    let b = has_as c.cut.new.self c.push_runs.new.forest c.in_ok-given.given _ (take e.keeps ks ++ given e) (ap (λ xs. xs ++ given e) a.is) c.in_ok-given.ensures in
    let d = has_as c.push_runs.new.forest c.push_some.new.forest c.in_ok-top.top _ (led e ks)
    (ap (λ xs. xs ++ kind_list c.raised-raised.result) b.is ∙ (ap (λ o. (take e.keeps ks ++ given e) ++ kind_list o) c.raised-raised.ensures ∙ led_many e.keeps (given e) e.raises ks h)) c.in_ok-top.ensures in
    has_then f c.cut.new.self c.push_some.new.forest c.in_ok-top.top (led e ks) (grown f c.cut.new.self c.in_ok-kept.kept _ a)
    (has_then c.cut.new.self c.push_runs.new.forest c.push_some.new.forest c.in_ok-top.top (led e ks) (grown c.cut.new.self c.push_runs.new.forest c.in_ok-given.given _ b) d)
