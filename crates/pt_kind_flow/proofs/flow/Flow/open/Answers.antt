use Rattle.std.proofs.Common.{◌≡◌, ◌<◌, length, Some, None, refl, ap, ◌∙◌, arith}
use Rattle.std.proofs.lemmas.List.{length-set}
use Rattle.pt_kind_flow.proofs.Stages.{entry_is, sorted_here, opens_untold, opens_search, opens_told}
use Rattle.pt_kind_flow.proofs.flow.Flow.open.Goals as goal

pub returns-in_default : goal.returns-in_default
returns-in_default c =
    let s = c.args.self.now in
    let m = c.in_ok-set.ensures in
    let lt : c.args.vertex < length s.table.items = let l = c.requires.flow.opens.long in let h = c.requires.inside in omega (arith, l, h) in
    opens_untold s _ c.args.vertex c.args.edges.items c.requires.flow c.requires.none m refl refl refl refl c.requires.sorted
    (entry_is s.table.items c.args.vertex c.index.result.now None lt c.index.ensures c.in_default.is)

pub go_on-requires-clause-inside : goal.go_on-requires-clause-inside
go_on-requires-clause-inside c =
    let s = c.args.self.now in
    let lt : c.args.vertex < length s.table.items = let l = c.requires.flow.opens.long in let h = c.requires.inside in omega (arith, l, h) in
    c.requires.flow.opens.inside c.args.vertex c.in-Some.list (entry_is s.table.items c.args.vertex c.index.result.now (Some c.in-Some.list) lt c.index.ensures c.in-Some.is)

pub settle-requires : goal.settle-requires
settle-requires c =
    let s = c.args.self.now in
    let m = c.in_ok-set.ensures in
    let lt : c.args.vertex < length s.table.items = let l = c.requires.flow.opens.long in let h = c.requires.inside in omega (arith, l, h) in
    opens_search s _ c.args.vertex c.args.edges.items c.requires.flow c.requires.none m refl refl refl refl c.requires.sorted c.in-Some.list
    (entry_is s.table.items c.args.vertex c.index.result.now (Some c.in-Some.list) lt c.index.ensures c.in-Some.is) lt c.go_on.new.self c.in_ok-go_on.ensures

pub returns : goal.returns
returns c =
    let s = c.args.self.now in
    let m = c.in_ok-set.ensures in
    let lt : c.args.vertex < length s.table.items = let l = c.requires.flow.opens.long in let h = c.requires.inside in omega (arith, l, h) in
    opens_told s _ c.args.vertex c.args.edges.items c.requires.flow c.requires.none m refl refl refl refl c.requires.sorted c.in-Some.list
    (entry_is s.table.items c.args.vertex c.index.result.now (Some c.in-Some.list) lt c.index.ensures c.in-Some.is) lt c.go_on.new.self c.in_ok-go_on.ensures c.settle.new.self c.in_ok-settle.ensures

pub go_on-requires-clause-edges : goal.go_on-requires-clause-edges
go_on-requires-clause-edges c =
    let s = c.args.self.now in
    let e : length c.set.new.self ≡ length s.edges = ap length c.in_ok-set.ensures ∙ length-set s.edges c.args.vertex c.args.edges.items in
    let h = c.requires.inside in omega (arith, e, h)

pub go_on-requires-clause-sorted : goal.go_on-requires-clause-sorted
go_on-requires-clause-sorted c =
    let s = c.args.self.now in
    sorted_here s.edges _ c.args.vertex c.args.edges.items c.in_ok-set.ensures c.requires.inside c.requires.sorted
