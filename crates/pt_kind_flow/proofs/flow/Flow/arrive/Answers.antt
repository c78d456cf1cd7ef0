use Rattle.std.proofs.Common.{◌≡◌, ◌<◌, ◌≤◌, length, Some, None, refl, arith}
use Rattle.pt_kinds.specs.Forest.{list_at}
use Rattle.pt_kind_flow.proofs.Stages.{entry_is, arrived_far, arrived_known, arrived_again, due_is_inside, arrived_first, arrived_shorter}
use Rattle.pt_kind_flow.proofs.flow.Flow.arrive.Goals as goal

pub returns-then-arrival-len : goal.returns-then-arrival-len
returns-then-arrival-len c = let s = c.args.self.now in
    arrived_far s c.args.arrival c.requires.opens c.requires.first c.requires.sorted (let h : length s.table.items ≤ c.args.arrival.to = omega (arith, c.if-arrival-len.true, c.len.ensures) in h)

pub go_on-requires-clause-inside : goal.go_on-requires-clause-inside
go_on-requires-clause-inside c = due_is_inside c.args.self.now c.args.arrival c.requires.opens c.requires.first c.requires.sorted

pub common-count-requires-clause-one : goal.common-count-requires-clause-one
common-count-requires-clause-one c = let s = c.args.self.now in
    let lt : c.args.arrival.to < length s.table.items = omega (arith, c.if-arrival-len.false, c.len.ensures) in
    c.requires.opens.inside c.args.arrival.to c.in-Some.known (entry_is s.table.items c.args.arrival.to c.index.result.now (Some c.in-Some.known) lt c.index.ensures c.in-Some.is)

pub common-count-requires-clause-other : goal.common-count-requires-clause-other
common-count-requires-clause-other c = due_is_inside c.args.self.now c.args.arrival c.requires.opens c.requires.first c.requires.sorted

pub len-requires-in-Some-clause-inside : goal.len-requires-in-Some-clause-inside
len-requires-in-Some-clause-inside c = let s = c.args.self.now in
    let lt : c.args.arrival.to < length s.table.items = omega (arith, c.if-arrival-len.false, c.len.ensures) in
    c.requires.opens.inside c.args.arrival.to c.in-Some.known (entry_is s.table.items c.args.arrival.to c.index.result.now (Some c.in-Some.known) lt c.index.ensures c.in-Some.is)

pub returns-then-count-len : goal.returns-then-count-len
returns-then-count-len c = let s = c.args.self.now in
    let lt : c.args.arrival.to < length s.table.items = omega (arith, c.if-arrival-len.false, c.len.ensures) in
    let e = entry_is s.table.items c.args.arrival.to c.index.result.now (Some c.in-Some.known) lt c.index.ensures c.in-Some.is in
    arrived_known s c.args.arrival c.requires.opens c.requires.first c.requires.sorted c.in-Some.known c.common-count.result e c.common-count.ensures
    (let h : c.common-count.result ≡ length (list_at s.forest c.in-Some.known) = omega (arith, c.if-count-len.true, c.len-in-Some.ensures) in h)

pub cut-requires-clause-inside : goal.cut-requires-clause-inside
cut-requires-clause-inside c = let s = c.args.self.now in
    let lt : c.args.arrival.to < length s.table.items = omega (arith, c.if-arrival-len.false, c.len.ensures) in
    c.requires.opens.inside c.args.arrival.to c.in-Some.known (entry_is s.table.items c.args.arrival.to c.index.result.now (Some c.in-Some.known) lt c.index.ensures c.in-Some.is)

pub returns-in_ok-go_on-in-None : goal.returns-in_ok-go_on-in-None
returns-in_ok-go_on-in-None c = let s = c.args.self.now in
    let lt : c.args.arrival.to < length s.table.items = omega (arith, c.if-arrival-len.false, c.len.ensures) in
    arrived_first s c.args.arrival c.requires.opens c.requires.first c.requires.sorted c.go_on.new.self lt (entry_is s.table.items c.args.arrival.to c.index.result.now None lt c.index.ensures c.in-None.is)
    c.in_ok-go_on-in-None.ensures

pub returns-in_ok-go_on-in-Some : goal.returns-in_ok-go_on-in-Some
returns-in_ok-go_on-in-Some c = let s = c.args.self.now in
    let lt : c.args.arrival.to < length s.table.items = omega (arith, c.if-arrival-len.false, c.len.ensures) in
    let e = entry_is s.table.items c.args.arrival.to c.index.result.now (Some c.in-Some.known) lt c.index.ensures c.in-Some.is in
    arrived_shorter s c.args.arrival c.requires.opens c.requires.first c.requires.sorted c.go_on-in-Some.new.self lt c.cut.new.self c.in_ok-list-in-Some.list c.in-Some.known c.common-count.result e
    c.common-count.ensures c.in_ok-list-in-Some.ensures c.in_ok-go_on-in-Some.ensures

pub go_on-requires-clause-sorted : goal.go_on-requires-clause-sorted
go_on-requires-clause-sorted c = c.requires.sorted c.args.arrival.to

pub returns-then-arrival-urgency_of : goal.returns-then-arrival-urgency_of
returns-then-arrival-urgency_of c = arrived_again c.args.self.now c.args.arrival c.requires.opens c.requires.first c.requires.sorted c.push.new.self _ c.in_ok-push-in-Some.ensures.permutation refl refl
