use Rattle.std.proofs.Common.{◌<◌, length, inr, Some, None, arith, nat_eq}
use Rattle.std.proofs.lemmas.Bool.Decides.{nat_tests}
use Rattle.pt_sizes.specs.Waiting.{levels_of}
use Rattle.pt_sizes.specs.Search.{body_of}
use Rattle.pt_sizes.proofs.Tables.{entry_is, entry_out}
use Rattle.pt_sizes.proofs.Going.{step_seen, step_some, step_above, step_below}
use Rattle.pt_sizes.proofs.flow.Search.step.Goals as goal

pub returns-then-step-len : goal.returns-then-step-len
returns-then-step-len c =
    let s = c.args.self.now in let a = c.args.asked.now in
    step_seen (body_of a.places.items a.rows.items a.first) c.args.limit s.table.items s.work.items (levels_of s.waiting.levels) s.deep s.few c.args.step c.requires.open c.requires.sorted
    (inr (entry_out a.places.items c.args.step.to (omega (arith, c.if-step-len.true, c.len.ensures))))

pub returns-in_default : goal.returns-in_default
returns-in_default c =
    let s = c.args.self.now in let a = c.args.asked.now in
    step_seen (body_of a.places.items a.rows.items a.first) c.args.limit s.table.items s.work.items (levels_of s.waiting.levels) s.deep s.few c.args.step c.requires.open c.requires.sorted
    (inr (entry_is a.places.items c.args.step.to c.index.result.now None (omega (arith, c.if-step-len.false, c.len.ensures)) c.index.ensures c.in_default.is))

pub returns-in-Some-index : goal.returns-in-Some-index
returns-in-Some-index c =
    let s = c.args.self.now in let a = c.args.asked.now in
    let lt : c.args.step.to < length a.places.items = omega (arith, c.if-step-len.false, c.len.ensures) in
    step_some (body_of a.places.items a.rows.items a.first) c.args.limit s.table.items s.work.items (levels_of s.waiting.levels) s.deep s.few c.args.step c.requires.open c.requires.sorted
    c.in-Some.place (entry_is a.places.items c.args.step.to c.index.result.now (Some c.in-Some.place) lt c.index.ensures c.in-Some.is)
    c.in-Some-index.size (nat_eq c.in-Some-index.size c.args.step.size)
    (entry_is s.table.items c.args.step.to c.index-2.result.now (Some c.in-Some-index.size) (omega (arith, lt, c.requires.open.long)) c.index-2.ensures c.in-Some-index.is)
    (λ h. grind (arith, nat_tests)) (λ h k. grind (arith, nat_tests))

pub returns-in_ok-go_on-in-None : goal.returns-in_ok-go_on-in-None
returns-in_ok-go_on-in-None c =
    let s = c.args.self.now in let a = c.args.asked.now in
    let lt : c.args.step.to < length a.places.items = omega (arith, c.if-step-len.false, c.len.ensures) in
    step_below (body_of a.places.items a.rows.items a.first) c.args.limit s.table.items s.work.items (levels_of s.waiting.levels) s.deep s.few c.args.step c.requires.open c.requires.sorted
    c.in-Some.place (entry_is a.places.items c.args.step.to c.index.result.now (Some c.in-Some.place) lt c.index.ensures c.in-Some.is)
    (entry_is s.table.items c.args.step.to c.index-2.result.now None (omega (arith, lt, c.requires.open.long)) c.index-2.ensures c.in-None.is)
    (omega (arith, c.if-step-limit.true)) c.go_on.new.self.table.items c.go_on.new.self.work.items (levels_of c.go_on.new.self.waiting.levels) c.go_on.new.self.deep c.go_on.new.self.few
    c.in_ok-go_on-in-None.ensures

pub returns-else-step-limit : goal.returns-else-step-limit
returns-else-step-limit c =
    let s = c.args.self.now in let a = c.args.asked.now in
    let lt : c.args.step.to < length a.places.items = omega (arith, c.if-step-len.false, c.len.ensures) in
    step_above (body_of a.places.items a.rows.items a.first) c.args.limit s.table.items s.work.items (levels_of s.waiting.levels) s.deep s.few c.args.step c.requires.open c.requires.sorted
    c.in-Some.place (entry_is a.places.items c.args.step.to c.index.result.now (Some c.in-Some.place) lt c.index.ensures c.in-Some.is)
    (entry_is s.table.items c.args.step.to c.index-2.result.now None (omega (arith, lt, c.requires.open.long)) c.index-2.ensures c.in-None.is)
    (omega (arith, c.if-step-limit.false))
