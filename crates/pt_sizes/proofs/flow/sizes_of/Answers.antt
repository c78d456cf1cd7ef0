use Rattle.std.proofs.Common.{◌≡◌, ◌+◌, length, [], sym, subst, arith}
use Rattle.std.specs.Prelude.{Contains}
use Rattle.pt_ranges.specs.declared.handlers.Handler.{Handler}
use Rattle.pt_sizes.specs.Flow.{SizesMeet}
use Rattle.pt_sizes.specs.Waiting.{AllWait, levels_of}
use Rattle.pt_sizes.specs.Search.{OpenNow, IsFirstTable, IsLeastDeep, DeepBelow, body_of}
use Rattle.pt_sizes.proofs.Telling.{opening, tell_meet, tell_few, some_deep, tell_deep, tell_table}
use Rattle.pt_sizes.proofs.flow.sizes_of.Goals as goal

pub loop-at-init : goal.loop-at-init
loop-at-init c =
    let levels = levels_of c.in_ok-waiting.waiting.levels in
    let e : c.len.result ≡ length c.args.places.items = omega (arith, c.len.ensures) in
    let t = subst (λ p. IsFirstTable p c.args.first c.in_ok-table.table.items) c.deref.ensures.value c.in_ok-table.ensures in
    let i = subst (λ n. AllWait c.args.rows.items n levels) e (subst (λ r. AllWait r c.len.result levels) c.deref-2.ensures.value c.in_ok-waiting.ensures) in
    opening (body_of c.args.places.items c.args.rows.items c.args.first) c.in_ok-table.table.items levels t i

pub returns-then-not-branch : goal.returns-then-not-branch
returns-then-not-branch c =
    let b = body_of c.args.places.items c.args.rows.items c.args.first in
    let meet : SizesMeet b (c.loop-at.at + 1) = rw c.if-not-branch.true at c.in_ok-stage.ensures in
    tell_meet b c.loop-at.at c.loop-at.search.table.items (levels_of c.loop-at.search.waiting.levels) c.loop-at.invariant (omega (arith, c.loop-at-test.true, c.len-at-end.ensures)) meet

pub deep_row-requires-clause-some : goal.deep_row-requires-clause-some
deep_row-requires-clause-some c =
    let b = body_of c.args.places.items c.args.rows.items c.args.first in
    let s = c.stage.new.self in
    let o : OpenNow b (c.loop-at.at + 1) s.table.items [] (levels_of s.waiting.levels) s.deep s.few = rw c.if-not-branch.false at c.in_ok-stage.ensures in
    subst (λ t. (row : Handler) × (Contains c.args.rows.items row × DeepBelow c.args.places.items t (c.loop-at.at + 1) row)) (sym c.deref-then-search.ensures.value)
    (some_deep b c.loop-at.at c.loop-at.search.table.items (levels_of c.loop-at.search.waiting.levels) c.loop-at.invariant s.table.items (levels_of s.waiting.levels) s.deep s.few o
    c.if-search.true)

pub returns-then-search : goal.returns-then-search
returns-then-search c =
    let b = body_of c.args.places.items c.args.rows.items c.args.first in
    let s = c.stage.new.self in
    let o : OpenNow b (c.loop-at.at + 1) s.table.items [] (levels_of s.waiting.levels) s.deep s.few = rw c.if-not-branch.false at c.in_ok-stage.ensures in
    let least = subst (λ t. IsLeastDeep c.args.places.items c.args.rows.items t (c.loop-at.at + 1) c.in_ok-row.row) c.deref-then-search.ensures.value c.in_ok-row.ensures in
    tell_deep b c.loop-at.at c.loop-at.search.table.items (levels_of c.loop-at.search.waiting.levels) c.loop-at.invariant s.table.items (levels_of s.waiting.levels) s.deep s.few o
    (omega (arith, c.loop-at-test.true, c.len-at-end.ensures)) c.in_ok-row.row least

pub returns-then-search-2 : goal.returns-then-search-2
returns-then-search-2 c =
    let b = body_of c.args.places.items c.args.rows.items c.args.first in
    let s = c.stage.new.self in
    let o : OpenNow b (c.loop-at.at + 1) s.table.items [] (levels_of s.waiting.levels) s.deep s.few = rw c.if-not-branch.false at c.in_ok-stage.ensures in
    tell_few b c.loop-at.at c.loop-at.search.table.items (levels_of c.loop-at.search.waiting.levels) c.loop-at.invariant s.table.items (levels_of s.waiting.levels) s.deep s.few o
    (omega (arith, c.loop-at-test.true, c.len-at-end.ensures)) c.if-search.false c.if-search-2.true

pub returns : goal.returns
returns c =
    let e : c.loop-at.at ≡ length c.args.places.items = omega (arith, c.loop-at-test.false, c.loop-at.auto.at-end, c.len-at-end.ensures) in
    tell_table (body_of c.args.places.items c.args.rows.items c.args.first) c.loop-at.at c.loop-at.search.table.items (levels_of c.loop-at.search.waiting.levels) e c.loop-at.invariant
