use Rattle.std.proofs.Common.{false, arith, get_or}
use Rattle.std.proofs.lemmas.Option.{slice_get-get_or}
use Rattle.pt_ranges.specs.declared.handlers.Handler.{Handler}
use Rattle.pt_cut_failures.proofs.Chaining.{chain_starts, chain_more, chained}
use Rattle.pt_cut_failures.proofs.chains.add_chain.Goals as goal

abbrev none_there : Handler
none_there = record { from = record { 0 = 0 }; to = record { 0 = 0 }; target = record { 0 = 0 }; depth = 0; always = false }

pub loop-at-init : goal.loop-at-init
loop-at-init c = chain_starts c.args.links.now.items c.args.rows.now

pub loop-at-preserved : goal.loop-at-preserved
loop-at-preserved c = let rows = c.args.rows.now in
    chain_more c.args.links.now.items rows c.loop-at.links.items c.push.new.self.items c.loop-at.at (get_or rows c.loop-at.at none_there) c.loop-at.invariant
    (slice_get-get_or rows c.loop-at.at none_there c.loop-at-test.true) c.in_ok-push.ensures.items

pub returns : goal.returns
returns c = chained c.args.links.now.items c.args.rows.now c.loop-at.links.items c.loop-at.at (omega (arith, c.loop-at-test.false, c.loop-at.auto.at-end)) c.loop-at.invariant
