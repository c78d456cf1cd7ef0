use Rattle.std.proofs.Common.{◌≡◌, ◌+◌, ◌/◌, ◌<◌, suc, [], length, map, sym, ap, ◌∙◌, subst, arith}
use Rattle.pt_sizes.specs.Waiting.{Descends, level_of, levels_of, stretch_of, up}
use Rattle.pt_block_kinds.specs.Leads.{leads_of}
use Rattle.pt_cut_failures.specs.Chains.{start_at, starts_of}
use Rattle.pt_cut_failures.proofs.Chaining.{read_map}
use Rattle.pt_cut_failures.proofs.Entering.{one_level_more}
use Rattle.pt_cut_failures.proofs.chains.Chains.add_entries.Goals as goal

pub add_entry_at-requires : goal.add_entry_at-requires
add_entry_at-requires c =
    let items = c.args.self.now.waiting.levels.items in
    let l = c.loop-level in
    let lt : l.level < length items = omega (arith, c.loop-level-test.true, c.len-level-end.ensures) in
    subst (λ level. Descends (stretch_of level l.node))
    (read_map level_of items l.level c.index.result.now [] lt c.index.ensures ∙ ap (map (λ rows. rows.items)) (sym c.deref-in-loop-level.ensures.value))
    (c.requires l.level l.node)

pub loop-level-preserved : goal.loop-level-preserved
loop-level-preserved c =
    let items = c.args.self.now.waiting.levels.items in
    let l = c.loop-level in
    let lt : l.level < length items = omega (arith, c.loop-level-test.true, c.len-level-end.ensures) in
    let same = read_map level_of items l.level c.index.result.now [] lt c.index.ensures ∙ ap (map (λ rows. rows.items)) (sym c.deref-in-loop-level.ensures.value) in
    let step : suc l.level ≡ l.level + 1 = omega arith in
    let rows = stretch_of (map (λ rows. rows.items) c.deref-in-loop-level.result.now) l.node in (
      ap (λ n. n / 2) l.invariant.0 ∙ ap (λ k. up k c.args.at) step,
      one_level_more c.args.links_from (levels_of c.args.self.now.waiting.levels) (starts_of c.args.self.now.starts) c.args.at c.args.below l.level l.node c.start_at-start.result rows
          (leads_of c.args.edges.now.items) (leads_of l.edges.items) (leads_of c.add_entry_at.new.edges.items) l.invariant.0
          (ap (λ level. stretch_of level l.node) (sym same))
          (c.start_at-start.ensures ∙ ap (λ xs. start_at (map (λ firsts. firsts.items) xs) l.level l.node) c.deref.ensures.value)
          l.invariant.1 c.in_ok-add_entry_at.ensures,
    )
