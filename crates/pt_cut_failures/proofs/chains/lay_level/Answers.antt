use Rattle.std.proofs.Common.{◌≡◌, ◌+◌, [], length, map, sym, ◌∙◌, subst, arith}
use Rattle.std.proofs.lemmas.List.{length-map}
use Rattle.pt_sizes.specs.Waiting.{Level, stretch_of}
use Rattle.pt_cut_failures.specs.Chains.{StandsFrom}
use Rattle.pt_cut_failures.proofs.Chaining.{Laying, InLevel, laying_starts, laying_more, level_stays, level_laid, read_map}
use Rattle.pt_cut_failures.proofs.chains.lay_level.Goals as goal

pub loop-stretch-init : goal.loop-stretch-init
loop-stretch-init c = let level : Level = map (λ rows. rows.items) c.args.level.now in
    subst (λ xs. Laying 0 (InLevel level) c.args.links.now.items c.args.links.now.items xs 0) (sym c.new-starts.ensures.items)
    (laying_starts 0 (InLevel level) (level_stays level) c.args.links.now.items)

pub loop-stretch-preserved : goal.loop-stretch-preserved
loop-stretch-preserved c =
    let level : Level = map (λ rows. rows.items) c.args.level.now in
    let l = c.loop-stretch in
    let new = c.add_chain.new.links.items in
    let chained = c.in_ok-add_chain.ensures in
    let here : stretch_of level l.stretch ≡ c.deref.result.now = read_map (λ rows. rows.items) c.args.level.now l.stretch c.index-level-stretch.result [] c.loop-stretch-test.true c.index-level-stretch.is
    ∙ sym c.deref.ensures.value in
    let first : length l.links.items ≡ c.len.result = omega (arith, c.len.ensures) in
    let stands = subst (λ n. StandsFrom new n (stretch_of level l.stretch)) first (subst (λ rows. StandsFrom new (length l.links.items) rows) (sym here) chained.stands) in
    subst (λ xs. Laying 0 (InLevel level) c.args.links.now.items new xs (l.stretch + 1)) (sym c.in_ok-push.ensures.items)
    (laying_more 0 (InLevel level) (level_stays level) c.args.links.now.items l.links.items new l.starts.items l.stretch c.len.result l.invariant chained.kept stands)

pub returns : goal.returns
returns c =
    let level : Level = map (λ rows. rows.items) c.args.level.now in
    let l = c.loop-stretch in
    let e = length-map c.args.level.now (λ rows. rows.items) in
    level_laid c.args.links.now.items l.links.items level l.starts.items l.stretch (omega (arith, e, c.loop-stretch-test.false)) l.invariant
