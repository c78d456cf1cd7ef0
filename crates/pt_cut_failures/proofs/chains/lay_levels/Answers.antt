use Rattle.std.proofs.Common.{◌≡◌, ◌+◌, List, ◌∷◌, [], map, sym, ap, ◌∙◌, subst, arith}
use Rattle.std.specs.Prelude.{slice_index_or}
use Rattle.std.proofs.lemmas.List.{length-map, map-append}
use Rattle.pt_sizes.specs.Waiting.{Level, level_of, stretch_of}
use Rattle.pt_cut_failures.specs.Chains.{StandsFrom, starts_of}
use Rattle.pt_cut_failures.proofs.Chaining.{Laying, InLevels, laying_starts, laying_more, levels_stay, levels_laid, read_map}
use Rattle.pt_cut_failures.proofs.chains.lay_levels.Goals as goal

pub loop-level-init : goal.loop-level-init
loop-level-init c = let levels : List Level = map level_of c.args.levels.now in
    subst (λ xs. Laying [] (InLevels levels) c.args.links.now.items c.args.links.now.items (map (λ firsts. firsts.items) xs) 0) (sym c.new-starts.ensures.items)
    (laying_starts [] (InLevels levels) (levels_stay levels) c.args.links.now.items)

pub loop-level-preserved : goal.loop-level-preserved
loop-level-preserved c =
    let levels : List Level = map level_of c.args.levels.now in
    let l = c.loop-level in
    let new = c.lay_level.new.links.items in
    let laid = c.in_ok-lay_level.ensures in
    let here : slice_index_or levels l.level [] ≡ map (λ rows. rows.items) c.deref.result.now =
    read_map level_of c.args.levels.now l.level c.index-levels-level.result [] c.loop-level-test.true c.index-levels-level.is
    ∙ ap (map (λ rows. rows.items)) (sym c.deref.ensures.value) in
    let stands : InLevels levels new l.level c.in_ok-lay_level.field-0.items = λ v. subst (λ level. StandsFrom new (slice_index_or c.in_ok-lay_level.field-0.items v 0) (stretch_of level v)) (sym here) (laid.stands v) in
    subst (λ xs. Laying [] (InLevels levels) c.args.links.now.items new xs (l.level + 1))
    (sym (ap (map (λ firsts. firsts.items)) c.in_ok-push.ensures.items ∙ map-append (λ firsts. firsts.items) l.starts.items (c.in_ok-lay_level.field-0 ∷ [])))
    (laying_more [] (InLevels levels) (levels_stay levels) c.args.links.now.items l.links.items new (starts_of l.starts) l.level c.in_ok-lay_level.field-0.items l.invariant laid.kept stands)

pub returns : goal.returns
returns c =
    let levels : List Level = map level_of c.args.levels.now in
    let l = c.loop-level in
    let e = length-map c.args.levels.now level_of in
    levels_laid c.args.links.now.items l.links.items levels (starts_of l.starts) l.level (omega (arith, e, c.loop-level-test.false)) l.invariant
