use Rattle.std.proofs.Common.{◌≡◌, ◌∷◌, ◌++◌, [], length, None, replicate, refl, sym, ap, ◌∙◌, subst, arith}
use Rattle.std.proofs.lemmas.List.{length-replicate}
use Rattle.pt_sizes.specs.Waiting.{AllWait, levels_of}
use Rattle.sem_fits.specs.fits.Block.{block_of, kinds_at_start}
use Rattle.pt_verify_depths.specs.Sizes.{sized}
use Rattle.pt_single_sizes.specs.Search.{Spreads}
use Rattle.pt_single_sizes.proofs.Spreading.{opening, are_single}
use Rattle.pt_single_sizes.proofs.Seeing.{is_seen}
use Rattle.pt_single_sizes.proofs.spread.single_sizes.Goals as goal

pub returns-clause-exact : goal.returns-clause-exact
returns-clause-exact c = λ view v has apart.
    let block = c.args.block.now in
    let b = block_of c.args.code.now block view in
    let count = c.in-Some.count in
    let levels = levels_of c.in_ok-build_if_any.field-0.levels in
    let seen = is_seen c.args.code.now block view v count (omega (arith, c.in-Some.ensures, c.len.ensures)) in
    let all = subst (λ rs. AllWait rs count levels) c.as_slice.ensures c.in_ok-build_if_any.ensures in
    let start = sized 0 (length (kinds_at_start block.kind)) in
    let run = c.first_run.result in
    let size : run.count ≡ length (kinds_at_start block.kind) = sym (length-replicate run.count run.kind) ∙ ap length c.first_run.ensures in
    let first : c.push.new.self.items ≡ start ∷ [] = c.in_ok-push.ensures.items ∙ (ap (λ w. w ++ sized 0 run.count ∷ []) c.new.ensures.items ∙ ap (λ n. sized 0 n ∷ []) size) in
    let opens = subst (λ w. Spreads b c.args.limit count (replicate count None) w levels) (sym first) (opening b c.args.limit count seen levels all) in
    let opened = subst (λ t. Spreads b c.args.limit count t c.push.new.self.items levels) (sym c.in_ok-no_sizes.ensures) opens in
    are_single b c.args.limit count seen c.settle.new.self.table.items (levels_of c.settle.new.self.waiting.levels)
    (c.in_ok-settle.ensures.spreads b count (record { links = refl; places = has; seen = seen }) apart opened)
