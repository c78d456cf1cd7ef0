use Rattle.std.proofs.Common.{Some, map, false, ap, ◌∙◌, get_or}
use Rattle.std.proofs.lemmas.Option.{slice_get-get_or}
use Rattle.pt_ranges.specs.declared.handlers.Handler.{Handler}
use Rattle.sem_fits.specs.fits.Tables.{is_laid}
use Rattle.pt_block_tables.proofs.FirstLemmas.{mapped_is, least_at, none_more, none_in_map}
use Rattle.pt_block_tables.proofs.rows.bad_handler.Goals as goal

abbrev none_there : Handler
none_there = record { from = record { 0 = 0 }; to = record { 0 = 0 }; target = record { 0 = 0 }; depth = 0; always = false }

pub returns-then-not-is_laid : goal.returns-then-not-is_laid
returns-then-not-is_laid c = λ b has size.
    let i = c.loop-number.number in let xs = c.args.handlers.now in
    least_at (map (is_laid b) xs) i (c.loop-number.invariant b has size)
    (mapped_is (is_laid b) xs i (get_or xs i none_there) c.is_laid.result (slice_get-get_or xs i none_there c.loop-number-test.true) (c.is_laid.ensures b has size)
    ∙ ap (λ r. Some r) c.if-not-is_laid.true)

pub loop-number-preserved : goal.loop-number-preserved
loop-number-preserved c = λ b has size.
    let i = c.loop-number.number in let xs = c.args.handlers.now in
    none_more (map (is_laid b) xs) i (c.loop-number.invariant b has size)
    (mapped_is (is_laid b) xs i (get_or xs i none_there) c.is_laid.result (slice_get-get_or xs i none_there c.loop-number-test.true) (c.is_laid.ensures b has size)
    ∙ ap (λ r. Some r) c.if-not-is_laid.false)

pub returns : goal.returns
returns c = λ b has size. none_in_map (is_laid b) c.args.handlers.now c.loop-number.number (c.loop-number.invariant b has size) c.loop-number-test.false
