use Rattle.std.proofs.Common.{◌∙◌, ◌+◌, ap}
use Rattle.std.specs.Prelude.{option_map}
use Rattle.std.proofs.lemmas.Result.{IfOk-weaker}
use Rattle.sem_fits.specs.fits.Block.{block_of}
use Rattle.pt_verify.proofs.ProbeLemmas.{counted_cut}
use Rattle.pt_verify.proofs.cuts.first_cut.Goals as goal

pub returns : goal.returns
returns c = IfOk-weaker c.row_number.result _ _
    (λ told e view v has apart shallow. counted_cut (block_of c.args.code.now c.args.block.now view) c.args.limit c.args.rows c.in_ok-row.row told
    (c.in_ok-row.ensures view v has apart shallow) (e ∙ ap (λ n. option_map (λ k. n + k) c.in_ok-row.row) c.len.ensures))
    c.row_number.ensures
