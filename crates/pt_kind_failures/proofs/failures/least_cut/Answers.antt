use Rattle.std.proofs.Common.{◌+◌, ◌∙◌, sym, subst, ap}
use Rattle.std.specs.Prelude.{option_map}
use Rattle.std.proofs.lemmas.Result.{IfOk-weaker}
use Rattle.sem_fits.specs.fits.Block.{block_of}
use Rattle.pt_verify_depths.specs.Refusals.{CutsOf}
use Rattle.pt_refusals.specs.Told.{TellsLeast}
use Rattle.pt_kind_failures.proofs.Seen.{is_seen, has_sizes}
use Rattle.pt_kind_failures.proofs.Telling.{tells_row}
use Rattle.pt_kind_failures.proofs.failures.least_cut.Goals as goal

pub returns : goal.returns
returns c = IfOk-weaker c.row_number.result _ _ (λ row told code view v limit are d.
    let block = c.args.block.now in
    let sizes = c.args.sizes.now in
    let b = block_of code block view in
    let seen = is_seen code block view v _ c.requires.long in
    subst (TellsLeast (CutsOf b limit)) (sym (told ∙ ap (λ n. option_map (λ k. n + k) c.in_ok-cut.cut) c.len.ensures))
    (tells_row b limit c.in_ok-cut.cut (c.in_ok-cut.ensures b limit (sym c.as_slice.ensures) d seen (has_sizes b limit sizes are))))
    c.row_number.ensures
