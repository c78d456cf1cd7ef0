use Rattle.std.proofs.Common.{subst}
use Rattle.std.proofs.lemmas.Result.{IfOk-weaker}
use Rattle.sem_fits.specs.fits.Block.{block_of}
use Rattle.sem_fits.specs.fits.Fits as F
use Rattle.pt_block_tables.specs.FirstRow.{TellsRows}
use Rattle.pt_verify.proofs.block.block_refusal.Goals as goal

pub returns-in-Some : goal.returns-in-Some
returns-in-Some c = λ defaults view v.
    F.tables c.in-Some.row (subst (TellsRows (block_of c.args.code.now c.args.block.now view)) c.in-Some.is
    (c.in_ok-row.ensures c.args.code.now view (c.in_ok-places.ensures view v)))

pub returns : goal.returns
returns c = IfOk-weaker c.refusal_of_laid.result _ _
    (λ told h defaults view v. h defaults view v (c.in_ok-places.ensures view v)
    (subst (TellsRows (block_of c.args.code.now c.args.block.now view)) c.in-None.is
    (c.in_ok-row.ensures c.args.code.now view (c.in_ok-places.ensures view v))))
    c.refusal_of_laid.ensures
