use Rattle.std.proofs.Common.{sym, subst}
use Rattle.sem_fits.specs.fits.Agreement.{Agrees}
use Rattle.sem_fits.proofs.fits.ViewLaid.{view_is_laid}
use Rattle.pt_block_limits.specs.Limits.{TellsLoops}
use Rattle.pt_verify_depths.specs.PlaceTable.{AreSizes}
use Rattle.pt_refusals.specs.Laws.{TellsBlock}
use Rattle.pt_refusals.specs.Verdicts.{refusal_behind}
use Rattle.pt_refusals.proofs.Refusing.{agreeing_blocks_are_told}
use Rattle.pt_verify.proofs.ProbeLemmas.{its, its_tables}
use Rattle.pt_verify.proofs.block.refusal_of_agreeing.Goals as goal

pub returns : goal.returns
returns c = λ b t are held agrees.
    let probe = c.args.probe.now in
    let code = probe.code.now in
    let block = probe.block.now in
    let i = its probe b t in
    let sizes = c.args.sizes.now in
    let its_are = subst (λ x. AreSizes x sizes) t.same are in
    let its_agree = subst (λ x. Agrees x x.size) t.same agrees in
    subst (λ m. TellsBlock b m) (sym c.refusal_behind.ensures) (subst (λ x. TellsBlock x (refusal_behind c.in_ok-lost.lost c.is_too_deep.result c.in_ok-loops.loops)) (sym t.same)
    (agreeing_blocks_are_told i (its_tables probe b t) its_agree _
    (c.in_ok-lost.ensures i (view_is_laid code block t.view t.seen) t.places its_are) _ (c.is_too_deep.ensures i its_are) _
    (subst (λ x. TellsLoops x c.in_ok-loops.loops) t.same (c.in_ok-loops.ensures b t are held))))
