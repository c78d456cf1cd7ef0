use Rattle.std.proofs.Common.{map, sym, ap, ◌∙◌, subst}
use Rattle.std.specs.Option.{unwrap_or}
use Rattle.std.proofs.lemmas.Result.{IfOk-weaker}
use Rattle.sem_fits.specs.fits.Block.{block_of}
use Rattle.pt_verify_depths.specs.PlaceTable.{AreSizes, TellsSizes}
use Rattle.pt_code_loader.specs.Loaded.{HasDepths}
use Rattle.pt_code_loader.proofs.DepthLemmas.{agreeing}
use Rattle.pt_code_loader.proofs.depths.depths.Goals as goal

pub returns-in-Agree-clause-depths : goal.returns-in-Agree-clause-depths
returns-in-Agree-clause-depths c = IfOk-weaker c.shallow_depths.result _ _
    (λ depths is view v.
    let b = block_of c.args.code.now c.args.block.now view in
    subst (HasDepths b) (sym (is ∙ ap (map (λ s. unwrap_or s 0)) c.deref.ensures.value))
    (agreeing b c.in-Agree.table.items (subst (TellsSizes b) c.in-Agree.is (c.in_ok-table.ensures view v))))
    c.shallow_depths.ensures.depths

pub returns-in-Agree-clause-shallow : goal.returns-in-Agree-clause-shallow
returns-in-Agree-clause-shallow c = IfOk-weaker c.shallow_depths.result _ _
    (λ depths all view v.
    let b = block_of c.args.code.now c.args.block.now view in
    all b (subst (AreSizes b) (sym c.deref.ensures.value)
    (subst (TellsSizes b) c.in-Agree.is (c.in_ok-table.ensures view v))))
    c.shallow_depths.ensures.shallow
