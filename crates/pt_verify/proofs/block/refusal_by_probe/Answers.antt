use Rattle.std.proofs.Common.{◌≤◌, length, sym, subst, arith}
use Rattle.std.proofs.lemmas.Result.{IfOk-weaker}
use Rattle.pt_verify_depths.specs.PlaceTable.{AreSizes, TellsSizes}
use Rattle.pt_verify.specs.Probing.{last_of}
use Rattle.pt_verify.proofs.block.refusal_by_probe.Goals as goal

pub refusal_of_sized-requires : goal.refusal_of_sized-requires
refusal_of_sized-requires c =
    let size = length c.args.probe.now.block.now.instructions in
    subst (λ s. size ≤ last_of s size) (sym c.in-Agree.is) (omega arith)

pub returns-in-Agree : goal.returns-in-Agree
returns-in-Agree c = IfOk-weaker c.refusal_of_sized.result _ _
    (λ told h b t. h b t (subst (AreSizes b) (sym c.deref.ensures.value) (subst (TellsSizes b) c.in-Agree.is t.sizes)))
    c.refusal_of_sized.ensures
