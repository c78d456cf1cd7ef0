use Rattle.std.proofs.lemmas.Result.{IfOk-weaker}
use Rattle.pt_block_kinds.proofs.Missing.{decides_strays}
use Rattle.pt_block_kinds.proofs.graph.BlockKinds.strays.Goals as goal

pub returns : goal.returns
returns c = IfOk-weaker c.any_astray.result _ _ (λ t x block view has d seen sizes laid.
    decides_strays c.args.code.now block view c.args.places.now has c.args.limit c.args.sizes.now c.args.self.now d seen sizes laid t x) c.any_astray.ensures
