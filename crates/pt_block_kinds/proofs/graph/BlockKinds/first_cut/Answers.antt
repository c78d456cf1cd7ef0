use Rattle.std.proofs.lemmas.Result.{IfOk-weaker}
use Rattle.pt_block_kinds.proofs.Failing.{tells_cut, some_places}
use Rattle.pt_block_kinds.proofs.graph.BlockKinds.first_cut.Goals as goal

pub returns : goal.returns
returns c = IfOk-weaker c.short_row.result _ _ (λ row t b p e d seen sizes.
    tells_cut b p c.args.sizes.now c.args.self.now d seen sizes c.args.rows.now e (some_places c.args.sizes.now c.is_empty.result c.is_empty.ensures c.if-is_empty.false) row t) c.short_row.ensures
