-- What the flow of a block's graph tells.
use Rattle.std.proofs.Common.{◌+◌, sym, subst}
use Rattle.pt_kind_flow.specs.Flow.{Comes}
use Rattle.pt_block_kinds.specs.Graph.{rows_from}
use Rattle.pt_block_kinds.specs.Laws.{ComeAsGotten}
use Rattle.pt_block_kinds.proofs.Walks.{gets_come, come_gets, to_row, come_cuts}

pub come_as_gotten : ComeAsGotten
come_as_gotten b p T levels g is seen sizes = record {
  gets = λ q ks c. gets_come b p T levels g is seen sizes c;
  comes = λ q i ks e c. come_gets b p T levels g is seen sizes q i ks e c;
  cuts = λ n row ks e c. subst (Comes g (rows_from T levels + n)) (sym c.is)
      (to_row b p T levels g is seen sizes c.pc c.ins c.kinds c.reached (gets_come b p T levels g is seen sizes c.reached.gets) n row e c.under);
  are_cuts = λ n row ks some e c. come_cuts b p T levels g is seen sizes n row ks e c some;
}
