-- Up to the end of a block.
use Rattle.sem_fits.specs.fits.Block.{Block}
use Rattle.pt_verify_leaves.specs.Held.{AreOfBlock}

pub of_block : (b : Block) → AreOfBlock b
of_block b bundles held h = record {
  sound = λ pc t i. let g = h.sound pc t i in record { ins = g.ins; kinds = g.kinds; reached = g.reached; ends = g.ends; holds = g.holds };
  whole = λ pc t g. h.whole pc t (record { ins = g.ins; kinds = g.kinds; reached = g.reached; ends = g.ends; holds = g.holds });
}
