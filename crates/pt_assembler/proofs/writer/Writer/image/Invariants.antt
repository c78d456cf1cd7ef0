use Rattle.std.proofs.Common.{◌≡◌, drop}
use Rattle.pt_assembler.specs.Layout.{image_on, no_image}
use Rattle.pt_assembler.proofs.writer.Writer.image.Given as goal

abbrev pub invariant-loop-placed : goal.invariant-loop-placed
invariant-loop-placed l = image_on l.fn.self (drop l.placed-index l.fn.self.instrs) l.image ≡ image_on l.fn.self l.fn.self.instrs no_image
