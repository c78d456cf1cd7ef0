-- Instructions whose operands have four bytes.
use Rattle.std.proofs.Common.{List, [], ◌∷◌, ◌++◌}
use Rattle.pt_assembler.specs.declared.operation.Placed.{Placed}
use Rattle.pt_assembler.specs.Layout.{FitsWell, AllFitWell}

pub fit_end : (ps : List Placed) (p : Placed) → AllFitWell ps → FitsWell p.operation → AllFitWell (ps ++ p ∷ [])
fit_end [] p h f = (f, tt)
fit_end (q ∷ ps) p h f = (h.0, fit_end ps p h.1 f)
