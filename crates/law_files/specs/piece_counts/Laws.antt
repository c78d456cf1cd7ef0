-- What is counted in the pieces of blocks has code.
use Rattle.std.specs.Prelude.{ℕ}
use Rattle.pt_tree.specs.Blocks.{Code}
use Rattle.sem_control.specs.control.Turn.{Around}
use Rattle.sem_compile.specs.stm_pieces.StmPiece.{code_piece}
use Rattle.law_files.specs.piece_counts.Counts.{CountsHaveCode}

abbrev pub WhatIsCountedHasCode : (V : Type 0) → Type 0
WhatIsCountedHasCode V = (around : Around V) (code : Code) (before : ℕ) → CountsHaveCode before (code_piece around code)
