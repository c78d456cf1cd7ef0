-- The blocks of a code that has a file are seen.
use Rattle.std.specs.Prelude.{ℕ, Contains, Option}
use Rattle.pt_code.specs.declared.CodeBlock.{CodeBlock}
use Rattle.pt_code.specs.declared.Code.{Code}
use Rattle.pt_code.specs.File.{HasFile}
use Rattle.pt_code.specs.View.{Ins, IsView}

pub record HasView (b : CodeBlock) : Type 0 where
  pub view : ℕ → Option Ins
  pub is : IsView b view

-- so what is told of a block by its view is told of each block that is read
abbrev pub BlocksAreSeen : Code → Type 0
BlocksAreSeen c = HasFile c → (b : CodeBlock) → Contains c.blocks b → HasView b
