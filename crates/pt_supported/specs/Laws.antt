-- What the laws say of supported scripts.
use Rattle.std.specs.Prelude.{◌≡◌, ℕ, false, slice_get, Some}
use Rattle.pt_tree.specs.Syntax.{Stms}
use Rattle.pt_tree.specs.Blocks.{Block, blocks_script, yields}
use Rattle.pt_supported.specs.Built.{Built}

-- no block of a supported script gives a value on (6.2.9)
abbrev pub BuiltBlocksGiveNothingOn : Type 0
BuiltBlocksGiveNothingOn =
    (ss : Stms) → Built ss → (n : ℕ) (block : Block) → slice_get (blocks_script ss) n ≡ Some block → yields block.code ≡ false
