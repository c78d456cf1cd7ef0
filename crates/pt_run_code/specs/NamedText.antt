-- The text that a code names, each text as often as it is named: by a block as its name, and as those of its local names, cells and free names, by lists
-- and by constants.
use Rattle.std.specs.Prelude.{ℕ, List, [], ◌++◌}
use Rattle.std.specs.List.{flat_map}
use Rattle.pt_tree.specs.Syntax.{Name}
use Rattle.pt_instr.specs.declared.TextNo.{TextNo}
use Rattle.pt_code.specs.declared.Const.{Const}
use Rattle.pt_code.specs.declared.Const.TheVariants as const
use Rattle.pt_code.specs.declared.CodeBlock.{CodeBlock}
use Rattle.pt_code.specs.declared.Code.{Code}
use Rattle.sem_code.specs.slots.BlockObject.{text_in}

-- the bytes of text that a code may name
abbrev pub named_text_limit : ℕ
named_text_limit = 1073741824

abbrev pub listed_text : (texts : List Name) → List ℕ → List ℕ
listed_text texts ts = flat_map (text_in texts) ts

abbrev pub names_text : (texts : List Name) → List TextNo → List ℕ
names_text texts xs = flat_map (λ x. text_in texts x.0) xs

abbrev pub constant_text : (texts : List Name) → Const → List ℕ
constant_text texts (const.Text t) = text_in texts t.0
constant_text texts k = []

abbrev pub block_text : (texts : List Name) → CodeBlock → List ℕ
block_text texts b = text_in texts b.name.0 ++ (names_text texts b.locals ++ (names_text texts b.cells ++ names_text texts b.free))

abbrev pub named_text : Code → List ℕ
named_text c =
    flat_map (block_text c.texts) c.blocks ++ (flat_map (listed_text c.texts) c.lists ++ flat_map (constant_text c.texts) c.constants)
