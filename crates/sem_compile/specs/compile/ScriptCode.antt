-- The code of a script: its blocks in their order, each laid out from its piece, over texts, constants and lists that go on from block to
-- block (Language Reference 4.1; Library Reference, "inspect": code objects).
use Rattle.std.specs.Prelude.{ℕ, ◌+◌, List, [], ◌∷◌, length, map, is_some, if◌then◌else◌}
use Rattle.pt_tree.specs.Syntax as S
use Rattle.pt_tree.specs.Syntax.{Name, Params, Stms}
use Rattle.pt_tree.specs.Blocks as B
use Rattle.pt_tree.specs.Blocks.{Block, Code as BlockCode, blocks_script, yields}
use Rattle.pt_instr.specs.declared.TextNo.{TextNo}
use Rattle.pt_code.specs.declared.BlockKind.{BlockKind}
use Rattle.pt_code.specs.declared.BlockKind.TheVariants as kind
use Rattle.pt_code.specs.declared.Rest.{Rest}
use Rattle.pt_code.specs.declared.Const.{Const}
use Rattle.pt_code.specs.declared.Code.{Code}
use Rattle.pt_code.specs.declared.CodeBlock.{CodeBlock}
use Rattle.sem_control.specs.control.Turn.{Around}
use Rattle.sem_names.specs.Around.{Names, around_of, names_of}
use Rattle.sem_names.specs.BlockNames.{formal_names}
use Rattle.pt_assembler.specs.declared.image.Heading.{Heading}
use Rattle.pt_assembler.specs.Layout.{Written, begun, with_text, with_local, with_cell, with_free, number_of_text, layout, block_of}
use Rattle.sem_compile.specs.stm_pieces.Laws.{slots_of}
use Rattle.sem_compile.specs.stm_pieces.StmPiece.{code_piece}

-- texts, constants and lists of a code
pub record Tables : Type 0 where
  pub texts : List Name
  pub constants : List Const
  pub lists : List (List ℕ)

abbrev pub no_tables : Tables
no_tables = record { texts = []; constants = []; lists = [] }

abbrev pub tables_of : Written → Tables
tables_of w = record { texts = w.texts; constants = w.constants; lists = w.lists }

-- what a block has beside its instructions and names

-- a function that gives values on makes a generator (6.2.9)
abbrev pub kind_of : BlockCode → BlockKind
kind_of (B.of_module ss) = kind.Module
kind_of (B.of_function ss) = if yields (B.of_function ss) then kind.Generator else kind.Function
kind_of (B.of_class ss) = kind.Class
kind_of (B.of_lambda l e) = if yields (B.of_lambda l e) then kind.Generator else kind.Function
kind_of (B.of_generator l e k t cs) = kind.GeneratorExpression

abbrev pub rest_of : Params → Rest
rest_of (S.parameters ps s ks d) = record { positional = is_some s; named = is_some d }

abbrev pub plain_count : Params → ℕ
plain_count (S.parameters ps s ks d) = length (formal_names ps)

abbrev pub keyword_only_count : Params → ℕ
keyword_only_count (S.parameters ps s ks d) = length (formal_names ks)

abbrev pub heading : TextNo → Block → Heading
heading t k = record {
  name = t;
  kind = kind_of k.code;
  first_line = record { 0 = k.first_line };
  parameters = plain_count k.params;
  rest = rest_of k.params;
  keyword_only = keyword_only_count k.params;
}

-- a block begins with its name and with all of its variables, in their order
abbrev pub with_all : (Name → Written → Written) → List Name → Written → Written
with_all f [] w = w
with_all f (x ∷ xs) w = with_all f xs (f x w)

abbrev pub empty_block : Tables → BlockCode → Written
empty_block t c = begun t.texts t.constants t.lists [] [] [] (slots_of c)

abbrev pub with_names : Names → Written → Written
with_names ns w = with_all with_free ns.frees (with_all with_cell ns.cells (with_all with_local ns.locals w))

abbrev pub begun_block : Tables → Names → Block → Written
begun_block t ns k = with_names ns (with_text k.name (empty_block t k.code))

-- a block that is laid out, with its heading
pub record BlockLayout : Type 0 where
  pub heading : Heading
  pub written : Written

-- a block over the tables of those before it
abbrev pub layout_of : Tables → Around (Unit {0}) → Names → Block → BlockLayout
layout_of t around ns k = record {
  heading = heading (number_of_text k.name (empty_block t k.code)) k;
  written = layout (code_piece around k.code) [] (begun_block t ns k);
}

-- blocks one after the other, of which the first has a number
abbrev pub layouts : Stms → (number : ℕ) → List Block → Tables → List BlockLayout
layouts ss n [] t = []
layouts ss n (k ∷ ks) t = let b = layout_of t (around_of tt ss n) (names_of ss n) k in b ∷ layouts ss (n + 1) ks (tables_of b.written)

abbrev pub script_layouts : Stms → List BlockLayout
script_layouts ss = layouts ss 0 (blocks_script ss) no_tables

-- the tables are those of the last one
abbrev pub tables_behind : Tables → List BlockLayout → Tables
tables_behind t [] = t
tables_behind t (b ∷ bs) = tables_behind (tables_of b.written) bs

abbrev pub code_block : BlockLayout → CodeBlock
code_block b = block_of b.heading b.written

abbrev pub code_with : Tables → List CodeBlock → Code
code_with t bs = record { texts = t.texts; constants = t.constants; lists = t.lists; blocks = bs }

abbrev pub code_of : Stms → Code
code_of ss = let bs = script_layouts ss in code_with (tables_behind no_tables bs) (map code_block bs)
