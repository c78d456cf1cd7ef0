-- The blocks of a text that is a script have their parts.
use Rattle.std.proofs.Common.{◌≡◌, ℕ, List, slice_get, Some, sym, subst, ◌∙◌, append-nil}
use Rattle.pt_tree.specs.Syntax.{Stms}
use Rattle.pt_tree.specs.Blocks.{Block, blocks_script}
use Rattle.pt_wide.specs.Syntax as W
use Rattle.pt_wide.specs.StatementFold.{stms_from}
use Rattle.pt_literals.specs.declared.token.Token.{Token}
use Rattle.pt_readers.specs.Whole.{Are}
use Rattle.pt_grammar.specs.Lexemes.{lexemes}
use Rattle.pt_parser.specs.Script.{a_script}
use Rattle.pt_front.specs.Syntax.{AreWide}
use Rattle.pt_front.specs.Text.{IsScript}
use Rattle.law_front.proofs.script_numbers.Scripts.{numbered}
use Rattle.law_typed_pieces.proofs.law_operands.free_pieces.Script.{blocks_have_free_names}
use Rattle.law_compile.specs.formed.Formed.{CodeFormed}
use Rattle.law_compile.proofs.formed.Arguments.{arguments_plain}
use Rattle.law_compile.proofs.formed.Statements.{statements_have_parts}
use Rattle.law_compile.proofs.formed.Blocks.{blocks_are_formed}
use Rattle.law_compile.proofs.formed_scripts.Statements.{scripts_are_formed}
use Rattle.law_typed_pieces.proofs.law_operands.piece_names.Script.{names_are_found}
use Rattle.law_code_runs.specs.code_follows.Laws.{HasItsFreeNames}
use Rattle.law_code_runs.proofs.code_follows.Agreement.{free_names_have_cells}
use Rattle.law_compile.specs.read_forms.Laws.{IsWideOf}
use Rattle.law_compile.proofs.read_forms.Texts.{scripts_of_texts_are_formed}
use Rattle.law_parts.specs.part_slots.Text.{Code_grammatical, Code_else_apart}
use Rattle.law_parts.proofs.script_parts.Scripts.{blocks_have_parts}
use Rattle.law_front.proofs.token_lines.Tokens.{lines_rise}
use Rattle.law_front.proofs.statement_lines.Statements.{on_lines}
use Rattle.law_jumps.specs.text_parts.OnLines.{StmsOnLines, CodeOnLines}
use Rattle.law_jumps.specs.text_parts.Laws.{BlocksOfTextsHaveParts}
use Rattle.law_jumps.proofs.text_parts.Narrow.{scripts_on_lines}
use Rattle.law_jumps.proofs.text_parts.Blocks.{blocks_on_lines}
use Rattle.law_jumps.proofs.text_parts.Apart.{code_apart, code_grammatical}

wholly : (ts : List Token) (ss : List W.Stm) → AreWide ts ss → Are a_script (lexemes ts) ss
wholly ts ss (front, cut, read) = subst (λ us. Are a_script us ss) (sym (cut.whole ∙ append-nil front)) read.is

-- of a text that is a script
module _ (text : List ℕ) (script : Stms) (is : IsScript text script) where
  script_on_lines : (z : ℕ) × StmsOnLines 0 z script
  script_on_lines =
      let tree = is.are_script in
      let wide = on_lines 0 (lexemes is.tokens) tree.wide (lines_rise text is.tokens is.are_tokens) (wholly is.tokens tree.wide tree.are_wide) in
      (wide.0, scripts_on_lines 0 wide.0 (stms_from tree.wide) script wide.1 tree.is_narrow)

  formed : (wide : W.Stms) × IsWideOf wide script
  formed = scripts_of_texts_are_formed text script is

  code_formed : (n : ℕ) (block : Block) → slice_get (blocks_script script) n ≡ Some block → CodeFormed block.code
  code_formed n block e = let f = formed.1 in blocks_are_formed script n block (scripts_are_formed formed.0 script f.is_formed f.is_script) e

  pub free_names : HasItsFreeNames script
  free_names = let f = formed.1 in blocks_have_free_names script is.no_fault (numbered formed.0 script f.is_script) f.class_name_is_unused

  code_on_lines : (n : ℕ) (block : Block) → slice_get (blocks_script script) n ≡ Some block → CodeOnLines block.code
  code_on_lines n block e = blocks_on_lines 0 script_on_lines.0 script n block script_on_lines.1 e

  pub grammatical : (n : ℕ) (block : Block) → slice_get (blocks_script script) n ≡ Some block → Code_grammatical block.code
  grammatical n block e = code_grammatical block.code (statements_have_parts block.code (code_formed n block e)) (code_on_lines n block e)

  pub apart : (n : ℕ) (block : Block) → slice_get (blocks_script script) n ≡ Some block → Code_else_apart block.code
  apart n block e = code_apart block.code (code_on_lines n block e)

pub blocks_of_texts_have_parts : {V : Type 0} → BlocksOfTextsHaveParts V
blocks_of_texts_have_parts text script n block layout object is at laid shows =
    blocks_have_parts script n block layout object is.no_fault at laid shows
    (names_are_found {V = Unit {0}} tt script n block at (arguments_plain {V = Unit {0}} tt block.code (code_formed text script is n block at)))
    (λ m. free_names_have_cells script n m (free_names text script is)) (grammatical text script is n block at) (apart text script is n block at)
