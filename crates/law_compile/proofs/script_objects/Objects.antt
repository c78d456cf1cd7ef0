-- Code objects of a script's code have what the laws of the code ask.
use Rattle.std.proofs.Common.{◌≡◌, ℕ, Some, None}
use Rattle.pt_tree.specs.Syntax.{Stms}
use Rattle.pt_tree.specs.Blocks.{Block}
use Rattle.sem_code.specs.slots.CodeObject.{CodeObject}
use Rattle.law_typed_pieces.proofs.law_operands.piece_names.Script.{names_are_found}
use Rattle.law_front.proofs.script_numbers.Scripts.{numbered}
use Rattle.law_typed_pieces.proofs.law_operands.free_pieces.Script.{blocks_have_free_names}
use Rattle.pt_bare_code.specs.law_code_runs.code_follows.Laws.{HasObject}
use Rattle.pt_bare_code.proofs.law_code_runs.code_follows.Agreement.{free_names_have_cells}
use Rattle.pt_bare_code.proofs.law_code_runs.code_follows.Objects.{script_has_its_code}
use Rattle.law_compile.proofs.loop_exits.Reached.{exits_are_reached}
use Rattle.law_compile.proofs.formed.Arguments.{arguments_plain}
use Rattle.law_compile.proofs.formed.Statements.{statements_have_parts}
use Rattle.law_compile.proofs.formed.Blocks.{blocks_are_formed}
use Rattle.law_compile.proofs.formed_scripts.Statements.{scripts_are_formed}
use Rattle.law_compile.specs.script_objects.Laws.{HasCode, ObjectsHaveTheirCode, ReadScriptIsFollowed}

pub objects_have_their_code : {V : Type 0} → ObjectsHaveTheirCode V
objects_have_their_code null ss n block object none formed keeps h =
    let of_block = blocks_are_formed ss n block formed h.is_block in record {
      is_block = h.is_block;
      layout = h.layout;
      is_layout = h.is_layout;
      fits = h.fits;
      is_object = h.is_object;
      exits = exits_are_reached ss n block h.layout object none (record {
        is_block = h.is_block;
        is_layout = h.is_layout;
        fits = h.fits;
        is_object = h.is_object;
        named = names_are_found {V = Unit {0}} tt ss n block h.is_block (arguments_plain {V = Unit {0}} tt block.code of_block);
        takes = λ m. free_names_have_cells ss n m keeps;
        parts = statements_have_parts block.code of_block;
      });
      same_null = h.same_null;
      knows_truths = h.knows_truths;
      plain = arguments_plain null block.code of_block;
    }

pub read_script_is_followed : {V : Type 0} → ReadScriptIsFollowed V
read_script_is_followed null script ss source code is formed none unused of =
    let keeps = blocks_have_free_names ss none (numbered script ss is) unused in
    script_has_its_code null ss source code none keeps (λ b. let h = of b in record {
      number = h.number;
      block = h.block;
      has_object = objects_have_their_code null ss h.number h.block (code.object b) none (scripts_are_formed script ss formed is) keeps h.has_code;
      same_code = h.same_code;
      same_around = h.same_around;
      same_start = h.same_start;
    })
