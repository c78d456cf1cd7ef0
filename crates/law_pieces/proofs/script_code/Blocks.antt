-- The code of each block of a script is that of what the block runs.
use Rattle.std.proofs.Common.{◌≡◌, ℕ, [], slice_get, Some, None, sym, ap, ◌∙◌, subst}
use Rattle.pt_tree.specs.Syntax.{Stms}
use Rattle.pt_tree.specs.Blocks.{Block, blocks_script}
use Rattle.pt_scopes.specs.Mentions.{places_script}
use Rattle.pt_scopes.specs.Refusals.{fault_of}
use Rattle.sem_code.specs.slots.CodeObject.{CodeObject}
use Rattle.sem_control.specs.control.Turn.{Around}
use Rattle.pt_assembler.specs.Layout.{begun, layout}
use Rattle.pt_assembler.specs.Laws.{IsBlockOf, Shows}
use Rattle.sem_names.specs.Around.{around_of, names_of}
use Rattle.sem_compile.specs.emitter.Laws.{Agrees}
use Rattle.sem_compile.specs.stm_pieces.Names.{Code_named}
use Rattle.sem_compile.specs.stm_pieces.Laws.{KnowsTruths, Code_at, slots_of}
use Rattle.sem_compile.specs.stm_pieces.StmPiece.{code_piece}
use Rattle.sem_compile.proofs.stm_pieces.Fitting.{pieces_fit}
use Rattle.sem_compile.proofs.stm_pieces.Blocks.{blocks_are_code}
use Rattle.law_pieces.proofs.script_pieces.Cells.{takes_cells}
use Rattle.law_pieces.proofs.script_pieces.Statements.{exits_in_loops}
use Rattle.sem_compile.specs.compile.ScriptCode.{Tables, begun_block, BlockLayout, layout_of, code_block, code_of}
use Rattle.sem_compile.specs.compile.Laws.{IsLayoutIn}
use Rattle.sem_compile.proofs.compile.Blocks.{blocks_are_laid_out}
use Rattle.law_pieces.specs.script_code.Laws.{ScriptIsCode}
use Rattle.law_pieces.proofs.script_code.SamePieces.{same_code}
use Rattle.law_pieces.proofs.script_code.Begun.{IsBegun, block_begun}

is_one : {A : Type 0} {x y : A} → Some x ≡ Some y → x ≡ y
is_one e = cc

-- of a block with the layout of its piece over some tables
abbrev HasCode : {V : Type 0} → (null : V) → Stms → (n : ℕ) → Block → CodeObject V → BlockLayout → Type 0
HasCode null ss n k object b = IsBlockOf b.written (code_of ss) (code_block b) → Shows b.written (code_of ss) (code_block b) object
    → Code_at (around_of null ss n) object (code_block b).starts k.code

of_layout : {V : Type 0} (null : V) (ss : Stms) (n : ℕ) (k : Block) (object : CodeObject V) (t : Tables) → fault_of (places_script ss) ≡ None
    → slice_get (blocks_script ss) n ≡ Some k → Code_named (around_of null ss n) k.code → Agrees (around_of null ss n) object → KnowsTruths object
    → HasCode null ss n k object (layout_of t (around_of {V = Unit {0}} tt ss n) (names_of ss n) k)
of_layout {V} null ss n k object t no_fault is_block named agree truths whole shows =
    blocks_are_code here k.code h.texts h.constants h.lists h.locals h.cells h.free (code_of ss) (code_block b) object
    (pieces_fit here k.code (takes_cells null ss n) (exits_in_loops ss n k no_fault is_block) named)
    (subst (λ p. IsBlockOf (layout p [] (begun h.texts h.constants h.lists h.locals h.cells h.free (slots_of k.code))) (code_of ss) (code_block b)) (sym same)
    (subst (λ w. IsBlockOf (layout (code_piece unit k.code) [] w) (code_of ss) (code_block b)) h.is whole))
    (subst (λ p. Shows (layout p [] (begun h.texts h.constants h.lists h.locals h.cells h.free (slots_of k.code))) (code_of ss) (code_block b) object) (sym same)
    (subst (λ w. Shows (layout (code_piece unit k.code) [] w) (code_of ss) (code_block b) object) h.is shows))
    agree truths
  where
    here : Around V
    here = around_of null ss n

    unit : Around (Unit {0})
    unit = around_of tt ss n

    b : BlockLayout
    b = layout_of t unit (names_of ss n) k

    h : IsBegun (slots_of k.code) (begun_block t (names_of ss n) k)
    h = block_begun t (names_of ss n) k

    same : code_piece here k.code ≡ code_piece unit k.code
    same = same_code unit null k.code

pub script_is_code : {V : Type 0} → ScriptIsCode V
script_is_code {V} null ss n k b object no_fault is_block is_layout shows named agree truths =
    subst (HasCode null ss n k object) (sym (laid.is ∙ ap (layout_of laid.tables (around_of {V = Unit {0}} tt ss n) (names_of ss n)) same_block))
    (of_layout null ss n k object laid.tables no_fault is_block named agree truths) laid.whole shows
  where
    laid : IsLayoutIn ss n b
    laid = blocks_are_laid_out ss n b is_layout

    same_block : laid.block ≡ k
    same_block = is_one (sym laid.is_block ∙ is_block)
