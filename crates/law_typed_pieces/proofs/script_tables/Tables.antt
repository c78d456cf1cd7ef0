-- The code of each block of a script has a table of its slots.
use Rattle.std.proofs.Common.{◌≡◌, ℕ, ◌+◌, ◌<◌, Bool, true, false, if◌then◌else◌, nat_eq, List, [], ◌∷◌, map, length, slice_get, Some, None, refl, sym, ap, ◌∙◌, subst, arith, length-append}
use Rattle.std.specs.List.{flat_map}
use Rattle.pt_tree.specs.Syntax.{Stms}
use Rattle.pt_tree.specs.Blocks as B
use Rattle.pt_tree.specs.Blocks.{Block, Code as BlockCode, blocks_script, yields}
use Rattle.pt_instr.specs.declared.Instr.{Instr}
use Rattle.pt_instr.specs.Encoding.{encoding}
use Rattle.pt_code.specs.declared.CodeBlock.{CodeBlock}
use Rattle.pt_code.specs.View.{Ins, ins_at, laid_from}
use Rattle.sem_code.specs.slots.CodeObject.{CodeObject}
use Rattle.pt_assembler.specs.declared.operation.Placed.{Placed}
use Rattle.pt_assembler.specs.PieceAt.{Piece_at}
use Rattle.pt_assembler.specs.Layout.{Written, wide, instr_in, instrs_of}
use Rattle.pt_assembler.specs.Laws.{IsBlockOf, Shows}
use Rattle.pt_assembler.proofs.Shown.{width_in}
use Rattle.sem_names.specs.Around.{names_of}
use Rattle.sem_fits.specs.fits.Block.{kinds_at_start}
use Rattle.law_operands.specs.law_files.sem_compile.stm_pieces.Laws.{outermost, slots_of}
use Rattle.law_operands.specs.law_files.sem_compile.stm_pieces.StmPiece.{code_piece}
use Rattle.law_operands.proofs.law_files.sem_compile.stm_pieces.Fitting.{pieces_fit}
use Rattle.law_pieces.proofs.script_pieces.Cells.{takes_cells}
use Rattle.law_pieces.proofs.script_pieces.Statements.{exits_in_loops}
use Rattle.law_operands.specs.law_files.sem_compile.compile.ScriptCode.{Tables, kind_of, begun_block, BlockLayout, layout_of, code_block, code_of}
use Rattle.law_operands.specs.law_files.sem_compile.compile.Laws.{IsLayoutIn}
use Rattle.law_operands.proofs.law_files.sem_compile.compile.Blocks.{blocks_are_laid_out}
use Rattle.law_pieces.proofs.piece_kinds.PieceLaw.{is_some_of}
use Rattle.pt_scopes.specs.Mentions.{places_script}
use Rattle.pt_scopes.specs.Refusals.{fault_of}
use Rattle.law_operands.specs.law_files.sem_compile.stm_pieces.Names.{Code_named}
use Rattle.pt_code.specs.declared.BlockKind.TheVariants as block
use Rattle.law_pieces.specs.piece_kinds.Walk.{kinds_of}
use Rattle.law_pieces.specs.piece_kinds.Table.{Rises, IsTableOf}
use Rattle.law_pieces.specs.piece_kinds.Laws.{table_of}
use Rattle.law_typed_pieces.specs.typed_pieces.Laws.{first_slots}
use Rattle.law_typed_pieces.proofs.typed_pieces.Tables.{have_tables}
use Rattle.law_pieces.proofs.script_code.Begun.{block_begun, stands_whole}
use Rattle.law_typed_pieces.specs.script_tables.Laws.{around_block, block_in, TakesAll, BlocksHaveTables}

-- as many bytes as its instructions have
pub bytes_wide : (w : Written) (ps : List Placed) → length (flat_map encoding (map (λ p. instr_in w p.operation) ps)) ≡ wide ps
bytes_wide w [] = refl
bytes_wide w (p ∷ ps) =
    length-append (encoding (instr_in w p.operation)) (flat_map encoding (map (λ q. instr_in w q.operation) ps))
    ∙ (let a = width_in w p.operation in let b = bytes_wide w ps in omega (arith, a, b))

-- each instruction has some length
pub laid_rise : (b : CodeBlock) (p : ℕ) (is : List Instr) (pc : ℕ) (i : Ins) → laid_from b p is pc ≡ Some i → pc < i.next
laid_rise b p [] pc i e = absurd (let h : ⊥ = cc in h)
laid_rise b p (j ∷ js) pc i e = by (laid_rise b (p + length (encoding j)) js pc i) (nat_eq p pc) e
  where
    by : (laid_from b (p + length (encoding j)) js pc ≡ Some i → pc < i.next) → (t : Bool)
        → (if t then Some (ins_at b pc j) else laid_from b (p + length (encoding j)) js pc) ≡ Some i → pc < i.next
    by f true h = subst (λ k. pc < k) (ap (λ o. elim o [ None ↦ 0 | Some x ↦ x.next ]) h) (let n : pc < pc + length (encoding j) = omega arith in n)
    by f false h = f h

-- a block has the kinds with which it begins
pub begins_so : (c : BlockCode) → kinds_at_start (kind_of c) ≡ kinds_of (first_slots c)
begins_so (B.of_module ss) = refl
begins_so (B.of_function ss) = by (yields (B.of_function ss))
  where
    by : (t : Bool) → kinds_at_start (if t then block.Generator else block.Function) ≡ []
    by true = refl
    by false = refl
begins_so (B.of_class ss) = refl
begins_so (B.of_lambda l e) = by (yields (B.of_lambda l e))
  where
    by : (t : Bool) → kinds_at_start (if t then block.Generator else block.Function) ≡ []
    by true = refl
    by false = refl
begins_so (B.of_generator l e k t cs) = refl

-- of a block with the layout of its piece over some tables
abbrev HasTable : {V : Type 0} → Stms → (n : ℕ) → Block → CodeObject V → BlockLayout → Type 0
HasTable ss n k object b = IsBlockOf b.written (code_of ss) (code_block b) → Shows b.written (code_of ss) (code_block b) object → TakesAll ss n (block_in ss b object)
    → IsTableOf (block_in ss b object) (table_of (block_in ss b object) (code_piece (around_block ss n) k.code) (first_slots k.code))

of_layout : {V : Type 0} (ss : Stms) (n : ℕ) (k : Block) (object : CodeObject V) (t : Tables) → fault_of (places_script ss) ≡ None → slice_get (blocks_script ss) n ≡ Some k
    → Code_named (around_block ss n) k.code → HasTable ss n k object (layout_of t (around_block ss n) (names_of ss n) k)
of_layout {V} ss n k object t no_fault is_block named whole shows takes =
    have_tables (around_block ss n) k.code object (code_block b).starts (block_in ss b object) (takes_cells {V = Unit {0}} tt ss n) takes named (λ pc. refl) rises
    (subst (λ m. Piece_at object (code_block b).starts (code_piece (around_block ss n) k.code) [] (outermost (slots_of k.code)) 0 m) (sym (bytes_wide w w.instrs))
    (stands_whole (code_piece (around_block ss n) k.code) (slots_of k.code) (begun_block t (names_of ss n) k) (code_of ss) (code_block b) object
    (block_begun t (names_of ss n) k) (pieces_fit (around_block ss n) k.code (takes_cells {V = Unit {0}} tt ss n) (exits_in_loops ss n k no_fault is_block) named) whole shows))
    (begins_so k.code)
  where
    b : BlockLayout
    b = layout_of t (around_block ss n) (names_of ss n) k

    w : Written
    w = b.written

    rises : Rises (block_in ss b object)
    rises pc i e = laid_rise (code_block b) 0 (instrs_of w) pc i (ap (λ f. f pc) (sym shows.view) ∙ e)

pub blocks_have_tables : {V : Type 0} → BlocksHaveTables V
blocks_have_tables {V} ss n k b object no_fault is_block is_layout shows named takes =
    subst (HasTable ss n k object) (sym (laid.is ∙ ap (layout_of laid.tables (around_block ss n) (names_of ss n)) same_block))
    (of_layout ss n k object laid.tables no_fault is_block named) laid.whole shows takes
  where
    laid : IsLayoutIn ss n b
    laid = blocks_are_laid_out ss n b is_layout

    same_block : laid.block ≡ k
    same_block = is_some_of (sym laid.is_block ∙ is_block)
