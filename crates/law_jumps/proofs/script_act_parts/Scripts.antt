-- The acts of the code of a script lie in their parts.
use Rattle.std.proofs.Common.{◌≡◌, ℕ, [], slice_get, Some, None, refl, sym, ap, ◌∙◌, subst}
use Rattle.pt_tree.specs.Syntax.{Stms}
use Rattle.pt_tree.specs.Blocks.{Block, Code, blocks_script}
use Rattle.pt_scopes.specs.Mentions.{places_script}
use Rattle.pt_scopes.specs.Refusals.{fault_of}
use Rattle.sem_code.specs.slots.CodeObject.{CodeObject}
use Rattle.pt_assembler.specs.PieceAt.{Piece_at}
use Rattle.pt_assembler.specs.Layout.{Written, instrs_of}
use Rattle.pt_assembler.specs.Laws.{IsBlockOf, Shows}
use Rattle.sem_names.specs.Around.{names_of}
use Rattle.sem_fits.specs.fits.Block as F
use Rattle.sem_compile.specs.stm_pieces.Laws.{outermost, slots_of}
use Rattle.sem_compile.specs.stm_pieces.StmPiece.{code_piece}
use Rattle.sem_compile.specs.stm_pieces.Names.{Code_named}
use Rattle.sem_compile.proofs.stm_pieces.Fitting.{pieces_fit}
use Rattle.law_pieces.proofs.script_pieces.Cells.{takes_cells}
use Rattle.law_pieces.proofs.script_pieces.Statements.{exits_in_loops}
use Rattle.sem_compile.specs.compile.ScriptCode.{Tables, begun_block, BlockLayout, layout_of, code_block, code_of}
use Rattle.sem_compile.specs.compile.Laws.{IsLayoutIn}
use Rattle.sem_compile.proofs.compile.Blocks.{blocks_are_laid_out}
use Rattle.law_typed_pieces.specs.law_operands.piece_names.Laws.{HasPlainArguments}
use Rattle.law_typed_pieces.proofs.law_operands.piece_names.Script.{names_are_found}
use Rattle.law_pieces.specs.piece_kinds.Walk.{kinds_of}
use Rattle.law_pieces.specs.piece_kinds.Table.{Rises, IsTableOf}
use Rattle.law_pieces.specs.piece_kinds.Laws.{table_of, HasKinds}
use Rattle.law_pieces.proofs.piece_kinds.PieceLaw.{is_some_of}
use Rattle.law_pieces.proofs.piece_kinds.OriginLaw.{table_has_kinds}
use Rattle.law_typed_pieces.specs.typed_pieces.Laws.{first_slots}
use Rattle.law_pieces.proofs.script_code.Begun.{block_begun, stands_whole}
use Rattle.law_code_runs.specs.code_run.Parts.{LiesIn}
use Rattle.law_code_runs.specs.code_follows.Laws.{HasObject}
use Rattle.law_code_runs.proofs.code_follows.Objects.{shows}
use Rattle.law_code_runs.proofs.code_follows.Agreement.{free_names_have_cells}
use Rattle.law_typed_pieces.specs.script_tables.Laws.{around_block, block_in, TakesAll}
use Rattle.law_typed_pieces.proofs.script_tables.Tables.{bytes_wide, laid_rise, blocks_have_tables}
use Rattle.law_parts.specs.act_parts.Laws.{ActAt}
use Rattle.law_parts.proofs.act_parts.Blocks.{acts_lie_so}
use Rattle.law_jumps.specs.start_nests.Laws.{own_block}
use Rattle.law_jumps.specs.script_act_parts.Laws.{ScriptActsLieInParts}

-- the piece of a block is all of its code
abbrev Whole : {V : Type 0} → Stms → (n : ℕ) → Block → CodeObject V → BlockLayout → Type 0
Whole ss n k object b = IsBlockOf b.written (code_of ss) (code_block b) → Shows b.written
    (code_of ss) (code_block b) object
    → (let own = block_in ss b object in
    Piece_at object (code_block b).starts (code_piece (around_block ss n) k.code) []
    (outermost (slots_of k.code)) 0 own.size)

of_layout : {V : Type 0} (ss : Stms) (n : ℕ) (k : Block) (object : CodeObject V) (t : Tables)
    → fault_of (places_script ss) ≡ None → slice_get (blocks_script ss) n ≡ Some k
    → Code_named (around_block ss n) k.code → Whole ss n k object (layout_of t (around_block ss n)
    (names_of ss n) k)
of_layout {V} ss n k object t no_fault is_block named whole shows =
    subst (λ m. Piece_at object (code_block b).starts (code_piece (around_block ss n) k.code) []
    (outermost (slots_of k.code)) 0 m) (sym (bytes_wide w w.instrs))
    (stands_whole (code_piece (around_block ss n) k.code) (slots_of k.code) (begun_block t
    (names_of ss n) k) (code_of ss) (code_block b) object
    (block_begun t (names_of ss n) k) (pieces_fit (around_block ss n) k.code
    (takes_cells {V = Unit {0}} tt ss n) (exits_in_loops ss n k no_fault is_block) named) whole
    shows)
  where
    b : BlockLayout
    b = layout_of t (around_block ss n) (names_of ss n) k

    w : Written
    w = b.written

-- which values there are doesn't matter
plain_anyway : {V : Type 0} (null : V) (c : Code) → HasPlainArguments null c → HasPlainArguments
    {V = Unit {0}} tt c
plain_anyway null c h = h

pub script_acts_lie : {V : Type 0} → ScriptActsLieInParts V
script_acts_lie {V} null ss source code b no_fault keeps of parts g pc i mark ks there marked gets =
    acts_lie_so (around_block ss of.number) of.block.code object (code_block has.layout).starts own
    (takes_cells {V = Unit {0}} tt ss of.number) takes named (λ pc. refl) rises whole g
    parts.parts pc at_act (LiesIn own parts.parts.part pc)
    (λ ps h. record {
      kinds = kinds_of at_act.slots;
      gets = h.gets;
      begins = h.begins;
      around = h.around_place;
    })
  where
    object : CodeObject V
    object = code.object b

    has : HasObject null ss of.number of.block object
    has = of.has_object

    own : F.Block
    own = own_block null ss source code b of

    takes : TakesAll ss of.number own
    takes m = free_names_have_cells ss of.number m keeps

    named : Code_named (around_block ss of.number) of.block.code
    named = names_are_found {V = Unit {0}} tt ss of.number of.block has.is_block (plain_anyway null
        of.block.code has.plain)

    shown : Shows has.layout.written (code_of ss) (code_block has.layout) object
    shown = shows null ss of.number of.block object has

    rises : Rises own
    rises p j e = laid_rise (code_block has.layout) 0 (instrs_of has.layout.written) p j
        (ap (λ f. f p) (sym shown.view) ∙ e)

    laid : IsLayoutIn ss of.number has.layout
    laid = blocks_are_laid_out ss of.number has.layout has.is_layout

    whole : Piece_at object (code_block has.layout).starts (code_piece (around_block ss of.number)
        of.block.code) [] (outermost (slots_of of.block.code)) 0 own.size
    whole = subst (Whole ss of.number of.block object)
        (sym (laid.is ∙ ap (layout_of laid.tables (around_block ss of.number)
        (names_of ss of.number)) (is_some_of (sym laid.is_block ∙ has.is_block))))
        (of_layout ss of.number of.block object laid.tables no_fault has.is_block named) laid.whole
        shown

    table : IsTableOf own (table_of own (code_piece (around_block ss of.number) of.block.code)
        (first_slots of.block.code))
    table = blocks_have_tables ss of.number of.block has.layout object no_fault has.is_block
        has.is_layout shown named takes

    known : HasKinds own (table_of own (code_piece (around_block ss of.number) of.block.code)
        (first_slots of.block.code)) pc ks
    known = table_has_kinds own (table_of own (code_piece (around_block ss of.number) of.block.code)
        (first_slots of.block.code)) table pc ks gets

    at_act : ActAt (table_of own (code_piece (around_block ss of.number) of.block.code)
        (first_slots of.block.code)) own pc
    at_act = record {
      instr = i;
      there = there;
      mark = mark;
      marked = marked;
      slots = known.slots;
      kept = known.there;
    }
