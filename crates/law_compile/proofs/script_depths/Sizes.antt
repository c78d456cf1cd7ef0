-- The sizes of the places of a script's code agree, and are the numbers of slots that lie there.
use Rattle.std.proofs.Common.{◌≡◌, ℕ, ◌+◌, List, [], ◌∷◌, ◌++◌, length, false, Option, Some, None, refl, sym, ap, ◌∙◌, subst}
use Rattle.std.proofs.lemmas.Bool.{false≢true}
use Rattle.pt_tree.specs.Syntax.{Name, Stms}
use Rattle.pt_tree.specs.Blocks.{Block as ScriptBlock, Code}
use Rattle.pt_instr.specs.declared.TextNo.{TextNo}
use Rattle.pt_code.specs.declared.Const.{Const}
use Rattle.pt_code.specs.declared.CodeBlock.{CodeBlock}
use Rattle.pt_code.specs.declared.Code.{Code as CodeFile}
use Rattle.pt_code.specs.View.{Ins, laid_from}
use Rattle.pt_code.proofs.OneView.{one_view}
use Rattle.sem_control.specs.control.Turn.{Around}
use Rattle.sem_names.specs.Around.{names_of}
use Rattle.sem_code.specs.slots.CodeObject.{CodeObject}
use Rattle.sem_code.specs.slots.BlockObject.{pool_of}
use Rattle.pt_assembler.specs.declared.operation.Placed.{Placed}
use Rattle.pt_assembler.specs.Piece.{Piece}
use Rattle.pt_assembler.specs.PieceAt.{Piece_at}
use Rattle.pt_assembler.specs.Layout.{Written, width, wide, begun, layout, label_at, instrs_of}
use Rattle.pt_assembler.specs.Laws.{IsBlockOf, Shows}
use Rattle.pt_assembler.proofs.Shown.{shown}
use Rattle.pt_assembler.proofs.Standing.{stands_where_laid}
use Rattle.pt_assembler.proofs.TableLemmas.{begins_same}
use Rattle.sem_fits.specs.fits.Block.{Block, block_of, links_of, kinds_at_start}
use Rattle.sem_fits.specs.fits.Agreement.{Strays}
use Rattle.sem_fits.proofs.fits.ViewLaid.{view_is_laid}
use Rattle.sem_fits.proofs.fits.Ways.{place_of}
use Rattle.pt_code.specs.View.{IsView}
use Rattle.law_typed_pieces.specs.law_operands.law_files.sem_compile.stm_pieces.Names.{TakesCells, Code_named}
use Rattle.law_typed_pieces.specs.law_operands.law_files.sem_compile.stm_pieces.Laws.{StandsInLoops, outermost, slots_of}
use Rattle.law_typed_pieces.specs.law_operands.law_files.sem_compile.stm_pieces.StmPiece.{code_piece}
use Rattle.law_typed_pieces.proofs.law_operands.law_files.sem_compile.stm_pieces.Fitting.{pieces_fit}
use Rattle.law_pieces.proofs.script_pieces.Cells.{takes_cells}
use Rattle.law_pieces.proofs.script_pieces.Statements.{exits_in_loops}
use Rattle.law_typed_pieces.specs.law_operands.law_files.sem_compile.compile.ScriptCode.{Tables, begun_block, BlockLayout, layout_of, code_block, code_of}
use Rattle.law_typed_pieces.specs.law_operands.law_files.sem_compile.compile.Laws.{IsLayoutIn}
use Rattle.law_typed_pieces.proofs.law_operands.law_files.sem_compile.compile.Blocks.{blocks_are_laid_out}
use Rattle.law_pieces.proofs.script_code.Begun.{IsBegun, block_begun}
use Rattle.law_pieces.specs.piece_kinds.Walk.{StackMap, kinds_of}
use Rattle.law_pieces.specs.piece_kinds.Table.{next_in, next_of, Rises, Table, IsTableOf}
use Rattle.law_pieces.specs.piece_kinds.Laws.{table_of}
use Rattle.law_pieces.specs.piece_kinds.Laws as kinds
use Rattle.law_pieces.proofs.piece_kinds.PieceLaw.{not_both, is_some_of}
use Rattle.law_typed_pieces.specs.typed_pieces.Laws.{first_slots, IsWhole}
use Rattle.law_typed_pieces.proofs.typed_pieces.Blocks.{pieces_are_typed}
use Rattle.law_typed_pieces.proofs.typed_pieces.Tables.{have_tables}
use Rattle.law_typed_pieces.specs.agreement.Laws.{MostlyAgrees}
use Rattle.law_typed_pieces.proofs.agreement.Agreement.{blocks_agree}
use Rattle.law_typed_pieces.proofs.leave_targets.Targets.{leaves_lead_inside}
use Rattle.law_typed_pieces.specs.script_tables.Laws.{around_block, block_in}
use Rattle.law_typed_pieces.proofs.script_tables.Tables.{bytes_wide, laid_rise, begins_so}
use Rattle.law_compile.specs.loop_exits.Parts.{CodeHasParts}
use Rattle.law_compile.proofs.loop_exits.Leading.{Comes, LeadAll, one_of, leading}
use Rattle.law_compile.proofs.loop_exits.Exits.{in_code}
use Rattle.law_compile.specs.script_depths.Laws.{HasItsSizes, ScriptHasItsSizes}
use Rattle.law_compile.proofs.script_depths.Coming.{has_its_sizes}

-- how many slots a table has at a place
abbrev count : Option StackMap → ℕ
count None = 0
count (Some ks) = length ks

module _ {V : Type 0} (around : Around (Unit {0})) (c : Code) (texts : List Name) (constants : List Const) (lists : List (List ℕ)) (locals cells free : List TextNo)
    (file : CodeFile) (blk : CodeBlock) (object : CodeObject V) where
  abbrev pub piece : Piece
  piece = code_piece around c

  abbrev pub start : Written
  start = begun texts constants lists locals cells free (slots_of c)

  abbrev pub F : Written
  F = layout piece [] start

  abbrev pub B : Block
  B = block_of file blk object.at

  abbrev pub table : Table
  table = table_of B piece (first_slots c)

  -- the object that knows how many slots the table has at each place
  abbrev pub counting : CodeObject V
  counting = record object { depth_at = λ pc. count (table pc) }

  module _ (takes : TakesCells around) (named : Code_named around c) (parts : CodeHasParts c) (loops : StandsInLoops c)
      (whole : IsBlockOf F file blk) (pool : object.pool ≡ pool_of file blk) (view : object.at ≡ laid_from blk 0 (instrs_of F)) (seen : IsView blk object.at)
      (captures : (m : ℕ) → (links_of file).captures m ≡ length (around.captured m)) (begins : kinds_at_start blk.kind ≡ kinds_of (first_slots c)) where
    follows : (before later : List Placed) (p : Placed) → F.instrs ≡ before ++ p ∷ later → next_of B (wide before) ≡ wide before + width p.operation
    follows before later p e =
        ap (λ o. next_in o (wide before)) (ap (λ f. f (wide before)) view ∙ shown blk F before later p whole.marks whole.handlers e)

    typed : IsWhole B piece (first_slots c)
    typed = pieces_are_typed around B takes captures c named

    pub all_lead : LeadAll F table F.instrs
    all_lead = leading F B.links (next_of B) follows table piece [] start (record { around = None; depth = slots_of c }) kinds.outermost [] (λ e. false) [] (Some (first_slots c)) false refl
        (record {
          within = begins_same F.instrs;
          labels = λ k u x. refl;
          agrees = λ q x y. refl;
          after = λ ms e. not_both (sym e ∙ typed.ends);
        })
        (λ k e. absurd (false≢true e)) (λ e j. absurd (false≢true j)) (λ j. absurd (false≢true j)) (in_code around B.links (next_of B) takes captures c named parts loops) tt

    shows : Shows F file blk counting
    shows = record {
      view = view;
      pool = pool;
      depths = λ before behind k a e.
          let h : Comes table (label_at F k) = one_of F table before behind k a (subst (LeadAll F table) e all_lead) in ap count h.there ∙ h.depth;
    }

    pub rises : Rises B
    rises pc i e = laid_rise blk 0 (instrs_of F) pc i (ap (λ f. f pc) (sym view) ∙ e)

    pub stands : Piece_at counting blk.starts piece [] (outermost (slots_of c)) 0 B.size
    stands = subst (λ m. Piece_at counting blk.starts piece [] (outermost (slots_of c)) 0 m) (sym (ap length whole.instructions ∙ bytes_wide F F.instrs))
        (stands_where_laid piece texts constants lists locals cells free (slots_of c) file blk counting (pieces_fit around c takes loops named) whole shows)

    agrees : MostlyAgrees B
    agrees = blocks_agree around c counting blk.starts B takes captures named (λ pc. refl) rises stands begins

    inside : Strays B B.size → ⊥
    inside s = leaves_lead_inside around c counting blk.starts B takes captures named (λ pc. refl) rises stands begins (agrees.inside s)

    pub tables : IsTableOf B table
    tables = have_tables around c counting blk.starts B takes captures named (λ pc. refl) rises stands begins

    some : (i : Ins) × (object.at 0 ≡ Some i)
    some = place_of (tables.reached 0 tables.first tables.start)

    pub sizes : HasItsSizes B object
    sizes = has_its_sizes file blk object pool some (view_is_laid file blk object.at seen) agrees.enough inside agrees.lengths agrees.handlers

-- of a block with the layout of its piece over some tables
abbrev HasSizes : {V : Type 0} → Stms → ScriptBlock → CodeObject V → (n : ℕ) → BlockLayout → Type 0
HasSizes ss k object n b = IsBlockOf b.written (code_of ss) (code_block b) → object.pool ≡ pool_of (code_of ss) (code_block b)
    → object.at ≡ laid_from (code_block b) 0 (instrs_of b.written) → IsView (code_block b) object.at
    → ((m : ℕ) → (links_of (code_of ss)).captures m ≡ length ((around_block ss n).captured m)) → HasItsSizes (block_in ss b object) object

of_layout : {V : Type 0} (ss : Stms) (n : ℕ) (k : ScriptBlock) (object : CodeObject V) (t : Tables) → Code_named (around_block ss n) k.code → CodeHasParts k.code → StandsInLoops k.code
    → HasSizes ss k object n (layout_of t (around_block ss n) (names_of ss n) k)
of_layout {V} ss n k object t named parts loops whole pool view seen captures =
    let around = around_block ss n in
    let h : IsBegun (slots_of k.code) (begun_block t (names_of ss n) k) = block_begun t (names_of ss n) k in
    let b = layout_of t around (names_of ss n) k in
    let blk = code_block b in
    let fresh = begun h.texts h.constants h.lists h.locals h.cells h.free (slots_of k.code) in
    let same : b.written ≡ layout (code_piece around k.code) [] fresh = ap (layout (code_piece around k.code) []) h.is in
    sizes around k.code h.texts h.constants h.lists h.locals h.cells h.free (code_of ss) blk object (takes_cells {V = Unit {0}} tt ss n) named parts loops
    (subst (λ w. IsBlockOf w (code_of ss) blk) same whole) pool (view ∙ ap (λ w. laid_from blk 0 (instrs_of w)) same) seen captures (begins_so k.code)

pub script_has_its_sizes : {V : Type 0} → ScriptHasItsSizes V
script_has_its_sizes {V} ss n k b object no_fault h =
    subst (HasSizes ss k object n) (sym (laid.is ∙ ap (layout_of laid.tables (around_block ss n) (names_of ss n)) same_block))
    (of_layout ss n k object laid.tables h.named h.parts (exits_in_loops ss n k no_fault h.is_block)) laid.whole h.pool the_view h.view h.takes
  where
    laid : IsLayoutIn ss n b
    laid = blocks_are_laid_out ss n b h.is_layout

    same_block : laid.block ≡ k
    same_block = is_some_of (sym laid.is_block ∙ h.is_block)

    the_view : object.at ≡ laid_from (code_block b) 0 (instrs_of b.written)
    the_view = one_view (code_block b) object.at (laid_from (code_block b) 0 (instrs_of b.written)) h.view
        (record { instrs = instrs_of b.written; fits = h.fits; spelled = refl; view_is = refl })
