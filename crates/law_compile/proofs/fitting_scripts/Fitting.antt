-- The code of a script fits.
use Rattle.std.proofs.Common.{◌≡◌, ℕ, zero, suc, ◌+◌, Bool, true, false, if◌then◌else◌, nat_eq, List, [], ◌∷◌, ◌++◌, length, map, Option, Some, None, refl, sym, ap, ◌∙◌, subst, append_assoc, arith}
use Rattle.std.specs.Prelude.{slice_get}
use Rattle.std.specs.List.{AllByRecursion}
use Rattle.std.proofs.lemmas.Bool.{false≢true}
use Rattle.pt_tree.specs.Syntax.{Name, Stms}
use Rattle.pt_tree.specs.Blocks.{Block as ScriptBlock, Code}
use Rattle.pt_instr.specs.declared.Instr.{Instr}
use Rattle.pt_instr.specs.declared.Instr.TheVariants as instr
use Rattle.pt_instr.specs.declared.TextNo.{TextNo}
use Rattle.pt_instr.specs.Encoding.{encoding}
use Rattle.pt_code.specs.declared.Const.{Const}
use Rattle.pt_code.specs.declared.CodeBlock.{CodeBlock}
use Rattle.pt_code.specs.declared.Code.{Code as CodeFile}
use Rattle.pt_code.specs.View.{Ins, IsView, ins_at, laid_from}
use Rattle.pt_code.proofs.OneView.{one_view}
use Rattle.sem_control.specs.control.Turn as T
use Rattle.sem_control.specs.control.Turn.{Around}
use Rattle.sem_names.specs.Around.{names_of}
use Rattle.sem_code.specs.slots.CodeObject.{CodeObject}
use Rattle.sem_code.specs.slots.BlockObject.{pool_of}
use Rattle.pt_assembler.specs.declared.operation.Label.{Label}
use Rattle.pt_assembler.specs.declared.operation.Jump.TheVariants as jump
use Rattle.pt_assembler.specs.declared.operation.FreeUse.{FreeUse}
use Rattle.pt_assembler.specs.declared.operation.FreeUse.TheVariants as use_of
use Rattle.pt_assembler.specs.declared.operation.Operation.{Operation}
use Rattle.pt_assembler.specs.declared.operation.Operation.TheVariants.{Plain, To, Free}
use Rattle.pt_assembler.specs.declared.operation.Placed.{Placed}
use Rattle.pt_assembler.specs.PieceAt.{instr_of_free}
use Rattle.pt_assembler.specs.Layout.{Written, begun, instr_in, instrs_of, label_at, layout}
use Rattle.pt_assembler.specs.Laws.{IsBlockOf}
use Rattle.sem_fits.specs.fits.Block.{Block, block_of, links_of, kinds_at_start}
use Rattle.sem_fits.specs.fits.Places.{Gets}
use Rattle.sem_fits.specs.fits.Standing.{may_stand}
use Rattle.sem_fits.specs.fits.Fits.{AllArrive, TablesHold}
use Rattle.pt_verify_depths.proofs.SizeLemmas.{kinds_have_sizes}
use Rattle.law_typed_pieces.specs.law_operands.law_files.sem_compile.stm_pieces.Names.{TakesCells, Code_named}
use Rattle.law_typed_pieces.specs.law_operands.law_files.sem_compile.stm_pieces.Laws.{StandsInLoops, slots_of}
use Rattle.law_typed_pieces.specs.law_operands.law_files.sem_compile.stm_pieces.StmPiece.{code_piece}
use Rattle.law_typed_pieces.proofs.law_operands.law_files.sem_compile.stm_pieces.Rising.{starts_rise}
use Rattle.law_pieces.proofs.script_pieces.Cells.{takes_cells}
use Rattle.law_pieces.proofs.script_pieces.Statements.{exits_in_loops}
use Rattle.law_typed_pieces.specs.law_operands.law_files.sem_compile.compile.ScriptCode.{Tables, begun_block, BlockLayout, layout_of, code_block, code_of, script_layouts}
use Rattle.law_typed_pieces.specs.law_operands.law_files.sem_compile.compile.Laws.{IsLayoutIn}
use Rattle.law_typed_pieces.proofs.law_operands.law_files.sem_compile.compile.Blocks.{blocks_are_laid_out}
use Rattle.law_pieces.proofs.script_code.Begun.{IsBegun, block_begun}
use Rattle.law_pieces.specs.piece_kinds.Walk.{kinds_of}
use Rattle.law_pieces.specs.piece_kinds.Exits.{is_leave}
use Rattle.law_pieces.proofs.piece_kinds.PieceLaw.{is_some_of}
use Rattle.law_typed_pieces.specs.typed_pieces.Laws.{first_slots}
use Rattle.law_typed_pieces.specs.agreement.Laws.{Misplaced}
use Rattle.law_typed_pieces.proofs.leave_targets.Targets.{blocks_agree_there}
use Rattle.law_pieces.specs.forward_pieces.Laws.{InOrder}
use Rattle.law_pieces.proofs.forward_pieces.InOrder.{in_order}
use Rattle.law_typed_pieces.proofs.silent_loops.Loops.{blocks_have_acts_in_loops}
use Rattle.law_typed_pieces.specs.script_tables.Laws.{around_block}
use Rattle.law_typed_pieces.proofs.script_tables.Tables.{begins_so}
use Rattle.law_compile.specs.loop_exits.Parts.{CodeHasParts}
use Rattle.law_compile.proofs.loop_exits.Leading.{LeadAll, one_of}
use Rattle.law_compile.proofs.script_depths.Sizes as sizes
use Rattle.law_typed_pieces.proofs.law_operands.law_files.code_files.Each.{split}
use Rattle.pt_bare_code.proofs.law_code_runs.code_follows.Agreement.{free_names_have_cells}
use Rattle.law_typed_pieces.proofs.law_operands.piece_names.Script.{names_are_found}
use Rattle.law_compile.proofs.formed.Arguments.{arguments_plain}
use Rattle.law_compile.proofs.formed.Statements.{statements_have_parts}
use Rattle.law_compile.proofs.formed.Blocks.{blocks_are_formed}
use Rattle.law_compile.proofs.formed_scripts.Statements.{scripts_are_formed}
use Rattle.law_typed_pieces.proofs.law_operands.free_pieces.Script.{blocks_have_free_names}
use Rattle.law_front.proofs.script_numbers.Scripts.{numbered}
use Rattle.law_typed_pieces.proofs.law_operands.law_files.operands_fit.Operands.{operands_fit}
use Rattle.law_compile.proofs.read_forms.Texts.{scripts_of_texts_are_formed}
use Rattle.law_typed_pieces.specs.standing_pieces.Laws.{LeavesByLabel, StandsLaid}
use Rattle.law_typed_pieces.proofs.standing_pieces.Script.{instructions_may_stand}
use Rattle.law_compile.specs.fitting_scripts.Laws.{BlocksOfScriptsFit, BlocksOfTextsFit, CodeOfTextsFits, FitsIfShallow, SizesTellTheDepth}
use Rattle.law_compile.proofs.fitting_scripts.Rows.{code_laid, tables_hold}

-- what stands at a place was laid out
record Found (w : Written) (i : Ins) : Type 0 where
  before : List Placed
  behind : List Placed
  one : Placed
  is : w.instrs ≡ before ++ one ∷ behind
  same : instr_in w one.operation ≡ i.instr

found : (w : Written) (b : CodeBlock) (pc : ℕ) (i : Ins) (at : ℕ) (before ps : List Placed) → w.instrs ≡ before ++ ps
    → laid_from b at (map (λ (p : Placed). instr_in w p.operation) ps) pc ≡ Some i → Found w i
found w b pc i at before [] e h = absurd (let no : None ≡ Some i = h in cc)
found w b pc i at before (p ∷ ps) e h =
    by (nat_eq at pc) h (found w b pc i (at + length (encoding (instr_in w p.operation))) (before ++ p ∷ []) ps (e ∙ sym (append_assoc before (p ∷ []) ps)))
  where
    by : (t : Bool)
        → (if t then Some (ins_at b pc (instr_in w p.operation))
        else laid_from b (at + length (encoding (instr_in w p.operation))) (map (λ (q : Placed). instr_in w q.operation) ps) pc) ≡ Some i
        → (laid_from b (at + length (encoding (instr_in w p.operation))) (map (λ (q : Placed). instr_in w q.operation) ps) pc ≡ Some i → Found w i) → Found w i
    by true g f = record { before = before; behind = ps; one = p; is = e; same = ap (λ (x : Ins). x.instr) (is_some_of g) }
    by false g f = f g

-- where an instruction leaves a loop to
abbrev left_to : Instr → ℕ
left_to (instr.Leave t) = t.0
left_to i = 0

free_stays : (u : FreeUse) (n : ℕ) → is_leave (instr_of_free u n) ≡ false
free_stays use_of.Load n = refl
free_stays use_of.Store n = refl
free_stays use_of.Delete n = refl
free_stays use_of.Renew n = refl
free_stays use_of.Push n = refl

-- the label of an exit
by_label : (w : Written) (o : Operation) (t : ℕ) → LeavesByLabel o → instr_in w o ≡ instr.Leave (record { 0 = t })
    → (k : Label) × ((o ≡ To jump.Leave k) × ((label_at w k).pc.0 ≡ t))
by_label w (Plain i) t h e = absurd (false≢true (sym h ∙ ap is_leave e))
by_label w (To jump.AtEnd k) t h e = absurd (false≢true (ap is_leave e))
by_label w (To jump.Always k) t h e = absurd (false≢true (ap is_leave e))
by_label w (To jump.IfTrue k) t h e = absurd (false≢true (ap is_leave e))
by_label w (To jump.IfFalse k) t h e = absurd (false≢true (ap is_leave e))
by_label w (To jump.IfTrueKeep k) t h e = absurd (false≢true (ap is_leave e))
by_label w (To jump.IfFalseKeep k) t h e = absurd (false≢true (ap is_leave e))
by_label w (To jump.Leave k) t h e = (k, (refl, ap left_to e))
by_label w (Free u i) t h e = absurd (false≢true (sym (free_stays u _) ∙ ap is_leave e))

module _ {V : Type 0} (around : Around (Unit {0})) (c : Code) (texts : List Name) (constants : List Const) (lists : List (List ℕ))
    (locals cells free : List TextNo)
    (file : CodeFile) (blk : CodeBlock) (object : CodeObject V) (takes : TakesCells around) (named : Code_named around c) (parts : CodeHasParts c)
    (loops : StandsInLoops c) where
  abbrev F : Written
  F = layout (code_piece around c) [] (begun texts constants lists locals cells free (slots_of c))

  module _ (whole : IsBlockOf F file blk) (pool : object.pool ≡ pool_of file blk) (view : object.at ≡ laid_from blk 0 (instrs_of F))
      (seen : IsView blk object.at)
      (captures : (m : ℕ) → (links_of file).captures m ≡ length (around.captured m)) (begins : kinds_at_start blk.kind ≡ kinds_of (first_slots c))
      (stand : AllByRecursion (StandsLaid blk.kind (links_of file) F) F.instrs) where
    abbrev B : Block
    B = block_of file blk object.at

    there : (pc : ℕ) (i : Ins) → object.at pc ≡ Some i → Found F i
    there pc i e = found F blk pc i 0 [] F.instrs refl (ap (λ f. f pc) (sym view) ∙ e)

    stands : (i : Ins) (f : Found F i) → StandsLaid blk.kind (links_of file) F f.one
    stands i f = (split _ f.before (f.one ∷ f.behind) (subst (AllByRecursion (StandsLaid blk.kind (links_of file) F)) f.is stand)).1.0

    placed : Misplaced B → ⊥
    placed m =
        let f = there m.pc m.ins (m.reached).stands in
        false≢true (sym m.misplaced ∙ subst (λ j. may_stand blk.kind (links_of file) j ≡ true) f.same (stands m.ins f).stands)

    arrives : AllArrive B
    arrives pc i ks reached t e =
        let f = there pc i reached.stands in
        let k = by_label F (f.one).operation t (stands i f).leaves (f.same ∙ e) in
        let lead = sizes.all_lead around c texts constants lists locals cells free file blk object takes named parts loops whole pool view seen captures
        begins in
        let is : F.instrs ≡ f.before ++ record { operation = To jump.Leave k.0; act = (f.one).act } ∷ f.behind =
        f.is ∙ ap (λ o. f.before ++ record { operation = o; act = (f.one).act } ∷ f.behind) k.1.0 in
        let table = sizes.table around c texts constants lists locals cells free file blk object in
        let comes = one_of F table f.before f.behind k.0 (f.one).act (subst (LeadAll F table) is lead) in
        let tables = sizes.tables around c texts constants lists locals cells free file blk object takes named parts loops whole pool view seen captures
        begins in
        record {
          kinds = kinds_of comes.slots;
          gets = subst (λ n. Gets B B.size n (kinds_of comes.slots)) k.1.1 (tables.reached (label_at F k.0).pc.0 comes.slots comes.there);
        }

    hold : TablesHold B
    hold =
        let w = begun texts constants lists locals cells free (slots_of c) in
        tables_hold F blk object.at view whole.marks whole.handlers B refl refl refl whole.starts
        (starts_rise around c texts constants lists locals cells free takes named)
        (code_laid F blk object.at view whole.marks whole.handlers around c w refl (record { rows = tt; starts = tt }))

    pub fits : FitsIfShallow B
    fits shallow =
        let counting = sizes.counting around c texts constants lists locals cells free file blk object in
        let rises = sizes.rises around c texts constants lists locals cells free file blk object takes named parts loops whole pool view seen captures begins in
        let piece = sizes.stands around c texts constants lists locals cells free file blk object takes named parts loops whole pool view seen captures
        begins in
        record {
          tables = hold;
          agrees = blocks_agree_there around c counting blk.starts B takes captures named (λ pc. refl) rises piece begins placed;
          arrives = arrives;
          shallow = shallow;
          loops = blocks_have_acts_in_loops around c counting blk.starts B takes captures named
              (λ pc. refl) (subst (InOrder counting) (sym (ap length whole.instructions)) (in_order counting blk (instrs_of F) view)) piece begins;
        }

-- an object that sees these instructions, of which nothing is asked
abbrev looks : (code : CodeFile) (b : CodeBlock) (view : ℕ → Option Ins) → CodeObject (Unit {0})
looks code b view = record {
  at = view;
  depth_at = λ pc. 0;
  pool = pool_of code b;
  extras = record { tuple_join = T.item; dict_merge = T.item; super = T.item };
  null = tt;
  truth = λ t. tt;
  is_truth = λ v. None;
}

module _ (ss : Stms) (n : ℕ) (k : ScriptBlock) (view : ℕ → Option Ins) (named : Code_named (around_block ss n) k.code) (parts : CodeHasParts k.code)
    (loops : StandsInLoops k.code) (captures : (m : ℕ) → (links_of (code_of ss)).captures m ≡ length ((around_block ss n).captured m)) where
  -- of a block with the layout of its piece over some tables
  abbrev FitsLaid : BlockLayout → Type 0
  FitsLaid b = IsBlockOf b.written (code_of ss) (code_block b) → view ≡ laid_from (code_block b) 0 (instrs_of b.written) → IsView (code_block b) view
      → AllByRecursion (StandsLaid b.heading.kind (links_of (code_of ss)) b.written) b.written.instrs
      → FitsIfShallow (block_of (code_of ss) (code_block b) view)

  of_layout : (t : Tables) → FitsLaid (layout_of t (around_block ss n) (names_of ss n) k)
  of_layout t whole seen is stand =
      let around = around_block ss n in
      let h : IsBegun (slots_of k.code) (begun_block t (names_of ss n) k) = block_begun t (names_of ss n) k in
      let b = layout_of t around (names_of ss n) k in
      let blk = code_block b in
      let fresh = begun h.texts h.constants h.lists h.locals h.cells h.free (slots_of k.code) in
      let same : b.written ≡ layout (code_piece around k.code) [] fresh = ap (layout (code_piece around k.code) []) h.is in
      fits around k.code h.texts h.constants h.lists h.locals h.cells h.free (code_of ss) blk (looks (code_of ss) blk view)
      (takes_cells {V = Unit {0}} tt ss n) named parts loops
      (subst (λ w. IsBlockOf w (code_of ss) blk) same whole) refl (seen ∙ ap (λ w. laid_from blk 0 (instrs_of w)) same) is captures (begins_so k.code)
      (subst (λ (w : Written). AllByRecursion (StandsLaid blk.kind (links_of (code_of ss)) w) w.instrs) same stand)

pub blocks_of_scripts_fit : BlocksOfScriptsFit
blocks_of_scripts_fit ss no_fault numbers formed keeps n b at room view is =
    let l : IsLayoutIn ss n b = blocks_are_laid_out ss n b at in
    let k = l.block in
    let of_block = blocks_are_formed ss n k formed l.is_block in
    let named = names_are_found {V = Unit {0}} tt ss n k l.is_block (arguments_plain {V = Unit {0}} tt k.code of_block) in
    let captures : (m : ℕ) → (links_of (code_of ss)).captures m ≡ length ((around_block ss n).captured m) = λ m. free_names_have_cells ss n m keeps in
    let parts = statements_have_parts k.code of_block in
    let loops = exits_in_loops ss n k no_fault l.is_block in
    let seen : view ≡ laid_from (code_block b) 0 (instrs_of b.written) = one_view (code_block b) view (laid_from (code_block b) 0 (instrs_of b.written)) is
    (record { instrs = instrs_of b.written; fits = room; spelled = refl; view_is = refl }) in
    subst (FitsLaid ss n k view named parts loops captures) (sym l.is) (of_layout ss n k view named parts loops captures l.tables) l.whole seen is
    (instructions_may_stand ss no_fault numbers n b at)

there_is : {A C : Type 0} (f : A → C) (xs : List A) (n : ℕ) (y : C) → slice_get (map f xs) n ≡ Some y → (x : A) × ((slice_get xs n ≡ Some x) × (f x ≡ y))
there_is f [] n y e = absurd (let no : None ≡ Some y = e in cc)
there_is f (x ∷ xs) zero y e = (x, (refl, is_some_of e))
there_is f (x ∷ xs) (suc n) y e = there_is f xs n y e

pub blocks_of_texts_fit : BlocksOfTextsFit
blocks_of_texts_fit text script is n b at room view seen =
    let read = scripts_of_texts_are_formed text script is in
    let wide = read.1 in
    let own = numbered read.0 script wide.is_script in
    let formed = scripts_are_formed read.0 script wide.is_formed wide.is_script in
    let keeps = blocks_have_free_names script is.no_fault own wide.class_name_is_unused in
    blocks_of_scripts_fit script is.no_fault own formed keeps n b at room view seen

pub code_of_texts_fits : CodeOfTextsFits
code_of_texts_fits text script is numbers cells n b at view seen =
    let own = numbered (scripts_of_texts_are_formed text script is).0 script (scripts_of_texts_are_formed text script is).1.is_script in
    let l = there_is code_block (script_layouts script) n b at in
    subst (λ d. IsView d view → FitsIfShallow (block_of (code_of script) d view)) l.1.1
    (blocks_of_texts_fit text script is n l.0 l.1.0 (operands_fit script n l.0 own numbers cells l.1.0) view) seen

pub sizes_tell_the_depth : SizesTellTheDepth
sizes_tell_the_depth b small d = let n = small d.pc (length d.kinds) (kinds_have_sizes b b.size d.pc d.kinds d.gets) in let m = d.more in omega (arith, n, m)
