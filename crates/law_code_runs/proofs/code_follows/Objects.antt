-- A block of a script's code is laid out as a piece from the start of a block.
use Rattle.std.proofs.Common.{◌≡◌, ℕ, Bool, List, [], ◌∷◌, Option, Some, None, refl, sym, ap, ◌∙◌, subst}
use Rattle.pt_tree.specs.Syntax.{Name, Stms}
use Rattle.pt_tree.specs.Blocks as B
use Rattle.pt_tree.specs.Blocks.{Block, Code as BlockCode}
use Rattle.pt_instr.specs.declared.TextNo.{TextNo}
use Rattle.pt_code.specs.declared.Const.{Const}
use Rattle.pt_code.specs.declared.Start.{Start}
use Rattle.pt_scopes.specs.Mentions.{places_script}
use Rattle.pt_scopes.specs.Refusals.{fault_of}
use Rattle.sem_control.specs.control.Turn.{Around}
use Rattle.sem_names.specs.Around.{around_of, captured_in, names_of}
use Rattle.sem_names.specs.Naming.{variable_in}
use Rattle.sem_names.specs.Script.{naming_script, spelled_in}
use Rattle.sem_code.specs.slots.CodeObject.{CodeObject}
use Rattle.pt_assembler.specs.Laws.{IsBlockOf, Shows}
use Rattle.pt_assembler.specs.Layout.{Written, begun, instrs_of, label_at, keep_cell, keep_free, keep_local, layout, number_of_text, with_cell, with_free, with_local, with_text}
use Rattle.sem_compile.specs.stm_pieces.Laws.{Code_at, slots_of}
use Rattle.sem_compile.specs.stm_pieces.StmPiece.{code_piece}
use Rattle.sem_compile.proofs.stm_pieces.Blocks.{blocks_are_code, blocks_begin}
use Rattle.sem_compile.proofs.stm_pieces.Fitting.{pieces_fit}
use Rattle.sem_compile.specs.compile.ScriptCode.{Tables, begun_block, code_block, code_of, empty_block, with_all}
use Rattle.sem_compile.proofs.compile.Blocks.{blocks_are_laid_out}
use Rattle.pt_code.specs.View.{laid_from}
use Rattle.pt_code.proofs.OneView.{one_view}
use Rattle.law_operands.proofs.piece_names.Script.{names_are_found}
use Rattle.law_pieces.proofs.script_pieces.Cells.{takes_cells}
use Rattle.law_pieces.proofs.script_pieces.Statements.{exits_in_loops}
use Rattle.sem_run.specs.run.Machine.{BlockId}
use Rattle.sem_run.specs.run.Source.{Source}
use Rattle.law_code_runs.specs.code_run.CodeMachine.{CodeSource}
use Rattle.law_code_runs.specs.code_run.Law.{Of}
use Rattle.law_code_runs.specs.code_follows.Laws.{BlocksHaveTheirCode, HasItsFreeNames, HasObject, IsOfScript, ScriptHasItsCode, iterates}
use Rattle.law_code_runs.proofs.code_follows.Agreement.{agrees}
use Rattle.law_code_runs.proofs.code_follows.SameStatements.{same-code}

-- a block in which nothing is written yet, with so many slots
record IsBegun (depth : ℕ) (w : Written) : Type 0 where
  texts : List Name
  constants : List Const
  lists : List (List ℕ)
  locals : List TextNo
  cells : List TextNo
  free : List TextNo
  is : w ≡ begun texts constants lists locals cells free depth

text_begun : (d : ℕ) (x : Name) (w : Written) → IsBegun d w → IsBegun d (with_text x w)
unfolding with_text
text_begun d x w h = record {
  texts = (with_text x (begun h.texts h.constants h.lists h.locals h.cells h.free d)).texts;
  constants = h.constants;
  lists = h.lists;
  locals = h.locals;
  cells = h.cells;
  free = h.free;
  is = ap (λ v. with_text x v) h.is;
}

local_begun : (d : ℕ) (x : Name) (w : Written) → IsBegun d w → IsBegun d (with_local x w)
unfolding keep_local
local_begun d x w h =
    let g = text_begun d x w h in
    record {
      texts = g.texts;
      constants = g.constants;
      lists = g.lists;
      locals = (keep_local (number_of_text x w) (begun g.texts g.constants g.lists g.locals g.cells g.free d)).locals;
      cells = g.cells;
      free = g.free;
      is = ap (λ v. keep_local (number_of_text x w) v) g.is;
    }

cell_begun : (d : ℕ) (x : Name) (w : Written) → IsBegun d w → IsBegun d (with_cell x w)
unfolding keep_cell
cell_begun d x w h =
    let g = text_begun d x w h in
    record {
      texts = g.texts;
      constants = g.constants;
      lists = g.lists;
      locals = g.locals;
      cells = (keep_cell (number_of_text x w) (begun g.texts g.constants g.lists g.locals g.cells g.free d)).cells;
      free = g.free;
      is = ap (λ v. keep_cell (number_of_text x w) v) g.is;
    }

free_begun : (d : ℕ) (x : Name) (w : Written) → IsBegun d w → IsBegun d (with_free x w)
unfolding keep_free
free_begun d x w h =
    let g = text_begun d x w h in
    record {
      texts = g.texts;
      constants = g.constants;
      lists = g.lists;
      locals = g.locals;
      cells = g.cells;
      free = (keep_free (number_of_text x w) (begun g.texts g.constants g.lists g.locals g.cells g.free d)).free;
      is = ap (λ v. keep_free (number_of_text x w) v) g.is;
    }

all_begun : (d : ℕ) (f : Name → Written → Written) → ((x : Name) (w : Written) → IsBegun d w → IsBegun d (f x w)) → (xs : List Name) (w : Written)
    → IsBegun d w → IsBegun d (with_all f xs w)
all_begun d f g [] w h = h
all_begun d f g (x ∷ xs) w h = all_begun d f g xs (f x w) (g x w h)

block_begun : (t : Tables) (ss : Stms) (n : ℕ) (k : Block) → IsBegun (slots_of k.code) (begun_block t (names_of ss n) k)
block_begun t ss n k =
    let d = slots_of k.code in
    let ns = names_of ss n in
    let v = empty_block t k.code in
    let a : IsBegun d v = record { texts = t.texts; constants = t.constants; lists = t.lists; locals = []; cells = []; free = []; is = refl } in
    let w = with_text k.name v in
    let x = with_all with_local ns.locals w in
    let y = with_all with_cell ns.cells x in
    all_begun d with_free (free_begun d) ns.frees y (all_begun d with_cell (cell_begun d) ns.cells x
    (all_begun d with_local (local_begun d) ns.locals w (text_begun d k.name v a)))

same_block : (j k : Block) (o : Option Block) → o ≡ Some j → o ≡ Some k → j ≡ k
same_block j k o is as_well = let there : Some j ≡ Some k = sym is ∙ as_well in cc

module _ {V : Type 0} (null : V) where
  pub code_same : (ss : Stms) (n : ℕ) (c : BlockCode) → code_piece (around_of null ss n) c ≡ code_piece (around_of {V = Unit {0}} tt ss n) c
  code_same ss n c =
      let g = naming_script ss in
      same-code {W = Unit {0}} null tt (λ within x. variable_in g n within (spelled_in g n x)) (spelled_in g n) (captured_in g) c

  -- an object of a block that has bytes shows what was written
  pub shows : (ss : Stms) (n : ℕ) (block : Block) (object : CodeObject V) → (h : HasObject null ss n block object)
      → Shows h.layout.written (code_of ss) (code_block h.layout) object
  shows ss n block object h =
      let b = code_block h.layout in
      let w = h.layout.written in
      record {
        view = one_view b object.at (laid_from b 0 (instrs_of w)) h.is_object.view
            (record { instrs = instrs_of w; fits = h.fits; spelled = refl; view_is = refl });
        pool = h.is_object.pool;
        depths = λ before behind k a is. h.is_object.depths (label_at w k).pc.0 (label_at w k).depth (h.exits before behind k a is);
      }

  has_code : (ss : Stms) (n : ℕ) (block : Block) (object : CodeObject V) → fault_of (places_script ss) ≡ None → HasItsFreeNames ss
      → (h : HasObject null ss n block object) → Code_at (around_of null ss n) object (code_block h.layout).starts block.code
  has_code ss n block object none keeps h =
      let laid = blocks_are_laid_out ss n h.layout h.is_layout in
      let same : laid.block ≡ block = same_block laid.block block _ laid.is_block h.is_block in
      let b = block_begun laid.tables ss n block in
      let around = around_of null ss n in
      let fresh = begun b.texts b.constants b.lists b.locals b.cells b.free (slots_of block.code) in
      let is : h.layout.written ≡ layout (code_piece around block.code) [] fresh =
      ap (λ l. l.written) laid.is
      ∙ ap (λ (k : Block). layout (code_piece (around_of {V = Unit {0}} tt ss n) k.code) [] (begun_block laid.tables (names_of ss n) k)) same
      ∙ ap (λ w. layout (code_piece (around_of {V = Unit {0}} tt ss n) block.code) [] w) b.is
      ∙ ap (λ p. layout p [] fresh) (sym (code_same ss n block.code)) in
      let fits = pieces_fit around block.code (takes_cells null ss n) (exits_in_loops ss n block none h.is_block)
      (names_are_found null ss n block h.is_block h.plain) in
      blocks_are_code around block.code b.texts b.constants b.lists b.locals b.cells b.free (code_of ss) (code_block h.layout) object fits
      (subst (λ w. IsBlockOf w (code_of ss) (code_block h.layout)) is laid.whole)
      (subst (λ w. Shows w (code_of ss) (code_block h.layout) object) is (shows ss n block object h))
      (agrees ss keeps null n block h.layout object h.is_block h.is_layout h.same_null h.is_object.pool) h.knows_truths

pub blocks_have_their_code : {V : Type 0} → BlocksHaveTheirCode V
blocks_have_their_code null ss n block object none keeps h =
    let has = has_code null ss n block object none keeps h in
    (has, blocks_begin (around_of null ss n) object (code_block h.layout).starts block.code has)

-- what the code of a block is asked by a machine of code
pub object_of : {V : Type 0} (around : Around V) (object : CodeObject V) (starts : List Start) (c : BlockCode) → object.null ≡ around.null
    → Code_at around object starts c → Of around object (iterates c) c
object_of around object starts (B.of_module ss) null at = (refl, starts, at)
object_of around object starts (B.of_function ss) null at = (refl, starts, at)
object_of around object starts (B.of_class ss) null at = (refl, starts, at)
object_of around object starts (B.of_lambda l e) null at = (refl, at)
object_of around object starts (B.of_generator l e k t cs) null at = (refl, null, at)

pub block_has_its_code : {V : Type 0} (null : V) (ss : Stms) (source : Source V) (code : CodeSource V) (b : BlockId) → fault_of (places_script ss) ≡ None
    → HasItsFreeNames ss → IsOfScript null ss source code b → Of (source.around b) (code.object b) (code.iterates b) (source.code b)
block_has_its_code {V} null ss source code b none keeps h =
    let around = around_of null ss h.number in
    let object = code.object b in
    let at = has_code null ss h.number h.block object none keeps h.has_object in
    let it : Of around object (iterates h.block.code) h.block.code =
    object_of around object (code_block h.has_object.layout).starts h.block.code h.has_object.same_null at in
    subst (λ (a : Around V). Of a object (code.iterates b) (source.code b)) (sym h.same_around)
    (subst (λ (g : Bool). Of around object g (source.code b)) (sym h.same_start)
    (subst (λ (c : BlockCode). Of around object (iterates h.block.code) c) (sym h.same_code) it))

pub script_has_its_code : {V : Type 0} → ScriptHasItsCode V
script_has_its_code null ss source code none keeps of b = block_has_its_code null ss source code b none keeps (of b)
