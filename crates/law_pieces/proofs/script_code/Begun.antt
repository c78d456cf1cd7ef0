-- A block of a script begins with its names, and is laid out from its piece.
use Rattle.std.proofs.Common.{◌≡◌, ℕ, List, [], ◌∷◌, false, refl, sym, ap, subst}
use Rattle.pt_tree.specs.Syntax.{Name}
use Rattle.pt_tree.specs.Blocks.{Block}
use Rattle.pt_instr.specs.declared.TextNo.{TextNo}
use Rattle.pt_code.specs.declared.Const.{Const}
use Rattle.pt_code.specs.declared.Code.{Code}
use Rattle.pt_code.specs.declared.CodeBlock.{CodeBlock}
use Rattle.sem_code.specs.slots.CodeObject.{CodeObject}
use Rattle.pt_assembler.specs.Piece.{Piece}
use Rattle.pt_assembler.specs.PieceAt.{Piece_at, Fits}
use Rattle.pt_assembler.specs.Layout.{Written, at, begun, with_text, keep_local, keep_cell, keep_free, with_local, with_cell, with_free, number_of_text, layout}
use Rattle.pt_assembler.specs.Laws.{IsBlockOf, Shows}
use Rattle.pt_assembler.proofs.Standing.{stands_where_laid}
use Rattle.sem_names.specs.Around.{Names}
use Rattle.sem_compile.specs.stm_pieces.Laws.{outermost, slots_of}
use Rattle.sem_compile.specs.compile.ScriptCode.{Tables, with_all, empty_block, with_names, begun_block}

-- A block that begins with its names has no code yet.

pub record IsBegun (depth : ℕ) (w : Written) : Type 0 where
  pub texts : List Name
  pub constants : List Const
  pub lists : List (List ℕ)
  pub locals : List TextNo
  pub cells : List TextNo
  pub free : List TextNo
  pub is : w ≡ begun texts constants lists locals cells free depth

text_begun : (d : ℕ) (x : Name) (w : Written) → IsBegun d w → IsBegun d (with_text x w)
unfolding with_text
text_begun d x w h = record { texts = _; constants = _; lists = _; locals = _; cells = _; free = _; is = ap (with_text x) h.is }

local_begun : (d : ℕ) (t : TextNo) (w : Written) → IsBegun d w → IsBegun d (keep_local t w)
unfolding keep_local
local_begun d t w h = record { texts = _; constants = _; lists = _; locals = _; cells = _; free = _; is = ap (keep_local t) h.is }

cell_begun : (d : ℕ) (t : TextNo) (w : Written) → IsBegun d w → IsBegun d (keep_cell t w)
unfolding keep_cell
cell_begun d t w h = record { texts = _; constants = _; lists = _; locals = _; cells = _; free = _; is = ap (keep_cell t) h.is }

free_begun : (d : ℕ) (t : TextNo) (w : Written) → IsBegun d w → IsBegun d (keep_free t w)
unfolding keep_free
free_begun d t w h = record { texts = _; constants = _; lists = _; locals = _; cells = _; free = _; is = ap (keep_free t) h.is }

all_begun : (d : ℕ) (f : Name → Written → Written) → ((x : Name) (w : Written) → IsBegun d w → IsBegun d (f x w)) → (xs : List Name) (w : Written) → IsBegun d w
    → IsBegun d (with_all f xs w)
all_begun d f g [] w h = h
all_begun d f g (x ∷ xs) w h = all_begun d f g xs (f x w) (g x w h)

names_begun : (d : ℕ) (ns : Names) (w : Written) → IsBegun d w → IsBegun d (with_names ns w)
names_begun d ns w h =
    let a = with_all with_local ns.locals w in
    let c = with_all with_cell ns.cells a in
    all_begun d with_free (λ x w h. free_begun d (number_of_text x w) (with_text x w) (text_begun d x w h)) ns.frees c
    (all_begun d with_cell (λ x w h. cell_begun d (number_of_text x w) (with_text x w) (text_begun d x w h)) ns.cells a
    (all_begun d with_local (λ x w h. local_begun d (number_of_text x w) (with_text x w) (text_begun d x w h)) ns.locals w h))

pub block_begun : (t : Tables) (ns : Names) (k : Block) → IsBegun (slots_of k.code) (begun_block t ns k)
block_begun t ns k = names_begun (slots_of k.code) ns (with_text k.name (empty_block t k.code)) (text_begun (slots_of k.code) k.name (empty_block t k.code) (record {
  texts = t.texts;
  constants = t.constants;
  lists = t.lists;
  locals = [];
  cells = [];
  free = [];
  is = refl;
}))

-- where a block's layout is that of its piece
pub stands_whole : {V : Type 0} (p : Piece) (d : ℕ) (w : Written) (code : Code) (block : CodeBlock) (object : CodeObject V) → IsBegun d w → Fits p [] false
    → IsBlockOf (layout p [] w) code block → Shows (layout p [] w) code block object → Piece_at object block.starts p [] (outermost d) 0 (at (layout p [] w))
stands_whole {V} p d w code block object h f i s =
    let go = stands_where_laid p h.texts h.constants h.lists h.locals h.cells h.free d code block object f in
    subst (λ v. Piece_at object block.starts p [] (outermost d) 0 (at (layout p [] v))) (sym h.is)
    (go (subst (λ v. IsBlockOf (layout p [] v) code block) h.is i) (subst (λ v. Shows (layout p [] v) code block object) h.is s))
