-- A block begins with its free names, and each of them once.
use Rattle.std.proofs.Common.{◌≡◌, ◌<◌, Bool, true, false, List, [], ◌∷◌, length, get_or, Some, refl, sym, ap, ◌∙◌, subst, arith, length-append, bytes_eq}
use Rattle.std.specs.Prelude.{◌||◌}
use Rattle.std.specs.List.{AllByRecursion, list_any}
use Rattle.std.proofs.lemmas.Slice.Eq.{bytes_eq-Decides}
use Rattle.pt_tree.specs.Syntax.{Name}
use Rattle.pt_tree.specs.Blocks.{Block}
use Rattle.pt_instr.specs.declared.TextNo.{TextNo}
use Rattle.sem_control.specs.control.Turn as T
use Rattle.sem_control.specs.control.Turn.{Around, Scope}
use Rattle.sem_code.specs.slots.BlockObject.{text_in}
use Rattle.std.proofs.lemmas.List.{length-map}
use Rattle.sem_names.specs.Around.{Names, around_of, names_of}
use Rattle.pt_assembler.specs.Piece.{Piece}
use Rattle.pt_assembler.specs.Layout.{with_text, with_local, with_cell, with_free}
use Rattle.pt_assembler.proofs.TableLemmas.{begins_same}
use Rattle.pt_assembler.proofs.Growth.{tabled_same}
use Rattle.law_files.specs.sem_compile.stm_pieces.StmPiece.{code_piece}
use Rattle.law_files.specs.sem_compile.compile.ScriptCode.{Tables, with_all, empty_block, BlockLayout, layout_of}
use Rattle.law_files.proofs.sem_compile.compile.Blocks.{blocks_are_laid_out}
use Rattle.law_files.proofs.code_files.NoFree.{text_free, local_free, cell_free, all_free}
use Rattle.law_files.proofs.code_files.Sound.{Differs, Apart}
use Rattle.law_operands.specs.free_names.FreeNames.{Among, FreeOperands, NamedOperand, NamedOperands, OnlyFree, OperandsLeaveFreeNames}
use Rattle.law_operands.proofs.free_names.Distinct.{frees_apart}
use Rattle.law_operands.proofs.free_names.Kept.{Holds, free_there, holds_on, layout_kept, the_frees}
use Rattle.law_operands.proofs.free_names.Listing.{Unnamed, all_held, listed, lists_free, texts_of}
use Rattle.pt_assembler.specs.Piece as P
use Rattle.pt_assembler.specs.Piece.{Op}

-- what is so of each name of a list is so of a name among them
pub each_among : (Q : Name → Type 0) (xs : List Name) (x : Name) → AllByRecursion Q xs → Among xs x → Q x
each_among Q [] x h is = absurd (let same : false ≡ true = is in cc)
each_among Q (y ∷ ys) x h is = by (bytes_eq y x) refl is (each_among Q ys x h.1)
  where
    by : (b : Bool) → bytes_eq y x ≡ b → (b || list_any (λ z. bytes_eq z x) ys) ≡ true → (Among ys x → Q x) → Q x
    by true e among rest = subst Q ((bytes_eq-Decides y x).0 e) h.0
    by false e among rest = rest among

module _ (Q R : Scope → Name → Type 0) (f : (s : Scope) (x : Name) → Q s x → R s x) where
  operand_also : (op : Op) → NamedOperand Q op → NamedOperand R op
  operand_also (P.plain i) h = tt
  operand_also P.never h = tt
  operand_also (P.const k) h = tt
  operand_also (P.with_local u x) h = f T.local x h
  operand_also (P.with_cell u x) h = f T.cell x h
  operand_also (P.with_free u x) h = f T.free x h
  operand_also (P.with_text u x) h = tt
  operand_also (P.with_list u xs) h = tt
  operand_also (P.to j l) h = tt

  pub operands_also : (p : Piece) → NamedOperands Q p → NamedOperands R p
  operands_also P.empty h = tt
  operands_also (P.act op k l again) h = operand_also op h
  operands_also (P.move op) h = operand_also op h
  operands_also (P.seq a b) h = (operands_also a h.0, operands_also b h.1)
  operands_also (P.block p) h = operands_also p h
  operands_also (P.headed p) h = operands_also p h
  operands_also (P.closed p) h = operands_also p h
  operands_also (P.looped b p) h = operands_also p h
  operands_also (P.leave e k l) h = tt
  operands_also (P.ensured p) h = operands_also p h
  operands_also (P.caught p q) h = (operands_also p h.0, operands_also q h.1)
  operands_also (P.deeper k p) h = operands_also p h
  operands_also (P.started l p) h = operands_also p h
  operands_also (P.numbered k p) h = operands_also p h

only_free_on : (Q R : Name → Type 0) → ((x : Name) → Q x → R x) → (s : Scope) (x : Name) → OnlyFree Q s x → OnlyFree R s x
only_free_on Q R f T.local x h = tt
only_free_on Q R f T.cell x h = tt
only_free_on Q R f T.free x h = f x h
only_free_on Q R f T.global x h = tt
only_free_on Q R f T.of_class x h = tt

empty_free : (t : Tables) (k : Block) → (empty_block t k.code).free ≡ []
empty_free t k = refl

laid_free : (t : Tables) (a : Around (Unit {0})) (ns : Names) (k : Block) → Apart ns.frees → FreeOperands (Among ns.frees) (code_piece a k.code)
    → length (layout_of t a ns k).written.free ≡ length ns.frees
laid_free t a ns k apart operands =
    let v = with_text k.name (empty_block t k.code) in
    let b = with_all with_local ns.locals v in
    let c = with_all with_cell ns.cells b in
    let d = with_all with_free ns.frees c in
    let none : c.free ≡ [] =
    all_free with_cell cell_free ns.cells b ∙ all_free with_local local_free ns.locals v ∙ text_free k.name (empty_block t k.code) ∙ empty_free t k in
    let unnamed : Unnamed the_frees with_free lists_free ns.frees c =
    subst (AllByRecursion (λ (s : TextNo). (s.0 < length c.texts) × Differs (get_or c.texts s.0 []) ns.frees)) (sym none) tt in
    let count = ap length (listed the_frees with_free lists_free ns.frees c d.texts apart unnamed (begins_same d.texts)) in
    let zero_free = ap (λ xs. length (texts_of d.texts xs)) none in
    let sizes = length-append (texts_of d.texts c.free) ns.frees in
    let Q = OnlyFree (Holds the_frees d) in
    let kept = layout_kept the_frees d Q (λ x w t h. local_free x w) (λ x w t h. cell_free x w) (λ x w t h. free_there x w (holds_on the_frees d w x t t.1.1.1.1.1.0 h))
    (code_piece a k.code) [] d (tabled_same d)
    (operands_also (OnlyFree (Among ns.frees)) Q
    (only_free_on (Among ns.frees) (Holds the_frees d) (λ x. each_among (Holds the_frees d) ns.frees x (all_held the_frees with_free lists_free ns.frees c)))
    (code_piece a k.code) operands) in
    ap length kept ∙ sym (length-map d.free (λ (x : TextNo). text_in d.texts x.0)) ∙ omega (arith, count, zero_free, sizes)

pub operands_leave : OperandsLeaveFreeNames
operands_leave ss n layout block at is unused operands =
    let l = blocks_are_laid_out ss n layout at in
    let same : block ≡ l.block = (let there : Some block ≡ Some l.block = sym is ∙ l.is_block in cc) in
    let piece = subst (λ (k : Block). FreeOperands (Among (names_of ss n).frees) (code_piece (around_of {V = Unit {0}} tt ss n) k.code)) same operands in
    subst (λ (b : BlockLayout). length b.written.free ≡ length (names_of ss n).frees) (sym l.is)
    (laid_free l.tables (around_of tt ss n) (names_of ss n) l.block (frees_apart ss n unused) piece)
