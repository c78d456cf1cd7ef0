-- What the operand of an instruction names in the code's tables.
use Rattle.std.proofs.Common.{◌≡◌, ℕ, zero, suc, ◌<◌, ◌+◌, ◌-◌, true, false, List, [], ◌∷◌, map, length, get_or, bytes_eq, nat_lt, refl, sym, ap, ◌∙◌, subst, arith, if◌then◌else◌}
use Rattle.std.proofs.lemmas.Bool.Decides.{nat_tests}
use Rattle.pt_tree.specs.declared.expression.Constant.{Constant}
use Rattle.pt_tree.specs.declared.expression.Constant.TheVariants as constant
use Rattle.pt_tree.specs.Syntax.{Name}
use Rattle.pt_instr.specs.declared.TextNo.{TextNo}
use Rattle.pt_code.specs.declared.Const.{Const}
use Rattle.pt_code.specs.declared.Const.TheVariants as const
use Rattle.pt_code.specs.declared.CodeBlock.{CodeBlock}
use Rattle.pt_code.specs.declared.Code.{Code}
use Rattle.sem_control.specs.control.Turn as T
use Rattle.sem_code.specs.slots.CodeObject.{named}
use Rattle.sem_code.specs.slots.BlockObject.{pool_of, text_in, name_in, variable_in, constant_of}
use Rattle.pt_assembler.specs.declared.operation.Label.{Label}
use Rattle.pt_assembler.specs.declared.operation.Target.{Target}
use Rattle.pt_assembler.specs.Tables.{is_text, number_in, is_const}
use Rattle.pt_assembler.specs.Piece as P
use Rattle.pt_assembler.specs.Piece.{Op, pick}
use Rattle.pt_assembler.specs.PieceAt.{Is, IsDone, instr_to, start_of}
use Rattle.pt_assembler.specs.Layout.{Written, text_no, number_of_text, with_text, keep_constant, keep_list, keep_local, keep_cell, keep_free, with_texts, with_list, list_for, list_no, with_local, local_no, with_cell, cell_no, with_free, free_no, with_constant, constant_no, operation_of, with_operand, label_at, instr_in}
use Rattle.pt_assembler.specs.Laws.{IsBlockOf}
use Rattle.pt_assembler.proofs.TableLemmas.{begins_then, item_kept, item_within, bytes_same, text_same, const_same}
use Rattle.pt_assembler.proofs.Growth.{Tabled, tabled_then, texts_only, local_only, cell_only, free_only, constant_only, list_only}

lists_same : (xs : List Name) (w : Written) → (with_texts xs w).lists ≡ w.lists
unfolding with_text
lists_same [] w = refl
lists_same (x ∷ xs) w = lists_same xs (with_text x w)

below_true : (i n : ℕ) → i < n → nat_lt i n ≡ true
below_true i n h = grind (arith, nat_tests)

not_below : (i n : ℕ) → nat_lt (n + i) n ≡ false
not_below i n = grind (arith, nat_tests)

module _ (F : Written) (code : Code) (b : CodeBlock) (is : IsBlockOf F code b) where
  text_is : (x : Name) (w : Written) → Tabled (with_text x w) F → text_in code.texts (text_no x w) ≡ x
  unfolding with_text
  text_is x w t = item_kept (bytes_eq x) x w.texts code.texts [] (bytes_same x) (begins_then _ F.texts code.texts t.0 is.texts)

  name_at : (x : Name) (w : Written) (xs : List TextNo) (i : ℕ) → Tabled (with_text x w) F
      → get_or xs i (record { 0 = length code.texts }) ≡ number_of_text x w → name_in code.texts xs i ≡ x
  name_at x w xs i t e = ap (λ (n : TextNo). text_in code.texts n.0) e ∙ text_is x w t

  local_is : (x : Name) (w : Written) → Tabled (with_local x w) F → name_in code.texts b.locals (local_no x w) ≡ x
  unfolding with_text keep_local
  local_is x w t =
      let n = number_of_text x w in
      name_at x w b.locals (local_no x w) (tabled_then (with_text x w) (with_local x w) F (local_only n (with_text x w)).tables t)
      (ap (λ l. get_or l (local_no x w) (record { 0 = length code.texts })) is.locals
      ∙ item_kept (is_text n) n w.locals F.locals (record { 0 = length code.texts }) (text_same n) t.1.1.1.0)

  cell_is : (x : Name) (w : Written) → Tabled (with_cell x w) F → variable_in code.texts b.cells b.free (cell_no x w) ≡ named T.cell x
  unfolding with_text keep_cell
  cell_is x w t =
      let n = number_of_text x w in
      let within : cell_no x w < length b.cells = subst (λ l. cell_no x w < length l) (sym is.cells) (item_within (is_text n) n w.cells F.cells t.1.1.1.1.0) in
      let name : name_in code.texts b.cells (cell_no x w) ≡ x =
      name_at x w b.cells (cell_no x w) (tabled_then (with_text x w) (with_cell x w) F (cell_only n (with_text x w)).tables t)
      (ap (λ l. get_or l (cell_no x w) (record { 0 = length code.texts })) is.cells
      ∙ item_kept (is_text n) n w.cells F.cells (record { 0 = length code.texts }) (text_same n) t.1.1.1.1.0) in
      ap (λ c. if c then named T.cell (name_in code.texts b.cells (cell_no x w)) else named T.free (name_in code.texts b.free (cell_no x w - length b.cells)))
      (below_true (cell_no x w) (length b.cells) within) ∙ ap (named T.cell) name

  free_is : (x : Name) (w : Written) → Tabled (with_free x w) F → variable_in code.texts b.cells b.free (length F.cells + free_no x w) ≡ named T.free x
  unfolding with_text keep_free
  free_is x w t =
      let n = number_of_text x w in
      let i = length F.cells + free_no x w in
      let count : length b.cells ≡ length F.cells = ap length is.cells in
      let apart : nat_lt i (length b.cells) ≡ false = ap (λ m. nat_lt i m) count ∙ not_below (free_no x w) (length F.cells) in
      let back : i - length b.cells ≡ free_no x w = omega (arith, count) in
      let name : name_in code.texts b.free (free_no x w) ≡ x =
      name_at x w b.free (free_no x w) (tabled_then (with_text x w) (with_free x w) F (free_only n (with_text x w)).tables t)
      (ap (λ l. get_or l (free_no x w) (record { 0 = length code.texts })) is.free
      ∙ item_kept (is_text n) n w.free F.free (record { 0 = length code.texts }) (text_same n) t.1.1.1.1.1.0) in
      ap (λ c. if c then named T.cell (name_in code.texts b.cells i) else named T.free (name_in code.texts b.free (i - length b.cells))) apart
      ∙ ap (λ m. named T.free (name_in code.texts b.free m)) back ∙ ap (named T.free) name

  const_at : (k : Constant) (c : Const) (w : Written) → Tabled (keep_constant c w) F
      → get_or code.constants (number_in (is_const c) w.constants) const.None ≡ c
  unfolding keep_constant
  const_at k c w t = item_kept (is_const c) c w.constants code.constants const.None (const_same c) (begins_then _ F.constants code.constants t.1.0 is.constants)

  constant_is : (k : Constant) (w : Written) → Tabled (with_constant k w) F → constant_of code.texts (get_or code.constants (constant_no k w) const.None) ≡ k
  unfolding with_text
  constant_is (constant.Str x) w t =
      let n = number_of_text x w in
      ap (constant_of code.texts) (const_at (constant.Str x) (const.Text n) (with_text x w) t)
      ∙ ap constant.Str (text_is x w (tabled_then (with_text x w) (with_constant (constant.Str x) w) F (constant_only (const.Text n) (with_text x w)).tables t))
  constant_is constant.None w t = ap (constant_of code.texts) (const_at constant.None const.None w t)
  constant_is (constant.Bool true) w t = ap (constant_of code.texts) (const_at (constant.Bool true) const.True w t)
  constant_is (constant.Bool false) w t = ap (constant_of code.texts) (const_at (constant.Bool false) const.False w t)
  constant_is constant.Ellipsis w t = ap (constant_of code.texts) (const_at constant.Ellipsis const.Ellipsis w t)
  constant_is (constant.Int n) w t = ap (constant_of code.texts) (const_at (constant.Int n) (const.Int n) w t)

  texts_are : (xs : List Name) (w : Written) → Tabled (with_texts xs w) F → map (text_in code.texts) (list_for xs w) ≡ xs
  texts_are [] w t = refl
  texts_are (x ∷ xs) w t =
      let head = text_is x w (tabled_then (with_text x w) (with_texts (x ∷ xs) w) F (texts_only xs (with_text x w)).tables t) in
      let rest = texts_are xs (with_text x w) t in
      λ i. head i ∷ rest i

  list_is : (xs : List Name) (w : Written) → Tabled (with_list xs w) F → map (text_in code.texts) (get_or code.lists (list_no xs w) []) ≡ xs
  unfolding keep_list
  list_is xs w t =
      let ts = list_for xs w in
      let number : list_no xs w ≡ number_in (bytes_eq ts) (with_texts xs w).lists = ap (number_in (bytes_eq ts)) (sym (lists_same xs w)) in
      let found = item_kept (bytes_eq ts) ts (with_texts xs w).lists code.lists [] (bytes_same ts) (begins_then _ F.lists code.lists t.1.1.0 is.lists) in
      ap (λ i. map (text_in code.texts) (get_or code.lists i [])) number ∙ ap (map (text_in code.texts)) found
      ∙ texts_are xs w (tabled_then (with_texts xs w) (with_list xs w) F (list_only ts (with_texts xs w)).tables t)

  -- labels as places
  module _ (zero_is : label_at F (record { 0 = 0 }) ≡ start_of) where
    pub pick_is : (L : List Label) (k : ℕ) → label_at F (pick (record { 0 = 0 }) L k) ≡ pick start_of (map (label_at F) L) k
    pick_is [] k = zero_is
    pick_is (p ∷ L) zero = refl
    pick_is (p ∷ L) (suc k) = pick_is L k

    pub operand_is : (op : Op) (L : List Label) (w : Written) → IsDone op → Tabled (with_operand op w) F
        → Is (pool_of code b) (map (label_at F) L) op (instr_in F (operation_of op L w))
    operand_is (P.plain i) L w d t = refl
    operand_is P.never L w d t = absurd d
    operand_is (P.const k) L w d t = (record { 0 = constant_no k w }, refl, constant_is k w t)
    operand_is (P.with_local f x) L w d t = (record { 0 = local_no x w }, refl, local_is x w t)
    operand_is (P.with_cell f x) L w d t = (record { 0 = cell_no x w }, refl, cell_is x w t)
    operand_is (P.with_free u x) L w d t = (length F.cells + free_no x w, refl, free_is x w t)
    operand_is (P.with_text f x) L w d t = (number_of_text x w, refl, text_is x w t)
    operand_is (P.with_list f xs) L w d t = (record { 0 = list_no xs w }, refl, list_is xs w t)
    operand_is (P.to j l) L w d t = ap (λ (p : Target). instr_to j p.pc.0) (pick_is L l)
