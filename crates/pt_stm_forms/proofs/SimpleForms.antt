-- What the writer has behind each form of simple statements and of definitions, given what it has behind their parts.
use Rattle.std.proofs.Common.{◌≡◌, ℕ, ◌+◌, List, [], ◌∷◌, ◌++◌, true, false, refl, ap, sym, ◌∙◌, arith, add-zero}
use Rattle.pt_base.specs.declared.operators.BinOp.{BinOp}
use Rattle.pt_tree.specs.declared.statement.Alias.{Alias}
use Rattle.pt_tree.specs.Syntax as S
use Rattle.pt_tree.specs.Syntax.{Name, Exp, Opt, Place, Tgt, Tgts, Params, Decorators, Stms}
use Rattle.pt_tree.specs.declared.expression.Constant.TheVariants as constant
use Rattle.pt_tree.specs.Sizes.{size, place_size, target_size, params_size}
use Rattle.pt_instr.specs.declared.Instr.{Instr}
use Rattle.pt_instr.specs.declared.Instr.TheVariants as instr
use Rattle.sem_control.specs.control.Turn as T
use Rattle.sem_control.specs.control.Turn.{Variable, Operation}
use Rattle.sem_control.specs.control.Frames.{a_function, a_class}
use Rattle.sem_control.specs.control.Statements.{all_places, places, bound_name}
use Rattle.pt_block_names.specs.declared.block_names.BlockNames.{BlockNames}
use Rattle.pt_assembler.specs.declared.operation.Exit.TheVariants.{Break, Continue}
use Rattle.pt_assembler.specs.declared.operation.Jump.{Jump}
use Rattle.pt_assembler.specs.declared.operation.Jump.TheVariants.{IfTrue}
use Rattle.pt_assembler.specs.declared.operation.Label.{Label}
use Rattle.pt_assembler.specs.declared.operation.Operation.TheVariants.{Plain, To}
use Rattle.pt_assembler.specs.Piece.{Op, Piece, act, move, plain, with_text, ◌▸◌}
use Rattle.pt_assembler.specs.Layout.{Written, layout, put, put_act, act_of, new_label, next_label, bind}
use Rattle.pt_write_ops.specs.sem_compile.emitter.Ops.{operation, push_cell}
use Rattle.pt_write_ops.specs.sem_compile.emitter.ExpPiece.{exp_piece, target_piece, made_piece}
use Rattle.pt_write_ops.specs.Written.{cells_piece}
use Rattle.pt_expr_forms.specs.Behind.{known, plain_act, jump_act, no_value, behind_exp, behind_target}
use Rattle.pt_expr_forms.proofs.Acts.{put-act, put_act-act, new_label-act, act_has, move_has}
use Rattle.pt_expr_forms.proofs.Forms.{acted, null-act, acts-exp, acts-target, pair-acts, pair-laid}
use Rattle.pt_write_ops.specs.sem_compile.stm_pieces.Needed.{Behind}
use Rattle.pt_write_ops.specs.sem_compile.stm_pieces.StmPiece.{store_piece, assigned_piece, changed_piece, deleted_piece, all_deleted_piece, failed_piece, thrown_piece, imported_piece, imported_from_piece, bound_piece, defined_piece}
use Rattle.pt_stm_forms.specs.Simple.{behind_stm, behind_value, behind_store, behind_delete, behind_attribute, behind_assigned, behind_augmented, behind_annotated, behind_place_deleted, behind_deleted, behind_all_deleted, behind_failed, behind_assertion, behind_returned, behind_thrown, behind_exit, behind_module, behind_module_name, behind_imports, behind_module_names, behind_decorators, behind_calls, behind_function, behind_class, behind_named}
use Rattle.pt_stm_forms.proofs.StatementActs.{deleted_ends}

-- an act and a jump that are numbered as the writer is
act-at : (op : Op) (n l : ℕ) (w : Written) → w.act ≡ n → layout (act op n l false) [] w ≡ layout (act op w.act l false) [] w
act-at op n l w is = ap (λ m. layout (act op m l false) [] w) (sym is)

pub jump-at : (j : Jump) (to : Label) (n l : ℕ) (w : Written) → w.act ≡ n → put_act (To j to) (act_of n l false) w ≡ jump_act j to l w
jump-at j to n l w is = ap (λ m. put_act (To j to) (act_of m l false) w) (sym is)

pub plain-act : (i : Instr) (l : ℕ) (w : Written) → (plain_act i l false w).act ≡ w.act + 1
plain-act i l w = put_act-act (Plain i) (act_of w.act l false) w

pub jump-act : (j : Jump) (to : Label) (l : ℕ) (w : Written) → (jump_act j to l w).act ≡ w.act + 1
jump-act j to l w = put_act-act (To j to) (act_of w.act l false) w

named-act : (op : Op) (l : ℕ) (w : Written) → (layout (act op w.act l false) [] w).act ≡ w.act + 1
named-act op l w = (act_has op w.act l false).acts [] w

more : (n k : ℕ) → n + (k + 1) ≡ n + k + 1
more n k = omega arith

cells-act : (xs : List Variable) (w : Written) → (layout (cells_piece xs) [] w).act ≡ w.act
cells-act [] w = refl
cells-act (x ∷ xs) w = cells-act xs (layout (cells_piece (x ∷ [])) [] w) ∙ ((move_has (push_cell x)).acts [] w ∙ add-zero w.act)

module _ (b : BlockNames) where
  pub value-act : (e : Exp) (w : Written) → (behind_value b e w).act ≡ w.act + size e
  value-act e w = acts-exp b [] e false w

  pub target-act : (t : Tgt) (w : Written) → (behind_target b [] t w).act ≡ w.act + target_size t
  target-act t w = acts-target b [] t w

  pub value-at : (e : Exp) (n : ℕ) (w : Written) → w.act ≡ n → layout (exp_piece (known b) e n false []) [] w ≡ behind_value b e w
  unfolding behind_exp
  value-at e n w is = ap (λ m. layout (exp_piece (known b) e m false []) [] w) (sym is)

  pub target-at : (t : Tgt) (n : ℕ) (w : Written) → w.act ≡ n → layout (target_piece (known b) t n []) [] w ≡ behind_target b [] t w
  unfolding behind_target
  target-at t n w is = ap (λ m. layout (target_piece (known b) t m []) [] w) (sym is)

  pub store-at : (y : Name) (n l : ℕ) (w : Written) → w.act ≡ n → layout (store_piece (known b) y n l) [] w ≡ behind_store b y l w
  unfolding behind_store
  store-at y n l w is = ap (λ m. layout (store_piece (known b) y m l) [] w) (sym is)

  pub store-act : (y : Name) (l : ℕ) (w : Written) → (behind_store b y l w).act ≡ w.act + 1
  unfolding behind_store
  store-act y l w = named-act _ l w

  -- Expressions and assignments.

  pub expr-form : (l : ℕ) (e : Exp) (q : Behind) (w : Written) → behind_stm b (S.expr l e) q w ≡ plain_act instr.Pop l false (behind_value b e w)
  unfolding behind_stm behind_exp
  expr-form l e q w = acted instr.Pop l (w.act + size e) false (behind_value b e w) (value-act e w)

  assigned-laid : (ts : Tgts) (w : Written) → layout (assigned_piece (known b) ts w.act) [] w ≡ behind_assigned b ts w
  unfolding behind_target
  assigned-laid S.no_targets w = refl
  assigned-laid (S.more_targets t S.no_targets) w = refl
  assigned-laid (S.more_targets t (S.more_targets u ts)) w =
      let copy : Written = put (Plain instr.Copy) w in
      let bound : Written = behind_target b [] t copy in
      let acts : bound.act ≡ w.act + target_size t = target-act t copy ∙ ap (λ n. n + target_size t) (put-act (Plain instr.Copy) w) in
      ap (λ n. layout (assigned_piece (known b) (S.more_targets u ts) (w.act + target_size t)) [] (layout (target_piece (known b) t n []) [] copy))
      (sym (put-act (Plain instr.Copy) w))
      ∙ ap (λ n. layout (assigned_piece (known b) (S.more_targets u ts) n) [] bound) (sym acts) ∙ assigned-laid (S.more_targets u ts) bound

  pub assign-form : (l : ℕ) (ts : Tgts) (e : Exp) (q : Behind) (w : Written) → behind_stm b (S.assign l ts e) q w ≡ behind_assigned b ts (behind_value b e w)
  unfolding behind_stm behind_exp
  assign-form l ts e q w =
      ap (λ n. layout (assigned_piece (known b) ts n) [] (behind_value b e w)) (sym (value-act e w)) ∙ assigned-laid ts (behind_value b e w)

  changed-laid : (o : BinOp) (e : Exp) (l : ℕ) (back : ℕ → Piece) (w : Written) → layout (changed_piece (known b) o e l w.act back) [] w
      ≡ (let changed = plain_act (instr.InPlace o) l false (behind_value b e w) in layout (back changed.act) [] changed)
  unfolding behind_exp
  changed-laid o e l back w =
      let value : Written = behind_value b e w in
      let changed : Written = plain_act (instr.InPlace o) l false value in
      let acts : changed.act ≡ w.act + size e + 1 = plain-act (instr.InPlace o) l value ∙ ap (λ n. n + 1) (value-act e w) in
      ap (λ u. layout (back (w.act + size e + 1)) [] u) (acted (instr.InPlace o) l (w.act + size e) false value (value-act e w))
      ∙ ap (λ n. layout (back n) [] changed) (sym acts)

  pub augmented-form : (l : ℕ) (p : Place) (o : BinOp) (e : Exp) (q : Behind) (w : Written)
      → behind_stm b (S.augmented l p o e) q w ≡ behind_augmented b p o e l w
  unfolding behind_stm behind_exp behind_store
  augmented-form l (S.name_at k y) o e q w =
      let there : Written = behind_value b (S.name k y) w in
      let back : ℕ → Piece = λ m. store_piece (known b) y m k in
      ap (λ n. layout (changed_piece (known b) o e l n back) [] there) (sym (value-act (S.name k y) w)) ∙ changed-laid o e l back there
  augmented-form l (S.attribute_at k a y) o e q w =
      let copy : Written = put (Plain instr.Copy) (behind_value b a w) in
      let there : Written = behind_attribute b y k copy in
      let changed : Written = plain_act (instr.InPlace o) l false (behind_value b e there) in
      let back : ℕ → Piece = λ m. move (plain instr.Swap) ▸ act (with_text instr.SetAttr ((known b).spelled y)) m k false in
      let one : copy.act ≡ w.act + size a = put-act (Plain instr.Copy) (behind_value b a w) ∙ value-act a w in
      let two : there.act ≡ w.act + size a + 1 = named-act (with_text instr.Attr ((known b).spelled y)) k copy ∙ ap (λ n. n + 1) one in
      ap (λ u. layout (changed_piece (known b) o e l (w.act + size a + 1) back) [] u) (act-at (with_text instr.Attr ((known b).spelled y)) (w.act + size a) k copy one)
      ∙ ap (λ n. layout (changed_piece (known b) o e l n back) [] there) (sym two) ∙ changed-laid o e l back there
      ∙ act-at (with_text instr.SetAttr ((known b).spelled y)) changed.act k (put (Plain instr.Swap) changed) (put-act (Plain instr.Swap) changed)
  augmented-form l (S.item_at k a i) o e q w =
      let pair : Written = behind_value b i (behind_value b a w) in
      let copy : Written = put (Plain instr.Copy2) pair in
      let there : Written = plain_act instr.Item k false copy in
      let changed : Written = plain_act (instr.InPlace o) l false (behind_value b e there) in
      let back : ℕ → Piece = λ m. move (plain instr.Rot3) ▸ act (plain instr.SetItem) m k false in
      let one : copy.act ≡ w.act + size a + size i = put-act (Plain instr.Copy2) pair ∙ pair-acts b [] a i false w in
      let two : there.act ≡ w.act + size a + size i + 1 = plain-act instr.Item k copy ∙ ap (λ n. n + 1) one in
      ap (λ u. layout (changed_piece (known b) o e l (w.act + size a + size i + 1) back) []
      (put_act (Plain instr.Item) (act_of (w.act + size a + size i) k false) (put (Plain instr.Copy2) u))) (pair-laid b [] a i false w)
      ∙ ap (λ u. layout (changed_piece (known b) o e l (w.act + size a + size i + 1) back) [] u) (acted instr.Item k (w.act + size a + size i) false copy one)
      ∙ ap (λ n. layout (changed_piece (known b) o e l n back) [] there) (sym two) ∙ changed-laid o e l back there
      ∙ acted instr.SetItem k changed.act false (put (Plain instr.Rot3) changed) (put-act (Plain instr.Rot3) changed)

  pub annotated-form : (l : ℕ) (p : Place) (a : Exp) (v : Opt) (q : Behind) (w : Written)
      → behind_stm b (S.annotated l p a v) q w ≡ behind_annotated b p v l w
  unfolding behind_stm behind_exp
  annotated-form l p a S.absent q w = refl
  annotated-form l p a (S.given e) q w = target-at (S.single p) (w.act + size e) (behind_value b e w) (value-act e w)

  -- Deletions.

  place_deleted-laid : (p : Place) (w : Written) → layout (deleted_piece (known b) p w.act) [] w ≡ behind_place_deleted b p w
  unfolding behind_delete behind_exp
  place_deleted-laid (S.name_at l y) w = refl
  place_deleted-laid (S.attribute_at l a y) w =
      act-at (with_text instr.DelAttr ((known b).spelled y)) (w.act + size a) l (behind_value b a w) (value-act a w)
  place_deleted-laid (S.item_at l a i) w =
      ap (λ u. put_act (Plain instr.DelItem) (act_of (w.act + size a + size i) l false) u) (pair-laid b [] a i false w)
      ∙ acted instr.DelItem l (w.act + size a + size i) false (behind_value b i (behind_value b a w)) (pair-acts b [] a i false w)

  place_deleted-act : (p : Place) (w : Written) → (behind_place_deleted b p w).act ≡ w.act + place_size p
  place_deleted-act p w =
      ap (λ (u : Written). u.act) (sym (place_deleted-laid p w)) ∙ (deleted_ends (known b) p w.act).acts [] w refl

  abbrev behind_places_deleted : List Place → Written → Written
  behind_places_deleted [] w = w
  behind_places_deleted (p ∷ ps) w = behind_places_deleted ps (behind_place_deleted b p w)

  places_deleted-laid : (ps : List Place) (w : Written) → layout (all_deleted_piece (known b) ps w.act) [] w ≡ behind_places_deleted ps w
  places_deleted-laid [] w = refl
  places_deleted-laid (p ∷ ps) w =
      ap (λ u. layout (all_deleted_piece (known b) ps (w.act + place_size p)) [] u) (place_deleted-laid p w)
      ∙ ap (λ n. layout (all_deleted_piece (known b) ps n) [] (behind_place_deleted b p w)) (sym (place_deleted-act p w))
      ∙ places_deleted-laid ps (behind_place_deleted b p w)

  places_deleted-append : (ps qs : List Place) (w : Written) → behind_places_deleted (ps ++ qs) w ≡ behind_places_deleted qs (behind_places_deleted ps w)
  places_deleted-append [] qs w = refl
  places_deleted-append (p ∷ ps) qs w = places_deleted-append ps qs (behind_place_deleted b p w)

  mutual
    deleted-places : (t : Tgt) (w : Written) → behind_places_deleted (places t) w ≡ behind_deleted b t w
    deleted-places (S.single p) w = refl
    deleted-places (S.several l f ts) w = all_deleted-places ts w
    deleted-places (S.starred l t) w = deleted-places t w

    all_deleted-places : (ts : Tgts) (w : Written) → behind_places_deleted (all_places ts) w ≡ behind_all_deleted b ts w
    all_deleted-places S.no_targets w = refl
    all_deleted-places (S.more_targets t ts) w =
        places_deleted-append (places t) (all_places ts) w
        ∙ ap (λ u. behind_places_deleted (all_places ts) u) (deleted-places t w) ∙ all_deleted-places ts (behind_deleted b t w)

  pub del-form : (l : ℕ) (ts : Tgts) (q : Behind) (w : Written) → behind_stm b (S.del l ts) q w ≡ behind_all_deleted b ts w
  unfolding behind_stm
  del-form l ts q w = places_deleted-laid (all_places ts) w ∙ all_deleted-places ts w

  -- Statements that leave.

  failed-laid : (m : Opt) (l : ℕ) (L : List Label) (w : Written) → layout (failed_piece (known b) m l w.act) L w ≡ behind_failed b m l w
  unfolding behind_exp
  failed-laid S.absent l L w = refl
  failed-laid (S.given m) l L w = acted (instr.AssertFail true) l (w.act + size m) false (behind_value b m w) (value-act m w)

  pub assert-form : (l : ℕ) (c : Exp) (m : Opt) (q : Behind) (w : Written) → behind_stm b (S.assert l c m) q w ≡ behind_assertion b c m l w
  unfolding behind_stm
  assert-form l c m q w =
      let end : Label = next_label w in
      let test : Written = behind_value b c (new_label w) in
      let jumped : Written = jump_act IfTrue end l test in
      let one : test.act ≡ w.act + size c = value-act c (new_label w) ∙ ap (λ n. n + size c) (new_label-act w) in
      let two : jumped.act ≡ w.act + size c + 1 = jump-act IfTrue end l test ∙ ap (λ n. n + 1) one in
      let rest : (n : ℕ) → Written → Written = λ n u. bind end (layout (failed_piece (known b) m l n) (end ∷ []) u) in
      ap (λ u. rest (w.act + size c + 1) (put_act (To IfTrue end) (act_of (w.act + size c) l false) u)) (value-at c w.act (new_label w) (new_label-act w))
      ∙ ap (λ u. rest (w.act + size c + 1) u) (jump-at IfTrue end (w.act + size c) l test one)
      ∙ ap (λ n. rest n jumped) (sym two) ∙ ap (λ u. bind end u) (failed-laid m l (end ∷ []) jumped)

  pub pass-form : (l : ℕ) (q : Behind) (w : Written) → behind_stm b (S.pass l) q w ≡ plain_act instr.Nop l false w
  unfolding behind_stm
  pass-form l q w = refl

  pub return-form : (l : ℕ) (e : Opt) (q : Behind) (w : Written) → behind_stm b (S.return l e) q w ≡ behind_returned b e l w
  unfolding behind_stm behind_exp
  return-form l S.absent q w = acted instr.Return l w.act false (no_value w) (null-act w)
  return-form l (S.given e) q w = acted instr.Return l (w.act + size e) false (behind_value b e w) (value-act e w)

  thrown-laid : (c : Opt) (l : ℕ) (w : Written) → layout (thrown_piece (known b) c l w.act) [] w ≡ behind_thrown b c l w
  unfolding behind_exp
  thrown-laid S.absent l w = refl
  thrown-laid (S.given c) l w = acted instr.RaiseFrom l (w.act + size c) false (behind_value b c w) (value-act c w)

  pub raise-form : (l : ℕ) (e : Exp) (c : Opt) (q : Behind) (w : Written) → behind_stm b (S.raise l e c) q w ≡ behind_thrown b c l (behind_value b e w)
  unfolding behind_stm behind_exp
  raise-form l e c q w =
      ap (λ n. layout (thrown_piece (known b) c l n) [] (behind_value b e w)) (sym (value-act e w)) ∙ thrown-laid c l (behind_value b e w)

  pub raise_again-form : (l : ℕ) (q : Behind) (w : Written) → behind_stm b (S.raise_again l) q w ≡ plain_act instr.RaiseAgain l false w
  unfolding behind_stm
  raise_again-form l q w = refl

  pub break-form : (l : ℕ) (q : Behind) (w : Written) → behind_stm b (S.break l) q w ≡ behind_exit Break l w
  unfolding behind_stm
  break-form l q w = refl

  pub continue-form : (l : ℕ) (q : Behind) (w : Written) → behind_stm b (S.continue l) q w ≡ behind_exit Continue l w
  unfolding behind_stm
  continue-form l q w = refl

  -- Imports, and declarations.

  imported-laid : (as' : List Alias) (l : ℕ) (w : Written) → layout (imported_piece (known b) as' l w.act) [] w ≡ behind_imports b as' l w
  imported-laid [] l w = refl
  imported-laid (a ∷ as') l w =
      let one : Written = behind_module b a.name l w in
      let two : Written = behind_store b (bound_name a) l one in
      let acts : one.act ≡ w.act + 1 = named-act (with_text instr.Import ((known b).spelled a.name)) l w in
      ap (λ u. layout (imported_piece (known b) as' l (w.act + 1 + 1)) [] u) (store-at (bound_name a) (w.act + 1) l one acts)
      ∙ ap (λ n. layout (imported_piece (known b) as' l n) [] two) (sym (store-act (bound_name a) l one ∙ ap (λ n. n + 1) acts))
      ∙ imported-laid as' l two

  imported_from-laid : (as' : List Alias) (l : ℕ) (w : Written) → layout (imported_from_piece (known b) as' l w.act) [] w ≡ behind_module_names b as' l w
  imported_from-laid [] l w = refl
  imported_from-laid (a ∷ as') l w =
      let one : Written = behind_module_name b a.name l w in
      let two : Written = behind_store b (bound_name a) l one in
      let acts : one.act ≡ w.act + 1 = named-act (with_text instr.ImportName ((known b).spelled a.name)) l w in
      ap (λ u. layout (imported_from_piece (known b) as' l (w.act + 1 + 1)) [] u) (store-at (bound_name a) (w.act + 1) l one acts)
      ∙ ap (λ n. layout (imported_from_piece (known b) as' l n) [] two) (sym (store-act (bound_name a) l one ∙ ap (λ n. n + 1) acts))
      ∙ imported_from-laid as' l two

  pub import-form : (l : ℕ) (as' : List Alias) (q : Behind) (w : Written) → behind_stm b (S.import l as') q w ≡ behind_imports b as' l w
  unfolding behind_stm
  import-form l as' q w = imported-laid as' l w

  pub import_from-form : (l : ℕ) (m : Name) (as' : List Alias) (q : Behind) (w : Written)
      → behind_stm b (S.import_from l m as') q w ≡ behind_module_names b as' l (behind_module b m l w)
  unfolding behind_stm
  import_from-form l m as' q w =
      ap (λ n. layout (imported_from_piece (known b) as' l n) [] (behind_module b m l w)) (sym (named-act (with_text instr.Import ((known b).spelled m)) l w))
      ∙ imported_from-laid as' l (behind_module b m l w)

  pub global-form : (l : ℕ) (xs : List Name) (q : Behind) (w : Written) → behind_stm b (S.global l xs) q w ≡ w
  unfolding behind_stm
  global-form l xs q w = refl

  pub nonlocal-form : (l : ℕ) (xs : List Name) (q : Behind) (w : Written) → behind_stm b (S.nonlocal l xs) q w ≡ w
  unfolding behind_stm
  nonlocal-form l xs q w = refl

  pub docstring-form : (l : ℕ) (q : Behind) (w : Written) → behind_stm b (S.docstring l) q w ≡ w
  unfolding behind_stm
  docstring-form l q w = refl

  -- Functions and classes: the decorators in front have their calls behind, on these lines.

  abbrev behind_lines : List ℕ → Written → Written
  behind_lines [] w = w
  behind_lines (k ∷ ks) w = behind_lines ks (plain_act (instr.Call 1) k false w)

  bound-laid : (ks : List ℕ) (l : ℕ) (y : Name) (w : Written) → layout (bound_piece (known b) ks l w.act y) [] w ≡ behind_store b y l (behind_lines ks w)
  unfolding behind_store
  bound-laid [] l y w = refl
  bound-laid (k ∷ ks) l y w =
      let called : Written = plain_act (instr.Call 1) k false w in
      ap (λ n. layout (bound_piece (known b) ks l n y) [] called) (sym (plain-act (instr.Call 1) k w)) ∙ bound-laid ks l y called

  made-laid : (xs : List Variable) (op : Operation) (l n : ℕ) (w : Written)
      → layout (made_piece (known b) xs op l n false 1) [] w ≡ layout (act (operation op 1) n l false) [] (layout (cells_piece xs) [] w)
  made-laid [] op l n w = refl
  made-laid (x ∷ xs) op l n w = made-laid xs op l n (layout (cells_piece (x ∷ [])) [] w)

  function-laid : (ds : Decorators) (ks : List ℕ) (c : ℕ) (ps : Params) (l : ℕ) (y : Name) (w : Written)
      → layout (defined_piece (known b) ds (a_function c ps) ks l w.act y) [] w
      ≡ behind_store b y l (behind_lines ks (behind_calls ds (behind_function b c ps l (behind_decorators b ds w))))
  unfolding behind_exp
  function-laid S.no_decorators ks c ps l y w =
      let made : Written = behind_function b c ps l w in
      let acts : made.act ≡ w.act + params_size ps + 1 = value-act (S.lambda l c ps (S.constant l constant.None)) w ∙ more w.act (params_size ps) in
      ap (λ n. layout (bound_piece (known b) ks l n y) [] made) (sym acts) ∙ bound-laid ks l y made
  function-laid (S.decorator j e r) ks c ps l y w =
      ap (λ n. layout (defined_piece (known b) r (a_function c ps) (j ∷ ks) l n y) [] (behind_value b e w)) (sym (value-act e w))
      ∙ function-laid r (j ∷ ks) c ps l y (behind_value b e w)

  -- a class of a base, or of None
  class-laid : (c : ℕ) (ks : List ℕ) (l : ℕ) (y : Name) (n : ℕ) (w : Written) → w.act ≡ n
      → layout (bound_piece (known b) ks l (n + 1) y) [] (layout (made_piece (known b) ((known b).captured c) (T.class c) l n false 1) [] w)
      ≡ behind_store b y l (behind_lines ks (plain_act (instr.MakeClass (record { 0 = c })) l false (layout (cells_piece ((known b).captured c)) [] w)))
  class-laid c ks l y n w is =
      let cells : Written = layout (cells_piece ((known b).captured c)) [] w in
      let made : Written = plain_act (instr.MakeClass (record { 0 = c })) l false cells in
      let one : cells.act ≡ n = cells-act ((known b).captured c) w ∙ is in
      let two : made.act ≡ n + 1 = plain-act (instr.MakeClass (record { 0 = c })) l cells ∙ ap (λ m. m + 1) one in
      ap (λ u. layout (bound_piece (known b) ks l (n + 1) y) [] u)
      (made-laid ((known b).captured c) (T.class c) l n w ∙ acted (instr.MakeClass (record { 0 = c })) l n false cells one)
      ∙ ap (λ m. layout (bound_piece (known b) ks l m y) [] made) (sym two) ∙ bound-laid ks l y made

  defined_class-laid : (ds : Decorators) (ks : List ℕ) (c : ℕ) (base : Opt) (l : ℕ) (y : Name) (w : Written)
      → layout (defined_piece (known b) ds (a_class c base) ks l w.act y) [] w
      ≡ behind_store b y l (behind_lines ks (behind_calls ds (behind_class b c base l (behind_decorators b ds w))))
  unfolding behind_exp
  defined_class-laid S.no_decorators ks c S.absent l y w = class-laid c ks l y w.act (no_value w) (null-act w)
  defined_class-laid S.no_decorators ks c (S.given e) l y w = class-laid c ks l y (w.act + size e) (behind_value b e w) (value-act e w)
  defined_class-laid (S.decorator j e r) ks c base l y w =
      ap (λ n. layout (defined_piece (known b) r (a_class c base) (j ∷ ks) l n y) [] (behind_value b e w)) (sym (value-act e w))
      ∙ defined_class-laid r (j ∷ ks) c base l y (behind_value b e w)

  pub def-form : (l : ℕ) (ds : Decorators) (k c : ℕ) (y : Name) (ps : Params) (r : Opt) (body : Stms) (q : Behind) (w : Written)
      → behind_stm b (S.def l ds k c y ps r body) q w ≡ behind_named b ds y k (behind_function b c ps k (behind_decorators b ds w))
  unfolding behind_stm
  def-form l ds k c y ps r body q w = function-laid ds [] c ps k y w

  pub class-form : (l : ℕ) (ds : Decorators) (k c : ℕ) (y : Name) (base : Opt) (body : Stms) (q : Behind) (w : Written)
      → behind_stm b (S.class l ds k c y base body) q w ≡ behind_named b ds y k (behind_class b c base k (behind_decorators b ds w))
  unfolding behind_stm
  class-form l ds k c y base body q w = defined_class-laid ds [] c base k y w
