-- What instructions do whose operands are named.
use Rattle.std.proofs.Common.{◌≡◌, ℕ, zero, suc, ◌+◌, ◌-◌, Bool, true, false, List, [], ◌∷◌, ◌++◌, map, length, reverse, Option, Some, None, refl, sym, ap, ◌∙◌, subst, arith}
use Rattle.pt_ranges.specs.declared.lines.ActMark.{ActMark}
use Rattle.pt_ranges.specs.declared.handlers.Handler.{Handler}
use Rattle.pt_tree.specs.declared.expression.Constant.{Constant}
use Rattle.pt_tree.specs.declared.expression.Constant.TheVariants as constant
use Rattle.pt_tree.specs.Syntax.{Name}
use Rattle.pt_instr.specs.declared.Instr.{Instr}
use Rattle.pt_instr.specs.declared.Instr.TheVariants as instr
use Rattle.sem_control.specs.control.Turn as T
use Rattle.sem_control.specs.control.Turn.{Around, Scope, Variable, move}
use Rattle.sem_code.specs.slots.Slots.{Slots, value, cell, on}
use Rattle.sem_code.specs.slots.CodeObject.{CodeObject, Pool, local, global, named}
use Rattle.sem_code.specs.slots.Steps.{asks, gives, does, known, gives_known}
use Rattle.sem_code.specs.slots.Instructions.{perform}
use Rattle.sem_code.specs.slots.Stretches.{ins, Stands}
use Rattle.pt_assembler.specs.declared.operation.Target.{Target}
use Rattle.pt_assembler.specs.declared.operation.FreeUse.TheVariants as use_of
use Rattle.pt_assembler.specs.Piece.{Op, const, with_text}
use Rattle.pt_assembler.specs.PieceAt.{Is}
use Rattle.sem_code.specs.comp_expr.Places.{Seeks, Null_at, Cell_at, Stores, Sets, Renews}
use Rattle.sem_compile.specs.emitter.Ops.{load_in, store_in, renew_in, cell_in, load, store, renew, push_cell}
use Rattle.sem_compile.specs.emitter.Laws.{Agrees}

module _ {V : Type 0} (block : Around V) (code : CodeObject V) (rows : List Handler) (L : List Target) where
  -- a constant with an act is asked for
  asked_for : (j : Instr) (a : ActMark) (to : ℕ) (k : Constant) (ss : Slots V)
      → gives_known code (ins j (Some a) to rows) k (known code k) ss ≡ gives code (ins j (Some a) to rows) (T.const k) ss
  asked_for j a to constant.None ss = refl
  asked_for j a to (constant.Bool b) ss = refl
  asked_for j a to constant.Ellipsis ss = refl
  asked_for j a to (constant.Int n) ss = refl
  asked_for j a to (constant.Str t) ss = refl

  pub constant_sought : (k : Constant) (a : ActMark) (from to : ℕ) (j : Instr) → Is code.pool L (const k) j → Stands code rows j (Some a) from to
      → Seeks block code rows (T.const k) (Some a) from to
  constant_sought k a from to j (c, e, p) h = record {
    instr = j;
    stands = h;
    does = λ ss. subst (λ i. perform code from (ins i (Some a) to rows) i ss ≡ gives code (ins i (Some a) to rows) (T.const k) ss) (sym e)
        (asked_for (instr.Const c) a to (code.pool.constant c.0) ss ∙ ap (λ q. gives code (ins (instr.Const c) (Some a) to rows) (T.const q) ss) p);
  }

  pub null_given : code.null ≡ block.null → (from to : ℕ) (j : Instr) → Is code.pool L (const constant.None) j → Stands code rows j None from to
      → Null_at block code rows from to
  null_given n from to j (c, e, p) h = record {
    instr = j;
    stands = h;
    does = λ ss. subst (λ i. perform code from (ins i None to rows) i ss ≡ move (on to (value block.null ∷ ss))) (sym e)
        (ap (λ k. gives_known code (ins (instr.Const c) None to rows) k (known code k) ss) p ∙ ap (λ (u : V). move (on to (value u ∷ ss))) n);
  }

  loads : (s : Scope) (x : Name) → (s ≡ T.of_class → code.pool.name_scope ≡ T.of_class) → (m : Option ActMark) (from to : ℕ) (j : Instr)
      → Is code.pool L (load_in s x) j → (ss : Slots V)
      → perform code from (ins j m to rows) j ss ≡ gives code (ins j m to rows) (T.load (record { scope = s; name = x })) ss
  loads T.local x k m from to j (i, e, p) ss =
      subst (λ j. perform code from (ins j m to rows) j ss ≡ gives code (ins j m to rows) (T.load (local x)) ss) (sym e)
      (ap (λ y. gives code (ins (instr.Local i) m to rows) (T.load (local y)) ss) p)
  loads T.cell x k m from to j (i, e, p) ss =
      subst (λ j. perform code from (ins j m to rows) j ss ≡ gives code (ins j m to rows) (T.load (named T.cell x)) ss) (sym e)
      (ap (λ (y : Variable). gives code (ins (instr.Cell i) m to rows) (T.load y) ss) p)
  loads T.free x k m from to j (i, e, p) ss =
      subst (λ j. perform code from (ins j m to rows) j ss ≡ gives code (ins j m to rows) (T.load (named T.free x)) ss) (sym e)
      (ap (λ (y : Variable). gives code (ins (instr.Cell (record { 0 = i })) m to rows) (T.load y) ss) p)
  loads T.global x k m from to j (t, e, p) ss =
      subst (λ j. perform code from (ins j m to rows) j ss ≡ gives code (ins j m to rows) (T.load (global x)) ss) (sym e)
      (ap (λ y. gives code (ins (instr.Global t) m to rows) (T.load (global y)) ss) p)
  loads T.of_class x k m from to j (t, e, p) ss =
      subst (λ j. perform code from (ins j m to rows) j ss ≡ gives code (ins j m to rows) (T.load (named T.of_class x)) ss) (sym e)
      (ap (λ y. gives code (ins (instr.Name t) m to rows) (T.load (named code.pool.name_scope y)) ss) p
      ∙ ap (λ (s : Scope). gives code (ins (instr.Name t) m to rows) (T.load (named s x)) ss) (k refl))

  pub name_sought : (x : Variable) → (x.scope ≡ T.of_class → code.pool.name_scope ≡ T.of_class) → (m : Option ActMark) (from to : ℕ) (j : Instr)
      → Is code.pool L (load x) j → Stands code rows j m from to → Seeks block code rows (T.load x) m from to
  name_sought x k m from to j i h = record { instr = j; stands = h; does = λ ss. loads x.scope x.name k m from to j i ss }

  binds : (s : Scope) (x : Name) → (s ≡ T.of_class → code.pool.name_scope ≡ T.of_class) → (m : Option ActMark) (from to : ℕ) (j : Instr)
      → Is code.pool L (store_in s x) j → (v : V) (ss : Slots V)
      → perform code from (ins j m to rows) j (value v ∷ ss) ≡ does code (ins j m to rows) (T.store (record { scope = s; name = x }) v) ss
  binds T.local x k m from to j (i, e, p) v ss =
      subst (λ j. perform code from (ins j m to rows) j (value v ∷ ss) ≡ does code (ins j m to rows) (T.store (local x) v) ss) (sym e)
      (ap (λ y. does code (ins (instr.SetLocal i) m to rows) (T.store (local y) v) ss) p)
  binds T.cell x k m from to j (i, e, p) v ss =
      subst (λ j. perform code from (ins j m to rows) j (value v ∷ ss) ≡ does code (ins j m to rows) (T.store (named T.cell x) v) ss) (sym e)
      (ap (λ (y : Variable). does code (ins (instr.SetCell i) m to rows) (T.store y v) ss) p)
  binds T.free x k m from to j (i, e, p) v ss =
      subst (λ j. perform code from (ins j m to rows) j (value v ∷ ss) ≡ does code (ins j m to rows) (T.store (named T.free x) v) ss) (sym e)
      (ap (λ (y : Variable). does code (ins (instr.SetCell (record { 0 = i })) m to rows) (T.store y v) ss) p)
  binds T.global x k m from to j (t, e, p) v ss =
      subst (λ j. perform code from (ins j m to rows) j (value v ∷ ss) ≡ does code (ins j m to rows) (T.store (global x) v) ss) (sym e)
      (ap (λ y. does code (ins (instr.SetGlobal t) m to rows) (T.store (global y) v) ss) p)
  binds T.of_class x k m from to j (t, e, p) v ss =
      subst (λ j. perform code from (ins j m to rows) j (value v ∷ ss) ≡ does code (ins j m to rows) (T.store (named T.of_class x) v) ss) (sym e)
      (ap (λ y. does code (ins (instr.SetName t) m to rows) (T.store (named code.pool.name_scope y) v) ss) p
      ∙ ap (λ (s : Scope). does code (ins (instr.SetName t) m to rows) (T.store (named s x) v) ss) (k refl))

  pub name_bound : (x : Variable) → (x.scope ≡ T.of_class → code.pool.name_scope ≡ T.of_class) → (m : Option ActMark) (from to : ℕ) (j : Instr)
      → Is code.pool L (store x) j → Stands code rows j m from to → Stores block code rows x m from to
  name_bound x k m from to j i h = record { instr = j; stands = h; does = λ v ss. binds x.scope x.name k m from to j i v ss }

  renews : (s : Scope) (x : Name) (from to : ℕ) (j : Instr) → Is code.pool L (renew_in s x) j → (ss : Slots V)
      → perform code from (ins j None to rows) j ss ≡ does code (ins j None to rows) (T.fresh (record { scope = s; name = x })) ss
  renews T.local x from to j (i, e, p) ss =
      subst (λ j. perform code from (ins j None to rows) j ss ≡ does code (ins j None to rows) (T.fresh (local x)) ss) (sym e)
      (ap (λ y. does code (ins (instr.FreshLocal i) None to rows) (T.fresh (local y)) ss) p)
  renews T.cell x from to j (i, e, p) ss =
      subst (λ j. perform code from (ins j None to rows) j ss ≡ does code (ins j None to rows) (T.fresh (named T.cell x)) ss) (sym e)
      (ap (λ (y : Variable). does code (ins (instr.FreshCell i) None to rows) (T.fresh y) ss) p)
  renews T.free x from to j i ss = absurd i
  renews T.global x from to j i ss = absurd i
  renews T.of_class x from to j i ss = absurd i

  pub name_renewed : (x : Variable) (from to : ℕ) (j : Instr) → Is code.pool L (renew x) j → Stands code rows j None from to → Renews block code rows x from to
  name_renewed x from to j i h = record { instr = j; stands = h; does = λ ss. renews x.scope x.name from to j i ss }

  pushes : (s : Scope) (x : Name) (from to : ℕ) (j : Instr) → Is code.pool L (cell_in s x) j → (ss : Slots V)
      → perform code from (ins j None to rows) j ss
      ≡ asks code (ins j None to rows) (T.seek (T.cell_of (record { scope = s; name = x }))) ss (λ v. on to (cell v ∷ ss))
  pushes T.cell x from to j (i, e, p) ss =
      subst (λ j. perform code from (ins j None to rows) j ss ≡ asks code (ins j None to rows) (T.seek (T.cell_of (named T.cell x))) ss (λ v. on to (cell v ∷ ss)))
      (sym e) (ap (λ (y : Variable). asks code (ins (instr.PushCell i) None to rows) (T.seek (T.cell_of y)) ss (λ v. on to (cell v ∷ ss))) p)
  pushes T.free x from to j (i, e, p) ss =
      subst (λ j. perform code from (ins j None to rows) j ss ≡ asks code (ins j None to rows) (T.seek (T.cell_of (named T.free x))) ss (λ v. on to (cell v ∷ ss)))
      (sym e)
      (ap (λ (y : Variable). asks code (ins (instr.PushCell (record { 0 = i })) None to rows) (T.seek (T.cell_of y)) ss (λ v. on to (cell v ∷ ss))) p)
  pushes T.local x from to j i ss = absurd i
  pushes T.global x from to j i ss = absurd i
  pushes T.of_class x from to j i ss = absurd i

  pub cell_pushed : (x : Variable) (from to : ℕ) (j : Instr) → Is code.pool L (push_cell x) j → Stands code rows j None from to → Cell_at block code rows x from to
  cell_pushed x from to j i h = record { instr = j; stands = h; does = λ ss. pushes x.scope x.name from to j i ss }

  pub attribute_set : (x : Name) (m : Option ActMark) (from to : ℕ) (j : Instr) → Is code.pool L (with_text instr.SetAttr x) j → Stands code rows j m from to
      → Sets block code rows x m from to
  attribute_set x m from to j (t, e, p) h = record {
    instr = j;
    stands = h;
    does = λ v a ss.
        subst (λ j. perform code from (ins j m to rows) j (value a ∷ value v ∷ ss) ≡ does code (ins j m to rows) (T.set_attribute x a v) ss) (sym e)
        (ap (λ y. does code (ins (instr.SetAttr t) m to rows) (T.set_attribute y a v) ss) p);
  }
