-- What instructions of statements do whose operands are named.
use Rattle.std.proofs.Common.{◌≡◌, ℕ, suc, ◌+◌, Bool, true, false, List, [], ◌∷◌, Option, None, refl, sym, ap, ◌∙◌, subst, arith, add-zero}
use Rattle.std.specs.Prelude.{if◌then◌else◌}
use Rattle.pt_ranges.specs.declared.lines.ActMark.{ActMark}
use Rattle.pt_ranges.specs.declared.handlers.Handler.{Handler}
use Rattle.pt_tree.specs.declared.expression.Constant.TheVariants as constant
use Rattle.pt_tree.specs.Syntax.{Name}
use Rattle.pt_instr.specs.declared.Instr.{Instr}
use Rattle.pt_instr.specs.declared.Instr.TheVariants as instr
use Rattle.pt_code.specs.declared.Start.{Start}
use Rattle.sem_control.specs.control.Turn as T
use Rattle.sem_control.specs.control.Turn.{Around, Scope, Variable, move}
use Rattle.sem_code.specs.slots.Slots.{Slots, value, on}
use Rattle.sem_code.specs.slots.CodeObject.{CodeObject, local, global, named}
use Rattle.sem_code.specs.slots.Steps.{asks, does, known, gives_known, branches, dropped}
use Rattle.sem_code.specs.slots.Instructions.{perform}
use Rattle.sem_code.specs.slots.Stretches.{ins, act_mark, Stands}
use Rattle.pt_assembler.specs.declared.operation.Target.{Target}
use Rattle.pt_assembler.specs.Piece.{const, with_text}
use Rattle.pt_assembler.specs.PieceAt.{Is, Context, Piece_at}
use Rattle.sem_code.specs.comp_expr.Places.{count, above, Made_at, Operates}
use Rattle.sem_code.proofs.comp_expr.Operations.{takes_base}
use Rattle.sem_compile.specs.emitter.Ops.{operation}
use Rattle.sem_compile.specs.emitter.ExpPiece.{made_piece}
use Rattle.sem_compile.proofs.emitter.Doing.{cell_pushed}
use Rattle.sem_code.specs.comp.Places.{Deletes, DeletesAttribute, ImportsName, GivesTruth, LeadsOn, Splits}
use Rattle.sem_compile.specs.stm_pieces.StmPiece.{delete_in, delete}
use Rattle.sem_compile.specs.stm_pieces.Laws.{KnowsTruths}

module _ {V : Type 0} (block : Around V) (code : CodeObject V) (rows : List Handler) (L : List Target) where
  deletes : (s : Scope) (x : Name) → (s ≡ T.of_class → code.pool.name_scope ≡ T.of_class) → (m : Option ActMark) (from to : ℕ) (j : Instr)
      → Is code.pool L (delete_in s x) j → (ss : Slots V)
      → perform code from (ins j m to rows) j ss ≡ does code (ins j m to rows) (T.delete (record { scope = s; name = x })) ss
  deletes T.local x k m from to j (i, e, p) ss =
      subst (λ j. perform code from (ins j m to rows) j ss ≡ does code (ins j m to rows) (T.delete (local x)) ss) (sym e)
      (ap (λ y. does code (ins (instr.DelLocal i) m to rows) (T.delete (local y)) ss) p)
  deletes T.cell x k m from to j (i, e, p) ss =
      subst (λ j. perform code from (ins j m to rows) j ss ≡ does code (ins j m to rows) (T.delete (named T.cell x)) ss) (sym e)
      (ap (λ (y : Variable). does code (ins (instr.DelCell i) m to rows) (T.delete y) ss) p)
  deletes T.free x k m from to j (i, e, p) ss =
      subst (λ j. perform code from (ins j m to rows) j ss ≡ does code (ins j m to rows) (T.delete (named T.free x)) ss) (sym e)
      (ap (λ (y : Variable). does code (ins (instr.DelCell (record { 0 = i })) m to rows) (T.delete y) ss) p)
  deletes T.global x k m from to j (t, e, p) ss =
      subst (λ j. perform code from (ins j m to rows) j ss ≡ does code (ins j m to rows) (T.delete (global x)) ss) (sym e)
      (ap (λ y. does code (ins (instr.DelGlobal t) m to rows) (T.delete (global y)) ss) p)
  deletes T.of_class x k m from to j (t, e, p) ss =
      subst (λ j. perform code from (ins j m to rows) j ss ≡ does code (ins j m to rows) (T.delete (named T.of_class x)) ss) (sym e)
      (ap (λ y. does code (ins (instr.DelName t) m to rows) (T.delete (named code.pool.name_scope y)) ss) p
      ∙ ap (λ (s : Scope). does code (ins (instr.DelName t) m to rows) (T.delete (named s x)) ss) (k refl))

  pub name_deleted : (x : Variable) → (x.scope ≡ T.of_class → code.pool.name_scope ≡ T.of_class) → (m : Option ActMark) (from to : ℕ) (j : Instr)
      → Is code.pool L (delete x) j → Stands code rows j m from to → Deletes block code rows x m from to
  name_deleted x k m from to j i h = record { instr = j; stands = h; does = λ ss. deletes x.scope x.name k m from to j i ss }

  pub attribute_deleted : (x : Name) (m : Option ActMark) (from to : ℕ) (j : Instr) → Is code.pool L (with_text instr.DelAttr x) j → Stands code rows j m from to
      → DeletesAttribute block code rows x m from to
  attribute_deleted x m from to j (t, e, p) h = record {
    instr = j;
    stands = h;
    does = λ a ss.
        subst (λ j. perform code from (ins j m to rows) j (value a ∷ ss) ≡ does code (ins j m to rows) (T.delete_attribute x a) ss) (sym e)
        (ap (λ y. does code (ins (instr.DelAttr t) m to rows) (T.delete_attribute y a) ss) p);
  }

  pub name_imported : (x : Name) (m : Option ActMark) (from to : ℕ) (j : Instr) → Is code.pool L (operation (T.import_name x) 1) j → Stands code rows j m from to
      → ImportsName block code rows x m from to
  name_imported x m from to j (t, e, p) h = record {
    instr = j;
    stands = h;
    does = λ v ss.
        subst (λ j. perform code from (ins j m to rows) j (value v ∷ ss)
        ≡ asks code (ins j m to rows) (T.seek (T.operate (T.import_name x) (v ∷ []))) (value v ∷ ss) (λ u. on to (value u ∷ value v ∷ ss))) (sym e)
        (ap (λ y. asks code (ins (instr.ImportName t) m to rows) (T.seek (T.operate (T.import_name y) (v ∷ []))) (value v ∷ ss) (λ u. on to (value u ∷ value v ∷ ss)))
        p);
  }

  pub truth_given : (b : Bool) (from to : ℕ) (j : Instr) → Is code.pool L (const (constant.Bool b)) j → Stands code rows j None from to
      → GivesTruth block code rows b from to
  truth_given b from to j (c, e, p) h = record {
    instr = j;
    stands = h;
    does = λ ss. subst (λ i. perform code from (ins i None to rows) i ss ≡ move (on to (value (code.truth b) ∷ ss))) (sym e)
        (ap (λ k. gives_known code (ins (instr.Const c) None to rows) k (known code k) ss) p);
  }

  -- a truth that is known leads to the next place or to that of the label
  branched : KnowsTruths code → (pc : ℕ) (b : Bool) (from to : ℕ) (ss : Slots V)
      → perform code from (ins (instr.JumpUnless (record { 0 = pc })) None to rows) (instr.JumpUnless (record { 0 = pc })) (value (code.truth b) ∷ ss)
      ≡ move (on (if b then to else pc) ss)
  branched k pc true from to ss =
      ap (λ o. branches code (ins (instr.JumpUnless (record { 0 = pc })) None to rows) o (dropped to) (dropped pc) (code.truth true) ss) (k true)
  branched k pc false from to ss =
      ap (λ o. branches code (ins (instr.JumpUnless (record { 0 = pc })) None to rows) o (dropped to) (dropped pc) (code.truth false) ss) (k false)

  pub truth_splits : KnowsTruths code → (pc from to : ℕ) (j : Instr) → j ≡ instr.JumpUnless (record { 0 = pc }) → Stands code rows j None from to
      → Splits block code rows pc from to
  truth_splits k pc from to j e h = record {
    instr = instr.JumpUnless (record { 0 = pc });
    stands = subst (λ (q : Instr). Stands code rows q None from to) e h;
    does = λ b ss. branched k pc b from to ss;
  }

  pub truth_leads_on : KnowsTruths code → (pc from to : ℕ) (j : Instr) → j ≡ instr.JumpUnless (record { 0 = pc }) → Stands code rows j None from to
      → LeadsOn block code rows true from to
  truth_leads_on k pc from to j e h = record {
    instr = instr.JumpUnless (record { 0 = pc });
    stands = subst (λ (q : Instr). Stands code rows q None from to) e h;
    does = λ ss. branched k pc true from to ss;
  }

module _ {V : Type 0} (block : Around V) (code : CodeObject V) (starts : List Start) (x : Context) where
  -- a class, above whose base its cells lie
  pub class_made : (xs : List Variable) (b l a c : ℕ) (L : List Target) (from to : ℕ) → c + count xs ≡ code.pool.captures b
      → Piece_at code starts (made_piece block xs (T.class b) l a false 1) L x from to → Made_at block code x.rows xs (T.class b) above l a false 1 c from to
  class_made [] b l a c L from to e (j, i, h) =
      subst (λ k. Operates block code x.rows (T.class b) above 1 k (act_mark from a l false) from to) (sym (sym (add-zero c) ∙ e))
      (takes_base block code x.rows (T.class b) (code.pool.captures b) (instr.MakeClass (record { 0 = b })) (act_mark from a l false) from to
      (subst (λ (q : Instr). Stands code x.rows q (act_mark from a l false) from to) i h) (λ ss. refl))
  class_made (v ∷ xs) b l a c L from to e (mid, (j, i, h), r) =
      let next : suc c + count xs ≡ c + suc (count xs) = omega arith in (
        mid,
        cell_pushed block code x.rows L v from mid j i h,
        class_made xs b l a (suc c) L mid to (next ∙ e) r,
      )
