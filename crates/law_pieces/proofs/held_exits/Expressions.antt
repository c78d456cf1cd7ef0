-- An expression begins in front of what waits for it.
use Rattle.std.proofs.Common.{ℕ, List, [], ◌∷◌, Bool, false, Option}
use Rattle.pt_tree.specs.declared.expression.Conversion.{Conversion}
use Rattle.pt_tree.specs.Syntax as S
use Rattle.pt_tree.specs.Syntax.{Exp, Pieces, Made, Clauses, Tgt, Params, Formals}
use Rattle.sem_control.specs.control.Turn.{Variable, Around, Operation}
use Rattle.sem_control.specs.control.Frames as F
use Rattle.sem_control.specs.control.Frames.{Operand, Wait, Rounds, Control}
use Rattle.sem_control.specs.control.Expressions.{of_formals, making, cells_of, begin_operation, begin_exp, begin_defaults, begin_function, next_operand, begin_spec, begin_made, begin_last, begin_clauses, take_item}
use Rattle.law_pieces.specs.held_exits.Bodies.{Body}
use Rattle.law_pieces.proofs.held_exits.Fits.{Wait_fits, Rounds_fit, Control_fits}

module _ (bodies : ℕ → Option Body) {V : Type 0} (block : Around V) where
  pub begin_operation_fits : (xs : List Variable) (l n : ℕ) (g : Bool) (op : Operation) (vs : List V) (w : Wait V)
      → Wait_fits bodies w → Control_fits bodies (begin_operation block xs l n g op vs w)
  begin_operation_fits [] l n g op vs w h = h
  begin_operation_fits (x ∷ xs) l n g op vs w h = h

  mutual
    pub begin_exp_fits : (e : Exp) (n : ℕ) (g : Bool) (w : Wait V) → Wait_fits bodies w → Control_fits bodies (begin_exp block e n g w)
    begin_exp_fits (S.constant l k) n g w h = h
    begin_exp_fits (S.name l x) n g w h = h
    begin_exp_fits (S.joined l S.no_pieces) n g w h = h
    begin_exp_fits (S.joined l (S.literal k t r)) n g w h = h
    begin_exp_fits (S.joined l (S.field k e c sp r)) n g w h = begin_exp_fits e n g _ h
    begin_exp_fits (S.tuple l S.no_exps) n g w h = h
    begin_exp_fits (S.tuple l (S.more_exps e es)) n g w h = begin_exp_fits e n g _ h
    begin_exp_fits (S.list l S.no_exps) n g w h = h
    begin_exp_fits (S.list l (S.more_exps e es)) n g w h = begin_exp_fits e n g _ h
    begin_exp_fits (S.set l S.no_exps) n g w h = h
    begin_exp_fits (S.set l (S.more_exps e es)) n g w h = begin_exp_fits e n g _ h
    begin_exp_fits (S.dict l S.no_entries) n g w h = h
    begin_exp_fits (S.dict l (S.entry k v r)) n g w h = begin_exp_fits k n g _ h
    begin_exp_fits (S.attribute l b x) n g w h = begin_exp_fits b n g _ h
    begin_exp_fits (S.item l b i) n g w h = begin_exp_fits b n g _ h
    begin_exp_fits (S.slice l S.absent S.absent S.absent) n g w h = h
    begin_exp_fits (S.slice l S.absent S.absent (S.given d)) n g w h = begin_exp_fits d n g _ h
    begin_exp_fits (S.slice l S.absent (S.given c) d) n g w h = begin_exp_fits c n g _ h
    begin_exp_fits (S.slice l (S.given b) c d) n g w h = begin_exp_fits b n g _ h
    begin_exp_fits (S.unary l o b) n g w h = begin_exp_fits b n g _ h
    begin_exp_fits (S.not_of l b) n g w h = begin_exp_fits b n g _ h
    begin_exp_fits (S.binary l o b c) n g w h = begin_exp_fits b n g _ h
    begin_exp_fits (S.compare l b o c r) n g w h = begin_exp_fits b n g _ h
    begin_exp_fits (S.and l b es) n g w h = begin_exp_fits b n g _ h
    begin_exp_fits (S.or l b es) n g w h = begin_exp_fits b n g _ h
    begin_exp_fits (S.conditional l b c d) n g w h = begin_exp_fits b n g _ (h, h)
    begin_exp_fits (S.call l f xs) n g w h = begin_exp_fits f n g _ h
    begin_exp_fits (S.lambda l b (S.parameters ps s ks d) e) n g w h =
        begin_defaults_fit ps (of_formals ks) (making block b ps ks) l n g w _ h
        (begin_defaults_fit ks [] (making block b ps ks) l n g w _ h (begin_operation_fits (block.captured b) l n g (making block b ps ks) [] w h))
    begin_exp_fits (S.comprehension l m k t it cs) n g w h = begin_exp_fits it n g _ h
    begin_exp_fits (S.generator l b e k t it cs) n g w h = begin_exp_fits it n g _ h
    begin_exp_fits (S.yield l S.absent) n g w h = h
    begin_exp_fits (S.yield l (S.given e)) n g w h = begin_exp_fits e n g _ h
    begin_exp_fits (S.yield_from l e) n g w h = begin_exp_fits e n g _ h

    begin_defaults_fit : (fs : Formals) (os : List Operand) (op : Operation) (l n : ℕ) (g : Bool) (w : Wait V) (after : Control V)
        → Wait_fits bodies w → Control_fits bodies after → Control_fits bodies (begin_defaults block fs os op l n g w after)
    begin_defaults_fit S.no_formals os op l n g w after h a = a
    begin_defaults_fit (S.formal k x b S.absent r) os op l n g w after h a = begin_defaults_fit r os op l n g w after h a
    begin_defaults_fit (S.formal k x b (S.given d) r) os op l n g w after h a = begin_exp_fits d n g _ h

  pub begin_function_fits : (b : ℕ) (ps : Params) (l n : ℕ) (w : Wait V) → Wait_fits bodies w → Control_fits bodies (begin_function block b ps l n w)
  begin_function_fits b (S.parameters ps s ks d) l n w h =
      begin_defaults_fit ps (of_formals ks) (making block b ps ks) l n false w _ h
      (begin_defaults_fit ks [] (making block b ps ks) l n false w _ h (begin_operation_fits (block.captured b) l n false (making block b ps ks) [] w h))

  pub next_operand_fits : (os : List Operand) (l n : ℕ) (op : Operation) (vs : List V) (w : Wait V)
      → Wait_fits bodies w → Control_fits bodies (next_operand block l n op vs os w)
  next_operand_fits [] l n op vs w h = begin_operation_fits (cells_of block op) l n false op vs w h
  next_operand_fits (F.missing ∷ os) l n op vs w h = next_operand_fits os l n op (block.null ∷ vs) w h
  next_operand_fits (F.plain e ∷ os) l n op vs w h = begin_exp_fits e n false _ h
  next_operand_fits (F.spread_of k e ∷ os) l n op vs w h = begin_exp_fits e n false _ h
  next_operand_fits (F.spread_named_of k e ∷ os) l n op vs w h = begin_exp_fits e n false _ h
  next_operand_fits (F.literal_of k t ∷ os) l n op vs w h = h
  next_operand_fits (F.field_of k e c sp ∷ os) l n op vs w h = begin_exp_fits e n false _ h

  pub begin_spec_fits : (sp : Pieces) (l n : ℕ) (c : Option Conversion) (v : V) (w : Wait V) → Wait_fits bodies w → Control_fits bodies (begin_spec block l n c v sp w)
  begin_spec_fits S.no_pieces l n c v w h = h
  begin_spec_fits (S.literal k t S.no_pieces) l n c v w h = h
  begin_spec_fits (S.field k e d sp S.no_pieces) l n c v w h = begin_exp_fits e n false _ h
  begin_spec_fits (S.literal k t (S.literal j u r)) l n c v w h = h
  begin_spec_fits (S.literal k t (S.field j f b q r)) l n c v w h = h
  begin_spec_fits (S.field k e d sp (S.literal j u r)) l n c v w h = begin_exp_fits e n false _ h
  begin_spec_fits (S.field k e d sp (S.field j f b q r)) l n c v w h = begin_exp_fits e n false _ h

  begin_made_fits : (m : Made) (l n : ℕ) (v : V) (r : Rounds V) → Rounds_fit bodies r → Control_fits bodies (begin_made block m l n v r)
  begin_made_fits (S.a_list e) l n v r h = begin_exp_fits e n false _ h
  begin_made_fits (S.a_set e) l n v r h = begin_exp_fits e n false _ h
  begin_made_fits (S.a_dict k e) l n v r h = begin_exp_fits k n false _ h

  begin_last_fits : (q : Rounds V) (n : ℕ) (r : Rounds V) → Rounds_fit bodies r → Control_fits bodies (begin_last block q n r)
  begin_last_fits (F.collecting l k m v w) n r h = begin_made_fits m l n v r h
  begin_last_fits (F.generating l e s) n r h = begin_exp_fits e n false _ h
  begin_last_fits (F.round_of l k i t cs q) n r h = begin_last_fits q n r h

  pub begin_clauses_fit : (cs : Clauses) (n : ℕ) (r : Rounds V) → Rounds_fit bodies r → Control_fits bodies (begin_clauses block cs n r)
  begin_clauses_fit S.no_clauses n r h = begin_last_fits r n r h
  begin_clauses_fit (S.only_if c cs) n r h = begin_exp_fits c n false _ (h, h)
  begin_clauses_fit (S.for_each l t it cs) n r h = begin_exp_fits it n false _ h

  pub take_item_fits : (l n : ℕ) (i : V) (t : Tgt) (cs : Clauses) (r : Rounds V) → Rounds_fit bodies r → Control_fits bodies (take_item l n i t cs r)
  take_item_fits l n i t cs r h = (h, h)
