-- The pieces of expressions are typed: above any slots they give a value.
use Rattle.std.proofs.Common.{◌≡◌, ℕ, ◌+◌, suc, Bool, true, false, List, [], ◌∷◌, ◌++◌, map, length, replicate, slice_get, Option, Some, None, refl, sym, subst, arith}
use Rattle.pt_base.specs.declared.operators.CompareOp.{CompareOp}
use Rattle.pt_tree.specs.declared.expression.Conversion.{Conversion}
use Rattle.pt_tree.specs.Syntax as S
use Rattle.pt_tree.specs.Syntax.{Name, Exp, Exps, Opt, Pieces, Entries, Links as ChainLinks, Args, Made, Clauses, Place, Tgt, Tgts, Formals}
use Rattle.pt_tree.specs.Sizes.{size, pieces_size, joins, target_size}
use Rattle.pt_instr.specs.declared.Instr.TheVariants as instr
use Rattle.pt_instr.specs.declared.kinds.Kind.TheVariants as kind
use Rattle.pt_instr.specs.Effects.{effect_of}
use Rattle.sem_control.specs.control.Turn as T
use Rattle.sem_control.specs.control.Turn.{Around, Variable, Operation}
use Rattle.sem_control.specs.control.Expressions.{roles, defaulted, built_as}
use Rattle.sem_control.specs.control.Statements as statements
use Rattle.sem_control.specs.control.Statements.{star_of}
use Rattle.pt_assembler.specs.declared.operation.Jump.TheVariants.{AtEnd, Always as Jumps, IfTrue, IfFalse, IfTrueKeep, IfFalseKeep}
use Rattle.pt_assembler.specs.Piece as P
use Rattle.pt_assembler.specs.Piece.{Piece, pick}
use Rattle.sem_fits.specs.fits.Block.{Links}
use Rattle.law_operands.specs.law_files.sem_compile.emitter.Ops.{operation}
use Rattle.law_operands.specs.law_files.sem_compile.emitter.ExpPiece.{null_piece, made_piece, op_piece, renewed_piece, exp_piece, part_piece, exps_piece, entries_piece, args_piece, pieces_piece, spec_piece, links_piece, ands_piece, ors_piece, formals_piece, first_piece, clauses_piece, item_piece, target_piece, targets_piece, place_piece}
use Rattle.law_operands.specs.law_files.sem_compile.stm_pieces.Names.{AllOwn, AllCells, TakesCells, Exp_named, Part_named, Exps_named, Pieces_named, Entries_named, Links_named, Operands_named, Args_named, Formals_named, Clauses_named, Made_named, Target_named, Targets_named, Place_named}
use Rattle.law_pieces.specs.piece_kinds.Walk.{Loop, Known, StackMap, to_none, to_one, Setting, end_of}
use Rattle.law_pieces.specs.piece_kinds.Typed.{Over, plainly, turned}
use Rattle.law_pieces.proofs.piece_kinds.ListLemmas.{over_more, over_all}
use Rattle.law_typed_pieces.proofs.typed_pieces.Combine.{Goes, Does, act_of, move_of, nothing_there, both, next_to, in_closed, in_block, in_head, value, gives_plain, gives_one, takes_one, takes_two, takes_three, one_of_one, one_of_two, one_of_three}
use Rattle.law_typed_pieces.proofs.typed_pieces.Operations.{cell, many, one_below, loads, stores, renews, pushes, makes_tuple, makes_list, makes_set, joins_texts, makes_dict, calls, makes_function, makes_class, makes_generator, unpacks, star_less}

-- an iterator that was made at a place, and one with which a generator expression begins
abbrev pub iterator_of : Option ℕ → Known
iterator_of o = record { kind = kind.Iter; origin = o; loop = None }

abbrev pub iterator : ℕ → Known
iterator p = iterator_of (Some p)

-- a result lies this deep
abbrev pub ResultAt : ℕ → StackMap → Type 0
ResultAt d G = slice_get G d ≡ Some value

-- where items are added to one
abbrev pub ResultIf : Bool → ℕ → StackMap → Type 0
ResultIf true d G = ResultAt d G
ResultIf false d G = Unit {0}

result_below : (r : Bool) (d : ℕ) (k : Known) (G : StackMap) → ResultIf r d G → ResultIf r (suc d) (k ∷ G)
result_below true d k G y = y
result_below false d k G y = tt

-- slots are copied, moved and tested

module _ {links : Links} {x : Option Loop} {Ls : List (Option StackMap)} {base : StackMap} {to : ℕ} where
  pub copies : (F : StackMap) → Over base F → Does links (P.plain instr.Copy) x Ls base to (value ∷ F) (Some (value ∷ value ∷ F)) to_none
  unfolding effect_of
  copies F o = record {
    fires = record { taken = value ∷ []; rest = F; is = refl; over = o; takes = plainly refl; above = tt; uniform = tt; lands = tt; holds = (tt, tt) };
    behind = refl;
    sent = λ k. refl;
  }

  pub copies_two : (F : StackMap) → Over base F → Does links (P.plain instr.Copy2) x Ls base to (value ∷ value ∷ F) (Some (value ∷ value ∷ value ∷ value ∷ F)) to_none
  unfolding effect_of
  copies_two F o = record {
    fires = record { taken = value ∷ value ∷ []; rest = F; is = refl; over = o; takes = plainly refl; above = tt; uniform = tt; lands = tt; holds = (tt, (tt, tt)) };
    behind = refl;
    sent = λ k. refl;
  }

  pub swaps : (F : StackMap) → Over base F → Does links (P.plain instr.Swap) x Ls base to (value ∷ value ∷ F) (Some (value ∷ value ∷ F)) to_none
  unfolding effect_of
  swaps F o = record {
    fires = record { taken = value ∷ value ∷ []; rest = F; is = refl; over = o; takes = plainly refl; above = tt; uniform = tt; lands = tt; holds = (tt, (tt, tt)) };
    behind = refl;
    sent = λ k. refl;
  }

  pub swaps_iterator : (p : ℕ) (F : StackMap) → Over base F
      → Does links (P.plain instr.Swap) x Ls base to (value ∷ iterator p ∷ F) (Some (iterator to ∷ value ∷ F)) to_none
  unfolding effect_of
  swaps_iterator p F o = record {
    fires = record { taken = value ∷ iterator p ∷ []; rest = F; is = refl; over = o; takes = turned refl refl refl; above = tt; uniform = tt; lands = tt; holds = (tt, (tt, tt)) };
    behind = refl;
    sent = λ k. refl;
  }

  pub rotates : (F : StackMap) → Over base F → Does links (P.plain instr.Rot3) x Ls base to (value ∷ value ∷ value ∷ F) (Some (value ∷ value ∷ value ∷ F)) to_none
  unfolding effect_of
  rotates F o =
      gives_plain (kind.Value ∷ kind.Value ∷ kind.Value ∷ []) (kind.Value ∷ kind.Value ∷ kind.Value ∷ []) false refl tt
      (value ∷ value ∷ value ∷ []) (value ∷ value ∷ value ∷ []) refl (tt, (tt, (tt, tt))) refl F o

  pub iterates : (F : StackMap) → Over base F → Does links (P.plain instr.Iter) x Ls base to (value ∷ F) (Some (iterator to ∷ F)) to_none
  unfolding effect_of
  iterates F o = gives_plain (kind.Value ∷ []) (kind.Iter ∷ []) false refl tt (value ∷ []) (iterator to ∷ []) refl (tt, tt) refl F o

  pub delegates : (p : ℕ) (F : StackMap) → Over base F → Does links (P.plain instr.Delegate) x Ls base to (value ∷ iterator p ∷ F) (Some (value ∷ F)) to_none
  unfolding effect_of
  delegates p F o =
      gives_plain (kind.Iter ∷ kind.Value ∷ []) (kind.Value ∷ []) true refl tt (value ∷ iterator p ∷ []) (value ∷ []) refl (tt, (tt, tt)) refl F o

  -- a jump, a test that drops what it tests, one that keeps it, and the next item, each to a label that has what comes there

  pub jumps : (l : ℕ) (F : StackMap) → Over base F → pick None Ls l ≡ Some F → Does links (P.to Jumps l) x Ls base to F None (to_one (P.to Jumps l) (Some F))
  unfolding effect_of
  jumps l F o h = record {
    fires = record { taken = []; rest = F; is = refl; over = o; takes = plainly refl; above = tt; uniform = tt; lands = h; holds = tt };
    behind = refl;
    sent = λ k. refl;
  }

  pub tests_false : (l : ℕ) (F : StackMap) → Over base F → pick None Ls l ≡ Some F
      → Does links (P.to IfFalse l) x Ls base to (value ∷ F) (Some F) (to_one (P.to IfFalse l) (Some F))
  unfolding effect_of
  tests_false l F o h = record {
    fires = record { taken = value ∷ []; rest = F; is = refl; over = o; takes = plainly refl; above = tt; uniform = tt; lands = h; holds = (tt, tt) };
    behind = refl;
    sent = λ k. refl;
  }

  pub tests_true : (l : ℕ) (F : StackMap) → Over base F → pick None Ls l ≡ Some F
      → Does links (P.to IfTrue l) x Ls base to (value ∷ F) (Some F) (to_one (P.to IfTrue l) (Some F))
  unfolding effect_of
  tests_true l F o h = record {
    fires = record { taken = value ∷ []; rest = F; is = refl; over = o; takes = plainly refl; above = tt; uniform = tt; lands = h; holds = (tt, tt) };
    behind = refl;
    sent = λ k. refl;
  }

  pub keeps_false : (l : ℕ) (F : StackMap) → Over base F → pick None Ls l ≡ Some (value ∷ F)
      → Does links (P.to IfFalseKeep l) x Ls base to (value ∷ F) (Some F) (to_one (P.to IfFalseKeep l) (Some (value ∷ F)))
  unfolding effect_of
  keeps_false l F o h = record {
    fires = record { taken = value ∷ []; rest = F; is = refl; over = o; takes = plainly refl; above = tt; uniform = tt; lands = h; holds = (tt, tt) };
    behind = refl;
    sent = λ k. refl;
  }

  pub keeps_true : (l : ℕ) (F : StackMap) → Over base F → pick None Ls l ≡ Some (value ∷ F)
      → Does links (P.to IfTrueKeep l) x Ls base to (value ∷ F) (Some F) (to_one (P.to IfTrueKeep l) (Some (value ∷ F)))
  unfolding effect_of
  keeps_true l F o h = record {
    fires = record { taken = value ∷ []; rest = F; is = refl; over = o; takes = plainly refl; above = tt; uniform = tt; lands = h; holds = (tt, tt) };
    behind = refl;
    sent = λ k. refl;
  }

  pub takes_next : (l : ℕ) (p : Option ℕ) (F : StackMap) → Over base F → pick None Ls l ≡ Some F
      → Does links (P.to AtEnd l) x Ls base to (iterator_of p ∷ F) (Some (value ∷ iterator_of p ∷ F)) (to_one (P.to AtEnd l) (Some F))
  unfolding effect_of
  takes_next l p F o h = record {
    fires = record { taken = iterator_of p ∷ []; rest = F; is = refl; over = o; takes = plainly refl; above = tt; uniform = tt; lands = h; holds = (tt, tt) };
    behind = refl;
    sent = λ k. refl;
  }

  -- an item is added to what lies below the iterators

  pub adds_item : (d : ℕ) (G : StackMap) → Over base G → ResultAt d G → Does links (P.plain (instr.ListAdd (suc d))) x Ls base to (value ∷ G) (Some G) to_none
  unfolding effect_of
  adds_item d G o r = record {
    fires = record { taken = value ∷ []; rest = G; is = refl; over = o; takes = plainly refl; above = (value, r, refl); uniform = tt; lands = tt; holds = (tt, tt) };
    behind = refl;
    sent = λ k. refl;
  }

  pub adds_element : (d : ℕ) (G : StackMap) → Over base G → ResultAt d G → Does links (P.plain (instr.SetAdd (suc d))) x Ls base to (value ∷ G) (Some G) to_none
  unfolding effect_of
  adds_element d G o r = record {
    fires = record { taken = value ∷ []; rest = G; is = refl; over = o; takes = plainly refl; above = (value, r, refl); uniform = tt; lands = tt; holds = (tt, tt) };
    behind = refl;
    sent = λ k. refl;
  }

  pub adds_entry : (d : ℕ) (G : StackMap) → Over base G → ResultAt d G → Does links (P.plain (instr.DictAdd (suc d))) x Ls base to (value ∷ value ∷ G) (Some G) to_none
  unfolding effect_of
  adds_entry d G o r = record {
    fires = record { taken = value ∷ value ∷ []; rest = G; is = refl; over = o; takes = plainly refl; above = (value, r, refl); uniform = tt; lands = tt; holds = (tt, (tt, tt)) };
    behind = refl;
    sent = λ k. refl;
  }

module _ {V : Type 0} (around : Around V) (links : Links) (next : ℕ → ℕ) (cells : TakesCells around)
    (captures : (b : ℕ) → links.captures b ≡ length (around.captured b)) where
  -- from slots that lie over these, that is behind it, whatever lies around
  abbrev pub From : Piece → (F G : StackMap) → Option StackMap → Type 0
  From q F G t =
      (c : Setting) (Ls : List (Option StackMap)) (base : StackMap) (from : ℕ) → Over base F → Goes links next q c Ls base from G t to_none

  abbrev pub Gives : Piece → StackMap → Option StackMap → Type 0
  Gives q F t = From q F F t

  pushed : (xs : List Variable) → AllCells xs → (op : Operation) (l n : ℕ) (g : Bool) (k : ℕ) (F ts : StackMap) (t : Option StackMap)
      → From (P.act (operation op k) n l g) F (replicate (length xs) cell ++ (ts ++ F)) t
      → {c : Setting} {Ls : List (Option StackMap)} {base : StackMap} {from : ℕ} → Over base F
      → Goes links next (made_piece around xs op l n g k) c Ls base from (ts ++ F) t to_none
  pushed [] h op l n g k F ts t f o = f _ _ _ _ o
  pushed (y ∷ ys) h op l n g k F ts t f o =
      next_to (move_of (pushes y.scope y.name h.0 (ts ++ F) (over_all ts o))) (pushed ys h.1 op l n g k F (cell ∷ ts) t last o)
    where
      last : From (P.act (operation op k) n l g) F (replicate (length ys) cell ++ (cell ∷ (ts ++ F))) t
      last c Ls base from p =
          subst (λ z. Goes links next (P.act (operation op k) n l g) c Ls base from z t to_none) (sym (one_below (length ys) cell (ts ++ F))) (f c Ls base from p)

  a_function : (b : ℕ) (ys : List Name) (l n : ℕ) (g : Bool) (k : ℕ) (F : StackMap)
      → {c : Setting} {Ls : List (Option StackMap)} {base : StackMap} {from : ℕ} → Over base F
      → Goes links next (op_piece around (T.function b ys) l n g k) c Ls base from (many k F) (Some (value ∷ F)) to_none
  a_function b ys l n g k F o =
      pushed (around.captured b) (cells b) (T.function b ys) l n g k F (replicate k value) (Some (value ∷ F))
      (λ c Ls base from p. act_of (makes_function b k ys (length (around.captured b)) (captures b) F p)) o

  pub a_class : (b l n : ℕ) (g : Bool) (F : StackMap)
      → {c : Setting} {Ls : List (Option StackMap)} {base : StackMap} {from : ℕ} → Over base F
      → Goes links next (made_piece around (around.captured b) (T.class b) l n g 1) c Ls base from (value ∷ F) (Some (value ∷ F)) to_none
  a_class b l n g F o =
      pushed (around.captured b) (cells b) (T.class b) l n g 1 F (value ∷ []) (Some (value ∷ F))
      (λ c Ls base from p. act_of (makes_class b (length (around.captured b)) (captures b) F p)) o

  a_generator : (b l n : ℕ) (g : Bool) (i : ℕ) (F : StackMap)
      → {c : Setting} {Ls : List (Option StackMap)} {base : StackMap} {from : ℕ} → Over base F
      → Goes links next (made_piece around (around.captured b) (T.generator b) l n g 1) c Ls base from (iterator i ∷ F) (Some (value ∷ F)) to_none
  a_generator b l n g i F o =
      pushed (around.captured b) (cells b) (T.generator b) l n g 1 F (iterator i ∷ []) (Some (value ∷ F))
      (λ c Ls base from p. act_of (makes_generator b (length (around.captured b)) (captures b) (Some i) F p)) o

  renewed : (xs : List Variable) → AllOwn xs → (F : StackMap)
      → {c : Setting} {Ls : List (Option StackMap)} {base : StackMap} {from : ℕ} → Over base F
      → Goes links next (renewed_piece around xs) c Ls base from F (Some F) to_none
  renewed [] h F o = nothing_there
  renewed (y ∷ ys) h F o = next_to (move_of (renews y.scope y.name h.0 F o)) (renewed ys h.1 F o)

  pub null : (F : StackMap)
      → {c : Setting} {Ls : List (Option StackMap)} {base : StackMap} {from : ℕ} → Over base F
      → Goes links next null_piece c Ls base from F (Some (value ∷ F)) to_none
  unfolding effect_of
  null F o = move_of (gives_one refl tt F o)

  built : (m : Made) (l n : ℕ) (F : StackMap)
      → {c : Setting} {Ls : List (Option StackMap)} {base : StackMap} {from : ℕ} → Over base F
      → Goes links next (made_piece around [] (built_as m) l n false 0) c Ls base from F (Some (value ∷ F)) to_none
  built (S.a_list e) l n F o = act_of (makes_list 0 F o)
  built (S.a_set e) l n F o = act_of (makes_set 0 F o)
  built (S.a_dict k e) l n F o = act_of (makes_dict 0 F o)

  -- an operation on k values, whatever act it is of
  abbrev OfMany : Operation → Type 0
  OfMany op = (l n : ℕ) (g : Bool) (k : ℕ) (F : StackMap) → From (op_piece around op l n g k) F (many k F) (Some (value ∷ F))

  of_tuple : OfMany T.tuple
  of_tuple l n g k F c Ls base from o = act_of (makes_tuple k F o)

  of_list : OfMany T.list
  of_list l n g k F c Ls base from o = act_of (makes_list k F o)

  of_set : OfMany T.set
  of_set l n g k F c Ls base from o = act_of (makes_set k F o)

  -- what is asked of the names behind a part of a slice, and behind formals: of one more of them, or of nothing
  abbrev Behind_part : List ℕ → Option Opt → ℕ → Type 0
  Behind_part v None m = Unit {0}
  Behind_part v (Some r) m = Part_named around r m v (λ m. Unit {0})

  abbrev Behind_formals : List ℕ → Option Formals → ℕ → Type 0
  Behind_formals v None m = Unit {0}
  Behind_formals v (Some r) m = Formals_named around r m v (λ m. Unit {0})

  sliced : (l : ℕ) (F : StackMap) (m : ℕ) → Unit {0} → From (op_piece around T.slice l m false 3) F (value ∷ value ∷ value ∷ F) (Some (value ∷ F))
  unfolding effect_of
  sliced l F m h c Ls base from o = act_of (one_of_three refl tt F o)

  -- what goes to the label of a piece that isn't closed doesn't matter here
  pub record Ends (q : Piece) (c : Setting) (Ls : List (Option StackMap)) (base : StackMap) (from : ℕ) (F : StackMap) (t : Option StackMap) : Type 0 where
    pub sent : ℕ → Option StackMap
    pub goes : Goes links next q c Ls base from F t sent

  pub ends : {q : Piece} {c : Setting} {Ls : List (Option StackMap)} {base : StackMap} {from : ℕ} {F : StackMap} {t : Option StackMap} {τ : ℕ → Option StackMap}
      → Goes links next q c Ls base from F t τ → Ends q c Ls base from F t
  ends {τ = τ} g = record { sent = τ; goes = g }

  mutual
    unfolding effect_of

    pub exp : (e : Exp) (n : ℕ) (g : Bool) (v : List ℕ) → Exp_named around e n v → (F : StackMap)
        → {c : Setting} {Ls : List (Option StackMap)} {base : StackMap} {from : ℕ} → Over base F
        → Goes links next (P.closed (exp_piece around e n g v)) c Ls base from F (Some (value ∷ F)) to_none
    exp (S.constant l k) n g v h F o = in_closed (act_of (gives_one refl tt F o))
    exp (S.name l y) n g v h F o = let z = around.variable v y in in_closed (act_of (loads z.scope z.name F o))
    exp (S.joined l S.no_pieces) n g v h F o = in_closed (act_of (joins_texts 0 F o))
    exp (S.joined l (S.literal k t r)) n g v h F o = in_closed (next_to (act_of (gives_one refl tt F o)) (pieces r l (n + 1) 1 v h F o))
    exp (S.joined l (S.field k e c sp r)) n g v h F o =
        in_closed (next_to (exp e n g v h.0 F o) (next_to (spec sp k (n + size e) c v h.1 F o) (pieces r l (n + size e + pieces_size sp + joins sp + 1) 1 v h.2 F o)))
    exp (S.tuple l S.no_exps) n g v h F o = in_closed (of_tuple l n g 0 F _ _ _ _ o)
    exp (S.tuple l (S.more_exps e es)) n g v h F o = in_closed (next_to (exp e n g v h.0 F o) (exps es T.tuple of_tuple l (n + size e) 1 v h.1 F o))
    exp (S.list l S.no_exps) n g v h F o = in_closed (of_list l n g 0 F _ _ _ _ o)
    exp (S.list l (S.more_exps e es)) n g v h F o = in_closed (next_to (exp e n g v h.0 F o) (exps es T.list of_list l (n + size e) 1 v h.1 F o))
    exp (S.set l S.no_exps) n g v h F o = in_closed (of_set l n g 0 F _ _ _ _ o)
    exp (S.set l (S.more_exps e es)) n g v h F o = in_closed (next_to (exp e n g v h.0 F o) (exps es T.set of_set l (n + size e) 1 v h.1 F o))
    exp (S.dict l S.no_entries) n g v h F o = in_closed (act_of (makes_dict 0 F o))
    exp (S.dict l (S.entry p q r)) n g v h F o =
        in_closed (next_to (exp p n g v h.0 F o) (next_to (exp q (n + size p) false v h.1 (value ∷ F) (over_more value o)) (entries r l (n + size p + size q) 1 v h.2 F o)))
    exp (S.attribute l p y) n g v h F o = in_closed (next_to (exp p n g v h F o) (act_of (one_of_one refl (λ t. refl) F o)))
    exp (S.item l p q) n g v h F o =
        in_closed (next_to (exp p n g v h.0 F o) (next_to (exp q (n + size p) false v h.1 (value ∷ F) (over_more value o)) (act_of (one_of_two refl tt F o))))
    exp (S.slice l S.absent S.absent S.absent) n g v h F o =
        in_closed (next_to (null F o) (next_to (null (value ∷ F) (over_more value o)) (next_to (null (value ∷ value ∷ F) (over_more value (over_more value o)))
        (act_of (one_of_three refl tt F o)))))
    exp (S.slice l S.absent S.absent (S.given r)) n g v h F o =
        in_closed (next_to (null F o) (next_to (null (value ∷ F) (over_more value o)) (next_to (exp r n g v h.0 (value ∷ value ∷ F) (over_more value (over_more value o)))
        (act_of (one_of_three refl tt F o)))))
    exp (S.slice l S.absent (S.given q) r) n g v h F o =
        in_closed (next_to (null F o) (next_to (exp q n g v h.0 (value ∷ F) (over_more value o))
        (part r (n + size q) v (λ m. op_piece around T.slice l m false 3) None (value ∷ value ∷ []) F (sliced l F) h.1 o)))
    exp (S.slice l (S.given p) q r) n g v h F o =
        in_closed (next_to (exp p n g v h.0 F o)
        (part q (n + size p) v (λ m. part_piece around r m v (λ m. op_piece around T.slice l m false 3)) (Some r) (value ∷ []) F
        (λ m k c Ls base from u. part r m v (λ m. op_piece around T.slice l m false 3) None (value ∷ value ∷ []) F (sliced l F) k u) h.1 o))
    exp (S.unary l y p) n g v h F o = in_closed (next_to (exp p n g v h F o) (act_of (one_of_one refl tt F o)))
    exp (S.not_of l p) n g v h F o = in_closed (next_to (exp p n g v h F o) (act_of (one_of_one refl tt F o)))
    exp (S.binary l y p q) n g v h F o =
        in_closed (next_to (exp p n g v h.0 F o) (next_to (exp q (n + size p) false v h.1 (value ∷ F) (over_more value o)) (act_of (one_of_two refl tt F o))))
    exp (S.compare l p y q r) n g v h F o =
        in_closed (next_to (exp p n g v h.0 F o) (next_to (exp q (n + size p) false v h.1 (value ∷ F) (over_more value o)) (chain r y l (n + size p + size q) v h.2 F o)))
    exp (S.and l p es) n g v h F o =
        let r = ands es l (n + size p) v h.1 F o in in_closed (in_block (both (exp p n g v h.0 F o) r.goes) refl)
    exp (S.or l p es) n g v h F o =
        let r = ors es l (n + size p) v h.1 F o in in_closed (in_block (both (exp p n g v h.0 F o) r.goes) refl)
    exp (S.conditional l c p q) n g v h F o =
        in_closed (in_block (both (in_block {r = Some F} (both (exp c n g v h.0 F o) (both (act_of (tests_false 0 F o refl))
        (both (exp p (n + size c + 1) false v h.1 F o) (move_of (jumps 1 (value ∷ F) (over_more value o) refl))))) refl)
        (exp q (n + size c + 1 + size p) false v h.2 F o)) refl)
    exp (S.call l f ys) n g v h F o =
        let rs = roles around.spelled ys in
        in_closed (next_to (exp f n g v h.0 F o) (args ys (T.call rs) (length rs) (λ l n g k F c Ls base from o. act_of (calls rs h.1 F o)) l (n + size f) 1 v (let z : suc (length rs) ≡ 1 + length rs = omega arith in z) h.2 F o))
    exp (S.lambda l b (S.parameters ps s ks d) e) n g v h F o =
        let ys = map around.spelled (defaulted ps ++ defaulted ks) in
        let last : (m k : ℕ) → Piece = λ m k. op_piece around (T.function b ys) l m false k in
        in_closed (first ps n g v (first_piece around ks n g v (op_piece around (T.function b ys) l n g 0) last) (λ m k. formals_piece around ks m k v last)
        (Some ks) F
        (λ k c Ls base from u. first ks n g v (op_piece around (T.function b ys) l n g 0) last None F (λ w c Ls base from z. a_function b ys l n g 0 F z)
        (λ m j w c Ls base from z. a_function b ys l m false j F z) k u)
        (λ m j k c Ls base from u. formals ks m j v last None F (λ m j w c Ls base from z. a_function b ys l m false j F z) k u) h o)
    exp (S.comprehension l m k t it cs) n g v h F o =
        let w : List ℕ = (n + size it + 1 + 1) ∷ v in
        in_closed (in_block {r = Some (value ∷ F)} (both (exp it n g v h.0 F o) (both (act_of (iterates F o)) (both (built m l (n + size it + 1) _ (over_more _ o))
        (both (move_of (swaps_iterator _ F o)) (both (renewed _ h.1 _ (over_more _ (over_more value o)))
        (in_head (both (act_of (takes_next 1 _ (value ∷ F) (over_more value o) refl)) (both (in_closed (bound t (n + size it + 1 + 1 + 1) w h.2 _ (over_more _ (over_more value o))))
        (clauses cs l (n + size it + 1 + 1 + 1 + target_size t) 1 w (λ j q. item_piece around m l j q w) m true
        (λ j q h c Ls base from G. item m l w j q h G) h.3 _ (over_more _ (over_more value o)) refl).goes)))))))) refl)
    exp (S.generator l b e k t it cs) n g v h F o =
        in_closed (next_to (exp it n g v h F o) (next_to (act_of (iterates F o)) (a_generator b l (n + size it + 1) false _ F o)))
    exp (S.yield l S.absent) n g v h F o = in_closed (next_to (null F o) (act_of (one_of_one refl tt F o)))
    exp (S.yield l (S.given e)) n g v h F o = in_closed (next_to (exp e n g v h F o) (act_of (one_of_one refl tt F o)))
    exp (S.yield_from l e) n g v h F o =
        in_closed (next_to (exp e n g v h F o) (next_to (act_of (iterates F o)) (next_to (null _ (over_more _ o)) (act_of (delegates _ F o)))))

    part : (e : Opt) (n : ℕ) (v : List ℕ) (after : ℕ → Piece) (N : Option Opt) (ts F : StackMap)
        → ((m : ℕ) → Behind_part v N m → From (after m) F (value ∷ (ts ++ F)) (Some (value ∷ F))) → Part_named around e n v (λ m. Behind_part v N m)
        → {c : Setting} {Ls : List (Option StackMap)} {base : StackMap} {from : ℕ} → Over base F
        → Goes links next (part_piece around e n v after) c Ls base from (ts ++ F) (Some (value ∷ F)) to_none
    part S.absent n v after N ts F f h o = next_to (null (ts ++ F) (over_all ts o)) (f n h _ _ _ _ o)
    part (S.given e) n v after N ts F f h o = next_to (exp e n false v h.0 (ts ++ F) (over_all ts o)) (f (n + size e) h.1 _ _ _ _ o)

    exps : (es : Exps) (op : Operation) → OfMany op → (l n k : ℕ) (v : List ℕ) → Exps_named around es n v → (F : StackMap)
        → {c : Setting} {Ls : List (Option StackMap)} {base : StackMap} {from : ℕ} → Over base F
        → Goes links next (exps_piece around es op l n k v) c Ls base from (many k F) (Some (value ∷ F)) to_none
    exps S.no_exps op s l n k v h F o = s l n false k F _ _ _ _ o
    exps (S.more_exps e es) op s l n k v (a, b) F o =
        next_to (exp e n false v a (many k F) (over_all (replicate k value) o)) (exps es op s l (n + size e) (suc k) v b F o)

    entries : (r : Entries) (l n k : ℕ) (v : List ℕ) → Entries_named around r n v → (F : StackMap)
        → {c : Setting} {Ls : List (Option StackMap)} {base : StackMap} {from : ℕ} → Over base F
        → Goes links next (entries_piece around r l n k v) c Ls base from (many (k + k) F) (Some (value ∷ F)) to_none
    entries S.no_entries l n k v h F o = act_of (makes_dict k F o)
    entries (S.entry p q r) l n k v (a, b, d) F {c} {Ls} {base} {from} o =
        next_to (exp p n false v a (many (k + k) F) (over_all (replicate (k + k) value) o)) (next_to (exp q (n + size p) false v b (value ∷ many (k + k) F)
        (over_more value (over_all (replicate (k + k) value) o)))
        (subst (λ m. Goes links next (entries_piece around r l (n + size p + size q) (suc k) v) c Ls base
        (end_of next (P.closed (exp_piece around q (n + size p) false v)) (end_of next (P.closed (exp_piece around p n false v)) from)) (many m F) (Some (value ∷ F)) to_none)
        (let z : suc k + suc k ≡ suc (suc (k + k)) = omega arith in z) (entries r l (n + size p + size q) (suc k) v d F o)))

    args : (r : Args) (op : Operation) (m : ℕ)
        → ((l n : ℕ) (g : Bool) (k : ℕ) (F : StackMap) → From (op_piece around op l n g k) F (many (suc m) F) (Some (value ∷ F))) → (l n k : ℕ) (v : List ℕ)
        → suc m ≡ k + length (roles around.spelled r) → Args_named around r n v → (F : StackMap)
        → {c : Setting} {Ls : List (Option StackMap)} {base : StackMap} {from : ℕ} → Over base F
        → Goes links next (args_piece around r op l n k v) c Ls base from (many k F) (Some (value ∷ F)) to_none
    args S.no_args op m s l n k v e h F {c} {Ls} {base} {from} o =
        subst (λ j. Goes links next (op_piece around op l n false k) c Ls base from (many j F) (Some (value ∷ F)) to_none) (let z : suc m ≡ k = omega (arith, e) in z)
        (s l n false k F c Ls base from o)
    args (S.positional y r) op m s l n k v e (a, b) F o =
        next_to (exp y n false v a (many k F) (over_all (replicate k value) o)) (args r op m s l (n + size y) (suc k) v (omega (arith, e)) b F o)
    args (S.named x y r) op m s l n k v e (a, b) F o =
        next_to (exp y n false v a (many k F) (over_all (replicate k value) o)) (args r op m s l (n + size y) (suc k) v (omega (arith, e)) b F o)
    args (S.spread y r) op m s l n k v e (a, b) F o =
        next_to (exp y n false v a (many k F) (over_all (replicate k value) o)) (next_to (act_of (one_of_one refl tt (many k F) (over_all (replicate k value) o)))
        (args r op m s l (n + size y + 1) (suc k) v (omega (arith, e)) b F o))
    args (S.spread_named y r) op m s l n k v e (a, b) F o =
        next_to (exp y n false v a (many k F) (over_all (replicate k value) o)) (next_to (act_of (one_of_one refl tt (many k F) (over_all (replicate k value) o)))
        (args r op m s l (n + size y + 1) (suc k) v (omega (arith, e)) b F o))

    pieces : (r : Pieces) (l n k : ℕ) (v : List ℕ) → Pieces_named around r n v → (F : StackMap)
        → {c : Setting} {Ls : List (Option StackMap)} {base : StackMap} {from : ℕ} → Over base F
        → Goes links next (pieces_piece around r l n k v) c Ls base from (many k F) (Some (value ∷ F)) to_none
    pieces S.no_pieces l n k v h F o = act_of (joins_texts k F o)
    pieces (S.literal a t r) l n k v h F o =
        next_to (act_of (gives_one refl tt (many k F) (over_all (replicate k value) o))) (pieces r l (n + 1) (suc k) v h F o)
    pieces (S.field j e c sp r) l n k v (a, b, d) F o =
        next_to (exp e n false v a (many k F) (over_all (replicate k value) o)) (next_to (spec sp j (n + size e) c v b (many k F) (over_all (replicate k value) o))
        (pieces r l (n + size e + pieces_size sp + joins sp + 1) (suc k) v d F o))

    spec : (r : Pieces) (l n : ℕ) (c : Option Conversion) (v : List ℕ) → Pieces_named around r n v → (F : StackMap)
        → {c' : Setting} {Ls : List (Option StackMap)} {base : StackMap} {from : ℕ} → Over base F
        → Goes links next (spec_piece around r l n c v) c' Ls base from (value ∷ F) (Some (value ∷ F)) to_none
    spec S.no_pieces l n c v h F o = next_to (null (value ∷ F) (over_more value o)) (act_of (one_of_two refl tt F o))
    spec (S.literal a t S.no_pieces) l n c v h F o = next_to (act_of (gives_one refl tt (value ∷ F) (over_more value o))) (act_of (one_of_two refl tt F o))
    spec (S.field k e d sp S.no_pieces) l n c v (a, b, h) F o =
        next_to (exp e n false v a (value ∷ F) (over_more value o)) (next_to (spec sp k (n + size e) d v b (value ∷ F) (over_more value o)) (act_of (one_of_two refl tt F o)))
    spec (S.literal a t (S.literal b u r)) l n c v h F o =
        next_to (act_of (gives_one refl tt (value ∷ F) (over_more value o))) (next_to (pieces (S.literal b u r) l (n + 1) 1 v h (value ∷ F) (over_more value o))
        (act_of (one_of_two refl tt F o)))
    spec (S.literal a t (S.field b e d sp r)) l n c v h F o =
        next_to (act_of (gives_one refl tt (value ∷ F) (over_more value o))) (next_to (pieces (S.field b e d sp r) l (n + 1) 1 v h (value ∷ F) (over_more value o))
        (act_of (one_of_two refl tt F o)))
    spec (S.field k e d sp (S.literal b u r)) l n c v (a, p, h) F o =
        next_to (exp e n false v a (value ∷ F) (over_more value o)) (next_to (spec sp k (n + size e) d v p (value ∷ F) (over_more value o))
        (next_to (pieces (S.literal b u r) l (n + size e + pieces_size sp + joins sp + 1) 1 v h (value ∷ F) (over_more value o)) (act_of (one_of_two refl tt F o))))
    spec (S.field k e d sp (S.field b f d' sp' r)) l n c v (a, p, h) F o =
        next_to (exp e n false v a (value ∷ F) (over_more value o)) (next_to (spec sp k (n + size e) d v p (value ∷ F) (over_more value o))
        (next_to (pieces (S.field b f d' sp' r) l (n + size e + pieces_size sp + joins sp + 1) 1 v h (value ∷ F) (over_more value o)) (act_of (one_of_two refl tt F o))))

    chain : (r : ChainLinks) (y : CompareOp) (l n : ℕ) (v : List ℕ) → Links_named around r n v → (F : StackMap)
        → {c : Setting} {Ls : List (Option StackMap)} {base : StackMap} {from : ℕ} → Over base F
        → Goes links next (P.closed (links_piece around r y l n v)) c Ls base from (value ∷ value ∷ F) (Some (value ∷ F)) to_none
    chain S.no_links y l n v h F o = in_closed (act_of (one_of_two refl tt F o))
    chain (S.link p b r) y l n v (a, d) F o =
        in_closed (in_block (both (in_block {r = Some (value ∷ value ∷ F)} (both (move_of (copies (value ∷ F) (over_more value o))) (both (move_of (rotates F o))
        (both (act_of (one_of_two refl tt (value ∷ F) (over_more value o))) (both (act_of (keeps_false 0 (value ∷ F) (over_more value o) refl))
        (both (exp b (n + 1 + 1) false v a (value ∷ F) (over_more value o)) (both (chain r p l (n + 1 + 1 + size b) v d F o)
        (move_of (jumps 1 (value ∷ F) (over_more value o) refl)))))))) refl)
        (both (move_of (swaps F o)) (move_of (takes_one refl tt (value ∷ F) (over_more value o))))) refl)

    ands : (es : Exps) (l n : ℕ) (v : List ℕ) → Operands_named around es n v → (F : StackMap)
        → {c : Setting} {Ls : List (Option StackMap)} {base : StackMap} {from : ℕ} → Over base F
        → Ends (ands_piece around es l n v) c (Some (value ∷ F) ∷ Ls) base from (value ∷ F) (Some (value ∷ F))
    ands S.no_exps l n v h F o = ends nothing_there
    ands (S.more_exps e es) l n v (a, b) F o =
        let r = ands es l (n + 1 + size e) v b F o in
        ends (both (act_of (keeps_false 0 F o refl)) (both (exp e (n + 1) false v a F o) r.goes))

    ors : (es : Exps) (l n : ℕ) (v : List ℕ) → Operands_named around es n v → (F : StackMap)
        → {c : Setting} {Ls : List (Option StackMap)} {base : StackMap} {from : ℕ} → Over base F
        → Ends (ors_piece around es l n v) c (Some (value ∷ F) ∷ Ls) base from (value ∷ F) (Some (value ∷ F))
    ors S.no_exps l n v h F o = ends nothing_there
    ors (S.more_exps e es) l n v (a, b) F o =
        let r = ors es l (n + 1 + size e) v b F o in
        ends (both (act_of (keeps_true 0 F o refl)) (both (exp e (n + 1) false v a F o) r.goes))

    formals : (r : Formals) (n k : ℕ) (v : List ℕ) (after : (m k : ℕ) → Piece) (N : Option Formals) (F : StackMap)
        → ((m k : ℕ) → Behind_formals v N m → From (after m k) F (many k F) (Some (value ∷ F))) → Formals_named around r n v (λ m. Behind_formals v N m)
        → {c : Setting} {Ls : List (Option StackMap)} {base : StackMap} {from : ℕ} → Over base F
        → Goes links next (formals_piece around r n k v after) c Ls base from (many k F) (Some (value ∷ F)) to_none
    formals S.no_formals n k v after N F f h o = f n k h _ _ _ _ o
    formals (S.formal a y t S.absent r) n k v after N F f h o = formals r n k v after N F f h o
    formals (S.formal a y t (S.given d) r) n k v after N F f h o =
        next_to (exp d n false v h.0 (many k F) (over_all (replicate k value) o)) (formals r (n + size d) (suc k) v after N F f h.1 o)

    -- where none has a default, what stands for them begins
    first : (r : Formals) (n : ℕ) (g : Bool) (v : List ℕ) (none : Piece) (after : (m k : ℕ) → Piece) (N : Option Formals) (F : StackMap)
        → (Behind_formals v N n → From none F F (Some (value ∷ F))) → ((m k : ℕ) → Behind_formals v N m → From (after m k) F (many k F) (Some (value ∷ F))) → Formals_named around r n v (λ m. Behind_formals v N m)
        → {c : Setting} {Ls : List (Option StackMap)} {base : StackMap} {from : ℕ} → Over base F
        → Goes links next (first_piece around r n g v none after) c Ls base from F (Some (value ∷ F)) to_none
    first S.no_formals n g v none after N F e f h o = e h _ _ _ _ o
    first (S.formal a y t S.absent r) n g v none after N F e f h o = first r n g v none after N F e f h o
    first (S.formal a y t (S.given d) r) n g v none after N F e f h o = next_to (exp d n g v h.0 F o) (formals r (n + size d) 1 v after N F f h.1 o)

    -- label 0 is where the next item is taken, with these slots
    pub clauses : (cs : Clauses) (l n d : ℕ) (v : List ℕ) (add : (n d : ℕ) → Piece) (m : Made) (r : Bool)
        → ((n d : ℕ) → Made_named around m n v → (c : Setting) (Ls : List (Option StackMap)) (base : StackMap) (from : ℕ) → (G : StackMap) → Over base G → ResultIf r d G
        → Ends (add n d) c (Some G ∷ Ls) base from G None)
        → Clauses_named around cs n v (λ j. Made_named around m j v) → {c : Setting} {Ls : List (Option StackMap)} {base : StackMap} {from : ℕ} → (G : StackMap) → Over base G → ResultIf r d G
        → Ends (clauses_piece around cs l n d v add) c (Some G ∷ Ls) base from G None
    clauses S.no_clauses l n d v add m r f h G o y = f n d h _ _ _ _ G o y
    clauses (S.only_if c cs) l n d v add m r f (a, b) G o y =
        let w = clauses cs l (n + size c + 1) d v add m r f b G o y in
        ends (both (exp c n false v a G o) (both (act_of (tests_false 0 G o refl)) w.goes))
    clauses (S.for_each k t it cs) l n d v add m r f (a, b, e) G o y =
        let w = clauses cs l (n + size it + 1 + 1 + target_size t) (suc d) v add m r f e _ (over_more _ o) (result_below r d _ G y) in
        ends (both (exp it n false v a G o) (both (act_of (iterates G o)) (in_head (both (act_of (takes_next 1 _ G o refl))
        (both (in_closed (bound t (n + size it + 1 + 1) v b _ (over_more _ o))) w.goes)))))

    item : (m : Made) (l : ℕ) (v : List ℕ) (n d : ℕ) → Made_named around m n v
        → {c : Setting} {Ls : List (Option StackMap)} {base : StackMap} {from : ℕ} → (G : StackMap) → Over base G → ResultAt d G
        → Ends (item_piece around m l n d v) c (Some G ∷ Ls) base from G None
    item (S.a_list e) l v n d h G o y = ends (both (exp e n false v h G o) (both (act_of (adds_item d G o y)) (move_of (jumps 0 G o refl))))
    item (S.a_set e) l v n d h G o y = ends (both (exp e n false v h G o) (both (act_of (adds_element d G o y)) (move_of (jumps 0 G o refl))))
    item (S.a_dict k e) l v n d (a, b) G o y =
        ends (both (exp k n false v a G o) (both (exp e (n + size k) false v b (value ∷ G) (over_more value o)) (both (act_of (adds_entry d G o y)) (move_of (jumps 0 G o refl)))))

    bound : (t : Tgt) (n : ℕ) (v : List ℕ) → Target_named around t n v → (F : StackMap)
        → {c : Setting} {Ls : List (Option StackMap)} {base : StackMap} {from : ℕ} → Over base F
        → Goes links next (target_piece around t n v) c Ls base from (value ∷ F) (Some F) to_none
    bound (S.single p) n v h F o = place p n v h F o
    bound (S.several l f ts) n v h F o = next_to (act_of (unpacks (statements.count ts) (star_of ts) (star_less ts) F o)) (targets ts (n + 1) v h F o)
    bound (S.starred l t) n v h F o = bound t n v h F o

    pub targets : (ts : Tgts) (n : ℕ) (v : List ℕ) → Targets_named around ts n v → (F : StackMap)
        → {c : Setting} {Ls : List (Option StackMap)} {base : StackMap} {from : ℕ} → Over base F
        → Goes links next (targets_piece around ts n v) c Ls base from (many (statements.count ts) F) (Some F) to_none
    targets S.no_targets n v h F o = nothing_there
    targets (S.more_targets t ts) n v (a, b) F o =
        next_to (in_closed (bound t n v a (many (statements.count ts) F) (over_all (replicate (statements.count ts) value) o))) (targets ts (n + target_size t) v b F o)

    place : (p : Place) (n : ℕ) (v : List ℕ) → Place_named around p n v → (F : StackMap)
        → {c : Setting} {Ls : List (Option StackMap)} {base : StackMap} {from : ℕ} → Over base F
        → Goes links next (place_piece around p n v) c Ls base from (value ∷ F) (Some F) to_none
    place (S.name_at l y) n v h F o = let z = around.variable v y in act_of (stores z.scope z.name F o)
    place (S.attribute_at l a y) n v h F o = next_to (exp a n false v h (value ∷ F) (over_more value o)) (act_of (takes_two refl (λ t. refl) F o))
    place (S.item_at l p q) n v (a, b) F o =
        next_to (exp p n false v a (value ∷ F) (over_more value o)) (next_to (exp q (n + size p) false v b (value ∷ value ∷ F) (over_more value (over_more value o)))
        (act_of (takes_three refl tt F o)))

  pub target : (t : Tgt) (n : ℕ) (v : List ℕ) → Target_named around t n v → (F : StackMap)
      → {c : Setting} {Ls : List (Option StackMap)} {base : StackMap} {from : ℕ} → Over base F
      → Goes links next (P.closed (target_piece around t n v)) c Ls base from (value ∷ F) (Some F) to_none
  target t n v h F o = in_closed (bound t n v h F o)
