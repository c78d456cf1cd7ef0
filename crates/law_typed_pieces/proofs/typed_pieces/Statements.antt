-- The pieces of statements are typed: from the slots of the parts around a statement either these are behind it, or nothing goes on.
use Rattle.std.proofs.Common.{◌≡◌, ℕ, ◌+◌, suc, Bool, true, false, ◌&&◌, ◌||◌, if◌then◌else◌, nat_eq, List, [], ◌∷◌, ◌++◌, length, replicate, Option, Some, None, refl, sym, ap, ◌∙◌, subst, arith}
use Rattle.std.proofs.lemmas.Bool.{false≢true, true≢false}
use Rattle.std.proofs.lemmas.Bool.Decides.{nat_tests}
use Rattle.pt_base.specs.declared.operators.BinOp.{BinOp}
use Rattle.pt_tree.specs.declared.expression.Constant.TheVariants as constant
use Rattle.pt_tree.specs.declared.statement.Alias.{Alias}
use Rattle.pt_tree.specs.Syntax as S
use Rattle.pt_tree.specs.Syntax.{Name, Exp, Opt, Clauses, Place, Tgt, Tgts, Decorators, Items, Stm, Stms, Branches, Handlers, none, more}
use Rattle.pt_tree.specs.Sizes.{size, place_size, target_size, params_size, items_size, stm_size, stms_size}
use Rattle.pt_instr.specs.declared.Instr.TheVariants as instr
use Rattle.pt_instr.specs.declared.kinds.Kind.TheVariants as kind
use Rattle.pt_instr.specs.Effects.{effect_of}
use Rattle.sem_control.specs.control.Turn as T
use Rattle.sem_control.specs.control.Turn.{Around}
use Rattle.sem_control.specs.control.Frames.{Definition, a_function, a_class}
use Rattle.sem_control.specs.control.Numbers.{tested_body, behind_body, for_body, for_else, try_handlers, try_else, try_finally, handler_body}
use Rattle.sem_control.specs.control.Statements.{all_places, bound_name}
use Rattle.pt_assembler.specs.declared.operation.Exit.TheVariants.{Break, Continue}
use Rattle.pt_assembler.specs.declared.operation.Jump.{Jump}
use Rattle.pt_assembler.specs.declared.operation.Jump.TheVariants.{AtEnd, Always as Jumps, IfTrue, IfFalse}
use Rattle.pt_assembler.specs.Piece as P
use Rattle.pt_assembler.specs.Piece.{Piece, pick}
use Rattle.sem_fits.specs.fits.Block.{Links}
use Rattle.law_operands.specs.law_files.sem_compile.emitter.ExpPiece.{null_piece, exp_piece, target_piece}
use Rattle.law_operands.specs.law_files.sem_compile.stm_pieces.Needed.{some_exits, some_branch_goes_on, is_silent, leaves, Behind, needed, free, is_needed, needed_if, in_front, behind_branches, behind_loop, behind_tried}
use Rattle.law_operands.specs.law_files.sem_compile.stm_pieces.StmPiece.{begun_piece, value_piece, store_piece, assigned_piece, changed_piece, augmented_piece, deleted_piece, all_deleted_piece, failed_piece, returned_piece, thrown_piece, imported_piece, imported_from_piece, bound_piece, definition_piece, defined_piece, guarded_piece, ensured_piece, handled_piece, taken_piece, items_piece, stm_piece, all_piece, branches_piece, handlers_piece, block_piece, lambda_piece, yielded_piece, generator_piece}
use Rattle.law_operands.specs.law_files.sem_compile.stm_pieces.Names.{TakesCells, Value_named, Opt_named, Changed_named, All_deleted_named, Definition_named, Parameters_named, Items_named, Place_named, Target_named, Targets_named, Clauses_named, Stm_named, All_named, Branches_named, Handlers_named}
use Rattle.sem_code.specs.slots.Slots.{or_else}
use Rattle.law_pieces.specs.piece_kinds.Walk.{Loop, Known, StackMap, made, held, to_none, to_one, is_empty, Setting, with_none, with_label, with_loop, end_of, flow, behind}
use Rattle.law_pieces.specs.piece_kinds.Typed.{Over, EndsAt, plainly, Typed}
use Rattle.law_pieces.proofs.piece_kinds.ListLemmas.{over_itself, over_more, over_all}
use Rattle.law_pieces.proofs.piece_kinds.PieceLaw.{one_none, nothing}
use Rattle.law_typed_pieces.proofs.typed_pieces.Combine.{goes_if, Goes, Does, act_of, move_of, nothing_there, retold, both, next_to, stops, in_closed, in_block, in_head, in_count, at_start as at_a_start, deeper_by_one, in_row, leaves_by, value, gives_plain, gives_one, takes_none, takes_one, takes_two, takes_three, one_of_one, one_of_two}
use Rattle.law_typed_pieces.proofs.typed_pieces.Operations.{many, stores, deletes, calls}
use Rattle.law_typed_pieces.proofs.typed_pieces.Expressions as expressions
use Rattle.law_typed_pieces.proofs.typed_pieces.Expressions.{iterator_of, iterator, copies, copies_two, swaps, rotates, iterates, jumps, tests_false, tests_true, takes_next, Gives, From, exp, clauses, target, a_class as makes_a_class, null}

abbrev pub exception : ℕ → Known
exception p = record { kind = kind.Exc; origin = Some p; loop = None }

abbrev pub exit : ℕ → Known
exit p = record { kind = kind.With; origin = Some p; loop = None }

abbrev pub pending : ℕ → Option Loop → Known
pending p x = record { kind = kind.Pending; origin = Some p; loop = x }

module _ {links : Links} {x : Option Loop} {Ls : List (Option StackMap)} {base : StackMap} {to : ℕ} where
  -- what leaves the place

  returns : (F : StackMap) → Over base F → Does links (P.plain instr.Return) x Ls base to (value ∷ F) None to_none
  unfolding effect_of
  returns F o = record {
    fires = record { taken = value ∷ []; rest = F; is = refl; over = o; takes = plainly refl; above = tt; uniform = tt; lands = tt; holds = (tt, tt) };
    behind = refl;
    sent = λ k. refl;
  }

  raises : (F : StackMap) → Over base F → Does links (P.plain instr.Raise) x Ls base to (value ∷ F) None to_none
  unfolding effect_of
  raises F o = record {
    fires = record { taken = value ∷ []; rest = F; is = refl; over = o; takes = plainly refl; above = tt; uniform = tt; lands = tt; holds = (tt, tt) };
    behind = refl;
    sent = λ k. refl;
  }

  raises_from : (F : StackMap) → Over base F → Does links (P.plain instr.RaiseFrom) x Ls base to (value ∷ value ∷ F) None to_none
  unfolding effect_of
  raises_from F o = record {
    fires = record { taken = value ∷ value ∷ []; rest = F; is = refl; over = o; takes = plainly refl; above = tt; uniform = tt; lands = tt; holds = (tt, (tt, tt)) };
    behind = refl;
    sent = λ k. refl;
  }

  raises_again : (F : StackMap) → Over base F → Does links (P.plain instr.RaiseAgain) x Ls base to F None to_none
  unfolding effect_of
  raises_again F o = record {
    fires = record { taken = []; rest = F; is = refl; over = o; takes = plainly refl; above = tt; uniform = tt; lands = tt; holds = tt };
    behind = refl;
    sent = λ k. refl;
  }

  fails : (F : StackMap) → Over base F → Does links (P.plain (instr.AssertFail false)) x Ls base to F None to_none
  unfolding effect_of
  fails F o = record {
    fires = record { taken = []; rest = F; is = refl; over = o; takes = plainly refl; above = tt; uniform = tt; lands = tt; holds = tt };
    behind = refl;
    sent = λ k. refl;
  }

  fails_with : (F : StackMap) → Over base F → Does links (P.plain (instr.AssertFail true)) x Ls base to (value ∷ F) None to_none
  unfolding effect_of
  fails_with F o = record {
    fires = record { taken = value ∷ []; rest = F; is = refl; over = o; takes = plainly refl; above = tt; uniform = tt; lands = tt; holds = (tt, tt) };
    behind = refl;
    sent = λ k. refl;
  }

  rethrows : (p : ℕ) (F : StackMap) → Over base F → Does links (P.plain instr.Rethrow) x Ls base to (exception p ∷ F) None to_none
  unfolding effect_of
  rethrows p F o = record {
    fires = record { taken = exception p ∷ []; rest = F; is = refl; over = o; takes = plainly refl; above = tt; uniform = tt; lands = tt; holds = (tt, tt) };
    behind = refl;
    sent = λ k. refl;
  }

  -- parts

  pub imports_name : (y : Name) (F : StackMap) → Over base F → Does links (P.with_text instr.ImportName y) x Ls base to (value ∷ F) (Some (value ∷ value ∷ F)) to_none
  unfolding effect_of
  imports_name y F o = record {
    fires = record { taken = value ∷ []; rest = F; is = refl; over = o; takes = plainly refl; above = tt; uniform = λ t. refl; lands = tt; holds = (tt, tt) };
    behind = refl;
    sent = λ k. refl;
  }

  pub matches : (p : ℕ) (F : StackMap) → Over base F → Does links (P.plain instr.Match) x Ls base to (value ∷ exception p ∷ F) (Some (value ∷ exception p ∷ F)) to_none
  unfolding effect_of
  matches p F o = record {
    fires = record { taken = value ∷ exception p ∷ []; rest = F; is = refl; over = o; takes = plainly refl; above = tt; uniform = tt; lands = tt; holds = (tt, (tt, tt)) };
    behind = refl;
    sent = λ k. refl;
  }

  pub catches : (p : ℕ) (F : StackMap) → Over base F → Does links (P.plain instr.Caught) x Ls base to (exception p ∷ F) (Some (value ∷ exception to ∷ F)) to_none
  unfolding effect_of
  catches p F o =
      gives_plain (kind.Exc ∷ []) (kind.Exc ∷ kind.Value ∷ []) false refl tt (exception p ∷ []) (value ∷ exception to ∷ []) refl (tt, tt) refl F o

  pub ends_handler : (p : ℕ) (F : StackMap) → Over base F → Does links (P.plain instr.EndHandler) x Ls base to (exception p ∷ F) (Some F) to_none
  unfolding effect_of
  ends_handler p F o = gives_plain (kind.Exc ∷ []) [] false refl tt (exception p ∷ []) [] refl (tt, tt) refl F o

  pub enters : (F : StackMap) → Over base F → Does links (P.plain instr.Enter) x Ls base to (value ∷ F) (Some (value ∷ exit to ∷ F)) to_none
  unfolding effect_of
  enters F o = gives_plain (kind.Value ∷ []) (kind.With ∷ kind.Value ∷ []) false refl tt (value ∷ []) (value ∷ exit to ∷ []) refl (tt, tt) refl F o

  pub exits_part : (p q : ℕ) (F : StackMap) → Over base F → Does links (P.plain instr.Exit) x Ls base to (pending p x ∷ exit q ∷ F) (Some (pending to x ∷ F)) to_none
  unfolding effect_of
  exits_part p q F o =
      gives_plain (kind.With ∷ kind.Pending ∷ []) (kind.Pending ∷ []) false refl tt (pending p x ∷ exit q ∷ []) (pending to x ∷ []) refl (refl, (tt, tt)) refl F o

  pub ends_finally : (p : ℕ) (F : StackMap) → Over base F → Does links (P.plain instr.EndFinally) x Ls base to (pending p x ∷ F) (Some F) to_none
  unfolding effect_of
  ends_finally p F o = record {
    fires = record { taken = pending p x ∷ []; rest = F; is = refl; over = o; takes = plainly refl; above = tt; uniform = tt; lands = tt; holds = (refl, tt) };
    behind = refl;
    sent = λ k. refl;
  }

pub in_loop : {links : Links} {next : ℕ → ℕ} {k : ℕ} {q : Piece} {c : Setting} {Ls : List (Option StackMap)} {base : StackMap} {from : ℕ} {ks : StackMap}
    {t : Option StackMap} {τ : ℕ → Option StackMap} → Goes links next q (with_loop k (end_of next q from) (length base) c) [] base from ks t τ → Goes links next (P.looped k q) c Ls base from ks t to_none
in_loop f = record { typed = f.typed; behind = f.behind; sent = λ k. refl }

pub ends_if : (t : Bool) (B : StackMap) → EndsAt B (goes_if t B)
ends_if true B = refl
ends_if false B = tt

only_first : (t : Bool) (B : StackMap) → or_else (goes_if t B) None ≡ goes_if t B
only_first true B = refl
only_first false B = refl

either_goes : (s t : Bool) (B : StackMap) → or_else (goes_if s B) (goes_if t B) ≡ goes_if (s || t) B
either_goes true t B = refl
either_goes false t B = refl

second_goes : (s t : Bool) (B : StackMap) → t ≡ true → goes_if (s || t) B ≡ Some B
second_goes true t B e = refl
second_goes false t B e = ap (λ u. goes_if u B) e

or_some : (t : Bool) (B : StackMap) → or_else (goes_if t B) (Some B) ≡ Some B
or_some true B = refl
or_some false B = refl

-- a jump to label 0 sends nothing to the labels above it
not_first : (n : ℕ) → nat_eq 0 (suc n) ≡ false
not_first n = grind (arith, nat_tests)

passed : (j : Jump) (o s : Option StackMap) (m : ℕ) → or_else (to_one (P.to j 0) o (suc m)) s ≡ s
passed j o s m = ap (λ t. or_else (if t then o else None) s) (not_first m)

module _ (links : Links) (next : ℕ → ℕ) where
  -- a statement, or several
  pub record Out (q : Piece) (c : Setting) (Ls : List (Option StackMap)) (base : StackMap) (from : ℕ) : Type 0 where
    pub goes_on : Bool
    pub sent : ℕ → Option StackMap
    pub goes : Goes links next q c Ls base from base (goes_if goes_on base) sent

  pub on : {q : Piece} {c : Setting} {Ls : List (Option StackMap)} {base : StackMap} {from : ℕ} {τ : ℕ → Option StackMap}
      → Goes links next q c Ls base from base (Some base) τ
      → Out q c Ls base from
  on {τ = τ} g = record { goes_on = true; sent = τ; goes = g }

  pub off : {q : Piece} {c : Setting} {Ls : List (Option StackMap)} {base : StackMap} {from : ℕ} {τ : ℕ → Option StackMap} → Goes links next q c Ls base from base None τ
      → Out q c Ls base from
  off {τ = τ} g = record { goes_on = false; sent = τ; goes = g }

  pub and_then : {a b : Piece} {c : Setting} {Ls : List (Option StackMap)} {base : StackMap} {from : ℕ} → Out a c Ls base from → Out b c Ls base (end_of next a from)
      → Out (P.seq a b) c Ls base from
  and_then {a} {b} {c} {Ls} {base} {from} u v = by u.goes_on u.sent u.goes
    where
      by : (t : Bool) (τ : ℕ → Option StackMap) → Goes links next a c Ls base from base (goes_if t base) τ → Out (P.seq a b) c Ls base from
      by true τ g = record { goes_on = v.goes_on; sent = λ k. or_else (τ k) (v.sent k); goes = both g v.goes }
      by false τ g = off (stops g)

  -- behind what goes on
  pub if_on : {a b : Piece} {c : Setting} {Ls : List (Option StackMap)} {base : StackMap} {from : ℕ} {σ : ℕ → Option StackMap} → Out a c Ls base from
      → Goes links next b c Ls base (end_of next a from) base None σ → Out (P.seq a b) c Ls base from
  if_on u g = and_then u (off g)

  pub closed_out : {q : Piece} {c : Setting} {Ls : List (Option StackMap)} {base : StackMap} {from : ℕ} → Out q (with_none c) [] base from
      → Out (P.closed q) c Ls base from
  closed_out u = record { goes_on = u.goes_on; sent = to_none; goes = in_closed u.goes }

  pub count_out : {n : ℕ} {q : Piece} {c : Setting} {Ls : List (Option StackMap)} {base : StackMap} {from : ℕ} → Out q c Ls base from
      → Out (P.numbered n q) c Ls base from
  count_out u = record { goes_on = u.goes_on; sent = u.sent; goes = in_count u.goes }

  -- a body and its handlers: what comes to the end of the whole
  pub in_guard : {q r : Piece} {c : Setting} {Ls : List (Option StackMap)} {base : StackMap} {from : ℕ} (t : Bool) {τ σ : ℕ → Option StackMap}
      → Goes links next q (with_none c) [] base from base (goes_if t base) τ → (t ≡ true → Goes links next r c Ls base (end_of next q from) base None σ)
      → Goes links next (P.caught q r) c Ls base from base
      (if is_empty q then None else Some (made (end_of next r (end_of next q from)) c.loop kind.Exc ∷ base)) (λ k. if t then σ k else None)
  in_guard {q} {r} {c} {Ls} {base} {from} true {τ} {σ} f g = record {
    typed = (
      over_itself base,
      f.typed,
      subst (λ s. Typed links next r c Ls base (end_of next q from) s) (sym f.behind) (g refl).typed,
      ap (λ s. behind links next r c base (end_of next q from) s) f.behind ∙ (g refl).behind,
    );
    behind = refl;
    sent = λ k. ap (λ s. let h = flow links next r c base (end_of next q from) s in h.sent k) f.behind ∙ (g refl).sent k;
  }
  in_guard {q} {r} {c} {Ls} {base} {from} false {τ} {σ} f g =
      let n = nothing links next r c base (end_of next q from) in record {
        typed = (
          over_itself base,
          f.typed,
          subst (λ s. Typed links next r c Ls base (end_of next q from) s) (sym f.behind) tt,
          ap (λ s. behind links next r c base (end_of next q from) s) f.behind ∙ n.behind,
        );
        behind = refl;
        sent = λ k. ap (λ s. let h = flow links next r c base (end_of next q from) s in h.sent k) f.behind ∙ n.sent k;
      }

-- no other statement stands in the code of this one
abbrev pub HoldsNone : Stm → Type 0
HoldsNone (S.choice l bs els) = ⊥
HoldsNone (S.while l e body els) = ⊥
HoldsNone (S.for l t it body els) = ⊥
HoldsNone (S.try l body hs els fin) = ⊥
HoldsNone (S.with l is body) = ⊥
HoldsNone st = Unit {0}

module _ {V : Type 0} (around : Around V) (links : Links) (next : ℕ → ℕ) (cells : TakesCells around)
    (captures : (b : ℕ) → links.captures b ≡ length (around.captured b)) where
  abbrev Gives' : Piece → StackMap → Option StackMap → Type 0
  Gives' q F t = Gives around links next cells captures q F t

  abbrev From' : Piece → (F G : StackMap) → Option StackMap → Type 0
  From' q F G t = From around links next cells captures q F G t

  pub val : (e : Exp) (n : ℕ) → Value_named around e n → (F : StackMap)
      → {c : Setting} {Ls : List (Option StackMap)} {base : StackMap} {from : ℕ} → Over base F
      → Goes links next (value_piece around e n) c Ls base from F (Some (value ∷ F)) to_none
  val e n h F o = exp around links next cells captures e n false [] h F o

  pub to_target : (t : Tgt) (n : ℕ) → Target_named around t n [] → (F : StackMap)
      → {c : Setting} {Ls : List (Option StackMap)} {base : StackMap} {from : ℕ} → Over base F
      → Goes links next (P.closed (target_piece around t n [])) c Ls base from (value ∷ F) (Some F) to_none
  to_target t n h F o = target around links next cells captures t n [] h F o

  pub stored : (y : Name) (n l : ℕ) (F : StackMap)
      → {c : Setting} {Ls : List (Option StackMap)} {base : StackMap} {from : ℕ} → Over base F
      → Goes links next (store_piece around y n l) c Ls base from (value ∷ F) (Some F) to_none
  stored y n l F o = let z = around.variable [] y in act_of (stores z.scope z.name F o)

  pub assigned : (ts : Tgts) (n : ℕ) → Targets_named around ts n [] → (F : StackMap)
      → {c : Setting} {Ls : List (Option StackMap)} {base : StackMap} {from : ℕ} → Over base F
      → Goes links next (assigned_piece around ts n) c Ls base from (value ∷ F) (Some F) to_none
  unfolding effect_of
  assigned S.no_targets n h F o = move_of (takes_one refl tt F o)
  assigned (S.more_targets t S.no_targets) n h F o = to_target t n h.0 F o
  assigned (S.more_targets t (S.more_targets u ts)) n h F o =
      next_to (move_of (copies F o)) (next_to (to_target t n h.0 (value ∷ F) (over_more value o)) (assigned (S.more_targets u ts) (n + target_size t) h.1 F o))

  -- ts are the parts of a place, and lie below
  changed : (y : BinOp) (e : Exp) (l n : ℕ) (back : ℕ → Piece) (F ts : StackMap) → Value_named around e n → ((m : ℕ) → From' (back m) F (value ∷ (ts ++ F)) (Some F))
      → {c : Setting} {Ls : List (Option StackMap)} {base : StackMap} {from : ℕ} → Over base F
      → Goes links next (changed_piece around y e l n back) c Ls base from (value ∷ (ts ++ F)) (Some F) to_none
  unfolding effect_of
  changed y e l n back F ts h f o =
      next_to (val e n h (value ∷ (ts ++ F)) (over_more value (over_all ts o))) (next_to (act_of (one_of_two refl tt (ts ++ F) (over_all ts o))) (f (n + size e + 1) _ _ _ _ o))

  pub augmented : (p : Place) (y : BinOp) (e : Exp) (l n : ℕ) → Changed_named around p e n → (F : StackMap)
      → {c : Setting} {Ls : List (Option StackMap)} {base : StackMap} {from : ℕ} → Over base F
      → Goes links next (augmented_piece around p y e l n) c Ls base from F (Some F) to_none
  unfolding effect_of
  augmented (S.name_at k x) y e l n h F o =
      next_to (val (S.name k x) n tt F o) (changed y e l (n + 1) (λ m. store_piece around x m k) F [] h (λ m c Ls base from p. stored x m k F p) o)
  augmented (S.attribute_at k a x) y e l n (h, i) F o =
      next_to (val a n h F o) (next_to (move_of (copies F o)) (next_to (act_of (one_of_one refl (λ t. refl) (value ∷ F) (over_more value o)))
      (changed y e l (n + size a + 1) (λ m. P.seq (P.move (P.plain instr.Swap)) (P.act (P.with_text instr.SetAttr (around.spelled x)) m k false)) F (value ∷ []) i
      (λ m c Ls base from p. next_to (move_of (swaps F p)) (act_of (takes_two refl (λ t. refl) F p))) o)))
  augmented (S.item_at k a q) y e l n (h, i, j) F o =
      next_to (val a n h F o) (next_to (val q (n + size a) i (value ∷ F) (over_more value o)) (next_to (move_of (copies_two F o))
      (next_to (act_of (one_of_two refl tt (value ∷ value ∷ F) (over_more value (over_more value o))))
      (changed y e l (n + size a + size q + 1) (λ m. P.seq (P.move (P.plain instr.Rot3)) (P.act (P.plain instr.SetItem) m k false)) F (value ∷ value ∷ []) j
      (λ m c Ls base from p. next_to (move_of (rotates F p)) (act_of (takes_three refl tt F p))) o))))

  deleted : (p : Place) (n : ℕ) → Place_named around p n [] → (F : StackMap)
      → {c : Setting} {Ls : List (Option StackMap)} {base : StackMap} {from : ℕ} → Over base F
      → Goes links next (deleted_piece around p n) c Ls base from F (Some F) to_none
  unfolding effect_of
  deleted (S.name_at l y) n h F o = let z = around.variable [] y in act_of (deletes z.scope z.name F o)
  deleted (S.attribute_at l a y) n h F o = next_to (val a n h F o) (act_of (takes_one refl (λ t. refl) F o))
  deleted (S.item_at l a q) n (h, i) F o =
      next_to (val a n h F o) (next_to (val q (n + size a) i (value ∷ F) (over_more value o)) (act_of (takes_two refl tt F o)))

  pub all_deleted : (ps : List Place) (n : ℕ) → All_deleted_named around ps n → (F : StackMap)
      → {c : Setting} {Ls : List (Option StackMap)} {base : StackMap} {from : ℕ} → Over base F
      → Goes links next (all_deleted_piece around ps n) c Ls base from F (Some F) to_none
  all_deleted [] n h F o = nothing_there
  all_deleted (p ∷ ps) n (h, i) F o = next_to (deleted p n h F o) (all_deleted ps (n + place_size p) i F o)

  pub failed : (m : Opt) (l n : ℕ) → Opt_named around m n → (F : StackMap)
      → {c : Setting} {Ls : List (Option StackMap)} {base : StackMap} {from : ℕ} → Over base F
      → Goes links next (failed_piece around m l n) c Ls base from F None to_none
  failed S.absent l n h F o = act_of (fails F o)
  failed (S.given m) l n h F o = next_to (val m n h F o) (act_of (fails_with F o))

  returned : (e : Opt) (l n : ℕ) → Opt_named around e n → (F : StackMap)
      → {c : Setting} {Ls : List (Option StackMap)} {base : StackMap} {from : ℕ} → Over base F
      → Goes links next (returned_piece around e l n) c Ls base from F None to_none
  returned S.absent l n h F o = next_to (null around links next cells captures F o) (act_of (returns F o))
  returned (S.given e) l n h F o = next_to (val e n h F o) (act_of (returns F o))

  thrown : (e : Opt) (l n : ℕ) → Opt_named around e n → (F : StackMap)
      → {c : Setting} {Ls : List (Option StackMap)} {base : StackMap} {from : ℕ} → Over base F
      → Goes links next (thrown_piece around e l n) c Ls base from (value ∷ F) None to_none
  thrown S.absent l n h F o = act_of (raises F o)
  thrown (S.given e) l n h F o = next_to (val e n h (value ∷ F) (over_more value o)) (act_of (raises_from F o))

  pub imported : (xs : List Alias) (l n : ℕ) (F : StackMap)
      → {c : Setting} {Ls : List (Option StackMap)} {base : StackMap} {from : ℕ} → Over base F
      → Goes links next (imported_piece around xs l n) c Ls base from F (Some F) to_none
  unfolding effect_of
  imported [] l n F o = nothing_there
  imported (a ∷ as') l n F o =
      next_to (act_of (gives_one refl (λ t. refl) F o)) (next_to (stored (bound_name a) (n + 1) l F o) (imported as' l (n + 1 + 1) F o))

  pub imported_from : (xs : List Alias) (l n : ℕ) (F : StackMap)
      → {c : Setting} {Ls : List (Option StackMap)} {base : StackMap} {from : ℕ} → Over base F
      → Goes links next (imported_from_piece around xs l n) c Ls base from (value ∷ F) (Some F) to_none
  unfolding effect_of
  imported_from [] l n F o = move_of (takes_one refl tt F o)
  imported_from (a ∷ as') l n F o =
      next_to (act_of (imports_name _ F o)) (next_to (stored (bound_name a) (n + 1) l (value ∷ F) (over_more value o)) (imported_from as' l (n + 1 + 1) F o))

  -- above the decorators
  bound : (ks : List ℕ) (l n : ℕ) (y : Name) (F : StackMap)
      → {c : Setting} {Ls : List (Option StackMap)} {base : StackMap} {from : ℕ} → Over base F
      → Goes links next (bound_piece around ks l n y) c Ls base from (value ∷ many (length ks) F) (Some F) to_none
  bound [] l n y F o = stored y n l F o
  bound (k ∷ ks) l n y F o =
      next_to (act_of (calls (T.positional ∷ []) refl (many (length ks) F) (over_all (replicate (length ks) value) o))) (bound ks l (n + 1) y F o)

  abbrev Made' : Definition → ℕ → Type 0
  Made' (a_function b ps) n = Parameters_named around ps n
  Made' (a_class b base) n = Opt_named around base n

  definition : (what : Definition) (ks : List ℕ) (l n : ℕ) (y : Name) → Made' what n → (F : StackMap)
      → {c : Setting} {Ls : List (Option StackMap)} {base : StackMap} {from : ℕ} → Over base F
      → Goes links next (definition_piece around what ks l n y) c Ls base from (many (length ks) F) (Some F) to_none
  definition (a_function b (S.parameters ps s qs d)) ks l n y h F o =
      next_to (val (S.lambda l b (S.parameters ps s qs d) (S.constant l constant.None)) n h (many (length ks) F) (over_all (replicate (length ks) value) o))
      (bound ks l (n + params_size (S.parameters ps s qs d) + 1) y F o)
  definition (a_class b S.absent) ks l n y h F o =
      next_to (null around links next cells captures (many (length ks) F) (over_all (replicate (length ks) value) o))
      (next_to (makes_a_class around links next cells captures b l n false (many (length ks) F) (over_all (replicate (length ks) value) o)) (bound ks l (n + 1) y F o))
  definition (a_class b (S.given e)) ks l n y h F o =
      next_to (val e n h (many (length ks) F) (over_all (replicate (length ks) value) o))
      (next_to (makes_a_class around links next cells captures b l (n + size e) false (many (length ks) F) (over_all (replicate (length ks) value) o))
      (bound ks l (n + size e + 1) y F o))

  pub defined : (ds : Decorators) (what : Definition) (ks : List ℕ) (l n : ℕ) (y : Name) → Definition_named around ds (Made' what) n → (F : StackMap)
      → {c : Setting} {Ls : List (Option StackMap)} {base : StackMap} {from : ℕ} → Over base F
      → Goes links next (defined_piece around ds what ks l n y) c Ls base from (many (length ks) F) (Some F) to_none
  defined S.no_decorators what ks l n y h F o = definition what ks l n y h F o
  defined (S.decorator j e r) what ks l n y (h, i) F o =
      next_to (val e n h (many (length ks) F) (over_all (replicate (length ks) value) o)) (defined r what (j ∷ ks) l (n + size e) y i F o)

  -- Statements that hold others. What they give is told as `Out`.

  abbrev pub Outs : Piece → Type 0
  Outs q = (c : Setting) (Ls : List (Option StackMap)) (base : StackMap) (from : ℕ) → Out links next q c Ls base from

  -- the branches of an `if`: what comes to the end of them all, by going on and by jumps, which is label 0
  pub record Branching (q : Piece) (c : Setting) (Ls : List (Option StackMap)) (base : StackMap) (from : ℕ) : Type 0 where
    pub goes_on : Bool
    pub sends : Bool
    pub sent : ℕ → Option StackMap
    pub sent_first : sent 0 ≡ goes_if sends base
    pub goes : (r : Option StackMap) → (sends ≡ true → r ≡ Some base) → Goes links next q c (r ∷ Ls) base from base (goes_if goes_on base) sent

  joined : {q : Piece} {c : Setting} {Ls : List (Option StackMap)} {base : StackMap} {from : ℕ} → Branching q (with_label (end_of next q from) c) Ls base from
      → Out links next (P.block q) c Ls base from
  joined {base = base} u = record {
    goes_on = u.goes_on || u.sends;
    sent = λ k. u.sent (suc k);
    goes = in_block (u.goes (goes_if (u.goes_on || u.sends) base) (second_goes u.goes_on u.sends base))
        (ap (or_else (goes_if u.goes_on base)) u.sent_first ∙ either_goes u.goes_on u.sends base);
  }

  -- the handlers of a `try`, from the slot of their tests; none of them goes on but by jumps
  pub record Handling (q : Piece) (c : Setting) (Ls : List (Option StackMap)) (base : StackMap) (from p : ℕ) : Type 0 where
    pub sends : Bool
    pub sent : ℕ → Option StackMap
    pub sent_first : sent 0 ≡ goes_if sends base
    pub goes : (r : Option StackMap) → (sends ≡ true → r ≡ Some base) → Goes links next q c (r ∷ Ls) base from (exception p ∷ base) None sent

  pub begun : (st : Stm) (b : Behind) (p : Piece) → Outs p
      → {c : Setting} {Ls : List (Option StackMap)} {base : StackMap} {from : ℕ} → Out links next (begun_piece st b p) c Ls base from
  unfolding effect_of
  begun st b p f {c} {Ls} {base} {from} = by (is_silent st) (leaves st && is_needed b)
    where
      by : (s t : Bool) → Out links next (if s then begun_piece (S.global 0 []) b p else if t then begun_piece (S.raise_again 0) needed p else p) c Ls base from
      by true t = and_then links next (on links next (move_of (takes_none refl tt base (over_itself base)))) (f _ _ _ _)
      by false true =
          let u : Out links next (P.closed p) _ _ base _ = closed_out links next (f _ _ _ _) in
          on links next (in_block {r = Some base} (both (move_of (gives_one refl tt base (over_itself base)))
          (both (move_of (tests_false 0 base (over_itself base) refl)) u.goes)) (or_some u.goes_on base))
      by false false = f _ _ _ _

  -- a part that goes to a label if it goes on
  pub to_label : {q : Piece} {c : Setting} {Ls : List (Option StackMap)} {base : StackMap} {from : ℕ} (j : ℕ) (t : Bool) {τ : ℕ → Option StackMap}
      → Goes links next q c Ls base from base (goes_if t base) τ → ((k : ℕ) → τ k ≡ None) → (t ≡ true → pick None Ls j ≡ Some base)
      → Goes links next (P.seq q (P.move (P.to Jumps j))) c Ls base from base None (to_one (P.to Jumps j) (goes_if t base))
  to_label {base = base} j true g n h =
      retold (to_one (P.to Jumps j) (Some base)) (both g (move_of (jumps j base (over_itself base) (h refl)))) (λ k. ap (λ o. or_else o (to_one (P.to Jumps j) (Some base) k)) (n k))
  to_label j false g n h = retold (to_one (P.to Jumps j) None) (stops g) (λ k. ap (λ o. or_else o None) (n k) ∙ sym (one_none (P.to Jumps j) k))

  left_true : (s t : Bool) → s ≡ true → (s || t) ≡ true
  left_true true t e = refl
  left_true false t e = absurd (false≢true e)

  right_true : (s t : Bool) → t ≡ true → (s || t) ≡ true
  right_true true t e = refl
  right_true false t e = e

  both_go : (s t : Bool) (B : StackMap) → (if s then goes_if t B else None) ≡ goes_if (s && t) B
  both_go true t B = refl
  both_go false t B = refl

  -- the body of a `try` with handlers, its `else` part and the handlers
  pub guarded : (hs : Handlers) (body E handlers : Piece) (k : ℕ) → Outs body → Outs E
      → ((c : Setting) (Ls : List (Option StackMap)) (base : StackMap) (from p : ℕ) → Handling handlers c Ls base from p)
      → {c : Setting} {Ls : List (Option StackMap)} {base : StackMap} {from : ℕ}
      → Out links next (guarded_piece hs (P.closed body) (P.numbered k (P.closed E)) handlers) c Ls base from
  guarded S.no_handlers body E handlers k f g h = and_then links next (closed_out links next (f _ _ _ _)) (count_out links next (closed_out links next (g _ _ _ _)))
  guarded (S.handler l x y q r) body E handlers k f g h {c} {Ls} {base} {from} = by (is_empty (P.closed body)) refl
    where
      inner : Setting
      inner = with_label (end_of next (P.seq (P.caught (P.closed body) (P.seq (P.numbered k (P.closed E)) (P.move (P.to Jumps 0)))) handlers) from) c

      u : Out links next body (with_none inner) [] base from
      u = f _ _ _ _

      v : Out links next E (with_none inner) [] base (end_of next body from)
      v = g _ _ _ _

      tests : ℕ
      tests = end_of next (P.caught (P.closed body) (P.seq (P.numbered k (P.closed E)) (P.move (P.to Jumps 0)))) from

      handled : Handling handlers inner Ls base tests tests
      handled = h _ _ _ _ _

      caught : (s : Option StackMap) → ((u.goes_on && v.goes_on) ≡ true → s ≡ Some base)
          → Goes links next (P.caught (P.closed body) (P.seq (P.numbered k (P.closed E)) (P.move (P.to Jumps 0)))) inner (s ∷ Ls) base from base
          (if is_empty (P.closed body) then None else Some (exception tests ∷ base)) (λ j. if u.goes_on then to_one (P.to Jumps 0) (goes_if v.goes_on base) j else None)
      caught s e = in_guard links next u.goes_on (in_closed u.goes)
          (λ t. to_label 0 v.goes_on (in_count (in_closed v.goes)) (λ j. refl) (λ z. e (ap (λ a. a && v.goes_on) t ∙ z)))

      by : (t : Bool) → is_empty (P.closed body) ≡ t
          → Out links next (P.block (P.seq (P.caught (P.closed body) (P.seq (P.numbered k (P.closed E)) (P.move (P.to Jumps 0)))) handlers)) c Ls base from
      by true e =
          let g = goes_if (u.goes_on && v.goes_on) base in record {
            goes_on = u.goes_on && v.goes_on;
            sent = _;
            goes = in_block {r = g} (stops (subst (λ t. Goes links next (P.caught (P.closed body) (P.seq (P.numbered k (P.closed E)) (P.move (P.to Jumps 0)))) inner (g ∷ Ls)
                base from base (if t then None else Some (exception tests ∷ base)) (λ j. if u.goes_on then to_one (P.to Jumps 0) (goes_if v.goes_on base) j else None)) e
                (caught g (λ z. ap (λ t. goes_if t base) z)))) (ap (λ o. or_else o None) (both_go u.goes_on v.goes_on base) ∙ only_first (u.goes_on && v.goes_on) base);
          }
      by false e =
          let g = goes_if ((u.goes_on && v.goes_on) || handled.sends) base in record {
            goes_on = (u.goes_on && v.goes_on) || handled.sends;
            sent = _;
            goes = in_block {r = g} (both (subst (λ t. Goes links next (P.caught (P.closed body) (P.seq (P.numbered k (P.closed E)) (P.move (P.to Jumps 0)))) inner (g ∷ Ls)
                base from base (if t then None else Some (exception tests ∷ base)) (λ j. if u.goes_on then to_one (P.to Jumps 0) (goes_if v.goes_on base) j else None)) e
                (caught g (λ z. ap (λ t. goes_if t base) (left_true (u.goes_on && v.goes_on) handled.sends z))))
                (handled.goes g (λ z. ap (λ t. goes_if t base) (right_true (u.goes_on && v.goes_on) handled.sends z))))
                (ap (λ o. or_else o (handled.sent 0)) (both_go u.goes_on v.goes_on base) ∙ (ap (or_else (goes_if (u.goes_on && v.goes_on) base)) handled.sent_first
                ∙ either_goes (u.goes_on && v.goes_on) handled.sends base));
          }

  pub ensured : (fin : Stms) (tried part : Piece) (k : ℕ) → Outs tried → Outs part
      → {c : Setting} {Ls : List (Option StackMap)} {base : StackMap} {from : ℕ}
      → Out links next (ensured_piece fin tried (P.numbered k (P.closed part))) c Ls base from
  ensured none tried part k f g = and_then links next (f _ _ _ _) (count_out links next (closed_out links next (g _ _ _ _)))
  ensured (more st ss) tried part k f g {c} {Ls} {base} {from} = by v.goes_on v.goes
    where
      u : Out links next tried (with_none c) [] base from
      u = f _ _ _ _

      begins : ℕ
      begins = next (end_of next tried from)

      v : Out links next part (with_none c) [] (pending begins c.loop ∷ base) begins
      v = g _ _ _ _

      by : (t : Bool) {τ : ℕ → Option StackMap} → Goes links next part (with_none c) [] (pending begins c.loop ∷ base) begins (pending begins c.loop ∷ base)
          (goes_if t (pending begins c.loop ∷ base)) τ
          → Out links next (ensured_piece (more st ss) tried (P.numbered k (P.closed part))) c Ls base from
      by true h = on links next (both (in_row (over_itself base) u.goes (ends_if u.goes_on base)) (both (deeper_by_one [] (pending begins c.loop) (in_count (in_closed h)))
          (move_of (ends_finally begins base (over_itself base)))))
      by false h = off links next (both (in_row (over_itself base) u.goes (ends_if u.goes_on base)) (stops (deeper_by_one [] (pending begins c.loop) (in_count (in_closed h)))))

  -- a handler behind its Match, from the slot of the tests
  pub record Handled (q : Piece) (c : Setting) (base : StackMap) (from p : ℕ) : Type 0 where
    pub sends : Bool
    pub goes : (Ls : List (Option StackMap)) → (sends ≡ true → pick None Ls 1 ≡ Some base)
        → Goes links next q c Ls base from (exception p ∷ base) None (to_one (P.to Jumps 1) (goes_if sends base))

  pub handled : (l n : ℕ) (y : Option Name) (body : ℕ → Piece) → ((m : ℕ) → m ≡ handler_body n y → Outs (body m))
      → {c : Setting} {base : StackMap} {from p : ℕ} → Handled (handled_piece around l n y body) c base from p
  unfolding effect_of
  handled l n None body f {c} {base} {from} {p} = record { sends = u.goes_on; goes = λ Ls. by Ls u.goes_on u.goes }
    where
      slot : Known
      slot = exception (next from)

      u : Out links next (body (n + 1)) (with_none c) [] (slot ∷ base) (next (next from))
      u = f (n + 1) refl _ _ _ _

      by : (Ls : List (Option StackMap)) (t : Bool) {τ : ℕ → Option StackMap}
          → Goes links next (body (n + 1)) (with_none c) [] (slot ∷ base) (next (next from)) (slot ∷ base) (goes_if t (slot ∷ base)) τ
          → (t ≡ true → pick None Ls 1 ≡ Some base) → Goes links next (handled_piece around l n None body) c Ls base from (exception p ∷ base) None
          (to_one (P.to Jumps 1) (goes_if t base))
      by Ls true g h =
          both (move_of (catches p base (over_itself base))) (both (move_of (takes_one refl tt (slot ∷ base) (over_more slot (over_itself base))))
          (both (deeper_by_one [] slot (in_closed g)) (both (move_of (ends_handler (next from) base (over_itself base))) (move_of (jumps 1 base (over_itself base) (h refl))))))
      by Ls false g h = retold (to_one (P.to Jumps 1) None)
          (both (move_of (catches p base (over_itself base))) (both (move_of (takes_one refl tt (slot ∷ base) (over_more slot (over_itself base))))
          (stops (deeper_by_one [] slot (in_closed g))))) (λ k. sym (one_none (P.to Jumps 1) k))
  handled l n (Some y) body f {c} {base} {from} {p} = record {
    sends = true;
    goes = λ Ls h. both (move_of (catches p base (over_itself base))) (both (stored y (n + 1) l (slot ∷ base) (over_more slot (over_itself base)))
        (both (deeper_by_one [] slot (in_row (over_itself (slot ∷ base)) u.goes (ends_if u.goes_on (slot ∷ base))))
        (both (null around links next cells captures (held ∷ slot ∷ base) (over_more held (over_more slot (over_itself base))))
        (both (move_of (stores z.scope z.name (held ∷ slot ∷ base) (over_more held (over_more slot (over_itself base)))))
        (both (move_of (deletes z.scope z.name (held ∷ slot ∷ base) (over_more held (over_more slot (over_itself base)))))
        (both (move_of (ends_finally after (slot ∷ base) (over_more slot (over_itself base)))) (both (move_of (ends_handler (next from) base (over_itself base)))
        (move_of (jumps 1 base (over_itself base) (h refl))))))))));
  }
    where
      z : T.Variable
      z = around.variable [] y

      slot : Known
      slot = exception (next from)

      start : ℕ
      start = next (next from)

      after : ℕ
      after = next (end_of next (body (n + 1 + 1)) start)

      held : Known
      held = pending after c.loop

      u : Out links next (body (n + 1 + 1)) (with_none c) [] (slot ∷ base) start
      u = f (n + 1 + 1) refl _ _ _ _

  abbrev pub Taken_named : Option Tgt → ℕ → Type 0
  Taken_named None n = Unit {0}
  Taken_named (Some t) n = Target_named around t n []

  -- what Enter gives goes to a target, or is dropped
  pub taken_so : (t : Option Tgt) (n : ℕ) → Taken_named t n → (F : StackMap)
      → {c : Setting} {Ls : List (Option StackMap)} {base : StackMap} {from : ℕ} → Over base F
      → Goes links next (taken_piece around t n) c Ls base from (value ∷ F) (Some F) to_none
  unfolding effect_of
  taken_so None n h F o = move_of (takes_one refl tt F o)
  taken_so (Some t) n h F o = to_target t n h F o

  pub one_item : (l : ℕ) (e : Exp) (t : Option Tgt) (rest : Piece) (k n : ℕ) → Value_named around e n → Taken_named t (n + size e + 1) → Outs rest
      → {c : Setting} {Ls : List (Option StackMap)} {base : StackMap} {from : ℕ} → Out links next (P.seq (value_piece around e n) (P.seq (P.act (P.plain instr.Enter) (n + size e) l false)
      (P.seq (P.deeper 1 (P.ensured (P.seq (taken_piece around t (n + size e + 1)) rest)))
      (P.seq (P.act (P.plain instr.Exit) k l false) (P.move (P.plain instr.EndFinally)))))) c Ls base from
  one_item l e t rest k n h j f {c} {Ls} {base} {from} =
      on links next (both (val e n h base (over_itself base)) (both (act_of (enters base (over_itself base))) (both (deeper_by_one (value ∷ []) slot
      (in_row (over_more value (over_itself (slot ∷ base))) (both (taken_so t (n + size e + 1) j (slot ∷ base) (over_itself (slot ∷ base))) u.goes) (ends_if u.goes_on (slot ∷ base))))
      (both (act_of (exits_part ended start base (over_itself base))) (move_of (ends_finally (next ended) base (over_itself base)))))))
    where
      start : ℕ
      start = next (end_of next (value_piece around e n) from)

      slot : Known
      slot = exit start

      ended : ℕ
      ended = next (end_of next (P.seq (taken_piece around t (n + size e + 1)) rest) start)

      u : Out links next rest (with_none c) [] (slot ∷ base) (end_of next (taken_piece around t (n + size e + 1)) start)
      u = f _ _ _ _

  pub items : (is : Items) (body : ℕ → Piece) (N : ℕ → Type 0) → ((m : ℕ) → N m → Outs (body m)) → (k n : ℕ) → Items_named around is N n
      → {c : Setting} {Ls : List (Option StackMap)} {base : StackMap} {from : ℕ} → Out links next (items_piece around is body k n) c Ls base from
  items S.no_items body N f k n h = closed_out links next (f n h _ _ _ _)
  items (S.with_item l e None r) body N f k n (h, i) =
      one_item l e None (items_piece around r body k (n + size e + 1)) (n + size e + 1 + items_size r k) n h tt (λ c Ls base from. items r body N f k (n + size e + 1) i)
  items (S.with_item l e (Some t) r) body N f k n (h, j, i) =
      one_item l e (Some t) (items_piece around r body k (n + size e + 1 + target_size t)) (n + size e + 1 + target_size t + items_size r k) n h j
      (λ c Ls base from. items r body N f k (n + size e + 1 + target_size t) i)

  started_out : {l : ℕ} {q : Piece} {c : Setting} {Ls : List (Option StackMap)} {base : StackMap} {from : ℕ} → Out links next q c Ls base from
      → Out links next (P.started l q) c Ls base from
  started_out u = record { goes_on = u.goes_on; sent = u.sent; goes = at_a_start u.goes }

  pub counted : {k : ℕ} {q : Piece} {c : Setting} {Ls : List (Option StackMap)} {base : StackMap} {from p : ℕ} → Handling q c Ls base from p
      → Handling (P.numbered k q) c Ls base from p
  counted u = record { sends = u.sends; sent = u.sent; sent_first = u.sent_first; goes = λ r e. in_count (u.goes r e) }

  -- a loop without its `else` part, in which nothing goes to the end of the whole but by leaving it
  pub record Tested (q : Piece) (c : Setting) (Ls : List (Option StackMap)) (base : StackMap) (from : ℕ) (t : Option StackMap) : Type 0 where
    pub sent : ℕ → Option StackMap
    pub none : sent 0 ≡ None
    pub goes : Goes links next q c Ls base from base t sent

  with_else : {q E : Piece} {c : Setting} {Ls : List (Option StackMap)} {base : StackMap} {from k : ℕ} (t : Bool)
      → Tested q (with_label (end_of next (P.seq q (P.numbered k E)) from) c) (goes_if t base ∷ Ls) base from (Some base)
      → Goes links next E (with_label (end_of next (P.seq q (P.numbered k E)) from) c) (goes_if t base ∷ Ls) base (end_of next q from) base (goes_if t base) to_none
      → Out links next (P.block (P.seq q (P.numbered k E))) c Ls base from
  with_else {base = base} t u g = record {
    goes_on = t;
    sent = _;
    goes = in_block {r = goes_if t base} (both u.goes (in_count g)) (ap (λ o. or_else (goes_if t base) (or_else o None)) u.none ∙ only_first t base);
  }

  -- the rest of a `for`, behind the target: nothing goes on, and nothing goes to the end of the whole
  pub record Again (q : Piece) (c : Setting) (Ls : List (Option StackMap)) (base : StackMap) (from : ℕ) (ks : StackMap) : Type 0 where
    pub sent : ℕ → Option StackMap
    pub none : sent 2 ≡ None
    pub goes : Goes links next q c Ls base from ks None sent

  -- the test of a `while` and its body
  abbrev pub while_tested : (l n : ℕ) → Exp → (body : Piece) → Piece
  while_tested l n e q = P.seq (value_piece around e n) (P.seq (P.act (P.to IfFalse 0) (n + size e) l false)
      (P.headed (P.seq (P.looped 2 q) (P.numbered n (P.seq (P.closed (exp_piece around e n true [])) (P.act (P.to IfTrue 0) (n + size e) l false))))))

  pub while_test : (l n : ℕ) (e : Exp) (q : Piece) → Value_named around e n → Outs q → (c : Setting) (Ls : List (Option StackMap)) (base : StackMap) (from : ℕ)
      → Tested (P.block (while_tested l n e q)) c Ls base from (Some base)
  while_test l n e q h f c Ls base from = record {
    sent = _;
    none = refl;
    goes = in_block {r = Some base} (both (val e n h base (over_itself base)) (both (act_of (tests_false 0 base (over_itself base) refl))
        (in_head (again u.goes_on u.goes)))) (or_some u.goes_on base);
  }
    where
      first : ℕ
      first = next (end_of next (value_piece around e n) from)

      within : Setting
      within = with_label first (with_label (end_of next (while_tested l n e q) from) c)

      u : Out links next q (with_loop 2 (end_of next q first) (length base) within) [] base first
      u = f _ _ _ _

      again : (t : Bool) {τ : ℕ → Option StackMap} → Goes links next q (with_loop 2 (end_of next q first) (length base) within) [] base first base (goes_if t base) τ
          → Goes links next (P.seq (P.looped 2 q) (P.numbered n (P.seq (P.closed (exp_piece around e n true [])) (P.act (P.to IfTrue 0) (n + size e) l false)))) within
          (Some base ∷ Some base ∷ Ls) base first base (goes_if t base) (to_one (P.to IfTrue 0) (goes_if t base))
      again true g = both (in_loop g)
          (in_count (both (exp around links next cells captures e n true [] h base (over_itself base)) (act_of (tests_true 0 base (over_itself base) refl))))
      again false g = retold (to_one (P.to IfTrue 0) None) (stops (in_loop g)) (λ k. sym (one_none (P.to IfTrue 0) k))

  while_out : (l n : ℕ) (e : Exp) (body els : Stms) (b : Behind) → Value_named around e n
      → Outs (all_piece around body (tested_body n e) (needed_if (some_exits Continue body)))
      → Outs (all_piece around els (behind_body n e body) (behind_loop (some_exits Break body) b))
      → Outs (stm_piece around (S.while l e body els) n b)
  while_out l n e body els b h f g c Ls base from = whole w.goes_on w.goes
    where
      inner : Piece
      inner = P.block (while_tested l n e (all_piece around body (tested_body n e) (needed_if (some_exits Continue body))))

      otherwise : Piece
      otherwise = all_piece around els (behind_body n e body) (behind_loop (some_exits Break body) b)

      outer : Setting
      outer = with_label (end_of next (P.seq inner (P.numbered (behind_body n e body) (P.closed otherwise))) from) c

      w : Out links next otherwise (with_none outer) [] base (end_of next inner from)
      w = g _ _ _ _

      whole : (t : Bool) {τ : ℕ → Option StackMap} → Goes links next otherwise (with_none outer) [] base (end_of next inner from) base (goes_if t base) τ
          → Out links next (stm_piece around (S.while l e body els) n b) c Ls base from
      whole t g = with_else t (while_test l n e (all_piece around body (tested_body n e) (needed_if (some_exits Continue body))) h f outer (goes_if t base ∷ Ls) base from) (in_closed g)

  -- the iterator of a `for`, its test and its body
  abbrev pub for_head : (l n : ℕ) → Tgt → (body : Piece) → Piece
  for_head l n t q = P.seq (P.closed (target_piece around t (n + 1) [])) (P.seq (P.deeper 1 (P.looped 2 q))
      (P.seq (P.numbered n (P.act (P.to AtEnd 1) n l true)) (P.move (P.to Jumps 0))))

  abbrev pub for_tested : (l n : ℕ) → Tgt → (it : Exp) → (body : Piece) → Piece
  for_tested l n t it q =
      P.seq (value_piece around it n) (P.seq (P.act (P.plain instr.Iter) (n + size it) l false) (P.seq (P.act (P.to AtEnd 0) (n + size it + 1) l false)
      (P.headed (for_head l (n + size it + 1) t q))))

  pub for_test : (l n : ℕ) (t : Tgt) (it : Exp) (q : Piece) → Value_named around it n → Target_named around t (n + size it + 1 + 1) [] → Outs q
      → (c : Setting) (Ls : List (Option StackMap)) (base : StackMap) (from : ℕ) → Tested (P.block (for_tested l n t it q)) c Ls base from (Some base)
  for_test l n t it q h d f c Ls base from =
      let a = again u.goes_on u.goes in record {
        sent = _;
        none = a.none;
        goes = in_block {r = Some base} (both (val it n h base (over_itself base)) (both (act_of (iterates base (over_itself base)))
            (both (act_of (takes_next 0 (Some taken) base (over_itself base) refl))
            (in_head (both (to_target t (n + size it + 1 + 1) d (slot ∷ base) (over_more slot (over_itself base))) a.goes))))) refl;
      }
    where
      -- where the first item is taken, and where it is bound
      taken : ℕ
      taken = next (end_of next (value_piece around it n) from)

      slot : Known
      slot = iterator taken

      within : Setting
      within = with_label (next taken) (with_label (end_of next (for_tested l n t it q) from) c)

      begins : ℕ
      begins = end_of next (P.closed (target_piece around t (n + size it + 1 + 1) [])) (next taken)

      u : Out links next q (with_loop 2 (end_of next q begins) (length (slot ∷ base)) within) [] (slot ∷ base) begins
      u = f _ _ _ _

      again : (s : Bool) {τ : ℕ → Option StackMap}
          → Goes links next q (with_loop 2 (end_of next q begins) (length (slot ∷ base)) within) [] (slot ∷ base) begins (slot ∷ base) (goes_if s (slot ∷ base)) τ
          → Again (P.seq (P.deeper 1 (P.looped 2 q)) (P.seq (P.numbered (n + size it + 1) (P.act (P.to AtEnd 1) (n + size it + 1) l true)) (P.move (P.to Jumps 0))))
          within (Some (value ∷ slot ∷ base) ∷ Some base ∷ Ls) base begins (slot ∷ base)
      again true g = record {
        sent = _;
        none = refl;
        goes = both (deeper_by_one [] slot (in_loop g)) (both (in_count (act_of (takes_next 1 (Some taken) base (over_itself base) refl)))
            (move_of (jumps 0 (value ∷ slot ∷ base) (over_more value (over_more slot (over_itself base))) refl)));
      }
      again false g = record { sent = _; none = refl; goes = stops (deeper_by_one [] slot (in_loop g)) }

  for_out : (l n : ℕ) (t : Tgt) (it : Exp) (body els : Stms) (b : Behind) → Value_named around it n → Target_named around t (n + size it + 1 + 1) []
      → Outs (all_piece around body (for_body (n + size it + 1) t) (needed_if (some_exits Continue body)))
      → Outs (all_piece around els (for_else (n + size it + 1) t body) (behind_loop (some_exits Break body) b))
      → Outs (stm_piece around (S.for l t it body els) n b)
  for_out l n t it body els b h d f g c Ls base from = whole w.goes_on w.goes
    where
      inner : Piece
      inner = P.block (for_tested l n t it (all_piece around body (for_body (n + size it + 1) t) (needed_if (some_exits Continue body))))

      otherwise : Piece
      otherwise = all_piece around els (for_else (n + size it + 1) t body) (behind_loop (some_exits Break body) b)

      outer : Setting
      outer = with_label (end_of next (P.seq inner (P.numbered (for_else (n + size it + 1) t body) (P.closed otherwise))) from) c

      w : Out links next otherwise (with_none outer) [] base (end_of next inner from)
      w = g _ _ _ _

      whole : (s : Bool) {τ : ℕ → Option StackMap} → Goes links next otherwise (with_none outer) [] base (end_of next inner from) base (goes_if s base) τ
          → Out links next (stm_piece around (S.for l t it body els) n b) c Ls base from
      whole s g = with_else s (for_test l n t it (all_piece around body (for_body (n + size it + 1) t) (needed_if (some_exits Continue body))) h d f outer (goes_if s base ∷ Ls) base from)
          (in_closed g)

  abbrev pub Branchings : Piece → Type 0
  Branchings q = (c : Setting) (Ls : List (Option StackMap)) (base : StackMap) (from : ℕ) → Branching q c Ls base from

  abbrev pub Handlings : Piece → Type 0
  Handlings q = (c : Setting) (Ls : List (Option StackMap)) (base : StackMap) (from p : ℕ) → Handling q c Ls base from p

  one_branch : (l n : ℕ) (x : Exp) (body : Stms) (rest : Piece) → Value_named around x n → Outs (all_piece around body (tested_body n x) free)
      → Branchings rest
      → Branchings (P.seq (P.block (P.seq (value_piece around x n) (P.seq (P.act (P.to IfFalse 0) (n + size x) l false)
      (P.seq (P.closed (all_piece around body (tested_body n x) free)) (P.move (P.to Jumps 1)))))) rest)
  one_branch l n x body rest h f g c Ls base from = record {
    goes_on = v.goes_on;
    sends = u.goes_on || v.sends;
    sent = λ k. or_else (to_one (P.to Jumps 1) (goes_if u.goes_on base) (suc k)) (v.sent k);
    sent_first = ap (or_else (goes_if u.goes_on base)) v.sent_first ∙ either_goes u.goes_on v.sends base;
    goes = λ s e. both (retold (λ k. to_one (P.to Jumps 1) (goes_if u.goes_on base) (suc k))
        (in_block {r = Some base} (both (val x n h base (over_itself base)) (both (act_of (tests_false 0 base (over_itself base) refl))
        (to_label 1 u.goes_on (in_closed u.goes) (λ k. refl) (λ t. e (left_true u.goes_on v.sends t))))) refl)
        (λ k. passed IfFalse (Some base) (to_one (P.to Jumps 1) (goes_if u.goes_on base) (suc k)) k))
        (v.goes s (λ t. e (right_true u.goes_on v.sends t)));
  }
    where
      first : Piece
      first = P.block (P.seq (value_piece around x n) (P.seq (P.act (P.to IfFalse 0) (n + size x) l false)
          (P.seq (P.closed (all_piece around body (tested_body n x) free)) (P.move (P.to Jumps 1)))))

      u : Out links next (all_piece around body (tested_body n x) free) (with_none c) [] base (next (end_of next (value_piece around x n) from))
      u = f _ _ _ _

      v : Branching rest c Ls base (end_of next first from)
      v = g _ _ _ _

  -- a handler, whose test follows what gives the class
  one_handler : (class : Piece) (l n : ℕ) (y : Option Name) (body : Stms) (rest : Piece) → ((F : StackMap) → Gives' class F (Some (value ∷ F)))
      → ((m : ℕ) → m ≡ handler_body n y → Outs (all_piece around body m free))
      → Handlings rest
      → Handlings (P.seq (P.block (P.seq class (P.seq (P.act (P.plain instr.Match) n l false) (P.seq (P.move (P.to IfFalse 0))
      (handled_piece around l n y (λ m. all_piece around body m free)))))) rest)
  one_handler class l n y body rest k f g c Ls base from p = record {
    sends = u.sends || v.sends;
    sent = λ m. or_else (to_one (P.to Jumps 1) (goes_if u.sends base) (suc m)) (v.sent m);
    sent_first = ap (or_else (goes_if u.sends base)) v.sent_first ∙ either_goes u.sends v.sends base;
    goes = λ s e. both (retold (λ m. to_one (P.to Jumps 1) (goes_if u.sends base) (suc m)) (in_block {r = Some (exception p ∷ base)}
        (both (k (exception p ∷ base) _ _ _ _ (over_more (exception p) (over_itself base))) (both (act_of (matches p base (over_itself base)))
        (both (move_of (tests_false 0 (exception p ∷ base) (over_more (exception p) (over_itself base)) refl)) (u.goes _ (λ t. e (left_true u.sends v.sends t)))))) refl)
        (λ m. passed IfFalse (Some (exception p ∷ base)) (to_one (P.to Jumps 1) (goes_if u.sends base) (suc m)) m))
        (v.goes s (λ t. e (right_true u.sends v.sends t)));
  }
    where
      first : Piece
      first = P.block (P.seq class (P.seq (P.act (P.plain instr.Match) n l false) (P.seq (P.move (P.to IfFalse 0))
          (handled_piece around l n y (λ m. all_piece around body m free)))))

      u : Handled (handled_piece around l n y (λ m. all_piece around body m free)) (with_label (end_of next first from) c) base (next (next (end_of next class from))) p
      u = handled l n y (λ m. all_piece around body m free) f

      v : Handling rest c Ls base (end_of next first from) p
      v = g _ _ _ _ _

  -- a statement that holds no other and doesn't leave goes on
  pub record Through (q : Piece) (c : Setting) (Ls : List (Option StackMap)) (base : StackMap) (from : ℕ) : Type 0 where
    pub sent : ℕ → Option StackMap
    pub goes : Goes links next q c Ls base from base (Some base) sent

  through : {q : Piece} {c : Setting} {Ls : List (Option StackMap)} {base : StackMap} {from : ℕ} {τ : ℕ → Option StackMap} → Goes links next q c Ls base from base (Some base) τ
      → Through q c Ls base from
  through {τ = τ} g = record { sent = τ; goes = g }

  pub simple : (st : Stm) (n : ℕ) (b : Behind) → HoldsNone st → leaves st ≡ false → Stm_named around st n → (c : Setting) (Ls : List (Option StackMap)) (base : StackMap) (from : ℕ)
      → Through (stm_piece around st n b) c Ls base from
  unfolding effect_of
  simple (S.expr l e) n b w z h c Ls base from = through (next_to (val e n h base (over_itself base)) (act_of (takes_one refl tt base (over_itself base))))
  simple (S.assign l ts e) n b w z h c Ls base from = through (next_to (val e n h.0 base (over_itself base)) (assigned ts (n + size e) h.1 base (over_itself base)))
  simple (S.augmented l p y e) n b w z h c Ls base from = through (augmented p y e l n h base (over_itself base))
  simple (S.annotated l p a S.absent) n b w z h c Ls base from = through (act_of (takes_none refl tt base (over_itself base)))
  simple (S.annotated l p a (S.given e)) n b w z h c Ls base from =
      through (next_to (val e n h.0 base (over_itself base)) (assigned (S.more_targets (S.single p) S.no_targets) (n + size e) (h.1, tt) base (over_itself base)))
  simple (S.assert l e m) n b w z h c Ls base from =
      through (in_block {r = Some base} (both (val e n h.0 base (over_itself base)) (both (act_of (tests_true 0 base (over_itself base) refl))
      (failed m l (n + size e + 1) h.1 base (over_itself base)))) refl)
  simple (S.pass l) n b w z h c Ls base from = through (act_of (takes_none refl tt base (over_itself base)))
  simple (S.del l ts) n b w z h c Ls base from = through (all_deleted (all_places ts) n h base (over_itself base))
  simple (S.import l xs) n b w z h c Ls base from = through (imported xs l n base (over_itself base))
  simple (S.import_from l m xs) n b w z h c Ls base from =
      through (next_to (act_of (gives_one refl (λ t. refl) base (over_itself base))) (imported_from xs l (n + 1) base (over_itself base)))
  simple (S.global l xs) n b w z h c Ls base from = through nothing_there
  simple (S.nonlocal l xs) n b w z h c Ls base from = through nothing_there
  simple (S.def l ds k b y ps a body) n q w z h c Ls base from = through (defined ds (a_function b ps) [] k n y h base (over_itself base))
  simple (S.class l ds k b y base' body) n q w z h c Ls base from = through (defined ds (a_class b base') [] k n y h base (over_itself base))
  simple (S.docstring l) n b w z h c Ls base from = through nothing_there
  simple (S.return l e) n b w z h c Ls base from = absurd (true≢false z)
  simple (S.raise l e d) n b w z h c Ls base from = absurd (true≢false z)
  simple (S.raise_again l) n b w z h c Ls base from = absurd (true≢false z)
  simple (S.break l) n b w z h c Ls base from = absurd (true≢false z)
  simple (S.continue l) n b w z h c Ls base from = absurd (true≢false z)
  simple (S.choice l bs els) n b w z h c Ls base from = absurd w
  simple (S.while l e body els) n b w z h c Ls base from = absurd w
  simple (S.for l t it body els) n b w z h c Ls base from = absurd w
  simple (S.try l body hs els fin) n b w z h c Ls base from = absurd w
  simple (S.with l is body) n b w z h c Ls base from = absurd w

  single : (st : Stm) (n : ℕ) (b : Behind) → HoldsNone st → Stm_named around st n → Outs (stm_piece around st n b)
  single (S.return l e) n b w h c Ls base from = off links next (returned e l n h base (over_itself base))
  single (S.raise l e d) n b w h c Ls base from =
      off links next (next_to (val e n h.0 base (over_itself base)) (thrown d l (n + size e) h.1 base (over_itself base)))
  single (S.raise_again l) n b w h c Ls base from = off links next (act_of (raises_again base (over_itself base)))
  single (S.break l) n b w h c Ls base from = off links next (leaves_by (over_itself base))
  single (S.continue l) n b w h c Ls base from = off links next (leaves_by (over_itself base))
  single (S.choice l bs els) n b w h c Ls base from = absurd w
  single (S.while l e body els) n b w h c Ls base from = absurd w
  single (S.for l t it body els) n b w h c Ls base from = absurd w
  single (S.try l body hs els fin) n b w h c Ls base from = absurd w
  single (S.with l is body) n b w h c Ls base from = absurd w
  single st n b w h c Ls base from = let u : Through (stm_piece around st n b) c Ls base from = simple st n b tt refl h c Ls base from in on links next u.goes

  choice_out : (l n : ℕ) (bs : Branches) (els : Stms) (b : Behind)
      → Branchings (branches_piece around bs n (λ m. P.closed (all_piece around els m (behind_branches (some_branch_goes_on bs) b))))
      → Outs (stm_piece around (S.choice l bs els) n b)
  choice_out l n bs els b f c Ls base from = joined (f _ _ _ _)

  try_out : (l n : ℕ) (body : Stms) (hs : Handlers) (els fin : Stms) (b : Behind)
      → Outs (all_piece around body (n + 1) (in_front els (behind_tried hs fin b))) → Handlings (handlers_piece around hs (try_handlers n body))
      → Outs (all_piece around els (try_else n body hs) (behind_tried hs fin b))
      → Outs (all_piece around fin (try_finally n body hs els) (needed_if (is_needed b))) → Outs (stm_piece around (S.try l body hs els fin) n b)
  unfolding effect_of
  try_out l n body hs els fin b f h g k c Ls base from =
      and_then links next (on links next (act_of (takes_none refl tt base (over_itself base))))
      (ensured fin (guarded_piece hs (P.closed (all_piece around body (n + 1) (in_front els (behind_tried hs fin b))))
      (P.numbered (try_else n body hs) (P.closed (all_piece around els (try_else n body hs) (behind_tried hs fin b))))
      (P.numbered (try_handlers n body) (handlers_piece around hs (try_handlers n body))))
      (all_piece around fin (try_finally n body hs els) (needed_if (is_needed b))) (try_finally n body hs els)
      (λ c Ls base from. guarded hs (all_piece around body (n + 1) (in_front els (behind_tried hs fin b)))
      (all_piece around els (try_else n body hs) (behind_tried hs fin b)) (P.numbered (try_handlers n body) (handlers_piece around hs (try_handlers n body)))
      (try_else n body hs) f g (λ c Ls base from p. counted (h c Ls base from p))) k)

  with_out : (l n : ℕ) (is : Items) (body : Stms) (b : Behind) → Items_named around is (λ m. All_named around body m) n
      → ((m : ℕ) → All_named around body m → Outs (all_piece around body m free)) → Outs (stm_piece around (S.with l is body) n b)
  with_out l n is body b h f c Ls base from =
      items is (λ m. all_piece around body m free) (λ m. All_named around body m) f (stms_size body) n h

  no_more : (n : ℕ) (b : Behind) → Outs (all_piece around none n b)
  no_more n b c Ls base from = on links next nothing_there

  one_more : (st : Stm) (ss : Stms) (n : ℕ) (b : Behind) → Outs (stm_piece around st n (in_front ss b)) → Outs (all_piece around ss (n + stm_size st) b)
      → Outs (all_piece around (more st ss) n b)
  one_more st ss n b f g c Ls base from =
      and_then links next (started_out (begun st (in_front ss b) (stm_piece around st n (in_front ss b)) f)) (g _ _ _ _)

  no_branch : {q : Piece} → Outs q → Branchings (P.closed q)
  no_branch {q} f c Ls base from =
      let u : Out links next q (with_none c) [] base from = f _ _ _ _ in record {
        goes_on = u.goes_on;
        sends = false;
        sent = to_none;
        sent_first = refl;
        goes = λ r e. in_closed u.goes;
      }

  no_handler : Handlings (P.move (P.plain instr.Rethrow))
  no_handler c Ls base from p = record {
    sends = false;
    sent = to_none;
    sent_first = refl;
    goes = λ r e. move_of (rethrows p base (over_itself base));
  }

  mutual
    pub stm : (st : Stm) (n : ℕ) (b : Behind) → Stm_named around st n → Outs (stm_piece around st n b)
    stm (S.choice l bs els) n b h =
        choice_out l n bs els b (branches bs els (behind_branches (some_branch_goes_on bs) b) (λ m. all els m (behind_branches (some_branch_goes_on bs) b)) n h)
    stm (S.while l e body els) n b h =
        while_out l n e body els b h.0 (all body (tested_body n e) (needed_if (some_exits Continue body)) h.1)
        (all els (behind_body n e body) (behind_loop (some_exits Break body) b) h.2)
    stm (S.for l t it body els) n b h =
        for_out l n t it body els b h.0 h.1 (all body (for_body (n + size it + 1) t) (needed_if (some_exits Continue body)) h.2)
        (all els (for_else (n + size it + 1) t body) (behind_loop (some_exits Break body) b) h.3)
    stm (S.try l body hs els fin) n b h =
        try_out l n body hs els fin b (all body (n + 1) (in_front els (behind_tried hs fin b)) h.0) (handlers hs (try_handlers n body) h.1)
        (all els (try_else n body hs) (behind_tried hs fin b) h.2) (all fin (try_finally n body hs els) (needed_if (is_needed b)) h.3)
    stm (S.with l is body) n b h = with_out l n is body b h (λ m. all body m free)
    stm st n b h = single st n b tt h

    pub all : (ss : Stms) (n : ℕ) (b : Behind) → All_named around ss n → Outs (all_piece around ss n b)
    all none n b h = no_more n b
    all (more st ss) n b h = one_more st ss n b (stm st n (in_front ss b) h.0) (all ss (n + stm_size st) b h.1)

    pub branches : (bs : Branches) (els : Stms) (b : Behind) → ((m : ℕ) → All_named around els m → Outs (all_piece around els m b)) → (n : ℕ)
        → Branches_named around bs (λ m. All_named around els m) n → Branchings (branches_piece around bs n (λ m. P.closed (all_piece around els m b)))
    branches S.no_branches els b f n h = no_branch (f n h)
    branches (S.branch l x body r) els b f n h =
        one_branch l n x body (branches_piece around r (behind_body n x body) (λ m. P.closed (all_piece around els m b))) h.0 (all body (tested_body n x) free h.1)
        (branches r els b f (behind_body n x body) h.2)

    pub handlers : (hs : Handlers) (n : ℕ) → Handlers_named around hs n → Handlings (handlers_piece around hs n)
    handlers S.no_handlers n h = no_handler
    handlers (S.handler l S.absent y body r) n h =
        one_handler null_piece l n y body (handlers_piece around r (handler_body n y + stms_size body)) (λ F c Ls base from o. null around links next cells captures F o)
        (λ m z. all body m free (subst (λ k. All_named around body k) (sym z) h.0)) (handlers r (handler_body n y + stms_size body) h.1)
    handlers (S.handler l (S.given x) y body r) n h =
        one_handler (value_piece around x n) l (n + size x) y body (handlers_piece around r (handler_body (n + size x) y + stms_size body))
        (λ F c Ls base from o. val x n h.0 F o) (λ m z. all body m free (subst (λ k. All_named around body k) (sym z) h.1))
        (handlers r (handler_body (n + size x) y + stms_size body) h.2)

  -- a block of statements, at whose end nothing goes on
  pub record Finished (q : Piece) (c : Setting) (Ls : List (Option StackMap)) (base : StackMap) (from : ℕ) : Type 0 where
    pub sent : ℕ → Option StackMap
    pub goes : Goes links next q c Ls base from base None sent

  -- that of a generator expression, which begins with an iterator
  pub record Generated (q : Piece) (c : Setting) (from : ℕ) : Type 0 where
    pub sent : ℕ → Option StackMap
    pub goes : Goes links next q c [] [] from (iterator_of None ∷ []) None sent

  finished : {a b : Piece} {c : Setting} {Ls : List (Option StackMap)} {base : StackMap} {from : ℕ} {σ : ℕ → Option StackMap} → Out links next a c Ls base from
      → Goes links next b c Ls base (end_of next a from) base None σ → Finished (P.seq a b) c Ls base from
  finished {a} {b} {c} {Ls} {base} {from} {σ} u g = by u.goes_on u.goes
    where
      by : (t : Bool) {τ : ℕ → Option StackMap} → Goes links next a c Ls base from base (goes_if t base) τ → Finished (P.seq a b) c Ls base from
      by true f = record { sent = _; goes = both f g }
      by false f = record { sent = _; goes = stops f }

  pub ended : (ss : Stms) → All_named around ss 0
      → {c : Setting} {Ls : List (Option StackMap)} {base : StackMap} {from : ℕ} → Finished (block_piece around ss) c Ls base from
  ended ss h {base = base} = finished (all ss 0 free h _ _ _ _) (next_to (null around links next cells captures base (over_itself base)) (move_of (returns base (over_itself base))))

  pub lambda_ended : (l : ℕ) (e : Exp) → Value_named around e 0 → {c : Setting} {Ls : List (Option StackMap)} {base : StackMap} {from : ℕ}
      → Finished (lambda_piece around l e) c Ls base from
  lambda_ended l e h {base = base} = record { sent = _; goes = next_to (val e 0 h base (over_itself base)) (act_of (returns base (over_itself base))) }

  -- an item is given on, and the next one is taken
  yielded : (l n : ℕ) (e : Exp) → Value_named around e n → {c : Setting} {Ls : List (Option StackMap)} {base : StackMap} {from : ℕ} (G : StackMap) → Over base G
      → expressions.Ends around links next cells captures (yielded_piece around l e n) c (Some G ∷ Ls) base from G None
  unfolding effect_of
  yielded l n e h G o =
      expressions.ends around links next cells captures (both (val e n h G o) (both (act_of (one_of_one refl tt G o)) (both (act_of (takes_one refl tt G o)) (move_of (jumps 0 G o refl)))))

  pub generator_ended : (l : ℕ) (e : Exp) (k : ℕ) (t : Tgt) (cs : Clauses) → Target_named around t (0 + 1) []
      → Clauses_named around cs (0 + 1 + target_size t) [] (λ n. Value_named around e n) → {c : Setting} {from : ℕ}
      → Generated (generator_piece around l e k t cs) c from
  generator_ended l e k t cs h i = record {
    sent = _;
    goes = both (in_block {r = Some []} (in_head (both (act_of (takes_next 1 None [] (over_itself []) refl)) (both (to_target t (0 + 1) h (iterator_of None ∷ []) (over_more (iterator_of None) (over_itself [])))
        (clauses around links next cells captures cs l (0 + 1 + target_size t) 1 [] (λ n d. yielded_piece around l e n) (S.a_list e) false
        (λ n d h c Ls base from G o y. yielded l n e h G o) i (iterator_of None ∷ []) (over_more (iterator_of None) (over_itself [])) tt).goes))) refl)
        (next_to (null around links next cells captures [] (over_itself [])) (move_of (returns [] (over_itself []))));
  }
