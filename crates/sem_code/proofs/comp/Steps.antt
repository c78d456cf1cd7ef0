-- One step of the code of a block for one of its control.
use Rattle.std.proofs.Common.{◌≡◌, ℕ, ◌+◌, suc, Bool, true, false, List, [], ◌∷◌, length, Option, Some, None, refl, sym, ap, ◌∙◌, subst}
use Rattle.std.specs.Prelude.{if◌then◌else◌}
use Rattle.pt_base.specs.declared.operators.BinOp.{BinOp}
use Rattle.pt_ranges.specs.declared.handlers.Handler.{Handler}
use Rattle.pt_tree.specs.declared.expression.Constant.TheVariants as constant
use Rattle.pt_tree.specs.declared.statement.Alias.{Alias}
use Rattle.pt_tree.specs.Syntax as S
use Rattle.pt_tree.specs.Syntax.{Name, Exp, Opt, Clauses, Place, Tgt, Tgts, Decorators, Items, Stm, Stms, Branches, Handlers, none, more}
use Rattle.pt_tree.specs.Sizes.{size, target_size, params_size, items_size, stm_size, stms_size, handlers_size}
use Rattle.pt_instr.specs.declared.Instr.TheVariants as instr
use Rattle.pt_code.specs.View.{Ins}
use Rattle.pt_code.specs.declared.Start.{Start}
use Rattle.sem_control.specs.control.Turn as T
use Rattle.sem_control.specs.control.Turn.{Mark, mark, Around, Variable, Operation, Deed, Throw, Test, Note, raised_again, gave, left_by, Reply, got, raised, Turn, act, note, move, over}
use Rattle.sem_control.specs.control.Frames as F
use Rattle.sem_control.specs.control.Frames.{Abrupt, Completion, Nest, Way, Wait, Address, Definition, a_function, a_class, Decorating, Control, for_value, for_leave, for_throw, for_truth, for_iter, for_item, for_entry, closed, noting, silent_deed}
use Rattle.sem_control.specs.control.Bases as bases
use Rattle.sem_control.specs.control.Bases.{base, way_base, around, around_way}
use Rattle.sem_control.specs.control.Numbers.{tested_body, behind_body, for_body, for_else, try_handlers, try_finally, handler_body}
use Rattle.sem_control.specs.control.Expressions.{begin_operation, begin_exp}
use Rattle.sem_control.specs.control.Statements.{at_place, begin_place, begin_store, begin_assign, begin_deletes, begin_imports, begin_imports_from, begin_definition, begin_test, begin_next, begin_stm, begin_all, begin_branches, begin_items, begin_tests, handler_way, all_places, bound_name}
use Rattle.sem_control.specs.control.Completions.{complete, let_go, swallowed, raise_of}
use Rattle.sem_control.specs.control.Control as control
use Rattle.sem_code.specs.slots.Slots as slots
use Rattle.sem_code.specs.slots.Slots.{jump_to, value, iterator, exception, pending, exit, Slot, Slots, State, on, reraises, off, left_of, active}
use Rattle.sem_code.specs.slots.CodeObject.{CodeObject}
use Rattle.sem_code.specs.slots.Landing.{land}
use Rattle.sem_code.specs.slots.Steps.{after, with_item}
use Rattle.sem_code.specs.slots.Instructions.{perform}
use Rattle.sem_code.specs.slots.Machine as machine
use Rattle.sem_code.specs.slots.Machine.{here}
use Rattle.sem_code.specs.comp_expr.Places.{◌⨾◌, count, above, act_mark, ins, Stores, Made_at, Exp_at, Target_at}
use Rattle.sem_code.specs.comp_expr.Law as expressions
use Rattle.sem_code.specs.comp_expr.Law.{On_top, Outer, wait, way, active_at, slots_in}
use Rattle.sem_code.proofs.comp_expr.Steps as steps
use Rattle.sem_code.proofs.comp_expr.Steps.{on_above}
use Rattle.sem_code.specs.comp.Surroundings.{Loop, Surroundings, outermost, in_while, in_for, deeper, under, TakesAll, TakesRaises, end_place, next_place, Ends, Goes_on, as_code, held_as, May, May_hold}
use Rattle.sem_code.specs.comp.Places.{Deletes, Splits, Starts, at_once, behind_nop, never_left, Act_in, Move_in, Null_in, Assigned_at, All_deleted_at, Left_at, Imported_at, Imported_from_at, Definition_at, Decorated_at, Augmented_at, While_at, For_at, Guarded_at, Ensured_at, Handled_at, Taken_at, behind_target, Items_at, Stm_at, All_at, Branches_at, Handlers_at}
use Rattle.sem_code.specs.comp.Law.{Above, level, raised_by, Within, addressed, decorators_above, lines_of, Back_at, Nest_on, at_end, at_rest, at_looping, at_iterating, at_unguarded, at_guarded, at_unensured, at_ensured, at_ending, at_handling, at_naming, at_withing, nest_behind_jump, Inside, inside, alone, in_tests, in_exit, Way_on, at_finished, at_stms, at_branches, at_lets_go, at_unbinds, at_tests, at_binding, at_assigns, at_deletes, at_imports, at_imports_from, at_within_items, at_failed, Waits_on, at_dropped, at_assigned, at_asked, at_asked_back, at_iterated, at_deleted_attribute, at_deleted_item, at_deleted_index, at_changed_attribute, at_changed_item, at_changed_index, at_changing, at_changed, at_given_back, at_returned, at_thrown, at_caused, at_message, at_imported, at_imported_origin, at_imported_name, at_matched, at_entered, at_decorated, at_defined, Waiting, Going, Beyond, Lands, lands, lands_by, Leads, is_there, by_jump, m_within, m_deed, m_leave, m_throw, m_truth, m_iter, m_next, m_entry, m_note, m_over, Comes, there, moves, Same, same_act, same_note, same_over, Follows, WaysGoOn, ActiveAlike, NestsLie, BlocksBegin, LambdasBegin, GeneratorsBegin}
use Rattle.sem_code.proofs.comp.Rows.{shorter, as_under, as_deeper, may_under, may_deeper, raise_in, left_true, left_false, may_swallowed, reaches, all_land, raise_lands, return_passes, jump_passes}

module _ {V : Type 0} (block : Around V) (code : CodeObject V) where
  abbrev C : Control V → State V → Type 0
  C c t = Comes block code c t

  abbrev N : Nest V → Surroundings → Slots V → ℕ → Type 0
  N s x σ p = Nest_on block code s x σ p

  abbrev W : Wait V → Surroundings → Slots V → ℕ → Type 0
  W w x σ p = Waits_on block code w x σ p

  -- the exception that is active in a nest is that of the slots
  busy_alike : (s : Nest V) (x : Surroundings) (σ : Slots V) (p : ℕ) → N s x σ p → active σ ≡ bases.active s
  busy_alike _ _ _ _ (at_end starts p q h) = refl
  busy_alike _ _ _ _ (at_rest n ss s x σ p q h g) = busy_alike s x σ q g
  busy_alike _ _ _ _ (at_looping l n e body els s x σ first next other end' h g) = busy_alike s x σ end' g
  busy_alike _ _ _ _ (at_iterating l n i t body els s x σ first next other end' h g) = busy_alike s x σ end' g
  busy_alike _ _ _ _ (at_unguarded n els s x σ p q h g) = busy_alike s x σ q g
  busy_alike _ _ _ _ (at_guarded l n b y body r els s x σ row p q behind end' a h hj hh g) = busy_alike s x σ end' g
  busy_alike _ _ _ _ (at_unensured tried n s x σ p g) = busy_alike s x σ p g
  busy_alike _ _ _ _ (at_ensured tried n st ss s x σ row p q end' a hn hf he g) = busy_alike s x σ end' g
  busy_alike _ _ _ _ (at_ending tried F.normal s x σ p q m h g) = busy_alike s x σ q g
  busy_alike _ _ _ _ (at_ending tried (F.by (F.raise e)) s x σ p q m h g) = refl
  busy_alike _ _ _ _ (at_ending tried (F.by (F.return v)) s x σ p q m h g) = busy_alike s x σ q g
  busy_alike _ _ _ _ (at_ending tried (F.by F.break) s x σ p q m h g) = busy_alike s x σ q g
  busy_alike _ _ _ _ (at_ending tried (F.by F.continue) s x σ p q m h g) = busy_alike s x σ q g
  busy_alike _ _ _ _ (at_handling n e s x σ p q h g) = refl
  busy_alike _ _ _ _ (at_naming y s x σ row p q a hn h g) = busy_alike s x σ q g
  busy_alike _ _ _ _ (at_withing l n w s x σ row p end' a hn h g) = busy_alike s x σ end' g
  busy_alike _ _ _ _ (nest_behind_jump s x σ p m q h g) = busy_alike s x σ q g

  -- an instruction is done; a move is made
  turned : (p : ℕ) (i : Ins) (σ : Slots V) (t : Turn (State V) V) → code.at p ≡ Some i → perform code p i i.instr σ ≡ t → machine.turn code (on p σ) ≡ t
  turned p i σ t h e = ap (λ o. here code p o σ) h ∙ e

  moved : (c : Control V) (p : ℕ) (i : Ins) (σ : Slots V) (u : State V) → code.at p ≡ Some i → perform code p i i.instr σ ≡ move u → C c u → C c (on p σ)
  moved c p i σ u h e k = moves c (on p σ) u (turned p i σ (move u) h e) k

  null_moves : (c : Control V) (x : Surroundings) (p q : ℕ) (σ : Slots V) → Null_in block code x p q → C c (on q (value block.null ∷ σ)) → C c (on p σ)
  null_moves c x p q σ h k = moved c p _ σ _ h.stands (h.does σ) k

  start_moves : (c : Control V) (x : Surroundings) (p q : ℕ) (σ : Slots V) → Starts block code x.rows p q → C c (on q σ) → C c (on p σ)
  start_moves c x _ _ σ (at_once p) k = k
  start_moves c x _ _ σ (behind_nop p q h) k = moved c p _ σ (on q σ) h refl k
  start_moves c x _ _ σ (never_left p m q b h hs) k =
      moved c p _ σ _ h.stands (h.does σ) (moved c m _ (value (code.truth b) ∷ σ) _ hs.stands (hs.does σ) k)

  from_here : (s : Nest V) (x : Surroundings) (σ : Slots V) (p : ℕ) → N s x σ p → Inside block code s x σ
  from_here s x σ p g = inside s x σ σ p g level

  by_wait : (w : Wait V) (x : Surroundings) (σ : Slots V) (p : ℕ) → W w x σ p → Beyond block code (wait w) x.rows σ p
  by_wait w x σ p k = record { surroundings = x; same_rows = refl; stands = k }

  by_way : (k : Way V) (x : Surroundings) (σ : Slots V) (p : ℕ) → Way_on block code k x σ p → active σ ≡ bases.active (way_base k)
      → Beyond block code (way k) x.rows σ p
  by_way k x σ p h a = record { surroundings = x; same_rows = refl; stands = h; same_active = a }

  within_here : (s : Nest V) (x : Surroundings) (σ : Slots V) (p : ℕ) → N s x σ p → Within block code s x σ
  within_here s x σ p g = record { stands = from_here s x σ p g; same_active = busy_alike s x σ p g }

  -- an expression of a statement begins, or an operation on values that are there
  within : (outer : Outer V) (rows : List Handler) (σ : Slots V) (p : ℕ) (c : Control V) (t : State V)
      → expressions.Nears block code rows outer σ p c t → Beyond block code outer rows σ p → C c t
  within outer rows σ p _ _ (expressions.there c t m) b = there c t (m_within outer rows σ p c t b m)
  within outer rows σ p _ _ (expressions.moves c t u e k) b = moves c t u e (within outer rows σ p c u k b)

  value_comes : (w : Wait V) (x : Surroundings) (σ : Slots V) (p q : ℕ) (e : Exp) (n : ℕ) (g : Bool)
      → Exp_at block code x.rows e n g (around w) p q → W w x σ q → C (begin_exp block e n g w) (on p σ)
  value_comes w x σ p q e n g h k = within (wait w) x.rows σ q _ _ (steps.begins block code x.rows w σ q e n g p h) (by_wait w x σ q k)

  operation_comes : (w : Wait V) (x : Surroundings) (σ : Slots V) (p q : ℕ) (xs : List Variable) (op : Operation) (l n : ℕ) (vs : List V)
      → Made_at block code x.rows xs op above l n false (count vs) 0 p q → W w x σ q → C (begin_operation block xs l n false op vs w) (on p (above vs σ))
  operation_comes w x σ p q xs op l n vs h k = within (wait w) x.rows σ q _ _
      (steps.made_comes block code x.rows (wait w) σ q xs op above l n false [] vs vs w σ p q h refl (on_above vs σ) (expressions.at_end w refl)) (by_wait w x σ q k)

  store_comes : (k : Way V) (x : Surroundings) (σ : Slots V) (p q : ℕ) (t : Tgt) (v : V) (n : ℕ)
      → Target_at block code x.rows t n (around_way k) p q → Way_on block code k x σ q → active σ ≡ bases.active (way_base k) → C (begin_store block t v n k) (on p (value v ∷ σ))
  store_comes k x σ p q t v n h g a = within (way k) x.rows σ q _ _ (steps.begins_to_store block code x.rows k σ q t v n p h) (by_way k x σ q g a)

  -- an act that asks for something to be done, and what only raises
  deed_comes : (m : Option Mark) (d : Deed V) (k : Way V) (s : Nest V) (x : Surroundings) (p : ℕ) (i : Ins) (σ τ : Slots V) (u : State V) (c : Control V)
      → code.at p ≡ Some i → perform code p i i.instr σ ≡ act m (T.deed d) (after code i τ (λ r. u))
      → control.turn block c ≡ act m (T.deed d) (control.after_deed block k s) → i.rows ≡ x.rows → Above τ σ → Inside block code s x τ → Lands block code k u
      → active σ ≡ control.context_at c → control.nest_at c ≡ s → C c (on p σ)
  deed_comes m d k s x p i σ τ u c h e ec er up g hk a en = there c (on p σ) (m_deed m d k s x (on p σ) i τ u c (turned p i σ _ h e) ec er up g hk a en)

  -- 7.2
  assigned_comes : (v : V) (ts : Tgts) (n : ℕ) (s : Nest V) (x : Surroundings) (σ : Slots V) (p q : ℕ) (c : Control V)
      → Assigned_at block code ts n x p q → N s x σ q → C c (on q σ) → C (begin_assign block v ts n s c) (on p (value v ∷ σ))
  assigned_comes v S.no_targets n s x σ p q c h g a = moved c p _ (value v ∷ σ) (on q σ) h refl a
  assigned_comes v (S.more_targets t S.no_targets) n s x σ p q c h g a = store_comes (F.finished s) x σ p q t v n h (at_finished s x σ q g) (busy_alike s x σ q g)
  assigned_comes v (S.more_targets t (S.more_targets u ts)) n s x σ p q c (m, hc, (m', ht, hts)) g a =
      moved _ p _ (value v ∷ σ) (on m (value v ∷ value v ∷ σ)) hc refl
      (store_comes (F.assigns (n + target_size t) v (S.more_targets u ts) s) x (value v ∷ σ) m m' t v n ht
      (at_assigns (n + target_size t) v (S.more_targets u ts) s x σ m' q hts g) (busy_alike s x σ q g))

  -- 7.2.1
  augmented_comes : (a : Place) (o : BinOp) (e : Exp) (l n : ℕ) (s : Nest V) (x : Surroundings) (σ : Slots V) (p q : ℕ)
      → Augmented_at block code a o e l n x p q → N s x σ q → C (begin_place block a n (F.changing_by l o e s)) (on p σ)
  augmented_comes (S.name_at k y) o e l n s x σ p q (m, h, hc) g =
      value_comes (F.changing l (n + 1) k (F.a_name y) o e s) x σ p m (S.name k y) n false h (at_changing l (n + 1) k (F.a_name y) o e s x σ m q hc g)
  augmented_comes (S.attribute_at k a y) o e l n s x σ p q (m, ha, h) g =
      value_comes (F.of_attribute k (n + size a) y (F.changing_by l o e s)) x σ p m a n false ha (at_changed_attribute k (n + size a) l y o e s x σ m q h g)
  augmented_comes (S.item_at k a i) o e l n s x σ p q (m, ha, h) g =
      value_comes (F.of_item k (n + size a) i (F.changing_by l o e s)) x σ p m a n false ha (at_changed_item k (n + size a) l i o e s x σ m q h g)

  -- 7.5
  deletes_come : (ps : List Place) (n : ℕ) (s : Nest V) (x : Surroundings) (σ : Slots V) (p q : ℕ) (c : Control V)
      → All_deleted_at block code ps n x p q → N s x σ q → C c (on q σ) → C (begin_deletes block ps n s c) (on p σ)
  deletes_come [] n s x σ p q c h g a = subst (λ r. C c (on r σ)) (sym h) a
  deletes_come (S.name_at l y ∷ ps) n s x σ p q c (m, h, hs) g a =
      deed_comes (Some (mark n l false)) _ (F.deletes (n + 1) ps s) s x p _ σ σ (on m σ) _ h.stands (h.does σ) refl refl level (from_here s x σ q g)
      (lands _ x σ m (at_deletes (n + 1) ps s x σ m q hs g)) (busy_alike s x σ q g) refl
  deletes_come (S.attribute_at l b y ∷ ps) n s x σ p q c (m, (m', hb, h), hs) g a =
      value_comes (F.of_attribute l (n + size b) y (F.deleting (F.deletes (n + (size b + 1)) ps s))) x σ p m' b n false hb
      (at_deleted_attribute l (n + size b) y _ x σ m' m h (at_deletes _ ps s x σ m q hs g) (busy_alike s x σ q g))
  deletes_come (S.item_at l b i ∷ ps) n s x σ p q c (m, (m', hb, h), hs) g a =
      value_comes (F.of_item l (n + size b) i (F.deleting (F.deletes (n + (size b + size i + 1)) ps s))) x σ p m' b n false hb
      (at_deleted_item l (n + size b) i _ x σ m' m h (at_deletes _ ps s x σ m q hs g) (busy_alike s x σ q g))

  -- 7.11
  imports_come : (xs : List Alias) (l n : ℕ) (s : Nest V) (x : Surroundings) (σ : Slots V) (p q : ℕ) (c : Control V)
      → Imported_at block code xs l n x p q → N s x σ q → C c (on q σ) → C (begin_imports block l n xs s c) (on p σ)
  imports_come [] l n s x σ p q c h g a = subst (λ r. C c (on r σ)) (sym h) a
  imports_come (b ∷ bs) l n s x σ p q c (m, hi, h) g a =
      operation_comes (F.imported l (n + 1) (bound_name b) bs s) x σ p m [] _ l n [] hi (at_imported l (n + 1) (bound_name b) bs s x σ m q h g)

  imports_from_come : (xs : List Alias) (l n : ℕ) (o : V) (s : Nest V) (x : Surroundings) (σ : Slots V) (p q : ℕ) (c : Control V)
      → Imported_from_at block code xs l n x p q → N s x σ q → C c (on q σ) → C (begin_imports_from block l n xs o s c) (on p (value o ∷ σ))
  imports_from_come [] l n o s x σ p q c h g a = moved c p _ (value o ∷ σ) (on q σ) h refl a
  imports_from_come (b ∷ bs) l n o s x σ p q c (m, hi, h) g a =
      within (wait (F.imported_name l (n + 1) (bound_name b) bs o s)) x.rows (value o ∷ σ) m _ _
      (expressions.there _ _ (expressions.m_value (mark n l false) _ _ (on p (value o ∷ σ)) (ins hi.instr (act_mark p n l false) m x.rows) (value o ∷ σ) (value o ∷ σ) m
      (turned p _ (value o ∷ σ) _ hi.stands (hi.does o σ)) (record { same_rows = refl; on_top = expressions.same }) expressions.same (expressions.at_end _ refl)))
      (by_wait _ x (value o ∷ σ) m (at_imported_name l (n + 1) (bound_name b) bs o s x σ m q h g))

  -- 8.7, 8.8
  definition_comes : (what : Definition) (calls : List (Decorating V)) (l n : ℕ) (y : Name) (s : Nest V) (x : Surroundings) (σ : Slots V) (p q : ℕ)
      → Definition_at block code what (lines_of calls) l n y x p q → N s x σ q
      → C (begin_definition block l n y what calls s) (on p (decorators_above calls σ))
  definition_comes (a_function b (S.parameters ps st ks d)) calls l n y s x σ p q (m, h, hb) g =
      value_comes (F.defined l (n + params_size (S.parameters ps st ks d) + 1) y calls s) x (decorators_above calls σ) p m
      (S.lambda l b (S.parameters ps st ks d) (S.constant l constant.None)) n false h (at_defined l _ y calls s x σ m q hb g)
  definition_comes (a_class b S.absent) calls l n y s x σ p q (m, hn, (m', h, hb)) g =
      null_moves _ x p m (decorators_above calls σ) hn
      (operation_comes (F.defined l (n + 1) y calls s) x (decorators_above calls σ) m m' (block.captured b) (T.class b) l n (block.null ∷ []) h
      (at_defined l (n + 1) y calls s x σ m' q hb g))
  definition_comes (a_class b (S.given e)) calls l n y s x σ p q (m, he, (m', h, hb)) g =
      within (wait (F.defined l (n + size e + 1) y calls s)) x.rows (decorators_above calls σ) m' _ _
      (steps.begin_exp_comes block code x.rows (wait (F.defined l (n + size e + 1) y calls s)) (decorators_above calls σ) m' e n false _ (decorators_above calls σ) p m he
      (expressions.at_operands l (n + size e) (T.class b) [] [] _ (decorators_above calls σ) m m' h (expressions.at_end _ refl)))
      (by_wait _ x (decorators_above calls σ) m' (at_defined l (n + size e + 1) y calls s x σ m' q hb g))

  decorated_comes : (ds : Decorators) (what : Definition) (v : V) (before : List (Decorating V)) (k l n : ℕ) (y : Name) (s : Nest V) (x : Surroundings) (σ : Slots V) (p q : ℕ)
      → Decorated_at block code ds what k (lines_of before) l n y x p q → N s x σ q
      → C (control.deliver block v (F.decorated k n before ds l y what s)) (on p (value v ∷ decorators_above before σ))
  decorated_comes S.no_decorators what v before k l n y s x σ p q h g = definition_comes what (record { line = k; value = v } ∷ before) l n y s x σ p q h g
  decorated_comes (S.decorator j e r) what v before k l n y s x σ p q (m, he, h) g =
      value_comes (F.decorated j (n + size e) (record { line = k; value = v } ∷ before) r l y what s) x (value v ∷ decorators_above before σ) p m e n false he
      (at_decorated j (n + size e) (record { line = k; value = v } ∷ before) r l y what s x σ m q h g)

  -- 8.2, 8.3
  retest_comes : (l n : ℕ) (e : Exp) (body els : Stms) (s : Nest V) (x : Surroundings) (σ : Slots V) (first next other end' : ℕ)
      → While_at block code l n e (All_at block code body (tested_body n e)) (All_at block code els (behind_body n e body) x) x first next other end'
      → N s x σ end' → C (begin_test block l n true e body els s) (on next σ)
  retest_comes l n e body els s x σ first next other end' (rn, re, hb, (m, hc, hj), ho) g =
      value_comes _ x σ next m e n true hc
      (at_asked_back l (n + size e) _ _ x (in_while next end' x) σ m other first hj
      (at_stms (tested_body n e) body _ (in_while next end' x) σ first next hb
      (at_looping l n e body els s x σ first next other end' (rn, re, hb, (m, hc, hj), ho) g))
      (at_stms (behind_body n e body) els s x σ other end' ho g) (busy_alike s x σ end' g))

  next_comes : (l n : ℕ) (i : V) (t : Tgt) (body els : Stms) (s : Nest V) (x : Surroundings) (σ : Slots V) (first next other end' : ℕ)
      → For_at block code l n t (All_at block code body (for_body n t)) (All_at block code els (for_else n t body) x) x first next other end'
      → N s x σ end' → C (begin_next block l n true i t body els s) (on next (iterator i ∷ σ))
  next_comes l n i t body els s x σ first next other end' (rn, re, hb, (m, hn, hj), ho) g =
      there _ _ (m_next (mark n l true) i l n t body els s x (on next (iterator i ∷ σ)) (ins (instr.Next (record { 0 = other })) (act_mark next n l true) m x.rows) σ first next other end'
      (turned next _ (iterator i ∷ σ) _ hn refl) refl level (by_jump m other first hj) (rn, re, hb, (m, hn, hj), ho) g refl)

  -- 7.9, 7.10
  break_comes : (o : Option Loop) (n l : ℕ) (s : Nest V) (x : Surroundings) (σ : Slots V) (p q r : ℕ) → o ≡ x.loop
      → Left_at block code o (λ a. a.end) (λ a. a.end_depth) n l x p r → N s x σ q → C (for_leave (mark n l false) F.break s) (on p σ)
  break_comes None n l s x σ p q r e h g = elim h [ ]
  break_comes (Some a) n l s x σ p q r e (d, h) g =
      there _ _ (m_leave (mark n l false) F.break s x (on p σ) (ins (instr.Leave (record { 0 = a.end })) (act_mark p n l false) r x.rows) σ
      (turned p _ σ _ h refl ∙ ap (λ o. act (Some (mark n l false)) (T.leave T.jumping) (after code (ins (instr.Leave (record { 0 = a.end })) (act_mark p n l false) r x.rows) σ (λ u. land code x.rows (jump_to (end_place o)) σ))) e)
      refl level (subst (λ o. Ends code o) e d) (from_here s x σ q g) (busy_alike s x σ q g))

  continue_comes : (o : Option Loop) (n l : ℕ) (s : Nest V) (x : Surroundings) (σ : Slots V) (p q r : ℕ) → o ≡ x.loop
      → Left_at block code o (λ a. a.next) (λ a. a.next_depth) n l x p r → N s x σ q → C (for_leave (mark n l false) F.continue s) (on p σ)
  continue_comes None n l s x σ p q r e h g = elim h [ ]
  continue_comes (Some a) n l s x σ p q r e (d, h) g =
      there _ _ (m_leave (mark n l false) F.continue s x (on p σ) (ins (instr.Leave (record { 0 = a.next })) (act_mark p n l false) r x.rows) σ
      (turned p _ σ _ h refl ∙ ap (λ o. act (Some (mark n l false)) (T.leave T.jumping) (after code (ins (instr.Leave (record { 0 = a.next })) (act_mark p n l false) r x.rows) σ (λ u. land code x.rows (jump_to (next_place o)) σ))) e)
      refl level (subst (λ o. Goes_on code o) e d) (from_here s x σ q g) (busy_alike s x σ q g))

  nothing_comes : (l n : ℕ) (k : Way V) (s : Nest V) (x : Surroundings) (σ : Slots V) (p q : ℕ) → Act_in block code x instr.Nop n l p q → Inside block code s x σ
      → Lands block code k (on q σ) → active σ ≡ bases.active s → C (F.for_deed (mark n l false) T.nothing k s) (on p σ)
  nothing_comes l n k s x σ p q h g hk a = deed_comes (Some (mark n l false)) T.nothing k s x p _ σ σ (on q σ) _ h refl refl refl level g hk a refl

  -- 8.4: the body of a `try` begins
  guarded_lands : (hs : Handlers) (n : ℕ) (body els : Stms) (s : Nest V) (x : Surroundings) (σ : Slots V) (p q : ℕ)
      → Guarded_at block code hs (All_at block code body (n + 1)) (All_at block code els (try_handlers n body + handlers_size hs))
      (Handlers_at block code hs (try_handlers n body)) x p q → N s x σ q
      → Lands block code (F.stms (n + 1) body (F.guarded (try_handlers n body) hs els ∷ s)) (on p σ)
  guarded_lands S.no_handlers n body els s x σ p q (m, hb, he) g =
      lands _ x σ p (at_stms (n + 1) body _ x σ p m hb (at_unguarded (try_handlers n body) els s x σ m q he g))
  guarded_lands (S.handler l c y b r) n body els s x σ p q (row, behind, a, (m, hb, (m', he, hj)), hh) g =
      lands _ (under row x) σ p (at_stms (n + 1) body _ (under row x) σ p m hb
      (at_guarded l (try_handlers n body) c y b r els s x σ row m m' behind q a he hj hh g))

  ensured_lands : (fin : Stms) (hs : Handlers) (tried k n : ℕ) (body els : Stms) (s : Nest V) (x : Surroundings) (σ : Slots V) (p q : ℕ)
      → Ensured_at block code fin (All_at block code fin k)
      (Guarded_at block code hs (All_at block code body (n + 1)) (All_at block code els (try_handlers n body + handlers_size hs)) (Handlers_at block code hs (try_handlers n body))) x p q
      → N s x σ q → Lands block code (F.stms (n + 1) body (F.guarded (try_handlers n body) hs els ∷ F.ensuring tried k fin ∷ s)) (on p σ)
  ensured_lands none hs tried k n body els s x σ p q h g =
      guarded_lands hs n body els (F.ensuring tried k none ∷ s) x σ p q h (at_unensured tried k s x σ q g)
  ensured_lands (more st ss) hs tried k n body els s x σ p q (row, a, (m, h, hn), (m', hf, he)) g =
      guarded_lands hs n body els (F.ensuring tried k (more st ss) ∷ s) (under row x) σ p m h (at_ensured tried k st ss s x σ row m m' q a hn hf he g)

  -- statements begin; where they have no act, control goes on as it does behind them
  mutual
    begin_stm_comes : (st : Stm) (n : ℕ) (s : Nest V) (x : Surroundings) (σ : Slots V) (p q : ℕ) (c : Control V)
        → Stm_at block code st n x p q → N s x σ q → C c (on q σ) → C (begin_stm block st n s c) (on p σ)
    begin_stm_comes (S.expr l e) n s x σ p q c (m, he, h) g a = value_comes (F.dropped l (n + size e) s) x σ p m e n false he (at_dropped l _ s x σ m q h g)
    begin_stm_comes (S.assign l ts e) n s x σ p q c (m, he, h) g a = value_comes (F.assigned (n + size e) ts s) x σ p m e n false he (at_assigned _ ts s x σ m q h g)
    begin_stm_comes (S.augmented l t o e) n s x σ p q c h g a = augmented_comes t o e l n s x σ p q h g
    begin_stm_comes (S.annotated l t b S.absent) n s x σ p q c h g a =
        nothing_comes l n (F.finished s) s x σ p q h (from_here s x σ q g) (lands _ x σ q (at_finished s x σ q g)) (busy_alike s x σ q g)
    begin_stm_comes (S.annotated l t b (S.given e)) n s x σ p q c (m, he, h) g a =
        value_comes (F.assigned (n + size e) (S.more_targets (S.single t) S.no_targets) s) x σ p m e n false he (at_assigned _ _ s x σ m q h g)
    begin_stm_comes (S.assert l e b) n s x σ p q c (m, he, (m', hj, hf)) g a =
        value_comes (F.asked l (n + size e) (F.finished s) (F.failed l (n + size e + 1) b s)) x σ p m e n false he
        (at_asked_back l (n + size e) _ _ x x σ m m' q hj (at_finished s x σ q g) (at_failed l _ b s x σ m' q hf (within_here s x σ q g)) (busy_alike s x σ q g))
    begin_stm_comes (S.pass l) n s x σ p q c h g a =
        nothing_comes l n (F.finished s) s x σ p q h (from_here s x σ q g) (lands _ x σ q (at_finished s x σ q g)) (busy_alike s x σ q g)
    begin_stm_comes (S.del l ts) n s x σ p q c h g a = deletes_come (all_places ts) n s x σ p q c h g a
    begin_stm_comes (S.return l S.absent) n s x σ p q c (m, hn, h) g a =
        null_moves _ x p m σ hn (there _ _ (m_leave (mark n l false) (F.return block.null) s x (on m (value block.null ∷ σ)) (ins instr.Return (act_mark m n l false) q x.rows) σ
        (turned m _ (value block.null ∷ σ) _ h refl) refl (raised_by _ _ level) tt (from_here s x σ q g) (busy_alike s x σ q g)))
    begin_stm_comes (S.return l (S.given e)) n s x σ p q c (m, he, h) g a =
        value_comes (F.returned_by l (n + size e) s) x σ p m e n false he (at_returned l _ s x σ m q h (within_here s x σ q g))
    begin_stm_comes (S.raise l e b) n s x σ p q c (m, he, h) g a =
        value_comes (F.thrown l (n + size e) b s) x σ p m e n false he (at_thrown l _ b s x σ m q h (within_here s x σ q g))
    begin_stm_comes (S.raise_again l) n s x σ p q c h g a =
        there _ _ (m_throw (mark n l false) T.raising_again s x (on p σ) (ins instr.RaiseAgain (act_mark p n l false) q x.rows) σ (turned p _ σ _ h refl) refl level (from_here s x σ q g) (busy_alike s x σ q g))
    begin_stm_comes (S.break l) n s x σ p q c h g a = break_comes x.loop n l s x σ p q q refl h g
    begin_stm_comes (S.continue l) n s x σ p q c h g a = continue_comes x.loop n l s x σ p q q refl h g
    begin_stm_comes (S.import l xs) n s x σ p q c h g a = imports_come xs l n s x σ p q c h g a
    begin_stm_comes (S.import_from l o xs) n s x σ p q c (m, hi, h) g a =
        operation_comes (F.imported_origin l (n + 1) xs s) x σ p m [] _ l n [] hi (at_imported_origin l (n + 1) xs s x σ m q h g)
    begin_stm_comes (S.global l xs) n s x σ p q c h g a = subst (λ r. C c (on r σ)) (sym h) a
    begin_stm_comes (S.nonlocal l xs) n s x σ p q c h g a = subst (λ r. C c (on r σ)) (sym h) a
    begin_stm_comes (S.choice l S.no_branches els) n s x σ p q c h g a = begin_all_comes els n s x σ p q c h g a
    begin_stm_comes (S.choice l (S.branch k e body r) els) n s x σ p q c (other, (m, he, (m', hj, (m2, hb, out))), hr) g a =
        value_comes (F.asked k (n + size e) (F.stms (tested_body n e) body s) (F.branches (behind_body n e body) r els s)) x σ p m e n false he
        (at_asked k (n + size e) _ _ x x σ m m' other hj
        (at_stms (tested_body n e) body s x σ m' m2 hb (nest_behind_jump s x σ m2 other q out g)) (at_branches (behind_body n e body) r els s x σ other q hr g) (busy_alike s x σ q g))
    begin_stm_comes (S.while l e body els) n s x σ p q c (first, next, other, (m, he, hj), (rn, re, hb, ht, ho)) g a =
        value_comes (F.asked l (n + size e) (F.stms (tested_body n e) body (F.looping l n e body els ∷ s)) (F.stms (behind_body n e body) els s)) x σ p m e n false he
        (at_asked l (n + size e) _ _ x (in_while next q x) σ m first other hj
        (at_stms (tested_body n e) body _ (in_while next q x) σ first next hb
        (at_looping l n e body els s x σ first next other q (rn, re, hb, ht, ho) g))
        (at_stms (behind_body n e body) els s x σ other q ho g) (busy_alike s x σ q g))
    begin_stm_comes (S.for l t it body els) n s x σ p q c (first, next, other, (m, hi, (m', ht, hn)), h) g a =
        value_comes (F.iterated l (n + size it) (F.for_over l (n + size it + 1) t body els s)) x σ p m it n false hi
        (at_iterated l (n + size it) (n + size it + 1) l t body els s x σ m m' first next other q ht hn h g)
    begin_stm_comes (S.try l body hs els fin) n s x σ p q c (m, hn, h) g a =
        nothing_comes l n _ s x σ p m hn (from_here s x σ q g) (ensured_lands fin hs n (try_finally n body hs els) n body els s x σ m q h g) (busy_alike s x σ q g)
    begin_stm_comes (S.with l S.no_items body) n s x σ p q c h g a = begin_all_comes body n s x σ p q c h g a
    begin_stm_comes (S.with l (S.with_item k e t r) body) n s x σ p q c (row, b, (m, he, h), hx) g a =
        value_comes (F.entered k (n + size e) t r body s) x σ p m e n false he (at_entered k (n + size e) t r body s x σ row m q b h hx g)
    begin_stm_comes (S.def l S.no_decorators k b y ps r body) n s x σ p q c h g a = definition_comes (a_function b ps) [] k n y s x σ p q h g
    begin_stm_comes (S.def l (S.decorator j e ds) k b y ps r body) n s x σ p q c (m, he, h) g a =
        value_comes (F.decorated j (n + size e) [] ds k y (a_function b ps) s) x σ p m e n false he (at_decorated j (n + size e) [] ds k y (a_function b ps) s x σ m q h g)
    begin_stm_comes (S.class l S.no_decorators k b y o body) n s x σ p q c h g a = definition_comes (a_class b o) [] k n y s x σ p q h g
    begin_stm_comes (S.class l (S.decorator j e ds) k b y o body) n s x σ p q c (m, he, h) g a =
        value_comes (F.decorated j (n + size e) [] ds k y (a_class b o) s) x σ p m e n false he (at_decorated j (n + size e) [] ds k y (a_class b o) s x σ m q h g)
    begin_stm_comes (S.docstring l) n s x σ p q c h g a = subst (λ r. C c (on r σ)) (sym h) a

    begin_all_comes : (ss : Stms) (n : ℕ) (s : Nest V) (x : Surroundings) (σ : Slots V) (p q : ℕ) (c : Control V)
        → All_at block code ss n x p q → N s x σ q → C c (on q σ) → C (begin_all block ss n s c) (on p σ)
    begin_all_comes none n s x σ p q c h g a = subst (λ r. C c (on r σ)) (sym h) a
    begin_all_comes (more st ss) n s x σ p q c (hst, (m, hs, (m', h, hr))) g a =
        start_moves _ x p m σ hs
        (begin_stm_comes st n (F.rest (n + stm_size st) ss ∷ s) x σ m m' _ h (at_rest (n + stm_size st) ss s x σ m' q hr g)
        (begin_all_comes ss (n + stm_size st) s x σ m' q c hr g a))

  branches_come : (bs : Branches) (els : Stms) (n : ℕ) (s : Nest V) (x : Surroundings) (σ : Slots V) (p q : ℕ) (c : Control V)
      → Branches_at block code bs (λ m. All_at block code els m x) n x p q → N s x σ q → C c (on q σ) → C (begin_branches block bs els n s c) (on p σ)
  branches_come S.no_branches els n s x σ p q c h g a = begin_all_comes els n s x σ p q c h g a
  branches_come (S.branch k e body r) els n s x σ p q c h g a = begin_stm_comes (S.choice k (S.branch k e body r) els) n s x σ p q c h g a

  items_come : (is : Items) (body : Stms) (n : ℕ) (s : Nest V) (x : Surroundings) (σ : Slots V) (p q : ℕ) (c : Control V)
      → Items_at block code is (All_at block code body) (stms_size body) n x p q → N s x σ q → C c (on q σ) → C (begin_items block is body n s c) (on p σ)
  items_come S.no_items body n s x σ p q c h g a = begin_all_comes body n s x σ p q c h g a
  items_come (S.with_item k e t r) body n s x σ p q c h g a = begin_stm_comes (S.with k (S.with_item k e t r) body) n s x σ p q c h g a

  -- 8.4.1: the body of a handler begins, and handlers are tried; where none is left control comes as it does behind them
  handled_lands : (l n : ℕ) (y : Option Name) (body : Stms) (e : V) (s : Nest V) (x : Surroundings) (σ : Slots V) (p q end' : ℕ)
      → Handled_at block code l n y (All_at block code body) end' x p q → N s x σ end' → Lands block code (handler_way block l n y body e s) (on p (exception e ∷ σ))
  handled_lands l n None body e s x σ p q end' (m, hc, (m1, hp, (m2, hb, (m3, hend, hj)))) g =
      lands_by _ _ _ (turned p _ (exception e ∷ σ) _ hc refl)
      (lands_by _ _ _ (turned m _ (value e ∷ exception e ∷ σ) _ hp refl)
      (lands _ (deeper x) (exception e ∷ σ) m1 (at_stms (n + 1) body _ (deeper x) (exception e ∷ σ) m1 m2 hb
      (at_handling n e s x σ m2 m3 hend (nest_behind_jump s x σ m3 q end' hj g)))))
  handled_lands l n (Some y) body e s x σ p q end' (row, b, (m, hc, (m1, hst, (m2, hb, hno))), (m3, hn, (m4, hs, (m5, hd, (m6, hf, (m7, hend, hj)))))) g =
      let k = at_handling n e s x σ m6 m7 hend (nest_behind_jump s x σ m7 q end' hj g) in
      lands _ (deeper x) (exception e ∷ σ) p
      (at_binding l (n + 1) y e _ (F.handling n e ∷ s) (deeper x) (under row (deeper x)) σ p m m1 hc hst
      (at_stms (n + 1 + 1) body _ (under row (deeper x)) (exception e ∷ σ) m1 m2 hb
      (at_naming y (F.handling n e ∷ s) (deeper x) (exception e ∷ σ) row m2 m6 b hno (m3, hn, (m4, hs, (m5, hd, hf))) k))
      (within_here (F.handling n e ∷ s) (deeper x) (exception e ∷ σ) m6 k))

  split_lands : (k : Way V) (x : Surroundings) (σ : Slots V) (b : Bool) (p q other : ℕ) → Splits block code x.rows other p q
      → Lands block code k (on (if b then q else other) σ) → Lands block code k (on p (value (code.truth b) ∷ σ))
  split_lands k x σ b p q other h g = lands_by k _ _ (turned p _ (value (code.truth b) ∷ σ) _ h.stands (h.does b σ)) g

  tests_come : (hs : Handlers) (k n : ℕ) (e : V) (s : Nest V) (x : Surroundings) (σ : Slots V) (p end' : ℕ) (c : Control V)
      → Handlers_at block code hs n end' x p → N s x σ end' → ((p q : ℕ) → Move_in block code x instr.Rethrow p q → C c (on p (exception e ∷ σ)))
      → C (begin_tests block k hs n e s c) (on p (exception e ∷ σ))
  tests_come S.no_handlers k n e s x σ p end' c (q, h) g f = f p q h
  tests_come (S.handler l S.absent y body r) k n e s x σ p end' c (other, (m, hn, (m1, hm, (m2, hs, hh))), hr) g f =
      null_moves _ x p m (exception e ∷ σ) hn
      (there _ _ (m_truth (mark n l false) (T.matches e block.null) _ _ (F.testing k e ∷ s) x (on m (value block.null ∷ exception e ∷ σ)) (ins instr.Match (act_mark m n l false) m1 x.rows) (exception e ∷ σ) _
      (turned m _ (value block.null ∷ exception e ∷ σ) _ hm refl) refl (raised_by _ _ level)
      (in_tests k e s x σ (exception e ∷ σ) end' g level)
      (split_lands _ x (exception e ∷ σ) true m1 m2 other hs (handled_lands l n y body e s x σ m2 other end' hh g))
      (split_lands _ x (exception e ∷ σ) false m1 m2 other hs (lands _ x (exception e ∷ σ) other (at_tests k _ r e s x σ other end' hr g))) refl))
  tests_come (S.handler l (S.given b) y body r) k n e s x σ p end' c (other, (m, hb, (m1, hm, (m2, hs, hh))), hr) g f =
      value_comes (F.matched l k (n + size b) e (handler_way block l (n + size b) y body e s) (F.tests k (handler_body (n + size b) y + stms_size body) r e s))
      x (exception e ∷ σ) p m b n false hb
      (at_matched l k (n + size b) _ e _ r s x σ m m1 m2 other end' hm hs (handled_lands l (n + size b) y body e s x σ m2 other end' hh g)
      hr g)

  -- how many slots lie below
  pub depth : (s : Nest V) (x : Surroundings) (σ : Slots V) (p : ℕ) → N s x σ p → length σ ≡ x.depth
  depth _ _ _ _ (at_end starts p q h) = refl
  depth _ _ _ _ (at_rest n ss s x σ p q h g) = depth s x σ q g
  depth _ _ _ _ (at_looping l n e body els s x σ first next other end' h g) = depth s x σ end' g
  depth _ _ _ _ (at_iterating l n i t body els s x σ first next other end' h g) = ap (λ d. suc d) (depth s x σ end' g)
  depth _ _ _ _ (at_unguarded n els s x σ p q h g) = depth s x σ q g
  depth _ _ _ _ (at_guarded l n b y body r els s x σ row p q behind end' a h hj hh g) = depth s x σ end' g
  depth _ _ _ _ (at_unensured tried n s x σ p g) = depth s x σ p g
  depth _ _ _ _ (at_ensured tried n st ss s x σ row p q end' a hn hf he g) = depth s x σ end' g
  depth _ _ _ _ (at_ending tried held s x σ p q m h g) = ap (λ d. suc d) (depth s x σ q g)
  depth _ _ _ _ (at_handling n e s x σ p q h g) = ap (λ d. suc d) (depth s x σ q g)
  depth _ _ _ _ (at_naming y s x σ row p q a hn h g) = depth s x σ q g
  depth _ _ _ _ (at_withing l n w s x σ row p end' a hn h g) = ap (λ d. suc d) (depth s x σ end' g)
  depth _ _ _ _ (nest_behind_jump s x σ p m q h g) = depth s x σ q g

  -- how a completion goes on from a place: one that is normal, and any other one
  pub record Both (s : Nest V) (x : Surroundings) (σ : Slots V) (p : ℕ) : Type 0 where
    pub normally : C (complete block F.normal s) (on p σ)
    pub abruptly : (a : Abrupt V) → May code a x → (τ : Slots V) → Above σ τ → C (complete block (F.by a) s) (land code x.rows (as_code a x) τ)

  -- the end of a `finally` part lets go on what it holds
  reraised : (v : V) (s : Nest V) (x : Surroundings) (σ : Slots V) → Within block code s x σ → C (let_go block (F.by (F.raise v)) s) (reraises v x.rows σ)
  reraised v s x σ g = there _ _ (m_note v s x x.rows σ refl g.stands g.same_active)

  goes_on : (held : Completion V) (s : Nest V) (x : Surroundings) (σ : Slots V) (p q : ℕ) → May_hold code held x → Move_in block code x instr.EndFinally p q
      → N s x σ q → Both s x σ q → C (let_go block held s) (on p (pending (held_as held x) ∷ σ))
  goes_on F.normal s x σ p q m h g b = moved _ p _ (pending slots.normal ∷ σ) (on q σ) h refl b.normally
  goes_on (F.by (F.raise v)) s x σ p q m h g b =
      moved _ p _ (pending (slots.by (slots.raise v)) ∷ σ) (reraises v x.rows σ) h refl (reraised v s x σ (within_here s x σ q g))
  goes_on (F.by (F.return v)) s x σ p q m h g b = moved _ p _ (pending (slots.by (slots.return v)) ∷ σ) _ h refl (b.abruptly (F.return v) tt σ level)
  goes_on (F.by F.break) s x σ p q m h g b = moved _ p _ (pending (slots.by (as_code F.break x)) ∷ σ) _ h refl (b.abruptly F.break m σ level)
  goes_on (F.by F.continue) s x σ p q m h g b = moved _ p _ (pending (slots.by (as_code F.continue x)) ∷ σ) _ h refl (b.abruptly F.continue m σ level)

  rethrown : (v : V) (s : Nest V) (x : Surroundings) (σ : Slots V) (p q : ℕ) → Within block code s x σ → Move_in block code x instr.Rethrow p q
      → C (let_go block (F.by (F.raise v)) s) (on p (exception v ∷ σ))
  rethrown v s x σ p q g h = moved _ p _ (exception v ∷ σ) (reraises v x.rows σ) h refl (reraised v s x σ g)

  -- a `finally` part begins with what it holds
  to_finally : (held : Completion V) (tried n : ℕ) (st : Stm) (ss : Stms) (s : Nest V) (x : Surroundings) (σ : Slots V) (p q end' : ℕ) → May_hold code held x
      → All_at block code (more st ss) n (deeper x) p q → Move_in block code x instr.EndFinally q end' → N s x σ end' → Both s x σ end'
      → C (begin_all block (more st ss) n (F.ending tried held ∷ s) (let_go block held s)) (on p (pending (held_as held x) ∷ σ))
  to_finally held tried n st ss s x σ p q end' m hf he g b =
      begin_all_comes (more st ss) n (F.ending tried held ∷ s) (deeper x) (pending (held_as held x) ∷ σ) p q (let_go block held s) hf
      (at_ending tried held s x σ q end' m he g) (goes_on held s x σ q end' m he g b)

  -- the name of a handler is unbound, where a raise that waits is active
  held_active : (held : Completion V) (x : Surroundings) (σ : Slots V) (s : Nest V) → active σ ≡ bases.active s
      → active (pending (held_as held x) ∷ σ) ≡ bases.or_else (raise_of held) (bases.active s)
  held_active F.normal x σ s a = a
  held_active (F.by (F.raise v)) x σ s a = refl
  held_active (F.by (F.return v)) x σ s a = a
  held_active (F.by F.break) x σ s a = a
  held_active (F.by F.continue) x σ s a = a

  unbound : (held : Completion V) (y : Name) (s : Nest V) (x : Surroundings) (σ : Slots V) (p q : ℕ) → May_hold code held x
      → (Null_in block code x ⨾ Stores block code x.rows (block.variable [] y) None ⨾ Deletes block code x.rows (block.variable [] y) None
      ⨾ Move_in block code x instr.EndFinally) p q → N s x σ q
      → C (silent_deed (T.store (block.variable [] y) block.null) (F.unbinds y held s) s) (on p (pending (held_as held x) ∷ σ))
  unbound held y s x σ p q m (m1, hn, (m2, hs, h)) g =
      null_moves _ x p m1 (pending (held_as held x) ∷ σ) hn
      (deed_comes None _ (F.unbinds y held s) s x m1 _ (value block.null ∷ pending (held_as held x) ∷ σ) (pending (held_as held x) ∷ σ) (on m2 (pending (held_as held x) ∷ σ)) _
      hs.stands (hs.does block.null (pending (held_as held x) ∷ σ)) refl refl (raised_by _ _ level) (inside s x σ (pending (held_as held x) ∷ σ) q g (raised_by _ _ level))
      (lands _ x (pending (held_as held x) ∷ σ) m2 (at_unbinds y held s x σ m2 q m h g)) (held_active held x σ s (busy_alike s x σ q g)) refl)

  -- the exit of a `with` is due
  exit_active : (held : Completion V) (n : ℕ) (w : V) (s : Nest V) (x : Surroundings) (σ : Slots V) → active σ ≡ bases.active s
      → active (pending (held_as held x) ∷ exit w ∷ σ) ≡ bases.active (F.exiting n w held ∷ s)
  exit_active F.normal n w s x σ a = a
  exit_active (F.by (F.raise v)) n w s x σ a = refl
  exit_active (F.by (F.return v)) n w s x σ a = a
  exit_active (F.by F.break) n w s x σ a = a
  exit_active (F.by F.continue) n w s x σ a = a

  exits : (held : Completion V) (l n : ℕ) (w : V) (s : Nest V) (x : Surroundings) (σ : Slots V) (p end' : ℕ) → May_hold code held x
      → (Act_in block code x instr.Exit n l ⨾ Move_in block code x instr.EndFinally) p end' → N s x σ end'
      → C (for_truth (mark n l false) (T.exit_of w (raise_of held)) (F.lets_go (swallowed held) s) (F.lets_go held s) (F.exiting n w held ∷ s))
      (on p (pending (held_as held x) ∷ exit w ∷ σ))
  exits held l n w s x σ p end' m (q, h, he) g =
      there _ _ (m_truth (mark n l false) (T.exit_of w (raise_of held)) _ _ (F.exiting n w held ∷ s) x (on p (pending (held_as held x) ∷ exit w ∷ σ)) (ins instr.Exit (act_mark p n l false) q x.rows) σ
      (λ b. on q (pending (left_of b (held_as held x)) ∷ σ))
      (turned p _ (pending (held_as held x) ∷ exit w ∷ σ) _ h refl
      ∙ ap (λ o. act (Some (mark n l false)) (T.test (T.exit_of w o)) (after code (ins instr.Exit (act_mark p n l false) q x.rows) σ (λ b. on q (pending (left_of b (held_as held x)) ∷ σ)))) (raise_in held x))
      refl (raised_by _ _ (raised_by _ _ level)) (in_exit n w held s x σ (from_here s x σ end' g))
      (subst (λ u. Lands block code (F.lets_go (swallowed held) s) (on q (pending u ∷ σ))) (sym (left_true held x))
      (lands _ x _ q (at_lets_go (swallowed held) s x σ q end' (may_swallowed code held x m) he g)))
      (subst (λ u. Lands block code (F.lets_go held s) (on q (pending u ∷ σ))) (sym (left_false held x)) (lands _ x _ q (at_lets_go held s x σ q end' m he g)))
      (exit_active held n w s x σ (busy_alike s x σ end' g)))

  alone_abrupt : (starts : List Start) (a : Abrupt V) → May code a (outermost starts) → (τ : Slots V)
      → C (complete block (F.by a) []) (land code [] (as_code a (outermost starts)) τ)
  alone_abrupt starts (F.raise v) m τ = there _ _ (m_over (left_by v))
  alone_abrupt starts (F.return v) m τ = there _ _ (m_over (gave v))
  alone_abrupt starts F.break m τ = elim m [ ]
  alone_abrupt starts F.continue m τ = elim m [ ]

  while_abrupt : (l n : ℕ) (e : Exp) (body els : Stms) (s : Nest V) (x : Surroundings) (σ : Slots V) (first next other end' : ℕ)
      → While_at block code l n e (All_at block code body (tested_body n e)) (All_at block code els (behind_body n e body) x) x first next other end'
      → N s x σ end' → Both s x σ end' → (a : Abrupt V) → May code a (in_while next end' x) → (τ : Slots V) → Above σ τ
      → C (complete block (F.by a) (F.looping l n e body els ∷ s)) (land code x.rows (as_code a (in_while next end' x)) τ)
  while_abrupt l n e body els s x σ first next other end' h g b (F.raise v) may τ o = b.abruptly (F.raise v) tt τ o
  while_abrupt l n e body els s x σ first next other end' h g b (F.return v) may τ o = b.abruptly (F.return v) tt τ o
  while_abrupt l n e body els s x σ first next other end' (rn, re, hb, ht, ho) g b F.break may τ o =
      subst (λ t. C (complete block F.normal s) t) (sym (reaches code x.rows end' σ τ re o (depth s x σ end' g ∙ sym may))) b.normally
  while_abrupt l n e body els s x σ first next other end' (rn, re, hb, ht, ho) g b F.continue may τ o =
      subst (λ t. C (begin_test block l n true e body els s) t) (sym (reaches code x.rows next σ τ rn o (depth s x σ end' g ∙ sym may)))
      (retest_comes l n e body els s x σ first next other end' (rn, re, hb, ht, ho) g)

  for_abrupt : (l n : ℕ) (i : V) (t : Tgt) (body els : Stms) (s : Nest V) (x : Surroundings) (σ : Slots V) (first next other end' : ℕ)
      → For_at block code l n t (All_at block code body (for_body n t)) (All_at block code els (for_else n t body) x) x first next other end'
      → N s x σ end' → Both s x σ end' → (a : Abrupt V) → May code a (in_for next end' x) → (τ : Slots V) → Above (iterator i ∷ σ) τ
      → C (complete block (F.by a) (F.iterating l n i t body els ∷ s)) (land code x.rows (as_code a (in_for next end' x)) τ)
  for_abrupt l n i t body els s x σ first next other end' h g b (F.raise v) may τ o = b.abruptly (F.raise v) tt τ (shorter (iterator i) σ τ o)
  for_abrupt l n i t body els s x σ first next other end' h g b (F.return v) may τ o = b.abruptly (F.return v) tt τ (shorter (iterator i) σ τ o)
  for_abrupt l n i t body els s x σ first next other end' (rn, re, hb, ht, ho) g b F.break may τ o =
      subst (λ t. C (complete block F.normal s) t) (sym (reaches code x.rows end' σ τ re (shorter (iterator i) σ τ o) (depth s x σ end' g ∙ sym may))) b.normally
  for_abrupt l n i t body els s x σ first next other end' (rn, re, hb, ht, ho) g b F.continue may τ o =
      subst (λ u. C (begin_next block l n true i t body els s) u) (sym (reaches code x.rows next (iterator i ∷ σ) τ rn o (ap (λ d. suc d) (depth s x σ end' g) ∙ sym may)))
      (next_comes l n i t body els s x σ first next other end' (rn, re, hb, ht, ho) g)

  unguarded_abrupt : (n : ℕ) (els : Stms) (s : Nest V) (x : Surroundings) (σ : Slots V) (q : ℕ) → Both s x σ q
      → (a : Abrupt V) → May code a x → (τ : Slots V) → Above σ τ → C (complete block (F.by a) (F.guarded n S.no_handlers els ∷ s)) (land code x.rows (as_code a x) τ)
  unguarded_abrupt n els s x σ q b (F.raise v) m τ o = b.abruptly (F.raise v) m τ o
  unguarded_abrupt n els s x σ q b (F.return v) m τ o = b.abruptly (F.return v) m τ o
  unguarded_abrupt n els s x σ q b F.break m τ o = b.abruptly F.break m τ o
  unguarded_abrupt n els s x σ q b F.continue m τ o = b.abruptly F.continue m τ o

  guarded_abrupt : (l n : ℕ) (d : Opt) (y : Option Name) (body : Stms) (r : Handlers) (els : Stms) (s : Nest V) (x : Surroundings) (σ : Slots V) (row : Handler) (end' : ℕ)
      → TakesRaises row x → Handlers_at block code (S.handler l d y body r) n end' x row.target.0 → N s x σ end' → Both s x σ end'
      → (a : Abrupt V) → May code a x → (τ : Slots V) → Above σ τ
      → C (complete block (F.by a) (F.guarded n (S.handler l d y body r) els ∷ s)) (land code (row ∷ x.rows) (as_code a (under row x)) τ)
  guarded_abrupt l n d y body r els s x σ row end' h hh g b (F.raise v) m τ o =
      subst (λ t. C (complete block (F.by (F.raise v)) (F.guarded n (S.handler l d y body r) els ∷ s)) t) (sym (raise_lands code v row x x.rows σ τ h o (depth s x σ end' g)))
      (tests_come (S.handler l d y body r) n n v s x σ row.target.0 end' _ hh g (λ p q k. rethrown v s x σ p q (within_here s x σ end' g) k))
  guarded_abrupt l n d y body r els s x σ row end' h hh g b (F.return v) m τ o =
      subst (λ t. C (complete block (F.by (F.return v)) s) t) (sym (return_passes code v row x x.rows τ h)) (b.abruptly (F.return v) m τ o)
  guarded_abrupt l n d y body r els s x σ row end' h hh g b F.break m τ o =
      subst (λ t. C (complete block (F.by F.break) s) t) (sym (jump_passes code (end_place x.loop) row x x.rows τ h)) (b.abruptly F.break m τ o)
  guarded_abrupt l n d y body r els s x σ row end' h hh g b F.continue m τ o =
      subst (λ t. C (complete block (F.by F.continue) s) t) (sym (jump_passes code (next_place x.loop) row x x.rows τ h)) (b.abruptly F.continue m τ o)

  -- what leaves the part that a row covers lands behind it
  under_row : (c : Control V) (a : Abrupt V) (row : Handler) (x : Surroundings) (rows : List Handler) (σ τ : Slots V) → TakesAll row x → May code a (under row x) → Above σ τ
      → length σ ≡ x.depth → (May code a x → C c (on row.target.0 (pending (slots.by (as_code a x)) ∷ σ))) → C c (land code (row ∷ rows) (as_code a (under row x)) τ)
  under_row c a row x rows σ τ h m o d k =
      subst (λ t. C c t) (sym (ap (λ u. land code (row ∷ rows) u τ) (as_under a row x) ∙ all_land code a row x rows σ τ h (may_under code a row x m) o d)) (k (may_under code a row x m))

  -- one slot more is cut
  above_slot : (s : Nest V) (x : Surroundings) (u : Slot V) (σ : Slots V) (q : ℕ) → Both s x σ q → (a : Abrupt V) → May code a (deeper x) → (τ : Slots V) → Above (u ∷ σ) τ
      → C (complete block (F.by a) s) (land code x.rows (as_code a (deeper x)) τ)
  above_slot s x u σ q b a m τ o =
      subst (λ v. C (complete block (F.by a) s) (land code x.rows v τ)) (sym (as_deeper a x)) (b.abruptly a (may_deeper code a x m) τ (shorter u σ τ o))

  pub both : (s : Nest V) (x : Surroundings) (σ : Slots V) (p : ℕ) → N s x σ p → Both s x σ p
  both _ _ _ _ (at_end starts p q (m, hn, hr)) = record {
    normally = null_moves _ (outermost starts) p m [] hn (moved _ m _ (value block.null ∷ []) (off (gave block.null)) hr refl (there _ _ (m_over (gave block.null))));
    abruptly = λ a m τ o. alone_abrupt starts a m τ;
  }
  both _ _ _ _ (at_rest n ss s x σ p q h g) = let b = both s x σ q g in record {
    normally = begin_all_comes ss n s x σ p q _ h g b.normally;
    abruptly = λ a m τ o. b.abruptly a m τ o;
  }
  both _ _ _ _ (at_looping l n e body els s x σ first next other end' h g) = let b = both s x σ end' g in record {
    normally = retest_comes l n e body els s x σ first next other end' h g;
    abruptly = λ a m τ o. while_abrupt l n e body els s x σ first next other end' h g b a m τ o;
  }
  both _ _ _ _ (at_iterating l n i t body els s x σ first next other end' h g) = let b = both s x σ end' g in record {
    normally = next_comes l n i t body els s x σ first next other end' h g;
    abruptly = λ a m τ o. for_abrupt l n i t body els s x σ first next other end' h g b a m τ o;
  }
  both _ _ _ _ (at_unguarded n els s x σ p q h g) = let b = both s x σ q g in record {
    normally = begin_all_comes els _ s x σ p q _ h g b.normally;
    abruptly = λ a m τ o. unguarded_abrupt n els s x σ q b a m τ o;
  }
  both _ _ _ _ (at_guarded l n d y body r els s x σ row p q behind end' a h hj hh g) = let b = both s x σ end' g in record {
    normally = begin_all_comes els _ s x σ p q _ h (nest_behind_jump s x σ q behind end' hj g) (moved _ q _ σ (on end' σ) hj refl b.normally);
    abruptly = λ u m τ o. guarded_abrupt l n d y body r els s x σ row end' a hh g b u (may_under code u row x m) τ o;
  }
  both _ _ _ _ (at_unensured tried n s x σ p g) = let b = both s x σ p g in record {
    normally = b.normally;
    abruptly = λ a m τ o. b.abruptly a m τ o;
  }
  both _ _ _ _ (at_ensured tried n st ss s x σ row p q end' t hn hf he g) = let b = both s x σ end' g in record {
    normally = moved _ p _ σ (on row.target.0 (pending slots.normal ∷ σ)) hn refl (to_finally F.normal tried n st ss s x σ row.target.0 q end' tt hf he g b);
    abruptly = λ a m τ o. under_row _ a row x x.rows σ τ t m o (depth s x σ end' g) (λ may. to_finally (F.by a) tried n st ss s x σ row.target.0 q end' may hf he g b);
  }
  both _ _ _ _ (at_ending tried held s x σ p q m h g) = let b = both s x σ q g in record {
    normally = goes_on held s x σ p q m h g b;
    abruptly = λ a may τ o. above_slot s x (pending (held_as held x)) σ q b a may τ o;
  }
  both _ _ _ _ (at_handling n e s x σ p q h g) = let b = both s x σ q g in record {
    normally = moved _ p _ (exception e ∷ σ) (on q σ) h refl b.normally;
    abruptly = λ a m τ o. above_slot s x (exception e) σ q b a m τ o;
  }
  both _ _ _ _ (at_naming y s x σ row p q t hn h g) = record {
    normally = moved _ p _ σ (on row.target.0 (pending slots.normal ∷ σ)) hn refl (unbound F.normal y s x σ row.target.0 q tt h g);
    abruptly = λ a m τ o. under_row _ a row x x.rows σ τ t m o (depth s x σ q g) (λ may. unbound (F.by a) y s x σ row.target.0 q may h g);
  }
  both _ _ _ _ (at_withing l n w s x σ row p end' t hn h g) = record {
    normally = moved _ p _ (exit w ∷ σ) (on row.target.0 (pending slots.normal ∷ exit w ∷ σ)) hn refl (exits F.normal l n w s x σ row.target.0 end' tt h g);
    abruptly = λ a m τ o. under_row _ a row (deeper x) x.rows (exit w ∷ σ) τ t m o (ap (λ d. suc d) (depth s x σ end' g))
        (λ may. subst (λ u. C (complete block (F.by a) (F.withing l n w ∷ s)) (on row.target.0 (pending (slots.by u) ∷ exit w ∷ σ))) (sym (as_deeper a x)) (exits (F.by a) l n w s x σ row.target.0 end' (may_deeper code a x may) h g));
  }
  both _ _ _ _ (nest_behind_jump s x σ p m q h g) = let b = both s x σ q g in record {
    normally = moved _ p _ σ (on q σ) h refl b.normally;
    abruptly = λ a m τ o. b.abruptly a m τ o;
  }

  -- a completion goes from within a nest
  leave_inside : (s : Nest V) (x : Surroundings) (τ : Slots V) → Inside block code s x τ → (a : Abrupt V) → May code a x → C (complete block (F.by a) s) (land code x.rows (as_code a x) τ)
  leave_inside _ _ _ (inside s x σ τ p g o) a m = let b = both s x σ p g in b.abruptly a m τ o
  leave_inside _ _ _ (alone starts τ) a m = alone_abrupt starts a m τ
  leave_inside _ _ _ (in_tests n e s x σ τ p g o) a m = let b = both s x σ p g in b.abruptly a m τ (shorter (exception e) σ τ o)
  leave_inside _ _ _ (in_exit n w held s x τ h) a m = leave_inside s x τ h a m

  raise_inside : (s : Nest V) (x : Surroundings) (τ : Slots V) (i : Ins) → i.rows ≡ x.rows → Inside block code s x τ → (v : V)
      → C (complete block (F.by (F.raise v)) s) (land code i.rows (slots.raise v) τ)
  raise_inside s x τ i e h v = subst (λ rs. C (complete block (F.by (F.raise v)) s) (land code rs (slots.raise v) τ)) (sym e) (leave_inside s x τ h (F.raise v) tt)

  inside_push : (s : Nest V) (x : Surroundings) (u : Slot V) (τ : Slots V) → Inside block code s x τ → Inside block code s x (u ∷ τ)
  inside_push _ _ u _ (inside s x σ τ p g o) = inside s x σ (u ∷ τ) p g (raised_by u τ o)
  inside_push _ _ u _ (alone starts τ) = alone starts (u ∷ τ)
  inside_push _ _ u _ (in_tests n e s x σ τ p g o) = in_tests n e s x σ (u ∷ τ) p g (raised_by u τ o)
  inside_push _ _ u _ (in_exit n w held s x τ h) = in_exit n w held s x (u ∷ τ) (inside_push s x u τ h)

  inside_way : (k : Way V) (x : Surroundings) (σ : Slots V) (p : ℕ) → Way_on block code k x σ p → Inside block code (way_base k) x σ
  inside_way _ _ _ _ (at_finished s x σ p g) = from_here s x σ p g
  inside_way _ _ _ _ (at_stms n ss s x σ p q h g) = from_here s x σ q g
  inside_way _ _ _ _ (at_branches n bs els s x σ p q h g) = from_here s x σ q g
  inside_way _ _ _ _ (at_lets_go held s x σ p q m h g) = inside_push s x _ σ (from_here s x σ q g)
  inside_way _ _ _ _ (at_unbinds y held s x σ p q m h g) = inside_push s x _ σ (from_here s x σ q g)
  inside_way _ _ _ _ (at_tests k n hs e s x σ p end' h g) = inside_push s x _ σ (from_here s x σ end' g)
  inside_way _ _ _ _ (at_binding l n y e k s x z σ p q r hc h hk g) = g.stands
  inside_way _ _ _ _ (at_assigns n v ts s x σ p q h g) = inside_push s x _ σ (from_here s x σ q g)
  inside_way _ _ _ _ (at_deletes n ps s x σ p q h g) = from_here s x σ q g
  inside_way _ _ _ _ (at_imports l n xs s x σ p q h g) = from_here s x σ q g
  inside_way _ _ _ _ (at_imports_from l n xs o s x σ p q h g) = inside_push s x _ σ (from_here s x σ q g)
  inside_way _ _ _ _ (at_within_items n is body s x σ p q h g) = from_here s x σ q g
  inside_way _ _ _ _ (at_failed l n m s x σ p q h g) = g.stands

  inside_decorators : (ds : List (Decorating V)) (s : Nest V) (x : Surroundings) (σ : Slots V) → Inside block code s x σ → Inside block code s x (decorators_above ds σ)
  inside_decorators [] s x σ h = h
  inside_decorators (d ∷ ds) s x σ h = inside_push s x _ (decorators_above ds σ) (inside_decorators ds s x σ h)

  inside_address : (a : Address V) (s : Nest V) (x : Surroundings) (σ : Slots V) → Inside block code s x σ → Inside block code s x (addressed a σ)
  inside_address (F.a_name y) s x σ h = h
  inside_address (F.an_attribute a y) s x σ h = inside_push s x _ σ h
  inside_address (F.an_item a i) s x σ h = inside_push s x _ _ (inside_push s x _ σ h)

  inside_wait : (w : Wait V) (x : Surroundings) (σ : Slots V) (p : ℕ) → W w x σ p → Inside block code (base w) x σ
  inside_wait _ _ _ _ (at_dropped l n s x σ p q h g) = from_here s x σ q g
  inside_wait _ _ _ _ (at_assigned n ts s x σ p q h g) = from_here s x σ q g
  inside_wait _ _ _ _ (at_asked l n t f x z σ p q other h ht hf a) = inside_way f x σ other hf
  inside_wait _ _ _ _ (at_asked_back l n t f x z σ p q other h ht hf a) = inside_way f x σ q hf
  inside_wait _ _ _ _ (at_iterated l k n m t body els s x σ p q first next other end' ht hn h g) = from_here s x σ end' g
  inside_wait _ _ _ _ (at_deleted_attribute l n y k x σ p q h hk b) = inside_way k x σ q hk
  inside_wait _ _ _ _ (at_deleted_item l n i k x σ p q h hk b) = inside_way k x σ q hk
  inside_wait _ _ _ _ (at_deleted_index l n a k x σ p q h hk b) = inside_push _ x _ σ (inside_way k x σ q hk)
  inside_wait _ _ _ _ (at_changed_attribute l n j y o e s x σ p q h g) = from_here s x σ q g
  inside_wait _ _ _ _ (at_changed_item l n j i o e s x σ p q h g) = from_here s x σ q g
  inside_wait _ _ _ _ (at_changed_index l n j a o e s x σ p q h g) = inside_push s x _ σ (from_here s x σ q g)
  inside_wait _ _ _ _ (at_changing l n k to o e s x σ p q h g) = inside_address to s x σ (from_here s x σ q g)
  inside_wait _ _ _ _ (at_changed l n k to v o s x σ p q h g) = inside_push s x _ (addressed to σ) (inside_address to s x σ (from_here s x σ q g))
  inside_wait _ _ _ _ (at_given_back n k to s x σ p q h g) = inside_address to s x σ (from_here s x σ q g)
  inside_wait _ _ _ _ (at_returned l n s x σ p q h g) = g.stands
  inside_wait _ _ _ _ (at_thrown l n b s x σ p q h g) = g.stands
  inside_wait _ _ _ _ (at_caused l n v s x σ p q h g) = inside_push s x _ σ g.stands
  inside_wait _ _ _ _ (at_message l n s x σ p q h g) = g.stands
  inside_wait _ _ _ _ (at_imported l n y xs s x σ p q h g) = from_here s x σ q g
  inside_wait _ _ _ _ (at_imported_origin l n xs s x σ p q h g) = from_here s x σ q g
  inside_wait _ _ _ _ (at_imported_name l n y xs o s x σ p q h g) = inside_push s x _ σ (from_here s x σ q g)
  inside_wait _ _ _ _ (at_matched l k n m e t hds s x σ p q r other end' h hs ht hh g) = in_tests k e s x σ (exception e ∷ σ) end' g level
  inside_wait _ _ _ _ (at_entered l n t is body s x σ row p end' a h hx g) = from_here s x σ end' g
  inside_wait _ _ _ _ (at_decorated k n before ds l y what s x σ p q h g) = inside_decorators before s x σ (from_here s x σ q g)
  inside_wait _ _ _ _ (at_defined l n y calls s x σ p q h g) = inside_decorators calls s x σ (from_here s x σ q g)

  -- what goes on
  way_comes : (k : Way V) (x : Surroundings) (σ : Slots V) (p : ℕ) → Way_on block code k x σ p → C (control.go block k) (on p σ)
  way_comes _ _ _ _ (at_finished s x σ p g) = let b = both s x σ p g in b.normally
  way_comes _ _ _ _ (at_stms n ss s x σ p q h g) = let b = both s x σ q g in begin_all_comes ss n s x σ p q _ h g b.normally
  way_comes _ _ _ _ (at_branches n bs els s x σ p q h g) = let b = both s x σ q g in branches_come bs els n s x σ p q _ h g b.normally
  way_comes _ _ _ _ (at_lets_go held s x σ p q m h g) = goes_on held s x σ p q m h g (both s x σ q g)
  way_comes _ _ _ _ (at_unbinds y held s x σ p q m (m', hd, h) g) =
      deed_comes None _ (F.lets_go held s) s x p _ (pending (held_as held x) ∷ σ) (pending (held_as held x) ∷ σ) (on m' (pending (held_as held x) ∷ σ)) _
      hd.stands (hd.does (pending (held_as held x) ∷ σ)) refl refl level (inside_push s x _ σ (from_here s x σ q g))
      (lands _ x (pending (held_as held x) ∷ σ) m' (at_lets_go held s x σ m' q m h g)) (held_active held x σ s (busy_alike s x σ q g)) refl
  way_comes _ _ _ _ (at_tests k n hs e s x σ p end' h g) =
      tests_come hs k n e s x σ p end' _ h g (λ p q h. rethrown e s x σ p q (within_here s x σ end' g) h)
  way_comes _ _ _ _ (at_binding l n y e k s x z σ p q r hc h hk g) =
      moved _ p _ (exception e ∷ σ) (on q (value e ∷ exception e ∷ σ)) hc refl
      (deed_comes (Some (mark n l false)) _ k s x q _ (value e ∷ exception e ∷ σ) (exception e ∷ σ) (on r (exception e ∷ σ)) _ h.stands (h.does e (exception e ∷ σ)) refl refl (raised_by _ _ level) g.stands
      (lands k z (exception e ∷ σ) r hk) g.same_active refl)
  way_comes _ _ _ _ (at_assigns n v ts s x σ p q h g) = let b = both s x σ q g in assigned_comes v ts n s x σ p q _ h g b.normally
  way_comes _ _ _ _ (at_deletes n ps s x σ p q h g) = let b = both s x σ q g in deletes_come ps n s x σ p q _ h g b.normally
  way_comes _ _ _ _ (at_imports l n xs s x σ p q h g) = let b = both s x σ q g in imports_come xs l n s x σ p q _ h g b.normally
  way_comes _ _ _ _ (at_imports_from l n xs o s x σ p q h g) = let b = both s x σ q g in imports_from_come xs l n o s x σ p q _ h g b.normally
  way_comes _ _ _ _ (at_within_items n is body s x σ p q h g) = let b = both s x σ q g in items_come is body n s x σ p q _ h g b.normally
  way_comes _ _ _ _ (at_failed l n S.absent s x σ p q h g) = there _ _ (m_throw (mark n l false) (T.failing None) s x (on p σ) (ins (instr.AssertFail false) (act_mark p n l false) q x.rows) σ (turned p _ σ _ h refl) refl level g.stands g.same_active)
  way_comes _ _ _ _ (at_failed l n (S.given m) s x σ p q (m', hm, h) g) =
      value_comes (F.message_of l (n + size m) s) x σ p m' m n false hm (at_message l (n + size m) s x σ m' q h g)

  lands_comes : (k : Way V) (t : State V) → Lands block code k t → C (control.go block k) t
  lands_comes _ _ (lands k x σ p h) = way_comes k x σ p h
  lands_comes _ _ (lands_by k t u e h) = moves _ t u e (lands_comes k u h)

  -- what an operator gives goes back
  back_comes : (to : Address V) (v : V) (n k : ℕ) (s : Nest V) (x : Surroundings) (σ : Slots V) (p q : ℕ)
      → Back_at block code to n k x p q → N s x σ q → C (at_place block (F.storing v (F.finished s)) to k n) (on p (value v ∷ addressed to σ))
  back_comes (F.a_name y) v n k s x σ p q h g =
      deed_comes (Some (mark n k false)) _ (F.finished s) s x p _ (value v ∷ σ) σ (on q σ) _ h.stands (h.does v σ) refl refl (raised_by _ _ level) (from_here s x σ q g) (lands _ x σ q (at_finished s x σ q g)) (busy_alike s x σ q g) refl
  back_comes (F.an_attribute a y) v n k s x σ p q (m, hs, h) g =
      moved _ p _ (value v ∷ value a ∷ σ) (on m (value a ∷ value v ∷ σ)) hs refl
      (deed_comes (Some (mark n k false)) _ (F.finished s) s x m _ (value a ∷ value v ∷ σ) σ (on q σ) _ h.stands (h.does v a σ) refl refl (raised_by _ _ (raised_by _ _ level)) (from_here s x σ q g)
      (lands _ x σ q (at_finished s x σ q g)) (busy_alike s x σ q g) refl)
  back_comes (F.an_item a i) v n k s x σ p q (m, hs, h) g =
      moved _ p _ (value v ∷ value i ∷ value a ∷ σ) (on m (value i ∷ value a ∷ value v ∷ σ)) hs refl
      (deed_comes (Some (mark n k false)) _ (F.finished s) s x m _ (value i ∷ value a ∷ value v ∷ σ) σ (on q σ) _ h refl refl refl (raised_by _ _ (raised_by _ _ (raised_by _ _ level))) (from_here s x σ q g)
      (lands _ x σ q (at_finished s x σ q g)) (busy_alike s x σ q g) refl)

  -- a value is there
  deliver_comes : (v : V) (w : Wait V) (x : Surroundings) (σ : Slots V) (p : ℕ) → W w x σ p → C (control.deliver block v w) (on p (value v ∷ σ))
  deliver_comes v _ _ _ _ (at_dropped l n s x σ p q h g) =
      deed_comes (Some (mark n l false)) _ (F.finished s) s x p _ (value v ∷ σ) σ (on q σ) _ h refl refl refl (raised_by _ _ level) (from_here s x σ q g) (lands _ x σ q (at_finished s x σ q g)) (busy_alike s x σ q g) refl
  deliver_comes v _ _ _ _ (at_assigned n ts s x σ p q h g) = let b = both s x σ q g in assigned_comes v ts n s x σ p q _ h g b.normally
  deliver_comes v _ _ _ _ (at_asked l n t f x z σ p q other h ht hf a) =
      there _ _ (m_truth (mark n l false) (T.branch v) t f (way_base f) x (on p (value v ∷ σ)) (ins (instr.JumpUnless (record { 0 = other })) (act_mark p n l false) q x.rows) σ _
      (turned p _ (value v ∷ σ) _ h (steps.branch_asks block code x.rows (way (F.finished [])) σ p p n l q (instr.JumpUnless (record { 0 = other })) (code.is_truth v) _ _ v σ))
      refl (raised_by _ _ level) (inside_way f x σ other hf) (lands t z σ q ht) (lands f x σ other hf) a)
  deliver_comes v _ _ _ _ (at_asked_back l n t f x z σ p q other h ht hf a) =
      there _ _ (m_truth (mark n l false) (T.branch v) t f (way_base f) x (on p (value v ∷ σ)) (ins (instr.JumpIf (record { 0 = other })) (act_mark p n l false) q x.rows) σ _
      (turned p _ (value v ∷ σ) _ h (steps.branch_asks block code x.rows (way (F.finished [])) σ p p n l q (instr.JumpIf (record { 0 = other })) (code.is_truth v) _ _ v σ))
      refl (raised_by _ _ level) (inside_way f x σ q hf) (lands t z σ other ht) (lands f x σ q hf) a)
  deliver_comes v _ _ _ _ (at_iterated l k n m t body els s x σ p q first next other end' ht hn h g) =
      there _ _ (m_iter (mark k l false) v m n t body els s x (on p (value v ∷ σ)) (ins instr.Iter (act_mark p k l false) q x.rows) σ q first next other end' (turned p _ (value v ∷ σ) _ ht refl) refl (raised_by _ _ level) hn h g refl)
  deliver_comes v _ _ _ _ (at_deleted_attribute l n y k x σ p q h hk b) =
      deed_comes (Some (mark n l false)) _ k (way_base k) x p _ (value v ∷ σ) σ (on q σ) _ h.stands (h.does v σ) refl refl (raised_by _ _ level) (inside_way k x σ q hk) (lands k x σ q hk) b refl
  deliver_comes v _ _ _ _ (at_deleted_item l n i k x σ p q (m, hi, h) hk b) =
      value_comes (F.at_item l (n + size i) v (F.deleting k)) x (value v ∷ σ) p m i n false hi (at_deleted_index l (n + size i) v k x σ m q h hk b)
  deliver_comes v _ _ _ _ (at_deleted_index l n a k x σ p q h hk b) =
      deed_comes (Some (mark n l false)) _ k (way_base k) x p _ (value v ∷ value a ∷ σ) σ (on q σ) _ h refl refl refl (raised_by _ _ (raised_by _ _ level)) (inside_way k x σ q hk) (lands k x σ q hk) b refl
  deliver_comes v _ _ _ _ (at_changed_attribute l n j y o e s x σ p q (m, hc, (m', ha, h)) g) =
      moved _ p _ (value v ∷ σ) (on m (value v ∷ value v ∷ σ)) hc refl
      (operation_comes (F.changing j (n + 1) l (F.an_attribute v y) o e s) x (value v ∷ σ) m m' [] _ l n (v ∷ []) ha
      (at_changing j (n + 1) l (F.an_attribute v y) o e s x σ m' q h g))
  deliver_comes v _ _ _ _ (at_changed_item l n j i o e s x σ p q (m, hi, h) g) =
      value_comes (F.at_item l (n + size i) v (F.changing_by j o e s)) x (value v ∷ σ) p m i n false hi (at_changed_index l (n + size i) j v o e s x σ m q h g)
  deliver_comes v _ _ _ _ (at_changed_index l n j a o e s x σ p q (m, hc, (m', hi, h)) g) =
      moved _ p _ (value v ∷ value a ∷ σ) (on m (value v ∷ value a ∷ value v ∷ value a ∷ σ)) hc refl
      (operation_comes (F.changing j (n + 1) l (F.an_item a v) o e s) x (value v ∷ value a ∷ σ) m m' [] _ l n (v ∷ a ∷ []) hi
      (at_changing j (n + 1) l (F.an_item a v) o e s x σ m' q h g))
  deliver_comes v _ _ _ _ (at_changing l n k to o e s x σ p q (m, he, h) g) =
      value_comes (F.changed_by l (n + size e) k to v o s) x (value v ∷ addressed to σ) p m e n false he (at_changed l (n + size e) k to v o s x σ m q h g)
  deliver_comes v _ _ _ _ (at_changed l n k to u o s x σ p q (m, hi, h) g) =
      within (wait (F.change_stored (n + 1) k to s)) x.rows (addressed to σ) m _ _
      (expressions.there _ _ (expressions.m_value (mark n l false) _ _ (on p (value v ∷ value u ∷ addressed to σ)) (ins (instr.InPlace o) (act_mark p n l false) m x.rows) (addressed to σ) (addressed to σ) m
      (turned p _ (value v ∷ value u ∷ addressed to σ) _ hi refl) (record { same_rows = refl; on_top = expressions.push _ _ (expressions.push _ _ expressions.same refl) refl }) expressions.same (expressions.at_end _ refl)))
      (by_wait _ x (addressed to σ) m (at_given_back (n + 1) k to s x σ m q h g))
  deliver_comes v _ _ _ _ (at_given_back n k to s x σ p q h g) = back_comes to v n k s x σ p q h g
  deliver_comes v _ _ _ _ (at_returned l n s x σ p q h g) =
      there _ _ (m_leave (mark n l false) (F.return v) s x (on p (value v ∷ σ)) (ins instr.Return (act_mark p n l false) q x.rows) σ (turned p _ (value v ∷ σ) _ h refl) refl (raised_by _ _ level) tt g.stands g.same_active)
  deliver_comes v _ _ _ _ (at_thrown l n S.absent s x σ p q h g) =
      there _ _ (m_throw (mark n l false) (T.raising v None) s x (on p (value v ∷ σ)) (ins instr.Raise (act_mark p n l false) q x.rows) σ (turned p _ (value v ∷ σ) _ h refl) refl (raised_by _ _ level) g.stands g.same_active)
  deliver_comes v _ _ _ _ (at_thrown l n (S.given b) s x σ p q (m, hb, h) g) =
      value_comes (F.caused l (n + size b) v s) x (value v ∷ σ) p m b n false hb (at_caused l (n + size b) v s x σ m q h g)
  deliver_comes v _ _ _ _ (at_caused l n u s x σ p q h g) =
      there _ _ (m_throw (mark n l false) (T.raising u (Some v)) s x (on p (value v ∷ value u ∷ σ)) (ins instr.RaiseFrom (act_mark p n l false) q x.rows) σ (turned p _ (value v ∷ value u ∷ σ) _ h refl) refl (raised_by _ _ (raised_by _ _ level)) g.stands g.same_active)
  deliver_comes v _ _ _ _ (at_message l n s x σ p q h g) =
      there _ _ (m_throw (mark n l false) (T.failing (Some v)) s x (on p (value v ∷ σ)) (ins (instr.AssertFail true) (act_mark p n l false) q x.rows) σ (turned p _ (value v ∷ σ) _ h refl) refl (raised_by _ _ level) g.stands g.same_active)
  deliver_comes v _ _ _ _ (at_imported l n y xs s x σ p q (m, hs, h) g) =
      deed_comes (Some (mark n l false)) _ (F.imports l (n + 1) xs s) s x p _ (value v ∷ σ) σ (on m σ) _ hs.stands (hs.does v σ) refl refl (raised_by _ _ level) (from_here s x σ q g)
      (lands _ x σ m (at_imports l (n + 1) xs s x σ m q h g)) (busy_alike s x σ q g) refl
  deliver_comes v _ _ _ _ (at_imported_origin l n xs s x σ p q h g) = let b = both s x σ q g in imports_from_come xs l n v s x σ p q _ h g b.normally
  deliver_comes v _ _ _ _ (at_imported_name l n y xs o s x σ p q (m, hs, h) g) =
      deed_comes (Some (mark n l false)) _ (F.imports_from l (n + 1) xs o s) s x p _ (value v ∷ value o ∷ σ) (value o ∷ σ) (on m (value o ∷ σ)) _ hs.stands (hs.does v (value o ∷ σ)) refl refl (raised_by _ _ level)
      (inside_push s x _ σ (from_here s x σ q g)) (lands _ x (value o ∷ σ) m (at_imports_from l (n + 1) xs o s x σ m q h g)) (busy_alike s x σ q g) refl
  deliver_comes v _ _ _ _ (at_matched l k n m e t hds s x σ p q r other end' h hs ht hh g) =
      there _ _ (m_truth (mark n l false) (T.matches e v) t (F.tests k m hds e s) (F.testing k e ∷ s) x (on p (value v ∷ exception e ∷ σ)) (ins instr.Match (act_mark p n l false) q x.rows) (exception e ∷ σ) _
      (turned p _ (value v ∷ exception e ∷ σ) _ h refl) refl (raised_by _ _ level) (in_tests k e s x σ (exception e ∷ σ) end' g level)
      (split_lands t x (exception e ∷ σ) true q r other hs ht) (split_lands _ x (exception e ∷ σ) false q r other hs (lands _ x (exception e ∷ σ) other (at_tests k m hds e s x σ other end' hh g))) refl)
  deliver_comes v _ _ _ _ (at_entered l n t is body s x σ row p end' a (m, he, h) hx g) =
      there _ _ (m_entry (mark n l false) v l (n + 1) t is body s x (on p (value v ∷ σ)) (ins instr.Enter (act_mark p n l false) m x.rows) σ row m end' (turned p _ (value v ∷ σ) _ he refl) refl (raised_by _ _ level) a h hx g refl)
  deliver_comes v _ _ _ _ (at_decorated k n before ds l y what s x σ p q h g) = decorated_comes ds what v before k l n y s x σ p q h g
  deliver_comes v _ _ _ _ (at_defined l n y [] s x σ p q h g) =
      deed_comes (Some (mark n l false)) _ (F.finished s) s x p _ (value v ∷ σ) σ (on q σ) _ h.stands (h.does v σ) refl refl (raised_by _ _ level) (from_here s x σ q g) (lands _ x σ q (at_finished s x σ q g)) (busy_alike s x σ q g) refl
  deliver_comes v _ _ _ _ (at_defined l n y (d ∷ ds) s x σ p q (m, hc, h) g) =
      operation_comes (F.defined l (n + 1) y ds s) x (decorators_above ds σ) p m [] _ d.line n (v ∷ d.value ∷ []) hc (at_defined l (n + 1) y ds s x σ m q h g)

  -- what an expression or a target comes to
  inside_above : (s : Nest V) (x : Surroundings) (σ τ : Slots V) → On_top σ τ → Inside block code s x σ → Inside block code s x τ
  inside_above s x σ _ expressions.same h = h
  inside_above s x σ _ (expressions.push u τ o n) h = inside_push s x u τ (inside_above s x σ τ o h)

  raise_under : (s : Nest V) (x : Surroundings) (rows : List Handler) (τ : Slots V) → x.rows ≡ rows → Inside block code s x τ → (v : V)
      → C (complete block (F.by (F.raise v)) s) (land code rows (slots.raise v) τ)
  raise_under s x rows τ e h v = subst (λ rs. C (complete block (F.by (F.raise v)) s) (land code rs (slots.raise v) τ)) e (leave_inside s x τ h (F.raise v) tt)

  beyond_raise : (outer : Outer V) (rows : List Handler) (σ τ : Slots V) (p : ℕ) (v : V) → Beyond block code outer rows σ p → On_top σ τ
      → C (complete block (F.by (F.raise v)) (expressions.outer_base outer)) (land code rows (slots.raise v) τ)
  beyond_raise (wait w) rows σ τ p v b o = raise_under (base w) b.surroundings rows τ b.same_rows (inside_above (base w) b.surroundings σ τ o (inside_wait w b.surroundings σ p b.stands)) v
  beyond_raise (way k) rows σ τ p v b o = raise_under (way_base k) b.surroundings rows τ b.same_rows (inside_above (way_base k) b.surroundings σ τ o (inside_way k b.surroundings σ p b.stands)) v

  value_given : (outer : Outer V) (rows : List Handler) (σ : Slots V) (p : ℕ) (w : Wait V) (v : V) → wait w ≡ outer → Beyond block code outer rows σ p
      → C (control.deliver block v w) (on p (value v ∷ σ))
  value_given outer rows σ p w v e b = let k : Waiting block code w rows σ p = subst (λ o. Beyond block code o rows σ p) (sym e) b in deliver_comes v w k.surroundings σ p k.stands

  way_gone : (outer : Outer V) (rows : List Handler) (σ : Slots V) (p : ℕ) (k : Way V) → way k ≡ outer → Beyond block code outer rows σ p
      → C (control.go block k) (on p σ)
  way_gone outer rows σ p k e b = let h : Going block code k rows σ p = subst (λ o. Beyond block code o rows σ p) (sym e) b in way_comes k h.surroundings σ p h.stands

  comes_within : (outer : Outer V) (rows : List Handler) (σ : Slots V) (p : ℕ) (c : Control V) (t : State V)
      → expressions.Comes block code rows outer σ p c t → Beyond block code outer rows σ p → C c t
  comes_within outer rows σ p _ _ (expressions.near c t k) b = within outer rows σ p c t k b
  comes_within outer rows σ p _ _ (expressions.moves_on c t u e k) b = moves c t u e (comes_within outer rows σ p c u k b)
  comes_within outer rows σ p _ _ (expressions.given w v e) b = value_given outer rows σ p w v e b
  comes_within outer rows σ p _ _ (expressions.gone k e) b = way_gone outer rows σ p k e b
  comes_within outer rows σ p _ _ (expressions.left v τ o) b = beyond_raise outer rows σ τ p v b o

  same_within : (outer : Outer V) (rows : List Handler) (σ : Slots V) (p : ℕ) (u : Turn (Control V) V) (t : Turn (State V) V)
      → expressions.Same block code rows outer σ p u t → Beyond block code outer rows σ p → Same block code u t
  same_within outer rows σ p _ _ (expressions.same_act m a k k' f) b = same_act m a k k' (λ r. comes_within outer rows σ p (k r) (k' r) (f r) b)

  -- replies
  deed_replies : (k : Way V) (s : Nest V) (x : Surroundings) (i : Ins) (τ : Slots V) (u : State V) → i.rows ≡ x.rows → Inside block code s x τ → Lands block code k u
      → (r : Reply V (Unit {0})) → C (control.after_deed block k s r) (after code i τ (λ a. u) r)
  deed_replies k s x i τ u e g h (got a) = lands_comes k u h
  deed_replies k s x i τ u e g h (raised v) = raise_inside s x τ i e g v

  leave_replies : (a : Abrupt V) (s : Nest V) (x : Surroundings) (i : Ins) (τ : Slots V) → i.rows ≡ x.rows → May code a x → Inside block code s x τ
      → (r : Reply V (Unit {0})) → C (control.after_leave block a s r) (after code i τ (λ u. land code x.rows (as_code a x) τ) r)
  leave_replies a s x i τ e m g (got u) = leave_inside s x τ g a m
  leave_replies a s x i τ e m g (raised v) = raise_inside s x τ i e g v

  throw_replies : (s : Nest V) (x : Surroundings) (i : Ins) (τ : Slots V) → i.rows ≡ x.rows → Inside block code s x τ
      → (r : Reply V ⊥) → C (control.after_throw block s r) (after code i τ (λ u. elim u [ ]) r)
  throw_replies s x i τ e g (got u) = elim u [ ]
  throw_replies s x i τ e g (raised v) = raise_inside s x τ i e g v

  truth_replies : (k f : Way V) (s : Nest V) (x : Surroundings) (i : Ins) (τ : Slots V) (next : Bool → State V) → i.rows ≡ x.rows → Inside block code s x τ
      → Lands block code k (next true) → Lands block code f (next false)
      → (r : Reply V Bool) → C (control.after_truth block k f s r) (after code i τ next r)
  truth_replies k f s x i τ next e g ht hf (got true) = lands_comes k _ ht
  truth_replies k f s x i τ next e g ht hf (got false) = lands_comes f _ hf
  truth_replies k f s x i τ next e g ht hf (raised v) = raise_inside s x τ i e g v

  iter_replies : (l n : ℕ) (t : Tgt) (body els : Stms) (s : Nest V) (x : Surroundings) (i : Ins) (σ : Slots V) (q first next other end' : ℕ) → i.rows ≡ x.rows
      → Act_in block code x (instr.Next (record { 0 = other })) n l q first
      → For_at block code l n t (All_at block code body (for_body n t)) (All_at block code els (for_else n t body) x) x first next other end'
      → N s x σ end' → (r : Reply V V) → C (control.after_iter block (F.for_over l n t body els s) r) (after code i σ (λ it. on q (iterator it ∷ σ)) r)
  iter_replies l n t body els s x i σ q first next other end' e hn h g (got v) =
      there _ _ (m_next (mark n l false) v l n t body els s x (on q (iterator v ∷ σ)) (ins (instr.Next (record { 0 = other })) (act_mark q n l false) first x.rows) σ first next other end'
      (turned q _ (iterator v ∷ σ) _ hn refl) refl level (is_there first) h g refl)
  iter_replies l n t body els s x i σ q first next other end' e hn h g (raised v) = raise_inside s x σ i e (from_here s x σ end' g) v

  leads_comes : (c : Control V) (x : Surroundings) (p q : ℕ) (σ : Slots V) → Leads block code x p q → C c (on q σ) → C c (on p σ)
  leads_comes c x _ _ σ (is_there p) k = k
  leads_comes c x _ _ σ (by_jump p m q h) k = moved c p _ σ (on q σ) h refl k

  next_replies : (it : V) (l n : ℕ) (t : Tgt) (body els : Stms) (s : Nest V) (x : Surroundings) (i : Ins) (σ : Slots V) (first next other end' : ℕ) → i.rows ≡ x.rows
      → Leads block code x i.next first
      → For_at block code l n t (All_at block code body (for_body n t)) (All_at block code els (for_else n t body) x) x first next other end' → N s x σ end'
      → (r : Reply V (Option V))
      → C (control.after_item block (n + 1) t (F.stms (for_body n t) body (F.iterating l n it t body els ∷ s)) (F.stms (for_else n t body) els s) r)
      (after code i σ (with_item code i other it σ) r)
  next_replies it l n t body els s x i σ first next other end' e hl (rn, re, (m, ht, hb), hh, ho) g (got (Some v)) =
      let k = F.stms (for_body n t) body (F.iterating l n it t body els ∷ s) in
      let z = in_for next end' x in
      leads_comes _ x i.next first (value v ∷ iterator it ∷ σ) hl
      (within (way k) x.rows (iterator it ∷ σ) m _ _
      (steps.store_comes block code x.rows (way k) (iterator it ∷ σ) m t v (n + 1) (F.stores (n + 1 + target_size t) F.no_more k) (iterator it ∷ σ) first m ht
      (expressions.at_stores _ F.no_more k (iterator it ∷ σ) m m refl (expressions.at_out k refl)))
      (by_way k z (iterator it ∷ σ) m (at_stms (for_body n t) body _ z (iterator it ∷ σ) m next hb
      (at_iterating l n it t body els s x σ first next other end' (rn, re, (m, ht, hb), hh, ho) g)) (busy_alike s x σ end' g)))
  next_replies it l n t body els s x i σ first next other end' e hl (rn, re, hb, hh, ho) g (got None) =
      way_comes _ x σ other (at_stms (for_else n t body) els s x σ other end' ho g)
  next_replies it l n t body els s x i σ first next other end' e hl h g (raised v) = raise_inside s x σ i e (from_here s x σ end' g) v

  entry_replies : (l n : ℕ) (t : Option Tgt) (is : Items) (body : Stms) (s : Nest V) (x : Surroundings) (i : Ins) (σ : Slots V) (row : Handler) (q end' : ℕ) → i.rows ≡ x.rows
      → TakesAll row (deeper x)
      → (Taken_at block code t row n x ⨾ Items_at block code is (All_at block code body) (stms_size body) (behind_target block code t n) (under row (deeper x))
      ⨾ Move_in block code (under row x) instr.Normal) q row.target.0
      → (Act_in block code x instr.Exit (behind_target block code t n + items_size is (stms_size body)) l ⨾ Move_in block code x instr.EndFinally) row.target.0 end'
      → N s x σ end' → (r : Reply V (V × V)) → C (control.after_entry block l n t is body s r) (after code i σ (λ a. on q (value a.1 ∷ exit a.0 ∷ σ)) r)
  entry_replies l n None is body s x i σ row q end' e a (m, hp, (m', h, hn)) hx g (got (w, v)) =
      let k = at_withing l (n + items_size is (stms_size body)) w s x σ row m' end' a hn hx g in
      let b = both _ (under row (deeper x)) (exit w ∷ σ) m' k in
      moved _ q _ (value v ∷ exit w ∷ σ) (on m (exit w ∷ σ)) hp refl
      (items_come is body n _ (under row (deeper x)) (exit w ∷ σ) m m' _ h k b.normally)
  entry_replies l n (Some t) is body s x i σ row q end' e a (m, ht, (m', h, hn)) hx g (got (w, v)) =
      store_comes _ (under row (deeper x)) (exit w ∷ σ) q m t v n ht
      (at_within_items (n + target_size t) is body _ (under row (deeper x)) (exit w ∷ σ) m m' h
      (at_withing l (n + target_size t + items_size is (stms_size body)) w s x σ row m' end' a hn hx g)) (busy_alike s x σ end' g)
  entry_replies l n t is body s x i σ row q end' e a h hx g (raised v) = raise_inside s x σ i e (from_here s x σ end' g) v

  note_replies : (v : V) (s : Nest V) (x : Surroundings) (rows : List Handler) (τ : Slots V) → rows ≡ x.rows → Inside block code s x τ
      → (r : Reply V (Unit {0})) → C (control.after_deed block (F.raises v s) s r) (machine.after_note code v rows τ r)
  note_replies v s x rows τ e g (got u) = raise_under s x rows τ (sym e) g v
  note_replies v s x rows τ e g (raised w) = raise_under s x rows τ (sym e) g w

  same_at : (u : Turn (Control V) V) (t : State V) (r : Turn (State V) V) → machine.turn code t ≡ r → Same block code u r → Same block code u (machine.turn code t)
  same_at u t r e k = subst (λ y. Same block code u y) (sym e) k

  pub follows : Follows block code
  follows _ _ (m_within outer rows σ p c t b m) = same_within outer rows σ p _ _ (steps.follows block code rows outer σ p c t m) b
  follows c _ (m_deed m d k s x t i τ u _ e ec er up g h a en) =
      subst (λ y. Same block code y (machine.turn code t)) (sym ec) (same_at _ t _ e (same_act m (T.deed d) _ _ (deed_replies k s x i τ u er g h)))
  follows _ _ (m_leave m a s x t i τ e er up may g b) = same_at _ t _ e (same_act _ _ _ _ (leave_replies a s x i τ er may g))
  follows _ _ (m_throw m a s x t i τ e er up g b) = same_at _ t _ e (same_act _ _ _ _ (throw_replies s x i τ er g))
  follows _ _ (m_truth m a k f s x t i τ next e er up g ht hf b) = same_at _ t _ e (same_act _ _ _ _ (truth_replies k f s x i τ next er g ht hf))
  follows _ _ (m_iter m v l n tg body els s x t i σ q first next other end' e er up hn h g b) =
      same_at _ t _ e (same_act _ _ _ _ (iter_replies l n tg body els s x i σ q first next other end' er hn h g))
  follows _ _ (m_next m it l n tg body els s x t i σ first next other end' e er up hl h g b) =
      same_at _ t _ e (same_act _ _ _ _ (next_replies it l n tg body els s x i σ first next other end' er hl h g))
  follows _ _ (m_entry m v l n tg is body s x t i σ row q end' e er up a h hx g b) =
      same_at _ t _ e (same_act _ _ _ _ (entry_replies l n tg is body s x i σ row q end' er a h hx g))
  follows _ _ (m_note v s x rows τ e g b) = same_note (raised_again v) _ _ (note_replies v s x rows τ e g)
  follows _ _ (m_over e) = same_over e

  pub blocks_begin : BlocksBegin block code
  blocks_begin starts ss (end', behind, h, hr) =
      let g = at_end starts end' behind hr in
      let b = both [] (outermost starts) [] end' g in
      begin_all_comes ss 0 [] (outermost starts) [] 0 end' _ h g b.normally

  pub lambdas_begin : LambdasBegin block code
  lambdas_begin l e (behind, (m, he, h)) = value_comes (F.returned_by l (size e) []) (outermost []) [] 0 m e 0 false he (at_returned l (size e) [] (outermost []) [] m behind h (record { stands = alone [] []; same_active = refl }))

  pub generators_begin : GeneratorsBegin block code
  generators_begin l e k t cs i (end', behind, behind_all, h, hr) =
      within (way (F.finished [])) [] [] end' _ _
      (steps.item_comes block code [] (way (F.finished [])) [] end' k 0 i t cs (F.generating l e []) 0 [] 0 end' behind h (expressions.at_items l e [] refl))
      (by_way (F.finished []) (outermost []) [] end' (at_finished [] (outermost []) [] end' (at_end [] end' behind_all hr)) refl)

  pub ways_go_on : WaysGoOn block code
  ways_go_on k x σ p h = way_comes k x σ p h

  -- the exception that is active, with what a wait has above a nest
  decorators_active : (ds : List (Decorating V)) (σ : Slots V) → active (decorators_above ds σ) ≡ active σ
  decorators_active [] σ = refl
  decorators_active (d ∷ ds) σ = decorators_active ds σ

  address_active : (a : Address V) (σ : Slots V) → active (addressed a σ) ≡ active σ
  address_active (F.a_name y) σ = refl
  address_active (F.an_attribute a y) σ = refl
  address_active (F.an_item a i) σ = refl

  wait_active : (w : Wait V) (x : Surroundings) (σ : Slots V) (p : ℕ) → W w x σ p → active σ ≡ bases.active (base w)
  wait_active _ _ _ _ (at_dropped l n s x σ p q h g) = busy_alike s x σ q g
  wait_active _ _ _ _ (at_assigned n ts s x σ p q h g) = busy_alike s x σ q g
  wait_active _ _ _ _ (at_asked l n t f x z σ p q other h ht hf a) = a
  wait_active _ _ _ _ (at_asked_back l n t f x z σ p q other h ht hf a) = a
  wait_active _ _ _ _ (at_iterated l k n m t body els s x σ p q first next other end' ht hn h g) = busy_alike s x σ end' g
  wait_active _ _ _ _ (at_deleted_attribute l n y k x σ p q h hk b) = b
  wait_active _ _ _ _ (at_deleted_item l n i k x σ p q h hk b) = b
  wait_active _ _ _ _ (at_deleted_index l n a k x σ p q h hk b) = b
  wait_active _ _ _ _ (at_changed_attribute l n j y o e s x σ p q h g) = busy_alike s x σ q g
  wait_active _ _ _ _ (at_changed_item l n j i o e s x σ p q h g) = busy_alike s x σ q g
  wait_active _ _ _ _ (at_changed_index l n j a o e s x σ p q h g) = busy_alike s x σ q g
  wait_active _ _ _ _ (at_changing l n k to o e s x σ p q h g) = address_active to σ ∙ busy_alike s x σ q g
  wait_active _ _ _ _ (at_changed l n k to v o s x σ p q h g) = address_active to σ ∙ busy_alike s x σ q g
  wait_active _ _ _ _ (at_given_back n k to s x σ p q h g) = address_active to σ ∙ busy_alike s x σ q g
  wait_active _ _ _ _ (at_returned l n s x σ p q h g) = g.same_active
  wait_active _ _ _ _ (at_thrown l n b s x σ p q h g) = g.same_active
  wait_active _ _ _ _ (at_caused l n v s x σ p q h g) = g.same_active
  wait_active _ _ _ _ (at_message l n s x σ p q h g) = g.same_active
  wait_active _ _ _ _ (at_imported l n y xs s x σ p q h g) = busy_alike s x σ q g
  wait_active _ _ _ _ (at_imported_origin l n xs s x σ p q h g) = busy_alike s x σ q g
  wait_active _ _ _ _ (at_imported_name l n y xs o s x σ p q h g) = busy_alike s x σ q g
  wait_active _ _ _ _ (at_matched l k n m e t hds s x σ p q r other end' h hs ht hh g) = refl
  wait_active _ _ _ _ (at_entered l n t is body s x σ row p end' a h hx g) = busy_alike s x σ end' g
  wait_active _ _ _ _ (at_decorated k n before ds l y what s x σ p q h g) = decorators_active before σ ∙ busy_alike s x σ q g
  wait_active _ _ _ _ (at_defined l n y calls s x σ p q h g) = decorators_active calls σ ∙ busy_alike s x σ q g

  beyond_active : (outer : Outer V) (rows : List Handler) (σ : Slots V) (p : ℕ) → Beyond block code outer rows σ p → active σ ≡ bases.active (expressions.outer_base outer)
  beyond_active (wait w) rows σ p b = wait_active w b.surroundings σ p b.stands
  beyond_active (way k) rows σ p b = b.same_active

  pub active_alike : ActiveAlike block code
  active_alike _ _ (m_within outer rows σ p c t b m) =
      let h = steps.all_active block code rows outer σ p c t m in h.1 ∙ beyond_active outer rows σ p b ∙ sym h.0
  active_alike _ _ (m_deed m d k s x t i τ u c e ec er up g h a en) = a
  active_alike _ _ (m_leave m a s x t i τ e er up may g b) = b
  active_alike _ _ (m_throw m a s x t i τ e er up g b) = b
  active_alike _ _ (m_truth m a k f s x t i τ next e er up g ht hf b) = b
  active_alike _ _ (m_iter m v l n tg body els s x t i σ q first next other end' e er up hn h g b) = b ∙ busy_alike s x σ end' g
  active_alike _ _ (m_next m it l n tg body els s x t i σ first next other end' e er up hl h g b) = b ∙ busy_alike s x σ end' g
  active_alike _ _ (m_entry m v l n tg is body s x t i σ row q end' e er up a h hx g b) = b ∙ busy_alike s x σ end' g
  active_alike _ _ (m_note v s x rows τ e g b) = b
  active_alike _ _ (m_over e) = refl

  -- slots lie as in control's nest
  inside_more : (s : Nest V) (x : Surroundings) (σ τ : Slots V) → Above σ τ → Inside block code s x σ → Inside block code s x τ
  inside_more s x σ _ level h = h
  inside_more s x σ _ (raised_by u τ o) h = inside_push s x u τ (inside_more s x σ τ o h)

  inside_beyond : (outer : Outer V) (rows : List Handler) (σ : Slots V) (p : ℕ) → Beyond block code outer rows σ p
      → (x : Surroundings) × Inside block code (expressions.outer_base outer) x σ
  inside_beyond (wait w) rows σ p b = (b.surroundings, inside_wait w b.surroundings σ p b.stands)
  inside_beyond (way k) rows σ p b = (b.surroundings, inside_way k b.surroundings σ p b.stands)

  pub nests_lie : NestsLie block code
  nests_lie _ _ (m_within outer rows σ p c t b m) =
      let h = steps.all_lie block code rows outer σ p c t m in
      let g = inside_beyond outer rows σ p b in
      (g.0, subst (λ s. Inside block code s g.0 (slots_in t)) (sym h.0) (inside_above _ g.0 σ (slots_in t) h.1 g.1))
  nests_lie _ _ (m_deed m d k s x t i τ u c e ec er up g h a en) =
      (x, subst (λ n. Inside block code n x (slots_in t)) (sym en) (inside_more s x τ (slots_in t) up g))
  nests_lie _ _ (m_leave m a s x t i τ e er up may g b) = (x, inside_more s x τ (slots_in t) up g)
  nests_lie _ _ (m_throw m a s x t i τ e er up g b) = (x, inside_more s x τ (slots_in t) up g)
  nests_lie _ _ (m_truth m a k f s x t i τ next e er up g ht hf b) = (x, inside_more s x τ (slots_in t) up g)
  nests_lie _ _ (m_iter m v l n tg body els s x t i σ q first next other end' e er up hn h g b) =
      (x, inside_more s x σ (slots_in t) up (from_here s x σ end' g))
  nests_lie _ _ (m_next m it l n tg body els s x t i σ first next other end' e er up hl h g b) = (
    in_for next end' x,
    inside_more _ (in_for next end' x) (iterator it ∷ σ) (slots_in t) up
        (from_here _ (in_for next end' x) (iterator it ∷ σ) next (at_iterating l n it tg body els s x σ first next other end' h g)),
  )
  nests_lie _ _ (m_entry m v l n tg is body s x t i σ row q end' e er up a h hx g b) =
      (x, inside_more s x σ (slots_in t) up (from_here s x σ end' g))
  nests_lie _ _ (m_note v s x rows τ e g b) = (x, g)
  nests_lie _ _ (m_over e) = (outermost [], alone [] [])
