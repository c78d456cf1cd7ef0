-- One step of the code for one of control, within an expression.
use Rattle.std.proofs.Common.{◌≡◌, ℕ, ◌+◌, suc, Bool, true, false, List, [], ◌∷◌, ◌++◌, Option, Some, None, refl, sym, ap, ◌∙◌, subst, reverse}
use Rattle.pt_ranges.specs.declared.handlers.Handler.{Handler}
use Rattle.pt_tree.specs.declared.expression.Conversion.{Conversion}
use Rattle.pt_base.specs.declared.operators.CompareOp.{CompareOp}
use Rattle.pt_tree.specs.Syntax as S
use Rattle.pt_tree.specs.Syntax.{Name, Exp, Exps, Opt, Pieces, Links, Made, Clauses, Place, Tgt, Tgts, Formals}
use Rattle.pt_tree.specs.Sizes.{size, target_size}
use Rattle.pt_instr.specs.declared.Instr.{Instr}
use Rattle.pt_instr.specs.declared.Instr.TheVariants as instr
use Rattle.pt_code.specs.View.{Ins}
use Rattle.sem_control.specs.control.Turn as T
use Rattle.sem_control.specs.control.Turn.{Mark, mark, Around, Variable, Operation, Seek, Delegated, returned, resumed, Reply, got, raised, Turn, act, move}
use Rattle.sem_control.specs.control.Frames as F
use Rattle.sem_control.specs.control.Frames.{Operand, Nest, Way, Wait, Over, Rounds, Stores, Control, for_value, for_truth, for_iter, for_delegate}
use Rattle.sem_control.specs.control.Bases as bases
use Rattle.sem_control.specs.control.Bases.{base, way_base, over_base, rounds_base, around, around_way, around_rounds, rounds_line}
use Rattle.sem_control.specs.control.Expressions.{begin_operation, begin_exp, begin_defaults, next_operand, begin_spec, cells_of, making, of_exps, of_pieces, of_args, of_formals, begin_made, begin_last, begin_clauses, take_item, built_as}
use Rattle.sem_control.specs.control.Statements.{begin_store, begin_stores, each_gets, count as count_targets}
use Rattle.sem_control.specs.control.Completions.{complete}
use Rattle.sem_control.specs.control.Control as control
use Rattle.sem_code.specs.slots.Slots.{raise, Slot, value, cell, iterator, Slots, State, on, thrown_to, reraises, off, busy_with, or_else, active}
use Rattle.sem_code.specs.slots.CodeObject.{CodeObject}
use Rattle.sem_code.specs.slots.Landing.{land}
use Rattle.sem_code.specs.slots.Pops.{giving, the_value}
use Rattle.sem_code.specs.slots.Steps.{after, branches, decided, delegated, with_item}
use Rattle.sem_code.specs.slots.Instructions.{perform}
use Rattle.sem_code.specs.slots.Machine as machine
use Rattle.sem_code.specs.slots.Machine.{here, thrown_here}
use Rattle.sem_code.specs.comp_expr.Places.{count, above, cells_above, iterators_above, act_mark, ins, Act_at, Null_at, Seek_at, Made_at, Op_at, Exp_at, Behind_at, Spec_at, Links_at, Formals_at, First_at, Clauses_at, Item_at, Target_at, Targets_at, Renewed_at}
use Rattle.sem_code.specs.comp_expr.Law.{On_top, same, push, active_at, slots_in, Leaves, Outer, wait, way, outer_base, Waits_on, at_end, at_operands, at_yielded, at_formatted, at_comparing, at_compared, at_linked, at_anded, at_ored, at_asked, at_iterated, at_built, at_listed, at_set, at_keyed, at_entered, at_item_yielded, at_item_sent, at_attribute, at_container, at_index, behind_jump, over_value, Way_on, at_out, at_value, at_given, at_linked_on, way_behind_jump, at_stores, at_clauses, at_round, at_renewed, Rounds_on, at_result, at_items, at_clause, Makes, makes, makes_in, stored, Stores_at, Last_at, Item_taken, Over_on, over_generator, over_delegated, over_comprehension, over_clause, Inside, inside, inside_out, Lands, lands, Match, m_value, m_cell, m_truth, m_deed, m_item, m_unpack, m_iter, m_delegate, Nears, there, moves, Comes, near, moves_on, given, gone, left, Same, same_act, Follows, AllBegin, AllStore, AllActive, AllLie}
use Rattle.sem_code.proofs.comp_expr.Lists.{exps_behind, entries_behind, args_behind, pieces_behind, part_behind, formals_behind, last_behind}

module _ {V : Type 0} where
  pub popped : (s : Slot V) (ss ts : Slots V) → On_top (s ∷ ss) ts → busy_with s ≡ None → On_top ss ts
  popped s ss _ same n = push s ss same n
  popped s ss _ (push t ts o m) n = push t ts (popped s ss ts o n) m

  -- what is active
  pub top_active : (ss ts : Slots V) → On_top ss ts → active ts ≡ active ss
  top_active ss _ same = refl
  top_active ss _ (push t ts o n) = ap (λ b. or_else b (active ts)) n ∙ top_active ss ts o

  top_on_top : (ss ts us : Slots V) → On_top ss ts → On_top ts us → On_top ss us
  top_on_top ss ts _ o same = o
  top_on_top ss ts _ o (push s us h n) = push s us (top_on_top ss ts us o h) n

  all_popped : (vs : List V) (ss ts : Slots V) → On_top (above vs ss) ts → On_top ss ts
  all_popped [] ss ts o = o
  all_popped (v ∷ vs) ss ts o = all_popped vs ss ts (popped (value v) (above vs ss) ts o refl)

  pub on_above : (vs : List V) (ss : Slots V) → On_top ss (above vs ss)
  on_above [] ss = same
  on_above (v ∷ vs) ss = push (value v) (above vs ss) (on_above vs ss) refl

  on_cells : (cs : List V) (ss ts : Slots V) → On_top ss ts → On_top ss (cells_above cs ts)
  on_cells [] ss ts o = o
  on_cells (c ∷ cs) ss ts o = push (cell c) (cells_above cs ts) (on_cells cs ss ts o) refl

  stored_popped : (st : Stores V) (ss ts : Slots V) → On_top (stored st ss) ts → On_top ss ts
  stored_popped F.no_more ss ts o = o
  stored_popped (F.and_store t v st) ss ts o = stored_popped st ss ts (popped (value v) (stored st ss) ts o refl)

  -- what is unpacked is due to the targets
  pub giving_stored : (ts : Tgts) (vs : T.Row V (count_targets ts)) (ss : Slots V) → giving (count_targets ts) vs ss ≡ stored (each_gets ts vs) ss
  giving_stored S.no_targets u ss = refl
  giving_stored (S.more_targets t ts) (v, vs) ss = ap (λ us. value v ∷ us) (giving_stored ts vs ss)

module _ {V : Type 0} (block : Around V) (code : CodeObject V) (rows : List Handler) where
  pub gets_at : (ts : Tgts) (vs : T.Row V (count_targets ts)) (n : ℕ) (v : List ℕ) (p q : ℕ)
      → Targets_at block code rows ts n v p q → Stores_at block code rows (each_gets ts vs) n v p q
  gets_at S.no_targets u n v p q h = h
  gets_at (S.more_targets t ts) (w, vs) n v p q (m, ht, hs) = (m, ht, gets_at ts vs (n + target_size t) v m q hs)

module _ {V : Type 0} (block : Around V) (code : CodeObject V) (rows : List Handler) (outer : Outer V) (lowest : Slots V) (end : ℕ) where
  abbrev C : Control V → State V → Type 0
  C c t = Comes block code rows outer lowest end c t

  abbrev N : Control V → State V → Type 0
  N c t = Nears block code rows outer lowest end c t

  abbrev W : Wait V → Slots V → ℕ → Type 0
  W w ss q = Waits_on block code rows outer lowest end w ss q

  -- a raise goes from an expression to where its wait lies
  raise_out : (o : Outer V) (s : Nest V) (ts : Slots V) (v : V) → o ≡ outer → outer_base o ≡ s → On_top lowest ts
      → C (complete block (F.by (F.raise v)) s) (land code rows (raise v) ts)
  raise_out o s ts v e h u = subst (λ r. C (complete block (F.by (F.raise v)) r) (land code rows (raise v) ts)) (ap (λ o. outer_base o) (sym e) ∙ h) (left v ts u)

  mutual
    raise_wait : (w : Wait V) (ss ts : Slots V) (q : ℕ) (v : V) → W w ss q → On_top ss ts → C (complete block (F.by (F.raise v)) (base w)) (land code rows (raise v) ts)
    raise_wait _ _ ts _ v (at_end w e) o = raise_out (wait w) (base w) ts v e refl o
    raise_wait _ _ ts _ v (at_operands l n op before behind w ss p q h k) o = raise_wait w ss ts q v k (all_popped before ss ts o)
    raise_wait _ _ ts _ v (at_yielded l n w ss p q h k) o = raise_wait w ss ts q v k o
    raise_wait _ _ ts _ v (at_formatted l n c sp w ss p q h k) o = raise_wait w ss ts q v k o
    raise_wait _ _ ts _ v (at_comparing l n c b r w ss p q h k) o = raise_wait w ss ts q v k o
    raise_wait _ _ ts _ v (at_compared l n a c r w ss p q h k) o = raise_wait w ss ts q v k (popped _ ss ts o refl)
    raise_wait _ _ ts _ v (at_linked l n a c b r w ss p other to h hs k) o = raise_wait w ss ts to v k (popped _ ss ts o refl)
    raise_wait _ _ ts _ v (at_anded l n es w ss p q h k) o = raise_wait w ss ts q v k o
    raise_wait _ _ ts _ v (at_ored l n es w ss p q h k) o = raise_wait w ss ts q v k o
    raise_wait _ _ ts _ v (at_asked l n t f ss p q other h ht hf) o = raise_way f ss ts other v hf o
    raise_wait _ _ ts _ v (at_iterated l n i ss p q h k) o = raise_over i ss ts q v k o
    raise_wait _ _ ts _ v (at_built l n a i t cs m w ss p p' head end' q hs hr hn k) o = raise_wait w ss ts q v k (popped _ ss ts o refl)
    raise_wait _ _ ts _ v (at_listed l n d head made r ss p q h mk hr) o = raise_rounds r d ss ts head v hr o
    raise_wait _ _ ts _ v (at_set l n d head made r ss p q h mk hr) o = raise_rounds r d ss ts head v hr o
    raise_wait _ _ ts _ v (at_keyed l n d head e made r ss p q h mk hr) o = raise_rounds r d ss ts head v hr o
    raise_wait _ _ ts _ v (at_entered l n d head key made r ss p q h mk hr) o = raise_rounds r d ss ts head v hr (popped _ ss ts o refl)
    raise_wait _ _ ts _ v (at_item_yielded l n head r d ss p q h hr) o = raise_rounds r d ss ts head v hr o
    raise_wait _ _ ts _ v (at_item_sent l n head r d ss p q h hr) o = raise_rounds r d ss ts head v hr o
    raise_wait _ _ ts _ v (at_attribute l n x u k ss p q h hk) o = raise_way k ss ts q v hk (popped _ ss ts o refl)
    raise_wait _ _ ts _ v (at_container l n i u k ss p q h hk) o = raise_way k ss ts q v hk (popped _ ss ts o refl)
    raise_wait _ _ ts _ v (at_index l n a u k ss p q h hk) o = raise_way k ss ts q v hk (popped _ ss ts (popped _ (value u ∷ ss) ts o refl) refl)
    raise_wait _ _ ts _ v (behind_jump w ss p m q h k) o = raise_wait w ss ts q v k o
    raise_wait _ _ ts _ v (over_value u w ss p m q hs hp k) o = raise_wait w ss ts q v k (popped _ ss ts o refl)

    raise_way : (k : Way V) (ss ts : Slots V) (q : ℕ) (v : V) → Way_on block code rows outer lowest end k ss q → On_top ss ts
        → C (complete block (F.by (F.raise v)) (way_base k)) (land code rows (raise v) ts)
    raise_way _ _ ts _ v (at_out k e) o = raise_out (way k) (way_base k) ts v e refl o
    raise_way _ _ ts _ v (at_value n e w ss p q h k) o = raise_wait w ss ts q v k o
    raise_way _ _ ts _ v (at_given u w ss p k) o = raise_wait w ss ts p v k (popped _ ss ts o refl)
    raise_way _ _ ts _ v (at_linked_on l n a c b r w ss p q h k) o = raise_wait w ss ts q v k (popped _ ss ts o refl)
    raise_way _ _ ts _ v (way_behind_jump k ss p m q h hk) o = raise_way k ss ts q v hk o
    raise_way _ _ ts _ v (at_stores n st k ss p q h hk) o = raise_way k ss ts q v hk (stored_popped st ss ts o)
    raise_way _ _ ts _ v (at_clauses n d head cs r ss p q h hr) o = raise_rounds r d ss ts head v hr o
    raise_way _ _ ts _ v (at_round d r ss p hr) o = raise_rounds r d ss ts p v hr o
    raise_way _ _ ts _ v (at_renewed xs l n d p head end' next i t cs r ss h hi hr) o = raise_rounds r d ss ts next v hr (popped _ ss ts o refl)

    raise_rounds : (r : Rounds V) (d : ℕ) (ss ts : Slots V) (p : ℕ) (v : V) → Rounds_on block code rows outer lowest end r d ss p → On_top ss ts
        → C (complete block (F.by (F.raise v)) (rounds_base r)) (land code rows (raise v) ts)
    raise_rounds _ _ _ ts _ v (at_result l n m made w ss p k) o = raise_wait w ss ts p v k (popped _ ss ts o refl)
    raise_rounds _ _ _ ts _ v (at_items l i s e) o = raise_out (way (F.finished s)) s ts v e refl o
    raise_rounds _ _ _ ts _ v (at_clause l n d i t cs r ss p head end' h hr) o = raise_rounds r d ss ts head v hr (popped _ ss ts o refl)

    raise_over : (i : Over V) (ss ts : Slots V) (q : ℕ) (v : V) → Over_on block code rows outer lowest end i ss q → On_top ss ts
        → C (complete block (F.by (F.raise v)) (over_base i)) (land code rows (raise v) ts)
    raise_over _ _ ts _ v (over_generator l n b w ss p q h k) o = raise_wait w ss ts q v k o
    raise_over _ _ ts _ v (over_delegated l n w ss p m q hn h k) o = raise_wait w ss ts q v k o
    raise_over _ _ ts _ v (over_comprehension l n a t cs m w ss p p1 p2 head end' q hm hs hr hn k) o = raise_wait w ss ts q v k o
    raise_over _ _ ts _ v (over_clause l n d t cs r ss p head end' h hr) o = raise_rounds r d ss ts head v hr o

  inside_rounds : (r : Rounds V) (d : ℕ) (ss ts : Slots V) (p : ℕ) → Rounds_on block code rows outer lowest end r d ss p → On_top ss ts
      → Inside block code rows outer lowest end (rounds_base r) ts
  inside_rounds _ _ _ ts _ (at_result l n m made w ss p k) o = inside w ss ts p k (popped _ ss ts o refl)
  inside_rounds _ _ _ ts _ (at_items l i s e) o = inside_out (F.finished s) ts e o
  inside_rounds _ _ _ ts _ (at_clause l n d i t cs r ss p head end' h hr) o = inside_rounds r d ss ts head hr (popped _ ss ts o refl)

  inside_way : (k : Way V) (ss ts : Slots V) (q : ℕ) → Way_on block code rows outer lowest end k ss q → On_top ss ts → Inside block code rows outer lowest end (way_base k) ts
  inside_way _ _ ts _ (at_out k e) o = inside_out k ts e o
  inside_way _ _ ts _ (at_value n e w ss p q h k) o = inside w ss ts q k o
  inside_way _ _ ts _ (at_given u w ss p k) o = inside w ss ts p k (popped _ ss ts o refl)
  inside_way _ _ ts _ (at_linked_on l n a c b r w ss p q h k) o = inside w ss ts q k (popped _ ss ts o refl)
  inside_way _ _ ts _ (way_behind_jump k ss p m q h hk) o = inside_way k ss ts q hk o
  inside_way _ _ ts _ (at_stores n st k ss p q h hk) o = inside_way k ss ts q hk (stored_popped st ss ts o)
  inside_way _ _ ts _ (at_clauses n d head cs r ss p q h hr) o = inside_rounds r d ss ts head hr o
  inside_way _ _ ts _ (at_round d r ss p hr) o = inside_rounds r d ss ts p hr o
  inside_way _ _ ts _ (at_renewed xs l n d p head end' next i t cs r ss h hi hr) o = inside_rounds r d ss ts next hr (popped _ ss ts o refl)

  -- the result of a comprehension lies below its iterators
  found : (r : Rounds V) (d : ℕ) (ss : Slots V) (p : ℕ) (made : V) (next : V → Turn (State V) V) → Rounds_on block code rows outer lowest end r d ss p → Makes r made
      → the_value (suc d) ss next ≡ next made
  found _ _ _ _ made next (at_result l n m _ w ss p k) (makes _ _ _ _ _) = refl
  found _ _ _ _ made next (at_items l i s h) mk = elim mk [ ]
  found _ _ _ _ made next (at_clause l n d i t cs r ss p head end' h hr) (makes_in _ _ _ _ _ _ _ mk) = found r d ss head made next hr mk

  -- an instruction stands under the rows, and what it takes is not busy
  under : {t : State V} {i : Ins} {ss : Slots V} → i.rows ≡ rows → On_top ss (slots_in t) → Leaves t i rows ss
  under e o = record { same_rows = e; on_top = o }

  -- an instruction is done; a move is made
  pub turn_at : (p : ℕ) (i : Ins) (ss : Slots V) (t : Turn (State V) V) → code.at p ≡ Some i → perform code p i i.instr ss ≡ t → machine.turn code (on p ss) ≡ t
  turn_at p i ss t h e = ap (λ o. here code p o ss) h ∙ e

  moved : (c : Control V) (p : ℕ) (i : Ins) (ss : Slots V) (u : State V) → code.at p ≡ Some i → perform code p i i.instr ss ≡ move u → N c u → N c (on p ss)
  moved c p i ss u h e k = moves c (on p ss) u (turn_at p i ss (move u) h e) k

  moved_on : (c : Control V) (p : ℕ) (i : Ins) (ss : Slots V) (u : State V) → code.at p ≡ Some i → perform code p i i.instr ss ≡ move u → C c u → C c (on p ss)
  moved_on c p i ss u h e k = moves_on c (on p ss) u (turn_at p i ss (move u) h e) k

  null_comes : (c : Control V) (p q : ℕ) (ss : Slots V) → Null_at block code rows p q → N c (on q (value block.null ∷ ss)) → N c (on p ss)
  null_comes c p q ss h k = moved c p _ ss _ h.stands (h.does ss) k

  seek_comes : (s : Seek V) (l n : ℕ) (g : Bool) (w : Wait V) (ss : Slots V) (p q : ℕ)
      → Seek_at block code rows s n l g p q → W w ss q → N (for_value (mark n l g) s w) (on p ss)
  seek_comes s l n g w ss p q h k =
      there _ _ (m_value (mark n l g) s w (on p ss) (ins h.instr (act_mark p n l g) q rows) ss ss q (turn_at p _ ss _ h.stands (h.does ss)) (under refl same) same k)

  -- cells are given, and then the operation
  pub made_comes : (xs : List Variable) (op : Operation) (lower : List V → Slots V → Slots V) (l n : ℕ) (g : Bool) (cs vs before : List V) (w : Wait V) (ss : Slots V) (p q : ℕ)
      → Made_at block code rows xs op lower l n g (count vs) (count cs) p q → before ≡ cs ++ vs → On_top ss (lower vs ss) → W w ss q
      → N (begin_operation block xs l n g op before w) (on p (cells_above cs (lower vs ss)))
  made_comes [] op lower l n g cs vs before w ss p q h e o k =
      there _ _ (m_value (mark n l g) (T.operate op (reverse before)) w _ (ins h.instr (act_mark p n l g) q rows) ss ss q
      (turn_at p _ _ _ h.stands (h.does cs vs ss refl refl)
      ∙ ap (λ b. act (Some (mark n l g)) (T.seek (T.operate op (reverse b))) (after code (ins h.instr (act_mark p n l g) q rows) ss (λ v. on q (value v ∷ ss)))) (sym e)) (under refl (on_cells cs ss (lower vs ss) o)) same k)
  made_comes (x ∷ xs) op lower l n g cs vs before w ss p q (m, h, hs) e o k =
      there _ _ (m_cell x l n g op lower cs vs before xs w _ (ins h.instr None m rows) ss (cells_above cs (lower vs ss)) m q
      (turn_at p _ _ _ h.stands (h.does (cells_above cs (lower vs ss)))) (under refl same) (on_cells cs ss (lower vs ss) o) o hs e k)

  -- an expression begins
  mutual
    pub begin_exp_comes : (e : Exp) (n : ℕ) (g : Bool) (w : Wait V) (ss : Slots V) (p q : ℕ)
        → Exp_at block code rows e n g (around w) p q → W w ss q → N (begin_exp block e n g w) (on p ss)
    begin_exp_comes (S.constant l c) n g w ss p q h k = seek_comes (T.const c) l n g w ss p q h k
    begin_exp_comes (S.name l x) n g w ss p q h k = seek_comes _ l n g w ss p q h k
    begin_exp_comes (S.joined l S.no_pieces) n g w ss p q h k = made_comes [] T.join above l n g [] [] [] w ss p q h refl same k
    begin_exp_comes (S.joined l (S.literal a t r)) n g w ss p q (m, h, hr) k =
        seek_comes _ a n g _ ss p m h (at_operands l (n + 1) T.join [] (of_pieces r) w ss m q (pieces_behind block code rows r T.join l (n + 1) 1 (around w) m q hr) k)
    begin_exp_comes (S.joined l (S.field a e c sp r)) n g w ss p q (m, he, (m', hs, hr)) k =
        begin_exp_comes e n g _ ss p m he (at_formatted a (n + size e) c sp _ ss m m' hs
        (at_operands l _ T.join [] (of_pieces r) w ss m' q (pieces_behind block code rows r T.join l _ 1 (around w) m' q hr) k))
    begin_exp_comes (S.tuple l S.no_exps) n g w ss p q h k = made_comes [] T.tuple above l n g [] [] [] w ss p q h refl same k
    begin_exp_comes (S.tuple l (S.more_exps e es)) n g w ss p q (m, he, hs) k =
        begin_exp_comes e n g _ ss p m he (at_operands l _ T.tuple [] (of_exps es) w ss m q (exps_behind block code rows es T.tuple l _ 1 (around w) m q hs) k)
    begin_exp_comes (S.list l S.no_exps) n g w ss p q h k = made_comes [] T.list above l n g [] [] [] w ss p q h refl same k
    begin_exp_comes (S.list l (S.more_exps e es)) n g w ss p q (m, he, hs) k =
        begin_exp_comes e n g _ ss p m he (at_operands l _ T.list [] (of_exps es) w ss m q (exps_behind block code rows es T.list l _ 1 (around w) m q hs) k)
    begin_exp_comes (S.set l S.no_exps) n g w ss p q h k = made_comes [] T.set above l n g [] [] [] w ss p q h refl same k
    begin_exp_comes (S.set l (S.more_exps e es)) n g w ss p q (m, he, hs) k =
        begin_exp_comes e n g _ ss p m he (at_operands l _ T.set [] (of_exps es) w ss m q (exps_behind block code rows es T.set l _ 1 (around w) m q hs) k)
    begin_exp_comes (S.dict l S.no_entries) n g w ss p q h k = made_comes [] T.dict above l n g [] [] [] w ss p q h refl same k
    begin_exp_comes (S.dict l (S.entry a b r)) n g w ss p q (m, ha, (m', hb, hr)) k =
        begin_exp_comes a n g _ ss p m ha (at_operands l _ T.dict [] _ w ss m q
        (m', hb, entries_behind block code rows r T.dict l _ 2 (around w) m' q hr) k)
    begin_exp_comes (S.attribute l a x) n g w ss p q (m, ha, h) k = begin_exp_comes a n g _ ss p m ha (at_operands l _ _ [] [] w ss m q h k)
    begin_exp_comes (S.item l a i) n g w ss p q (m, ha, h) k = begin_exp_comes a n g _ ss p m ha (at_operands l _ T.item [] _ w ss m q h k)
    begin_exp_comes (S.slice l S.absent S.absent S.absent) n g w ss p q (m, h1, (m2, h2, (m3, h3, h))) k =
        null_comes _ p m ss h1 (null_comes _ m m2 _ h2 (null_comes _ m2 m3 _ h3
        (made_comes [] T.slice above l n g [] (block.null ∷ block.null ∷ block.null ∷ []) _ w ss m3 q h refl (on_above (block.null ∷ block.null ∷ block.null ∷ []) ss) k)))
    begin_exp_comes (S.slice l S.absent S.absent (S.given c)) n g w ss p q (m, h1, (m2, h2, (m3, hc, h))) k =
        null_comes _ p m ss h1 (null_comes _ m m2 _ h2
        (begin_exp_comes c n g _ _ m2 m3 hc (at_operands l _ T.slice (block.null ∷ block.null ∷ []) [] w ss m3 q h k)))
    begin_exp_comes (S.slice l S.absent (S.given b) c) n g w ss p q (m, h1, (m2, hb, h)) k =
        null_comes _ p m ss h1 (begin_exp_comes b n g _ _ m m2 hb (at_operands l _ T.slice (block.null ∷ []) _ w ss m2 q
        (part_behind block code rows c [] T.slice l _ 2 (around w) _ m2 q (λ m p q h. h) h) k))
    begin_exp_comes (S.slice l (S.given a) b c) n g w ss p q (m, ha, h) k =
        begin_exp_comes a n g _ ss p m ha (at_operands l _ T.slice [] _ w ss m q
        (part_behind block code rows b _ T.slice l _ 1 (around w) _ m q
        (λ m p q h. part_behind block code rows c [] T.slice l m 2 (around w) _ p q (λ m p q h. h) h) h) k)
    begin_exp_comes (S.unary l o a) n g w ss p q (m, ha, h) k = begin_exp_comes a n g _ ss p m ha (at_operands l _ _ [] [] w ss m q h k)
    begin_exp_comes (S.not_of l a) n g w ss p q (m, ha, h) k = begin_exp_comes a n g _ ss p m ha (at_operands l _ _ [] [] w ss m q h k)
    begin_exp_comes (S.binary l o a b) n g w ss p q (m, ha, h) k = begin_exp_comes a n g _ ss p m ha (at_operands l _ _ [] _ w ss m q h k)
    begin_exp_comes (S.compare l a o b r) n g w ss p q (m, ha, h) k = begin_exp_comes a n g _ ss p m ha (at_comparing l _ o b r w ss m q h k)
    begin_exp_comes (S.and l a es) n g w ss p q (m, ha, h) k = begin_exp_comes a n g _ ss p m ha (at_anded l _ es w ss m q h k)
    begin_exp_comes (S.or l a es) n g w ss p q (m, ha, h) k = begin_exp_comes a n g _ ss p m ha (at_ored l _ es w ss m q h k)
    begin_exp_comes (S.conditional l c a b) n g w ss p q (other, (m, hc, (m', hj, (m2, ha, out))), hb) k =
        begin_exp_comes c n g _ ss p m hc (at_asked l _ _ _ ss m m' other hj
        (at_value _ a w ss m' m2 ha (behind_jump w ss m2 other q out k)) (at_value _ b w ss other q hb k))
    begin_exp_comes (S.call l f args) n g w ss p q (m, hf, h) k =
        begin_exp_comes f n g _ ss p m hf (at_operands l _ _ [] (of_args l args) w ss m q (args_behind block code rows args _ l _ 1 (around w) m q h) k)
    begin_exp_comes (S.lambda l b (S.parameters ps s ks d) e) n g w ss p q h k =
        first_plain_comes ps ks (making block b ps ks) l n g w _ ss p q h (λ h. first_keyword_comes ks (making block b ps ks) l n g w ss p q h k) k
    begin_exp_comes (S.comprehension l m a t it cs) n g w ss p q (head, end', (m0, hi, (m1, ht, (m2, hm, (m3, hs, hr)))), hn) k =
        begin_exp_comes it n g _ ss p m0 hi (at_iterated a _ _ ss m0 m1 ht
        (over_comprehension l _ a t cs m w ss m1 m2 m3 head end' q hm hs hr hn k))
    begin_exp_comes (S.generator l b e a t it cs) n g w ss p q (m, hi, (m', h, hg)) k =
        begin_exp_comes it n g _ ss p m hi (at_iterated a _ _ ss m m' h (over_generator l _ b w ss m' q hg k))
    begin_exp_comes (S.yield l S.absent) n g w ss p q (m, hn, h) k =
        null_comes _ p m ss hn (there _ _ (m_value _ _ w _ (ins instr.Yield (act_mark m n l g) q rows) ss ss q (turn_at m _ _ _ h refl) (under refl (push _ _ same refl)) same k))
    begin_exp_comes (S.yield l (S.given e)) n g w ss p q (m, he, h) k = begin_exp_comes e n g _ ss p m he (at_yielded l _ w ss m q h k)
    begin_exp_comes (S.yield_from l e) n g w ss p q (m, he, (m', h, (m2, hn, hd))) k =
        begin_exp_comes e n g _ ss p m he (at_iterated l _ _ ss m m' h (over_delegated l _ w ss m' m2 q hn hd k))

    first_keyword_comes : (fs : Formals) (op : Operation) (l n : ℕ) (g : Bool) (w : Wait V) (ss : Slots V) (p q : ℕ)
        → First_at block code rows fs n g (around w) (Op_at block code rows op l n g 0) (λ m j. Op_at block code rows op l m false j) p q → W w ss q
        → N (begin_defaults block fs [] op l n g w (begin_operation block (cells_of block op) l n g op [] w)) (on p ss)
    first_keyword_comes S.no_formals op l n g w ss p q h k = made_comes (cells_of block op) op above l n g [] [] [] w ss p q h refl same k
    first_keyword_comes (S.formal x y t S.absent r) op l n g w ss p q h k = first_keyword_comes r op l n g w ss p q h k
    first_keyword_comes (S.formal x y t (S.given d) r) op l n g w ss p q (m, hd, h) k =
        begin_exp_comes d n g _ ss p m hd (at_operands l _ op [] _ w ss m q
        (formals_behind block code rows r [] op l _ 1 (around w) (λ m j. Op_at block code rows op l m false j) m q (λ m j p q h. h) h) k)

    -- where no plain parameter has a default, those of the others come
    first_plain_comes : (fs ks : Formals) (op : Operation) (l n : ℕ) (g : Bool) (w : Wait V) (c : Control V) (ss : Slots V) (p q : ℕ)
        → First_at block code rows fs n g (around w) (First_at block code rows ks n g (around w) (Op_at block code rows op l n g 0) (λ m j. Op_at block code rows op l m false j))
        (λ m j. Formals_at block code rows ks m j (around w) (λ m j. Op_at block code rows op l m false j)) p q
        → (First_at block code rows ks n g (around w) (Op_at block code rows op l n g 0) (λ m j. Op_at block code rows op l m false j) p q → N c (on p ss)) → W w ss q
        → N (begin_defaults block fs (of_formals ks) op l n g w c) (on p ss)
    first_plain_comes S.no_formals ks op l n g w c ss p q h a k = a h
    first_plain_comes (S.formal x y t S.absent r) ks op l n g w c ss p q h a k = first_plain_comes r ks op l n g w c ss p q h a k
    first_plain_comes (S.formal x y t (S.given d) r) ks op l n g w c ss p q (m, hd, h) a k =
        begin_exp_comes d n g _ ss p m hd (at_operands l _ op [] _ w ss m q
        (formals_behind block code rows r (of_formals ks) op l _ 1 (around w) (λ m j. Formals_at block code rows ks m j (around w) (λ m j. Op_at block code rows op l m false j)) m q
        (λ m j p q h. last_behind block code rows ks op l m j (around w) p q h) h) k)

  -- the operands that are left, and the spec of a field
  mutual
    pub next_operand_comes : (os : List Operand) (op : Operation) (l n : ℕ) (before : List V) (w : Wait V) (ss : Slots V) (p q : ℕ)
        → Behind_at block code rows os op l n (count before) (around w) p q → W w ss q → N (next_operand block l n op before os w) (on p (above before ss))
    next_operand_comes [] op l n before w ss p q h k = made_comes (cells_of block op) op above l n false [] before before w ss p q h refl (on_above before ss) k
    next_operand_comes (F.missing ∷ os) op l n before w ss p q (m, hn, h) k =
        null_comes _ p m (above before ss) hn (next_operand_comes os op l n (block.null ∷ before) w ss m q h k)
    next_operand_comes (F.plain e ∷ os) op l n before w ss p q (m, he, h) k =
        begin_exp_comes e n false _ (above before ss) p m he (at_operands l _ op before os w ss m q h k)
    next_operand_comes (F.spread_of a e ∷ os) op l n before w ss p q (m, he, (m', hs, h)) k =
        begin_exp_comes e n false _ (above before ss) p m he (at_operands a _ T.spread_out [] [] _ (above before ss) m m' hs (at_operands l _ op before os w ss m' q h k))
    next_operand_comes (F.spread_named_of a e ∷ os) op l n before w ss p q (m, he, (m', hs, h)) k =
        begin_exp_comes e n false _ (above before ss) p m he (at_operands a _ T.spread_named_out [] [] _ (above before ss) m m' hs (at_operands l _ op before os w ss m' q h k))
    next_operand_comes (F.literal_of a t ∷ os) op l n before w ss p q (m, hs, h) k =
        seek_comes _ a n false _ (above before ss) p m hs (at_operands l _ op before os w ss m q h k)
    next_operand_comes (F.field_of a e c sp ∷ os) op l n before w ss p q (m, he, (m', hs, h)) k =
        begin_exp_comes e n false _ (above before ss) p m he (at_formatted a _ c sp _ (above before ss) m m' hs (at_operands l _ op before os w ss m' q h k))

  spec_comes : (sp : Pieces) (l n : ℕ) (c : Option Conversion) (v : V) (w : Wait V) (ss : Slots V) (p q : ℕ)
      → Spec_at block code rows sp l n c (around w) p q → W w ss q → N (begin_spec block l n c v sp w) (on p (value v ∷ ss))
  spec_comes S.no_pieces l n c v w ss p q h k = next_operand_comes (F.missing ∷ []) (T.format c) l n (v ∷ []) w ss p q h k
  spec_comes (S.literal a t S.no_pieces) l n c v w ss p q h k = next_operand_comes (F.literal_of a t ∷ []) (T.format c) l n (v ∷ []) w ss p q h k
  spec_comes (S.field a e d sp S.no_pieces) l n c v w ss p q h k = next_operand_comes (F.field_of a e d sp ∷ []) (T.format c) l n (v ∷ []) w ss p q h k
  spec_comes (S.literal a t (S.literal b u r)) l n c v w ss p q (m, hs, (m', hp, h)) k =
      next_operand_comes (F.literal_of a t ∷ of_pieces (S.literal b u r)) T.join l n [] _ (value v ∷ ss) p m'
      (m, hs, pieces_behind block code rows (S.literal b u r) T.join l (n + 1) 1 (around w) m m' hp) (at_operands l _ (T.format c) (v ∷ []) [] w ss m' q h k)
  spec_comes (S.literal a t (S.field b e d sp r)) l n c v w ss p q (m, hs, (m', hp, h)) k =
      next_operand_comes (F.literal_of a t ∷ of_pieces (S.field b e d sp r)) T.join l n [] _ (value v ∷ ss) p m'
      (m, hs, pieces_behind block code rows (S.field b e d sp r) T.join l (n + 1) 1 (around w) m m' hp) (at_operands l _ (T.format c) (v ∷ []) [] w ss m' q h k)
  spec_comes (S.field a e d sp (S.literal b u r)) l n c v w ss p q (m, he, (m1, hs, (m2, hp, h))) k =
      next_operand_comes (F.field_of a e d sp ∷ of_pieces (S.literal b u r)) T.join l n [] _ (value v ∷ ss) p m2
      (m, he, (m1, hs, pieces_behind block code rows (S.literal b u r) T.join l _ 1 (around w) m1 m2 hp)) (at_operands l _ (T.format c) (v ∷ []) [] w ss m2 q h k)
  spec_comes (S.field a e d sp (S.field b f g sq r)) l n c v w ss p q (m, he, (m1, hs, (m2, hp, h))) k =
      next_operand_comes (F.field_of a e d sp ∷ of_pieces (S.field b f g sq r)) T.join l n [] _ (value v ∷ ss) p m2
      (m, he, (m1, hs, pieces_behind block code rows (S.field b f g sq r) T.join l _ 1 (around w) m1 m2 hp)) (at_operands l _ (T.format c) (v ∷ []) [] w ss m2 q h k)

  -- a value goes to a target
  pub store_comes : (t : Tgt) (v : V) (n : ℕ) (k : Way V) (ss : Slots V) (p q : ℕ)
      → Target_at block code rows t n (around_way k) p q → Way_on block code rows outer lowest end k ss q → N (begin_store block t v n k) (on p (value v ∷ ss))
  store_comes (S.single (S.name_at l x)) v n k ss p q h hk =
      there _ _ (m_deed (Some (mark n l false)) _ k (way_base k) _ (ins h.instr (act_mark p n l false) q rows) ss (on q ss) _
      (turn_at p _ _ _ h.stands (h.does v ss)) refl refl refl (under refl (push _ _ same refl)) (inside_way k ss ss q hk same) (lands k ss q hk))
  store_comes (S.single (S.attribute_at l a x)) v n k ss p q (m, ha, h) hk =
      begin_exp_comes a n false _ (value v ∷ ss) p m ha (at_attribute l _ x v k ss m q h hk)
  store_comes (S.single (S.item_at l a i)) v n k ss p q (m, ha, h) hk =
      begin_exp_comes a n false _ (value v ∷ ss) p m ha (at_container l _ i v k ss m q h hk)
  store_comes (S.several l f ts) v n k ss p q (m, h, hts) hk =
      there _ _ (m_unpack (mark n l false) v (n + 1) ts k _ (ins h.instr (act_mark p n l false) m rows) ss m q
      (turn_at p _ _ _ h.stands (h.does v ss)) (under refl (push _ _ same refl)) hts hk (inside_way k ss ss q hk same))
  store_comes (S.starred l t) v n k ss p q h hk = store_comes t v n k ss p q h hk

  pub stores_come : (st : Stores V) (n : ℕ) (k : Way V) (ss : Slots V) (p q : ℕ) (c : Control V)
      → Stores_at block code rows st n (around_way k) p q → Way_on block code rows outer lowest end k ss q → C c (on q ss) → C (begin_stores block st n k c) (on p (stored st ss))
  stores_come F.no_more n k ss p q c h hk a = subst (λ r. C c (on r ss)) (sym h) a
  stores_come (F.and_store t v st) n k ss p q c (m, ht, hs) hk a = near _ _ (
      store_comes t v n (F.stores (n + target_size t) st k) (stored st ss) p m ht (at_stores _ st k ss m q hs hk))

  -- the next item, and what is done with it
  pub item_comes : (l n : ℕ) (i : V) (t : Tgt) (cs : Clauses) (r : Rounds V) (d : ℕ) (ss : Slots V) (p next end' : ℕ)
      → Item_taken block code rows l n t cs r d p next end' → Rounds_on block code rows outer lowest end r d ss next → N (take_item l n i t cs r) (on p (iterator i ∷ ss))
  item_comes l n i t cs r d ss p next end' (m, hn, (m', ht, hc)) hr =
      there _ _ (m_item (mark n l false) i (n + 1) t _ _ _ (ins (instr.Next (record { 0 = next })) (act_mark p n l false) m rows) ss m m' next
      (turn_at p _ _ _ hn refl) (under refl (push _ _ same refl)) refl ht
      (at_clauses _ (suc d) p cs (F.round_of l n i t cs r) (iterator i ∷ ss) m' end' hc (at_clause l n d i t cs r ss p next end' (m, hn, (m', ht, hc)) hr))
      (at_round d r ss next hr) (inside_rounds r d ss ss next hr same))

  renewed_come : (xs : List Variable) (l n : ℕ) (i : V) (t : Tgt) (cs : Clauses) (r : Rounds V) (d : ℕ) (ss : Slots V) (p head next end' : ℕ)
      → Renewed_at block code rows xs p head → Item_taken block code rows l n t cs r d head next end' → Rounds_on block code rows outer lowest end r d ss next
      → N (control.make_anew xs l n i t cs r) (on p (iterator i ∷ ss))
  renewed_come [] l n i t cs r d ss p head next end' h hi hr =
      subst (λ u. N (take_item l n i t cs r) (on u (iterator i ∷ ss))) (sym h) (item_comes l n i t cs r d ss head next end' hi hr)
  renewed_come (x ∷ xs) l n i t cs r d ss p head next end' (m, h, hs) hi hr =
      there _ _ (m_deed None (T.fresh x) (F.made_anew xs l n i t cs r) (rounds_base r) _ (ins h.instr None m rows) (iterator i ∷ ss) (on m (iterator i ∷ ss)) _
      (turn_at p _ _ _ h.stands (h.does (iterator i ∷ ss))) refl refl refl (under refl same) (inside_rounds r d ss (iterator i ∷ ss) next hr (push _ _ same refl))
      (lands _ _ m (at_renewed xs l n d m head end' next i t cs r ss hs hi hr)))

  made_item_comes : (m : Made) (l n d head : ℕ) (v : V) (r : Rounds V) (ss : Slots V) (p q : ℕ)
      → Item_at block code rows m l n d head (around_rounds r) p q → Makes r v → Rounds_on block code rows outer lowest end r d ss head
      → N (begin_made block m l n v r) (on p ss)
  made_item_comes (S.a_list e) l n d head v r ss p q (m, he, h) mk hr = begin_exp_comes e n false _ ss p m he (at_listed l _ d head v r ss m q h mk hr)
  made_item_comes (S.a_set e) l n d head v r ss p q (m, he, h) mk hr = begin_exp_comes e n false _ ss p m he (at_set l _ d head v r ss m q h mk hr)
  made_item_comes (S.a_dict a e) l n d head v r ss p q (m, ha, h) mk hr = begin_exp_comes a n false _ ss p m ha (at_keyed l _ d head e v r ss m q h mk hr)

  last_comes : (o r : Rounds V) (n d head : ℕ) (ss : Slots V) (p q : ℕ)
      → Last_at block code rows o n d head p q → ((v : V) → Makes o v → Makes r v) → around_rounds o ≡ around_rounds r → Rounds_on block code rows outer lowest end r d ss head
      → N (begin_last block o n r) (on p ss)
  last_comes (F.collecting l a m v w) r n d head ss p q h f e hr =
      made_item_comes m l n d head v r ss p q (subst (λ u. Item_at block code rows m l n d head u p q) e h) (f v (makes l a m v w)) hr
  last_comes (F.generating l e s) r n d head ss p q (m, he, h) f eq hr =
      begin_exp_comes e n false _ ss p m (subst (λ u. Exp_at block code rows e n false u p m) eq he) (at_item_yielded l _ head r d ss m q h hr)
  last_comes (F.round_of l a i t cs o) r n d head ss p q h f e hr = last_comes o r n d head ss p q h (λ v mk. f v (makes_in l a i t cs o v mk)) e hr

  clauses_come : (cs : Clauses) (n d head : ℕ) (r : Rounds V) (ss : Slots V) (p q : ℕ)
      → Clauses_at block code rows cs (rounds_line r) n d head (around_rounds r) (Last_at block code rows r) p q → Rounds_on block code rows outer lowest end r d ss head
      → N (begin_clauses block cs n r) (on p ss)
  clauses_come S.no_clauses n d head r ss p q h hr = last_comes r r n d head ss p q h (λ v mk. mk) refl hr
  clauses_come (S.only_if c cs) n d head r ss p q (m, hc, (m', hj, h)) hr =
      begin_exp_comes c n false _ ss p m hc (at_asked (rounds_line r) _ _ _ ss m m' head hj (at_clauses _ d head cs r ss m' q h hr) (at_round d r ss head hr))
  clauses_come (S.for_each l t it cs) n d head r ss p q (inner, (m, hi, hit), hn) hr =
      begin_exp_comes it n false _ ss p m hi (at_iterated l _ _ ss m inner hit (over_clause l _ d t cs r ss inner head q hn hr))

  -- a test with a mark asks, also of a truth that is known
  pub branch_asks : (p n l q : ℕ) (j : Instr) (o : Option Bool) (t f : V → Slots V → State V) (v : V) (ss : Slots V)
      → branches code (ins j (act_mark p n l false) q rows) o t f v ss
      ≡ act (Some (mark n l false)) (T.test (T.branch v)) (after code (ins j (act_mark p n l false) q rows) ss (λ b. decided code b t f v ss))
  branch_asks p n l q j None t f v ss = refl
  branch_asks p n l q j (Some b) t f v ss = refl

  -- the right side of a comparison is there
  links_come : (r : Links) (o : CompareOp) (l n : ℕ) (a v : V) (w : Wait V) (ss : Slots V) (p q : ℕ)
      → Links_at block code rows r o l n (around w) p q → W w ss q
      → N (control.deliver block v (F.compared l n a o r w)) (on p (value v ∷ value a ∷ ss))
  links_come S.no_links o l n a v w ss p q h k =
      there _ _ (m_value _ _ w _ (ins (instr.Compare o) (act_mark p n l false) q rows) ss ss q (turn_at p _ _ _ h refl) (under refl (push _ _ (push _ _ same refl) refl)) same k)
  links_come (S.link c b r) o l n a v w ss p q (other, (m, hc, (m1, hr, (m2, h, (m3, hj, hb)))), hs) k =
      moved _ p _ _ _ hc refl (moved _ m _ _ _ hr refl
      (there _ _ (m_value _ _ _ _ (ins (instr.Compare o) (act_mark m1 n l false) m2 rows) (value v ∷ ss) (value v ∷ ss) m2 (turn_at m1 _ _ _ h refl) (under refl (push _ _ (push _ _ same refl) refl)) same
      (at_linked l (n + 1) v c b r w ss m2 other q (m3, hj, hb) hs k))))

  deliver_comes : (v : V) (w : Wait V) (ss : Slots V) (p : ℕ) → W w ss p → C (control.deliver block v w) (on p (value v ∷ ss))
  deliver_comes v _ _ _ (at_end w e) = given w v e
  deliver_comes v _ _ _ (at_operands l n op before behind w ss p q h k) = near _ _ (next_operand_comes behind op l n (v ∷ before) w ss p q h k)
  deliver_comes v _ _ _ (at_yielded l n w ss p q h k) =
      near _ _ (there _ _ (m_value _ _ w _ (ins instr.Yield (act_mark p n l false) q rows) ss ss q (turn_at p _ _ _ h refl) (under refl (push _ _ same refl)) same k))
  deliver_comes v _ _ _ (at_formatted l n c sp w ss p q h k) = near _ _ (spec_comes sp l n c v w ss p q h k)
  deliver_comes v _ _ _ (at_comparing l n o b r w ss p q (m, hb, h) k) =
      near _ _ (begin_exp_comes b n false _ (value v ∷ ss) p m hb (at_compared l _ v o r w ss m q h k))
  deliver_comes v _ _ _ (at_compared l n a o r w ss p q h k) = near _ _ (links_come r o l n a v w ss p q h k)
  deliver_comes v _ _ _ (at_linked l n a o b r w ss p other to (m, hj, (m1, hb, (m2, hl, out))) (m3, hs, hp) k) =
      near _ _ (there _ _ (m_truth _ v _ _ _ _ (ins (instr.JumpUnlessKeep (record { 0 = other })) (act_mark p n l false) m rows) (value a ∷ ss) _
      (turn_at p _ _ _ hj (branch_asks p n l m (instr.JumpUnlessKeep (record { 0 = other })) (code.is_truth v) _ _ v (value a ∷ ss))) (under refl (push _ _ same refl)) (inside w ss _ to k (push _ _ same refl))
      (lands _ (value a ∷ ss) m (at_linked_on l _ a o b r w ss m m2 (m1, hb, hl) (behind_jump w ss m2 other to out k)))
      (lands _ _ other (at_given v w (value a ∷ ss) other (over_value a w ss other m3 to hs hp k)))))
  deliver_comes v _ _ _ (at_anded l n S.no_exps w ss p q h k) = subst (λ r. C (control.deliver block v w) (on r (value v ∷ ss))) (sym h) (deliver_comes v w ss q k)
  deliver_comes v _ _ _ (at_anded l n (S.more_exps e es) w ss p q (m, hj, (m', he, h)) k) =
      near _ _ (there _ _ (m_truth _ v _ _ _ _ (ins (instr.JumpUnlessKeep (record { 0 = q })) (act_mark p n l false) m rows) ss _
      (turn_at p _ _ _ hj (branch_asks p n l m (instr.JumpUnlessKeep (record { 0 = q })) (code.is_truth v) _ _ v ss)) (under refl (push _ _ same refl)) (inside w ss _ q k same)
      (lands _ ss m (at_value _ e _ ss m m' he (at_anded l _ es w ss m' q h k))) (lands _ _ q (at_given v w ss q k))))
  deliver_comes v _ _ _ (at_ored l n S.no_exps w ss p q h k) = subst (λ r. C (control.deliver block v w) (on r (value v ∷ ss))) (sym h) (deliver_comes v w ss q k)
  deliver_comes v _ _ _ (at_ored l n (S.more_exps e es) w ss p q (m, hj, (m', he, h)) k) =
      near _ _ (there _ _ (m_truth _ v _ _ _ _ (ins (instr.JumpIfKeep (record { 0 = q })) (act_mark p n l false) m rows) ss _
      (turn_at p _ _ _ hj (branch_asks p n l m (instr.JumpIfKeep (record { 0 = q })) (code.is_truth v) _ _ v ss)) (under refl (push _ _ same refl)) (inside w ss _ q k same)
      (lands _ _ q (at_given v w ss q k)) (lands _ ss m (at_value _ e _ ss m m' he (at_ored l _ es w ss m' q h k)))))
  deliver_comes v _ _ _ (at_asked l n t f ss p q other hj ht hf) =
      near _ _ (there _ _ (m_truth _ v t f _ _ (ins (instr.JumpUnless (record { 0 = other })) (act_mark p n l false) q rows) ss _
      (turn_at p _ _ _ hj (branch_asks p n l q (instr.JumpUnless (record { 0 = other })) (code.is_truth v) _ _ v ss)) (under refl (push _ _ same refl)) (inside_way f ss _ other hf same) (lands t ss q ht) (lands f ss other hf)))
  deliver_comes v _ _ _ (at_iterated l n o ss p q h k) =
      near _ _ (there _ _ (m_iter _ v o _ (ins instr.Iter (act_mark p n l false) q rows) ss q (turn_at p _ _ _ h refl) (under refl (push _ _ same refl)) k))
  deliver_comes v _ _ _ (at_built l n a i t cs m w ss p p' head end' q hs hr hn k) =
      near _ _ (moved _ p _ _ _ hs refl (renewed_come _ a n i t cs (F.collecting l n m v w) 0 (value v ∷ ss) p' head q end' hr hn (at_result l n m v w ss q k)))
  deliver_comes v _ _ _ (at_listed l n d head made r ss p q (m, h, hj) mk hr) =
      near _ _ (there _ _ (m_deed (Some (mark n l false)) (T.add_to_list made v) (F.round r) (rounds_base r) _ (ins (instr.ListAdd (suc d)) (act_mark p n l false) m rows) ss (on m ss) _
      (turn_at p _ _ _ h (found r d ss head made _ hr mk)) refl refl refl (under refl (push _ _ same refl)) (inside_rounds r d ss ss head hr same)
      (lands _ ss m (way_behind_jump _ ss m q head hj (at_round d r ss head hr)))))
  deliver_comes v _ _ _ (at_set l n d head made r ss p q (m, h, hj) mk hr) =
      near _ _ (there _ _ (m_deed (Some (mark n l false)) (T.add_to_set made v) (F.round r) (rounds_base r) _ (ins (instr.SetAdd (suc d)) (act_mark p n l false) m rows) ss (on m ss) _
      (turn_at p _ _ _ h (found r d ss head made _ hr mk)) refl refl refl (under refl (push _ _ same refl)) (inside_rounds r d ss ss head hr same)
      (lands _ ss m (way_behind_jump _ ss m q head hj (at_round d r ss head hr)))))
  deliver_comes v _ _ _ (at_keyed l n d head e made r ss p q (m, he, h) mk hr) =
      near _ _ (begin_exp_comes e n false _ (value v ∷ ss) p m he (at_entered l _ d head v made r ss m q h mk hr))
  deliver_comes v _ _ _ (at_entered l n d head key made r ss p q (m, h, hj) mk hr) =
      near _ _ (there _ _ (m_deed (Some (mark n l false)) (T.add_to_dict made key v) (F.round r) (rounds_base r) _ (ins (instr.DictAdd (suc d)) (act_mark p n l false) m rows) ss (on m ss) _
      (turn_at p _ _ _ h (found r d ss head made _ hr mk)) refl refl refl (under refl (push _ _ (push _ _ same refl) refl)) (inside_rounds r d ss ss head hr same)
      (lands _ ss m (way_behind_jump _ ss m q head hj (at_round d r ss head hr)))))
  deliver_comes v _ _ _ (at_item_yielded l n head r d ss p q (m, h, hs) hr) = near _ _ (
      there _ _ (m_value _ (T.yielding v) _ _ (ins instr.Yield (act_mark p n l false) m rows) ss ss m (turn_at p _ _ _ h refl) (under refl (push _ _ same refl)) same
      (at_item_sent l _ head r d ss m q hs hr)))
  deliver_comes v _ _ _ (at_item_sent l n head r d ss p q (m, h, hj) hr) = near _ _ (
      there _ _ (m_deed (Some (mark n l false)) (T.discard v) (F.round r) (rounds_base r) _ (ins instr.Pop (act_mark p n l false) m rows) ss (on m ss) _
      (turn_at p _ _ _ h refl) refl refl refl (under refl (push _ _ same refl)) (inside_rounds r d ss ss head hr same)
      (lands _ ss m (way_behind_jump _ ss m q head hj (at_round d r ss head hr)))))
  deliver_comes v _ _ _ (at_attribute l n x u k ss p q h hk) =
      near _ _ (there _ _ (m_deed (Some (mark n l false)) (T.set_attribute (block.spelled x) v u) k (way_base k) _ (ins h.instr (act_mark p n l false) q rows) ss (on q ss) _
      (turn_at p _ _ _ h.stands (h.does u v ss)) refl refl refl (under refl (push _ _ (push _ _ same refl) refl)) (inside_way k ss ss q hk same) (lands k ss q hk)))
  deliver_comes v _ _ _ (at_container l n i u k ss p q (m, hi, h) hk) =
      near _ _ (begin_exp_comes i n false _ (value v ∷ value u ∷ ss) p m hi (at_index l _ v u k ss m q h hk))
  deliver_comes v _ _ _ (at_index l n a u k ss p q h hk) =
      near _ _ (there _ _ (m_deed (Some (mark n l false)) (T.set_item a v u) k (way_base k) _ (ins instr.SetItem (act_mark p n l false) q rows) ss (on q ss) _
      (turn_at p _ _ _ h refl) refl refl refl (under refl (push _ _ (push _ _ (push _ _ same refl) refl) refl)) (inside_way k ss ss q hk same) (lands k ss q hk)))
  deliver_comes v _ _ _ (behind_jump w ss p m q h k) = moved_on _ p _ _ _ h refl (deliver_comes v w ss q k)
  deliver_comes v _ _ _ (over_value u w ss p m q hs hp k) = moved_on _ p _ _ _ hs refl (moved_on _ m _ _ _ hp refl (deliver_comes v w ss q k))

  next_round_comes : (r : Rounds V) (d : ℕ) (ss : Slots V) (p : ℕ) → Rounds_on block code rows outer lowest end r d ss p → C (control.next_round block r) (on p ss)
  next_round_comes _ _ _ _ (at_result l n m made w ss p k) = deliver_comes made w ss p k
  next_round_comes _ _ _ _ (at_items l e s h) = gone (F.finished s) h
  next_round_comes _ _ _ _ (at_clause l n d i t cs r ss p head end' h hr) = near _ _ (item_comes l n i t cs r d ss p head end' h hr)

  way_on_comes : (k : Way V) (ss : Slots V) (p : ℕ) → Way_on block code rows outer lowest end k ss p → C (control.go block k) (on p ss)
  way_on_comes _ _ _ (at_value n e w ss p q h k) = near _ _ (begin_exp_comes e n false w ss p q h k)
  way_on_comes _ _ _ (at_given v w ss p k) = deliver_comes v w ss p k
  way_on_comes _ _ _ (at_linked_on l n a o b r w ss p q (m, hb, h) k) =
      near _ _ (begin_exp_comes b n false _ (value a ∷ ss) p m hb (at_compared l _ a o r w ss m q h k))
  way_on_comes _ _ _ (at_out k e) = gone k e
  way_on_comes _ _ _ (way_behind_jump k ss p m q h hk) = moved_on _ p _ _ _ h refl (way_on_comes k ss q hk)
  way_on_comes _ _ _ (at_stores n st k ss p q h hk) = stores_come st n k ss p q (control.go block k) h hk (way_on_comes k ss q hk)
  way_on_comes _ _ _ (at_clauses n d head cs r ss p q h hr) = near _ _ (clauses_come cs n d head r ss p q h hr)
  way_on_comes _ _ _ (at_round d r ss p hr) = next_round_comes r d ss p hr
  way_on_comes _ _ _ (at_renewed xs l n d p head end' next i t cs r ss h hi hr) = near _ _ (renewed_come xs l n i t cs r d ss p head next end' h hi hr)

  way_comes : (k : Way V) (t : State V) → Lands block code rows outer lowest end k t → C (control.go block k) t
  way_comes _ _ (lands k ss p h) = way_on_comes k ss p h

  delegate_comes : (l n : ℕ) (it u : V) (w : Wait V) (ss : Slots V) (p q : ℕ) → Act_at block code rows instr.Delegate n l false p q → W w ss q
      → N (for_delegate (mark n l false) it (got u) w) (on p (value u ∷ iterator it ∷ ss))
  delegate_comes l n it u w ss p q h k = there _ _ (m_delegate l n it u (got u) w _ ss p q h (turn_at p _ _ _ h refl) (push _ _ (push _ _ same refl) refl) k)

  take_iter_comes : (i : V) (o : Over V) (ss : Slots V) (p : ℕ) → Over_on block code rows outer lowest end o ss p → N (control.take_iter block i o) (on p (iterator i ∷ ss))
  take_iter_comes i _ _ _ (over_generator l n b w ss p q h k) =
      made_comes (block.captured b) (T.generator b) iterators_above l n false [] (i ∷ []) (i ∷ []) w ss p q h refl (push _ _ same refl) k
  take_iter_comes i _ _ _ (over_delegated l n w ss p m q hn h k) = null_comes _ p m _ hn (delegate_comes l n i block.null w ss m q h k)
  take_iter_comes i _ _ _ (over_comprehension l n a t cs m w ss p p1 p2 head end' q hm hs hr hn k) =
      made_comes [] (built_as m) above l n false [] [] [] _ (iterator i ∷ ss) p p1 hm refl same
      (at_built l (n + 1) a i t cs m w ss p1 p2 head end' q hs hr hn k)
  take_iter_comes i _ _ _ (over_clause l n d t cs r ss p head end' h hr) = item_comes l n i t cs r d ss p head end' h hr

  -- a raise lands, whichever instruction it comes from
  lands_by : (c : Control V) (v : V) (i : Ins) (ts : Slots V) → i.rows ≡ rows → C c (land code rows (raise v) ts) → C c (land code i.rows (raise v) ts)
  lands_by c v i ts e k = subst (λ rs. C c (land code rs (raise v) ts)) (sym e) k

  value_replies : (w : Wait V) (i : Ins) (ss ts : Slots V) (q : ℕ) → i.rows ≡ rows → On_top ss ts → W w ss q
      → (r : Reply V V) → C (control.after_value block w r) (after code i ts (λ v. on q (value v ∷ ss)) r)
  value_replies w i ss ts q e o k (got v) = deliver_comes v w ss q k
  value_replies w i ss ts q e o k (raised v) = lands_by _ v i ts e (raise_wait w ss ts q v k o)

  cell_replies : (l n : ℕ) (g : Bool) (op : Operation) (lower : List V → Slots V → Slots V) (cs vs before : List V) (xs : List Variable) (w : Wait V) (i : Ins) (ss ts : Slots V) (p q : ℕ)
      → i.rows ≡ rows → On_top ss ts → On_top ss (lower vs ss) → Made_at block code rows xs op lower l n g (count vs) (suc (count cs)) p q → before ≡ cs ++ vs → W w ss q
      → (r : Reply V V) → C (control.after_value block (F.celled l n g op before xs w) r) (after code i ts (λ v. on p (cell v ∷ cells_above cs (lower vs ss))) r)
  cell_replies l n g op lower cs vs before xs w i ss ts p q e o u h f k (got v) =
      near _ _ (made_comes xs op lower l n g (v ∷ cs) vs (v ∷ before) w ss p q h (ap (λ b. v ∷ b) f) u k)
  cell_replies l n g op lower cs vs before xs w i ss ts p q e o u h f k (raised v) = lands_by _ v i ts e (raise_wait w ss ts q v k o)

  raise_inside : (s : Nest V) (ts : Slots V) (v : V) → Inside block code rows outer lowest end s ts → C (complete block (F.by (F.raise v)) s) (land code rows (raise v) ts)
  raise_inside _ ts v (inside w ss _ q k o) = raise_wait w ss ts q v k o
  raise_inside _ ts v (inside_out k _ e o) = raise_out (way k) (way_base k) ts v e refl o

  truth_replies : (t f : Way V) (s : Nest V) (i : Ins) (ts : Slots V) (next : Bool → State V) → i.rows ≡ rows → Inside block code rows outer lowest end s ts
      → Lands block code rows outer lowest end t (next true) → Lands block code rows outer lowest end f (next false)
      → (r : Reply V Bool) → C (control.after_truth block t f s r) (after code i ts next r)
  truth_replies t f s i ts next e h ht hf (got true) = way_comes t _ ht
  truth_replies t f s i ts next e h ht hf (got false) = way_comes f _ hf
  truth_replies t f s i ts next e h ht hf (raised v) = lands_by _ v i ts e (raise_inside s ts v h)

  iter_replies : (o : Over V) (i : Ins) (ss : Slots V) (q : ℕ) → i.rows ≡ rows → Over_on block code rows outer lowest end o ss q
      → (r : Reply V V) → C (control.after_iter block o r) (after code i ss (λ it. on q (iterator it ∷ ss)) r)
  iter_replies o i ss q e k (got v) = near _ _ (take_iter_comes v o ss q k)
  iter_replies o i ss q e k (raised v) = lands_by _ v i ss e (raise_over o ss ss q v k same)

  deed_replies : (k : Way V) (s : Nest V) (i : Ins) (ts : Slots V) (u : State V) → i.rows ≡ rows → Inside block code rows outer lowest end s ts
      → Lands block code rows outer lowest end k u → (r : Reply V (Unit {0})) → C (control.after_deed block k s r) (after code i ts (λ x. u) r)
  deed_replies k s i ts u e h hk (got x) = way_comes k u hk
  deed_replies k s i ts u e h hk (raised v) = lands_by _ v i ts e (raise_inside s ts v h)

  item_replies : (it : V) (n : ℕ) (tg : Tgt) (k f : Way V) (i : Ins) (ss : Slots V) (q q' to : ℕ) → i.rows ≡ rows → i.next ≡ q
      → Target_at block code rows tg n (around_way k) q q' → Way_on block code rows outer lowest end k (iterator it ∷ ss) q' → Way_on block code rows outer lowest end f ss to
      → Inside block code rows outer lowest end (way_base k) ss
      → (r : Reply V (Option V)) → C (control.after_item block n tg k f r) (after code i ss (with_item code i to it ss) r)
  item_replies it n tg k f i ss q q' to e en ht hk hf h (got (Some v)) =
      subst (λ u. C (begin_store block tg v n (F.stores (n + target_size tg) F.no_more k)) (on u (value v ∷ iterator it ∷ ss))) (sym en)
      (near _ _ (store_comes tg v n (F.stores (n + target_size tg) F.no_more k) (iterator it ∷ ss) q q' ht (at_stores _ F.no_more k (iterator it ∷ ss) q' q' refl hk)))
  item_replies it n tg k f i ss q q' to e en ht hk hf h (got None) = way_on_comes f ss to hf
  item_replies it n tg k f i ss q q' to e en ht hk hf h (raised v) = lands_by _ v i ss e (raise_inside (way_base k) ss v h)

  unpack_replies : (n : ℕ) (ts : Tgts) (k : Way V) (i : Ins) (ss : Slots V) (q q' : ℕ) → i.rows ≡ rows
      → Targets_at block code rows ts n (around_way k) q q' → Way_on block code rows outer lowest end k ss q' → Inside block code rows outer lowest end (way_base k) ss
      → (r : Reply V (T.Row V (count_targets ts))) → C (control.after_unpack block n ts k (way_base k) r) (after code i ss (λ vs. on q (giving (count_targets ts) vs ss)) r)
  unpack_replies n ts k i ss q q' e hts hk h (got vs) =
      subst (λ u. C (begin_stores block (each_gets ts vs) n k (control.go block k)) (on q u)) (sym (giving_stored ts vs ss))
      (stores_come (each_gets ts vs) n k ss q q' (control.go block k) (gets_at block code rows ts vs n (around_way k) q q' hts) hk (way_on_comes k ss q' hk))
  unpack_replies n ts k i ss q q' e hts hk h (raised v) = lands_by _ v i ss e (raise_inside (way_base k) ss v h)

  delegate_replies : (l n : ℕ) (it u : V) (w : Wait V) (ss : Slots V) (p q : ℕ) → Act_at block code rows instr.Delegate n l false p q → W w ss q
      → (r : Reply V (Delegated V)) → C (control.after_delegate block (mark n l false) it w r)
      (after code (ins instr.Delegate (act_mark p n l false) q rows) ss (delegated code p (ins instr.Delegate (act_mark p n l false) q rows) it u ss) r)
  delegate_replies l n it u w ss p q h k (got (returned v)) = deliver_comes v w ss q k
  delegate_replies l n it u w ss p q h k (got (resumed (got v))) = near _ _ (delegate_comes l n it v w ss p q h k)
  delegate_replies l n it u w ss p q h k (got (resumed (raised e))) =
      near _ _ (there _ _ (m_delegate l n it u (raised e) w _ ss p q h (ap (λ o. thrown_here code p o e (value u ∷ iterator it ∷ ss)) h) (push _ _ (push _ _ same refl) refl) k))
  delegate_replies l n it u w ss p q h k (raised v) = raise_wait w ss ss q v k same

  pub same_at : (u : Turn (Control V) V) (t : State V) (s : Turn (State V) V) → machine.turn code t ≡ s → Same block code rows outer lowest end u s
      → Same block code rows outer lowest end u (machine.turn code t)
  same_at u t s e k = subst (λ y. Same block code rows outer lowest end u y) (sym e) k

  pub follows : Follows block code rows outer lowest end
  follows _ _ (m_value m a w t i ss ts q e er o k) = same_at _ t _ e (same_act _ _ _ _ (value_replies w i ss ts q er.same_rows o k))
  follows _ _ (m_cell x l n g op lower cs vs before xs w t i ss ts p q e er o u h f k) =
      same_at _ t _ e (same_act _ _ _ _ (cell_replies l n g op lower cs vs before xs w i ss ts p q er.same_rows o u h f k))
  follows _ _ (m_truth m v t f s st i ts next e er h ht hf) = same_at _ st _ e (same_act _ _ _ _ (truth_replies t f s i ts next er.same_rows h ht hf))
  follows c _ (m_deed m d k s t i ts u _ e ec en ea er h hk) =
      subst (λ y. Same block code rows outer lowest end y (machine.turn code t)) (sym ec) (same_at _ t _ e (same_act m (T.deed d) _ _ (deed_replies k s i ts u er.same_rows h hk)))
  follows _ _ (m_item m it n tg k f t i ss q q' to e er en ht hk hf h) = same_at _ t _ e (same_act _ _ _ _ (item_replies it n tg k f i ss q q' to er.same_rows en ht hk hf h))
  follows _ _ (m_unpack m v n ts k t i ss q q' e er hts hk h) = same_at _ t _ e (same_act _ _ _ _ (unpack_replies n ts k i ss q q' er.same_rows hts hk h))
  follows _ _ (m_iter m v o t i ss q e er k) = same_at _ t _ e (same_act _ _ _ _ (iter_replies o i ss q er.same_rows k))
  follows _ _ (m_delegate l n it u r w t ss p q h e er k) = same_at _ t _ e (same_act _ _ _ _ (delegate_replies l n it u w ss p q h k))

  -- the nest behind, and the slots below
  record Rests (s : Nest V) (ss : Slots V) : Type 0 where
    pub same_base : s ≡ outer_base outer
    pub on_lowest : On_top lowest ss

  deeper : (s : Nest V) (u : Slot V) (ss : Slots V) → busy_with u ≡ None → Rests s ss → Rests s (u ∷ ss)
  deeper s u ss n r = record { same_base = r.same_base; on_lowest = push u ss r.on_lowest n }

  all_deeper : (s : Nest V) (vs : List V) (ss : Slots V) → Rests s ss → Rests s (above vs ss)
  all_deeper s [] ss r = r
  all_deeper s (v ∷ vs) ss r = deeper s (value v) (above vs ss) refl (all_deeper s vs ss r)

  stored_deeper : (s : Nest V) (st : Stores V) (ss : Slots V) → Rests s ss → Rests s (stored st ss)
  stored_deeper s F.no_more ss r = r
  stored_deeper s (F.and_store t v st) ss r = deeper s (value v) (stored st ss) refl (stored_deeper s st ss r)

  rests_out : (o : Outer V) → o ≡ outer → Rests (outer_base o) lowest
  rests_out o e = record { same_base = ap (λ o. outer_base o) e; on_lowest = same }

  mutual
    wait_rests : (w : Wait V) (ss : Slots V) (q : ℕ) → W w ss q → Rests (base w) ss
    wait_rests _ _ _ (at_end w e) = rests_out (wait w) e
    wait_rests _ _ _ (at_operands l n op before behind w ss p q h k) = all_deeper (base w) before ss (wait_rests w ss q k)
    wait_rests _ _ _ (at_yielded l n w ss p q h k) = wait_rests w ss q k
    wait_rests _ _ _ (at_formatted l n c sp w ss p q h k) = wait_rests w ss q k
    wait_rests _ _ _ (at_comparing l n c b r w ss p q h k) = wait_rests w ss q k
    wait_rests _ _ _ (at_compared l n a c r w ss p q h k) = deeper (base w) _ ss refl (wait_rests w ss q k)
    wait_rests _ _ _ (at_linked l n a c b r w ss p other to h hs k) = deeper (base w) _ ss refl (wait_rests w ss to k)
    wait_rests _ _ _ (at_anded l n es w ss p q h k) = wait_rests w ss q k
    wait_rests _ _ _ (at_ored l n es w ss p q h k) = wait_rests w ss q k
    wait_rests _ _ _ (at_asked l n t f ss p q other h ht hf) = way_rests f ss other hf
    wait_rests _ _ _ (at_iterated l n o ss p q h k) = over_rests o ss q k
    wait_rests _ _ _ (at_built l n a i t cs m w ss p p' head end' q hs hr hn k) = deeper (base w) _ ss refl (wait_rests w ss q k)
    wait_rests _ _ _ (at_listed l n d head made r ss p q h mk hr) = rounds_rest r d ss head hr
    wait_rests _ _ _ (at_set l n d head made r ss p q h mk hr) = rounds_rest r d ss head hr
    wait_rests _ _ _ (at_keyed l n d head e made r ss p q h mk hr) = rounds_rest r d ss head hr
    wait_rests _ _ _ (at_entered l n d head key made r ss p q h mk hr) = deeper (rounds_base r) _ ss refl (rounds_rest r d ss head hr)
    wait_rests _ _ _ (at_item_yielded l n head r d ss p q h hr) = rounds_rest r d ss head hr
    wait_rests _ _ _ (at_item_sent l n head r d ss p q h hr) = rounds_rest r d ss head hr
    wait_rests _ _ _ (at_attribute l n x u k ss p q h hk) = deeper (way_base k) _ ss refl (way_rests k ss q hk)
    wait_rests _ _ _ (at_container l n i u k ss p q h hk) = deeper (way_base k) _ ss refl (way_rests k ss q hk)
    wait_rests _ _ _ (at_index l n a u k ss p q h hk) = deeper (way_base k) _ (value u ∷ ss) refl (deeper (way_base k) _ ss refl (way_rests k ss q hk))
    wait_rests _ _ _ (behind_jump w ss p m q h k) = wait_rests w ss q k
    wait_rests _ _ _ (over_value u w ss p m q hs hp k) = deeper (base w) _ ss refl (wait_rests w ss q k)

    way_rests : (k : Way V) (ss : Slots V) (q : ℕ) → Way_on block code rows outer lowest end k ss q → Rests (way_base k) ss
    way_rests _ _ _ (at_out k e) = rests_out (way k) e
    way_rests _ _ _ (at_value n e w ss p q h k) = wait_rests w ss q k
    way_rests _ _ _ (at_given u w ss p k) = deeper (base w) _ ss refl (wait_rests w ss p k)
    way_rests _ _ _ (at_linked_on l n a c b r w ss p q h k) = deeper (base w) _ ss refl (wait_rests w ss q k)
    way_rests _ _ _ (way_behind_jump k ss p m q h hk) = way_rests k ss q hk
    way_rests _ _ _ (at_stores n st k ss p q h hk) = stored_deeper (way_base k) st ss (way_rests k ss q hk)
    way_rests _ _ _ (at_clauses n d head cs r ss p q h hr) = rounds_rest r d ss head hr
    way_rests _ _ _ (at_round d r ss p hr) = rounds_rest r d ss p hr
    way_rests _ _ _ (at_renewed xs l n d p head end' next i t cs r ss h hi hr) = deeper (rounds_base r) _ ss refl (rounds_rest r d ss next hr)

    rounds_rest : (r : Rounds V) (d : ℕ) (ss : Slots V) (p : ℕ) → Rounds_on block code rows outer lowest end r d ss p → Rests (rounds_base r) ss
    rounds_rest _ _ _ _ (at_result l n m made w ss p k) = deeper (base w) _ ss refl (wait_rests w ss p k)
    rounds_rest _ _ _ _ (at_items l i s e) = rests_out (way (F.finished s)) e
    rounds_rest _ _ _ _ (at_clause l n d i t cs r ss p head end' h hr) = deeper (rounds_base r) _ ss refl (rounds_rest r d ss head hr)

    over_rests : (o : Over V) (ss : Slots V) (q : ℕ) → Over_on block code rows outer lowest end o ss q → Rests (over_base o) ss
    over_rests _ _ _ (over_generator l n b w ss p q h k) = wait_rests w ss q k
    over_rests _ _ _ (over_delegated l n w ss p m q hn h k) = wait_rests w ss q k
    over_rests _ _ _ (over_comprehension l n a t cs m w ss p p1 p2 head end' q hm hs hr hn k) = wait_rests w ss q k
    over_rests _ _ _ (over_clause l n d t cs r ss p head end' h hr) = rounds_rest r d ss head hr

  -- what is active in control and in code
  abbrev Alike : Option V → State V → Type 0
  Alike o t = (o ≡ bases.active (outer_base outer)) × (active_at t ≡ active lowest)

  alike : (s : Nest V) (t : State V) (ss ts : Slots V) → Rests s ss → On_top ss ts → active_at t ≡ active ts → Alike (bases.active s) t
  alike s t ss ts r o e = (ap (λ n. bases.active n) r.same_base, e ∙ top_active ss ts o ∙ top_active lowest ss r.on_lowest)

  inside_alike : (s : Nest V) (t : State V) (ts : Slots V) → Inside block code rows outer lowest end s ts → active_at t ≡ active ts → Alike (bases.active s) t
  inside_alike _ t _ (inside w ss ts q k o) e = alike (base w) t ss ts (wait_rests w ss q k) o e
  inside_alike _ t _ (inside_out k ts h o) e = alike (way_base k) t lowest ts (rests_out (way k) h) o e

  active_in : (t : State V) → active_at t ≡ active (slots_in t)
  active_in (on p ss) = refl
  active_in (thrown_to p e ss) = refl
  active_in (reraises e rows ss) = refl
  active_in (off e) = refl

  same_active : (t : State V) (ss : Slots V) → On_top ss (slots_in t) → active_at t ≡ active ss
  same_active t ss o = active_in t ∙ top_active ss (slots_in t) o

  pub active_alike : (c : Control V) (t : State V) → Match block code rows outer lowest end c t → Alike (control.context_at c) t
  active_alike _ _ (m_value m a w t i ss ts q e er o k) = alike (base w) t ss ts (wait_rests w ss q k) o (same_active t ts er.on_top)
  active_alike _ _ (m_cell x l n g op lower cs vs before xs w t i ss ts p q e er o u h f k) = alike (base w) t ss ts (wait_rests w ss q k) o (same_active t ts er.on_top)
  active_alike _ _ (m_truth m v t f s st i ts next e er h ht hf) = inside_alike s st ts h (same_active st ts er.on_top)
  active_alike c _ (m_deed m d k s t i ts u _ e ec en ea er h hk) = subst (λ o. Alike o t) (sym ea) (inside_alike s t ts h (same_active t ts er.on_top))
  active_alike _ _ (m_item m it n tg k f t i ss q q' to e er en ht hk hf h) = inside_alike (way_base k) t ss h (same_active t ss er.on_top)
  active_alike _ _ (m_unpack m v n ts k t i ss q q' e er hts hk h) = inside_alike (way_base k) t ss h (same_active t ss er.on_top)
  active_alike _ _ (m_iter m v o t i ss q e er k) = alike (over_base o) t ss ss (over_rests o ss q k) same (same_active t ss er.on_top)
  active_alike _ _ (m_delegate l n it u r w t ss p q h e er k) = alike (base w) t ss ss (wait_rests w ss q k) same (same_active t ss er)

  -- the nest in which control is, and the slots there
  abbrev Lie : Nest V → State V → Type 0
  Lie s t = (s ≡ outer_base outer) × On_top lowest (slots_in t)

  lie : (s : Nest V) (t : State V) (ss ts : Slots V) → Rests s ss → On_top ss ts → On_top ts (slots_in t) → Lie s t
  lie s t ss ts r o h = (r.same_base, top_on_top lowest ss (slots_in t) r.on_lowest (top_on_top ss ts (slots_in t) o h))

  inside_lie : (s : Nest V) (t : State V) (ts : Slots V) → Inside block code rows outer lowest end s ts → On_top ts (slots_in t) → Lie s t
  inside_lie _ t _ (inside w ss ts q k o) h = lie (base w) t ss ts (wait_rests w ss q k) o h
  inside_lie _ t _ (inside_out k ts e o) h = lie (way_base k) t lowest ts (rests_out (way k) e) o h

  pub all_lie_there : (c : Control V) (t : State V) → Match block code rows outer lowest end c t → Lie (control.nest_at c) t
  all_lie_there _ _ (m_value m a w t i ss ts q e er o k) = lie (base w) t ss ts (wait_rests w ss q k) o er.on_top
  all_lie_there _ _ (m_cell x l n g op lower cs vs before xs w t i ss ts p q e er o u h f k) = lie (base w) t ss ts (wait_rests w ss q k) o er.on_top
  all_lie_there _ _ (m_truth m v t f s st i ts next e er h ht hf) = inside_lie s st ts h er.on_top
  all_lie_there c _ (m_deed m d k s t i ts u _ e ec en ea er h hk) = subst (λ s. Lie s t) (sym en) (inside_lie s t ts h er.on_top)
  all_lie_there _ _ (m_item m it n tg k f t i ss q q' to e er en ht hk hf h) = inside_lie (way_base k) t ss h er.on_top
  all_lie_there _ _ (m_unpack m v n ts k t i ss q q' e er hts hk h) = inside_lie (way_base k) t ss h er.on_top
  all_lie_there _ _ (m_iter m v o t i ss q e er k) = lie (over_base o) t ss ss (over_rests o ss q k) same er.on_top
  all_lie_there _ _ (m_delegate l n it u r w t ss p q h e er k) = lie (base w) t ss ss (wait_rests w ss q k) same er

module _ {V : Type 0} (block : Around V) (code : CodeObject V) where
  pub begins : AllBegin block code
  begins rows w lowest end e n g from h = begin_exp_comes block code rows (wait w) lowest end e n g w lowest from end h (at_end w refl)

  pub begins_to_store : AllStore block code
  begins_to_store rows k lowest end t v n from h = store_comes block code rows (way k) lowest end t v n k lowest from end h (at_out k refl)

  pub all_active : AllActive block code
  all_active rows outer lowest end c t m = active_alike block code rows outer lowest end c t m

  pub all_lie : AllLie block code
  all_lie rows outer lowest end c t m = all_lie_there block code rows outer lowest end c t m
