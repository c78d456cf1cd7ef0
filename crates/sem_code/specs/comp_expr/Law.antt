-- When a state of the code stands for a state of control within an expression or a target, and that code follows: whatever goes on behind it, with the slots that
-- lie below and the place behind its code.
use Rattle.std.specs.Prelude.{◌≡◌, ℕ, ◌+◌, suc, List, [], ◌∷◌, ◌++◌, map, Bool, true, false, Option, Some, None}
use Rattle.pt_base.specs.declared.operators.CompareOp.{CompareOp}
use Rattle.pt_ranges.specs.declared.handlers.Handler.{Handler}
use Rattle.pt_tree.specs.declared.expression.Conversion.{Conversion}
use Rattle.pt_tree.specs.Syntax.{Name, Exp, Exps, Pieces, Links, Made, Clauses, Tgt, Tgts}
use Rattle.pt_tree.specs.Sizes.{size, target_size}
use Rattle.pt_instr.specs.declared.Instr.TheVariants as instr
use Rattle.pt_code.specs.View.{Ins}
use Rattle.sem_control.specs.control.Turn as T
use Rattle.sem_control.specs.control.Turn.{Mark, mark, Around, Variable, Operation, Seek, Deed, Ask, Answer, Reply, Turn, act, move, over}
use Rattle.sem_control.specs.control.Frames as F
use Rattle.sem_control.specs.control.Frames.{Operand, Nest, Way, Wait, Over, Rounds, Stores, Control, for_value, for_truth, for_iter, for_item, for_unpack, for_delegate, silent_value}
use Rattle.sem_control.specs.control.Bases as bases
use Rattle.sem_control.specs.control.Bases.{base, way_base, around, around_way, around_rounds, rounds_line}
use Rattle.sem_control.specs.control.Completions.{complete}
use Rattle.sem_control.specs.control.Expressions.{begin_exp, target_names, clause_names, built_as}
use Rattle.sem_control.specs.control.Statements as statements
use Rattle.sem_control.specs.control.Control as control
use Rattle.sem_code.specs.slots.Slots.{raise, Slot, value, cell, iterator, Slots, State, on, thrown_to, reraises, off, busy_with, active}
use Rattle.sem_code.specs.slots.CodeObject.{CodeObject}
use Rattle.sem_code.specs.slots.Landing.{land}
use Rattle.sem_code.specs.slots.Pops.{giving}
use Rattle.sem_code.specs.slots.Steps.{after, with_item, delegated}
use Rattle.sem_code.specs.slots.Machine as machine
use Rattle.sem_code.specs.comp_expr.Places.{count, above, cells_above, iterators_above, act_mark, ins, Act_at, Move_at, Null_at, Made_at, Exp_at, Behind_at, Spec_at, Links_at, Ands_at, Ors_at, Clauses_at, Item_at, Target_at, Targets_at, Renewed_at, Sets, here, ◌⨾◌}

-- slots with others above them, none of which is busy with an exception
pub data On_top {V : Type 0} (ss : Slots V) : Slots V → Type 0 where
  same : On_top ss ss
  push : (s : Slot V) (ts : Slots V) → On_top ss ts → busy_with s ≡ None → On_top ss (s ∷ ts)

-- the exception that is active in a state (8.4.1, 8.4.4)
abbrev pub active_at : {V : Type 0} → State V → Option V
active_at (on p ss) = active ss
active_at (thrown_to p e ss) = active ss
active_at (reraises e rows ss) = active ss
active_at (off e) = None

-- what lies in the slots of a state
abbrev pub slots_in : {V : Type 0} → State V → Slots V
slots_in (on p ss) = ss
slots_in (thrown_to p e ss) = ss
slots_in (reraises e rows ss) = ss
slots_in (off e) = []

-- an instruction that stands under these rows takes no slot that is busy, and leaves these
pub record Leaves {V : Type 0} (t : State V) (i : Ins) (rows : List Handler) (ss : Slots V) : Type 0 where
  pub same_rows : i.rows ≡ rows
  pub on_top : On_top ss (slots_in t)

-- the result of the comprehension that clauses lie in
pub data Makes {V : Type 0} : Rounds V → V → Type 0 where
  makes : (l n : ℕ) (m : Made) (v : V) (w : Wait V) → Makes (F.collecting l n m v w) v
  makes_in : (l n : ℕ) (i : V) (t : Tgt) (cs : Clauses) (r : Rounds V) (v : V) → Makes r v → Makes (F.round_of l n i t cs r) v

-- what goes on behind: a wait for the value of an expression, or what waits for nothing, behind a target and behind the last item of a generator expression
pub data Outer (V : Type 0) : Type 0 where
  wait : Wait V → Outer V
  way : Way V → Outer V

-- the nest to which a raise goes from there
abbrev pub outer_base : {V : Type 0} → Outer V → Nest V
outer_base (wait w) = base w
outer_base (way k) = way_base k

-- the values that are due to targets, the first on top
abbrev pub stored : {V : Type 0} → Stores V → Slots V → Slots V
stored F.no_more ss = ss
stored (F.and_store t v st) ss = value v ∷ stored st ss

module _ {V : Type 0} (block : Around V) (code : CodeObject V) (rows : List Handler) where
  abbrev pub Stores_at : Stores V → (n : ℕ) → (v : List ℕ) → ℕ → ℕ → Type 0
  Stores_at F.no_more n v = here
  Stores_at (F.and_store t u st) n v = Target_at block code rows t n v ⨾ Stores_at st (n + target_size t) v

  -- what is done with the item behind the last clause
  abbrev pub Last_at : Rounds V → (n d head : ℕ) → ℕ → ℕ → Type 0
  Last_at (F.collecting l k m v w) n d head = Item_at block code rows m l n d head (k ∷ around w)
  Last_at (F.generating l e s) n d head = Exp_at block code rows e n false [] ⨾ Act_at block code rows instr.Yield (n + size e) l false
      ⨾ Act_at block code rows instr.Pop (n + size e + 1) l false ⨾ Move_at block code rows (instr.Jump (record { 0 = head }))
  Last_at (F.round_of l k i t cs r) n d head = Last_at r n d head

  -- the next item of a clause is taken at a place, or that of the clause around; and then the clauses behind
  abbrev pub Item_taken : (l n : ℕ) → Tgt → Clauses → Rounds V → (d at at_end : ℕ) → ℕ → Type 0
  Item_taken l n t cs r d at at_end = (Act_at block code rows (instr.Next (record { 0 = at_end })) n l false
      ⨾ Target_at block code rows t (n + 1) (around_rounds r)
      ⨾ Clauses_at block code rows cs (rounds_line r) (n + 1 + target_size t) (suc d) at (around_rounds r) (Last_at r)) at

module _ {V : Type 0} (block : Around V) (code : CodeObject V) (rows : List Handler) (outer : Outer V) (lowest : Slots V) (end : ℕ) where
  mutual
    -- where a value is there above these slots, the code at this place goes on as the wait does
    pub data Waits_on : Wait V → Slots V → ℕ → Type 0 where
      at_end : (w : Wait V) → wait w ≡ outer → Waits_on w lowest end
      at_operands : (l n : ℕ) (op : Operation) (before : List V) (behind : List Operand) (w : Wait V) (ss : Slots V) (p q : ℕ)
          → Behind_at block code rows behind op l n (suc (count before)) (around w) p q → Waits_on w ss q
          → Waits_on (F.operands l n op before behind w) (above before ss) p
      at_yielded : (l n : ℕ) (w : Wait V) (ss : Slots V) (p q : ℕ)
          → Act_at block code rows instr.Yield n l false p q → Waits_on w ss q → Waits_on (F.yielded l n w) ss p
      at_formatted : (l n : ℕ) (c : Option Conversion) (sp : Pieces) (w : Wait V) (ss : Slots V) (p q : ℕ)
          → Spec_at block code rows sp l n c (around w) p q → Waits_on w ss q → Waits_on (F.formatted l n c sp w) ss p
      at_comparing : (l n : ℕ) (o : CompareOp) (b : Exp) (r : Links) (w : Wait V) (ss : Slots V) (p q : ℕ)
          → (Exp_at block code rows b n false (around w) ⨾ Links_at block code rows r o l (n + size b) (around w)) p q → Waits_on w ss q
          → Waits_on (F.comparing l n o b r w) ss p
      at_compared : (l n : ℕ) (a : V) (o : CompareOp) (r : Links) (w : Wait V) (ss : Slots V) (p q : ℕ)
          → Links_at block code rows r o l n (around w) p q → Waits_on w ss q → Waits_on (F.compared l n a o r w) (value a ∷ ss) p
      at_linked : (l n : ℕ) (a : V) (o : CompareOp) (b : Exp) (r : Links) (w : Wait V) (ss : Slots V) (p other to : ℕ)
          → (Act_at block code rows (instr.JumpUnlessKeep (record { 0 = other })) n l false ⨾ Exp_at block code rows b (n + 1) false (around w)
          ⨾ Links_at block code rows r o l (n + 1 + size b) (around w) ⨾ Move_at block code rows (instr.Jump (record { 0 = to }))) p other
          → (Move_at block code rows instr.Swap ⨾ Move_at block code rows instr.Pop) other to → Waits_on w ss to
          → Waits_on (F.linked l n a o b r w) (value a ∷ ss) p
      at_anded : (l n : ℕ) (es : Exps) (w : Wait V) (ss : Slots V) (p q : ℕ)
          → Ands_at block code rows es l n (around w) q p q → Waits_on w ss q → Waits_on (F.anded l n es w) ss p
      at_ored : (l n : ℕ) (es : Exps) (w : Wait V) (ss : Slots V) (p q : ℕ)
          → Ors_at block code rows es l n (around w) q p q → Waits_on w ss q → Waits_on (F.ored l n es w) ss p
      at_asked : (l n : ℕ) (t f : Way V) (ss : Slots V) (p q other : ℕ)
          → Act_at block code rows (instr.JumpUnless (record { 0 = other })) n l false p q → Way_on t ss q → Way_on f ss other → Waits_on (F.asked l n t f) ss p
      at_iterated : (l n : ℕ) (o : Over V) (ss : Slots V) (p q : ℕ)
          → Act_at block code rows instr.Iter n l false p q → Over_on o ss q → Waits_on (F.iterated l n o) ss p
      -- a comprehension's result is due, above its iterator
      at_built : (l n k : ℕ) (i : V) (t : Tgt) (cs : Clauses) (m : Made) (w : Wait V) (ss : Slots V) (p p' head end' q : ℕ)
          → Move_at block code rows instr.Swap p p'
          → Renewed_at block code rows (map (block.variable (n ∷ around w)) (target_names t ++ clause_names cs)) p' head
          → (Act_at block code rows (instr.Next (record { 0 = q })) n k false ⨾ Target_at block code rows t (n + 1) (n ∷ around w)
          ⨾ Clauses_at block code rows cs l (n + 1 + target_size t) 1 head (n ∷ around w) (λ j d h. Item_at block code rows m l j d h (n ∷ around w))) head end'
          → Waits_on w ss q → Waits_on (F.built_in l n k i t cs m w) (iterator i ∷ ss) p
      -- its item is due; d iterators lie above the result
      at_listed : (l n d head : ℕ) (made : V) (r : Rounds V) (ss : Slots V) (p q : ℕ)
          → (Act_at block code rows (instr.ListAdd (suc d)) n l false ⨾ Move_at block code rows (instr.Jump (record { 0 = head }))) p q
          → Makes r made → Rounds_on r d ss head → Waits_on (F.added_to_list l n made r) ss p
      at_set : (l n d head : ℕ) (made : V) (r : Rounds V) (ss : Slots V) (p q : ℕ)
          → (Act_at block code rows (instr.SetAdd (suc d)) n l false ⨾ Move_at block code rows (instr.Jump (record { 0 = head }))) p q
          → Makes r made → Rounds_on r d ss head → Waits_on (F.added_to_set l n made r) ss p
      at_keyed : (l n d head : ℕ) (e : Exp) (made : V) (r : Rounds V) (ss : Slots V) (p q : ℕ)
          → (Exp_at block code rows e n false (around_rounds r) ⨾ Act_at block code rows (instr.DictAdd (suc d)) (n + size e) l false
          ⨾ Move_at block code rows (instr.Jump (record { 0 = head }))) p q
          → Makes r made → Rounds_on r d ss head → Waits_on (F.keyed l n e made r) ss p
      at_entered : (l n d head : ℕ) (key made : V) (r : Rounds V) (ss : Slots V) (p q : ℕ)
          → (Act_at block code rows (instr.DictAdd (suc d)) n l false ⨾ Move_at block code rows (instr.Jump (record { 0 = head }))) p q
          → Makes r made → Rounds_on r d ss head → Waits_on (F.added_to_dict l n key made r) (value key ∷ ss) p
      -- the item of a generator expression is due, and what is sent to it
      at_item_yielded : (l n head : ℕ) (r : Rounds V) (d : ℕ) (ss : Slots V) (p q : ℕ)
          → (Act_at block code rows instr.Yield n l false ⨾ Act_at block code rows instr.Pop (n + 1) l false
          ⨾ Move_at block code rows (instr.Jump (record { 0 = head }))) p q
          → Rounds_on r d ss head → Waits_on (F.item_yielded l n r) ss p
      at_item_sent : (l n head : ℕ) (r : Rounds V) (d : ℕ) (ss : Slots V) (p q : ℕ)
          → (Act_at block code rows instr.Pop n l false ⨾ Move_at block code rows (instr.Jump (record { 0 = head }))) p q
          → Rounds_on r d ss head → Waits_on (F.item_sent l n r) ss p
      -- the parts of a target that is stored to are due
      at_attribute : (l n : ℕ) (x : Name) (v : V) (k : Way V) (ss : Slots V) (p q : ℕ)
          → Sets block code rows (block.spelled x) (act_mark p n l false) p q → Way_on k ss q → Waits_on (F.of_attribute l n x (F.storing v k)) (value v ∷ ss) p
      at_container : (l n : ℕ) (i : Exp) (v : V) (k : Way V) (ss : Slots V) (p q : ℕ)
          → (Exp_at block code rows i n false (around_way k) ⨾ Act_at block code rows instr.SetItem (n + size i) l false) p q → Way_on k ss q
          → Waits_on (F.of_item l n i (F.storing v k)) (value v ∷ ss) p
      at_index : (l n : ℕ) (a v : V) (k : Way V) (ss : Slots V) (p q : ℕ)
          → Act_at block code rows instr.SetItem n l false p q → Way_on k ss q → Waits_on (F.at_item l n a (F.storing v k)) (value a ∷ value v ∷ ss) p
      -- behind a jump, and over a value that is dropped
      behind_jump : (w : Wait V) (ss : Slots V) (p m q : ℕ) → Move_at block code rows (instr.Jump (record { 0 = q })) p m → Waits_on w ss q → Waits_on w ss p
      over_value : (u : V) (w : Wait V) (ss : Slots V) (p m q : ℕ)
          → Move_at block code rows instr.Swap p m → Move_at block code rows instr.Pop m q → Waits_on w ss q → Waits_on w (value u ∷ ss) p

    -- the same where nothing is due
    pub data Way_on : Way V → Slots V → ℕ → Type 0 where
      at_out : (k : Way V) → way k ≡ outer → Way_on k lowest end
      at_value : (n : ℕ) (e : Exp) (w : Wait V) (ss : Slots V) (p q : ℕ)
          → Exp_at block code rows e n false (around w) p q → Waits_on w ss q → Way_on (F.value n e w) ss p
      at_given : (v : V) (w : Wait V) (ss : Slots V) (p : ℕ) → Waits_on w ss p → Way_on (F.given v w) (value v ∷ ss) p
      at_linked_on : (l n : ℕ) (a : V) (o : CompareOp) (b : Exp) (r : Links) (w : Wait V) (ss : Slots V) (p q : ℕ)
          → (Exp_at block code rows b n false (around w) ⨾ Links_at block code rows r o l (n + size b) (around w)) p q → Waits_on w ss q
          → Way_on (F.linked_on l n a o b r w) (value a ∷ ss) p
      way_behind_jump : (k : Way V) (ss : Slots V) (p m q : ℕ) → Move_at block code rows (instr.Jump (record { 0 = q })) p m → Way_on k ss q → Way_on k ss p
      at_stores : (n : ℕ) (st : Stores V) (k : Way V) (ss : Slots V) (p q : ℕ)
          → Stores_at block code rows st n (around_way k) p q → Way_on k ss q → Way_on (F.stores n st k) (stored st ss) p
      at_clauses : (n d head : ℕ) (cs : Clauses) (r : Rounds V) (ss : Slots V) (p q : ℕ)
          → Clauses_at block code rows cs (rounds_line r) n d head (around_rounds r) (Last_at block code rows r) p q → Rounds_on r d ss head
          → Way_on (F.clauses n cs r) ss p
      at_round : (d : ℕ) (r : Rounds V) (ss : Slots V) (p : ℕ) → Rounds_on r d ss p → Way_on (F.round r) ss p
      at_renewed : (xs : List Variable) (l n d p head end' next : ℕ) (i : V) (t : Tgt) (cs : Clauses) (r : Rounds V) (ss : Slots V)
          → Renewed_at block code rows xs p head → Item_taken block code rows l n t cs r d head next end' → Rounds_on r d ss next
          → Way_on (F.made_anew xs l n i t cs r) (iterator i ∷ ss) p

    -- the same at the next item of the innermost clause; d iterators lie above the result
    pub data Rounds_on : Rounds V → (d : ℕ) → Slots V → ℕ → Type 0 where
      at_result : (l n : ℕ) (m : Made) (made : V) (w : Wait V) (ss : Slots V) (p : ℕ) → Waits_on w ss p
          → Rounds_on (F.collecting l n m made w) 0 (value made ∷ ss) p
      at_items : (l : ℕ) (e : Exp) (s : Nest V) → way (F.finished s) ≡ outer → Rounds_on (F.generating l e s) 0 lowest end
      at_clause : (l n d : ℕ) (i : V) (t : Tgt) (cs : Clauses) (r : Rounds V) (ss : Slots V) (p head end' : ℕ)
          → Item_taken block code rows l n t cs r d p head end' → Rounds_on r d ss head → Rounds_on (F.round_of l n i t cs r) (suc d) (iterator i ∷ ss) p

    -- the same where an iterator is due
    pub data Over_on : Over V → Slots V → ℕ → Type 0 where
      over_generator : (l n b : ℕ) (w : Wait V) (ss : Slots V) (p q : ℕ)
          → Made_at block code rows (block.captured b) (T.generator b) iterators_above l n false 1 0 p q → Waits_on w ss q
          → Over_on (F.generator_over l n b w) ss p
      over_delegated : (l n : ℕ) (w : Wait V) (ss : Slots V) (p m q : ℕ)
          → Null_at block code rows p m → Act_at block code rows instr.Delegate n l false m q → Waits_on w ss q → Over_on (F.delegated_over l n w) ss p
      over_comprehension : (l n k : ℕ) (t : Tgt) (cs : Clauses) (m : Made) (w : Wait V) (ss : Slots V) (p p1 p2 head end' q : ℕ)
          → Made_at block code rows [] (built_as m) above l n false 0 0 p p1 → Move_at block code rows instr.Swap p1 p2
          → Renewed_at block code rows (map (block.variable ((n + 1) ∷ around w)) (target_names t ++ clause_names cs)) p2 head
          → (Act_at block code rows (instr.Next (record { 0 = q })) (n + 1) k false ⨾ Target_at block code rows t (n + 1 + 1) ((n + 1) ∷ around w)
          ⨾ Clauses_at block code rows cs l (n + 1 + 1 + target_size t) 1 head ((n + 1) ∷ around w)
          (λ j d h. Item_at block code rows m l j d h ((n + 1) ∷ around w))) head end'
          → Waits_on w ss q → Over_on (F.comprehension_over l n k t cs m w) ss p
      over_clause : (l n d : ℕ) (t : Tgt) (cs : Clauses) (r : Rounds V) (ss : Slots V) (p head end' : ℕ)
          → Item_taken block code rows l n t cs r d p head end' → Rounds_on r d ss head → Over_on (F.clause_over l n t cs r) ss p

  -- a nest to which a raise goes from these slots
  pub data Inside : Nest V → Slots V → Type 0 where
    inside : (w : Wait V) (ss ts : Slots V) (q : ℕ) → Waits_on w ss q → On_top ss ts → Inside (base w) ts
    inside_out : (k : Way V) (ts : Slots V) → way k ≡ outer → On_top lowest ts → Inside (way_base k) ts

  pub data Lands : Way V → State V → Type 0 where
    lands : (k : Way V) (ss : Slots V) (q : ℕ) → Way_on k ss q → Lands k (on q ss)

  -- a state of the code stands for one of control, at the beginning of an act or of an ask without a mark
  pub data Match : Control V → State V → Type 0 where
    m_value : (m : Mark) (a : Seek V) (w : Wait V) (t : State V) (i : Ins) (ss ts : Slots V) (q : ℕ)
        → machine.turn code t ≡ act (Some m) (T.seek a) (after code i ts (λ v. on q (value v ∷ ss))) → Leaves t i rows ts → On_top ss ts → Waits_on w ss q
        → Match (for_value m a w) t
    m_cell : (x : Variable) (l n : ℕ) (g : Bool) (op : Operation) (lower : List V → Slots V → Slots V) (cs vs before : List V) (xs : List Variable) (w : Wait V)
        (t : State V) (i : Ins) (ss ts : Slots V) (p q : ℕ)
        → machine.turn code t ≡ act None (T.seek (T.cell_of x)) (after code i ts (λ v. on p (cell v ∷ cells_above cs (lower vs ss)))) → Leaves t i rows ts
        → On_top ss ts
        → On_top ss (lower vs ss) → Made_at block code rows xs op lower l n g (count vs) (suc (count cs)) p q → before ≡ cs ++ vs → Waits_on w ss q
        → Match (silent_value (T.cell_of x) (F.celled l n g op before xs w)) t
    m_truth : (m : Mark) (v : V) (t f : Way V) (s : Nest V) (st : State V) (i : Ins) (ts : Slots V) (next : Bool → State V)
        → machine.turn code st ≡ act (Some m) (T.test (T.branch v)) (after code i ts next) → Leaves st i rows ts → Inside s ts → Lands t (next true)
        → Lands f (next false)
        → Match (for_truth m (T.branch v) t f s) st
    m_deed : (m : Option Mark) (d : Deed V) (k : Way V) (s : Nest V) (t : State V) (i : Ins) (ts : Slots V) (u : State V) (c : Control V)
        → machine.turn code t ≡ act m (T.deed d) (after code i ts (λ x. u)) → control.turn block c ≡ act m (T.deed d) (control.after_deed block k s)
        → control.nest_at c ≡ s → control.context_at c ≡ bases.active s
        → Leaves t i rows ts → Inside s ts → Lands k u → Match c t
    m_item : (m : Mark) (it : V) (n : ℕ) (tg : Tgt) (k f : Way V) (t : State V) (i : Ins) (ss : Slots V) (q q' to : ℕ)
        → machine.turn code t ≡ act (Some m) (T.next_of it) (after code i ss (with_item code i to it ss)) → Leaves t i rows ss → i.next ≡ q
        → Target_at block code rows tg n (around_way k) q q' → Way_on k (iterator it ∷ ss) q' → Way_on f ss to
        → Inside (way_base k) ss → Match (for_item m it n tg k f) t
    m_unpack : (m : Mark) (v : V) (n : ℕ) (ts : Tgts) (k : Way V) (t : State V) (i : Ins) (ss : Slots V) (q q' : ℕ)
        → machine.turn code t
        ≡ act (Some m) (T.unpack v (statements.count ts) (statements.star_of ts)) (after code i ss (λ vs. on q (giving (statements.count ts) vs ss)))
        → Leaves t i rows ss → Targets_at block code rows ts n (around_way k) q q' → Way_on k ss q' → Inside (way_base k) ss
        → Match (for_unpack m v n ts k (way_base k)) t
    m_iter : (m : Mark) (v : V) (o : Over V) (t : State V) (i : Ins) (ss : Slots V) (q : ℕ)
        → machine.turn code t ≡ act (Some m) (T.iter_of v) (after code i ss (λ it. on q (iterator it ∷ ss))) → Leaves t i rows ss → Over_on o ss q
        → Match (for_iter m v o) t
    m_delegate : (l n : ℕ) (it u : V) (r : Reply V V) (w : Wait V) (t : State V) (ss : Slots V) (p q : ℕ)
        → Act_at block code rows instr.Delegate n l false p q
        → machine.turn code t ≡ act (Some (mark n l false)) (T.delegate it r) (after code (ins instr.Delegate (act_mark p n l false) q rows) ss
        (delegated code p (ins instr.Delegate (act_mark p n l false) q rows) it u ss)) → On_top ss (slots_in t) → Waits_on w ss q
        → Match (for_delegate (mark n l false) it r w) t

  -- by moves the code comes to such a state
  pub data Nears : Control V → State V → Type 0 where
    there : (c : Control V) (t : State V) → Match c t → Nears c t
    moves : (c : Control V) (t u : State V) → machine.turn code t ≡ move u → Nears c u → Nears c t

  -- or the expression has its value, the target has it, or a raise leaves them
  pub data Comes : Control V → State V → Type 0 where
    near : (c : Control V) (t : State V) → Nears c t → Comes c t
    moves_on : (c : Control V) (t u : State V) → machine.turn code t ≡ move u → Comes c u → Comes c t
    given : (w : Wait V) (v : V) → wait w ≡ outer → Comes (control.deliver block v w) (on end (value v ∷ lowest))
    gone : (k : Way V) → way k ≡ outer → Comes (control.go block k) (on end lowest)
    left : (v : V) (ts : Slots V) → On_top lowest ts → Comes (complete block (F.by (F.raise v)) (outer_base outer)) (land code rows (raise v) ts)

  -- the same act or ask, behind which each reply leads to states that come together again
  pub data Same : Turn (Control V) V → Turn (State V) V → Type 0 where
    same_act : (m : Option Mark) (a : Ask V) (k : Reply V (Answer V a) → Control V) (k' : Reply V (Answer V a) → State V)
        → ((r : Reply V (Answer V a)) → Comes (k r) (k' r)) → Same (act m a k) (act m a k')

  -- from all matching states
  abbrev pub Follows : Type 0
  Follows = (c : Control V) (t : State V) → Match c t → Same (control.turn block c) (machine.turn code t)

module _ {V : Type 0} (block : Around V) (code : CodeObject V) where
  -- the code of an expression comes from its beginning to such states, wherever it stands and whatever waits for its value
  abbrev pub AllBegin : Type 0
  AllBegin = (rows : List Handler) (w : Wait V) (lowest : Slots V) (end : ℕ) (e : Exp) (n : ℕ) (g : Bool) (from : ℕ)
      → Exp_at block code rows e n g (around w) from end → Nears block code rows (wait w) lowest end (begin_exp block e n g w) (on from lowest)

  -- and so does that of a target to which a value is due
  abbrev pub AllStore : Type 0
  AllStore = (rows : List Handler) (k : Way V) (lowest : Slots V) (end : ℕ) (t : Tgt) (v : V) (n from : ℕ)
      → Target_at block code rows t n (around_way k) from end
      → Nears block code rows (way k) lowest end (statements.begin_store block t v n k) (on from (value v ∷ lowest))

  -- the exception that is active in control there is that of the nest behind, and in code that of the slots below
  abbrev pub AllActive : Type 0
  AllActive = (rows : List Handler) (outer : Outer V) (lowest : Slots V) (end : ℕ) (c : Control V) (t : State V) → Match block code rows outer lowest end c t
      → (control.context_at c ≡ bases.active (outer_base outer)) × (active_at t ≡ active lowest)

  -- and control is there in the nest behind, with none but slots that aren't busy above those below
  abbrev pub AllLie : Type 0
  AllLie = (rows : List Handler) (outer : Outer V) (lowest : Slots V) (end : ℕ) (c : Control V) (t : State V) → Match block code rows outer lowest end c t
      → (control.nest_at c ≡ outer_base outer) × On_top lowest (slots_in t)

  abbrev pub AllFollow : Type 0
  AllFollow = (rows : List Handler) (outer : Outer V) (lowest : Slots V) (end : ℕ) → Follows block code rows outer lowest end
