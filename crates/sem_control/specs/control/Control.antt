-- The next act of a block, and how each reply goes on.
use Rattle.std.specs.Prelude.{ℕ, suc, ◌+◌, ◌*◌, List, [], ◌∷◌, ◌++◌, length, Bool, true, false, Option, Some, None, map}
use Rattle.pt_tree.specs.Syntax as S
use Rattle.pt_tree.specs.Syntax.{Exp, Clauses, Tgt, Tgts, Items, Stms, Name, none}
use Rattle.pt_tree.specs.Sizes.{size, target_size, items_size, stms_size}
use Rattle.sem_control.specs.control.Turn as T
use Rattle.sem_control.specs.control.Turn.{Mark, Variable, Around, mark, operate, yielding, store, delete, discard, add_to_list, add_to_set, add_to_dict, fresh, Leave, returning, jumping, raising, failing, branch, matches, seek, deed, leave, throw, test, iter_of, next_of, enter, unpack, delegate, Answer, Row, Delegated, returned, resumed, Reply, got, raised, Turn, act, note, over}
use Rattle.sem_control.specs.control.Frames as F
use Rattle.sem_control.specs.control.Frames.{Abrupt, raise, return, Completion, normal, by, Nest, no_more, Way, Wait, Over, Rounds, Control, for_value, for_deed, for_leave, for_throw, for_truth, for_iter, for_item, for_entry, for_unpack, for_delegate, silent_value, silent_deed, noting, closed}
use Rattle.sem_control.specs.control.Bases.{base, way_base, over_base, rounds_base, around, or_else, active}
use Rattle.sem_control.specs.control.Expressions.{begin_operation, begin_exp, next_operand, begin_spec, begin_clauses, take_item, target_names, clause_names, built_as}
use Rattle.sem_control.specs.control.Statements.{at_place, begin_store, begin_stores, begin_deletes, begin_imports, begin_imports_from, begin_definition, begin_assign, begin_next, begin_all, begin_branches, begin_items, begin_tests, each_gets, count, star_of}
use Rattle.sem_control.specs.control.Completions.{raise_of, complete, let_go}

-- the nest in which control stands
abbrev pub nest_at : {V : Type 0} → Control V → Nest V
nest_at (for_value m a w) = base w
nest_at (for_deed m a k s) = s
nest_at (for_leave m a s) = s
nest_at (for_throw m a s) = s
nest_at (for_truth m a t f s) = s
nest_at (for_iter m v o) = over_base o
nest_at (for_item m i n t k f) = way_base k
nest_at (for_entry m v l n t is body s) = s
nest_at (for_unpack m v n ts k s) = s
nest_at (for_delegate m i r w) = base w
nest_at (silent_value a w) = base w
nest_at (silent_deed a k s) = s
nest_at (noting a k s) = s
nest_at (closed e) = []

-- a raise that waits while an `as` name is unbound: it is active then, as in a `finally` part (8.4.1: `except E as N` is read as a `try`
-- whose `finally` deletes N)
abbrev pub held_while : {V : Type 0} → Way V → Option V
held_while (F.unbinds x c s) = raise_of c
held_while (F.lets_go c s) = raise_of c
held_while k = None

-- the exception that is active in the block where control stands; one that arises there gets it as its context (8.4, 7.8)
abbrev pub context_at : {V : Type 0} → Control V → Option V
context_at (silent_deed a k s) = or_else (held_while k) (active s)
context_at c = active (nest_at c)

-- the names of a comprehension are made anew, and then its first item is taken
abbrev pub make_anew : {V : Type 0} → List Variable → (l n : ℕ) → (iterator : V) → Tgt → Clauses → Rounds V → Control V
make_anew [] l n i t cs r = take_item l n i t cs r
make_anew (x ∷ xs) l n i t cs r = silent_deed (fresh x) (F.made_anew xs l n i t cs r) (rounds_base r)

module _ {V : Type 0} (block : Around V) where
  -- a value is there
  abbrev mutual
    pub deliver : V → Wait V → Control V
    deliver v (F.operands l n op before behind w) = next_operand block l n op (v ∷ before) behind w
    deliver v (F.celled l n g op before behind w) = begin_operation block behind l n g op (v ∷ before) w
    deliver v (F.yielded l n w) = for_value (mark n l false) (yielding v) w
    deliver v (F.formatted l n c sp w) = begin_spec block l n c v sp w
    deliver v (F.comparing l n o b r w) = begin_exp block b n false (F.compared l (n + size b) v o r w)
    deliver v (F.compared l n a o S.no_links w) = for_value (mark n l false) (operate (T.compare o) (a ∷ v ∷ [])) w
    deliver v (F.compared l n a o (S.link p b r) w) = for_value (mark n l false) (operate (T.compare o) (a ∷ v ∷ [])) (F.linked l (n + 1) v p b r w)
    deliver v (F.linked l n a o b r w) = for_truth (mark n l false) (branch v) (F.linked_on l (n + 1) a o b r w) (F.given v w) (base w)
    deliver v (F.anded l n S.no_exps w) = deliver v w
    deliver v (F.anded l n (S.more_exps e es) w) =
        for_truth (mark n l false) (branch v) (F.value (n + 1) e (F.anded l (n + 1 + size e) es w)) (F.given v w) (base w)
    deliver v (F.ored l n S.no_exps w) = deliver v w
    deliver v (F.ored l n (S.more_exps e es) w) =
        for_truth (mark n l false) (branch v) (F.given v w) (F.value (n + 1) e (F.ored l (n + 1 + size e) es w)) (base w)
    deliver v (F.asked l n t f) = for_truth (mark n l false) (branch v) t f (way_base f)
    deliver v (F.iterated l n o) = for_iter (mark n l false) v o
    deliver v (F.built_in l n k i t cs m w) =
        make_anew (map (block.variable (n ∷ around w)) (target_names t ++ clause_names cs)) k n i t cs (F.collecting l n m v w)
    deliver v (F.added_to_list l n made r) = for_deed (mark n l false) (add_to_list made v) (F.round r) (rounds_base r)
    deliver v (F.added_to_set l n made r) = for_deed (mark n l false) (add_to_set made v) (F.round r) (rounds_base r)
    deliver v (F.keyed l n e made r) = begin_exp block e n false (F.added_to_dict l (n + size e) v made r)
    deliver v (F.added_to_dict l n k made r) = for_deed (mark n l false) (add_to_dict made k v) (F.round r) (rounds_base r)
    deliver v (F.item_yielded l n r) = for_value (mark n l false) (yielding v) (F.item_sent l (n + 1) r)
    deliver v (F.item_sent l n r) = for_deed (mark n l false) (discard v) (F.round r) (rounds_base r)
    deliver v (F.dropped l n s) = for_deed (mark n l false) (discard v) (F.finished s) s
    deliver v (F.assigned n ts s) = begin_assign block v ts n s (complete block normal s)
    deliver a (F.of_attribute l n x p) = at_place block p (F.an_attribute a x) l n
    deliver a (F.of_item l n i p) = begin_exp block i n false (F.at_item l (n + size i) a p)
    deliver i (F.at_item l n a p) = at_place block p (F.an_item a i) l n
    deliver v (F.changing l n k to o e s) = begin_exp block e n false (F.changed_by l (n + size e) k to v o s)
    deliver u (F.changed_by l n k to v o s) = for_value (mark n l false) (operate (T.in_place o) (v ∷ u ∷ [])) (F.change_stored (n + 1) k to s)
    deliver v (F.change_stored n k to s) = at_place block (F.storing v (F.finished s)) to k n
    deliver v (F.returned_by l n s) = for_leave (mark n l false) (return v) s
    deliver v (F.thrown l n S.absent s) = for_throw (mark n l false) (raising v None) s
    deliver v (F.thrown l n (S.given c) s) = begin_exp block c n false (F.caused l (n + size c) v s)
    deliver c (F.caused l n v s) = for_throw (mark n l false) (raising v (Some c)) s
    deliver v (F.message_of l n s) = for_throw (mark n l false) (failing (Some v)) s
    deliver m (F.imported l n x xs s) = for_deed (mark n l false) (store (block.variable [] x) m) (F.imports l (n + 1) xs s) s
    deliver m (F.imported_origin l n xs s) = begin_imports_from block l n xs m s (complete block normal s)
    deliver v (F.imported_name l n x xs m s) = for_deed (mark n l false) (store (block.variable [] x) v) (F.imports_from l (n + 1) xs m s) s
    deliver c (F.matched l k n e t f) = for_truth (mark n l false) (matches e c) t f (F.testing k e ∷ way_base f)
    deliver v (F.entered l n t is body s) = for_entry (mark n l false) v l (n + 1) t is body s
    deliver v (F.decorated k n before S.no_decorators l x what s) = begin_definition block l n x what (record { line = k; value = v } ∷ before) s
    deliver v (F.decorated k n before (S.decorator j e r) l x what s) =
        begin_exp block e n false (F.decorated j (n + size e) (record { line = k; value = v } ∷ before) r l x what s)
    deliver v (F.defined l n x [] s) = for_deed (mark n l false) (store (block.variable [] x) v) (F.finished s) s
    deliver v (F.defined l n x (c ∷ cs) s) = for_value (mark n c.line false) (operate (T.call (T.positional ∷ [])) (c.value ∷ v ∷ [])) (F.defined l (n + 1) x cs s)

    -- the next item of the innermost clause; behind the last the comprehension has its result, and a generator ends
    pub next_round : Rounds V → Control V
    next_round (F.collecting l n m v w) = deliver v w
    next_round (F.generating l e s) = complete block normal s
    next_round (F.round_of l n i t cs r) = take_item l n i t cs r

  -- an iterator is there
  abbrev pub take_iter : V → Over V → Control V
  take_iter i (F.for_over l n t body els s) = begin_next block l n false i t body els s
  take_iter i (F.comprehension_over l n k t cs m w) = for_value (mark n l false) (operate (built_as m) []) (F.built_in l (n + 1) k i t cs m w)
  take_iter i (F.generator_over l n b w) = begin_operation block (block.captured b) l n false (T.generator b) (i ∷ []) w
  take_iter i (F.clause_over l n t cs r) = take_item l n i t cs r
  take_iter i (F.delegated_over l n w) = for_delegate (mark n l false) i (got block.null) w

  abbrev pub go : Way V → Control V
  go (F.finished s) = complete block normal s
  go (F.stms n ss s) = begin_all block ss n s (complete block normal s)
  go (F.branches n bs els s) = begin_branches block bs els n s (complete block normal s)
  go (F.value n e w) = begin_exp block e n false w
  go (F.given v w) = deliver v w
  go (F.linked_on l n v o b r w) = begin_exp block b n false (F.compared l (n + size b) v o r w)
  go (F.lets_go c s) = let_go block c s
  go (F.raises v s) = complete block (by (raise v)) s
  go (F.unbinds x c s) = silent_deed (delete (block.variable [] x)) (F.lets_go c s) s
  go (F.made_anew xs l n i t cs r) = make_anew xs l n i t cs r
  go (F.assigns n v ts s) = begin_assign block v ts n s (complete block normal s)
  go (F.tests k n hs e s) = begin_tests block k hs n e s (let_go block (by (raise e)) s)
  go (F.binding l n x v k s) = for_deed (mark n l false) (store (block.variable [] x) v) k s
  go (F.stores n st k) = begin_stores block st n k (go k)
  go (F.deletes n ps s) = begin_deletes block ps n s (complete block normal s)
  go (F.imports l n xs s) = begin_imports block l n xs s (complete block normal s)
  go (F.imports_from l n xs m s) = begin_imports_from block l n xs m s (complete block normal s)
  go (F.within_items n is body s) = begin_items block is body n s (complete block normal s)
  go (F.failed l n S.absent s) = for_throw (mark n l false) (failing None) s
  go (F.failed l n (S.given m) s) = begin_exp block m n false (F.message_of l (n + size m) s)
  go (F.round r) = next_round r
  go (F.clauses n cs r) = begin_clauses block cs n r

  abbrev pub after_value : Wait V → Reply V V → Control V
  after_value w (got v) = deliver v w
  after_value w (raised v) = complete block (by (raise v)) (base w)

  abbrev pub after_deed : Way V → Nest V → Reply V (Unit {0}) → Control V
  after_deed k s (got t) = go k
  after_deed k s (raised v) = complete block (by (raise v)) s

  -- a `break` or `continue` is a jump within its block
  abbrev pub leave_by : Abrupt V → Leave V
  leave_by (return v) = returning v
  leave_by a = jumping

  abbrev pub after_leave : Abrupt V → Nest V → Reply V (Unit {0}) → Control V
  after_leave a s (got t) = complete block (by a) s
  after_leave a s (raised v) = complete block (by (raise v)) s

  -- what only raises has no other reply
  abbrev pub after_throw : Nest V → Reply V ⊥ → Control V
  after_throw s (got x) = elim x [ ]
  after_throw s (raised v) = complete block (by (raise v)) s

  abbrev pub after_truth : (if_true if_false : Way V) → Nest V → Reply V Bool → Control V
  after_truth t f s (got true) = go t
  after_truth t f s (got false) = go f
  after_truth t f s (raised v) = complete block (by (raise v)) s

  abbrev pub after_iter : Over V → Reply V V → Control V
  after_iter o (got i) = take_iter i o
  after_iter o (raised v) = complete block (by (raise v)) (over_base o)

  abbrev pub after_item : (n : ℕ) → Tgt → (next at_end : Way V) → Reply V (Option V) → Control V
  after_item n t k f (got (Some v)) = begin_store block t v n (F.stores (n + target_size t) no_more k)
  after_item n t k f (got None) = go f
  after_item n t k f (raised v) = complete block (by (raise v)) (way_base k)

  -- a context is entered: its exit is due from here on, and its target gets what `__enter__` gave (8.5)
  abbrev pub after_entry : (l n : ℕ) → Option Tgt → Items → (body : Stms) → Nest V → Reply V (V × V) → Control V
  after_entry l n None is body s (got (w, v)) =
      begin_items block is body n (F.withing l (n + items_size is (stms_size body)) w ∷ s) (complete block normal (F.withing l (n + items_size is (stms_size body)) w ∷ s))
  after_entry l n (Some t) is body s (got (w, v)) =
      begin_store block t v n (F.within_items (n + target_size t) is body (F.withing l (n + target_size t + items_size is (stms_size body)) w ∷ s))
  after_entry l n t is body s (raised v) = complete block (by (raise v)) s

  abbrev pub after_unpack : (n : ℕ) → (ts : Tgts) → Way V → Nest V → Reply V (Row V (count ts)) → Control V
  after_unpack n ts k s (got vs) = begin_stores block (each_gets ts vs) n k (go k)
  after_unpack n ts k s (raised v) = complete block (by (raise v)) s

  -- a delegation begins again at each resumption (6.2.9)
  abbrev pub after_delegate : Mark → (iterator : V) → Wait V → Reply V (Delegated V) → Control V
  after_delegate m i w (got (returned v)) = deliver v w
  after_delegate m i w (got (resumed r)) = for_delegate m i r w
  after_delegate m i w (raised v) = complete block (by (raise v)) (base w)

  -- what comes next, and how each reply goes on
  abbrev pub turn : Control V → Turn (Control V) V
  turn (for_value m a w) = act (Some m) (seek a) (after_value w)
  turn (for_deed m a k s) = act (Some m) (deed a) (after_deed k s)
  turn (for_leave m a s) = act (Some m) (leave (leave_by a)) (after_leave a s)
  turn (for_throw m a s) = act (Some m) (throw a) (after_throw s)
  turn (for_truth m a t f s) = act (Some m) (test a) (after_truth t f s)
  turn (for_iter m v o) = act (Some m) (iter_of v) (after_iter o)
  turn (for_item m i n t k f) = act (Some m) (next_of i) (after_item n t k f)
  turn (for_entry m v l n t is body s) = act (Some m) (enter v) (after_entry l n t is body s)
  turn (for_unpack m v n ts k s) = act (Some m) (unpack v (count ts) (star_of ts)) (after_unpack n ts k s)
  turn (for_delegate m i r w) = act (Some m) (delegate i r) (after_delegate m i w)
  turn (silent_value a w) = act None (seek a) (after_value w)
  turn (silent_deed a k s) = act None (deed a) (after_deed k s)
  turn (noting a k s) = note a (after_deed k s)
  turn (closed e) = over e

  -- how many notes and unmarked asks come, at most, before the next act, the cells of what begins there, or the end: three for each frame, and one
  -- for each name that is made anew and each cell
  abbrev pub most_silent : Control V → ℕ
  most_silent (silent_deed a (F.made_anew xs l n i t cs r) s) = suc (length xs)
  most_silent (silent_value a (F.celled l n g op before behind w)) = suc (length behind)
  most_silent c = 3 * suc (length (nest_at c))

  -- control behind so many of them, where none of them raises; all cells, and all names that are made anew, at once
  abbrev pub unhindered : Control V → (most : ℕ) → Control V
  unhindered (silent_value a (F.celled l n g op before behind w)) m = begin_operation block [] l n g op before w
  unhindered (silent_deed a (F.made_anew xs l n i t cs r) s) m = take_item l n i t cs r
  unhindered (silent_deed a k s) (suc m) = unhindered (go k) m
  unhindered (noting a k s) (suc m) = unhindered (go k) m
  unhindered c m = c

  -- a block begins: one of statements, a lambda's, and a generator expression's with its first iterator
  abbrev pub start : Stms → Control V
  start ss = begin_all block ss 0 [] (complete block normal [])

  abbrev pub start_lambda : (l : ℕ) → Exp → Control V
  start_lambda l e = begin_exp block e 0 false (F.returned_by l (size e) [])

  abbrev pub start_generator : (l : ℕ) → (item : Exp) → (for_line : ℕ) → Tgt → Clauses → (iterator : V) → Control V
  start_generator l e k t cs i = take_item k 0 i t cs (F.generating l e [])
