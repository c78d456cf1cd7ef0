-- From the beginning of an expression or a target each of its acts is met, and with answers it comes to its end.
use Rattle.std.proofs.Common.{ℕ, ◌+◌, Bool, false, Option, List, [], ◌∷◌, ◌++◌, map, arith}
use Rattle.pt_tree.specs.declared.expression.Conversion.{Conversion}
use Rattle.pt_base.specs.declared.operators.CompareOp.{CompareOp}
use Rattle.pt_tree.specs.Syntax as S
use Rattle.pt_tree.specs.Syntax.{Exp, Exps, Opt, Pieces, Entries, Links, Args, Made, Clauses, Place, Tgt, Tgts, Params, Formals}
use Rattle.pt_tree.specs.Sizes.{size, all_size, operands_size, opt_size, pieces_size, joins, entries_size, links_size, args_size, made_size, clauses_size, place_size, target_size, targets_size, params_size, formals_size}
use Rattle.sem_control.specs.control.Turn as T
use Rattle.sem_control.specs.control.Turn.{Around, Operation, Row}
use Rattle.sem_control.specs.control.Frames as F
use Rattle.sem_control.specs.control.Frames.{Operand, raise, by, Way, Wait, Rounds, Control}
use Rattle.sem_control.specs.control.Bases.{around}
use Rattle.sem_control.specs.control.Expressions.{of_exps, of_entries, of_opt, of_pieces, of_args, of_formals, roles, making, cells_of, begin_exp, begin_defaults, begin_function, next_operand, begin_spec, begin_made, begin_last, begin_clauses, target_names, clause_names}
use Rattle.sem_control.specs.control.Statements.{begin_store, begin_stores, count, each_gets}
use Rattle.sem_control.specs.control.Control.{deliver, go}
use Rattle.sem_control.proofs.control.MarksPaths.{Met, met_to, met_then, stays, fork, Runs, runs_then, runs_to, along, finally, value_runs, operation_runs, deed_runs, true_runs, false_runs, iter_runs, some_runs, none_runs, unpack_runs, delegate_runs, nulls, anew_reaches}

module _ {V : Type 0} (block : Around V) where
  -- a spec, given the way through its parts
  spec_runs : (sp : Pieces)
      → ((l n : ℕ) (op : Operation) (vs : List V) (w : Wait V) → Runs block (next_operand block l n op vs (of_pieces sp) w) n (n + pieces_size sp + 1) (deliver block block.null w))
      → (l n : ℕ) (c : Option Conversion) (v : V) (w : Wait V) → Runs block (begin_spec block l n c v sp w) n (n + pieces_size sp + joins sp + 1) (deliver block block.null w)
  spec_runs S.no_pieces parts l n c v w = runs_to block (value_runs block) (omega arith)
  spec_runs (S.literal k t S.no_pieces) parts l n c v w = runs_to block (parts l n (T.format c) (v ∷ []) w) (omega arith)
  spec_runs (S.field k e d sp S.no_pieces) parts l n c v w = runs_to block (parts l n (T.format c) (v ∷ []) w) (omega arith)
  spec_runs (S.literal k t (S.literal j u r)) parts l n c v w =
      runs_to block (runs_then block (runs_to block (parts l n T.join [] _) (omega arith)) (value_runs block {n = n + 1 + pieces_size (S.literal j u r) + 1})) (omega arith)
  spec_runs (S.literal k t (S.field j f b q r)) parts l n c v w =
      runs_to block (runs_then block (runs_to block (parts l n T.join [] _) (omega arith)) (value_runs block {n = n + 1 + pieces_size (S.field j f b q r) + 1})) (omega arith)
  spec_runs (S.field k e d sp (S.literal j u r)) parts l n c v w =
      runs_to block (runs_then block (parts l n T.join [] _) (value_runs block)) (omega arith)
  spec_runs (S.field k e d sp (S.field j f b q r)) parts l n c v w =
      runs_to block (runs_then block (parts l n T.join [] _) (value_runs block)) (omega arith)

  mutual
    pub exp_runs : (e : Exp) (n : ℕ) (g : Bool) (w : Wait V) → Runs block (begin_exp block e n g w) n (n + size e) (deliver block block.null w)
    exp_runs (S.constant l k) n g w = value_runs block
    exp_runs (S.name l x) n g w = value_runs block
    exp_runs (S.joined l S.no_pieces) n g w = value_runs block
    exp_runs (S.joined l (S.literal k t r)) n g w =
        runs_to block (runs_then block (value_runs block) (pieces_runs r l (n + 1) T.join (block.null ∷ []) w)) (omega arith)
    exp_runs (S.joined l (S.field k e c sp r)) n g w =
        runs_to block (runs_then block (exp_runs e n g _) (runs_then block (spec_runs sp (pieces_runs sp) k (n + size e) c block.null _)
        (pieces_runs r l (n + size e + pieces_size sp + joins sp + 1) T.join (block.null ∷ []) w))) (omega arith)
    exp_runs (S.tuple l S.no_exps) n g w = value_runs block
    exp_runs (S.tuple l (S.more_exps e es)) n g w = runs_to block (runs_then block (exp_runs e n g _) (exps_runs es l (n + size e) T.tuple (block.null ∷ []) w)) (omega arith)
    exp_runs (S.list l S.no_exps) n g w = value_runs block
    exp_runs (S.list l (S.more_exps e es)) n g w = runs_to block (runs_then block (exp_runs e n g _) (exps_runs es l (n + size e) T.list (block.null ∷ []) w)) (omega arith)
    exp_runs (S.set l S.no_exps) n g w = value_runs block
    exp_runs (S.set l (S.more_exps e es)) n g w = runs_to block (runs_then block (exp_runs e n g _) (exps_runs es l (n + size e) T.set (block.null ∷ []) w)) (omega arith)
    exp_runs (S.dict l S.no_entries) n g w = value_runs block
    exp_runs (S.dict l (S.entry k v r)) n g w =
        runs_to block (runs_then block (exp_runs k n g _) (runs_then block (exp_runs v (n + size k) false _) (entries_runs r l (n + size k + size v) T.dict (block.null ∷ block.null ∷ []) w))) (omega arith)
    exp_runs (S.attribute l a x) n g w = runs_to block (runs_then block (exp_runs a n g _) (value_runs block)) (omega arith)
    exp_runs (S.item l a i) n g w = runs_to block (runs_then block (exp_runs a n g _) (runs_then block (exp_runs i (n + size a) false _) (value_runs block))) (omega arith)
    exp_runs (S.slice l S.absent S.absent S.absent) n g w = value_runs block
    exp_runs (S.slice l S.absent S.absent (S.given c)) n g w = runs_to block (runs_then block (exp_runs c n g _) (value_runs block)) (omega arith)
    exp_runs (S.slice l S.absent (S.given b) c) n g w =
        runs_to block (runs_then block (exp_runs b n g _) (opt_runs c l T.slice [] w 1 (λ m vs. value_runs block) (n + size b) (block.null ∷ block.null ∷ []))) (omega arith)
    exp_runs (S.slice l (S.given a) b c) n g w =
        runs_to block (runs_then block (exp_runs a n g _)
        (opt_runs b l T.slice (of_opt c ∷ []) w (opt_size c + 1) (λ m vs. runs_to block (opt_runs c l T.slice [] w 1 (λ o us. value_runs block) m vs) (omega arith)) (n + size a) (block.null ∷ []))) (omega arith)
    exp_runs (S.unary l o a) n g w = runs_to block (runs_then block (exp_runs a n g _) (value_runs block)) (omega arith)
    exp_runs (S.not_of l a) n g w = runs_to block (runs_then block (exp_runs a n g _) (value_runs block)) (omega arith)
    exp_runs (S.binary l o a b) n g w = runs_to block (runs_then block (exp_runs a n g _) (runs_then block (exp_runs b (n + size a) false _) (value_runs block))) (omega arith)
    exp_runs (S.compare l a o b r) n g w =
        runs_to block (runs_then block (exp_runs a n g _) (runs_then block (exp_runs b (n + size a) false _) (links_runs r l (n + size a + size b) block.null o w))) (omega arith)
    exp_runs (S.and l a es) n g w = runs_to block (runs_then block (exp_runs a n g _) (ands_run es l (n + size a) w)) (omega arith)
    exp_runs (S.or l a es) n g w = runs_to block (runs_then block (exp_runs a n g _) (ors_run es l (n + size a) w)) (omega arith)
    exp_runs (S.conditional l c a b) n g w =
        runs_to block (runs_then block (exp_runs c n g _)
        (fork block (runs_then block (true_runs block) (exp_runs a (n + size c + 1) false w)) (false_runs block) (exp_runs b (n + size c + 1 + size a) false w))) (omega arith)
    exp_runs (S.call l f xs) n g w = runs_to block (runs_then block (exp_runs f n g _) (args_runs xs l (n + size f) (T.call (roles block.spelled xs)) (block.null ∷ []) w)) (omega arith)
    exp_runs (S.lambda l b (S.parameters ps s ks d) e) n g w =
        runs_to block (defaults_run ps l (making block b ps ks) (of_formals ks) w (formals_size ks + 1)
        (λ m vs. runs_to block (all_formals_run ks l (making block b ps ks) w m vs) (omega arith)) n g _
        (runs_to block (defaults_run ks l (making block b ps ks) [] w 1 (λ m vs. operation_runs block (block.captured b) _ _ _ _ _ _) n g _ (operation_runs block (block.captured b) _ _ _ _ _ _)) (omega arith))) (omega arith)
    exp_runs (S.comprehension l m k t it cs) n g w =
        runs_to block (runs_then block (exp_runs it n g _) (runs_then block (iter_runs block) (runs_then block (value_runs block)
        (along block (anew_reaches block (map (block.variable ((n + size it + 1 + 1) ∷ around w)) (target_names t ++ clause_names cs)) _ _ _ _ _ _)
        (finally block (none_runs block) (met_then block (some_runs block) (met_then block (target_runs t block.null (n + size it + 1 + 1 + 1) _)
        (clauses_met cs (n + size it + 1 + 1 + 1 + target_size t) _ (made_size m) (λ o q. made_met m l o block.null q))))))))) (omega arith)
    exp_runs (S.generator l b e k t it cs) n g w = runs_to block (runs_then block (exp_runs it n g _) (runs_then block (iter_runs block) (operation_runs block (block.captured b) _ _ _ _ _ _))) (omega arith)
    exp_runs (S.yield l S.absent) n g w = value_runs block
    exp_runs (S.yield l (S.given e)) n g w = runs_to block (runs_then block (exp_runs e n g _) (value_runs block)) (omega arith)
    exp_runs (S.yield_from l e) n g w = runs_to block (runs_then block (exp_runs e n g _) (runs_then block (iter_runs block) (delegate_runs block))) (omega arith)

    exps_runs : (es : Exps) (l n : ℕ) (op : Operation) (vs : List V) (w : Wait V)
        → Runs block (next_operand block l n op vs (of_exps es) w) n (n + all_size es + 1) (deliver block block.null w)
    exps_runs S.no_exps l n op vs w = runs_to block (operation_runs block (cells_of block op) _ _ _ _ _ _) (omega arith)
    exps_runs (S.more_exps e es) l n op vs w =
        runs_to block (runs_then block (exp_runs e n false _) (exps_runs es l (n + size e) op (block.null ∷ vs) w)) (omega arith)

    ands_run : (es : Exps) (l n : ℕ) (w : Wait V) → Runs block (deliver block block.null (F.anded l n es w)) n (n + operands_size es) (deliver block block.null w)
    ands_run S.no_exps l n w = stays block
    ands_run (S.more_exps e es) l n w =
        runs_to block (runs_then block (true_runs block) (runs_then block (exp_runs e (n + 1) false _) (ands_run es l (n + 1 + size e) w))) (omega arith)

    ors_run : (es : Exps) (l n : ℕ) (w : Wait V) → Runs block (deliver block block.null (F.ored l n es w)) n (n + operands_size es) (deliver block block.null w)
    ors_run S.no_exps l n w = stays block
    ors_run (S.more_exps e es) l n w =
        runs_to block (runs_then block (false_runs block) (runs_then block (exp_runs e (n + 1) false _) (ors_run es l (n + 1 + size e) w))) (omega arith)

    opt_runs : (o : Opt) (l : ℕ) (op : Operation) (os : List Operand) (w : Wait V) (k : ℕ)
        → ((n : ℕ) (vs : List V) → Runs block (next_operand block l n op vs os w) n (n + k) (deliver block block.null w))
        → (n : ℕ) (vs : List V) → Runs block (next_operand block l n op vs (of_opt o ∷ os) w) n (n + opt_size o + k) (deliver block block.null w)
    opt_runs S.absent l op os w k behind n vs = runs_to block (behind n (block.null ∷ vs)) (omega arith)
    opt_runs (S.given e) l op os w k behind n vs = runs_then block (exp_runs e n false _) (behind (n + size e) (block.null ∷ vs))

    pieces_runs : (ps : Pieces) (l n : ℕ) (op : Operation) (vs : List V) (w : Wait V)
        → Runs block (next_operand block l n op vs (of_pieces ps) w) n (n + pieces_size ps + 1) (deliver block block.null w)
    pieces_runs S.no_pieces l n op vs w = runs_to block (operation_runs block (cells_of block op) _ _ _ _ _ _) (omega arith)
    pieces_runs (S.literal k t r) l n op vs w = runs_to block (runs_then block (value_runs block) (pieces_runs r l (n + 1) op (block.null ∷ vs) w)) (omega arith)
    pieces_runs (S.field k e c sp r) l n op vs w =
        runs_to block (runs_then block (exp_runs e n false _) (runs_then block (spec_runs sp (pieces_runs sp) k (n + size e) c block.null _)
        (pieces_runs r l (n + size e + pieces_size sp + joins sp + 1) op (block.null ∷ vs) w))) (omega arith)

    entries_runs : (es : Entries) (l n : ℕ) (op : Operation) (vs : List V) (w : Wait V)
        → Runs block (next_operand block l n op vs (of_entries es) w) n (n + entries_size es + 1) (deliver block block.null w)
    entries_runs S.no_entries l n op vs w = runs_to block (operation_runs block (cells_of block op) _ _ _ _ _ _) (omega arith)
    entries_runs (S.entry k v r) l n op vs w =
        runs_to block (runs_then block (exp_runs k n false _) (runs_then block (exp_runs v (n + size k) false _) (entries_runs r l (n + size k + size v) op (block.null ∷ block.null ∷ vs) w))) (omega arith)

    links_runs : (r : Links) (l n : ℕ) (a : V) (o : CompareOp) (w : Wait V)
        → Runs block (deliver block block.null (F.compared l n a o r w)) n (n + 1 + links_size r) (deliver block block.null w)
    links_runs S.no_links l n a o w = runs_to block (value_runs block) (omega arith)
    links_runs (S.link p b r) l n a o w =
        runs_to block (runs_then block (value_runs block) (runs_then block (true_runs block) (runs_then block (exp_runs b (n + 1 + 1) false _)
        (links_runs r l (n + 1 + 1 + size b) block.null p w)))) (omega arith)

    args_runs : (xs : Args) (l n : ℕ) (op : Operation) (vs : List V) (w : Wait V)
        → Runs block (next_operand block l n op vs (of_args l xs) w) n (n + args_size xs + 1) (deliver block block.null w)
    args_runs S.no_args l n op vs w = runs_to block (operation_runs block (cells_of block op) _ _ _ _ _ _) (omega arith)
    args_runs (S.positional e r) l n op vs w = runs_to block (runs_then block (exp_runs e n false _) (args_runs r l (n + size e) op (block.null ∷ vs) w)) (omega arith)
    args_runs (S.named x e r) l n op vs w = runs_to block (runs_then block (exp_runs e n false _) (args_runs r l (n + size e) op (block.null ∷ vs) w)) (omega arith)
    args_runs (S.spread e r) l n op vs w =
        runs_to block (runs_then block (exp_runs e n false _) (runs_then block (value_runs block) (args_runs r l (n + size e + 1) op (block.null ∷ vs) w))) (omega arith)
    args_runs (S.spread_named e r) l n op vs w =
        runs_to block (runs_then block (exp_runs e n false _) (runs_then block (value_runs block) (args_runs r l (n + size e + 1) op (block.null ∷ vs) w))) (omega arith)

    made_met : (m : Made) (l n : ℕ) (v : V) (r : Rounds V) → Met block (begin_made block m l n v r) n (n + made_size m)
    made_met (S.a_list e) l n v r = (runs_to block (runs_then block (exp_runs e n false _) (deed_runs block)) (omega arith)).met
    made_met (S.a_set e) l n v r = (runs_to block (runs_then block (exp_runs e n false _) (deed_runs block)) (omega arith)).met
    made_met (S.a_dict k e) l n v r =
        (runs_to block (runs_then block (exp_runs k n false _) (runs_then block (exp_runs e (n + size k) false _) (deed_runs block))) (omega arith)).met

    -- clauses, given that the acts of an item are met, so many
    pub clauses_met : (cs : Clauses) (n : ℕ) (r : Rounds V) (k : ℕ) → ((m : ℕ) (q : Rounds V) → Met block (begin_last block r m q) m (m + k))
        → Met block (begin_clauses block cs n r) n (n + clauses_size cs + k)
    clauses_met S.no_clauses n r k last = met_to block (last n r) (omega arith)
    clauses_met (S.only_if c cs) n r k last =
        met_to block (met_then block (exp_runs c n false _) (met_then block (true_runs block) (clauses_met cs (n + size c + 1) r k last))) (omega arith)
    clauses_met (S.for_each l t it cs) n r k last =
        met_to block (met_then block (exp_runs it n false _) (met_then block (iter_runs block) (met_then block (some_runs block)
        (met_then block (target_runs t block.null (n + size it + 1 + 1) _)
        (clauses_met cs (n + size it + 1 + 1 + target_size t) (F.round_of l (n + size it + 1) block.null t cs r) k last))))) (omega arith)

    pub target_runs : (t : Tgt) (v : V) (n : ℕ) (k : Way V) → Runs block (begin_store block t v n k) n (n + target_size t) (go block k)
    target_runs (S.single p) v n k = place_runs p v n k
    target_runs (S.several l f ts) v n k = runs_to block (runs_then block (unpack_runs block) (targets_run ts (nulls block ts) (n + 1) k)) (omega arith)
    target_runs (S.starred l t) v n k = target_runs t v n k

    pub place_runs : (p : Place) (v : V) (n : ℕ) (k : Way V) → Runs block (begin_store block (S.single p) v n k) n (n + place_size p) (go block k)
    place_runs (S.name_at l x) v n k = deed_runs block
    place_runs (S.attribute_at l a x) v n k = runs_to block (runs_then block (exp_runs a n false _) (deed_runs block)) (omega arith)
    place_runs (S.item_at l a i) v n k =
        runs_to block (runs_then block (exp_runs a n false _) (runs_then block (exp_runs i (n + size a) false _) (deed_runs block))) (omega arith)

    targets_run : (ts : Tgts) (vs : Row V (count ts)) (n : ℕ) (k : Way V)
        → Runs block (begin_stores block (each_gets ts vs) n k (go block k)) n (n + targets_size ts) (go block k)
    targets_run S.no_targets vs n k = stays block
    targets_run (S.more_targets t ts) vs n k =
        runs_to block (runs_then block (target_runs t vs.0 n _) (targets_run ts vs.1 (n + target_size t) k)) (omega arith)

    -- the defaults begin, with the way through the operands behind them
    defaults_run : (fs : Formals) (l : ℕ) (op : Operation) (os : List Operand) (w : Wait V) (k : ℕ)
        → ((n : ℕ) (vs : List V) → Runs block (next_operand block l n op vs os w) n (n + k) (deliver block block.null w))
        → (n : ℕ) (g : Bool) (after : Control V) → Runs block after n (n + k) (deliver block block.null w)
        → Runs block (begin_defaults block fs os op l n g w after) n (n + formals_size fs + k) (deliver block block.null w)
    defaults_run S.no_formals l op os w k behind n g after h = runs_to block h (omega arith)
    defaults_run (S.formal j x a S.absent r) l op os w k behind n g after h = runs_to block (defaults_run r l op os w k behind n g after h) (omega arith)
    defaults_run (S.formal j x a (S.given e) r) l op os w k behind n g after h =
        runs_to block (runs_then block (exp_runs e n g _) (formals_run r l op os w k behind (n + size e) (block.null ∷ []))) (omega arith)

    formals_run : (fs : Formals) (l : ℕ) (op : Operation) (os : List Operand) (w : Wait V) (k : ℕ)
        → ((n : ℕ) (vs : List V) → Runs block (next_operand block l n op vs os w) n (n + k) (deliver block block.null w))
        → (n : ℕ) (vs : List V) → Runs block (next_operand block l n op vs (of_formals fs ++ os) w) n (n + formals_size fs + k) (deliver block block.null w)
    formals_run S.no_formals l op os w k behind n vs = runs_to block (behind n vs) (omega arith)
    formals_run (S.formal j x a S.absent r) l op os w k behind n vs = runs_to block (formals_run r l op os w k behind n vs) (omega arith)
    formals_run (S.formal j x a (S.given e) r) l op os w k behind n vs =
        runs_to block (runs_then block (exp_runs e n false _) (formals_run r l op os w k behind (n + size e) (block.null ∷ vs))) (omega arith)

    all_formals_run : (fs : Formals) (l : ℕ) (op : Operation) (w : Wait V) (n : ℕ) (vs : List V)
        → Runs block (next_operand block l n op vs (of_formals fs) w) n (n + formals_size fs + 1) (deliver block block.null w)
    all_formals_run S.no_formals l op w n vs = runs_to block (operation_runs block (cells_of block op) _ _ _ _ _ _) (omega arith)
    all_formals_run (S.formal j x a S.absent r) l op w n vs = runs_to block (all_formals_run r l op w n vs) (omega arith)
    all_formals_run (S.formal j x a (S.given e) r) l op w n vs =
        runs_to block (runs_then block (exp_runs e n false _) (all_formals_run r l op w (n + size e) (block.null ∷ vs))) (omega arith)

  pub function_runs : (b : ℕ) (ps : Params) (l n : ℕ) (w : Wait V) → Runs block (begin_function block b ps l n w) n (n + params_size ps + 1) (deliver block block.null w)
  function_runs b (S.parameters ps s ks d) l n w = runs_to block (exp_runs (S.lambda l b (S.parameters ps s ks d) (S.name 0 [])) n false w) (omega arith)
