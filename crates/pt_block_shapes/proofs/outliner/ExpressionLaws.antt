-- The outlines of expressions and targets tell their blocks, their first Nexts and their sizes.
use Rattle.std.proofs.Common.{◌≡◌, ℕ, ◌+◌, Bool, true, ◌∷◌, ◌++◌, ap, arith}
use Rattle.std.specs.Prelude.{None, codes}
use Rattle.sem_names.specs.Nexts.{next_if, nexts_all, nexts_all_deleted, nexts_args, nexts_clauses, nexts_decorators, nexts_deleted, nexts_entries, nexts_exp, nexts_formals, nexts_links, nexts_made, nexts_operands, nexts_opt, nexts_params, nexts_pieces, nexts_place, nexts_target, nexts_targets}
use Rattle.pt_block_shapes.specs.outliner.Parts.{outline_all, outline_all_deleted, outline_args, outline_clauses, outline_decorators, outline_deleted, outline_entries, outline_exp, outline_formals, outline_links, outline_made, outline_operands, outline_opt, outline_params, outline_pieces, outline_place, outline_target, outline_targets}
use Rattle.pt_block_shapes.proofs.outliner.Tells.{Tells, before_acts, behind_acts, both, comprehended, ending, first, generated, no_part, numbering, one_block, some_acts, three, within}
use Rattle.pt_tree.specs.Blocks.{no_params, of_generator, of_lambda, blocks_all, blocks_args, blocks_clauses, blocks_decorators, blocks_entries, blocks_exp, blocks_formals, blocks_links, blocks_made, blocks_opt, blocks_params, blocks_pieces, blocks_place, blocks_target, blocks_targets}
use Rattle.pt_tree.specs.Sizes.{all_deleted_size, all_size, args_size, clauses_size, decorators_size, deleted_size, entries_size, formals_size, joins, links_size, made_size, operands_size, opt_size, params_size, pieces_size, place_size, size, target_size, targets_size}
use Rattle.pt_tree.specs.Syntax as S
use Rattle.pt_tree.specs.Syntax.{Args, Clauses, Decorators, Entries, Exp, Exps, Formals, Links, Made, Name, Opt, Params, Pieces, Place, Tgt, Tgts}

-- the numbers in a comprehension
three_on : (k : ℕ) → k + 2 + 1 ≡ k + 3
three_on k = omega arith

comprehension-tells : (u : Bool) (c : Name) (it : Exp) (t : Tgt) (cs : Clauses) (m : Made)
    → Tells c (outline_exp u c it) (blocks_exp it) (nexts_exp u it) (λ n. n + size it)
    → Tells c (outline_target u c t) (blocks_target t) (nexts_target u t) (λ n. n + target_size t)
    → Tells c (outline_clauses u c cs) (blocks_clauses cs) (nexts_clauses u cs) (λ n. n + clauses_size cs)
    → Tells c (outline_made u c m) (blocks_made m) (nexts_made u m) (λ n. n + made_size m)
    → (l fl : ℕ) → Tells c (outline_exp u c (S.comprehension l m fl t it cs)) (blocks_exp (S.comprehension l m fl t it cs)) (nexts_exp u (S.comprehension l m fl t it cs)) (λ n. n + size (S.comprehension l m fl t it cs))
comprehension-tells u c it t cs m iterable target clauses made l fl =
    ending
    (numbering (comprehended u iterable target clauses made)
    (λ n. ap (λ (k : ℕ). next_if u (n + size it + 2) ∷ nexts_made u m (k + target_size t + clauses_size cs) ++ nexts_target u t k ++ nexts_exp u it n ++ nexts_clauses u cs (k + target_size t))
    (three_on (n + size it))))
    (λ n. omega arith)

mutual
  pub tells-exp : (u : Bool) (c : Name) (e : Exp) → Tells c (outline_exp u c e) (blocks_exp e) (nexts_exp u e) (λ n. n + size e)
  tells-exp u c (S.constant l k) = some_acts 1
  tells-exp u c (S.name l x) = some_acts 1
  tells-exp u c (S.joined l ps) = ending (before_acts 1 (tells-pieces u c ps)) (λ n. omega arith)
  tells-exp u c (S.tuple l es) = ending (before_acts 1 (tells-all u c es)) (λ n. omega arith)
  tells-exp u c (S.list l es) = ending (before_acts 1 (tells-all u c es)) (λ n. omega arith)
  tells-exp u c (S.set l es) = ending (before_acts 1 (tells-all u c es)) (λ n. omega arith)
  tells-exp u c (S.dict l es) = ending (before_acts 1 (tells-entries u c es)) (λ n. omega arith)
  tells-exp u c (S.attribute l a x) = ending (before_acts 1 (tells-exp u c a)) (λ n. omega arith)
  tells-exp u c (S.item l a i) = ending (both (tells-exp u c a) (before_acts 1 (tells-exp u c i))) (λ n. omega arith)
  tells-exp u c (S.slice l a b d) = ending (three (tells-opt u c a) (tells-opt u c b) (before_acts 1 (tells-opt u c d))) (λ n. omega arith)
  tells-exp u c (S.unary l o a) = ending (before_acts 1 (tells-exp u c a)) (λ n. omega arith)
  tells-exp u c (S.not_of l a) = ending (before_acts 1 (tells-exp u c a)) (λ n. omega arith)
  tells-exp u c (S.binary l o a b) = ending (both (tells-exp u c a) (before_acts 1 (tells-exp u c b))) (λ n. omega arith)
  tells-exp u c (S.compare l a o b r) = ending (three (tells-exp u c a) (tells-exp u c b) (behind_acts 1 (tells-links u c r))) (λ n. omega arith)
  tells-exp u c (S.and l a es) = ending (both (tells-exp u c a) (tells-operands u c es)) (λ n. omega arith)
  tells-exp u c (S.or l a es) = ending (both (tells-exp u c a) (tells-operands u c es)) (λ n. omega arith)
  tells-exp u c (S.conditional l t a b) = ending (both (first (before_acts 1 (tells-exp u c t)) (tells-exp u c a)) (tells-exp u c b)) (λ n. omega arith)
  tells-exp u c (S.call l f args) = ending (both (tells-exp u c f) (before_acts 1 (tells-args u c args))) (λ n. omega arith)
  tells-exp u c (S.lambda l b ps e) = ending (three (one_block (record { name = codes "<lambda>"; first_line = l; class = None; params = ps; code = of_lambda l e })) (tells-params u c ps) (before_acts 1 (within 0 (tells-exp true c e)))) (λ n. omega arith)
  tells-exp u c (S.comprehension l m fl t it cs) = comprehension-tells u c it t cs m (tells-exp u c it) (tells-target u c t) (tells-clauses u c cs) (tells-made u c m) l fl
  tells-exp u c (S.generator l b e fl t it cs) = ending (generated (record { name = codes "<genexpr>"; first_line = l; class = None; params = no_params; code = of_generator l e fl t cs }) (tells-exp u c it) (tells-target true c t) (tells-clauses true c cs) (tells-exp true c e)) (λ n. omega arith)
  tells-exp u c (S.yield l v) = ending (before_acts 1 (tells-opt u c v)) (λ n. omega arith)
  tells-exp u c (S.yield_from l e) = ending (before_acts 2 (tells-exp u c e)) (λ n. omega arith)

  pub tells-all : (u : Bool) (c : Name) (e : Exps) → Tells c (outline_all u c e) (blocks_all e) (nexts_all u e) (λ n. n + all_size e)
  tells-all u c S.no_exps = ending no_part (λ n. omega arith)
  tells-all u c (S.more_exps e es) = ending (both (tells-exp u c e) (tells-all u c es)) (λ n. omega arith)

  pub tells-operands : (u : Bool) (c : Name) (e : Exps) → Tells c (outline_operands u c e) (blocks_all e) (nexts_operands u e) (λ n. n + operands_size e)
  tells-operands u c S.no_exps = ending no_part (λ n. omega arith)
  tells-operands u c (S.more_exps e es) = ending (behind_acts 1 (both (tells-exp u c e) (tells-operands u c es))) (λ n. omega arith)

  pub tells-opt : (u : Bool) (c : Name) (e : Opt) → Tells c (outline_opt u c e) (blocks_opt e) (nexts_opt u e) (λ n. n + opt_size e)
  tells-opt u c S.absent = ending no_part (λ n. omega arith)
  tells-opt u c (S.given e) = tells-exp u c e

  pub tells-pieces : (u : Bool) (c : Name) (e : Pieces) → Tells c (outline_pieces u c e) (blocks_pieces e) (nexts_pieces u e) (λ n. n + pieces_size e)
  tells-pieces u c S.no_pieces = ending no_part (λ n. omega arith)
  tells-pieces u c (S.literal l x r) = ending (behind_acts 1 (tells-pieces u c r)) (λ n. omega arith)
  tells-pieces u c (S.field l e k ps r) = ending (three (tells-exp u c e) (tells-pieces u c ps) (behind_acts (joins ps) (behind_acts 1 (tells-pieces u c r)))) (λ n. omega arith)

  pub tells-entries : (u : Bool) (c : Name) (e : Entries) → Tells c (outline_entries u c e) (blocks_entries e) (nexts_entries u e) (λ n. n + entries_size e)
  tells-entries u c S.no_entries = ending no_part (λ n. omega arith)
  tells-entries u c (S.entry k v r) = ending (three (tells-exp u c k) (tells-exp u c v) (tells-entries u c r)) (λ n. omega arith)

  pub tells-links : (u : Bool) (c : Name) (e : Links) → Tells c (outline_links u c e) (blocks_links e) (nexts_links u e) (λ n. n + links_size e)
  tells-links u c S.no_links = ending no_part (λ n. omega arith)
  tells-links u c (S.link o b r) = ending (behind_acts 1 (both (tells-exp u c b) (behind_acts 1 (tells-links u c r)))) (λ n. omega arith)

  pub tells-args : (u : Bool) (c : Name) (e : Args) → Tells c (outline_args u c e) (blocks_args e) (nexts_args u e) (λ n. n + args_size e)
  tells-args u c S.no_args = ending no_part (λ n. omega arith)
  tells-args u c (S.positional e r) = ending (both (tells-exp u c e) (tells-args u c r)) (λ n. omega arith)
  tells-args u c (S.named x e r) = ending (both (tells-exp u c e) (tells-args u c r)) (λ n. omega arith)
  tells-args u c (S.spread e r) = ending (both (tells-exp u c e) (behind_acts 1 (tells-args u c r))) (λ n. omega arith)
  tells-args u c (S.spread_named e r) = ending (both (tells-exp u c e) (behind_acts 1 (tells-args u c r))) (λ n. omega arith)

  pub tells-made : (u : Bool) (c : Name) (e : Made) → Tells c (outline_made u c e) (blocks_made e) (nexts_made u e) (λ n. n + made_size e)
  tells-made u c (S.a_list e) = ending (before_acts 1 (tells-exp u c e)) (λ n. omega arith)
  tells-made u c (S.a_set e) = ending (before_acts 1 (tells-exp u c e)) (λ n. omega arith)
  tells-made u c (S.a_dict k v) = ending (both (tells-exp u c k) (before_acts 1 (tells-exp u c v))) (λ n. omega arith)

  pub tells-clauses : (u : Bool) (c : Name) (e : Clauses) → Tells c (outline_clauses u c e) (blocks_clauses e) (nexts_clauses u e) (λ n. n + clauses_size e)
  tells-clauses u c S.no_clauses = ending no_part (λ n. omega arith)
  tells-clauses u c (S.only_if e cs) = ending (both (tells-exp u c e) (behind_acts 1 (tells-clauses u c cs))) (λ n. omega arith)
  tells-clauses u c (S.for_each l t it cs) = ending (both (first (before_acts 2 (tells-exp u c it)) (tells-target u c t)) (tells-clauses u c cs)) (λ n. omega arith)

  pub tells-place : (u : Bool) (c : Name) (e : Place) → Tells c (outline_place u c e) (blocks_place e) (nexts_place u e) (λ n. n + place_size e)
  tells-place u c (S.name_at l x) = some_acts 1
  tells-place u c (S.attribute_at l a x) = ending (before_acts 1 (tells-exp u c a)) (λ n. omega arith)
  tells-place u c (S.item_at l a i) = ending (both (tells-exp u c a) (before_acts 1 (tells-exp u c i))) (λ n. omega arith)

  pub tells-target : (u : Bool) (c : Name) (e : Tgt) → Tells c (outline_target u c e) (blocks_target e) (nexts_target u e) (λ n. n + target_size e)
  tells-target u c (S.single p) = tells-place u c p
  tells-target u c (S.several l f ts) = ending (behind_acts 1 (tells-targets u c ts)) (λ n. omega arith)
  tells-target u c (S.starred l t) = tells-target u c t

  pub tells-targets : (u : Bool) (c : Name) (e : Tgts) → Tells c (outline_targets u c e) (blocks_targets e) (nexts_targets u e) (λ n. n + targets_size e)
  tells-targets u c S.no_targets = ending no_part (λ n. omega arith)
  tells-targets u c (S.more_targets t ts) = ending (both (tells-target u c t) (tells-targets u c ts)) (λ n. omega arith)

  pub tells-params : (u : Bool) (c : Name) (e : Params) → Tells c (outline_params u c e) (blocks_params e) (nexts_params u e) (λ n. n + params_size e)
  tells-params u c (S.parameters ps s ks d) = ending (both (tells-formals u c ps) (tells-formals u c ks)) (λ n. omega arith)

  pub tells-formals : (u : Bool) (c : Name) (e : Formals) → Tells c (outline_formals u c e) (blocks_formals e) (nexts_formals u e) (λ n. n + formals_size e)
  tells-formals u c S.no_formals = ending no_part (λ n. omega arith)
  tells-formals u c (S.formal l x a d r) = ending (both (tells-opt u c d) (tells-formals u c r)) (λ n. omega arith)

mutual
  pub tells-deleted : (c : Name) (t : Tgt) → Tells c (outline_deleted c t) (blocks_target t) (nexts_deleted t) (λ n. n + deleted_size t)
  tells-deleted c (S.single p) = tells-place true c p
  tells-deleted c (S.several l f ts) = tells-all_deleted c ts
  tells-deleted c (S.starred l t) = tells-deleted c t

  pub tells-all_deleted : (c : Name) (ts : Tgts) → Tells c (outline_all_deleted c ts) (blocks_targets ts) (nexts_all_deleted ts) (λ n. n + all_deleted_size ts)
  tells-all_deleted c S.no_targets = ending no_part (λ n. omega arith)
  tells-all_deleted c (S.more_targets t ts) = ending (both (tells-deleted c t) (tells-all_deleted c ts)) (λ n. omega arith)

pub tells-decorators : (c : Name) (ds : Decorators) → Tells c (outline_decorators c ds) (blocks_decorators ds) (nexts_decorators ds) (λ n. n + decorators_size ds)
tells-decorators c S.no_decorators = ending no_part (λ n. omega arith)
tells-decorators c (S.decorator l e r) = ending (both (tells-exp true c e) (tells-decorators c r)) (λ n. omega arith)
