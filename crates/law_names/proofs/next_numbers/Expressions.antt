-- The numbers of Nexts in expressions, targets and parameters.
use Rattle.std.proofs.Common.{◌≤◌, ℕ, ◌+◌, Bool, true, false, [], ◌++◌, Option, Some, None, ap, append-nil, le_refl, arith}
use Rattle.std.specs.Prelude.{if◌then◌else◌}
use Rattle.pt_scopes.specs.declared.region.Context.{Context}
use Rattle.pt_scopes.specs.Mentions.{places_all, places_args, places_clauses, places_entries, places_exp, places_formals, places_links, places_made, places_named_parameter, places_opt, places_params, places_pieces, places_place, places_target, places_targets}
use Rattle.pt_scopes.specs.Names.{mangled}
use Rattle.pt_scopes.specs.Places.{comprehension_context, misplaced, nothing}
use Rattle.pt_tree.specs.declared.expression.NamedParameter.{NamedParameter}
use Rattle.pt_tree.specs.Syntax as S
use Rattle.pt_tree.specs.Syntax.{Name, Exp, Exps, Opt, Pieces, Entries, Links, Args, Made, Clauses, Place, Tgt, Tgts, Params, Formals}
use Rattle.pt_tree.specs.Sizes.{size, all_size, operands_size, opt_size, pieces_size, joins, entries_size, links_size, args_size, made_size, clauses_size, place_size, target_size, targets_size, params_size, formals_size}
use Rattle.sem_names.specs.Nexts.{nexts_all, nexts_args, nexts_clauses, nexts_entries, nexts_exp, nexts_formals, nexts_links, nexts_made, nexts_operands, nexts_opt, nexts_params, nexts_pieces, nexts_place, nexts_target, nexts_targets}
use Rattle.law_names.proofs.next_numbers.Claims.{Numbers, back, named, next, none, regroup, same_numbers, wide}
use Rattle.law_names.proofs.next_numbers.Regions.{comprehension_numbers, function_numbers, generator_numbers}

-- a statement out of its place
pub placed : {u : Bool} {H n m : ℕ} (b : Bool) (a : Context) (l : ℕ) → n ≤ m → Numbers u H n m (if b then nothing else misplaced a l) []
placed true a l le = none le
placed false a l le = named _ a [] l le

parameter : {u : Bool} {H n : ℕ} (b : Context) (c : Name) (p : Option NamedParameter) → Numbers u H n n (places_named_parameter b c p) []
parameter {n = n} b c None = none (le_refl n)
parameter {n = n} b c (Some p) = named _ b (mangled c p.name) p.line.0 (le_refl n)

mutual
  pub in_exp : (u : Bool) (e : Exp) (n : ℕ) (a : Context) (c : Name) → Numbers u a.home n (n + size e) (places_exp a c e) (nexts_exp u e n)
  in_exp u (S.constant l k) n a c = none (omega arith)
  in_exp u (S.name l x) n a c = named _ a (mangled c x) l (omega arith)
  in_exp u (S.joined l ps) n a c = wide (le_refl n) (omega arith) (in_pieces u ps n a c)
  in_exp u (S.tuple l es) n a c = wide (le_refl n) (omega arith) (in_all u es n a c)
  in_exp u (S.list l es) n a c = wide (le_refl n) (omega arith) (in_all u es n a c)
  in_exp u (S.set l es) n a c = wide (le_refl n) (omega arith) (in_all u es n a c)
  in_exp u (S.dict l es) n a c = wide (le_refl n) (omega arith) (in_entries u es n a c)
  in_exp u (S.attribute l e x) n a c = wide (le_refl n) (omega arith) (in_exp u e n a c)
  in_exp u (S.item l e i) n a c = wide (le_refl n) (omega arith) (next (le_refl (n + size e)) (in_exp u e n a c) (in_exp u i (n + size e) a c))
  in_exp u (S.slice l e f g) n a c = wide (le_refl n) (omega arith) (regroup (places_opt a c e) (places_opt a c f) (places_opt a c g)
      (next (le_refl (n + opt_size e + opt_size f)) (next (le_refl (n + opt_size e)) (in_opt u e n a c) (in_opt u f (n + opt_size e) a c))
      (in_opt u g (n + opt_size e + opt_size f) a c)))
  in_exp u (S.unary l o e) n a c = wide (le_refl n) (omega arith) (in_exp u e n a c)
  in_exp u (S.not_of l e) n a c = wide (le_refl n) (omega arith) (in_exp u e n a c)
  in_exp u (S.binary l o e f) n a c = wide (le_refl n) (omega arith) (next (le_refl (n + size e)) (in_exp u e n a c) (in_exp u f (n + size e) a c))
  in_exp u (S.compare l e o f r) n a c = wide (le_refl n) (omega arith) (regroup (places_exp a c e) (places_exp a c f) (places_links a c r)
      (next (omega arith) (next (le_refl (n + size e)) (in_exp u e n a c) (in_exp u f (n + size e) a c)) (in_links u r (n + size e + size f + 1) a c)))
  in_exp u (S.and l e es) n a c = wide (le_refl n) (omega arith) (next (le_refl (n + size e)) (in_exp u e n a c) (in_operands u es (n + size e) a c))
  in_exp u (S.or l e es) n a c = wide (le_refl n) (omega arith) (next (le_refl (n + size e)) (in_exp u e n a c) (in_operands u es (n + size e) a c))
  in_exp u (S.conditional l t e f) n a c = wide (le_refl n) (omega arith) (regroup (places_exp a c e) (places_exp a c t) (places_exp a c f)
      (next (le_refl (n + size t + 1 + size e)) (back (omega arith) (in_exp u e (n + size t + 1) a c) (in_exp u t n a c)) (in_exp u f (n + size t + 1 + size e) a c)))
  in_exp u (S.call l f args) n a c = wide (le_refl n) (omega arith) (next (le_refl (n + size f)) (in_exp u f n a c) (in_args u args (n + size f) a c))
  in_exp u (S.lambda l b ps e) n a c = wide (le_refl n) (omega arith)
      (function_numbers a (λ b. places_params a b c ps) (λ b. places_exp b c e) (omega arith) (λ b. in_params u ps n a b c) (λ b. in_exp true e 0 b c))
  in_exp u (S.comprehension l m fl t it cs) n a c = comprehension_numbers a
      (λ b. places_made b c m) (λ b. places_target b c t) (λ b. places_exp a c it) (λ b. places_clauses b c cs)
      (le_refl n) (omega arith) (omega arith) (le_refl (n + size it + 3 + target_size t)) (le_refl (n + size it + 3 + target_size t + clauses_size cs)) (omega arith)
      (λ B. in_made u m (n + size it + 3 + target_size t + clauses_size cs) (comprehension_context a B) c)
      (λ B. in_target u t (n + size it + 3) (comprehension_context a B) c)
      (λ B. in_exp u it n a c)
      (λ B. in_clauses u cs (n + size it + 3 + target_size t) (comprehension_context a B) c)
  in_exp u (S.generator l b e fl t it cs) n a c = wide (le_refl n) (omega arith) (generator_numbers a
      (λ b. places_exp b c e) (λ b. places_target b c t) (λ b. places_exp a c it) (λ b. places_clauses b c cs)
      (le_refl (1 + target_size t)) (le_refl (1 + target_size t + clauses_size cs))
      (λ b. in_exp true e (1 + target_size t + clauses_size cs) b c) (λ b. in_target true t 1 b c) (λ b. in_exp u it n a c)
      (λ b. in_clauses true cs (1 + target_size t) b c))
  in_exp u (S.yield l v) n a c = wide (le_refl n) (omega arith) (next (le_refl n) (placed a.may_give a l (le_refl n)) (in_opt u v n a c))
  in_exp u (S.yield_from l e) n a c = wide (le_refl n) (omega arith) (next (le_refl n) (placed a.may_give a l (le_refl n)) (in_exp u e n a c))

  in_all : (u : Bool) (es : Exps) (n : ℕ) (a : Context) (c : Name) → Numbers u a.home n (n + all_size es) (places_all a c es) (nexts_all u es n)
  in_all u S.no_exps n a c = none (omega arith)
  in_all u (S.more_exps e es) n a c = wide (le_refl n) (omega arith) (next (le_refl (n + size e)) (in_exp u e n a c) (in_all u es (n + size e) a c))

  in_operands : (u : Bool) (es : Exps) (n : ℕ) (a : Context) (c : Name) → Numbers u a.home n (n + operands_size es) (places_all a c es) (nexts_operands u es n)
  in_operands u S.no_exps n a c = none (omega arith)
  in_operands u (S.more_exps e es) n a c =
      wide (omega arith) (omega arith) (next (le_refl (n + 1 + size e)) (in_exp u e (n + 1) a c) (in_operands u es (n + 1 + size e) a c))

  pub in_opt : (u : Bool) (e : Opt) (n : ℕ) (a : Context) (c : Name) → Numbers u a.home n (n + opt_size e) (places_opt a c e) (nexts_opt u e n)
  in_opt u S.absent n a c = none (omega arith)
  in_opt u (S.given e) n a c = in_exp u e n a c

  in_pieces : (u : Bool) (ps : Pieces) (n : ℕ) (a : Context) (c : Name) → Numbers u a.home n (n + pieces_size ps) (places_pieces a c ps) (nexts_pieces u ps n)
  in_pieces u S.no_pieces n a c = none (omega arith)
  in_pieces u (S.literal l t r) n a c = wide (omega arith) (omega arith) (in_pieces u r (n + 1) a c)
  in_pieces u (S.field l e k ps r) n a c = wide (le_refl n) (omega arith) (regroup (places_exp a c e) (places_pieces a c ps) (places_pieces a c r)
      (next (omega arith) (next (le_refl (n + size e)) (in_exp u e n a c) (in_pieces u ps (n + size e) a c))
      (in_pieces u r (n + size e + pieces_size ps + joins ps + 1) a c)))

  in_entries : (u : Bool) (es : Entries) (n : ℕ) (a : Context) (c : Name) → Numbers u a.home n (n + entries_size es) (places_entries a c es) (nexts_entries u es n)
  in_entries u S.no_entries n a c = none (omega arith)
  in_entries u (S.entry k v r) n a c = wide (le_refl n) (omega arith) (regroup (places_exp a c k) (places_exp a c v) (places_entries a c r)
      (next (le_refl (n + size k + size v)) (next (le_refl (n + size k)) (in_exp u k n a c) (in_exp u v (n + size k) a c)) (in_entries u r (n + size k + size v) a c)))

  in_links : (u : Bool) (ls : Links) (n : ℕ) (a : Context) (c : Name) → Numbers u a.home n (n + links_size ls) (places_links a c ls) (nexts_links u ls n)
  in_links u S.no_links n a c = none (omega arith)
  in_links u (S.link o e r) n a c =
      wide (omega arith) (omega arith) (next (omega arith) (in_exp u e (n + 1) a c) (in_links u r (n + 1 + size e + 1) a c))

  in_args : (u : Bool) (xs : Args) (n : ℕ) (a : Context) (c : Name) → Numbers u a.home n (n + args_size xs) (places_args a c xs) (nexts_args u xs n)
  in_args u S.no_args n a c = none (omega arith)
  in_args u (S.positional e r) n a c = wide (le_refl n) (omega arith) (next (le_refl (n + size e)) (in_exp u e n a c) (in_args u r (n + size e) a c))
  in_args u (S.named x e r) n a c = wide (le_refl n) (omega arith) (next (le_refl (n + size e)) (in_exp u e n a c) (in_args u r (n + size e) a c))
  in_args u (S.spread e r) n a c = wide (le_refl n) (omega arith) (next (omega arith) (in_exp u e n a c) (in_args u r (n + size e + 1) a c))
  in_args u (S.spread_named e r) n a c = wide (le_refl n) (omega arith) (next (omega arith) (in_exp u e n a c) (in_args u r (n + size e + 1) a c))

  in_made : (u : Bool) (m : Made) (n : ℕ) (a : Context) (c : Name) → Numbers u a.home n (n + made_size m) (places_made a c m) (nexts_made u m n)
  in_made u (S.a_list e) n a c = wide (le_refl n) (omega arith) (in_exp u e n a c)
  in_made u (S.a_set e) n a c = wide (le_refl n) (omega arith) (in_exp u e n a c)
  in_made u (S.a_dict k v) n a c = wide (le_refl n) (omega arith) (next (le_refl (n + size k)) (in_exp u k n a c) (in_exp u v (n + size k) a c))

  in_clauses : (u : Bool) (cs : Clauses) (n : ℕ) (a : Context) (c : Name) → Numbers u a.home n (n + clauses_size cs) (places_clauses a c cs) (nexts_clauses u cs n)
  in_clauses u S.no_clauses n a c = none (omega arith)
  in_clauses u (S.only_if e cs) n a c = wide (le_refl n) (omega arith) (next (omega arith) (in_exp u e n a c) (in_clauses u cs (n + size e + 1) a c))
  in_clauses u (S.for_each fl t it cs) n a c = wide (le_refl n) (omega arith) (regroup (places_target a c t) (places_exp a c it) (places_clauses a c cs)
      (next (le_refl (n + size it + 2 + target_size t)) (back (omega arith) (in_target u t (n + size it + 2) a c) (in_exp u it n a c))
      (in_clauses u cs (n + size it + 2 + target_size t) a c)))

  pub in_place : (u : Bool) (p : Place) (n : ℕ) (a : Context) (c : Name) → Numbers u a.home n (n + place_size p) (places_place a c p) (nexts_place u p n)
  in_place u (S.name_at l x) n a c = named _ a (mangled c x) l (omega arith)
  in_place u (S.attribute_at l e x) n a c = wide (le_refl n) (omega arith) (in_exp u e n a c)
  in_place u (S.item_at l e i) n a c = wide (le_refl n) (omega arith) (next (le_refl (n + size e)) (in_exp u e n a c) (in_exp u i (n + size e) a c))

  pub in_target : (u : Bool) (t : Tgt) (n : ℕ) (a : Context) (c : Name) → Numbers u a.home n (n + target_size t) (places_target a c t) (nexts_target u t n)
  in_target u (S.single p) n a c = in_place u p n a c
  in_target u (S.several l f ts) n a c = wide (omega arith) (omega arith) (in_targets u ts (n + 1) a c)
  in_target u (S.starred l t) n a c = in_target u t n a c

  pub in_targets : (u : Bool) (ts : Tgts) (n : ℕ) (a : Context) (c : Name) → Numbers u a.home n (n + targets_size ts) (places_targets a c ts) (nexts_targets u ts n)
  in_targets u S.no_targets n a c = none (omega arith)
  in_targets u (S.more_targets t ts) n a c = wide (le_refl n) (omega arith) (next (le_refl (n + target_size t)) (in_target u t n a c) (in_targets u ts (n + target_size t) a c))

  -- parameters are names of the block b
  pub in_params : (u : Bool) (ps : Params) (n : ℕ) (a b : Context) (c : Name) → Numbers u a.home n (n + params_size ps) (places_params a b c ps) (nexts_params u ps n)
  in_params u (S.parameters ps s ks d) n a b c = same_numbers (ap (λ ms. nexts_formals u ps n ++ ms) (append-nil (nexts_formals u ks (n + formals_size ps))))
      (wide (le_refl n) (omega arith) (next (le_refl (n + formals_size ps)) (in_formals u ps n a b c) (next (le_refl (n + formals_size ps)) (parameter b c s)
      (next (le_refl (n + formals_size ps + formals_size ks)) (in_formals u ks (n + formals_size ps) a b c) (parameter b c d)))))

  in_formals : (u : Bool) (ps : Formals) (n : ℕ) (a b : Context) (c : Name) → Numbers u a.home n (n + formals_size ps) (places_formals a b c ps) (nexts_formals u ps n)
  in_formals u S.no_formals n a b c = none (omega arith)
  in_formals u (S.formal l x k d r) n a b c = wide (le_refl n) (omega arith) (next (le_refl n) (named _ b (mangled c x) l (le_refl n))
      (next (le_refl (n + opt_size d)) (in_opt u d n a c) (in_formals u r (n + opt_size d) a b c)))
