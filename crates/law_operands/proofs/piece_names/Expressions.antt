-- The names in expressions, and the blocks in them.
use Rattle.std.proofs.Common.{◌≡◌, ℕ, ◌+◌, Bool, true, List, [], ◌∷◌, ◌++◌, Option, Some, None, refl, ap, ◌∙◌, subst, append-nil, arith, codes}
use Rattle.pt_scopes.specs.declared.region.Context.{Context}
use Rattle.pt_scopes.specs.Mentions.{places_all, places_args, places_clauses, places_entries, places_exp, places_formals, places_links, places_made, places_opt, places_params, places_pieces, places_place, places_target, places_targets}
use Rattle.pt_scopes.specs.Names.{mangled}
use Rattle.pt_scopes.specs.Places.{Part, ◌⨾◌, comprehension_context}
use Rattle.pt_scopes.specs.Scope.{has, is_binding}
use Rattle.pt_tree.specs.declared.expression.NamedParameter.{NamedParameter}
use Rattle.pt_tree.specs.Syntax as S
use Rattle.pt_tree.specs.Syntax.{Name, Exp, Exps, Opt, Pieces, Entries, Links, Args, Made, Clauses, Place, Tgt, Tgts, Formals}
use Rattle.pt_tree.specs.Blocks as B
use Rattle.pt_tree.specs.Blocks.{Block, Code, blocks_all, blocks_args, blocks_clauses, blocks_entries, blocks_exp, blocks_formals, blocks_links, blocks_made, blocks_opt, blocks_params, blocks_pieces, blocks_place, blocks_target, blocks_targets, no_params}
use Rattle.pt_tree.specs.Sizes.{size, opt_size, pieces_size, joins, clauses_size, target_size, formals_size}
use Rattle.sem_control.specs.numbering.Numbered.{numbers_all, numbers_args, numbers_clauses, numbers_entries, numbers_exp, numbers_formals, numbers_links, numbers_made, numbers_opt, numbers_params, numbers_pieces, numbers_place, numbers_target, numbers_targets}
use Rattle.sem_control.specs.control.Turn.{Around}
use Rattle.sem_control.specs.control.Expressions.{clause_names, target_names}
use Rattle.sem_names.specs.Around.{around_by}
use Rattle.sem_names.specs.Nexts.{next_if, nexts_all, nexts_args, nexts_clauses, nexts_entries, nexts_exp, nexts_formals, nexts_links, nexts_made, nexts_operands, nexts_opt, nexts_params, nexts_pieces, nexts_place, nexts_target, nexts_targets}
use Rattle.sem_names.specs.Script.{Naming, spelled_in}
use Rattle.law_files.specs.sem_compile.stm_pieces.Names.{Args_named, Code_named, Clauses_named, Entries_named, Exp_named, Exps_named, Formals_named, Links_named, Made_named, Operands_named, Part_named, Pieces_named, Place_named, Target_named, Targets_named}
use Rattle.law_names.proofs.next_numbers.Claims.{Every}
use Rattle.law_operands.specs.piece_names.Laws.{all_local}
use Rattle.law_operands.proofs.piece_names.Arguments.{plain_roles}
use Rattle.law_operands.proofs.piece_names.Bound.{All_bound, both_bound, bound_clauses, bound_target, left_bound, right_bound}
use Rattle.law_operands.proofs.piece_names.Standing.{IsAt, IsComprehension, Walked, comprehension_walked, function_walked, generator_walked, gives, leaf, left_four, number_if, parameter_walked, placed, regroup, same_lists, spelled_at, told, two, two_of}
use Rattle.law_operands.proofs.piece_names.Own.{Comprehends, own_names}

-- an expression that may be there
abbrev pub Given : {V : Type 0} → Around V → Opt → (n : ℕ) → (w : List ℕ) → Type 0
Given r S.absent n w = Unit {0}
Given r (S.given e) n w = Exp_named r e n w

-- clauses and parameters without what stands behind them

clauses_split : {V : Type 0} (r : Around V) (cs : Clauses) (n : ℕ) (w : List ℕ) (F : ℕ → Type 0) → Clauses_named r cs n w F
    → Clauses_named r cs n w (λ j. Unit {0}) × F (n + clauses_size cs)
clauses_split r S.no_clauses n w F h = let same : n ≡ n + 0 = omega arith in (tt, subst F same h)
clauses_split r (S.only_if c cs) n w F h =
    let p = clauses_split r cs (n + size c + 1) w F h.1 in
    let same : n + size c + 1 + clauses_size cs ≡ n + (size c + 1 + clauses_size cs) = omega arith in
    ((h.0, p.0), subst F same p.1)
clauses_split r (S.for_each k t it cs) n w F h =
    let p = clauses_split r cs (n + size it + 1 + 1 + target_size t) w F h.2 in
    let same : n + size it + 1 + 1 + target_size t + clauses_size cs ≡ n + (size it + 2 + target_size t + clauses_size cs) = omega arith in
    ((h.0, h.1, p.0), subst F same p.1)

clauses_join : {V : Type 0} (r : Around V) (cs : Clauses) (n : ℕ) (w : List ℕ) (F : ℕ → Type 0) → Clauses_named r cs n w (λ j. Unit {0})
    → F (n + clauses_size cs) → Clauses_named r cs n w F
clauses_join r S.no_clauses n w F h f = let same : n + 0 ≡ n = omega arith in subst F same f
clauses_join r (S.only_if c cs) n w F h f =
    let same : n + (size c + 1 + clauses_size cs) ≡ n + size c + 1 + clauses_size cs = omega arith in
    (h.0, clauses_join r cs (n + size c + 1) w F h.1 (subst F same f))
clauses_join r (S.for_each k t it cs) n w F h f =
    let same : n + (size it + 2 + target_size t + clauses_size cs) ≡ n + size it + 1 + 1 + target_size t + clauses_size cs = omega arith in
    (h.0, h.1, clauses_join r cs (n + size it + 1 + 1 + target_size t) w F h.2 (subst F same f))

formals_split : {V : Type 0} (r : Around V) (ps : Formals) (n : ℕ) (w : List ℕ) (F : ℕ → Type 0) → Formals_named r ps n w F
    → Formals_named r ps n w (λ j. Unit {0}) × F (n + formals_size ps)
formals_split r S.no_formals n w F h = let same : n ≡ n + 0 = omega arith in (tt, subst F same h)
formals_split r (S.formal l x t S.absent ps) n w F h =
    let p = formals_split r ps n w F h in
    let same : n + formals_size ps ≡ n + (0 + formals_size ps) = omega arith in
    (p.0, subst F same p.1)
formals_split r (S.formal l x t (S.given d) ps) n w F h =
    let p = formals_split r ps (n + size d) w F h.1 in
    let same : n + size d + formals_size ps ≡ n + (size d + formals_size ps) = omega arith in
    ((h.0, p.0), subst F same p.1)

formals_join : {V : Type 0} (r : Around V) (ps : Formals) (n : ℕ) (w : List ℕ) (F : ℕ → Type 0) → Formals_named r ps n w (λ j. Unit {0})
    → F (n + formals_size ps) → Formals_named r ps n w F
formals_join r S.no_formals n w F h f = let same : n + 0 ≡ n = omega arith in subst F same f
formals_join r (S.formal l x t S.absent ps) n w F h f =
    let same : n + (0 + formals_size ps) ≡ n + formals_size ps = omega arith in
    formals_join r ps n w F h (subst F same f)
formals_join r (S.formal l x t (S.given d) ps) n w F h f =
    let same : n + (size d + formals_size ps) ≡ n + size d + formals_size ps = omega arith in
    (h.0, formals_join r ps (n + size d) w F h.1 (subst F same f))

every_at : (c : Name) (f : Part) (r B : ℕ) (xs : List Name) → Every (λ x. (C : ℕ) → has is_binding (f C).mentions r (mangled c x) ≡ true) xs
    → Every (λ x. has is_binding (f B).mentions r (mangled c x) ≡ true) xs
every_at c f r B [] h = tt
every_at c f r B (x ∷ xs) h = (h.0 B, every_at c f r B xs h.1)

names_bound : (b : Context) (c : Name) (m : Made) (t : Tgt) (a : Context) (it : Exp) (cs : Clauses)
    → All_bound b c (places_made b c m ⨾ (places_target b c t ⨾ (places_exp a c it ⨾ places_clauses b c cs))) (target_names t ++ clause_names cs)
names_bound b c m t a it cs =
    let f = places_made b c m in
    let p = places_target b c t in
    let q = places_exp a c it in
    let r = places_clauses b c cs in
    both_bound b c (f ⨾ (p ⨾ (q ⨾ r))) (target_names t) (clause_names cs)
    (right_bound b c f (p ⨾ (q ⨾ r)) (target_names t) (left_bound b c p (q ⨾ r) (target_names t) (bound_target b c t)))
    (right_bound b c f (p ⨾ (q ⨾ r)) (clause_names cs) (right_bound b c p (q ⨾ r) (clause_names cs) (right_bound b c q r (clause_names cs) (bound_clauses b c cs))))

-- names in a block's code are found as they may be where arguments are plain
abbrev pub Found : {V : Type 0} → (null : V) → Naming → (block region : ℕ) → Code → Type 0
Found null g b r k = Code_named (all_local null) k → Code_named (around_by null g b) k

module _ {V : Type 0} (null : V) (g : Naming) (numbers : List ℕ) (all : Comprehends g) where
  -- so they are in a part of a block
  abbrev pub Named : (u : Bool) → (h : ℕ) → (c : Name) → (P : Around V → Type 0) → Type 0
  Named u h c P = (b : ℕ) → IsAt g b h c → u ≡ true → P (all_local null) → P (around_by null g b)

  abbrev pub Walk : (c : Name) → (f : Part) → (ns : List (Option ℕ)) → (xs : List ℕ) → (bs : List Block) → (P : Type 0) → Type 0
  Walk c f ns xs bs P = Walked g numbers (Found null g) c f ns xs bs P

  abbrev pub In : (u : Bool) → Context → (c : Name) → (f : Part) → (ns : List (Option ℕ)) → (xs : List ℕ) → (bs : List Block) → (P : Around V → Type 0) → Type 0
  In u a c f ns xs bs P = Walk c f ns xs bs (Named u a.home c P)

  -- what is named in a part where what stands behind it is
  abbrev pub Leads : (u : Bool) → Context → (c : Name) → (f : Part) → (ns : List (Option ℕ)) → (xs : List ℕ) → (bs : List Block) → (behind P : Around V → Type 0)
      → Type 0
  Leads u a c f ns xs bs F P = Walk c f ns xs bs (Named u a.home c F → Named u a.home c P)

  -- what is named from a number on is so from the same number
  pub moved : (u : Bool) (h : ℕ) (c : Name) (P : Around V → ℕ → Type 0) (m k : ℕ) → m ≡ k → Named u h c (λ r. P r m) → Named u h c (λ r. P r k)
  moved u h c P m k is f = subst (λ j. Named u h c (λ r. P r j)) is f

  -- the defaults of parameters, which are names of the block b
  abbrev pub Defaults : Formals → Formals → (w : List ℕ) → Around V → ℕ → Type 0
  Defaults ps ks w r n = Formals_named r ps n w (λ m. Formals_named r ks m w (λ j. Unit {0}))

  params_walked : (u : Bool) (ps : Formals) (s : Option NamedParameter) (ks : Formals) (d : Option NamedParameter) (n : ℕ) (w : List ℕ) (a b : Context) (c : Name)
      → In u a c (places_formals a b c ps) (nexts_formals u ps n) (numbers_formals ps) (blocks_formals ps) (λ r. Formals_named r ps n w (λ j. Unit {0}))
      → In u a c (places_formals a b c ks) (nexts_formals u ks (n + formals_size ps)) (numbers_formals ks) (blocks_formals ks) (λ r. Formals_named r ks (n + formals_size ps) w (λ j. Unit {0}))
      → In u a c (places_params a b c (S.parameters ps s ks d)) (nexts_params u (S.parameters ps s ks d) n) (numbers_params (S.parameters ps s ks d))
      (blocks_params (S.parameters ps s ks d)) (λ r. Defaults ps ks w r n)
  params_walked u ps s ks d n w a b c first second =
      same_lists (ap (λ ms. nexts_formals u ps n ++ ms) (append-nil (nexts_formals u ks (n + formals_size ps))))
      (ap (λ xs. numbers_formals ps ++ xs) (append-nil (numbers_formals ks))) (ap (λ bs. blocks_formals ps ++ bs) (append-nil (blocks_formals ks)))
      (gives (λ p i at is h.
      let parts = formals_split (all_local null) ps n w (λ m. Formals_named (all_local null) ks m w (λ j. Unit {0})) h in
      formals_join (around_by null g i) ps n w (λ m. Formals_named (around_by null g i) ks m w (λ j. Unit {0})) (p.0 i at is parts.0) (p.1.1.0 i at is parts.1))
      (two first (two (parameter_walked b c s) (two second (parameter_walked b c d)))))

  -- an item behind clauses
  clauses_lead : (u : Bool) (h : ℕ) (c : Name) (cs : Clauses) (n : ℕ) (w : List ℕ) (G : Around V → ℕ → Type 0) → Named u h c (λ q. Clauses_named q cs n w (λ j. Unit {0}))
      → Named u h c (λ q. G q (n + clauses_size cs)) → Named u h c (λ q. Clauses_named q cs n w (G q))
  clauses_lead u h c cs n w G f k b at is p =
      let parts = clauses_split (all_local null) cs n w (G (all_local null)) p in
      clauses_join (around_by null g b) cs n w (G (around_by null g b)) (f b at is parts.0) (k b at is parts.1)

  part_lead : (u : Bool) (h : ℕ) (c : Name) (o : Opt) (n : ℕ) (w : List ℕ) (F : Around V → ℕ → Type 0) → Named u h c (λ r. Given r o n w)
      → Named u h c (λ r. F r (n + opt_size o)) → Named u h c (λ r. Part_named r o n w (F r))
  part_lead u h c S.absent n w F f k b at is p = moved u h c F (n + 0) n (omega arith) k b at is p
  part_lead u h c (S.given e) n w F f k b at is p = (f b at is p.0, k b at is p.1)

  mutual
    pub exp : (u : Bool) (e : Exp) (n : ℕ) (w : List ℕ) (a : Context) (c : Name)
        → In u a c (places_exp a c e) (nexts_exp u e n) (numbers_exp e) (blocks_exp e) (λ r. Exp_named r e n w)
    exp u (S.constant l k) n w a c = leaf (λ b at is h. tt)
    exp u (S.name l x) n w a c = told _ a (mangled c x) l (λ b at is h. tt)
    exp u (S.joined l ps) n w a c = pieces u ps n w a c
    exp u (S.tuple l es) n w a c = exps u es n w a c
    exp u (S.list l es) n w a c = exps u es n w a c
    exp u (S.set l es) n w a c = exps u es n w a c
    exp u (S.dict l es) n w a c = entries u es n w a c
    exp u (S.attribute l e x) n w a c = exp u e n w a c
    exp u (S.item l e i) n w a c = gives (λ s b at is h. (s.0 b at is h.0, s.1 b at is h.1)) (two (exp u e n w a c) (exp u i (n + size e) w a c))
    exp u (S.slice l e f k) n w a c =
        let T : Around V → ℕ → Type 0 = λ r m. Unit {0} in
        let K : Around V → ℕ → Type 0 = λ r m. Part_named r k m w (T r) in
        let F : Around V → ℕ → Type 0 = λ r m. Part_named r f m w (K r) in
        let i = n + opt_size e in
        let j = n + opt_size e + opt_size f in
        gives (λ s. part_lead u a.home c e n w F s.0.0 (part_lead u a.home c f i w K s.0.1 (part_lead u a.home c k j w T s.1 (λ b at is h. tt))))
        (regroup (places_opt a c e) (places_opt a c f) (places_opt a c k)
        (two (two (option u e n w a c) (option u f (n + opt_size e) w a c)) (option u k (n + opt_size e + opt_size f) w a c)))
    exp u (S.unary l o e) n w a c = exp u e n w a c
    exp u (S.not_of l e) n w a c = exp u e n w a c
    exp u (S.binary l o e f) n w a c = gives (λ s b at is h. (s.0 b at is h.0, s.1 b at is h.1)) (two (exp u e n w a c) (exp u f (n + size e) w a c))
    exp u (S.compare l e o f r) n w a c = gives (λ s b at is h. (s.0.0 b at is h.0, s.0.1 b at is h.1, s.1 b at is h.2))
        (regroup (places_exp a c e) (places_exp a c f) (places_links a c r)
        (two (two (exp u e n w a c) (exp u f (n + size e) w a c)) (links u r (n + size e + size f) w a c)))
    exp u (S.and l e es) n w a c = gives (λ s b at is h. (s.0 b at is h.0, s.1 b at is h.1)) (two (exp u e n w a c) (operands u es (n + size e) w a c))
    exp u (S.or l e es) n w a c = gives (λ s b at is h. (s.0 b at is h.0, s.1 b at is h.1)) (two (exp u e n w a c) (operands u es (n + size e) w a c))
    exp u (S.conditional l t e f) n w a c = gives (λ s b at is h. (s.0.1 b at is h.0, s.0.0 b at is h.1, s.1 b at is h.2))
        (regroup (places_exp a c e) (places_exp a c t) (places_exp a c f)
        (two (two (exp u e (n + size t + 1) w a c) (exp u t n w a c)) (exp u f (n + size t + 1 + size e) w a c)))
    exp u (S.call l f xs) n w a c = gives (λ s b at is h. (s.0 b at is h.0, plain_roles (spelled_in g b) c at.spelled xs h.1, s.1 b at is h.2))
        (two (exp u f n w a c) (args u xs (n + size f) w a c))
    exp u (S.lambda l i (S.parameters ps s ks d) e) n w a c =
        let k : Block = record { name = codes "<lambda>"; first_line = l; class = None; params = S.parameters ps s ks d; code = B.of_lambda l e } in
        function_walked a (λ b. places_params a b c (S.parameters ps s ks d) ⨾ places_exp b c e) i k
        (λ b. Named u a.home c (λ q. Defaults ps ks w q n) × Named true b.home c (λ q. Exp_named q e 0 []))
        refl (λ b. two (params_walked u ps s ks d n w a b c (formals u ps n w a b c) (formals u ks (n + formals_size ps) w a b c)) (exp true e 0 [] b c))
        (λ r s h b at shape q. h.1 b (spelled_at g b r c k at shape refl) refl q)
        (λ r s h. h.0)
    exp u (S.comprehension l m fl t it cs) n w a c =
        let v : List ℕ = (n + size it + 1 + 1) ∷ w in
        let second : n + size it + 2 ≡ n + size it + 1 + 1 = omega arith in
        let third : n + size it + 3 ≡ n + size it + 1 + 1 + 1 = omega arith in
        let behind : n + size it + 3 + target_size t ≡ n + size it + 1 + 1 + 1 + target_size t = omega arith in
        let F : Around V → Type 0 = λ r. Made_named r m (n + size it + 3 + target_size t + clauses_size cs) v in
        let G : Around V → ℕ → Type 0 = λ r j. Made_named r m j v in
        comprehension_walked a (λ b. places_made b c m ⨾ (places_target b c t ⨾ (places_exp a c it ⨾ places_clauses b c cs))) (next_if u (n + size it + 2))
        (target_names t ++ clause_names cs)
        (λ r. Named u a.home c F × (Named u a.home c (λ q. Target_named q t (n + size it + 3) v) × (Named u a.home c (λ q. Exp_named q it n w)
        × Named u a.home c (λ q. Clauses_named q cs (n + size it + 3 + target_size t) v (λ j. Unit {0})))))
        (λ r. let b = comprehension_context a r in
        same_lists (left_four (nexts_made u m (n + size it + 3 + target_size t + clauses_size cs)) (nexts_target u t (n + size it + 3)) (nexts_exp u it n)
        (nexts_clauses u cs (n + size it + 3 + target_size t)))
        (left_four (numbers_made m) (numbers_target t) (numbers_exp it) (numbers_clauses cs))
        (left_four (blocks_made m) (blocks_target t) (blocks_exp it) (blocks_clauses cs))
        (two (made u m (n + size it + 3 + target_size t + clauses_size cs) v b c) (two (target u t (n + size it + 3) v b c)
        (two (exp u it n w a c) (clauses u cs (n + size it + 3 + target_size t) v b c)))))
        (λ r B. let b = comprehension_context a r in every_at c (λ C. (places_made b c m ⨾ (places_target b c t ⨾ (places_exp a c it ⨾ places_clauses b c cs))) C) r B
        (target_names t ++ clause_names cs) (names_bound b c m t a it cs))
        (λ B k s b at is h. (
          s.1.1.0 b at is h.0,
          own_names null g all a c (n + size it + 1 + 1) (target_names t ++ clause_names cs) B
              (subst (λ o. IsComprehension g a c o (target_names t ++ clause_names cs) B) (number_if u (n + size it + 2) is ∙ ap (λ j. Some j) second) k) b at w
              (target_names t ++ clause_names cs) k.binds,
          moved u a.home c (λ q j. Target_named q t j v) (n + size it + 3) (n + size it + 1 + 1 + 1) third s.1.0 b at is h.2,
          moved u a.home c (λ q j. Clauses_named q cs j v (G q)) (n + size it + 3 + target_size t) (n + size it + 1 + 1 + 1 + target_size t) behind
              (clauses_lead u a.home c cs (n + size it + 3 + target_size t) v G s.1.1.1 s.0) b at is h.3,
        ))
    exp u (S.generator l i e fl t it cs) n w a c =
        let k : Block = record { name = codes "<genexpr>"; first_line = l; class = None; params = no_params; code = B.of_generator l e fl t cs } in
        let F : Around V → Type 0 = λ r. Exp_named r e (1 + target_size t + clauses_size cs) [] in
        let G : Around V → ℕ → Type 0 = λ r j. Exp_named r e j [] in
        generator_walked a (λ b. places_exp b c e ⨾ (places_target b c t ⨾ (places_exp a c it ⨾ places_clauses b c cs))) i k
        (λ b. Named true b.home c F × (Named true b.home c (λ q. Target_named q t 1 []) × (Named u a.home c (λ q. Exp_named q it n w)
        × Named true b.home c (λ q. Clauses_named q cs (1 + target_size t) [] (λ j. Unit {0})))))
        refl (λ b. same_lists (left_four (nexts_exp true e (1 + target_size t + clauses_size cs)) (nexts_target true t 1) (nexts_exp u it n) (nexts_clauses true cs (1 + target_size t)))
        (left_four (numbers_exp e) (numbers_target t) (numbers_exp it) (numbers_clauses cs))
        (left_four (blocks_exp e) (blocks_target t) (blocks_exp it) (blocks_clauses cs))
        (two (exp true e (1 + target_size t + clauses_size cs) [] b c) (two (target true t 1 [] b c) (two (exp u it n w a c) (clauses true cs (1 + target_size t) [] b c)))))
        (λ r s h b at shape q. let here = spelled_at g b r c k at shape refl in (h.1.0 b here refl q.0, clauses_lead true r c cs (1 + target_size t) [] G h.1.1.1 h.0 b here refl q.1))
        (λ r s h. h.1.1.0)
    exp u (S.yield l S.absent) n w a c = two_of (placed a.may_give a l tt) (leaf (λ b at is h. tt))
    exp u (S.yield l (S.given e)) n w a c = two_of (placed a.may_give a l tt) (exp u e n w a c)
    exp u (S.yield_from l e) n w a c = two_of (placed a.may_give a l tt) (exp u e n w a c)

    exps : (u : Bool) (es : Exps) (n : ℕ) (w : List ℕ) (a : Context) (c : Name) → In u a c (places_all a c es) (nexts_all u es n) (numbers_all es) (blocks_all es) (λ r. Exps_named r es n w)
    exps u S.no_exps n w a c = leaf (λ b at is h. tt)
    exps u (S.more_exps e es) n w a c = gives (λ s b at is h. (s.0 b at is h.0, s.1 b at is h.1)) (two (exp u e n w a c) (exps u es (n + size e) w a c))

    operands : (u : Bool) (es : Exps) (n : ℕ) (w : List ℕ) (a : Context) (c : Name)
        → In u a c (places_all a c es) (nexts_operands u es n) (numbers_all es) (blocks_all es) (λ r. Operands_named r es n w)
    operands u S.no_exps n w a c = leaf (λ b at is h. tt)
    operands u (S.more_exps e es) n w a c =
        gives (λ s b at is h. (s.0 b at is h.0, s.1 b at is h.1)) (two (exp u e (n + 1) w a c) (operands u es (n + 1 + size e) w a c))

    option : (u : Bool) (o : Opt) (n : ℕ) (w : List ℕ) (a : Context) (c : Name) → In u a c (places_opt a c o) (nexts_opt u o n) (numbers_opt o) (blocks_opt o) (λ r. Given r o n w)
    option u S.absent n w a c = leaf (λ b at is h. tt)
    option u (S.given e) n w a c = exp u e n w a c

    pieces : (u : Bool) (ps : Pieces) (n : ℕ) (w : List ℕ) (a : Context) (c : Name)
        → In u a c (places_pieces a c ps) (nexts_pieces u ps n) (numbers_pieces ps) (blocks_pieces ps) (λ r. Pieces_named r ps n w)
    pieces u S.no_pieces n w a c = leaf (λ b at is h. tt)
    pieces u (S.literal l t r) n w a c = pieces u r (n + 1) w a c
    pieces u (S.field l e k ps r) n w a c = gives (λ s b at is h. (s.0.0 b at is h.0, s.0.1 b at is h.1, s.1 b at is h.2))
        (regroup (places_exp a c e) (places_pieces a c ps) (places_pieces a c r)
        (two (two (exp u e n w a c) (pieces u ps (n + size e) w a c)) (pieces u r (n + size e + pieces_size ps + joins ps + 1) w a c)))

    entries : (u : Bool) (es : Entries) (n : ℕ) (w : List ℕ) (a : Context) (c : Name)
        → In u a c (places_entries a c es) (nexts_entries u es n) (numbers_entries es) (blocks_entries es) (λ r. Entries_named r es n w)
    entries u S.no_entries n w a c = leaf (λ b at is h. tt)
    entries u (S.entry k v r) n w a c = gives (λ s b at is h. (s.0.0 b at is h.0, s.0.1 b at is h.1, s.1 b at is h.2))
        (regroup (places_exp a c k) (places_exp a c v) (places_entries a c r)
        (two (two (exp u k n w a c) (exp u v (n + size k) w a c)) (entries u r (n + size k + size v) w a c)))

    -- n numbers the decision before the first
    links : (u : Bool) (ls : Links) (n : ℕ) (w : List ℕ) (a : Context) (c : Name)
        → In u a c (places_links a c ls) (nexts_links u ls (n + 1)) (numbers_links ls) (blocks_links ls) (λ r. Links_named r ls n w)
    links u S.no_links n w a c = leaf (λ b at is h. tt)
    links u (S.link o e r) n w a c =
        gives (λ s b at is h. (s.0 b at is h.0, s.1 b at is h.1)) (two (exp u e (n + 1 + 1) w a c) (links u r (n + 1 + 1 + size e) w a c))

    args : (u : Bool) (xs : Args) (n : ℕ) (w : List ℕ) (a : Context) (c : Name) → In u a c (places_args a c xs) (nexts_args u xs n) (numbers_args xs) (blocks_args xs) (λ r. Args_named r xs n w)
    args u S.no_args n w a c = leaf (λ b at is h. tt)
    args u (S.positional e r) n w a c = gives (λ s b at is h. (s.0 b at is h.0, s.1 b at is h.1)) (two (exp u e n w a c) (args u r (n + size e) w a c))
    args u (S.named x e r) n w a c = gives (λ s b at is h. (s.0 b at is h.0, s.1 b at is h.1)) (two (exp u e n w a c) (args u r (n + size e) w a c))
    args u (S.spread e r) n w a c = gives (λ s b at is h. (s.0 b at is h.0, s.1 b at is h.1)) (two (exp u e n w a c) (args u r (n + size e + 1) w a c))
    args u (S.spread_named e r) n w a c = gives (λ s b at is h. (s.0 b at is h.0, s.1 b at is h.1)) (two (exp u e n w a c) (args u r (n + size e + 1) w a c))

    made : (u : Bool) (m : Made) (n : ℕ) (w : List ℕ) (a : Context) (c : Name) → In u a c (places_made a c m) (nexts_made u m n) (numbers_made m) (blocks_made m) (λ r. Made_named r m n w)
    made u (S.a_list e) n w a c = exp u e n w a c
    made u (S.a_set e) n w a c = exp u e n w a c
    made u (S.a_dict k v) n w a c = gives (λ s b at is h. (s.0 b at is h.0, s.1 b at is h.1)) (two (exp u k n w a c) (exp u v (n + size k) w a c))

    clauses : (u : Bool) (cs : Clauses) (n : ℕ) (w : List ℕ) (a : Context) (c : Name)
        → In u a c (places_clauses a c cs) (nexts_clauses u cs n) (numbers_clauses cs) (blocks_clauses cs) (λ r. Clauses_named r cs n w (λ j. Unit {0}))
    clauses u S.no_clauses n w a c = leaf (λ b at is h. tt)
    clauses u (S.only_if e cs) n w a c =
        gives (λ s b at is h. (s.0 b at is h.0, s.1 b at is h.1)) (two (exp u e n w a c) (clauses u cs (n + size e + 1) w a c))
    clauses u (S.for_each fl t it cs) n w a c =
        let second : n + size it + 2 ≡ n + size it + 1 + 1 = omega arith in
        let behind : n + size it + 2 + target_size t ≡ n + size it + 1 + 1 + target_size t = omega arith in
        gives (λ s b at is h. (
          s.0.1 b at is h.0,
          moved u a.home c (λ q j. Target_named q t j w) (n + size it + 2) (n + size it + 1 + 1) second s.0.0 b at is h.1,
          moved u a.home c (λ q j. Clauses_named q cs j w (λ i. Unit {0})) (n + size it + 2 + target_size t) (n + size it + 1 + 1 + target_size t) behind s.1 b at is h.2,
        ))
        (regroup (places_target a c t) (places_exp a c it) (places_clauses a c cs)
        (two (two (target u t (n + size it + 2) w a c) (exp u it n w a c)) (clauses u cs (n + size it + 2 + target_size t) w a c)))

    pub place : (u : Bool) (p : Place) (n : ℕ) (w : List ℕ) (a : Context) (c : Name) → In u a c (places_place a c p) (nexts_place u p n) (numbers_place p) (blocks_place p) (λ r. Place_named r p n w)
    place u (S.name_at l x) n w a c = told _ a (mangled c x) l (λ b at is h. tt)
    place u (S.attribute_at l e x) n w a c = exp u e n w a c
    place u (S.item_at l e i) n w a c = gives (λ s b at is h. (s.0 b at is h.0, s.1 b at is h.1)) (two (exp u e n w a c) (exp u i (n + size e) w a c))

    pub target : (u : Bool) (t : Tgt) (n : ℕ) (w : List ℕ) (a : Context) (c : Name)
        → In u a c (places_target a c t) (nexts_target u t n) (numbers_target t) (blocks_target t) (λ r. Target_named r t n w)
    target u (S.single p) n w a c = place u p n w a c
    target u (S.several l f ts) n w a c = targets u ts (n + 1) w a c
    target u (S.starred l t) n w a c = target u t n w a c

    pub targets : (u : Bool) (ts : Tgts) (n : ℕ) (w : List ℕ) (a : Context) (c : Name)
        → In u a c (places_targets a c ts) (nexts_targets u ts n) (numbers_targets ts) (blocks_targets ts) (λ r. Targets_named r ts n w)
    targets u S.no_targets n w a c = leaf (λ b at is h. tt)
    targets u (S.more_targets t ts) n w a c =
        gives (λ s b at is h. (s.0 b at is h.0, s.1 b at is h.1)) (two (target u t n w a c) (targets u ts (n + target_size t) w a c))

    formals : (u : Bool) (ps : Formals) (n : ℕ) (w : List ℕ) (a b : Context) (c : Name)
        → In u a c (places_formals a b c ps) (nexts_formals u ps n) (numbers_formals ps) (blocks_formals ps) (λ r. Formals_named r ps n w (λ j. Unit {0}))
    formals u S.no_formals n w a b c = leaf (λ i at is h. tt)
    formals u (S.formal l x t S.absent r) n w a b c =
        let same : n + 0 ≡ n = omega arith in
        gives (λ s. moved u a.home c (λ q j. Formals_named q r j w (λ i. Unit {0})) (n + 0) n same s.1.1)
        (two (told {P = Unit {0}} _ b (mangled c x) l tt) (two (leaf {P = Unit {0}} tt) (formals u r (n + 0) w a b c)))
    formals u (S.formal l x t (S.given e) r) n w a b c = gives (λ s i at is h. (s.1.0 i at is h.0, s.1.1 i at is h.1))
        (two (told {P = Unit {0}} _ b (mangled c x) l tt) (two (exp u e n w a c) (formals u r (n + size e) w a b c)))

  pub params : (u : Bool) (ps : Formals) (s : Option NamedParameter) (ks : Formals) (d : Option NamedParameter) (n : ℕ) (w : List ℕ) (a b : Context) (c : Name)
      → In u a c (places_params a b c (S.parameters ps s ks d)) (nexts_params u (S.parameters ps s ks d) n) (numbers_params (S.parameters ps s ks d)) (blocks_params (S.parameters ps s ks d))
      (λ r. Defaults ps ks w r n)
  params u ps s ks d n w a b c =
      params_walked u ps s ks d n w a b c (formals u ps n w a b c) (formals u ks (n + formals_size ps) w a b c)
