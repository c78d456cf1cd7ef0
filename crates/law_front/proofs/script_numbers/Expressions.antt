-- The blocks of an expression are numbered one after the other.
use Rattle.std.proofs.Common.{◌≡◌, ◌∙◌, ap, sym, refl, ℕ, ◌+◌, List, [], ◌∷◌, ◌++◌, Option, Some, None, arith}
use Rattle.std.proofs.lemmas.List.{append_assoc}
use Rattle.pt_wide.specs.declared.expression.Comprehension.TheVariants as form
use Rattle.pt_refine_expr.specs.declared.stars.Stars.{Stars}
use Rattle.pt_refine_expr.specs.declared.stars.Stars.TheVariants.{Never, Inside, Here}
use Rattle.pt_tree.specs.Syntax as T
use Rattle.pt_wide.specs.Syntax as W
use Rattle.pt_wide.specs.Syntax.{Exp, Exps, Opt, Pieces, Entry, Entries, Links, Args, Clauses, Params, Formals}
use Rattle.pt_refine_expr.specs.Targets.{alone, opened, behind_item, are_targets, is_inside_target}
use Rattle.pt_refine_expr.specs.Blocks.{blocks_exp, blocks_all, blocks_opt, blocks_pieces, blocks_entry, blocks_entries, blocks_links, blocks_args, blocks_clauses, blocks_params, blocks_formals}
use Rattle.pt_refine_expr.specs.Narrow as way
use Rattle.pt_refine_expr.specs.Narrow.{Pair, narrow_operator, narrow_exp, narrow_all, narrow_opt, narrow_pieces, narrow_pair, narrow_entries, narrow_links, narrow_args, narrow_clauses, narrow_params, narrow_formals, narrow_target, narrow_targets, narrow_place}
use Rattle.sem_control.specs.numbering.Numbered.{numbers_exp, numbers_all, numbers_opt, numbers_pieces, numbers_entries, numbers_links, numbers_args, numbers_made, numbers_clauses, numbers_place, numbers_target, numbers_targets, numbers_params, numbers_formals}
use Rattle.law_front.proofs.script_numbers.Counting.{Counts, absent, there, joined, same, moved, made, if-allowed, of-both, of-three, of-last-two, of-four, of-block}

abbrev pub pair_numbers : Pair → List ℕ
pair_numbers p = numbers_exp p.key ++ numbers_exp p.value

condition-numbers : (cs : T.Exps) (r : T.Clauses) → numbers_clauses (way.conditions cs r) ≡ numbers_all cs ++ numbers_clauses r
condition-numbers T.no_exps r = refl
condition-numbers (T.more_exps e es) r = ap (λ xs. numbers_exp e ++ xs) (condition-numbers es r) ∙ sym (append_assoc (numbers_exp e) (numbers_all es) (numbers_clauses r))

clause-numbers : (l : ℕ) (t : T.Tgt) (it : T.Exp) (cs : T.Exps) (r : T.Clauses)
    → numbers_clauses (way.clause l t it cs r) ≡ numbers_target t ++ numbers_exp it ++ numbers_all cs ++ numbers_clauses r
clause-numbers l t it cs r = ap (λ xs. numbers_target t ++ numbers_exp it ++ xs) (condition-numbers cs r)
    ∙ sym (append_assoc (numbers_target t ++ numbers_exp it) (numbers_all cs) (numbers_clauses r))

-- a comprehension has its item and then its clauses
of-comprehension : (l n j k : ℕ) {o : Option T.Made} {p : Option T.Clauses} → Counts numbers_made n j o → Counts numbers_clauses (n + j) k p
    → Counts numbers_exp n (j + k) (way.comprehension l o p)
of-comprehension l n j k absent b = absent
of-comprehension l n j k (there m a) absent = absent
of-comprehension l n j k (there m a) (there T.no_clauses b) = absent
of-comprehension l n j k (there m a) (there (T.only_if c cs) b) = absent
of-comprehension l n j k (there m a) (there (T.for_each fl t it cs) b) = there (T.comprehension l m fl t it cs)
    (ap (λ xs. xs ++ numbers_clauses cs) (append_assoc (numbers_made m) (numbers_target t) (numbers_exp it))
    ∙ append_assoc (numbers_made m) (numbers_target t ++ numbers_exp it) (numbers_clauses cs) ∙ joined n j k a b)

-- a generator expression starts a block, and has them too
of-generator : (l n j k : ℕ) {o : Option T.Exp} {p : Option T.Clauses} → Counts numbers_exp (1 + n) j o → Counts numbers_clauses (1 + n + j) k p
    → Counts numbers_exp n (1 + j + k) (way.generator l n o p)
of-generator l n j k absent b = absent
of-generator l n j k (there e a) absent = absent
of-generator l n j k (there e a) (there T.no_clauses b) = absent
of-generator l n j k (there e a) (there (T.only_if c cs) b) = absent
of-generator l n j k (there e a) (there (T.for_each fl t it cs) b) = there (T.generator l n e fl t it cs)
    (ap (λ xs. xs ++ numbers_clauses cs) (append_assoc ((n ∷ []) ++ numbers_exp e) (numbers_target t) (numbers_exp it))
    ∙ append_assoc ((n ∷ []) ++ numbers_exp e) (numbers_target t ++ numbers_exp it) (numbers_clauses cs)
    ∙ joined n (1 + j) k (joined n 1 j refl (a ∙ same (omega arith) refl)) (b ∙ same (omega arith) refl))

mutual
  pub counts_exp : (n : ℕ) (x : Exp) → Counts numbers_exp n (blocks_exp x) (narrow_exp n x)
  counts_exp n (W.constant l k) = there _ refl
  counts_exp n (W.name l x) = there _ refl
  counts_exp n (W.joined l ps) = made (T.joined l) (λ x. refl) (counts_pieces n ps)
  counts_exp n (W.parenthesized l (W.tuple m es)) = made (T.tuple l) (λ x. refl) (counts_all n es)
  counts_exp n (W.parenthesized l (W.comprehension m form.Generator e cs)) = of-generator l n (blocks_exp e) (blocks_clauses cs) (counts_exp (1 + n) e) (counts_clauses (1 + n + blocks_exp e) cs)
  counts_exp n (W.parenthesized l (W.constant l2 k)) = counts_exp n (W.constant l2 k)
  counts_exp n (W.parenthesized l (W.name l2 x)) = counts_exp n (W.name l2 x)
  counts_exp n (W.parenthesized l (W.joined l2 ps)) = counts_exp n (W.joined l2 ps)
  counts_exp n (W.parenthesized l (W.parenthesized l2 e)) = counts_exp n (W.parenthesized l2 e)
  counts_exp n (W.parenthesized l (W.starred l2 e)) = counts_exp n (W.starred l2 e)
  counts_exp n (W.parenthesized l (W.list l2 es)) = counts_exp n (W.list l2 es)
  counts_exp n (W.parenthesized l (W.set l2 es)) = counts_exp n (W.set l2 es)
  counts_exp n (W.parenthesized l (W.dict l2 es)) = counts_exp n (W.dict l2 es)
  counts_exp n (W.parenthesized l (W.attribute l2 a x)) = counts_exp n (W.attribute l2 a x)
  counts_exp n (W.parenthesized l (W.item l2 a i)) = counts_exp n (W.item l2 a i)
  counts_exp n (W.parenthesized l (W.slice l2 a b c)) = counts_exp n (W.slice l2 a b c)
  counts_exp n (W.parenthesized l (W.unary l2 o a)) = counts_exp n (W.unary l2 o a)
  counts_exp n (W.parenthesized l (W.not_of l2 a)) = counts_exp n (W.not_of l2 a)
  counts_exp n (W.parenthesized l (W.binary l2 o a b)) = counts_exp n (W.binary l2 o a b)
  counts_exp n (W.parenthesized l (W.compare l2 a o b r)) = counts_exp n (W.compare l2 a o b r)
  counts_exp n (W.parenthesized l (W.and l2 a es)) = counts_exp n (W.and l2 a es)
  counts_exp n (W.parenthesized l (W.or l2 a es)) = counts_exp n (W.or l2 a es)
  counts_exp n (W.parenthesized l (W.conditional l2 c a b)) = counts_exp n (W.conditional l2 c a b)
  counts_exp n (W.parenthesized l (W.call l2 f args)) = counts_exp n (W.call l2 f args)
  counts_exp n (W.parenthesized l (W.lambda l2 ps e)) = counts_exp n (W.lambda l2 ps e)
  counts_exp n (W.parenthesized l (W.comprehension m form.List e cs)) = counts_exp n (W.comprehension m form.List e cs)
  counts_exp n (W.parenthesized l (W.comprehension m form.Set e cs)) = counts_exp n (W.comprehension m form.Set e cs)
  counts_exp n (W.parenthesized l (W.dict_comprehension l2 g cs)) = counts_exp n (W.dict_comprehension l2 g cs)
  counts_exp n (W.parenthesized l (W.yield l2 v)) = counts_exp n (W.yield l2 v)
  counts_exp n (W.parenthesized l (W.yield_from l2 e)) = counts_exp n (W.yield_from l2 e)
  counts_exp n (W.starred l e) = absent
  counts_exp n (W.tuple l es) = made (T.tuple l) (λ x. refl) (counts_all n es)
  counts_exp n (W.list l es) = made (T.list l) (λ x. refl) (counts_all n es)
  counts_exp n (W.set l es) = made (T.set l) (λ x. refl) (counts_all n es)
  counts_exp n (W.dict l es) = made (T.dict l) (λ x. refl) (counts_entries n es)
  counts_exp n (W.attribute l a x) = made (λ o. T.attribute l o x) (λ x. refl) (counts_exp n a)
  counts_exp n (W.item l a i) = of-both (T.item l) (λ x y. refl) n (blocks_exp a) (blocks_exp i) (counts_exp n a) (counts_exp (n + blocks_exp a) i)
  counts_exp n (W.slice l a b c) = of-three (T.slice l) (λ x y z. refl) n (blocks_opt a) (blocks_opt b) (blocks_opt c) (counts_opt n a) (counts_opt (n + blocks_opt a) b) (counts_opt (n + blocks_opt a + blocks_opt b) c)
  counts_exp n (W.unary l o a) = made (T.unary l o) (λ x. refl) (counts_exp n a)
  counts_exp n (W.not_of l a) = made (T.not_of l) (λ x. refl) (counts_exp n a)
  counts_exp n (W.binary l o a b) = of-last-two (T.binary l) (λ x y z. refl) n (blocks_exp a) (blocks_exp b) (narrow_operator o) (counts_exp n a) (counts_exp (n + blocks_exp a) b)
  counts_exp n (W.compare l a o b r) = of-three (λ x y. T.compare l x o y) (λ x y z. refl) n (blocks_exp a) (blocks_exp b) (blocks_links r) (counts_exp n a) (counts_exp (n + blocks_exp a) b) (counts_links (n + blocks_exp a + blocks_exp b) r)
  counts_exp n (W.and l a es) = of-both (T.and l) (λ x y. refl) n (blocks_exp a) (blocks_all es) (counts_exp n a) (counts_all (n + blocks_exp a) es)
  counts_exp n (W.or l a es) = of-both (T.or l) (λ x y. refl) n (blocks_exp a) (blocks_all es) (counts_exp n a) (counts_all (n + blocks_exp a) es)
  counts_exp n (W.conditional l c a b) = of-three (λ x y. T.conditional l y x) (λ x y z. refl) n (blocks_exp a) (blocks_exp c) (blocks_exp b) (counts_exp n a) (counts_exp (n + blocks_exp a) c) (counts_exp (n + blocks_exp a + blocks_exp c) b)
  counts_exp n (W.call l f args) = of-both (T.call l) (λ x y. refl) n (blocks_exp f) (blocks_args args) (counts_exp n f) (counts_args (n + blocks_exp f) args)
  counts_exp n (W.lambda l ps e) = of-block (T.lambda l n) n (λ x y. refl) (blocks_params ps) (blocks_exp e) (counts_params (1 + n) ps) (counts_exp (1 + n + blocks_params ps) e)
  counts_exp n (W.comprehension l form.List e cs) = moved refl (omega arith) (of-comprehension l n (blocks_exp e) (blocks_clauses cs) (made T.a_list (λ x. refl) (counts_exp n e)) (counts_clauses (n + blocks_exp e) cs))
  counts_exp n (W.comprehension l form.Set e cs) = moved refl (omega arith) (of-comprehension l n (blocks_exp e) (blocks_clauses cs) (made T.a_set (λ x. refl) (counts_exp n e)) (counts_clauses (n + blocks_exp e) cs))
  counts_exp n (W.comprehension l form.Generator e cs) = of-generator l n (blocks_exp e) (blocks_clauses cs) (counts_exp (1 + n) e) (counts_clauses (1 + n + blocks_exp e) cs)
  counts_exp n (W.dict_comprehension l g cs) = of-comprehension l n (blocks_entry g) (blocks_clauses cs) (made way.made (λ x. refl) (counts_pair n g)) (counts_clauses (n + blocks_entry g) cs)
  counts_exp n (W.yield l v) = made (T.yield l) (λ x. refl) (counts_opt n v)
  counts_exp n (W.yield_from l e) = made (T.yield_from l) (λ x. refl) (counts_exp n e)

  pub counts_all : (n : ℕ) (x : Exps) → Counts numbers_all n (blocks_all x) (narrow_all n x)
  counts_all n W.no_exps = there _ refl
  counts_all n (W.more_exps e es) = of-both T.more_exps (λ x y. refl) n (blocks_exp e) (blocks_all es) (counts_exp n e) (counts_all (n + blocks_exp e) es)

  pub counts_opt : (n : ℕ) (x : Opt) → Counts numbers_opt n (blocks_opt x) (narrow_opt n x)
  counts_opt n W.absent = there _ refl
  counts_opt n (W.given e) = made T.given (λ x. refl) (counts_exp n e)

  pub counts_pieces : (n : ℕ) (x : Pieces) → Counts numbers_pieces n (blocks_pieces x) (narrow_pieces n x)
  counts_pieces n W.no_pieces = there _ refl
  counts_pieces n (W.literal l t r) = made (T.literal l t) (λ x. refl) (counts_pieces n r)
  counts_pieces n (W.field l e c ps r) = of-three (λ x. T.field l x c) (λ x y z. refl) n (blocks_exp e) (blocks_pieces ps) (blocks_pieces r) (counts_exp n e) (counts_pieces (n + blocks_exp e) ps) (counts_pieces (n + blocks_exp e + blocks_pieces ps) r)

  pub counts_pair : (n : ℕ) (x : Entry) → Counts pair_numbers n (blocks_entry x) (narrow_pair n x)
  counts_pair n (W.pair k v) = of-both way.pair (λ x y. refl) n (blocks_exp k) (blocks_exp v) (counts_exp n k) (counts_exp (n + blocks_exp k) v)
  counts_pair n (W.spread_entry l e) = absent

  pub counts_entries : (n : ℕ) (x : Entries) → Counts numbers_entries n (blocks_entries x) (narrow_entries n x)
  counts_entries n W.no_entries = there _ refl
  counts_entries n (W.more_entries g r) = of-both way.entry (λ x y. refl) n (blocks_entry g) (blocks_entries r) (counts_pair n g) (counts_entries (n + blocks_entry g) r)

  pub counts_links : (n : ℕ) (x : Links) → Counts numbers_links n (blocks_links x) (narrow_links n x)
  counts_links n W.no_links = there _ refl
  counts_links n (W.link o b r) = of-both (T.link o) (λ x y. refl) n (blocks_exp b) (blocks_links r) (counts_exp n b) (counts_links (n + blocks_exp b) r)

  pub counts_args : (n : ℕ) (x : Args) → Counts numbers_args n (blocks_args x) (narrow_args n x)
  counts_args n W.no_args = there _ refl
  counts_args n (W.positional e r) = of-both T.positional (λ x y. refl) n (blocks_exp e) (blocks_args r) (counts_exp n e) (counts_args (n + blocks_exp e) r)
  counts_args n (W.named l x e r) = of-both (T.named x) (λ x y. refl) n (blocks_exp e) (blocks_args r) (counts_exp n e) (counts_args (n + blocks_exp e) r)
  counts_args n (W.spread l e r) = of-both T.spread (λ x y. refl) n (blocks_exp e) (blocks_args r) (counts_exp n e) (counts_args (n + blocks_exp e) r)
  counts_args n (W.spread_named l e r) = of-both T.spread_named (λ x y. refl) n (blocks_exp e) (blocks_args r) (counts_exp n e) (counts_args (n + blocks_exp e) r)

  pub counts_clauses : (n : ℕ) (x : Clauses) → Counts numbers_clauses n (blocks_clauses x) (narrow_clauses n x)
  counts_clauses n W.no_clauses = there _ refl
  counts_clauses n (W.for_each l t it cs r) = of-four (way.clause l) (clause-numbers l) n (blocks_exp t) (blocks_exp it) (blocks_all cs) (blocks_clauses r) (counts_target n Inside t) (counts_exp (n + blocks_exp t) it) (counts_all (n + blocks_exp t + blocks_exp it) cs) (counts_clauses (n + blocks_exp t + blocks_exp it + blocks_all cs) r)

  pub counts_params : (n : ℕ) (x : Params) → Counts numbers_params n (blocks_params x) (narrow_params n x)
  counts_params n (W.parameters W.no_formals None ps s ks d) = moved refl (omega arith) (of-both (λ qs js. T.parameters qs s js d) (λ x y. refl) n (blocks_formals ps) (blocks_formals ks) (counts_formals n ps) (counts_formals (n + blocks_formals ps) ks))
  counts_params n (W.parameters W.no_formals (Some sl) ps s ks d) = absent
  counts_params n (W.parameters (W.formal l x a b r) sl ps s ks d) = absent

  pub counts_formals : (n : ℕ) (x : Formals) → Counts numbers_formals n (blocks_formals x) (narrow_formals n x)
  counts_formals n W.no_formals = there _ refl
  counts_formals n (W.formal l x a d r) = of-last-two (T.formal l x) (λ x y z. refl) n (blocks_opt d) (blocks_formals r) (narrow_opt n a) (counts_opt n d) (counts_formals (n + blocks_opt d) r)

  pub counts_target : (n : ℕ) (s : Stars) (x : Exp) → Counts numbers_target n (blocks_exp x) (narrow_target n s x)
  counts_target n s (W.name l x) = there _ refl
  counts_target n s (W.attribute l a x) = made (λ o. T.single (T.attribute_at l o x)) (λ x. refl) (counts_exp n a)
  counts_target n s (W.item l a i) = of-both (λ o j. T.single (T.item_at l o j)) (λ x y. refl) n (blocks_exp a) (blocks_exp i) (counts_exp n a) (counts_exp (n + blocks_exp a) i)
  counts_target n s (W.tuple l es) = if-allowed (are_targets es) (made (T.several l T.as_tuple) (λ x. refl) (counts_targets n (opened s) es))
  counts_target n s (W.list l es) = if-allowed (are_targets es) (made (T.several l T.as_list) (λ x. refl) (counts_targets n (opened s) es))
  counts_target n s (W.parenthesized l (W.tuple m es)) = if-allowed (are_targets es) (made (T.several l T.as_tuple) (λ x. refl) (counts_targets n (opened s) es))
  counts_target n s (W.parenthesized l (W.constant l2 k)) = if-allowed (is_inside_target (W.constant l2 k)) (counts_target n (alone s) (W.constant l2 k))
  counts_target n s (W.parenthesized l (W.name l2 x)) = if-allowed (is_inside_target (W.name l2 x)) (counts_target n (alone s) (W.name l2 x))
  counts_target n s (W.parenthesized l (W.joined l2 ps)) = if-allowed (is_inside_target (W.joined l2 ps)) (counts_target n (alone s) (W.joined l2 ps))
  counts_target n s (W.parenthesized l (W.parenthesized l2 e)) = if-allowed (is_inside_target (W.parenthesized l2 e)) (counts_target n (alone s) (W.parenthesized l2 e))
  counts_target n s (W.parenthesized l (W.starred l2 e)) = if-allowed (is_inside_target (W.starred l2 e)) (counts_target n (alone s) (W.starred l2 e))
  counts_target n s (W.parenthesized l (W.list l2 es)) = if-allowed (is_inside_target (W.list l2 es)) (counts_target n (alone s) (W.list l2 es))
  counts_target n s (W.parenthesized l (W.set l2 es)) = if-allowed (is_inside_target (W.set l2 es)) (counts_target n (alone s) (W.set l2 es))
  counts_target n s (W.parenthesized l (W.dict l2 es)) = if-allowed (is_inside_target (W.dict l2 es)) (counts_target n (alone s) (W.dict l2 es))
  counts_target n s (W.parenthesized l (W.attribute l2 a x)) = if-allowed (is_inside_target (W.attribute l2 a x)) (counts_target n (alone s) (W.attribute l2 a x))
  counts_target n s (W.parenthesized l (W.item l2 a i)) = if-allowed (is_inside_target (W.item l2 a i)) (counts_target n (alone s) (W.item l2 a i))
  counts_target n s (W.parenthesized l (W.slice l2 a b c)) = if-allowed (is_inside_target (W.slice l2 a b c)) (counts_target n (alone s) (W.slice l2 a b c))
  counts_target n s (W.parenthesized l (W.unary l2 o a)) = if-allowed (is_inside_target (W.unary l2 o a)) (counts_target n (alone s) (W.unary l2 o a))
  counts_target n s (W.parenthesized l (W.not_of l2 a)) = if-allowed (is_inside_target (W.not_of l2 a)) (counts_target n (alone s) (W.not_of l2 a))
  counts_target n s (W.parenthesized l (W.binary l2 o a b)) = if-allowed (is_inside_target (W.binary l2 o a b)) (counts_target n (alone s) (W.binary l2 o a b))
  counts_target n s (W.parenthesized l (W.compare l2 a o b r)) = if-allowed (is_inside_target (W.compare l2 a o b r)) (counts_target n (alone s) (W.compare l2 a o b r))
  counts_target n s (W.parenthesized l (W.and l2 a es)) = if-allowed (is_inside_target (W.and l2 a es)) (counts_target n (alone s) (W.and l2 a es))
  counts_target n s (W.parenthesized l (W.or l2 a es)) = if-allowed (is_inside_target (W.or l2 a es)) (counts_target n (alone s) (W.or l2 a es))
  counts_target n s (W.parenthesized l (W.conditional l2 c a b)) = if-allowed (is_inside_target (W.conditional l2 c a b)) (counts_target n (alone s) (W.conditional l2 c a b))
  counts_target n s (W.parenthesized l (W.call l2 f args)) = if-allowed (is_inside_target (W.call l2 f args)) (counts_target n (alone s) (W.call l2 f args))
  counts_target n s (W.parenthesized l (W.lambda l2 ps e)) = if-allowed (is_inside_target (W.lambda l2 ps e)) (counts_target n (alone s) (W.lambda l2 ps e))
  counts_target n s (W.parenthesized l (W.comprehension l2 f e cs)) = if-allowed (is_inside_target (W.comprehension l2 f e cs)) (counts_target n (alone s) (W.comprehension l2 f e cs))
  counts_target n s (W.parenthesized l (W.dict_comprehension l2 g cs)) = if-allowed (is_inside_target (W.dict_comprehension l2 g cs)) (counts_target n (alone s) (W.dict_comprehension l2 g cs))
  counts_target n s (W.parenthesized l (W.yield l2 v)) = if-allowed (is_inside_target (W.yield l2 v)) (counts_target n (alone s) (W.yield l2 v))
  counts_target n s (W.parenthesized l (W.yield_from l2 e)) = if-allowed (is_inside_target (W.yield_from l2 e)) (counts_target n (alone s) (W.yield_from l2 e))
  counts_target n Never (W.starred l e) = absent
  counts_target n Inside (W.starred l e) = absent
  counts_target n Here (W.starred l e) = made (T.starred l) (λ x. refl) (counts_target n (alone Here) e)
  counts_target n s (W.constant l2 k) = absent
  counts_target n s (W.joined l2 ps) = absent
  counts_target n s (W.set l2 es) = absent
  counts_target n s (W.dict l2 es) = absent
  counts_target n s (W.slice l2 a b c) = absent
  counts_target n s (W.unary l2 o a) = absent
  counts_target n s (W.not_of l2 a) = absent
  counts_target n s (W.binary l2 o a b) = absent
  counts_target n s (W.compare l2 a o b r) = absent
  counts_target n s (W.and l2 a es) = absent
  counts_target n s (W.or l2 a es) = absent
  counts_target n s (W.conditional l2 c a b) = absent
  counts_target n s (W.call l2 f args) = absent
  counts_target n s (W.lambda l2 ps e) = absent
  counts_target n s (W.comprehension l2 f e cs) = absent
  counts_target n s (W.dict_comprehension l2 g cs) = absent
  counts_target n s (W.yield l2 v) = absent
  counts_target n s (W.yield_from l2 e) = absent

  pub counts_targets : (n : ℕ) (s : Stars) (x : Exps) → Counts numbers_targets n (blocks_all x) (narrow_targets n s x)
  counts_targets n s W.no_exps = there _ refl
  counts_targets n s (W.more_exps e es) = of-both T.more_targets (λ x y. refl) n (blocks_exp e) (blocks_all es) (counts_target n s e) (counts_targets (n + blocks_exp e) (behind_item s e) es)

pub counts_place : (n : ℕ) (x : Exp) → Counts numbers_place n (blocks_exp x) (narrow_place n x)
counts_place n (W.name l x) = there _ refl
counts_place n (W.attribute l a x) = made (λ o. T.attribute_at l o x) (λ x. refl) (counts_exp n a)
counts_place n (W.item l a i) = of-both (T.item_at l) (λ x y. refl) n (blocks_exp a) (blocks_exp i) (counts_exp n a) (counts_exp (n + blocks_exp a) i)
counts_place n (W.constant l2 k) = absent
counts_place n (W.joined l2 ps) = absent
counts_place n (W.parenthesized l2 e) = absent
counts_place n (W.starred l2 e) = absent
counts_place n (W.tuple m es) = absent
counts_place n (W.list l2 es) = absent
counts_place n (W.set l2 es) = absent
counts_place n (W.dict l2 es) = absent
counts_place n (W.slice l2 a b c) = absent
counts_place n (W.unary l2 o a) = absent
counts_place n (W.not_of l2 a) = absent
counts_place n (W.binary l2 o a b) = absent
counts_place n (W.compare l2 a o b r) = absent
counts_place n (W.and l2 a es) = absent
counts_place n (W.or l2 a es) = absent
counts_place n (W.conditional l2 c a b) = absent
counts_place n (W.call l2 f args) = absent
counts_place n (W.lambda l2 ps e) = absent
counts_place n (W.comprehension l2 f e cs) = absent
counts_place n (W.dict_comprehension l2 g cs) = absent
counts_place n (W.yield l2 v) = absent
counts_place n (W.yield_from l2 e) = absent
