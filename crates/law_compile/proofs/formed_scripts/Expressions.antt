-- What an expression of the wide grammar is in the tree is formed, if it is.
use Rattle.std.proofs.Common.{ℕ, ◌+◌, Option, Some, None}
use Rattle.pt_wide.specs.declared.expression.Comprehension.TheVariants as form
use Rattle.pt_refine_expr.specs.declared.stars.Stars.{Stars}
use Rattle.pt_refine_expr.specs.declared.stars.Stars.TheVariants.{Never, Inside, Here}
use Rattle.pt_tree.specs.Syntax as T
use Rattle.pt_wide.specs.Syntax as W
use Rattle.pt_wide.specs.Syntax.{Exp, Exps, Opt, Pieces, Entry, Entries, Links, Args, Clauses, Params, Formals}
use Rattle.pt_refine_expr.specs.Targets.{alone, opened, behind_item, are_targets, is_inside_target}
use Rattle.pt_refine_expr.specs.Blocks.{blocks_exp, blocks_all, blocks_opt, blocks_pieces, blocks_entry, blocks_params, blocks_formals}
use Rattle.pt_refine_expr.specs.Narrow as way
use Rattle.pt_refine_expr.specs.Narrow.{Pair, narrow_operator, narrow_exp, narrow_all, narrow_opt, narrow_pieces, narrow_pair, narrow_entries, narrow_links, narrow_args, narrow_clauses, narrow_params, narrow_formals, narrow_target, narrow_targets, narrow_place}
use Rattle.law_compile.specs.formed.Formed as F
use Rattle.law_compile.specs.formed_scripts.Wide.{ExpFormed, ExpsFormed, OptFormed, PiecesFormed, EntryFormed, EntriesFormed, LinksFormed, ArgsFormed, ClausesFormed, ParamsFormed, FormalsFormed}
use Rattle.law_compile.proofs.formed_scripts.Ways.{Holds, absent, there, any, made, if-allowed, of-both, of-three, of-four}

abbrev pub PairFormed : Pair → Type 0
PairFormed p = F.ExpFormed p.key × F.ExpFormed p.value

conditions-formed : (cs : T.Exps) (r : T.Clauses) → F.ExpsFormed cs → F.ClausesFormed r → F.ClausesFormed (way.conditions cs r)
conditions-formed T.no_exps r h g = g
conditions-formed (T.more_exps e es) r h g = (h.0, conditions-formed es r h.1 g)

of-comprehension : (l : ℕ) {o : Option T.Made} {p : Option T.Clauses} → Holds F.MadeFormed o → Holds F.ClausesFormed p → Holds F.ExpFormed (way.comprehension l o p)
of-comprehension l absent b = absent
of-comprehension l (there m a) absent = absent
of-comprehension l (there m a) (there T.no_clauses b) = absent
of-comprehension l (there m a) (there (T.only_if c cs) b) = absent
of-comprehension l (there m a) (there (T.for_each k t it cs) b) = there (T.comprehension l m k t it cs) (a, b.0, b.1, b.2)

of-generator : (l n : ℕ) {o : Option T.Exp} {p : Option T.Clauses} → Holds F.ExpFormed o → Holds F.ClausesFormed p → Holds F.ExpFormed (way.generator l n o p)
of-generator l n absent b = absent
of-generator l n (there e a) absent = absent
of-generator l n (there e a) (there T.no_clauses b) = absent
of-generator l n (there e a) (there (T.only_if c cs) b) = absent
of-generator l n (there e a) (there (T.for_each k t it cs) b) = there (T.generator l n e k t it cs) (a, b.0, b.1, b.2)

mutual
  pub exp : (n : ℕ) (e : Exp) → ExpFormed e → Holds F.ExpFormed (narrow_exp n e)
  exp n (W.constant l k) h = there _ tt
  exp n (W.name l x) h = there _ tt
  exp n (W.joined l ps) h = made (T.joined l) (λ x p. p) (pieces n ps h)
  exp n (W.parenthesized l (W.tuple m es)) h = made (T.tuple l) (λ x p. p) (exps n es h)
  exp n (W.parenthesized l (W.comprehension m form.Generator e cs)) h = of-generator l n (exp (1 + n) e h.0) (clauses (1 + n + blocks_exp e) cs h.1)
  exp n (W.parenthesized l (W.constant m k)) h = exp n (W.constant m k) h
  exp n (W.parenthesized l (W.name m x)) h = exp n (W.name m x) h
  exp n (W.parenthesized l (W.joined m ps)) h = exp n (W.joined m ps) h
  exp n (W.parenthesized l (W.parenthesized m e)) h = exp n (W.parenthesized m e) h
  exp n (W.parenthesized l (W.starred m e)) h = exp n (W.starred m e) h
  exp n (W.parenthesized l (W.list m es)) h = exp n (W.list m es) h
  exp n (W.parenthesized l (W.set m es)) h = exp n (W.set m es) h
  exp n (W.parenthesized l (W.dict m es)) h = exp n (W.dict m es) h
  exp n (W.parenthesized l (W.attribute m a x)) h = exp n (W.attribute m a x) h
  exp n (W.parenthesized l (W.item m a i)) h = exp n (W.item m a i) h
  exp n (W.parenthesized l (W.slice m a b c)) h = exp n (W.slice m a b c) h
  exp n (W.parenthesized l (W.unary m o a)) h = exp n (W.unary m o a) h
  exp n (W.parenthesized l (W.not_of m a)) h = exp n (W.not_of m a) h
  exp n (W.parenthesized l (W.binary m o a b)) h = exp n (W.binary m o a b) h
  exp n (W.parenthesized l (W.compare m a o b r)) h = exp n (W.compare m a o b r) h
  exp n (W.parenthesized l (W.and m a es)) h = exp n (W.and m a es) h
  exp n (W.parenthesized l (W.or m a es)) h = exp n (W.or m a es) h
  exp n (W.parenthesized l (W.conditional m c a b)) h = exp n (W.conditional m c a b) h
  exp n (W.parenthesized l (W.call m f args)) h = exp n (W.call m f args) h
  exp n (W.parenthesized l (W.lambda m ps e)) h = exp n (W.lambda m ps e) h
  exp n (W.parenthesized l (W.comprehension m form.List e cs)) h = exp n (W.comprehension m form.List e cs) h
  exp n (W.parenthesized l (W.comprehension m form.Set e cs)) h = exp n (W.comprehension m form.Set e cs) h
  exp n (W.parenthesized l (W.dict_comprehension m g cs)) h = exp n (W.dict_comprehension m g cs) h
  exp n (W.parenthesized l (W.yield m v)) h = exp n (W.yield m v) h
  exp n (W.parenthesized l (W.yield_from m e)) h = exp n (W.yield_from m e) h
  exp n (W.starred l e) h = absent
  exp n (W.tuple l es) h = made (T.tuple l) (λ x p. p) (exps n es h)
  exp n (W.list l es) h = made (T.list l) (λ x p. p) (exps n es h)
  exp n (W.set l es) h = made (T.set l) (λ x p. p) (exps n es h)
  exp n (W.dict l es) h = made (T.dict l) (λ x p. p) (entries n es h)
  exp n (W.attribute l a x) h = made (λ o. T.attribute l o x) (λ y p. p) (exp n a h)
  exp n (W.item l a i) h = of-both (T.item l) (λ x y p q. (p, q)) (exp n a h.0) (exp (n + blocks_exp a) i h.1)
  exp n (W.slice l a b c) h = of-three (T.slice l) (λ x y z p q r. (p, q, r)) (opt n a h.0) (opt (n + blocks_opt a) b h.1) (opt (n + blocks_opt a + blocks_opt b) c h.2)
  exp n (W.unary l o a) h = made (T.unary l o) (λ x p. p) (exp n a h)
  exp n (W.not_of l a) h = made (T.not_of l) (λ x p. p) (exp n a h)
  exp n (W.binary l o a b) h = of-three (T.binary l) (λ x y z p q r. (q, r)) (any (narrow_operator o)) (exp n a h.0) (exp (n + blocks_exp a) b h.1)
  exp n (W.compare l a o b r) h = of-three (λ x y. T.compare l x o y) (λ x y z p q r. (p, q, r)) (exp n a h.0) (exp (n + blocks_exp a) b h.1) (links (n + blocks_exp a + blocks_exp b) r h.2)
  exp n (W.and l a es) h = of-both (T.and l) (λ x y p q. (p, q)) (exp n a h.0) (exps (n + blocks_exp a) es h.1)
  exp n (W.or l a es) h = of-both (T.or l) (λ x y p q. (p, q)) (exp n a h.0) (exps (n + blocks_exp a) es h.1)
  exp n (W.conditional l c a b) h = of-three (λ x y. T.conditional l y x) (λ x y z p q r. (q, p, r)) (exp n a h.1) (exp (n + blocks_exp a) c h.0) (exp (n + blocks_exp a + blocks_exp c) b h.2)
  exp n (W.call l f args) h = of-both (T.call l) (λ x y p q. (p, q)) (exp n f h.0) (arguments (n + blocks_exp f) args h.1)
  exp n (W.lambda l ps e) h = of-both (T.lambda l n) (λ x y p q. (p, q)) (params (1 + n) ps h.0) (exp (1 + n + blocks_params ps) e h.1)
  exp n (W.comprehension l form.List e cs) h = of-comprehension l (made T.a_list (λ x p. p) (exp n e h.0)) (clauses (n + blocks_exp e) cs h.1)
  exp n (W.comprehension l form.Set e cs) h = of-comprehension l (made T.a_set (λ x p. p) (exp n e h.0)) (clauses (n + blocks_exp e) cs h.1)
  exp n (W.comprehension l form.Generator e cs) h = of-generator l n (exp (1 + n) e h.0) (clauses (1 + n + blocks_exp e) cs h.1)
  exp n (W.dict_comprehension l g cs) h = of-comprehension l (made way.made (λ x p. p) (pair n g h.0)) (clauses (n + blocks_entry g) cs h.1)
  exp n (W.yield l v) h = made (T.yield l) (λ x p. p) (opt n v h)
  exp n (W.yield_from l e) h = made (T.yield_from l) (λ x p. p) (exp n e h)

  pub exps : (n : ℕ) (es : Exps) → ExpsFormed es → Holds F.ExpsFormed (narrow_all n es)
  exps n W.no_exps h = there _ tt
  exps n (W.more_exps e es) h = of-both T.more_exps (λ x y p q. (p, q)) (exp n e h.0) (exps (n + blocks_exp e) es h.1)

  pub opt : (n : ℕ) (o : Opt) → OptFormed o → Holds F.OptFormed (narrow_opt n o)
  opt n W.absent h = there _ tt
  opt n (W.given e) h = made T.given (λ x p. p) (exp n e h)

  pieces : (n : ℕ) (ps : Pieces) → PiecesFormed ps → Holds F.PiecesFormed (narrow_pieces n ps)
  pieces n W.no_pieces h = there _ tt
  pieces n (W.literal l t r) h = made (T.literal l t) (λ x p. p) (pieces n r h)
  pieces n (W.field l e c ps r) h = of-three (λ x. T.field l x c) (λ x y z p q r. (p, q, r)) (exp n e h.0) (pieces (n + blocks_exp e) ps h.1) (pieces (n + blocks_exp e + blocks_pieces ps) r h.2)

  pair : (n : ℕ) (g : Entry) → EntryFormed g → Holds PairFormed (narrow_pair n g)
  pair n (W.pair k v) h = of-both way.pair (λ x y p q. (p, q)) (exp n k h.0) (exp (n + blocks_exp k) v h.1)
  pair n (W.spread_entry l e) h = absent

  entries : (n : ℕ) (r : Entries) → EntriesFormed r → Holds F.EntriesFormed (narrow_entries n r)
  entries n W.no_entries h = there _ tt
  entries n (W.more_entries g r) h = of-both way.entry (λ x y p q. (p.0, p.1, q)) (pair n g h.0) (entries (n + blocks_entry g) r h.1)

  links : (n : ℕ) (r : Links) → LinksFormed r → Holds F.LinksFormed (narrow_links n r)
  links n W.no_links h = there _ tt
  links n (W.link o b r) h = of-both (T.link o) (λ x y p q. (p, q)) (exp n b h.0) (links (n + blocks_exp b) r h.1)

  arguments : (n : ℕ) (r : Args) → ArgsFormed r → Holds F.ArgsFormed (narrow_args n r)
  arguments n W.no_args h = there _ tt
  arguments n (W.positional e r) h = of-both T.positional (λ x y p q. (p, q)) (exp n e h.0) (arguments (n + blocks_exp e) r h.1)
  arguments n (W.named l x e r) h = of-both (T.named x) (λ y z p q. (h.0, p, q)) (exp n e h.1) (arguments (n + blocks_exp e) r h.2)
  arguments n (W.spread l e r) h = of-both T.spread (λ x y p q. (p, q)) (exp n e h.0) (arguments (n + blocks_exp e) r h.1)
  arguments n (W.spread_named l e r) h = of-both T.spread_named (λ x y p q. (p, q)) (exp n e h.0) (arguments (n + blocks_exp e) r h.1)

  clauses : (n : ℕ) (cs : Clauses) → ClausesFormed cs → Holds F.ClausesFormed (narrow_clauses n cs)
  clauses n W.no_clauses h = there _ tt
  clauses n (W.for_each l t it cs r) h = of-four (way.clause l) (λ x y z u p q a b. (p, q, conditions-formed z u a b)) (target n Inside t h.0) (exp (n + blocks_exp t) it h.1)
      (exps (n + blocks_exp t + blocks_exp it) cs h.2) (clauses (n + blocks_exp t + blocks_exp it + blocks_all cs) r h.3)

  pub params : (n : ℕ) (ps : Params) → ParamsFormed ps → Holds F.ParamsFormed (narrow_params n ps)
  params n (W.parameters W.no_formals None ps s ks d) h = of-both (λ qs js. T.parameters qs s js d) (λ x y p q. (p, q)) (formals n ps h.0) (formals (n + blocks_formals ps) ks h.1)
  params n (W.parameters W.no_formals (Some sl) ps s ks d) h = absent
  params n (W.parameters (W.formal l x a b r) sl ps s ks d) h = absent

  formals : (n : ℕ) (ps : Formals) → FormalsFormed ps → Holds F.FormalsFormed (narrow_formals n ps)
  formals n W.no_formals h = there _ tt
  formals n (W.formal l x a d r) h = of-three (T.formal l x) (λ y z u p q s. (q, s)) (any (narrow_opt n a)) (opt n d h.0) (formals (n + blocks_opt d) r h.1)

  pub target : (n : ℕ) (s : Stars) (e : Exp) → ExpFormed e → Holds F.TgtFormed (narrow_target n s e)
  target n s (W.name l x) h = there _ tt
  target n s (W.attribute l a x) h = made (λ o. T.single (T.attribute_at l o x)) (λ y p. p) (exp n a h)
  target n s (W.item l a i) h = of-both (λ o j. T.single (T.item_at l o j)) (λ x y p q. (p, q)) (exp n a h.0) (exp (n + blocks_exp a) i h.1)
  target n s (W.tuple l es) h = if-allowed (are_targets es) (made (T.several l T.as_tuple) (λ x p. p) (targets n (opened s) es h))
  target n s (W.list l es) h = if-allowed (are_targets es) (made (T.several l T.as_list) (λ x p. p) (targets n (opened s) es h))
  target n s (W.parenthesized l (W.tuple m es)) h = if-allowed (are_targets es) (made (T.several l T.as_tuple) (λ x p. p) (targets n (opened s) es h))
  target n s (W.parenthesized l (W.constant m k)) h = if-allowed (is_inside_target (W.constant m k)) (target n (alone s) (W.constant m k) h)
  target n s (W.parenthesized l (W.name m x)) h = if-allowed (is_inside_target (W.name m x)) (target n (alone s) (W.name m x) h)
  target n s (W.parenthesized l (W.joined m ps)) h = if-allowed (is_inside_target (W.joined m ps)) (target n (alone s) (W.joined m ps) h)
  target n s (W.parenthesized l (W.parenthesized m e)) h = if-allowed (is_inside_target (W.parenthesized m e)) (target n (alone s) (W.parenthesized m e) h)
  target n s (W.parenthesized l (W.starred m e)) h = if-allowed (is_inside_target (W.starred m e)) (target n (alone s) (W.starred m e) h)
  target n s (W.parenthesized l (W.list m es)) h = if-allowed (is_inside_target (W.list m es)) (target n (alone s) (W.list m es) h)
  target n s (W.parenthesized l (W.set m es)) h = if-allowed (is_inside_target (W.set m es)) (target n (alone s) (W.set m es) h)
  target n s (W.parenthesized l (W.dict m es)) h = if-allowed (is_inside_target (W.dict m es)) (target n (alone s) (W.dict m es) h)
  target n s (W.parenthesized l (W.attribute m a x)) h = if-allowed (is_inside_target (W.attribute m a x)) (target n (alone s) (W.attribute m a x) h)
  target n s (W.parenthesized l (W.item m a i)) h = if-allowed (is_inside_target (W.item m a i)) (target n (alone s) (W.item m a i) h)
  target n s (W.parenthesized l (W.slice m a b c)) h = if-allowed (is_inside_target (W.slice m a b c)) (target n (alone s) (W.slice m a b c) h)
  target n s (W.parenthesized l (W.unary m o a)) h = if-allowed (is_inside_target (W.unary m o a)) (target n (alone s) (W.unary m o a) h)
  target n s (W.parenthesized l (W.not_of m a)) h = if-allowed (is_inside_target (W.not_of m a)) (target n (alone s) (W.not_of m a) h)
  target n s (W.parenthesized l (W.binary m o a b)) h = if-allowed (is_inside_target (W.binary m o a b)) (target n (alone s) (W.binary m o a b) h)
  target n s (W.parenthesized l (W.compare m a o b r)) h = if-allowed (is_inside_target (W.compare m a o b r)) (target n (alone s) (W.compare m a o b r) h)
  target n s (W.parenthesized l (W.and m a es)) h = if-allowed (is_inside_target (W.and m a es)) (target n (alone s) (W.and m a es) h)
  target n s (W.parenthesized l (W.or m a es)) h = if-allowed (is_inside_target (W.or m a es)) (target n (alone s) (W.or m a es) h)
  target n s (W.parenthesized l (W.conditional m c a b)) h = if-allowed (is_inside_target (W.conditional m c a b)) (target n (alone s) (W.conditional m c a b) h)
  target n s (W.parenthesized l (W.call m f args)) h = if-allowed (is_inside_target (W.call m f args)) (target n (alone s) (W.call m f args) h)
  target n s (W.parenthesized l (W.lambda m ps e)) h = if-allowed (is_inside_target (W.lambda m ps e)) (target n (alone s) (W.lambda m ps e) h)
  target n s (W.parenthesized l (W.comprehension m form e cs)) h = if-allowed (is_inside_target (W.comprehension m form e cs)) (target n (alone s) (W.comprehension m form e cs) h)
  target n s (W.parenthesized l (W.dict_comprehension m g cs)) h = if-allowed (is_inside_target (W.dict_comprehension m g cs)) (target n (alone s) (W.dict_comprehension m g cs) h)
  target n s (W.parenthesized l (W.yield m v)) h = if-allowed (is_inside_target (W.yield m v)) (target n (alone s) (W.yield m v) h)
  target n s (W.parenthesized l (W.yield_from m e)) h = if-allowed (is_inside_target (W.yield_from m e)) (target n (alone s) (W.yield_from m e) h)
  target n Never (W.starred l e) h = absent
  target n Inside (W.starred l e) h = absent
  target n Here (W.starred l e) h = made (T.starred l) (λ x p. p) (target n (alone Here) e h)
  target n s (W.constant l k) h = absent
  target n s (W.joined l ps) h = absent
  target n s (W.set l es) h = absent
  target n s (W.dict l es) h = absent
  target n s (W.slice l a b c) h = absent
  target n s (W.unary l o a) h = absent
  target n s (W.not_of l a) h = absent
  target n s (W.binary l o a b) h = absent
  target n s (W.compare l a o b r) h = absent
  target n s (W.and l a es) h = absent
  target n s (W.or l a es) h = absent
  target n s (W.conditional l c a b) h = absent
  target n s (W.call l f args) h = absent
  target n s (W.lambda l ps e) h = absent
  target n s (W.comprehension l form e cs) h = absent
  target n s (W.dict_comprehension l g cs) h = absent
  target n s (W.yield l v) h = absent
  target n s (W.yield_from l e) h = absent

  pub targets : (n : ℕ) (s : Stars) (es : Exps) → ExpsFormed es → Holds F.TgtsFormed (narrow_targets n s es)
  targets n s W.no_exps h = there _ tt
  targets n s (W.more_exps e es) h = of-both T.more_targets (λ x y p q. (p, q)) (target n s e h.0) (targets (n + blocks_exp e) (behind_item s e) es h.1)

pub place : (n : ℕ) (e : Exp) → ExpFormed e → Holds F.PlaceFormed (narrow_place n e)
place n (W.name l x) h = there _ tt
place n (W.attribute l a x) h = made (λ o. T.attribute_at l o x) (λ y p. p) (exp n a h)
place n (W.item l a i) h = of-both (T.item_at l) (λ x y p q. (p, q)) (exp n a h.0) (exp (n + blocks_exp a) i h.1)
place n (W.constant l k) h = absent
place n (W.joined l ps) h = absent
place n (W.parenthesized l e) h = absent
place n (W.starred l e) h = absent
place n (W.tuple l es) h = absent
place n (W.list l es) h = absent
place n (W.set l es) h = absent
place n (W.dict l es) h = absent
place n (W.slice l a b c) h = absent
place n (W.unary l o a) h = absent
place n (W.not_of l a) h = absent
place n (W.binary l o a b) h = absent
place n (W.compare l a o b r) h = absent
place n (W.and l a es) h = absent
place n (W.or l a es) h = absent
place n (W.conditional l c a b) h = absent
place n (W.call l f args) h = absent
place n (W.lambda l ps e) h = absent
place n (W.comprehension l form e cs) h = absent
place n (W.dict_comprehension l g cs) h = absent
place n (W.yield l v) h = absent
place n (W.yield_from l e) h = absent
