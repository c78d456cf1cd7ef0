-- What a node of a wide tree is in the tree of the language, or its first fault (Language Reference 6, 7.2). Parentheses vanish, and each
-- block has the number of blocks that start before it, the module being one of them.
use Rattle.std.specs.Prelude.{ℕ, Option, Some, None, if◌then◌else◌}
use Rattle.pt_base.specs.declared.operators.BinOp.{BinOp}
use Rattle.pt_wide.specs.declared.expression.WideBinOp.{WideBinOp}
use Rattle.pt_wide.specs.declared.expression.WideBinOp.TheVariants as operator
use Rattle.pt_wide.specs.declared.expression.Comprehension.TheVariants as form
use Rattle.pt_refine_expr.specs.declared.stars.Stars.{Stars}
use Rattle.pt_refine_expr.specs.declared.stars.Stars.TheVariants.{Never, Inside, Here}
use Rattle.pt_tree.specs.Syntax as T
use Rattle.pt_wide.specs.Syntax as W
use Rattle.pt_wide.specs.Syntax.{Exp, Exps, Opt, Pieces, Entry, Entries, Links, Args, Clauses, Params, Formals}
use Rattle.pt_refine_expr.specs.Faults.{bad_target, excluded}
use Rattle.pt_refine_expr.specs.Narrow.{Pair, pair, entry, conditions}
use Rattle.pt_refine_expr.specs.Targets.{alone, opened, behind_item, are_targets, is_inside_target, exp_line}
use Rattle.pt_refine_expr.specs.Steps.{Step, done, stop, start, after, made, both, three, uncounted}

-- `@` is left out
abbrev pub refine_operator : (line : ℕ) → WideBinOp → Step BinOp
refine_operator l (operator.Plain o) = done o
refine_operator l operator.MatMul = stop (excluded l)

-- a step where a star may stand
abbrev pub where_here : {A : Type 0} → (line : ℕ) → Stars → Step A → Step A
where_here l Never s = stop (bad_target l)
where_here l Inside s = stop (bad_target l)
where_here l Here s = s

-- a step where these are targets
abbrev pub where_targets : {A : Type 0} → (line : ℕ) → Exps → Step A → Step A
where_targets l es s = if are_targets es then s else stop (bad_target l)

-- `/`, or parameters before one that isn't there
abbrev pub refine_slash : {A : Type 0} → Formals → Option ℕ → Step A → Step A
refine_slash bs (Some l) s = stop (excluded l)
refine_slash W.no_formals None s = s
refine_slash (W.formal l x a d r) None s = stop (excluded l)

-- a clause without those behind it
pub record Head : Type 0 where
  pub line : ℕ
  pub target : T.Tgt
  pub iterable : T.Exp
  pub conditions : T.Exps

abbrev pub head : (line : ℕ) → T.Tgt → T.Exp → T.Exps → Head
head l t it cs = record { line = l; target = t; iterable = it; conditions = cs }

abbrev pub put : Head → T.Clauses → T.Clauses
put h r = T.for_each h.line h.target h.iterable (conditions h.conditions r)

abbrev pub comprehension : (line : ℕ) → T.Made → Head → T.Clauses → T.Exp
comprehension l m h r = T.comprehension l m h.line h.target h.iterable (conditions h.conditions r)

abbrev pub generator : (line block : ℕ) → T.Exp → Head → T.Clauses → T.Exp
generator l b e h r = T.generator l b e h.line h.target h.iterable (conditions h.conditions r)

abbrev pub of_pair : Pair → T.Made
of_pair p = T.a_dict p.key p.value

abbrev mutual
  pub refine_exp : Exp → Step T.Exp
  refine_exp (W.constant l k) = done (T.constant l k)
  refine_exp (W.name l x) = done (T.name l x)
  refine_exp (W.joined l ps) = made (T.joined l) (refine_pieces ps)
  -- what has no brackets of its own starts at the parenthesis
  refine_exp (W.parenthesized l (W.tuple m es)) = made (T.tuple l) (refine_all es)
  refine_exp (W.parenthesized l (W.comprehension m form.Generator e W.no_clauses)) = stop (excluded m)
  refine_exp (W.parenthesized l (W.comprehension m form.Generator e (W.for_each fl t it cs r))) = after start (λ b. three (generator l b) (refine_exp e) (three (head fl) (refine_target Inside t) (refine_exp it) (refine_all cs)) (refine_clauses r))
  refine_exp (W.parenthesized l e) = refine_exp e
  -- a star outside of targets, calls and parameters
  refine_exp (W.starred l e) = stop (excluded l)
  refine_exp (W.tuple l es) = made (T.tuple l) (refine_all es)
  refine_exp (W.list l es) = made (T.list l) (refine_all es)
  refine_exp (W.set l es) = made (T.set l) (refine_all es)
  refine_exp (W.dict l es) = made (T.dict l) (refine_entries es)
  refine_exp (W.attribute l a x) = made (λ o. T.attribute l o x) (refine_exp a)
  refine_exp (W.item l a i) = both (T.item l) (refine_exp a) (refine_exp i)
  refine_exp (W.slice l a b c) = three (T.slice l) (refine_opt a) (refine_opt b) (refine_opt c)
  refine_exp (W.unary l o a) = made (T.unary l o) (refine_exp a)
  refine_exp (W.not_of l a) = made (T.not_of l) (refine_exp a)
  refine_exp (W.binary l o a b) = three (T.binary l) (refine_operator l o) (refine_exp a) (refine_exp b)
  refine_exp (W.compare l a o b r) = three (λ x y. T.compare l x o y) (refine_exp a) (refine_exp b) (refine_links r)
  refine_exp (W.and l a es) = both (T.and l) (refine_exp a) (refine_all es)
  refine_exp (W.or l a es) = both (T.or l) (refine_exp a) (refine_all es)
  -- the body of a conditional expression is written before its test
  refine_exp (W.conditional l c a b) = three (λ x y. T.conditional l y x) (refine_exp a) (refine_exp c) (refine_exp b)
  refine_exp (W.call l f args) = both (T.call l) (refine_exp f) (refine_args args)
  refine_exp (W.lambda l ps e) = after start (λ b. both (T.lambda l b) (refine_params ps) (refine_exp e))
  -- no tokens are a comprehension without a clause
  refine_exp (W.comprehension l form e W.no_clauses) = stop (excluded l)
  refine_exp (W.comprehension l form.List e (W.for_each fl t it cs r)) = three (λ e'. comprehension l (T.a_list e')) (refine_exp e) (three (head fl) (refine_target Inside t) (refine_exp it) (refine_all cs)) (refine_clauses r)
  refine_exp (W.comprehension l form.Set e (W.for_each fl t it cs r)) = three (λ e'. comprehension l (T.a_set e')) (refine_exp e) (three (head fl) (refine_target Inside t) (refine_exp it) (refine_all cs)) (refine_clauses r)
  refine_exp (W.comprehension l form.Generator e (W.for_each fl t it cs r)) = after start (λ b. three (generator l b) (refine_exp e) (three (head fl) (refine_target Inside t) (refine_exp it) (refine_all cs)) (refine_clauses r))
  refine_exp (W.dict_comprehension l g W.no_clauses) = stop (excluded l)
  refine_exp (W.dict_comprehension l g (W.for_each fl t it cs r)) = three (λ p. comprehension l (of_pair p)) (refine_pair g) (three (head fl) (refine_target Inside t) (refine_exp it) (refine_all cs)) (refine_clauses r)
  refine_exp (W.yield l v) = made (T.yield l) (refine_opt v)
  refine_exp (W.yield_from l e) = made (T.yield_from l) (refine_exp e)

  pub refine_all : Exps → Step T.Exps
  refine_all W.no_exps = done T.no_exps
  refine_all (W.more_exps e es) = both T.more_exps (refine_exp e) (refine_all es)

  pub refine_opt : Opt → Step T.Opt
  refine_opt W.absent = done T.absent
  refine_opt (W.given e) = made T.given (refine_exp e)

  pub refine_pieces : Pieces → Step T.Pieces
  refine_pieces W.no_pieces = done T.no_pieces
  refine_pieces (W.literal l t r) = made (T.literal l t) (refine_pieces r)
  refine_pieces (W.field l e c ps r) = three (λ x. T.field l x c) (refine_exp e) (refine_pieces ps) (refine_pieces r)

  -- `**` in the display of a dictionary is left out
  pub refine_pair : Entry → Step Pair
  refine_pair (W.pair k v) = both pair (refine_exp k) (refine_exp v)
  refine_pair (W.spread_entry l e) = stop (excluded l)

  pub refine_entries : Entries → Step T.Entries
  refine_entries W.no_entries = done T.no_entries
  refine_entries (W.more_entries g r) = both entry (refine_pair g) (refine_entries r)

  pub refine_links : Links → Step T.Links
  refine_links W.no_links = done T.no_links
  refine_links (W.link o b r) = both (T.link o) (refine_exp b) (refine_links r)

  pub refine_args : Args → Step T.Args
  refine_args W.no_args = done T.no_args
  refine_args (W.positional e r) = both T.positional (refine_exp e) (refine_args r)
  refine_args (W.named l x e r) = both (T.named x) (refine_exp e) (refine_args r)
  refine_args (W.spread l e r) = both T.spread (refine_exp e) (refine_args r)
  refine_args (W.spread_named l e r) = both T.spread_named (refine_exp e) (refine_args r)

  pub refine_clauses : Clauses → Step T.Clauses
  refine_clauses W.no_clauses = done T.no_clauses
  refine_clauses (W.for_each l t it cs r) = both put (three (head l) (refine_target Inside t) (refine_exp it) (refine_all cs)) (refine_clauses r)

  -- what stands before a `/` is looked at first
  pub refine_params : Params → Step T.Params
  refine_params (W.parameters bs sl ps s ks d) = after (refine_formals bs) (λ _. refine_slash bs sl (both (λ qs js. T.parameters qs s js d) (refine_formals ps) (refine_formals ks)))

  pub refine_formals : Formals → Step T.Formals
  refine_formals W.no_formals = done T.no_formals
  refine_formals (W.formal l x a d r) = three (T.formal l x) (uncounted (refine_opt a)) (refine_opt d) (refine_formals r)

  -- what stands in a target's place
  pub refine_target : Stars → Exp → Step T.Tgt
  refine_target s (W.name l x) = done (T.single (T.name_at l x))
  refine_target s (W.attribute l a x) = made (λ o. T.single (T.attribute_at l o x)) (refine_exp a)
  refine_target s (W.item l a i) = both (λ o j. T.single (T.item_at l o j)) (refine_exp a) (refine_exp i)
  refine_target s (W.tuple l es) = where_targets l es (made (T.several l T.as_tuple) (refine_targets (opened s) es))
  refine_target s (W.list l es) = where_targets l es (made (T.several l T.as_list) (refine_targets (opened s) es))
  refine_target s (W.parenthesized l (W.tuple m es)) = where_targets l es (made (T.several l T.as_tuple) (refine_targets (opened (alone s)) es))
  refine_target s (W.parenthesized l e) = if is_inside_target e then refine_target (alone s) e else stop (bad_target l)
  refine_target s (W.starred l e) = where_here l s (made (T.starred l) (refine_target (alone s) e))
  refine_target s e = stop (bad_target (exp_line e))

  pub refine_targets : Stars → Exps → Step T.Tgts
  refine_targets s W.no_exps = done T.no_targets
  refine_targets s (W.more_exps e es) = both T.more_targets (refine_target s e) (refine_targets (behind_item s e) es)

-- what stands in the place of a name, attribute or item alone
abbrev pub refine_place : Exp → Step T.Place
refine_place (W.name l x) = done (T.name_at l x)
refine_place (W.attribute l a x) = made (λ o. T.attribute_at l o x) (refine_exp a)
refine_place (W.item l a i) = both (T.item_at l) (refine_exp a) (refine_exp i)
refine_place e = stop (bad_target (exp_line e))
