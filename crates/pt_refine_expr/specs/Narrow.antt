-- What a node of a wide tree is in the tree of the language; `None` where the plain grammar doesn't allow it (Language Reference 6,
-- 7.2). Parentheses vanish, and each block has the number of blocks that start before it, the module being one of them.
use Rattle.std.specs.Prelude.{ℕ, ◌+◌, Option, Some, None, option_map, if◌then◌else◌}
use Rattle.pt_base.specs.declared.operators.BinOp.{BinOp}
use Rattle.pt_wide.specs.declared.expression.WideBinOp.{WideBinOp}
use Rattle.pt_wide.specs.declared.expression.WideBinOp.TheVariants as operator
use Rattle.pt_wide.specs.declared.expression.Comprehension.{Comprehension}
use Rattle.pt_wide.specs.declared.expression.Comprehension.TheVariants as form
use Rattle.pt_refine_expr.specs.declared.stars.Stars.{Stars}
use Rattle.pt_refine_expr.specs.declared.stars.Stars.TheVariants.{Never, Inside, Here}
use Rattle.pt_tree.specs.Syntax as T
use Rattle.pt_wide.specs.Syntax as W
use Rattle.pt_wide.specs.Syntax.{Exp, Exps, Opt, Pieces, Entry, Entries, Links, Args, Clauses, Params, Formals}
use Rattle.pt_refine_expr.specs.Targets.{alone, opened, behind_item, are_targets, is_inside_target}
use Rattle.pt_refine_expr.specs.Blocks.{blocks_exp, blocks_all, blocks_opt, blocks_pieces, blocks_entry, blocks_params, blocks_formals}
use Rattle.pt_refine_expr.specs.Ways.{both, three, four}

abbrev pub narrow_operator : WideBinOp → Option BinOp
narrow_operator (operator.Plain o) = Some o
narrow_operator operator.MatMul = None

abbrev pub if_here : {A : Type 0} → Stars → Option A → Option A
if_here Never a = None
if_here Inside a = None
if_here Here a = a

-- the conditions of a clause, each for itself, and what is behind them
abbrev pub conditions : T.Exps → T.Clauses → T.Clauses
conditions T.no_exps r = r
conditions (T.more_exps e es) r = T.only_if e (conditions es r)

abbrev pub clause : (line : ℕ) → T.Tgt → T.Exp → T.Exps → T.Clauses → T.Clauses
clause l t it cs r = T.for_each l t it (conditions cs r)

abbrev pub comprehension_of : (line : ℕ) → T.Made → T.Clauses → Option T.Exp
comprehension_of l m T.no_clauses = None
comprehension_of l m (T.only_if c cs) = None
comprehension_of l m (T.for_each fl t it cs) = Some (T.comprehension l m fl t it cs)

abbrev pub comprehension : (line : ℕ) → Option T.Made → Option T.Clauses → Option T.Exp
comprehension l None cs = None
comprehension l (Some m) None = None
comprehension l (Some m) (Some cs) = comprehension_of l m cs

abbrev pub generator_of : (line block : ℕ) → T.Exp → T.Clauses → Option T.Exp
generator_of l b e T.no_clauses = None
generator_of l b e (T.only_if c cs) = None
generator_of l b e (T.for_each fl t it cs) = Some (T.generator l b e fl t it cs)

abbrev pub generator : (line block : ℕ) → Option T.Exp → Option T.Clauses → Option T.Exp
generator l b None cs = None
generator l b (Some e) None = None
generator l b (Some e) (Some cs) = generator_of l b e cs

-- a key and its value
pub record Pair : Type 0 where
  pub key : T.Exp
  pub value : T.Exp

abbrev pub pair : T.Exp → T.Exp → Pair
pair k v = record { key = k; value = v }

abbrev pub entry : Pair → T.Entries → T.Entries
entry p r = T.entry p.key p.value r

abbrev pub made : Pair → T.Made
made p = T.a_dict p.key p.value

abbrev mutual
  pub narrow_exp : (before : ℕ) → Exp → Option T.Exp
  narrow_exp n (W.constant l k) = Some (T.constant l k)
  narrow_exp n (W.name l x) = Some (T.name l x)
  narrow_exp n (W.joined l ps) = option_map (T.joined l) (narrow_pieces n ps)
  -- what has no brackets of its own starts at the parenthesis
  narrow_exp n (W.parenthesized l (W.tuple m es)) = option_map (T.tuple l) (narrow_all n es)
  narrow_exp n (W.parenthesized l (W.comprehension m form.Generator e cs)) = generator l n (narrow_exp (1 + n) e) (narrow_clauses (1 + n + blocks_exp e) cs)
  narrow_exp n (W.parenthesized l e) = narrow_exp n e
  narrow_exp n (W.starred l e) = None
  narrow_exp n (W.tuple l es) = option_map (T.tuple l) (narrow_all n es)
  narrow_exp n (W.list l es) = option_map (T.list l) (narrow_all n es)
  narrow_exp n (W.set l es) = option_map (T.set l) (narrow_all n es)
  narrow_exp n (W.dict l es) = option_map (T.dict l) (narrow_entries n es)
  narrow_exp n (W.attribute l a x) = option_map (λ o. T.attribute l o x) (narrow_exp n a)
  narrow_exp n (W.item l a i) = both (T.item l) (narrow_exp n a) (narrow_exp (n + blocks_exp a) i)
  narrow_exp n (W.slice l a b c) = three (T.slice l) (narrow_opt n a) (narrow_opt (n + blocks_opt a) b) (narrow_opt (n + blocks_opt a + blocks_opt b) c)
  narrow_exp n (W.unary l o a) = option_map (T.unary l o) (narrow_exp n a)
  narrow_exp n (W.not_of l a) = option_map (T.not_of l) (narrow_exp n a)
  narrow_exp n (W.binary l o a b) = three (T.binary l) (narrow_operator o) (narrow_exp n a) (narrow_exp (n + blocks_exp a) b)
  narrow_exp n (W.compare l a o b r) = three (λ x y. T.compare l x o y) (narrow_exp n a) (narrow_exp (n + blocks_exp a) b) (narrow_links (n + blocks_exp a + blocks_exp b) r)
  narrow_exp n (W.and l a es) = both (T.and l) (narrow_exp n a) (narrow_all (n + blocks_exp a) es)
  narrow_exp n (W.or l a es) = both (T.or l) (narrow_exp n a) (narrow_all (n + blocks_exp a) es)
  -- the body of a conditional expression is written before its test
  narrow_exp n (W.conditional l c a b) = three (λ x y. T.conditional l y x) (narrow_exp n a) (narrow_exp (n + blocks_exp a) c) (narrow_exp (n + blocks_exp a + blocks_exp c) b)
  narrow_exp n (W.call l f args) = both (T.call l) (narrow_exp n f) (narrow_args (n + blocks_exp f) args)
  narrow_exp n (W.lambda l ps e) = both (T.lambda l n) (narrow_params (1 + n) ps) (narrow_exp (1 + n + blocks_params ps) e)
  narrow_exp n (W.comprehension l form.List e cs) = comprehension l (option_map T.a_list (narrow_exp n e)) (narrow_clauses (n + blocks_exp e) cs)
  narrow_exp n (W.comprehension l form.Set e cs) = comprehension l (option_map T.a_set (narrow_exp n e)) (narrow_clauses (n + blocks_exp e) cs)
  narrow_exp n (W.comprehension l form.Generator e cs) = generator l n (narrow_exp (1 + n) e) (narrow_clauses (1 + n + blocks_exp e) cs)
  narrow_exp n (W.dict_comprehension l g cs) = comprehension l (option_map made (narrow_pair n g)) (narrow_clauses (n + blocks_entry g) cs)
  narrow_exp n (W.yield l v) = option_map (T.yield l) (narrow_opt n v)
  narrow_exp n (W.yield_from l e) = option_map (T.yield_from l) (narrow_exp n e)

  pub narrow_all : (before : ℕ) → Exps → Option T.Exps
  narrow_all n W.no_exps = Some T.no_exps
  narrow_all n (W.more_exps e es) = both T.more_exps (narrow_exp n e) (narrow_all (n + blocks_exp e) es)

  pub narrow_opt : (before : ℕ) → Opt → Option T.Opt
  narrow_opt n W.absent = Some T.absent
  narrow_opt n (W.given e) = option_map T.given (narrow_exp n e)

  pub narrow_pieces : (before : ℕ) → Pieces → Option T.Pieces
  narrow_pieces n W.no_pieces = Some T.no_pieces
  narrow_pieces n (W.literal l t r) = option_map (T.literal l t) (narrow_pieces n r)
  narrow_pieces n (W.field l e c ps r) = three (λ x. T.field l x c) (narrow_exp n e) (narrow_pieces (n + blocks_exp e) ps) (narrow_pieces (n + blocks_exp e + blocks_pieces ps) r)

  pub narrow_pair : (before : ℕ) → Entry → Option Pair
  narrow_pair n (W.pair k v) = both pair (narrow_exp n k) (narrow_exp (n + blocks_exp k) v)
  narrow_pair n (W.spread_entry l e) = None

  pub narrow_entries : (before : ℕ) → Entries → Option T.Entries
  narrow_entries n W.no_entries = Some T.no_entries
  narrow_entries n (W.more_entries g r) = both entry (narrow_pair n g) (narrow_entries (n + blocks_entry g) r)

  pub narrow_links : (before : ℕ) → Links → Option T.Links
  narrow_links n W.no_links = Some T.no_links
  narrow_links n (W.link o b r) = both (T.link o) (narrow_exp n b) (narrow_links (n + blocks_exp b) r)

  pub narrow_args : (before : ℕ) → Args → Option T.Args
  narrow_args n W.no_args = Some T.no_args
  narrow_args n (W.positional e r) = both T.positional (narrow_exp n e) (narrow_args (n + blocks_exp e) r)
  narrow_args n (W.named l x e r) = both (T.named x) (narrow_exp n e) (narrow_args (n + blocks_exp e) r)
  narrow_args n (W.spread l e r) = both T.spread (narrow_exp n e) (narrow_args (n + blocks_exp e) r)
  narrow_args n (W.spread_named l e r) = both T.spread_named (narrow_exp n e) (narrow_args (n + blocks_exp e) r)

  pub narrow_clauses : (before : ℕ) → Clauses → Option T.Clauses
  narrow_clauses n W.no_clauses = Some T.no_clauses
  narrow_clauses n (W.for_each l t it cs r) = four (clause l) (narrow_target n Inside t) (narrow_exp (n + blocks_exp t) it) (narrow_all (n + blocks_exp t + blocks_exp it) cs) (narrow_clauses (n + blocks_exp t + blocks_exp it + blocks_all cs) r)

  -- without a `/`, before which there would be parameters
  pub narrow_params : (before : ℕ) → Params → Option T.Params
  narrow_params n (W.parameters W.no_formals None ps s ks d) = both (λ qs js. T.parameters qs s js d) (narrow_formals n ps) (narrow_formals (n + blocks_formals ps) ks)
  narrow_params n (W.parameters bs sl ps s ks d) = None

  pub narrow_formals : (before : ℕ) → Formals → Option T.Formals
  narrow_formals n W.no_formals = Some T.no_formals
  narrow_formals n (W.formal l x a d r) = three (T.formal l x) (narrow_opt n a) (narrow_opt n d) (narrow_formals (n + blocks_opt d) r)

  -- what stands in a target's place
  pub narrow_target : (before : ℕ) → Stars → Exp → Option T.Tgt
  narrow_target n s (W.name l x) = Some (T.single (T.name_at l x))
  narrow_target n s (W.attribute l a x) = option_map (λ o. T.single (T.attribute_at l o x)) (narrow_exp n a)
  narrow_target n s (W.item l a i) = both (λ o j. T.single (T.item_at l o j)) (narrow_exp n a) (narrow_exp (n + blocks_exp a) i)
  narrow_target n s (W.tuple l es) = if are_targets es then option_map (T.several l T.as_tuple) (narrow_targets n (opened s) es) else None
  narrow_target n s (W.list l es) = if are_targets es then option_map (T.several l T.as_list) (narrow_targets n (opened s) es) else None
  narrow_target n s (W.parenthesized l (W.tuple m es)) = if are_targets es then option_map (T.several l T.as_tuple) (narrow_targets n (opened s) es) else None
  narrow_target n s (W.parenthesized l e) = if is_inside_target e then narrow_target n (alone s) e else None
  narrow_target n s (W.starred l e) = if_here s (option_map (T.starred l) (narrow_target n (alone s) e))
  narrow_target n s e = None

  pub narrow_targets : (before : ℕ) → Stars → Exps → Option T.Tgts
  narrow_targets n s W.no_exps = Some T.no_targets
  narrow_targets n s (W.more_exps e es) = both T.more_targets (narrow_target n s e) (narrow_targets (n + blocks_exp e) (behind_item s e) es)

-- what stands in the place of a name, attribute or item alone
abbrev pub narrow_place : (before : ℕ) → Exp → Option T.Place
narrow_place n (W.name l x) = Some (T.name_at l x)
narrow_place n (W.attribute l a x) = option_map (λ o. T.attribute_at l o x) (narrow_exp n a)
narrow_place n (W.item l a i) = both (T.item_at l) (narrow_exp n a) (narrow_exp (n + blocks_exp a) i)
narrow_place n e = None

abbrev pub bare_line : Comprehension → (around own : ℕ) → ℕ
bare_line form.List l m = m
bare_line form.Set l m = m
bare_line form.Generator l m = l

-- what stands in parentheses that start on the line
abbrev pub narrow_bare : (line before : ℕ) → Exp → Option T.Exp
narrow_bare l n (W.tuple m es) = narrow_exp n (W.tuple l es)
narrow_bare l n (W.comprehension m form e cs) = narrow_exp n (W.comprehension (bare_line form l m) form e cs)
narrow_bare l n e = narrow_exp n e
