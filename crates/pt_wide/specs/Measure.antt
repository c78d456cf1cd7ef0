-- How deep a wide tree is, and how many items stand in one place of it, by which its limits are told.
use Rattle.std.specs.Prelude.{ℕ, ◌+◌, max, Option, Some, None}
use Rattle.pt_tree.specs.declared.expression.NamedParameter.{NamedParameter}
use Rattle.pt_wide.specs.Syntax as S
use Rattle.pt_wide.specs.Syntax.{Exp, Exps, Opt, Pieces, Entry, Entries, Links, Args, Clauses, Params, Formals, Decorators, Items, Stm, Stms, Branches, Handlers}

-- How many expressions stand inside one another, each counted once. A chain of `and`, of `or` or of comparisons is one of them;
-- parentheses, stars, entries, arguments, clauses and the fields of an f-string are none.
abbrev mutual
  pub depth_exp : Exp → ℕ
  depth_exp (S.constant l k) = 1
  depth_exp (S.name l x) = 1
  depth_exp (S.joined l ps) = 1 + depth_pieces ps
  depth_exp (S.parenthesized l e) = depth_exp e
  depth_exp (S.starred l e) = depth_exp e
  depth_exp (S.tuple l es) = 1 + depth_all es
  depth_exp (S.list l es) = 1 + depth_all es
  depth_exp (S.set l es) = 1 + depth_all es
  depth_exp (S.dict l es) = 1 + depth_entries es
  depth_exp (S.attribute l a x) = 1 + depth_exp a
  depth_exp (S.item l a i) = 1 + max (depth_exp a) (depth_exp i)
  depth_exp (S.slice l a b c) = 1 + max (depth_opt a) (max (depth_opt b) (depth_opt c))
  depth_exp (S.unary l o a) = 1 + depth_exp a
  depth_exp (S.not_of l a) = 1 + depth_exp a
  depth_exp (S.binary l o a b) = 1 + max (depth_exp a) (depth_exp b)
  depth_exp (S.compare l a o b r) = 1 + max (depth_exp a) (max (depth_exp b) (depth_links r))
  depth_exp (S.and l a es) = 1 + max (depth_exp a) (depth_all es)
  depth_exp (S.or l a es) = 1 + max (depth_exp a) (depth_all es)
  depth_exp (S.conditional l c a b) = 1 + max (depth_exp c) (max (depth_exp a) (depth_exp b))
  depth_exp (S.call l f args) = 1 + max (depth_exp f) (depth_args args)
  depth_exp (S.lambda l ps e) = 1 + max (depth_params ps) (depth_exp e)
  depth_exp (S.comprehension l form e cs) = 1 + max (depth_exp e) (depth_clauses cs)
  depth_exp (S.dict_comprehension l g cs) = 1 + max (depth_entry g) (depth_clauses cs)
  depth_exp (S.yield l v) = 1 + depth_opt v
  depth_exp (S.yield_from l e) = 1 + depth_exp e

  pub depth_all : Exps → ℕ
  depth_all S.no_exps = 0
  depth_all (S.more_exps e es) = max (depth_exp e) (depth_all es)

  pub depth_opt : Opt → ℕ
  depth_opt S.absent = 0
  depth_opt (S.given e) = depth_exp e

  pub depth_pieces : Pieces → ℕ
  depth_pieces S.no_pieces = 0
  depth_pieces (S.literal l t r) = depth_pieces r
  depth_pieces (S.field l e c ps r) = max (depth_exp e) (max (depth_pieces ps) (depth_pieces r))

  pub depth_entry : Entry → ℕ
  depth_entry (S.pair k v) = max (depth_exp k) (depth_exp v)
  depth_entry (S.spread_entry l e) = depth_exp e

  pub depth_entries : Entries → ℕ
  depth_entries S.no_entries = 0
  depth_entries (S.more_entries g r) = max (depth_entry g) (depth_entries r)

  pub depth_links : Links → ℕ
  depth_links S.no_links = 0
  depth_links (S.link o b r) = max (depth_exp b) (depth_links r)

  pub depth_args : Args → ℕ
  depth_args S.no_args = 0
  depth_args (S.positional e r) = max (depth_exp e) (depth_args r)
  depth_args (S.named l x e r) = max (depth_exp e) (depth_args r)
  depth_args (S.spread l e r) = max (depth_exp e) (depth_args r)
  depth_args (S.spread_named l e r) = max (depth_exp e) (depth_args r)

  pub depth_clauses : Clauses → ℕ
  depth_clauses S.no_clauses = 0
  depth_clauses (S.for_each l t it cs r) = max (depth_exp t) (max (depth_exp it) (max (depth_all cs) (depth_clauses r)))

  pub depth_params : Params → ℕ
  depth_params (S.parameters bs sl ps s ks d) = max (depth_formals bs) (max (depth_formals ps) (depth_formals ks))

  pub depth_formals : Formals → ℕ
  depth_formals S.no_formals = 0
  depth_formals (S.formal l x a d r) = max (depth_opt a) (max (depth_opt d) (depth_formals r))

abbrev pub count_exps : Exps → ℕ
count_exps S.no_exps = 0
count_exps (S.more_exps e es) = 1 + count_exps es

abbrev pub count_entries : Entries → ℕ
count_entries S.no_entries = 0
count_entries (S.more_entries g r) = 1 + count_entries r

abbrev pub count_args : Args → ℕ
count_args S.no_args = 0
count_args (S.positional e r) = 1 + count_args r
count_args (S.named l x e r) = 1 + count_args r
count_args (S.spread l e r) = 1 + count_args r
count_args (S.spread_named l e r) = 1 + count_args r

abbrev pub count_formals : Formals → ℕ
count_formals S.no_formals = 0
count_formals (S.formal l x a d r) = 1 + count_formals r

abbrev pub count_named : Option NamedParameter → ℕ
count_named None = 0
count_named (Some p) = 1

abbrev pub count_params : Params → ℕ
count_params (S.parameters bs sl ps s ks d) = count_formals bs + count_formals ps + count_named s + count_formals ks + count_named d

-- The most items that one display or tuple, with its parentheses or without, one call or one list of parameters has.
abbrev mutual
  pub width_exp : Exp → ℕ
  width_exp (S.constant l k) = 0
  width_exp (S.name l x) = 0
  width_exp (S.joined l ps) = width_pieces ps
  width_exp (S.parenthesized l e) = width_exp e
  width_exp (S.starred l e) = width_exp e
  width_exp (S.tuple l es) = max (count_exps es) (width_all es)
  width_exp (S.list l es) = max (count_exps es) (width_all es)
  width_exp (S.set l es) = max (count_exps es) (width_all es)
  width_exp (S.dict l es) = max (count_entries es) (width_entries es)
  width_exp (S.attribute l a x) = width_exp a
  width_exp (S.item l a i) = max (width_exp a) (width_exp i)
  width_exp (S.slice l a b c) = max (width_opt a) (max (width_opt b) (width_opt c))
  width_exp (S.unary l o a) = width_exp a
  width_exp (S.not_of l a) = width_exp a
  width_exp (S.binary l o a b) = max (width_exp a) (width_exp b)
  width_exp (S.compare l a o b r) = max (width_exp a) (max (width_exp b) (width_links r))
  width_exp (S.and l a es) = max (width_exp a) (width_all es)
  width_exp (S.or l a es) = max (width_exp a) (width_all es)
  width_exp (S.conditional l c a b) = max (width_exp c) (max (width_exp a) (width_exp b))
  width_exp (S.call l f args) = max (width_exp f) (max (count_args args) (width_args args))
  width_exp (S.lambda l ps e) = max (width_params ps) (width_exp e)
  width_exp (S.comprehension l form e cs) = max (width_exp e) (width_clauses cs)
  width_exp (S.dict_comprehension l g cs) = max (width_entry g) (width_clauses cs)
  width_exp (S.yield l v) = width_opt v
  width_exp (S.yield_from l e) = width_exp e

  pub width_all : Exps → ℕ
  width_all S.no_exps = 0
  width_all (S.more_exps e es) = max (width_exp e) (width_all es)

  pub width_opt : Opt → ℕ
  width_opt S.absent = 0
  width_opt (S.given e) = width_exp e

  pub width_pieces : Pieces → ℕ
  width_pieces S.no_pieces = 0
  width_pieces (S.literal l t r) = width_pieces r
  width_pieces (S.field l e c ps r) = max (width_exp e) (max (width_pieces ps) (width_pieces r))

  pub width_entry : Entry → ℕ
  width_entry (S.pair k v) = max (width_exp k) (width_exp v)
  width_entry (S.spread_entry l e) = width_exp e

  pub width_entries : Entries → ℕ
  width_entries S.no_entries = 0
  width_entries (S.more_entries g r) = max (width_entry g) (width_entries r)

  pub width_links : Links → ℕ
  width_links S.no_links = 0
  width_links (S.link o b r) = max (width_exp b) (width_links r)

  pub width_args : Args → ℕ
  width_args S.no_args = 0
  width_args (S.positional e r) = max (width_exp e) (width_args r)
  width_args (S.named l x e r) = max (width_exp e) (width_args r)
  width_args (S.spread l e r) = max (width_exp e) (width_args r)
  width_args (S.spread_named l e r) = max (width_exp e) (width_args r)

  pub width_clauses : Clauses → ℕ
  width_clauses S.no_clauses = 0
  width_clauses (S.for_each l t it cs r) = max (width_exp t) (max (width_exp it) (max (width_all cs) (width_clauses r)))

  pub width_params : Params → ℕ
  width_params (S.parameters bs sl ps s ks d) = max (count_params (S.parameters bs sl ps s ks d)) (max (width_formals bs) (max (width_formals ps) (width_formals ks)))

  pub width_formals : Formals → ℕ
  width_formals S.no_formals = 0
  width_formals (S.formal l x a d r) = max (width_opt a) (max (width_opt d) (width_formals r))
