-- How many blocks start in a part of a wide tree: lambdas and generator expressions (Language Reference 4.1). Annotations don't run and
-- have none.
use Rattle.std.specs.Prelude.{ℕ, ◌+◌}
use Rattle.pt_wide.specs.declared.expression.Comprehension.{Comprehension}
use Rattle.pt_wide.specs.declared.expression.Comprehension.TheVariants as form
use Rattle.pt_wide.specs.Syntax as W
use Rattle.pt_wide.specs.Syntax.{Exp, Exps, Opt, Pieces, Entry, Entries, Links, Args, Clauses, Params, Formals}

abbrev pub blocks_form : Comprehension → ℕ
blocks_form form.List = 0
blocks_form form.Set = 0
blocks_form form.Generator = 1

abbrev mutual
  pub blocks_exp : Exp → ℕ
  blocks_exp (W.constant l k) = 0
  blocks_exp (W.name l x) = 0
  blocks_exp (W.joined l ps) = blocks_pieces ps
  blocks_exp (W.parenthesized l e) = blocks_exp e
  blocks_exp (W.starred l e) = blocks_exp e
  blocks_exp (W.tuple l es) = blocks_all es
  blocks_exp (W.list l es) = blocks_all es
  blocks_exp (W.set l es) = blocks_all es
  blocks_exp (W.dict l es) = blocks_entries es
  blocks_exp (W.attribute l a x) = blocks_exp a
  blocks_exp (W.item l a i) = blocks_exp a + blocks_exp i
  blocks_exp (W.slice l a b c) = blocks_opt a + blocks_opt b + blocks_opt c
  blocks_exp (W.unary l o a) = blocks_exp a
  blocks_exp (W.not_of l a) = blocks_exp a
  blocks_exp (W.binary l o a b) = blocks_exp a + blocks_exp b
  blocks_exp (W.compare l a o b r) = blocks_exp a + blocks_exp b + blocks_links r
  blocks_exp (W.and l a es) = blocks_exp a + blocks_all es
  blocks_exp (W.or l a es) = blocks_exp a + blocks_all es
  blocks_exp (W.conditional l c a b) = blocks_exp a + blocks_exp c + blocks_exp b
  blocks_exp (W.call l f args) = blocks_exp f + blocks_args args
  blocks_exp (W.lambda l ps e) = 1 + blocks_params ps + blocks_exp e
  blocks_exp (W.comprehension l form e cs) = blocks_form form + blocks_exp e + blocks_clauses cs
  blocks_exp (W.dict_comprehension l g cs) = blocks_entry g + blocks_clauses cs
  blocks_exp (W.yield l v) = blocks_opt v
  blocks_exp (W.yield_from l e) = blocks_exp e

  pub blocks_all : Exps → ℕ
  blocks_all W.no_exps = 0
  blocks_all (W.more_exps e es) = blocks_exp e + blocks_all es

  pub blocks_opt : Opt → ℕ
  blocks_opt W.absent = 0
  blocks_opt (W.given e) = blocks_exp e

  pub blocks_pieces : Pieces → ℕ
  blocks_pieces W.no_pieces = 0
  blocks_pieces (W.literal l t r) = blocks_pieces r
  blocks_pieces (W.field l e c ps r) = blocks_exp e + blocks_pieces ps + blocks_pieces r

  pub blocks_entry : Entry → ℕ
  blocks_entry (W.pair k v) = blocks_exp k + blocks_exp v
  blocks_entry (W.spread_entry l e) = blocks_exp e

  pub blocks_entries : Entries → ℕ
  blocks_entries W.no_entries = 0
  blocks_entries (W.more_entries g r) = blocks_entry g + blocks_entries r

  pub blocks_links : Links → ℕ
  blocks_links W.no_links = 0
  blocks_links (W.link o b r) = blocks_exp b + blocks_links r

  pub blocks_args : Args → ℕ
  blocks_args W.no_args = 0
  blocks_args (W.positional e r) = blocks_exp e + blocks_args r
  blocks_args (W.named l x e r) = blocks_exp e + blocks_args r
  blocks_args (W.spread l e r) = blocks_exp e + blocks_args r
  blocks_args (W.spread_named l e r) = blocks_exp e + blocks_args r

  pub blocks_clauses : Clauses → ℕ
  blocks_clauses W.no_clauses = 0
  blocks_clauses (W.for_each l t it cs r) = blocks_exp t + blocks_exp it + blocks_all cs + blocks_clauses r

  pub blocks_params : Params → ℕ
  blocks_params (W.parameters bs sl ps s ks d) = blocks_formals bs + blocks_formals ps + blocks_formals ks

  pub blocks_formals : Formals → ℕ
  blocks_formals W.no_formals = 0
  blocks_formals (W.formal l x a d r) = blocks_opt d + blocks_formals r
