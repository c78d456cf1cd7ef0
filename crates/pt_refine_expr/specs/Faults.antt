-- The nodes of a wide tree that the plain grammar doesn't allow, in source order (Language Reference 6, 7.2). A node starts no later
-- than what is in it, so the first of them is the one that starts first.
use Rattle.std.specs.Prelude.{ℕ, Bool, true, false, List, [], ◌∷◌, ◌++◌, Option, Some, None, if◌then◌else◌}
use Rattle.pt_wide.specs.declared.expression.WideBinOp.{WideBinOp}
use Rattle.pt_wide.specs.declared.expression.WideBinOp.TheVariants as operator
use Rattle.pt_refine_expr.specs.declared.stars.Stars.{Stars}
use Rattle.pt_refine_expr.specs.declared.stars.Stars.TheVariants.{Never, Inside, Here}
use Rattle.pt_wide.specs.Syntax as W
use Rattle.pt_wide.specs.Syntax.{Exp, Exps, Opt, Pieces, Entry, Entries, Links, Args, Clauses, Params, Formals}
use Rattle.pt_refine_expr.specs.Targets.{alone, opened, behind_item, are_targets, is_inside_target, exp_line}

-- a node in a target's place that can't stand there, and a form that is left out of the language, with the line on which it starts
pub data Fault : Type 0 where
  bad_target : (line : ℕ) → Fault
  excluded : (line : ℕ) → Fault

abbrev pub is_clean : List Fault → Bool
is_clean [] = true
is_clean (f ∷ fs) = false

-- `@`
abbrev pub faults_operator : (line : ℕ) → WideBinOp → List Fault
faults_operator l (operator.Plain o) = []
faults_operator l operator.MatMul = excluded l ∷ []

-- `/` among parameters; no tokens are parameters before one that isn't there
abbrev pub faults_slash : Formals → Option ℕ → List Fault
faults_slash bs (Some l) = excluded l ∷ []
faults_slash W.no_formals None = []
faults_slash (W.formal l x a d r) None = excluded l ∷ []

-- no tokens are a comprehension without a clause
abbrev pub faults_missing : (line : ℕ) → Clauses → List Fault
faults_missing l W.no_clauses = excluded l ∷ []
faults_missing l (W.for_each fl t it cs r) = []

-- a star where none may stand
abbrev pub faults_star : (line : ℕ) → Stars → List Fault
faults_star l Never = bad_target l ∷ []
faults_star l Inside = bad_target l ∷ []
faults_star l Here = []

abbrev mutual
  pub faults_exp : Exp → List Fault
  faults_exp (W.constant l k) = []
  faults_exp (W.name l x) = []
  faults_exp (W.joined l ps) = faults_pieces ps
  faults_exp (W.parenthesized l e) = faults_exp e
  -- a star outside of targets, calls and parameters
  faults_exp (W.starred l e) = excluded l ∷ faults_exp e
  faults_exp (W.tuple l es) = faults_all es
  faults_exp (W.list l es) = faults_all es
  faults_exp (W.set l es) = faults_all es
  faults_exp (W.dict l es) = faults_entries es
  faults_exp (W.attribute l a x) = faults_exp a
  faults_exp (W.item l a i) = faults_exp a ++ faults_exp i
  faults_exp (W.slice l a b c) = faults_opt a ++ faults_opt b ++ faults_opt c
  faults_exp (W.unary l o a) = faults_exp a
  faults_exp (W.not_of l a) = faults_exp a
  faults_exp (W.binary l o a b) = faults_operator l o ++ faults_exp a ++ faults_exp b
  faults_exp (W.compare l a o b r) = faults_exp a ++ faults_exp b ++ faults_links r
  faults_exp (W.and l a es) = faults_exp a ++ faults_all es
  faults_exp (W.or l a es) = faults_exp a ++ faults_all es
  faults_exp (W.conditional l c a b) = faults_exp a ++ faults_exp c ++ faults_exp b
  faults_exp (W.call l f args) = faults_exp f ++ faults_args args
  faults_exp (W.lambda l ps e) = faults_params ps ++ faults_exp e
  faults_exp (W.comprehension l form e cs) = faults_missing l cs ++ faults_exp e ++ faults_clauses cs
  faults_exp (W.dict_comprehension l g cs) = faults_missing l cs ++ faults_entry g ++ faults_clauses cs
  faults_exp (W.yield l v) = faults_opt v
  faults_exp (W.yield_from l e) = faults_exp e

  pub faults_all : Exps → List Fault
  faults_all W.no_exps = []
  faults_all (W.more_exps e es) = faults_exp e ++ faults_all es

  pub faults_opt : Opt → List Fault
  faults_opt W.absent = []
  faults_opt (W.given e) = faults_exp e

  pub faults_pieces : Pieces → List Fault
  faults_pieces W.no_pieces = []
  faults_pieces (W.literal l t r) = faults_pieces r
  faults_pieces (W.field l e c ps r) = faults_exp e ++ faults_pieces ps ++ faults_pieces r

  -- `**` in the display of a dictionary
  pub faults_entry : Entry → List Fault
  faults_entry (W.pair k v) = faults_exp k ++ faults_exp v
  faults_entry (W.spread_entry l e) = excluded l ∷ faults_exp e

  pub faults_entries : Entries → List Fault
  faults_entries W.no_entries = []
  faults_entries (W.more_entries g r) = faults_entry g ++ faults_entries r

  pub faults_links : Links → List Fault
  faults_links W.no_links = []
  faults_links (W.link o b r) = faults_exp b ++ faults_links r

  pub faults_args : Args → List Fault
  faults_args W.no_args = []
  faults_args (W.positional e r) = faults_exp e ++ faults_args r
  faults_args (W.named l x e r) = faults_exp e ++ faults_args r
  faults_args (W.spread l e r) = faults_exp e ++ faults_args r
  faults_args (W.spread_named l e r) = faults_exp e ++ faults_args r

  pub faults_clauses : Clauses → List Fault
  faults_clauses W.no_clauses = []
  faults_clauses (W.for_each l t it cs r) = faults_target Inside t ++ faults_exp it ++ faults_all cs ++ faults_clauses r

  pub faults_params : Params → List Fault
  faults_params (W.parameters bs sl ps s ks d) = faults_formals bs ++ faults_slash bs sl ++ faults_formals ps ++ faults_formals ks

  pub faults_formals : Formals → List Fault
  faults_formals W.no_formals = []
  faults_formals (W.formal l x a d r) = faults_opt a ++ faults_opt d ++ faults_formals r

  -- What stands in a target's place, by the first form of a target that it has. Where it has none it is the fault, and what is in
  -- it counts no more.
  pub faults_target : Stars → Exp → List Fault
  faults_target s (W.name l x) = []
  faults_target s (W.attribute l a x) = faults_exp a
  faults_target s (W.item l a i) = faults_exp a ++ faults_exp i
  faults_target s (W.tuple l es) = if are_targets es then faults_targets (opened s) es else bad_target l ∷ []
  faults_target s (W.list l es) = if are_targets es then faults_targets (opened s) es else bad_target l ∷ []
  faults_target s (W.parenthesized l e) = if is_inside_target e then faults_target (alone s) e else bad_target l ∷ []
  faults_target s (W.starred l e) = faults_star l s ++ faults_target (alone s) e
  faults_target s e = bad_target (exp_line e) ∷ []

  pub faults_targets : Stars → Exps → List Fault
  faults_targets s W.no_exps = []
  faults_targets s (W.more_exps e es) = faults_target s e ++ faults_targets (behind_item s e) es

-- what stands in the place of a name, attribute or item alone
abbrev pub faults_place : Exp → List Fault
faults_place (W.name l x) = []
faults_place (W.attribute l a x) = faults_exp a
faults_place (W.item l a i) = faults_exp a ++ faults_exp i
faults_place e = bad_target (exp_line e) ∷ []
