-- What each block of a script runs starts on its lines, if the script does. Expressions have no statements.
use Rattle.std.proofs.Common.{◌≡◌, ℕ, zero, suc, List, [], ◌∷◌, ◌++◌, map, Option, Some, None, subst}
use Rattle.std.specs.Prelude.{slice_get}
use Rattle.pt_tree.specs.Syntax as S
use Rattle.pt_tree.specs.Syntax.{Name, Exp, Exps, Opt, Pieces, Entries, Links, Args, Made, Clauses, Place, Tgt, Tgts, Params, Formals, Decorators, Items, Stm, Stms, Branches, Handlers, none, more}
use Rattle.pt_tree.specs.Blocks.{Block, Code, of_function, of_class, no_params, first_line_of, inside_class, blocks_exp, blocks_all, blocks_opt, blocks_pieces, blocks_entries, blocks_links, blocks_args, blocks_made, blocks_clauses, blocks_place, blocks_target, blocks_targets, blocks_params, blocks_formals, blocks_decorators, blocks_opt_target, blocks_items, blocks_stm, blocks_stms, blocks_branches, blocks_handlers, blocks_script}
use Rattle.law_jumps.specs.text_parts.OnLines.{StmOnLines, StmsOnLines, BranchesOnLines, HandlersOnLines, CodeOnLines}

abbrev just : Name → (first_line : ℕ) → (class : Option Name) → Params → Code → List Block
just x l cls ps c = record { name = x; first_line = l; class = cls; params = ps; code = c } ∷ []

abbrev AllOnLines : List Block → Type 0
AllOnLines [] = Unit {0}
AllOnLines (k ∷ ks) = CodeOnLines k.code × AllOnLines ks

together : (ks js : List Block) → AllOnLines ks → AllOnLines js → AllOnLines (ks ++ js)
together [] js h g = g
together (k ∷ ks) js h g = (h.0, together ks js h.1 g)

mutual
  exp : (e : Exp) → AllOnLines (blocks_exp e)
  exp (S.constant l k) = tt
  exp (S.name l x) = tt
  exp (S.joined l ps) = pieces ps
  exp (S.tuple l es) = exps es
  exp (S.list l es) = exps es
  exp (S.set l es) = exps es
  exp (S.dict l r) = entries r
  exp (S.attribute l a x) = exp a
  exp (S.item l a i) = together (blocks_exp a) (blocks_exp i) (exp a) (exp i)
  exp (S.slice l a b c) = together (blocks_opt a ++ blocks_opt b) (blocks_opt c) (together (blocks_opt a) (blocks_opt b) (opt a) (opt b)) (opt c)
  exp (S.unary l o a) = exp a
  exp (S.not_of l a) = exp a
  exp (S.binary l o a b) = together (blocks_exp a) (blocks_exp b) (exp a) (exp b)
  exp (S.compare l a o b r) = together (blocks_exp a ++ blocks_exp b) (blocks_links r) (together (blocks_exp a) (blocks_exp b) (exp a) (exp b)) (links r)
  exp (S.and l a es) = together (blocks_exp a) (blocks_all es) (exp a) (exps es)
  exp (S.or l a es) = together (blocks_exp a) (blocks_all es) (exp a) (exps es)
  exp (S.conditional l c a b) = together (blocks_exp a ++ blocks_exp c) (blocks_exp b) (together (blocks_exp a) (blocks_exp c) (exp a) (exp c)) (exp b)
  exp (S.call l f args) = together (blocks_exp f) (blocks_args args) (exp f) (arguments args)
  exp (S.lambda l b ps e) = (tt, together (blocks_params ps) (blocks_exp e) (params ps) (exp e))
  exp (S.comprehension l m k t it cs) =
      together (blocks_made m ++ blocks_target t ++ blocks_exp it) (blocks_clauses cs) (together (blocks_made m ++ blocks_target t) (blocks_exp it)
      (together (blocks_made m) (blocks_target t) (made m) (target t)) (exp it)) (clauses cs)
  exp (S.generator l b e k t it cs) = (
    tt,
    together (blocks_exp e ++ blocks_target t ++ blocks_exp it) (blocks_clauses cs) (together (blocks_exp e ++ blocks_target t) (blocks_exp it)
        (together (blocks_exp e) (blocks_target t) (exp e) (target t)) (exp it)) (clauses cs),
  )
  exp (S.yield l v) = opt v
  exp (S.yield_from l e) = exp e

  exps : (es : Exps) → AllOnLines (blocks_all es)
  exps S.no_exps = tt
  exps (S.more_exps e es) = together (blocks_exp e) (blocks_all es) (exp e) (exps es)

  opt : (o : Opt) → AllOnLines (blocks_opt o)
  opt S.absent = tt
  opt (S.given e) = exp e

  pieces : (ps : Pieces) → AllOnLines (blocks_pieces ps)
  pieces S.no_pieces = tt
  pieces (S.literal l t r) = pieces r
  pieces (S.field l e c ps r) =
      together (blocks_exp e ++ blocks_pieces ps) (blocks_pieces r) (together (blocks_exp e) (blocks_pieces ps) (exp e) (pieces ps)) (pieces r)

  entries : (r : Entries) → AllOnLines (blocks_entries r)
  entries S.no_entries = tt
  entries (S.entry k v r) = together (blocks_exp k ++ blocks_exp v) (blocks_entries r) (together (blocks_exp k) (blocks_exp v) (exp k) (exp v)) (entries r)

  links : (r : Links) → AllOnLines (blocks_links r)
  links S.no_links = tt
  links (S.link o b r) = together (blocks_exp b) (blocks_links r) (exp b) (links r)

  arguments : (r : Args) → AllOnLines (blocks_args r)
  arguments S.no_args = tt
  arguments (S.positional e r) = together (blocks_exp e) (blocks_args r) (exp e) (arguments r)
  arguments (S.named x e r) = together (blocks_exp e) (blocks_args r) (exp e) (arguments r)
  arguments (S.spread e r) = together (blocks_exp e) (blocks_args r) (exp e) (arguments r)
  arguments (S.spread_named e r) = together (blocks_exp e) (blocks_args r) (exp e) (arguments r)

  made : (m : Made) → AllOnLines (blocks_made m)
  made (S.a_list e) = exp e
  made (S.a_set e) = exp e
  made (S.a_dict k v) = together (blocks_exp k) (blocks_exp v) (exp k) (exp v)

  clauses : (cs : Clauses) → AllOnLines (blocks_clauses cs)
  clauses S.no_clauses = tt
  clauses (S.only_if c cs) = together (blocks_exp c) (blocks_clauses cs) (exp c) (clauses cs)
  clauses (S.for_each k t it cs) =
      together (blocks_target t ++ blocks_exp it) (blocks_clauses cs) (together (blocks_target t) (blocks_exp it) (target t) (exp it)) (clauses cs)

  place : (p : Place) → AllOnLines (blocks_place p)
  place (S.name_at l x) = tt
  place (S.attribute_at l a x) = exp a
  place (S.item_at l a i) = together (blocks_exp a) (blocks_exp i) (exp a) (exp i)

  target : (t : Tgt) → AllOnLines (blocks_target t)
  target (S.single p) = place p
  target (S.several l f ts) = targets ts
  target (S.starred l t) = target t

  targets : (ts : Tgts) → AllOnLines (blocks_targets ts)
  targets S.no_targets = tt
  targets (S.more_targets t ts) = together (blocks_target t) (blocks_targets ts) (target t) (targets ts)

  params : (ps : Params) → AllOnLines (blocks_params ps)
  params (S.parameters ps s ks d) = together (blocks_formals ps) (blocks_formals ks) (formals ps) (formals ks)

  formals : (ps : Formals) → AllOnLines (blocks_formals ps)
  formals S.no_formals = tt
  formals (S.formal l x a d r) = together (blocks_opt d) (blocks_formals r) (opt d) (formals r)

decorators : (ds : Decorators) → AllOnLines (blocks_decorators ds)
decorators S.no_decorators = tt
decorators (S.decorator l e r) = together (blocks_exp e) (blocks_decorators r) (exp e) (decorators r)

taken : (t : Option Tgt) → AllOnLines (blocks_opt_target t)
taken None = tt
taken (Some t) = target t

items : (is : Items) → AllOnLines (blocks_items is)
items S.no_items = tt
items (S.with_item l e t r) =
    together (blocks_exp e ++ blocks_opt_target t) (blocks_items r) (together (blocks_exp e) (blocks_opt_target t) (exp e) (taken t)) (items r)

-- a class around changes how names are spelled alone
within : (x : Name) (ks : List Block) → AllOnLines ks → AllOnLines (map (inside_class x) ks)
within x [] h = tt
within x (k ∷ ks) h = (h.0, within x ks h.1)

mutual
  stm : (low high : ℕ) (st : Stm) → StmOnLines low high st → AllOnLines (blocks_stm st)
  stm low high (S.expr l e) h = exp e
  stm low high (S.assign l ts e) h = together (blocks_targets ts) (blocks_exp e) (targets ts) (exp e)
  stm low high (S.augmented l p o e) h = together (blocks_place p) (blocks_exp e) (place p) (exp e)
  stm low high (S.annotated l p a v) h = together (blocks_place p) (blocks_opt v) (place p) (opt v)
  stm low high (S.assert l c m) h = together (blocks_exp c) (blocks_opt m) (exp c) (opt m)
  stm low high (S.pass l) h = tt
  stm low high (S.raise_again l) h = tt
  stm low high (S.break l) h = tt
  stm low high (S.continue l) h = tt
  stm low high (S.import l xs) h = tt
  stm low high (S.import_from l m xs) h = tt
  stm low high (S.global l xs) h = tt
  stm low high (S.nonlocal l xs) h = tt
  stm low high (S.docstring l) h = tt
  stm low high (S.del l ts) h = targets ts
  stm low high (S.return l v) h = opt v
  stm low high (S.raise l e c) h = together (blocks_exp e) (blocks_opt c) (exp e) (opt c)
  stm low high (S.choice l bs els) h = together (blocks_branches bs) (blocks_stms els) (branches low high bs h.2) (statements low high els h.3)
  stm low high (S.while l c body els) h =
      together (blocks_exp c ++ blocks_stms body) (blocks_stms els) (together (blocks_exp c) (blocks_stms body) (exp c) (statements low high body h.1))
      (statements low high els h.2)
  stm low high (S.for l t it body els) h =
      together (blocks_target t ++ blocks_exp it ++ blocks_stms body) (blocks_stms els)
      (together (blocks_target t ++ blocks_exp it) (blocks_stms body) (together (blocks_target t) (blocks_exp it) (target t) (exp it))
      (statements low high body h.1))
      (statements low high els h.2)
  stm low high (S.try l body hs els fin) h =
      let m = h.2 in
      together (blocks_stms body ++ blocks_handlers hs ++ blocks_stms els) (blocks_stms fin)
      (together (blocks_stms body ++ blocks_handlers hs) (blocks_stms els)
      (together (blocks_stms body) (blocks_handlers hs) (statements low high body h.1) (handlers low m.0 hs m.3))
      (statements m.0 high els m.4)) (statements low high fin h.3)
  stm low high (S.with l is body) h = together (blocks_items is) (blocks_stms body) (items is) (statements low high body h.1)
  stm low high (S.def l ds dl b x ps r body) h =
      let k = just x (first_line_of ds dl) None ps (of_function body) in
      together (blocks_decorators ds ++ k ++ blocks_params ps) (blocks_stms body)
      (together (blocks_decorators ds ++ k) (blocks_params ps) (together (blocks_decorators ds) k (decorators ds) ((low, high, h.1), tt)) (params ps))
      (statements low high body h.1)
  stm low high (S.class l ds cl b x base body) h =
      let k = just x (first_line_of ds cl) (Some x) no_params (of_class body) in
      together (blocks_decorators ds ++ k ++ blocks_opt base) (map (inside_class x) (blocks_stms body))
      (together (blocks_decorators ds ++ k) (blocks_opt base) (together (blocks_decorators ds) k (decorators ds) ((low, high, h.1), tt)) (opt base))
      (within x (blocks_stms body) (statements low high body h.1))

  statements : (low high : ℕ) (ss : Stms) → StmsOnLines low high ss → AllOnLines (blocks_stms ss)
  statements low high none h = tt
  statements low high (more st ss) h = together (blocks_stm st) (blocks_stms ss) (stm low high st h.0) (statements low high ss h.1)

  branches : (low high : ℕ) (bs : Branches) → BranchesOnLines low high bs → AllOnLines (blocks_branches bs)
  branches low high S.no_branches h = tt
  branches low high (S.branch l c body r) h =
      together (blocks_exp c ++ blocks_stms body) (blocks_branches r) (together (blocks_exp c) (blocks_stms body) (exp c) (statements low high body h.0))
      (branches low high r h.1)

  handlers : (low high : ℕ) (hs : Handlers) → HandlersOnLines low high hs → AllOnLines (blocks_handlers hs)
  handlers low high S.no_handlers h = tt
  handlers low high (S.handler l c x body r) h =
      together (blocks_opt c ++ blocks_stms body) (blocks_handlers r) (together (blocks_opt c) (blocks_stms body) (opt c) (statements low high body h.0))
      (handlers low high r h.1)

at : (ks : List Block) (n : ℕ) (k : Block) → AllOnLines ks → slice_get ks n ≡ Some k → CodeOnLines k.code
at [] n k h e = absurd (let no : None ≡ Some k = e in cc)
at (j ∷ ks) zero k h e = let same : j ≡ k = (let there : Some j ≡ Some k = e in cc) in subst (λ (b : Block). CodeOnLines b.code) same h.0
at (j ∷ ks) (suc n) k h e = at ks n k h.1 e

pub blocks_on_lines : (low high : ℕ) (ss : Stms) (n : ℕ) (block : Block) → StmsOnLines low high ss → slice_get (blocks_script ss) n ≡ Some block
    → CodeOnLines block.code
blocks_on_lines low high ss n block h e = at (blocks_script ss) n block ((low, high, h), statements low high ss h) e
