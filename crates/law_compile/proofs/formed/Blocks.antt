-- What each block of a script runs is formed, if the script is.
use Rattle.std.proofs.Common.{◌≡◌, ℕ, zero, suc, List, [], ◌∷◌, ◌++◌, map, Option, Some, None, ap, subst}
use Rattle.std.specs.Prelude.{slice_get}
use Rattle.pt_tree.specs.Syntax as S
use Rattle.pt_tree.specs.Syntax.{Name, Exp, Exps, Opt, Pieces, Entries, Links, Args, Made, Clauses, Place, Tgt, Tgts, Params, Formals, Decorators, Items, Stm, Stms, Branches, Handlers, none, more}
use Rattle.pt_tree.specs.Blocks.{Block, Code, of_function, of_class, no_params, first_line_of, inside_class, blocks_exp, blocks_all, blocks_opt, blocks_pieces, blocks_entries, blocks_links, blocks_args, blocks_made, blocks_clauses, blocks_place, blocks_target, blocks_targets, blocks_params, blocks_formals, blocks_decorators, blocks_opt_target, blocks_items, blocks_stm, blocks_stms, blocks_branches, blocks_handlers, blocks_script}
use Rattle.law_compile.specs.formed.Formed.{ExpFormed, ExpsFormed, OptFormed, PiecesFormed, EntriesFormed, LinksFormed, ArgsFormed, MadeFormed, ClausesFormed, PlaceFormed, TgtFormed, TgtsFormed, ParamsFormed, FormalsFormed, DecoratorsFormed, TakenFormed, ItemsFormed, StmFormed, StmsFormed, BranchesFormed, HandlersFormed, CodeFormed}
use Rattle.law_compile.specs.formed.Laws.{BlocksAreFormed}

abbrev just : Name → (first_line : ℕ) → (class : Option Name) → Params → Code → List Block
just x l cls ps c = record { name = x; first_line = l; class = cls; params = ps; code = c } ∷ []

abbrev AllFormed : List Block → Type 0
AllFormed [] = Unit {0}
AllFormed (k ∷ ks) = CodeFormed k.code × AllFormed ks

together : (ks js : List Block) → AllFormed ks → AllFormed js → AllFormed (ks ++ js)
together [] js h g = g
together (k ∷ ks) js h g = (h.0, together ks js h.1 g)

mutual
  exp : (e : Exp) → ExpFormed e → AllFormed (blocks_exp e)
  exp (S.constant l k) h = tt
  exp (S.name l x) h = tt
  exp (S.joined l ps) h = pieces ps h
  exp (S.tuple l es) h = exps es h
  exp (S.list l es) h = exps es h
  exp (S.set l es) h = exps es h
  exp (S.dict l r) h = entries r h
  exp (S.attribute l a x) h = exp a h
  exp (S.item l a i) h = together (blocks_exp a) (blocks_exp i) (exp a h.0) (exp i h.1)
  exp (S.slice l a b c) h = together (blocks_opt a ++ blocks_opt b) (blocks_opt c) (together (blocks_opt a) (blocks_opt b) (opt a h.0) (opt b h.1)) (opt c h.2)
  exp (S.unary l o a) h = exp a h
  exp (S.not_of l a) h = exp a h
  exp (S.binary l o a b) h = together (blocks_exp a) (blocks_exp b) (exp a h.0) (exp b h.1)
  exp (S.compare l a o b r) h = together (blocks_exp a ++ blocks_exp b) (blocks_links r) (together (blocks_exp a) (blocks_exp b) (exp a h.0) (exp b h.1)) (links r h.2)
  exp (S.and l a es) h = together (blocks_exp a) (blocks_all es) (exp a h.0) (exps es h.1)
  exp (S.or l a es) h = together (blocks_exp a) (blocks_all es) (exp a h.0) (exps es h.1)
  exp (S.conditional l c a b) h = together (blocks_exp a ++ blocks_exp c) (blocks_exp b) (together (blocks_exp a) (blocks_exp c) (exp a h.1) (exp c h.0)) (exp b h.2)
  exp (S.call l f args) h = together (blocks_exp f) (blocks_args args) (exp f h.0) (arguments args h.1)
  exp (S.lambda l b ps e) h = (h.1, together (blocks_params ps) (blocks_exp e) (params ps h.0) (exp e h.1))
  exp (S.comprehension l m k t it cs) h = together (blocks_made m ++ blocks_target t ++ blocks_exp it) (blocks_clauses cs) (together (blocks_made m ++ blocks_target t) (blocks_exp it) (together (blocks_made m) (blocks_target t) (made m h.0) (target t h.1)) (exp it h.2)) (clauses cs h.3)
  exp (S.generator l b e k t it cs) h = ((h.0, h.1, h.3), together (blocks_exp e ++ blocks_target t ++ blocks_exp it) (blocks_clauses cs) (together (blocks_exp e ++ blocks_target t) (blocks_exp it) (together (blocks_exp e) (blocks_target t) (exp e h.0) (target t h.1)) (exp it h.2)) (clauses cs h.3))
  exp (S.yield l v) h = opt v h
  exp (S.yield_from l e) h = exp e h

  exps : (es : Exps) → ExpsFormed es → AllFormed (blocks_all es)
  exps S.no_exps h = tt
  exps (S.more_exps e es) h = together (blocks_exp e) (blocks_all es) (exp e h.0) (exps es h.1)

  opt : (o : Opt) → OptFormed o → AllFormed (blocks_opt o)
  opt S.absent h = tt
  opt (S.given e) h = exp e h

  pieces : (ps : Pieces) → PiecesFormed ps → AllFormed (blocks_pieces ps)
  pieces S.no_pieces h = tt
  pieces (S.literal l t r) h = pieces r h
  pieces (S.field l e c ps r) h = together (blocks_exp e ++ blocks_pieces ps) (blocks_pieces r) (together (blocks_exp e) (blocks_pieces ps) (exp e h.0) (pieces ps h.1)) (pieces r h.2)

  entries : (r : Entries) → EntriesFormed r → AllFormed (blocks_entries r)
  entries S.no_entries h = tt
  entries (S.entry k v r) h = together (blocks_exp k ++ blocks_exp v) (blocks_entries r) (together (blocks_exp k) (blocks_exp v) (exp k h.0) (exp v h.1)) (entries r h.2)

  links : (r : Links) → LinksFormed r → AllFormed (blocks_links r)
  links S.no_links h = tt
  links (S.link o b r) h = together (blocks_exp b) (blocks_links r) (exp b h.0) (links r h.1)

  arguments : (r : Args) → ArgsFormed r → AllFormed (blocks_args r)
  arguments S.no_args h = tt
  arguments (S.positional e r) h = together (blocks_exp e) (blocks_args r) (exp e h.0) (arguments r h.1)
  arguments (S.named x e r) h = together (blocks_exp e) (blocks_args r) (exp e h.1) (arguments r h.2)
  arguments (S.spread e r) h = together (blocks_exp e) (blocks_args r) (exp e h.0) (arguments r h.1)
  arguments (S.spread_named e r) h = together (blocks_exp e) (blocks_args r) (exp e h.0) (arguments r h.1)

  made : (m : Made) → MadeFormed m → AllFormed (blocks_made m)
  made (S.a_list e) h = exp e h
  made (S.a_set e) h = exp e h
  made (S.a_dict k v) h = together (blocks_exp k) (blocks_exp v) (exp k h.0) (exp v h.1)

  clauses : (cs : Clauses) → ClausesFormed cs → AllFormed (blocks_clauses cs)
  clauses S.no_clauses h = tt
  clauses (S.only_if c cs) h = together (blocks_exp c) (blocks_clauses cs) (exp c h.0) (clauses cs h.1)
  clauses (S.for_each k t it cs) h = together (blocks_target t ++ blocks_exp it) (blocks_clauses cs) (together (blocks_target t) (blocks_exp it) (target t h.0) (exp it h.1)) (clauses cs h.2)

  place : (p : Place) → PlaceFormed p → AllFormed (blocks_place p)
  place (S.name_at l x) h = tt
  place (S.attribute_at l a x) h = exp a h
  place (S.item_at l a i) h = together (blocks_exp a) (blocks_exp i) (exp a h.0) (exp i h.1)

  target : (t : Tgt) → TgtFormed t → AllFormed (blocks_target t)
  target (S.single p) h = place p h
  target (S.several l f ts) h = targets ts h
  target (S.starred l t) h = target t h

  targets : (ts : Tgts) → TgtsFormed ts → AllFormed (blocks_targets ts)
  targets S.no_targets h = tt
  targets (S.more_targets t ts) h = together (blocks_target t) (blocks_targets ts) (target t h.0) (targets ts h.1)

  params : (ps : Params) → ParamsFormed ps → AllFormed (blocks_params ps)
  params (S.parameters ps s ks d) h = together (blocks_formals ps) (blocks_formals ks) (formals ps h.0) (formals ks h.1)

  formals : (ps : Formals) → FormalsFormed ps → AllFormed (blocks_formals ps)
  formals S.no_formals h = tt
  formals (S.formal l x a d r) h = together (blocks_opt d) (blocks_formals r) (opt d h.0) (formals r h.1)

decorators : (ds : Decorators) → DecoratorsFormed ds → AllFormed (blocks_decorators ds)
decorators S.no_decorators h = tt
decorators (S.decorator l e r) h = together (blocks_exp e) (blocks_decorators r) (exp e h.0) (decorators r h.1)

taken : (t : Option Tgt) → TakenFormed t → AllFormed (blocks_opt_target t)
taken None h = tt
taken (Some t) h = target t h

items : (is : Items) → ItemsFormed is → AllFormed (blocks_items is)
items S.no_items h = tt
items (S.with_item l e t r) h = together (blocks_exp e ++ blocks_opt_target t) (blocks_items r) (together (blocks_exp e) (blocks_opt_target t) (exp e h.0) (taken t h.1)) (items r h.2)

-- a class around changes how names are spelled alone
within : (x : Name) (ks : List Block) → AllFormed ks → AllFormed (map (inside_class x) ks)
within x [] h = tt
within x (k ∷ ks) h = (h.0, within x ks h.1)

mutual
  stm : (st : Stm) → StmFormed st → AllFormed (blocks_stm st)
  stm (S.expr l e) h = exp e h
  stm (S.assign l ts e) h = together (blocks_targets ts) (blocks_exp e) (targets ts h.0) (exp e h.1)
  stm (S.augmented l p o e) h = together (blocks_place p) (blocks_exp e) (place p h.0) (exp e h.1)
  stm (S.annotated l p a v) h = together (blocks_place p) (blocks_opt v) (place p h.0) (opt v h.1)
  stm (S.assert l c m) h = together (blocks_exp c) (blocks_opt m) (exp c h.0) (opt m h.1)
  stm (S.pass l) h = tt
  stm (S.raise_again l) h = tt
  stm (S.break l) h = tt
  stm (S.continue l) h = tt
  stm (S.import l xs) h = tt
  stm (S.import_from l m xs) h = tt
  stm (S.global l xs) h = tt
  stm (S.nonlocal l xs) h = tt
  stm (S.docstring l) h = tt
  stm (S.del l ts) h = targets ts h
  stm (S.return l v) h = opt v h
  stm (S.raise l e c) h = together (blocks_exp e) (blocks_opt c) (exp e h.0) (opt c h.1)
  stm (S.choice l bs els) h = together (blocks_branches bs) (blocks_stms els) (branches bs h.0) (statements els h.1)
  stm (S.while l c body els) h = together (blocks_exp c ++ blocks_stms body) (blocks_stms els) (together (blocks_exp c) (blocks_stms body) (exp c h.0) (statements body h.1)) (statements els h.2)
  stm (S.for l t it body els) h = together (blocks_target t ++ blocks_exp it ++ blocks_stms body) (blocks_stms els) (together (blocks_target t ++ blocks_exp it) (blocks_stms body) (together (blocks_target t) (blocks_exp it) (target t h.0) (exp it h.1)) (statements body h.2)) (statements els h.3)
  stm (S.try l body hs els fin) h = together (blocks_stms body ++ blocks_handlers hs ++ blocks_stms els) (blocks_stms fin) (together (blocks_stms body ++ blocks_handlers hs) (blocks_stms els) (together (blocks_stms body) (blocks_handlers hs) (statements body h.1) (handlers hs h.2)) (statements els h.3)) (statements fin h.4)
  stm (S.with l is body) h = together (blocks_items is) (blocks_stms body) (items is h.1) (statements body h.2)
  stm (S.def l ds dl b x ps r body) h =
      let k = just x (first_line_of ds dl) None ps (of_function body) in
      together (blocks_decorators ds ++ k ++ blocks_params ps) (blocks_stms body) (together (blocks_decorators ds ++ k) (blocks_params ps) (together (blocks_decorators ds) k (decorators ds h.0) (h.2, tt)) (params ps h.1)) (statements body h.2)
  stm (S.class l ds cl b x base body) h =
      let k = just x (first_line_of ds cl) (Some x) no_params (of_class body) in
      together (blocks_decorators ds ++ k ++ blocks_opt base) (map (inside_class x) (blocks_stms body)) (together (blocks_decorators ds ++ k) (blocks_opt base) (together (blocks_decorators ds) k (decorators ds h.0) (h.2, tt)) (opt base h.1)) (within x (blocks_stms body) (statements body h.2))

  statements : (ss : Stms) → StmsFormed ss → AllFormed (blocks_stms ss)
  statements none h = tt
  statements (more st ss) h = together (blocks_stm st) (blocks_stms ss) (stm st h.0) (statements ss h.1)

  branches : (bs : Branches) → BranchesFormed bs → AllFormed (blocks_branches bs)
  branches S.no_branches h = tt
  branches (S.branch l c body r) h = together (blocks_exp c ++ blocks_stms body) (blocks_branches r) (together (blocks_exp c) (blocks_stms body) (exp c h.0) (statements body h.1)) (branches r h.2)

  handlers : (hs : Handlers) → HandlersFormed hs → AllFormed (blocks_handlers hs)
  handlers S.no_handlers h = tt
  handlers (S.handler l c x body r) h = together (blocks_opt c ++ blocks_stms body) (blocks_handlers r) (together (blocks_opt c) (blocks_stms body) (opt c h.0) (statements body h.1)) (handlers r h.2)

at : (ks : List Block) (n : ℕ) (k : Block) → AllFormed ks → slice_get ks n ≡ Some k → CodeFormed k.code
at [] n k h e = absurd (let no : None ≡ Some k = e in cc)
at (j ∷ ks) zero k h e = let same : j ≡ k = (let there : Some j ≡ Some k = e in cc) in subst (λ (b : Block). CodeFormed b.code) same h.0
at (j ∷ ks) (suc n) k h e = at ks n k h.1 e

pub blocks_are_formed : BlocksAreFormed
blocks_are_formed ss n block h e = at (blocks_script ss) n block (h, statements ss h) e
