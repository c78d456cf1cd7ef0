-- The blocks of expressions are lambdas and generator expressions, whose names are given.
use Rattle.std.proofs.Common.{List, [], ◌∷◌, ◌++◌}
use Rattle.std.specs.Prelude.{Option, Some, None, codes}
use Rattle.std.specs.List.{AllByRecursion}
use Rattle.pt_tree.specs.Syntax as S
use Rattle.pt_tree.specs.Syntax.{Name, Exp, Exps, Opt, Pieces, Entries, Links, Args, Made, Clauses, Place, Tgt, Tgts, Params, Formals, Decorators, Items}
use Rattle.pt_tree.specs.Blocks.{Block, blocks_exp, blocks_all, blocks_opt, blocks_pieces, blocks_entries, blocks_links, blocks_args, blocks_made, blocks_clauses, blocks_place, blocks_target, blocks_targets, blocks_params, blocks_formals, blocks_decorators, blocks_opt_target, blocks_items}

module _ (P : Name → Type 0) where
  abbrev pub AreNamed : List Block → Type 0
  AreNamed bs = AllByRecursion (λ (b : Block). P b.name) bs

  pub two : (bs cs : List Block) → AreNamed bs → AreNamed cs → AreNamed (bs ++ cs)
  two [] cs h k = k
  two (b ∷ bs) cs h k = (h.0, two bs cs h.1 k)

  pub three : (bs cs ds : List Block) → AreNamed bs → AreNamed cs → AreNamed ds → AreNamed (bs ++ cs ++ ds)
  three bs cs ds h k i = two (bs ++ cs) ds (two bs cs h k) i

  pub four : (bs cs ds es : List Block) → AreNamed bs → AreNamed cs → AreNamed ds → AreNamed es → AreNamed (bs ++ cs ++ ds ++ es)
  four bs cs ds es h k i j = two (bs ++ cs ++ ds) es (three bs cs ds h k i) j

  module _ (lambda : P (codes "<lambda>")) (generator : P (codes "<genexpr>")) where
    mutual
      pub exp : (e : Exp) → AreNamed (blocks_exp e)
      exp (S.constant l k) = tt
      exp (S.name l x) = tt
      exp (S.joined l ps) = pieces ps
      exp (S.tuple l es) = exps es
      exp (S.list l es) = exps es
      exp (S.set l es) = exps es
      exp (S.dict l es) = entries es
      exp (S.attribute l a x) = exp a
      exp (S.item l a i) = two (blocks_exp a) (blocks_exp i) (exp a) (exp i)
      exp (S.slice l a b c) = three (blocks_opt a) (blocks_opt b) (blocks_opt c) (opt a) (opt b) (opt c)
      exp (S.unary l o a) = exp a
      exp (S.not_of l a) = exp a
      exp (S.binary l o a b) = two (blocks_exp a) (blocks_exp b) (exp a) (exp b)
      exp (S.compare l a o b r) = three (blocks_exp a) (blocks_exp b) (blocks_links r) (exp a) (exp b) (links r)
      exp (S.and l a es) = two (blocks_exp a) (blocks_all es) (exp a) (exps es)
      exp (S.or l a es) = two (blocks_exp a) (blocks_all es) (exp a) (exps es)
      exp (S.conditional l c a b) = three (blocks_exp a) (blocks_exp c) (blocks_exp b) (exp a) (exp c) (exp b)
      exp (S.call l f args) = two (blocks_exp f) (blocks_args args) (exp f) (arguments args)
      exp (S.lambda l b ps e) = (lambda, two (blocks_params ps) (blocks_exp e) (params ps) (exp e))
      exp (S.comprehension l m fl t it cs) =
          four (blocks_made m) (blocks_target t) (blocks_exp it) (blocks_clauses cs) (made m) (target t) (exp it) (clauses cs)
      exp (S.generator l b e fl t it cs) = (
        generator,
        four (blocks_exp e) (blocks_target t) (blocks_exp it) (blocks_clauses cs) (exp e) (target t) (exp it) (clauses cs),
      )
      exp (S.yield l v) = opt v
      exp (S.yield_from l e) = exp e

      pub exps : (es : Exps) → AreNamed (blocks_all es)
      exps S.no_exps = tt
      exps (S.more_exps e es) = two (blocks_exp e) (blocks_all es) (exp e) (exps es)

      pub opt : (o : Opt) → AreNamed (blocks_opt o)
      opt S.absent = tt
      opt (S.given e) = exp e

      pieces : (ps : Pieces) → AreNamed (blocks_pieces ps)
      pieces S.no_pieces = tt
      pieces (S.literal l t r) = pieces r
      pieces (S.field l e c ps r) = three (blocks_exp e) (blocks_pieces ps) (blocks_pieces r) (exp e) (pieces ps) (pieces r)

      entries : (es : Entries) → AreNamed (blocks_entries es)
      entries S.no_entries = tt
      entries (S.entry k v r) = three (blocks_exp k) (blocks_exp v) (blocks_entries r) (exp k) (exp v) (entries r)

      links : (r : Links) → AreNamed (blocks_links r)
      links S.no_links = tt
      links (S.link o b r) = two (blocks_exp b) (blocks_links r) (exp b) (links r)

      arguments : (r : Args) → AreNamed (blocks_args r)
      arguments S.no_args = tt
      arguments (S.positional e r) = two (blocks_exp e) (blocks_args r) (exp e) (arguments r)
      arguments (S.named x e r) = two (blocks_exp e) (blocks_args r) (exp e) (arguments r)
      arguments (S.spread e r) = two (blocks_exp e) (blocks_args r) (exp e) (arguments r)
      arguments (S.spread_named e r) = two (blocks_exp e) (blocks_args r) (exp e) (arguments r)

      made : (m : Made) → AreNamed (blocks_made m)
      made (S.a_list e) = exp e
      made (S.a_set e) = exp e
      made (S.a_dict k v) = two (blocks_exp k) (blocks_exp v) (exp k) (exp v)

      clauses : (cs : Clauses) → AreNamed (blocks_clauses cs)
      clauses S.no_clauses = tt
      clauses (S.only_if c cs) = two (blocks_exp c) (blocks_clauses cs) (exp c) (clauses cs)
      clauses (S.for_each fl t it cs) = three (blocks_target t) (blocks_exp it) (blocks_clauses cs) (target t) (exp it) (clauses cs)

      pub place : (p : Place) → AreNamed (blocks_place p)
      place (S.name_at l x) = tt
      place (S.attribute_at l a x) = exp a
      place (S.item_at l a i) = two (blocks_exp a) (blocks_exp i) (exp a) (exp i)

      pub target : (t : Tgt) → AreNamed (blocks_target t)
      target (S.single p) = place p
      target (S.several l f ts) = targets ts
      target (S.starred l t) = target t

      pub targets : (ts : Tgts) → AreNamed (blocks_targets ts)
      targets S.no_targets = tt
      targets (S.more_targets t ts) = two (blocks_target t) (blocks_targets ts) (target t) (targets ts)

      pub params : (ps : Params) → AreNamed (blocks_params ps)
      params (S.parameters ps s ks d) = two (blocks_formals ps) (blocks_formals ks) (formals ps) (formals ks)

      formals : (ps : Formals) → AreNamed (blocks_formals ps)
      formals S.no_formals = tt
      formals (S.formal l x a d r) = two (blocks_opt d) (blocks_formals r) (opt d) (formals r)

    pub decorators : (ds : Decorators) → AreNamed (blocks_decorators ds)
    decorators S.no_decorators = tt
    decorators (S.decorator l e r) = two (blocks_exp e) (blocks_decorators r) (exp e) (decorators r)

    taken : (o : Option Tgt) → AreNamed (blocks_opt_target o)
    taken None = tt
    taken (Some t) = target t

    pub items : (is : Items) → AreNamed (blocks_items is)
    items S.no_items = tt
    items (S.with_item l e t is) = three (blocks_exp e) (blocks_opt_target t) (blocks_items is) (exp e) (taken t) (items is)
