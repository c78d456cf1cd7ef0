-- The blocks in expressions run no statements, so that no `break` and no `continue` stands in them.
use Rattle.std.proofs.Common.{List, [], ◌∷◌, ◌++◌, Option, Some, None}
use Rattle.pt_tree.specs.Syntax as S
use Rattle.pt_tree.specs.Syntax.{Exp, Exps, Opt, Pieces, Entries, Links, Args, Made, Clauses, Place, Tgt, Tgts, Params, Formals, Decorators, Items}
use Rattle.pt_tree.specs.Blocks.{Block, blocks_all, blocks_args, blocks_clauses, blocks_decorators, blocks_entries, blocks_exp, blocks_formals, blocks_items, blocks_links, blocks_made, blocks_opt, blocks_opt_target, blocks_params, blocks_pieces, blocks_place, blocks_target, blocks_targets}
use Rattle.sem_compile.specs.stm_pieces.Laws.{StandsInLoops}

abbrev pub AllStand : List Block → Type 0
AllStand [] = Unit {0}
AllStand (b ∷ bs) = StandsInLoops b.code × AllStand bs

pub both : (xs ys : List Block) → AllStand xs → AllStand ys → AllStand (xs ++ ys)
both [] ys h k = k
both (x ∷ xs) ys h k = (h.0, both xs ys h.1 k)

pub both3 : (xs ys zs : List Block) → AllStand xs → AllStand ys → AllStand zs → AllStand (xs ++ ys ++ zs)
both3 xs ys zs h k l = both (xs ++ ys) zs (both xs ys h k) l

pub both4 : (ws xs ys zs : List Block) → AllStand ws → AllStand xs → AllStand ys → AllStand zs → AllStand (ws ++ xs ++ ys ++ zs)
both4 ws xs ys zs g h k l = both (ws ++ xs ++ ys) zs (both3 ws xs ys g h k) l

mutual
  pub stand_exp : (x : Exp) → AllStand (blocks_exp x)
  stand_exp (S.constant l k) = tt
  stand_exp (S.name l x) = tt
  stand_exp (S.joined l ps) = stand_pieces ps
  stand_exp (S.tuple l es) = stand_all es
  stand_exp (S.list l es) = stand_all es
  stand_exp (S.set l es) = stand_all es
  stand_exp (S.dict l es) = stand_entries es
  stand_exp (S.attribute l a x) = stand_exp a
  stand_exp (S.item l a i) = both (blocks_exp a) (blocks_exp i) (stand_exp a) (stand_exp i)
  stand_exp (S.slice l a b c) = both3 (blocks_opt a) (blocks_opt b) (blocks_opt c) (stand_opt a) (stand_opt b) (stand_opt c)
  stand_exp (S.unary l o a) = stand_exp a
  stand_exp (S.not_of l a) = stand_exp a
  stand_exp (S.binary l o a b) = both (blocks_exp a) (blocks_exp b) (stand_exp a) (stand_exp b)
  stand_exp (S.compare l a o b r) = both3 (blocks_exp a) (blocks_exp b) (blocks_links r) (stand_exp a) (stand_exp b) (stand_links r)
  stand_exp (S.and l a es) = both (blocks_exp a) (blocks_all es) (stand_exp a) (stand_all es)
  stand_exp (S.or l a es) = both (blocks_exp a) (blocks_all es) (stand_exp a) (stand_all es)
  stand_exp (S.conditional l c a b) = both3 (blocks_exp a) (blocks_exp c) (blocks_exp b) (stand_exp a) (stand_exp c) (stand_exp b)
  stand_exp (S.call l f args) = both (blocks_exp f) (blocks_args args) (stand_exp f) (stand_args args)
  stand_exp (S.lambda l b ps e) = (tt, both (blocks_params ps) (blocks_exp e) (stand_params ps) (stand_exp e))
  stand_exp (S.comprehension l m fl t it cs) = both4 (blocks_made m) (blocks_target t) (blocks_exp it) (blocks_clauses cs) (stand_made m) (stand_target t) (stand_exp it) (stand_clauses cs)
  stand_exp (S.generator l b e fl t it cs) = (tt, both4 (blocks_exp e) (blocks_target t) (blocks_exp it) (blocks_clauses cs) (stand_exp e) (stand_target t) (stand_exp it) (stand_clauses cs))
  stand_exp (S.yield l v) = stand_opt v
  stand_exp (S.yield_from l e) = stand_exp e

  stand_all : (x : Exps) → AllStand (blocks_all x)
  stand_all S.no_exps = tt
  stand_all (S.more_exps e es) = both (blocks_exp e) (blocks_all es) (stand_exp e) (stand_all es)

  pub stand_opt : (x : Opt) → AllStand (blocks_opt x)
  stand_opt S.absent = tt
  stand_opt (S.given e) = stand_exp e

  stand_pieces : (x : Pieces) → AllStand (blocks_pieces x)
  stand_pieces S.no_pieces = tt
  stand_pieces (S.literal l t r) = stand_pieces r
  stand_pieces (S.field l e c ps r) = both3 (blocks_exp e) (blocks_pieces ps) (blocks_pieces r) (stand_exp e) (stand_pieces ps) (stand_pieces r)

  stand_entries : (x : Entries) → AllStand (blocks_entries x)
  stand_entries S.no_entries = tt
  stand_entries (S.entry k v r) = both3 (blocks_exp k) (blocks_exp v) (blocks_entries r) (stand_exp k) (stand_exp v) (stand_entries r)

  stand_links : (x : Links) → AllStand (blocks_links x)
  stand_links S.no_links = tt
  stand_links (S.link o b r) = both (blocks_exp b) (blocks_links r) (stand_exp b) (stand_links r)

  stand_args : (x : Args) → AllStand (blocks_args x)
  stand_args S.no_args = tt
  stand_args (S.positional e r) = both (blocks_exp e) (blocks_args r) (stand_exp e) (stand_args r)
  stand_args (S.named x e r) = both (blocks_exp e) (blocks_args r) (stand_exp e) (stand_args r)
  stand_args (S.spread e r) = both (blocks_exp e) (blocks_args r) (stand_exp e) (stand_args r)
  stand_args (S.spread_named e r) = both (blocks_exp e) (blocks_args r) (stand_exp e) (stand_args r)

  stand_made : (x : Made) → AllStand (blocks_made x)
  stand_made (S.a_list e) = stand_exp e
  stand_made (S.a_set e) = stand_exp e
  stand_made (S.a_dict k v) = both (blocks_exp k) (blocks_exp v) (stand_exp k) (stand_exp v)

  stand_clauses : (x : Clauses) → AllStand (blocks_clauses x)
  stand_clauses S.no_clauses = tt
  stand_clauses (S.only_if c cs) = both (blocks_exp c) (blocks_clauses cs) (stand_exp c) (stand_clauses cs)
  stand_clauses (S.for_each fl t it cs) = both3 (blocks_target t) (blocks_exp it) (blocks_clauses cs) (stand_target t) (stand_exp it) (stand_clauses cs)

  pub stand_place : (x : Place) → AllStand (blocks_place x)
  stand_place (S.name_at l x) = tt
  stand_place (S.attribute_at l a x) = stand_exp a
  stand_place (S.item_at l a i) = both (blocks_exp a) (blocks_exp i) (stand_exp a) (stand_exp i)

  pub stand_target : (x : Tgt) → AllStand (blocks_target x)
  stand_target (S.single p) = stand_place p
  stand_target (S.several l f ts) = stand_targets ts
  stand_target (S.starred l t) = stand_target t

  pub stand_targets : (x : Tgts) → AllStand (blocks_targets x)
  stand_targets S.no_targets = tt
  stand_targets (S.more_targets t ts) = both (blocks_target t) (blocks_targets ts) (stand_target t) (stand_targets ts)

  pub stand_params : (x : Params) → AllStand (blocks_params x)
  stand_params (S.parameters ps s ks d) = both (blocks_formals ps) (blocks_formals ks) (stand_formals ps) (stand_formals ks)

  stand_formals : (x : Formals) → AllStand (blocks_formals x)
  stand_formals S.no_formals = tt
  stand_formals (S.formal l x a d r) = both (blocks_opt d) (blocks_formals r) (stand_opt d) (stand_formals r)

pub stand_decorators : (x : Decorators) → AllStand (blocks_decorators x)
stand_decorators S.no_decorators = tt
stand_decorators (S.decorator l e r) = both (blocks_exp e) (blocks_decorators r) (stand_exp e) (stand_decorators r)

pub stand_opt_target : (x : Option Tgt) → AllStand (blocks_opt_target x)
stand_opt_target None = tt
stand_opt_target (Some t) = stand_target t

pub stand_items : (x : Items) → AllStand (blocks_items x)
stand_items S.no_items = tt
stand_items (S.with_item l e t is) = both3 (blocks_exp e) (blocks_opt_target t) (blocks_items is) (stand_exp e) (stand_opt_target t) (stand_items is)
