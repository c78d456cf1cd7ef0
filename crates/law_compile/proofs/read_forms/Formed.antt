-- What is parsed is formed, where names begin as identifiers do.
use Rattle.std.proofs.Common.{◌≡◌, Bool, true, false, ◌||◌, [], ◌∷◌, codes, bytes_eq, refl, sym, ap, ◌∙◌, inl, inr}
use Rattle.std.proofs.lemmas.Bool.{cases_Bool}
use Rattle.std.specs.Prelude.{if◌then◌else◌}
use Rattle.std.specs.Cmp.Lexicographic.{bytes_decides}
use Rattle.pt_tree.specs.Syntax.{Name}
use Rattle.law_typed_pieces.specs.law_operands.law_files.sem_compile.emitter.Ops.{is_plain}
use Rattle.pt_wide.specs.Syntax as W
use Rattle.pt_wide.specs.Syntax.{Exp, Exps, Opt, Pieces, Entry, Entries, Links, Args, Clauses, Params, Formals, Decorators, Items, Stm, Stms, Branches, Handlers}
use Rattle.law_compile.specs.formed_scripts.Wide as F
use Rattle.law_front.specs.parsed.Parsed as parsed
use Rattle.law_front.specs.identifiers.Names.{begins_name}

abbrev pub IsName : Name → Type 0
IsName x = begins_name x ≡ true

-- a name is no text that begins otherwise
pub unlike : (x y : Name) → IsName x → begins_name y ≡ false → bytes_eq x y ≡ false
unlike x y h k = elim (cases_Bool (bytes_eq x y)) [
  | inl same ↦ let e = sym h ∙ ap begins_name ((bytes_decides x y).0 same) ∙ k in cc
  | inr other ↦ other
]

plain-if : (a b : Bool) → a ≡ false → b ≡ false → (if a || b then false else true) ≡ true
plain-if a b h k = cc

pub plain : (x : Name) → IsName x → is_plain x ≡ true
plain [] h = cc
plain (c ∷ x) h = plain-if _ _ (unlike (c ∷ x) (codes "*") h refl) (unlike (c ∷ x) (codes "**") h refl)

mutual
  exp : (e : Exp) → parsed.ExpParsed IsName e → F.ExpFormed e
  exp (W.constant l k) h = tt
  exp (W.name l x) h = tt
  exp (W.joined l ps) h = pieces ps h
  exp (W.parenthesized l e) h = exp e h
  exp (W.starred l e) h = exp e h
  exp (W.tuple l es) h = exps es h
  exp (W.list l es) h = exps es h
  exp (W.set l es) h = exps es h
  exp (W.dict l es) h = entries es h
  exp (W.attribute l a x) h = exp a h.0
  exp (W.item l a i) h = (exp a h.0, exp i h.1)
  exp (W.slice l a b c) h = (opt a h.0, opt b h.1, opt c h.2)
  exp (W.unary l o a) h = exp a h
  exp (W.not_of l a) h = exp a h
  exp (W.binary l o a b) h = (exp a h.0, exp b h.1)
  exp (W.compare l a o b r) h = (exp a h.0, exp b h.1, links r h.2)
  exp (W.and l a es) h = (exp a h.0, exps es h.1)
  exp (W.or l a es) h = (exp a h.0, exps es h.1)
  exp (W.conditional l c a b) h = (exp c h.0, exp a h.1, exp b h.2)
  exp (W.call l f args) h = (exp f h.0, arguments args h.1)
  exp (W.lambda l ps e) h = (params ps h.0, exp e h.1)
  exp (W.comprehension l form e cs) h = (exp e h.0, clauses cs h.1)
  exp (W.dict_comprehension l g cs) h = (entry g h.0, clauses cs h.1)
  exp (W.yield l v) h = opt v h
  exp (W.yield_from l e) h = exp e h

  exps : (es : Exps) → parsed.ExpsParsed IsName es → F.ExpsFormed es
  exps W.no_exps h = tt
  exps (W.more_exps e es) h = (exp e h.0, exps es h.1)

  opt : (o : Opt) → parsed.OptParsed IsName o → F.OptFormed o
  opt W.absent h = tt
  opt (W.given e) h = exp e h

  pieces : (ps : Pieces) → parsed.PiecesParsed IsName ps → F.PiecesFormed ps
  pieces W.no_pieces h = tt
  pieces (W.literal l t r) h = pieces r h
  pieces (W.field l e c ps r) h = (exp e h.0, pieces ps h.1, pieces r h.2)

  entry : (g : Entry) → parsed.EntryParsed IsName g → F.EntryFormed g
  entry (W.pair k v) h = (exp k h.0, exp v h.1)
  entry (W.spread_entry l e) h = exp e h

  entries : (r : Entries) → parsed.EntriesParsed IsName r → F.EntriesFormed r
  entries W.no_entries h = tt
  entries (W.more_entries g r) h = (entry g h.0, entries r h.1)

  links : (r : Links) → parsed.LinksParsed IsName r → F.LinksFormed r
  links W.no_links h = tt
  links (W.link o b r) h = (exp b h.0, links r h.1)

  arguments : (r : Args) → parsed.ArgsParsed IsName r → F.ArgsFormed r
  arguments W.no_args h = tt
  arguments (W.positional e r) h = (exp e h.0, arguments r h.1)
  arguments (W.named l x e r) h = (plain x h.0, exp e h.1, arguments r h.2)
  arguments (W.spread l e r) h = (exp e h.0, arguments r h.1)
  arguments (W.spread_named l e r) h = (exp e h.0, arguments r h.1)

  clauses : (cs : Clauses) → parsed.ClausesParsed IsName cs → F.ClausesFormed cs
  clauses W.no_clauses h = tt
  clauses (W.for_each l t it cs r) h = (exp t h.0, exp it h.1, exps cs h.2, clauses r h.3)

  params : (ps : Params) → parsed.ParamsParsed IsName ps → F.ParamsFormed ps
  params (W.parameters bs sl ps s ks d) h = (formals ps h.1, formals ks h.3)

  formals : (ps : Formals) → parsed.FormalsParsed IsName ps → F.FormalsFormed ps
  formals W.no_formals h = tt
  formals (W.formal l x a d r) h = (opt d h.2, formals r h.3)

decorators : (ds : Decorators) → parsed.DecoratorsParsed IsName ds → F.DecoratorsFormed ds
decorators W.no_decorators h = tt
decorators (W.decorator l e r) h = (exp e h.0, decorators r h.1)

items : (xs : Items) → parsed.ItemsParsed IsName xs → F.ItemsFormed xs
items W.no_items h = tt
items (W.with_item l e t r) h = (exp e h.0, opt t h.1, items r h.2)

mutual
  stm : (s : Stm) → parsed.StmParsed IsName s → F.StmFormed s
  stm (W.assign l ts e) h = (exps ts h.0, exp e h.1)
  stm (W.augmented l t o e) h = (exp t h.0, exp e h.1)
  stm (W.annotated l t a v) h = (exp t h.0, opt v h.2)
  stm (W.assert l c m) h = (exp c h.0, opt m h.1)
  stm (W.pass l) h = tt
  stm (W.del l ts) h = exps ts h
  stm (W.return l v) h = opt v h
  stm (W.raise l e c) h = (exp e h.0, opt c h.1)
  stm (W.raise_again l) h = tt
  stm (W.break l) h = tt
  stm (W.continue l) h = tt
  stm (W.import l xs) h = tt
  stm (W.import_from l d x xs) h = tt
  stm (W.global l xs) h = tt
  stm (W.nonlocal l xs) h = tt
  stm (W.choice l bs els) h = (branches bs h.0, statements els h.1)
  stm (W.while l c body els) h = (exp c h.0, statements body h.1, statements els h.2)
  stm (W.for l t it body els) h = (exp t h.0, exp it h.1, statements body h.2, statements els h.3)
  stm (W.try l W.none hs els fin) h = absurd h
  stm (W.try l (W.more s ss) hs els fin) h = (tt, (stm s h.0, statements ss h.1), handlers hs h.2, statements els h.3, statements fin h.4)
  stm (W.with l W.no_items body) h = absurd h
  stm (W.with l (W.with_item m e t r) body) h = (tt, (exp e h.0, opt t h.1, items r h.2), statements body h.3)
  stm (W.def l ds dl x ps r body) h = (decorators ds h.0, params ps h.2, statements body h.4)
  stm (W.class l ds cl x args comma body) h = (decorators ds h.0, arguments args h.2, statements body h.3)

  pub statements : (ss : Stms) → parsed.StmsParsed IsName ss → F.StmsFormed ss
  statements W.none h = tt
  statements (W.more s ss) h = (stm s h.0, statements ss h.1)

  branches : (bs : Branches) → parsed.BranchesParsed IsName bs → F.BranchesFormed bs
  branches W.no_branches h = tt
  branches (W.branch l c body r) h = (exp c h.0, statements body h.1, branches r h.2)

  handlers : (hs : Handlers) → parsed.HandlersParsed IsName hs → F.HandlersFormed hs
  handlers W.no_handlers h = tt
  handlers (W.handler l star c x body r) h = (opt c h.0, statements body h.2, handlers r h.3)
