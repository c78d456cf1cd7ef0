-- What the statements of a language's tree mention passes a test, if the names of the wide statements that they are do.
use Rattle.std.proofs.Common.{◌≡◌, ℕ, zero, suc, ◌+◌, Bool, true, false, List, [], ◌∷◌, Option, Some, None, subst}
use Rattle.std.specs.Prelude.{if◌then◌else◌}
use Rattle.std.specs.List.{AllByRecursion}
use Rattle.pt_refine_expr.specs.declared.stars.Stars.TheVariants.{Never, Inside}
use Rattle.pt_tree.specs.Syntax as T
use Rattle.pt_tree.specs.Syntax.{Name}
use Rattle.pt_tree.specs.declared.statement.Alias.{Alias}
use Rattle.pt_wide.specs.Syntax as W
use Rattle.pt_wide.specs.Syntax.{Exps, Opt, Args, Decorators, Items, Stm, Stms, Branches, Handlers}
use Rattle.pt_refine_expr.specs.Blocks.{blocks_exp, blocks_all, blocks_opt, blocks_args, blocks_params}
use Rattle.pt_refine_expr.specs.StatementBlocks.{blocks_decorators, blocks_items, blocks_stm, blocks_stms, blocks_branches, blocks_handlers}
use Rattle.pt_refine_expr.specs.StatementFaults.{is_generator}
use Rattle.pt_refine_expr.specs.Narrow.{narrow_exp, narrow_opt}
use Rattle.pt_refine_expr.specs.StatementNarrow.{narrow_assigned, narrow_as, narrow_base, narrow_decorators, narrow_items, narrow_stm, narrow_stms, narrow_branches, narrow_handlers}
use Rattle.pt_scopes.specs.declared.region.Context.{Context}
use Rattle.pt_scopes.specs.declared.region.Role.{Role}
use Rattle.pt_scopes.specs.declared.region.Role.TheVariants.{Bind, Global, Nonlocal}
use Rattle.pt_scopes.specs.Mentions.{bound_name, places_decorators, places_handlers, places_imports, places_items, places_branches, places_named, places_names, places_opt_target, places_script, places_stm, places_stms}
use Rattle.pt_scopes.specs.Names.{mangled}
use Rattle.pt_scopes.specs.Places.{loop_context, module_context}
use Rattle.law_front.specs.parsed.Parsed as parsed
use Rattle.law_front.specs.parsed.Laws.{MentionsAreParsed}
use Rattle.law_front.proofs.parsed.Expressions as expressions
use Rattle.law_front.proofs.parsed.Fine as fine
use Rattle.law_front.proofs.parsed.Ways.{Holds, absent, there, any, made, if-allowed, of-both, of-three, of-four}

module _ (is_name is_mentioned : Name → Bool) (mangles : (class x : Name) → is_name x ≡ true
    → is_mentioned (mangled class x) ≡ true) (empty : is_mentioned [] ≡ true) where
  abbrev IsName : Name → Type 0
  IsName x = is_name x ≡ true

  abbrev TakenFine : Option T.Tgt → Type 0
  TakenFine o = (a : Context) (c : Name) → fine.Fine is_mentioned (places_opt_target a c o)

  abbrev DecoratorsFine : T.Decorators → Type 0
  DecoratorsFine ds = (a : Context) (c : Name) → fine.Fine is_mentioned (places_decorators a c ds)

  abbrev ItemsFine : T.Items → Type 0
  ItemsFine xs = (a : Context) (c : Name) → fine.Fine is_mentioned (places_items a c xs)

  abbrev StmFine : T.Stm → Type 0
  StmFine s = (a : Context) (c : Name) → fine.Fine is_mentioned (places_stm a c s)

  abbrev StmsFine : T.Stms → Type 0
  StmsFine ss = (a : Context) (c : Name) → fine.Fine is_mentioned (places_stms a c ss)

  abbrev BranchesFine : T.Branches → Type 0
  BranchesFine bs = (a : Context) (c : Name) → fine.Fine is_mentioned (places_branches a c bs)

  abbrev HandlersFine : T.Handlers → Type 0
  HandlersFine hs = (a : Context) (c : Name) → fine.Fine is_mentioned (places_handlers a c hs)

  bound : (x : Name) (y : Option Name) → IsName x → parsed.OptionalName IsName y → IsName (bound_name x y)
  bound x None h k = h
  bound x (Some y) h k = k

  imports : (xs : List Alias) → AllByRecursion (parsed.AliasParsed IsName) xs → (a : Context) (c : Name) (l : ℕ)
      → fine.Fine is_mentioned (places_imports a c l xs)
  imports [] h a c l = fine.none is_mentioned
  imports (x ∷ xs) h a c l =
      fine.two is_mentioned (fine.told is_mentioned is_name mangles Bind a c (bound_name x.name x.alias) l (bound x.name x.alias h.0.0 h.0.1))
      (imports xs h.1 a c l)

  declared : (r : Role) (xs : List Name) → AllByRecursion IsName xs → (a : Context) (c : Name) (l : ℕ) → fine.Fine is_mentioned (places_names r a c l xs)
  declared r [] h a c l = fine.none is_mentioned
  declared r (x ∷ xs) h a c l = fine.two is_mentioned (fine.told is_mentioned is_name mangles r a c x l h.0) (declared r xs h.1 a c l)

  caught : (x : Option Name) → parsed.OptionalName IsName x → (a : Context) (c : Name) (l : ℕ) → fine.Fine is_mentioned (places_named a c l x)
  caught None h a c l = fine.none is_mentioned
  caught (Some x) h a c l = fine.told is_mentioned is_name mangles Bind a c x l h

  assigned : (n : ℕ) (ts : Exps) → parsed.ExpsParsed IsName ts → Holds (expressions.TgtsFine is_name is_mentioned mangles empty) (narrow_assigned n ts)
  assigned n W.no_exps h = there _ (λ a c. fine.none is_mentioned)
  assigned n (W.more_exps t ts) h = of-both T.more_targets (λ x y p q a c. fine.two is_mentioned (p a c) (q a c))
      (expressions.target is_name is_mentioned mangles empty n Inside t h.0) (assigned (n + blocks_exp t) ts h.1)

  taken : (n : ℕ) (o : Opt) → parsed.OptParsed IsName o → Holds TakenFine (narrow_as n o)
  taken n W.absent h = there _ (λ a c. fine.none is_mentioned)
  taken n (W.given t) h = made Some (λ x p. p) (expressions.target is_name is_mentioned mangles empty n Never t h)

  base : (n : ℕ) (r : Args) (comma : Bool) → parsed.ArgsParsed IsName r → Holds (expressions.OptFine is_name is_mentioned mangles empty) (narrow_base n r comma)
  base n W.no_args comma h = there _ (λ a c. fine.none is_mentioned)
  base n (W.positional e W.no_args) true h = absent
  base n (W.positional e W.no_args) false h = if-allowed (if is_generator e then false else true) (made T.given (λ x p. p)
      (expressions.exp is_name is_mentioned mangles empty n e h.0))
  base n (W.positional e (W.positional f r)) comma h = absent
  base n (W.positional e (W.named l x f r)) comma h = absent
  base n (W.positional e (W.spread l f r)) comma h = absent
  base n (W.positional e (W.spread_named l f r)) comma h = absent
  base n (W.named l x e r) comma h = absent
  base n (W.spread l e r) comma h = absent
  base n (W.spread_named l e r) comma h = absent

  decorators : (n : ℕ) (ds : Decorators) → parsed.DecoratorsParsed IsName ds → Holds DecoratorsFine (narrow_decorators n ds)
  decorators n W.no_decorators h = there _ (λ a c. fine.none is_mentioned)
  decorators n (W.decorator l e r) h = of-both (T.decorator l) (λ x y p q a c. fine.two is_mentioned (p a c) (q a c))
      (expressions.exp is_name is_mentioned mangles empty n e h.0) (decorators (n + blocks_exp e) r h.1)

  items : (n : ℕ) (is : Items) → parsed.ItemsParsed IsName is → Holds ItemsFine (narrow_items n is)
  items n W.no_items h = there _ (λ a c. fine.none is_mentioned)
  items n (W.with_item l e t r) h = of-three (T.with_item l) (λ x y z p q s a c. fine.three is_mentioned (p a c) (q a c) (s a c))
      (expressions.exp is_name is_mentioned mangles empty n e h.0) (taken (n + blocks_exp e) t h.1) (items (n + blocks_exp e + blocks_opt t) r h.2)

  mutual
    stm : (n : ℕ) (s : Stm) → parsed.StmParsed IsName s → Holds StmFine (narrow_stm n s)
    stm n (W.assign l W.no_exps e) h = made (T.expr l) (λ x p. p) (expressions.exp is_name is_mentioned mangles empty n e h.1)
    stm n (W.assign l (W.more_exps t ts) e) h =
        of-both (T.assign l) (λ x y p q a c. fine.two is_mentioned (p a c) (q a c)) (assigned n (W.more_exps t ts) h.0)
        (expressions.exp is_name is_mentioned mangles empty (n + blocks_all (W.more_exps t ts)) e h.1)
    stm n (W.augmented l t o e) h = of-both (λ p. T.augmented l p o) (λ x y p q a c. fine.two is_mentioned (p a c) (q a c))
        (expressions.place is_name is_mentioned mangles empty n t h.0) (expressions.exp is_name is_mentioned mangles empty (n + blocks_exp t) e h.1)
    stm n (W.annotated l t a v) h = of-three (T.annotated l) (λ x y z p q s b c. fine.two is_mentioned (p b c) (s b c))
        (expressions.place is_name is_mentioned mangles empty n t h.0) (any (narrow_exp (n + blocks_exp t) a))
        (expressions.opt is_name is_mentioned mangles empty (n + blocks_exp t) v h.2)
    stm n (W.assert l c m) h = of-both (T.assert l) (λ x y p q a d. fine.two is_mentioned (p a d) (q a d))
        (expressions.exp is_name is_mentioned mangles empty n c h.0) (expressions.opt is_name is_mentioned mangles empty (n + blocks_exp c) m h.1)
    stm n (W.pass l) h = there _ (λ a c. fine.none is_mentioned)
    stm n (W.del l ts) h = made (T.del l) (λ x p. p) (expressions.targets is_name is_mentioned mangles empty n Never ts h)
    stm n (W.return l v) h = made (T.return l) (λ x p a c. fine.two is_mentioned (fine.giving is_mentioned empty a l) (p a c))
        (expressions.opt is_name is_mentioned mangles empty n v h)
    stm n (W.raise l e c) h = of-both (T.raise l) (λ x y p q a d. fine.two is_mentioned (p a d) (q a d))
        (expressions.exp is_name is_mentioned mangles empty n e h.0) (expressions.opt is_name is_mentioned mangles empty (n + blocks_exp e) c h.1)
    stm n (W.raise_again l) h = there _ (λ a c. fine.none is_mentioned)
    stm n (W.break l) h = there _ (λ a c. fine.turning is_mentioned empty a l)
    stm n (W.continue l) h = there _ (λ a c. fine.turning is_mentioned empty a l)
    stm n (W.import l xs) h = there _ (λ a c. imports xs h a c l)
    stm n (W.global l xs) h = there _ (λ a c. declared Global xs h a c l)
    stm n (W.nonlocal l xs) h = there _ (λ a c. declared Nonlocal xs h a c l)
    stm n (W.import_from l zero m (Some xs)) h = there _ (λ a c. imports xs h.1 a c l)
    stm n (W.import_from l zero m None) h = absent
    stm n (W.import_from l (suc d) m xs) h = absent
    stm n (W.choice l bs els) h = of-both (T.choice l) (λ x y p q a c. fine.two is_mentioned (p a c) (q a c)) (branches n bs h.0) (statements
        (n + blocks_branches bs) els h.1)
    stm n (W.while l c body els) h =
        of-three (T.while l) (λ x y z p q s a d. fine.three is_mentioned (p a d) (q (loop_context a) d) (s a d))
        (expressions.exp is_name is_mentioned mangles empty n c h.0) (statements (n + blocks_exp c) body h.1) (statements
        (n + blocks_exp c + blocks_stms body) els h.2)
    stm n (W.for l t it body els) h =
        of-four (T.for l) (λ x y z u p q s o a c. fine.four is_mentioned (p a c) (q a c) (s (loop_context a) c) (o a c))
        (expressions.target is_name is_mentioned mangles empty n Inside t h.0) (expressions.exp is_name is_mentioned mangles empty
        (n + blocks_exp t) it h.1) (statements (n + blocks_exp t + blocks_exp it) body h.2)
        (statements (n + blocks_exp t + blocks_exp it + blocks_stms body) els h.3)
    stm n (W.try l W.none hs els fin) h = absurd h
    stm n (W.try l (W.more s ss) hs els fin) h =
        let size = blocks_stms (W.more s ss) in
        of-four (T.try l) (λ x y z u p q s o a c. fine.four is_mentioned (p a c) (q a c) (s a c) (o a c))
        (of-both {R = StmsFine} T.more (λ x y p q a c. fine.two is_mentioned (p a c) (q a c)) (stm n s h.0) (statements (n + blocks_stm s) ss h.1)) (handlers
        (n + size) hs h.2)
        (statements (n + size + blocks_handlers hs) els h.3) (statements (n + size + blocks_handlers hs + blocks_stms els) fin h.4)
    stm n (W.with l W.no_items body) h = absurd h
    stm n (W.with l (W.with_item m e t r) body) h =
        let is = W.with_item m e t r in
        of-both (T.with l) (λ x y p q a c. fine.two is_mentioned (p a c) (q a c)) (items n is (h.0, h.1, h.2)) (statements (n + blocks_items is) body h.3)
    stm n (W.def l ds dl x ps r body) h =
        of-four (λ ds'. T.def l ds' dl (n + blocks_decorators ds) x) (λ y z u v p q s o a c. fine.three is_mentioned (p a c)
        (fine.told is_mentioned is_name mangles Bind a c x dl h.1)
        (fine.in-function is_mentioned a _ (λ b. fine.two is_mentioned (q a b c) (o b c)))) (decorators n ds h.0)
        (expressions.params is_name is_mentioned mangles empty (1 + (n + blocks_decorators ds)) ps h.2)
        (any (narrow_opt (1 + (n + blocks_decorators ds) + blocks_params ps) r)) (statements (1 + (n + blocks_decorators ds) + blocks_params ps) body h.4)
    stm n (W.class l ds cl x args comma body) h =
        of-three (λ ds'. T.class l ds' cl (n + blocks_decorators ds) x) (λ y z u p q s a c. fine.three is_mentioned (p a c)
        (fine.told is_mentioned is_name mangles Bind a c x cl h.1)
        (fine.in-class is_mentioned a _ (λ b. fine.two is_mentioned (q a c) (s b x)))) (decorators n ds h.0) (base (1 +
        (n + blocks_decorators ds)) args comma h.2)
        (statements (1 + (n + blocks_decorators ds) + blocks_args args) body h.3)

    statements : (n : ℕ) (ss : Stms) → parsed.StmsParsed IsName ss → Holds StmsFine (narrow_stms n ss)
    statements n W.none h = there _ (λ a c. fine.none is_mentioned)
    statements n (W.more s ss) h = of-both T.more (λ x y p q a c. fine.two is_mentioned (p a c) (q a c)) (stm n s h.0) (statements (n + blocks_stm s) ss h.1)

    branches : (n : ℕ) (bs : Branches) → parsed.BranchesParsed IsName bs → Holds BranchesFine (narrow_branches n bs)
    branches n W.no_branches h = there _ (λ a c. fine.none is_mentioned)
    branches n (W.branch l c body r) h =
        of-three (T.branch l) (λ x y z p q s a d. fine.three is_mentioned (p a d) (q a d) (s a d))
        (expressions.exp is_name is_mentioned mangles empty n c h.0) (statements (n + blocks_exp c) body h.1) (branches
        (n + blocks_exp c + blocks_stms body) r h.2)

    handlers : (n : ℕ) (hs : Handlers) → parsed.HandlersParsed IsName hs → Holds HandlersFine (narrow_handlers n hs)
    handlers n W.no_handlers h = there _ (λ a c. fine.none is_mentioned)
    handlers n (W.handler l true c x body r) h = absent
    handlers n (W.handler l false c x body r) h =
        of-three (λ c'. T.handler l c' x) (λ y z u p q s a d. fine.four is_mentioned (p a d) (caught x h.1 a d l) (q a d) (s a d))
        (expressions.opt is_name is_mentioned mangles empty n c h.0) (statements (n + blocks_opt c) body h.2) (handlers
        (n + blocks_opt c + blocks_stms body) r h.3)

  which : {ss : T.Stms} → Holds StmsFine (Some ss) → StmsFine ss
  which (there x p) = p

  script : (wide : Stms) (tree : T.Stms) → parsed.StmsParsed IsName wide → narrow_stms 1 wide ≡ Some tree
      → fine.Passes is_mentioned (places_script tree).mentions
  script wide tree h e = (which (subst (Holds StmsFine) e (statements 1 wide h)) module_context []).all 1

pub mentions_are_parsed : MentionsAreParsed
mentions_are_parsed is_name is_mentioned wide tree mangles empty h e = script is_name is_mentioned mangles empty wide tree h e
