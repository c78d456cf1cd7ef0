-- Trees of the wide grammar as a text gives them: each name in them is one that a text may have, the body of a `try` has a statement (Language Reference
-- 8.4), and a `with` has an item (8.5).
use Rattle.std.specs.Prelude.{List, Option, Some, None}
use Rattle.std.specs.List.{AllByRecursion}
use Rattle.pt_tree.specs.Syntax.{Name}
use Rattle.pt_tree.specs.declared.expression.NamedParameter.{NamedParameter}
use Rattle.pt_tree.specs.declared.statement.Alias.{Alias}
use Rattle.pt_wide.specs.Syntax as W
use Rattle.pt_wide.specs.Syntax.{Exp, Exps, Opt, Pieces, Entry, Entries, Links, Args, Clauses, Params, Formals, Decorators, Items, Stm, Stms, Branches, Handlers}

module _ (IsName : Name → Type 0) where
  abbrev pub OptionalName : Option Name → Type 0
  OptionalName None = Unit {0}
  OptionalName (Some x) = IsName x

  abbrev pub OptionalParameter : Option NamedParameter → Type 0
  OptionalParameter None = Unit {0}
  OptionalParameter (Some p) = IsName p.name

  abbrev mutual
    pub ExpParsed : Exp → Type 0
    ExpParsed (W.constant l k) = Unit {0}
    ExpParsed (W.name l x) = IsName x
    ExpParsed (W.joined l ps) = PiecesParsed ps
    ExpParsed (W.parenthesized l e) = ExpParsed e
    ExpParsed (W.starred l e) = ExpParsed e
    ExpParsed (W.tuple l es) = ExpsParsed es
    ExpParsed (W.list l es) = ExpsParsed es
    ExpParsed (W.set l es) = ExpsParsed es
    ExpParsed (W.dict l es) = EntriesParsed es
    ExpParsed (W.attribute l a x) = ExpParsed a × IsName x
    ExpParsed (W.item l a i) = ExpParsed a × ExpParsed i
    ExpParsed (W.slice l a b c) = OptParsed a × OptParsed b × OptParsed c
    ExpParsed (W.unary l o a) = ExpParsed a
    ExpParsed (W.not_of l a) = ExpParsed a
    ExpParsed (W.binary l o a b) = ExpParsed a × ExpParsed b
    ExpParsed (W.compare l a o b r) = ExpParsed a × ExpParsed b × LinksParsed r
    ExpParsed (W.and l a es) = ExpParsed a × ExpsParsed es
    ExpParsed (W.or l a es) = ExpParsed a × ExpsParsed es
    ExpParsed (W.conditional l c a b) = ExpParsed c × ExpParsed a × ExpParsed b
    ExpParsed (W.call l f args) = ExpParsed f × ArgsParsed args
    ExpParsed (W.lambda l ps e) = ParamsParsed ps × ExpParsed e
    ExpParsed (W.comprehension l form e cs) = ExpParsed e × ClausesParsed cs
    ExpParsed (W.dict_comprehension l g cs) = EntryParsed g × ClausesParsed cs
    ExpParsed (W.yield l v) = OptParsed v
    ExpParsed (W.yield_from l e) = ExpParsed e

    pub ExpsParsed : Exps → Type 0
    ExpsParsed W.no_exps = Unit {0}
    ExpsParsed (W.more_exps e es) = ExpParsed e × ExpsParsed es

    pub OptParsed : Opt → Type 0
    OptParsed W.absent = Unit {0}
    OptParsed (W.given e) = ExpParsed e

    pub PiecesParsed : Pieces → Type 0
    PiecesParsed W.no_pieces = Unit {0}
    PiecesParsed (W.literal l t r) = PiecesParsed r
    PiecesParsed (W.field l e c ps r) = ExpParsed e × PiecesParsed ps × PiecesParsed r

    pub EntryParsed : Entry → Type 0
    EntryParsed (W.pair k v) = ExpParsed k × ExpParsed v
    EntryParsed (W.spread_entry l e) = ExpParsed e

    pub EntriesParsed : Entries → Type 0
    EntriesParsed W.no_entries = Unit {0}
    EntriesParsed (W.more_entries g r) = EntryParsed g × EntriesParsed r

    pub LinksParsed : Links → Type 0
    LinksParsed W.no_links = Unit {0}
    LinksParsed (W.link o b r) = ExpParsed b × LinksParsed r

    pub ArgsParsed : Args → Type 0
    ArgsParsed W.no_args = Unit {0}
    ArgsParsed (W.positional e r) = ExpParsed e × ArgsParsed r
    ArgsParsed (W.named l x e r) = IsName x × ExpParsed e × ArgsParsed r
    ArgsParsed (W.spread l e r) = ExpParsed e × ArgsParsed r
    ArgsParsed (W.spread_named l e r) = ExpParsed e × ArgsParsed r

    pub ClausesParsed : Clauses → Type 0
    ClausesParsed W.no_clauses = Unit {0}
    ClausesParsed (W.for_each l t it cs r) = ExpParsed t × ExpParsed it × ExpsParsed cs × ClausesParsed r

    pub ParamsParsed : Params → Type 0
    ParamsParsed (W.parameters bs sl ps s ks d) = FormalsParsed bs × FormalsParsed ps × OptionalParameter s × FormalsParsed ks × OptionalParameter d

    pub FormalsParsed : Formals → Type 0
    FormalsParsed W.no_formals = Unit {0}
    FormalsParsed (W.formal l x a d r) = IsName x × OptParsed a × OptParsed d × FormalsParsed r

  abbrev pub DecoratorsParsed : Decorators → Type 0
  DecoratorsParsed W.no_decorators = Unit {0}
  DecoratorsParsed (W.decorator l e r) = ExpParsed e × DecoratorsParsed r

  abbrev pub ItemsParsed : Items → Type 0
  ItemsParsed W.no_items = Unit {0}
  ItemsParsed (W.with_item l e t r) = ExpParsed e × OptParsed t × ItemsParsed r

  abbrev pub AliasParsed : Alias → Type 0
  AliasParsed a = IsName a.name × OptionalName a.alias

  -- of a star all of it
  abbrev pub ImportedParsed : Option (List Alias) → Type 0
  ImportedParsed None = Unit {0}
  ImportedParsed (Some xs) = AllByRecursion AliasParsed xs

  abbrev mutual
    pub StmParsed : Stm → Type 0
    StmParsed (W.assign l ts e) = ExpsParsed ts × ExpParsed e
    StmParsed (W.augmented l t o e) = ExpParsed t × ExpParsed e
    StmParsed (W.annotated l t a v) = ExpParsed t × ExpParsed a × OptParsed v
    StmParsed (W.assert l c m) = ExpParsed c × OptParsed m
    StmParsed (W.pass l) = Unit {0}
    StmParsed (W.del l ts) = ExpsParsed ts
    StmParsed (W.return l v) = OptParsed v
    StmParsed (W.raise l e c) = ExpParsed e × OptParsed c
    StmParsed (W.raise_again l) = Unit {0}
    StmParsed (W.break l) = Unit {0}
    StmParsed (W.continue l) = Unit {0}
    StmParsed (W.import l xs) = AllByRecursion AliasParsed xs
    StmParsed (W.import_from l d x xs) = IsName x × ImportedParsed xs
    StmParsed (W.global l xs) = AllByRecursion IsName xs
    StmParsed (W.nonlocal l xs) = AllByRecursion IsName xs
    StmParsed (W.choice l bs els) = BranchesParsed bs × StmsParsed els
    StmParsed (W.while l c body els) = ExpParsed c × StmsParsed body × StmsParsed els
    StmParsed (W.for l t it body els) = ExpParsed t × ExpParsed it × StmsParsed body × StmsParsed els
    StmParsed (W.try l W.none hs els fin) = ⊥
    StmParsed (W.try l (W.more s ss) hs els fin) = StmParsed s × StmsParsed ss × HandlersParsed hs × StmsParsed els × StmsParsed fin
    StmParsed (W.with l W.no_items body) = ⊥
    StmParsed (W.with l (W.with_item m e t is) body) = ExpParsed e × OptParsed t × ItemsParsed is × StmsParsed body
    StmParsed (W.def l ds dl x ps r body) = DecoratorsParsed ds × IsName x × ParamsParsed ps × OptParsed r × StmsParsed body
    StmParsed (W.class l ds cl x args comma body) = DecoratorsParsed ds × IsName x × ArgsParsed args × StmsParsed body

    pub StmsParsed : Stms → Type 0
    StmsParsed W.none = Unit {0}
    StmsParsed (W.more s ss) = StmParsed s × StmsParsed ss

    pub BranchesParsed : Branches → Type 0
    BranchesParsed W.no_branches = Unit {0}
    BranchesParsed (W.branch l c body r) = ExpParsed c × StmsParsed body × BranchesParsed r

    pub HandlersParsed : Handlers → Type 0
    HandlersParsed W.no_handlers = Unit {0}
    HandlersParsed (W.handler l star c x body r) = OptParsed c × OptionalName x × StmsParsed body × HandlersParsed r
