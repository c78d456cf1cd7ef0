-- Trees of the wide grammar as the grammar forms them, in what the code of a script depends on: an argument by name has a name (Language Reference 6.3.4),
-- the body of a `try` has a statement (8.4), and a `with` has an item (8.5). Annotations have no code.
use Rattle.std.specs.Prelude.{◌≡◌, true}
use Rattle.law_typed_pieces.specs.law_operands.law_files.sem_compile.emitter.Ops.{is_plain}
use Rattle.pt_wide.specs.Syntax as W
use Rattle.pt_wide.specs.Syntax.{Exp, Exps, Opt, Pieces, Entry, Entries, Links, Args, Clauses, Params, Formals, Decorators, Items, Stm, Stms, Branches, Handlers, none, more}

abbrev mutual
  pub ExpFormed : Exp → Type 0
  ExpFormed (W.constant l k) = Unit {0}
  ExpFormed (W.name l x) = Unit {0}
  ExpFormed (W.joined l ps) = PiecesFormed ps
  ExpFormed (W.parenthesized l e) = ExpFormed e
  ExpFormed (W.starred l e) = ExpFormed e
  ExpFormed (W.tuple l es) = ExpsFormed es
  ExpFormed (W.list l es) = ExpsFormed es
  ExpFormed (W.set l es) = ExpsFormed es
  ExpFormed (W.dict l es) = EntriesFormed es
  ExpFormed (W.attribute l a x) = ExpFormed a
  ExpFormed (W.item l a i) = ExpFormed a × ExpFormed i
  ExpFormed (W.slice l a b c) = OptFormed a × OptFormed b × OptFormed c
  ExpFormed (W.unary l o a) = ExpFormed a
  ExpFormed (W.not_of l a) = ExpFormed a
  ExpFormed (W.binary l o a b) = ExpFormed a × ExpFormed b
  ExpFormed (W.compare l a o b r) = ExpFormed a × ExpFormed b × LinksFormed r
  ExpFormed (W.and l a es) = ExpFormed a × ExpsFormed es
  ExpFormed (W.or l a es) = ExpFormed a × ExpsFormed es
  ExpFormed (W.conditional l c a b) = ExpFormed c × ExpFormed a × ExpFormed b
  ExpFormed (W.call l f args) = ExpFormed f × ArgsFormed args
  ExpFormed (W.lambda l ps e) = ParamsFormed ps × ExpFormed e
  ExpFormed (W.comprehension l form e cs) = ExpFormed e × ClausesFormed cs
  ExpFormed (W.dict_comprehension l g cs) = EntryFormed g × ClausesFormed cs
  ExpFormed (W.yield l v) = OptFormed v
  ExpFormed (W.yield_from l e) = ExpFormed e

  pub ExpsFormed : Exps → Type 0
  ExpsFormed W.no_exps = Unit {0}
  ExpsFormed (W.more_exps e es) = ExpFormed e × ExpsFormed es

  pub OptFormed : Opt → Type 0
  OptFormed W.absent = Unit {0}
  OptFormed (W.given e) = ExpFormed e

  pub PiecesFormed : Pieces → Type 0
  PiecesFormed W.no_pieces = Unit {0}
  PiecesFormed (W.literal l t r) = PiecesFormed r
  PiecesFormed (W.field l e c ps r) = ExpFormed e × PiecesFormed ps × PiecesFormed r

  pub EntryFormed : Entry → Type 0
  EntryFormed (W.pair k v) = ExpFormed k × ExpFormed v
  EntryFormed (W.spread_entry l e) = ExpFormed e

  pub EntriesFormed : Entries → Type 0
  EntriesFormed W.no_entries = Unit {0}
  EntriesFormed (W.more_entries g r) = EntryFormed g × EntriesFormed r

  pub LinksFormed : Links → Type 0
  LinksFormed W.no_links = Unit {0}
  LinksFormed (W.link o b r) = ExpFormed b × LinksFormed r

  -- a name, and no text that stands for an argument without one
  pub ArgsFormed : Args → Type 0
  ArgsFormed W.no_args = Unit {0}
  ArgsFormed (W.positional e r) = ExpFormed e × ArgsFormed r
  ArgsFormed (W.named l x e r) = (is_plain x ≡ true) × ExpFormed e × ArgsFormed r
  ArgsFormed (W.spread l e r) = ExpFormed e × ArgsFormed r
  ArgsFormed (W.spread_named l e r) = ExpFormed e × ArgsFormed r

  pub ClausesFormed : Clauses → Type 0
  ClausesFormed W.no_clauses = Unit {0}
  ClausesFormed (W.for_each l t it cs r) = ExpFormed t × ExpFormed it × ExpsFormed cs × ClausesFormed r

  pub ParamsFormed : Params → Type 0
  ParamsFormed (W.parameters bs sl ps s ks d) = FormalsFormed ps × FormalsFormed ks

  pub FormalsFormed : Formals → Type 0
  FormalsFormed W.no_formals = Unit {0}
  FormalsFormed (W.formal l x a d r) = OptFormed d × FormalsFormed r

abbrev pub DecoratorsFormed : Decorators → Type 0
DecoratorsFormed W.no_decorators = Unit {0}
DecoratorsFormed (W.decorator l e r) = ExpFormed e × DecoratorsFormed r

abbrev pub ItemsFormed : Items → Type 0
ItemsFormed W.no_items = Unit {0}
ItemsFormed (W.with_item l e t r) = ExpFormed e × OptFormed t × ItemsFormed r

abbrev pub HasStatement : Stms → Type 0
HasStatement none = ⊥
HasStatement (more s ss) = Unit {0}

abbrev pub HasItem : Items → Type 0
HasItem W.no_items = ⊥
HasItem (W.with_item l e t r) = Unit {0}

abbrev mutual
  pub StmFormed : Stm → Type 0
  StmFormed (W.assign l ts e) = ExpsFormed ts × ExpFormed e
  StmFormed (W.augmented l t o e) = ExpFormed t × ExpFormed e
  StmFormed (W.annotated l t a v) = ExpFormed t × OptFormed v
  StmFormed (W.assert l c m) = ExpFormed c × OptFormed m
  StmFormed (W.del l ts) = ExpsFormed ts
  StmFormed (W.return l v) = OptFormed v
  StmFormed (W.raise l e c) = ExpFormed e × OptFormed c
  StmFormed (W.choice l bs els) = BranchesFormed bs × StmsFormed els
  StmFormed (W.while l c body els) = ExpFormed c × StmsFormed body × StmsFormed els
  StmFormed (W.for l t it body els) = ExpFormed t × ExpFormed it × StmsFormed body × StmsFormed els
  StmFormed (W.try l body hs els fin) = HasStatement body × StmsFormed body × HandlersFormed hs × StmsFormed els × StmsFormed fin
  StmFormed (W.with l is body) = HasItem is × ItemsFormed is × StmsFormed body
  StmFormed (W.def l ds dl x ps r body) = DecoratorsFormed ds × ParamsFormed ps × StmsFormed body
  StmFormed (W.class l ds cl x args comma body) = DecoratorsFormed ds × ArgsFormed args × StmsFormed body
  StmFormed st = Unit {0}

  pub StmsFormed : Stms → Type 0
  StmsFormed none = Unit {0}
  StmsFormed (more s ss) = StmFormed s × StmsFormed ss

  pub BranchesFormed : Branches → Type 0
  BranchesFormed W.no_branches = Unit {0}
  BranchesFormed (W.branch l c body r) = ExpFormed c × StmsFormed body × BranchesFormed r

  pub HandlersFormed : Handlers → Type 0
  HandlersFormed W.no_handlers = Unit {0}
  HandlersFormed (W.handler l star c x body r) = OptFormed c × StmsFormed body × HandlersFormed r
