-- Trees as the grammar forms them, in what the code of a script depends on: an argument by name has a name (Language Reference 6.3.4), the body of a
-- `try` has a statement (8.4), and a `with` has an item (8.5). Annotations have no code.
use Rattle.std.specs.Prelude.{◌≡◌, true, Option, Some, None}
use Rattle.pt_tree.specs.Syntax as S
use Rattle.pt_tree.specs.Syntax.{Exp, Exps, Opt, Pieces, Entries, Links, Args, Made, Clauses, Place, Tgt, Tgts, Params, Formals, Decorators, Items, Stm, Stms, Branches, Handlers, none, more}
use Rattle.pt_tree.specs.Blocks as B
use Rattle.pt_tree.specs.Blocks.{Code}
use Rattle.law_typed_pieces.specs.law_operands.law_files.sem_compile.emitter.Ops.{is_plain}
use Rattle.law_compile.specs.loop_exits.Parts.{HasStatement, HasItem}

abbrev mutual
  pub ExpFormed : Exp → Type 0
  ExpFormed (S.constant l k) = Unit {0}
  ExpFormed (S.name l x) = Unit {0}
  ExpFormed (S.joined l ps) = PiecesFormed ps
  ExpFormed (S.tuple l es) = ExpsFormed es
  ExpFormed (S.list l es) = ExpsFormed es
  ExpFormed (S.set l es) = ExpsFormed es
  ExpFormed (S.dict l r) = EntriesFormed r
  ExpFormed (S.attribute l a x) = ExpFormed a
  ExpFormed (S.item l a i) = ExpFormed a × ExpFormed i
  ExpFormed (S.slice l a b c) = OptFormed a × OptFormed b × OptFormed c
  ExpFormed (S.unary l o a) = ExpFormed a
  ExpFormed (S.not_of l a) = ExpFormed a
  ExpFormed (S.binary l o a b) = ExpFormed a × ExpFormed b
  ExpFormed (S.compare l a o b r) = ExpFormed a × ExpFormed b × LinksFormed r
  ExpFormed (S.and l a es) = ExpFormed a × ExpsFormed es
  ExpFormed (S.or l a es) = ExpFormed a × ExpsFormed es
  ExpFormed (S.conditional l c a b) = ExpFormed c × ExpFormed a × ExpFormed b
  ExpFormed (S.call l f args) = ExpFormed f × ArgsFormed args
  ExpFormed (S.lambda l b ps e) = ParamsFormed ps × ExpFormed e
  ExpFormed (S.comprehension l m k t it cs) = MadeFormed m × TgtFormed t × ExpFormed it × ClausesFormed cs
  ExpFormed (S.generator l b e k t it cs) = ExpFormed e × TgtFormed t × ExpFormed it × ClausesFormed cs
  ExpFormed (S.yield l v) = OptFormed v
  ExpFormed (S.yield_from l e) = ExpFormed e

  pub ExpsFormed : Exps → Type 0
  ExpsFormed S.no_exps = Unit {0}
  ExpsFormed (S.more_exps e es) = ExpFormed e × ExpsFormed es

  pub OptFormed : Opt → Type 0
  OptFormed S.absent = Unit {0}
  OptFormed (S.given e) = ExpFormed e

  pub PiecesFormed : Pieces → Type 0
  PiecesFormed S.no_pieces = Unit {0}
  PiecesFormed (S.literal l t r) = PiecesFormed r
  PiecesFormed (S.field l e c ps r) = ExpFormed e × PiecesFormed ps × PiecesFormed r

  pub EntriesFormed : Entries → Type 0
  EntriesFormed S.no_entries = Unit {0}
  EntriesFormed (S.entry k v r) = ExpFormed k × ExpFormed v × EntriesFormed r

  pub LinksFormed : Links → Type 0
  LinksFormed S.no_links = Unit {0}
  LinksFormed (S.link o b r) = ExpFormed b × LinksFormed r

  -- a name, and no text that stands for an argument without one
  pub ArgsFormed : Args → Type 0
  ArgsFormed S.no_args = Unit {0}
  ArgsFormed (S.positional e r) = ExpFormed e × ArgsFormed r
  ArgsFormed (S.named x e r) = (is_plain x ≡ true) × ExpFormed e × ArgsFormed r
  ArgsFormed (S.spread e r) = ExpFormed e × ArgsFormed r
  ArgsFormed (S.spread_named e r) = ExpFormed e × ArgsFormed r

  pub MadeFormed : Made → Type 0
  MadeFormed (S.a_list e) = ExpFormed e
  MadeFormed (S.a_set e) = ExpFormed e
  MadeFormed (S.a_dict k v) = ExpFormed k × ExpFormed v

  pub ClausesFormed : Clauses → Type 0
  ClausesFormed S.no_clauses = Unit {0}
  ClausesFormed (S.only_if c cs) = ExpFormed c × ClausesFormed cs
  ClausesFormed (S.for_each k t it cs) = TgtFormed t × ExpFormed it × ClausesFormed cs

  pub PlaceFormed : Place → Type 0
  PlaceFormed (S.name_at l x) = Unit {0}
  PlaceFormed (S.attribute_at l a x) = ExpFormed a
  PlaceFormed (S.item_at l a i) = ExpFormed a × ExpFormed i

  pub TgtFormed : Tgt → Type 0
  TgtFormed (S.single p) = PlaceFormed p
  TgtFormed (S.several l f ts) = TgtsFormed ts
  TgtFormed (S.starred l t) = TgtFormed t

  pub TgtsFormed : Tgts → Type 0
  TgtsFormed S.no_targets = Unit {0}
  TgtsFormed (S.more_targets t ts) = TgtFormed t × TgtsFormed ts

  pub ParamsFormed : Params → Type 0
  ParamsFormed (S.parameters ps s ks d) = FormalsFormed ps × FormalsFormed ks

  pub FormalsFormed : Formals → Type 0
  FormalsFormed S.no_formals = Unit {0}
  FormalsFormed (S.formal l x a d r) = OptFormed d × FormalsFormed r

abbrev pub DecoratorsFormed : Decorators → Type 0
DecoratorsFormed S.no_decorators = Unit {0}
DecoratorsFormed (S.decorator l e r) = ExpFormed e × DecoratorsFormed r

abbrev pub TakenFormed : Option Tgt → Type 0
TakenFormed None = Unit {0}
TakenFormed (Some t) = TgtFormed t

abbrev pub ItemsFormed : Items → Type 0
ItemsFormed S.no_items = Unit {0}
ItemsFormed (S.with_item l e t r) = ExpFormed e × TakenFormed t × ItemsFormed r

abbrev mutual
  pub StmFormed : Stm → Type 0
  StmFormed (S.expr l e) = ExpFormed e
  StmFormed (S.assign l ts e) = TgtsFormed ts × ExpFormed e
  StmFormed (S.augmented l p o e) = PlaceFormed p × ExpFormed e
  StmFormed (S.annotated l p a v) = PlaceFormed p × OptFormed v
  StmFormed (S.assert l c m) = ExpFormed c × OptFormed m
  StmFormed (S.del l ts) = TgtsFormed ts
  StmFormed (S.return l v) = OptFormed v
  StmFormed (S.raise l e c) = ExpFormed e × OptFormed c
  StmFormed (S.choice l bs els) = BranchesFormed bs × StmsFormed els
  StmFormed (S.while l c body els) = ExpFormed c × StmsFormed body × StmsFormed els
  StmFormed (S.for l t it body els) = TgtFormed t × ExpFormed it × StmsFormed body × StmsFormed els
  StmFormed (S.try l body hs els fin) = HasStatement body × StmsFormed body × HandlersFormed hs × StmsFormed els × StmsFormed fin
  StmFormed (S.with l is body) = HasItem is × ItemsFormed is × StmsFormed body
  StmFormed (S.def l ds dl b x ps r body) = DecoratorsFormed ds × ParamsFormed ps × StmsFormed body
  StmFormed (S.class l ds cl b x base body) = DecoratorsFormed ds × OptFormed base × StmsFormed body
  StmFormed st = Unit {0}

  pub StmsFormed : Stms → Type 0
  StmsFormed none = Unit {0}
  StmsFormed (more st ss) = StmFormed st × StmsFormed ss

  pub BranchesFormed : Branches → Type 0
  BranchesFormed S.no_branches = Unit {0}
  BranchesFormed (S.branch l c body r) = ExpFormed c × StmsFormed body × BranchesFormed r

  pub HandlersFormed : Handlers → Type 0
  HandlersFormed S.no_handlers = Unit {0}
  HandlersFormed (S.handler l c x body r) = OptFormed c × StmsFormed body × HandlersFormed r

-- of what a block runs
abbrev pub CodeFormed : Code → Type 0
CodeFormed (B.of_module ss) = StmsFormed ss
CodeFormed (B.of_function ss) = StmsFormed ss
CodeFormed (B.of_class ss) = StmsFormed ss
CodeFormed (B.of_lambda l e) = ExpFormed e
CodeFormed (B.of_generator l e k t cs) = ExpFormed e × TgtFormed t × ClausesFormed cs
