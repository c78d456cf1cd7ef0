-- The limits on the expressions of statements.
use Rattle.std.specs.Prelude.{◌≤◌}
use Rattle.pt_wide.specs.Syntax as S
use Rattle.pt_wide.specs.Syntax.{Exp, Exps, Opt, Args, Params, Decorators, Items, Stm, Stms, Branches, Handlers}
use Rattle.pt_wide.specs.Measure.{depth_all, width_all, count_exps, depth_params, width_params, depth_args, width_args, count_args}
use Rattle.pt_grammar.specs.Parts.{Fits, max_items}
use Rattle.pt_parser.specs.Forms.{FitsOptional}
use Rattle.pt_parser.specs.Simple.{max_depth}

abbrev pub FitsExp : Exp → Type 0
FitsExp e = Fits max_depth e

abbrev pub FitsOpt : Opt → Type 0
FitsOpt o = FitsOptional FitsExp o

abbrev pub FitsExps : Exps → Type 0
FitsExps S.no_exps = Unit {0}
FitsExps (S.more_exps e es) = FitsExp e × FitsExps es

-- several targets with commas between them
abbrev pub FitsTargets : Exps → Type 0
FitsTargets ts = (depth_all ts ≤ max_depth) × (width_all ts ≤ max_items) × (count_exps ts ≤ max_items)

abbrev pub FitsItems : Items → Type 0
FitsItems S.no_items = Unit {0}
FitsItems (S.with_item l e t r) = FitsExp e × FitsOpt t × FitsItems r

abbrev pub FitsDecorators : Decorators → Type 0
FitsDecorators S.no_decorators = Unit {0}
FitsDecorators (S.decorator l e r) = FitsExp e × FitsDecorators r

abbrev pub FitsParams : Params → Type 0
FitsParams ps = (depth_params ps ≤ max_depth) × (width_params ps ≤ max_items)

abbrev pub FitsArgs : Args → Type 0
FitsArgs args = (depth_args args ≤ max_depth) × (width_args args ≤ max_items) × (count_args args ≤ max_items)

abbrev mutual
  pub FitsStm : Stm → Type 0
  FitsStm (S.assign l ts e) = FitsExps ts × FitsExp e
  FitsStm (S.augmented l t o e) = FitsExp t × FitsExp e
  FitsStm (S.annotated l t a v) = FitsExp t × FitsExp a × FitsOpt v
  FitsStm (S.assert l c m) = FitsExp c × FitsOpt m
  FitsStm (S.pass l) = Unit {0}
  FitsStm (S.del l ts) = FitsTargets ts
  FitsStm (S.return l v) = FitsOpt v
  FitsStm (S.raise l e c) = FitsExp e × FitsOpt c
  FitsStm (S.raise_again l) = Unit {0}
  FitsStm (S.break l) = Unit {0}
  FitsStm (S.continue l) = Unit {0}
  FitsStm (S.import l xs) = Unit {0}
  FitsStm (S.import_from l n x xs) = Unit {0}
  FitsStm (S.global l xs) = Unit {0}
  FitsStm (S.nonlocal l xs) = Unit {0}
  FitsStm (S.choice l bs els) = FitsBranches bs × FitsStms els
  FitsStm (S.while l c body els) = FitsExp c × FitsStms body × FitsStms els
  FitsStm (S.for l t e body els) = FitsExp t × FitsExp e × FitsStms body × FitsStms els
  FitsStm (S.try l body hs els fin) = FitsStms body × FitsHandlers hs × FitsStms els × FitsStms fin
  FitsStm (S.with l is body) = FitsItems is × FitsStms body
  FitsStm (S.def l ds m x ps r body) = FitsDecorators ds × FitsParams ps × FitsOpt r × FitsStms body
  FitsStm (S.class l ds m x args comma body) = FitsDecorators ds × FitsArgs args × FitsStms body

  pub FitsStms : Stms → Type 0
  FitsStms S.none = Unit {0}
  FitsStms (S.more s ss) = FitsStm s × FitsStms ss

  pub FitsBranches : Branches → Type 0
  FitsBranches S.no_branches = Unit {0}
  FitsBranches (S.branch l c body r) = FitsExp c × FitsStms body × FitsBranches r

  pub FitsHandlers : Handlers → Type 0
  FitsHandlers S.no_handlers = Unit {0}
  FitsHandlers (S.handler l star c x body r) = FitsOpt c × FitsStms body × FitsHandlers r
