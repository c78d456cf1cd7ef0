-- The nodes of wide statements that the plain grammar doesn't allow, in source order (Language Reference 7, 8).
use Rattle.std.specs.Prelude.{ℕ, zero, suc, Bool, true, false, List, [], ◌∷◌, ◌++◌, Option, Some, None, if◌then◌else◌}
use Rattle.pt_tree.specs.declared.statement.Alias.{Alias}
use Rattle.pt_wide.specs.declared.expression.Comprehension.TheVariants as form
use Rattle.pt_refine_expr.specs.declared.stars.Stars.TheVariants.{Never, Inside}
use Rattle.pt_wide.specs.Syntax as W
use Rattle.pt_wide.specs.Syntax.{Exp, Exps, Opt, Args, Decorators, Items, Stm, Stms, Branches, Handlers}
use Rattle.pt_refine_expr.specs.Targets.{exp_line}
use Rattle.pt_refine_expr.specs.Faults.{Fault, excluded, faults_exp, faults_opt, faults_args, faults_params, faults_place, faults_target, faults_targets}

-- the targets of an assignment, each behind its own `=`
abbrev pub faults_assigned : Exps → List Fault
faults_assigned W.no_exps = []
faults_assigned (W.more_exps t ts) = faults_target Inside t ++ faults_assigned ts

-- what stands behind an `as`
abbrev pub faults_as : Opt → List Fault
faults_as W.absent = []
faults_as (W.given t) = faults_target Never t

-- dots before the module's name, or `import *`
abbrev pub faults_origin : (line dots : ℕ) → Option (List Alias) → List Fault
faults_origin l zero (Some xs) = []
faults_origin l zero None = excluded l ∷ []
faults_origin l (suc n) xs = excluded l ∷ []

abbrev pub is_generator : Exp → Bool
is_generator (W.comprehension l form.Generator e cs) = true
is_generator e = false

-- a class has one base at most, which no brackets of the class are part of, and no comma behind it
abbrev pub is_base : Args → (trailing_comma : Bool) → Bool
is_base W.no_args comma = true
is_base (W.positional e W.no_args) true = false
is_base (W.positional e W.no_args) false = if is_generator e then false else true
is_base args comma = false

abbrev pub args_line : Args → ℕ
args_line W.no_args = 0
args_line (W.positional e r) = exp_line e
args_line (W.named l x e r) = l
args_line (W.spread l e r) = l
args_line (W.spread_named l e r) = l

-- the fault is the first argument of a class
abbrev pub faults_base : Args → (trailing_comma : Bool) → List Fault
faults_base args comma = if is_base args comma then [] else excluded (args_line args) ∷ []

-- `except*`
abbrev pub faults_group : (line : ℕ) → (star : Bool) → List Fault
faults_group l true = excluded l ∷ []
faults_group l false = []

abbrev pub faults_decorators : Decorators → List Fault
faults_decorators W.no_decorators = []
faults_decorators (W.decorator l e r) = faults_exp e ++ faults_decorators r

abbrev pub faults_items : Items → List Fault
faults_items W.no_items = []
faults_items (W.with_item l e t r) = faults_exp e ++ faults_as t ++ faults_items r

abbrev mutual
  pub faults_stm : Stm → List Fault
  faults_stm (W.assign l ts e) = faults_assigned ts ++ faults_exp e
  faults_stm (W.augmented l t o e) = faults_place t ++ faults_exp e
  faults_stm (W.annotated l t a v) = faults_place t ++ faults_exp a ++ faults_opt v
  faults_stm (W.assert l c m) = faults_exp c ++ faults_opt m
  faults_stm (W.pass l) = []
  faults_stm (W.del l ts) = faults_targets Never ts
  faults_stm (W.return l v) = faults_opt v
  faults_stm (W.raise l e c) = faults_exp e ++ faults_opt c
  faults_stm (W.raise_again l) = []
  faults_stm (W.break l) = []
  faults_stm (W.continue l) = []
  faults_stm (W.import l xs) = []
  faults_stm (W.import_from l dots m xs) = faults_origin l dots xs
  faults_stm (W.global l xs) = []
  faults_stm (W.nonlocal l xs) = []
  faults_stm (W.choice l bs els) = faults_branches bs ++ faults_stms els
  faults_stm (W.while l c body els) = faults_exp c ++ faults_stms body ++ faults_stms els
  faults_stm (W.for l t it body els) = faults_target Inside t ++ faults_exp it ++ faults_stms body ++ faults_stms els
  faults_stm (W.try l body hs els fin) = faults_stms body ++ faults_handlers hs ++ faults_stms els ++ faults_stms fin
  faults_stm (W.with l is body) = faults_items is ++ faults_stms body
  faults_stm (W.def l ds dl x ps r body) = faults_decorators ds ++ faults_params ps ++ faults_opt r ++ faults_stms body
  faults_stm (W.class l ds cl x args comma body) = faults_decorators ds ++ faults_base args comma ++ faults_args args ++ faults_stms body

  pub faults_stms : Stms → List Fault
  faults_stms W.none = []
  faults_stms (W.more s ss) = faults_stm s ++ faults_stms ss

  pub faults_branches : Branches → List Fault
  faults_branches W.no_branches = []
  faults_branches (W.branch l c body r) = faults_exp c ++ faults_stms body ++ faults_branches r

  pub faults_handlers : Handlers → List Fault
  faults_handlers W.no_handlers = []
  faults_handlers (W.handler l star c x body r) = faults_group l star ++ faults_opt c ++ faults_stms body ++ faults_handlers r
