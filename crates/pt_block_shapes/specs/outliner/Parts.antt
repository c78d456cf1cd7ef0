-- The blocks and the comprehensions in each part of a script, in source order, with the acts as they are evaluated.
use Rattle.std.specs.Prelude.{ℕ, ◌+◌, Bool, true, false, List, [], ◌∷◌, length, Option, Some, None, if◌then◌else◌}
use Rattle.sem_names.specs.declared.block_shape.BlockShape.{BlockShape}
use Rattle.pt_block_shapes.specs.outliner.Outline.{Outline, Part, ◌⨾◌, a_block, acts, behind, beginning, evaluated_first, in_comprehension, in_generator, inside, nothing, unevaluated}
use Rattle.pt_block_shapes.specs.outliner.Docstrings.{is_docstring}
use Rattle.pt_tree.specs.Sizes.{decorator_calls, joins, stored_by}
use Rattle.pt_tree.specs.Syntax as S
use Rattle.pt_tree.specs.Syntax.{Name, Exp, Exps, Opt, Pieces, Entries, Links, Args, Made, Clauses, Place, Tgt, Tgts, Params, Formals, Decorators, Items, Stm, Stms, Branches, Handlers}

-- a block in the body of the class c, whose name is empty outside of classes
abbrev pub shape : Name → (is_function : Bool) → BlockShape
shape c f = record { class = c; is_function = f }

abbrev mutual
  pub outline_exp : (evaluated : Bool) → Name → Exp → Part
  outline_exp u c (S.constant l k) = acts 1
  outline_exp u c (S.name l x) = acts 1
  outline_exp u c (S.joined l ps) = outline_pieces u c ps ⨾ acts 1
  outline_exp u c (S.tuple l es) = outline_all u c es ⨾ acts 1
  outline_exp u c (S.list l es) = outline_all u c es ⨾ acts 1
  outline_exp u c (S.set l es) = outline_all u c es ⨾ acts 1
  outline_exp u c (S.dict l es) = outline_entries u c es ⨾ acts 1
  outline_exp u c (S.attribute l a x) = outline_exp u c a ⨾ acts 1
  outline_exp u c (S.item l a i) = outline_exp u c a ⨾ outline_exp u c i ⨾ acts 1
  outline_exp u c (S.slice l a b d) = outline_opt u c a ⨾ outline_opt u c b ⨾ outline_opt u c d ⨾ acts 1
  outline_exp u c (S.unary l o a) = outline_exp u c a ⨾ acts 1
  outline_exp u c (S.not_of l a) = outline_exp u c a ⨾ acts 1
  outline_exp u c (S.binary l o a b) = outline_exp u c a ⨾ outline_exp u c b ⨾ acts 1
  outline_exp u c (S.compare l a o b r) = outline_exp u c a ⨾ outline_exp u c b ⨾ acts 1 ⨾ outline_links u c r
  outline_exp u c (S.and l a es) = outline_exp u c a ⨾ outline_operands u c es
  outline_exp u c (S.or l a es) = outline_exp u c a ⨾ outline_operands u c es
  outline_exp u c (S.conditional l t a b) = evaluated_first (outline_exp u c t ⨾ acts 1) (outline_exp u c a) ⨾ outline_exp u c b
  outline_exp u c (S.call l f args) = outline_exp u c f ⨾ outline_args u c args ⨾ acts 1
  outline_exp u c (S.lambda l b ps e) = a_block (shape c true) ⨾ outline_params u c ps ⨾ inside 0 (outline_exp true c e) ⨾ acts 1
  outline_exp u c (S.comprehension l m fl t it cs) = in_comprehension u (outline_exp u c it) (outline_target u c t) (outline_clauses u c cs) (outline_made u c m)
  outline_exp u c (S.generator l b e fl t it cs) =
      in_generator (shape c false) (outline_exp u c it) (outline_target true c t) (outline_clauses true c cs) (outline_exp true c e)
  outline_exp u c (S.yield l v) = outline_opt u c v ⨾ acts 1
  outline_exp u c (S.yield_from l e) = outline_exp u c e ⨾ acts 2

  pub outline_all : (evaluated : Bool) → Name → Exps → Part
  outline_all u c S.no_exps = nothing
  outline_all u c (S.more_exps e es) = outline_exp u c e ⨾ outline_all u c es

  -- behind an `and` or `or`, each behind its decision
  pub outline_operands : (evaluated : Bool) → Name → Exps → Part
  outline_operands u c S.no_exps = nothing
  outline_operands u c (S.more_exps e es) = acts 1 ⨾ outline_exp u c e ⨾ outline_operands u c es

  pub outline_opt : (evaluated : Bool) → Name → Opt → Part
  outline_opt u c S.absent = nothing
  outline_opt u c (S.given e) = outline_exp u c e

  pub outline_pieces : (evaluated : Bool) → Name → Pieces → Part
  outline_pieces u c S.no_pieces = nothing
  outline_pieces u c (S.literal l t r) = acts 1 ⨾ outline_pieces u c r
  outline_pieces u c (S.field l e k ps r) = outline_exp u c e ⨾ outline_pieces u c ps ⨾ acts (joins ps) ⨾ acts 1 ⨾ outline_pieces u c r

  pub outline_entries : (evaluated : Bool) → Name → Entries → Part
  outline_entries u c S.no_entries = nothing
  outline_entries u c (S.entry k v r) = outline_exp u c k ⨾ outline_exp u c v ⨾ outline_entries u c r

  pub outline_links : (evaluated : Bool) → Name → Links → Part
  outline_links u c S.no_links = nothing
  outline_links u c (S.link o b r) = acts 1 ⨾ outline_exp u c b ⨾ acts 1 ⨾ outline_links u c r

  pub outline_args : (evaluated : Bool) → Name → Args → Part
  outline_args u c S.no_args = nothing
  outline_args u c (S.positional e r) = outline_exp u c e ⨾ outline_args u c r
  outline_args u c (S.named x e r) = outline_exp u c e ⨾ outline_args u c r
  outline_args u c (S.spread e r) = outline_exp u c e ⨾ acts 1 ⨾ outline_args u c r
  outline_args u c (S.spread_named e r) = outline_exp u c e ⨾ acts 1 ⨾ outline_args u c r

  pub outline_made : (evaluated : Bool) → Name → Made → Part
  outline_made u c (S.a_list e) = outline_exp u c e ⨾ acts 1
  outline_made u c (S.a_set e) = outline_exp u c e ⨾ acts 1
  outline_made u c (S.a_dict k v) = outline_exp u c k ⨾ outline_exp u c v ⨾ acts 1

  pub outline_clauses : (evaluated : Bool) → Name → Clauses → Part
  outline_clauses u c S.no_clauses = nothing
  outline_clauses u c (S.only_if e cs) = outline_exp u c e ⨾ acts 1 ⨾ outline_clauses u c cs
  outline_clauses u c (S.for_each l t it cs) = evaluated_first (outline_exp u c it ⨾ acts 2) (outline_target u c t) ⨾ outline_clauses u c cs

  pub outline_place : (evaluated : Bool) → Name → Place → Part
  outline_place u c (S.name_at l x) = acts 1
  outline_place u c (S.attribute_at l a x) = outline_exp u c a ⨾ acts 1
  outline_place u c (S.item_at l a i) = outline_exp u c a ⨾ outline_exp u c i ⨾ acts 1

  pub outline_target : (evaluated : Bool) → Name → Tgt → Part
  outline_target u c (S.single p) = outline_place u c p
  outline_target u c (S.several l f ts) = acts 1 ⨾ outline_targets u c ts
  outline_target u c (S.starred l t) = outline_target u c t

  pub outline_targets : (evaluated : Bool) → Name → Tgts → Part
  outline_targets u c S.no_targets = nothing
  outline_targets u c (S.more_targets t ts) = outline_target u c t ⨾ outline_targets u c ts

  -- the defaults
  pub outline_params : (evaluated : Bool) → Name → Params → Part
  outline_params u c (S.parameters ps s ks d) = outline_formals u c ps ⨾ outline_formals u c ks

  pub outline_formals : (evaluated : Bool) → Name → Formals → Part
  outline_formals u c S.no_formals = nothing
  outline_formals u c (S.formal l x a d r) = outline_opt u c d ⨾ outline_formals u c r

-- the conditions of a clause
abbrev pub outline_conditions : (evaluated : Bool) → Name → List Exp → Part
outline_conditions u c [] = nothing
outline_conditions u c (e ∷ es) = outline_exp u c e ⨾ acts 1 ⨾ outline_conditions u c es

-- a target that is deleted
abbrev mutual
  pub outline_deleted : Name → Tgt → Part
  outline_deleted c (S.single p) = outline_place true c p
  outline_deleted c (S.several l f ts) = outline_all_deleted c ts
  outline_deleted c (S.starred l t) = outline_deleted c t

  pub outline_all_deleted : Name → Tgts → Part
  outline_all_deleted c S.no_targets = nothing
  outline_all_deleted c (S.more_targets t ts) = outline_deleted c t ⨾ outline_all_deleted c ts

abbrev pub outline_decorators : Name → Decorators → Part
outline_decorators c S.no_decorators = nothing
outline_decorators c (S.decorator l e r) = outline_exp true c e ⨾ outline_decorators c r

abbrev pub outline_opt_target : Name → Option Tgt → Part
outline_opt_target c None = nothing
outline_opt_target c (Some t) = outline_target true c t

abbrev pub outline_items : Name → Items → Part
outline_items c S.no_items = nothing
outline_items c (S.with_item l e t r) = outline_exp true c e ⨾ acts 1 ⨾ outline_opt_target c t ⨾ outline_items c r

-- a statement that runs, where it stands first in a function (8.7)
abbrev pub unless_docstring : Stm → Part → Part
unless_docstring s f = if is_docstring s then nothing else f

abbrev pub item_count : Items → ℕ
item_count S.no_items = 0
item_count (S.with_item l e t r) = item_count r + 1

abbrev mutual
  pub outline_stm : Name → Stm → Part
  outline_stm c (S.expr l e) = outline_exp true c e ⨾ acts 1
  outline_stm c (S.assign l ts e) = evaluated_first (outline_exp true c e) (outline_targets true c ts)
  outline_stm c (S.augmented l p o e) = outline_place true c p ⨾ outline_exp true c e ⨾ acts 2
  -- without a value an annotation is one act, whatever stands in its target (7.2.2)
  outline_stm c (S.annotated l p a S.absent) = unevaluated (outline_place false c p) ⨾ acts 1
  outline_stm c (S.annotated l p a (S.given e)) = evaluated_first (outline_exp true c e) (outline_place true c p)
  outline_stm c (S.assert l e m) = outline_exp true c e ⨾ acts 1 ⨾ outline_opt true c m ⨾ acts 1
  outline_stm c (S.pass l) = acts 1
  outline_stm c (S.del l ts) = outline_all_deleted c ts
  outline_stm c (S.return l v) = outline_opt true c v ⨾ acts 1
  outline_stm c (S.raise l e f) = outline_exp true c e ⨾ outline_opt true c f ⨾ acts 1
  outline_stm c (S.raise_again l) = acts 1
  outline_stm c (S.break l) = acts 1
  outline_stm c (S.continue l) = acts 1
  outline_stm c (S.import l xs) = acts (length xs) ⨾ acts (length xs)
  outline_stm c (S.import_from l m xs) = acts 1 ⨾ acts (length xs) ⨾ acts (length xs)
  outline_stm c (S.global l xs) = nothing
  outline_stm c (S.nonlocal l xs) = nothing
  outline_stm c (S.choice l bs els) = outline_branches c bs ⨾ outline_stms c els
  outline_stm c (S.while l e body els) = outline_exp true c e ⨾ acts 1 ⨾ outline_stms c body ⨾ outline_stms c els
  outline_stm c (S.for l t it body els) =
      evaluated_first (outline_exp true c it ⨾ acts 2) (outline_target true c t) ⨾ outline_stms c body ⨾ outline_stms c els
  outline_stm c (S.try l body hs els fin) = acts 1 ⨾ outline_stms c body ⨾ outline_handlers c hs ⨾ outline_stms c els ⨾ outline_stms c fin
  outline_stm c (S.with l is body) = outline_items c is ⨾ outline_stms c body ⨾ acts (item_count is)
  outline_stm c (S.def l ds dl b x ps r body) =
      outline_decorators c ds ⨾ a_block (shape c true) ⨾ outline_params true c ps ⨾ inside 0 (outline_body c body) ⨾ acts (decorator_calls ds) ⨾ acts 2
  outline_stm c (S.class l ds cl b x base body) =
      outline_decorators c ds ⨾ a_block (shape x false) ⨾ outline_opt true c base ⨾ inside 0 (outline_stms x body) ⨾ acts (decorator_calls ds) ⨾ acts 2
  outline_stm c (S.docstring l) = nothing

  pub outline_stms : Name → Stms → Part
  outline_stms c S.none = nothing
  outline_stms c (S.more s ss) = outline_stm c s ⨾ outline_stms c ss

  -- the body of a function, whose documentation string has no acts (8.7)
  pub outline_body : Name → Stms → Part
  outline_body c S.none = nothing
  outline_body c (S.more s ss) = unless_docstring s (outline_stm c s) ⨾ outline_stms c ss

  pub outline_branches : Name → Branches → Part
  outline_branches c S.no_branches = nothing
  outline_branches c (S.branch l e body r) = outline_exp true c e ⨾ acts 1 ⨾ outline_stms c body ⨾ outline_branches c r

  pub outline_handlers : Name → Handlers → Part
  outline_handlers c S.no_handlers = nothing
  outline_handlers c (S.handler l e x body r) = outline_opt true c e ⨾ acts 1 ⨾ acts (stored_by x) ⨾ outline_stms c body ⨾ outline_handlers c r

-- the module is block 0
abbrev pub outline_script : Stms → Outline
outline_script ss = behind (beginning 0) (a_block (shape [] false) ⨾ outline_stms [] ss)
