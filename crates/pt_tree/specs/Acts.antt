-- The acts of each part of a tree in the block where they run, in the order of evaluation (Language Reference 6.16, 7, 8), each
-- with its line (PEP 626).
use Rattle.std.specs.Prelude.{ℕ, true, false, List, [], ◌∷◌, ◌++◌, Option, Some, None}
use Rattle.pt_tree.specs.declared.act.ActRow.{ActRow}
use Rattle.pt_tree.specs.declared.act.ActKind.{ActKind}
use Rattle.pt_tree.specs.declared.act.ActKind.TheVariants as A
use Rattle.pt_tree.specs.declared.statement.Alias.{Alias}
use Rattle.pt_tree.specs.Syntax as S
use Rattle.pt_tree.specs.Syntax.{Exp, Exps, Opt, Pieces, Entries, Links, Args, Made, Clauses, Place, Tgt, Tgts, Params, Formals, Decorators, Items, Stm, Stms, Branches, Handlers}

abbrev pub act : ActKind → (line : ℕ) → List ActRow
act k l = record { kind = k; line = record { 0 = l }; again = false } ∷ []

-- a loop tests again with the first of these acts
abbrev pub again : List ActRow → List ActRow
again [] = []
again (r ∷ rs) = record { kind = r.kind; line = r.line; again = true } ∷ rs

-- the parts of a replacement field's spec are joined where there are several
abbrev pub acts_join : (line : ℕ) → Pieces → List ActRow
acts_join l S.no_pieces = []
acts_join l (S.literal k t S.no_pieces) = []
acts_join l (S.field k e c ps S.no_pieces) = []
acts_join l (S.literal k t r) = act A.Join l
acts_join l (S.field k e c ps r) = act A.Join l

abbrev mutual
  pub acts_exp : Exp → List ActRow
  acts_exp (S.constant l k) = act A.Const l
  acts_exp (S.name l x) = act A.Load l
  acts_exp (S.joined l ps) = acts_pieces ps ++ act A.Join l
  acts_exp (S.tuple l es) = acts_all es ++ act A.Build l
  acts_exp (S.list l es) = acts_all es ++ act A.Build l
  acts_exp (S.set l es) = acts_all es ++ act A.Build l
  acts_exp (S.dict l es) = acts_entries es ++ act A.Build l
  acts_exp (S.attribute l a x) = acts_exp a ++ act A.Attr l
  acts_exp (S.item l a i) = acts_exp a ++ acts_exp i ++ act A.Item l
  acts_exp (S.slice l a b c) = acts_opt a ++ acts_opt b ++ acts_opt c ++ act A.Slice l
  acts_exp (S.unary l o a) = acts_exp a ++ act A.Unary l
  acts_exp (S.not_of l a) = acts_exp a ++ act A.Not l
  acts_exp (S.binary l o a b) = acts_exp a ++ acts_exp b ++ act A.Binary l
  acts_exp (S.compare l a o b r) = acts_exp a ++ acts_exp b ++ act A.Compare l ++ acts_links l r
  acts_exp (S.and l a es) = acts_exp a ++ acts_operands l es
  acts_exp (S.or l a es) = acts_exp a ++ acts_operands l es
  acts_exp (S.conditional l c a b) = acts_exp c ++ act A.Branch l ++ acts_exp a ++ acts_exp b
  acts_exp (S.call l f args) = acts_exp f ++ acts_args l args ++ act A.Call l
  acts_exp (S.lambda l b ps e) = acts_params ps ++ act A.Function l
  acts_exp (S.comprehension l m fl t it cs) = acts_exp it ++ act A.Iter fl ++ act A.Build l ++ act A.Next fl ++ acts_target t ++ acts_clauses l cs ++ acts_made l m
  acts_exp (S.generator l b e fl t it cs) = acts_exp it ++ act A.Iter fl ++ act A.Generator l
  acts_exp (S.yield l v) = acts_opt v ++ act A.Yield l
  acts_exp (S.yield_from l e) = acts_exp e ++ act A.Iter l ++ act A.Delegate l

  pub acts_all : Exps → List ActRow
  acts_all S.no_exps = []
  acts_all (S.more_exps e es) = acts_exp e ++ acts_all es

  -- behind an `and` or `or`, each with the decision before it
  pub acts_operands : (line : ℕ) → Exps → List ActRow
  acts_operands l S.no_exps = []
  acts_operands l (S.more_exps e es) = act A.Branch l ++ acts_exp e ++ acts_operands l es

  pub acts_opt : Opt → List ActRow
  acts_opt S.absent = []
  acts_opt (S.given e) = acts_exp e

  pub acts_pieces : Pieces → List ActRow
  acts_pieces S.no_pieces = []
  acts_pieces (S.literal l t r) = act A.Const l ++ acts_pieces r
  acts_pieces (S.field l e c ps r) = acts_exp e ++ acts_pieces ps ++ acts_join l ps ++ act A.Format l ++ acts_pieces r

  pub acts_entries : Entries → List ActRow
  acts_entries S.no_entries = []
  acts_entries (S.entry k v r) = acts_exp k ++ acts_exp v ++ acts_entries r

  -- each link with the decision before it and the comparison behind it
  pub acts_links : (line : ℕ) → Links → List ActRow
  acts_links l S.no_links = []
  acts_links l (S.link o b r) = act A.Branch l ++ acts_exp b ++ act A.Compare l ++ acts_links l r

  pub acts_args : (line : ℕ) → Args → List ActRow
  acts_args l S.no_args = []
  acts_args l (S.positional e r) = acts_exp e ++ acts_args l r
  acts_args l (S.named x e r) = acts_exp e ++ acts_args l r
  acts_args l (S.spread e r) = acts_exp e ++ act A.Spread l ++ acts_args l r
  acts_args l (S.spread_named e r) = acts_exp e ++ act A.Spread l ++ acts_args l r

  -- with the act that adds it
  pub acts_made : (line : ℕ) → Made → List ActRow
  acts_made l (S.a_list e) = acts_exp e ++ act A.Add l
  acts_made l (S.a_set e) = acts_exp e ++ act A.Add l
  acts_made l (S.a_dict k v) = acts_exp k ++ acts_exp v ++ act A.Add l

  -- on the line of the comprehension, or of the `for`
  pub acts_clauses : (line : ℕ) → Clauses → List ActRow
  acts_clauses l S.no_clauses = []
  acts_clauses l (S.only_if c cs) = acts_exp c ++ act A.Branch l ++ acts_clauses l cs
  acts_clauses l (S.for_each fl t it cs) = acts_exp it ++ act A.Iter fl ++ act A.Next fl ++ acts_target t ++ acts_clauses l cs

  -- a value is bound to the place
  pub acts_place : Place → List ActRow
  acts_place (S.name_at l x) = act A.Store l
  acts_place (S.attribute_at l a x) = acts_exp a ++ act A.SetAttr l
  acts_place (S.item_at l a i) = acts_exp a ++ acts_exp i ++ act A.SetItem l

  pub acts_target : Tgt → List ActRow
  acts_target (S.single p) = acts_place p
  acts_target (S.several l f ts) = act A.Unpack l ++ acts_targets ts
  acts_target (S.starred l t) = acts_target t

  pub acts_targets : Tgts → List ActRow
  acts_targets S.no_targets = []
  acts_targets (S.more_targets t ts) = acts_target t ++ acts_targets ts

  pub acts_params : Params → List ActRow
  acts_params (S.parameters ps s ks d) = acts_formals ps ++ acts_formals ks

  -- the defaults alone
  pub acts_formals : Formals → List ActRow
  acts_formals S.no_formals = []
  acts_formals (S.formal l x a d r) = acts_opt d ++ acts_formals r

-- the value of the target of an augmented assignment; its parts are evaluated once
abbrev pub acts_got : Place → List ActRow
acts_got (S.name_at l x) = act A.Load l
acts_got (S.attribute_at l a x) = acts_exp a ++ act A.Attr l
acts_got (S.item_at l a i) = acts_exp a ++ acts_exp i ++ act A.Item l

abbrev pub acts_put : Place → List ActRow
acts_put (S.name_at l x) = act A.Store l
acts_put (S.attribute_at l a x) = act A.SetAttr l
acts_put (S.item_at l a i) = act A.SetItem l

abbrev pub acts_deleted_place : Place → List ActRow
acts_deleted_place (S.name_at l x) = act A.Delete l
acts_deleted_place (S.attribute_at l a x) = acts_exp a ++ act A.DelAttr l
acts_deleted_place (S.item_at l a i) = acts_exp a ++ acts_exp i ++ act A.DelItem l

-- a target that is deleted
abbrev mutual
  pub acts_deleted : Tgt → List ActRow
  acts_deleted (S.single p) = acts_deleted_place p
  acts_deleted (S.several l f ts) = acts_all_deleted ts
  acts_deleted (S.starred l t) = acts_deleted t

  pub acts_all_deleted : Tgts → List ActRow
  acts_all_deleted S.no_targets = []
  acts_all_deleted (S.more_targets t ts) = acts_deleted t ++ acts_all_deleted ts

abbrev pub acts_decorators : Decorators → List ActRow
acts_decorators S.no_decorators = []
acts_decorators (S.decorator l e r) = acts_exp e ++ acts_decorators r

-- the last decorator is called first
abbrev pub acts_decorator_calls : Decorators → List ActRow
acts_decorator_calls S.no_decorators = []
acts_decorator_calls (S.decorator l e r) = acts_decorator_calls r ++ act A.Call l

abbrev pub acts_opt_target : Option Tgt → List ActRow
acts_opt_target None = []
acts_opt_target (Some t) = acts_target t

-- the items of a `with` around the acts that stand inside
abbrev pub acts_items : Items → (inside : List ActRow) → List ActRow
acts_items S.no_items k = k
acts_items (S.with_item l e t is) k = acts_exp e ++ act A.Enter l ++ acts_opt_target t ++ acts_items is k ++ act A.Exit l

-- without a value the target isn't evaluated
abbrev pub acts_annotated : (line : ℕ) → Place → Opt → List ActRow
acts_annotated l p S.absent = act A.Pass l
acts_annotated l p (S.given e) = acts_exp e ++ acts_place p

-- a handler's `as`
abbrev pub acts_named : (line : ℕ) → Option (List ℕ) → List ActRow
acts_named l None = []
acts_named l (Some x) = act A.Store l

abbrev pub acts_imports : (line : ℕ) → List Alias → List ActRow
acts_imports l [] = []
acts_imports l (x ∷ xs) = act A.Import l ++ act A.Store l ++ acts_imports l xs

abbrev pub acts_import_names : (line : ℕ) → List Alias → List ActRow
acts_import_names l [] = []
acts_import_names l (x ∷ xs) = act A.ImportName l ++ act A.Store l ++ acts_import_names l xs

abbrev mutual
  pub acts_stm : Stm → List ActRow
  acts_stm (S.expr l e) = acts_exp e ++ act A.Discard l
  acts_stm (S.assign l ts e) = acts_exp e ++ acts_targets ts
  acts_stm (S.augmented l p o e) = acts_got p ++ acts_exp e ++ act A.InPlace l ++ acts_put p
  acts_stm (S.annotated l p a v) = acts_annotated l p v
  acts_stm (S.assert l c m) = acts_exp c ++ act A.Branch l ++ acts_opt m ++ act A.Raise l
  acts_stm (S.pass l) = act A.Pass l
  acts_stm (S.del l ts) = acts_all_deleted ts
  acts_stm (S.return l v) = acts_opt v ++ act A.Return l
  acts_stm (S.raise l e c) = acts_exp e ++ acts_opt c ++ act A.Raise l
  acts_stm (S.raise_again l) = act A.Raise l
  acts_stm (S.break l) = act A.Break l
  acts_stm (S.continue l) = act A.Continue l
  acts_stm (S.import l xs) = acts_imports l xs
  acts_stm (S.import_from l m xs) = act A.Import l ++ acts_import_names l xs
  acts_stm (S.global l xs) = []
  acts_stm (S.nonlocal l xs) = []
  acts_stm (S.choice l bs els) = acts_branches bs ++ acts_stms els
  acts_stm (S.while l c body els) = again (acts_exp c) ++ act A.Branch l ++ acts_stms body ++ acts_stms els
  acts_stm (S.for l t it body els) = acts_exp it ++ act A.Iter l ++ again (act A.Next l) ++ acts_target t ++ acts_stms body ++ acts_stms els
  acts_stm (S.try l body hs els fin) = act A.Try l ++ acts_stms body ++ acts_handlers hs ++ acts_stms els ++ acts_stms fin
  acts_stm (S.with l is body) = acts_items is (acts_stms body)
  acts_stm (S.def l ds dl b x ps r body) = acts_decorators ds ++ acts_params ps ++ act A.Function dl ++ acts_decorator_calls ds ++ act A.Store dl
  acts_stm (S.class l ds cl b x base body) = acts_decorators ds ++ acts_opt base ++ act A.Class cl ++ acts_decorator_calls ds ++ act A.Store cl
  acts_stm (S.docstring l) = []

  pub acts_stms : Stms → List ActRow
  acts_stms S.none = []
  acts_stms (S.more s ss) = acts_stm s ++ acts_stms ss

  pub acts_branches : Branches → List ActRow
  acts_branches S.no_branches = []
  acts_branches (S.branch l c body r) = acts_exp c ++ act A.Branch l ++ acts_stms body ++ acts_branches r

  -- a handler's class and its Match stand before its body
  pub acts_handlers : Handlers → List ActRow
  acts_handlers S.no_handlers = []
  acts_handlers (S.handler l c x body r) = acts_opt c ++ act A.Match l ++ acts_named l x ++ acts_stms body ++ acts_handlers r
