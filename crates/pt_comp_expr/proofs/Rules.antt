-- Lemmas by the functions that need them.
use Rattle.std.proofs.Common.{◌≡◌, ◌≤◌, ℕ, suc, List, length, drop, map, Bool, false, Option, Some, None, ap, sym, ◌∙◌}
use Rattle.std.proofs.lemmas.List.{drop_all}
use Rattle.pt_base.specs.declared.numbers.ActNo.{ActNo}
use Rattle.pt_tree.specs.declared.expression.Clause.{Clause, out-Clause}
use Rattle.pt_tree.specs.declared.expression.Expr.{Expr}
use Rattle.pt_tree.specs.declared.expression.Parameter.{Parameter, out-Parameter}
use Rattle.pt_tree.specs.Syntax as S
use Rattle.pt_tree.specs.Syntax.{Exps, Entries, Formals}
use Rattle.pt_tree.specs.Fold.{ClauseOf, exp_of, formal_of, opt_exp, target_of}
use Rattle.pt_tree.proofs.Folds.{expressions, formal_of-parts}
use Rattle.pt_instr.specs.declared.Instr.{Instr}
use Rattle.pt_instr.specs.declared.Instr.TheVariants as instr
use Rattle.pt_block_names.specs.declared.block_names.BlockNames.{BlockNames}
use Rattle.pt_assembler.specs.declared.operation.Label.{Label}
use Rattle.pt_assembler.specs.Layout.{Written}
use Rattle.pt_write_leaves.specs.pt_expr_forms.declared.display.Display.{Display}
use Rattle.pt_write_leaves.specs.pt_expr_forms.Behind.{plain_act, still, behind_exp, display_of, display_instr, exps_count, behind_all, entries_count, behind_entries, defaults_count, behind_defaults}
use Rattle.pt_write_leaves.specs.pt_expr_forms.Loops.{behind_conditions}
use Rattle.pt_write_leaves.proofs.pt_expr_forms.Forms.{display-form, dict-form, several-form, starred-form, name_at-form, attribute_at-form, item_at-form, exp-laid, target-laid, acts-exp, acts-target}

-- a clause by its parts
abbrev pub parts : Clause → ClauseOf
parts c = let q = out-Clause c in record { line = q.line.0; target = target_of q.target; iterable = exp_of q.iterable; conditions = map exp_of q.conditions }

module _ (b : BlockNames) (ns : List ActNo) where
  -- the default of a parameter, which has one or none
  pub default-none : (p : Parameter) (r : Formals) (g : Bool) (w : Written) → (out-Parameter p).default ≡ None
      → (defaults_count (formal_of p r) ≡ defaults_count r) × (behind_defaults b ns (formal_of p r) g w ≡ behind_defaults b ns r g w)
  default-none p r g w is =
      let q = out-Parameter p in
      let formal : Option Expr → Formals = λ o. S.formal q.line.0 q.name (opt_exp q.annotation) (opt_exp o) r in
      let same : formal_of p r ≡ formal None = formal_of-parts p r ∙ ap formal is in
      (ap defaults_count same, ap (λ f. behind_defaults b ns f g w) same)

  pub default-some : (p : Parameter) (r : Formals) (e : Expr) (g : Bool) (w v : Written) → (out-Parameter p).default ≡ Some e
      → v ≡ behind_exp b ns (exp_of e) g w
      → (defaults_count (formal_of p r) ≡ suc (defaults_count r)) × (behind_defaults b ns (formal_of p r) g w ≡ behind_defaults b ns r false v)
  default-some p r e g w v is written =
      let q = out-Parameter p in
      let formal : Option Expr → Formals = λ o. S.formal q.line.0 q.name (opt_exp q.annotation) (opt_exp o) r in
      let same : formal_of p r ≡ formal (Some e) = formal_of-parts p r ∙ ap formal is in
      (ap defaults_count same, ap (λ f. behind_defaults b ns f g w) same ∙ ap (λ u. behind_defaults b ns r false u) (sym written))

  pub default-left : (r f : Formals) (g due : Bool) (n : ℕ) (w v : Written) → behind_defaults b ns f due w ≡ behind_defaults b ns r (still due n) v → g ≡ still due n
      → behind_defaults b ns r g v ≡ behind_defaults b ns f due w
  default-left r f g due n w v is same = ap (λ h. behind_defaults b ns r h v) same ∙ sym is

  -- behind the last condition of a clause
  pub conditions-left : (tests items : List Expr) (i : ℕ) (h : Label) (l : ℕ) (w v : Written) → length items ≤ i → items ≡ tests
      → behind_conditions b ns (map exp_of (drop i items)) h l w ≡ behind_conditions b ns (map exp_of items) h l v
      → w ≡ behind_conditions b ns (map exp_of tests) h l v
  conditions-left tests items i h l w v past same is =
      sym (ap (λ es. behind_conditions b ns (map exp_of es) h l w) (drop_all i items past)) ∙ is ∙ ap (λ es. behind_conditions b ns (map exp_of es) h l v) same

  -- a display behind its items, and a dictionary behind its entries
  pub display-written : (d : Display) (l : ℕ) (es : Exps) (g : Bool) (old last new : Written) (i : Instr) (due : Bool) (count : ℕ) → last ≡ behind_all b ns es g old
      → count ≡ exps_count es → i ≡ display_instr d count → due ≡ still g count → new ≡ plain_act i l due last → new ≡ behind_exp b ns (display_of d l es) g old
  display-written d l es g old last new i due count is_last is_count is_instr is_due is =
      is ∙ ap (λ j. plain_act j l due last) (is_instr ∙ ap (λ k. display_instr d k) is_count)
      ∙ ap (λ h. plain_act (display_instr d (exps_count es)) l h last) (is_due ∙ ap (λ k. still g k) is_count)
      ∙ ap (λ u. plain_act (display_instr d (exps_count es)) l (still g (exps_count es)) u) is_last ∙ sym (display-form b ns d l es g old)

  pub dictionary-written : (l : ℕ) (es : Entries) (g : Bool) (old last new : Written) (due : Bool) (count : ℕ) → last ≡ behind_entries b ns es g old
      → count ≡ entries_count es → due ≡ still g count → new ≡ plain_act (instr.Dict count) l due last → new ≡ behind_exp b ns (S.dict l es) g old
  dictionary-written l es g old last new due count is_last is_count is_due is =
      is ∙ ap (λ k. plain_act (instr.Dict k) l due last) is_count
      ∙ ap (λ h. plain_act (instr.Dict (entries_count es)) l h last) (is_due ∙ ap (λ k. still g k) is_count)
      ∙ ap (λ u. plain_act (instr.Dict (entries_count es)) l (still g (entries_count es)) u) is_last ∙ sym (dict-form b ns l es g old)

pub ruleset targets = (expressions, several-form, starred-form)

pub ruleset places = (expressions, name_at-form, attribute_at-form, item_at-form)

pub ruleset laid = (exp-laid, target-laid, acts-exp, acts-target)
