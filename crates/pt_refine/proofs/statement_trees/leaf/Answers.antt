use Rattle.std.proofs.Common.{arith, ◌∙◌, ap, refl}
use Rattle.pt_tree.proofs.StatementFolds as tree
use Rattle.pt_tree.specs.Syntax as P
use Rattle.pt_wide.proofs.StatementFolds as wide
use Rattle.pt_refine_expr.proofs.Building.{leaves, made-is, made-none}
use Rattle.pt_refine.proofs.StatementBuilding.{at-made-stm}
use Rattle.pt_refine.specs.StatementsNarrowed.{narrow_leaf}
use Rattle.pt_refine.proofs.OtherStatements.{leaf-other}
use Rattle.pt_refine.proofs.statement_trees.leaf.Goals as goal

pub returns-in-Pass : goal.returns-in-Pass
returns-in-Pass c = at-made-stm (narrow_leaf c.args.n.now) (wide.stm_of-Pass c.args.s.now c.in-Pass.is) (made-is refl (tree.stm_of-Pass _ refl) refl (made-none refl))

pub returns-in-RaiseAgain : goal.returns-in-RaiseAgain
returns-in-RaiseAgain c = at-made-stm (narrow_leaf c.args.n.now) (wide.stm_of-RaiseAgain c.args.s.now c.in-RaiseAgain.is) (made-is refl (tree.stm_of-RaiseAgain _ refl) refl (made-none refl))

pub returns-in-Break : goal.returns-in-Break
returns-in-Break c = at-made-stm (narrow_leaf c.args.n.now) (wide.stm_of-Break c.args.s.now c.in-Break.is) (made-is refl (tree.stm_of-Break _ refl) refl (made-none refl))

pub returns-in-Continue : goal.returns-in-Continue
returns-in-Continue c = at-made-stm (narrow_leaf c.args.n.now) (wide.stm_of-Continue c.args.s.now c.in-Continue.is) (made-is refl (tree.stm_of-Continue _ refl) refl (made-none refl))

pub returns-in_ok-names-in-Import : goal.returns-in_ok-names-in-Import
returns-in_ok-names-in-Import c = at-made-stm (narrow_leaf c.args.n.now) (wide.stm_of-Import c.args.s.now _ (c.in-Import.is ∙ rw c.as_slice.ensures)) (made-is refl (tree.stm_of-Import _ _ refl ∙ ap (P.import c.args.s.now.line.0) c.in_ok-names-in-Import.ensures) refl (made-none refl))

pub returns-in_ok-origin-in-ImportFrom : goal.returns-in_ok-origin-in-ImportFrom
returns-in_ok-origin-in-ImportFrom c = at-made-stm (narrow_leaf c.args.n.now) (wide.stm_of-ImportFrom c.args.s.now _ _ _ c.in-ImportFrom.is) (made-is (c.in_ok-names-in-ImportFrom.ensures.ok c.args.s.now.line.0 c.in-ImportFrom.origin) (tree.stm_of-ImportFrom _ _ _ refl ∙ ap (λ m. P.import_from c.args.s.now.line.0 m c.in_ok-names-in-ImportFrom.names) c.in_ok-origin-in-ImportFrom.ensures) refl (made-none refl))

pub returns-in_ok-names-in-Global : goal.returns-in_ok-names-in-Global
returns-in_ok-names-in-Global c = at-made-stm (narrow_leaf c.args.n.now) (wide.stm_of-Global c.args.s.now _ c.in-Global.is) (made-is refl (tree.stm_of-Global _ _ refl ∙ ap (P.global c.args.s.now.line.0) c.in_ok-names-in-Global.ensures) refl (made-none refl))

pub returns-in_ok-names-in-Nonlocal : goal.returns-in_ok-names-in-Nonlocal
returns-in_ok-names-in-Nonlocal c = at-made-stm (narrow_leaf c.args.n.now) (wide.stm_of-Nonlocal c.args.s.now _ c.in-Nonlocal.is) (made-is refl (tree.stm_of-Nonlocal _ _ refl ∙ ap (P.nonlocal c.args.s.now.line.0) c.in_ok-names-in-Nonlocal.ensures) refl (made-none refl))

pub returns-in_err-names-in-ImportFrom : goal.returns-in_err-names-in-ImportFrom
returns-in_err-names-in-ImportFrom c = grind (arith, leaves, wide.stm_of-ImportFrom c.args.s.now _ _ _ c.in-ImportFrom.is)

pub returns-in_default : goal.returns-in_default
returns-in_default c = λ out. leaf-other c.args.n.now c.args.s.now (c.in_default.not-Pass, c.in_default.not-RaiseAgain, c.in_default.not-Break, c.in_default.not-Continue, c.in_default.not-Import, c.in_default.not-ImportFrom, c.in_default.not-Global, c.in_default.not-Nonlocal)
