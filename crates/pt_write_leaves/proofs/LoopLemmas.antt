-- Names that are made anew one behind the other, and those of clauses.
use Rattle.std.proofs.Common.{◌≡◌, List, [], ◌∷◌, ◌++◌, refl}
use Rattle.pt_base.specs.declared.numbers.ActNo.{ActNo}
use Rattle.pt_tree.specs.Syntax.{Name, Exp, Clauses}
use Rattle.pt_tree.specs.Fold.{conditions_of}
use Rattle.sem_control.specs.control.Expressions.{clause_names}
use Rattle.pt_block_names.specs.declared.block_names.BlockNames.{BlockNames}
use Rattle.pt_assembler.specs.Piece.{move}
use Rattle.pt_assembler.specs.Layout.{Written, layout}
use Rattle.pt_write_ops.specs.sem_compile.emitter.Ops.{renew}
use Rattle.pt_expr_forms.specs.Behind.{known, numbers}
use Rattle.pt_expr_forms.specs.Loops.{behind_renewal}

pub renewal-append : (b : BlockNames) (ns : List ActNo) (xs ys : List Name) (w : Written)
    → behind_renewal b ns (xs ++ ys) w ≡ behind_renewal b ns ys (behind_renewal b ns xs w)
renewal-append b ns [] ys w = refl
renewal-append b ns (x ∷ xs) ys w = renewal-append b ns xs ys (layout (move (renew ((known b).variable (numbers ns) x))) [] w)

pub clause_names-conditions : (es : List Exp) (cs : Clauses) → clause_names (conditions_of es cs) ≡ clause_names cs
clause_names-conditions [] cs = refl
clause_names-conditions (e ∷ es) cs = clause_names-conditions es cs

pub ruleset names = (renewal-append, clause_names-conditions)
