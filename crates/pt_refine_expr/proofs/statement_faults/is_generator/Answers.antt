use Rattle.std.proofs.Common.{sym, arith}
use Rattle.pt_wide.proofs.Folds.{exp_of-Comprehension}
use Rattle.pt_refine_expr.proofs.Others.{generator-other}
use Rattle.pt_refine_expr.proofs.statement_faults.is_generator.Goals as goal

pub returns-in-List : goal.returns-in-List
returns-in-List c = grind (arith, exp_of-Comprehension c.args.e.now _ _ _ _ c.in-Comprehension.is)

pub returns-in-Set : goal.returns-in-Set
returns-in-Set c = grind (arith, exp_of-Comprehension c.args.e.now _ _ _ _ c.in-Comprehension.is)

pub returns-in-Generator : goal.returns-in-Generator
returns-in-Generator c = grind (arith, exp_of-Comprehension c.args.e.now _ _ _ _ c.in-Comprehension.is)

pub returns-in_default : goal.returns-in_default
returns-in_default c = sym (generator-other c.args.e.now c.in_default.not-Comprehension)
