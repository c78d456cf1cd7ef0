use Rattle.std.proofs.Common.{◌≡◌, ◌∙◌, ap, option_map, sym, None}
use Rattle.pt_refine_expr.specs.First.{fault_of, first_of}
use Rattle.pt_refine_expr.specs.Faults.{faults_exp}
use Rattle.pt_wide.specs.Fold.{exp_of}
use Rattle.pt_refine_expr.specs.Told.{no_memory}
use Rattle.pt_refine_expr.specs.Narrow.{narrow_exp}
use Rattle.pt_refine_expr.proofs.Agreement.{agreed}
use Rattle.pt_refine_expr.proofs.OnePass.{agrees-exp}
use Rattle.pt_refine_expr.proofs.Telling.{never-left, told-first}
use Rattle.pt_refine_expr.proofs.language.narrow_expr.Goals as goal

pub returns-in-Some-clause-err : goal.returns-in-Some-clause-err
returns-in-Some-clause-err c = told-first (fault_of c.in-Some.fault) (faults_exp (exp_of c.args.e.now)) c.told.result (sym (ap (option_map fault_of) c.in-Some.is) ∙ c.first_fault_of_expr.ensures) c.told.ensures

pub returns-in-Err-Memory-clause-err : goal.returns-in-Err-Memory-clause-err
returns-in-Err-Memory-clause-err c = no_memory _

pub unreachable-requires : goal.unreachable-requires
unreachable-requires c =
    let tree = exp_of c.args.e.now in
    let clean : None ≡ first_of (faults_exp tree) = sym (ap (option_map fault_of) c.in_default.is) ∙ c.first_fault_of_expr.ensures in
    never-left (narrow_exp c.new-narrower.result tree) (faults_exp tree) (agreed (agrees-exp c.new-narrower.result tree)) clean (c.in-Err-LeftOut.ensures c.in-Err-LeftOut.field-0-is)
