use Rattle.std.proofs.Common.{◌≡◌, ◌∙◌, ap, option_map, sym, None}
use Rattle.pt_refine_expr.specs.StatementFaults.{faults_stms}
use Rattle.pt_wide.specs.StatementFold.{script_of, stms_of}
use Rattle.pt_refine_expr.specs.First.{fault_of, first_of}
use Rattle.pt_refine_expr.specs.StatementNarrow.{narrow_stms}
use Rattle.pt_refine_expr.proofs.Agreement.{agreed}
use Rattle.pt_refine_expr.proofs.StatementOnePass.{agrees-stms}
use Rattle.pt_refine_expr.specs.Told.{no_memory}
use Rattle.pt_refine_expr.proofs.Telling.{never-left, told-first}
use Rattle.pt_refine.proofs.scripts.narrow.Goals as goal

pub returns-in-Some-clause-err : goal.returns-in-Some-clause-err
returns-in-Some-clause-err c = told-first (fault_of c.in-Some.fault) (faults_stms (script_of c.args.script.now)) c.told.result (sym (ap (option_map fault_of) c.in-Some.is) ∙ c.first_fault.ensures) c.told.ensures

pub returns-in-Err-Memory-clause-err : goal.returns-in-Err-Memory-clause-err
returns-in-Err-Memory-clause-err c = no_memory _

pub unreachable-requires : goal.unreachable-requires
unreachable-requires c =
    let tree = stms_of c.as_slice.result.now in
    let same : script_of c.args.script.now ≡ tree = ap stms_of (sym c.as_slice.ensures) in
    let clean : None ≡ first_of (faults_stms tree) = sym (ap (option_map fault_of) c.in_default.is) ∙ c.first_fault.ensures ∙ ap (λ ss. first_of (faults_stms ss)) same in
    never-left (narrow_stms c.new-narrower.result tree) (faults_stms tree) (agreed (agrees-stms c.new-narrower.result tree)) clean (c.in-Err-LeftOut.ensures c.in-Err-LeftOut.field-0-is)
