use Rattle.sem_names.specs.Around.{captured_in}
use Rattle.sem_names.specs.Naming.{variable_in}
use Rattle.sem_names.specs.Script.{naming_script, spelled_in}
use Rattle.law_code_runs.proofs.code_follows.SameStatements.{same-code}
use Rattle.law_code_runs.proofs.code_follows.laws.code_does_not_depend_on_none.Goals as goal

pub returns : goal.returns
returns g c = λ v ss b k. let n = naming_script ss in
    same-code {W = Unit {0}} v tt (λ within x. variable_in n b within (spelled_in n b x)) (spelled_in n b) (captured_in n) k
