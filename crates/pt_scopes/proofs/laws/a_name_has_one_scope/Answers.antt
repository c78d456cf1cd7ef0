use Rattle.pt_scopes.proofs.laws.a_name_has_one_scope.Goals as goal

pub returns : goal.returns
returns c = λ ss b x s t first second. cc
