use Rattle.std.proofs.Common.{rules, ◌≡◌, refl, subst, sym}
use Rattle.pt_base.specs.Failures.{IfRefused}
use Rattle.pt_front.specs.Text.{IsRefused, IsScript}
use Rattle.pt_prelude.specs.declared.source.TheConstants.{PRELUDE}
use Rattle.pt_tree.specs.StatementFold.{script_of}
use Rattle.pt_prog.specs.Answer.{refused_prelude, unbuilt_prelude}
use Rattle.pt_prog.proofs.prelude.prelude.Goals as goal

pub returns-in-Err-Refused-clause-err : goal.returns-in-Err-Refused-clause-err
returns-in-Err-Refused-clause-err c =
    let same : c.as_bytes.result.now ≡ PRELUDE.now = search rules in
    refused_prelude c.in-Err-Refused.error
    (subst (λ text. IsRefused text c.in-Err-Refused.error) same
    (subst (IfRefused (IsRefused c.as_bytes.result.now)) c.in-Err-Refused.field-0-is c.in-Err-Refused.ensures)) refl

pub returns-in-Some-clause-err : goal.returns-in-Some-clause-err
returns-in-Some-clause-err c =
    let same : c.as_bytes.result.now ≡ PRELUDE.now = search rules in
    unbuilt_prelude c.in-Some.line (record {
      script = script_of c.in-Ok.prelude;
      is_script = subst (λ text. IsScript text (script_of c.in-Ok.prelude)) same c.in-Ok.ensures.is_script;
      is_first = sym c.in-Some.ensures;
    }) refl
