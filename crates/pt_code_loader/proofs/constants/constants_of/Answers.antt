use Rattle.std.proofs.Common.{subst}
use Rattle.std.specs.List.{flat_map}
use Rattle.pt_code_loader.specs.Texts.{AreValues, text_of}
use Rattle.pt_code_loader.proofs.TextLemmas.{values_before, values_last}
use Rattle.pt_code_loader.proofs.constants.constants_of.Goals as goal

pub returns-clause-of_prelude : goal.returns-clause-of_prelude
returns-clause-of_prelude c =
    let ts = c.args.prelude.now.texts in
    let last = c.values_of-2.new.known.texts in
    subst (λ ks. AreValues ts ks last c.in_ok-of_prelude.of_prelude) c.as_slice.ensures
    (values_before ts c.as_slice.result.now c.values_of.new.known.texts (flat_map (text_of c.args.code.now.texts) c.as_slice-2.result.now) last
    c.in_ok-of_prelude.of_prelude c.in_ok-of_code.ensures.texts c.in_ok-of_prelude.ensures.values)

pub returns-clause-of_code : goal.returns-clause-of_code
returns-clause-of_code c =
    let ts = c.args.code.now.texts in
    let last = c.values_of-2.new.known.texts in
    subst (λ ks. AreValues ts ks last c.in_ok-of_code.of_code) c.as_slice-2.ensures
    (values_last ts c.as_slice-2.result.now last c.in_ok-of_code.of_code c.in_ok-of_code.ensures.values)
