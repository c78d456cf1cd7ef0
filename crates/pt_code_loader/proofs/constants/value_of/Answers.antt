use Rattle.std.proofs.Common.{◌∙◌, ap, sym}
use Rattle.pt_tree.specs.declared.expression.Constant.TheVariants as constant
use Rattle.sem_code.specs.slots.BlockObject.{constant_of}
use Rattle.pt_code_tables.specs.pt_builtins.pt_host.Answers.{constant_value}
use Rattle.pt_code_loader.proofs.TextLemmas.{text_value, id_at}
use Rattle.pt_code_loader.proofs.constants.value_of.Goals as goal

pub returns-in_ok-object_at-in-Text-clause-value :
    goal.returns-in_ok-object_at-in-Text-clause-value
returns-in_ok-object_at-in-Text-clause-value c program more e =
    id_at c.in_ok-object_at-in-Text.field-0 c.in_ok-place-in-Text.place c.in_ok-object_at-in-Text.ensures
    ∙ (sym (text_value program c.text_at.result.now c.args.known.now.texts c.place_of.new.known.texts more c.in_ok-place-in-Text.place
    c.in_ok-place-in-Text.ensures.texts e c.in_ok-place-in-Text.ensures.place)
    ∙ (ap (λ x. constant_value program (constant.Str x)) c.text_at.ensures ∙ ap (λ k. constant_value program (constant_of c.args.texts.now k)) (sym c.in-Text.is)))
