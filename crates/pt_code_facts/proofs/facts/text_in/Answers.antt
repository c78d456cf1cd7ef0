use Rattle.std.proofs.Common.{◌∙◌, ap, sym}
use Rattle.std.specs.Option.{option_copied}
use Rattle.pt_code_facts.proofs.NameLemmas.{missing_text}
use Rattle.pt_code_facts.proofs.facts.text_in.Goals as goal

pub returns-in-None : goal.returns-in-None
returns-in-None c = c.new.ensures ∙ sym (missing_text c.args.texts.now c.args.number.0 (sym c.get.ensures.value ∙ ap option_copied c.in-None.is))
