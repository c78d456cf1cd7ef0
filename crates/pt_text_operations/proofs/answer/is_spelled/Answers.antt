use Rattle.std.proofs.Common.{◌∙◌, ap, sym, encode_utf8_all}
use Rattle.std.specs.Str.{chars}
use Rattle.std.proofs.lemmas.Str.{encodes-chars}
use Rattle.pt_text_operations.proofs.answer.is_spelled.Goals as goal

pub returns : goal.returns
returns c = ap (λ t. encode_utf8_all (chars t)) (sym c.as_str-text.ensures) ∙ encodes-chars c.as_str-text.result.now c.as_str-text.utf8 ∙ c.as_str-text.ensures
