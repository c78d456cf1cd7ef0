use Rattle.std.proofs.Common.{◌∙◌, ap}
use Rattle.pt_cover.specs.Numbers.{number_of}
use Rattle.pt_cover.proofs.NumberLemmas.{no_text_is_none}
use Rattle.pt_cover.proofs.pieces.number.Goals as goal

pub returns-in-Ok : goal.returns-in-Ok
returns-in-Ok c = c.number_in.ensures ∙ ap number_of c.in-Ok.ensures.cases.0

pub returns-in-Err : goal.returns-in-Err
returns-in-Err c = no_text_is_none c.args.word.now c.in-Err.ensures.cases.0
