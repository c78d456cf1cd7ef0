use Rattle.std.proofs.Common.{◌∙◌, ap}
use Rattle.pt_literals.specs.Source.{behind_mark}
use Rattle.pt_lexer.proofs.LineLemmas.{rises_text}
use Rattle.pt_lexer.proofs.lexer.lex.Goals as goal

pub lines-requires-clause-rises : goal.lines-requires-clause-rises
lines-requires-clause-rises c =
    rises_text c.args.bytes.now c.in_ok-source.source.end c.in_ok-source.source.spots c.behind_byte_order_mark.result.now c.in_ok-source.ensures.0 c.in_ok-source.ensures.1
    (c.behind_byte_order_mark.ensures ∙ ap behind_mark c.as_slice.ensures)
