use Rattle.std.proofs.Common.{[], arith}
use Rattle.pt_wide.specs.Syntax as S
use Rattle.pt_wide.specs.Fold.{exp_of}
use Rattle.pt_readers.proofs.Readers.{Just, just, carries_all}
use Rattle.pt_readers.proofs.Pieces.{through_bad, ended}
use Rattle.pt_grammar.specs.declared.sign.Sign.TheVariants.{Mark as mark}
use Rattle.pt_grammar.specs.declared.sign.Mark.TheVariants.{Close}
use Rattle.pt_grammar.specs.Lexemes.{sign}
use Rattle.pt_grammar.specs.Parts.{an_atom}
use Rattle.pt_grammar.proofs.Ranks.{IsSign, is_sign, signed_next, not_signed}
use Rattle.pt_expr.proofs.reader.Reader.closed.Goals as goal

pub returns-then-not-take : goal.returns-then-not-take
returns-then-not-take c = λ d f. let m = c.take.ensures.none (grind arith) in
    rw m.1 (through_bad (an_atom d) (IsSign (mark Close)) (Just (S.parenthesized c.args.line.0 (exp_of c.args.inside.tree))) _ (not_signed _ m.0) (sign 0 (mark Close)) is_sign [] _ f (λ z. just))

pub returns : goal.returns
returns c = λ d f. let m = c.take.ensures.found (grind arith) in
    let k = signed_next _ m.0 in
    rw c.in_ok-parenthesized.ensures (ended (an_atom d) carries_all k.1 is_sign m.1 tt f)
