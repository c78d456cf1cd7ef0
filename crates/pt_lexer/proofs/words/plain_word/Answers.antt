use Rattle.pt_lexer.proofs.NextLemmas.{next_name_at, next_operator_at, no_word_at}
use Rattle.pt_lexer.proofs.words.plain_word.Goals as goal

pub returns-then-n-gt0 : goal.returns-then-n-gt0
returns-then-n-gt0 c = next_name_at c.args.text.now _ _ _ _ c.identifier_len-n.ensures c.if-n-gt0.true c.split_at.ensures.front c.split_at.ensures.back c.in_ok-found.ensures

pub returns-in_default : goal.returns-in_default
returns-in_default c = no_word_at c.args.text.now _ _ _ c.in_ok-found-2.field-0 c.identifier_len-n.ensures c.if-n-gt0.false c.operator_len.ensures c.split_at-2.ensures.front c.in_ok-found-2.ensures c.in_default.is

pub returns : goal.returns
returns c = next_operator_at c.args.text.now _ _ _ _ c.in_ok-found-2.field-0 _ c.identifier_len-n.ensures c.if-n-gt0.false c.operator_len.ensures c.split_at-2.ensures.front c.split_at-2.ensures.back c.in_ok-found-2.ensures c.in-Some.is
