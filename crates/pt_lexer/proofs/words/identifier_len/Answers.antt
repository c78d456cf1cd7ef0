use Rattle.std.proofs.Common.{sym, ◌∙◌, arith, length, ap, subst, ◌+◌}
use Rattle.pt_literals.specs.Source.{chars_of}
use Rattle.pt_lexer.specs.Words.{is_identifier, LongestFront}
use Rattle.pt_lexer.proofs.WordLemmas.{longest_identifier, no_identifier, no_identifier_at_end}
use Rattle.pt_lexer.proofs.words.identifier_len.Goals as goal

pub overflow_add-result : goal.overflow_add-result
overflow_add-result c = let e = ap length c.in-Some.ensures in omega (arith, c.run_len.ensures.within)

pub returns : goal.returns
returns c =
    subst (λ n. LongestFront is_identifier (chars_of c.args.text.now) (1 + n)) (sym c.run_len.ensures.value)
    (longest_identifier c.in-Some.first c.in-Some.others.now c.args.text.now c.in-Some.ensures (sym c.begins_name.ensures ∙ c.if-not-begins_name.false))

pub returns-in_default : goal.returns-in_default
returns-in_default c = no_identifier_at_end c.args.text.now (ap length c.in_default.ensures)

pub returns-then-not-begins_name : goal.returns-then-not-begins_name
returns-then-not-begins_name c = no_identifier c.in-Some.first c.in-Some.others.now c.args.text.now c.in-Some.ensures (sym c.begins_name.ensures ∙ c.if-not-begins_name.true)
