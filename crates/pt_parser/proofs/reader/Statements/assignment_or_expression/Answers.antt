use Rattle.std.proofs.Common.{◌≡◌, ◌∙◌, sym, ap, refl, inl, inr, true, false, Some, None}
use Rattle.pt_wide.specs.declared.expression.WideExpr.{WideExpr}
use Rattle.pt_wide.specs.Fold.{exp_of}
use Rattle.pt_wide.specs.StatementFold.{stm_of}
use Rattle.pt_readers.specs.Reading.{next_of}
use Rattle.pt_readers.proofs.Readers.{carries_all, narrow_carries, then_on}
use Rattle.pt_readers.proofs.Exits.{fails_at, goes_on, carried_all, shift_on, is_so, is_not}
use Rattle.pt_grammar.specs.declared.sign.Sign.TheVariants.{Augmented, Mark as mark}
use Rattle.pt_grammar.specs.declared.sign.Mark.TheVariants.{Colon}
use Rattle.pt_grammar.specs.Lexemes.{sign_at}
use Rattle.pt_grammar.proofs.LineLemmas.{line_is}
use Rattle.pt_parser.specs.Targets.{is_place}
use Rattle.pt_parser.proofs.Tokens.{sign_next}
use Rattle.pt_parser.proofs.StatedLemmas.{stated_binds, continued_bad, annotation_shifts, augmentation_shifts, value_narrows, operator_sign}
use Rattle.pt_parser.proofs.reader.Statements.assignment_or_expression.Goals as goal

pub returns-in_err-first : goal.returns-in_err-first
returns-in_err-first c = fails_at _ _ _ _ _ _ c.from_residual.ensures.1 carries_all stated_binds c.in_err-first.ensures

pub returns-then-not-is_place : goal.returns-then-not-is_place
returns-then-not-is_place c = (goes_on carries_all stated_binds c.in_ok-first.ensures).refused false _
    (continued_bad (mark Colon) (exp_of c.in_ok-first.first) _ (is_so c.is.ensures c.if-is.true) (inl refl) (sym (ap (λ u. is_place (exp_of u)) c.get-then-is.ensures) ∙ sym c.is_place.ensures ∙ c.if-not-is_place.true) c.in_ok-first.ensures.fits)

pub annotating-requires-clause-begins : goal.annotating-requires-clause-begins
annotating-requires-clause-begins c = ap (λ (e : WideExpr). e.line.0) c.get.ensures ∙ sym (line_is c.in_ok-first.first)

pub returns-then-is : goal.returns-then-is
returns-then-is c = carried_all stm_of _ _
    (shift_on (goes_on carries_all stated_binds c.in_ok-first.ensures) (annotation_shifts _ (exp_of c.in_ok-first.first) (sym (ap (λ u. is_place (exp_of u)) c.get-then-is.ensures) ∙ sym c.is_place.ensures ∙ c.if-not-is_place.false)) (sign_next _ (is_so c.is.ensures c.if-is.true)) c.skip.ensures)
    c.annotating.ensures

pub returns-then-not-is_place-2 : goal.returns-then-not-is_place-2
returns-then-not-is_place-2 c = (goes_on carries_all stated_binds c.in_ok-first.ensures).refused false _
    (continued_bad (Augmented c.in-Some.operator) (exp_of c.in_ok-first.first) _ (operator_sign _ (sym c.operator.ensures ∙ c.in-Some.is)) (inr (c.in-Some.operator, refl)) (sym (ap (λ u. is_place (exp_of u)) c.get-in-Some.ensures) ∙ sym c.is_place-in-Some.ensures ∙ c.if-not-is_place-2.true) c.in_ok-first.ensures.fits)

pub augmenting-requires-clause-begins : goal.augmenting-requires-clause-begins
augmenting-requires-clause-begins c = ap (λ (e : WideExpr). e.line.0) c.get.ensures ∙ sym (line_is c.in_ok-first.first)

pub returns-in-Some : goal.returns-in-Some
returns-in-Some c = carried_all stm_of _ _
    (shift_on (goes_on carries_all stated_binds c.in_ok-first.ensures) (augmentation_shifts _ (exp_of c.in_ok-first.first) c.in-Some.operator (sym (ap (λ u. is_place (exp_of u)) c.get-in-Some.ensures) ∙ sym c.is_place-in-Some.ensures ∙ c.if-not-is_place-2.false)) (sign_next _ (operator_sign _ (sym c.operator.ensures ∙ c.in-Some.is))) c.skip-in-Some.ensures)
    c.augmenting.ensures

pub returns : goal.returns
returns c = carried_all stm_of _ _
    (then_on (goes_on carries_all stated_binds c.in_ok-first.ensures) (narrow_carries (value_narrows (exp_of c.in_ok-first.first) _ (is_not c.is.ensures c.if-is.false) (sym c.operator.ensures ∙ c.in_default.is))))
    (rw (ap (λ (e : WideExpr). e.line.0) c.get.ensures ∙ sym (line_is c.in_ok-first.first)) at c.assigning.ensures)
