use Rattle.pt_wide.specs.Fold.{exp_of}
use Rattle.pt_wide.specs.StatementFold.{stm_of}
use Rattle.pt_readers.proofs.Readers.{carries_all, narrow_carries, then_on}
use Rattle.pt_readers.proofs.Exits.{fails_at, goes_on, carried_all, shift_on, is_so, is_not}
use Rattle.pt_grammar.specs.declared.sign.Keyword.TheVariants.{Assert, Break, Continue, Del, Global, Import, Nonlocal, Pass, Raise, Return}
use Rattle.std.proofs.Common.{ap, ◌∙◌, Some}
use Rattle.pt_grammar.specs.declared.sign.Sign.TheVariants.{Keyword as keyword}
use Rattle.pt_grammar.specs.Lexemes.{sign}
use Rattle.pt_parser.proofs.SimpleLemmas.{keyword_shifts, led_bad}
use Rattle.pt_parser.proofs.reader.Statements.keyword_statement.Goals as goal

pub returns-in-Pass : goal.returns-in-Pass
returns-in-Pass c = carried_all stm_of _ _ (shift_on carries_all (keyword_shifts _ Pass) (c.requires ∙ ap (λ k. Some (sign c.args.line.0 (keyword k))) c.in-Pass.is) c.skip.ensures) (rw c.pass.ensures at c.ended.ensures)

pub returns-in-Break : goal.returns-in-Break
returns-in-Break c = carried_all stm_of _ _ (shift_on carries_all (keyword_shifts _ Break) (c.requires ∙ ap (λ k. Some (sign c.args.line.0 (keyword k))) c.in-Break.is) c.skip-in-Break.ensures) (rw c.break_loop.ensures at c.ended-in-Break.ensures)

pub returns-in-Continue : goal.returns-in-Continue
returns-in-Continue c = carried_all stm_of _ _ (shift_on carries_all (keyword_shifts _ Continue) (c.requires ∙ ap (λ k. Some (sign c.args.line.0 (keyword k))) c.in-Continue.is) c.skip-in-Continue.ensures) (rw c.continue_loop.ensures at c.ended-in-Continue.ensures)

pub returns-in-Return : goal.returns-in-Return
returns-in-Return c = carried_all stm_of _ _ (shift_on carries_all (keyword_shifts _ Return) (c.requires ∙ ap (λ k. Some (sign c.args.line.0 (keyword k))) c.in-Return.is) c.skip-in-Return.ensures) c.returning.ensures

pub returns-in-Raise : goal.returns-in-Raise
returns-in-Raise c = carried_all stm_of _ _ (shift_on carries_all (keyword_shifts _ Raise) (c.requires ∙ ap (λ k. Some (sign c.args.line.0 (keyword k))) c.in-Raise.is) c.skip-in-Raise.ensures) c.raising.ensures

pub returns-in-Global : goal.returns-in-Global
returns-in-Global c = carried_all stm_of _ _ (shift_on carries_all (keyword_shifts _ Global) (c.requires ∙ ap (λ k. Some (sign c.args.line.0 (keyword k))) c.in-Global.is) c.skip-in-Global.ensures) c.globals.ensures

pub returns-in-Nonlocal : goal.returns-in-Nonlocal
returns-in-Nonlocal c = carried_all stm_of _ _ (shift_on carries_all (keyword_shifts _ Nonlocal) (c.requires ∙ ap (λ k. Some (sign c.args.line.0 (keyword k))) c.in-Nonlocal.is) c.skip-in-Nonlocal.ensures) c.nonlocals.ensures

pub returns-in-Del : goal.returns-in-Del
returns-in-Del c = carried_all stm_of _ _ (shift_on carries_all (keyword_shifts _ Del) (c.requires ∙ ap (λ k. Some (sign c.args.line.0 (keyword k))) c.in-Del.is) c.skip-in-Del.ensures) c.deleting.ensures

pub returns-in-Assert : goal.returns-in-Assert
returns-in-Assert c = carried_all stm_of _ _ (shift_on carries_all (keyword_shifts _ Assert) (c.requires ∙ ap (λ k. Some (sign c.args.line.0 (keyword k))) c.in-Assert.is) c.skip-in-Assert.ensures) c.asserting.ensures

pub returns-in-Import : goal.returns-in-Import
returns-in-Import c = carried_all stm_of _ _ (shift_on carries_all (keyword_shifts _ Import) (c.requires ∙ ap (λ k. Some (sign c.args.line.0 (keyword k))) c.in-Import.is) c.skip-in-Import.ensures) c.importing.ensures

pub returns-in_default : goal.returns-in_default
returns-in_default c = led_bad c.args.line.0 c.args.keyword _ c.requires c.in_default.not-Pass c.in_default.not-Break c.in_default.not-Continue c.in_default.not-Return c.in_default.not-Raise
    c.in_default.not-Global c.in_default.not-Nonlocal c.in_default.not-Del c.in_default.not-Assert c.in_default.not-Import
