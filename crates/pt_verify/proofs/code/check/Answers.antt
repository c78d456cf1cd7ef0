use Rattle.std.proofs.Common.{◌≤◌, subst, arith, length, List}
use Rattle.std.specs.Prelude.{option_map}
use Rattle.pt_code.specs.declared.CodeBlock.{CodeBlock}
use Rattle.sem_fits.specs.fits.Block.{block_of}
use Rattle.pt_refusals.specs.Laws.{TellsBlock}
use Rattle.pt_refusals.specs.Verdicts.{misfit_of}
use Rattle.pt_verify.proofs.ErrorLemmas.{all_fit, listed_at, one_more_fits}
use Rattle.pt_verify.proofs.code.check.Goals as goal

pub loop-number-init : goal.loop-number-init
loop-number-init c = λ k b lt e. absurd (omega (arith, lt))

pub loop-number-preserved : goal.loop-number-preserved
loop-number-preserved c =
    one_more_fits c.args.code.now c.loop-number.number c.index-blocks-number.result c.loop-number.invariant
    (listed_at c.args.code.now.blocks c.as_slice-blocks.result.now c.loop-number.number c.index-blocks-number.result c.as_slice-blocks.ensures c.loop-number-test.true c.index-blocks-number.is)
    (λ view v. subst (λ r. TellsBlock (block_of c.args.code.now c.index-blocks-number.result view) (option_map misfit_of r)) c.in-Ok-None.field-0-is (c.in-Ok-None.ensures c.in-Ok.ensures view v))

pub returns-in-Ok-Some-clause-refused : goal.returns-in-Ok-Some-clause-refused
returns-in-Ok-Some-clause-refused c = c.error_of.ensures c.args.code.now (record {
  block = c.index-blocks-number.result;
  is = listed_at c.args.code.now.blocks c.as_slice-blocks.result.now c.loop-number.number c.index-blocks-number.result c.as_slice-blocks.ensures c.loop-number-test.true c.index-blocks-number.is;
  refused = λ view v. subst (λ r. TellsBlock (block_of c.args.code.now c.index-blocks-number.result view) (option_map misfit_of r)) c.in-Ok-Some.field-0-is (c.in-Ok-Some.ensures c.in-Ok.ensures view v);
  before = c.loop-number.invariant;
})

pub returns-clause-fits : goal.returns-clause-fits
returns-clause-fits c = all_fit c.args.code.now c.loop-number.number
    (subst (λ (xs : List CodeBlock). length xs ≤ c.loop-number.number) c.as_slice-blocks.ensures c.loop-number-test.false) c.loop-number.invariant
