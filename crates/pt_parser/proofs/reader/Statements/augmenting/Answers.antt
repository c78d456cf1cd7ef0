use Rattle.pt_wide.specs.Fold.{exp_of}
use Rattle.pt_wide.specs.StatementFold.{stm_of}
use Rattle.pt_readers.proofs.Readers.{carries_all, narrow_carries, then_on}
use Rattle.pt_readers.proofs.Exits.{fails_at, goes_on, carried_all, shift_on, is_so, is_not}
use Rattle.pt_parser.proofs.StatedLemmas.{augmentation_binds}
use Rattle.pt_parser.proofs.reader.Statements.augmenting.Goals as goal

pub returns-in_err-value : goal.returns-in_err-value
returns-in_err-value c = fails_at _ _ _ _ _ _ c.from_residual.ensures.1 carries_all (augmentation_binds (exp_of c.args.target) c.args.operator c.requires.fits) c.in_err-value.ensures

pub returns : goal.returns
returns c = carried_all stm_of _ _ (goes_on carries_all (augmentation_binds (exp_of c.args.target) c.args.operator c.requires.fits) c.in_ok-value.ensures) (rw c.requires.begins at (rw c.augmented.ensures at c.ended.ensures))
