use Rattle.sem_fits.proofs.fits.ViewLaid.{view_is_laid}
use Rattle.sem_fits.proofs.fits.laws.a_block_is_laid_in_its_bytes.Goals as goal

-- src/laws.rt:52:1
pub returns : goal.returns
returns c = view_is_laid
