use Rattle.std.proofs.Common.{◌≡◌, map}
use Rattle.pt_places.specs.PlaceTable.{HasPlaces}
use Rattle.sem_fits.specs.fits.Block.{Block}
use Rattle.sem_fits.specs.fits.Tables.{is_laid}
use Rattle.pt_block_tables.proofs.FirstLemmas.{NoneBelow}
use Rattle.pt_block_tables.proofs.rows.bad_handler.Given as goal

abbrev pub invariant-loop-number : goal.invariant-loop-number
invariant-loop-number l = (b : Block) → HasPlaces b.at l.places → b.size ≡ l.size → NoneBelow (map (is_laid b) l.handlers) l.number
