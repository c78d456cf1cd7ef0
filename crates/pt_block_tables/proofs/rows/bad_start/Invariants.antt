use Rattle.std.proofs.Common.{◌≡◌, None, map}
use Rattle.std.specs.Prelude.{option_map}
use Rattle.pt_places.specs.PlaceTable.{HasPlaces}
use Rattle.sem_fits.specs.fits.Block.{Block}
use Rattle.sem_fits.specs.fits.Tables.{in_order}
use Rattle.pt_block_tables.proofs.FirstLemmas.{NoneBelow, before_of}
use Rattle.pt_block_tables.proofs.rows.bad_start.Given as goal

abbrev pub invariant-loop-number : goal.invariant-loop-number
invariant-loop-number l = record {
  last : option_map (λ p. p.0) l.before ≡ before_of None (map (λ m. m.pc.0) l.starts) l.number;
  none : (b : Block) → HasPlaces b.at l.places → NoneBelow (in_order b None (map (λ m. m.pc.0) l.starts)) l.number;
}
