use Rattle.sem_fits.proofs.comp_jumps.Ranges.{closed_tell_apart, stays_in}
use Rattle.sem_fits.proofs.comp_jumps.laws.closed_parts_tell_slots_apart.Goals as goal

pub returns-clause-stays : goal.returns-clause-stays
returns-clause-stays c = stays_in

pub returns-clause-apart : goal.returns-clause-apart
returns-clause-apart c = closed_tell_apart
