use Rattle.sem_fits.proofs.comp_jumps.After.{jumps_match}
use Rattle.sem_fits.proofs.comp_jumps.Cuts.{slots_are_cut}
use Rattle.sem_fits.proofs.comp_jumps.Landings.{jumps_land, nests_are_filled, statements_stand}
use Rattle.sem_fits.proofs.comp_jumps.laws.a_jump_lands_where_code_goes_on.Goals as goal

pub returns-clause-stands : goal.returns-clause-stands
returns-clause-stands g c = statements_stand

pub returns-clause-lands : goal.returns-clause-lands
returns-clause-lands g c = jumps_land

pub returns-clause-filled : goal.returns-clause-filled
returns-clause-filled g c = nests_are_filled

pub returns-clause-cut : goal.returns-clause-cut
returns-clause-cut g c = slots_are_cut

pub returns-clause-matches : goal.returns-clause-matches
returns-clause-matches g c = jumps_match
