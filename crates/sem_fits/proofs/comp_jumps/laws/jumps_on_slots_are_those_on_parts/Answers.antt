use Rattle.sem_fits.proofs.comp_jumps.Alike.{answered_alike, refused_alike}
use Rattle.sem_fits.proofs.comp_jumps.Verdicts.{jumps_by_parts}
use Rattle.sem_fits.proofs.comp_jumps.laws.jumps_on_slots_are_those_on_parts.Goals as goal

pub returns-clause-parts : goal.returns-clause-parts
returns-clause-parts g c = jumps_by_parts

pub returns-clause-answered : goal.returns-clause-answered
returns-clause-answered g c = answered_alike _

pub returns-clause-refused : goal.returns-clause-refused
returns-clause-refused g c = refused_alike _
