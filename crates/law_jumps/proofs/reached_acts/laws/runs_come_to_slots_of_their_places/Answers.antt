use Rattle.law_jumps.proofs.reached_acts.Sound.{reached_are_sound, acts_are_at_kinds}
use Rattle.law_jumps.proofs.reached_acts.laws.runs_come_to_slots_of_their_places.Goals as goal

pub returns-clause-sound : goal.returns-clause-sound
returns-clause-sound g c = λ source code b block. reached_are_sound source code b block

pub returns-clause-at_acts : goal.returns-clause-at_acts
returns-clause-at_acts g c = λ source code b block. acts_are_at_kinds source code b block
