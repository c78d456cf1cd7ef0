use Rattle.pt_purposes.proofs.Seeing.{openers_are_seen, parts_tell}
use Rattle.pt_purposes.proofs.laws.openers_are_seen.Goals as goal

pub returns-clause-seen : goal.returns-clause-seen
returns-clause-seen g c = λ program machine ways h. openers_are_seen program machine ways h

pub returns-clause-parts : goal.returns-clause-parts
returns-clause-parts g c = λ program h es. parts_tell program h es
