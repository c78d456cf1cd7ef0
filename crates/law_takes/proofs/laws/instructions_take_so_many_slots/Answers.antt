use Rattle.law_takes.proofs.Taking.{instructions_take}
use Rattle.law_takes.proofs.laws.instructions_take_so_many_slots.Goals as goal

pub returns : goal.returns
returns g c = instructions_take
