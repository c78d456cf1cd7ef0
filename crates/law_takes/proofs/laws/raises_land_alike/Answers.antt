use Rattle.law_takes.proofs.Alike.{lands_alike}
use Rattle.law_takes.proofs.laws.raises_land_alike.Goals as goal

pub returns : goal.returns
returns g c = lands_alike
