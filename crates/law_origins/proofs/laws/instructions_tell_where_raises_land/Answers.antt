use Rattle.law_origins.proofs.Origins.{have_origins}
use Rattle.law_origins.proofs.laws.instructions_tell_where_raises_land.Goals as goal

pub returns : goal.returns
returns g c = have_origins
