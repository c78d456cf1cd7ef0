use Rattle.law_quiet_steps.proofs.Quietly.{tells_quietly}
use Rattle.law_quiet_steps.proofs.laws.quiet_steps_write_lines_of_the_log.Goals as goal

pub returns : goal.returns
returns g c = tells_quietly
