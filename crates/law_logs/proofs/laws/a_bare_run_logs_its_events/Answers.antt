use Rattle.law_logs.proofs.Strides.{outcomes_log_their_events}
use Rattle.law_logs.proofs.laws.a_bare_run_logs_its_events.Goals as goal

pub returns : goal.returns
returns g c = outcomes_log_their_events
