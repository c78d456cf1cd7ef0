use Rattle.pt_bdb.proofs.StopLaws.{nowhere_stops, until_goes_on, next_returns}
use Rattle.pt_bdb.proofs.laws.commands_stop_where_they_say.Goals as goal

pub returns-clause-nowhere : goal.returns-clause-nowhere
returns-clause-nowhere c = nowhere_stops

pub returns-clause-until : goal.returns-clause-until
returns-clause-until c = until_goes_on

pub returns-clause-next : goal.returns-clause-next
returns-clause-next c = next_returns
