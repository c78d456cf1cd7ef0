use Rattle.law_quiet_steps.proofs.Turning.{acts_are_done, asks_are_done, replies_lead_on, notes_lead_on, blocks_begin, blocks_end}
use Rattle.law_quiet_steps.proofs.laws.quiet_turns_lead_on.Goals as goal

pub returns-clause-acts : goal.returns-clause-acts
returns-clause-acts g c = acts_are_done

pub returns-clause-asks : goal.returns-clause-asks
returns-clause-asks g c = asks_are_done

pub returns-clause-replies : goal.returns-clause-replies
returns-clause-replies g c = replies_lead_on

pub returns-clause-notes : goal.returns-clause-notes
returns-clause-notes g c = notes_lead_on

pub returns-clause-begins : goal.returns-clause-begins
returns-clause-begins g c = blocks_begin

pub returns-clause-ends : goal.returns-clause-ends
returns-clause-ends g c = blocks_end
