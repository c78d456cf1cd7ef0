use Rattle.std.proofs.Common.{map}
use Rattle.pt_readers.proofs.Readers.{carries_all}
use Rattle.pt_readers.proofs.Exits.{fails_at, goes_on, carried_all}
use Rattle.pt_parser.specs.Views.{item_in}
use Rattle.std.proofs.Common.{[]}
use Rattle.pt_parser.proofs.HeldLemmas.{held_binds}
use Rattle.pt_parser.proofs.HeldEnds.{held_sound}
use Rattle.pt_parser.proofs.reader.Statements.opened.Goals as goal

pub returns-in_err-held : goal.returns-in_err-held
returns-in_err-held c = fails_at _ _ _ _ _ _ c.from_residual.ensures.1 carries_all (held_binds c.args.line.0) c.in_err-held.ensures

pub behind_held-requires-clause-fits : goal.behind_held-requires-clause-fits
behind_held-requires-clause-fits c = c.in_ok-held.ensures.fits

pub behind_held-requires-clause-sound : goal.behind_held-requires-clause-sound
behind_held-requires-clause-sound c = held_sound c.args.line.0 (c.in_ok-held.ensures.reads [])

pub returns : goal.returns
returns c = carried_all (λ is. map item_in is) _ _ (goes_on carries_all (held_binds c.args.line.0) c.in_ok-held.ensures) c.behind_held.ensures
