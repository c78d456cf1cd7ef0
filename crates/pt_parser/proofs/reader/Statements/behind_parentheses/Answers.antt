use Rattle.std.proofs.Common.{◌≡◌, sym, subst, map, arith}
use Rattle.pt_wide.specs.Fold.{exp_of}
use Rattle.pt_readers.proofs.Readers.{carries_all}
use Rattle.pt_readers.proofs.Exits.{fails_at, goes_on, carried_all}
use Rattle.pt_parser.specs.Views.{item_in}
use Rattle.pt_parser.proofs.WithLemmas.{atom_binds, atom_apart}
use Rattle.pt_parser.proofs.reader.Statements.behind_parentheses.Goals as goal

pub returns-in_err-read : goal.returns-in_err-read
returns-in_err-read c = fails_at _ _ _ _ _ _ c.from_residual.ensures.1 carries_all (atom_binds (exp_of c.args.atom.tree)) c.in_err-read.ensures

pub entered-requires-clause-fits : goal.entered-requires-clause-fits
entered-requires-clause-fits c = c.in_ok-read.ensures.fits

pub entered-requires-clause-apart : goal.entered-requires-clause-apart
entered-requires-clause-apart c = atom_apart (exp_of c.args.atom.tree) (exp_of c.in_ok-read.read.tree) c.requires.apart c.in_ok-read.ensures

pub returns : goal.returns
returns c = carried_all (λ is. map item_in is) _ _ (goes_on carries_all (atom_binds (exp_of c.args.atom.tree)) c.in_ok-read.ensures) c.entered.ensures
