use Rattle.pt_wide.specs.Fold.{exp_of}
use Rattle.pt_readers.proofs.Readers.{carries_all}
use Rattle.pt_readers.proofs.Exits.{fails_at, goes_on, carried_all}
use Rattle.pt_grammar.proofs.AfterAtoms.{after_numbers}
use Rattle.pt_expr.proofs.reader.Reader.comparisons_behind.Goals as goal

pub returns-in_err-left : goal.returns-in_err-left
returns-in_err-left c = fails_at _ _ _ _ _ _ c.from_residual.ensures.1 carries_all (after_numbers c.args.room (exp_of c.args.atom.tree)) c.in_err-left.ensures

pub returns : goal.returns
returns c = carried_all (λ e. exp_of e.tree) _ _ (goes_on carries_all (after_numbers c.args.room (exp_of c.args.atom.tree)) c.in_ok-left.ensures) c.more_comparisons.ensures
