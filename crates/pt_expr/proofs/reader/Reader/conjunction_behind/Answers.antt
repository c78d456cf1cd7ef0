use Rattle.pt_wide.specs.Fold.{exp_of}
use Rattle.pt_readers.proofs.Readers.{carries_all}
use Rattle.pt_readers.proofs.Exits.{fails_at, goes_on, carried_all}
use Rattle.pt_grammar.proofs.AfterAtoms.{after_comparisons}
use Rattle.pt_expr.proofs.reader.Reader.conjunction_behind.Goals as goal

pub returns-in_err-first : goal.returns-in_err-first
returns-in_err-first c = fails_at _ _ _ _ _ _ c.from_residual.ensures.1 carries_all (after_comparisons c.args.room (exp_of c.args.atom.tree)) c.in_err-first.ensures

pub returns : goal.returns
returns c = carried_all (λ e. exp_of e.tree) _ _ (goes_on carries_all (after_comparisons c.args.room (exp_of c.args.atom.tree)) c.in_ok-first.ensures) c.more_conjuncts.ensures
