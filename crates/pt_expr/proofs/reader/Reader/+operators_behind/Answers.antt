use Rattle.std.proofs.Common.{◌-◌, arith}
use Rattle.pt_wide.specs.Fold.{exp_of}
use Rattle.pt_readers.proofs.Readers.{carries_all}
use Rattle.pt_readers.proofs.Exits.{fails_at, goes_on, carried_all}
use Rattle.pt_grammar.proofs.AfterAtoms.{after_trailers, of_factors, after_operands}
use Rattle.pt_expr.proofs.reader.Reader.+operators_behind.Goals as goal

pub returns-in_err-base : goal.returns-in_err-base
returns-in_err-base t c = fails_at _ _ _ _ _ _ c.from_residual.ensures.1 (of_factors c.args.level c.args.room (exp_of c.args.atom.tree) c.if-level-eq0.true _) (after_trailers c.args.room (exp_of c.args.atom.tree)) c.in_err-base.ensures

pub returns-then-level-eq0 : goal.returns-then-level-eq0
returns-then-level-eq0 t c = carried_all (λ e. exp_of e.tree) _ _
    (goes_on (of_factors c.args.level c.args.room (exp_of c.args.atom.tree) c.if-level-eq0.true _) (after_trailers c.args.room (exp_of c.args.atom.tree)) c.in_ok-base.ensures) c.raising.ensures

pub returns-in_err-first : goal.returns-in_err-first
returns-in_err-first t c = fails_at _ _ _ _ _ _ c.from_residual-in_err-first.ensures.1 carries_all
    (after_operands c.args.level (c.args.level - 1) c.args.room (exp_of c.args.atom.tree) (omega (arith, c.if-level-eq0.false))) c.in_err-first.ensures

pub returns : goal.returns
returns t c = carried_all (λ e. exp_of e.tree) _ _
    (goes_on carries_all (after_operands c.args.level (c.args.level - 1) c.args.room (exp_of c.args.atom.tree) (omega (arith, c.if-level-eq0.false))) c.in_ok-first.ensures) c.more_operands.ensures
