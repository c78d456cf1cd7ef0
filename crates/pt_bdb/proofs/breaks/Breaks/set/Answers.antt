use Rattle.std.proofs.Common.{rules, ◌≡◌, ◌==◌, ◌+◌, ◌∙◌, true, ap, sym}
use Rattle.std.specs.List.{list_any}
use Rattle.pt_base.specs.declared.numbers.Line.{Line}
use Rattle.pt_bdb.specs.Breakpoints.{Table, has_code, rises}
use Rattle.pt_bdb.proofs.Rows.{only_memory, rises-new, set_error}
use Rattle.pt_bdb.proofs.breaks.Breaks.set.Goals as goal

pub invariant_of-self-2 : goal.invariant_of-self-2
invariant_of-self-2 c =
    ap (rises 0 (c.self.inside.last + 1)) c.in_ok-push.ensures.ok ∙ rises-new 0 c.self.inside.last c.self.inside.rows.items _ c.self.invariant

pub returns-clause-no_code : goal.returns-clause-no_code
returns-clause-no_code c =
    let found : c.contains.result ≡ true = search rules in
    let there : has_code c.args.self.now c.args.line ≡ true =
    ap (λ (t : Table). has_code t c.args.line) (sym c.self.view_is)
    ∙ ap (list_any (λ (l : Line). l.0 == c.args.line.0)) (sym c.as_slice.ensures) ∙ sym c.contains.ensures.value ∙ found in
    (λ e. cc, λ none. cc)

pub returns-in_err-push-clause-no_code : goal.returns-in_err-push-clause-no_code
returns-in_err-push-clause-no_code c =
    let found : c.contains.result ≡ true = search rules in
    let there : has_code c.args.self.now c.args.line ≡ true =
    ap (λ (t : Table). has_code t c.args.line) (sym c.self.view_is)
    ∙ ap (list_any (λ (l : Line). l.0 == c.args.line.0)) (sym c.as_slice.ensures) ∙ sym c.contains.ensures.value ∙ found in
    only_memory c.from_residual.result c.args.line (has_code c.args.self.now c.args.line) c.from_residual.ensures.1 there

pub returns-in_err-push-clause-only : goal.returns-in_err-push-clause-only
returns-in_err-push-clause-only c = set_error c.from_residual.result c.args.line c.from_residual.ensures.1
