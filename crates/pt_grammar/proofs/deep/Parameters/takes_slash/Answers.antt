use Rattle.std.proofs.Common.{sym, ◌∙◌}
use Rattle.pt_wide.specs.declared.expression.WideParameters.{out-WideParameters}
use Rattle.pt_readers.proofs.Exits.{is_not}
use Rattle.pt_grammar.specs.ReadViews.{stage_read}
use Rattle.pt_grammar.proofs.Gathering.{slash_allowed}
use Rattle.pt_grammar.proofs.deep.Parameters.takes_slash.Goals as goal

pub returns : goal.returns
returns c =
    c.takes_star.ensures
    ∙ sym (slash_allowed (stage_read c.args.self.now.stage) (out-WideParameters c.args.self.now.tree).slash (out-WideParameters c.args.self.now.tree).positional (sym c.is_some.ensures ∙ c.if-is_some.false) (λ e. is_not c.is_empty.ensures c.if-is_empty.false e))
