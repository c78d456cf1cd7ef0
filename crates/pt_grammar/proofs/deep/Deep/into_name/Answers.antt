use Rattle.std.proofs.Common.{◌∙◌, sym, ap}
use Rattle.pt_wide.specs.Fold.{exp_of}
use Rattle.pt_wide.proofs.Folds.{exp_of-Name}
use Rattle.pt_grammar.proofs.CallLemmas.{no_name}
use Rattle.pt_grammar.proofs.deep.Deep.into_name.Goals as goal

pub returns-in-Name : goal.returns-in-Name
returns-in-Name c = ap exp_of (sym c.into_inner-tree.ensures) ∙ exp_of-Name c.into_inner-tree.result c.in-Name.name (sym c.into_node-node.ensures ∙ c.in-Name.is)

pub returns : goal.returns
returns c = λ l x h. no_name c.into_inner-tree.result (λ y e. c.in_default.not-Name y (c.into_node-node.ensures ∙ e)) l x (ap exp_of c.into_inner-tree.ensures ∙ h)
