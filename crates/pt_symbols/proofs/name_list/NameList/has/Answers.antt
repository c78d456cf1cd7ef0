use Rattle.std.proofs.Common.{◌∙◌, ap, List, ℕ, bytes_eq}
use Rattle.std.specs.List.{list_any}
use Rattle.pt_symbols.proofs.name_list.NameList.has.Goals as goal

pub returns : goal.returns
returns c = c.contains.ensures ∙ c.self.invariant c.args.name.now ∙ ap (list_any (λ (y : List ℕ). bytes_eq y c.args.name.now)) c.self.view_is
