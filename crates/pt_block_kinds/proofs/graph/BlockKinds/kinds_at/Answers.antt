use Rattle.std.proofs.Common.{sym, subst}
use Rattle.std.specs.Prelude.{option_map}
use Rattle.pt_kinds.specs.Forest.{list_at}
use Rattle.pt_block_kinds.specs.Told.{TellsListAt}
use Rattle.pt_block_kinds.proofs.Failing.{kinds_told}
use Rattle.pt_block_kinds.proofs.graph.BlockKinds.kinds_at.Goals as goal

pub returns : goal.returns
returns c = λ b p sizes d seen has none i at.
    subst (λ o. TellsListAt b p c.args.at (option_map (list_at c.args.self.now.flow.forest) o)) (sym c.longest.ensures)
    (kinds_told b p sizes c.args.self.now d seen has none c.args.at i at)
