use Rattle.pt_code.proofs.OneView.{one_view}
use Rattle.pt_code.proofs.view.one_view.Goals as goal

pub returns : goal.returns
returns c = one_view
