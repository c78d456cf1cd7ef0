use Rattle.std.proofs.Common.{ap, sym}
use Rattle.pt_tree.proofs.Folds.{target_of-Place}
use Rattle.sem_control.specs.control.Statements.{places}
use Rattle.sem_compile.specs.stm_pieces.Needed.{is_nowhere}
use Rattle.pt_exits.proofs.places.+nowhere.Goals as goal

pub is_empty_target-returns-in-Place : goal.is_empty_target-returns-in-Place
is_empty_target-returns-in-Place t c = sym (ap (λ u. is_nowhere (places u)) (target_of-Place c.args.target.now _ c.in-Place.is))
