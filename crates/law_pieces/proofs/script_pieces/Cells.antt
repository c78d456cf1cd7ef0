-- What blocks take along is in cells.
use Rattle.std.proofs.Common.{ℕ, List, [], ◌∷◌, inl, inr, sym, subst}
use Rattle.sem_control.specs.control.Turn.{Variable}
use Rattle.pt_tree.specs.Syntax.{Stms}
use Rattle.sem_names.specs.Around.{around_of}
use Rattle.sem_names.specs.Laws.{HasCell, HaveCells}
use Rattle.sem_names.specs.Script.{naming_script}
use Rattle.sem_names.proofs.TakenLemmas.{cells_of_maker}
use Rattle.sem_compile.specs.stm_pieces.Names.{AllCells, IsCell, TakesCells}

is_cell : (x : Variable) → HasCell x → IsCell x.scope
is_cell x (inl is) = subst IsCell (sym is) tt
is_cell x (inr is) = subst IsCell (sym is) tt

all_cells : (xs : List Variable) → HaveCells xs → AllCells xs
all_cells [] h = tt
all_cells (x ∷ xs) h = (is_cell x h.0, all_cells xs h.1)

pub takes_cells : {V : Type 0} (v : V) (ss : Stms) (b : ℕ) → TakesCells (around_of v ss b)
takes_cells v ss b c = all_cells ((around_of v ss b).captured c) (cells_of_maker v (naming_script ss) b c)
