-- What code makes of wide statements: the statements of the language that they are.
use Rattle.std.specs.Prelude.{ℕ, List, map, Option, None, Result}
use Rattle.pt_tree.specs.declared.statement.Branch.{Branch}
use Rattle.pt_tree.specs.declared.statement.Handler.{Handler}
use Rattle.pt_tree.specs.declared.statement.Stmt.{Stmt}
use Rattle.pt_tree.specs.Fold.{chained}
use Rattle.pt_tree.specs.StatementFold as F
use Rattle.pt_tree.specs.Syntax as T
use Rattle.pt_wide.specs.declared.statement.WideBranch.{WideBranch}
use Rattle.pt_wide.specs.declared.statement.WideHandler.{WideHandler}
use Rattle.pt_wide.specs.StatementFold as V
use Rattle.pt_wide.specs.Syntax as W
use Rattle.pt_refine_expr.specs.declared.unnarrowed.Unnarrowed.{Unnarrowed}
use Rattle.pt_refine_expr.specs.Narrowed.{Makes}
use Rattle.pt_refine_expr.specs.StatementBlocks.{blocks_stm}
use Rattle.pt_refine_expr.specs.StatementNarrow.{narrow_stm}

-- of a statement
abbrev pub MakesStm : Result Stmt Unnarrowed → (before : ℕ) → W.Stm → (now : ℕ) → Type 0
MakesStm r n s m = Makes F.stm_of r (narrow_stm n s) n (blocks_stm s) m

-- by a function that makes some kinds of statements
abbrev pub MakesBy : (narrow : ℕ → W.Stm → Option T.Stm) → Result Stmt Unnarrowed → (before : ℕ) → W.Stm → (now : ℕ) → Type 0
MakesBy f r n s m = Makes F.stm_of r (f n s) n (blocks_stm s) m

abbrev pub branches_of : List Branch → T.Branches
branches_of bs = chained T.no_branches (map F.branch_of bs)

abbrev pub handlers_of : List Handler → T.Handlers
handlers_of hs = chained T.no_handlers (map F.handler_of hs)

abbrev pub wide_branches : List WideBranch → W.Branches
wide_branches bs = chained W.no_branches (map V.branch_of bs)

abbrev pub wide_handlers : List WideHandler → W.Handlers
wide_handlers hs = chained W.no_handlers (map V.handler_of hs)

-- what a function makes of the kinds that it knows; of the others, what the function behind it does
abbrev pub narrow_leaf : (before : ℕ) → W.Stm → Option T.Stm
narrow_leaf n (W.pass l) = narrow_stm n (W.pass l)
narrow_leaf n (W.raise_again l) = narrow_stm n (W.raise_again l)
narrow_leaf n (W.break l) = narrow_stm n (W.break l)
narrow_leaf n (W.continue l) = narrow_stm n (W.continue l)
narrow_leaf n (W.import l xs) = narrow_stm n (W.import l xs)
narrow_leaf n (W.import_from l dots m xs) = narrow_stm n (W.import_from l dots m xs)
narrow_leaf n (W.global l xs) = narrow_stm n (W.global l xs)
narrow_leaf n (W.nonlocal l xs) = narrow_stm n (W.nonlocal l xs)
narrow_leaf n s = None

abbrev pub narrow_simple : (before : ℕ) → W.Stm → Option T.Stm
narrow_simple n (W.del l ts) = narrow_stm n (W.del l ts)
narrow_simple n (W.return l v) = narrow_stm n (W.return l v)
narrow_simple n s = narrow_leaf n s

abbrev pub narrow_checked : (before : ℕ) → W.Stm → Option T.Stm
narrow_checked n (W.assert l c m) = narrow_stm n (W.assert l c m)
narrow_checked n (W.raise l e c) = narrow_stm n (W.raise l e c)
narrow_checked n s = narrow_simple n s

abbrev pub narrow_annotated : (before : ℕ) → W.Stm → Option T.Stm
narrow_annotated n (W.annotated l t a v) = narrow_stm n (W.annotated l t a v)
narrow_annotated n s = narrow_checked n s

abbrev pub narrow_augmented : (before : ℕ) → W.Stm → Option T.Stm
narrow_augmented n (W.augmented l t o e) = narrow_stm n (W.augmented l t o e)
narrow_augmented n s = narrow_annotated n s

abbrev pub narrow_assignment : (before : ℕ) → W.Stm → Option T.Stm
narrow_assignment n (W.assign l ts e) = narrow_stm n (W.assign l ts e)
narrow_assignment n s = narrow_augmented n s

abbrev pub narrow_classed : (before : ℕ) → W.Stm → Option T.Stm
narrow_classed n (W.class l ds cl x args comma body) = narrow_stm n (W.class l ds cl x args comma body)
narrow_classed n s = narrow_assignment n s

abbrev pub narrow_defined : (before : ℕ) → W.Stm → Option T.Stm
narrow_defined n (W.def l ds dl x ps r body) = narrow_stm n (W.def l ds dl x ps r body)
narrow_defined n s = narrow_classed n s

abbrev pub narrow_guarded : (before : ℕ) → W.Stm → Option T.Stm
narrow_guarded n (W.with l is body) = narrow_stm n (W.with l is body)
narrow_guarded n s = narrow_defined n s

abbrev pub narrow_tried : (before : ℕ) → W.Stm → Option T.Stm
narrow_tried n (W.try l body hs els fin) = narrow_stm n (W.try l body hs els fin)
narrow_tried n s = narrow_guarded n s

abbrev pub narrow_iterated : (before : ℕ) → W.Stm → Option T.Stm
narrow_iterated n (W.for l t it body els) = narrow_stm n (W.for l t it body els)
narrow_iterated n s = narrow_tried n s

abbrev pub narrow_repeated : (before : ℕ) → W.Stm → Option T.Stm
narrow_repeated n (W.while l c body els) = narrow_stm n (W.while l c body els)
narrow_repeated n s = narrow_iterated n s
