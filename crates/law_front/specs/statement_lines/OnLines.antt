-- The lines on which the statements of the wide grammar start (Language Reference 2.1.1, 8). In each `try` the handlers start on lines before those
-- of the `else` part (8.4), and an `if` has a test (8.1).
use Rattle.std.specs.Prelude.{ℕ, ◌≤◌, ◌<◌}
use Rattle.pt_wide.specs.Syntax as W
use Rattle.pt_wide.specs.Syntax.{Stm, Stms, Branches, Handlers, none, more}

-- from a line on, and before another
abbrev pub IsBetween : (from to line : ℕ) → Type 0
IsBetween a z l = (a ≤ l) × (l < z)

abbrev pub HasBranch : Branches → Type 0
HasBranch W.no_branches = ⊥
HasBranch (W.branch l c body r) = Unit {0}

abbrev mutual
  pub StmOnLines : (from to : ℕ) → Stm → Type 0
  StmOnLines a z (W.assign l ts e) = IsBetween a z l
  StmOnLines a z (W.augmented l t o e) = IsBetween a z l
  StmOnLines a z (W.annotated l t e v) = IsBetween a z l
  StmOnLines a z (W.assert l c m) = IsBetween a z l
  StmOnLines a z (W.pass l) = IsBetween a z l
  StmOnLines a z (W.del l ts) = IsBetween a z l
  StmOnLines a z (W.return l v) = IsBetween a z l
  StmOnLines a z (W.raise l e c) = IsBetween a z l
  StmOnLines a z (W.raise_again l) = IsBetween a z l
  StmOnLines a z (W.break l) = IsBetween a z l
  StmOnLines a z (W.continue l) = IsBetween a z l
  StmOnLines a z (W.import l xs) = IsBetween a z l
  StmOnLines a z (W.import_from l d x xs) = IsBetween a z l
  StmOnLines a z (W.global l xs) = IsBetween a z l
  StmOnLines a z (W.nonlocal l xs) = IsBetween a z l
  StmOnLines a z (W.choice l bs els) = IsBetween a z l × HasBranch bs × BranchesOnLines a z bs × StmsOnLines a z els
  StmOnLines a z (W.while l c body els) = IsBetween a z l × StmsOnLines a z body × StmsOnLines a z els
  StmOnLines a z (W.for l t it body els) = IsBetween a z l × StmsOnLines a z body × StmsOnLines a z els
  StmOnLines a z (W.try l body hs els fin) =
      IsBetween a z l × StmsOnLines a z body × ((m : ℕ) × (a ≤ m) × (m ≤ z) × HandlersOnLines a m hs × StmsOnLines m z els) × StmsOnLines a z fin
  StmOnLines a z (W.with l is body) = IsBetween a z l × StmsOnLines a z body
  StmOnLines a z (W.def l ds k x ps r body) = IsBetween a z l × StmsOnLines a z body
  StmOnLines a z (W.class l ds k x args b body) = IsBetween a z l × StmsOnLines a z body

  pub StmsOnLines : (from to : ℕ) → Stms → Type 0
  StmsOnLines a z none = Unit {0}
  StmsOnLines a z (more s ss) = StmOnLines a z s × StmsOnLines a z ss

  pub BranchesOnLines : (from to : ℕ) → Branches → Type 0
  BranchesOnLines a z W.no_branches = Unit {0}
  BranchesOnLines a z (W.branch l c body r) = StmsOnLines a z body × BranchesOnLines a z r

  pub HandlersOnLines : (from to : ℕ) → Handlers → Type 0
  HandlersOnLines a z W.no_handlers = Unit {0}
  HandlersOnLines a z (W.handler l star c x body r) = StmsOnLines a z body × HandlersOnLines a z r
