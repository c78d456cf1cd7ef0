-- The lines on which statements start (Language Reference 2.1.1, 8). In each `try` the handlers start on lines before those of the `else` part (8.4),
-- and an `if` has a test (8.1).
use Rattle.std.specs.Prelude.{ℕ, ◌≤◌}
use Rattle.pt_tree.specs.Syntax as S
use Rattle.pt_tree.specs.Syntax.{Stm, Stms, Branches, Handlers, none, more}
use Rattle.pt_tree.specs.Blocks as B
use Rattle.pt_tree.specs.Blocks.{Code}
use Rattle.law_front.specs.statement_lines.OnLines.{IsBetween}

abbrev pub HasBranch : Branches → Type 0
HasBranch S.no_branches = ⊥
HasBranch (S.branch l c body r) = Unit {0}

abbrev mutual
  pub StmOnLines : (from to : ℕ) → Stm → Type 0
  StmOnLines a z (S.expr l e) = IsBetween a z l
  StmOnLines a z (S.assign l ts e) = IsBetween a z l
  StmOnLines a z (S.augmented l p o e) = IsBetween a z l
  StmOnLines a z (S.annotated l p e v) = IsBetween a z l
  StmOnLines a z (S.assert l c m) = IsBetween a z l
  StmOnLines a z (S.pass l) = IsBetween a z l
  StmOnLines a z (S.del l ts) = IsBetween a z l
  StmOnLines a z (S.return l v) = IsBetween a z l
  StmOnLines a z (S.raise l e c) = IsBetween a z l
  StmOnLines a z (S.raise_again l) = IsBetween a z l
  StmOnLines a z (S.break l) = IsBetween a z l
  StmOnLines a z (S.continue l) = IsBetween a z l
  StmOnLines a z (S.import l xs) = IsBetween a z l
  StmOnLines a z (S.import_from l m xs) = IsBetween a z l
  StmOnLines a z (S.global l xs) = IsBetween a z l
  StmOnLines a z (S.nonlocal l xs) = IsBetween a z l
  StmOnLines a z (S.choice l bs els) = IsBetween a z l × HasBranch bs × BranchesOnLines a z bs × StmsOnLines a z els
  StmOnLines a z (S.while l c body els) = IsBetween a z l × StmsOnLines a z body × StmsOnLines a z els
  StmOnLines a z (S.for l t it body els) = IsBetween a z l × StmsOnLines a z body × StmsOnLines a z els
  StmOnLines a z (S.try l body hs els fin) =
      IsBetween a z l × StmsOnLines a z body × ((m : ℕ) × (a ≤ m) × (m ≤ z) × HandlersOnLines a m hs × StmsOnLines m z els) × StmsOnLines a z fin
  StmOnLines a z (S.with l is body) = IsBetween a z l × StmsOnLines a z body
  StmOnLines a z (S.def l ds k b x ps r body) = IsBetween a z l × StmsOnLines a z body
  StmOnLines a z (S.class l ds k b x base body) = IsBetween a z l × StmsOnLines a z body
  StmOnLines a z (S.docstring l) = IsBetween a z l

  pub StmsOnLines : (from to : ℕ) → Stms → Type 0
  StmsOnLines a z none = Unit {0}
  StmsOnLines a z (more st ss) = StmOnLines a z st × StmsOnLines a z ss

  pub BranchesOnLines : (from to : ℕ) → Branches → Type 0
  BranchesOnLines a z S.no_branches = Unit {0}
  BranchesOnLines a z (S.branch l c body r) = StmsOnLines a z body × BranchesOnLines a z r

  pub HandlersOnLines : (from to : ℕ) → Handlers → Type 0
  HandlersOnLines a z S.no_handlers = Unit {0}
  HandlersOnLines a z (S.handler l c x body r) = StmsOnLines a z body × HandlersOnLines a z r

-- of what a block runs, on some lines
abbrev pub CodeOnLines : Code → Type 0
CodeOnLines (B.of_module ss) = (a z : ℕ) × StmsOnLines a z ss
CodeOnLines (B.of_function ss) = (a z : ℕ) × StmsOnLines a z ss
CodeOnLines (B.of_class ss) = (a z : ℕ) × StmsOnLines a z ss
CodeOnLines (B.of_lambda l e) = Unit {0}
CodeOnLines (B.of_generator l e k t cs) = Unit {0}
