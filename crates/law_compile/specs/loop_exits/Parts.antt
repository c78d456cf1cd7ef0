-- Statements that have the parts which the grammar gives them: the body of a `try` has a statement, and a `with` has an item (Language Reference 8.4, 8.5).
use Rattle.pt_tree.specs.Syntax as S
use Rattle.pt_tree.specs.Syntax.{Items, Stm, Stms, Branches, Handlers, none, more}
use Rattle.pt_tree.specs.Blocks as B
use Rattle.pt_tree.specs.Blocks.{Code, function_body}

abbrev pub HasStatement : Stms → Type 0
HasStatement none = ⊥
HasStatement (more st ss) = Unit {0}

abbrev pub HasItem : Items → Type 0
HasItem S.no_items = ⊥
HasItem (S.with_item l e t r) = Unit {0}

-- the bodies of functions and classes are blocks of their own
abbrev mutual
  pub HasParts : Stm → Type 0
  HasParts (S.choice l bs els) = BranchesHaveParts bs × AllHaveParts els
  HasParts (S.while l c body els) = AllHaveParts body × AllHaveParts els
  HasParts (S.for l t it body els) = AllHaveParts body × AllHaveParts els
  HasParts (S.try l body hs els fin) = HasStatement body × AllHaveParts body × HandlersHaveParts hs × AllHaveParts els × AllHaveParts fin
  HasParts (S.with l is body) = HasItem is × AllHaveParts body
  HasParts st = Unit {0}

  pub AllHaveParts : Stms → Type 0
  AllHaveParts none = Unit {0}
  AllHaveParts (more st ss) = HasParts st × AllHaveParts ss

  pub BranchesHaveParts : Branches → Type 0
  BranchesHaveParts S.no_branches = Unit {0}
  BranchesHaveParts (S.branch l c body r) = AllHaveParts body × BranchesHaveParts r

  pub HandlersHaveParts : Handlers → Type 0
  HandlersHaveParts S.no_handlers = Unit {0}
  HandlersHaveParts (S.handler l c x body r) = AllHaveParts body × HandlersHaveParts r

abbrev pub CodeHasParts : Code → Type 0
CodeHasParts (B.of_module ss) = AllHaveParts ss
CodeHasParts (B.of_function ss) = AllHaveParts (function_body ss)
CodeHasParts (B.of_class ss) = AllHaveParts ss
CodeHasParts (B.of_lambda l e) = Unit {0}
CodeHasParts (B.of_generator l e k t cs) = Unit {0}
