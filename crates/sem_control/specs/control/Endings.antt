-- Which statements can come to their end, and which can break the loop around, as far as their form tells, and in which blocks each statement can be
-- reached. A reply may be any, so both ways of each test are open, and each act may raise.
use Rattle.std.specs.Prelude.{◌≤◌, ◌⊎◌}
use Rattle.pt_tree.specs.Syntax as S
use Rattle.pt_tree.specs.Syntax.{Stm, Stms, Branches, Handlers}
use Rattle.pt_tree.specs.Sizes.{stms_size}
use Rattle.pt_tree.specs.Blocks as B
use Rattle.pt_tree.specs.Blocks.{Code, function_body}

abbrev mutual
  pub Ends : Stm → Type 0
  Ends (S.return l v) = ⊥
  Ends (S.raise l e c) = ⊥
  Ends (S.raise_again l) = ⊥
  Ends (S.break l) = ⊥
  Ends (S.continue l) = ⊥
  Ends (S.choice l bs els) = A_branch_ends bs ⊎ All_end els
  Ends (S.while l c body els) = All_end els ⊎ One_breaks body
  Ends (S.for l t it body els) = All_end els ⊎ One_breaks body
  -- a handler begins only where the body has an act that raises
  Ends (S.try l body hs els fin) = ((All_end body × All_end els) ⊎ ((1 ≤ stms_size body) × A_handler_ends hs)) × All_end fin
  -- an exit may swallow a raise
  Ends (S.with l S.no_items body) = All_end body
  Ends st = Unit {0}

  pub All_end : Stms → Type 0
  All_end S.none = Unit {0}
  All_end (S.more st ss) = Ends st × All_end ss

  pub A_branch_ends : Branches → Type 0
  A_branch_ends S.no_branches = ⊥
  A_branch_ends (S.branch l c body r) = All_end body ⊎ A_branch_ends r

  pub A_handler_ends : Handlers → Type 0
  A_handler_ends S.no_handlers = ⊥
  A_handler_ends (S.handler l c x body r) = All_end body ⊎ A_handler_ends r

  -- a `break` in it leaves the loop around; in the body of a loop it leaves that one
  pub Breaks : Stm → Type 0
  Breaks (S.break l) = Unit {0}
  Breaks (S.choice l bs els) = A_branch_breaks bs ⊎ One_breaks els
  Breaks (S.while l c body els) = One_breaks els
  Breaks (S.for l t it body els) = One_breaks els
  -- a `finally` part that ends lets it go on, and one that breaks replaces what led to it
  Breaks (S.try l body hs els fin) =
      ((One_breaks body ⊎ (((1 ≤ stms_size body) × A_handler_breaks hs) ⊎ (All_end body × One_breaks els))) × All_end fin) ⊎ One_breaks fin
  Breaks (S.with l is body) = One_breaks body
  Breaks st = ⊥

  pub One_breaks : Stms → Type 0
  One_breaks S.none = ⊥
  One_breaks (S.more st ss) = Breaks st ⊎ (Ends st × One_breaks ss)

  pub A_branch_breaks : Branches → Type 0
  A_branch_breaks S.no_branches = ⊥
  A_branch_breaks (S.branch l c body r) = One_breaks body ⊎ A_branch_breaks r

  pub A_handler_breaks : Handlers → Type 0
  A_handler_breaks S.no_handlers = ⊥
  A_handler_breaks (S.handler l c x body r) = One_breaks body ⊎ A_handler_breaks r

-- where there is a next statement, or an `else` part of a `try`, what stands before comes to its end
abbrev pub Leads_on : Type 0 → Stms → Type 0
Leads_on before S.none = Unit {0}
Leads_on before (S.more st ss) = before

abbrev mutual
  pub Reached_within : Stm → Type 0
  Reached_within (S.choice l bs els) = Branches_reached bs × All_reached els
  Reached_within (S.while l c body els) = All_reached body × All_reached els
  Reached_within (S.for l t it body els) = All_reached body × All_reached els
  Reached_within (S.try l body hs els fin) =
      All_reached body × Handlers_reached body hs × Leads_on (All_end body) els × All_reached els × All_reached fin
  Reached_within (S.with l is body) = All_reached body
  Reached_within st = Unit {0}

  pub All_reached : Stms → Type 0
  All_reached S.none = Unit {0}
  All_reached (S.more st ss) = Reached_within st × Leads_on (Ends st) ss × All_reached ss

  pub Branches_reached : Branches → Type 0
  Branches_reached S.no_branches = Unit {0}
  Branches_reached (S.branch l c body r) = All_reached body × Branches_reached r

  pub Handlers_reached : (body : Stms) → Handlers → Type 0
  Handlers_reached body S.no_handlers = Unit {0}
  Handlers_reached body (S.handler l c x b r) = (1 ≤ stms_size body) × All_reached b × Handlers_reached body r

abbrev pub Code_reached : Code → Type 0
Code_reached (B.of_module ss) = All_reached ss
Code_reached (B.of_function ss) = All_reached (function_body ss)
Code_reached (B.of_class ss) = All_reached ss
Code_reached (B.of_lambda l e) = Unit {0}
Code_reached (B.of_generator l e k t cs) = Unit {0}
