-- What the text of a block gives its tree: no suite is empty that code needs (Language Reference 8.1, 8.4, 8.5), and the `else` part of a `try` stands on
-- lines of its own, since code has it in front of the handlers.
use Rattle.std.specs.Prelude.{◌≡◌, ℕ, ◌+◌, List, [], ◌∷◌, Some}
use Rattle.pt_tree.specs.Syntax as S
use Rattle.pt_tree.specs.Syntax.{Stm, Stms, Branches, Handlers, none, more}
use Rattle.pt_tree.specs.Sizes.{size, opt_size, stm_size, stms_size}
use Rattle.pt_tree.specs.Blocks.{Code}
use Rattle.sem_control.specs.control.Frames.{normal, rest, looping, iterating, guarded, handling, ensuring, ending}
use Rattle.sem_control.specs.control.Numbers.{tested_body, behind_body, for_body, for_else, try_handlers, try_else, try_finally, handler_body}
use Rattle.sem_control.specs.control.Jump.{Shape, Target, with_name, body_at, within_items, behind_branches, starts, handler_starts, statements_of, on_line}

-- the body of a `try` has a statement, a `with` an item, and an `if` a test
abbrev mutual
  pub Grammatical : Stm → Type 0
  Grammatical (S.choice l S.no_branches els) = ⊥
  Grammatical (S.choice l (S.branch k c body r) els) = All_grammatical body × Branches_grammatical r × All_grammatical els
  Grammatical (S.while l c body els) = All_grammatical body × All_grammatical els
  Grammatical (S.for l t it body els) = All_grammatical body × All_grammatical els
  Grammatical (S.try l none hs els fin) = ⊥
  Grammatical (S.try l (more st ss) hs els fin) =
      Grammatical st × All_grammatical ss × Handlers_grammatical hs × All_grammatical els × All_grammatical fin
  Grammatical (S.with l S.no_items body) = ⊥
  Grammatical (S.with l is body) = All_grammatical body
  Grammatical st = Unit {0}

  pub All_grammatical : Stms → Type 0
  All_grammatical none = Unit {0}
  All_grammatical (more st ss) = Grammatical st × All_grammatical ss

  pub Branches_grammatical : Branches → Type 0
  Branches_grammatical S.no_branches = Unit {0}
  Branches_grammatical (S.branch l c body r) = All_grammatical body × Branches_grammatical r

  pub Handlers_grammatical : Handlers → Type 0
  Handlers_grammatical S.no_handlers = Unit {0}
  Handlers_grammatical (S.handler l c x body r) = All_grammatical body × Handlers_grammatical r

-- no line has a statement of both
abbrev pub Share_no_line : (ts us : List Target) → Type 0
Share_no_line ts us = (line : ℕ) (t u : Target) → on_line line ts ≡ Some t → on_line line us ≡ Some u → ⊥

-- the handlers of each `try` share no line with its `else` part; numbers and nests are those of its starts
abbrev mutual
  pub Else_apart : Stm → (n : ℕ) → Shape → Type 0
  Else_apart (S.choice l bs els) n s = Branches_else_apart bs n s × All_else_apart els (behind_branches bs n) s
  Else_apart (S.while l c body els) n s =
      All_else_apart body (tested_body n c) (looping l n c body els ∷ s) × All_else_apart els (behind_body n c body) s
  Else_apart (S.for l t it body els) n s =
      All_else_apart body (for_body (n + size it + 1) t) (iterating l (n + size it + 1) tt t body els ∷ s)
      × All_else_apart els (for_else (n + size it + 1) t body) s
  Else_apart (S.try l body hs els fin) n s =
      Share_no_line (handler_starts hs (try_handlers n body) (ensuring n (try_finally n body hs els) fin ∷ s))
      (starts els (try_else n body hs) (ensuring n (try_finally n body hs els) fin ∷ s))
      × All_else_apart body (n + 1) (guarded (try_handlers n body) hs els ∷ ensuring n (try_finally n body hs els) fin ∷ s)
      × Handlers_else_apart hs (try_handlers n body) (ensuring n (try_finally n body hs els) fin ∷ s)
      × All_else_apart els (try_else n body hs) (ensuring n (try_finally n body hs els) fin ∷ s)
      × All_else_apart fin (try_finally n body hs els) (ending n normal ∷ s)
  Else_apart (S.with l is body) n s = All_else_apart body (body_at is n) (within_items is (stms_size body) n s)
  Else_apart st n s = Unit {0}

  pub All_else_apart : Stms → (n : ℕ) → Shape → Type 0
  All_else_apart none n s = Unit {0}
  All_else_apart (more st ss) n s = Else_apart st n (rest (n + stm_size st) ss ∷ s) × All_else_apart ss (n + stm_size st) s

  pub Branches_else_apart : Branches → (n : ℕ) → Shape → Type 0
  Branches_else_apart S.no_branches n s = Unit {0}
  Branches_else_apart (S.branch l c body r) n s = All_else_apart body (tested_body n c) s × Branches_else_apart r (behind_body n c body) s

  pub Handlers_else_apart : Handlers → (n : ℕ) → Shape → Type 0
  Handlers_else_apart S.no_handlers n s = Unit {0}
  Handlers_else_apart (S.handler l c x body r) n s =
      All_else_apart body (handler_body (n + opt_size c) x) (with_name x (handling (n + opt_size c) tt ∷ s))
      × Handlers_else_apart r (handler_body (n + opt_size c) x + stms_size body) s

abbrev pub Code_grammatical : Code → Type 0
Code_grammatical c = All_grammatical (statements_of c)

abbrev pub Code_else_apart : Code → Type 0
Code_else_apart c = All_else_apart (statements_of c) 0 []
