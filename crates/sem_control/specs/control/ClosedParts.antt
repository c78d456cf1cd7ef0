-- The closed parts of a block by its syntax, in source order, each with its number.
use Rattle.std.specs.Prelude.{◌≡◌, ℕ, ◌+◌, true, false, List, [], ◌∷◌, ◌++◌, Some, None}
use Rattle.pt_tree.specs.Syntax as S
use Rattle.pt_tree.specs.Syntax.{Items, Stm, Stms, Branches, Handlers, none, more}
use Rattle.pt_tree.specs.Sizes.{size, target_size, opt_size, items_size, stm_size, stms_size}
use Rattle.sem_control.specs.control.Numbers.{tested_body, behind_body, for_body, for_else, try_handlers, try_else, try_finally, handler_body}
use Rattle.sem_control.specs.control.Jump.{Part, for_part, with_part, tests_part, handler_part, finally_part, exit_part, same, has, body_at, behind_branches}

abbrev pub tests_of : Handlers → (n : ℕ) → List Part
tests_of S.no_handlers n = []
tests_of (S.handler l c x body r) n = tests_part n ∷ []

abbrev pub finally_of : (finally : Stms) → (tried : ℕ) → List Part
finally_of none t = []
finally_of (more st ss) t = finally_part t ∷ []

-- the items of a `with` around the parts inside: each has its body's part and its exit; k is the size of the body
abbrev pub item_parts : Items → (k n : ℕ) → (inside : List Part) → List Part
item_parts S.no_items k n inside = inside
item_parts (S.with_item l e None r) k n inside =
    with_part (n + size e + 1 + items_size r k) ∷ exit_part (n + size e + 1 + items_size r k) ∷ item_parts r k (n + size e + 1) inside
item_parts (S.with_item l e (Some t) r) k n inside =
    with_part (n + size e + 1 + target_size t + items_size r k) ∷ exit_part (n + size e + 1 + target_size t + items_size r k)
    ∷ item_parts r k (n + size e + 1 + target_size t) inside

-- the parts of statements, the blocks of functions and classes apart
abbrev mutual
  pub parts_in : Stm → (n : ℕ) → List Part
  parts_in (S.choice l bs els) n = branch_parts bs n ++ parts_of els (behind_branches bs n)
  parts_in (S.while l c body els) n = parts_of body (tested_body n c) ++ parts_of els (behind_body n c body)
  parts_in (S.for l t it body els) n =
      for_part (n + size it + 1) ∷ (parts_of body (for_body (n + size it + 1) t) ++ parts_of els (for_else (n + size it + 1) t body))
  parts_in (S.try l body hs els fin) n =
      finally_of fin n ++ (parts_of body (n + 1) ++ (tests_of hs (try_handlers n body) ++ (handler_parts hs (try_handlers n body)
      ++ (parts_of els (try_else n body hs) ++ parts_of fin (try_finally n body hs els)))))
  parts_in (S.with l is body) n = item_parts is (stms_size body) n (parts_of body (body_at is n))
  parts_in st n = []

  pub parts_of : Stms → (n : ℕ) → List Part
  parts_of none n = []
  parts_of (more st ss) n = parts_in st n ++ parts_of ss (n + stm_size st)

  pub branch_parts : Branches → (n : ℕ) → List Part
  branch_parts S.no_branches n = []
  branch_parts (S.branch l c body r) n = parts_of body (tested_body n c) ++ branch_parts r (behind_body n c body)

  pub handler_parts : Handlers → (n : ℕ) → List Part
  handler_parts S.no_handlers n = []
  handler_parts (S.handler l c x body r) n =
      handler_part (n + opt_size c) ∷ (parts_of body (handler_body (n + opt_size c) x) ++ handler_parts r (handler_body (n + opt_size c) x + stms_size body))

-- no two of them are the same part
abbrev pub Apart_from : Part → List Part → Type 0
Apart_from q [] = Unit {0}
Apart_from q (p ∷ ps) = (same q p ≡ false) × Apart_from q ps

abbrev pub All_apart : List Part → Type 0
All_apart [] = Unit {0}
All_apart (p ∷ ps) = Apart_from p ps × All_apart ps

-- each of some parts is one of others
abbrev pub Among : (ps qs : List Part) → Type 0
Among ps qs = (q : Part) → has ps q ≡ true → has qs q ≡ true
