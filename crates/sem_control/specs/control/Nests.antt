-- What is said of the acts of a block in the nests that the tree gives them: of a shape and the
-- number of an act (Language Reference 7, 8).
use Rattle.std.specs.Prelude.{ℕ, ◌+◌, ◌<◌, ◌≤◌, [], ◌∷◌, length, Some, None}
use Rattle.pt_tree.specs.Syntax as S
use Rattle.pt_tree.specs.Syntax.{Items, Stm, Stms, Branches, Handlers, none, more}
use Rattle.pt_tree.specs.Sizes.{size, opt_size, target_size, items_size, stm_size, stms_size}
use Rattle.pt_tree.specs.Blocks as B
use Rattle.pt_tree.specs.Blocks.{Code, acts_of_code, function_body}
use Rattle.sem_control.specs.control.Turn as T
use Rattle.sem_control.specs.control.Turn.{Around, Turn}
use Rattle.sem_control.specs.control.Frames as F
use Rattle.sem_control.specs.control.Frames.{normal, Control}
use Rattle.sem_control.specs.control.Numbers.{tested_body, behind_body, for_body, for_else, try_handlers, try_else}
use Rattle.sem_control.specs.control.Numbers.{try_finally, handler_body}
use Rattle.sem_control.specs.control.Control.{nest_at, turn}
use Rattle.sem_control.specs.control.Jump.{Shape, shape, with_name, behind_branches}

module _ (Says : Shape → (act : ℕ) → Type 0) where
  -- of each act from n up to m
  abbrev pub Each_says : Shape → (n m : ℕ) → Type 0
  Each_says s n m = (k : ℕ) → n ≤ k → k < m → Says s k

  -- 8.5: each item around its target, the items behind it and the acts inside, so many; the exit
  -- that is due has a frame of its own
  abbrev pub Items_say : Items → (inside : ℕ) → (Inside : ℕ → Shape → Type 0) → (n : ℕ) → Shape
      → Type 0
  Items_say S.no_items k Inside n s = Inside n s
  Items_say (S.with_item l e None r) k Inside n s =
      let m = n + size e + 1 in
      let x = m + items_size r k in
      Each_says s n m × Items_say r k Inside m (F.withing l x tt ∷ s)
      × Says (F.exiting x tt normal ∷ s) x
  Items_say (S.with_item l e (Some t) r) k Inside n s =
      let m = n + size e + 1 in
      let o = m + target_size t in
      let x = o + items_size r k in
      Each_says s n m × Each_says (F.withing l x tt ∷ s) m o
      × Items_say r k Inside o (F.withing l x tt ∷ s) × Says (F.exiting x tt normal ∷ s) x

  -- of a block's statements, each in the nest in which it begins. A statement without statements in
  -- it has all its acts there
  abbrev mutual
    pub Stm_says : Stm → (n : ℕ) → Shape → Type 0
    Stm_says (S.choice l bs els) n s = Branches_say bs n s × Stms_say els (behind_branches bs n) s
    Stm_says (S.while l c body els) n s =
        Each_says s n (tested_body n c)
        × Stms_say body (tested_body n c) (F.looping l n c body els ∷ s)
        × Stms_say els (behind_body n c body) s
    -- 8.3: from the first Next on in the nest of the body
    Stm_says (S.for l t it body els) n s =
        let m = n + size it + 1 in
        let within = F.iterating l m tt t body els ∷ s in
        Each_says s n m × Each_says within m (for_body m t) × Stms_say body (for_body m t) within
        × Stms_say els (for_else m t body) s
    Stm_says (S.try l body hs els fin) n s =
        let m = try_handlers n body in
        let f = try_finally n body hs els in
        let within = F.ensuring n f fin ∷ s in
        Says s n × Stms_say body (n + 1) (F.guarded m hs els ∷ within) × Handlers_say m hs m within
        × Stms_say els (try_else n body hs) within × Stms_say fin f (F.ending n normal ∷ s)
    Stm_says (S.with l is body) n s =
        Items_say is (stms_size body) (λ m u. Stms_say body m u) n s
    Stm_says st n s = Each_says s n (n + stm_size st)

    pub Stms_say : Stms → (n : ℕ) → Shape → Type 0
    Stms_say none n s = Unit {0}
    Stms_say (more st ss) n s =
        Stm_says st n (F.rest (n + stm_size st) ss ∷ s) × Stms_say ss (n + stm_size st) s

    pub Branches_say : Branches → (n : ℕ) → Shape → Type 0
    Branches_say S.no_branches n s = Unit {0}
    Branches_say (S.branch l c body r) n s =
        Each_says s n (tested_body n c) × Stms_say body (tested_body n c) s
        × Branches_say r (behind_body n c body) s

    -- 8.4.1: the classes and their Match in the tests, of which f numbers the first act; the Store
    -- of a name in its handler
    pub Handlers_say : (f : ℕ) → Handlers → (n : ℕ) → Shape → Type 0
    Handlers_say f S.no_handlers n s = Unit {0}
    Handlers_say f (S.handler l c x body r) n s =
        let m = n + opt_size c in
        let within = F.handling m tt ∷ s in
        Each_says (F.testing f tt ∷ s) n (m + 1) × Each_says within (m + 1) (handler_body m x)
        × Stms_say body (handler_body m x) (with_name x within)
        × Handlers_say f r (handler_body m x + stms_size body) s

  -- of all acts of a block; those of a lambda and of a generator expression are in no frame
  abbrev pub Code_says : Code → Type 0
  Code_says (B.of_module ss) = Stms_say ss 0 []
  Code_says (B.of_function ss) = Stms_say (function_body ss) 0 []
  Code_says (B.of_class ss) = Stms_say ss 0 []
  Code_says (B.of_lambda l e) = Each_says [] 0 (length (acts_of_code (B.of_lambda l e)))
  Code_says (B.of_generator l e k t cs) =
      Each_says [] 0 (length (acts_of_code (B.of_generator l e k t cs)))

  abbrev pub Turn_says : {S V : Type 0} → Shape → Turn S V → Type 0
  Turn_says s (T.act (Some m) a next) = Says s m.act
  Turn_says s t = Unit {0}

  -- of the act that is next, in the nest in which control is
  abbrev pub Next_says : {V : Type 0} → Around V → Control V → Type 0
  Next_says block c = Turn_says (shape (nest_at c)) (turn block c)
