-- The loop around each `finally` part, and what such a part may hold: a `break` or a `continue` that
-- stands in the body of that loop (Language Reference 7.9, 7.10, 8.4.4).
use Rattle.std.specs.Prelude.{◌≡◌, ℕ, ◌+◌, List, [], ◌∷◌, ◌++◌, Bool, true, false, nat_eq, Option, Some, None, if◌then◌else◌}
use Rattle.pt_tree.specs.Syntax as S
use Rattle.pt_tree.specs.Syntax.{Exp, Tgt, Stm, Stms, Branches, Handlers, none, more}
use Rattle.pt_tree.specs.Sizes.{size, stm_size, stms_size}
use Rattle.pt_tree.specs.Blocks.{Code}
use Rattle.sem_control.specs.control.Frames as F
use Rattle.sem_control.specs.control.Frames.{Completion, Nest}
use Rattle.sem_control.specs.control.Numbers.{tested_body, behind_body, for_body, for_else, try_handlers}
use Rattle.sem_control.specs.control.Numbers.{try_else, try_finally, handler_body}
use Rattle.sem_control.specs.control.Jump as J
use Rattle.sem_control.specs.control.Jump.{body_at, statements_of}
use Rattle.pt_assembler.specs.declared.operation.Exit.{Exit}
use Rattle.pt_assembler.specs.declared.operation.Exit.TheVariants.{Break, Continue}
use Rattle.sem_compile.specs.stm_pieces.Needed.{some_exits}

-- the body of a loop, with the number of its first act
pub record Body : Type 0 where
  pub number : ℕ
  pub statements : Stms

abbrev pub a_body : (number : ℕ) → Stms → Body
a_body n ss = record { number = n; statements = ss }

-- of the innermost loop of a nest
abbrev pub body_of : {V : Type 0} → Nest V → Option Body
body_of [] = None
body_of (F.looping l n c body els ∷ s) = Some (a_body (tested_body n c) body)
body_of (F.iterating l n i t body els ∷ s) = Some (a_body (for_body n t) body)
body_of (F.rest n ss ∷ s) = body_of s
body_of (F.guarded n hs els ∷ s) = body_of s
body_of (F.testing n e ∷ s) = body_of s
body_of (F.handling n e ∷ s) = body_of s
body_of (F.naming x ∷ s) = body_of s
body_of (F.ensuring t n fin ∷ s) = body_of s
body_of (F.ending t held ∷ s) = body_of s
body_of (F.withing l n w ∷ s) = body_of s
body_of (F.exiting n w held ∷ s) = body_of s

-- a `break`, or a `continue`, of the loop stands in its body
abbrev pub exits_in : Exit → Option Body → Bool
exits_in e None = false
exits_in e (Some b) = some_exits e b.statements

-- a completion that may come from there
abbrev pub ComesFrom : {V : Type 0} → Completion V → Option Body → Type 0
ComesFrom F.normal o = Unit {0}
ComesFrom (F.by (F.raise v)) o = Unit {0}
ComesFrom (F.by (F.return v)) o = Unit {0}
ComesFrom (F.by F.break) o = exits_in Break o ≡ true
ComesFrom (F.by F.continue) o = exits_in Continue o ≡ true

-- what each `finally` part of a nest holds comes from the loop around it, which is that of the part
abbrev pub HoldsExits : {V : Type 0} → (bodies : ℕ → Option Body) → Nest V → Type 0
HoldsExits f [] = Unit {0}
HoldsExits f (F.ending t held ∷ s) = ((f t ≡ body_of s) × ComesFrom held (body_of s)) × HoldsExits f s
HoldsExits f (F.rest n ss ∷ s) = HoldsExits f s
HoldsExits f (F.looping l n c body els ∷ s) = HoldsExits f s
HoldsExits f (F.iterating l n i t body els ∷ s) = HoldsExits f s
HoldsExits f (F.guarded n hs els ∷ s) = HoldsExits f s
HoldsExits f (F.testing n e ∷ s) = HoldsExits f s
HoldsExits f (F.handling n e ∷ s) = HoldsExits f s
HoldsExits f (F.naming x ∷ s) = HoldsExits f s
HoldsExits f (F.ensuring t n fin ∷ s) = HoldsExits f s
HoldsExits f (F.withing l n w ∷ s) = HoldsExits f s
HoldsExits f (F.exiting n w held ∷ s) = HoldsExits f s

-- the `finally` part of the `try` with this number, and the body of the loop around it
pub record PartBody : Type 0 where
  pub tried : ℕ
  pub body : Option Body

abbrev pub part_body : (tried : ℕ) → Option Body → PartBody
part_body t o = record { tried = t; body = o }

abbrev pub body_in : List PartBody → (tried : ℕ) → Option Body
body_in [] t = None
body_in (s ∷ ss) t = if nat_eq s.tried t then s.body else body_in ss t

abbrev pub finally_body : (finally : Stms) → (tried : ℕ) → Option Body → List PartBody
finally_body none t o = []
finally_body (more st ss) t o = part_body t o ∷ []

-- of statements with this loop around them
abbrev mutual
  pub bodies_in : Stm → (n : ℕ) → Option Body → List PartBody
  bodies_in (S.choice l bs els) n o =
      bodies_of_branches bs n o ++ bodies_of_all els (J.behind_branches bs n) o
  bodies_in (S.while l c body els) n o =
      bodies_of_all body (tested_body n c) (Some (a_body (tested_body n c) body))
      ++ bodies_of_all els (behind_body n c body) o
  bodies_in (S.for l t it body els) n o =
      bodies_of_all body (for_body (n + size it + 1) t)
      (Some (a_body (for_body (n + size it + 1) t) body))
      ++ bodies_of_all els (for_else (n + size it + 1) t body) o
  bodies_in (S.try l body hs els fin) n o =
      finally_body fin n o ++ (bodies_of_all body (n + 1) o
      ++ (bodies_of_handlers hs (try_handlers n body) o
      ++ (bodies_of_all els (try_else n body hs) o
      ++ bodies_of_all fin (try_finally n body hs els) o)))
  bodies_in (S.with l is body) n o = bodies_of_all body (body_at is n) o
  bodies_in st n o = []

  pub bodies_of_all : Stms → (n : ℕ) → Option Body → List PartBody
  bodies_of_all none n o = []
  bodies_of_all (more st ss) n o = bodies_in st n o ++ bodies_of_all ss (n + stm_size st) o

  pub bodies_of_branches : Branches → (n : ℕ) → Option Body → List PartBody
  bodies_of_branches S.no_branches n o = []
  bodies_of_branches (S.branch l c body r) n o =
      bodies_of_all body (tested_body n c) o ++ bodies_of_branches r (behind_body n c body) o

  pub bodies_of_handlers : Handlers → (n : ℕ) → Option Body → List PartBody
  bodies_of_handlers S.no_handlers n o = []
  bodies_of_handlers (S.handler l S.absent x body r) n o =
      bodies_of_all body (handler_body n x) o
      ++ bodies_of_handlers r (handler_body n x + stms_size body) o
  bodies_of_handlers (S.handler l (S.given c) x body r) n o =
      bodies_of_all body (handler_body (n + size c) x) o
      ++ bodies_of_handlers r (handler_body (n + size c) x + stms_size body) o

-- of what a block runs
abbrev pub bodies_of_code : Code → ℕ → Option Body
bodies_of_code c t = body_in (bodies_of_all (statements_of c) 0 None) t
