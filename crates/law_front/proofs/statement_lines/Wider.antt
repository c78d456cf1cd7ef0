-- Statements between two lines are between wider ones.
use Rattle.std.proofs.Common.{ℕ, ◌≤◌, List, [], ◌∷◌, ◌++◌, arith}
use Rattle.std.specs.List.{AllByRecursion}
use Rattle.pt_wide.specs.Syntax as W
use Rattle.pt_wide.specs.Syntax.{Stm, Stms, Branches, Handlers, none, more}
use Rattle.pt_wide.specs.StatementFold.{stms_from}
use Rattle.law_front.specs.statement_lines.OnLines.{IsBetween, StmOnLines, StmsOnLines, BranchesOnLines, HandlersOnLines}

module _ {a b y z : ℕ} (low : b ≤ a) (high : y ≤ z) where
  line : (l : ℕ) → IsBetween a y l → IsBetween b z l
  line l h = let p = h.0 in let q = h.1 in (omega (arith, low, p), omega (arith, high, q))

-- by recursion, from and to wider lines
mutual
  pub stm : {a b y z : ℕ} (s : Stm) → b ≤ a → y ≤ z → StmOnLines a y s → StmOnLines b z s
  stm (W.assign l ts e) p q h = line p q l h
  stm (W.augmented l t o e) p q h = line p q l h
  stm (W.annotated l t e v) p q h = line p q l h
  stm (W.assert l c m) p q h = line p q l h
  stm (W.pass l) p q h = line p q l h
  stm (W.del l ts) p q h = line p q l h
  stm (W.return l v) p q h = line p q l h
  stm (W.raise l e c) p q h = line p q l h
  stm (W.raise_again l) p q h = line p q l h
  stm (W.break l) p q h = line p q l h
  stm (W.continue l) p q h = line p q l h
  stm (W.import l xs) p q h = line p q l h
  stm (W.import_from l d x xs) p q h = line p q l h
  stm (W.global l xs) p q h = line p q l h
  stm (W.nonlocal l xs) p q h = line p q l h
  stm (W.choice l bs els) p q h = (line p q l h.0, h.1, branches bs p q h.2, stms els p q h.3)
  stm (W.while l c body els) p q h = (line p q l h.0, stms body p q h.1, stms els p q h.2)
  stm (W.for l t it body els) p q h = (line p q l h.0, stms body p q h.1, stms els p q h.2)
  stm (W.try l body hs els fin) p q h =
      let m = h.2 in
      let u = m.1 in
      let v = m.2 in (
        line p q l h.0,
        stms body p q h.1,
        (
          m.0,
          omega (arith, p, u),
          omega (arith, q, v),
          handlers hs p (omega arith) m.3,
          stms els
              (omega arith) q m.4,
        ),
        stms fin p q h.3,
      )
  stm (W.with l is body) p q h = (line p q l h.0, stms body p q h.1)
  stm (W.def l ds k x ps r body) p q h = (line p q l h.0, stms body p q h.1)
  stm (W.class l ds k x args c body) p q h = (line p q l h.0, stms body p q h.1)

  pub stms : {a b y z : ℕ} (ss : Stms) → b ≤ a → y ≤ z → StmsOnLines a y ss → StmsOnLines b z ss
  stms none p q h = tt
  stms (more s ss) p q h = (stm s p q h.0, stms ss p q h.1)

  branches : {a b y z : ℕ} (bs : Branches) → b ≤ a → y ≤ z → BranchesOnLines a y bs → BranchesOnLines b z bs
  branches W.no_branches p q h = tt
  branches (W.branch l c body r) p q h = (stms body p q h.0, branches r p q h.1)

  handlers : {a b y z : ℕ} (hs : Handlers) → b ≤ a → y ≤ z → HandlersOnLines a y hs → HandlersOnLines b z hs
  handlers W.no_handlers p q h = tt
  handlers (W.handler l star c x body r) p q h = (stms body p q h.0, handlers r p q h.1)

-- lists of statements, as they are read
abbrev pub On : (from to : ℕ) → List Stm → Type 0
On a z ss = AllByRecursion (StmOnLines a z) ss

pub all : {a b y z : ℕ} (ss : List Stm) → b ≤ a → y ≤ z → On a y ss → On b z ss
all [] p q h = tt
all (s ∷ ss) p q h = (stm s p q h.0, all ss p q h.1)

pub all_of : (a z : ℕ) (ss : List Stm) → On a z ss → StmsOnLines a z (stms_from ss)
all_of a z [] h = tt
all_of a z (s ∷ ss) h = (h.0, all_of a z ss h.1)

pub snoc : {A : Type 0} (P : A → Type 0) (xs : List A) (x : A) → AllByRecursion P xs → P x → AllByRecursion P (xs ++ (x ∷ []))
snoc P [] x h p = (p, tt)
snoc P (y ∷ xs) x h p = (h.0, snoc P xs x h.1 p)
