-- Where the acts around stand, a completion goes on with marked acts.
use Rattle.std.proofs.Common.{[], ◌∷◌, ◌++◌}
use Rattle.pt_tree.specs.declared.act.ActKind.TheVariants as K
use Rattle.pt_tree.specs.Syntax as S
use Rattle.pt_tree.specs.Syntax.{none, more}
use Rattle.sem_control.specs.control.Turn.{Around}
use Rattle.sem_control.specs.control.Frames as F
use Rattle.sem_control.specs.control.Frames.{raise, return, break, continue, Completion, normal, by, Frame, Nest, exiting, Control}
use Rattle.sem_control.specs.control.CompletionTable as P
use Rattle.sem_control.specs.control.CompletionTable.{Follows, row, onward}
use Rattle.sem_control.specs.control.Completions.{pass_on, follow, complete, let_go}
use Rattle.sem_control.specs.control.Jump.{Shape, shape_of, shape}
use Rattle.sem_control.proofs.control.MarksTree.{Numbering, Stms_in, Handlers_in}
use Rattle.sem_control.proofs.control.MarksFrames.{While_in, For_in, Frame_in, Nest_in, numbers, Control_in}
use Rattle.sem_control.proofs.control.MarksExpressions.{no_test}
use Rattle.sem_control.proofs.control.MarksStatements.{begin_all_in, begin_test_in, begin_next_in, begin_tests_in}

module _ (R : Shape → Numbering) {V : Type 0} where
  -- the acts of what follows a frame stand
  abbrev Follows_in : Follows V → Nest V → Type 0
  Follows_in (P.outwards c) s = Unit {0}
  Follows_in (P.lets_go c) s = Unit {0}
  Follows_in (P.begins n ss within c) s = Stms_in R ss n (shape (within ++ s)) × Nest_in R (within ++ s)
  Follows_in (P.tests_again l n c body els) s = While_in R l n c body els (shape s)
  Follows_in (P.takes_next l n i t body els) s = For_in R l n t body els (shape s)
  Follows_in (P.tries n hs v) s = Handlers_in R n hs n (shape s)
  Follows_in (P.unbinds x c) s = Unit {0}
  Follows_in (P.exits l n w c) s = (numbers R (exiting n w c ∷ s)).is K.Exit l n

  row_in : (c : Completion V) (f : Frame V) (s : Nest V) → Frame_in R (shape_of f) (shape s) → Nest_in R s → Follows_in (row c f) s
  row_in normal (F.rest n ss) s h hs = (h, hs)
  row_in (by a) (F.rest n ss) s h hs = tt
  row_in normal (F.looping l n c body els) s h hs = h
  row_in (by continue) (F.looping l n c body els) s h hs = h
  row_in (by break) (F.looping l n c body els) s h hs = tt
  row_in (by (raise v)) (F.looping l n c body els) s h hs = tt
  row_in (by (return v)) (F.looping l n c body els) s h hs = tt
  row_in normal (F.iterating l n i t body els) s h hs = h
  row_in (by continue) (F.iterating l n i t body els) s h hs = h
  row_in (by break) (F.iterating l n i t body els) s h hs = tt
  row_in (by (raise v)) (F.iterating l n i t body els) s h hs = tt
  row_in (by (return v)) (F.iterating l n i t body els) s h hs = tt
  row_in normal (F.guarded n hds els) s h hs = (h.1, hs)
  row_in (by (raise v)) (F.guarded n S.no_handlers els) s h hs = tt
  row_in (by (raise v)) (F.guarded n (S.handler l c x body r) els) s h hs = h.0
  row_in (by (return v)) (F.guarded n hds els) s h hs = tt
  row_in (by break) (F.guarded n hds els) s h hs = tt
  row_in (by continue) (F.guarded n hds els) s h hs = tt
  row_in c (F.testing n e) s h hs = tt
  row_in c (F.handling n e) s h hs = tt
  row_in c (F.naming x) s h hs = tt
  row_in c (F.ensuring t n none) s h hs = tt
  row_in c (F.ensuring t n (more st ss)) s h hs = (h, (tt, hs))
  row_in normal (F.ending t held) s h hs = tt
  row_in (by a) (F.ending t held) s h hs = tt
  row_in c (F.withing l n w) s h hs = h
  row_in c (F.exiting n w held) s h hs = tt

  pass_on_in : (c : Completion V) (s : Nest V) (k : Control V) → Nest_in R s → Control_in R k → Control_in R (pass_on c s k)
  pass_on_in normal s k hs hk = hk
  pass_on_in (by (raise v)) s k hs hk = (hs, hs)
  pass_on_in (by (return v)) s k hs hk = hk
  pass_on_in (by break) s k hs hk = hk
  pass_on_in (by continue) s k hs hk = hk

module _ (R : Shape → Numbering) {V : Type 0} (block : Around V) where
  follow_in : (w : Follows V) (s : Nest V) (k : Control V) → Follows_in R w s → Nest_in R s → Control_in R k → Control_in R (follow block w s k)
  follow_in (P.outwards c) s k h hs hk = hk
  follow_in (P.lets_go c) s k h hs hk = pass_on_in R c s k hs hk
  follow_in (P.begins n ss within c) s k (h, hw) hs hk = begin_all_in R block ss n (within ++ s) _ h hw (pass_on_in R c s k hs hk)
  follow_in (P.tests_again l n c body els) s k h hs hk = begin_test_in R block l n _ c body els s h hs
  follow_in (P.takes_next l n i t body els) s k h hs hk = begin_next_in R block l n _ i t body els s h hs
  follow_in (P.tries n hds v) s k h hs hk = begin_tests_in R block n hds n v s _ h hs (pass_on_in R (by (raise v)) s k hs hk)
  follow_in (P.unbinds x c) s k h hs hk = (hs, hs)
  follow_in (P.exits l n w c) s k h hs hk = ((h, no_test), hs, hs, (tt, hs))

  pub complete_in : (c : Completion V) (s : Nest V) → Nest_in R s → Control_in R (complete block c s)
  complete_in c [] h = tt
  complete_in c (f ∷ s) (h, hs) =
      follow_in (row c f) s (complete block (onward (row c f)) s) (row_in R c f s h hs) hs (complete_in (onward (row c f)) s hs)

  pub let_go_in : (c : Completion V) (s : Nest V) → Nest_in R s → Control_in R (let_go block c s)
  let_go_in c s h = pass_on_in R c s _ h (complete_in c s h)
