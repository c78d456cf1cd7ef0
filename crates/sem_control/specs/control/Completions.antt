-- How a completion takes off frames, from the innermost outwards, by the rows of the table.
use Rattle.std.specs.Prelude.{[], ◌∷◌, ◌++◌, true, false, Option, Some, None}
use Rattle.sem_control.specs.control.Turn.{raised_again, End, gave, left_by, mark, Around, store, exit_of}
use Rattle.sem_control.specs.control.Frames as F
use Rattle.sem_control.specs.control.Frames.{Abrupt, raise, return, break, continue, Completion, normal, by, Nest, exiting, Control, for_truth, silent_deed, noting, closed}
use Rattle.sem_control.specs.control.Statements.{begin_all, begin_test, begin_next, begin_tests}
use Rattle.sem_control.specs.control.CompletionTable as T
use Rattle.sem_control.specs.control.CompletionTable.{Follows, row, onward}

-- the raise that a completion is
abbrev pub raise_of : {V : Type 0} → Completion V → Option V
raise_of (by (raise v)) = Some v
raise_of c = None

abbrev pub swallowed : {V : Type 0} → Completion V → Completion V
swallowed (by (raise v)) = normal
swallowed c = c

-- a completion that was held goes on: a raise with a note, any other as it is
abbrev pub pass_on : {V : Type 0} → Completion V → Nest V → (after : Control V) → Control V
pass_on (by (raise v)) s after = noting (raised_again v) (F.raises v s) s
pass_on c s after = after

module _ {V : Type 0} (block : Around V) where
  -- how a block ends that a completion leaves
  abbrev pub end_of : Completion V → End V
  end_of (by (raise v)) = left_by v
  end_of (by (return v)) = gave v
  end_of c = gave block.null

  -- what follows, in the nest around the frame; `after` is where the completion that goes on comes to
  abbrev pub follow : Follows V → Nest V → (after : Control V) → Control V
  follow (T.outwards c) s after = after
  follow (T.lets_go c) s after = pass_on c s after
  follow (T.begins n ss within c) s after = begin_all block ss n (within ++ s) (pass_on c s after)
  follow (T.tests_again l n c body els) s after = begin_test block l n true c body els s
  follow (T.takes_next l n i t body els) s after = begin_next block l n true i t body els s
  follow (T.tries n hs v) s after = begin_tests block n hs n v s (pass_on (by (raise v)) s after)
  follow (T.unbinds x c) s after = silent_deed (store (block.variable [] x) block.null) (F.unbinds x c s) s
  follow (T.exits l n w c) s after =
      for_truth (mark n l false) (exit_of w (raise_of c)) (F.lets_go (swallowed c) s) (F.lets_go c s) (exiting n w c ∷ s)

  abbrev pub complete : Completion V → Nest V → Control V
  complete c [] = closed (end_of c)
  complete c (f ∷ s) = follow (row c f) s (complete (onward (row c f)) s)

  abbrev pub let_go : Completion V → Nest V → Control V
  let_go c s = pass_on c s (complete c s)
