-- How a completion takes off a frame, as a table: for each completion and the innermost frame, what follows (Language Reference 7.6, 7.8 to
-- 7.10, 8.2 to 8.5).
use Rattle.std.specs.Prelude.{ℕ, ◌+◌, List, [], ◌∷◌}
use Rattle.pt_tree.specs.Syntax as S
use Rattle.pt_tree.specs.Syntax.{Name, Exp, Tgt, Stms, Handlers, none, more}
use Rattle.pt_tree.specs.Sizes.{handlers_size}
use Rattle.sem_control.specs.control.Frames.{raise, return, break, continue, Completion, normal, by, Frame, rest, looping, iterating, guarded, testing, handling, naming, ensuring, ending, withing, exiting}

-- what follows where the frame is taken off
pub data Follows (V : Type 0) : Type 0 where
  -- the completion goes on outwards as it is
  outwards : Completion V → Follows V
  -- a completion that was held goes on, a raise with a note before it
  lets_go : Completion V → Follows V
  -- statements begin, within a frame or none; where they have no act, a completion goes on as one that was held
  begins : (n : ℕ) (ss : Stms) (within : List (Frame V)) → Completion V → Follows V
  -- a loop tests again, or takes its next item
  tests_again : (l n : ℕ) (test : Exp) (body els : Stms) → Follows V
  takes_next : (l n : ℕ) (iterator : V) (t : Tgt) (body els : Stms) → Follows V
  -- the handlers are tried in order, and behind them the raise goes on
  tries : (n : ℕ) (hs : Handlers) (exception : V) → Follows V
  -- the name that a handler bound is unbound
  unbinds : (x : Name) (held : Completion V) → Follows V
  -- the exit of a `with` is due
  exits : (l n : ℕ) (exit : V) (held : Completion V) → Follows V

module _ {V : Type 0} where
  abbrev pub row : Completion V → Frame V → Follows V
  row normal (rest n ss) = begins n ss [] normal
  row (by a) (rest n ss) = outwards (by a)
  row normal (looping l n c body els) = tests_again l n c body els
  row (by continue) (looping l n c body els) = tests_again l n c body els
  row (by break) (looping l n c body els) = outwards normal
  row (by (raise v)) (looping l n c body els) = outwards (by (raise v))
  row (by (return v)) (looping l n c body els) = outwards (by (return v))
  row normal (iterating l n i t body els) = takes_next l n i t body els
  row (by continue) (iterating l n i t body els) = takes_next l n i t body els
  row (by break) (iterating l n i t body els) = outwards normal
  row (by (raise v)) (iterating l n i t body els) = outwards (by (raise v))
  row (by (return v)) (iterating l n i t body els) = outwards (by (return v))
  -- the `else` part of a `try` begins behind its handlers
  row normal (guarded n hs els) = begins (n + handlers_size hs) els [] normal
  row (by (raise v)) (guarded n S.no_handlers els) = outwards (by (raise v))
  row (by (raise v)) (guarded n (S.handler l c x body r) els) = tries n (S.handler l c x body r) v
  row (by (return v)) (guarded n hs els) = outwards (by (return v))
  row (by break) (guarded n hs els) = outwards (by break)
  row (by continue) (guarded n hs els) = outwards (by continue)
  row c (testing n e) = outwards c
  row c (handling n e) = outwards c
  row c (naming x) = unbinds x c
  -- a `finally` part holds what led to it; what leaves it replaces that. One that isn't written holds nothing
  row c (ensuring t n none) = outwards c
  row c (ensuring t n (more st ss)) = begins n (more st ss) (ending t c ∷ []) c
  row normal (ending t held) = lets_go held
  row (by a) (ending t held) = outwards (by a)
  row c (withing l n w) = exits l n w c
  -- a raise of the exit replaces what it held; its answers leave the frame by themselves
  row c (exiting n w held) = outwards c

  -- the completion that goes on where nothing else follows
  abbrev pub onward : Follows V → Completion V
  onward (outwards c) = c
  onward (lets_go c) = c
  onward (begins n ss within c) = c
  onward (tests_again l n c body els) = normal
  onward (takes_next l n i t body els) = normal
  onward (tries n hs v) = by (raise v)
  onward (unbinds x c) = c
  onward (exits l n w c) = c
