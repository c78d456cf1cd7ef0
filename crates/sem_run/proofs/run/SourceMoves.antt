-- Control of a tree as a machine: each turn is an ask, a note or an end.
use Rattle.std.proofs.Common.{◌≡◌, subst}
use Rattle.sem_control.specs.control.Turn as T
use Rattle.sem_control.specs.control.Turn.{Around, Turn}
use Rattle.sem_control.specs.control.Frames as F
use Rattle.sem_control.specs.control.Frames.{Control}
use Rattle.sem_control.specs.control.Control as C
use Rattle.sem_run.specs.run.Machine.{turn_in}
use Rattle.sem_run.specs.run.Follows.{NeverMoves}
use Rattle.sem_run.specs.run.Source.{Source, Position, at, control_of, machine}

-- neither a silent move nor stuck
abbrev IsTold : {S V : Type 0} → Turn S V → Type 0
IsTold (T.act m a k) = Unit {0}
IsTold (T.note a k) = Unit {0}
IsTold (T.over e) = Unit {0}
IsTold (T.move c) = ⊥
IsTold T.stuck = ⊥

module _ {V : Type 0} where
  control_tells : (block : Around V) (c : Control V) → IsTold (turn_in at (C.turn block c))
  control_tells block (F.for_value m a w) = tt
  control_tells block (F.for_deed m a k s) = tt
  control_tells block (F.for_leave m a s) = tt
  control_tells block (F.for_throw m a s) = tt
  control_tells block (F.for_truth m a t f s) = tt
  control_tells block (F.for_iter m v o) = tt
  control_tells block (F.for_item m i n t k f) = tt
  control_tells block (F.for_entry m v l n t is body s) = tt
  control_tells block (F.for_unpack m v n ts k s) = tt
  control_tells block (F.for_delegate m i r w) = tt
  control_tells block (F.silent_value a w) = tt
  control_tells block (F.silent_deed a k s) = tt
  control_tells block (F.noting a k s) = tt
  control_tells block (F.closed e) = tt

  apart : (t u : Turn (Position V) V) → IsTold t → (IsTold u → ⊥) → t ≡ u → ⊥
  apart t u h f e = f (subst IsTold e h)

  pub control_never_moves : (source : Source V) → NeverMoves (machine source)
  control_never_moves source = record {
    moves = λ b c d e. apart _ _ (control_tells (source.around b) (control_of source b c)) (λ x. x) e;
    stuck = λ b c e. apart _ _ (control_tells (source.around b) (control_of source b c)) (λ x. x) e;
  }
