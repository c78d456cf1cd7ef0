-- Code that stands for control goes on standing for it where it passes what is no act; so where nothing is left to be passed, an act or the end is next.
use Rattle.std.proofs.Common.{ℕ, zero, suc, Option, Some, None, sym, subst}
use Rattle.sem_control.specs.control.Turn as T
use Rattle.sem_control.specs.control.Turn.{Mark, Around, Seek, Deed, Ask, Answer, Reply, got, Turn}
use Rattle.sem_control.specs.control.Frames as F
use Rattle.sem_control.specs.control.Frames.{Control}
use Rattle.sem_control.specs.control.Control as control
use Rattle.sem_control.specs.control.Laws.{IsActOrEnd}
use Rattle.sem_code.specs.slots.Slots.{State}
use Rattle.sem_code.specs.slots.CodeObject.{CodeObject}
use Rattle.sem_code.specs.slots.Machine as slots
use Rattle.sem_code.specs.slots.Destinations.{passes, unhindered}
use Rattle.sem_code.specs.comp.Law as comp
use Rattle.sem_code.specs.comp.Law.{Comes, Same, same_act, same_note, same_over}
use Rattle.sem_code.proofs.comp.Steps as steps
use Rattle.sem_code.specs.silent_turns.Laws.{IsAtRest}

module _ {V : Type 0} (block : Around V) (code : CodeObject V) where
  -- a state that some control stands for
  pub record Stands (t : State V) : Type 0 where
    pub control : Control V
    pub comes : Comes block code control t

  abbrev then : State V → Option (State V) → State V
  then t None = t
  then t (Some u) = u

  seek_passed : (t : State V) → Stands t → (a : Seek V) (k : Reply V V → Control V) (l : Reply V V → State V) → ((r : Reply V V) → Comes block code (k r) (l r))
      → Stands (then t (passes code (T.act None (T.seek a) l)))
  seek_passed t s (T.const c) k l h = record { control = k (got code.null); comes = h (got code.null) }
  seek_passed t s (T.cell_of x) k l h = record { control = k (got code.null); comes = h (got code.null) }
  seek_passed t s a k l h = s

  deed_passed : (t : State V) → Stands t → (a : Deed V) (k : Reply V (Unit {0}) → Control V) (l : Reply V (Unit {0}) → State V)
      → ((r : Reply V (Unit {0})) → Comes block code (k r) (l r)) → Stands (then t (passes code (T.act None (T.deed a) l)))
  deed_passed t s (T.store x v) k l h = record { control = k (got tt); comes = h (got tt) }
  deed_passed t s (T.delete x) k l h = record { control = k (got tt); comes = h (got tt) }
  deed_passed t s (T.fresh x) k l h = record { control = k (got tt); comes = h (got tt) }
  deed_passed t s a k l h = s

  ask_passed : (t : State V) → Stands t → (m : Option Mark) (a : Ask V) (k : Reply V (Answer V a) → Control V) (l : Reply V (Answer V a) → State V)
      → ((r : Reply V (Answer V a)) → Comes block code (k r) (l r)) → Stands (then t (passes code (T.act m a l)))
  ask_passed t s (Some m) a k l h = s
  ask_passed t s None (T.seek a) k l h = seek_passed t s a k l h
  ask_passed t s None (T.deed a) k l h = deed_passed t s a k l h
  ask_passed t s None a k l h = s

  turn_passed : (t : State V) → Stands t → (x : Turn (Control V) V) (y : Turn (State V) V) → Same block code x y → Stands (then t (passes code y))
  turn_passed t s _ _ (same_act m a k l h) = ask_passed t s m a k l h
  turn_passed t s _ _ (same_note a k l h) = record { control = k (got tt); comes = h (got tt) }
  turn_passed t s _ _ (same_over e) = s

  one_passed : (c : Control V) (t : State V) → Comes block code c t → Stands (then t (passes code (slots.turn code t)))
  one_passed _ _ (comp.there c t m) = turn_passed t (record { control = c; comes = comp.there c t m }) _ _ (steps.follows block code c t m)
  one_passed _ _ (comp.moves c t u e h) = subst (λ y. Stands (then t (passes code y))) (sym e) (record { control = c; comes = h })

  all_passed : (n : ℕ) (t : State V) → Stands t → Stands (unhindered code n t)
  all_passed zero t s = s
  all_passed (suc n) t s = all_passed n _ (one_passed s.control t s.comes)

  -- control asks without a mark for values and deeds alone
  is_next : (c : Control V) (y : Turn (State V) V) → Same block code (control.turn block c) y → IsAtRest y → IsActOrEnd y
  is_next (F.for_value k a w) _ (same_act _ _ _ l h) r = tt
  is_next (F.for_deed k a w s) _ (same_act _ _ _ l h) r = tt
  is_next (F.for_leave k a s) _ (same_act _ _ _ l h) r = tt
  is_next (F.for_throw k a s) _ (same_act _ _ _ l h) r = tt
  is_next (F.for_truth k a w f s) _ (same_act _ _ _ l h) r = tt
  is_next (F.for_iter k v o) _ (same_act _ _ _ l h) r = tt
  is_next (F.for_item k it q g w f) _ (same_act _ _ _ l h) r = tt
  is_next (F.for_entry k v p q g is body s) _ (same_act _ _ _ l h) r = tt
  is_next (F.for_unpack k v q ts w s) _ (same_act _ _ _ l h) r = tt
  is_next (F.for_delegate k it q w) _ (same_act _ _ _ l h) r = tt
  is_next (F.silent_value a w) _ (same_act _ _ _ l h) r = absurd r
  is_next (F.silent_deed a k s) _ (same_act _ _ _ l h) r = absurd r
  is_next (F.noting a k s) _ (same_note _ _ l h) r = absurd r
  is_next (F.closed v) _ (same_over _) r = tt

  next_there : (c : Control V) (t : State V) → Comes block code c t → IsAtRest (slots.turn code t) → IsActOrEnd (slots.turn code t)
  next_there _ _ (comp.there c t m) r = is_next c _ (steps.follows block code c t m) r
  next_there _ _ (comp.moves c t u e h) r = absurd (subst (λ y. IsAtRest y) e r)

  pub comes_to_act : (n : ℕ) (c : Control V) (t : State V) → Comes block code c t → IsAtRest (slots.turn code (unhindered code n t))
      → IsActOrEnd (slots.turn code (unhindered code n t))
  comes_to_act n c t h r =
      let s = all_passed n t (record { control = c; comes = h }) in next_there s.control (unhindered code n t) s.comes r
