-- What lies on top of slots, by what lies on those below.
use Rattle.std.proofs.Common.{◌≡◌, ◌∙◌, ℕ, List, [], ◌∷◌, Option, Some, None, refl, sym, ap, subst}
use Rattle.std.specs.Prelude.{drop, slice_get, MatchOption}
use Rattle.std.proofs.lemmas.Option.{same_Some}
use Rattle.pt_heap.specs.declared.value.Value.{Value}
use Rattle.pt_frames.specs.declared.slot.Slot.{Slot}
use Rattle.pt_frames.specs.declared.slot.Slot.TheVariants as slot
use Rattle.pt_frames.specs.Slots.{active_in}
use Rattle.pt_moves.specs.Operands.{value_in, movable_in, one_movable, one_value, two_values, three_values}

pub two_off : (slots : List Slot) → drop 1 (drop 1 slots) ≡ drop 2 slots
two_off [] = refl
two_off (s ∷ []) = refl
two_off (s ∷ t ∷ slots) = refl

pub three_off : (slots : List Slot) → drop 1 (drop 2 slots) ≡ drop 3 slots
three_off [] = refl
three_off (s ∷ []) = refl
three_off (s ∷ t ∷ []) = refl
three_off (s ∷ t ∷ u ∷ slots) = refl

-- slots with a value on top are that and those below
pub one_on : (slots : List Slot) (v : Value) → one_value slots ≡ Some v → slots ≡ slot.Value v ∷ drop 1 slots
one_on [] v e = absurd (cc)
one_on (slot.Value w ∷ slots) v e = ap (λ o. slot.Value o ∷ slots) (let q : w ≡ v = cc in q)
one_on (slot.Cell n ∷ slots) v e = absurd (cc)
one_on (slot.Iter w ∷ slots) v e = absurd (cc)
one_on (slot.Exc w ∷ slots) v e = absurd (cc)
one_on (slot.Pending c ∷ slots) v e = absurd (cc)
one_on (slot.With w ∷ slots) v e = absurd (cc)

pub first_one : (slots : List Slot) → value_in (slice_get slots 0) ≡ one_value slots
first_one [] = refl
first_one (slot.Value v ∷ slots) = refl
first_one (slot.Cell n ∷ slots) = refl
first_one (slot.Iter v ∷ slots) = refl
first_one (slot.Exc v ∷ slots) = refl
first_one (slot.Pending c ∷ slots) = refl
first_one (slot.With v ∷ slots) = refl

-- what a pop leaves
pub popped : (top : Option Slot) (old new : List Slot) → MatchOption top ((old ≡ []) × (new ≡ [])) (λ s. old ≡ s ∷ new) → new ≡ drop 1 old
popped None old new e = e.1 ∙ sym (ap (λ ss. drop 1 ss) e.0)
popped (Some s) old new e = sym (ap (λ ss. drop 1 ss) e)

-- no exception is active by a value
pub quiet_one : (slots : List Slot) (v : Value) → one_value slots ≡ Some v → active_in (drop 1 slots) ≡ active_in slots
quiet_one slots v e = sym (ap active_in (one_on slots v e))

pub quiet_over : (slots : List Slot) (v : Value) → active_in (slot.Value v ∷ slots) ≡ active_in slots
quiet_over slots v = refl

pub quiet_over_cell : (slots : List Slot) (n : ℕ) → active_in (slot.Cell n ∷ slots) ≡ active_in slots
quiet_over_cell slots n = refl

-- the same of a value or an iterator

pub first_movable : (slots : List Slot) → movable_in (slice_get slots 0) ≡ one_movable slots
first_movable [] = refl
first_movable (slot.Value v ∷ slots) = refl
first_movable (slot.Cell n ∷ slots) = refl
first_movable (slot.Iter v ∷ slots) = refl
first_movable (slot.Exc v ∷ slots) = refl
first_movable (slot.Pending c ∷ slots) = refl
first_movable (slot.With v ∷ slots) = refl

pub quiet_one_movable : (slots : List Slot) (s : Slot) → one_movable slots ≡ Some s → active_in (drop 1 slots) ≡ active_in slots
quiet_one_movable [] s e = absurd (cc)
quiet_one_movable (slot.Value v ∷ slots) s e = refl
quiet_one_movable (slot.Cell n ∷ slots) s e = absurd (cc)
quiet_one_movable (slot.Iter v ∷ slots) s e = refl
quiet_one_movable (slot.Exc v ∷ slots) s e = absurd (cc)
quiet_one_movable (slot.Pending c ∷ slots) s e = absurd (cc)
quiet_one_movable (slot.With v ∷ slots) s e = absurd (cc)

pub quiet_movable : (slots over : List Slot) (s : Slot) → one_movable slots ≡ Some s → active_in (s ∷ over) ≡ active_in over
quiet_movable [] over s e = absurd (cc)
quiet_movable (slot.Value v ∷ slots) over s e = ap (λ x. active_in (x ∷ over)) (let q : s ≡ slot.Value v = cc in q)
quiet_movable (slot.Cell n ∷ slots) over s e = absurd (cc)
quiet_movable (slot.Iter v ∷ slots) over s e = ap (λ x. active_in (x ∷ over)) (let q : s ≡ slot.Iter v = cc in q)
quiet_movable (slot.Exc v ∷ slots) over s e = absurd (cc)
quiet_movable (slot.Pending c ∷ slots) over s e = absurd (cc)
quiet_movable (slot.With v ∷ slots) over s e = absurd (cc)

-- two values, by the upper one and then the lower one

two_below : (w v : Value) (below : List Slot) → one_value below ≡ Some v → two_values (slot.Value w ∷ below) ≡ Some (v, w)
two_below w v below e = subst (λ ss. two_values (slot.Value w ∷ ss) ≡ Some (v, w)) (sym (one_on below v e)) refl

two_not_below : (w : Value) (below : List Slot) → one_value below ≡ None → two_values (slot.Value w ∷ below) ≡ None
two_not_below w [] e = refl
two_not_below w (slot.Value v ∷ below) e = absurd (cc)
two_not_below w (slot.Cell n ∷ below) e = refl
two_not_below w (slot.Iter v ∷ below) e = refl
two_not_below w (slot.Exc v ∷ below) e = refl
two_not_below w (slot.Pending c ∷ below) e = refl
two_not_below w (slot.With v ∷ below) e = refl

module _ (slots : List Slot) where
  pub two_given : (w v : Value) → one_value slots ≡ Some w → one_value (drop 1 slots) ≡ Some v → two_values slots ≡ Some (v, w)
  two_given w v e f = subst (λ ss. two_values ss ≡ Some (v, w)) (sym (one_on slots w e)) (two_below w v (drop 1 slots) f)

  pub lower_missing : (w : Value) → one_value slots ≡ Some w → one_value (drop 1 slots) ≡ None → two_values slots ≡ None
  lower_missing w e f = subst (λ ss. two_values ss ≡ None) (sym (one_on slots w e)) (two_not_below w (drop 1 slots) f)

pub upper_missing : (slots : List Slot) → one_value slots ≡ None → two_values slots ≡ None
upper_missing [] e = refl
upper_missing (slot.Value v ∷ slots) e = absurd (cc)
upper_missing (slot.Cell n ∷ slots) e = refl
upper_missing (slot.Iter v ∷ slots) e = refl
upper_missing (slot.Exc v ∷ slots) e = refl
upper_missing (slot.Pending c ∷ slots) e = refl
upper_missing (slot.With v ∷ slots) e = refl

-- slots with two values on top are these and those below
pub two_on : (slots : List Slot) (v w : Value) → two_values slots ≡ Some (v, w) → slots ≡ slot.Value w ∷ (slot.Value v ∷ drop 2 slots)
two_on slots v w e = by_upper (one_value slots) refl
  where
    same : (p q : Value × Value) → Some p ≡ Some q → (p.0 ≡ q.0) × (p.1 ≡ q.1)
    same p q h = let k : p ≡ q = same_Some _ _ h in (ap (λ x. x.0) k, ap (λ x. x.1) k)

    by_lower : (y : Value) → one_value slots ≡ Some y → (o : Option Value) → one_value (drop 1 slots) ≡ o → slots ≡ slot.Value w ∷ (slot.Value v ∷ drop 2 slots)
    by_lower y f (Some x) g = let s = same (x, y) (v, w) (sym (two_given slots y x f g) ∙ e) in
        one_on slots y f ∙ (ap (λ ss. slot.Value y ∷ ss) (one_on (drop 1 slots) x g ∙ ap (λ ss. slot.Value x ∷ ss) (two_off slots))
        ∙ (ap (λ o. slot.Value o ∷ (slot.Value x ∷ drop 2 slots)) s.1 ∙ ap (λ o. slot.Value w ∷ (slot.Value o ∷ drop 2 slots)) s.0))
    by_lower y f None g = absurd (let h : two_values slots ≡ None = lower_missing slots y f g in cc)

    by_upper : (o : Option Value) → one_value slots ≡ o → slots ≡ slot.Value w ∷ (slot.Value v ∷ drop 2 slots)
    by_upper (Some y) f = by_lower y f (one_value (drop 1 slots)) refl
    by_upper None f = absurd (let h : two_values slots ≡ None = upper_missing slots f in cc)

-- three values, by the upper two and then the lowest one

three_below : (w v u : Value) (below : List Slot) → one_value below ≡ Some u → three_values (slot.Value w ∷ (slot.Value v ∷ below)) ≡ Some (u, (v, w))
three_below w v u below e = subst (λ ss. three_values (slot.Value w ∷ (slot.Value v ∷ ss)) ≡ Some (u, (v, w))) (sym (one_on below u e)) refl

three_not_below : (w v : Value) (below : List Slot) → one_value below ≡ None → three_values (slot.Value w ∷ (slot.Value v ∷ below)) ≡ None
three_not_below w v [] e = refl
three_not_below w v (slot.Value u ∷ below) e = absurd (cc)
three_not_below w v (slot.Cell n ∷ below) e = refl
three_not_below w v (slot.Iter u ∷ below) e = refl
three_not_below w v (slot.Exc u ∷ below) e = refl
three_not_below w v (slot.Pending c ∷ below) e = refl
three_not_below w v (slot.With u ∷ below) e = refl

module _ (slots : List Slot) where
  pub three_given : (p : Value × Value) (u : Value) → two_values slots ≡ Some p → one_value (drop 2 slots) ≡ Some u → three_values slots ≡ Some (u, p)
  three_given (v, w) u e f = subst (λ ss. three_values ss ≡ Some (u, (v, w))) (sym (two_on slots v w e)) (three_below w v u (drop 2 slots) f)

  pub lowest_missing : (p : Value × Value) → two_values slots ≡ Some p → one_value (drop 2 slots) ≡ None → three_values slots ≡ None
  lowest_missing (v, w) e f = subst (λ ss. three_values ss ≡ None) (sym (two_on slots v w e)) (three_not_below w v (drop 2 slots) f)

pub two_missing : (slots : List Slot) → two_values slots ≡ None → three_values slots ≡ None
two_missing [] e = refl
two_missing (slot.Cell n ∷ slots) e = refl
two_missing (slot.Iter v ∷ slots) e = refl
two_missing (slot.Exc v ∷ slots) e = refl
two_missing (slot.Pending c ∷ slots) e = refl
two_missing (slot.With v ∷ slots) e = refl
two_missing (slot.Value w ∷ []) e = refl
two_missing (slot.Value w ∷ slot.Value v ∷ slots) e = absurd (cc)
two_missing (slot.Value w ∷ slot.Cell n ∷ slots) e = refl
two_missing (slot.Value w ∷ slot.Iter v ∷ slots) e = refl
two_missing (slot.Value w ∷ slot.Exc v ∷ slots) e = refl
two_missing (slot.Value w ∷ slot.Pending c ∷ slots) e = refl
two_missing (slot.Value w ∷ slot.With v ∷ slots) e = refl

pub three_on : (slots : List Slot) (u v w : Value) → three_values slots ≡ Some (u, (v, w)) → slots ≡ slot.Value w ∷ (slot.Value v ∷ (slot.Value u ∷ drop 3 slots))
three_on slots u v w e = by_two (two_values slots) refl
  where
    same : (p q : Value × (Value × Value)) → Some p ≡ Some q → (p.0 ≡ q.0) × (p.1 ≡ q.1)
    same p q h = let k : p ≡ q = same_Some _ _ h in (ap (λ x. x.0) k, ap (λ x. x.1) k)

    by_lowest : (p : Value × Value) → two_values slots ≡ Some p → (o : Option Value) → one_value (drop 2 slots) ≡ o → slots ≡ slot.Value w ∷ (slot.Value v ∷ (slot.Value u ∷ drop 3 slots))
    by_lowest p f (Some x) g = let s = same (x, p) (u, (v, w)) (sym (three_given slots p x f g) ∙ e) in
        two_on slots v w (f ∙ ap (λ q. Some q) s.1) ∙ ap (λ ss. slot.Value w ∷ (slot.Value v ∷ ss))
        (one_on (drop 2 slots) x g ∙ (ap (λ ss. slot.Value x ∷ ss) (three_off slots) ∙ ap (λ o. slot.Value o ∷ drop 3 slots) s.0))
    by_lowest p f None g = absurd (let h : three_values slots ≡ None = lowest_missing slots p f g in cc)

    by_two : (o : Option (Value × Value)) → two_values slots ≡ o → slots ≡ slot.Value w ∷ (slot.Value v ∷ (slot.Value u ∷ drop 3 slots))
    by_two (Some p) f = by_lowest p f (one_value (drop 2 slots)) refl
    by_two None f = absurd (let h : three_values slots ≡ None = two_missing slots f in cc)
