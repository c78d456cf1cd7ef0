-- Rows of what raises, and of the tests of handlers.
use Rattle.std.proofs.Common.{◌≡◌, ◌∙◌, Bool, true, false, List, [], ◌∷◌, Option, Some, None, if◌then◌else◌, refl, sym, ap, subst}
use Rattle.std.specs.Prelude.{codes, drop, slice_get}
use Rattle.std.specs.List.{list_all, list_any}
use Rattle.pt_base.specs.declared.numbers.ObjId.{ObjId}
use Rattle.pt_instr.specs.declared.Instr.TheVariants as instr
use Rattle.pt_heap.specs.declared.value.Value.{Value}
use Rattle.pt_heap.specs.declared.value.Value.TheVariants as value
use Rattle.pt_heap.specs.declared.object.Object.{Object}
use Rattle.pt_content.specs.pt_attrs.Look.{object_of}
use Rattle.pt_frames.specs.declared.slot.Slot.{Slot}
use Rattle.pt_frames.specs.declared.slot.Slot.TheVariants as slot
use Rattle.pt_code.specs.View.{Ins}
use Rattle.sem_control.specs.control.Turn as T
use Rattle.sem_control.specs.control.Turn.{Throw, stuck}
use Rattle.sem_code.specs.slots.CodeObject.{CodeObject}
use Rattle.sem_code.specs.slots.Pops.{Next, one, two, an_exception}
use Rattle.sem_code.specs.slots.Slots as S
use Rattle.sem_code.specs.slots.Slots.{Slots, State}
use Rattle.sem_run.specs.run.Host.{Here, made, beyond, answer}
use Rattle.pt_moves.specs.sem_rows.pt_host.World.{Program, Stores, allot, with_objects}
use Rattle.pt_moves.specs.sem_rows.pt_host.Trees.{Tree}
use Rattle.pt_moves.specs.sem_rows.pt_host.Primitives.{arguments_of}
use Rattle.pt_moves.specs.sem_rows.pt_host.Errors.{error, error_saying, raise_saying}
use Rattle.pt_moves.specs.sem_rows.pt_host.Leaving.{error_at}
use Rattle.pt_moves.specs.sem_rows.pt_host.Raising.{Standing as HostStanding, raisable, standing, raise_neither, raise_from, raise_with_cause, raise_standing, raise_active, throws, handler_classes, is_exception_class, is_of_class, is_taken, matches as host_matches}
use Rattle.pt_moves.specs.sem_rows.pt_host.declared.places.TheConstants.{ASSERTION_ERROR, RUNTIME_ERROR, TYPE_ERROR}
use Rattle.pt_moves.specs.sem_rows.declared.heap_rows.progress.Progress.{Progress}
use Rattle.pt_moves.specs.sem_rows.declared.heap_rows.progress.Progress.TheVariants as progress
use Rattle.pt_moves.specs.sem_rows.heap_rows.Leads.{by_tree, giving}
use Rattle.pt_moves.specs.sem_rows.heap_rows.Views.{slots_view}
use Rattle.pt_moves.proofs.sem_rows.heap_rows.RowLemmas.{asks_lead, raises_alike}
use Rattle.pt_moves.specs.Operands.{one_value as value_on_top, two_values, RowsHeap, RowsSlots}
use Rattle.pt_moves.proofs.TakeLemmas.{one_on, two_on}
use Rattle.pt_moves.proofs.MoveLemmas.{lacks_one, lacks_two, stuck_row}
use Rattle.pt_raise_rows.specs.Matched.{exception_in, found_by, no_class, takes}
use Rattle.pt_raise_rows.specs.Raised.{RaisedBy, Throws}

-- what only raises leads alike, whatever would have been given
module _ {A : Type 0} (code : CodeObject Value) (i : Ins) (next : A → State Value) (ss : Slots Value) (h : Here Value) (st : Stores) where
  abbrev Alike : Tree Value → Tree A → Type 0
  Alike x y = by_tree code i (giving code i ss) ss x ≡ by_tree code i next ss y

  neither_alike : (k : List Object) → Alike (raise_neither k h st) (raise_neither k h st)
  neither_alike k = raises_alike code i next ss (error_saying TYPE_ERROR (codes "exceptions must derive from BaseException") None h.active k) (with_objects k st)

  from_alike : (id : ObjId) (t : HostStanding) → Alike (raise_from id t h st) (raise_from id t h st)
  from_alike id (made (Some c) k) = refl
  from_alike id (made None k) = neither_alike k
  from_alike id (beyond what) = refl

  with_cause_alike : (id : ObjId) (c : Option Value) (k : List Object) → Alike (raise_with_cause id c k h st) (raise_with_cause id c k h st)
  with_cause_alike id None k = refl
  with_cause_alike id (Some value.None) k = refl
  with_cause_alike id (Some (value.Obj c)) k = from_alike id (standing (raisable k (value.Obj c)) k)
  with_cause_alike id (Some (value.Bool b)) k = from_alike id (standing (raisable k (value.Bool b)) k)
  with_cause_alike id (Some (value.Int z)) k = from_alike id (standing (raisable k (value.Int z)) k)
  with_cause_alike id (Some value.Ellipsis) k = from_alike id (standing (raisable k value.Ellipsis) k)
  with_cause_alike id (Some value.NotImplemented) k = from_alike id (standing (raisable k value.NotImplemented) k)

  standing_alike : (t : HostStanding) (c : Option Value) → Alike (raise_standing t c h st) (raise_standing t c h st)
  standing_alike (made (Some id) k) c = with_cause_alike id c k
  standing_alike (made None k) c = neither_alike k
  standing_alike (beyond what) c = refl

  again_alike : (a : Option Value) → Alike (raise_active a h st) (raise_active a h st)
  again_alike (Some v) = refl
  again_alike None = raises_alike code i next ss (error_saying RUNTIME_ERROR (codes "no active exception") None h.active st.world.heap) st

  raising_alike : (v : Value) (c : Option Value) → Alike (throws (T.raising v c) h st) (throws (T.raising v c) h st)
  raising_alike v c = standing_alike (standing (raisable st.world.heap v) st.world.heap) c

-- `raise`
module _ (below : List Slot) (heap : List Object) (p : Progress) (grown : List Object) where
  raise_of : (v : Value) → RaisedBy v None heap p grown → RowsHeap instr.Raise (slot.Value v ∷ below) heap p below grown
  unfolding RaisedBy Throws RowsHeap
  raise_of v done program code pc i h st known =
      done program code i (slots_view below) h st ∙ raising_alike code i (λ x. elim x [ ]) (slots_view below) h (with_objects heap st) v None
      ∙ sym (asks_lead program code i h (with_objects heap st) (T.throw (T.raising v None)) (λ x. elim x [ ]) (slots_view below) tt)

  raise_from_of : (v c : Value) → RaisedBy v (Some c) heap p grown → RowsHeap instr.RaiseFrom (slot.Value c ∷ (slot.Value v ∷ below)) heap p below grown
  unfolding RaisedBy Throws RowsHeap
  raise_from_of v c done program code pc i h st known =
      done program code i (slots_view below) h st ∙ raising_alike code i (λ x. elim x [ ]) (slots_view below) h (with_objects heap st) v (Some c)
      ∙ sym (asks_lead program code i h (with_objects heap st) (T.throw (T.raising v (Some c))) (λ x. elim x [ ]) (slots_view below) tt)

-- `raise` alone
pub again_row : (slots : List Slot) → RowsSlots instr.RaiseAgain slots progress.RaisesAgain slots
unfolding RowsSlots
again_row slots program code pc i h st known =
    again_alike code i (λ (x : ⊥). elim x [ ]) (slots_view slots) h st h.active
    ∙ sym (asks_lead program code i h st (T.throw T.raising_again) (λ x. elim x [ ]) (slots_view slots) tt)

-- `assert`
failed_of : (slots : List Slot) → RowsSlots (instr.AssertFail false) slots (progress.Fails ASSERTION_ERROR None) slots
unfolding RowsSlots
failed_of slots program code pc i h st known =
    raises_alike code i (λ (x : ⊥). elim x [ ]) (slots_view slots) (allot (error ASSERTION_ERROR [] None h.active) st.world.heap) st
    ∙ sym (asks_lead program code i h st (T.throw (T.failing None)) (λ x. elim x [ ]) (slots_view slots) tt)

failed_saying_of : (m : Value) (below : List Slot) → RowsSlots (instr.AssertFail true) (slot.Value m ∷ below) (progress.Fails ASSERTION_ERROR (Some m)) below
unfolding RowsSlots
failed_saying_of m below program code pc i h st known =
    raises_alike code i (λ (x : ⊥). elim x [ ]) (slots_view below) (allot (error ASSERTION_ERROR (m ∷ []) None h.active) st.world.heap) st
    ∙ sym (asks_lead program code i h st (T.throw (T.failing (Some m))) (λ x. elim x [ ]) (slots_view below) tt)

-- handlers
taken_of : (r : Tree Bool) (st : Stores) (x y b : Bool) → ◌≡◌ {A = Option Bool} (if x then Some y else None) (Some b) → ◌≡◌ {A = Tree Bool} (if x then answer y st else r) (answer b st)
taken_of r st true y b e = let same : y ≡ b = cc in ap (λ z. answer z st) same
taken_of r st false y b e = absurd (cc)

refused_of : (r : Tree Bool) (st : Stores) (x y : Bool) → ◌≡◌ {A = Option Bool} (if x then Some y else None) None → ◌≡◌ {A = Tree Bool} (if x then answer y st else r) r
refused_of r st true y e = absurd (cc)
refused_of r st false y e = refl

module _ (e : Value) (h : Here Value) (st : Stores) where
  abbrev fails : Tree Bool
  fails = raise_saying TYPE_ERROR (codes "bad argument") h st

  found_taken : (cs : List Value) (b : Bool) → found_by st.world.heap e cs ≡ Some b → is_taken e cs h st ≡ answer b st
  found_taken cs b is = taken_of fails st (list_all (is_exception_class st.world.heap) cs) (list_any (is_of_class st.world.heap (error_at st.world.heap e)) cs) b is

  found_refused : (cs : List Value) → found_by st.world.heap e cs ≡ None → is_taken e cs h st ≡ fails
  found_refused cs is = refused_of fails st (list_all (is_exception_class st.world.heap) cs) (list_any (is_of_class st.world.heap (error_at st.world.heap e)) cs) is

  matches_so : (c : Value) (b : Bool) → takes st.world.heap e c ≡ Some b → host_matches e c h st ≡ answer b st
  matches_so value.None b is = let same : true ≡ b = cc in ap (λ z. answer z st) same
  matches_so (value.Obj c) b is = found_taken (handler_classes (value.Obj c) (object_of st.world.heap (value.Obj c))) b is
  matches_so (value.Bool x) b is = found_taken (handler_classes (value.Bool x) None) b is
  matches_so (value.Int z) b is = found_taken (handler_classes (value.Int z) None) b is
  matches_so value.Ellipsis b is = found_taken (handler_classes value.Ellipsis None) b is
  matches_so value.NotImplemented b is = found_taken (handler_classes value.NotImplemented None) b is

  matches_none : (c : Value) → takes st.world.heap e c ≡ None → host_matches e c h st ≡ fails
  matches_none value.None is = absurd (cc)
  matches_none (value.Obj c) is = found_refused (handler_classes (value.Obj c) (object_of st.world.heap (value.Obj c))) is
  matches_none (value.Bool x) is = found_refused (handler_classes (value.Bool x) None) is
  matches_none (value.Int z) is = found_refused (handler_classes (value.Int z) None) is
  matches_none value.Ellipsis is = found_refused (handler_classes value.Ellipsis None) is
  matches_none value.NotImplemented is = found_refused (handler_classes value.NotImplemented None) is

module _ (e c : Value) (under : List Slot) (heap : List Object) where
  abbrev below : List Slot
  below = slot.Exc e ∷ under

  matched_of : (b : Bool) → takes heap e c ≡ Some b → RowsHeap instr.Match (slot.Value c ∷ below) heap progress.Next (slot.Value (value.Bool b) ∷ below) heap
  unfolding RowsHeap
  matched_of b is program code pc i h st known =
      ap (λ v. Rattle.sem_run.specs.transitions.Successors.to (S.on i.next (S.value v ∷ slots_view below)) (with_objects heap st)) (sym (known.truth b))
      ∙ ap (λ t. by_tree code i (λ x. S.on i.next (S.value (code.truth x) ∷ slots_view below)) (slots_view below) t) (sym (matches_so e h (with_objects heap st) c b is))
      ∙ sym (asks_lead program code i h (with_objects heap st) (T.test (T.matches e c)) (λ x. S.on i.next (S.value (code.truth x) ∷ slots_view below)) (slots_view below) tt)

  mismatched_of : takes heap e c ≡ None → RowsHeap instr.Match (slot.Value c ∷ below) heap no_class below heap
  unfolding RowsHeap
  mismatched_of is program code pc i h st known =
      raises_alike code i (λ x. S.on i.next (S.value (code.truth x) ∷ slots_view below)) (slots_view below)
      (error_saying TYPE_ERROR (codes "bad argument") None h.active heap) (with_objects heap st)
      ∙ ap (λ t. by_tree code i (λ x. S.on i.next (S.value (code.truth x) ∷ slots_view below)) (slots_view below) t) (sym (matches_none e h (with_objects heap st) c is))
      ∙ sym (asks_lead program code i h (with_objects heap st) (T.test (T.matches e c)) (λ x. S.on i.next (S.value (code.truth x) ∷ slots_view below)) (slots_view below) tt)

-- the same by what was taken, for code
module _ (old below : List Slot) (heap : List Object) (p : Progress) (grown : List Object) where
  pub raise_row : (v : Value) → value_on_top old ≡ Some v → below ≡ drop 1 old → RaisedBy v None heap p grown → RowsHeap instr.Raise old heap p below grown
  raise_row v e f done = subst (λ x. RowsHeap instr.Raise x heap p below grown) (sym (one_on old v e ∙ ap (λ ss. slot.Value v ∷ ss) (sym f))) (raise_of below heap p grown v done)

  pub raise_from_row : (v c : Value) → two_values old ≡ Some (v, c) → below ≡ drop 2 old → RaisedBy v (Some c) heap p grown → RowsHeap instr.RaiseFrom old heap p below grown
  raise_from_row v c e f done =
      subst (λ x. RowsHeap instr.RaiseFrom x heap p below grown) (sym (two_on old v c e ∙ ap (λ ss. slot.Value c ∷ (slot.Value v ∷ ss)) (sym f)))
      (raise_from_of below heap p grown v c done)

pub failed_row : (b : Bool) (slots : List Slot) → b ≡ false → RowsSlots (instr.AssertFail b) slots (progress.Fails ASSERTION_ERROR None) slots
failed_row b slots is = subst (λ x. RowsSlots (instr.AssertFail x) slots (progress.Fails ASSERTION_ERROR None) slots) (sym is) (failed_of slots)

pub failed_saying_row : (b : Bool) (old below : List Slot) (m : Value) → b ≡ true → value_on_top old ≡ Some m → below ≡ drop 1 old
    → RowsSlots (instr.AssertFail b) old (progress.Fails ASSERTION_ERROR (Some m)) below
failed_saying_row b old below m is e f =
    subst (λ x. RowsSlots (instr.AssertFail x) old (progress.Fails ASSERTION_ERROR (Some m)) below) (sym is)
    (subst (λ x. RowsSlots (instr.AssertFail true) x (progress.Fails ASSERTION_ERROR (Some m)) below) (sym (one_on old m e ∙ ap (λ ss. slot.Value m ∷ ss) (sym f))) (failed_saying_of m below))

exception_on : (slots : List Slot) (e : Value) → exception_in (slice_get slots 0) ≡ Some e → slots ≡ slot.Exc e ∷ drop 1 slots
exception_on [] e is = absurd (cc)
exception_on (slot.Value v ∷ slots) e is = absurd (cc)
exception_on (slot.Cell n ∷ slots) e is = absurd (cc)
exception_on (slot.Iter v ∷ slots) e is = absurd (cc)
exception_on (slot.Exc v ∷ slots) e is = ap (λ o. slot.Exc o ∷ slots) (let q : v ≡ e = cc in q)
exception_on (slot.Pending c ∷ slots) e is = absurd (cc)
exception_on (slot.With v ∷ slots) e is = absurd (cc)

module _ (old below : List Slot) (heap : List Object) (c e : Value) (class : value_on_top old ≡ Some c) (under : below ≡ drop 1 old) (is : exception_in (slice_get below 0) ≡ Some e) where
  stand : old ≡ slot.Value c ∷ (slot.Exc e ∷ drop 1 below)
  stand = one_on old c class ∙ ap (λ ss. slot.Value c ∷ ss) (sym under ∙ exception_on below e is)

  pub matched_row : (b : Bool) (new : List Slot) → takes heap e c ≡ Some b → new ≡ slot.Value (value.Bool b) ∷ below → RowsHeap instr.Match old heap progress.Next new heap
  matched_row b new found stands =
      subst (λ x. RowsHeap instr.Match old heap progress.Next x heap) (sym (stands ∙ ap (λ ss. slot.Value (value.Bool b) ∷ ss) (exception_on below e is)))
      (subst (λ x. RowsHeap instr.Match x heap progress.Next (slot.Value (value.Bool b) ∷ (slot.Exc e ∷ drop 1 below)) heap) (sym stand) (matched_of e c (drop 1 below) heap b found))

  pub mismatched_row : takes heap e c ≡ None → RowsHeap instr.Match old heap no_class below heap
  mismatched_row found =
      subst (λ x. RowsHeap instr.Match old heap no_class x heap) (sym (exception_on below e is))
      (subst (λ x. RowsHeap instr.Match x heap no_class (slot.Exc e ∷ drop 1 below) heap) (sym stand)
      (mismatched_of e c (drop 1 below) heap found))

-- where slots lack what is taken
pub raise_lacks : (old new : List Slot) (heap grown : List Object) → value_on_top old ≡ None → RowsHeap instr.Raise old heap progress.Lacks new grown
unfolding RowsHeap
raise_lacks old new heap grown e program code pc i h st known = stuck_row program h (with_objects heap st) _ (lacks_one old e _)

failed_saying_lacks : (old new : List Slot) → value_on_top old ≡ None → RowsSlots (instr.AssertFail true) old progress.Lacks new
unfolding RowsSlots
failed_saying_lacks old new e program code pc i h st known = stuck_row program h st _ (lacks_one old e _)

pub failed_lacks : (b : Bool) (old new : List Slot) → b ≡ true → value_on_top old ≡ None → RowsSlots (instr.AssertFail b) old progress.Lacks new
failed_lacks b old new is e = subst (λ x. RowsSlots (instr.AssertFail x) old progress.Lacks new) (sym is) (failed_saying_lacks old new e)

pub raise_from_lacks : (old new : List Slot) (heap grown : List Object) → two_values old ≡ None → RowsHeap instr.RaiseFrom old heap progress.Lacks new grown
unfolding RowsHeap
raise_from_lacks old new heap grown e program code pc i h st known = stuck_row program h (with_objects heap st) _ (lacks_two old e _)

lacks_exception : (slots : List Slot) → exception_in (slice_get slots 0) ≡ None → (next : Next Value Value) → an_exception (slots_view slots) next ≡ stuck
lacks_exception [] e next = refl
lacks_exception (slot.Value v ∷ slots) e next = refl
lacks_exception (slot.Cell n ∷ slots) e next = refl
lacks_exception (slot.Iter v ∷ slots) e next = refl
lacks_exception (slot.Exc v ∷ slots) e next = absurd (cc)
lacks_exception (slot.Pending c ∷ slots) e next = refl
lacks_exception (slot.With v ∷ slots) e next = refl

pub match_lacks_class : (old new : List Slot) (heap grown : List Object) → value_on_top old ≡ None → RowsHeap instr.Match old heap progress.Lacks new grown
unfolding RowsHeap
match_lacks_class old new heap grown e program code pc i h st known = stuck_row program h (with_objects heap st) _ (lacks_one old e _)

match_lacks_below : (c : Value) (below new : List Slot) (heap grown : List Object) → exception_in (slice_get below 0) ≡ None
    → RowsHeap instr.Match (slot.Value c ∷ below) heap progress.Lacks new grown
unfolding RowsHeap
match_lacks_below c below new heap grown e program code pc i h st known = stuck_row program h (with_objects heap st) _ (lacks_exception below e _)

pub match_lacks : (old below new : List Slot) (heap grown : List Object) (c : Value) → value_on_top old ≡ Some c → below ≡ drop 1 old → exception_in (slice_get below 0) ≡ None
    → RowsHeap instr.Match old heap progress.Lacks new grown
match_lacks old below new heap grown c class f e =
    subst (λ x. RowsHeap instr.Match x heap progress.Lacks new grown) (sym (one_on old c class ∙ ap (λ ss. slot.Value c ∷ ss) (sym f)))
    (match_lacks_below c below new heap grown e)
