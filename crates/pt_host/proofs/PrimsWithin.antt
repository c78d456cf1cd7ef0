-- What operations answer keeps a store sound, whatever an ask makes of it; and what an operation's answer in the making ends with.
use Rattle.std.proofs.Common.{◌≡◌, ◌≤◌, ℕ, zero, suc, Bool, List, [], ◌∷◌, length, Option, None, Some, slice_get, refl, arith}
use Rattle.std.specs.Prelude.{option_map}
use Rattle.sem_control.specs.control.Turn.{Row}
use Rattle.pt_heap.specs.declared.value.Value.{Value}
use Rattle.pt_heap.specs.declared.value.Value.TheVariants as value
use Rattle.pt_heap.specs.declared.object.Object.{Object}
use Rattle.pt_heap.specs.Sound.{IsSound, IsWithin}
use Rattle.pt_builtin_objects.specs.Start.{start_objects}
use Rattle.pt_content.specs.declared.op.Op.{Op}
use Rattle.pt_content.specs.declared.answer.PrimAns.{PrimAns}
use Rattle.pt_content.specs.declared.answer.PrimAns.TheVariants as prim
use Rattle.pt_prims.specs.Laws.{AnswerIsWithin, Stay}
use Rattle.pt_prims.specs.Operations.{content_of, prim_answer, prim_heap}
use Rattle.pt_prims.proofs.StayLemmas.{objects-stay as grown-stay}
use Rattle.pt_prims.proofs.SoundLemmas.{heap-sound as grown-sound, answer-within as placed-within}
use Rattle.pt_prims.proofs.WithinLemmas.{content-within}
use Rattle.sem_run.specs.run.Host.{Here}
use Rattle.pt_host.specs.World.{Stores, with_objects}
use Rattle.pt_host.specs.Primitives.{Awaited, answer_if, arguments_of, of_prim, prim_asked, one_value, done, a_truth, truth_in, row_from, so_many, item_or_end}
use Rattle.pt_host.specs.Sound.{IsWithinIf, AllWithin, IsSoundFrom, KeepsSound, ItemWithin, RowWithin}
use Rattle.pt_prims.proofs.Places.{if-grows}
use Rattle.pt_host.proofs.Within.{Anything, heap-grows, raise-sound}

heap-sound : (o : Op) (vs : List Value) (h : List Object) → IsSound start_objects h → AllWithin h vs → IsSound start_objects (prim_heap o vs h)
heap-sound o vs h s w = grown-sound (content_of o vs h) h s (content-within h s o vs w)

pub answer-within : (o : Op) (vs : List Value) (h : List Object) → IsSound start_objects h → AllWithin h vs → AnswerIsWithin (prim_heap o vs h) (prim_answer o vs h)
answer-within o vs h s w = placed-within (content_of o vs h) vs h s w (content-within h s o vs w)

objects-stay : (o : Op) (vs : List Value) (h : List Object) → Stay h (prim_heap o vs h)
objects-stay o vs h = grown-stay (content_of o vs h) h

no-fewer : (h k : List Object) → Stay h k → length h ≤ length k
no-fewer h k stay = by h k (λ i o e. ((stay i o e).0, (stay i o e).1))
  where
    none-there : (p : Object) → None ≡ Some p → ⊥
    none-there p e = cc

    by : (h k : List Object) → ((i : ℕ) (o : Object) → slice_get h i ≡ Some o → (p : Object) × (slice_get k i ≡ Some p)) → length h ≤ length k
    by [] k f = omega arith
    by (x ∷ h) [] f = absurd (none-there (f 0 x refl).0 (f 0 x refl).1)
    by (x ∷ h) (y ∷ k) f = let l : length h ≤ length k = by h k (λ i o e. f (suc i) o e) in omega (arith, l)

-- what an operation leaves behind: a sound store, and what it answers lies in its heap
pub record Operated (n : ℕ) (o : Op) (vs : List Value) (r : Here Value) (st : Stores) : Type 0 where
  pub store : IsSoundFrom n (with_objects (prim_heap o vs st.world.heap) st)
  pub answer : AnswerIsWithin (prim_heap o vs st.world.heap) (prim_answer o vs st.world.heap)
  pub active : IsWithinIf (prim_heap o vs st.world.heap) r.active

pub operated-within : (n : ℕ) (o : Op) (vs : List Value) (r : Here Value) (st : Stores) → AllWithin st.world.heap vs → IsSoundFrom n st → IsWithinIf st.world.heap r.active → Operated n o vs r st
operated-within n o vs r st all s active =
    let h : List Object = st.world.heap in
    let k : List Object = prim_heap o vs h in
    let l : length h ≤ length k = no-fewer h k (objects-stay o vs h) in
    record {
      store = heap-grows n n st k s (heap-sound o vs h s.heap all) l (omega (arith, s.objects, l));
      answer = answer-within o vs h s.heap all;
      active = if-grows h k r.active l active;
    }

abbrev pub IfGiven : {A : Type 0} → Option A → (A → Type 0) → Type 0
IfGiven None P = Unit {0}
IfGiven (Some a) P = P a

-- what an ask makes of what an operation answers names objects of a heap where that does
pub record Fitting {A : Type 0} (P : List Object → A → Type 0) (w : Awaited A) : Type 0 where
  pub value : (h : List Object) (v : Value) → IsWithin h v → IfGiven (w.value v) (P h)
  pub values : (h : List Object) (vs : List Value) → AllWithin h vs → IfGiven (w.values vs) (P h)
  pub end : (h : List Object) → IfGiven w.end (P h)

pub one-value-fits : Fitting IsWithin one_value
one-value-fits = record { value = λ h v w. w; values = λ h vs w. tt; end = λ h. tt }

pub done-fits : Fitting Anything done
done-fits = record { value = λ h v w. tt; values = λ h vs w. tt; end = λ h. tt }

pub truth-fits : Fitting Anything a_truth
truth-fits = record { value = λ h v w. by h (truth_in v); values = λ h vs w. tt; end = λ h. tt }
  where
    by : (h : List Object) (o : Option Bool) → IfGiven o (Anything h)
    by h None = tt
    by h (Some b) = tt

pub item-fits : Fitting ItemWithin item_or_end
item-fits = record { value = λ h v w. w; values = λ h vs w. tt; end = λ h. tt }

pub row-fits : (n : ℕ) → Fitting (RowWithin n) (so_many n)
row-fits n = record { value = λ h v w. tt; values = λ h vs w. by n h vs w; end = λ h. tt }
  where
    more : (n : ℕ) (h : List Object) (v : Value) (o : Option (Row Value n)) → IsWithin h v → IfGiven o (RowWithin n h) → IfGiven (option_map (λ r. (v, r)) o) (RowWithin (suc n) h)
    more n h v None w u = tt
    more n h v (Some r) w u = (w, u)

    by : (n : ℕ) (h : List Object) (vs : List Value) → AllWithin h vs → IfGiven (row_from n vs) (RowWithin n h)
    by zero h [] w = tt
    by zero h (v ∷ vs) w = tt
    by (suc n) h [] w = tt
    by (suc n) h (v ∷ vs) w = more n h v (row_from n vs) w.0 (by n h vs w.1)

arguments-within : (h : List Object) (o : Option Value) → IsWithinIf h o → AllWithin h (arguments_of o)
arguments-within h None w = tt
arguments-within h (Some v) w = (w, tt)

module _ {A : Type 0} (P : List Object → A → Type 0) (n : ℕ) (w : Awaited A) (fits : Fitting P w) where
  pub given-if : (o : Option A) (st : Stores) → IsSoundFrom n st → IfGiven o (P st.world.heap) → KeepsSound P n (answer_if o st)
  given-if None st s f = tt
  given-if (Some a) st s f = (s, f)

  pub answered : (a : PrimAns) (r : Here Value) (st : Stores) → IsSoundFrom n st → AnswerIsWithin st.world.heap a → IsWithinIf st.world.heap r.active → KeepsSound P n (of_prim w a r st)
  answered (prim.Value v) r st s i active = given-if (w.value v) st s (fits.value st.world.heap v i)
  answered (prim.Values vs) r st s i active = given-if (w.values vs) st s (fits.values st.world.heap vs i)
  answered prim.End r st s i active = given-if w.end st s (fits.end st.world.heap)
  answered (prim.Raise class v) r st s i active = raise-sound P n st class (arguments_of v) r s i.0 (arguments-within st.world.heap v i.1) active
  answered (prim.Help helper vs inverted) r st s i active = tt
  answered (prim.Print t) r st s i active = given-if (w.value value.None) st s (fits.value st.world.heap value.None tt)
  answered (prim.Outside what) r st s i active = tt

  pub asked-sound : (o : Op) (vs : List Value) (r : Here Value) (st : Stores) → AllWithin st.world.heap vs → IsSoundFrom n st → IsWithinIf st.world.heap r.active
      → KeepsSound P n (prim_asked w o vs r st)
  unfolding prim_asked
  asked-sound o vs r st all s active =
      let h : List Object = st.world.heap in
      let x : Operated n o vs r st = operated-within n o vs r st all s active in
      answered (prim_answer o vs h) r (with_objects (prim_heap o vs h) st) x.store x.answer x.active
