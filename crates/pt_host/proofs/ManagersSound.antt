-- Context managers that are entered and left keep a store sound.
use Rattle.std.proofs.Common.{◌≡◌, ◌≤◌, ◌++◌, ℕ, Bool, true, false, List, [], ◌∷◌, length, Option, None, Some, refl}
use Rattle.std.specs.Prelude.{codes, if◌then◌else◌}
use Rattle.std.proofs.lemmas.List.Elements.{Contains-append_right}
use Rattle.pt_base.specs.declared.what.What.TheVariants.{Feature}
use Rattle.pt_heap.specs.declared.value.Value.{Value}
use Rattle.pt_heap.specs.declared.object.Method.{Method}
use Rattle.pt_heap.specs.declared.object.Object.{Object}
use Rattle.pt_heap.specs.declared.object.Object.TheVariants as object
use Rattle.pt_heap.specs.Sound.{place_of, IsWithin}
use Rattle.pt_content.specs.pt_attrs.Look.{object_of}
use Rattle.pt_content.specs.pt_attrs.declared.look.Found.{Found}
use Rattle.pt_content.specs.pt_attrs.declared.look.Found.TheVariants as found
use Rattle.pt_content.specs.declared.function.Function.TheVariants as builtin
use Rattle.pt_content.specs.declared.op.Op.TheVariants as op
use Rattle.sem_run.specs.run.Host.{Here, answer, leave}
use Rattle.pt_host.specs.World.{Stores, Program, allot}
use Rattle.pt_host.specs.Trees.{Tree, answer_with, then_with}
use Rattle.pt_host.specs.Primitives.{a_truth}
use Rattle.pt_host.specs.Attributes.{bound_in, bound_object, bound_of}
use Rattle.pt_bind.specs.declared.arguments.Args.{Args}
use Rattle.pt_host.specs.Calls.{call_found, call_function_at, takes_arguments}
use Rattle.pt_host.specs.declared.managers.Manager.{Manager}
use Rattle.pt_host.specs.declared.managers.Manager.TheVariants.{Methods, NoEnter, NoExit, Unavailable}
use Rattle.pt_host.specs.Managers.{exit_arguments, managed_by, manager_of}
use Rattle.pt_host.specs.Answers.{call_exit, enter, entered, exit, swallows}
use Rattle.pt_host.specs.Sound.{AllWithin, IsSoundFrom, IsWithinIf, KeepsSound}
use Rattle.pt_prims.specs.Calls.{class_of}
use Rattle.pt_prims.specs.pt_special_methods.Instances.{method_of}
use Rattle.pt_prims.proofs.AttributeLemmas.{FoundWithin}
use Rattle.pt_prims.proofs.InstanceLemmas.{method-of-within}
use Rattle.pt_prims.proofs.Places.{Below, if-grows, object-below, within-grows}
use Rattle.pt_host.proofs.AttributesSound.{method-fits, missing-raised}
use Rattle.pt_host.proofs.CallsSound.{found-sound, function-at-sound}
use Rattle.pt_host.proofs.PrimsWithin.{answer-within, asked-sound, truth-fits}
use Rattle.pt_host.proofs.TreesSound.{from-fewer, then-keeps}
use Rattle.pt_host.proofs.Within.{Anything, allot-sound, below-value, from-here, given-sound}

-- what is called as it is left, and what it gave
abbrev pub BothWithin : List Object → Value × Value → Type 0
BothWithin h p = IsWithin h p.0 × IsWithin h p.1

abbrev ManagerWithin : List Object → Manager → Type 0
ManagerWithin h (Methods e f) = FoundWithin h (Some e) × IsWithin h f
ManagerWithin h m = Unit {0}

managed-within : (h : List Object) (e x : Option Found) → FoundWithin h e → FoundWithin h x → ManagerWithin h (managed_by e x)
managed-within h (Some e) (Some (found.Bound f)) i j = (i, j)
managed-within h (Some e) (Some (found.Plain v)) i j = tt
managed-within h (Some e) (Some found.Unbuilt) i j = tt
managed-within h (Some e) None i j = tt
managed-within h None x i j = tt

found-grows : (h k : List Object) (e : Found) → length h ≤ length k → FoundWithin h (Some e) → FoundWithin k (Some e)
found-grows h k (found.Plain v) l i = within-grows h k v l i
found-grows h k (found.Bound f) l i = within-grows h k f l i
found-grows h k found.Unbuilt l i = tt

-- the method is called behind what is made for the exit
called-sound : (n : ℕ) (st : Stores) (r : Here Value) → IsSoundFrom n st → IsWithinIf st.world.heap r.active → (program : Program) (e : Found) (v u : Value)
    → FoundWithin st.world.heap (Some e) → IsWithin st.world.heap v → IsWithin st.world.heap u
    → KeepsSound BothWithin n (then_with (call_found program (Some e) v [] (leave Feature) r st) (λ given st1. answer (u, given) st1))
called-sound n st r s active program e v u i w j =
    let h : List Object = st.world.heap in
    let m : ℕ = length h in
    from-fewer BothWithin n m s.objects (then_with (call_found program (Some e) v [] (leave Feature) r st) (λ given st1. answer (u, given) st1))
    (then-keeps IsWithin BothWithin m (call_found program (Some e) v [] (leave Feature) r st) (λ given st1. answer (u, given) st1)
    (found-sound m st r (from-here n st s) active program (Some e) v [] (leave Feature) i w tt tt)
    (λ given st1 s1 g. (s1, (within-grows h st1.world.heap u s1.objects j, g))))

module _ (n : ℕ) (st : Stores) (r : Here Value) (s : IsSoundFrom n st) (active : IsWithinIf st.world.heap r.active) (program : Program) where
  abbrev heap : List Object
  heap = st.world.heap

  entered-sound : (m : Manager) (v : Value) → ManagerWithin heap m → IsWithin heap v → KeepsSound BothWithin n (entered program m v r st)
  entered-sound (Methods e f) v i w =
      let m : ℕ = length heap in
      let here : IsSoundFrom m st = from-here n st s in
      from-fewer BothWithin n m s.objects (entered program (Methods e f) v r st)
      (then-keeps IsWithin BothWithin m (answer_with (allot (bound_object f v) heap) st)
      (λ u st1. then_with (call_found program (Some e) v [] (leave Feature) r st1) (λ given st2. answer (u, given) st2))
      (given-sound m st (allot (bound_object f v) heap) here (allot-sound heap (bound_object f v) s.heap (method-fits heap f v i.1 w)))
      (λ u st1 s1 j.
      let k : List Object = st1.world.heap in
      called-sound m st1 r s1 (if-grows heap k r.active s1.objects active) program e v u (found-grows heap k e s1.objects i.0) (within-grows heap k v s1.objects w) j))
  entered-sound NoEnter v i w = missing-raised n st r s active BothWithin (codes "__enter__") v
  entered-sound NoExit v i w = missing-raised n st r s active BothWithin (codes "__exit__") v
  entered-sound Unavailable v i w = tt

  pub enter-sound : (v : Value) → IsWithin heap v → KeepsSound BothWithin n (enter program v r st)
  enter-sound v w =
      entered-sound (manager_of heap v) v
      (managed-within heap (method_of heap v (codes "__enter__")) (method_of heap v (codes "__exit__")) (method-of-within heap s.heap v (codes "__enter__"))
      (method-of-within heap s.heap v (codes "__exit__")))
      w

  class-within : (e : Value) → IsWithin heap e → IsWithin heap (class_of heap e)
  class-within e w = answer-within (op.Call builtin.Type) (e ∷ []) heap s.heap (w, tt)

  told-within : (o : Option Value) → IsWithinIf heap o → AllWithin heap (exit_arguments heap o)
  told-within None w = (tt, (tt, (tt, tt)))
  told-within (Some e) w = (class-within e w, (w, (tt, tt)))

  taken-sound : (b : Bool) (t : Tree Value) → KeepsSound IsWithin n t → KeepsSound IsWithin n (if b then t else leave Feature)
  taken-sound true t k = k
  taken-sound false t k = tt

  exit-called-sound : (o : Option Object) (w : Value) (vs : List Value) → object_of heap w ≡ o → AllWithin heap vs
      → KeepsSound IsWithin n (call_exit program (bound_in o) vs r st)
  exit-called-sound (Some (object.Method m)) w vs e ws =
      let inside : Below (length heap) (place_of m.function ++ place_of m.receiver) = object-below heap w (object.Method m) s.heap e in
      let receiver : IsWithin heap m.receiver =
      below-value heap m.receiver (λ p c. inside p (Contains-append_right (place_of m.function) (place_of m.receiver) p c)) in
      let args : Args = record { plain = m.receiver ∷ vs; named = [] } in
      taken-sound (takes_arguments program (object_of heap m.function) args) (call_function_at program (object_of heap m.function) args r st)
      (function-at-sound n st r s active program args (receiver, ws) tt (object_of heap m.function) m.function refl)
  exit-called-sound o w vs e ws = tt

swallows-sound : (n : ℕ) (st : Stores) (r : Here Value) → IsSoundFrom n st → IsWithinIf st.world.heap r.active → (o : Option Value) (v : Value) → IsWithin st.world.heap v
    → KeepsSound Anything n (swallows o v r st)
swallows-sound n st r s active (Some e) v w = asked-sound Anything n a_truth truth-fits op.Truth (v ∷ []) r st (w, tt) s active
swallows-sound n st r s active None v w = (s, tt)

pub exit-sound : (n : ℕ) (st : Stores) (r : Here Value) → IsSoundFrom n st → IsWithinIf st.world.heap r.active → (program : Program) (w : Value) (o : Option Value)
    → IsWithinIf st.world.heap o → KeepsSound Anything n (exit program w o r st)
exit-sound n st r s active program w o i =
    let h : List Object = st.world.heap in
    let m : ℕ = length h in
    let here : IsSoundFrom m st = from-here n st s in
    from-fewer Anything n m s.objects (exit program w o r st)
    (then-keeps IsWithin Anything m (call_exit program (bound_of h w) (exit_arguments h o) r st) (λ v st1. swallows o v r st1)
    (exit-called-sound m st r here active program (object_of h w) w (exit_arguments h o) refl (told-within m st r here active program o i))
    (λ v st1 s1 j. swallows-sound m st1 r s1 (if-grows h st1.world.heap r.active s1.objects active) o v j))
