-- The host keeps the heap sound, for each ask.
use Rattle.std.proofs.Common.{◌≡◌, ◌<◌, ℕ, Bool, true, false, if◌then◌else◌, List, [], ◌∷◌, length, Option, None, Some, refl, arith}
use Rattle.std.specs.Prelude.{position}
use Rattle.std.specs.Str.{bytes_eq}
use Rattle.std.proofs.lemmas.List.Quantifiers.{position-Some}
use Rattle.pt_tree.specs.declared.expression.Constant.{Constant}
use Rattle.pt_tree.specs.declared.expression.Constant.TheVariants as constant
use Rattle.sem_control.specs.control.Turn as T
use Rattle.sem_control.specs.control.Turn.{Ask, Seek, Deed, Operation}
use Rattle.pt_heap.specs.declared.value.Value.{Value}
use Rattle.pt_heap.specs.declared.object.Object.{Object}
use Rattle.pt_heap.specs.Sound.{IsWithin}
use Rattle.pt_content.specs.declared.op.Op.{Op}
use Rattle.pt_content.specs.declared.op.Op.TheVariants as op
use Rattle.pt_base.specs.declared.what.What.TheVariants.{Feature}
use Rattle.pt_content.specs.pt_attrs.declared.look.Found.{Found}
use Rattle.pt_content.specs.declared.answer.PrimAns.{PrimAns}
use Rattle.pt_content.specs.declared.answer.PrimAns.TheVariants as prim
use Rattle.pt_prims.specs.Laws.{AnswerIsWithin}
use Rattle.pt_prims.specs.Operations.{prim_answer, prim_heap}
use Rattle.pt_prims.proofs.Places.{if-grows}
use Rattle.sem_run.specs.run.Host.{Here, Item, an_item, no_item, answer, leave, print, raise, request}
use Rattle.pt_host.specs.World.{Stores, Program, with_objects}
use Rattle.pt_host.specs.Trees.{Tree, then_with}
use Rattle.pt_host.specs.Leaving.{is_stop}
use Rattle.pt_host.specs.Primitives.{one_value, Awaited, prim_asked, done, a_truth, so_many, item_or_end}
use Rattle.pt_host.specs.Calls.{ask_with, by_prim_or_helper, call_found, operated}
use Rattle.pt_host.specs.Answers.{change_by, change_of, change_or, changed_by, by_change, deeds, next_by, next_item, or_end, or_end_behind, unpacked, unpacked_by, unpacking, named_method, operate_by, operation_of, by_operation, special_name, special_or, text_object, constant_value, operate, seeks, answers}
use Rattle.pt_host.specs.Sound.{IsWithinIf, AllWithin, IsSoundFrom, KeepsSound, SeekWithin, ChangeWithin, DeedWithin, AskWithin, FindingWithin, ItemWithin, RowWithin, start_count, KeepsTheHeapSound}
use Rattle.pt_prims.proofs.AttributeLemmas.{FoundWithin}
use Rattle.pt_prims.proofs.InstanceLemmas.{method-of-within}
use Rattle.pt_host.proofs.Within.{Anything, from-here}
use Rattle.pt_host.proofs.FunctionsSound.{ask-with-sound, operated-sound}
use Rattle.pt_host.proofs.PrimsWithin.{Fitting, Operated, answered, asked-sound, operated-within, one-value-fits, done-fits, truth-fits, item-fits, row-fits}
use Rattle.pt_host.proofs.VariablesSound.{store-sound, fresh-sound, cell-of-sound, delete-sound, load-sound}
use Rattle.pt_host.proofs.AttributesSound.{attribute-sound, import-sound, import-name-sound, set-sound, unset-sound}
use Rattle.pt_host.proofs.CallsSound.{make-sound, call-sound, found-sound, special-sound}
use Rattle.pt_host.proofs.ManagersSound.{enter-sound, exit-sound}
use Rattle.pt_host.proofs.TreesSound.{from-fewer, then-keeps}
use Rattle.pt_host.proofs.ClassesSound.{make-class-sound}
use Rattle.pt_host.proofs.RaisingSound.{matches-sound, throws-sound}

module _ (program : Program) (st : Stores) (r : Here Value) (s : IsSoundFrom (start_count program) st) (active : IsWithinIf st.world.heap r.active) where
  abbrev heap : List Object
  heap = st.world.heap

  abbrev n : ℕ
  n = length heap

  here : IsSoundFrom n st
  here = from-here (start_count program) st s

  text-within : (t : List ℕ) → IsWithin heap (constant_value program (constant.Str t))
  text-within t = by (position (bytes_eq t) program.texts) refl
    where
      by : (o : Option ℕ) → position (bytes_eq t) program.texts ≡ o → IsWithin heap (text_object program o)
      by None e = tt
      by (Some i) e =
          let p : i < length program.texts = (position-Some (bytes_eq t) program.texts i [] e).0 in
          omega (arith, p, s.objects)

  constant-within : (k : Constant) → IsWithin heap (constant_value program k)
  constant-within constant.None = tt
  constant-within (constant.Bool b) = tt
  constant-within constant.Ellipsis = tt
  constant-within (constant.Int z) = tt
  constant-within (constant.Str t) = text-within t

  whatever-sound : {A : Type 0} (P : List Object → A → Type 0) (w : Awaited A) (o : Op) (vs : List Value) → Fitting P w → AllWithin heap vs
      → KeepsSound P n (operated program w o vs r st)
  whatever-sound P w o vs fits all = operated-sound program r P w fits n o vs st all here active

  prim-sound : (o : Op) (vs : List Value) → AllWithin heap vs → KeepsSound IsWithin n (by_prim_or_helper program o vs r st)
  prim-sound o vs all = whatever-sound IsWithin one_value o vs one-value-fits all

  named-within : (x : Option (List ℕ)) (v : Value) → FoundWithin heap (named_method heap x v)
  named-within (Some x) v = method-of-within heap s.heap v x
  named-within None v = tt

  special-or-sound : (v : Value) (rest : List Value) (o : Op) (vs : List Value) → IsWithin heap v → AllWithin heap rest → AllWithin heap vs
      → KeepsSound IsWithin n (special_or program v rest o vs r st)
  special-or-sound v rest o vs w ws all =
      special-sound n st r here active program (named_method heap (special_name o) v) v rest (by_prim_or_helper program o vs r st) (named-within (special_name o) v) w ws
      (prim-sound o vs all)

  operate-by-sound : (o : Op) (vs : List Value) → AllWithin heap vs → KeepsSound IsWithin n (operate_by program o vs r st)
  operate-by-sound (op.Unary u) (v ∷ []) w = special-or-sound v [] (op.Unary u) (v ∷ []) w.0 tt w
  operate-by-sound op.Item (a ∷ i ∷ []) w = special-or-sound a (i ∷ []) op.Item (a ∷ i ∷ []) w.0 w.1 w
  operate-by-sound o vs w = prim-sound o vs w

  operation-sound : (o : Option Op) (vs : List Value) → AllWithin heap vs → KeepsSound IsWithin n (by_operation program o vs r st)
  operation-sound None vs w = tt
  operation-sound (Some o) vs w = operate-by-sound o vs w

  operate-sound : (o : Operation) (vs : List Value) → AllWithin heap vs → KeepsSound IsWithin n (operate program o vs r st)
  operate-sound (T.call rs) [] w = tt
  operate-sound (T.call rs) (f ∷ vs) w = call-sound n st r here active program rs f vs w.0 w.1
  operate-sound (T.function b xs) vs w = make-sound n st r here active b xs vs w
  operate-sound (T.class b) vs w = make-class-sound n st r here active program b vs
  operate-sound (T.get x) [] w = tt
  operate-sound (T.get x) (v ∷ []) w = attribute-sound n st r here active program x v w.0
  operate-sound (T.get x) (v ∷ u ∷ vs) w = tt
  operate-sound (T.import x) [] w = import-sound n st r here active x
  operate-sound (T.import x) (v ∷ vs) w = tt
  operate-sound (T.import_name x) [] w = tt
  operate-sound (T.import_name x) (m ∷ []) w = import-name-sound n st r here active program x m w.0
  operate-sound (T.import_name x) (m ∷ u ∷ vs) w = tt
  operate-sound o vs w = operation-sound (operation_of o) vs w

  seeks-sound : (a : Seek Value) → SeekWithin heap a → KeepsSound IsWithin n (seeks program a r st)
  seeks-sound (T.const k) w = (here, constant-within k)
  seeks-sound (T.load x) w = load-sound n st here r active (omega (arith, s.objects)) x
  seeks-sound (T.operate o vs) w = operate-sound o vs w
  seeks-sound (T.cell_of x) w = cell-of-sound n st here x
  seeks-sound (T.yielding v) w = tt

  -- what changes an object
  changed-by-sound : (o : Option Found) (v : Value) (vs : List Value) (otherwise : Tree (Unit {0})) → FoundWithin heap o → IsWithin heap v → AllWithin heap vs
      → KeepsSound Anything n otherwise → KeepsSound Anything n (changed_by program o v vs otherwise r st)
  changed-by-sound (Some m) v vs otherwise i w ws k =
      then-keeps IsWithin Anything n (call_found program (Some m) v vs (leave Feature) r st) (λ u st1. answer tt st1)
      (found-sound n st r here active program (Some m) v vs (leave Feature) i w ws tt) (λ u st1 s1 j. (s1, tt))
  changed-by-sound None v vs otherwise i w ws k = k

  change-or-sound : (v : Value) (rest : List Value) (o : Op) (vs : List Value) → IsWithin heap v → AllWithin heap rest → AllWithin heap vs
      → KeepsSound Anything n (change_or program v rest o vs r st)
  change-or-sound v rest o vs w ws all =
      changed-by-sound (named_method heap (special_name o) v) v rest (operated program done o vs r st) (named-within (special_name o) v) w ws
      (whatever-sound Anything done o vs done-fits all)

  change-by-sound : (o : Op) (vs : List Value) → AllWithin heap vs → KeepsSound Anything n (change_by program o vs r st)
  change-by-sound op.SetItem (v ∷ a ∷ i ∷ []) w = change-or-sound a (i ∷ v ∷ []) op.SetItem (v ∷ a ∷ i ∷ []) w.1.0 (w.1.1.0, (w.0, tt)) w
  change-by-sound op.DelItem (a ∷ i ∷ []) w = change-or-sound a (i ∷ []) op.DelItem (a ∷ i ∷ []) w.0 w.1 w
  change-by-sound o vs w = whatever-sound Anything done o vs done-fits w

  change-sound : (o : Option (Op × List Value)) → ChangeWithin heap o → KeepsSound Anything n (by_change program o r st)
  change-sound None w = tt
  change-sound (Some p) w = change-by-sound p.0 p.1 w

  deeds-sound : (d : Deed Value) → DeedWithin heap d → KeepsSound Anything n (deeds program d r st)
  deeds-sound (T.store x v) w = store-sound n st here x v w
  deeds-sound (T.delete x) w = delete-sound n st here r active x
  deeds-sound (T.discard v) w = (here, tt)
  deeds-sound (T.set_attribute x a v) w = set-sound n st r here active x a v w.1
  deeds-sound (T.delete_attribute x a) w = unset-sound n st r here active x a
  deeds-sound (T.fresh x) w = (fresh-sound n st here x, tt)
  deeds-sound T.nothing w = (here, tt)
  deeds-sound d w = change-sound (change_of d) w

  -- the next item, or that a StopIteration ended the iterator
  or-end-sound : (m : ℕ) (t : Tree (Item Value)) → KeepsSound ItemWithin m t → KeepsSound ItemWithin m (or_end t)
  unfolding or_end
  or-end-sound m (answer x u) k = k
  or-end-sound m (raise e u) k = by (is_stop e u.world)
    where
      by : (b : Bool) → KeepsSound ItemWithin m (if b then answer (no_item (Some e)) u else raise e u)
      by true = k
      by false = k
  or-end-sound m (print t u) k = or-end-sound m u k
  or-end-sound m (leave what) k = tt
  or-end-sound m (request q u f) k = (k.0, k.1, λ x st1 s1 w. or-end-sound m (f x st1) (k.2 x st1 s1 w))

  or-end-behind-sound : (m : ℕ) (t : Tree (Item Value)) → KeepsSound ItemWithin m t → KeepsSound ItemWithin m (or_end_behind t)
  or-end-behind-sound m (answer x u) k = k
  or-end-behind-sound m (raise e u) k = k
  or-end-behind-sound m (print t u) k = or-end-behind-sound m u k
  or-end-behind-sound m (leave what) k = tt
  or-end-behind-sound m (request q u f) k = (k.0, k.1, λ x st1 s1 w. or-end-sound m (f x st1) (k.2 x st1 s1 w))

  next-by-sound : (a : PrimAns) (u : Stores) → IsSoundFrom n u → AnswerIsWithin u.world.heap a → IsWithinIf u.world.heap r.active
      → KeepsSound ItemWithin n (next_by program a r u)
  next-by-sound (prim.Help a vs inverted) u s1 w i =
      or-end-behind-sound n (then_with (ask_with program a vs r u) (λ v st1. answer (an_item v) st1))
      (then-keeps IsWithin ItemWithin n (ask_with program a vs r u) (λ v st1. answer (an_item v) st1) (ask-with-sound program r n a vs u s1 w i) (λ v st1 s2 j. (s2, j)))
  next-by-sound a u s1 w i = answered ItemWithin n item_or_end item-fits a r u s1 w i

  next-sound : (v : Value) → IsWithin heap v → KeepsSound ItemWithin n (next_item program v r st)
  next-sound v w =
      let x : Operated n op.Next (v ∷ []) r st = operated-within n op.Next (v ∷ []) r st (w, tt) here active in
      next-by-sound (prim_answer op.Next (v ∷ []) heap) (with_objects (prim_heap op.Next (v ∷ []) heap) st) x.store x.answer x.active

  -- as many items as there are targets
  unpacked-by-sound : (k : ℕ) (star : Option ℕ) (a : PrimAns) (u : Stores) → IsSoundFrom n u → AnswerIsWithin u.world.heap a → IsWithinIf u.world.heap r.active
      → KeepsSound (RowWithin k) n (unpacked_by program k star a r u)
  unpacked-by-sound k star (prim.Help a vs inverted) u s1 w i =
      let m : ℕ = length u.world.heap in
      from-fewer (RowWithin k) n m s1.objects (unpacked_by program k star (prim.Help a vs inverted) r u)
      (then-keeps IsWithin (RowWithin k) m (ask_with program a vs r u) (λ v st1. prim_asked (so_many k) (unpacking k star) (v ∷ []) r st1)
      (ask-with-sound program r m a vs u (from-here n u s1) w i)
      (λ v st1 s2 j.
      asked-sound (RowWithin k) m (so_many k) (row-fits k) (unpacking k star) (v ∷ []) r st1 (j, tt) s2 (if-grows u.world.heap st1.world.heap r.active s2.objects i)))
  unpacked-by-sound k star a u s1 w i = answered (RowWithin k) n (so_many k) (row-fits k) a r u s1 w i

  unpacked-sound : (v : Value) (k : ℕ) (star : Option ℕ) → IsWithin heap v → KeepsSound (RowWithin k) n (unpacked program v k star r st)
  unpacked-sound v k star w =
      let o : Op = unpacking k star in
      let x : Operated n o (v ∷ []) r st = operated-within n o (v ∷ []) r st (w, tt) here active in
      unpacked-by-sound k star (prim_answer o (v ∷ []) heap) (with_objects (prim_heap o (v ∷ []) heap) st) x.store x.answer x.active

  ask-sound : (a : Ask Value) → AskWithin heap a → KeepsSound (FindingWithin a) n (answers program a r st)
  ask-sound (T.seek a) w = seeks-sound a w
  ask-sound (T.deed d) w = deeds-sound d w
  ask-sound (T.leave l) w = (here, tt)
  ask-sound (T.throw t) w = throws-sound (FindingWithin (T.throw t)) n st r here active t w
  ask-sound (T.test (T.matches e c)) w = matches-sound n st r here active e c
  ask-sound (T.test (T.branch v)) w = whatever-sound Anything a_truth op.Truth (v ∷ []) truth-fits (w, tt)
  ask-sound (T.test (T.exit_of v o)) w = exit-sound n st r here active program v o w.1
  ask-sound (T.iter_of v) w = prim-sound op.Iter (v ∷ []) (w, tt)
  ask-sound (T.next_of i) w = next-sound i w
  ask-sound (T.enter v) w = enter-sound n st r here active program v w
  ask-sound (T.unpack v k star) w = unpacked-sound v k star w
  ask-sound (T.delegate i x) w = tt

pub keeps_sound : (program : Program) → KeepsTheHeapSound program
keeps_sound program a r st s w active = ask-sound program st r s active a w
