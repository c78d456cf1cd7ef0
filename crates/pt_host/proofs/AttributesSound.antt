-- Attributes that are read, set and deleted, and names of modules, keep a store sound.
use Rattle.std.proofs.Common.{◌≡◌, ◌≤◌, ℕ, Bool, true, false, List, length, set, Option, None, Some, slice_get, if◌then◌else◌, refl, subst, arith}
use Rattle.std.specs.Prelude.{codes}
use Rattle.std.specs.Str.{bytes_eq}
use Rattle.std.proofs.lemmas.List.{length-set}
use Rattle.pt_tree.specs.Syntax.{Name}
use Rattle.pt_heap.specs.declared.value.Value.{Value}
use Rattle.pt_heap.specs.declared.value.Value.TheVariants as value
use Rattle.pt_heap.specs.declared.object.Module.TheVariants.{Sys}
use Rattle.pt_heap.specs.declared.object.Object.{Object}
use Rattle.pt_heap.specs.declared.object.Object.TheVariants as object
use Rattle.pt_heap.specs.Entries.{Entry, found, put, without}
use Rattle.pt_heap.specs.Sound.{place_of, places_in, Fits, IsSound, IsWithin}
use Rattle.pt_builtin_objects.specs.Start.{start_objects}
use Rattle.pt_content.specs.Classes.{class_name}
use Rattle.pt_content.specs.pt_attrs.Look.{object_of}
use Rattle.pt_content.specs.pt_attrs.Store.{assigned, deleted, deleted_at, deleted_in, held, stored, stored_at, stored_in, unassigned, with_names, without_name}
use Rattle.pt_content.specs.pt_attrs.pt_dicts.Keys.{name_codes}
use Rattle.pt_content.proofs.pt_attrs.SoundLemmas.{deleted-sound, stored-sound}
use Rattle.pt_prims.specs.pt_methods.declared.attribute.Attribute.{Attribute}
use Rattle.pt_prims.specs.pt_methods.declared.attribute.Attribute.TheVariants as attribute
use Rattle.pt_prims.specs.pt_methods.Attributes.{attribute_of, receiver_of}
use Rattle.pt_prims.proofs.AttributeLemmas.{attribute-within, error-arguments, receiver-within, AttributeWithin}
use Rattle.pt_prims.proofs.Places.{Below, both-below, none-below, start-within, values-below}
use Rattle.sem_run.specs.run.Host.{Here, answer}
use Rattle.pt_host.specs.declared.places.TheConstants.{ATTRIBUTE_ERROR, IMPORT_ERROR, MODULE_NOT_FOUND_ERROR, SYS, TYPE_ERROR}
use Rattle.pt_host.specs.World.{Program, Stores, allot}
use Rattle.pt_host.specs.Attributes.{method_object, bound_object, name_of, arguments_in, raise_missing, by_attribute, attribute as attribute_answer, is_fixed, by_changed, set_attribute, delete_attribute, set_named}
use Rattle.pt_host.specs.Errors.{raise_saying}
use Rattle.pt_host.specs.Imports.{import_module, by_imported, import_name}
use Rattle.pt_host.specs.Texts.{missing_text, no_module_text, no_name_text}
use Rattle.pt_host.specs.Sound.{IsSoundFrom, IsWithinIf, KeepsSound}
use Rattle.pt_host.proofs.Within.{Anything, allot-sound, given-sound, heap-grows, raise-text-sound, text-fits, value-below}

pub method-fits : (h : List Object) (f v : Value) → IsWithin h f → IsWithin h v → Fits h (length h) (bound_object f v)
method-fits h f v a b = record { places = both-below (length h) (place_of f) (place_of v) (value-below h f a) (value-below h v b); classes = tt }

arguments-below : (h : List Object) (v : Value) (o : Option Object) → IsSound start_objects h → object_of h v ≡ o → Below (length h) (places_in (arguments_in o))
arguments-below h v (Some (object.Error x)) s e = values-below h x.args (error-arguments h s v x e)
arguments-below h v o s e = none-below (length h)

arguments-fit : (h : List Object) (v : Value) → IsSound start_objects h → Fits h (length h) (object.Tuple (arguments_in (object_of h v)))
arguments-fit h v s = record { places = arguments-below h v (object_of h v) s refl; classes = tt }

-- a heap with other names has as many objects
module _ (h : List Object) (k : List Object) where
  set-grows : (p : ℕ) (o : Object) → Some (set h p o) ≡ Some k → length h ≤ length k
  set-grows p o e = let same : set h p o ≡ k = cc in subst (λ l. length h ≤ length l) same (omega (arith, length-set h p o))

  stored-grows : (to : Value) (key : List ℕ) (v : Value) → stored h to key v ≡ Some k → length h ≤ length k
  stored-grows (value.Obj id) key v is = by (slice_get h id.0) is
    where
      inside : (o : Object) (ns : Option (List Entry)) → stored_in h id.0 key v o ns ≡ Some k → length h ≤ length k
      inside o None e = absurd cc
      inside o (Some ns) e = set-grows id.0 (with_names o (put key value.None v ns)) e

      by : (o : Option Object) → stored_at h id.0 key v o ≡ Some k → length h ≤ length k
      by None e = absurd cc
      by (Some o) e = inside o (held h o) e
  stored-grows a key v is = absurd cc

  deleted-grows : (from : Value) (key : List ℕ) → deleted h from key ≡ Some k → length h ≤ length k
  deleted-grows (value.Obj id) key is = by (slice_get h id.0) is
    where
      taken : (o : Object) (ns : List Entry) (f : Option Value) → without_name h id.0 key o ns f ≡ Some k → length h ≤ length k
      taken o ns None e = absurd cc
      taken o ns (Some f) e = set-grows id.0 (with_names o (without key ns)) e

      inside : (o : Object) (ns : Option (List Entry)) → deleted_in h id.0 key o ns ≡ Some k → length h ≤ length k
      inside o None e = absurd cc
      inside o (Some ns) e = taken o ns (found key ns) e

      by : (o : Option Object) → deleted_at h id.0 key o ≡ Some k → length h ≤ length k
      by None e = absurd cc
      by (Some o) e = inside o (held h o) e
  deleted-grows a key is = absurd cc

-- a heap in place of another one is sound and no smaller
abbrev ChangesSoundly : List Object → Option (List Object) → Type 0
ChangesSoundly h o = (k : List Object) → o ≡ Some k → (length h ≤ length k) × IsSound start_objects k

module _ (n : ℕ) (st : Stores) (r : Here Value) (s : IsSoundFrom n st) (active : IsWithinIf st.world.heap r.active) where
  abbrev heap : List Object
  heap = st.world.heap

  pub missing-raised : {A : Type 0} (P : List Object → A → Type 0) (x : Name) (v : Value) → KeepsSound P n (raise_missing {A = A} x v r st)
  missing-raised P x v = raise-text-sound P n st ATTRIBUTE_ERROR (missing_text (class_name heap v) x) r s (_, refl) active

  by-attribute-sound : (program : Program) (x : Name) (v : Value) (a : Attribute) → IsWithin heap v → AttributeWithin heap a → KeepsSound IsWithin n (by_attribute program x v a r st)
  by-attribute-sound program x v (attribute.Method m) w i =
      given-sound n st (allot (method_object m v) heap) s
      (allot-sound heap (method_object m v) s.heap (record { places = value-below heap v w; classes = tt }))
  by-attribute-sound program x v (attribute.Held u) w i = (s, i)
  by-attribute-sound program x v (attribute.Bound f) w i =
      given-sound n st (allot (bound_object f (receiver_of heap v)) heap) s
      (allot-sound heap (bound_object f (receiver_of heap v)) s.heap (method-fits heap f (receiver_of heap v) i (receiver-within heap s.heap v w)))
  by-attribute-sound program x v attribute.NameOf w i =
      given-sound n st (allot (object.Str (name_of program (object_of heap v))) heap) s
      (allot-sound heap (object.Str (name_of program (object_of heap v))) s.heap (text-fits heap (name_of program (object_of heap v))))
  by-attribute-sound program x v attribute.Arguments w i =
      given-sound n st (allot (object.Tuple (arguments_in (object_of heap v))) heap) s
      (allot-sound heap (object.Tuple (arguments_in (object_of heap v))) s.heap (arguments-fit heap v s.heap))
  by-attribute-sound program x v attribute.Missing w i = missing-raised IsWithin x v
  by-attribute-sound program x v attribute.Unbuilt w i = tt

  pub attribute-sound : (program : Program) (x : Name) (v : Value) → IsWithin heap v → KeepsSound IsWithin n (attribute_answer program x v r st)
  attribute-sound program x v w = by-attribute-sound program x v (attribute_of heap v x) w (attribute-within heap s.heap v x)

  changed-sound : (fixed : Bool) (x : Name) (a : Value) (o : Option (List Object)) → ChangesSoundly heap o → KeepsSound Anything n (by_changed fixed x a o r st)
  changed-sound true x a (Some k) c = tt
  changed-sound false x a (Some k) c =
      let grown : length heap ≤ length k = (c k refl).0 in
      (heap-grows n n st k s (c k refl).1 grown (omega (arith, s.objects, grown)), tt)
  changed-sound fixed x a None c = missing-raised Anything x a

  pub set-sound : (x : Name) (a v : Value) → IsWithin heap v → KeepsSound Anything n (set_attribute x a v r st)
  set-sound x a v w =
      changed-sound (is_fixed (object_of heap a) x) x a (assigned heap a x v)
      (λ k e. (stored-grows heap k a (name_codes x) v e, stored-sound heap a (name_codes x) v k e s.heap w))

  pub unset-sound : (x : Name) (a : Value) → KeepsSound Anything n (delete_attribute x a r st)
  unset-sound x a =
      changed-sound (is_fixed (object_of heap a) x) x a (unassigned heap a x)
      (λ k e. (deleted-grows heap k a (name_codes x) e, deleted-sound heap a (name_codes x) k e s.heap))

  pub set-named-sound : (o : Option (List ℕ)) (a v : Value) → IsWithin heap v → KeepsSound Anything n (set_named o a v r st)
  set-named-sound (Some x) a v w = set-sound x a v w
  set-named-sound None a v w = raise-text-sound Anything n st TYPE_ERROR (codes "bad argument") r s (_, refl) active

  -- modules and their names
  pub import-sound : (x : Name) → KeepsSound IsWithin n (import_module x r st)
  import-sound x = by (bytes_eq x (codes "sys"))
    where
      by : (b : Bool) → KeepsSound IsWithin n (if b then answer (value.Obj SYS) st else raise_saying MODULE_NOT_FOUND_ERROR (no_module_text x) r st)
      by true = (s, start-within heap 77 (object.Module Sys) s.heap refl)
      by false = raise-text-sound IsWithin n st MODULE_NOT_FOUND_ERROR (no_module_text x) r s (_, refl) active

  imported-sound : (program : Program) (x : Name) (m : Value) (a : Attribute) → IsWithin heap m → AttributeWithin heap a → KeepsSound IsWithin n (by_imported program x m a r st)
  imported-sound program x m attribute.Missing w i = raise-text-sound IsWithin n st IMPORT_ERROR (no_name_text x) r s (_, refl) active
  imported-sound program x m a w i = by-attribute-sound program x m a w i

  pub import-name-sound : (program : Program) (x : Name) (m : Value) → IsWithin heap m → KeepsSound IsWithin n (import_name program x m r st)
  import-name-sound program x m w = imported-sound program x m (attribute_of heap m x) w (attribute-within heap s.heap m x)
