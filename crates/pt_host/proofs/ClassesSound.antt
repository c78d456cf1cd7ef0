-- Classes that are made, their instances, and what `super` gives keep a store sound.
use Rattle.std.proofs.Common.{◌≡◌, ℕ, Bool, true, false, List, [], ◌∷◌, ◌++◌, length, map, Option, None, Some, slice_get, if◌then◌else◌, not, ◌||◌, ◌==◌, refl, subst, arith}
use Rattle.std.specs.Prelude.{codes}
use Rattle.pt_base.specs.declared.numbers.ObjId.{ObjId}
use Rattle.pt_tree.specs.Syntax.{Name}
use Rattle.sem_control.specs.control.Turn.{End, gave, left_by}
use Rattle.pt_heap.specs.declared.value.Value.{Value}
use Rattle.pt_heap.specs.declared.value.Value.TheVariants as value
use Rattle.pt_heap.specs.declared.view.Binding.{Binding}
use Rattle.pt_heap.specs.declared.object.Object.{Object}
use Rattle.pt_heap.specs.declared.object.Object.TheVariants as object
use Rattle.pt_heap.specs.Entries.{Entry, put}
use Rattle.pt_heap.specs.Sound.{entry_places, place_of, Fits, IsClassAt, IsSound, IsWithin}
use Rattle.pt_builtin_objects.specs.Start.{start_objects}
use Rattle.pt_names.specs.Names.{Named, bindings_of, bound_first, name_value}
use Rattle.pt_bind.specs.NameSets.{is_among}
use Rattle.pt_content.specs.pt_attrs.pt_dicts.Keys.{name_codes}
use Rattle.pt_prims.specs.Classes.{derives}
use Rattle.pt_prims.proofs.ContainerLemmas.{entries-below}
use Rattle.pt_prims.proofs.EntryLemmas.{AreWithin, put-within}
use Rattle.pt_prims.proofs.Places.{both-below, class-within, if-grows, one-below}
use Rattle.sem_run.specs.run.Machine.{BlockId}
use Rattle.sem_run.specs.run.Host.{Here, made, beyond}
use Rattle.pt_host.specs.declared.classes.Base.{Base}
use Rattle.pt_host.specs.declared.classes.Base.TheVariants.{On, Unavailable, NoBase}
use Rattle.pt_host.specs.declared.places.TheConstants.{BASE_EXCEPTION, OBJECT, RUNTIME_ERROR, TYPE_ERROR}
use Rattle.pt_host.specs.World.{Stores, CodeFacts, Program, Allotted, allot, class_variable, with_objects}
use Rattle.pt_host.specs.Trees.{answer_with}
use Rattle.pt_host.specs.Variables.{cell_number, cell_value, free_number}
use Rattle.pt_host.specs.Errors.{raise_saying}
use Rattle.pt_host.specs.Calls.{instance, new_object, call_super, number_of}
use Rattle.pt_host.specs.Classes.{base_by, base_of, own_names, bound_entries, class_object, class_cells, class_made, class_on, class_by, cell_if, class_from, class_block, make_class, next_cell}
use Rattle.pt_host.specs.Supers.{class_around, value_here, first_value, may_have_super, super_object, super_by, super_of, make_super}
use Rattle.pt_host.specs.Sound.{AllWithin, AllotsSound, CellsWithin, EndWithin, IsSoundFrom, IsWithinIf, KeepsSound, NamesWithin}
use Rattle.pt_host.proofs.ArgumentsSound.{BindingsWithin}
use Rattle.pt_host.proofs.FunctionsSound.{firsts-within, new-within, type-error}
use Rattle.pt_host.proofs.VariablesSound.{cell-put, cell-there, cells-both, named-within}
use Rattle.pt_host.proofs.Within.{allot-sound, at-least, class-stays, error-fits, given-sound, heap-grows, raise-text-sound, value-below}

-- the names of a class
module _ (h : List Object) where
  first-bound-within : (x : Name) (o : Option Value) (bs : List Binding) → IsWithinIf h o → BindingsWithin h bs → BindingsWithin h (bound_first x o bs)
  first-bound-within x None bs w u = u
  first-bound-within x (Some v) bs w u = (w, u)

  bindings-of-within : (ns : Named) → NamesWithin h ns → BindingsWithin h (bindings_of ns)
  bindings-of-within [] w = tt
  bindings-of-within (e ∷ ns) w = first-bound-within e.0 e.1 (bindings_of ns) w.0 (bindings-of-within ns w.1)

  own-within : (locals : List Name) (ns : Named) → NamesWithin h ns → NamesWithin h (own_names locals ns)
  own-within locals [] w = tt
  own-within locals (e ∷ ns) w = by (not (is_among locals e.0)) (own-within locals ns w.1)
    where
      by : (b : Bool) → NamesWithin h (own_names locals ns) → NamesWithin h (if b then e ∷ own_names locals ns else own_names locals ns)
      by true rest = (w.0, rest)
      by false rest = rest

  entries-within : (es : List Entry) (bs : List Binding) → AreWithin h es → BindingsWithin h bs → AreWithin h (bound_entries es bs)
  entries-within es [] w u = w
  entries-within es (b ∷ bs) w u =
      entries-within (put (name_codes b.name) value.None b.value es) bs (put-within h (name_codes b.name) value.None b.value es tt u.0 w) u.1

  class-fits : (facts : CodeFacts) (base : ObjId) (ns : Named) → IsClassAt h base.0 → NamesWithin h ns → Fits h (length h) (class_object facts base ns)
  class-fits facts base ns k w =
      let bs : List Binding = bindings_of (own_names facts.locals ns) in
      let es : List Entry = bound_entries [] bs in
      record {
        places =
            both-below (length h) (base.0 ∷ []) (entry_places es) (one-below (length h) base.0 (class-within h base.0 k))
            (entries-below h es (entries-within [] bs tt (bindings-of-within (own_names facts.locals ns) (own-within facts.locals ns w))));
        classes = (class-within h base.0 k, k);
      }

  super-fits : (id : ObjId) (v : Value) → IsClassAt h id.0 → IsWithin h v → Fits h (length h) (super_object id v)
  super-fits id v k w = record {
    places = both-below (length h) (id.0 ∷ []) (place_of v) (one-below (length h) id.0 (class-within h id.0 k)) (value-below h v w);
    classes = k;
  }

  pub instance-fits : (e : Bool) (id : ObjId) (vs : List Value) → IsClassAt h id.0 → AllWithin h vs → Fits h (length h) (instance e id vs)
  instance-fits true id vs k w = error-fits h id vs None None k w tt tt
  instance-fits false id vs k w = record { places = one-below (length h) id.0 (class-within h id.0 k); classes = k }

-- what a class is made on is one
object-class : (h : List Object) → IsSound start_objects h → IsClassAt h OBJECT.0
object-class h s = class-stays h OBJECT.0 s (_, refl)

base-by-there : (h : List Object) (id : ObjId) (o : Option Object) (base : ObjId) → slice_get h id.0 ≡ o → base_by h id o ≡ On base → IsClassAt h base.0
base-by-there h id (Some (object.Class c)) base at e = by (c.scripted || (id.0 == OBJECT.0 || derives h BASE_EXCEPTION id)) e
  where
    by : (b : Bool) → (if b then On id else Unavailable) ≡ On base → IsClassAt h base.0
    by true f = let same : id ≡ base = cc in subst (λ i. IsClassAt h i.0) same (c, at)
    by false f = absurd cc
base-by-there h id o base at e = absurd cc

base-there : (h : List Object) (v : Value) (base : ObjId) → IsSound start_objects h → base_of h v ≡ On base → IsClassAt h base.0
base-there h value.None base s e = let same : OBJECT ≡ base = cc in subst (λ i. IsClassAt h i.0) same (object-class h s)
base-there h (value.Obj id) base s e = base-by-there h id (slice_get h id.0) base refl e
base-there h v base s e = absurd cc

module _ (n : ℕ) (st : Stores) (r : Here Value) (s : IsSoundFrom n st) (active : IsWithinIf st.world.heap r.active) where
  abbrev heap : List Object
  heap = st.world.heap

  made-sound : (c : Option ℕ) (a : Allotted) → AllotsSound heap a → KeepsSound IsWithin n (class_made c a st)
  made-sound c (made v k) m = by c
    where
      grown : IsSoundFrom n (with_objects k st)
      grown = heap-grows n n st k s m.1 m.0 (omega (arith, s.objects, m.0))

      by : (c : Option ℕ) → KeepsSound IsWithin n (class_made c (made v k) st)
      by None = (grown, m.2)
      by (Some i) = (cell-put n (with_objects k st) grown (Some i) (Some v) m.2, m.2)
  made-sound c (beyond what) m = tt

  class-on-sound : (b : Base) (facts : CodeFacts) (c : Option ℕ) (ns : Named) → ((base : ObjId) → b ≡ On base → IsClassAt heap base.0) → NamesWithin heap ns
      → KeepsSound IsWithin n (class_on b facts c ns r st)
  class-on-sound (On base) facts c ns there w =
      made-sound c (allot (class_object facts base ns) heap)
      (allot-sound heap (class_object facts base ns) s.heap (class-fits heap facts base ns (there base refl) w))
  class-on-sound Unavailable facts c ns there w = tt
  class-on-sound NoBase facts c ns there w = type-error n st r s active (codes "bad argument")

  class-by-sound : (e : End Value) (base : Value) (facts : CodeFacts) (c : Option ℕ) (ns : Named) → EndWithin heap e → NamesWithin heap ns
      → KeepsSound IsWithin n (class_by e base facts c ns r st)
  class-by-sound (gave v) base facts c ns e w = class-on-sound (base_of heap base) facts c ns (λ b is. base-there heap base b s.heap is) w
  class-by-sound (left_by v) base facts c ns e w = (s, e)

  pub new-object-sound : (o : Option (List Value)) → KeepsSound IsWithin n (new_object o st)
  new-object-sound None = tt
  new-object-sound (Some []) =
      given-sound n st (allot (instance false OBJECT []) heap) s
      (allot-sound heap (instance false OBJECT []) s.heap (instance-fits heap false OBJECT [] (object-class heap s.heap) tt))
  new-object-sound (Some (v ∷ vs)) = tt

  -- the class around a block, and the first parameter of that
  around-within : (facts : CodeFacts) → IsWithinIf heap (class_around facts st)
  around-within facts = by (is_among facts.frees class_variable)
    where
      by : (b : Bool) → IsWithinIf heap (if b then cell_value (free_number class_variable st.names) st.world else None)
      by true = cell-there n st s (free_number class_variable st.names)
      by false = tt

  here-within : (facts : CodeFacts) (x : Name) → IsWithinIf heap (value_here facts st x)
  here-within facts x = by (is_among facts.cells x)
    where
      by : (b : Bool) → IsWithinIf heap (if b then cell_value (cell_number x st.names) st.world else name_value x st.names.values)
      by true = cell-there n st s (cell_number x st.names)
      by false = named-within heap x st.names.values s.names

  first-within : (facts : CodeFacts) (xs : List Name) → IsWithinIf heap (first_value facts st xs)
  first-within facts [] = tt
  first-within facts (x ∷ xs) = here-within facts x

  no-super : KeepsSound {A = Value} IsWithin n (raise_saying RUNTIME_ERROR (codes "bad argument") r st)
  no-super = raise-text-sound IsWithin n st RUNTIME_ERROR (codes "bad argument") r s (_, refl) active

  super-by-sound : (id : ObjId) (o : Option Object) (v : Value) → slice_get heap id.0 ≡ o → IsWithin heap v → KeepsSound IsWithin n (super_by id o v r st)
  super-by-sound id (Some (object.Class c)) v at w = by (may_have_super heap (value.Obj id) v)
    where
      by : (b : Bool) → KeepsSound IsWithin n (if b then answer_with (allot (super_object id v) heap) st else raise_saying TYPE_ERROR (codes "bad argument") r st)
      by true = given-sound n st (allot (super_object id v) heap) s (allot-sound heap (super_object id v) s.heap (super-fits heap id v (c, at) w))
      by false = type-error n st r s active (codes "bad argument")
  super-by-sound id o v at w = no-super

  super-of-sound : (c v : Option Value) → IsWithinIf heap v → KeepsSound IsWithin n (super_of c v r st)
  super-of-sound (Some (value.Obj id)) (Some v) w = super-by-sound id (slice_get heap id.0) v refl w
  super-of-sound (Some (value.Obj id)) None w = no-super
  super-of-sound c v w = no-super

  super-sound : (program : Program) → KeepsSound IsWithin n (make_super program r st)
  super-sound program =
      let facts : CodeFacts = program.facts r.block in
      super-of-sound (class_around facts st) (first_value facts st facts.params.plain) (first-within facts facts.params.plain)

  pub call-super-sound : (program : Program) (o : Option (List Value)) → KeepsSound IsWithin n (call_super program o r st)
  call-super-sound program None = tt
  call-super-sound program (Some []) = super-sound program
  call-super-sound program (Some (v ∷ vs)) = tt

-- the block of a class runs in names that are unbound
own-cell-within : (h : List Object) (b : Bool) → CellsWithin h (if b then None ∷ [] else [])
own-cell-within h true = (tt, tt)
own-cell-within h false = tt

class-sound : (n : ℕ) (st : Stores) (r : Here Value) → IsSoundFrom n st → IsWithinIf st.world.heap r.active → (b : BlockId) (facts : CodeFacts) (base : Value) (ns : List ℕ)
    → KeepsSound IsWithin n (class_from b facts base ns r st)
class-sound n st r s active b facts base ns =
    let heap : List Object = st.world.heap in (
      record {
        objects = s.objects;
        heap = s.heap;
        globals = s.globals;
        cells =
            cells-both heap (st.world.cells ++ map (λ x. name_value x []) facts.cells) (class_cells facts st.world)
            (cells-both heap st.world.cells (map (λ x. name_value x []) facts.cells) s.cells (new-within heap facts [] tt facts.cells))
            (own-cell-within heap (is_among facts.frees class_variable));
        names = s.names;
      },
      firsts-within heap facts [] tt facts.locals,
      λ x st1 s1 e.
          class-by-sound n st1 r (at-least n (length heap) st1 s.objects s1) (if-grows heap st1.world.heap r.active s1.objects active) x.end base facts
          (cell_if facts (next_cell facts st.world)) x.names.values e.0 e.1,
    )

pub make-class-sound : (n : ℕ) (st : Stores) (r : Here Value) → IsSoundFrom n st → IsWithinIf st.world.heap r.active → (program : Program) (b : ℕ) (vs : List Value)
    → KeepsSound IsWithin n (make_class program b vs r st)
make-class-sound n st r s active program b [] = tt
make-class-sound n st r s active program b (base ∷ vs) =
    class-sound n st r s active (class_block r.block.hidden b) (program.facts (class_block r.block.hidden b)) base (map number_of vs)
