-- What the arguments of a call name lies in the heap, those that are spread too.
use Rattle.std.proofs.Common.{◌≡◌, ◌≤◌, ◌++◌, ℕ, Bool, true, false, List, [], ◌∷◌, length, map, Option, Some, if◌then◌else◌, refl}
use Rattle.std.specs.List.{filter}
use Rattle.std.proofs.lemmas.List.Elements.{Contains-append_left, Contains-append_right}
use Rattle.sem_control.specs.control.Turn as T
use Rattle.sem_control.specs.control.Turn.{Role}
use Rattle.pt_heap.specs.declared.value.Value.{Value}
use Rattle.pt_heap.specs.declared.view.Binding.{Binding}
use Rattle.pt_heap.specs.declared.object.Object.{Object}
use Rattle.pt_heap.specs.declared.object.Object.TheVariants as object
use Rattle.pt_heap.specs.Entries.{Entry}
use Rattle.pt_heap.specs.Sound.{place_of, binding_places, IsSound, IsWithin}
use Rattle.pt_builtin_objects.specs.Start.{start_objects}
use Rattle.pt_content.specs.pt_attrs.Look.{object_of}
use Rattle.pt_prims.specs.Laws.{AllWithin}
use Rattle.pt_prims.proofs.ContainerLemmas.{dict-entries}
use Rattle.pt_prims.proofs.EntryLemmas.{AreWithin}
use Rattle.pt_prims.proofs.Places.{all-append, below-values, both-below, none-below, object-below, within-grows, Below}
use Rattle.pt_host.specs.Arguments.{entry_argument, items_in, named_argument, named_arguments, named_in, plain_argument, plain_arguments}
use Rattle.pt_host.proofs.Within.{value-below, below-value}

-- the values of named arguments, or of defaults
abbrev pub BindingsWithin : List Object → List Binding → Type 0
BindingsWithin h [] = Unit {0}
BindingsWithin h (b ∷ bs) = IsWithin h b.value × BindingsWithin h bs

pub bindings-below : (h : List Object) (bs : List Binding) → BindingsWithin h bs → Below (length h) (binding_places bs)
bindings-below h [] w = none-below (length h)
bindings-below h (b ∷ bs) w = both-below (length h) (place_of b.value) (binding_places bs) (value-below h b.value w.0) (bindings-below h bs w.1)

pub below-bindings : (h : List Object) (bs : List Binding) → Below (length h) (binding_places bs) → BindingsWithin h bs
below-bindings h [] b = tt
below-bindings h (x ∷ bs) b = (
  below-value h x.value (λ p c. b p (Contains-append_left (place_of x.value) (binding_places bs) p c)),
  below-bindings h bs (λ p c. b p (Contains-append_right (place_of x.value) (binding_places bs) p c)),
)

pub bindings-grow : (h k : List Object) (bs : List Binding) → length h ≤ length k → BindingsWithin h bs → BindingsWithin k bs
bindings-grow h k [] l w = tt
bindings-grow h k (b ∷ bs) l w = (within-grows h k b.value l w.0, bindings-grow h k bs l w.1)

bindings-append : (h : List Object) (bs cs : List Binding) → BindingsWithin h bs → BindingsWithin h cs → BindingsWithin h (bs ++ cs)
bindings-append h [] cs w u = u
bindings-append h (b ∷ bs) cs w u = (w.0, bindings-append h bs cs w.1 u)

pub filtered-within : (h : List Object) (p : Binding → Bool) (bs : List Binding) → BindingsWithin h bs → BindingsWithin h (filter p bs)
filtered-within h p [] w = tt
filtered-within h p (b ∷ bs) w = by (p b) (filtered-within h p bs w.1)
  where
    by : (c : Bool) → BindingsWithin h (filter p bs) → BindingsWithin h (if c then b ∷ filter p bs else filter p bs)
    by true rest = (w.0, rest)
    by false rest = rest

entries-named : (h : List Object) (es : List Entry) → AreWithin h es → BindingsWithin h (map (entry_argument h) es)
entries-named h [] w = tt
entries-named h (e ∷ es) w = (w.1, entries-named h es w.2)

module _ (h : List Object) (s : IsSound start_objects h) where
  items-within : (v : Value) (o : Option Object) → object_of h v ≡ o → AllWithin h (items_in o)
  items-within v (Some (object.Tuple vs)) e = below-values h vs (object-below h v (object.Tuple vs) s e)
  items-within v o e = tt

  named-in-within : (v : Value) (o : Option Object) → object_of h v ≡ o → BindingsWithin h (named_in h o)
  named-in-within v (Some (object.Dict es)) e = entries-named h es (dict-entries h s v es e)
  named-in-within v o e = tt

  plain-argument-within : (r : Role) (v : Value) → IsWithin h v → AllWithin h (plain_argument h r v)
  plain-argument-within T.positional v w = (w, tt)
  plain-argument-within T.spread v w = items-within v (object_of h v) refl
  plain-argument-within r v w = tt

  named-argument-within : (r : Role) (v : Value) → IsWithin h v → BindingsWithin h (named_argument h r v)
  named-argument-within (T.named x) v w = (w, tt)
  named-argument-within T.spread_named v w = named-in-within v (object_of h v) refl
  named-argument-within r v w = tt

  pub plain-within : (rs : List Role) (vs : List Value) → AllWithin h vs → AllWithin h (plain_arguments h rs vs)
  plain-within [] vs w = tt
  plain-within (r ∷ rs) [] w = tt
  plain-within (r ∷ rs) (v ∷ vs) w =
      all-append h (plain_argument h r v) (plain_arguments h rs vs) (plain-argument-within r v w.0) (plain-within rs vs w.1)

  pub named-args-within : (rs : List Role) (vs : List Value) → AllWithin h vs → BindingsWithin h (named_arguments h rs vs)
  named-args-within [] vs w = tt
  named-args-within (r ∷ rs) [] w = tt
  named-args-within (r ∷ rs) (v ∷ vs) w =
      bindings-append h (named_argument h r v) (named_arguments h rs vs) (named-argument-within r v w.0) (named-args-within rs vs w.1)
