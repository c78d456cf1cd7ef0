-- What a value of a sound heap has as an attribute lies there.
use Rattle.std.proofs.Common.{◌≡◌, ◌+◌, ℕ, zero, suc, Bool, true, false, List, [], ◌∷◌, ◌++◌, Option, None, Some, length, codes, slice_get, if◌then◌else◌, refl, subst, arith}
use Rattle.std.specs.Str.{bytes_eq}
use Rattle.std.proofs.lemmas.List.Elements.{Contains-append_left, Contains-append_right}
use Rattle.pt_base.specs.declared.numbers.ObjId.{ObjId}
use Rattle.pt_heap.specs.declared.value.Value.{Value}
use Rattle.pt_heap.specs.declared.value.Value.TheVariants as value
use Rattle.pt_heap.specs.declared.object.Class.{Class as ClassObject}
use Rattle.pt_heap.specs.declared.object.Error.{Error}
use Rattle.pt_heap.specs.declared.object.Module.TheVariants.{Sys}
use Rattle.pt_heap.specs.declared.object.Object.{Object}
use Rattle.pt_heap.specs.declared.object.Object.TheVariants as object
use Rattle.pt_heap.specs.Entries.{found}
use Rattle.pt_heap.specs.Sound.{entry_places, place_in, place_of, places_in, places_of, IsSound, IsWithin}
use Rattle.pt_builtin_objects.specs.Start.{start_objects}
use Rattle.pt_content.specs.pt_attrs.Look.{above, as_found, as_method, from_base, is_function_object, looked_up, object_found, object_of, own_or, super_found, value_found}
use Rattle.pt_content.specs.pt_attrs.Unbuilt.{is_unbuilt}
use Rattle.pt_content.specs.pt_attrs.declared.look.Found.{Found}
use Rattle.pt_content.specs.pt_attrs.declared.look.Found.TheVariants as found_as
use Rattle.pt_content.specs.pt_attrs.pt_dicts.Chain.{class_in, class_value, found_along, found_in, or_base}
use Rattle.pt_content.specs.pt_attrs.pt_dicts.Keys.{name_codes}
use Rattle.pt_content.specs.declared.method_name.MethodName.{MethodName}
use Rattle.pt_methods.specs.declared.attribute.Attribute.{Attribute}
use Rattle.pt_methods.specs.declared.attribute.Attribute.TheVariants as attribute
use Rattle.pt_methods.specs.declared.attribute.TheConstants.{EXIT}
use Rattle.pt_methods.specs.Attributes.{attribute_by, attribute_of, bound_unless, function_name, held_attribute, is_for_class, is_later, object_or_none, own_attribute, receiver_by, receiver_of}
use Rattle.pt_methods.specs.Names.{listed}
use Rattle.pt_prims.specs.Laws.{AllWithin}
use Rattle.pt_prims.proofs.Places.{below-value, below-values, object-below, start-within, Below}
use Rattle.pt_prims.proofs.EntryLemmas.{found-within, AreWithin}
use Rattle.pt_prims.proofs.ContainerLemmas.{below-entries}

abbrev pub AttributeWithin : List Object → Attribute → Type 0
AttributeWithin h (attribute.Held v) = IsWithin h v
AttributeWithin h (attribute.Bound f) = IsWithin h f
AttributeWithin h a = Unit {0}

abbrev pub FoundWithin : List Object → Option Found → Type 0
FoundWithin h (Some (found_as.Plain v)) = IsWithin h v
FoundWithin h (Some (found_as.Bound f)) = IsWithin h f
FoundWithin h o = Unit {0}

-- what a class and its bases hold, and what instances hold
module _ (h : List Object) (s : IsSound start_objects h) (k : List ℕ) where
  class-names : (p : ℕ) (c : ClassObject) → class_in (slice_get h p) ≡ Some c → AreWithin h c.names
  class-names p c e = by (slice_get h p) refl e
    where
      by : (o : Option Object) → slice_get h p ≡ o → class_in o ≡ Some c → AreWithin h c.names
      by (Some (object.Class d)) at f =
          let same : d ≡ c = cc in
          subst (λ x. AreWithin h x.names) same
          (below-entries h d.names (λ q m. (s.fits p (object.Class d) at).places q (Contains-append_right (place_in d.base) (entry_places d.names) q m)))
      by o at f = absurd cc

  base-within : (n : ℕ) (base : Option ObjId) (v : Value) → ((p : ℕ) → found_along h n k p ≡ Some v → IsWithin h v)
      → or_base (found_along h n k) base None ≡ Some v → IsWithin h v
  base-within n (Some id) v more e = more id.0 e
  base-within n None v more e = absurd cc

  own-name-within : (n p : ℕ) (c : ClassObject) (o : Option Value) (v : Value) → class_in (slice_get h p) ≡ Some c → found k c.names ≡ o
      → ((q : ℕ) → found_along h n k q ≡ Some v → IsWithin h v) → or_base (found_along h n k) c.base o ≡ Some v → IsWithin h v
  own-name-within n p c (Some w) v at f more e = let same : w ≡ v = cc in subst (λ x. IsWithin h x) same (found-within h k c.names w f (class-names p c at))
  own-name-within n p c None v at f more e = base-within n c.base v more e

  in-class-within : (n p : ℕ) (o : Option ClassObject) (v : Value) → class_in (slice_get h p) ≡ o → ((q : ℕ) → found_along h n k q ≡ Some v → IsWithin h v)
      → found_in (found_along h n k) k o ≡ Some v → IsWithin h v
  in-class-within n p None v at more e = absurd cc
  in-class-within n p (Some c) v at more e = own-name-within n p c (found k c.names) v at refl more e

  along-within : (n p : ℕ) (v : Value) → found_along h n k p ≡ Some v → IsWithin h v
  unfolding found_along
  along-within zero p v e = absurd cc
  along-within (suc n) p v e = in-class-within n p (class_in (slice_get h p)) v refl (λ q f. along-within n q v f) e

  as-found-within : (o : Option Value) → ((v : Value) → o ≡ Some v → IsWithin h v) → FoundWithin h (as_found o)
  as-found-within None w = tt
  as-found-within (Some v) w = w v refl

  as-method-within : (o : Option Value) → ((v : Value) → o ≡ Some v → IsWithin h v) → FoundWithin h (as_method h o)
  as-method-within None w = tt
  as-method-within (Some v) w = by (is_function_object (object_of h v))
    where
      by : (b : Bool) → FoundWithin h (if b then Some (found_as.Bound v) else Some (found_as.Plain v))
      by true = w v refl
      by false = w v refl

  pub class-method-within : (id : ObjId) → FoundWithin h (as_method h (class_value h k id))
  class-method-within id = as-method-within (class_value h k id) (λ v e. along-within (id.0 + 1) id.0 v e)

  own-or-within : (o : Option Value) (f : Option Found) → ((v : Value) → o ≡ Some v → IsWithin h v) → FoundWithin h f → FoundWithin h (own_or o f)
  own-or-within (Some v) f w i = w v refl
  own-or-within None f w i = i

  from-base-within : (o : Option ObjId) → FoundWithin h (from_base h k o)
  from-base-within None = tt
  from-base-within (Some base) = class-method-within base

  above-within : (o : Option ClassObject) → FoundWithin h (above h k o)
  above-within None = tt
  above-within (Some c) = from-base-within c.base

  object-found-within : (id : ObjId) (o : Option Object) → slice_get h id.0 ≡ o → FoundWithin h (object_found h k id o)
  object-found-within id (Some (object.Class c)) e = as-found-within (class_value h k id) (λ v f. along-within (id.0 + 1) id.0 v f)
  object-found-within id (Some (object.Instance x)) e =
      let own : AreWithin h x.names =
      below-entries h x.names (λ p c. (s.fits id.0 (object.Instance x) e).places p (Contains-append_right (x.class.0 ∷ []) (entry_places x.names) p c)) in
      own-or-within (found k x.names) (as_method h (class_value h k x.class)) (λ v f. found-within h k x.names v f own) (class-method-within x.class)
  object-found-within id (Some (object.Error x)) e =
      let own : AreWithin h x.names =
      below-entries h x.names (λ p c. (s.fits id.0 (object.Error x) e).places p
      (Contains-append_right (x.class.0 ∷ places_in x.args ++ place_in x.cause ++ place_in x.context) (entry_places x.names) p c)) in
      own-or-within (found k x.names) (as_method h (class_value h k x.class)) (λ v f. found-within h k x.names v f own) (class-method-within x.class)
  object-found-within id (Some (object.Super x)) e = above-within (class_in (slice_get h x.class.0))
  object-found-within id o e = tt

  value-found-within : (v : Value) → FoundWithin h (value_found h k v)
  value-found-within (value.Obj id) = object-found-within id (slice_get h id.0) refl
  value-found-within v = tt

looked-within : (h : List Object) → IsSound start_objects h → (v : Value) (x : List ℕ) → FoundWithin h (looked_up h v x)
looked-within h s v x = by (is_unbuilt (object_of h v) x)
  where
    by : (b : Bool) → FoundWithin h (if b then Some found_as.Unbuilt else value_found h (name_codes x) v)
    by true = tt
    by false = value-found-within h s (name_codes x) v

module _ (h : List Object) (s : IsSound start_objects h) (x : List ℕ) where
  object-within : (o : Option ObjId) → Below (length h) (place_in o) → IsWithin h (object_or_none o)
  object-within None b = tt
  object-within (Some id) b = b id.0 (0, omega arith, refl)

  -- the cause and the context of an exception are among the places that it names
  chain-within : (y : Error) → Below (length h) (places_of (object.Error y)) → IsWithin h (object_or_none y.cause) × IsWithin h (object_or_none y.context)
  chain-within y b = (
    object-within y.cause (λ p c. all p (Contains-append_left ((places_in y.args ++ place_in y.cause) ++ place_in y.context) (entry_places y.names) p
        (Contains-append_left (places_in y.args ++ place_in y.cause) (place_in y.context) p (Contains-append_right (places_in y.args) (place_in y.cause) p c)))),
    object-within y.context (λ p c. all p (Contains-append_left ((places_in y.args ++ place_in y.cause) ++ place_in y.context) (entry_places y.names) p
        (Contains-append_right (places_in y.args ++ place_in y.cause) (place_in y.context) p c))),
  )
    where
      all : Below (length h) (((places_in y.args ++ place_in y.cause) ++ place_in y.context) ++ entry_places y.names)
      all p c = b p (Contains-append_right (y.class.0 ∷ []) (((places_in y.args ++ place_in y.cause) ++ place_in y.context) ++ entry_places y.names) p c)

  held-within : (v : Value) (o : Option Object) → object_of h v ≡ o → AttributeWithin h (held_attribute x o)
  held-within v (Some (object.Error y)) e = by (bytes_eq x (codes "__cause__")) (bytes_eq x (codes "__context__")) (bytes_eq x (codes "args"))
    where
      within : IsWithin h (object_or_none y.cause) × IsWithin h (object_or_none y.context)
      within = chain-within y (object-below h v (object.Error y) s e)

      by : (a b c : Bool)
          → AttributeWithin h (if a then attribute.Held (object_or_none y.cause) else (if b then attribute.Held (object_or_none y.context) else (if c then attribute.Arguments else attribute.Missing)))
      by true b c = within.0
      by false true c = within.1
      by false false true = tt
      by false false false = tt
  held-within v (Some (object.Function f)) e = by (bytes_eq x (codes "__name__")) f.hidden
    where
      by : (a b : Bool) → AttributeWithin h (if a then function_name b else attribute.Missing)
      by true true = tt
      by true false = tt
      by false b = tt
  held-within v (Some (object.Class c)) e = by (bytes_eq x (codes "__name__"))
    where
      by : (b : Bool) → AttributeWithin h (if b then attribute.NameOf else attribute.Missing)
      by true = tt
      by false = tt
  held-within v (Some (object.Module Sys)) e = by (bytes_eq x (codes "exit"))
    where
      by : (b : Bool) → AttributeWithin h (if b then attribute.Held (value.Obj EXIT) else attribute.Missing)
      by true = start-within h 64 (object.Builtin (record { number = 17; receiver = None })) s refl
      by false = tt
  held-within v o e = tt

  own-within : (v : Value) (o : Option Object) (m : Option MethodName) → object_of h v ≡ o → AttributeWithin h (own_attribute x o m)
  own-within v o (Some m) e = tt
  own-within v o None e = by (is_later x o)
    where
      by : (b : Bool) → AttributeWithin h (if b then attribute.Unbuilt else held_attribute x o)
      by true = tt
      by false = held-within v o e

  unless-within : (b : Bool) (f : Value) → IsWithin h f → AttributeWithin h (bound_unless b f)
  unless-within true f w = w
  unless-within false f w = w

  by-found-within : (v : Value) (o : Option Object) (f : Option Found) → object_of h v ≡ o → FoundWithin h f → AttributeWithin h (attribute_by h x o f)
  by-found-within v o (Some (found_as.Plain u)) e w = w
  by-found-within v o (Some (found_as.Bound f)) e w = unless-within (is_for_class h o) f w
  by-found-within v o (Some found_as.Unbuilt) e w = tt
  by-found-within v o None e w = own-within v o (listed x o) e

pub attribute-within : (h : List Object) → IsSound start_objects h → (v : Value) (x : List ℕ) → AttributeWithin h (attribute_of h v x)
attribute-within h s v x = by-found-within h s x v (object_of h v) (looked_up h v x) refl (looked-within h s v x)

pub receiver-within : (h : List Object) → IsSound start_objects h → (v : Value) → IsWithin h v → IsWithin h (receiver_of h v)
receiver-within h s v w = by (object_of h v) refl
  where
    by : (o : Option Object) → object_of h v ≡ o → IsWithin h (receiver_by v o)
    by (Some (object.Super x)) e =
        below-value h x.receiver (λ p c. object-below h v (object.Super x) s e p (Contains-append_right (x.class.0 ∷ []) (place_of x.receiver) p c))
    by o e = w

pub error-arguments : (h : List Object) → IsSound start_objects h → (v : Value) (x : Error) → object_of h v ≡ Some (object.Error x) → AllWithin h x.args
error-arguments h s v x e =
    below-values h x.args (λ p c. object-below h v (object.Error x) s e p
    (Contains-append_right (x.class.0 ∷ []) (((places_in x.args ++ place_in x.cause) ++ place_in x.context) ++ entry_places x.names) p
    (Contains-append_left ((places_in x.args ++ place_in x.cause) ++ place_in x.context) (entry_places x.names) p
    (Contains-append_left (places_in x.args ++ place_in x.cause) (place_in x.context) p (Contains-append_left (places_in x.args) (place_in x.cause) p c)))))
