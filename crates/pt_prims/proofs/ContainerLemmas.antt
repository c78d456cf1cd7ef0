-- What operations on dictionaries and sets give of values of a sound heap lies there.
use Rattle.std.proofs.Common.{◌≡◌, ◌++◌, ℕ, Bool, true, false, List, [], ◌∷◌, Option, None, Some, Result, Ok, Err, is_some, length, if◌then◌else◌, refl, subst, arith}
use Rattle.std.proofs.lemmas.List.{length-append}
use Rattle.pt_base.specs.declared.numbers.ObjId.{ObjId}
use Rattle.pt_base.specs.declared.operators.BinOp.{BinOp}
use Rattle.pt_base.specs.declared.what.What.TheVariants as what
use Rattle.pt_heap.specs.declared.dict.DictErr.{DictErr}
use Rattle.pt_heap.specs.declared.value.Value.{Value}
use Rattle.pt_heap.specs.declared.value.Value.TheVariants as value
use Rattle.pt_heap.specs.declared.object.Object.{Object}
use Rattle.pt_heap.specs.declared.object.Object.TheVariants as object
use Rattle.pt_heap.specs.Entries.{Entry, found, put, without}
use Rattle.pt_heap.specs.Sound.{entry_places, place_of, IsSound, IsWithin}
use Rattle.pt_builtin_objects.specs.Start.{start_objects}
use Rattle.pt_content.specs.pt_attrs.pt_dicts.declared.key.KeyErr.{KeyErr}
use Rattle.pt_content.specs.pt_attrs.pt_dicts.declared.key.KeyErr.TheVariants as refused
use Rattle.pt_content.specs.pt_attrs.pt_dicts.Combine.{combined, limited}
use Rattle.pt_content.specs.pt_attrs.pt_dicts.Keys.{coded, depth_limit, key_value}
use Rattle.pt_content.specs.pt_attrs.Look.{object_of}
use Rattle.pt_content.specs.declared.content.Content.{Content}
use Rattle.pt_content.specs.declared.content.Content.TheVariants as content
use Rattle.pt_methods.specs.pt_mappings.declared.keyed.Keyed.{Keyed}
use Rattle.pt_methods.specs.pt_mappings.declared.keyed.Keyed.TheVariants as keyed
use Rattle.pt_methods.specs.pt_mappings.Keyed.{contains_by, key_in, keyed_by, missing, nothing, or_missing, refusal}
use Rattle.pt_methods.specs.pt_mappings.Entering as entering
use Rattle.pt_methods.specs.pt_mappings.Items as dictionary
use Rattle.pt_methods.specs.pt_sets.Members as set
use Rattle.pt_methods.specs.pt_sets.Operators.{changed_set, combined_content, combined_in_place, new_set}
use Rattle.pt_prims.specs.Laws.{AllWithin}
use Rattle.pt_prims.proofs.Places.{below-value, both-below, none-below, object-below, value-below, within-grows, Below}
use Rattle.pt_prims.proofs.EntryLemmas.{combined-within, found-within, put-within, without-within, AreWithin}
use Rattle.pt_prims.proofs.SoundLemmas.{IsWithinHeap}
use Rattle.std.proofs.lemmas.List.Elements.{Contains-append_left, Contains-append_right}

pub entries-below : (h : List Object) (es : List Entry) → AreWithin h es → Below (length h) (entry_places es)
entries-below h [] w = none-below (length h)
entries-below h (e ∷ es) w =
    both-below (length h) (place_of e.first ++ place_of e.value) (entry_places es)
    (both-below (length h) (place_of e.first) (place_of e.value) (value-below h e.first w.0) (value-below h e.value w.1))
    (entries-below h es w.2)

pub below-entries : (h : List Object) (es : List Entry) → Below (length h) (entry_places es) → AreWithin h es
below-entries h [] b = tt
below-entries h (e ∷ es) b =
    let own : Below (length h) (place_of e.first ++ place_of e.value) = λ p c. b p (Contains-append_left (place_of e.first ++ place_of e.value) (entry_places es) p c) in (
      below-value h e.first (λ p c. own p (Contains-append_left (place_of e.first) (place_of e.value) p c)),
      below-value h e.value (λ p c. own p (Contains-append_right (place_of e.first) (place_of e.value) p c)),
      below-entries h es (λ p c. b p (Contains-append_right (place_of e.first ++ place_of e.value) (entry_places es) p c)),
    )

-- what stands in place of a key, or of entries
abbrev pub KeyedIsWithin : List Object → Keyed → Type 0
KeyedIsWithin h (keyed.Key k) = Unit {0}
KeyedIsWithin h (keyed.Refused c) = IsWithinHeap h c

abbrev pub ResultIsWithin : List Object → Result (List Entry) Content → Type 0
ResultIsWithin h (Ok es) = AreWithin h es
ResultIsWithin h (Err c) = IsWithinHeap h c

refusal-within : (h : List Object) (e : KeyErr) → IsWithinHeap h (refusal h e)
refusal-within h (refused.Unhashable c) = (_, refl)
refusal-within h (refused.UserHash c) = tt
refusal-within h refused.Deep = (_, refl)
refusal-within h refused.Memory = tt

pub key-within : (h : List Object) (v : Value) → KeyedIsWithin h (key_in h v)
key-within h v = by (coded (key_value h depth_limit v))
  where
    by : (r : Result (List ℕ) KeyErr) → KeyedIsWithin h (keyed_by h r)
    by (Ok k) = tt
    by (Err e) = refusal-within h e

module _ (h : List Object) (s : IsSound start_objects h) where
  behind-nothing : (v : Value) → IsWithin h v → IsWithin (h ++ []) v
  behind-nothing v w = within-grows h (h ++ []) v (omega (arith, length-append h [])) w

  pub dict-entries : (v : Value) (es : List Entry) → object_of h v ≡ Some (object.Dict es) → AreWithin h es
  dict-entries v es e = below-entries h es (object-below h v (object.Dict es) s e)

  pub set-entries : (v : Value) (es : List Entry) → object_of h v ≡ Some (object.Set es) → AreWithin h es
  set-entries v es e = below-entries h es (object-below h v (object.Set es) s e)

  pub missing-within : (v : Value) → IsWithin h v → IsWithinHeap h (missing v)
  missing-within v w = (tt, tt, ((_, refl), behind-nothing v w))

  pub or-missing-within : (v : Value) (o : Option Value) → IsWithin h v → ((x : Value) → o ≡ Some x → IsWithin h x) → IsWithinHeap h (or_missing v o)
  or-missing-within v (Some x) w f = f x refl
  or-missing-within v None w f = missing-within v w

  contains-within : (es : List Entry) (k : Keyed) → KeyedIsWithin h k → IsWithinHeap h (contains_by es k)
  contains-within es (keyed.Key k) w = tt
  contains-within es (keyed.Refused c) w = w

  -- what a key gets
  pub entry-within : (k : List ℕ) (v x : Value) (es : List Entry) → IsWithin h v → IsWithin h x → AreWithin h es → ResultIsWithin h (entering.with_entry k v x es)
  entry-within k v x es a b w = by (entering.has_room k es)
    where
      by : (c : Bool) → ResultIsWithin h (if c then Ok (put k v x es) else Err (content.Outside what.Length))
      by true = put-within h k v x es a b w
      by false = tt

  entered-by-within : (v x : Value) (es : List Entry) (k : Keyed) → KeyedIsWithin h k → IsWithin h v → IsWithin h x → AreWithin h es → ResultIsWithin h (entering.entered_by v x es k)
  entered-by-within v x es (keyed.Key k) g a b w = entry-within k v x es a b w
  entered-by-within v x es (keyed.Refused c) g a b w = g

  entered-within : (v x : Value) (es : List Entry) → IsWithin h v → IsWithin h x → AreWithin h es → ResultIsWithin h (entering.entered h v x es)
  entered-within v x es a b w = entered-by-within v x es (key_in h v) (key-within h v) a b w

  -- displays
  dict-displayed-within : (r : Result (List Entry) Content) (vs : List Value) → ResultIsWithin h r → AllWithin h vs → IsWithinHeap h (entering.displayed h r vs)
  dict-displayed-within (Err c) vs w a = w
  dict-displayed-within (Ok es) [] w a = entries-below h es w
  dict-displayed-within (Ok es) (v ∷ []) w a = entries-below h es w
  dict-displayed-within (Ok es) (v ∷ x ∷ vs) w a = dict-displayed-within (entering.entered h v x es) vs (entered-within v x es a.0 a.1.0 w) a.1.1

  pub dict-within : (vs : List Value) → AllWithin h vs → IsWithinHeap h (entering.dict_content h vs)
  dict-within vs a = dict-displayed-within (Ok []) vs tt a

  set-displayed-within : (r : Result (List Entry) Content) (vs : List Value) → ResultIsWithin h r → AllWithin h vs → IsWithinHeap h (set.displayed h r vs)
  set-displayed-within (Err c) vs w a = w
  set-displayed-within (Ok es) [] w a = entries-below h es w
  set-displayed-within (Ok es) (v ∷ vs) w a = set-displayed-within (entering.entered h v value.None es) vs (entered-within v value.None es a.0 tt w) a.1

  pub set-within : (vs : List Value) → AllWithin h vs → IsWithinHeap h (set.set_content h vs)
  set-within vs a = set-displayed-within (Ok []) vs tt a

  -- subscripts and membership
  item-by-within : (es : List Entry) (v : Value) (k : Keyed) → KeyedIsWithin h k → IsWithin h v → AreWithin h es → IsWithinHeap h (dictionary.item_by es v k)
  item-by-within es v (keyed.Key k) g a w = or-missing-within v (found k es) a (λ x e. found-within h k es x e w)
  item-by-within es v (keyed.Refused c) g a w = g

  pub dict-item-within : (es : List Entry) (v : Value) → IsWithin h v → AreWithin h es → IsWithinHeap h (dictionary.item_content h es v)
  dict-item-within es v a w = item-by-within es v (key_in h v) (key-within h v) a w

  dict-held-within : (id : ObjId) (r : Result (List Entry) Content) → ResultIsWithin h r → IsWithinHeap h (dictionary.held id nothing r)
  dict-held-within id (Ok es) w = (entries-below h es w, tt, tt)
  dict-held-within id (Err c) w = w

  pub set-item-within : (id : ObjId) (es : List Entry) (v x : Value) → IsWithin h v → IsWithin h x → AreWithin h es → IsWithinHeap h (dictionary.set_item_content h id es v x)
  set-item-within id es v x a b w = dict-held-within id (entering.entered h v x es) (entered-within v x es a b w)

  deleted-within : (id : ObjId) (es : List Entry) (v : Value) (k : Keyed) → KeyedIsWithin h k → IsWithin h v → AreWithin h es → IsWithinHeap h (dictionary.deleted_by id es v k)
  deleted-within id es v (keyed.Refused c) g a w = g
  deleted-within id es v (keyed.Key k) g a w = by (is_some (found k es))
    where
      by : (c : Bool) → IsWithinHeap h (if c then Rattle.pt_methods.specs.pt_mappings.Keyed.changed id (Rattle.pt_content.specs.declared.content.Mutable.TheVariants.Dict (without k es)) nothing else missing v)
      by true = (entries-below h (without k es) (without-within h k es w), tt, tt)
      by false = missing-within v a

  pub delete-item-within : (id : ObjId) (es : List Entry) (v : Value) → IsWithin h v → AreWithin h es → IsWithinHeap h (dictionary.delete_item_content h id es v)
  delete-item-within id es v a w = deleted-within id es v (key_in h v) (key-within h v) a w

  pub has-key-within : (es : List Entry) (v : Value) → IsWithinHeap h (dictionary.has_key_content h es v)
  has-key-within es v = contains-within es (key_in h v) (key-within h v)

  set-held-within : (id : ObjId) (r : Result (List Entry) Content) → ResultIsWithin h r → IsWithinHeap h (set.held id r)
  set-held-within id (Ok es) w = (entries-below h es w, tt, tt)
  set-held-within id (Err c) w = w

  pub add-within : (id : ObjId) (es : List Entry) (v : Value) → IsWithin h v → AreWithin h es → IsWithinHeap h (set.add_content h id es v)
  add-within id es v a w = set-held-within id (entering.entered h v value.None es) (entered-within v value.None es a tt w)

  pub has-item-within : (es : List Entry) (v : Value) → IsWithinHeap h (set.has_item_content h es v)
  has-item-within es v = by (object_of h v)
    where
      by : (o : Option Object) → IsWithinHeap h (set.among_by es (set.sought_in h v o))
      by (Some (object.Set fs)) = tt
      by o = contains-within es (key_in h v) (key-within h v)

  -- operators
  new-set-within : (r : Result (List Entry) DictErr) → ((es : List Entry) → r ≡ Ok es → AreWithin h es) → IsWithinHeap h (new_set r)
  new-set-within (Ok es) w = entries-below h es (w es refl)
  new-set-within (Err e) w = tt

  changed-set-within : (id : ObjId) (r : Result (List Entry) DictErr) → IsWithin h (value.Obj id) → ((es : List Entry) → r ≡ Ok es → AreWithin h es) → IsWithinHeap h (changed_set id r)
  changed-set-within id (Ok es) i w = (entries-below h es (w es refl), tt, behind-nothing (value.Obj id) i)
  changed-set-within id (Err e) i w = tt

  limited-within : (all es : List Entry) → limited all ≡ Ok es → AreWithin h all → AreWithin h es
  limited-within all es = by (Rattle.std.specs.Prelude.nat_lt Rattle.pt_heap.specs.Limits.entry_limit (length all))
    where
      by : (c : Bool) → (if c then Err Rattle.pt_heap.specs.declared.dict.DictErr.TheVariants.Length else Ok all) ≡ Ok es → AreWithin h all → AreWithin h es
      by true e w = absurd cc
      by false e w = let same : all ≡ es = cc in subst (λ l. AreWithin h l) same w

  pub combined-content-within : (o : BinOp) (es fs : List Entry) → AreWithin h es → AreWithin h fs → IsWithinHeap h (combined_content o es fs)
  combined-content-within o es fs a b = new-set-within (limited (combined o es fs)) (λ gs e. limited-within (combined o es fs) gs e (combined-within h o es fs a b))

  pub in-place-set-within : (o : BinOp) (id : ObjId) (es fs : List Entry) → IsWithin h (value.Obj id) → AreWithin h es → AreWithin h fs → IsWithinHeap h (combined_in_place o id es fs)
  in-place-set-within o id es fs i a b = changed-set-within id (limited (combined o es fs)) i (λ gs e. limited-within (combined o es fs) gs e (combined-within h o es fs a b))
