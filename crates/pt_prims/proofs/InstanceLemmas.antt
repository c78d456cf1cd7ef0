-- What functions that are written in Python ask of instances of a sound heap lies there: methods of classes, parts of containers, what methods gave.
use Rattle.std.proofs.Common.{◌≡◌, ℕ, pos, negsuc, Bool, true, false, List, [], ◌∷◌, Option, None, Some, length, codes, slice_get, if◌then◌else◌, refl}
use Rattle.std.specs.Str.{bytes_eq}
use Rattle.pt_base.specs.declared.numbers.ObjId.{ObjId}
use Rattle.pt_heap.specs.declared.value.Value.{Value}
use Rattle.pt_heap.specs.declared.value.Value.TheVariants as value
use Rattle.pt_heap.specs.declared.object.DictView.{DictView}
use Rattle.pt_heap.specs.declared.object.Object.{Object}
use Rattle.pt_heap.specs.declared.object.Object.TheVariants as object
use Rattle.pt_heap.specs.declared.object.Part.{Part}
use Rattle.pt_heap.specs.declared.object.Part.TheVariants.{Keys, Values, Items}
use Rattle.pt_heap.specs.Entries.{Entry}
use Rattle.pt_heap.specs.Sound.{place_of, IsSound, IsWithin}
use Rattle.pt_builtin_objects.specs.Start.{start_objects}
use Rattle.pt_content.specs.Classes.{class_name}
use Rattle.pt_content.specs.Operands.{operand_of, text_of}
use Rattle.pt_content.specs.TypeErrors.{error_of_two, use_type_error}
use Rattle.pt_content.specs.declared.operand.Operand.{Operand}
use Rattle.pt_content.specs.declared.operand.Operand.TheVariants.{Number}
use Rattle.pt_content.specs.pt_attrs.Look.{object_of}
use Rattle.pt_content.specs.pt_attrs.declared.look.Found.{Found}
use Rattle.pt_content.specs.pt_attrs.declared.look.Found.TheVariants as found
use Rattle.pt_content.specs.pt_attrs.pt_dicts.Keys.{name_codes}
use Rattle.pt_methods.specs.pt_reprs.Reached.{is_instance, parts_in, parts_of}
use Rattle.pt_methods.specs.pt_reprs.Shown.{entries_in, shown, viewed}
use Rattle.pt_special_methods.specs.Given.{length_given, text_given, truth_given, write_by}
use Rattle.pt_special_methods.specs.Instances.{bound_to, class_asked, get_name, get_name_by, has_name, has_name_by, method_in, method_of}
use Rattle.pt_special_methods.specs.Refusals.{is_order, no_length, refuse, refused, refused_by}
use Rattle.pt_prims.specs.Laws.{AllWithin}
use Rattle.pt_prims.proofs.AttributeLemmas.{class-method-within, error-arguments, FoundWithin}
use Rattle.pt_prims.proofs.ContainerLemmas.{dict-entries, set-entries}
use Rattle.pt_prims.proofs.EntryLemmas.{AreWithin}
use Rattle.pt_prims.proofs.Places.{below-values, both-below, object-below, value-below}
use Rattle.pt_prims.proofs.SoundLemmas.{IsWithinHeap}

module _ (h : List Object) (s : IsSound start_objects h) where
  method-in-within : (name : List ℕ) (o : Option ObjId) → FoundWithin h (method_in h name o)
  method-in-within name (Some class) = class-method-within h s (name_codes name) class
  method-in-within name None = tt

  pub method-of-within : (v : Value) (name : List ℕ) → FoundWithin h (method_of h v name)
  method-of-within v name = by (is_instance (operand_of h v))
    where
      by : (b : Bool) → FoundWithin h (if b then method_in h name (class_asked (object_of h v)) else None)
      by true = method-in-within name (class_asked (object_of h v))
      by false = tt

  bound-to-within : (v : Value) (o : Option Found) → IsWithin h v → FoundWithin h o → IsWithinHeap h (bound_to v o)
  bound-to-within v (Some (found.Bound f)) i w = both-below (length h) (place_of f) (place_of v) (value-below h f w) (value-below h v i)
  bound-to-within v (Some (found.Plain u)) i w = w
  bound-to-within v (Some found.Unbuilt) i w = tt
  bound-to-within v None i w = tt

  get-name-by-within : (v : Value) (o : Option (List ℕ)) → IsWithin h v → IsWithinHeap h (get_name_by h v o)
  get-name-by-within v (Some name) i = bound-to-within v (method_of h v name) i (method-of-within v name)
  get-name-by-within v None i = tt

  pub get-name-within : (vs : List Value) → AllWithin h vs → IsWithinHeap h (get_name vs h)
  get-name-within (v ∷ n ∷ []) w = get-name-by-within v (text_of h n) w.0
  get-name-within vs w = tt

  has-name-by-within : (v : Value) (o : Option (List ℕ)) → IsWithinHeap h (has_name_by h v o)
  has-name-by-within v (Some name) = tt
  has-name-by-within v None = tt

  pub has-name-within : (vs : List Value) → IsWithinHeap h (has_name vs h)
  has-name-within (v ∷ n ∷ []) = has-name-by-within v (text_of h n)
  has-name-within vs = tt

  refused-by-within : (t : List ℕ) (a b : Value) → IsWithinHeap h (refused_by t h a b)
  refused-by-within t a b = by (bytes_eq t (codes "iter")) (bytes_eq t (codes "next")) (bytes_eq t (codes "len")) (is_order t)
    where
      by : (i n l o : Bool) → IsWithinHeap h (if i then use_type_error h a (codes "iterable")
          else (if n then use_type_error h a (codes "an iterator")
          else (if l then no_length h a
          else (if o then error_of_two (codes "'") t (codes "' not supported between instances of '") (class_name h a) (class_name h b)
          else error_of_two (codes "unsupported operand type(s) for ") t (codes ": '") (class_name h a) (class_name h b)))))
      by true n l o = (_, refl)
      by false true l o = (_, refl)
      by false false true o = (_, refl)
      by false false false true = (_, refl)
      by false false false false = (_, refl)

  refused-within : (o : Option (List ℕ)) (a b : Value) → IsWithinHeap h (refused o h a b)
  refused-within (Some t) a b = refused-by-within t a b
  refused-within None a b = tt

  pub refuse-within : (vs : List Value) → IsWithinHeap h (refuse vs h)
  refuse-within (t ∷ a ∷ b ∷ []) = refused-within (text_of h t) a b
  refuse-within vs = tt

  -- the parts of containers
  shown-within : (p : Part) (es : List Entry) → AreWithin h es → AllWithin h (shown p es)
  shown-within p [] w = tt
  shown-within Keys (e ∷ es) w = (w.0, shown-within Keys es w.2)
  shown-within Values (e ∷ es) w = (w.1, shown-within Values es w.2)
  shown-within Items (e ∷ es) w = (w.0, (w.1, shown-within Items es w.2))

  entries-in-within : (id : ObjId) (o : Option Object) → slice_get h id.0 ≡ o → AreWithin h (entries_in o)
  entries-in-within id (Some (object.Dict es)) e = dict-entries h s (value.Obj id) es e
  entries-in-within id o e = tt

  viewed-within : (v : DictView) → AreWithin h (viewed h v)
  viewed-within v = entries-in-within v.dict (slice_get h v.dict.0) refl

  parts-in-within : (v : Value) (o : Option Object) → object_of h v ≡ o → AllWithin h (parts_in h o)
  parts-in-within v (Some (object.List vs)) e = below-values h vs (object-below h v (object.List vs) s e)
  parts-in-within v (Some (object.Tuple vs)) e = below-values h vs (object-below h v (object.Tuple vs) s e)
  parts-in-within v (Some (object.Dict es)) e = shown-within Items es (dict-entries h s v es e)
  parts-in-within v (Some (object.Set es)) e = shown-within Keys es (set-entries h s v es e)
  parts-in-within v (Some (object.View x)) e = shown-within x.part (viewed h x) (viewed-within x)
  parts-in-within v (Some (object.Error x)) e = error-arguments h s v x e
  parts-in-within v o e = tt

  pub parts-within : (v : Value) → AllWithin h (parts_of h v)
  parts-within v = parts-in-within v (object_of h v) refl

  -- what methods gave
  pub text-given-within : (v : Value) (o : Option (List ℕ)) → IsWithin h v → IsWithinHeap h (text_given v o)
  text-given-within v (Some t) w = w
  text-given-within v None w = (_, refl)

  pub truth-given-within : (v : Value) → IsWithinHeap h (truth_given v)
  truth-given-within (value.Bool b) = tt
  truth-given-within v = (_, refl)

  pub length-given-within : (k : Operand) → IsWithinHeap h (length_given k)
  length-given-within (Number (pos n)) = tt
  length-given-within (Number (negsuc n)) = (_, refl)
  length-given-within k = (_, refl)

  pub write-within : (o : Option (List ℕ)) → IsWithinHeap h (write_by o)
  write-within (Some t) = tt
  write-within None = tt
