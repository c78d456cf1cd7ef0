-- What calls of methods of builtin values give of values of a sound heap lies there.
use Rattle.std.proofs.Common.{◌≡◌, ◌∙◌, ◌+◌, ℕ, suc, Bool, true, false, List, [], ◌∷◌, ◌++◌, Option, None, Some, Result, Ok, Err, is_some, length, map, reverse, codes, drop, nat_le, nat_eq, slice_get, take, if◌then◌else◌, refl, sym, ap, subst, arith, append_assoc}
use Rattle.std.specs.Prelude.{nat_lt, negsuc, encode_utf8_all}
use Rattle.std.specs.Option.{option_map}
use Rattle.std.specs.List.{insert, remove}
use Rattle.std.specs.Str.{chars}
use Rattle.std.proofs.lemmas.List.{append-nil, length-append, length-map}
use Rattle.pt_base.specs.declared.numbers.ObjId.{ObjId}
use Rattle.pt_base.specs.declared.operators.CompareOp.TheVariants.{Equal}
use Rattle.pt_base.specs.declared.what.What.TheVariants as what
use Rattle.pt_heap.specs.Entries.{Entry, found, without}
use Rattle.pt_heap.specs.Limits.{entry_limit, object_limit}
use Rattle.pt_heap.specs.declared.value.Value.{Value}
use Rattle.pt_heap.specs.declared.value.Value.TheVariants as value
use Rattle.pt_heap.specs.declared.object.Object.{Object}
use Rattle.pt_heap.specs.declared.object.Object.TheVariants as object
use Rattle.pt_heap.specs.Sound.{IsSound, IsWithin}
use Rattle.pt_builtin_objects.specs.Start.{start_objects}
use Rattle.pt_strs.specs.Answer.{within}
use Rattle.pt_strs.specs.Cut.{place_of as place_of_text}
use Rattle.pt_strs.specs.Join.{joined}
use Rattle.pt_strs.specs.Replace.{replaced}
use Rattle.pt_strs.specs.Strip.{stripped}
use Rattle.pt_strs.specs.Words.{split_by}
use Rattle.pt_strs.specs.declared.error.StrErr.{StrErr}
use Rattle.pt_strs.specs.declared.error.StrErr.TheVariants as refusal
use Rattle.pt_content.specs.pt_attrs.Look.{object_of}
use Rattle.pt_content.specs.declared.answer.Helper.TheVariants.{ExtendOf}
use Rattle.pt_content.specs.declared.answer.PrimAns.TheVariants as answer
use Rattle.pt_content.specs.declared.content.Content.{Content}
use Rattle.pt_content.specs.declared.content.Content.TheVariants as content
use Rattle.pt_content.specs.declared.content.NewObject.{NewObject}
use Rattle.pt_content.specs.declared.content.NewObject.TheVariants as new
use Rattle.pt_content.specs.declared.method_name.MethodName.{MethodName}
use Rattle.pt_content.specs.declared.method_name.MethodName.TheVariants as method
use Rattle.pt_content.specs.declared.operand.Operand.{Operand}
use Rattle.pt_content.specs.declared.operand.Operand.TheVariants as operand
use Rattle.pt_content.specs.Changes.{made, places_from}
use Rattle.pt_content.specs.Operands.{operand_of, text_of}
use Rattle.pt_methods.specs.pt_sequences.Cursors.{asked_or}
use Rattle.pt_methods.specs.pt_sequences.Items.{item_or, place_of}
use Rattle.pt_methods.specs.pt_reprs.Reached.{need_help}
use Rattle.pt_methods.specs.pt_comparisons.Comparisons.{comparison_content}
use Rattle.pt_methods.specs.pt_list_changes.Changed.{list_changed, list_grown}
use Rattle.pt_methods.specs.pt_list_changes.Changes as changes
use Rattle.pt_methods.specs.pt_text_operations.Answers as answers
use Rattle.pt_methods.specs.pt_text_operations.Ends as ends
use Rattle.pt_methods.specs.pt_text_operations.Lists as lists
use Rattle.pt_methods.specs.pt_text_operations.Methods as methods
use Rattle.pt_methods.specs.pt_text_operations.declared.ends.End.{End}
use Rattle.pt_methods.specs.pt_text_operations.declared.ends.End.TheVariants as end
use Rattle.pt_methods.specs.pt_mappings.declared.keyed.Keyed.{Keyed}
use Rattle.pt_methods.specs.pt_mappings.declared.keyed.Keyed.TheVariants as keyed
use Rattle.pt_methods.specs.pt_mappings.Keyed.{key_in, missing, or_missing}
use Rattle.pt_methods.specs.pt_mappings.Entering.{with_entry}
use Rattle.pt_methods.specs.pt_mappings.Items as dictionary
use Rattle.pt_methods.specs.pt_mappings.Methods as mappings
use Rattle.pt_methods.specs.pt_sets.Members.{sought_in}
use Rattle.pt_methods.specs.pt_sets.Methods as sets
use Rattle.pt_methods.specs.Lists.{list_method, list_method_of_none, list_method_of_one, list_method_of_two, tuple_method}
use Rattle.pt_methods.specs.Methods.{method_content, method_of, object_method}
use Rattle.pt_methods.specs.Searches as searches
use Rattle.pt_prims.specs.Laws.{AllWithin}
use Rattle.pt_prims.proofs.Places.{all-append, below-values, none-below, object-below, one-below, one-within, values-below, within-grows}
use Rattle.pt_prims.proofs.EntryLemmas.{found-within, without-within, AreWithin}
use Rattle.pt_prims.proofs.ContainerLemmas.{add-within, dict-entries, entries-below, entry-within, key-within, missing-within, or-missing-within, set-entries, KeyedIsWithin, ResultIsWithin}
use Rattle.pt_prims.proofs.SoundLemmas.{places-within, IsWithinHeap, NewAreWithin, NewIsWithin}
use Rattle.pt_prims.proofs.ValueLists.{all-dropped, all-left, all-reversed, all-taken}

-- lists of values
all-inserted : (h : List Object) (vs : List Value) (i : ℕ) (x : Value) → AllWithin h vs → IsWithin h x → AllWithin h (insert vs i x)
all-inserted h vs i x w n = all-append h (take i vs) (x ∷ drop i vs) (all-taken h i vs w) (n, all-dropped h i vs w)

-- new texts, and an object behind them
behind-texts : (h : List Object) (css : List (List ℕ)) (o : NewObject) → NewIsWithin (h ++ map made (lists.new_texts css)) o → NewAreWithin h (lists.new_texts css ++ o ∷ [])
behind-texts h [] o w = (subst (λ k. NewIsWithin k o) (append-nil h) w, tt)
behind-texts h (cs ∷ css) o w =
    let t : Object = object.Str (encode_utf8_all cs) in
    (none-below (length h), behind-texts (h ++ t ∷ []) css o (subst (λ k. NewIsWithin k o) (sym (append_assoc h (t ∷ []) (map made (lists.new_texts css)))) w))

texts-length : (css : List (List ℕ)) → length (map made (lists.new_texts css)) ≡ length css
texts-length [] = refl
texts-length (cs ∷ css) = ap suc (texts-length css)

-- answers of calls on texts
pub refused-within : (h : List Object) (e : StrErr) → IsWithinHeap h (answers.refused e)
refused-within h refusal.Length = tt
refused-within h refusal.Format = tt
refused-within h e = (_, refl)

pub answered-within : (h : List Object) (r : Result (List ℕ) StrErr) → IsWithinHeap h (answers.answered r)
answered-within h (Ok cs) = none-below (length h)
answered-within h (Err e) = refused-within h e

pub joined-within : (h : List Object) (sep : List ℕ) (o : Option (List (List ℕ))) → IsWithinHeap h (answers.joined_by sep o)
joined-within h sep (Some ts) = answered-within h (within (joined (chars sep) (map chars ts)))
joined-within h sep None = (_, refl)

texts-behind : (h : List Object) (css : List (List ℕ)) → length (h ++ map made (lists.new_texts css)) ≡ length h + length css
texts-behind h css = length-append h (map made (lists.new_texts css)) ∙ ap (λ k. length h + k) (texts-length css)

list-behind : (h : List Object) (css : List (List ℕ)) (o : NewObject) → length (h ++ map made (lists.new_texts css ++ o ∷ [])) ≡ length h + length css + 1
list-behind h css o =
    let whole : length (h ++ map made (lists.new_texts css ++ o ∷ [])) ≡ length h + length (map made (lists.new_texts css ++ o ∷ []))
    = length-append h (map made (lists.new_texts css ++ o ∷ [])) in
    let mapped : length (map made (lists.new_texts css ++ o ∷ [])) ≡ length (lists.new_texts css ++ o ∷ []) = length-map (lists.new_texts css ++ o ∷ []) made in
    let parts : length (lists.new_texts css ++ o ∷ []) ≡ length (lists.new_texts css) + 1 = length-append (lists.new_texts css) (o ∷ []) in
    let texts : length (map made (lists.new_texts css)) ≡ length (lists.new_texts css) = length-map (lists.new_texts css) made in
    omega (arith, whole, mapped, parts, texts, texts-length css)

with-list-within : (h : List Object) (css : List (List ℕ)) → IsWithinHeap h (lists.with_list (length h) (length css) (lists.new_texts css))
with-list-within h css =
    let vs : List Value = places_from (length h) (length css) in
    let more : List Object = h ++ map made (lists.new_texts css) in
    let room : length (h ++ map made (lists.new_texts css ++ new.List vs ∷ [])) ≡ length h + length css + 1 = list-behind h css (new.List vs) in (
      tt,
      behind-texts h css (new.List vs) (values-below more vs (places-within more (length h) (length css) (omega (arith, texts-behind h css)))),
      omega (arith, room),
    )

listed-within : (h : List Object) (css : List (List ℕ)) → IsWithinHeap h (lists.listed h css)
listed-within h css = by (nat_lt entry_limit (length css)) (nat_lt (length h + length css) object_limit)
  where
    by : (x y : Bool) → IsWithinHeap h (if x then content.Outside what.Length else (if y then lists.with_list (length h) (length css) (lists.new_texts css) else content.Outside what.Heap))
    by true y = tt
    by false false = tt
    by false true = with-list-within h css

listed-if-within : (h : List Object) (r : Result (List (List ℕ)) StrErr) → IsWithinHeap h (lists.listed_if h r)
listed-if-within h (Ok css) = listed-within h css
listed-if-within h (Err e) = refused-within h e

-- methods of texts
split-within : (h : List Object) (t : List ℕ) (o : Option (Option (List ℕ))) → IsWithinHeap h (methods.split_at h t o)
split-within h t (Some sep) = listed-if-within h (split_by (option_map chars sep) (chars t))
split-within h t None = (_, refl)

split-content-within : (h : List Object) (t : List ℕ) (vs : List Value) → IsWithinHeap h (methods.split_content h t vs)
split-content-within h t [] = split-within h t (Some None)
split-content-within h t (v ∷ []) = split-within h t (methods.text_or_blanks h v)
split-content-within h t vs = tt

stripped-within : (h : List Object) (l r : Bool) (t : List ℕ) (o : Option (Option (List ℕ))) → IsWithinHeap h (methods.stripped_of l r t o)
stripped-within h l r t (Some set) = answered-within h (within (stripped (option_map chars set) l r (chars t)))
stripped-within h l r t None = (_, refl)

strip-within : (l r : Bool) (h : List Object) (t : List ℕ) (vs : List Value) → IsWithinHeap h (methods.strip_content l r h t vs)
strip-within l r h t [] = stripped-within h l r t (Some None)
strip-within l r h t (v ∷ []) = stripped-within h l r t (methods.text_or_blanks h v)
strip-within l r h t vs = tt

join-within : (h : List Object) (sep : List ℕ) (o : Option Object) → IsWithinHeap h (methods.join_by h sep o)
join-within h sep (Some (object.List vs)) = joined-within h sep (answers.texts_of h vs)
join-within h sep (Some (object.Tuple vs)) = joined-within h sep (answers.texts_of h vs)
join-within h sep o = tt

replaced-within : (h : List Object) (t : List ℕ) (a b : Option (List ℕ)) → IsWithinHeap h (methods.replaced_by t a b)
replaced-within h t (Some a) (Some b) = answered-within h (within (replaced (chars a) (chars b) (chars t)))
replaced-within h t a b = (_, refl)

found-place-within : (h : List Object) (o : Option ℕ) → IsWithinHeap h (methods.place_or_none o)
found-place-within h (Some n) = tt
found-place-within h None = tt

find-within : (h : List Object) (t : List ℕ) (o : Option (List ℕ)) → IsWithinHeap h (methods.find_by t o)
find-within h t (Some part) = found-place-within h (place_of_text (chars part) (chars t))
find-within h t None = (_, refl)

occurrences-within : (h : List Object) (t : List ℕ) (o : Option (List ℕ)) → IsWithinHeap h (methods.count_by t o)
occurrences-within h t (Some part) = tt
occurrences-within h t None = (_, refl)

later-within : (e : End) (h : List Object) (cs : List ℕ) (o : Option (List ℕ)) (c : Content) → IsWithinHeap h c → IsWithinHeap h (ends.or_later e cs o c)
later-within e h cs None c w = (_, refl)
later-within e h cs (Some t) c w = by (ends.stands_at e (chars t) cs)
  where
    by : (x : Bool) → IsWithinHeap h (if x then ends.truth true else c)
    by true = tt
    by false = w

one-stands-within : (e : End) (h : List Object) (cs : List ℕ) (vs : List Value) → IsWithinHeap h (ends.one_stands e h cs vs)
one-stands-within e h cs [] = tt
one-stands-within e h cs (v ∷ vs) = later-within e h cs (text_of h v) (ends.one_stands e h cs vs) (one-stands-within e h cs vs)

ends-within : (e : End) (h : List Object) (cs : List ℕ) (v : Value) (o : Option Object) → IsWithinHeap h (ends.ends_by e h cs v o)
ends-within e h cs v (Some (object.Tuple vs)) = one-stands-within e h cs vs
ends-within e h cs v o = one-stands-within e h cs (v ∷ [])

text-method-within : (m : MethodName) (h : List Object) (t : List ℕ) (vs : List Value) → IsWithinHeap h (methods.text_method_content m h t vs)
text-method-within method.Join h t (v ∷ []) = join-within h t (object_of h v)
text-method-within method.Split h t vs = split-content-within h t vs
text-method-within method.Strip h t vs = strip-within true true h t vs
text-method-within method.Lstrip h t vs = strip-within true false h t vs
text-method-within method.Rstrip h t vs = strip-within false true h t vs
text-method-within method.Replace h t (a ∷ b ∷ []) = replaced-within h t (text_of h a) (text_of h b)
text-method-within method.Find h t (v ∷ []) = find-within h t (text_of h v)
text-method-within method.Startswith h t (v ∷ []) = ends-within end.Front h (chars t) v (object_of h v)
text-method-within method.Endswith h t (v ∷ []) = ends-within end.Back h (chars t) v (object_of h v)
text-method-within method.Count h t (v ∷ []) = occurrences-within h t (text_of h v)
text-method-within m h t vs = tt

module _ (h : List Object) (s : IsSound start_objects h) (compared : (a b : Value) → IsWithinHeap h (comparison_content Equal h a b)) where
  behind-nothing : (v : Value) → IsWithin h v → IsWithin (h ++ []) v
  behind-nothing v w = within-grows h (h ++ []) v (omega (arith, length-append h [])) w

  -- methods that change lists
  changed-within : (l : Value) (vs : List Value) (a : Value) → AllWithin h vs → IsWithin h a → IsWithinHeap h (list_changed l vs a)
  changed-within (value.Obj id) vs a w i = (values-below h vs w, tt, behind-nothing a i)
  changed-within l vs a w i = tt

  grown-within : (l : Value) (vs : List Value) → AllWithin h vs → IsWithinHeap h (list_grown l vs)
  grown-within l vs w = by (nat_le (length vs) entry_limit)
    where
      by : (b : Bool) → IsWithinHeap h (if b then list_changed l vs value.None else content.Outside what.Length)
      by true = changed-within l vs value.None w tt
      by false = tt

  no-item : IsWithinHeap h (item_or None)
  no-item = (_, refl)

  list-items : (v : Value) (vs : List Value) → object_of h v ≡ Some (object.List vs) → AllWithin h vs
  list-items v vs e = below-values h vs (object-below h v (object.List vs) s e)

  tuple-items : (v : Value) (vs : List Value) → object_of h v ≡ Some (object.Tuple vs) → AllWithin h vs
  tuple-items v vs e = below-values h vs (object-below h v (object.Tuple vs) s e)

  append-within : (l : Value) (vs : List Value) (x : Value) → AllWithin h vs → IsWithin h x → IsWithinHeap h (changes.append_content l vs x)
  append-within l vs x w n = grown-within l (vs ++ x ∷ []) (all-append h vs (x ∷ []) w (n, tt))

  asked-within : (v : Value) (k : Operand) → IsWithinHeap h (asked_or ExtendOf (codes "iterable") h v k)
  asked-within v operand.Instance = tt
  asked-within v k = (_, refl)

  extended-within : (l : Value) (vs : List Value) (v : Value) (o : Option Object) → AllWithin h vs → object_of h v ≡ o → IsWithinHeap h (changes.extended_by h l vs v o)
  extended-within l vs v (Some (object.List ws)) w e = grown-within l (vs ++ ws) (all-append h vs ws w (list-items v ws e))
  extended-within l vs v (Some (object.Tuple ws)) w e = grown-within l (vs ++ ws) (all-append h vs ws w (tuple-items v ws e))
  extended-within l vs v (Some (object.Str t)) w e = tt
  extended-within l vs v (Some (object.Dict es)) w e = tt
  extended-within l vs v (Some (object.Set es)) w e = tt
  extended-within l vs v (Some (object.Range r)) w e = tt
  extended-within l vs v (Some (object.View x)) w e = tt
  extended-within l vs v (Some (object.Cursor c)) w e = tt
  extended-within l vs v (Some (object.Generator n)) w e = tt
  extended-within l vs v o w e = asked-within v (operand_of h v)

  inserted-within : (l : Value) (vs : List Value) (x : Value) (k : Operand) → AllWithin h vs → IsWithin h x → IsWithinHeap h (changes.inserted_by l vs x k)
  inserted-within l vs x (operand.Number z) w n =
      grown-within l (insert vs (changes.insertion_place (length vs) z) x) (all-inserted h vs (changes.insertion_place (length vs) z) x w n)
  inserted-within l vs x k w n = (_, refl)

  taken-item-within : (l : Value) (vs : List Value) (i : ℕ) (o : Option Value) → slice_get vs i ≡ o → AllWithin h vs → IsWithinHeap h (changes.taken_item l vs i o)
  taken-item-within l vs i (Some x) e w = changed-within l (remove vs i) x (all-left h vs i w) (one-within h vs i x e w)
  taken-item-within l vs i None e w = no-item

  taken-at-within : (l : Value) (vs : List Value) (p : Option ℕ) → AllWithin h vs → IsWithinHeap h (changes.taken_at l vs p)
  taken-at-within l vs (Some i) w = taken-item-within l vs i (slice_get vs i) refl w
  taken-at-within l vs None w = no-item

  taken-by-within : (l : Value) (vs : List Value) (k : Operand) → AllWithin h vs → IsWithinHeap h (changes.taken_by l vs k)
  taken-by-within l vs (operand.Number z) w = taken-at-within l vs (place_of (length vs) z) w
  taken-by-within l vs k w = (_, refl)

  -- methods that seek: what is answered where two values can't be compared is what their comparison answers
  abbrev IsAnswer : {A : Type 0} → Result A Content → Type 0
  IsAnswer (Ok a) = Unit {0}
  IsAnswer (Err c) = IsWithinHeap h c

  told-within : (c : Content) → IsWithinHeap h c → IsAnswer (searches.told c)
  told-within (content.Value (value.Bool b)) w = tt
  told-within c w = w

  here-within : (t : Result Bool Content) (i : ℕ) (r : Result (Option ℕ) Content) → IsAnswer t → IsAnswer r → IsAnswer (searches.here_or t i r)
  here-within (Ok true) i r w v = tt
  here-within (Ok false) i r w v = v
  here-within (Err c) i r w v = w

  more-within : (t : Result Bool Content) (r : Result ℕ Content) → IsAnswer t → IsAnswer r → IsAnswer (searches.one_more t r)
  more-within (Ok true) (Ok n) w v = tt
  more-within (Ok true) (Err c) w v = v
  more-within (Ok false) r w v = v
  more-within (Err c) r w v = w

  place-from-within : (x : Value) (i : ℕ) (vs : List Value) → IsAnswer (searches.place_from h x i vs)
  place-from-within x i [] = tt
  place-from-within x i (v ∷ vs) =
      here-within (searches.equal h v x) i (searches.place_from h x (i + 1) vs) (told-within (comparison_content Equal h v x) (compared v x)) (place-from-within x (i + 1) vs)

  count-of-within : (x : Value) (vs : List Value) → IsAnswer (searches.count_of h x vs)
  count-of-within x [] = tt
  count-of-within x (v ∷ vs) =
      more-within (searches.equal h v x) (searches.count_of h x vs) (told-within (comparison_content Equal h v x) (compared v x)) (count-of-within x vs)

  comparable-within : (v x : Value) (c : Content) → IsWithinHeap h c → IsWithinHeap h (searches.if_comparable h v x c)
  comparable-within v x c w = by (need_help h (v ∷ x ∷ []))
    where
      by : (b : Bool) → IsWithinHeap h (if b then content.Outside what.Feature else c)
      by true = tt
      by false = w

  place-within : (r : Result (Option ℕ) Content) → IsAnswer r → IsWithinHeap h (searches.place_answer r)
  place-within (Ok (Some i)) v = tt
  place-within (Ok None) v = (_, refl)
  place-within (Err c) v = v

  removal-within : (l : Value) (vs : List Value) (r : Result (Option ℕ) Content) → AllWithin h vs → IsAnswer r → IsWithinHeap h (searches.removal l vs r)
  removal-within l vs (Ok (Some i)) w v = changed-within l (remove vs i) value.None (all-left h vs i w) tt
  removal-within l vs (Ok None) w v = (_, refl)
  removal-within l vs (Err c) w v = v

  count-within : (r : Result ℕ Content) → IsAnswer r → IsWithinHeap h (searches.count_answer r)
  count-within (Ok n) v = tt
  count-within (Err c) v = v

  index-content-within : (v : Value) (vs : List Value) (x : Value) → IsWithinHeap h (searches.index_content h v vs x)
  index-content-within v vs x = comparable-within v x (searches.place_answer (searches.place_from h x 0 vs)) (place-within (searches.place_from h x 0 vs) (place-from-within x 0 vs))

  count-content-within : (v : Value) (vs : List Value) (x : Value) → IsWithinHeap h (searches.count_content h v vs x)
  count-content-within v vs x = comparable-within v x (searches.count_answer (searches.count_of h x vs)) (count-within (searches.count_of h x vs) (count-of-within x vs))

  remove-content-within : (l : Value) (vs : List Value) (x : Value) → AllWithin h vs → IsWithinHeap h (searches.remove_content h l vs x)
  remove-content-within l vs x w = comparable-within l x (searches.removal l vs (searches.place_from h x 0 vs)) (removal-within l vs (searches.place_from h x 0 vs) w (place-from-within x 0 vs))

  -- methods of lists and tuples
  list-none-within : (m : MethodName) (l : Value) (vs : List Value) → AllWithin h vs → IsWithinHeap h (list_method_of_none m l vs)
  list-none-within method.Pop l vs w = taken-by-within l vs (operand.Number (negsuc 0)) w
  list-none-within method.Reverse l vs w = changed-within l (reverse vs) value.None (all-reversed h vs w) tt
  list-none-within method.Clear l vs w = changed-within l [] value.None tt tt
  list-none-within method.Copy l vs w = values-below h vs w
  list-none-within m l vs w = tt

  list-one-within : (m : MethodName) (l : Value) (vs : List Value) (x : Value) → AllWithin h vs → IsWithin h x → IsWithinHeap h (list_method_of_one m h l vs x)
  list-one-within method.Append l vs x w g = append-within l vs x w g
  list-one-within method.Extend l vs x w g = extended-within l vs x (object_of h x) w refl
  list-one-within method.Pop l vs x w g = taken-by-within l vs (operand_of h x) w
  list-one-within method.Remove l vs x w g = remove-content-within l vs x w
  list-one-within method.Index l vs x w g = index-content-within l vs x
  list-one-within method.Count l vs x w g = count-content-within l vs x
  list-one-within m l vs x w g = tt

  list-two-within : (m : MethodName) (l : Value) (vs : List Value) (x y : Value) → AllWithin h vs → IsWithin h y → IsWithinHeap h (list_method_of_two m h l vs x y)
  list-two-within method.Insert l vs x y w g = inserted-within l vs y (operand_of h x) w g
  list-two-within method.Sort l vs x y w g = tt
  list-two-within m l vs x y w g = tt

  list-method-within : (m : MethodName) (l : Value) (vs given : List Value) → AllWithin h vs → AllWithin h given → IsWithinHeap h (list_method m h l vs given)
  list-method-within m l vs [] w g = list-none-within m l vs w
  list-method-within m l vs (x ∷ []) w g = list-one-within m l vs x w g.0
  list-method-within m l vs (x ∷ y ∷ []) w g = list-two-within m l vs x y w g.1.0
  list-method-within m l vs given w g = tt

  tuple-method-within : (m : MethodName) (v : Value) (vs given : List Value) → IsWithinHeap h (tuple_method m h v vs given)
  tuple-method-within method.Index v vs (x ∷ []) = index-content-within v vs x
  tuple-method-within method.Count v vs (x ∷ []) = count-content-within v vs x
  tuple-method-within m v vs given = tt

  -- methods of dictionaries
  get-within : (es : List Entry) (d : Value) (k : Keyed) → KeyedIsWithin h k → IsWithin h d → AreWithin h es → IsWithinHeap h (mappings.get_by es d k)
  get-within es d (keyed.Refused c) g a w = g
  get-within es d (keyed.Key k) g a w = by (found k es) refl
    where
      by : (o : Option Value) → found k es ≡ o → IsWithin h (mappings.value_or d o)
      by (Some x) e = found-within h k es x e w
      by None e = a

  popped-within : (id : ObjId) (es : List Entry) (k : List ℕ) (c : Content) (o : Option Value) → found k es ≡ o → IsWithinHeap h c → AreWithin h es → IsWithinHeap h (mappings.popped id es k c o)
  popped-within id es k c (Some x) e a w = (entries-below h (without k es) (without-within h k es w), tt, behind-nothing x (found-within h k es x e w))
  popped-within id es k c None e a w = a

  pop-by-within : (id : ObjId) (es : List Entry) (c : Content) (k : Keyed) → KeyedIsWithin h k → IsWithinHeap h c → AreWithin h es → IsWithinHeap h (mappings.pop_by id es c k)
  pop-by-within id es c (keyed.Refused d) g a w = g
  pop-by-within id es c (keyed.Key k) g a w = popped-within id es k c (found k es) refl a w

  pop-within : (id : ObjId) (es : List Entry) (v : Value) (d : Option Value) → IsWithin h v → ((x : Value) → d ≡ Some x → IsWithin h x) → AreWithin h es → IsWithinHeap h (mappings.pop_content h id es v d)
  pop-within id es v d a b w = by (nat_eq (length es) 0)
    where
      by : (c : Bool) → IsWithinHeap h (if c then or_missing v d else mappings.pop_by id es (or_missing v d) (key_in h v))
      by true = or-missing-within h s v d a b
      by false = pop-by-within id es (or_missing v d) (key_in h v) (key-within h v) (or-missing-within h s v d a b) w

  only : (d x : Value) → IsWithin h d → Some d ≡ Some x → IsWithin h x
  only d x a e = let same : d ≡ x = cc in subst (λ y. IsWithin h y) same a

  held-within : (id : ObjId) (d : Value) (r : Result (List Entry) Content) → IsWithin h d → ResultIsWithin h r → IsWithinHeap h (dictionary.held id (answer.Value d) r)
  held-within id d (Ok es) a w = (entries-below h es w, tt, behind-nothing d a)
  held-within id d (Err c) a w = w

  default-by-within : (id : ObjId) (es : List Entry) (v d : Value) (k : List ℕ) (o : Option Value) → found k es ≡ o → IsWithin h v → IsWithin h d → AreWithin h es → IsWithinHeap h (mappings.default_by id es v d k o)
  default-by-within id es v d k (Some x) e a b w = found-within h k es x e w
  default-by-within id es v d k None e a b w = held-within id d (with_entry k v d es) b (entry-within h s k v d es a b w)

  set-default-within : (id : ObjId) (es : List Entry) (v d : Value) (k : Keyed) → KeyedIsWithin h k → IsWithin h v → IsWithin h d → AreWithin h es → IsWithinHeap h (mappings.set_default_by id es v d k)
  set-default-within id es v d (keyed.Refused c) g a b w = g
  set-default-within id es v d (keyed.Key k) g a b w = default-by-within id es v d k (found k es) refl a b w

  dict-method-within : (m : MethodName) (id : ObjId) (es : List Entry) (given : List Value) → IsWithin h (value.Obj id) → AreWithin h es → AllWithin h given → IsWithinHeap h (mappings.dict_method_content m h id es given)
  dict-method-within method.Get id es (k ∷ []) i w g = get-within es value.None (key_in h k) (key-within h k) tt w
  dict-method-within method.Get id es (k ∷ d ∷ []) i w g = get-within es d (key_in h k) (key-within h k) g.1.0 w
  dict-method-within method.Keys id es [] i w g = one-below (length h) id.0 i
  dict-method-within method.Values id es [] i w g = one-below (length h) id.0 i
  dict-method-within method.Items id es [] i w g = one-below (length h) id.0 i
  dict-method-within method.Pop id es (k ∷ []) i w g = pop-within id es k None g.0 (λ x e. absurd cc) w
  dict-method-within method.Pop id es (k ∷ d ∷ []) i w g = pop-within id es k (Some d) g.0 (λ x e. only d x g.1.0 e) w
  dict-method-within method.Setdefault id es (k ∷ []) i w g = set-default-within id es k value.None (key_in h k) (key-within h k) g.0 tt w
  dict-method-within method.Setdefault id es (k ∷ d ∷ []) i w g = set-default-within id es k d (key_in h k) (key-within h k) g.0 g.1.0 w
  dict-method-within method.Update id es (other ∷ []) i w g = tt
  dict-method-within method.Clear id es [] i w g = (none-below (length h), tt, tt)
  dict-method-within method.Copy id es [] i w g = entries-below h es w
  dict-method-within m id es given i w g = tt

  -- methods of sets
  taken-within : (id : ObjId) (es : List Entry) (k : List ℕ) (c : Content) → IsWithinHeap h c → AreWithin h es → IsWithinHeap h (sets.taken id es k c)
  taken-within id es k c a w = by (is_some (found k es))
    where
      by : (b : Bool) → IsWithinHeap h (if b then Rattle.pt_methods.specs.pt_mappings.Keyed.changed id (Rattle.pt_content.specs.declared.content.Mutable.TheVariants.Set (without k es)) Rattle.pt_methods.specs.pt_mappings.Keyed.nothing else c)
      by true = (entries-below h (without k es) (without-within h k es w), tt, tt)
      by false = a

  taken-out-within : (id : ObjId) (es : List Entry) (c : Content) (v : Value) (o : Option Object) → IsWithinHeap h c → AreWithin h es → IsWithinHeap h (sets.taken_by id es c (sought_in h v o))
  taken-out-within id es c v (Some (object.Set fs)) a w = a
  taken-out-within id es c v o a w = by (key_in h v) (key-within h v)
    where
      by : (k : Keyed) → KeyedIsWithin h k → IsWithinHeap h (sets.taken_by id es c (Some k))
      by (keyed.Refused d) g = g
      by (keyed.Key k) g = taken-within id es k c a w

  set-method-within : (m : MethodName) (id : ObjId) (es : List Entry) (given : List Value) → AreWithin h es → AllWithin h given → IsWithinHeap h (sets.set_method_content m h id es given)
  set-method-within method.Add id es (v ∷ []) w g = add-within h s id es v g.0 w
  set-method-within method.Discard id es (v ∷ []) w g = taken-out-within id es (content.Value value.None) v (object_of h v) tt w
  set-method-within method.Remove id es (v ∷ []) w g = taken-out-within id es (missing v) v (object_of h v) (missing-within h s v g.0) w
  set-method-within method.Clear id es [] w g = (none-below (length h), tt, tt)
  set-method-within method.Copy id es [] w g = entries-below h es w
  set-method-within m id es given w g = tt

  -- calls
  object-method-within : (m : MethodName) (id : ObjId) (given : List Value) (o : Option Object) → slice_get h id.0 ≡ o → IsWithin h (value.Obj id) → AllWithin h given → IsWithinHeap h (object_method m h id given o)
  object-method-within m id given (Some (object.Str t)) e i g = text-method-within m h t given
  object-method-within m id given (Some (object.List vs)) e i g = list-method-within m (value.Obj id) vs given (list-items (value.Obj id) vs e) g
  object-method-within m id given (Some (object.Tuple vs)) e i g = tuple-method-within m (value.Obj id) vs given
  object-method-within m id given (Some (object.Dict es)) e i g = dict-method-within m id es given i (dict-entries h s (value.Obj id) es e) g
  object-method-within m id given (Some (object.Set es)) e i g = set-method-within m id es given (set-entries h s (value.Obj id) es e) g
  object-method-within m id given o e i g = tt

  method-of-within : (m : MethodName) (v : Value) (given : List Value) → IsWithin h v → AllWithin h given → IsWithinHeap h (method_of m h v given)
  method-of-within m (value.Obj id) given i g = object-method-within m id given (slice_get h id.0) refl i g
  method-of-within m v given i g = tt

  pub method-within : (m : MethodName) (vs : List Value) → AllWithin h vs → IsWithinHeap h (method_content m vs h)
  method-within m [] w = tt
  method-within m (v ∷ given) w = method-of-within m v given w.0 w.1
