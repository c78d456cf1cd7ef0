-- What is unpacked of a value of a sound heap lies there, and so do the cursor behind it and what is new.
use Rattle.std.proofs.Common.{◌≡◌, ◌+◌, ◌-◌, ◌≤◌, ◌<◌, ℕ, zero, suc, Bool, true, false, List, [], ◌∷◌, ◌++◌, Option, None, Some, length, map, take, drop, slice_get, codes, if◌then◌else◌, refl, subst, arith}
use Rattle.std.specs.Prelude.{nat_lt, option_to_list}
use Rattle.std.specs.Char.{encode_utf8}
use Rattle.std.proofs.lemmas.List.{length-append, length-map}
use Rattle.pt_base.specs.declared.numbers.ObjId.{ObjId}
use Rattle.pt_base.specs.declared.what.What.TheVariants as what
use Rattle.pt_heap.specs.Entries.{Entry}
use Rattle.pt_heap.specs.Limits.{entry_limit}
use Rattle.pt_heap.specs.declared.value.Value.{Value}
use Rattle.pt_heap.specs.declared.value.Value.TheVariants as value
use Rattle.pt_heap.specs.declared.object.Cursor.{Cursor}
use Rattle.pt_heap.specs.declared.object.Object.{Object}
use Rattle.pt_heap.specs.declared.object.Object.TheVariants as object
use Rattle.pt_heap.specs.declared.object.Part.{Part}
use Rattle.pt_heap.specs.declared.object.Part.TheVariants as part
use Rattle.pt_heap.specs.declared.object.Range.{Range}
use Rattle.pt_heap.specs.Sound.{place_in, IsSound, IsWithin}
use Rattle.pt_builtin_objects.specs.Start.{start_objects}
use Rattle.pt_content.specs.declared.class.TheConstants.{VALUE_ERROR}
use Rattle.pt_content.specs.declared.content.Content.{Content}
use Rattle.pt_content.specs.declared.content.Content.TheVariants as content
use Rattle.pt_content.specs.declared.content.NewObject.{NewObject}
use Rattle.pt_content.specs.declared.content.NewObject.TheVariants as new
use Rattle.pt_content.specs.declared.content.Replacement.{Replacement}
use Rattle.pt_content.specs.Changes.{made}
use Rattle.pt_methods.specs.pt_sequences.Cursors.{chars_from}
use Rattle.pt_methods.specs.pt_sequences.Ranges.{range_item, range_length, range_value}
use Rattle.pt_methods.specs.pt_sequences.Starred as stars
use Rattle.pt_methods.specs.pt_sequences.Unpacking as sequence
use Rattle.pt_methods.specs.pt_sequences.Unpacking.{integers_from}
use Rattle.pt_methods.specs.pt_views.declared.cursor.TheConstants.{RUNTIME_ERROR}
use Rattle.pt_methods.specs.pt_views.declared.items.Item.{Item}
use Rattle.pt_methods.specs.pt_views.declared.items.Item.TheVariants.{There, Char, Pair}
use Rattle.pt_methods.specs.pt_views.declared.unpacking.Wanted.{Wanted}
use Rattle.pt_methods.specs.pt_views.declared.unpacking.Wanted.TheVariants.{Count, Around}
use Rattle.pt_methods.specs.pt_views.declared.unpacking.Source.{Source}
use Rattle.pt_methods.specs.pt_views.Cursors.{dict_in}
use Rattle.pt_methods.specs.pt_views.Unpacking.{around, around_list, entry_item, given, has_count, items_from, least, most, new_in, new_value, of_cursor, of_items, of_object, of_over, refused, so_many, starred, starred_content, starred_in, there, too_few, unpack_content, unpacked, unpacked_from, values_in, view_items}
use Rattle.pt_prims.specs.Laws.{AllWithin}
use Rattle.pt_prims.proofs.ContainerLemmas.{dict-entries, set-entries}
use Rattle.pt_prims.proofs.EntryLemmas.{AreWithin}
use Rattle.pt_prims.proofs.Places.{all-append, below-values, none-below, object-below, values-below, within-grows, Below}
use Rattle.pt_prims.proofs.SoundLemmas.{IsWithinHeap, NewAreWithin, ReplacementIsWithin}
use Rattle.pt_prims.proofs.ValueLists.{all-dropped, all-taken}

abbrev ItemIsWithin : List Object → Item → Type 0
ItemIsWithin h (There v) = IsWithin h v
ItemIsWithin h (Char c) = Unit {0}
ItemIsWithin h (Pair v w) = IsWithin h v × IsWithin h w

abbrev ItemsAreWithin : List Object → List Item → Type 0
ItemsAreWithin h [] = Unit {0}
ItemsAreWithin h (i ∷ is) = ItemIsWithin h i × ItemsAreWithin h is

-- the integers of a range
pub range-value-within : (h : List Object) (r : Range) (i : ℕ) (v : Value) → range_value r i ≡ Some v → IsWithin h v
range-value-within h r i v = by (nat_lt i (range_length r))
  where
    by : (b : Bool) → (if b then Some (value.Int (range_item r i)) else None) ≡ Some v → IsWithin h v
    by true e = let same : value.Int (range_item r i) ≡ v = cc in subst (λ x. IsWithin h x) same tt
    by false e = absurd cc

one-listed : (h : List Object) (o : Option Value) → ((v : Value) → o ≡ Some v → IsWithin h v) → AllWithin h (option_to_list o)
one-listed h None w = tt
one-listed h (Some v) w = (w v refl, tt)

pub integers-within : (h : List Object) (r : Range) (i n : ℕ) → AllWithin h (integers_from r i n)
integers-within h r i zero = tt
integers-within h r i (suc n) =
    all-append h (option_to_list (range_value r i)) (integers_from r (i + 1) n) (one-listed h (range_value r i) (λ v e. range-value-within h r i v e))
    (integers-within h r (i + 1) n)

-- items of values, characters and entries
there-within : (h : List Object) (vs : List Value) → AllWithin h vs → ItemsAreWithin h (there vs)
there-within h [] w = tt
there-within h (v ∷ vs) w = (w.0, there-within h vs w.1)

chars-within : (h : List Object) (cs : List ℕ) → ItemsAreWithin h (map (λ c. Char c) cs)
chars-within h [] = tt
chars-within h (c ∷ cs) = (tt, chars-within h cs)

entry-within : (h : List Object) (p : Part) (e : Entry) → IsWithin h e.first → IsWithin h e.value → ItemIsWithin h (entry_item p e)
entry-within h part.Keys e a b = a
entry-within h part.Values e a b = b
entry-within h part.Items e a b = (a, b)

entries-within : (h : List Object) (p : Part) (es : List Entry) → AreWithin h es → ItemsAreWithin h (map (entry_item p) es)
entries-within h p [] w = tt
entries-within h p (e ∷ es) w = (entry-within h p e w.0 w.1, entries-within h p es w.2)

entries-taken : (h : List Object) (n : ℕ) (es : List Entry) → AreWithin h es → AreWithin h (take n es)
entries-taken h zero es w = tt
entries-taken h (suc n) [] w = tt
entries-taken h (suc n) (e ∷ es) w = (w.0, w.1, entries-taken h n es w.2)

entries-dropped : (h : List Object) (n : ℕ) (es : List Entry) → AreWithin h es → AreWithin h (drop n es)
entries-dropped h zero es w = w
entries-dropped h (suc n) [] w = tt
entries-dropped h (suc n) (e ∷ es) w = entries-dropped h n es w.2

some-entries : (h : List Object) (n i : ℕ) (p : Part) (es : List Entry) → AreWithin h es → ItemsAreWithin h (map (entry_item p) (take n (drop i es)))
some-entries h n i p es w = entries-within h p (take n (drop i es)) (entries-taken h n (drop i es) (entries-dropped h i es w))

-- what is new: of items that lie in a heap, behind a heap that has grown
module _ (h : List Object) where
  longer : (g : List Object) (o : Object) → length h ≤ length g → length h ≤ length (g ++ o ∷ [])
  longer g o l = omega (arith, l, length-append g (o ∷ []))

  new-then : (g : List Object) → length h ≤ length g → (is : List Item) → ItemsAreWithin h is → (os : List NewObject)
      → ((k : List Object) → length k ≡ length g + length (new_in is) → NewAreWithin k os) → NewAreWithin g (new_in is ++ os)
  new-then g l [] w os next = next g (omega arith)
  new-then g l (There v ∷ is) w os next = new-then g l is w.1 os next
  new-then g l (Char c ∷ is) w os next = (
    none-below (length g),
    new-then (g ++ object.Str (encode_utf8 c) ∷ []) (longer g (object.Str (encode_utf8 c)) l) is w.1 os
        (λ k e. next k (omega (arith, e, length-append g (object.Str (encode_utf8 c) ∷ [])))),
  )
  new-then g l (Pair v u ∷ is) w os next = (
    values-below g (v ∷ u ∷ []) (within-grows h g v l w.0.0, (within-grows h g u l w.0.1, tt)),
    new-then (g ++ object.Tuple (v ∷ u ∷ []) ∷ []) (longer g (object.Tuple (v ∷ u ∷ [])) l) is w.1 os
        (λ k e. next k (omega (arith, e, length-append g (object.Tuple (v ∷ u ∷ []) ∷ [])))),
  )

  new-within : (g : List Object) → length h ≤ length g → (is : List Item) → ItemsAreWithin h is → NewAreWithin g (new_in is)
  new-within g l [] w = tt
  new-within g l (There v ∷ is) w = new-within g l is w.1
  new-within g l (Char c ∷ is) w =
      (none-below (length g), new-within (g ++ object.Str (encode_utf8 c) ∷ []) (longer g (object.Str (encode_utf8 c)) l) is w.1)
  new-within g l (Pair v u ∷ is) w = (
    values-below g (v ∷ u ∷ []) (within-grows h g v l w.0.0, (within-grows h g u l w.0.1, tt)),
    new-within (g ++ object.Tuple (v ∷ u ∷ []) ∷ []) (longer g (object.Tuple (v ∷ u ∷ [])) l) is w.1,
  )

  values-within : (g : List Object) (p : ℕ) (is : List Item) → length h ≤ length g → p + length (new_in is) ≤ length g → ItemsAreWithin h is
      → AllWithin g (values_in p is)
  values-within g p [] l m w = tt
  values-within g p (There v ∷ is) l m w = (within-grows h g v l w.0, values-within g (p + 0) is l (omega (arith, m)) w.1)
  values-within g p (Char c ∷ is) l m w =
      let fits : p + suc (length (new_in is)) ≤ length g = m in
      let here : p < length g = omega (arith, fits) in
      (here, values-within g (p + 1) is l (omega (arith, fits)) w.1)
  values-within g p (Pair v u ∷ is) l m w =
      let fits : p + suc (length (new_in is)) ≤ length g = m in
      let here : p < length g = omega (arith, fits) in
      (here, values-within g (p + 1) is l (omega (arith, fits)) w.1)

  grown : (os : List NewObject) → length (h ++ map made os) ≡ length h + length os
  grown os = omega (arith, length-append h (map made os), length-map os made)

  record SourceIsWithin (s : Source) : Type 0 where
    items : ItemsAreWithin h s.items
    moved : ReplacementIsWithin h s.moved
    ended : ReplacementIsWithin h s.ended

  refused-within : (r : Option Replacement) (t : List ℕ) → ReplacementIsWithin h r → IsWithinHeap h (refused h r t)
  refused-within r t w = (w, (none-below (length h), tt), ((_, refl), is_last))
    where
      is_last : length h < length (h ++ object.Str t ∷ [])
      is_last = omega (arith, length-append h (object.Str t ∷ []))

  given-within : (s : Source) → SourceIsWithin s → IsWithinHeap h (given h s)
  given-within s w =
      let more : List Object = h ++ map made (new_in s.items) in
      let same : length more ≡ length h + length (new_in s.items) = grown (new_in s.items) in
      (w.ended, new-within h (omega arith) s.items w.items, values-within more (length h) s.items (omega (arith, same)) (omega (arith, same)) w.items)

  so-many-within : (n : ℕ) (s : Source) → SourceIsWithin s → IsWithinHeap h (so_many h n s)
  so-many-within n s w = by (nat_lt n (length s.items)) (nat_lt (length s.items) n)
    where
      by : (a b : Bool) → IsWithinHeap h (if a then refused h s.moved (codes "too many values to unpack") else (if b then refused h s.ended too_few else given h s))
      by true b = refused-within s.moved (codes "too many values to unpack") w.moved
      by false true = refused-within s.ended too_few w.ended
      by false false = given-within s w

  abbrev LieBehind : Source → List Value → Type 0
  LieBehind s vs = (k : List Object) → length h + length (new_in s.items) ≤ length k → AllWithin k vs

  around-list-within : (m : ℕ) (s : Source) (first behind : List Value) → SourceIsWithin s → LieBehind s first → LieBehind s behind
      → IsWithinHeap h (around_list h m s first behind)
  around-list-within m s first behind w a b =
      let n : ℕ = length behind - m in
      let list : NewObject = new.List (take n behind) in
      let all : List NewObject = new_in s.items ++ list ∷ [] in
      let more : List Object = h ++ map made all in
      let size : length more ≡ length h + (length (new_in s.items) + 1) = omega (arith, grown all, length-append (new_in s.items) (list ∷ [])) in
      let stands : length h + length (new_in s.items) < length more = omega (arith, size) in (
        w.ended,
        new-then h (omega arith) s.items w.items (list ∷ []) (λ k e. (values-below k (take n behind) (all-taken k n behind (b k (omega (arith, e)))), tt)),
        all-append more first (new_value (length h + length (new_in s.items)) ∷ drop n behind) (a more (omega (arith, size)))
            (stands, all-dropped more n behind (b more (omega (arith, size)))),
      )

  around-within : (n m : ℕ) (s : Source) → SourceIsWithin s → IsWithinHeap h (around h n m s (values_in (length h) s.items))
  around-within n m s w =
      around-list-within m s (take n vs) (drop n vs) w
      (λ k l. all-taken k n vs (all k l)) (λ k l. all-dropped k n vs (all k l))
    where
      vs : List Value
      vs = values_in (length h) s.items

      all : LieBehind s vs
      all k l = values-within k (length h) s.items (omega (arith, l)) l w.items

  starred-in-within : (n m : ℕ) (s : Source) → SourceIsWithin s → IsWithinHeap h (starred_in h n m s)
  starred-in-within n m s w = by (nat_lt entry_limit (length s.items)) (nat_lt (length s.items) (n + m))
    where
      by : (a b : Bool) → IsWithinHeap h (if a then content.Outside what.Length else (if b then refused h s.ended too_few else around h n m s (values_in (length h) s.items)))
      by true b = tt
      by false true = refused-within s.ended too_few w.ended
      by false false = around-within n m s w

  unpacked-from-within : (w : Wanted) (s : Source) → SourceIsWithin s → IsWithinHeap h (unpacked_from h w s)
  unpacked-from-within (Count n) s w = so-many-within n s w
  unpacked-from-within (Around n m) s w = starred-in-within n m s w

-- the items of an object of a sound heap
module _ (h : List Object) (s : IsSound start_objects h) where
  list-items : (id : ObjId) (vs : List Value) → slice_get h id.0 ≡ Some (object.List vs) → AllWithin h vs
  list-items id vs e = below-values h vs (object-below h (value.Obj id) (object.List vs) s e)

  tuple-items : (id : ObjId) (vs : List Value) → slice_get h id.0 ≡ Some (object.Tuple vs) → AllWithin h vs
  tuple-items id vs e = below-values h vs (object-below h (value.Obj id) (object.Tuple vs) s e)

  some-values : (n i : ℕ) (vs : List Value) → AllWithin h vs → ItemsAreWithin h (there (take n (drop i vs)))
  some-values n i vs w = there-within h (take n (drop i vs)) (all-taken h n (drop i vs) (all-dropped h i vs w))

  view-within : (n i : ℕ) (p : Part) (dict : ObjId) (o : Option Object) → slice_get h dict.0 ≡ o → ItemsAreWithin h (view_items n i p (dict_in o))
  view-within n i p dict (Some (object.Dict es)) e = some-entries h n i p es (dict-entries h s (value.Obj dict) es e)
  view-within n i p dict o e = tt

  items-within : (n i : ℕ) (id : ObjId) (o : Option Object) → slice_get h id.0 ≡ o → ItemsAreWithin h (items_from h n i o)
  items-within n i id (Some (object.List vs)) e = some-values n i vs (list-items id vs e)
  items-within n i id (Some (object.Tuple vs)) e = some-values n i vs (tuple-items id vs e)
  items-within n i id (Some (object.Str t)) e = chars-within h (take n (chars_from t i))
  items-within n i id (Some (object.Range r)) e =
      let left : ℕ = least n (range_length r - i) in
      there-within h (integers_from r i left) (integers-within h r i left)
  items-within n i id (Some (object.Dict es)) e = some-entries h n i part.Keys es (dict-entries h s (value.Obj id) es e)
  items-within n i id (Some (object.Set es)) e = some-entries h n i part.Keys es (set-entries h s (value.Obj id) es e)
  items-within n i id (Some (object.View v)) e = view-within n i v.part v.dict (slice_get h v.dict.0) refl
  items-within n i id o e = tt

  of-object-within : (w : Wanted) (id : ObjId) (o : Option Object) → slice_get h id.0 ≡ o → IsWithinHeap h (of_object h w o)
  of-object-within w id o e =
      unpacked-from-within h w (record { items = items_from h (most w) 0 o; moved = None; ended = None })
      (record { items = items-within (most w) 0 id o e; moved = tt; ended = tt })

  of-items-within : (id : ObjId) (c : Cursor) (is : List Item) → Below (length h) (place_in c.over) → ItemsAreWithin h is → SourceIsWithin h (of_items id c is)
  of-items-within id c is b w = record { items = w; moved = b; ended = none-below (length h) }

  of-over-within : (w : Wanted) (id over : ObjId) (c : Cursor) (o : Option Object) → Below (length h) (place_in c.over) → slice_get h over.0 ≡ o
      → IsWithinHeap h (of_over h w id c o)
  of-over-within w id over c o b e = by (has_count h c.count o)
    where
      by : (k : Bool)
          → IsWithinHeap h (if k then unpacked_from h w (of_items id c (items_from h (most w) c.place o)) else content.Raise RUNTIME_ERROR (codes "container changed during iteration"))
      by true =
          unpacked-from-within h w (of_items id c (items_from h (most w) c.place o))
          (of-items-within id c (items_from h (most w) c.place o) b (items-within (most w) c.place over o e))
      by false = (_, refl)

  of-cursor-within : (w : Wanted) (id : ObjId) (c : Cursor) (o : Option ObjId) → Below (length h) (place_in c.over) → IsWithinHeap h (of_cursor h w id c o)
  of-cursor-within w id c (Some over) b = of-over-within w id over c (slice_get h over.0) b refl
  of-cursor-within w id c None b = unpacked-from-within h w (of_items id c []) (of-items-within id c [] b tt)

  cursor-within : (w : Wanted) (id : ObjId) (c : Cursor) → slice_get h id.0 ≡ Some (object.Cursor c) → IsWithinHeap h (of_cursor h w id c c.over)
  cursor-within w id c e = of-cursor-within w id c c.over (object-below h (value.Obj id) (object.Cursor c) s e)

  -- what sequences give of others lies there too
  unpacked-within : (n : ℕ) (id : ObjId) (o : Option Object) → slice_get h id.0 ≡ o → IsWithinHeap h (sequence.unpack_content h n (value.Obj id))
      → IsWithinHeap h (unpacked h n id o)
  unpacked-within n id (Some (object.Dict es)) e w = of-object-within (Count n) id (Some (object.Dict es)) e
  unpacked-within n id (Some (object.Set es)) e w = of-object-within (Count n) id (Some (object.Set es)) e
  unpacked-within n id (Some (object.View v)) e w = of-object-within (Count n) id (Some (object.View v)) e
  unpacked-within n id (Some (object.Cursor c)) e w = cursor-within (Count n) id c e
  unpacked-within n id o e w = w

  pub unpack-within : (n : ℕ) (v : Value) → IsWithinHeap h (sequence.unpack_content h n v) → IsWithinHeap h (unpack_content h n v)
  unpack-within n (value.Obj id) w = unpacked-within n id (slice_get h id.0) refl w
  unpack-within n v w = w

  starred-within : (n m : ℕ) (id : ObjId) (o : Option Object) → slice_get h id.0 ≡ o → IsWithinHeap h (stars.starred_content h n m (value.Obj id))
      → IsWithinHeap h (starred h n m id o)
  starred-within n m id (Some (object.Str t)) e w = of-object-within (Around n m) id (Some (object.Str t)) e
  starred-within n m id (Some (object.Range r)) e w = of-object-within (Around n m) id (Some (object.Range r)) e
  starred-within n m id (Some (object.Dict es)) e w = of-object-within (Around n m) id (Some (object.Dict es)) e
  starred-within n m id (Some (object.Set es)) e w = of-object-within (Around n m) id (Some (object.Set es)) e
  starred-within n m id (Some (object.View v)) e w = of-object-within (Around n m) id (Some (object.View v)) e
  starred-within n m id (Some (object.Cursor c)) e w = cursor-within (Around n m) id c e
  starred-within n m id o e w = w

  pub unpack-star-within : (n m : ℕ) (v : Value) → IsWithinHeap h (stars.starred_content h n m v) → IsWithinHeap h (starred_content h n m v)
  unpack-star-within n m (value.Obj id) w = starred-within n m id (slice_get h id.0) refl w
  unpack-star-within n m v w = w
