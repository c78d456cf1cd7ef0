-- Operations that put an item into a list, dictionary or set do what is made in the object itself.
use Rattle.std.proofs.Common.{◌≡◌, ◌∙◌, ℕ, pos, negsuc, Bool, true, false, List, [], ◌∷◌, ◌++◌, length, nat_lt, nat_le, slice_get, Option, Some, None, Ok, Err, if◌then◌else◌, refl, sym, ap, subst, arith}
use Rattle.std.specs.Prelude.{slice_set}
use Rattle.std.proofs.lemmas.Bool.Decides.{nat_tests}
use Rattle.std.proofs.lemmas.List.{append-nil, length-append}
use Rattle.pt_base.specs.declared.numbers.ObjId.{ObjId}
use Rattle.pt_base.specs.declared.what.What.TheVariants.{Length}
use Rattle.pt_heap.specs.Entries.{Entry, put}
use Rattle.pt_heap.specs.Limits.{entry_limit}
use Rattle.pt_heap.specs.declared.value.Value.{Value}
use Rattle.pt_heap.specs.declared.value.Value.TheVariants as value
use Rattle.pt_heap.specs.declared.object.Object.{Object}
use Rattle.pt_heap.specs.declared.object.Object.TheVariants as object
use Rattle.pt_content.specs.Changes.{has_kind, holding, replaced_by, replacing}
use Rattle.pt_content.specs.declared.answer.PrimAns.TheVariants as answer
use Rattle.pt_content.specs.declared.content.Content.{Content}
use Rattle.pt_content.specs.declared.content.Content.TheVariants as content
use Rattle.pt_content.specs.declared.content.Mutable.{Mutable}
use Rattle.pt_content.specs.declared.content.Mutable.TheVariants as mutable
use Rattle.pt_content.specs.declared.method_name.MethodName.TheVariants.{Append, Add}
use Rattle.pt_content.specs.declared.op.Op.{Op}
use Rattle.pt_content.specs.declared.op.Op.TheVariants as op
use Rattle.pt_methods.specs.pt_list_changes.Items.{added_to, set_at, set_by}
use Rattle.pt_methods.specs.pt_list_changes.Items as list
use Rattle.pt_methods.specs.pt_list_changes.Changed.{list_changed, list_grown}
use Rattle.pt_methods.specs.Methods.{object_method}
use Rattle.pt_content.specs.declared.operand.Operand.TheVariants.{Number}
use Rattle.pt_methods.specs.pt_mappings.Entering.{entered_by, has_room}
use Rattle.pt_methods.specs.pt_mappings.Items.{set_item_content}
use Rattle.pt_methods.specs.pt_mappings.Items as dictionary
use Rattle.pt_methods.specs.pt_mappings.Keyed.{key_in, nothing}
use Rattle.pt_methods.specs.pt_mappings.declared.keyed.Keyed.{Keyed}
use Rattle.pt_methods.specs.pt_mappings.declared.keyed.Keyed.TheVariants as keyed
use Rattle.pt_methods.specs.pt_sets.Members as sets_of
use Rattle.pt_updates.specs.declared.update.Update.{Update}
use Rattle.pt_updates.specs.declared.update.Update.TheVariants as update
use Rattle.pt_updates.specs.Updates.{unless, updated, updated_at, put_in, IsUpdated}
use Rattle.pt_prims.specs.Operations.{content_of, placed, grown}
use Rattle.pt_prims.specs.Subscripts.{set_in, added_in, entered_in}
use Rattle.pt_prims.specs.Updates.{as_item, entry_by, member_by, stored_in, update_of, IsMade}

none-some : {A : Type 0} {a : A} → None ≡ Some a → ⊥
none-some e = cc

-- what a content does that answers None
abbrev Does : Content → List Value → (old new : List Object) → Type 0
Does c vs h g = (placed c vs h ≡ answer.Value value.None) × (g ≡ grown c h)

-- what the update of an operation does, its content does
abbrev Made : Option (ObjId × Update) → Content → List Value → (old : List Object) → Type 0
Made None c vs h = Unit {0}
Made (Some p) c vs h = (g : List Object) → updated p.1 p.0 h ≡ Some g → Does c vs h g

module _ (h : List Object) (vs : List Value) (id : ObjId) where
  replaces : (m : Mutable) (o : Object) → slice_get h id.0 ≡ Some o → has_kind m (Some o) ≡ true
      → Does (content.Changed (replacing id m) (answer.Value value.None)) vs h (slice_set h id.0 (holding m))
  replaces m o is kind = (
    refl,
    sym (ap (replaced_by (record { id = id; object = m })) (append-nil h)
        ∙ ap (λ x. if has_kind m x then slice_set h id.0 (holding m) else h) is
        ∙ ap (λ b. if b then slice_set h id.0 (holding m) else h) kind),
  )

  by_content : (c : Content) (m : Mutable) (o : Object) (g : List Object) → c ≡ content.Changed (replacing id m) (answer.Value value.None)
      → slice_get h id.0 ≡ Some o → has_kind m (Some o) ≡ true → Some (slice_set h id.0 (holding m)) ≡ Some g → Does c vs h g
  by_content c m o g e is kind same =
      let one : slice_set h id.0 (holding m) ≡ g = cc in
      subst (λ x. Does x vs h g) (sym e) (subst (Does (content.Changed (replacing id m) (answer.Value value.None)) vs h) one (replaces m o is kind))

  appended : (v : Value) (ws : List Value) (g : List Object) → slice_get h id.0 ≡ Some (object.List ws)
      → put_in id h (unless (nat_lt (length ws) entry_limit) (object.List (ws ++ v ∷ []))) ≡ Some g
      → Does (list_grown (value.Obj id) (ws ++ v ∷ [])) vs h g
  appended v ws g is e = by (nat_lt (length ws) entry_limit) refl
    where
      fits : nat_lt (length ws) entry_limit ≡ true → nat_le (length (ws ++ v ∷ [])) entry_limit ≡ true
      fits b = grind (arith, nat_tests, b, length-append ws (v ∷ []))

      by : (b : Bool) → nat_lt (length ws) entry_limit ≡ b → Does (list_grown (value.Obj id) (ws ++ v ∷ [])) vs h g
      by true b =
          by_content (list_grown (value.Obj id) (ws ++ v ∷ [])) (mutable.List (ws ++ v ∷ [])) (object.List ws) g
          (ap (λ x. if x then list_changed (value.Obj id) (ws ++ v ∷ []) value.None else content.Outside Length) (fits b)) is refl
          (sym (ap (λ x. put_in id h (unless x (object.List (ws ++ v ∷ [])))) b) ∙ e)
      by false b = absurd (none-some (sym (ap (λ x. put_in id h (unless x (object.List (ws ++ v ∷ [])))) b) ∙ e))

  -- of the object that stands there
  at : (u : Update) (o : Option Object) (g : List Object) → slice_get h id.0 ≡ o → updated u id h ≡ Some g → updated_at u id h o ≡ Some g
  at u o g is e = sym (ap (updated_at u id h) is) ∙ e

  adds : (v : Value) (o : Option Object) → slice_get h id.0 ≡ o → Made (Some (id, update.Append v)) (added_to (value.Obj id) v o) vs h
  adds v (Some (object.List ws)) is = λ g e. appended v ws g is (at (update.Append v) (Some (object.List ws)) g is e)
  adds v None is = λ g e. absurd (none-some (at (update.Append v) None g is e))
  adds v (Some o) is = λ g e. absurd (none-some (at (update.Append v) (Some o) g is e))

  appends : (v : Value) (o : Option Object) → slice_get h id.0 ≡ o → Made (Some (id, update.Append v)) (object_method Append h id (v ∷ []) o) vs h
  appends v (Some (object.List ws)) is = λ g e. appended v ws g is (at (update.Append v) (Some (object.List ws)) g is e)
  appends v None is = λ g e. absurd (none-some (at (update.Append v) None g is e))
  appends v (Some o) is = λ g e. absurd (none-some (at (update.Append v) (Some o) g is e))

  set : (v : Value) (i : ℕ) (ws : List Value) → slice_get h id.0 ≡ Some (object.List ws) → (g : List Object)
      → updated (update.Item i v) id h ≡ Some g → Does (set_by (value.Obj id) ws v (Number (pos i))) vs h g
  set v i ws is g e = by (nat_lt i (length ws)) refl
    where
      told : put_in id h (unless (nat_lt i (length ws)) (object.List (slice_set ws i v))) ≡ Some g
      told = at (update.Item i v) (Some (object.List ws)) g is e

      by : (b : Bool) → nat_lt i (length ws) ≡ b → Does (set_by (value.Obj id) ws v (Number (pos i))) vs h g
      by true b =
          by_content (set_by (value.Obj id) ws v (Number (pos i))) (mutable.List (slice_set ws i v)) (object.List ws) g
          (ap (λ x. set_at (value.Obj id) ws v (if x then Some i else None)) b) is refl
          (sym (ap (λ x. put_in id h (unless x (object.List (slice_set ws i v)))) b) ∙ told)
      by false b = absurd (none-some (sym (ap (λ x. put_in id h (unless x (object.List (slice_set ws i v)))) b) ∙ told))

  sets : (v i : Value) (ws : List Value) → slice_get h id.0 ≡ Some (object.List ws)
      → Made (as_item id (length ws) i v) (list.set_item_content h v (value.Obj id) i) vs h
  sets v (value.Int (pos n)) ws is = by (nat_lt n (length ws))
    where
      by : (b : Bool) → Made (if b then Some (id, update.Item n v) else None) (list.set_item_content h v (value.Obj id) (value.Int (pos n))) vs h
      by true = λ g e. subst (λ o. Does (list.set_in h v (value.Obj id) (Number (pos n)) o) vs h g) (sym is) (set v n ws is g e)
      by false = tt
  sets v (value.Int (negsuc n)) ws is = tt
  sets v i ws is = tt

  enter : (w v : Value) (es : List Entry) (k : List ℕ) → slice_get h id.0 ≡ Some (object.Dict es) → (g : List Object)
      → updated (update.Entry k w v) id h ≡ Some g → Does (dictionary.held id nothing (entered_by w v es (keyed.Key k))) vs h g
  enter w v es k there g e = by (has_room k es) refl
    where
      told : put_in id h (unless (has_room k es) (object.Dict (put k w v es))) ≡ Some g
      told = at (update.Entry k w v) (Some (object.Dict es)) g there e

      by : (b : Bool) → has_room k es ≡ b → Does (dictionary.held id nothing (entered_by w v es (keyed.Key k))) vs h g
      by true b =
          by_content (dictionary.held id nothing (entered_by w v es (keyed.Key k))) (mutable.Dict (put k w v es)) (object.Dict es) g
          (ap (λ x. dictionary.held id nothing (if x then Ok (put k w v es) else Err (content.Outside Length))) b) there refl
          (sym (ap (λ x. put_in id h (unless x (object.Dict (put k w v es)))) b) ∙ told)
      by false b = absurd (none-some (sym (ap (λ x. put_in id h (unless x (object.Dict (put k w v es)))) b) ∙ told))

  enters : (w v : Value) (es : List Entry) (k : Keyed) → slice_get h id.0 ≡ Some (object.Dict es)
      → Made (entry_by id w v k) (dictionary.held id nothing (entered_by w v es k)) vs h
  enters w v es (keyed.Refused c) there = tt
  enters w v es (keyed.Key k) there = enter w v es k there

  join : (v : Value) (es : List Entry) (k : List ℕ) → slice_get h id.0 ≡ Some (object.Set es) → (g : List Object)
      → updated (update.Member k v) id h ≡ Some g → Does (sets_of.held id (entered_by v value.None es (keyed.Key k))) vs h g
  join v es k there g e = by (has_room k es) refl
    where
      told : put_in id h (unless (has_room k es) (object.Set (put k v value.None es))) ≡ Some g
      told = at (update.Member k v) (Some (object.Set es)) g there e

      by : (b : Bool) → has_room k es ≡ b → Does (sets_of.held id (entered_by v value.None es (keyed.Key k))) vs h g
      by true b =
          by_content (sets_of.held id (entered_by v value.None es (keyed.Key k))) (mutable.Set (put k v value.None es)) (object.Set es) g
          (ap (λ x. sets_of.held id (if x then Ok (put k v value.None es) else Err (content.Outside Length))) b) there refl
          (sym (ap (λ x. put_in id h (unless x (object.Set (put k v value.None es)))) b) ∙ told)
      by false b = absurd (none-some (sym (ap (λ x. put_in id h (unless x (object.Set (put k v value.None es)))) b) ∙ told))

  joins : (v : Value) (es : List Entry) (k : Keyed) → slice_get h id.0 ≡ Some (object.Set es)
      → Made (member_by id v k) (sets_of.held id (entered_by v value.None es k)) vs h
  joins v es (keyed.Refused c) there = tt
  joins v es (keyed.Key k) there = join v es k there

  stores : (i v : Value) (o : Option Object) → slice_get h id.0 ≡ o → Made (stored_in h id i v o) (set_in h id i v o) vs h
  stores i v (Some (object.List ws)) is = sets v i ws is
  stores i v (Some (object.Dict es)) is = enters i v es (key_in h i) is
  stores i v None is = tt
  stores i v (Some o) is = tt

  -- an update of what has no such kind isn't made
  left : (u : Update) (c : Content) (o : Option Object) → slice_get h id.0 ≡ o → updated_at u id h o ≡ None → Made (Some (id, u)) c vs h
  left u c o is none = λ g e. absurd (none-some (sym none ∙ at u o g is e))

  -- what a comprehension makes
  enters_made : (k v : Value) (x : Keyed) (o : Option Object) → slice_get h id.0 ≡ o → key_in h k ≡ x
      → Made (entry_by id k v x) (entered_in h id k v o) vs h
  enters_made k v (keyed.Refused c) o is keys = tt
  enters_made k v (keyed.Key x) (Some (object.Dict es)) is keys =
      subst (λ y. Made (Some (id, update.Entry x k v)) (dictionary.held id nothing (entered_by k v es y)) vs h) (sym keys) (enter k v es x is)
  enters_made k v (keyed.Key x) None is keys = left (update.Entry x k v) (entered_in h id k v None) None is refl
  enters_made k v (keyed.Key x) (Some o) is keys = left (update.Entry x k v) (entered_in h id k v (Some o)) (Some o) is refl

  joins_made : (v : Value) (x : Keyed) (o : Option Object) → slice_get h id.0 ≡ o → key_in h v ≡ x
      → Made (member_by id v x) (added_in h id v o) vs h
  joins_made v (keyed.Refused c) o is keys = tt
  joins_made v (keyed.Key x) (Some (object.Set es)) is keys =
      subst (λ y. Made (Some (id, update.Member x v)) (sets_of.held id (entered_by v value.None es y)) vs h) (sym keys) (join v es x is)
  joins_made v (keyed.Key x) None is keys = left (update.Member x v) (added_in h id v None) None is refl
  joins_made v (keyed.Key x) (Some o) is keys = left (update.Member x v) (added_in h id v (Some o)) (Some o) is refl

  joins_set : (v : Value) (x : Keyed) (o : Option Object) → slice_get h id.0 ≡ o → key_in h v ≡ x
      → Made (member_by id v x) (object_method Add h id (v ∷ []) o) vs h
  joins_set v (keyed.Refused c) o is keys = tt
  joins_set v (keyed.Key x) (Some (object.Set es)) is keys =
      subst (λ y. Made (Some (id, update.Member x v)) (sets_of.held id (entered_by v value.None es y)) vs h) (sym keys) (join v es x is)
  joins_set v (keyed.Key x) None is keys = left (update.Member x v) (object_method Add h id (v ∷ []) None) None is refl
  joins_set v (keyed.Key x) (Some o) is keys = left (update.Member x v) (object_method Add h id (v ∷ []) (Some o)) (Some o) is refl

made_so : (o : Op) (vs : List Value) (h : List Object) → Made (update_of o vs h) (content_of o vs h) vs h
made_so op.ListAdd (value.Obj id ∷ v ∷ []) h = adds h (value.Obj id ∷ v ∷ []) id v (slice_get h id.0) refl
made_so (op.CallMethod Append) (value.Obj id ∷ v ∷ []) h = appends h (value.Obj id ∷ v ∷ []) id v (slice_get h id.0) refl
made_so op.SetItem (v ∷ value.Obj id ∷ i ∷ []) h = stores h (v ∷ value.Obj id ∷ i ∷ []) id i v (slice_get h id.0) refl
made_so op.DictAdd (value.Obj id ∷ k ∷ v ∷ []) h = enters_made h (value.Obj id ∷ k ∷ v ∷ []) id k v (key_in h k) (slice_get h id.0) refl refl
made_so op.SetAdd (value.Obj id ∷ v ∷ []) h = joins_made h (value.Obj id ∷ v ∷ []) id v (key_in h v) (slice_get h id.0) refl refl
made_so (op.CallMethod Add) (value.Obj id ∷ v ∷ []) h = joins_set h (value.Obj id ∷ v ∷ []) id v (key_in h v) (slice_get h id.0) refl refl
made_so o vs h = tt

pub made_or_left : (o : Op) (vs : List Value) (h g : List Object) (id : ObjId) (u : Update) (b : Bool) → update_of o vs h ≡ Some (id, u)
    → IsUpdated (updated u id h) h g b → IsMade o vs h g b
made_or_left o vs h g id u true is e = subst (λ x. Made x (content_of o vs h) vs h) is (made_so o vs h) g e
made_or_left o vs h g id u false is e = e.1

pub left_alone : (o : Op) (vs : List Value) (h : List Object) → IsMade o vs h h false
left_alone o vs h = refl
