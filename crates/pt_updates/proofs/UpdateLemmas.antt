-- What an object holds behind an update, and the heap into which it is put back.
use Rattle.std.proofs.Common.{◌≡◌, ◌∙◌, ◌≤◌, ℕ, Bool, true, false, IsTrue, List, [], ◌∷◌, ◌++◌, length, nat_lt, set-set, slice_get, Some, refl, sym, ap}
use Rattle.std.specs.Prelude.{slice_set}
use Rattle.std.proofs.lemmas.Option.{slice_get_past}
use Rattle.pt_base.specs.declared.numbers.ObjId.{ObjId}
use Rattle.pt_heap.specs.Entries.{Entry, put}
use Rattle.pt_heap.specs.Limits.{entry_limit}
use Rattle.pt_heap.specs.declared.value.Value.{Value}
use Rattle.pt_heap.specs.declared.value.Value.TheVariants as value
use Rattle.pt_heap.specs.declared.object.Object.{Object}
use Rattle.pt_heap.specs.declared.object.Object.TheVariants as object
use Rattle.pt_content.proofs.pt_attrs.StoreLemmas.{set-back}
use Rattle.pt_mappings.specs.Entering.{has_room}
use Rattle.pt_updates.specs.declared.update.Update.{Update}
use Rattle.pt_updates.specs.declared.update.Update.TheVariants as update
use Rattle.pt_updates.specs.Updates.{unless, with_update, put_in, updated_at, updated, IsWith, IsUpdated}

-- by whether it is done
by_done : (b c : Bool) (old new wanted : Object) → b ≡ c → (IsTrue b → new ≡ wanted) → (b ≡ false → new ≡ old) → IsWith (unless c wanted) old new b
by_done true true old new wanted e done left = ap Some (sym (done refl))
by_done false false old new wanted e done left = (refl, left refl)
by_done true false old new wanted e done left = absurd cc
by_done false true old new wanted e done left = absurd cc

pub appended : (vs ws : List Value) (v : Value) (b : Bool) → b ≡ nat_lt (length vs) entry_limit → (IsTrue b → ws ≡ vs ++ v ∷ []) → (b ≡ false → ws ≡ vs)
    → IsWith (with_update (update.Append v) (object.List vs)) (object.List vs) (object.List ws) b
appended vs ws v b e done left =
    by_done b (nat_lt (length vs) entry_limit) (object.List vs) (object.List ws) (object.List (vs ++ v ∷ [])) e (λ d. ap object.List (done d)) (λ l. ap object.List (left l))

pub replaced : (vs ws : List Value) (i : ℕ) (v : Value) (b : Bool) → b ≡ nat_lt i (length vs) → (IsTrue b → ws ≡ slice_set vs i v) → (b ≡ false → ws ≡ vs)
    → IsWith (with_update (update.Item i v) (object.List vs)) (object.List vs) (object.List ws) b
replaced vs ws i v b e done left =
    by_done b (nat_lt i (length vs)) (object.List vs) (object.List ws) (object.List (slice_set vs i v)) e (λ d. ap object.List (done d)) (λ l. ap object.List (left l))

pub entered : (es fs : List Entry) (k : List ℕ) (first v : Value) (b : Bool) → b ≡ has_room k es → (IsTrue b → fs ≡ put k first v es) → (b ≡ false → fs ≡ es)
    → IsWith (with_update (update.Entry k first v) (object.Dict es)) (object.Dict es) (object.Dict fs) b
entered es fs k first v b e done left =
    by_done b (has_room k es) (object.Dict es) (object.Dict fs) (object.Dict (put k first v es)) e (λ d. ap object.Dict (done d)) (λ l. ap object.Dict (left l))

pub joined : (es fs : List Entry) (k : List ℕ) (v : Value) (b : Bool) → b ≡ has_room k es → (IsTrue b → fs ≡ put k v value.None es) → (b ≡ false → fs ≡ es)
    → IsWith (with_update (update.Member k v) (object.Set es)) (object.Set es) (object.Set fs) b
joined es fs k v b e done left =
    by_done b (has_room k es) (object.Set es) (object.Set fs) (object.Set (put k v value.None es)) e (λ d. ap object.Set (done d)) (λ l. ap object.Set (left l))

-- another object stands there meanwhile
module _ (h : List Object) (id : ObjId) (meanwhile o : Object) (is : slice_get h id.0 ≡ Some o) where
  pub stays : (p : Object) → p ≡ o → slice_set (slice_set h id.0 meanwhile) id.0 p ≡ h
  stays p same = set-set h id.0 meanwhile p ∙ ap (slice_set h id.0) same ∙ set-back h id.0 o is

  pub put_back : (u : Update) (p : Object) (b : Bool) → IsWith (with_update u o) o p b
      → IsUpdated (updated u id h) h (slice_set (slice_set h id.0 meanwhile) id.0 p) b
  put_back u p true e = ap (updated_at u id h) is ∙ ap (put_in id h) e ∙ ap Some (sym (set-set h id.0 meanwhile p))
  put_back u p false e = (ap (updated_at u id h) is ∙ ap (put_in id h) e.0, stays p e.1)

pub beyond : (h : List Object) (id : ObjId) (u : Update) → length h ≤ id.0 → IsUpdated (updated u id h) h h false
beyond h id u past = (ap (updated_at u id h) (slice_get_past h id.0 past), refl)
