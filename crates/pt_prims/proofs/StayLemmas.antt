-- Each object keeps its place, and lists, dictionaries, sets and cursors stay what they are.
use Rattle.std.proofs.Common.{◌≡◌, ◌∙◌, ◌⊎◌, inl, inr, ℕ, zero, suc, Bool, true, false, List, [], ◌∷◌, ◌++◌, Option, None, Some, map, slice_get, set, if◌then◌else◌, refl, sym, ap}
use Rattle.std.proofs.lemmas.Bool.{false≢true}
use Rattle.pt_heap.specs.declared.object.Object.{Object}
use Rattle.pt_heap.specs.declared.object.Object.TheVariants as object
use Rattle.pt_content.specs.declared.content.Change.{Change}
use Rattle.pt_content.specs.declared.content.Content.{Content}
use Rattle.pt_content.specs.declared.content.Content.TheVariants as content
use Rattle.pt_content.specs.declared.content.Mutable.{Mutable}
use Rattle.pt_content.specs.declared.content.Mutable.TheVariants as mutable
use Rattle.pt_content.specs.declared.content.NewObject.TheVariants.{Text}
use Rattle.pt_content.specs.declared.content.Replacement.{Replacement}
use Rattle.pt_content.specs.Changes.{added, changed, has_kind, has_room, holding, made, replaced, replaced_by}
use Rattle.pt_prims.specs.Laws.{Remains, Stay}
use Rattle.pt_prims.specs.Operations.{grown}
use Rattle.pt_prims.proofs.Places.{get-left}

itself : (o : Object) → Remains o o
itself (object.List vs) = (vs, refl)
itself (object.Dict es) = (es, refl)
itself (object.Set es) = (es, refl)
itself (object.Cursor c) = (c, refl)
itself o = refl

kind-remains : (m : Mutable) (o : Object) → has_kind m (Some o) ≡ true → Remains o (holding m)
kind-remains (mutable.List vs) (object.List ws) e = (vs, refl)
kind-remains (mutable.Dict es) (object.Dict fs) e = (es, refl)
kind-remains (mutable.Set es) (object.Set fs) e = (es, refl)
kind-remains (mutable.Cursor c) (object.Cursor d) e = (c, refl)
kind-remains m o e = absurd (false≢true e)

get-set : (h : List Object) (i : ℕ) (x : Object) (j : ℕ) (o : Object) → slice_get h j ≡ Some o → (slice_get (set h i x) j ≡ Some o) ⊎ ((j ≡ i) × (slice_get (set h i x) j ≡ Some x))
get-set [] i x j o e = absurd cc
get-set (y ∷ h) zero x zero o e = inr (refl, refl)
get-set (y ∷ h) zero x (suc j) o e = inl e
get-set (y ∷ h) (suc i) x zero o e = inl e
get-set (y ∷ h) (suc i) x (suc j) o e = elim (get-set h i x j o e) [ inl p ↦ inl p | inr p ↦ inr (ap suc p.0, p.1) ]

unchanged : (h : List Object) → Stay h h
unchanged h i o e = (o, e, itself o)

replaced-stays : (r : Replacement) (h : List Object) → Stay h (replaced_by r h)
replaced-stays r h = by (has_kind r.object (slice_get h r.id.0)) refl
  where
    by : (b : Bool) → has_kind r.object (slice_get h r.id.0) ≡ b → Stay h (if b then set h r.id.0 (holding r.object) else h)
    by false k = unchanged h
    by true k = λ i o e. elim (get-set h r.id.0 (holding r.object) i o e) [
      | inl p ↦ (o, p, itself o)
      | inr p ↦ (holding r.object, p.1, kind-remains r.object o (ap (has_kind r.object) (sym (ap (slice_get h) (sym p.0) ∙ e)) ∙ k))
    ]

may-replace : (r : Option Replacement) (h : List Object) → Stay h (replaced r h)
may-replace None h = unchanged h
may-replace (Some r) h = replaced-stays r h

more-stays : (h k more : List Object) → Stay (h ++ more) k → Stay h k
more-stays h k more s i o e = s i o (get-left h more i o e)

change-stays : (c : Change) (h : List Object) → Stay h (changed c h)
change-stays c h = by (has_room c.objects h)
  where
    by : (b : Bool) → Stay h (if b then replaced c.replacement (h ++ map made c.objects) else h)
    by true = more-stays h (replaced c.replacement (h ++ map made c.objects)) (map made c.objects) (may-replace c.replacement (h ++ map made c.objects))
    by false = unchanged h

pub objects-stay : (c : Content) (h : List Object) → Stay h (grown c h)
objects-stay (content.New o) h = change-stays (added (o ∷ [])) h
objects-stay (content.NewValues os) h = change-stays (added os) h
objects-stay (content.Raise class t) h = change-stays (added (Text t ∷ [])) h
objects-stay (content.Changed c a) h = change-stays c h
objects-stay (content.Value v) h = unchanged h
objects-stay (content.Help helper inverted) h = unchanged h
objects-stay (content.Print t) h = unchanged h
objects-stay (content.Outside what) h = unchanged h
