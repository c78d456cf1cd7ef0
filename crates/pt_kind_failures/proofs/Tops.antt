-- What lies on top of a list of kinds, where the list is another with kinds on top.
use Rattle.std.proofs.Common.{◌≡◌, Bool, true, false, ◌&&◌, ◌||◌, [], ◌∷◌, ◌++◌, drop, refl, sym, ap, ◌∙◌}
use Rattle.std.specs.Prelude.{MatchBool}
use Rattle.std.proofs.lemmas.List.{take-append-drop}
use Rattle.std.proofs.Math.Seq.{drop-append_seam}
use Rattle.pt_instr.specs.declared.effects.Effect.{Effect}
use Rattle.pt_instr.specs.declared.kinds.Kind.{Kind}
use Rattle.pt_instr.specs.declared.kinds.Kind.TheVariants as kind
use Rattle.pt_instr.specs.Effects.{Kinds}
use Rattle.sem_fits.specs.fits.Steps.{is_kind, are_kinds, spared, below, taken, swaps_iterator}
use Rattle.sem_fits.proofs.fits.KindLemmas.{same_kinds, no_swap, length_below}
use Rattle.pt_kind_failures.specs.Lacking.{has_taken}

is_itself : (k : Kind) → is_kind k k ≡ true
is_itself kind.Value = refl
is_itself kind.Cell = refl
is_itself kind.Iter = refl
is_itself kind.Exc = refl
is_itself kind.Pending = refl
is_itself kind.With = refl

are_themselves : (ks : Kinds) → are_kinds ks ks ≡ true
are_themselves [] = refl
are_themselves (k ∷ ks) = ap (λ t. t && are_kinds ks ks) (is_itself k) ∙ are_themselves ks

module _ (e : Effect) (ks : Kinds) where
  upon : (given : Kinds) → are_kinds (taken e ks) given ≡ true → ks ≡ below e ks ++ given
  upon given h = sym (take-append-drop (spared e ks) ks) ∙ ap (λ ts. below e ks ++ ts) (same_kinds (taken e ks) given h)

  on_top : (given : Kinds) → ks ≡ below e ks ++ given → are_kinds (taken e ks) given ≡ true
  on_top given h = ap (λ ts. are_kinds ts given) parted ∙ are_themselves given
    where
      parted : taken e ks ≡ given
      parted = ap (λ xs. drop (spared e ks) xs) h
          ∙ (ap (λ n. drop n (below e ks ++ given)) (sym (length_below e ks)) ∙ drop-append_seam (below e ks) given)

  tells : (given whole lower : Kinds) → whole ≡ ks → lower ≡ below e ks → (t : Bool)
      → MatchBool t (whole ≡ lower ++ given) (whole ≡ lower ++ given → ⊥) → t ≡ are_kinds (taken e ks) given
  tells given whole lower w l true h = sym (on_top given (sym w ∙ (h ∙ ap (λ xs. xs ++ given) l)))
  tells given whole lower w l false h = by (are_kinds (taken e ks) given) refl
    where
      by : (t : Bool) → are_kinds (taken e ks) given ≡ t → false ≡ t
      by false x = refl
      by true x = absurd (h (w ∙ (upon given x ∙ ap (λ xs. xs ++ given) (sym l))))

  -- the kinds that are taken lie there
  pub tells_found : (lower : Kinds) → lower ≡ below e ks → (t : Bool) → MatchBool t (ks ≡ lower ++ e.takes) (ks ≡ lower ++ e.takes → ⊥)
      → t ≡ true → t ≡ has_taken e ks
  tells_found lower l t h found = found ∙ sym (ap (λ x. x || swaps_iterator e ks) (sym (tells e.takes ks lower refl l t h) ∙ found))

  -- or nothing else may
  pub tells_unswapped : (lower : Kinds) → lower ≡ below e ks → (t : Bool) → MatchBool t (ks ≡ lower ++ e.takes) (ks ≡ lower ++ e.takes → ⊥)
      → t ≡ false → e.swaps ≡ false → t ≡ has_taken e ks
  tells_unswapped lower l t h found swaps =
      found ∙ (sym (no_swap e ks swaps) ∙ sym (ap (λ x. x || swaps_iterator e ks) (sym (tells e.takes ks lower refl l t h) ∙ found)))

  -- or a value above an iterator may
  pub tells_swapped : (lower : Kinds) → lower ≡ below e ks → (t : Bool) → MatchBool t (ks ≡ lower ++ e.takes) (ks ≡ lower ++ e.takes → ⊥)
      → t ≡ false → e.swaps ≡ true → (whole under : Kinds) → whole ≡ ks → under ≡ lower
      → (s : Bool) → MatchBool s (whole ≡ under ++ kind.Iter ∷ kind.Value ∷ []) (whole ≡ under ++ kind.Iter ∷ kind.Value ∷ [] → ⊥) → s ≡ has_taken e ks
  tells_swapped lower l t h found swaps whole under w u s x =
      tells (kind.Iter ∷ kind.Value ∷ []) whole under w (u ∙ l) s x
      ∙ (sym (ap (λ y. y && are_kinds (taken e ks) (kind.Iter ∷ kind.Value ∷ [])) swaps)
      ∙ sym (ap (λ y. y || swaps_iterator e ks) (sym (tells e.takes ks lower refl l t h) ∙ found)))
