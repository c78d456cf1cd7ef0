-- Lists that come to a forest one after the other.
use Rattle.std.proofs.Common.{◌≡◌, ℕ, zero, suc, ◌+◌, List, [], ◌∷◌, ◌++◌, take, replicate, Some, refl, sym, ap, ◌∙◌, subst, arith, append-nil, append_assoc}
use Rattle.std.specs.Prelude.{slice_get}
use Rattle.std.specs.List.{flat_map}
use Rattle.std.proofs.lemmas.Option.{same_Some}
use Rattle.pt_instr.specs.declared.kinds.Run.{Run}
use Rattle.pt_instr.specs.Effects.{Kinds}
use Rattle.pt_instr.specs.Runs.{kinds_of}
use Rattle.pt_kinds.specs.declared.forest.Forest.{Forest}
use Rattle.pt_kinds.specs.Forest.{Has, IsForest, IsInside, list_at}
use Rattle.pt_kind_flow.specs.Search.{Grows}

pub has_itself : (f : Forest) (i : ℕ) (ks : Kinds) → IsForest f → IsInside f i → list_at f i ≡ ks → Has f f i ks
has_itself f i ks is h e = record { forest = is; kept = λ j g. refl; more = omega arith; inside = h; is = e }

pub has_as : (old new : Forest) (i : ℕ) (ks ls : Kinds) → ks ≡ ls → Has old new i ks → Has old new i ls
has_as old new i ks ls e h = subst (λ x. Has old new i x) e h

pub grown : (old new : Forest) (i : ℕ) (ks : Kinds) → Has old new i ks → Grows old new
grown old new i ks h = record { forest = h.forest; kept = h.kept; more = h.more }

pub grows_itself : (f : Forest) → IsForest f → Grows f f
grows_itself f is = record { forest = is; kept = λ i h. refl; more = omega arith }

pub still_inside : (old new : Forest) (i : ℕ) → Grows old new → IsInside old i → IsInside new i
still_inside old new i g h = let m = g.more in omega (arith, m, h)

pub grows_then : (one two three : Forest) → Grows one two → Grows two three → Grows one three
grows_then one two three g h = record {
  forest = h.forest;
  kept = λ i k. h.kept i (still_inside one two i g k) ∙ g.kept i k;
  more = let m = g.more in let n = h.more in omega (arith, m, n);
}

pub has_then : (one two three : Forest) (i : ℕ) (ks : Kinds) → Grows one two → Has two three i ks → Has one three i ks
has_then one two three i ks g h = let k = grows_then one two three g (grown two three i ks h) in
    record { forest = k.forest; kept = k.kept; more = k.more; inside = h.inside; is = h.is }

pub flat_take : (runs : List Run) (i : ℕ) (run : Run) → slice_get runs i ≡ Some run → flat_map kinds_of (take (i + 1) runs) ≡ flat_map kinds_of (take i runs) ++ kinds_of run
flat_take [] i run e = absurd (cc)
flat_take (r ∷ []) zero run e = ap (λ x. kinds_of x ++ []) (same_Some r run e) ∙ append-nil (kinds_of run)
flat_take (r ∷ s ∷ runs) zero run e = ap (λ x. kinds_of x ++ []) (same_Some r run e) ∙ append-nil (kinds_of run)
flat_take (r ∷ runs) (suc i) run e =
    ap (λ n. flat_map kinds_of (take n (r ∷ runs))) (let z : suc i + 1 ≡ suc (i + 1) = omega arith in z)
    ∙ (ap (λ ks. kinds_of r ++ ks) (flat_take runs i run e) ∙ sym (append_assoc (kinds_of r) (flat_map kinds_of (take i runs)) (kinds_of run)))

-- a run is put on those before it
pub more_given : (one two three : Forest) (ks : Kinds) (runs : List Run) (i top list : ℕ) (run : Run) → slice_get runs i ≡ Some run
    → Has one two top (ks ++ flat_map kinds_of (take i runs)) → Has two three list (list_at two top ++ replicate run.count run.kind)
    → Has one three list (ks ++ flat_map kinds_of (take (i + 1) runs))
more_given one two three ks runs i top list run e h k = has_then one two three list _ (grown one two top _ h)
    (has_as two three list (list_at two top ++ replicate run.count run.kind) (ks ++ flat_map kinds_of (take (i + 1) runs))
    (ap (λ xs. xs ++ replicate run.count run.kind) h.is ∙ (append_assoc ks (flat_map kinds_of (take i runs)) (replicate run.count run.kind)
    ∙ ap (λ xs. ks ++ xs) (sym (flat_take runs i run e)))) k)
