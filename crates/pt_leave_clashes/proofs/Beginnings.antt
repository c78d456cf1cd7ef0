-- Lists of kinds with which others begin.
use Rattle.std.proofs.Common.{◌≡◌, ℕ, Bool, true, false, [], ◌∷◌, ◌&&◌, length, take, drop, refl, sym, ap, ◌∙◌, subst}
use Rattle.std.specs.Prelude.{MatchBool}
use Rattle.std.proofs.Math.Seq.{take-length}
use Rattle.pt_instr.specs.declared.kinds.Kind.{Kind}
use Rattle.pt_instr.specs.declared.kinds.Kind.TheVariants as kind
use Rattle.pt_instr.specs.Effects.{Kinds}
use Rattle.sem_fits.specs.fits.Steps.{is_kind, is_prefix}
use Rattle.sem_fits.proofs.fits.KindLemmas.{prefix_taken}

itself : (k : Kind) → is_kind k k ≡ true
itself kind.Value = refl
itself kind.Cell = refl
itself kind.Iter = refl
itself kind.Exc = refl
itself kind.Pending = refl
itself kind.With = refl

abbrev head_or : Kind → Kinds → Kind
head_or l [] = l
head_or l (k ∷ ks) = k

-- a list with which another begins
pub begun : (ls ks : Kinds) → take (length ls) ks ≡ ls → is_prefix ls ks ≡ true
begun [] ks e = refl
begun (l ∷ ls) [] e = absurd cc
begun (l ∷ ls) (k ∷ ks) e =
    let same : k ≡ l = ap (λ zs. head_or l zs) e in
    subst (λ z. (is_kind l z && is_prefix ls ks) ≡ true) (sym same) (ap (λ s. s && is_prefix ls ks) (itself l) ∙ begun ls ks (ap (drop 1) e))

-- so many of the lowest slots of a list are all of it
pub begins_is : (ls ks : Kinds) (n : ℕ) → n ≡ length ls → (t : Bool)
    → MatchBool t (take n ls ≡ take n ks) (take n ls ≡ take n ks → ⊥) → t ≡ is_prefix ls ks
begins_is ls ks n e true same = sym (begun ls ks (sym (ap (λ m. take m ks) e) ∙ (sym same ∙ (ap (λ m. take m ls) e ∙ take-length ls))))
begins_is ls ks n e false apart = by (is_prefix ls ks) refl
  where
    by : (t : Bool) → is_prefix ls ks ≡ t → false ≡ is_prefix ls ks
    by true f = absurd (apart (ap (λ m. take m ls) e ∙ (take-length ls ∙ (sym (prefix_taken ls ks f) ∙ ap (λ m. take m ks) (sym e)))))
    by false f = sym f
