-- Keys that differ in a part are apart.
use Rattle.std.proofs.Common.{◌≡◌, ℕ, Bool, true, false, Some, refl, sym, ap, ◌∙◌, subst, zero, suc, arith}
use Rattle.std.specs.Prelude.{MatchBool, nat_eq}
use Rattle.std.specs.BTreeMap.{Updates}
use Rattle.std.proofs.lemmas.Bool.{eqb-true}
use Rattle.std.proofs.lemmas.Bool.Decides.{nat_tests}
use Rattle.std.specs.declared.cmp.Ordering.{Ordering}
use Rattle.std.specs.declared.cmp.Ordering.TheVariants.{Less, Equal, Greater}
use Rattle.std.specs.Ordering.{nat_cmp, ordering_then, is_eq}
use Rattle.std.proofs.lemmas.Bool.{false≢true}
use Rattle.std.proofs.lemmas.Map.Lookups.{CmpEqualImpliesEq, exact_pairs, exact_unsigned}
use Rattle.pt_instr.specs.declared.kinds.Kind.{Kind}
use Rattle.pt_instr.specs.declared.kinds.Kind.TheVariants as kind
use Rattle.pt_kinds.specs.declared.known.Known.{Known}
use Rattle.pt_kinds.specs.Known.{key_cmp, rank, Adds}

abbrev pub kind_of : ℕ → Kind
kind_of zero = kind.Value
kind_of (suc zero) = kind.Cell
kind_of (suc (suc zero)) = kind.Iter
kind_of (suc (suc (suc zero))) = kind.Exc
kind_of (suc (suc (suc (suc zero)))) = kind.Pending
kind_of (suc (suc (suc (suc (suc n))))) = kind.With

pub kind_of_rank : (t : Kind) → kind_of (rank t) ≡ t
kind_of_rank kind.Value = refl
kind_of_rank kind.Cell = refl
kind_of_rank kind.Iter = refl
kind_of_rank kind.Exc = refl
kind_of_rank kind.Pending = refl
kind_of_rank kind.With = refl

exact_key : CmpEqualImpliesEq key_cmp
exact_key = exact_pairs (λ x y. ordering_then (nat_cmp x.0 y.0) (nat_cmp x.1 y.1)) nat_cmp (exact_pairs nat_cmp nat_cmp exact_unsigned exact_unsigned) exact_unsigned

is_equal : (o : Ordering) → is_eq o ≡ true → o ≡ Equal
is_equal Less e = absurd (false≢true e)
is_equal Equal e = refl
is_equal Greater e = absurd (false≢true e)

pub apart : (p c q d : ℕ) (s t : Kind) → (q ≡ p → d ≡ c → t ≡ s → ⊥) → is_eq (key_cmp ((p, c), rank s) ((q, d), rank t)) ≡ false
apart p c q d s t ne = by_test (is_eq (key_cmp ((p, c), rank s) ((q, d), rank t))) refl
  where
    by_test : (b : Bool) → is_eq (key_cmp ((p, c), rank s) ((q, d), rank t)) ≡ b → b ≡ false
    by_test false e = refl
    by_test true e = let same = exact_key ((p, c), rank s) ((q, d), rank t) (is_equal _ e) in
        absurd (ne (sym (ap (λ k. k.0.0) same)) (sym (ap (λ k. k.0.1) same)) (sym (sym (kind_of_rank s) ∙ (ap (λ k. kind_of k.1) same ∙ kind_of_rank t))))

pub one_rank : (s t : Kind) → rank s ≡ rank t → s ≡ t
one_rank s t e = sym (kind_of_rank s) ∙ (ap kind_of e ∙ kind_of_rank t)

-- what a map that has one more key knows
pub adds_by : (old new : Known) (p c r : ℕ) (k : Kind) (node : ℕ) → r ≡ rank k → Updates key_cmp old.nodes new.nodes ((p, c), r) (Some node) → Adds old new p c k node
adds_by old new p c r k node e u =
    let v : Updates key_cmp old.nodes new.nodes ((p, c), rank k) (Some node) = subst (λ n. Updates key_cmp old.nodes new.nodes ((p, c), n) (Some node)) e u in
    record { here = v.1; others = λ q d t ne. v.2 ((q, d), rank t) (apart p c q d k t ne) }

pub told_kind : (s t : Kind) (m n : ℕ) → m ≡ rank s → n ≡ rank t → (b : Bool) → nat_eq m n ≡ b → MatchBool b (s ≡ t) (s ≡ t → ⊥)
told_kind s t m n d e true f = one_rank s t (sym d ∙ (eqb-true m n f ∙ e))
told_kind s t m n d e false f = λ same. let k : m ≡ n = d ∙ (ap rank same ∙ sym e) in absurd (grind (arith, nat_tests))
