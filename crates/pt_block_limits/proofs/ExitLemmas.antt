-- The table of exits, place by place.
use Rattle.std.proofs.Common.{◌≡◌, ℕ, ◌+◌, ◌<◌, ◌≤◌, List, [], ◌∷◌, ◌++◌, length, Option, Some, None, refl, sym, ap, ◌∙◌, zero, suc, arith, ◌⊎◌, inl, inr}
use Rattle.pt_places.specs.declared.places.Place.{Place}
use Rattle.pt_sizes.specs.Flow.{entry}
use Rattle.pt_step_graph.specs.declared.exits.Exits.{Exits}
use Rattle.pt_block_limits.specs.Exits.{exits_at, HasExits}

below_or : (a b : ℕ) → (a < b) ⊎ (b ≤ a)
below_or zero zero = inr (omega arith)
below_or zero (suc b) = inl (omega arith)
below_or (suc a) zero = inr (omega arith)
below_or (suc a) (suc b) = elim (below_or a b) [ inl h ↦ inl (omega arith) | inr h ↦ inr (omega arith) ]

entry_left : {X : Type 0} (T : List (Option X)) (x : Option X) (q : ℕ) → q < length T → entry (T ++ x ∷ []) q ≡ entry T q
entry_left [] x q h = absurd (omega arith)
entry_left (y ∷ T) x zero h = refl
entry_left (y ∷ T) x (suc q) h = entry_left T x q (omega arith)

entry_last : {X : Type 0} (T : List (Option X)) (x : Option X) (q : ℕ) → q ≡ length T → entry (T ++ x ∷ []) q ≡ x
entry_last [] x zero h = refl
entry_last [] x (suc q) h = absurd (omega arith)
entry_last (y ∷ T) x zero h = absurd (omega arith)
entry_last (y ∷ T) x (suc q) h = entry_last T x q (omega arith)

entry_out : {X : Type 0} (T : List (Option X)) (q : ℕ) → length T ≤ q → entry T q ≡ None
entry_out [] q h = refl
entry_out (x ∷ T) zero h = absurd (omega arith)
entry_out (x ∷ T) (suc q) h = entry_out T q (omega arith)

pub each_more : (T : List (Option Exits)) (at : ℕ) (x : Option Exits) (f : ℕ → Option Exits) → length T ≡ at → ((pc : ℕ) → pc < at → entry T pc ≡ f pc)
    → x ≡ f at
    → (pc : ℕ) → pc < at + 1 → entry (T ++ x ∷ []) pc ≡ f pc
each_more T at x f long each is pc lt = elim (below_or pc at) [
  | inl h ↦ entry_left T x pc (omega arith) ∙ each pc h
  | inr h ↦ (let e : pc ≡ at = omega arith in entry_last T x pc (omega (arith, e, long)) ∙ (is ∙ ap f (sym e)))
]

no_size : (o : Option Place) (h : Option ℕ) → None ≡ exits_at o None h
no_size None h = refl
no_size (Some p) h = refl

pub all_exits : (places : List (Option Place)) (sizes : List (Option ℕ)) (held : List (Option ℕ)) (T : List (Option Exits)) (at : ℕ) → length T ≡ at
    → at ≡ length sizes
    → ((pc : ℕ) → pc < at → entry T pc ≡ exits_at (entry places pc) (entry sizes pc) (entry held pc)) → HasExits places sizes held T
all_exits places sizes held T at long end each = record {
  long = long ∙ end;
  each = λ pc. elim (below_or pc at) [
    | inl h ↦ each pc h
    | inr h ↦ entry_out T pc (omega (arith, h, long)) ∙ (no_size (entry places pc) (entry held pc)
        ∙ ap (λ o. exits_at (entry places pc) o (entry held pc)) (sym (entry_out sizes pc (omega (arith, h, end)))))
  ];
}
