-- Whether a block gives values on, by its acts.
use Rattle.std.proofs.Common.{◌≡◌, ◌+◌, ℕ, zero, suc, Bool, true, false, List, [], ◌∷◌, drop, slice_get, refl, subst, arith}
use Rattle.std.specs.List.{list_any}
use Rattle.pt_tree.specs.declared.act.ActRow.{ActRow}
use Rattle.pt_tree.specs.declared.act.ActKind.TheVariants as A
use Rattle.pt_tree.specs.Blocks.{Code, acts_of_code, yields}
use Rattle.pt_compile.specs.PartialCode.{gives_at, gives_value}

any_same : {A : Type 0} (p q : A → Bool) → ((a : A) → p a ≡ q a) → (xs : List A) → list_any p xs ≡ list_any q xs
any_same p q h [] = refl
any_same p q h (x ∷ xs) = rw (h x, any_same p q h xs) refl

pub yields_by_acts : (c : Code) → yields c ≡ list_any (λ r. gives_value r.kind) (acts_of_code c)
yields_by_acts c = any_same _ (λ r. gives_value r.kind) (λ r. elim r.kind [ A.Const ↦ refl | A.Load ↦ refl | A.Build ↦ refl | A.Format ↦ refl | A.Join ↦ refl | A.Attr ↦ refl | A.Item ↦ refl | A.Slice ↦ refl | A.Unary ↦ refl | A.Not ↦ refl | A.Binary ↦ refl | A.Compare ↦ refl | A.Branch ↦ refl | A.Spread ↦ refl | A.Call ↦ refl | A.Function ↦ refl | A.Iter ↦ refl | A.Next ↦ refl | A.Add ↦ refl | A.Generator ↦ refl | A.Yield ↦ refl | A.Delegate ↦ refl | A.Store ↦ refl | A.SetAttr ↦ refl | A.SetItem ↦ refl | A.Unpack ↦ refl | A.InPlace ↦ refl | A.Delete ↦ refl | A.DelAttr ↦ refl | A.DelItem ↦ refl | A.Pass ↦ refl | A.Break ↦ refl | A.Continue ↦ refl | A.Return ↦ refl | A.Raise ↦ refl | A.Import ↦ refl | A.ImportName ↦ refl | A.Try ↦ refl | A.Match ↦ refl | A.Enter ↦ refl | A.Exit ↦ refl | A.Class ↦ refl | A.Discard ↦ refl ]) (acts_of_code c)

pub ruleset kinds = yields_by_acts

pub any_here : (xs : List ActRow) (i : ℕ) → gives_at (slice_get xs i) ≡ true → list_any (λ r. gives_value r.kind) (drop i xs) ≡ true
any_here [] i e = cc
any_here (x ∷ xs) zero e = rw e refl
any_here (x ∷ xs) (suc i) e = any_here xs i e

pub any_behind : (xs : List ActRow) (i : ℕ) → gives_at (slice_get xs i) ≡ false
    → list_any (λ r. gives_value r.kind) (drop i xs) ≡ list_any (λ r. gives_value r.kind) (drop (i + 1) xs)
any_behind [] zero e = refl
any_behind [] (suc i) e =
    let next : suc (i + 1) ≡ suc i + 1 = omega arith in
    subst (λ n. false ≡ list_any (λ (r : ActRow). gives_value r.kind) (drop n [])) next refl
any_behind (x ∷ xs) zero e = rw e refl
any_behind (x ∷ xs) (suc i) e =
    let next : suc (i + 1) ≡ suc i + 1 = omega arith in
    subst (λ n. list_any (λ r. gives_value r.kind) (drop i xs) ≡ list_any (λ r. gives_value r.kind) (drop n (x ∷ xs))) next (any_behind xs i e)

pub ruleset rows = (any_here, any_behind)
