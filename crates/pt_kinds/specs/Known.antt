-- Which node is that of a run upon another node.
use Rattle.std.specs.Prelude.{◌≡◌, ℕ, Option, None, Some}
use Rattle.std.specs.Ordering.{nat_cmp, ordering_then}
use Rattle.std.specs.declared.cmp.Ordering.{Ordering}
use Rattle.std.specs.BTreeMap.{get}
use Rattle.pt_instr.specs.declared.kinds.Kind.{Kind}
use Rattle.pt_instr.specs.declared.kinds.Kind.TheVariants as kind
use Rattle.pt_kinds.specs.declared.known.Known.{Known}

abbrev pub rank : Kind → ℕ
rank kind.Value = 0
rank kind.Cell = 1
rank kind.Iter = 2
rank kind.Exc = 3
rank kind.Pending = 4
rank kind.With = 5

abbrev pub Key : Type 0
Key = (ℕ × ℕ) × ℕ

abbrev pub key_cmp : Key → Key → Ordering
key_cmp x y = ordering_then
    (ordering_then (nat_cmp x.0.0 y.0.0) (nat_cmp x.0.1 y.0.1)) (nat_cmp x.1 y.1)

abbrev pub known_at : Known → (parent count : ℕ) → Kind → Option ℕ
known_at k p c t = get key_cmp k.nodes ((p, c), rank t)

pub record IsEmpty (k : Known) : Type 0 where
  pub none : (p c : ℕ) (t : Kind) → known_at k p c t ≡ None

pub record IsSame (old new : Known) : Type 0 where
  pub each : (p c : ℕ) (t : Kind) → known_at new p c t ≡ known_at old p c t

-- it knows one more
pub record Adds (old new : Known) (parent count : ℕ) (kind : Kind) (node : ℕ) : Type 0 where
  pub here : known_at new parent count kind ≡ Some node
  pub others : (p c : ℕ) (t : Kind) → (p ≡ parent → c ≡ count → t ≡ kind → ⊥)
      → known_at new p c t ≡ known_at old p c t
