-- What the loop knows that lists the pairs of own steps.
use Rattle.std.proofs.Common.{◌≡◌, ℕ, ◌+◌, List, ◌++◌, Option, sym, subst, arith, inl, inr}
use Rattle.std.specs.Prelude.{Contains}
use Rattle.std.proofs.lemmas.List.Elements.{Contains-append_left, Contains-append_right, Contains-append_cases}
use Rattle.pt_places.specs.declared.places.Place.{Place}
use Rattle.pt_places.specs.PlaceTable as T
use Rattle.pt_sizes.specs.Flow.{entry}
use Rattle.pt_joins.specs.declared.joins.Join.{Join}
use Rattle.pt_row_joins.specs.Rows.{Lists}
use Rattle.pt_row_joins.proofs.Ranks.{last_or}
use Rattle.pt_common_slots.specs.Joins.{own_joins, IsOwnBelow}

-- own steps, place by place
module _ (places : List (Option Place)) (sizes : List (Option ℕ)) (at : ℕ) (xs ys : List Join) (a : Lists (IsOwnBelow places sizes at) xs)
    (e : ys ≡ xs ++ own_joins sizes at (T.entry places at) (entry sizes at)) where
  own_only : (j : Join) → Contains ys j → IsOwnBelow places sizes (at + 1) j
  own_only j c = elim (Contains-append_cases xs (own_joins sizes at (T.entry places at) (entry sizes at)) j (subst (λ zs. Contains zs j) e c)) [
    | inl x ↦ (let o = a.only j x in record { pc = o.pc; low = (let h = o.low in omega (arith, h)); among = o.among })
    | inr y ↦ record { pc = at; low = omega arith; among = y }
  ]

  own_all : (j : Join) → IsOwnBelow places sizes (at + 1) j → Contains ys j
  own_all j o = subst (λ zs. Contains zs j) (sym e) (elim (last_or o.pc at o.low) [
    | inl h ↦ Contains-append_left xs (own_joins sizes at (T.entry places at) (entry sizes at)) j (a.all j (record { pc = o.pc; low = h; among = o.among }))
    | inr h ↦ Contains-append_right xs (own_joins sizes at (T.entry places at) (entry sizes at)) j
        (subst (λ q. Contains (own_joins sizes q (T.entry places q) (entry sizes q)) j) h o.among)
  ])

  pub own_more : Lists (IsOwnBelow places sizes (at + 1)) ys
  own_more = record { only = own_only; all = own_all }
