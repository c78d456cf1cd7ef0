-- Edges that are added one by one.
use Rattle.std.proofs.Common.{◌≡◌, ℕ, ◌+◌, ◌<◌, ◌≤◌, suc, Bool, true, false, if◌then◌else◌, List, [], ◌∷◌, ◌++◌, length, map, take, Option, refl, sym, ap, ◌∙◌, arith, append_assoc, get_or}
use Rattle.std.specs.Prelude.{nat_lt, cond}
use Rattle.std.proofs.lemmas.List.{map-append, length-take-le}
use Rattle.std.proofs.Math.Seq.{take-suc}
use Rattle.pt_instr.specs.declared.effects.Effect.{Effect}
use Rattle.pt_ranges.specs.declared.handlers.Handler.{Handler}
use Rattle.pt_verify_depths.specs.Sizes.{is_enough}
use Rattle.pt_kind_flow.specs.declared.edges.Edge.{Edge}
use Rattle.pt_block_kinds.specs.Leads.{Lead, lead_of, leads_of, inside, leads_again, leads_behind, leads_aside, own_leads, numbered, row_lead}
use Rattle.pt_block_kinds.proofs.Lists.{with_number}

pub pushed : (es : List Edge) (e : Edge) → leads_of (es ++ e ∷ []) ≡ leads_of es ++ lead_of e ∷ []
pushed es e = map-append lead_of es (e ∷ [])

pub inside_append : (n : ℕ) (xs ys : List Lead) → inside n (xs ++ ys) ≡ inside n xs ++ inside n ys
inside_append n [] ys = refl
inside_append n (x ∷ xs) ys = by (inside_append n xs ys) (nat_lt x.to n)
  where
    by : inside n (xs ++ ys) ≡ inside n xs ++ inside n ys → (t : Bool)
        → cond t (x ∷ inside n (xs ++ ys)) (inside n (xs ++ ys)) ≡ cond t (x ∷ inside n xs) (inside n xs) ++ inside n ys
    by ih true = ap (λ zs. x ∷ zs) ih
    by ih false = ih

pub own_inside : (old : List Lead) (n : ℕ) (e : Effect) (size pc next : ℕ) (t : Option ℕ) → is_enough e size ≡ true
    → ((old ++ inside n (leads_again e.again size pc)) ++ inside n (leads_behind e size next e.gives)) ++ inside n (leads_aside e size t e.aside)
    ≡ old ++ inside n (own_leads e size pc next t)
own_inside old n e size pc next t enough =
    append_assoc (old ++ inside n (leads_again e.again size pc)) (inside n (leads_behind e size next e.gives)) (inside n (leads_aside e size t e.aside))
    ∙ (append_assoc old (inside n (leads_again e.again size pc)) (inside n (leads_behind e size next e.gives) ++ inside n (leads_aside e size t e.aside))
    ∙ ap (λ zs. old ++ zs) (ap (λ zs. inside n (leads_again e.again size pc) ++ zs) (sym (inside_append n (leads_behind e size next e.gives) (leads_aside e size t e.aside)))
    ∙ (sym (inside_append n (leads_again e.again size pc) (leads_behind e size next e.gives ++ leads_aside e size t e.aside))
    ∙ ap (λ u. inside n (if u then leads_again e.again size pc ++ (leads_behind e size next e.gives ++ leads_aside e size t e.aside) else [])) (sym enough))))

numbered_append : (k : ℕ) (xs ys : List Handler) → numbered k (xs ++ ys) ≡ numbered k xs ++ numbered (k + length xs) ys
numbered_append k [] ys = ap (λ i. numbered i ys) (let z : k ≡ k + 0 = omega arith in z)
numbered_append k (x ∷ xs) ys = ap (λ zs. with_number k x ∷ zs) (numbered_append (k + 1) xs ys
    ∙ ap (λ i. numbered (k + 1) xs ++ numbered i ys) (let z : (k + 1) + length xs ≡ k + suc (length xs) = omega arith in z))

-- one more row
pub numbered_more : (rows : List Handler) (i : ℕ) (d : Handler) → i < length rows
    → numbered 0 (take i rows) ++ with_number i (get_or rows i d) ∷ [] ≡ numbered 0 (take (i + 1) rows)
numbered_more rows i d lt =
    ap (λ n. numbered 0 (take i rows) ++ with_number n (get_or rows i d) ∷ [])
    (let l = length-take-le i rows (let h : i ≤ length rows = omega (arith, lt) in h) in let z : i ≡ 0 + length (take i rows) = omega (arith, l) in z)
    ∙ (sym (numbered_append 0 (take i rows) (get_or rows i d ∷ []))
    ∙ ap (λ xs. numbered 0 xs) (sym (take-suc rows i d lt) ∙ ap (λ n. take n rows) (let z : suc i ≡ i + 1 = omega arith in z)))

pub rows_more : (base : ℕ) (rows : List Handler) (i : ℕ) (d : Handler) (old now : List Lead) → i < length rows
    → now ≡ old ++ map (row_lead base) (take i rows)
    → now ++ row_lead base (get_or rows i d) ∷ [] ≡ old ++ map (row_lead base) (take (i + 1) rows)
rows_more base rows i d old now lt e =
    ap (λ zs. zs ++ row_lead base (get_or rows i d) ∷ []) e
    ∙ (append_assoc old (map (row_lead base) (take i rows)) (row_lead base (get_or rows i d) ∷ [])
    ∙ ap (λ zs. old ++ zs) (sym (map-append (row_lead base) (take i rows) (get_or rows i d ∷ []))
    ∙ ap (map (row_lead base)) (sym (take-suc rows i d lt) ∙ ap (λ n. take n rows) (let z : suc i ≡ i + 1 = omega arith in z))))
