-- A Leave is lost exactly where its place has a size and its target has none.
use Rattle.std.proofs.Common.{◌≡◌, ℕ, ◌+◌, ◌<◌, ◌≤◌, true, false, not, List, length, Option, Some, None, refl, sym, ap, ◌∙◌, subst, zero, suc, arith, ◌⊎◌, inl, inr}
use Rattle.std.specs.Prelude.{is_some}
use Rattle.std.proofs.lemmas.Bool.{false≢true}
use Rattle.std.proofs.lemmas.Option.{same_Some}
use Rattle.pt_instr.specs.declared.Instr.{Instr}
use Rattle.pt_instr.specs.declared.Instr.TheVariants.{Leave}
use Rattle.pt_instr.specs.Effects.{Kinds}
use Rattle.pt_code.specs.View.{Ins}
use Rattle.pt_places.specs.declared.places.Place as P
use Rattle.pt_places.specs.PlaceTable.{place_at, HasPlaces}
use Rattle.pt_sizes.specs.Flow.{entry}
use Rattle.pt_sizes.proofs.Tables.{entry_in}
use Rattle.sem_fits.specs.fits.Block.{Block}
use Rattle.sem_fits.specs.fits.Places.{Gets, Reached}
use Rattle.sem_fits.specs.fits.Fits.{AllArrive, IsLost}
use Rattle.sem_fits.specs.fits.Laws.{IsLaid}
use Rattle.pt_verify_depths.specs.PlaceTable.{AreSizes}
use Rattle.pt_verify_depths.proofs.SizeLemmas.{kinds_have_sizes, sizes_have_kinds}
use Rattle.pt_block_limits.specs.Lost.{is_lost, leave_of, left_to}

-- what a place has of an instruction that leaves a loop
record LeavesTo (at : Option Ins) (t : ℕ) : Type 0 where
  ins : Ins
  is : at ≡ Some ins
  leaves : ins.instr ≡ Leave (record { 0 = t })

leaves_to : (i : Instr) (t : ℕ) → leave_of i ≡ Some t → i ≡ Leave (record { 0 = t })
leaves_to (Leave u) t e = ap (λ n. Leave (record { 0 = n })) (same_Some _ _ e)
leaves_to i t e = absurd cc

seen_leaving : (at : Option Ins) (t : ℕ) → left_to (place_at at) ≡ Some t → LeavesTo at t
seen_leaving (Some i) t e = record { ins = i; is = refl; leaves = leaves_to i.instr t e }
seen_leaving None t e = absurd cc

is_some_true : {X : Type 0} (o : Option X) (x : X) → o ≡ Some x → not (is_some o) ≡ true → ⊥
is_some_true None x e h = cc
is_some_true (Some y) x e h = cc

-- the parts of a place that is lost
record Parts (sizes : List (Option ℕ)) (size target : Option ℕ) : Type 0 where
  n : ℕ
  t : ℕ
  of_size : size ≡ Some n
  of_target : target ≡ Some t
  none : not (is_some (entry sizes t)) ≡ true

parts : (sizes : List (Option ℕ)) (size target : Option ℕ) → is_lost sizes size target ≡ true → Parts sizes size target
parts sizes (Some n) (Some t) e = record { n = n; t = t; of_size = refl; of_target = refl; none = e }
parts sizes (Some n) None e = absurd (false≢true e)
parts sizes None t e = absurd (false≢true e)

some_of : {X : Type 0} (o : Option X) → not (is_some o) ≡ false → (x : X) × (o ≡ Some x)
some_of (Some x) e = (x, refl)
some_of None e = absurd (false≢true (sym e))

below_or : (q l : ℕ) → q < l + 1 → (q < l) ⊎ (q ≡ l)
below_or zero zero h = inr (omega arith)
below_or zero (suc l) h = inl (omega arith)
below_or (suc q) zero h = absurd (omega arith)
below_or (suc q) (suc l) h = elim (below_or q l (omega arith)) [ inl a ↦ inl (omega arith) | inr a ↦ inr (ap (λ n. suc n) a) ]

-- of the places below a count none is lost
abbrev pub NoneLostBelow : (places : List (Option P.Place)) → List (Option ℕ) → ℕ → Type 0
NoneLostBelow places sizes k = (pc : ℕ) → pc < k → is_lost sizes (entry sizes pc) (left_to (entry places pc)) ≡ false

pub none_more : (places : List (Option P.Place)) (sizes : List (Option ℕ)) (k : ℕ) → NoneLostBelow places sizes k
    → is_lost sizes (entry sizes k) (left_to (entry places k)) ≡ false → NoneLostBelow places sizes (k + 1)
none_more places sizes k none here pc lt = elim (below_or pc k lt) [
  | inl a ↦ none pc a
  | inr a ↦ subst (λ q. is_lost sizes (entry sizes q) (left_to (entry places q)) ≡ false) (sym a) here
]

module _ (b : Block) (laid : IsLaid b) (places : List (Option P.Place)) (shown : HasPlaces b.at places) (sizes : List (Option ℕ)) (are : AreSizes b sizes) where
  sized : (q : ℕ) (ks : Kinds) → Gets b b.size q ks → entry sizes q ≡ Some (length ks)
  sized q ks got = are.whole b.size q (length ks) (kinds_have_sizes b b.size q ks got)

  pub is_one : (pc : ℕ) → is_lost sizes (entry sizes pc) (left_to (entry places pc)) ≡ true → IsLost b pc
  is_one pc e =
      let p = parts sizes (entry sizes pc) (left_to (entry places pc)) e in
      let s = seen_leaving (b.at pc) p.t (ap left_to (sym (shown pc)) ∙ p.of_target) in
      let k = sizes_have_kinds b b.size pc p.n (are.sound pc p.n p.of_size) in
      record {
        ins = s.ins;
        kinds = k.kinds;
        reached = record { gets = k.gets; low = laid pc s.ins s.is; stands = s.is };
        target = p.t;
        leaves = s.leaves;
        lost = λ ls g. is_some_true (entry sizes p.t) (length ls) (sized p.t ls g) p.none;
      }

  -- where a Leave is reached
  there : (pc : ℕ) (i : Ins) (ks : Kinds) → Reached b b.size pc i ks → (t : ℕ) → i.instr ≡ Leave (record { 0 = t })
      → is_lost sizes (entry sizes pc) (left_to (entry places pc)) ≡ not (is_some (entry sizes t))
  there pc i ks r t e = ap (λ o. is_lost sizes o (left_to (entry places pc))) (sized pc ks r.gets)
      ∙ (ap (λ o. is_lost sizes (Some (length ks)) (left_to o)) (shown pc) ∙ (ap (λ o. is_lost sizes (Some (length ks)) (left_to (place_at o))) r.stands
      ∙ ap (λ j. is_lost sizes (Some (length ks)) (leave_of j)) e))

  pub isnt_one : (pc : ℕ) → is_lost sizes (entry sizes pc) (left_to (entry places pc)) ≡ false → IsLost b pc → ⊥
  isnt_one pc e l =
      let f = some_of (entry sizes l.target) (sym (there pc l.ins l.kinds l.reached l.target l.leaves) ∙ e) in
      let k = sizes_have_kinds b b.size l.target f.0 (are.sound l.target f.0 f.1) in
      l.lost k.kinds k.gets

  pub all_arrive : (k : ℕ) → length sizes ≤ k → NoneLostBelow places sizes k → AllArrive b
  all_arrive k le none pc i ks r t e =
      let lt : pc < length sizes = entry_in sizes pc (length ks) (sized pc ks r.gets) in
      let f = some_of (entry sizes t) (sym (there pc i ks r t e) ∙ none pc (omega (arith, lt, le))) in
      let k = sizes_have_kinds b b.size t f.0 (are.sound t f.0 f.1) in
      record { kinds = k.kinds; gets = k.gets }
