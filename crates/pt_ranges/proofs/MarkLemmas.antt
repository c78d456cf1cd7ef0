-- Where the marks up to a place end, the last of them covers it.
use Rattle.std.proofs.Common.{◌≡◌, ◌<◌, ◌≤◌, ◌-◌, ℕ, zero, suc, Bool, true, false, List, [], ◌∷◌, map, length, get_or, refl, ◌∙◌, arith, Option, None, Some}
use Rattle.std.specs.Prelude.{nat_le, slice_get, take}
use Rattle.std.specs.List.{AllWithin}
use Rattle.std.specs.List.Sorted.{IsPartitionedBy}
use Rattle.std.proofs.lemmas.Bool.Decides.{nat_tests}
use Rattle.std.proofs.lemmas.List.{get_or-map, length-map, length-take-le}
use Rattle.std.proofs.lemmas.List.Kept.{AllPairs-from_increasing}
use Rattle.pt_base.specs.declared.numbers.Pc.{Pc}
use Rattle.pt_ranges.specs.declared.lines.ActMark.{ActMark}
use Rattle.pt_ranges.specs.Marks.{Rises, mark_over}

abbrev pub stands_by : Pc → ActMark → Bool
stands_by pc m = nat_le m.pc.0 pc.0

place_at : (rows : List ActMark) (i : ℕ) (d : ActMark) → i < length rows → get_or (map (λ (m : ActMark). m.pc.0) rows) i 0 ≡ (get_or rows i d).pc.0
place_at rows i d h = get_or-map (λ (m : ActMark). m.pc.0) rows i d 0 h

-- a mark before another has the lesser place
rising : (rows : List ActMark) (i j : ℕ) (d : ActMark) → Rises rows → i < j → j < length rows → (get_or rows i d).pc.0 < (get_or rows j d).pc.0
rising rows i j d rises less within =
    let within_map : j < length (map (λ (m : ActMark). m.pc.0) rows) = rw length-map within in
    omega (arith, AllPairs-from_increasing (map (λ (m : ActMark). m.pc.0) rows) rises i j 0 less within_map, place_at rows i d (omega arith), place_at rows j d within)

-- the marks up to a place stand before all others
pub parted : (rows : List ActMark) (pc : Pc) → Rises rows → IsPartitionedBy (stands_by pc) rows
parted rows pc rises i j d before within is =
    let below : i < j → (get_or rows i d).pc.0 < (get_or rows j d).pc.0 = λ less. rising rows i j d rises less within in
    grind (arith, nat_tests)

-- the last of the first i
last_of : List ActMark → ℕ → ActMark → Option ActMark
last_of rows zero d = None
last_of rows (suc i) d = Some (get_or rows i d)

last-take : (rows : List ActMark) (i : ℕ) (d : ActMark) → i ≤ length rows → slice_get (take i rows) (length (take i rows) - 1) ≡ last_of rows i d
unfolding last_of
last-take rows zero d within = refl
last-take [] (suc i) d within = absurd (omega arith)
last-take (m ∷ ms) (suc zero) d within = refl
last-take (m ∷ ms) (suc (suc i)) d within =
    let taken : length (take (suc i) ms) ≡ suc i = length-take-le (suc i) ms (omega arith) in
    let behind : suc (length (take (suc i) ms)) - 1 ≡ suc (length (take (suc i) ms) - 1) = omega (arith, taken) in
    rw behind (last-take ms (suc i) d (omega arith))

last_of-parted : (rows : List ActMark) (pc : Pc) (i : ℕ) (d : ActMark) → i ≤ length rows
    → AllWithin (λ m. stands_by pc m ≡ true) rows 0 i → AllWithin (λ m. stands_by pc m ≡ false) rows i (length rows)
    → last_of rows i d ≡ mark_over rows pc
unfolding last_of
last_of-parted [] pc zero d h before after = refl
last_of-parted [] pc (suc i) d h before after = absurd (omega arith)
last_of-parted (m ∷ ms) pc zero d h before after =
    let rest : None ≡ mark_over ms pc = last_of-parted ms pc zero d (omega arith) (λ k e low high. absurd (omega arith)) (λ k e low high. after (suc k) e (omega arith) (omega arith)) in
    let off : nat_le m.pc.0 pc.0 ≡ false = after zero d (omega arith) (omega arith) in
    rw (← rest, off) refl
last_of-parted (m ∷ ms) pc (suc zero) d h before after =
    let rest : None ≡ mark_over ms pc = last_of-parted ms pc zero d (omega arith) (λ k e low high. absurd (omega arith)) (λ k e low high. after (suc k) e (omega arith) (omega arith)) in
    let on : nat_le m.pc.0 pc.0 ≡ true = before zero d (omega arith) (omega arith) in
    rw (← rest, on) refl
last_of-parted (m ∷ ms) pc (suc (suc i)) d h before after =
    let rest : Some (get_or ms i d) ≡ mark_over ms pc = last_of-parted ms pc (suc i) d (omega arith) (λ k e low high. before (suc k) e (omega arith) (omega arith)) (λ k e low high. after (suc k) e (omega arith) (omega arith)) in
    rw (← rest) refl

-- where the marks up to a place are the first i, the last of them covers it
pub mark_over-parted : (rows : List ActMark) (pc : Pc) (i : ℕ) → i ≤ length rows
    → AllWithin (λ m. stands_by pc m ≡ true) rows 0 i → AllWithin (λ m. stands_by pc m ≡ false) rows i (length rows)
    → slice_get (take i rows) (length (take i rows) - 1) ≡ mark_over rows pc
mark_over-parted [] pc zero within before after = refl
mark_over-parted [] pc (suc i) within before after = absurd (omega arith)
mark_over-parted (m ∷ ms) pc i within before after = last-take (m ∷ ms) i m within ∙ last_of-parted (m ∷ ms) pc i m within before after
