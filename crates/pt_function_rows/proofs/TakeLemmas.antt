-- Values and cells that are taken off one by one.
use Rattle.std.proofs.Common.{◌≡◌, ◌∙◌, ◌+◌, ◌-◌, ◌<◌, ℕ, zero, suc, List, [], ◌∷◌, ◌++◌, length, map, Some, None, refl, sym, ap, arith}
use Rattle.std.specs.Prelude.{drop, reverse, slice_get, pos}
use Rattle.std.proofs.lemmas.List.{reverse-append}
use Rattle.pt_heap.specs.declared.value.Value.{Value}
use Rattle.pt_heap.specs.declared.value.Value.TheVariants as value
use Rattle.pt_frames.specs.declared.slot.Slot.{Slot}
use Rattle.pt_frames.specs.declared.slot.Slot.TheVariants as slot
use Rattle.pt_frames.specs.Slots.{active_in}
use Rattle.sem_control.specs.control.Turn.{stuck}
use Rattle.sem_code.specs.slots.Pops as P
use Rattle.sem_code.specs.slots.Pops.{Next}
use Rattle.pt_moves.specs.sem_rows.heap_rows.Views.{slots_view}
use Rattle.pt_moves.specs.Operands.{one_value}
use Rattle.pt_moves.proofs.TakeLemmas.{one_on}
use Rattle.pt_function_rows.specs.Operands.{values_before, cell_in, one_cell, cells_before}

-- one more value below those that were taken
pub value_below : (n : ℕ) (vs : List Value) (slots : List Slot) (ws : List Value) (v : Value)
    → values_before vs n slots ≡ Some ws → one_value (drop n slots) ≡ Some v → values_before vs (suc n) slots ≡ Some (v ∷ ws)
value_below zero vs [] ws v e f = absurd (cc)
value_below zero vs (slot.Value u ∷ slots) ws v e f = let p : vs ≡ ws = cc in let q : u ≡ v = cc in ap (λ o. Some (o ∷ vs)) q ∙ ap (λ l. Some (v ∷ l)) p
value_below zero vs (slot.Cell m ∷ slots) ws v e f = absurd (cc)
value_below zero vs (slot.Iter u ∷ slots) ws v e f = absurd (cc)
value_below zero vs (slot.Exc u ∷ slots) ws v e f = absurd (cc)
value_below zero vs (slot.Pending c ∷ slots) ws v e f = absurd (cc)
value_below zero vs (slot.With u ∷ slots) ws v e f = absurd (cc)
value_below (suc n) vs [] ws v e f = absurd (cc)
value_below (suc n) vs (slot.Value u ∷ slots) ws v e f = value_below n (u ∷ vs) slots ws v e f
value_below (suc n) vs (slot.Cell m ∷ slots) ws v e f = absurd (cc)
value_below (suc n) vs (slot.Iter u ∷ slots) ws v e f = absurd (cc)
value_below (suc n) vs (slot.Exc u ∷ slots) ws v e f = absurd (cc)
value_below (suc n) vs (slot.Pending c ∷ slots) ws v e f = absurd (cc)
value_below (suc n) vs (slot.With u ∷ slots) ws v e f = absurd (cc)

pub none_below : (n : ℕ) (vs : List Value) (slots : List Slot) → one_value (drop n slots) ≡ None → values_before vs (suc n) slots ≡ None
none_below zero vs [] f = refl
none_below zero vs (slot.Value u ∷ slots) f = absurd (cc)
none_below zero vs (slot.Cell m ∷ slots) f = refl
none_below zero vs (slot.Iter u ∷ slots) f = refl
none_below zero vs (slot.Exc u ∷ slots) f = refl
none_below zero vs (slot.Pending c ∷ slots) f = refl
none_below zero vs (slot.With u ∷ slots) f = refl
none_below (suc n) vs [] f = refl
none_below (suc n) vs (slot.Value u ∷ slots) f = none_below n (u ∷ vs) slots f
none_below (suc n) vs (slot.Cell m ∷ slots) f = refl
none_below (suc n) vs (slot.Iter u ∷ slots) f = refl
none_below (suc n) vs (slot.Exc u ∷ slots) f = refl
none_below (suc n) vs (slot.Pending c ∷ slots) f = refl
none_below (suc n) vs (slot.With u ∷ slots) f = refl

-- fewer are missing where more are wanted
pub still_none : (n : ℕ) (vs : List Value) (slots : List Slot) → values_before vs n slots ≡ None → values_before vs (suc n) slots ≡ None
still_none zero vs slots e = absurd (cc)
still_none (suc n) vs [] e = refl
still_none (suc n) vs (slot.Value u ∷ slots) e = still_none n (u ∷ vs) slots e
still_none (suc n) vs (slot.Cell m ∷ slots) e = refl
still_none (suc n) vs (slot.Iter u ∷ slots) e = refl
still_none (suc n) vs (slot.Exc u ∷ slots) e = refl
still_none (suc n) vs (slot.Pending c ∷ slots) e = refl
still_none (suc n) vs (slot.With u ∷ slots) e = refl

pub length_taken : (n : ℕ) (vs : List Value) (slots : List Slot) (ws : List Value) → values_before vs n slots ≡ Some ws → length ws ≡ length vs + n
length_taken zero vs slots ws e = let p : vs ≡ ws = cc in let l : length ws ≡ length vs = sym (ap length p) in omega (arith, l)
length_taken (suc n) vs [] ws e = absurd (cc)
length_taken (suc n) vs (slot.Value u ∷ slots) ws e = omega (arith, length_taken n (u ∷ vs) slots ws e)
length_taken (suc n) vs (slot.Cell m ∷ slots) ws e = absurd (cc)
length_taken (suc n) vs (slot.Iter u ∷ slots) ws e = absurd (cc)
length_taken (suc n) vs (slot.Exc u ∷ slots) ws e = absurd (cc)
length_taken (suc n) vs (slot.Pending c ∷ slots) ws e = absurd (cc)
length_taken (suc n) vs (slot.With u ∷ slots) ws e = absurd (cc)

-- those that were above stand behind
pub before_others : (n : ℕ) (vs us : List Value) (slots : List Slot) (ws : List Value) → values_before vs n slots ≡ Some ws → values_before (vs ++ us) n slots ≡ Some (ws ++ us)
before_others zero vs us slots ws e = let p : vs ≡ ws = cc in ap (λ l. Some (l ++ us)) p
before_others (suc n) vs us [] ws e = absurd (cc)
before_others (suc n) vs us (slot.Value u ∷ slots) ws e = before_others n (u ∷ vs) us slots ws e
before_others (suc n) vs us (slot.Cell m ∷ slots) ws e = absurd (cc)
before_others (suc n) vs us (slot.Iter u ∷ slots) ws e = absurd (cc)
before_others (suc n) vs us (slot.Exc u ∷ slots) ws e = absurd (cc)
before_others (suc n) vs us (slot.Pending c ∷ slots) ws e = absurd (cc)
before_others (suc n) vs us (slot.With u ∷ slots) ws e = absurd (cc)

pub none_before_others : (n : ℕ) (vs us : List Value) (slots : List Slot) → values_before vs n slots ≡ None → values_before (vs ++ us) n slots ≡ None
none_before_others zero vs us slots e = absurd (cc)
none_before_others (suc n) vs us [] e = refl
none_before_others (suc n) vs us (slot.Value u ∷ slots) e = none_before_others n (u ∷ vs) us slots e
none_before_others (suc n) vs us (slot.Cell m ∷ slots) e = refl
none_before_others (suc n) vs us (slot.Iter u ∷ slots) e = refl
none_before_others (suc n) vs us (slot.Exc u ∷ slots) e = refl
none_before_others (suc n) vs us (slot.Pending c ∷ slots) e = refl
none_before_others (suc n) vs us (slot.With u ∷ slots) e = refl

-- a turn takes the same
pub values_taken : (n : ℕ) (vs : List Value) (slots : List Slot) (next : Next Value (List Value)) (ws : List Value)
    → values_before vs n slots ≡ Some ws → P.values n vs (slots_view slots) next ≡ next ws (slots_view (drop n slots))
values_taken zero vs slots next ws e = let p : vs ≡ ws = cc in ap (λ l. next l (slots_view slots)) p
values_taken (suc n) vs [] next ws e = absurd (cc)
values_taken (suc n) vs (slot.Value u ∷ slots) next ws e = values_taken n (u ∷ vs) slots next ws e
values_taken (suc n) vs (slot.Cell m ∷ slots) next ws e = absurd (cc)
values_taken (suc n) vs (slot.Iter u ∷ slots) next ws e = absurd (cc)
values_taken (suc n) vs (slot.Exc u ∷ slots) next ws e = absurd (cc)
values_taken (suc n) vs (slot.Pending c ∷ slots) next ws e = absurd (cc)
values_taken (suc n) vs (slot.With u ∷ slots) next ws e = absurd (cc)

pub values_missing : (n : ℕ) (vs : List Value) (slots : List Slot) (next : Next Value (List Value)) → values_before vs n slots ≡ None → P.values n vs (slots_view slots) next ≡ stuck
values_missing zero vs slots next e = absurd (cc)
values_missing (suc n) vs [] next e = refl
values_missing (suc n) vs (slot.Value u ∷ slots) next e = values_missing n (u ∷ vs) slots next e
values_missing (suc n) vs (slot.Cell m ∷ slots) next e = refl
values_missing (suc n) vs (slot.Iter u ∷ slots) next e = refl
values_missing (suc n) vs (slot.Exc u ∷ slots) next e = refl
values_missing (suc n) vs (slot.Pending c ∷ slots) next e = refl
values_missing (suc n) vs (slot.With u ∷ slots) next e = refl

-- cells are passed on by their numbers
abbrev pub as_values : List ℕ → List Value
as_values ns = map (λ n. value.Int (pos n)) ns

pub cells_taken : (n : ℕ) (ns : List ℕ) (slots : List Slot) (next : Next Value (List Value)) (ms : List ℕ)
    → cells_before ns n slots ≡ Some ms → P.cells n (as_values ns) (slots_view slots) next ≡ next (as_values ms) (slots_view (drop n slots))
cells_taken zero ns slots next ms e = let p : ns ≡ ms = cc in ap (λ l. next (as_values l) (slots_view slots)) p
cells_taken (suc n) ns [] next ms e = absurd (cc)
cells_taken (suc n) ns (slot.Value u ∷ slots) next ms e = absurd (cc)
cells_taken (suc n) ns (slot.Cell m ∷ slots) next ms e = cells_taken n (m ∷ ns) slots next ms e
cells_taken (suc n) ns (slot.Iter u ∷ slots) next ms e = absurd (cc)
cells_taken (suc n) ns (slot.Exc u ∷ slots) next ms e = absurd (cc)
cells_taken (suc n) ns (slot.Pending c ∷ slots) next ms e = absurd (cc)
cells_taken (suc n) ns (slot.With u ∷ slots) next ms e = absurd (cc)

pub cells_missing : (n : ℕ) (ns : List ℕ) (slots : List Slot) (next : Next Value (List Value)) → cells_before ns n slots ≡ None → P.cells n (as_values ns) (slots_view slots) next ≡ stuck
cells_missing zero ns slots next e = absurd (cc)
cells_missing (suc n) ns [] next e = refl
cells_missing (suc n) ns (slot.Value u ∷ slots) next e = refl
cells_missing (suc n) ns (slot.Cell m ∷ slots) next e = cells_missing n (m ∷ ns) slots next e
cells_missing (suc n) ns (slot.Iter u ∷ slots) next e = refl
cells_missing (suc n) ns (slot.Exc u ∷ slots) next e = refl
cells_missing (suc n) ns (slot.Pending c ∷ slots) next e = refl
cells_missing (suc n) ns (slot.With u ∷ slots) next e = refl

-- one cell on top

pub first_cell : (slots : List Slot) → cell_in (slice_get slots 0) ≡ one_cell slots
first_cell [] = refl
first_cell (slot.Value v ∷ slots) = refl
first_cell (slot.Cell n ∷ slots) = refl
first_cell (slot.Iter v ∷ slots) = refl
first_cell (slot.Exc v ∷ slots) = refl
first_cell (slot.Pending c ∷ slots) = refl
first_cell (slot.With v ∷ slots) = refl

pub cell_on : (slots : List Slot) (n : ℕ) → one_cell slots ≡ Some n → slots ≡ slot.Cell n ∷ drop 1 slots
cell_on [] n e = absurd (cc)
cell_on (slot.Value w ∷ slots) n e = absurd (cc)
cell_on (slot.Cell m ∷ slots) n e = ap (λ o. slot.Cell o ∷ slots) (let q : m ≡ n = cc in q)
cell_on (slot.Iter w ∷ slots) n e = absurd (cc)
cell_on (slot.Exc w ∷ slots) n e = absurd (cc)
cell_on (slot.Pending c ∷ slots) n e = absurd (cc)
cell_on (slot.With w ∷ slots) n e = absurd (cc)

pub quiet_cell : (slots : List Slot) (n : ℕ) → one_cell slots ≡ Some n → active_in (drop 1 slots) ≡ active_in slots
quiet_cell slots n e = sym (ap active_in (cell_on slots n e))

-- one more is taken off

step_value : (vs : List Value) (k : ℕ) (slots : List Slot) (v : Value) → one_value slots ≡ Some v → values_before vs (suc k) slots ≡ values_before (v ∷ vs) k (drop 1 slots)
step_value vs k slots v e = ap (λ ss. values_before vs (suc k) ss) (one_on slots v e)

step_none : (vs : List Value) (k : ℕ) (slots : List Slot) → one_value slots ≡ None → values_before vs (suc k) slots ≡ None
step_none vs k [] e = refl
step_none vs k (slot.Value v ∷ slots) e = absurd (cc)
step_none vs k (slot.Cell m ∷ slots) e = refl
step_none vs k (slot.Iter v ∷ slots) e = refl
step_none vs k (slot.Exc v ∷ slots) e = refl
step_none vs k (slot.Pending c ∷ slots) e = refl
step_none vs k (slot.With v ∷ slots) e = refl

step_cell : (ns : List ℕ) (k : ℕ) (slots : List Slot) (m : ℕ) → one_cell slots ≡ Some m → cells_before ns (suc k) slots ≡ cells_before (m ∷ ns) k (drop 1 slots)
step_cell ns k slots m e = ap (λ ss. cells_before ns (suc k) ss) (cell_on slots m e)

step_none_cell : (ns : List ℕ) (k : ℕ) (slots : List Slot) → one_cell slots ≡ None → cells_before ns (suc k) slots ≡ None
step_none_cell ns k [] e = refl
step_none_cell ns k (slot.Value v ∷ slots) e = refl
step_none_cell ns k (slot.Cell m ∷ slots) e = absurd (cc)
step_none_cell ns k (slot.Iter v ∷ slots) e = refl
step_none_cell ns k (slot.Exc v ∷ slots) e = refl
step_none_cell ns k (slot.Pending c ∷ slots) e = refl
step_none_cell ns k (slot.With v ∷ slots) e = refl

none_more : (n : ℕ) → drop 1 (drop {A = Slot} n []) ≡ drop {A = Slot} (suc n) []
none_more zero = refl
none_more (suc n) = refl

pub one_more : (n : ℕ) (slots : List Slot) → drop 1 (drop n slots) ≡ drop (suc n) slots
one_more n [] = none_more n
one_more zero (s ∷ slots) = refl
one_more (suc n) (s ∷ slots) = one_more n slots

drop_more : (n : ℕ) (slots : List Slot) → drop 1 (drop n slots) ≡ drop (n + 1) slots
drop_more n slots = one_more n slots ∙ ap (λ k. drop k slots) (let h : suc n ≡ n + 1 = omega arith in h)

-- the lemmas of the loop: what was taken so far, the last first, stands before what is left to take

pub values_next : (xs : List Value) (v : Value) (n at : ℕ) (slots : List Slot) → at < n → one_value slots ≡ Some v
    → values_before (reverse (xs ++ v ∷ [])) (n - (at + 1)) (drop 1 slots) ≡ values_before (reverse xs) (n - at) slots
values_next xs v n at slots h e =
    ap (λ l. values_before l (n - (at + 1)) (drop 1 slots)) (reverse-append xs (v ∷ []))
    ∙ (sym (step_value (reverse xs) (n - (at + 1)) slots v e)
    ∙ ap (λ k. values_before (reverse xs) k slots) (let k : suc (n - (at + 1)) ≡ n - at = omega (arith, h) in k))

pub values_stop : (xs : List Value) (n at : ℕ) (slots : List Slot) → at < n → one_value slots ≡ None → values_before (reverse xs) (n - at) slots ≡ None
values_stop xs n at slots h e =
    ap (λ k. values_before (reverse xs) k slots) (let k : n - at ≡ suc (n - (at + 1)) = omega (arith, h) in k)
    ∙ step_none (reverse xs) (n - (at + 1)) slots e

pub cells_next : (xs : List ℕ) (m : ℕ) (n at : ℕ) (slots : List Slot) → at < n → one_cell slots ≡ Some m
    → cells_before (reverse (xs ++ m ∷ [])) (n - (at + 1)) (drop 1 slots) ≡ cells_before (reverse xs) (n - at) slots
cells_next xs m n at slots h e =
    ap (λ l. cells_before l (n - (at + 1)) (drop 1 slots)) (reverse-append xs (m ∷ []))
    ∙ (sym (step_cell (reverse xs) (n - (at + 1)) slots m e)
    ∙ ap (λ k. cells_before (reverse xs) k slots) (let k : suc (n - (at + 1)) ≡ n - at = omega (arith, h) in k))

pub cells_stop : (xs : List ℕ) (n at : ℕ) (slots : List Slot) → at < n → one_cell slots ≡ None → cells_before (reverse xs) (n - at) slots ≡ None
cells_stop xs n at slots h e =
    ap (λ k. cells_before (reverse xs) k slots) (let k : n - at ≡ suc (n - (at + 1)) = omega (arith, h) in k)
    ∙ step_none_cell (reverse xs) (n - (at + 1)) slots e

pub one_less : (n : ℕ) (old slots : List Slot) → drop n old ≡ slots → drop (n + 1) old ≡ drop 1 slots
one_less n old slots e = sym (drop_more n old) ∙ ap (λ ss. drop 1 ss) e

-- where all were taken
pub values_all : (xs : List Value) (n at : ℕ) (slots : List Slot) → at ≡ n → values_before (reverse xs) (n - at) slots ≡ Some (reverse xs)
values_all xs n at slots e = ap (λ k. values_before (reverse xs) k slots) (let k : n - at ≡ 0 = omega (arith, e) in k)

pub cells_all : (xs : List ℕ) (n at : ℕ) (slots : List Slot) → at ≡ n → cells_before (reverse xs) (n - at) slots ≡ Some (reverse xs)
cells_all xs n at slots e = ap (λ k. cells_before (reverse xs) k slots) (let k : n - at ≡ 0 = omega (arith, e) in k)

pub drop_all : (n at : ℕ) (old slots : List Slot) → at ≡ n → drop at old ≡ slots → slots ≡ drop n old
drop_all n at old slots e f = sym f ∙ ap (λ k. drop k old) e
