-- What is listed of places, taken apart.
use Rattle.std.proofs.Common.{◌≡◌, ℕ, zero, suc, ◌+◌, ◌<◌, List, [], ◌∷◌, ◌++◌, length, take, get_or, append_assoc, Option, Some, None, refl, sym, ap, ◌∙◌, subst, arith, ◌⊎◌, inl, inr}
use Rattle.std.specs.Prelude.{Contains}
use Rattle.std.specs.List.{flat_map}
use Rattle.std.proofs.Math.Seq.{take-suc}
use Rattle.std.proofs.lemmas.Option.{same_Some}
use Rattle.std.proofs.lemmas.List.Elements.{Contains-append_left, Contains-append_right, Contains-append_cases}
use Rattle.pt_instr.specs.declared.Instr.{Instr}
use Rattle.pt_instr.specs.declared.Instr.TheVariants.{Leave, EndFinally, Exit}
use Rattle.pt_base.specs.declared.numbers.Pc.{Pc}
use Rattle.pt_ranges.specs.declared.handlers.Handler.{Handler}
use Rattle.pt_code.specs.View.{Ins}
use Rattle.pt_places.specs.declared.places.Place.{Place}
use Rattle.pt_places.specs.PlaceTable.{place_at}
use Rattle.pt_sizes.specs.Flow.{entry}
use Rattle.sem_fits.specs.fits.Leaves.{taker}
use Rattle.pt_closure.specs.Closure.{Pair}
use Rattle.pt_takers.specs.declared.takers.Takers.{Takers}
use Rattle.pt_verify_leaves.specs.Onto.{Knows, KnowsAt, rows_at, made_by, onto_by, onto, with_number, seed_by, seed_at, member_by, member_at, ended_by, ended_at, ListsBelow}
use Rattle.pt_verify_leaves.proofs.Gathers.{none_in, low_or}

pub the_one : {X : Type 0} (x : X) → Contains (x ∷ []) x
the_one x = (zero, omega arith, refl)

only_one : {X : Type 0} (x y : X) → Contains (x ∷ []) y → x ≡ y
only_one x y (zero, lt, e) = e
only_one x y (suc k, lt, e) = absurd (omega arith)

none_some : {X : Type 0} (x : X) → None ≡ Some x → ⊥
none_some x e = cc

-- an instruction as it is seen in the table of places
pub record Seen (o : Option Ins) (p : Place) : Type 0 where
  pub ins : Ins
  pub is : o ≡ Some ins
  pub instr : p.instr ≡ ins.instr
  pub next : p.next.0 ≡ ins.next

pub seen : (o : Option Ins) (p : Place) → place_at o ≡ Some p → Seen o p
seen (Some i) p e = let same = same_Some _ _ e in
    record { ins = i; is = refl; instr = sym (ap (λ x. x.instr) same); next = sym (ap (λ x. x.next.0) same) }
seen None p e = absurd (none_some p e)

-- a class with a target, or with a place

pub number_parts : (t : ℕ) (class : Option ℕ) (x : Pair) → Contains (with_number t class) x → (class ≡ Some x.0) × (t ≡ x.1)
number_parts t (Some c) x h = let e = only_one _ _ h in (ap (λ p. Some p.0) e, ap (λ p. p.1) e)
number_parts t None x h = absurd (none_in x h)

pub with_it : (t c : ℕ) (class : Option ℕ) → class ≡ Some c → Contains (with_number t class) (c, t)
with_it t c class e = subst (λ o. Contains (with_number t o) (c, t)) (sym e) (the_one _)

-- where a row takes a Leave at first

pub record Made (rows : List Handler) (classes : List (Option ℕ)) (pc target class : ℕ) : Type 0 where
  pub row : Handler
  pub takes : taker (rows_at rows pc) target ≡ Some row
  pub is : entry classes row.target.0 ≡ Some class

made_of : (rows : List Handler) (classes : List (Option ℕ)) (pc t c : ℕ) (o : Option Handler) → taker (rows_at rows pc) t ≡ o → made_by classes o ≡ Some c
    → Made rows classes pc t c
made_of rows classes pc t c (Some row) e f = record { row = row; takes = e; is = f }
made_of rows classes pc t c None e f = absurd (none_some c f)

pub made : (rows : List Handler) (classes : List (Option ℕ)) (pc t c : ℕ) → made_by classes (taker (rows_at rows pc) t) ≡ Some c → Made rows classes pc t c
made rows classes pc t c f = made_of rows classes pc t c (taker (rows_at rows pc) t) refl f

record LeavesTo (i : Instr) (rows : List Handler) (classes : List (Option ℕ)) (pc : ℕ) (x : Pair) : Type 0 where
  leaves : i ≡ Leave (record { 0 = x.1 })
  made : Made rows classes pc x.1 x.0

leaves_to : (rows : List Handler) (classes : List (Option ℕ)) (pc : ℕ) (i : Instr) (x : Pair) → Contains (seed_by rows classes pc i) x → LeavesTo i rows classes pc x
leaves_to rows classes pc (Leave t) x c = let (e, f) = number_parts t.0 (made_by classes (taker (rows_at rows pc) t.0)) x c in record {
  leaves = ap (λ n. Leave (record { 0 = n })) f;
  made = subst (λ n. Made rows classes pc n x.0) f (made rows classes pc t.0 x.0 e);
}
leaves_to rows classes pc i x c = absurd (none_in x c)

pub record SeedParts (rows : List Handler) (classes : List (Option ℕ)) (pc : ℕ) (place : Option Place) (size : Option ℕ) (x : Pair) : Type 0 where
  pub p : Place
  pub stands : place ≡ Some p
  pub n : ℕ
  pub sized : size ≡ Some n
  pub leaves : p.instr ≡ Leave (record { 0 = x.1 })
  pub made : Made rows classes pc x.1 x.0

pub seed_parts : (rows : List Handler) (classes : List (Option ℕ)) (pc : ℕ) (place : Option Place) (size : Option ℕ) (x : Pair)
    → Contains (seed_at rows classes pc place size) x → SeedParts rows classes pc place size x
seed_parts rows classes pc (Some p) (Some n) x c = let l = leaves_to rows classes pc p.instr x c in
    record { p = p; stands = refl; n = n; sized = refl; leaves = l.leaves; made = l.made }
seed_parts rows classes pc (Some p) None x c = absurd (none_in x c)
seed_parts rows classes pc None size x c = absurd (none_in x c)

-- from where it goes on

pub data Onward (rows : List Handler) (classes : List (Option ℕ)) (target pc : ℕ) (i : Instr) (next class : ℕ) : Type 0 where
  ends : i ≡ EndFinally → Made rows classes pc target class → Onward rows classes target pc i next class
  exits : i ≡ Exit → entry classes next ≡ Some class → Onward rows classes target pc i next class

pub onward_parts : (rows : List Handler) (classes : List (Option ℕ)) (t pc : ℕ) (i : Instr) (next c : ℕ) → onto_by rows classes t pc i next ≡ Some c
    → Onward rows classes t pc i next c
onward_parts rows classes t pc EndFinally next c e = ends refl (made rows classes pc t c e)
onward_parts rows classes t pc Exit next c e = exits refl e
onward_parts rows classes t pc i next c e = absurd (none_some c e)

pub record OntoParts (rows : List Handler) (classes : List (Option ℕ)) (target pc : ℕ) (place : Option Place) (class : ℕ) : Type 0 where
  pub p : Place
  pub stands : place ≡ Some p
  pub onward : Onward rows classes target pc p.instr p.next.0 class

pub onto_parts : (rows : List Handler) (classes : List (Option ℕ)) (t pc : ℕ) (place : Option Place) (c : ℕ) → onto rows classes t pc place ≡ Some c
    → OntoParts rows classes t pc place c
onto_parts rows classes t pc (Some p) c e = record { p = p; stands = refl; onward = onward_parts rows classes t pc p.instr p.next.0 c e }
onto_parts rows classes t pc None c e = absurd (none_some c e)

-- the places of a class

member_of : (class : Option ℕ) (pc : ℕ) (i : Instr) (x : Pair) → Contains (member_by class pc i) x → (class ≡ Some x.0) × (pc ≡ x.1)
member_of class pc EndFinally x c = number_parts pc class x c
member_of class pc Exit x c = number_parts pc class x c
member_of class pc i x c = absurd (none_in x c)

pub member_parts : (class : Option ℕ) (pc : ℕ) (place : Option Place) (x : Pair) → Contains (member_at class pc place) x → (class ≡ Some x.0) × (pc ≡ x.1)
member_parts class pc (Some p) x c = member_of class pc p.instr x c
member_parts class pc None x c = absurd (none_in x c)

pub record EndParts (class : Option ℕ) (place : Option Place) (c : ℕ) : Type 0 where
  pub p : Place
  pub stands : place ≡ Some p
  pub ends : p.instr ≡ EndFinally
  pub is : class ≡ Some c

ended_of : (class : Option ℕ) (i : Instr) (c : ℕ) → ended_by class i ≡ Some c → (i ≡ EndFinally) × (class ≡ Some c)
ended_of class EndFinally c e = (refl, e)
ended_of class i c e = absurd (none_some c e)

pub end_parts : (class : Option ℕ) (place : Option Place) (c : ℕ) → ended_at class place ≡ Some c → EndParts class place c
end_parts class (Some p) c e = let (f, g) = ended_of class p.instr c e in record { p = p; stands = refl; ends = f; is = g }
end_parts class None c e = absurd (none_some c e)

-- what several places give

pub in_flat : (f : ℕ → List Pair) (xs : List ℕ) (a : ℕ) (y : Pair) → Contains xs a → Contains (f a) y → Contains (flat_map f xs) y
in_flat f [] a y c d = absurd (none_in a c)
in_flat f (x ∷ xs) a y (zero, lt, e) d = Contains-append_left (f x) (flat_map f xs) y (subst (λ z. Contains (f z) y) (sym e) d)
in_flat f (x ∷ xs) a y (suc k, lt, e) d = Contains-append_right (f x) (flat_map f xs) y (in_flat f xs a y (k, omega (arith, lt), e) d)

pub record FlatParts (f : ℕ → List Pair) (xs : List ℕ) (y : Pair) : Type 0 where
  pub from : ℕ
  pub among : Contains xs from
  pub gives : Contains (f from) y

later_part : (f : ℕ → List Pair) (x : ℕ) (xs : List ℕ) (y : Pair) → FlatParts f xs y → FlatParts f (x ∷ xs) y
later_part f x xs y p = let (k, lt, e) = p.among in record { from = p.from; among = (suc k, omega (arith, lt), e); gives = p.gives }

pub flat_parts : (f : ℕ → List Pair) (xs : List ℕ) (y : Pair) → Contains (flat_map f xs) y → FlatParts f xs y
flat_parts f [] y c = absurd (none_in y c)
flat_parts f (x ∷ xs) y c = elim (Contains-append_cases (f x) (flat_map f xs) y c) [
  | inl h ↦ record { from = x; among = (zero, omega arith, refl); gives = h }
  | inr h ↦ later_part f x xs y (flat_parts f xs y h)
]

-- place by place

pub below_start : (f : ℕ → List Pair) (xs : List Pair) → xs ≡ [] → ListsBelow f 0 xs
below_start f xs e = record {
  only = λ x c. absurd (none_in x (subst (λ ys. Contains ys x) e c));
  all = λ x o. absurd (let h = o.low in omega (arith, h));
}

last_or : (a b : ℕ) → a < b + 1 → (a < b) ⊎ (a ≡ b)
last_or a b lt = elim (low_or a b) [ inl h ↦ inl h | inr h ↦ inr (omega (arith, h, lt)) ]

pub below_more : (f : ℕ → List Pair) (k : ℕ) (xs ys : List Pair) → ListsBelow f k xs → ys ≡ xs ++ f k → ListsBelow f (k + 1) ys
below_more f k xs ys b e = record {
  only = λ x c. elim (Contains-append_cases xs (f k) x (subst (λ zs. Contains zs x) e c)) [
    | inl h ↦ (let o = b.only x h in record { pc = o.pc; low = (let lt = o.low in omega (arith, lt)); among = o.among })
    | inr h ↦ record { pc = k; low = omega arith; among = h }
  ];
  all = λ x o. subst (λ zs. Contains zs x) (sym e) (elim (last_or o.pc k o.low) [
    | inl h ↦ Contains-append_left xs (f k) x (b.all x (record { pc = o.pc; low = h; among = o.among }))
    | inr h ↦ Contains-append_right xs (f k) x (subst (λ q. Contains (f q) x) h o.among)
  ]);
}

entry_left : (T : List (Option ℕ)) (x : Option ℕ) (q : ℕ) → q < length T → entry (T ++ x ∷ []) q ≡ entry T q
entry_left [] x q h = absurd (omega arith)
entry_left (y ∷ T) x zero h = refl
entry_left (y ∷ T) x (suc q) h = entry_left T x q (omega arith)

entry_last : (T : List (Option ℕ)) (x : Option ℕ) (q : ℕ) → q ≡ length T → entry (T ++ x ∷ []) q ≡ x
entry_last [] x zero h = refl
entry_last [] x (suc q) h = absurd (omega arith)
entry_last (y ∷ T) x zero h = absurd (omega arith)
entry_last (y ∷ T) x (suc q) h = entry_last T x q (omega arith)

pub each_more : (T : List (Option ℕ)) (at : ℕ) (x : Option ℕ) (f : ℕ → Option ℕ) → length T ≡ at → ((pc : ℕ) → pc < at → entry T pc ≡ f pc)
    → x ≡ f at → (pc : ℕ) → pc < at + 1 → entry (T ++ x ∷ []) pc ≡ f pc
each_more T at x f long each is pc lt = elim (last_or pc at lt) [
  | inl h ↦ entry_left T x pc (omega (arith, h, long)) ∙ each pc h
  | inr e ↦ entry_last T x pc (omega (arith, e, long)) ∙ (is ∙ ap f (sym e))
]

pub knows_at : (places : List (Option Place)) (rows : List Handler) (takers : Takers) → Knows places rows takers → (at pc : ℕ) {place : Option Place}
    → pc ≡ at → place ≡ entry places at → KnowsAt pc place rows takers
knows_at places rows takers k at pc same here = record {
  count = k.count;
  tells = k.tells;
  below = λ p e. let h = k.below at p (sym here ∙ e) in omega (arith, h, same);
}

-- the same of one place

pub same_seed : (rows : List Handler) (classes : List (Option ℕ)) (pc at : ℕ) {place other : Option Place} (size : Option ℕ) → pc ≡ at → place ≡ other
    → seed_at rows classes pc place size ≡ seed_at rows classes at other size
same_seed rows classes pc at {place = place} size e f = ap (λ q. seed_at rows classes q place size) e ∙ ap (λ o. seed_at rows classes at o size) f

pub same_member : (at : ℕ) {class other : Option ℕ} {place there : Option Place} → class ≡ other → place ≡ there → member_at class at place ≡ member_at other at there
same_member at {other = other} {place = place} e f = ap (λ k. member_at k at place) e ∙ ap (λ o. member_at other at o) f

pub same_end : {class other : Option ℕ} {place there : Option Place} → class ≡ other → place ≡ there → ended_at class place ≡ ended_at other there
same_end {other = other} {place = place} e f = ap (λ k. ended_at k place) e ∙ ap (λ o. ended_at other o) f

-- one more of several

append_none : (xs : List Pair) → xs ++ [] ≡ xs
append_none [] = refl
append_none (x ∷ xs) = ap (λ ys. x ∷ ys) (append_none xs)

flat_push : (f : ℕ → List Pair) (xs : List ℕ) (x : ℕ) → flat_map f (xs ++ x ∷ []) ≡ flat_map f xs ++ f x
flat_push f [] x = append_none (f x)
flat_push f (y ∷ xs) x = ap (λ zs. f y ++ zs) (flat_push f xs x) ∙ sym (append_assoc (f y) (flat_map f xs) (f x))

pub flat_more : (f : ℕ → List Pair) (xs : List ℕ) (k : ℕ) (work now more : List Pair) → k < length xs → now ≡ work ++ flat_map f (take k xs)
    → more ≡ now ++ f (get_or xs k 0) → more ≡ work ++ flat_map f (take (k + 1) xs)
flat_more f xs k work now more lt e is =
    let h : suc k ≡ k + 1 = omega arith in
    is ∙ (ap (λ zs. zs ++ f (get_or xs k 0)) e ∙ (append_assoc work (flat_map f (take k xs)) (f (get_or xs k 0)) ∙ ap (λ zs. work ++ zs)
    (sym (flat_push f (take k xs) (get_or xs k 0)) ∙ ap (λ ys. flat_map f ys) (sym (take-suc xs k 0 lt) ∙ ap (λ n. take n xs) h))))

pub same_onto : (rows : List Handler) (classes : List (Option ℕ)) (places : List (Option Place)) (to t pc at : ℕ) → to ≡ t → pc ≡ at
    → onto rows classes to pc (entry places pc) ≡ onto rows classes t at (entry places at)
same_onto rows classes places to t pc at e f = ap (λ u. onto rows classes u pc (entry places pc)) e ∙ ap (λ q. onto rows classes t q (entry places q)) f

all_taken : (xs : List ℕ) → take (length xs) xs ≡ xs
all_taken [] = refl
all_taken (x ∷ xs) = ap (λ ys. x ∷ ys) (all_taken xs)

pub flat_all : (f : ℕ → List Pair) (xs : List ℕ) (n : ℕ) (work now : List Pair) → n ≡ length xs → now ≡ work ++ flat_map f (take n xs) → now ≡ work ++ flat_map f xs
flat_all f xs n work now e is = is ∙ ap (λ ys. work ++ flat_map f ys) (ap (λ k. take k xs) e ∙ all_taken xs)

-- what is given where an EndFinally and where a Leave stands

pub end_onto : (rows : List Handler) (classes : List (Option ℕ)) (t pc : ℕ) {place : Option Place} (p : Place) → place ≡ Some p → p.instr ≡ EndFinally
    → onto rows classes t pc place ≡ made_by classes (taker (rows_at rows pc) t)
end_onto rows classes t pc p e is = ap (λ o. onto rows classes t pc o) e ∙ ap (λ i. onto_by rows classes t pc i p.next.0) is

pub leave_seed : (rows : List Handler) (classes : List (Option ℕ)) (pc : ℕ) {place : Option Place} {size : Option ℕ} (p : Place) (n : ℕ) (t : Pc)
    → place ≡ Some p → size ≡ Some n → p.instr ≡ Leave t
    → seed_at rows classes pc place size ≡ with_number t.0 (made_by classes (taker (rows_at rows pc) t.0))
leave_seed rows classes pc {size = size} p n t e f is = ap (λ o. seed_at rows classes pc o size) e
    ∙ (ap (λ o. seed_at rows classes pc (Some p) o) f ∙ ap (λ i. seed_by rows classes pc i) is)
