-- Rows of tables with one more entry, and what the entries of one more region or mention tell.
use Rattle.std.proofs.Common.{◌≡◌, ℕ, zero, suc, ◌+◌, ◌<◌, length, get_or, nat_cmp, nat_lt, is_eq, Less, Equal, Greater, ltb-true, BTreeMap, Bool, true, false, cond, if◌then◌else◌, List, [], ◌∷◌, ◌++◌, map, filter, take, drop, Option, Some, None, refl, ap, sym, ◌∙◌, arith, bytes_eq, append_assoc, eqb-true}
use Rattle.std.specs.BTreeMap.{get}
use Rattle.std.proofs.Math.Seq.{drop-length}
use Rattle.std.proofs.lemmas.List.{append-nil}
use Rattle.std.specs.Prelude.{◌==◌, ◌&&◌, ◌||◌, slice_get, slice_set}
use Rattle.std.specs.List.{list_any}
use Rattle.std.proofs.lemmas.Bool.Decides.{nat_tests}
use Rattle.std.proofs.lemmas.List.Folds.{list_any-append}
use Rattle.std.proofs.lemmas.Option.{slice_get_read}
use Rattle.std.proofs.lemmas.Slice.Eq.{bytes_eq-Decides}
use Rattle.std.proofs.Math.Bool.{or-false}
use Rattle.pt_scopes.specs.declared.region.Mention.{Mention}
use Rattle.pt_scopes.specs.declared.region.Region.{Region}
use Rattle.pt_tree.specs.Syntax.{Name}
use Rattle.sem_names.specs.BlockNames.{distinct, distinct_behind, with_name}
use Rattle.sem_names.specs.Regions.{is_number, numbered_behind}
use Rattle.pt_symbols.specs.Tables.{found, mention_if, mentions_at, next_too}

zero_suc : (r : ℕ) → (zero == suc r) ≡ false
zero_suc r = grind (arith, nat_tests)

suc_zero : (q : ℕ) → (suc q == zero) ≡ false
suc_zero q = grind (arith, nat_tests)

suc_suc : (q r : ℕ) → (q == r) ≡ (suc q == suc r)
suc_suc q r = grind (arith, nat_tests)

-- names that stand once

pub any_more : {X : Type 0} (p : X → Bool) (xs : List X) (x : X) → list_any p (xs ++ x ∷ []) ≡ (list_any p xs || p x)
any_more p xs x = list_any-append p xs (x ∷ []) ∙ ap (λ (b : Bool). list_any p xs || b) (or-false (p x))

pub distinct_more : (ys xs : List Name) (x : Name) → distinct_behind ys (xs ++ x ∷ []) ≡ with_name (distinct_behind ys xs) x
distinct_more ys [] x = refl
distinct_more ys (z ∷ zs) x = distinct_more (with_name ys z) zs x

same_name : (x : Name) → bytes_eq x x ≡ true
same_name x = (bytes_eq-Decides x x).1 refl

-- put into a set
pub or_hit : (old hit : Bool) → cond hit true old ≡ (old || hit)
or_hit true true = refl
or_hit true false = refl
or_hit false true = refl
or_hit false false = refl

or_true : (b : Bool) → (b || true) ≡ true
or_true true = refl
or_true false = refl

-- a name that was put behind others isn't put behind them again
twice : (b : Bool) (ys : List Name) (x : Name) → list_any (λ y. bytes_eq y x) ys ≡ b
    → with_name (if b then ys else ys ++ x ∷ []) x ≡ (if b then ys else ys ++ x ∷ [])
twice true ys x is = ap (λ (b : Bool). if b then ys else ys ++ x ∷ []) is
twice false ys x is =
    ap (λ (b : Bool). if b then ys ++ x ∷ [] else (ys ++ x ∷ []) ++ x ∷ [])
    (any_more (λ y. bytes_eq y x) ys x ∙ ap (λ (b : Bool). list_any (λ y. bytes_eq y x) ys || b) (same_name x) ∙ or_true (list_any (λ y. bytes_eq y x) ys))

idle : (ys : List Name) (x : Name) → with_name (with_name ys x) x ≡ with_name ys x
idle ys x = twice (list_any (λ y. bytes_eq y x) ys) ys x refl

pub noted_choice : (b c : Bool) (ys : List Name) (x : Name) → (if c then with_name (if b then with_name ys x else ys) x else (if b then with_name ys x else ys))
    ≡ (if b || c then with_name ys x else ys)
noted_choice true true ys x = idle ys x
noted_choice true false ys x = refl
noted_choice false c ys x = refl

pub or_assoc : (a b c : Bool) → ((a || b) || c) ≡ (a || (b || c))
or_assoc true b c = refl
or_assoc false b c = refl

-- one mention more

filter_one : (b : Bool) (m : Mention) → cond b (m ∷ []) [] ≡ (if b then m ∷ [] else [])
filter_one true m = refl
filter_one false m = refl

filter_more : (p : Mention → Bool) (ms : List Mention) (m : Mention) → filter p (ms ++ m ∷ []) ≡ filter p ms ++ (if p m then m ∷ [] else [])
filter_more p [] m = filter_one (p m) m
filter_more p (k ∷ ks) m = at (p k) (filter_more p ks m)
  where
    at : (b : Bool) → filter p (ks ++ m ∷ []) ≡ filter p ks ++ (if p m then m ∷ [] else [])
        → cond b (k ∷ filter p (ks ++ m ∷ [])) (filter p (ks ++ m ∷ [])) ≡ cond b (k ∷ filter p ks) (filter p ks) ++ (if p m then m ∷ [] else [])
    at true is = ap (λ xs. k ∷ xs) is
    at false is = is

names_more : (xs : List Mention) (b : Bool) (m : Mention) → distinct (map (λ k. k.name) (xs ++ (if b then m ∷ [] else [])))
    ≡ (if b then with_name (distinct (map (λ k. k.name) xs)) m.name else distinct (map (λ k. k.name) xs))
names_more xs true m = ap distinct (map_more xs) ∙ distinct_more [] (map (λ k. k.name) xs) m.name
  where
    map_more : (xs : List Mention) → map (λ k. k.name) (xs ++ m ∷ []) ≡ map (λ k. k.name) xs ++ m.name ∷ []
    map_more [] = refl
    map_more (k ∷ ks) = ap (λ ys. k.name ∷ ys) (map_more ks)
names_more xs false m = ap (λ ys. distinct (map (λ k. k.name) ys)) (nothing xs)
  where
    nothing : (xs : List Mention) → xs ++ [] ≡ xs
    nothing [] = refl
    nothing (k ∷ ks) = ap (λ ys. k ∷ ys) (nothing ks)

pub free_more : (p : Mention → Bool) (ms : List Mention) (m : Mention) → distinct (map (λ k. k.name) (filter p (ms ++ m ∷ [])))
    ≡ (if p m then with_name (distinct (map (λ k. k.name) (filter p ms))) m.name else distinct (map (λ k. k.name) (filter p ms)))
free_more p ms m = ap (λ ks. distinct (map (λ k. k.name) ks)) (filter_more p ms m) ∙ names_more (filter p ms) (p m) m

and_false : (b : Bool) → (b && false) ≡ false
and_false true = refl
and_false false = refl

-- next numbers

pub next_end : (k : ℕ) (rs : List Region) (h n : ℕ) → numbered_behind k rs [] h n ≡ None
next_end k [] h n = refl
next_end k (r ∷ rs) h n = refl

next_at : (k : ℕ) (r : Region) (m : Option ℕ) (h n : ℕ) (o : Option ℕ) → (if (r.home == h) && is_number m n then Some k else o) ≡ next_too (Some r) m k h n o
next_at k r None h n o = ap (λ (b : Bool). if b then Some k else o) (and_false (r.home == h))
next_at k r (Some m) h n o = refl

pub read_at : {A : Type 0} (xs : List A) (i : ℕ) (d : A) → i < length xs → slice_get xs i ≡ Some (get_or xs i d)
read_at xs i d within = slice_get_read xs _ i (get_or xs i d) refl within (other_default xs i d (get_or xs i d) within)
  where
    other_default : {A : Type 0} (xs : List A) (i : ℕ) (d e : A) → i < length xs → get_or xs i d ≡ get_or xs i e
    other_default [] i d e within = absurd (omega arith)
    other_default (x ∷ xs) zero d e within = refl
    other_default (x ∷ xs) (suc i) d e within = other_default xs i d e (omega arith)

-- so many regions in front of a region
pub next_step : (k i : ℕ) (rs : List Region) (ms : List (Option ℕ)) (m : Option ℕ) (h n : ℕ) → slice_get ms i ≡ Some m
    → next_too (slice_get rs i) m k h n (numbered_behind (suc k) (drop (suc i) rs) (drop (suc i) ms) h n)
    ≡ numbered_behind k (drop i rs) (drop i ms) h n
next_step k i rs [] m h n found = absurd (let same : None ≡ Some m = found in cc)
next_step k zero [] (x ∷ ms) m h n found = refl
next_step k (suc i) [] (x ∷ ms) m h n found = refl
next_step k zero (r ∷ rs) (x ∷ ms) m h n found =
    let same : x ≡ m = (let there : Some x ≡ Some m = found in cc) in
    sym (next_at k r m h n (numbered_behind (suc k) rs ms h n))
    ∙ ap (λ (y : Option ℕ). if (r.home == h) && is_number y n then Some k else numbered_behind (suc k) rs ms h n) (sym same)
next_step k (suc i) (r ∷ rs) (x ∷ ms) m h n found = next_step k i rs ms m h n found

-- no region is left
pub next_last : (k : ℕ) (rs : List Region) (ms : List (Option ℕ)) (h n : ℕ) → None ≡ numbered_behind k rs (drop (length ms) ms) h n
next_last k rs ms h n = sym (ap (λ (ns : List (Option ℕ)). numbered_behind k rs ns h n) (drop-length ms) ∙ next_end k rs h n)

same_number : (k n : ℕ) → is_eq (nat_cmp k n) ≡ (k == n)
same_number k n = by (nat_lt k n) refl (k == n) refl
  where
    by : (l : Bool) → nat_lt k n ≡ l → (e : Bool) → (k == n) ≡ e → is_eq (cond l Less (cond e Equal Greater)) ≡ e
    by true l true e = let less = ltb-true k n l in let same = eqb-true k n e in absurd (omega arith)
    by true l false e = refl
    by false l true e = refl
    by false l false e = refl

either_number : (b : Bool) (v : ℕ) (o : Option ℕ) → cond b (Some v) o ≡ (if true && b then Some v else o)
either_number true v o = refl
either_number false v o = refl

other_row : (t b : Bool) (v : ℕ) (o : Option ℕ) → t ≡ false → o ≡ (if t && b then Some v else o)
other_row t b v o is = ap (λ (c : Bool). if c && b then Some v else o) (sym is)

-- a row with the number of one more comprehension
pub next_put : (rows : List (BTreeMap ℕ ℕ)) (q r : ℕ) (old new : BTreeMap ℕ ℕ) (k n v : ℕ) → slice_get rows q ≡ Some old
    → get nat_cmp new n ≡ cond (is_eq (nat_cmp k n)) (Some v) (get nat_cmp old n)
    → found (slice_get (slice_set rows q new) r) n ≡ (if (q == r) && (k == n) then Some v else found (slice_get rows r) n)
next_put [] q r old new k n v there is = absurd (let same : None ≡ Some old = there in cc)
next_put (row ∷ rows) zero zero old new k n v there is =
    let same : row ≡ old = (let s : Some row ≡ Some old = there in cc) in
    is
    ∙ ap (λ (m : BTreeMap ℕ ℕ). cond (is_eq (nat_cmp k n)) (Some v) (get nat_cmp m n)) (sym same)
    ∙ ap (λ (b : Bool). cond b (Some v) (get nat_cmp row n)) (same_number k n)
    ∙ either_number (k == n) v (get nat_cmp row n)
next_put (row ∷ rows) zero (suc r) old new k n v there is = other_row (zero == suc r) (k == n) v (found (slice_get rows r) n) (zero_suc r)
next_put (row ∷ rows) (suc q) zero old new k n v there is = other_row (suc q == zero) (k == n) v (get nat_cmp row n) (suc_zero q)
next_put (row ∷ rows) (suc q) (suc r) old new k n v there is =
    next_put rows q r old new k n v there is
    ∙ ap (λ (b : Bool). if b && (k == n) then Some v else found (slice_get rows r) n) (suc_suc q r)

-- mentions by their places

at_more : (ms : List Mention) (is : List ℕ) (i : ℕ) (m : Mention) → slice_get ms i ≡ Some m → mentions_at ms (is ++ i ∷ []) ≡ mentions_at ms is ++ m ∷ []
at_more ms [] i m there = ap (λ (o : Option Mention). mention_if o ++ []) there
at_more ms (j ∷ is) i m there =
    ap (λ (ks : List Mention). mention_if (slice_get ms j) ++ ks) (at_more ms is i m there)
    ∙ sym (append_assoc (mention_if (slice_get ms j)) (mentions_at ms is) (m ∷ []))

at_if : (ms : List Mention) (is : List ℕ) (i : ℕ) (m : Mention) (b : Bool) → slice_get ms i ≡ Some m
    → mentions_at ms (if b then is ++ i ∷ [] else is) ≡ mentions_at ms is ++ (if b then m ∷ [] else [])
at_if ms is i m true there = at_more ms is i m there
at_if ms is i m false there = sym (append-nil (mentions_at ms is))

-- with the place of one mention more
pub mention_more : (p : Mention → Bool) (ms : List Mention) (is js : List ℕ) (i : ℕ) (m : Mention) → slice_get ms i ≡ Some m
    → take (i + 1) ms ≡ take i ms ++ m ∷ [] → mentions_at ms is ≡ filter p (take i ms) → js ≡ (if p m then is ++ i ∷ [] else is)
    → mentions_at ms js ≡ filter p (take (i + 1) ms)
mention_more p ms is js i m there cut told more =
    ap (mentions_at ms) more
    ∙ at_if ms is i m (p m) there
    ∙ ap (λ (ks : List Mention). ks ++ (if p m then m ∷ [] else [])) told
    ∙ sym (filter_more p (take i ms) m)
    ∙ ap (filter p) (sym cut)
