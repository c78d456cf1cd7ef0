-- The rows of names and the calls that are open, of one event more.
use Rattle.std.proofs.Common.{◌≡◌, ◌+◌, ◌-◌, ◌^◌, ◌<◌, ◌≤◌, ◌∙◌, ℕ, Bool, true, false, cond, List, [], ◌∷◌, ◌++◌, length, map, take, drop, fold, Option, Some, None, refl, sym, ap, subst, inl, inr, arith, add_assoc}
use Rattle.std.specs.Prelude.{◌&&◌, count_by, nat_lt, slice_get, min}
use Rattle.std.specs.List.{list_any, IsDistinct}
use Rattle.std.specs.Str.{bytes_eq}
use Rattle.std.proofs.lemmas.Bool.{cases_Bool, ltb-true, ltb-false, lt-ltb, le-ltb}
use Rattle.std.proofs.lemmas.Slice.Eq.{bytes_eq-Decides}
use Rattle.std.proofs.lemmas.List.Sums.{fold-append, count_by-le-length}
use Rattle.std.proofs.lemmas.List.{take-append-le, take-append-drop, map-append, length-map, length-take}
use Rattle.pt_base.specs.Taken.{Pieces}
use Rattle.pt_cover.specs.declared.rows.NameCount.{NameCount}
use Rattle.pt_cover.specs.declared.told.Told.{Told}
use Rattle.pt_cover.specs.declared.told.Told.TheVariants as told
use Rattle.pt_cover.specs.Numbers.{limited}
use Rattle.pt_cover.specs.Pieces.{Text, kind_of, name_of, is_call, is_line}
use Rattle.pt_cover.specs.Calls.{spans_at_once, most_open, opened, open_then, open_behind, open_calls, is_in_span}
use Rattle.pt_cover.specs.Counts.{calls_it, begins_own, calls_of, own_lines, lines_within, all_lines, lines_begun}
use Rattle.pt_cover.specs.Tallies.{Open, NameTally, name_row, names_of, name_place, name_tally, open_of, has_room, open_more, close_last, closed_place, changed_at, more}
use Rattle.pt_cover.specs.Tallies.{names_then, without_span, one_call_more, one_span_less, one_own_more, one_within_more}
use Rattle.pt_cover.proofs.ListLemmas.{count-snoc, limited-more, limited-same, map-same, map-map, map-id, map-changed, row-changed, some-counted}
use Rattle.pt_cover.proofs.ListLemmas.{take-long, last-item, length-snoc, take-but_last, get-last}

-- a row of a name, with its counts
abbrev made : Text → (c o a s : ℕ) → NameCount
made n c o a s = record { name = n; calls = c; own = o; all = a; spans = s }

alike : (n : Text) (c c' o o' a a' s s' : ℕ) → c ≡ c' → o ≡ o' → a ≡ a' → s ≡ s' → made n c o a s ≡ made n c' o' a' s'
alike n c c' o o' a a' s s' p q r t =
    ap (λ x. made n x o a s) p ∙ ap (λ x. made n c' x a s) q ∙ ap (λ x. made n c' o' x s) r ∙ ap (λ x. made n c' o' a' x) t

abbrev row : (c o a s : Text → ℕ) → Text → NameCount
row c o a s n = made n (limited (c n)) (limited (o n)) (limited (a n)) (s n)

-- one more at the name m
abbrev plus : (Text → ℕ) → (Text → Bool) → Text → ℕ
plus c p n = c n + cond (p n) 1 0

limited_plus : (c b : ℕ) → b ≡ 1 → limited (c + b) ≡ more (limited c)
limited_plus c b e = ap (λ x. limited (c + x)) e ∙ limited-more c

limited_plain : (c b : ℕ) → b ≡ 0 → limited (c + b) ≡ limited c
limited_plain c b e = ap (λ x. limited (c + x)) e ∙ limited-same c

one : (b : Bool) → b ≡ true → ◌≡◌ {A = ℕ} (cond b 1 0) 1
one b e = ap (λ x. cond {A = ℕ} x 1 0) e

none : (b : Bool) → b ≡ false → ◌≡◌ {A = ℕ} (cond b 1 0) 0
none b e = ap (λ x. cond {A = ℕ} x 1 0) e

decides : (a b : Text) → (bytes_eq a b ≡ true → a ≡ b) × (a ≡ b → bytes_eq a b ≡ true)
decides a b = bytes_eq-Decides a b

names_of-rows : (c o a s : Text → ℕ) (names : List Text) → names_of (map (row c o a s) names) ≡ names
names_of-rows c o a s names = map-id (λ r. r.name) (row c o a s) (λ n. refl) names

-- a call of the name m, which has a span or not
called : (c o a s s' : Text → ℕ) (m : Text) (has : Bool) → ((n : Text) → bytes_eq n m ≡ true → s' n ≡ cond has (more (s n)) (s n))
    → ((n : Text) → bytes_eq n m ≡ false → s' n ≡ s n) → (names : List Text) → IsDistinct bytes_eq names
    → changed_at (map (row c o a s) names) (name_place names m) (one_call_more has) ≡ map (row (plus c (λ n. bytes_eq n m)) o a s') names
called c o a s s' m has here other names d = row-changed bytes_eq decides (row c o a s) (row (plus c (λ n. bytes_eq n m)) o a s') (one_call_more has) m
    (λ n e. alike n _ _ _ _ _ _ _ _ (limited_plus (c n) (cond (bytes_eq n m) 1 0) (one _ e)) refl refl (here n e))
    (λ n e. alike n _ _ _ _ _ _ _ _ (limited_plain (c n) (cond (bytes_eq n m) 1 0) (none _ e)) refl refl (other n e)) names d

-- a line of the name m, and a line within the spans that are open
begun_own : (c o a s : Text → ℕ) (m : Text) (names : List Text) → IsDistinct bytes_eq names
    → changed_at (map (row c o a s) names) (name_place names m) one_own_more ≡ map (row c (plus o (λ n. bytes_eq n m)) a s) names
begun_own c o a s m names d = row-changed bytes_eq decides (row c o a s) (row c (plus o (λ n. bytes_eq n m)) a s) one_own_more m
    (λ n e. alike n _ _ _ _ _ _ _ _ refl (limited_plus (o n) (cond (bytes_eq n m) 1 0) (one _ e)) refl refl)
    (λ n e. alike n _ _ _ _ _ _ _ _ refl (limited_plain (o n) (cond (bytes_eq n m) 1 0) (none _ e)) refl refl) names d

within : (a : ℕ) (b : Bool) → cond b (more (limited a)) (limited a) ≡ limited (a + cond b 1 0)
within a true = sym (limited-more a)
within a false = sym (limited-same a)

begun_within : (c o a s : Text → ℕ) (names : List Text)
    → map one_within_more (map (row c o a s) names) ≡ map (row c o (plus a (λ n. nat_lt 0 (s n))) s) names
begun_within c o a s names = map-map one_within_more (row c o a s) names
    ∙ map-same _ _ (λ n. alike n _ _ _ _ _ _ _ _ refl refl (within (a n) (nat_lt 0 (s n))) refl) names

-- a span of the name m is closed
unspanned : (c o a s s' : Text → ℕ) (m : Text) → ((n : Text) → bytes_eq n m ≡ true → s' n ≡ s n - 1) → ((n : Text) → bytes_eq n m ≡ false → s' n ≡ s n)
    → (names : List Text) → IsDistinct bytes_eq names
    → changed_at (map (row c o a s) names) (name_place names m) one_span_less ≡ map (row c o a s') names
unspanned c o a s s' m here other names d = row-changed bytes_eq decides (row c o a s) (row c o a s') one_span_less m
    (λ n e. alike n _ _ _ _ _ _ _ _ refl refl refl (here n e)) (λ n e. alike n _ _ _ _ _ _ _ _ refl refl refl (other n e)) names d

-- the spans of a name, where these calls are open
abbrev spans_in : List Text → Text → ℕ
spans_in calls n = count_by (bytes_eq n) (take spans_at_once calls)

abbrev some_room : List Text → Bool
some_room calls = nat_lt (length calls) spans_at_once

taken_count : (calls : List Text) → length (take spans_at_once calls) ≤ spans_at_once
taken_count calls = omega (arith, length-take spans_at_once calls)

opened_below : (calls : List Text) (m : Text) → length calls < spans_at_once → opened calls m ≡ calls ++ m ∷ []
opened_below calls m below = let few : length calls < most_open = omega (arith, below) in
    ap (λ b. cond b (calls ++ m ∷ []) calls) (lt-ltb (length calls) most_open few)

-- where there is room, another call gets a span
spans_below : (calls : List Text) (m : Text) → length calls < spans_at_once → take spans_at_once (opened calls m) ≡ calls ++ m ∷ []
spans_below calls m below = ap (λ q. take spans_at_once q) (opened_below calls m below)
    ∙ take-long spans_at_once (calls ++ m ∷ []) (omega (arith, below, length-snoc calls m))

spans_above : (calls : List Text) (m : Text) → spans_at_once ≤ length calls → take spans_at_once (opened calls m) ≡ take spans_at_once calls
spans_above calls m above = go (nat_lt (length calls) most_open)
  where
    go : (b : Bool) → take spans_at_once (cond b (calls ++ m ∷ []) calls) ≡ take spans_at_once calls
    go true = take-append-le spans_at_once calls (m ∷ []) above
    go false = refl

all_taken : (calls : List Text) → length calls ≤ spans_at_once → take spans_at_once calls ≡ calls
all_taken calls few = take-long spans_at_once calls few

spans_one_more : (calls : List Text) (m n : Text) → length calls < spans_at_once → spans_in (opened calls m) n ≡ spans_in calls n + cond (bytes_eq n m) 1 0
spans_one_more calls m n below = ap (λ q. count_by (bytes_eq n) q) (spans_below calls m below) ∙ count-snoc (bytes_eq n) calls m
    ∙ ap (λ q. count_by (bytes_eq n) q + cond (bytes_eq n m) 1 0) (sym (all_taken calls (omega (arith, below))))

more_few : (n : ℕ) → n ≤ spans_at_once → n + 1 ≡ more n
more_few n few = omega (arith, few)

few_spans : (calls : List Text) (n : Text) → spans_in calls n ≤ spans_at_once
few_spans calls n = omega (arith, count_by-le-length (bytes_eq n) (take spans_at_once calls), taken_count calls)

spans_at : (calls : List Text) (m n : Text) → bytes_eq n m ≡ true → spans_in (opened calls m) n ≡ cond (some_room calls) (more (spans_in calls n)) (spans_in calls n)
spans_at calls m n e = elim (cases_Bool (some_room calls)) [
  | inl room ↦ spans_one_more calls m n (ltb-true _ _ room) ∙ ap (λ b. spans_in calls n + b) (one _ e) ∙ more_few (spans_in calls n) (few_spans calls n)
      ∙ sym (ap (λ b. cond b (more (spans_in calls n)) (spans_in calls n)) room)
  | inr full ↦ ap (λ q. count_by (bytes_eq n) q) (spans_above calls m (ltb-false _ _ full))
      ∙ sym (ap (λ b. cond b (more (spans_in calls n)) (spans_in calls n)) full)
]

spans_other : (calls : List Text) (m n : Text) → bytes_eq n m ≡ false → spans_in (opened calls m) n ≡ spans_in calls n
spans_other calls m n e = elim (cases_Bool (some_room calls)) [
  | inl room ↦ spans_one_more calls m n (ltb-true _ _ room) ∙ ap (λ b. spans_in calls n + b) (none _ e) ∙ add_none (spans_in calls n)
  | inr full ↦ ap (λ q. count_by (bytes_eq n) q) (spans_above calls m (ltb-false _ _ full))
]
  where
    add_none : (k : ℕ) → k + 0 ≡ k
    add_none k = omega arith

-- the calls that are kept
abbrev kept : List ℕ → ℕ → Open
kept spans deeper = record { spans = spans; deeper = deeper }

kept_alike : (xs ys : List ℕ) (m n : ℕ) → xs ≡ ys → m ≡ n → kept xs m ≡ kept ys n
kept_alike xs ys m n p q = ap (λ zs. kept zs m) p ∙ ap (λ k. kept ys k) q

min_room : (n : ℕ) → nat_lt (min spans_at_once n) spans_at_once ≡ nat_lt n spans_at_once
min_room n = elim (cases_Bool (nat_lt n spans_at_once)) [
  | inl e ↦ let below : n < spans_at_once = ltb-true _ _ e in lt-ltb (min spans_at_once n) spans_at_once (omega (arith, below)) ∙ sym e
  | inr e ↦ let above : spans_at_once ≤ n = ltb-false _ _ e in le-ltb (min spans_at_once n) spans_at_once (omega (arith, above)) ∙ sym e
]

room_is : (names calls : List Text) → has_room (open_of names calls) ≡ some_room calls
room_is names calls = ap (λ k. nat_lt k spans_at_once) (length-map (take spans_at_once calls) (name_place names) ∙ length-take spans_at_once calls)
    ∙ min_room (length calls)

deeper_below : (calls : List Text) (m : Text) → length calls < spans_at_once → length calls - spans_at_once ≡ length (opened calls m) - spans_at_once
deeper_below calls m below = let len : length (opened calls m) ≡ length calls + 1 = ap length (opened_below calls m below) ∙ length-snoc calls m in
    omega (arith, below, len)

deeper_above : (calls : List Text) (m : Text) → spans_at_once ≤ length calls → length calls ≤ most_open
    → more (length calls - spans_at_once) ≡ length (opened calls m) - spans_at_once
deeper_above calls m above most = elim (cases_Bool (nat_lt (length calls) most_open)) [
  | inl e ↦ let below : length calls < most_open = ltb-true _ _ e in
      let len : length (opened calls m) ≡ length calls + 1 = ap (λ b. length (cond b (calls ++ m ∷ []) calls)) e ∙ length-snoc calls m in
      omega (arith, below, above, len)
  | inr e ↦ let full : most_open ≤ length calls = ltb-false _ _ e in
      let len : length (opened calls m) ≡ length calls = ap (λ b. length (cond b (calls ++ m ∷ []) calls)) e in
      omega (arith, full, above, most, len)
]

-- what is kept where another call is opened
abbrev opened_as : (names calls : List Text) (m : Text) → Bool → Open
opened_as names calls m room =
    cond room (kept (map (name_place names) (take spans_at_once calls) ++ name_place names m ∷ []) (length calls - spans_at_once))
    (kept (map (name_place names) (take spans_at_once calls)) (more (length calls - spans_at_once)))

opened_kept : (names calls : List Text) (m : Text) → length calls ≤ most_open
    → open_more (open_of names calls) (name_place names m) ≡ open_of names (opened calls m)
opened_kept names calls m most = elim (cases_Bool (some_room calls)) [
  | inl e ↦ let below : length calls < spans_at_once = ltb-true _ _ e in
      let few : length calls ≤ spans_at_once = omega (arith, below) in
      ap (opened_as names calls m) (room_is names calls ∙ e) ∙ kept_alike _ _ _ _
      (ap (λ q. map (name_place names) q ++ name_place names m ∷ []) (all_taken calls few)
      ∙ sym (map-append (name_place names) calls (m ∷ [])) ∙ ap (map (name_place names)) (sym (spans_below calls m below)))
      (deeper_below calls m below)
  | inr e ↦ let above : spans_at_once ≤ length calls = ltb-false _ _ e in
      ap (opened_as names calls m) (room_is names calls ∙ e)
      ∙ kept_alike _ _ _ _ (ap (map (name_place names)) (sym (spans_above calls m above))) (deeper_above calls m above most)
]

abbrev tally : (names : List Text) (c o a : Text → ℕ) (total : ℕ) (calls : List Text) → NameTally
tally names c o a total calls = record { rows = map (row c o a (spans_in calls)) names; calls = open_of names calls; total = limited total }

abbrev tally_of : List NameCount → Open → ℕ → NameTally
tally_of rows calls total = record { rows = rows; calls = calls; total = total }

tally_alike : (rs rs' : List NameCount) (cs cs' : Open) (t t' : ℕ) → rs ≡ rs' → cs ≡ cs' → t ≡ t' → tally_of rs cs t ≡ tally_of rs' cs' t'
tally_alike rs rs' cs cs' t t' p q r = ap (λ x. tally_of x cs t) p ∙ ap (λ x. tally_of rs' x t) q ∙ ap (λ x. tally_of rs' cs' x) r

plain : (c o a s : Text → ℕ) (names : List Text) → map (row c o a s) names ≡ map (row (λ n. c n + 0) (λ n. o n + 0) (λ n. a n + 0) s) names
plain c o a s names = map-same _ _ (λ n. alike n _ _ _ _ _ _ _ _ (sym (limited-same (c n))) (sym (limited-same (o n))) (sym (limited-same (a n))) refl) names

call_then : (names : List Text) (c o a : Text → ℕ) (t : ℕ) (calls : List Text) (m : Text) → IsDistinct bytes_eq names → length calls ≤ most_open
    → names_then (tally names c o a t calls) told.Call m ≡ tally names (plus c (λ n. bytes_eq n m)) (λ n. o n + 0) (λ n. a n + 0) (t + 0) (opened calls m)
call_then names c o a t calls m d most =
    ap (λ ns. tally_of (changed_at (map (row c o a (spans_in calls)) names) (name_place ns m) (one_call_more (has_room (open_of names calls))))
    (open_more (open_of names calls) (name_place ns m)) (limited t)) (names_of-rows c o a (spans_in calls) names)
    ∙ tally_alike _ _ _ _ _ _
    (ap (λ b. changed_at (map (row c o a (spans_in calls)) names) (name_place names m) (one_call_more b)) (room_is names calls)
    ∙ called c o a (spans_in calls) (spans_in (opened calls m)) m (some_room calls) (spans_at calls m) (spans_other calls m) names d
    ∙ map-same _ _ (λ n. alike n _ _ _ _ _ _ _ _ refl (sym (limited-same (o n))) (sym (limited-same (a n))) refl) names)
    (opened_kept names calls m most)
    (sym (limited-same t))

line_then : (names : List Text) (c o a : Text → ℕ) (t : ℕ) (calls : List Text) (m : Text) → IsDistinct bytes_eq names
    → names_then (tally names c o a t calls) told.Line m ≡ tally names (λ n. c n + 0) (plus o (λ n. bytes_eq n m)) (plus a (is_in_span calls)) (t + 1) calls
line_then names c o a t calls m d =
    ap (λ ns. tally_of (map one_within_more (changed_at (map (row c o a (spans_in calls)) names) (name_place ns m) one_own_more))
    (open_of names calls) (more (limited t))) (names_of-rows c o a (spans_in calls) names)
    ∙ tally_alike _ _ _ _ _ _
    (ap (map one_within_more) (begun_own c o a (spans_in calls) m names d)
    ∙ begun_within c (plus o (λ n. bytes_eq n m)) a (spans_in calls) names
    ∙ map-same _ _ (λ n. alike n _ _ _ _ _ _ _ _ (sym (limited-same (c n))) refl
    (ap (λ b. limited (a n + cond b 1 0)) (some-counted (bytes_eq n) (take spans_at_once calls))) refl) names)
    refl
    (sym (limited-more t))

-- the last call is closed: one without a span, or the last span
fewer_deep : (calls : List Text) → spans_at_once < length calls → take spans_at_once (take (length calls - 1) calls) ≡ take spans_at_once calls
fewer_deep calls deep =
    let len : length (take (length calls - 1) calls) ≡ min (length calls - 1) (length calls) = length-take (length calls - 1) calls in
    sym (take-append-le spans_at_once (take (length calls - 1) calls) (drop (length calls - 1) calls) (omega (arith, deep, len)))
    ∙ ap (take spans_at_once) (take-append-drop (length calls - 1) calls)

abbrev ReturnGives : (names : List Text) (c o a : Text → ℕ) (calls : List Text) → Type 0
ReturnGives names c o a calls =
    (without_span (map (row c o a (spans_in calls)) names) (closed_place (open_of names calls)) ≡ map (row c o a (spans_in (take (length calls - 1) calls))) names)
    × (close_last (open_of names calls) ≡ open_of names (take (length calls - 1) calls))

-- what is kept where the last call is closed
abbrev closed_as : (rows : List NameCount) (spans : List ℕ) → Bool → List NameCount
closed_as rows spans deep = without_span rows (cond deep None (slice_get spans (length spans - 1)))

abbrev left_as : (spans : List ℕ) (deeper : ℕ) → Bool → Open
left_as spans deeper deep = cond deep (kept spans (deeper - 1)) (kept (take (length spans - 1) spans) 0)

return_deep : (names : List Text) (c o a : Text → ℕ) (calls : List Text) → nat_lt 0 (length calls - spans_at_once) ≡ true → ReturnGives names c o a calls
return_deep names c o a calls e =
    let deep : 0 < length calls - spans_at_once = ltb-true _ _ e in
    let many : spans_at_once < length calls = omega (arith, deep) in
    let len : length (take (length calls - 1) calls) ≡ min (length calls - 1) (length calls) = length-take (length calls - 1) calls in
    let less : length calls - spans_at_once - 1 ≡ length (take (length calls - 1) calls) - spans_at_once = omega (arith, deep, len) in
    let spans : List ℕ = map (name_place names) (take spans_at_once calls) in (
      ap (closed_as (map (row c o a (spans_in calls)) names) spans) e
          ∙ map-same _ _ (λ n. alike n _ _ _ _ _ _ _ _ refl refl refl (ap (count_by (bytes_eq n)) (sym (fewer_deep calls many)))) names,
      ap (left_as spans (length calls - spans_at_once)) e
          ∙ kept_alike _ _ _ _ (ap (map (name_place names)) (sym (fewer_deep calls many))) less,
    )

return_last : (names : List Text) (c o a : Text → ℕ) (before : List Text) (q : Text) → IsDistinct bytes_eq names
    → nat_lt 0 (length (before ++ q ∷ []) - spans_at_once) ≡ false → ReturnGives names c o a (before ++ q ∷ [])
return_last names c o a before q d e =
    let calls : List Text = before ++ q ∷ [] in
    let few : length calls - spans_at_once ≤ 0 = ltb-false _ _ e in
    let few_calls : length calls ≤ spans_at_once = omega (arith, few) in
    let few_before : length before ≤ spans_at_once = omega (arith, few_calls, length-snoc before q) in
    let all_calls : take spans_at_once calls ≡ calls = all_taken calls few_calls in
    let less : take (length calls - 1) calls ≡ before = take-but_last before q in
    let short : take spans_at_once before ≡ before = all_taken before few_before in
    let spans : List ℕ = map (name_place names) (take spans_at_once calls) in
    let places : spans ≡ map (name_place names) before ++ name_place names q ∷ []
    = ap (map (name_place names)) all_calls ∙ map-append (name_place names) before (q ∷ []) in
    let closed : slice_get spans (length spans - 1) ≡ Some (name_place names q)
    = ap (λ xs. slice_get xs (length xs - 1)) places ∙ get-last (map (name_place names) before) (name_place names q) in
    let were : (n : Text) → spans_in calls n ≡ count_by (bytes_eq n) before + cond (bytes_eq n q) 1 0
    = λ n. ap (count_by (bytes_eq n)) all_calls ∙ count-snoc (bytes_eq n) before q in
    let now : (n : Text) → spans_in (take (length calls - 1) calls) n ≡ count_by (bytes_eq n) before
    = λ n. ap (λ xs. count_by (bytes_eq n) (take spans_at_once xs)) less ∙ ap (count_by (bytes_eq n)) short in
    let none_deeper : 0 ≡ length (take (length calls - 1) calls) - spans_at_once = omega (arith, ap length less, few_before) in (
      ap (closed_as (map (row c o a (spans_in calls)) names) spans) e
          ∙ ap (without_span (map (row c o a (spans_in calls)) names)) closed
          ∙ unspanned c o a (spans_in calls) (spans_in (take (length calls - 1) calls)) q
          (λ n same. omega (arith, now n, were n, one (bytes_eq n q) same))
          (λ n other. omega (arith, now n, were n, none (bytes_eq n q) other)) names d,
      ap (left_as spans (length calls - spans_at_once)) e
          ∙ kept_alike _ _ _ _
          (ap (λ xs. take (length xs - 1) xs) places ∙ take-but_last (map (name_place names) before) (name_place names q)
          ∙ ap (map (name_place names)) (sym (ap (take spans_at_once) less ∙ short)))
          none_deeper,
    )

return_gives : (names : List Text) (c o a : Text → ℕ) (calls : List Text) → IsDistinct bytes_eq names → ReturnGives names c o a calls
return_gives names c o a [] d = (refl, refl)
return_gives names c o a (x ∷ xs) d = elim (cases_Bool (nat_lt 0 (length (x ∷ xs) - spans_at_once))) [
  | inl e ↦ return_deep names c o a (x ∷ xs) e
  | inr e ↦ let v = last-item x xs in
      subst (ReturnGives names c o a) (sym v.2) (return_last names c o a v.0 v.1 d (subst (λ calls. nat_lt 0 (length calls - spans_at_once) ≡ false) v.2 e))
]

tally_then : (names : List Text) (c o a : Text → ℕ) (t : ℕ) (calls : List Text) (k : Told) (m : Text) → IsDistinct bytes_eq names → length calls ≤ most_open
    → names_then (tally names c o a t calls) k m ≡ tally names (plus c (λ n. is_call k && bytes_eq n m)) (plus o (λ n. is_line k && bytes_eq n m))
    (plus a (λ n. is_line k && is_in_span calls n)) (t + cond (is_line k) 1 0) (open_then calls k m)
tally_then names c o a t calls told.Call m d most = call_then names c o a t calls m d most
tally_then names c o a t calls told.Line m d most = line_then names c o a t calls m d
tally_then names c o a t calls told.Return m d most =
    let gives = return_gives names c o a calls d in tally_alike _ _ _ _ _ _ (gives.0 ∙ plain c o a (spans_in (take (length calls - 1) calls)) names) gives.1 (sym (limited-same t))
tally_then names c o a t calls told.Other m d most = tally_alike _ _ _ _ _ _ (plain c o a (spans_in calls) names) refl (sym (limited-same t))

-- so many calls are open at most
few_then : (calls : List Text) (k : Told) (m : Text) → length calls ≤ most_open → length (open_then calls k m) ≤ most_open
few_then calls told.Call m few = elim (cases_Bool (nat_lt (length calls) most_open)) [
  | inl e ↦ let below : length calls < most_open = ltb-true _ _ e in
      let fits : length (calls ++ m ∷ []) ≤ most_open = omega (arith, below, length-snoc calls m) in
      subst (λ b. length (cond b (calls ++ m ∷ []) calls) ≤ most_open) (sym e) fits
  | inr e ↦ subst (λ b. length (cond b (calls ++ m ∷ []) calls) ≤ most_open) (sym e) few
]
few_then calls told.Return m few = omega (arith, few, length-take (length calls - 1) calls)
few_then calls told.Line m few = few
few_then calls told.Other m few = few

few_behind : (calls : List Text) (es : Pieces) → length calls ≤ most_open → length (fold open_behind calls es) ≤ most_open
few_behind calls [] few = few
few_behind calls (e ∷ es) few = few_behind (open_behind calls e) es (few_then calls (kind_of e) (name_of e) few)

-- and the counts of one event more
within-snoc : (calls : List Text) (n : Text) (es : Pieces) (e : Text)
    → lines_within calls n (es ++ e ∷ []) ≡ lines_within calls n es + cond (is_line (kind_of e) && is_in_span (fold open_behind calls es) n) 1 0
within-snoc calls n [] e = omega arith
within-snoc calls n (f ∷ es) e = ap (λ k. cond (is_line (kind_of f) && is_in_span calls n) 1 0 + k) (within-snoc (open_behind calls f) n es e)
    ∙ sym (add_assoc (cond (is_line (kind_of f) && is_in_span calls n) 1 0) (lines_within (open_behind calls f) n es)
    (cond (is_line (kind_of e) && is_in_span (fold open_behind (open_behind calls f) es) n) 1 0))

open-snoc : (es : Pieces) (e : Text) → open_calls (es ++ e ∷ []) ≡ open_then (open_calls es) (kind_of e) (name_of e)
open-snoc es e = fold-append open_behind [] es (e ∷ [])

pub name_tally-snoc : (names : List Text) (es : Pieces) (e : Text) → IsDistinct bytes_eq names
    → names_then (name_tally names es) (kind_of e) (name_of e) ≡ name_tally names (es ++ e ∷ [])
name_tally-snoc names es e d =
    tally_then names (λ n. calls_of n es) (λ n. own_lines n es) (λ n. all_lines n es) (lines_begun es) (open_calls es) (kind_of e) (name_of e) d
    (few_behind [] es (omega arith))
    ∙ tally_alike _ _ _ _ _ _
    (map-same _ _ (λ n. alike n _ _ _ _ _ _ _ _ (ap limited (sym (count-snoc (calls_it n) es e))) (ap limited (sym (count-snoc (begins_own n) es e)))
    (ap limited (sym (within-snoc [] n es e))) (ap (λ calls. spans_in calls n) (sym (open-snoc es e)))) names)
    (ap (open_of names) (sym (open-snoc es e)))
    (ap limited (sym (count-snoc (λ p. is_line (kind_of p)) es e)))

pub names_of-name_tally : (names : List Text) (es : Pieces) → names_of (name_tally names es).rows ≡ names
names_of-name_tally names es = names_of-rows (λ n. calls_of n es) (λ n. own_lines n es) (λ n. all_lines n es) (spans_in (open_calls es)) names

-- the names stay the same
less-kept : (rows : List NameCount) (place : Option ℕ) → names_of (without_span rows place) ≡ names_of rows
less-kept rows (Some place) = map-changed (λ r. r.name) one_span_less (λ r. refl) rows place
less-kept rows None = refl

pub names_of-then : (t : NameTally) (k : Told) (m : Text) → names_of (names_then t k m).rows ≡ names_of t.rows
names_of-then t told.Call m = map-changed (λ r. r.name) (one_call_more (has_room t.calls)) (λ r. refl) t.rows (name_place (names_of t.rows) m)
names_of-then t told.Line m =
    map-map (λ r. r.name) one_within_more (changed_at t.rows (name_place (names_of t.rows) m) one_own_more)
    ∙ map-changed (λ r. r.name) one_own_more (λ r. refl) t.rows (name_place (names_of t.rows) m)
names_of-then t told.Return m = less-kept t.rows (closed_place t.calls)
names_of-then t told.Other m = refl
