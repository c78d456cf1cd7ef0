-- The walk of clap over regular words sorts them, and a word has a fault exactly where it can't be put with the others.
use Rattle.std.proofs.Common.{◌≡◌, ◌+◌, ◌≤◌, ◌∙◌, ◌++◌, ◌&&◌, ◌||◌, ◌==◌, ℕ, Bool, true, false, List, [], ◌∷◌, Option, Some, None, codes, refl, sym, subst, arith, min, pos, if◌then◌else◌}
use Rattle.std.specs.Prelude.{fold, is_some, option_and_then}
use Rattle.std.specs.List.{list_any, before_first, after_first}
use Rattle.std.specs.Str.{bytes_eq}
use Rattle.std.proofs.lemmas.Bool.{eqb-true, true≢false}
use Rattle.clap.specs.Walk.{Held, Row, Waiting, idle, option, positional, Walk, all_of, count_of, finished, has_row, is_pending, nothing_held, reading_by, settled, walk, walked, with_count, with_default, with_values, without}
use Rattle.clap.specs.Kinds.{Kinds, or_else, value_kinds}
use Rattle.clap.specs.Simple.{built, entered, matches_of}
use Rattle.clap.specs.Faults.{check_fault, default_fault, defaults_fault, entered_fault, fault_of, given_default_fault, settle_fault, turn_fault, walk_fault}
use Rattle.clap.specs.Matches.{count_text}
use Rattle.clap.specs.ValueTests.{accepts}
use Rattle.clap.proofs.CountText.{IsSignedIn-count_text}
use Rattle.clap.proofs.ValueTestLemmas.{Accepts-accepts}
use Rattle.clap.specs.declared.builder.value_parser.ValueParser.TheVariants as vp
use Rattle.clap.specs.declared.parser.matches.ValueSource.TheVariants.{CommandLine, DefaultValue}
use Rattle.pt_words.specs.Words.{Text, Sorted, no_words, with_steps, put_option, put_word, sort_words, is_equals, is_file_word}
use Rattle.pt_words.specs.Form.{EndsSo, HaveNoUses, form, is_regular, listed}
use Rattle.pt_words.proofs.Rows as rows
use Rattle.pt_words.proofs.Rules.{top, rules, files_rule, steps_rule, events_rule, stats_rule}

-- rows say what the sorted words have of each argument
pub record Says (s : Sorted) (rs : List Row) : Type 0 where
  pub files : all_of (codes "files") rs ≡ listed s.files
  pub steps : all_of (codes "steps") rs ≡ listed s.steps
  pub events : count_of (codes "events") rs ≡ min s.events 255
  pub stats : count_of (codes "stats") rs ≡ min s.stats 255

abbrev pub stand : Waiting → Held → Walk
stand wt h = record { held = h; waiting = wt; position = 1; is_trailing = false; stopped = None }

abbrev IsFree : Waiting → Type 0
IsFree idle = Unit {0}
IsFree positional = Unit {0}
IsFree (option id) = ⊥

abbrev pub awaiting : List Row → ℕ → Held
awaiting rs k = record { rows = rs; pending = Some (codes "steps", []); skip = k }

-- where the walk stands between words that are sorted so far
pub data Stands (s : Sorted) : Walk → Type 0 where
  free : (wt : Waiting) → IsFree wt → (h : Held) → s.awaits ≡ false → settle_fault rules false h ≡ [] → Says s (settled rules h).rows → Stands s (stand wt h)
  awaits : (rs : List Row) (k : ℕ) → s.awaits ≡ true → Says s rs → Stands s (stand (option (codes "steps")) (awaiting rs k))

-- what comes of one word more: it is put with the others, or it has a fault
abbrev pub Goes : Option Sorted → Walk → Kinds → Type 0
Goes (Some s) w f = (f ≡ []) × Stands s w
Goes None w f = f ≡ [] → ⊥

and_false : (b : Bool) → (b && false) ≡ false
and_false true = refl
and_false false = refl

listed_more : (xs : List Text) (v : Text) → Some (xs ++ v ∷ []) ≡ listed (xs ++ v ∷ [])
listed_more [] v = refl
listed_more (x ∷ xs) v = refl

says_file : (s : Sorted) (rs : List Row) (word : Text) → Says s rs
    → Says (record s { files = s.files ++ word ∷ [] }) (settled rules (record { rows = rs; pending = Some (codes "files", word ∷ []); skip = 0 })).rows
says_file s rs word h = record {
  files = rows.values_added (codes "files") _ _ (word ∷ []) rs s.files h.files ∙ listed_more s.files word;
  steps = rows.values_apart (codes "files") _ _ (word ∷ []) (codes "steps") refl rs ∙ h.steps;
  events = rows.values_uncounted (codes "files") _ _ (word ∷ []) (codes "events") refl rs ∙ h.events;
  stats = rows.values_uncounted (codes "files") _ _ (word ∷ []) (codes "stats") refl rs ∙ h.stats;
}

says_value : (s : Sorted) (rs : List Row) (word : Text) → Says s rs
    → Says (with_steps word s) (settled rules (record { rows = rs; pending = Some (codes "steps", word ∷ []); skip = 0 })).rows
says_value s rs word h = record {
  files = rows.values_apart (codes "steps") _ _ (word ∷ []) (codes "files") refl rs ∙ h.files;
  steps = rows.values_added (codes "steps") _ _ (word ∷ []) rs s.steps h.steps ∙ listed_more s.steps word;
  events = rows.values_uncounted (codes "steps") _ _ (word ∷ []) (codes "events") refl rs ∙ h.events;
  stats = rows.values_uncounted (codes "steps") _ _ (word ∷ []) (codes "stats") refl rs ∙ h.stats;
}

-- a file word
module _ (x : ℕ) (xs : Text) (e : (x == 45) ≡ false) where
  file_walked : (wt : Waiting) → IsFree wt → (h : Held)
      → walked rules [] (stand wt h) (x ∷ xs) ≡ stand positional
      (record { rows = (settled rules h).rows; pending = Some (codes "files", (x ∷ xs) ∷ []); skip = h.skip })
  unfolding walked
  file_walked idle f h = rw (e, e, and_false (is_pending files_rule h.pending)) refl
  file_walked positional f h = rw (e, e, and_false (is_pending files_rule h.pending)) refl
  file_walked (option id) f h = absurd f

  file_fault : (wt : Waiting) → IsFree wt → (h : Held) → settle_fault rules false h ≡ [] → turn_fault top [] (stand wt h) (x ∷ xs) ≡ []
  file_fault idle f h is = rw (e, e, and_false (is_pending files_rule h.pending)) is
  file_fault positional f h is = rw (e, e, and_false (is_pending files_rule h.pending)) is
  file_fault (option id) f h is = absurd f

  value_walked : (rs : List Row) (k : ℕ)
      → walked rules [] (stand (option (codes "steps")) (awaiting rs k)) (x ∷ xs) ≡ stand idle
      (record { rows = rs; pending = Some (codes "steps", (x ∷ xs) ∷ []); skip = k })
  unfolding walked
  value_walked rs k = rw (e, e) refl

  value_fault : (rs : List Row) (k : ℕ) → turn_fault top [] (stand (option (codes "steps")) (awaiting rs k)) (x ∷ xs) ≡ []
  value_fault rs k = rw (e, e) refl

-- clap's count of a flag is one it takes
count_passes : (n : ℕ) → n ≤ 255 → value_kinds false (vp.Signed (pos 0) (pos 255)) (count_text n) ≡ []
count_passes n le =
    let taken : accepts false (vp.Signed (pos 0) (pos 255)) (count_text n) ≡ true =
    Accepts-accepts false (vp.Signed (pos 0) (pos 255)) (count_text n) (IsSignedIn-count_text n le) in
    rw taken refl

one_more : (m n : ℕ) → m ≡ min n 255 → min (m + 1) 255 ≡ min (n + 1) 255
one_more m n e = rw e (grind arith)

in_range : (n : ℕ) → min n 255 ≤ 255
in_range n = grind arith

-- a word that begins with two hyphens, by its name
module _ (c : ℕ) (rest : Text) where
  abbrev word : Text
  word = 45 ∷ 45 ∷ c ∷ rest

  abbrev name : Text
  name = before_first is_equals (c ∷ rest)

  abbrev value : Text
  value = after_first is_equals (c ∷ rest)

  abbrev has_value : Bool
  has_value = list_any is_equals (c ∷ rest)

  abbrev says_steps : Bool
  says_steps = bytes_eq (codes "steps") name

  abbrev says_events : Bool
  says_events = bytes_eq (codes "events") name

  abbrev says_stats : Bool
  says_stats = bytes_eq (codes "stats") name

  -- where the last word awaits its value, such a word has a fault
  module _ (rs : List Row) (k : ℕ) where
    abbrev lacking : Kinds
    lacking = turn_fault top [] (stand (option (codes "steps")) (awaiting rs k)) word

    lacking_by : (v a b d : Bool) → has_value ≡ v → says_steps ≡ a → says_events ≡ b → says_stats ≡ d → lacking ≡ [] → ⊥
    lacking_by true true b d ev ea eb ed clean = let bad = rw (ev, ea) at clean in absurd cc
    lacking_by true false true d ev ea eb ed clean = let bad = rw (ev, ea, eb) at clean in absurd cc
    lacking_by true false false true ev ea eb ed clean = let bad = rw (ev, ea, eb, ed) at clean in absurd cc
    lacking_by true false false false ev ea eb ed clean = let bad = rw (ea, eb, ed) at clean in absurd cc
    lacking_by false true b d ev ea eb ed clean = let bad = rw (ev, ea) at clean in absurd cc
    lacking_by false false true d ev ea eb ed clean = let bad = rw (ev, ea, eb) at clean in absurd cc
    lacking_by false false false true ev ea eb ed clean = let bad = rw (ev, ea, eb, ed) at clean in absurd cc
    lacking_by false false false false ev ea eb ed clean = let bad = rw (ea, eb, ed) at clean in absurd cc

    pub has_fault : lacking ≡ [] → ⊥
    has_fault = lacking_by has_value says_steps says_events says_stats refl refl refl refl

  module _ (s : Sorted) (h : Held) (idles : s.awaits ≡ false) (is : settle_fault rules false h ≡ []) (says : Says s (settled rules h).rows) where
    abbrev From : Waiting → Type 0
    From wt = Goes (put_option (c ∷ rest) s) (walked rules [] (stand wt h) word) (turn_fault top [] (stand wt h) word)

    abbrev settled_rows : List Row
    settled_rows = (settled rules h).rows

    -- `--steps` alone
    steps_walked : has_value ≡ false → says_steps ≡ true → (wt : Waiting)
        → walked rules [] (stand wt h) word ≡ stand (option (codes "steps")) (awaiting settled_rows h.skip)
    unfolding walked
    steps_walked ev ea idle = rw (ev, ea) refl
    steps_walked ev ea positional = rw (ev, ea) refl
    steps_walked ev ea (option id) = rw (ev, ea) refl

    steps_fault : has_value ≡ false → says_steps ≡ true → (wt : Waiting) → turn_fault top [] (stand wt h) word ≡ []
    steps_fault ev ea idle = rw (ev, ea, is) refl
    steps_fault ev ea positional = rw (ev, ea, is) refl
    steps_fault ev ea (option id) = rw (ev, ea, is) refl

    -- `--steps=VALUE`
    abbrev with_value : Held
    with_value =
        record {
          rows = (settled rules (record { rows = settled_rows; pending = Some (codes "steps", value ∷ []); skip = h.skip })).rows;
          pending = None;
          skip = h.skip;
        }

    value_put : has_value ≡ true → says_steps ≡ true → (wt : Waiting) → walked rules [] (stand wt h) word ≡ stand idle with_value
    unfolding walked
    value_put ev ea idle = rw (ev, ea) refl
    value_put ev ea positional = rw (ev, ea) refl
    value_put ev ea (option id) = rw (ev, ea) refl

    put_fault : has_value ≡ true → says_steps ≡ true → (wt : Waiting) → turn_fault top [] (stand wt h) word ≡ []
    put_fault ev ea idle = rw (ev, ea, is) refl
    put_fault ev ea positional = rw (ev, ea, is) refl
    put_fault ev ea (option id) = rw (ev, ea, is) refl

    -- `--events` and `--stats`
    abbrev counting : (id : Text) → Held
    counting id = record {
      rows = with_count id (reading_by events_rule) CommandLine (min (count_of id settled_rows + 1) 255) (without id settled_rows);
      pending = None;
      skip = h.skip;
    }

    events_walked : has_value ≡ false → says_steps ≡ false → says_events ≡ true → (wt : Waiting)
        → walked rules [] (stand wt h) word ≡ stand idle (counting (codes "events"))
    unfolding walked
    events_walked ev ea eb idle = rw (ev, ea, eb) refl
    events_walked ev ea eb positional = rw (ev, ea, eb) refl
    events_walked ev ea eb (option id) = rw (ev, ea, eb) refl

    events_fault : has_value ≡ false → says_steps ≡ false → says_events ≡ true → (wt : Waiting) → turn_fault top [] (stand wt h) word ≡ []
    events_fault ev ea eb idle = rw (ev, ea, eb, is, count_passes _ (in_range (count_of (codes "events") settled_rows + 1))) refl
    events_fault ev ea eb positional = rw (ev, ea, eb, is, count_passes _ (in_range (count_of (codes "events") settled_rows + 1))) refl
    events_fault ev ea eb (option id) = rw (ev, ea, eb, is, count_passes _ (in_range (count_of (codes "events") settled_rows + 1))) refl

    stats_walked : has_value ≡ false → says_steps ≡ false → says_events ≡ false → says_stats ≡ true → (wt : Waiting)
        → walked rules [] (stand wt h) word ≡ stand idle (counting (codes "stats"))
    unfolding walked
    stats_walked ev ea eb ed idle = rw (ev, ea, eb, ed) refl
    stats_walked ev ea eb ed positional = rw (ev, ea, eb, ed) refl
    stats_walked ev ea eb ed (option id) = rw (ev, ea, eb, ed) refl

    stats_fault : has_value ≡ false → says_steps ≡ false → says_events ≡ false → says_stats ≡ true → (wt : Waiting) → turn_fault top [] (stand wt h) word ≡ []
    stats_fault ev ea eb ed idle = rw (ev, ea, eb, ed, is, count_passes _ (in_range (count_of (codes "stats") settled_rows + 1))) refl
    stats_fault ev ea eb ed positional = rw (ev, ea, eb, ed, is, count_passes _ (in_range (count_of (codes "stats") settled_rows + 1))) refl
    stats_fault ev ea eb ed (option id) = rw (ev, ea, eb, ed, is, count_passes _ (in_range (count_of (codes "stats") settled_rows + 1))) refl

    says_events_more : Says (record s { events = s.events + 1 }) (counting (codes "events")).rows
    says_events_more = record {
      files =
          rows.count_apart (codes "events") (reading_by events_rule) CommandLine
          (min (count_of (codes "events") settled_rows + 1) 255) (codes "files") refl settled_rows ∙ says.files;
      steps =
          rows.count_apart (codes "events") (reading_by events_rule) CommandLine
          (min (count_of (codes "events") settled_rows + 1) 255) (codes "steps") refl settled_rows ∙ says.steps;
      events =
          rows.count_given (codes "events") (reading_by events_rule) CommandLine
          (min (count_of (codes "events") settled_rows + 1) 255) (without (codes "events") settled_rows) ∙ one_more _ _ says.events;
      stats =
          rows.counts_apart (codes "events") (reading_by events_rule) CommandLine
          (min (count_of (codes "events") settled_rows + 1) 255) (codes "stats") refl settled_rows ∙ says.stats;
    }

    says_stats_more : Says (record s { stats = s.stats + 1 }) (counting (codes "stats")).rows
    says_stats_more = record {
      files =
          rows.count_apart (codes "stats") (reading_by events_rule) CommandLine
          (min (count_of (codes "stats") settled_rows + 1) 255) (codes "files") refl settled_rows ∙ says.files;
      steps =
          rows.count_apart (codes "stats") (reading_by events_rule) CommandLine
          (min (count_of (codes "stats") settled_rows + 1) 255) (codes "steps") refl settled_rows ∙ says.steps;
      events =
          rows.counts_apart (codes "stats") (reading_by events_rule) CommandLine
          (min (count_of (codes "stats") settled_rows + 1) 255) (codes "events") refl settled_rows ∙ says.events;
      stats =
          rows.count_given (codes "stats") (reading_by events_rule) CommandLine
          (min (count_of (codes "stats") settled_rows + 1) 255) (without (codes "stats") settled_rows) ∙ one_more _ _ says.stats;
    }

    says_awaiting : Says (record s { awaits = true }) settled_rows
    says_awaiting = record { files = says.files; steps = says.steps; events = says.events; stats = says.stats }

    -- an option with a name that isn't its own, or with a value where it takes none
    wrong_name : (wt : Waiting) → says_steps ≡ false → says_events ≡ false → says_stats ≡ false → turn_fault top [] (stand wt h) word ≡ [] → ⊥
    wrong_name idle ea eb ed clean = let bad = rw (ea, eb, ed) at clean in absurd cc
    wrong_name positional ea eb ed clean = let bad = rw (ea, eb, ed) at clean in absurd cc
    wrong_name (option id) ea eb ed clean = let bad = rw (ea, eb, ed) at clean in absurd cc

    needless_value : (wt : Waiting) (b d : Bool) → has_value ≡ true → says_steps ≡ false → says_events ≡ b → says_stats ≡ d → (b || d) ≡ true
        → turn_fault top [] (stand wt h) word ≡ [] → ⊥
    needless_value idle true d ev ea eb ed t clean = let bad = rw (ev, ea, eb) at clean in absurd cc
    needless_value idle false true ev ea eb ed t clean = let bad = rw (ev, ea, eb, ed) at clean in absurd cc
    needless_value positional true d ev ea eb ed t clean = let bad = rw (ev, ea, eb) at clean in absurd cc
    needless_value positional false true ev ea eb ed t clean = let bad = rw (ev, ea, eb, ed) at clean in absurd cc
    needless_value (option id) true d ev ea eb ed t clean = let bad = rw (ev, ea, eb) at clean in absurd cc
    needless_value (option id) false true ev ea eb ed t clean = let bad = rw (ev, ea, eb, ed) at clean in absurd cc
    needless_value wt false false ev ea eb ed t clean = absurd (true≢false (sym t))

    from_walk : (o : Option Sorted) (s' : Sorted) (wt : Waiting) (w : Walk) → o ≡ Some s' → walked rules [] (stand wt h) word ≡ w
        → turn_fault top [] (stand wt h) word ≡ [] → Stands s' w → Goes o (walked rules [] (stand wt h) word) (turn_fault top [] (stand wt h) word)
    from_walk o s' wt w e at f st =
        subst (λ q. Goes q (walked rules [] (stand wt h) word) (turn_fault top [] (stand wt h) word)) (sym e) (f, subst (Stands s') (sym at) st)

    from_fault : (o : Option Sorted) (wt : Waiting) → o ≡ None → (turn_fault top [] (stand wt h) word ≡ [] → ⊥)
        → Goes o (walked rules [] (stand wt h) word) (turn_fault top [] (stand wt h) word)
    from_fault o wt e f = subst (λ q. Goes q (walked rules [] (stand wt h) word) (turn_fault top [] (stand wt h) word)) (sym e) f

    goes_by : (wt : Waiting) (v a b d : Bool) → has_value ≡ v → says_steps ≡ a → says_events ≡ b → says_stats ≡ d → From wt
    goes_by wt true true b d ev ea eb ed =
        from_walk _ (with_steps value s) wt (stand idle with_value) (rw (ev, ea) refl) (value_put ev ea wt) (put_fault ev ea wt)
        (free idle tt with_value refl refl (says_value s settled_rows value says))
    goes_by wt true false true d ev ea eb ed = from_fault _ wt (rw (ev, ea) refl) (needless_value wt true d ev ea eb ed refl)
    goes_by wt true false false true ev ea eb ed = from_fault _ wt (rw (ev, ea) refl) (needless_value wt false true ev ea eb ed refl)
    goes_by wt true false false false ev ea eb ed = from_fault _ wt (rw (ev, ea) refl) (wrong_name wt ea eb ed)
    goes_by wt false true b d ev ea eb ed =
        from_walk _ (record s { awaits = true }) wt (stand (option (codes "steps")) (awaiting settled_rows h.skip)) (rw (ev, ea) refl) (steps_walked ev ea wt)
        (steps_fault ev ea wt) (awaits settled_rows h.skip refl says_awaiting)
    goes_by wt false false true d ev ea eb ed =
        from_walk _ (record s { events = s.events + 1 }) wt (stand idle (counting (codes "events"))) (rw (ev, ea, eb) refl) (events_walked ev ea eb wt)
        (events_fault ev ea eb wt) (free idle tt (counting (codes "events")) idles refl says_events_more)
    goes_by wt false false false true ev ea eb ed =
        from_walk _ (record s { stats = s.stats + 1 }) wt (stand idle (counting (codes "stats"))) (rw (ev, ea, eb, ed) refl) (stats_walked ev ea eb ed wt)
        (stats_fault ev ea eb ed wt) (free idle tt (counting (codes "stats")) idles refl says_stats_more)
    goes_by wt false false false false ev ea eb ed = from_fault _ wt (rw (ev, ea, eb, ed) refl) (wrong_name wt ea eb ed)

    pub goes : (wt : Waiting) → From wt
    goes wt = goes_by wt has_value says_steps says_events says_stats refl refl refl refl

-- one word more
abbrev Step : Sorted → Walk → Text → Type 0
Step s w t = Goes (put_word t s) (walked rules [] w t) (turn_fault top [] w t)

module _ (x : ℕ) (xs : Text) (e : (x == 45) ≡ false) where
  is_file : is_file_word (x ∷ xs) ≡ true
  is_file = rw e refl

  file_steps : (s : Sorted) (w : Walk) → Stands s w → Step s w (x ∷ xs)
  file_steps s _ (free wt f h idles is says) =
      let put : put_word (x ∷ xs) s ≡ Some (record s { files = s.files ++ (x ∷ xs) ∷ [] }) = rw (e, idles) refl in
      subst (λ q. Goes q (walked rules [] (stand wt h) (x ∷ xs)) (turn_fault top [] (stand wt h) (x ∷ xs))) (sym put) (
        file_fault x xs e wt f h is,
        subst (Stands _) (sym (file_walked x xs e wt f h))
            (free positional tt _ idles refl (says_file s (settled rules h).rows (x ∷ xs) says)),
      )
  file_steps s _ (awaits rs k waits says) =
      let put : put_word (x ∷ xs) s ≡ Some (with_steps (x ∷ xs) s) = rw (e, waits) refl in
      subst
      (λ q. Goes q (walked rules [] (stand (option (codes "steps")) (awaiting rs k)) (x ∷ xs))
      (turn_fault top [] (stand (option (codes "steps")) (awaiting rs k)) (x ∷ xs)))
      (sym put) (value_fault x xs e rs k, subst (Stands _) (sym (value_walked x xs e rs k)) (free idle tt _ refl refl (says_value s rs (x ∷ xs) says)))

module _ (c : ℕ) (rest : Text) where
  long_steps : (s : Sorted) (w : Walk) → Stands s w → Step s w (45 ∷ 45 ∷ c ∷ rest)
  long_steps s _ (free wt f h idles is says) =
      let put : put_word (45 ∷ 45 ∷ c ∷ rest) s ≡ put_option (c ∷ rest) s = rw idles refl in
      subst (λ q. Goes q (walked rules [] (stand wt h) (45 ∷ 45 ∷ c ∷ rest)) (turn_fault top [] (stand wt h) (45 ∷ 45 ∷ c ∷ rest))) (sym put)
      (goes c rest s h idles is says wt)
  long_steps s _ (awaits rs k waits says) =
      let put : put_word (45 ∷ 45 ∷ c ∷ rest) s ≡ None = rw waits refl in
      subst (λ q. Goes q (walked rules [] (stand (option (codes "steps")) (awaiting rs k)) (45 ∷ 45 ∷ c ∷ rest))
      (turn_fault top [] (stand (option (codes "steps")) (awaiting rs k)) (45 ∷ 45 ∷ c ∷ rest))) (sym put) (has_fault c rest rs k)

long_form : (a b c : ℕ) (rest : Text) → (a == 45) ≡ true → (b == 45) ≡ true → (s : Sorted) (w : Walk) → Stands s w → Step s w (a ∷ b ∷ c ∷ rest)
long_form a b c rest e f s w st =
    let at_a : a ≡ 45 = eqb-true a 45 e in
    let at_b : b ≡ 45 = eqb-true b 45 f in
    subst (λ q. Step s w (q ∷ b ∷ c ∷ rest)) (sym at_a) (subst (λ q. Step s w (45 ∷ q ∷ c ∷ rest)) (sym at_b) (long_steps c rest s w st))

by_first : (x : ℕ) (xs : Text) (b : Bool) → (x == 45) ≡ b → is_regular (x ∷ xs) ≡ true → (s : Sorted) (w : Walk) → Stands s w → Step s w (x ∷ xs)
by_first x xs false e r s w st = file_steps x xs e s w st
by_first x [] true e r s w st = let bad = rw e at r in absurd cc
by_first x (y ∷ []) true e r s w st = let bad = rw e at r in absurd cc
by_first x (y ∷ c ∷ rest) true e r s w st = long_form x y c rest e (rw e at r) s w st

step : (word : Text) → is_regular word ≡ true → (s : Sorted) (w : Walk) → Stands s w → Step s w word
step [] r s w st = absurd (true≢false (sym r))
step (x ∷ xs) r s w st = by_first x xs (x == 45) refl r s w st

-- all the words
abbrev pub AllRegular : List Text → Type 0
AllRegular [] = Unit {0}
AllRegular (word ∷ words) = (is_regular word ≡ true) × AllRegular words

or_else_clean : (f g : Kinds) → f ≡ [] → or_else f g ≡ g
or_else_clean f g e = rw e refl

or_else_first : (f g : Kinds) → or_else f g ≡ [] → f ≡ []
or_else_first [] g e = refl
or_else_first (k ∷ ks) g e = absurd cc

or_else_second : (f g : Kinds) → or_else f g ≡ [] → g ≡ []
or_else_second [] g e = e
or_else_second (k ∷ ks) g e = absurd cc

after_one : (t : Text) (words : List Text) (w : Walk) (o : Option Sorted) → Goes o (walked rules [] w t) (turn_fault top [] w t)
    → ((s : Sorted) → Stands s (walked rules [] w t)
    → Goes (sort_words words s) (fold (walked rules []) (walked rules [] w t) words) (walk_fault top [] (walked rules [] w t) words))
    → Goes (option_and_then (sort_words words) o) (fold (walked rules []) (walked rules [] w t) words)
    (or_else (turn_fault top [] w t) (walk_fault top [] (walked rules [] w t) words))
after_one t words w (Some s) g more =
    subst (λ f. Goes (sort_words words s) (fold (walked rules []) (walked rules [] w t) words) f)
    (sym (or_else_clean (turn_fault top [] w t) (walk_fault top [] (walked rules [] w t) words) g.0)) (more s g.1)
after_one t words w None g more = λ clean. g (or_else_first (turn_fault top [] w t) (walk_fault top [] (walked rules [] w t) words) clean)

walks : (words : List Text) → AllRegular words → (s : Sorted) (w : Walk) → Stands s w
    → Goes (sort_words words s) (fold (walked rules []) w words) (walk_fault top [] w words)
unfolding walk_fault
walks [] r s w st = (refl, st)
walks (t ∷ words) r s w st = after_one t words w (put_word t s) (step t r.0 s w st) (λ s' st'. walks words r.1 s' (walked rules [] w t) st')

-- defaults change nothing of what the rows say
same_rows : (b : Bool) (rs : List Row) → (if b then rs else rs) ≡ rs
same_rows true rs = refl
same_rows false rs = refl

module _ (s : Sorted) where
  says_events_default : (b : Bool) (rs : List Row) → has_row (codes "events") rs ≡ b → Says s rs
      → Says s (if b then rs else with_values (codes "events") (reading_by events_rule) DefaultValue (codes "0" ∷ []) rs)
  says_events_default true rs e h = h
  says_events_default false rs e h = record {
    files = rows.values_apart (codes "events") (reading_by events_rule) DefaultValue (codes "0" ∷ []) (codes "files") refl rs ∙ h.files;
    steps = rows.values_apart (codes "events") (reading_by events_rule) DefaultValue (codes "0" ∷ []) (codes "steps") refl rs ∙ h.steps;
    events = rows.default_counted (codes "events") (reading_by events_rule) DefaultValue (codes "0" ∷ []) rs e
        ∙ sym (rows.none_counted (codes "events") rs e) ∙ h.events;
    stats = rows.values_uncounted (codes "events") (reading_by events_rule) DefaultValue (codes "0" ∷ []) (codes "stats") refl rs ∙ h.stats;
  }

  says_stats_default : (b : Bool) (rs : List Row) → has_row (codes "stats") rs ≡ b → Says s rs
      → Says s (if b then rs else with_values (codes "stats") (reading_by stats_rule) DefaultValue (codes "0" ∷ []) rs)
  says_stats_default true rs e h = h
  says_stats_default false rs e h = record {
    files = rows.values_apart (codes "stats") (reading_by stats_rule) DefaultValue (codes "0" ∷ []) (codes "files") refl rs ∙ h.files;
    steps = rows.values_apart (codes "stats") (reading_by stats_rule) DefaultValue (codes "0" ∷ []) (codes "steps") refl rs ∙ h.steps;
    events = rows.values_uncounted (codes "stats") (reading_by stats_rule) DefaultValue (codes "0" ∷ []) (codes "events") refl rs ∙ h.events;
    stats = rows.default_counted (codes "stats") (reading_by stats_rule) DefaultValue (codes "0" ∷ []) rs e
        ∙ sym (rows.none_counted (codes "stats") rs e) ∙ h.stats;
  }

  says_finished : (h : Held) → Says s (settled rules h).rows → Says s (finished rules h)
  says_finished h says =
      let rs = (settled rules h).rows in
      let one : Says s (with_default rs files_rule) = subst (Says s) (sym (same_rows (has_row (codes "files") rs) rs)) says in
      let two : Says s (with_default (with_default rs files_rule) steps_rule) =
      subst (Says s) (sym (same_rows (has_row (codes "steps") (with_default rs files_rule)) (with_default rs files_rule))) one in
      let three = says_events_default _ _ refl two in
      says_stats_default _ _ refl three

or_true : (b : Bool) → (b || true) ≡ true
or_true true = refl
or_true false = refl

no_default : (b : Bool) (f : Kinds) → (if b || true then [] else f) ≡ []
no_default b f = rw (or_true b) refl

good_default : (b : Bool) (f : Kinds) → f ≡ [] → (if b || false then [] else f) ≡ []
good_default true f e = refl
good_default false f e = e

both_clean : (f g : Kinds) → f ≡ [] → g ≡ [] → or_else f g ≡ []
both_clean f g e d = rw e d

module _ (rs : List Row) where
  files_default : default_fault rs files_rule ≡ []
  files_default = no_default (has_row (codes "files") rs) (given_default_fault files_rule [])

  steps_default : default_fault rs steps_rule ≡ []
  steps_default = no_default (has_row (codes "steps") rs) (given_default_fault steps_rule [])

  events_default : default_fault rs events_rule ≡ []
  events_default = good_default (has_row (codes "events") rs) (given_default_fault events_rule (codes "0" ∷ [])) refl

  stats_default : default_fault rs stats_rule ≡ []
  stats_default = good_default (has_row (codes "stats") rs) (given_default_fault stats_rule (codes "0" ∷ [])) refl

clean_defaults : (rs : List Row) → defaults_fault rs rules ≡ []
unfolding defaults_fault
clean_defaults rs =
    let rs1 = with_default rs files_rule in
    let rs2 = with_default rs1 steps_rule in
    let rs3 = with_default rs2 events_rule in
    both_clean (default_fault rs files_rule) _ (files_default rs)
    (both_clean (default_fault rs1 steps_rule) _ (steps_default rs1)
    (both_clean (default_fault rs2 events_rule) _ (events_default rs2)
    (both_clean (default_fault rs3 stats_rule) [] (stats_default rs3) refl)))

clean_checks : (rs : List Row) → check_fault top rs false ≡ []
clean_checks rs = refl

-- what fails, by the walk that the words make
module _ (words : List Text) (r : AllRegular words) where
  abbrev last : Walk
  last = walk rules [] nothing_held words

  abbrev behind : Walk → Kinds
  behind w =
      or_else (entered_fault (built form) w.stopped)
      (or_else (settle_fault rules false w.held)
      (or_else (defaults_fault (settled rules w.held).rows rules) (check_fault top (finished rules w.held) (is_some (entered (built form) w.stopped)))))

  abbrev all_faults : Kinds
  all_faults = or_else (walk_fault top [] (stand idle nothing_held) words) (behind last)

  are_faults : fault_of form words ≡ all_faults
  are_faults = refl

  are_matches : matches_of form words ≡ finished rules last.held
  are_matches = refl

  says_nothing : Says no_words []
  says_nothing = record { files = refl; steps = refl; events = refl; stats = refl }

  walked_all : Goes (sort_words words no_words) last (walk_fault top [] (stand idle nothing_held) words)
  walked_all = walks words r no_words (stand idle nothing_held) (free idle tt nothing_held refl refl says_nothing)

  clean_behind : (s : Sorted) (w : Walk) → Stands s w → s.awaits ≡ false → behind w ≡ []
  clean_behind s _ (free wt f h idles is says) e =
      both_clean (settle_fault rules false h) _ is
      (both_clean _ _ (clean_defaults (settled rules h).rows) (clean_checks (finished rules h)))
  clean_behind s _ (awaits rs k waits says) e = absurd (true≢false (sym waits ∙ e))

  no_value_lacks : (s : Sorted) (w : Walk) → Stands s w → behind w ≡ [] → s.awaits ≡ false
  no_value_lacks s _ (free wt f h idles is says) clean = idles
  no_value_lacks s _ (awaits rs k waits says) clean = absurd cc

  says_all : (s : Sorted) (w : Walk) → Stands s w → s.awaits ≡ false → Says s (finished rules w.held)
  says_all s _ (free wt f h idles is says) e = says_finished s h says
  says_all s _ (awaits rs k waits says) e = absurd (true≢false (sym waits ∙ e))

  pub record Sorts : Type 0 where
    pub sorted : Sorted
    pub are_sorted : sort_words words no_words ≡ Some sorted
    pub no_value_lacks : sorted.awaits ≡ false
    pub says : Says sorted (matches_of form words)

  sorts_by : (o : Option Sorted) → sort_words words no_words ≡ o → Goes o last (walk_fault top [] (stand idle nothing_held) words) → all_faults ≡ [] → Sorts
  sorts_by None e g clean = absurd (g (or_else_first (walk_fault top [] (stand idle nothing_held) words) (behind last) clean))
  sorts_by (Some s) e g clean =
      let idles = no_value_lacks s last g.1 (or_else_second (walk_fault top [] (stand idle nothing_held) words) (behind last) clean) in
      record { sorted = s; are_sorted = e; no_value_lacks = idles; says = says_all s last g.1 idles }

  pub sorts : fault_of form words ≡ [] → Sorts
  sorts clean = sorts_by (sort_words words no_words) refl walked_all clean

  ends_by : (o : Option Sorted) → Goes o last (walk_fault top [] (stand idle nothing_held) words) → (all_faults ≡ [] → ⊥) → EndsSo o
  ends_by None g fails = tt
  ends_by (Some s) g fails = lacks s.awaits refl
    where
      lacks : (b : Bool) → s.awaits ≡ b → s.awaits ≡ true
      lacks true e = e
      lacks false e = absurd (fails (both_clean (walk_fault top [] (stand idle nothing_held) words) (behind last) g.0 (clean_behind s last g.1 e)))

  pub ends : (fault_of form words ≡ [] → ⊥) → HaveNoUses words
  ends fails = ends_by (sort_words words no_words) walked_all fails
