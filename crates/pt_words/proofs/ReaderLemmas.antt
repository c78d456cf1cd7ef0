-- From what clap answers to the sorted words.
use Rattle.std.proofs.Common.{◌≡◌, ◌∙◌, ◌&&◌, ◌==◌, ℕ, Bool, true, false, not, if◌then◌else◌, List, [], ◌∷◌, Option, Some, None, map, option_map, unwrap_or, codes, min, string_bytes, refl, sym, ap, subst, arith, inl, inr}
use Rattle.std.specs.declared.string.String.{String}
use Rattle.std.specs.declared.alloc.Global.{Global}
use Rattle.std.specs.List.{list_all}
use Rattle.std.specs.Prelude.{nat_le, option_and_then}
use Rattle.std.proofs.lemmas.Bool.{true≢false}
use Rattle.std.specs.Borrow.{Bor}
use Rattle.std.specs.Option.{ok_or}
use Rattle.std.specs.Result.{MatchResult}
use Rattle.clap.proofs.WalkLemmas.{raw_values-rows}
use Rattle.clap.specs.Walk.{all_of, count_of, rows_of}
use Rattle.clap.specs.Matches.{found_of, matched_of, raw_values}
use Rattle.clap.specs.Kinds.{HasKind, IsAmong}
use Rattle.clap.specs.Values.{kind_of}
use Rattle.clap.specs.Faults.{fault_of, is_simple_and_free}
use Rattle.clap.specs.Simple.{App, HasMatchesOf, is_simple, matches_of}
use Rattle.clap.specs.declared.error.Error.{Error}
use Rattle.clap.specs.declared.error.kind.ErrorKind.TheVariants as kind
use Rattle.clap.specs.declared.parser.matches.ArgMatches.{ArgMatches}
use Rattle.pt_words.specs.Words.{Text, Sorted, Asked, asked_by, asked_of, command_line, command_of, no_words, put_option, put_word, sort_words, steps_of}
use Rattle.pt_words.specs.Form.{HasUses, HaveNoUses, form, is_regular, listed}
use Rattle.pt_words.specs.declared.line.Command.{Command}
use Rattle.pt_words.specs.Asked.{asked}
use Rattle.pt_words.specs.declared.line.CommandLine.{CommandLine}
use Rattle.pt_words.specs.declared.line.WordsErr.TheVariants as WordsErr
use Rattle.pt_words.proofs.Rules.{is_simple_form, is_free_form}
use Rattle.pt_words.proofs.Walking.{AllRegular, Says, Sorts, sorts, ends}

abbrev Words : Type 0
Words = List (String Global)

abbrev pub are_regular : Words → Bool
are_regular = list_all (λ word. is_regular (string_bytes word))

pub all_regular : (words : Words) → are_regular words ≡ true → AllRegular (map string_bytes words)
all_regular [] e = tt
all_regular (word ∷ words) e = both (is_regular (string_bytes word)) (are_regular words) e (all_regular words)
  where
    both : (a b : Bool) → (a && b) ≡ true → (b ≡ true → AllRegular (map string_bytes words)) → (a ≡ true) × AllRegular (map string_bytes words)
    both true b f more = (refl, more f)
    both false b f more = absurd (true≢false (sym f))

-- words of which one isn't regular are no command line
no_word : (word : Text) (s : Sorted) → is_regular word ≡ false → put_word word s ≡ None
no_word [] s e = refl
no_word (x ∷ xs) s e = by_first (x == 45) refl
  where
    by_second : (ys : Text) → (x == 45) ≡ true → is_regular (x ∷ ys) ≡ false → put_word (x ∷ ys) s ≡ None
    by_second [] f g = rw f refl
    by_second (y ∷ []) f g = rw f (lone (y == 45) s.awaits)
      where
        lone : (b c : Bool) → (if b && not c then put_option [] s else None) ≡ None
        lone true true = refl
        lone true false = refl
        lone false c = refl
    by_second (y ∷ c ∷ rest) f g = let not_long : (y == 45) ≡ false = rw f at g in rw (f, not_long) refl

    by_first : (b : Bool) → (x == 45) ≡ b → put_word (x ∷ xs) s ≡ None
    by_first true f = by_second xs f e
    by_first false f = let bad = rw f at e in absurd (true≢false bad)

module _ (words : List Text) (r : AllRegular words) (app : App) (is : app ≡ form) where
  pub has_uses : (m : ArgMatches) → (is_simple_and_free app ≡ true → fault_of app words ≡ []) → HasMatchesOf app words m → HasUses words m
  has_uses m clean matches =
      let sorted : Sorts words r = sorts words r (ap (λ a. fault_of a words) (sym is) ∙ clean (ap is_simple_and_free is ∙ is_free_form)) in
      let rows : rows_of (found_of m) ≡ matches_of form words = (matches (ap is_simple is ∙ is_simple_form)).0 ∙ ap (λ a. matches_of a words) is in
      let says : Says sorted.sorted (rows_of (found_of m)) = subst (Says sorted.sorted) (sym rows) sorted.says in
      record {
        sorted = sorted.sorted;
        are_sorted = sorted.are_sorted;
        no_value_lacks = sorted.no_value_lacks;
        are_uses = record { files = says.files; steps = says.steps; events = says.events; stats = says.stats };
      }

  pub have_no_uses : (e : Error) → (is_simple_and_free app ≡ true → HasKind (fault_of app words) e) → (kind_of e ≡ kind.OutOfMemory → ⊥) → HaveNoUses words
  have_no_uses e fails other =
      ends words r (λ clean. elim (fails (ap is_simple_and_free is ∙ is_free_form)) [
        | inl m ↦ other m
        | inr k ↦ subst (IsAmong (kind_of e)) (ap (λ a. fault_of a words) is ∙ clean) k
      ])

no_sorting : (words : Words) (s : Sorted) → are_regular words ≡ false → sort_words (map string_bytes words) s ≡ None
no_sorting [] s e = absurd (true≢false e)
no_sorting (word ∷ words) s e = by_word (is_regular (string_bytes word)) refl (no_sorting words)
  where
    over : (o : Option Sorted) → ((t : Sorted) → are_regular words ≡ false → sort_words (map string_bytes words) t ≡ None) → are_regular words ≡ false
        → option_and_then (sort_words (map string_bytes words)) o ≡ None
    over None more f = refl
    over (Some t) more f = more t f

    by_word : (b : Bool) → is_regular (string_bytes word) ≡ b → ((t : Sorted) → are_regular words ≡ false → sort_words (map string_bytes words) t ≡ None)
        → sort_words (map string_bytes (word ∷ words)) s ≡ None
    by_word true f more = over (put_word (string_bytes word) s) more (rw f at e)
    by_word false f more = ap (option_and_then (sort_words (map string_bytes words))) (no_word (string_bytes word) s f)

pub irregular : (words : Words) → are_regular words ≡ false → command_line (map string_bytes words) ≡ None
irregular words e = ap (option_and_then (λ s. asked_of s.files s)) (no_sorting words no_words e)

-- counts that end at 255 say whether a flag stands once at most
at_most_one : (n : ℕ) → nat_le (min n 255) 1 ≡ nat_le n 1
at_most_one n = grind arith

is_one : (n : ℕ) → (min n 255 == 1) ≡ (n == 1)
is_one n = grind arith

-- the sorted words as clap's matches give them
module _ (s : Sorted) (idles : s.awaits ≡ false) where
  abbrev clipped : Sorted
  clipped = record { files = s.files; steps = s.steps; events = min s.events 255; stats = min s.stats 255; awaits = false }

  same_by : (c : Option Command) (script : Text) (n : Option ℕ) → asked_by clipped c script n ≡ asked_by s c script n
  same_by None script n = refl
  same_by (Some c) script None = refl
  same_by (Some c) script (Some n) = rw (at_most_one s.events, at_most_one s.stats, is_one s.events, is_one s.stats, idles) refl

  same_of : (files : List Text) → asked_of files clipped ≡ asked_of files s
  same_of [] = refl
  same_of (word ∷ []) = refl
  same_of (word ∷ script ∷ []) = same_by (command_of word script) script (steps_of s.steps)
  same_of (word ∷ script ∷ more ∷ rest) = refl

given : (xs : List Text) (o : Option (List Text)) → o ≡ listed xs → unwrap_or o [] ≡ xs
given [] o e = ap (λ q. unwrap_or q []) e
given (x ∷ xs) o e = ap (λ q. unwrap_or q []) e

texts_of : (o : Option (Bor (List (Bor Text)))) (none : Bor (List (Bor Text))) → none.now ≡ [] → map (λ (v : Bor Text). v.now) (unwrap_or o none).now
    ≡ unwrap_or (option_map (λ (q : Bor (List (Bor Text))). map (λ (v : Bor Text). v.now) q.now) o) []
texts_of None none e = ap (map (λ (v : Bor Text). v.now)) e
texts_of (Some q) none e = refl

-- the values of an argument, as they are read
pub values_are : (m : ArgMatches) (id : Text) (xs : List Text) → all_of id (rows_of (found_of m)) ≡ listed xs
    → (o : Option (Bor (List (Bor Text)))) (none r : Bor (List (Bor Text)))
    → none.now ≡ [] → r ≡ unwrap_or o none
    → option_map (λ (q : Bor (List (Bor Text))). map (λ (v : Bor Text). v.now) q.now) o ≡ option_map raw_values
    (matched_of (found_of m) id)
    → map (λ (v : Bor Text). v.now) r.now ≡ xs
values_are m id xs e o none r is_empty at is =
    ap (λ (q : Bor (List (Bor Text))). map (λ (v : Bor Text). v.now) q.now) at ∙ texts_of o none is_empty
    ∙ given xs _ (is ∙ raw_values-rows (found_of m) id ∙ e)

-- what is asked for by the uses of arguments is what the words ask for
pub uses_are_asked : (words : List Text) (m : ArgMatches) (u : HasUses words m) (files steps : List Text) (events stats : ℕ)
    → files ≡ u.sorted.files → steps ≡ u.sorted.steps → events ≡ count_of (codes "events") (rows_of (found_of m))
    → stats ≡ count_of (codes "stats") (rows_of (found_of m))
    → asked_of files (record { files = files; steps = steps; events = events; stats = stats; awaits = false }) ≡ command_line words
uses_are_asked words m u files steps events stats e f g h =
    let P : List Text → List Text → ℕ → ℕ → Option Asked = λ a b c d. asked_of a (record { files = a; steps = b; events = c; stats = d; awaits = false }) in
    ap (λ q. P q steps events stats) e ∙ ap (λ q. P u.sorted.files q events stats) f ∙ ap (λ q. P u.sorted.files u.sorted.steps q stats) (g ∙ u.are_uses.events)
    ∙ ap (λ q. P u.sorted.files u.sorted.steps (min u.sorted.events 255) q) (h ∙ u.are_uses.stats)
    ∙ same_of u.sorted u.no_value_lacks u.sorted.files
    ∙ sym (ap (option_and_then (λ s. asked_of s.files s)) u.are_sorted)

-- the answer: what is asked for, or that the words are no command line
pub answered : (words : List Text) (o : Option CommandLine) → option_map asked o ≡ command_line words
    → MatchResult (ok_or o WordsErr.Usage) (λ found. command_line words ≡ Some (asked found)) (λ e. e ≡ WordsErr.Usage → command_line words ≡ None)
answered words None e = λ u. sym e
answered words (Some line) e = sym e
