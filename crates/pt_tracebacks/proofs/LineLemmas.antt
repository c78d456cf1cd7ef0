-- A text is its first line, and the lines behind the end of that.
use Rattle.std.proofs.Common.{◌≡◌, ◌∙◌, ℕ, suc, ◌-◌, ◌<◌, ◌≤◌, Bool, true, false, ◌==◌, ◌&&◌, ◌||◌, List, [], ◌∷◌, ◌++◌, length, get_or, take, drop, map, slice_index_or, refl, sym, ap, arith, append_assoc, if◌then◌else◌}
use Rattle.std.proofs.lemmas.Bool.{true≢false}
use Rattle.std.proofs.lemmas.Bool.Decides.{Decides-eqb}
use Rattle.std.proofs.lemmas.List.{get_or-map, length-drop, take_all}
use Rattle.pt_literals.specs.Source.{ends_line}
use Rattle.pt_tracebacks.specs.Lines.{begins_with_feed, onto_first, lines, numbered}
use Rattle.pt_tracebacks.specs.FirstLine.{first_len, lines_behind}

and_right : (a b : Bool) → (a && b) ≡ true → b ≡ true
and_right true b e = e
and_right false b e = absurd (true≢false (sym e))

or_right : (a b : Bool) → (a || b) ≡ false → b ≡ false
or_right true b e = absurd (true≢false e)
or_right false b e = e

feed : (cs : List ℕ) → begins_with_feed cs ≡ true → lines cs ≡ [] ∷ lines (drop 1 cs)
feed [] e = absurd (true≢false (sym e))
feed (c ∷ cs) e = ap (λ k. lines (k ∷ cs)) ((Decides-eqb c 10).0 e)

at_end : (c : ℕ) (cs : List ℕ) → ends_line c ≡ true → lines (c ∷ cs) ≡ [] ∷ lines_behind (c ∷ cs)
at_end c cs e = by ((c == 13) && begins_with_feed cs) refl
  where
    by : (b : Bool) → ((c == 13) && begins_with_feed cs) ≡ b
        → (if b then lines cs else (if ends_line c then [] ∷ lines cs else onto_first c (lines cs))) ≡ [] ∷ (if b then lines (drop 1 cs) else lines cs)
    by true f = feed cs (and_right (c == 13) (begins_with_feed cs) f)
    by false f = ap (λ b. if b then [] ∷ lines cs else onto_first c (lines cs)) e

within_line : (c : ℕ) (cs : List ℕ) → ends_line c ≡ false → lines (c ∷ cs) ≡ onto_first c (lines cs)
within_line c cs e =
    ap (λ b. if b && begins_with_feed cs then lines cs else (if ends_line c then [] ∷ lines cs else onto_first c (lines cs)))
    (or_right (c == 10) (c == 13) e)
    ∙ ap (λ b. if b then [] ∷ lines cs else onto_first c (lines cs)) e

pub first_line : (text : List ℕ) → lines text ≡ take (first_len text) text ∷ lines_behind (drop (first_len text) text)
first_line [] = refl
first_line (c ∷ cs) = by (ends_line c) refl (first_line cs)
  where
    by : (b : Bool) → ends_line c ≡ b → lines cs ≡ take (first_len cs) cs ∷ lines_behind (drop (first_len cs) cs)
        → lines (c ∷ cs) ≡ take (if b then 0 else suc (first_len cs)) (c ∷ cs) ∷ lines_behind (drop (if b then 0 else suc (first_len cs)) (c ∷ cs))
    by true e h = at_end c cs e
    by false e h = within_line c cs e ∙ ap (onto_first c) h

-- one line more
pub one_more : (before all : List (List ℕ)) (rest : List ℕ) → before ++ lines rest ≡ all
    → (before ++ take (first_len rest) rest ∷ []) ++ lines_behind (drop (first_len rest) rest) ≡ all
one_more before all rest h =
    append_assoc before (take (first_len rest) rest ∷ []) (lines_behind (drop (first_len rest) rest))
    ∙ ap (λ ls. before ++ ls) (sym (first_line rest)) ∙ h

pub at_number : (ls : List (List ℕ)) (n : ℕ) → 0 < n → numbered ls n ≡ slice_index_or ls (n - 1) []
at_number ls n l = let one : n ≡ suc (n - 1) = omega arith in ap (numbered ls) one

-- the line that was found
pub found : {A : Type 0} (f : A → List ℕ) (ls : List A) (n : ℕ) (a : A) → 0 < n → n - 1 < length ls → a ≡ get_or ls (n - 1) a → f a ≡ numbered (map f ls) n
found f ls n a l within is = ap f is ∙ sym (get_or-map f ls (n - 1) a [] within) ∙ sym (at_number (map f ls) n l)

-- a line more was found, and what is behind it
pub one_line : (before all : List (List ℕ)) (rest : List ℕ) (len : ℕ) → len ≡ first_len rest → before ++ lines rest ≡ all
    → (new behind : List (List ℕ)) → new ≡ before ++ take len rest ∷ []
    → lines_behind (take (length rest - len) (drop len rest)) ≡ behind → new ++ behind ≡ all
one_line before all rest len is so new behind pushed left =
    let short : length (drop len rest) ≤ length rest - len = omega (arith, length-drop len rest) in
    let whole : take (length rest - len) (drop len rest) ≡ drop len rest = take_all (length rest - len) (drop len rest) short in
    (λ i. pushed i ++ sym left i) ∙ ap (λ cs. (before ++ take len rest ∷ []) ++ lines_behind cs) whole
    ∙ (λ i. (before ++ take (is i) rest ∷ []) ++ lines_behind (drop (is i) rest)) ∙ one_more before all rest so
