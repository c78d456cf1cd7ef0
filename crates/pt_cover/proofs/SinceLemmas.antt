-- What a log that counts tells of the log below, from where it begins to where it ends.
use Rattle.std.proofs.Common.{◌≡◌, ◌∙◌, ℕ, zero, suc, Bool, true, false, cond, List, [], ◌∷◌, ◌++◌, length, take, drop, map, Option, Some, None, inl, inr, refl, sym, ap, subst, append_assoc, append-nil}
use Rattle.std.proofs.Math.Seq.{take-append_seam, drop-append_seam}
use Rattle.pt_base.specs.Taken.{Pieces, TookFront}
use Rattle.pt_base.specs.declared.numbers.Line.{Line}
use Rattle.pt_base.specs.declared.sink.SinkErr.{SinkErr}
use Rattle.pt_cover.specs.declared.counts.Counts.{Counts}
use Rattle.pt_cover.specs.declared.counts.Counts.TheVariants.{Lines, Names}
use Rattle.pt_cover.specs.declared.kind.ReportKind.{ReportKind}
use Rattle.pt_cover.specs.declared.kind.ReportKind.TheVariants as kind
use Rattle.pt_cover.specs.Pieces.{Text}
use Rattle.pt_cover.specs.Given.{rising, first_given}
use Rattle.pt_cover.specs.Tallies.{line_row, lines_of, name_tally, names_of}
use Rattle.pt_cover.specs.Kept.{counted, report_of}
use Rattle.pt_cover.specs.Reports.{if_asked, logged}
use Rattle.pt_cover.specs.Passed.{Passed}
use Rattle.pt_cover.specs.Since.{TookSince, bit, key_of, start_of}
use Rattle.pt_cover.specs.HasTaken.{HasTaken, counts_of}
use Rattle.pt_cover.proofs.LineLemmas.{lines_of-line_rows}
use Rattle.pt_cover.proofs.NameLemmas.{names_of-name_tally}
use Rattle.pt_cover.proofs.PassedLemmas.{split-since}
use Rattle.pt_cover.proofs.TakenLemmas.{Taken}

-- parts of lists
abbrev first_of : Pieces → Text
first_of [] = []
first_of (p ∷ ps) = p

abbrev behind_first : Pieces → Pieces
behind_first [] = []
behind_first (p ∷ ps) = ps

abbrev number_at : ℕ → Text → ℕ
number_at k [] = 0
number_at zero (n ∷ ns) = n
number_at (suc k) (n ∷ ns) = number_at k ns

abbrev behind_three : Text → Text
behind_three (a ∷ b ∷ c ∷ ns) = ns
behind_three ns = []

-- a start tells what it is made of
module _ (k k' f f' l l' : Pieces) (same : start_of k f l ≡ start_of k' f' l') where
  lengths : (length k ≡ length k') × (length f ≡ length f')
  lengths = (ap (λ ps. number_at 0 (first_of ps)) same, ap (λ ps. number_at 1 (first_of ps)) same)

  behind : k ++ (f ++ l) ≡ k' ++ (f' ++ l')
  behind = ap behind_first same

  pub same-key_of : k ≡ k'
  same-key_of = sym (take-append_seam k (f ++ l)) ∙ (λ i. take (lengths.0 i) (behind i)) ∙ take-append_seam k' (f' ++ l')

  both-behind : f ++ l ≡ f' ++ l'
  both-behind = sym (drop-append_seam k (f ++ l)) ∙ (λ i. drop (lengths.0 i) (behind i)) ∙ drop-append_seam k' (f' ++ l')

  pub same-first : f ≡ f'
  same-first = sym (take-append_seam f l) ∙ (λ i. take (lengths.1 i) (both-behind i)) ∙ take-append_seam f' l'

  pub same-later : l ≡ l'
  same-later = sym (drop-append_seam f l) ∙ (λ i. drop (lengths.1 i) (both-behind i)) ∙ drop-append_seam f' l'

-- and a key what is reported, and what is passed on
abbrev is_one : ℕ → Bool
is_one zero = false
is_one (suc n) = true

bit-tells : (b c : Bool) → bit b ≡ bit c → b ≡ c
bit-tells true true e = refl
bit-tells true false e = absurd (let no : ◌≡◌ {A = ℕ} 1 0 = e in cc)
bit-tells false true e = absurd (let no : ◌≡◌ {A = ℕ} 0 1 = e in cc)
bit-tells false false e = refl

number-tells : (k k' : Pieces) → k ≡ k' → (n : ℕ) → number_at n (first_of k) ≡ number_at n (first_of k')
number-tells k k' e n = ap (λ ps. number_at n (first_of ps)) e

pub same-events : (c c' : Counts) (e e' t t' : Bool) → key_of c e t ≡ key_of c' e' t' → e ≡ e'
same-events (Lines a) (Lines b) e e' t t' same = bit-tells e e' (ap (λ ps. number_at 1 (first_of ps)) same)
same-events (Lines a) (Names b) e e' t t' same = bit-tells e e' (ap (λ ps. number_at 1 (first_of ps)) same)
same-events (Names a) (Lines b) e e' t t' same = bit-tells e e' (ap (λ ps. number_at 1 (first_of ps)) same)
same-events (Names a) (Names b) e e' t t' same = bit-tells e e' (ap (λ ps. number_at 1 (first_of ps)) same)

pub same-totals : (c c' : Counts) (e e' t t' : Bool) → key_of c e t ≡ key_of c' e' t' → t ≡ t'
same-totals (Lines a) (Lines b) e e' t t' same = bit-tells t t' (ap (λ ps. number_at 2 (first_of ps)) same)
same-totals (Lines a) (Names b) e e' t t' same = bit-tells t t' (ap (λ ps. number_at 2 (first_of ps)) same)
same-totals (Names a) (Lines b) e e' t t' same = bit-tells t t' (ap (λ ps. number_at 2 (first_of ps)) same)
same-totals (Names a) (Names b) e e' t t' same = bit-tells t t' (ap (λ ps. number_at 2 (first_of ps)) same)

pub same-counted : (c c' : Counts) (e e' t t' : Bool) → key_of c e t ≡ key_of c' e' t' → (es : Pieces) → counted c es ≡ counted c' es
same-counted (Lines a) (Lines b) e e' t t' same es = ap (λ ps. Lines (map (line_row es) (behind_three (first_of ps)))) same
same-counted (Lines a) (Names b) e e' t t' same es = let no : ◌≡◌ {A = ℕ} 0 1 = ap (λ ps. number_at 0 (first_of ps)) same in absurd cc
same-counted (Names a) (Lines b) e e' t t' same es = let no : ◌≡◌ {A = ℕ} 1 0 = ap (λ ps. number_at 0 (first_of ps)) same in absurd cc
same-counted (Names a) (Names b) e e' t t' same es = ap (λ ps. Names (name_tally (behind_first ps) es)) same

-- before any event
pub counts-start : (k : ReportKind) (ls : List Line) (ns : List Text) → counts_of k ls ns ≡ counted (counts_of k ls ns) []
counts-start kind.Lines ls ns = ap (λ q. Lines (map (line_row []) q)) (sym (lines_of-line_rows (rising ls) []))
counts-start kind.Names ls ns = ap (λ q. Names (name_tally q [])) (sym (names_of-name_tally (first_given ns) []))

pub nothing-logged : (e t : Bool) (r : Pieces → Text) → logged e t r [] ≡ []
nothing-logged true t r = refl
nothing-logged false t r = refl

-- fronts
whole-front : (T : Pieces → Type 0) (h ps : Pieces) → T (h ++ ps) → TookFront T h ps
whole-front T h [] t = subst T (append-nil h) t
whole-front T h (p ∷ ps) t = inr (inr (whole-front T (h ++ p ∷ []) ps (subst T (sym (append_assoc h (p ∷ []) ps)) t)))

front-behind_it : (T : Pieces → Type 0) (h q ps : Pieces) → TookFront (λ rs. T (h ++ rs)) q ps → TookFront T (h ++ q) ps
front-behind_it T h q [] t = t
front-behind_it T h q (p ∷ ps) t = elim t [
  | inl a ↦ inl a
  | inr b ↦ inr (elim b [
    | inl c ↦ inl (c.0, subst T (sym (append_assoc h q (take c.0 p ∷ []))) c.1)
    | inr d ↦ inr (subst (λ rs. TookFront T rs ps) (sym (append_assoc h q (p ∷ []))) (front-behind_it T h (q ++ p ∷ []) ps d))
  ])
]

passed-front : (f : Option SinkErr) (T : Pieces → Type 0) (h ps : Pieces) → Passed f (λ rs. T (h ++ rs)) ps → TookFront T h ps
passed-front None T h ps t = whole-front T h ps t
passed-front (Some error) T h ps t = subst (λ rs. TookFront T rs ps) (append-nil h) (front-behind_it T h [] ps t)

passed-whole : (f : Option SinkErr) (T : Pieces → Type 0) (ps : Pieces) → f ≡ None → Passed f T ps → T ps
passed-whole f T ps none t = subst (λ x. Passed x T ps) none t

-- a log that counts, as it begins and as it ends
module _ (c : Counts) (e t : Bool) (old new : Pieces → Pieces → Type 0) where
  abbrev pub start : (g h : Pieces) → Pieces
  start g h = start_of (key_of c e t) g h

  abbrev pub gives : Pieces → Pieces
  gives ps = logged e t (λ es. report_of (counted c es)) ps

  pub at_start : c ≡ counted c [] → (g h : Pieces) → old g h → Taken c false e t None old (start g h) []
  at_start fresh g h took = record {
    counts_are = fresh;
    over = refl;
    log = record {
      first = g;
      later = h;
      starts = refl;
      took = subst (old g) (sym (ap (λ ps. h ++ ps) (nothing-logged e t (λ es. report_of (counted c es))) ∙ append-nil h)) took;
    };
  }

  module _ (c' : Counts) (o' e' t' : Bool) (f' : Option SinkErr) (g h q : Pieces) (x : Taken c' o' e' t' f' new (start g h) q) where
    found : Passed f' (λ ps. new g (h ++ ps)) (gives q)
    found =
        let s = split-since f' (key_of c' e' t') new (start g h) (logged e' t' (λ es. report_of (counted c' es)) q) x.log in
        let key : key_of c e t ≡ key_of c' e' t' = same-key_of (key_of c e t) (key_of c' e' t') g s.first h s.later s.starts in
        let first : g ≡ s.first = same-first (key_of c e t) (key_of c' e' t') g s.first h s.later s.starts in
        let later : h ≡ s.later = same-later (key_of c e t) (key_of c' e' t') g s.first h s.later s.starts in
        let events : e ≡ e' = same-events c c' e e' t t' key in
        let totals : t ≡ t' = same-totals c c' e e' t t' key in
        subst (λ X. X) (λ i. Passed f' (λ ps. new (sym first i) (sym later i ++ ps))
        (logged (sym events i) (sym totals i) (λ es. report_of (sym (same-counted c c' e e' t t' key es) i)) q)) s.passed

    pub at_end : TookFront (new g) h (gives q)
    at_end = passed-front f' (new g) h (gives q) found

    pub at_end_whole : f' ≡ None → new g (h ++ gives q)
    at_end_whole none = passed-whole f' (λ ps. new g (h ++ ps)) (gives q) none found
