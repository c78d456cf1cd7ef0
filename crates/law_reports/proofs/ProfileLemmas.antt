-- The rows of a profile, summed.
use Rattle.std.proofs.Common.{◌≡◌, ◌+◌, ◌∙◌, ℕ, List, [], ◌∷◌, map, refl, sym, ap, subst, arith}
use Rattle.std.specs.List.{sum_by}
use Rattle.std.proofs.lemmas.List.Sums.{sum_by-cons}
use Rattle.pt_base.specs.Taken.{Pieces}
use Rattle.pt_cover.specs.declared.counts.Counts.{Counts}
use Rattle.pt_cover.specs.declared.counts.Counts.TheVariants.{Lines, Names}
use Rattle.pt_cover.specs.Counts.{lines_begun, own_lines}
use Rattle.pt_cover.specs.Given.{first_given}
use Rattle.pt_cover.specs.Numbers.{limited}
use Rattle.pt_cover.specs.Pieces.{Text}
use Rattle.pt_cover.specs.Tallies.{NameTally, name_row, name_tally, names_of}
use Rattle.pt_cover.proofs.ListLemmas.{map-id}
use Rattle.law_reports.specs.Profiles.{OwnAddUp, ProfilesAddUp}
use Rattle.law_reports.proofs.SumLemmas.{own_lines_are_all}

limited-sum : (a b : ℕ) → limited (a + b) ≡ limited (limited a + limited b)
limited-sum a b = omega arith

limited-twice : (a : ℕ) → limited (limited a) ≡ limited a
limited-twice a = omega arith

limited-sums : (f : Text → ℕ) (ns : List Text) → limited (sum_by f ns) ≡ limited (sum_by (λ n. limited (f n)) ns)
limited-sums f [] = refl
limited-sums f (n ∷ ns) =
    ap limited (sum_by-cons f n ns)
    ∙ limited-sum (f n) (sum_by f ns)
    ∙ ap (λ k. limited (limited (f n) + k)) (limited-sums f ns)
    ∙ ap (λ k. limited (k + limited (sum_by (λ m. limited (f m)) ns))) (sym (limited-twice (f n)))
    ∙ sym (limited-sum (limited (f n)) (sum_by (λ m. limited (f m)) ns))
    ∙ ap limited (sym (sum_by-cons (λ m. limited (f m)) n ns))

own-sum : (es : Pieces) (ns : List Text) → sum_by (λ r. r.own) (map (name_row es) ns) ≡ sum_by (λ n. limited (own_lines n es)) ns
own-sum es [] = refl
own-sum es (n ∷ ns) =
    sum_by-cons (λ r. r.own) (name_row es n) (map (name_row es) ns)
    ∙ ap (λ k. limited (own_lines n es) + k) (own-sum es ns)
    ∙ sym (sum_by-cons (λ m. limited (own_lines m es)) n ns)

own_add_up : (ns : List Text) (es : Pieces) → sum_by (λ n. own_lines n es) ns ≡ lines_begun es → OwnAddUp (name_tally ns es)
own_add_up ns es all =
    ap limited (sym all) ∙ limited-sums (λ n. own_lines n es) ns ∙ ap limited (sym (own-sum es ns))

abbrev tally_or : NameTally → Counts → NameTally
tally_or u (Lines rows) = u
tally_or u (Names t) = t

pub profiles_add_up : ProfilesAddUp
profiles_add_up lines names es t named is =
    let ns = first_given names in
    let same : names_of (map (name_row []) ns) ≡ ns = map-id (λ r. r.name) (name_row []) (λ n. refl) ns in
    let is_tally : name_tally (names_of (map (name_row []) ns)) es ≡ t = ap (tally_or t) is in
    subst OwnAddUp (sym (ap (λ ms. name_tally ms es) same) ∙ is_tally) (own_add_up ns es (own_lines_are_all names es named))
