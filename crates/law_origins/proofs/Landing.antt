-- Where a raise lands that takes the place of a reply.
use Rattle.std.proofs.Common.{◌≡◌, ℕ, ◌+◌, ◌-◌, List, [], ◌∷◌, ◌++◌, length, drop, refl, sym, ap, ◌∙◌, arith, length-append, length-drop}
use Rattle.std.proofs.Math.Seq.{drop-append_seam}
use Rattle.std.proofs.lemmas.List.{drop-drop}
use Rattle.pt_ranges.specs.declared.handlers.Handler.{Handler}
use Rattle.sem_code.specs.slots.Slots.{raise, Slots, State, on}
use Rattle.sem_code.specs.slots.CodeObject.{CodeObject}
use Rattle.sem_code.specs.slots.Landing.{cut, land, held_by}
use Rattle.law_origins.specs.Landings.{LandsBelowWhatIsGiven, LandsWhereTheFirstDid, LeavesAsTheFirstDid}

module _ {V : Type 0} where
  -- the lowest slots, as many as these are, are these
  pub cut_given : (xs ys : Slots V) → cut (length ys) (xs ++ ys) ≡ ys
  cut_given xs ys =
      let e : length (xs ++ ys) - length ys ≡ length xs = omega (arith, length-append xs ys) in
      ap (λ n. drop n (xs ++ ys)) e ∙ drop-append_seam xs ys

  -- cut twice at the same depth is cut once
  cut_again : (d : ℕ) (ss : Slots V) → cut d (cut d ss) ≡ cut d ss
  cut_again d ss =
      let n : length ss - d + (length (drop (length ss - d) ss) - d) ≡ length ss - d =
      omega (arith, length-drop (length ss - d) ss) in
      drop-drop (length (drop (length ss - d) ss) - d) (length ss - d) ss
      ∙ ap (λ k. drop k ss) n

  -- what lies in a state that stands at a place
  abbrev slots_of : State V → Slots V
  slots_of (on pc ss) = ss
  slots_of _ = []

  abbrev below_top : Slots V → Slots V
  below_top [] = []
  below_top (s ∷ ss) = ss

module _ {V : Type 0} (code : CodeObject V) where
  pub given : (rows : List Handler) → LandsBelowWhatIsGiven code rows
  given rows xs ys v = ap (λ ss. land code rows (raise v) ss) (cut_given xs ys)

  pub landed : (rows : List Handler) → LandsWhereTheFirstDid code rows
  landed [] below under held pc e v is = absurd cc
  landed (row ∷ rows) below under held pc e v is =
      let u : cut row.depth below ≡ under = ap (λ t. below_top (slots_of t)) is in
      let c : cut row.depth (cut (length under) (held ∷ under)) ≡ cut row.depth below =
      ap (λ ss. cut row.depth ss) (cut_given (held ∷ []) under ∙ sym u) ∙ cut_again row.depth below in
      ap (λ ss. on row.target.0 (held_by row.always (raise v) ∷ ss)) c

  pub left : (rows : List Handler) → LeavesAsTheFirstDid code rows
  left [] below slots n end e v is = refl
  left (row ∷ rows) below slots n end e v is = absurd cc

pub below_what_is_given : {V : Type 0} (code : CodeObject V) (rows : List Handler)
    → LandsBelowWhatIsGiven code rows
below_what_is_given code rows = given code rows

pub where_the_first_did : {V : Type 0} (code : CodeObject V) (rows : List Handler)
    → LandsWhereTheFirstDid code rows
where_the_first_did code rows = landed code rows

pub as_the_first_did : {V : Type 0} (code : CodeObject V) (rows : List Handler)
    → LeavesAsTheFirstDid code rows
as_the_first_did code rows = left code rows
