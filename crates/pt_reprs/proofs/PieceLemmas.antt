-- Pieces that are written one after the other.
use Rattle.std.proofs.Common.{◌≡◌, ◌∙◌, ◌<◌, ◌≤◌, ◌+◌, ◌-◌, ℕ, zero, suc, List, [], ◌∷◌, ◌++◌, Result, Ok, Err, length, drop, get_or, refl, sym, ap, subst, arith}
use Rattle.std.specs.Result.{IsErr, IsErrAnd}
use Rattle.pt_base.specs.declared.failure.Failure.{Failure}
use Rattle.pt_base.specs.declared.failure.Failure.TheVariants.{Refused, Memory}
use Rattle.pt_reprs.specs.declared.writer.Writer.{Writer}
use Rattle.pt_reprs.specs.declared.writer.WriteErr.{WriteErr}
use Rattle.pt_reprs.specs.Pieces.{Piece, and_pieces, with_piece, with_pieces, Writes}

both-pieces : (ps qs : List Piece) (w : Writer) → with_pieces (ps ++ qs) w ≡ and_pieces (with_pieces qs) (with_pieces ps w)
both-pieces [] qs w = refl
both-pieces (p ∷ ps) qs w = by (with_piece p w) (both-pieces ps qs)
  where
    by : (r : Result Writer WriteErr) → ((v : Writer) → with_pieces (ps ++ qs) v ≡ and_pieces (with_pieces qs) (with_pieces ps v)) → and_pieces (with_pieces (ps ++ qs)) r ≡ and_pieces (with_pieces qs) (and_pieces (with_pieces ps) r)
    by (Ok v) rest = rest v
    by (Err e) rest = refl

-- pieces behind those that were written
pub written-more : (ps qs : List Piece) (old new : Writer) → with_pieces ps old ≡ Ok new → with_pieces (ps ++ qs) old ≡ with_pieces qs new
written-more ps qs old new e = both-pieces ps qs old ∙ ap (and_pieces (with_pieces qs)) e

written-stop : (ps qs : List Piece) (old : Writer) (e : WriteErr) → with_pieces ps old ≡ Err e → with_pieces (ps ++ qs) old ≡ Err e
written-stop ps qs old e f = both-pieces ps qs old ∙ ap (and_pieces (with_pieces qs)) f

pub writes-more : (old mid new : Writer) (r : Result (Unit {0}) (Failure WriteErr)) (ps qs : List Piece) → with_pieces ps old ≡ Ok mid → Writes mid new r qs → Writes old new r (ps ++ qs)
writes-more old mid new (Ok u) ps qs e w = written-more ps qs old mid e ∙ w
writes-more old mid new (Err Memory) ps qs e w = tt
writes-more old mid new (Err (Refused x)) ps qs e w = written-more ps qs old mid e ∙ w

-- what is said of a refusal is said of one that hands it on, with more pieces behind
pub writes-stop : (old new new₂ : Writer) (r : Result (Unit {0}) (Failure WriteErr)) (f : Failure WriteErr) (ps qs : List Piece) → IsErr r × IsErrAnd r (λ g. g ≡ f) → Writes old new (Err f) ps → Writes old new₂ r (ps ++ qs)
writes-stop old new new₂ (Ok u) f ps qs k w = absurd k.1
writes-stop old new new₂ (Err g) f ps qs k w = subst (λ x. Writes old new₂ (Err x) (ps ++ qs)) (sym k.1) (by f w)
  where
    by : (f : Failure WriteErr) → Writes old new (Err f) ps → Writes old new₂ (Err f) (ps ++ qs)
    by Memory w = tt
    by (Refused e) w = written-stop ps qs old e w

pub writes-none : (old new : Writer) (r : Result (Unit {0}) (Failure WriteErr)) (ps : List Piece) → IsErr r × IsErrAnd r (λ g. g ≡ Memory) → Writes old new r ps
writes-none old new (Ok u) ps k = absurd k.1
writes-none old new (Err g) ps k = subst (λ x. Writes old new (Err x) ps) (sym k.1) tt

-- the pieces that are left, where those before them were written
pub still-left : (whole rest ps qs : List Piece) (old now new : Writer) → with_pieces whole old ≡ with_pieces rest now → rest ≡ ps ++ qs → with_pieces ps now ≡ Ok new → with_pieces whole old ≡ with_pieces qs new
still-left whole rest ps qs old now new left e w = left ∙ ap (λ l. with_pieces l now) e ∙ written-more ps qs now new w

-- one of them can't be written
pub left-stops : (old now new new₂ : Writer) (r : Result (Unit {0}) (Failure WriteErr)) (f : Failure WriteErr) (whole rest ps qs : List Piece)
    → with_pieces whole old ≡ with_pieces rest now → rest ≡ ps ++ qs → IsErr r × IsErrAnd r (λ g. g ≡ f) → Writes now new (Err f) ps → Writes old new₂ r whole
left-stops old now new new₂ (Ok u) f whole rest ps qs left e k w = absurd k.1
left-stops old now new new₂ (Err g) f whole rest ps qs left e k w = subst (λ x. Writes old new₂ (Err x) whole) (sym k.1) (by f w)
  where
    by : (f : Failure WriteErr) → Writes now new (Err f) ps → Writes old new₂ (Err f) whole
    by Memory w = tt
    by (Refused x) w = left ∙ ap (λ l. with_pieces l now) e ∙ written-stop ps qs now x w

pub written-two : (ps qs : List Piece) (old mid new : Writer) → with_pieces ps old ≡ Ok mid → with_pieces qs mid ≡ Ok new → with_pieces (ps ++ qs) old ≡ Ok new
written-two ps qs old mid new e f = written-more ps qs old mid e ∙ f

-- the second of two can't be written
pub writes-two-stop : (old mid new : Writer) (f : Failure WriteErr) (ps qs : List Piece) → with_pieces ps old ≡ Ok mid → Writes mid new (Err f) qs → Writes old new (Err f) (ps ++ qs)
writes-two-stop old mid new f ps qs e w = writes-more old mid new (Err f) ps qs e w
