-- What holds of the line of each statement that starts in a piece holds of each start that it lays out.
use Rattle.std.proofs.Common.{◌≡◌, ℕ, zero, suc, Bool, true, false, if◌then◌else◌, nat_eq, List, [], ◌∷◌, ◌++◌, Contains, Some, None, refl, sym, ap, ◌∙◌, subst, arith, eq-eqb}
use Rattle.pt_code.specs.declared.Start.{Start}
use Rattle.sem_control.specs.control.Jump.{Target, on_line}
use Rattle.pt_assembler.specs.declared.operation.Label.{Label}
use Rattle.pt_assembler.specs.Piece as P
use Rattle.pt_assembler.specs.Piece.{Piece, pick}
use Rattle.pt_assembler.specs.Layout.{Written, at, put, put_act, put_row, put_start, new_label, next_label, bind, placed, numbered_from, deeper_in, loop_in, layout}
use Rattle.pt_assembler.proofs.Growth.{operand_only}
use Rattle.law_typed_pieces.proofs.typed_pieces.Plain.{IsPlain}

module _ (Q : ℕ → Type 0) where
  -- of each statement that starts in a piece
  abbrev pub EachLine : Piece → Type 0
  EachLine P.empty = Unit {0}
  EachLine (P.act op n l g) = Unit {0}
  EachLine (P.move op) = Unit {0}
  EachLine (P.seq a b) = EachLine a × EachLine b
  EachLine (P.block p) = EachLine p
  EachLine (P.headed p) = EachLine p
  EachLine (P.closed p) = EachLine p
  EachLine (P.looped b p) = EachLine p
  EachLine (P.leave e n l) = Unit {0}
  EachLine (P.ensured p) = EachLine p
  EachLine (P.caught p q) = EachLine p × EachLine q
  EachLine (P.deeper k p) = EachLine p
  EachLine (P.started l p) = Q l × EachLine p
  EachLine (P.numbered n p) = EachLine p

  pub plain_lines : (p : Piece) → IsPlain p → EachLine p
  plain_lines P.empty h = tt
  plain_lines (P.act op n l g) h = tt
  plain_lines (P.move op) h = tt
  plain_lines (P.seq a b) h = (plain_lines a h.0, plain_lines b h.1)
  plain_lines (P.block p) h = plain_lines p h
  plain_lines (P.headed p) h = plain_lines p h
  plain_lines (P.closed p) h = plain_lines p h
  plain_lines (P.looped b p) h = absurd h
  plain_lines (P.leave e n l) h = absurd h
  plain_lines (P.ensured p) h = absurd h
  plain_lines (P.caught p q) h = absurd h
  plain_lines (P.deeper k p) h = plain_lines p h
  plain_lines (P.started l p) h = absurd h
  plain_lines (P.numbered n p) h = plain_lines p h

  abbrev pub EachStart : List Start → Type 0
  EachStart [] = Unit {0}
  EachStart (s ∷ ss) = Q s.line.0 × EachStart ss

  start_end : (ss : List Start) (s : Start) → EachStart ss → Q s.line.0 → EachStart (ss ++ s ∷ [])
  start_end [] s h q = (q, tt)
  start_end (t ∷ ss) s (h, hs) q = (h, start_end ss s hs q)

  pub of_start : (ss : List Start) (s : Start) → EachStart ss → Contains ss s → Q s.line.0
  of_start [] s h (n, l, e) = absurd (let f : ⊥ = omega (arith, l) in f)
  of_start (t ∷ ss) s (h, hs) (zero, l, e) = subst (λ z. Q z.line.0) e h
  of_start (t ∷ ss) s (h, hs) (suc n, l, e) = of_start ss s hs (n, omega (arith, l), e)

  pub laid_lines : (p : Piece) (L : List Label) (w : Written) → EachLine p → EachStart w.starts → EachStart (layout p L w).starts
  unfolding put put_act put_row put_start new_label bind placed numbered_from
  laid_lines P.empty L w h g = g
  laid_lines (P.act op n l a) L w h g = let only = operand_only op w in subst (λ ss. EachStart ss) (sym only.starts) g
  laid_lines (P.move op) L w h g = let only = operand_only op w in subst (λ ss. EachStart ss) (sym only.starts) g
  laid_lines (P.seq p q) L w h g = laid_lines q L (layout p L w) h.1 (laid_lines p L w h.0 g)
  laid_lines (P.block p) L w h g = laid_lines p (next_label w ∷ L) (new_label w) h g
  laid_lines (P.headed p) L w h g = laid_lines p (next_label w ∷ L) (new_label w) h g
  laid_lines (P.closed p) L w h g = laid_lines p [] w h g
  laid_lines (P.looped b p) L w h g = laid_lines p [] (placed (loop_in (pick (record { 0 = 0 }) L b) (next_label w) w.place) (new_label w)) h g
  laid_lines (P.leave e n l) L w h g = g
  laid_lines (P.ensured p) L w h g = laid_lines p [] w h g
  laid_lines (P.caught p q) L w h g = laid_lines q L (layout p [] w) h.1 (laid_lines p [] w h.0 g)
  laid_lines (P.deeper k p) L w h g = laid_lines p L (placed (deeper_in k w.place) w) h g
  laid_lines (P.started l p) L w h g =
      laid_lines p L (put_start l w) h.1 (start_end w.starts (record { pc = record { 0 = at w }; line = record { 0 = l } }) g h.0)
  laid_lines (P.numbered n p) L w h g = laid_lines p L (numbered_from n w) h g

  -- of each of the statements to which a jump may go
  abbrev pub EachTarget : List Target → Type 0
  EachTarget [] = Unit {0}
  EachTarget (t ∷ ts) = Q t.line × EachTarget ts

  pub targets_apart : (ts us : List Target) → EachTarget (ts ++ us) → EachTarget ts × EachTarget us
  targets_apart [] us h = (tt, h)
  targets_apart (t ∷ ts) us (h, hs) = let r = targets_apart ts us hs in ((h, r.0), r.1)

-- some statement starts on the line
abbrev pub HasStatement : List Target → ℕ → Type 0
HasStatement ts l = on_line l ts ≡ None → ⊥

on_more : (t : Target) (ts : List Target) (l : ℕ) → HasStatement ts l → HasStatement (t ∷ ts) l
on_more t ts l f = by (nat_eq t.line l)
  where
    by : (s : Bool) → (if s then Some t else on_line l ts) ≡ None → ⊥
    by true e = cc
    by false e = f e

on_first : (t : Target) (ts : List Target) → HasStatement (t ∷ ts) t.line
on_first t ts e =
    let h : Some t ≡ None = ap (λ s. if s then Some t else on_line t.line ts) (sym (eq-eqb t.line t.line refl)) ∙ e in cc

more_targets : (t : Target) (ts us : List Target) → EachTarget (HasStatement ts) us → EachTarget (HasStatement (t ∷ ts)) us
more_targets t ts [] h = tt
more_targets t ts (u ∷ us) (h, hs) = (on_more t ts u.line h, more_targets t ts us hs)

pub targets_have : (ts : List Target) → EachTarget (HasStatement ts) ts
targets_have [] = tt
targets_have (t ∷ ts) = (on_first t ts, more_targets t ts ts (targets_have ts))
