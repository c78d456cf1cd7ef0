-- At the place of a statement stands an instruction under the rows of the statement.
use Rattle.std.proofs.Common.{◌≡◌, ◌⊎◌, inl, inr, ℕ, ◌+◌, Bool, true, false, ◌&&◌, if◌then◌else◌, List, [], ◌∷◌, Option, Some, None, refl, sym, ◌∙◌, subst}
use Rattle.std.proofs.lemmas.Bool.{false≢true, true≢false, and_parts}
use Rattle.pt_ranges.specs.declared.handlers.Handler.{Handler}
use Rattle.pt_tree.specs.Syntax as S
use Rattle.pt_tree.specs.Syntax.{Stm, Stms, none, more}
use Rattle.pt_tree.specs.Sizes.{size}
use Rattle.pt_code.specs.View.{Ins}
use Rattle.pt_code.specs.declared.Start.{Start}
use Rattle.sem_control.specs.control.Turn.{Around}
use Rattle.sem_control.specs.control.Frames.{a_function, a_class}
use Rattle.sem_control.specs.control.Statements.{all_places}
use Rattle.sem_code.specs.slots.CodeObject.{CodeObject}
use Rattle.sem_code.specs.slots.Stretches.{ins, act_mark}
use Rattle.pt_assembler.specs.declared.operation.Exit.{Exit}
use Rattle.pt_assembler.specs.declared.operation.Target.{Target}
use Rattle.pt_assembler.specs.Piece as P
use Rattle.pt_assembler.specs.Piece.{Piece, pick}
use Rattle.pt_assembler.specs.PieceAt.{Context, Exits, Piece_at, Exit_at, start_of, target, in_loop, over}
use Rattle.law_pieces.specs.piece_kinds.Walk.{is_empty}
use Rattle.sem_compile.specs.stm_pieces.Needed.{is_silent, leaves, Behind, needed, is_needed}
use Rattle.sem_compile.specs.stm_pieces.StmPiece.{begun_piece, value_piece, stm_piece}
use Rattle.law_typed_pieces.proofs.typed_pieces.Plain.{IsPlain}
use Rattle.law_typed_pieces.proofs.typed_pieces.LeadsForms.{val_plain, assigned_plain, augmented_plain, all_deleted_plain, failed_plain, returned_plain, thrown_plain, imported_plain, imported_from_plain, defined_plain}
use Rattle.law_parts.specs.part_slots.Text.{Grammatical}

-- the first instruction stands under no row of the piece itself
abbrev pub IsOpen : Piece → Type 0
IsOpen (P.seq a b) = IsOpen a × (IsOpen b ⊎ (is_empty a ≡ false))
IsOpen (P.block p) = IsOpen p
IsOpen (P.headed p) = IsOpen p
IsOpen (P.closed p) = IsOpen p
IsOpen (P.looped b p) = IsOpen p
IsOpen (P.ensured p) = ⊥
IsOpen (P.caught p q) = ⊥
IsOpen (P.deeper k p) = IsOpen p
IsOpen (P.started l p) = IsOpen p
IsOpen (P.numbered n p) = IsOpen p
IsOpen p = Unit {0}

and_no : (t : Bool) → (t && false) ≡ false
and_no true = refl
and_no false = refl

plain_open : (p : Piece) → IsPlain p → IsOpen p
plain_open P.empty h = tt
plain_open (P.act op n l g) h = tt
plain_open (P.move op) h = tt
plain_open (P.seq a b) h = (plain_open a h.0, inl (plain_open b h.1))
plain_open (P.block p) h = plain_open p h
plain_open (P.headed p) h = plain_open p h
plain_open (P.closed p) h = plain_open p h
plain_open (P.looped b p) h = absurd h
plain_open (P.leave e n l) h = absurd h
plain_open (P.ensured p) h = absurd h
plain_open (P.caught p q) h = absurd h
plain_open (P.deeper k p) h = plain_open p h
plain_open (P.started l p) h = absurd h
plain_open (P.numbered n p) h = plain_open p h

module _ {A : Type 0} (around : Around A) where
  by_value : (e : S.Exp) (n : ℕ) → IsOpen (value_piece around e n)
  by_value e n = plain_open (value_piece around e n) (val_plain around e n)

  stm_open : (st : Stm) (n : ℕ) (w : Behind) → Grammatical st → IsOpen (stm_piece around st n w)
  stm_open (S.expr l e) n w h = (by_value e n, inl tt)
  stm_open (S.assign l ts e) n w h = plain_open (stm_piece around (S.assign l ts e) n w) (val_plain around e n, assigned_plain around ts (n + size e))
  stm_open (S.augmented l p o e) n w h = plain_open (stm_piece around (S.augmented l p o e) n w) (augmented_plain around p o e l n)
  stm_open (S.annotated l p a S.absent) n w h = tt
  stm_open (S.annotated l p a (S.given e)) n w h =
      plain_open (stm_piece around (S.annotated l p a (S.given e)) n w)
      (val_plain around e n, assigned_plain around (S.more_targets (S.single p) S.no_targets) (n + size e))
  stm_open (S.assert l e m) n w h = plain_open (stm_piece around (S.assert l e m) n w) (val_plain around e n, (refl, failed_plain around m l (n + size e + 1)))
  stm_open (S.pass l) n w h = tt
  stm_open (S.del l ts) n w h = plain_open (stm_piece around (S.del l ts) n w) (all_deleted_plain around (all_places ts) n)
  stm_open (S.return l e) n w h = plain_open (stm_piece around (S.return l e) n w) (returned_plain around e l n)
  stm_open (S.raise l e d) n w h = plain_open (stm_piece around (S.raise l e d) n w) (val_plain around e n, thrown_plain around d l (n + size e))
  stm_open (S.raise_again l) n w h = tt
  stm_open (S.break l) n w h = tt
  stm_open (S.continue l) n w h = tt
  stm_open (S.import l xs) n w h = plain_open (stm_piece around (S.import l xs) n w) (imported_plain around xs l n)
  stm_open (S.import_from l m xs) n w h = plain_open (stm_piece around (S.import_from l m xs) n w) ((λ t. refl), imported_from_plain around xs l (n + 1))
  stm_open (S.global l xs) n w h = tt
  stm_open (S.nonlocal l xs) n w h = tt
  stm_open (S.def l ds k z y ps a body) n w h =
      plain_open (stm_piece around (S.def l ds k z y ps a body) n w) (defined_plain around ds (a_function z ps) [] k n y)
  stm_open (S.class l ds k z y super body) n w h =
      plain_open (stm_piece around (S.class l ds k z y super body) n w) (defined_plain around ds (a_class z super) [] k n y)
  stm_open (S.docstring l) n w h = tt
  stm_open (S.choice l S.no_branches els) n w h = absurd h
  stm_open (S.choice l (S.branch k c body r) els) n w h = ((by_value c n, inl (tt, inr refl)), inr (and_no (is_empty (value_piece around c n))))
  stm_open (S.while l c body els) n w h = ((by_value c n, inl (tt, inr refl)), inr (and_no (is_empty (value_piece around c n))))
  stm_open (S.for l t it body els) n w h = ((by_value it n, inl (tt, inr refl)), inr (and_no (is_empty (value_piece around it n))))
  stm_open (S.try l body hs els fin) n w h = (tt, inr refl)
  stm_open (S.with l S.no_items body) n w h = absurd h
  stm_open (S.with l (S.with_item k e t r) body) n w h = (by_value e n, inl (tt, inr refl))

  pub begun_open : (st : Stm) (n : ℕ) (w : Behind) → Grammatical st → IsOpen (begun_piece st w (stm_piece around st n w))
  begun_open st n w h = by (is_silent st) (leaves st && is_needed w)
    where
      by : (s t : Bool)
          → IsOpen (if s then begun_piece (S.global 0 []) w (stm_piece around st n w) else if t then begun_piece (S.raise_again 0) needed
          (stm_piece around st n w) else stm_piece around st n w)
      by true t = (tt, inr refl)
      by false true = (tt, inr refl)
      by false false = stm_open st n w h

module _ {V : Type 0} (code : CodeObject V) (table : List Start) where
  -- an instruction under these rows
  pub record Front (pc : ℕ) (rows : List Handler) : Type 0 where
    pub ins : Ins
    pub there : code.at pc ≡ Some ins
    pub under : ins.rows ≡ rows

  nothing : (p : Piece) (L : List Target) (x : Context) (from to : ℕ) → is_empty p ≡ true → Piece_at code table p L x from to → from ≡ to
  nothing P.empty L x from to e h = h
  nothing (P.act op n l g) L x from to e h = absurd (false≢true e)
  nothing (P.move op) L x from to e h = absurd (false≢true e)
  nothing (P.seq a b) L x from to e (mid, h, k) =
      let parts = and_parts (is_empty a) (is_empty b) e in nothing a L x from mid parts.0 h ∙ nothing b L x mid to parts.1 k
  nothing (P.block p) L x from to e h = nothing p (target to x.depth ∷ L) x from to e h
  nothing (P.headed p) L x from to e h = nothing p (target from x.depth ∷ L) x from to e h
  nothing (P.closed p) L x from to e h = nothing p [] x from to e h
  nothing (P.looped b p) L x from to e (u, v, h) = nothing p [] (in_loop (pick start_of L b) to x) from to e h
  nothing (P.leave z n l) L x from to e h = absurd (false≢true e)
  nothing (P.ensured p) L x from to e h = absurd (false≢true e)
  nothing (P.caught p q) L x from to e (mid, h, k) =
      let parts = and_parts (is_empty p) (is_empty q) e in nothing p [] _ from mid parts.0 h ∙ nothing q L x mid to parts.1 k
  nothing (P.deeper k p) L x from to e h = nothing p L (over k x) from to e h
  nothing (P.started l p) L x from to e h = nothing p L x from to e h.1
  nothing (P.numbered n p) L x from to e h = nothing p L x from to e h

  left : (o : Option Exits) (e : Exit) (n l : ℕ) (rows : List Handler) (from to : ℕ) → Exit_at code table o e n l rows from to → Front from rows
  left None e n l rows from to h = absurd h
  left (Some x) e n l rows from to h = record { ins = _; there = h.1; under = refl }

  -- of two pieces the first, if it has an instruction
  of_two : (s t : Bool) (P : Type 0) (Q : ℕ → Type 0) (from mid : ℕ) → (s ≡ false → Q from) → (s ≡ true → from ≡ mid) → (P → t ≡ false → Q mid)
      → (s && t) ≡ false → P ⊎ (s ≡ false) → Q from
  of_two true t P Q from mid f n g e (inl q) = subst Q (sym (n refl)) (g q e)
  of_two true t P Q from mid f n g e (inr q) = absurd (true≢false q)
  of_two false t P Q from mid f n g e o = f refl

  pub front : (p : Piece) (L : List Target) (x : Context) (from to : ℕ) → IsOpen p → is_empty p ≡ false → Piece_at code table p L x from to → Front from x.rows
  front P.empty L x from to o e h = absurd (true≢false e)
  front (P.act op n l g) L x from to o e (j, i, h) = record { ins = ins j (act_mark from n l g) to x.rows; there = h; under = refl }
  front (P.move op) L x from to o e (j, i, h) = record { ins = ins j None to x.rows; there = h; under = refl }
  front (P.seq a b) L x from to o e (mid, h, k) =
      of_two (is_empty a) (is_empty b) (IsOpen b) (λ pc. Front pc x.rows) from mid (λ f. front a L x from mid o.0 f h) (λ f. nothing a L x from mid f h)
      (λ q g. front b L x mid to q g k) e o.1
  front (P.block p) L x from to o e h = front p (target to x.depth ∷ L) x from to o e h
  front (P.headed p) L x from to o e h = front p (target from x.depth ∷ L) x from to o e h
  front (P.closed p) L x from to o e h = front p [] x from to o e h
  front (P.looped b p) L x from to o e (u, v, h) = front p [] (in_loop (pick start_of L b) to x) from to o e h
  front (P.leave z n l) L x from to o e h = left x.around z n l x.rows from to h
  front (P.ensured p) L x from to o e h = absurd o
  front (P.caught p q) L x from to o e h = absurd o
  front (P.deeper k p) L x from to o e h = front p L (over k x) from to o e h
  front (P.started l p) L x from to o e h = front p L x from to o e h.1
  front (P.numbered n p) L x from to o e h = front p L x from to o e h
