-- The slots of the closed parts of a block are made at places of their own, and each part is told once.
use Rattle.std.proofs.Common.{◌≡◌, ℕ, ◌+◌, ◌<◌, ◌≤◌, suc, Bool, true, false, ◌&&◌, List, [], ◌∷◌, ◌++◌, Option, Some, None, refl, sym, ap, ◌∙◌, subst, arith}
use Rattle.pt_tree.specs.Syntax as S
use Rattle.pt_tree.specs.Syntax.{Name, Exp, Tgt, Stm, Stms, Branches, Handlers, Items, none, more}
use Rattle.pt_tree.specs.Sizes.{size, target_size, items_size, stm_size, stms_size}
use Rattle.pt_instr.specs.declared.Instr.TheVariants as instr
use Rattle.pt_code.specs.declared.Start.{Start}
use Rattle.sem_control.specs.control.Turn.{Around}
use Rattle.sem_control.specs.control.Numbers.{tested_body, behind_body, for_body, for_else, try_handlers, try_else, try_finally, handler_body}
use Rattle.sem_control.specs.control.Jump as J
use Rattle.sem_control.specs.control.Jump.{Part, for_part, with_part, tests_part, handler_part, finally_part, exit_part, body_at}
use Rattle.sem_code.specs.slots.CodeObject.{CodeObject}
use Rattle.pt_assembler.specs.declared.operation.Exit.TheVariants.{Break, Continue}
use Rattle.pt_assembler.specs.declared.operation.Jump.TheVariants.{Always as Jumps, IfFalse}
use Rattle.pt_assembler.specs.declared.operation.Target.{Target}
use Rattle.pt_assembler.specs.Piece as P
use Rattle.pt_assembler.specs.Piece.{Piece, pick}
use Rattle.pt_assembler.specs.PieceAt.{target, start_of, Context, in_loop, under, over, row_of, Piece_at}
use Rattle.sem_compile.specs.emitter.ExpPiece.{null_piece}
use Rattle.sem_fits.specs.fits.Block.{Block}
use Rattle.sem_compile.specs.stm_pieces.Needed.{some_exits, some_branch_goes_on, Behind, free, is_needed, needed_if, in_front, behind_branches, behind_loop, behind_tried}
use Rattle.sem_compile.specs.stm_pieces.StmPiece.{begun_piece, value_piece, guarded_piece, ensured_piece, handled_piece, taken_piece, items_piece, stm_piece, all_piece, branches_piece, handlers_piece}
use Rattle.sem_compile.specs.stm_pieces.Names.{Stm_named, All_named, Branches_named, Handlers_named, Items_named}
use Rattle.law_pieces.specs.piece_kinds.Walk.{is_empty, end_of}
use Rattle.law_pieces.specs.piece_kinds.Table.{next_of, Rises}
use Rattle.law_pieces.proofs.piece_kinds.PieceLaw.{rises_to, ends, ordered, has_place}
use Rattle.law_parts.specs.part_slots.Slots.{PartSlot, part_slot, tests_slot, finally_slot, slots_of_items, begun_at, behind_tests, slots_in, slots_of_all, slots_of_branches, slots_of_handlers}
use Rattle.law_parts.specs.part_slots.Text.{Grammatical, All_grammatical, Branches_grammatical, Handlers_grammatical}

-- strictly between two places
abbrev pub Within : (low high : ℕ) → List PartSlot → Type 0
Within a z [] = Unit {0}
Within a z (s ∷ ss) = (a < s.origin) × (s.origin < z) × Within a z ss

abbrev pub Made_apart : ℕ → List PartSlot → Type 0
Made_apart o [] = Unit {0}
Made_apart o (s ∷ ss) = (o ≡ s.origin → ⊥) × Made_apart o ss

abbrev pub All_made_apart : List PartSlot → Type 0
All_made_apart [] = Unit {0}
All_made_apart (s ∷ ss) = Made_apart s.origin ss × All_made_apart ss

pub record Spread (a z : ℕ) (ss : List PartSlot) : Type 0 where
  pub within : Within a z ss
  pub apart : All_made_apart ss

widened : (a b c d : ℕ) (ss : List PartSlot) → a ≤ b → c ≤ d → Within b c ss → Within a d ss
widened a b c d [] l h w = tt
widened a b c d (s ∷ ss) l h (u, v, w) = (omega (arith, l, u), omega (arith, h, v), widened a b c d ss l h w)

within_both : (a z : ℕ) (ss us : List PartSlot) → Within a z ss → Within a z us → Within a z (ss ++ us)
within_both a z [] us v w = w
within_both a z (s ∷ ss) us (l, h, v) w = (l, h, within_both a z ss us v w)

from_higher : (o a z : ℕ) (ss : List PartSlot) → o ≤ a → Within a z ss → Made_apart o ss
from_higher o a z [] h w = tt
from_higher o a z (s ∷ ss) h (l, u, w) = ((λ e. let f : ⊥ = omega (arith, h, l, e) in f), from_higher o a z ss h w)

from_lower : (o a z : ℕ) (ss : List PartSlot) → z ≤ o → Within a z ss → Made_apart o ss
from_lower o a z [] h w = tt
from_lower o a z (s ∷ ss) h (l, u, w) = ((λ e. let f : ⊥ = omega (arith, h, u, e) in f), from_lower o a z ss h w)

from_both : (o : ℕ) (ss us : List PartSlot) → Made_apart o ss → Made_apart o us → Made_apart o (ss ++ us)
from_both o [] us v w = w
from_both o (s ∷ ss) us (u, v) w = (u, from_both o ss us v w)

all_then : (a m z : ℕ) (ss us : List PartSlot) → Within a m ss → Within m z us → All_made_apart ss → All_made_apart us → All_made_apart (ss ++ us)
all_then a m z [] us v w x y = y
all_then a m z (s ∷ ss) us (l, h, v) w (x, xs) y =
    (from_both s.origin ss us x (from_higher s.origin m z us (omega (arith, h)) w), all_then a m z ss us v w xs y)

all_behind : (a m z : ℕ) (ss us : List PartSlot) → Within m z ss → Within a m us → All_made_apart ss → All_made_apart us → All_made_apart (ss ++ us)
all_behind a m z [] us v w x y = y
all_behind a m z (s ∷ ss) us (l, h, v) w (x, xs) y =
    (from_both s.origin ss us x (from_lower s.origin a m us (omega (arith, l)) w), all_behind a m z ss us v w xs y)

pub nowhere : (a z : ℕ) → Spread a z []
nowhere a z = record { within = tt; apart = tt }

pub wider : (a b c d : ℕ) (ss : List PartSlot) → a ≤ b → c ≤ d → Spread b c ss → Spread a d ss
wider a b c d ss l h g = record { within = widened a b c d ss l h g.within; apart = g.apart }

pub in_order : (a m z : ℕ) (ss us : List PartSlot) → a ≤ m → m ≤ z → Spread a m ss → Spread m z us → Spread a z (ss ++ us)
in_order a m z ss us l h f g = record {
  within = within_both a z ss us (widened a a m z ss (omega arith) h f.within) (widened a m z z us l (omega arith) g.within);
  apart = all_then a m z ss us f.within g.within f.apart g.apart;
}

-- the first ones are made behind the others
turned : (a m z : ℕ) (ss us : List PartSlot) → a ≤ m → m ≤ z → Spread m z ss → Spread a m us → Spread a z (ss ++ us)
turned a m z ss us l h f g = record {
  within = within_both a z ss us (widened a m z z ss l (omega arith) f.within) (widened a a m z us (omega arith) h g.within);
  apart = all_behind a m z ss us f.within g.within f.apart g.apart;
}

-- one that is made between two
between : (a z : ℕ) (s : PartSlot) (ss us : List PartSlot) → a < s.origin → s.origin < z → Spread a s.origin ss → Spread s.origin z us → Spread a z (s ∷ (ss ++ us))
between a z s ss us l h f g =
    let both = in_order a s.origin z ss us (omega (arith, l)) (omega (arith, h)) f g in record {
      within = (l, h, both.within);
      apart = (from_both s.origin ss us (from_lower s.origin a s.origin ss (omega arith) f.within) (from_higher s.origin s.origin z us (omega arith) g.within), both.apart);
    }

between_turned : (a z : ℕ) (s : PartSlot) (ss us : List PartSlot) → a < s.origin → s.origin < z → Spread s.origin z ss → Spread a s.origin us → Spread a z (s ∷ (ss ++ us))
between_turned a z s ss us l h f g =
    let both = turned a s.origin z ss us (omega (arith, l)) (omega (arith, h)) f g in record {
      within = (l, h, both.within);
      apart = (from_both s.origin ss us (from_higher s.origin s.origin z ss (omega arith) f.within) (from_lower s.origin a s.origin us (omega arith) g.within), both.apart);
    }

and_false : (t : Bool) → (t && false) ≡ false
and_false true = refl
and_false false = refl

first_false : (s t : Bool) → s ≡ false → (s && t) ≡ false
first_false s t e = ap (λ z. z && t) e

last_false : (s t : Bool) → t ≡ false → (s && t) ≡ false
last_false s t e = ap (λ z. s && z) e ∙ and_false s

grouped : {A : Type 0} (as' bs cs : List A) → (as' ++ bs) ++ cs ≡ as' ++ (bs ++ cs)
grouped [] bs cs = refl
grouped (a ∷ as') bs cs = ap (λ z. a ∷ z) (grouped as' bs cs)

pub nothing_behind : {A : Type 0} (as' : List A) → as' ++ [] ≡ as'
nothing_behind [] = refl
nothing_behind (a ∷ as') = ap (λ z. a ∷ z) (nothing_behind as')

-- a `finally` part that isn't written has no parts
abbrev in_finally : Stms → List PartSlot → List PartSlot
in_finally none ss = []
in_finally (more st us) ss = ss

regrouped : {A : Type 0} (B T H E F : List A) → (B ++ (T ++ (H ++ E))) ++ F ≡ B ++ (T ++ (H ++ (E ++ F)))
regrouped B T H E F = grouped B (T ++ (H ++ E)) F ∙ ap (λ z. B ++ z) (grouped T (H ++ E) F ∙ ap (λ z. T ++ z) (grouped H E F))

module _ {V : Type 0} (code : CodeObject V) (table : List Start) (b : Block) (same : (pc : ℕ) → code.at pc ≡ b.at pc) (rises : Rises b) where
  abbrev next : ℕ → ℕ
  next = next_of b

  abbrev stands : (q : Piece) (L : List Target) (x : Context) (from to : ℕ) → Type 0
  stands q L x from to = Piece_at code table q L x from to

  -- these are made within a piece, at places of their own
  pub record Spreads (q : Piece) (f : (from : ℕ) → List PartSlot) : Type 0 where
    pub spread : (L : List Target) (x : Context) (from to : ℕ) → stands q L x from to → Spread from to (f from)

  pub none_in : {q : Piece} → Spreads q (λ p. [])
  none_in = record { spread = λ L x from to h. nowhere from to }

  pub both_in : {a d : Piece} {f g : (from : ℕ) → List PartSlot} → Spreads a f → Spreads d g → Spreads (P.seq a d) (λ p. f p ++ g (end_of next a p))
  both_in {a} {d} {f} {g} u v = record {
    spread = λ L x from to h.
        in_order from h.0 to (f from) (g (end_of next a from)) (ordered code table b same rises a L x from h.0 h.1) (ordered code table b same rises d L x h.0 to h.2) (u.spread L x from h.0 h.1)
        (subst (λ k. Spread h.0 to (g k)) (sym (ends code table b same rises a L x from h.0 h.1)) (v.spread L x h.0 to h.2));
  }

  pub second_in : {a d : Piece} {g : (from : ℕ) → List PartSlot} → Spreads d g → Spreads (P.seq a d) (λ p. g (end_of next a p))
  second_in {a} {d} {g} v = record {
    spread = λ L x from to h.
        wider from h.0 to to (g (end_of next a from)) (ordered code table b same rises a L x from h.0 h.1) (omega arith)
        (subst (λ k. Spread h.0 to (g k)) (sym (ends code table b same rises a L x from h.0 h.1)) (v.spread L x h.0 to h.2));
  }

  pub first_in : {a d : Piece} {f : (from : ℕ) → List PartSlot} → Spreads a f → Spreads (P.seq a d) f
  first_in {a} {d} {f} u = record {
    spread = λ L x from to h.
        wider from from h.0 to (f from) (omega arith) (ordered code table b same rises d L x h.0 to h.2) (u.spread L x from h.0 h.1);
  }

  pub in_block : {q : Piece} {f : (from : ℕ) → List PartSlot} → Spreads q f → Spreads (P.block q) f
  in_block u = record { spread = λ L x from to h. u.spread (target to x.depth ∷ L) x from to h }

  pub in_head : {q : Piece} {f : (from : ℕ) → List PartSlot} → Spreads q f → Spreads (P.headed q) f
  in_head u = record { spread = λ L x from to h. u.spread (target from x.depth ∷ L) x from to h }

  pub in_closed : {q : Piece} {f : (from : ℕ) → List PartSlot} → Spreads q f → Spreads (P.closed q) f
  in_closed u = record { spread = λ L x from to h. u.spread [] x from to h }

  pub in_loop_of : {q : Piece} {f : (from : ℕ) → List PartSlot} (k : ℕ) → Spreads q f → Spreads (P.looped k q) f
  in_loop_of k u = record { spread = λ L x from to h. u.spread [] (in_loop (pick start_of L k) to x) from to h.2 }

  pub in_row : {q : Piece} {f : (from : ℕ) → List PartSlot} → Spreads q f → Spreads (P.ensured q) f
  in_row {q} {f} u = record {
    spread = λ L x from to h.
        let m = (h.1).0 in
        let less = rises_to code table b same rises (row_of from to to x.depth true ∷ x.rows) instr.Normal None m to (h.1).2 in
        wider from from m to (f from) (omega arith) (omega (arith, less)) (u.spread [] (under (row_of from to to x.depth true) x) from m (h.1).1);
  }

  pub in_depth : {q : Piece} {f : (from : ℕ) → List PartSlot} (k : ℕ) → Spreads q f → Spreads (P.deeper k q) f
  in_depth k u = record { spread = λ L x from to h. u.spread L (over k x) from to h }

  pub in_start : {q : Piece} {f : (from : ℕ) → List PartSlot} {l : ℕ} → Spreads q f → Spreads (P.started l q) f
  in_start u = record { spread = λ L x from to h. u.spread L x from to h.1 }

  pub in_count : {q : Piece} {f : (from : ℕ) → List PartSlot} {n : ℕ} → Spreads q f → Spreads (P.numbered n q) f
  in_count u = record { spread = λ L x from to h. u.spread L x from to h }

  -- a slot that is made between two pieces
  pub between_in : {a d : Piece} {f g : (from : ℕ) → List PartSlot} (q : Part) (k : ℕ) → is_empty a ≡ false → is_empty d ≡ false → Spreads a f → Spreads d g
      → Spreads (P.seq a d) (λ p. part_slot q k (end_of next a p) ∷ (f p ++ g (end_of next a p)))
  between_in {a} {d} {f} {g} q k e i u v = record {
    spread = λ L x from to h.
        subst (λ m. Spread from to (part_slot q k m ∷ (f from ++ g m))) (sym (ends code table b same rises a L x from h.0 h.1))
        (between from to (part_slot q k h.0) (f from) (g h.0) (has_place code table b same rises a L x from h.0 h.1 e) (has_place code table b same rises d L x h.0 to h.2 i)
        (u.spread L x from h.0 h.1) (v.spread L x h.0 to h.2));
  }

  -- told in another way
  pub told_so : {q : Piece} {f g : (from : ℕ) → List PartSlot} → ((p : ℕ) → f p ≡ g p) → Spreads q f → Spreads q g
  told_so e u = record { spread = λ L x from to h. subst (Spread from to) (e from) (u.spread L x from to h) }

  module _ {A : Type 0} (around : Around A) where
    abbrev pub In : Stms → (n : ℕ) → Behind → (d : ℕ) → (from : ℕ) → List PartSlot
    In ss n w d p = slots_of_all around next ss n w d p

    while_spreads : (l n d : ℕ) (e : Exp) (body els : Stms) (w : Behind)
        → Spreads (all_piece around body (tested_body n e) (needed_if (some_exits Continue body))) (In body (tested_body n e) (needed_if (some_exits Continue body)) d)
        → Spreads (all_piece around els (behind_body n e body) (behind_loop (some_exits Break body) w)) (In els (behind_body n e body) (behind_loop (some_exits Break body) w) d)
        → Spreads (stm_piece around (S.while l e body els) n w) (slots_in around next (S.while l e body els) n w d)
    while_spreads l n d e body els w f g =
        in_block (both_in (in_block (second_in (second_in (in_head (first_in (in_loop_of 2 f)))))) (in_count (in_closed g)))

    for_spreads : (l n d : ℕ) (t : Tgt) (it : Exp) (body els : Stms) (w : Behind)
        → Spreads (all_piece around body (for_body (n + size it + 1) t) (needed_if (some_exits Continue body)))
        (In body (for_body (n + size it + 1) t) (needed_if (some_exits Continue body)) (suc d))
        → Spreads (all_piece around els (for_else (n + size it + 1) t body) (behind_loop (some_exits Break body) w)) (In els (for_else (n + size it + 1) t body) (behind_loop (some_exits Break body) w) d)
        → Spreads (stm_piece around (S.for l t it body els) n w) (slots_in around next (S.for l t it body els) n w d)
    for_spreads l n d t it body els w f g =
        in_block (both_in (in_block (second_in (between_in (for_part (n + size it + 1)) d refl refl none_in
        (second_in (in_head (second_in (first_in (in_depth 1 (in_loop_of 2 f))))))))) (in_count (in_closed g)))

    -- an item of a `with`, around what is inside
    item_spreads : (l : ℕ) (e : Exp) (t : Option Tgt) (inside : Piece) (j k n d : ℕ) (q r : Part) (f : (from : ℕ) → List PartSlot) → Spreads inside f
        → Spreads (P.seq (value_piece around e n) (P.seq (P.act (P.plain instr.Enter) k l false) (P.seq (P.deeper 1 (P.ensured (P.seq (taken_piece around t (n + size e + 1)) inside)))
        (P.seq (P.act (P.plain instr.Exit) j l false) (P.move (P.plain instr.EndFinally))))))
        (λ p. let entered = next (end_of next (value_piece around e n) p) in let within = end_of next (taken_piece around t (n + size e + 1)) entered in
        part_slot q d entered ∷ part_slot r (suc d) (next (end_of next inside within)) ∷ f within)
    item_spreads l e t inside j k n d q r f u =
        second_in (between_in q d refl refl none_in (told_so (λ p. ap (λ ss. part_slot r (suc d) (next (end_of next inside (end_of next (taken_piece around t (n + size e + 1)) p))) ∷ ss) (nothing_behind (f (end_of next (taken_piece around t (n + size e + 1)) p))))
        (between_in r (suc d) refl refl (in_depth 1 (in_row (second_in u))) none_in)))

    pub items_spread : (is : Items) (body : ℕ → Piece) (k n d : ℕ) (f : (depth from : ℕ) → List PartSlot) → ((m d : ℕ) → m ≡ body_at is n → Spreads (body m) (f d))
        → Spreads (items_piece around is body k n) (λ p. slots_of_items around next is body k n d p f)
    items_spread S.no_items body k n d f u = in_closed (u n d refl)
    items_spread (S.with_item l e None r) body k n d f u =
        item_spreads l e None (items_piece around r body k (n + size e + 1)) (n + size e + 1 + items_size r k) (n + size e) n d (with_part (n + size e + 1 + items_size r k))
        (exit_part (n + size e + 1 + items_size r k)) _ (items_spread r body k (n + size e + 1) (suc d) f u)
    items_spread (S.with_item l e (Some t) r) body k n d f u =
        item_spreads l e (Some t) (items_piece around r body k (n + size e + 1 + target_size t)) (n + size e + 1 + target_size t + items_size r k) (n + size e) n d
        (with_part (n + size e + 1 + target_size t + items_size r k)) (exit_part (n + size e + 1 + target_size t + items_size r k)) _
        (items_spread r body k (n + size e + 1 + target_size t) (suc d) f u)

    pub named_body : (is : Items) (N : ℕ → Type 0) (n : ℕ) → Items_named around is N n → N (body_at is n)
    named_body S.no_items N n h = h
    named_body (S.with_item l e None r) N n h = named_body r N (n + size e + 1) h.1
    named_body (S.with_item l e (Some t) r) N n h = named_body r N (n + size e + 1 + target_size t) h.2

    -- a handler behind its test
    pub handled_spreads : (l n d : ℕ) (y : Option Name) (body : ℕ → Piece) (q : Part) (f : (from : ℕ) → List PartSlot) → ((m : ℕ) → m ≡ handler_body n y → Spreads (body m) f)
        → Spreads (handled_piece around l n y body) (λ p. part_slot q d (next p) ∷ f (next (next p)))
    handled_spreads l n d None body q f u = between_in q d refl refl none_in (second_in (first_in (in_depth 1 (in_closed (u (n + 1) refl)))))
    handled_spreads l n d (Some y) body q f u = between_in q d refl refl none_in (second_in (first_in (in_depth 1 (in_row (u (n + 1 + 1) refl)))))

    handler_spreads : (class : Piece) (l n d : ℕ) (y : Option Name) (body : ℕ → Piece) (rest : Piece) (q : Part) (f g : (from : ℕ) → List PartSlot)
        → ((m : ℕ) → m ≡ handler_body n y → Spreads (body m) f) → Spreads rest g
        → Spreads (P.seq (P.block (P.seq class (P.seq (P.act (P.plain instr.Match) n l false) (P.seq (P.move (P.to IfFalse 0)) (handled_piece around l n y body))))) rest)
        (λ p. let caught = next (next (end_of next class p)) in part_slot q d (next caught) ∷ (f (next (next caught)) ++ g (end_of next (handled_piece around l n y body) caught)))
    handler_spreads class l n d y body rest q f g u v =
        both_in (in_block (second_in (second_in (second_in (handled_spreads l n d y body q f u))))) v

    -- the body of a `try`, its `else` part and its handlers, in the order of the tree
    guarded_spreads : (hs : Handlers) (body other handlers : Piece) (k j n d : ℕ) (f e h : (from : ℕ) → List PartSlot) → is_empty body ≡ false → is_empty handlers ≡ false
        → Spreads body f → Spreads other e → Spreads handlers h → ((p : ℕ) → hs ≡ S.no_handlers → h p ≡ [])
        → Spreads (guarded_piece hs (P.closed body) (P.numbered k (P.closed other)) (P.numbered j handlers))
        (λ p. let tests = next (end_of next other (end_of next body p)) in f p ++ (tests_slot hs n d tests ++ (h tests ++ e (end_of next body p))))
    guarded_spreads S.no_handlers body other handlers k j n d f e h i o u v w z =
        told_so (λ p. ap (λ ss. f p ++ (ss ++ e (end_of next body p))) (sym (z _ refl))) (both_in (in_closed u) (in_count (in_closed v)))
    guarded_spreads (S.handler l x y bd r) body other handlers k j n d f e h i o u v w z = record { spread = λ L c from to s. by L c from to s }
      where
        by : (L : List Target) (c : Context) (from to : ℕ) → stands (guarded_piece (S.handler l x y bd r) (P.closed body) (P.numbered k (P.closed other)) (P.numbered j handlers)) L c from to
            → Spread from to (f from ++ (part_slot (tests_part n) d (next (end_of next other (end_of next body from)))
            ∷ (h (next (end_of next other (end_of next body from))) ++ e (end_of next body from))))
        by L c from to (m2, (m1, hb, (m0, ho, hj)), hh) =
            let row = row_of from m1 m2 c.depth false in
            let inner = target to c.depth ∷ L in
            let e1 = ends code table b same rises (P.closed body) [] (under row c) from m1 hb in
            let e2 = ends code table b same rises (P.seq (P.closed other) (P.move (P.to Jumps 0))) inner c m1 m2 (m0, ho, hj) in
            let l1 = ordered code table b same rises (P.closed body) [] (under row c) from m1 hb in
            let l2 = ordered code table b same rises (P.closed other) inner c m1 m0 ho in
            let l3 = has_place code table b same rises (P.move (P.to Jumps 0)) inner c m0 m2 hj refl in
            let l4 = has_place code table b same rises handlers inner c m2 to hh o in
            subst (λ p. Spread from to (f from ++ (part_slot (tests_part n) d (next (end_of next other p)) ∷ (h (next (end_of next other p)) ++ e p)))) (sym e1)
            (subst (λ p. Spread from to (f from ++ (part_slot (tests_part n) d p ∷ (h p ++ e m1)))) (sym e2)
            (in_order from m1 to (f from) (part_slot (tests_part n) d m2 ∷ (h m2 ++ e m1)) l1 (omega (arith, l2, l3, l4)) (u.spread [] (under row c) from m1 hb)
            (between_turned m1 to (part_slot (tests_part n) d m2) (h m2) (e m1) (omega (arith, l2, l3)) l4 (w.spread inner c m2 to hh)
            (wider m1 m1 m0 m2 (e m1) (omega arith) (omega (arith, l3)) (v.spread [] c m1 m0 ho)))))

    -- and the `finally` part, if there is one
    ensured_spreads : (fin : Stms) (tried part : Piece) (k n d : ℕ) (f g : (from : ℕ) → List PartSlot) → Spreads tried f → Spreads part g
        → Spreads (ensured_piece fin tried (P.numbered k (P.closed part)))
        (λ p. let last = next (end_of next tried p) in finally_slot fin n d last ++ (f p ++ in_finally fin (g last)))
    ensured_spreads none tried part k n d f g u v = told_so (λ p. sym (nothing_behind (f p))) (first_in u)
    ensured_spreads (more st ss) tried part k n d f g u v =
        between_in (finally_part n) d refl (last_false (is_empty part) false refl) (in_row u) (first_in (in_depth 1 (in_count (in_closed v))))

    none_finally : (fin : Stms) (n d p : ℕ) (w : Behind) → in_finally fin (slots_of_all around next fin n w d p) ≡ slots_of_all around next fin n w d p
    none_finally none n d p w = refl
    none_finally (more st ss) n d p w = refl

    pub handlers_some : (hs : Handlers) (n : ℕ) → is_empty (handlers_piece around hs n) ≡ false
    handlers_some S.no_handlers n = refl
    handlers_some (S.handler l S.absent y body r) n = refl
    handlers_some (S.handler l (S.given x) y body r) n =
        first_false (is_empty (value_piece around x n) && false) _ (and_false (is_empty (value_piece around x n)))

    pub no_handler_slots : (hs : Handlers) (n d p : ℕ) → hs ≡ S.no_handlers → slots_of_handlers around next hs n d p ≡ []
    no_handler_slots hs n d p z = ap (λ hs. slots_of_handlers around next hs n d p) z

    try_spreads : (l n d : ℕ) (body : Stms) (hs : Handlers) (els fin : Stms) (w : Behind) → is_empty (all_piece around body (n + 1) (in_front els (behind_tried hs fin w))) ≡ false
        → Spreads (all_piece around body (n + 1) (in_front els (behind_tried hs fin w))) (In body (n + 1) (in_front els (behind_tried hs fin w)) d)
        → Spreads (handlers_piece around hs (try_handlers n body)) (λ p. slots_of_handlers around next hs (try_handlers n body) d p)
        → Spreads (all_piece around els (try_else n body hs) (behind_tried hs fin w)) (In els (try_else n body hs) (behind_tried hs fin w) d)
        → Spreads (all_piece around fin (try_finally n body hs els) (needed_if (is_needed w))) (In fin (try_finally n body hs els) (needed_if (is_needed w)) (suc d))
        → Spreads (stm_piece around (S.try l body hs els fin) n w) (slots_in around next (S.try l body hs els fin) n w d)
    try_spreads l n d body hs els fin w o f h e g =
        second_in (told_so (λ p.
        let else_at = end_of next tried p in
        let tests = next (end_of next other else_at) in
        let last = next (end_of next guarded p) in
        let in_body = In body (n + 1) (in_front els (behind_tried hs fin w)) d p in
        let in_tests = tests_slot hs (try_handlers n body) d tests in
        let in_handlers = slots_of_handlers around next hs (try_handlers n body) d tests in
        let in_else = In els (try_else n body hs) (behind_tried hs fin w) d else_at in
        let in_last = In fin (try_finally n body hs els) (needed_if (is_needed w)) (suc d) last in
        ap (λ z. finally_slot fin n d last ++ z) (ap (λ z. (in_body ++ (in_tests ++ (in_handlers ++ in_else))) ++ z) (none_finally fin (try_finally n body hs els) (suc d) last (needed_if (is_needed w)))
        ∙ regrouped in_body in_tests in_handlers in_else in_last))
        (ensured_spreads fin guarded (all_piece around fin (try_finally n body hs els) (needed_if (is_needed w))) (try_finally n body hs els) n d
        (λ p. In body (n + 1) (in_front els (behind_tried hs fin w)) d p ++ (tests_slot hs (try_handlers n body) d (next (end_of next other (end_of next tried p)))
        ++ (slots_of_handlers around next hs (try_handlers n body) d (next (end_of next other (end_of next tried p))) ++ In els (try_else n body hs) (behind_tried hs fin w) d (end_of next tried p))))
        (In fin (try_finally n body hs els) (needed_if (is_needed w)) (suc d))
        (guarded_spreads hs tried other handlers (try_else n body hs) (try_handlers n body) (try_handlers n body) d (In body (n + 1) (in_front els (behind_tried hs fin w)) d)
        (In els (try_else n body hs) (behind_tried hs fin w) d) (λ p. slots_of_handlers around next hs (try_handlers n body) d p) o (handlers_some hs (try_handlers n body)) f e h
        (λ p z. no_handler_slots hs (try_handlers n body) d p z)) g))
      where
        tried : Piece
        tried = all_piece around body (n + 1) (in_front els (behind_tried hs fin w))

        other : Piece
        other = all_piece around els (try_else n body hs) (behind_tried hs fin w)

        handlers : Piece
        handlers = handlers_piece around hs (try_handlers n body)

        guarded : Piece
        guarded = guarded_piece hs (P.closed tried) (P.numbered (try_else n body hs) (P.closed other)) (P.numbered (try_handlers n body) handlers)

    module _ (some : (st : Stm) (ss : Stms) (n : ℕ) (w : Behind) → Grammatical st → All_named around (more st ss) n → is_empty (all_piece around (more st ss) n w) ≡ false) where
      mutual
        pub stm_spreads : (st : Stm) (n d : ℕ) (w : Behind) → Stm_named around st n → Grammatical st
            → Spreads (begun_piece st w (stm_piece around st n w)) (λ p. slots_in around next st n w d (begun_at around next st p))
        stm_spreads (S.choice l S.no_branches els) n d w i g = absurd g
        stm_spreads (S.choice l (S.branch k x body r) els) n d w i g =
            in_block (branches_spread (S.branch k x body r) els n d (behind_branches (some_branch_goes_on (S.branch k x body r)) w) i (g.0, g.1)
            (λ m j. all_spread els m d (behind_branches (some_branch_goes_on (S.branch k x body r)) w) j g.2))
        stm_spreads (S.while l e body els) n d w i g =
            while_spreads l n d e body els w (all_spread body (tested_body n e) d (needed_if (some_exits Continue body)) i.1 g.0)
            (all_spread els (behind_body n e body) d (behind_loop (some_exits Break body) w) i.2 g.1)
        stm_spreads (S.for l t it body els) n d w i g =
            for_spreads l n d t it body els w (all_spread body (for_body (n + size it + 1) t) (suc d) (needed_if (some_exits Continue body)) i.2 g.0)
            (all_spread els (for_else (n + size it + 1) t body) d (behind_loop (some_exits Break body) w) i.3 g.1)
        stm_spreads (S.try l none hs els fin) n d w i g = absurd g
        stm_spreads (S.try l (more st ss) hs els fin) n d w i g =
            try_spreads l n d (more st ss) hs els fin w (some st ss (n + 1) (in_front els (behind_tried hs fin w)) g.0 i.0)
            (all_spread (more st ss) (n + 1) d (in_front els (behind_tried hs fin w)) i.0 (g.0, g.1)) (handlers_spread hs (try_handlers n (more st ss)) d i.1 g.2)
            (all_spread els (try_else n (more st ss) hs) d (behind_tried hs fin w) i.2 g.3) (all_spread fin (try_finally n (more st ss) hs els) (suc d) (needed_if (is_needed w)) i.3 g.4)
        stm_spreads (S.with l S.no_items body) n d w i g = absurd g
        stm_spreads (S.with l (S.with_item k x t r) body) n d w i g =
            items_spread (S.with_item k x t r) (λ m. all_piece around body m free) (stms_size body) n d (slots_of_all around next body (body_at (S.with_item k x t r) n) free)
            (λ m d z. subst (λ m. Spreads (all_piece around body m free) (In body (body_at (S.with_item k x t r) n) free d)) (sym z)
            (all_spread body (body_at (S.with_item k x t r) n) d free (named_body (S.with_item k x t r) (λ m. All_named around body m) n i) g))
        stm_spreads st n d w i g = none_in

        pub all_spread : (ss : Stms) (n d : ℕ) (w : Behind) → All_named around ss n → All_grammatical ss → Spreads (all_piece around ss n w) (In ss n w d)
        all_spread none n d w i g = none_in
        all_spread (more st ss) n d w i g =
            both_in (in_start (stm_spreads st n d (in_front ss w) i.0 g.0)) (all_spread ss (n + stm_size st) d w i.1 g.1)

        pub branches_spread : (bs : Branches) (els : Stms) (n d : ℕ) (w : Behind) → Branches_named around bs (λ m. All_named around els m) n → Branches_grammatical bs
            → ((m : ℕ) → All_named around els m → Spreads (all_piece around els m w) (In els m w d))
            → Spreads (branches_piece around bs n (λ m. P.closed (all_piece around els m w)))
            (λ p. slots_of_branches around next bs n d p ++ In els (J.behind_branches bs n) w d (behind_tests around next bs n p))
        branches_spread S.no_branches els n d w i g f = in_closed (f n i)
        branches_spread (S.branch l x body r) els n d w i g f =
            told_so (λ p. sym (grouped (In body (tested_body n x) free d (next (end_of next (value_piece around x n) p))) _ _))
            (both_in (in_block (second_in (second_in (first_in (in_closed (all_spread body (tested_body n x) d free i.1 g.0))))))
            (branches_spread r els (behind_body n x body) d w i.2 g.1 f))

        pub handlers_spread : (hs : Handlers) (n d : ℕ) → Handlers_named around hs n → Handlers_grammatical hs → Spreads (handlers_piece around hs n) (λ p. slots_of_handlers around next hs n d p)
        handlers_spread S.no_handlers n d i g = none_in
        handlers_spread (S.handler l S.absent y body r) n d i g =
            handler_spreads null_piece l n d y (λ m. all_piece around body m free) (handlers_piece around r (handler_body n y + stms_size body)) (handler_part n)
            (In body (handler_body n y) free (suc d)) (λ p. slots_of_handlers around next r (handler_body n y + stms_size body) d p)
            (λ m z. subst (λ k. Spreads (all_piece around body k free) (In body (handler_body n y) free (suc d))) (sym z) (all_spread body (handler_body n y) (suc d) free i.0 g.0))
            (handlers_spread r (handler_body n y + stms_size body) d i.1 g.1)
        handlers_spread (S.handler l (S.given x) y body r) n d i g =
            handler_spreads (value_piece around x n) l (n + size x) d y (λ m. all_piece around body m free) (handlers_piece around r (handler_body (n + size x) y + stms_size body))
            (handler_part (n + size x)) (In body (handler_body (n + size x) y) free (suc d)) (λ p. slots_of_handlers around next r (handler_body (n + size x) y + stms_size body) d p)
            (λ m z. subst (λ k. Spreads (all_piece around body k free) (In body (handler_body (n + size x) y) free (suc d))) (sym z) (all_spread body (handler_body (n + size x) y) (suc d) free i.1 g.0))
            (handlers_spread r (handler_body (n + size x) y + stms_size body) d i.2 g.1)
