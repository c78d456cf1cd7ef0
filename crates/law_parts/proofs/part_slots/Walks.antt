-- The first statement on a line, in the order of the tree, is the first that starts on it in code, and the slots there are those of its parts.
use Rattle.std.proofs.Common.{◌≡◌, ℕ, ◌+◌, Bool, true, false, if◌then◌else◌, nat_eq, List, [], ◌∷◌, ◌++◌, length, Contains, Option, Some, None, refl, sym, ap, ◌∙◌, subst, suc, arith}
use Rattle.std.proofs.lemmas.Bool.{false≢true}
use Rattle.pt_code.specs.declared.Start.{Start}
use Rattle.sem_control.specs.control.Jump as J
use Rattle.sem_control.specs.control.Jump.{Part, parts, on_line, with_part, handler_part, Shape, starts_on, with_name, body_at, within_items, starts_in, starts, branch_starts, handler_starts}
use Rattle.sem_code.specs.slots.CodeObject.{CodeObject}
use Rattle.sem_code.specs.slots.Slots.{or_else}
use Rattle.pt_assembler.specs.declared.operation.Target.{Target}
use Rattle.pt_assembler.specs.Piece as P
use Rattle.pt_assembler.specs.Piece.{Piece, pick}
use Rattle.pt_assembler.specs.PieceAt.{target, start_of, Context, in_loop, under, over, row_of}
use Rattle.sem_fits.specs.fits.Block.{Block}
use Rattle.law_pieces.specs.piece_kinds.Walk.{Known, StackMap, Setting, with_label, with_none, with_loop, end_of, behind, Loop, behind_op, is_empty}
use Rattle.law_pieces.specs.piece_kinds.Typed.{Over}
use Rattle.law_pieces.specs.piece_kinds.Table.{next_of, Rises, Table}
use Rattle.law_pieces.proofs.piece_kinds.PieceLaw.{ends, Laid, first, second, in_block, in_head, in_closed, in_a_loop, deep, at_start, in_count, under_row, behind_row, under_except, begins}
use Rattle.law_typed_pieces.proofs.typed_pieces.Combine.{deepened_is, value}
use Rattle.law_typed_pieces.proofs.start_lines.Lines.{EachLine, plain_lines}
use Rattle.law_parts.specs.part_slots.Slots.{PartSlot, part_slot, tests_slot, finally_slot, slots_of_items, begun_at, behind_tests, slots_in, slots_of_all, slots_of_branches, slots_of_handlers}
use Rattle.law_pieces.specs.first_starts.First.{first_start}
use Rattle.law_parts.specs.part_slots.Parts.{AreOf}
use Rattle.pt_tree.specs.declared.expression.Constant.TheVariants as constant
use Rattle.pt_tree.specs.Syntax as S
use Rattle.pt_tree.specs.Syntax.{Name, Exp, Tgt, Stm, Stms, Branches, Handlers, Items, none, more}
use Rattle.pt_tree.specs.Sizes.{size, target_size, items_size, stm_size, stms_size}
use Rattle.pt_instr.specs.declared.Instr.TheVariants as instr
use Rattle.pt_instr.specs.Effects.{effect_of}
use Rattle.sem_control.specs.control.Turn.{Around}
use Rattle.sem_control.specs.control.Frames.{normal, rest, looping, iterating, guarded, handling, ensuring, ending, withing}
use Rattle.sem_control.specs.control.Numbers.{tested_body, behind_body, for_body, for_else, try_handlers, try_else, try_finally, handler_body}
use Rattle.pt_assembler.specs.declared.operation.Exit.TheVariants.{Break, Continue}
use Rattle.pt_assembler.specs.declared.operation.Jump.TheVariants.{AtEnd, Always as Jumps, IfFalse}
use Rattle.sem_compile.specs.emitter.ExpPiece.{null_piece, exp_piece, target_piece}
use Rattle.sem_compile.specs.stm_pieces.Needed.{some_exits, some_branch_goes_on, Behind, needed, free, reached, all_go_on, is_needed, needed_if, in_front, behind_branches, behind_loop, behind_tried}
use Rattle.sem_compile.specs.stm_pieces.StmPiece.{behind_taken, begun_piece, value_piece, store_piece, guarded_piece, ensured_piece, handled_piece, taken_piece, items_piece, stm_piece, all_piece, branches_piece, handlers_piece}
use Rattle.sem_compile.specs.stm_pieces.Names.{TakesCells, Value_named, Items_named, Target_named, Stm_named, All_named, Branches_named, Handlers_named}
use Rattle.law_pieces.proofs.piece_kinds.ListLemmas.{over_itself, over_more}
use Rattle.law_typed_pieces.proofs.typed_pieces.Expressions.{iterator, null}
use Rattle.law_typed_pieces.proofs.typed_pieces.Plain as plain
use Rattle.law_typed_pieces.proofs.typed_pieces.Plain.{IsPlain}
use Rattle.law_typed_pieces.proofs.typed_pieces.LeadsForms.{val_plain, store_plain, taken_plain}
use Rattle.law_typed_pieces.proofs.typed_pieces.Statements as statements
use Rattle.law_typed_pieces.proofs.typed_pieces.Statements.{exception, exit, pending, HoldsNone, Outs, Tested, while_tested, while_test, for_tested, for_test, val, to_target, stored, taken_so, Taken_named}
use Rattle.law_typed_pieces.proofs.start_lines.Pieces.{alone, begun}
use Rattle.law_parts.specs.part_slots.Text.{Grammatical, All_grammatical, Branches_grammatical, Handlers_grammatical, Share_no_line, Else_apart, All_else_apart, Branches_else_apart, Handlers_else_apart}
use Rattle.law_parts.proofs.part_slots.On.{Due, Ons, Branch, branch_of, branch, Handler', handler_of, handler, GivesClass, body_some, stm_on, all_on}

-- no statement starts in it
abbrev pub NoStart : Piece → Type 0
NoStart q = EachLine (λ l. ⊥) q

or_none : {A : Type 0} (o : Option A) → or_else o None ≡ o
or_none (Some a) = refl
or_none None = refl

pub on_both : (line : ℕ) (ts us : List J.Target) → on_line line (ts ++ us) ≡ or_else (on_line line ts) (on_line line us)
on_both line [] us = refl
on_both line (t ∷ ts) us = by (nat_eq t.line line) (on_both line ts us)
  where
    by : (s : Bool) → on_line line (ts ++ us) ≡ or_else (on_line line ts) (on_line line us)
        → (if s then Some t else on_line line (ts ++ us)) ≡ or_else (if s then Some t else on_line line ts) (on_line line us)
    by true e = refl
    by false e = e

module _ (next : ℕ → ℕ) (line : ℕ) where
  none_starts : (q : Piece) → NoStart q → (from : ℕ) → first_start next line q from ≡ None
  none_starts P.empty h p = refl
  none_starts (P.act op n l g) h p = refl
  none_starts (P.move op) h p = refl
  none_starts (P.seq a d) h p =
      ap (λ o. or_else o (first_start next line d (end_of next a p))) (none_starts a h.0 p) ∙ none_starts d h.1 (end_of next a p)
  none_starts (P.block q) h p = none_starts q h p
  none_starts (P.headed q) h p = none_starts q h p
  none_starts (P.closed q) h p = none_starts q h p
  none_starts (P.looped k q) h p = none_starts q h p
  none_starts (P.leave e n l) h p = refl
  none_starts (P.ensured q) h p = none_starts q h p
  none_starts (P.caught q r) h p =
      ap (λ o. or_else o (first_start next line r (end_of next q p))) (none_starts q h.0 p) ∙ none_starts r h.1 (end_of next q p)
  none_starts (P.deeper k q) h p = none_starts q h p
  none_starts (P.started l q) h p = absurd h.0
  none_starts (P.numbered n q) h p = none_starts q h p

-- lists of slots, of which each part's is told
module _ (slots : Part → Option PartSlot) where
  abbrev pub Told : List PartSlot → Type 0
  Told [] = Unit {0}
  Told (s ∷ ss) = (slots s.part ≡ Some s) × Told ss

  pub told_front : (ss us : List PartSlot) → Told (ss ++ us) → Told ss
  told_front [] us h = tt
  told_front (s ∷ ss) us h = (h.0, told_front ss us h.1)

  pub told_back : (ss us : List PartSlot) → Told (ss ++ us) → Told us
  told_back [] us h = h
  told_back (s ∷ ss) us h = told_back ss us h.1

-- the statements of a `try` in the order of the tree, where the handlers and the `else` part have none on one line
commuted : {A : Type 0} (a h e : Option A) → ((t v : A) → h ≡ Some t → e ≡ Some v → ⊥) → or_else a (or_else h e) ≡ or_else (or_else a e) h
commuted (Some a) h e f = refl
commuted None None None f = refl
commuted None None (Some v) f = refl
commuted None (Some t) None f = refl
commuted None (Some t) (Some v) f = absurd (f t v refl refl)

grouped : {A : Type 0} (a h e : Option A) → or_else (or_else a h) e ≡ or_else a (or_else h e)
grouped (Some a) h e = refl
grouped None h e = refl

regrouped : {A : Type 0} (a h e f : Option A) → or_else a (or_else h (or_else e f)) ≡ or_else (or_else a (or_else h e)) f
regrouped (Some a) h e f = refl
regrouped None (Some h) e f = refl
regrouped None None e f = refl

pub must : (w : Behind) → is_needed w ≡ true → (t : Bool) → Due w t
must needed e t = tt
must free e t = absurd (false≢true e)
must reached e t = absurd (false≢true e)

abbrev target_of : Stm → Stms → (n : ℕ) → Shape → J.Target
target_of st ss n s = record { line = starts_on st; n = n; ss = more st ss; within = s }

plain_still : (q : Piece) → IsPlain q → NoStart q
plain_still q h = plain_lines (λ l. ⊥) q h

module _ {V : Type 0} (code : CodeObject V) (table : List Start) (b : Block) (same : (pc : ℕ) → code.at pc ≡ b.at pc) (rises : Rises b) (at : Table)
    (slots : Part → Option PartSlot) (line : ℕ) where
  abbrev next : ℕ → ℕ
  next = next_of b

  abbrev laid : (p : Piece) (L : List Target) (x : Context) (c : Setting) (Ls : List (Option StackMap)) (base : StackMap) (from to : ℕ) (s : Option StackMap) → Type 0
  laid p L x c Ls base from to s = Laid code table b same rises at p L x c Ls base from to s

  -- a statement starts at a place, whose slots are those of its parts
  pub record StatementAt (t : J.Target) (place : ℕ) : Type 0 where
    pub listed : Contains table (record { pc = record { 0 = place }; line = record { 0 = t.line } })
    pub slots_there : StackMap
    pub there : at place ≡ Some slots_there
    pub are : AreOf slots (parts t.within) slots_there

  -- what the tree has for the line, if it has a statement on it, and what code has
  pub data Meets : Option J.Target → Option ℕ → Type 0 where
    neither : Meets None None
    both : (t : J.Target) (p : ℕ) → StatementAt t p → Meets (Some t) (Some p)

  or_meets : (o u : Option J.Target) (p r : Option ℕ) → Meets o p → Meets u r → Meets (or_else o u) (or_else p r)
  or_meets _ u _ r neither m = m
  or_meets _ u _ r (both t p h) m = both t p h

  -- from these slots
  pub record Walks (q : Piece) (c : Setting) (base : StackMap) (from : ℕ) (ks : StackMap) (o : Option J.Target) : Type 0 where
    pub walks : (L : List Target) (x : Context) (Ls : List (Option StackMap)) (to : ℕ) → laid q L x c Ls base from to (Some ks) → Meets o (first_start next line q from)

  pub still : {q : Piece} {c : Setting} {base : StackMap} {from : ℕ} {ks : StackMap} → NoStart q → Walks q c base from ks None
  still {q} {c} {base} {from} h = record { walks = λ L x Ls to l. subst (Meets None) (sym (none_starts next line q h from)) neither }

  pub told_as : {q : Piece} {c : Setting} {base : StackMap} {from : ℕ} {ks : StackMap} {o : Option J.Target} (u : Option J.Target) → u ≡ o → Walks q c base from ks o
      → Walks q c base from ks u
  told_as u e w = subst (Walks _ _ _ _ _) (sym e) w

  -- the two of a sequence
  front : (a d : Piece) (L : List Target) (x : Context) (c : Setting) (Ls : List (Option StackMap)) (base : StackMap) (from to : ℕ) (ks : StackMap)
      → laid (P.seq a d) L x c Ls base from to (Some ks) → laid a L x c Ls base from (end_of next a from) (Some ks)
  front a d L x c Ls base from to ks l =
      subst (λ m. laid a L x c Ls base from m (Some ks)) (sym (ends code table b same rises a L x from (l.stands).0 (l.stands).1))
      (first code table b same rises at L x c Ls base from to ks a d l
      (λ ls g. begins code table b same rises at d L x c Ls base (l.stands).0 to ls
      (subst (λ z. laid d L x c Ls base (l.stands).0 to z) g (second code table b same rises at L x c Ls base from to ks a d l))))

  back : (a d : Piece) (L : List Target) (x : Context) (c : Setting) (Ls : List (Option StackMap)) (base : StackMap) (from to : ℕ) (ks ms : StackMap)
      → behind b.links next a c base from (Some ks) ≡ Some ms → laid (P.seq a d) L x c Ls base from to (Some ks)
      → laid d L x c Ls base (end_of next a from) to (Some ms)
  back a d L x c Ls base from to ks ms e l =
      subst (λ m. laid d L x c Ls base m to (Some ms)) (sym (ends code table b same rises a L x from (l.stands).0 (l.stands).1))
      (subst (λ z. laid d L x c Ls base (l.stands).0 to z) e (second code table b same rises at L x c Ls base from to ks a d l))

  pub after : {a d : Piece} {c : Setting} {base : StackMap} {from : ℕ} {ks : StackMap} {o : Option J.Target} (ms : StackMap) → NoStart a
      → behind b.links next a c base from (Some ks) ≡ Some ms → Walks d c base (end_of next a from) ms o → Walks (P.seq a d) c base from ks o
  after {a} {d} {c} {base} {from} {ks} {o} ms h e w = record {
    walks = λ L x Ls to l. subst (λ p. Meets o (or_else p (first_start next line d (end_of next a from)))) (sym (none_starts next line a h from))
        (w.walks L x Ls to (back a d L x c Ls base from to ks ms e l));
  }

  pub before : {a d : Piece} {c : Setting} {base : StackMap} {from : ℕ} {ks : StackMap} {o : Option J.Target} → Walks a c base from ks o → NoStart d
      → Walks (P.seq a d) c base from ks o
  before {a} {d} {c} {base} {from} {ks} {o} w h = record {
    walks = λ L x Ls to l. subst (Meets o) (sym (ap (or_else (first_start next line a from)) (none_starts next line d h (end_of next a from)) ∙ or_none (first_start next line a from)))
        (w.walks L x Ls (end_of next a from) (front a d L x c Ls base from to ks l));
  }

  pub beside : {a d : Piece} {c : Setting} {base : StackMap} {from : ℕ} {ks : StackMap} {o u : Option J.Target} (ms : StackMap)
      → behind b.links next a c base from (Some ks) ≡ Some ms → Walks a c base from ks o → Walks d c base (end_of next a from) ms u → Walks (P.seq a d) c base from ks (or_else o u)
  beside {a} {d} {c} {base} {from} {ks} {o} {u} ms e v w = record {
    walks = λ L x Ls to l. or_meets o u _ _ (v.walks L x Ls (end_of next a from) (front a d L x c Ls base from to ks l))
        (w.walks L x Ls to (back a d L x c Ls base from to ks ms e l));
  }

  pub closed : {q : Piece} {c : Setting} {base : StackMap} {from : ℕ} {ks : StackMap} {o : Option J.Target} → Walks q (with_none c) base from ks o
      → Walks (P.closed q) c base from ks o
  closed {q} {c} {base} {from} {ks} w = record { walks = λ L x Ls to l. w.walks [] x [] to (in_closed code table b same rises at L x c Ls base from to ks q l) }

  pub blocked : {q : Piece} {c : Setting} {base : StackMap} {from : ℕ} {ks : StackMap} {o : Option J.Target} → Walks q (with_label (end_of next q from) c) base from ks o
      → Walks (P.block q) c base from ks o
  blocked {q} {c} {base} {from} {ks} w = record {
    walks = λ L x Ls to l. w.walks (target to x.depth ∷ L) x (behind b.links next (P.block q) c base from (Some ks) ∷ Ls) to
        (in_block code table b same rises at L x c Ls base from to ks q l);
  }

  pub headed : {q : Piece} {c : Setting} {base : StackMap} {from : ℕ} {ks : StackMap} {o : Option J.Target} → Walks q (with_label from c) base from ks o
      → Walks (P.headed q) c base from ks o
  headed {q} {c} {base} {from} {ks} w = record {
    walks = λ L x Ls to l. w.walks (target from x.depth ∷ L) x (Some ks ∷ Ls) to (in_head code table b same rises at L x c Ls base from to ks q l);
  }

  pub counted : {n : ℕ} {q : Piece} {c : Setting} {base : StackMap} {from : ℕ} {ks : StackMap} {o : Option J.Target} → Walks q c base from ks o
      → Walks (P.numbered n q) c base from ks o
  counted {n} {q} {c} {base} {from} {ks} w = record { walks = λ L x Ls to l. w.walks L x Ls to (in_count code table b same rises at L x c Ls base from to ks n q l) }

  pub deeper : {q : Piece} {c : Setting} {base : StackMap} {from : ℕ} {o : Option J.Target} (above : StackMap) (k : Known) → Walks q c (k ∷ base) from (above ++ k ∷ base) o
      → Walks (P.deeper 1 q) c base from (above ++ k ∷ base) o
  deeper {q} {c} {base} {from} above k w = record {
    walks = λ L x Ls to l. w.walks L (over 1 x) Ls to (subst (λ z. laid q L (over 1 x) c Ls z from to (Some (above ++ k ∷ base))) (deepened_is above k base)
        (deep code table b same rises at L x c Ls base from to (above ++ k ∷ base) 1 q l));
  }

  pub looped : {q : Piece} {c : Setting} {base : StackMap} {from : ℕ} {ks : StackMap} {o : Option J.Target} (k : ℕ)
      → Walks q (with_loop k (end_of next q from) (length base) c) base from ks o → Walks (P.looped k q) c base from ks o
  looped {q} {c} {base} {from} {ks} k w = record {
    walks = λ L x Ls to l. w.walks [] (in_loop (pick start_of L k) to x) [] to (in_a_loop code table b same rises at L x c Ls base from to ks k q l);
  }

  pub ensured : {q : Piece} {c : Setting} {base : StackMap} {from : ℕ} {ks : StackMap} {o : Option J.Target} → Walks q (with_none c) base from ks o
      → Walks (P.ensured q) c base from ks o
  ensured {q} {c} {base} {from} {ks} w = record {
    walks = λ L x Ls to l. w.walks [] (under (row_of from to to x.depth true) x) [] ((l.stands).1).0 (under_row code table b same rises at L x c Ls base from to ks q l);
  }

  -- what is caught, and what is skipped

  tried : (q r : Piece) (L : List Target) (x : Context) (c : Setting) (Ls : List (Option StackMap)) (base : StackMap) (from to : ℕ) (ks : StackMap)
      (l : laid (P.caught q r) L x c Ls base from to (Some ks)) → laid q [] (under (row_of from (l.stands).0 to x.depth false) x) (with_none c) [] base from (l.stands).0 (Some ks)
  tried q r L x c Ls base from to ks l =
      under_except code table b same rises at L x c Ls base from to ks q r l (λ ls g. begins code table b same rises at r L x c Ls base (l.stands).0 to ls
      (subst (λ s. laid r L x c Ls base (l.stands).0 to s) g (behind_row code table b same rises at L x c Ls base from to ks q r l)))

  pub caught_alone : {q r : Piece} {c : Setting} {base : StackMap} {from : ℕ} {ks : StackMap} {o : Option J.Target} → Walks q (with_none c) base from ks o → NoStart r
      → Walks (P.caught q r) c base from ks o
  caught_alone {q} {r} {c} {base} {from} {ks} {o} w h = record {
    walks = λ L x Ls to l. subst (Meets o) (sym (ap (or_else (first_start next line q from)) (none_starts next line r h (end_of next q from)) ∙ or_none (first_start next line q from)))
        (w.walks [] (under (row_of from (l.stands).0 to x.depth false) x) [] (l.stands).0 (tried q r L x c Ls base from to ks l));
  }

  pub caught : {q r : Piece} {c : Setting} {base : StackMap} {from : ℕ} {ks ms : StackMap} {o u : Option J.Target}
      → behind b.links next q (with_none c) base from (Some ks) ≡ Some ms → Walks q (with_none c) base from ks o → Walks r c base (end_of next q from) ms u
      → Walks (P.caught q r) c base from ks (or_else o u)
  caught {q} {r} {c} {base} {from} {ks} {ms} {o} {u} e v w = record {
    walks = λ L x Ls to l. or_meets o u _ _
        (v.walks [] (under (row_of from (l.stands).0 to x.depth false) x) [] (l.stands).0 (tried q r L x c Ls base from to ks l))
        (w.walks L x Ls to (subst (λ m. laid r L x c Ls base m to (Some ms))
        (sym (ends code table b same rises q [] (under (row_of from (l.stands).0 to x.depth false) x) from (l.stands).0 (l.stands).1))
        (subst (λ s. laid r L x c Ls base (l.stands).0 to s) e (behind_row code table b same rises at L x c Ls base from to ks q r l))));
  }

  -- a statement
  pub started : {q : Piece} {c : Setting} {base : StackMap} {from : ℕ} {ks : StackMap} (t : J.Target) (ts : List J.Target) → AreOf slots (parts t.within) ks
      → Walks q c base from ks (on_line line ts) → Walks (P.started t.line q) c base from ks (on_line line (t ∷ ts))
  started {q} {c} {base} {from} {ks} t ts a w = record { walks = λ L x Ls to l. by (nat_eq t.line line) L x Ls to l }
    where
      by : (s : Bool) (L : List Target) (x : Context) (Ls : List (Option StackMap)) (to : ℕ) → laid (P.started t.line q) L x c Ls base from to (Some ks)
          → Meets (if s then Some t else on_line line ts) (if s then Some from else first_start next line q from)
      by true L x Ls to l = both t from (record {
        listed = (l.stands).0;
        slots_there = ks;
        there = begins code table b same rises at (P.started t.line q) L x c Ls base from to ks l;
        are = a;
      })
      by false L x Ls to l = w.walks L x Ls to (at_start code table b same rises at L x c Ls base from to ks t.line q l)

  module _ {A : Type 0} (around : Around A) (cells : TakesCells around) (captures : (n : ℕ) → b.links.captures n ≡ length (around.captured n)) where
    abbrev first_on : List J.Target → Option J.Target
    first_on ts = on_line line ts

    abbrev outs : Piece → Type 0
    outs q = Outs around b.links next cells captures q

    -- what is behind single instructions

    behind_const : (p : ℕ) (x : Option Loop) (ks : StackMap) → behind_op b.links (P.const constant.None) p x (Some ks) ≡ Some (value ∷ ks)
    unfolding effect_of
    behind_const p x ks = refl

    behind_nop : (p : ℕ) (x : Option Loop) (ks : StackMap) → behind_op b.links (P.plain instr.Nop) p x (Some ks) ≡ Some ks
    unfolding effect_of
    behind_nop p x ks = refl

    behind_pop : (p : ℕ) (x : Option Loop) (ks : StackMap) → behind_op b.links (P.plain instr.Pop) p x (Some (value ∷ ks)) ≡ Some ks
    unfolding effect_of
    behind_pop p x ks = refl

    behind_test : (p : ℕ) (x : Option Loop) (ks : StackMap) → behind_op b.links (P.to IfFalse 0) p x (Some (value ∷ ks)) ≡ Some ks
    unfolding effect_of
    behind_test p x ks = refl

    behind_iter : (p : ℕ) (x : Option Loop) (ks : StackMap) → behind_op b.links (P.plain instr.Iter) p x (Some (value ∷ ks)) ≡ Some (iterator p ∷ ks)
    unfolding effect_of
    behind_iter p x ks = refl

    behind_next : (l i p : ℕ) (x : Option Loop) (ks : StackMap) → behind_op b.links (P.to AtEnd l) p x (Some (iterator i ∷ ks)) ≡ Some (value ∷ iterator i ∷ ks)
    unfolding effect_of
    behind_next l i p x ks = refl

    behind_enter : (p : ℕ) (x : Option Loop) (ks : StackMap) → behind_op b.links (P.plain instr.Enter) p x (Some (value ∷ ks)) ≡ Some (value ∷ exit p ∷ ks)
    unfolding effect_of
    behind_enter p x ks = refl

    behind_match : (e p : ℕ) (x : Option Loop) (ks : StackMap) → behind_op b.links (P.plain instr.Match) p x (Some (value ∷ exception e ∷ ks)) ≡ Some (value ∷ exception e ∷ ks)
    unfolding effect_of
    behind_match e p x ks = refl

    behind_caught : (e p : ℕ) (x : Option Loop) (ks : StackMap) → behind_op b.links (P.plain instr.Caught) p x (Some (exception e ∷ ks)) ≡ Some (value ∷ exception p ∷ ks)
    unfolding effect_of
    behind_caught e p x ks = refl

    behind_val : (e : Exp) (n : ℕ) → Value_named around e n → (c : Setting) (base : StackMap) (from : ℕ)
        → behind b.links next (value_piece around e n) c base from (Some base) ≡ Some (value ∷ base)
    behind_val e n h c base from = (val around b.links next cells captures e n h base {c = c} {Ls = []} {base = base} {from = from} (over_itself base)).behind

    value_still : (e : Exp) (n : ℕ) → NoStart (value_piece around e n)
    value_still e n = plain_still (value_piece around e n) (val_plain around e n)

    after_value : {d : Piece} {c : Setting} {base : StackMap} {from : ℕ} {o : Option J.Target} (e : Exp) (n : ℕ) → Value_named around e n
        → Walks d c base (end_of next (value_piece around e n) from) (value ∷ base) o → Walks (P.seq (value_piece around e n) d) c base from base o
    after_value {d} {c} {base} {from} e n h w = after (value ∷ base) (value_still e n) (behind_val e n h c base from) w

    after_target : {d : Piece} {c : Setting} {base : StackMap} {from : ℕ} {o : Option J.Target} (t : Tgt) (n : ℕ) → Target_named around t n [] → (ks : StackMap) → Over base ks
        → Walks d c base (end_of next (P.closed (target_piece around t n [])) from) ks o → Walks (P.seq (P.closed (target_piece around t n [])) d) c base from (value ∷ ks) o
    after_target {d} {c} {base} {from} t n h ks over_base w =
        after ks (plain_still (P.closed (target_piece around t n [])) (plain.target around t n []))
        (to_target around b.links next cells captures t n h ks {c = c} {Ls = []} {base = base} {from = from} over_base).behind w

    after_class : {d : Piece} {c : Setting} {base : StackMap} {from : ℕ} {o : Option J.Target} (class : Piece) → NoStart class → GivesClass around b.links next cells captures class
        → (ks : StackMap) → Over base ks → Walks d c base (end_of next class from) (value ∷ ks) o → Walks (P.seq class d) c base from ks o
    after_class {d} {c} {base} {from} class h k ks over_base w = after (value ∷ ks) h (k ks c [] base from over_base).behind w

    -- a statement in whose code no other stands
    one_alone : (st : Stm) (n : ℕ) (w : Behind) → HoldsNone st → {c : Setting} {base : StackMap} {from : ℕ} {ks : StackMap}
        → Walks (begun_piece st w (stm_piece around st n w)) c base from ks None
    one_alone st n w h = still (begun around (λ l. ⊥) st w (stm_piece around st n w) (alone around (λ l. ⊥) st n w h))

    -- from the slots of the parts around, where the slots of the parts within are told
    abbrev Standing : (q : Piece) → (told : (depth from : ℕ) → List PartSlot) → Shape → Option J.Target → Type 0
    Standing q f s o = (c : Setting) (base : StackMap) (from : ℕ) → AreOf slots (parts s) base → Told slots (f (length base) from) → Walks q c base from base o

    -- 8.1

    branch_stands : (l n : ℕ) (x : Exp) (body : Stms) (others : Piece) (s : Shape) (o : Option J.Target) → Value_named around x n
        → outs (all_piece around body (tested_body n x) free)
        → Standing (all_piece around body (tested_body n x) free) (slots_of_all around next body (tested_body n x) free) s (first_on (starts body (tested_body n x) s))
        → (c : Setting) (base : StackMap) (from : ℕ) → AreOf slots (parts s) base
        → Told slots (slots_of_all around next body (tested_body n x) free (length base) (next (end_of next (value_piece around x n) from)))
        → Walks others c base (end_of next (P.block (branch_of around b.links next cells captures l n x (all_piece around body (tested_body n x) free))) from) base o
        → Walks (P.seq (P.block (branch_of around b.links next cells captures l n x (all_piece around body (tested_body n x) free))) others) c base from base
        (or_else (first_on (starts body (tested_body n x) s)) o)
    branch_stands l n x body others s o h out g c base from a t k =
        let r : Branch around b.links next cells captures l n x (all_piece around body (tested_body n x) free) c base from =
        branch around b.links next cells captures l n x (all_piece around body (tested_body n x) free) h out c base from in
        beside base r.on
        (blocked (after_value x n h (after base tt (behind_test _ c.loop base)
        (before (closed (g _ base _ a t)) tt)))) k

    -- 8.2, 8.3

    while_stands : (l n : ℕ) (e : Exp) (body els : Stms) (w : Behind) (s : Shape) → Value_named around e n
        → outs (all_piece around body (tested_body n e) (needed_if (some_exits Continue body)))
        → Standing (all_piece around body (tested_body n e) (needed_if (some_exits Continue body)))
        (slots_of_all around next body (tested_body n e) (needed_if (some_exits Continue body))) (looping l n e body els ∷ s)
        (first_on (starts body (tested_body n e) (looping l n e body els ∷ s)))
        → Standing (all_piece around els (behind_body n e body) (behind_loop (some_exits Break body) w))
        (slots_of_all around next els (behind_body n e body) (behind_loop (some_exits Break body) w)) s (first_on (starts els (behind_body n e body) s))
        → Standing (stm_piece around (S.while l e body els) n w) (slots_in around next (S.while l e body els) n w) s (first_on (starts_in (S.while l e body els) n s))
    while_stands l n e body els w s h o f g c base from a t =
        told_as (first_on (starts_in (S.while l e body els) n s)) (on_both line (starts body (tested_body n e) (looping l n e body els ∷ s)) (starts els (behind_body n e body) s))
        (blocked (beside base (test.goes).behind
        (blocked (after_value e n h (after base tt (behind_test _ c.loop base)
        (headed (before (looped 2 (f _ base _ a (told_front slots _ _ t))) (plain_still (P.closed (exp_piece around e n true [])) (plain.exp around e n true []), tt))))))
        (counted (closed (g _ base _ a (told_back slots _ _ t))))))
      where
        q : Piece
        q = all_piece around body (tested_body n e) (needed_if (some_exits Continue body))

        inner : Setting
        inner = with_label (end_of next (P.seq (P.block (while_tested around b.links next cells captures l n e q))
            (P.numbered (behind_body n e body) (P.closed (all_piece around els (behind_body n e body) (behind_loop (some_exits Break body) w))))) from) c

        test : Tested around b.links next cells captures (P.block (while_tested around b.links next cells captures l n e q)) inner [] base from (Some base)
        test = while_test around b.links next cells captures l n e q h o inner [] base from

    for_stands : (l n : ℕ) (t : Tgt) (it : Exp) (body els : Stms) (w : Behind) (s : Shape) → Value_named around it n → Target_named around t (n + size it + 1 + 1) []
        → outs (all_piece around body (for_body (n + size it + 1) t) (needed_if (some_exits Continue body)))
        → Standing (all_piece around body (for_body (n + size it + 1) t) (needed_if (some_exits Continue body)))
        (slots_of_all around next body (for_body (n + size it + 1) t) (needed_if (some_exits Continue body))) (iterating l (n + size it + 1) tt t body els ∷ s)
        (first_on (starts body (for_body (n + size it + 1) t) (iterating l (n + size it + 1) tt t body els ∷ s)))
        → Standing (all_piece around els (for_else (n + size it + 1) t body) (behind_loop (some_exits Break body) w))
        (slots_of_all around next els (for_else (n + size it + 1) t body) (behind_loop (some_exits Break body) w)) s (first_on (starts els (for_else (n + size it + 1) t body) s))
        → Standing (stm_piece around (S.for l t it body els) n w) (slots_in around next (S.for l t it body els) n w) s (first_on (starts_in (S.for l t it body els) n s))
    for_stands l n t it body els w s h i o f g c base from a u =
        told_as (first_on (starts_in (S.for l t it body els) n s))
        (on_both line (starts body (for_body (n + size it + 1) t) (iterating l (n + size it + 1) tt t body els ∷ s)) (starts els (for_else (n + size it + 1) t body) s))
        (blocked (beside base (test.goes).behind
        (blocked (after_value it n h (after (slot ∷ base) tt (behind_iter taken c.loop base)
        (after (value ∷ slot ∷ base) tt (behind_next 0 taken (next taken) c.loop base)
        (headed (after_target t (n + size it + 1 + 1) i (slot ∷ base) (over_more slot (over_itself base))
        (before (deeper [] slot (looped 2 (f _ (slot ∷ base) _ (refl, (taken, refl, u.0), a) (told_front slots _ _ u.1)))) (tt, tt))))))))
        (counted (closed (g _ base _ a (told_back slots _ _ u.1))))))
      where
        q : Piece
        q = all_piece around body (for_body (n + size it + 1) t) (needed_if (some_exits Continue body))

        taken : ℕ
        taken = next (end_of next (value_piece around it n) from)

        slot : Known
        slot = iterator taken

        inner : Setting
        inner = with_label (end_of next (P.seq (P.block (for_tested around b.links next cells captures l n t it q))
            (P.numbered (for_else (n + size it + 1) t body) (P.closed (all_piece around els (for_else (n + size it + 1) t body) (behind_loop (some_exits Break body) w))))) from) c

        test : Tested around b.links next cells captures (P.block (for_tested around b.links next cells captures l n t it q)) inner [] base from (Some base)
        test = for_test around b.links next cells captures l n t it q h i o inner [] base from

    -- 8.5

    item_stands : (l : ℕ) (e : Exp) (t : Option Tgt) (r : Items) (body : ℕ → Piece) (k n : ℕ) (f : (depth from : ℕ) → List PartSlot) (s : Shape) (o : Option J.Target)
        → Value_named around e n → Taken_named around b.links next cells captures t (n + size e + 1)
        → Standing (items_piece around r body k (behind_taken around t (n + size e + 1))) f (withing l (behind_taken around t (n + size e + 1) + items_size r k) tt ∷ s) o → (c : Setting) (base : StackMap) (from : ℕ) → AreOf slots (parts s) base
        → slots (with_part (behind_taken around t (n + size e + 1) + items_size r k)) ≡ Some (part_slot (with_part (behind_taken around t (n + size e + 1) + items_size r k)) (length base) (next (end_of next (value_piece around e n) from)))
        → Told slots (f (suc (length base)) (end_of next (taken_piece around t (n + size e + 1)) (next (end_of next (value_piece around e n) from))))
        → Walks (items_piece around (S.with_item l e t r) body k n) c base from base o
    item_stands l e t r body k n f s o h i g c base from a u v =
        after_value e n h
        (after (value ∷ slot ∷ base) tt (behind_enter start c.loop base)
        (before (deeper (value ∷ []) slot (ensured (after (slot ∷ base) (plain_still (taken_piece around t (n + size e + 1)) (taken_plain around t (n + size e + 1)))
        (taken_so around b.links next cells captures t (n + size e + 1) i (slot ∷ base) {c = with_none c} {Ls = []} {base = slot ∷ base} {from = start} (over_itself (slot ∷ base))).behind
        (g (with_none c) (slot ∷ base) _ (refl, (start, refl, u), a) v)))) (tt, tt)))
      where
        start : ℕ
        start = next (end_of next (value_piece around e n) from)

        slot : Known
        slot = exit start

    items_stand : (is : Items) (body : Stms) → ((m : ℕ) → All_named around body m → (s : Shape) → All_else_apart body m s
        → Standing (all_piece around body m free) (slots_of_all around next body m free) s (first_on (starts body m s)))
        → (n : ℕ) (s : Shape) → Items_named around is (λ m. All_named around body m) n → All_else_apart body (body_at is n) (within_items is (stms_size body) n s)
        → Standing (items_piece around is (λ m. all_piece around body m free) (stms_size body) n)
        (λ d p. slots_of_items around next is (λ m. all_piece around body m free) (stms_size body) n d p (slots_of_all around next body (body_at is n) free)) s
        (first_on (starts body (body_at is n) (within_items is (stms_size body) n s)))
    items_stand S.no_items body f n s h e c base from a t = closed (f n h s e (with_none c) base from a t)
    items_stand (S.with_item l x None r) body f n s (h, i) e c base from a t =
        item_stands l x None r (λ m. all_piece around body m free) (stms_size body) n
        (λ d p. slots_of_items around next r (λ m. all_piece around body m free) (stms_size body) (n + size x + 1) d p (slots_of_all around next body (body_at r (n + size x + 1)) free)) s
        (first_on (starts body (body_at r (n + size x + 1)) (within_items r (stms_size body) (n + size x + 1) (withing l (n + size x + 1 + items_size r (stms_size body)) tt ∷ s)))) h tt
        (items_stand r body f (n + size x + 1) (withing l (n + size x + 1 + items_size r (stms_size body)) tt ∷ s) i e) c base from a t.0 t.1.1
    items_stand (S.with_item l x (Some y) r) body f n s (h, j, i) e c base from a t =
        item_stands l x (Some y) r (λ m. all_piece around body m free) (stms_size body) n
        (λ d p. slots_of_items around next r (λ m. all_piece around body m free) (stms_size body) (n + size x + 1 + target_size y) d p
        (slots_of_all around next body (body_at r (n + size x + 1 + target_size y)) free)) s
        (first_on (starts body (body_at r (n + size x + 1 + target_size y))
        (within_items r (stms_size body) (n + size x + 1 + target_size y) (withing l (n + size x + 1 + target_size y + items_size r (stms_size body)) tt ∷ s)))) h j
        (items_stand r body f (n + size x + 1 + target_size y) (withing l (n + size x + 1 + target_size y + items_size r (stms_size body)) tt ∷ s) i e) c base from a t.0 t.1.1

    -- 8.4: handlers, from the slot of their tests

    abbrev Handlers_stand : (q : Piece) → (told : (depth from : ℕ) → List PartSlot) → Shape → Option J.Target → Type 0
    Handlers_stand q f s o = (c : Setting) (base : StackMap) (from e : ℕ) → AreOf slots (parts s) base → Told slots (f (length base) from) → Walks q c base from (exception e ∷ base) o

    handled_stands : (l n : ℕ) (y : Option Name) (body : Stms) (s : Shape)
        → ((m : ℕ) → m ≡ handler_body n y → Standing (all_piece around body m free) (slots_of_all around next body m free) (with_name y (handling n tt ∷ s))
        (first_on (starts body m (with_name y (handling n tt ∷ s)))))
        → (c : Setting) (base : StackMap) (from e : ℕ) → AreOf slots (parts s) base → slots (handler_part n) ≡ Some (part_slot (handler_part n) (length base) (next from))
        → Told slots (slots_of_all around next body (handler_body n y) free (suc (length base)) (next (next from)))
        → Walks (handled_piece around l n y (λ m. all_piece around body m free)) c base from (exception e ∷ base)
        (first_on (starts body (handler_body n y) (with_name y (handling n tt ∷ s))))
    handled_stands l n None body s f c base from e a u t =
        after (value ∷ slot ∷ base) tt (behind_caught e (next from) c.loop base) (after (slot ∷ base) tt (behind_pop (next (next from)) c.loop (slot ∷ base))
        (before (deeper [] slot (closed (f (n + 1) refl (with_none c) (slot ∷ base) (next (next from)) (refl, (next from, refl, u), a) t))) (tt, tt)))
      where
        slot : Known
        slot = exception (next from)
    handled_stands l n (Some y) body s f c base from e a u t =
        after (value ∷ slot ∷ base) tt (behind_caught e (next from) c.loop base) (after (slot ∷ base) (plain_still (store_piece around y (n + 1) l) (store_plain around y (n + 1) l))
        (stored around b.links next cells captures y (n + 1) l (slot ∷ base) {c = c} {Ls = []} {base = base} {from = next from} (over_more slot (over_itself base))).behind
        (before (deeper [] slot (ensured (f (n + 1 + 1) refl (with_none c) (slot ∷ base) (next (next from)) (refl, (next from, refl, u), a) t))) (tt, (tt, (tt, (tt, (tt, tt)))))))
      where
        slot : Known
        slot = exception (next from)

    no_handler : (s : Shape) → Handlers_stand (P.move (P.plain instr.Rethrow)) (λ d p. []) s None
    no_handler s c base from e a t = still tt

    -- a handler, whose test follows what gives the class
    handler_stands : (class : Piece) (l n : ℕ) (y : Option Name) (body : Stms) (others : Piece) (f : (depth from : ℕ) → List PartSlot) (s : Shape) (o : Option J.Target) → NoStart class
        → GivesClass around b.links next cells captures class → ((m : ℕ) → m ≡ handler_body n y → outs (all_piece around body m free))
        → ((m : ℕ) → m ≡ handler_body n y → Standing (all_piece around body m free) (slots_of_all around next body m free) (with_name y (handling n tt ∷ s))
        (first_on (starts body m (with_name y (handling n tt ∷ s)))))
        → Handlers_stand others f s o → (c : Setting) (base : StackMap) (from e : ℕ) → AreOf slots (parts s) base
        → slots (handler_part n) ≡ Some (part_slot (handler_part n) (length base) (next (next (next (end_of next class from)))))
        → Told slots (slots_of_all around next body (handler_body n y) free (suc (length base)) (next (next (next (next (end_of next class from))))))
        → Told slots (f (length base) (end_of next (handled_piece around l n y (λ m. all_piece around body m free)) (next (next (end_of next class from)))))
        → Walks (P.seq (P.block (handler_of around b.links next cells captures class l n y (λ m. all_piece around body m free))) others) c base from (exception e ∷ base)
        (or_else (first_on (starts body (handler_body n y) (with_name y (handling n tt ∷ s)))) o)
    handler_stands class l n y body others f s o h k out g j c base from e a u t v =
        let r : Handler' around b.links next cells captures class l n y (λ m. all_piece around body m free) c base from e =
        handler around b.links next cells captures class l n y (λ m. all_piece around body m free) k out c base from e in
        beside (exception e ∷ base) r.on
        (blocked (after_class class h k (exception e ∷ base) (over_more (exception e) (over_itself base))
        (after (value ∷ exception e ∷ base) tt (behind_match e _ c.loop base) (after (exception e ∷ base) tt (behind_test _ c.loop (exception e ∷ base))
        (handled_stands l n y body s g _ base _ e a u t)))))
        (j c base _ e a v)

    -- the body of a `try`, its `else` part, which stands behind it, and its handlers

    guarded_stands : (hs : Handlers) (body : Piece) (els : Stms) (handlers : Piece) (k j n m : ℕ) (w : Behind) (f g : (depth from : ℕ) → List PartSlot) (r s : Shape) (o : Option J.Target)
        → is_empty body ≡ false → Standing body f s o → (is_needed (in_front els w) ≡ true → Ons around b.links next cells captures body)
        → Standing (all_piece around els n w) (slots_of_all around next els n w) s (first_on (starts els n r)) → Handlers_stand handlers g s (first_on (handler_starts hs m r))
        → Share_no_line (handler_starts hs m r) (starts els n r) → (c : Setting) (base : StackMap) (from : ℕ) → AreOf slots (parts s) base
        → Told slots (f (length base) from) → Told slots (slots_of_all around next els n w (length base) (end_of next body from))
        → Told slots (g (length base) (next (end_of next (all_piece around els n w) (end_of next body from))))
        → Walks (guarded_piece hs (P.closed body) (P.numbered k (P.closed (all_piece around els n w))) (P.numbered j handlers)) c base from base
        (or_else o (or_else (first_on (handler_starts hs m r)) (first_on (starts els n r))))
    guarded_stands S.no_handlers body none handlers k j n m w f g r s o e h i p q d c base from a t v y = told_as _ (or_none o) (before (closed (h (with_none c) base from a t)) tt)
    guarded_stands S.no_handlers body (more st ss) handlers k j n m w f g r s o e h i p q d c base from a t v y =
        beside base (i refl (with_none c) base from) (closed (h (with_none c) base from a t)) (counted (closed (p (with_none c) base _ a v)))
    guarded_stands (S.handler l x z hb hr) body els handlers k j n m w f g r s o e h i p q d c base from a t v y =
        told_as _ (commuted o (first_on (handler_starts (S.handler l x z hb hr) m r)) (first_on (starts els n r)) (d line))
        (blocked (beside (exception tests ∷ base) (ap (λ z. if z then None else Some (exception tests ∷ base)) e) (by els i p v) (counted (q inner base tests tests a y))))
      where
        tests : ℕ
        tests = next (end_of next (all_piece around els n w) (end_of next body from))

        inner : Setting
        inner = with_label (end_of next (P.seq (P.caught (P.closed body) (P.seq (P.numbered k (P.closed (all_piece around els n w))) (P.move (P.to Jumps 0)))) (P.numbered j handlers)) from) c

        by : (els : Stms) → (is_needed (in_front els w) ≡ true → Ons around b.links next cells captures body)
            → Standing (all_piece around els n w) (slots_of_all around next els n w) s (first_on (starts els n r))
            → Told slots (slots_of_all around next els n w (length base) (end_of next body from))
            → Walks (P.caught (P.closed body) (P.seq (P.numbered k (P.closed (all_piece around els n w))) (P.move (P.to Jumps 0)))) inner base from base (or_else o (first_on (starts els n r)))
        by none i p v = told_as _ (or_none o) (caught_alone (closed (h _ base from a t)) (tt, tt))
        by (more st ss) i p v = caught (i refl _ base from) (closed (h _ base from a t)) (before (counted (closed (p _ base _ a v))) tt)

    -- under the row of a `finally` part, if there is one, and that part
    ensured_stands : (fin : Stms) (tried : Piece) (k n m : ℕ) (v : Behind) (s : Shape) (o : Option J.Target) (c : Setting) (base : StackMap) (from : ℕ)
        → ((c : Setting) → Walks tried c base from base o)
        → Standing (all_piece around fin m v) (slots_of_all around next fin m v) (ending n normal ∷ s) (first_on (starts fin m (ending n normal ∷ s))) → AreOf slots (parts s) base
        → Told slots (finally_slot fin n (length base) (next (end_of next tried from)))
        → Told slots (slots_of_all around next fin m v (suc (length base)) (next (end_of next tried from)))
        → Walks (ensured_piece fin tried (P.numbered k (P.closed (all_piece around fin m v)))) c base from base (or_else o (first_on (starts fin m (ending n normal ∷ s))))
    ensured_stands none tried k n m v s o c base from f g a t u = told_as _ (or_none o) (before (f c) tt)
    ensured_stands (more st ss) tried k n m v s o c base from f g a t u =
        beside (held ∷ base) refl (ensured (f (with_none c)))
        (before (deeper [] held (counted (closed (g (with_none c) (held ∷ base) begins (refl, (begins, refl, t.0), a) u)))) tt)
      where
        begins : ℕ
        begins = next (end_of next tried from)

        held : Known
        held = pending begins c.loop

    try_stands : (l n : ℕ) (st : Stm) (ss : Stms) (hs : Handlers) (els fin : Stms) (w : Behind) (s : Shape) → Stm_named around (S.try l (more st ss) hs els fin) n
        → Grammatical (S.try l (more st ss) hs els fin)
        → Share_no_line (handler_starts hs (try_handlers n (more st ss)) (ensuring n (try_finally n (more st ss) hs els) fin ∷ s))
        (starts els (try_else n (more st ss) hs) (ensuring n (try_finally n (more st ss) hs els) fin ∷ s))
        → Standing (all_piece around (more st ss) (n + 1) (in_front els (behind_tried hs fin w))) (slots_of_all around next (more st ss) (n + 1) (in_front els (behind_tried hs fin w))) s
        (first_on (starts (more st ss) (n + 1) (guarded (try_handlers n (more st ss)) hs els ∷ ensuring n (try_finally n (more st ss) hs els) fin ∷ s)))
        → Handlers_stand (handlers_piece around hs (try_handlers n (more st ss))) (slots_of_handlers around next hs (try_handlers n (more st ss))) s
        (first_on (handler_starts hs (try_handlers n (more st ss)) (ensuring n (try_finally n (more st ss) hs els) fin ∷ s)))
        → Standing (all_piece around els (try_else n (more st ss) hs) (behind_tried hs fin w)) (slots_of_all around next els (try_else n (more st ss) hs) (behind_tried hs fin w)) s
        (first_on (starts els (try_else n (more st ss) hs) (ensuring n (try_finally n (more st ss) hs els) fin ∷ s)))
        → Standing (all_piece around fin (try_finally n (more st ss) hs els) (needed_if (is_needed w)))
        (slots_of_all around next fin (try_finally n (more st ss) hs els) (needed_if (is_needed w))) (ending n normal ∷ s)
        (first_on (starts fin (try_finally n (more st ss) hs els) (ending n normal ∷ s)))
        → Standing (stm_piece around (S.try l (more st ss) hs els fin) n w) (slots_in around next (S.try l (more st ss) hs els fin) n w) s
        (first_on (starts_in (S.try l (more st ss) hs els fin) n s))
    try_stands l n st ss hs els fin w s h g d f i j k c base from a t =
        let t1 = told_back slots (finally_slot fin n (length base) last) (slots_body ++ (slots_tests ++ (slots_handlers ++ (slots_else ++ slots_last)))) t in
        let t2 = told_back slots slots_body (slots_tests ++ (slots_handlers ++ (slots_else ++ slots_last))) t1 in
        let t3 = told_back slots slots_tests (slots_handlers ++ (slots_else ++ slots_last)) t2 in
        let t4 = told_back slots slots_handlers (slots_else ++ slots_last) t3 in
        told_as (first_on (starts_in (S.try l body hs els fin) n s)) in_order (after base tt (behind_nop (next from) c.loop base)
        (ensured_stands fin whole (try_finally n body hs els) n (try_finally n body hs els) (needed_if (is_needed w)) s
        (or_else (first_on in_body) (or_else (first_on in_handlers) (first_on in_else))) c base (next from)
        (λ c. guarded_stands hs tried els (handlers_piece around hs (try_handlers n body)) (try_else n body hs) (try_handlers n body) (try_else n body hs) (try_handlers n body)
        (behind_tried hs fin w) (slots_of_all around next body (n + 1) (in_front els (behind_tried hs fin w))) (slots_of_handlers around next hs (try_handlers n body)) r s (first_on in_body)
        (body_some around b.links next cells captures st ss (n + 1) (in_front els (behind_tried hs fin w)) g.0 h.0) f on j i d c base (next from) a
        (told_front slots slots_body (slots_tests ++ (slots_handlers ++ (slots_else ++ slots_last))) t1) (told_front slots slots_else slots_last t4)
        (told_front slots slots_handlers (slots_else ++ slots_last) t3)) k a
        (told_front slots (finally_slot fin n (length base) last) (slots_body ++ (slots_tests ++ (slots_handlers ++ (slots_else ++ slots_last)))) t) (told_back slots slots_else slots_last t4)))
      where
        body : Stms
        body = more st ss

        r : Shape
        r = ensuring n (try_finally n body hs els) fin ∷ s

        tried : Piece
        tried = all_piece around body (n + 1) (in_front els (behind_tried hs fin w))

        other : Piece
        other = all_piece around els (try_else n body hs) (behind_tried hs fin w)

        whole : Piece
        whole = guarded_piece hs (P.closed tried) (P.numbered (try_else n body hs) (P.closed other)) (P.numbered (try_handlers n body) (handlers_piece around hs (try_handlers n body)))

        tests : ℕ
        tests = next (end_of next other (end_of next tried (next from)))

        last : ℕ
        last = next (end_of next whole (next from))

        slots_body : List PartSlot
        slots_body = slots_of_all around next body (n + 1) (in_front els (behind_tried hs fin w)) (length base) (next from)

        slots_tests : List PartSlot
        slots_tests = tests_slot hs (try_handlers n body) (length base) tests

        slots_handlers : List PartSlot
        slots_handlers = slots_of_handlers around next hs (try_handlers n body) (length base) tests

        slots_else : List PartSlot
        slots_else = slots_of_all around next els (try_else n body hs) (behind_tried hs fin w) (length base) (end_of next tried (next from))

        slots_last : List PartSlot
        slots_last = slots_of_all around next fin (try_finally n body hs els) (needed_if (is_needed w)) (suc (length base)) last

        on : is_needed (in_front els (behind_tried hs fin w)) ≡ true → Ons around b.links next cells captures tried
        on z = all_on around b.links next cells captures body (n + 1) (in_front els (behind_tried hs fin w)) h.0 (g.0, g.1) (must (in_front els (behind_tried hs fin w)) z (all_go_on body))

        in_body : List J.Target
        in_body = starts body (n + 1) (guarded (try_handlers n body) hs els ∷ r)

        in_handlers : List J.Target
        in_handlers = handler_starts hs (try_handlers n body) r

        in_else : List J.Target
        in_else = starts els (try_else n body hs) r

        in_finally : List J.Target
        in_finally = starts fin (try_finally n body hs els) (ending n normal ∷ s)

        in_order : first_on (in_body ++ (in_handlers ++ (in_else ++ in_finally))) ≡ or_else (or_else (first_on in_body) (or_else (first_on in_handlers) (first_on in_else))) (first_on in_finally)
        in_order =
            on_both line in_body (in_handlers ++ (in_else ++ in_finally)) ∙ (ap (or_else (first_on in_body)) (on_both line in_handlers (in_else ++ in_finally) ∙ ap (or_else (first_on in_handlers)) (on_both line in_else in_finally))
            ∙ regrouped (first_on in_body) (first_on in_handlers) (first_on in_else) (first_on in_finally))

    -- all statements

    three_on : (ts us vs : List J.Target) → first_on ((ts ++ us) ++ vs) ≡ or_else (first_on ts) (first_on (us ++ vs))
    three_on ts us vs =
        on_both line (ts ++ us) vs ∙ (ap (λ o. or_else o (first_on vs)) (on_both line ts us) ∙ (grouped (first_on ts) (first_on us) (first_on vs) ∙ ap (or_else (first_on ts)) (sym (on_both line us vs))))

    mutual
      stm_stands : (st : Stm) (n : ℕ) (w : Behind) (s : Shape) → Stm_named around st n → Grammatical st → Else_apart st n s
          → Standing (begun_piece st w (stm_piece around st n w)) (λ d p. slots_in around next st n w d (begun_at around next st p)) s (first_on (starts_in st n s))
      stm_stands (S.choice l S.no_branches els) n w s h g e = absurd g
      stm_stands (S.choice l (S.branch k x body r) els) n w s h g e = λ c base from a t.
          blocked (branches_stand (S.branch k x body r) els (behind_branches (some_branch_goes_on (S.branch k x body r)) w) n s h (g.0, g.1) e.0
          (λ m i d. all_stand els m (behind_branches (some_branch_goes_on (S.branch k x body r)) w) s i g.2 d) e.1 _ base from a (told_front slots _ _ t) (told_back slots _ _ t))
      stm_stands (S.while l x body els) n w s h g e =
          while_stands l n x body els w s h.0 (statements.all around b.links next cells captures body (tested_body n x) (needed_if (some_exits Continue body)) h.1)
          (all_stand body (tested_body n x) (needed_if (some_exits Continue body)) (looping l n x body els ∷ s) h.1 g.0 e.0)
          (all_stand els (behind_body n x body) (behind_loop (some_exits Break body) w) s h.2 g.1 e.1)
      stm_stands (S.for l t it body els) n w s h g e =
          for_stands l n t it body els w s h.0 h.1 (statements.all around b.links next cells captures body (for_body (n + size it + 1) t) (needed_if (some_exits Continue body)) h.2)
          (all_stand body (for_body (n + size it + 1) t) (needed_if (some_exits Continue body)) (iterating l (n + size it + 1) tt t body els ∷ s) h.2 g.0 e.0)
          (all_stand els (for_else (n + size it + 1) t body) (behind_loop (some_exits Break body) w) s h.3 g.1 e.1)
      stm_stands (S.try l none hs els fin) n w s h g e = absurd g
      stm_stands (S.try l (more st ss) hs els fin) n w s h g e =
          try_stands l n st ss hs els fin w s h g e.0 (all_stand (more st ss) (n + 1) (in_front els (behind_tried hs fin w)) _ h.0 (g.0, g.1) e.1)
          (handlers_stand hs (try_handlers n (more st ss)) _ h.1 g.2 e.2) (all_stand els (try_else n (more st ss) hs) (behind_tried hs fin w) _ h.2 g.3 e.3)
          (all_stand fin (try_finally n (more st ss) hs els) (needed_if (is_needed w)) (ending n normal ∷ s) h.3 g.4 e.4)
      stm_stands (S.with l S.no_items body) n w s h g e = absurd g
      stm_stands (S.with l (S.with_item k x t r) body) n w s h g e =
          items_stand (S.with_item k x t r) body (λ m i s d. all_stand body m free s i g d) n s h e
      stm_stands st n w s h g e = λ c base from a t. one_alone st n w tt

      pub all_stand : (ss : Stms) (n : ℕ) (w : Behind) (s : Shape) → All_named around ss n → All_grammatical ss → All_else_apart ss n s
          → Standing (all_piece around ss n w) (slots_of_all around next ss n w) s (first_on (starts ss n s))
      all_stand none n w s h g e = λ c base from a t. still tt
      all_stand (more st none) n w s h g e = λ c base from a t.
          told_as _ (on_both line (target_of st none n s ∷ starts_in st n (rest (n + stm_size st) none ∷ s)) [] ∙ or_none _)
          (before (started (target_of st none n s) (starts_in st n (rest (n + stm_size st) none ∷ s)) a
          (stm_stands st n w (rest (n + stm_size st) none ∷ s) h.0 g.0 e.0 c base from a (told_front slots _ _ t))) tt)
      all_stand (more st (more u us)) n w s h g e = λ c base from a t.
          told_as _ (on_both line (target_of st (more u us) n s ∷ starts_in st n (rest (n + stm_size st) (more u us) ∷ s)) (starts (more u us) (n + stm_size st) s))
          (beside base (stm_on around b.links next cells captures st n needed h.0 g.0 tt c base from)
          (started (target_of st (more u us) n s) (starts_in st n (rest (n + stm_size st) (more u us) ∷ s)) a
          (stm_stands st n needed (rest (n + stm_size st) (more u us) ∷ s) h.0 g.0 e.0 c base from a (told_front slots _ _ t)))
          (all_stand (more u us) (n + stm_size st) w s h.1 g.1 e.1 c base _ a (told_back slots _ _ t)))

      branches_stand : (bs : Branches) (els : Stms) (v : Behind) (n : ℕ) (s : Shape) → Branches_named around bs (λ m. All_named around els m) n → Branches_grammatical bs
          → Branches_else_apart bs n s
          → ((m : ℕ) → All_named around els m → All_else_apart els m s → Standing (all_piece around els m v) (slots_of_all around next els m v) s (first_on (starts els m s)))
          → All_else_apart els (J.behind_branches bs n) s → (c : Setting) (base : StackMap) (from : ℕ) → AreOf slots (parts s) base
          → Told slots (slots_of_branches around next bs n (length base) from)
          → Told slots (slots_of_all around next els (J.behind_branches bs n) v (length base) (behind_tests around next bs n from))
          → Walks (branches_piece around bs n (λ m. P.closed (all_piece around els m v))) c base from base (first_on (branch_starts bs n s ++ starts els (J.behind_branches bs n) s))
      branches_stand S.no_branches els v n s h g e f d c base from a t u = closed (f n h d (with_none c) base from a u)
      branches_stand (S.branch l x body r) els v n s h g e f d c base from a t u =
          told_as _ (three_on (starts body (tested_body n x) s) (branch_starts r (behind_body n x body) s) (starts els (J.behind_branches r (behind_body n x body)) s))
          (branch_stands l n x body (branches_piece around r (behind_body n x body) (λ m. P.closed (all_piece around els m v))) s
          (first_on (branch_starts r (behind_body n x body) s ++ starts els (J.behind_branches r (behind_body n x body)) s)) h.0
          (statements.all around b.links next cells captures body (tested_body n x) free h.1) (all_stand body (tested_body n x) free s h.1 g.0 e.0) c base from a (told_front slots _ _ t)
          (branches_stand r els v (behind_body n x body) s h.2 g.1 e.1 f d c base _ a (told_back slots _ _ t) u))

      handlers_stand : (hs : Handlers) (n : ℕ) (s : Shape) → Handlers_named around hs n → Handlers_grammatical hs → Handlers_else_apart hs n s
          → Handlers_stand (handlers_piece around hs n) (slots_of_handlers around next hs n) s (first_on (handler_starts hs n s))
      handlers_stand S.no_handlers n s h g e = λ c base from x a t. still tt
      handlers_stand (S.handler l S.absent y body r) n s h g e = λ c base from x a t.
          let same_number : n ≡ n + 0 = omega arith in
          let d : All_else_apart body (handler_body n y) (with_name y (handling n tt ∷ s)) × Handlers_else_apart r (handler_body n y + stms_size body) s =
          subst (λ k. All_else_apart body (handler_body k y) (with_name y (handling k tt ∷ s)) × Handlers_else_apart r (handler_body k y + stms_size body) s) (sym same_number) e in
          subst (λ k. Walks (handlers_piece around (S.handler l S.absent y body r) n) c base from (exception x ∷ base)
          (first_on (starts body (handler_body k y) (with_name y (handling k tt ∷ s)) ++ handler_starts r (handler_body k y + stms_size body) s))) same_number
          (told_as _ (on_both line (starts body (handler_body n y) (with_name y (handling n tt ∷ s))) (handler_starts r (handler_body n y + stms_size body) s))
          (handler_stands null_piece l n y body (handlers_piece around r (handler_body n y + stms_size body)) (slots_of_handlers around next r (handler_body n y + stms_size body)) s
          (first_on (handler_starts r (handler_body n y + stms_size body) s)) tt (λ F c Ls base from o. null around b.links next cells captures F o)
          (λ m z. statements.all around b.links next cells captures body m free (subst (λ k. All_named around body k) (sym z) h.0))
          (λ m z. all_stand body m free (with_name y (handling n tt ∷ s)) (subst (λ k. All_named around body k) (sym z) h.0) g.0
          (subst (λ k. All_else_apart body k (with_name y (handling n tt ∷ s))) (sym z) d.0))
          (handlers_stand r (handler_body n y + stms_size body) s h.1 g.1 d.1) c base from x a t.0 (told_front slots _ _ t.1) (told_back slots _ _ t.1)))
      handlers_stand (S.handler l (S.given q) y body r) n s h g e = λ c base from x a t.
          told_as _ (on_both line (starts body (handler_body (n + size q) y) (with_name y (handling (n + size q) tt ∷ s))) (handler_starts r (handler_body (n + size q) y + stms_size body) s))
          (handler_stands (value_piece around q n) l (n + size q) y body (handlers_piece around r (handler_body (n + size q) y + stms_size body))
          (slots_of_handlers around next r (handler_body (n + size q) y + stms_size body)) s (first_on (handler_starts r (handler_body (n + size q) y + stms_size body) s)) (value_still q n)
          (λ F c Ls base from o. val around b.links next cells captures q n h.0 F o)
          (λ m z. statements.all around b.links next cells captures body m free (subst (λ k. All_named around body k) (sym z) h.1))
          (λ m z. all_stand body m free (with_name y (handling (n + size q) tt ∷ s)) (subst (λ k. All_named around body k) (sym z) h.1) g.0
          (subst (λ k. All_else_apart body k (with_name y (handling (n + size q) tt ∷ s))) (sym z) e.0))
          (handlers_stand r (handler_body (n + size q) y + stms_size body) s h.2 g.1 e.1) c base from x a t.0 (told_front slots _ _ t.1) (told_back slots _ _ t.1))
