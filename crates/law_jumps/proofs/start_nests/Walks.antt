-- The first statement on a line, in the order of the tree, is the first that starts on it in code, and from its place code goes on as its nest does.
use Rattle.std.proofs.Common.{◌≡◌, ℕ, ◌+◌, Bool, true, false, ◌&&◌, if◌then◌else◌, nat_eq, List, [], ◌∷◌, ◌++◌, length, Contains, Option, Some, None, refl, sym, ap, ◌∙◌, subst, arith}
use Rattle.pt_tree.specs.Syntax as S
use Rattle.pt_tree.specs.Syntax.{Name, Exp, Tgt, Stm, Stms, Branches, Handlers, Items, none, more}
use Rattle.pt_tree.specs.Sizes.{size, target_size, items_size, stm_size, stms_size}
use Rattle.pt_instr.specs.declared.Instr.TheVariants as instr
use Rattle.pt_ranges.specs.declared.handlers.Handler.{Handler}
use Rattle.pt_code.specs.declared.Start.{Start}
use Rattle.sem_control.specs.control.Turn.{Around}
use Rattle.sem_control.specs.control.Frames as F
use Rattle.sem_control.specs.control.Frames.{Nest, normal, rest, looping, iterating, guarded, handling, ensuring, ending, withing}
use Rattle.sem_control.specs.control.Numbers.{tested_body, behind_body, for_body, for_else, try_handlers, try_else, try_finally, handler_body}
use Rattle.sem_control.specs.control.Jump as J
use Rattle.sem_control.specs.control.Jump.{parts, on_line, Shape, starts_on, with_name, body_at, within_items, starts_in, starts, branch_starts, handler_starts}
use Rattle.sem_code.specs.slots.Slots.{or_else, Slots}
use Rattle.sem_code.specs.slots.CodeObject.{CodeObject}
use Rattle.sem_code.specs.slots.Stretches.{act_mark}
use Rattle.pt_assembler.specs.declared.operation.Exit.TheVariants.{Break, Continue}
use Rattle.pt_assembler.specs.declared.operation.Jump.TheVariants.{AtEnd, Always as Jumps, IfTrue, IfFalse}
use Rattle.pt_assembler.specs.declared.operation.Target.{Target}
use Rattle.pt_assembler.specs.Piece as P
use Rattle.pt_assembler.specs.Piece.{Piece}
use Rattle.pt_assembler.specs.PieceAt.{Context, Piece_at, target, in_loop, under, over, row_of}
use Rattle.sem_compile.specs.emitter.ExpPiece.{null_piece, exp_piece, target_piece}
use Rattle.sem_compile.specs.emitter.Ops.{store}
use Rattle.sem_compile.specs.emitter.Laws.{Agrees}
use Rattle.sem_compile.proofs.emitter.Doing.{null_given}
use Rattle.sem_code.specs.comp.Surroundings as around_statement
use Rattle.sem_code.specs.comp.Surroundings.{Surroundings}
use Rattle.sem_code.specs.comp.Places.{All_at}
use Rattle.sem_code.specs.comp.Law as law
use Rattle.sem_code.specs.comp.Law.{Way_on}
use Rattle.sem_fits.specs.comp_jumps.Filled.{Filled}
use Rattle.law_code_runs.specs.code_run.Parts.{endings_of}
use Rattle.sem_fits.specs.fits.Block.{Block}
use Rattle.sem_compile.specs.stm_pieces.Needed.{some_exits, some_branch_goes_on, Behind, free, is_needed, needed_if, in_front, behind_branches, behind_loop, behind_tried}
use Rattle.sem_compile.specs.stm_pieces.StmPiece.{behind_taken, begun_piece, value_piece, guarded_piece, handled_piece, taken_piece, items_piece, stm_piece, all_piece, branches_piece, handlers_piece}
use Rattle.sem_compile.specs.stm_pieces.Names.{TakesCells, Stm_named, All_named, Branches_named, Handlers_named, Items_named}
use Rattle.sem_compile.specs.stm_pieces.Laws.{loop_of, KnowsTruths}
use Rattle.sem_compile.proofs.stm_pieces.Doing.{name_deleted}
use Rattle.sem_compile.proofs.stm_pieces.Targets as targets
use Rattle.law_pieces.specs.piece_kinds.Walk.{end_of, is_empty}
use Rattle.law_pieces.specs.piece_kinds.Table.{next_of, Rises}
use Rattle.law_pieces.proofs.piece_kinds.PieceLaw.{ends}
use Rattle.law_typed_pieces.proofs.typed_pieces.Plain as plain
use Rattle.law_typed_pieces.proofs.typed_pieces.Plain.{IsPlain}
use Rattle.law_typed_pieces.proofs.typed_pieces.LeadsForms.{val_plain, store_plain, taken_plain}
use Rattle.law_typed_pieces.proofs.typed_pieces.Statements.{HoldsNone}
use Rattle.law_typed_pieces.proofs.start_lines.Lines.{plain_lines}
use Rattle.law_typed_pieces.proofs.start_lines.Pieces.{alone, begun}
use Rattle.law_pieces.specs.first_starts.First.{first_start}
use Rattle.law_parts.specs.part_slots.Slots.{behind_tests, begun_at}
use Rattle.law_parts.specs.part_slots.Text.{Grammatical, All_grammatical, Branches_grammatical, Handlers_grammatical, Share_no_line, Else_apart, All_else_apart, Branches_else_apart, Handlers_else_apart}
use Rattle.law_parts.proofs.part_slots.On.{body_some}
use Rattle.law_parts.proofs.part_slots.Walks.{NoStart, on_both}
use Rattle.law_jumps.specs.start_nests.Loops.{PartLoop, loop_at, within_loop, loops_of_items, loops_in, loops_of_all, loops_of_branches, loops_of_handlers}
use Rattle.law_jumps.proofs.start_nests.Contexts.{in_context, reached, takes_all, takes_deeper, deeper_is, for_is}
use Rattle.law_jumps.proofs.start_nests.Fronts.{Front, front, begun_open}
use Rattle.law_jumps.proofs.start_nests.Handlers as code_of
use Rattle.law_jumps.proofs.start_nests.Nests as nests

or_none : {A : Type 0} (o : Option A) → or_else o None ≡ o
or_none (Some a) = refl
or_none None = refl

-- the statements of a `try` in the order of the tree, where the handlers and the `else` part have none on one line
commuted : {A : Type 0} (a h e : Option A) → ((t v : A) → h ≡ Some t → e ≡ Some v → ⊥) → or_else a (or_else h e) ≡ or_else (or_else a e) h
commuted (Some a) h e f = refl
commuted None None None f = refl
commuted None None (Some v) f = refl
commuted None (Some t) None f = refl
commuted None (Some t) (Some v) f = absurd (f t v refl refl)

grouped : {A : Type 0} (a h e : Option A) → or_else (or_else a h) e ≡ or_else a (or_else h e)
grouped (Some a) h e = refl
grouped None h e = refl

regrouped : {A : Type 0} (a h e f : Option A) → or_else a (or_else h (or_else e f)) ≡ or_else (or_else a (or_else h e)) f
regrouped (Some a) h e f = refl
regrouped None (Some h) e f = refl
regrouped None None e f = refl

and_false : (t : Bool) → (t && true) ≡ false → t ≡ false
and_false true e = e
and_false false e = refl

three : (P : ℕ → ℕ → ℕ → Type 0) {a b c d e f : ℕ} → a ≡ d → b ≡ e → c ≡ f → P a b c → P d e f
three P {a} {b} {c} {d} {e} {f} x y z h = subst (λ k. P k e f) x (subst (λ k. P a k f) y (subst (λ k. P a b k) z h))

module _ (next : ℕ → ℕ) (line : ℕ) where
  none_starts : (q : Piece) → NoStart q → (from : ℕ) → first_start next line q from ≡ None
  none_starts P.empty h p = refl
  none_starts (P.act op n l g) h p = refl
  none_starts (P.move op) h p = refl
  none_starts (P.seq a d) h p =
      ap (λ o. or_else o (first_start next line d (end_of next a p))) (none_starts a h.0 p) ∙ none_starts d h.1 (end_of next a p)
  none_starts (P.block q) h p = none_starts q h p
  none_starts (P.headed q) h p = none_starts q h p
  none_starts (P.closed q) h p = none_starts q h p
  none_starts (P.looped k q) h p = none_starts q h p
  none_starts (P.leave e n l) h p = refl
  none_starts (P.ensured q) h p = none_starts q h p
  none_starts (P.caught q r) h p =
      ap (λ o. or_else o (first_start next line r (end_of next q p))) (none_starts q h.0 p) ∙ none_starts r h.1 (end_of next q p)
  none_starts (P.deeper k q) h p = none_starts q h p
  none_starts (P.started l q) h p = absurd h.0
  none_starts (P.numbered n q) h p = none_starts q h p

abbrev target_of : Stm → Stms → (n : ℕ) → Shape → J.Target
target_of st ss n s = record { line = starts_on st; n = n; ss = more st ss; within = s }

plain_still : (q : Piece) → IsPlain q → NoStart q
plain_still q h = plain_lines (λ l. ⊥) q h

module _ {V : Type 0} (around : Around V) (code : CodeObject V) (table : List Start) (b : Block) (same : (pc : ℕ) → code.at pc ≡ b.at pc) (rises : Rises b)
    (agree : Agrees around code) (truths : KnowsTruths code) (cells : TakesCells around) (captures : (n : ℕ) → b.links.captures n ≡ length (around.captured n))
    (endings : ℕ → Surroundings) where
  abbrev next : ℕ → ℕ
  next = next_of b

  abbrev At : Piece → List Target → Context → ℕ → ℕ → Type 0
  At p L x from to = Piece_at code table p L x from to

  abbrev Goes : Shape → Context → ℕ → Type 0
  Goes sh x q = nests.Goes around code table endings sh x q

  end_is : (p : Piece) (L : List Target) (x : Context) (from to : ℕ) → At p L x from to → end_of next p from ≡ to
  end_is p L x from to h = ends code table b same rises p L x from to h

  -- the loop around each part is told
  abbrev pub Told : List PartLoop → Type 0
  Told [] = Unit {0}
  Told (s ∷ ss) = (endings s.tried ≡ within_loop s.loop) × Told ss

  told_front : (ss us : List PartLoop) → Told (ss ++ us) → Told ss
  told_front [] us h = tt
  told_front (s ∷ ss) us h = (h.0, told_front ss us h.1)

  told_back : (ss us : List PartLoop) → Told (ss ++ us) → Told us
  told_back [] us h = h
  told_back (s ∷ ss) us h = told_back ss us h.1

  -- from a place code goes on as the statement's nest does, and the instruction there is under the statement's rows
  pub record GoesOn (t : J.Target) (place : ℕ) : Type 0 where
    pub surroundings : Surroundings
    pub goes_on : (s : Nest V) (σ : Slots V) → Filled code t.within (endings_of endings (parts t.within)) s σ
        → Way_on around code (F.stms t.n t.ss s) surroundings σ place
    pub listed : Contains table (record { pc = record { 0 = place }; line = record { 0 = t.line } })
    pub front : Front code table place surroundings.rows

  module _ (line : ℕ) where
    -- what the tree has for the line, if it has a statement on it, and what code has
    pub data Meets : Option J.Target → Option ℕ → Type 0 where
      neither : Meets None None
      both : (t : J.Target) (p : ℕ) → GoesOn t p → Meets (Some t) (Some p)

    or_meets : (o u : Option J.Target) (p r : Option ℕ) → Meets o p → Meets u r → Meets (or_else o u) (or_else p r)
    or_meets _ u _ r neither m = m
    or_meets _ u _ r (both t p h) m = both t p h

    pub record Walks (q : Piece) (from : ℕ) (o : Option J.Target) : Type 0 where
      pub meets : Meets o (first_start next line q from)

    still : {q : Piece} {from : ℕ} → NoStart q → Walks q from None
    still {q} {from} h = record { meets = subst (Meets None) (sym (none_starts next line q h from)) neither }

    told_as : {q : Piece} {from : ℕ} {o : Option J.Target} (u : Option J.Target) → u ≡ o → Walks q from o → Walks q from u
    told_as u e w = subst (Walks _ _) (sym e) w

    after : {a d : Piece} {from mid : ℕ} {o : Option J.Target} → NoStart a → end_of next a from ≡ mid → Walks d mid o → Walks (P.seq a d) from o
    after {a} {d} {from} {mid} {o} h e w = record {
      meets = subst (λ p. Meets o (or_else p (first_start next line d (end_of next a from)))) (sym (none_starts next line a h from))
          (subst (λ m. Meets o (first_start next line d m)) (sym e) w.meets);
    }

    pub before : {a d : Piece} {from : ℕ} {o : Option J.Target} → Walks a from o → NoStart d → Walks (P.seq a d) from o
    before {a} {d} {from} {o} w h = record {
      meets = subst (Meets o) (sym (ap (or_else (first_start next line a from)) (none_starts next line d h (end_of next a from))
          ∙ or_none (first_start next line a from))) w.meets;
    }

    beside : {a d : Piece} {from mid : ℕ} {o u : Option J.Target} → end_of next a from ≡ mid → Walks a from o → Walks d mid u
        → Walks (P.seq a d) from (or_else o u)
    beside {a} {d} {from} {mid} {o} {u} e v w = record {
      meets = or_meets o u _ _ v.meets (subst (λ m. Meets u (first_start next line d m)) (sym e) w.meets);
    }

    caught : {q r : Piece} {from mid : ℕ} {o u : Option J.Target} → end_of next q from ≡ mid → Walks q from o → Walks r mid u
        → Walks (P.caught q r) from (or_else o u)
    caught {q} {r} {from} {mid} {o} {u} e v w = record {
      meets = or_meets o u _ _ v.meets (subst (λ m. Meets u (first_start next line r m)) (sym e) w.meets);
    }

    closed : {q : Piece} {from : ℕ} {o : Option J.Target} → Walks q from o → Walks (P.closed q) from o
    closed w = record { meets = w.meets }

    blocked : {q : Piece} {from : ℕ} {o : Option J.Target} → Walks q from o → Walks (P.block q) from o
    blocked w = record { meets = w.meets }

    headed : {q : Piece} {from : ℕ} {o : Option J.Target} → Walks q from o → Walks (P.headed q) from o
    headed w = record { meets = w.meets }

    counted : {n : ℕ} {q : Piece} {from : ℕ} {o : Option J.Target} → Walks q from o → Walks (P.numbered n q) from o
    counted w = record { meets = w.meets }

    deeper : {k : ℕ} {q : Piece} {from : ℕ} {o : Option J.Target} → Walks q from o → Walks (P.deeper k q) from o
    deeper w = record { meets = w.meets }

    looped : {k : ℕ} {q : Piece} {from : ℕ} {o : Option J.Target} → Walks q from o → Walks (P.looped k q) from o
    looped w = record { meets = w.meets }

    ensured : {q : Piece} {from : ℕ} {o : Option J.Target} → Walks q from o → Walks (P.ensured q) from o
    ensured w = record { meets = w.meets }

    abbrev first_on : List J.Target → Option J.Target
    first_on ts = on_line line ts

    -- where the piece stands, and code goes on behind it as nests of the shape do
    abbrev Standing : (q : Piece) → (told : (depth : ℕ) → Option around_statement.Loop → (from : ℕ) → List PartLoop) → Shape → Option J.Target → Type 0
    Standing q f sh o = (L : List Target) (x : Context) (from to : ℕ) → At q L x from to → Goes sh x to → Told (f x.depth (loop_of x.around) from)
        → Walks q from o

    all_code : (ss : Stms) (n : ℕ) (g : Behind) (L : List Target) (x : Context) (from to : ℕ) → At (all_piece around ss n g) L x from to
        → All_at around code ss n (in_context table x) from to
    all_code ss n g L x from to h = code_of.all around code table agree truths ss n g L x from to h

    value_still : (e : Exp) (n : ℕ) → NoStart (value_piece around e n)
    value_still e n = plain_still (value_piece around e n) (val_plain around e n)

    one_alone : (st : Stm) (n : ℕ) (w : Behind) → HoldsNone st → {from : ℕ} → Walks (begun_piece st w (stm_piece around st n w)) from None
    one_alone st n w h = still (begun around (λ l. ⊥) st w (stm_piece around st n w) (alone around (λ l. ⊥) st n w h))

    -- 8.2, 8.3

    while_stands : (l n : ℕ) (c : Exp) (body els : Stms) (w : Behind) (sh : Shape)
        → Standing (all_piece around body (tested_body n c) (needed_if (some_exits Continue body)))
        (loops_of_all around next body (tested_body n c) (needed_if (some_exits Continue body))) (looping l n c body els ∷ sh)
        (first_on (starts body (tested_body n c) (looping l n c body els ∷ sh)))
        → Standing (all_piece around els (behind_body n c body) (behind_loop (some_exits Break body) w))
        (loops_of_all around next els (behind_body n c body) (behind_loop (some_exits Break body) w)) sh (first_on (starts els (behind_body n c body) sh))
        → Standing (stm_piece around (S.while l c body els) n w) (loops_in around next (S.while l c body els) n w) sh
        (first_on (starts_in (S.while l c body els) n sh))
    while_stands l n c body els w sh fb fe L x from to
        (other, (m1, a, (first, (j, i, k), (nxt, (end_free, next_free, q), (m2, r, (j', i', k'))))), e) g t =
        told_as (first_on (starts_in (S.while l c body els) n sh))
        (on_both line (starts body (tested_body n c) (looping l n c body els ∷ sh)) (starts els (behind_body n c body) sh))
        (blocked (beside (value_first ∙ (ap (λ z. next (end_of next (P.closed (exp_piece around c n true [])) z)) body_ends ∙ test_ends))
        (blocked (after (value_still c n) value_ends (after tt act_ends
        (headed (before (looped body_walk) (plain_still (P.closed (exp_piece around c n true [])) (plain.exp around c n true []), tt))))))
        (counted (closed else_walk))))
      where
        inner : Behind
        inner = needed_if (some_exits Continue body)

        d : ℕ
        d = x.depth

        value_ends : end_of next (value_piece around c n) from ≡ m1
        value_ends = end_is (value_piece around c n) L x from m1 a

        act_ends : next m1 ≡ first
        act_ends = end_is (P.act (P.to IfFalse 0) (n + size c) l false) (target other x.depth ∷ target to x.depth ∷ L) x m1 first (j, i, k)

        first_is : next (end_of next (value_piece around c n) from) ≡ first
        first_is = ap next value_ends ∙ act_ends

        value_first : end_of next (P.block (P.seq (value_piece around c n) (P.seq (P.act (P.to IfFalse 0) (n + size c) l false)
            (P.headed (P.seq (P.looped 2 (all_piece around body (tested_body n c) inner))
            (P.numbered n (P.seq (P.closed (exp_piece around c n true [])) (P.act (P.to IfTrue 0) (n + size c) l false)))))))) from
            ≡ next (end_of next (P.closed (exp_piece around c n true [])) (end_of next (all_piece around body (tested_body n c) inner) first))
        value_first = ap (λ z. next (end_of next (P.closed (exp_piece around c n true []))
            (end_of next (all_piece around body (tested_body n c) inner) z))) first_is

        body_ends : end_of next (all_piece around body (tested_body n c) inner) first ≡ nxt
        body_ends = end_is (all_piece around body (tested_body n c) inner) [] (in_loop (target to x.depth) nxt x) first nxt q

        test_ends : next (end_of next (P.closed (exp_piece around c n true [])) nxt) ≡ other
        test_ends = ap next (end_is (exp_piece around c n true []) [] x nxt m2 r)
            ∙ end_is (P.act (P.to IfTrue 0) (n + size c) l false) (target first x.depth ∷ target other x.depth ∷ target to x.depth ∷ L) x m2 other (j', i', k')

        whole_ends : end_of next (stm_piece around (S.while l c body els) n w) from ≡ to
        whole_ends = end_is (stm_piece around (S.while l c body els) n w) L x from to
            (other, (m1, a, (first, (j, i, k), (nxt, (end_free, next_free, q), (m2, r, (j', i', k'))))), e)

        tested_is : end_of next (all_piece around body (tested_body n c) inner) (next (end_of next (value_piece around c n) from)) ≡ nxt
        tested_is = ap (end_of next (all_piece around body (tested_body n c) inner)) first_is ∙ body_ends

        in_body : List PartLoop
        in_body = loops_of_all around next body (tested_body n c) inner d
            (loop_at (end_of next (all_piece around body (tested_body n c) inner) (next (end_of next (value_piece around c n) from))) d
            (end_of next (stm_piece around (S.while l c body els) n w) from) d) (next (end_of next (value_piece around c n) from))

        in_else : List PartLoop
        in_else = loops_of_all around next els (behind_body n c body) (behind_loop (some_exits Break body) w) d (loop_of x.around)
            (next (end_of next (P.closed (exp_piece around c n true []))
            (end_of next (all_piece around body (tested_body n c) inner) (next (end_of next (value_piece around c n) from)))))

        body_walk : Walks (all_piece around body (tested_body n c) inner) first (first_on (starts body (tested_body n c) (looping l n c body els ∷ sh)))
        body_walk = fb [] (in_loop (target to x.depth) nxt x) first nxt q
            (nests.goes_looping around code table endings l n c body els sh x first nxt other to (
              reached table nxt x.rows next_free,
              reached table to x.rows end_free,
              all_code body (tested_body n c) inner [] (in_loop (target to x.depth) nxt x) first nxt q,
              (
                m2,
                targets.exp around code table agree x c n true [] [] nxt m2 r,
                code_of.same_instr around code table agree truths x _ j'
                    (act_mark m2 (n + size c) l false) m2 other i' k',
              ),
              all_code els (behind_body n c body) (behind_loop (some_exits Break body) w) [] x other to e,
            ) g)
            (three (λ z y p. Told (loops_of_all around next body (tested_body n c) inner d (loop_at z d y d) p)) tested_is whole_ends first_is
            (told_front in_body in_else t))

        else_walk : Walks (all_piece around els (behind_body n c body) (behind_loop (some_exits Break body) w)) other
            (first_on (starts els (behind_body n c body) sh))
        else_walk = fe [] x other to e g
            (subst (λ p. Told (loops_of_all around next els (behind_body n c body) (behind_loop (some_exits Break body) w) d (loop_of x.around) p))
            (ap (λ z. next (end_of next (P.closed (exp_piece around c n true [])) z)) tested_is ∙ test_ends) (told_back in_body in_else t))

    for_stands : (l n : ℕ) (t : Tgt) (it : Exp) (body els : Stms) (w : Behind) (sh : Shape)
        → Standing (all_piece around body (for_body (n + size it + 1) t) (needed_if (some_exits Continue body)))
        (loops_of_all around next body (for_body (n + size it + 1) t) (needed_if (some_exits Continue body))) (iterating l (n + size it + 1) tt t body els ∷ sh)
        (first_on (starts body (for_body (n + size it + 1) t) (iterating l (n + size it + 1) tt t body els ∷ sh)))
        → Standing (all_piece around els (for_else (n + size it + 1) t body) (behind_loop (some_exits Break body) w))
        (loops_of_all around next els (for_else (n + size it + 1) t body) (behind_loop (some_exits Break body) w)) sh
        (first_on (starts els (for_else (n + size it + 1) t body) sh))
        → Standing (stm_piece around (S.for l t it body els) n w) (loops_in around next (S.for l t it body els) n w) sh
        (first_on (starts_in (S.for l t it body els) n sh))
    for_stands l n t it body els w sh fb fe L x from to
        (other, (m1, a, (m2, (j1, i1, h1), (first, (j2, i2, h2), (m3, q, (nxt, (end_free, next_free, r), (m4, (j3, i3, h3), (j4, i4, h4))))))), e) g u =
        told_as (first_on (starts_in (S.for l t it body els) n sh))
        (on_both line (starts body (for_body (n + size it + 1) t) (iterating l (n + size it + 1) tt t body els ∷ sh))
        (starts els (for_else (n + size it + 1) t body) sh))
        (blocked (beside (ap (λ z. next (next z)) tested_is ∙ test_ends)
        (blocked (after (value_still it n) value_ends (after tt iter_ends (after tt next_ends
        (headed (after (plain_still (P.closed (target_piece around t (n + size it + 1 + 1) [])) (plain.target around t (n + size it + 1 + 1) [])) target_ends
        (before (deeper (looped body_walk)) (tt, tt))))))))
        (counted (closed else_walk))))
      where
        k : ℕ
        k = n + size it + 1

        inner : Behind
        inner = needed_if (some_exits Continue body)

        d : ℕ
        d = x.depth

        value_ends : end_of next (value_piece around it n) from ≡ m1
        value_ends = end_is (value_piece around it n) L x from m1 a

        iter_ends : next m1 ≡ m2
        iter_ends = end_is (P.act (P.plain instr.Iter) (n + size it) l false) (target other x.depth ∷ target to x.depth ∷ L) x m1 m2 (j1, i1, h1)

        next_ends : next m2 ≡ first
        next_ends = end_is (P.act (P.to AtEnd 0) (n + size it + 1) l false) (target other x.depth ∷ target to x.depth ∷ L) x m2 first (j2, i2, h2)

        target_ends : end_of next (P.closed (target_piece around t (n + size it + 1 + 1) [])) first ≡ m3
        target_ends = end_is (target_piece around t (n + size it + 1 + 1) []) [] x first m3 q

        taken_is : next (end_of next (value_piece around it n) from) ≡ m2
        taken_is = ap next value_ends ∙ iter_ends

        first_is : end_of next (P.closed (target_piece around t (n + size it + 1 + 1) [])) (next (next (end_of next (value_piece around it n) from))) ≡ m3
        first_is = ap (λ z. end_of next (P.closed (target_piece around t (n + size it + 1 + 1) [])) (next z)) taken_is
            ∙ (ap (λ z. end_of next (P.closed (target_piece around t (n + size it + 1 + 1) [])) z) next_ends ∙ target_ends)

        body_ends : end_of next (all_piece around body (for_body k t) inner) m3 ≡ nxt
        body_ends = end_is (all_piece around body (for_body k t) inner) [] (in_loop (target to x.depth) nxt (over 1 x)) m3 nxt r

        tested_is : end_of next (all_piece around body (for_body k t) inner)
            (end_of next (P.closed (target_piece around t (n + size it + 1 + 1) [])) (next (next (end_of next (value_piece around it n) from)))) ≡ nxt
        tested_is = ap (end_of next (all_piece around body (for_body k t) inner)) first_is ∙ body_ends

        test_ends : next (next nxt) ≡ other
        test_ends = ap next (end_is (P.act (P.to AtEnd 1) (n + size it + 1) l true)
            (target first x.depth ∷ target other x.depth ∷ target to x.depth ∷ L) x nxt m4 (j3, i3, h3))
            ∙ end_is (P.move (P.to Jumps 0)) (target first x.depth ∷ target other x.depth ∷ target to x.depth ∷ L) x m4 other (j4, i4, h4)

        whole_ends : end_of next (stm_piece around (S.for l t it body els) n w) from ≡ to
        whole_ends = end_is (stm_piece around (S.for l t it body els) n w) L x from to
            (other, (m1, a, (m2, (j1, i1, h1), (first, (j2, i2, h2), (m3, q, (nxt, (end_free, next_free, r), (m4, (j3, i3, h3), (j4, i4, h4))))))), e)

        first_at : ℕ
        first_at = end_of next (P.closed (target_piece around t (n + size it + 1 + 1) [])) (next (next (end_of next (value_piece around it n) from)))

        in_body : List PartLoop
        in_body = loops_of_all around next body (for_body k t) inner (d + 1)
            (loop_at (end_of next (all_piece around body (for_body k t) inner) first_at) (d + 1)
            (end_of next (stm_piece around (S.for l t it body els) n w) from) d) first_at

        in_else : List PartLoop
        in_else = loops_of_all around next els (for_else k t body) (behind_loop (some_exits Break body) w) d (loop_of x.around)
            (next (next (end_of next (all_piece around body (for_body k t) inner) first_at)))

        body_walk : Walks (all_piece around body (for_body k t) inner) m3 (first_on (starts body (for_body k t) (iterating l k tt t body els ∷ sh)))
        body_walk = fb [] (in_loop (target to x.depth) nxt (over 1 x)) m3 nxt r
            (nests.goes_iterating around code table endings l k t body els sh x first nxt other to (
              reached table nxt x.rows next_free,
              reached table to x.rows end_free,
              (
                m3,
                targets.tgt around code table agree x t (n + size it + 1 + 1) [] [] first m3 q,
                subst (λ (s : Surroundings). All_at around code body (for_body k t) s m3 nxt) (for_is table nxt to x)
                    (all_code body (for_body k t) inner [] (in_loop (target to x.depth) nxt (over 1 x)) m3 nxt r),
              ),
              (
                m4,
                code_of.same_instr around code table agree truths x _ j3 (act_mark nxt (n + size it + 1) l true) nxt m4 i3 h3,
                code_of.same_instr around code table agree truths x _ j4 None m4 other i4 h4,
              ),
              all_code els (for_else k t body) (behind_loop (some_exits Break body) w) [] x other to e,
            ) g)
            (three (λ z y p. Told (loops_of_all around next body (for_body k t) inner (d + 1) (loop_at z (d + 1) y d) p)) tested_is whole_ends first_is
            (told_front in_body in_else u))

        else_walk : Walks (all_piece around els (for_else k t body) (behind_loop (some_exits Break body) w)) other
            (first_on (starts els (for_else k t body) sh))
        else_walk = fe [] x other to e g
            (subst (λ p. Told (loops_of_all around next els (for_else k t body) (behind_loop (some_exits Break body) w) d (loop_of x.around) p))
            (ap (λ z. next (next z)) tested_is ∙ test_ends) (told_back in_body in_else u))

    -- 8.5

    -- the number behind a target
    taken_number : (t : Option Tgt) (n : ℕ) → ℕ
    taken_number t n = behind_taken around t n

    item_stands : (l : ℕ) (e : Exp) (t : Option Tgt) (r : Items) (body : ℕ → Piece) (k n : ℕ)
        (f : (depth : ℕ) → Option around_statement.Loop → (from : ℕ) → List PartLoop)
        (sh : Shape) (o : Option J.Target)
        → Standing (items_piece around r body k (behind_taken around t (n + size e + 1))) f
        (withing l (behind_taken around t (n + size e + 1) + items_size r k) tt ∷ sh) o
        → Standing (items_piece around (S.with_item l e t r) body k n)
        (λ d o p. f (d + 1) o (end_of next (taken_piece around t (n + size e + 1)) (next (end_of next (value_piece around e n) p)))) sh o
    item_stands l e t r body k n f sh o g L x from to
        (m1, a, (m2, (j, i, h), (m3, (lead, (m4, (m5, q, c), nm)), (m6, (j', i', h'), (j'', i'', h''))))) goes u =
        after (plain_still (value_piece around e n) (val_plain around e n)) (end_is (value_piece around e n) L x from m1 a)
        (after tt (end_is (P.act (P.plain instr.Enter) (n + size e) l false) L x m1 m2 (j, i, h))
        (before (deeper (ensured (after (plain_still (taken_piece around t (n + size e + 1)) (taken_plain around t (n + size e + 1))) taken_ends
        (g [] (under row (over 1 x)) m5 m4 c
        (nests.goes_withing around code table endings l (behind_taken around t (n + size e + 1) + items_size r k) sh x row m4 to
        (takes_deeper table m2 m3 m3 x lead) nm (
          m6,
          code_of.same_instr around code table agree truths x instr.Exit j'
              (act_mark m3 (behind_taken around t (n + size e + 1) + items_size r k) l false) m3 m6 i' h',
          code_of.same_instr around code table agree truths x instr.EndFinally j'' None m6 to i'' h'',
        ) goes)
        (subst (λ p. Told (f (x.depth + 1) (loop_of x.around) p)) within_is u))))) (tt, tt)))
      where
        row : Handler
        row = row_of m2 m3 m3 (x.depth + 1) true

        taken_ends : end_of next (taken_piece around t (n + size e + 1)) m2 ≡ m5
        taken_ends = end_is (taken_piece around t (n + size e + 1)) [] (under row (over 1 x)) m2 m5 q

        within_is : end_of next (taken_piece around t (n + size e + 1)) (next (end_of next (value_piece around e n) from)) ≡ m5
        within_is = ap (λ z. end_of next (taken_piece around t (n + size e + 1)) (next z)) (end_is (value_piece around e n) L x from m1 a)
            ∙ (ap (end_of next (taken_piece around t (n + size e + 1))) (end_is (P.act (P.plain instr.Enter) (n + size e) l false) L x m1 m2 (j, i, h))
            ∙ taken_ends)

    items_stand : (is : Items) (body : Stms) → ((m : ℕ) → All_named around body m → (sh : Shape) → All_else_apart body m sh
        → Standing (all_piece around body m free) (loops_of_all around next body m free) sh (first_on (starts body m sh)))
        → (n : ℕ) (sh : Shape) → Items_named around is (λ m. All_named around body m) n
        → All_else_apart body (body_at is n) (within_items is (stms_size body) n sh)
        → Standing (items_piece around is (λ m. all_piece around body m free) (stms_size body) n)
        (λ d o p. loops_of_items around next is n d p (λ e q. loops_of_all around next body (body_at is n) free e o q)) sh
        (first_on (starts body (body_at is n) (within_items is (stms_size body) n sh)))
    items_stand S.no_items body f n sh h d L x from to a g t = closed (f n h sh d [] x from to a g t)
    items_stand (S.with_item l e None r) body f n sh (h, i) d L x from to a g t =
        item_stands l e None r (λ m. all_piece around body m free) (stms_size body) n
        (λ d o p. loops_of_items around next r (n + size e + 1) d p (λ z q. loops_of_all around next body (body_at r (n + size e + 1)) free z o q)) sh
        (first_on (starts body (body_at r (n + size e + 1)) (within_items r (stms_size body) (n + size e + 1)
        (withing l (n + size e + 1 + items_size r (stms_size body)) tt ∷ sh))))
        (items_stand r body f (n + size e + 1) (withing l (n + size e + 1 + items_size r (stms_size body)) tt ∷ sh) i d) L x from to a g t
    items_stand (S.with_item l e (Some y) r) body f n sh (h, j, i) d L x from to a g t =
        item_stands l e (Some y) r (λ m. all_piece around body m free) (stms_size body) n
        (λ d o p. loops_of_items around next r (n + size e + 1 + target_size y) d p
        (λ z q. loops_of_all around next body (body_at r (n + size e + 1 + target_size y)) free z o q)) sh
        (first_on (starts body (body_at r (n + size e + 1 + target_size y))
        (within_items r (stms_size body) (n + size e + 1 + target_size y)
        (withing l (n + size e + 1 + target_size y + items_size r (stms_size body)) tt ∷ sh))))
        (items_stand r body f (n + size e + 1 + target_size y)
        (withing l (n + size e + 1 + target_size y + items_size r (stms_size body)) tt ∷ sh) i d) L x from to a g t

    -- 8.4: handlers, whose end is label 0

    abbrev Handlers_stand : (q : Piece) → (told : (depth : ℕ) → Option around_statement.Loop → (from : ℕ) → List PartLoop) → Shape → Option J.Target → Type 0
    Handlers_stand q f sh o = (L : List Target) (x : Context) (end depth from to : ℕ) → At q (target end depth ∷ L) x from to → Goes sh x end
        → Told (f x.depth (loop_of x.around) from) → Walks q from o

    handled_stands : (l n : ℕ) (y : Option Name) (body : Stms) (sh : Shape)
        → ((m : ℕ) → m ≡ handler_body n y → Standing (all_piece around body m free) (loops_of_all around next body m free) (with_name y (handling n tt ∷ sh))
        (first_on (starts body m (with_name y (handling n tt ∷ sh)))))
        → (L : List Target) (x : Context) (k end depth from to : ℕ)
        → At (handled_piece around l n y (λ m. all_piece around body m free)) (target to k ∷ target end depth ∷ L) x from to → Goes sh x end
        → Told (loops_of_all around next body (handler_body n y) free (x.depth + 1) (loop_of x.around) (next (next from)))
        → Walks (handled_piece around l n y (λ m. all_piece around body m free)) from
        (first_on (starts body (handler_body n y) (with_name y (handling n tt ∷ sh))))
    handled_stands l n None body sh f L x k end dp from to (m1, (j1, i1, h1), (m2, (j2, i2, h2), (m3, b', (m4, (j3, i3, h3), (j4, i4, h4))))) g t =
        after tt caught_ends (after tt pop_ends (before (deeper (closed (f (n + 1) refl [] (over 1 x) m2 m3 b'
        (nests.goes_handling around code table endings n sh x m3 m4 (code_of.same_instr around code table agree truths x instr.EndHandler j3 None m3 m4 i3 h3)
        (nests.goes_by_jump around code table endings sh x m4 to end (code_of.same_instr around code table agree truths x _ j4 None m4 to i4 h4) g))
        (subst (λ p. Told (loops_of_all around next body (n + 1) free (x.depth + 1) (loop_of x.around) p)) (ap next caught_ends ∙ pop_ends) t)))) (tt, tt)))
      where
        caught_ends : next from ≡ m1
        caught_ends = end_is (P.move (P.plain instr.Caught)) (target to k ∷ target end dp ∷ L) x from m1 (j1, i1, h1)

        pop_ends : next m1 ≡ m2
        pop_ends = end_is (P.move (P.plain instr.Pop)) (target to k ∷ target end dp ∷ L) x m1 m2 (j2, i2, h2)
    handled_stands l n (Some y) body sh f L x k end dp from to (
      m1,
      (j1, i1, h1),
      (
        m2,
        (j2, i2, h2),
        (
          m3,
          (lead, (m4, b', nm)),
          (m5, (j3, i3, h3), (m6, (j4, i4, h4), (m7, (j5, i5, h5), (m8, (j6, i6, h6), (m9, (j7, i7, h7), (j8, i8, h8)))))),
        ),
      ),
    ) g t =
        after tt caught_ends (after (plain_still (P.act (code_store y) (n + 1) l false) (store_plain around y (n + 1) l)) store_ends
        (before (deeper (ensured (f (n + 1 + 1) refl [] (under row (over 1 x)) m2 m4 b'
        (nests.goes_naming around code table endings y (handling n tt ∷ sh) (over 1 x) row m4 m8 (takes_all table m2 m3 m3 (over 1 x) lead) nm (
          m5,
          null_given around code x.rows K agree.null m3 m5 j3 i3 h3,
          (
            m6,
            code_of.stored around code table agree truths x y None K m5 m6 j4 i4 h4,
            (
              m7,
              name_deleted around code x.rows K (around.variable [] y) (agree.of_class [] y) None m6 m7 j5 i5 h5,
              code_of.same_instr around code table agree truths x instr.EndFinally j6 None m7 m8 i6 h6,
            ),
          ),
        )
        (nests.goes_handling around code table endings n sh x m8 m9 (code_of.same_instr around code table agree truths x instr.EndHandler j7 None m8 m9 i7 h7)
        (nests.goes_by_jump around code table endings sh x m9 to end (code_of.same_instr around code table agree truths x _ j8 None m9 to i8 h8) g)))
        (subst (λ p. Told (loops_of_all around next body (n + 1 + 1) free (x.depth + 1) (loop_of x.around) p)) (ap next caught_ends ∙ store_ends) t))))
        (tt, (tt, (tt, (tt, (tt, tt)))))))
      where
        row : Handler
        row = row_of m2 m3 m3 (x.depth + 1) true

        K : List Target
        K = target to k ∷ target end dp ∷ L

        code_store : Name → P.Op
        code_store z = store (around.variable [] z)

        caught_ends : next from ≡ m1
        caught_ends = end_is (P.move (P.plain instr.Caught)) (target to k ∷ target end dp ∷ L) x from m1 (j1, i1, h1)

        store_ends : next m1 ≡ m2
        store_ends = end_is (P.act (store (around.variable [] y)) (n + 1) l false) (target to k ∷ target end dp ∷ L) x m1 m2 (j2, i2, h2)

    -- a handler, whose test follows what gives the class
    handler_stands : (class : Piece) (l n : ℕ) (y : Option Name) (body : Stms) (others : Piece)
        (f : (depth : ℕ) → Option around_statement.Loop → (from : ℕ) → List PartLoop) (sh : Shape) (o : Option J.Target) → NoStart class
        → ((m : ℕ) → m ≡ handler_body n y → Standing (all_piece around body m free) (loops_of_all around next body m free) (with_name y (handling n tt ∷ sh))
        (first_on (starts body m (with_name y (handling n tt ∷ sh)))))
        → Handlers_stand others f sh o
        → Handlers_stand (P.seq (P.block (P.seq class (P.seq (P.act (P.plain instr.Match) n l false) (P.seq (P.move (P.to IfFalse 0))
        (handled_piece around l n y (λ m. all_piece around body m free)))))) others)
        (λ d u p. loops_of_all around next body (handler_body n y) free (d + 1) u (next (next (next (next (end_of next class p)))))
        ++ f d u (end_of next (handled_piece around l n y (λ m. all_piece around body m free)) (next (next (end_of next class p))))) sh
        (or_else (first_on (starts body (handler_body n y) (with_name y (handling n tt ∷ sh)))) o)
    handler_stands class l n y body others f sh o still_class g h L x end dp from to
        (other, (m1, a, (m2, (j', i', h'), (m3, (j'', i'', h''), q))), r) goes t =
        beside (ap (end_of next handled_one) caught_is ∙ handled_ends)
        (blocked (after still_class class_ends (after tt match_ends (after tt branch_ends
        (handled_stands l n y body sh g L x x.depth end dp m3 other q goes
        (subst (λ p. Told (loops_of_all around next body (handler_body n y) free (x.depth + 1) (loop_of x.around) (next (next p)))) caught_is
        (told_front in_one in_others t)))))))
        (h L x end dp other to r goes
        (subst (λ p. Told (f x.depth (loop_of x.around) p)) (ap (end_of next handled_one) caught_is ∙ handled_ends) (told_back in_one in_others t)))
      where
        handled_one : Piece
        handled_one = handled_piece around l n y (λ m. all_piece around body m free)

        class_ends : end_of next class from ≡ m1
        class_ends = end_is class (target other x.depth ∷ target end dp ∷ L) x from m1 a

        match_ends : next m1 ≡ m2
        match_ends = end_is (P.act (P.plain instr.Match) n l false) (target other x.depth ∷ target end dp ∷ L) x m1 m2 (j', i', h')

        branch_ends : next m2 ≡ m3
        branch_ends = end_is (P.move (P.to IfFalse 0)) (target other x.depth ∷ target end dp ∷ L) x m2 m3 (j'', i'', h'')

        caught_is : next (next (end_of next class from)) ≡ m3
        caught_is = ap (λ z. next (next z)) class_ends ∙ (ap next match_ends ∙ branch_ends)

        handled_ends : end_of next handled_one m3 ≡ other
        handled_ends = end_is handled_one (target other x.depth ∷ target end dp ∷ L) x m3 other q

        in_one : List PartLoop
        in_one = loops_of_all around next body (handler_body n y) free (x.depth + 1) (loop_of x.around) (next (next (next (next (end_of next class from)))))

        in_others : List PartLoop
        in_others = f x.depth (loop_of x.around) (end_of next handled_one (next (next (end_of next class from))))

    -- the body of a `try`, its `else` part, which stands behind it, and its handlers
    guarded_stands : (hs : Handlers) (body els : Stms) (n : ℕ) (v w : Behind) (sh : Shape) (ob : Option J.Target)
        → Standing (all_piece around body (n + 1) v) (loops_of_all around next body (n + 1) v) (guarded (try_handlers n body) hs els ∷ sh) ob
        → Standing (all_piece around els (try_else n body hs) w) (loops_of_all around next els (try_else n body hs) w) sh
        (first_on (starts els (try_else n body hs) sh))
        → Handlers_stand (handlers_piece around hs (try_handlers n body)) (loops_of_handlers around next hs (try_handlers n body)) sh
        (first_on (handler_starts hs (try_handlers n body) sh))
        → Share_no_line (handler_starts hs (try_handlers n body) sh) (starts els (try_else n body hs) sh)
        → (L : List Target) (x : Context) (from to : ℕ)
        → At (guarded_piece hs (P.closed (all_piece around body (n + 1) v))
        (P.numbered (try_else n body hs) (P.closed (all_piece around els (try_else n body hs) w)))
        (P.numbered (try_handlers n body) (handlers_piece around hs (try_handlers n body)))) L x from to → Goes sh x to
        → Told (loops_of_all around next body (n + 1) v x.depth (loop_of x.around) from)
        → Told (loops_of_all around next els (try_else n body hs) w x.depth (loop_of x.around) (end_of next (all_piece around body (n + 1) v) from))
        → Told (loops_of_handlers around next hs (try_handlers n body) x.depth (loop_of x.around)
        (next (end_of next (all_piece around els (try_else n body hs) w) (end_of next (all_piece around body (n + 1) v) from))))
        → Walks (guarded_piece hs (P.closed (all_piece around body (n + 1) v))
        (P.numbered (try_else n body hs) (P.closed (all_piece around els (try_else n body hs) w)))
        (P.numbered (try_handlers n body) (handlers_piece around hs (try_handlers n body)))) from
        (or_else ob (or_else (first_on (handler_starts hs (try_handlers n body) sh)) (first_on (starts els (try_else n body hs) sh))))
    guarded_stands S.no_handlers body els n v w sh ob fb fe fh d L x from to (mid, a, e) g t u z =
        beside body_ends (closed (fb [] x from mid a
        (nests.goes_unguarded around code table endings (try_handlers n body) els sh x mid to
        (all_code els (try_else n body S.no_handlers) w [] x mid to e) g) t))
        (counted (closed (fe [] x mid to e g
        (subst (λ p. Told (loops_of_all around next els (try_else n body S.no_handlers) w x.depth (loop_of x.around) p)) body_ends u))))
      where
        body_ends : end_of next (all_piece around body (n + 1) v) from ≡ mid
        body_ends = end_is (all_piece around body (n + 1) v) [] x from mid a
    guarded_stands (S.handler l c y hb hr) body els n v w sh ob fb fe fh d L x from to (behind, (m1, a, (m2, e, (j, i, k))), q) g t u z =
        told_as _ (commuted ob (first_on (handler_starts (S.handler l c y hb hr) (try_handlers n body) sh))
        (first_on (starts els (try_else n body (S.handler l c y hb hr)) sh)) (d line))
        (blocked (beside (ap (λ p. next (end_of next other p)) body_ends ∙ (ap next else_ends ∙ jump_ends))
        (caught body_ends (closed (fb [] (under row x) from m1 a
        (nests.goes_guarded around code table endings l (try_handlers n body) c y hb hr els sh x row m1 m2 behind to (record { depth = refl; except = refl })
        (all_code els (try_else n body (S.handler l c y hb hr)) w [] x m1 m2 e)
        (code_of.same_instr around code table agree truths x _ j None m2 behind i k)
        (code_of.handlers around code table agree truths (S.handler l c y hb hr) (try_handlers n body) to x.depth L x behind to q) g) t))
        (before (counted (closed (fe [] x m1 m2 e
        (nests.goes_by_jump around code table endings sh x m2 behind to (code_of.same_instr around code table agree truths x _ j None m2 behind i k) g)
        (subst (λ p. Told (loops_of_all around next els (try_else n body (S.handler l c y hb hr)) w x.depth (loop_of x.around) p)) body_ends u)))) tt))
        (counted (fh L x to x.depth behind to q g
        (subst (λ p. Told (loops_of_handlers around next (S.handler l c y hb hr) (try_handlers n body) x.depth (loop_of x.around) p))
        (ap (λ p. next (end_of next other p)) body_ends ∙ (ap next else_ends ∙ jump_ends)) z)))))
      where
        row : Handler
        row = row_of from m1 behind x.depth false

        other : Piece
        other = all_piece around els (try_else n body (S.handler l c y hb hr)) w

        body_ends : end_of next (all_piece around body (n + 1) v) from ≡ m1
        body_ends = end_is (all_piece around body (n + 1) v) [] (under row x) from m1 a

        else_ends : end_of next (all_piece around els (try_else n body (S.handler l c y hb hr)) w) m1 ≡ m2
        else_ends = end_is (all_piece around els (try_else n body (S.handler l c y hb hr)) w) [] x m1 m2 e

        jump_ends : next m2 ≡ behind
        jump_ends = end_is (P.move (P.to Jumps 0)) (target to x.depth ∷ L) x m2 behind (j, i, k)

    -- the parts of a `try` in the order of the tree
    tried_order : (tb th te tf : List J.Target)
        → first_on (tb ++ (th ++ (te ++ tf))) ≡ or_else (or_else (first_on tb) (or_else (first_on th) (first_on te))) (first_on tf)
    tried_order tb th te tf =
        on_both line tb (th ++ (te ++ tf)) ∙ (ap (or_else (first_on tb)) (on_both line th (te ++ tf) ∙ ap (or_else (first_on th)) (on_both line te tf))
        ∙ regrouped (first_on tb) (first_on th) (first_on te) (first_on tf))

    try_stands : (l n : ℕ) (body : Stms) (hs : Handlers) (els fin : Stms) (w : Behind) (sh : Shape)
        → Share_no_line (handler_starts hs (try_handlers n body) (ensuring n (try_finally n body hs els) fin ∷ sh))
        (starts els (try_else n body hs) (ensuring n (try_finally n body hs els) fin ∷ sh))
        → Standing (all_piece around body (n + 1) (in_front els (behind_tried hs fin w)))
        (loops_of_all around next body (n + 1) (in_front els (behind_tried hs fin w)))
        (guarded (try_handlers n body) hs els ∷ ensuring n (try_finally n body hs els) fin ∷ sh)
        (first_on (starts body (n + 1) (guarded (try_handlers n body) hs els ∷ ensuring n (try_finally n body hs els) fin ∷ sh)))
        → Standing (all_piece around els (try_else n body hs) (behind_tried hs fin w))
        (loops_of_all around next els (try_else n body hs) (behind_tried hs fin w))
        (ensuring n (try_finally n body hs els) fin ∷ sh) (first_on (starts els (try_else n body hs) (ensuring n (try_finally n body hs els) fin ∷ sh)))
        → Handlers_stand (handlers_piece around hs (try_handlers n body)) (loops_of_handlers around next hs (try_handlers n body))
        (ensuring n (try_finally n body hs els) fin ∷ sh) (first_on (handler_starts hs (try_handlers n body) (ensuring n (try_finally n body hs els) fin ∷ sh)))
        → Standing (all_piece around fin (try_finally n body hs els) (needed_if (is_needed w)))
        (loops_of_all around next fin (try_finally n body hs els) (needed_if (is_needed w)))
        (ending n normal ∷ sh) (first_on (starts fin (try_finally n body hs els) (ending n normal ∷ sh)))
        → Standing (stm_piece around (S.try l body hs els fin) n w) (loops_in around next (S.try l body hs els fin) n w) sh
        (first_on (starts_in (S.try l body hs els fin) n sh))
    try_stands l n body hs els none w sh d fb fe fh ff L x from to (m1, (j, i, h), (mid, a, e)) g t =
        told_as (first_on (starts_in (S.try l body hs els none) n sh)) (tried_order in_body in_handlers in_else [] ∙ or_none _)
        (after tt nop_ends (before
        (guarded_stands hs body els n (in_front els (behind_tried hs none w)) (behind_tried hs none w) r (first_on in_body) fb fe fh d L x m1 mid a
        (nests.goes_unensured around code table endings n (try_finally n body hs els) sh x mid (subst (λ m. Goes sh x m) (sym e) g))
        (subst (λ p. Told (loops_of_all around next body (n + 1) (in_front els (behind_tried hs none w)) x.depth (loop_of x.around) p)) nop_ends
        (told_front loops_body (loops_handlers ++ (loops_else ++ [])) t))
        (subst (λ p. Told (loops_of_all around next els (try_else n body hs) (behind_tried hs none w) x.depth (loop_of x.around)
        (end_of next tried p))) nop_ends
        (told_front loops_else [] (told_back loops_handlers (loops_else ++ []) (told_back loops_body (loops_handlers ++ (loops_else ++ [])) t))))
        (subst (λ p. Told (loops_of_handlers around next hs (try_handlers n body) x.depth (loop_of x.around)
        (next (end_of next other (end_of next tried p))))) nop_ends
        (told_front loops_handlers (loops_else ++ []) (told_back loops_body (loops_handlers ++ (loops_else ++ [])) t)))) tt))
      where
        r : Shape
        r = ensuring n (try_finally n body hs els) none ∷ sh

        tried : Piece
        tried = all_piece around body (n + 1) (in_front els (behind_tried hs none w))

        other : Piece
        other = all_piece around els (try_else n body hs) (behind_tried hs none w)

        nop_ends : next from ≡ m1
        nop_ends = end_is (P.act (P.plain instr.Nop) n l false) L x from m1 (j, i, h)

        in_body : List J.Target
        in_body = starts body (n + 1) (guarded (try_handlers n body) hs els ∷ r)

        in_handlers : List J.Target
        in_handlers = handler_starts hs (try_handlers n body) r

        in_else : List J.Target
        in_else = starts els (try_else n body hs) r

        loops_body : List PartLoop
        loops_body = loops_of_all around next body (n + 1) (in_front els (behind_tried hs none w)) x.depth (loop_of x.around) (next from)

        loops_handlers : List PartLoop
        loops_handlers = loops_of_handlers around next hs (try_handlers n body) x.depth (loop_of x.around)
            (next (end_of next other (end_of next tried (next from))))

        loops_else : List PartLoop
        loops_else = loops_of_all around next els (try_else n body hs) (behind_tried hs none w) x.depth (loop_of x.around) (end_of next tried (next from))
    try_stands l n body hs els (more u us) w sh d fb fe fh ff L x from to (m1, (j, i, h), (m2, (lead, (m3, a, nm)), (m4, p, (j', i', h')))) g t =
        told_as (first_on (starts_in (S.try l body hs els fin) n sh)) (tried_order in_body in_handlers in_else in_finally)
        (after tt nop_ends (beside (end_is (P.ensured whole) L x m1 m2 (lead, (m3, a, nm)))
        (ensured (guarded_stands hs body els n (in_front els (behind_tried hs fin w)) (behind_tried hs fin w) r (first_on in_body) fb fe fh d []
        (under row x) m1 m3 a
        (nests.goes_ensured around code table endings n (try_finally n body hs els) u us sh x row m3 m4 to (takes_all table m1 m2 m2 x lead) nm
        (subst (λ (s : Surroundings). All_at around code fin (try_finally n body hs els) s m2 m4) (deeper_is table x)
        (all_code fin (try_finally n body hs els) (needed_if (is_needed w)) [] (over 1 x) m2 m4 p))
        (code_of.same_instr around code table agree truths x instr.EndFinally j' None m4 to i' h') g)
        (subst (λ p. Told (loops_of_all around next body (n + 1) (in_front els (behind_tried hs fin w)) x.depth (loop_of x.around) p)) nop_ends
        (told_front loops_body (loops_handlers ++ (loops_else ++ loops_last)) t.1))
        (subst (λ p. Told (loops_of_all around next els (try_else n body hs) (behind_tried hs fin w) x.depth (loop_of x.around) (end_of next tried p))) nop_ends
        (told_front loops_else loops_last (told_back loops_handlers (loops_else ++ loops_last)
        (told_back loops_body (loops_handlers ++ (loops_else ++ loops_last)) t.1))))
        (subst (λ p. Told (loops_of_handlers around next hs (try_handlers n body) x.depth (loop_of x.around)
        (next (end_of next other (end_of next tried p))))) nop_ends
        (told_front loops_handlers (loops_else ++ loops_last) (told_back loops_body (loops_handlers ++ (loops_else ++ loops_last)) t.1)))))
        (before (deeper (counted (closed (ff [] (over 1 x) m2 m4 p
        (nests.goes_ending around code table endings n sh x m4 to t.0
        (code_of.same_instr around code table agree truths x instr.EndFinally j' None m4 to i' h') g)
        (subst (λ p. Told (loops_of_all around next fin (try_finally n body hs els) (needed_if (is_needed w)) (x.depth + 1) (loop_of x.around) p))
        (ap (λ z. next (end_of next whole z)) nop_ends ∙ end_is (P.ensured whole) L x m1 m2 (lead, (m3, a, nm)))
        (told_back loops_else loops_last (told_back loops_handlers (loops_else ++ loops_last)
        (told_back loops_body (loops_handlers ++ (loops_else ++ loops_last)) t.1)))))))) tt)))
      where
        fin : Stms
        fin = more u us

        row : Handler
        row = row_of m1 m2 m2 x.depth true

        r : Shape
        r = ensuring n (try_finally n body hs els) fin ∷ sh

        tried : Piece
        tried = all_piece around body (n + 1) (in_front els (behind_tried hs fin w))

        other : Piece
        other = all_piece around els (try_else n body hs) (behind_tried hs fin w)

        whole : Piece
        whole = guarded_piece hs (P.closed tried) (P.numbered (try_else n body hs) (P.closed other))
            (P.numbered (try_handlers n body) (handlers_piece around hs (try_handlers n body)))

        nop_ends : next from ≡ m1
        nop_ends = end_is (P.act (P.plain instr.Nop) n l false) L x from m1 (j, i, h)

        in_body : List J.Target
        in_body = starts body (n + 1) (guarded (try_handlers n body) hs els ∷ r)

        in_handlers : List J.Target
        in_handlers = handler_starts hs (try_handlers n body) r

        in_else : List J.Target
        in_else = starts els (try_else n body hs) r

        in_finally : List J.Target
        in_finally = starts fin (try_finally n body hs els) (ending n normal ∷ sh)

        loops_body : List PartLoop
        loops_body = loops_of_all around next body (n + 1) (in_front els (behind_tried hs fin w)) x.depth (loop_of x.around) (next from)

        loops_handlers : List PartLoop
        loops_handlers = loops_of_handlers around next hs (try_handlers n body) x.depth (loop_of x.around)
            (next (end_of next other (end_of next tried (next from))))

        loops_else : List PartLoop
        loops_else = loops_of_all around next els (try_else n body hs) (behind_tried hs fin w) x.depth (loop_of x.around) (end_of next tried (next from))

        loops_last : List PartLoop
        loops_last = loops_of_all around next fin (try_finally n body hs els) (needed_if (is_needed w)) (x.depth + 1) (loop_of x.around)
            (next (end_of next whole (next from)))

    -- all statements

    three_on : (ts us vs : List J.Target) → first_on ((ts ++ us) ++ vs) ≡ or_else (first_on ts) (first_on (us ++ vs))
    three_on ts us vs =
        on_both line (ts ++ us) vs ∙ (ap (λ o. or_else o (first_on vs)) (on_both line ts us)
        ∙ (grouped (first_on ts) (first_on us) (first_on vs) ∙ ap (or_else (first_on ts)) (sym (on_both line us vs))))

    -- the first place of a statement
    begins_there : (st : Stm) (n : ℕ) (w : Behind) (L : List Target) (x : Context) (from to : ℕ) → Stm_named around st n → Grammatical st
        → At (begun_piece st w (stm_piece around st n w)) L x from to → Front code table from x.rows
    begins_there st n w L x from to h g a =
        front code table (begun_piece st w (stm_piece around st n w)) L x from to (begun_open around st n w g)
        (and_false (is_empty (begun_piece st w (stm_piece around st n w))) (body_some around b.links next cells captures st none n w g (h, tt))) a

    -- a statement, and those behind it in its list
    started : {q : Piece} {from : ℕ} (t : J.Target) (ts : List J.Target) → GoesOn t from → Walks q from (first_on ts)
        → Walks (P.started t.line q) from (first_on (t ∷ ts))
    started {q} {from} t ts g w = record { meets = by (nat_eq t.line line) }
      where
        by : (s : Bool) → Meets (if s then Some t else on_line line ts) (if s then Some from else first_start next line q from)
        by true = both t from g
        by false = w.meets

    mutual
      stm_stands : (st : Stm) (n : ℕ) (w : Behind) (sh : Shape) → Stm_named around st n → Grammatical st → Else_apart st n sh
          → Standing (begun_piece st w (stm_piece around st n w)) (λ d o p. loops_in around next st n w d o (begun_at around next st p)) sh
          (first_on (starts_in st n sh))
      stm_stands (S.choice l S.no_branches els) n w sh h g e = absurd g
      stm_stands (S.choice l (S.branch k c body r) els) n w sh h g e = λ L x from to a goes t.
          blocked (branches_stand (S.branch k c body r) els (behind_branches (some_branch_goes_on (S.branch k c body r)) w) n sh h (g.0, g.1) e.0
          (λ m i d. all_stand els m (behind_branches (some_branch_goes_on (S.branch k c body r)) w) sh i g.2 d) e.1 x.depth L x from to a goes
          (told_front _ _ t) (told_back _ _ t))
      stm_stands (S.while l c body els) n w sh h g e =
          while_stands l n c body els w sh (all_stand body (tested_body n c) (needed_if (some_exits Continue body)) (looping l n c body els ∷ sh) h.1 g.0 e.0)
          (all_stand els (behind_body n c body) (behind_loop (some_exits Break body) w) sh h.2 g.1 e.1)
      stm_stands (S.for l t it body els) n w sh h g e =
          for_stands l n t it body els w sh
          (all_stand body (for_body (n + size it + 1) t) (needed_if (some_exits Continue body)) (iterating l (n + size it + 1) tt t body els ∷ sh) h.2 g.0 e.0)
          (all_stand els (for_else (n + size it + 1) t body) (behind_loop (some_exits Break body) w) sh h.3 g.1 e.1)
      stm_stands (S.try l none hs els fin) n w sh h g e = absurd g
      stm_stands (S.try l (more st ss) hs els fin) n w sh h g e =
          try_stands l n (more st ss) hs els fin w sh e.0 (all_stand (more st ss) (n + 1) (in_front els (behind_tried hs fin w)) _ h.0 (g.0, g.1) e.1)
          (all_stand els (try_else n (more st ss) hs) (behind_tried hs fin w) _ h.2 g.3 e.3) (handlers_stand hs (try_handlers n (more st ss)) _ h.1 g.2 e.2)
          (all_stand fin (try_finally n (more st ss) hs els) (needed_if (is_needed w)) (ending n normal ∷ sh) h.3 g.4 e.4)
      stm_stands (S.with l S.no_items body) n w sh h g e = absurd g
      stm_stands (S.with l (S.with_item k x t r) body) n w sh h g e =
          items_stand (S.with_item k x t r) body (λ m i s d. all_stand body m free s i g d) n sh h e
      stm_stands st n w sh h g e = λ L x from to a goes t. one_alone st n w tt

      pub all_stand : (ss : Stms) (n : ℕ) (w : Behind) (sh : Shape) → All_named around ss n → All_grammatical ss → All_else_apart ss n sh
          → Standing (all_piece around ss n w) (loops_of_all around next ss n w) sh (first_on (starts ss n sh))
      all_stand none n w sh h g e = λ L x from to a goes t. still tt
      all_stand (more st ss) n w sh h g e = λ L x from to a goes t.
          told_as _ (on_both line (target_of st ss n sh ∷ starts_in st n (rest (n + stm_size st) ss ∷ sh)) (starts ss (n + stm_size st) sh))
          (beside (end_is (begun_piece st (in_front ss w) (stm_piece around st n (in_front ss w))) L x from a.0 (a.1).1)
          (started (target_of st ss n sh) (starts_in st n (rest (n + stm_size st) ss ∷ sh))
          (record {
            surroundings = in_context table x;
            goes_on = λ s σ f. law.at_stms n (more st ss) s (in_context table x) σ from to (all_code (more st ss) n w L x from to a) (goes s σ f);
            listed = (a.1).0;
            front = begins_there st n (in_front ss w) L x from a.0 h.0 g.0 (a.1).1;
          })
          (stm_stands st n (in_front ss w) (rest (n + stm_size st) ss ∷ sh) h.0 g.0 e.0 L x from a.0 (a.1).1
          (nests.goes_rest around code table endings (n + stm_size st) ss sh x a.0 to (all_code ss (n + stm_size st) w L x a.0 to a.2) goes)
          (told_front _ _ t)))
          (all_stand ss (n + stm_size st) w sh h.1 g.1 e.1 L x a.0 to a.2 goes
          (subst (λ p. Told (loops_of_all around next ss (n + stm_size st) w x.depth (loop_of x.around) p))
          (end_is (begun_piece st (in_front ss w) (stm_piece around st n (in_front ss w))) L x from a.0 (a.1).1) (told_back _ _ t))))

      -- 8.1: each branch goes on at the end, which is label 0
      branches_stand : (bs : Branches) (els : Stms) (v : Behind) (n : ℕ) (sh : Shape) → Branches_named around bs (λ m. All_named around els m) n
          → Branches_grammatical bs
          → Branches_else_apart bs n sh
          → ((m : ℕ) → All_named around els m → All_else_apart els m sh
          → Standing (all_piece around els m v) (loops_of_all around next els m v) sh (first_on (starts els m sh)))
          → All_else_apart els (J.behind_branches bs n) sh → (depth : ℕ) (L : List Target) (x : Context) (from to : ℕ)
          → At (branches_piece around bs n (λ m. P.closed (all_piece around els m v))) (target to depth ∷ L) x from to → Goes sh x to
          → Told (loops_of_branches around next bs n x.depth (loop_of x.around) from)
          → Told (loops_of_all around next els (J.behind_branches bs n) v x.depth (loop_of x.around) (behind_tests around next bs n from))
          → Walks (branches_piece around bs n (λ m. P.closed (all_piece around els m v))) from
          (first_on (branch_starts bs n sh ++ starts els (J.behind_branches bs n) sh))
      branches_stand S.no_branches els v n sh h g e f d dp L x from to a goes t u = closed (f n h d [] x from to a goes u)
      branches_stand (S.branch l c body r) els v n sh h g e f d dp L x from to (other, (m1, a, (m2, (j, i, k), (m3, q, (j', i', k')))), z) goes t u =
          let K = target other x.depth ∷ target to dp ∷ L in
          let value_ends = end_is (value_piece around c n) K x from m1 a in
          let act_ends : next m1 ≡ m2 = end_is (P.act (P.to IfFalse 0) (n + size c) l false) K x m1 m2 (j, i, k) in
          let first_is : next (end_of next (value_piece around c n) from) ≡ m2 = ap next value_ends ∙ act_ends in
          let body_ends = end_is (all_piece around body (tested_body n c) free) [] x m2 m3 q in
          let jump_ends : next m3 ≡ other = end_is (P.move (P.to Jumps 1)) K x m3 other (j', i', k') in
          let other_is : next (end_of next (all_piece around body (tested_body n c) free) (next (end_of next (value_piece around c n) from))) ≡ other =
          ap (λ p. next (end_of next (all_piece around body (tested_body n c) free) p)) first_is ∙ (ap next body_ends ∙ jump_ends) in
          told_as _ (three_on (starts body (tested_body n c) sh) (branch_starts r (behind_body n c body) sh)
          (starts els (J.behind_branches r (behind_body n c body)) sh))
          (beside other_is
          (blocked (after (value_still c n) value_ends (after tt act_ends
          (before (closed (all_stand body (tested_body n c) free sh h.1 g.0 e.0 [] x m2 m3 q
          (nests.goes_by_jump around code table endings sh x m3 other to (code_of.same_instr around code table agree truths x _ j' None m3 other i' k') goes)
          (subst (λ p. Told (loops_of_all around next body (tested_body n c) free x.depth (loop_of x.around) p)) first_is (told_front _ _ t)))) tt))))
          (branches_stand r els v (behind_body n c body) sh h.2 g.1 e.1 f d dp L x other to z goes
          (subst (λ p. Told (loops_of_branches around next r (behind_body n c body) x.depth (loop_of x.around) p)) other_is (told_back _ _ t))
          (subst (λ p. Told (loops_of_all around next els (J.behind_branches r (behind_body n c body)) v x.depth (loop_of x.around)
          (behind_tests around next r (behind_body n c body) p)))
          other_is u)))

      handlers_stand : (hs : Handlers) (n : ℕ) (sh : Shape) → Handlers_named around hs n → Handlers_grammatical hs → Handlers_else_apart hs n sh
          → Handlers_stand (handlers_piece around hs n) (loops_of_handlers around next hs n) sh (first_on (handler_starts hs n sh))
      handlers_stand S.no_handlers n sh h g e = λ L x end dp from to a goes t. still tt
      handlers_stand (S.handler l S.absent y body r) n sh h g e = λ L x end dp from to a goes t.
          let same_number : n ≡ n + 0 = omega arith in
          let d : All_else_apart body (handler_body n y) (with_name y (handling n tt ∷ sh)) × Handlers_else_apart r (handler_body n y + stms_size body) sh =
          subst (λ k. All_else_apart body (handler_body k y) (with_name y (handling k tt ∷ sh)) × Handlers_else_apart r
          (handler_body k y + stms_size body) sh) (sym same_number) e in
          subst (λ k. Walks (handlers_piece around (S.handler l S.absent y body r) n) from
          (first_on (starts body (handler_body k y) (with_name y (handling k tt ∷ sh)) ++ handler_starts r (handler_body k y + stms_size body) sh))) same_number
          (told_as _ (on_both line (starts body (handler_body n y) (with_name y (handling n tt ∷ sh)))
          (handler_starts r (handler_body n y + stms_size body) sh))
          (handler_stands null_piece l n y body (handlers_piece around r (handler_body n y + stms_size body))
          (loops_of_handlers around next r (handler_body n y + stms_size body)) sh
          (first_on (handler_starts r (handler_body n y + stms_size body) sh)) tt
          (λ m z. all_stand body m free (with_name y (handling n tt ∷ sh)) (subst (λ k. All_named around body k) (sym z) h.0) g.0
          (subst (λ k. All_else_apart body k (with_name y (handling n tt ∷ sh))) (sym z) d.0))
          (handlers_stand r (handler_body n y + stms_size body) sh h.1 g.1 d.1) L x end dp from to a goes t))
      handlers_stand (S.handler l (S.given q) y body r) n sh h g e = λ L x end dp from to a goes t.
          told_as _ (on_both line (starts body (handler_body (n + size q) y) (with_name y (handling (n + size q) tt ∷ sh)))
          (handler_starts r (handler_body (n + size q) y + stms_size body) sh))
          (handler_stands (value_piece around q n) l (n + size q) y body (handlers_piece around r (handler_body (n + size q) y + stms_size body))
          (loops_of_handlers around next r (handler_body (n + size q) y + stms_size body)) sh
          (first_on (handler_starts r (handler_body (n + size q) y + stms_size body) sh)) (value_still q n)
          (λ m z. all_stand body m free (with_name y (handling (n + size q) tt ∷ sh)) (subst (λ k. All_named around body k) (sym z) h.1) g.0
          (subst (λ k. All_else_apart body k (with_name y (handling (n + size q) tt ∷ sh))) (sym z) e.0))
          (handlers_stand r (handler_body (n + size q) y + stms_size body) sh h.2 g.1 e.1) L x end dp from to a goes t)
