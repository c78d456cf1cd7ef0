-- Where an exit of a loop leads there stands an instruction.
use Rattle.std.proofs.Common.{◌≡◌, ⊎_elim, ℕ, zero, suc, true, false, List, [], ◌∷◌, length, Option, Some, None, refl, sym, ap, ◌∙◌, subst, arith}
use Rattle.std.proofs.lemmas.Bool.{cases_lt}
use Rattle.pt_tree.specs.Syntax.{Stms}
use Rattle.pt_tree.specs.Blocks as B
use Rattle.pt_tree.specs.Blocks.{Code, function_body}
use Rattle.pt_instr.specs.declared.Instr.{Instr}
use Rattle.pt_instr.specs.declared.Instr.TheVariants as instr
use Rattle.pt_instr.specs.declared.kinds.Kind.TheVariants.{Iter}
use Rattle.pt_ranges.specs.declared.handlers.Handler.{Handler}
use Rattle.pt_ranges.specs.declared.lines.ActMark.{ActMark}
use Rattle.pt_code.specs.declared.Start.{Start}
use Rattle.sem_control.specs.control.Turn.{Around}
use Rattle.sem_code.specs.slots.CodeObject.{CodeObject}
use Rattle.sem_code.specs.slots.Stretches.{Stands, act_mark}
use Rattle.pt_assembler.specs.declared.operation.Exit.{Exit}
use Rattle.pt_assembler.specs.declared.operation.Exit.TheVariants.{Break, Continue}
use Rattle.pt_assembler.specs.declared.operation.Target.{Target}
use Rattle.pt_assembler.specs.Piece as P
use Rattle.pt_assembler.specs.Piece.{Piece, pick}
use Rattle.pt_assembler.specs.PieceAt.{target, start_of, Exits, exit_of, Context, in_loop, under, over, row_of, Exit_at, Piece_at}
use Rattle.law_operands.specs.law_files.sem_compile.emitter.ExpPiece.{null_piece}
use Rattle.sem_fits.specs.fits.Block.{Block}
use Rattle.law_operands.specs.law_files.sem_compile.stm_pieces.Needed.{free}
use Rattle.law_operands.specs.law_files.sem_compile.stm_pieces.StmPiece.{all_piece, block_piece, lambda_piece, generator_piece, code_piece}
use Rattle.law_pieces.specs.piece_kinds.Walk.{Loop, StackMap, some, deepened, Setting, with_label, with_none, with_loop, end_of, behind}
use Rattle.law_pieces.specs.piece_kinds.Table.{next_of, Rises, Table}
use Rattle.law_pieces.specs.piece_kinds.Exits.{exit_in, ExitsAre}
use Rattle.law_pieces.specs.piece_kinds.Laws.{outermost, table_of}
use Rattle.law_pieces.proofs.piece_kinds.PieceLaw.{not_both, is_some_of, ends, Laid, nowhere}
use Rattle.law_pieces.proofs.piece_kinds.Finds.{Finds, Fit, finds}
use Rattle.law_pieces.proofs.piece_kinds.OriginLaw.{has_kinds}
use Rattle.law_typed_pieces.specs.typed_pieces.Laws.{first_slots}
use Rattle.law_typed_pieces.proofs.typed_pieces.Plain.{plain_exits}
use Rattle.law_typed_pieces.proofs.typed_pieces.Tables.{Ready, all_ready, have_tables, lambda_plain, generator_plain}
use Rattle.law_typed_pieces.proofs.agreement.Agreement.{blocks_agree}
use Rattle.law_typed_pieces.specs.leave_targets.Laws.{LeavesLeadInside, BlocksAgreeThere}

abbrev nothing_around : Context
nothing_around = record { rows = []; depth = 0; around = None }

-- an instruction stands there
abbrev pub Holds : Block → (pc : ℕ) → Type 0
Holds b pc = b.at pc ≡ None → ⊥

module _ {V : Type 0} (code : CodeObject V) (starts : List Start) (b : Block) (same : (pc : ℕ) → code.at pc ≡ b.at pc) where
  pub holds : (rows : List Handler) (j : Instr) (m : Option ActMark) (from to : ℕ) → Stands code rows j m from to → Holds b from
  holds rows j m from to s e = not_both (sym s ∙ (same from ∙ e))

  leave_holds : (o : Option Exits) (e : Exit) (n l : ℕ) (rows : List Handler) (from to : ℕ) → Exit_at code starts o e n l rows from to → Holds b from
  leave_holds None e n l rows from to s = absurd s
  leave_holds (Some y) e n l rows from to s = holds rows (instr.Leave (exit_of e y).pc) (act_mark from n l false) from to s.1

  -- where one stands behind a piece, there one stands where it begins
  pub front : (p : Piece) (L : List Target) (x : Context) (from to : ℕ) → Piece_at code starts p L x from to → Holds b to → Holds b from
  front P.empty L x from to s h = subst (Holds b) (sym s) h
  front (P.act op n l g) L x from to (j, i, s) h = holds x.rows j (act_mark from n l g) from to s
  front (P.move op) L x from to (j, i, s) h = holds x.rows j None from to s
  front (P.seq a d) L x from to (m, s, t) h = front a L x from m s (front d L x m to t h)
  front (P.block q) L x from to s h = front q (target to x.depth ∷ L) x from to s h
  front (P.headed q) L x from to s h = front q (target from x.depth ∷ L) x from to s h
  front (P.closed q) L x from to s h = front q [] x from to s h
  front (P.looped k q) L x from to (u, v, s) h = front q [] (in_loop (pick start_of L k) to x) from to s h
  front (P.leave e n l) L x from to s h = leave_holds x.around e n l x.rows from to s
  front (P.ensured q) L x from to (u, (m, s, t)) h =
      front q [] (under (row_of from to to x.depth true) x) from m s (holds (row_of from to to x.depth true ∷ x.rows) instr.Normal None m to t)
  front (P.caught q r) L x from to (m, s, t) h = front q [] (under (row_of from m to x.depth false) x) from m s (front r L x m to t h)
  front (P.deeper k q) L x from to s h = front q L (over k x) from to s h
  front (P.started l q) L x from to (u, s) h = front q L x from to s h
  front (P.numbered n q) L x from to s h = front q L x from to s h

module _ {V : Type 0} (code : CodeObject V) (starts : List Start) (b : Block) (same : (pc : ℕ) → code.at pc ≡ b.at pc) (rises : Rises b) where
  abbrev next : ℕ → ℕ
  next = next_of b

  abbrev AllHold : List ℕ → Type 0
  AllHold ls = (k : ℕ) → Holds b (pick 0 ls k)

  -- where the exits of a loop lead
  abbrev ExitHolds : Option Loop → (base : StackMap) → Exit → Type 0
  ExitHolds x base e = Holds b (exit_in e x)

  hold_more : (p : ℕ) (ls : List ℕ) → Holds b p → AllHold ls → AllHold (p ∷ ls)
  hold_more p ls h f zero = h
  hold_more p ls h f (suc k) = f k

  loop_holds : (k end depth : ℕ) (ls : List ℕ) (base : StackMap) → AllHold ls → Holds b end → (e : Exit)
      → ExitHolds (Some (record { break_to = pick 0 ls k; continue_to = end; depth = depth })) base e
  loop_holds k end depth ls base f h Break = f k
  loop_holds k end depth ls base f h Continue = h

  module _ (first : Holds b 0) (W : Option Loop → (base : StackMap) → Exit → Type 0) where
    -- where labels, the exits of the loop around and the end of a piece have instructions, there the exits in it lead to some
    lead : (p : Piece) (L : List Target) (x : Context) (c : Setting) (base : StackMap) (from to : ℕ) (s : Option StackMap) → Piece_at code starts p L x from to
        → AllHold c.labels → ((e : Exit) → ExitHolds c.loop base e) → Holds b to → ExitsAre b.links next W p c base from s → ExitsAre b.links next ExitHolds p c base from s
    lead p L x c base from to None u f g h w = tt
    lead P.empty L x c base from to (Some ks) u f g h w = tt
    lead (P.act op n l a) L x c base from to (Some ks) u f g h w = w
    lead (P.move op) L x c base from to (Some ks) u f g h w = w
    lead (P.seq a d) L x c base from to (Some ks) (m, u, v) f g h w = (
      lead a L x c base from m (Some ks) u f g (front code starts b same d L x m to v h) w.0,
      lead d L x c base (end_of next a from) to (behind b.links next a c base from (Some ks))
          (subst (λ z. Piece_at code starts d L x z to) (sym (ends code starts b same rises a L x from m u)) v) f g h w.1,
    )
    lead (P.block q) L x c base from to (Some ks) u f g h w =
        lead q (target to x.depth ∷ L) x (with_label (end_of next q from) c) base from to (Some ks) u
        (hold_more (end_of next q from) c.labels (subst (Holds b) (sym (ends code starts b same rises q (target to x.depth ∷ L) x from to u)) h) f) g h w
    lead (P.headed q) L x c base from to (Some ks) u f g h w =
        lead q (target from x.depth ∷ L) x (with_label from c) base from to (Some ks) u
        (hold_more from c.labels (front code starts b same q (target from x.depth ∷ L) x from to u h) f) g h w
    lead (P.closed q) L x c base from to (Some ks) u f g h w = lead q [] x (with_none c) base from to (Some ks) u (λ k. first) g h w
    lead (P.looped k q) L x c base from to (Some ks) (y, z, u) f g h w =
        lead q [] (in_loop (pick start_of L k) to x) (with_loop k (end_of next q from) (length base) c) base from to (Some ks) u (λ i. first)
        (loop_holds k (end_of next q from) (length base) c.labels base f
        (subst (Holds b) (sym (ends code starts b same rises q [] (in_loop (pick start_of L k) to x) from to u)) h)) h w
    lead (P.leave e n l) L x c base from to (Some ks) u f g h w = g e
    lead (P.ensured q) L x c base from to (Some ks) (y, (m, u, v)) f g h w =
        lead q [] (under (row_of from to to x.depth true) x) (with_none c) base from m (Some ks) u (λ k. first) g
        (holds code starts b same (row_of from to to x.depth true ∷ x.rows) instr.Normal None m to v) w
    lead (P.caught q r) L x c base from to (Some ks) (m, u, v) f g h w = (
      lead q [] (under (row_of from m to x.depth false) x) (with_none c) base from m (Some ks) u (λ k. first) g (front code starts b same r L x m to v h) w.0,
      lead r L x c base (end_of next q from) to (behind b.links next q (with_none c) base from (Some ks))
          (subst (λ z. Piece_at code starts r L x z to) (sym (ends code starts b same rises q [] (under (row_of from m to x.depth false) x) from m u)) v) f g h w.1,
    )
    lead (P.deeper k q) L x c base from to (Some ks) u f g h w = lead q L (over k x) c (deepened k base (Some ks)) from to (Some ks) u f g h w
    lead (P.started l q) L x c base from to (Some ks) (y, u) f g h w = lead q L x c base from to (Some ks) u f g h w
    lead (P.numbered n q) L x c base from to (Some ks) u f g h w = lead q L x c base from to (Some ks) u f g h w

  module _ {A : Type 0} (around : Around A) where
    -- statements have an instruction behind them
    in_statements : (ss : Stms) → Ready code starts b (block_piece around ss) [] → ExitsAre b.links next ExitHolds (block_piece around ss) outermost [] 0 (Some [])
    in_statements ss r =
        let (m, u, (k, (j, i, v), t)) = r.stands in
        let mid : Holds b m = holds code starts b same [] j None m k v in
        let first : Holds b 0 = front code starts b same (all_piece around ss 0 free) [] nothing_around 0 m u mid in (
          lead first _ (all_piece around ss 0 free) [] nothing_around outermost [] 0 m (Some []) u (λ k. first) (λ e. first) mid (r.exits).0,
          plain_exits b.links next ExitHolds (P.seq null_piece (P.move (P.plain instr.Return))) outermost [] (end_of next (all_piece around ss 0 free) 0)
              (behind b.links next (all_piece around ss 0 free) outermost [] 0 (Some [])) (tt, refl),
        )

    in_code : (c : Code) → Ready code starts b (code_piece around c) (first_slots c)
        → ExitsAre b.links next ExitHolds (code_piece around c) outermost [] 0 (Some (first_slots c))
    in_code (B.of_module ss) r = in_statements ss r
    in_code (B.of_function ss) r = in_statements (function_body ss) r
    in_code (B.of_class ss) r = in_statements ss r
    in_code (B.of_lambda l e) r = plain_exits b.links next ExitHolds (lambda_piece around l e) outermost [] 0 (Some []) (lambda_plain around l e)
    in_code (B.of_generator l e k t cs) r =
        plain_exits b.links next ExitHolds (generator_piece around l e k t cs) outermost [] 0 (Some (some Iter ∷ [])) (generator_plain around l e k t cs)

  module _ (p : Piece) (ks : StackMap) (r : Ready code starts b p ks) (exits : ExitsAre b.links next ExitHolds p outermost [] 0 (Some ks)) where
    abbrev at : Table
    at = table_of b p ks

    whole : Laid code starts b same rises at p [] nothing_around outermost [] [] 0 b.size (Some ks)
    whole = record { stands = r.stands; typed = (r.whole).typed; agrees = λ i u v. refl; after = λ ms e. not_both (sym e ∙ (r.whole).ends) }

    fit : Fit code starts b same rises at ExitHolds [] nothing_around outermost []
    fit = record { places = λ k. refl; rows = tt; depth = refl; deep = omega arith; around = tt }

    -- what the instruction of each place finds
    found : (q : ℕ) (zs : StackMap) → table_of b p ks q ≡ Some zs → Finds b (table_of b p ks) ExitHolds [] [] q zs
    found q zs h = ⊎_elim
        (λ u. finds code starts b same rises at ExitHolds p [] nothing_around outermost [] [] 0 b.size (Some ks) whole exits fit q (omega arith) u zs h)
        (λ u. not_both (sym h ∙ nowhere code starts b same rises p [] nothing_around outermost [] 0 b.size (Some ks) r.stands q u)) (cases_lt q b.size)

pub leaves_lead_inside : {A V : Type 0} → LeavesLeadInside A V
leaves_lead_inside {A} {V} around c code starts b cells captures h same rises stands e s =
    let r = all_ready around c code starts b cells captures h same rises stands e in
    let t = have_tables around c code starts b cells captures h same rises stands e in
    let k = has_kinds b (table_of b (code_piece around c) (first_slots c)) t.first t.start t.kinds t.agrees (s.reached).gets in
    let u = found code starts b same rises (code_piece around c) (first_slots c) r (in_code code starts b same rises around c r) s.pc k.slots k.there in
    let there : u.here ≡ s.ins = is_some_of (sym u.stands ∙ (s.reached).stands) in
    let v = u.leaves (s.target).0 (ap (λ i. i.instr) there ∙ s.leaves) in
    v.3 (ap b.at (sym v.2) ∙ s.nowhere)

pub blocks_agree_there : {A V : Type 0} → BlocksAgreeThere A V
blocks_agree_there {A} {V} around c code starts b cells captures h same rises stands e f =
    let m = blocks_agree around c code starts b cells captures h same rises stands e in record {
      lengths = m.lengths;
      handlers = m.handlers;
      enough = m.enough;
      kinds = λ k. f (m.kinds k);
      inside = λ s. leaves_lead_inside around c code starts b cells captures h same rises stands e (m.inside s);
    }
