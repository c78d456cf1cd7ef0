-- The acts of a block lie in their parts.
use Rattle.std.proofs.Common.{◌≡◌, inl, inr, ⊎_elim, ℕ, ◌+◌, ◌≤◌, ◌<◌, Bool, true, false, if◌then◌else◌, List, [], ◌∷◌, ◌++◌, length, Some, refl, sym, ap, ◌∙◌, subst, arith}
use Rattle.std.proofs.lemmas.Bool.{cases_lt}
use Rattle.pt_tree.specs.Syntax.{Exp, Clauses, Tgt, Stms}
use Rattle.pt_tree.specs.Sizes.{target_size, stms_size}
use Rattle.pt_tree.specs.Blocks as B
use Rattle.pt_tree.specs.Blocks.{Code, acts_of_code, function_body}
use Rattle.pt_instr.specs.declared.Instr.TheVariants as instr
use Rattle.pt_instr.specs.declared.kinds.Kind.TheVariants.{Iter}
use Rattle.pt_code.specs.declared.Start.{Start}
use Rattle.sem_control.specs.control.Turn.{Around}
use Rattle.sem_control.specs.control.Jump.{Part, Shape, same as same_part}
use Rattle.sem_code.specs.slots.CodeObject.{CodeObject}
use Rattle.pt_assembler.specs.Piece as P
use Rattle.pt_assembler.specs.PieceAt.{Piece_at}
use Rattle.sem_fits.specs.fits.Block.{Block}
use Rattle.sem_compile.specs.stm_pieces.Needed.{free}
use Rattle.sem_compile.specs.stm_pieces.Names.{TakesCells, All_named, Code_named}
use Rattle.sem_compile.specs.stm_pieces.StmPiece.{block_piece, lambda_piece, yielded_piece, generator_piece, code_piece}
use Rattle.sem_compile.specs.stm_pieces.Laws.{outermost, slots_of}
use Rattle.sem_compile.specs.emitter.ExpPiece.{null_piece}
use Rattle.law_pieces.specs.piece_kinds.Walk.{StackMap, some}
use Rattle.law_pieces.specs.piece_kinds.Table.{next_of, Rises, Table}
use Rattle.law_pieces.specs.piece_kinds.Laws as kinds
use Rattle.law_pieces.specs.piece_kinds.Laws.{table_of}
use Rattle.law_pieces.proofs.piece_kinds.PieceLaw.{not_both, is_some_of, nowhere, Laid}
use Rattle.law_typed_pieces.specs.typed_pieces.Laws.{first_slots}
use Rattle.law_typed_pieces.proofs.typed_pieces.Blocks.{pieces_are_typed}
use Rattle.sem_control.specs.control.ClosedParts.{All_apart}
use Rattle.sem_control.proofs.control.PartsApart.{parts_apart}
use Rattle.law_parts.specs.part_slots.Slots.{PartSlot, slots_of_all, slots_of_code}
use Rattle.law_parts.specs.part_slots.Parts.{slot_in, AreOf, AreOthers}
use Rattle.law_parts.specs.part_slots.Text.{All_grammatical, Code_grammatical}
use Rattle.law_parts.specs.part_slots.Laws.{HasParts, PlaceInParts}
use Rattle.law_parts.proofs.part_slots.Walks.{Told}
use Rattle.law_parts.proofs.part_slots.Keys.{all_keys, each_told}
use Rattle.law_parts.specs.plain_slots.Plain.{Each}
use Rattle.law_parts.proofs.plain_slots.Forms as forms
use Rattle.law_parts.proofs.plain_slots.Simple as simple
use Rattle.sem_control.specs.control.Nests.{Each_says, Stms_say, Code_says}
use Rattle.law_parts.specs.act_parts.Laws.{placed_in, ActAt, ActsLieInParts}
use Rattle.law_parts.proofs.act_parts.Walk.{In, Placed, Has, leaf, front_all, higher, all_stand}

in_found : (ss : List PartSlot) (q : Part) (s : PartSlot) → slot_in ss q ≡ Some s → In s ss
in_found [] q s e = not_both (sym e)
in_found (u ∷ us) q s e = by (same_part u.part q) (in_found us q s) e
  where
    by : (t : Bool) → (slot_in us q ≡ Some s → In s us) → (if t then Some u else slot_in us q)
        ≡ Some s → In s (u ∷ us)
    by true f e = inl (sym (is_some_of e))
    by false f e = inr (f e)

any : ℕ → Type 0
any j = Unit {0}

module _ {A V : Type 0} (around : Around A) (c : Code) (code : CodeObject V) (table : List Start)
    (b : Block) (cells : TakesCells around)
    (captures : (n : ℕ) → b.links.captures n ≡ length (around.captured n)) (named : Code_named
    around c) (same : (pc : ℕ) → code.at pc ≡ b.at pc) (rises : Rises b)
    (stands : Piece_at code table (code_piece around c) [] (outermost (slots_of c)) 0 b.size)
    (p : HasParts around c table b) (pc : ℕ)
    (a : ActAt (table_of b (code_piece around c) (first_slots c)) b pc) (Q : List Part → Type 0)
    (f : (ps : List Part) → PlaceInParts b p.part pc a.slots ps → Q ps) where
  abbrev at : Table
  at = table_of b (code_piece around c) (first_slots c)

  abbrev slots : List PartSlot
  slots = slots_of_code around (next_of b) c

  abbrev Reads : Shape → (act : ℕ) → Type 0
  Reads s act = act ≡ a.mark.act.0 → Q (placed_in s)

  shown : (ps : List Part) (above base : StackMap) → a.slots ≡ above ++ base → AreOf (slot_in slots)
      ps base → AreOthers (slot_in slots) above → Q ps
  shown ps above base e h g = f ps (subst (λ ks. PlaceInParts b p.part pc ks ps) (sym e)
      (p.places pc above base ps (a.kept ∙ ap Some e) h g))

  whole : Laid code table b same rises at (code_piece around c) [] (outermost (slots_of c))
      kinds.outermost [] [] 0 b.size (Some (first_slots c))
  whole = let w = pieces_are_typed around b cells captures c named in record {
    stands = stands;
    typed = w.typed;
    agrees = λ r u v. refl;
    after = λ ms g. not_both (sym g ∙ w.ends);
  }

  placed : Placed code table b same rises at (slot_in slots) pc a.instr a.there a.mark a.marked
      a.slots a.kept 0 b.size slots
  placed = record {
    low = omega arith;
    high = ⊎_elim (λ l. l) (λ l. not_both (sym a.kept ∙ nowhere code table b same rises
        (code_piece around c) [] (outermost (slots_of c)) kinds.outermost [] 0 b.size
        (Some (first_slots c)) stands pc l)) (cases_lt pc b.size);
    out = λ q s e. inr (inr (in_found slots q s e));
  }

  read : {n z : ℕ} {T : Type 0} → Has code table b same rises at (slot_in slots) pc a.instr a.there
      a.mark a.marked a.slots a.kept (code_piece around c) kinds.outermost [] 0
      (first_slots c) n z slots T → T
  read u = u.has [] (outermost (slots_of c)) [] b.size whole (λ y v. placed)

  -- of a block that is one plain piece
  all_lie : (n z : ℕ) → Has code table b same rises at (slot_in slots) pc a.instr a.there a.mark
      a.marked a.slots a.kept (code_piece around c) kinds.outermost [] 0 (first_slots c) n z slots
      (n ≤ a.mark.act.0 → a.mark.act.0 < z → Q []) → Each_says Reads [] n z
  all_lie n z u j y v e = read u (subst (λ k. n ≤ k) e y) (subst (λ k. k < z) e v)

module _ {A V : Type 0} (around : Around A) (code : CodeObject V) (table : List Start) (b : Block)
    (cells : TakesCells around)
    (captures : (n : ℕ) → b.links.captures n ≡ length (around.captured n)) (same : (pc : ℕ)
    → code.at pc ≡ b.at pc) (rises : Rises b) (at : Table) (pc : ℕ) (a : ActAt at b pc)
    (Q : List Part → Type 0) where
  -- a block of statements
  block_has : (ss : Stms) → All_named around ss 0 → All_grammatical ss
      → ((ps : List Part) (above base : StackMap) → a.slots ≡ above ++ base
      → AreOf (slot_in (slots_of_all around (next_of b) ss 0 free 0 0)) ps base
      → AreOthers (slot_in (slots_of_all around (next_of b) ss 0 free 0 0)) above → Q ps)
      → Has code table b same rises at (slot_in (slots_of_all around (next_of b) ss 0 free 0 0)) pc
      a.instr a.there a.mark a.marked a.slots a.kept (block_piece around ss) kinds.outermost []
      0 [] 0 (0 + stms_size ss) (slots_of_all around (next_of b) ss 0 free 0 0)
      (Stms_say (λ s act. act ≡ a.mark.act.0 → Q (placed_in s)) ss 0 [])
  block_has ss named g shown =
      front_all code table b same rises at (slot_in slots) pc a.instr a.there a.mark a.marked
      a.slots a.kept
      (all_stand code table b same rises at (slot_in slots) pc a.instr a.there a.mark a.marked
      a.slots a.kept around cells captures Q shown ss 0 free [] refl named g kinds.outermost [] 0 tt
      told)
      (λ u v. higher code table b same rises at (slot_in slots) pc a.instr a.there a.mark a.marked
      a.slots a.kept (P.seq null_piece (P.move (P.plain instr.Return))) (tt, tt))
    where
      slots : List PartSlot
      slots = slots_of_all around (next_of b) ss 0 free 0 0

      told : Told (slot_in slots) slots
      told = each_told slots (subst All_apart (sym (all_keys around (next_of b) ss 0 free 0 0))
          (parts_apart ss))

module _ {A : Type 0} (around : Around A) where
  lambda_plain : (l : ℕ) (e : Exp) → Each any (lambda_piece around l e)
  unfolding any
  lambda_plain l e = (simple.val any (λ n k r. tt) around e 0 tt, (refl, tt))

  yielded_plain : (l : ℕ) (e : Exp) (n : ℕ) → Each any (yielded_piece around l e n)
  unfolding any
  yielded_plain l e n = (
    simple.val any (λ n k r. tt) around e n tt,
    ((refl, tt), ((refl, tt), refl)),
  )

  generator_plain : (l : ℕ) (e : Exp) (k : ℕ) (t : Tgt) (cs : Clauses) → Each any (generator_piece
      around l e k t cs)
  unfolding any
  generator_plain l e k t cs = (
    (
      (refl, tt),
      (
        forms.target any (λ n k r. tt) around t (0 + 1) [] tt,
        forms.clauses any (λ n k r. tt) around cs l (0 + 1 + target_size t) 1 []
            (λ n d. yielded_piece around l e n) (λ n d r. yielded_plain l e n) tt,
      ),
    ),
    (refl, refl),
  )

-- whatever is shown of parts in which a place lies
pub acts_lie_so : {A V : Type 0} (around : Around A) (c : Code) (code : CodeObject V)
    (table : List Start) (b : Block) → TakesCells around
    → ((n : ℕ) → b.links.captures n ≡ length (around.captured n)) → Code_named around c
    → ((pc : ℕ) → code.at pc ≡ b.at pc) → Rises b
    → Piece_at code table (code_piece around c) [] (outermost (slots_of c)) 0 b.size
    → Code_grammatical c → (p : HasParts around c table b) (pc : ℕ)
    → (a : ActAt (table_of b (code_piece around c) (first_slots c)) b pc) (Q : List Part → Type 0)
    → ((ps : List Part) → PlaceInParts b p.part pc a.slots ps → Q ps)
    → Code_says (λ s act. act ≡ a.mark.act.0 → Q (placed_in s)) c
acts_lie_so around (B.of_module ss) code table b cells captures named same rises stands g p pc a Q
    f =
    read around (B.of_module ss) code table b cells captures named same rises stands p pc a Q f
    (block_has around code table b cells captures same rises (table_of b (block_piece around ss) [])
    pc a Q ss named g
    (shown around (B.of_module ss) code table b cells captures named same rises stands p pc a Q f))
acts_lie_so around (B.of_function ss) code table b cells captures named same rises stands g p pc a Q
    f =
    read around (B.of_function ss) code table b cells captures named same rises stands p pc a Q f
    (block_has around code table b cells captures same rises (table_of b (block_piece around
    (function_body ss)) []) pc a Q (function_body ss) named g
    (shown around (B.of_function ss) code table b cells captures named same rises stands p pc a Q
    f))
acts_lie_so around (B.of_class ss) code table b cells captures named same rises stands g p pc a Q
    f =
    read around (B.of_class ss) code table b cells captures named same rises stands p pc a Q f
    (block_has around code table b cells captures same rises (table_of b (block_piece around ss) [])
    pc a Q ss named g
    (shown around (B.of_class ss) code table b cells captures named same rises stands p pc a Q f))
acts_lie_so around (B.of_lambda l e) code table b cells captures named same rises stands g p pc a Q
    f =
    let w = pieces_are_typed around b cells captures (B.of_lambda l e) named in
    all_lie around (B.of_lambda l e) code table b cells captures named same rises stands p pc a Q f
    0 (length (acts_of_code (B.of_lambda l e)))
    (leaf code table b same rises (table_of b (lambda_piece around l e) []) (slot_in []) pc a.instr
    a.there a.mark a.marked a.slots a.kept Q
    (shown around (B.of_lambda l e) code table b cells captures named same rises stands p pc a Q f)
    any [] [] [] [] (lambda_plain around l e) w.typed tt tt)
acts_lie_so around (B.of_generator l e k t cs) code table b cells captures named same rises stands g
    p pc a Q f =
    let w = pieces_are_typed around b cells captures (B.of_generator l e k t cs) named in
    all_lie around (B.of_generator l e k t cs) code table b cells captures named same rises stands p
    pc a Q f 0 (length (acts_of_code (B.of_generator l e k t cs)))
    (leaf code table b same rises (table_of b (generator_piece around l e k t cs) (some Iter ∷ []))
    (slot_in []) pc a.instr a.there a.mark a.marked a.slots a.kept
    Q (shown around (B.of_generator l e k t cs) code table b cells captures named same rises stands
    p pc a Q f) any [] [] [] (some Iter ∷ [])
    (generator_plain around l e k t cs) w.typed (((λ f. (let g : ⊥ = cc in g)), tt), tt) tt)

pub acts_lie : {A V : Type 0} → ActsLieInParts A V
acts_lie around c code table b cells captures named same rises stands g p pc a =
    acts_lie_so around c code table b cells captures named same rises stands g p pc a
    (λ ps. PlaceInParts b p.part pc a.slots ps) (λ ps h. h)
