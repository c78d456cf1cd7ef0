-- Statements of a block lie in their parts.
use Rattle.std.proofs.Common.{◌≡◌, ℕ, Bool, true, false, if◌then◌else◌, nat_eq, List, [], ◌∷◌, ◌++◌, length, Contains, Option, Some, None, refl, sym, ap, ◌∙◌, subst, eqb-true}
use Rattle.sem_fits.specs.comp_jumps.Parts.{Closed}
use Rattle.pt_tree.specs.Syntax.{Stms}
use Rattle.pt_tree.specs.Blocks as B
use Rattle.pt_tree.specs.Blocks.{Code, function_body}
use Rattle.pt_code.specs.declared.Start.{Start}
use Rattle.sem_control.specs.control.Turn.{Around}
use Rattle.sem_control.specs.control.Jump.{Part, parts, Target, starts, on_line}
use Rattle.sem_control.specs.control.ClosedParts.{All_apart}
use Rattle.sem_control.proofs.control.PartsApart.{parts_apart}
use Rattle.sem_code.specs.slots.CodeObject.{CodeObject}
use Rattle.pt_assembler.specs.PieceAt.{Piece_at}
use Rattle.sem_fits.specs.fits.Block.{Block}
use Rattle.sem_compile.specs.stm_pieces.Needed.{free}
use Rattle.sem_compile.specs.stm_pieces.Names.{TakesCells, All_named}
use Rattle.sem_compile.specs.stm_pieces.StmPiece.{block_piece, code_piece}
use Rattle.law_pieces.specs.piece_kinds.Walk.{StackMap, kinds_of}
use Rattle.law_pieces.specs.piece_kinds.Table.{next_of, Rises, Table, IsTableOf}
use Rattle.law_pieces.specs.piece_kinds.Laws as kinds
use Rattle.law_pieces.specs.piece_kinds.Laws.{table_of}
use Rattle.law_pieces.proofs.piece_kinds.PieceLaw.{not_both, is_some_of, Laid}
use Rattle.law_typed_pieces.specs.typed_pieces.Laws.{first_slots, IsWhole}
use Rattle.law_typed_pieces.proofs.typed_pieces.Blocks.{pieces_are_typed}
use Rattle.law_typed_pieces.proofs.typed_pieces.Tables.{at_depth, have_tables}
use Rattle.law_parts.specs.part_slots.Slots.{PartSlot, slots_of_all}
use Rattle.law_parts.specs.part_slots.Parts.{slot_in, AreOf, AreOthers}
use Rattle.law_pieces.specs.first_starts.First.{first_start}
use Rattle.law_parts.specs.part_slots.Text.{All_grammatical, All_else_apart}
use Rattle.law_parts.specs.part_slots.Laws.{PlaceInParts, StatementInParts, StatementsLieInParts}
use Rattle.law_parts.proofs.part_slots.On.{body_some}
use Rattle.law_parts.proofs.part_slots.Walks.{Told, Meets, neither, both, Walks, before, all_stand}
use Rattle.law_parts.proofs.part_slots.Apart.{All_made_apart, all_spread}
use Rattle.law_parts.proofs.part_slots.Keys.{all_keys, each_told}
use Rattle.law_parts.proofs.part_slots.Lies.{fills, part_by, in_parts}

line_of : (line : ℕ) (ts : List Target) (t : Target) → on_line line ts ≡ Some t → t.line ≡ line
line_of line [] t e = not_both (sym e)
line_of line (u ∷ us) t e = by (nat_eq u.line line) refl (line_of line us t) e
  where
    by : (s : Bool) → nat_eq u.line line ≡ s → (on_line line us ≡ Some t → t.line ≡ line) → (if s then Some u else on_line line us) ≡ Some t → t.line ≡ line
    by true f g e = ap (λ (z : Target). z.line) (sym (is_some_of e)) ∙ eqb-true u.line line f
    by false f g e = g e

module _ {A V : Type 0} (around : Around A) (code : CodeObject V) (table : List Start) (b : Block) (cells : TakesCells around)
    (captures : (n : ℕ) → b.links.captures n ≡ length (around.captured n)) (same : (pc : ℕ) → code.at pc ≡ b.at pc) (rises : Rises b) where
  -- a block of statements
  module _ (ss : Stms) (named : All_named around ss 0) (grammatical : All_grammatical ss) (apart : All_else_apart ss 0 [])
      (w : IsWhole b (block_piece around ss) []) (stands : Piece_at code table (block_piece around ss) [] (at_depth 0) 0 b.size)
      (is : IsTableOf b (table_of b (block_piece around ss) [])) where
    abbrev at : Table
    at = table_of b (block_piece around ss) []

    abbrev slots : List PartSlot
    slots = slots_of_all around (next_of b) ss 0 free 0 0

    told : Told (slot_in slots) slots
    told = each_told slots (subst All_apart (sym (all_keys around (next_of b) ss 0 free 0 0)) (parts_apart ss))

    made_apart : All_made_apart slots
    made_apart =
        let s = all_spread code table b same rises around (body_some around b.links (next_of b) cells captures) ss 0 0 free named grammatical in
        let r = s.spread [] (at_depth 0) 0 stands.0 stands.1 in r.apart

    abbrev part : Part → Closed b
    part q = let p = part_by b at is (slot_in slots q) in p.part

    in_place : (pc : ℕ) (above base : StackMap) (ps : List Part) → at pc ≡ Some (above ++ base) → AreOf (slot_in slots) ps base → AreOthers (slot_in slots) above
        → PlaceInParts b part pc (above ++ base) ps
    in_place pc above base ps e a o = in_parts b at is slots made_apart pc ps above base e a o

    meets : (line : ℕ) → Meets code table b same rises at (slot_in slots) line (on_line line (starts ss 0 [])) (first_start (next_of b) line (block_piece around ss) 0)
    meets line = walk.walks [] (at_depth 0) [] b.size whole
      where
        walk : Walks code table b same rises at (slot_in slots) line (block_piece around ss) kinds.outermost [] 0 [] (on_line line (starts ss 0 []))
        walk = before code table b same rises at (slot_in slots) line
            (all_stand code table b same rises at (slot_in slots) line around cells captures ss 0 free [] named grammatical apart kinds.outermost [] 0 tt told) (tt, tt)

        whole : Laid code table b same rises at (block_piece around ss) [] (at_depth 0) kinds.outermost [] [] 0 b.size (Some [])
        whole = record { stands = stands; typed = w.typed; agrees = λ r u v. refl; after = λ ms g. not_both (sym g ∙ w.ends) }

    statement : (c : Code) → block_piece around ss ≡ code_piece around c → (line : ℕ) (t : Target) → on_line line (starts ss 0 []) ≡ Some t → StatementInParts around c table b part line t
    statement c same_piece line t e = of_meets (on_line line (starts ss 0 [])) (first_start (next_of b) line (block_piece around ss) 0) (meets line) e refl
      where
        of_meets : (o : Option Target) (p : Option ℕ) → Meets code table b same rises at (slot_in slots) line o p → o ≡ Some t
            → first_start (next_of b) line (block_piece around ss) 0 ≡ p → StatementInParts around c table b part line t
        of_meets _ _ neither f g = not_both (sym f)
        of_meets _ _ (both u p h) f g = record {
          place = p;
          first = ap (λ q. first_start (next_of b) line q 0) (sym same_piece) ∙ g;
          listed = subst (λ l. Contains table (record { pc = record { 0 = p }; line = record { 0 = l } })) (ap (λ (z : Target). z.line) (is_some_of f) ∙ line_of line (starts ss 0 []) t e) h.listed;
          kinds = kinds_of h.slots_there;
          gets = is.reached p h.slots_there h.there;
          fills = fills (slot_in slots) (parts t.within) h.slots_there are;
          around_place = (let r = in_parts b at is slots made_apart p (parts t.within) [] h.slots_there h.there are tt in r.around_place);
        }
          where
            are : AreOf (slot_in slots) (parts t.within) h.slots_there
            are = subst (λ (z : Target). AreOf (slot_in slots) (parts z.within) h.slots_there) (is_some_of f) h.are

pub have_parts : {A V : Type 0} → StatementsLieInParts A V
have_parts around (B.of_module ss) code table b cells captures h same rises stands e g d =
    let w = pieces_are_typed around b cells captures (B.of_module ss) h in
    let is = have_tables around (B.of_module ss) code table b cells captures h same rises stands e in record {
      part = part around code table b cells captures same rises ss h g d w stands is;
      made = λ q s f. (let p = part_by b (table_of b (block_piece around ss) []) is (slot_in (slots_of_all around (next_of b) ss 0 free 0 0) q) in p.made s f);
      places = in_place around code table b cells captures same rises ss h g d w stands is;
      statements = statement around code table b cells captures same rises ss h g d w stands is (B.of_module ss) refl;
    }
have_parts around (B.of_function ss) code table b cells captures h same rises stands e g d =
    let w = pieces_are_typed around b cells captures (B.of_function ss) h in
    let is = have_tables around (B.of_function ss) code table b cells captures h same rises stands e in record {
      part = part around code table b cells captures same rises (function_body ss) h g d w stands is;
      made = λ q s f. (let p = part_by b (table_of b (block_piece around (function_body ss)) []) is (slot_in (slots_of_all around (next_of b) (function_body ss) 0 free 0 0) q) in p.made s f);
      places = in_place around code table b cells captures same rises (function_body ss) h g d w stands is;
      statements = statement around code table b cells captures same rises (function_body ss) h g d w stands is (B.of_function ss) refl;
    }
have_parts around (B.of_class ss) code table b cells captures h same rises stands e g d =
    let w = pieces_are_typed around b cells captures (B.of_class ss) h in
    let is = have_tables around (B.of_class ss) code table b cells captures h same rises stands e in record {
      part = part around code table b cells captures same rises ss h g d w stands is;
      made = λ q s f. (let p = part_by b (table_of b (block_piece around ss) []) is (slot_in (slots_of_all around (next_of b) ss 0 free 0 0) q) in p.made s f);
      places = in_place around code table b cells captures same rises ss h g d w stands is;
      statements = statement around code table b cells captures same rises ss h g d w stands is (B.of_class ss) refl;
    }
have_parts around (B.of_lambda l x) code table b cells captures h same rises stands e g d =
    let is = have_tables around (B.of_lambda l x) code table b cells captures h same rises stands e in record {
      part = λ q. (let p = part_by b (table_of b (code_piece around (B.of_lambda l x)) []) is None in p.part);
      made = λ q s f. not_both (sym f);
      places = λ pc above base ps f a o. in_parts b (table_of b (code_piece around (B.of_lambda l x)) []) is [] tt pc ps above base f a o;
      statements = λ line t f. not_both (sym f);
    }
have_parts around (B.of_generator l x k y cs) code table b cells captures h same rises stands e g d =
    let is = have_tables around (B.of_generator l x k y cs) code table b cells captures h same rises stands e in record {
      part = λ q. (let p = part_by b (table_of b (code_piece around (B.of_generator l x k y cs)) (first_slots (B.of_generator l x k y cs))) is None in p.part);
      made = λ q s f. not_both (sym f);
      places = λ pc above base ps f a o. in_parts b (table_of b (code_piece around (B.of_generator l x k y cs)) (first_slots (B.of_generator l x k y cs))) is [] tt pc ps above base f a o;
      statements = λ line t f. not_both (sym f);
    }
