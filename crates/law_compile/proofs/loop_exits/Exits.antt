-- Each exit of a loop in the piece of a block leads to where some way comes.
use Rattle.std.proofs.Common.{◌≡◌, ℕ, ◌+◌, suc, Bool, true, false, ◌&&◌, ◌||◌, if◌then◌else◌, List, [], ◌∷◌, ◌++◌, length, Option, Some, None, refl, sym, ap, ◌∙◌, subst, arith, eq-eqb}
use Rattle.std.proofs.lemmas.Bool.{false≢true, true≢false}
use Rattle.pt_tree.specs.Syntax as S
use Rattle.pt_tree.specs.Syntax.{Name, Exp, Tgt, Items, Stm, Stms, Branches, Handlers, none, more}
use Rattle.pt_tree.specs.Sizes.{size, target_size, items_size, stm_size, stms_size}
use Rattle.pt_tree.specs.Blocks as B
use Rattle.pt_tree.specs.Blocks.{Code, function_body}
use Rattle.pt_instr.specs.declared.Instr.TheVariants as instr
use Rattle.pt_instr.specs.declared.kinds.Kind.TheVariants.{Iter}
use Rattle.pt_instr.specs.Effects.{effect_of}
use Rattle.sem_control.specs.control.Turn.{Around}
use Rattle.sem_control.specs.control.Frames.{a_function, a_class}
use Rattle.sem_control.specs.control.Jump.{starts_on}
use Rattle.sem_control.specs.control.Numbers.{tested_body, behind_body, for_body, for_else, try_handlers, try_else, try_finally, handler_body}
use Rattle.sem_control.specs.control.Statements.{all_places}
use Rattle.pt_assembler.specs.declared.operation.Exit.{Exit}
use Rattle.pt_assembler.specs.declared.operation.Exit.TheVariants.{Break, Continue}
use Rattle.pt_assembler.specs.declared.operation.Jump.TheVariants.{AtEnd, Always as Jumps, IfTrue, IfFalse}
use Rattle.pt_assembler.specs.Piece as P
use Rattle.pt_assembler.specs.Piece.{Piece, pick}
use Rattle.sem_fits.specs.fits.Block.{Links}
use Rattle.law_typed_pieces.specs.law_operands.law_files.sem_compile.emitter.ExpPiece.{null_piece, exp_piece, target_piece}
use Rattle.law_typed_pieces.specs.law_operands.law_files.sem_compile.stm_pieces.Needed.{exits, some_exits, some_branch_exits, some_handler_exits, all_go_on, goes_on, some_branch_goes_on, some_handler_goes_on, is_silent, leaves, Behind, needed, free, reached, is_needed, needed_if, in_front, behind_branches, behind_loop, behind_tried}
use Rattle.law_typed_pieces.specs.law_operands.law_files.sem_compile.stm_pieces.StmPiece.{begun_piece, value_piece, guarded_piece, ensured_piece, handled_piece, taken_piece, items_piece, stm_piece, all_piece, block_piece, branches_piece, handlers_piece, lambda_piece, generator_piece, code_piece}
use Rattle.law_typed_pieces.specs.law_operands.law_files.sem_compile.stm_pieces.Names.{TakesCells, Value_named, Target_named, Items_named, Stm_named, All_named, Branches_named, Handlers_named, Code_named}
use Rattle.law_typed_pieces.specs.law_operands.law_files.sem_compile.stm_pieces.Laws.{NoExits, StandsInLoops, slots_of}
use Rattle.law_pieces.specs.piece_kinds.Walk.{Known, StackMap, behind_op, is_empty, some, Setting, with_label, with_none, with_loop, end_of, behind}
use Rattle.law_pieces.specs.piece_kinds.Laws.{outermost}
use Rattle.law_pieces.proofs.piece_kinds.ListLemmas.{over_itself, over_more}
use Rattle.law_typed_pieces.specs.typed_pieces.Laws.{first_slots}
use Rattle.law_typed_pieces.proofs.typed_pieces.Combine.{goes_if, deepened_is, Goes, value}
use Rattle.law_typed_pieces.proofs.typed_pieces.Expressions.{iterator, null}
use Rattle.law_typed_pieces.proofs.typed_pieces.Plain as plain
use Rattle.law_typed_pieces.proofs.typed_pieces.Plain.{IsPlain}
use Rattle.law_typed_pieces.proofs.typed_pieces.LeadsForms.{val_plain, store_plain, delete_plain, assigned_plain, augmented_plain, all_deleted_plain, failed_plain, returned_plain, thrown_plain, imported_plain, imported_from_plain, defined_plain, taken_plain}
use Rattle.law_typed_pieces.proofs.typed_pieces.Statements as statements
use Rattle.law_typed_pieces.proofs.typed_pieces.Statements.{exception, exit, pending, Out, HoldsNone, val, to_target, stored, Outs, Taken_named, taken_so, while_tested, while_test, for_tested, for_test, all}
use Rattle.law_typed_pieces.proofs.typed_pieces.Tables.{lambda_plain, generator_plain}
use Rattle.law_compile.specs.loop_exits.Parts.{HasStatement, HasItem, HasParts, AllHaveParts, BranchesHaveParts, HandlersHaveParts, CodeHasParts}
use Rattle.law_compile.proofs.loop_exits.Coming.{comes, at_loop, Coming, plainly}
use Rattle.law_compile.proofs.loop_exits.Arriving.{must, MustAll, must_all, Arrives, in_a_block, begun_arrives, body_stands, Classes, handler_piece, handled, branch_on, stm_arrives, all_arrives}

abbrev is_reached : Behind → Bool
is_reached reached = true
is_reached b = false

left_true : (s t : Bool) → s ≡ true → (s || t) ≡ true
left_true true t e = refl
left_true false t e = absurd (false≢true e)

right_true : (s t : Bool) → t ≡ true → (s || t) ≡ true
right_true true t e = refl
right_true false t e = e

-- the slots of the parts around come in their number
comes_all : (d : ℕ) (base : StackMap) (o : Option StackMap) → d ≡ length base → o ≡ Some base → comes d o ≡ true
comes_all d base o e h = ap (comes d) h ∙ eq-eqb (length base) d (sym e)

one_deeper : (d : ℕ) (k : Known) (base : StackMap) → d ≡ length base → d + 1 ≡ length (k ∷ base)
one_deeper d k base e = omega (arith, e)

must_on : (w : Behind) (g : Bool) → is_reached w ≡ false → g ≡ true → must w g ≡ true
must_on needed g r e = refl
must_on free g r e = e
must_on reached g r e = absurd (true≢false r)

needed_on : (w : Behind) (g : Bool) → is_needed w ≡ true → must w g ≡ true
needed_on needed g e = refl
needed_on free g e = absurd (false≢true e)
needed_on reached g e = absurd (false≢true e)

both_needed : (s : Bool) (w : Behind) → (s && is_needed w) ≡ true → is_needed w ≡ true
both_needed true w e = e
both_needed false w e = absurd (false≢true e)

-- which places behind are reached by other ways

asked_not : (t : Bool) → is_reached (needed_if t) ≡ false
asked_not true = refl
asked_not false = refl

loop_reached : (t : Bool) (w : Behind) → is_reached (behind_loop t w) ≡ true → is_reached w ≡ true
loop_reached true reached e = refl
loop_reached true needed e = absurd (false≢true e)
loop_reached true free e = absurd (false≢true e)
loop_reached false w e = e

front_reached : (ss : Stms) (w : Behind) → is_reached w ≡ false → is_reached (in_front ss w) ≡ false
front_reached none w e = e
front_reached (more st ss) w e = refl

module _ {A : Type 0} (around : Around A) (links : Links) (next : ℕ → ℕ) (cells : TakesCells around)
    (captures : (b : ℕ) → links.captures b ≡ length (around.captured b)) where
  -- from the slots of the parts around it, in their number
  abbrev Exiting : Piece → Behind → (Exit → Bool) → Type 0
  Exiting q w z = (d : ℕ) (c : Setting) (es : List Bool) (x : Exit → Bool) (base : StackMap) (from : ℕ) (end : Bool) → d ≡ length base
      → ((e : Exit) → z e ≡ true → x e ≡ true) → (is_reached w ≡ true → end ≡ true) → (behind links next q c base from (Some base) ≡ Some base → end ≡ true)
      → Coming links next q d c es x base from (Some base) end

  abbrev outs_of : (ss : Stms) (n : ℕ) (w : Behind) → All_named around ss n → Outs around links next cells captures (all_piece around ss n w)
  outs_of ss n w h = all around links next cells captures ss n w h

  behind_val : (e : Exp) (n : ℕ) → Value_named around e n → (c : Setting) (base : StackMap) (from : ℕ)
      → behind links next (value_piece around e n) c base from (Some base) ≡ Some (value ∷ base)
  behind_val e n h c base from = (val around links next cells captures e n h base {c = c} {Ls = []} {base = base} {from = from} (over_itself base)).behind

  simple : (st : Stm) (n : ℕ) (w : Behind) → HoldsNone st → Exiting (stm_piece around st n w) w (λ e. exits e st)
  simple (S.expr l e) n w h d c es x base from end i f r g = plainly links next (stm_piece around (S.expr l e) n w) d c es x base from (Some base) end (val_plain around e n, refl)
  simple (S.assign l ts e) n w h d c es x base from end i f r g =
      plainly links next (stm_piece around (S.assign l ts e) n w) d c es x base from (Some base) end (val_plain around e n, assigned_plain around ts (n + size e))
  simple (S.augmented l p o e) n w h d c es x base from end i f r g =
      plainly links next (stm_piece around (S.augmented l p o e) n w) d c es x base from (Some base) end (augmented_plain around p o e l n)
  simple (S.annotated l p a S.absent) n w h d c es x base from end i f r g = refl
  simple (S.annotated l p a (S.given e)) n w h d c es x base from end i f r g =
      plainly links next (stm_piece around (S.annotated l p a (S.given e)) n w) d c es x base from (Some base) end
      (val_plain around e n, assigned_plain around (S.more_targets (S.single p) S.no_targets) (n + size e))
  simple (S.assert l e m) n w h d c es x base from end i f r g =
      plainly links next (stm_piece around (S.assert l e m) n w) d c es x base from (Some base) end (val_plain around e n, (refl, failed_plain around m l (n + size e + 1)))
  simple (S.pass l) n w h d c es x base from end i f r g = refl
  simple (S.del l ts) n w h d c es x base from end i f r g =
      plainly links next (stm_piece around (S.del l ts) n w) d c es x base from (Some base) end (all_deleted_plain around (all_places ts) n)
  simple (S.return l e) n w h d c es x base from end i f r g =
      plainly links next (stm_piece around (S.return l e) n w) d c es x base from (Some base) end (returned_plain around e l n)
  simple (S.raise l e z) n w h d c es x base from end i f r g =
      plainly links next (stm_piece around (S.raise l e z) n w) d c es x base from (Some base) end (val_plain around e n, thrown_plain around z l (n + size e))
  simple (S.raise_again l) n w h d c es x base from end i f r g = refl
  simple (S.break l) n w h d c es x base from end i f r g = f Break refl
  simple (S.continue l) n w h d c es x base from end i f r g = f Continue refl
  simple (S.import l xs) n w h d c es x base from end i f r g =
      plainly links next (stm_piece around (S.import l xs) n w) d c es x base from (Some base) end (imported_plain around xs l n)
  simple (S.import_from l m xs) n w h d c es x base from end i f r g =
      plainly links next (stm_piece around (S.import_from l m xs) n w) d c es x base from (Some base) end ((λ t. refl), imported_from_plain around xs l (n + 1))
  simple (S.global l xs) n w h d c es x base from end i f r g = tt
  simple (S.nonlocal l xs) n w h d c es x base from end i f r g = tt
  simple (S.def l ds k b y ps a body) n w h d c es x base from end i f r g =
      plainly links next (stm_piece around (S.def l ds k b y ps a body) n w) d c es x base from (Some base) end (defined_plain around ds (a_function b ps) [] k n y)
  simple (S.class l ds k b y super body) n w h d c es x base from end i f r g =
      plainly links next (stm_piece around (S.class l ds k b y super body) n w) d c es x base from (Some base) end (defined_plain around ds (a_class b super) [] k n y)
  simple (S.docstring l) n w h d c es x base from end i f r g = tt
  simple (S.choice l bs els) n w h d c es x base from end i f r g = absurd h
  simple (S.while l e body els) n w h d c es x base from end i f r g = absurd h
  simple (S.for l t it body els) n w h d c es x base from end i f r g = absurd h
  simple (S.try l body hs els fin) n w h d c es x base from end i f r g = absurd h
  simple (S.with l is body) n w h d c es x base from end i f r g = absurd h

  begun : (st : Stm) (w : Behind) (p : Piece) (z : Exit → Bool) → (is_needed w ≡ true → Arrives around links next cells captures (begun_piece st w p)) → Exiting p w z
      → Exiting (begun_piece st w p) w z
  unfolding effect_of
  begun st w p z a h d c es x base from end i f r g = by (is_silent st) (leaves st && is_needed w) refl
      (λ e. g (a (both_needed (leaves st) w e) c base from)) g
    where
      by : (s t : Bool) → (leaves st && is_needed w) ≡ t → ((leaves st && is_needed w) ≡ true → end ≡ true)
          → (behind links next (if s then begun_piece (S.global 0 []) w p else if t then begun_piece (S.raise_again 0) needed p else p) c base from (Some base) ≡ Some base → end ≡ true)
          → Coming links next (if s then begun_piece (S.global 0 []) w p else if t then begun_piece (S.raise_again 0) needed p else p) d c es x base from (Some base) end
      by true t e k g = (Some base, refl, refl, h d c es x base (next from) end i f r g)
      by false true e k g = (Some (value ∷ base), refl, tt, (Some base, refl, refl, h d _ [] x base (next (next from)) end i f r (λ j. k e)))
      by false false e k g = h d c es x base from end i f r g

  last_one : (st : Stm) (n : ℕ) (w : Behind) → Exiting (begun_piece st w (stm_piece around st n w)) w (λ e. exits e st)
      → Exiting (all_piece around (more st none) n w) w (λ e. some_exits e (more st none))
  last_one st n w h d c es x base from end i f r g =
      let m = behind links next (begun_piece st w (stm_piece around st n w)) c base from (Some base) in (
        m,
        refl,
        h d c es x base from (comes d m || end) i (λ e j. f e (left_true (exits e st) false j)) (λ j. right_true (comes d m) end (r j))
            (λ j. left_true (comes d m) end (comes_all d base m i j)),
        tt,
      )

  one_more : (st u : Stm) (ss : Stms) (n : ℕ) (w : Behind) → Arrives around links next cells captures (begun_piece st needed (stm_piece around st n needed))
      → Exiting (begun_piece st needed (stm_piece around st n needed)) needed (λ e. exits e st)
      → Exiting (all_piece around (more u ss) (n + stm_size st) w) w (λ e. some_exits e (more u ss))
      → Exiting (all_piece around (more st (more u ss)) n w) w (λ e. some_exits e (more st (more u ss)))
  one_more st u ss n w a h k d c es x base from end i f r g =
      let first = P.started (starts_on st) (begun_piece st needed (stm_piece around st n needed)) in
      let rest = all_piece around (more u ss) (n + stm_size st) w in
      let on = comes_all d base (Some base) i refl in (
        Some base,
        a c base from,
        h d c es x base from (comes d (Some base) || (is_empty rest && end)) i (λ e j. f e (left_true (exits e st) (some_exits e (more u ss)) j)) (λ j. absurd (false≢true j))
            (λ j. left_true (comes d (Some base)) (is_empty rest && end) on),
        k d c es x base (end_of next first from) end i (λ e j. f e (right_true (exits e st) (some_exits e (more u ss)) j)) r
            (λ j. g (ap (λ o. behind links next rest c base (end_of next first from) o) (a c base from) ∙ j)),
      )

  -- 8.1

  abbrev branch_piece : (l n : ℕ) → Exp → (body : Piece) → Piece
  branch_piece l n y q = P.block (P.seq (value_piece around y n) (P.seq (P.act (P.to IfFalse 0) (n + size y) l false) (P.seq (P.closed q) (P.move (P.to Jumps 1)))))

  one_branch : (l n : ℕ) (y : Exp) (q rest : Piece) (w : Behind) (z t : Exit → Bool) → Value_named around y n
      → ((c : Setting) (base : StackMap) (from : ℕ) → behind links next (branch_piece l n y q) c base from (Some base) ≡ Some base)
      → Exiting q free z → Exiting rest w t → Exiting (P.seq (branch_piece l n y q) rest) w (λ e. z e || t e)
  unfolding effect_of
  one_branch l n y q rest w z t v b h k d c es x base from end i f r g =
      let inner = with_label (end_of next (branch_piece l n y q) from) c in
      let begins = next (end_of next (value_piece around y n) from) in
      let m = behind links next q (with_none inner) base begins (Some base) in (
        Some base,
        b c base from,
        (
          Some (value ∷ base),
          behind_val y n v inner base from,
          plainly links next (exp_piece around y n false []) _ _ _ _ _ _ _ _ (val_plain around y n),
          (
            Some base,
            refl,
            refl,
            (
              m,
              refl,
              h d (with_none inner) [] x base begins (comes d m || false) i (λ e j. f e (left_true (z e) (t e) j)) (λ j. absurd (false≢true j))
                  (λ j. left_true (comes d m) false (comes_all d base m i j)),
              refl,
            ),
          ),
        ),
        k d c es x base (end_of next (branch_piece l n y q) from) end i (λ e j. f e (right_true (z e) (t e) j)) r
            (λ j. g (ap (λ o. behind links next rest c base (end_of next (branch_piece l n y q) from) o) (b c base from) ∙ j)),
      )

  -- 8.2, 8.3; label 1 of the loop's parts is the end of the whole

  loop_flags : (b k : Bool) (body : Stms) (x : Exit → Bool) → (some_exits Break body ≡ true → b ≡ true) → (some_exits Continue body ≡ true → k ≡ true)
      → (e : Exit) → some_exits e body ≡ true → at_loop b k e ≡ true
  loop_flags b k body x f g Break e = f e
  loop_flags b k body x f g Continue e = g e

  whiles : (l n m : ℕ) (y : Exp) (body els : Stms) (w v : Behind) → Value_named around y n
      → (o : Outs around links next cells captures (all_piece around body (tested_body n y) (needed_if (some_exits Continue body))))
      → (some_exits Continue body ≡ true → Arrives around links next cells captures (all_piece around body (tested_body n y) (needed_if (some_exits Continue body))))
      → Exiting (all_piece around body (tested_body n y) (needed_if (some_exits Continue body))) (needed_if (some_exits Continue body)) (λ e. some_exits e body)
      → Exiting (all_piece around els m v) v (λ e. some_exits e els) → (is_reached v ≡ true → is_reached w ≡ true)
      → (d : ℕ) (c : Setting) (es : List Bool) (x : Exit → Bool) (base : StackMap) (from : ℕ) (end : Bool) → d ≡ length base
      → ((e : Exit) → some_exits e els ≡ true → x e ≡ true) → (is_reached w ≡ true → end ≡ true) → (some_exits Break body ≡ true → end ≡ true)
      → (behind links next (P.block (P.seq (P.block (while_tested around links next cells captures l n y (all_piece around body (tested_body n y) (needed_if (some_exits Continue body)))))
      (P.numbered m (P.closed (all_piece around els m v))))) c base from (Some base) ≡ Some base → end ≡ true)
      → Coming links next (P.block (P.seq (P.block (while_tested around links next cells captures l n y (all_piece around body (tested_body n y) (needed_if (some_exits Continue body)))))
      (P.numbered m (P.closed (all_piece around els m v))))) d c es x base from (Some base) end
  unfolding effect_of
  whiles l n m y body els w v h o a q k t d c es x base from end i f r z g =
      let body_of = all_piece around body (tested_body n y) (needed_if (some_exits Continue body)) in
      let other = all_piece around els m v in
      let tested = P.block (while_tested around links next cells captures l n y body_of) in
      let parts = P.seq tested (P.numbered m (P.closed other)) in
      let outer = with_label (end_of next parts from) c in
      let inner = with_label (end_of next tested from) outer in
      let first = next (end_of next (value_piece around y n) from) in
      let within = with_loop 2 (end_of next body_of first) (length base) (with_label first inner) in
      let test = (while_test around links next cells captures l n y body_of h o outer [] base from).goes in
      let mq = behind links next body_of within base first (Some base) in
      let flag = comes d mq || (is_empty (P.numbered n (P.seq (P.closed (exp_piece around y n true [])) (P.act (P.to IfTrue 0) (n + size y) l false))) && (comes d (Some base) || (is_empty (P.numbered m (P.closed other)) && end))) in (
        Some base,
        test.behind,
        (
          Some (value ∷ base),
          behind_val y n h inner base from,
          plainly links next (exp_piece around y n false []) _ _ _ _ _ _ _ _ (val_plain around y n),
          (
            Some base,
            refl,
            refl,
            (
              mq,
              refl,
              q d within [] (at_loop end flag) base first flag i
                  (loop_flags end flag body x z (λ e. left_true (comes d mq) _ (comes_all d base mq i (a e within base first))))
                  (λ j. absurd (false≢true (sym (asked_not (some_exits Continue body)) ∙ j))) (λ j. left_true (comes d mq) _ (comes_all d base mq i j)),
              plainly links next (P.numbered n (P.seq (P.closed (exp_piece around y n true [])) (P.act (P.to IfTrue 0) (n + size y) l false))) d (with_label first inner)
                  (false ∷ (comes d (Some base) || (is_empty (P.numbered m (P.closed other)) && end)) ∷ end ∷ es) x base (end_of next body_of first) mq
                  (comes d (Some base) || (is_empty (P.numbered m (P.closed other)) && end)) (plain.exp around y n true [], refl),
            ),
          ),
        ),
        k d (with_none outer) [] x base (end_of next tested from) end i f (λ j. r (t j))
            (λ j. g (in_a_block around links next cells captures parts c base from
            (ap (λ s. behind links next other (with_none outer) base (end_of next tested from) s) test.behind ∙ j))),
      )

  fors : (l n m : ℕ) (y : Tgt) (it : Exp) (body els : Stms) (w v : Behind) → Value_named around it n → Target_named around y (n + size it + 1 + 1) []
      → (o : Outs around links next cells captures (all_piece around body (for_body (n + size it + 1) y) (needed_if (some_exits Continue body))))
      → (some_exits Continue body ≡ true → Arrives around links next cells captures (all_piece around body (for_body (n + size it + 1) y) (needed_if (some_exits Continue body))))
      → Exiting (all_piece around body (for_body (n + size it + 1) y) (needed_if (some_exits Continue body))) (needed_if (some_exits Continue body)) (λ e. some_exits e body)
      → Exiting (all_piece around els m v) v (λ e. some_exits e els) → (is_reached v ≡ true → is_reached w ≡ true)
      → (d : ℕ) (c : Setting) (es : List Bool) (x : Exit → Bool) (base : StackMap) (from : ℕ) (end : Bool) → d ≡ length base
      → ((e : Exit) → some_exits e els ≡ true → x e ≡ true) → (is_reached w ≡ true → end ≡ true) → (some_exits Break body ≡ true → end ≡ true)
      → (behind links next (P.block (P.seq (P.block (for_tested around links next cells captures l n y it (all_piece around body (for_body (n + size it + 1) y) (needed_if (some_exits Continue body)))))
      (P.numbered m (P.closed (all_piece around els m v))))) c base from (Some base) ≡ Some base → end ≡ true)
      → Coming links next (P.block (P.seq (P.block (for_tested around links next cells captures l n y it (all_piece around body (for_body (n + size it + 1) y) (needed_if (some_exits Continue body)))))
      (P.numbered m (P.closed (all_piece around els m v))))) d c es x base from (Some base) end
  unfolding effect_of
  fors l n m y it body els w v h u o a q k t d c es x base from end i f r z g =
      let body_of = all_piece around body (for_body (n + size it + 1) y) (needed_if (some_exits Continue body)) in
      let other = all_piece around els m v in
      let tested = P.block (for_tested around links next cells captures l n y it body_of) in
      let parts = P.seq tested (P.numbered m (P.closed other)) in
      let outer = with_label (end_of next parts from) c in
      let inner = with_label (end_of next tested from) outer in
      let taken = next (end_of next (value_piece around it n) from) in
      let slot = iterator taken in
      let headed = with_label (next taken) inner in
      let begins = end_of next (P.closed (target_piece around y (n + size it + 1 + 1) [])) (next taken) in
      let within = with_loop 2 (end_of next body_of begins) (length (slot ∷ base)) headed in
      let test = (for_test around links next cells captures l n y it body_of h u o outer [] base from).goes in
      let mq = behind links next body_of within (slot ∷ base) begins (Some (slot ∷ base)) in
      let deep = one_deeper d slot base i in
      let flag = comes (d + 1) mq in (
        Some base,
        test.behind,
        (
          Some (value ∷ base),
          behind_val it n h inner base from,
          plainly links next (exp_piece around it n false []) _ _ _ _ _ _ _ _ (val_plain around it n),
          (
            Some (slot ∷ base),
            refl,
            refl,
            (
              Some (value ∷ slot ∷ base),
              refl,
              refl,
              (
                Some (slot ∷ base),
                (to_target around links next cells captures y (n + size it + 1 + 1) u (slot ∷ base) {c = headed} {Ls = []} {base = base} {from = next taken} (over_more slot (over_itself base))).behind,
                plainly links next (target_piece around y (n + size it + 1 + 1) []) _ _ _ _ _ _ _ _ (plain.target around y (n + size it + 1 + 1) []),
                (
                  _,
                  refl,
                  (
                    slot ∷ base,
                    deepened_is [] slot base,
                    mq,
                    refl,
                    q (d + 1) within [] (at_loop end flag) (slot ∷ base) begins flag deep
                        (loop_flags end flag body x z (λ e. comes_all (d + 1) (slot ∷ base) mq deep (a e within (slot ∷ base) begins)))
                        (λ j. absurd (false≢true (sym (asked_not (some_exits Continue body)) ∙ j))) (λ j. comes_all (d + 1) (slot ∷ base) mq deep j),
                  ),
                  (_, refl, refl, refl),
                ),
              ),
            ),
          ),
        ),
        k d (with_none outer) [] x base (end_of next tested from) end i f (λ j. r (t j))
            (λ j. g (in_a_block around links next cells captures parts c base from
            (ap (λ s. behind links next other (with_none outer) base (end_of next tested from) s) test.behind ∙ j))),
      )

  -- 8.4

  no_finally : (tried : Piece) (k : ℕ) (w : Behind) (z : Exit → Bool) → Exiting tried w z → Exiting (P.seq tried (P.numbered k (P.closed P.empty))) w z
  no_finally tried k w z h d c es x base from end i f r g =
      let m = behind links next tried c base from (Some base) in
      (m, refl, h d c es x base from (comes d m || end) i f (λ j. right_true (comes d m) end (r j)) (λ j. left_true (comes d m) end (comes_all d base m i j)), tt)

  with_finally : (st : Stm) (ss : Stms) (tried part : Piece) (k : ℕ) (w v : Behind) (z t : Exit → Bool) → is_reached v ≡ false → Exiting tried free z → Exiting part v t
      → Exiting (ensured_piece (more st ss) tried (P.numbered k (P.closed part))) w (λ e. z e || t e)
  unfolding effect_of
  with_finally st ss tried part k w v z t o h q d c es x base from end i f r g =
      let begins = next (end_of next tried from) in
      let held = pending begins c.loop in
      let m = behind links next tried (with_none c) base from (Some base) in
      let mp = behind links next part (with_none c) (held ∷ base) begins (Some (held ∷ base)) in
      let deep = one_deeper d held base i in (
        Some (held ∷ base),
        refl,
        (
          m,
          refl,
          h d (with_none c) [] x base from (comes d m) i (λ e j. f e (left_true (z e) (t e) j)) (λ j. absurd (false≢true j)) (λ j. comes_all d base m i j),
        ),
        (
          _,
          refl,
          (
            held ∷ base,
            deepened_is [] held base,
            mp,
            refl,
            q (d + 1) (with_none c) [] x (held ∷ base) begins (comes (d + 1) mp) deep (λ e j. f e (right_true (z e) (t e) j)) (λ j. absurd (false≢true (sym o ∙ j)))
                (λ j. comes_all (d + 1) (held ∷ base) mp deep j),
          ),
          refl,
        ),
      )

  jumps_off : (l p : ℕ) (c : Setting) (base : StackMap) (s : Option StackMap) → behind links next (P.move (P.to Jumps l)) c base p s ≡ None
  unfolding effect_of
  jumps_off l p c base None = refl
  jumps_off l p c base (Some ks) = refl

  -- handlers, from the slot of their tests
  abbrev HandlersExit : Piece → (Exit → Bool) → Type 0
  HandlersExit q z = (d : ℕ) (c : Setting) (es : List Bool) (x : Exit → Bool) (base : StackMap) (from p : ℕ) (end : Bool) → d ≡ length base
      → ((e : Exit) → z e ≡ true → x e ≡ true) → Coming links next q d c es x base from (Some (exception p ∷ base)) end

  widen : (q : Piece) (w : Behind) (z t : Exit → Bool) → ((e : Exit) → z e ≡ true → t e ≡ true) → Exiting q w z → Exiting q w t
  widen q w z t h k d c es x base from end i f r g = k d c es x base from end i (λ e j. f e (h e j)) r g

  -- a body and what stands behind it, without handlers
  two_parts : (body other : Piece) (k : ℕ) (v : Behind) (z t : Exit → Bool) → Arrives around links next cells captures body → Exiting body needed z → Exiting other v t
      → Exiting (P.seq (P.closed body) (P.numbered k (P.closed other))) v (λ e. z e || t e)
  two_parts body other k v z t a h q d c es x base from end i f r g =
      let flag = comes d (Some base) || (is_empty (P.numbered k (P.closed other)) && end) in (
        Some base,
        a (with_none c) base from,
        h d (with_none c) [] x base from flag i (λ e j. f e (left_true (z e) (t e) j)) (λ j. absurd (false≢true j)) (λ j. left_true (comes d (Some base)) _ (comes_all d base (Some base) i refl)),
        q d (with_none c) [] x base (end_of next body from) end i (λ e j. f e (right_true (z e) (t e) j)) r
            (λ j. g (ap (λ o. behind links next other (with_none c) base (end_of next body from) o) (a (with_none c) base from) ∙ j)),
      )

  one_part : (body : Piece) (k : ℕ) (v : Behind) (z : Exit → Bool) → Exiting body v z → Exiting (P.seq (P.closed body) (P.numbered k (P.closed P.empty))) v z
  one_part body k v z h = no_finally (P.closed body) k v z (λ d c es x base from end i f r g. h d (with_none c) [] x base from end i f r g)

  -- an `else` part behind a body, from what the body comes to
  abbrev ElsePart : (body other : Piece) → (Exit → Bool) → Type 0
  ElsePart body other t = (d : ℕ) (c : Setting) (x : Exit → Bool) (base : StackMap) (from : ℕ) → d ≡ length base → ((e : Exit) → t e ≡ true → x e ≡ true)
      → (m : Option StackMap) × (behind links next body c base from (Some base) ≡ m)
      × Coming links next other d c [] x base (end_of next body from) m (comes d (behind links next other c base (end_of next body from) m) || false)

  no_else : (body : Piece) (t : Exit → Bool) → ElsePart body P.empty t
  no_else body t d c x base from i f = (_, refl, tt)

  some_else : (body other : Piece) (v : Behind) (t : Exit → Bool) → is_reached v ≡ false → Arrives around links next cells captures body → Exiting other v t → ElsePart body other t
  some_else body other v t o a h d c x base from i f =
      let m = behind links next other c base (end_of next body from) (Some base) in (
        Some base,
        a c base from,
        h d c [] x base (end_of next body from) (comes d m || false) i f (λ j. absurd (false≢true (sym o ∙ j))) (λ j. left_true (comes d m) false (comes_all d base m i j)),
      )

  with_handlers : (body other handlers : Piece) (k : ℕ) (w v : Behind) (z h t : Exit → Bool) → is_empty body ≡ false → is_reached v ≡ false → Exiting body v z → ElsePart body other t
      → HandlersExit handlers h
      → Exiting (P.block (P.seq (P.caught (P.closed body) (P.seq (P.numbered k (P.closed other)) (P.move (P.to Jumps 0)))) handlers)) w (λ e. z e || (h e || t e))
  with_handlers body other handlers k w v z h t some o q u y d c es x base from end i f r g =
      let skipped = P.seq (P.numbered k (P.closed other)) (P.move (P.to Jumps 0)) in
      let caught : Piece = P.caught (P.closed body) skipped in
      let inner = with_label (end_of next (P.seq caught handlers) from) c in
      let tests = end_of next caught from in
      let middle = end_of next body from in
      let (m, e, rest) = u d (with_none inner) x base from i (λ e j. f e (right_true (z e) (h e || t e) (right_true (h e) (t e) j))) in (
        Some (exception tests ∷ base),
        ap (λ t. if t then None else Some (exception tests ∷ base)) some,
        (
          m,
          e,
          q d (with_none inner) [] x base from (comes d m) i (λ e j. f e (left_true (z e) (h e || t e) j)) (λ j. absurd (false≢true (sym o ∙ j)))
              (λ j. comes_all d base m i (sym e ∙ j)),
          jumps_off 0 (end_of next other middle) inner base (behind links next other (with_none inner) base middle m),
          (_, refl, rest, refl),
        ),
        y d inner (end ∷ es) x base tests tests end i (λ e j. f e (right_true (z e) (h e || t e) (left_true (h e) (t e) j))),
      )

  -- 8.4.1

  handled_none : (l n : ℕ) (body : ℕ → Piece) (z : Exit → Bool) → Exiting (body (n + 1)) free z → HandlersExit (handled_piece around l n None body) z
  unfolding effect_of
  handled_none l n body z h d c es x base from p end i f =
      let slot = exception (next from) in
      let start = next (next from) in
      let m = behind links next (body (n + 1)) (with_none c) (slot ∷ base) start (Some (slot ∷ base)) in
      let deep = one_deeper d slot base i in (
        Some (value ∷ slot ∷ base),
        refl,
        refl,
        (
          Some (slot ∷ base),
          refl,
          refl,
          (
            _,
            refl,
            (
              slot ∷ base,
              deepened_is [] slot base,
              m,
              refl,
              h (d + 1) (with_none c) [] x (slot ∷ base) start (comes (d + 1) m) deep f (λ j. absurd (false≢true j)) (λ j. comes_all (d + 1) (slot ∷ base) m deep j),
            ),
            (_, refl, refl, refl),
          ),
        ),
      )

  handled_some : (l n : ℕ) (y : Name) (body : ℕ → Piece) (z : Exit → Bool) → Exiting (body (n + 1 + 1)) free z → HandlersExit (handled_piece around l n (Some y) body) z
  unfolding effect_of
  handled_some l n y body z h d c es x base from p end i f =
      let slot = exception (next from) in
      let start = next (next from) in
      let m = behind links next (body (n + 1 + 1)) (with_none c) (slot ∷ base) start (Some (slot ∷ base)) in
      let deep = one_deeper d slot base i in (
        Some (value ∷ slot ∷ base),
        refl,
        refl,
        (
          Some (slot ∷ base),
          (stored around links next cells captures y (n + 1) l (slot ∷ base) {c = c} {Ls = []} {base = base} {from = next from} (over_more slot (over_itself base))).behind,
          store_plain around y (n + 1) l,
          (
            _,
            refl,
            (
              slot ∷ base,
              deepened_is [] slot base,
              _,
              refl,
              (
                m,
                refl,
                h (d + 1) (with_none c) [] x (slot ∷ base) start (comes (d + 1) m) deep f (λ j. absurd (false≢true j)) (λ j. comes_all (d + 1) (slot ∷ base) m deep j),
              ),
            ),
            (_, refl, tt, (_, refl, (let v = around.variable [] y in plain.stores v.scope v.name), (_, refl, delete_plain around y, (_, refl, refl, (_, refl, refl, refl))))),
          ),
        ),
      )

  handled_exits : (l n : ℕ) (y : Option Name) (body : ℕ → Piece) (z : Exit → Bool) → ((m : ℕ) → m ≡ handler_body n y → Exiting (body m) free z)
      → HandlersExit (handled_piece around l n y body) z
  handled_exits l n None body z h = handled_none l n body z (h (n + 1) refl)
  handled_exits l n (Some y) body z h = handled_some l n y body z (h (n + 1 + 1) refl)

  one_handler : (class : Piece) (l n : ℕ) (y : Option Name) (body : Stms) (rest : Piece) (z t : Exit → Bool) → IsPlain class → Classes around links next cells captures class
      → ((m : ℕ) → m ≡ handler_body n y → Outs around links next cells captures (all_piece around body m free)) → ((m : ℕ) → m ≡ handler_body n y → Exiting (all_piece around body m free) free z)
      → HandlersExit rest t → HandlersExit (P.seq (handler_piece around links next cells captures class l n y (λ m. all_piece around body m free)) rest) (λ e. z e || t e)
  unfolding effect_of
  one_handler class l n y body rest z t k v o h q d c es x base from p end i f =
      let made : ℕ → Piece = λ m. all_piece around body m free in
      let whole = handler_piece around links next cells captures class l n y made in
      let first = P.seq class (P.seq (P.act (P.plain instr.Match) n l false) (P.seq (P.move (P.to IfFalse 0)) (handled_piece around l n y made))) in
      let inner = with_label (end_of next first from) c in
      let begins = end_of next class from in
      let u = statements.handled around links next cells captures l n y made o in
      let b = handled around links next cells captures class l n y made v c base from p (u.goes (Some (exception p ∷ base) ∷ Some base ∷ []) (λ t. refl)) in
      let flag = comes d (Some (exception p ∷ base)) || (is_empty rest && end) in (
        Some (exception p ∷ base),
        b.behind,
        (
          Some (value ∷ exception p ∷ base),
          (v (exception p ∷ base) inner [] base from (over_more (exception p) (over_itself base))).behind,
          plainly links next class _ _ _ _ _ _ _ _ k,
          (
            Some (value ∷ exception p ∷ base),
            refl,
            refl,
            (Some (exception p ∷ base), refl, refl, handled_exits l n y made z h d inner (flag ∷ es) x base (next (next begins)) p flag i (λ e j. f e (left_true (z e) (t e) j))),
          ),
        ),
        q d c es x base (end_of next whole from) p end i (λ e j. f e (right_true (z e) (t e) j)),
      )

  -- 8.5

  one_item : (l : ℕ) (e : Exp) (y : Option Tgt) (rest : Piece) (k n : ℕ) (w : Behind) (z : Exit → Bool) → Value_named around e n
      → Taken_named around links next cells captures y (n + size e + 1) → Exiting rest free z
      → Exiting (P.seq (value_piece around e n) (P.seq (P.act (P.plain instr.Enter) (n + size e) l false)
      (P.seq (P.deeper 1 (P.ensured (P.seq (taken_piece around y (n + size e + 1)) rest)))
      (P.seq (P.act (P.plain instr.Exit) k l false) (P.move (P.plain instr.EndFinally)))))) w z
  unfolding effect_of
  one_item l e y rest k n w z v u h d c es x base from end i f r g =
      let start = next (end_of next (value_piece around e n) from) in
      let slot = exit start in
      let taken = taken_piece around y (n + size e + 1) in
      let m = behind links next rest (with_none c) (slot ∷ base) (end_of next taken start) (Some (slot ∷ base)) in
      let deep = one_deeper d slot base i in
      let t = (taken_so around links next cells captures y (n + size e + 1) u (slot ∷ base) {c = with_none c} {Ls = []} {base = slot ∷ base} {from = start} (over_itself (slot ∷ base))).behind in (
        Some (value ∷ base),
        behind_val e n v c base from,
        plainly links next (exp_piece around e n false []) _ _ _ _ _ _ _ _ (val_plain around e n),
        (
          Some (value ∷ slot ∷ base),
          refl,
          refl,
          (
            _,
            refl,
            (
              slot ∷ base,
              deepened_is (value ∷ []) slot base,
              _,
              refl,
              (
                m,
                ap (λ o. behind links next rest (with_none c) (slot ∷ base) (end_of next taken start) o) t,
                (
                  Some (slot ∷ base),
                  t,
                  plainly links next taken (d + 1) (with_none c) [] x (slot ∷ base) start (Some (value ∷ slot ∷ base)) (comes (d + 1) (Some (slot ∷ base)) || (is_empty rest && comes (d + 1) m))
                      (taken_plain around y (n + size e + 1)),
                  h (d + 1) (with_none c) [] x (slot ∷ base) (end_of next taken start) (comes (d + 1) m) deep f (λ j. absurd (false≢true j)) (λ j. comes_all (d + 1) (slot ∷ base) m deep j),
                ),
              ),
            ),
            (_, refl, refl, refl),
          ),
        ),
      )

  items : (is : Items) (body : Stms) (w : Behind) → HasItem is → ((m : ℕ) → All_named around body m → Exiting (all_piece around body m free) free (λ e. some_exits e body)) → (k n : ℕ)
      → Items_named around is (λ m. All_named around body m) n → Exiting (items_piece around is (λ m. all_piece around body m free) k n) w (λ e. some_exits e body)
  items S.no_items body w p f k n h = absurd p
  items (S.with_item l e y S.no_items) body w p f k n h = last_item l e y body w f k n h
    where
      last_item : (l : ℕ) (e : Exp) (y : Option Tgt) (body : Stms) (w : Behind) → ((m : ℕ) → All_named around body m → Exiting (all_piece around body m free) free (λ e. some_exits e body)) → (k n : ℕ)
          → Items_named around (S.with_item l e y S.no_items) (λ m. All_named around body m) n
          → Exiting (items_piece around (S.with_item l e y S.no_items) (λ m. all_piece around body m free) k n) w (λ e. some_exits e body)
      last_item l e None body w f k n h =
          one_item l e None (P.closed (all_piece around body (n + size e + 1) free)) (n + size e + 1 + items_size S.no_items k) n w (λ e. some_exits e body) h.0 tt
          (λ d c es x base from end i g r s. f (n + size e + 1) h.1 d (with_none c) [] x base from end i g r s)
      last_item l e (Some t) body w f k n h =
          one_item l e (Some t) (P.closed (all_piece around body (n + size e + 1 + target_size t) free)) (n + size e + 1 + target_size t + items_size S.no_items k) n w (λ e. some_exits e body) h.0 h.1
          (λ d c es x base from end i g r s. f (n + size e + 1 + target_size t) h.2 d (with_none c) [] x base from end i g r s)
  items (S.with_item l e None (S.with_item j a y q)) body w p f k n h =
      one_item l e None (items_piece around (S.with_item j a y q) (λ m. all_piece around body m free) k (n + size e + 1)) (n + size e + 1 + items_size (S.with_item j a y q) k) n w (λ e. some_exits e body)
      h.0 tt (items (S.with_item j a y q) body free tt f k (n + size e + 1) h.1)
  items (S.with_item l e (Some t) (S.with_item j a y q)) body w p f k n h =
      one_item l e (Some t) (items_piece around (S.with_item j a y q) (λ m. all_piece around body m free) k (n + size e + 1 + target_size t))
      (n + size e + 1 + target_size t + items_size (S.with_item j a y q) k) n w (λ e. some_exits e body) h.0 h.1
      (items (S.with_item j a y q) body free tt f k (n + size e + 1 + target_size t) h.2)

  -- Statements.

  after_nop : (q : Piece) (n l : ℕ) (w : Behind) (z : Exit → Bool) → Exiting q w z → Exiting (P.seq (P.act (P.plain instr.Nop) n l false) q) w z
  unfolding effect_of
  after_nop q n l w z h d c es x base from end i f r g = (Some base, refl, refl, h d c es x base (next from) end i f r g)

  -- where its end is known to be come to
  ended : (w : Behind) (go end : Bool) → go ≡ true → (is_reached w ≡ true → end ≡ true) → (must w go ≡ true → end ≡ true) → end ≡ true
  ended w go end e r g = by (is_reached w) refl
    where
      by : (t : Bool) → is_reached w ≡ t → end ≡ true
      by true j = r j
      by false j = g (must_on w go j e)

  branches_reached : (b : Bool) (w : Behind) (end : Bool) → (is_reached w ≡ true → end ≡ true) → (b ≡ true → end ≡ true) → is_reached (behind_branches b w) ≡ true → end ≡ true
  branches_reached true w end f g e = g refl
  branches_reached false w end f g e = f e

  or_left : (a b c : Bool) → (a || (b || c)) ≡ true → ((a || b) || c) ≡ true
  or_left true b c e = refl
  or_left false b c e = e

  -- body, handlers, `else` part, and what else
  or_parts : (a h l f : Bool) → ((a || (h || l)) || f) ≡ true → (a || (h || (l || f))) ≡ true
  or_parts true h l f e = refl
  or_parts false true l f e = refl
  or_parts false false l f e = e

  or_two : (a l f : Bool) → ((a || l) || f) ≡ true → (a || (false || (l || f))) ≡ true
  or_two true l f e = refl
  or_two false l f e = e

  or_nothing : (a h l : Bool) → (a || (h || l)) ≡ true → (a || (h || (l || false))) ≡ true
  or_nothing true h l e = refl
  or_nothing false true l e = refl
  or_nothing false false true e = refl
  or_nothing false false false e = e

  -- a `try` without handlers
  unhandled : (body els : Stms) (n k : ℕ) (v : Behind) → All_named around body n → AllHaveParts body
      → Exiting (all_piece around body n (in_front els v)) (in_front els v) (λ e. some_exits e body) → Exiting (all_piece around els k v) v (λ e. some_exits e els)
      → Exiting (P.seq (P.closed (all_piece around body n (in_front els v))) (P.numbered k (P.closed (all_piece around els k v)))) v (λ e. some_exits e body || some_exits e els)
  unhandled body none n k v h p f g =
      widen (P.seq (P.closed (all_piece around body n v)) (P.numbered k (P.closed P.empty))) v (λ e. some_exits e body) (λ e. some_exits e body || false) (λ e j. left_true (some_exits e body) false j) (one_part (all_piece around body n v) k v (λ e. some_exits e body) f)
  unhandled body (more st ss) n k v h p f g =
      two_parts (all_piece around body n needed) (all_piece around (more st ss) k v) k v (λ e. some_exits e body) (λ e. some_exits e (more st ss))
      (all_arrives around links next cells captures body n needed h p (must_all needed body refl)) f g

  -- a `try` with handlers
  guarded : (body els : Stms) (handlers : Piece) (h : Exit → Bool) (n k : ℕ) (w v : Behind) → HasStatement body → All_named around body n → AllHaveParts body → is_reached v ≡ false
      → Exiting (all_piece around body n (in_front els v)) (in_front els v) (λ e. some_exits e body) → Exiting (all_piece around els k v) v (λ e. some_exits e els) → HandlersExit handlers h
      → Exiting (P.block (P.seq (P.caught (P.closed (all_piece around body n (in_front els v))) (P.seq (P.numbered k (P.closed (all_piece around els k v))) (P.move (P.to Jumps 0)))) handlers)) w
      (λ e. some_exits e body || (h e || some_exits e els))
  guarded body none handlers h n k w v s a p o f g q =
      with_handlers (all_piece around body n v) P.empty handlers k w v (λ e. some_exits e body) h (λ e. false) (body_stands around links next cells captures body n v s a) o f
      (no_else (all_piece around body n v) (λ e. false)) q
  guarded body (more st ss) handlers h n k w v s a p o f g q =
      with_handlers (all_piece around body n needed) (all_piece around (more st ss) k v) handlers k w needed (λ e. some_exits e body) h (λ e. some_exits e (more st ss))
      (body_stands around links next cells captures body n needed s a) refl f
      (some_else (all_piece around body n needed) (all_piece around (more st ss) k v) v (λ e. some_exits e (more st ss)) o
      (all_arrives around links next cells captures body n needed a p (must_all needed body refl)) g) q

  tries : (l n : ℕ) (body : Stms) (hs : Handlers) (els fin : Stms) (w : Behind) → Stm_named around (S.try l body hs els fin) n → HasParts (S.try l body hs els fin)
      → Exiting (all_piece around body (n + 1) (in_front els (behind_tried hs fin w))) (in_front els (behind_tried hs fin w)) (λ e. some_exits e body)
      → Exiting (all_piece around els (try_else n body hs) (behind_tried hs fin w)) (behind_tried hs fin w) (λ e. some_exits e els)
      → Exiting (all_piece around fin (try_finally n body hs els) (needed_if (is_needed w))) (needed_if (is_needed w)) (λ e. some_exits e fin)
      → HandlersExit (handlers_piece around hs (try_handlers n body)) (λ e. some_handler_exits e hs) → Exiting (stm_piece around (S.try l body hs els fin) n w) w (λ e. exits e (S.try l body hs els fin))
  tries l n body S.no_handlers els none w h p f g u v =
      let k = try_else n body S.no_handlers in
      let tried = unhandled body els (n + 1) k w h.0 p.1 f g in
      let piece = P.seq (P.closed (all_piece around body (n + 1) (in_front els w))) (P.numbered k (P.closed (all_piece around els k w))) in
      let whole = P.seq piece (P.numbered (try_finally n body S.no_handlers els) (P.closed P.empty)) in
      after_nop whole n l w (λ e. exits e (S.try l body S.no_handlers els none))
      (widen whole w (λ e. some_exits e body || some_exits e els) (λ e. exits e (S.try l body S.no_handlers els none))
      (λ e j. or_nothing (some_exits e body) false (some_exits e els) j)
      (no_finally piece (try_finally n body S.no_handlers els) w (λ e. some_exits e body || some_exits e els) tried))
  tries l n body S.no_handlers els (more st ss) w h p f g u v =
      let fin = more st ss in
      let k = try_else n body S.no_handlers in
      let tried = unhandled body els (n + 1) k free h.0 p.1 f g in
      let piece = P.seq (P.closed (all_piece around body (n + 1) (in_front els free))) (P.numbered k (P.closed (all_piece around els k free))) in
      let part = all_piece around fin (try_finally n body S.no_handlers els) (needed_if (is_needed w)) in
      let whole = ensured_piece fin piece (P.numbered (try_finally n body S.no_handlers els) (P.closed part)) in
      after_nop whole n l w (λ e. exits e (S.try l body S.no_handlers els fin))
      (widen whole w (λ e. (some_exits e body || some_exits e els) || some_exits e fin) (λ e. exits e (S.try l body S.no_handlers els fin))
      (λ e j. or_two (some_exits e body) (some_exits e els) (some_exits e fin) j)
      (with_finally st ss piece part (try_finally n body S.no_handlers els) w (needed_if (is_needed w)) (λ e. some_exits e body || some_exits e els) (λ e. some_exits e fin) (asked_not (is_needed w)) tried
      u))
  tries l n body (S.handler j a y q r) els none w h p f g u v =
      let hs = S.handler j a y q r in
      let b = behind_tried hs none w in
      let k = try_else n body hs in
      let caught_by = P.numbered (try_handlers n body) (handlers_piece around hs (try_handlers n body)) in
      let piece = guarded_piece hs (P.closed (all_piece around body (n + 1) (in_front els b))) (P.numbered k (P.closed (all_piece around els k b))) caught_by in
      let tried = guarded body els caught_by (λ e. some_handler_exits e hs) (n + 1) k w b p.0 h.0 p.1 (asked_not _) f g
      (λ d c es x base from s end i f. v d c es x base from s end i f) in
      let whole = P.seq piece (P.numbered (try_finally n body hs els) (P.closed P.empty)) in
      after_nop whole n l w (λ e. exits e (S.try l body hs els none))
      (widen whole w (λ e. some_exits e body || (some_handler_exits e hs || some_exits e els)) (λ e. exits e (S.try l body hs els none))
      (λ e j. or_nothing (some_exits e body) (some_handler_exits e hs) (some_exits e els) j)
      (no_finally piece (try_finally n body hs els) w (λ e. some_exits e body || (some_handler_exits e hs || some_exits e els)) tried))
  tries l n body (S.handler j a y q r) els (more st ss) w h p f g u v =
      let hs = S.handler j a y q r in
      let fin = more st ss in
      let k = try_else n body hs in
      let caught_by = P.numbered (try_handlers n body) (handlers_piece around hs (try_handlers n body)) in
      let piece = guarded_piece hs (P.closed (all_piece around body (n + 1) (in_front els free))) (P.numbered k (P.closed (all_piece around els k free))) caught_by in
      let tried = guarded body els caught_by (λ e. some_handler_exits e hs) (n + 1) k free free p.0 h.0 p.1 refl f g
      (λ d c es x base from s end i f. v d c es x base from s end i f) in
      let part = all_piece around fin (try_finally n body hs els) (needed_if (is_needed w)) in
      let whole = ensured_piece fin piece (P.numbered (try_finally n body hs els) (P.closed part)) in
      after_nop whole n l w (λ e. exits e (S.try l body hs els fin))
      (widen whole w (λ e. (some_exits e body || (some_handler_exits e hs || some_exits e els)) || some_exits e fin) (λ e. exits e (S.try l body hs els fin))
      (λ e j. or_parts (some_exits e body) (some_handler_exits e hs) (some_exits e els) (some_exits e fin) j)
      (with_finally st ss piece part (try_finally n body hs els) w (needed_if (is_needed w)) (λ e. some_exits e body || (some_handler_exits e hs || some_exits e els)) (λ e. some_exits e fin)
      (asked_not (is_needed w)) tried u))

  first_then : (st : Stm) (ss : Stms) (n : ℕ) (w : Behind) → All_named around (more st ss) n → AllHaveParts (more st ss)
      → Exiting (stm_piece around st n (in_front ss w)) (in_front ss w) (λ e. exits e st) → Exiting (all_piece around ss (n + stm_size st) w) w (λ e. some_exits e ss)
      → Exiting (all_piece around (more st ss) n w) w (λ e. some_exits e (more st ss))
  first_then st none n w h p f g =
      last_one st n w (begun st w (stm_piece around st n w) (λ e. exits e st)
      (λ e. begun_arrives around links next cells captures st w (stm_piece around st n w) (needed_on w (goes_on st) e) (statements.stm around links next cells captures st n w h.0)
      (λ j. stm_arrives around links next cells captures st n w h.0 p.0 j (needed_on w (goes_on st) e))) f)
  first_then st (more u ss) n w h p f g =
      let a = begun_arrives around links next cells captures st needed (stm_piece around st n needed) refl (statements.stm around links next cells captures st n needed h.0)
      (λ j. stm_arrives around links next cells captures st n needed h.0 p.0 j refl) in
      one_more st u ss n w a (begun st needed (stm_piece around st n needed) (λ e. exits e st) (λ e. a) f) g

  mutual
    stm : (st : Stm) (n : ℕ) (w : Behind) → Stm_named around st n → HasParts st → Exiting (stm_piece around st n w) w (λ e. exits e st)
    stm (S.choice l bs els) n w h p = λ d c es x base from end i f r g.
        let b = behind_branches (some_branch_goes_on bs) w in
        let q = branches_piece around bs n (λ k. P.closed (all_piece around els k b)) in
        branches bs els b n (λ k j. all_exit els k b j p.1) h p.0 d (with_label (end_of next q from) c) (end ∷ es) x base from end i f
        (branches_reached (some_branch_goes_on bs) w end r (λ j. ended w (some_branch_goes_on bs || all_go_on els) end (left_true (some_branch_goes_on bs) (all_go_on els) j) r
        (λ m. g (stm_arrives around links next cells captures (S.choice l bs els) n w h p refl m c base from))))
        (λ j. g (in_a_block around links next cells captures q c base from j))
    stm (S.while l y body els) n w h p = λ d c es x base from end i f r g.
        whiles l n (behind_body n y body) y body els w (behind_loop (some_exits Break body) w) h.0 (outs_of body (tested_body n y) (needed_if (some_exits Continue body)) h.1)
        (λ j. all_arrives around links next cells captures body (tested_body n y) (needed_if (some_exits Continue body)) h.1 p.0
        (must_all (needed_if (some_exits Continue body)) body (needed_on (needed_if (some_exits Continue body)) (all_go_on body) (ap (λ t. is_needed (needed_if t)) j))))
        (all_exit body (tested_body n y) (needed_if (some_exits Continue body)) h.1 p.0) (all_exit els (behind_body n y body) (behind_loop (some_exits Break body) w) h.2 p.1)
        (loop_reached (some_exits Break body) w) d c es x base from end i f r
        (λ j. ended w (some_exits Break body || all_go_on els) end (left_true (some_exits Break body) (all_go_on els) j) r
        (λ m. g (stm_arrives around links next cells captures (S.while l y body els) n w h p refl m c base from))) g
    stm (S.for l t it body els) n w h p = λ d c es x base from end i f r g.
        fors l n (for_else (n + size it + 1) t body) t it body els w (behind_loop (some_exits Break body) w) h.0 h.1
        (outs_of body (for_body (n + size it + 1) t) (needed_if (some_exits Continue body)) h.2)
        (λ j. all_arrives around links next cells captures body (for_body (n + size it + 1) t) (needed_if (some_exits Continue body)) h.2 p.0
        (must_all (needed_if (some_exits Continue body)) body (needed_on (needed_if (some_exits Continue body)) (all_go_on body) (ap (λ t. is_needed (needed_if t)) j))))
        (all_exit body (for_body (n + size it + 1) t) (needed_if (some_exits Continue body)) h.2 p.0)
        (all_exit els (for_else (n + size it + 1) t body) (behind_loop (some_exits Break body) w) h.3 p.1)
        (loop_reached (some_exits Break body) w) d c es x base from end i f r
        (λ j. ended w (some_exits Break body || all_go_on els) end (left_true (some_exits Break body) (all_go_on els) j) r
        (λ m. g (stm_arrives around links next cells captures (S.for l t it body els) n w h p refl m c base from))) g
    stm (S.try l body hs els fin) n w h p =
        let v = behind_tried hs fin w in
        tries l n body hs els fin w h p (all_exit body (n + 1) (in_front els v) h.0 p.1) (all_exit els (try_else n body hs) v h.2 p.3)
        (all_exit fin (try_finally n body hs els) (needed_if (is_needed w)) h.3 p.4) (handlers hs (try_handlers n body) h.1 p.2)
    stm (S.with l is body) n w h p = items is body w p.0 (λ m j. all_exit body m free j p.1) (stms_size body) n h
    stm st n w h p = simple st n w tt

    pub all_exit : (ss : Stms) (n : ℕ) (w : Behind) → All_named around ss n → AllHaveParts ss → Exiting (all_piece around ss n w) w (λ e. some_exits e ss)
    all_exit none n w h p = λ d c es x base from end i f r g. tt
    all_exit (more st ss) n w h p = first_then st ss n w h p (stm st n (in_front ss w) h.0 p.0) (all_exit ss (n + stm_size st) w h.1 p.1)

    branches : (bs : Branches) (els : Stms) (w : Behind) (n : ℕ) → ((k : ℕ) → All_named around els k → Exiting (all_piece around els k w) w (λ e. some_exits e els))
        → Branches_named around bs (λ m. All_named around els m) n → BranchesHaveParts bs
        → Exiting (branches_piece around bs n (λ k. P.closed (all_piece around els k w))) w (λ e. some_branch_exits e bs || some_exits e els)
    branches S.no_branches els w n k h p = λ d c es x base from end i f r g. k n h d (with_none c) [] x base from end i f r g
    branches (S.branch l y body q) els w n k h p =
        let rest = branches_piece around q (behind_body n y body) (λ k. P.closed (all_piece around els k w)) in
        let first = all_piece around body (tested_body n y) free in
        widen (P.seq (branch_piece l n y first) rest) w (λ e. some_exits e body || (some_branch_exits e q || some_exits e els)) (λ e. some_branch_exits e (S.branch l y body q) || some_exits e els)
        (λ e j. or_left (some_exits e body) (some_branch_exits e q) (some_exits e els) j)
        (one_branch l n y first rest w (λ e. some_exits e body) (λ e. some_branch_exits e q || some_exits e els) h.0
        (λ c base from. branch_on around links next cells captures l n y first h.0 (outs_of body (tested_body n y) free h.1) c base from) (all_exit body (tested_body n y) free h.1 p.0)
        (branches q els w (behind_body n y body) k h.2 p.1))

    handlers : (hs : Handlers) (n : ℕ) → Handlers_named around hs n → HandlersHaveParts hs → HandlersExit (handlers_piece around hs n) (λ e. some_handler_exits e hs)
    handlers S.no_handlers n h p = λ d c es x base from s end i f. refl
    handlers (S.handler l S.absent y body r) n h p =
        one_handler null_piece l n y body (handlers_piece around r (handler_body n y + stms_size body)) (λ e. some_exits e body) (λ e. some_handler_exits e r) tt
        (λ F c Ls base from o. null around links next cells captures F o)
        (λ m z. outs_of body m free (subst (λ k. All_named around body k) (sym z) h.0)) (λ m z. all_exit body m free (subst (λ k. All_named around body k) (sym z) h.0) p.0)
        (handlers r (handler_body n y + stms_size body) h.1 p.1)
    handlers (S.handler l (S.given a) y body r) n h p =
        one_handler (value_piece around a n) l (n + size a) y body (handlers_piece around r (handler_body (n + size a) y + stms_size body)) (λ e. some_exits e body) (λ e. some_handler_exits e r)
        (val_plain around a n) (λ F c Ls base from o. val around links next cells captures a n h.0 F o)
        (λ m z. outs_of body m free (subst (λ k. All_named around body k) (sym z) h.1)) (λ m z. all_exit body m free (subst (λ k. All_named around body k) (sym z) h.1) p.0)
        (handlers r (handler_body (n + size a) y + stms_size body) h.2 p.1)

  of_statements : (ss : Stms) → All_named around ss 0 → AllHaveParts ss → NoExits ss → Coming links next (block_piece around ss) 0 outermost [] (λ e. false) [] 0 (Some []) false
  of_statements ss h p f =
      let m = behind links next (all_piece around ss 0 free) outermost [] 0 (Some []) in (
        m,
        refl,
        all_exit ss 0 free h p 0 outermost [] (λ e. false) [] 0 (comes 0 m || false) refl (λ e j. absurd (false≢true (sym (f e) ∙ j))) (λ j. absurd (false≢true j))
            (λ j. left_true (comes 0 m) false (comes_all 0 [] m refl j)),
        (_, refl, tt, refl),
      )

  -- of what a block runs
  pub in_code : (c : Code) → Code_named around c → CodeHasParts c → StandsInLoops c
      → Coming links next (code_piece around c) (slots_of c) outermost [] (λ e. false) [] 0 (Some (first_slots c)) false
  in_code (B.of_module ss) h p f = of_statements ss h p f
  in_code (B.of_function ss) h p f = of_statements (function_body ss) h p f
  in_code (B.of_class ss) h p f = of_statements ss h p f
  in_code (B.of_lambda l e) h p f = plainly links next (lambda_piece around l e) 0 outermost [] (λ e. false) [] 0 (Some []) false (lambda_plain around l e)
  in_code (B.of_generator l e k t cs) h p f =
      plainly links next (generator_piece around l e k t cs) 1 outermost [] (λ e. false) [] 0 (Some (some Iter ∷ [])) false (generator_plain around l e k t cs)
