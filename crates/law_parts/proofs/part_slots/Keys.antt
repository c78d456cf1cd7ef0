-- The slots of a block are those of its closed parts, each told once.
use Rattle.std.proofs.Common.{◌≡◌, ℕ, ◌+◌, Bool, true, false, if◌then◌else◌, List, [], ◌∷◌, ◌++◌, Some, None, refl, sym, ap, ◌∙◌, subst, arith}
use Rattle.pt_tree.specs.Syntax as S
use Rattle.pt_tree.specs.Syntax.{Items, Stm, Stms, Branches, Handlers, none, more}
use Rattle.pt_tree.specs.Sizes.{size, target_size, items_size, stm_size, stms_size}
use Rattle.sem_control.specs.control.Turn.{Around}
use Rattle.sem_control.specs.control.Numbers.{tested_body, behind_body, for_body, for_else, try_handlers, try_else, try_finally, handler_body}
use Rattle.sem_control.specs.control.Jump as J
use Rattle.sem_control.specs.control.Jump.{Part, for_part, with_part, exit_part, handler_part, same, body_at}
use Rattle.sem_control.specs.control.ClosedParts.{tests_of, finally_of, item_parts, parts_in, parts_of, branch_parts, handler_parts, Apart_from, All_apart}
use Rattle.sem_control.proofs.control.JumpLemmas.{same_part}
use Rattle.sem_fits.proofs.comp_jumps.Verdicts.{same_itself}
use Rattle.pt_assembler.specs.Piece.{Piece}
use Rattle.law_pieces.proofs.piece_kinds.PieceLaw.{not_both, is_some_of}
use Rattle.sem_compile.specs.stm_pieces.Needed.{Behind}
use Rattle.law_parts.specs.part_slots.Slots.{PartSlot, tests_slot, finally_slot, slots_of_items, slots_in, slots_of_all, slots_of_branches, slots_of_handlers}
use Rattle.law_parts.specs.part_slots.Parts.{slot_in}
use Rattle.law_parts.proofs.part_slots.Walks.{Told}
use Rattle.law_parts.proofs.part_slots.Apart.{Made_apart, All_made_apart}

abbrev pub keys : List PartSlot → List Part
keys [] = []
keys (s ∷ ss) = s.part ∷ keys ss

keys_both : (ss us : List PartSlot) → keys (ss ++ us) ≡ keys ss ++ keys us
keys_both [] us = refl
keys_both (s ∷ ss) us = ap (λ z. s.part ∷ z) (keys_both ss us)

joined : (ss us : List PartSlot) {ps qs : List Part} → keys ss ≡ ps → keys us ≡ qs → keys (ss ++ us) ≡ ps ++ qs
joined ss us {ps} e f = keys_both ss us ∙ (ap (λ z. z ++ keys us) e ∙ ap (λ z. ps ++ z) f)

tests_keys : (hs : Handlers) (n d o : ℕ) → keys (tests_slot hs n d o) ≡ tests_of hs n
tests_keys S.no_handlers n d o = refl
tests_keys (S.handler l c x body r) n d o = refl

finally_keys : (fin : Stms) (n d o : ℕ) → keys (finally_slot fin n d o) ≡ finally_of fin n
finally_keys none n d o = refl
finally_keys (more st ss) n d o = refl

module _ {V : Type 0} (around : Around V) (next : ℕ → ℕ) where
  items_keys : (is : Items) (body : ℕ → Piece) (k n d p : ℕ) (inside : (depth from : ℕ) → List PartSlot) (ps : List Part) → ((d p : ℕ) → keys (inside d p) ≡ ps)
      → keys (slots_of_items around next is body k n d p inside) ≡ item_parts is k n ps
  items_keys S.no_items body k n d p inside ps f = f d p
  items_keys (S.with_item l e None r) body k n d p inside ps f =
      ap (λ z. with_part (n + size e + 1 + items_size r k) ∷ exit_part (n + size e + 1 + items_size r k) ∷ z) (items_keys r body k (n + size e + 1) _ _ inside ps f)
  items_keys (S.with_item l e (Some t) r) body k n d p inside ps f =
      ap (λ z. with_part (n + size e + 1 + target_size t + items_size r k) ∷ exit_part (n + size e + 1 + target_size t + items_size r k) ∷ z)
      (items_keys r body k (n + size e + 1 + target_size t) _ _ inside ps f)

  mutual
    stm_keys : (st : Stm) (n : ℕ) (b : Behind) (d p : ℕ) → keys (slots_in around next st n b d p) ≡ parts_in st n
    stm_keys (S.choice l bs els) n b d p = joined (slots_of_branches around next bs n d p) _ (branches_keys bs n d p) (all_keys els (J.behind_branches bs n) _ d _)
    stm_keys (S.while l c body els) n b d p = joined (slots_of_all around next body (tested_body n c) _ d _) _ (all_keys body (tested_body n c) _ d _) (all_keys els (behind_body n c body) _ d _)
    stm_keys (S.for l t it body els) n b d p =
        ap (λ z. for_part (n + size it + 1) ∷ z) (joined (slots_of_all around next body (for_body (n + size it + 1) t) _ _ _) _ (all_keys body (for_body (n + size it + 1) t) _ _ _)
        (all_keys els (for_else (n + size it + 1) t body) _ d _))
    stm_keys (S.try l body hs els fin) n b d p =
        joined (finally_slot fin n d _) _ (finally_keys fin n d _) (joined (slots_of_all around next body (n + 1) _ d _) _ (all_keys body (n + 1) _ d _)
        (joined (tests_slot hs (try_handlers n body) d _) _ (tests_keys hs (try_handlers n body) d _)
        (joined (slots_of_handlers around next hs (try_handlers n body) d _) _ (handlers_keys hs (try_handlers n body) d _)
        (joined (slots_of_all around next els (try_else n body hs) _ d _) _ (all_keys els (try_else n body hs) _ d _) (all_keys fin (try_finally n body hs els) _ _ _)))))
    stm_keys (S.with l is body) n b d p = items_keys is _ (stms_size body) n d p _ (parts_of body (body_at is n)) (λ d p. all_keys body (body_at is n) _ d p)
    stm_keys st n b d p = refl

    pub all_keys : (ss : Stms) (n : ℕ) (b : Behind) (d p : ℕ) → keys (slots_of_all around next ss n b d p) ≡ parts_of ss n
    all_keys none n b d p = refl
    all_keys (more st ss) n b d p = joined (slots_in around next st n _ d _) _ (stm_keys st n _ d _) (all_keys ss (n + stm_size st) b d _)

    branches_keys : (bs : Branches) (n d p : ℕ) → keys (slots_of_branches around next bs n d p) ≡ branch_parts bs n
    branches_keys S.no_branches n d p = refl
    branches_keys (S.branch l c body r) n d p =
        joined (slots_of_all around next body (tested_body n c) _ d _) _ (all_keys body (tested_body n c) _ d _) (branches_keys r (behind_body n c body) d _)

    handlers_keys : (hs : Handlers) (n d p : ℕ) → keys (slots_of_handlers around next hs n d p) ≡ handler_parts hs n
    handlers_keys S.no_handlers n d p = refl
    handlers_keys (S.handler l S.absent y body r) n d p =
        let same_number : n ≡ n + 0 = omega arith in
        subst (λ k. keys (slots_of_handlers around next (S.handler l S.absent y body r) n d p) ≡ handler_part k ∷ (parts_of body (handler_body k y) ++ handler_parts r (handler_body k y + stms_size body)))
        same_number (ap (λ z. handler_part n ∷ z) (joined (slots_of_all around next body (handler_body n y) _ _ _) _ (all_keys body (handler_body n y) _ _ _)
        (handlers_keys r (handler_body n y + stms_size body) d _)))
    handlers_keys (S.handler l (S.given c) y body r) n d p =
        ap (λ z. handler_part (n + size c) ∷ z) (joined (slots_of_all around next body (handler_body (n + size c) y) _ _ _) _ (all_keys body (handler_body (n + size c) y) _ _ _)
        (handlers_keys r (handler_body (n + size c) y + stms_size body) d _))

-- each is found where no two are of one part

further : (s : PartSlot) (ss us : List PartSlot) → Apart_from s.part (keys us) → Told (slot_in ss) us → Told (slot_in (s ∷ ss)) us
further s ss [] a t = tt
further s ss (u ∷ us) (e, a) (h, t) = (ap (λ z. if z then Some s else slot_in ss u.part) e ∙ h, further s ss us a t)

pub each_told : (ss : List PartSlot) → All_apart (keys ss) → Told (slot_in ss) ss
each_told [] a = tt
each_told (s ∷ ss) (a, b) = (ap (λ z. if z then Some s else slot_in ss s.part) (same_itself s.part), further s ss ss a (each_told ss b))

-- what is found is of the part
pub of_part : (ss : List PartSlot) (q : Part) (s : PartSlot) → slot_in ss q ≡ Some s → s.part ≡ q
of_part [] q s e = not_both (sym e)
of_part (u ∷ us) q s e = by (same u.part q) refl (of_part us q s) e
  where
    by : (t : Bool) → same u.part q ≡ t → (slot_in us q ≡ Some s → s.part ≡ q) → (if t then Some u else slot_in us q) ≡ Some s → s.part ≡ q
    by true h f e = ap (λ (z : PartSlot). z.part) (sym (is_some_of e)) ∙ same_part u.part q h
    by false h f e = f e

-- two that are made at one place are one
made_once : (ss : List PartSlot) (o : ℕ) (q : Part) (s : PartSlot) → Made_apart o ss → slot_in ss q ≡ Some s → o ≡ s.origin → ⊥
made_once [] o q s a e f = not_both (sym e)
made_once (u ∷ us) o q s (h, a) e f = by (same u.part q) (λ g. made_once us o q s a g f) e
  where
    by : (t : Bool) → (slot_in us q ≡ Some s → ⊥) → (if t then Some u else slot_in us q) ≡ Some s → ⊥
    by true g e = h (f ∙ ap (λ (z : PartSlot). z.origin) (sym (is_some_of e)))
    by false g e = g e

pub one_origin : (ss : List PartSlot) → All_made_apart ss → (q r : Part) (s t : PartSlot) → slot_in ss q ≡ Some s → slot_in ss r ≡ Some t → s.origin ≡ t.origin → s ≡ t
one_origin [] a q r s t e f g = not_both (sym e)
one_origin (u ∷ us) (h, a) q r s t e f g = by (same u.part q) (same u.part r) (λ e f. one_origin us a q r s t e f g) e f
  where
    by : (x y : Bool) → (slot_in us q ≡ Some s → slot_in us r ≡ Some t → s ≡ t) → (if x then Some u else slot_in us q) ≡ Some s → (if y then Some u else slot_in us r) ≡ Some t → s ≡ t
    by true true k e f = sym (is_some_of e) ∙ is_some_of f
    by true false k e f = absurd (made_once us u.origin r t h f (ap (λ (z : PartSlot). z.origin) (is_some_of e) ∙ g))
    by false true k e f = absurd (made_once us u.origin q s h e (ap (λ (z : PartSlot). z.origin) (is_some_of f) ∙ sym g))
    by false false k e f = k e f
