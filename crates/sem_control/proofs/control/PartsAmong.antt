-- The closed parts in which a statement lies are parts of its block.
use Rattle.std.proofs.Common.{◌≡◌, ℕ, ◌+◌, Bool, true, false, ◌||◌, List, [], ◌∷◌, ◌++◌, Option, Some, None, refl}
use Rattle.pt_tree.specs.Syntax as S
use Rattle.pt_tree.specs.Syntax.{Name, Items, Stm, Stms, Branches, Handlers, none, more}
use Rattle.pt_tree.specs.Sizes.{size, target_size, opt_size, items_size, stm_size, stms_size}
use Rattle.sem_control.specs.control.Frames as F
use Rattle.sem_control.specs.control.Numbers.{tested_body, behind_body, for_body, for_else, try_handlers, try_else, try_finally, handler_body}
use Rattle.sem_control.specs.control.Jump.{Part, for_part, with_part, handler_part, finally_part, exit_part, same, has, parts, Shape, Target, with_name, body_at, within_items, behind_branches, starts_in, starts, branch_starts, handler_starts, on_line}
use Rattle.sem_control.specs.control.ClosedParts.{tests_of, finally_of, item_parts, parts_in, parts_of, branch_parts, handler_parts, Among}
use Rattle.sem_control.proofs.control.JumpLemmas.{Each, each_append, each_on_line}

left : (a b : Bool) → a ≡ true → (a || b) ≡ true
left true b h = refl
left false b h = absurd cc

right : (a b : Bool) → b ≡ true → (a || b) ≡ true
right true b h = refl
right false b h = h

by_either : (a b c : Bool) → (a ≡ true → c ≡ true) → (b ≡ true → c ≡ true) → (a || b) ≡ true → c ≡ true
by_either true b c f g h = f refl
by_either false b c f g h = g h

in_front : (q : Part) (ps qs : List Part) → has ps q ≡ true → has (ps ++ qs) q ≡ true
in_front q [] qs h = absurd cc
in_front q (p ∷ ps) qs h = by_either (same q p) (has ps q) _ (left (same q p) _) (λ k. right (same q p) _ (in_front q ps qs k)) h

behind : (q : Part) (ps qs : List Part) → has qs q ≡ true → has (ps ++ qs) q ≡ true
behind q [] qs h = h
behind q (p ∷ ps) qs h = right (same q p) _ (behind q ps qs h)

module _ (all : List Part) where
  front_of : (ps qs : List Part) → Among (ps ++ qs) all → Among ps all
  front_of ps qs f q h = f q (in_front q ps qs h)

  back_of : (ps qs : List Part) → Among (ps ++ qs) all → Among qs all
  back_of ps qs f q h = f q (behind q ps qs h)

  -- a part of the block around others
  around : (p : Part) (ps qs : List Part) → Among (p ∷ ps) all → Among qs all → Among (p ∷ qs) all
  around p ps qs f g q h = by_either (same q p) (has qs q) _ (λ k. f q (left (same q p) _ k)) (g q) h

  rest_of : (p : Part) (ps : List Part) → Among (p ∷ ps) all → Among ps all
  rest_of p ps f q h = f q (right (same q p) _ h)

  abbrev Lies : Target → Type 0
  Lies t = Among (parts t.within) all

  both : (ts us : List Target) → Each Lies ts → Each Lies us → Each Lies (ts ++ us)
  both ts us h g = each_append Lies ts us h g

  named : (x : Option Name) (s : Shape) → Among (parts s) all → Among (parts (with_name x s)) all
  named None s h = h
  named (Some x) s h = h

  inside : (is : Items) (k n : ℕ) (ps : List Part) (s : Shape) → Among (item_parts is k n ps) all → Among (parts s) all → Among (parts (within_items is k n s)) all
  inside S.no_items k n ps s f g = g
  inside (S.with_item l e None r) k n ps s f g =
      let m = n + size e + 1 in
      let i = m + items_size r k in
      let fs = item_parts r k m ps in
      inside r k m ps (F.withing l i tt ∷ s) (rest_of (exit_part i) fs (rest_of (with_part i) (exit_part i ∷ fs) f)) (around (with_part i) (exit_part i ∷ fs) (parts s) f g)
  inside (S.with_item l e (Some t) r) k n ps s f g =
      let m = n + size e + 1 + target_size t in
      let i = m + items_size r k in
      let fs = item_parts r k m ps in
      inside r k m ps (F.withing l i tt ∷ s) (rest_of (exit_part i) fs (rest_of (with_part i) (exit_part i ∷ fs) f)) (around (with_part i) (exit_part i ∷ fs) (parts s) f g)

  -- what stands inside items
  innermost : (is : Items) (k n : ℕ) (ps : List Part) → Among (item_parts is k n ps) all → Among ps all
  innermost S.no_items k n ps f = f
  innermost (S.with_item l e None r) k n ps f =
      let m = n + size e + 1 in
      let i = m + items_size r k in
      innermost r k m ps (rest_of (exit_part i) (item_parts r k m ps) (rest_of (with_part i) (exit_part i ∷ item_parts r k m ps) f))
  innermost (S.with_item l e (Some t) r) k n ps f =
      let m = n + size e + 1 + target_size t in
      let i = m + items_size r k in
      innermost r k m ps (rest_of (exit_part i) (item_parts r k m ps) (rest_of (with_part i) (exit_part i ∷ item_parts r k m ps) f))

  finally_around : (fin : Stms) (n m : ℕ) (s : Shape) → Among (finally_of fin n) all → Among (parts s) all → Among (parts_of fin m) all
      → ((r : Shape) → Among (parts r) all → Each Lies (starts fin m r)) → Each Lies (starts fin m (F.ending n F.normal ∷ s))
  finally_around none n m s f g h walk = tt
  finally_around (more st ss) n m s f g h walk = walk (F.ending n F.normal ∷ s) (around (finally_part n) [] (parts s) f g)

  mutual
    stm_lies : (st : Stm) (n : ℕ) (s : Shape) → Among (parts_in st n) all → Among (parts s) all → Each Lies (starts_in st n s)
    stm_lies (S.choice l bs els) n s f g =
        let e = behind_branches bs n in
        both (branch_starts bs n s) _ (branches_lie bs n s (front_of (branch_parts bs n) (parts_of els e) f) g)
        (all_lie els e s (back_of (branch_parts bs n) (parts_of els e) f) g)
    stm_lies (S.while l c body els) n s f g =
        let b = tested_body n c in
        let e = behind_body n c body in
        both (starts body b (F.looping l n c body els ∷ s)) _ (all_lie body b _ (front_of (parts_of body b) (parts_of els e) f) g)
        (all_lie els e s (back_of (parts_of body b) (parts_of els e) f) g)
    stm_lies (S.for l t it body els) n s f g =
        let m = n + size it + 1 in
        let b = for_body m t in
        let e = for_else m t body in
        let fs = rest_of (for_part m) (parts_of body b ++ parts_of els e) f in
        both (starts body b (F.iterating l m tt t body els ∷ s)) _
        (all_lie body b _ (front_of (parts_of body b) (parts_of els e) fs) (around (for_part m) (parts_of body b ++ parts_of els e) (parts s) f g))
        (all_lie els e s (back_of (parts_of body b) (parts_of els e) fs) g)
    stm_lies (S.try l body hs els fin) n s f g =
        let h = try_handlers n body in
        let e = try_else n body hs in
        let z = try_finally n body hs els in
        let ends = parts_of els e ++ parts_of fin z in
        let f1 = back_of (finally_of fin n) _ f in
        let f2 = back_of (parts_of body (n + 1)) _ f1 in
        let f3 = back_of (tests_of hs h) _ f2 in
        let f4 = back_of (handler_parts hs h) ends f3 in
        let r : Shape = F.ensuring n z fin ∷ s in
        both (starts body (n + 1) (F.guarded h hs els ∷ r)) _ (all_lie body (n + 1) _ (front_of (parts_of body (n + 1)) _ f1) g)
        (both (handler_starts hs h r) _ (handlers_lie hs h r (front_of (handler_parts hs h) ends f3) g)
        (both (starts els e r) _ (all_lie els e r (front_of (parts_of els e) (parts_of fin z) f4) g)
        (finally_around fin n z s (front_of (finally_of fin n) _ f) g (back_of (parts_of els e) (parts_of fin z) f4)
        (λ r k. all_lie fin z r (back_of (parts_of els e) (parts_of fin z) f4) k))))
    stm_lies (S.with l is body) n s f g =
        let k = stms_size body in
        let ps = parts_of body (body_at is n) in
        all_lie body (body_at is n) (within_items is k n s) (innermost is k n ps f) (inside is k n ps s f g)
    stm_lies st n s f g = tt

    all_lie : (ss : Stms) (n : ℕ) (s : Shape) → Among (parts_of ss n) all → Among (parts s) all → Each Lies (starts ss n s)
    all_lie none n s f g = tt
    all_lie (more st ss) n s f g =
        let m = n + stm_size st in (
          g,
          both (starts_in st n (F.rest m ss ∷ s)) _ (stm_lies st n _ (front_of (parts_in st n) (parts_of ss m) f) g)
              (all_lie ss m s (back_of (parts_in st n) (parts_of ss m) f) g),
        )

    branches_lie : (bs : Branches) (n : ℕ) (s : Shape) → Among (branch_parts bs n) all → Among (parts s) all → Each Lies (branch_starts bs n s)
    branches_lie S.no_branches n s f g = tt
    branches_lie (S.branch l c body r) n s f g =
        let b = tested_body n c in
        let m = behind_body n c body in
        both (starts body b s) _ (all_lie body b s (front_of (parts_of body b) (branch_parts r m) f) g)
        (branches_lie r m s (back_of (parts_of body b) (branch_parts r m) f) g)

    handlers_lie : (hs : Handlers) (n : ℕ) (s : Shape) → Among (handler_parts hs n) all → Among (parts s) all → Each Lies (handler_starts hs n s)
    handlers_lie S.no_handlers n s f g = tt
    handlers_lie (S.handler l c x body r) n s f g =
        let m = n + opt_size c in
        let b = handler_body m x in
        let o = b + stms_size body in
        let ps = parts_of body b ++ handler_parts r o in
        let fs = rest_of (handler_part m) ps f in
        both (starts body b (with_name x (F.handling m tt ∷ s))) _
        (all_lie body b _ (front_of (parts_of body b) (handler_parts r o) fs) (named x (F.handling m tt ∷ s) (around (handler_part m) ps (parts s) f g)))
        (handlers_lie r o s (back_of (parts_of body b) (handler_parts r o) fs) g)

nowhere : (all : List Part) → Among [] all
nowhere all q h = absurd cc

pub targets_among : (ss : Stms) (line : ℕ) (t : Target) → on_line line (starts ss 0 []) ≡ Some t → Among (parts t.within) (parts_of ss 0)
targets_among ss line t is =
    let all = parts_of ss 0 in
    each_on_line (Lies all) line (starts ss 0 []) t (all_lie all ss 0 [] (λ q h. h) (nowhere all)) is
