-- No two closed parts of a block are the same: the numbers of a statement's parts lie among those of its acts.
use Rattle.std.proofs.Common.{◌≡◌, ℕ, ◌+◌, ◌<◌, ◌≤◌, ◌==◌, false, List, [], ◌∷◌, ◌++◌, Option, Some, None, refl, subst, arith}
use Rattle.std.proofs.lemmas.Bool.Decides.{nat_tests}
use Rattle.pt_tree.specs.Syntax as S
use Rattle.pt_tree.specs.Syntax.{Name, Items, Stm, Stms, Branches, Handlers, none, more}
use Rattle.pt_tree.specs.Sizes.{size, target_size, opt_size, items_size, stored_by, stm_size, stms_size, branches_size, handlers_size}
use Rattle.sem_control.specs.control.Numbers.{tested_body, behind_body, for_body, for_else, try_handlers, try_else, try_finally, handler_body}
use Rattle.sem_control.specs.control.Jump.{Part, for_part, with_part, tests_part, handler_part, finally_part, exit_part, same, body_at, behind_branches}
use Rattle.sem_control.specs.control.ClosedParts.{tests_of, finally_of, item_parts, parts_in, parts_of, branch_parts, handler_parts, Apart_from, All_apart}

abbrev number : Part → ℕ
number (for_part n) = n
number (with_part n) = n
number (tests_part n) = n
number (handler_part n) = n
number (finally_part n) = n
number (exit_part n) = n

other : (n m : ℕ) → n < m → (n == m) ≡ false
other n m h = grind (arith, nat_tests)

other_way : (n m : ℕ) → m < n → (n == m) ≡ false
other_way n m h = grind (arith, nat_tests)

below : (q p : Part) → number q < number p → same q p ≡ false
below (for_part n) (for_part m) h = other n m h
below (with_part n) (with_part m) h = other n m h
below (tests_part n) (tests_part m) h = other n m h
below (handler_part n) (handler_part m) h = other n m h
below (finally_part n) (finally_part m) h = other n m h
below (exit_part n) (exit_part m) h = other n m h
below q p h = refl

above : (q p : Part) → number p < number q → same q p ≡ false
above (for_part n) (for_part m) h = other_way n m h
above (with_part n) (with_part m) h = other_way n m h
above (tests_part n) (tests_part m) h = other_way n m h
above (handler_part n) (handler_part m) h = other_way n m h
above (finally_part n) (finally_part m) h = other_way n m h
above (exit_part n) (exit_part m) h = other_way n m h
above q p h = refl

-- the numbers of parts lie in a range
abbrev Within : (low high : ℕ) → List Part → Type 0
Within a b [] = Unit {0}
Within a b (p ∷ ps) = (a ≤ number p) × (number p < b) × Within a b ps

widened : (a b c d : ℕ) (ps : List Part) → a ≤ b → c ≤ d → Within b c ps → Within a d ps
widened a b c d [] l h w = tt
widened a b c d (p ∷ ps) l h (u, v, w) = (omega arith, omega arith, widened a b c d ps l h w)

within_both : (a b : ℕ) (ps qs : List Part) → Within a b ps → Within a b qs → Within a b (ps ++ qs)
within_both a b [] qs v w = w
within_both a b (p ∷ ps) qs (l, h, v) w = (l, h, within_both a b ps qs v w)

from_higher : (q : Part) (a b : ℕ) (ps : List Part) → number q < a → Within a b ps → Apart_from q ps
from_higher q a b [] h w = tt
from_higher q a b (p ∷ ps) h (l, u, w) = (below q p (omega arith), from_higher q a b ps h w)

from_lower : (q : Part) (a b : ℕ) (ps : List Part) → b ≤ number q → Within a b ps → Apart_from q ps
from_lower q a b [] h w = tt
from_lower q a b (p ∷ ps) h (l, u, w) = (above q p (omega arith), from_lower q a b ps h w)

from_both : (q : Part) (ps qs : List Part) → Apart_from q ps → Apart_from q qs → Apart_from q (ps ++ qs)
from_both q [] qs v w = w
from_both q (p ∷ ps) qs (u, v) w = (u, from_both q ps qs v w)

all_both : (a b c : ℕ) (ps qs : List Part) → Within a b ps → Within b c qs → All_apart ps → All_apart qs → All_apart (ps ++ qs)
all_both a b c [] qs v w x y = y
all_both a b c (p ∷ ps) qs (l, h, v) w (x, xs) y = (from_both p ps qs x (from_higher p b c qs h w), all_both a b c ps qs v w xs y)

-- parts with numbers in a range, no two of them the same
record Good (a b : ℕ) (ps : List Part) : Type 0 where
  within : Within a b ps
  apart : All_apart ps

nothing : (a b : ℕ) → Good a b []
nothing a b = record { within = tt; apart = tt }

then : (a b c : ℕ) (ps qs : List Part) → a ≤ b → b ≤ c → Good a b ps → Good b c qs → Good a c (ps ++ qs)
then a b c ps qs l h p q = record {
  within = within_both a c ps qs (widened a a b c ps (omega arith) h p.within) (widened a b c c qs l (omega arith) q.within);
  apart = all_both a b c ps qs p.within q.within p.apart q.apart;
}

-- a part in front of others that have higher numbers
in_front : (p : Part) (a b c : ℕ) (ps : List Part) → a ≤ number p → number p < b → b ≤ c → Good b c ps → Good a c (p ∷ ps)
in_front p a b c ps l u h g = record {
  within = (l, omega arith, widened a b c c ps (omega arith) (omega arith) g.within);
  apart = (from_higher p b c ps u g.within, g.apart);
}

ends_at : (a b c : ℕ) (ps : List Part) → b ≡ c → Good a b ps → Good a c ps
ends_at a b c ps e g = subst (λ m. Good a m ps) e g

body_is : (n : ℕ) (x : Option Name) → handler_body n x ≡ n + 1 + stored_by x
body_is n None = omega arith
body_is n (Some x) = refl

-- the body of a `with` lies among the items' acts
inside_starts : (is : Items) (n : ℕ) → n ≤ body_at is n
inside_starts S.no_items n = omega arith
inside_starts (S.with_item l e None r) n = omega (arith, inside_starts r (n + size e + 1))
inside_starts (S.with_item l e (Some t) r) n = omega (arith, inside_starts r (n + size e + 1 + target_size t))

-- an item around what is inside, from its target's end m on
item_good : (a m k : ℕ) (r : Items) (ps : List Part) → a ≤ m → Good m (m + items_size r k) ps
    → Good a (m + items_size r k + 1) (with_part (m + items_size r k) ∷ exit_part (m + items_size r k) ∷ ps)
item_good a m k r ps h g =
    let i = m + items_size r k in
    let low : a ≤ i = omega arith in
    let high : i < i + 1 = omega arith in
    record {
      within = (low, high, (low, high, widened a m i (i + 1) ps h (omega arith) g.within));
      apart = ((refl, from_lower (with_part i) m i ps (omega arith) g.within), (from_lower (exit_part i) m i ps (omega arith) g.within, g.apart));
    }

items_good : (is : Items) (k n : ℕ) (ps : List Part) → Good (body_at is n) (body_at is n + k) ps → Good n (n + items_size is k) (item_parts is k n ps)
items_good S.no_items k n ps g = g
items_good (S.with_item l e None r) k n ps g =
    let m = n + size e + 1 in
    ends_at n _ _ _ (omega arith) (item_good n m k r (item_parts r k m ps) (omega arith) (items_good r k m ps g))
items_good (S.with_item l e (Some t) r) k n ps g =
    let m = n + size e + 1 + target_size t in
    ends_at n _ _ _ (omega arith) (item_good n m k r (item_parts r k m ps) (omega arith) (items_good r k m ps g))

low : (a b c : ℕ) (ps : List Part) → a ≤ b → Good b c ps → Good a c ps
low a b c ps h g = record { within = widened a b c c ps h (omega arith) g.within; apart = g.apart }

finally_good : (fin : Stms) (n : ℕ) → Good n (n + 1) (finally_of fin n)
finally_good none n = nothing n (n + 1)
finally_good (more st ss) n = in_front (finally_part n) n (n + 1) (n + 1) [] (omega arith) (omega arith) (omega arith) (nothing (n + 1) (n + 1))

branches_end : (bs : Branches) (n : ℕ) → behind_branches bs n ≡ n + branches_size bs
branches_end S.no_branches n = omega arith
branches_end (S.branch l c body r) n = omega (arith, branches_end r (behind_body n c body))

-- the tests of handlers, the handlers, and the parts behind them
tries_good : (hs : Handlers) (h e f z : ℕ) (es fs : List Part) → h + handlers_size hs ≡ e → e ≤ f → f ≤ z
    → Good h (h + handlers_size hs) (handler_parts hs h) → Apart_from (tests_part h) (handler_parts hs h) → Good e f es → Good f z fs
    → Good h z (tests_of hs h ++ (handler_parts hs h ++ (es ++ fs)))
tries_good S.no_handlers h e f z es fs is l u gh apart ge gf = low h e z _ (omega arith) (then e f z es fs l u ge gf)
tries_good (S.handler k c x body r) h e f z es fs is l u gh apart ge gf =
    let hs = S.handler k c x body r in
    let others = then e f z es fs l u ge gf in
    let g = then h e z (handler_parts hs h) (es ++ fs) (omega arith) (omega arith) (ends_at h _ _ _ is gh) others in
    let some : h + 1 ≤ e = omega arith in
    record {
      within = (omega arith, omega arith, g.within);
      apart = (from_both (tests_part h) (handler_parts hs h) _ apart (from_higher (tests_part h) e z (es ++ fs) (omega arith) others.within), g.apart);
    }

mutual
  stm_good : (st : Stm) (n : ℕ) → Good n (n + stm_size st) (parts_in st n)
  stm_good (S.choice l bs els) n =
      let u = branches_good bs n in
      let at = branches_end bs n in
      then n (n + branches_size bs) _ (branch_parts bs n) _ (omega arith) (omega arith) u
      (ends_at (n + branches_size bs) _ _ _ (omega arith) (subst (λ m. Good m (m + stms_size els) (parts_of els (behind_branches bs n))) at (all_good els (behind_branches bs n))))
  stm_good (S.while l c body els) n =
      let b = tested_body n c in
      ends_at n _ _ _ (omega arith) (then n (behind_body n c body) (behind_body n c body + stms_size els) (parts_of body b) _ (omega arith) (omega arith)
      (low n b _ _ (omega arith) (all_good body b)) (all_good els (behind_body n c body)))
  stm_good (S.for l t it body els) n =
      let m = n + size it + 1 in
      ends_at n _ _ _ (omega arith) (in_front (for_part m) n (for_body m t) (for_else m t body + stms_size els) _ (omega arith) (omega arith) (omega arith)
      (then (for_body m t) (for_else m t body) _ (parts_of body (for_body m t)) _ (omega arith) (omega arith) (all_good body (for_body m t)) (all_good els (for_else m t body))))
  stm_good (S.try l body hs els fin) n =
      let h = try_handlers n body in
      let e = try_else n body hs in
      let f = try_finally n body hs els in
      ends_at n _ _ _ (omega arith)
      (then n (n + 1) (f + stms_size fin) (finally_of fin n) _ (omega arith) (omega arith) (finally_good fin n)
      (then (n + 1) h (f + stms_size fin) (parts_of body (n + 1)) _ (omega arith) (omega arith) (all_good body (n + 1))
      (tries_good hs h e f (f + stms_size fin) (parts_of els e) (parts_of fin f) refl (omega arith) (omega arith) (handlers_good hs h) (tests_apart hs h h (omega arith)) (all_good els e) (all_good fin f))))
  stm_good (S.with l is body) n = items_good is (stms_size body) n _ (all_good body (body_at is n))
  stm_good st n = nothing n (n + stm_size st)

  all_good : (ss : Stms) (n : ℕ) → Good n (n + stms_size ss) (parts_of ss n)
  all_good none n = nothing n (n + 0)
  all_good (more st ss) n =
      ends_at n _ _ _ (omega arith)
      (then n (n + stm_size st) (n + stm_size st + stms_size ss) (parts_in st n) _ (omega arith) (omega arith) (stm_good st n) (all_good ss (n + stm_size st)))

  branches_good : (bs : Branches) (n : ℕ) → Good n (n + branches_size bs) (branch_parts bs n)
  branches_good S.no_branches n = nothing n (n + 0)
  branches_good (S.branch l c body r) n =
      let b = tested_body n c in
      let m = behind_body n c body in
      ends_at n _ _ _ (omega arith) (then n m (m + branches_size r) (parts_of body b) _ (omega arith) (omega arith) (low n b _ _ (omega arith) (all_good body b)) (branches_good r m))

  tests_apart : (hs : Handlers) (k n : ℕ) → k ≤ n → Apart_from (tests_part k) (handler_parts hs n)
  tests_apart S.no_handlers k n h = tt
  tests_apart (S.handler l c x body r) k n h =
      let b = handler_body (n + opt_size c) x in
      let is = body_is (n + opt_size c) x in (
        refl,
        from_both (tests_part k) (parts_of body b) _ (from_higher (tests_part k) b _ _ (omega arith) (all_good body b).within)
            (tests_apart r k (b + stms_size body) (omega arith)),
      )

  handlers_good : (hs : Handlers) (n : ℕ) → Good n (n + handlers_size hs) (handler_parts hs n)
  handlers_good S.no_handlers n = nothing n (n + 0)
  handlers_good (S.handler l c x body r) n =
      let m = n + opt_size c in
      let b = handler_body m x in
      let is = body_is m x in
      let e = b + stms_size body in
      ends_at n _ _ _ (omega arith) (in_front (handler_part m) n b (e + handlers_size r) _ (omega arith) (omega arith) (omega arith)
      (then b e (e + handlers_size r) (parts_of body b) _ (omega arith) (omega arith) (all_good body b) (handlers_good r e)))

pub parts_apart : (ss : Stms) → All_apart (parts_of ss 0)
parts_apart ss = (all_good ss 0).apart
