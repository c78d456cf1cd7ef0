-- Which ways lead on, told by whether parts are written and by their last statement.
use Rattle.std.proofs.Common.{◌≡◌, ◌<◌, ℕ, ◌+◌, zero, suc, List, [], ◌∷◌, ◌++◌, length, get_or, map, Bool, true, false, refl, ap, sym, arith}
use Rattle.std.specs.Prelude.{if◌then◌else◌, not, ◌&&◌}
use Rattle.pt_tree.specs.declared.statement.Stmt.{Stmt}
use Rattle.pt_tree.specs.declared.statement.Alias.{Alias}
use Rattle.pt_tree.specs.declared.statement.WithItem.{WithItem}
use Rattle.pt_tree.specs.declared.statement.Branch.{Branch}
use Rattle.pt_tree.specs.declared.statement.Handler.{Handler}
use Rattle.pt_tree.specs.Syntax as S
use Rattle.pt_tree.specs.Syntax.{Place, Tgt, Tgts, Stms}
use Rattle.pt_tree.specs.Fold.{chained}
use Rattle.pt_tree.specs.StatementFold.{branch_of, handler_of, items_of, stm_of, stms_of}
use Rattle.pt_tree.proofs.StatementFolds.{branch_of-parts, handler_of-parts}
use Rattle.sem_control.specs.control.Statements.{all_places, places}
use Rattle.sem_compile.specs.stm_pieces.Needed.{Behind, needed, in_front, at_last, either, goes_on, all_go_on, is_nowhere, is_silent, behind_tried, needed_if, is_needed, some_handler_goes_on, free}

-- statements that are there, and none
pub in_front-some : (ss : List Stmt) (b : Behind) → 0 < length ss → in_front (stms_of ss) b ≡ needed
in_front-some [] b some = absurd (omega arith)
in_front-some (s ∷ ss) b some = refl

pub in_front-none : (ss : List Stmt) (b : Behind) → length ss ≡ 0 → in_front (stms_of ss) b ≡ b
in_front-none [] b none = refl
in_front-none (s ∷ ss) b none = absurd (omega arith)

pub at_last-some : (ss : List Stmt) (g f : Bool) → 0 < length ss → at_last (stms_of ss) g f ≡ f
at_last-some [] g f some = absurd (omega arith)
at_last-some (s ∷ ss) g f some = refl

pub at_last-none : (ss : List Stmt) (g f : Bool) → length ss ≡ 0 → at_last (stms_of ss) g f ≡ g
at_last-none [] g f none = refl
at_last-none (s ∷ ss) g f none = absurd (omega arith)

pub either-some : (ss : List Stmt) (b o : Bool) → 0 < length ss → either (stms_of ss) b o ≡ o
either-some [] b o some = absurd (omega arith)
either-some (s ∷ ss) b o some = refl

pub either-none : (ss : List Stmt) (b o : Bool) → length ss ≡ 0 → either (stms_of ss) b o ≡ b
either-none [] b o none = refl
either-none (s ∷ ss) b o none = absurd (omega arith)

-- the last statement decides
pub go_on-none : (ss : List Stmt) → length ss ≡ 0 → all_go_on (stms_of ss) ≡ true
go_on-none [] none = refl
go_on-none (s ∷ ss) none = absurd (omega arith)

pub go_on-last : (ss : List Stmt) (k : ℕ) (s : Stmt) → suc k ≡ length ss → s ≡ get_or ss k s → all_go_on (stms_of ss) ≡ goes_on (stm_of s)
go_on-last [] k s count last = absurd (omega arith)
go_on-last (x ∷ []) zero s count last = ap (λ y. goes_on (stm_of y)) (sym last)
go_on-last (x ∷ []) (suc k) s count last = absurd (omega arith)
go_on-last (x ∷ y ∷ ss) zero s count last = absurd (omega arith)
go_on-last (x ∷ y ∷ ss) (suc k) s count last = go_on-last (y ∷ ss) k s (omega arith) last

-- a finally part takes it all; else each handler counts
pub tried-some : (hs : List Handler) (ss : List Stmt) (b : Behind) → 0 < length ss → behind_tried (chained S.no_handlers (map handler_of hs)) (stms_of ss) b ≡ free
tried-some [] [] b some = absurd (omega arith)
tried-some [] (s ∷ ss) b some = refl
tried-some (h ∷ hs) [] b some = absurd (omega arith)
tried-some (h ∷ hs) (s ∷ ss) b some = refl

pub tried-none : (hs : List Handler) (ss : List Stmt) (b : Behind) → length ss ≡ 0 → length hs ≡ 0 → behind_tried (chained S.no_handlers (map handler_of hs)) (stms_of ss) b ≡ b
tried-none [] [] b none alone = refl
tried-none hs (s ∷ ss) b none alone = absurd (omega arith)
tried-none (h ∷ hs) [] b none alone = absurd (omega arith)

pub tried-handlers : (hs : List Handler) (ss : List Stmt) (b : Behind) → length ss ≡ 0 → 0 < length hs
    → behind_tried (chained S.no_handlers (map handler_of hs)) (stms_of ss) b ≡ needed_if (is_needed b && not (some_handler_goes_on (chained S.no_handlers (map handler_of hs))))
tried-handlers [] ss b none some = absurd (omega arith)
tried-handlers (h ∷ hs) (s ∷ ss) b none some = absurd (omega arith)
tried-handlers (h ∷ hs) [] b none some = rw (handler_of-parts h (chained S.no_handlers (map handler_of hs))) refl

-- no place
nowhere-append : (ps qs : List Place) → is_nowhere (ps ++ qs) ≡ (if is_nowhere ps then is_nowhere qs else false)
nowhere-append [] qs = refl
nowhere-append (p ∷ ps) qs = refl

pub nowhere-first : (t : Tgt) (ts : Tgts) → is_nowhere (all_places (S.more_targets t ts)) ≡ (if is_nowhere (places t) then is_nowhere (all_places ts) else false)
nowhere-first t ts = nowhere-append (places t) (all_places ts)

pub import-none : (l : ℕ) (xs : List Alias) → length xs ≡ 0 → is_silent (S.import l xs) ≡ true
import-none l [] none = refl
import-none l (x ∷ xs) none = absurd (omega arith)

pub import-some : (l : ℕ) (xs : List Alias) → 0 < length xs → is_silent (S.import l xs) ≡ false
import-some l [] some = absurd (omega arith)
import-some l (x ∷ xs) some = refl

pub choice-none : (l : ℕ) (bs : List Branch) (els : Stms) → length bs ≡ 0 → is_silent (S.choice l (chained S.no_branches (map branch_of bs)) els) ≡ true
choice-none l [] els none = refl
choice-none l (b ∷ bs) els none = absurd (omega arith)

pub choice-some : (l : ℕ) (bs : List Branch) (els : Stms) → 0 < length bs → is_silent (S.choice l (chained S.no_branches (map branch_of bs)) els) ≡ false
choice-some l [] els some = absurd (omega arith)
choice-some l (b ∷ bs) els some = rw (branch_of-parts b (chained S.no_branches (map branch_of bs))) refl

pub with-none : (l : ℕ) (is : List WithItem) (body : Stms) → length is ≡ 0 → is_silent (S.with l (items_of is) body) ≡ true
with-none l [] body none = refl
with-none l (i ∷ is) body none = absurd (omega arith)

pub with-some : (l : ℕ) (is : List WithItem) (body : Stms) → 0 < length is → is_silent (S.with l (items_of is) body) ≡ false
with-some l [] body some = absurd (omega arith)
with-some l (i ∷ is) body some = refl

pub ruleset fronts = (in_front-some, in_front-none, tried-some, tried-none, tried-handlers)

pub ruleset parts = (at_last-some, at_last-none, either-some, either-none)

pub ruleset ways = (go_on-none, go_on-last)

pub ruleset silence = (import-none, import-some, choice-none, choice-some, with-none, with-some)

pub ruleset nowhere = (nowhere-first)
