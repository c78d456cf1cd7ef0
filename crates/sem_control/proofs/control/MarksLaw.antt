-- Where the acts of a block stand, those of control do from its start on; each mark that control comes to is the row with its number.
use Rattle.std.proofs.Common.{◌≡◌, ℕ, ◌+◌, List, ◌++◌, true, false, Some, refl, sym, ap, subst, arith, append_assoc, []}
use Rattle.std.specs.Prelude.{slice_get}
use Rattle.pt_tree.specs.declared.act.ActRow.{ActRow}
use Rattle.pt_tree.specs.declared.act.ActKind.{ActKind}
use Rattle.pt_tree.specs.declared.act.ActKind.TheVariants as K
use Rattle.pt_tree.specs.Syntax.{Exp, Clauses, Tgt}
use Rattle.pt_tree.specs.Sizes.{size, target_size}
use Rattle.pt_tree.specs.Acts.{act, acts_exp, acts_target, acts_clauses, acts_stms}
use Rattle.pt_tree.specs.Blocks as B
use Rattle.pt_tree.specs.Blocks.{Code, acts_of_code, function_body}
use Rattle.pt_tree.proofs.Counts.{count_exp, count_target}
use Rattle.sem_control.specs.control.Turn.{Mark, Around}
use Rattle.sem_control.specs.control.Frames as F
use Rattle.sem_control.specs.control.Frames.{Control}
use Rattle.sem_control.specs.control.Jump.{Shape}
use Rattle.sem_control.specs.control.Reached.{IsFor, IsRow, Reaches, here, then, start_code}
use Rattle.sem_control.proofs.control.MarksTree.{Numbering, Exp_in, Stms_in}
use Rattle.sem_control.proofs.control.MarksFrames.{Round_in, Marked, Control_in}
use Rattle.sem_control.proofs.control.MarksExpressions.{no_test, begin_exp_in, take_item_in}
use Rattle.sem_control.proofs.control.MarksStatements.{begin_all_in}
use Rattle.sem_control.proofs.control.MarksControl.{turn_in}
use Rattle.sem_control.proofs.control.MarksRows.{Saying, is_row, Holds, numbering, cut, cut₃, whole, single_row}
use Rattle.sem_control.proofs.control.MarksActs.{exp_in, target_in, clauses_in, clauses_then}
use Rattle.sem_control.proofs.control.MarksBlocks.{stms_in}

pub reaches_in : (R : Shape → Numbering) {V : Type 0} (block : Around V) (c d : Control V) → Control_in R c → Reaches block c d → Control_in R d
reaches_in R block c d h here = h
reaches_in R block c d h (then {d = b} r leads) = turn_in R block b d (reaches_in R block c b h r) leads

one_row : (rows : List ActRow) (n : ℕ) (r s : ActRow) → slice_get rows n ≡ Some r → slice_get rows n ≡ Some s → r ≡ s
one_row rows n r s e f = cc

marked_row : (rows : List ActRow) (m : Mark) (k : ActKind) → Marked (numbering (is_row rows)) m k
    → (row : ActRow) × (slice_get rows m.act ≡ Some row) × IsFor row (Some k) m
marked_row rows m k (h, a) =
    let u = single_row rows k m.line m.act h in (
      u.0,
      u.1,
      record {
        same_kind = ap Some (sym u.2);
        same_line = u.3;
        says_again = λ t.
            let v = a t in subst (λ r. r.again ≡ true) (one_row rows m.act v.0 u.0 v.1 u.1) v.2;
      },
    )

-- the rows of a list number the acts, whatever the nest
abbrev pub by_rows : List ActRow → Shape → Numbering
by_rows rows s = numbering (is_row rows)

pub next_row : (rows : List ActRow) {V : Type 0} (block : Around V) (c : Control V) → Control_in (by_rows rows) c → IsRow rows block c
next_row rows block (F.for_value m a w) h = marked_row rows m _ h.0
next_row rows block (F.for_deed m a k s) h = marked_row rows m _ h.0
next_row rows block (F.for_leave m a s) h = marked_row rows m _ h.0
next_row rows block (F.for_throw m a s) h = marked_row rows m _ h.0
next_row rows block (F.for_truth m a t f s) h = marked_row rows m _ h.0
next_row rows block (F.for_iter m v o) h = marked_row rows m _ h.0
next_row rows block (F.for_item m i n t k f) h = marked_row rows m _ h.0
next_row rows block (F.for_entry m v l n t is body s) h = marked_row rows m _ h.0
next_row rows block (F.for_unpack m v n ts k s) h = marked_row rows m _ h.0
next_row rows block (F.for_delegate m i r w) h = marked_row rows m _ h.0
next_row rows block (F.silent_value a w) h = tt
next_row rows block (F.silent_deed a k s) h = tt
next_row rows block (F.noting a k s) h = tt
next_row rows block (F.closed e) h = tt

-- the acts of a block stand
module _ (R : Shape → Numbering) where
  abbrev pub Code_in : Code → Type 0
  Code_in (B.of_module ss) = Stms_in R ss 0 []
  Code_in (B.of_function ss) = Stms_in R (function_body ss) 0 []
  Code_in (B.of_class ss) = Stms_in R ss 0 []
  Code_in (B.of_lambda l e) = Exp_in (R []) e 0 × (R []).is K.Return l (size e)
  Code_in (B.of_generator l e k t cs) =
      Round_in (R []) l k 0 t cs (λ m. Exp_in (R []) e m × (R []).is K.Yield l (m + size e) × (R []).is K.Discard l (m + size e + 1))

  pub start_code_in : {V : Type 0} (block : Around V) (code : Code) (i : V) → Code_in code → Control_in R (start_code block code i)
  start_code_in block (B.of_module ss) i h = begin_all_in R block ss 0 [] _ h tt tt
  start_code_in block (B.of_function ss) i h = begin_all_in R block (function_body ss) 0 [] _ h tt tt
  start_code_in block (B.of_class ss) i h = begin_all_in R block ss 0 [] _ h tt tt
  start_code_in block (B.of_lambda l e) i (he, h) = begin_exp_in R block e 0 false _ he no_test (h, tt)
  start_code_in block (B.of_generator l e k t cs) i h = take_item_in R block k 0 i t cs (F.generating l e []) h tt

behind : (ns ts cs xs ys ds : List ActRow) → ns ++ ts ++ cs ++ xs ++ ys ++ ds ≡ ns ++ ts ++ (cs ++ (xs ++ ys ++ ds))
behind ns ts cs xs ys ds = simp append_assoc

-- those of a lambda and of a generator expression, where something holds of their rows
module _ (H : Saying) where
  pub lambda_in : (l : ℕ) (e : Exp) → Holds H 0 (acts_of_code (B.of_lambda l e)) → Code_in (λ s. numbering H) (B.of_lambda l e)
  lambda_in l e h =
      let u = cut H (acts_exp e) (act K.Return l) (size e) 0 (count_exp e) h in
      let at : 0 + size e ≡ size e = omega arith in
      (exp_in H e 0 u.0, subst (λ n. Holds H n (act K.Return l)) at u.1)

  pub generator_in : (l : ℕ) (e : Exp) (k : ℕ) (t : Tgt) (cs : Clauses) → Holds H 0 (acts_of_code (B.of_generator l e k t cs))
      → Code_in (λ s. numbering H) (B.of_generator l e k t cs)
  generator_in l e k t cs g =
      let last = acts_exp e ++ act K.Yield l ++ act K.Discard l in
      let h = subst (λ u. Holds H 0 u) (behind (act K.Next k) (acts_target t) (acts_clauses l cs) (acts_exp e) (act K.Yield l) (act K.Discard l)) g in
      let u = cut₃ H (act K.Next k) (acts_target t) (acts_clauses l cs ++ last) 1 (target_size t) 0 refl (count_target t) h in (
        u.0,
        target_in H t (0 + 1) u.1,
        clauses_then (numbering H) l cs (0 + 1 + target_size t) _ _
            (λ m j. let v = cut₃ H (acts_exp e) (act K.Yield l) (act K.Discard l) (size e) 1 m (count_exp e) refl j in (exp_in H e m v.0, v.1, v.2))
            (clauses_in H l cs last (0 + 1 + target_size t) u.2),
      )

pub code_by_rows : (code : Code) → Code_in (by_rows (acts_of_code code)) code
code_by_rows (B.of_module ss) = stms_in (is_row (acts_stms ss)) ss 0 [] (whole (acts_stms ss))
code_by_rows (B.of_function ss) = stms_in (is_row (acts_stms (function_body ss))) (function_body ss) 0 [] (whole (acts_stms (function_body ss)))
code_by_rows (B.of_class ss) = stms_in (is_row (acts_stms ss)) ss 0 [] (whole (acts_stms ss))
code_by_rows (B.of_lambda l e) = lambda_in (is_row (acts_of_code (B.of_lambda l e))) l e (whole (acts_of_code (B.of_lambda l e)))
code_by_rows (B.of_generator l e k t cs) =
    generator_in (is_row (acts_of_code (B.of_generator l e k t cs))) l e k t cs (whole (acts_of_code (B.of_generator l e k t cs)))

pub marks_are_rows : {V : Type 0} (block : Around V) (code : Code) (first : V) (c : Control V)
    → Reaches block (start_code block code first) c → IsRow (acts_of_code code) block c
marks_are_rows block code first c r =
    let R = by_rows (acts_of_code code) in
    next_row (acts_of_code code) block c
    (reaches_in R block (start_code block code first) c (start_code_in R block code first (code_by_rows code)) r)
