-- What the proofs of functions use: the forms of compound statements, and their parts one after the other.
use Rattle.std.proofs.Common.{◌≡◌, ◌<◌, ◌+◌, ℕ, List, [], ◌∷◌, Bool, true, false, length, map, refl, ap, ◌∙◌, arith}
use Rattle.std.specs.Prelude.{if◌then◌else◌}
use Rattle.pt_tree.specs.declared.statement.Handler.{Handler}
use Rattle.pt_tree.specs.declared.statement.Stmt.{Stmt}
use Rattle.pt_tree.specs.Syntax as S
use Rattle.pt_tree.specs.Syntax.{Stms, Handlers}
use Rattle.pt_tree.specs.Fold.{chained}
use Rattle.pt_tree.specs.Sizes.{handlers_size, stms_size}
use Rattle.pt_tree.specs.Blocks.{function_body}
use Rattle.pt_tree.specs.StatementFold.{handler_of, stm_of, stms_of}
use Rattle.pt_tree.proofs.Folds.{clause_of-parts}
use Rattle.pt_tree.proofs.StatementFolds.{branch_of-parts, handler_of-parts}
use Rattle.pt_instr.specs.declared.Instr.TheVariants as instr
use Rattle.sem_control.specs.control.Jump.{starts_on}
use Rattle.pt_block_names.specs.declared.block_names.BlockNames.{BlockNames}
use Rattle.pt_assembler.specs.declared.operation.Label.{Label}
use Rattle.pt_assembler.specs.declared.operation.Operation.TheVariants.{Plain}
use Rattle.pt_assembler.specs.Layout.{Written, put, put_start, at, new_label, next_label, bind, numbered_from}
use Rattle.pt_expr_forms.proofs.Acts.{new_label-act}
use Rattle.pt_write_ops.specs.sem_compile.stm_pieces.Needed.{Behind, in_front}
use Rattle.pt_write_simple.specs.pt_stm_forms.Blocks.{is_docstring}
use Rattle.pt_write_simple.specs.pt_stm_forms.Compound.{acts_skipped, behind_start, behind_suite, behind_body, behind_caught, behind_else, behind_ensured, behind_final, behind_guarded, behind_handlers, else_ended, ensured_from}
use Rattle.pt_write_simple.proofs.pt_stm_forms.StatementActs.{numbered-act}
use Rattle.pt_write_simple.proofs.pt_stm_forms.CompoundForms.{suite-none, suite-more, suite-act, start-silent, start-untaken, start-plain}
use Rattle.pt_write_simple.proofs.pt_stm_forms.BlockForms.{body-other, docstring-body, module-form, function-form, lambda-form, generator-form}
use Rattle.pt_comp.proofs.Starts.{starts-line}

-- statements of the tree one after the other
abbrev pub suite_from : BlockNames → List Stmt → Behind → Written → Written
suite_from b [] q w = w
suite_from b (s ∷ ss) q w = suite_from b ss q (behind_start b (stm_of s) (in_front (stms_of ss) q) w)

pub suite-from : (b : BlockNames) (ss : List Stmt) (q : Behind) (w : Written) → behind_suite b (stms_of ss) q w ≡ suite_from b ss q w
suite-from b [] q w = suite-none b q w
suite-from b (s ∷ ss) q w =
    suite-more b (stm_of s) (stms_of ss) q w ∙ suite-from b ss q (behind_start b (stm_of s) (in_front (stms_of ss) q) w)

pub ruleset suites = (suite-from)

-- the body of a function, which may begin with a documentation string
abbrev pub body_from : BlockNames → List Stmt → Behind → Written → Written
body_from b [] q w = w
body_from b (s ∷ ss) q w =
    if is_docstring (stm_of s) then behind_suite b (stms_of ss) q (put (Plain instr.Nop) (put_start (starts_on (stm_of s)) w))
    else behind_suite b (stms_of (s ∷ ss)) q w

first-of : (b : BlockNames) (s : Stmt) (ss : List Stmt) (q : Behind) (w : Written) (t : Bool) → is_docstring (stm_of s) ≡ t
    → behind_suite b (function_body (stms_of (s ∷ ss))) q w
    ≡ (if t then behind_suite b (stms_of ss) q (put (Plain instr.Nop) (put_start (starts_on (stm_of s)) w)) else behind_suite b (stms_of (s ∷ ss)) q w)
first-of b s ss q w true is = docstring-body b (stm_of s) (stms_of ss) q w is
first-of b s ss q w false is = ap (λ us. behind_suite b us q w) (body-other (stm_of s) (stms_of ss) is)

pub body-from : (b : BlockNames) (ss : List Stmt) (q : Behind) (w : Written) → behind_suite b (function_body (stms_of ss)) q w ≡ body_from b ss q w
body-from b [] q w = suite-none b q w
body-from b (s ∷ ss) q w = first-of b s ss q w (is_docstring (stm_of s)) refl

pub ruleset starts = (starts-line, start-silent, start-untaken, start-plain)

pub ruleset branches = (branch_of-parts)

abbrev all_handlers : List Handler → Handlers
all_handlers hs = chained S.no_handlers (map handler_of hs)

-- handlers that are there, and none
pub guarded-none : (b : BlockNames) (body : Stms) (hs : List Handler) (els : Stms) (q : Behind) (w : Written) → length hs ≡ 0
    → behind_guarded b body (chained S.no_handlers (map handler_of hs)) els q w ≡ behind_suite b els q (behind_body b body els q w)
guarded-none b body [] els q w none = refl
guarded-none b body (h ∷ hs) els q w none = absurd (omega arith)

pub guarded-some : (b : BlockNames) (body : Stms) (hs : List Handler) (els : Stms) (q : Behind) (w : Written) → 0 < length hs
    → behind_guarded b body (chained S.no_handlers (map handler_of hs)) els q w
    ≡ bind (next_label w) (behind_handlers b (chained S.no_handlers (map handler_of hs)) (next_label w)
    (behind_caught b body els q (handlers_size (chained S.no_handlers (map handler_of hs))) (next_label w) (new_label w)))
guarded-some b body [] els q w some = absurd (omega arith)
guarded-some b body (h ∷ hs) els q w some = rw (handler_of-parts h (all_handlers hs)) refl

pub none-size : (hs : List Handler) → length hs ≡ 0 → handlers_size (chained S.no_handlers (map handler_of hs)) ≡ 0
none-size [] none = refl
none-size (h ∷ hs) none = absurd (omega arith)

pub caught-is : (b : BlockNames) (body els : Stms) (q : Behind) (k : ℕ) (end : Label) (w : Written) → behind_caught b body els q k end w
    ≡ else_ended (at w) (at (behind_body b body els q w)) w.place.depth (behind_body b body els q w).act end (behind_else b body els q k w)
unfolding behind_caught
caught-is b body els q k end w = refl

pub new_label-place : (w : Written) → (new_label w).place ≡ w.place
unfolding new_label
new_label-place w = refl

-- the number behind the body, the handlers, of which there are so many, and the `else` part
pub last-number : (b : BlockNames) (body els : Stms) (q r : Behind) (k : ℕ) (w : Written)
    → (behind_suite b els q (acts_skipped k (behind_suite b body r (new_label w)))).act ≡ w.act + stms_size body + k + stms_size els
last-number b body els q r k w =
    suite-act b els q _ ∙ ap (λ m. m + stms_size els)
    (numbered-act _ _ ∙ ap (λ m. m + k) (suite-act b body r (new_label w) ∙ ap (λ m. m + stms_size body) (new_label-act w)))

-- a `finally` part that is there, and none
pub ensured-none : (b : BlockNames) (ss : List Stmt) (q : Behind) (f d n : ℕ) (w : Written) → length ss ≡ 0
    → behind_ensured b (stms_of ss) q f d n w ≡ numbered_from n w
ensured-none b [] q f d n w none = refl
ensured-none b (s ∷ ss) q f d n w none = absurd (omega arith)

pub ensured-some : (b : BlockNames) (ss : List Stmt) (q : Behind) (f d n : ℕ) (w : Written) → 0 < length ss
    → behind_ensured b (stms_of ss) q f d n w ≡ behind_final b (stms_of ss) q n (ensured_from f d w)
ensured-some b [] q f d n w some = absurd (omega arith)
ensured-some b (s ∷ ss) q f d n w some = refl

pub ruleset tries = (ensured-none, ensured-some)

pub ruleset blocks = (module-form, function-form, lambda-form)

pub ruleset lines = (starts-line)

pub ruleset bodies = (body-from)

pub ruleset generators = (generator-form, clause_of-parts)
