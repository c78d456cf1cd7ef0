-- The body of a function that begins with a documentation string.
use Rattle.std.proofs.Common.{◌≡◌, ◌∙◌, ◌-◌, ap, sym, arith, ℕ, true, List, [], ◌∷◌, length, take, drop}
use Rattle.std.proofs.Math.Seq.{take-length}
use Rattle.std.specs.Prelude.{slice_get, Some, None}
use Rattle.pt_tree.specs.declared.statement.Stmt.{Stmt}
use Rattle.pt_tree.specs.Blocks.{function_body}
use Rattle.pt_tree.specs.StatementFold.{stm_of, stms_of}
use Rattle.pt_instr.specs.declared.Instr.TheVariants as instr
use Rattle.sem_control.specs.control.Jump.{starts_on}
use Rattle.pt_block_names.specs.declared.block_names.BlockNames.{BlockNames}
use Rattle.pt_assembler.specs.declared.operation.Operation.TheVariants.{Plain}
use Rattle.pt_assembler.specs.Layout.{Written, put, put_start}
use Rattle.pt_write_ops.specs.sem_compile.stm_pieces.Needed.{Behind}
use Rattle.pt_write_simple.specs.pt_stm_forms.Blocks.{is_docstring}
use Rattle.pt_write_simple.specs.pt_stm_forms.Compound.{behind_suite}
use Rattle.pt_write_simple.proofs.pt_stm_forms.BlockForms.{docstring-body}

pub documented : (b : BlockNames) (body : List Stmt) (first : Stmt) (q : Behind) (w : Written) → Some first ≡ slice_get body 0 → true ≡ is_docstring (stm_of first)
    → behind_suite b (stms_of (take (length body - 1) (drop 1 body))) q (put (Plain instr.Nop) (put_start (starts_on (stm_of first)) w))
    ≡ behind_suite b (function_body (stms_of body)) q w
documented b [] first q w at told = absurd (let same : Some first ≡ None = at in cc)
documented b (s ∷ ss) first q w at told =
    let same : first ≡ s = (let e : Some first ≡ Some s = at in cc) in
    let count : length (s ∷ ss) - 1 ≡ length ss = omega arith in
    let rest : take (length (s ∷ ss) - 1) ss ≡ ss = ap (λ (n : ℕ). take n ss) count ∙ take-length ss in
    ap (λ (ys : List Stmt). behind_suite b (stms_of ys) q (put (Plain instr.Nop) (put_start (starts_on (stm_of first)) w))) rest
    ∙ ap (λ (y : Stmt). behind_suite b (stms_of ss) q (put (Plain instr.Nop) (put_start (starts_on (stm_of y)) w))) same
    ∙ sym (docstring-body b (stm_of s) (stms_of ss) q w (sym (told ∙ ap (λ (y : Stmt). is_docstring (stm_of y)) same)))
