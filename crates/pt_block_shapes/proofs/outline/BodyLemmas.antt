-- The body of a function, and what is put behind in several parts.
use Rattle.std.proofs.Common.{◌≡◌, ◌-◌, true, ℕ, List, [], ◌∷◌, arith, length, take, drop, ap, sym, ◌∙◌}
use Rattle.std.proofs.Math.Seq.{take-length}
use Rattle.std.specs.Prelude.{slice_get, Some, None}
use Rattle.pt_block_shapes.proofs.outliner.Steps.{behind-both, behind-nothing, body-docstring}
use Rattle.pt_block_shapes.specs.outliner.Docstrings.{is_docstring}
use Rattle.pt_block_shapes.specs.outliner.Outline.{Outline, Part, ◌⨾◌, behind}
use Rattle.pt_block_shapes.specs.outliner.Parts.{outline_body, outline_stms}
use Rattle.pt_tree.specs.declared.statement.Stmt.{Stmt}
use Rattle.pt_tree.specs.StatementFold.{stm_of, stms_of}
use Rattle.pt_tree.specs.Syntax.{Name}

pub body-none : (o : Outline) (c : Name) (body : List Stmt) → None ≡ slice_get body 0 → o ≡ behind o (outline_body c (stms_of body))
body-none o c [] none = sym (behind-nothing o)
body-none o c (s ∷ ss) none = absurd (let same : None ≡ Some s = none in cc)

pub body-told : (o : Outline) (c : Name) (body : List Stmt) (s : Stmt) → Some s ≡ slice_get body 0 → true ≡ is_docstring (stm_of s)
    → behind o (outline_stms c (stms_of (take (length body - 1) (drop 1 body)))) ≡ behind o (outline_body c (stms_of body))
body-told o c [] s first told = absurd (let same : Some s ≡ None = first in cc)
body-told o c (x ∷ ss) s first told =
    let same : s ≡ x = (let e : Some s ≡ Some x = first in cc) in
    let count : length (x ∷ ss) - 1 ≡ length ss = omega arith in
    let rest : take (length (x ∷ ss) - 1) ss ≡ ss = ap (λ (n : ℕ). take n ss) count ∙ take-length ss in
    ap (λ (ys : List Stmt). behind o (outline_stms c (stms_of ys))) rest
    ∙ sym (body-docstring o c (stm_of x) (stms_of ss) (told ∙ ap (λ (y : Stmt). is_docstring (stm_of y)) same))

pub behind-three : (o : Outline) (f g h : Part) → behind o (f ⨾ g ⨾ h) ≡ behind (behind (behind o f) g) h
behind-three o f g h = behind-both o f (g ⨾ h) ∙ behind-both (behind o f) g h

pub behind-six : (o : Outline) (a b d e f g : Part) → behind o (a ⨾ b ⨾ d ⨾ e ⨾ f ⨾ g) ≡ behind (behind (behind (behind (behind (behind o a) b) d) e) f) g
behind-six o a b d e f g = behind-three o a b (d ⨾ e ⨾ f ⨾ g) ∙ behind-three (behind (behind o a) b) d e (f ⨾ g) ∙ behind-both (behind (behind (behind (behind o a) b) d) e) f g
