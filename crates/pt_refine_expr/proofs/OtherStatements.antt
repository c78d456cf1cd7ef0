-- Parts of statements that a definition takes together, told by what code tests.
use Rattle.std.proofs.Common.{◌≡◌, ◌<◌, ◌≤◌, ℕ, Bool, true, false, List, [], ◌∷◌, Some, length, map, refl, sym, ap, ◌∙◌, arith}
use Rattle.std.specs.Prelude.{slice_get, if◌then◌else◌}
use Rattle.pt_tree.specs.Fold.{chained}
use Rattle.pt_wide.specs.declared.expression.WideArgument.{WideArgument}
use Rattle.pt_wide.specs.declared.expression.WideArgument.TheOpen as open_node
use Rattle.pt_wide.specs.Fold.{WideArgument-P, argument_of, argument_plain}
use Rattle.pt_wide.specs.Syntax as W
use Rattle.pt_wide.specs.Syntax.{Args}
use Rattle.pt_wide.proofs.Folds.{argument_of-is, opened-WideArgument}
use Rattle.pt_refine_expr.specs.Faults.{Fault, excluded}
use Rattle.pt_refine_expr.specs.StatementFaults.{args_line, faults_base, is_base}

abbrev pub args : List WideArgument → Args
args gs = chained W.no_args (map argument_of gs)

is_base-plain : (n m : WideArgument-P) (r : Args) (comma : Bool) → is_base (argument_plain n (argument_plain m r)) comma ≡ false
is_base-plain (open_node.Positional e) (open_node.Positional d) r comma = refl
is_base-plain (open_node.Positional e) (open_node.Named l x d) r comma = refl
is_base-plain (open_node.Positional e) (open_node.WideArgument::Spread l d) r comma = refl
is_base-plain (open_node.Positional e) (open_node.SpreadNamed l d) r comma = refl
is_base-plain (open_node.Named l x d) m r comma = refl
is_base-plain (open_node.WideArgument::Spread l d) m r comma = refl
is_base-plain (open_node.SpreadNamed l d) m r comma = refl

pub is_base-many : (g h : WideArgument) (gs : List WideArgument) (comma : Bool) → is_base (args (g ∷ h ∷ gs)) comma ≡ false
is_base-many g h gs comma =
    ap (λ (f : Args → Args). is_base (f (args (h ∷ gs))) comma) (argument_of-is g) ∙
    ap (λ (f : Args → Args). is_base (argument_plain (opened-WideArgument g) (f (args gs))) comma) (argument_of-is h) ∙
    is_base-plain (opened-WideArgument g) (opened-WideArgument h) (args gs) comma

is_base-behind : (n : WideArgument-P) → is_base (argument_plain n W.no_args) true ≡ false
is_base-behind (open_node.Positional e) = refl
is_base-behind (open_node.Named l x d) = refl
is_base-behind (open_node.WideArgument::Spread l d) = refl
is_base-behind (open_node.SpreadNamed l d) = refl

-- with a comma behind it none is a base
pub is_base-comma : (g : WideArgument) (gs : List WideArgument) → is_base (args (g ∷ gs)) true ≡ false
is_base-comma g [] = ap (λ (f : Args → Args). is_base (f W.no_args) true) (argument_of-is g) ∙ is_base-behind (opened-WideArgument g)
is_base-comma g (h ∷ gs) = is_base-many g h gs true

abbrev judged : Bool → ℕ → List Fault
judged b l = if b then [] else excluded l ∷ []

base-first : (gs : List WideArgument) (g : WideArgument) (l : ℕ) → Some g ≡ slice_get gs 0 → ((r : Args) → l ≡ args_line (argument_of g r)) → l ≡ args_line (args gs)
base-first [] g l is at_l = cc
base-first (h ∷ gs) g l is at_l = let e : g ≡ h = cc in at_l (args gs) ∙ ap (λ (x : WideArgument). args_line (argument_of x (args gs))) e

-- what is no base is told at the first argument
pub base-fault : (gs : List WideArgument) (g : WideArgument) (l : ℕ) (comma : Bool) → Some g ≡ slice_get gs 0 → ((r : Args) → l ≡ args_line (argument_of g r)) → is_base (args gs) comma ≡ false → faults_base (args gs) comma ≡ excluded l ∷ []
base-fault gs g l comma is at_l none = ap (λ b. judged b (args_line (args gs))) none ∙ ap (λ (n : ℕ). excluded n ∷ []) (sym (base-first gs g l is at_l))

pub base-comma : (gs : List WideArgument) (g : WideArgument) → Some g ≡ slice_get gs 0 → is_base (args gs) true ≡ false
base-comma [] g is = cc
base-comma (h ∷ gs) g is = is_base-comma h gs

pub base-many : (gs : List WideArgument) (comma : Bool) → 1 < length gs → is_base (args gs) comma ≡ false
base-many [] comma many = absurd (omega arith)
base-many (h ∷ []) comma many = absurd (omega arith)
base-many (h ∷ k ∷ gs) comma many = is_base-many h k gs comma

pub base-wrong : (gs : List WideArgument) (g : WideArgument) → Some g ≡ slice_get gs 0 → length gs ≤ 1 → is_base (argument_of g W.no_args) false ≡ false → is_base (args gs) false ≡ false
base-wrong [] g is few wrong = cc
base-wrong (h ∷ []) g is few wrong = let e : g ≡ h = cc in ap (λ (x : WideArgument). is_base (argument_of x W.no_args) false) (sym e) ∙ wrong
base-wrong (h ∷ k ∷ gs) g is few wrong = absurd (omega arith)
