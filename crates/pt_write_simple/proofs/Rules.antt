-- How the code of statements falls into that of their parts, one after the other.
use Rattle.std.proofs.Common.{◌≡◌, ◌∙◌, ℕ, ◌+◌, ◌<◌, ◌≤◌, ◌-◌, List, [], ◌∷◌, ◌++◌, get_or, length, map, take, false, refl, ap, sym, arith}
use Rattle.std.proofs.lemmas.Grind.{take_at_read}
use Rattle.pt_tree.specs.declared.expression.Target.{Target}
use Rattle.pt_tree.specs.declared.statement.Decorator.{Decorator}
use Rattle.pt_tree.specs.Fold.{target_of, targets_of}
use Rattle.pt_tree.specs.StatementFold.{decorators_of}
use Rattle.pt_instr.specs.declared.Instr.TheVariants as instr
use Rattle.pt_block_names.specs.declared.block_names.BlockNames.{BlockNames}
use Rattle.pt_assembler.specs.Layout.{Written}
use Rattle.pt_write_leaves.specs.pt_expr_forms.Behind.{plain_act}
use Rattle.pt_stm_forms.specs.Simple.{behind_assigned, behind_calls, behind_each}

-- targets that are there
pub assigned-some : (b : BlockNames) (ts : List Target) (w : Written) → 0 < length ts
    → behind_assigned b (targets_of (map target_of ts)) w ≡ behind_each b (targets_of (map target_of ts)) w
assigned-some b [] w some = absurd (omega arith)
assigned-some b (t ∷ ts) w some = refl

pub ruleset assignments = (assigned-some)

calls-last : (ds : List Decorator) (d : Decorator) (w : Written)
    → behind_calls (decorators_of (ds ++ d ∷ [])) w ≡ behind_calls (decorators_of ds) (plain_act (instr.Call 1) d.line.0 false w)
calls-last [] d w = refl
calls-last (e ∷ ds) d w = ap (λ u. plain_act (instr.Call 1) e.line.0 false u) (calls-last ds d w)

-- the last of the first `n` decorators is called first
pub calls-taken : (ds : List Decorator) (n : ℕ) (d : Decorator) (w : Written) → 0 < n → n ≤ length ds → d ≡ get_or ds (n - 1) d
    → behind_calls (decorators_of (take n ds)) w ≡ behind_calls (decorators_of (take (n - 1) ds)) (plain_act (instr.Call 1) d.line.0 false w)
calls-taken ds n d w some within at_n =
    let step : n ≡ (n - 1) + 1 = omega arith in
    let cut : take ((n - 1) + 1) ds ≡ take (n - 1) ds ++ get_or ds (n - 1) d ∷ [] = (take_at_read ds (n - 1) d (omega arith)).1 in
    ap (λ (k : ℕ). behind_calls (decorators_of (take k ds)) w) step ∙ ap (λ (xs : List Decorator). behind_calls (decorators_of xs) w) cut
    ∙ ap (λ (x : Decorator). behind_calls (decorators_of (take (n - 1) ds ++ x ∷ [])) w) (sym at_n) ∙ calls-last (take (n - 1) ds) d w
