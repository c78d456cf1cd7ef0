-- A refusal as an error is that of the first block.
use Rattle.std.proofs.Common.{◌≡◌, ◌⊎◌, inl, inr, ℕ, ◌+◌, ◌<◌, ◌≤◌, List, length, get_or, Some, refl, sym, ap, ◌∙◌, subst, arith}
use Rattle.std.specs.Prelude.{slice_get}
use Rattle.std.proofs.lemmas.Bool.{cases_order}
use Rattle.std.proofs.lemmas.Option.{same_Some, slice_get_read, slice_get_within}
use Rattle.pt_code.specs.declared.Code.{Code}
use Rattle.pt_code.specs.declared.CodeBlock.{CodeBlock}
use Rattle.sem_fits.specs.fits.Fits.{AllFit, BlockFits, depth, kind, silent_loop, stack, table, target}
use Rattle.pt_refusals.specs.declared.failures.Refusal.{Refusal}
use Rattle.pt_refusals.specs.declared.failures.Refusal.TheVariants as refusal
use Rattle.pt_refusals.specs.Verdicts.{misfit_of}
use Rattle.pt_verify.specs.Verdict.{FirstRefused, IsRefused, place_of, placed}

pub is_refused : (c : Code) (n : ℕ) (r : Refusal) (block place : ℕ) → block ≡ n → place ≡ place_of r → FirstRefused c n (misfit_of r)
    → IsRefused c (placed (record { 0 = block }) r place)
is_refused c n (refusal.Stack p) block place e f h = subst (λ k. FirstRefused c block (stack k)) (sym f) (subst (λ k. FirstRefused c k (stack p)) (sym e) h)
is_refused c n (refusal.Kind p) block place e f h = subst (λ k. FirstRefused c block (kind k)) (sym f) (subst (λ k. FirstRefused c k (kind p)) (sym e) h)
is_refused c n (refusal.Target p) block place e f h = subst (λ k. FirstRefused c block (target k)) (sym f) (subst (λ k. FirstRefused c k (target p)) (sym e) h)
is_refused c n (refusal.Table p) block place e f h = subst (λ k. FirstRefused c block (table k)) (sym f) (subst (λ k. FirstRefused c k (table p)) (sym e) h)
is_refused c n (refusal.SilentLoop p) block place e f h = subst (λ k. FirstRefused c block (silent_loop k)) (sym f) (subst (λ k. FirstRefused c k (silent_loop p)) (sym e) h)
is_refused c n refusal.Depth block place e f h = subst (λ k. FirstRefused c k depth) (sym e) h

-- of the blocks below a number all fit
abbrev pub FitBelow : Code → (n : ℕ) → Type 0
FitBelow c n = (k : ℕ) (b : CodeBlock) → k < n → slice_get c.blocks k ≡ Some b → BlockFits c b

pub one_more_fits : (c : Code) (n : ℕ) (b : CodeBlock) → FitBelow c n → slice_get c.blocks n ≡ Some b → BlockFits c b → FitBelow c (n + 1)
one_more_fits c n b fit is here k d lt e = by (cases_order k n)
  where
    by : (k ≡ n) ⊎ ((k < n) ⊎ (n < k)) → BlockFits c d
    by (inl same) = subst (BlockFits c) (same_Some b d (sym is ∙ (ap (slice_get c.blocks) (sym same) ∙ e))) here
    by (inr (inl low)) = fit k d low e
    by (inr (inr high)) = absurd (omega (arith, lt, high))

pub all_fit : (c : Code) (n : ℕ) → length c.blocks ≤ n → FitBelow c n → AllFit c
all_fit c n le fit k b e = fit k b (let low = slice_get_within c.blocks k b e in omega (arith, low, le)) e

pub listed_at : (blocks seen : List CodeBlock) (n : ℕ) (b : CodeBlock) → seen ≡ blocks → n < length seen → b ≡ get_or seen n b → slice_get blocks n ≡ Some b
listed_at blocks seen n b e lt is = subst (λ xs. slice_get xs n ≡ Some b) e (slice_get_read seen (length seen) n b refl lt is)
