-- Edges into chains that are added one by one.
use Rattle.std.proofs.Common.{◌≡◌, ℕ, ◌+◌, suc, List, ◌++◌, ap, ◌∙◌, arith, append_assoc}
use Rattle.pt_ranges.specs.declared.handlers.Handler.{Handler}
use Rattle.pt_sizes.specs.Waiting.{Level, stretch, up}
use Rattle.pt_block_kinds.specs.Leads.{Lead}
use Rattle.pt_cut_failures.specs.Chains.{start_at}
use Rattle.pt_cut_failures.specs.Leads.{enter_leads, entering}

pub one_level_more : (base : ℕ) (levels : List Level) (starts : List (List ℕ)) (pc below k node start : ℕ) (rows : List Handler) (old now more : List Lead)
    → node ≡ up k pc → rows ≡ stretch levels k node → start ≡ start_at starts k node → now ≡ old ++ entering base levels starts pc below k
    → more ≡ now ++ enter_leads base rows start below → more ≡ old ++ entering base levels starts pc below (k + 1)
one_level_more base levels starts pc below k node start rows old now more at same begins is added =
    added ∙ (ap (λ xs. xs ++ enter_leads base rows start below) is
    ∙ (append_assoc old (entering base levels starts pc below k) (enter_leads base rows start below)
    ∙ (ap (λ xs. old ++ (entering base levels starts pc below k ++ xs)) here
    ∙ ap (λ n. old ++ entering base levels starts pc below n) (let z : suc k ≡ k + 1 = omega arith in z))))
  where
    here : enter_leads base rows start below ≡ enter_leads base (stretch levels k (up k pc)) (start_at starts k (up k pc)) below
    here = ap (λ rs. enter_leads base rs start below) (same ∙ ap (λ v. stretch levels k v) at)
        ∙ ap (λ n. enter_leads base (stretch levels k (up k pc)) n below) (begins ∙ ap (λ v. start_at starts k v) at)
