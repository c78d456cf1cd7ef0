-- Rows that wait on levels; where there are none, on no level.
use Rattle.std.proofs.Common.{◌≡◌, ℕ, List, [], ◌∷◌, length, arith}
use Rattle.pt_ranges.specs.declared.handlers.Handler.{Handler}
use Rattle.pt_sizes.specs.Waiting.{Level, Index}
use Rattle.pt_step_graph.proofs.Numbers.{none_in}
use Rattle.pt_block_kinds.specs.Leads.{numbered}
use Rattle.pt_block_kinds.specs.Graph.{AreLaid}

pub laid : (rows : List Handler) (count : ℕ) (levels : List Level) → Index (numbered 0 rows) count levels → AreLaid rows count levels
laid rows count levels i = record { wait = record { known = i.known; whole = i.whole; sorted = i.sorted }; wide = i.tall.wide }

pub none_laid : (rows : List Handler) (count : ℕ) (levels : List Level) → length rows ≡ 0 → levels ≡ [] → AreLaid rows count levels
none_laid [] count [] e none = record {
  wait = record {
    known = λ pc row w. absurd (none_in row w.among);
    whole = λ pc row lt c. absurd (none_in row c);
    sorted = λ k v i j r s h a b. absurd (cc);
  };
  wide = λ k h. absurd (omega (arith, h));
}
none_laid [] count (level ∷ levels) e none = absurd (cc)
none_laid (row ∷ rows) count levels e none = absurd (omega (arith, e))
