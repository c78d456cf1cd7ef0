-- Other instructions than `raise` alone come to something else.
use Rattle.std.proofs.Common.{◌≡◌, refl}
use Rattle.pt_instr.specs.declared.Instr.{Instr}
use Rattle.pt_instr.specs.declared.Instr.TheVariants as instr
use Rattle.law_doing.specs.pt_machine_state.pt_code_facts.sem_rows.declared.heap_rows.progress.Progress.{Progress}
use Rattle.law_doing.specs.pt_machine_state.pt_code_facts.sem_rows.declared.heap_rows.progress.Progress.TheVariants as progress
use Rattle.pt_applying.specs.Acting.{RaisesAsItself}

pub other_raises : (j : Instr) (p : Progress) → (p ≡ progress.RaisesAgain → ⊥)
    → (j ≡ instr.RaiseAgain → ⊥) → RaisesAsItself j p
other_raises j progress.RaisesAgain isnt other = absurd (isnt refl)
other_raises j progress.Next isnt other = other
other_raises j (progress.Goto pc) isnt other = other
other_raises j (progress.Leaves how) isnt other = other
other_raises j (progress.Reraises x) isnt other = other
other_raises j (progress.Print t) isnt other = other
other_raises j (progress.Calls b hidden ls why) isnt other = other
other_raises j (progress.Raises x) isnt other = other
other_raises j (progress.Fails c a) isnt other = other
other_raises j (progress.FailsSaying c t) isnt other = other
other_raises j (progress.Outside what) isnt other = other
other_raises j progress.Lacks isnt other = other
