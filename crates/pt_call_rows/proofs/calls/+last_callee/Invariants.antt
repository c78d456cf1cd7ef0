use Rattle.pt_call_rows.proofs.calls.+last_callee.Given as goal

abbrev pub decreases-last_callee : goal.decreases-last_callee
decreases-last_callee l = l.left
