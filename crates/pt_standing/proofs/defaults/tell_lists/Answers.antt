use Rattle.pt_standing.proofs.defaults.tell_lists.Goals as goal

pub loop-list-init : goal.loop-list-init
loop-list-init c = λ d h t. t
