-- Parts of a comprehension that were written step by step.
use Rattle.std.proofs.Common.{◌≡◌, ℕ, List, ◌∷◌, ◌++◌, Bool, false, ap, ◌∙◌}
use Rattle.pt_base.specs.declared.numbers.ActNo.{ActNo}
use Rattle.pt_tree.specs.Fold.{ClauseOf, behind}
use Rattle.pt_instr.specs.declared.Instr.{Instr}
use Rattle.pt_instr.specs.declared.Instr.TheVariants as instr
use Rattle.sem_control.specs.control.Expressions.{target_names, clause_names}
use Rattle.pt_block_names.specs.declared.block_names.BlockNames.{BlockNames}
use Rattle.pt_assembler.specs.declared.operation.Label.{Label}
use Rattle.pt_assembler.specs.declared.operation.Jump.TheVariants.{AtEnd}
use Rattle.pt_assembler.specs.declared.operation.Operation.TheVariants.{Plain}
use Rattle.pt_assembler.specs.Layout.{Written, put, new_label, next_label}
use Rattle.pt_expr_forms.specs.declared.comprehension.Built.{Built}
use Rattle.pt_expr_forms.specs.declared.comprehension.Begun.{Begun}
use Rattle.pt_expr_forms.specs.Behind.{plain_act, jump_act, behind_exp, behind_target}
use Rattle.pt_expr_forms.specs.Loops.{empty_instr, behind_renewal, behind_iterator, behind_conditions, behind_turn, behind_beginning, inner, with_new_names, begun, behind_begun}

module _ (b : BlockNames) (ns : List ActNo) where
  pub iterator-written : (c : ClauseOf) (g : Bool) (old one two : Written) → one ≡ behind_exp b ns c.iterable g old
      → two ≡ plain_act instr.Iter c.line false one → two ≡ behind_iterator b ns c g old
  unfolding behind_iterator
  iterator-written c g old one two is_one is_two = is_two ∙ ap (λ u. plain_act instr.Iter c.line false u) is_one

  pub turn-written : (c : ClauseOf) (end head : Label) (l : ℕ) (old one two three four : Written) → head ≡ next_label old → one ≡ new_label old
      → two ≡ jump_act AtEnd end c.line one → three ≡ behind_target b ns c.target two → four ≡ behind_conditions b ns c.conditions head l three
      → four ≡ behind_turn b ns c end l old
  unfolding behind_turn
  turn-written c end head l old one two three four is_head is_one is_two is_three is_four =
      let bound : three ≡ behind_target b ns c.target (jump_act AtEnd end c.line (new_label old))
      = is_three ∙ ap (λ u. behind_target b ns c.target u) (is_two ∙ ap (λ u. jump_act AtEnd end c.line u) is_one) in
      is_four ∙ ap (λ u. behind_conditions b ns c.conditions head l u) bound
      ∙ ap (λ h. behind_conditions b ns c.conditions h l (behind_target b ns c.target (jump_act AtEnd end c.line (new_label old)))) is_head

  -- (the instruction and the comprehensions around are what calls return)
  pub begun-written : (k : Built) (l : ℕ) (c : ClauseOf) (cs : List ClauseOf) (g : Bool) (o : Begun) (i : Instr) (ms : List ActNo)
      (old one two three four five six : Written) → o.end ≡ next_label old → one ≡ new_label old → two ≡ behind_iterator b ns c g one
      → i ≡ empty_instr k → three ≡ plain_act i l false two → four ≡ put (Plain instr.Swap) three → o.within ≡ record { 0 = four.act } ∷ ns
      → five ≡ behind_renewal b (record { 0 = four.act } ∷ ns) (target_names c.target ++ clause_names (behind c cs)) four → ms ≡ o.within
      → o.head ≡ next_label five → six ≡ behind_turn b ms c o.end l five → (o ≡ begun b ns k l c cs g old) × (six ≡ behind_begun b ns k l c cs g old)
  unfolding begun behind_begun behind_beginning with_new_names
  begun-written k l c cs g o i ms old one two three four five six is_end is_one is_two is_empty is_three is_four is_within is_five is_inner is_head is_six =
      let within_at : Written → List ActNo = λ u. record { 0 = u.act } ∷ ns in
      let built : three ≡ plain_act (empty_instr k) l false (behind_iterator b ns c g (new_label old))
      = is_three ∙ ap (λ j. plain_act j l false two) is_empty
      ∙ ap (λ u. plain_act (empty_instr k) l false u) (is_two ∙ ap (λ u. behind_iterator b ns c g u) is_one) in
      let there : four ≡ behind_beginning b ns k l c g old = is_four ∙ ap (λ u. put (Plain instr.Swap) u) built in
      let within : o.within ≡ inner b ns k l c g old = is_within ∙ ap within_at there in
      let anew : five ≡ with_new_names b ns k l c cs g old
      = is_five ∙ ap (λ u. behind_renewal b (within_at u) (target_names c.target ++ clause_names (behind c cs)) u) there in
      let head : o.head ≡ next_label (with_new_names b ns k l c cs g old) = is_head ∙ ap next_label anew in (
        λ j. record { end = is_end j; head = head j; within = within j },
        is_six ∙ ap (λ v. behind_turn b v c o.end l five) (is_inner ∙ within) ∙ ap (λ x. behind_turn b (inner b ns k l c g old) c x l five) is_end
            ∙ ap (λ u. behind_turn b (inner b ns k l c g old) c (next_label old) l u) anew,
      )
