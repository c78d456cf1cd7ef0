-- In a block whose statements can be reached each row is the mark of an act that is met.
use Rattle.std.proofs.Common.{◌≡◌, ℕ, ◌+◌, ◌<◌, ◌++◌, length, false, refl, sym, ◌∙◌, arith, []}
use Rattle.std.proofs.lemmas.List.{length-append}
use Rattle.pt_tree.specs.declared.act.ActKind.TheVariants as K
use Rattle.pt_tree.specs.Syntax.{Exp, Clauses, Tgt, Stms}
use Rattle.pt_tree.specs.Sizes.{size, target_size, clauses_size}
use Rattle.pt_tree.specs.Acts.{act, acts_exp, acts_stms}
use Rattle.pt_tree.specs.Blocks as B
use Rattle.pt_tree.specs.Blocks.{Code, acts_of_code, function_body}
use Rattle.pt_tree.proofs.Counts.{count_exp, count_target, count_clauses, count_stms}
use Rattle.sem_control.specs.control.Turn.{Around}
use Rattle.sem_control.specs.control.Control.{start, start_lambda, start_generator}
use Rattle.sem_control.specs.control.Reached.{Meets, start_code}
use Rattle.sem_control.specs.control.Endings.{All_reached, Code_reached}
use Rattle.sem_control.proofs.control.MarksPaths.{Met, met_to, met_then, met_one, runs_to, value_runs, deed_runs, some_runs, runs_then}
use Rattle.sem_control.proofs.control.MarksMetExpressions.{exp_runs, target_runs, clauses_met}
use Rattle.sem_control.proofs.control.MarksMetStatements.{all_met}

module _ {V : Type 0} (block : Around V) where
  start_met : (ss : Stms) → All_reached ss → Met block (start block ss) 0 (length (acts_stms ss))
  start_met ss h = met_to block (all_met block ss h 0 []) (omega (arith, count_stms ss))

  lambda_met : (l : ℕ) (e : Exp) → Met block (start_lambda block l e) 0 (length (acts_of_code (B.of_lambda l e)))
  lambda_met l e =
      let many : length (acts_exp e ++ act K.Return l) ≡ size e + 1 = length-append (acts_exp e) (act K.Return l) ∙ omega (arith, count_exp e) in
      let none_before : 0 + size e ≡ size e = omega arith in
      met_to block (met_then block (runs_to block (exp_runs block e 0 false _) none_before) (met_one block refl)) (sym many)

  generator_many : (l : ℕ) (e : Exp) (k : ℕ) (t : Tgt) (cs : Clauses)
      → length (acts_of_code (B.of_generator l e k t cs)) ≡ 0 + 1 + target_size t + clauses_size cs + (size e + 2)
  generator_many l e k t cs = simp (length-append, count_target t, count_clauses l cs, count_exp e) (omega arith)

  generator_met : (l : ℕ) (e : Exp) (k : ℕ) (t : Tgt) (cs : Clauses) (i : V)
      → Met block (start_generator block l e k t cs i) 0 (length (acts_of_code (B.of_generator l e k t cs)))
  generator_met l e k t cs i =
      met_to block (met_then block (some_runs block) (met_then block (target_runs block t block.null (0 + 1) _)
      (clauses_met block cs (0 + 1 + target_size t) _ (size e + 2) (λ m q.
      (runs_to block (runs_then block (exp_runs block e m false _) (runs_then block (value_runs block) (deed_runs block))) (omega arith)).met)))) (sym (generator_many l e k t cs))

  code_met : (code : Code) (first : V) → Code_reached code → Met block (start_code block code first) 0 (length (acts_of_code code))
  code_met (B.of_module ss) i h = start_met ss h
  code_met (B.of_function ss) i h = start_met (function_body ss) h
  code_met (B.of_class ss) i h = start_met ss h
  code_met (B.of_lambda l e) i h = lambda_met l e
  code_met (B.of_generator l e k t cs) i h = generator_met l e k t cs i

  pub rows_are_met : (code : Code) (first : V) → Code_reached code → (n : ℕ) → n < length (acts_of_code code) → Meets block (start_code block code first) n
  rows_are_met code first h n high = (code_met code first h).at n (omega arith) high
