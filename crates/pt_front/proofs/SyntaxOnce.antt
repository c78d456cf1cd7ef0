-- Tokens are one script or expression, or are none for one reason, and never both.
use Rattle.std.proofs.Common.{◌≡◌, ◌≢◌, ℕ, List, [], ◌∷◌, length, drop, Some, Bool, true, false, Ok, Err, inl, inr, refl, sym, ap, ◌∙◌, subst}
use Rattle.std.specs.Prelude.{is_some, ◌+◌, ◌-◌}
use Rattle.pt_base.specs.declared.failure.Failure.TheVariants.{Refused}
use Rattle.pt_base.specs.declared.numbers.Line.{Line}
use Rattle.pt_literals.specs.declared.token.Token.{Token}
use Rattle.pt_tree.specs.Syntax as T
use Rattle.pt_wide.specs.Syntax as W
use Rattle.pt_wide.specs.StatementFold.{stms_from}
use Rattle.pt_readers.specs.Reading.{next_of, Part}
use Rattle.pt_readers.specs.Whole.{Tells}
use Rattle.pt_readers.specs.declared.halt.Halt.{Halt}
use Rattle.pt_readers.specs.declared.halt.Halt.TheVariants as cause
use Rattle.pt_readers.proofs.Wholes.{one_answer}
use Rattle.pt_grammar.specs.Lexemes.{Lexeme, lexemes, line_at}
use Rattle.pt_grammar.specs.declared.part.Part.TheVariants.{Whole}
use Rattle.pt_expr.specs.Answers.{part_of, place_at}
use Rattle.pt_parser.specs.Script.{a_script, IsNone}
use Rattle.pt_refine_expr.specs.Faults.{Fault, bad_target, excluded, faults_exp, is_clean}
use Rattle.pt_refine_expr.specs.StatementFaults.{faults_stms}
use Rattle.pt_refine_expr.specs.Narrow.{narrow_exp}
use Rattle.pt_refine_expr.specs.StatementNarrow.{narrow_script}
use Rattle.pt_refine_expr.specs.Told.{IsTold, no_memory, told_target, told_excluded}
use Rattle.pt_refine_expr.specs.declared.narrowing.Narrowing.{Narrowing}
use Rattle.pt_refine_expr.specs.declared.narrowing.Narrowing.TheVariants as narrowing
use Rattle.pt_refine_expr.proofs.Agreement.{agreed}
use Rattle.pt_refine_expr.proofs.OnePass.{agrees-exp}
use Rattle.pt_refine_expr.proofs.StatementOnePass.{agrees-stms}
use Rattle.pt_front.specs.declared.syntax.SyntaxErr.{SyntaxErr}
use Rattle.pt_front.specs.declared.syntax.SyntaxErr.TheVariants.{Unexpected, BadTarget, Excluded, Limit}
use Rattle.pt_front.specs.Syntax.{of_narrowing, AreWide, AreScript, HaveFault, AreNoScript, BeginWide, IsExpr, HasFault, IsNoExpr}

-- what is told of the first of these faults
abbrev reason : List Fault → Narrowing
reason [] = narrowing.Memory
reason (bad_target l ∷ fs) = narrowing.BadTarget (record { 0 = l })
reason (excluded l ∷ fs) = narrowing.Excluded (record { 0 = l })

told_is : (fs : List Fault) (n : Narrowing) → IsTold fs n → n ≢ narrowing.Memory → n ≡ reason fs
told_is fs n (no_memory fs') some = absurd (some refl)
told_is fs n (told_target l fs') some = refl
told_is fs n (told_excluded l fs') some = refl

told_some : (fs : List Fault) (n : Narrowing) → IsTold fs n → n ≢ narrowing.Memory → is_clean fs ≡ false
told_some fs n (no_memory fs') some = absurd (some refl)
told_some fs n (told_target l fs') some = refl
told_some fs n (told_excluded l fs') some = refl

module _ {T A : Type 0} (P : Part T A) (ts u v : List T) where
  two_ok : (x y : A) → Tells P ts u (Ok x) → Tells P ts v (Ok y) → (x ≡ y) × (u ≡ v)
  two_ok x y a b = let e = one_answer P ts u v (Ok x) (Ok y) a b (λ h. cc) (λ h. cc) in (let k = e.0 in cc, e.1)

  two_err : (h : Halt) → h ≢ cause.Memory → Tells P ts u (Err h) → Tells P ts v (Err h) → u ≡ v
  two_err h some a b = (one_answer P ts u v (Err h) (Err h) a b (λ k. some (cc)) (λ k. some (cc))).1

  ok_or_err : (x : A) (h : Halt) → h ≢ cause.Memory → Tells P ts u (Ok x) → Tells P ts v (Err h) → ⊥
  ok_or_err x h some a b = let e = (one_answer P ts u v (Ok x) (Err h) a b (λ k. cc) (λ k. some (cc))).0 in cc

  unexpected_or_limit : Tells P ts u (Err cause.Unexpected) → Tells P ts v (Err cause.Limit) → ⊥
  unexpected_or_limit a b = let e = (one_answer P ts u v (Err cause.Unexpected) (Err cause.Limit) a b (λ k. cc) (λ k. cc)).0 in cc

same : (d e : SyntaxErr) → Refused d ≡ Refused e → d ≡ e
same d e h = cc

-- why tokens are no script
data Why (ts : List Token) (e : SyntaxErr) : Type 0 where
  none : (rest : List Lexeme) → IsNone (lexemes ts) rest → e ≡ Unexpected (place_at ts (length rest)) → Why ts e
  over : (rest : List Lexeme) → Tells a_script (lexemes ts) rest (Err cause.Limit) → e ≡ Limit (record { 0 = line_at (next_of rest) }) → Why ts e
  left_out : (n : Narrowing) → n ≢ narrowing.Memory → HaveFault ts n → Refused e ≡ of_narrowing n → Why ts e

module _ (ts : List Token) where
  why : (e : SyntaxErr) → AreNoScript ts e → Why ts e
  why (Unexpected at) (rest, is, place) = none rest is (λ k. Unexpected (place k))
  why (Limit line) (rest, beyond, l) = over rest beyond (λ k. Limit (record { 0 = l k }))
  why (BadTarget line) f = left_out (narrowing.BadTarget line) (λ h. cc) f refl
  why (Excluded line) f = left_out (narrowing.Excluded line) (λ h. cc) f refl

  wide_once : (ss tt' : List W.Stm) → AreWide ts ss → AreWide ts tt' → ss ≡ tt'
  wide_once ss tt' a b = (two_ok a_script (lexemes ts) [] [] ss tt' a b).0

  none_once : (u v : List Lexeme) → IsNone (lexemes ts) u → IsNone (lexemes ts) v → u ≡ v
  none_once u v (inl a) (inl b) = two_err a_script (lexemes ts) u v cause.Unexpected (λ h. cc) a b
  none_once u v (inl a) (inr (ss, b, more)) = absurd (ok_or_err a_script (lexemes ts) v u ss cause.Unexpected (λ h. cc) b a)
  none_once u v (inr (ss, a, more)) (inl b) = absurd (ok_or_err a_script (lexemes ts) u v ss cause.Unexpected (λ h. cc) a b)
  none_once u v (inr (ss, a, more)) (inr (ss', b, more')) = (two_ok a_script (lexemes ts) u v ss ss' a b).1

  none_or_over : (u v : List Lexeme) → IsNone (lexemes ts) u → Tells a_script (lexemes ts) v (Err cause.Limit) → ⊥
  none_or_over u v (inl a) b = unexpected_or_limit a_script (lexemes ts) u v a b
  none_or_over u v (inr (ss, a, more)) b = ok_or_err a_script (lexemes ts) u v ss cause.Limit (λ h. cc) a b

  none_or_wide : (u : List Lexeme) (ss : List W.Stm) → IsNone (lexemes ts) u → AreWide ts ss → ⊥
  none_or_wide u ss (inl a) w = ok_or_err a_script (lexemes ts) [] u ss cause.Unexpected (λ h. cc) w a
  none_or_wide u ss (inr (ss', a, more)) w = more (two_ok a_script (lexemes ts) u [] ss' ss a w).1

  over_or_wide : (u : List Lexeme) (ss : List W.Stm) → Tells a_script (lexemes ts) u (Err cause.Limit) → AreWide ts ss → ⊥
  over_or_wide u ss a w = ok_or_err a_script (lexemes ts) [] u ss cause.Limit (λ h. cc) w a

  fault_once : (n m : Narrowing) → n ≢ narrowing.Memory → m ≢ narrowing.Memory → HaveFault ts n → HaveFault ts m → n ≡ m
  fault_once n m p q f g =
      told_is _ n f.is_told p ∙ ap (λ ss. reason (faults_stms (stms_from ss))) (wide_once f.wide g.wide f.are_wide g.are_wide) ∙ sym (told_is _ m g.is_told q)

  why_once : (d e : SyntaxErr) → Why ts d → Why ts e → d ≡ e
  why_once d e (none u a i) (none v b j) = i ∙ ap (λ r. Unexpected (place_at ts (length r))) (none_once u v a b) ∙ sym j
  why_once d e (none u a i) (over v b j) = absurd (none_or_over u v a b)
  why_once d e (none u a i) (left_out m q g j) = absurd (none_or_wide u g.wide a g.are_wide)
  why_once d e (over u a i) (none v b j) = absurd (none_or_over v u b a)
  why_once d e (over u a i) (over v b j) =
      i ∙ ap (λ r. Limit (record { 0 = line_at (next_of r) })) (two_err a_script (lexemes ts) u v cause.Limit (λ h. cc) a b) ∙ sym j
  why_once d e (over u a i) (left_out m q g j) = absurd (over_or_wide u g.wide a g.are_wide)
  why_once d e (left_out n p f i) (none v b j) = absurd (none_or_wide v f.wide b f.are_wide)
  why_once d e (left_out n p f i) (over v b j) = absurd (over_or_wide v f.wide b f.are_wide)
  why_once d e (left_out n p f i) (left_out m q g j) = same d e (i ∙ ap of_narrowing (fault_once n m p q f g) ∙ sym j)

  pub one_reason : (d e : SyntaxErr) → AreNoScript ts d → AreNoScript ts e → d ≡ e
  one_reason d e a b = why_once d e (why d a) (why e b)

  pub one_script : (s t : T.Stms) → AreScript ts s → AreScript ts t → s ≡ t
  one_script s t a b =
      let e = sym a.is_narrow ∙ ap (λ ss. narrow_script (stms_from ss)) (wide_once a.wide b.wide a.are_wide b.are_wide) ∙ b.is_narrow in cc

  script_or_fault : (s : T.Stms) (n : Narrowing) → n ≢ narrowing.Memory → AreScript ts s → HaveFault ts n → ⊥
  script_or_fault s n some a f =
      let clean : true ≡ is_clean (faults_stms (stms_from a.wide)) = sym (ap is_some a.is_narrow) ∙ agreed (agrees-stms 1 (stms_from a.wide)) in
      let same : is_clean (faults_stms (stms_from a.wide)) ≡ is_clean (faults_stms (stms_from f.wide)) =
      ap (λ ss. is_clean (faults_stms (stms_from ss))) (wide_once a.wide f.wide a.are_wide f.are_wide) in
      let bad = told_some _ n f.is_told some in cc

  script_or_why : (s : T.Stms) (e : SyntaxErr) → AreScript ts s → Why ts e → ⊥
  script_or_why s e a (none u b i) = none_or_wide u a.wide b a.are_wide
  script_or_why s e a (over u b i) = over_or_wide u a.wide b a.are_wide
  script_or_why s e a (left_out n p f i) = script_or_fault s n p a f

  pub script_or_none : (s : T.Stms) (e : SyntaxErr) → AreScript ts s → AreNoScript ts e → ⊥
  script_or_none s e a b = script_or_why s e a (why e b)

-- why no expression begins at a place
data WhyExpr (ts : List Token) (at : ℕ) (e : SyntaxErr) : Type 0 where
  none : (rest : List Lexeme) → Tells (part_of Whole) (lexemes (drop at ts)) rest (Err cause.Unexpected) → e ≡ Unexpected (place_at (drop at ts) (length rest)) → WhyExpr ts at e
  over : (rest : List Lexeme) → Tells (part_of Whole) (lexemes (drop at ts)) rest (Err cause.Limit) → e ≡ Limit (record { 0 = line_at (next_of rest) }) → WhyExpr ts at e
  left_out : (n : Narrowing) → n ≢ narrowing.Memory → HasFault ts at n → Refused e ≡ of_narrowing n → WhyExpr ts at e

module _ (ts : List Token) (at : ℕ) where
  why_expr : (e : SyntaxErr) → IsNoExpr ts at e → WhyExpr ts at e
  why_expr (Unexpected place) (rest, (is, p)) = none rest is (λ k. Unexpected (p k))
  why_expr (Limit line) (rest, (beyond, l)) = over rest beyond (λ k. Limit (record { 0 = l k }))
  why_expr (BadTarget line) f = left_out (narrowing.BadTarget line) (λ h. cc) f refl
  why_expr (Excluded line) f = left_out (narrowing.Excluded line) (λ h. cc) f refl

  begun_once : (e f : W.Exp) (n m : ℕ) → BeginWide ts at e n → BeginWide ts at f m → (e ≡ f) × (n ≡ m)
  begun_once e f n m a b =
      let same = two_ok (part_of Whole) (lexemes (drop at ts)) a.rest b.rest e f a.tells b.tells in
      (same.0, a.behind ∙ ap (λ r. at + (length (drop at ts) - length r)) same.1 ∙ sym b.behind)

  expr_fault_once : (n m : Narrowing) → n ≢ narrowing.Memory → m ≢ narrowing.Memory → HasFault ts at n → HasFault ts at m → n ≡ m
  expr_fault_once n m p q f g =
      told_is _ n f.is_told p ∙ ap (λ e. reason (faults_exp e)) (begun_once f.wide g.wide f.next g.next f.begins g.begins).0 ∙ sym (told_is _ m g.is_told q)

  begun_or_err : (e : W.Exp) (n : ℕ) (u : List Lexeme) (h : Halt) → h ≢ cause.Memory → BeginWide ts at e n → Tells (part_of Whole) (lexemes (drop at ts)) u (Err h) → ⊥
  begun_or_err e n u h some a b = ok_or_err (part_of Whole) (lexemes (drop at ts)) a.rest u e h some a.tells b

  why_expr_once : (d e : SyntaxErr) → WhyExpr ts at d → WhyExpr ts at e → d ≡ e
  why_expr_once d e (none u a i) (none v b j) =
      i ∙ ap (λ r. Unexpected (place_at (drop at ts) (length r))) (two_err (part_of Whole) (lexemes (drop at ts)) u v cause.Unexpected (λ h. cc) a b) ∙ sym j
  why_expr_once d e (none u a i) (over v b j) = absurd (unexpected_or_limit (part_of Whole) (lexemes (drop at ts)) u v a b)
  why_expr_once d e (none u a i) (left_out m q g j) = absurd (begun_or_err g.wide g.next u cause.Unexpected (λ h. cc) g.begins a)
  why_expr_once d e (over u a i) (none v b j) = absurd (unexpected_or_limit (part_of Whole) (lexemes (drop at ts)) v u b a)
  why_expr_once d e (over u a i) (over v b j) =
      i ∙ ap (λ r. Limit (record { 0 = line_at (next_of r) })) (two_err (part_of Whole) (lexemes (drop at ts)) u v cause.Limit (λ h. cc) a b) ∙ sym j
  why_expr_once d e (over u a i) (left_out m q g j) = absurd (begun_or_err g.wide g.next u cause.Limit (λ h. cc) g.begins a)
  why_expr_once d e (left_out n p f i) (none v b j) = absurd (begun_or_err f.wide f.next v cause.Unexpected (λ h. cc) f.begins b)
  why_expr_once d e (left_out n p f i) (over v b j) = absurd (begun_or_err f.wide f.next v cause.Limit (λ h. cc) f.begins b)
  why_expr_once d e (left_out n p f i) (left_out m q g j) = same d e (i ∙ ap of_narrowing (expr_fault_once n m p q f g) ∙ sym j)

  pub one_expr_reason : (d e : SyntaxErr) → IsNoExpr ts at d → IsNoExpr ts at e → d ≡ e
  one_expr_reason d e a b = why_expr_once d e (why_expr d a) (why_expr e b)

  pub one_expr : (e f : T.Exp) (n m : ℕ) → IsExpr ts at e n → IsExpr ts at f m → (e ≡ f) × (n ≡ m)
  one_expr e f n m a b =
      let same = begun_once a.wide b.wide n m a.begins b.begins in
      let trees = sym a.is_narrow ∙ ap (narrow_exp 1) same.0 ∙ b.is_narrow in (cc, same.1)

  expr_or_why : (x : T.Exp) (n : ℕ) (e : SyntaxErr) → IsExpr ts at x n → WhyExpr ts at e → ⊥
  expr_or_why x n e a (none u b i) = begun_or_err a.wide n u cause.Unexpected (λ h. cc) a.begins b
  expr_or_why x n e a (over u b i) = begun_or_err a.wide n u cause.Limit (λ h. cc) a.begins b
  expr_or_why x n e a (left_out k p f i) =
      let clean : true ≡ is_clean (faults_exp a.wide) = sym (ap is_some a.is_narrow) ∙ agreed (agrees-exp 1 a.wide) in
      let same : is_clean (faults_exp a.wide) ≡ is_clean (faults_exp f.wide) = ap (λ w. is_clean (faults_exp w)) (begun_once a.wide f.wide n f.next a.begins f.begins).0 in
      let bad = told_some _ k f.is_told p in cc

  pub expr_or_none : (x : T.Exp) (n : ℕ) (e : SyntaxErr) → IsExpr ts at x n → IsNoExpr ts at e → ⊥
  expr_or_none x n e a b = expr_or_why x n e a (why_expr e b)
