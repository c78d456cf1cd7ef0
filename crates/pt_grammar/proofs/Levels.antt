-- Operators of one rank, from the left.
use Rattle.std.proofs.Common.{◌≡◌, ◌≢◌, ℕ, zero, suc, ◌-◌, ◌≤◌, ◌<◌, List, [], ◌∷◌, Some, true, sym, ◌∙◌, ap, subst, arith}
use Rattle.pt_wide.specs.declared.expression.WideBinOp.{WideBinOp}
use Rattle.pt_wide.specs.declared.expression.WideBinOp.TheVariants.{MatMul}
use Rattle.pt_wide.specs.Syntax as S
use Rattle.pt_wide.specs.Syntax.{Exp}
use Rattle.pt_wide.specs.Measure.{depth_exp}
use Rattle.pt_readers.specs.Reading.{next_of, Found, Refused}
use Rattle.pt_readers.proofs.Readers.{Binds, Shifts, Narrows, left}
use Rattle.pt_readers.proofs.Loops.{Repeats, Out, at_end, at_step, Right, loop_shifts, loop_binds, loop_found, loop_over}
use Rattle.pt_grammar.specs.declared.sign.Sign.TheVariants.{Operator}
use Rattle.pt_grammar.specs.Lexemes.{Lexeme, sign, sign_at}
use Rattle.pt_grammar.specs.Signs.{rank_of}
use Rattle.pt_grammar.specs.Grammar.{Binary, factor, binary, Operated, operated_end, operated_more, Factor}
use Rattle.pt_grammar.specs.Nodes.{line_of}
use Rattle.pt_grammar.specs.Parts.{Fits, Stops, ends_in_text, a_factor, a_binary}
use Rattle.pt_grammar.proofs.OperatorRanks.{rank_small}
use Rattle.pt_grammar.proofs.Ranks.{apart_of}
use Rattle.pt_grammar.proofs.Begins.{some_name, some_exp, name_binary}

pub data IsOperator (r : ℕ) : Lexeme → Type 0 where
  is_operator : {l : ℕ} {o : WideBinOp} → rank_of o ≡ r → IsOperator r (sign l (Operator o))

abbrev pub operator_in : Lexeme → WideBinOp
operator_in (sign l (Operator o)) = o
operator_in _ = MatMul

abbrev pub operated_by : Exp → Lexeme → Exp → Exp
operated_by a t b = S.binary (line_of a) (operator_in t) a b

abbrev pub itself : Exp → Exp
itself e = e

-- of the rank m + 1, whose operands are of the rank n + 1
module _ (m n d : ℕ) (h : m ≡ suc n) where
  operated_shrinks : {a x : Exp} {ts rest : List Lexeme} → Operated n a ts x rest → Fits d x → Fits d a
  operated_shrinks operated_end f = f
  operated_shrinks (operated_more e q k) f = let g = operated_shrinks k f in (omega (arith, g.0), omega (arith, g.1))

  pub operated : Repeats (a_binary m d) (Operated n) (IsOperator (suc m)) (λ t. a_binary n (d - 1)) operated_by itself
  operated = record {
    done = λ s ts. operated_end;
    step = λ s t ts mid rest b x j q k. step j q k;
    out = λ s ts x rest k. out k;
    ends = λ x t s j. ends x j s;
    stays = λ s t b o g. (omega (arith, g.0), g.1);
    goes = λ t b u j. goes b j;
    shrinks = λ s ts x rest k f. operated_shrinks k f;
    part = λ s t b f. (omega (arith, f.0), omega (arith, f.1));
    far = λ t j. (some_name ∷ [], some_exp, λ z. name_binary n);
  }
    where
      step : {s b x : Exp} {t : Lexeme} {ts mid rest : List Lexeme} → IsOperator (suc m) t → Binary n ts b mid → Operated n (operated_by s t b) mid x rest → Operated n s (t ∷ ts) x rest
      step (is_operator e) q k = operated_more (e ∙ ap suc h) q k

      out : {s x : Exp} {ts rest : List Lexeme} → Operated n s ts x rest
          → Out (a_binary m d) (Operated n) (IsOperator (suc m)) (λ t. a_binary n (d - 1)) operated_by itself s ts x rest
      out operated_end = at_end
      out (operated_more e q k) = at_step (is_operator (e ∙ ap suc (sym h))) q k

      ends : (x : Exp) {t : Lexeme} → IsOperator (suc m) t → Stops (suc m) x (Some t) → ⊥
      ends x (is_operator e) s = omega (arith, s.0)

      goes : (b : Exp) {u : Lexeme} → IsOperator (suc m) u → Stops (suc n) b (Some u)
      goes b (is_operator {l = l} {o = o} e) = (omega arith, apart_of (ends_in_text b) l (Operator o) (omega (arith, rank_small o)))

  first_stops : {a x : Exp} {ts rest : List Lexeme} → Operated n a ts x rest → Stops (suc m) x (next_of rest) → Stops (suc n) a (next_of ts)
  first_stops operated_end s = (omega (arith, s.0), s.1)
  first_stops {a} (operated_more {l = l} {o = o} e q k) s = (omega arith, apart_of (ends_in_text a) l (Operator o) (omega (arith, rank_small o)))

  pub binary_binds : Binds (a_binary n d) (Operated n) (a_binary m d)
  binary_binds = record {
    intro = λ ts y mid x rest q k. subst (λ v. Binary v ts x rest) (sym h) (binary q k);
    inv = λ ts x rest k s. out (subst (λ v. Binary v ts x rest) h k) s;
    down = λ y mid x rest k f. operated_shrinks k f;
    finish = λ y f. ([], y, f, λ z. operated_end);
    extend = λ y. ([], y, λ z. operated_end);
  }
    where
      out : {ts rest : List Lexeme} {x : Exp} → Binary (suc n) ts x rest → Stops (suc m) x (next_of rest)
          → (y : Exp) × (mid : List Lexeme) × Binary n ts y mid × Stops (suc n) y (next_of mid) × Operated n y mid x rest
      out (binary q k) s = (_, _, q, first_stops k s, k)

  pub operator_shifts : (a : Exp) (l : ℕ) (o : WideBinOp) → rank_of o ≡ suc m
      → Shifts (sign l (Operator o)) (left (a_binary m d) (Right (a_binary m d) (Operated n) (IsOperator (suc m)) (λ t. a_binary n (d - 1)) operated_by itself a (sign l (Operator o)))) (left (a_binary m d) (Operated n a))
  operator_shifts a l o e = loop_shifts (a_binary m d) (Operated n) (IsOperator (suc m)) (λ t. a_binary n (d - 1)) operated_by itself operated a (sign l (Operator o)) (is_operator e)

  pub operand_binds : (a : Exp) (l : ℕ) (o : WideBinOp) → Fits d a → depth_exp a < d
      → Binds (a_binary n (d - 1)) (λ b. Operated n (S.binary (line_of a) o a b)) (left (a_binary m d) (Right (a_binary m d) (Operated n) (IsOperator (suc m)) (λ t. a_binary n (d - 1)) operated_by itself a (sign l (Operator o))))
  operand_binds a l o f g = loop_binds (a_binary m d) (Operated n) (IsOperator (suc m)) (λ t. a_binary n (d - 1)) operated_by itself operated a (sign l (Operator o)) (λ b k. (omega (arith, f.0, k.0), omega (arith, f.1, k.1)))

  pub operated_found : (a : Exp) (ts : List Lexeme) → ((o : WideBinOp) → sign_at (next_of ts) ≡ Some (Operator o) → rank_of o ≢ suc m) → Stops (suc m) a (next_of ts) → Fits d a
      → Found (left (a_binary m d) (Operated n a)) ts a ts
  operated_found a ts n_o s f = loop_found (a_binary m d) (Operated n) (IsOperator (suc m)) (λ t. a_binary n (d - 1)) operated_by itself operated a ts (λ t e j. other j e) s f
    where
      other : {t : Lexeme} → IsOperator (suc m) t → next_of ts ≡ Some t → ⊥
      other (is_operator {o = o} e) k = n_o o (ap sign_at k) e

  pub operated_over : (a : Exp) (ts : List Lexeme) (l : ℕ) (o : WideBinOp) → next_of ts ≡ Some (sign l (Operator o)) → rank_of o ≡ suc m → Fits d a → d ≤ depth_exp a
      → Refused (left (a_binary m d) (Operated n a)) true ts ts
  operated_over a ts l o e j f g = loop_over (a_binary m d) (Operated n) (IsOperator (suc m)) (λ t. a_binary n (d - 1)) operated_by itself operated a (sign l (Operator o)) ts e (is_operator j) f (λ b k. omega (arith, k.0))

-- factors are of the lowest rank
pub factors : (m d : ℕ) → m ≡ zero → (ts : List Lexeme) → Narrows ts (a_factor d) (a_binary m d)
factors m d h ts = record {
  into = λ more x rest k. subst (λ v. Binary v more x rest) (sym h) (factor k);
  out = λ more x rest a k s. (out (subst (λ v. Binary v more x rest) h k), (omega (arith, s.0), s.1));
  stop = λ x o s. (omega (arith, s.0), s.1);
  up = λ x f. f;
  down = λ x f. f;
}
  where
    out : {more rest : List Lexeme} {x : Exp} → Binary zero more x rest → Factor more x rest
    out (factor k) = k
