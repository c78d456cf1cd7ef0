-- How arguments begin.
use Rattle.std.proofs.Common.{◌≡◌, ◌≢◌, ℕ, ◌-◌, ◌≤◌, ◌<◌, Bool, true, false, List, [], ◌∷◌, Option, Some, None, inl, inr, refl, sym, ◌∙◌, ap, arith}
use Rattle.pt_grammar.specs.Grammar.{clause, more_clauses, no_clause, no_condition, alone, operand, Expr, Clauses, Argument, by_place, by_keyword, by_star, by_double_star, Arguments, no_arguments, a_generator_alone, arguments, MoreArguments, arguments_end}
use Rattle.pt_base.specs.declared.operators.BinOp.TheVariants.{Mul, Pow}
use Rattle.pt_wide.specs.declared.expression.WideBinOp.TheVariants.{Plain}
use Rattle.pt_wide.specs.Syntax.{Exp, Args}
use Rattle.pt_wide.specs.Measure.{depth_exp}
use Rattle.pt_readers.specs.Reading.{next_of, Alike, Refused}
use Rattle.pt_readers.proofs.Readers.{Binds, Narrows, Just, just, left}
use Rattle.pt_readers.proofs.Pieces.{Through, through}
use Rattle.pt_readers.proofs.Exits.{over_refused_at}
use Rattle.pt_grammar.specs.declared.sign.Sign.TheVariants.{Operator, Mark as mark, Word as word}
use Rattle.pt_grammar.specs.declared.sign.Mark.TheVariants.{Close}
use Rattle.pt_grammar.specs.declared.sign.Word.TheVariants.{For, In}
use Rattle.pt_grammar.specs.Lexemes.{Lexeme, sign, sign_at}
use Rattle.pt_grammar.specs.Signs.{ends_argument, ends_clauses}
use Rattle.pt_grammar.specs.Nodes.{OneClause, a_clause_of, OneArg, positional, args_of, any_next}
use Rattle.pt_grammar.specs.Parts.{Fits, FitsArgs, FitsClauses, some_clauses, Stops, Apart, ends_in_text, an_expr, an_argument, some_arguments}
use Rattle.pt_grammar.specs.CallParts.{begins_expr, Placed, keeps, names, alone_of, Put, put, Opened, generated, several}
use Rattle.pt_grammar.specs.Behind.{Then, Starting, starting, IsSign, is_sign}
use Rattle.pt_grammar.proofs.Begins.{some_name, some_exp, name_binary, name_disjunction}
use Rattle.pt_grammar.proofs.Sequels.{then_binds}
use Rattle.pt_grammar.proofs.Names.{name_alone}
use Rattle.pt_grammar.proofs.Arguments.{placed_argument, placed_stops, placed_part, fits_placed}
use Rattle.pt_grammar.proofs.CallLists.{more_shrinks, more_ends, one_fits}

pub data Opening : List Lexeme → Args → List Lexeme → Type 0 where
  opening : {ts mid rest : List Lexeme} {e : Exp} {x : Args} → Expr ts e mid → Opened e mid x rest → Opening ts x rest

apart_for : (b : Bool) (l : ℕ) → Apart b (Some (sign l (word For)))
apart_for true l = tt
apart_for false l = tt

put_part : (d : ℕ) {e : Exp} {mid rest : List Lexeme} {x : Args} → Put e mid x rest → FitsArgs d x → Fits d e
put_part d (put {a = a} q k) f = let g = more_shrinks d (a ∷ []) k f in placed_part d q (g.0, g.1)

module _ (d : ℕ) where
  pub opening_narrows : (ts : List Lexeme) → sign_at (next_of ts) ≢ Some (Operator (Plain Mul)) → sign_at (next_of ts) ≢ Some (Operator (Plain Pow)) → sign_at (next_of ts) ≢ Some (mark Close)
      → Narrows ts (left (some_arguments d) Opening) (some_arguments d)
  opening_narrows ts n p c = record { into = λ more x rest k. into k; out = λ more x rest a k s. (out a k, s); stop = λ x o s. s; up = λ x f. f; down = λ x f. f }
    where
      into : {more rest : List Lexeme} {x : Args} → Opening more x rest → Arguments more x rest
      into (opening k (generated g)) = a_generator_alone k g
      into (opening k (several (put q m))) = arguments (placed_argument k q) m

      first : {more mid rest : List Lexeme} {a : OneArg} {x : Args} → Alike more ts → Argument any_next more a mid → MoreArguments (a ∷ []) mid x rest → Opening more x rest
      first a (by_place k) m = opening k (several (put keeps m))
      first a (by_keyword {l = l} {x = x} k) m = opening (name_alone l x) (several (put (names k) m))
      first (inl e) (by_star h k) m = absurd (n (sym (ap sign_at e)))
      first (inr e) (by_star h k) m = absurd (cc)
      first (inl e) (by_double_star k) m = absurd (p (sym (ap sign_at e)))
      first (inr e) (by_double_star k) m = absurd (cc)

      out : {more rest : List Lexeme} {x : Args} → Alike more ts → Arguments more x rest → Opening more x rest
      out (inl e) no_arguments = absurd (c (sym (ap sign_at e)))
      out (inr e) no_arguments = absurd (cc)
      out a (a_generator_alone k g) = opening k (generated g)
      out a (arguments q m) = first a q m

  pub opening_binds : Binds (an_expr d) Opened (left (some_arguments d) Opening)
  opening_binds = record {
    intro = λ ts y mid x rest k q. opening k q;
    inv = λ ts x rest k s. out k;
    down = λ y mid x rest q f. part q f;
    finish = λ y f. (sign 0 (mark Close) ∷ [], args_of (positional y ∷ []), one_fits d (positional y) (fits_placed d y f), λ z. several (put keeps arguments_end));
    extend = λ y. (sign 0 (mark Close) ∷ [], args_of (positional y ∷ []), λ z. several (put keeps arguments_end));
  }
    where
      part : {mid rest : List Lexeme} {y : Exp} {x : Args} → Opened y mid x rest → FitsArgs d x → Fits d y
      part (generated g) f = (omega (arith, f.0), omega (arith, f.1))
      part (several q) f = put_part d q f

      ends : {mid rest : List Lexeme} {y : Exp} {x : Args} → Opened y mid x rest → Stops 11 y (next_of mid)
      ends {y = y} (generated {l = l} g) = (omega arith, apart_for (ends_in_text y) l)
      ends (several (put q m)) = placed_stops q (more_ends m)

      out : {ts rest : List Lexeme} {x : Args} → Opening ts x rest → (y : Exp) × (mid : List Lexeme) × Expr ts y mid × Stops 11 y (next_of mid) × Opened y mid x rest
      out (opening k q) = (_, _, k, ends q, q)

  -- where no clauses can begin
  pub put_narrows : (e : Exp) (ts : List Lexeme) → sign_at (next_of ts) ≢ Some (word For) → Narrows ts (left (some_arguments d) (Put e)) (left (some_arguments d) (Opened e))
  put_narrows e ts n = record { into = λ more x rest k. several k; out = λ more x rest a k s. (out a k, s); stop = λ x o s. s; up = λ x f. f; down = λ x f. f }
    where
      out : {more rest : List Lexeme} {x : Args} → Alike more ts → Opened e more x rest → Put e more x rest
      out (inl h) (generated g) = absurd (n (sym (ap sign_at h)))
      out (inr h) (generated g) = absurd (cc)
      out a (several k) = k

  pub put_binds : (e : Exp) → Binds (left (an_argument any_next d) (Placed e)) (λ a. MoreArguments (a ∷ [])) (left (some_arguments d) (Put e))
  put_binds e = record {
    intro = λ ts y mid x rest q k. put q k;
    inv = λ ts x rest k s. out k;
    down = λ y mid x rest k f. let g = more_shrinks d (y ∷ []) k f in (g.0, g.1);
    finish = λ y f. (sign 0 (mark Close) ∷ [], args_of (y ∷ []), one_fits d y f, λ z. arguments_end);
    extend = λ y. (sign 0 (mark Close) ∷ [], args_of (y ∷ []), λ z. arguments_end);
  }
    where
      out : {ts rest : List Lexeme} {x : Args} → Put e ts x rest
          → (y : OneArg) × (mid : List Lexeme) × Placed e ts y mid × (ends_argument (next_of mid) ≡ true) × MoreArguments (y ∷ []) mid x rest
      out (put q m) = (_, _, q, more_ends m, m)

-- what has stars begins no expression
pub stars_no_expr : (o : Option Lexeme) → sign_at o ≡ Some (Operator (Plain Mul)) → begins_expr o ≡ false
stars_no_expr (Some (sign l (Operator (Plain Mul)))) h = refl
stars_no_expr o h = cc

pub double_no_expr : (o : Option Lexeme) → sign_at o ≡ Some (Operator (Plain Pow)) → begins_expr o ≡ false
double_no_expr (Some (sign l (Operator (Plain Pow)))) h = refl
double_no_expr o h = cc

-- no clauses begin as what is left of other arguments
for_no_end : (o : Option Lexeme) → sign_at o ≡ Some (word For) → ends_argument o ≡ true → ⊥
for_no_end (Some (sign l (word For))) h j = cc
for_no_end (Some (sign l s)) h j = cc
for_no_end (Some _) h j = cc
for_no_end None h j = cc

put_no_for : {e : Exp} {mid rest : List Lexeme} {x : Args} → Put e mid x rest → sign_at (next_of mid) ≡ Some (word For) → ⊥
put_no_for {mid = mid} (put keeps m) h = for_no_end (next_of mid) h (more_ends m)
put_no_for (put (names k) m) h = cc

put_some : {e : Exp} {mid rest : List Lexeme} {x : Args} → Put e mid x rest → mid ≡ [] → ⊥
put_some (put keeps m) h = let g = sym (more_ends m) ∙ ap (λ us. ends_argument (next_of us)) h in cc
put_some (put (names k) m) h = cc

-- a generator that is the only argument
abbrev pub Generated : Exp → List Lexeme → Args → List Lexeme → Type 0
Generated e = Then (Starting (IsSign (word For)) (Clauses [])) (λ cs. Through (IsSign (mark Close)) (Just (alone_of e cs)))

module _ (d : ℕ) (e : Exp) where
  pub generated_narrows : (ts : List Lexeme) → sign_at (next_of ts) ≡ Some (word For) → Narrows ts (left (some_arguments d) (Generated e)) (left (some_arguments d) (Opened e))
  generated_narrows ts h = record { into = λ more x rest k. into k.2 k.3; out = λ more x rest a k s. (out a k, s); stop = λ x o s. s; up = λ x f. f; down = λ x f. f }
    where
      into : {more mid rest : List Lexeme} {cs : List OneClause} {x : Args} → Starting (IsSign (word For)) (Clauses []) more cs mid → Through (IsSign (mark Close)) (Just (alone_of e cs)) mid x rest → Opened e more x rest
      into (starting is_sign k) (through is_sign just) = generated k

      out : {more rest : List Lexeme} {x : Args} → Alike more ts → Opened e more x rest → Generated e more x rest
      out a (generated {cs = cs} k) = (cs, _, starting is_sign k, through is_sign just)
      out (inl g) (several k) = absurd (put_no_for k (ap sign_at g ∙ h))
      out (inr g) (several k) = absurd (put_some k g)

  pub generated_binds : Fits d e → depth_exp e < d → Binds (left (some_clauses (d - 1)) (Starting (IsSign (word For)) (Clauses []))) (λ cs. Through (IsSign (mark Close)) (Just (alone_of e cs))) (left (some_arguments d) (Generated e))
  generated_binds f h = then_binds (some_arguments d) (left (some_clauses (d - 1)) (Starting (IsSign (word For)) (Clauses []))) (λ cs. Through (IsSign (mark Close)) (Just (alone_of e cs))) record {
    apart = λ y mid x rest k n. apart y k;
    down = λ y mid x rest k g. shrinks y k g;
    word = λ y. sign 0 (mark Close) ∷ [];
    done = alone_of e;
    up = λ y g. generated_fits y g;
    reads = λ y z. through is_sign just;
  }
    where
      apart : (y : List OneClause) {mid rest : List Lexeme} {x : Args} → Through (IsSign (mark Close)) (Just (alone_of e y)) mid x rest → ends_clauses (next_of mid) ≡ true
      apart y (through is_sign k) = refl

      shrinks : (y : List OneClause) {mid rest : List Lexeme} {x : Args} → Through (IsSign (mark Close)) (Just (alone_of e y)) mid x rest → FitsArgs d x → FitsClauses (d - 1) y
      shrinks y (through is_sign just) g = (omega (arith, g.0), omega (arith, g.1))

      generated_fits : (cs : List OneClause) → FitsClauses (d - 1) cs → FitsArgs d (alone_of e cs)
      generated_fits cs g = (omega (arith, h, g.0), omega (arith, f.1, g.1), omega arith)

  pub generated_over : (ts : List Lexeme) (l : ℕ) → next_of ts ≡ Some (sign l (word For)) → Fits d e → d ≤ depth_exp e → Refused (left (some_arguments d) (Opened e)) true ts ts
  generated_over ts l h f g = over_refused_at (left (some_arguments d) (Opened e)) (sign l (word For)) ts h (λ more x rest k s i. deep k i)
      (some_name ∷ (sign 0 (word In) ∷ (some_name ∷ (sign 0 (mark Close) ∷ [])))) (alone_of e (a_clause_of l some_exp some_exp [] ∷ []))
      (λ z. generated (more_clauses (clause (alone (operand (name_binary 6))) name_disjunction no_condition) no_clause))
      (sign 0 (mark Close) ∷ []) (args_of (positional e ∷ [])) (one_fits d (positional e) (fits_placed d e f)) (λ z. several (put keeps arguments_end))
    where
      deep : {more rest : List Lexeme} {x : Args} → Opened e (sign l (word For) ∷ more) x rest → FitsArgs d x → ⊥
      deep (generated k) i = omega (arith, g, i.0)
      deep (several k) i = put_no_for k refl
