-- Arguments with commas between them, up to the parenthesis that closes them.
use Rattle.std.proofs.Common.{◌≡◌, ◌≢◌, ℕ, suc, ◌≤◌, ◌<◌, max, Bool, true, false, List, [], ◌∷◌, ◌++◌, length, map, Option, Some, None, inl, inr, refl, sym, ◌∙◌, ap, subst, arith}
use Rattle.pt_base.specs.declared.operators.BinOp.TheVariants.{Mul, Pow}
use Rattle.pt_wide.specs.declared.expression.WideBinOp.TheVariants.{Plain}
use Rattle.pt_wide.specs.Syntax as S
use Rattle.pt_wide.specs.Syntax.{Exp, Args}
use Rattle.pt_wide.specs.Measure.{depth_args, width_args, count_args}
use Rattle.pt_readers.specs.Reading.{next_of, behind, Part, Alike, Found, Refused}
use Rattle.pt_readers.proofs.Readers.{Binds, Shifts, Narrows, Just, just, left}
use Rattle.pt_readers.proofs.Pieces.{Through, through}
use Rattle.pt_readers.proofs.Exits.{found_at, at_next}
use Rattle.pt_grammar.specs.declared.sign.Sign.TheVariants.{Operator, Mark as mark}
use Rattle.pt_grammar.specs.declared.sign.Mark.TheVariants.{Close, Comma, Assign}
use Rattle.pt_grammar.specs.Lexemes.{Lexeme, name, sign, sign_at}
use Rattle.pt_grammar.specs.Signs.{ends_argument}
use Rattle.pt_grammar.specs.Grammar.{Expr, Argument, by_place, by_keyword, by_star, by_double_star, Arguments, no_arguments, a_generator_alone, arguments, MoreArguments, arguments_end, arguments_comma, more_arguments}
use Rattle.pt_grammar.specs.Nodes.{OneArg, positional, named, spread, spread_named, args_of, Order, any_next, named_next, spread_named_next, order_of}
use Rattle.pt_grammar.specs.Parts.{FitsArg, FitsArgs, max_items, an_argument, some_arguments}
use Rattle.pt_grammar.specs.CallParts.{begins_expr, begins_argument}
use Rattle.pt_grammar.proofs.Ranks.{IsSign, is_sign, not_signed}
use Rattle.pt_grammar.proofs.Begins.{some_name, some_exp, name_expr}
use Rattle.pt_grammar.proofs.Names.{expr_starts, far_expr}
use Rattle.pt_grammar.proofs.StateLists.{StateLists, Out, at_end, at_last, at_item, Behind, Another, another, between_shifts, end_narrows, last_narrows, another_narrows, another_binds, tail_bad, behind_bad, behind_over}

-- the parenthesis that closes them
abbrev pub closes : Option Lexeme → Bool
closes (Some (sign l (mark Close))) = true
closes _ = false

pub closes_so : (o : Option Lexeme) → sign_at o ≡ Some (mark Close) → closes o ≡ true
closes_so (Some (sign l (mark Close))) h = refl
closes_so o h = cc

pub closes_not : (o : Option Lexeme) → sign_at o ≢ Some (mark Close) → closes o ≡ false
closes_not (Some (sign l (mark Close))) n = absurd (n refl)
closes_not o n = refl

close_ends : (o : Option Lexeme) → closes o ≡ true → ends_argument o ≡ true
close_ends (Some (sign l (mark Close))) h = refl
close_ends o h = cc

no_expr_closes : (o : Option Lexeme) → begins_expr o ≡ true → closes o ≡ false
no_expr_closes (Some (sign l (mark Close))) h = cc
no_expr_closes o h = refl

argument_opens : {o : Order} {ts mid : List Lexeme} {a : OneArg} → Argument o ts a mid → closes (next_of ts) ≡ false
argument_opens {ts = ts} (by_place k) = no_expr_closes (next_of ts) (expr_starts k)
argument_opens (by_keyword k) = refl
argument_opens (by_star h k) = refl
argument_opens (by_double_star k) = refl

no_argument : {o : Order} {mid : List Lexeme} {a : OneArg} → Argument o [] a mid → ⊥
no_argument (by_place k) = let h = expr_starts k in cc

-- how they grow
depth_cons : (a : OneArg) (xs : List OneArg) → depth_args (args_of (a ∷ xs)) ≡ max (depth_args (args_of (a ∷ []))) (depth_args (args_of xs))
depth_cons (positional e) xs = omega arith
depth_cons (named l x e) xs = omega arith
depth_cons (spread l e) xs = omega arith
depth_cons (spread_named l e) xs = omega arith

width_cons : (a : OneArg) (xs : List OneArg) → width_args (args_of (a ∷ xs)) ≡ max (width_args (args_of (a ∷ []))) (width_args (args_of xs))
width_cons (positional e) xs = omega arith
width_cons (named l x e) xs = omega arith
width_cons (spread l e) xs = omega arith
width_cons (spread_named l e) xs = omega arith

count_cons : (a : OneArg) (xs : List OneArg) → count_args (args_of (a ∷ xs)) ≡ suc (count_args (args_of xs))
count_cons (positional e) xs = omega arith
count_cons (named l x e) xs = omega arith
count_cons (spread l e) xs = omega arith
count_cons (spread_named l e) xs = omega arith

depth_more : (xs : List OneArg) (a : OneArg) → depth_args (args_of (xs ++ (a ∷ []))) ≡ max (depth_args (args_of xs)) (depth_args (args_of (a ∷ [])))
depth_more [] a = omega arith
depth_more (b ∷ xs) a = omega (arith, depth_cons b xs, depth_cons b (xs ++ (a ∷ [])), depth_more xs a)

width_more : (xs : List OneArg) (a : OneArg) → width_args (args_of (xs ++ (a ∷ []))) ≡ max (width_args (args_of xs)) (width_args (args_of (a ∷ [])))
width_more [] a = omega arith
width_more (b ∷ xs) a = omega (arith, width_cons b xs, width_cons b (xs ++ (a ∷ [])), width_more xs a)

pub count_more : (xs : List OneArg) (a : OneArg) → count_args (args_of (xs ++ (a ∷ []))) ≡ suc (count_args (args_of xs))
count_more [] a = omega (arith, count_cons a [])
count_more (b ∷ xs) a = omega (arith, count_cons b xs, count_cons b (xs ++ (a ∷ [])), count_more xs a)

pub count_length : {X : Type 0} (f : X → OneArg) (ws : List X) → count_args (args_of (map f ws)) ≡ length ws
count_length f [] = refl
count_length f (w ∷ ws) = omega (arith, count_cons (f w) (map f ws), count_length f ws)

pub args_grow : (d : ℕ) (xs : List OneArg) (a : OneArg) → FitsArgs d (args_of xs) → count_args (args_of xs) < max_items → FitsArg d a → FitsArgs d (args_of (xs ++ (a ∷ [])))
args_grow d xs a f h g = (omega (arith, f.0, g.0, depth_more xs a), omega (arith, f.1, g.1, width_more xs a), omega (arith, h, count_more xs a))

args_shrink : (d : ℕ) (xs : List OneArg) (a : OneArg) → FitsArgs d (args_of (xs ++ (a ∷ []))) → FitsArgs d (args_of xs)
args_shrink d xs a f = (omega (arith, f.0, depth_more xs a), omega (arith, f.1, width_more xs a), omega (arith, f.2, count_more xs a))

args_part : (d : ℕ) (xs : List OneArg) (a : OneArg) → FitsArgs d (args_of (xs ++ (a ∷ []))) → FitsArg d a
args_part d xs a f = (omega (arith, f.0, depth_more xs a), omega (arith, f.1, width_more xs a))

pub one_fits : (d : ℕ) (a : OneArg) → FitsArg d a → FitsArgs d (args_of (a ∷ []))
one_fits d a f = (f.0, f.1, omega (arith, count_cons a []))

pub more_shrinks : (d : ℕ) (xs : List OneArg) {x : Args} {ts rest : List Lexeme} → MoreArguments xs ts x rest → FitsArgs d x → FitsArgs d (args_of xs)
more_shrinks d xs arguments_end f = f
more_shrinks d xs arguments_comma f = f
more_shrinks d xs (more_arguments {a = a} q k) f = args_shrink d xs a (more_shrinks d (xs ++ (a ∷ [])) k f)

pub more_ends : {xs : List OneArg} {x : Args} {ts rest : List Lexeme} → MoreArguments xs ts x rest → ends_argument (next_of ts) ≡ true
more_ends arguments_end = refl
more_ends arguments_comma = refl
more_ends (more_arguments q k) = refl

-- what begins one
any_begins : (o : Option Lexeme) → begins_expr o ≡ true → begins_argument any_next o ≡ true
any_begins (Some (name l x)) h = refl
any_begins (Some (sign l (Operator (Plain Mul)))) h = refl
any_begins (Some (sign l (Operator (Plain Pow)))) h = refl
any_begins o h = h

argument_begins : {o : Order} {ts mid : List Lexeme} {a : OneArg} → Argument o ts a mid → begins_argument o (next_of ts) ≡ true
argument_begins {ts = ts} (by_place k) = any_begins (next_of ts) (expr_starts k)
argument_begins (by_keyword k) = refl
argument_begins (by_star h k) = h
argument_begins (by_double_star k) = refl

abbrev FarArgument : Order → Lexeme → Type 0
FarArgument o t = (w : List Lexeme) × (a : OneArg) × ((z : List Lexeme) → Argument o (t ∷ (w ++ z)) a z)

far_any : (t : Lexeme) → begins_expr (Some t) ≡ true → FarArgument any_next t
far_any t h = let f = far_expr t h in (f.0, positional f.1, λ z. by_place (f.2 z))

far_argument : (o : Order) (t : Lexeme) → begins_argument o (Some t) ≡ true → FarArgument o t
far_argument o (name l x) h = (sign 0 (mark Assign) ∷ (some_name ∷ []), named l x some_exp, λ z. by_keyword name_expr)
far_argument o (sign l (Operator (Plain Mul))) h = (some_name ∷ [], spread l some_exp, λ z. by_star h name_expr)
far_argument o (sign l (Operator (Plain Pow))) h = (some_name ∷ [], spread_named l some_exp, λ z. by_double_star name_expr)
far_argument any_next t h = far_any t h
far_argument named_next t h = cc
far_argument spread_named_next t h = cc

begins_token : (o : Order) (next : Option Lexeme) → begins_argument o next ≡ true → (t : Lexeme) × (next ≡ Some t)
begins_token o (Some t) h = (t, refl)
begins_token any_next None h = cc
begins_token named_next None h = cc
begins_token spread_named_next None h = cc

none_begins : (o : Order) → begins_argument o None ≡ false
none_begins any_next = refl
none_begins named_next = refl
none_begins spread_named_next = refl

-- the list
abbrev pub Closing : List OneArg → List Lexeme → Args → List Lexeme → Type 0
Closing xs = Through (IsSign (mark Close)) (Just (args_of xs))

abbrev pub one_more : List OneArg → OneArg → List OneArg
one_more xs a = xs ++ (a ∷ [])

abbrev pub next_argument : ℕ → List OneArg → Part Lexeme OneArg
next_argument d xs = an_argument (order_of xs) d

abbrev pub BehindComma : ℕ → List OneArg → List Lexeme → Args → List Lexeme → Type 0
BehindComma d = Behind (some_arguments d) MoreArguments Closing (IsSign (mark Comma)) closes (next_argument d) one_more args_of

abbrev pub AnotherArgument : ℕ → List OneArg → List Lexeme → Args → List Lexeme → Type 0
AnotherArgument d = Another (some_arguments d) MoreArguments Closing (IsSign (mark Comma)) closes (next_argument d) one_more args_of

module _ (d : ℕ) where
  pub argument_list : StateLists (some_arguments d) MoreArguments Closing (IsSign (mark Comma)) closes (next_argument d) one_more args_of
  argument_list = record {
    done = λ s. (sign 0 (mark Close) ∷ [], λ z. through is_sign just);
    end = λ s ts x rest k. end k;
    last = λ s t ts x rest j k. last j k;
    step = λ s t ts mid rest b x j q k. step j q k;
    out = λ s ts x rest k. out k;
    closes = λ s ts x rest k n. closed s k;
    none_closes = refl;
    between = λ t j. between j;
    begins = λ s ts b mid q. argument_opens q;
    no_item = λ s b mid q. no_argument q;
    stays = λ s b o h. close_ends o h;
    goes = λ s b u j. goes j;
    shrinks = λ s ts x rest k f. more_shrinks d s k f;
    part = λ s b f. args_part d s b f;
  }
    where
      end : {s : List OneArg} {x : Args} {ts rest : List Lexeme} → Closing s ts x rest → MoreArguments s ts x rest
      end (through is_sign just) = arguments_end

      last : {s : List OneArg} {t : Lexeme} {x : Args} {ts rest : List Lexeme} → IsSign (mark Comma) t → Closing s ts x rest → MoreArguments s (t ∷ ts) x rest
      last is_sign (through is_sign just) = arguments_comma

      step : {s : List OneArg} {t : Lexeme} {b : OneArg} {x : Args} {ts mid rest : List Lexeme} → IsSign (mark Comma) t → Argument (order_of s) ts b mid → MoreArguments (s ++ (b ∷ [])) mid x rest → MoreArguments s (t ∷ ts) x rest
      step is_sign q k = more_arguments q k

      out : {s : List OneArg} {x : Args} {ts rest : List Lexeme} → MoreArguments s ts x rest → Out (some_arguments d) MoreArguments Closing (IsSign (mark Comma)) closes (next_argument d) one_more args_of s ts x rest
      out arguments_end = at_end (through is_sign just)
      out arguments_comma = at_last is_sign (through is_sign just)
      out (more_arguments q k) = at_item is_sign q k

      closed : (s : List OneArg) {x : Args} {ts rest : List Lexeme} → Closing s ts x rest → closes (next_of ts) ≡ true
      closed s (through is_sign just) = refl

      between : {t : Lexeme} → IsSign (mark Comma) t → closes (Some t) ≡ false
      between is_sign = refl

      goes : {u : Lexeme} → IsSign (mark Comma) u → ends_argument (Some u) ≡ true
      goes is_sign = refl

  pub comma_shifts : (xs : List OneArg) (l : ℕ) → Shifts (sign l (mark Comma)) (left (some_arguments d) (BehindComma d xs)) (left (some_arguments d) (MoreArguments xs))
  comma_shifts xs l = between_shifts (some_arguments d) MoreArguments Closing (IsSign (mark Comma)) closes (next_argument d) one_more args_of argument_list xs (sign l (mark Comma)) is_sign

  pub closing_narrows : (xs : List OneArg) (ts : List Lexeme) → sign_at (next_of ts) ≡ Some (mark Close) → Narrows ts (left (some_arguments d) (Closing xs)) (left (some_arguments d) (BehindComma d xs))
  closing_narrows xs ts h = last_narrows (some_arguments d) MoreArguments Closing (IsSign (mark Comma)) closes (next_argument d) one_more args_of argument_list xs ts (closes_so (next_of ts) h)

  pub next_narrows : (xs : List OneArg) (ts : List Lexeme) → sign_at (next_of ts) ≢ Some (mark Close) → Narrows ts (left (some_arguments d) (AnotherArgument d xs)) (left (some_arguments d) (BehindComma d xs))
  next_narrows xs ts n = another_narrows (some_arguments d) MoreArguments Closing (IsSign (mark Comma)) closes (next_argument d) one_more args_of argument_list xs ts (closes_not (next_of ts) n)

  pub end_narrows_to : (xs : List OneArg) (ts : List Lexeme) → sign_at (next_of ts) ≢ Some (mark Comma) → Narrows ts (left (some_arguments d) (Closing xs)) (left (some_arguments d) (MoreArguments xs))
  end_narrows_to xs ts n = end_narrows (some_arguments d) MoreArguments Closing (IsSign (mark Comma)) closes (next_argument d) one_more args_of argument_list xs ts (not_signed (next_of ts) n)

  pub next_binds : (xs : List OneArg) → FitsArgs d (args_of xs) → count_args (args_of xs) < max_items
      → Binds (an_argument (order_of xs) d) (λ a. MoreArguments (xs ++ (a ∷ []))) (left (some_arguments d) (AnotherArgument d xs))
  next_binds xs f h = another_binds (some_arguments d) MoreArguments Closing (IsSign (mark Comma)) closes (next_argument d) one_more args_of argument_list xs (λ b g. args_grow d xs b f h g)

  pub end_bad : (xs : List OneArg) (ts : List Lexeme) → sign_at (next_of ts) ≢ Some (mark Comma) → sign_at (next_of ts) ≢ Some (mark Close) → FitsArgs d (args_of xs) → Refused (left (some_arguments d) (MoreArguments xs)) false ts ts
  end_bad xs ts n m f = tail_bad (some_arguments d) MoreArguments Closing (IsSign (mark Comma)) closes (next_argument d) one_more args_of argument_list xs ts (not_signed (next_of ts) n) (closes_not (next_of ts) m) f

  pub next_bad : (xs : List OneArg) (ts : List Lexeme) → begins_argument (order_of xs) (next_of ts) ≡ false → sign_at (next_of ts) ≢ Some (mark Close) → FitsArgs d (args_of xs)
      → Refused (left (some_arguments d) (BehindComma d xs)) false ts ts
  next_bad xs ts h m f = behind_bad (some_arguments d) MoreArguments Closing (IsSign (mark Comma)) closes (next_argument d) one_more args_of argument_list xs ts (λ more a b mid q. out a q) (closes_not (next_of ts) m) f
    where
      out : {more mid : List Lexeme} {b : OneArg} → Alike more ts → Argument (order_of xs) more b mid → ⊥
      out (inl e) q = let g = sym (argument_begins q) ∙ ap (begins_argument (order_of xs)) e ∙ h in cc
      out (inr e) q = let g = sym (argument_begins q) ∙ ap (λ us. begins_argument (order_of xs) (next_of us)) e ∙ none_begins (order_of xs) in cc

  pub next_over : (xs : List OneArg) (ts : List Lexeme) → begins_argument (order_of xs) (next_of ts) ≡ true → FitsArgs d (args_of xs) → max_items ≤ count_args (args_of xs)
      → Refused (left (some_arguments d) (BehindComma d xs)) true ts ts
  next_over xs ts b f h =
      let t = begins_token (order_of xs) (next_of ts) b in
      let w = far_argument (order_of xs) t.0 (subst (λ o. begins_argument (order_of xs) o ≡ true) t.1 b) in
      behind_over (some_arguments d) MoreArguments Closing (IsSign (mark Comma)) closes (next_argument d) one_more args_of argument_list xs t.0 ts t.1 w.0 w.1 w.2 f (λ a g. omega (arith, h, g.2, count_more xs a))

  -- the first of them
  pub none_found : (ts : List Lexeme) (m : ℕ) → next_of ts ≡ Some (sign m (mark Close)) → Found (some_arguments d) ts S.no_args (behind ts)
  none_found ts m e = found_at (at_next ts e) record {
    front = sign m (mark Close) ∷ [];
    whole = refl;
    reads = λ more. no_arguments;
    stops = tt;
    fits = (omega arith, omega arith, omega arith);
    only = λ more a x' rest' k n. out k;
  }
    where
      out : {more rest' : List Lexeme} {x' : Args} → Arguments (sign m (mark Close) ∷ more) x' rest' → (x' ≡ S.no_args) × (rest' ≡ more)
      out no_arguments = (refl, refl)
      out (a_generator_alone k c) = let h = expr_starts k in absurd (cc)
      out (arguments q k) = let h = argument_opens q in absurd (cc)

  -- where it has stars
  pub star_narrows : (ts : List Lexeme) → begins_expr (next_of ts) ≡ false → sign_at (next_of ts) ≢ Some (mark Close) → Narrows ts (left (some_arguments d) (AnotherArgument d [])) (some_arguments d)
  star_narrows ts h n = record { into = λ more x rest k. into k; out = λ more x rest a k s. (out a k, s); stop = λ x o s. s; up = λ x f. f; down = λ x f. f }
    where
      into : {more rest : List Lexeme} {x : Args} → AnotherArgument d [] more x rest → Arguments more x rest
      into (another q k) = arguments q k

      bad : {more rest : List Lexeme} {e : Exp} → Alike more ts → Expr more e rest → ⊥
      bad (inl g) k = let f = sym (expr_starts k) ∙ ap begins_expr g ∙ h in cc
      bad (inr g) k = let f = sym (expr_starts k) ∙ ap (λ us. begins_expr (next_of us)) g in cc

      out : {more rest : List Lexeme} {x : Args} → Alike more ts → Arguments more x rest → AnotherArgument d [] more x rest
      out (inl e) no_arguments = absurd (n (sym (ap sign_at e)))
      out (inr e) no_arguments = absurd (cc)
      out a (a_generator_alone k c) = absurd (bad a k)
      out a (arguments q k) = another q k
