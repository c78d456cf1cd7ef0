-- Comparisons and chains of them.
use Rattle.std.proofs.Common.{◌≡◌, ◌≢◌, ℕ, ◌-◌, ◌≤◌, ◌<◌, max, Bool, true, false, List, [], ◌∷◌, ◌++◌, Option, Some, inl, inr, refl, sym, ap, subst, arith}
use Rattle.pt_base.specs.declared.operators.CompareOp.{CompareOp}
use Rattle.pt_base.specs.declared.operators.CompareOp.TheVariants as relation
use Rattle.pt_wide.specs.Syntax.{Exp}
use Rattle.pt_wide.specs.Measure.{depth_exp, width_exp, depth_links, width_links}
use Rattle.pt_readers.specs.Reading.{next_of, Alike, Found, Refused}
use Rattle.pt_readers.proofs.Readers.{Binds, Shifts, Narrows, Just, just, left, bad_refused}
use Rattle.pt_readers.proofs.Loops.{Repeats, Out, at_end, at_step, Right, loop_shifts, loop_binds, loop_found, loop_over}
use Rattle.pt_grammar.specs.declared.sign.Sign.{Sign}
use Rattle.pt_grammar.specs.declared.sign.Sign.TheVariants.{Operator, Comparison, Mark as mark, Word as word, Layout as layout}
use Rattle.pt_grammar.specs.declared.sign.Layout.TheVariants.{End}
use Rattle.pt_grammar.specs.declared.sign.Word.TheVariants.{And, Or, Not, In, Is, If, Else, Lambda, For, Yield, From}
use Rattle.pt_grammar.specs.Lexemes.{Lexeme, sign, sign_at}
use Rattle.pt_grammar.specs.Signs.{rank_of_sign}
use Rattle.pt_grammar.specs.Grammar.{Comparisons, comparisons, Compared, compared_end, compared_more, Comparing, by_sign, is_in, is_not_in, is, is_not, Binary}
use Rattle.pt_grammar.specs.Nodes.{Link, links_of, compared}
use Rattle.pt_grammar.specs.Parts.{Fits, Stops, Apart, ends_in_text, ends_links, RightSide, right_side, a_binary, a_link, a_comparing, comparisons as a_chain}
use Rattle.pt_grammar.proofs.OperatorRanks.{rank_small, mark_rank}
use Rattle.pt_grammar.proofs.Ranks.{apart_of}
use Rattle.pt_grammar.proofs.Begins.{some_name, some_exp, fits_name, name_binary, binary_begins, not_no_factor}

abbrev pub link_of : CompareOp → Exp → Link
link_of o b = record { operator = o; right = b }

pub link_binds : (o : CompareOp) (d : ℕ) → Binds (a_binary 6 d) (λ b. Just (link_of o b)) (a_link o d)
link_binds o d = record {
  intro = λ ts y mid x rest k j. into k j;
  inv = λ ts x rest k s. out k s;
  down = λ y mid x rest j f. same j f;
  finish = λ y f. ([], link_of o y, f, λ z. just);
  extend = λ y. ([], link_of o y, λ z. just);
}
  where
    into : {ts mid rest : List Lexeme} {y : Exp} {x : Link} → Binary 6 ts y mid → Just (link_of o y) mid x rest → RightSide o ts x rest
    into k just = right_side k

    out : {ts rest : List Lexeme} {x : Link} → RightSide o ts x rest → Stops 7 x.right (next_of rest)
        → (y : Exp) × (mid : List Lexeme) × Binary 6 ts y mid × Stops 7 y (next_of mid) × Just (link_of o y) mid x rest
    out (right_side k) s = (_, _, k, s, just)

    same : {mid rest : List Lexeme} {y : Exp} {x : Link} → Just (link_of o y) mid x rest → Fits d x.right → Fits d y
    same just f = f

-- what follows each sign
pub in_narrows : (d : ℕ) (s : Sign) (ts : List Lexeme) → s ≡ word In → Narrows ts (a_link relation.In d) (a_comparing d s)
in_narrows d s ts h = record {
  into = λ more x rest k. subst (λ v. Comparing v more x rest) (sym h) (into k);
  out = λ more x rest a k n. (out (subst (λ v. Comparing v more x rest) h k), n);
  stop = λ x o n. n;
  up = λ x f. f;
  down = λ x f. f;
}
  where
    into : {more rest : List Lexeme} {x : Link} → RightSide relation.In more x rest → Comparing (word In) more x rest
    into (right_side k) = is_in k

    out : {more rest : List Lexeme} {x : Link} → Comparing (word In) more x rest → RightSide relation.In more x rest
    out (is_in k) = right_side k

pub sign_narrows : (d : ℕ) (s : Sign) (o : CompareOp) (ts : List Lexeme) → s ≡ Comparison o → Narrows ts (a_link o d) (a_comparing d s)
sign_narrows d s o ts h = record {
  into = λ more x rest k. subst (λ v. Comparing v more x rest) (sym h) (into k);
  out = λ more x rest a k n. (out (subst (λ v. Comparing v more x rest) h k), n);
  stop = λ x o n. n;
  up = λ x f. f;
  down = λ x f. f;
}
  where
    into : {more rest : List Lexeme} {x : Link} → RightSide o more x rest → Comparing (Comparison o) more x rest
    into (right_side k) = by_sign k

    out : {more rest : List Lexeme} {x : Link} → Comparing (Comparison o) more x rest → RightSide o more x rest
    out (by_sign k) = right_side k

pub not_in_shifts : (d : ℕ) (s : Sign) (l : ℕ) → s ≡ word Not → Shifts (sign l (word In)) (a_link relation.NotIn d) (a_comparing d s)
not_in_shifts d s l h = record {
  intro = λ more x rest k. subst (λ v. Comparing v (sign l (word In) ∷ more) x rest) (sym h) (into k);
  inv = λ more x rest k n. (out (subst (λ v. Comparing v (sign l (word In) ∷ more) x rest) h k), n);
  stop = λ x o n. n;
  up = λ x f. f;
  down = λ x f. f;
}
  where
    into : {more rest : List Lexeme} {x : Link} → RightSide relation.NotIn more x rest → Comparing (word Not) (sign l (word In) ∷ more) x rest
    into (right_side k) = is_not_in k

    out : {more rest : List Lexeme} {x : Link} → Comparing (word Not) (sign l (word In) ∷ more) x rest → RightSide relation.NotIn more x rest
    out (is_not_in k) = right_side k

pub not_bad : (d : ℕ) (s : Sign) (ts : List Lexeme) → 0 < d → s ≡ word Not → sign_at (next_of ts) ≢ Some (word In) → Refused (a_comparing d s) false ts ts
not_bad d s ts h e n = subst (λ v. Refused (a_comparing d v) false ts ts) (sym e)
    (bad_refused (a_comparing d (word Not)) ts (λ more a x' rest' k m. out a k) (sign 0 (word In) ∷ (some_name ∷ [])) (link_of relation.NotIn some_exp) (fits_name d h) (λ z. is_not_in (name_binary 6)))
  where
    out : {more rest : List Lexeme} {x : Link} → Alike more ts → Comparing (word Not) more x rest → ⊥
    out (inl e) (is_not_in k) = n (sym (ap sign_at e))
    out (inr e) (is_not_in k) = cc

pub is_not_shifts : (d : ℕ) (s : Sign) (l : ℕ) → s ≡ word Is → Shifts (sign l (word Not)) (a_link relation.IsNot d) (a_comparing d s)
is_not_shifts d s l h = record {
  intro = λ more x rest k. subst (λ v. Comparing v (sign l (word Not) ∷ more) x rest) (sym h) (into k);
  inv = λ more x rest k n. (out (subst (λ v. Comparing v (sign l (word Not) ∷ more) x rest) h k), n);
  stop = λ x o n. n;
  up = λ x f. f;
  down = λ x f. f;
}
  where
    into : {more rest : List Lexeme} {x : Link} → RightSide relation.IsNot more x rest → Comparing (word Is) (sign l (word Not) ∷ more) x rest
    into (right_side k) = is_not k

    out : {more rest : List Lexeme} {x : Link} → Comparing (word Is) (sign l (word Not) ∷ more) x rest → RightSide relation.IsNot more x rest
    out (is_not k) = right_side k
    out (is k) = absurd (not_no_factor l (binary_begins k))

pub is_narrows : (d : ℕ) (s : Sign) (ts : List Lexeme) → s ≡ word Is → sign_at (next_of ts) ≢ Some (word Not) → Narrows ts (a_link relation.Is d) (a_comparing d s)
is_narrows d s ts h n = record {
  into = λ more x rest k. subst (λ v. Comparing v more x rest) (sym h) (into k);
  out = λ more x rest a k m. (out a (subst (λ v. Comparing v more x rest) h k), m);
  stop = λ x o m. m;
  up = λ x f. f;
  down = λ x f. f;
}
  where
    into : {more rest : List Lexeme} {x : Link} → RightSide relation.Is more x rest → Comparing (word Is) more x rest
    into (right_side k) = is k

    out : {more rest : List Lexeme} {x : Link} → Alike more ts → Comparing (word Is) more x rest → RightSide relation.Is more x rest
    out a (is k) = right_side k
    out (inl e) (is_not k) = absurd (n (sym (ap sign_at e)))
    out (inr e) (is_not k) = cc

-- chains
pub data Compares : Lexeme → Type 0 where
  compares : {l : ℕ} {s : Sign} → rank_of_sign s ≡ 8 → Compares (sign l s)

abbrev pub sign_in : Lexeme → Sign
sign_in (sign l s) = s
sign_in _ = layout End

abbrev pub one_link_more : List Link → Lexeme → Link → List Link
one_link_more cs t c = cs ++ (c ∷ [])

depth_more : (cs : List Link) (c : Link) → depth_links (links_of (cs ++ (c ∷ []))) ≡ max (depth_links (links_of cs)) (depth_exp c.right)
depth_more [] c = omega arith
depth_more (b ∷ cs) c = omega (arith, depth_more cs c)

width_more : (cs : List Link) (c : Link) → width_links (links_of (cs ++ (c ∷ []))) ≡ max (width_links (links_of cs)) (width_exp c.right)
width_more [] c = omega arith
width_more (b ∷ cs) c = omega (arith, width_more cs c)

ends_more : (before : Bool) (cs : List Link) (c : Link) → ends_links before (links_of (cs ++ (c ∷ []))) ≡ ends_in_text c.right
ends_more before [] c = refl
ends_more before (b ∷ cs) c = ends_more (ends_in_text b.right) cs c

pub ends_compared : (a : Exp) (cs : List Link) (c : Link) → ends_in_text (compared a (cs ++ (c ∷ []))) ≡ ends_in_text c.right
ends_compared a [] c = refl
ends_compared a (b ∷ cs) c = ends_more (ends_in_text b.right) cs c

pub compared_grows : (d : ℕ) (a : Exp) (cs : List Link) (c : Link) → depth_exp a < d → Fits d (compared a cs) → Fits (d - 1) c.right → Fits d (compared a (cs ++ (c ∷ [])))
compared_grows d a [] c h f g = (omega (arith, g.0), omega (arith, f.1, g.1))
compared_grows d a (b ∷ cs) c h f g = (omega (arith, f.0, g.0, depth_more cs c), omega (arith, f.1, g.1, width_more cs c))

compared_shrinks : (d : ℕ) (a : Exp) (cs : List Link) (c : Link) → Fits d (compared a (cs ++ (c ∷ []))) → Fits d (compared a cs)
compared_shrinks d a [] c f = (omega (arith, f.0), omega (arith, f.1))
compared_shrinks d a (b ∷ cs) c f = (omega (arith, f.0, depth_more cs c), omega (arith, f.1, width_more cs c))

compared_part : (d : ℕ) (a : Exp) (cs : List Link) (c : Link) → Fits d (compared a (cs ++ (c ∷ []))) → Fits (d - 1) c.right
compared_part d a [] c f = (omega (arith, f.0), omega (arith, f.1))
compared_part d a (b ∷ cs) c f = (omega (arith, f.0, depth_more cs c), omega (arith, f.1, width_more cs c))

compared_deep : (d : ℕ) (a : Exp) (cs : List Link) (c : Link) → d ≤ depth_exp a → Fits d (compared a (cs ++ (c ∷ []))) → ⊥
compared_deep d a [] c h f = omega (arith, f.0)
compared_deep d a (b ∷ cs) c h f = omega (arith, f.0)

pub compared_stops : (a : Exp) (cs : List Link) (c : Link) (o : Option Lexeme) → Stops 7 c.right o → Stops 7 (compared a (cs ++ (c ∷ []))) o
compared_stops a cs c o s = (s.0, subst (λ v. Apart v o) (sym (ends_compared a cs c)) s.1)

far_comparing : (s : Sign) → rank_of_sign s ≡ 8 → (w : List Lexeme) × (c : Link) × ((z : List Lexeme) → Comparing s (w ++ z) c z)
far_comparing (Comparison o) h = (some_name ∷ [], link_of o some_exp, λ z. by_sign (name_binary 6))
far_comparing (word In) h = (some_name ∷ [], link_of relation.In some_exp, λ z. is_in (name_binary 6))
far_comparing (word Is) h = (some_name ∷ [], link_of relation.Is some_exp, λ z. is (name_binary 6))
far_comparing (word Not) h = (sign 0 (word In) ∷ (some_name ∷ []), link_of relation.NotIn some_exp, λ z. is_not_in (name_binary 6))
far_comparing (word And) h = absurd (omega arith)
far_comparing (word Or) h = absurd (omega arith)
far_comparing (word If) h = absurd (omega arith)
far_comparing (word Else) h = absurd (omega arith)
far_comparing (word Lambda) h = absurd (omega arith)
far_comparing (word For) h = absurd (omega arith)
far_comparing (word Yield) h = absurd (omega arith)
far_comparing (word From) h = absurd (omega arith)
far_comparing (Operator o) h = absurd (omega (arith, rank_small o))
far_comparing (mark m) h = absurd (omega (arith, mark_rank m))
far_comparing _ h = absurd (omega arith)

pub comparing_rank : {s : Sign} {ts rest : List Lexeme} {c : Link} → Comparing s ts c rest → rank_of_sign s ≡ 8
comparing_rank (by_sign k) = refl
comparing_rank (is_in k) = refl
comparing_rank (is_not_in k) = refl
comparing_rank (is k) = refl
comparing_rank (is_not k) = refl

module _ (d : ℕ) (a : Exp) where
  chain_shrinks : (cs : List Link) {x : Exp} {ts rest : List Lexeme} → Compared a cs ts x rest → Fits d x → Fits d (compared a cs)
  chain_shrinks cs compared_end f = f
  chain_shrinks cs (compared_more {c = c} q k) f = compared_shrinks d a cs c (chain_shrinks (cs ++ (c ∷ [])) k f)

  pub chained : Repeats (a_chain d) (Compared a) Compares (λ t. a_comparing (d - 1) (sign_in t)) one_link_more (compared a)
  chained = record {
    done = λ s ts. compared_end;
    step = λ s t ts mid rest b x j q k. step j q k;
    out = λ s ts x rest k. out k;
    ends = λ x t s j. ends x j s;
    stays = λ s t b o g. (omega (arith, g.0), subst (λ v. Apart v o) (ends_compared a s b) g.1);
    goes = λ t b u j. goes b j;
    shrinks = λ s ts x rest k f. chain_shrinks s k f;
    part = λ s t b f. compared_part d a s b f;
    far = λ t j. far j;
  }
    where
      step : {s : List Link} {b : Link} {x : Exp} {t : Lexeme} {ts mid rest : List Lexeme} → Compares t → Comparing (sign_in t) ts b mid → Compared a (s ++ (b ∷ [])) mid x rest → Compared a s (t ∷ ts) x rest
      step (compares e) q k = compared_more q k

      out : {s : List Link} {x : Exp} {ts rest : List Lexeme} → Compared a s ts x rest
          → Out (a_chain d) (Compared a) Compares (λ t. a_comparing (d - 1) (sign_in t)) one_link_more (compared a) s ts x rest
      out compared_end = at_end
      out (compared_more q k) = at_step (compares (comparing_rank q)) q k

      ends : (x : Exp) {t : Lexeme} → Compares t → Stops 8 x (Some t) → ⊥
      ends x (compares e) s = omega (arith, s.0)

      goes : (b : Link) {u : Lexeme} → Compares u → Stops 7 b.right (Some u)
      goes b (compares {l = l} {s = s} e) = (omega arith, apart_of (ends_in_text b.right) l s (omega arith))

      far : {t : Lexeme} → Compares t → (w : List Lexeme) × (b : Link) × ((z : List Lexeme) → Comparing (sign_in t) (w ++ z) b z)
      far (compares {s = s} e) = far_comparing s e

  pub next_shifts : (cs : List Link) (l : ℕ) (s : Sign) → rank_of_sign s ≡ 8
      → Shifts (sign l s) (left (a_chain d) (Right (a_chain d) (Compared a) Compares (λ t. a_comparing (d - 1) (sign_in t)) one_link_more (compared a) cs (sign l s))) (left (a_chain d) (Compared a cs))
  next_shifts cs l s e = loop_shifts (a_chain d) (Compared a) Compares (λ t. a_comparing (d - 1) (sign_in t)) one_link_more (compared a) chained cs (sign l s) (compares e)

  pub next_binds : (cs : List Link) (l : ℕ) (s : Sign) → depth_exp a < d → Fits d (compared a cs)
      → Binds (a_comparing (d - 1) s) (λ c. Compared a (cs ++ (c ∷ []))) (left (a_chain d) (Right (a_chain d) (Compared a) Compares (λ t. a_comparing (d - 1) (sign_in t)) one_link_more (compared a) cs (sign l s)))
  next_binds cs l s h f = loop_binds (a_chain d) (Compared a) Compares (λ t. a_comparing (d - 1) (sign_in t)) one_link_more (compared a) chained cs (sign l s) (λ c g. compared_grows d a cs c h f g)

  pub chain_found : (cs : List Link) (ts : List Lexeme) → ((s : Sign) → sign_at (next_of ts) ≡ Some s → rank_of_sign s ≢ 8) → Stops 8 (compared a cs) (next_of ts) → Fits d (compared a cs)
      → Found (left (a_chain d) (Compared a cs)) ts (compared a cs) ts
  chain_found cs ts n s f = loop_found (a_chain d) (Compared a) Compares (λ t. a_comparing (d - 1) (sign_in t)) one_link_more (compared a) chained cs ts (λ t e j. other j e) s f
    where
      other : {t : Lexeme} → Compares t → next_of ts ≡ Some t → ⊥
      other (compares {s = s} e) k = n s (ap sign_at k) e

  pub chain_over : (cs : List Link) (ts : List Lexeme) (l : ℕ) (s : Sign) → next_of ts ≡ Some (sign l s) → rank_of_sign s ≡ 8 → Fits d (compared a cs) → d ≤ depth_exp a
      → Refused (left (a_chain d) (Compared a cs)) true ts ts
  chain_over cs ts l s e j f g = loop_over (a_chain d) (Compared a) Compares (λ t. a_comparing (d - 1) (sign_in t)) one_link_more (compared a) chained cs (sign l s) ts e (compares j) f (λ c k. compared_deep d a cs c g k)

pub chain_binds : (d : ℕ) → Binds (a_binary 6 d) (λ a. Compared a []) (a_chain d)
chain_binds d = record {
  intro = λ ts y mid x rest q k. comparisons q k;
  inv = λ ts x rest k s. out k s;
  down = λ y mid x rest k f. chain_shrinks d y [] k f;
  finish = λ y f. ([], y, f, λ z. compared_end);
  extend = λ y. ([], y, λ z. compared_end);
}
  where
    first_stops : {a x : Exp} {ts rest : List Lexeme} → Compared a [] ts x rest → Stops 8 x (next_of rest) → Stops 7 a (next_of ts)
    first_stops compared_end s = (omega (arith, s.0), s.1)
    first_stops {a} (compared_more {l = l} {s = t} q k) s = (omega (arith, comparing_rank q), apart_of (ends_in_text a) l t (omega (arith, comparing_rank q)))

    out : {ts rest : List Lexeme} {x : Exp} → Comparisons ts x rest → Stops 8 x (next_of rest)
        → (y : Exp) × (mid : List Lexeme) × Binary 6 ts y mid × Stops 7 y (next_of mid) × Compared y [] mid x rest
    out (comparisons q k) s = (_, _, q, first_stops k s, k)
