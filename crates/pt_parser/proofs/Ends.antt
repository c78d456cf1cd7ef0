-- The ends of simple statements, and lists up to them.
use Rattle.std.proofs.Common.{◌≡◌, ◌≢◌, ℕ, List, [], ◌∷◌, ◌++◌, Option, Some, None, Bool, true, false, inl, inr, refl, sym, ◌∙◌, ap, subst}
use Rattle.pt_wide.specs.Syntax.{Exp, Opt, absent, given}
use Rattle.pt_readers.specs.Reading.{next_of, behind, Part, Alike, Found, Refused, Carries, Within}
use Rattle.pt_readers.proofs.Readers.{Binds, Shifts, Narrows, left, nothing_found, bad_refused, carries_all, narrow_carries, then_on}
use Rattle.pt_readers.proofs.Loops.{Repeats, Out, at_end, at_step, loop_shifts, loop_binds, loop_found, Right}
use Rattle.pt_grammar.specs.declared.sign.Sign.{Sign}
use Rattle.pt_grammar.specs.declared.sign.Sign.TheVariants.{Mark as mark, Layout as layout}
use Rattle.pt_grammar.specs.declared.sign.Mark.TheVariants.{Semicolon}
use Rattle.pt_grammar.specs.declared.sign.Layout.TheVariants.{Newline}
use Rattle.pt_grammar.specs.Lexemes.{Lexeme, sign, sign_of, sign_at, line_at}
use Rattle.pt_parser.specs.Forms.{Reads, Is, is, Then, More, no_more, one_more, an_identifier, an_optional}
use Rattle.pt_parser.specs.Simple.{comma, an_expression}
use Rattle.pt_parser.specs.Parts.{IsEnd, an_end, a_list}
use Rattle.pt_parser.proofs.Chains.{Ready, Follows, chain, is_found, identifier_ready}
use Rattle.pt_grammar.specs.declared.part.Part.{Part as WhichPart}
use Rattle.pt_grammar.specs.Signs.{ends_items}
use Rattle.pt_parser.proofs.Follow.{Follow, follow_at, items_at, expr_follow}

pub end_follow : (o : Option Lexeme) → IsEnd o → Follow o
end_follow o (inl h) = follow_at o h tt
end_follow o (inr h) = follow_at o h tt

pub end_items : (p : WhichPart) (o : Option Lexeme) → IsEnd o → ends_items p o ≡ true
end_items p o (inl h) = items_at p o h refl
end_items p o (inr h) = items_at p o h refl

-- another sign is no end
pub end_not : {s : Sign} (o : Option Lexeme) → IsEnd o → s ≢ mark Semicolon → s ≢ layout Newline → sign_at o ≢ Some s
end_not o (inl h) m n k = m cc
end_not o (inr h) m n k = n cc

pub no_end : IsEnd None → ⊥
no_end (inl h) = cc
no_end (inr h) = cc

pub not_end : {more : List Lexeme} (ts : List Lexeme) → Alike more ts → (IsEnd (next_of ts) → ⊥) → IsEnd (next_of more) → ⊥
not_end ts (inl e) n h = n (subst IsEnd e h)
not_end ts (inr e) n h = no_end (subst (λ u. IsEnd (next_of u)) e h)

-- nothing, before a token of which S holds
abbrev pub nothing : (Option Lexeme → Type 0) → Part Lexeme (Unit {0})
nothing S = record { reads = Is tt; stops = λ u next. S next; fits = λ u. Unit {0} }

-- what is left before such a token
abbrev pub before : {A : Type 0} → (Option Lexeme → Type 0) → (A → Type 0) → Reads A → Part Lexeme A
before S F K = record { reads = K; stops = λ x next. S next; fits = F }

pub nothing_bad : (S : Option Lexeme → Type 0) (ts : List Lexeme) → (S None → ⊥) → (S (next_of ts) → ⊥) → Refused (nothing S) false ts ts
nothing_bad S ts e n = bad_refused (nothing S) ts (λ more a x' rest' i s. out a i s) [] tt tt (λ z. is)
  where
    out : {x' : Unit {0}} {more rest' : List Lexeme} → Alike more ts → Is tt more x' rest' → S (next_of rest') → ⊥
    out (inl a) is s = n (subst S a s)
    out (inr a) is s = e (subst (λ u. S (next_of u)) a s)

pub nothing_found_at : (S : Option Lexeme → Type 0) (ts : List Lexeme) → S (next_of ts) → Found (nothing S) ts tt ts
nothing_found_at S ts h = nothing_found (nothing S) ts tt (λ more. is) h tt (λ more a x' rest' i s. out i)
  where
    out : {x' : Unit {0}} {more rest' : List Lexeme} → Is tt more x' rest' → (x' ≡ tt) × (rest' ≡ more)
    out is = (refl, refl)

pub before_binds : {A : Type 0} (S : Option Lexeme → Type 0) (F : A → Type 0) (x : A) → F x → Binds (nothing S) (λ u. Is x) (before S F (Is x))
before_binds {A} S F x fits = record {
  intro = λ ts y mid z rest i k. into i k;
  inv = λ ts z rest k n. (tt, ts, is, inv_stops k n, k);
  down = λ y mid z rest k f. tt;
  finish = λ y f. ([], x, fits, λ z. is);
  extend = λ y. ([], x, λ z. is);
}
  where
    into : {ts mid rest : List Lexeme} {y : Unit {0}} {z : A} → Is tt ts y mid → Is x mid z rest → Is x ts z rest
    into is k = k

    inv_stops : {ts rest : List Lexeme} {z : A} → Is x ts z rest → S (next_of rest) → S (next_of ts)
    inv_stops is n = n

-- behind nothing
pub before_is : {A : Type 0} {P : Part Lexeme A} (S : Option Lexeme → Type 0) (F : A → Type 0) {x : A} {u : Unit {0}} {ts mid rest : List Lexeme}
    → Carries P ts (before S F (Is x)) mid → F x → Found (nothing S) mid u rest → Found P ts x rest
before_is {P = P} S F {x} {ts = ts} {mid = mid} {rest = rest} c fits f =
    subst (λ u. Found P ts x u) (sym (same f)) (c.found _ _ (is_found (before S F (Is x)) x mid (subst (λ u. S (next_of u)) (same f) f.stops) fits))
  where
    out : {us vs : List Lexeme} {u : Unit {0}} → Is tt us u vs → us ≡ vs
    out is = refl

    same : {u : Unit {0}} → Found (nothing S) mid u rest → rest ≡ mid
    same g = sym (g.whole ∙ out (g.reads rest))

-- what is left before the end of a simple statement
abbrev pub ending : {A : Type 0} → (A → Type 0) → Reads A → Part Lexeme A
ending F K = before IsEnd F K

pub end_bad : (ts : List Lexeme) → (IsEnd (next_of ts) → ⊥) → Refused an_end false ts ts
end_bad ts n = nothing_bad IsEnd ts no_end n

pub end_found : (ts : List Lexeme) → IsEnd (next_of ts) → Found an_end ts tt ts
end_found ts h = nothing_found_at IsEnd ts h

pub end_binds : {A : Type 0} (F : A → Type 0) (x : A) → F x → Binds an_end (λ u. Is x) (ending F (Is x))
end_binds F x fits = before_binds IsEnd F x fits

pub end_is : {A : Type 0} {P : Part Lexeme A} (F : A → Type 0) {x : A} {u : Unit {0}} {ts mid rest : List Lexeme} → Carries P ts (ending F (Is x)) mid → F x → Found an_end mid u rest → Found P ts x rest
end_is F c fits f = before_is IsEnd F c fits f

-- What may stand in a list with commas: the end and a comma end it, and it has no limits.
pub record Listable {A : Type 0} (Q : Part Lexeme A) : Type 0 where
  pub ends : (x : A) (o : Option Lexeme) → IsEnd o → Q.stops x o
  pub goes : (x : A) (l : ℕ) → Q.stops x (Some (sign l comma))
  pub fits : (x : A) → Q.fits x
  pub ready : Ready Q.fits false Q.reads

-- a list of Q with commas, up to the end
module _ {A : Type 0} (Q : Part Lexeme A) (listable : Listable Q) where
  abbrev pub IsComma : Lexeme → Type 0
  IsComma t = sign_of t ≡ Some comma

  abbrev pub ListRepeats : Type 0
  ListRepeats = Repeats (a_list Q) (More comma Q.reads) IsComma (λ t. Q) (λ xs t x. xs ++ (x ∷ [])) (λ xs. xs)

  out_list : {xs ys : List A} {ts rest : List Lexeme} → More comma Q.reads xs ts ys rest
      → Out (a_list Q) (More comma Q.reads) IsComma (λ t. Q) (λ xs t x. xs ++ (x ∷ [])) (λ xs. xs) xs ts ys rest
  out_list no_more = at_end
  out_list (one_more e q m) = at_step (ap (λ u. Some u) e) q m

  step_list : (xs : List A) (t : Lexeme) (ts mid rest : List Lexeme) (x : A) (ys : List A) → IsComma t → Q.reads ts x mid → More comma Q.reads (xs ++ (x ∷ [])) mid ys rest
      → More comma Q.reads xs (t ∷ ts) ys rest
  step_list xs (sign l u) ts mid rest x ys h q m = let e : u ≡ comma = cc in one_more e q m
  step_list xs _ ts mid rest x ys h q m = cc

  goes_list : (x : A) (u : Lexeme) → IsComma u → Q.stops x (Some u)
  goes_list x (sign l s) h = let e : s ≡ comma = cc in subst (λ v. Q.stops x (Some (sign l v))) (sym e) (listable.goes x l)
  goes_list x _ h = cc

  ends_list : (t : Lexeme) → IsEnd (Some t) → IsComma t → ⊥
  ends_list t e h = end_not {s = comma} (Some t) e (λ k. cc) (λ k. cc) h

  pub list_repeats : ListRepeats
  list_repeats = record {
    done = λ xs ts. no_more;
    step = λ xs t ts mid rest x ys j q m. step_list xs t ts mid rest x ys j q m;
    out = λ xs ts ys rest m. out_list m;
    ends = λ xs t e j. ends_list t e j;
    stays = λ xs t x o e. listable.ends x o e;
    goes = λ t x u j. goes_list x u j;
    shrinks = λ xs ts ys rest m f. tt;
    part = λ xs t x f. listable.fits x;
    far = λ t j. (listable.ready.word, listable.ready.done, listable.ready.reads);
  }

  -- before the first item
  pub list_first : Binds Q (λ x. More comma Q.reads (x ∷ [])) (a_list Q)
  list_first = chain (a_list Q) Q (λ x. More comma Q.reads (x ∷ [])) record {
    apart = λ x mid xs rest m n. apart_list m n;
    down = λ x mid xs rest m f. listable.fits x;
    ready = λ over x f. record { word = []; done = x ∷ []; fits = fit over x; reads = λ z. no_more };
  }
    where
      apart_list : {x : A} {mid rest : List Lexeme} {xs ys : List A} → More comma Q.reads xs mid ys rest → IsEnd (next_of rest) → Q.stops x (next_of mid)
      apart_list {x} no_more n = listable.ends x _ n
      apart_list {x} (one_more {l = l} e q m) n = subst (λ v. Q.stops x (Some (sign l v))) (sym e) (listable.goes x l)

      fit : (over : Bool) (x : A) → Within (a_list Q).fits over (x ∷ [])
      fit true x = tt
      fit false x = tt

  abbrev pub ListRight : List A → Lexeme → List Lexeme → List A → List Lexeme → Type 0
  ListRight xs t = Right (a_list Q) (More comma Q.reads) IsComma (λ t. Q) (λ xs t x. xs ++ (x ∷ [])) (λ xs. xs) xs t

  pub list_shifts : (xs : List A) (l : ℕ) → Shifts (sign l comma) (left (a_list Q) (ListRight xs (sign l comma))) (left (a_list Q) (More comma Q.reads xs))
  list_shifts xs l = loop_shifts _ _ _ _ _ _ list_repeats xs (sign l comma) refl

  pub list_binds : (xs : List A) (l : ℕ) → Binds Q (λ x. More comma Q.reads (xs ++ (x ∷ []))) (left (a_list Q) (ListRight xs (sign l comma)))
  list_binds xs l = loop_binds _ _ _ _ _ _ list_repeats xs (sign l comma) (λ x f. tt)

  -- no comma is next
  pub list_over : (xs : List A) (ts : List Lexeme) → sign_at (next_of ts) ≢ Some comma → Narrows ts (ending (λ xs. Unit {0}) (Is xs)) (left (a_list Q) (More comma Q.reads xs))
  list_over xs ts n = record {
    into = λ more ys rest i. into i;
    out = λ more ys rest a m k. (out a m, k);
    stop = λ ys o k. k;
    up = λ ys f. f;
    down = λ ys f. f;
  }
    where
      into : {more rest : List Lexeme} {ys : List A} → Is xs more ys rest → More comma Q.reads xs more ys rest
      into is = no_more

      out : {more rest : List Lexeme} {ys : List A} → Alike more ts → More comma Q.reads xs more ys rest → Is xs more ys rest
      out a no_more = is
      out (inl e) (one_more k q m) = absurd (n (sym (ap sign_at e) ∙ ap (λ u. Some u) k))
      out (inr e) (one_more k q m) = cc

  -- behind the last item
  pub list_done : {P : Part Lexeme (List A)} {ts mid rest : List Lexeme} (xs : List A) → Carries P ts (left (a_list Q) (More comma Q.reads xs)) mid
      → (sign_at (next_of mid) ≢ Some comma) × (rest ≡ mid) → Carries P ts (ending (λ xs. Unit {0}) (Is xs)) rest
  list_done {P} {ts} {mid} xs c n = subst (λ u. Carries P ts (ending (λ xs. Unit {0}) (Is xs)) u) (sym n.1) (then_on c (narrow_carries (list_over xs mid n.0)))

pub names_listable : Listable an_identifier
names_listable = record { ends = λ x o e. tt; goes = λ x l. tt; fits = λ x. tt; ready = identifier_ready false }
