-- Items with a sign between them, which may stand behind the last one too, up to a sign that closes them.
use Rattle.std.proofs.Common.{◌≡◌, ◌≢◌, ℕ, List, [], ◌∷◌, ◌++◌, Option, Some, None, Bool, true, false, inl, inr, refl, sym, ◌∙◌, ap, subst}
use Rattle.pt_readers.specs.Reading.{next_of, behind, Part, Alike, Found, Refused, Carries, Within}
use Rattle.pt_readers.proofs.Readers.{Binds, Shifts, Narrows, left, bad_refused, narrow_carries, then_on}
use Rattle.pt_readers.proofs.Exits.{shift_on}
use Rattle.pt_grammar.specs.declared.sign.Sign.{Sign}
use Rattle.pt_grammar.specs.Lexemes.{Lexeme, sign, sign_at}
use Rattle.pt_parser.specs.Forms.{Reads, Is, is, Then, UpTo, closed, separated, Onward, closed_behind, item}
use Rattle.pt_parser.specs.Parts.{Each, closing}
use Rattle.pt_parser.proofs.Tokens.{sign_next, not_sign}
use Rattle.pt_parser.proofs.Chains.{Ready, ready_then, within_two, Follows, chain, is_found}

pub each_snoc : {A : Type 0} (F : A → Type 0) (xs : List A) (x : A) → Each F xs → F x → Each F (xs ++ (x ∷ []))
each_snoc F [] x f g = (g, tt)
each_snoc F (y ∷ ys) x f g = (f.0, each_snoc F ys x f.1 g)

pub each_before : {A : Type 0} (F : A → Type 0) (xs ys : List A) → Each F (xs ++ ys) → Each F xs
each_before F [] ys f = tt
each_before F (x ∷ xs) ys f = (f.0, each_before F xs ys f.1)

pub each_behind : {A : Type 0} (F : A → Type 0) (xs ys : List A) → Each F (xs ++ ys) → Each F ys
each_behind F [] ys f = f
each_behind F (x ∷ xs) ys f = each_behind F xs ys f.1

pub each_both : {A : Type 0} (F : A → Type 0) (xs ys : List A) → Each F xs → Each F ys → Each F (xs ++ ys)
each_both F [] ys f g = g
each_both F (x ∷ xs) ys f g = (f.0, each_both F xs ys f.1 g)

-- The signs s and close differ and end a Q, which doesn't begin with the latter.
pub record Closable {A : Type 0} (s close : Sign) (Q : Part Lexeme A) : Type 0 where
  pub differ : s ≢ close
  pub at_sign : (x : A) (l : ℕ) → Q.stops x (Some (sign l s))
  pub at_close : (x : A) (l : ℕ) → Q.stops x (Some (sign l close))
  pub begins : (ts : List Lexeme) (x : A) (rest : List Lexeme) → Q.reads ts x rest → sign_at (next_of ts) ≢ Some close
  pub ready : (over : Bool) → Ready Q.fits over Q.reads

module _ {A : Type 0} (s close : Sign) (Q : Part Lexeme A) (able : Closable s close Q) where
  -- an item, and what is left behind it
  abbrev pub Item : List A → Reads (List A)
  Item xs = Then Q.reads (λ x. UpTo s close Q.reads (xs ++ (x ∷ [])))

  item_ends : {x : A} {xs ys : List A} {mid rest : List Lexeme} → UpTo s close Q.reads xs mid ys rest → Q.stops x (next_of mid)
  item_ends {x} (closed {l = l} e) = subst (λ u. Q.stops x (Some (sign l u))) (sym e) (able.at_close x l)
  item_ends {x} (separated {l = l} e o) = subst (λ u. Q.stops x (Some (sign l u))) (sym e) (able.at_sign x l)

  mutual
    pub upto_keeps : (xs : List A) {ys : List A} {mid rest : List Lexeme} → UpTo s close Q.reads xs mid ys rest → Each Q.fits ys → Each Q.fits xs
    upto_keeps xs (closed e) f = f
    upto_keeps xs (separated e o) f = onward_keeps xs o f

    onward_keeps : (xs : List A) {ys : List A} {mid rest : List Lexeme} → Onward s close Q.reads xs mid ys rest → Each Q.fits ys → Each Q.fits xs
    onward_keeps xs (closed_behind e) f = f
    onward_keeps xs (item {x = x} q u) f = each_before Q.fits xs (x ∷ []) (upto_keeps (xs ++ (x ∷ [])) u f)

  close_ready : (over : Bool) (xs : List A) → Within (Each Q.fits) over xs → Ready (Each Q.fits) over (UpTo s close Q.reads xs)
  close_ready over xs f = record { word = sign 0 close ∷ []; done = xs; fits = f; reads = λ z. closed refl }

  fits_snoc : (over : Bool) (xs : List A) (x : A) → Each Q.fits xs → Within Q.fits over x → Within (Each Q.fits) over (xs ++ (x ∷ []))
  fits_snoc true xs x f g = each_snoc Q.fits xs x f g
  fits_snoc false xs x f g = tt

  -- an item
  pub item_binds : (xs : List A) → Each Q.fits xs → Binds Q (λ x. UpTo s close Q.reads (xs ++ (x ∷ []))) (left (closing Q (Item [])) (Item xs))
  item_binds xs f = chain (closing Q (Item [])) Q (λ x. UpTo s close Q.reads (xs ++ (x ∷ []))) record {
    apart = λ x mid ys rest u n. item_ends u;
    down = λ x mid ys rest u g. (each_behind Q.fits xs (x ∷ []) (upto_keeps (xs ++ (x ∷ [])) u g)).0;
    ready = λ over x g. close_ready over (xs ++ (x ∷ [])) (fits_snoc over xs x f g);
  }

  pub close_shifts : (xs : List A) (l : ℕ) → Shifts (sign l close) (closing Q (Is xs)) (closing Q (UpTo s close Q.reads xs))
  close_shifts xs l = record { intro = λ ts ys rest i. into i; inv = λ ts ys rest u n. (out refl u, tt); stop = λ ys o n. tt; up = λ ys f. f; down = λ ys f. f }
    where
      into : {ts rest : List Lexeme} {ys : List A} → Is xs ts ys rest → UpTo s close Q.reads xs (sign l close ∷ ts) ys rest
      into is = closed refl

      out : {t : Sign} {ts rest : List Lexeme} {ys : List A} → t ≡ close → UpTo s close Q.reads xs (sign l t ∷ ts) ys rest → Is xs ts ys rest
      out h (closed e) = is
      out h (separated e o) = absurd (able.differ (sym e ∙ h))

  pub sign_shifts : (xs : List A) (l : ℕ) → Shifts (sign l s) (closing Q (Onward s close Q.reads xs)) (closing Q (UpTo s close Q.reads xs))
  sign_shifts xs l = record { intro = λ ts ys rest o. separated refl o; inv = λ ts ys rest u n. (out refl u, tt); stop = λ ys o n. tt; up = λ ys f. f; down = λ ys f. f }
    where
      out : {t : Sign} {ts rest : List Lexeme} {ys : List A} → t ≡ s → UpTo s close Q.reads xs (sign l t ∷ ts) ys rest → Onward s close Q.reads xs ts ys rest
      out h (closed e) = absurd (able.differ (sym h ∙ e))
      out h (separated e o) = o

  pub upto_bad : (xs : List A) (ts : List Lexeme) → Each Q.fits xs → sign_at (next_of ts) ≢ Some close → sign_at (next_of ts) ≢ Some s
      → Refused (closing Q (UpTo s close Q.reads xs)) false ts ts
  upto_bad xs ts f m n = bad_refused (closing Q (UpTo s close Q.reads xs)) ts (λ more a ys rest u k. out (not_sign ts a m) (not_sign ts a n) u) (sign 0 close ∷ []) xs f (λ z. closed refl)
    where
      out : {more rest : List Lexeme} {ys : List A} → sign_at (next_of more) ≢ Some close → sign_at (next_of more) ≢ Some s → UpTo s close Q.reads xs more ys rest → ⊥
      out a b (closed e) = a (ap (λ u. Some u) e)
      out a b (separated e o) = b (ap (λ u. Some u) e)

  pub behind_shifts : (xs : List A) (l : ℕ) → Shifts (sign l close) (closing Q (Is xs)) (closing Q (Onward s close Q.reads xs))
  behind_shifts xs l = record { intro = λ ts ys rest i. into i; inv = λ ts ys rest u n. (out u, tt); stop = λ ys o n. tt; up = λ ys f. f; down = λ ys f. f }
    where
      into : {ts rest : List Lexeme} {ys : List A} → Is xs ts ys rest → Onward s close Q.reads xs (sign l close ∷ ts) ys rest
      into is = closed_behind refl

      out : {ts rest : List Lexeme} {ys : List A} → Onward s close Q.reads xs (sign l close ∷ ts) ys rest → Is xs ts ys rest
      out (closed_behind e) = is
      out (item q u) = absurd (able.begins _ _ _ q refl)

  pub item_narrows : (xs : List A) (ts : List Lexeme) → sign_at (next_of ts) ≢ Some close → Narrows ts (closing Q (Item xs)) (closing Q (Onward s close Q.reads xs))
  item_narrows xs ts n = record {
    into = λ more ys rest k. item k.2 k.3;
    out = λ more ys rest a o m. (out (not_sign ts a n) o, tt);
    stop = λ ys o k. tt;
    up = λ ys f. f;
    down = λ ys f. f;
  }
    where
      out : {more rest : List Lexeme} {ys : List A} → sign_at (next_of more) ≢ Some close → Onward s close Q.reads xs more ys rest → Item xs more ys rest
      out m (closed_behind e) = absurd (m (ap (λ u. Some u) e))
      out m (item q u) = (_, _, q, u)

  -- the same of what was read before
  module _ {P : Part Lexeme (List A)} {ts mid rest : List Lexeme} (xs : List A) where
    pub closed_found : Carries P ts (closing Q (UpTo s close Q.reads xs)) mid → Each Q.fits xs → (sign_at (next_of mid) ≡ Some close) × (rest ≡ behind mid) → Found P ts xs rest
    closed_found c f n = (shift_on c (close_shifts xs _) (sign_next mid n.0) n.1).found _ _ (is_found (closing Q (Is xs)) xs rest tt f)

    pub sign_carries : Carries P ts (closing Q (UpTo s close Q.reads xs)) mid → (sign_at (next_of mid) ≡ Some s) × (rest ≡ behind mid)
        → Carries P ts (closing Q (Onward s close Q.reads xs)) rest
    sign_carries c n = shift_on c (sign_shifts xs _) (sign_next mid n.0) n.1

    pub behind_found : Carries P ts (closing Q (Onward s close Q.reads xs)) mid → Each Q.fits xs → (sign_at (next_of mid) ≡ Some close) × (rest ≡ behind mid) → Found P ts xs rest
    behind_found c f n = (shift_on c (behind_shifts xs _) (sign_next mid n.0) n.1).found _ _ (is_found (closing Q (Is xs)) xs rest tt f)

    pub item_carries : Carries P ts (closing Q (Onward s close Q.reads xs)) mid → (sign_at (next_of mid) ≢ Some close) × (rest ≡ mid) → Carries P ts (closing Q (Item xs)) rest
    item_carries c n = subst (λ u. Carries P ts (closing Q (Item xs)) u) (sym n.1) (then_on c (narrow_carries (item_narrows xs mid n.0)))
