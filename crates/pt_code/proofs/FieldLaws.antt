-- The fields of a code file that are no lists: each is read as it is spelled.
use Rattle.std.proofs.Common.{◌≡◌, ℕ, zero, suc, ℤ, Bool, true, false, List, [], ◌∷◌, ◌++◌, Ok, refl, sym, ap, subst, ◌∙◌, arith, FitsSigned}
use Rattle.std.specs.Int.{w128, from_le_bytes, to_le_bytes, cast_signed, cast_unsigned}
use Rattle.std.proofs.lemmas.Int.{to_z-of_z, of_z-to_z}
use Rattle.std.proofs.Math.Facts.{sfits_to_z, Fits-of_lt, Fits-of_z}
use Rattle.pt_ranges.specs.declared.lines.ActMark.{ActMark}
use Rattle.pt_ranges.specs.declared.handlers.Handler.{Handler}
use Rattle.pt_instr.specs.declared.TextNo.{TextNo}
use Rattle.pt_code.specs.declared.Const.{Const}
use Rattle.pt_code.specs.declared.Const.TheVariants as const
use Rattle.pt_code.specs.declared.BlockKind.{BlockKind}
use Rattle.pt_code.specs.declared.BlockKind.TheVariants as kind
use Rattle.pt_code.specs.declared.Rest.{Rest}
use Rattle.pt_code.specs.declared.Start.{Start}
use Rattle.pt_code.specs.File.{number, integer, one_if, constant, kind_byte, flags, named, mark, handler, start, IsNumber, IsBelow, NamesText, IsConstant, IsMark, IsHandler, IsStart}
use Rattle.pt_code.specs.Reading.{Read, both, number_at, below_at, flag_at, start_at, mark_at, handler_at, name_at, taken_at, integer_at, const_at, kind_at, rest_at}
use Rattle.pt_code.proofs.Codecs.{AreBytes, rest_are, Takes, bind_ok, ok_is, IsCodec, both_codec, made_codec, number_codec, below_codec, taken_codec}
use Rattle.pt_code.proofs.Integers.{le_bytes_16, from_le_bytes_small, from_le_bytes-to_le_bytes_16}

-- a number in front
pub number_then : {B : Type 0} (W : B → Type 0) (t : B → List ℕ) (q : List ℕ → Read B) → IsCodec W t q → IsCodec {A = ℕ × B} (λ p. IsNumber p.0 × W p.1) (λ p. number p.0 ++ t p.1) (both number_at λ _. q)
number_then W t q c = both_codec IsNumber (λ _. W) number t number_at (λ _. q) number_codec (λ _ _. c)

abbrev ok_pair : {A : Type 0} → A → List ℕ → Read A
ok_pair x rest = Ok (x, rest)

-- a byte that stands for a value
one_byte : {A : Type 0} (b : ℕ) (s : A → List ℕ) (found x : A) (bytes rest : List ℕ) → AreBytes (b ∷ bytes) → s found ≡ b ∷ [] → ok_pair found bytes ≡ ok_pair x rest → Takes (b ∷ bytes) (s x) rest × Unit {0}
one_byte {A} b s found x bytes rest fits spelled e =
    let front : Takes (b ∷ bytes) (s found) bytes = record { parts = ap (λ (l : List ℕ). l ++ bytes) (sym spelled); rest_fits = rest_are b bytes fits } in
    subst (λ (y : A × List ℕ). Takes (b ∷ bytes) (s y.0) y.1 × Unit {0}) (ok_is (found, bytes) (x, rest) e) (front, tt)

flag_takes : (bytes : List ℕ) (x : Bool) (rest : List ℕ) → AreBytes bytes → flag_at bytes ≡ Ok (x, rest) → Takes bytes (one_if x ∷ []) rest × Unit {0}
unfolding flag_at
flag_takes [] x rest fits e = absurd cc
flag_takes (zero ∷ bytes) x rest fits e = one_byte 0 (λ b. one_if b ∷ []) false x bytes rest fits refl e
flag_takes (suc zero ∷ bytes) x rest fits e = one_byte 1 (λ b. one_if b ∷ []) true x bytes rest fits refl e
flag_takes (suc (suc b) ∷ bytes) x rest fits e = absurd cc

flag_again : (x : Bool) (rest : List ℕ) → Unit {0} → flag_at ((one_if x ∷ []) ++ rest) ≡ Ok (x, rest)
unfolding flag_at
flag_again true rest w = refl
flag_again false rest w = refl

pub flag_codec : IsCodec (λ _. Unit {0}) (λ b. one_if b ∷ []) flag_at
flag_codec = record { takes = flag_takes; again = flag_again }

pub start_codec : IsCodec IsStart start start_at
unfolding start_at
start_codec =
    made_codec {A = ℕ × ℕ} {B = Start} (λ p. IsNumber p.0 × IsNumber p.1) (λ p. number p.0 ++ number p.1) (λ s. record { pc = record { 0 = s.0 }; line = record { 0 = s.1 } }) (λ s. (s.pc.0, s.line.0))
    (both number_at λ _. number_at) (λ s. refl) (λ p. refl) (number_then IsNumber number number_at number_codec)

pub mark_codec : IsCodec IsMark mark mark_at
unfolding mark_at
mark_codec =
    made_codec {A = ℕ × (ℕ × (ℕ × Bool))} {B = ActMark} (λ p. IsNumber p.0 × (IsNumber p.1.0 × (IsNumber p.1.1.0 × Unit {0}))) (λ p. number p.0 ++ (number p.1.0 ++ (number p.1.1.0 ++ one_if p.1.1.1 ∷ [])))
    (λ m. record { pc = record { 0 = m.0 }; act = record { 0 = m.1.0 }; line = record { 0 = m.1.1.0 }; again = m.1.1.1 }) (λ m. (m.pc.0, (m.act.0, (m.line.0, m.again))))
    (both number_at λ _. both number_at λ _. both number_at λ _. flag_at) (λ m. refl) (λ p. refl)
    (number_then (λ p. IsNumber p.0 × (IsNumber p.1.0 × Unit {0})) (λ p. number p.0 ++ (number p.1.0 ++ one_if p.1.1 ∷ [])) (both number_at λ _. both number_at λ _. flag_at)
    (number_then (λ p. IsNumber p.0 × Unit {0}) (λ p. number p.0 ++ one_if p.1 ∷ []) (both number_at λ _. flag_at)
    (number_then (λ _. Unit {0}) (λ b. one_if b ∷ []) flag_at flag_codec)))

pub handler_codec : IsCodec IsHandler handler handler_at
unfolding handler_at
handler_codec =
    made_codec {A = ℕ × (ℕ × (ℕ × (ℕ × Bool)))} {B = Handler} (λ p. IsNumber p.0 × (IsNumber p.1.0 × (IsNumber p.1.1.0 × (IsNumber p.1.1.1.0 × Unit {0})))) (λ p. number p.0 ++ (number p.1.0 ++ (number p.1.1.0 ++ (number p.1.1.1.0 ++ one_if p.1.1.1.1 ∷ []))))
    (λ h. record { from = record { 0 = h.0 }; to = record { 0 = h.1.0 }; target = record { 0 = h.1.1.0 }; depth = h.1.1.1.0; always = h.1.1.1.1 }) (λ h. (h.from.0, (h.to.0, (h.target.0, (h.depth, h.always)))))
    (both number_at λ _. both number_at λ _. both number_at λ _. both number_at λ _. flag_at) (λ h. refl) (λ p. refl)
    (number_then (λ p. IsNumber p.0 × (IsNumber p.1.0 × (IsNumber p.1.1.0 × Unit {0}))) (λ p. number p.0 ++ (number p.1.0 ++ (number p.1.1.0 ++ one_if p.1.1.1 ∷ []))) (both number_at λ _. both number_at λ _. both number_at λ _. flag_at)
    (number_then (λ p. IsNumber p.0 × (IsNumber p.1.0 × Unit {0})) (λ p. number p.0 ++ (number p.1.0 ++ one_if p.1.1 ∷ [])) (both number_at λ _. both number_at λ _. flag_at)
    (number_then (λ p. IsNumber p.0 × Unit {0}) (λ p. number p.0 ++ one_if p.1 ∷ []) (both number_at λ _. flag_at)
    (number_then (λ _. Unit {0}) (λ b. one_if b ∷ []) flag_at flag_codec))))

pub name_codec : (texts : ℕ) → IsCodec (NamesText texts) named (name_at texts)
unfolding name_at
name_codec texts = made_codec {A = ℕ} {B = TextNo} (IsBelow texts) number (λ n. record { 0 = n }) (λ t. t.0) (below_at texts) (λ t. refl) (λ n. refl) (below_codec texts)

front_are : (x rest : List ℕ) → AreBytes (x ++ rest) → AreBytes x
front_are [] rest are zero = omega arith
front_are [] rest are (suc i) = omega arith
front_are (a ∷ x) rest are zero = are zero
front_are (a ∷ x) rest are (suc i) = front_are x rest (λ k. are (suc k)) i

integer_takes : (bytes : List ℕ) (x : ℤ) (rest : List ℕ) → AreBytes bytes → integer_at bytes ≡ Ok (x, rest) → Takes bytes (integer x) rest × FitsSigned w128 x
unfolding integer_at integer
integer_takes bytes x rest fits e =
    let a = bind_ok (taken_at 16 bytes) (λ l. Ok (cast_signed w128 (from_le_bytes w128 l.0), l.1)) (x, rest) e in
    let one = (taken_codec 16).takes bytes a.0.0 a.0.1 fits a.1 in
    let front = front_are a.0.0 a.0.1 (subst AreBytes one.0.parts fits) in
    let small = from_le_bytes_small a.0.0 front in
    let back : to_le_bytes w128 (cast_unsigned w128 (cast_signed w128 (from_le_bytes w128 a.0.0))) ≡ a.0.0 = ap (to_le_bytes w128) (of_z-to_z w128 (from_le_bytes w128 a.0.0) small) ∙ le_bytes_16 a.0.0 one.1 front in
    let found : ℤ × List ℕ = (cast_signed w128 (from_le_bytes w128 a.0.0), a.0.1) in
    let whole : Takes bytes (to_le_bytes w128 (cast_unsigned w128 found.0)) a.0.1 = record { parts = one.0.parts ∙ ap (λ (l : List ℕ). l ++ a.0.1) (sym back); rest_fits = one.0.rest_fits } in
    subst (λ (y : ℤ × List ℕ). Takes bytes (to_le_bytes w128 (cast_unsigned w128 y.0)) y.1 × FitsSigned w128 y.0) (ok_is found (x, rest) a.2) (whole, sfits_to_z (Fits-of_lt small))

integer_again : (x : ℤ) (rest : List ℕ) → FitsSigned w128 x → integer_at (integer x ++ rest) ≡ Ok (x, rest)
unfolding integer_at integer
integer_again x rest fits =
    rw ((taken_codec 16).again (to_le_bytes w128 (cast_unsigned w128 x)) rest refl)
    (λ k. Ok ((ap (cast_signed w128) (from_le_bytes-to_le_bytes_16 (cast_unsigned w128 x) (Fits-of_z fits).fits) ∙ to_z-of_z w128 x fits) k, rest))

pub integer_codec : IsCodec (FitsSigned w128) integer integer_at
integer_codec = record { takes = integer_takes; again = integer_again }

-- what stands behind a tag
tagged : (texts tag : ℕ) (found : Const) (spelled : List ℕ) (x : Const) (bytes behind rest : List ℕ) → constant found ≡ tag ∷ spelled → Takes bytes spelled behind → IsConstant texts found → ok_pair found behind ≡ ok_pair x rest → Takes (tag ∷ bytes) (constant x) rest × IsConstant texts x
tagged texts tag found spelled x bytes behind rest is one good e =
    let front : Takes (tag ∷ bytes) (constant found) behind = record { parts = ap (λ (l : List ℕ). tag ∷ l) one.parts ∙ ap (λ (l : List ℕ). l ++ behind) (sym is); rest_fits = one.rest_fits } in
    subst (λ (y : Const × List ℕ). Takes (tag ∷ bytes) (constant y.0) y.1 × IsConstant texts y.0) (ok_is (found, behind) (x, rest) e) (front, good)

plain : (texts tag : ℕ) (found x : Const) (bytes rest : List ℕ) → AreBytes (tag ∷ bytes) → constant found ≡ tag ∷ [] → IsConstant texts found → ok_pair found bytes ≡ ok_pair x rest → Takes (tag ∷ bytes) (constant x) rest × IsConstant texts x
plain texts tag found x bytes rest fits is good e = tagged texts tag found [] x bytes bytes rest is (record { parts = refl; rest_fits = rest_are tag bytes fits }) good e

constant_takes : (texts : ℕ) (bytes : List ℕ) (x : Const) (rest : List ℕ) → AreBytes bytes → const_at texts bytes ≡ Ok (x, rest) → Takes bytes (constant x) rest × IsConstant texts x
unfolding const_at
constant_takes texts [] x rest fits e = absurd cc
constant_takes texts (zero ∷ bytes) x rest fits e = plain texts 0 const.None x bytes rest fits refl tt e
constant_takes texts (suc zero ∷ bytes) x rest fits e = plain texts 1 const.False x bytes rest fits refl tt e
constant_takes texts (suc (suc zero) ∷ bytes) x rest fits e = plain texts 2 const.True x bytes rest fits refl tt e
constant_takes texts (suc (suc (suc zero)) ∷ bytes) x rest fits e =
    let a = bind_ok (integer_at bytes) (λ n. Ok (const.Int n.0, n.1)) (x, rest) e in
    let one = integer_codec.takes bytes a.0.0 a.0.1 (rest_are 3 bytes fits) a.1 in
    tagged texts 3 (const.Int a.0.0) (integer a.0.0) x bytes a.0.1 rest refl one.0 one.1 a.2
constant_takes texts (suc (suc (suc (suc zero))) ∷ bytes) x rest fits e =
    let a = bind_ok (name_at texts bytes) (λ n. Ok (const.Text n.0, n.1)) (x, rest) e in
    let one = (name_codec texts).takes bytes a.0.0 a.0.1 (rest_are 4 bytes fits) a.1 in
    tagged texts 4 (const.Text a.0.0) (named a.0.0) x bytes a.0.1 rest refl one.0 one.1 a.2
constant_takes texts (suc (suc (suc (suc (suc zero)))) ∷ bytes) x rest fits e = plain texts 5 const.Ellipsis x bytes rest fits refl tt e
constant_takes texts (suc (suc (suc (suc (suc (suc b))))) ∷ bytes) x rest fits e = absurd cc

constant_again : (texts : ℕ) (x : Const) (rest : List ℕ) → IsConstant texts x → const_at texts (constant x ++ rest) ≡ Ok (x, rest)
unfolding const_at
constant_again texts const.None rest w = refl
constant_again texts const.False rest w = refl
constant_again texts const.True rest w = refl
constant_again texts (const.Int n) rest w = rw (integer_codec.again n rest w) refl
constant_again texts (const.Text t) rest w = rw ((name_codec texts).again t rest w) refl
constant_again texts const.Ellipsis rest w = refl

pub constant_codec : (texts : ℕ) → IsCodec (IsConstant texts) constant (const_at texts)
constant_codec texts = record { takes = constant_takes texts; again = constant_again texts }

kind_takes : (bytes : List ℕ) (x : BlockKind) (rest : List ℕ) → AreBytes bytes → kind_at bytes ≡ Ok (x, rest) → Takes bytes (kind_byte x ∷ []) rest × Unit {0}
unfolding kind_at
kind_takes [] x rest fits e = absurd cc
kind_takes (zero ∷ bytes) x rest fits e = one_byte 0 (λ k. kind_byte k ∷ []) kind.Module x bytes rest fits refl e
kind_takes (suc zero ∷ bytes) x rest fits e = one_byte 1 (λ k. kind_byte k ∷ []) kind.Function x bytes rest fits refl e
kind_takes (suc (suc zero) ∷ bytes) x rest fits e = one_byte 2 (λ k. kind_byte k ∷ []) kind.Generator x bytes rest fits refl e
kind_takes (suc (suc (suc zero)) ∷ bytes) x rest fits e = one_byte 3 (λ k. kind_byte k ∷ []) kind.Class x bytes rest fits refl e
kind_takes (suc (suc (suc (suc zero))) ∷ bytes) x rest fits e = one_byte 4 (λ k. kind_byte k ∷ []) kind.GeneratorExpression x bytes rest fits refl e
kind_takes (suc (suc (suc (suc (suc b)))) ∷ bytes) x rest fits e = absurd cc

kind_again : (x : BlockKind) (rest : List ℕ) → Unit {0} → kind_at ((kind_byte x ∷ []) ++ rest) ≡ Ok (x, rest)
unfolding kind_at
kind_again kind.Module rest w = refl
kind_again k rest w = refl

pub kind_codec : IsCodec (λ _. Unit {0}) (λ k. kind_byte k ∷ []) kind_at
kind_codec = record { takes = kind_takes; again = kind_again }

rest_takes : (bytes : List ℕ) (x : Rest) (rest : List ℕ) → AreBytes bytes → rest_at bytes ≡ Ok (x, rest) → Takes bytes (flags x ∷ []) rest × Unit {0}
unfolding rest_at
rest_takes [] x rest fits e = absurd cc
rest_takes (zero ∷ bytes) x rest fits e = one_byte 0 (λ r. flags r ∷ []) (record { positional = false; named = false }) x bytes rest fits refl e
rest_takes (suc zero ∷ bytes) x rest fits e = one_byte 1 (λ r. flags r ∷ []) (record { positional = true; named = false }) x bytes rest fits refl e
rest_takes (suc (suc zero) ∷ bytes) x rest fits e = one_byte 2 (λ r. flags r ∷ []) (record { positional = false; named = true }) x bytes rest fits refl e
rest_takes (suc (suc (suc zero)) ∷ bytes) x rest fits e = one_byte 3 (λ r. flags r ∷ []) (record { positional = true; named = true }) x bytes rest fits refl e
rest_takes (suc (suc (suc (suc b))) ∷ bytes) x rest fits e = absurd cc

flags_again : (positional named : Bool) (rest : List ℕ) → rest_at ((flags (record { positional = positional; named = named }) ∷ []) ++ rest) ≡ Ok (record { positional = positional; named = named }, rest)
unfolding rest_at
flags_again true true rest = refl
flags_again true false rest = refl
flags_again false true rest = refl
flags_again false false rest = refl

pub rest_codec : IsCodec (λ _. Unit {0}) (λ r. flags r ∷ []) rest_at
rest_codec = record { takes = rest_takes; again = λ x rest w. flags_again x.positional x.named rest }
