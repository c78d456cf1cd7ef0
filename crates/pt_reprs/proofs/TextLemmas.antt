-- What is answered where a text can't be written, and the pieces of items one after the other.
use Rattle.std.proofs.Common.{◌≡◌, ◌∙◌, ◌+◌, ◌-◌, ◌<◌, ◌≤◌, ℕ, zero, suc, Bool, false, List, [], ◌∷◌, ◌++◌, Result, Ok, Err, IfOk, inl, inr, length, take, drop, get_or, if◌then◌else◌, refl, sym, ap, arith}
use Rattle.std.proofs.Math.Seq.{take-length}
use Rattle.pt_base.specs.declared.memory.Memory.{Memory as OutOfMemory}
use Rattle.pt_heap.specs.declared.value.Value.{Value}
use Rattle.pt_heap.specs.declared.value.Value.TheVariants as value
use Rattle.pt_heap.specs.declared.object.Error.{Error as ErrorObject}
use Rattle.pt_heap.specs.declared.object.Object.{Object}
use Rattle.pt_heap.specs.Entries.{Entry}
use Rattle.pt_content.specs.pt_attrs.Look.{object_of}
use Rattle.pt_strs.specs.Answer.{length_limit}
use Rattle.pt_content.specs.declared.answer.Helper.TheVariants.{PrintOf}
use Rattle.pt_content.specs.declared.content.Content.{Content}
use Rattle.pt_content.specs.declared.content.Content.TheVariants as content
use Rattle.pt_reprs.specs.declared.repr.EntryForm.{EntryForm}
use Rattle.pt_reprs.specs.declared.writer.WriteErr.{WriteErr}
use Rattle.pt_reprs.specs.declared.writer.WriteErr.TheVariants.{Deep}
use Rattle.pt_reprs.specs.declared.writer.Writer.{Writer}
use Rattle.pt_reprs.specs.Pieces.{Piece, text_of, with_pieces, writer}
use Rattle.pt_reprs.specs.Reached.{need_help}
use Rattle.pt_reprs.specs.Reprs.{behind_commas, between_commas, entry_pieces, item_pieces, value_pieces, Inside}
use Rattle.pt_reprs.specs.Texts.{args_pieces, behind_separators, between_separators, by_text, error_within, is_key_error, new_text, object_text, printed, str_pieces, text_content}

pub says : (r : Result Content OutOfMemory) (e : WriteErr) (make : List ℕ → Content) (wanted : Content) → by_text make (Err e) ≡ wanted
    → IfOk r (λ c. (make : List ℕ → Content) → c ≡ by_text make (Err e)) → IfOk r (λ c. c ≡ wanted)
says (Ok c) e make wanted f w = w make ∙ f
says (Err x) e make wanted f w = tt

pub text-refused : (ps : List Piece) (e : WriteErr) → with_pieces ps (writer [] length_limit) ≡ Err e → by_text new_text (Err e) ≡ text_content ps
text-refused ps e f = sym (ap (λ r. by_text new_text (text_of r)) f)

pub printed-refused : (h : List Object) (separator end : List ℕ) (vs : List Value) (e : WriteErr) → need_help h vs ≡ false
    → with_pieces (between_separators h separator vs ++ Ok end ∷ []) (writer [] length_limit) ≡ Err e → by_text content.Print (Err e) ≡ printed h separator end vs
printed-refused h separator end vs e none f =
    sym (ap (λ b. if b then content.Help PrintOf false else by_text content.Print (text_of (with_pieces (between_separators h separator vs ++ Ok end ∷ []) (writer [] length_limit)))) none
    ∙ ap (λ r. by_text content.Print (text_of r)) f)

-- items, in which so many containers may stand
pub items-deep : (h : List Object) (path : List ℕ) (inside : Inside) (w : Writer) → with_pieces (item_pieces h 0 path inside) w ≡ Err Deep
unfolding item_pieces
items-deep h path inside w = refl

pub items-between : (h : List Object) (depth : ℕ) (path : List ℕ) (vs : List Value) → 0 < depth → item_pieces h depth path (inl vs) ≡ between_commas (value_pieces (item_pieces h (depth - 1)) h path) vs
unfolding item_pieces
items-between h zero path vs l = absurd (omega (arith, l))
items-between h (suc depth) path vs l = let less : depth ≡ suc depth - 1 = omega arith in ap (λ d. between_commas (value_pieces (item_pieces h d) h path) vs) less

pub entries-between : (h : List Object) (depth : ℕ) (path : List ℕ) (form : EntryForm) (es : List Entry) → 0 < depth → item_pieces h depth path (inr (form, es)) ≡ between_commas (entry_pieces form (value_pieces (item_pieces h (depth - 1)) h path)) es
unfolding item_pieces
entries-between h zero path form es l = absurd (omega (arith, l))
entries-between h (suc depth) path form es l = let less : depth ≡ suc depth - 1 = omega arith in ap (λ d. between_commas (entry_pieces form (value_pieces (item_pieces h d) h path)) es) less

-- the first entry, and those behind it
pub first-entry : (h : List Object) (depth : ℕ) (path : List ℕ) (form : EntryForm) (es rest : List Entry) (e : Entry) → 0 < depth → es ≡ e ∷ rest
    → item_pieces h depth path (inr (form, es)) ≡ entry_pieces form (value_pieces (item_pieces h (depth - 1)) h path) e ++ behind_commas (entry_pieces form (value_pieces (item_pieces h (depth - 1)) h path)) rest
first-entry h depth path form es rest e l split =
    entries-between h depth path form es l ∙ ap (between_commas (entry_pieces form (value_pieces (item_pieces h (depth - 1)) h path))) split

rest-of : (v : Value) (vs : List Value) → vs ≡ take (length (v ∷ vs) - 1) (drop 1 (v ∷ vs))
rest-of v vs = let less : length (v ∷ vs) - 1 ≡ length vs = omega arith in sym (ap (λ n. take n vs) less ∙ take-length vs)

-- the first item, and those behind it
pub first-item : (f : Value → List Piece) (vs : List Value) → 1 ≤ length vs → between_commas f vs ≡ f (get_or vs 0 value.None) ++ behind_commas f (take (length vs - 1) (drop 1 vs))
first-item f [] l = absurd (omega (arith, l))
first-item f (v ∷ vs) l = ap (λ ws. f v ++ behind_commas f ws) (rest-of v vs)

pub first-text : (h : List Object) (separator : List ℕ) (vs : List Value) → 1 ≤ length vs
    → between_separators h separator vs ≡ str_pieces h (get_or vs 0 value.None) ++ behind_separators h separator (take (length vs - 1) (drop 1 vs))
first-text h separator [] l = absurd (omega (arith, l))
first-text h separator (v ∷ vs) l = ap (λ ws. str_pieces h v ++ behind_separators h separator ws) (rest-of v vs)

-- exceptions, of which so many may stand inside one another
pub errors-deep : (h : List Object) (x : ErrorObject) (w : Writer) → with_pieces (error_within h 0 x) w ≡ Err Deep
unfolding error_within
errors-deep h x w = refl

pub error-text : (h : List Object) (depth : ℕ) (x : ErrorObject) → 0 < depth
    → error_within h depth x ≡ args_pieces h (λ v. object_text h (error_within h (depth - 1)) v (object_of h v)) (is_key_error x.class) x.args
unfolding error_within
error-text h zero x l = absurd (omega (arith, l))
error-text h (suc depth) x l =
    let less : depth ≡ suc depth - 1 = omega arith in
    ap (λ d. args_pieces h (λ v. object_text h (error_within h d) v (object_of h v)) (is_key_error x.class) x.args) less
