-- The places of labels stand in the code, and each instruction has a byte at least.
use Rattle.std.proofs.Common.{◌≡◌, ℕ, zero, suc, ◌+◌, ◌≤◌, List, [], ◌∷◌, ◌++◌, length, map, flat_map, get_or, slice_set, None, refl, sym, ap, ◌∙◌, subst, arith, length-append}
use Rattle.std.specs.List.{AllByRecursion}
use Rattle.std.proofs.lemmas.List.Concat.{flat_map-cons}
use Rattle.pt_instr.specs.declared.Instr.TheVariants as instr
use Rattle.pt_instr.specs.Encoding.{encoding}
use Rattle.pt_assembler.specs.declared.operation.Label.{Label}
use Rattle.pt_assembler.specs.declared.operation.Operation.{Operation}
use Rattle.pt_assembler.specs.declared.operation.Operation.TheVariants.{Plain, To, Free}
use Rattle.pt_assembler.specs.declared.operation.Placed.{Placed}
use Rattle.pt_assembler.specs.declared.operation.Target.{Target}
use Rattle.pt_assembler.specs.PieceAt.{target, start_of}
use Rattle.pt_assembler.specs.Layout.{Written, width, wide, at, with_operand, put, put_act, put_row, put_start, new_label, next_label, bind, placed, numbered_from, deeper_in, loop_in, layout, label_at, instr_in, bytes_of}
use Rattle.pt_assembler.specs.Piece as P
use Rattle.pt_assembler.specs.Piece.{Piece, pick}
use Rattle.pt_assembler.proofs.Growth.{operand_only, grows, later}
use Rattle.pt_assembler.proofs.Shown.{wide_end, width_in}
use Rattle.law_files.proofs.code_files.Each.{both}
use Rattle.law_files.specs.piece_counts.Counts.{instructions}

-- labels

abbrev pub Stands : ℕ → Target → Type 0
Stands n t = t.pc.0 ≤ n

abbrev pub Standing : Written → Type 0
Standing w = AllByRecursion (Stands (at w)) w.labels

all-later : (n k : ℕ) → n ≤ k → (ts : List Target) → AllByRecursion (Stands n) ts → AllByRecursion (Stands k) ts
all-later n k h [] a = tt
all-later n k h (t ∷ ts) a = (omega (arith, h, a.0), all-later n k h ts a.1)

with-set : (n : ℕ) (ts : List Target) (i : ℕ) (t : Target) → Stands n t → AllByRecursion (Stands n) ts → AllByRecursion (Stands n) (slice_set ts i t)
with-set n [] i t h a = tt
with-set n (u ∷ ts) zero t h a = (h, a.1)
with-set n (u ∷ ts) (suc i) t h a = (a.0, with-set n ts i t h a.1)

same-labels : (w v : Written) → v.labels ≡ w.labels → at w ≤ at v → Standing w → Standing v
same-labels w v e h a = subst (AllByRecursion (Stands (at v))) (sym e) (all-later (at w) (at v) h w.labels a)

new-stands : (w : Written) → Standing w → Standing (new_label w)
unfolding new_label
new-stands w a = both (Stands (at w)) w.labels (target (at w) w.place.depth ∷ []) a (omega arith, tt)

bound-stands : (k : Label) (w : Written) → Standing w → Standing (bind k w)
unfolding bind
bound-stands k w a = with-set (at w) w.labels k.0 (target (at w) w.place.depth) (omega arith) a

pub stand : (p : Piece) (L : List Label) (w : Written) → Standing w → Standing (layout p L w)
unfolding put put_act put_row put_start placed numbered_from
stand P.empty L w a = a
stand (P.act op k l g) L w a =
    same-labels w (layout (P.act op k l g) L w) (operand_only op w).labels (later w (layout (P.act op k l g) L w) (grows (P.act op k l g) L w)) a
stand (P.move op) L w a = same-labels w (layout (P.move op) L w) (operand_only op w).labels (later w (layout (P.move op) L w) (grows (P.move op) L w)) a
stand (P.seq p q) L w a = stand q L (layout p L w) (stand p L w a)
stand (P.block p) L w a = bound-stands (next_label w) (layout p (next_label w ∷ L) (new_label w)) (stand p (next_label w ∷ L) (new_label w) (new-stands w a))
stand (P.headed p) L w a = stand p (next_label w ∷ L) (new_label w) (new-stands w a)
stand (P.closed p) L w a = stand p [] w a
stand (P.looped b p) L w a =
    let v = placed (loop_in (pick (record { 0 = 0 }) L b) (next_label w) w.place) (new_label w) in
    bound-stands (next_label w) (placed w.place (layout p [] v)) (stand p [] v (new-stands w a))
stand (P.leave e k l) L w a = same-labels w (layout (P.leave e k l) L w) refl (later w (layout (P.leave e k l) L w) (grows (P.leave e k l) L w)) a
stand (P.ensured p) L w a =
    let u = layout p [] w in same-labels u (put (Plain instr.Normal) u) refl (let e = wide_end u.instrs
    (record { operation = Plain instr.Normal; act = None }) in omega arith) (stand p [] w a)
stand (P.caught p q) L w a = stand q L (layout p [] w) (stand p [] w a)
stand (P.deeper k p) L w a = stand p L (placed (deeper_in k w.place) w) a
stand (P.started l p) L w a = stand p L (put_start l w) a
stand (P.numbered n p) L w a = stand p L (numbered_from n w) a

at-most : (n : ℕ) (ts : List Target) (i : ℕ) → AllByRecursion (Stands n) ts → (get_or ts i start_of).pc.0 ≤ n
at-most n [] i a = omega arith
at-most n (t ∷ ts) zero a = a.0
at-most n (t ∷ ts) (suc i) a = at-most n ts i a.1

pub label-stands : (w : Written) → Standing w → (k : Label) → (label_at w k).pc.0 ≤ at w
label-stands w a k = at-most (at w) w.labels k.0 a

-- widths

some-width : (o : Operation) → 1 ≤ width o
some-width (Plain i) = omega arith
some-width (To j l) = omega arith
some-width (Free u i) = omega arith

wider : (w v : Written) (p : Placed) → v.instrs ≡ w.instrs ++ p ∷ [] → at w + 1 ≤ at v
wider w v p e = let k = ap wide e ∙ wide_end w.instrs p in omega (arith, some-width p.operation)

one-wider : (op : P.Op) (w v : Written) (p : Placed) → v.instrs ≡ (with_operand op w).instrs ++ p ∷ [] → at w + 1 ≤ at v
one-wider op w v p e = wider w v p (e ∙ ap (λ ps. ps ++ p ∷ []) (operand_only op w).instrs)

pub at-least : (p : Piece) (L : List Label) (w : Written) → at w + instructions p ≤ at (layout p L w)
unfolding put put_act put_row put_start new_label bind placed numbered_from
at-least P.empty L w = omega arith
at-least (P.act op k l g) L w = one-wider op w (layout (P.act op k l g) L w) _ refl
at-least (P.move op) L w = one-wider op w (layout (P.move op) L w) _ refl
at-least (P.seq p q) L w = omega (arith, at-least p L w, at-least q L (layout p L w))
at-least (P.block p) L w = at-least p (next_label w ∷ L) (new_label w)
at-least (P.headed p) L w = at-least p (next_label w ∷ L) (new_label w)
at-least (P.closed p) L w = at-least p [] w
at-least (P.looped b p) L w = at-least p [] (placed (loop_in (pick (record { 0 = 0 }) L b) (next_label w) w.place) (new_label w))
at-least (P.leave e k l) L w = wider w (layout (P.leave e k l) L w) _ refl
at-least (P.ensured p) L w = let u = layout p [] w in omega (arith, at-least p [] w, wider u (put (Plain instr.Normal) u) _ refl)
at-least (P.caught p q) L w = omega (arith, at-least p [] w, at-least q L (layout p [] w))
at-least (P.deeper k p) L w = at-least p L (placed (deeper_in k w.place) w)
at-least (P.started l p) L w = at-least p L (put_start l w)
at-least (P.numbered n p) L w = at-least p L (numbered_from n w)

all-wide : (w : Written) (ps : List Placed) → length (flat_map encoding (map (λ (p : Placed). instr_in w p.operation) ps)) ≡ wide ps
all-wide w [] = refl
all-wide w (p ∷ ps) =
    let i = instr_in w p.operation in
    let is = map (λ (p : Placed). instr_in w p.operation) ps in
    let e = ap length (flat_map-cons encoding i is) ∙ length-append (encoding i) (flat_map encoding is) in
    omega (arith, e, width_in w p.operation, all-wide w ps)

pub bytes-are : (w : Written) → length (bytes_of w) ≡ at w
bytes-are w = all-wide w w.instrs
