-- What parts that are put together tell of blocks, of first Nexts and of the acts behind.
use Rattle.std.proofs.Common.{◌≡◌, ℕ, ◌+◌, Bool, List, [], ◌∷◌, ◌++◌, map, refl, ap, sym, ◌∙◌, append_assoc}
use Rattle.std.specs.Prelude.{Option, None}
use Rattle.std.proofs.lemmas.List.{append-nil, map-append}
use Rattle.sem_names.specs.declared.block_shape.BlockShape.{BlockShape}
use Rattle.sem_names.specs.Nexts.{next_if}
use Rattle.sem_names.specs.Script.{shape_in}
use Rattle.pt_block_shapes.specs.outliner.Outline.{Outline, Part, ◌⨾◌, a_block, a_comprehension, acts, behind, beginning, evaluated_first, in_comprehension, in_generator, inside, listed, nothing, numbered, unevaluated}
use Rattle.pt_tree.specs.Blocks.{Block}
use Rattle.pt_tree.specs.Syntax.{Name}

-- a part in the body of a class has blocks, first Nexts by the number of its first act, and ends before an act by that number
pub record Tells (c : Name) (f : Part) (bs : List Block) (ns : ℕ → List (Option ℕ)) (end : ℕ → ℕ) : Type 0 where
  pub at : (n : ℕ) → f n ≡ record { blocks = map (shape_in c) bs; nexts = ns n; act = end n }

abbrev outlined : Name → List Block → List (Option ℕ) → ℕ → Outline
outlined c bs ns k = record { blocks = map (shape_in c) bs; nexts = ns; act = k }

pub ending : {c : Name} {f : Part} {bs : List Block} {ns : ℕ → List (Option ℕ)} {e d : ℕ → ℕ} → Tells c f bs ns e → ((n : ℕ) → e n ≡ d n) → Tells c f bs ns d
ending {c} {f} {bs} {ns} {e} {d} told same = record { at = λ n. told.at n ∙ ap (λ (k : ℕ). outlined c bs (ns n) k) (same n) }

pub numbering : {c : Name} {f : Part} {bs : List Block} {ns ms : ℕ → List (Option ℕ)} {e : ℕ → ℕ} → Tells c f bs ns e → ((n : ℕ) → ns n ≡ ms n) → Tells c f bs ms e
numbering {c} {f} {bs} {ns} {ms} {e} told same = record { at = λ n. told.at n ∙ ap (λ (ks : List (Option ℕ)). outlined c bs ks (e n)) (same n) }

pub listing : {c : Name} {f : Part} {bs cs : List Block} {ns : ℕ → List (Option ℕ)} {e : ℕ → ℕ} → Tells c f bs ns e → bs ≡ cs → Tells c f cs ns e
listing {c} {f} {bs} {cs} {ns} {e} told same = record { at = λ n. told.at n ∙ ap (λ (ds : List Block). outlined c ds (ns n) (e n)) same }

pub both : {c : Name} {f g : Part} {bs cs : List Block} {ns ms : ℕ → List (Option ℕ)} {e d : ℕ → ℕ} → Tells c f bs ns e → Tells c g cs ms d
    → Tells c (f ⨾ g) (bs ++ cs) (λ n. ns n ++ ms (e n)) (λ n. d (e n))
unfolding behind ◌⨾◌
both {c} {f} {g} {bs} {cs} {ns} {ms} {e} {d} one other = record {
  at = λ n.
      ap (λ (p : Outline). behind p g) (one.at n)
      ∙ ap (λ (q : Outline). record { blocks = map (shape_in c) bs ++ q.blocks; nexts = ns n ++ q.nexts; act = q.act }) (other.at (e n))
      ∙ ap (λ (xs : List BlockShape). record { blocks = xs; nexts = ns n ++ ms (e n); act = d (e n) }) (sym (map-append (shape_in c) bs cs));
}

pub three : {c : Name} {f g h : Part} {bs cs ds : List Block} {ns ms ls : ℕ → List (Option ℕ)} {e d k : ℕ → ℕ} → Tells c f bs ns e → Tells c g cs ms d
    → Tells c h ds ls k → Tells c (f ⨾ g ⨾ h) (bs ++ cs ++ ds) (λ n. ns n ++ ms (e n) ++ ls (d (e n))) (λ n. k (d (e n)))
three {c} {f} {g} {h} {bs} {cs} {ds} {ns} {ms} {ls} {e} {d} {k} one other third =
    listing (numbering (both one (both other third)) (λ n. sym (append_assoc (ns n) (ms (e n)) (ls (d (e n)))))) (sym (append_assoc bs cs ds))

pub four : {c : Name} {f g h j : Part} {bs cs ds es : List Block} {ns ms ls ks : ℕ → List (Option ℕ)} {e d k b : ℕ → ℕ} → Tells c f bs ns e → Tells c g cs ms d
    → Tells c h ds ls k → Tells c j es ks b
    → Tells c (f ⨾ g ⨾ h ⨾ j) (bs ++ cs ++ ds ++ es) (λ n. ns n ++ ms (e n) ++ ls (d (e n)) ++ ks (k (d (e n)))) (λ n. b (k (d (e n))))
four {c} {f} {g} {h} {j} {bs} {cs} {ds} {es} {ns} {ms} {ls} {ks} {e} {d} {k} {b} one other third last =
    listing
    (numbering (three one other (both third last)) (λ n. sym (append_assoc (ns n ++ ms (e n)) (ls (d (e n))) (ks (k (d (e n)))))))
    (sym (append_assoc (bs ++ cs) ds es))

pub no_part : {c : Name} → Tells c nothing [] (λ n. []) (λ n. n)
unfolding nothing beginning
no_part = record { at = λ n. refl }

pub some_acts : {c : Name} (k : ℕ) → Tells c (acts k) [] (λ n. []) (λ n. n + k)
unfolding acts beginning
some_acts k = record { at = λ n. refl }

-- acts behind a part, and in front of it
pub before_acts : {c : Name} {f : Part} {bs : List Block} {ns : ℕ → List (Option ℕ)} {e : ℕ → ℕ} (k : ℕ) → Tells c f bs ns e
    → Tells c (f ⨾ acts k) bs ns (λ n. e n + k)
before_acts {c} {f} {bs} {ns} {e} k told = listing (numbering (both told (some_acts k)) (λ n. append-nil (ns n))) (append-nil bs)

pub behind_acts : {c : Name} {f : Part} {bs : List Block} {ns : ℕ → List (Option ℕ)} {e : ℕ → ℕ} (k : ℕ) → Tells c f bs ns e
    → Tells c (acts k ⨾ f) bs (λ n. ns (n + k)) (λ n. e (n + k))
behind_acts k told = both (some_acts k) told

-- a part that is evaluated before one in front of it
pub first : {c : Name} {f g : Part} {bs cs : List Block} {ns ms : ℕ → List (Option ℕ)} {e d : ℕ → ℕ} → Tells c f bs ns e → Tells c g cs ms d
    → Tells c (evaluated_first f g) (cs ++ bs) (λ n. ms (e n) ++ ns n) (λ n. d (e n))
unfolding evaluated_first listed
first {c} {f} {g} {bs} {cs} {ns} {ms} {e} {d} one other = record {
  at = λ n.
      ap (λ (p : Outline). listed (g p.act) p) (one.at n)
      ∙ ap (λ (q : Outline). record { blocks = q.blocks ++ map (shape_in c) bs; nexts = q.nexts ++ ns n; act = q.act }) (other.at (e n))
      ∙ ap (λ (xs : List BlockShape). record { blocks = xs; nexts = ms (e n) ++ ns n; act = d (e n) }) (sym (map-append (shape_in c) cs bs));
}

pub one_block : {c : Name} (b : Block) → Tells c (a_block (shape_in c b)) (b ∷ []) (λ n. None ∷ []) (λ n. n)
unfolding a_block
one_block b = record { at = λ n. refl }

pub within : {c : Name} {f : Part} {bs : List Block} {ns : ℕ → List (Option ℕ)} {e : ℕ → ℕ} (m : ℕ) → Tells c f bs ns e → Tells c (inside m f) bs (λ n. ns m) (λ n. n)
unfolding inside numbered
within m told = record { at = λ n. ap (λ (p : Outline). numbered p n) (told.at m) }

pub not_evaluated : {c : Name} {f : Part} {bs : List Block} {ns : ℕ → List (Option ℕ)} {e : ℕ → ℕ} → Tells c f bs ns e → Tells c (unevaluated f) bs ns (λ n. n)
unfolding unevaluated numbered
not_evaluated told = record { at = λ n. ap (λ (p : Outline). numbered p n) (told.at n) }

map-four : {A B : Type 0} (f : A → B) (m t i c : List A) → ((map f m ++ map f t) ++ map f i) ++ map f c ≡ map f (((m ++ t) ++ i) ++ c)
map-four f m t i c = simp map-append

pub comprehended : {c : Name} {f g h k : Part} {is ts cs ms : List Block} {ni nt nc nm : ℕ → List (Option ℕ)} {ei et ec em : ℕ → ℕ} (u : Bool)
    → Tells c f is ni ei → Tells c g ts nt et → Tells c h cs nc ec → Tells c k ms nm em
    → Tells c (in_comprehension u f g h k) (ms ++ ts ++ is ++ cs)
    (λ n. next_if u (ei n + 2) ∷ nm (ec (et (ei n + 2 + 1))) ++ nt (ei n + 2 + 1) ++ ni n ++ nc (et (ei n + 2 + 1))) (λ n. em (ec (et (ei n + 2 + 1))))
unfolding in_comprehension listed numbered a_comprehension
comprehended {c} {f} {g} {h} {k} {is} {ts} {cs} {ms} {ni} {nt} {nc} {nm} {ei} {et} {ec} {em} u iterable target clauses made = record {
  at = λ n.
      let next = ei n + 2 in
      let at_i = (before_acts 2 iterable).at n in
      let at_t = ap (λ (p : Outline). g (p.act + 1)) at_i ∙ target.at (next + 1) in
      let at_c = ap (λ (p : Outline). h p.act) at_t ∙ clauses.at (et (next + 1)) in
      let at_m = ap (λ (p : Outline). k p.act) at_c ∙ made.at (ec (et (next + 1))) in
      (λ j. numbered (listed (listed (listed (listed (a_comprehension u (at_i j).act n) (at_m j)) (at_t j)) (at_i j)) (at_c j)) (at_m j).act)
      ∙ ap
      (λ (xs : List BlockShape). record {
        blocks = xs;
        nexts = next_if u next ∷ nm (ec (et (next + 1))) ++ nt (next + 1) ++ ni n ++ nc (et (next + 1));
        act = em (ec (et (next + 1)));
      })
      (map-four (shape_in c) ms ts is cs);
}

pub generated : {c : Name} {f g h k : Part} {is ts cs ms : List Block} {ni nt nc nm : ℕ → List (Option ℕ)} {ei et ec em : ℕ → ℕ} (b : Block)
    → Tells c f is ni ei → Tells c g ts nt et → Tells c h cs nc ec → Tells c k ms nm em
    → Tells c (in_generator (shape_in c b) f g h k) (b ∷ [] ++ ms ++ ts ++ is ++ cs)
    (λ n. None ∷ nm (ec (et 1)) ++ nt 1 ++ ni n ++ nc (et 1)) (λ n. ei n + 2)
unfolding in_generator listed numbered a_block
generated {c} {f} {g} {h} {k} {is} {ts} {cs} {ms} {ni} {nt} {nc} {nm} {ei} {et} {ec} {em} b iterable target clauses made = record {
  at = λ n.
      let at_i = (before_acts 2 iterable).at n in
      let at_t = target.at 1 in
      let at_c = ap (λ (p : Outline). h p.act) at_t ∙ clauses.at (et 1) in
      let at_m = ap (λ (p : Outline). k p.act) at_c ∙ made.at (ec (et 1)) in
      (λ j. numbered (listed (listed (listed (listed (a_block (shape_in c b) n) (at_m j)) (at_t j)) (at_i j)) (at_c j)) (at_i j).act)
      ∙ ap
      (λ (xs : List BlockShape). record {
        blocks = shape_in c b ∷ xs;
        nexts = None ∷ nm (ec (et 1)) ++ nt 1 ++ ni n ++ nc (et 1);
        act = ei n + 2;
      })
      (map-four (shape_in c) ms ts is cs);
}
