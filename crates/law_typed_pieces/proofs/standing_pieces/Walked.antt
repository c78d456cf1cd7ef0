-- Parts of a script with what is known of their blocks: which block each node makes, and that no `yield` is misplaced.
use Rattle.std.proofs.Common.{◌≡◌, ℕ, suc, ◌+◌, Bool, true, false, List, [], ◌∷◌, ◌++◌, map, length, Some, refl, sym, ap, ◌∙◌, subst, length-append}
use Rattle.std.proofs.lemmas.Bool.{false≢true}
use Rattle.std.proofs.lemmas.List.{length-map}
use Rattle.std.specs.Option.{unwrap_or}
use Rattle.std.specs.List.{AllByRecursion}
use Rattle.pt_tree.specs.declared.act.ActRow.{ActRow}
use Rattle.pt_tree.specs.Syntax as S
use Rattle.pt_tree.specs.Syntax.{Name, Params}
use Rattle.pt_tree.specs.Blocks.{Block, inside_class}
use Rattle.pt_scopes.specs.declared.region.Context.{Context}
use Rattle.pt_scopes.specs.Names.{mangled}
use Rattle.pt_scopes.specs.Places.{Part, ◌⨾◌}
use Rattle.sem_control.specs.control.Turn as T
use Rattle.sem_control.specs.control.Turn.{Around}
use Rattle.pt_code.specs.declared.BlockKind.{BlockKind}
use Rattle.sem_names.specs.BlockNames.{formal_names, param_names}
use Rattle.sem_fits.specs.fits.Block.{Links}
use Rattle.sem_fits.specs.fits.Standing.{has_names, may_yield}
use Rattle.pt_assembler.specs.Piece.{Piece}
use Rattle.law_operands.specs.law_files.sem_compile.stm_pieces.StmPiece.{code_piece}
use Rattle.law_operands.specs.law_files.sem_compile.compile.ScriptCode.{kind_of}
use Rattle.law_operands.proofs.law_files.code_files.Each.{both, both3, both4}
use Rattle.law_operands.proofs.law_files.code_files.Sound.{Apart}
use Rattle.law_typed_pieces.specs.standing_pieces.Pieces.{StandsPiece}
use Rattle.law_typed_pieces.proofs.standing_pieces.Placed.{Placed, split_part}

abbrev pub formals_of : Params → List Name
formals_of (S.parameters ps s ks d) = formal_names ps ++ formal_names ks

module _ (links : Links) (p : ActRow → Bool) where
  -- the block that a node makes, in the body of the class c: its kind and parameters, no two of one name
  pub record IsMade (c : Name) (number : ℕ) (k : Block) : Type 0 where
    pub kind : links.kind number ≡ Some (kind_of k.code)
    pub parameters : links.parameters number ≡ map (mangled (unwrap_or k.class c)) (formals_of k.params)
    pub apart : Apart (map (mangled (unwrap_or k.class c)) (param_names k.params))

  -- the block in which a part runs
  pub record Runs (c : Name) : Type 0 where
    pub around : Around (Unit {0})
    pub kind : BlockKind
    pub spelled : (x : Name) → around.spelled x ≡ mangled c x
    pub classes : (within : List ℕ) (x : Name) → (around.variable within x).scope ≡ T.of_class → has_names kind ≡ true

  abbrev pub Stands : {c : Name} → Runs c → Piece → Type 0
  Stands b q = StandsPiece b.kind links q

  -- where an act gives a value on, and may do so, its block makes a generator
  abbrev pub GivesOn : {c : Name} → Context → Runs c → ActRow → Type 0
  GivesOn a b r = p r ≡ true → a.may_give ≡ true → may_yield b.kind ≡ true

  abbrev pub May : {c : Name} → Context → Runs c → List ActRow → Type 0
  May a b rs = AllByRecursion (GivesOn a b) rs

  -- where none may be given, all is so
  pub may_none : {c : Name} (a : Context) (b : Runs c) → a.may_give ≡ false → (rs : List ActRow) → May a b rs
  may_none a b h [] = tt
  may_none a b h (r ∷ rs) = (λ e f. absurd (false≢true (sym h ∙ f)), may_none a b h rs)

  abbrev pub AllMade : (c : Name) → List ℕ → List Block → Type 0
  AllMade c [] [] = Unit {0}
  AllMade c (n ∷ ns) (k ∷ ks) = IsMade c n k × AllMade c ns ks
  AllMade c ns ks = ⊥

  -- the instructions of a block may stand there
  abbrev pub Good : Name → Block → Type 0
  Good c k = (b : Runs (unwrap_or k.class c)) → b.kind ≡ kind_of k.code → Stands b (code_piece b.around k.code)

  split_made : (c : Name) (ns ms : List ℕ) (ks js : List Block) → length ns ≡ length ks → AllMade c (ns ++ ms) (ks ++ js) → AllMade c ns ks × AllMade c ms js
  split_made c [] ms [] js e h = (tt, h)
  split_made c [] ms (k ∷ ks) js e h = absurd (let no : 0 ≡ suc (length ks) = e in cc)
  split_made c (n ∷ ns) ms [] js e h = absurd (let no : suc (length ns) ≡ 0 = e in cc)
  split_made c (n ∷ ns) ms (k ∷ ks) js e h =
      let rest = split_made c ns ms ks js (let f : suc (length ns) ≡ suc (length ks) = e in cc) h.1 in
      ((h.0, rest.0), rest.1)

  -- a part, the numbers of the nodes in it that make blocks, these blocks, and what is known of it
  pub record Walked (c : Name) (f : Part) (ns : List ℕ) (ks : List Block) (Own : Type 0) : Type 0 where
    pub counted : length ns ≡ length ks
    pub own : AllMade c ns ks → Placed f → Own
    pub inner : AllMade c ns ks → Placed f → AllByRecursion (Good c) ks

counts : (ns ms : List ℕ) (ks js : List Block) → length ns ≡ length ks → length ms ≡ length js → length (ns ++ ms) ≡ length (ks ++ js)
counts ns ms ks js e f =
    length-append ns ms ∙ (ap (λ n. n + length ms) e ∙ (ap (λ n. length ks + n) f ∙ sym (length-append ks js)))

module _ {links : Links} {p : ActRow → Bool} {c : Name} where
  pub leaf : {f : Part} {P : Type 0} → P → Walked links p c f [] [] P
  leaf x = record { counted = refl; own = λ h q. x; inner = λ h q. tt }

  pub told : {f : Part} {P : Type 0} → (Placed f → P) → Walked links p c f [] [] P
  told f = record { counted = refl; own = λ h q. f q; inner = λ h q. tt }

  pub gives : {f : Part} {ns : List ℕ} {ks : List Block} {P Q : Type 0} → (P → Q) → Walked links p c f ns ks P → Walked links p c f ns ks Q
  gives i w = record { counted = w.counted; own = λ h q. i (w.own h q); inner = w.inner }

  pub two : {f g : Part} {ns ms : List ℕ} {ks js : List Block} {P Q : Type 0} → Walked links p c f ns ks P → Walked links p c g ms js Q
      → Walked links p c (f ⨾ g) (ns ++ ms) (ks ++ js) (P × Q)
  two {f} {g} {ns} {ms} {ks} {js} v w = record {
    counted = counts ns ms ks js v.counted w.counted;
    own = λ h q.
        let m = split_made links p c ns ms ks js v.counted h in
        let s = split_part f g q in
        (v.own m.0 s.0, w.own m.1 s.1);
    inner = λ h q.
        let m = split_made links p c ns ms ks js v.counted h in
        let s = split_part f g q in
        both (Good links p c) ks js (v.inner m.0 s.0) (w.inner m.1 s.1);
  }

  pub three : {f g e : Part} {ns ms ls : List ℕ} {ks js is : List Block} {P Q R : Type 0} → Walked links p c f ns ks P → Walked links p c g ms js Q
      → Walked links p c e ls is R → Walked links p c (f ⨾ (g ⨾ e)) (ns ++ ms ++ ls) (ks ++ js ++ is) (P × (Q × R))
  three {f} {g} {e} {ns} {ms} {ls} {ks} {js} {is} v w u =
      let first = counts ns ms ks js v.counted w.counted in
      record {
        counted = counts (ns ++ ms) ls (ks ++ js) is first u.counted;
        own = λ h q.
            let n = split_made links p c (ns ++ ms) ls (ks ++ js) is first h in
            let m = split_made links p c ns ms ks js v.counted n.0 in
            let s = split_part f (g ⨾ e) q in
            let t = split_part g e s.1 in
            (v.own m.0 s.0, (w.own m.1 t.0, u.own n.1 t.1));
        inner = λ h q.
            let n = split_made links p c (ns ++ ms) ls (ks ++ js) is first h in
            let m = split_made links p c ns ms ks js v.counted n.0 in
            let s = split_part f (g ⨾ e) q in
            let t = split_part g e s.1 in
            both3 (Good links p c) ks js is (v.inner m.0 s.0) (w.inner m.1 t.0) (u.inner n.1 t.1);
      }

  pub four : {f g e d : Part} {ns ms ls os : List ℕ} {ks js is hs : List Block} {P Q R S : Type 0} → Walked links p c f ns ks P → Walked links p c g ms js Q
      → Walked links p c e ls is R → Walked links p c d os hs S
      → Walked links p c (f ⨾ (g ⨾ (e ⨾ d))) (ns ++ ms ++ ls ++ os) (ks ++ js ++ is ++ hs) (P × (Q × (R × S)))
  four {f} {g} {e} {d} {ns} {ms} {ls} {os} {ks} {js} {is} {hs} v w u x =
      let first = counts ns ms ks js v.counted w.counted in
      let second = counts (ns ++ ms) ls (ks ++ js) is first u.counted in
      record {
        counted = counts (ns ++ ms ++ ls) os (ks ++ js ++ is) hs second x.counted;
        own = λ h q.
            let o = split_made links p c (ns ++ ms ++ ls) os (ks ++ js ++ is) hs second h in
            let n = split_made links p c (ns ++ ms) ls (ks ++ js) is first o.0 in
            let m = split_made links p c ns ms ks js v.counted n.0 in
            let s = split_part f (g ⨾ (e ⨾ d)) q in
            let t = split_part g (e ⨾ d) s.1 in
            let r = split_part e d t.1 in
            (v.own m.0 s.0, (w.own m.1 t.0, (u.own n.1 r.0, x.own o.1 r.1)));
        inner = λ h q.
            let o = split_made links p c (ns ++ ms ++ ls) os (ks ++ js ++ is) hs second h in
            let n = split_made links p c (ns ++ ms) ls (ks ++ js) is first o.0 in
            let m = split_made links p c ns ms ks js v.counted n.0 in
            let s = split_part f (g ⨾ (e ⨾ d)) q in
            let t = split_part g (e ⨾ d) s.1 in
            let r = split_part e d t.1 in
            both4 (Good links p c) ks js is hs (v.inner m.0 s.0) (w.inner m.1 t.0) (u.inner n.1 r.0) (x.inner o.1 r.1);
      }

  pub same_lists : {f : Part} {ns ms : List ℕ} {ks js : List Block} {P : Type 0} → ns ≡ ms → ks ≡ js → Walked links p c f ns ks P → Walked links p c f ms js P
  same_lists {f} {ns} {ms} {ks} {js} {P} e g w = subst (λ l. Walked links p c f l js P) e (subst (λ l. Walked links p c f ns l P) g w)

  -- a node that makes a block, with what stands in it
  pub starts : {f : Part} {inside : ℕ → Part} (number : ℕ) (k : Block) {ns : List ℕ} {ks : List Block} {P : Type 0} (R : ℕ → Type 0)
      → (Placed f → (r : ℕ) × Placed (inside r)) → ((r : ℕ) → Walked links p c (inside r) ns ks (R r)) → ((r : ℕ) → R r → Good links p c k)
      → ((r : ℕ) → IsMade links p c number k → R r → P) → Walked links p c f (number ∷ ns) (k ∷ ks) P
  starts number k R into w good own = record {
    counted = ap suc (w 0).counted;
    own = λ h q. let e = into q in own e.0 h.0 ((w e.0).own h.1 e.1);
    inner = λ h q. let e = into q in (good e.0 ((w e.0).own h.1 e.1), (w e.0).inner h.1 e.1);
  }

  -- a comprehension
  pub within : {f : Part} {inside : ℕ → Part} {ns : List ℕ} {ks : List Block} {P : Type 0} (R : ℕ → Type 0)
      → (Placed f → (r : ℕ) × Placed (inside r)) → ((r : ℕ) → Walked links p c (inside r) ns ks (R r)) → ((r : ℕ) → R r → P) → Walked links p c f ns ks P
  within R into w own = record {
    counted = (w 0).counted;
    own = λ h q. let e = into q in own e.0 ((w e.0).own h e.1);
    inner = λ h q. let e = into q in (w e.0).inner h e.1;
  }

module _ (links : Links) (p : ActRow → Bool) (c x : Name) where
  made_inside : (ns : List ℕ) (ks : List Block) → AllMade links p c ns (map (inside_class x) ks) → AllMade links p x ns ks
  made_inside [] [] h = tt
  made_inside [] (k ∷ ks) h = absurd h
  made_inside (n ∷ ns) [] h = absurd h
  made_inside (n ∷ ns) (k ∷ ks) h =
      (record { kind = (h.0).kind; parameters = (h.0).parameters; apart = (h.0).apart }, made_inside ns ks h.1)

  good_inside : (ks : List Block) → AllByRecursion (Good links p x) ks → AllByRecursion (Good links p c) (map (inside_class x) ks)
  good_inside [] h = tt
  good_inside (k ∷ ks) h = (h.0, good_inside ks h.1)

  -- what stands in the body of a class x
  pub in_body : {f : Part} {ns : List ℕ} {ks : List Block} {P : Type 0} → Walked links p x f ns ks P → Walked links p c f ns (map (inside_class x) ks) P
  in_body {f} {ns} {ks} w = record {
    counted = w.counted ∙ sym (length-map ks (inside_class x));
    own = λ h q. w.own (made_inside ns ks h) q;
    inner = λ h q. good_inside ks (w.inner (made_inside ns ks h) q);
  }
