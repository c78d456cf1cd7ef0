-- The code of the sample stands where the relation says.
use Rattle.std.proofs.Common.{◌≡◌, ◌<◌, ℕ, Contains, get_or, arith, List, [], ◌∷◌, Bool, true, false, Option, None, refl}
use Rattle.std.specs.Prelude.{if◌then◌else◌}
use Rattle.pt_ranges.specs.declared.lines.ActMark.{ActMark}
use Rattle.pt_ranges.specs.declared.handlers.Handler.{Handler}
use Rattle.pt_code.specs.declared.Start.{Start}
use Rattle.pt_tree.specs.Syntax.{Name}
use Rattle.pt_instr.specs.declared.Instr.{Instr}
use Rattle.pt_instr.specs.declared.Instr.TheVariants as instr
use Rattle.sem_control.specs.control.Turn as T
use Rattle.sem_control.specs.control.Turn.{Variable, Operation, Seek, move}
use Rattle.sem_code.specs.slots.Slots.{Slots, value, cell, on}
use Rattle.sem_code.specs.slots.Pops.{values, cells, one, giving}
use Rattle.sem_code.specs.slots.Steps.{asks, gives, does}
use Rattle.sem_code.specs.slots.Instructions.{perform, operates}
use Rattle.sem_code.specs.comp_expr.Samples.{sample_block}
use Rattle.sem_code.specs.comp_expr.Places.{above, ins, Ins_at, Seeks, Null_at, Cell_at, Stores, Sets, Unpacks, Operates}
use Rattle.sem_code.proofs.comp_expr.Operations.{takes_values, takes_both, takes_base}
use Rattle.sem_code.specs.comp.Places.{Deletes, DeletesAttribute, ImportsName, GivesTruth, LeadsOn, Splits, at_once, behind_nop, never_left, Block_at}
use Rattle.sem_code.specs.comp.Samples.{every_statement, every_statement_code, every_statement_starts, row_0, row_1, row_2, row_3, row_4, row_5}

-- an instruction of the sample stands, and does what it is to do
abbrev Stands : List Handler → Instr → Option ActMark → ℕ → ℕ → Type 0
Stands rows j m from to = Ins_at sample_block every_statement_code rows j m from to

at_seek : {rows : List Handler} {s : Seek ℕ} {m : Option ActMark} {from to : ℕ} (j : Instr) → Stands rows j m from to
    → ((ss : Slots ℕ) → perform every_statement_code from (ins j m to rows) j ss ≡ gives every_statement_code (ins j m to rows) s ss)
    → Seeks sample_block every_statement_code rows s m from to
at_seek j h e = record { instr = j; stands = h; does = e }

at_null : {rows : List Handler} {from to : ℕ} (j : Instr) → Stands rows j None from to
    → ((ss : Slots ℕ) → perform every_statement_code from (ins j None to rows) j ss ≡ move (on to (value 0 ∷ ss)))
    → Null_at sample_block every_statement_code rows from to
at_null j h e = record { instr = j; stands = h; does = e }

at_cell : {rows : List Handler} {x : Variable} {from to : ℕ} (j : Instr) → Stands rows j None from to
    → ((ss : Slots ℕ) → perform every_statement_code from (ins j None to rows) j ss ≡ asks every_statement_code (ins j None to rows) (T.seek (T.cell_of x)) ss (λ v. on to (cell v ∷ ss)))
    → Cell_at sample_block every_statement_code rows x from to
at_cell j h e = record { instr = j; stands = h; does = e }

at_store : {rows : List Handler} {x : Variable} {m : Option ActMark} {from to : ℕ} (j : Instr) → Stands rows j m from to
    → ((v : ℕ) (ss : Slots ℕ) → perform every_statement_code from (ins j m to rows) j (value v ∷ ss) ≡ does every_statement_code (ins j m to rows) (T.store x v) ss)
    → Stores sample_block every_statement_code rows x m from to
at_store j h e = record { instr = j; stands = h; does = e }

at_set : {rows : List Handler} {x : Name} {m : Option ActMark} {from to : ℕ} (j : Instr) → Stands rows j m from to
    → ((v a : ℕ) (ss : Slots ℕ) → perform every_statement_code from (ins j m to rows) j (value a ∷ value v ∷ ss) ≡ does every_statement_code (ins j m to rows) (T.set_attribute x a v) ss)
    → Sets sample_block every_statement_code rows x m from to
at_set j h e = record { instr = j; stands = h; does = e }

at_unpack : {rows : List Handler} {n : ℕ} {star : Option ℕ} {m : Option ActMark} {from to : ℕ} (j : Instr) → Stands rows j m from to
    → ((v : ℕ) (ss : Slots ℕ) → perform every_statement_code from (ins j m to rows) j (value v ∷ ss) ≡ asks every_statement_code (ins j m to rows) (T.unpack v n star) ss (λ vs. on to (giving n vs ss)))
    → Unpacks sample_block every_statement_code rows n star m from to
at_unpack j h e = record { instr = j; stands = h; does = e }

at_delete : {rows : List Handler} {x : Variable} {m : Option ActMark} {from to : ℕ} (j : Instr) → Stands rows j m from to
    → ((ss : Slots ℕ) → perform every_statement_code from (ins j m to rows) j ss ≡ does every_statement_code (ins j m to rows) (T.delete x) ss)
    → Deletes sample_block every_statement_code rows x m from to
at_delete j h e = record { instr = j; stands = h; does = e }

at_delete_attribute : {rows : List Handler} {x : Name} {m : Option ActMark} {from to : ℕ} (j : Instr) → Stands rows j m from to
    → ((a : ℕ) (ss : Slots ℕ) → perform every_statement_code from (ins j m to rows) j (value a ∷ ss) ≡ does every_statement_code (ins j m to rows) (T.delete_attribute x a) ss)
    → DeletesAttribute sample_block every_statement_code rows x m from to
at_delete_attribute j h e = record { instr = j; stands = h; does = e }

at_import_name : {rows : List Handler} {x : Name} {m : Option ActMark} {from to : ℕ} (j : Instr) → Stands rows j m from to
    → ((v : ℕ) (ss : Slots ℕ) → perform every_statement_code from (ins j m to rows) j (value v ∷ ss)
    ≡ asks every_statement_code (ins j m to rows) (T.seek (T.operate (T.import_name x) (v ∷ []))) (value v ∷ ss) (λ u. on to (value u ∷ value v ∷ ss)))
    → ImportsName sample_block every_statement_code rows x m from to
at_import_name j h e = record { instr = j; stands = h; does = e }

at_truth : {rows : List Handler} {from to : ℕ} (j : Instr) → Stands rows j None from to
    → ((ss : Slots ℕ) → perform every_statement_code from (ins j None to rows) j ss ≡ move (on to (value 1 ∷ ss)))
    → GivesTruth sample_block every_statement_code rows true from to
at_truth j h e = record { instr = j; stands = h; does = e }

at_lead : {rows : List Handler} {from to : ℕ} (j : Instr) → Stands rows j None from to
    → ((ss : Slots ℕ) → perform every_statement_code from (ins j None to rows) j (value 1 ∷ ss) ≡ move (on to ss))
    → LeadsOn sample_block every_statement_code rows true from to
at_lead j h e = record { instr = j; stands = h; does = e }

at_split : {rows : List Handler} {other from to : ℕ} (j : Instr) → Stands rows j None from to
    → ((ss : Slots ℕ) → perform every_statement_code from (ins j None to rows) j (value 1 ∷ ss) ≡ move (on to ss))
    → ((ss : Slots ℕ) → perform every_statement_code from (ins j None to rows) j (value 2 ∷ ss) ≡ move (on other ss))
    → Splits sample_block every_statement_code rows other from to
at_split {rows} {other} {from} {to} j h t f = record { instr = j; stands = h; does = goes }
  where
    goes : (b : Bool) (ss : Slots ℕ)
        → perform every_statement_code from (ins j None to rows) j (value (every_statement_code.truth b) ∷ ss) ≡ move (on (if b then to else other) ss)
    goes true ss = t ss
    goes false ss = f ss

of_values : {rows : List Handler} {op : Operation} {k : ℕ} {m : Option ActMark} {from to : ℕ} (j : Instr) → Stands rows j m from to
    → ((ss : Slots ℕ) → perform every_statement_code from (ins j m to rows) j ss ≡ operates every_statement_code from (ins j m to rows) op k ss)
    → Operates sample_block every_statement_code rows op above k 0 m from to
of_values {rows} {op} {k} {m} {from} {to} j h e = takes_values sample_block every_statement_code rows op k j m from to h e

of_both : {rows : List Handler} {op : Operation} {k c : ℕ} {m : Option ActMark} {from to : ℕ} (j : Instr) → Stands rows j m from to
    → ((ss : Slots ℕ) → perform every_statement_code from (ins j m to rows) j ss
    ≡ cells c [] ss (λ cs below. values k cs below (λ vs under. gives every_statement_code (ins j m to rows) (T.operate op vs) under)))
    → Operates sample_block every_statement_code rows op above k c m from to
of_both {rows} {op} {k} {c} {m} {from} {to} j h e = takes_both sample_block every_statement_code rows op k c j m from to h e

of_class : {rows : List Handler} {op : Operation} {c : ℕ} {m : Option ActMark} {from to : ℕ} (j : Instr) → Stands rows j m from to
    → ((ss : Slots ℕ) → perform every_statement_code from (ins j m to rows) j ss
    ≡ cells c [] ss (λ cs below. one below (λ v under. gives every_statement_code (ins j m to rows) (T.operate op (v ∷ cs)) under)))
    → Operates sample_block every_statement_code rows op above 1 c m from to
of_class {rows} {op} {c} {m} {from} {to} j h e = takes_base sample_block every_statement_code rows op c j m from to h e

begins_at : {s : Start} (k : ℕ) → k < 38 → get_or every_statement_starts k s ≡ s → Contains every_statement_starts s
begins_at k l e = (k, l, e)

pub stands : Block_at sample_block every_statement_code every_statement_starts every_statement
stands = (
  184,
  186,
  (
    (begins_at 0 (omega arith) refl),
    (
      0,
      (at_once 0),
      (
        11,
        (
          1,
          (at_seek (instr.Local (record { 0 = 0 })) refl (λ ss. refl)),
          (
            2,
            refl,
            (
              4,
              (3, (at_seek (instr.Local (record { 0 = 1 })) refl (λ ss. refl)), (at_set (instr.SetAttr (record { 0 = 0 })) refl (λ v a ss. refl))),
              (
                5,
                refl,
                (
                  10,
                  (
                    6,
                    (at_unpack (instr.UnpackStar 1 0) refl (λ v ss. refl)),
                    (
                      7,
                      (at_store (instr.SetLocal (record { 0 = 2 })) refl (λ v ss. refl)),
                      (
                        10,
                        (
                          8,
                          (at_seek (instr.Local (record { 0 = 3 })) refl (λ ss. refl)),
                          (9, (at_seek (instr.Const (record { 0 = 0 })) refl (λ ss. refl)), refl),
                        ),
                        refl,
                      ),
                    ),
                  ),
                  (at_store (instr.SetLocal (record { 0 = 4 })) refl (λ v ss. refl)),
                ),
              ),
            ),
          ),
        ),
        (
          (begins_at 1 (omega arith) refl),
          (
            11,
            (at_once 11),
            (
              15,
              (
                12,
                (at_seek (instr.Local (record { 0 = 1 })) refl (λ ss. refl)),
                (
                  13,
                  (at_seek (instr.Const (record { 0 = 1 })) refl (λ ss. refl)),
                  (14, refl, (at_store (instr.SetLocal (record { 0 = 1 })) refl (λ v ss. refl))),
                ),
              ),
              (
                (begins_at 2 (omega arith) refl),
                (
                  15,
                  (at_once 15),
                  (
                    22,
                    (
                      16,
                      (at_seek (instr.Local (record { 0 = 1 })) refl (λ ss. refl)),
                      (
                        17,
                        refl,
                        (
                          18,
                          (of_values (instr.Attr (record { 0 = 0 })) refl (λ ss. refl)),
                          (
                            19,
                            (at_seek (instr.Local (record { 0 = 2 })) refl (λ ss. refl)),
                            (20, refl, (21, refl, (at_set (instr.SetAttr (record { 0 = 0 })) refl (λ v a ss. refl)))),
                          ),
                        ),
                      ),
                    ),
                    (
                      (begins_at 3 (omega arith) refl),
                      (
                        22,
                        (at_once 22),
                        (
                          30,
                          (
                            23,
                            (at_seek (instr.Local (record { 0 = 1 })) refl (λ ss. refl)),
                            (
                              24,
                              (at_seek (instr.Local (record { 0 = 2 })) refl (λ ss. refl)),
                              (
                                25,
                                refl,
                                (
                                  26,
                                  (of_values instr.Item refl (λ ss. refl)),
                                  (27, (at_seek (instr.Local (record { 0 = 3 })) refl (λ ss. refl)), (28, refl, (29, refl, refl))),
                                ),
                              ),
                            ),
                          ),
                          (
                            (begins_at 4 (omega arith) refl),
                            (
                              30,
                              (at_once 30),
                              (
                                31,
                                refl,
                                (
                                  (begins_at 5 (omega arith) refl),
                                  (
                                    31,
                                    (at_once 31),
                                    (
                                      33,
                                      (
                                        32,
                                        (at_seek (instr.Local (record { 0 = 3 })) refl (λ ss. refl)),
                                        (at_store (instr.SetLocal (record { 0 = 2 })) refl (λ v ss. refl)),
                                      ),
                                      (
                                        (begins_at 6 (omega arith) refl),
                                        (
                                          33,
                                          (at_once 33),
                                          (
                                            36,
                                            (34, (at_seek (instr.Local (record { 0 = 1 })) refl (λ ss. refl)), (35, refl, refl)),
                                            (
                                              (begins_at 7 (omega arith) refl),
                                              (
                                                36,
                                                (at_once 36),
                                                (
                                                  40,
                                                  (
                                                    37,
                                                    (at_seek (instr.Local (record { 0 = 1 })) refl (λ ss. refl)),
                                                    (38, refl, (39, (at_seek (instr.Local (record { 0 = 2 })) refl (λ ss. refl)), refl)),
                                                  ),
                                                  (
                                                    (begins_at 8 (omega arith) refl),
                                                    (
                                                      40,
                                                      (at_once 40),
                                                      (
                                                        46,
                                                        (
                                                          41,
                                                          (at_delete (instr.DelLocal (record { 0 = 1 })) refl (λ ss. refl)),
                                                          (
                                                            43,
                                                            (
                                                              42,
                                                              (at_seek (instr.Local (record { 0 = 2 })) refl (λ ss. refl)),
                                                              (at_delete_attribute (instr.DelAttr (record { 0 = 0 })) refl (λ a ss. refl)),
                                                            ),
                                                            (
                                                              46,
                                                              (
                                                                44,
                                                                (at_seek (instr.Local (record { 0 = 3 })) refl (λ ss. refl)),
                                                                (45, (at_seek (instr.Local (record { 0 = 4 })) refl (λ ss. refl)), refl),
                                                              ),
                                                              refl,
                                                            ),
                                                          ),
                                                        ),
                                                        (
                                                          (begins_at 9 (omega arith) refl),
                                                          (
                                                            46,
                                                            (at_once 46),
                                                            (
                                                              50,
                                                              (
                                                                47,
                                                                (of_values (instr.Import (record { 0 = 1 })) refl (λ ss. refl)),
                                                                (
                                                                  48,
                                                                  (at_store (instr.SetLocal (record { 0 = 5 })) refl (λ v ss. refl)),
                                                                  (
                                                                    49,
                                                                    (of_values (instr.Import (record { 0 = 2 })) refl (λ ss. refl)),
                                                                    (50, (at_store (instr.SetLocal (record { 0 = 6 })) refl (λ v ss. refl)), refl),
                                                                  ),
                                                                ),
                                                              ),
                                                              (
                                                                (begins_at 10 (omega arith) refl),
                                                                (
                                                                  50,
                                                                  (at_once 50),
                                                                  (
                                                                    56,
                                                                    (
                                                                      51,
                                                                      (of_values (instr.Import (record { 0 = 1 })) refl (λ ss. refl)),
                                                                      (
                                                                        52,
                                                                        (at_import_name (instr.ImportName (record { 0 = 3 })) refl (λ v ss. refl)),
                                                                        (
                                                                          53,
                                                                          (at_store (instr.SetLocal (record { 0 = 7 })) refl (λ v ss. refl)),
                                                                          (
                                                                            54,
                                                                            (at_import_name (instr.ImportName (record { 0 = 4 })) refl (λ v ss. refl)),
                                                                            (
                                                                              55,
                                                                              (at_store (instr.SetLocal (record { 0 = 8 })) refl (λ v ss. refl)),
                                                                              refl,
                                                                            ),
                                                                          ),
                                                                        ),
                                                                      ),
                                                                    ),
                                                                    (
                                                                      (begins_at 11 (omega arith) refl),
                                                                      (
                                                                        56,
                                                                        (at_once 56),
                                                                        (
                                                                          71,
                                                                          (
                                                                            60,
                                                                            (
                                                                              57,
                                                                              (at_seek (instr.Local (record { 0 = 1 })) refl (λ ss. refl)),
                                                                              (
                                                                                58,
                                                                                refl,
                                                                                (
                                                                                  59,
                                                                                  (
                                                                                    (begins_at 12 (omega arith) refl),
                                                                                    (58, (at_once 58), (59, refl, refl)),
                                                                                  ),
                                                                                  refl,
                                                                                ),
                                                                              ),
                                                                            ),
                                                                            (
                                                                              66,
                                                                              (
                                                                                61,
                                                                                (at_seek (instr.Local (record { 0 = 2 })) refl (λ ss. refl)),
                                                                                (
                                                                                  62,
                                                                                  refl,
                                                                                  (
                                                                                    65,
                                                                                    (
                                                                                      (begins_at 13 (omega arith) refl),
                                                                                      (
                                                                                        64,
                                                                                        (never_left 62 63 64 true (at_truth (instr.Const (record { 0 = 2 })) refl (λ ss. refl)) (at_lead (instr.JumpUnless (record { 0 = 65 })) refl (λ ss. refl))),
                                                                                        (65, refl, refl),
                                                                                      ),
                                                                                    ),
                                                                                    refl,
                                                                                  ),
                                                                                ),
                                                                              ),
                                                                              (
                                                                                (begins_at 14 (omega arith) refl),
                                                                                (
                                                                                  68,
                                                                                  (never_left 66 67 68 true (at_truth (instr.Const (record { 0 = 2 })) refl (λ ss. refl)) (at_lead (instr.JumpUnless (record { 0 = 71 })) refl (λ ss. refl))),
                                                                                  (
                                                                                    71,
                                                                                    (
                                                                                      69,
                                                                                      (at_seek (instr.Local (record { 0 = 1 })) refl (λ ss. refl)),
                                                                                      (
                                                                                        70,
                                                                                        (at_seek (instr.Local (record { 0 = 2 })) refl (λ ss. refl)),
                                                                                        refl,
                                                                                      ),
                                                                                    ),
                                                                                    refl,
                                                                                  ),
                                                                                ),
                                                                              ),
                                                                            ),
                                                                          ),
                                                                          (
                                                                            (begins_at 15 (omega arith) refl),
                                                                            (
                                                                              71,
                                                                              (at_once 71),
                                                                              (
                                                                                88,
                                                                                (
                                                                                  73,
                                                                                  82,
                                                                                  84,
                                                                                  (
                                                                                    72,
                                                                                    (at_seek (instr.Local (record { 0 = 1 })) refl (λ ss. refl)),
                                                                                    refl,
                                                                                  ),
                                                                                  (
                                                                                    tt,
                                                                                    tt,
                                                                                    (
                                                                                      (begins_at 16 (omega arith) refl),
                                                                                      (
                                                                                        73,
                                                                                        (at_once 73),
                                                                                        (
                                                                                          79,
                                                                                          (
                                                                                            79,
                                                                                            (
                                                                                              74,
                                                                                              (at_seek (instr.Local (record { 0 = 2 })) refl (λ ss. refl)),
                                                                                              (
                                                                                                75,
                                                                                                refl,
                                                                                                (
                                                                                                  78,
                                                                                                  (
                                                                                                    (begins_at 17 (omega arith) refl),
                                                                                                    (
                                                                                                      77,
                                                                                                      (never_left 75 76 77 true (at_truth (instr.Const (record { 0 = 2 })) refl (λ ss. refl)) (at_lead (instr.JumpUnless (record { 0 = 78 })) refl (λ ss. refl))),
                                                                                                      (78, (refl, refl), refl),
                                                                                                    ),
                                                                                                  ),
                                                                                                  refl,
                                                                                                ),
                                                                                              ),
                                                                                            ),
                                                                                            refl,
                                                                                          ),
                                                                                          (
                                                                                            (begins_at 18 (omega arith) refl),
                                                                                            (
                                                                                              81,
                                                                                              (never_left 79 80 81 true (at_truth (instr.Const (record { 0 = 2 })) refl (λ ss. refl)) (at_lead (instr.JumpUnless (record { 0 = 82 })) refl (λ ss. refl))),
                                                                                              (82, (refl, refl), refl),
                                                                                            ),
                                                                                          ),
                                                                                        ),
                                                                                      ),
                                                                                    ),
                                                                                    (
                                                                                      83,
                                                                                      (at_seek (instr.Local (record { 0 = 1 })) refl (λ ss. refl)),
                                                                                      refl,
                                                                                    ),
                                                                                    (
                                                                                      (begins_at 19 (omega arith) refl),
                                                                                      (
                                                                                        86,
                                                                                        (never_left 84 85 86 true (at_truth (instr.Const (record { 0 = 2 })) refl (λ ss. refl)) (at_lead (instr.JumpUnless (record { 0 = 88 })) refl (λ ss. refl))),
                                                                                        (
                                                                                          88,
                                                                                          (
                                                                                            87,
                                                                                            (at_seek (instr.Local (record { 0 = 1 })) refl (λ ss. refl)),
                                                                                            refl,
                                                                                          ),
                                                                                          refl,
                                                                                        ),
                                                                                      ),
                                                                                    ),
                                                                                  ),
                                                                                ),
                                                                                (
                                                                                  (begins_at 20 (omega arith) refl),
                                                                                  (
                                                                                    88,
                                                                                    (at_once 88),
                                                                                    (
                                                                                      142,
                                                                                      (
                                                                                        91,
                                                                                        139,
                                                                                        141,
                                                                                        (
                                                                                          89,
                                                                                          (at_seek (instr.Local (record { 0 = 2 })) refl (λ ss. refl)),
                                                                                          (90, refl, refl),
                                                                                        ),
                                                                                        (
                                                                                          tt,
                                                                                          tt,
                                                                                          (
                                                                                            92,
                                                                                            (at_store (instr.SetLocal (record { 0 = 1 })) refl (λ v ss. refl)),
                                                                                            (
                                                                                              (begins_at 21 (omega arith) refl),
                                                                                              (
                                                                                                92,
                                                                                                (at_once 92),
                                                                                                (
                                                                                                  139,
                                                                                                  (
                                                                                                    93,
                                                                                                    refl,
                                                                                                    (
                                                                                                      row_2,
                                                                                                      (record { depth = refl; always = refl; around = (refl, refl) }),
                                                                                                      (
                                                                                                        135,
                                                                                                        (
                                                                                                          135,
                                                                                                          (
                                                                                                            (begins_at 22 (omega arith) refl),
                                                                                                            (
                                                                                                              93,
                                                                                                              (at_once 93),
                                                                                                              (
                                                                                                                135,
                                                                                                                (
                                                                                                                  94,
                                                                                                                  refl,
                                                                                                                  (
                                                                                                                    row_0,
                                                                                                                    99,
                                                                                                                    (record { depth = refl; except = refl }),
                                                                                                                    (
                                                                                                                      97,
                                                                                                                      (
                                                                                                                        (begins_at 23 (omega arith) refl),
                                                                                                                        (
                                                                                                                          96,
                                                                                                                          (never_left 94 95 96 true (at_truth (instr.Const (record { 0 = 2 })) refl (λ ss. refl)) (at_lead (instr.JumpUnless (record { 0 = 97 })) refl (λ ss. refl))),
                                                                                                                          (
                                                                                                                            97,
                                                                                                                            (refl, refl),
                                                                                                                            refl,
                                                                                                                          ),
                                                                                                                        ),
                                                                                                                      ),
                                                                                                                      (
                                                                                                                        98,
                                                                                                                        (
                                                                                                                          (begins_at 24 (omega arith) refl),
                                                                                                                          (
                                                                                                                            97,
                                                                                                                            (at_once 97),
                                                                                                                            (98, refl, refl),
                                                                                                                          ),
                                                                                                                        ),
                                                                                                                        refl,
                                                                                                                      ),
                                                                                                                    ),
                                                                                                                    (
                                                                                                                      114,
                                                                                                                      (
                                                                                                                        100,
                                                                                                                        (at_seek (instr.Local (record { 0 = 2 })) refl (λ ss. refl)),
                                                                                                                        (
                                                                                                                          101,
                                                                                                                          refl,
                                                                                                                          (
                                                                                                                            102,
                                                                                                                            (at_split (instr.JumpUnless (record { 0 = 114 })) refl (λ ss. refl) (λ ss. refl)),
                                                                                                                            (
                                                                                                                              row_1,
                                                                                                                              (record { depth = refl; always = refl; around = (refl, refl) }),
                                                                                                                              (
                                                                                                                                103,
                                                                                                                                refl,
                                                                                                                                (
                                                                                                                                  104,
                                                                                                                                  (at_store (instr.SetLocal (record { 0 = 3 })) refl (λ v ss. refl)),
                                                                                                                                  (
                                                                                                                                    107,
                                                                                                                                    (
                                                                                                                                      (begins_at 25 (omega arith) refl),
                                                                                                                                      (
                                                                                                                                        106,
                                                                                                                                        (never_left 104 105 106 true (at_truth (instr.Const (record { 0 = 2 })) refl (λ ss. refl)) (at_lead (instr.JumpUnless (record { 0 = 107 })) refl (λ ss. refl))),
                                                                                                                                        (
                                                                                                                                          107,
                                                                                                                                          (
                                                                                                                                            refl,
                                                                                                                                            refl,
                                                                                                                                          ),
                                                                                                                                          refl,
                                                                                                                                        ),
                                                                                                                                      ),
                                                                                                                                    ),
                                                                                                                                    refl,
                                                                                                                                  ),
                                                                                                                                ),
                                                                                                                              ),
                                                                                                                              (
                                                                                                                                109,
                                                                                                                                (at_null (instr.Const (record { 0 = 3 })) refl (λ ss. refl)),
                                                                                                                                (
                                                                                                                                  110,
                                                                                                                                  (at_store (instr.SetLocal (record { 0 = 3 })) refl (λ v ss. refl)),
                                                                                                                                  (
                                                                                                                                    111,
                                                                                                                                    (at_delete (instr.DelLocal (record { 0 = 3 })) refl (λ ss. refl)),
                                                                                                                                    (
                                                                                                                                      112,
                                                                                                                                      refl,
                                                                                                                                      (
                                                                                                                                        113,
                                                                                                                                        refl,
                                                                                                                                        refl,
                                                                                                                                      ),
                                                                                                                                    ),
                                                                                                                                  ),
                                                                                                                                ),
                                                                                                                              ),
                                                                                                                            ),
                                                                                                                          ),
                                                                                                                        ),
                                                                                                                      ),
                                                                                                                      (
                                                                                                                        125,
                                                                                                                        (
                                                                                                                          115,
                                                                                                                          (at_seek (instr.Local (record { 0 = 4 })) refl (λ ss. refl)),
                                                                                                                          (
                                                                                                                            116,
                                                                                                                            refl,
                                                                                                                            (
                                                                                                                              117,
                                                                                                                              (at_split (instr.JumpUnless (record { 0 = 125 })) refl (λ ss. refl) (λ ss. refl)),
                                                                                                                              (
                                                                                                                                118,
                                                                                                                                refl,
                                                                                                                                (
                                                                                                                                  119,
                                                                                                                                  refl,
                                                                                                                                  (
                                                                                                                                    123,
                                                                                                                                    (
                                                                                                                                      (begins_at 26 (omega arith) refl),
                                                                                                                                      (
                                                                                                                                        121,
                                                                                                                                        (never_left 119 120 121 true (at_truth (instr.Const (record { 0 = 2 })) refl (λ ss. refl)) (at_lead (instr.JumpUnless (record { 0 = 123 })) refl (λ ss. refl))),
                                                                                                                                        (
                                                                                                                                          123,
                                                                                                                                          (
                                                                                                                                            122,
                                                                                                                                            (at_seek (instr.Local (record { 0 = 1 })) refl (λ ss. refl)),
                                                                                                                                            refl,
                                                                                                                                          ),
                                                                                                                                          refl,
                                                                                                                                        ),
                                                                                                                                      ),
                                                                                                                                    ),
                                                                                                                                    (
                                                                                                                                      124,
                                                                                                                                      refl,
                                                                                                                                      refl,
                                                                                                                                    ),
                                                                                                                                  ),
                                                                                                                                ),
                                                                                                                              ),
                                                                                                                            ),
                                                                                                                          ),
                                                                                                                        ),
                                                                                                                        (
                                                                                                                          134,
                                                                                                                          (
                                                                                                                            126,
                                                                                                                            (at_null (instr.Const (record { 0 = 3 })) refl (λ ss. refl)),
                                                                                                                            (
                                                                                                                              127,
                                                                                                                              refl,
                                                                                                                              (
                                                                                                                                128,
                                                                                                                                (at_split (instr.JumpUnless (record { 0 = 134 })) refl (λ ss. refl) (λ ss. refl)),
                                                                                                                                (
                                                                                                                                  129,
                                                                                                                                  refl,
                                                                                                                                  (
                                                                                                                                    130,
                                                                                                                                    refl,
                                                                                                                                    (
                                                                                                                                      132,
                                                                                                                                      (
                                                                                                                                        (begins_at 27 (omega arith) refl),
                                                                                                                                        (
                                                                                                                                          130,
                                                                                                                                          (at_once 130),
                                                                                                                                          (
                                                                                                                                            132,
                                                                                                                                            (
                                                                                                                                              131,
                                                                                                                                              (at_seek (instr.Local (record { 0 = 1 })) refl (λ ss. refl)),
                                                                                                                                              refl,
                                                                                                                                            ),
                                                                                                                                            refl,
                                                                                                                                          ),
                                                                                                                                        ),
                                                                                                                                      ),
                                                                                                                                      (
                                                                                                                                        133,
                                                                                                                                        refl,
                                                                                                                                        refl,
                                                                                                                                      ),
                                                                                                                                    ),
                                                                                                                                  ),
                                                                                                                                ),
                                                                                                                              ),
                                                                                                                            ),
                                                                                                                          ),
                                                                                                                          (135, refl),
                                                                                                                        ),
                                                                                                                      ),
                                                                                                                    ),
                                                                                                                  ),
                                                                                                                ),
                                                                                                                refl,
                                                                                                              ),
                                                                                                            ),
                                                                                                          ),
                                                                                                          refl,
                                                                                                        ),
                                                                                                        refl,
                                                                                                      ),
                                                                                                      (
                                                                                                        138,
                                                                                                        (
                                                                                                          (begins_at 28 (omega arith) refl),
                                                                                                          (
                                                                                                            136,
                                                                                                            (at_once 136),
                                                                                                            (
                                                                                                              138,
                                                                                                              (
                                                                                                                137,
                                                                                                                (at_seek (instr.Local (record { 0 = 1 })) refl (λ ss. refl)),
                                                                                                                refl,
                                                                                                              ),
                                                                                                              refl,
                                                                                                            ),
                                                                                                          ),
                                                                                                        ),
                                                                                                        refl,
                                                                                                      ),
                                                                                                    ),
                                                                                                  ),
                                                                                                  refl,
                                                                                                ),
                                                                                              ),
                                                                                            ),
                                                                                          ),
                                                                                          (140, refl, refl),
                                                                                          (
                                                                                            (begins_at 29 (omega arith) refl),
                                                                                            (141, (at_once 141), (142, refl, refl)),
                                                                                          ),
                                                                                        ),
                                                                                      ),
                                                                                      (
                                                                                        (begins_at 30 (omega arith) refl),
                                                                                        (
                                                                                          142,
                                                                                          (at_once 142),
                                                                                          (
                                                                                            165,
                                                                                            (
                                                                                              row_5,
                                                                                              (record { depth = refl; always = refl; around = tt }),
                                                                                              (
                                                                                                143,
                                                                                                (at_seek (instr.Local (record { 0 = 1 })) refl (λ ss. refl)),
                                                                                                (
                                                                                                  144,
                                                                                                  refl,
                                                                                                  (
                                                                                                    147,
                                                                                                    (
                                                                                                      145,
                                                                                                      (at_unpack (instr.Unpack 2) refl (λ v ss. refl)),
                                                                                                      (
                                                                                                        146,
                                                                                                        (at_store (instr.SetLocal (record { 0 = 2 })) refl (λ v ss. refl)),
                                                                                                        (
                                                                                                          147,
                                                                                                          (at_store (instr.SetLocal (record { 0 = 3 })) refl (λ v ss. refl)),
                                                                                                          refl,
                                                                                                        ),
                                                                                                      ),
                                                                                                    ),
                                                                                                    (
                                                                                                      162,
                                                                                                      (
                                                                                                        row_4,
                                                                                                        (record { depth = refl; always = refl; around = tt }),
                                                                                                        (
                                                                                                          148,
                                                                                                          (at_seek (instr.Local (record { 0 = 4 })) refl (λ ss. refl)),
                                                                                                          (
                                                                                                            149,
                                                                                                            refl,
                                                                                                            (
                                                                                                              150,
                                                                                                              refl,
                                                                                                              (
                                                                                                                159,
                                                                                                                (
                                                                                                                  (begins_at 31 (omega arith) refl),
                                                                                                                  (
                                                                                                                    150,
                                                                                                                    (at_once 150),
                                                                                                                    (
                                                                                                                      159,
                                                                                                                      (
                                                                                                                        151,
                                                                                                                        refl,
                                                                                                                        (
                                                                                                                          row_3,
                                                                                                                          (record { depth = refl; always = refl; around = tt }),
                                                                                                                          (
                                                                                                                            153,
                                                                                                                            (
                                                                                                                              153,
                                                                                                                              (
                                                                                                                                (begins_at 32 (omega arith) refl),
                                                                                                                                (
                                                                                                                                  151,
                                                                                                                                  (at_once 151),
                                                                                                                                  (
                                                                                                                                    153,
                                                                                                                                    (
                                                                                                                                      152,
                                                                                                                                      (at_seek (instr.Local (record { 0 = 1 })) refl (λ ss. refl)),
                                                                                                                                      refl,
                                                                                                                                    ),
                                                                                                                                    refl,
                                                                                                                                  ),
                                                                                                                                ),
                                                                                                                              ),
                                                                                                                              refl,
                                                                                                                            ),
                                                                                                                            refl,
                                                                                                                          ),
                                                                                                                          (
                                                                                                                            158,
                                                                                                                            (
                                                                                                                              (begins_at 33 (omega arith) refl),
                                                                                                                              (
                                                                                                                                156,
                                                                                                                                (never_left 154 155 156 true (at_truth (instr.Const (record { 0 = 2 })) refl (λ ss. refl)) (at_lead (instr.JumpUnless (record { 0 = 158 })) refl (λ ss. refl))),
                                                                                                                                (
                                                                                                                                  158,
                                                                                                                                  (
                                                                                                                                    157,
                                                                                                                                    (at_null (instr.Const (record { 0 = 3 })) refl (λ ss. refl)),
                                                                                                                                    refl,
                                                                                                                                  ),
                                                                                                                                  refl,
                                                                                                                                ),
                                                                                                                              ),
                                                                                                                            ),
                                                                                                                            refl,
                                                                                                                          ),
                                                                                                                        ),
                                                                                                                      ),
                                                                                                                      refl,
                                                                                                                    ),
                                                                                                                  ),
                                                                                                                ),
                                                                                                                refl,
                                                                                                              ),
                                                                                                            ),
                                                                                                          ),
                                                                                                        ),
                                                                                                        (161, refl, refl),
                                                                                                      ),
                                                                                                      refl,
                                                                                                    ),
                                                                                                  ),
                                                                                                ),
                                                                                              ),
                                                                                              (164, refl, refl),
                                                                                            ),
                                                                                            (
                                                                                              (begins_at 34 (omega arith) refl),
                                                                                              (
                                                                                                165,
                                                                                                (at_once 165),
                                                                                                (
                                                                                                  173,
                                                                                                  (
                                                                                                    166,
                                                                                                    (at_seek (instr.Local (record { 0 = 1 })) refl (λ ss. refl)),
                                                                                                    (
                                                                                                      167,
                                                                                                      (at_seek (instr.Local (record { 0 = 2 })) refl (λ ss. refl)),
                                                                                                      (
                                                                                                        170,
                                                                                                        (
                                                                                                          168,
                                                                                                          (at_seek (instr.Local (record { 0 = 3 })) refl (λ ss. refl)),
                                                                                                          (
                                                                                                            169,
                                                                                                            (at_cell (instr.PushCell (record { 0 = 0 })) refl (λ ss. refl)),
                                                                                                            (of_both (instr.MakeFunction (record { 0 = 1 }) 1 (record { 0 = 0 })) refl (λ ss. refl)),
                                                                                                          ),
                                                                                                        ),
                                                                                                        (
                                                                                                          171,
                                                                                                          (of_values (instr.Call 1) refl (λ ss. refl)),
                                                                                                          (
                                                                                                            172,
                                                                                                            (of_values (instr.Call 1) refl (λ ss. refl)),
                                                                                                            (at_store (instr.SetLocal (record { 0 = 9 })) refl (λ v ss. refl)),
                                                                                                          ),
                                                                                                        ),
                                                                                                      ),
                                                                                                    ),
                                                                                                  ),
                                                                                                  (
                                                                                                    (begins_at 35 (omega arith) refl),
                                                                                                    (
                                                                                                      173,
                                                                                                      (at_once 173),
                                                                                                      (
                                                                                                        177,
                                                                                                        (
                                                                                                          174,
                                                                                                          (at_null (instr.Const (record { 0 = 3 })) refl (λ ss. refl)),
                                                                                                          (
                                                                                                            176,
                                                                                                            (
                                                                                                              175,
                                                                                                              (at_cell (instr.PushCell (record { 0 = 0 })) refl (λ ss. refl)),
                                                                                                              (of_class (instr.MakeClass (record { 0 = 2 })) refl (λ ss. refl)),
                                                                                                            ),
                                                                                                            (at_store (instr.SetLocal (record { 0 = 10 })) refl (λ v ss. refl)),
                                                                                                          ),
                                                                                                        ),
                                                                                                        (
                                                                                                          (begins_at 36 (omega arith) refl),
                                                                                                          (
                                                                                                            177,
                                                                                                            (at_once 177),
                                                                                                            (
                                                                                                              183,
                                                                                                              (
                                                                                                                178,
                                                                                                                (at_seek (instr.Local (record { 0 = 1 })) refl (λ ss. refl)),
                                                                                                                (
                                                                                                                  179,
                                                                                                                  (at_seek (instr.Local (record { 0 = 2 })) refl (λ ss. refl)),
                                                                                                                  (
                                                                                                                    181,
                                                                                                                    (
                                                                                                                      180,
                                                                                                                      (at_cell (instr.PushCell (record { 0 = 0 })) refl (λ ss. refl)),
                                                                                                                      (of_class (instr.MakeClass (record { 0 = 3 })) refl (λ ss. refl)),
                                                                                                                    ),
                                                                                                                    (
                                                                                                                      182,
                                                                                                                      (of_values (instr.Call 1) refl (λ ss. refl)),
                                                                                                                      (at_store (instr.SetLocal (record { 0 = 11 })) refl (λ v ss. refl)),
                                                                                                                    ),
                                                                                                                  ),
                                                                                                                ),
                                                                                                              ),
                                                                                                              ((begins_at 37 (omega arith) refl), (184, (behind_nop 183 184 refl), (184, refl, refl))),
                                                                                                            ),
                                                                                                          ),
                                                                                                        ),
                                                                                                      ),
                                                                                                    ),
                                                                                                  ),
                                                                                                ),
                                                                                              ),
                                                                                            ),
                                                                                          ),
                                                                                        ),
                                                                                      ),
                                                                                    ),
                                                                                  ),
                                                                                ),
                                                                              ),
                                                                            ),
                                                                          ),
                                                                        ),
                                                                      ),
                                                                    ),
                                                                  ),
                                                                ),
                                                              ),
                                                            ),
                                                          ),
                                                        ),
                                                      ),
                                                    ),
                                                  ),
                                                ),
                                              ),
                                            ),
                                          ),
                                        ),
                                      ),
                                    ),
                                  ),
                                ),
                              ),
                            ),
                          ),
                        ),
                      ),
                    ),
                  ),
                ),
              ),
            ),
          ),
        ),
      ),
    ),
  ),
  (185, (at_null (instr.Const (record { 0 = 3 })) refl (λ ss. refl)), refl),
)
