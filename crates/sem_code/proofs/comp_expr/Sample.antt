-- The code of the sample stands where the relation says.
use Rattle.std.proofs.Common.{◌≡◌, ℕ, [], ◌∷◌, Option, None, false, refl}
use Rattle.pt_base.specs.declared.operators.BinOp.TheVariants as binary
use Rattle.pt_base.specs.declared.operators.UnOp.TheVariants as unary
use Rattle.pt_ranges.specs.declared.lines.ActMark.{ActMark}
use Rattle.pt_tree.specs.Syntax.{Name}
use Rattle.pt_instr.specs.declared.Conversion.TheVariants as formatting
use Rattle.pt_instr.specs.declared.Instr.{Instr}
use Rattle.pt_instr.specs.declared.Instr.TheVariants as instr
use Rattle.sem_control.specs.control.Turn as T
use Rattle.sem_control.specs.control.Turn.{Variable, Operation, Seek, move}
use Rattle.sem_code.specs.slots.Slots.{Slots, value, cell, on}
use Rattle.sem_code.specs.slots.Pops.{values, cells, an_iterator, giving}
use Rattle.sem_code.specs.slots.Steps.{asks, gives, does}
use Rattle.sem_code.specs.slots.Instructions.{perform, operates}
use Rattle.sem_code.specs.comp_expr.Places.{above, iterators_above, ins, Ins_at, Seeks, Null_at, Cell_at, Stores, Sets, Renews, Unpacks, Operates, Exp_at}
use Rattle.sem_code.specs.comp_expr.Samples.{sample_block, every_form, every_form_code}
use Rattle.sem_code.proofs.comp_expr.Operations.{takes_values, takes_both, takes_iterator}

-- an instruction of the sample stands, and does what it is to do
at_seek : {s : Seek ℕ} {m : Option ActMark} {from to : ℕ} (j : Instr) → Ins_at sample_block every_form_code [] j m from to
    → ((ss : Slots ℕ) → perform every_form_code from (ins j m to []) j ss ≡ gives every_form_code (ins j m to []) s ss) → Seeks sample_block every_form_code [] s m from to
at_seek j h e = record { instr = j; stands = h; does = e }

at_null : {from to : ℕ} (j : Instr) → Ins_at sample_block every_form_code [] j None from to
    → ((ss : Slots ℕ) → perform every_form_code from (ins j None to []) j ss ≡ move (on to (value 0 ∷ ss))) → Null_at sample_block every_form_code [] from to
at_null j h e = record { instr = j; stands = h; does = e }

at_cell : {x : Variable} {from to : ℕ} (j : Instr) → Ins_at sample_block every_form_code [] j None from to
    → ((ss : Slots ℕ) → perform every_form_code from (ins j None to []) j ss ≡ asks every_form_code (ins j None to []) (T.seek (T.cell_of x)) ss (λ v. on to (cell v ∷ ss))) → Cell_at sample_block every_form_code [] x from to
at_cell j h e = record { instr = j; stands = h; does = e }

at_renew : {x : Variable} {from to : ℕ} (j : Instr) → Ins_at sample_block every_form_code [] j None from to
    → ((ss : Slots ℕ) → perform every_form_code from (ins j None to []) j ss ≡ does every_form_code (ins j None to []) (T.fresh x) ss) → Renews sample_block every_form_code [] x from to
at_renew j h e = record { instr = j; stands = h; does = e }

at_store : {x : Variable} {m : Option ActMark} {from to : ℕ} (j : Instr) → Ins_at sample_block every_form_code [] j m from to
    → ((v : ℕ) (ss : Slots ℕ) → perform every_form_code from (ins j m to []) j (value v ∷ ss) ≡ does every_form_code (ins j m to []) (T.store x v) ss) → Stores sample_block every_form_code [] x m from to
at_store j h e = record { instr = j; stands = h; does = e }

at_set : {x : Name} {m : Option ActMark} {from to : ℕ} (j : Instr) → Ins_at sample_block every_form_code [] j m from to
    → ((v a : ℕ) (ss : Slots ℕ) → perform every_form_code from (ins j m to []) j (value a ∷ value v ∷ ss) ≡ does every_form_code (ins j m to []) (T.set_attribute x a v) ss) → Sets sample_block every_form_code [] x m from to
at_set j h e = record { instr = j; stands = h; does = e }

at_unpack : {n : ℕ} {star : Option ℕ} {m : Option ActMark} {from to : ℕ} (j : Instr) → Ins_at sample_block every_form_code [] j m from to
    → ((v : ℕ) (ss : Slots ℕ) → perform every_form_code from (ins j m to []) j (value v ∷ ss) ≡ asks every_form_code (ins j m to []) (T.unpack v n star) ss (λ vs. on to (giving n vs ss))) → Unpacks sample_block every_form_code [] n star m from to
at_unpack j h e = record { instr = j; stands = h; does = e }

of_values : {op : Operation} {k : ℕ} {m : Option ActMark} {from to : ℕ} (j : Instr) → Ins_at sample_block every_form_code [] j m from to
    → ((ss : Slots ℕ) → perform every_form_code from (ins j m to []) j ss ≡ operates every_form_code from (ins j m to []) op k ss)
    → Operates sample_block every_form_code [] op above k 0 m from to
of_values {op} {k} {m} {from} {to} j h e = takes_values sample_block every_form_code [] op k j m from to h e

of_both : {op : Operation} {k c : ℕ} {m : Option ActMark} {from to : ℕ} (j : Instr) → Ins_at sample_block every_form_code [] j m from to
    → ((ss : Slots ℕ) → perform every_form_code from (ins j m to []) j ss
    ≡ cells c [] ss (λ cs below. values k cs below (λ vs under. gives every_form_code (ins j m to []) (T.operate op vs) under)))
    → Operates sample_block every_form_code [] op above k c m from to
of_both {op} {k} {c} {m} {from} {to} j h e = takes_both sample_block every_form_code [] op k c j m from to h e

of_iterator : {op : Operation} {c : ℕ} {m : Option ActMark} {from to : ℕ} (j : Instr) → Ins_at sample_block every_form_code [] j m from to
    → ((ss : Slots ℕ) → perform every_form_code from (ins j m to []) j ss
    ≡ cells c [] ss (λ cs below. an_iterator below (λ it under. gives every_form_code (ins j m to []) (T.operate op (it ∷ cs)) under)))
    → Operates sample_block every_form_code [] op iterators_above 1 c m from to
of_iterator {op} {c} {m} {from} {to} j h e = takes_iterator sample_block every_form_code [] op c j m from to h e

pub stands : Exp_at sample_block every_form_code [] every_form 0 false [] 0 131
stands = (
  22,
  (
    17,
    (
      11,
      (
        1,
        (at_seek (instr.Local (record { 0 = 0 })) refl (λ ss. refl)),
        (
          2,
          (at_seek (instr.Local (record { 0 = 1 })) refl (λ ss. refl)),
          (
            9,
            (3, refl, (4, refl, (5, refl, (6, refl, (7, (at_seek (instr.Local (record { 0 = 2 })) refl (λ ss. refl)), (8, refl, refl)))))),
            (
              10,
              refl,
              refl,
            ),
          ),
        ),
      ),
      (
        12,
        refl,
        (
          16,
          (
            13,
            (at_seek (instr.Local (record { 0 = 3 })) refl (λ ss. refl)),
            (
              14,
              refl,
              (
                16,
                (
                  15,
                  (at_seek (instr.Local (record {
                    0 = 4;
                  })) refl (λ ss. refl)),
                  (of_values instr.Not refl (λ ss. refl)),
                ),
                refl,
              ),
            ),
          ),
          refl,
        ),
      ),
    ),
    (
      18,
      (at_seek (instr.Local (record { 0 = 3 })) refl (λ
          ss. refl)),
      (
        19,
        refl,
        (
          20,
          (at_seek (instr.Const (record { 0 = 0 })) refl (λ ss. refl)),
          (
            21,
            refl,
            (
              22,
              (at_seek (instr.Local (record {
                0 = 4;
              })) refl (λ ss. refl)),
              refl,
            ),
          ),
        ),
      ),
    ),
  ),
  (
    31,
    (
      23,
      (at_seek (instr.Local (record { 0 = 5 })) refl (λ ss. refl)),
      (
        24,
        (at_seek (instr.Const (record {
          0
              = 1;
        })) refl (λ ss. refl)),
        (
          25,
          (at_seek (instr.Local (record { 0 = 6 })) refl (λ ss. refl)),
          (
            26,
            (of_values instr.Spread refl (λ ss. refl)),
            (
              28,
              (27, (at_seek (instr.Local (record { 0 = 7 })) refl (λ ss. refl)), (of_values (instr.Unary unary.Minus) refl (λ ss. refl))),
              (
                29,
                (at_seek
                    (instr.Local (record { 0 = 8 })) refl (λ ss. refl)),
                (
                  30,
                  (of_values instr.SpreadMap refl (λ ss. refl)),
                  (of_values (instr.CallSpread 4 (record {
                    0 = 0;
                  })) refl (λ ss. refl)),
                ),
              ),
            ),
          ),
        ),
      ),
    ),
    (
      38,
      (
        33,
        (
          32,
          (at_seek (instr.Local (record { 0 = 0 })) refl (λ ss. refl)),
          (of_values (instr.Attr (record {
            0 = 0;
          })) refl (λ ss. refl)),
        ),
        (
          36,
          (
            34,
            (at_seek (instr.Const (record { 0 = 1 })) refl (λ ss. refl)),
            (
              35,
              (at_seek (instr.Local (record {
                0 = 1;
              })) refl (λ ss. refl)),
              (of_values (instr.Binary binary.Add) refl (λ ss. refl)),
            ),
          ),
          (
            37,
            (of_values (instr.List 0) refl (λ ss. refl)),
            (of_values
                (instr.CallKw 2 (record { 0 = 1 })) refl (λ ss. refl)),
          ),
        ),
      ),
      (
        44,
        (
          39,
          (at_seek (instr.Local (record { 0 = 0 })) refl (λ ss. refl)),
          (
            43,
            (
              40,
              (at_seek (instr.Const (record { 0 = 1 })) refl (λ ss. refl)),
              (
                41,
                (at_null (instr.Const (record { 0 = 2 })) refl (λ ss. refl)),
                (
                  42,
                  (at_seek
                      (instr.Local (record { 0 = 2 })) refl (λ ss. refl)),
                  (of_values instr.Slice refl (λ ss. refl)),
                ),
              ),
            ),
            (of_values instr.Item refl (λ ss. refl)),
          ),
        ),
        (
          50,
          (
            45,
            (at_seek (instr.Local (record { 0 = 0 })) refl (λ ss. refl)),
            (
              49,
              (
                46,
                (at_null (instr.Const (record { 0 = 2 })) refl (λ ss. refl)),
                (
                  47,
                  (at_seek (instr.Local (record { 0 = 2 })) refl (λ ss. refl)),
                  (
                    48,
                    (at_null (instr.Const (record { 0 = 2 })) refl (λ ss. refl)),
                    (of_values
                        instr.Slice refl (λ ss. refl)),
                  ),
                ),
              ),
              (of_values instr.Item refl (λ ss. refl)),
            ),
          ),
          (
            62,
            (
              51,
              (at_seek (instr.Const (record { 0 = 3 })) refl (λ ss.
                  refl)),
              (
                52,
                (at_seek (instr.Local (record { 0 = 9 })) refl (λ ss. refl)),
                (
                  58,
                  (
                    53,
                    (at_seek (instr.Const (record { 0 = 4 })) refl (λ ss. refl)),
                    (
                      57,
                      (
                        54,
                        (at_seek (instr.Local (record { 0 = 10 })) refl (λ ss. refl)),
                        (
                          56,
                          (
                            55,
                            (at_null (instr.Const (record { 0 = 2 })) refl (λ ss. refl)),
                            (of_values (instr.Format formatting.Plain) refl (λ ss. refl)),
                          ),
                          (of_values (instr.Join 2) refl (λ ss. refl)),
                        ),
                      ),
                      (of_values (instr.Format
                          formatting.Repr) refl (λ ss. refl)),
                    ),
                  ),
                  (
                    59,
                    (at_seek (instr.Local (record { 0 = 11 })) refl (λ ss. refl)),
                    (
                      61,
                      (
                        60,
                        (at_seek (instr.Const (record
                            { 0 = 5 })) refl (λ ss. refl)),
                        (of_values (instr.Format formatting.Plain) refl (λ ss. refl)),
                      ),
                      (of_values (instr.Join 3) refl (λ ss. refl)),
                    ),
                  ),
                ),
              ),
            ),
            (
              66,
              (
                63,
                (at_seek (instr.Const (record { 0 = 1 })) refl (λ ss. refl)),
                (
                  64,
                  (at_seek (instr.Local (record { 0 = 12 })) refl (λ ss. refl)),
                  (
                    65,
                    (at_cell (instr.PushCell (record { 0 = 0 })) refl (λ ss. refl)),
                    (of_both (instr.MakeFunction (record { 0 = 1 }) 2 (record { 0 = 2 })) refl (λ ss.
                        refl)),
                  ),
                ),
              ),
              (
                70,
                (
                  67,
                  (at_seek (instr.Local (record { 0 = 13 })) refl (λ ss. refl)),
                  (
                    68,
                    refl,
                    (
                      69,
                      (at_cell (instr.PushCell (record { 0 = 0 }))
                          refl (λ ss. refl)),
                      (of_iterator (instr.MakeGenerator (record { 0 = 2 })) refl (λ ss. refl)),
                    ),
                  ),
                ),
                (
                  75,
                  (
                    71,
                    (at_seek (instr.Const (record {
                      0 = 6;
                    })) refl (λ ss. refl)),
                    (
                      74,
                      (
                        73,
                        (72, (at_seek (instr.Const (record { 0 = 1 })) refl (λ ss. refl)), (of_values (instr.Set 1) refl (λ ss. refl))),
                        refl,
                      ),
                      (of_values (instr.Dict 1) refl (λ ss. refl)),
                    ),
                  ),
                  (
                    77,
                    (76, (at_null (instr.Const (record { 0 = 2 })) refl (λ ss. refl)), refl),
                    (
                      89,
                      (
                        82,
                        89,
                        (
                          78,
                          (at_seek (instr.Local (record { 0 = 13 })) refl (λ ss. refl)),
                          (
                            79,
                            refl,
                            (
                              80,
                              (of_values (instr.List 0) refl (λ ss. refl)),
                              (
                                81,
                                refl,
                                (82, (at_renew (instr.FreshLocal (record { 0 = 9 })) refl (λ ss. refl)), refl),
                              ),
                            ),
                          ),
                        ),
                        (
                          83,
                          refl,
                          (
                            84,
                            (at_store (instr.SetLocal (record { 0 = 9 }))
                                refl (λ v ss. refl)),
                            (
                              85,
                              (at_seek (instr.Local (record { 0 = 9 })) refl (λ ss. refl)),
                              (
                                86,
                                refl,
                                (
                                  87,
                                  (at_seek (instr.Local (record { 0 = 9 }))
                                      refl (λ ss. refl)),
                                  (88, refl, refl),
                                ),
                              ),
                            ),
                          ),
                        ),
                      ),
                      (
                        114,
                        (
                          95,
                          114,
                          (
                            90,
                            (at_seek (instr.Local (record { 0 = 13 })) refl (λ ss. refl)),
                            (
                              91,
                              refl,
                              (
                                92,
                                (of_values (instr.Dict 0) refl (λ ss. refl)),
                                (
                                  93,
                                  refl,
                                  (
                                    94,
                                    (at_renew (instr.FreshLocal (record { 0 = 14 })) refl (λ ss. refl)),
                                    (
                                      95,
                                      (at_renew
                                          (instr.FreshLocal (record { 0 = 15 })) refl (λ ss. refl)),
                                      refl,
                                    ),
                                  ),
                                ),
                              ),
                            ),
                          ),
                          (
                            96,
                            refl,
                            (
                              99,
                              (
                                97,
                                (at_unpack (instr.UnpackStar 1 0) refl (λ v ss.
                                    refl)),
                                (
                                  98,
                                  (at_store (instr.SetLocal (record { 0 = 14 })) refl (λ v ss. refl)),
                                  (
                                    99,
                                    (at_store (instr.SetLocal (record { 0 = 15 })) refl (λ v
                                        ss. refl)),
                                    refl,
                                  ),
                                ),
                              ),
                              (
                                101,
                                (100, (at_seek (instr.Local (record { 0 = 16 })) refl (λ ss. refl)), refl),
                                (
                                  102,
                                  refl,
                                  (
                                    104,
                                    (
                                      103,
                                      (at_seek
                                          (instr.Local (record { 0 = 0 })) refl (λ ss. refl)),
                                      (at_set (instr.SetAttr (record { 0 = 0 })) refl (λ v a ss. refl)),
                                    ),
                                    (
                                      106,
                                      (
                                        105,
                                        (at_seek
                                            (instr.Local (record { 0 = 10 })) refl (λ ss. refl)),
                                        refl,
                                      ),
                                      (
                                        107,
                                        refl,
                                        (
                                          110,
                                          (
                                            108,
                                            (at_seek (instr.Local (record { 0 = 1 })) refl (λ ss. refl)),
                                            (109, (at_seek (instr.Const (record { 0 = 7 })) refl (λ ss. refl)), refl),
                                          ),
                                          (
                                            111,
                                            (at_seek (instr.Local (record { 0 = 14 })) refl (λ ss. refl)),
                                            (112, (at_seek (instr.Local (record { 0 = 15 })) refl (λ ss. refl)), (113, refl, refl)),
                                          ),
                                        ),
                                      ),
                                    ),
                                  ),
                                ),
                              ),
                            ),
                          ),
                        ),
                        (
                          125,
                          (
                            119,
                            125,
                            (
                              115,
                              (at_seek (instr.Local
                                  (record { 0 = 13 })) refl (λ ss. refl)),
                              (
                                116,
                                refl,
                                (
                                  117,
                                  (of_values (instr.Set 0) refl (λ ss. refl)),
                                  (
                                    118,
                                    refl,
                                    (
                                      119,
                                      (at_renew
                                          (instr.FreshLocal (record { 0 = 9 })) refl (λ ss. refl)),
                                      refl,
                                    ),
                                  ),
                                ),
                              ),
                            ),
                            (
                              120,
                              refl,
                              (
                                122,
                                (
                                  121,
                                  (at_unpack (instr.Unpack 1) refl (λ v ss. refl)),
                                  (122, (at_store (instr.SetLocal (record { 0 = 9 })) refl (λ v ss. refl)), refl),
                                ),
                                (
                                  123,
                                  (at_seek (instr.Local (record { 0 = 9 })) refl (λ ss.
                                      refl)),
                                  (124, refl, refl),
                                ),
                              ),
                            ),
                          ),
                          (
                            129,
                            (
                              126,
                              (at_seek (instr.Local (record { 0 = 16 })) refl (λ ss. refl)),
                              (
                                127,
                                refl,
                                (
                                  128,
                                  (at_null (instr.Const
                                      (record { 0 = 2 })) refl (λ ss. refl)),
                                  refl,
                                ),
                              ),
                            ),
                            (
                              130,
                              (at_seek (instr.Const (record { 0 = 2 })) refl (λ ss. refl)),
                              (of_values (instr.Tuple 15)
                                  refl (λ ss. refl)),
                            ),
                          ),
                        ),
                      ),
                    ),
                  ),
                ),
              ),
            ),
          ),
        ),
      ),
    ),
  ),
)
