use Rattle.std.specs.Prelude.{◌⊎◌, ◌≡◌, ℕ, ◌<◌, true, false, List, [], ◌∷◌, slice_get, pos, Option, Some, None}
use Rattle.std.proofs.Common.{refl, sym, ap, subst, arith, inl, inr, ⊎_elim}
use Rattle.zl_value.specs.Fraction.{whole}
use Rattle.zl_value.specs.declared.value.Value.{Value}
use Rattle.zl_value.specs.declared.value.Value.TheVariants.{F}
use Rattle.zl_value.specs.declared.value.Ty.TheVariants.{Float}
use Rattle.zl_value.specs.declared.op.Op.{Op}
use Rattle.zl_value.specs.declared.op.Op.TheVariants.{Not, Or, EqFloat, MulFloat, SubFloat}
use Rattle.zl_meaning.specs.Uses.{PartOf, BranchOf, DefinerOf, SlopeOf, StartOf, uses_of}
use Rattle.zl_meaning.specs.Worked.{at, place, occ}
use Rattle.zl_meaning.specs.declared.occurrence.Occ.{Occ}
use Rattle.zl_meaning.specs.declared.occurrence.Form.TheVariants.{Last, Op as Apply}
use Rattle.zl_meaning.specs.declared.place.PlaceInfo.{PlaceInfo}
use Rattle.zl_meaning.specs.declared.place.DerArm.{DerArm}
use Rattle.zl_meaning.specs.declared.place.Definer.{Definer}
use Rattle.zl_meaning.specs.declared.place.Definer.TheVariants.{Der, Start}
use Rattle.zl_kernel.specs.FlowWires.{is_of_flows}
use Rattle.zl_kernel.specs.declared.wire.Wire.{Wire}
use Rattle.zl_kernel.specs.declared.wire.Def.TheVariants.{Op as OpWire}
use Rattle.zl_kernel.specs.declared.memory.KMem.{KMem}
use Rattle.zl_normal.specs.KernelParts.{IsMemory}
use Rattle.zl_normal.specs.Guards.{Chained, Turned, NoneOf, Free}
use Rattle.zl_normal.specs.FormWires.{IsFormWire, Made, Apart, IsCall}
use Rattle.zl_normal.specs.UseGuards.{IsGuardBy, Unused, Once}
use Rattle.zl_normal.specs.PlaceWires.{IsDefined, definer_of, start_of, IsLast, LitStart, Stays, IsDer}
use Rattle.zl_normal.specs.SlopeWires.{Moves, IsSlope, IsSlopeMade, RightOfDifference, StillLeft, Itself, Either, IsPlaceSlope, IsOwnSlope, Done, StillMemory, StillPlace, Moving}
use Rattle.zl_normal.specs.Normal.{IsOwn, IsNormalAtInstants, IsNormalInFlows}
use Rattle.zl_normal.specs.Worked.Slopes.{form, grades, kernel, wiring, SlopesAreNormal}
use Rattle.zl_normal.proofs.WorkedParts.{some_is, each, wired, flow_wired, remembered, of_op, within}
use Rattle.zl_normal.proofs.worked.slopes_are_normal.Goals as goal

forms : (j : ℕ) (occ : Occ) → slice_get form.occs j ≡ Some occ → IsFormWire form kernel wiring j occ occ.form
unfolding is_of_flows wired
forms =
    each (λ j occ. IsFormWire form kernel wiring j occ occ.form) form.occs (
      ((_, refl), refl),
      (
        wired kernel 3 _ refl refl,
        (
          wired kernel 4 _ refl refl,
          (
            (record { there = (_, refl); guard = refl }, (_, refl), (_, refl), Apart (Chained tt) (Turned 6 (wired kernel 6 _ refl refl)), Made (wired kernel 14 _ refl refl)),
            (
              ((_, refl), refl),
              (
                wired kernel 10 _ refl refl,
                (
                  ((record { there = (_, refl); guard = refl }, (record { there = (_, refl); guard = refl }, tt)), Made (wired kernel 11 _ refl refl) refl refl),
                  (
                    ((_, refl), refl),
                    (
                      wired kernel 12 _ refl refl,
                      (
                        ((record { there = (_, refl); guard = refl }, (record { there = (_, refl); guard = refl }, tt)), Made (wired kernel 13 _ refl refl) refl refl),
                        (
                          ((_, refl), refl),
                          tt,
                        ),
                      ),
                    ),
                  ),
                ),
              ),
            ),
          ),
        ),
      ),
    )

guards : (j : ℕ) (occ : Occ) → slice_get form.occs j ≡ Some occ → IsGuardBy form kernel wiring occ.call (wiring.G j) (uses_of form j)
unfolding is_of_flows
guards =
    each (λ j occ. IsGuardBy form kernel wiring occ.call (wiring.G j) (uses_of form j)) form.occs (
      Unused tt refl,
      (
        Once (SlopeOf None) (tt, refl),
        (
          Once (StartOf None 0) (refl, tt, Chained tt),
          (
            Once (DefinerOf None) (tt, refl),
            (
              Once (PartOf 3) ((_, refl), refl),
              (
                Once (PartOf 6) ((_, refl), refl),
                (
                  Once (BranchOf 3 4 true) (record { there = (_, refl); test = record { there = (_, refl); guard = refl } }, Chained tt),
                  (
                    Once (PartOf 6) ((_, refl), refl),
                    (
                      Once (PartOf 9) ((_, refl), refl),
                      (
                        Once (BranchOf 3 4 false) (record { there = (_, refl); test = record { there = (_, refl); guard = refl } }, Turned 6 (wired kernel 6 _ refl refl)),
                        (
                          Once (PartOf 9) ((_, refl), refl),
                          tt,
                        ),
                      ),
                    ),
                  ),
                ),
              ),
            ),
          ),
        ),
      ),
    )

places : (p : ℕ) (place : PlaceInfo) → slice_get form.places p ≡ Some place → IsCall form place.call × IsDefined form kernel wiring p place (definer_of place.definers)
unfolding is_of_flows
places =
    each (λ p place. IsCall form place.call × IsDefined form kernel wiring p place (definer_of place.definers)) form.places (
      (tt, wired kernel 5 _ refl refl),
      (
        (tt, record { at_step = 8; between = 7; memory = 1; slope = 15; last = LitStart 2 8 2 _ (F (whole (pos 0))) refl refl (wired kernel 8 _ refl refl) (remembered kernel 2 _ refl); reset = Stays 0; wire = wired kernel 9 _ refl refl; kept = wired kernel 7 _ refl refl; moves = remembered kernel 1 _ refl }),
        (
          (tt, ((_, refl), refl, Free refl)),
          tt,
        ),
      ),
    )

faults : (n : ℕ) (wire : Wire) → slice_get kernel.wires n ≡ Some wire → (op : Op) (ns : List ℕ) → is_of_flows kernel n ≡ false → wire.def ≡ OpWire op ns → ((op ≡ Not) ⊎ (op ≡ Or)) ⊎ IsOwn form wiring n wire op
unfolding is_of_flows
faults =
    each (λ n wire. (op : Op) (ns : List ℕ) → is_of_flows kernel n ≡ false → wire.def ≡ OpWire op ns → ((op ≡ Not) ⊎ (op ≡ Or)) ⊎ IsOwn form wiring n wire op) kernel.wires (
      λ op ns k e. absurd cc,
      (
        λ op ns k e. absurd cc,
        (
          λ op ns k e. absurd cc,
          (
            λ op ns k e. absurd cc,
            (
              λ op ns k e. absurd cc,
              (
                λ op ns k e. absurd cc,
                (
                  λ op ns k e. inl (inl (sym (of_op e))),
                  (
                    λ op ns k e. absurd cc,
                    (
                      λ op ns k e. absurd cc,
                      (
                        λ op ns k e. absurd cc,
                        (
                          λ op ns k e. absurd cc,
                          (
                            λ op ns k e. inr (record { occ = _; ks = 5 ∷ 7 ∷ []; is = refl; form = ap (λ o. Apply o (5 ∷ 7 ∷ [])) (of_op e); same = refl }),
                            (
                              λ op ns k e. absurd cc,
                              (
                                λ op ns k e. inr (record { occ = _; ks = 8 ∷ 10 ∷ []; is = refl; form = ap (λ o. Apply o (8 ∷ 10 ∷ [])) (of_op e); same = refl }),
                                (
                                  λ op ns k e. absurd cc,
                                  (
                                    λ op ns k e. absurd cc,
                                    (
                                      λ op ns k e. absurd cc,
                                      (
                                        λ op ns k e. absurd cc,
                                        (
                                          λ op ns k e. absurd cc,
                                          (
                                            λ op ns k e. absurd cc,
                                            (
                                              λ op ns k e. absurd cc,
                                              tt,
                                            ),
                                          ),
                                        ),
                                      ),
                                    ),
                                  ),
                                ),
                              ),
                            ),
                          ),
                        ),
                      ),
                    ),
                  ),
                ),
              ),
            ),
          ),
        ),
      ),
    )

lasts : (j : ℕ) (occ : Occ) → slice_get form.occs j ≡ Some occ → (p : ℕ) → occ.form ≡ Last p → (place : PlaceInfo) × (slice_get form.places p ≡ Some place) × IsLast form kernel wiring p place.call (start_of place.definers) (wiring.L p)
lasts =
    each (λ j occ. (p : ℕ) → occ.form ≡ Last p → (place : PlaceInfo) × (slice_get form.places p ≡ Some place) × IsLast form kernel wiring p place.call (start_of place.definers) (wiring.L p)) form.occs (
      (λ p e. absurd cc),
      (
        (λ p e. absurd cc),
        (
          (λ p e. absurd cc),
          (
            (λ p e. absurd cc),
            (
              (λ p e. absurd cc),
              (
                (λ p e. absurd cc),
                (
                  (λ p e. absurd cc),
                  (
                    (λ p e. absurd cc),
                    (
                      (λ p e. absurd cc),
                      (
                        (λ p e. absurd cc),
                        (
                          (λ p e. absurd cc),
                          tt,
                        ),
                      ),
                    ),
                  ),
                ),
              ),
            ),
          ),
        ),
      ),
    )

instants : IsNormalAtInstants form kernel wiring
unfolding is_of_flows
instants = record {
  step = wired kernel 0 _ refl refl;
  fresh = wired kernel 1 _ refl refl;
  first = (2, wired kernel 2 _ refl refl, remembered kernel 0 _ refl);
  forms = forms;
  guards = guards;
  places = places;
  lasts = λ j p occ is e. lasts j occ is p e;
  faults = λ n wire op ns is kept e. faults n wire is op ns kept e;
  site_count = refl;
  sites = λ n site is. absurd cc;
  again = (tt, NoneOf 2 (wired kernel 2 _ refl refl));
}

-- the slopes of the product and of the difference
abbrev product : Occ
product = occ 0 None Float (at 1 77) (Apply MulFloat (5 ∷ 7 ∷ []))

abbrev difference : Occ
difference = occ 0 None Float (at 1 91) (Apply SubFloat (8 ∷ 10 ∷ []))

product_made : IsSlopeMade form grades kernel wiring 6 product MulFloat (5 ∷ 7 ∷ [])
unfolding is_of_flows flow_wired
product_made = StillLeft 5 7 refl (record { presence = 16; present = record { wire = flow_wired kernel 16 _ refl; alone = refl }; made = record { wire = flow_wired kernel 17 _ refl; ord = refl; at = refl; alone = refl } })

difference_made : IsSlopeMade form grades kernel wiring 9 difference SubFloat (8 ∷ 10 ∷ [])
unfolding is_of_flows flow_wired
difference_made = RightOfDifference 8 10 refl (record { presence = 18; present = record { wire = flow_wired kernel 18 _ refl; alone = refl }; made = record { wire = flow_wired kernel 19 _ refl; ord = refl; at = refl; alone = refl } })

slopes : (j : ℕ) (occ : Occ) → slice_get form.occs j ≡ Some occ → Moves form grades kernel wiring j → IsSlope form grades kernel wiring j occ
unfolding is_of_flows
slopes =
    each (λ j occ. Moves form grades kernel wiring j → IsSlope form grades kernel wiring j occ) form.occs (
      λ m. inr refl,
      (
        λ m. inl (refl, refl),
        (
          λ m. absurd (omega (arith, m)),
          (
            λ m. inr (Either (flow_wired kernel 20 _ refl) refl),
            (
              λ m. inl (refl, refl),
              (
                λ m. inl (refl, refl),
                (
                  λ m. inr (Itself MulFloat (5 ∷ 7 ∷ []) product_made),
                  (
                    λ m. inr refl,
                    (
                      λ m. inl (refl, refl),
                      (
                        λ m. inr (Itself SubFloat (8 ∷ 10 ∷ []) difference_made),
                        (
                          λ m. inr refl,
                          tt,
                        ),
                      ),
                    ),
                  ),
                ),
              ),
            ),
          ),
        ),
      ),
    )

few : (j : ℕ) (occ : Occ) → slice_get form.occs j ≡ Some occ → j < 11
few j occ is = within form.occs j occ is

slope_faults : (n : ℕ) (wire : Wire) → slice_get kernel.wires n ≡ Some wire → (op : Op) (ns : List ℕ) → is_of_flows kernel n ≡ true → wire.def ≡ OpWire op ns → (op ≡ EqFloat) ⊎ IsOwnSlope form grades kernel wiring n
unfolding is_of_flows
slope_faults =
    each (λ n wire. (op : Op) (ns : List ℕ) → is_of_flows kernel n ≡ true → wire.def ≡ OpWire op ns → (op ≡ EqFloat) ⊎ IsOwnSlope form grades kernel wiring n) kernel.wires (
      λ op ns k d. absurd cc,
      (
        λ op ns k d. absurd cc,
        (
          λ op ns k d. absurd cc,
          (
            λ op ns k d. absurd cc,
            (
              λ op ns k d. absurd cc,
              (
                λ op ns k d. absurd cc,
                (
                  λ op ns k d. absurd cc,
                  (
                    λ op ns k d. absurd cc,
                    (
                      λ op ns k d. absurd cc,
                      (
                        λ op ns k d. absurd cc,
                        (
                          λ op ns k d. absurd cc,
                          (
                            λ op ns k d. absurd cc,
                            (
                              λ op ns k d. absurd cc,
                              (
                                λ op ns k d. absurd cc,
                                (
                                  λ op ns k d. absurd cc,
                                  (
                                    λ op ns k d. absurd cc,
                                    (
                                      λ op ns k d. inl (sym (of_op d)),
                                      (
                                        λ op ns k d. inr (record { j = 6; occ = product; op = MulFloat; ks = 5 ∷ 7 ∷ []; is = refl; form = refl; graded = omega arith; value = wired kernel 11 _ refl refl; made = product_made; same = refl }),
                                        (
                                          λ op ns k d. inl (sym (of_op d)),
                                          (
                                            λ op ns k d. inr (record { j = 9; occ = difference; op = SubFloat; ks = 8 ∷ 10 ∷ []; is = refl; form = refl; graded = omega arith; value = wired kernel 13 _ refl refl; made = difference_made; same = refl }),
                                            (
                                              λ op ns k d. absurd cc,
                                              tt,
                                            ),
                                          ),
                                        ),
                                      ),
                                    ),
                                  ),
                                ),
                              ),
                            ),
                          ),
                        ),
                      ),
                    ),
                  ),
                ),
              ),
            ),
          ),
        ),
      ),
    )

abbrev variable : PlaceInfo
variable = place 0 None Float 1 (at 1 38) (Der 0 1 [] ∷ Start 0 2 ∷ [])

-- the memory that moves
moving_slope : (n : ℕ) (mem : KMem) → slice_get kernel.mems n ≡ Some mem → (slope : ℕ) → mem.slope ≡ Some slope → 15 ≡ slope
moving_slope = each (λ n mem. (slope : ℕ) → mem.slope ≡ Some slope → 15 ≡ slope) kernel.mems (
  (λ slope e. absurd cc),
  (
    (λ slope e. some_is 15 slope e),
    (
      (λ slope e. absurd cc),
      (
        (λ slope e. absurd cc),
        tt,
      ),
    ),
  ),
)

ders : (p : ℕ) (place : PlaceInfo) → slice_get form.places p ≡ Some place → (b a n slope : ℕ) (arms : List DerArm) (start : Option Value) → definer_of place.definers ≡ Some (Der b a arms) → IsMemory kernel n start (wiring.P p) (Some slope) → (slope ≡ wiring.D p) × IsDer form kernel wiring place a slope
unfolding remembered
ders =
    each (λ p place. (b a n slope : ℕ) (arms : List DerArm) (start : Option Value) → definer_of place.definers ≡ Some (Der b a arms) → IsMemory kernel n start (wiring.P p) (Some slope) → (slope ≡ wiring.D p) × IsDer form kernel wiring place a slope) form.places (
      λ b a n slope arms start e mem. absurd cc,
      (
        λ b a n slope arms start e mem. let is = moving_slope n mem.mem mem.is slope mem.slope_is in (sym is, subst (λ x. IsDer form kernel wiring variable a x) is (subst (λ x. IsDer form kernel wiring variable x 15) (named e) (record { wire = _; is = refl; m = 3; def = refl; free = refl; mem = remembered kernel 3 _ refl; there = (_, refl); guard = refl }))),
        (
          λ b a n slope arms start e mem. absurd cc,
          tt,
        ),
      ),
    )
  where
    named : {b a c e : ℕ} {x y : List DerArm} → Some (Der b a x) ≡ Some (Der c e y) → a ≡ e
    named {a = a} q = ap (λ o. slope_in o) q
      where
        slope_in : Option Definer → ℕ
        slope_in (Some (Der b e arms)) = e
        slope_in _ = a

flows : IsNormalInFlows form grades kernel wiring
unfolding flow_wired
flows = record {
  zero = flow_wired kernel 4 _ refl;
  slopes = λ j occ is ty which. ⊎_elim (λ moves. slopes j occ is moves) (λ appended. absurd (let low = few j occ is in omega (arith, low, appended))) which;
  place_slopes = λ p place is ty. each (λ p place. IsPlaceSlope form grades kernel wiring p (definer_of place.definers)) form.places (
    refl,
    (
      tt,
      (
        refl,
        tt,
      ),
    ),
  ) p place is;
  ders = λ p place b a n slope arms start is definer mem. ders p place is b a n slope arms start definer mem;
  motions = StillMemory _ _ _ _ refl (StillPlace _ _ _ _ (λ b a arms e. absurd cc) (Moving _ _ _ _ _ _ _ _ refl refl refl refl (StillMemory _ _ _ _ refl (StillMemory _ _ _ _ refl (StillPlace _ _ _ _ (λ b a arms e. absurd cc) (Done 3))))));
  faults = λ n wire op ns is alone def. slope_faults n wire is op ns alone def;
}

normal : SlopesAreNormal
normal = record {
  instants = instants;
  flows = flows;
  ins = (record { place = _; is = refl; name = refl; typed = refl }, tt);
  outs = (record { place = _; is = refl; name = refl; wire = refl }, tt);
}

pub returns : goal.returns
returns c = normal
