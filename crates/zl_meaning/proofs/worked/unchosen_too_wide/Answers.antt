use Rattle.std.specs.Prelude.{◌∷◌, [], pos, negsuc}
use Rattle.std.proofs.Common.{lit<, refl, inl, inr, arith}
use Rattle.std.proofs.lemmas.Int.{ints}
use Rattle.zl_value.specs.Fraction.{whole, over}
use Rattle.zl_value.specs.declared.script.Ending.TheVariants.{Horizon}
use Rattle.zl_meaning.specs.History.{Instant}
use Rattle.zl_meaning.specs.System.{system_of}
use Rattle.zl_value.specs.Runs.{StepAfter, LeftAfter}
use Rattle.zl_value.proofs.Ratios.{is_self, is_add, is_mul}
use Rattle.zl_meaning.proofs.Lines.{crossed, negative_is, both, not_false, self}
use Rattle.zl_meaning.proofs.Compute.{computing, step_on, left_on, flow_on}
use Rattle.zl_meaning.specs.Worked.UnchosenTooWide.{form, grades, script, UnchosenTooWideRuns}
use Rattle.zl_meaning.proofs.worked.unchosen_too_wide.Goals as goal

abbrev i0 : Instant
i0 = step_on form script [] 5

abbrev i1 : Instant
i1 = left_on form (i0 ∷ []) (whole (pos 10000000000)) 5

s0 : StepAfter (system_of form grades) script [] i0
unfolding computing
s0 = record { due = refl; kind = refl; time = refl; inputs = refl; fired = refl; solves = refl }

s1 : LeftAfter (system_of form grades) script [] i0 i1
unfolding computing
s1 = record {
  flow = flow_on form [] i0 8;
  duration = whole (pos 10000000000);
  move = record {
    flow = record { due = refl; solves = λ s r l. refl };
    right = refl;
    whole = refl;
    lasts = record { reduced = record { above = lit< tt; lowest = refl }; positive = refl; reached = refl; clear = refl; first = λ s r l u. both (negative_is (is_add (self (whole (negsuc 9999999999)) (lit< tt)) (is_mul (is_self s r.above) (self (over (pos 1) 10000000000) (lit< tt)))) (not_false _ (λ w. omega (arith, ints, w, l, crossed s (whole (pos 10000000000)) u, r.above)))) (refl) };
  };
  fits = refl;
  kind = refl;
  time = refl;
  inputs = refl;
  fired = refl;
  solves = refl;
}

pub row : UnchosenTooWideRuns
unfolding computing
row = record {
  history = i1 ∷ i0 ∷ [];
  ending = Horizon;
  run = record { instants = (s0, inr s1); ends = inl refl };
  trace = refl;
}

pub returns : goal.returns
returns c = row
