-- Ranks of places and blocks give exactly one instant of each kind after each history.
use Rattle.std.specs.Prelude.{◌≡◌, ℕ, List, Option}
use Rattle.std.proofs.Common.{refl, sym, ap, ◌∙◌}
use Rattle.zl_value.specs.Fraction.{Fraction}
use Rattle.zl_value.specs.Times.{nought}
use Rattle.zl_value.specs.Instants.{Kind, Step, Left}
use Rattle.zl_value.specs.System.{Course}
use Rattle.zl_value.specs.declared.value.Value.{Value}
use Rattle.zl_meaning.specs.FlatForm.{FlatForm}
use Rattle.zl_meaning.specs.WellFormed.{IsWellFormed}
use Rattle.zl_meaning.specs.State.{Table, empty_table}
use Rattle.zl_meaning.specs.History.{Instant, History}
use Rattle.zl_meaning.specs.Equation.{turn}
use Rattle.zl_meaning.specs.Solves.{moment_of, solved}
use Rattle.zl_meaning.specs.Flow.{FlowTable}
use Rattle.zl_meaning.specs.System.{system_of}
use Rattle.zl_meaning.specs.Depends.{AreRanks}
use Rattle.zl_meaning.specs.Reading.{HasNodeRanks}
use Rattle.zl_meaning.specs.OneInstant.{given_by, HasOneInstant, HasOneInstantEach}
use Rattle.zl_meaning.proofs.OneTable.{exactly_one_table}
use Rattle.zl_meaning.proofs.LevelsOfRanks.{levels-of-ranks}
use Rattle.zl_meaning.proofs.RanksOfLevels.{ranks-of-levels}
use Rattle.zl_meaning.proofs.SomeRun.{instant_at}

module _ (f : FlatForm) (r : HasNodeRanks f) (grades : List ℕ) (h : History) (y : Course FlowTable) (d : Fraction) where
  -- how long what moved has done so at an instant of this kind
  abbrev moved_for : Kind → Fraction
  moved_for Step = nought
  moved_for Left = d

  -- either equation is that of the form
  as_solved : (kind : Kind) (i : Instant) → given_by (system_of f grades) h y d kind i ≡ solved f h (moved_for kind) i
  as_solved Step i = refl
  as_solved Left i = refl

  pub one_instant : (kind : Kind) (time : Fraction) (inputs : List (Option Value)) (fired : List ℕ) → HasOneInstant (system_of f grades) h y d kind time inputs fired
  one_instant kind time inputs fired =
      let m = moment_of f h (moved_for kind) (instant_at kind time inputs fired empty_table) in
      let one = exactly_one_table f m r in
      let the : Instant = instant_at kind time inputs fired one.table in
      record {
        instant = the;
        is = record { kind_is = refl; time_is = refl; inputs_are = refl; fired_are = refl; solves = one.solves ∙ sym (as_solved kind the) };
        only = λ i is. same i is.kind_is is.time_is is.inputs_are is.fired_are (one.only i.table (is.solves ∙ as_solved kind i ∙ at_moment i is.kind_is is.inputs_are is.fired_are));
      }
    where
      same : (i : Instant) {t : Table} → i.kind ≡ kind → i.time ≡ time → i.inputs ≡ inputs → i.fired ≡ fired → i.table ≡ t → i ≡ instant_at kind time inputs fired t
      same i a b c e g = let whole : i ≡ instant_at i.kind i.time i.inputs i.fired i.table = refl in cc

      at_moment : (i : Instant) → i.kind ≡ kind → i.inputs ≡ inputs → i.fired ≡ fired → solved f h (moved_for kind) i ≡ turn f (moment_of f h (moved_for kind) (instant_at kind time inputs fired empty_table)) i.table
      at_moment i a b c =
          let e : moment_of f h (moved_for kind) i ≡ moment_of f h (moved_for kind) (instant_at kind time inputs fired empty_table) = cc in
          ap (λ m. turn f m i.table) e

-- ranks of places and blocks give those of all entries
pub ranks_give_one_instant : (f : FlatForm) → IsWellFormed f → (of_places of_blocks : List ℕ) → AreRanks f of_places of_blocks → HasOneInstantEach f
ranks_give_one_instant f well of_places of_blocks ranks = λ grades h y d kind time inputs fired.
    one_instant f (ranks-of-levels f well (levels-of-ranks f well of_places of_blocks ranks)) grades h y d kind time inputs fired
