-- What a system promises, so that it has one run with a script at most. This project's own.
use Rattle.std.specs.Prelude.{◌≡◌, ℕ, false, length}
use Rattle.zl_value.specs.Fraction.{Fraction, IsReduced}
use Rattle.zl_value.specs.Times.{is_negative}
use Rattle.zl_value.specs.Instants.{Instant, History}
use Rattle.zl_value.specs.System.{Course, System, move_fault}
use Rattle.zl_value.specs.Runs.{StepAfter, FlowAfter, LeftAfter, IsPrefix, IsRun}
use Rattle.zl_value.specs.declared.script.Script.{Script}
use Rattle.zl_value.specs.declared.script.Ending.{Ending}

module _ {X Y : Type 0} (sys : System X Y) (script : Script) where
  -- two flows after one instant that no run tells apart; they may still be two, as functions of the time
  pub record AreAlike (h : History X) (i : Instant X) (y z : Course Y) : Type 0 where
    pub fault : sys.flow_fault h i y ≡ sys.flow_fault h i z
    pub lacks : sys.flow_lacks i y ≡ sys.flow_lacks i z
    -- the sites have the same values, so that both last equally long
    pub values : (s : Fraction) → IsReduced s → is_negative s ≡ false → (n : ℕ) → sys.values i y s n ≡ sys.values i z s n
    pub moves : (d : Fraction) → move_fault sys i y d ≡ move_fault sys i z d
    -- the same stands at their left ends
    pub left : (a b : Instant X) (p : LeftAfter sys script h i a) (q : LeftAfter sys script h i b) → p.flow ≡ y → q.flow ≡ z → p.duration ≡ q.duration → a.inputs ≡ b.inputs → a.fired ≡ b.fired → a.table ≡ b.table

  -- the promises: the same stands at two steps after one history, and two flows after one instant are alike
  pub record Determines : Type 0 where
    pub step : (h : History X) (i j : Instant X) → StepAfter sys script h i → StepAfter sys script h j → i.inputs ≡ j.inputs → i.fired ≡ j.fired → i.table ≡ j.table
    pub flow : (h : History X) (i : Instant X) (y z : Course Y) → FlowAfter sys script h i y → FlowAfter sys script h i z → AreAlike h i y z

  -- two beginnings of runs of one length are equal, and two runs are, with their ends
  pub record HasOneRun : Type 0 where
    pub prefixes : (h k : History X) → IsPrefix sys script h → IsPrefix sys script k → length h ≡ length k → h ≡ k
    pub runs : (h k : History X) (a b : Ending) → IsRun sys script h a → IsRun sys script k b → (h ≡ k) × (a ≡ b)
