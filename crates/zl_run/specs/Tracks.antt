-- What a run keeps beside its machine, at first.
use Rattle.std.specs.Prelude.{◌≡◌, false, length, replicate, None}
use Rattle.zl_value.specs.Times.{nought}
use Rattle.zl_value.specs.declared.value.Value.TheVariants.{B}
use Rattle.zl_code.specs.CodeForm.{CodeForm}
use Rattle.zl_run.specs.declared.track.Track.{Track}

-- before the first step
pub record IsNewTrack (c : CodeForm) (t : Track) : Type 0 where
  pub time : t.clock.time ≡ nought
  pub made : t.clock.made ≡ 0
  pub here : t.clock.here ≡ 0
  pub next : t.next ≡ 0
  pub inputs : t.inputs.items ≡ replicate (length c.ins) (B false)
  pub below : t.below.items ≡ replicate (length c.sites) false
  pub events : t.events.items ≡ replicate (length c.sites) false
  pub lines : t.lines.items ≡ replicate (length c.sites) None
