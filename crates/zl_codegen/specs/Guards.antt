-- A wire stands in the code under its guard, this one under its own, and so on: what is open for the wire before stays open where
-- it is open for the next one too.
use Rattle.std.specs.Prelude.{ℕ, zero, suc, nat_eq, nat_le, if◌then◌else◌, List, [], ◌∷◌, length, reverse, slice_get, Option, Some, None}
use Rattle.std.specs.Option.{option_and_then}
use Rattle.zl_kernel.specs.FlowWires.{listed_in}
use Rattle.zl_kernel.specs.declared.wire.Wire.{Wire}
use Rattle.zl_code.specs.declared.stmt.Stmt.{Stmt}
use Rattle.zl_code.specs.declared.stmt.Stmt.TheVariants.{If, Else, Fi}

-- the guard of wire `n`
abbrev pub guard_of : List Wire → ℕ → Option ℕ
guard_of wires n = option_and_then (λ (wire : Wire). wire.guard) (slice_get wires n)

-- a guard, its own guard and so on, the innermost first, `room` of them at most
abbrev pub guards_up : List Wire → ℕ → Option ℕ → List ℕ
guards_up wires zero guard = []
guards_up wires (suc room) None = []
guards_up wires (suc room) (Some guard) = guard ∷ guards_up wires room (guard_of wires guard)

-- a chain of more than eight guards is cut to the innermost one, so that each wire opens and closes a few of them at most
abbrev pub cut : List ℕ → Option ℕ → List ℕ
cut guards own = if nat_le (length guards) 8 then reverse guards else listed_in own

-- the guards under which a wire stands that has this guard, the outermost first
abbrev pub chain : List Wire → Option ℕ → List ℕ
chain wires guard = cut (guards_up wires 9 guard) guard

-- all of these guards are closed, all are opened, and then comes `rest`
abbrev pub close : List ℕ → List Stmt → List Stmt
close [] rest = rest
close (guard ∷ guards) rest = Else ∷ Fi ∷ close guards rest

abbrev pub enter : List ℕ → List Stmt → List Stmt
enter [] rest = rest
enter (guard ∷ guards) rest = If guard ∷ enter guards rest

-- from the guards that are open to those that are to be; what both begin with stays open
abbrev pub change : List ℕ → List ℕ → List Stmt → List Stmt
change [] next rest = enter next rest
change (a ∷ now) [] rest = close (a ∷ now) rest
change (a ∷ now) (b ∷ next) rest = if nat_eq a b then change now next rest else close (a ∷ now) (enter (b ∷ next) rest)
