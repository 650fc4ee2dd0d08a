-- How a method goes on inside of guards: it runs where all of them hold, and passes over everything else.
use Rattle.std.specs.Prelude.{◌≡◌, ℕ, zero, suc, nat_eq, Bool, true, false, ◌&&◌, if◌then◌else◌, List, [], ◌∷◌, Option, Some, None}
use Rattle.std.specs.List.{list_all, AllByRecursion}
use Rattle.std.proofs.Common.{refl, ap, ◌∙◌}
use Rattle.std.proofs.lemmas.Bool.{eqb-true}
use Rattle.zl_value.specs.Times.{holds}
use Rattle.zl_value.specs.declared.value.Value.{Value}
use Rattle.zl_value.specs.declared.value.Value.TheVariants.{B, I, F}
use Rattle.zl_kernel.specs.declared.wire.Def.{Def}
use Rattle.zl_kernel.specs.declared.wire.Def.TheVariants as is
use Rattle.zl_kernel.specs.declared.wire.Wire.{Wire}
use Rattle.zl_code.specs.Method.{Cells, cell, Given, Doing, Mode, Runs, ToElse, ToFi, choose, run}
use Rattle.zl_code.specs.declared.stmt.Stmt.{Stmt}
use Rattle.zl_code.specs.declared.stmt.Stmt.TheVariants.{If, Else, Fi}
use Rattle.zl_codegen.specs.Guards.{close, enter, change}
use Rattle.zl_codegen.specs.Statements.{define}

-- how it goes on behind an `if` on this value, and behind an `if` on each of these registers
abbrev pub inside_of : Mode → Option Value → Mode
inside_of Runs v = choose v
inside_of (ToElse n) v = ToElse (suc n)
inside_of (ToFi n) v = ToFi (suc n)

abbrev pub mode_in : Cells → List ℕ → Mode → Mode
mode_in regs [] m = m
mode_in regs (guard ∷ guards) m = mode_in regs guards (inside_of m (cell regs guard))

abbrev pub is_running : Mode → Bool
is_running Runs = true
is_running (ToElse n) = false
is_running (ToFi n) = false

pub running-inside : (m : Mode) (v : Option Value) → is_running (inside_of m v) ≡ (is_running m && holds v)
running-inside Runs None = refl
running-inside Runs (Some (B true)) = refl
running-inside Runs (Some (B false)) = refl
running-inside Runs (Some (I n)) = refl
running-inside Runs (Some (F f)) = refl
running-inside (ToElse n) v = refl
running-inside (ToFi n) v = refl

and_assoc : (a b c : Bool) → ((a && b) && c) ≡ (a && (b && c))
and_assoc true b c = refl
and_assoc false b c = refl

and-true : (a : Bool) → a ≡ (a && true)
and-true true = refl
and-true false = refl

pub running-in : (regs : Cells) (guards : List ℕ) (m : Mode) → is_running (mode_in regs guards m) ≡ (is_running m && list_all (λ n. holds (cell regs n)) guards)
running-in regs [] m = and-true (is_running m)
running-in regs (guard ∷ guards) m =
    running-in regs guards (inside_of m (cell regs guard))
    ∙ ap (λ b. b && list_all (λ n. holds (cell regs n)) guards) (running-inside m (cell regs guard))
    ∙ and_assoc (is_running m) (holds (cell regs guard)) (list_all (λ n. holds (cell regs n)) guards)

pub runs_if : (m : Mode) → is_running m ≡ true → m ≡ Runs
runs_if Runs is = refl
runs_if (ToElse n) is = absurd cc
runs_if (ToFi n) is = absurd cc

module _ (g : Given) where
  run_if : (m : Mode) (r : ℕ) (rest : List Stmt) (d : Doing) → run g m (If r ∷ rest) d ≡ run g (inside_of m (cell d.regs r)) rest d
  run_if Runs r rest d = refl
  run_if (ToElse zero) r rest d = refl
  run_if (ToElse (suc n)) r rest d = refl
  run_if (ToFi zero) r rest d = refl
  run_if (ToFi (suc n)) r rest d = refl

  run_closed : (m : Mode) (v : Option Value) (rest : List Stmt) (d : Doing) → run g (inside_of m v) (Else ∷ Fi ∷ rest) d ≡ run g m rest d
  run_closed Runs None rest d = refl
  run_closed Runs (Some (B true)) rest d = refl
  run_closed Runs (Some (B false)) rest d = refl
  run_closed Runs (Some (I n)) rest d = refl
  run_closed Runs (Some (F f)) rest d = refl
  run_closed (ToElse n) v rest d = refl
  run_closed (ToFi n) v rest d = refl

  close_last : (a : ℕ) (guards : List ℕ) (rest : List Stmt) → close (a ∷ guards) rest ≡ close guards (Else ∷ Fi ∷ rest)
  close_last a [] rest = refl
  close_last a (b ∷ guards) rest = ap (λ s. Else ∷ Fi ∷ s) (close_last b guards rest)

  pub run_close : (guards : List ℕ) (m : Mode) (rest : List Stmt) (d : Doing) → run g (mode_in d.regs guards m) (close guards rest) d ≡ run g m rest d
  run_close [] m rest d = refl
  run_close (a ∷ guards) m rest d =
      ap (λ s. run g (mode_in d.regs (a ∷ guards) m) s d) (close_last a guards rest)
      ∙ run_close guards (inside_of m (cell d.regs a)) (Else ∷ Fi ∷ rest) d ∙ run_closed m (cell d.regs a) rest d

  run_enter : (guards : List ℕ) (m : Mode) (rest : List Stmt) (d : Doing) → run g m (enter guards rest) d ≡ run g (mode_in d.regs guards m) rest d
  run_enter [] m rest d = refl
  run_enter (a ∷ guards) m rest d = run_if m a (enter guards rest) d ∙ run_enter guards (inside_of m (cell d.regs a)) rest d

  -- the way from the guards that are open to those that are to be
  pub run_change : (now next : List ℕ) (m : Mode) (rest : List Stmt) (d : Doing) → run g (mode_in d.regs now m) (change now next rest) d ≡ run g (mode_in d.regs next m) rest d
  run_change [] next m rest d = run_enter next m rest d
  run_change (a ∷ now) [] m rest d = run_close (a ∷ now) m rest d
  run_change (a ∷ now) (b ∷ next) m rest d = by (nat_eq a b) refl (run_change now next (inside_of m (cell d.regs a)) rest d) (run_close (a ∷ now) m (enter (b ∷ next) rest) d ∙ run_enter (b ∷ next) m rest d)
    where
      by : (t : Bool) → nat_eq a b ≡ t → run g (mode_in d.regs (a ∷ now) m) (change now next rest) d ≡ run g (mode_in d.regs next (inside_of m (cell d.regs a))) rest d → run g (mode_in d.regs (a ∷ now) m) (close (a ∷ now) (enter (b ∷ next) rest)) d ≡ run g (mode_in d.regs (b ∷ next) m) rest d → run g (mode_in d.regs (a ∷ now) m) (if t then change now next rest else close (a ∷ now) (enter (b ∷ next) rest)) d ≡ run g (mode_in d.regs (b ∷ next) m) rest d
      by true e p q = p ∙ ap (λ c. run g (mode_in d.regs next (inside_of m (cell d.regs c))) rest d) (eqb-true a b e)
      by false e p q = q

  -- what defines a wire is passed over as a whole
  pub passed : (m : Mode) → is_running m ≡ false → (stepping : Bool) (n : ℕ) (wire : Wire) (def : Def) (rest : List Stmt) (d : Doing) → run g m (define stepping n wire def rest) d ≡ run g m rest d
  passed Runs idle stepping n wire def rest d = absurd cc
  passed (ToElse zero) idle stepping n wire (is.Lit v) rest d = refl
  passed (ToElse zero) idle stepping n wire (is.Copy j) rest d = refl
  passed (ToElse zero) idle stepping n wire (is.Mem j) rest d = refl
  passed (ToElse zero) idle stepping n wire (is.In j) rest d = refl
  passed (ToElse zero) idle true n wire (is.Event s) rest d = refl
  passed (ToElse zero) idle false n wire (is.Event s) rest d = refl
  passed (ToElse zero) idle stepping n wire is.Step rest d = refl
  passed (ToElse zero) idle stepping n wire (is.Op op ns) rest d = refl
  passed (ToElse zero) idle stepping n wire (is.If c x y) rest d = refl
  passed (ToElse (suc i)) idle stepping n wire (is.Lit v) rest d = refl
  passed (ToElse (suc i)) idle stepping n wire (is.Copy j) rest d = refl
  passed (ToElse (suc i)) idle stepping n wire (is.Mem j) rest d = refl
  passed (ToElse (suc i)) idle stepping n wire (is.In j) rest d = refl
  passed (ToElse (suc i)) idle true n wire (is.Event s) rest d = refl
  passed (ToElse (suc i)) idle false n wire (is.Event s) rest d = refl
  passed (ToElse (suc i)) idle stepping n wire is.Step rest d = refl
  passed (ToElse (suc i)) idle stepping n wire (is.Op op ns) rest d = refl
  passed (ToElse (suc i)) idle stepping n wire (is.If c x y) rest d = refl
  passed (ToFi zero) idle stepping n wire (is.Lit v) rest d = refl
  passed (ToFi zero) idle stepping n wire (is.Copy j) rest d = refl
  passed (ToFi zero) idle stepping n wire (is.Mem j) rest d = refl
  passed (ToFi zero) idle stepping n wire (is.In j) rest d = refl
  passed (ToFi zero) idle true n wire (is.Event s) rest d = refl
  passed (ToFi zero) idle false n wire (is.Event s) rest d = refl
  passed (ToFi zero) idle stepping n wire is.Step rest d = refl
  passed (ToFi zero) idle stepping n wire (is.Op op ns) rest d = refl
  passed (ToFi zero) idle stepping n wire (is.If c x y) rest d = refl
  passed (ToFi (suc i)) idle stepping n wire (is.Lit v) rest d = refl
  passed (ToFi (suc i)) idle stepping n wire (is.Copy j) rest d = refl
  passed (ToFi (suc i)) idle stepping n wire (is.Mem j) rest d = refl
  passed (ToFi (suc i)) idle stepping n wire (is.In j) rest d = refl
  passed (ToFi (suc i)) idle true n wire (is.Event s) rest d = refl
  passed (ToFi (suc i)) idle false n wire (is.Event s) rest d = refl
  passed (ToFi (suc i)) idle stepping n wire is.Step rest d = refl
  passed (ToFi (suc i)) idle stepping n wire (is.Op op ns) rest d = refl
  passed (ToFi (suc i)) idle stepping n wire (is.If c x y) rest d = refl

-- the same registers, as far as guards are read
pub mode_same : (a b : Cells) (P : ℕ → Type 0) → ((j : ℕ) → P j → cell a j ≡ cell b j) → (guards : List ℕ) (mode : Mode) → AllByRecursion P guards → mode_in a guards mode ≡ mode_in b guards mode
mode_same a b P same [] mode all = refl
mode_same a b P same (j ∷ guards) mode all = ap (λ v. mode_in a guards (inside_of mode v)) (same j all.0) ∙ mode_same a b P same guards (inside_of mode (cell b j)) all.1
