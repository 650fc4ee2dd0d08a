-- In the statements of an order each `if` has its `else` and its `fi`.
use Rattle.std.specs.Prelude.{◌≡◌, ℕ, suc, nat_eq, Bool, true, false, if◌then◌else◌, List, [], ◌∷◌, slice_get, Option, Some, None}
use Rattle.std.proofs.Common.{refl, ap, ◌∙◌}
use Rattle.zl_kernel.specs.declared.wire.Def.{Def}
use Rattle.zl_kernel.specs.declared.wire.Def.TheVariants as is
use Rattle.zl_kernel.specs.declared.wire.Wire.{Wire}
use Rattle.zl_kernel.specs.declared.memory.KMem.{KMem}
use Rattle.zl_code.specs.declared.stmt.Stmt.{Stmt}
use Rattle.zl_code.specs.declared.stmt.Stmt.TheVariants.{Get, Set, If, Else, Fi}
use Rattle.zl_code.specs.WellFormed.{closes}
use Rattle.zl_codegen.specs.Guards.{guard_of, chain, close, enter, change}
use Rattle.zl_codegen.specs.Needs.{is_needed_memory, is_taken}
use Rattle.zl_codegen.specs.Statements.{define, define_in, body, sets}

-- the open `if`s of these guards, inside those that are open already
abbrev pub inside : List ℕ → List Bool → List Bool
inside [] base = base
inside (guard ∷ guards) base = inside guards (false ∷ base)

inner : (guards : List ℕ) (base : List Bool) → inside guards (false ∷ base) ≡ false ∷ inside guards base
inner [] base = refl
inner (guard ∷ guards) base = inner guards (false ∷ base)

closed : (guards : List ℕ) (base : List Bool) (rest : List Stmt) → closes (inside guards base) (close guards rest) ≡ closes base rest
closed [] base rest = refl
closed (guard ∷ guards) base rest = ap (λ o. closes o (Else ∷ Fi ∷ close guards rest)) (inner guards base) ∙ closed guards base rest

if_opens : (guard : ℕ) (base : List Bool) (rest : List Stmt) → closes base (If guard ∷ rest) ≡ closes (false ∷ base) rest
if_opens guard [] rest = refl
if_opens guard (false ∷ base) rest = refl
if_opens guard (true ∷ base) rest = refl

entered : (guards : List ℕ) (base : List Bool) (rest : List Stmt) → closes base (enter guards rest) ≡ closes (inside guards base) rest
entered [] base rest = refl
entered (guard ∷ guards) base rest = if_opens guard base (enter guards rest) ∙ entered guards (false ∷ base) rest

changed : (now next : List ℕ) (base : List Bool) (rest : List Stmt) → closes (inside now base) (change now next rest) ≡ closes (inside next base) rest
changed [] next base rest = entered next base rest
changed (a ∷ now) [] base rest = closed (a ∷ now) base rest
changed (a ∷ now) (b ∷ next) base rest = by (nat_eq a b) (changed now next (false ∷ base) rest) (closed (a ∷ now) base (enter (b ∷ next) rest) ∙ entered (b ∷ next) base rest)
  where
    by : (t : Bool) → closes (inside now (false ∷ base)) (change now next rest) ≡ closes (inside next (false ∷ base)) rest → closes (inside (a ∷ now) base) (close (a ∷ now) (enter (b ∷ next) rest)) ≡ closes (inside (b ∷ next) base) rest → closes (inside (a ∷ now) base) (if t then change now next rest else close (a ∷ now) (enter (b ∷ next) rest)) ≡ closes (inside (b ∷ next) base) rest
    by true p q = p
    by false p q = q

-- a statement that is no `if`, `else` or `fi` opens and closes nothing
get_plain : (base : List Bool) (n from : ℕ) (rest : List Stmt) → closes base (Get n from ∷ rest) ≡ closes base rest
get_plain [] n from rest = refl
get_plain (false ∷ base) n from rest = refl
get_plain (true ∷ base) n from rest = refl

defined : (base : List Bool) (stepping : Bool) (n : ℕ) (wire : Wire) (def : Def) (rest : List Stmt) → closes base (define stepping n wire def rest) ≡ closes base rest
defined [] stepping n wire (is.Lit v) rest = refl
defined [] stepping n wire (is.Copy m) rest = refl
defined [] stepping n wire (is.Mem m) rest = refl
defined [] stepping n wire (is.In i) rest = refl
defined [] true n wire (is.Event s) rest = refl
defined [] false n wire (is.Event s) rest = refl
defined [] stepping n wire is.Step rest = refl
defined [] stepping n wire (is.Op op ns) rest = refl
defined [] stepping n wire (is.If c x y) rest = refl
defined (false ∷ base) stepping n wire (is.Lit v) rest = refl
defined (false ∷ base) stepping n wire (is.Copy m) rest = refl
defined (false ∷ base) stepping n wire (is.Mem m) rest = refl
defined (false ∷ base) stepping n wire (is.In i) rest = refl
defined (false ∷ base) true n wire (is.Event s) rest = refl
defined (false ∷ base) false n wire (is.Event s) rest = refl
defined (false ∷ base) stepping n wire is.Step rest = refl
defined (false ∷ base) stepping n wire (is.Op op ns) rest = refl
defined (false ∷ base) stepping n wire (is.If c x y) rest = refl
defined (true ∷ base) stepping n wire (is.Lit v) rest = refl
defined (true ∷ base) stepping n wire (is.Copy m) rest = refl
defined (true ∷ base) stepping n wire (is.Mem m) rest = refl
defined (true ∷ base) stepping n wire (is.In i) rest = refl
defined (true ∷ base) true n wire (is.Event s) rest = refl
defined (true ∷ base) false n wire (is.Event s) rest = refl
defined (true ∷ base) stepping n wire is.Step rest = refl
defined (true ∷ base) stepping n wire (is.Op op ns) rest = refl
defined (true ∷ base) stepping n wire (is.If c x y) rest = refl

defined_in : (base : List Bool) (stepping : Bool) (n : ℕ) (wire : Option Wire) (rest : List Stmt) → closes base (define_in stepping n wire rest) ≡ closes base rest
defined_in base stepping n None rest = refl
defined_in base stepping n (Some wire) rest = defined base stepping n wire wire.def rest

pub body_nested : (wires : List Wire) (stepping : Bool) (marks out : List Bool) (opened list : List ℕ) (rest : List Stmt) → closes (inside opened []) (body wires stepping marks out opened list rest) ≡ closes [] rest
body_nested wires stepping marks out opened [] rest = closed opened [] rest
body_nested wires stepping marks out opened (n ∷ behind) rest =
    by (is_taken marks out n)
    (changed opened next [] (define_in stepping n (slice_get wires n) (body wires stepping marks out next behind rest)) ∙ defined_in (inside next []) stepping n (slice_get wires n) (body wires stepping marks out next behind rest) ∙ body_nested wires stepping marks out next behind rest)
    (body_nested wires stepping marks out opened behind rest)
  where
    next : List ℕ
    next = chain wires (guard_of wires n)

    by : (t : Bool) → closes (inside opened []) (change opened next (define_in stepping n (slice_get wires n) (body wires stepping marks out next behind rest))) ≡ closes [] rest → closes (inside opened []) (body wires stepping marks out opened behind rest) ≡ closes [] rest → closes (inside opened []) (if t then change opened next (define_in stepping n (slice_get wires n) (body wires stepping marks out next behind rest)) else body wires stepping marks out opened behind rest) ≡ closes [] rest
    by true p q = p
    by false p q = q

pub sets_nested : (held : List Bool) (m : ℕ) (mems : List KMem) → closes [] (sets held m mems) ≡ true
sets_nested held m [] = refl
sets_nested held m (mem ∷ mems) = by (is_needed_memory held m mem) (sets_nested held (suc m) mems)
  where
    by : (t : Bool) → closes [] (sets held (suc m) mems) ≡ true → closes [] (if t then Set m mem.next ∷ sets held (suc m) mems else sets held (suc m) mems) ≡ true
    by true p = p
    by false p = p
