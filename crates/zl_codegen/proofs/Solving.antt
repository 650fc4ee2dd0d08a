-- What the registers hold after a method: what the kernel says of the wires that it solves.
use Rattle.std.specs.Prelude.{◌≡◌, ℕ, zero, suc, ◌<◌, nat_eq, nat_le, Bool, true, false, ◌&&◌, ◌||◌, if◌then◌else◌, List, [], ◌∷◌, ◌++◌, length, get_or, set, slice_get, reverse, Option, Some, None}
use Rattle.std.specs.List.{list_all, AllByRecursion}
use Rattle.std.specs.List.Sorted.{IsPermutation}
use Rattle.std.specs.Option.{option_map, option_and_then}
use Rattle.std.proofs.Common.{refl, sym, ap, ◌∙◌, arith, subst}
use Rattle.std.proofs.lemmas.Bool.{eq-eqb, eqb-true, and_parts, and_from}
use Rattle.std.proofs.lemmas.List.{get_or-set_same, get_or-set_other, length-set}
use Rattle.std.proofs.lemmas.List.Elements.{All-from_recursion, recursion_from_All}
use Rattle.std.proofs.lemmas.List.Sorted.{IsPermutation-reverse, IsPermutation-sym, All-permutation}
use Rattle.zl_value.specs.Lists.{among}
use Rattle.zl_value.specs.Times.{holds}
use Rattle.zl_value.specs.Operators.{Answer, Gives, Faults, Nothing, answered, operate}
use Rattle.zl_value.specs.declared.value.Value.{Value}
use Rattle.zl_value.specs.declared.value.Value.TheVariants.{B, I, F}
use Rattle.zl_kernel.specs.KernelForm.{KernelForm}
use Rattle.zl_kernel.specs.FlowWires.{listed_in}
use Rattle.zl_kernel.specs.Wires.{held, is_at_step, given as given_as, branch, gathered as gathered_in, applied as applied_in, answer as answer_in, Moment}
use Rattle.zl_kernel.specs.declared.wire.Def.{Def}
use Rattle.zl_kernel.specs.declared.wire.Def.TheVariants as is
use Rattle.zl_kernel.specs.declared.wire.Wire.{Wire}
use Rattle.zl_code.specs.Method.{Cells, cell, Given, Doing, Runs, gathered, run, doing, by_values, choose, least, noted, answer}
use Rattle.zl_code.specs.declared.stmt.OpFault.{OpFault}
use Rattle.zl_code.specs.declared.stmt.Found.{Found}
use Rattle.zl_code.specs.declared.stmt.Stmt.{Stmt}
use Rattle.zl_code.specs.declared.stmt.Stmt.TheVariants.{Get, Op as Apply, If, Else, Fi}
use Rattle.zl_codegen.specs.Guards.{cut}
use Rattle.zl_codegen.specs.Statements.{fault_of, define}
use Rattle.zl_codegen.specs.Laws.{IsGiven}

-- all of a list, in another order
all_to : (p : ℕ → Bool) (xs : List ℕ) → list_all p xs ≡ true → AllByRecursion (λ x. p x ≡ true) xs
all_to p [] is = tt
all_to p (x ∷ xs) is = let both = and_parts (p x) (list_all p xs) is in (both.0, all_to p xs both.1)

all_from : (p : ℕ → Bool) (xs : List ℕ) → AllByRecursion (λ x. p x ≡ true) xs → list_all p xs ≡ true
all_from p [] all = refl
all_from p (x ∷ xs) all = and_from (p x) (list_all p xs) all.0 (all_from p xs all.1)

all_moved : (p : ℕ → Bool) (xs ys : List ℕ) → IsPermutation xs ys → list_all p xs ≡ true → list_all p ys ≡ true
all_moved p xs ys moved is = all_from p ys (recursion_from_All (λ x. p x ≡ true) ys (All-permutation (λ x. p x ≡ true) xs ys moved (All-from_recursion (λ x. p x ≡ true) xs (all_to p xs is))))

each_moved : (P : ℕ → Type 0) (xs ys : List ℕ) → IsPermutation xs ys → AllByRecursion P xs → AllByRecursion P ys
each_moved P xs ys moved all = recursion_from_All P ys (All-permutation P xs ys moved (All-from_recursion P xs all))

pub true_or : (b : Bool) (P : Type 0) → (b ≡ true → P) → (b ≡ false → P) → P
true_or true P sure never = sure refl
true_or false P sure never = never refl

pub both_ways : (b : Bool) → b ≡ true → b ≡ false → ⊥
both_ways true p q = cc
both_ways false p q = cc

-- guards hold all together where the innermost does, if what guards one that holds does
pub cut_all : (p : ℕ → Bool) (g : ℕ) (above : List ℕ) → (p g ≡ true → list_all p above ≡ true) → list_all p (cut (g ∷ above) (Some g)) ≡ p g
cut_all p g above up = by (nat_le (length (g ∷ above)) 8)
  where
    turned : list_all p (reverse (g ∷ above)) ≡ p g
    turned = true_or (p g) (list_all p (reverse (g ∷ above)) ≡ p g)
        (λ sure. all_moved p (g ∷ above) (reverse (g ∷ above)) (IsPermutation-reverse (g ∷ above)) (and_from (p g) (list_all p above) sure (up sure)) ∙ sym sure)
        (λ never. true_or (list_all p (reverse (g ∷ above))) (list_all p (reverse (g ∷ above)) ≡ p g)
        (λ all. absurd (both_ways (p g) (and_parts (p g) (list_all p above) (all_moved p (reverse (g ∷ above)) (g ∷ above) (IsPermutation-sym (g ∷ above) (reverse (g ∷ above)) (IsPermutation-reverse (g ∷ above))) all)).0 never))
        (λ none. none ∙ sym never))

    alone : (b : Bool) → (b && true) ≡ b
    alone true = refl
    alone false = refl

    by : (t : Bool) → list_all p (if t then reverse (g ∷ above) else g ∷ []) ≡ p g
    by true = turned
    by false = alone (p g)

pub cut_each : (P : ℕ → Type 0) (guards : List ℕ) (own : Option ℕ) → AllByRecursion P guards → AllByRecursion P (listed_in own) → AllByRecursion P (cut guards own)
cut_each P guards own all one = by (nat_le (length guards) 8)
  where
    by : (t : Bool) → AllByRecursion P (if t then reverse guards else listed_in own)
    by true = each_moved P guards (reverse guards) (IsPermutation-reverse guards) all
    by false = one

-- what is in a list
pub among_at : (xs : List ℕ) (i j : ℕ) → slice_get xs i ≡ Some j → among j xs ≡ true
among_at [] i j is = absurd cc
among_at (x ∷ xs) zero j is = let e : x ≡ j = cc in ap (λ b. b || among j xs) (eq-eqb x j e)
among_at (x ∷ xs) (suc i) j is = later (nat_eq x j) (among_at xs i j is)
  where
    later : (b : Bool) → among j xs ≡ true → (b || among j xs) ≡ true
    later true p = refl
    later false p = p

pub at_among : (xs : List ℕ) (j : ℕ) → among j xs ≡ true → (i : ℕ) × (slice_get xs i ≡ Some j)
at_among [] j is = absurd cc
at_among (x ∷ xs) j is = by (nat_eq x j) refl is (λ more. let found = at_among xs j more in (suc found.0, found.1))
  where
    by : (b : Bool) → nat_eq x j ≡ b → (b || among j xs) ≡ true → (among j xs ≡ true → (i : ℕ) × (slice_get (x ∷ xs) i ≡ Some j)) → (i : ℕ) × (slice_get (x ∷ xs) i ≡ Some j)
    by true e p more = (zero, ap Some (eqb-true x j e))
    by false e p more = more p

pub front : (xs ys : List ℕ) (i : ℕ) → i < length xs → slice_get (xs ++ ys) i ≡ slice_get xs i
front [] ys i less = absurd (omega arith)
front (x ∷ xs) ys zero less = refl
front (x ∷ xs) ys (suc i) less = front xs ys i (omega arith)

pub middle : (xs ys : List ℕ) (n : ℕ) → slice_get (xs ++ n ∷ ys) (length xs) ≡ Some n
middle [] ys n = refl
middle (x ∷ xs) ys n = middle xs ys n

pub moved_on : (xs : List ℕ) (n : ℕ) (ys : List ℕ) → xs ++ n ∷ ys ≡ (xs ++ n ∷ []) ++ ys
moved_on [] n ys = refl
moved_on (x ∷ xs) n ys = ap (λ zs. x ∷ zs) (moved_on xs n ys)

pub among-last : (xs : List ℕ) (n j : ℕ) → among j (xs ++ n ∷ []) ≡ (among j xs || nat_eq n j)
among-last [] n j = by (nat_eq n j)
  where
    by : (b : Bool) → (b || false) ≡ b
    by true = refl
    by false = refl
among-last (x ∷ xs) n j = ap (λ b. nat_eq x j || b) (among-last xs n j) ∙ by (nat_eq x j) (among j xs) (nat_eq n j)
  where
    by : (a b c : Bool) → (a || (b || c)) ≡ ((a || b) || c)
    by true b c = refl
    by false b c = refl

gathered_is : (regs : Cells) (ns : List ℕ) → gathered regs ns ≡ gathered_in (cell regs) ns
gathered_is regs [] = refl
gathered_is regs (n ∷ ns) = ap (λ vs. option_and_then (λ v. option_map (λ ws. v ∷ ws) vs) (cell regs n)) (gathered_is regs ns)

applied_is : (regs : Cells) (make : List Value → Answer) (vs : Option (List Value)) → (op : _) → make ≡ operate op → by_values make vs ≡ applied_in op vs
applied_is regs make None op is = refl
applied_is regs make (Some vs) op is = ap (λ f. f vs) is

-- a wire that holds `true` is solved, and its guard holds
pub open_from : (solved opened : Bool) (a : Answer) → holds (answered (if solved && opened then a else Nothing)) ≡ true → (solved ≡ true) × (opened ≡ true)
open_from true true a is = (refl, refl)
open_from true false a is = absurd cc
open_from false opened a is = absurd cc

-- the register of one wire is what it is to be, and no other has changed
pub record IsStep (before after : Doing) (n : ℕ) (v : Option Value) : Type 0 where
  pub long : length after.regs ≡ length before.regs
  pub new : cell after.regs n ≡ v
  pub others : (j : ℕ) → (j ≡ n → ⊥) → cell after.regs j ≡ cell before.regs j

put_is : (d : Doing) (n : ℕ) (v w : Option Value) (after : Doing) → n < length d.regs → after.regs ≡ set d.regs n v → v ≡ w → IsStep d after n w
put_is d n v w after less is same = record {
  long = ap (λ rs. length rs) is ∙ length-set d.regs n v;
  new = ap (λ rs. cell rs n) is ∙ get_or-set_same d.regs n v None less ∙ same;
  others = λ j other. ap (λ rs. cell rs j) is ∙ get_or-set_other d.regs n j v None other;
}

pub kept_is : (d : Doing) (n : ℕ) (w : Option Value) → cell d.regs n ≡ w → IsStep d d n w
kept_is d n w is = record { long = refl; new = is; others = λ j other. refl }

-- the fault that an operator's answer is, with its number
abbrev pub reported : Answer → Option OpFault → Option Found
reported a None = None
reported (Faults kind) (Some at) = Some (record { ord = at.ord; fault = record { kind = kind; at = at.at } })
reported _ (Some at) = None

-- one fault more is met, or none
abbrev pub met : Option Found → Option Found → Option Found
met found None = found
met found (Some new) = least found new

pub noted_is : (found : Option Found) (a : Answer) (at : Option OpFault) → noted found a at ≡ met found (reported a at)
noted_is found a None = refl
noted_is found (Gives v) (Some at) = refl
noted_is found (Faults kind) (Some at) = refl
noted_is found Nothing (Some at) = refl

-- the fault that a wire has with this answer
abbrev pub report : Wire → Def → Answer → Option Found
report wire (is.Op op args) a = reported a (fault_of wire op)
report wire _ a = None

abbrev pub finds : Option Found → Wire → Def → Answer → Option Found
finds found wire def a = met found (report wire def a)

-- the statements of a wire do what its definition says
pub record Does (g : Given) (d : Doing) (stmts rest : List Stmt) (n : ℕ) (v : Option Value) (f : Option Found) : Type 0 where
  pub after : Doing
  pub runs : run g Runs stmts d ≡ run g Runs rest after
  pub step : IsStep d after n v
  pub mems : after.mems ≡ d.mems
  pub found : after.found ≡ f

if_does : (g : Given) (d : Doing) (n c x y : ℕ) (rest : List Stmt) (v : Option Value) → cell d.regs c ≡ v → n < length d.regs → (branch v (cell d.regs x) (cell d.regs y) ≡ None → cell d.regs n ≡ None) → Does g d (If c ∷ Get n x ∷ Else ∷ Get n y ∷ Fi ∷ rest) rest n (branch v (cell d.regs x) (cell d.regs y)) d.found
if_does g d n c x y rest None is less none = record { after = d; runs = ap (λ v. run g (choose v) (Get n x ∷ Else ∷ Get n y ∷ Fi ∷ rest) d) is; step = kept_is d n None (none refl); mems = refl; found = refl }
if_does g d n c x y rest (Some (B true)) is less none = record { after = doing g (Get n x) d; runs = ap (λ v. run g (choose v) (Get n x ∷ Else ∷ Get n y ∷ Fi ∷ rest) d) is; step = put_is d n (cell d.regs x) _ _ less refl refl; mems = refl; found = refl }
if_does g d n c x y rest (Some (B false)) is less none = record { after = doing g (Get n y) d; runs = ap (λ v. run g (choose v) (Get n x ∷ Else ∷ Get n y ∷ Fi ∷ rest) d) is; step = put_is d n (cell d.regs y) _ _ less refl refl; mems = refl; found = refl }
if_does g d n c x y rest (Some (I i)) is less none = record { after = d; runs = ap (λ v. run g (choose v) (Get n x ∷ Else ∷ Get n y ∷ Fi ∷ rest) d) is; step = kept_is d n None (none refl); mems = refl; found = refl }
if_does g d n c x y rest (Some (F f)) is less none = record { after = d; runs = ap (λ v. run g (choose v) (Get n x ∷ Else ∷ Get n y ∷ Fi ∷ rest) d) is; step = kept_is d n None (none refl); mems = refl; found = refl }

answered_given : (v : Option Value) → answered (given_as v) ≡ v
answered_given None = refl
answered_given (Some v) = refl

module _ (k : KernelForm) (m : Moment) (g : Given) (given : IsGiven k m g) where
  pub does : (d : Doing) (n : ℕ) (wire : Wire) (def : Def) (rest : List Stmt) → slice_get k.wires n ≡ Some wire → wire.def ≡ def → n < length d.regs → (answered (answer_in m (cell d.regs) def) ≡ None → cell d.regs n ≡ None) → Does g d (define (is_at_step m.mode) n wire def rest) rest n (answered (answer_in m (cell d.regs) def)) (finds d.found wire def (answer_in m (cell d.regs) def))
  does d n wire (is.Lit v) rest at of less none = record { after = record { regs = set d.regs n (Some v); mems = d.mems; found = d.found }; runs = refl; step = put_is d n (Some v) _ _ less refl refl; mems = refl; found = refl }
  does d n wire (is.Copy j) rest at of less none = record { after = record { regs = set d.regs n (cell d.regs j); mems = d.mems; found = d.found }; runs = refl; step = put_is d n (cell d.regs j) _ _ less refl (sym (answered_given (cell d.regs j))); mems = refl; found = refl }
  does d n wire (is.Mem j) rest at of less none = record { after = record { regs = set d.regs n (cell g.mems j); mems = d.mems; found = d.found }; runs = refl; step = put_is d n (cell g.mems j) _ _ less refl (given.mems n j wire at of ∙ sym (answered_given (held m.memories j))); mems = refl; found = refl }
  does d n wire (is.In i) rest at of less none = record { after = record { regs = set d.regs n (cell g.inputs i); mems = d.mems; found = d.found }; runs = refl; step = put_is d n (cell g.inputs i) _ _ less refl (ap (λ cs. cell cs i) given.inputs ∙ sym (answered_given (held m.inputs i))); mems = refl; found = refl }
  does d n wire (is.Event s) rest at of less none = by (is_at_step m.mode) refl
    where
      by : (t : Bool) → is_at_step m.mode ≡ t → Does g d (define t n wire (is.Event s) rest) rest n (Some (B (t && among s m.fired))) d.found
      by true e = record { after = record { regs = set d.regs n (Some (B (get_or g.events s false))); mems = d.mems; found = d.found }; runs = refl; step = put_is d n (Some (B (get_or g.events s false))) _ _ less refl (ap (λ b. Some (B b)) (given.events n s wire at of e)); mems = refl; found = refl }
      by false e = record { after = record { regs = set d.regs n (Some (B false)); mems = d.mems; found = d.found }; runs = refl; step = put_is d n (Some (B false)) _ _ less refl refl; mems = refl; found = refl }
  does d n wire is.Step rest at of less none = record { after = record { regs = set d.regs n (Some (B (is_at_step m.mode))); mems = d.mems; found = d.found }; runs = refl; step = put_is d n (Some (B (is_at_step m.mode))) _ _ less refl refl; mems = refl; found = refl }
  does d n wire (is.Op op ns) rest at of less none =
      record { after = doing g (Apply n op ns (fault_of wire op)) d; runs = refl; step = put_is d n (answered (by_values (operate op) (gathered d.regs ns))) (answered (applied_in op (gathered_in (cell d.regs) ns))) (doing g (Apply n op ns (fault_of wire op)) d) less refl (ap answered (applied_is d.regs (operate op) (gathered d.regs ns) op refl ∙ ap (λ vs. applied_in op vs) (gathered_is d.regs ns))); mems = refl; found = noted_is d.found (answer d.regs (operate op) ns) (fault_of wire op) ∙ ap (λ a. met d.found (reported a (fault_of wire op))) (applied_is d.regs (operate op) (gathered d.regs ns) op refl ∙ ap (λ vs. applied_in op vs) (gathered_is d.regs ns)) }
  does d n wire (is.If c x y) rest at of less none =
      let v = cell d.regs c in
      subst (λ w. Does g d (If c ∷ Get n x ∷ Else ∷ Get n y ∷ Fi ∷ rest) rest n w d.found) (sym (answered_given (branch v (cell d.regs x) (cell d.regs y))))
      (if_does g d n c x y rest v refl less (λ e. none (answered_given (branch v (cell d.regs x) (cell d.regs y)) ∙ e)))
