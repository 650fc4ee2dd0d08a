-- What is kept while instructions are made from the last statement back.
use Rattle.std.specs.Prelude.{◌≡◌, ℕ, suc, ◌+◌, ◌≤◌, List, [], ◌∷◌, ◌++◌, drop, length, reverse, Option}
use Rattle.std.proofs.Common.{refl, sym, ap, ◌∙◌, subst, arith}
use Rattle.std.proofs.lemmas.List.{length-append}
use Rattle.zl_value.specs.declared.value.Value.{Value}
use Rattle.zl_code.specs.declared.stmt.Stmt.{Stmt}
use Rattle.zl_code.specs.declared.stmt.Stmt.TheVariants.{If as IfStmt}
use Rattle.zl_code.specs.Method.{Cells, cell, Given, Doing, Runs, ToElse, ToFi, run}
use Rattle.zl_machine.specs.declared.instr.Instr.{Instr}
use Rattle.zl_machine.specs.declared.instr.Instr.TheVariants.{If, Jump}
use Rattle.zl_machine.specs.declared.decoding.Frame.{Frame}
use Rattle.zl_machine.specs.Building.{frame_at, AreOpen, Built, Leads}
use Rattle.zl_machine.specs.Instructions.{Rest, by, goes_on, IsDown, StandsFor}
use Rattle.zl_machine.proofs.Backward.{if_runs}
use Rattle.zl_machine.proofs.Growing.{more, more_old, more_new, means_more, down_more, means_wider, goes_wider}

-- from the open `if`s `fs` to `gs`: the `n`th of these is the `m n`th of those
module _ (fs gs : List Frame) (m : ℕ → ℕ) (at : (n : ℕ) → frame_at gs n ≡ frame_at fs (m n)) where
  -- whoever passes over the new statements passes over the old ones too
  pub record Passes (old new : List Stmt) : Type 0 where
    pub to_end : (n : ℕ) (g : Given) (d : Doing) → run g (ToFi n) new d ≡ run g (ToFi (m n)) old d
    pub to_other : (n : ℕ) (g : Given) (d : Doing) → run g (ToElse n) new d ≡ run g (ToElse (m n)) old d

  opened_on : (r s : Given → Rest) (count wider : ℕ) (old new : List Stmt) → count ≤ wider → ((k : ℕ) → k ≤ count → (g : Given) (d : Doing) → s g k d ≡ r g k d) → Passes old new → AreOpen r count old fs → AreOpen s wider new gs
  opened_on r s count wider old new room same passes o = record {
    ends = λ n. subst (λ (f : Frame). f.end ≤ wider) (sym (at n)) (omega (arith, o.ends (m n), room));
    others = λ n. subst (λ (f : Frame). f.other ≤ wider) (sym (at n)) (omega (arith, o.others (m n), room));
    to_end = λ n g d. ap (λ (f : Frame). s g f.end d) (at n) ∙ same _ (o.ends (m n)) g d ∙ o.to_end (m n) g d ∙ sym (passes.to_end n g d);
    to_other = λ n g d. ap (λ (f : Frame). s g f.other d) (at n) ∙ same _ (o.others (m n)) g d ∙ o.to_other (m n) g d ∙ sym (passes.to_other n g d);
  }

  -- an instruction is added that does the next statements before it goes on
  pub built_more : (code : List Instr) (lits : Cells) (old new : List Stmt) (next : ℕ) (i : Instr) → (b : Built code lits old next fs) → IsDown (length lits) (length code) i → Passes old new → ((g : Given) (d : Doing) → goes_on lits g i (b.rest g) (length code) d ≡ run g Runs new d) → Built (code ++ i ∷ []) lits new (suc (length code)) gs
  built_more code lits old new next i b down passes does =
      let longer : length (code ++ i ∷ []) ≡ length code + 1 = length-append code (i ∷ []) in
      record {
        rest = more lits code i b.rest;
        means = means_more lits code i b.rest b.means b.down down;
        down = down_more lits code i b.down down;
        low = omega (arith, longer);
        here = λ g d. more_new lits code i b.rest g d ∙ does g d;
        opened = opened_on b.rest (more lits code i b.rest) (length code) (length (code ++ i ∷ [])) old new (omega (arith, longer)) (λ k le g d. more_old lits code i b.rest g k d le) passes b.opened;
      }

-- an instruction before what comes next
pub built_put : (code : List Instr) (lits : Cells) (old new : List Stmt) (next : ℕ) (fs : List Frame) (i : Instr) → Built code lits old next fs → next ≡ length code → Leads lits i old new → Built (code ++ i ∷ []) lits new (suc (length code)) fs
built_put code lits old new next fs i b linked leads =
    built_more fs fs (λ n. n) (λ n. refl) code lits old new next i b (leads.down (length code))
    (record { to_end = leads.to_end; to_other = leads.to_other })
    (λ g d. leads.does g (b.rest g) (length code) d (λ e. ap (λ n. b.rest g n e) (sym linked) ∙ b.here g e))

-- a jump where what comes next doesn't stand next
pub built_jump : (code : List Instr) (lits : Cells) (stmts : List Stmt) (next : ℕ) (fs : List Frame) → Built code lits stmts next fs → Built (code ++ Jump next ∷ []) lits stmts (suc (length code)) fs
built_jump code lits stmts next fs b =
    built_more fs fs (λ n. n) (λ n. refl) code lits stmts stmts next (Jump next) b b.low
    (record { to_end = λ n g d. refl; to_other = λ n g d. refl }) (λ g d. b.here g d)

-- an `if`, which closes the innermost open one
pub built_if : (code : List Instr) (lits : Cells) (stmts : List Stmt) (next reg : ℕ) (fs gs : List Frame) → Built code lits stmts next fs → next ≡ length code → ((n : ℕ) → frame_at gs n ≡ frame_at fs (suc n)) → Built (code ++ If reg (frame_at fs 0).other (frame_at fs 0).end ∷ []) lits (IfStmt reg ∷ stmts) (suc (length code)) gs
built_if code lits stmts next reg fs gs b linked at =
    built_more fs gs (λ n. suc n) at code lits stmts (IfStmt reg ∷ stmts) next (If reg (frame_at fs 0).other (frame_at fs 0).end) b (b.opened.others 0, b.opened.ends 0)
    (record { to_end = λ n g d. refl; to_other = λ n g d. refl })
    (λ g d.
    ap (λ u. by (cell d.regs reg) u (b.rest g (frame_at fs 0).other d) (b.rest g (frame_at fs 0).end d)) (ap (λ n. b.rest g n d) (sym linked) ∙ b.here g d)
    ∙ ap (λ u. by (cell d.regs reg) (run g Runs stmts d) u (b.rest g (frame_at fs 0).end d)) (b.opened.to_other 0 g d)
    ∙ ap (λ u. by (cell d.regs reg) (run g Runs stmts d) (run g (ToElse 0) stmts d) u) (b.opened.to_end 0 g d)
    ∙ sym (if_runs g reg stmts d))

-- a literal is added to the table
pub built_literal : (code : List Instr) (lits : Cells) (v : Option Value) (stmts : List Stmt) (next : ℕ) (fs : List Frame) → Built code lits stmts next fs → Built code (lits ++ v ∷ []) stmts next fs
built_literal code lits v stmts next fs b = record {
  rest = b.rest;
  means = means_wider lits v code b.rest b.means b.down;
  down = goes_wider lits v code b.down;
  low = b.low;
  here = b.here;
  opened = b.opened;
}

-- nothing is made yet, and nothing is left to do
pub built_nothing : (lits : Cells) → Built [] lits [] 0 []
built_nothing lits = record {
  rest = λ g k d. d;
  means = record { done = λ g d. refl; each = λ k i at. absurd cc };
  down = record { down = λ k i at. absurd cc };
  low = omega arith;
  here = λ g d. refl;
  opened = record { ends = λ n. omega arith; others = λ n. omega arith; to_end = λ n g d. refl; to_other = λ n g d. refl };
}

drop_all : (xs : List Stmt) → drop (length xs) xs ≡ []
drop_all [] = refl
drop_all (x ∷ xs) = drop_all xs

pub built_start : (code : List Instr) (lits : Cells) (stmts : List Stmt) (fs : List Frame) → code ≡ [] → fs ≡ [] → Built code lits (drop (length stmts) stmts) 0 (reverse fs)
built_start code lits stmts fs a b =
    subst (λ (xs : List Instr). Built xs lits (drop (length stmts) stmts) 0 (reverse fs)) (sym a)
    (subst (λ (gs : List Frame). Built [] lits (drop (length stmts) stmts) 0 (reverse gs)) (sym b)
    (subst (λ (ss : List Stmt). Built [] lits ss 0 []) (sym (drop_all stmts)) (built_nothing lits)))

-- all statements are taken: the instructions stand for them
pub built_whole : (code : List Instr) (lits : Cells) (stmts : List Stmt) (next : ℕ) (fs : List Frame) → Built code lits stmts next fs → next ≡ length code → StandsFor code lits stmts
built_whole code lits stmts next fs b linked = record {
  rest = b.rest;
  means = b.means;
  down = b.down;
  whole = λ g d. ap (λ n. b.rest g n d) (sym linked) ∙ b.here g d;
}

-- the same, by what the calls that add an instruction say
pub jump_by : (code new : List Instr) (lits : Cells) (stmts : List Stmt) (next n len : ℕ) (fs : List Frame) → Built code lits stmts next fs → n ≡ next → new ≡ code ++ Jump n ∷ [] → len ≡ length new → Built new lits stmts len fs × (len ≡ length new)
jump_by code new lits stmts next n len fs b is added length_is =
    let all : new ≡ code ++ Jump next ∷ [] = added ∙ ap (λ k. code ++ Jump k ∷ []) is in
    let longer : length (code ++ Jump next ∷ []) ≡ length code + 1 = length-append code (Jump next ∷ []) in
    let whole : Built new lits stmts (suc (length code)) fs = subst (λ xs. Built xs lits stmts (suc (length code)) fs) (sym all) (built_jump code lits stmts next fs b) in
    let at : len ≡ suc (length code) = length_is ∙ ap length all ∙ omega (arith, longer) in
    (subst (λ k. Built new lits stmts k fs) (sym at) whole, length_is)

pub put_by : (code made : List Instr) (lits : Cells) (old new : List Stmt) (next len : ℕ) (fs : List Frame) (i : Instr) → Built code lits old next fs → next ≡ length code → made ≡ code ++ i ∷ [] → len ≡ length made → Leads lits i old new → Built made lits new len fs
put_by code made lits old new next len fs i b linked added length_is leads =
    let longer : length (code ++ i ∷ []) ≡ length code + 1 = length-append code (i ∷ []) in
    let whole : Built made lits new (suc (length code)) fs = subst (λ xs. Built xs lits new (suc (length code)) fs) (sym added) (built_put code lits old new next fs i b linked leads) in
    let at : len ≡ suc (length code) = length_is ∙ ap length added ∙ omega (arith, longer) in
    subst (λ k. Built made lits new k fs) (sym at) whole

pub if_by : (code made : List Instr) (lits : Cells) (stmts : List Stmt) (next len reg other end : ℕ) (fs gs : List Frame) (top : Frame) → Built code lits stmts next fs → next ≡ length code → top ≡ frame_at fs 0 → ((n : ℕ) → frame_at gs n ≡ frame_at fs (suc n)) → other ≡ top.other → end ≡ top.end → made ≡ code ++ If reg other end ∷ [] → len ≡ length made → Built made lits (IfStmt reg ∷ stmts) len gs
if_by code made lits stmts next len reg other end fs gs top b linked top_is at other_is end_is added length_is =
    let o : other ≡ (frame_at fs 0).other = other_is ∙ ap (λ (f : Frame). f.other) top_is in
    let e : end ≡ (frame_at fs 0).end = end_is ∙ ap (λ (f : Frame). f.end) top_is in
    let i : Instr = If reg (frame_at fs 0).other (frame_at fs 0).end in
    let all : made ≡ code ++ i ∷ [] = added ∙ ap (λ k. code ++ If reg k end ∷ []) o ∙ ap (λ k. code ++ If reg (frame_at fs 0).other k ∷ []) e in
    let longer : length (code ++ i ∷ []) ≡ length code + 1 = length-append code (i ∷ []) in
    let whole : Built made lits (IfStmt reg ∷ stmts) (suc (length code)) gs = subst (λ xs. Built xs lits (IfStmt reg ∷ stmts) (suc (length code)) gs) (sym all) (built_if code lits stmts next reg fs gs b linked at) in
    let place : len ≡ suc (length code) = length_is ∙ ap length all ∙ omega (arith, longer) in
    subst (λ k. Built made lits (IfStmt reg ∷ stmts) k gs) (sym place) whole
