-- What the walk of an expression makes stands in its context.
use Rattle.std.proofs.Common.{◌≡◌, ℕ, ◌+◌, ◌<◌, ◌≤◌, Bool, true, false, List, [], ◌∷◌, length, slice_get, Option, Some, refl, sym, ap, subst, ◌∙◌, arith}
use Rattle.std.specs.List.{AllByRecursion}
use Rattle.std.specs.Option.{option_map}
use Rattle.zl_value.specs.declared.position.Pos.{Pos}
use Rattle.zl_value.specs.declared.value.Ty.{Ty}
use Rattle.zl_value.specs.declared.op.Op.{Op}
use Rattle.zl_value.specs.OperatorTypes.{type_of}
use Rattle.zl_value.specs.Lists.{among, when}
use Rattle.zl_ast.specs.Kinds as kinds
use Rattle.zl_ast.specs.declared.name.Name.{Name}
use Rattle.zl_ast.specs.declared.operator.Prefix.{Prefix}
use Rattle.zl_ast.specs.declared.operator.Prefix.TheVariants as prefix
use Rattle.zl_ast.specs.declared.operator.Infix.{Infix}
use Rattle.zl_ast.specs.declared.operator.FlowOp.{FlowOp}
use Rattle.zl_ast.specs.declared.operator.FlowOp.TheVariants as flow
use Rattle.zl_ast.specs.declared.program.DeclKind.{DeclKind}
use Rattle.zl_meaning.specs.FlatForm.{FlatForm}
use Rattle.zl_meaning.specs.Uses.{Use, PartOf, BranchOf, parts, part_uses}
use Rattle.zl_meaning.specs.Regular.{Context, context_of_block, is_hybrid_block, called_context, body_context, branch_context, part_context, form_in, use_context, use_call, IsUseIn, IsTestFor, IsAllowed, is_event, MarksNothing}
use Rattle.zl_meaning.specs.declared.occurrence.Form.{Form}
use Rattle.zl_meaning.specs.declared.occurrence.Form.TheVariants.{Op as Apply, If, Arrow, Pre, Result}
use Rattle.zl_meaning.specs.declared.occurrence.Occ.{Occ}
use Rattle.zl_flat.specs.declared.here.Here.{Here}
use Rattle.zl_flat.specs.declared.here.Root.{Root}
use Rattle.zl_flat.specs.Parts.{Parts, Counters, nothing, joined, one_occ, one_hidden, after, past_occ, past_hidden}
use Rattle.zl_flat.specs.Instances.{Copy, Callee, Instance, in_call, occ_here, callee, first_root, root_occs}
use Rattle.zl_flat.specs.Operators.{infix_form, prefix_form, prefix_type}
use Rattle.zl_flat.specs.Expressions.{Walk, Walked, WalkedAll, walk_all, one_result, leaf, LinkWalk, Linked, links, chain, call, built_in, prefixed, arrow, followed, flow_walk, conditional}
use Rattle.zl_flat.proofs.PartsNumbers.{below-second, below-alone, below-others, below-nothing, number-from, at-most, first-of}
use Rattle.zl_flat.proofs.WellFormedParts.{each-nothing, each-joined, each-left, each-right, occ-first, behind-occ, hidden-first, behind-hidden, each-one_occ, the_occ}
use Rattle.zl_flat.proofs.RegularGround.{flat, Suits, suits-body, suits-branch, flat-branch, Assigned, nothing_known, assigned-known, assigned-with, assigned-map, assigned-joined, assigned-nothing, assigned-occ, assigned-occ_first, assigned-hidden_first, UsedSo, PartsUsed, FormFits, OccRegular, lying, regular, Lies, IsRegularIn, AtBlock, BodyIs, Unused, IsResult, IsRoot, root-result}
use Rattle.zl_flat.proofs.RegularUses.{all-map, Taken, operands-taken, condition-taken}

-- ---- what a walk gives

-- with these contexts of occurrences
pub record Holds (f : FlatForm) (base : ℕ) (context : ℕ → Context) (here : Here) (s : Counters) (c : kinds.Context) (w : Walked) : Type 0 where
  pub root : context w.root.occ ≡ flat c
  pub results : AllByRecursion (λ (r : Root). context r.occ ≡ flat c) w.results
  pub parts : Unused f context here c w.root.occ → IsRegularIn f base context s w.parts

-- what is made here, in this context, stands in its context
pub record WalkRegular (f : FlatForm) (base : ℕ) (know : (ℕ → Context) → Type 0) (here : Here) (s : Counters) (c : kinds.Context) (w : Walked) : Type 0 where
  pub low : s.occs ≤ w.root.occ
  pub high : w.root.occ < (after s w.parts).occs
  pub root : IsRoot f here w.root.occ
  pub results : AllByRecursion (λ (r : Root). IsResult f here.block r.occ) w.results
  pub assigned : Assigned base know s w.parts (λ context. Holds f base context here s c w)

-- expressions one behind the other
pub record AllHold (f : FlatForm) (base : ℕ) (context : ℕ → Context) (here : Here) (s : Counters) (c : kinds.Context) (w : WalkedAll) : Type 0 where
  pub roots : AllByRecursion (λ (r : Root). context r.occ ≡ flat c) w.roots
  pub parts : AllByRecursion (λ (r : Root). Unused f context here c r.occ) w.roots → IsRegularIn f base context s w.parts

-- so do expressions one behind the other
pub record AllRegular (f : FlatForm) (base : ℕ) (know : (ℕ → Context) → Type 0) (here : Here) (s : Counters) (c : kinds.Context) (w : WalkedAll) : Type 0 where
  pub roots : AllByRecursion (λ (r : Root). IsRoot f here r.occ) w.roots
  pub assigned : Assigned base know s w.parts (λ context. AllHold f base context here s c w)

-- an operator with its right operand, behind this left operand
pub record StepRegular (f : FlatForm) (base : ℕ) (know : (ℕ → Context) → Type 0) (here : Here) (left : Root) (s : Counters) (c : kinds.Context) (w : Walked) : Type 0 where
  pub low : s.occs ≤ w.root.occ
  pub high : w.root.occ < (after s w.parts).occs
  pub root : IsRoot f here w.root.occ
  pub taken : Taken f left.occ
  pub assigned : Assigned base know s w.parts (λ context. context left.occ ≡ flat c → Holds f base context here s c w)

-- operators one behind the other
pub record LinksHold (f : FlatForm) (base : ℕ) (context : ℕ → Context) (here : Here) (left : Root) (s : Counters) (c : kinds.Context) (w : Linked) : Type 0 where
  pub root : context w.root.occ ≡ flat c
  pub first : Unused f context here c w.root.occ → Unused f context here c left.occ
  pub parts : Unused f context here c w.root.occ → IsRegularIn f base context s w.parts

-- the root of a chain has a number from the chain's first on
pub record LinksRegular (f : FlatForm) (base : ℕ) (know : (ℕ → Context) → Type 0) (here : Here) (m : ℕ) (left : Root) (s : Counters) (c : kinds.Context) (w : Linked) : Type 0 where
  pub low : m ≤ w.root.occ
  pub high : w.root.occ < (after s w.parts).occs
  pub root : IsRoot f here w.root.occ
  pub assigned : Assigned base know s w.parts (λ context. context left.occ ≡ flat c → LinksHold f base context here left s c w)

-- the copy of a call that has this context
pub record CopyHolds (f : FlatForm) (base : ℕ) (context : ℕ → Context) (s : Counters) (c : kinds.Context) (w : Copy) : Type 0 where
  pub results : AllByRecursion (λ (r : Root). context r.occ ≡ flat c) w.results
  pub parts : IsRegularIn f base context s w.parts

-- the copy of a call whose arguments are these
pub record CopyRegular (f : FlatForm) (base : ℕ) (here : Here) (roots : List Root) (s : Counters) (c : kinds.Context) (w : Copy) : Type 0 where
  pub some : 0 < length w.results
  pub results : AllByRecursion (λ (r : Root). IsResult f here.block r.occ) w.results
  pub assigned : Assigned base nothing_known s w.parts (λ context. BodyIs f context here c → AllByRecursion (λ (r : Root). context r.occ ≡ flat c) roots → CopyHolds f base context s c w)

-- ---- numbers

-- an occurrence that stands first has the next number
own-low : (n : ℕ) → n ≤ n
own-low n = omega arith

-- a number below another isn't the other
differ : (a b c : ℕ) → a < b → b ≤ c → a ≡ c → ⊥
differ a b c h k e = omega (arith, h, k, e)

-- ---- one occurrence

module _ (f : FlatForm) where
  -- what is used so in its block
  pub used-by : (context : ℕ → Context) (b k : ℕ) (h : Bool) (of : Use) → is_hybrid_block f b ≡ h → (occ : Occ) → slice_get f.occs k ≡ Some occ → occ.block ≡ b → context k ≡ use_context context (form_in f) (context_of_block h) of →
      IsUseIn (called_context context (context_of_block h) (use_call occ.call of)) of → IsTestFor h of occ.form → UsedSo f context k of
  used-by context b k h of at occ is block stands equation test =
      let e : h ≡ is_hybrid_block f occ.block = sym (ap (is_hybrid_block f) block ∙ at) in
      record {
        occ = occ;
        is = is;
        stands = subst (λ g. context k ≡ use_context context (form_in f) (context_of_block g) of) e stands;
        equation = subst (λ g. IsUseIn (called_context context (context_of_block g) (use_call occ.call of)) of) e equation;
        test = subst (λ g. IsTestFor g of occ.form) e test;
      }

  -- the same of a root or result
  pub used : (context : ℕ → Context) (b k : ℕ) (h : Bool) (of : Use) → is_hybrid_block f b ≡ h → (r : IsResult f b k) → context k ≡ use_context context (form_in f) (context_of_block h) of →
      IsUseIn (called_context context (context_of_block h) (use_call r.occ.call of)) of → IsTestFor h of r.occ.form → UsedSo f context k of
  used context b k h of at r stands equation test = used-by context b k h of at r.occ r.is r.block stands equation test

  -- an occurrence's form
  form-is : (n : ℕ) (occ : Occ) → slice_get f.occs n ≡ Some occ → form_in f n ≡ Some occ.form
  form-is n occ is = ap (option_map (λ (o : Occ). o.form)) is

  -- a part of the occurrence here
  pub part-used : (context : ℕ → Context) (here : Here) (n k : ℕ) (ty : Ty) (at : Pos) (form : Form) → AtBlock f here → slice_get f.occs n ≡ Some (occ_here here ty at form) → IsResult f here.block k →
      context k ≡ part_context (context_of_block here.hybrid) (context n) (Some form) → UsedSo f context k (PartOf n)
  part-used context here n k ty at form hb is r e =
      used context here.block k here.hybrid (PartOf n) hb r (e ∙ ap (part_context (context_of_block here.hybrid) (context n)) (sym (form-is n (occ_here here ty at form) is))) tt r.value

  -- a branch of the `if` here
  branch-used : (context : ℕ → Context) (here : Here) (n k condition : ℕ) (side : Bool) (c : kinds.Context) → AtBlock f here → IsResult f here.block k → context n ≡ flat c → context k ≡ flat (kinds.branch_context c) → UsedSo f context k (BranchOf n condition side)
  branch-used context here n k condition side c hb r own e = used context here.block k here.hybrid (BranchOf n condition side) hb r (e ∙ flat-branch c ∙ ap branch_context (sym own)) tt r.value

  -- the occurrence itself
  pub occ-regular : (context : ℕ → Context) (here : Here) (n : ℕ) (c : kinds.Context) (ty : Ty) (at : Pos) (form : Form) → AtBlock f here → context n ≡ flat c → IsAllowed (flat c) form → Unused f context here c n → PartsUsed f context n form → FormFits f context n form → OccRegular f context n (occ_here here ty at form)
  occ-regular context here n c ty at form hb e allowed unused parts fits = record {
    allowed = subst (λ d. IsAllowed d form) (sym e) allowed;
    unused = λ free. e ∙ unused free ∙ ap (λ g. called_context context (context_of_block g) here.call) (sym hb);
    parts = parts;
    fits = fits;
  }

  -- what is used needs no context of its body
  pub taken-unused : (context : ℕ → Context) (here : Here) (c : kinds.Context) (k : ℕ) → Taken f k → Unused f context here c k
  taken-unused context here c k taken free = absurd (taken free)

  -- nor do several that are
  pub all-taken : (context : ℕ → Context) (here : Here) (c : kinds.Context) (rs : List Root) → AllByRecursion (Taken f) (root_occs rs) → AllByRecursion (λ (r : Root). Unused f context here c r.occ) rs
  all-taken context here c [] h = tt
  all-taken context here c (r ∷ rs) h = (taken-unused context here c r.occ h.0, all-taken context here c rs h.1)

-- a declaration of this kind, called
abbrev pub CalleeRegular : FlatForm → ℕ → DeclKind → Callee → Type 0
CalleeRegular f base kind w = (here : Here) (roots : List Root) (s : Counters) (c : kinds.Context) → kinds.allows_call (Some kind) c ≡ true → AtBlock f here → Suits here.hybrid c → AllByRecursion (λ (r : Root). IsResult f here.block r.occ) roots →
    Lies f base s (w here roots s).parts → CopyRegular f base here roots s c (w here roots s)

-- ---- forms of expressions

module _ (f : FlatForm) (base : ℕ) (know : (ℕ → Context) → Type 0) where
  -- what is made in this context where it is to stand
  abbrev pub RegularAt : Here → Counters → kinds.Context → Walked → Type 0
  RegularAt here s c w = AtBlock f here → Suits here.hybrid c → Lies f base s w.parts → WalkRegular f base know here s c w

  -- the walk of an expression, and that of an operator with its right operand
  abbrev pub WalkIn : kinds.Context → Walk → Type 0
  WalkIn c w = (here : Here) (s : Counters) → RegularAt here s c (w here s)

  abbrev pub LinkIn : kinds.Context → LinkWalk → Type 0
  LinkIn c l = (here : Here) (left : Root) (s : Counters) → AtBlock f here → Suits here.hybrid c → IsRoot f here left.occ → Lies f base s (l here left s).parts → StepRegular f base know here left s c (l here left s)

  -- expressions one behind the other stand in their context
  pub walk_all-regular : (c : kinds.Context) (ws : List Walk) → AllByRecursion (WalkIn c) ws → (here : Here) (s : Counters) → AtBlock f here → Suits here.hybrid c → Lies f base s (walk_all ws here s).parts → AllRegular f base know here s c (walk_all ws here s)
  walk_all-regular c [] h here s hb hs lies = record {
    roots = tt;
    assigned = assigned-map base know s nothing (λ context. Unit {0}) (λ context. AllHold f base context here s c (walk_all [] here s)) (λ context h. record { roots = tt; parts = λ u. each-nothing (regular f base context) s }) (assigned-nothing base know s);
  }
  walk_all-regular c (w ∷ ws) h here s hb hs lies =
      let first = w here s in
      let t = after s first.parts in
      let rest = walk_all ws here t in
      let a = h.0 here s hb hs (each-left (lying f base) s first.parts rest.parts lies) in
      let b = walk_all-regular c ws h.1 here t hb hs (each-right (lying f base) s first.parts rest.parts lies) in
      record {
        roots = (a.root, b.roots);
        assigned = assigned-map base know s (joined first.parts rest.parts) (λ context. Holds f base context here s c first × AllHold f base context here t c rest) (λ context. AllHold f base context here s c (walk_all (w ∷ ws) here s))
            (λ context h. record { roots = (h.0.root, h.1.roots); parts = λ u. each-joined (regular f base context) s first.parts rest.parts (h.0.parts u.0) (h.1.parts u.1) })
            (assigned-joined base know s first.parts rest.parts (λ context. Holds f base context here s c first) (λ context. AllHold f base context here t c rest) a.assigned b.assigned);
      }

  -- an occurrence without parts
  pub leaf-regular : (c : kinds.Context) (ty : Ty) (at : Pos) (form : Form) (here : Here) (s : Counters) → is_event form ≡ false → MarksNothing form → IsAllowed (flat c) form → ((context : ℕ → Context) → PartsUsed f context s.occs form) → ((context : ℕ → Context) → know context → FormFits f context s.occs form) → RegularAt here s c (leaf here ty at form s)
  leaf-regular c ty at form here s value marks allowed none fits hb hs lies =
      let own = occ_here here ty at form in
      let is = the_occ (lying f base) s own lies in
      let root : IsRoot f here s.occs = record { occ = own; is = is; block = refl; call = refl; value = value; marks = marks } in
      record {
        low = own-low s.occs;
        high = below-alone s own;
        root = root;
        results = (root-result f here s.occs root, tt);
        assigned = assigned-map base know s (one_occ own) (λ context. (context s.occs ≡ flat c) × know context) (λ context. Holds f base context here s c (leaf here ty at form s))
            (λ context e. record { root = e.0; results = (e.0, tt); parts = λ u. each-one_occ (regular f base context) s own (occ-regular f context here s.occs c ty at form hb e.0 allowed u (none context) (fits context e.1)) })
            (assigned-with base know s (one_occ own) (λ context. context s.occs ≡ flat c) (assigned-occ base know s own (flat c)));
      }

  -- what is made inside an occurrence that stands before what it is made of, where this is known of what stands before it
  pub record InsideOf (here : Here) (s : Counters) (c : kinds.Context) (form : Form) (q : Parts) (P : (ℕ → Context) → Type 0) : Type 0 where
    pub value : is_event form ≡ false
    pub marks : MarksNothing form
    pub allowed : IsAllowed (flat c) form
    pub fits : (context : ℕ → Context) → FormFits f context s.occs form
    pub assigned : Assigned base know (past_occ s) q (λ context. P context → context s.occs ≡ flat c → PartsUsed f context s.occs form × IsRegularIn f base context (past_occ s) q)

  -- what such an occurrence with its parts gives
  pub record GivenRegular (here : Here) (s : Counters) (c : kinds.Context) (P : (ℕ → Context) → Type 0) (w : Walked) : Type 0 where
    pub low : s.occs ≤ w.root.occ
    pub high : w.root.occ < (after s w.parts).occs
    pub root : IsRoot f here w.root.occ
    pub results : AllByRecursion (λ (r : Root). IsResult f here.block r.occ) w.results
    pub assigned : Assigned base know s w.parts (λ context. P context → Holds f base context here s c w)

  -- an occurrence before what it is made of stands in its context, and so do its parts
  pub whole-given : (c : kinds.Context) (P : (ℕ → Context) → Type 0) (ty : Ty) (at : Pos) (form : Form) (q : Parts) (here : Here) (s : Counters) →
      (Lies f base (past_occ s) q → slice_get f.occs s.occs ≡ Some (occ_here here ty at form) → InsideOf here s c form q P) →
      AtBlock f here → Lies f base s (joined (one_occ (occ_here here ty at form)) q) → GivenRegular here s c P (one_result (joined (one_occ (occ_here here ty at form)) q) s.occs ty)
  whole-given c P ty at form q here s inside hb lies =
      let own = occ_here here ty at form in
      let whole = one_result (joined (one_occ own) q) s.occs ty in
      let both = behind-occ (lying f base) s own q lies in
      let a = inside both.1 both.0 in
      let root : IsRoot f here s.occs = record { occ = own; is = both.0; block = refl; call = refl; value = a.value; marks = a.marks } in
      let Q : (ℕ → Context) → Type 0 = λ context. P context → context s.occs ≡ flat c → PartsUsed f context s.occs form × IsRegularIn f base context (past_occ s) q in
      record {
        low = own-low s.occs;
        high = below-others s own q;
        root = root;
        results = (root-result f here s.occs root, tt);
        assigned = assigned-map base know s (joined (one_occ own) q) (λ context. (context s.occs ≡ flat c) × Q context) (λ context. P context → Holds f base context here s c whole)
            (λ context h p.
            let g = h.1 p h.0 in
            record { root = h.0; results = (h.0, tt); parts = λ u. occ-first (regular f base context) s own q (occ-regular f context here s.occs c ty at form hb h.0 a.allowed u g.0 (a.fits context)) g.1 })
            (assigned-occ_first base know s q Q own (flat c) a.assigned);
      }

  -- the same where nothing stands before it
  pub whole-regular : (c : kinds.Context) (ty : Ty) (at : Pos) (form : Form) (q : Parts) (here : Here) (s : Counters) →
      (Lies f base (past_occ s) q → slice_get f.occs s.occs ≡ Some (occ_here here ty at form) → InsideOf here s c form q (λ context. Unit {0})) → RegularAt here s c (one_result (joined (one_occ (occ_here here ty at form)) q) s.occs ty)
  whole-regular c ty at form q here s inside hb hs lies =
      let whole = one_result (joined (one_occ (occ_here here ty at form)) q) s.occs ty in
      let a = whole-given c (λ context. Unit {0}) ty at form q here s inside hb lies in
      record {
        low = a.low;
        high = a.high;
        root = a.root;
        results = a.results;
        assigned = assigned-map base know s whole.parts (λ context. Unit {0} → Holds f base context here s c whole) (λ context. Holds f base context here s c whole) (λ context h. h tt) a.assigned;
      }

  -- ---- operators

  -- the operands of an operator have the operator's context
  operands-used : (context : ℕ → Context) (here : Here) (n : ℕ) (ty : Ty) (at : Pos) (op : Op) (ks : List ℕ) (c : kinds.Context) → AtBlock f here → slice_get f.occs n ≡ Some (occ_here here ty at (Apply op ks)) → context n ≡ flat c →
      (rs : List Root) → AllByRecursion (λ (r : Root). IsRoot f here r.occ) rs → AllByRecursion (λ (r : Root). context r.occ ≡ flat c) rs → AllByRecursion (λ k. UsedSo f context k (PartOf n)) (root_occs rs)
  operands-used context here n ty at op ks c hb is own [] h e = tt
  operands-used context here n ty at op ks c hb is own (r ∷ rs) h e =
      (part-used f context here n r.occ ty at (Apply op ks) hb is (root-result f here r.occ h.0) (e.0 ∙ sym own), operands-used context here n ty at op ks c hb is own rs h.1 e.1)

  -- a built-in function
  pub built_in-regular : (c : kinds.Context) (names : List (List ℕ)) (i : Instance) (op : Op) (at : Pos) (args : List Walk) → AllByRecursion (WalkIn c) args → WalkIn c (built_in base names i op at args)
  built_in-regular c names i op at args h here s hb hs lies =
      let t = past_occ s in
      let arguments = walk_all args here t in
      let ks = root_occs arguments.roots in
      let ty = (type_of op).result in
      let form = Apply op ks in
      whole-regular c ty at form arguments.parts here s
      (λ inside is.
      let a = walk_all-regular c args h here t hb hs inside in
      record {
        value = refl;
        marks = tt;
        allowed = tt;
        fits = λ context. tt;
        assigned = assigned-map base know t arguments.parts (λ context. AllHold f base context here t c arguments) (λ context. Unit {0} → context s.occs ≡ flat c → PartsUsed f context s.occs form × IsRegularIn f base context t arguments.parts)
            (λ context g p own. (
              operands-used context here s.occs ty at op ks c hb is own arguments.roots a.roots g.roots,
              g.parts (all-taken f context here c arguments.roots (operands-taken f s.occs (occ_here here ty at form) ks is (λ k. refl))),
            ))
            a.assigned;
      })
      hb hs lies

  -- an operator with one operand, of which the context is that of its parts
  one-operand : (c d : kinds.Context) (at : Pos) (form : ℕ → Form) (x : Walk) → ((k : ℕ) → is_event (form k) ≡ false) → ((k : ℕ) → MarksNothing (form k)) → ((k : ℕ) → IsAllowed (flat c) (form k)) → ((k n : ℕ) (context : ℕ → Context) → FormFits f context n (form k)) → ((h : Bool) → Suits h c → Suits h d) →
      ((k : ℕ) (b : Context) → part_context b (flat c) (Some (form k)) ≡ flat d) → ((k j n : ℕ) → part_uses j n (form k) ≡ when (among j (k ∷ [])) (PartOf n)) →
      ((context : ℕ → Context) (n k : ℕ) → UsedSo f context k (PartOf n) → PartsUsed f context n (form k)) → WalkIn d x →
      (here : Here) (s : Counters) (of : Root → Ty) → RegularAt here s c (one_result (joined (one_occ (occ_here here (of (x here (past_occ s)).root) at (form (x here (past_occ s)).root.occ))) (x here (past_occ s)).parts) s.occs (of (x here (past_occ s)).root))
  one-operand c d at form x value marks allowed fits suits part uses parts hx here s of hb hs lies =
      let t = past_occ s in
      let operand = x here t in
      let k = operand.root.occ in
      let own_ty = of operand.root in
      whole-regular c own_ty at (form k) operand.parts here s
      (λ inside is.
      let a = hx here t hb (suits here.hybrid hs) inside in
      let own = occ_here here own_ty at (form k) in
      record {
        value = value k;
        marks = marks k;
        allowed = allowed k;
        fits = λ context. fits k s.occs context;
        assigned = assigned-map base know t operand.parts (λ context. Holds f base context here t d operand) (λ context. Unit {0} → context s.occs ≡ flat c → PartsUsed f context s.occs (form k) × IsRegularIn f base context t operand.parts)
            (λ context g p e. (
              parts context s.occs k (part-used f context here s.occs k own_ty at (form k) hb is (root-result f here k a.root)
                  (g.root ∙ sym (part k (context_of_block here.hybrid)) ∙ ap (λ b. part_context (context_of_block here.hybrid) b (Some (form k))) (sym e))),
              g.parts (taken-unused f context here d k (operands-taken f s.occs own (k ∷ []) is (λ j. uses k j s.occs)).0),
            ))
            a.assigned;
      })
      hb hs lies

  -- a context suits where it does
  same-suits : (c : kinds.Context) (h : Bool) → Suits h c → Suits h c
  same-suits c h s = s

  -- an operator before its operand
  pub prefixed-regular : (c : kinds.Context) (names : List (List ℕ)) (i : Instance) (op : Prefix) (at : Pos) (x : Walk) → kinds.allows_prefix op c ≡ true → WalkIn (kinds.operand_context op c) x → WalkIn c (prefixed base names i op at x)
  prefixed-regular c names i prefix.Minus at x ok hx here s = one-operand c c at (prefix_form prefix.Minus) x (λ k. refl) (λ k. tt) (λ k. tt) (λ k n context. tt) (same-suits c) (λ k b. refl) (λ k j n. refl) (λ context n k h. (h, tt)) hx here s (λ r. prefix_type prefix.Minus r.ty)
  prefixed-regular c names i prefix.MinusDot at x ok hx here s = one-operand c c at (prefix_form prefix.MinusDot) x (λ k. refl) (λ k. tt) (λ k. tt) (λ k n context. tt) (same-suits c) (λ k b. refl) (λ k j n. refl) (λ context n k h. (h, tt)) hx here s (λ r. prefix_type prefix.MinusDot r.ty)
  prefixed-regular c names i prefix.Not at x ok hx here s = one-operand c c at (prefix_form prefix.Not) x (λ k. refl) (λ k. tt) (λ k. tt) (λ k n context. tt) (same-suits c) (λ k b. refl) (λ k j n. refl) (λ context n k h. (h, tt)) hx here s (λ r. prefix_type prefix.Not r.ty)
  prefixed-regular kinds.combinatorial names i prefix.Pre at x ok hx here s = absurd (cc)
  prefixed-regular kinds.recalling names i prefix.Pre at x ok hx here s = absurd (cc)
  prefixed-regular kinds.hybrid names i prefix.Pre at x ok hx here s = absurd (cc)
  prefixed-regular kinds.discrete names i prefix.Pre at x ok hx here s = one-operand kinds.discrete kinds.discrete at (prefix_form prefix.Pre) x (λ k. refl) (λ k. tt) (λ k. refl) (λ k n context. tt) (same-suits kinds.discrete) (λ k b. refl) (λ k j n. refl) (λ context n k h. (h, tt)) hx here s (λ r. prefix_type prefix.Pre r.ty)

  -- an operator with its right operand, behind its left one
  pub link-regular : (c : kinds.Context) (op : Infix) (at : Pos) (x : Walk) → WalkIn c x →
      LinkIn c (λ here left s. one_result (joined (one_occ (occ_here here (type_of (infix_form op left.ty)).result at (Apply (infix_form op left.ty) (left.occ ∷ (x here (past_occ s)).root.occ ∷ [])))) (x here (past_occ s)).parts) s.occs (type_of (infix_form op left.ty)).result)
  link-regular c op at x hx here left s hb hs r lies =
      let t = past_occ s in
      let right = x here t in
      let ty = (type_of (infix_form op left.ty)).result in
      let ks = left.occ ∷ right.root.occ ∷ [] in
      let form = Apply (infix_form op left.ty) ks in
      let own = occ_here here ty at form in
      let is = (behind-occ (lying f base) s own right.parts lies).0 in
      let taken = operands-taken f s.occs own ks is (λ k. refl) in
      let P : (ℕ → Context) → Type 0 = λ context. context left.occ ≡ flat c in
      let a = whole-given c P ty at form right.parts here s
      (λ inside is.
      let b = hx here t hb hs inside in
      record {
        value = refl;
        marks = tt;
        allowed = tt;
        fits = λ context. tt;
        assigned = assigned-map base know t right.parts (λ context. Holds f base context here t c right) (λ context. P context → context s.occs ≡ flat c → PartsUsed f context s.occs form × IsRegularIn f base context t right.parts)
            (λ context g p e. (
              (part-used f context here s.occs left.occ ty at form hb is (root-result f here left.occ r) (p ∙ sym e), (part-used f context here s.occs right.root.occ ty at form hb is (root-result f here right.root.occ b.root) (g.root ∙ sym e), tt)),
              g.parts (taken-unused f context here c right.root.occ taken.1.0),
            ))
            b.assigned;
      })
      hb lies in
      record { low = a.low; high = a.high; root = a.root; taken = taken.0; assigned = a.assigned }

  -- operators of one level
  pub links-regular : (c : kinds.Context) (ls : List LinkWalk) → AllByRecursion (LinkIn c) ls → (here : Here) (m : ℕ) (left : Root) (s : Counters) → m ≤ left.occ → m ≤ s.occs → left.occ < s.occs → AtBlock f here → Suits here.hybrid c → IsRoot f here left.occ →
      Lies f base s (links ls here left s).parts → LinksRegular f base know here m left s c (links ls here left s)
  links-regular c [] h here m left s le_left le_here lt hb hs r lies = record {
    low = le_left;
    high = below-nothing s left.occ lt;
    root = r;
    assigned = assigned-map base know s nothing (λ context. Unit {0}) (λ context. context left.occ ≡ flat c → LinksHold f base context here left s c (links [] here left s))
        (λ context h e. record { root = e; first = λ u. u; parts = λ u. each-nothing (regular f base context) s }) (assigned-nothing base know s);
  }
  links-regular c (l ∷ ls) h here m left s le_left le_here lt hb hs r lies =
      let one = l here left s in
      let t = after s one.parts in
      let rest = links ls here one.root t in
      let a = h.0 here left s hb hs r (each-left (lying f base) s one.parts rest.parts lies) in
      let b = links-regular c ls h.1 here m one.root t (at-most m s.occs one.root.occ le_here a.low) (at-most m s.occs t.occs le_here (number-from s one.parts)) a.high hb hs a.root (each-right (lying f base) s one.parts rest.parts lies) in
      record {
        low = b.low;
        high = below-second s one.parts rest.parts rest.root.occ b.high;
        root = b.root;
        assigned = assigned-map base know s (joined one.parts rest.parts)
            (λ context. (context left.occ ≡ flat c → Holds f base context here s c one) × (context one.root.occ ≡ flat c → LinksHold f base context here one.root t c rest))
            (λ context. context left.occ ≡ flat c → LinksHold f base context here left s c (links (l ∷ ls) here left s))
            (λ context g e.
            let x = g.0 e in
            let y = g.1 x.root in
            record { root = y.root; first = λ u. taken-unused f context here c left.occ a.taken; parts = λ u. each-joined (regular f base context) s one.parts rest.parts (x.parts (y.first u)) (y.parts u) })
            (assigned-joined base know s one.parts rest.parts (λ context. context left.occ ≡ flat c → Holds f base context here s c one) (λ context. context one.root.occ ≡ flat c → LinksHold f base context here one.root t c rest) a.assigned b.assigned);
      }

  pub chain-regular : (c : kinds.Context) (x : Walk) (ls : List LinkWalk) → WalkIn c x → AllByRecursion (LinkIn c) ls → WalkIn c (chain x ls)
  chain-regular c x ls hx hls here s hb hs lies =
      let first = x here s in
      let t = after s first.parts in
      let rest = links ls here first.root t in
      let a = hx here s hb hs (each-left (lying f base) s first.parts rest.parts lies) in
      let b = links-regular c ls hls here s.occs first.root t a.low (number-from s first.parts) a.high hb hs a.root (each-right (lying f base) s first.parts rest.parts lies) in
      record {
        low = b.low;
        high = below-second s first.parts rest.parts rest.root.occ b.high;
        root = b.root;
        results = (root-result f here rest.root.occ b.root, tt);
        assigned = assigned-map base know s (joined first.parts rest.parts)
            (λ context. Holds f base context here s c first × (context first.root.occ ≡ flat c → LinksHold f base context here first.root t c rest))
            (λ context. Holds f base context here s c (chain x ls here s))
            (λ context g.
            let y = g.1 g.0.root in
            record { root = y.root; results = (y.root, tt); parts = λ u. each-joined (regular f base context) s first.parts rest.parts (g.0.parts (y.first u)) (y.parts u) })
            (assigned-joined base know s first.parts rest.parts (λ context. Holds f base context here s c first) (λ context. context first.root.occ ≡ flat c → LinksHold f base context here first.root t c rest) a.assigned b.assigned);
      }

  -- ---- `if`, `->`, `fby`

  -- `if`: its branches have numbers that differ
  pub conditional-regular : (c : kinds.Context) (names : List (List ℕ)) (i : Instance) (at : Pos) (z x y : Walk) → WalkIn c z → WalkIn (kinds.branch_context c) x → WalkIn (kinds.branch_context c) y → WalkIn c (conditional base names i at z x y)
  conditional-regular c names i at z x y hz hx hy here s hb hs lies =
      let d = kinds.branch_context c in
      let t = past_occ s in
      let test = z here t in
      let u = after t test.parts in
      let left = x here u in
      let v = after u left.parts in
      let right = y here v in
      let form = If test.root.occ left.root.occ right.root.occ in
      let branches = joined left.parts right.parts in
      let own = occ_here here left.root.ty at form in
      whole-regular c left.root.ty at form (joined test.parts branches) here s
      (λ inside is.
      let behind = each-right (lying f base) t test.parts branches inside in
      let suits = suits-branch here.hybrid c in
      let a = hz here t hb hs (each-left (lying f base) t test.parts branches inside) in
      let b = hx here u hb suits (each-left (lying f base) u left.parts right.parts behind) in
      let e = hy here v hb suits (each-right (lying f base) u left.parts right.parts behind) in
      let taken = condition-taken f s.occs own test.root.occ left.root.occ right.root.occ is refl in
      let A : (ℕ → Context) → Type 0 = λ context. Holds f base context here t c test in
      let B : (ℕ → Context) → Type 0 = λ context. Holds f base context here u d left in
      let D : (ℕ → Context) → Type 0 = λ context. Holds f base context here v d right in
      record {
        value = refl;
        marks = λ same. differ left.root.occ v.occs right.root.occ b.high e.low same;
        allowed = tt;
        fits = λ context. tt;
        assigned = assigned-map base know t (joined test.parts branches) (λ context. A context × (B context × D context)) (λ context. Unit {0} → context s.occs ≡ flat c → PartsUsed f context s.occs form × IsRegularIn f base context t (joined test.parts branches))
            (λ context g p own_is. (
              (
                part-used f context here s.occs test.root.occ left.root.ty at form hb is (root-result f here test.root.occ a.root) (g.0.root ∙ sym own_is),
                branch-used f context here s.occs left.root.occ test.root.occ true c hb (root-result f here left.root.occ b.root) own_is g.1.0.root,
                branch-used f context here s.occs right.root.occ test.root.occ false c hb (root-result f here right.root.occ e.root) own_is g.1.1.root,
              ),
              each-joined (regular f base context) t test.parts branches (g.0.parts (taken-unused f context here c test.root.occ taken.0))
                  (each-joined (regular f base context) u left.parts right.parts (g.1.0.parts (taken-unused f context here d left.root.occ taken.1)) (g.1.1.parts (taken-unused f context here d right.root.occ taken.2))),
            ))
            (assigned-joined base know t test.parts branches A (λ context. B context × D context) a.assigned (assigned-joined base know u left.parts right.parts B D b.assigned e.assigned));
      })
      hb hs lies

  -- `->`
  pub arrow-regular : (names : List (List ℕ)) (i : Instance) (at : Pos) (x y : Walk) → WalkIn kinds.discrete x → WalkIn kinds.discrete y → WalkIn kinds.discrete (arrow base names i at x y)
  arrow-regular names i at x y hx hy here s hb hs lies =
      let c = kinds.discrete in
      let left = x here s in
      let t = after s left.parts in
      let right = y here (past_occ t) in
      let ks = left.root.occ ∷ right.root.occ ∷ [] in
      let form = Arrow left.root.occ right.root.occ in
      let ty = left.root.ty in
      let own = occ_here here ty at form in
      let rest = joined (one_occ own) right.parts in
      let whole = one_result rest t.occs ty in
      let behind = each-right (lying f base) s left.parts rest lies in
      let is = (behind-occ (lying f base) t own right.parts behind).0 in
      let taken = operands-taken f t.occs own ks is (λ k. refl) in
      let a = hx here s hb hs (each-left (lying f base) s left.parts rest lies) in
      let P : (ℕ → Context) → Type 0 = λ context. context left.root.occ ≡ flat c in
      let b = whole-given c P ty at form right.parts here t
      (λ inside is.
      let e = hy here (past_occ t) hb hs inside in
      record {
        value = refl;
        marks = tt;
        allowed = refl;
        fits = λ context. tt;
        assigned = assigned-map base know (past_occ t) right.parts (λ context. Holds f base context here (past_occ t) c right) (λ context. P context → context t.occs ≡ flat c → PartsUsed f context t.occs form × IsRegularIn f base context (past_occ t) right.parts)
            (λ context g p own_is. (
              (part-used f context here t.occs left.root.occ ty at form hb is (root-result f here left.root.occ a.root) p, (part-used f context here t.occs right.root.occ ty at form hb is (root-result f here right.root.occ e.root) g.root, tt)),
              g.parts (taken-unused f context here c right.root.occ taken.1.0),
            ))
            e.assigned;
      })
      hb behind in
      record {
        low = number-from s left.parts;
        high = below-second s left.parts rest t.occs b.high;
        root = b.root;
        results = b.results;
        assigned = assigned-map base know s (joined left.parts rest) (λ context. Holds f base context here s c left × (P context → Holds f base context here t c whole)) (λ context. Holds f base context here s c (arrow base names i at x y here s))
            (λ context g.
            let w = g.1 g.0.root in
            record { root = w.root; results = w.results; parts = λ u. each-joined (regular f base context) s left.parts rest (g.0.parts (taken-unused f context here c left.root.occ taken.0)) (w.parts u) })
            (assigned-joined base know s left.parts rest (λ context. Holds f base context here s c left) (λ context. P context → Holds f base context here t c whole) a.assigned b.assigned);
      }

  -- an occurrence adds no hidden one
  same-hidden : (t : Counters) → base + (past_occ t).hidden ≡ base + t.hidden
  unfolding past_occ
  same-hidden t = refl

  -- `fby`, with its hidden `pre`
  pub followed-regular : (names : List (List ℕ)) (i : Instance) (at : Pos) (x y : Walk) → WalkIn kinds.discrete x → WalkIn kinds.discrete y → WalkIn kinds.discrete (followed base names i at x y)
  followed-regular names i at x y hx hy here s hb hs lies =
      let c = kinds.discrete in
      let left = x here s in
      let t = after s left.parts in
      let k = base + t.hidden in
      let v = past_hidden (past_occ t) in
      let right = y here v in
      let ks = left.root.occ ∷ k ∷ [] in
      let form = Arrow left.root.occ k in
      let ty = left.root.ty in
      let own = occ_here here ty at form in
      let pre = occ_here here ty at (Pre right.root.occ) in
      let inner = joined (one_hidden pre) right.parts in
      let rest = joined (one_occ own) inner in
      let whole = one_result rest t.occs ty in
      let behind = each-right (lying f base) s left.parts rest lies in
      let is = (behind-occ (lying f base) t own inner behind).0 in
      let taken = operands-taken f t.occs own ks is (λ k. refl) in
      let a = hx here s hb hs (each-left (lying f base) s left.parts rest lies) in
      let P : (ℕ → Context) → Type 0 = λ context. context left.root.occ ≡ flat c in
      let Q : (ℕ → Context) → Type 0 = λ context. Holds f base context here v c right in
      let number = same-hidden t in
      let b = whole-given c P ty at form inner here t
      (λ inside is.
      let both = behind-hidden (lying f base) (past_occ t) pre right.parts inside in
      let pre_is = subst (λ n. slice_get f.occs n ≡ Some pre) number both.0 in
      let e = hy here v hb hs both.1 in
      let pre_takes = operands-taken f k pre (right.root.occ ∷ []) pre_is (λ k. refl) in
      record {
        value = refl;
        marks = tt;
        allowed = refl;
        fits = λ context. tt;
        assigned = assigned-map base know (past_occ t) inner (λ context. (context (base + (past_occ t).hidden) ≡ flat c) × Q context) (λ context. P context → context t.occs ≡ flat c → PartsUsed f context t.occs form × IsRegularIn f base context (past_occ t) inner)
            (λ context g p own_is.
            let pre_context = subst (λ n. context n ≡ flat c) number g.0 in (
              (
                part-used f context here t.occs left.root.occ ty at form hb is (root-result f here left.root.occ a.root) p,
                (part-used f context here t.occs k ty at form hb is (record { occ = pre; is = pre_is; block = refl; value = refl }) pre_context, tt),
              ),
              hidden-first (regular f base context) (past_occ t) pre right.parts
                  (subst (λ n. OccRegular f context n pre) (sym number)
                  (occ-regular f context here k c ty at (Pre right.root.occ) hb pre_context refl (taken-unused f context here c k taken.1.0)
                  (part-used f context here k right.root.occ ty at (Pre right.root.occ) hb pre_is (root-result f here right.root.occ e.root) g.1.root, tt) tt))
                  (g.1.parts (taken-unused f context here c right.root.occ pre_takes.0)),
            ))
            (assigned-hidden_first base know (past_occ t) right.parts Q pre (flat c) e.assigned);
      })
      hb behind in
      record {
        low = number-from s left.parts;
        high = below-second s left.parts rest t.occs b.high;
        root = b.root;
        results = b.results;
        assigned = assigned-map base know s (joined left.parts rest) (λ context. Holds f base context here s c left × (P context → Holds f base context here t c whole)) (λ context. Holds f base context here s c (followed base names i at x y here s))
            (λ context g.
            let w = g.1 g.0.root in
            record { root = w.root; results = w.results; parts = λ u. each-joined (regular f base context) s left.parts rest (g.0.parts (taken-unused f context here c left.root.occ taken.0)) (w.parts u) })
            (assigned-joined base know s left.parts rest (λ context. Holds f base context here s c left) (λ context. P context → Holds f base context here t c whole) a.assigned b.assigned);
      }

  -- both are discrete
  pub flow-regular : (c : kinds.Context) (names : List (List ℕ)) (i : Instance) (op : FlowOp) (at : Pos) (x y : Walk) → kinds.is_discrete c ≡ true → WalkIn kinds.discrete x → WalkIn kinds.discrete y → WalkIn c (flow_walk base names i op at x y)
  flow-regular kinds.combinatorial names i op at x y ok hx hy here s = absurd (cc)
  flow-regular kinds.recalling names i op at x y ok hx hy here s = absurd (cc)
  flow-regular kinds.hybrid names i op at x y ok hx hy here s = absurd (cc)
  flow-regular kinds.discrete names i flow.Arrow at x y ok hx hy here s = arrow-regular names i at x y hx hy here s
  flow-regular kinds.discrete names i flow.Fby at x y ok hx hy here s = followed-regular names i at x y hx hy here s

  -- ---- calls

  -- a call of what was found by the name
  abbrev called : Option Callee → Pos → List Walk → Walk
  called o at args here s =
      let inside = in_call s.occs here in
      let arguments = walk_all args inside (past_occ s) in
      let copy = callee o inside arguments.roots (after (past_occ s) arguments.parts) in
      let result = first_root copy.results in
      record {
        parts = joined (one_occ (occ_here here result.ty at (Result result.occ))) (joined arguments.parts copy.parts);
        root = record { occ = s.occs; ty = result.ty };
        results = copy.results;
      }

  -- what has the context of the body needs no use
  pub body-unused : (context : ℕ → Context) (here : Here) (c : kinds.Context) → BodyIs f context here c → (rs : List Root) → AllByRecursion (λ (r : Root). Unused f context here c r.occ) rs
  body-unused context here c e [] = tt
  body-unused context here c e (r ∷ rs) = (λ free. sym e, body-unused context here c e rs)

  -- a call of what was found: the arguments and the copy have the context of the call
  called-regular : (c : kinds.Context) (kind : DeclKind) (w : Callee) (at : Pos) (args : List Walk) → kinds.allows_call (Some kind) c ≡ true → CalleeRegular f base kind w → AllByRecursion (WalkIn c) args → WalkIn c (called (Some w) at args)
  called-regular c kind w at args ok hw h here s hb hs lies =
      let inside = in_call s.occs here in
      let t = past_occ s in
      let arguments = walk_all args inside t in
      let u = after t arguments.parts in
      let copy = w inside arguments.roots u in
      let result = first_root copy.results in
      let form = Result result.occ in
      let own = occ_here here result.ty at form in
      let q = joined arguments.parts copy.parts in
      let both = behind-occ (lying f base) s own q lies in
      let a = walk_all-regular c args h inside t hb hs (each-left (lying f base) t arguments.parts copy.parts both.1) in
      let d = hw inside arguments.roots u c ok hb hs (all-map (λ (r : Root). IsRoot f inside r.occ) (λ (r : Root). IsResult f here.block r.occ) (λ r x. root-result f inside r.occ x) arguments.roots a.roots) (each-right (lying f base) t arguments.parts copy.parts both.1) in
      let A : (ℕ → Context) → Type 0 = λ context. AllHold f base context inside t c arguments in
      let D : (ℕ → Context) → Type 0 = λ context. BodyIs f context inside c → AllByRecursion (λ (r : Root). context r.occ ≡ flat c) arguments.roots → CopyHolds f base context u c copy in
      record {
        low = own-low s.occs;
        high = below-others s own q;
        root = record { occ = own; is = both.0; block = refl; call = refl; value = refl; marks = tt };
        results = d.results;
        assigned = assigned-map base know s (joined (one_occ own) q) (λ context. (context s.occs ≡ flat c) × (A context × D context)) (λ context. Holds f base context here s c (called (Some w) at args here s))
            (λ context g.
            let body : BodyIs f context inside c = ap (body_context (context_of_block here.hybrid)) g.0 ∙ suits-body here.hybrid c hs in
            let copied = g.1.1 body g.1.0.roots in
            record {
              root = g.0;
              results = copied.results;
              parts = λ free. occ-first (regular f base context) s own q
                  (occ-regular f context here s.occs c result.ty at form hb g.0 tt free (
                    part-used f context here s.occs result.occ result.ty at form hb both.0 (first-of (λ r. IsResult f here.block r.occ) copy.results d.some d.results)
                        (first-of (λ r. context r.occ ≡ flat c) copy.results d.some copied.results ∙ sym body),
                    tt,
                  ) tt)
                  (each-joined (regular f base context) t arguments.parts copy.parts (g.1.0.parts (body-unused context inside c body arguments.roots)) copied.parts);
            })
            (assigned-occ_first base know s q (λ context. A context × D context) own (flat c) (assigned-joined base know t arguments.parts copy.parts A D a.assigned (assigned-known base know u copy.parts D d.assigned)));
      }

  -- a call by name
  pub call-regular : (c : kinds.Context) (names : List (List ℕ)) (i : Instance) (x : Name) (args : List Walk) (kind : DeclKind) (w : Callee) → i.callees x.id ≡ Some w → kinds.allows_call (Some kind) c ≡ true → CalleeRegular f base kind w → AllByRecursion (WalkIn c) args → WalkIn c (call base names i x args)
  call-regular c names i x args kind w is ok hw h = subst (λ o. WalkIn c (called o x.at args)) (sym is) (called-regular c kind w x.at args ok hw h)
