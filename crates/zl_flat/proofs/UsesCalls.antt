-- What the walk of an expression makes stands in its call: the words, and the forms of expressions.
use Rattle.std.proofs.Common.{◌≡◌, ◌⊎◌, inl, inr, ℕ, ◌+◌, ◌<◌, ◌≤◌, List, [], ◌∷◌, length, slice_get, Option, Some, refl, sym, ap, subst, ◌∙◌, arith}
use Rattle.std.specs.List.{AllByRecursion}
use Rattle.zl_value.specs.Lists.{Has}
use Rattle.zl_value.specs.declared.position.Pos.{Pos}
use Rattle.zl_value.specs.declared.value.Ty.{Ty}
use Rattle.zl_value.specs.declared.op.Op.{Op}
use Rattle.zl_value.specs.OperatorTypes.{type_of}
use Rattle.zl_ast.specs.declared.name.Name.{Name}
use Rattle.zl_ast.specs.declared.operator.Prefix.{Prefix}
use Rattle.zl_ast.specs.declared.operator.Prefix.TheVariants as prefix
use Rattle.zl_ast.specs.declared.operator.Infix.{Infix}
use Rattle.zl_ast.specs.declared.operator.FlowOp.{FlowOp}
use Rattle.zl_ast.specs.declared.operator.FlowOp.TheVariants as flow
use Rattle.zl_meaning.specs.FlatForm.{FlatForm, HasForm, place_call}
use Rattle.zl_meaning.specs.Uses.{parts}
use Rattle.zl_meaning.specs.WellFormed.{named_in}
use Rattle.zl_meaning.specs.declared.place.Definer.{Definer}
use Rattle.zl_meaning.specs.declared.place.Definer.TheVariants.{Input, Plain, Der, Start}
use Rattle.zl_meaning.specs.declared.occurrence.Form.{Form}
use Rattle.zl_meaning.specs.declared.occurrence.Form.TheVariants.{Read, Last, Op as Apply, If, Arrow, Pre, Result}
use Rattle.zl_meaning.specs.declared.occurrence.Occ.{Occ}
use Rattle.zl_flat.specs.declared.here.Here.{Here}
use Rattle.zl_flat.specs.declared.here.Root.{Root}
use Rattle.zl_flat.specs.declared.given.Given.{Given}
use Rattle.zl_flat.specs.Parts.{Parts, Counters, joined, one_occ, one_hidden, after, past_occ, past_hidden}
use Rattle.zl_flat.specs.Instances.{Copy, Callee, Instance, in_call, occ_here, callee, first_root, root_occs}
use Rattle.zl_flat.specs.Operators.{infix_form, prefix_form, prefix_type}
use Rattle.zl_flat.specs.Expressions.{Walk, Walked, WalkedAll, walk_all, one_result, leaf, LinkWalk, Linked, links, chain, call, built_in, prefixed, arrow, followed, flow_walk, conditional}
use Rattle.zl_flat.proofs.PartsNumbers.{number-end, below-first, below-second, below-alone, below-others, below-nothing, at-most, call-before, first-of}
use Rattle.zl_flat.proofs.WellFormedParts.{AllFrom, Laws, Each, each-nothing, each-joined, each-left, each-right, occ-first, behind-occ, hidden-first, behind-hidden, each-one_occ, the_occ}
use Rattle.zl_flat.proofs.WellFormedGround.{IsPlaceAt, Sits}
use Rattle.zl_flat.proofs.UsesOnce.{result-equal}
use Rattle.zl_flat.proofs.UsesBranches.{HasCall, PartsCalled, Reaches, Outer, IsCall, SiteCalled, IsNoResult}

-- ---- the words

-- occurrence number `k` stands in this block and in this call
pub record StandsHere (f : FlatForm) (here : Here) (k : ℕ) : Type 0 where
  pub occ : Occ
  pub is : slice_get f.occs k ≡ Some occ
  pub block : occ.block ≡ here.block
  pub call : occ.call ≡ here.call

-- a name and a `last` stand in the call of their place, or in the arguments of calls there
abbrev pub NameCalled : FlatForm → Option ℕ → Form → Type 0
NameCalled f call (Read p) = Reaches f (place_call f p) call
NameCalled f call (Last p) = Reaches f (place_call f p) call
NameCalled f call form = Unit {0}

-- the parts of an occurrence, and its place if it is a name or a `last`, stand in this call, which is its own
abbrev pub FormCalled : FlatForm → ℕ → Option ℕ → Form → Type 0
FormCalled f n call form = PartsCalled f n call form × NameCalled f call form

-- so do those of its form, and its call is one
abbrev pub OccCalled : FlatForm → ℕ → Occ → Type 0
OccCalled f n x = FormCalled f n x.call x.form × IsCall f x.call

-- what has this call stands in the copy of `target`, or in the arguments of calls there
abbrev pub IsIn : FlatForm → Option ℕ → Option ℕ → Type 0
IsIn f target call = Reaches f target call × IsCall f call

-- a result of a call that has this call, of which a definer names the first result
pub record IsNamedResult (f : FlatForm) (gs : List Given) (call : Option ℕ) (k : ℕ) : Type 0 where
  pub whole : ℕ
  pub occ : Occ
  pub is : slice_get f.occs k ≡ Some occ
  pub call_is : occ.call ≡ Some whole
  pub own : Occ
  pub own_is : slice_get f.occs whole ≡ Some own
  pub own_call : own.call ≡ call
  pub block : occ.block ≡ own.block
  pub result : ℕ
  pub form : own.form ≡ Result result
  pub place : ℕ
  pub inner : ℕ
  pub named : Has gs (record { place = place; definer = Plain inner result })

-- what a definer of a place with this call names stands in the call
abbrev pub GivenCalled : FlatForm → List Given → Option ℕ → Definer → Type 0
GivenCalled f gs call (Input n) = Unit {0}
GivenCalled f gs call (Plain b k) = HasCall f call k ⊎ IsNamedResult f gs call k
GivenCalled f gs call (Der b slope resets) = AllByRecursion (HasCall f call) (slope ∷ named_in resets)
GivenCalled f gs call (Start b k) = HasCall f call k

-- and isn't the result of that call
abbrev pub DefinerKept : FlatForm → List Given → Option ℕ → Definer → Type 0
DefinerKept f gs call d = GivenCalled f gs call d × IsNoResult f call d

-- so for what is given to a place
abbrev pub GivenKept : FlatForm → List Given → Given → Type 0
GivenKept f gs g = DefinerKept f gs (place_call f g.place) g.definer

-- a part is the entry of the form with its number, which is no less than `low` for an occurrence; a definer is one of those
-- that are given in all
abbrev pub there : FlatForm → ℕ → List Given → ℕ → Laws
there f base gs low = record {
  blocks = λ n x. slice_get f.blocks n ≡ Some x;
  places = λ n x. IsPlaceAt f n x;
  definers = λ n x. Has gs x;
  occs = λ n x. (slice_get f.occs n ≡ Some x) × (low ≤ n);
  hidden = λ n x. slice_get f.occs (base + n) ≡ Some x;
  sites = λ n x. slice_get f.sites n ≡ Some x;
  choices = λ n x. slice_get f.choices n ≡ Some x;
  automata = λ n x. slice_get f.automata n ≡ Some x;
}

-- a part stands in the calls that it is to stand in
abbrev pub calling : FlatForm → ℕ → List Given → Laws
calling f base gs = record {
  blocks = λ n x. Unit {0};
  places = λ n x. Unit {0};
  definers = λ n x. GivenKept f gs x;
  occs = λ n x. OccCalled f n x;
  hidden = λ n x. OccCalled f (base + n) x;
  sites = λ n x. SiteCalled f n x.arg;
  choices = λ n x. Unit {0};
  automata = λ n x. Unit {0};
}

-- parts that are there are those of the form
pub there-sits : (f : FlatForm) (base : ℕ) (gs : List Given) (low : ℕ) (s : Counters) (p : Parts) → Each (there f base gs low) s p → Sits f base s p
there-sits f base gs low s p h = record { blocks = h.blocks; places = h.places; definers = no_law p.definers; occs = entries s.occs p.occs h.occs; hidden = h.hidden; sites = h.sites; choices = h.choices; automata = h.automata }
  where
    no_law : (xs : List Given) → AllByRecursion (λ (x : Given). Unit {0}) xs
    no_law [] = tt
    no_law (x ∷ xs) = (tt, no_law xs)

    entries : (n : ℕ) (xs : List Occ) → AllFrom (λ m x. (slice_get f.occs m ≡ Some x) × (low ≤ m)) n xs → AllFrom (λ m x. slice_get f.occs m ≡ Some x) n xs
    entries n [] h = tt
    entries n (x ∷ xs) h = (h.0.0, entries (n + 1) xs h.1)

-- parts that are there have no occurrences before the first
pub there-from : (f : FlatForm) (base : ℕ) (gs : List Given) (low : ℕ) (s : Counters) (p : Parts) → Each (there f base gs low) s p → Each (there f base gs s.occs) s p
there-from f base gs low s p h = record { blocks = h.blocks; places = h.places; definers = h.definers; occs = entries s.occs s.occs (omega arith) p.occs h.occs; hidden = h.hidden; sites = h.sites; choices = h.choices; automata = h.automata }
  where
    entries : (first n : ℕ) → first ≤ n → (xs : List Occ) → AllFrom (λ m x. (slice_get f.occs m ≡ Some x) × (low ≤ m)) n xs → AllFrom (λ m x. (slice_get f.occs m ≡ Some x) × (first ≤ m)) n xs
    entries first n le [] h = tt
    entries first n le (x ∷ xs) h = ((h.0.0, le), entries first (n + 1) (omega (arith, le)) xs h.1)

-- what stands here has the call
pub stands-call : (f : FlatForm) (here : Here) (k : ℕ) → StandsHere f here k → HasCall f here.call k
stands-call f here k h = record { occ = h.occ; is = h.is; call_is = h.call }

-- an occurrence that is made here
pub stands-here : (f : FlatForm) (k : ℕ) (here : Here) (ty : Ty) (at : Pos) (form : Form) → slice_get f.occs k ≡ Some (occ_here here ty at form) → StandsHere f here k
stands-here f k here ty at form is = record { occ = occ_here here ty at form; is = is; block = refl; call = refl }

-- occurrence number `m` is a call with this result alone
call-result : (f : FlatForm) (m x : ℕ) (own : Occ) → slice_get f.occs m ≡ Some own → own.form ≡ Result x → (n k : ℕ) → Some m ≡ Some n → HasForm f n (Result k) → k ≡ x
call-result f m x own is form n k e h =
    let there : slice_get f.occs m ≡ Some h.0 = subst (λ j. slice_get f.occs j ≡ Some h.0) (sym (same_number e)) h.1 in
    result-equal k k x (sym h.2 ∙ ap (λ (o : Occ). o.form) (same_occ h.0 (slice_get f.occs m) there is) ∙ form)
  where
    same_number : Some m ≡ Some n → m ≡ n
    same_number e = cc

    same_occ : (a : Occ) (o : Option Occ) → o ≡ Some a → o ≡ Some own → a ≡ own
    same_occ a o h g = cc

-- ---- what a walk keeps

-- each of these roots stands here
abbrev pub RootsHere : FlatForm → Here → List Root → Type 0
RootsHere f here rs = AllByRecursion (λ (r : Root). StandsHere f here r.occ) rs

-- each has a number from this one on, or below this one
abbrev pub RootsFrom : ℕ → List Root → Type 0
RootsFrom low rs = AllByRecursion (λ (r : Root). low ≤ r.occ) rs

abbrev pub RootsBelow : ℕ → List Root → Type 0
RootsBelow high rs = AllByRecursion (λ (r : Root). r.occ < high) rs

-- what is below a number is below a greater one, and the other way round
roots-below : (high more : ℕ) → high ≤ more → (rs : List Root) → RootsBelow high rs → RootsBelow more rs
roots-below high more le [] h = tt
roots-below high more le (r ∷ rs) h = let lt = h.0 in (omega (arith, le, lt), roots-below high more le rs h.1)

pub roots-from : (low less : ℕ) → less ≤ low → (rs : List Root) → RootsFrom low rs → RootsFrom less rs
roots-from low less le [] h = tt
roots-from low less le (r ∷ rs) h = let from = h.0 in (omega (arith, le, from), roots-from low less le rs h.1)

-- the walk is a call, and these are the results of the called body
pub record IsCallHere (f : FlatForm) (here : Here) (e : Walked) : Type 0 where
  pub own : Occ
  pub own_is : slice_get f.occs e.root.occ ≡ Some own
  pub own_block : own.block ≡ here.block
  pub own_call : own.call ≡ here.call
  pub form : own.form ≡ Result (first_root e.results).occ
  pub results : RootsHere f (in_call e.root.occ here) e.results

module _ (f : FlatForm) (base : ℕ) (gs : List Given) where
  -- the copy of a called body, with its results, stands in its call
  pub record CopyCalled (here : Here) (s : Counters) (c : Copy) : Type 0 where
    pub some : 0 < length c.results
    pub parts : Each (calling f base gs) s c.parts
    pub results : RootsHere f here c.results
    pub from : RootsFrom s.occs c.results

  -- the result of the call is the first of these
  abbrev pub Returns : Option ℕ → List Root → Type 0
  Returns call rs = (n k : ℕ) → call ≡ Some n → HasForm f n (Result k) → k ≡ (first_root rs).occ

  -- where the arguments stand in the call, and before the copy, and the copy is there
  abbrev pub CopyCalls : Here → List Root → Counters → Copy → Type 0
  CopyCalls here roots s c = IsCall f here.call → RootsHere f here roots → RootsBelow s.occs roots → Returns here.call c.results → Each (there f base gs s.occs) s c.parts → CopyCalled here s c

  -- of a declaration that is called
  abbrev pub IsCallee : Callee → Type 0
  IsCallee c = (here : Here) (roots : List Root) (s : Counters) → CopyCalls here roots s (c here roots s)

-- what stands from number `low` on
module _ (f : FlatForm) (base : ℕ) (gs : List Given) (low : ℕ) where
  -- what an expression makes stands in its call, and so do its root and its results
  pub record WalkCalled (here : Here) (s : Counters) (e : Walked) : Type 0 where
    pub parts : Each (calling f base gs) s e.parts
    pub root : StandsHere f here e.root.occ
    pub from : low ≤ e.root.occ
    pub below : e.root.occ < (after s e.parts).occs
    pub results : RootsHere f here e.results ⊎ IsCallHere f here e
    pub results_from : RootsFrom low e.results

  -- so does what a link makes
  pub record LinkCalled (here : Here) (s : Counters) (e : Walked) : Type 0 where
    pub parts : Each (calling f base gs) s e.parts
    pub root : StandsHere f here e.root.occ
    pub from : low ≤ e.root.occ
    pub below : e.root.occ < (after s e.parts).occs

  -- and what several links make
  pub record LinksCalled (here : Here) (s : Counters) (e : Linked) : Type 0 where
    pub parts : Each (calling f base gs) s e.parts
    pub root : StandsHere f here e.root.occ
    pub from : low ≤ e.root.occ
    pub below : e.root.occ < (after s e.parts).occs

  -- and what several expressions make
  pub record AllCalled (here : Here) (s : Counters) (e : WalkedAll) : Type 0 where
    pub parts : Each (calling f base gs) s e.parts
    pub roots : RootsHere f here e.roots
    pub from : RootsFrom low e.roots
    pub below : RootsBelow (after s e.parts).occs e.roots

  -- a walk in a copy of this call, or in the arguments of calls there
  module _ (target : Option ℕ) where
    -- where it is there
    abbrev pub WalkCalls : Here → Counters → Walked → Type 0
    WalkCalls here s e = IsIn f target here.call → Each (there f base gs low) s e.parts → WalkCalled here s e

    -- where the left operand stands here
    abbrev pub LinkCalls : Here → Root → Counters → Walked → Type 0
    LinkCalls here left s e = IsIn f target here.call → StandsHere f here left.occ → Each (there f base gs low) s e.parts → LinkCalled here s e

    -- of an expression
    abbrev pub IsWalk : Walk → Type 0
    IsWalk x = (here : Here) (s : Counters) → WalkCalls here s (x here s)

    -- of an operator with its right operand
    abbrev pub IsLink : LinkWalk → Type 0
    IsLink l = (here : Here) (left : Root) (s : Counters) → LinkCalls here left s (l here left s)

    -- expressions one behind the other
    pub walk_all-called : (ws : List Walk) → AllByRecursion IsWalk ws → (here : Here) (s : Counters) → IsIn f target here.call → Each (there f base gs low) s (walk_all ws here s).parts → AllCalled here s (walk_all ws here s)
    walk_all-called [] hs here s at sits = record { parts = each-nothing (calling f base gs) s; roots = tt; from = tt; below = tt }
    walk_all-called (x ∷ ws) hs here s at sits =
        let first = x here s in
        let t = after s first.parts in
        let rest = walk_all ws here t in
        let a = hs.0 here s at (each-left (there f base gs low) s first.parts rest.parts sits) in
        let b = walk_all-called ws hs.1 here t at (each-right (there f base gs low) s first.parts rest.parts sits) in
        record {
          parts = each-joined (calling f base gs) s first.parts rest.parts a.parts b.parts;
          roots = (a.root, b.roots);
          from = (a.from, b.from);
          below = (below-first s first.parts rest.parts first.root.occ a.below, roots-below (after t rest.parts).occs (after s (joined first.parts rest.parts)).occs (number-end s first.parts rest.parts) rest.roots b.below);
        }

    -- links one behind the other
    links-called : (ls : List LinkWalk) → AllByRecursion IsLink ls → (here : Here) (left : Root) (s : Counters) → IsIn f target here.call → StandsHere f here left.occ → low ≤ left.occ → left.occ < s.occs → Each (there f base gs low) s (links ls here left s).parts →
        LinksCalled here s (links ls here left s)
    links-called [] hs here left s at root from below sits = record { parts = each-nothing (calling f base gs) s; root = root; from = from; below = below-nothing s left.occ below }
    links-called (l ∷ ls) hs here left s at root from below sits =
        let one = l here left s in
        let t = after s one.parts in
        let rest = links ls here one.root t in
        let a = hs.0 here left s at root (each-left (there f base gs low) s one.parts rest.parts sits) in
        let b = links-called ls hs.1 here one.root t at a.root a.from a.below (each-right (there f base gs low) s one.parts rest.parts sits) in
        record { parts = each-joined (calling f base gs) s one.parts rest.parts a.parts b.parts; root = b.root; from = b.from; below = below-second s one.parts rest.parts rest.root.occ b.below }

    -- ---- forms of expressions

    -- what is made for an expression that is no call
    one_result-called : (here : Here) (s : Counters) (p : Parts) (occ : ℕ) (ty : Ty) → Each (calling f base gs) s p → StandsHere f here occ → low ≤ occ → occ < (after s p).occs → WalkCalled here s (one_result p occ ty)
    one_result-called here s p occ ty parts root from below = record { parts = parts; root = root; from = from; below = below; results = inl (root, tt); results_from = (from, tt) }

    -- an occurrence without parts
    pub leaf-called : (ty : Ty) (at : Pos) (form : Form) (here : Here) (s : Counters) → IsIn f target here.call → FormCalled f s.occs here.call form → Each (there f base gs low) s (leaf here ty at form s).parts → WalkCalled here s (leaf here ty at form s)
    leaf-called ty at form here s reach keeps sits =
        let own = occ_here here ty at form in
        let is = the_occ (there f base gs low) s own sits in
        one_result-called here s (one_occ own) s.occs ty (each-one_occ (calling f base gs) s own (keeps, reach.1)) (stands-here f s.occs here ty at form is.0) is.1 (below-alone s own)

    -- operators of one level
    pub chain-called : (x : Walk) (ls : List LinkWalk) → IsWalk x → AllByRecursion IsLink ls → IsWalk (chain x ls)
    chain-called x ls hx hls here s at sits =
        let first = x here s in
        let t = after s first.parts in
        let rest = links ls here first.root t in
        let a = hx here s at (each-left (there f base gs low) s first.parts rest.parts sits) in
        let b = links-called ls hls here first.root t at a.root a.from a.below (each-right (there f base gs low) s first.parts rest.parts sits) in
        one_result-called here s (joined first.parts rest.parts) rest.root.occ rest.root.ty (each-joined (calling f base gs) s first.parts rest.parts a.parts b.parts) b.root b.from (below-second s first.parts rest.parts rest.root.occ b.below)

    -- an occurrence before what it is made of
    whole-called : (ty : Ty) (at : Pos) (form : Form) (q : Parts) (here : Here) (s : Counters) → IsIn f target here.call →
        (Each (there f base gs low) (past_occ s) q → Each (calling f base gs) (past_occ s) q × FormCalled f s.occs here.call form) →
        Each (there f base gs low) s (joined (one_occ (occ_here here ty at form)) q) → WalkCalled here s (one_result (joined (one_occ (occ_here here ty at form)) q) s.occs ty)
    whole-called ty at form q here s reach inside sits =
        let own = occ_here here ty at form in
        let both = behind-occ (there f base gs low) s own q sits in
        let keeps = inside both.1 in
        one_result-called here s (joined (one_occ own) q) s.occs ty (occ-first (calling f base gs) s own q (keeps.1, reach.1) keeps.0) (stands-here f s.occs here ty at form both.0.0) both.0.1 (below-others s own q)

    -- roots that stand here have the call
    roots-called : (here : Here) (rs : List Root) → RootsHere f here rs → AllByRecursion (HasCall f here.call) (root_occs rs)
    roots-called here [] h = tt
    roots-called here (r ∷ rs) h = (stands-call f here r.occ h.0, roots-called here rs h.1)

    -- an operator that is written as a function
    pub built_in-called : (names : List (List ℕ)) (i : Instance) (op : Op) (at : Pos) (args : List Walk) → AllByRecursion IsWalk args → IsWalk (built_in base names i op at args)
    built_in-called names i op at args hs here s reach sits =
        let arguments = walk_all args here (past_occ s) in
        whole-called (type_of op).result at (Apply op (root_occs arguments.roots)) arguments.parts here s reach
        (λ inside. let a = walk_all-called args hs here (past_occ s) reach inside in (a.parts, (roots-called here arguments.roots a.roots, tt))) sits

    -- the operand of a prefix operator is its only part
    prefix-called : (op : Prefix) (n k : ℕ) (call : Option ℕ) → HasCall f call k → PartsCalled f n call (prefix_form op k) × NameCalled f call (prefix_form op k)
    prefix-called prefix.Minus n k call h = ((h, tt), tt)
    prefix-called prefix.MinusDot n k call h = ((h, tt), tt)
    prefix-called prefix.Not n k call h = ((h, tt), tt)
    prefix-called prefix.Pre n k call h = ((h, tt), tt)

    -- a prefix operator
    pub prefixed-called : (names : List (List ℕ)) (i : Instance) (op : Prefix) (at : Pos) (x : Walk) → IsWalk x → IsWalk (prefixed base names i op at x)
    prefixed-called names i op at x hx here s reach sits =
        let operand = x here (past_occ s) in
        whole-called (prefix_type op operand.root.ty) at (prefix_form op operand.root.occ) operand.parts here s reach
        (λ inside. let a = hx here (past_occ s) reach inside in (a.parts, prefix-called op s.occs operand.root.occ here.call (stands-call f here operand.root.occ a.root))) sits

    -- an operator of a chain with its right operand
    pub link-called : (op : Infix) (at : Pos) (x : Walk) → IsWalk x → (here : Here) (left : Root) (s : Counters) →
        LinkCalls here left s (one_result (joined (one_occ (occ_here here (type_of (infix_form op left.ty)).result at (Apply (infix_form op left.ty) (left.occ ∷ (x here (past_occ s)).root.occ ∷ [])))) (x here (past_occ s)).parts) s.occs (type_of (infix_form op left.ty)).result)
    link-called op at x hx here left s reach root sits =
        let right = x here (past_occ s) in
        let a = whole-called (type_of (infix_form op left.ty)).result at (Apply (infix_form op left.ty) (left.occ ∷ right.root.occ ∷ [])) right.parts here s reach
        (λ inside. let a = hx here (past_occ s) reach inside in (a.parts, ((stands-call f here left.occ root, (stands-call f here right.root.occ a.root, tt)), tt))) sits in
        record { parts = a.parts; root = a.root; from = a.from; below = a.below }

    -- an `if`
    pub conditional-called : (names : List (List ℕ)) (i : Instance) (at : Pos) (c x y : Walk) → IsWalk c → IsWalk x → IsWalk y → IsWalk (conditional base names i at c x y)
    conditional-called names i at c x y hc hx hy here s reach sits =
        let t = past_occ s in
        let test = c here t in
        let u = after t test.parts in
        let left = x here u in
        let z = after u left.parts in
        let right = y here z in
        whole-called left.root.ty at (If test.root.occ left.root.occ right.root.occ) (joined test.parts (joined left.parts right.parts)) here s reach
        (λ inside.
        let behind = each-right (there f base gs low) t test.parts (joined left.parts right.parts) inside in
        let a = hc here t reach (each-left (there f base gs low) t test.parts (joined left.parts right.parts) inside) in
        let b = hx here u reach (each-left (there f base gs low) u left.parts right.parts behind) in
        let d = hy here z reach (each-right (there f base gs low) u left.parts right.parts behind) in (
          each-joined (calling f base gs) t test.parts (joined left.parts right.parts) a.parts (each-joined (calling f base gs) u left.parts right.parts b.parts d.parts),
          ((stands-call f here test.root.occ a.root, (stands-call f here left.root.occ b.root, (stands-call f here right.root.occ d.root, tt))), tt),
        )) sits

    -- an occurrence behind its left part
    behind-called : (x : Walk) → IsWalk x → (here : Here) (s : Counters) (ty : Ty) (at : Pos) (form : Form) (q : Parts) → IsIn f target here.call →
        (let left = x here s in let t = after s left.parts in
        (StandsHere f here left.root.occ → Each (there f base gs low) (past_occ t) q → Each (calling f base gs) (past_occ t) q × FormCalled f t.occs here.call form) →
        Each (there f base gs low) s (joined left.parts (joined (one_occ (occ_here here ty at form)) q)) → WalkCalled here s (one_result (joined left.parts (joined (one_occ (occ_here here ty at form)) q)) t.occs ty))
    behind-called x hx here s ty at form q reach inside sits =
        let left = x here s in
        let t = after s left.parts in
        let rest = joined (one_occ (occ_here here ty at form)) q in
        let a = hx here s reach (each-left (there f base gs low) s left.parts rest sits) in
        let b = whole-called ty at form q here t reach (inside a.root) (each-right (there f base gs low) s left.parts rest sits) in
        one_result-called here s (joined left.parts rest) t.occs ty (each-joined (calling f base gs) s left.parts rest a.parts b.parts) b.root b.from (below-second s left.parts rest t.occs b.below)

    -- `left -> right`
    pub arrow-called : (names : List (List ℕ)) (i : Instance) (at : Pos) (x y : Walk) → IsWalk x → IsWalk y → IsWalk (arrow base names i at x y)
    arrow-called names i at x y hx hy here s reach sits =
        let left = x here s in
        let t = past_occ (after s left.parts) in
        let right = y here t in
        behind-called x hx here s left.root.ty at (Arrow left.root.occ right.root.occ) right.parts reach
        (λ root inside. let d = hy here t reach inside in (d.parts, ((stands-call f here left.root.occ root, (stands-call f here right.root.occ d.root, tt)), tt))) sits

    -- an occurrence that is no hidden one leaves the number of the next hidden one
    hidden-number : (t : Counters) (x : Occ) → slice_get f.occs (base + (past_occ t).hidden) ≡ Some x → slice_get f.occs (base + t.hidden) ≡ Some x
    unfolding past_occ
    hidden-number t x h = h

    -- `left fby right`
    pub followed-called : (names : List (List ℕ)) (i : Instance) (at : Pos) (x y : Walk) → IsWalk x → IsWalk y → IsWalk (followed base names i at x y)
    followed-called names i at x y hx hy here s reach sits =
        let left = x here s in
        let t = after s left.parts in
        let u = past_occ t in
        let right = y here (past_hidden u) in
        let pre = occ_here here left.root.ty at (Pre right.root.occ) in
        behind-called x hx here s left.root.ty at (Arrow left.root.occ (base + t.hidden)) (joined (one_hidden pre) right.parts) reach
        (λ root inside.
        let both = behind-hidden (there f base gs low) u pre right.parts inside in
        let d = hy here (past_hidden u) reach both.1 in (
          hidden-first (calling f base gs) u pre right.parts (((stands-call f here right.root.occ d.root, tt), tt), reach.1) d.parts,
          ((stands-call f here left.root.occ root, (stands-call f here (base + t.hidden) (stands-here f (base + t.hidden) here left.root.ty at (Pre right.root.occ) (hidden-number t pre both.0)), tt)), tt),
        )) sits

    -- either of the two
    pub flow-called : (names : List (List ℕ)) (i : Instance) (op : FlowOp) (at : Pos) (x y : Walk) → IsWalk x → IsWalk y → IsWalk (flow_walk base names i op at x y)
    flow-called names i flow.Arrow at x y hx hy here s reach sits = arrow-called names i at x y hx hy here s reach sits
    flow-called names i flow.Fby at x y hx hy here s reach sits = followed-called names i at x y hx hy here s reach sits

    -- ---- calls

    -- a call of what was found by the name
    abbrev called : Option Callee → Pos → List Walk → Walk
    called o at args here s =
        let inside = in_call s.occs here in
        let arguments = walk_all args inside (past_occ s) in
        let copy = callee o inside arguments.roots (after (past_occ s) arguments.parts) in
        let result = first_root copy.results in
        record {
          parts = joined (one_occ (occ_here here result.ty at (Result result.occ))) (joined arguments.parts copy.parts);
          root = record { occ = s.occs; ty = result.ty };
          results = copy.results;
        }

    -- a call whose declaration is there
    called-called : (c : Callee) (at : Pos) (args : List Walk) → IsCallee f base gs c → AllByRecursion IsWalk args → IsWalk (called (Some c) at args)
    called-called c at args hc hs here s reach sits =
        let inside = in_call s.occs here in
        let t = past_occ s in
        let arguments = walk_all args inside t in
        let u = after t arguments.parts in
        let copy = c inside arguments.roots u in
        let result = first_root copy.results in
        let own = occ_here here result.ty at (Result result.occ) in
        let both = behind-occ (there f base gs low) s own (joined arguments.parts copy.parts) sits in
        let call : IsCall f inside.call = (result.occ, (own, both.0.0, refl)) in
        let a = walk_all-called args hs inside t (Outer s.occs own both.0.0 reach.0, call) (each-left (there f base gs low) t arguments.parts copy.parts both.1) in
        let d = hc inside arguments.roots u call a.roots a.below (call-result f s.occs result.occ own both.0.0 refl) (there-from f base gs low u copy.parts (each-right (there f base gs low) t arguments.parts copy.parts both.1)) in
        let behind = call-before s arguments.parts in
        record {
          parts = occ-first (calling f base gs) s own (joined arguments.parts copy.parts) ((stands-call f inside result.occ (first-of (λ r. StandsHere f inside r.occ) copy.results d.some d.results), tt), reach.1)
              (each-joined (calling f base gs) t arguments.parts copy.parts a.parts d.parts);
          root = stands-here f s.occs here result.ty at (Result result.occ) both.0.0;
          from = both.0.1;
          below = below-others s own (joined arguments.parts copy.parts);
          results_from = roots-from u.occs low (at-most low s.occs u.occs both.0.1 behind) copy.results d.from;
          results = inr (record { own = own; own_is = both.0.0; own_block = refl; own_call = refl; form = refl; results = d.results });
        }

    -- a call
    pub call-called : (names : List (List ℕ)) (i : Instance) (x : Name) (args : List Walk) (c : Callee) → i.callees x.id ≡ Some c → IsCallee f base gs c → AllByRecursion IsWalk args → IsWalk (call base names i x args)
    call-called names i x args c is hc hs = subst (λ o. IsWalk (called o x.at args)) (sym is) (called-called c x.at args hc hs)
