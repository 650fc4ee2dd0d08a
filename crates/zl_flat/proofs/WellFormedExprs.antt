-- What the walk of an expression makes keeps what a flat form does, but for types.
use Rattle.std.proofs.Common.{◌≡◌, ℕ, ◌+◌, ◌<◌, List, [], ◌∷◌, length, slice_get, Option, Some, sym, subst, arith}
use Rattle.std.specs.List.{AllByRecursion}
use Rattle.zl_value.specs.declared.position.Pos.{Pos}
use Rattle.zl_value.specs.declared.value.Ty.{Ty}
use Rattle.zl_value.specs.declared.op.Op.{Op}
use Rattle.zl_value.specs.OperatorTypes.{type_of}
use Rattle.zl_ast.specs.declared.name.Name.{Name}
use Rattle.zl_ast.specs.declared.operator.Prefix.{Prefix}
use Rattle.zl_ast.specs.declared.operator.Prefix.TheVariants as prefix
use Rattle.zl_ast.specs.declared.operator.Infix.{Infix}
use Rattle.zl_ast.specs.declared.operator.FlowOp.{FlowOp}
use Rattle.zl_ast.specs.declared.operator.FlowOp.TheVariants as flow
use Rattle.zl_meaning.specs.FlatForm.{FlatForm}
use Rattle.zl_meaning.specs.Uses.{parts}
use Rattle.zl_meaning.specs.declared.occurrence.Form.{Form}
use Rattle.zl_meaning.specs.declared.occurrence.Form.TheVariants.{Op as Apply, If, Arrow, Pre, Result}
use Rattle.zl_meaning.specs.declared.occurrence.Occ.{Occ}
use Rattle.zl_flat.specs.declared.here.Here.{Here}
use Rattle.zl_flat.specs.declared.here.Root.{Root}
use Rattle.zl_flat.specs.Parts.{Parts, Counters, joined, one_occ, one_hidden, after, past_occ, past_hidden}
use Rattle.zl_flat.specs.Instances.{Copy, Callee, Instance, in_call, occ_here, callee, first_root, root_occs}
use Rattle.zl_flat.specs.Operators.{infix_form, prefix_form, prefix_type}
use Rattle.zl_flat.specs.Expressions.{Walk, Walked, WalkedAll, walk_all, one_result, leaf, LinkWalk, Linked, links, chain, call, built_in, prefixed, arrow, followed, flow_walk, conditional}
use Rattle.zl_flat.proofs.WellFormedParts.{each-nothing, each-joined, each-left, each-right, occ-first, behind-occ, hidden-first, behind-hidden, each-one_occ, the_occ}
use Rattle.zl_flat.proofs.WellFormedGround.{StandsIn, HasSite, standing, keeping, Sits, Keeps, IsHere, RootStands, here-after, here-past_occ, here-past_hidden, here-in_call, occ-stands, stands-here}

-- ---- what a walk keeps

pub record WalkKeeps (f : FlatForm) (here : Here) (s : Counters) (w : Walked) : Type 0 where
  pub parts : Keeps f s w.parts
  pub root : RootStands f here.block w.root
  pub results : AllByRecursion (RootStands f here.block) w.results

pub record AllKeep (f : FlatForm) (here : Here) (s : Counters) (w : WalkedAll) : Type 0 where
  pub parts : Keeps f s w.parts
  pub roots : AllByRecursion (RootStands f here.block) w.roots

pub record LinkedKeeps (f : FlatForm) (here : Here) (s : Counters) (w : Linked) : Type 0 where
  pub parts : Keeps f s w.parts
  pub root : RootStands f here.block w.root

pub record CopyKeeps (f : FlatForm) (here : Here) (s : Counters) (c : Copy) : Type 0 where
  pub parts : Keeps f s c.parts
  pub results : AllByRecursion (RootStands f here.block) c.results
  pub some : 0 < length c.results

module _ (f : FlatForm) (base : ℕ) where
  -- what is made where it is to stand
  abbrev pub KeepsAt : Here → Counters → Walked → Type 0
  KeepsAt here s w = IsHere f s here → Sits f base s w.parts → WalkKeeps f here s w

  abbrev pub WalkStands : Walk → Type 0
  WalkStands w = (here : Here) (s : Counters) → KeepsAt here s (w here s)

  abbrev pub LinkStands : LinkWalk → Type 0
  LinkStands l = (here : Here) (left : Root) (s : Counters) → RootStands f here.block left → KeepsAt here s (l here left s)

  abbrev pub CalleeStands : Callee → Type 0
  CalleeStands c = (here : Here) (roots : List Root) (s : Counters) → AllByRecursion (RootStands f here.block) roots → IsHere f s here → Sits f base s (c here roots s).parts → CopyKeeps f here s (c here roots s)

  pub walk_all-stands : (ws : List Walk) → AllByRecursion WalkStands ws → (here : Here) (s : Counters) → IsHere f s here → Sits f base s (walk_all ws here s).parts → AllKeep f here s (walk_all ws here s)
  walk_all-stands [] h here s at sits = record { parts = each-nothing (keeping f) s; roots = tt }
  walk_all-stands (w ∷ ws) h here s at sits =
      let first = w here s in
      let rest = walk_all ws here (after s first.parts) in
      let a = h.0 here s at (each-left (standing f base) s first.parts rest.parts sits) in
      let b = walk_all-stands ws h.1 here (after s first.parts) (here-after f s here at first.parts) (each-right (standing f base) s first.parts rest.parts sits) in
      record { parts = each-joined (keeping f) s first.parts rest.parts a.parts b.parts; roots = (a.root, b.roots) }

  pub links-stand : (ls : List LinkWalk) → AllByRecursion LinkStands ls → (here : Here) (left : Root) (s : Counters) → RootStands f here.block left → IsHere f s here → Sits f base s (links ls here left s).parts → LinkedKeeps f here s (links ls here left s)
  links-stand [] h here left s r at sits = record { parts = each-nothing (keeping f) s; root = r }
  links-stand (l ∷ ls) h here left s r at sits =
      let one = l here left s in
      let rest = links ls here one.root (after s one.parts) in
      let a = h.0 here left s r at (each-left (standing f base) s one.parts rest.parts sits) in
      let b = links-stand ls h.1 here one.root (after s one.parts) a.root (here-after f s here at one.parts) (each-right (standing f base) s one.parts rest.parts sits) in
      record { parts = each-joined (keeping f) s one.parts rest.parts a.parts b.parts; root = b.root }

  -- ---- forms of expressions

  pub leaf-stands : (ty : Ty) (at : Pos) (form : Form) (here : Here) (s : Counters) → AllByRecursion (StandsIn f here.block) (parts form) → HasSite f here.block form → KeepsAt here s (leaf here ty at form s)
  leaf-stands ty at form here s ps site h sits =
      let is = the_occ (standing f base) s (occ_here here ty at form) sits in
      let root = stands-here f s.occs here ty at form is in
      record {
        parts = each-one_occ (keeping f) s (occ_here here ty at form) (occ-stands f s here h ty at form ps site);
        root = root;
        results = (root, tt);
      }

  pub chain-stands : (x : Walk) (ls : List LinkWalk) → WalkStands x → AllByRecursion LinkStands ls → WalkStands (chain x ls)
  chain-stands x ls hx hls here s at sits =
      let first = x here s in
      let rest = links ls here first.root (after s first.parts) in
      let a = hx here s at (each-left (standing f base) s first.parts rest.parts sits) in
      let b = links-stand ls hls here first.root (after s first.parts) a.root (here-after f s here at first.parts) (each-right (standing f base) s first.parts rest.parts sits) in
      record { parts = each-joined (keeping f) s first.parts rest.parts a.parts b.parts; root = b.root; results = (b.root, tt) }

  root_occs-stand : (b : ℕ) (rs : List Root) → AllByRecursion (RootStands f b) rs → AllByRecursion (StandsIn f b) (root_occs rs)
  root_occs-stand b [] h = tt
  root_occs-stand b (r ∷ rs) h = (h.0, root_occs-stand b rs h.1)

  first-stands : (b : ℕ) (rs : List Root) → 0 < length rs → AllByRecursion (RootStands f b) rs → RootStands f b (first_root rs)
  first-stands b [] le h = absurd (omega (arith, le))
  first-stands b (r ∷ rs) le h = h.0

  -- an occurrence before what it is made of
  whole-stands : (ty : Ty) (at : Pos) (form : Form) (q : Parts) (here : Here) (s : Counters) →
      (Sits f base (past_occ s) q → slice_get f.occs s.occs ≡ Some (occ_here here ty at form) → Keeps f (past_occ s) q × AllByRecursion (StandsIn f here.block) (parts form)) →
      HasSite f here.block form → KeepsAt here s (one_result (joined (one_occ (occ_here here ty at form)) q) s.occs ty)
  whole-stands ty at form q here s inside site h sits =
      let both = behind-occ (standing f base) s (occ_here here ty at form) q sits in
      let keeps = inside both.1 both.0 in
      let root = stands-here f s.occs here ty at form both.0 in
      record {
        parts = occ-first (keeping f) s (occ_here here ty at form) q (occ-stands f s here h ty at form keeps.1 site) keeps.0;
        root = root;
        results = (root, tt);
      }

  pub built_in-stands : (names : List (List ℕ)) (i : Instance) (op : Op) (at : Pos) (args : List Walk) → AllByRecursion WalkStands args → WalkStands (built_in base names i op at args)
  built_in-stands names i op at args hs here s h sits =
      let arguments = walk_all args here (past_occ s) in
      whole-stands (type_of op).result at (Apply op (root_occs arguments.roots)) arguments.parts here s
      (λ inside is.
      let a = walk_all-stands args hs here (past_occ s) (here-past_occ f s here h) inside in
      (a.parts, root_occs-stand here.block arguments.roots a.roots))
      tt h sits

  prefix-site : (op : Prefix) (b k : ℕ) → HasSite f b (prefix_form op k)
  prefix-site prefix.Minus b k = tt
  prefix-site prefix.MinusDot b k = tt
  prefix-site prefix.Not b k = tt
  prefix-site prefix.Pre b k = tt

  prefix-parts : (op : Prefix) (b k : ℕ) → StandsIn f b k → AllByRecursion (StandsIn f b) (parts (prefix_form op k))
  prefix-parts prefix.Minus b k h = (h, tt)
  prefix-parts prefix.MinusDot b k h = (h, tt)
  prefix-parts prefix.Not b k h = (h, tt)
  prefix-parts prefix.Pre b k h = (h, tt)

  pub prefixed-stands : (names : List (List ℕ)) (i : Instance) (op : Prefix) (at : Pos) (x : Walk) → WalkStands x → WalkStands (prefixed base names i op at x)
  prefixed-stands names i op at x hx here s h sits =
      let operand = x here (past_occ s) in
      whole-stands (prefix_type op operand.root.ty) at (prefix_form op operand.root.occ) operand.parts here s
      (λ inside is.
      let a = hx here (past_occ s) (here-past_occ f s here h) inside in
      (a.parts, prefix-parts op here.block operand.root.occ a.root))
      (prefix-site op here.block operand.root.occ) h sits

  pub link-stands : (op : Infix) (at : Pos) (x : Walk) → WalkStands x → (here : Here) (left : Root) (s : Counters) → RootStands f here.block left →
      KeepsAt here s (one_result (joined (one_occ (occ_here here (type_of (infix_form op left.ty)).result at (Apply (infix_form op left.ty) (left.occ ∷ (x here (past_occ s)).root.occ ∷ [])))) (x here (past_occ s)).parts) s.occs (type_of (infix_form op left.ty)).result)
  link-stands op at x hx here left s r h sits =
      let right = x here (past_occ s) in
      whole-stands (type_of (infix_form op left.ty)).result at (Apply (infix_form op left.ty) (left.occ ∷ right.root.occ ∷ [])) right.parts here s
      (λ inside is.
      let a = hx here (past_occ s) (here-past_occ f s here h) inside in
      (a.parts, (r, (a.root, tt))))
      tt h sits

  pub conditional-stands : (names : List (List ℕ)) (i : Instance) (at : Pos) (c x y : Walk) → WalkStands c → WalkStands x → WalkStands y → WalkStands (conditional base names i at c x y)
  conditional-stands names i at c x y hc hx hy here s h sits =
      let t = past_occ s in
      let test = c here t in
      let left = x here (after t test.parts) in
      let right = y here (after (after t test.parts) left.parts) in
      whole-stands left.root.ty at (If test.root.occ left.root.occ right.root.occ) (joined test.parts (joined left.parts right.parts)) here s
      (λ inside is.
      let at_test = here-past_occ f s here h in
      let at_left = here-after f t here at_test test.parts in
      let at_right = here-after f (after t test.parts) here at_left left.parts in
      let behind = each-right (standing f base) t test.parts (joined left.parts right.parts) inside in
      let a = hc here t at_test (each-left (standing f base) t test.parts (joined left.parts right.parts) inside) in
      let b = hx here (after t test.parts) at_left (each-left (standing f base) (after t test.parts) left.parts right.parts behind) in
      let d = hy here (after (after t test.parts) left.parts) at_right (each-right (standing f base) (after t test.parts) left.parts right.parts behind) in
      (each-joined (keeping f) t test.parts (joined left.parts right.parts) a.parts (each-joined (keeping f) (after t test.parts) left.parts right.parts b.parts d.parts), (a.root, (b.root, (d.root, tt)))))
      tt h sits

  pub arrow-stands : (names : List (List ℕ)) (i : Instance) (at : Pos) (x y : Walk) → WalkStands x → WalkStands y → WalkStands (arrow base names i at x y)
  arrow-stands names i at x y hx hy here s h sits =
      let left = x here s in
      let t = after s left.parts in
      let right = y here (past_occ t) in
      let form = Arrow left.root.occ right.root.occ in
      let own = occ_here here left.root.ty at form in
      let rest = joined (one_occ own) right.parts in
      let a = hx here s h (each-left (standing f base) s left.parts rest sits) in
      let at_own = here-after f s here h left.parts in
      let b = whole-stands left.root.ty at form right.parts here t
      (λ inside is.
      let d = hy here (past_occ t) (here-past_occ f t here at_own) inside in
      (d.parts, (a.root, (d.root, tt))))
      tt at_own (each-right (standing f base) s left.parts rest sits) in
      record { parts = each-joined (keeping f) s left.parts rest a.parts b.parts; root = b.root; results = b.results }

  hidden-number : (t : Counters) (x : Occ) → slice_get f.occs (base + (past_occ t).hidden) ≡ Some x → slice_get f.occs (base + t.hidden) ≡ Some x
  unfolding past_occ
  hidden-number t x h = h

  pub followed-stands : (names : List (List ℕ)) (i : Instance) (at : Pos) (x y : Walk) → WalkStands x → WalkStands y → WalkStands (followed base names i at x y)
  followed-stands names i at x y hx hy here s h sits =
      let left = x here s in
      let t = after s left.parts in
      let right = y here (past_hidden (past_occ t)) in
      let form = Arrow left.root.occ (base + t.hidden) in
      let own = occ_here here left.root.ty at form in
      let pre = occ_here here left.root.ty at (Pre right.root.occ) in
      let inner = joined (one_hidden pre) right.parts in
      let rest = joined (one_occ own) inner in
      let a = hx here s h (each-left (standing f base) s left.parts rest sits) in
      let at_own = here-after f s here h left.parts in
      let at_pre = here-past_occ f t here at_own in
      let b = whole-stands left.root.ty at form inner here t
      (λ inside is.
      let both = behind-hidden (standing f base) (past_occ t) pre right.parts inside in
      let d = hy here (past_hidden (past_occ t)) (here-past_hidden f (past_occ t) here at_pre) both.1 in (
        hidden-first (keeping f) (past_occ t) pre right.parts (occ-stands f (past_occ t) here at_pre left.root.ty at (Pre right.root.occ) (d.root, tt) tt) d.parts,
        (a.root, (stands-here f (base + t.hidden) here left.root.ty at (Pre right.root.occ) (hidden-number t pre both.0), tt)),
      ))
      tt at_own (each-right (standing f base) s left.parts rest sits) in
      record { parts = each-joined (keeping f) s left.parts rest a.parts b.parts; root = b.root; results = b.results }

  pub flow-stands : (names : List (List ℕ)) (i : Instance) (op : FlowOp) (at : Pos) (x y : Walk) → WalkStands x → WalkStands y → WalkStands (flow_walk base names i op at x y)
  flow-stands names i flow.Arrow at x y hx hy here s h sits = arrow-stands names i at x y hx hy here s h sits
  flow-stands names i flow.Fby at x y hx hy here s h sits = followed-stands names i at x y hx hy here s h sits

  -- ---- calls

  -- a call of what was found by the name
  abbrev called : Option Callee → Pos → List Walk → Walk
  called o at args here s =
      let inside = in_call s.occs here in
      let arguments = walk_all args inside (past_occ s) in
      let copy = callee o inside arguments.roots (after (past_occ s) arguments.parts) in
      let result = first_root copy.results in
      record {
        parts = joined (one_occ (occ_here here result.ty at (Result result.occ))) (joined arguments.parts copy.parts);
        root = record { occ = s.occs; ty = result.ty };
        results = copy.results;
      }

  called-stands : (c : Callee) (at : Pos) (args : List Walk) → CalleeStands c → AllByRecursion WalkStands args → WalkStands (called (Some c) at args)
  called-stands c at args hc hs here s h sits =
      let inside = in_call s.occs here in
      let t = past_occ s in
      let arguments = walk_all args inside t in
      let copy = c inside arguments.roots (after t arguments.parts) in
      let result = first_root copy.results in
      let own = occ_here here result.ty at (Result result.occ) in
      let both = behind-occ (standing f base) s own (joined arguments.parts copy.parts) sits in
      let at_args = here-in_call f t here (here-past_occ f s here h) s.occs result.ty at (Result result.occ) both.0 in
      let a = walk_all-stands args hs inside t at_args (each-left (standing f base) t arguments.parts copy.parts both.1) in
      let d = hc inside arguments.roots (after t arguments.parts) a.roots (here-after f t inside at_args arguments.parts) (each-right (standing f base) t arguments.parts copy.parts both.1) in
      record {
        parts = occ-first (keeping f) s own (joined arguments.parts copy.parts)
            (occ-stands f s here h result.ty at (Result result.occ) (first-stands here.block copy.results d.some d.results, tt) tt)
            (each-joined (keeping f) t arguments.parts copy.parts a.parts d.parts);
        root = stands-here f s.occs here result.ty at (Result result.occ) both.0;
        results = d.results;
      }

  pub call-stands : (names : List (List ℕ)) (i : Instance) (x : Name) (args : List Walk) (c : Callee) → i.callees x.id ≡ Some c → CalleeStands c → AllByRecursion WalkStands args → WalkStands (call base names i x args)
  call-stands names i x args c is hc hs = subst (λ o. WalkStands (called o x.at args)) (sym is) (called-stands c x.at args hc hs)
