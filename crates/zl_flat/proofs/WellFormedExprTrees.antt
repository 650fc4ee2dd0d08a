-- What the walk of an expression keeps of a flat form but for types, as one of the things that hold of walks.
use Rattle.std.proofs.Common.{ℕ, List}
use Rattle.std.specs.List.{AllByRecursion}
use Rattle.zl_meaning.specs.FlatForm.{FlatForm}
use Rattle.zl_meaning.specs.declared.occurrence.Form.TheVariants.{Lit, Read, Last}
use Rattle.zl_flat.specs.Instances.{Instance}
use Rattle.zl_flat.specs.Operators.{value_type}
use Rattle.zl_flat.proofs.WellFormedGround.{Sits, IsHere, RootStands}
use Rattle.zl_flat.proofs.WellFormedExprs.{KeepsAt, CopyKeeps, leaf-stands, chain-stands, built_in-stands, prefixed-stands, link-stands, conditional-stands, flow-stands, call-stands}
use Rattle.zl_flat.proofs.UsesExprTrees.{Kinds, Copied, OfForms}

module _ (f : FlatForm) (base : ℕ) where
  abbrev pub standing_exprs : Kinds
  standing_exprs = record { walked = λ here s w. KeepsAt f base here s w; linked = λ here left s w. RootStands f here.block left → KeepsAt f base here s w }

  abbrev pub standing_copies : Copied
  standing_copies here roots s c = AllByRecursion (RootStands f here.block) roots → IsHere f s here → Sits f base s c.parts → CopyKeeps f here s c

  pub forms-stand : (names : List (List ℕ)) (i : Instance) → OfForms standing_exprs standing_copies base names i
  forms-stand names i = record {
    literal = λ v at here s. leaf-stands f base (value_type v) at (Lit v) here s tt tt;
    reading = λ v x is here s. leaf-stands f base v.ty x.at (Read v.place) here s tt tt;
    lasting = λ v x at is here s. leaf-stands f base v.ty at (Last v.place) here s tt tt;
    building = λ op at args hs here s. built_in-stands f base names i op at args hs here s;
    calling = λ x args c is hc hs here s. call-stands f base names i x args c is hc hs here s;
    prefixing = λ op at x hx here s. prefixed-stands f base names i op at x hx here s;
    chaining = λ x ls hx hls here s. chain-stands f base x ls hx hls here s;
    linking = λ l hx here left s. link-stands f base l.op l.at l.arg hx here left s;
    flowing = λ op at x y hx hy here s. flow-stands f base names i op at x y hx hy here s;
    choosing = λ at c x y hc hx hy here s. conditional-stands f base names i at c x y hc hx hy here s;
  }
