-- In each copy of a declaration's body the variables have their places, which stand in the copy.
use Rattle.std.proofs.Common.{◌≡◌, ℕ, Bool, true, false, if◌then◌else◌, nat_eq, List, [], ◌∷◌, slice_get, Option, Some, refl, sym, ap, subst, ◌∙◌}
use Rattle.std.specs.List.{AllByRecursion}
use Rattle.std.proofs.lemmas.Bool.{eqb-true}
use Rattle.zl_value.specs.declared.value.Ty.{Ty}
use Rattle.zl_ast.specs.declared.scope.VarInfo.{VarInfo}
use Rattle.zl_meaning.specs.FlatForm.{FlatForm}
use Rattle.zl_flat.specs.declared.here.Here.{Here}
use Rattle.zl_flat.specs.declared.variable.Variable.{Variable}
use Rattle.zl_flat.specs.declared.size.Size.{Size}
use Rattle.zl_flat.specs.declared.given.Given.{Given}
use Rattle.zl_flat.specs.Parts.{Counters}
use Rattle.zl_flat.specs.Variables.{variables, variable_of}
use Rattle.zl_flat.specs.Numbering.{decl_numbering}
use Rattle.zl_flat.specs.Instances.{Callee, Instance}
use Rattle.zl_flat.specs.Expansion.{Scoped, body_copy, instance}
use Rattle.zl_flat.proofs.WellFormedGround.{Sits}
use Rattle.zl_flat.proofs.RulesKept.{IsVariable}
use Rattle.zl_flat.proofs.WellFormedSizes.{IsSized}
use Rattle.zl_flat.proofs.WellFormedMentions.{Mention, as_entries}
use Rattle.zl_flat.proofs.WellFormedFirsts.{Distinct, HasNumber}
use Rattle.zl_flat.proofs.WellFormedVariables.{own_mentions, decl-entries, decl-numbers}
use Rattle.zl_flat.proofs.WellFormedPlaces.{MentionPlaced}
use Rattle.zl_flat.proofs.WellFormedCopies.{IsInOrder, copy-placed}
use Rattle.zl_flat.proofs.RegularUses.{all-map}
use Rattle.zl_flat.proofs.RegularEqns.{PlaceIn, Placed}

-- the name is that of a variable, whose place stands in the copy of this call
record NameIn (f : FlatForm) (i : Instance) (call : Option ℕ) (id : ℕ) : Type 0 where
  pub variable : Variable
  pub is : variable_of i.variables id ≡ Some variable
  pub placed : PlaceIn f call variable.place

-- so is that of a variable
abbrev InfoIn : FlatForm → Instance → Option ℕ → VarInfo → Type 0
InfoIn f i call v = NameIn f i call v.name

-- each variable whose first mention has its place has it in the copy
entries-in : (f : FlatForm) (i : Instance) (call : Option ℕ) (ms : List Mention) → AllByRecursion (λ (m : Mention). HasNumber i.variables m.name.id m.number) ms → AllByRecursion (MentionPlaced f i call) ms → AllByRecursion (InfoIn f i call) (as_entries ms)
entries-in f i call [] h p = tt
entries-in f i call (m ∷ ms) h p =
    let a = h.0 in
    let b = p.0 in
    (record { variable = a.variable; is = a.is; placed = record { place = b.place; is = subst (λ k. slice_get f.places k ≡ Some b.place) (sym a.place) b.is; in_copy = b.in_copy } }, entries-in f i call ms h.1 p.1)

-- a variable that is found is that of one of the infos
found-in : (f : FlatForm) (i : Instance) (call : Option ℕ) (infos : List VarInfo) (types : List Ty) (own : List ℕ) → AllByRecursion (InfoIn f i call) infos → (id : ℕ) (v : Variable) → variable_of (variables infos types own) id ≡ Some v → variable_of i.variables id ≡ Some v → PlaceIn f call v.place
found-in f i call [] types own h id v is found = absurd (cc)
found-in f i call (x ∷ infos) [] own h id v is found = absurd (cc)
found-in f i call (x ∷ infos) (ty ∷ types) [] h id v is found = absurd (cc)
found-in f i call (x ∷ infos) (ty ∷ types) (n ∷ own) h id v is found = by_equal (nat_eq x.name id) refl is (λ k. found-in f i call infos types own h.1 id v k found)
  where
    same : (a b : Variable) → Some a ≡ Some b → a ≡ b
    same a b e = cc

    by_equal : (b : Bool) → nat_eq x.name id ≡ b → (if b then Some (record { name = x.name; ty = ty; place = n }) else variable_of (variables infos types own) id) ≡ Some v → (variable_of (variables infos types own) id ≡ Some v → PlaceIn f call v.place) → PlaceIn f call v.place
    by_equal true e k more = let a = h.0 in subst (λ (u : Variable). PlaceIn f call u.place) (same a.variable v (sym a.is ∙ (ap (variable_of i.variables) (eqb-true x.name id e) ∙ found))) a.placed
    by_equal false e k more = more k

-- the variables of a copy have places in it, and each name of the declaration is that of one
pub record CopyPlaced (f : FlatForm) (i : Instance) (call : Option ℕ) (infos : List VarInfo) : Type 0 where
  pub placed : Placed f i call
  pub named : AllByRecursion (λ (v : VarInfo). IsVariable i v.name) infos

-- they have, where the parts of the copy are those of the form
pub copy-in_call : (f : FlatForm) (base : ℕ) (names : List (List ℕ)) (callees : ℕ → Option Callee) (sizes : ℕ → Option Size) (d : Scoped) (definers : List Given) (here : Here) (s : Counters) →
    (let i = instance base names callees sizes d here.block s.places in
    IsSized names i sizes → IsInOrder d → Distinct d.infos → Sits f base s (body_copy base names i d.decl definers here s).parts → CopyPlaced f i here.call d.infos)
copy-in_call f base names callees sizes d definers here s sized order distinct sits =
    let i = instance base names callees sizes d here.block s.places in
    let ms = own_mentions d.infos sizes d.decl s.places in
    let numbers = decl-numbers d.infos d.types sizes d.decl s.places order.infos distinct order.in_text order.types in
    let placed = copy-placed f base names i sizes sized d.decl definers here s refl sits in
    let all = subst (λ vs. AllByRecursion (InfoIn f i here.call) vs) (decl-entries d.infos sizes d.decl s.places order.infos distinct order.in_text) (entries-in f i here.call ms numbers placed) in
    record {
      placed = λ id v is. found-in f i here.call d.infos d.types (decl_numbering d.infos sizes d.decl s.places).own all id v is is;
      named = all-map (InfoIn f i here.call) (λ (v : VarInfo). IsVariable i v.name) (λ v h. record { variable = h.variable; is = h.is }) d.infos all;
    }
