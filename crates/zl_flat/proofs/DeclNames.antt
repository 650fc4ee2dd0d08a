-- The variables of a declaration in a copy of it, and the names that are known behind declarations.
use Rattle.std.proofs.Common.{◌≡◌, ℕ, ◌<◌, Bool, true, false, not, if◌then◌else◌, nat_eq, List, [], ◌∷◌, length, Option, Some, None, refl, ap, ◌∙◌, arith}
use Rattle.std.specs.List.{AllByRecursion}
use Rattle.std.proofs.lemmas.Bool.{eq-eqb}
use Rattle.zl_value.specs.declared.value.Ty.{Ty}
use Rattle.zl_ast.specs.declared.scope.VarInfo.{VarInfo}
use Rattle.zl_ast.specs.Names.{among, with_id}
use Rattle.zl_ast.specs.NamesUsed.{Known, Signature}
use Rattle.zl_ast.specs.NamesRules.{is_local, declared_with, with_visible}
use Rattle.zl_ast.specs.Scopes as scope
use Rattle.zl_flat.specs.declared.variable.Variable.{Variable}
use Rattle.zl_flat.specs.declared.size.Size.{Size}
use Rattle.zl_flat.specs.Variables.{variable_of, variables}
use Rattle.zl_flat.specs.Operators.{built_in_op}
use Rattle.zl_flat.specs.Numbering.{decl_numbering}
use Rattle.zl_flat.specs.Instances.{Callee, Instance}
use Rattle.zl_flat.specs.Expansion.{Scoped}
use Rattle.zl_flat.proofs.RulesKept.{IsVariable, Covers, covers-one}

-- ---- variables

-- the name is that of one of the variables
pub record Finds (vs : List Variable) (id : ℕ) : Type 0 where
  pub variable : Variable
  pub is : variable_of vs id ≡ Some variable

finds-first : (v : Variable) (vs : List Variable) → Finds (v ∷ vs) v.name
finds-first v vs = record { variable = v; is = ap (λ b. if b then Some v else variable_of vs v.name) (eq-eqb v.name v.name refl) }

finds-later : (v : Variable) (vs : List Variable) (id : ℕ) → Finds vs id → Finds (v ∷ vs) id
finds-later v vs id h = by_equal (nat_eq v.name id) refl
  where
    by_equal : (b : Bool) → nat_eq v.name id ≡ b → Finds (v ∷ vs) id
    by_equal true e = record { variable = v; is = ap (λ b. if b then Some v else variable_of vs id) e }
    by_equal false e = record { variable = h.variable; is = ap (λ b. if b then Some v else variable_of vs id) e ∙ h.is }

all-later : (v : Variable) (vs : List Variable) (infos : List VarInfo) → AllByRecursion (λ (x : VarInfo). Finds vs x.name) infos → AllByRecursion (λ (x : VarInfo). Finds (v ∷ vs) x.name) infos
all-later v vs [] h = tt
all-later v vs (x ∷ infos) h = (finds-later v vs x.name h.0, all-later v vs infos h.1)

pub all-found : (infos : List VarInfo) (types : List Ty) (own : List ℕ) → length types ≡ length infos → length own ≡ length infos → AllByRecursion (λ (x : VarInfo). Finds (variables infos types own) x.name) infos
all-found [] types own t p = tt
all-found (x ∷ infos) [] own t p = absurd (omega (arith, t))
all-found (x ∷ infos) (y ∷ types) [] t p = absurd (omega (arith, p))
all-found (x ∷ infos) (y ∷ types) (n ∷ own) t p =
    let v : Variable = record { name = x.name; ty = y; place = n } in
    (finds-first v (variables infos types own), all-later v (variables infos types own) infos (all-found infos types own (omega (arith, t)) (omega (arith, p))))

-- the variables of these infos are variables of the instance
abbrev pub InfosKnown : Instance → List VarInfo → Type 0
InfosKnown i infos = AllByRecursion (λ (x : VarInfo). IsVariable i x.name) infos

pub infos-known : (i : Instance) (infos : List VarInfo) → AllByRecursion (λ (x : VarInfo). Finds i.variables x.name) infos → InfosKnown i infos
infos-known i [] h = tt
infos-known i (x ∷ infos) h = let a = h.0 in (record { variable = a.variable; is = a.is }, infos-known i infos h.1)

pub covers-visible : (i : Instance) (ids : List ℕ) (infos : List VarInfo) → Covers i ids → InfosKnown i infos → Covers i (with_visible ids infos)
covers-visible i ids [] c h = c
covers-visible i ids (x ∷ infos) c h = covers-visible i (if not (is_local x.class) then with_id ids x.name else ids) infos (one (not (is_local x.class))) h.1
  where
    one : (b : Bool) → Covers i (if b then with_id ids x.name else ids)
    one true = covers-one (IsVariable i) ids x.name (among ids x.name) c h.0
    one false = c

-- ---- what is known

-- a declaration with its own variables, and a type and a place for each; it has a result
pub record IsCounted (d : Scoped) : Type 0 where
  pub infos : d.infos ≡ scope.variables d.decl
  pub types : length d.types ≡ length d.infos
  pub places : (sizes : ℕ → Option Size) (n : ℕ) → length (decl_numbering d.infos sizes d.decl n).own ≡ length d.infos
  pub some : 0 < length d.decl.results

pub record Calls (callees : ℕ → Option Callee) (id : ℕ) : Type 0 where
  pub copy : Callee
  pub is : callees id ≡ Some copy

-- the names that are known can be called
pub record KnowsNames (names : List (List ℕ)) (callees : ℕ → Option Callee) (k : Known) : Type 0 where
  pub signatures : (id : ℕ) (s : Signature) → k.signature id ≡ Some s → built_in_op names id ≡ None → Calls callees id
  pub constants : (id : ℕ) → among k.constants id ≡ true → Calls callees id

-- what is known behind these declarations
abbrev pub known_after : Known → List Scoped → Known
known_after k [] = k
known_after k (d ∷ ds) = known_after (declared_with k d.decl) ds
