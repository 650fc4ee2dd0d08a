-- The first rule that a tree breaks, and where.
use Rattle.std.specs.Prelude.{List}
use Rattle.zl_value.specs.declared.position.Pos.{Pos}
use Rattle.zl_value.specs.declared.value.Ty.{Ty}
use Rattle.zl_value.specs.declared.rule.Refusal.{Refusal}
use Rattle.zl_value.specs.declared.rule.Refusal.TheVariants.{Broken, Memory}
use Rattle.zl_value.specs.declared.rule.Rule.{Rule}
use Rattle.zl_value.specs.declared.rule.Rule.TheVariants as rule
use Rattle.zl_ast.specs.declared.program.Program.{Program}
use Rattle.zl_ast.specs.NamesRules.{IsRefusedAt}
use Rattle.zl_ast.specs.Scopes.{scopes}
use Rattle.zl_ast.specs.TypesRules.{IsTypesRefusedAt}
use Rattle.zl_ast.specs.Initialised.{requirements}
use Rattle.zl_ast.specs.Levels.{IsUnmet}
use Rattle.zl_meaning.specs.FlatForm.{FlatForm}
use Rattle.zl_meaning.specs.Causality.{HasRanks}
use Rattle.zl_flat.specs.Limits.{IsTooLarge}
use Rattle.zl_causal.specs.Refused.{IsCircleAt}
use Rattle.zl_grade.specs.Refused.{IsOverGradedAt}
use Rattle.zl_compile.specs.Rules.{KeepsNames, KeepsTypes, KeepsTreeRules, HasFlat}

-- the tree keeps the rules before, and a count of what it expands to passes its limit
pub record PassesLimits (p : Program) (at : Pos) : Type 0 where
  pub types : List (List Ty)
  pub rules : KeepsTreeRules p types
  pub too_large : IsTooLarge p (scopes p) types at

-- the tree keeps the rules before, and at this place its flat form depends on itself
pub record IsCircular (p : Program) (at : Pos) : Type 0 where
  pub form : FlatForm
  pub flat : HasFlat p form
  pub circle : IsCircleAt form at

-- the tree keeps the rules before, and at this place its flat form has a greater grade than is needed
pub record IsOfHighGrade (p : Program) (at : Pos) : Type 0 where
  pub form : FlatForm
  pub flat : HasFlat p form
  pub ranks : HasRanks form
  pub graded : IsOverGradedAt form at

-- the first rule that a tree breaks, and where
abbrev pub IsFirstBroken : Program → Rule → Pos → Type 0
IsFirstBroken p rule.NameUnknown at = IsRefusedAt p rule.NameUnknown at
IsFirstBroken p rule.NameTwice at = IsRefusedAt p rule.NameTwice at
IsFirstBroken p rule.DefinedTwice at = IsRefusedAt p rule.DefinedTwice at
IsFirstBroken p rule.Undefined at = IsRefusedAt p rule.Undefined at
IsFirstBroken p rule.Arity at = IsRefusedAt p rule.Arity at
IsFirstBroken p rule.Branch at = IsRefusedAt p rule.Branch at
IsFirstBroken p rule.Main at = IsRefusedAt p rule.Main at
IsFirstBroken p rule.Last at = IsRefusedAt p rule.Last at
IsFirstBroken p rule.TypeClash at = KeepsNames p × IsTypesRefusedAt p rule.TypeClash at
IsFirstBroken p rule.TypeOpen at = KeepsNames p × IsTypesRefusedAt p rule.TypeOpen at
IsFirstBroken p rule.Kind at = KeepsNames p × IsTypesRefusedAt p rule.Kind at
IsFirstBroken p rule.Init at = KeepsNames p × KeepsTypes p × IsUnmet (requirements p) at
IsFirstBroken p rule.ExpandSize at = PassesLimits p at
IsFirstBroken p rule.Causality at = IsCircular p at
IsFirstBroken p rule.Grade at = IsOfHighGrade p at
IsFirstBroken p _ at = ⊥

-- why a tree isn't said to keep the rules: the first that it breaks, or there was no memory
abbrev pub IsBrokenBy : Program → Refusal → Type 0
IsBrokenBy p (Broken r at) = IsFirstBroken p r at
IsBrokenBy p Memory = Unit {0}
