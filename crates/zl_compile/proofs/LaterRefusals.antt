-- The refusals of the stages behind the names are by the rules of those stages, and what these stages give keeps their rules.
use Rattle.std.proofs.Common.{◌≡◌, subst, sym, List, []}
use Rattle.zl_value.specs.declared.position.Pos.{Pos}
use Rattle.zl_value.specs.declared.rule.Refusal.{Refusal}
use Rattle.zl_value.specs.declared.rule.Refusal.TheVariants.{Broken, Memory}
use Rattle.zl_value.specs.declared.rule.Rule.{Rule}
use Rattle.zl_value.specs.declared.rule.Rule.TheVariants as rule
use Rattle.zl_ast.specs.declared.program.Program.{Program}
use Rattle.zl_ast.specs.TypesRules.{IsTypesRefusedBy, IsTypesRefusedAt}
use Rattle.zl_ast.specs.Initialised.{requirements}
use Rattle.zl_ast.specs.Levels.{IsUninitialisedBy, IsUninitialised}
use Rattle.zl_value.specs.declared.value.Ty.{Ty}
use Rattle.zl_ast.specs.declared.scope.VarInfo.{VarInfo}
use Rattle.zl_ast.specs.Scopes.{scopes}
use Rattle.zl_ast.specs.Assignments.{IsTyping}
use Rattle.zl_ast.specs.TypeEqualities.{equalities}
use Rattle.zl_meaning.specs.FlatForm.{FlatForm}
use Rattle.zl_ast.specs.Parsed.{IsParsed}
use Rattle.zl_flat.specs.Checked.{IsChecked}
use Rattle.zl_flat.specs.Flat.{IsFlatOf}
use Rattle.zl_flat.specs.Limits.{IsExpandRefusal, IsExpandRefusedBy}
use Rattle.zl_ast.specs.Kinds.{misplaced}
use Rattle.zl_meaning.specs.Causality.{HasRanks}
use Rattle.zl_meaning.specs.Depends.{AreRanks}
use Rattle.zl_meaning.specs.GradesLaw.{IsGradable, AreAllowed}
use Rattle.zl_meaning.specs.Regular.{IsRegular}
use Rattle.zl_meaning.specs.Single.{IsSingle}
use Rattle.zl_meaning.specs.WellFormed.{IsWellFormed}
use Rattle.zl_meaning.specs.declared.grades.Grades.{Grades}
use Rattle.zl_meaning.specs.declared.ranks.Ranks.{Ranks}
use Rattle.zl_causal.specs.Refused as causal
use Rattle.zl_grade.specs.Graded.{grading_of}
use Rattle.zl_grade.specs.Refused as grade
use Rattle.zl_compile.specs.Rules.{KeepsNames, KeepsTypes, KeepsInitialisation, KeepsTreeRules, KeepsRules, HasFlat}
use Rattle.zl_compile.specs.FirstBroken.{IsFirstBroken, IsBrokenBy}
use Rattle.zl_compile.specs.Steps.{IsExpanded}
use Rattle.zl_compile.proofs.MainBlock.{flat_is_hybrid}

types_broken_at : (p : Program) (r : Rule) (at : Pos) → KeepsNames p → IsTypesRefusedAt p r at → IsFirstBroken p r at
types_broken_at p rule.Size at names h = absurd h
types_broken_at p rule.Utf8 at names h = absurd h
types_broken_at p rule.Token at names h = absurd h
types_broken_at p rule.Literal at names h = absurd h
types_broken_at p rule.Parse at names h = absurd h
types_broken_at p rule.Deep at names h = absurd h
types_broken_at p rule.NameUnknown at names h = absurd h
types_broken_at p rule.NameTwice at names h = absurd h
types_broken_at p rule.DefinedTwice at names h = absurd h
types_broken_at p rule.Undefined at names h = absurd h
types_broken_at p rule.Arity at names h = absurd h
types_broken_at p rule.Branch at names h = absurd h
types_broken_at p rule.Main at names h = absurd h
types_broken_at p rule.Last at names h = absurd h
types_broken_at p rule.TypeClash at names h = (names, h)
types_broken_at p rule.TypeOpen at names h = (names, h)
types_broken_at p rule.Kind at names h = (names, h)
types_broken_at p rule.Init at names h = absurd h
types_broken_at p rule.ExpandSize at names h = absurd h
types_broken_at p rule.Causality at names h = absurd h
types_broken_at p rule.Grade at names h = absurd h
types_broken_at p rule.Unbuilt at names h = absurd h

pub types_broken : (p : Program) (r : Refusal) → KeepsNames p → IsTypesRefusedBy p r → IsBrokenBy p r
types_broken p (Broken r at) names refused = types_broken_at p r at names refused
types_broken p Memory names refused = tt

levels_broken_at : (p : Program) (r : Rule) (at : Pos) → KeepsNames p → KeepsTypes p → IsUninitialised (requirements p) r at → IsFirstBroken p r at
levels_broken_at p rule.Size at names types h = absurd h
levels_broken_at p rule.Utf8 at names types h = absurd h
levels_broken_at p rule.Token at names types h = absurd h
levels_broken_at p rule.Literal at names types h = absurd h
levels_broken_at p rule.Parse at names types h = absurd h
levels_broken_at p rule.Deep at names types h = absurd h
levels_broken_at p rule.NameUnknown at names types h = absurd h
levels_broken_at p rule.NameTwice at names types h = absurd h
levels_broken_at p rule.DefinedTwice at names types h = absurd h
levels_broken_at p rule.Undefined at names types h = absurd h
levels_broken_at p rule.Arity at names types h = absurd h
levels_broken_at p rule.Branch at names types h = absurd h
levels_broken_at p rule.Main at names types h = absurd h
levels_broken_at p rule.Last at names types h = absurd h
levels_broken_at p rule.TypeClash at names types h = absurd h
levels_broken_at p rule.TypeOpen at names types h = absurd h
levels_broken_at p rule.Kind at names types h = absurd h
levels_broken_at p rule.Init at names types h = (names, types, h)
levels_broken_at p rule.ExpandSize at names types h = absurd h
levels_broken_at p rule.Causality at names types h = absurd h
levels_broken_at p rule.Grade at names types h = absurd h
levels_broken_at p rule.Unbuilt at names types h = absurd h

pub levels_broken : (p : Program) (r : Refusal) → KeepsNames p → KeepsTypes p → IsUninitialisedBy (requirements p) r → IsBrokenBy p r
levels_broken p (Broken r at) names types unmet = levels_broken_at p r at names types unmet
levels_broken p Memory names types unmet = tt

-- the rules of a tree, together
pub tree_rules : (p : Program) (types : List (List Ty)) → KeepsNames p → KeepsTypes p → KeepsInitialisation p → IsTyping (equalities p) (scopes p) types → KeepsTreeRules p types
tree_rules p types names kinds levels typing = record { names = names; typing = typing; placed = kinds.placed; initialisation = levels }

-- the size passes its limit by the one rule of this stage
limits_broken_at : (p : Program) (types : List (List Ty)) (r : Rule) (at : Pos) → KeepsTreeRules p types → IsExpandRefusal p (scopes p) types r at → IsFirstBroken p r at
limits_broken_at p types rule.Size at rules h = absurd h
limits_broken_at p types rule.Utf8 at rules h = absurd h
limits_broken_at p types rule.Token at rules h = absurd h
limits_broken_at p types rule.Literal at rules h = absurd h
limits_broken_at p types rule.Parse at rules h = absurd h
limits_broken_at p types rule.Deep at rules h = absurd h
limits_broken_at p types rule.NameUnknown at rules h = absurd h
limits_broken_at p types rule.NameTwice at rules h = absurd h
limits_broken_at p types rule.DefinedTwice at rules h = absurd h
limits_broken_at p types rule.Undefined at rules h = absurd h
limits_broken_at p types rule.Arity at rules h = absurd h
limits_broken_at p types rule.Branch at rules h = absurd h
limits_broken_at p types rule.Main at rules h = absurd h
limits_broken_at p types rule.Last at rules h = absurd h
limits_broken_at p types rule.TypeClash at rules h = absurd h
limits_broken_at p types rule.TypeOpen at rules h = absurd h
limits_broken_at p types rule.Kind at rules h = absurd h
limits_broken_at p types rule.Init at rules h = absurd h
limits_broken_at p types rule.ExpandSize at rules h = record { types = types; rules = rules; too_large = h }
limits_broken_at p types rule.Causality at rules h = absurd h
limits_broken_at p types rule.Grade at rules h = absurd h
limits_broken_at p types rule.Unbuilt at rules h = absurd h

pub limits_broken : (p : Program) (vars : List (List VarInfo)) (types : List (List Ty)) (r : Refusal) → vars ≡ scopes p → KeepsNames p → KeepsTypes p → KeepsInitialisation p → IsTyping (equalities p) (scopes p) types → IsExpandRefusedBy p vars types r → IsBrokenBy p r
limits_broken p vars types (Broken r at) same names kinds levels typing refused =
    limits_broken_at p types r at (tree_rules p types names kinds levels typing) (subst (λ vs. IsExpandRefusal p vs types r at) same refused)
limits_broken p vars types Memory same names kinds levels typing refused = tt

-- a tree that was parsed and keeps the rules before is what expansion asks for
pub tree_checked : (p : Program) (types : List (List Ty)) → IsParsed p → KeepsNames p → KeepsTypes p → IsTyping (equalities p) (scopes p) types → IsChecked p types
tree_checked p types parsed names kinds typing = record { parsed = parsed; names = names; typing = typing; placed = kinds.placed }

-- what expansion gives has a hybrid block as its first
pub flat_by : (p : Program) (vars : List (List VarInfo)) (types : List (List Ty)) (form : FlatForm) → vars ≡ scopes p → KeepsNames p → IsFlatOf p vars types form → IsSingle form → IsRegular form → IsExpanded p types form
flat_by p vars types form same names flat single regular =
    let its = subst (λ vs. IsFlatOf p vs types form) same flat in
    record { flat = its; single = single; regular = regular; hybrid = flat_is_hybrid p (scopes p) types form names its }

-- ---- the flat form

module _ (p : Program) (types : List (List Ty)) (form : FlatForm) (names : KeepsNames p) (levels : KeepsInitialisation p)
    (typing : IsTyping (equalities p) (scopes p) types) (placed : misplaced p ≡ []) (expanded : IsExpanded p types form) where
  has_flat : HasFlat p form
  has_flat = record { types = types; rules = record { names = names; typing = typing; placed = placed; initialisation = levels }; flat = expanded.flat }

  -- a form without ranks breaks the rule of causality
  pub circle_broken : (why : Refusal) → causal.IsRefused form why → IsBrokenBy p why
  circle_broken (Broken r at) refused = subst (λ r. IsFirstBroken p r at) (sym refused.0) (record { form = form; flat = has_flat; circle = refused.1 })
  circle_broken Memory refused = tt

  -- a form with a greater grade than is needed breaks that of grades
  pub grade_broken : (ranks : Ranks) (why : Refusal) → AreRanks form ranks.places.items ranks.blocks.items → grade.IsRefused form why → IsBrokenBy p why
  grade_broken ranks (Broken r at) grow refused =
      let has : HasRanks form = record { of_places = ranks.places.items; of_blocks = ranks.blocks.items; grow = grow } in
      subst (λ r. IsFirstBroken p r at) (sym refused.0) (record { form = form; flat = has_flat; ranks = has; graded = refused.1 })
  grade_broken ranks Memory grow refused = tt

  -- with ranks and grades the tree keeps the rules of every stage
  pub rules_kept : (ranks : Ranks) (grades : Grades) → AreRanks form ranks.places.items ranks.blocks.items → AreAllowed form (grading_of grades) → KeepsRules (record { program = p; flat = form; ranks = ranks; grades = grades })
  rules_kept ranks grades grow allowed = record { flat = has_flat; ranks = grow; grades = allowed }

  -- and its form is one of which grades are asked
  pub gradable_by : (ranks : Ranks) → IsWellFormed form → AreRanks form ranks.places.items ranks.blocks.items → IsGradable form
  gradable_by ranks formed grow = record {
    formed = formed;
    single = expanded.single;
    regular = expanded.regular;
    hybrid = expanded.hybrid;
    ranks = record { of_places = ranks.places.items; of_blocks = ranks.blocks.items; grow = grow };
  }
