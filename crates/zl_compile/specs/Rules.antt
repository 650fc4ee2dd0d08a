-- The rules that a tree keeps, stage by stage: a stage is tried where the tree keeps the rules of those before it. The stages
-- and their order are this project's own.
use Rattle.std.specs.Prelude.{◌≡◌, List, []}
use Rattle.zl_value.specs.declared.value.Ty.{Ty}
use Rattle.zl_ast.specs.declared.program.Program.{Program}
use Rattle.zl_ast.specs.NamesRules.{violations}
use Rattle.zl_ast.specs.Scopes.{scopes}
use Rattle.zl_ast.specs.Assignments.{IsTyping}
use Rattle.zl_ast.specs.TypeEqualities.{equalities}
use Rattle.zl_ast.specs.Kinds.{misplaced}
use Rattle.zl_ast.specs.Initialised.{requirements}
use Rattle.zl_ast.specs.Levels.{HasLevels}
use Rattle.zl_meaning.specs.FlatForm.{FlatForm}
use Rattle.zl_meaning.specs.Depends.{AreRanks}
use Rattle.zl_meaning.specs.GradesLaw.{AreAllowed}
use Rattle.zl_flat.specs.Flat.{IsFlatOf}
use Rattle.zl_grade.specs.Graded.{grading_of}
use Rattle.zl_compile.specs.declared.file.Accepted.{Accepted}

-- the tree keeps the rules of names
abbrev pub KeepsNames : Program → Type 0
KeepsNames p = violations p ≡ []

-- The tree keeps the rules of types: its variables have one typing, and each construct stands where it may.
pub record KeepsTypes (p : Program) : Type 0 where
  pub types : List (List Ty)
  pub typing : IsTyping (equalities p) (scopes p) types
  pub placed : misplaced p ≡ []

-- the tree keeps the rule of initialisation
abbrev pub KeepsInitialisation : Program → Type 0
KeepsInitialisation p = HasLevels (requirements p)

-- The tree keeps the rules of names, of types and of initialisation, and its variables have these types.
pub record KeepsTreeRules (p : Program) (types : List (List Ty)) : Type 0 where
  pub names : KeepsNames p
  pub typing : IsTyping (equalities p) (scopes p) types
  pub placed : misplaced p ≡ []
  pub initialisation : KeepsInitialisation p

-- The tree keeps these rules and the limits of expansion, and this is its flat form.
pub record HasFlat (p : Program) (form : FlatForm) : Type 0 where
  pub types : List (List Ty)
  pub rules : KeepsTreeRules p types
  pub flat : IsFlatOf p (scopes p) types form

-- The tree keeps the rules of every stage: it has this flat form, with these ranks, and these are its grades, of which none is
-- greater than is needed.
pub record KeepsRules (a : Accepted) : Type 0 where
  pub flat : HasFlat a.program a.flat
  pub ranks : AreRanks a.flat a.ranks.places.items a.ranks.blocks.items
  pub grades : AreAllowed a.flat (grading_of a.grades)
