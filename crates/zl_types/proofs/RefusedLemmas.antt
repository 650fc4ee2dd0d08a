-- What a refusal says of a program.
use Rattle.std.proofs.Common.{◌≡◌, List, subst}
use Rattle.std.proofs.lemmas.Grind.{common_steps}
use Rattle.zl_value.specs.declared.position.Pos.{Pos}
use Rattle.zl_value.specs.declared.value.Ty.{Ty}
use Rattle.zl_value.specs.declared.rule.Refusal.{Refusal}
use Rattle.zl_value.specs.declared.rule.Refusal.TheVariants.{Broken, Memory}
use Rattle.zl_value.specs.declared.rule.Rule.{Rule}
use Rattle.zl_value.specs.declared.rule.Rule.TheVariants as rule
use Rattle.zl_ast.specs.declared.program.Program.{Program}
use Rattle.zl_ast.specs.declared.scope.VarInfo.{VarInfo}
use Rattle.zl_ast.specs.declared.constraint.Equality.{Equality}
use Rattle.zl_ast.specs.Scopes.{scopes}
use Rattle.zl_ast.specs.Assignments.{IsTyping, IsUntyped, IsUntypedBy}
use Rattle.zl_ast.specs.TypeEqualities.{equalities}
use Rattle.zl_ast.specs.Kinds.{IsMisplacedAt}
use Rattle.zl_ast.specs.TypesRules.{IsTypesRefusedAt, IsTypesRefusedBy}

untyped_at : (p : Program) (r : Rule) (at : Pos) → IsUntyped (equalities p) (scopes p) r at → IsTypesRefusedAt p r at
untyped_at p rule.Kind at h = absurd h
untyped_at p _ at h = h

-- What refuses the equalities of a program refuses the program.
pub untyped-refused : (p : Program) (es : List Equality) (vars : List (List VarInfo)) (r : Refusal) →
    es ≡ equalities p → vars ≡ scopes p → IsUntypedBy es vars r → IsTypesRefusedBy p r
untyped-refused p es vars (Broken r at) same scope h =
    untyped_at p r at (subst (λ xs. IsUntyped xs (scopes p) r at) same (subst (λ vs. IsUntyped es vs r at) scope h))
untyped-refused p es vars Memory same scope h = tt

-- A misplaced construct refuses a program that has types.
pub kind-refused : (p : Program) (es : List Equality) (vars : List (List VarInfo)) (types : List (List Ty)) (at : Pos) →
    es ≡ equalities p → vars ≡ scopes p → IsTyping es vars types → IsMisplacedAt p at → IsTypesRefusedBy p (Broken rule.Kind at)
kind-refused p es vars types at same scope typing misplaced =
    record { types = types; typing = subst (λ xs. IsTyping xs (scopes p) types) same (subst (λ vs. IsTyping es vs types) scope typing); misplaced = misplaced }

pub ruleset refusing = (common_steps, untyped-refused, kind-refused)
