-- What is known of the lists that expansion is given of a program that keeps the rules.
use Rattle.std.proofs.Common.{◌≡◌, suc, Bool, true, false, not, List, length, refl, ap, ◌∙◌}
use Rattle.std.proofs.lemmas.List.{length-map}
use Rattle.zl_value.specs.declared.position.Pos.{Pos}
use Rattle.zl_value.specs.declared.rule.Rule.TheVariants as rule
use Rattle.zl_value.specs.declared.value.Ty.{Ty}
use Rattle.zl_ast.specs.declared.scope.VarInfo.{VarInfo}
use Rattle.zl_ast.specs.declared.program.Program.{Program}
use Rattle.zl_ast.specs.NamesRules.{built_in, decls_broken, has_main}
use Rattle.zl_ast.specs.Scopes.{scopes, variables}
use Rattle.zl_ast.specs.Assignments.{HaveTypesInEach, end_of_all, next_of_all}
use Rattle.zl_ast.specs.declared.constraint.Equality.{Equality}
use Rattle.zl_flat.specs.Checked.{IsChecked}
use Rattle.zl_flat.proofs.RulesKept.{none-right, kept-if}
use Rattle.zl_expand.proofs.ExpandLemmas.{expanding}

-- each declaration has its variables
pub checked-scoped : (p : Program) (vars : List (List VarInfo)) → vars ≡ scopes p → length vars ≡ length p.decls
checked-scoped p vars e = ap length e ∙ length-map p.decls variables

typed-each : (es : List Equality) (vars : List (List VarInfo)) (types : List (List Ty)) → HaveTypesInEach es vars types → length types ≡ length vars
typed-each es _ _ end_of_all = refl
typed-each es _ _ (next_of_all {vss = vss} {tss = tss} h hs) = ap (λ n. suc n) (typed-each es vss tss hs)

-- and the types of these
pub checked-typed : (p : Program) (types : List (List Ty)) → IsChecked p types → length types ≡ length p.decls
checked-typed p types h = typed-each _ (scopes p) types h.typing.types_of_variables ∙ checked-scoped p (scopes p) refl

not-false : (b : Bool) → not b ≡ false → b ≡ true
not-false true e = refl
not-false false e = cc

-- there is a `main`
pub checked-main : (p : Program) (types : List (List Ty)) → IsChecked p types → has_main p.names p.decls ≡ true
checked-main p types h =
    let at : Pos = record { line = 1; column = 1 } in
    not-false (has_main p.names p.decls) (kept-if (not (has_main p.names p.decls)) rule.Main at (none-right (decls_broken p.names (built_in p.names) p.decls) _ h.names))

pub ruleset checking = (expanding, checked-scoped, checked-typed, checked-main)
