use Rattle.std.proofs.Common.{◌≡◌, ℕ, List, Option, length, ap, subst, ◌∙◌}
use Rattle.zl_meaning.specs.FlatForm.{FlatForm}
use Rattle.zl_normal.specs.Tables.{Tables}
use Rattle.zl_normal.specs.NumberTables.{KeyTables}
use Rattle.zl_normal.specs.Table.{IsTable}
use Rattle.zl_normal.specs.GuardRoots.{guard_by_root}
use Rattle.zl_normal.proofs.Wired.{tables_wire, tables_right}
use Rattle.zl_normal.proofs.wiring.Wiring.wires.Goals as goal

-- the table of guards, by the form's own count and the values that are kept
guards_are : (f : FlatForm) (t : Tables) (k : KeyTables) (values seen found : List ℕ) (guards : List (Option ℕ)) (n : ℕ) → seen ≡ values → n ≡ length f.occs → IsTable guards n (guard_by_root f t k seen found) → IsTable guards (length f.occs) (guard_by_root f t k values found)
guards_are f t k values seen found guards n same size table =
    let sized : IsTable guards (length f.occs) (guard_by_root f t k seen found) = subst (λ m. IsTable guards m (guard_by_root f t k seen found)) size table in
    subst (λ vs. IsTable guards (length f.occs) (guard_by_root f t k vs found)) same sized

pub returns-clause-wired : goal.returns-clause-wired
returns-clause-wired c =
    let f : FlatForm = c.args.self.now.flat.now in
    let t : Tables = c.args.self.now.tables.now in
    let k : KeyTables = c.args.self.now.keys.now in
    let len = c.len.ensures ∙ ap (λ (g : FlatForm). length g.occs) c.flat.view_is in
    let guards = guards_are f t k c.in_ok-values.values.occs.items c.as_slice.result.now c.args.roots.now c.in_ok-guards.guards.items c.len.result c.as_slice.ensures.value len c.in_ok-guards.ensures in
    tables_wire f c.args.self.now.grades.now t k
    (record { values = c.in_ok-values.values.occs.items; guards = c.in_ok-guards.guards.items; places = c.in_ok-values.values.places.items; slopes = c.in_ok-slopes.slopes.occs.items; motions = c.in_ok-slopes.slopes.places.items })
    c.args.roots.now c.requires.known guards c.in_ok-values.ensures c.in_ok-slopes.ensures

pub returns-clause-tables : goal.returns-clause-tables
returns-clause-tables c =
    let f : FlatForm = c.args.self.now.flat.now in
    let t : Tables = c.args.self.now.tables.now in
    let k : KeyTables = c.args.self.now.keys.now in
    let len = c.len.ensures ∙ ap (λ (g : FlatForm). length g.occs) c.flat.view_is in
    let guards = guards_are f t k c.in_ok-values.values.occs.items c.as_slice.result.now c.args.roots.now c.in_ok-guards.guards.items c.len.result c.as_slice.ensures.value len c.in_ok-guards.ensures in
    tables_right f c.args.self.now.grades.now t k
    (record { values = c.in_ok-values.values.occs.items; guards = c.in_ok-guards.guards.items; places = c.in_ok-values.values.places.items; slopes = c.in_ok-slopes.slopes.occs.items; motions = c.in_ok-slopes.slopes.places.items })
    c.args.roots.now c.requires.known guards
