-- What a `der` defines has at least grade 1 by the table.
use Rattle.std.specs.Prelude.{◌≤◌, max, List, [], ◌∷◌}
use Rattle.std.proofs.Common.{ap, arith}
use Rattle.zl_value.specs.Lists.{Has}
use Rattle.zl_meaning.specs.FlatForm.{FlatForm}
use Rattle.zl_meaning.specs.Grades.{Grading, definer_grade, greatest_grade, AreGrades}
use Rattle.zl_meaning.specs.declared.place.Definer.{Definer}
use Rattle.zl_meaning.specs.declared.place.Definer.TheVariants.{Der}
use Rattle.zl_meaning.proofs.Members.{has-cases, has-none}
use Rattle.zl_normal.specs.Starts.{GradesMoving}

-- what one definer adds is at most the greatest
one_le : (g : Grading) (ds : List Definer) (d : Definer) → Has ds d → definer_grade g d ≤ greatest_grade g ds
one_le g [] d h = absurd (has-none d h)
one_le g (x ∷ ds) d h =
    has-cases (definer_grade g d ≤ max (definer_grade g x) (greatest_grade g ds)) x ds d h
    (λ e. let q = ap (λ y. definer_grade g y) e in omega (arith, q))
    (λ later. let q = one_le g ds d later in omega (arith, q))

pub table_moves : (f : FlatForm) (g : Grading) → AreGrades f g → GradesMoving f g
table_moves f g table p b k place arms is has =
    let most : 1 ≤ greatest_grade g place.definers = one_le g place.definers (Der b k arms) has in
    let e = table.places p place is in
    omega (arith, most, e)
