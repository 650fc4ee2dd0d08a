-- What is known of a form before its wires are made, right.
use Rattle.std.specs.Prelude.{ℕ, List, length}
use Rattle.zl_meaning.specs.FlatForm.{FlatForm}
use Rattle.zl_normal.specs.Tables.{Tables}
use Rattle.zl_normal.specs.Roles.{AreRoles}
use Rattle.zl_normal.specs.Table.{IsTable}
use Rattle.zl_normal.specs.GuardRoots.{AreGuardRoots, AreLasts, is_free_root}

-- the tables are those of the form, with these roots of guards; each literal is taken as the first that is equal to it
pub record HaveTables (f : FlatForm) (t : Tables) (found : List ℕ) : Type 0 where
  pub roles : AreRoles f t.roles
  pub firsts : IsTable t.firsts (length f.occs) (λ j. j)
  pub roots : AreGuardRoots f t.roles found
  pub free : IsTable t.free (length t.roles) (is_free_root t.roles found)
  pub lasts : AreLasts f t.lasts
