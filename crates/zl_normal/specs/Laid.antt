-- The layout of a form's wires that the pass makes.
use Rattle.std.specs.Prelude.{◌≡◌, ℕ, List}
use Rattle.zl_meaning.specs.FlatForm.{FlatForm}
use Rattle.zl_normal.specs.Keys.{keys, memories}
use Rattle.zl_normal.specs.Layout.{IsLayout}
use Rattle.zl_normal.specs.NumberTables.{numbers_of}
use Rattle.zl_normal.specs.Roles.{AreRoles}
use Rattle.zl_normal.specs.declared.laid.Laid.{Laid}

-- the lists are those of the form's wires and memories, and the tables a layout of them
pub record IsLaid (f : FlatForm) (grades : List ℕ) (l : Laid) : Type 0 where
  pub roles : AreRoles f l.tables.roles
  pub keys_are : l.keys.items ≡ keys f grades l.tables
  pub kept_are : l.kept.items ≡ memories f grades l.tables
  pub layout : IsLayout f grades l.tables (numbers_of l.numbers l.wires)
