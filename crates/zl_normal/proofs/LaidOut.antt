-- The layout that the pass makes is one.
use Rattle.std.specs.Prelude.{◌≡◌, ℕ, List, slice_get, Some}
use Rattle.std.proofs.Common.{◌∙◌}
use Rattle.zl_meaning.specs.FlatForm.{FlatForm}
use Rattle.zl_normal.specs.HaveTables.{HaveTables}
use Rattle.zl_normal.specs.Keys.{keys, memories}
use Rattle.zl_normal.specs.Laid.{IsLaid}
use Rattle.zl_normal.specs.Layout.{AreNumbered, AreTables, IsWired}
use Rattle.zl_normal.specs.NumberTables.{KeyTables, wire_number, memory_number, numbers_of}
use Rattle.zl_normal.specs.declared.key.Key.{Key}
use Rattle.zl_normal.specs.declared.laid.Laid.{Laid}

pub laid_out : (f : FlatForm) (grades : List ℕ) (l : Laid) (before : KeyTables) (found : List ℕ) → HaveTables f l.tables found → l.keys.items ≡ keys f grades l.tables → l.kept.items ≡ memories f grades l.tables → AreNumbered (keys f grades l.tables) (wire_number before) → ((key : Key) → wire_number l.numbers key ≡ wire_number before key) → AreNumbered (memories f grades l.tables) (memory_number l.numbers) → IsWired f grades l.tables (numbers_of l.numbers l.wires) → AreTables f grades l.tables (numbers_of l.numbers l.wires) → IsLaid f grades l
laid_out f grades l before found known ks ms numbered same kept wired tables = record {
  roles = known.roles;
  keys_are = ks;
  kept_are = ms;
  layout = record {
    tables = tables;
    wires = λ n key is. same key ∙ numbered n key is;
    memories = kept;
    wired = wired;
  };
}
