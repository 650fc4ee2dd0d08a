-- The counts of a program are the lengths of what it expands to.
use Rattle.std.specs.Prelude.{◌≡◌, ℕ, ◌+◌, ◌<◌, ◌^◌, List, [], length, take, slice_get, Some}
use Rattle.zl_value.specs.declared.value.Ty.{Ty}
use Rattle.zl_ast.specs.declared.program.Program.{Program}
use Rattle.zl_ast.specs.Scopes.{scopes}
use Rattle.zl_flat.specs.declared.size.Size.{Size}
use Rattle.zl_flat.specs.declared.here.Here.{Here}
use Rattle.zl_flat.specs.declared.here.Root.{Root}
use Rattle.zl_flat.specs.Parts.{Parts, Counters}
use Rattle.zl_flat.specs.Numbering.{decl_numbering}
use Rattle.zl_flat.specs.Limits.{Fits}
use Rattle.zl_flat.specs.Expansion.{Scoped, scoped, MainOf, found, with_sizes, decl_copy, main_parts, main_size, program_main, sizes_of, with_callees}
use Rattle.zl_flat.specs.Checked.{IsChecked}

-- The parts are as many as the size says. It counts no hidden occurrence.
pub record AsMany (p : Parts) (z : Size) : Type 0 where
  pub places : length p.places ≡ z.places
  pub occs : length p.occs ≡ z.occs
  pub sites : length p.sites ≡ z.sites
  pub blocks : length p.blocks ≡ z.blocks

-- Of each program that keeps the rules, what the walk of `main` makes is as many as the counts say, within the limits or not.
abbrev pub CountsAreLengths : Type 0
CountsAreLengths =
    (p : Program) (types : List (List Ty)) → IsChecked p types → (m : MainOf) → program_main p (scopes p) types ≡ Some m →
    AsMany (main_parts (main_size m).occs p.names (found (with_callees (main_size m).occs p.names [] [] m.before)) (sizes_of m) m.main) (main_size m)

-- how many parts there are; definers have no number and aren't counted
unfoldable pub count : Parts → ℕ
count p = length p.blocks + (length p.places + (length p.occs + (length p.hidden + (length p.sites + (length p.choices + length p.automata)))))

-- Of each program that keeps the rules and whose counts keep their limits, what the walk of `main` makes is fewer than 2 ^ 20:
-- hidden occurrences, choices and automata, which have no limit of their own, are counted here too.
abbrev pub CountIsSmall : Type 0
CountIsSmall =
    (p : Program) (types : List (List Ty)) → IsChecked p types → (m : MainOf) → program_main p (scopes p) types ≡ Some m → Fits (main_size m) →
    count (main_parts (main_size m).occs p.names (found (with_callees (main_size m).occs p.names [] [] m.before)) (sizes_of m) m.main) < 2 ^ 20

-- The numbers of the places of a copy of each of these declarations end where the places of the copy do.
abbrev pub NumberingsEnd : List (List ℕ) → List Scoped → Type 0
NumberingsEnd names ds =
    (base n : ℕ) (d : Scoped) → slice_get ds n ≡ Some d → (here : Here) (roots : List Root) (s : Counters) →
    (decl_numbering d.infos (found (with_sizes [] (take n ds))) d.decl s.places).next
    ≡ s.places + length (decl_copy base names (found (with_callees base names [] [] (take n ds))) (found (with_sizes [] (take n ds))) d here roots s).parts.places

-- So they do in each program that keeps the rules.
abbrev pub PlacesAreNumbered : Type 0
PlacesAreNumbered = (p : Program) (types : List (List Ty)) → IsChecked p types → NumberingsEnd p.names (scoped p.decls (scopes p) types)
