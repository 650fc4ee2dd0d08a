-- What the tables keep of the definitions.
use Rattle.std.specs.Prelude.{ℕ, nat_eq, if◌then◌else◌, List, [], ◌++◌, map, Option, Some, None}
use Rattle.zl_ast.specs.declared.name.Name.{Name}
use Rattle.zl_ast.specs.declared.scope.VarClass.TheVariants as class
use Rattle.zl_ast.specs.Names.{is_built_in, with_ids, ids_of}
use Rattle.zl_ast.specs.NamesDefined as defined
use Rattle.zl_ast.specs.NamesDefined.{entry, free_entries, free_ids}
use Rattle.zl_ast.specs.NamesUsed as used
use Rattle.zl_ast.specs.NamesUsed.{Signature}
use Rattle.indexmap.specs.IndexMap.{get}
use Rattle.zl_names.specs.declared.outline.Outline.{Outline}
use Rattle.zl_names.specs.declared.known.Known.{Known}

-- an outline without its violations
abbrev pub kept : defined.Outline → Outline
kept o = record { entries = o.entries; valued = o.valued; started = o.started }

-- an outline, and what another adds behind it
abbrev pub joined : Outline → Outline → Outline
joined o p = record { entries = o.entries ++ p.entries; valued = o.valued ++ p.valued; started = o.started ++ p.started }

abbrev pub kept_under : List Name → Outline → Outline
kept_under locals o =
    let held = with_ids [] (ids_of locals) in
    record { entries = map (entry class.Local) locals ++ free_entries held o.entries; valued = free_ids held o.valued; started = free_ids held o.started }

-- a declared signature, or that of a built-in function
abbrev pub or_built_in : List (List ℕ) → ℕ → Option Signature → Option Signature
or_built_in names id None = if is_built_in names id then Some (1, 1) else None
or_built_in names id (Some s) = Some s

abbrev pub known_of : Known → used.Known
known_of k = record { constants = k.constants; signature = λ id. or_built_in k.names.now id (get nat_eq k.signatures id); parameters = k.parameters }
