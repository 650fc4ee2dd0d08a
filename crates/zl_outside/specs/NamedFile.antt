-- The files of a shelf in memory, as its code keeps them.
use Rattle.std.specs.Prelude.{ℕ, List, map}
use Rattle.std.specs.String.{string_bytes}
use Rattle.zl_outside.specs.declared.mem_shelf.NamedFile.{NamedFile}

-- each file's name and bytes
abbrev pub named_files : List NamedFile → List (List ℕ × List ℕ)
named_files files = map (λ file. (string_bytes file.name, file.bytes.items)) files
