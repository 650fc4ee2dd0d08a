use Rattle.std.proofs.Common.{◌≡◌, drop}
use Rattle.zl_outside.specs.NamedFile.{named_files}
use Rattle.zl_outside.specs.ShelfState.{file_named}
use Rattle.zl_outside.proofs.mem_shelf.find_file.Given as goal

-- the file is among those that are left
abbrev pub invariant-loop-file : goal.invariant-loop-file
invariant-loop-file l = file_named (named_files (drop l.file-index l.files)) l.name ≡ file_named (named_files l.files) l.name
