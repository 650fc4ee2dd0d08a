-- What the tables of a declaration hold.
use Rattle.std.specs.Prelude.{nat_eq}
use Rattle.indexmap.specs.IndexMap.{get}
use Rattle.zl_ast.specs.TypeEqualities as types
use Rattle.zl_types.specs.declared.environment.Environment.{Environment}

abbrev pub environment_of : Environment → types.Environment
environment_of e = record { names = e.names.now; variables = λ id. get nat_eq e.variables id; declared = λ id. get nat_eq e.declared id }
