-- What the code keeps of contexts and of earlier declarations.
use Rattle.std.specs.Prelude.{nat_eq}
use Rattle.indexmap.specs.IndexMap.{get}
use Rattle.zl_ast.specs.Kinds as kinds
use Rattle.zl_types.specs.declared.kind_context.Context.{Context}
use Rattle.zl_types.specs.declared.kind_context.Context.TheVariants as context
use Rattle.zl_types.specs.declared.kind_declared.Declared.{Declared}

-- the context that the code names
abbrev pub context_of : Context → kinds.Context
context_of context.Combinatorial = kinds.combinatorial
context_of context.Recalling = kinds.recalling
context_of context.Discrete = kinds.discrete
context_of context.Hybrid = kinds.hybrid

-- what the names declare that the table holds
unfoldable pub declared_of : Declared → kinds.Declared
declared_of d id = get nat_eq d.kinds id
