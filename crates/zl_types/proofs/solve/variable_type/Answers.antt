use Rattle.std.proofs.Common.{refl}
use Rattle.zl_types.proofs.SolveLemmas.{typed_at, untyped_at}
use Rattle.zl_types.proofs.solve.variable_type.Goals as goal

pub returns-in-Ok-Some-clause-typed : goal.returns-in-Ok-Some-clause-typed
returns-in-Ok-Some-clause-typed c = typed_at _ _ _ _ c.in-Ok-Some.ty c.in-Ok-Some.ensures c.in-Ok-Some.field-0-is

pub returns-in-Ok-None-clause-refused : goal.returns-in-Ok-None-clause-refused
returns-in-Ok-None-clause-refused c = (refl, refl, untyped_at _ _ _ _ c.in-Ok-None.ensures c.in-Ok-None.field-0-is)
