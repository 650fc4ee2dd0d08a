-- What a function returns at a `?` whose callee stopped.
use Rattle.std.proofs.Common.{◌≡◌, Result, Ok, Err, sym, subst}
use Rattle.std.specs.Prelude.{IsErrAnd}
use Rattle.zl_ast.specs.Reading.{Fault}
use Rattle.zl_parser.specs.declared.stop.Stop.{Stop}
use Rattle.zl_parser.specs.Giving.{Fails, Gives}

pub stops : {X Y : Type 0} (view : X → Y) (r : Result X Stop) (e : Stop) (read : Result Y Fault) → IsErrAnd r (λ y. y ≡ e) → Fails e read → Gives view r read
stops view (Ok x) e read h f = absurd h
stops view (Err y) e read h f = subst (λ q. Fails q read) (sym h) f
