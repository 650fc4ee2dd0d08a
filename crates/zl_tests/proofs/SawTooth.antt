-- The code of the saw tooth is well formed.
use Rattle.std.proofs.Common.{◌≡◌, List, [], true, codes, pos, Ok, lit<, refl, arith}
use lib.Utf8.{encode}
use Rattle.std.specs.Str.{IsUtf8, chars, is_utf8}
use Rattle.std.proofs.lemmas.Str.{IsUtf8-from_is_utf8}
use Rattle.unicode_ident.specs.Ident.{is_xid_start}
use Rattle.unicode_ident.proofs.IdentLemmas.{is_xid_start-ascii}
use Rattle.zl_lexer.specs.Words.{IsIdentifier}
use Rattle.zl_value.specs.Fraction.{Fraction, gcd_in, gcd, fits, fitted, IsFrac, whole}
use Rattle.zl_value.specs.declared.script.Input.{Input}
use Rattle.zl_value.specs.declared.script.Output.{Output}
use Rattle.zl_value.specs.declared.value.Ty.{Ty}
use Rattle.zl_value.specs.declared.value.Ty.TheVariants.{Bool as BoolTy, Float}
use Rattle.zl_code.specs.declared.code.CMem.{CMem}
use Rattle.zl_code.specs.declared.code.CSite.{CSite}
use Rattle.zl_code.specs.declared.stmt.Stmt.{Stmt}
use Rattle.zl_code.specs.WellFormed.{IsCode, IsMethod, AtStep, AtLeft, InFlow}
use Rattle.zl_code.specs.Worked.SawTooth.{code}

nought : IsFrac (whole (pos 0))
unfolding gcd_in gcd fits
nought = record { reduced = record { above = lit< tt; lowest = refl }; fits = refl }

unit : IsFrac (whole (pos 1))
unfolding gcd_in gcd fits
unit = record { reduced = record { above = lit< tt; lowest = refl }; fits = refl }

starts_x : is_xid_start 120 ≡ true
starts_x = is_xid_start-ascii 120 (omega arith)

encoded : IsUtf8 (codes "x")
unfolding encode chars is_utf8
encoded = IsUtf8-from_is_utf8 (codes "x") refl

named : IsIdentifier (codes "x")
unfolding encode chars is_utf8
named = (encoded, rw starts_x refl)

step : IsMethod code AtStep code.step
step = record {
  each = (
    (refl, record { value = 1; fresh = 2; slope = 3 }, refl),
    (
      refl,
      (
        (Float, refl, nought),
        (
          tt,
          (
            (Float, refl, (_, refl, refl)),
            (
              tt,
              (
                (Float, (_, refl, refl), refl),
                (
                  (Float, refl, unit),
                  (
                    (refl, (refl, (refl, tt)), tt),
                    ((BoolTy, refl, tt), tt),
                  ),
                ),
              ),
            ),
          ),
        ),
      ),
    ),
  );
  nested = refl;
}

left : IsMethod code AtLeft code.left
left = record {
  each = (
    (Float, refl, (_, refl, refl)),
    (
      (Float, refl, unit),
      (
        (refl, (refl, (refl, tt)), tt),
        ((BoolTy, refl, tt), tt),
      ),
    ),
  );
  nested = refl;
}

flow : IsMethod code InFlow code.flow
flow = record { each = ((Float, refl, unit), tt); nested = refl }

is_code : IsCode code
is_code = record {
  counts = record { regs = omega arith; mems = omega arith; ins = omega arith; sites = omega arith };
  regs = (λ e. cc, (λ e. cc, (λ e. cc, (λ e. cc, (λ e. cc, (λ e. cc, tt))))));
  mems = (record { ty = λ e. cc; start = nought; slope = (refl, refl) }, tt);
  ins = tt;
  names = tt;
  some_out = λ e. cc;
  outs = (record { ty = Float; from = refl; name = named }, tt);
  sites = (record { value = refl; fresh = refl; slope = refl }, tt);
  again = refl;
  step = step;
  left = left;
  flow = flow;
}

-- the code that is made of these parts is well formed
pub made_of_its_parts : (regs : List Ty) (mems : List CMem) (ins : List Input) (outs : List Output) (sites : List CSite) (steps lefts flows : List Stmt) → regs ≡ code.regs → mems ≡ code.mems → ins ≡ [] → outs ≡ code.outs → sites ≡ code.sites → steps ≡ code.step → lefts ≡ code.left → flows ≡ code.flow → IsCode (record { regs = regs; mems = mems; ins = ins; outs = outs; sites = sites; again = 2; step = steps; left = lefts; flow = flows })
made_of_its_parts regs mems ins outs sites steps lefts flows e1 e2 e3 e4 e5 e6 e7 e8 = rw (e1, e2, e3, e4, e5, e6, e7, e8) is_code

-- the number that `1` is read as
pub one_is : (f : Fraction) → Ok f ≡ fitted (whole (pos 1)) → f ≡ whole (pos 1)
unfolding fitted fits
one_is f e = cc
