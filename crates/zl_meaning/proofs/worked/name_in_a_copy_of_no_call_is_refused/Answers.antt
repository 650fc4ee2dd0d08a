use Rattle.std.specs.Prelude.{◌≡◌, ℕ, Some}
use Rattle.std.proofs.Common.{refl, sym, ap, ◌∙◌}
use Rattle.zl_meaning.specs.FlatForm.{HasForm}
use Rattle.zl_meaning.specs.declared.occurrence.Form.TheVariants.{Result}
use Rattle.zl_meaning.specs.Worked.NameInACopyOfNoCall.{form}
use Rattle.zl_meaning.proofs.worked.name_in_a_copy_of_no_call_is_refused.Goals as goal

no_call : (result : ℕ) → HasForm form 3 (Result result) → ⊥
no_call result (occ, is, e) = cc

pub returns : goal.returns
returns c = λ regular. let called = regular.copies.calls 2 3 refl in no_call called.0 called.1
