use Rattle.std.proofs.Common.{rules, ◌≡◌, ◌+◌, ◌<◌, ◌++◌, [], ◌∷◌, length, refl, ◌∙◌, arith}
use Rattle.zl_meaning.specs.declared.place.Definer.TheVariants.{Input}
use Rattle.zl_flat.specs.Parts.{joined, some_definers}
use Rattle.zl_flat.specs.Equations.{given}
use Rattle.zl_expand.proofs.ExpandLemmas.{inputs-step, numbers-step}
use Rattle.zl_expand.proofs.expansion.add_inputs.Goals as goal

pub loop-param-preserved : goal.loop-param-preserved
loop-param-preserved c =
    let ps = c.args.params.now in
    let i = c.loop-param._param-index in
    let n = c.loop-param.n in
    let next : c.loop-param.n + 1 ≡ c.loop-param.n + 1 = refl in
    let defined : c.define.new.self ≡ joined c.loop-param.out (some_definers (given c.loop-param.n (Input c.loop-param.n) ∷ [])) = search rules in
    let pushed : c.push.new.self.items ≡ c.loop-param.ins.items ++ c.loop-param.n ∷ [] = search rules in (
      inputs-step ps i n (c.loop-param.n + 1) c.loop-param.out c.define.new.self (omega arith) next defined ∙ c.loop-param.invariant.0,
      numbers-step ps i n (c.loop-param.n + 1) c.loop-param.ins.items c.push.new.self.items (omega arith) next pushed ∙ c.loop-param.invariant.1,
      (let e = c.loop-param.invariant.2 in omega (arith, e)),
    )

pub overflow_add-n : goal.overflow_add-n
overflow_add-n c =
    let is = c.loop-param.invariant.2 in
    let lt : c.loop-param._param-index < length c.args.params.now = search rules in
    let h = c.requires in
    omega (arith, is, lt, h)
