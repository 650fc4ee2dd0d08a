-- All parts are those of the code.
use Rattle.std.specs.Prelude.{[], map}
use Rattle.std.proofs.Common.{rules, sym, ap, ◌∙◌, subst}
use Rattle.zl_kernel.specs.KernelForm.{KernelForm}
use Rattle.zl_kernel.specs.Wires.{AtStep, AtLeft, InFlow}
use Rattle.zl_kernel.specs.declared.wire.Wire.{Wire}
use Rattle.zl_code.specs.WellFormed.{IsCode}
use Rattle.zl_codegen.specs.Counts.{AreCounted}
use Rattle.zl_codegen.specs.CodeOf.{memory_of, site_of, method_of, sets_of}
use Rattle.zl_codegen.proofs.CodeIs.{code_is, same_code}
use Rattle.zl_codegen.proofs.generation.code.Goals as goal

pub invariant_of-result : goal.invariant_of-result
invariant_of-result c =
    let k = c.args.kernel.now in
    let list = c.args.order.now in
    let wires = c.as_slice.ensures ∙ ap (λ (f : KernelForm). f.wires) c.kernel.view_is in
    let regs = c.from_vec.ensures ∙ c.in_ok-regs.ensures ∙ ap (λ ws. map (λ (w : Wire). w.ty) ws) wires in
    let mems = c.from_vec-2.ensures ∙ c.in_ok-mems.ensures ∙ ap (λ ms. map memory_of ms) (c.as_slice-2.ensures ∙ ap (λ (f : KernelForm). f.mems) c.kernel.view_is) in
    let ins = c.from_vec-3.ensures ∙ c.in_ok-ins.ensures ∙ (c.as_slice-3.ensures ∙ ap (λ (f : KernelForm). f.ins) c.kernel.view_is) in
    let outs = c.from_vec-4.ensures ∙ c.in_ok-outs.ensures ∙ (c.as_slice-4.ensures ∙ ap (λ (f : KernelForm). f.outs) c.kernel.view_is) in
    let sites = c.from_vec-5.ensures ∙ c.in_ok-sites.ensures ∙ ap (λ ss. map site_of ss) (c.as_slice-5.ensures ∙ ap (λ (f : KernelForm). f.sites) c.kernel.view_is) in
    let again = ap (λ (f : KernelForm). f.again) c.kernel.view_is in
    let step = c.from_vec-6.ensures ∙ c.in_ok-step.ensures ∙ ap (λ l. method_of c.args.kernel.now AtStep l (sets_of c.args.kernel.now)) c.list-list.ensures in
    let left = c.from_vec-7.ensures ∙ c.in_ok-left.ensures ∙ ap (λ l. method_of c.args.kernel.now AtLeft l (sets_of c.args.kernel.now)) c.list-list.ensures in
    let flow = c.from_vec-8.ensures ∙ c.in_ok-flow.ensures ∙ ap (λ l. method_of c.args.kernel.now InFlow l []) c.list-list.ensures in
    let counted : AreCounted c.args.kernel.now = search rules in
    subst IsCode (sym (same_code k list _ _ _ _ _ _ _ _ _ regs mems ins outs sites again step left flow)) (code_is k list c.is_well_formed.ensures counted)

pub returns : goal.returns
returns c =
    let k = c.args.kernel.now in
    let list = c.args.order.now in
    let wires = c.as_slice.ensures ∙ ap (λ (f : KernelForm). f.wires) c.kernel.view_is in
    let regs = c.from_vec.ensures ∙ c.in_ok-regs.ensures ∙ ap (λ ws. map (λ (w : Wire). w.ty) ws) wires in
    let mems = c.from_vec-2.ensures ∙ c.in_ok-mems.ensures ∙ ap (λ ms. map memory_of ms) (c.as_slice-2.ensures ∙ ap (λ (f : KernelForm). f.mems) c.kernel.view_is) in
    let ins = c.from_vec-3.ensures ∙ c.in_ok-ins.ensures ∙ (c.as_slice-3.ensures ∙ ap (λ (f : KernelForm). f.ins) c.kernel.view_is) in
    let outs = c.from_vec-4.ensures ∙ c.in_ok-outs.ensures ∙ (c.as_slice-4.ensures ∙ ap (λ (f : KernelForm). f.outs) c.kernel.view_is) in
    let sites = c.from_vec-5.ensures ∙ c.in_ok-sites.ensures ∙ ap (λ ss. map site_of ss) (c.as_slice-5.ensures ∙ ap (λ (f : KernelForm). f.sites) c.kernel.view_is) in
    let again = ap (λ (f : KernelForm). f.again) c.kernel.view_is in
    let step = c.from_vec-6.ensures ∙ c.in_ok-step.ensures ∙ ap (λ l. method_of c.args.kernel.now AtStep l (sets_of c.args.kernel.now)) c.list-list.ensures in
    let left = c.from_vec-7.ensures ∙ c.in_ok-left.ensures ∙ ap (λ l. method_of c.args.kernel.now AtLeft l (sets_of c.args.kernel.now)) c.list-list.ensures in
    let flow = c.from_vec-8.ensures ∙ c.in_ok-flow.ensures ∙ ap (λ l. method_of c.args.kernel.now InFlow l []) c.list-list.ensures in
    same_code k list _ _ _ _ _ _ _ _ _ regs mems ins outs sites again step left flow
