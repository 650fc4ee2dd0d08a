-- Each statement is taken by its instruction.
use Rattle.std.specs.Prelude.{◌∷◌}
use Rattle.std.proofs.Common.{sym, subst}
use Rattle.zl_code.specs.declared.stmt.Stmt.TheVariants as stmt
use Rattle.zl_machine.specs.Building.{IsBuilt, Leads}
use Rattle.zl_machine.proofs.Taking.{on_ok, get_leads, mem_leads, in_leads, event_leads, set_leads}
use Rattle.zl_machine.proofs.decoding.take.Goals as goal

pub returns-in-Get : goal.returns-in-Get
returns-in-Get c = on_ok c.put.result (λ f stmts b. subst (λ s. IsBuilt c.put.new.b (s ∷ stmts)) (sym c.in-Get.is) (f stmts _ b (get_leads c.args.b.now.lits.items c.in-Get.to c.in-Get.from stmts))) c.put.ensures

pub returns-in-Mem : goal.returns-in-Mem
returns-in-Mem c = on_ok c.put-in-Mem.result (λ f stmts b. subst (λ s. IsBuilt c.put-in-Mem.new.b (s ∷ stmts)) (sym c.in-Mem.is) (f stmts _ b (mem_leads c.args.b.now.lits.items c.in-Mem.to c.in-Mem.mem stmts))) c.put-in-Mem.ensures

pub returns-in-In : goal.returns-in-In
returns-in-In c = on_ok c.put-in-In.result (λ f stmts b. subst (λ s. IsBuilt c.put-in-In.new.b (s ∷ stmts)) (sym c.in-In.is) (f stmts _ b (in_leads c.args.b.now.lits.items c.in-In.to c.in-In.input stmts))) c.put-in-In.ensures

pub returns-in-Event : goal.returns-in-Event
returns-in-Event c = on_ok c.put-in-Event.result (λ f stmts b. subst (λ s. IsBuilt c.put-in-Event.new.b (s ∷ stmts)) (sym c.in-Event.is) (f stmts _ b (event_leads c.args.b.now.lits.items c.in-Event.to c.in-Event.site stmts))) c.put-in-Event.ensures

pub returns-in-Op : goal.returns-in-Op
returns-in-Op c = on_ok c.put-in-Op.result (λ f stmts b. subst (λ s. IsBuilt c.put-in-Op.new.b (s ∷ stmts)) (sym c.in-Op.is) (f stmts (stmt.Op c.in-Op.to c.in-Op.op c.in-Op.args c.in-Op.fault ∷ stmts) b (subst (λ args. Leads c.args.b.now.lits.items c.operator.result stmts (stmt.Op c.in-Op.to c.in-Op.op args c.in-Op.fault ∷ stmts)) c.as_slice.ensures (c.operator.ensures c.args.b.now.lits.items stmts)))) c.put-in-Op.ensures

pub returns-in-Set : goal.returns-in-Set
returns-in-Set c = on_ok c.put-in-Set.result (λ f stmts b. subst (λ s. IsBuilt c.put-in-Set.new.b (s ∷ stmts)) (sym c.in-Set.is) (f stmts _ b (set_leads c.args.b.now.lits.items c.in-Set.mem c.in-Set.from stmts))) c.put-in-Set.ensures
