use Rattle.zl_types.proofs.ClassesNodes.{new_nodes, found_nodes, not_there, there_already}
use Rattle.zl_types.proofs.classes.Classes.number.Goals as goal

pub returns-in_ok-push-2 : goal.returns-in_ok-push-2
returns-in_ok-push-2 c =
    let e = c.in_ok-node.ensures in
    let m = new_nodes c.args.self.now.keys.keys _ c.args.self.now.links.items _ c.args.self.now.known.items _ c.args.place _ c.requires
    (not_there _ _ e.added c.if-is_new.true) e.index e.keys c.in_ok-push.ensures.items c.in_ok-push-2.ensures.items in
    record { sound = m.sound; within = m.within; here = m.here; longer = m.grown; places = m.places; fits = m.fits; fits_back = m.fits_back }

pub returns-else-is_new : goal.returns-else-is_new
returns-else-is_new c =
    let e = c.in_ok-node.ensures in
    let m = found_nodes c.args.self.now.keys.keys _ c.args.self.now.links.items c.args.self.now.known.items c.args.place _ e.stored.0 c.requires
    (there_already _ _ e.added c.if-is_new.false) e.keys e.stored.1 e.stored.2 in
    record { sound = m.sound; within = m.within; here = m.here; longer = m.grown; places = m.places; fits = m.fits; fits_back = m.fits_back }
