use Rattle.zl_types.proofs.ClassesLemmas.{sound_relinked}
use Rattle.zl_types.proofs.ClassesModels.{type_found}
use Rattle.zl_types.proofs.classes.Classes.type_at.Goals as goal

pub returns : goal.returns
returns c =
    let n = c.in_ok-node.ensures in
    let r = c.root-root.ensures in
    type_found c.args.place c.args.self.now _ _ _ _ (sound_relinked _ _ _ _ n.sound r.relinked)
    (λ a f. let s = n.fits a f in record { ties = r.relinked.ties _ s.ties; types = s.types })
    (λ a s. n.fits_back a (record { ties = r.relinked.ties_back _ s.ties; types = s.types }))
    n.here n.within r.same r.root r.older c.index.ensures
