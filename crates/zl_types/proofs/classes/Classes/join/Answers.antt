use Rattle.std.proofs.Common.{sym}
use Rattle.zl_types.proofs.ClassesLemmas.{sound_relinked, roots_of, same_roots, same_nodes, suits_now, suits_before}
use Rattle.zl_types.proofs.classes.Classes.join.Goals as goal

pub link-requires-clause-sound : goal.link-requires-clause-sound
link-requires-clause-sound c = sound_relinked _ _ _ _ (sound_relinked _ _ _ _ c.requires.sound c.root-one.ensures.relinked) c.root-other.ensures.relinked

pub link-requires-else-one-other-clause-sound : goal.link-requires-else-one-other-clause-sound
link-requires-else-one-other-clause-sound c = sound_relinked _ _ _ _ (sound_relinked _ _ _ _ c.requires.sound c.root-one.ensures.relinked) c.root-other.ensures.relinked

pub returns-then-one-other-clause-narrows : goal.returns-then-one-other-clause-narrows
returns-then-one-other-clause-narrows c met =
    let r = roots_of _ _ _ c.args.one c.args.other _ _ c.root-one.ensures.relinked c.root-one.ensures.same c.root-other.ensures.relinked c.root-other.ensures.same in
    let n = c.link.ensures.narrows met in
    record {
      sound = n.sound;
      keys = n.keys;
      to = λ type s is. let t = suits_now _ _ _ _ _ _ _ r type s in n.to type t (same_roots _ _ c.args.self.now.known.items _ _ _ _ r type t.ties is);
      back = λ type s. suits_before _ _ _ _ _ _ _ r type (n.back type s);
      property = λ type s. same_nodes _ _ c.args.self.now.known.items _ _ _ _ r type (n.back type s).ties (n.property type s);
    }

pub returns-then-one-other-clause-excludes : goal.returns-then-one-other-clause-excludes
returns-then-one-other-clause-excludes c clash type s is =
    let r = roots_of _ _ _ c.args.one c.args.other _ _ c.root-one.ensures.relinked c.root-one.ensures.same c.root-other.ensures.relinked c.root-other.ensures.same in
    let t = suits_now _ _ _ _ _ _ _ r type s in
    c.link.ensures.excludes clash type t (same_roots _ _ c.args.self.now.known.items _ _ _ _ r type t.ties is)

pub returns-else-one-other-clause-narrows : goal.returns-else-one-other-clause-narrows
returns-else-one-other-clause-narrows c met =
    let r = roots_of _ _ _ c.args.one c.args.other _ _ c.root-one.ensures.relinked c.root-one.ensures.same c.root-other.ensures.relinked c.root-other.ensures.same in
    let n = c.link-else-one-other.ensures.narrows met in
    record {
      sound = n.sound;
      keys = n.keys;
      to = λ type s is. let t = suits_now _ _ _ _ _ _ _ r type s in n.to type t (sym (same_roots _ _ c.args.self.now.known.items _ _ _ _ r type t.ties is));
      back = λ type s. suits_before _ _ _ _ _ _ _ r type (n.back type s);
      property = λ type s. same_nodes _ _ c.args.self.now.known.items _ _ _ _ r type (n.back type s).ties (sym (n.property type s));
    }

pub returns-else-one-other-clause-excludes : goal.returns-else-one-other-clause-excludes
returns-else-one-other-clause-excludes c clash type s is =
    let r = roots_of _ _ _ c.args.one c.args.other _ _ c.root-one.ensures.relinked c.root-one.ensures.same c.root-other.ensures.relinked c.root-other.ensures.same in
    let t = suits_now _ _ _ _ _ _ _ r type s in
    c.link-else-one-other.ensures.excludes clash type t (sym (same_roots _ _ c.args.self.now.known.items _ _ _ _ r type t.ties is))
