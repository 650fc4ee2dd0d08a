use Rattle.std.proofs.Common.{refl, sym}
use Rattle.zl_types.proofs.ClassesLemmas.{within_known, known-read, joint_unknown, joint_known, not_joint, tied_same}
use Rattle.zl_types.proofs.classes.Classes.link.Goals as goal

pub returns-in-None-clause-narrows : goal.returns-in-None-clause-narrows
returns-in-None-clause-narrows c met =
    let r = c.requires in
    let j = joint_unknown _ _ _ _ _ r.sound r.older r.younger r.order r.within (known-read _ _ _ _ (within_known _ _ _ _ _ c.requires.sound c.requires.older c.requires.younger c.requires.order c.requires.within) c.index-known.ensures c.in-None.is) in
    record { sound = j.sound; keys = refl; to = j.to; back = j.back; property = λ type s. tied_same _ _ _ type r.within s.ties }

pub returns-in-Some-clause-narrows : goal.returns-in-Some-clause-narrows
returns-in-Some-clause-narrows c met =
    let r = c.requires in
    let j = joint_known _ _ _ _ _ r.sound r.older r.younger r.order r.within c.in-Some.ty _ (sym (known-read _ _ _ _ (within_known _ _ _ _ _ c.requires.sound c.requires.older c.requires.younger c.requires.order c.requires.within) c.index-known.ensures c.in-Some.is)) (c.learn.ensures.learns met) in
    record { sound = j.sound; keys = refl; to = j.to; back = j.back; property = λ type s. tied_same _ _ _ type r.within s.ties }

pub returns-in-Some-clause-excludes : goal.returns-in-Some-clause-excludes
returns-in-Some-clause-excludes c clash =
    let r = c.requires in
    not_joint _ _ _ _ _ r.sound r.older r.younger r.order r.within c.in-Some.ty (sym (known-read _ _ _ _ (within_known _ _ _ _ _ c.requires.sound c.requires.older c.requires.younger c.requires.order c.requires.within) c.index-known.ensures c.in-Some.is)) (c.learn.ensures.excludes clash)
