use Rattle.std.proofs.Common.{refl, sym, ◌∙◌}
use Rattle.zl_types.proofs.ClassesLemmas.{sound_relinked, sound_learned}
use Rattle.zl_types.proofs.classes.Classes.fix.Goals as goal

pub returns-clause-narrows : goal.returns-clause-narrows
returns-clause-narrows c met =
    let r = c.root-root.ensures in
    let l = c.learn.ensures.learns met in
    record {
      sound = sound_learned _ _ _ _ _ _ (sound_relinked _ _ _ _ c.requires.sound r.relinked) r.root l;
      keys = refl;
      to = λ type s is. record { ties = r.relinked.ties type s.ties; types = l.to type s.types (sym (r.same type (r.relinked.ties type s.ties)) ∙ is) };
      back = λ type s. record { ties = r.relinked.ties_back type s.ties; types = l.back type s.types };
      property = λ type s. r.same type s.ties ∙ l.learned type s.types;
    }

pub returns-clause-excludes : goal.returns-clause-excludes
returns-clause-excludes c clash type s is =
    let r = c.root-root.ensures in
    c.learn.ensures.excludes clash type s.types (sym (r.same type (r.relinked.ties type s.ties)) ∙ is)
