use Rattle.std.proofs.Common.{Bool, true, ◌&&◌, List, sym, ap, ◌∙◌, subst}
use Rattle.zl_value.specs.declared.script.Set.{Set}
use Rattle.zl_script.specs.Cut.{words_of}
use Rattle.zl_script.proofs.SetLemmas.{IsReadTo, read_none, read_word, set_bound}
use Rattle.zl_script.proofs.line.read_sets.Goals as goal

pub loop-word-init : goal.loop-word-init
loop-word-init c =
    subst (λ (s : List Set). IsReadTo c.args.inputs.now (words_of c.args.words.now) (words_of c.args.words.now) s true c.args.last.now.items c.args.line)
    (sym c.new-sets.ensures.items)
    (read_none c.args.inputs.now (words_of c.args.words.now) c.args.last.now.items c.args.line c.requires.room c.requires.before)

pub add_set-requires : goal.add_set-requires
add_set-requires c =
    set_bound c.args.inputs.now _ c.set_for-set.result _ c.set_for-set.ensures c.loop-word.invariant.room

pub loop-word-preserved-then-faultless : goal.loop-word-preserved-then-faultless
loop-word-preserved-then-faultless c =
    subst (λ (b : Bool). IsReadTo c.args.inputs.now (words_of c.args.words.now) (words_of c.in-Some.behind.now) c.add_set.new.sets.items b c.add_set.new.last.items c.args.line)
    (ap (λ b. b && c.in_ok-added.added) c.if-faultless.true)
    (read_word c.args.inputs.now (words_of c.args.words.now) (words_of c.loop-word.rest.now) (words_of c.in-Some.behind.now) c.in-Some.word.now _ c.set_for-set.result
    c.loop-word.sets.items c.loop-word.faultless c.loop-word.last.items c.args.line c.in_ok-added.added c.add_set.new.sets.items c.add_set.new.last.items
    c.loop-word.invariant c.in-Some.ensures.words c.in-Some-read_assignment.ensures c.set_for-set.ensures c.in_ok-added.ensures.added c.in_ok-added.ensures.sets c.in_ok-added.ensures.last)

pub loop-word-preserved : goal.loop-word-preserved
loop-word-preserved c =
    subst (λ (b : Bool). IsReadTo c.args.inputs.now (words_of c.args.words.now) (words_of c.in-Some.behind.now) c.add_set.new.sets.items b c.add_set.new.last.items c.args.line)
    (ap (λ b. b && c.in_ok-added.added) c.if-faultless.false ∙ sym c.if-faultless.false)
    (read_word c.args.inputs.now (words_of c.args.words.now) (words_of c.loop-word.rest.now) (words_of c.in-Some.behind.now) c.in-Some.word.now _ c.set_for-set.result
    c.loop-word.sets.items c.loop-word.faultless c.loop-word.last.items c.args.line c.in_ok-added.added c.add_set.new.sets.items c.add_set.new.last.items
    c.loop-word.invariant c.in-Some.ensures.words c.in-Some-read_assignment.ensures c.set_for-set.ensures c.in_ok-added.ensures.added c.in_ok-added.ensures.sets c.in_ok-added.ensures.last)
