use Rattle.std.proofs.Common.{Ok, sym, ap, ◌∙◌, arith}
use Rattle.zl_script.specs.Cut.{lines_of, words_of}
use Rattle.zl_script.specs.Items.{items}
use Rattle.zl_script.specs.Parsed.{at_lines}
use Rattle.zl_script.proofs.ReadLemmas.{lines_start, lines_more, lines_stop, lines_end}
use Rattle.zl_script.proofs.reading.read_at_lines.Goals as goal

pub loop-found-init : goal.loop-found-init
loop-found-init c = record {
  lines_are = lines_start c.new-lines.result.items (at_lines c.args.inputs.now (items c.args.number (lines_of c.args.text.now))) c.new-lines.ensures.items;
  room = c.in_ok-last.ensures.room;
  before = λ k. omega (arith, c.in_ok-last.ensures.none k, c.requires.some);
  within = omega arith;
}

pub loop-found-preserved : goal.loop-found-preserved
loop-found-preserved c = record {
  lines_are =
      lines_more c.args.inputs.now (at_lines c.args.inputs.now (items c.args.number (lines_of c.args.text.now)))
      c.loop-found.lines.items c.push.new.self.items (items c.loop-found.next (lines_of c.loop-found.rest.now)) (items c.in-Ok.found.next (lines_of c.in-Ok.found.rest.now))
      (record { line = c.in-Ok.found.line; words = words_of c.in-Ok.found.words.now }) c.in-Some.line
      c.loop-found.invariant.lines_are c.in-Ok.ensures.items (sym c.in-Some.is ∙ c.in_ok-line.ensures.line) c.in_ok-push.ensures.items;
  room = c.in_ok-line.ensures.same ∙ c.loop-found.invariant.room;
  before = λ k. omega (arith, c.in_ok-line.ensures.until k, c.in-Ok.ensures.next);
  within = omega (arith, c.in-Ok.ensures.within, c.loop-found.invariant.within);
}

pub returns-in_default-line : goal.returns-in_default-line
returns-in_default-line c =
    lines_stop c.args.inputs.now (at_lines c.args.inputs.now (items c.args.number (lines_of c.args.text.now)))
    c.loop-found.lines.items (items c.loop-found.next (lines_of c.loop-found.rest.now)) (items c.in-Ok.found.next (lines_of c.in-Ok.found.rest.now))
    (record { line = c.in-Ok.found.line; words = words_of c.in-Ok.found.words.now })
    c.loop-found.invariant.lines_are c.in-Ok.ensures.items (sym c.in_default-line.is ∙ c.in_ok-line.ensures.line)

pub returns : goal.returns
returns c =
    lines_end c.args.inputs.now (at_lines c.args.inputs.now (items c.args.number (lines_of c.args.text.now)))
    c.loop-found.lines.items (items c.loop-found.next (lines_of c.loop-found.rest.now))
    c.loop-found.invariant.lines_are c.in_default.ensures.items
    ∙ ap Ok (sym c.from_vec.ensures)

pub read_at_line-requires-clause-before : goal.read_at_line-requires-clause-before
read_at_line-requires-clause-before c = λ k. omega (arith, c.loop-found.invariant.before k, c.in-Ok.ensures.from)
