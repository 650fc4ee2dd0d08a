use Rattle.std.proofs.Common.{◌≡◌, ◌++◌, length, ap, ◌∙◌, arith, rules}
use Rattle.std.proofs.lemmas.Bool.Decides.{nat_tests}
use Rattle.std.proofs.lemmas.List.{nil_from_length}
use Rattle.zl_outside.specs.SinkState.{SinkState}
use Rattle.zl_outside.proofs.SinkLemmas.{holds_pushed, holds_empty}
use Rattle.zl_outside.proofs.mem_sink.MemSinkSink.put.Goals as goal

pub returns-then-is_empty-clause-puts : goal.returns-then-is_empty-clause-puts
returns-then-is_empty-clause-puts c =
    let none : length c.args.piece.now ≡ 0 = grind (arith, nat_tests) in
    record {
      ok = holds_empty c.args.self.now.bytes c.args.piece.now (nil_from_length c.args.piece.now none);
      failed = search rules;
      cause = search rules;
      kept = search rules;
      never_falls = search rules;
      nothing = search rules;
    }

pub returns-clause-puts : goal.returns-clause-puts
returns-clause-puts c =
    let added = c.in-Ok.ensures.items ∙ ap (λ (s : SinkState). s.bytes ++ c.args.piece.now) c.self.view_is in
    record {
      ok = holds_pushed c.args.self.now.bytes c.extend_from_slice.new.self.items c.args.piece.now added;
      failed = search rules;
      cause = search rules;
      kept = ap (λ (s : SinkState). s.faults) c.self.view_is;
      never_falls = search rules;
      nothing = search rules;
    }
