use Rattle.std.proofs.Common.{◌≡◌, ◌-◌}
use Rattle.zl_ast.specs.ReadingDeclarations.{decls, read_program}
use Rattle.zl_parser.proofs.DeclLoops.{with_decls}
use Rattle.zl_parser.proofs.decl.decls.Given as goal

abbrev pub invariant-loop-turn : goal.invariant-loop-turn
invariant-loop-turn l = with_decls l.decls.items (decls l.depth (l._turn-end - l._turn) l.rest) ≡ read_program l.depth l.tokens
