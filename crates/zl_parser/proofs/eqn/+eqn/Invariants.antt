use Rattle.std.proofs.Common.{◌≡◌, ◌+◌, ◌*◌, ◌-◌}
use Rattle.zl_lexer.specs.declared.token.TokenKind.TheVariants as kind
use Rattle.zl_lexer.specs.declared.token.Sign.TheVariants as sign
use Rattle.zl_lexer.specs.declared.token.Word.TheVariants as word
use Rattle.zl_ast.specs.Reading.{others, list_of}
use Rattle.zl_ast.specs.ReadingEquations.{eqn, arm, state}
use Rattle.zl_parser.specs.Giving.{with_front}
use Rattle.zl_parser.specs.Blocks.{eqs_below}
use Rattle.zl_parser.proofs.eqn.+eqn.Given as goal

abbrev pub decreases-eqs : goal.decreases-eqs
decreases-eqs l = l.depth * 1024 + 30

abbrev pub decreases-eqn : goal.decreases-eqn
decreases-eqn l = l.depth * 1024 + 29

abbrev pub decreases-present : goal.decreases-present
decreases-present l = l.depth * 1024 + 28

abbrev pub decreases-automaton : goal.decreases-automaton
decreases-automaton l = l.depth * 1024 + 28

abbrev pub decreases-reset : goal.decreases-reset
decreases-reset l = l.depth * 1024 + 28

abbrev pub decreases-arms : goal.decreases-arms
decreases-arms l = l.depth * 1024 + 27

abbrev pub decreases-other : goal.decreases-other
decreases-other l = l.depth * 1024 + 27

abbrev pub decreases-states : goal.decreases-states
decreases-states l = l.depth * 1024 + 27

abbrev pub decreases-arm : goal.decreases-arm
decreases-arm l = l.depth * 1024 + 26

abbrev pub decreases-state : goal.decreases-state
decreases-state l = l.depth * 1024 + 26

abbrev pub decreases-body : goal.decreases-body
decreases-body l = l.depth * 1024 + 25

abbrev pub decreases-do_eqs : goal.decreases-do_eqs
decreases-do_eqs l = l.depth * 1024 + 2

abbrev pub decreases-below : goal.decreases-below
decreases-below l = l.depth * 1024 + 2

abbrev pub invariant-eqs-loop-turn : goal.invariant-eqs-loop-turn
invariant-eqs-loop-turn l =
    with_front l.eqs.items (others (kind.Word word.And) (eqn l.depth (eqs_below l.depth)) (l._turn-end - l._turn) l.rest) ≡ list_of (kind.Word word.And) (eqn l.depth (eqs_below l.depth)) l.tokens

abbrev pub invariant-arms-loop-turn : goal.invariant-arms-loop-turn
invariant-arms-loop-turn l =
    with_front l.arms.items (others (kind.Sign sign.Bar) (arm l.depth (eqs_below l.depth)) (l._turn-end - l._turn) l.rest) ≡ list_of (kind.Sign sign.Bar) (arm l.depth (eqs_below l.depth)) l.tokens

abbrev pub invariant-states-loop-turn : goal.invariant-states-loop-turn
invariant-states-loop-turn l =
    with_front l.states.items (others (kind.Sign sign.Bar) (state l.depth (eqs_below l.depth)) (l._turn-end - l._turn) l.rest) ≡ list_of (kind.Sign sign.Bar) (state l.depth (eqs_below l.depth)) l.tokens
