-- Texts of programs whose runs are worked, and that each expands to the flat form on which its run stands.
use Rattle.std.specs.Prelude.{◌≡◌, ℕ, List, ◌++◌, codes}
use Rattle.zl_value.specs.declared.value.Ty.{Ty}
use Rattle.zl_lexer.specs.Tokens.{IsLexed}
use Rattle.zl_ast.specs.declared.program.Program.{Program}
use Rattle.zl_ast.specs.Scopes.{scopes}
use Rattle.zl_meaning.specs.FlatForm.{FlatForm}
use Rattle.zl_meaning.specs.Worked.TwoTanks as two_tanks
use Rattle.zl_meaning.specs.Worked.ResetBlock as reset_block
use Rattle.zl_meaning.specs.Worked.WaitingByHistory as waiting
use Rattle.zl_flat.specs.Flat.{IsFlatOf}
use Rattle.zl_flat.specs.Checked.{IsChecked}

-- The text is read as a program with these names, which keeps the rules of names, of types and of contexts, and whose flat
-- form this is.
pub record Expands (text : List ℕ) (names : List (List ℕ)) (form : FlatForm) : Type 0 where
  pub program : Program
  pub types : List (List Ty)
  pub checked : IsChecked program types
  pub lexed : IsLexed text checked.parsed.tokens program.names checked.parsed.end
  pub names_are : program.names ≡ names
  pub flat : IsFlatOf program (scopes program) types form

-- A text expands to one form at most: it has one list of tokens, they one tree, and that one typing.
abbrev pub OneForm : Type 0
OneForm = (text : List ℕ) (names more : List (List ℕ)) (form other : FlatForm) → Expands text names form → Expands text more other → (names ≡ more) × (form ≡ other)

-- two tanks of which one is filled
abbrev pub two_tanks_text : List ℕ
two_tanks_text =
    codes "let hybrid main() = (x1, x2) where rec\n"
    ++ codes "  init x1 = 0.0 and init x2 = 1.0\n"
    ++ codes "  and automaton\n"
    ++ codes "  | A -> do der x1 = 0.75 -. 0.5 and der x2 = -. 0.5 until up(-. x2) then B\n"
    ++ codes "  | B -> do der x1 = -. 0.5 and der x2 = 0.75 -. 0.5 until up(-. x1) then A"

abbrev pub TwoTanksExpands : Type 0
TwoTanksExpands = Expands two_tanks_text two_tanks.names two_tanks.form

-- a reset of a `present` that calls a node
abbrev pub reset_block_text : List ℕ
reset_block_text =
    codes "let node count() = n where rec n = 1 fby (n + 1)\n"
    ++ codes "let hybrid main() = n where rec\n"
    ++ codes "  der t = 1.0 init 0.0 reset up(t -. 1.0) -> 0.0\n"
    ++ codes "  and init n = 0\n"
    ++ codes "  and reset present up(t -. 0.5) -> do n = count() done every up(t -. 1.0)"

abbrev pub ResetBlockExpands : Type 0
ResetBlockExpands = Expands reset_block_text reset_block.names reset_block.form

-- an automaton inside a state of another, which waits while that state isn't active
abbrev pub waiting_text : List ℕ
waiting_text =
    codes "let hybrid main() = x where rec der t = 1.0 init 0.0 reset up(t -. 1.0) -> 0.0 and init x = 0.0 and automaton\n"
    ++ codes "  | A -> do automaton | P -> do der x = 1.0 until up(t -. 1.0) then Q | Q -> do der x = 2.0 done end until up(t -. 1.0) then B\n"
    ++ codes "  | B -> do until up(t -. 1.0) continue A"

abbrev pub WaitingExpands : Type 0
WaitingExpands = Expands waiting_text waiting.names waiting.form
