-- The reserved words. After Zélus.
use Rattle.std.specs.Prelude.{◌≡◌, ℕ, Bool, true, not, ◌&&◌, List, [], ◌∷◌, Option, is_some, codes}
use Rattle.std.specs.Map.{lookup}
use Rattle.std.specs.Str.{IsUtf8, bytes_eq, chars}
use Rattle.zl_lexer.specs.declared.token.Word.{Word}
use Rattle.zl_lexer.specs.declared.token.Word.TheVariants as word
use Rattle.zl_lexer.specs.Names.{is_name}

abbrev pub words : List (List ℕ × Word)
words =
    (codes "let", word.Let) ∷ (codes "node", word.Node) ∷ (codes "hybrid", word.Hybrid) ∷ (codes "where", word.Where)
    ∷ (codes "rec", word.Rec) ∷ (codes "and", word.And) ∷ (codes "der", word.Der) ∷ (codes "init", word.Init)
    ∷ (codes "reset", word.Reset) ∷ (codes "present", word.Present) ∷ (codes "automaton", word.Automaton)
    ∷ (codes "do", word.Do) ∷ (codes "done", word.Done) ∷ (codes "until", word.Until) ∷ (codes "unless", word.Unless)
    ∷ (codes "then", word.Then) ∷ (codes "continue", word.Continue) ∷ (codes "else", word.Else)
    ∷ (codes "end", word.End) ∷ (codes "every", word.Every) ∷ (codes "local", word.Local) ∷ (codes "in", word.In)
    ∷ (codes "if", word.If) ∷ (codes "last", word.Last) ∷ (codes "pre", word.Pre) ∷ (codes "fby", word.Fby)
    ∷ (codes "up", word.Up) ∷ (codes "not", word.Not) ∷ (codes "mod", word.Mod) ∷ (codes "or", word.Or)
    ∷ (codes "true", word.True) ∷ (codes "false", word.False) ∷ (codes "bool", word.Bool) ∷ (codes "int", word.Int)
    ∷ (codes "float", word.Float) ∷ (codes "period", word.Period) ∷ []

-- the word that a whole text is
abbrev pub word_of : List ℕ → Option Word
word_of text = lookup (bytes_eq text) words

-- the whole text is a name that isn't reserved
abbrev pub is_identifier : List ℕ → Bool
is_identifier text = is_name (chars text) && not (is_some (word_of text))

-- the bytes are the text of such a name
abbrev pub IsIdentifier : List ℕ → Type 0
IsIdentifier bytes = IsUtf8 bytes × (is_identifier bytes ≡ true)
