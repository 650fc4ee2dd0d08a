-- The lines that aren't skipped, one after another.
use Rattle.std.proofs.Common.{◌≡◌, ℕ, ◌+◌, true, false, cond, List, [], ◌∷◌, refl, sym, ap, ◌∙◌}
use Rattle.std.specs.Str.{is_utf8}
use Rattle.std.proofs.lemmas.Bool.{cond-true, cond-false}
use Rattle.zl_script.specs.Cut.{without_return, words_of}
use Rattle.zl_script.specs.Items.{Item, is_skipped, item_of, items}

pub words_none : words_of [] ≡ []
unfolding words_of
words_none = refl

pub items_none : (n : ℕ) → items n [] ≡ []
unfolding items
items_none n = refl

pub items_skipped : (n : ℕ) (line : List ℕ) (lines : List (List ℕ)) → is_skipped (without_return line) ≡ true → items n (line ∷ lines) ≡ items (n + 1) lines
unfolding items
items_skipped n line lines e = cond-true _ _ _ e

pub items_said : (n : ℕ) (line : List ℕ) (lines : List (List ℕ)) → is_skipped (without_return line) ≡ false → items n (line ∷ lines) ≡ item_of n (without_return line) ∷ items (n + 1) lines
unfolding items
items_said n line lines e = cond-false _ _ _ e

-- a line that says something
pub said_next : (all : List Item) (n : ℕ) (lines : List (List ℕ)) (ended w : List ℕ) (behind : List (List ℕ)) (words : List (List ℕ)) → all ≡ items n lines → lines ≡ ended ∷ behind
    → w ≡ without_return ended → is_skipped w ≡ false → words ≡ cond (is_utf8 w) (words_of w) [] → all ≡ record { line = n; words = words } ∷ items (n + 1) behind
said_next all n lines ended w behind words e is wr unskipped say =
    e ∙ ap (items n) is ∙ items_said n ended behind (ap is_skipped (sym wr) ∙ unskipped)
    ∙ ap (λ ws. record { line = n; words = ws } ∷ items (n + 1) behind) (ap (λ v. cond (is_utf8 v) (words_of v) []) (sym wr) ∙ sym say)

-- or nothing
pub skipped_next : (all : List Item) (n : ℕ) (lines : List (List ℕ)) (ended w : List ℕ) (behind : List (List ℕ)) → all ≡ items n lines → lines ≡ ended ∷ behind
    → w ≡ without_return ended → is_skipped w ≡ true → all ≡ items (n + 1) behind
skipped_next all n lines ended w behind e is wr skipped =
    e ∙ ap (items n) is ∙ items_skipped n ended behind (ap is_skipped (sym wr) ∙ skipped)

pub ended_next : (all : List Item) (n : ℕ) (lines : List (List ℕ)) → all ≡ items n lines → lines ≡ [] → all ≡ []
ended_next all n lines e is = e ∙ ap (items n) is ∙ items_none n
