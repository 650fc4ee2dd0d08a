-- A file that breaks no rule breaks none.
use Rattle.std.proofs.Common.{◌≡◌, ◌⊎◌, inl, inr, ℕ, ◌<◌, List, [], length, map, filter, nat_eq, Some, arith, refl, sym, ap, subst, ◌∙◌}
use Rattle.zl_value.specs.declared.position.Pos.{Pos}
use Rattle.zl_value.specs.declared.rule.Rule.{Rule}
use Rattle.zl_value.specs.declared.rule.Rule.TheVariants as rule
use Rattle.zl_lexer.specs.declared.token.LexAnswer.TheVariants as answer
use Rattle.zl_lexer.specs.declared.token.Token.{Token}
use Rattle.zl_lexer.specs.Tokens.{IsLexed}
use Rattle.zl_lexer.proofs.ReadingLemmas.{one_list, never_both as never_lexed}
use Rattle.zl_ast.specs.declared.program.Program.{Program}
use Rattle.zl_ast.specs.Assignments as types_of
use Rattle.zl_ast.specs.Declarations.{IsDecls, nesting_limit}
use Rattle.zl_ast.specs.Initialised.{requirements}
use Rattle.zl_ast.specs.Kinds.{misplaced}
use Rattle.zl_ast.specs.Levels as levels_of
use Rattle.zl_ast.specs.NamesRules.{turn, violations, violations_of, IsRefusedAt}
use Rattle.zl_ast.specs.Parsed.{IsParsed}
use Rattle.zl_ast.specs.Scopes.{scopes}
use Rattle.zl_ast.specs.TypeEqualities.{equalities}
use Rattle.zl_ast.proofs.AgreeingDeclarations.{one_tree_at}
use Rattle.zl_meaning.specs.FlatForm.{FlatForm}
use Rattle.zl_meaning.specs.WellFormed.{IsWellFormed}
use Rattle.zl_meaning.specs.Causality.{HasRanks}
use Rattle.zl_meaning.specs.Depends.{PlaceThing, BlockThing, IsInCircle, IsOnCircle, IsCausal}
use Rattle.zl_meaning.specs.Grades.{Grading, IsOverGraded}
use Rattle.zl_meaning.specs.GradesLaw.{AreAllowed}
use Rattle.zl_meaning.proofs.CausalRanks.{causal-of-ranks}
use Rattle.zl_meaning.proofs.GradesKept.OneGrading.{has_one_grading}
use Rattle.zl_flat.specs.declared.size.Size.{Size}
use Rattle.zl_flat.specs.Expansion.{MainOf, main_form, main_size}
use Rattle.zl_flat.specs.Flat.{IsFlatOf}
use Rattle.zl_flat.specs.Limits.{Fits, Passes, OfPlaces, OfOccs, OfSites, OfBlocks, OfCalls, IsTooLarge}
use Rattle.zl_flat.proofs.CheckedPrograms.{flat_is_well_formed}
use Rattle.zl_causal.specs.Refused.{IsFirst, IsCircleAt}
use Rattle.zl_grade.specs.Graded.{grading_of}
use Rattle.zl_grade.specs.Refused.{IsOverGradedAt}
use Rattle.zl_compile.specs.declared.file.Accepted.{Accepted}
use Rattle.zl_compile.specs.Accepts.{IsAccepted}
use Rattle.zl_compile.specs.Breaks.{Breaks}
use Rattle.zl_compile.specs.FileTree.{IsTreeOf}
use Rattle.zl_compile.specs.FirstBroken.{IsFirstBroken, PassesLimits}
use Rattle.zl_compile.specs.Laws.{NeverBoth}
use Rattle.zl_compile.specs.Rules.{KeepsRules, HasFlat}
use Rattle.zl_compile.proofs.NamesRefusals.{none_in}
use Rattle.zl_compile.proofs.OneTyping.{all_met, none_open, one_typing}

-- ---- one form

some_same : (m n : MainOf) → Some m ≡ Some n → m ≡ n
some_same m n e = cc

-- a count that keeps its limit doesn't pass it
within : (s : Size) → Fits s → Passes s → ⊥
within s fits (OfPlaces more) = let most = fits.places in absurd (omega arith)
within s fits (OfOccs more) = let most = fits.occs in absurd (omega arith)
within s fits (OfSites more) = let most = fits.sites in absurd (omega arith)
within s fits (OfBlocks more) = let most = fits.blocks in absurd (omega arith)
within s fits (OfCalls more) = let most = fits.calls in absurd (omega arith)

module _ (p : Program) where
  -- a tree with a flat form within the limits passes none
  no_limit : (form : FlatForm) (at : Pos) → HasFlat p form → PassesLimits p at → ⊥
  no_limit form at has broken =
      let types = one_typing (equalities p) (scopes p) has.types broken.types has.rules.typing broken.rules.typing in
      let large : IsTooLarge p (scopes p) has.types at = subst (λ tss. IsTooLarge p (scopes p) tss at) types broken.too_large in
      let main : large.main ≡ has.flat.main = some_same large.main has.flat.main (sym large.is_main ∙ has.flat.is_main) in
      within (main_size has.flat.main) has.flat.fits (subst (λ m. Passes (main_size m)) main large.passes)

  -- and no other one
  one_flat : (form other : FlatForm) → HasFlat p form → HasFlat p other → other ≡ form
  one_flat form other x y =
      let types = one_typing (equalities p) (scopes p) x.types y.types x.rules.typing y.rules.typing in
      let flat : IsFlatOf p (scopes p) x.types other = subst (λ tss. IsFlatOf p (scopes p) tss other) types y.flat in
      flat.is ∙ ap (main_form p.names) (some_same flat.main x.flat.main (sym flat.is_main ∙ x.flat.is_main)) ∙ sym x.flat.is

-- ---- causality and grades

-- a form with ranks has no circle
no_circle : (f : FlatForm) (at : Pos) → HasRanks f → IsCircleAt f at → ⊥
no_circle f at ranks circle = by_first circle.first
  where
    causal : IsCausal f
    causal = causal-of-ranks f ranks

    by_first : IsFirst (IsInCircle f) circle.place ⊎ (((p : ℕ) → p < length f.places → IsInCircle f p → ⊥) × IsFirst (IsOnCircle f) circle.place) → ⊥
    by_first (inl first) = causal (PlaceThing circle.place) first.holds
    by_first (inr first) = let on = first.1.holds in causal (BlockThing on.0) on.2

-- a form with grades that are allowed has no greater one
no_grade : (f : FlatForm) (g : Grading) (at : Pos) → IsWellFormed f → HasRanks f → AreAllowed f g → IsOverGradedAt f at → ⊥
no_grade f g at formed ranks allowed graded =
    let same : graded.grading ≡ g = has_one_grading f formed ranks graded.grading g graded.table allowed.table in
    allowed.fine graded.number (subst (λ g. IsOverGraded f g graded.number) same graded.first.holds)

-- ---- a tree

-- a tree that breaks no rule of names is refused by none
no_name : (p : Program) (r : Rule) (at : Pos) → violations p ≡ [] → IsRefusedAt p r at → ⊥
no_name p r at kept refused =
    none_in (violations_of r p) at (ap (λ vs. map (λ v. v.1) (filter (λ v. nat_eq (turn v.0) (turn r)) vs)) kept) refused.broken

module _ (a : Accepted) (parsed : IsParsed a.program) (kept : KeepsRules a) where
  has : HasRanks a.flat
  has = record { of_places = a.ranks.places.items; of_blocks = a.ranks.blocks.items; grow = kept.ranks }

  formed : IsWellFormed a.flat
  formed =
      let rules = kept.flat.rules in
      flat_is_well_formed a.program (scopes a.program) kept.flat.types a.flat refl
      (record { parsed = parsed; names = rules.names; typing = rules.typing; placed = rules.placed }) kept.flat.flat

  -- a tree that keeps the rules of every stage breaks none
  none_broken : (r : Rule) (at : Pos) → IsFirstBroken a.program r at → ⊥
  none_broken rule.Size at h = h
  none_broken rule.Utf8 at h = h
  none_broken rule.Token at h = h
  none_broken rule.Literal at h = h
  none_broken rule.Parse at h = h
  none_broken rule.Deep at h = h
  none_broken rule.NameUnknown at h = no_name a.program rule.NameUnknown at kept.flat.rules.names h
  none_broken rule.NameTwice at h = no_name a.program rule.NameTwice at kept.flat.rules.names h
  none_broken rule.DefinedTwice at h = no_name a.program rule.DefinedTwice at kept.flat.rules.names h
  none_broken rule.Undefined at h = no_name a.program rule.Undefined at kept.flat.rules.names h
  none_broken rule.Arity at h = no_name a.program rule.Arity at kept.flat.rules.names h
  none_broken rule.Branch at h = no_name a.program rule.Branch at kept.flat.rules.names h
  none_broken rule.Main at h = no_name a.program rule.Main at kept.flat.rules.names h
  none_broken rule.Last at h = no_name a.program rule.Last at kept.flat.rules.names h
  none_broken rule.TypeClash at h =
      let typing = kept.flat.rules.typing in
      all_met types_of.Meets (λ e. e.at) (equalities a.program) at typing.solution typing.solves h.1
  none_broken rule.TypeOpen at h = none_open (equalities a.program) (scopes a.program) kept.flat.types at kept.flat.rules.typing h.1
  none_broken rule.Kind at h = none_in (misplaced a.program) at kept.flat.rules.placed h.1.misplaced.broken
  none_broken rule.Init at h =
      let its = kept.flat.rules.initialisation in
      all_met levels_of.Meets (λ r. r.at) (requirements a.program) at its.levels its.allow h.2
  none_broken rule.ExpandSize at h = no_limit a.program a.flat at kept.flat h
  none_broken rule.Causality at h = no_circle a.flat at has (subst (λ f. IsCircleAt f at) (one_flat a.program a.flat h.form kept.flat h.flat) h.circle)
  none_broken rule.Grade at h =
      no_grade a.flat (grading_of a.grades) at formed has kept.grades
      (subst (λ f. IsOverGradedAt f at) (one_flat a.program a.flat h.form kept.flat h.flat) h.graded)
  none_broken rule.Unbuilt at h = h

-- ---- the bytes

-- two trees of the same bytes are one
one_program : (bytes : List ℕ) (p q : Program) → IsTreeOf bytes p → IsTreeOf bytes q → q ≡ p
one_program bytes p q x y =
    let lists = one_list bytes x.tokens y.tokens p.names q.names x.end y.end x.lexed y.lexed in
    let trees : p.decls ≡ q.decls =
    one_tree_at nesting_limit x.tokens p.decls q.decls x.tree (subst (λ ts. IsDecls nesting_limit ts q.decls) (sym lists.0) y.tree) in
    λ j. record { decls = sym trees j; names = sym lists.1 j }

module _ (bytes : List ℕ) (a : Accepted) (accepted : IsAccepted bytes a) where
  tree : IsTreeOf bytes a.program
  tree = accepted.tree

  -- the tree is one of the tokens of any reading
  tree_of : (ts : List Token) (names : List (List ℕ)) (end : Pos) → IsLexed bytes ts names end → IsDecls nesting_limit ts a.program.decls
  tree_of ts names end lexed =
      subst (λ ts. IsDecls nesting_limit ts a.program.decls) (one_list bytes tree.tokens ts a.program.names names tree.end end tree.lexed lexed).0 tree.tree

  of_tree : (r : Rule) (at : Pos) → (q : Program) × IsTreeOf bytes q × IsFirstBroken q r at → ⊥
  of_tree r at h =
      none_broken a accepted.parsed accepted.rules r at (subst (λ p. IsFirstBroken p r at) (one_program bytes a.program h.0 tree h.1) h.2)

  no_rule : (r : Rule) (at : Pos) → Breaks bytes r at → ⊥
  no_rule rule.Size at h = let most = tree.text.0 in let more = h.0 in absurd (omega arith)
  no_rule rule.Utf8 at h = h.1 tree.text.1
  no_rule rule.Token at h = never_lexed bytes tree.tokens a.program.names tree.end (answer.BadToken at) tree.lexed h.1
  no_rule rule.Literal at h = never_lexed bytes tree.tokens a.program.names tree.end (answer.Literal at) tree.lexed h.1
  no_rule rule.Parse at h = let stop = h.1 in stop.treeless.none nesting_limit a.program.decls (tree_of stop.tokens stop.names stop.end stop.lexed)
  no_rule rule.Deep at h = let stop = h.1 in stop.treeless.none a.program.decls (tree_of stop.tokens stop.names stop.end stop.lexed)
  no_rule rule.NameUnknown at h = of_tree rule.NameUnknown at h
  no_rule rule.NameTwice at h = of_tree rule.NameTwice at h
  no_rule rule.DefinedTwice at h = of_tree rule.DefinedTwice at h
  no_rule rule.Undefined at h = of_tree rule.Undefined at h
  no_rule rule.Arity at h = of_tree rule.Arity at h
  no_rule rule.Branch at h = of_tree rule.Branch at h
  no_rule rule.Main at h = of_tree rule.Main at h
  no_rule rule.Last at h = of_tree rule.Last at h
  no_rule rule.TypeClash at h = of_tree rule.TypeClash at h
  no_rule rule.TypeOpen at h = of_tree rule.TypeOpen at h
  no_rule rule.Kind at h = of_tree rule.Kind at h
  no_rule rule.Init at h = of_tree rule.Init at h
  no_rule rule.ExpandSize at h = of_tree rule.ExpandSize at h
  no_rule rule.Causality at h = of_tree rule.Causality at h
  no_rule rule.Grade at h = of_tree rule.Grade at h
  no_rule rule.Unbuilt at h = of_tree rule.Unbuilt at h

pub never_both : NeverBoth
never_both bytes r at none breaks = no_rule bytes none.0 none.1 r at breaks
