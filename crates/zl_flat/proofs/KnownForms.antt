-- The flat form of a program whose counts, places and walks are known.
use Rattle.std.proofs.Common.{◌≡◌, ℕ, List, [], map, length, Option, ◌∙◌}
use Rattle.zl_value.specs.Lists.{listed}
use Rattle.zl_ast.specs.declared.program.Decl.{Decl}
use Rattle.zl_meaning.specs.FlatForm.{FlatForm}
use Rattle.zl_flat.specs.declared.given.Given.{Given}
use Rattle.zl_flat.specs.declared.here.Here.{Here}
use Rattle.zl_flat.specs.declared.size.Size.{Size}
use Rattle.zl_flat.specs.Parts.{Counters, joined, one_block, some_places, some_definers, after, past_block, start}
use Rattle.zl_flat.specs.Variables.{variables}
use Rattle.zl_flat.specs.Numbering.{decl_numbering}
use Rattle.zl_flat.specs.Instances.{Copy, Callee, Instance}
use Rattle.zl_flat.specs.Expressions.{Walk, walk_all}
use Rattle.zl_flat.specs.Equations.{Making, in_turn}
use Rattle.zl_flat.specs.Expansion.{Scoped, found, MainOf, main_size, sizes_of, variables_from, param_place, argument_definers, input_definers, body_copy, decl_copy, with_callees, main_here, main_block, main_parts, result_places, form_of, main_form}
use Rattle.zl_flat.proofs.KnownDecls.{KnownDecl}

-- a copy of a body with these walks
abbrev pub copy_by : Instance → Decl → List Given → List Walk → List Making → Here → Counters → Copy
copy_by i d definers results eqs here s =
    let params = joined (some_places (map (param_place i here) d.params)) (some_definers definers) in
    let values = walk_all results here (after s params) in
    record { parts = joined params (joined values.parts (in_turn eqs here (after (after s params) values.parts))); results = values.roots }

-- a copy in this block of a declaration whose variables have these places
abbrev pub instance_by : (ℕ → Option Callee) → Scoped → ℕ → List ℕ → Instance
instance_by callees d block own = record { block = block; infos = d.infos; variables = variables d.infos d.types own; callees = callees }

module _ (base : ℕ) (names : List (List ℕ)) (callees : ℕ → Option Callee) (sizes : ℕ → Option Size) (d : Scoped) (k : KnownDecl d.decl) where
  -- a declaration that can be called, where the places of its variables are known whatever the first of them is
  module _ (own : ℕ → List ℕ) where
    abbrev pub callee_by : Callee
    callee_by here roots s =
        let i = instance_by callees d here.block (own s.places) in
        copy_by i d.decl (argument_definers here s.places d.decl.params roots) (k.results base names i).value (k.eqs base names i).value here s

    pub callee-by : ((n : ℕ) → (decl_numbering d.infos sizes d.decl n).own ≡ own n) → decl_copy base names callees sizes d ≡ callee_by
    unfolding decl_copy
    callee-by is =
        (λ j here roots s. body_copy base names (instance_by callees d here.block (is s.places j)) d.decl (argument_definers here s.places d.decl.params roots) here s)
        ∙ (λ j here roots s.
        let i = instance_by callees d here.block (own s.places) in
        copy_by i d.decl (argument_definers here s.places d.decl.params roots) ((k.results base names i).is j) ((k.eqs base names i).is j) here s)

-- ---- main

module _ (base : ℕ) (names : List (List ℕ)) (m : MainOf) (callees : ℕ → Option Callee) (own outs : List ℕ) (k : KnownDecl m.main.decl) where
  abbrev pub form_by : FlatForm
  form_by =
      let i = instance_by callees m.main 0 own in
      form_of
      (joined (one_block (main_block base names m.main.decl)) (copy_by i m.main.decl (input_definers 0 m.main.decl.params) (k.results base names i).value (k.eqs base names i).value (main_here base names m.main.decl) (past_block start)).parts)
      (listed (length m.main.decl.params) 0 (λ n. n))
      outs

  pub form-by : (main_size m).occs ≡ base → found (with_callees base names [] [] m.before) ≡ callees → (decl_numbering m.main.infos (sizes_of m) m.main.decl 0).own ≡ own
      → result_places (variables m.main.infos m.main.types own) m.main.decl.results ≡ outs → main_form names m ≡ form_by
  unfolding main_form main_parts
  form-by size known places results =
      let ins = listed (length m.main.decl.params) 0 (λ n. n) in
      (λ j. form_of (main_parts (size j) names (found (with_callees (size j) names [] [] m.before)) (sizes_of m) m.main) ins (result_places (variables_from (sizes_of m) m.main 0) m.main.decl.results))
      ∙ (λ j.
      form_of
      (joined (one_block (main_block base names m.main.decl)) (body_copy base names (instance_by (known j) m.main 0 (places j)) m.main.decl (input_definers 0 m.main.decl.params) (main_here base names m.main.decl) (past_block start)).parts)
      ins
      (result_places (variables m.main.infos m.main.types (places j)) m.main.decl.results))
      ∙ (λ j.
      let i = instance_by callees m.main 0 own in
      form_of
      (joined (one_block (main_block base names m.main.decl)) (copy_by i m.main.decl (input_definers 0 m.main.decl.params) ((k.results base names i).is j) ((k.eqs base names i).is j) (main_here base names m.main.decl) (past_block start)).parts)
      ins
      (results j))
