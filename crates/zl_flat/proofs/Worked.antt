-- The worked programs, by computation of the walk.
use Rattle.std.proofs.Common.{◌≡◌, ℕ, ◌+◌, List, [], ◌∷◌, refl, arith}
use Rattle.std.proofs.Math.Nat.{add-zero}
use Rattle.zl_value.specs.declared.value.Ty.TheVariants.{Float}
use Rattle.zl_ast.specs.declared.scope.VarInfo.{VarInfo}
use Rattle.zl_ast.specs.declared.scope.VarClass.TheVariants.{Param, Top}
use Rattle.zl_flat.specs.declared.size.Size.{Size}
use Rattle.zl_flat.specs.Parts.{nothing, joined, some_places, some_definers, one_block, one_place, one_occ, one_hidden, one_site, one_choice, one_automaton, after, past_block, past_occ, past_hidden, past_site, past_choice, past_automaton}
use Rattle.zl_flat.specs.Variables.{variables as variables_at}
use Rattle.zl_flat.specs.Sizes.{none, plus, a_place, an_occ, an_up, a_block, in_call, decl_size}
use Rattle.zl_flat.specs.Numbering.{decl_numbering}
use Rattle.zl_flat.specs.Expansion.{found, main_size, sizes_of, result_places}
use Rattle.zl_flat.specs.Limits.{Fits}
use Rattle.zl_flat.specs.Worked.{variable, falling_main, falling, falling_form, FallingExpands, ramp, calling_main, calling, calling_form, CallingExpands}
use Rattle.zl_flat.proofs.KnownDecls.{KnownDecl}
use Rattle.zl_flat.proofs.KnownForms.{form_by}
use Rattle.zl_flat.proofs.KnownOutlines.{known_outlines}
use Rattle.zl_flat.proofs.KnownTypes.{known_places, known_types}
use Rattle.zl_flat.proofs.KnownWalks.{known_walks}
use Rattle.zl_flat.proofs.NumberingSteps.{numbering_steps}
use Rattle.zl_flat.proofs.SizeSteps.{size_steps}
use Rattle.zl_flat.proofs.StructParts.{on-result}
use Rattle.zl_flat.proofs.WorkedPrograms.{main_alone, alone_flat, main_behind, first_called, two_flat}

-- ---- a variable that is reset

abbrev falling_infos : List VarInfo
falling_infos = variable 1 1 37 Top ∷ []

falling_known : KnownDecl falling_main
falling_known = record {
  outlines = search known_outlines depth 40 fits 3000;
  places = search known_places depth 20 fits 2000;
  typed_results = λ e. search known_types depth 40 fits 3000;
  typed_eqs = λ e. search known_types depth 40 fits 3000;
  results = λ base names i. search known_walks depth 40 fits 3000;
  eqs = λ base names i. search known_walks depth 40 fits 3000;
}

abbrev falling_size : Size
falling_size = record { places = 1; occs = 7; sites = 1; blocks = 1; calls = 0 }

falling_size_is : main_size (main_alone falling.names falling_main falling_infos (Float ∷ []) falling_known) ≡ falling_size
unfolding main_size decl_size plus none a_place an_occ an_up a_block
falling_size_is = simp size_steps

falling_own : (decl_numbering falling_infos (found []) falling_main 0).own ≡ 0 ∷ []
unfolding decl_numbering plus none a_place an_occ an_up a_block
falling_own = simp (numbering_steps, size_steps)

falling_outs : result_places (variables_at falling_infos (Float ∷ []) (0 ∷ [])) falling_main.results ≡ 0 ∷ []
falling_outs = simp on-result

falling_is : form_by 7 falling.names (main_alone falling.names falling_main falling_infos (Float ∷ []) falling_known) (found []) (0 ∷ []) (0 ∷ []) falling_known ≡ falling_form
unfolding falling_known joined nothing some_places some_definers one_block one_place one_occ one_hidden one_site one_choice one_automaton after past_block past_occ past_hidden past_site past_choice past_automaton
falling_is = refl

falling_fits : Fits falling_size
falling_fits = record { places = omega arith; occs = omega arith; sites = omega arith; blocks = omega arith; calls = omega arith }

pub falling_expands : FallingExpands
falling_expands =
    alone_flat falling.names falling_main falling_infos (Float ∷ []) falling_known falling_form refl falling_size falling_size_is falling_fits (0 ∷ []) (0 ∷ []) falling_own falling_outs falling_is

-- ---- a call

abbrev ramp_infos : List VarInfo
ramp_infos = variable 1 1 17 Param ∷ variable 2 1 38 Top ∷ []

abbrev calling_infos : List VarInfo
calling_infos = variable 4 2 33 Top ∷ []

ramp_known : KnownDecl ramp
ramp_known = record {
  outlines = search known_outlines depth 40 fits 3000;
  places = search known_places depth 20 fits 2000;
  typed_results = λ e. search known_types depth 40 fits 3000;
  typed_eqs = λ e. search known_types depth 40 fits 3000;
  results = λ base names i. search known_walks depth 40 fits 3000;
  eqs = λ base names i. search known_walks depth 40 fits 3000;
}

calling_known : KnownDecl calling_main
calling_known = record {
  outlines = search known_outlines depth 40 fits 3000;
  places = search known_places depth 20 fits 2000;
  typed_results = λ e. search known_types depth 40 fits 3000;
  typed_eqs = λ e. search known_types depth 40 fits 3000;
  results = λ base names i. search known_walks depth 40 fits 3000;
  eqs = λ base names i. search known_walks depth 40 fits 3000;
}

abbrev calling_size : Size
calling_size = record { places = 3; occs = 6; sites = 0; blocks = 1; calls = 1 }

calling_size_is : main_size (main_behind calling.names ramp ramp_infos (Float ∷ Float ∷ []) ramp_known calling_main calling_infos (Float ∷ []) calling_known) ≡ calling_size
unfolding main_size decl_size plus none a_place an_occ an_up a_block in_call
calling_size_is = simp size_steps

ramp_own : (n : ℕ) → (decl_numbering ramp_infos (found []) ramp n).own ≡ n ∷ (n + 1) ∷ []
unfolding decl_numbering plus none a_place an_occ an_up a_block
ramp_own n = simp (numbering_steps, size_steps, add-zero)

calling_own : (decl_numbering calling_infos (sizes_of (main_behind calling.names ramp ramp_infos (Float ∷ Float ∷ []) ramp_known calling_main calling_infos (Float ∷ []) calling_known)) calling_main 0).own ≡ 0 ∷ []
unfolding decl_numbering decl_size plus none a_place an_occ an_up a_block in_call
calling_own = simp (numbering_steps, size_steps)

calling_outs : result_places (variables_at calling_infos (Float ∷ []) (0 ∷ [])) calling_main.results ≡ 0 ∷ []
calling_outs = simp on-result

calling_is : form_by 6 calling.names (main_behind calling.names ramp ramp_infos (Float ∷ Float ∷ []) ramp_known calling_main calling_infos (Float ∷ []) calling_known)
    (first_called calling.names ramp ramp_infos (Float ∷ Float ∷ []) ramp_known calling_main calling_infos (Float ∷ []) calling_known 6 (λ n. n ∷ (n + 1) ∷ []))
    (0 ∷ []) (0 ∷ []) calling_known ≡ calling_form
unfolding ramp_known calling_known joined nothing some_places some_definers one_block one_place one_occ one_hidden one_site one_choice one_automaton after past_block past_occ past_hidden past_site past_choice past_automaton
calling_is = refl

calling_fits : Fits calling_size
calling_fits = record { places = omega arith; occs = omega arith; sites = omega arith; blocks = omega arith; calls = omega arith }

pub calling_expands : CallingExpands
calling_expands =
    two_flat calling.names ramp ramp_infos (Float ∷ Float ∷ []) ramp_known calling_main calling_infos (Float ∷ []) calling_known calling_form refl refl
    calling_size calling_size_is calling_fits (λ n. n ∷ (n + 1) ∷ []) ramp_own (0 ∷ []) (0 ∷ []) calling_own calling_outs calling_is
