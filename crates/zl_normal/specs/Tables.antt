-- What is known of a form before its wires are made.
use Rattle.std.specs.Prelude.{ℕ, nat_eq, nat_le, Bool, true, false, not, ◌&&◌, ◌||◌, List, [], ◌∷◌, slice_get, get_or, length, Option, Some, None}
use Rattle.zl_value.specs.declared.value.Ty.{Ty}
use Rattle.zl_value.specs.declared.value.Ty.TheVariants.{Float}
use Rattle.zl_value.specs.declared.op.Op.{Op}
use Rattle.zl_value.specs.declared.op.Op.TheVariants.{AddFloat, SubFloat, MulFloat, DivFloat, NegFloat}
use Rattle.zl_meaning.specs.FlatForm.{FlatForm, place_call}
use Rattle.zl_meaning.specs.declared.place.Definer.{Definer}
use Rattle.zl_meaning.specs.declared.place.Definer.TheVariants.{Input, Plain, Der, Start}
use Rattle.zl_meaning.specs.declared.place.PlaceInfo.{PlaceInfo}
use Rattle.zl_meaning.specs.declared.occurrence.Form.{Form}
use Rattle.zl_meaning.specs.declared.occurrence.Form.TheVariants.{Lit, Read, Op as Apply, If, Arrow}
use Rattle.zl_meaning.specs.declared.occurrence.Occ.{Occ}
use Rattle.zl_normal.specs.PlaceWires.{definer_of, start_of}
use Rattle.zl_normal.specs.declared.role.Role.{Role}

-- by occurrence: how it is used, the first literal that is equal to it, and whether it is always evaluated; by place: whether
-- something asks for its `last`
pub record Tables : Type 0 where
  pub roles : List Role
  pub firsts : List ℕ
  pub free : List Bool
  pub lasts : List Bool

-- an occurrence of this form has a wire of its own, which is empty where it isn't evaluated
abbrev pub is_solved_form : Form → Bool
is_solved_form (Apply op ks) = true
is_solved_form (If c x y) = true
is_solved_form (Arrow x y) = true
is_solved_form form = false

abbrev pub is_solved_occ : Option Occ → Bool
is_solved_occ None = false
is_solved_occ (Some occ) = is_solved_form occ.form

abbrev pub is_solved : FlatForm → ℕ → Bool
is_solved f j = is_solved_occ (slice_get f.occs j)

-- what occurrence `j` has needs no further guard: it is always evaluated, or its wire has the guard
abbrev pub is_guarded : FlatForm → Tables → ℕ → Bool
is_guarded f t j = get_or t.free j false || is_solved f j

-- what stands in the copy of this call is always evaluated
abbrev pub is_free : Tables → Option ℕ → Bool
is_free t None = true
is_free t (Some call) = get_or t.free call false

-- an `init` value that is a literal
abbrev pub is_literal_form : Form → Bool
is_literal_form (Lit v) = true
is_literal_form form = false

abbrev pub is_literal_occ : Option Occ → Bool
is_literal_occ None = false
is_literal_occ (Some occ) = is_literal_form occ.form

abbrev pub is_literal : FlatForm → ℕ → Bool
is_literal f j = is_literal_occ (slice_get f.occs j)

-- `last` of the place begins with an `init` value that is computed
abbrev pub is_computed : FlatForm → Option ℕ → Bool
is_computed f None = false
is_computed f (Some j) = not (is_literal f j)

-- the place has no definer but `init`, or moves, or something asks for its `last`
abbrev pub asks_itself : Option Definer → Bool
asks_itself None = true
asks_itself (Some (Der b k arms)) = true
asks_itself (Some definer) = false

abbrev pub has_last : Tables → ℕ → PlaceInfo → Bool
has_last t p place = get_or t.lasts p false || asks_itself (definer_of place.definers)

abbrev pub is_float : Ty → Bool
is_float Float = true
is_float ty = false

-- by its grade an occurrence stands still; it has one of at most 1, or none because a pass appended it
abbrev pub is_still : List ℕ → ℕ → Bool
is_still grades j = nat_eq (get_or grades j 3) 0

abbrev pub is_graded : List ℕ → ℕ → Bool
is_graded grades j = nat_le (get_or grades j 3) 1 || nat_le (length grades) j

-- it is a number that may move
abbrev pub moves : List ℕ → ℕ → Occ → Bool
moves grades j occ = is_float occ.ty && (is_graded grades j && not (is_still grades j))

-- a name of a place without definer
abbrev pub has_no_definers : List Definer → Bool
has_no_definers [] = true
has_no_definers definers = false

abbrev pub is_blank_place : Option PlaceInfo → Bool
is_blank_place None = false
is_blank_place (Some place) = has_no_definers place.definers

abbrev pub is_blank_form : FlatForm → Form → Bool
is_blank_form f (Read p) = is_blank_place (slice_get f.places p)
is_blank_form f form = false

abbrev pub is_blank_occ : FlatForm → Option Occ → Bool
is_blank_occ f None = false
is_blank_occ f (Some occ) = is_blank_form f occ.form

-- the slope of an operator is made: it isn't that of one operand, nor none
abbrev pub has_made_slope : List ℕ → Op → List ℕ → Bool
has_made_slope grades AddFloat (a ∷ b ∷ []) = not (is_still grades a) && not (is_still grades b)
has_made_slope grades SubFloat (a ∷ b ∷ []) = not (is_still grades b)
has_made_slope grades MulFloat (a ∷ b ∷ []) = true
has_made_slope grades DivFloat (a ∷ b ∷ []) = true
has_made_slope grades NegFloat (a ∷ []) = true
has_made_slope grades op ks = false

abbrev pub has_form_slope : FlatForm → List ℕ → Form → Bool
has_form_slope f grades (Apply op ks) = has_made_slope grades op ks
has_form_slope f grades (If c x y) = not (is_blank_occ f (slice_get f.occs y))
has_form_slope f grades form = false

-- occurrence `j` has a slope with a wire of its own
abbrev pub has_own_slope : FlatForm → List ℕ → ℕ → Occ → Bool
has_own_slope f grades j occ = moves grades j occ && has_form_slope f grades occ.form
