-- The tables of a flat form, as the code makes them.
use Rattle.std.specs.Prelude.{ℕ, zero, suc, List, [], ◌∷◌, ◌++◌, length, take}
use Rattle.zl_value.specs.Lists.{listed}
use Rattle.zl_ast.specs.declared.program.Decl.{Decl}
use Rattle.zl_meaning.specs.FlatForm.{FlatForm}
use Rattle.zl_meaning.specs.declared.place.Definer.{Definer}
use Rattle.zl_meaning.specs.declared.place.PlaceInfo.{PlaceInfo}
use Rattle.zl_expand.specs.declared.decls.Known.{Known}
use Rattle.zl_flat.specs.declared.given.Given.{Given}
use Rattle.zl_expand.specs.declared.tables.Tables.{Tables}
use Rattle.zl_expand.specs.KeptDecls.{scoped_in, infos_in, types_in, known_in}
use Rattle.zl_flat.specs.Parts.{Parts}
use Rattle.zl_flat.specs.Expansion.{Scoped, found, with_callees, variables_from, definers_of, with_definers, result_places, form_of, main_parts}

-- the flat form that the tables are
abbrev pub form_in : Tables → FlatForm
form_in t = record {
  blocks = t.blocks;
  places = t.places;
  occs = t.occs;
  sites = t.sites;
  choices = t.choices;
  automata = t.automata;
  again = t.again;
  ins = t.ins;
  outs = t.outs;
}

-- lists of definers by place, where the place with this number has one more
abbrev pub given_more : List (List Definer) → ℕ → Definer → List (List Definer)
given_more [] p d = []
given_more (ds ∷ dss) zero d = (ds ++ d ∷ []) ∷ dss
given_more (ds ∷ dss) (suc p) d = ds ∷ given_more dss p d

-- the definers of each of so many places
abbrev pub by_place : ℕ → List Given → List (List Definer)
by_place n gs = listed n 0 (λ p. definers_of p gs)

-- places with these lists of definers
abbrev pub with_lists : List PlaceInfo → List (List Definer) → List PlaceInfo
with_lists (x ∷ xs) (ds ∷ dss) = with_definers x ds ∷ with_lists xs dss
with_lists _ _ = []

-- the declaration with its variables
abbrev pub scoped_as : Known → Decl → Scoped
scoped_as k d = record { decl = d; infos = infos_in k; types = types_in k }

-- what the walk of the declaration as `main` makes
abbrev pub parts_in : Known → Decl → ℕ → Parts
parts_in k d base = main_parts base k.declared.now.names.now (found (with_callees base k.declared.now.names.now [] [] (take k.number (scoped_in k.declared.now)))) (known_in k) (scoped_as k d)

-- what the declaration expands to as `main`, where the hidden occurrences are numbered from `base` on
abbrev pub main_in : Known → Decl → ℕ → FlatForm
main_in k d base =
    form_of
    (parts_in k d base)
    (listed (length d.params) 0 (λ n. n))
    (result_places (variables_from (known_in k) (scoped_as k d) 0) d.results)
