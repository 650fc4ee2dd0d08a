-- The flat form of a parsed and typed program is well-formed, if it has heights and keeps branches and calls.
use Rattle.std.proofs.Common.{◌≡◌, ℕ, List, [], Some}
use Rattle.zl_value.specs.declared.value.Ty.{Ty}
use Rattle.zl_ast.specs.declared.program.Program.{Program}
use Rattle.zl_ast.specs.NamesRules.{violations}
use Rattle.zl_ast.specs.Scopes.{scopes}
use Rattle.zl_ast.specs.Assignments.{IsTyping}
use Rattle.zl_ast.specs.TypeEqualities.{equalities}
use Rattle.zl_ast.specs.Parsed.{IsParsed}
use Rattle.zl_meaning.specs.FlatForm.{FlatForm}
use Rattle.zl_meaning.specs.WellFormed.{HasHeights, KeepsBranches, IsWellFormed}
use Rattle.zl_meaning.specs.declared.occurrence.Form.{Form}
use Rattle.zl_meaning.specs.declared.occurrence.Form.TheVariants.{Lit, Read, Last, Op as Apply, If, Arrow, Pre, Result, Up, Fired, Step}
use Rattle.zl_flat.specs.Expansion.{MainOf, main_form, program_main}
use Rattle.zl_flat.proofs.UsesBranches.{KeepsCalls}
use Rattle.zl_flat.proofs.WellFormedBodies.{main-some, main-again, choice-bodies, automaton-guards, automaton-bodies}
use Rattle.zl_flat.proofs.WellFormedCalls.{places-in_copy}
use Rattle.zl_flat.proofs.WellFormedDecls.{main-stands}
use Rattle.zl_flat.proofs.WellFormedOrder.{program-kept, program-in-order}
use Rattle.zl_flat.proofs.WellFormedReads.{FormPlaced}
use Rattle.zl_flat.proofs.WellFormedReadsMain.{main-places}
use Rattle.zl_flat.proofs.WellFormedTypesForm.{LastDeclared, well-formed}
use Rattle.zl_flat.proofs.WellFormedTypesPlaced.{parsed-order, parsed-types}

-- a `last` that has its place is of one that is declared around it
last-declared : (f : FlatForm) (b : ℕ) (ty : Ty) (form : Form) → FormPlaced f b ty form → LastDeclared f b form
last-declared f b ty (Lit v) h = tt
last-declared f b ty (Read p) h = tt
last-declared f b ty (Last p) h = h.1
last-declared f b ty (Apply op ks) h = tt
last-declared f b ty (If c x y) h = tt
last-declared f b ty (Arrow x y) h = tt
last-declared f b ty (Pre x) h = tt
last-declared f b ty (Result x) h = tt
last-declared f b ty (Up s) h = tt
last-declared f b ty (Fired ks) h = tt
last-declared f b ty Step h = tt

-- All fields of a well-formed form but heights and branches, and what definers name, for a program that is the tree of a text's tokens, breaks no rule
-- of names and has types.
pub parsed-well-formed : (p : Program) (types : List (List Ty)) (m : MainOf) → program_main p (scopes p) types ≡ Some m → violations p ≡ [] → IsTyping (equalities p) (scopes p) types →
    IsParsed p → HasHeights (main_form p.names m) → KeepsBranches (main_form p.names m) → KeepsCalls (main_form p.names m) → IsWellFormed (main_form p.names m)
parsed-well-formed p types m is none typing h heights branches calls =
    let f = main_form p.names m in
    let order = parsed-order p types none typing h in
    let kept = program-kept p types order m is in
    let places = main-places p.names m (program-in-order p types order m is) in
    well-formed f (main-stands p.names m kept) (parsed-types p types m is none typing h)
    (record {
      main = main-some p.names m;
      arms = choice-bodies p.names m kept;
      guards = automaton-guards p.names m kept;
      states = automaton-bodies p.names m kept;
      lasts = λ k occ at. last-declared f occ.block occ.ty occ.form (places.occs k occ at);
      definers = places.definers;
      copies = places-in_copy f calls;
      again = main-again p.names m;
      ins = places.ins;
      outs = places.outs;
      heights = heights;
      branches = branches;
    })
