-- A normal form keeps the runs of its form, and what is printed of them.
use Rattle.std.specs.Prelude.{◌≡◌, ℕ, suc, List, [], ◌∷◌, length, slice_get, get_or, Option, Some, None}
use Rattle.std.specs.List.{filter_map}
use Rattle.std.specs.Option.{option_map, option_and_then}
use Rattle.std.proofs.Common.{refl, sym, ap, ap₂, ◌∙◌}
use Rattle.zl_value.specs.Instants.{History}
use Rattle.zl_value.specs.Lines.{Shown}
use Rattle.zl_value.specs.Correspondence.{Corresponds, AreReached, ShowsSame, KeepsRuns}
use Rattle.zl_value.specs.declared.script.Script.{Script}
use Rattle.zl_value.specs.declared.script.Input.{Input}
use Rattle.zl_value.specs.declared.script.Output.{Output}
use Rattle.zl_value.proofs.Correspondence.{keeps_runs}
use Rattle.zl_meaning.specs.FlatForm.{FlatForm}
use Rattle.zl_meaning.specs.State.{Table, state_in, AtPlace}
use Rattle.zl_meaning.specs.Single.{IsSingle}
use Rattle.zl_meaning.specs.System.{system_of}
use Rattle.zl_meaning.specs.Trace.{outputs as form_outputs, shown as form_shown}
use Rattle.zl_meaning.specs.declared.place.PlaceInfo.{PlaceInfo}
use Rattle.zl_kernel.specs.KernelForm.{KernelForm}
use Rattle.zl_kernel.specs.Wires.{Registers, held}
use Rattle.zl_kernel.specs.System.{system_of_kernel}
use Rattle.zl_kernel.specs.Shown.{outputs, shown}
use Rattle.zl_normal.specs.Wiring.{Wiring}
use Rattle.zl_normal.specs.Interface.{AreInputs, AreOutputs}
use Rattle.zl_normal.specs.MainBlock.{IsMain}
use Rattle.zl_normal.specs.Evaluated.{HasGuardRanks, KeepsLasts}
use Rattle.zl_normal.specs.Normal.{IsNormal}
use Rattle.zl_normal.specs.Laws.{same_sites, SeesPlaces, KeepsRunsOf}
use Rattle.zl_normal.proofs.Runs.Corresponds.{Says, follows, corresponds}
use Rattle.zl_normal.proofs.Flows.FlowLaw.{slope_fault_same, site_same}
use Rattle.zl_normal.specs.Starts.{KeepsFlows}
use Rattle.zl_meaning.specs.Grades.{Grading}
use Rattle.zl_meaning.specs.Inputs.{input_types}
use Rattle.zl_meaning.specs.WellFormed.{IsWellFormed}
use Rattle.zl_value.specs.Script.{IsScriptFor}

same_count : (f : FlatForm) (names : List (List ℕ)) (N : Wiring) (ps : List ℕ) (ins : List Input) → AreInputs f names N ps ins → length ins ≡ length ps
same_count f names N [] [] are = refl
same_count f names N [] (input ∷ ins) are = absurd are
same_count f names N (p ∷ ps) [] are = absurd are
same_count f names N (p ∷ ps) (input ∷ ins) are = ap (λ n. suc n) (same_count f names N ps ins are.1)

same_shown : (f : FlatForm) (names : List (List ℕ)) (N : Wiring) (t : Table) (r : Registers) → ((p : ℕ) (place : PlaceInfo) → slice_get f.places p ≡ Some place → state_in t (AtPlace p) ≡ held r (N.P p)) → (ps : List ℕ) (outs : List Output) → AreOutputs f names N ps outs → filter_map (form_shown f names (state_in t)) ps ≡ filter_map (shown r) outs
same_shown f names N t r sees [] [] are = refl
same_shown f names N t r sees [] (out ∷ outs) are = absurd are
same_shown f names N t r sees (p ∷ ps) [] are = absurd are
same_shown f names N t r sees (p ∷ ps) (out ∷ outs) are =
    ap₂ (λ (o : Option Shown) l. joined o l)
    (ap (λ o. option_and_then (λ (place : PlaceInfo). option_map (λ v. let x : Shown = record { name = get_or names place.name []; value = v } in x) (state_in t (AtPlace p))) o) are.0.is
    ∙ ap₂ (λ n v. option_map (λ w. let x : Shown = record { name = n; value = w } in x) v) (sym are.0.name) (sees p are.0.place are.0.is ∙ ap (λ n. held r n) (sym are.0.wire)))
    (same_shown f names N t r sees ps outs are.1)
  where
    joined : Option Shown → List Shown → List Shown
    joined None l = l
    joined (Some x) l = x ∷ l

module _ (f : FlatForm) (gr : Grading) (names : List (List ℕ)) (k : KernelForm) (N : Wiring) (script : Script) where
  sees : (h : History Registers) (g : History Table) → Corresponds (system_of_kernel k) (system_of f gr.occs) script same_sites (Says f k N) h g → Corresponds (system_of_kernel k) (system_of f gr.occs) script same_sites (SeesPlaces f N) h g
  sees [] [] e = tt
  sees [] (j ∷ g) e = absurd e
  sees (i ∷ h) [] e = absurd e
  sees (i ∷ h) (j ∷ g) e = ((record { kind = e.0.0.kind; time = e.0.0.time; inputs = e.0.0.inputs; fired = e.0.0.fired }, λ p place is. e.0.1.says.places p (place, is)), sees h g e.1)

  reached : (h : History Registers) (g : History Table) → AreReached (system_of_kernel k) (system_of f gr.occs) script same_sites (Says f k N) h g → AreReached (system_of_kernel k) (system_of f gr.occs) script same_sites (SeesPlaces f N) h g
  reached h g e = record { first = e.first; second = e.second; corresponds = sees h g e.corresponds }

  shows : IsNormal f gr.occs names k N → ShowsSame (system_of_kernel k) (system_of f gr.occs) script same_sites (Says f k N) (outputs k) (form_outputs f names)
  shows normal h g i j at none whole = same_shown f names N j.table i.table (λ p place is. at.corresponds.0.1.says.places p (place, is)) f.outs k.outs normal.outs

  module _ (main : IsMain f) (single : IsSingle f) (ranks : HasGuardRanks f) (lasts : KeepsLasts f) (normal : IsNormal f gr.occs names k N) (formed : IsWellFormed f) (keeps : KeepsFlows f gr) (suits : IsScriptFor (input_types f) script) where
    pub law : KeepsRuns (system_of_kernel k) (system_of f gr.occs) script same_sites (Says f k N)
    law =
        keeps_runs (system_of_kernel k) (system_of f gr.occs) script same_sites (Says f k N)
        (corresponds f k N gr.occs script main single normal.instants normal.flows ranks (same_count f names N f.ins k.ins normal.ins)
        (λ h g i j y at after whole flow is. record {
          fault =
              slope_fault_same f k N main single normal.instants gr normal.flows ranks formed keeps.grades keeps.moving keeps.starts keeps.derivatives script suits h g i j
              (follows f k N gr.occs script (i ∷ h) (j ∷ g) at.corresponds) at.second y after flow is;
          values = λ none s r l n low.
              site_same f k N main single normal.instants gr normal.flows ranks formed keeps.grades keeps.moving keeps.starts keeps.derivatives script suits h g i j
              (follows f k N gr.occs script (i ∷ h) (j ∷ g) at.corresponds) at.second y after flow is (whole none) s (record { reduced = r; after = l }) n low;
        }) lasts)

    pub normal_runs : KeepsRunsOf f gr.occs names k N script
    normal_runs = record {
      runs = record {
        prefixes = λ h is. let b = law.prefixes h is in record { history = b.history; is = b.is; corresponds = sees h b.history b.corresponds; long = b.long };
        runs = λ h ending is some.
            let b = law.runs h ending is some in
            record {
              history = b.history;
              is = b.is;
              corresponds = sees h b.history b.corresponds;
              long = b.long;
              prints = λ p q same. b.prints p q (λ h g i j at none whole. same h g i j (reached (i ∷ h) (j ∷ g) at) none whole);
            };
      };
      traces = λ h ending is some. let b = law.runs h ending is some in (b.history, b.is, b.prints (outputs k) (form_outputs f names) (shows normal));
    }
