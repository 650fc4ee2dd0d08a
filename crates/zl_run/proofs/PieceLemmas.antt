-- The pieces that are put.
use Rattle.std.specs.Prelude.{◌≡◌, ℕ, Bool, true, false, List, [], ◌∷◌, ◌++◌, Option, Some, None}
use Rattle.std.specs.List.{concat}
use Rattle.std.proofs.Common.{refl, sym, ap, ap₂, ◌∙◌, subst, inl, inr, append_assoc}
use Rattle.std.proofs.lemmas.List.{append-nil}
use Rattle.std.proofs.lemmas.List.Folds.{concat-append}
use Rattle.zl_outside.specs.Pieces.{StandsFor, IsFront, Grows, GrowsInPart}
use Rattle.zl_outside.specs.Writes.{Writes}
use Rattle.zl_outside.proofs.WriteLemmas.{writes_front, writes_then, writes_as, front_behind, front_all}
use Rattle.zl_value.specs.Lines.{ending_line}
use Rattle.zl_value.specs.Instants.{History}
use Rattle.zl_value.specs.Traces.{line_of, if_right, lines}
use Rattle.zl_value.specs.Runs.{IsPrefix, IsRun}
use Rattle.zl_value.specs.declared.value.Fault.{Fault}
use Rattle.zl_value.specs.declared.script.Script.{Script}
use Rattle.zl_value.specs.declared.script.Ending.{Ending}
use Rattle.zl_code.specs.CodeForm.{CodeForm}
use Rattle.zl_code.specs.Method.{Doing}
use Rattle.zl_code.specs.System.{system_of, fault_of, lacks}
use Rattle.zl_code.specs.Trace.{outputs}
use Rattle.zl_run.specs.Answers.{piece_if_right, pieces, trace_pieces, GrowsBy, IsBeginning}
use Rattle.zl_run.specs.Laws.{PiecesAreTrace}

-- ---- the pieces are the trace

one_piece : (fault : Option Fault) (b : Bool) (line : List ℕ) → concat (piece_if_right fault b line) ≡ if_right fault b line
one_piece None false line = append-nil line
one_piece None true line = refl
one_piece (Some fault) b line = refl

all_pieces : (c : CodeForm) (h : History Doing) → concat (pieces c h) ≡ lines (system_of c).fault (system_of c).lacks (outputs c) h
all_pieces c [] = refl
all_pieces c (i ∷ h) =
    concat-append (pieces c h) _
    ∙ ap₂ (λ (a b : List ℕ). a ++ b) (all_pieces c h) (one_piece (fault_of i.table) (lacks c i.kind i.table.regs) (line_of (outputs c) h i))

pub pieces_are_trace : PiecesAreTrace
pieces_are_trace c h ending =
    concat-append (pieces c h) (ending_line ending ∷ [])
    ∙ ap₂ (λ (a b : List ℕ). a ++ b) (all_pieces c h) (append-nil (ending_line ending))

-- ---- growing

pub grows_nothing : (before : StandsFor) → GrowsBy before before []
grows_nothing before given was = subst before (sym (append-nil given)) was

pub grows_more : (before mid now : StandsFor) (xs : List (List ℕ)) (x : List ℕ) → GrowsBy before mid xs → Grows mid now x → GrowsBy before now (xs ++ x ∷ [])
grows_more before mid now xs x first then given was =
    subst now (append_assoc given xs (x ∷ [])) (then (given ++ xs) (first given was))

writes_grown : (before now : StandsFor) (xs : List (List ℕ)) → GrowsBy before now xs → Writes before now (λ bytes. bytes ≡ concat xs)
writes_grown before now xs grows given was = (xs, grows given was, refl)

-- the put of one more piece failed
pub writes_cut : (before mid now : StandsFor) (xs : List (List ℕ)) (x : List ℕ) → GrowsBy before mid xs → GrowsInPart mid now x → Writes before now (λ bytes. IsFront bytes (concat (xs ++ x ∷ [])))
writes_cut before mid now xs x grown part =
    writes_then before mid now (λ bytes. bytes ≡ concat xs) (λ bytes. IsFront bytes x) (λ bytes. IsFront bytes (concat (xs ++ x ∷ [])))
    (writes_grown before mid xs grown) (writes_front mid now x part) joined
  where
    joined : (first second : List ℕ) → first ≡ concat xs → IsFront second x → IsFront (first ++ second) (concat (xs ++ x ∷ []))
    joined first second e front =
        subst (λ (whole : List ℕ). IsFront (first ++ second) whole) (sym (concat-append xs (x ∷ []) ∙ ap (λ (b : List ℕ). concat xs ++ b) (append-nil x)))
        (subst (λ (a : List ℕ). IsFront (a ++ second) (concat xs ++ x)) (sym e) (front_behind (concat xs) second x front))

-- what is written is a beginning, up to an instant, or up to the end
pub begins : (c : CodeForm) (script : Script) (before now : StandsFor) (h : History Doing) → IsPrefix (system_of c) script h
    → Writes before now (λ bytes. IsFront bytes (concat (pieces c h))) → Writes before now (IsBeginning c script)
begins c script before now h is written =
    writes_as before now _ (IsBeginning c script) written (λ bytes front. (h, inl (is, front)))

pub begins_whole : (c : CodeForm) (script : Script) (before now : StandsFor) (h : History Doing) (ending : Ending) → IsRun (system_of c) script h ending
    → Writes before now (λ bytes. IsFront bytes (concat (trace_pieces c h ending))) → Writes before now (IsBeginning c script)
begins_whole c script before now h ending is written =
    writes_as before now _ (IsBeginning c script) written (λ bytes front. (h, inr (ending, is, front)))

-- what is put so far is a front of it
pub writes_so_far : (before now : StandsFor) (xs : List (List ℕ)) → GrowsBy before now xs → Writes before now (λ bytes. IsFront bytes (concat xs))
writes_so_far before now xs grown =
    writes_as before now _ (λ bytes. IsFront bytes (concat xs)) (writes_grown before now xs grown) (λ bytes e. subst (λ (b : List ℕ). IsFront b (concat xs)) (sym e) (front_all (concat xs)))
