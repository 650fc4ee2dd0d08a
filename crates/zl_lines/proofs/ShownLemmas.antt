-- The outputs that a machine shows, one by one.
use Rattle.std.specs.Prelude.{◌≡◌, ℕ, ◌+◌, ◌<◌, List, [], ◌∷◌, ◌++◌, length, take, slice_get, get_or, map, Some}
use Rattle.std.specs.List.{flat_map, filter_map}
use Rattle.std.specs.Option.{option_and_then}
use Rattle.std.proofs.Common.{refl, sym, ap, ◌∙◌, ⊎_elim, arith}
use Rattle.std.proofs.lemmas.List.{take_more, flat_map_more, get_or-map, length-map}
use Rattle.std.proofs.lemmas.List.Elements.{filter_map-append}
use Rattle.std.proofs.lemmas.Option.{slice_get_cases}
use Rattle.zl_value.specs.Lines.{Shown, shown_text}
use Rattle.zl_value.specs.declared.value.Value.{Value}
use Rattle.zl_value.specs.declared.script.Output.{Output}
use Rattle.zl_code.specs.Method.{Cells, cell}
use Rattle.zl_code.specs.Trace.{shown}
use Rattle.zl_lines.specs.RoomForm.{output_names}

-- an output whose register holds a value
shown_one : (regs : Cells) (o : Output) (name : List ℕ) (v : Value) → name ≡ o.name → Some v ≡ cell regs o.from
    → filter_map (shown regs) (o ∷ []) ≡ record { name = name; value = v } ∷ []
shown_one regs o name v n e = rw (sym e, n) refl

-- the outputs up to one more
shown_more : (regs : Cells) (outs : List Output) (k : ℕ) (o : Output) (name : List ℕ) (v : Value) → k < length outs
    → get_or outs k o ≡ o → name ≡ o.name → Some v ≡ cell regs o.from
    → filter_map (shown regs) (take (k + 1) outs) ≡ filter_map (shown regs) (take k outs) ++ record { name = name; value = v } ∷ []
shown_more regs outs k o name v below at n e =
    ap (filter_map (shown regs)) (take_more outs k o below ∙ ap (λ (x : Output). take k outs ++ x ∷ []) at)
    ∙ filter_map-append (shown regs) (take k outs) (o ∷ [])
    ∙ ap (λ (xs : List Shown). filter_map (shown regs) (take k outs) ++ xs) (shown_one regs o name v n e)

-- the text with one more output
pub text_more : (regs : Cells) (outs : List Output) (k : ℕ) (name : List ℕ) (v : Value) (before line : List ℕ) → k < length outs → name ≡ get_or (output_names outs) k name
    → Some v ≡ option_and_then (λ (o : Output). cell regs o.from) (slice_get outs k)
    → line ≡ before ++ flat_map shown_text (filter_map (shown regs) (take k outs))
    → line ++ shown_text (record { name = name; value = v }) ≡ before ++ flat_map shown_text (filter_map (shown regs) (take (k + 1) outs))
text_more regs outs k name v before line below n e is =
    ⊎_elim (λ p. go p.0 p.2 p.3) (λ p. absurd (omega (arith, p.0, below))) (slice_get_cases outs k).1
  where
    go : (o : Output) → slice_get outs k ≡ Some o → get_or outs k o ≡ o
        → line ++ shown_text (record { name = name; value = v }) ≡ before ++ flat_map shown_text (filter_map (shown regs) (take (k + 1) outs))
    go o found at =
        let holds : Some v ≡ cell regs o.from = e ∙ ap (option_and_then (λ (x : Output). cell regs x.from)) found in
        let named : name ≡ o.name = n ∙ get_or-map (λ (x : Output). x.name) outs k o name below ∙ ap (λ (x : Output). x.name) at in
        ap (λ (xs : List ℕ). xs ++ shown_text (record { name = name; value = v })) is
        ∙ flat_map_more shown_text before (filter_map (shown regs) (take k outs)) (record { name = name; value = v })
        ∙ ap (λ (xs : List Shown). before ++ flat_map shown_text xs) (sym (shown_more regs outs k o name v below at named holds))

pub below_names : (outs : List Output) (names : List (List ℕ)) (k : ℕ) → names ≡ output_names outs → k < length names → k < length outs
below_names outs names k e below = let same : length names ≡ length outs = ap length e ∙ length-map outs (λ (x : Output). x.name) in omega (arith, below, same)

-- the name that was read is that of the output
pub name_at : (outs : List Output) (names : List (List ℕ)) (k : ℕ) (name read : List ℕ) → name ≡ read → read ≡ get_or names k read → names ≡ output_names outs
    → name ≡ get_or (output_names outs) k name
name_at outs names k name read same at e = rw (same, sym e) at
