-- The numbers of variables are those of the first mentions of their names, in the order of the text.
use Rattle.std.proofs.Common.{◌≡◌, ℕ, ◌+◌, Bool, true, false, not, ◌&&◌, if◌then◌else◌, List, [], ◌∷◌, ◌++◌, map, filter, Option, Some, None, refl, sym, ap, subst, ◌∙◌, arith}
use Rattle.std.proofs.lemmas.List.{map-append}
use Rattle.zl_ast.specs.declared.name.Name.{Name}
use Rattle.zl_ast.specs.declared.scope.VarInfo.{VarInfo}
use Rattle.zl_ast.specs.declared.scope.VarClass.{VarClass}
use Rattle.zl_ast.specs.declared.scope.VarClass.TheVariants as class
use Rattle.zl_ast.specs.declared.eqn.Eqn.{Eqn, roll-Eqn}
use Rattle.zl_ast.specs.declared.eqn.Arm.{Arm, roll-Arm}
use Rattle.zl_ast.specs.declared.eqn.Body.{Body, roll-Body}
use Rattle.zl_ast.specs.declared.eqn.State.{State, roll-State}
use Rattle.zl_ast.specs.declared.eqn.Eqn.TheOpen.{Eqn-F, Arm-F, Body-F, State-F}
use Rattle.zl_ast.specs.declared.eqn.Eqn.TheOpen as open_eqn
use Rattle.zl_ast.specs.declared.eqn.Eqn.TheFolds.{fold-roll-Eqn, fold-roll-Arm, fold-roll-Body, fold-roll-State, ind-Eqn, ind-Arm, ind-Body, ind-State, map-Eqn, map-Arm, map-Body, map-State}
use Rattle.zl_ast.specs.Names.{among, with_ids, ids_of}
use Rattle.zl_ast.specs.NamesDefined as defined
use Rattle.zl_ast.specs.NamesDefined.{Outline, StateOutline, entry, is_defined, free_entries, together, list_from, states_among, eqn_outline, arm_outline, body_outline, state_outline}
use Rattle.zl_ast.specs.Spots as spot
use Rattle.zl_ast.specs.Spots.{Spot, bare_name, equation, place, named, joined, all_spots, some_spots, one_name, left_spots, expr_spots, cond_spots, reset_arm_spots, move_spots, eqn_spots, arm_spots, body_spots, state_spots, Sublist, end, keep, drop}
use Rattle.zl_ast.specs.Parsed.{places}
use Rattle.zl_flat.specs.declared.size.Size.{Size}
use Rattle.zl_flat.specs.Variables.{is_first}
use Rattle.zl_flat.specs.Sizes as sizes
use Rattle.zl_flat.specs.Sizes.{none, plus, total, a_place, a_block, expr_size, start_size, reset_arm_size, cond_size, move_size, name_size, names_size, eqn_size, arm_size, body_size, state_size}
use Rattle.zl_flat.specs.Numbering as number
use Rattle.zl_flat.specs.Numbering.{Numbered, Numbering, eqn_numbering, arm_numbering, body_numbering, state_numbering}
use Rattle.zl_flat.proofs.WellFormedMentions as mention
use Rattle.zl_flat.proofs.WellFormedMentions.{Mention, Mentioned, Mentioning, eqn_mentions, arm_mentions, body_mentions, state_mentions, firsts, numbers, as_entry, as_entries, places_in_text}

-- ---- lists

-- a list is what is left of a longer one
pub sub-same : {A : Type 0} (xs : List A) → Sublist xs xs
sub-same [] = end
sub-same (x ∷ xs) = keep (sub-same xs)

-- nothing is left of any list
pub sub-none : {A : Type 0} (xs : List A) → Sublist [] xs
sub-none [] = end
sub-none (x ∷ xs) = drop (sub-none xs)

-- what is left of two lists is left of both together
pub sub-both : {A : Type 0} {xs ys us vs : List A} → Sublist xs ys → Sublist us vs → Sublist (xs ++ us) (ys ++ vs)
sub-both end b = b
sub-both (keep a) b = keep (sub-both a b)
sub-both (drop a) b = drop (sub-both a b)

-- what is left of what is left of a list
pub sub-through : {A : Type 0} {xs ys zs : List A} → Sublist xs ys → Sublist ys zs → Sublist xs zs
sub-through end b = b
sub-through (keep a) (keep b) = keep (sub-through a b)
sub-through (drop a) (keep b) = drop (sub-through a b)
sub-through (keep a) (drop b) = drop (sub-through (keep a) b)
sub-through (drop a) (drop b) = drop (sub-through (drop a) b)

-- what passes a test is left of a list
pub sub-filter : {A : Type 0} (p : A → Bool) (xs : List A) → Sublist (filter p xs) xs
sub-filter p [] = end
sub-filter p (x ∷ xs) = by_test (p x) (sub-filter p xs)
  where
    by_test : (b : Bool) → Sublist (filter p xs) xs → Sublist (if b then x ∷ filter p xs else filter p xs) (x ∷ xs)
    by_test true h = keep h
    by_test false h = drop h

firsts-append : (vars : List VarInfo) (ms ns : List Mention) → firsts vars (ms ++ ns) ≡ firsts vars ms ++ firsts vars ns
firsts-append vars [] ns = refl
firsts-append vars (m ∷ ms) ns = by_first (is_first vars m.name) (firsts-append vars ms ns)
  where
    by_first : (b : Bool) → firsts vars (ms ++ ns) ≡ firsts vars ms ++ firsts vars ns →
        (if b then m ∷ firsts vars (ms ++ ns) else firsts vars (ms ++ ns)) ≡ (if b then m ∷ firsts vars ms else firsts vars ms) ++ firsts vars ns
    by_first true e = ap (λ xs. m ∷ xs) e
    by_first false e = e

-- ---- mentions and what is made of the same equations

-- These names stand in the order of the text, those of the entries among them; the first ones have the numbers that
-- numbering gives, and it goes on as far as the size says.
pub record Follows (vars : List VarInfo) (n : ℕ) (m : Mentioned) (k : Numbered) (z : Size) (es : List VarInfo) (ps : List Spot) : Type 0 where
  pub own : k.own ≡ numbers (firsts vars m.all)
  pub next : k.next ≡ m.next
  pub size : m.next ≡ n + z.places
  pub entries : Sublist es (as_entries m.all)
  pub in_text : Sublist (places_in_text m.all) (places ps)

-- whatever the next place is
abbrev pub AllFollow : List VarInfo → Mentioning → Numbering → Size → List VarInfo → List Spot → Type 0
AllFollow vars f g z es ps = (n : ℕ) → Follows vars n (f n) (g n) z es ps

module _ (vars : List VarInfo) where
  follows-same : {f f' : Mentioning} {g g' : Numbering} {z z' : Size} {es es' : List VarInfo} {ps ps' : List Spot} → f ≡ f' → g ≡ g' → z ≡ z' → es ≡ es' → ps ≡ ps' → AllFollow vars f' g' z' es' ps' → AllFollow vars f g z es ps
  follows-same {f = f} {g = g} {g' = g'} {z = z} {z' = z'} {es = es} {es' = es'} {ps = ps} {ps' = ps'} a b c d e h =
      subst (λ t. AllFollow vars f g z es t) (sym e)
      (subst (λ t. AllFollow vars f g z t ps') (sym d)
      (subst (λ t. AllFollow vars f g t es' ps') (sym c)
      (subst (λ t. AllFollow vars f t z' es' ps') (sym b)
      (subst (λ t. AllFollow vars t g' z' es' ps') (sym a) h))))

  -- what is made one behind the other follows if both do
  pub follows-both : {f1 f2 : Mentioning} {g1 g2 : Numbering} {z1 z2 : Size} {es1 es2 : List VarInfo} {ps1 ps2 : List Spot} →
      AllFollow vars f1 g1 z1 es1 ps1 → AllFollow vars f2 g2 z2 es2 ps2 → AllFollow vars (mention.both f1 f2) (number.both g1 g2) (plus z1 z2) (es1 ++ es2) (ps1 ++ ps2)
  unfolding plus
  follows-both {f1 = f1} {f2 = f2} {g1 = g1} {g2 = g2} {z1 = z1} {z2 = z2} {es1 = es1} {es2 = es2} {ps1 = ps1} {ps2 = ps2} h k n =
      let a = h n in
      let b = k (f1 n).next in
      let xs = (f1 n).all in
      let ys = (f2 (f1 n).next).all in
      let split = ap numbers (firsts-append vars xs ys) ∙ map-append (λ (m : Mention). m.number) (firsts vars xs) (firsts vars ys) in
      let behind = ap (λ t. (g2 t).own) a.next ∙ b.own in
      record {
        own = ap (λ t. t ++ (g2 (g1 n).next).own) a.own ∙ (ap (λ t. numbers (firsts vars xs) ++ t) behind ∙ sym split);
        next = ap (λ t. (g2 t).next) a.next ∙ b.next;
        size = sum n (f1 n).next z1.places z2.places (mention.both f1 f2 n).next a.size b.size;
        entries = subst (Sublist (es1 ++ es2)) (sym (map-append as_entry xs ys)) (sub-both a.entries b.entries);
        in_text = subst (λ t. Sublist t (places (ps1 ++ ps2))) (sym (map-append (λ (m : Mention). m.name.at) xs ys))
            (subst (Sublist (places_in_text xs ++ places_in_text ys)) (sym (map-append (λ (s : Spot). s.at) ps1 ps2)) (sub-both a.in_text b.in_text));
      }
    where
      sum : (n m a b r : ℕ) → m ≡ n + a → r ≡ m + b → r ≡ n + (a + b)
      sum n m a b r e g = omega (arith, e, g)

  follows-calls : (z : Size) (ps : List Spot) → AllFollow vars (mention.of_calls z) (number.of_calls z) z [] ps
  follows-calls z ps n = record { own = refl; next = refl; size = refl; entries = end; in_text = sub-none (places ps) }

  -- nothing follows nothing
  pub follows-none : AllFollow vars mention.no_mentions number.no_places none [] []
  unfolding none
  follows-none n = record { own = refl; next = refl; size = omega arith; entries = end; in_text = end }

  -- behind a place that is none of a name
  follows-behind : {f : Mentioning} {g : Numbering} {z : Size} {es : List VarInfo} {ps : List Spot} (p : Spot) → AllFollow vars f g z es ps → AllFollow vars f g z es (p ∷ ps)
  follows-behind p h n = let a = h n in record { own = a.own; next = a.next; size = a.size; entries = a.entries; in_text = drop a.in_text }

  -- in a block of its own
  follows-block : {f : Mentioning} {g : Numbering} {z : Size} {es : List VarInfo} {ps : List Spot} → AllFollow vars f g z es ps → AllFollow vars f g (plus a_block z) es ps
  unfolding plus a_block
  follows-block h n = let a = h n in let e = a.size in record { own = a.own; next = a.next; size = omega (arith, e); entries = a.entries; in_text = a.in_text }

  -- some of the entries
  follows-fewer : {f : Mentioning} {g : Numbering} {z : Size} {es es' : List VarInfo} {ps : List Spot} → Sublist es' es → AllFollow vars f g z es ps → AllFollow vars f g z es' ps
  follows-fewer s h n = let a = h n in record { own = a.own; next = a.next; size = a.size; entries = sub-through s a.entries; in_text = a.in_text }

  with-none : {A : Type 0} (xs : List A) → Sublist xs (xs ++ [])
  with-none [] = end
  with-none (x ∷ xs) = keep (with-none xs)

  no-more : {f : Mentioning} {g : Numbering} {z : Size} {ps : List Spot} (es : List VarInfo) → AllFollow vars f g z (es ++ []) ps → AllFollow vars f g z es ps
  no-more es h = follows-fewer (with-none es) h

  module _ (known : ℕ → Option Size) where
    follows-name : (c : VarClass) (x : Name) (p : Spot) → p.at ≡ x.at → AllFollow vars (mention.of_name vars known c x) (number.of_name vars known x) (name_size vars known x) (entry c x ∷ []) (p ∷ [])
    unfolding a_place none
    follows-name c x p e n = by_first (is_first vars x) refl
      where
        by_first : (b : Bool) → is_first vars x ≡ b → Follows vars n (mention.of_name vars known c x n) (number.of_name vars known x n) (name_size vars known x) (entry c x ∷ []) (p ∷ [])
        by_first b is = record {
          own = own_is b is;
          next = ap (λ (g : Numbering). (g n).next) (ap (λ t. if t then number.a_variable else number.no_places) is) ∙ (next_is b ∙ sym (ap (λ t. n + (if t then a_place else none).places) is));
          size = refl;
          entries = keep end;
          in_text = subst (λ t. Sublist (x.at ∷ []) (t ∷ [])) (sym e) (keep end);
        }
          where
            own_is : (b : Bool) → is_first vars x ≡ b → (number.of_name vars known x n).own ≡ numbers (firsts vars (record { name = x; class = c; number = n } ∷ []))
            own_is true is = ap (λ t. ((if t then number.a_variable else number.no_places) n).own) is ∙ sym (ap (λ t. numbers (if t then record { name = x; class = c; number = n } ∷ [] else [])) is)
            own_is false is = ap (λ t. ((if t then number.a_variable else number.no_places) n).own) is ∙ sym (ap (λ t. numbers (if t then record { name = x; class = c; number = n } ∷ [] else [])) is)

            next_is : (b : Bool) → ((if b then number.a_variable else number.no_places) n).next ≡ n + (if b then a_place else none).places
            next_is true = refl
            next_is false = omega arith

    follows-names : (c : VarClass) (xs : List Name) → AllFollow vars (mention.of_names vars known c xs) (number.of_names vars known xs) (names_size vars known xs) (map (entry c) xs) (all_spots one_name xs)
    follows-names c [] n = follows-none n
    follows-names c (x ∷ xs) n = follows-both (follows-name c x (named bare_name x) refl) (follows-names c xs) n

    follows-left : (xs : List Name) → AllFollow vars (mention.of_names vars known class.Top xs) (number.of_names vars known xs) (names_size vars known xs) (map (entry class.Top) xs) (left_spots xs)
    follows-left [] n = follows-none n
    follows-left (x ∷ xs) n = follows-both (follows-name class.Top x (named equation x) refl) (follows-names class.Top xs) n

    -- ---- down the tree

    abbrev pub EqnFollows : Eqn → Type 0
    EqnFollows e = AllFollow vars (eqn_mentions vars known e) (eqn_numbering vars known e) (eqn_size vars known e) (eqn_outline e).entries (eqn_spots e)

    abbrev pub ArmFollows : Arm → Type 0
    ArmFollows a = AllFollow vars (arm_mentions vars known a) (arm_numbering vars known a) (arm_size vars known a) (arm_outline a).entries (arm_spots a)

    abbrev pub BodyFollows : Body → Type 0
    BodyFollows b = AllFollow vars (body_mentions vars known b) (body_numbering vars known b) (body_size vars known b) (body_outline b).entries (body_spots b)

    abbrev pub StateFollows : State → Type 0
    StateFollows s = AllFollow vars (state_mentions vars known s) (state_numbering vars known s) (state_size vars known s) (state_outline s).outline.entries (state_spots s)

    abbrev TheEqn : Type 0
    TheEqn = (e : Eqn) × EqnFollows e

    abbrev TheArm : Type 0
    TheArm = (a : Arm) × ArmFollows a

    abbrev TheBody : Type 0
    TheBody = (b : Body) × BodyFollows b

    abbrev TheState : Type 0
    TheState = (s : State) × StateFollows s

    eqs-follow : (valued started : List ℕ) (es : List TheEqn) → AllFollow vars (mention.in_turn (map (eqn_mentions vars known) (map (λ e. e.0) es))) (number.in_turn (map (eqn_numbering vars known) (map (λ e. e.0) es)))
        (total (map (eqn_size vars known) (map (λ e. e.0) es))) (list_from valued started (map eqn_outline (map (λ e. e.0) es))).entries (joined (map eqn_spots (map (λ e. e.0) es)))
    eqs-follow valued started [] n = follows-none n
    eqs-follow valued started (e ∷ es) n = follows-both e.1 (eqs-follow (with_ids valued (eqn_outline e.0).valued) (with_ids started (eqn_outline e.0).started) es) n

    arms-follow : (es : List TheArm) → AllFollow vars (mention.in_turn (map (arm_mentions vars known) (map (λ e. e.0) es))) (number.in_turn (map (arm_numbering vars known) (map (λ e. e.0) es)))
        (total (map (arm_size vars known) (map (λ e. e.0) es))) (together (map arm_outline (map (λ e. e.0) es))).entries (joined (map arm_spots (map (λ e. e.0) es)))
    arms-follow [] n = follows-none n
    arms-follow (e ∷ es) n = follows-both e.1 (arms-follow es) n

    states-follow : (ids : List ℕ) (es : List TheState) → AllFollow vars (mention.in_turn (map (state_mentions vars known) (map (λ e. e.0) es))) (number.in_turn (map (state_numbering vars known) (map (λ e. e.0) es)))
        (total (map (state_size vars known) (map (λ e. e.0) es))) (states_among ids (map state_outline (map (λ e. e.0) es))).entries (joined (map state_spots (map (λ e. e.0) es)))
    states-follow ids [] n = follows-none n
    states-follow ids (e ∷ es) n = follows-both e.1 (states-follow ids es) n

    eqn-layer : (e : Eqn-F TheEqn TheArm TheBody TheState) →
        (let step = map-Eqn TheEqn TheArm TheBody TheState Eqn Arm Body State (λ e. e.0) (λ a. a.0) (λ b. b.0) (λ s. s.0) e in
        AllFollow vars (mention.eqn_step vars known (map-Eqn Eqn Arm Body State Mentioning Mentioning Mentioning Mentioning (eqn_mentions vars known) (arm_mentions vars known) (body_mentions vars known) (state_mentions vars known) step))
        (number.eqn_step vars known (map-Eqn Eqn Arm Body State Numbering Numbering Numbering Numbering (eqn_numbering vars known) (arm_numbering vars known) (body_numbering vars known) (state_numbering vars known) step))
        (sizes.eqn_step vars known (map-Eqn Eqn Arm Body State Size Size Size Size (eqn_size vars known) (arm_size vars known) (body_size vars known) (state_size vars known) step))
        (defined.eqn_step (map-Eqn Eqn Arm Body State Outline Outline Outline StateOutline eqn_outline arm_outline body_outline state_outline step)).entries
        (spot.eqn_step (map-Eqn Eqn Arm Body State (List Spot) (List Spot) (List Spot) (List Spot) eqn_spots arm_spots body_spots state_spots step)))
    eqn-layer (open_eqn.Plain left right) n = no-more (map (entry class.Top) left) (follows-both (follows-left left) (follows-calls (expr_size vars known right) (expr_spots right))) n
    eqn-layer (open_eqn.Der at x slope start resets) n =
        follows-behind (place equation at)
        (follows-both (follows-name class.Top x (named bare_name x) refl)
        (follows-both (follows-calls (expr_size vars known slope) (expr_spots slope))
        (follows-both (follows-calls (start_size vars known start) (some_spots expr_spots start)) (follows-calls (total (map (reset_arm_size vars known) resets)) (all_spots reset_arm_spots resets))))) n
    eqn-layer (open_eqn.Start at x value) n = follows-behind (place equation at) (follows-both (follows-name class.Top x (named bare_name x) refl) (follows-calls (expr_size vars known value) (expr_spots value))) n
    eqn-layer (open_eqn.Present at arms None) n = follows-behind (place equation at) (follows-both (arms-follow arms) follows-none) n
    eqn-layer (open_eqn.Present at arms (Some b)) n = follows-behind (place equation at) (follows-both (arms-follow arms) (follows-block b.1)) n
    eqn-layer (open_eqn.Automaton at states) n = follows-behind (place equation at) (states-follow (with_ids [] (ids_of (defined.state_names (map state_outline (map (λ s. s.0) states))))) states) n
    eqn-layer (open_eqn.Reset at eqs z) n = follows-behind (place equation at) (no-more (list_from [] [] (map eqn_outline (map (λ e. e.0) eqs))).entries (follows-block (follows-both (eqs-follow [] [] eqs) (follows-calls (cond_size vars known z) (cond_spots z))))) n

    arm-layer : (x : Arm-F TheEqn TheArm TheBody TheState) →
        (let step = map-Arm TheEqn TheArm TheBody TheState Eqn Arm Body State (λ e. e.0) (λ a. a.0) (λ b. b.0) (λ s. s.0) x in
        AllFollow vars (mention.arm_step vars known (map-Arm Eqn Arm Body State Mentioning Mentioning Mentioning Mentioning (eqn_mentions vars known) (arm_mentions vars known) (body_mentions vars known) (state_mentions vars known) step))
        (number.arm_step vars known (map-Arm Eqn Arm Body State Numbering Numbering Numbering Numbering (eqn_numbering vars known) (arm_numbering vars known) (body_numbering vars known) (state_numbering vars known) step))
        (sizes.arm_step vars known (map-Arm Eqn Arm Body State Size Size Size Size (eqn_size vars known) (arm_size vars known) (body_size vars known) (state_size vars known) step))
        (defined.arm_step (map-Arm Eqn Arm Body State Outline Outline Outline StateOutline eqn_outline arm_outline body_outline state_outline step)).entries
        (spot.arm_step (map-Arm Eqn Arm Body State (List Spot) (List Spot) (List Spot) (List Spot) eqn_spots arm_spots body_spots state_spots step)))
    arm-layer a n = follows-both (follows-calls (cond_size vars known a.cond) (cond_spots a.cond)) (follows-block a.body.1) n

    body-layer : (x : Body-F TheEqn TheArm TheBody TheState) →
        (let step = map-Body TheEqn TheArm TheBody TheState Eqn Arm Body State (λ e. e.0) (λ a. a.0) (λ b. b.0) (λ s. s.0) x in
        AllFollow vars (mention.body_step vars known (map-Body Eqn Arm Body State Mentioning Mentioning Mentioning Mentioning (eqn_mentions vars known) (arm_mentions vars known) (body_mentions vars known) (state_mentions vars known) step))
        (number.body_step vars known (map-Body Eqn Arm Body State Numbering Numbering Numbering Numbering (eqn_numbering vars known) (arm_numbering vars known) (body_numbering vars known) (state_numbering vars known) step))
        (sizes.body_step vars known (map-Body Eqn Arm Body State Size Size Size Size (eqn_size vars known) (arm_size vars known) (body_size vars known) (state_size vars known) step))
        (defined.body_step (map-Body Eqn Arm Body State Outline Outline Outline StateOutline eqn_outline arm_outline body_outline state_outline step)).entries
        (spot.body_step (map-Body Eqn Arm Body State (List Spot) (List Spot) (List Spot) (List Spot) eqn_spots arm_spots body_spots state_spots step)))
    body-layer b n =
        let o = list_from [] [] (map eqn_outline (map (λ e. e.0) b.eqs)) in
        follows-fewer (sub-both (sub-same (map (entry class.Local) b.locals)) (sub-filter (λ v. not (is_defined v && among (with_ids [] (ids_of b.locals)) v.name)) o.entries))
        (follows-both (follows-names class.Local b.locals) (eqs-follow [] [] b.eqs)) n

    state-layer : (x : State-F TheEqn TheArm TheBody TheState) →
        (let step = map-State TheEqn TheArm TheBody TheState Eqn Arm Body State (λ e. e.0) (λ a. a.0) (λ b. b.0) (λ s. s.0) x in
        AllFollow vars (mention.state_step vars known (map-State Eqn Arm Body State Mentioning Mentioning Mentioning Mentioning (eqn_mentions vars known) (arm_mentions vars known) (body_mentions vars known) (state_mentions vars known) step))
        (number.state_step vars known (map-State Eqn Arm Body State Numbering Numbering Numbering Numbering (eqn_numbering vars known) (arm_numbering vars known) (body_numbering vars known) (state_numbering vars known) step))
        (sizes.state_step vars known (map-State Eqn Arm Body State Size Size Size Size (eqn_size vars known) (arm_size vars known) (body_size vars known) (state_size vars known) step))
        (defined.state_step (map-State Eqn Arm Body State Outline Outline Outline StateOutline eqn_outline arm_outline body_outline state_outline step)).outline.entries
        (spot.state_step (map-State Eqn Arm Body State (List Spot) (List Spot) (List Spot) (List Spot) eqn_spots arm_spots body_spots state_spots step)))
    state-layer s n =
        follows-behind (named bare_name s.name)
        (no-more (body_outline s.body.0).entries (follows-block (follows-block (follows-both s.body.1 (follows-calls (total (map (move_size vars known) s.moves)) (all_spots move_spots s.moves)))))) n

    eqn-case : (x : Eqn-F Eqn Arm Body State) (y : Eqn-F TheEqn TheArm TheBody TheState) → map-Eqn TheEqn TheArm TheBody TheState Eqn Arm Body State (λ e. e.0) (λ a. a.0) (λ b. b.0) (λ s. s.0) y ≡ x → EqnFollows (roll-Eqn x)
    unfolding eqn_mentions arm_mentions body_mentions state_mentions eqn_numbering arm_numbering body_numbering state_numbering eqn_size arm_size body_size state_size eqn_outline arm_outline body_outline state_outline eqn_spots arm_spots body_spots state_spots
    eqn-case x y is =
        let step = map-Eqn TheEqn TheArm TheBody TheState Eqn Arm Body State (λ e. e.0) (λ a. a.0) (λ b. b.0) (λ s. s.0) y in
        subst (λ z. EqnFollows (roll-Eqn z)) is
        (follows-same
        (fold-roll-Eqn Mentioning Mentioning Mentioning Mentioning (mention.eqn_step vars known) (mention.arm_step vars known) (mention.body_step vars known) (mention.state_step vars known) step)
        (fold-roll-Eqn Numbering Numbering Numbering Numbering (number.eqn_step vars known) (number.arm_step vars known) (number.body_step vars known) (number.state_step vars known) step)
        (fold-roll-Eqn Size Size Size Size (sizes.eqn_step vars known) (sizes.arm_step vars known) (sizes.body_step vars known) (sizes.state_step vars known) step)
        (ap (λ (o : Outline). o.entries) (fold-roll-Eqn Outline Outline Outline StateOutline defined.eqn_step defined.arm_step defined.body_step defined.state_step step))
        (fold-roll-Eqn (List Spot) (List Spot) (List Spot) (List Spot) spot.eqn_step spot.arm_step spot.body_step spot.state_step step)
        (eqn-layer y))

    arm-case : (x : Arm-F Eqn Arm Body State) (y : Arm-F TheEqn TheArm TheBody TheState) → map-Arm TheEqn TheArm TheBody TheState Eqn Arm Body State (λ e. e.0) (λ a. a.0) (λ b. b.0) (λ s. s.0) y ≡ x → ArmFollows (roll-Arm x)
    unfolding eqn_mentions arm_mentions body_mentions state_mentions eqn_numbering arm_numbering body_numbering state_numbering eqn_size arm_size body_size state_size eqn_outline arm_outline body_outline state_outline eqn_spots arm_spots body_spots state_spots
    arm-case x y is =
        let step = map-Arm TheEqn TheArm TheBody TheState Eqn Arm Body State (λ e. e.0) (λ a. a.0) (λ b. b.0) (λ s. s.0) y in
        subst (λ z. ArmFollows (roll-Arm z)) is
        (follows-same
        (fold-roll-Arm Mentioning Mentioning Mentioning Mentioning (mention.eqn_step vars known) (mention.arm_step vars known) (mention.body_step vars known) (mention.state_step vars known) step)
        (fold-roll-Arm Numbering Numbering Numbering Numbering (number.eqn_step vars known) (number.arm_step vars known) (number.body_step vars known) (number.state_step vars known) step)
        (fold-roll-Arm Size Size Size Size (sizes.eqn_step vars known) (sizes.arm_step vars known) (sizes.body_step vars known) (sizes.state_step vars known) step)
        (ap (λ (o : Outline). o.entries) (fold-roll-Arm Outline Outline Outline StateOutline defined.eqn_step defined.arm_step defined.body_step defined.state_step step))
        (fold-roll-Arm (List Spot) (List Spot) (List Spot) (List Spot) spot.eqn_step spot.arm_step spot.body_step spot.state_step step)
        (arm-layer y))

    body-case : (x : Body-F Eqn Arm Body State) (y : Body-F TheEqn TheArm TheBody TheState) → map-Body TheEqn TheArm TheBody TheState Eqn Arm Body State (λ e. e.0) (λ a. a.0) (λ b. b.0) (λ s. s.0) y ≡ x → BodyFollows (roll-Body x)
    unfolding eqn_mentions arm_mentions body_mentions state_mentions eqn_numbering arm_numbering body_numbering state_numbering eqn_size arm_size body_size state_size eqn_outline arm_outline body_outline state_outline eqn_spots arm_spots body_spots state_spots
    body-case x y is =
        let step = map-Body TheEqn TheArm TheBody TheState Eqn Arm Body State (λ e. e.0) (λ a. a.0) (λ b. b.0) (λ s. s.0) y in
        subst (λ z. BodyFollows (roll-Body z)) is
        (follows-same
        (fold-roll-Body Mentioning Mentioning Mentioning Mentioning (mention.eqn_step vars known) (mention.arm_step vars known) (mention.body_step vars known) (mention.state_step vars known) step)
        (fold-roll-Body Numbering Numbering Numbering Numbering (number.eqn_step vars known) (number.arm_step vars known) (number.body_step vars known) (number.state_step vars known) step)
        (fold-roll-Body Size Size Size Size (sizes.eqn_step vars known) (sizes.arm_step vars known) (sizes.body_step vars known) (sizes.state_step vars known) step)
        (ap (λ (o : Outline). o.entries) (fold-roll-Body Outline Outline Outline StateOutline defined.eqn_step defined.arm_step defined.body_step defined.state_step step))
        (fold-roll-Body (List Spot) (List Spot) (List Spot) (List Spot) spot.eqn_step spot.arm_step spot.body_step spot.state_step step)
        (body-layer y))

    state-case : (x : State-F Eqn Arm Body State) (y : State-F TheEqn TheArm TheBody TheState) → map-State TheEqn TheArm TheBody TheState Eqn Arm Body State (λ e. e.0) (λ a. a.0) (λ b. b.0) (λ s. s.0) y ≡ x → StateFollows (roll-State x)
    unfolding eqn_mentions arm_mentions body_mentions state_mentions eqn_numbering arm_numbering body_numbering state_numbering eqn_size arm_size body_size state_size eqn_outline arm_outline body_outline state_outline eqn_spots arm_spots body_spots state_spots
    state-case x y is =
        let step = map-State TheEqn TheArm TheBody TheState Eqn Arm Body State (λ e. e.0) (λ a. a.0) (λ b. b.0) (λ s. s.0) y in
        subst (λ z. StateFollows (roll-State z)) is
        (follows-same
        (fold-roll-State Mentioning Mentioning Mentioning Mentioning (mention.eqn_step vars known) (mention.arm_step vars known) (mention.body_step vars known) (mention.state_step vars known) step)
        (fold-roll-State Numbering Numbering Numbering Numbering (number.eqn_step vars known) (number.arm_step vars known) (number.body_step vars known) (number.state_step vars known) step)
        (fold-roll-State Size Size Size Size (sizes.eqn_step vars known) (sizes.arm_step vars known) (sizes.body_step vars known) (sizes.state_step vars known) step)
        (ap (λ (o : StateOutline). o.outline.entries) (fold-roll-State Outline Outline Outline StateOutline defined.eqn_step defined.arm_step defined.body_step defined.state_step step))
        (fold-roll-State (List Spot) (List Spot) (List Spot) (List Spot) spot.eqn_step spot.arm_step spot.body_step spot.state_step step)
        (state-layer y))

    -- the mentions in an equation
    pub eqn-follows : (e : Eqn) → EqnFollows e
    eqn-follows = ind-Eqn EqnFollows ArmFollows BodyFollows StateFollows eqn-case arm-case body-case state-case

    -- in an arm, a body and a state
    pub arm-follows : (a : Arm) → ArmFollows a
    arm-follows = ind-Arm EqnFollows ArmFollows BodyFollows StateFollows eqn-case arm-case body-case state-case

    pub body-follows : (b : Body) → BodyFollows b
    body-follows = ind-Body EqnFollows ArmFollows BodyFollows StateFollows eqn-case arm-case body-case state-case

    pub state-follows : (s : State) → StateFollows s
    state-follows = ind-State EqnFollows ArmFollows BodyFollows StateFollows eqn-case arm-case body-case state-case
