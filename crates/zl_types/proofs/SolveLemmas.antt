-- Properties of equalities and variables that are taken one by one.
use Rattle.std.proofs.Common.{◌≡◌, ℕ, ◌+◌, ◌<◌, List, [], ◌∷◌, ◌++◌, length, map, get_or, take, drop, Option, Some, None, refl, sym, ◌∙◌, ap, subst, append_assoc, arith}
use Rattle.std.specs.List.{AllByRecursion}
use Rattle.std.proofs.lemmas.List.{take_more, take_all, take-append-drop, at_drop_more, map-append}
use Rattle.zl_value.specs.declared.position.Pos.{Pos}
use Rattle.zl_value.specs.declared.value.Ty.{Ty}
use Rattle.zl_value.specs.declared.value.Ty.TheVariants as ty
use Rattle.zl_value.specs.declared.rule.Refusal.{Refusal}
use Rattle.zl_value.specs.declared.rule.Refusal.TheVariants.{Broken, Memory}
use Rattle.zl_ast.specs.declared.scope.VarInfo.{VarInfo}
use Rattle.zl_ast.specs.declared.constraint.Equality.{Equality}
use Rattle.zl_ast.specs.Assignments.{Meets, HasType, HasOneType, HasTwoTypes, IsOpen, HaveTypes, end, next, HaveTypesInEach, end_of_all, next_of_all, joined, variable_places, IsTyping, IsUntyped, IsUntypedBy}
use Rattle.zl_types.specs.declared.classes.Classes.{Classes}
use Rattle.zl_types.specs.Classes.{IsSound, Represents, Meeting, CanBe, IsTypeAt}
use Rattle.zl_types.specs.Solving.{IsUnmetBy, IsUntypedAt, IsTyped, IsOpenBy, TypesEach}
use Rattle.zl_types.proofs.ClassesModels.{assigned, assigned-fits}

-- Lists.

all_before : {X : Type 0} (P : X → Type 0) (xs ys : List X) → AllByRecursion P (xs ++ ys) → AllByRecursion P xs
all_before P [] ys h = tt
all_before P (x ∷ xs) ys h = (h.0, all_before P xs ys h.1)

all_last : {X : Type 0} (P : X → Type 0) (xs : List X) (y : X) → AllByRecursion P (xs ++ y ∷ []) → P y
all_last P [] y h = h.0
all_last P (x ∷ xs) y h = all_last P xs y h.1

all_both : {X : Type 0} (P : X → Type 0) (xs ys : List X) → AllByRecursion P xs → AllByRecursion P ys → AllByRecursion P (xs ++ ys)
all_both P [] ys h k = k
all_both P (x ∷ xs) ys h k = (h.0, all_both P xs ys h.1 k)

around : {X : Type 0} (xs : List X) (i : ℕ) (d : X) → i < length xs → xs ≡ take i xs ++ get_or xs i d ∷ drop (i + 1) xs
around xs i d below = sym (take-append-drop i xs) ∙ at_drop_more (λ ys. take i xs ++ ys) xs i d below

-- Equalities.

pub represents_more : (es : List Equality) (i : ℕ) (d : Equality) (old new : Classes) → i < length es → Represents (take i es) old → Meeting (get_or es i d) old new
    → Represents (take (i + 1) es) new
represents_more es i d old new below r m =
    subst (λ xs. Represents xs new) (sym (take_more es i d below))
    (record {
      fits = λ a s. m.fits a (r.fits a (all_before (λ e. Meets a e) (take i es) (get_or es i d ∷ []) s)) (all_last (λ e. Meets a e) (take i es) (get_or es i d) s);
      solves = λ a f. all_both (λ e. Meets a e) (take i es) (get_or es i d ∷ []) (r.solves a (m.fits_back a f)) (m.meets a f, tt);
    })

pub represents_all : (es : List Equality) (i : ℕ) (c : Classes) → length es ≡ i → Represents (take i es) c → Represents es c
represents_all es i c e r = subst (λ xs. Represents xs c) (take_all i es (omega (arith, e))) r

pub refused_equality : (es : List Equality) (i : ℕ) (d : Equality) (c : Classes) (r : Refusal) → i < length es → IsSound c → Represents (take i es) c
    → IsUnmetBy (get_or es i d) c r → (vars : List (List VarInfo)) → IsUntypedBy es vars r
refused_equality es i d c Memory below sound represents unmet vars = tt
refused_equality es i d c (Broken r at) below sound represents (is_clash, place, clashes) vars =
    subst (λ r. IsUntyped es vars r at) (sym is_clash)
    (record {
      before = take i es;
      one = get_or es i d;
      behind = drop (i + 1) es;
      parts = around es i d below;
      place_of_one = place;
      solution = assigned c ty.Bool;
      meets_before = represents.solves (assigned c ty.Bool) (assigned-fits c ty.Bool sound);
      none = λ a s. clashes a (represents.fits a (all_before (λ e. Meets a e) (take i es) (get_or es i d ∷ []) s)) (all_last (λ e. Meets a e) (take i es) (get_or es i d) s);
    })

-- Variables.

pub has_type : (es : List Equality) (place : Pos) (old new : Classes) (t : Ty) → IsTyped place old new t → Represents es old → HasType es place t
has_type es place old new t typed r a s = typed.closed a (typed.fits a (r.fits a s))

pub represents_typed : (es : List Equality) (place : Pos) (old new : Classes) (t : Ty) → IsTyped place old new t → Represents es old → Represents es new
represents_typed es place old new t typed r =
    record { fits = λ a s. typed.fits a (r.fits a s); solves = λ a f. r.solves a (typed.fits_back a f) }

have_one_more : (es : List Equality) (v : VarInfo) (t : Ty) {vs : List VarInfo} {ts : List Ty} → HaveTypes es vs ts → HasType es v.at t → HaveTypes es (vs ++ v ∷ []) (ts ++ t ∷ [])
have_one_more es v t end h = next h end
have_one_more es v t (next k ks) h = next k (have_one_more es v t ks h)

pub have_more : (es : List Equality) (vs : List VarInfo) (i : ℕ) (d : VarInfo) (ts : List Ty) (t : Ty) → i < length vs → HaveTypes es (take i vs) ts
    → HasType es (get_or vs i d).at t → HaveTypes es (take (i + 1) vs) (ts ++ t ∷ [])
have_more es vs i d ts t below h one = subst (λ xs. HaveTypes es xs (ts ++ t ∷ [])) (sym (take_more vs i d below)) (have_one_more es (get_or vs i d) t h one)

all_closed : (es : List Equality) {vs : List VarInfo} {ts : List Ty} → HaveTypes es vs ts → AllByRecursion (HasOneType es) (map (λ v. v.at) vs)
all_closed es end = tt
all_closed es (next {t = t} h hs) = (record { type = t; has_type = h }, all_closed es hs)

two_types : (es : List Equality) (place : Pos) (c : Classes) → Represents es c → ((t : Ty) → CanBe c place t) → HasTwoTypes es place
two_types es place c r can =
    let one = can ty.Bool in
    let other = can ty.Int in
    record {
      one = one.assignment;
      other = other.assignment;
      one_solves = r.solves one.assignment one.fits;
      other_solves = r.solves other.assignment other.fits;
      differ = λ e. let clash : ty.Bool ≡ ty.Int = sym one.is ∙ e ∙ other.is in absurd (cc);
    }

pub refused_variable : (es : List Equality) (vs : List VarInfo) (i : ℕ) (d : VarInfo) (ts : List Ty) (c : Classes) (r : Refusal) → i < length vs
    → IsSound c → Represents es c → HaveTypes es (take i vs) ts → IsUntypedAt (get_or vs i d).at c r → IsOpenBy es (map (λ v. v.at) vs) r
refused_variable es vs i d ts c Memory below sound represents have untyped = tt
refused_variable es vs i d ts c (Broken r at) below sound represents have (is_open, place, can) = (
  is_open,
  record {
    solution = assigned c ty.Bool;
    solves = represents.solves (assigned c ty.Bool) (assigned-fits c ty.Bool sound);
    before = map (λ v. v.at) (take i vs);
    behind = map (λ v. v.at) (drop (i + 1) vs);
    parts = ap (map (λ v. v.at)) (around vs i d below) ∙ map-append (λ v. v.at) (take i vs) (get_or vs i d ∷ drop (i + 1) vs)
        ∙ ap (λ p. map (λ v. v.at) (take i vs) ++ p ∷ map (λ v. v.at) (drop (i + 1) vs)) (sym place);
    closed_before = all_closed es have;
    has_two = subst (HasTwoTypes es) (sym place) (two_types es (get_or vs i d).at c represents can);
  },
)

-- Declarations.

have_one_more_each : (es : List Equality) (vs : List VarInfo) (ts : List Ty) {vss : List (List VarInfo)} {tss : List (List Ty)} → HaveTypesInEach es vss tss → HaveTypes es vs ts
    → HaveTypesInEach es (vss ++ vs ∷ []) (tss ++ ts ∷ [])
have_one_more_each es vs ts end_of_all h = next_of_all h end_of_all
have_one_more_each es vs ts (next_of_all k ks) h = next_of_all k (have_one_more_each es vs ts ks h)

pub have_more_each : (es : List Equality) (vss : List (List VarInfo)) (i : ℕ) (vs : List VarInfo) (tss : List (List Ty)) (ts : List Ty) → i < length vss → vs ≡ get_or vss i vs
    → HaveTypesInEach es (take i vss) tss → HaveTypes es vs ts → HaveTypesInEach es (take (i + 1) vss) (tss ++ ts ∷ [])
have_more_each es vss i vs tss ts below is h one =
    subst (λ xs. HaveTypesInEach es xs (tss ++ ts ∷ [])) (sym (take_more vss i vs below ∙ ap (λ ys. take i vss ++ ys ∷ []) (sym is))) (have_one_more_each es vs ts h one)

all_closed_each : (es : List Equality) {vss : List (List VarInfo)} {tss : List (List Ty)} → HaveTypesInEach es vss tss → AllByRecursion (HasOneType es) (variable_places vss)
all_closed_each es end_of_all = tt
all_closed_each es (next_of_all {vs = vs} {vss = vss} h hs) =
    subst (AllByRecursion (HasOneType es)) (sym (map-append (λ v. v.at) vs (joined vss)))
    (all_both (HasOneType es) (map (λ v. v.at) vs) (variable_places vss) (all_closed es h) (all_closed_each es hs))

places-append : (xss yss : List (List VarInfo)) → variable_places (xss ++ yss) ≡ variable_places xss ++ variable_places yss
places-append [] yss = refl
places-append (xs ∷ xss) yss =
    map-append (λ v. v.at) xs (joined (xss ++ yss)) ∙ ap (λ ps. map (λ v. v.at) xs ++ ps) (places-append xss yss)
    ∙ sym (append_assoc (map (λ v. v.at) xs) (variable_places xss) (variable_places yss))
    ∙ ap (λ ps. ps ++ variable_places yss) (sym (map-append (λ v. v.at) xs (joined xss)))

-- the first open place of a part is that of the whole
open_in_whole : (es : List Equality) (whole front nodes back : List Pos) (at : Pos) → whole ≡ front ++ (nodes ++ back) → AllByRecursion (HasOneType es) front
    → IsOpen es nodes at → IsOpen es whole at
open_in_whole es whole front nodes back at is closed o =
    record {
      solution = o.solution;
      solves = o.solves;
      before = front ++ o.before;
      behind = o.behind ++ back;
      parts = is ∙ ap (λ ns. front ++ (ns ++ back)) o.parts ∙ ap (λ ns. front ++ ns) (append_assoc o.before (at ∷ o.behind) back)
          ∙ sym (append_assoc front o.before (at ∷ (o.behind ++ back)));
      closed_before = all_both (HasOneType es) front o.before closed o.closed_before;
      has_two = o.has_two;
    }

pub refused_declaration : (es : List Equality) (vss : List (List VarInfo)) (i : ℕ) (vs : List VarInfo) (tss : List (List Ty)) (r : Refusal) → i < length vss → vs ≡ get_or vss i vs
    → HaveTypesInEach es (take i vss) tss → IsOpenBy es (map (λ v. v.at) vs) r → IsOpenBy es (variable_places vss) r
refused_declaration es vss i vs tss Memory below is have open_here = tt
refused_declaration es vss i vs tss (Broken r at) below is have (is_open, open_here) =
    let whole : variable_places vss ≡ variable_places (take i vss) ++ (map (λ v. v.at) vs ++ variable_places (drop (i + 1) vss)) =
    ap variable_places (around vss i vs below ∙ ap (λ ys. take i vss ++ ys ∷ drop (i + 1) vss) (sym is))
    ∙ places-append (take i vss) (vs ∷ drop (i + 1) vss)
    ∙ ap (λ ps. variable_places (take i vss) ++ ps) (map-append (λ v. v.at) vs (joined (drop (i + 1) vss))) in
    (is_open, open_in_whole es (variable_places vss) (variable_places (take i vss)) (map (λ v. v.at) vs) (variable_places (drop (i + 1) vss)) at whole (all_closed_each es have) open_here)

-- The answer.

pub is_typing : (es : List Equality) (vss : List (List VarInfo)) (old new : Classes) (tss : List (List Ty)) → IsSound old → Represents es old → TypesEach vss old new tss → IsTyping es vss tss
is_typing es vss old new tss sound represents types =
    record {
      solution = assigned old ty.Bool;
      solves = represents.solves (assigned old ty.Bool) (assigned-fits old ty.Bool sound);
      types_of_variables = types.have es represents;
    }

pub is_untyped : (es : List Equality) (vss : List (List VarInfo)) (r : Refusal) → IsOpenBy es (variable_places vss) r → IsUntypedBy es vss r
is_untyped es vss Memory h = tt
is_untyped es vss (Broken r at) (is_open, open_here) = subst (λ r. IsUntyped es vss r at) (sym is_open) open_here

pub typed_at : (place : Pos) (old new : Classes) (found : Option Ty) (t : Ty) → IsTypeAt place old new found → found ≡ Some t → IsTyped place old new t
typed_at place old new found t h e = record { sound = h.sound; fits = h.fits; fits_back = h.fits_back; closed = h.closed t e }

pub untyped_at : (place : Pos) (old new : Classes) (found : Option Ty) → IsTypeAt place old new found → found ≡ None → (t : Ty) → CanBe old place t
untyped_at place old new found h e t =
    let can = h.any e t in
    record { assignment = can.assignment; fits = h.fits_back can.assignment can.fits; is = can.is }
