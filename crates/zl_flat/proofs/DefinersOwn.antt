-- The definers of a copy's own variables: by which names, and in which blocks.
use Rattle.std.proofs.Common.{◌≡◌, ℕ, ◌+◌, ◌<◌, ◌≤◌, Bool, List, [], ◌∷◌, slice_get, Option, Some, refl, sym, ap, subst, ◌∙◌, arith}
use Rattle.std.specs.List.{AllByRecursion}
use Rattle.std.specs.Option.{option_map, option_and_then}
use Rattle.zl_ast.specs.NamesDefined.{Outline}
use Rattle.zl_meaning.specs.FlatForm.{FlatForm, kind_of, place_call, IsWithin, Same, Inside}
use Rattle.zl_meaning.specs.Single.{AreBodies, AreApart, definer_block, is_start}
use Rattle.zl_meaning.specs.declared.block.Block.{Block}
use Rattle.zl_meaning.specs.declared.block.BlockKind.{BlockKind}
use Rattle.zl_meaning.specs.declared.block.Choice.{Choice}
use Rattle.zl_meaning.specs.declared.block.Auto.{Auto}
use Rattle.zl_flat.specs.declared.variable.Variable.{Variable}
use Rattle.zl_flat.specs.declared.here.Here.{Here}
use Rattle.zl_flat.specs.declared.given.Given.{Given}
use Rattle.zl_flat.specs.Parts.{Parts, Counters, joined, one_block, some_definers, one_choice, one_automaton, past_block, past_choice, past_automaton}
use Rattle.zl_flat.specs.Variables.{variable_of}
use Rattle.zl_flat.specs.Instances.{Instance, inner_block}
use Rattle.zl_flat.proofs.PartsLaws.{after-block, after-choice, after-automaton}
use Rattle.zl_flat.proofs.WellFormedParts.{behind-block}
use Rattle.zl_flat.proofs.WellFormedGround.{standing}
use Rattle.zl_flat.proofs.DefinersOutlines.{HasName}
use Rattle.zl_flat.proofs.DefinersSpread.{Clear, Spaced, Comes, Own, Never, Defines, spread-more, defines-flat, never-first}

-- ---- blocks

-- a block inside one that is inside another
within-inside : (f : FlatForm) (a b c : ℕ) → IsWithin f a b → IsWithin f b c → IsWithin f a c
within-inside f a b c h Same = h
within-inside f a b c h (Inside inner parent e k) = Inside inner parent e (within-inside f a b parent h k)

-- a block that stands here
pub inner-within : (f : FlatForm) (b : ℕ) (kind : BlockKind) (hybrid : Bool) (here : Here) → slice_get f.blocks b ≡ Some (inner_block here kind hybrid) → IsWithin f here.block b
inner-within f b kind hybrid here h = Inside b here.block (ap (option_and_then (λ (block : Block). block.parent)) h) Same

-- it has its kind
pub inner-kind : (f : FlatForm) (b : ℕ) (kind : BlockKind) (hybrid : Bool) (here : Here) → slice_get f.blocks b ≡ Some (inner_block here kind hybrid) → kind_of f b ≡ Some kind
inner-kind f b kind hybrid here h = ap (option_map (λ (block : Block). block.kind)) h

-- block `b` stands in a body of this kind, with a number from `lo` on, before `hi`
pub record IsInBody (f : FlatForm) (kind : ℕ → BlockKind) (lo hi b : ℕ) : Type 0 where
  pub body : ℕ
  pub number : ℕ
  pub low : lo ≤ number
  pub high : number < hi
  pub kind_is : kind_of f body ≡ Some (kind number)
  pub holds : IsWithin f body b

-- blocks in two bodies of different numbers are apart
bodies-apart : (f : FlatForm) (kind : ℕ → BlockKind) → ((m n : ℕ) → (m ≡ n → ⊥) → AreBodies (kind m) (kind n)) → (lo mid hi a b : ℕ) → IsInBody f kind lo mid a → IsInBody f kind mid hi b → AreApart f a b
bodies-apart f kind bodies lo mid hi a b h k =
    let high = h.high in
    let low = k.low in
    record {
      left = h.body;
      right = k.body;
      left_kind = kind h.number;
      right_kind = kind k.number;
      left_is = h.kind_is;
      right_is = k.kind_is;
      bodies = bodies h.number k.number (λ e. omega (arith, high, low, e));
      left_holds = h.holds;
      right_holds = k.holds;
    }

-- ---- own definers

-- the places of the variables of a copy have its call, and are different
pub record ArePlaced (f : FlatForm) (i : Instance) (call : Option ℕ) : Type 0 where
  pub called : (id : ℕ) (v : Variable) → variable_of i.variables id ≡ Some v → place_call f v.place ≡ call
  pub differ : (a b : ℕ) (v w : Variable) → variable_of i.variables a ≡ Some v → variable_of i.variables b ≡ Some w → v.place ≡ w.place → a ≡ b

-- a definer of a variable by a name of this outline, in block `b` or inside it
pub record IsOwn (f : FlatForm) (i : Instance) (o : Outline) (b : ℕ) (g : Given) : Type 0 where
  pub id : ℕ
  pub variable : Variable
  pub is : variable_of i.variables id ≡ Some variable
  pub place : g.place ≡ variable.place
  pub named : HasName o (is_start g.definer) id
  pub within : IsWithin f b (definer_block g.definer)

-- one that stands in a body of this kind
pub record IsOwnInBody (f : FlatForm) (i : Instance) (o : Outline) (b : ℕ) (kind : ℕ → BlockKind) (lo hi : ℕ) (g : Given) : Type 0 where
  pub own : IsOwn f i o b g
  pub inside : IsInBody f kind lo hi (definer_block g.definer)

module _ (f : FlatForm) (i : Instance) where
  -- a definer by a name of one outline is one by a name of another that has its names
  pub own-named : (o p : Outline) → ((started : Bool) (id : ℕ) → HasName o started id → HasName p started id) → (b : ℕ) (g : Given) → IsOwn f i o b g → IsOwn f i p b g
  own-named o p more b g h = record { id = h.id; variable = h.variable; is = h.is; place = h.place; named = more (is_start g.definer) h.id h.named; within = h.within }

  -- a definer inside a block is inside one around it
  pub own-wider : (o : Outline) (b c : ℕ) → IsWithin f b c → (g : Given) → IsOwn f i o c g → IsOwn f i o b g
  own-wider o b c le g h = record { id = h.id; variable = h.variable; is = h.is; place = h.place; named = h.named; within = within-inside f b c (definer_block g.definer) le h.within }

  -- a definer in a body, by more names and in a wider range of bodies
  pub body-named : (o p : Outline) → ((started : Bool) (id : ℕ) → HasName o started id → HasName p started id) → (b : ℕ) (kind : ℕ → BlockKind) (lo hi lo2 hi2 : ℕ) → lo2 ≤ lo → hi ≤ hi2 → (g : Given) → IsOwnInBody f i o b kind lo hi g → IsOwnInBody f i p b kind lo2 hi2 g
  body-named o p more b kind lo hi lo2 hi2 le le2 g h =
      let inside = h.inside in
      let low = inside.low in
      let high = inside.high in
      record {
        own = own-named o p more b g h.own;
        inside = record { body = inside.body; number = inside.number; low = omega (arith, le, low); high = omega (arith, le2, high); kind_is = inside.kind_is; holds = inside.holds };
      }

  -- definers by names of which none is defined in one way in both outlines
  pub own-clear : (call : Option ℕ) → ArePlaced f i call → (o p : Outline) (b c : ℕ) → ((started : Bool) (id : ℕ) → HasName o started id → HasName p started id → ⊥) → (g h : Given) → IsOwn f i o b g → IsOwn f i p c h → Clear f g h
  own-clear call placed o p b c apart g h j k e starts =
      let same = placed.differ j.id k.id j.variable k.variable j.is k.is (sym j.place ∙ e ∙ k.place) in
      absurd (apart (is_start g.definer) j.id j.named (subst (λ n. HasName p (is_start g.definer) n) (sym same) (subst (λ x. HasName p x k.id) (sym starts) k.named)))

  -- definers in two bodies of different numbers are clear of each other
  pub bodies-clear : (kind : ℕ → BlockKind) → ((m n : ℕ) → (m ≡ n → ⊥) → AreBodies (kind m) (kind n)) → (o p : Outline) (b lo mid hi : ℕ) (g h : Given) → IsOwnInBody f i o b kind lo mid g → IsOwnInBody f i p b kind mid hi h → Clear f g h
  bodies-clear kind bodies o p b lo mid hi g h j k e starts = bodies-apart f kind bodies lo mid hi (definer_block g.definer) (definer_block h.definer) j.inside k.inside

-- parts of these kinds hold no definers
block-free : (x : Block) → (one_block x).definers ≡ []
unfolding one_block
block-free x = refl

choice-free : (x : Choice) → (one_choice x).definers ≡ []
unfolding one_choice
choice-free x = refl

automaton-free : (x : Auto) → (one_automaton x).definers ≡ []
unfolding one_automaton
automaton-free x = refl

module _ (f : FlatForm) (base : ℕ) where
  -- definers of which less is known
  pub defines-more : (call : Option ℕ) (P Q : Given → Type 0) (s : Counters) (p : Parts) → ((g : Given) → P g → Q g) → Defines f base call P s p → Defines f base call Q s p
  defines-more call P Q s p more h before sits = spread-more f call P Q s p more (h before sits)

  -- a choice, or an automaton, and what is made behind it
  pub defines-choice : (call : Option ℕ) (P : Given → Type 0) (s : Counters) (x : Choice) (q : Parts) → Defines f base call P (past_choice s) q → Defines f base call P s (joined (one_choice x) q)
  defines-choice call P s x q h = never-first f base call P s (one_choice x) q (defines-flat f base call Never s (one_choice x) (choice-free x)) (subst (λ t. Defines f base call P t q) (sym (after-choice s x)) h)

  pub defines-automaton : (call : Option ℕ) (P : Given → Type 0) (s : Counters) (x : Auto) (q : Parts) → Defines f base call P (past_automaton s) q → Defines f base call P s (joined (one_automaton x) q)
  defines-automaton call P s x q h = never-first f base call P s (one_automaton x) q (defines-flat f base call Never s (one_automaton x) (automaton-free x)) (subst (λ t. Defines f base call P t q) (sym (after-automaton s x)) h)

  -- a block, and what is made behind it where it stands in the form
  pub defines-block : (call : Option ℕ) (P : Given → Type 0) (s : Counters) (x : Block) (q : Parts) → (slice_get f.blocks s.blocks ≡ Some x → Defines f base call P (past_block s) q) → Defines f base call P s (joined (one_block x) q)
  defines-block call P s x q h before sits =
      never-first f base call P s (one_block x) q (defines-flat f base call Never s (one_block x) (block-free x))
      (subst (λ t. Defines f base call P t q) (sym (after-block s x)) (h (behind-block (standing f base) s x q sits).0)) before sits

  -- definers alone: own ones, that are clear of each other
  pub defines-definers : (call : Option ℕ) (P : Given → Type 0) (s : Counters) (xs : List Given) → AllByRecursion (λ g. (place_call f g.place ≡ call) × P g) xs → Spaced f xs → Defines f base call P s (some_definers xs)
  unfolding some_definers
  defines-definers call P s xs h spaced before sits = record { each = all-own xs h; spaced = spaced }
    where
      all-own : (ys : List Given) → AllByRecursion (λ g. (place_call f g.place ≡ call) × P g) ys → AllByRecursion (Comes f call P s.occs (s.occs + 0)) ys
      all-own [] h = tt
      all-own (y ∷ ys) h = (Own h.0.0 h.0.1, all-own ys h.1)

-- ---- folds

-- what holds of the steps of two folds holds of the folds
pub of-both : {A B : Type 0} (R : A → B → Type 0) (a a2 : A) (b b2 : B) → a ≡ a2 → b ≡ b2 → R a2 b2 → R a b
of-both R a a2 b b2 e g h = subst (λ x. R x b) (sym e) (subst (R a2) (sym g) h)
