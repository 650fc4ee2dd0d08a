-- How many parts there are, and the numbers of each kind, which are no more.
use Rattle.std.proofs.Common.{◌≡◌, ℕ, ◌+◌, ◌<◌, ◌≤◌, List, ◌∷◌, length, drop, get_or, sym, ap, ◌∙◌, arith}
use Rattle.std.proofs.lemmas.List.{length-append, drop_more}
use Rattle.zl_meaning.specs.declared.block.Block.{Block}
use Rattle.zl_meaning.specs.declared.block.Choice.{Choice}
use Rattle.zl_meaning.specs.declared.block.Auto.{Auto}
use Rattle.zl_meaning.specs.declared.place.PlaceInfo.{PlaceInfo}
use Rattle.zl_meaning.specs.declared.occurrence.Occ.{Occ}
use Rattle.zl_meaning.specs.declared.occurrence.SiteInfo.{SiteInfo}
use Rattle.zl_flat.specs.declared.given.Given.{Given}
use Rattle.zl_flat.specs.Parts.{Parts, nothing, joined, one_block, one_place, some_places, some_definers, one_occ, one_hidden, one_site, one_choice, one_automaton}
use Rattle.zl_flat.specs.Counted.{count}
use Rattle.zl_expand.specs.Room.{HasRoom}

-- ---- how many there are

pub count-nothing : count nothing ≡ 0
unfolding count nothing
count-nothing = omega arith

pub count-joined : (p q : Parts) → count (joined p q) ≡ count p + count q
unfolding count joined
count-joined p q =
    let a = length-append p.blocks q.blocks in
    let b = length-append p.places q.places in
    let c = length-append p.occs q.occs in
    let d = length-append p.hidden q.hidden in
    let e = length-append p.sites q.sites in
    let f = length-append p.choices q.choices in
    let g = length-append p.automata q.automata in
    omega (arith, a, b, c, d, e, f, g)

pub count-block : (x : Block) → count (one_block x) ≡ 1
unfolding count one_block
count-block x = omega arith

pub count-place : (x : PlaceInfo) → count (one_place x) ≡ 1
unfolding count one_place
count-place x = omega arith

pub count-places : (xs : List PlaceInfo) → count (some_places xs) ≡ length xs
unfolding count some_places
count-places xs = omega arith

pub count-definers : (xs : List Given) → count (some_definers xs) ≡ 0
unfolding count some_definers
count-definers xs = omega arith

pub count-occ : (x : Occ) → count (one_occ x) ≡ 1
unfolding count one_occ
count-occ x = omega arith

pub count-hidden : (x : Occ) → count (one_hidden x) ≡ 1
unfolding count one_hidden
count-hidden x = omega arith

pub count-site : (x : SiteInfo) → count (one_site x) ≡ 1
unfolding count one_site
count-site x = omega arith

pub count-choice : (x : Choice) → count (one_choice x) ≡ 1
unfolding count one_choice
count-choice x = omega arith

pub count-automaton : (x : Auto) → count (one_automaton x) ≡ 1
unfolding count one_automaton
count-automaton x = omega arith

-- ---- of one kind there are no more

pub fewer-blocks : (p : Parts) → length p.blocks ≤ count p
unfolding count
fewer-blocks p = omega arith

pub fewer-places : (p : Parts) → length p.places ≤ count p
unfolding count
fewer-places p = omega arith

pub fewer-occs : (p : Parts) → length p.occs ≤ count p
unfolding count
fewer-occs p = omega arith

pub fewer-hidden : (p : Parts) → length p.hidden ≤ count p
unfolding count
fewer-hidden p = omega arith

pub fewer-sites : (p : Parts) → length p.sites ≤ count p
unfolding count
fewer-sites p = omega arith

pub fewer-choices : (p : Parts) → length p.choices ≤ count p
unfolding count
fewer-choices p = omega arith

pub fewer-automata : (p : Parts) → length p.automata ≤ count p
unfolding count
fewer-automata p = omega arith

pub ruleset room_laws = (count-nothing, count-joined, count-block, count-place, count-places, count-definers, count-occ, count-hidden, count-site, count-choice, count-automaton, fewer-blocks, fewer-places, fewer-occs, fewer-hidden, fewer-sites, fewer-choices, fewer-automata)

-- ---- room

module _ (d base : ℕ) where
  -- where there is room for two parts, there is for the first, and for the second behind it
  pub room-first : (out p q : Parts) → HasRoom d base out (joined p q) → HasRoom d base out p
  room-first out p q h = let e = count-joined p q in omega (arith, e, h)

  pub room-second : (out o p q : Parts) → o ≡ joined out p → HasRoom d base out (joined p q) → HasRoom d base o q
  room-second out o p q is h =
      let e = count-joined p q in
      let f : count o ≡ count out + count p = ap count is ∙ count-joined out p in
      omega (arith, e, f, h)

  -- where something stands before or behind it, a part has room one deeper
  pub room-deeper : (out p q : Parts) → 0 < count q → HasRoom d base out (joined p q) → HasRoom (d + 1) base out p
  room-deeper out p q some h = let e = count-joined p q in omega (arith, e, some, h)

  -- what is left of some parts has room where all have
  pub room-left : (first out whole rest : Parts) → joined out rest ≡ joined first whole → count first ≤ count out → HasRoom d base first whole → HasRoom d base out rest
  room-left first out whole rest same more h =
      let e : count out + count rest ≡ count first + count whole = sym (count-joined out rest) ∙ ap count same ∙ count-joined first whole in
      omega (arith, e, more, h)

  -- so has what is made for those of a list from the i-th on, the first of them and what is made behind it
  pub room-turn : {A : Type 0} (make : List A → Parts) (xs : List A) (i : ℕ) (x : A) (first out whole : Parts) → i < length xs → x ≡ get_or xs i x → joined out (make (drop i xs)) ≡ joined first whole → count first ≤ count out → HasRoom d base first whole → HasRoom d base out (make (x ∷ drop (i + 1) xs))
  room-turn make xs i x first out whole lt is same more h =
      let step : make (drop i xs) ≡ make (x ∷ drop (i + 1) xs) = ap make (drop_more xs i x lt) ∙ ap (λ y. make (y ∷ drop (i + 1) xs)) (sym is) in
      room-left first out whole (make (x ∷ drop (i + 1) xs)) (ap (joined out) (sym step) ∙ same) more h
