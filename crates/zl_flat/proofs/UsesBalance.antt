-- What a walk's parts use weighs no more than what is their own: joined parts, and one part before others.
use Rattle.std.proofs.Common.{◌≡◌, ℕ, ◌+◌, ◌≤◌, List, ap, arith}
use Rattle.zl_meaning.specs.declared.block.Block.{Block}
use Rattle.zl_meaning.specs.declared.block.Choice.{Choice}
use Rattle.zl_meaning.specs.declared.block.Auto.{Auto}
use Rattle.zl_meaning.specs.declared.place.PlaceInfo.{PlaceInfo}
use Rattle.zl_meaning.specs.declared.occurrence.Form.{Form}
use Rattle.zl_meaning.specs.declared.occurrence.Form.TheVariants.{Result}
use Rattle.zl_meaning.specs.declared.occurrence.Occ.{Occ}
use Rattle.zl_meaning.specs.declared.occurrence.SiteInfo.{SiteInfo}
use Rattle.zl_flat.specs.declared.given.Given.{Given}
use Rattle.zl_flat.specs.Parts.{Parts, Counters, nothing, joined, one_block, one_place, some_places, some_definers, one_occ, one_hidden, one_site, one_choice, one_automaton, after, past_block, past_occ, past_hidden, past_site, past_choice, past_automaton}
use Rattle.zl_flat.proofs.PartsLaws.{after-block, after-occ, after-hidden, after-site, after-choice, after-automaton}
use Rattle.zl_flat.proofs.WellFormedParts.{Laws, Each, each-left, each-right, behind-block, behind-occ, behind-hidden, behind-site, behind-choice, behind-automaton}
use Rattle.zl_flat.proofs.UsesCount.{total, in_form, in_kind, in_moves, in_given, count, count-joined, owned, owned-joined}

-- a call weighs no less than its result does for a plain definer
abbrev pub Pays : (ℕ → ℕ) → (ℕ → ℕ) → ℕ → Form → Type 0
Pays v w n (Result x) = w x ≤ v n
Pays v w n form = Unit {0}

-- each call does
abbrev pub paying : (ℕ → ℕ) → (ℕ → ℕ) → Laws
paying v w = record {
  blocks = λ n x. Unit {0};
  places = λ n x. Unit {0};
  definers = λ n x. Unit {0};
  occs = λ n x. Pays v w n x.form;
  hidden = λ n x. Unit {0};
  sites = λ n x. Unit {0};
  choices = λ n x. Unit {0};
  automata = λ n x. Unit {0};
}

module _ (v w : ℕ → ℕ) (base : ℕ) where
  -- What the parts use, and what is owed beside, weighs no more than what is their own, and what is free from before.
  abbrev pub Owes : (free owed : ℕ) → Counters → Parts → Type 0
  Owes free owed s p = Each (paying v w) s p → count v w p + owed ≤ owned v base s p + free

  -- where less is owed, or more is free
  pub relax : (free owed more less : ℕ) (s : Counters) (p : Parts) → free + less ≤ more + owed → Owes free owed s p → Owes more less s p
  relax free owed more less s p le h pay = let a = h pay in omega (arith, le, a)

  -- parts one behind the other
  pub owes-joined : (free owed more further : ℕ) (s : Counters) (p q : Parts) → Owes free owed s p → Owes more further (after s p) q → Owes (free + more) (owed + further) s (joined p q)
  owes-joined free owed more further s p q h g pay =
      let a = h (each-left (paying v w) s p q pay) in
      let b = g (each-right (paying v w) s p q pay) in
      omega (arith, count-joined v w p q, owned-joined v base s p q, a, b)

  -- no parts
  pub owes-nothing : (n : ℕ) (s : Counters) → Owes n n s nothing
  unfolding nothing count owned
  owes-nothing n s pay = omega arith

  -- ---- one part alone

  -- what uses of a block alone weigh
  count-one_block : (x : Block) → count v w (one_block x) ≡ in_kind v x.kind
  unfolding one_block count
  count-one_block x = omega arith

  -- what uses of a place alone weigh
  count-one_place : (x : PlaceInfo) → count v w (one_place x) ≡ 0
  unfolding one_place count
  count-one_place x = omega arith

  -- what uses of places alone weigh
  count-some_places : (xs : List PlaceInfo) → count v w (some_places xs) ≡ 0
  unfolding some_places count
  count-some_places xs = omega arith

  -- what uses of definers alone weigh
  count-some_definers : (gs : List Given) → count v w (some_definers gs) ≡ total (in_given v w) gs
  unfolding some_definers count
  count-some_definers gs = omega arith

  -- what uses of an occurrence alone weigh
  count-one_occ : (x : Occ) → count v w (one_occ x) ≡ in_form v x.form
  unfolding one_occ count
  count-one_occ x = omega arith

  -- what uses of a hidden occurrence alone weigh
  count-one_hidden : (x : Occ) → count v w (one_hidden x) ≡ in_form v x.form
  unfolding one_hidden count
  count-one_hidden x = omega arith

  -- what uses of a site alone weigh
  count-one_site : (x : SiteInfo) → count v w (one_site x) ≡ v x.arg
  unfolding one_site count
  count-one_site x = omega arith

  -- what uses of a choice alone weigh
  count-one_choice : (x : Choice) → count v w (one_choice x) ≡ total v x.conds
  unfolding one_choice count
  count-one_choice x = omega arith

  -- what uses of an automaton alone weigh
  count-one_automaton : (x : Auto) → count v w (one_automaton x) ≡ total (in_moves v) x.states
  unfolding one_automaton count
  count-one_automaton x = omega arith

  -- what a block has of its own
  owned-one_block : (s : Counters) (x : Block) → owned v base s (one_block x) ≡ 0
  unfolding one_block owned
  owned-one_block s x = omega arith

  -- what an occurrence has of its own
  owned-one_occ : (s : Counters) (x : Occ) → owned v base s (one_occ x) ≡ v s.occs
  unfolding one_occ owned
  owned-one_occ s x = omega arith

  -- what a hidden occurrence has of its own
  owned-one_hidden : (s : Counters) (x : Occ) → owned v base s (one_hidden x) ≡ v (base + s.hidden)
  unfolding one_hidden owned
  owned-one_hidden s x = omega arith

  -- what a site has of its own
  owned-one_site : (s : Counters) (x : SiteInfo) → owned v base s (one_site x) ≡ 0
  unfolding one_site owned
  owned-one_site s x = omega arith

  -- what a choice has of its own
  owned-one_choice : (s : Counters) (x : Choice) → owned v base s (one_choice x) ≡ 0
  unfolding one_choice owned
  owned-one_choice s x = omega arith

  -- what an automaton has of its own
  owned-one_automaton : (s : Counters) (x : Auto) → owned v base s (one_automaton x) ≡ 0
  unfolding one_automaton owned
  owned-one_automaton s x = omega arith

  -- a place alone
  pub owes-one_place : (n : ℕ) (s : Counters) (x : PlaceInfo) → Owes n n s (one_place x)
  owes-one_place n s x pay = let e = count-one_place x in omega (arith, e)

  -- places alone
  pub owes-some_places : (n : ℕ) (s : Counters) (xs : List PlaceInfo) → Owes n n s (some_places xs)
  owes-some_places n s xs pay = let e = count-some_places xs in omega (arith, e)

  -- definers, which use what is free
  pub owes-some_definers : (n : ℕ) (s : Counters) (gs : List Given) → Owes (total (in_given v w) gs + n) n s (some_definers gs)
  owes-some_definers n s gs pay = let e = count-some_definers gs in omega (arith, e)

  -- an occurrence without parts
  pub owes-one_occ : (s : Counters) (x : Occ) → in_form v x.form ≡ 0 → Owes 0 (v s.occs) s (one_occ x)
  owes-one_occ s x h pay = let e = count-one_occ x in let o = owned-one_occ s x in omega (arith, e, o, h)

  -- ---- one part before others

  -- of two parts, where the first is one alone
  before : (s t : Counters) (p q : Parts) (own free owed : ℕ) → after s p ≡ t → owned v base s p ≡ own → count v w q + (count v w p + owed) ≤ owned v base t q + free → count v w (joined p q) + (own + owed) ≤ owned v base s (joined p q) + free
  before s t p q own free owed e o h =
      let c = count-joined v w p q in
      let g = owned-joined v base s p q in
      let i = ap (λ u. owned v base u q) e in
      omega (arith, c, g, i, o, h)

  -- a block before others
  pub owes-block : (free owed : ℕ) (s : Counters) (x : Block) (q : Parts) → Owes free (in_kind v x.kind + owed) (past_block s) q → Owes free owed s (joined (one_block x) q)
  owes-block free owed s x q h pay =
      let e = count-one_block x in
      let b = h (behind-block (paying v w) s x q pay).1 in
      let a = before s (past_block s) (one_block x) q 0 free owed (after-block s x) (owned-one_block s x) (omega (arith, e, b)) in
      omega (arith, a)

  -- an occurrence before others: it is their own
  pub owes-occ : (free owed : ℕ) (s : Counters) (x : Occ) (q : Parts) → (Pays v w s.occs x.form → Owes free (in_form v x.form + owed) (past_occ s) q) → Owes free (v s.occs + owed) s (joined (one_occ x) q)
  owes-occ free owed s x q h pay =
      let e = count-one_occ x in
      let both = behind-occ (paying v w) s x q pay in
      let b = h both.0 both.1 in
      before s (past_occ s) (one_occ x) q (v s.occs) free owed (after-occ s x) (owned-one_occ s x) (omega (arith, e, b))

  -- a hidden occurrence before others: it is their own
  pub owes-hidden : (free owed : ℕ) (s : Counters) (x : Occ) (q : Parts) → Owes free (in_form v x.form + owed) (past_hidden s) q → Owes free (v (base + s.hidden) + owed) s (joined (one_hidden x) q)
  owes-hidden free owed s x q h pay =
      let e = count-one_hidden x in
      let b = h (behind-hidden (paying v w) s x q pay).1 in
      before s (past_hidden s) (one_hidden x) q (v (base + s.hidden)) free owed (after-hidden s x) (owned-one_hidden s x) (omega (arith, e, b))

  -- a site before others
  pub owes-site : (free owed : ℕ) (s : Counters) (x : SiteInfo) (q : Parts) → Owes free (v x.arg + owed) (past_site s) q → Owes free owed s (joined (one_site x) q)
  owes-site free owed s x q h pay =
      let e = count-one_site x in
      let b = h (behind-site (paying v w) s x q pay).1 in
      let a = before s (past_site s) (one_site x) q 0 free owed (after-site s x) (owned-one_site s x) (omega (arith, e, b)) in
      omega (arith, a)

  -- a choice before others
  pub owes-choice : (free owed : ℕ) (s : Counters) (x : Choice) (q : Parts) → Owes free (total v x.conds + owed) (past_choice s) q → Owes free owed s (joined (one_choice x) q)
  owes-choice free owed s x q h pay =
      let e = count-one_choice x in
      let b = h (behind-choice (paying v w) s x q pay).1 in
      let a = before s (past_choice s) (one_choice x) q 0 free owed (after-choice s x) (owned-one_choice s x) (omega (arith, e, b)) in
      omega (arith, a)

  -- an automaton before others
  pub owes-automaton : (free owed : ℕ) (s : Counters) (x : Auto) (q : Parts) → Owes free (total (in_moves v) x.states + owed) (past_automaton s) q → Owes free owed s (joined (one_automaton x) q)
  owes-automaton free owed s x q h pay =
      let e = count-one_automaton x in
      let b = h (behind-automaton (paying v w) s x q pay).1 in
      let a = before s (past_automaton s) (one_automaton x) q 0 free owed (after-automaton s x) (owned-one_automaton s x) (omega (arith, e, b)) in
      omega (arith, a)
