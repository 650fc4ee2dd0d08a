-- The links to the hub and from it.
use Rattle.std.proofs.Common.{◌≡◌, ◌⊎◌, inl, inr, ℕ, ◌+◌, ◌<◌, ◌≤◌, Bool, true, false, List, [], ◌∷◌, ◌++◌, get_or, refl, sym, subst, arith}
use Rattle.std.proofs.lemmas.Bool.{cases_lt}
use Rattle.zl_value.specs.Lists.{Has}
use Rattle.zl_meaning.proofs.Members.{has-left, has-right, has-cases, has-none, has-append_case}
use Rattle.zl_graph.specs.declared.graph.Link.{Link}
use Rattle.zl_causal.specs.declared.node.Node.TheVariants.{Place, Block, Hub}
use Rattle.zl_causal.specs.Nodes.{number_of, link_of}
use Rattle.zl_causal.specs.Refused.{ToHub, FromHub, HasBlocks, HasPlaces, IsBlockAdded}

this_one : (xs : List Link) (x : Link) → Has (xs ++ x ∷ []) x
this_one xs x = has-right xs (x ∷ []) x (record { index = 0; is = refl })

is_this : (x l : Link) → Has (x ∷ []) l → l ≡ x
is_this x l h = has-cases (l ≡ x) x [] l h (λ e. sym e) (λ g. absurd (has-none l g))

later_block : (marks : List Bool) (n : ℕ) (l : Link) → ToHub marks n l → ToHub marks (n + 1) l
later_block marks n l h = record { block = h.block; within = omega (arith, h.within); marked = h.marked; is = h.is }

at_last : (b n : ℕ) → b < n + 1 → (n ≤ b) → b ≡ n
at_last b n l g = omega (arith, l, g)

pub blocks_more : (marks : List Bool) (n : ℕ) (old new more : List Link) → HasBlocks marks n old new → IsBlockAdded marks n new more → HasBlocks marks (n + 1) old more
blocks_more marks n old new more h added = by_mark (get_or marks (number_of (Block n)) false) refl
  where
    link : Link
    link = link_of (Block n) Hub

    with : get_or marks (number_of (Block n)) false ≡ true → HasBlocks marks (n + 1) old (new ++ link ∷ [])
    with e = record {
      kept = λ l g. has-left new (link ∷ []) l (h.kept l g);
      marked = λ b l m. this b l m (cases_lt b n);
      only = λ l g. from l (has-append_case new (link ∷ []) l g);
    }
      where
        this : (b : ℕ) → b < n + 1 → get_or marks (number_of (Block b)) false ≡ true → (b < n) ⊎ (n ≤ b) → Has (new ++ link ∷ []) (link_of (Block b) Hub)
        this b l m (inl less) = has-left new (link ∷ []) (link_of (Block b) Hub) (h.marked b less m)
        this b l m (inr more) = subst (λ k. Has (new ++ link ∷ []) (link_of (Block k) Hub)) (sym (at_last b n l more)) (this_one new link)

        lift : (l : Link) → Has old l ⊎ ToHub marks n l → Has old l ⊎ ToHub marks (n + 1) l
        lift l (inl g) = inl g
        lift l (inr g) = inr (later_block marks n l g)

        from : (l : Link) → Has new l ⊎ Has (link ∷ []) l → Has old l ⊎ ToHub marks (n + 1) l
        from l (inl g) = lift l (h.only l g)
        from l (inr g) = inr (record { block = n; within = omega arith; marked = e; is = is_this link l g })

    without : get_or marks (number_of (Block n)) false ≡ false → HasBlocks marks (n + 1) old new
    without e = record {
      kept = h.kept;
      marked = λ b l m. this b l m (cases_lt b n);
      only = λ l g. lift l (h.only l g);
    }
      where
        this : (b : ℕ) → b < n + 1 → get_or marks (number_of (Block b)) false ≡ true → (b < n) ⊎ (n ≤ b) → Has new (link_of (Block b) Hub)
        this b l m (inl less) = h.marked b less m
        this b l m (inr more) =
            let there : get_or marks (number_of (Block n)) false ≡ true = subst (λ k. get_or marks (number_of (Block k)) false ≡ true) (at_last b n l more) m in
            absurd (cc (e, there))

        lift : (l : Link) → Has old l ⊎ ToHub marks n l → Has old l ⊎ ToHub marks (n + 1) l
        lift l (inl g) = inl g
        lift l (inr g) = inr (later_block marks n l g)

    by_mark : (b : Bool) → get_or marks (number_of (Block n)) false ≡ b → HasBlocks marks (n + 1) old more
    by_mark true e = subst (HasBlocks marks (n + 1) old) (sym (added.yes e)) (with e)
    by_mark false e = subst (HasBlocks marks (n + 1) old) (sym (added.no e)) (without e)

pub places_more : (n : ℕ) (old new : List Link) → HasPlaces n old new → HasPlaces (n + 1) old (new ++ link_of Hub (Place n) ∷ [])
places_more n old new h = record {
  kept = λ l g. has-left new (link_of Hub (Place n) ∷ []) l (h.kept l g);
  led = λ p l. this p l (cases_lt p n);
  only = λ l g. from l (has-append_case new (link_of Hub (Place n) ∷ []) l g);
}
  where
    this : (p : ℕ) → p < n + 1 → (p < n) ⊎ (n ≤ p) → Has (new ++ link_of Hub (Place n) ∷ []) (link_of Hub (Place p))
    this p l (inl less) = has-left new (link_of Hub (Place n) ∷ []) (link_of Hub (Place p)) (h.led p less)
    this p l (inr more) = subst (λ k. Has (new ++ link_of Hub (Place n) ∷ []) (link_of Hub (Place k))) (sym (at_last p n l more)) (this_one new (link_of Hub (Place n)))

    from : (l : Link) → Has new l ⊎ Has (link_of Hub (Place n) ∷ []) l → Has old l ⊎ FromHub l
    from l (inl g) = h.only l g
    from l (inr g) = inr (record { place = n; is = is_this (link_of Hub (Place n)) l g })
