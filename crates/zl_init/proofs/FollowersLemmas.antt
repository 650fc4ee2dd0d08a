-- Properties of the table of followers.
use Rattle.std.proofs.Common.{◌≡◌, ℕ, Bool, true, false, cond, ◌∷◌, ◌++◌, [], Option, Some, ◌∙◌, ap, sym}
use Rattle.std.specs.Prelude.{Vec}
use Rattle.zl_value.specs.declared.position.Pos.{Pos}
use Rattle.zl_init.specs.declared.followers.Followers.{Followers}
use Rattle.zl_init.specs.Marks.{key, is_key, places_of, followers_at, with_follower}

-- the leader's list has one more, and the other lists are as they were
pub added : {A : Type 0} (old new : Followers) (leader follower : Pos) (v : Vec Pos A) (get_old get_new : ℕ × ℕ → Option (Vec Pos A))
    → ((q : Pos) → followers_at old q ≡ places_of (get_old (key q)))
    → ((q : Pos) → followers_at new q ≡ places_of (get_new (key q)))
    → v.items ≡ followers_at old leader ++ follower ∷ []
    → ((k : ℕ × ℕ) → get_new k ≡ cond (is_key (key leader) k) (Some v) (get_old k))
    → (q : Pos) → followers_at new q ≡ with_follower old leader follower q
added {A} old new leader follower v get_old get_new at_old at_new items updates q = at_new q ∙ ap (λ (o : Option (Vec Pos A)). places_of o) (updates (key q)) ∙ by_test (is_key (key leader) (key q))
  where
    by_test : (b : Bool) → places_of (cond b (Some v) (get_old (key q))) ≡ cond b (followers_at old leader ++ follower ∷ []) (followers_at old q)
    by_test true = items
    by_test false = sym (at_old q)
