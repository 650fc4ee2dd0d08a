use Rattle.std.proofs.Common.{List, ◌++◌, ◌∷◌, [], cond, Some, ◌∙◌, ap, refl, rules}
use Rattle.zl_value.specs.declared.position.Pos.{Pos}
use Rattle.indexmap.specs.IndexMap.{get}
use Rattle.zl_init.specs.Marks.{key, is_key, places_of}
use Rattle.zl_init.proofs.FollowersLemmas.{added}
use Rattle.zl_init.proofs.followers.Followers.add.Goals as goal

pub returns-in-Some : goal.returns-in-Some
returns-in-Some c = added c.args.self.now (record { table = c.get_mut.follows.lender c.push.new.self }) c.args.leader c.args.follower c.push.new.self (get is_key c.args.self.now.table) (get is_key (c.get_mut.follows.lender c.push.new.self)) (λ q. refl) (λ q. refl) (c.in_ok-push.ensures.items ∙ ap (λ (xs : List Pos). xs ++ c.args.follower ∷ []) (ap places_of c.in-Some.ensures.value)) ((c.get_mut.follows.holds c.push.new.self).3 (search rules)).0

pub returns : goal.returns
returns c = added c.args.self.now (record { table = c.insert.new.self }) c.args.leader c.args.follower c.push-2.new.self (get is_key c.args.self.now.table) (get is_key c.insert.new.self) (λ q. refl) (λ q. refl) (c.in_ok-push-2.ensures.items ∙ ap (λ (xs : List Pos). xs ++ c.args.follower ∷ []) (c.new-places.ensures.items ∙ ap places_of c.in_default.ensures.value)) (λ k. c.in_ok-insert.ensures.updates.0 k ∙ ap (λ t. cond (is_key (key c.args.leader) k) (Some c.push-2.new.self) (get is_key t k)) c.get_mut.follows.holds-at-none)
