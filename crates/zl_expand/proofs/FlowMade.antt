-- What a `fby` makes, step by step.
use Rattle.std.proofs.Common.{◌≡◌, ℕ, ◌+◌, List, length, sym, ap, ◌∙◌}
use Rattle.zl_value.specs.declared.position.Pos.{Pos}
use Rattle.zl_meaning.specs.declared.occurrence.Occ.{Occ}
use Rattle.zl_meaning.specs.declared.occurrence.Form.TheVariants.{Arrow, Pre}
use Rattle.zl_flat.specs.declared.here.Here.{Here}
use Rattle.zl_flat.specs.declared.here.Root.{Root}
use Rattle.zl_flat.specs.Parts.{Parts, Counters, joined, one_occ, one_hidden, after, past_occ, past_hidden}
use Rattle.zl_flat.specs.Instances.{Instance, occ_here}
use Rattle.zl_flat.specs.Expressions.{Walk, Walked, followed}
use Rattle.zl_expand.specs.Kept.{counters, unset_occ, with_occ, with_hidden}
use Rattle.zl_expand.proofs.PartsLaws.{joined-assoc, counters-joined, counters-hidden, after-occ, after-hidden, set-occ, set-hidden-behind, hidden-behind}

module _ (base : ℕ) (names : List (List ℕ)) (i : Instance) (here : Here) (at : Pos) (left right : Walk) (out o1 o2 o3 o4 o5 o6 : Parts) (l r : Root) (occ hidden pre : ℕ) (a b : Occ) where
  -- the left side, room for the occurrence and the hidden `pre`, and the right side
  pub record IsFollowed : Type 0 where
    pub left_made : o1 ≡ joined out (left here (counters out)).parts
    pub left_is : l ≡ (left here (counters out)).root
    pub occ_is : occ ≡ length o1.occs
    pub occ_left : o2 ≡ joined o1 (one_occ unset_occ)
    pub hidden_is : hidden ≡ length o2.hidden
    pub hidden_left : o3 ≡ joined o2 (one_hidden unset_occ)
    pub right_made : o4 ≡ joined o3 (right here (counters o3)).parts
    pub right_is : r ≡ (right here (counters o3)).root
    pub pre_is : pre ≡ base + hidden
    pub arrow_is : a ≡ occ_here here l.ty at (Arrow l.occ pre)
    pub occ_set : o5 ≡ with_occ o4 occ a
    pub before_is : b ≡ occ_here here l.ty at (Pre r.occ)
    pub hidden_set : o6 ≡ with_hidden o5 hidden b

  module _ (w : IsFollowed) where
    abbrev e : Walked
    e = left here (counters out)

    abbrev behind : Counters
    behind = after (counters out) e.parts

    c1 : counters o1 ≡ behind
    c1 = ap counters w.left_made ∙ counters-joined out e.parts

    c2 : counters o2 ≡ past_occ behind
    c2 = ap counters w.occ_left ∙ counters-joined o1 (one_occ unset_occ) ∙ after-occ (counters o1) unset_occ ∙ ap past_occ c1

    c3 : counters o3 ≡ past_hidden (past_occ behind)
    c3 = ap counters w.hidden_left ∙ counters-joined o2 (one_hidden unset_occ) ∙ after-hidden (counters o2) unset_occ ∙ ap past_hidden c2

    abbrev f : Walked
    f = right here (past_hidden (past_occ behind))

    same-right : right here (counters o3) ≡ f
    same-right = ap (right here) c3

    -- the hidden `pre` is the next of the hidden ones
    hidden-next : hidden ≡ length o1.hidden
    hidden-next = w.hidden_is ∙ ap (λ o. length o.hidden) w.occ_left ∙ hidden-behind o1 unset_occ

    pre-number : pre ≡ base + behind.hidden
    pre-number = w.pre_is ∙ ap (λ n. base + n) (hidden-next ∙ sym (counters-hidden o1) ∙ ap (λ s. s.hidden) c1)

    abbrev arrow_occ : Occ
    arrow_occ = occ_here here e.root.ty at (Arrow e.root.occ (base + behind.hidden))

    abbrev pre_occ : Occ
    pre_occ = occ_here here e.root.ty at (Pre f.root.occ)

    arrow-same : a ≡ arrow_occ
    arrow-same = w.arrow_is ∙ (λ t. occ_here here (w.left_is t).ty at (Arrow (w.left_is t).occ (pre-number t)))

    pre-same : b ≡ pre_occ
    pre-same = w.before_is ∙ (λ t. occ_here here (w.left_is t).ty at (Pre ((w.right_is ∙ ap (λ x. x.root) same-right) t).occ))

    -- what was made before the two occurrences were known
    unset : o4 ≡ joined o1 (joined (one_occ unset_occ) (joined (one_hidden unset_occ) f.parts))
    unset =
        w.right_made
        ∙ ap (λ x. joined o3 x.parts) same-right
        ∙ ap (λ o. joined o f.parts) (w.hidden_left ∙ ap (λ o. joined o (one_hidden unset_occ)) w.occ_left)
        ∙ joined-assoc (joined o1 (one_occ unset_occ)) (one_hidden unset_occ) f.parts
        ∙ joined-assoc o1 (one_occ unset_occ) (joined (one_hidden unset_occ) f.parts)

    pub followed-made : o6 ≡ joined out (followed base names i at left right here (counters out)).parts
    followed-made =
        w.hidden_set
        ∙ (λ t. with_hidden (w.occ_set t) hidden (pre-same t))
        ∙ (λ t. with_hidden (with_occ (unset t) occ (arrow-same t)) hidden pre_occ)
        ∙ ap (λ o. with_hidden o hidden pre_occ) (set-occ o1 (joined (one_hidden unset_occ) f.parts) unset_occ arrow_occ occ w.occ_is)
        ∙ set-hidden-behind o1 f.parts arrow_occ unset_occ pre_occ hidden hidden-next
        ∙ ap (λ o. joined o (joined (one_occ arrow_occ) (joined (one_hidden pre_occ) f.parts))) w.left_made
        ∙ joined-assoc out e.parts (joined (one_occ arrow_occ) (joined (one_hidden pre_occ) f.parts))
