use Rattle.std.proofs.Common.{rules, ◌≡◌, ◌+◌, map, refl, sym, ap, ◌∙◌, subst}
use Rattle.zl_ast.specs.declared.eqn.State.{out-State}
use Rattle.zl_flat.specs.Parts.{joined, one_block}
use Rattle.zl_flat.specs.Equations.{moves_made, move_walk, body_walk, one_state_walk}
use Rattle.zl_expand.specs.Kept.{counters, instance_in, names_in}
use Rattle.zl_flat.proofs.EqnSteps.{make-state_walk}
use Rattle.zl_expand.proofs.StateLemmas.{block-room, moves-room, state-parts, state-moves, on-ok, if-ok}
use Rattle.zl_flat.specs.Instances.{in_block}
use Rattle.zl_expand.specs.Room.{HasRoom}
use Rattle.zl_expand.proofs.walker.Walker.walk_state.Goals as goal

pub returns-clause-made : goal.returns-clause-made
returns-clause-made g c =
    let j = c.args.instance.now in
    let base = j.base in
    let names = names_in j in
    let i = instance_in j in
    let state = out-State c.args.state.now in
    let here = c.args.here in
    let out = c.args.out.now in
    let o2 = c.add_block-2.new.self in
    let o3 = c.walk_block.new.out in
    let of = c.args.among.automaton in
    let number = c.args.among.state in
    let ids = c.args.among.names.now in
    let same_moves : c.as_slice-moves.result.now ≡ state.moves = search rules in
    let made = state-parts base names i here (body_walk base names i state.body) (map (move_walk base names i) state.moves) number c.in_ok-guard.guard c.in_ok-body.body ids out c.add_block.new.self o2 o3 of (record {
      guard_is = c.in_ok-guard.ensures.number;
      with_guard = c.in_ok-guard.ensures.made ∙ ap (λ x. joined out (one_block x)) c.inner_block.ensures;
      body_is = c.in_ok-body.ensures.number;
      with_body = c.in_ok-body.ensures.made ∙ ap (λ x. joined c.add_block.new.self (one_block x)) c.inner_block-2.ensures;
      inside = c.in_ok-walk_block.ensures ∙ ap (λ h. joined o2 (body_walk base names i state.body h (counters o2))) c.in_block-inside.ensures;
    }) in
    on-ok c.walk_moves.result
    (c.walk_moves.new.out ≡ joined o3 (moves_made base names i (map (move_walk base names i) c.as_slice-moves.result.now) c.in_ok-guard.guard c.in_ok-body.body ids here (counters o3)).parts)
    (c.walk_moves.new.out ≡ joined out ((one_state_walk base names i c.args.state.now).walk of number ids c.args.here (counters out)).parts)
    (λ q.
    q
    ∙ ap (λ m. joined o3 (moves_made base names i (map (move_walk base names i) m) c.in_ok-guard.guard c.in_ok-body.body ids here (counters o3)).parts) same_moves
    ∙ made
    ∙ ap (λ r. joined out r.parts) (sym (make-state_walk base names i here (counters out) c.args.state.now of number ids)))
    c.walk_moves.ensures.made

pub returns-clause-moves : goal.returns-clause-moves
returns-clause-moves g c =
    let j = c.args.instance.now in
    let base = j.base in
    let names = names_in j in
    let i = instance_in j in
    let state = out-State c.args.state.now in
    let here = c.args.here in
    let out = c.args.out.now in
    let o2 = c.add_block-2.new.self in
    let o3 = c.walk_block.new.out in
    let of = c.args.among.automaton in
    let number = c.args.among.state in
    let ids = c.args.among.names.now in
    let same_moves : c.as_slice-moves.result.now ≡ state.moves = search rules in
    let made = state-moves base names i here (body_walk base names i state.body) (map (move_walk base names i) state.moves) number c.in_ok-guard.guard c.in_ok-body.body ids out c.add_block.new.self o2 o3 of (record {
      guard_is = c.in_ok-guard.ensures.number;
      with_guard = c.in_ok-guard.ensures.made ∙ ap (λ x. joined out (one_block x)) c.inner_block.ensures;
      body_is = c.in_ok-body.ensures.number;
      with_body = c.in_ok-body.ensures.made ∙ ap (λ x. joined c.add_block.new.self (one_block x)) c.inner_block-2.ensures;
      inside = c.in_ok-walk_block.ensures ∙ ap (λ h. joined o2 (body_walk base names i state.body h (counters o2))) c.in_block-inside.ensures;
    }) in
    if-ok c.walk_moves.result
    (λ m. m.items ≡ (moves_made base names i (map (move_walk base names i) c.as_slice-moves.result.now) c.in_ok-guard.guard c.in_ok-body.body ids here (counters o3)).moves)
    (λ m. m.items ≡ ((one_state_walk base names i c.args.state.now).walk of number ids c.args.here (counters out)).moves)
    (λ m q.
    q
    ∙ ap (λ ms. (moves_made base names i (map (move_walk base names i) ms) c.in_ok-guard.guard c.in_ok-body.body ids here (counters o3)).moves) same_moves
    ∙ made
    ∙ ap (λ r. r.moves) (sym (make-state_walk base names i here (counters out) c.args.state.now of number ids)))
    c.walk_moves.ensures.moves

pub walk_block-requires-clause-room : goal.walk_block-requires-clause-room
walk_block-requires-clause-room g c =
    let j = c.args.instance.now in
    let base = j.base in
    let names = names_in j in
    let i = instance_in j in
    let state = out-State c.args.state.now in
    let here = c.args.here in
    let out = c.args.out.now in
    let o2 = c.add_block-2.new.self in
    let of = c.args.among.automaton in
    let number = c.args.among.state in
    let ids = c.args.among.names.now in
    let body = body_walk base names i state.body in
    let o3 = joined o2 (body (in_block c.in_ok-body.body here.hybrid here) (counters o2)) in
    let room = subst (HasRoom (c.args.self.now.depth + 1) base out) (ap (λ r. r.parts) (make-state_walk base names i here (counters out) c.args.state.now of number ids)) c.requires.room in
    let fits = block-room base names i here body (map (move_walk base names i) state.moves) number c.in_ok-guard.guard c.in_ok-body.body ids out c.add_block.new.self o2 o3 of (record {
      guard_is = c.in_ok-guard.ensures.number;
      with_guard = c.in_ok-guard.ensures.made ∙ ap (λ x. joined out (one_block x)) c.inner_block.ensures;
      body_is = c.in_ok-body.ensures.number;
      with_body = c.in_ok-body.ensures.made ∙ ap (λ x. joined c.add_block.new.self (one_block x)) c.inner_block-2.ensures;
      inside = refl;
    }) c.args.self.now.depth base room in
    subst (λ h. HasRoom (c.args.self.now.depth + 2) base o2 (body h (counters o2))) (sym c.in_block-inside.ensures) fits

pub walk_moves-requires-clause-room : goal.walk_moves-requires-clause-room
walk_moves-requires-clause-room g c =
    let j = c.args.instance.now in
    let base = j.base in
    let names = names_in j in
    let i = instance_in j in
    let state = out-State c.args.state.now in
    let here = c.args.here in
    let out = c.args.out.now in
    let o2 = c.add_block-2.new.self in
    let o3 = c.walk_block.new.out in
    let of = c.args.among.automaton in
    let number = c.args.among.state in
    let ids = c.args.among.names.now in
    let same_moves : c.as_slice-moves.result.now ≡ state.moves = search rules in
    let room = subst (HasRoom (c.args.self.now.depth + 1) base out) (ap (λ r. r.parts) (make-state_walk base names i here (counters out) c.args.state.now of number ids)) c.requires.room in
    let fits = moves-room base names i here (body_walk base names i state.body) (map (move_walk base names i) state.moves) number c.in_ok-guard.guard c.in_ok-body.body ids out c.add_block.new.self o2 o3 of (record {
      guard_is = c.in_ok-guard.ensures.number;
      with_guard = c.in_ok-guard.ensures.made ∙ ap (λ x. joined out (one_block x)) c.inner_block.ensures;
      body_is = c.in_ok-body.ensures.number;
      with_body = c.in_ok-body.ensures.made ∙ ap (λ x. joined c.add_block.new.self (one_block x)) c.inner_block-2.ensures;
      inside = c.in_ok-walk_block.ensures ∙ ap (λ h. joined o2 (body_walk base names i state.body h (counters o2))) c.in_block-inside.ensures;
    }) c.args.self.now.depth base room in
    subst (λ ms. HasRoom (c.args.self.now.depth + 1) base o3 (moves_made base names i (map (move_walk base names i) ms) c.in_ok-guard.guard c.in_ok-body.body ids here (counters o3)).parts) (sym same_moves) fits
