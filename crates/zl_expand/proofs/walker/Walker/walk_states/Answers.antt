use Rattle.std.proofs.Common.{rules, ◌≡◌, ◌+◌, ◌<◌, length, map, sym, ap, subst, arith}
use Rattle.std.proofs.lemmas.List.{length-map}
use Rattle.zl_ast.specs.declared.eqn.State.{out-State}
use Rattle.zl_flat.specs.Equations.{states_made, one_state_walk}
use Rattle.zl_expand.specs.Kept.{counters, instance_in, names_in}
use Rattle.zl_expand.specs.Room.{HasRoom}
use Rattle.zl_expand.proofs.RoomCounts.{states-counted}
use Rattle.zl_expand.proofs.RoomLaws.{room-first, room-turn}
use Rattle.zl_expand.proofs.walker.Walker.walk_states.Goals as goal

pub walk_state-requires-clause-room : goal.walk_state-requires-clause-room
walk_state-requires-clause-room g c =
    let j = c.args.instance.now in
    let base = j.base in
    let names = names_in j in
    let i = instance_in j in
    let here = c.args.here in
    let depth = c.args.self.now.depth + 1 in
    let out = c.loop-state.out in
    let ids = map (λ s. (out-State s).name.id) c.args.states.now in
    let named : c.in_ok-names.names ≡ ids = c.in_ok-names.ensures in
    let all = room-turn depth base (λ ys. (states_made (map (one_state_walk base names i) ys) c.args.of c.loop-state.state_number ids here (counters out)).parts) c.args.states.now c.loop-state.state-index c.state-item.result c.args.out.now out _ (search rules) (search rules) c.loop-state.invariant.0 c.loop-state.invariant.2 c.requires.room in
    subst (λ ns. HasRoom depth base out ((one_state_walk base names i c.state-item.result).walk c.args.of c.loop-state.state_number ns here (counters out)).parts) (sym named) (room-first depth base out _ _ all)

pub walk_state-requires-clause-named : goal.walk_state-requires-clause-named
walk_state-requires-clause-named g c =
    let j = c.args.instance.now in
    let base = j.base in
    let names = names_in j in
    let i = instance_in j in
    let here = c.args.here in
    let ids = map (λ s. (out-State s).name.id) c.args.states.now in
    let named : length c.in_ok-names.names ≡ length ids = ap length c.in_ok-names.ensures in
    let same = length-map c.args.states.now (λ s. (out-State s).name.id) in
    let few = states-counted base names i c.args.states.now c.args.of 0 ids here (counters c.args.out.now) in
    let room = c.requires.room in
    omega (arith, named, same, few, room)

pub overflow_add-state_number : goal.overflow_add-state_number
overflow_add-state_number g c =
    let j = c.args.instance.now in
    let base = j.base in
    let names = names_in j in
    let i = instance_in j in
    let here = c.args.here in
    let ids = map (λ s. (out-State s).name.id) c.args.states.now in
    let lt : c.loop-state.state-index < length c.args.states.now = search rules in
    let is : c.loop-state.state_number ≡ c.loop-state.state-index = c.loop-state.invariant.3 in
    let few = states-counted base names i c.args.states.now c.args.of 0 ids here (counters c.args.out.now) in
    let room = c.requires.room in
    omega (arith, lt, is, few, room)
