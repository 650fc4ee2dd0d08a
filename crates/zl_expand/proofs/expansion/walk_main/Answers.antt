use Rattle.std.proofs.Common.{rules, ◌≡◌, map, length, None, refl, ap, ◌∙◌, arith}
use Rattle.zl_value.specs.Lists.{listed}
use Rattle.zl_ast.specs.NamesRules.{is_hybrid}
use Rattle.zl_meaning.specs.declared.block.BlockKind.TheVariants.{Main}
use Rattle.zl_expand.specs.declared.instance.Instance.{Instance as TheInstance}
use Rattle.zl_flat.specs.declared.here.Here.{Here}
use Rattle.zl_flat.specs.Parts.{joined, nothing, one_block, some_places, some_definers}
use Rattle.zl_flat.specs.Numbering.{decl_numbering}
use Rattle.zl_flat.specs.Expansion.{input_definers, param_place, result_places}
use Rattle.zl_expand.specs.KeptDecls.{infos_in, known_in}
use Rattle.zl_expand.proofs.RoomLaws.{room_laws}
use Rattle.zl_expand.specs.Kept.{counters, instance_in, inside_in}
use Rattle.zl_expand.proofs.ExpandLemmas.{params-in, rest-room, main-made, main-formed, same-form}
use Rattle.zl_expand.proofs.expansion.walk_main.Goals as goal

pub returns : goal.returns
returns c =
    let k = c.args.known.now in
    let d = c.args.decl.now in
    let i : TheInstance = record { known = c.args.known; own = c.as_slice.result; base = c.args.base; block = 0 } in
    let here : Here = record { block = 0; hybrid = c.is_hybrid-hybrid.result; call = None } in
    let own : c.as_slice.result.now ≡ (decl_numbering (infos_in c.args.known.now) (known_in c.args.known.now) c.args.decl.now 0).own = search rules in
    let hybrid : c.is_hybrid-hybrid.result ≡ is_hybrid c.args.decl.now.kind = search rules in
    let block : c.add_block.new.self ≡ joined nothing (one_block (record { parent = None; kind = Main; hybrid = c.is_hybrid-hybrid.result })) = search rules in
    let its_params : c.as_slice-2.result.now ≡ c.args.decl.now.params = search rules in
    let its_results : c.as_slice-4.result.now ≡ c.args.decl.now.results = search rules in
    let params : c.add_params.new.out ≡ joined c.add_block.new.self (some_places (map (param_place (instance_in i) here) d.params)) = c.in_ok-add_params.ensures ∙ ap (λ ps. joined c.add_block.new.self (some_places (map (param_place (instance_in i) here) ps))) its_params in
    let inputs : c.add_inputs.new.out ≡ joined c.add_params.new.out (some_definers (input_definers 0 d.params)) = search rules in
    let body : c.walk_body.new.out ≡ joined c.add_inputs.new.out (inside_in i d here (counters c.add_inputs.new.out)).parts = search rules in
    let ins : c.in_ok-ins.ins.items ≡ listed (length d.params) 0 (λ n. n) = search rules in
    let outs : c.in_ok-outs.outs.items ≡ result_places (instance_in i).variables d.results = c.in_ok-outs.ensures ∙ ap (λ rs. result_places (instance_in i).variables rs) its_results in
    let made = main-made i d c.is_hybrid-hybrid.result c.add_block.new.self c.add_params.new.out c.add_inputs.new.out c.walk_body.new.out refl own hybrid block params inputs body in
    same-form c.make_tables.result _ _ (main-formed i d c.walk_body.new.out c.in_ok-ins.ins.items c.in_ok-outs.outs.items refl own made ins outs) c.make_tables.ensures

pub add_block-requires : goal.add_block-requires
add_block-requires c = let room = c.requires.room in grind (arith, room_laws)

pub add_inputs-requires : goal.add_inputs-requires
add_inputs-requires c =
    let d = c.args.decl.now in
    let their_params : c.as_slice-3.result.now ≡ d.params = search rules in
    let few = params-in c.args.known.now d c.args.base in
    let same = ap length their_params in
    let room = c.requires.room in
    omega (arith, few, same, room)

pub walk_body-requires : goal.walk_body-requires
walk_body-requires c =
    let k = c.args.known.now in
    let d = c.args.decl.now in
    let i : TheInstance = record { known = c.args.known; own = c.as_slice.result; base = c.args.base; block = 0 } in
    let here : Here = record { block = 0; hybrid = c.is_hybrid-hybrid.result; call = None } in
    let own : c.as_slice.result.now ≡ (decl_numbering (infos_in c.args.known.now) (known_in c.args.known.now) c.args.decl.now 0).own = search rules in
    let hybrid : c.is_hybrid-hybrid.result ≡ is_hybrid c.args.decl.now.kind = search rules in
    let block : c.add_block.new.self ≡ joined nothing (one_block (record { parent = None; kind = Main; hybrid = c.is_hybrid-hybrid.result })) = search rules in
    let its_params : c.as_slice-2.result.now ≡ c.args.decl.now.params = search rules in
    let params : c.add_params.new.out ≡ joined c.add_block.new.self (some_places (map (param_place (instance_in i) here) d.params)) = c.in_ok-add_params.ensures ∙ ap (λ ps. joined c.add_block.new.self (some_places (map (param_place (instance_in i) here) ps))) its_params in
    let inputs : c.add_inputs.new.out ≡ joined c.add_params.new.out (some_definers (input_definers 0 d.params)) = search rules in
    let o3 = c.add_inputs.new.out in
    let same = main-made i d c.is_hybrid-hybrid.result c.add_block.new.self c.add_params.new.out o3 (joined o3 (inside_in i d here (counters o3)).parts) refl own hybrid block params inputs refl in
    rest-room 2 c.args.base o3 (inside_in i d here (counters o3)).parts _ same c.requires.room
