use Rattle.std.proofs.Common.{◌≡◌, ◌-◌, ◌<◌, ◌≤◌, ◌∙◌, true, List, ℕ, Some, slice_get, sym, subst, arith, get_or, length}
use Rattle.std.proofs.lemmas.List.{get_or_default}
use Rattle.zl_grade.specs.Chains.{IsLast}
use Rattle.zl_grade.specs.Equations.{may_rise, with_reader}
use Rattle.zl_grade.specs.Graded.{grading_of}
use Rattle.zl_grade.specs.declared.node.Link.{Link}
use Rattle.zl_grade.specs.declared.node.Node.{Node}
use Rattle.zl_grade.specs.declared.node.Node.TheVariants.{Occ}
use Rattle.zl_grade.proofs.ReaderLaws.{with_kept, next_last, readers_more}
use Rattle.zl_grade.proofs.readers.Readers.add.Goals as goal

pub index-at-requires : goal.index-at-requires
index-at-requires c =
    let h = c.requires.chains.chains.befores in
    let le = c.loop-at.invariant.within in
    omega (arith, h, le)

pub loop-at-preserved : goal.loop-at-preserved
loop-at-preserved c =
    let d : Link = record { from = Occ 0; to = Occ 0 } in
    let links = c.args.self.now.links.now in
    let occs = c.args.self.now.occs.items in
    let places = c.args.self.now.places.items in
    let before = c.args.self.now.before.items in
    let node = c.args.node in
    let at = c.loop-at.at in
    let inv = c.loop-at.invariant in
    let nodes = c.loop-at.nodes.items in
    let chains = c.requires.chains.chains in
    let some : 0 < at = omega arith in
    let inside : at - 1 < length before = omega (arith, some, inv.within, chains.befores) in
    let next : IsLast links (at - 1) node (get_or before (at - 1) 0) = next_last links node at d some inv.within occs places before chains c.requires.within inv.last in
    let read : get_or before (at - 1) 0 ≡ c.index-at.result.now = sym (c.index-at.ensures ∙ get_or_default before (at - 1) c.index-at.result.now 0 inside) in
    let m = c.index-at.result.now in
    let last : IsLast links (at - 1) node m = subst (IsLast links (at - 1) node) read next in
    let g = grading_of c.args.grades.now in
    let grade = c.args.grade in
    let reader = (get_or links (at - 1) d).to in
    let added : with_reader g grade reader nodes ≡ c.add_reader.new.nodes.items = sym c.in_ok-add_reader.ensures in
    record {
      within = omega (arith, last.within, inv.within);
      last = record { within = omega arith; from = last.from; none = λ i one ge less is from. absurd (omega (arith, ge, less)) };
      kept = λ i b is. subst (λ (ns : List Node). slice_get ns i ≡ Some b) added (with_kept g grade reader nodes i b (inv.kept i b is));
      all = subst (λ (ns : List Node). (j : ℕ) (one : Link) → m ≤ j → slice_get links j ≡ Some one → one.from ≡ node → may_rise g one.to grade ≡ true → (i : ℕ) × (slice_get ns i ≡ Some one.to)) added (readers_more links node at d some inv.within g grade m nodes last inv.all);
    }

pub loop-at-smaller : goal.loop-at-smaller
loop-at-smaller c =
    let d : Link = record { from = Occ 0; to = Occ 0 } in
    let links = c.args.self.now.links.now in
    let before = c.args.self.now.before.items in
    let at = c.loop-at.at in
    let inv = c.loop-at.invariant in
    let chains = c.requires.chains.chains in
    let some : 0 < at = omega arith in
    let inside : at - 1 < length before = omega (arith, some, inv.within, chains.befores) in
    let next : IsLast links (at - 1) c.args.node (get_or before (at - 1) 0) = next_last links c.args.node at d some inv.within c.args.self.now.occs.items c.args.self.now.places.items before chains c.requires.within inv.last in
    let read : get_or before (at - 1) 0 ≡ c.index-at.result.now = sym (c.index-at.ensures ∙ get_or_default before (at - 1) c.index-at.result.now 0 inside) in
    omega (arith, next.within, read, some)
