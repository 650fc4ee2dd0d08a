use Rattle.std.proofs.Common.{◌+◌, ◌++◌, ℕ, List, Option, length, subst}
use Rattle.zl_normal.specs.Table.{IsTable}
use Rattle.zl_normal.specs.Roots.{AreRoots}
use Rattle.zl_normal.specs.Joined.{number_by}
use Rattle.zl_normal.proofs.Joining.{origins_join}
use Rattle.zl_normal.proofs.joined.join.Goals as goal

pub returns : goal.returns
returns c =
    let os = c.args.occs.now in
    let ps = c.args.places.now in
    let links = c.in_ok-links.links.items in
    let found = c.in_ok-found.found.items in
    let occs = c.in_ok-of_occs.of_occs.items in
    let places = c.in_ok-of_places.of_places.items in
    let rooted : AreRoots links found = subst (λ (ls : List (Option ℕ)). AreRoots ls found) c.as_slice.ensures.value c.in_ok-found.ensures in
    let of_occs : IsTable occs (length os) (λ i. number_by (os ++ ps) found (0 + i)) =
    subst (λ (rs : List ℕ). IsTable occs (length os) (λ i. number_by (os ++ ps) rs (0 + i))) c.as_slice-2.ensures.value c.in_ok-of_occs.ensures in
    let by_count : IsTable places (length ps) (λ i. number_by (os ++ ps) found (c.in_ok-count.count + i)) =
    subst (λ (rs : List ℕ). IsTable places (length ps) (λ i. number_by (os ++ ps) rs (c.in_ok-count.count + i))) c.as_slice-3.ensures.value c.in_ok-of_places.ensures in
    let of_places : IsTable places (length ps) (λ i. number_by (os ++ ps) found (length os + i)) =
    subst (λ (n : ℕ). IsTable places (length ps) (λ i. number_by (os ++ ps) found (n + i))) c.in_ok-count.ensures.narrowed by_count in
    origins_join os ps links found occs places c.in_ok-links.ensures rooted of_occs of_places
