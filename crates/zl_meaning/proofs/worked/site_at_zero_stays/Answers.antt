use Rattle.std.specs.Prelude.{◌<◌, ◌∷◌, [], ◌≡◌, ℕ, get_or, nat_eq, true, false, ⊤}
use Rattle.std.proofs.Common.{lit<, ap}
use Rattle.zl_meaning.specs.State.{Node, AtControl, AtReset, AtLater, AtEntry, AtRunning, AtStrong, AtWeak, AtPlace, AtUsed, AtValue}
use Rattle.zl_meaning.specs.Reading.{ReadsControl, ReadsReset, ReadsLater, ReadsPlace, ReadsUsed, ReadsValue, Reads, HasNodeRanks}
use Rattle.zl_meaning.proofs.NodeRanks.{numbered}
use Rattle.zl_meaning.proofs.OneTrace.{one_trace}
use Rattle.zl_meaning.proofs.Compute.{computing}
use Rattle.zl_meaning.specs.Worked.SiteAtZero.{form, grades, names, script}
use Rattle.zl_meaning.proofs.Rows.SiteAtZero as SiteAtZeroRow
use Rattle.zl_meaning.proofs.worked.site_at_zero_stays.Goals as goal

abbrev rank : Node → ℕ
rank (AtControl k) = get_or (0 ∷ []) k 0
rank (AtReset k) = get_or (0 ∷ []) k 0
rank (AtLater k) = get_or (0 ∷ []) k 0
rank (AtEntry k) = 0
rank (AtRunning k) = 0
rank (AtStrong k) = 0
rank (AtWeak k) = 0
rank (AtPlace k) = get_or (3 ∷ []) k 0
rank (AtUsed k) = get_or (1 ∷ 1 ∷ 1 ∷ 2 ∷ 1 ∷ 3 ∷ 1 ∷ []) k 0
rank (AtValue k) = get_or (4 ∷ 1 ∷ 1 ∷ 1 ∷ 4 ∷ 1 ∷ 2 ∷ []) k 0

lower : (a : Node) → Reads form (λ b. rank b < rank a) (λ b. ⊤) a
lower (AtControl b) = numbered (λ b block. ReadsControl form (λ c. rank c < rank (AtControl b)) (λ c. ⊤) b block) form.blocks (λ k. tt) ((tt, tt), tt) b
lower (AtReset b) = numbered (λ b block. ReadsReset (λ c. rank c < rank (AtReset b)) (λ c. ⊤) block) form.blocks (λ k. tt) (tt, tt) b
lower (AtLater b) = numbered (λ b block. ReadsLater (λ c. rank c < rank (AtLater b)) block) form.blocks (λ k. tt) (tt, tt) b
lower (AtEntry a) = tt
lower (AtRunning a) = tt
lower (AtStrong a) = tt
lower (AtWeak a) = tt
lower (AtPlace p) = numbered (λ p place. ReadsPlace (λ c. rank c < rank (AtPlace p)) (λ c. ⊤) p place) form.places (λ k. tt) ((lit< tt, tt, ((lit< tt, tt, tt, ((lit< tt, lit< tt), tt)), (lit< tt, tt)), ((lit< tt, lit< tt, tt), tt, (tt, (((lit< tt, lit< tt, tt), lit< tt), tt)))), tt) p
lower (AtUsed k) = numbered (λ k occ. ReadsUsed form (λ c. rank c < rank (AtUsed k)) (λ c. ⊤) k occ) form.occs (λ k. tt) ((lit< tt, tt), ((lit< tt, (tt, tt)), ((lit< tt, ((tt, (lit< tt, lit< tt, tt)), tt)), ((lit< tt, (lit< tt, tt)), ((lit< tt, (tt, tt)), ((lit< tt, ((tt, (lit< tt, tt)), tt)), ((lit< tt, (tt, tt)), tt))))))) k
lower (AtValue k) = numbered (λ k occ. ReadsValue form (λ c. rank c < rank (AtValue k)) (λ c. ⊤) occ) form.occs (λ k. tt) ((lit< tt, lit< tt), ((lit< tt, tt), ((lit< tt, tt), ((lit< tt, (lit< tt, lit< tt, tt)), ((lit< tt, lit< tt), ((lit< tt, tt), ((lit< tt, (lit< tt, tt)), tt))))))) k

ranks : HasNodeRanks form
ranks = record { rank = rank; lower = lower }

pub returns : goal.returns
unfolding computing
returns c = λ wrong.
    let same = one_trace form ranks grades names script _ _ wrong SiteAtZeroRow.row in
    let clash : true ≡ false = ap (λ l. nat_eq (get_or l 17 0) 49) same in
    cc
