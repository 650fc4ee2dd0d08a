-- Which wires are solved in flows alone: those that are named as slopes, and those that only these read.
use Rattle.std.specs.Prelude.{ℕ, suc, nat_eq, Bool, true, not, ◌&&◌, ◌||◌, List, [], ◌∷◌, ◌++◌, Option, Some, None}
use Rattle.std.specs.List.{list_any}
use Rattle.zl_value.specs.Lists.{among}
use Rattle.zl_value.specs.declared.script.Output.{Output}
use Rattle.zl_kernel.specs.KernelForm.{KernelForm}
use Rattle.zl_kernel.specs.declared.wire.Def.{Def}
use Rattle.zl_kernel.specs.declared.wire.Def.TheVariants.{Lit, Copy, Mem, In, Event, Step, Op as Apply, If}
use Rattle.zl_kernel.specs.declared.wire.Wire.{Wire}
use Rattle.zl_kernel.specs.declared.memory.KMem.{KMem}
use Rattle.zl_kernel.specs.declared.site.KSite.{KSite}

-- the wires from which the value of a wire is made
abbrev pub operands : Def → List ℕ
operands (Lit v) = []
operands (Copy n) = n ∷ []
operands (Mem m) = []
operands (In i) = []
operands (Event s) = []
operands Step = []
operands (Apply op ns) = ns
operands (If c x y) = c ∷ x ∷ y ∷ []

abbrev pub listed_in : Option ℕ → List ℕ
listed_in None = []
listed_in (Some n) = n ∷ []

-- the wires that a wire reads: its guard, and those from which its value is made. It doesn't read its slope
abbrev pub reads : Wire → List ℕ
reads wire = listed_in wire.guard ++ operands wire.def

-- a wire, a memory or a site names wire `n` as its slope
abbrev pub is_slope : KernelForm → ℕ → Bool
is_slope k n =
    list_any (λ (wire : Wire). among n (listed_in wire.slope)) k.wires || list_any (λ (mem : KMem). among n (listed_in mem.slope)) k.mems || list_any (λ (site : KSite). nat_eq site.slope n) k.sites

-- an output, a site, `again` or a memory names wire `n` otherwise
abbrev pub is_kept : KernelForm → ℕ → Bool
is_kept k n =
    list_any (λ (out : Output). nat_eq out.«from» n) k.outs || list_any (λ (site : KSite). nat_eq site.value n || nat_eq site.fresh n) k.sites || nat_eq k.again n || list_any (λ (mem : KMem). nat_eq mem.next n) k.mems

-- one of these wires reads wire `n`
abbrev pub has_reader : ℕ → List Wire → Bool
has_reader n wires = list_any (λ wire. among n (reads wire)) wires

-- those of these wires, of which the first has the number `j`, that read wire `n` are named as slopes
abbrev pub are_slopes : KernelForm → ℕ → ℕ → List Wire → Bool
are_slopes k n j [] = true
are_slopes k n j (wire ∷ wires) = (not (among n (reads wire)) || is_slope k j) && are_slopes k n (suc j) wires

-- wire `n` is named as a slope; or some wire reads it, all that do are named as slopes, and nothing else names it. A wire that
-- nothing reads is solved at instants
unfoldable pub is_of_flows : KernelForm → ℕ → Bool
is_of_flows k n = is_slope k n || (not (is_kept k n) && (has_reader n k.wires && are_slopes k n 0 k.wires))
