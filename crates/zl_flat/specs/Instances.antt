-- One copy of a declaration's body, and where in it a walk stands.
use Rattle.std.specs.Prelude.{ℕ, Bool, List, [], ◌∷◌, map, Option, Some, None}
use Rattle.zl_value.specs.declared.position.Pos.{Pos}
use Rattle.zl_value.specs.declared.value.Ty.{Ty}
use Rattle.zl_value.specs.declared.value.Ty.TheVariants.{Int}
use Rattle.zl_ast.specs.declared.scope.VarInfo.{VarInfo}
use Rattle.zl_meaning.specs.declared.block.Block.{Block}
use Rattle.zl_meaning.specs.declared.block.BlockKind.{BlockKind}
use Rattle.zl_meaning.specs.declared.place.PlaceInfo.{PlaceInfo}
use Rattle.zl_meaning.specs.declared.occurrence.Form.{Form}
use Rattle.zl_meaning.specs.declared.occurrence.Occ.{Occ}
use Rattle.zl_meaning.specs.declared.occurrence.SiteInfo.{SiteInfo}
use Rattle.zl_flat.specs.declared.variable.Variable.{Variable}
use Rattle.zl_flat.specs.declared.here.Here.{Here}
use Rattle.zl_flat.specs.declared.here.Root.{Root}
use Rattle.zl_flat.specs.Parts.{Parts, Counters, nothing}

-- in the arguments and the copy of a call
abbrev pub in_call : ℕ → Here → Here
in_call call here = record { block = here.block; hybrid = here.hybrid; call = Some call }

-- in a block of its own
abbrev pub in_block : ℕ → Bool → Here → Here
in_block block hybrid here = record { block = block; hybrid = hybrid; call = here.call }

-- ---- what stands here

abbrev pub inner_block : Here → BlockKind → Bool → Block
inner_block here kind hybrid = record { parent = Some here.block; kind = kind; hybrid = hybrid }

-- a place before it has definers
abbrev pub place_here : Here → Ty → ℕ → Pos → PlaceInfo
place_here here ty name at = record { block = here.block; call = here.call; ty = ty; name = name; at = at; definers = [] }

abbrev pub occ_here : Here → Ty → Pos → Form → Occ
occ_here here ty at form = record { block = here.block; call = here.call; ty = ty; at = at; form = form }

abbrev pub site_here : Here → ℕ → Pos → SiteInfo
site_here here arg at = record { block = here.block; arg = arg; at = at }

-- ---- what a walk gives

-- what a call makes and gives: the copy of the called body, and its results
pub record Copy : Type 0 where
  pub parts : Parts
  pub results : List Root

-- A declaration that can be called: its copy here, for these arguments, and with these numbers.
abbrev pub Callee : Type 0
Callee = Here → List Root → Counters → Copy

-- what isn't declared has no copy
abbrev pub callee : Option Callee → Callee
callee None here arguments s = record { parts = nothing; results = [] }
callee (Some c) here arguments s = c here arguments s

-- One copy of a declaration's body: the block in which it stands, the declaration's variables, with their places in the
-- text and in the copy, and the declarations before, by the numbers of their names.
pub record Instance : Type 0 where
  pub block : ℕ
  pub infos : List VarInfo
  pub variables : List Variable
  pub callees : ℕ → Option Callee

-- where the variables of the copy are declared that no `local` declares, whatever block defines them first
abbrev pub in_body : Instance → Here → Here
in_body i here = in_block i.block here.hybrid here

abbrev pub first_root : List Root → Root
first_root [] = record { occ = 0; ty = Int }
first_root (r ∷ rs) = r

abbrev pub root_occs : List Root → List ℕ
root_occs rs = map (λ r. r.occ) rs
