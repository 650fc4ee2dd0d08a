-- From which occurrence each has its guard.
use Rattle.std.specs.Prelude.{◌≡◌, ◌||◌, ℕ, Bool, true, false, not, if◌then◌else◌, List, [], ◌∷◌, length, slice_get, slice_set, get_or, Option, Some, None}
use Rattle.zl_meaning.specs.FlatForm.{FlatForm, HasForm, call_of, place_call}
use Rattle.zl_meaning.specs.declared.occurrence.Form.{Form}
use Rattle.zl_meaning.specs.declared.occurrence.Form.TheVariants.{Last as LastOf}
use Rattle.zl_meaning.specs.declared.occurrence.Occ.{Occ}
use Rattle.zl_normal.specs.Roots.{AreRoots}
use Rattle.zl_normal.specs.Table.{IsTable}
use Rattle.zl_normal.specs.Tables.{Tables, is_guarded, is_free}
use Rattle.zl_normal.specs.NumberTables.{KeyTables, wire_number}
use Rattle.zl_normal.specs.declared.key.Key.TheVariants.{Fresh, Guard, Taken}
use Rattle.zl_normal.specs.declared.role.Role.{Role}
use Rattle.zl_normal.specs.declared.role.Role.TheVariants.{Unused, Part, Branch, Both, Definer, Slope, Event, Start, Reset}

-- the occurrence from which one that is used so has its guard
abbrev pub guard_link : FlatForm → ℕ → Role → Option ℕ
guard_link f j Unused = call_of f j
guard_link f j (Part whole) = Some whole
guard_link f j (Definer p) = place_call f p
guard_link f j (Slope p) = place_call f p
guard_link f j (Event p) = place_call f p
guard_link f j role = None

abbrev pub link_by : FlatForm → ℕ → Option Role → Option ℕ
link_by f j None = None
link_by f j (Some role) = guard_link f j role

-- the roots of the guards: an occurrence has the guard of its root
pub record AreGuardRoots (f : FlatForm) (roles : List Role) (found : List ℕ) : Type 0 where
  pub links : List (Option ℕ)
  pub table : IsTable links (length roles) (λ j. link_by f j (slice_get roles j))
  pub roots : AreRoots links found

-- what is used so has a guard of its own
abbrev pub has_guard : Option Role → Bool
has_guard (Some (Branch whole condition side)) = true
has_guard (Some (Both whole condition)) = true
has_guard (Some (Start p)) = true
has_guard (Some (Reset p arm)) = true
has_guard role = false

abbrev pub is_free_root : List Role → List ℕ → ℕ → Bool
is_free_root roles roots j = not (has_guard (slice_get roles (get_or roots j j)))

-- the guard that an occurrence has of its own, by how it is used
abbrev pub own_guard : FlatForm → Tables → KeyTables → List ℕ → ℕ → Option Role → Option ℕ
own_guard f t k values j (Some (Branch whole condition true)) =
    Some (if get_or t.free whole false || is_guarded f t condition then get_or values condition 0 else wire_number k (Guard j))
own_guard f t k values j (Some (Branch whole condition false)) = Some (wire_number k (Guard j))
own_guard f t k values j (Some (Both whole condition)) = Some (wire_number k (Guard j))
own_guard f t k values j (Some (Start p)) = Some (if is_free t (place_call f p) then wire_number k Fresh else wire_number k (Guard j))
own_guard f t k values j (Some (Reset p arm)) = Some (if is_free t (place_call f p) then wire_number k (Taken p arm) else wire_number k (Guard j))
own_guard f t k values j role = None

abbrev pub guard_by_root : FlatForm → Tables → KeyTables → List ℕ → List ℕ → ℕ → Option ℕ
guard_by_root f t k values roots j = own_guard f t k values (get_or roots j j) (slice_get t.roles (get_or roots j j))

-- the places whose `last` is asked for, marked by a form after others
abbrev pub marked_last : Form → List Bool → List Bool
marked_last (LastOf p) marks = slice_set marks p true
marked_last form marks = marks

abbrev pub marked_lasts : List Occ → List Bool → List Bool
marked_lasts [] marks = marks
marked_lasts (occ ∷ occs) marks = marked_lasts occs (marked_last occ.form marks)

-- each place whose `last` is asked for is marked
abbrev pub AreLasts : FlatForm → List Bool → Type 0
AreLasts f lasts = (j p : ℕ) → HasForm f j (LastOf p) → get_or lasts p false ≡ true
