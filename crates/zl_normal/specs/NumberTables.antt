-- Numbers of wires and memories by tables.
use Rattle.std.specs.Prelude.{ℕ, ◌+◌, ◌*◌, List, get_or, Option, None}
use Rattle.zl_normal.specs.Wiring.{Wiring}
use Rattle.zl_normal.specs.KernelOf.{Numbers}
use Rattle.zl_normal.specs.declared.key.Key.{Key}
use Rattle.zl_normal.specs.declared.key.Key.TheVariants.{Step, Fresh, No, Zero, Value, Rest, Next, Other, Guard, Place, Between, Taken, Passed, Chosen, Last, Remembered, Again, Present, Slope, Motion}
use Rattle.zl_normal.specs.declared.key.Kept.{Kept}
use Rattle.zl_normal.specs.declared.key.Kept.TheVariants.{First, Before, Moving, Derivative, Pre}

-- numbers of wires by occurrence, seven each, and by place, six each; the first of those that join `again`; numbers of memories
-- by place, three each, and by occurrence
pub record KeyTables : Type 0 where
  pub occs : List ℕ
  pub places : List ℕ
  pub again : ℕ
  pub place_memories : List ℕ
  pub occ_memories : List ℕ

abbrev pub wire_number : KeyTables → Key → ℕ
wire_number t Step = 0
wire_number t Fresh = 1
wire_number t No = 2
wire_number t Zero = 3
wire_number t (Value j) = get_or t.occs (j * 7) 0
wire_number t (Rest j i) = get_or t.occs (j * 7 + 1) 0 + i
wire_number t (Next j) = get_or t.occs (j * 7 + 2) 0
wire_number t (Other j) = get_or t.occs (j * 7 + 3) 0
wire_number t (Guard j) = get_or t.occs (j * 7 + 4) 0
wire_number t (Present j) = get_or t.occs (j * 7 + 5) 0
wire_number t (Slope j) = get_or t.occs (j * 7 + 6) 0
wire_number t (Place p) = get_or t.places (p * 6) 0
wire_number t (Between p) = get_or t.places (p * 6 + 1) 0
wire_number t (Motion p) = get_or t.places (p * 6 + 2) 0
wire_number t (Last p) = get_or t.places (p * 6 + 3) 0
wire_number t (Remembered p) = get_or t.places (p * 6 + 4) 0
wire_number t (Taken p i) = get_or t.places (p * 6 + 5) 0 + i * 3
wire_number t (Passed p i) = get_or t.places (p * 6 + 5) 0 + i * 3 + 1
wire_number t (Chosen p i) = get_or t.places (p * 6 + 5) 0 + i * 3 + 2
wire_number t (Again i) = t.again + i

abbrev pub memory_number : KeyTables → Kept → ℕ
memory_number t First = 0
memory_number t (Before p) = get_or t.place_memories (p * 3) 0
memory_number t (Moving p) = get_or t.place_memories (p * 3 + 1) 0
memory_number t (Derivative p) = get_or t.place_memories (p * 3 + 2) 0
memory_number t (Pre j) = get_or t.occ_memories j 0

-- the wires of occurrences and places by tables
pub record WireTables : Type 0 where
  pub values : List ℕ
  pub guards : List (Option ℕ)
  pub places : List ℕ
  pub slopes : List ℕ
  pub motions : List ℕ

abbrev pub wiring_of : KeyTables → WireTables → Wiring
wiring_of t n = record {
  w = λ j. get_or n.values j 0;
  G = λ j. get_or n.guards j None;
  P = λ p. get_or n.places p 0;
  L = λ p. wire_number t (Last p);
  S = λ j. get_or n.slopes j 0;
  D = λ p. get_or n.motions p 0;
  step = 0;
  fresh = 1;
  first = 0;
  zero = 3;
}

abbrev pub numbers_of : KeyTables → WireTables → Numbers
numbers_of t n = record { wire = wire_number t; memory = memory_number t; wiring = wiring_of t n }
