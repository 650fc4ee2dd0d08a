-- What a walk along the links of a graph keeps.
use Rattle.std.specs.Prelude.{◌≡◌, ℕ, ◌+◌, ◌*◌, ◌<◌, ◌≤◌, List, [], ◌∷◌, length, take, get_or, slice_get, Some}
use Rattle.zl_graph.specs.Graph.{IsLinked, Reaches, HasNodes}
use Rattle.zl_graph.specs.declared.graph.Link.{Link}
use Rattle.zl_graph.specs.declared.marks.Mark.{Mark}
use Rattle.zl_graph.specs.declared.marks.Mark.TheVariants.{New, Standing, Done}
use Rattle.zl_graph.specs.declared.walk.Part.{Part}

-- the state of a walk: the mark of each node; the stack; what waits; the parts, the last on top; how many parts are done
pub record Stage : Type 0 where
  pub marks : List Mark
  pub stack : List ℕ
  pub waiting : List ℕ
  pub parts : List Part
  pub count : ℕ

-- position `b` lies in the part of position `a`, or further up
abbrev pub IsAsHigh : List Part → ℕ → ℕ → Type 0
IsAsHigh parts a b = (i : ℕ) (part : Part) → slice_get parts i ≡ Some part → part.first ≤ a → part.first ≤ b

-- position `c` of what waits belongs to the part of position `a` of the stack, or further up
abbrev pub WaitsAsHigh : List Part → ℕ → ℕ → Type 0
WaitsAsHigh parts a c = (i : ℕ) (part : Part) → slice_get parts i ≡ Some part → part.first ≤ a → part.waiting ≤ c

-- a link from position `a` to node `w` was followed, or waits
pub data IsFollowed (s : Stage) (a w : ℕ) : Type 0 where
  ToDone : (n : ℕ) → slice_get s.marks w ≡ Some (Done n) → IsFollowed s a w
  ToStack : (b : ℕ) → slice_get s.stack b ≡ Some w → IsAsHigh s.parts a b → IsFollowed s a w
  ToWaiting : (c : ℕ) → slice_get s.waiting c ≡ Some w → WaitsAsHigh s.parts a c → IsFollowed s a w

-- what waits at position `c` is linked from a node on the stack, in the part to which `c` belongs
pub record Waits (links : List Link) (s : Stage) (c w : ℕ) : Type 0 where
  pub position : ℕ
  pub node : ℕ
  pub stands : slice_get s.stack position ≡ Some node
  pub linked : IsLinked links node w
  pub up : (i : ℕ) (part : Part) → slice_get s.parts i ≡ Some part → part.waiting ≤ c → part.first ≤ position
  pub down : WaitsAsHigh s.parts position c

-- a link leads to `w` from the part on top
pub record IsNext (links : List Link) (s : Stage) (w : ℕ) : Type 0 where
  pub position : ℕ
  pub node : ℕ
  pub stands : slice_get s.stack position ≡ Some node
  pub linked : IsLinked links node w
  pub top : (i : ℕ) (part : Part) → slice_get s.parts i ≡ Some part → part.first ≤ position

pub record IsWalk (links : List Link) (s : Stage) : Type 0 where
  pub nodes : HasNodes links (length s.marks)
  pub marked : (a v : ℕ) → slice_get s.stack a ≡ Some v → slice_get s.marks v ≡ Some (Standing a)
  pub stands : (v a : ℕ) → slice_get s.marks v ≡ Some (Standing a) → slice_get s.stack a ≡ Some v
  -- parts that are done have numbers below the count; links from them lead to such parts, to no greater number; nodes of
  -- one number reach each other
  pub below : (v n : ℕ) → slice_get s.marks v ≡ Some (Done n) → n < s.count
  pub fall : (v w n : ℕ) → slice_get s.marks v ≡ Some (Done n) → IsLinked links v w → (m : ℕ) × (slice_get s.marks w ≡ Some (Done m)) × (m ≤ n)
  pub joined : (v w n : ℕ) → slice_get s.marks v ≡ Some (Done n) → slice_get s.marks w ≡ Some (Done n) → Reaches links v w
  -- each link from the stack was followed, or waits; and what waits is linked from there
  pub followed : (a v w : ℕ) → slice_get s.stack a ≡ Some v → IsLinked links v w → IsFollowed s a w
  pub waits : (c w : ℕ) → slice_get s.waiting c ≡ Some w → Waits links s c w
  -- nodes of the stack reach those of their part, and of each further up
  pub reach : (a b v w : ℕ) → slice_get s.stack a ≡ Some v → slice_get s.stack b ≡ Some w → IsAsHigh s.parts a b → Reaches links v w
  -- the parts lie in order, the first one at the bottom
  pub order : (i j : ℕ) (p q : Part) → slice_get s.parts i ≡ Some p → slice_get s.parts j ≡ Some q → i < j → (p.first < q.first) × (p.waiting ≤ q.waiting)
  pub bounds : (i : ℕ) (p : Part) → slice_get s.parts i ≡ Some p → (p.first < length s.stack) × (p.waiting ≤ length s.waiting)
  pub floor : (p : Part) → slice_get s.parts 0 ≡ Some p → p.first ≡ 0
  pub empty : length s.parts ≡ 0 → length s.stack ≡ 0

-- the mark of a node after what stands from position `first` on was closed as part number `count`
abbrev pub IsClosedMark : ℕ → ℕ → Mark → Mark → Type 0
IsClosedMark first count New new = new ≡ New
IsClosedMark first count (Standing a) new = (a < first → new ≡ Standing a) × (first ≤ a → new ≡ Done count)
IsClosedMark first count (Done n) new = new ≡ Done n

pub record AreClosed (first count : ℕ) (old new : List Mark) : Type 0 where
  pub nodes : length new ≡ length old
  pub each : (v : ℕ) (mark other : Mark) → slice_get old v ≡ Some mark → slice_get new v ≡ Some other → IsClosedMark first count mark other

-- how many nodes are new
abbrev pub one_if_new : Mark → ℕ
one_if_new New = 1
one_if_new (Standing a) = 0
one_if_new (Done n) = 0

abbrev pub new_count : List Mark → ℕ
new_count [] = 0
new_count (mark ∷ marks) = one_if_new mark + new_count marks

-- the work that is left
abbrev pub work : List Link → Stage → ℕ
work links s = (length links + 2) * new_count s.marks + length s.waiting + length s.parts

-- no node is new again
pub record NoneIsNew (old new : List Mark) : Type 0 where
  pub nodes : length new ≡ length old
  pub none : (v : ℕ) → slice_get new v ≡ Some New → slice_get old v ≡ Some New

-- one step of a walk: it stays a walk, no node is new again, and less is left
pub record Moves (links : List Link) (old new : Stage) : Type 0 where
  pub walk : IsWalk links new
  pub none : NoneIsNew old.marks new.marks
  pub less : work links new < work links old

-- a walk has nothing on its stack
pub record IsAtRest (links : List Link) (s : Stage) : Type 0 where
  pub walk : IsWalk links s
  pub rest : length s.parts ≡ 0

-- a walk went from a node to all that it reaches
pub record Visits (links : List Link) (v : ℕ) (old new : Stage) : Type 0 where
  pub walk : IsAtRest links new
  pub none : NoneIsNew old.marks new.marks
  pub met : slice_get new.marks v ≡ Some New → ⊥

-- the last of the parts, and nothing waits from it
pub record IsOver (s : Stage) : Type 0 where
  pub number : ℕ
  pub part : Part
  pub is : slice_get s.parts number ≡ Some part
  pub last : length s.parts ≡ number + 1
  pub over : length s.waiting ≡ part.waiting

-- what stands on the stack is marked so, and nothing else
pub record AreMarked (stack : List ℕ) (marks : List Mark) : Type 0 where
  pub marked : (a v : ℕ) → slice_get stack a ≡ Some v → slice_get marks v ≡ Some (Standing a)
  pub stands : (v a : ℕ) → slice_get marks v ≡ Some (Standing a) → slice_get stack a ≡ Some v

-- the last parts are away, which begin above this position; the last that is left doesn't
pub record IsLowered (position : ℕ) (old new : List Part) : Type 0 where
  pub number : ℕ
  pub within : number < length old
  pub is : new ≡ take (number + 1) old
  pub above : (i : ℕ) (p : Part) → number < i → slice_get old i ≡ Some p → position < p.first
  pub low : (p : Part) → slice_get old number ≡ Some p → p.first ≤ position

-- the numbers of the parts, node by node
pub record AreNumbers (marks : List Mark) (numbers : List ℕ) : Type 0 where
  pub size : length numbers ≡ length marks
  pub each : (v n : ℕ) → slice_get marks v ≡ Some (Done n) → get_or numbers v 0 ≡ n
